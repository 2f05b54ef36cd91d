-- A call, and the copy of the function in its place.
use Rattle.std.proofs.Common.{◌≡◌, ℕ, suc, ◌+◌, ◌<◌, ◌≤◌, ◌⊎◌, inl, inr, Bool, true, false, cond, List, [], ◌∷◌, ◌++◌, map, Option, Some, None, option_map, refl, sym, ap}
use Rattle.std.proofs.Common.{◌∙◌, subst, arith, nat_eq, nat_lt, length, append_assoc}
use Rattle.std.specs.Prelude.{ℤ, pos, if◌then◌else◌}
use Rattle.std.specs.Option.{option_or}
use Rattle.pc_word.proofs.Truth.{less_of, and_true}
use Rattle.pc_syntax.specs.Source.{SourceExpression, ScalarDeclaration, SourceList, appended}
use Rattle.pc_check.specs.declared.slot.Slot.{Slot}
use Rattle.pc_check.specs.declared.slot.Slot.TheVariants as slot
use Rattle.pc_check.specs.Names as names
use Rattle.pc_check.specs.Names.{Names, declared_in, found_in, found, entered, left, with_scalar}
use Rattle.pc_check.specs.Faults.{scalar_use, expression_faults, scalar_faults, depth_faults, assignment_faults, statement_faults, list_faults, names_behind, names_behind_list}
use Rattle.pc_check.specs.Needs.{optional_need, assignment_need, need}
use Rattle.pc_check.specs.Resolution.{slot_number, resolved_expression, resolved_statement, resolved_list}
use Rattle.pc_meaning.specs.ProgramState.{ProgramState, set_scalar}
use Rattle.pc_meaning.specs.Expression.{Evaluated, Given, eval}
use Rattle.pc_meaning.specs.Statement.{Completion, GoesOn, do_with, then_do, assign, execute_list}
use Rattle.pc_syntax.specs.declared.unit.Target.{Target}
use Rattle.pc_syntax.specs.declared.unit.Param.{Param}
use Rattle.pc_calls.specs.UnitNames.{with_parameters}
use Rattle.pc_calls.specs.CallRun.{Callee, value_at, with_scalars, framed, called, with_arguments, to_target}
use Rattle.pc_calls.specs.Inline.{copied, renamed, Copy, parameters_list, result_or_zero, result_list}
use Rattle.pc_syntax.specs.Proper.{all_below, target_is_below}
use Rattle.pc_calls.proofs.Matching.{Relation, SameEnd, goes, breaks, continues, returns, traps, spends, Simulates, SameValue, then_do-same, do_with-simulates}
use Rattle.pc_calls.proofs.Values.{none_front, none_rest, Reads, expression-same}
use Rattle.pc_calls.proofs.Standing.{Arrays, arrays, Apart, scopes, image, Stands, found-faces, declared-more, found_in-known}
use Rattle.pc_calls.proofs.Agreement.{Agrees, scalar-read, array-read, written-by, agrees-set, ne_made, eq_made}
use Rattle.pc_calls.proofs.AppendedLists.{slots_list-grow, outer_list-kept, names-appended, faults-appended, resolved-appended, execute-appended, do_with-then}

-- nothing is left or goes on to its next turn
abbrev pub Never : Relation
Never g f = ⊥

pub unjumped : {R J : Relation} {x y : Completion} → SameEnd R Never x y → SameEnd R J x y
unjumped (goes a f r) = goes a f r
unjumped (breaks a f j) = absurd j
unjumped (continues a f j) = absurd j
unjumped (returns a f) = returns a f
unjumped (traps kind line a f) = traps kind line a f
unjumped (spends a f) = spends a f

-- the same function by another name
pub replaced : {R R' J : Relation} (F G G' : ProgramState → Completion) → Simulates R R' J F G → ((s : ProgramState) → G s ≡ G' s) → Simulates R R' J F G'
replaced {R' = R'} {J = J} F G G' sim same = record { same = λ a f r. subst (λ (y : Completion). SameEnd R' J (F a) y) (same (with_scalars f a)) (sim.same a f r) }

-- ---- values in slots in a row

abbrev pub Holds : ℕ → List ℤ → (ℕ → ℤ) → Type 0
Holds start [] f = Unit {0}
Holds start (v ∷ others) f = (f start ≡ v) × Holds (suc start) others f

-- one more value
holds-snoc : (start at : ℕ) (front : List ℤ) (v : ℤ) (f : ℕ → ℤ) → at ≡ start + length front → Holds start front f → f at ≡ v → Holds start (front ++ v ∷ []) f
holds-snoc start at [] v f is held now = (ap f (let e : start ≡ at = omega (arith, is) in e) ∙ now, tt)
holds-snoc start at (w ∷ front) v f is held now = (held.0, holds-snoc (suc start) at front v f (omega (arith, is)) held.1 now)

-- a write after them
holds-set : (start at : ℕ) (front : List ℤ) (v : ℤ) (f : ℕ → ℤ) → start + length front ≤ at → Holds start front f → Holds start front (λ x. if nat_eq at x then v else f x)
holds-set start at [] v f less held = tt
holds-set start at (w ∷ front) v f less held =
    let apart : nat_eq at start ≡ false = ne_made at start (λ e. omega (arith, less, e)) in
    (ap (λ (c : Bool). if c then v else f start) apart ∙ held.0, holds-set (suc start) at front v f (omega (arith, less)) held.1)

holds-shifted : (start : ℕ) (vs : List ℤ) (g : ℕ → ℤ) → Holds start vs (λ i. g (suc i)) → Holds (suc start) vs g
holds-shifted start [] g held = tt
holds-shifted start (v ∷ vs) g held = (held.0, holds-shifted (suc start) vs g held.1)

pub holds-value_at : (vs : List ℤ) → Holds 0 vs (value_at vs)
holds-value_at [] = tt
holds-value_at (v ∷ vs) = (refl, holds-shifted 0 vs (value_at (v ∷ vs)) (holds-value_at vs))

append_none : (vs : List ℤ) → vs ++ [] ≡ vs
append_none [] = refl
append_none (v ∷ vs) = ap (λ (l : List ℤ). v ∷ l) (append_none vs)

-- ---- what a call finds

-- the parameters of a copy are no names of the caller
abbrev pub Strange : ℕ → ℕ → List Param → Type 0
Strange base depth [] = Unit {0}
Strange base depth (p ∷ others) = ((x : ℕ) → x < base → nat_eq (copied base depth x) p.symbol ≡ false) × Strange base depth others

-- where the parameters of a copy have their values: the caller's slots are as they were
abbrev pub Entry : ℕ → Names → (ℕ → ℤ) → List ℤ → Relation
Entry top m saved values g f = (g ≡ value_at values) × Holds m.scalars values f × ((j : ℕ) → j < m.scalars → f j ≡ saved j) × ((j : ℕ) → top ≤ j → f j ≡ saved j)

-- what a function does on scalars of its own, against its copy after the names `m` of the caller, with these values
pub record Behaves (lengths : List ℕ) (callee : Callee) (copy : Copy) (m : Names) (saved : ℕ → ℤ) (values : List ℤ) : Type 1 where
  pub exit : Relation
  pub runs : Simulates (Entry (names_behind_list copy.items (with_parameters copy.parameters (entered m))).scalars m saved values) exit Never callee.runs
      (execute_list lengths (resolved_list copy.items (with_parameters copy.parameters (entered m))))
  pub answers : SameValue exit callee.answers
      (eval lengths (resolved_expression (names_behind_list copy.items (with_parameters copy.parameters (entered m))) (result_or_zero copy.result)))
  pub keeps : (g f : ℕ → ℤ) → exit g f → (j : ℕ) → j < m.scalars → f j ≡ saved j
  pub keeps_above : (g f : ℕ → ℤ) → exit g f → (j : ℕ) → (names_behind_list copy.items (with_parameters copy.parameters (entered m))).scalars ≤ j → f j ≡ saved j

-- what is known of the names after a copy, and what it does
pub record Copies (lengths : List ℕ) (base depth : ℕ) (callee : Callee) (copy : Copy) (m : Names) : Type 1 where
  pub own : (e x : ℕ) → Apart e (suc depth) → x < base →
      declared_in (names_behind_list copy.items (with_parameters copy.parameters (entered m))).innermost (copied base e x) ≡ None
  pub grown : m.scalars ≤ (names_behind_list copy.items (with_parameters copy.parameters (entered m))).scalars
  pub arrays_kept : arrays (names_behind_list copy.items (with_parameters copy.parameters (entered m))) ≡ arrays m
  pub behaves : (saved : ℕ → ℤ) (values : List ℤ) → length values ≡ length copy.parameters → Behaves lengths callee copy m saved values

-- the result of a copy has no fault
abbrev pub ResultClean : Copy → Names → Type 0
ResultClean copy m = expression_faults (names_behind_list copy.items (with_parameters copy.parameters (entered m))) (result_or_zero copy.result) ≡ []

-- a function of the source, and its copy
pub record Stood (lengths : List ℕ) (base depth count : ℕ) (callee : Callee) (copy : Copy) : Type 1 where
  pub as_many : length copy.parameters ≡ count
  pub strange : Strange base depth copy.parameters
  pub idle : copy.result ≡ None → (t : ProgramState) → callee.answers t ≡ Given (pos 0) t
  pub copies : (in_loop : Bool) (m : Names) → ((e x : ℕ) → depth < e → x < base → found m (copied base e x) ≡ None) →
      list_faults in_loop copy.items (with_parameters copy.parameters (entered m)) ≡ [] → ResultClean copy m → Copies lengths base depth callee copy m

-- what is never so, and what is always so
pub data Never_stands : Type 1 where

pub data Always_stands : Type 1 where
  stands_anyway : Always_stands

-- what stands for a name, if it may be called
abbrev pub Known : List ℕ → ℕ → ℕ → Option ℕ → Option Callee → Option Copy → Type 1
Known lengths base depth (Some count) (Some callee) (Some copy) = Stood lengths base depth count callee copy
Known lengths base depth (Some count) (Some callee) None = Never_stands
Known lengths base depth (Some count) None copy = Never_stands
Known lengths base depth None callee copy = Always_stands

-- ---- arguments

names_of-parameters : (ps : List Param) (arguments : List SourceExpression) (m : Names) → length arguments ≡ length ps → names_behind_list (parameters_list ps arguments) m ≡ with_parameters ps m
unfolding names_behind
names_of-parameters [] arguments m same = refl
names_of-parameters (p ∷ ps) [] m same = cc
names_of-parameters (p ∷ ps) (e ∷ arguments) m same = names_of-parameters ps arguments (with_scalar m p.symbol) (omega (arith, same))

parameters-outer : (ps : List Param) (m : Names) → (with_parameters ps m).outer ≡ m.outer
parameters-outer [] m = refl
parameters-outer (p ∷ ps) m = parameters-outer ps (with_scalar m p.symbol)

parameters-scalars : (ps : List Param) (m : Names) → (with_parameters ps m).scalars ≡ m.scalars + length ps
parameters-scalars [] m = omega arith
parameters-scalars (p ∷ ps) m = let e = parameters-scalars ps (with_scalar m p.symbol) in omega (arith, e)

map-length : (r : ℕ → ℕ) (es : List SourceExpression) → length (map (renamed r) es) ≡ length es
map-length r [] = refl
map-length r (e ∷ es) = let more = map-length r es in omega (arith, more)

-- what stands after a copy declares nothing
results-names : (r : ℕ → ℕ) (line : ℕ) (target : Option Target) (result : Option SourceExpression) (m : Names) → names_behind_list (result_list r line target result) m ≡ m
unfolding names_behind
results-names r line None None m = refl
results-names r line None (Some e) m = refl
results-names r line (Some target) result m = refl

-- and where it has no fault, the result has none
results-clean : (r : ℕ → ℕ) (in_loop : Bool) (line : ℕ) (target : Option Target) (result : Option SourceExpression) (m : Names) → list_faults in_loop (result_list r line target result) m ≡ [] →
    expression_faults m (result_or_zero result) ≡ []
unfolding statement_faults expression_faults
results-clean r in_loop line None None m none = refl
results-clean r in_loop line None (Some e) m none = none_rest (depth_faults (need e) line) _ (none_front _ [] none)
results-clean r in_loop line (Some target) result m none =
    let all = none_front (assignment_faults m (r target.symbol) target.line None None (result_or_zero result)) [] none in
    none_rest (depth_faults (assignment_need None None (result_or_zero result)) target.line) _ (none_rest (scalar_use (found m (r target.symbol)) target.line) _ all)

-- the parts of a call's block
record Opened (in_loop : Bool) (copy : Copy) (m : Names) (parameters results : SourceList) : Type 0 where
  names : names_behind_list parameters (entered m) ≡ with_parameters copy.parameters (entered m)
  first : list_faults in_loop parameters (entered m) ≡ []
  inner : list_faults in_loop copy.items (with_parameters copy.parameters (entered m)) ≡ []
  last : list_faults in_loop results (names_behind_list copy.items (with_parameters copy.parameters (entered m))) ≡ []
  inside : names_behind_list (appended parameters (appended copy.items results)) (entered m) ≡ names_behind_list results (names_behind_list copy.items (with_parameters copy.parameters (entered m)))

opened : (in_loop : Bool) (copy : Copy) (m : Names) (arguments : List SourceExpression) (results : SourceList) → length arguments ≡ length copy.parameters →
    list_faults in_loop (appended (parameters_list copy.parameters arguments) (appended copy.items results)) (entered m) ≡ [] →
    Opened in_loop copy m (parameters_list copy.parameters arguments) results
opened in_loop copy m arguments results count none =
    let parameters = parameters_list copy.parameters arguments in
    let after = with_parameters copy.parameters (entered m) in
    let names : names_behind_list parameters (entered m) ≡ after = names_of-parameters copy.parameters arguments (entered m) count in
    let parts = sym (faults-appended in_loop parameters (appended copy.items results) (entered m)) ∙ none in
    let others = subst (λ (z : Names). list_faults in_loop (appended copy.items results) z ≡ []) names (none_rest (list_faults in_loop parameters (entered m)) _ parts) in
    let both = sym (faults-appended in_loop copy.items results after) ∙ others in
    record {
      names = names;
      first = none_front (list_faults in_loop parameters (entered m)) _ parts;
      inner = none_front (list_faults in_loop copy.items after) _ both;
      last = none_rest (list_faults in_loop copy.items after) _ both;
      inside = names-appended parameters (appended copy.items results) (entered m)
          ∙ ap (names_behind_list (appended copy.items results)) names ∙ names-appended copy.items results after;
    }

-- the names after a call's block are those before it, with more slots
pub names-after-block : (lengths : List ℕ) (base depth : ℕ) (in_loop : Bool) (line : ℕ) (target : Option Target) (arguments : List SourceExpression) (copy : Copy) (callee : Callee) (m : Names) →
    ((e x : ℕ) → depth < e → x < base → found m (copied base e x) ≡ None) → Stood lengths base depth (length arguments) callee copy →
    list_faults in_loop (appended (parameters_list copy.parameters (map (renamed (copied base depth)) arguments))
    (appended copy.items (result_list (copied base depth) line target copy.result))) (entered m) ≡ [] →
    (m.scalars ≤ (names_behind_list (appended (parameters_list copy.parameters (map (renamed (copied base depth)) arguments))
    (appended copy.items (result_list (copied base depth) line target copy.result))) (entered m)).scalars)
    × (arrays (names_behind_list (appended (parameters_list copy.parameters (map (renamed (copied base depth)) arguments))
    (appended copy.items (result_list (copied base depth) line target copy.result))) (entered m)) ≡ arrays m)
names-after-block lengths base depth in_loop line target arguments copy callee m clear stood none =
    let es = map (renamed (copied base depth)) arguments in
    let results = result_list (copied base depth) line target copy.result in
    let count : length es ≡ length copy.parameters = (let one = map-length (copied base depth) arguments in let two = stood.as_many in omega (arith, one, two)) in
    let open' = opened in_loop copy m es results count none in
    let ends = names_behind_list copy.items (with_parameters copy.parameters (entered m)) in
    let clean = results-clean (copied base depth) in_loop line target copy.result ends open'.last in
    let sides = stood.copies in_loop m clear open'.inner clean in
    let is = open'.inside ∙ results-names (copied base depth) line target copy.result ends in
    let grown = sides.grown in
    let P : Names → Type 0 = λ z. (m.scalars ≤ z.scalars) × (arrays z ≡ arrays m) in
    subst P (sym is) (grown, sides.arrays_kept)

module _ (base depth : ℕ) (in_function : Bool) (low : ℕ) (saved : ℕ → ℤ) (watch : ℕ → ℕ → Type 0) (high : ℕ) (fixed : Arrays) (lengths : List ℕ) (slots : ℕ → ℕ) (n m : Names)
    (stands : Stands base depth in_function low watch fixed slots n m) (g f : ℕ → ℤ) (agrees : Agrees base depth in_function low saved watch high fixed slots n g f)
    (top : ℕ) (more : m.scalars ≤ top) (room : top ≤ high) (avoid : (i j : ℕ) → watch i j → (j < m.scalars) ⊎ (top ≤ j)) where
  -- while the arguments are evaluated
  abbrev Loading : List ℤ → Relation
  Loading front g' f' = (g' ≡ g) × Holds m.scalars front f' × ((j : ℕ) → j < m.scalars → f' j ≡ f j) × ((j : ℕ) → top ≤ j → f' j ≡ f j)

  -- the caller's scalars are known all the time
  pub still : (f' : ℕ → ℤ) → ((j : ℕ) → j < m.scalars → f' j ≡ f j) → ((j : ℕ) → top ≤ j → f' j ≡ f j) → Agrees base depth in_function low saved watch high fixed slots n g f'
  still f' same over = record {
    live = λ i known. agrees.live i known ∙ sym (same (slots i) (stands.below i known).2);
    kept = λ j less. same j (omega (arith, less, stands.grown)) ∙ agrees.kept j less;
    above = λ j beyond. over j (omega (arith, beyond, room)) ∙ agrees.above j beyond;
    stale = λ i j w. agrees.stale i j w ∙ sym (apart_from j (avoid i j w));
  }
    where
      apart_from : (j : ℕ) → (j < m.scalars) ⊎ (top ≤ j) → f' j ≡ f j
      apart_from j (inl less) = same j less
      apart_from j (inr beyond) = over j beyond

  -- what is found of the caller's names after the parameters so far
  abbrev Faces : Names → Type 0
  Faces k = (x : ℕ) → x < base → found k (copied base depth x) ≡ option_map (image slots) (found n x)

  or_none : (o : Option Slot) → option_or o None ≡ o
  or_none None = refl
  or_none (Some x) = refl

  faces-more : (k : Names) (symbol : ℕ) → ((x : ℕ) → x < base → nat_eq (copied base depth x) symbol ≡ false) → Faces k → Faces (with_scalar k symbol)
  faces-more k symbol strange faces x fits =
      ap (λ (o : Option Slot). option_or o (found_in k.outer (copied base depth x)))
      (declared-more k.innermost symbol (copied base depth x) (slot.Scalar k.scalars)
      ∙ ap (λ (b : Bool). option_or (declared_in k.innermost (copied base depth x)) (cond b (Some (slot.Scalar k.scalars)) None)) (strange x fits)
      ∙ or_none (declared_in k.innermost (copied base depth x)))
      ∙ faces x fits

  reads-faced : (k : Names) → Faces k → (g' f' : ℕ → ℤ) → (g' ≡ g) → ((j : ℕ) → j < m.scalars → f' j ≡ f j) → ((j : ℕ) → top ≤ j → f' j ≡ f j) →
      Reads (λ x. nat_lt x base) (copied base depth) n k g' f'
  reads-faced k faces g' f' is same over =
      let now = still f' same over in
      record {
        scalar = λ x line fits none. scalar-read slots g' f' (found n x) (found k (copied base depth x)) line (faces x (less_of x base fits)) none
            (λ i at. ap (λ (h : ℕ → ℤ). h i) is ∙ now.live i (found_in-known (scopes n) x i at));
        array = λ x line fits none. array-read slots (found n x) (found k (copied base depth x)) line (faces x (less_of x base fits)) none;
      }

  loaded : (front : List ℤ) (k : Names) → k.scalars ≡ m.scalars + length front → k.scalars < top → (v : ℤ) (g' f' : ℕ → ℤ) → Loading front g' f' →
      Loading (front ++ v ∷ []) g' (λ x. if nat_eq k.scalars x then v else f' x)
  loaded front k at under v g' f' is = (
    is.0,
    holds-snoc m.scalars k.scalars front v (λ x. if nat_eq k.scalars x then v else f' x) at
        (holds-set m.scalars k.scalars front v f' (omega (arith, at)) is.1)
        (ap (λ (c : Bool). if c then v else f' k.scalars) (eq_made k.scalars k.scalars refl)),
    λ j less. ap (λ (c : Bool). if c then v else f' j) (ne_made k.scalars j (λ e. omega (arith, at, less, e))) ∙ is.2 j less,
    λ j beyond. ap (λ (c : Bool). if c then v else f' j) (ne_made k.scalars j (λ e. omega (arith, under, beyond, e))) ∙ is.3 j beyond,
  )

  arguments-simulate : {R J : Relation} (in_loop : Bool) (ps : List Param) (arguments : List SourceExpression) (front : List ℤ) (k : Names) → length arguments ≡ length ps →
      all_below base arguments ≡ true →
      Strange base depth ps → list_faults in_loop (parameters_list ps (map (renamed (copied base depth)) arguments)) k ≡ [] → Faces k → k.scalars ≡ m.scalars + length front →
      k.scalars + length ps ≤ top →
      (Next : List ℤ → ProgramState → Completion) (G : ProgramState → Completion) → ((vs : List ℤ) → length vs ≡ length ps → Simulates (Loading (front ++ vs)) R J (Next vs) G) →
      Simulates (Loading front) R J (with_arguments lengths n arguments Next)
      (λ s. then_do (execute_list lengths (resolved_list (parameters_list ps (map (renamed (copied base depth)) arguments)) k) s) G)
  unfolding resolved_statement statement_faults names_behind
  arguments-simulate {R = R} {J = J} in_loop [] [] front k same below strange none faces at under Next G next =
      subst (λ (l : List ℤ). Simulates (Loading l) R J (Next []) G) (append_none front) (next [] refl)
  arguments-simulate in_loop [] (e ∷ arguments) front k same below strange none faces at under Next G next = cc
  arguments-simulate in_loop (p ∷ ps) [] front k same below strange none faces at under Next G next = cc
  arguments-simulate {R = R} {J = J} in_loop (p ∷ ps) (e ∷ arguments) front k same below strange none faces at under Next G next =
      let r = copied base depth in
      let k' = with_scalar k p.symbol in
      let fine = and_true _ _ below in
      let rest = parameters_list ps (map (renamed r) arguments) in
      let first = none_front _ (list_faults in_loop rest k') none in
      let value = none_rest (depth_faults (optional_need (Some (renamed r e))) p.line) _ (none_rest (scalar_faults k p.symbol p.line) _ first) in
      let faces' = faces-more k p.symbol strange.0 faces in
      let more = λ (v : ℤ). arguments-simulate in_loop ps arguments (front ++ v ∷ []) k' (omega (arith, same)) fine.1 strange.1
      (none_rest (statement_faults in_loop (ScalarDeclaration p.symbol p.line (Some (renamed r e))) k) _ none) faces' (longer front v k at) (omega (arith, under))
      (λ vs. Next (v ∷ vs)) G (λ vs long. subst (λ (l : List ℤ). Simulates (Loading l) R J (Next (v ∷ vs)) G) (sym (append_assoc front (v ∷ []) vs)) (next (v ∷ vs) (omega (arith, long)))) in
      replaced (with_arguments lengths n (e ∷ arguments) Next)
      (λ s. do_with (eval lengths (resolved_expression k' (renamed r e)) s) (λ v t. then_do (execute_list lengths (resolved_list rest k') (set_scalar k.scalars v t)) G)) _
      (do_with-simulates (eval lengths (resolved_expression n e)) (eval lengths (resolved_expression k' (renamed r e)))
      (λ v. with_arguments lengths n arguments (λ vs. Next (v ∷ vs))) (λ v t. then_do (execute_list lengths (resolved_list rest k') (set_scalar k.scalars v t)) G)
      (expression-same lengths (λ x. nat_lt x base) r n k' (Loading front) e (λ g' f' is. reads-faced k' faces' g' f' is.0 is.2 is.3) fine.0 value)
      (λ v. record { same = λ a f' is. (more v).same a (λ x. if nat_eq k.scalars x then v else f' x) (loaded front k at (omega (arith, under)) v a.scalars f' is) }))
      (λ s. let x = eval lengths (resolved_expression k' (renamed r e)) s in
      sym (ap (λ (y : Completion). then_do y G) (do_with-then x (assign k.scalars) (execute_list lengths (resolved_list rest k')))
      ∙ do_with-then x (λ v t. execute_list lengths (resolved_list rest k') (set_scalar k.scalars v t)) G))
    where
      longer : (front : List ℤ) (v : ℤ) (k : Names) → k.scalars ≡ m.scalars + length front → k.scalars + 1 ≡ m.scalars + length (front ++ v ∷ [])
      longer front v k at = let e = length-snoc front v in omega (arith, at, e)
        where
          length-snoc : (front : List ℤ) (v : ℤ) → length (front ++ v ∷ []) ≡ suc (length front)
          length-snoc [] v = refl
          length-snoc (w ∷ front) v = let e = length-snoc front v in omega (arith, e)

  -- ---- after the copy

  module _ (copy : Copy) (callee : Callee) (sides : Copies lengths base depth callee copy m) where
    -- the names after the copy's items
    abbrev ends : Names
    ends = names_behind_list copy.items (with_parameters copy.parameters (entered m))

    -- the caller's names are found there as before
    ends-found : (x : ℕ) → x < base → found ends (copied base depth x) ≡ found m (copied base depth x)
    ends-found x fits =
        ap (λ (o : Option Slot). option_or o (found_in ends.outer (copied base depth x))) (sides.own depth x (inl (omega arith)) fits)
        ∙ ap (λ (all : List names.Scope). found_in all (copied base depth x))
        (outer_list-kept copy.items (with_parameters copy.parameters (entered m)) ∙ parameters-outer copy.parameters (entered m))

    module _ (values : List ℤ) (deeds : Behaves lengths callee copy m f values) (topmost : (names_behind_list copy.items (with_parameters copy.parameters (entered m))).scalars ≡ top) where
      -- what is known after a call
      returned : (g' f' h : ℕ → ℤ) → h ≡ g → deeds.exit g' f' → Agrees base depth in_function low saved watch high fixed slots n h f'
      returned g' f' h is done = subst (λ (z : ℕ → ℤ). Agrees base depth in_function low saved watch high fixed slots n z f') (sym is)
          (still f' (deeds.keeps g' f' done) (λ j beyond. deeds.keeps_above g' f' done j (omega (arith, topmost, beyond))))

      -- the value of a call is put into its target, or dropped
      finish-simulates : {J : Relation} (in_loop : Bool) (line : ℕ) (target : Option Target) → target_is_below base target ≡ true → (h : ℕ → ℤ) → h ≡ g →
          (copy.result ≡ None → (t : ProgramState) → callee.answers t ≡ Given (pos 0) t) →
          list_faults in_loop (result_list (copied base depth) line target copy.result) ends ≡ [] →
          Simulates deeds.exit (Agrees base depth in_function low saved watch high fixed slots n) J
          (λ t. do_with (callee.answers t) (λ v u. to_target target n v (with_scalars h u)))
          (execute_list lengths (resolved_list (result_list (copied base depth) line target copy.result) ends))
      unfolding resolved_statement statement_faults names_behind
      finish-simulates in_loop line None below h is idle none = by copy.result deeds.answers idle
        where
          by : {J : Relation} (result : Option SourceExpression) →
              SameValue deeds.exit callee.answers (eval lengths (resolved_expression ends (result_or_zero result))) → (result ≡ None → (t : ProgramState) → callee.answers t ≡ Given (pos 0) t) →
              Simulates deeds.exit (Agrees base depth in_function low saved watch high fixed slots n) J
              (λ t. do_with (callee.answers t) (λ v u. GoesOn (with_scalars h u)))
              (execute_list lengths (resolved_list (result_list (copied base depth) line None result) ends))
          by {J = J} None answers idle = record {
            same = λ a f' done. subst (λ (x : Evaluated). SameEnd (Agrees base depth in_function low saved watch high fixed slots n) J (do_with x (λ v u. GoesOn (with_scalars h u)))
                (GoesOn (with_scalars f' a)))
                (sym (idle refl a)) (goes (with_scalars h a) f' (returned a.scalars f' h is done));
          }
          by (Some e) answers idle =
              replaced (λ t. do_with (callee.answers t) (λ v u. GoesOn (with_scalars h u))) (λ s. do_with (eval lengths (resolved_expression ends e) s) (λ v. GoesOn)) _
              (do_with-simulates callee.answers (eval lengths (resolved_expression ends e)) (λ v u. GoesOn (with_scalars h u)) (λ v. GoesOn) answers
              (λ v. record { same = λ a f' done. goes (with_scalars h a) f' (returned a.scalars f' h is done) }))
              (λ s. sym (do_with-then (eval lengths (resolved_expression ends e) s) (λ v. GoesOn) GoesOn))
      finish-simulates {J = J} in_loop line (Some target) below h is idle none =
          let e = result_or_zero copy.result in
          let y = copied base depth target.symbol in
          let fits = less_of target.symbol base below in
          let used = none_front (scalar_use (found ends y) target.line) _ (none_front _ [] none) in
          let writ = written-by slots n (found n target.symbol) (found ends y) target.line
          (ends-found target.symbol fits ∙ found-faces base depth in_function low watch fixed slots n m stands target.symbol fits) used
          (λ i at. found_in-known (scopes n) target.symbol i at) in
          let P : ℕ → Type 0 = λ i. Simulates deeds.exit (Agrees base depth in_function low saved watch high fixed slots n) J
          (λ t. do_with (callee.answers t) (λ v u. assign i v (with_scalars h u))) (execute_list lengths (resolved_list (result_list (copied base depth) line (Some target) copy.result) ends)) in
          subst P (sym writ.here)
          (replaced (λ t. do_with (callee.answers t) (λ v u. assign writ.at v (with_scalars h u)))
          (λ s. do_with (eval lengths (resolved_expression ends e) s) (assign (slots writ.at))) _
          (do_with-simulates callee.answers (eval lengths (resolved_expression ends e)) (λ v u. assign writ.at v (with_scalars h u)) (assign (slots writ.at)) deeds.answers
          (λ v. record {
            same = λ a f' done. goes (set_scalar writ.at v (with_scalars h a)) (λ x. if nat_eq (slots writ.at) x then v else f' x)
                (agrees-set base depth in_function low saved watch high fixed slots n m stands (omega (arith, more, room)) writ.at writ.known v h f' (returned a.scalars f' h is done));
          }))
          (λ s. ap (λ (i : ℕ). do_with (eval lengths (resolved_expression ends e) s) (assign i)) (sym writ.there)
          ∙ sym (do_with-then (eval lengths (resolved_expression ends e) s) (assign (slot_number ends y)) GoesOn)))

      -- the copy, and what is done with its value
      copy-simulates : {J : Relation} (in_loop : Bool) (line : ℕ) (target : Option Target) → target_is_below base target ≡ true →
          (copy.result ≡ None → (t : ProgramState) → callee.answers t ≡ Given (pos 0) t) →
          list_faults in_loop (result_list (copied base depth) line target copy.result) ends ≡ [] →
          Simulates (Loading values) (Agrees base depth in_function low saved watch high fixed slots n) J (called (Some callee) values (to_target target n))
          (λ s. then_do (execute_list lengths (resolved_list copy.items (with_parameters copy.parameters (entered m))) s)
          (execute_list lengths (resolved_list (result_list (copied base depth) line target copy.result) ends)))
      copy-simulates in_loop line target below idle none = record {
        same = λ a f' is. then_do-same (λ t. do_with (callee.answers t) (λ v u. to_target target n v (with_scalars a.scalars u)))
            (execute_list lengths (resolved_list (result_list (copied base depth) line target copy.result) ends))
            (unjumped (deeds.runs.same (framed values a) f' (refl, is.1, is.2, λ j beyond. is.3 j (omega (arith, topmost, beyond)))))
            (finish-simulates in_loop line target below a.scalars is.0 idle none);
      }

  -- ---- the whole call

  pub block-simulates : {J : Relation} (in_loop : Bool) (line : ℕ) (target : Option Target) (arguments : List SourceExpression) (copy : Copy) (callee : Callee) →
      ((e x : ℕ) → depth < e → x < base → found m (copied base e x) ≡ None) → Stood lengths base depth (length arguments) callee copy → target_is_below base target ≡ true →
      all_below base arguments ≡ true →
      list_faults in_loop (appended (parameters_list copy.parameters (map (renamed (copied base depth)) arguments))
      (appended copy.items (result_list (copied base depth) line target copy.result))) (entered m) ≡ [] →
      (names_behind_list (appended (parameters_list copy.parameters (map (renamed (copied base depth)) arguments))
      (appended copy.items (result_list (copied base depth) line target copy.result))) (entered m)).scalars ≡ top →
      (a : ProgramState) → a.scalars ≡ g →
      SameEnd (Agrees base depth in_function low saved watch high fixed slots n) J
      (with_arguments lengths n arguments (λ values. called (Some callee) values (to_target target n)) a)
      (execute_list lengths (resolved_list (appended (parameters_list copy.parameters (map (renamed (copied base depth)) arguments))
      (appended copy.items (result_list (copied base depth) line target copy.result))) (entered m)) (with_scalars f a))
  block-simulates {J = J} in_loop line target arguments copy callee clear stood fits below none whole a at =
      let parameters = parameters_list copy.parameters (map (renamed (copied base depth)) arguments) in
      let results = result_list (copied base depth) line target copy.result in
      let after = with_parameters copy.parameters (entered m) in
      let count : length (map (renamed (copied base depth)) arguments) ≡ length copy.parameters =
      (let one = map-length (copied base depth) arguments in let two = stood.as_many in omega (arith, one, two)) in
      let open' = opened in_loop copy m (map (renamed (copied base depth)) arguments) results count none in
      let names = open'.names in
      let first = open'.first in
      let last = open'.last in
      let clean = results-clean (copied base depth) in_loop line target copy.result (names_behind_list copy.items after) last in
      let sides = stood.copies in_loop m clear open'.inner clean in
      let topmost : (names_behind_list copy.items after).scalars ≡ top =
      sym (ap (λ (z : Names). z.scalars) (open'.inside ∙ results-names (copied base depth) line target copy.result (names_behind_list copy.items after))) ∙ whole in
      let many = parameters-scalars copy.parameters (entered m) in
      let further = slots_list-grow copy.items after in
      let G = λ (s : ProgramState). then_do (execute_list lengths (resolved_list copy.items after) s) (execute_list lengths (resolved_list results (names_behind_list copy.items after))) in
      let split : (s : ProgramState) → then_do (execute_list lengths (resolved_list parameters (entered m)) s) G
      ≡ execute_list lengths (resolved_list (appended parameters (appended copy.items results)) (entered m)) s = λ s.
      sym (ap (λ (l : SourceList). execute_list lengths l s) (resolved-appended parameters (appended copy.items results) (entered m))
      ∙ execute-appended lengths (resolved_list parameters (entered m)) (resolved_list (appended copy.items results) (names_behind_list parameters (entered m))) s
      ∙ ap (λ (z : Names). then_do (execute_list lengths (resolved_list parameters (entered m)) s) (execute_list lengths (resolved_list (appended copy.items results) z))) names
      ∙ ap (λ (l : SourceList). then_do (execute_list lengths (resolved_list parameters (entered m)) s) (execute_list lengths l)) (resolved-appended copy.items results after)
      ∙ ap (λ (next : ProgramState → Completion). then_do (execute_list lengths (resolved_list parameters (entered m)) s) next)
      (λ i t. execute-appended lengths (resolved_list copy.items after) (resolved_list results (names_behind_list copy.items after)) t i)) in
      let sim = replaced (with_arguments lengths n arguments (λ values. called (Some callee) values (to_target target n)))
      (λ s. then_do (execute_list lengths (resolved_list parameters (entered m)) s) G) _
      (arguments-simulate {R = Agrees base depth in_function low saved watch high fixed slots n} {J = J} in_loop copy.parameters arguments [] (entered m)
      (let two = stood.as_many in omega (arith, two)) below stood.strange first
      (found-faces base depth in_function low watch fixed slots n m stands) (omega arith) (omega (arith, many, further, topmost))
      (λ values. called (Some callee) values (to_target target n)) G
      (λ vs long. copy-simulates copy callee sides vs (sides.behaves f vs long) topmost in_loop line target fits stood.idle last)) split in
      sim.same a f (at, tt, λ j less. refl, λ j beyond. refl)
