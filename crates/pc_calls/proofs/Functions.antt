-- Functions and their copies, in the order of the text; and a whole source.
use Rattle.std.proofs.Common.{◌≡◌, ℕ, suc, ◌+◌, inl, inr, Bool, true, false, List, [], ◌∷◌, map, reverse, Option, Some, None, refl, sym, ap, ◌∙◌, subst, arith, nat_eq, length}
use Rattle.std.specs.Prelude.{ℤ, pos, if◌then◌else◌}
use Rattle.pc_word.proofs.Truth.{less_of, and_true}
use Rattle.pc_syntax.specs.Source.{SourceExpression}
use Rattle.pc_check.specs.Names.{Names, no_names, entered, with_scalar}
use Rattle.pc_check.specs.Faults.{expression_faults, faults, names_behind_list}
use Rattle.pc_check.specs.Resolution.{resolved_expression, resolved_list, resolved}
use Rattle.pc_meaning.specs.ProgramState.{ProgramState, source_start}
use Rattle.pc_meaning.specs.Expression.{Given, eval}
use Rattle.pc_meaning.specs.Statement.{Completion, execute_list}
use Rattle.pc_meaning.specs.SourceRun.{shown, outcome_of, source_run}
use Rattle.pc_syntax.specs.declared.unit.Param.{Param}
use Rattle.pc_syntax.specs.Unit.{UnitFunction, TranslationUnit}
use Rattle.pc_calls.specs.UnitNames.{with_parameters, unit_names_after_list}
use Rattle.pc_calls.specs.CallRun.{Callee, answer_of, callee_of, callees, unit_lengths, unit_data, unit_outcome, call_run}
use Rattle.pc_calls.specs.Inline.{copied, renamed_optional, renamed_parameter, Copy, copy_of, copies, result_or_zero, main_site, inlined_list, inlined_program}
use Rattle.pc_calls.specs.Refusals.{refused_if, arity, list_refusals, function_refusals, functions_refusals, refusals}
use Rattle.pc_syntax.specs.Proper.{optional_is_below, parameters_below, function_is_proper, list_is_proper, functions_are_proper, unit_is_proper}
use Rattle.pc_calls.proofs.Matching.{Relation, SameEnd, goes, breaks, continues, returns, traps, spends, SameValue}
use Rattle.pc_calls.proofs.Values.{none_front, none_rest}
use Rattle.pc_calls.proofs.Standing.{Arrays, arrays, copied-apart, InScopes, scopes, extended, Stands, stands-scalar}
use Rattle.pc_calls.proofs.Measured.{reverse-proper}
use Rattle.pc_calls.proofs.Agreement.{Agrees, agrees-more}
use Rattle.pc_calls.proofs.Calls.{Never, Holds, holds-value_at, Strange, Stood, Known, stands_anyway}
use Rattle.pc_calls.proofs.Simple.{value-same}
use Rattle.pc_calls.proofs.Rooms.{Declares_list}
use Rattle.pc_calls.proofs.Statements.{list-simulates}

-- nothing is declared at first
nothing-known : (i : ℕ) → InScopes (scopes no_names) i → ⊥
nothing-known i (inl known) = let at = known.1 in cc
nothing-known i (inr known) = known

-- no pair is watched in a function
abbrev Unwatched : ℕ → ℕ → Type 0
Unwatched i j = ⊥

-- ---- parameters

-- what is known once the parameters are declared
record ParameterSim (base depth low : ℕ) (saved : ℕ → ℤ) (high : ℕ) (fixed : Arrays) (ps : List Param) (slots : ℕ → ℕ) (n m : Names) : Type 0 where
  end : ℕ → ℕ
  stands : Stands base depth true low Unwatched fixed end (with_parameters ps n) (with_parameters (map (renamed_parameter (copied base depth)) ps) m)
  agrees : (g f : ℕ → ℤ) (vs : List ℤ) → Agrees base depth true low saved Unwatched high fixed slots n g f → Holds n.scalars vs g → Holds m.scalars vs f → length vs ≡ length ps →
      Agrees base depth true low saved Unwatched high fixed end (with_parameters ps n) g f

parameters-simulate : (base depth low : ℕ) (saved : ℕ → ℤ) (high : ℕ) (fixed : Arrays) (ps : List Param) (slots : ℕ → ℕ) (n m : Names) → parameters_below base ps ≡ true →
    Stands base depth true low Unwatched fixed slots n m →
    ParameterSim base depth low saved high fixed ps slots n m
parameters-simulate base depth low saved high fixed [] slots n m below stands = record { end = slots; stands = stands; agrees = λ g f vs is held holds long. is }
parameters-simulate base depth low saved high fixed (p ∷ ps) slots n m below stands =
    let both = and_true _ _ below in
    let slots' = extended slots n.scalars m.scalars in
    let n' = with_scalar n p.symbol in
    let m' = with_scalar m (copied base depth p.symbol) in
    let rest = parameters-simulate base depth low saved high fixed ps slots' n' m' both.1
    (stands-scalar base depth true low Unwatched fixed slots n m p.symbol (less_of p.symbol base both.0) stands (λ i j w. absurd w)) in
    record {
      end = rest.end;
      stands = rest.stands;
      agrees = λ g f vs is held holds long. step g f vs is held holds long rest.end (rest.agrees g f);
    }
  where
    next : (start : ℕ) (vs : List ℤ) (f : ℕ → ℤ) → Holds (suc start) vs f → Holds (start + 1) vs f
    next start vs f held = let e : suc start ≡ start + 1 = omega arith in subst (λ (k : ℕ). Holds k vs f) e held

    step : (g f : ℕ → ℤ) (vs : List ℤ) → Agrees base depth true low saved Unwatched high fixed slots n g f → Holds n.scalars vs g → Holds m.scalars vs f → length vs ≡ length (p ∷ ps) → (end : ℕ → ℕ) →
        ((vs : List ℤ) → Agrees base depth true low saved Unwatched high fixed (extended slots n.scalars m.scalars) (with_scalar n p.symbol) g f → Holds (n.scalars + 1) vs g →
        Holds (m.scalars + 1) vs f → length vs ≡ length ps →
        Agrees base depth true low saved Unwatched high fixed end (with_parameters ps (with_scalar n p.symbol)) g f) →
        Agrees base depth true low saved Unwatched high fixed end (with_parameters ps (with_scalar n p.symbol)) g f
    step g f [] is held holds long end more = cc
    step g f (v ∷ vs) is held holds long end more =
        more vs (agrees-more base depth true low saved Unwatched high fixed slots n m p.symbol stands g f is (held.0 ∙ sym holds.0))
        (next n.scalars vs g held.1) (next m.scalars vs f holds.1) (omega (arith, long))

parameters-strange : (base depth : ℕ) (ps : List Param) → parameters_below base ps ≡ true → Strange base depth (map (renamed_parameter (copied base (suc depth))) ps)
parameters-strange base depth [] below = tt
parameters-strange base depth (p ∷ ps) below =
    let both = and_true _ _ below in
    (λ x fits. copied-apart base depth (suc depth) x p.symbol (inl (omega arith)) fits (less_of p.symbol base both.0), parameters-strange base depth ps both.1)

parameters-length : (r : ℕ → ℕ) (ps : List Param) → length (map (renamed_parameter r) ps) ≡ length ps
parameters-length r [] = refl
parameters-length r (p ∷ ps) = let e = parameters-length r ps in omega (arith, e)

-- ---- results

result-idle : (lengths : List ℕ) (names : Names) (r : ℕ → ℕ) (result : Option SourceExpression) → renamed_optional r result ≡ None → (t : ProgramState) →
    answer_of lengths names result t ≡ Given (pos 0) t
result-idle lengths names r None none t = refl
result-idle lengths names r (Some e) none t = cc

result-same : (base depth low : ℕ) (saved : ℕ → ℤ) (high : ℕ) (fixed : Arrays) (lengths : List ℕ) (slots : ℕ → ℕ) (n m : Names) → Stands base depth true low Unwatched fixed slots n m →
    (result : Option SourceExpression) → optional_is_below base result ≡ true →
    expression_faults m (result_or_zero (renamed_optional (copied base depth) result)) ≡ [] →
    SameValue (Agrees base depth true low saved Unwatched high fixed slots n) (answer_of lengths n result)
    (eval lengths (resolved_expression m (result_or_zero (renamed_optional (copied base depth) result))))
unfolding resolved_expression
result-same base depth low saved high fixed lengths slots n m stands None below clean = record { same = λ a f is. refl; keeps = λ a. refl }
result-same base depth low saved high fixed lengths slots n m stands (Some e) below clean = value-same base depth true low saved Unwatched high fixed lengths slots n m stands e below clean

-- ---- functions

function-stood : (lengths : List ℕ) (base depth : ℕ) (function : UnitFunction) (ce : ℕ → Option Callee) (co : ℕ → Option Copy) (known : ℕ → Option ℕ) →
    ((g : ℕ) → Known lengths base (suc depth) (known g) (ce g) (co g)) → function_is_proper base function ≡ true → list_refusals known true false function.items ≡ [] →
    Stood lengths base depth (length function.parameters) (callee_of lengths ce function) (copy_of (copied base (suc depth)) co function)
function-stood lengths base depth function ce co known calls proper allowed =
    let one = and_true _ _ proper in
    let two = and_true _ _ one.1 in
    let r = copied base (suc depth) in
    let np = with_parameters function.parameters no_names in
    record {
      as_many = parameters-length r function.parameters;
      strange = parameters-strange base depth function.parameters one.0;
      idle = λ none t. result-idle lengths (unit_names_after_list function.items np) r function.result none t;
      copies = λ in_loop m clear none clean.
          let start : Stands base (suc depth) true m.scalars Unwatched (arrays m) (λ x. x) no_names (entered m) = record {
            inner = λ x fits. refl;
            outer = λ x fits. clear (suc depth) x (omega arith) fits;
            own = λ e x far fits. refl;
            clear = λ e x deeper fits. clear e x (omega (arith, deeper)) fits;
            below = λ i known. absurd (nothing-known i known);
            apart = λ i j known other. absurd (nothing-known i known);
            paired = λ a known i j w. absurd (nothing-known a known);
            grown = omega arith;
            lengths = refl;
          } in
          let mp = with_parameters (map (renamed_parameter r) function.parameters) (entered m) in
          let copy = copy_of r co function in
          let high = (names_behind_list copy.items mp).scalars in
          let parameters = λ (saved : ℕ → ℤ). parameters-simulate base (suc depth) m.scalars saved high (arrays m) function.parameters (λ x. x) no_names (entered m) one.0 start in
          let sim = λ (saved : ℕ → ℤ). list-simulates base (suc depth) true m.scalars saved Unwatched high (arrays m) lengths ce co known calls function.items false in_loop
          (parameters saved).end np mp Never two.0 allowed none
          (λ main. absurd (cc)) (parameters saved).stands (record { bound = omega arith; placed = λ i j w. absurd w; told = λ main i j d. absurd (cc) }) (λ inside. absurd (cc)) in
          let any = sim (λ j. pos 0) in
          record {
            own = any.stands.own;
            grown = any.stands.grown;
            arrays_kept = any.stands.lengths;
            behaves = λ saved values long.
                let now = sim saved in
                record {
                  exit = Agrees base (suc depth) true m.scalars saved Unwatched high (arrays m) now.end (unit_names_after_list function.items np);
                  runs = record {
                    same = λ a f entry. now.same.same a f ((parameters saved).agrees a.scalars f values
                        (record { live = λ i known. absurd (nothing-known i known); kept = entry.2; above = entry.3; stale = λ i j w. absurd w })
                        (subst (λ (h : ℕ → ℤ). Holds 0 values h) (sym entry.0) (holds-value_at values)) entry.1 (let e = parameters-length r function.parameters in omega (arith, long, e)));
                  };
                  answers = result-same base (suc depth) m.scalars saved high (arrays m) lengths now.end (unit_names_after_list function.items np) _ now.stands function.result two.1 clean;
                  keeps = λ g f is. is.kept;
                  keeps_above = λ g f is. is.above;
                };
          };
    }

pub functions-known : (lengths : List ℕ) (base : ℕ) (fs : List UnitFunction) → functions_are_proper base fs ≡ true → functions_refusals fs ≡ [] → (depth symbol : ℕ) →
    Known lengths base depth (arity fs symbol) (callees lengths fs symbol) (copies base fs (suc depth) symbol)
unfolding arity callees copies functions_are_proper functions_refusals
functions-known lengths base [] proper allowed depth symbol = stands_anyway
functions-known lengths base (last ∷ earlier) proper allowed depth symbol =
    let both = and_true _ _ proper in
    let before = none_front (functions_refusals earlier) (function_refusals earlier last) allowed in
    let own = none_rest (functions_refusals earlier) (function_refusals earlier last) allowed in
    let inside = none_rest (refused_if _ _) (list_refusals (arity earlier) true false last.items) own in
    by (nat_eq symbol last.symbol)
    (function-stood lengths base depth last (callees lengths earlier) (copies base earlier (suc (suc depth))) (arity earlier)
    (functions-known lengths base earlier both.1 before (suc depth)) both.0 inside)
    (functions-known lengths base earlier both.1 before depth symbol)
  where
    by : (b : Bool) → Stood lengths base depth (length last.parameters) (callee_of lengths (callees lengths earlier) last)
        (copy_of (copied base (suc depth)) (copies base earlier (suc (suc depth))) last) →
        Known lengths base depth (arity earlier symbol) (callees lengths earlier symbol) (copies base earlier (suc depth) symbol) →
        Known lengths base depth (if b then Some (length last.parameters) else arity earlier symbol)
        (if b then Some (callee_of lengths (callees lengths earlier) last) else callees lengths earlier symbol)
        (if b then Some (copy_of (copied base (suc depth)) (copies base earlier (suc (suc depth))) last) else copies base earlier (suc depth) symbol)
    by true stood more = stood
    by false stood more = more

-- ---- a whole source

-- the same is seen
shown-same : {R J : Relation} {x y : Completion} → SameEnd R J x y → shown y ≡ shown x
shown-same (goes a f r) = refl
shown-same (breaks a f j) = refl
shown-same (continues a f j) = refl
shown-same (returns a f) = refl
shown-same (traps kind line a f) = refl
shown-same (spends a f) = refl

-- a unit shows what its inlined program shows
pub inlined-same : (base : ℕ) (unit : TranslationUnit) → unit_is_proper base unit ≡ true → refusals unit ≡ [] → faults (inlined_program base unit) ≡ [] → (input : List ℤ) (n : ℕ) →
    source_run (resolved (inlined_program base unit)) input n ≡ call_run unit input n
unfolding source_run outcome_of call_run unit_outcome
inlined-same base unit proper allowed none input n =
    let both = and_true (functions_are_proper base unit.functions) (list_is_proper base unit.main) proper in
    let fs = reverse unit.functions in
    let lengths = unit_lengths unit in
    let before = none_front (functions_refusals fs) _ allowed in
    let site = main_site base fs in
    let watch = Declares_list site unit.main no_names no_names in
    let high = (names_behind_list (inlined_list site unit.main) no_names).scalars in
    let start : Stands base 0 false 0 watch ([], []) (λ x. x) no_names no_names = record {
      inner = λ x fits. refl;
      outer = λ x fits. refl;
      own = λ e x far fits. refl;
      clear = λ e x deeper fits. refl;
      below = λ i known. absurd (nothing-known i known);
      apart = λ i j known other. absurd (nothing-known i known);
      paired = λ a known i j w. absurd (nothing-known a known);
      grown = omega arith;
      lengths = refl;
    } in
    let sim = list-simulates base 0 false 0 (λ j. pos 0) watch high ([], []) lengths (callees lengths fs) (copies base fs 1) (arity fs)
    (functions-known lengths base fs (reverse-proper base unit.functions both.0) before 0) unit.main false false (λ x. x) no_names no_names Never
    both.1 (none_rest (functions_refusals fs) _ allowed) none (λ main. refl) start (record { bound = omega arith; placed = λ i j w. inr (inl w); told = λ main i j d. d }) (λ inside. absurd (cc)) in
    let same = sim.same.same (source_start (unit_data unit) input n) (λ x. pos 0)
    (record { live = λ i known. absurd (nothing-known i known); kept = λ j less. absurd (omega (arith, less)); above = λ j beyond. refl; stale = λ i j w. refl }) in
    ap (λ (l : Arrays). shown (execute_list l.0 (resolved_list (inlined_list (main_site base fs) unit.main) no_names) (source_start l.1 input n))) sim.stands.lengths
    ∙ shown-same same
