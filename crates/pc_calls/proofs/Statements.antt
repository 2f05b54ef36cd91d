-- A statement, and what stands in its place: they come to the same end.
use Rattle.std.proofs.Common.{◌≡◌, ℕ, ◌≤◌, ◌⊎◌, inl, inr, Bool, true, false, not, List, [], ◌∷◌, ◌++◌, map, Option, Some, None, refl, sym, ap, ◌∙◌, subst, arith, nat_eq, nat_lt, length}
use Rattle.std.specs.Prelude.{ℤ, pos, if◌then◌else◌}
use Rattle.pc_word.proofs.Truth.{less_of, and_true, not_true}
use Rattle.pc_syntax.specs.Source.{SourceExpression, SourceList, No_more, More, appended, ScalarDeclaration}
use Rattle.pc_check.specs.declared.slot.Slot.TheVariants as slot
use Rattle.pc_check.specs.Names.{Names, entered, left, with_scalar, with_array}
use Rattle.pc_check.specs.InitialData.{data_of}
use Rattle.pc_check.specs.Needs.{need}
use Rattle.pc_check.specs.Faults.{depth_faults, measured_faults, array_faults, statement_faults, branch_faults, list_faults, names_behind, names_behind_optional, names_behind_list}
use Rattle.pc_check.specs.Resolution.{resolved_expression, resolved_optional, resolved_statement, resolved_branch, resolved_list}
use Rattle.pc_meaning.specs.ProgramState.{ProgramState, add_printed}
use Rattle.pc_meaning.specs.Expression.{Evaluated, side, eval}
use Rattle.pc_meaning.specs.Statement.{Completion, GoesOn, Breaks, Continues, Returns, Traps, Spent, then_do, assign, loop_from, execute, execute_optional, execute_list}
use Rattle.pc_syntax.specs.declared.unit.Target.{Target}
use Rattle.pc_syntax.specs.Unit.{UnitStatement, UnitOptional, UnitList, Block, Scalar, Array, Assign, Print, Eval, If, While, Do, For}
use Rattle.pc_syntax.specs.Unit.{Break, Continue, Return, Empty, Call, Without, With, Finish, Item}
use Rattle.pc_calls.specs.UnitNames.{with_target, unit_names_after, unit_names_after_optional, unit_names_after_list}
use Rattle.pc_calls.specs.CallRun.{Callee, Setting, declarator, with_arguments, called, to_target, target_declared, perform, perform_optional, perform_list}
use Rattle.pc_calls.specs.Inline.{copied, renamed, renamed_optional, Copy, Site, in_one, declarator_list, parameters_list, result_list, call_block, call_list, inlined, inlined_optional, inlined_list}
use Rattle.pc_calls.specs.Refusals.{Refusal, refused_if, call_refusals, statement_refusals, optional_refusals, list_refusals}
use Rattle.pc_calls.specs.Refusals as refusal
use Rattle.pc_syntax.specs.Proper.{all_below, target_is_below, declares_nothing, is_proper, optional_is_proper, list_is_proper}
use Rattle.pc_calls.proofs.Matching.{Relation, goes, breaks, continues, returns, Simulates, SameValue, adapted, then_do-simulates, do_with-simulates, GoesOn-simulates}
use Rattle.pc_calls.proofs.Matching.{side-simulates, loop_from-simulates, do_loop-simulates}
use Rattle.pc_calls.proofs.Values.{none_front, none_rest}
use Rattle.pc_calls.proofs.Standing.{InScopes, scopes, extended, Stands, stands-scalar, stands-array, stands-entered, stands-left, found-clear, known-more, known-split, Arrays, arrays, ArraysAgree}
use Rattle.pc_calls.proofs.Agreement.{Agrees, agrees-moved, agrees-less, declare-simulates, eq_of}
use Rattle.pc_calls.proofs.Rooms.{Room, room-first, room-rest, room-fresh, room-after, room-avoid, span-join, span-pair, span-none, DeclaredPair, TargetPair, Declares}
use Rattle.pc_calls.proofs.Rooms.{Declares_optional, Declares_list, declarator-names, call-span, part-span, optional-span, list-span}
use Rattle.pc_calls.proofs.AppendedLists.{slots-grow, names-appended, faults-appended, resolved-appended, execute-appended}
use Rattle.pc_calls.proofs.Calls.{Known, Stood, replaced, block-simulates, names-after-block}
use Rattle.pc_calls.proofs.Simple.{jump-known, main-known, value-same, assignment-simulates, declarator-simulates}

module _ (base depth : ℕ) (in_function : Bool) (low : ℕ) (saved : ℕ → ℤ) (watch : ℕ → ℕ → Type 0) (high : ℕ) (fixed : Arrays) (lengths : List ℕ)
    (callees : ℕ → Option Callee) (copies : ℕ → Option Copy) (known : ℕ → Option ℕ) (calls : (function : ℕ) → Known lengths base depth (known function) (callees function) (copies function)) where
  abbrev w : Setting
  w = record { callees = callees; in_function = in_function; lengths = lengths }

  abbrev site : Site
  site = record { copies = copies; rename = copied base depth; in_function = in_function }

  abbrev Here : (ℕ → ℕ) → Names → Relation
  Here slots n = Agrees base depth in_function low saved watch high fixed slots n

  abbrev Stand : (ℕ → ℕ) → Names → Names → Type 0
  Stand = Stands base depth in_function low watch fixed

  -- what is known after a statement that declares nothing for those after it
  pub record PartSim (slots : ℕ → ℕ) (n m n' m' : Names) (J : Relation) (F G : ProgramState → Completion) : Type 0 where
    pub inner : n'.innermost ≡ n.innermost
    pub outer : n'.outer ≡ n.outer
    pub stands : Stand slots n' m'
    pub more : n.scalars ≤ n'.scalars
    pub others : m.scalars ≤ m'.scalars
    pub same : Simulates (Here slots n) (Here slots n) J F G

  -- what is known after statements in order
  pub record ListSim (slots : ℕ → ℕ) (n m n' m' : Names) (J : Relation) (F G : ProgramState → Completion) : Type 0 where
    pub end : ℕ → ℕ
    pub stands : Stand end n' m'
    pub more : n.scalars ≤ n'.scalars
    pub others : m.scalars ≤ m'.scalars
    pub back : (g f : ℕ → ℤ) → Here end n' g f → Here slots n g f
    pub same : Simulates (Here slots n) (Here end n') J F G

  -- statements that hold no others
  leaf : {J : Relation} (slots : ℕ → ℕ) (n m : Names) (F G : ProgramState → Completion) → Stand slots n m → Simulates (Here slots n) (Here slots n) J F G → PartSim slots n m n m J F G
  leaf slots n m F G stands sim = record { inner = refl; outer = refl; stands = stands; more = omega arith; others = omega arith; same = sim }

  -- a part is simulated in the scopes before it
  moved : {J : Relation} (slots : ℕ → ℕ) (n n' : Names) (F G : ProgramState → Completion) → n'.innermost ≡ n.innermost → n'.outer ≡ n.outer →
      Simulates (Here slots n') (Here slots n') J F G → Simulates (Here slots n) (Here slots n) J F G
  moved slots n n' F G a b sim =
      adapted F G sim (λ g f is. agrees-moved base depth in_function low saved watch high fixed slots n n' a b g f is)
      (λ g f is. agrees-moved base depth in_function low saved watch high fixed slots n' n (sym a) (sym b) g f is)

  -- the same of a value
  moved-value : (slots : ℕ → ℕ) (n n' : Names) (F G : ProgramState → Evaluated) → n'.innermost ≡ n.innermost → n'.outer ≡ n.outer → SameValue (Here slots n') F G → SameValue (Here slots n) F G
  moved-value slots n n' F G a b value = record { same = λ s f is. value.same s f (agrees-moved base depth in_function low saved watch high fixed slots n n' a b s.scalars f is); keeps = value.keeps }

  -- a block's scope is left
  leave : {J : Relation} (slots : ℕ → ℕ) (n m n' m' : Names) (F G : ProgramState → Completion) → Stand slots n m → ListSim slots (entered n) (entered m) n' m' J F G →
      PartSim slots n m (left n n') (left m m') J F G
  leave slots n m n' m' F G stands sim = record {
    inner = refl;
    outer = refl;
    stands = stands-left base depth in_function low watch fixed slots n m (left n n') (left m m') stands sim.more sim.others (sim.stands.lengths) refl refl refl refl;
    more = sim.more;
    others = sim.others;
    same = adapted F G sim.same (λ g f is. enter g f is) (λ g f is. exit g f (sim.back g f is));
  }
    where
      enter : (g f : ℕ → ℤ) → Here slots n g f → Here slots (entered n) g f
      enter g f is = record { live = λ i kn. is.live i (inside i kn); kept = is.kept; above = is.above; stale = is.stale }
        where
          inside : (i : ℕ) → InScopes ([] ∷ scopes n) i → InScopes (scopes n) i
          inside i (inl kn) = let at = kn.1 in cc
          inside i (inr kn) = kn

      exit : (g f : ℕ → ℤ) → Here slots (entered n) g f → Here slots n g f
      exit g f is = record { live = λ i kn. is.live i (inr kn); kept = is.kept; above = is.above; stale = is.stale }

  enter-list : (slots : ℕ → ℕ) (n : Names) (g f : ℕ → ℤ) → Here slots (entered n) g f → Here slots n g f
  enter-list slots n g f is = record { live = λ i kn. is.live i (inr kn); kept = is.kept; above = is.above; stale = is.stale }

  -- a part in a list
  in_list : {J : Relation} (slots : ℕ → ℕ) (n m n' m' : Names) (F G : ProgramState → Completion) → PartSim slots n m n' m' J F G → ListSim slots n m n' m' J F G
  in_list slots n m n' m' F G sim = record {
    end = slots;
    stands = sim.stands;
    more = sim.more;
    others = sim.others;
    back = λ g f is. agrees-moved base depth in_function low saved watch high fixed slots n' n (sym sim.inner) (sym sim.outer) g f is;
    same = adapted F G sim.same (λ g f is. is) (λ g f is. agrees-moved base depth in_function low saved watch high fixed slots n n' sim.inner sim.outer g f is);
  }

  -- statements after others
  after : {J : Relation} (slots : ℕ → ℕ) (n m n' m' n'' m'' : Names) (F G F' G' : ProgramState → Completion) (first : ListSim slots n m n' m' J F G) → ListSim first.end n' m' n'' m'' J F' G' →
      ListSim slots n m n'' m'' J (λ s. then_do (F s) F') (λ s. then_do (G s) G')
  after slots n m n' m' n'' m'' F G F' G' first second =
      let a = first.more in let b = second.more in let c = first.others in let d = second.others in
      record {
        end = second.end;
        stands = second.stands;
        more = omega (arith, a, b);
        others = omega (arith, c, d);
        back = λ g f is. first.back g f (second.back g f is);
        same = then_do-simulates F G F' G' first.same second.same;
      }

  -- the same, where what stands in the place of the first is a list
  after-list : {J : Relation} (slots : ℕ → ℕ) (n m n' n'' : Names) (front rest : SourceList) (F F' : ProgramState → Completion)
      (first : ListSim slots n m n' (names_behind_list front m) J F (execute_list lengths (resolved_list front m))) →
      ListSim first.end n' (names_behind_list front m) n'' (names_behind_list rest (names_behind_list front m)) J F' (execute_list lengths (resolved_list rest (names_behind_list front m))) →
      ListSim slots n m n'' (names_behind_list (appended front rest) m) J (λ s. then_do (F s) F') (execute_list lengths (resolved_list (appended front rest) m))
  after-list {J = J} slots n m n' n'' front rest F F' first second =
      let sim = after slots n m n' (names_behind_list front m) n'' (names_behind_list rest (names_behind_list front m)) F (execute_list lengths (resolved_list front m)) F'
      (execute_list lengths (resolved_list rest (names_behind_list front m))) first second in
      let P : Names → Type 0 = λ z. ListSim slots n m n'' z J (λ s. then_do (F s) F') (execute_list lengths (resolved_list (appended front rest) m)) in
      subst P (sym (names-appended front rest m))
      (record {
        end = sim.end;
        stands = sim.stands;
        more = sim.more;
        others = sim.others;
        back = sim.back;
        same = replaced (λ s. then_do (F s) F') _ (execute_list lengths (resolved_list (appended front rest) m)) sim.same
            (λ s. sym (ap (λ (l : SourceList). execute_list lengths l s) (resolved-appended front rest m)
            ∙ execute-appended lengths (resolved_list front m) (resolved_list rest (names_behind_list front m)) s));
      })

  -- a list that ends
  ended : {J : Relation} (slots : ℕ → ℕ) (n m n' m' : Names) (F G : ProgramState → Completion) → ListSim slots n m n' m' J F G → ListSim slots n m n' m' J F (λ s. then_do (G s) GoesOn)
  ended slots n m n' m' F G sim = record {
    end = sim.end;
    stands = sim.stands;
    more = sim.more;
    others = sim.others;
    back = sim.back;
    same = replaced F G (λ s. then_do (G s) GoesOn) sim.same (λ s. sym (same (G s)));
  }
    where
      same : (x : Completion) → then_do x GoesOn ≡ x
      same (GoesOn s) = refl
      same (Breaks s) = refl
      same (Continues s) = refl
      same (Returns s) = refl
      same (Traps kind line s) = refl
      same (Spent s) = refl

  -- ---- calls

  block-sim : {J : Relation} (c : Bool) (slots : ℕ → ℕ) (n m : Names) (line : ℕ) (target : Option Target) (at : ℕ) (arguments : List SourceExpression) (k : Option ℕ)
      (ce : Option Callee) (co : Option Copy) →
      Known lengths base depth k ce co → call_refusals k (length arguments) at ≡ [] → target_is_below base target ≡ true → all_below base arguments ≡ true → Stand slots n m →
      Room in_function watch high (λ i j. ⊥) n.scalars m.scalars n.scalars (names_behind (call_block site line target co arguments) m).scalars →
      statement_faults c (call_block site line target co arguments) m ≡ [] →
      PartSim slots n m n (names_behind (call_block site line target co arguments) m) J
      (with_arguments lengths n arguments (λ values. called ce values (to_target target n)))
      (execute lengths (resolved_statement (call_block site line target co arguments) m))
  unfolding statement_faults names_behind resolved_statement
  block-sim c slots n m line target at arguments None ce co kn allowed fits below stands room none = absurd (cc)
  block-sim c slots n m line target at arguments (Some count) None co kn allowed fits below stands room none = elim kn [ ]
  block-sim c slots n m line target at arguments (Some count) (Some callee) None kn allowed fits below stands room none = elim kn [ ]
  block-sim {J = J} c slots n m line target at arguments (Some count) (Some callee) (Some copy) kn allowed fits below stands room none =
      let clear = found-clear base depth in_function low watch fixed slots n m stands in
      let many = eq_of count (length arguments) (matched (nat_eq count (length arguments)) allowed) in
      let stood = subst (λ (z : ℕ). Stood lengths base depth z callee copy) many kn in
      let is = names-after-block lengths base depth c line target arguments copy callee m clear stood none in
      record {
        inner = refl;
        outer = refl;
        stands = stands-left base depth in_function low watch fixed slots n m n _ stands (omega arith) is.0 (kept in_function _ _ is.1 stands.lengths) refl refl refl refl;
        more = omega arith;
        others = is.0;
        same = record {
          same = λ a f agrees. block-simulates base depth in_function low saved watch high fixed lengths slots n m stands a.scalars f agrees
              (names_behind_list (appended (parameters_list copy.parameters (map (renamed (copied base depth)) arguments))
              (appended copy.items (result_list (copied base depth) line target copy.result))) (entered m)).scalars
              is.0 room.bound (room-avoid in_function watch high n.scalars m.scalars _ room)
              c line target arguments copy callee clear stood fits below none refl a refl;
        };
      }
    where
      matched : (b : Bool) → refused_if (not b) (refusal.Arguments at) ≡ [] → b ≡ true
      matched true no_refusal = refl
      matched false no_refusal = cc

      kept : (k : Bool) (theirs theirs' : Arrays) → theirs' ≡ theirs → ArraysAgree k fixed (arrays n) theirs → ArraysAgree k fixed (arrays n) theirs'
      kept true theirs theirs' same is = same ∙ is
      kept false theirs theirs' same is = same ∙ is

  -- a call in a list
  call-list : {J : Relation} (c d : Bool) (slots : ℕ → ℕ) (n m : Names) (x lx line : ℕ) (target : Option Target) (at : ℕ) (arguments : List SourceExpression) (k : Option ℕ)
      (ce : Option Callee) (co : Option Copy) →
      Known lengths base depth k ce co → call_refusals k (length arguments) at ≡ [] → target_is_below base target ≡ true → nat_lt x base ≡ true → all_below base arguments ≡ true → Stand slots n m →
      Room in_function watch high (DeclaredPair d n.scalars m.scalars) n.scalars m.scalars (if d then with_scalar n x else n).scalars
      (names_behind_list (if d then More (ScalarDeclaration (copied base depth x) lx None) (More (call_block site line target co arguments) No_more)
      else More (call_block site line target co arguments) No_more) m).scalars →
      list_faults c (if d then More (ScalarDeclaration (copied base depth x) lx None) (More (call_block site line target co arguments) No_more)
      else More (call_block site line target co arguments) No_more) m ≡ [] →
      ListSim slots n m (if d then with_scalar n x else n)
      (names_behind_list (if d then More (ScalarDeclaration (copied base depth x) lx None) (More (call_block site line target co arguments) No_more)
      else More (call_block site line target co arguments) No_more) m) J
      (λ s. then_do (if d then assign n.scalars (pos 0) s else GoesOn s)
      (with_arguments lengths (if d then with_scalar n x else n) arguments (λ values. called ce values (to_target target (if d then with_scalar n x else n)))))
      (execute_list lengths (resolved_list (if d then More (ScalarDeclaration (copied base depth x) lx None) (More (call_block site line target co arguments) No_more)
      else More (call_block site line target co arguments) No_more) m))
  unfolding statement_faults names_behind resolved_statement
  call-list c true slots n m x lx line target at arguments k ce co kn allowed fits fit below stands room none =
      let r = copied base depth in
      let n' = with_scalar n x in
      let m' = with_scalar m (r x) in
      let slots' = extended slots n.scalars m.scalars in
      let block = call_block site line target co arguments in
      let grow = slots-grow block m' in
      let fresh = room-fresh in_function watch high n.scalars m.scalars _ (omega (arith, grow)) room in
      let bound = room.bound in
      let stands' = stands-scalar base depth in_function low watch fixed slots n m x (less_of x base fit) stands fresh in
      let clean = none_front (statement_faults c block m') [] (none_rest (statement_faults c (ScalarDeclaration (r x) lx None) m) _ none) in
      let part = block-sim c slots' n' m' line target at arguments k ce co kn allowed fits below stands' (room-after in_function watch high n.scalars m.scalars _ room) clean in
      let first : ListSim slots n m n' m' _ (assign n.scalars (pos 0)) (assign m.scalars (pos 0)) = record {
        end = slots';
        stands = stands';
        more = omega arith;
        others = omega arith;
        back = λ g f is. agrees-less base depth in_function low saved watch high fixed slots n m x stands g f is;
        same = declare-simulates base depth in_function low saved watch high fixed slots n m x stands fresh (omega (arith, grow, bound)) (pos 0);
      } in
      let U = with_arguments lengths n' arguments (λ values. called ce values (to_target target n')) in
      let P = execute lengths (resolved_statement block m') in
      let whole = in_list slots' n' m' n' (names_behind block m') U P part in
      after slots n m n' m' n' (names_behind block m') (assign n.scalars (pos 0))
      (assign m.scalars (pos 0)) U (λ s. then_do (P s) GoesOn) first (ended slots' n' m' n' (names_behind block m') U P whole)
  call-list c false slots n m x lx line target at arguments k ce co kn allowed fits fit below stands room none =
      let r = copied base depth in
      let block = call_block site line target co arguments in
      let part = block-sim c slots n m line target at arguments k ce co kn allowed fits below stands room (none_front (statement_faults c block m) [] none) in
      let U = with_arguments lengths n arguments (λ values. called ce values (to_target target n)) in
      let P = execute lengths (resolved_statement block m) in
      ended slots n m n (names_behind block m) U P (in_list slots n m n (names_behind block m) U P part)

  -- ---- statements

  array-back : (slots : ℕ → ℕ) (n : Names) (symbol size : ℕ) (words : List ℤ) (g f : ℕ → ℤ) → Here slots (with_array n symbol size words) g f → Here slots n g f
  array-back slots n symbol size words g f is = record {
    live = λ i kn. is.live i (known-more n.innermost n.outer symbol i (slot.Array (length n.lengths)) kn);
    kept = is.kept;
    above =
        is.above;
    stale = is.stale;
  }

  array-forth : (slots : ℕ → ℕ) (n : Names) (symbol size : ℕ) (words : List ℤ) (g f : ℕ → ℤ) → Here slots n g f → Here slots (with_array n symbol size words) g f
  array-forth slots n symbol size words g f is = record {
    live = λ i kn. by i (known-split n.innermost n.outer symbol i (slot.Array (length n.lengths)) kn);
    kept = is.kept;
    above =
        is.above;
    stale = is.stale;
  }
    where
      by : (i : ℕ) → InScopes (scopes n) i ⊎ (slot.Array (length n.lengths) ≡ slot.Scalar i) → g i ≡ f (slots i)
      by i (inl kn) = is.live i kn
      by i (inr same) = cc

  -- after a declarator
  scalar-first : (kind : Bool) (symbol line : ℕ) (initial : Option SourceExpression) (slots : ℕ → ℕ) (n m : Names) (J : Relation) (F G : ProgramState → Completion) → Stand slots n m →
      Stand (extended slots n.scalars m.scalars) (with_scalar n symbol) (with_scalar m (copied base depth symbol)) →
      Simulates (Here slots n) (Here (extended slots n.scalars m.scalars) (with_scalar n symbol)) J F G →
      ListSim slots n m (with_scalar n symbol) (names_behind_list (declarator_list kind (copied base depth symbol) line initial) m) J F G
  unfolding names_behind
  scalar-first kind symbol line None slots n m J F G stands stands' sim = record {
    end = extended slots n.scalars m.scalars;
    stands = stands';
    more = omega arith;
    others = omega arith;
    back = λ g f is. agrees-less base depth in_function low saved watch high fixed slots n m symbol stands g f is;
    same = sim;
  }
  scalar-first true symbol line (Some e) slots n m J F G stands stands' sim = record {
    end = extended slots n.scalars m.scalars;
    stands = stands';
    more = omega arith;
    others = omega arith;
    back = λ g f is. agrees-less base depth in_function low saved watch high fixed slots n m symbol stands g f is;
    same = sim;
  }
  scalar-first false symbol line (Some e) slots n m J F G stands stands' sim = record {
    end = extended slots n.scalars m.scalars;
    stands = stands';
    more = omega arith;
    others = omega arith;
    back = λ g f is. agrees-less base depth in_function low saved watch high fixed slots n m symbol stands g f is;
    same = sim;
  }

  -- a call in a list, by its target
  call-first : {J : Relation} (c : Bool) (slots : ℕ → ℕ) (n m : Names) (line : ℕ) (target : Option Target) (at : ℕ) (arguments : List SourceExpression) (k : Option ℕ)
      (ce : Option Callee) (co : Option Copy) →
      Known lengths base depth k ce co → call_refusals k (length arguments) at ≡ [] → target_is_below base target ≡ true → all_below base arguments ≡ true → Stand slots n m →
      Room in_function watch high (TargetPair target n.scalars m.scalars) n.scalars m.scalars (with_target target n).scalars
      (names_behind_list (call_list site target (call_block site line target co arguments)) m).scalars →
      list_faults c (call_list site target (call_block site line target co arguments)) m ≡ [] →
      ListSim slots n m (with_target target n) (names_behind_list (call_list site target (call_block site line target co arguments)) m) J
      (λ s. then_do (target_declared target n s) (with_arguments lengths (with_target target n) arguments (λ values. called ce values (to_target target (with_target target n)))))
      (execute_list lengths (resolved_list (call_list site target (call_block site line target co arguments)) m))
  unfolding statement_faults names_behind resolved_statement
  call-first c slots n m line None at arguments k ce co kn allowed fits below stands room none =
      let block = call_block site line None co arguments in
      let part = block-sim c slots n m line None at arguments k ce co kn allowed fits below stands room (none_front (statement_faults c block m) [] none) in
      let U = with_arguments lengths n arguments (λ values. called ce values (to_target None n)) in
      let P = execute lengths (resolved_statement block m) in
      ended slots n m n (names_behind block m) U P (in_list slots n m n (names_behind block m) U P part)
  call-first c slots n m line (Some target) at arguments k ce co kn allowed fits below stands room none =
      call-list c target.declared slots n m target.symbol target.line line (Some target) at arguments k ce co kn allowed fits fits below stands room none

  -- a call that declares nothing, in a place for one
  call-part : {J : Relation} (c d : Bool) (slots : ℕ → ℕ) (n m : Names) (x lx line : ℕ) (target : Option Target) (at : ℕ) (arguments : List SourceExpression) (k : Option ℕ)
      (ce : Option Callee) (co : Option Copy) → d ≡ false →
      Known lengths base depth k ce co → call_refusals k (length arguments) at ≡ [] → target_is_below base target ≡ true → all_below base arguments ≡ true → Stand slots n m →
      Room in_function watch high (DeclaredPair d n.scalars m.scalars) n.scalars m.scalars (if d then with_scalar n x else n).scalars
      (names_behind (in_one (if d then More (ScalarDeclaration (copied base depth x) lx None)
      (More (call_block site line target co arguments) No_more) else More (call_block site line target co arguments) No_more)) m).scalars →
      statement_faults c (in_one (if d then More (ScalarDeclaration (copied base depth x) lx None)
      (More (call_block site line target co arguments) No_more) else More (call_block site line target co arguments) No_more)) m ≡ [] →
      PartSim slots n m (if d then with_scalar n x else n)
      (names_behind (in_one (if d then More (ScalarDeclaration (copied base depth x) lx None)
      (More (call_block site line target co arguments) No_more) else More (call_block site line target co arguments) No_more)) m) J
      (λ s. then_do (if d then assign n.scalars (pos 0) s else GoesOn s)
      (with_arguments lengths (if d then with_scalar n x else n) arguments (λ values. called ce values (to_target target (if d then with_scalar n x else n)))))
      (execute lengths (resolved_statement (in_one (if d then More (ScalarDeclaration (copied base depth x) lx None)
      (More (call_block site line target co arguments) No_more) else More (call_block site line target co arguments) No_more)) m))
  call-part c true slots n m x lx line target at arguments k ce co part kn allowed fits below stands room none = cc
  call-part c false slots n m x lx line target at arguments k ce co part kn allowed fits below stands room none =
      block-sim c slots n m line target at arguments k ce co kn allowed fits below stands room none

  loop-part : {J : Relation} (slots : ℕ → ℕ) (n m n' m' : Names) (F G : ProgramState → Completion) (F' G' : ProgramState → Completion) → PartSim slots n m n' m' (Here slots n) F G →
      Simulates (Here slots n) (Here slots n) J F' G' → PartSim slots n m n' m' J F' G'
  loop-part slots n m n' m' F G F' G' part sim = record { inner = part.inner; outer = part.outer; stands = part.stands; more = part.more; others = part.others; same = sim }

  mutual
    unfolding Declares perform inlined unit_names_after is_proper statement_refusals statement_faults resolved_statement names_behind

    pub part-simulates : (s : UnitStatement) (b c : Bool) (slots : ℕ → ℕ) (n m : Names) (J : Relation) → declares_nothing s ≡ true → is_proper base s ≡ true →
        statement_refusals known in_function b s ≡ [] →
        statement_faults c (inlined site s) m ≡ [] → (in_function ≡ false → b ≡ c) → Stand slots n m →
        Room in_function watch high (Declares site s n m) n.scalars m.scalars (unit_names_after s n).scalars (names_behind (inlined site s) m).scalars →
        (b ≡ true → (g f : ℕ → ℤ) → Here slots n g f → J g f) →
        PartSim slots n m (unit_names_after s n) (names_behind (inlined site s) m) J (perform w s n) (execute lengths (resolved_statement (inlined site s) m))
    part-simulates (Block items) b c slots n m J part proper allowed none same stands room enter =
        leave slots n m _ _ (perform_list w items (entered n)) (execute_list lengths (resolved_list (inlined_list site items) (entered m))) stands
        (list-simulates items b c slots (entered n) (entered m) J proper allowed none same (stands-entered base depth in_function low watch fixed slots n m stands)
        (record { bound = room.bound; placed = room.placed; told = room.told })
        (λ yes' g f is. enter yes' g f (enter-list slots n g f is)))
    part-simulates (Scalar symbol line initial) b c slots n m J part proper allowed none same stands room enter = cc
    part-simulates (Array symbol line at length values) b c slots n m J part proper allowed none same stands room enter = cc
    part-simulates (Assign symbol line index bracket op at value) b c slots n m J part proper allowed none same stands room enter =
        let one = and_true _ _ proper in
        let two = and_true _ _ one.1 in
        leaf slots n m _ _ stands (assignment-simulates base depth in_function low saved watch high fixed lengths slots n m stands room.bound symbol line index bracket op at value one.0
        two.0 two.1 none)
    part-simulates (Print line value) b c slots n m J part proper allowed none same stands room enter =
        let e = eval lengths (resolved_expression m (renamed (copied base depth) value)) in
        leaf slots n m _ _ stands
        (do_with-simulates (eval lengths (resolved_expression n value)) e (λ v s. GoesOn (add_printed v s)) (λ v s. GoesOn (add_printed v s))
        (value-same base depth in_function low saved watch high fixed lengths slots n m stands value proper (none_rest (depth_faults (need (renamed (copied base depth) value)) line) _ none))
        (λ v. record { same = λ a f is. goes (add_printed v a) f is }))
    part-simulates (Eval line value) b c slots n m J part proper allowed none same stands room enter =
        let e = eval lengths (resolved_expression m (renamed (copied base depth) value)) in
        leaf slots n m _ _ stands
        (do_with-simulates (eval lengths (resolved_expression n value)) e (λ v. GoesOn) (λ v. GoesOn)
        (value-same base depth in_function low saved watch high fixed lengths slots n m stands value proper (none_rest (depth_faults (need (renamed (copied base depth) value)) line) _ none))
        (λ v. GoesOn-simulates))
    part-simulates (If line test body otherwise) b c slots n m J part proper allowed none same stands room enter =
        let r = copied base depth in
        let one = and_true _ _ proper in
        let two = and_true _ _ one.1 in
        let three = and_true _ _ two.0 in
        let clean = none_rest (depth_faults (need (renamed r test)) line) _ (none_front (measured_faults m line (renamed r test)) _ none) in
        let rest = none_rest (measured_faults m line (renamed r test)) _ none in
        let m1 = names_behind (inlined site body) m in
        let n1 = unit_names_after body n in
        let first = part-simulates body b c slots n m J three.0 three.1 (none_front _ (optional_refusals known in_function b otherwise) allowed)
        (none_front _ (branch_faults c (inlined_optional site otherwise) m1) rest) same stands
        (room-first in_function watch high _ _ _ _ _ _ _ _ room (optional-span base in_function site otherwise two.1 n1 m1)) enter in
        let second = optional-simulates otherwise b c slots n1 m1 J two.1 (none_rest (statement_refusals known in_function b body) _ allowed)
        (none_rest (statement_faults c (inlined site body) m) _ rest) same first.stands
        (room-rest in_function watch high _ _ _ _ _ _ _ _ room (part-span base in_function site body three.0 three.1 n m))
        (λ yes' g f is. enter yes' g f (agrees-moved base depth in_function low saved watch high fixed slots n1 n (sym first.inner) (sym first.outer) g f is)) in
        let a = first.more in let a' = second.more in let d = first.others in let d' = second.others in
        let U1 = perform w body n in
        let P1 = execute lengths (resolved_statement (inlined site body) m) in
        let U2 = perform_optional w otherwise n1 in
        let P2 = execute_optional lengths (resolved_branch (inlined_optional site otherwise) m1) in
        record {
          inner = second.inner ∙ first.inner;
          outer = second.outer ∙ first.outer;
          stands = second.stands;
          more = omega (arith, a, a');
          others = omega (arith, d, d');
          same = do_with-simulates (eval lengths (resolved_expression n test)) (eval lengths (resolved_expression m (renamed r test))) (λ v. side v U1 U2) (λ v. side v P1 P2)
              (value-same base depth in_function low saved watch high fixed lengths slots n m stands test one.0 clean)
              (λ v. side-simulates v U1 P1 U2 P2 first.same (moved slots n n1 U2 P2 first.inner first.outer second.same));
        }
    part-simulates (While line test body) b c slots n m J part proper allowed none same stands room enter =
        let r = copied base depth in
        let one = and_true _ _ proper in
        let two = and_true _ _ one.1 in
        let clean = none_rest (depth_faults (need (renamed r test)) line) _ (none_front (measured_faults m line (renamed r test)) _ none) in
        let inside = part-simulates body true true slots n m (Here slots n) two.0 two.1 allowed (none_rest (measured_faults m line (renamed r test)) _ none)
        (λ main. refl) stands room (λ yes' g f is. is) in
        let U = perform w body n in
        let P = execute lengths (resolved_statement (inlined site body) m) in
        loop-part slots n m _ _ U P _ _ inside
        (loop_from-simulates (eval lengths (resolved_expression n test)) (eval lengths (resolved_expression m (renamed r test))) GoesOn GoesOn U P
        (value-same base depth in_function low saved watch high fixed lengths slots n m stands test one.0 clean) GoesOn-simulates inside.same)
    part-simulates (Do line body test) b c slots n m J part proper allowed none same stands room enter =
        let r = copied base depth in
        let one = and_true _ _ proper in
        let two = and_true _ _ one.0 in
        let m1 = names_behind (inlined site body) m in
        let n1 = unit_names_after body n in
        let inside = part-simulates body true true slots n m (Here slots n) two.0 two.1 allowed (none_front (statement_faults true (inlined site body) m) _ none)
        (λ main. refl) stands room (λ yes' g f is. is) in
        let clean = none_rest (depth_faults (need (renamed r test)) line) _ (none_rest (statement_faults true (inlined site body) m) _ none) in
        let U = perform w body n in
        let P = execute lengths (resolved_statement (inlined site body) m) in
        loop-part slots n m _ _ U P _ _ inside
        (do_loop-simulates (eval lengths (resolved_expression n1 test)) (eval lengths (resolved_expression m1 (renamed r test))) U P
        (moved-value slots n n1 _ _ inside.inner inside.outer (value-same base depth in_function low saved watch high fixed lengths slots n1 m1 inside.stands test one.1 clean)) inside.same)
    part-simulates (For line first test step body) b c slots n m J part proper allowed none same stands room enter =
        let r = copied base depth in
        let one = and_true _ _ proper in
        let two = and_true _ _ one.1 in
        let three = and_true _ _ two.1 in
        let four = and_true _ _ three.1 in
        let n1 = unit_names_after_list first (entered n) in
        let m1 = names_behind_list (inlined_list site first) (entered m) in
        let n2 = unit_names_after_optional step n1 in
        let m2 = names_behind_optional (inlined_optional site step) m1 in
        let span1 = list-span base in_function site first one.0 (entered n) (entered m) in
        let span2 = optional-span base in_function site step three.0 n1 m1 in
        let span3 = part-span base in_function site body four.0 four.1 n2 m2 in
        let room1 = room-first in_function watch high _ _ _ _ _ _ _ _ room (span-join _ _ _ _ _ _ _ _ span2 span3) in
        let room23 = room-rest in_function watch high _ _ _ _ _ _ _ _ room span1 in
        let room2 = room-first in_function watch high _ _ _ _ _ _ _ _ room23 span3 in
        let room3 = room-rest in_function watch high _ _ _ _ _ _ _ _ room23 span2 in
        let begun = list-simulates first b c slots (entered n) (entered m) J one.0 (none_front _ (optional_refusals known in_function b step ++ statement_refusals known in_function true body) allowed)
        (none_front (list_faults c (inlined_list site first) (entered m)) _ none) same (stands-entered base depth in_function low watch fixed slots n m stands)
        room1
        (λ yes' g f is. enter yes' g f (enter-list slots n g f is)) in
        let refused = none_rest (list_refusals known in_function b first) _ allowed in
        let rest = none_rest (list_faults c (inlined_list site first) (entered m)) _ none in
        let clean = none_rest (depth_faults (need (renamed r test)) line) _ (none_front (measured_faults m1 line (renamed r test)) _ rest) in
        let parts = none_rest (measured_faults m1 line (renamed r test)) _ rest in
        let stepped = optional-simulates step b c begun.end n1 m1 J three.0 (none_front _ (statement_refusals known in_function true body) refused)
        (none_front (branch_faults c (inlined_optional site step) m1) _ parts) same begun.stands room2 (λ yes' g f is. enter yes' g f (enter-list slots n g f (begun.back g f is))) in
        let turned = part-simulates body true true begun.end n2 m2 (Here begun.end n1) four.0 four.1 (none_rest (optional_refusals known in_function b step) _ refused)
        (none_rest (branch_faults c (inlined_optional site step) m1) _ parts) (λ main. refl) stepped.stands room3
        (λ yes' g f is. agrees-moved base depth in_function low saved watch high fixed begun.end n2 n1 (sym stepped.inner) (sym stepped.outer) g f is) in
        let a = begun.more in let a' = stepped.more in let a'' = turned.more in
        let d = begun.others in let d' = stepped.others in let d'' = turned.others in
        let U1 = perform_list w first (entered n) in
        let P1 = execute_list lengths (resolved_list (inlined_list site first) (entered m)) in
        let U2 = perform_optional w step n1 in
        let P2 = execute_optional lengths (resolved_branch (inlined_optional site step) m1) in
        let U3 = perform w body n2 in
        let P3 = execute lengths (resolved_statement (inlined site body) m2) in
        let T = eval lengths (resolved_expression n1 test) in
        let T' = eval lengths (resolved_expression m1 (renamed r test)) in
        let whole : ListSim slots (entered n) (entered m) (unit_names_after body n2) (names_behind (inlined site body) m2) J (λ s. then_do (U1 s) (loop_from T U2 U3))
        (λ s. then_do (P1 s) (loop_from T' P2 P3)) = record {
          end = begun.end;
          stands = turned.stands;
          more = omega (arith, a, a', a'');
          others = omega (arith, d, d', d'');
          back = λ g f is. begun.back g f (agrees-moved base depth in_function low saved watch high fixed begun.end n2 n1 (sym stepped.inner) (sym stepped.outer) g f
              (agrees-moved base depth in_function low saved watch high fixed begun.end (unit_names_after body n2) n2 (sym turned.inner) (sym turned.outer) g f is));
          same = then_do-simulates U1 P1 (loop_from T U2 U3) (loop_from T' P2 P3) begun.same
              (adapted (loop_from T U2 U3) (loop_from T' P2 P3)
              (loop_from-simulates T T' U2 P2 U3 P3 (value-same base depth in_function low saved watch high fixed lengths begun.end n1 m1 begun.stands test two.0 clean) stepped.same
              (moved begun.end n1 n2 U3 P3 stepped.inner stepped.outer turned.same))
              (λ g f is. is)
              (λ g f is. agrees-moved base depth in_function low saved watch high fixed begun.end n2 (unit_names_after body n2) turned.inner turned.outer g f
              (agrees-moved base depth in_function low saved watch high fixed begun.end n1 n2 stepped.inner stepped.outer g f is)));
        } in
        leave slots n m _ _ _ _ stands whole
    part-simulates (Break line) b c slots n m J part proper allowed none same stands room enter =
        leaf slots n m _ _ stands (record { same = λ a f is. breaks a f (enter (jump-known in_function b c _ _ allowed none same) a.scalars f is) })
    part-simulates (Continue line) b c slots n m J part proper allowed none same stands room enter =
        leaf slots n m _ _ stands (record { same = λ a f is. continues a f (enter (jump-known in_function b c _ _ allowed none same) a.scalars f is) })
    part-simulates (Return line value) b c slots n m J part proper allowed none same stands room enter =
        let e = eval lengths (resolved_expression m (renamed (copied base depth) value)) in
        leaf slots n m _ _ stands
        (do_with-simulates (eval lengths (resolved_expression n value)) e (λ v. Returns) (λ v. Returns)
        (value-same base depth in_function low saved watch high fixed lengths slots n m stands value proper (none_rest (depth_faults (need (renamed (copied base depth) value)) line) _ none))
        (λ v. record { same = λ a f is. returns a f }))
    part-simulates Empty b c slots n m J part proper allowed none same stands room enter = leaf slots n m GoesOn GoesOn stands GoesOn-simulates
    part-simulates (Call line None function at arguments) b c slots n m J part proper allowed none same stands room enter =
        block-sim c slots n m line None at arguments (known function) (callees function) (copies function)
        (calls function) allowed refl (and_true true (all_below base arguments) proper).1 stands room none
    part-simulates (Call line (Some target) function at arguments) b c slots n m J part proper allowed none same stands room enter =
        let fine = and_true _ _ proper in
        call-part c target.declared slots n m target.symbol target.line line (Some target) at arguments (known function) (callees function) (copies function) (not_true target.declared part)
        (calls function) allowed fine.0 fine.1 stands room none

    optional-simulates : (s : UnitOptional) (b c : Bool) (slots : ℕ → ℕ) (n m : Names) (J : Relation) → optional_is_proper base s ≡ true → optional_refusals known in_function b s ≡ [] →
        branch_faults c (inlined_optional site s) m ≡ [] → (in_function ≡ false → b ≡ c) → Stand slots n m →
        Room in_function watch high (Declares_optional site s n m) n.scalars m.scalars (unit_names_after_optional s n).scalars
        (names_behind_optional (inlined_optional site s) m).scalars → (b ≡ true → (g f : ℕ → ℤ) → Here slots n g f → J g f) →
        PartSim slots n m (unit_names_after_optional s n) (names_behind_optional (inlined_optional site s) m) J (perform_optional w s n)
        (execute_optional lengths (resolved_branch (inlined_optional site s) m))
    optional-simulates Without b c slots n m J proper allowed none same stands room enter = leaf slots n m GoesOn GoesOn stands GoesOn-simulates
    optional-simulates (With s) b c slots n m J proper allowed none same stands room enter =
        let both = and_true _ _ proper in part-simulates s b c slots n m J both.0 both.1 allowed none same stands room enter

    pub list-simulates : (items : UnitList) (b c : Bool) (slots : ℕ → ℕ) (n m : Names) (J : Relation) → list_is_proper base items ≡ true → list_refusals known in_function b items ≡ [] →
        list_faults c (inlined_list site items) m ≡ [] → (in_function ≡ false → b ≡ c) → Stand slots n m →
        Room in_function watch high (Declares_list site items n m) n.scalars m.scalars (unit_names_after_list items n).scalars (names_behind_list (inlined_list site items) m).scalars →
        (b ≡ true → (g f : ℕ → ℤ) → Here slots n g f → J g f) →
        ListSim slots n m (unit_names_after_list items n) (names_behind_list (inlined_list site items) m) J (perform_list w items n) (execute_list lengths (resolved_list (inlined_list site items) m))
    list-simulates Finish b c slots n m J proper allowed none same stands room enter =
        record { end = slots; stands = stands; more = omega arith; others = omega arith; back = λ g f is. is; same = GoesOn-simulates }
    list-simulates (Item (Scalar symbol line initial) rest) b c slots n m J proper allowed none same stands room enter =
        let r = copied base depth in
        let both = and_true _ _ proper in
        let fine = and_true _ _ both.0 in
        let front = declarator_list in_function (r symbol) line (renamed_optional r initial) in
        let parts = sym (faults-appended c front (inlined_list site rest) m) ∙ none in
        let here = none_front (list_faults c front m) _ parts in
        let D = Declares_list site (Item (Scalar symbol line initial) rest) n m in
        let m1 = names_behind_list front m in
        let rooms = subst (λ (z : Names). Room in_function watch high D n.scalars m.scalars (unit_names_after_list rest (with_scalar n symbol)).scalars z.scalars)
        (names-appended front (inlined_list site rest) m) room in
        let room1 = room-first in_function watch high _ _ _ _ _ _ _ _ rooms (list-span base in_function site rest both.1 (with_scalar n symbol) m1) in
        let one = declarator-names base in_function site in_function (r symbol) line (renamed_optional r initial) m in
        let room2 = room-rest in_function watch high _ _ _ _ _ _ _ _ rooms (span-pair n.scalars m.scalars m1.scalars (omega (arith, one))) in
        let fresh = room-fresh in_function watch high n.scalars m.scalars m1.scalars (omega (arith, one)) room1 in
        let bound = room1.bound in
        let stands' = stands-scalar base depth in_function low watch fixed slots n m symbol (less_of symbol base fine.0) stands fresh in
        let U = declarator in_function lengths n.scalars (resolved_optional (with_scalar n symbol) initial) in
        let first : ListSim slots n m (with_scalar n symbol) (names_behind_list front m) J U (execute_list lengths (resolved_list front m)) =
        scalar-first in_function symbol line (renamed_optional r initial) slots n m J U (execute_list lengths (resolved_list front m)) stands stands'
        (declarator-simulates base depth in_function low saved watch high fixed lengths in_function c slots n m stands fresh (λ main. room1.told main n.scalars m.scalars (refl, refl))
        (omega (arith, one, bound)) symbol line initial fine.0 fine.1 here) in
        let second = list-simulates rest b c first.end (with_scalar n symbol) (names_behind_list front m) J both.1 allowed (none_rest (list_faults c front m) _ parts) same first.stands room2
        (λ yes' g f is. enter yes' g f (first.back g f is)) in
        after-list slots n m (with_scalar n symbol) (unit_names_after_list rest (with_scalar n symbol)) front (inlined_list site rest) U (perform_list w rest (with_scalar n symbol)) first second
    list-simulates (Item (Array symbol line at size values) rest) b c slots n m J proper allowed none same stands room enter =
        let both = and_true _ _ proper in
        let main = main-known in_function _ (none_front _ (list_refusals known in_function b rest) allowed) in
        let words = data_of values in
        let n1 = with_array n symbol size words in
        let m1 = with_array m (copied base depth symbol) size words in
        let first : ListSim slots n m n1 m1 J GoesOn GoesOn = record {
          end = slots;
          stands = stands-array base depth in_function low watch fixed slots n m symbol size words main (less_of symbol base both.0) stands;
          more = omega arith;
          others = omega arith;
          back = λ g f is. array-back slots n symbol size words g f is;
          same = record { same = λ a f is. goes a f (array-forth slots n symbol size words a.scalars f is) };
        } in
        let second = list-simulates rest b c first.end n1 m1 J both.1 (none_rest (statement_refusals known in_function b (Array symbol line at size values)) _ allowed)
        (none_rest (array_faults m (copied base depth symbol) line at size values) _ none) same first.stands
        (room-rest in_function watch high _ _ _ _ _ _ _ _ room (span-none n.scalars m.scalars m.scalars (omega arith))) (λ yes' g f is. enter yes' g f (first.back g f is)) in
        after slots n m n1 m1 _ _ GoesOn GoesOn (perform_list w rest n1) (execute_list lengths (resolved_list (inlined_list site rest) m1)) first second
    list-simulates (Item (Call line target function at arguments) rest) b c slots n m J proper allowed none same stands room enter =
        let both = and_true _ _ proper in
        let fine = and_true _ _ both.0 in
        let front = call_list site target (call_block site line target (copies function) arguments) in
        let parts = sym (faults-appended c front (inlined_list site rest) m) ∙ none in
        let D = Declares_list site (Item (Call line target function at arguments) rest) n m in
        let rooms = subst (λ (z : Names). Room in_function watch high D n.scalars m.scalars (unit_names_after_list rest (with_target target n)).scalars z.scalars)
        (names-appended front (inlined_list site rest) m) room in
        let room1 = room-first in_function watch high _ _ _ _ _ _ _ _ rooms (list-span base in_function site rest both.1 (with_target target n) (names_behind_list front m)) in
        let room2 = room-rest in_function watch high _ _ _ _ _ _ _ _ rooms (call-span base in_function site target (call_block site line target (copies function) arguments) n m) in
        let first = call-first c slots n m line target at arguments (known function) (callees function) (copies function) (calls function)
        (none_front _ (list_refusals known in_function b rest) allowed) fine.0 fine.1 stands room1 (none_front (list_faults c front m) _ parts) in
        let n1 = with_target target n in
        let m1 = names_behind_list front m in
        let second = list-simulates rest b c first.end n1 m1 J both.1 (none_rest (call_refusals (known function) (length arguments) at) _ allowed)
        (none_rest (list_faults c front m) _ parts) same first.stands room2 (λ yes' g f is. enter yes' g f (first.back g f is)) in
        after-list slots n m n1 (unit_names_after_list rest n1) front (inlined_list site rest) (perform w (Call line target function at arguments) n) (perform_list w rest n1) first second
    list-simulates (Item s rest) b c slots n m J proper allowed none same stands room enter =
        let both = and_true _ _ proper in
        let n1 = unit_names_after s n in
        let m1 = names_behind (inlined site s) m in
        let part = part-simulates s b c slots n m J refl both.0 (none_front _ (list_refusals known in_function b rest) allowed)
        (none_front (statement_faults c (inlined site s) m) _ none) same stands
        (room-first in_function watch high _ _ _ _ _ _ _ _ room (list-span base in_function site rest both.1 n1 m1)) enter in
        let first = in_list slots n m n1 m1 (perform w s n) (execute lengths (resolved_statement (inlined site s) m)) part in
        let second = list-simulates rest b c first.end n1 m1 J both.1 (none_rest (statement_refusals known in_function b s) _ allowed)
        (none_rest (statement_faults c (inlined site s) m) _ none) same first.stands
        (room-rest in_function watch high _ _ _ _ _ _ _ _ room (part-span base in_function site s refl both.0 n m)) (λ yes' g f is. enter yes' g f (first.back g f is)) in
        after slots n m n1 m1 _ _ (perform w s n) (execute lengths (resolved_statement (inlined site s) m)) (perform_list w rest n1)
        (execute_list lengths (resolved_list (inlined_list site rest) m1)) first second
