-- Statements that hold no others.
use Rattle.std.proofs.Common.{◌≡◌, ℕ, ◌<◌, ◌≤◌, Bool, true, false, ◌&&◌, not, List, [], ◌++◌, Option, Some, None, refl, sym, ap, ◌∙◌, subst, arith, nat_lt}
use Rattle.std.specs.Prelude.{ℤ, pos, if◌then◌else◌, slice_index}
use Rattle.pc_word.specs.declared.item.TrapKind.TheVariants.{DivideByZero, OutOfBounds}
use Rattle.pc_word.specs.Word.{holds}
use Rattle.pc_word.specs.Items.{place_in}
use Rattle.pc_word.proofs.Truth.{less_of, and_made}
use Rattle.pc_syntax.specs.declared.operator.BinaryOp.{BinaryOp}
use Rattle.pc_syntax.specs.Source.{SourceExpression, Variable, Combined, ScalarDeclaration}
use Rattle.pc_check.specs.declared.error.CheckError.{CheckError}
use Rattle.pc_check.specs.Names.{Names, found, with_scalar}
use Rattle.pc_check.specs.Faults.{scalar_use, array_use, expression_faults, scalar_faults, depth_faults, fault_if, assignment_faults}
use Rattle.pc_check.specs.Faults.{statement_faults, list_faults, names_behind}
use Rattle.pc_check.specs.Needs.{optional_need, assignment_need}
use Rattle.pc_check.specs.Resolution.{slot_number, resolved_expression, resolved_optional, resolved_statement, resolved_list}
use Rattle.pc_meaning.specs.ProgramState.{ProgramState, set_element}
use Rattle.pc_meaning.specs.Expression.{Given, Caught, state_given, where_true, with_divisor, divides, binary_value, operate, at_place, eval}
use Rattle.pc_meaning.specs.Statement.{Completion, GoesOn, Traps, do_with, then_do, assign, store, with_place, update, assignment, execute_list}
use Rattle.pc_calls.specs.CallRun.{declarator}
use Rattle.pc_calls.specs.Inline.{copied, renamed, renamed_optional, declarator_list}
use Rattle.pc_calls.specs.Refusals.{Refusal, refused_if}
use Rattle.pc_syntax.specs.Proper.{uses_only, is_below, optional_is_below}
use Rattle.pc_calls.proofs.Matching.{Relation, goes, traps, Simulates, SameValue, then_do-simulates, do_with-simulates}
use Rattle.pc_calls.proofs.Values.{none_front, none_rest, expression-same, operate-recast}
use Rattle.pc_calls.proofs.Standing.{Arrays, extended, Fits, Stands, stands-scalar}
use Rattle.pc_calls.proofs.Agreement.{Agrees, reads-known, agrees-more, written-known, assign-simulates, declare-simulates, array-read, declared-slot, eq_made}
use Rattle.pc_calls.proofs.Standing.{found-faces, new-known}
use Rattle.pc_calls.proofs.AppendedLists.{do_with-then}
use Rattle.pc_calls.proofs.Calls.{replaced}

-- ---- jumps

-- a jump that is neither refused nor a fault stands in a loop of its function
pub jump-known : (in_function b c : Bool) (x : Refusal) (y : CheckError) → refused_if (in_function && not b) x ≡ [] → fault_if (not c) y ≡ [] → (in_function ≡ false → b ≡ c) → b ≡ true
jump-known true true c x y allowed none same = refl
jump-known true false c x y allowed none same = cc
jump-known false true c x y allowed none same = refl
jump-known false false true x y allowed none same = same refl
jump-known false false false x y allowed none same = cc

pub main-known : (in_function : Bool) (x : Refusal) → refused_if in_function x ≡ [] → in_function ≡ false
main-known true x none = cc
main-known false x none = refl

-- ---- stores

where_true-keeps : (b : Bool) (line : ℕ) (value : ℤ) (s : ProgramState) → (state_given (where_true b (Given value) (Caught DivideByZero line) s)).scalars ≡ s.scalars
where_true-keeps true line value s = refl
where_true-keeps false line value s = refl

divisor-keeps : (b : Bool) (line : ℕ) (divisor value : ℤ) (s : ProgramState) → (state_given (with_divisor b line divisor value s)).scalars ≡ s.scalars
divisor-keeps true line divisor value s = where_true-keeps (holds divisor) line value s
divisor-keeps false line divisor value s = refl

operate-same : (R : Relation) (op : BinaryOp) (line : ℕ) (a b : ℤ) → SameValue R (operate op line a b) (operate op line a b)
operate-same R op line a b = record {
  same = λ s f r. operate-recast op line a b f s;
  keeps = λ s. divisor-keeps (divides op) line b (binary_value op a b) s;
}

store-simulates : {R J : Relation} (array place : ℕ) (v : ℤ) → Simulates R R J (store array place v) (store array place v)
store-simulates array place v = record { same = λ a f r. goes (set_element array place v a) f r }

at_place-simulates : {R R' J : Relation} (place : Option ℕ) (line : ℕ) (F G : ℕ → ProgramState → Completion) → ((i : ℕ) → Simulates R R' J (F i) (G i)) →
    Simulates R R' J (at_place place (Traps OutOfBounds line) F) (at_place place (Traps OutOfBounds line) G)
at_place-simulates None line F G next = record { same = λ a f r. traps OutOfBounds line a f }
at_place-simulates (Some i) line F G next = next i

module _ (base depth : ℕ) (in_function : Bool) (low : ℕ) (saved : ℕ → ℤ) (watch : ℕ → ℕ → Type 0) (high : ℕ) (fixed : Arrays) (lengths : List ℕ) where
  abbrev Here : (ℕ → ℕ) → Names → Relation
  Here slots n = Agrees base depth in_function low saved watch high fixed slots n

  -- a value among the names of a frame and of the whole program
  pub value-same : (slots : ℕ → ℕ) (n m : Names) → Stands base depth in_function low watch fixed slots n m → (e : SourceExpression) → is_below base e ≡ true →
      expression_faults m (renamed (copied base depth) e) ≡ [] →
      SameValue (Agrees base depth in_function low saved watch high fixed slots n) (eval lengths (resolved_expression n e)) (eval lengths (resolved_expression m (renamed (copied base depth) e)))
  value-same slots n m stands e below none =
      expression-same lengths (λ x. nat_lt x base) (copied base depth) n m (Agrees base depth in_function low saved watch high fixed slots n) e
      (λ g f is. reads-known base depth in_function low saved watch high fixed slots n m stands g f is) below none

  -- a scalar is assigned by its name
  named-simulates : {J : Relation} (slots : ℕ → ℕ) (n m : Names) → Stands base depth in_function low watch fixed slots n m → m.scalars ≤ high → (x line : ℕ) → x < base →
      scalar_use (found m (copied base depth x)) line ≡ [] → (v : ℤ) →
      Simulates (Here slots n) (Here slots n) J (assign (slot_number n x) v) (assign (slot_number m (copied base depth x)) v)
  named-simulates {J = J} slots n m stands bound x line fits used v =
      let writ = written-known base depth in_function low saved watch high fixed slots n m stands x line fits used in
      let P : ℕ → Type 0 = λ i. Simulates (Here slots n) (Here slots n) J (assign i v) (assign (slot_number m (copied base depth x)) v) in
      let Q : ℕ → Type 0 = λ i. Simulates (Here slots n) (Here slots n) J (assign writ.at v) (assign i v) in
      subst P (sym writ.here) (subst Q (sym writ.there) (assign-simulates base depth in_function low saved watch high fixed slots n m stands bound writ.at writ.known v))

  updated-simulates : {J : Relation} (slots : ℕ → ℕ) (n m : Names) → Stands base depth in_function low watch fixed slots n m → (value : SourceExpression) → is_below base value ≡ true →
      expression_faults m (renamed (copied base depth) value) ≡ [] → (array : ℕ) (op : BinaryOp) (at place : ℕ) (old : ℤ) →
      Simulates (Here slots n) (Here slots n) J (λ s. do_with (eval lengths (resolved_expression n value) s) (λ b s'. do_with (operate op at old b s') (store array place)))
      (λ s. do_with (eval lengths (resolved_expression m (renamed (copied base depth) value)) s) (λ b s'. do_with (operate op at old b s') (store array place)))
  updated-simulates slots n m stands value below none array op at place old =
      do_with-simulates (eval lengths (resolved_expression n value)) (eval lengths (resolved_expression m (renamed (copied base depth) value)))
      (λ b s'. do_with (operate op at old b s') (store array place)) (λ b s'. do_with (operate op at old b s') (store array place))
      (value-same slots n m stands value below none)
      (λ b. do_with-simulates (operate op at old b) (operate op at old b) (store array place) (store array place) (operate-same (Here slots n) op at old b) (store-simulates array place))

  pub assignment-simulates : {J : Relation} (slots : ℕ → ℕ) (n m : Names) → Stands base depth in_function low watch fixed slots n m → m.scalars ≤ high →
      (x line : ℕ) (index : Option SourceExpression) (bracket : ℕ) (op : Option BinaryOp) (at : ℕ) (value : SourceExpression) → nat_lt x base ≡ true →
      optional_is_below base index ≡ true → is_below base value ≡ true →
      assignment_faults m (copied base depth x) line (renamed_optional (copied base depth) index) op (renamed (copied base depth) value) ≡ [] →
      Simulates (Here slots n) (Here slots n) J
      (assignment lengths (slot_number n x) line (resolved_optional n index) bracket op at (resolved_expression n value))
      (assignment lengths (slot_number m (copied base depth x)) line (resolved_optional m (renamed_optional (copied base depth) index)) bracket op at
      (resolved_expression m (renamed (copied base depth) value)))
  unfolding renamed resolved_expression expression_faults uses_only
  assignment-simulates slots n m stands bound x line None bracket None at value fits below' below none =
      let r = copied base depth in
      let used = none_front (scalar_use (found m (r x)) line) _ none in
      let clean = none_rest (depth_faults (assignment_need None None (renamed r value)) line) _ (none_rest (scalar_use (found m (r x)) line) _ none) in
      do_with-simulates (eval lengths (resolved_expression n value)) (eval lengths (resolved_expression m (renamed r value))) (assign (slot_number n x)) (assign (slot_number m (r x)))
      (value-same slots n m stands value below clean)
      (λ v. named-simulates slots n m stands bound x line (less_of x base fits) used v)
  assignment-simulates slots n m stands bound x line None bracket (Some op) at value fits below' below none =
      let r = copied base depth in
      let used = none_front (scalar_use (found m (r x)) line) _ none in
      let clean = none_rest (depth_faults (assignment_need None (Some op) (renamed r value)) line) _ (none_rest (scalar_use (found m (r x)) line) _ none) in
      let e = Combined op at (Variable x line) value in
      do_with-simulates (eval lengths (resolved_expression n e)) (eval lengths (resolved_expression m (renamed r e))) (assign (slot_number n x)) (assign (slot_number m (r x)))
      (value-same slots n m stands e (and_made _ _ fits below) (ap (λ (l : List CheckError). l ++ expression_faults m (renamed r value)) used ∙ clean))
      (λ v. named-simulates slots n m stands bound x line (less_of x base fits) used v)
  assignment-simulates {J = J} slots n m stands bound x line (Some index) bracket None at value fits below' below none =
      let r = copied base depth in
      let used = none_front (array_use (found m (r x)) line) _ none in
      let inside = none_rest (depth_faults (assignment_need (Some (renamed r index)) None (renamed r value)) line) _ (none_rest (array_use (found m (r x)) line) _ none) in
      let clean' = none_front (expression_faults m (renamed r index)) _ inside in
      let clean = none_rest (expression_faults m (renamed r index)) _ inside in
      let there = array-read slots (found n x) (found m (r x)) line (found-faces base depth in_function low watch fixed slots n m stands x (less_of x base fits)) used in
      let P : ℕ → Type 0 = λ i. Simulates (Here slots n) (Here slots n) J
      (assignment lengths (slot_number n x) line (Some (resolved_expression n index)) bracket None at (resolved_expression n value))
      (assignment lengths i line (Some (resolved_expression m (renamed r index))) bracket None at (resolved_expression m (renamed r value))) in
      let array = slot_number n x in
      let put = λ (i v : ℤ). with_place lengths array bracket i (λ place. store array place v) in
      subst P (sym there)
      (do_with-simulates (eval lengths (resolved_expression n index)) (eval lengths (resolved_expression m (renamed r index)))
      (λ i s. do_with (eval lengths (resolved_expression n value) s) (put i)) (λ i s. do_with (eval lengths (resolved_expression m (renamed r value)) s) (put i))
      (value-same slots n m stands index below' clean')
      (λ i. do_with-simulates (eval lengths (resolved_expression n value)) (eval lengths (resolved_expression m (renamed r value))) (put i) (put i)
      (value-same slots n m stands value below clean)
      (λ v. at_place-simulates (place_in (slice_index lengths array) i) bracket (λ place. store array place v) (λ place. store array place v) (λ place. store-simulates array place v))))
  assignment-simulates {J = J} slots n m stands bound x line (Some index) bracket (Some op) at value fits below' below none =
      let r = copied base depth in
      let used = none_front (array_use (found m (r x)) line) _ none in
      let inside = none_rest (depth_faults (assignment_need (Some (renamed r index)) (Some op) (renamed r value)) line) _ (none_rest (array_use (found m (r x)) line) _ none) in
      let clean' = none_front (expression_faults m (renamed r index)) _ inside in
      let clean = none_rest (expression_faults m (renamed r index)) _ inside in
      let there = array-read slots (found n x) (found m (r x)) line (found-faces base depth in_function low watch fixed slots n m stands x (less_of x base fits)) used in
      let P : ℕ → Type 0 = λ i. Simulates (Here slots n) (Here slots n) J
      (assignment lengths (slot_number n x) line (Some (resolved_expression n index)) bracket (Some op) at (resolved_expression n value))
      (assignment lengths i line (Some (resolved_expression m (renamed r index))) bracket (Some op) at (resolved_expression m (renamed r value))) in
      let array = slot_number n x in
      let one = update lengths array op at (resolved_expression n value) in
      let other = update lengths array op at (resolved_expression m (renamed r value)) in
      subst P (sym there)
      (do_with-simulates (eval lengths (resolved_expression n index)) (eval lengths (resolved_expression m (renamed r index)))
      (λ i. with_place lengths array bracket i one) (λ i. with_place lengths array bracket i other)
      (value-same slots n m stands index below' clean')
      (λ i. at_place-simulates (place_in (slice_index lengths array) i) bracket one other
      (λ place. record { same = λ a f is. (updated-simulates slots n m stands value below clean array op at place (a.cells array place)).same a f is })))

  -- ---- declarators

  -- what declarators come to
  pub declarator-simulates : {J : Relation} (kind in_loop : Bool) (slots : ℕ → ℕ) (n m : Names) → Stands base depth in_function low watch fixed slots n m →
      ((i j : ℕ) → watch i j → Fits n.scalars m.scalars i j) → (kind ≡ false → watch n.scalars m.scalars) → m.scalars < high → (x line : ℕ) (initial : Option SourceExpression) →
      nat_lt x base ≡ true → optional_is_below base initial ≡ true →
      list_faults in_loop (declarator_list kind (copied base depth x) line (renamed_optional (copied base depth) initial)) m ≡ [] →
      Simulates (Here slots n) (Here (extended slots n.scalars m.scalars) (with_scalar n x)) J
      (declarator kind lengths n.scalars (resolved_optional (with_scalar n x) initial))
      (execute_list lengths (resolved_list (declarator_list kind (copied base depth x) line (renamed_optional (copied base depth) initial)) m))
  unfolding statement_faults resolved_statement names_behind
  declarator-simulates true in_loop slots n m stands fresh told bound x line None fits below none =
      declare-simulates base depth in_function low saved watch high fixed slots n m x stands fresh bound (pos 0)
  declarator-simulates false in_loop slots n m stands fresh told bound x line None fits below none =
      declare-simulates base depth in_function low saved watch high fixed slots n m x stands fresh bound (pos 0)
  declarator-simulates false in_loop slots n m stands fresh told bound x line (Some e) fits below none =
      let r = copied base depth in
      let first = none_front (statement_faults in_loop (ScalarDeclaration (r x) line (Some (renamed r e))) m) [] none in
      let clean = none_rest (depth_faults (optional_need (Some (renamed r e))) line) _ (none_rest (scalar_faults m (r x) line) _ first) in
      let there = eval lengths (resolved_expression (with_scalar m (r x)) (renamed r e)) in
      replaced (λ s. do_with (eval lengths (resolved_expression (with_scalar n x) e) s) (assign n.scalars)) (λ s. do_with (there s) (assign m.scalars)) _
      (do_with-simulates (eval lengths (resolved_expression (with_scalar n x) e)) there (assign n.scalars) (assign m.scalars)
      (expression-same lengths (λ y. nat_lt y base) r (with_scalar n x) (with_scalar m (r x)) (Here slots n) e
      (λ g f is. reads-known base depth in_function low saved watch high fixed (extended slots n.scalars m.scalars) (with_scalar n x) (with_scalar m (r x))
      (stands-scalar base depth in_function low watch fixed slots n m x (less_of x base fits) stands fresh) g f
      (agrees-more base depth in_function low saved watch high fixed slots n m x stands g f is (is.stale n.scalars m.scalars (told refl)))) below clean)
      (λ v. declare-simulates base depth in_function low saved watch high fixed slots n m x stands fresh bound v))
      (λ s. sym (do_with-then (there s) (assign m.scalars) GoesOn))
  declarator-simulates {J = J} true in_loop slots n m stands fresh told bound x line (Some e) fits below none =
      let r = copied base depth in
      let n' = with_scalar n x in
      let m' = with_scalar m (r x) in
      let slots' = extended slots n.scalars m.scalars in
      let stands' = stands-scalar base depth in_function low watch fixed slots n m x (less_of x base fits) stands fresh in
      let first = none_front (statement_faults in_loop (ScalarDeclaration (r x) line None) m) _ none in
      let second = none_front (assignment_faults m' (r x) line None None (renamed r e)) [] (none_rest (statement_faults in_loop (ScalarDeclaration (r x) line None) m) _ none) in
      let used = none_front (scalar_use (found m' (r x)) line) _ second in
      let clean = none_rest (depth_faults (assignment_need None None (renamed r e)) line) _ (none_rest (scalar_use (found m' (r x)) line) _ second) in
      let slot = declared-slot m (r x) line (none_front (scalar_faults m (r x) line) _ first) in
      let there = eval lengths (resolved_expression m' (renamed r e)) in
      then_do-simulates (assign n.scalars (pos 0)) (assign m.scalars (pos 0))
      (λ s. do_with (eval lengths (resolved_expression n' e) s) (assign n.scalars)) (λ s. then_do (do_with (there s) (assign (slot_number m' (r x)))) GoesOn)
      (declare-simulates base depth in_function low saved watch high fixed slots n m x stands fresh bound (pos 0))
      (replaced (λ s. do_with (eval lengths (resolved_expression n' e) s) (assign n.scalars)) (λ s. do_with (there s) (assign m.scalars)) _
      (do_with-simulates (eval lengths (resolved_expression n' e)) there (assign n.scalars) (assign m.scalars)
      (value-same slots' n' m' stands' e below clean)
      (λ v. subst (λ (i : ℕ). Simulates (Here slots' n') (Here slots' n') J (assign n.scalars v) (assign i v))
      (ap (λ (b : Bool). if b then m.scalars else slots n.scalars) (eq_made n.scalars n.scalars refl))
      (assign-simulates base depth in_function low saved watch high fixed slots' n' m' stands' (omega (arith, bound)) n.scalars
      (new-known base depth in_function low watch fixed slots n m x line stands (less_of x base fits) (none_front (scalar_faults m (r x) line) _ first)) v)))
      (λ s. ap (λ (i : ℕ). do_with (there s) (assign i)) (sym slot) ∙ sym (do_with-then (there s) (assign (slot_number m' (r x))) GoesOn)))
