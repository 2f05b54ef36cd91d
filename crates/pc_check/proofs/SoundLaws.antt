-- A program without faults is resolved to one whose names are slots that there are.
use Rattle.std.proofs.Common.{◌≡◌, refl, ap, ◌∙◌, sym, subst, ℕ, ℤ, ◌+◌, ◌<◌, ◌≤◌, Bool, true, false, cond, List, [], ◌∷◌, ◌++◌, length, Option, Some, None, nat_lt, nat_le, nat_eq, not, arith}
use Rattle.std.specs.Option.{option_or}
use Rattle.std.specs.Map.{lookup}
use Rattle.std.proofs.lemmas.List.{length-append}
use Rattle.pc_word.specs.SourceLimits.{most_temporaries}
use Rattle.pc_word.proofs.Truth.{and_made}
use Rattle.pc_syntax.specs.declared.operator.BinaryOp.{BinaryOp}
use Rattle.pc_syntax.specs.Source.{SourceExpression, Literal, Variable, Input, Indexed, Prefixed, Combined, Conjunction, Disjunction, Conditional}
use Rattle.pc_syntax.specs.Source.{SourceStatement, Scope, ScalarDeclaration, ArrayDeclaration, Assignment, Printing, Evaluation, Branch, WhileLoop}
use Rattle.pc_syntax.specs.Source.{DoLoop, ForLoop, BreakOut, ContinueOn, ReturnFrom, Nothing, OptionalStatement, Absent, Present, SourceList}
use Rattle.pc_syntax.specs.Source.{No_more, More}
use Rattle.pc_check.specs.declared.error.CheckError.{CheckError}
use Rattle.pc_check.specs.declared.error.CheckError.TheVariants as fault
use Rattle.pc_check.specs.declared.slot.Slot.{Slot}
use Rattle.pc_check.specs.declared.slot.Slot.TheVariants as slot
use Rattle.pc_check.specs.Needs.{hold, need, optional_need, assignment_need}
use Rattle.pc_check.specs.InitialData.{data_of}
use Rattle.pc_check.specs.Names as names
use Rattle.pc_check.specs.Names.{Names, no_names, found, found_in, entered, left, with_scalar, with_array}
use Rattle.pc_check.specs.Faults.{scalar_use, array_use, expression_faults, optional_faults, depth_faults, fault_if, measured_faults, scalar_faults}
use Rattle.pc_check.specs.Faults.{names_behind, names_behind_optional, names_behind_list, target_use, statement_faults, branch_faults}
use Rattle.pc_check.specs.Faults.{list_faults}
use Rattle.pc_check.specs.Resolution.{number_in_slot, slot_number, resolved_expression, resolved_optional, resolved_statement, resolved_branch, resolved_list}
use Rattle.pc_check.specs.Sound.{has_slots, optional_has_slots, is_measured, has_target, is_sound, branch_is_sound, list_is_sound}

-- ---- resolving changes no need

hold-resolved : (n : Names) (e : SourceExpression) → hold (resolved_expression n e) ≡ hold e
unfolding resolved_expression
hold-resolved n (Literal value) = refl
hold-resolved n (Variable symbol line) = refl
hold-resolved n (Input line) = refl
hold-resolved n (Indexed symbol line at index) = refl
hold-resolved n (Prefixed op operand) = refl
hold-resolved n (Combined op at left right) = refl
hold-resolved n (Conjunction left right) = refl
hold-resolved n (Disjunction left right) = refl
hold-resolved n (Conditional test one other) = refl

-- a resolved expression needs as many temporaries as the expression
pub need-resolved : (n : Names) (e : SourceExpression) → need (resolved_expression n e) ≡ need e
unfolding need resolved_expression
need-resolved n (Literal value) = refl
need-resolved n (Variable symbol line) = refl
need-resolved n (Input line) = refl
need-resolved n (Indexed symbol line at index) =
    let i = need-resolved n index in let h = hold-resolved n index in cc
need-resolved n (Prefixed op operand) = let i = need-resolved n operand in cc
need-resolved n (Combined op at left right) =
    let l = need-resolved n left in let r = need-resolved n right in let h = hold-resolved n left in cc
need-resolved n (Conjunction left right) =
    let l = need-resolved n left in let r = need-resolved n right in cc
need-resolved n (Disjunction left right) =
    let l = need-resolved n left in let r = need-resolved n right in cc
need-resolved n (Conditional test one other) =
    let t = need-resolved n test in let l = need-resolved n one in let r = need-resolved n other in cc

optional_need-resolved : (n : Names) (e : Option SourceExpression) → optional_need (resolved_optional n e) ≡ optional_need e
optional_need-resolved n None = refl
optional_need-resolved n (Some e) = need-resolved n e

assignment_need-resolved : (n : Names) (index : Option SourceExpression) (op : Option BinaryOp) (value : SourceExpression) →
    assignment_need (resolved_optional n index) op (resolved_expression n value) ≡ assignment_need index op value
assignment_need-resolved n None None value = need-resolved n value
assignment_need-resolved n None (Some op) value = let v = need-resolved n value in cc
assignment_need-resolved n (Some index) None value =
    let i = need-resolved n index in let v = need-resolved n value in
    let h = hold-resolved n index in let k = hold-resolved n value in cc
assignment_need-resolved n (Some index) (Some op) value =
    let i = need-resolved n index in let v = need-resolved n value in let h = hold-resolved n index in cc

-- ---- lists without faults

pub none_front : (front rest : List CheckError) → front ++ rest ≡ [] → front ≡ []
none_front [] rest none = refl
none_front (first ∷ others) rest none = cc

pub none_rest : (front rest : List CheckError) → front ++ rest ≡ [] → rest ≡ []
none_rest [] rest none = none
none_rest (first ∷ others) rest none = cc

-- a statement that is not too deep
shallow : (needed line : ℕ) → depth_faults needed line ≡ [] → nat_le needed most_temporaries ≡ true
shallow needed line none = by (nat_lt most_temporaries needed) refl none
  where
    by : (b : Bool) → nat_lt most_temporaries needed ≡ b → fault_if b (fault.TooDeep line) ≡ [] → nat_le needed most_temporaries ≡ true
    by true is none = cc
    by false is none = grind arith

-- ---- slots that there are

-- a slot is below the counts
abbrev SlotFits : ℕ → ℕ → Option Slot → Type 0
SlotFits scalars arrays None = Unit {0}
SlotFits scalars arrays (Some (slot.Scalar number)) = number < scalars
SlotFits scalars arrays (Some (slot.Array number)) = number < arrays

-- every name stands for a slot below the counts
record Known (n : Names) (scalars arrays : ℕ) : Type 0 where
  fits : (symbol : ℕ) → SlotFits scalars arrays (found n symbol)

fits_more : (o : Option Slot) (s a s' a' : ℕ) → s ≤ s' → a ≤ a' → SlotFits s a o → SlotFits s' a' o
fits_more None s a s' a' more others is = tt
fits_more (Some (slot.Scalar number)) s a s' a' more others is = omega arith
fits_more (Some (slot.Array number)) s a s' a' more others is = omega arith

known_more : (n : Names) (s a s' a' : ℕ) → s ≤ s' → a ≤ a' → Known n s a → Known n s' a'
known_more n s a s' a' more others known =
    record { fits = λ symbol. fits_more (found n symbol) s a s' a' more others (known.fits symbol) }

-- the names that are in scope stand for slots below the counts of the names
abbrev Sane : Names → Type 0
Sane n = Known n n.scalars (length n.lengths)

lookup-snoc : (test : ℕ → Bool) (scope : names.Scope) (entry : ℕ × Slot) →
    lookup test (scope ++ entry ∷ []) ≡ option_or (lookup test scope) (lookup test (entry ∷ []))
lookup-snoc test [] entry = refl
lookup-snoc test (first ∷ others) entry = by (test first.0) (lookup-snoc test others entry)
  where
    by : (b : Bool) → lookup test (others ++ entry ∷ []) ≡ option_or (lookup test others) (lookup test (entry ∷ [])) →
        cond b (Some first.1) (lookup test (others ++ entry ∷ []))
        ≡ option_or (cond b (Some first.1) (lookup test others)) (lookup test (entry ∷ []))
    by true rest = refl
    by false rest = rest

-- one more slot in the innermost scope
fits_with : (inner new outer : Option Slot) (s a s' a' : ℕ) → s ≤ s' → a ≤ a' → SlotFits s a (option_or inner outer) →
    SlotFits s' a' new → SlotFits s' a' (option_or (option_or inner new) outer)
fits_with (Some x) new outer s a s' a' more others is one = fits_more (Some x) s a s' a' more others is
fits_with None (Some x) outer s a s' a' more others is one = one
fits_with None None outer s a s' a' more others is one = fits_more outer s a s' a' more others is

-- a name that is there, or not
fits_one : (b : Bool) (x : Slot) (s a : ℕ) → SlotFits s a (Some x) → SlotFits s a (cond b (Some x) None)
fits_one true x s a is = is
fits_one false x s a is = tt

known-with : (n : Names) (symbol : ℕ) (x : Slot) (s a : ℕ) (after : Names) → n.scalars ≤ s → length n.lengths ≤ a → Sane n → SlotFits s a (Some x) →
    after.innermost ≡ n.innermost ++ (symbol, x) ∷ [] → after.outer ≡ n.outer → Known after s a
known-with n symbol x s a after more others sane fits inner outer =
    let P : names.Scope → Type 0 = λ scope. (k : ℕ) → SlotFits s a (option_or (lookup (nat_eq k) scope) (found_in n.outer k)) in
    let Q : List names.Scope → Type 0 = λ scopes. (k : ℕ) → SlotFits s a (option_or (lookup (nat_eq k) after.innermost) (found_in scopes k)) in
    let there : P (n.innermost ++ (symbol, x) ∷ []) = λ k.
    let R : Option Slot → Type 0 = λ o. SlotFits s a (option_or o (found_in n.outer k)) in
    subst R (sym (lookup-snoc (nat_eq k) n.innermost (symbol, x)))
    (fits_with (lookup (nat_eq k) n.innermost) _ (found_in n.outer k) n.scalars (length n.lengths) s a more others (sane.fits k)
    (fits_one (nat_eq k symbol) x s a fits)) in
    record { fits = subst Q (sym outer) (subst P (sym inner) there) }

sane-with_scalar : (n : Names) (symbol : ℕ) → Sane n → Sane (with_scalar n symbol)
sane-with_scalar n symbol sane =
    known-with n symbol (slot.Scalar n.scalars) (n.scalars + 1) (length n.lengths) (with_scalar n symbol) (omega arith) (omega arith) sane (omega arith) refl refl

sane-with_array : (n : Names) (symbol size : ℕ) (words : List ℤ) → Sane n → Sane (with_array n symbol size words)
sane-with_array n symbol size words sane =
    let longer : length (n.lengths ++ size ∷ []) ≡ length n.lengths + 1 = length-append n.lengths (size ∷ []) in
    known-with n symbol (slot.Array (length n.lengths)) n.scalars (length (n.lengths ++ size ∷ [])) (with_array n symbol size words)
    (omega arith) (omega arith) sane (omega arith) refl refl

-- ---- counts only grow

record Grows (before after : Names) : Type 0 where
  scalars : before.scalars ≤ after.scalars
  arrays : length before.lengths ≤ length after.lengths

grows-refl : (n : Names) → Grows n n
grows-refl n = record { scalars = omega arith; arrays = omega arith }

grows-trans : (a b c : Names) → Grows a b → Grows b c → Grows a c
grows-trans a b c one two =
    let i = one.scalars in let j = two.scalars in let k = one.arrays in let l = two.arrays in
    record { scalars = omega arith; arrays = omega arith }

grows-scalar : (n : Names) (symbol : ℕ) → Grows n (with_scalar n symbol)
grows-scalar n symbol = record { scalars = omega arith; arrays = omega arith }

grows-array : (n : Names) (symbol size : ℕ) (words : List ℤ) → Grows n (with_array n symbol size words)
grows-array n symbol size words =
    let longer : length (n.lengths ++ size ∷ []) ≡ length n.lengths + 1 = length-append n.lengths (size ∷ []) in
    record { scalars = omega arith; arrays = omega arith }

mutual
  unfolding names_behind

  -- a statement uses up slots and gives none back
  grows : (s : SourceStatement) (n : Names) → Grows n (names_behind s n)
  grows (Scope items) n = let is = grows-list items (entered n) in record { scalars = is.scalars; arrays = is.arrays }
  grows (ScalarDeclaration symbol line initial) n = grows-scalar n symbol
  grows (ArrayDeclaration symbol line at size values) n = grows-array n symbol size (data_of values)
  grows (Assignment symbol line index bracket op at value) n = grows-refl n
  grows (Printing line value) n = grows-refl n
  grows (Evaluation line value) n = grows-refl n
  grows (Branch line test body otherwise) n =
      grows-trans n (names_behind body n) _ (grows body n) (grows-optional otherwise (names_behind body n))
  grows (WhileLoop line test body) n = grows body n
  grows (DoLoop line body test) n = grows body n
  grows (ForLoop line first test step body) n =
      let begun = names_behind_list first (entered n) in
      let stepped = names_behind_optional step begun in
      let is = grows-trans (entered n) begun _ (grows-list first (entered n))
      (grows-trans begun stepped _ (grows-optional step begun) (grows body stepped)) in
      record { scalars = is.scalars; arrays = is.arrays }
  grows (BreakOut line) n = grows-refl n
  grows (ContinueOn line) n = grows-refl n
  grows (ReturnFrom line value) n = grows-refl n
  grows Nothing n = grows-refl n

  grows-optional : (s : OptionalStatement) (n : Names) → Grows n (names_behind_optional s n)
  grows-optional Absent n = grows-refl n
  grows-optional (Present s) n = grows s n

  grows-list : (s : SourceList) (n : Names) → Grows n (names_behind_list s n)
  grows-list No_more n = grows-refl n
  grows-list (More first rest) n = grows-trans n (names_behind first n) _ (grows first n) (grows-list rest (names_behind first n))

-- a scope that was left: its names are those before it, and the counts have grown
sane-left : (before inside : Names) → Sane before → before.scalars ≤ inside.scalars → length before.lengths ≤ length inside.lengths → Sane (left before inside)
sane-left before inside sane more others =
    record { fits = λ k. fits_more (found before k) before.scalars (length before.lengths) inside.scalars (length inside.lengths) more others (sane.fits k) }

sane-entered : (n : Names) → Sane n → Sane (entered n)
sane-entered n sane = record { fits = λ k. sane.fits k }

mutual
  unfolding names_behind

  sane-behind : (s : SourceStatement) (n : Names) → Sane n → Sane (names_behind s n)
  sane-behind (Scope items) n sane =
      let is = grows-list items (entered n) in sane-left n (names_behind_list items (entered n)) sane is.scalars is.arrays
  sane-behind (ScalarDeclaration symbol line initial) n sane = sane-with_scalar n symbol sane
  sane-behind (ArrayDeclaration symbol line at size values) n sane = sane-with_array n symbol size (data_of values) sane
  sane-behind (Assignment symbol line index bracket op at value) n sane = sane
  sane-behind (Printing line value) n sane = sane
  sane-behind (Evaluation line value) n sane = sane
  sane-behind (Branch line test body otherwise) n sane = sane-optional otherwise (names_behind body n) (sane-behind body n sane)
  sane-behind (WhileLoop line test body) n sane = sane-behind body n sane
  sane-behind (DoLoop line body test) n sane = sane-behind body n sane
  sane-behind (ForLoop line first test step body) n sane =
      let begun = names_behind_list first (entered n) in
      let stepped = names_behind_optional step begun in
      let is = grows-trans (entered n) begun _ (grows-list first (entered n))
      (grows-trans begun stepped _ (grows-optional step begun) (grows body stepped)) in
      sane-left n (names_behind body stepped) sane is.scalars is.arrays
  sane-behind (BreakOut line) n sane = sane
  sane-behind (ContinueOn line) n sane = sane
  sane-behind (ReturnFrom line value) n sane = sane
  sane-behind Nothing n sane = sane

  sane-optional : (s : OptionalStatement) (n : Names) → Sane n → Sane (names_behind_optional s n)
  sane-optional Absent n sane = sane
  sane-optional (Present s) n sane = sane-behind s n sane

  sane-list : (s : SourceList) (n : Names) → Sane n → Sane (names_behind_list s n)
  sane-list No_more n sane = sane
  sane-list (More first rest) n sane = sane-list rest (names_behind first n) (sane-behind first n sane)

-- ---- expressions

ok_scalar : (o : Option Slot) (line scalars arrays : ℕ) → scalar_use o line ≡ [] → SlotFits scalars arrays o → nat_lt (number_in_slot o) scalars ≡ true
ok_scalar None line scalars arrays none is = cc
ok_scalar (Some (slot.Scalar number)) line scalars arrays none is = grind arith
ok_scalar (Some (slot.Array number)) line scalars arrays none is = cc

ok_array : (o : Option Slot) (line scalars arrays : ℕ) → array_use o line ≡ [] → SlotFits scalars arrays o → nat_lt (number_in_slot o) arrays ≡ true
ok_array None line scalars arrays none is = cc
ok_array (Some (slot.Scalar number)) line scalars arrays none is = cc
ok_array (Some (slot.Array number)) line scalars arrays none is = grind arith

expression-sound : (n : Names) (s a : ℕ) → Known n s a → (e : SourceExpression) → expression_faults n e ≡ [] → has_slots s a (resolved_expression n e) ≡ true
unfolding expression_faults resolved_expression has_slots
expression-sound n s a known (Literal value) none = refl
expression-sound n s a known (Variable symbol line) none = ok_scalar (found n symbol) line s a none (known.fits symbol)
expression-sound n s a known (Input line) none = refl
expression-sound n s a known (Indexed symbol line at index) none =
    and_made _ _ (ok_array (found n symbol) line s a (none_front _ (expression_faults n index) none) (known.fits symbol))
    (expression-sound n s a known index (none_rest (array_use (found n symbol) line) _ none))
expression-sound n s a known (Prefixed op operand) none = expression-sound n s a known operand none
expression-sound n s a known (Combined op at left right) none =
    and_made _ _ (expression-sound n s a known left (none_front _ (expression_faults n right) none))
    (expression-sound n s a known right (none_rest (expression_faults n left) _ none))
expression-sound n s a known (Conjunction left right) none =
    and_made _ _ (expression-sound n s a known left (none_front _ (expression_faults n right) none))
    (expression-sound n s a known right (none_rest (expression_faults n left) _ none))
expression-sound n s a known (Disjunction left right) none =
    and_made _ _ (expression-sound n s a known left (none_front _ (expression_faults n right) none))
    (expression-sound n s a known right (none_rest (expression_faults n left) _ none))
expression-sound n s a known (Conditional test one other) none =
    let rest = none_rest (expression_faults n test) (expression_faults n one ++ expression_faults n other) none in
    and_made _ _ (expression-sound n s a known test (none_front _ (expression_faults n one ++ expression_faults n other) none))
    (and_made _ _ (expression-sound n s a known one (none_front _ (expression_faults n other) rest))
    (expression-sound n s a known other (none_rest (expression_faults n one) _ rest)))

optional-sound : (n : Names) (s a : ℕ) → Known n s a → (e : Option SourceExpression) → optional_faults n e ≡ [] → optional_has_slots s a (resolved_optional n e) ≡ true
optional-sound n s a known None none = refl
optional-sound n s a known (Some e) none = expression-sound n s a known e none

measured-sound : (n : Names) (s a line : ℕ) → Known n s a → (e : SourceExpression) → measured_faults n line e ≡ [] → is_measured s a (resolved_expression n e) ≡ true
measured-sound n s a line known e none =
    and_made _ _ (ap (λ (k : ℕ). nat_le k most_temporaries) (need-resolved n e) ∙ shallow (need e) line (none_front _ (expression_faults n e) none))
    (expression-sound n s a known e (none_rest (depth_faults (need e) line) _ none))

target-sound : (n : Names) (s a : ℕ) → Known n s a → (index : Option SourceExpression) (symbol line : ℕ) → target_use n index symbol line ≡ [] →
    has_target s a (resolved_optional n index) (slot_number n symbol) ≡ true
target-sound n s a known None symbol line none = ok_scalar (found n symbol) line s a none (known.fits symbol)
target-sound n s a known (Some index) symbol line none = ok_array (found n symbol) line s a none (known.fits symbol)

-- ---- statements

-- the counts of names are at most these
record Below (n : Names) (s a : ℕ) : Type 0 where
  scalars : n.scalars ≤ s
  arrays : length n.lengths ≤ a

below_before : (before after : Names) (s a : ℕ) → Grows before after → Below after s a → Below before s a
below_before before after s a more is =
    let i = more.scalars in let j = more.arrays in let k = is.scalars in let l = is.arrays in
    record { scalars = omega arith; arrays = omega arith }

known_at : (n : Names) (s a : ℕ) → Sane n → Below n s a → Known n s a
known_at n s a sane is = known_more n n.scalars (length n.lengths) s a is.scalars is.arrays sane

jump-sound : (in_loop : Bool) (line : ℕ) → fault_if (not in_loop) (fault.OutsideLoop line) ≡ [] → in_loop ≡ true
jump-sound true line none = refl
jump-sound false line none = cc

mutual
  unfolding names_behind statement_faults resolved_statement is_sound

  statement-sound : (s a : ℕ) (in_loop : Bool) (x : SourceStatement) (n : Names) → Sane n → Below (names_behind x n) s a →
      statement_faults in_loop x n ≡ [] → is_sound s a in_loop (resolved_statement x n) ≡ true
  statement-sound s a in_loop (Scope items) n sane fits none =
      list-sound s a in_loop items (entered n) (sane-entered n sane) (record { scalars = fits.scalars; arrays = fits.arrays }) none
  statement-sound s a in_loop (ScalarDeclaration symbol line initial) n sane fits none =
      let rest = none_rest (scalar_faults n symbol line) _ none in
      let inside = with_scalar n symbol in
      let below = fits.scalars in
      let lt : n.scalars < s = omega arith in
      and_made _ _ (grind arith)
      (and_made _ _ (ap (λ (k : ℕ). nat_le k most_temporaries) (optional_need-resolved inside initial) ∙ shallow (optional_need initial) line (none_front _ (optional_faults inside initial) rest))
      (optional-sound inside s a (known_at inside s a (sane-with_scalar n symbol sane) fits) initial (none_rest (depth_faults (optional_need initial) line) _ rest)))
  statement-sound s a in_loop (ArrayDeclaration symbol line at size values) n sane fits none =
      let longer : length (n.lengths ++ size ∷ []) ≡ length n.lengths + 1 = length-append n.lengths (size ∷ []) in
      let below = fits.arrays in
      let lt : length n.lengths < a = omega arith in
      grind arith
  statement-sound s a in_loop (Assignment symbol line index bracket op at value) n sane fits none =
      let known = known_at n s a sane fits in
      let rest = none_rest (target_use n index symbol line) _ none in
      let parts = none_rest (depth_faults (assignment_need index op value) line) _ rest in
      and_made _ _ (target-sound n s a known index symbol line (none_front _ (depth_faults (assignment_need index op value) line ++ (optional_faults n index ++ expression_faults n value)) none))
      (and_made _ _ (ap (λ (k : ℕ). nat_le k most_temporaries) (assignment_need-resolved n index op value)
      ∙ shallow (assignment_need index op value) line (none_front _ (optional_faults n index ++ expression_faults n value) rest))
      (and_made _ _ (optional-sound n s a known index (none_front _ (expression_faults n value) parts))
      (expression-sound n s a known value (none_rest (optional_faults n index) _ parts))))
  statement-sound s a in_loop (Printing line value) n sane fits none = measured-sound n s a line (known_at n s a sane fits) value none
  statement-sound s a in_loop (Evaluation line value) n sane fits none = measured-sound n s a line (known_at n s a sane fits) value none
  statement-sound s a in_loop (Branch line test body otherwise) n sane fits none =
      let middle = names_behind body n in
      let at = below_before middle _ s a (grows-optional otherwise middle) fits in
      let start = below_before n middle s a (grows body n) at in
      let rest = none_rest (measured_faults n line test) _ none in
      and_made _ _ (measured-sound n s a line (known_at n s a sane start) test (none_front _ (statement_faults in_loop body n ++ branch_faults in_loop otherwise middle) none))
      (and_made _ _ (statement-sound s a in_loop body n sane at (none_front _ (branch_faults in_loop otherwise middle) rest))
      (branch-sound s a in_loop otherwise middle (sane-behind body n sane) fits (none_rest (statement_faults in_loop body n) _ rest)))
  statement-sound s a in_loop (WhileLoop line test body) n sane fits none =
      let start = below_before n (names_behind body n) s a (grows body n) fits in
      and_made _ _ (measured-sound n s a line (known_at n s a sane start) test (none_front _ (statement_faults true body n) none))
      (statement-sound s a true body n sane fits (none_rest (measured_faults n line test) _ none))
  statement-sound s a in_loop (DoLoop line body test) n sane fits none =
      let middle = names_behind body n in
      and_made _ _ (statement-sound s a true body n sane fits (none_front _ (measured_faults middle line test) none))
      (measured-sound middle s a line (known_at middle s a (sane-behind body n sane) fits) test (none_rest (statement_faults true body n) _ none))
  statement-sound s a in_loop (ForLoop line first test step body) n sane fits none =
      let begun = names_behind_list first (entered n) in
      let stepped = names_behind_optional step begun in
      let ended = names_behind body stepped in
      let at_end : Below ended s a = record { scalars = fits.scalars; arrays = fits.arrays } in
      let at_body = below_before stepped ended s a (grows body stepped) at_end in
      let at_step = below_before begun stepped s a (grows-optional step begun) at_body in
      let sane_first = sane-list first (entered n) (sane-entered n sane) in
      let sane_step = sane-optional step begun sane_first in
      let rest = none_rest (list_faults in_loop first (entered n)) _ none in
      let turn = none_rest (measured_faults begun line test) _ rest in
      and_made _ _ (list-sound s a in_loop first (entered n) (sane-entered n sane) at_step
      (none_front _ (measured_faults begun line test ++ (branch_faults in_loop step begun ++ statement_faults true body stepped)) none))
      (and_made _ _ (measured-sound begun s a line (known_at begun s a sane_first at_step) test (none_front _ (branch_faults in_loop step begun ++ statement_faults true body stepped) rest))
      (and_made _ _ (branch-sound s a in_loop step begun sane_first at_body (none_front _ (statement_faults true body stepped) turn))
      (statement-sound s a true body stepped sane_step at_end (none_rest (branch_faults in_loop step begun) _ turn))))
  statement-sound s a in_loop (BreakOut line) n sane fits none = jump-sound in_loop line none
  statement-sound s a in_loop (ContinueOn line) n sane fits none = jump-sound in_loop line none
  statement-sound s a in_loop (ReturnFrom line value) n sane fits none = measured-sound n s a line (known_at n s a sane fits) value none
  statement-sound s a in_loop Nothing n sane fits none = refl

  branch-sound : (s a : ℕ) (in_loop : Bool) (x : OptionalStatement) (n : Names) → Sane n → Below (names_behind_optional x n) s a →
      branch_faults in_loop x n ≡ [] → branch_is_sound s a in_loop (resolved_branch x n) ≡ true
  branch-sound s a in_loop Absent n sane fits none = refl
  branch-sound s a in_loop (Present x) n sane fits none = statement-sound s a in_loop x n sane fits none

  list-sound : (s a : ℕ) (in_loop : Bool) (x : SourceList) (n : Names) → Sane n → Below (names_behind_list x n) s a →
      list_faults in_loop x n ≡ [] → list_is_sound s a in_loop (resolved_list x n) ≡ true
  list-sound s a in_loop No_more n sane fits none = refl
  list-sound s a in_loop (More first rest) n sane fits none =
      let middle = names_behind first n in
      let at = below_before middle _ s a (grows-list rest middle) fits in
      and_made _ _ (statement-sound s a in_loop first n sane at (none_front _ (list_faults in_loop rest middle) none))
      (list-sound s a in_loop rest middle (sane-behind first n sane) fits (none_rest (statement_faults in_loop first n) _ none))

-- nothing is declared at the start
sane-start : Sane no_names
sane-start = record { fits = λ k. tt }

-- the statements of a program without faults, resolved, have slots below the counts of what they declare
pub program-sound : (items : SourceList) → list_faults false items no_names ≡ [] →
    list_is_sound (names_behind_list items no_names).scalars (length (names_behind_list items no_names).lengths) false (resolved_list items no_names) ≡ true
program-sound items none =
    list-sound (names_behind_list items no_names).scalars (length (names_behind_list items no_names).lengths) false items no_names sane-start
    (record { scalars = omega arith; arrays = omega arith }) none
