-- What a checked program keeps, as its lowering takes it: more scalars than it has, and no more loops than nodes.
use Rattle.std.proofs.Common.{◌≡◌, ℕ, zero, suc, ◌≤◌, Bool, true, ◌&&◌, List, [], ◌∷◌, length, Option, Some, None, refl, arith}
use Rattle.std.specs.Prelude.{nat_lt, nat_le, slice_index}
use Rattle.std.specs.List.{list_all}
use Rattle.std.proofs.lemmas.Bool.Decides.{nat_tests}
use Rattle.pc_word.specs.SourceLimits.{most_scalars, most_temporaries}
use Rattle.pc_word.specs.MachineLimits.{most_arrays, most_length}
use Rattle.pc_word.proofs.Truth.{and_true, and_made}
use Rattle.pc_syntax.specs.Source.{SourceExpression, Literal, Variable, Input, Indexed, Prefixed, Combined, Conjunction, Disjunction, Conditional}
use Rattle.pc_syntax.specs.Source.{SourceStatement, Scope, ScalarDeclaration, ArrayDeclaration, Assignment, Printing, Evaluation, Branch, WhileLoop}
use Rattle.pc_syntax.specs.Source.{DoLoop, ForLoop, BreakOut, ContinueOn, ReturnFrom, Nothing, OptionalStatement, Absent, Present, SourceList, No_more, More}
use Rattle.pc_check.specs.Needs.{need, optional_need, assignment_need}
use Rattle.pc_check.specs.Sizes.{statement_size, branch_size, list_size}
use Rattle.pc_check.specs.Sound.{is_length, has_slots, optional_has_slots, is_measured, has_target, is_sound, branch_is_sound, list_is_sound}
use Rattle.pc_lower.specs.models.LowersExpression.{AreLengths}
use Rattle.pc_lower.specs.SourceLoops.{loop_count, branch_loops, list_loops}

-- ---- loops and nodes

-- each loop has a node
mutual
  unfolding loop_count statement_size

  pub loops_sized : (s : SourceStatement) → loop_count s ≤ statement_size s
  loops_sized (Scope items) = list-loops_sized items
  loops_sized (ScalarDeclaration name line initial) = omega arith
  loops_sized (ArrayDeclaration name line at size values) = omega arith
  loops_sized (Assignment name line index bracket op at value) = omega arith
  loops_sized (Printing line value) = omega arith
  loops_sized (Evaluation line value) = omega arith
  loops_sized (Branch line test body other) = let b = loops_sized body in let o = branch-loops_sized other in omega (arith, b, o)
  loops_sized (WhileLoop line test body) = let b = loops_sized body in omega (arith, b)
  loops_sized (DoLoop line body test) = let b = loops_sized body in omega (arith, b)
  loops_sized (ForLoop line first test step body) =
      let f = list-loops_sized first in let s = branch-loops_sized step in let b = loops_sized body in omega (arith, f, s, b)
  loops_sized (BreakOut line) = omega arith
  loops_sized (ContinueOn line) = omega arith
  loops_sized (ReturnFrom line value) = omega arith
  loops_sized Nothing = omega arith

  branch-loops_sized : (o : OptionalStatement) → branch_loops o ≤ branch_size o
  branch-loops_sized Absent = omega arith
  branch-loops_sized (Present s) = loops_sized s

  pub list-loops_sized : (l : SourceList) → list_loops l ≤ list_size l
  list-loops_sized No_more = omega arith
  list-loops_sized (More first rest) = let f = loops_sized first in let r = list-loops_sized rest in omega (arith, f, r)

-- ---- more scalars

-- tests of which each one follows from another's
both : (p q p' q' : Bool) → (p ≡ true → p' ≡ true) → (q ≡ true → q' ≡ true) → (p && q) ≡ true → (p' && q') ≡ true
both p q p' q' f g h = let each = and_true p q h in and_made p' q' (f each.0) (g each.1)

below_more : (i a b : ℕ) → a ≤ b → nat_lt i a ≡ true → nat_lt i b ≡ true
below_more i a b le h = grind (arith, nat_tests)

module _ (a n : ℕ) (le : a ≤ most_scalars) where
  slots_more : (e : SourceExpression) → has_slots a n e ≡ true → has_slots most_scalars n e ≡ true
  unfolding has_slots
  slots_more (Literal value) h = refl
  slots_more (Variable number line) h = below_more number a most_scalars le h
  slots_more (Input line) h = refl
  slots_more (Indexed number line at index) h = both (nat_lt number n) (has_slots a n index) (nat_lt number n) (has_slots most_scalars n index) (λ i. i) (slots_more index) h
  slots_more (Prefixed op operand) h = slots_more operand h
  slots_more (Combined op at left right) h =
      both (has_slots a n left) (has_slots a n right) (has_slots most_scalars n left) (has_slots most_scalars n right) (slots_more left) (slots_more right) h
  slots_more (Conjunction left right) h =
      both (has_slots a n left) (has_slots a n right) (has_slots most_scalars n left) (has_slots most_scalars n right) (slots_more left) (slots_more right) h
  slots_more (Disjunction left right) h =
      both (has_slots a n left) (has_slots a n right) (has_slots most_scalars n left) (has_slots most_scalars n right) (slots_more left) (slots_more right) h
  slots_more (Conditional test one other) h =
      both (has_slots a n test) (has_slots a n one && has_slots a n other) (has_slots most_scalars n test) (has_slots most_scalars n one && has_slots most_scalars n other)
      (slots_more test)
      (both (has_slots a n one) (has_slots a n other) (has_slots most_scalars n one) (has_slots most_scalars n other) (slots_more one) (slots_more other)) h

  optional_more : (o : Option SourceExpression) → optional_has_slots a n o ≡ true → optional_has_slots most_scalars n o ≡ true
  optional_more None h = refl
  optional_more (Some e) h = slots_more e h

  measured_more : (e : SourceExpression) → is_measured a n e ≡ true → is_measured most_scalars n e ≡ true
  measured_more e h =
      let few = nat_le (need e) most_temporaries in
      both few (has_slots a n e) few (has_slots most_scalars n e) (λ i. i) (slots_more e) h

  target_more : (o : Option SourceExpression) (number : ℕ) → has_target a n o number ≡ true → has_target most_scalars n o number ≡ true
  target_more None number h = below_more number a most_scalars le h
  target_more (Some index) number h = h

  mutual
    unfolding is_sound

    sound_more : (l : Bool) (s : SourceStatement) → is_sound a n l s ≡ true → is_sound most_scalars n true s ≡ true
    sound_more l (Scope items) h = list_sound_more l items h
    sound_more l (ScalarDeclaration number line initial) h =
        let few = nat_le (optional_need initial) most_temporaries in
        both (nat_lt number a) (few && optional_has_slots a n initial) (nat_lt number most_scalars) (few && optional_has_slots most_scalars n initial)
        (below_more number a most_scalars le)
        (both few (optional_has_slots a n initial) few (optional_has_slots most_scalars n initial) (λ i. i) (optional_more initial)) h
    sound_more l (ArrayDeclaration number line at size values) h = h
    sound_more l (Assignment number line index bracket op at value) h =
        let few = nat_le (assignment_need index op value) most_temporaries in
        both (has_target a n index number) (few && (optional_has_slots a n index && has_slots a n value))
        (has_target most_scalars n index number) (few && (optional_has_slots most_scalars n index && has_slots most_scalars n value))
        (target_more index number)
        (both few (optional_has_slots a n index && has_slots a n value) few (optional_has_slots most_scalars n index && has_slots most_scalars n value) (λ i. i)
        (both (optional_has_slots a n index) (has_slots a n value) (optional_has_slots most_scalars n index) (has_slots most_scalars n value)
        (optional_more index) (slots_more value))) h
    sound_more l (Printing line value) h = measured_more value h
    sound_more l (Evaluation line value) h = measured_more value h
    sound_more l (Branch line test body other) h =
        both (is_measured a n test) (is_sound a n l body && branch_is_sound a n l other)
        (is_measured most_scalars n test) (is_sound most_scalars n true body && branch_is_sound most_scalars n true other) (measured_more test)
        (both (is_sound a n l body) (branch_is_sound a n l other) (is_sound most_scalars n true body) (branch_is_sound most_scalars n true other)
        (sound_more l body) (branch_sound_more l other)) h
    sound_more l (WhileLoop line test body) h =
        both (is_measured a n test) (is_sound a n true body) (is_measured most_scalars n test) (is_sound most_scalars n true body)
        (measured_more test) (sound_more true body) h
    sound_more l (DoLoop line body test) h =
        both (is_sound a n true body) (is_measured a n test) (is_sound most_scalars n true body) (is_measured most_scalars n test)
        (sound_more true body) (measured_more test) h
    sound_more l (ForLoop line first test step body) h =
        both (list_is_sound a n l first) (is_measured a n test && (branch_is_sound a n l step && is_sound a n true body))
        (list_is_sound most_scalars n true first) (is_measured most_scalars n test && (branch_is_sound most_scalars n true step && is_sound most_scalars n true body))
        (list_sound_more l first)
        (both (is_measured a n test) (branch_is_sound a n l step && is_sound a n true body)
        (is_measured most_scalars n test) (branch_is_sound most_scalars n true step && is_sound most_scalars n true body) (measured_more test)
        (both (branch_is_sound a n l step) (is_sound a n true body) (branch_is_sound most_scalars n true step) (is_sound most_scalars n true body)
        (branch_sound_more l step) (sound_more true body))) h
    sound_more l (BreakOut line) h = refl
    sound_more l (ContinueOn line) h = refl
    sound_more l (ReturnFrom line value) h = measured_more value h
    sound_more l Nothing h = refl

    branch_sound_more : (l : Bool) (o : OptionalStatement) → branch_is_sound a n l o ≡ true → branch_is_sound most_scalars n true o ≡ true
    branch_sound_more l Absent h = refl
    branch_sound_more l (Present s) h = sound_more l s h

    pub list_sound_more : (l : Bool) (items : SourceList) → list_is_sound a n l items ≡ true → list_is_sound most_scalars n true items ≡ true
    list_sound_more l No_more h = refl
    list_sound_more l (More first rest) h =
        both (is_sound a n l first) (list_is_sound a n l rest) (is_sound most_scalars n true first) (list_is_sound most_scalars n true rest)
        (sound_more l first) (list_sound_more l rest) h

-- ---- the lengths of arrays

short_each : (arrays : List ℕ) (i : ℕ) → list_all is_length arrays ≡ true → slice_index arrays i ≤ most_length
short_each [] i h = omega arith
short_each (x ∷ xs) zero h =
    let first = and_true (is_length x) (list_all is_length xs) h in
    let le = and_true (nat_le 1 x) (nat_le x most_length) first.0 in
    short x le.1
  where
    short : (k : ℕ) → nat_le k most_length ≡ true → k ≤ most_length
    short k e = grind (arith, nat_tests)
short_each (x ∷ xs) (suc i) h = short_each xs i (and_true (is_length x) (list_all is_length xs) h).1

-- those of a checked program
pub are_lengths : (arrays : List ℕ) → length arrays ≤ most_arrays → list_all is_length arrays ≡ true → AreLengths arrays
are_lengths arrays few h = record { few = few; short = λ i. short_each arrays i h }
