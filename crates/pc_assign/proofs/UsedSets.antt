-- Sets of used parameters, by their places.
use Rattle.std.proofs.Common.{◌≡◌, ℕ, zero, suc, ◌+◌, ◌-◌, ◌^◌, ◌<◌, ◌≤◌, inl, inr, Bool, true, false, cond, ◌&&◌, ◌||◌, List, [], ◌∷◌, length, map, take, drop, refl, sym, ◌∙◌}
use Rattle.std.proofs.Common.{ap, subst, arith, get_or}
use Rattle.std.specs.Prelude.{nat_eq, count_by}
use Rattle.std.specs.Int.{bit_at}
use Rattle.std.specs.Int.RustNames.{count_ones}
use Rattle.std.proofs.lemmas.Bool.Decides.{nat_tests}
use Rattle.std.proofs.lemmas.Nat.Bits.{bit_at-lt, bit_at_above, same_from_bits}
use Rattle.std.proofs.lemmas.List.Sums.{sum_by-take-drop}
use Rattle.pc_machine.specs.Registers.{few_registers}
use Rattle.pc_word.proofs.Truth.{decide_le}
use Rattle.pc_assign.proofs.Sets.{member_low, member_high}
use Rattle.std.proofs.lemmas.Simd.{bit_mask_l, ones-mask_l}
use Rattle.pc_word.specs.declared.item.Item.{Item}
use Rattle.pc_word.specs.declared.item.Operand.{Operand}
use Rattle.pc_word.specs.Row.{Row, Then, Either, At_leaf}
use Rattle.pc_automaton.specs.declared.automaton.AutomatonLeaf.{AutomatonLeaf}
use Rattle.pc_assign.specs.Uses.{leaf_uses, row_uses}
use Rattle.pc_assign.specs.declared.register_set.RegisterSet.{RegisterSet}
use Rattle.pc_assign.specs.models.Choosing.{bit_in, member, is_used_at, IsUsedSet}
use lib.Lanes.{mask_l}

-- ---- counts

bit_of : (bit : ℕ) (b : Bool) → bit < 2 → nat_eq bit 1 ≡ b → bit ≡ cond b 1 0
bit_of zero true h e = absurd (cc)
bit_of zero false h e = refl
bit_of (suc zero) true h e = refl
bit_of (suc zero) false h e = absurd (cc)
bit_of (suc (suc n)) b h e = absurd (omega arith)

used_at_is : (used : ℕ → Bool) (names : List ℕ) (at : ℕ) → is_used_at used names at ≡ get_or (map used names) at false
used_at_is used [] at = refl
used_at_is used (name ∷ names) zero = refl
used_at_is used (name ∷ names) (suc at) = used_at_is used names at

-- at a place of the first ones, or of the others
used_front : (used : ℕ → Bool) (names : List ℕ) (n at : ℕ) → at < n → is_used_at used names at ≡ is_used_at used (take n names) at
used_front used names zero at h = absurd (omega arith)
used_front used [] (suc n) at h = refl
used_front used (name ∷ names) (suc n) zero h = refl
used_front used (name ∷ names) (suc n) (suc at) h = used_front used names n at (omega arith)

used_past : (used : ℕ → Bool) (names : List ℕ) (n at : ℕ) → n ≤ at → is_used_at used (take n names) at ≡ false
used_past used names zero at h = refl
used_past used [] (suc n) at h = refl
used_past used (name ∷ names) (suc n) zero h = absurd (omega arith)
used_past used (name ∷ names) (suc n) (suc at) h = used_past used names n at (omega arith)

used_back : (used : ℕ → Bool) (names : List ℕ) (n at : ℕ) → is_used_at used names (n + at) ≡ is_used_at used (drop n names) at
used_back used names zero at = ap (is_used_at used names) (omega arith)
used_back used [] (suc n) at = refl
used_back used (name ∷ names) (suc n) at = let one : suc n + at ≡ suc (n + at) = omega arith in ap (is_used_at used (name ∷ names)) one ∙ used_back used names n at

-- as many bits are 1 as are used
bits_counted : (used : ℕ → Bool) (names : List ℕ) (bits : ℕ) → ((at : ℕ) → bit_in bits at ≡ is_used_at used names at) → count_ones bits ≡ count_by used names
bits_counted used names bits is =
    let same : bits ≡ mask_l (map used names) = same_from_bits bits (mask_l (map used names)) (λ at.
    bit_of (bit_at bits at) (get_or (map used names) at false) (bit_at-lt bits at) (is at ∙ used_at_is used names at)
    ∙ sym (bit_mask_l (map used names) at)) in
    ap count_ones same ∙ ones-mask_l used names

-- as many are in the set as are used
pub used_count : (used : ℕ → Bool) (names : List ℕ) (set : RegisterSet) (count : ℕ) → IsUsedSet used names set
    → count ≡ count_ones set.low + count_ones set.high → set.low < 2 ^ 128 → count ≡ count_by used names
used_count used names set count is counted small =
    let low = bits_counted used (take few_registers names) set.low (λ at. elim (decide_le few_registers at) [
      | inl above ↦ ap (λ (b : ℕ). nat_eq b 1) (bit_at_above set.low 128 at small above) ∙ sym (used_past used names few_registers at above)
      | inr below ↦ sym (member_low set at below) ∙ is at ∙ used_front used names few_registers at below
    ]) in
    let high = bits_counted used (drop few_registers names) set.high (λ at.
    let place : few_registers + at - few_registers ≡ at = omega arith in
    ap (bit_in set.high) (sym place) ∙ sym (member_high set (few_registers + at) (omega arith)) ∙ is (few_registers + at)
    ∙ used_back used names few_registers at) in
    let whole = sum_by-take-drop (λ name. cond (used name) 1 0) names few_registers in
    omega (arith, counted, low, high, whole)

-- ---- one name after the other

same_suc : (a b : ℕ) → nat_eq (suc a) (suc b) ≡ nat_eq a b
same_suc a b = by (nat_eq a b) refl
  where
    by : (c : Bool) → nat_eq a b ≡ c → nat_eq (suc a) (suc b) ≡ c
    by true is = grind (arith, nat_tests)
    by false is = grind (arith, nat_tests)

suc_zero : (a : ℕ) → nat_eq (suc a) zero ≡ false
suc_zero a = grind (arith, nat_tests)

zero_suc : (a : ℕ) → nat_eq zero (suc a) ≡ false
zero_suc a = grind (arith, nat_tests)

no_other : (b : Bool) → false ≡ ((b && false) || false)
no_other true = refl
no_other false = refl

no_more : (b c : Bool) → c ≡ ((b && false) || c)
no_more true c = refl
no_more false c = refl

alone : (b : Bool) → b ≡ ((b && true) || false)
alone true = refl
alone false = refl

used_step : (used : ℕ → Bool) (names : List ℕ) (i x : ℕ) → i < length names
    → is_used_at used (take (suc i) names) x ≡ ((used (get_or names i 0) && nat_eq x i) || is_used_at used (take i names) x)
used_step used [] i x h = absurd (omega arith)
used_step used (name ∷ names) zero zero h = alone (used name)
used_step used (name ∷ names) zero (suc x) h = no_other (used name) ∙ ap (λ (b : Bool). (used name && b) || false) (sym (suc_zero x))
used_step used (name ∷ names) (suc i) zero h =
    no_more (used (get_or names i 0)) (used name) ∙ ap (λ (b : Bool). (used (get_or names i 0) && b) || used name) (sym (zero_suc i))
used_step used (name ∷ names) (suc i) (suc x) h =
    used_step used names i x (omega arith)
    ∙ ap (λ (b : Bool). (used (get_or names i 0) && b) || is_used_at used (take i names) x) (sym (same_suc x i))

pub place_then : (used : ℕ → Bool) (names : List ℕ) (i x : ℕ) (found : Bool) → i < length names → used (get_or names i 0) ≡ true
    → found ≡ is_used_at used (take i names) x → (nat_eq x i || found) ≡ is_used_at used (take (i + 1) names) x
place_then used names i x found h is so =
    let next : suc i ≡ i + 1 = omega arith in
    ap (λ (b : Bool). nat_eq x i || b) so ∙ ap (λ (b : Bool). (b && nat_eq x i) || is_used_at used (take i names) x) (sym is)
    ∙ sym (used_step used names i x h) ∙ ap (λ (n : ℕ). is_used_at used (take n names) x) next

pub place_else : (used : ℕ → Bool) (names : List ℕ) (i x : ℕ) (found : Bool) → i < length names → used (get_or names i 0) ≡ false
    → found ≡ is_used_at used (take i names) x → found ≡ is_used_at used (take (i + 1) names) x
place_else used names i x found h is so =
    let next : suc i ≡ i + 1 = omega arith in
    so ∙ ap (λ (b : Bool). (b && nat_eq x i) || is_used_at used (take i names) x) (sym is)
    ∙ sym (used_step used names i x h) ∙ ap (λ (n : ℕ). is_used_at used (take n names) x) next

pub take_all_names : (names : List ℕ) → take (length names) names ≡ names
take_all_names [] = refl
take_all_names (x ∷ names) = ap (λ (xs : List ℕ). x ∷ xs) (take_all_names names)

-- what the set says of a place
pub used_there : (used : ℕ → Bool) (names : List ℕ) (set : RegisterSet) (at : ℕ) → IsUsedSet used names set → at < length names
    → member set at ≡ used (get_or names at 0)
used_there used names set at is h = is at ∙ there names at h
  where
    there : (xs : List ℕ) (i : ℕ) → i < length xs → is_used_at used xs i ≡ used (get_or xs i 0)
    there [] i h = absurd (omega arith)
    there (x ∷ xs) zero h = refl
    there (x ∷ xs) (suc i) h = there xs i (omega arith)

-- ---- rows

either_used : (p q : ℕ → Bool) (names : List ℕ) (at : ℕ) → is_used_at (λ name. p name || q name) names at ≡
    (is_used_at p names at || is_used_at q names at)
either_used p q [] at = refl
either_used p q (name ∷ names) zero = refl
either_used p q (name ∷ names) (suc at) = either_used p q names at

module _ (names : List ℕ) where
  pub set_then : (whole rest : Row AutomatonLeaf) (item : Item) (set : RegisterSet) → whole ≡ Then item rest → IsUsedSet (row_uses rest) names set
      → IsUsedSet (row_uses whole) names set
  set_then whole rest item set is h = subst (λ (row : Row AutomatonLeaf). IsUsedSet (row_uses row) names set) (sym is) h

  pub set_either : (whole on_yes on_no : Row AutomatonLeaf) (on : Operand) (one two set : RegisterSet) → whole ≡ Either on on_yes on_no
      → IsUsedSet (row_uses on_yes) names one → IsUsedSet (row_uses on_no) names two → ((x : ℕ) → member set x ≡ (member one x || member two x))
      → IsUsedSet (row_uses whole) names set
  set_either whole on_yes on_no on one two set is h k both = subst (λ (row : Row AutomatonLeaf). IsUsedSet (row_uses row) names set) (sym is)
      (λ at. both at ∙ (λ i. h at i || k at i) ∙ sym (either_used (row_uses on_yes) (row_uses on_no) names at))

  pub set_leaf : (whole : Row AutomatonLeaf) (leaf : AutomatonLeaf) (set : RegisterSet) → whole ≡ At_leaf leaf → IsUsedSet (leaf_uses leaf) names set
      → IsUsedSet (row_uses whole) names set
  set_leaf whole leaf set is h = subst (λ (row : Row AutomatonLeaf). IsUsedSet (row_uses row) names set) (sym is) h

pub ruleset sets = (set_then, set_either, set_leaf, used_count)
