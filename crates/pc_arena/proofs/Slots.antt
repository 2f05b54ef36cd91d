-- The map that a slab's entries make: what it has at a number, and what becomes of it when one slot changes.
use Rattle.std.proofs.Common.{Bool, IsSome, IsTrue, List, None, Option, Some, [], ap, arith, cond, count_by, false, get_or, inl}
use Rattle.std.proofs.Common.{inr, is_some, refl, subst, suc, sym, true, zero, ℕ, ◌+◌, ◌<◌, ◌∙◌, ◌∷◌, ◌≡◌, ◌≢◌}
use Rattle.std.proofs.lemmas.Bool.{cases_eq}
use Rattle.std.proofs.lemmas.Bool.Decides.{nat_tests}
use Rattle.std.proofs.lemmas.List.Sums.{sum_by-cons}
use Rattle.std.specs.Ordering.{nat_cmp, eq_by_cmp}
use Rattle.std.specs.Cmp.{unsigned_tied, nat_cmp_total}
use Rattle.std.specs.FinMap as map
use Rattle.std.specs.FinMap.{find, from_entries, insert, remove, get-insert, len-insert, len-empty, get-remove, get-from_entries, same_map, nat_cmp-IsAntisymmetric}
use Rattle.slab.specs.Slab.{Slab, get, entries_from, entries, Updates, ContainsKey, with_value}
use Rattle.slab.proofs.SlabLemmas.{Updates-with_value}
use Rattle.pc_arena.specs.Held.{Held, value_at, Holds}

-- a number ties with itself alone
tied_other : (q k : ℕ) → q ≢ k → eq_by_cmp nat_cmp q k ≡ false
tied_other q k differs = grind (arith, unsigned_tied q k, nat_tests)

tied_same : (q k : ℕ) → q ≡ k → eq_by_cmp nat_cmp q k ≡ true
tied_same q k same = grind (arith, unsigned_tied q k, nat_tests)

module _ {T : Type 0} where
  -- a number below those of all entries is not found
  find-below : (first : ℕ) (slots : List (Option T)) (q : ℕ) → q < first → find nat_cmp q (entries_from first slots) ≡ None
  find-below first [] q below = refl
  find-below first (None ∷ rest) q below = find-below (first + 1) rest q (omega arith)
  find-below first (Some value ∷ rest) q below =
      ap (λ b. cond b (Some value) (find nat_cmp q (entries_from (first + 1) rest))) (tied_other q first (omega arith)) ∙ find-below (first + 1) rest q (omega arith)

  -- each other one is found as in its slot
  find-at : (first : ℕ) (slots : List (Option T)) (at q : ℕ) → q ≡ first + at → find nat_cmp q (entries_from first slots) ≡ get_or slots at None
  find-at first [] at q is = refl
  find-at first (None ∷ rest) zero q is = find-below (first + 1) rest q (omega arith)
  find-at first (None ∷ rest) (suc at) q is = find-at (first + 1) rest at q (omega arith)
  find-at first (Some value ∷ rest) zero q is =
      ap (λ b. cond b (Some value) (find nat_cmp q (entries_from (first + 1) rest))) (tied_same q first (omega arith))
  find-at first (Some value ∷ rest) (suc at) q is =
      ap (λ b. cond b (Some value) (find nat_cmp q (entries_from (first + 1) rest))) (tied_other q first (omega arith)) ∙ find-at (first + 1) rest at q (omega arith)

  -- the map has at each number what the slab has
  pub held_value : (s : Slab T) (key : ℕ) → map.get (from_entries {R = nat_cmp} (entries s)) key ≡ get s key
  held_value s key = get-from_entries nat_cmp_total (entries s) key ∙ find-at 0 s.slots key key (omega arith)

  -- one more value, or another
  pub updated_values : (old new : Slab T) (key : ℕ) (value : T) → Updates old new key (Some value) → from_entries {R = nat_cmp} (entries new) ≡ insert (from_entries (entries old)) key value
  updated_values old new key value updates = same_map nat_cmp_total nat_cmp-IsAntisymmetric _ _ (λ q.
      held_value new q ∙ slot q ∙ sym (get-insert nat_cmp_total (from_entries (entries old)) key value q))
    where
      slot : (q : ℕ) → get new q ≡ cond (eq_by_cmp nat_cmp q key) (Some value) (map.get (from_entries {R = nat_cmp} (entries old)) q)
      slot q = elim (cases_eq q key) [
        | inl same ↦ ap (get new) same ∙ updates.changed ∙ sym (ap (λ b. cond b (Some value) (map.get (from_entries {R = nat_cmp} (entries old)) q)) (tied_same q key same))
        | inr differs ↦ updates.others q differs ∙ sym (held_value old q) ∙ sym (ap (λ b. cond b (Some value) (map.get (from_entries {R = nat_cmp} (entries old)) q)) (tied_other q key differs))
      ]

  -- one less
  pub fewer_values : (old new : Slab T) (key : ℕ) → Updates old new key None → from_entries {R = nat_cmp} (entries new) ≡ remove (from_entries (entries old)) key
  fewer_values old new key updates = same_map nat_cmp_total nat_cmp-IsAntisymmetric _ _ (λ q.
      held_value new q ∙ slot q ∙ sym (get-remove nat_cmp_total (from_entries (entries old)) key q))
    where
      slot : (q : ℕ) → get new q ≡ cond (eq_by_cmp nat_cmp q key) None (map.get (from_entries {R = nat_cmp} (entries old)) q)
      slot q = elim (cases_eq q key) [
        | inl same ↦ ap (get new) same ∙ updates.changed ∙ sym (ap (λ b. cond b None (map.get (from_entries {R = nat_cmp} (entries old)) q)) (tied_same q key same))
        | inr differs ↦ updates.others q differs ∙ sym (held_value old q) ∙ sym (ap (λ b. cond b None (map.get (from_entries {R = nat_cmp} (entries old)) q)) (tied_other q key differs))
      ]

  -- ---- what an arena holds, by its slab

  -- an arena holds what its slab does
  pub value_is : (s : Slab T) (h : Held T) (i id : ℕ) → from_entries {R = nat_cmp} (entries s) ≡ h.values → i ≡ id → value_at h id ≡ get s i
  value_is s h i id same at = ap (map.get h.values) (sym at) ∙ ap (λ m. map.get m i) (sym same) ∙ held_value s i

  pub is_there : (s : Slab T) (h : Held T) (i id : ℕ) → from_entries {R = nat_cmp} (entries s) ≡ h.values → i ≡ id → Holds h id → ContainsKey s i
  is_there s h i id same at there = subst IsSome (value_is s h i id same at) there

  pub now_with : (old new : Slab T) (h : Held T) (i id : ℕ) (value : T) → from_entries {R = nat_cmp} (entries old) ≡ h.values → i ≡ id → Updates old new i (Some value)
      → from_entries {R = nat_cmp} (entries new) ≡ insert h.values id value
  now_with old new h i id value same at updates = updated_values old new i value updates ∙ ap (λ m. insert m i value) same ∙ ap (λ k. insert h.values k value) at

  pub now_without : (old new : Slab T) (h : Held T) (i id : ℕ) → from_entries {R = nat_cmp} (entries old) ≡ h.values → i ≡ id → Updates old new i None
      → from_entries {R = nat_cmp} (entries new) ≡ remove h.values id
  now_without old new h i id same at updates = fewer_values old new i updates ∙ ap (λ m. remove m i) same ∙ ap (remove h.values) at

  pub now_replaced : (s : Slab T) (h : Held T) (i id : ℕ) (left value : T) → from_entries {R = nat_cmp} (entries s) ≡ h.values → i ≡ id → Holds h id → left ≡ value
      → from_entries {R = nat_cmp} (entries (with_value s i left)) ≡ insert h.values id value
  now_replaced s h i id left value same at there is =
      now_with s (with_value s i left) h i id left same at (Updates-with_value s i left (is_there s h i id same at there)) ∙ ap (insert h.values id) is

  -- a test that tells whether there is something
  pub is_tested : (b : Bool) (o : Option T) → (IsTrue b → IsSome o) → (IsSome o → IsTrue b) → b ≡ is_some o
  is_tested true (Some x) to from = refl
  is_tested true None to from = let no = to refl in absurd (cc)
  is_tested false (Some x) to from = let no = from refl in absurd (cc)
  is_tested false None to from = refl

  -- ---- how many

  len_new : (m : map.FinMap nat_cmp T) (key : ℕ) (value : T) → map.get m key ≡ None → map.len (insert m key value) ≡ map.len m + 1
  len_new m key value none = len-insert nat_cmp_total m key value ∙ ap (λ o. cond (is_some o) (map.len m) (map.len m + 1)) none

  counted_from : (first : ℕ) (slots : List (Option T)) → map.len (from_entries {R = nat_cmp} (entries_from first slots)) ≡ count_by is_some slots
  counted_from first [] = len-empty nat_cmp T
  counted_from first (None ∷ rest) = omega (arith, counted_from (first + 1) rest, sum_by-cons (λ o. cond (is_some o) 1 0) None rest)
  counted_from first (Some value ∷ rest) =
      let one = len_new (from_entries (entries_from (first + 1) rest)) first value
      (get-from_entries nat_cmp_total (entries_from (first + 1) rest) first ∙ find-below (first + 1) rest first (omega arith)) in
      omega (arith, one, counted_from (first + 1) rest, sum_by-cons (λ o. cond (is_some o) 1 0) (Some value) rest)

  -- the map has as many values as the slab
  pub counted : (s : Slab T) → map.len (from_entries {R = nat_cmp} (entries s)) ≡ count_by is_some s.slots
  counted s = counted_from 0 s.slots
