-- What the table of the tests keeps.
use Rattle.std.proofs.Common.{◌≡◌, ℕ, zero, suc, ◌+◌, ◌<◌, ◌≤◌, [], ◌∷◌, Some, None, refl, sym, subst, arith}
use Rattle.std.specs.Prelude.{Bool, true, false, nat_eq, not, ◌&&◌, ◌||◌, IfSome, slice_get}
use Rattle.std.specs.List.{list_any}
use Rattle.std.proofs.lemmas.Bool.Decides.{nat_tests}
use Rattle.pc_word.specs.declared.loop_mark.LoopMark.{LoopMark}
use Rattle.pc_word.specs.MachineLimits.{most_object}
use Rattle.pc_table.specs.RegionRun.{arrive}
use Rattle.pc_table.specs.Table.{Table, TableRegion, region_tree, region_live}
use Rattle.pc_table.specs.TableKeeps.{RegionKeeps, TableKeeps, ComesUntested, By_one, By_more, untested, needs}
use Rattle.pc_emit.specs.Bytes.{object_bytes}
use Rattle.pc_code_tests.specs.Summing.{zero_tree, sum_tree, summing_table}

-- ---- where regions lead without a test

only_to_the_loop : (from to : ℕ) → untested (region_tree summing_table from) ≡ Some to → (from ≡ 0) × (to ≡ 1)
only_to_the_loop zero to e = (refl, cc)
only_to_the_loop (suc zero) to e = absurd (cc)
only_to_the_loop (suc (suc from)) to e = absurd (cc)

comes_from_0_to_1 : (from to : ℕ) → ComesUntested summing_table from to → (from ≡ 0) × (to ≡ 1)
comes_from_0_to_1 from to (By_one e) = only_to_the_loop from to e
comes_from_0_to_1 from to (By_more {mid = mid} comes e) =
    let before = comes_from_0_to_1 from mid comes in
    let last = only_to_the_loop mid to e in
    (before.0, last.1)

no_cycle : (region : ℕ) → ComesUntested summing_table region region → ⊥
no_cycle region comes = let ends = comes_from_0_to_1 region region comes in let first = ends.0 in let last = ends.1 in absurd (omega (arith, first, last))

-- ---- what is live

-- only variable 1 is needed by the loop, and nothing before it
same_test : (x : ℕ) → nat_eq x 1 ≡ nat_eq 1 x
same_test x = by (nat_eq 1 x) refl
  where
    by : (b : Bool) → nat_eq 1 x ≡ b → nat_eq x 1 ≡ b
    by true e = grind (arith, nat_tests)
    by false e = grind (arith, nat_tests)

live_there : (region x : ℕ) → needs summing_table (region_tree summing_table region) x ≡ true → list_any (nat_eq x) (region_live summing_table region) ≡ true
live_there zero x e = absurd (by (nat_eq 1 x) (subst (λ (b : Bool). (false || (not (nat_eq 1 x) && (b || false))) ≡ true) (same_test x) e))
  where
    by : (b : Bool) → (false || (not b && (b || false))) ≡ true → ⊥
    by true e = cc
    by false e = cc
live_there (suc zero) x e = by (nat_eq 0 x) (nat_eq 1 x) (nat_eq x 1) (same_test x) e
  where
    by : (a b c : Bool) → c ≡ b
        → (false || (not a && (a || (((b || a) || (not b && (c || false))) || (b || (not false && false)))))) ≡ true → (c || false) ≡ true
    by a true c same e = same_or c same
      where
        same_or : (c : Bool) → c ≡ true → (c || false) ≡ true
        same_or true h = refl
        same_or false h = cc
    by true false c same e = absurd (cc)
    by false false true same e = absurd (cc)
    by false false false same e = absurd (cc)
live_there (suc (suc region)) x e = absurd (cc)

small : (region x : ℕ) → list_any (nat_eq x) (region_live summing_table region) ≡ true → x < 96
small zero x e = absurd (cc)
small (suc zero) x e = by (nat_eq x 1) refl e
  where
    by : (b : Bool) → nat_eq x 1 ≡ b → (b || false) ≡ true → x < 96
    by true is e = grind (arith, nat_tests)
    by false is e = absurd (cc)
small (suc (suc region)) x e = absurd (cc)

-- ---- regions and loops

region_keeps : (number : ℕ) (region : TableRegion) → slice_get summing_table.regions number ≡ Some region → RegionKeeps summing_table region
region_keeps zero region e =
    let one : TableRegion = record { head = 0; tree = zero_tree; live = []; inside = None; heads = None } in
    let same : one ≡ region = (cc) in
    subst (RegionKeeps summing_table) same
    (record {
      there = (record { reads = (tt, tt); writes = omega arith; array = tt }, omega arith);
      few = omega arith;
      rising = λ k lt. absurd (let h : suc (k + 1) ≤ 0 = lt in omega arith);
      inside_there = tt;
      heads_there = tt;
    })
region_keeps (suc zero) region e =
    let one : TableRegion = record { head = 1; tree = sum_tree; live = 1 ∷ []; inside = Some 0; heads = Some 0 } in
    let same : one ≡ region = (cc) in
    subst (RegionKeeps summing_table) same
    (record {
      there = (
        record { reads = tt; writes = omega arith; array = tt },
        (
          omega arith,
          (record { reads = (omega arith, (omega arith, tt)); writes = omega arith; array = tt }, omega arith),
          (record { reads = (omega arith, tt); writes = tt; array = tt }, tt),
        ),
      );
      few = omega arith;
      rising = λ k lt. absurd (let h : suc (k + 1) ≤ 1 = lt in omega arith);
      inside_there = omega arith;
      heads_there = omega arith;
    })
region_keeps (suc (suc number)) region e = absurd (cc)

outer : (loop : ℕ) (mark : LoopMark) → slice_get summing_table.loops loop ≡ Some mark → IfSome mark.outer (λ outer. suc outer ≤ loop)
outer zero mark e =
    let one : LoopMark = record { line = 1; header = 1; outer = None } in
    let same : one ≡ mark = (cc) in
    subst (λ (m : LoopMark). IfSome m.outer (λ outer. suc outer ≤ 0)) same tt
outer (suc loop) mark e = absurd (cc)

pub summing_keeps : TableKeeps summing_table
summing_keeps = record {
  some_region = omega arith;
  few_arrays = omega arith;
  each = region_keeps;
  outer_first = outer;
  live = live_there;
  small = small;
  begins = begins;
  tested = no_cycle;
}
  where
    begins : (region : ℕ) → arrive summing_table (region_tree summing_table region) ≡ region_tree summing_table region
    begins zero = refl
    begins (suc zero) = refl
    begins (suc (suc region)) = refl

-- and so does one that is equal to it
pub summing_made : (table : Table) → table ≡ summing_table → TableKeeps table
summing_made table is = subst TableKeeps (sym is) summing_keeps

pub summing_short : object_bytes summing_table [] (λ region. None) ≤ most_object
summing_short = omega arith

pub ruleset kept = (summing_made)

pub ruleset short = (summing_short)
