-- What the table of the tests keeps.
use Rattle.std.proofs.Common.{◌≡◌, ℕ, zero, suc, ◌+◌, ◌≤◌, ◌<◌, length, List, ap, Some, None, refl, sym, ◌∙◌, subst, arith}
use Rattle.std.specs.Prelude.{pos, Bool, true, false, not, ◌&&◌, ◌||◌, nat_eq, slice_get}
use Rattle.std.specs.List.{list_any}
use Rattle.pc_table.specs.RegionRun.{arrive}
use Rattle.pc_table.specs.Table.{Table, TableTree, TableRegion, table_regions, region_tree, region_live}
use Rattle.pc_table.specs.declared.table.Region.{Region}
use Rattle.pc_table.proofs.StoredRegions.{as_many}
use Rattle.pc_word.specs.SourceLimits.{most_nodes}
use Rattle.pc_word.specs.declared.item.Item.TheVariants.{Print}
use Rattle.pc_word.specs.declared.item.Operand.TheVariants.{Lit}
use Rattle.pc_table.specs.TableKeeps.{ItemIsThere, TreeIsThere, RegionKeeps, TableKeeps, ComesUntested, By_one, By_more, untested, needs, units}
use Rattle.pc_replay_tests.specs.JumpingTrees.{sum_tree, load_tree, over_print, over_tests, test_over_print, two_sums, region_of, jumping_table}

no_next : (region : ℕ) → untested (region_tree jumping_table region) ≡ None
no_next zero = refl
no_next (suc zero) = refl
no_next (suc (suc zero)) = refl
no_next (suc (suc (suc zero))) = refl
no_next (suc (suc (suc (suc region)))) = refl

no_cycle : (from to : ℕ) → ComesUntested jumping_table from to → ⊥
no_cycle from to (By_one e) = absurd (let none : None ≡ Some to = sym (no_next from) ∙ e in cc)
no_cycle from to (By_more {mid = mid} c e) = absurd (let none : None ≡ Some to = sym (no_next mid) ∙ e in cc)

-- no variable is needed
written_first : (b : Bool) → (not b && (b || (true && false))) ≡ false
written_first true = refl
written_first false = refl

sum_needs : (x : ℕ) → needs jumping_table sum_tree x ≡ false
sum_needs x = written_first (nat_eq 1 x)

load_needs : (x : ℕ) → needs jumping_table load_tree x ≡ false
load_needs x = written_first (nat_eq 1 x)

needs_none : (region x : ℕ) → needs jumping_table (region_tree jumping_table region) x ≡ false
needs_none zero x = sum_needs x
needs_none (suc zero) x = rw (load_needs x) refl
needs_none (suc (suc zero)) x = rw (sum_needs x) refl
needs_none (suc (suc (suc zero))) x = rw (sum_needs x) refl
needs_none (suc (suc (suc (suc region)))) x = refl

print_there : (n : ℕ) → ItemIsThere 1 (Print (Lit (pos n)))
print_there n = record { reads = (tt, tt); writes = tt; array = tt }

sum_there : TreeIsThere 1 4 sum_tree
sum_there = (record { reads = (tt, (tt, tt)); writes = omega arith; array = tt }, (record { reads = (omega arith, tt); writes = tt; array = tt }, tt))

load_there : TreeIsThere 1 4 load_tree
load_there = (
  record { reads = (tt, (tt, tt)); writes = tt; array = omega arith },
  (record { reads = (tt, tt); writes = omega arith; array = omega arith }, (record { reads = (omega arith, tt); writes = tt; array = tt }, tt)),
)

tree_keeps : (tree : TableTree) → TreeIsThere 1 4 tree → units tree ≤ 128 → RegionKeeps jumping_table (region_of tree)
tree_keeps tree there few = record {
  there = there;
  few = few;
  rising = λ k lt. absurd (let h : suc (k + 1) ≤ 0 = lt in omega arith);
  inside_there = tt;
  heads_there = tt;
}

region_keeps : (number : ℕ) (region : TableRegion) → slice_get jumping_table.regions number ≡ Some region → RegionKeeps jumping_table region
region_keeps zero region e =
    let same : region_of over_print ≡ region = (cc) in
    subst (RegionKeeps jumping_table) same (tree_keeps over_print (print_there 1, (print_there 2, sum_there)) (omega arith))
region_keeps (suc zero) region e =
    let same : region_of over_tests ≡ region = (cc) in
    subst (RegionKeeps jumping_table) same (tree_keeps over_tests (tt, (tt, (tt, load_there, tt), tt), tt) (omega arith))
region_keeps (suc (suc zero)) region e =
    let same : region_of test_over_print ≡ region = (cc) in
    subst (RegionKeeps jumping_table) same (tree_keeps test_over_print (print_there 1, (print_there 2, (tt, sum_there, tt))) (omega arith))
region_keeps (suc (suc (suc zero))) region e =
    let same : region_of two_sums ≡ region = (cc) in
    subst (RegionKeeps jumping_table) same (tree_keeps two_sums (tt, (print_there 2, sum_there), sum_there) (omega arith))
region_keeps (suc (suc (suc (suc number)))) region e = absurd (cc)

pub jumping_keeps : TableKeeps jumping_table
jumping_keeps = record {
  some_region = omega arith;
  few_arrays = omega arith;
  each = region_keeps;
  outer_first = λ loop mark e. absurd (cc);
  live = λ region x e. absurd (let h : false ≡ true = sym (needs_none region x) ∙ e in cc);
  small = λ region x e. absurd (none region x e);
  begins = begins;
  tested = λ region. no_cycle region region;
}
  where
    none : (region x : ℕ) → list_any (nat_eq x) (region_live jumping_table region) ≡ true → ⊥
    none zero x e = absurd (cc)
    none (suc zero) x e = absurd (cc)
    none (suc (suc zero)) x e = absurd (cc)
    none (suc (suc (suc zero))) x e = absurd (cc)
    none (suc (suc (suc (suc region)))) x e = absurd (cc)

    begins : (region : ℕ) → arrive jumping_table (region_tree jumping_table region) ≡ region_tree jumping_table region
    begins zero = refl
    begins (suc zero) = refl
    begins (suc (suc zero)) = refl
    begins (suc (suc (suc zero))) = refl
    begins (suc (suc (suc (suc region)))) = refl

-- and so does one that is equal to it
pub jumping_made : (table : Table) → table ≡ jumping_table → TableKeeps table
jumping_made table is = subst TableKeeps (sym is) jumping_keeps

-- it has four regions
pub jumping_few : (regions : List Region) → table_regions regions ≡ jumping_table.regions → length regions ≤ most_nodes
jumping_few regions is =
    let many = as_many regions in
    let four : length (table_regions regions) ≡ 4 = ap (λ (rs : List TableRegion). length rs) is in
    omega (arith, many, four)

pub ruleset jumping = (jumping_made, jumping_few)
