-- A region that follows another without a test has fewer that follow it.
use Rattle.std.proofs.Common.{◌≡◌, ℕ, zero, suc, ◌<◌, ◌≤◌, List, [], ◌∷◌, Option, Some, None, length, refl, sym, ◌∙◌, ap, arith, eqb}
use Rattle.std.proofs.Common.{inl, inr}
use Rattle.std.specs.Prelude.{Bool, true, false, slice_get}
use Rattle.pc_window.proofs.Uses.{nat_eq-tells}
use Rattle.std.specs.List.{IsDistinct, AllByRecursion, list_any}
use Rattle.std.proofs.lemmas.Map.Steps.{length-le_from_distinct_below}
use Rattle.pc_table.specs.Table.{TableTree, Does, Asks, Next, Stops_here, Traps_here, TableRegion, Table, tree_of, region_tree}
use Rattle.pc_table.specs.TableKeeps.{TableKeeps, TreeIsThere, ComesUntested, By_one, By_more, untested}
use Rattle.pc_window.specs.models.Ranks.{rank_above, untested_run, rank}
use Rattle.pc_word.proofs.Truth.{or_first, or_second, or_true}

-- a region that follows is in the table
untested_there : (arrays regions next : ℕ) (tree : TableTree) → TreeIsThere arrays regions tree → untested tree ≡ Some next → next < regions
untested_there arrays regions next (Does origin item rest) there is = untested_there arrays regions next rest there.1 is
untested_there arrays regions next (Asks origin on on_yes on_no) there is = absurd (cc)
untested_there arrays regions next (Next region) there is = let same : region ≡ next = (cc) in omega arith
untested_there arrays regions next Stops_here there is = absurd (cc)
untested_there arrays regions next (Traps_here kind line) there is = absurd (cc)

module _ (table : Table) (keeps : TableKeeps table) where
  next_there : (region next : ℕ) → untested (region_tree table region) ≡ Some next → next < length table.regions
  next_there region next is = by_region (slice_get table.regions region) refl is
    where
      by_region : (r : Option TableRegion) → slice_get table.regions region ≡ r → untested (tree_of r) ≡ Some next → next < length table.regions
      by_region None at e = absurd (cc)
      by_region (Some r) at e = untested_there (length table.arrays) (length table.regions) next r.tree (keeps.each region r at).there e

  -- one region before
  comes_before : (from mid to : ℕ) → untested (region_tree table from) ≡ Some mid → ComesUntested table mid to → ComesUntested table from to
  comes_before from mid to is (By_one e) = By_more (By_one is) e
  comes_before from mid to is (By_more {mid = between} c e) = By_more (comes_before from mid between is c) e

  -- the regions that follow one without a test, at most so many
  abbrev path_by : Option ℕ → (ℕ → List ℕ) → List ℕ
  path_by None from = []
  path_by (Some region) from = region ∷ from region

  abbrev path : ℕ → ℕ → List ℕ
  path zero region = []
  path (suc most) region = path_by (untested (region_tree table region)) (path most)

  path_length : (most region : ℕ) → length (path most region) ≡ untested_run table most region
  path_length zero region = refl
  path_length (suc most) region = by_next (untested (region_tree table region)) (λ r. path_length most r)
    where
      by_next : (next : Option ℕ) → ((r : ℕ) → length (path most r) ≡ untested_run table most r) → length (path_by next (path most)) ≡ rank_above next (untested_run table most)
      by_next None more = refl
      by_next (Some r) more = ap suc (more r)

  -- each of a path comes from its start
  path_comes : (most region x : ℕ) → list_any (eqb x) (path most region) ≡ true → ComesUntested table region x
  path_comes zero region x is = absurd (cc)
  path_comes (suc most) region x is = by_next (untested (region_tree table region)) refl is (λ r. path_comes most r x)
    where
      by_next : (next : Option ℕ) → untested (region_tree table region) ≡ next → list_any (eqb x) (path_by next (path most)) ≡ true
          → ((r : ℕ) → list_any (eqb x) (path most r) ≡ true → ComesUntested table r x) → ComesUntested table region x
      by_next None at e more = absurd (cc)
      by_next (Some r) at e more = elim (or_true (eqb x r) (list_any (eqb x) (path most r)) e) [
        | inl p ↦ By_one (at ∙ ap (λ (n : ℕ). Some n) (sym (nat_eq-tells x r p)))
        | inr p ↦ comes_before region r x at (more r p)
      ]

  -- and is in the table
  comes_there : (region x : ℕ) → ComesUntested table region x → x < length table.regions
  comes_there region x (By_one e) = next_there region x e
  comes_there region x (By_more {mid = mid} c e) = next_there mid x e

  -- none of them is the start
  apart : (region : ℕ) (xs : List ℕ) → ((x : ℕ) → list_any (eqb x) xs ≡ true → ComesUntested table region x) → AllByRecursion (λ (y : ℕ). eqb region y ≡ false) xs
  apart region [] comes = tt
  apart region (y ∷ xs) comes = (by_test (eqb region y) refl, apart region xs (λ x is. comes x (or_second (eqb x y) (list_any (eqb x) xs) is)))
    where
      by_test : (b : Bool) → eqb region y ≡ b → b ≡ false
      by_test false e = refl
      by_test true e = absurd (keeps.tested region (comes region (or_first (eqb region y) (list_any (eqb region) xs) e)))

  distinct : (most region : ℕ) → IsDistinct eqb (region ∷ path most region)
  unfolding IsDistinct
  distinct zero region = (tt, tt)
  distinct (suc most) region = (apart region (path (suc most) region) (λ x. path_comes (suc most) region x), by_next (untested (region_tree table region)) (λ r. distinct most r))
    where
      by_next : (next : Option ℕ) → ((r : ℕ) → IsDistinct eqb (r ∷ path most r)) → IsDistinct eqb (path_by next (path most))
      by_next None more = tt
      by_next (Some r) more = more r

  -- so a path is shorter than the table
  short : (most region : ℕ) → region < length table.regions → untested_run table most region < length table.regions
  short most region there =
      let le = length-le_from_distinct_below (region ∷ path most region) (length table.regions) (distinct most region) below in
      let e = path_length most region in
      omega arith
    where
      below : (q : ℕ) → list_any (eqb q) (region ∷ path most region) ≡ true → q < length table.regions
      below q is = elim (or_true (eqb q region) (list_any (eqb q) (path most region)) is) [
        | inl p ↦ let e = nat_eq-tells q region p in omega arith
        | inr p ↦ comes_there region q (path_comes most region q p)
      ]

  -- a run that is shorter than it may be stays as it is
  settled : (most region : ℕ) → untested_run table most region < most → untested_run table (suc most) region ≡ untested_run table most region
  settled zero region less = absurd (omega arith)
  settled (suc most) region less = by_next (untested (region_tree table region)) less (λ r. settled most r)
    where
      by_next : (next : Option ℕ) → rank_above next (untested_run table most) < suc most → ((r : ℕ) → untested_run table most r < most → untested_run table (suc most) r ≡ untested_run table most r)
          → rank_above next (untested_run table (suc most)) ≡ rank_above next (untested_run table most)
      by_next None le more = refl
      by_next (Some r) le more = ap suc (more r (omega arith))

  -- fewer follow a region that follows
  pub rank_falls : (region next : ℕ) → region < length table.regions → untested (region_tree table region) ≡ Some next → rank table next < rank table region
  unfolding rank
  rank_falls region next there is =
      let n = length table.regions in
      let same = settled n region (short n region there) in
      let one : untested_run table (suc n) region ≡ suc (untested_run table n next) = ap (λ (o : Option ℕ). rank_above o (untested_run table n)) is in
      omega arith

  -- at most as many as there are regions
  pub rank_most : (region : ℕ) → rank table region ≤ length table.regions
  unfolding rank
  rank_most region = at_most (length table.regions) region
    where
      at_most : (most r : ℕ) → untested_run table most r ≤ most
      at_most zero r = omega arith
      at_most (suc most) r = by_next (untested (region_tree table r)) (λ x. at_most most x)
        where
          by_next : (next : Option ℕ) → ((x : ℕ) → untested_run table most x ≤ most) → rank_above next (untested_run table most) ≤ suc most
          by_next None more = omega arith
          by_next (Some x) more = let le = more x in omega arith
