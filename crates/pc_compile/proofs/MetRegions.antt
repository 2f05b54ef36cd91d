-- Each region of a cut is reachable from region 0.
use Rattle.std.proofs.Common.{◌≡◌, inl, inr, ℕ, zero, suc, ◌<◌, List, [], ◌∷◌, length, Some, subst, arith}
use Rattle.std.specs.Prelude.{slice_get}
use Rattle.std.specs.List.{AllByRecursion}
use Rattle.pc_word.proofs.Truth.{decide_le}
use Rattle.pc_table.specs.Table.{TableRegion}
use Rattle.pc_regions.specs.Cut.{nexts_of, AreMet, None_met, Known, Met, AreFound, First, Found}
use Rattle.pc_word.proofs.Places.{get_front, get_last}

module _ (P : ℕ → Type 0) where
  -- what holds of the regions that were known, and of those that are named, holds of all that are known then
  met_all : (known after : ℕ) (names : List ℕ) → AreMet known names after → ((number : ℕ) → number < known → P number) → AllByRecursion P names
      → (number : ℕ) → number < after → P number
  met_all known _ _ None_met below all number lt = below number lt
  met_all known after _ (Known {names} less rest) below all number lt = met_all known after names rest below all.1 number lt
  met_all known after _ (Met {names} rest) below all number lt =
      met_all (suc known) after names rest (λ other lower. elim (decide_le (suc other) known) [
        | inl low ↦ below other low
        | inr high ↦ let last : known ≡ other = omega (arith, lower, high) in subst P last all.0
      ]) all.1 number lt

  -- what holds of region 0, and of the regions that a region names of which it holds
  abbrev pub Passes : List TableRegion → Type 0
  Passes regions = (number : ℕ) (region : TableRegion) → slice_get regions number ≡ Some region → P number → AllByRecursion P (nexts_of region.tree)

  -- holds of every region
  pub found_all : (regions : List TableRegion) (known : ℕ) → AreFound regions known → P 0 → Passes regions → (number : ℕ) → number < known → P number
  found_all _ _ First first passes zero lt = first
  found_all _ _ First first passes (suc number) lt = absurd (omega (arith, lt))
  found_all _ after (Found {known} regions region before less met) first passes number lt =
      let below = found_all regions known before first (λ other it there had. passes other it (get_front regions (region ∷ []) other it there) had) in
      met_all known after (nexts_of region.tree) met below (passes (length regions) region (get_last regions region) (below (length regions) less)) number lt
