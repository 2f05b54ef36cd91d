-- A stub that is entered, as code does it.
use Rattle.std.proofs.Common.{◌≡◌, ℕ, ◌<◌, ◌≤◌, Bool, true, false, Option, Some, None, sym, ◌∙◌, ap, arith}
use Rattle.std.specs.Prelude.{nat_le, if◌then◌else◌}
use Rattle.std.proofs.lemmas.Bool.Decides.{nat_tests}
use Rattle.pc_table.specs.Table.{Table}
use Rattle.pc_window.specs.Opening.{Grafted, first_new}
use Rattle.pc_arranging.specs.Stubs.{opened_at}
use Rattle.pc_arranging.specs.Naming.{then_next, named_homes, home_count, entered_at}
use Rattle.pc_window.specs.There.{PartsAreThere}
use Rattle.pc_arranging.specs.CanArrange.{most_tag}
use Rattle.pc_arranging.specs.models.Doing.{made_if}
use Rattle.pc_arranging.proofs.Kept.{named_there}

module _ (table : Table) (inside : Option ℕ) (g : Grafted) (leaf n : ℕ) (count : n ≡ home_count g.tree leaf) where
  abbrev choice : Bool → Option Grafted
  choice b = if b then then_next (named_homes (home_count g.tree leaf) g leaf 0) (λ h. opened_at table true inside h.names h.tree leaf) else None

  few : n ≤ 96 → nat_le (home_count g.tree leaf) 96 ≡ true
  few le = let k : home_count g.tree leaf ≤ 96 = omega arith in grind (arith, nat_tests)

  pub too_many : (made : Grafted) → 96 < n → entered_at table inside g leaf ≡ made_if false made
  too_many made more = ap choice test
    where
      test : nat_le (home_count g.tree leaf) 96 ≡ false
      test = let k : 96 < home_count g.tree leaf = omega arith in grind (arith, nat_tests)

  pub not_named : (made other : Grafted) → n ≤ 96 → named_homes n g leaf 0 ≡ made_if false made → entered_at table inside g leaf ≡ made_if false other
  not_named made other le is =
      ap choice (few le) ∙ ap (λ (m : ℕ). then_next (named_homes m g leaf 0) (λ h. opened_at table true inside h.names h.tree leaf)) (sym count)
      ∙ ap (λ (o : Option Grafted). then_next o (λ h. opened_at table true inside h.names h.tree leaf)) is

  pub then_opened : (h made : Grafted) (done : Bool) → n ≤ 96 → named_homes n g leaf 0 ≡ made_if true h → opened_at table true inside h.names h.tree leaf ≡ made_if done made
      → entered_at table inside g leaf ≡ made_if done made
  then_opened h made done le is opens =
      ap choice (few le) ∙ ap (λ (m : ℕ). then_next (named_homes m g leaf 0) (λ h. opened_at table true inside h.names h.tree leaf)) (sym count)
      ∙ ap (λ (o : Option Grafted). then_next o (λ h. opened_at table true inside h.names h.tree leaf)) is ∙ opens

-- what is named is there
pub parts_named : (table : Table) (n : ℕ) (g made : Grafted) (leaf : ℕ) (done : Bool) → named_homes n g leaf 0 ≡ made_if done made → done ≡ true
    → PartsAreThere table most_tag g.tree → PartsAreThere table most_tag made.tree
parts_named table n g made leaf done is e h = named_there table most_tag n g leaf 0 made (is ∙ ap (λ (b : Bool). made_if b made) e) h

pub ruleset entering = (too_many, not_named, then_opened, parts_named)
