-- Regions of a table in memory.
use Rattle.std.proofs.Common.{◌≡◌, ℕ, List, [], ◌∷◌, length, ◌<◌, sym, subst, arith}
use Rattle.std.specs.Prelude.{true, nat_eq}
use Rattle.std.specs.List.{AllByRecursion, list_any}
use Rattle.pc_word.proofs.Lists.{all_of_map}
use Rattle.pc_window.specs.Opening.{first_new}
use Rattle.pc_window.proofs.Grafts.{nat_eq-same}
use Rattle.pc_table.specs.declared.table.RegionTable.{RegionTable}
use Rattle.pc_table.specs.Table.{Table, region_live}
use Rattle.pc_table.specs.StoredTable.{table_of}
use Rattle.pc_table.specs.TableKeeps.{TableKeeps}
use Rattle.pc_window.specs.declared.home.Home.{Home}
use Rattle.pc_window.specs.There.{StubIsThere}
use Rattle.pc_word.proofs.Truth.{or_first, or_second}
use Rattle.pc_table.proofs.StoredRegions.{as_many}

-- ---- what a table keeps of a region

pub leads_there : (table : RegionTable) (number : ℕ) (homes : List Home) → StubIsThere (table_of table) number homes → number < length table.regions
leads_there table number homes there = let e = as_many table.regions in let le = there.leads in omega arith

all_small : (vs : List ℕ) → ((x : ℕ) → list_any (nat_eq x) vs ≡ true → x < first_new) → AllByRecursion (λ (v : ℕ). v < first_new) vs
all_small [] small = tt
all_small (v ∷ vs) small = (small v (or_first (nat_eq v v) (list_any (nat_eq v) vs) (nat_eq-same v)), all_small vs (λ x is. small x (or_second (nat_eq x v) (list_any (nat_eq x) vs) is)))

-- the variables of a stub's homes are live, and so they are variables
pub homes_small : (table : Table) → TableKeeps table → (region : ℕ) (homes : List Home) → StubIsThere table region homes → AllByRecursion (λ (home : Home). home.variable < first_new) homes
homes_small table keeps region homes there =
    all_of_map (λ (v : ℕ). v < first_new) (λ (home : Home). home.variable) homes
    (subst (AllByRecursion (λ (v : ℕ). v < first_new)) (sym there.live) (all_small (region_live table region) (keeps.small region)))

pub ruleset regions = (leads_there)
