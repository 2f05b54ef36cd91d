-- A stub names what is there.
use Rattle.std.proofs.Common.{◌≡◌, ℕ, List, map, length, ◌<◌, arith}
use Rattle.pc_table.specs.declared.table.RegionTable.{RegionTable}
use Rattle.pc_table.specs.Table.{region_live}
use Rattle.pc_table.specs.StoredTable.{table_of}
use Rattle.pc_table.proofs.StoredRegions.{as_many}
use Rattle.pc_window.specs.declared.home.Home.{Home}
use Rattle.pc_window.specs.There.{StubIsThere}

pub stub_there : (table : RegionTable) (region : ℕ) (homes : List Home) → region < length table.regions
    → map (λ (home : Home). home.variable) homes ≡ region_live (table_of table) region → StubIsThere (table_of table) region homes
stub_there table region homes within live = let many = as_many table.regions in record { leads = omega (arith, many, within); live = live }

pub ruleset stubs = (stub_there)
