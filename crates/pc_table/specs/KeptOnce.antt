-- What a table keeps has one proof at most, so tables in memory can have it as a ghost field.
use Rattle.std.specs.Prelude.{ℕ, length}
use Rattle.std.specs.Coded.{Coded-set, coded_ℕ, coded_bool, ×_prop, Π_prop, →_prop, Unit-prop, le_prop}
use Rattle.std.specs.Option.{MatchOption-prop}
use Rattle.std.specs.List.{AllByRecursion-prop}
use Rattle.pc_word.specs.declared.item.Item.{Item}
use Rattle.pc_word.specs.declared.item.Operand.{Operand}
use Rattle.pc_word.specs.declared.item.Operand.TheVariants.{Name, Lit}
use Rattle.pc_word.specs.contracts.item.Item as an_item
use Rattle.pc_word.specs.contracts.item.Operand as an_operand
use Rattle.pc_word.specs.contracts.item.TrapKind as a_trap
use Rattle.pc_word.specs.Items.{operands_of, dest_of, array_of}
use Rattle.pc_table.specs.Table.{Table, TableRegion, TableTree, Does, Asks, Next, Stops_here, Traps_here, TableTree-set}
use Rattle.pc_table.specs.TableKeeps.{NamesVariable, ItemIsThere, ItemIsThere-once, TreeIsThere, RegionKeeps, RegionKeeps-once, TableKeeps, TableKeeps-once}

trees : IsSet TableTree
trees =
    TableTree-set (Coded-set coded_ℕ) (Coded-set an_item.the_row.coded) (Coded-set an_operand.the_row.coded) (Coded-set a_trap.the_row.coded)

names_once : (operand : Operand) → IsProp (NamesVariable operand)
names_once (Name name) = le_prop
names_once (Lit value) = Unit-prop

item_once : (arrays : ℕ) (item : Item) → IsProp (ItemIsThere arrays item)
item_once arrays item =
    ItemIsThere-once (AllByRecursion-prop NamesVariable names_once (operands_of item))
    (MatchOption-prop (dest_of item) _ _ Unit-prop (λ name. le_prop))
    (MatchOption-prop (array_of item) _ _ Unit-prop (λ array. le_prop))

tree_once : (arrays regions : ℕ) (tree : TableTree) → IsProp (TreeIsThere arrays regions tree)
tree_once arrays regions (Does origin item rest) = ×_prop (item_once arrays item) (tree_once arrays regions rest)
tree_once arrays regions (Asks origin on on_yes on_no) =
    let sides = ×_prop (tree_once arrays regions on_yes) (tree_once arrays regions on_no) in
    λ x y i. (names_once on x.0 y.0 i, (sides (x.1, x.2) (y.1, y.2) i).0, (sides (x.1, x.2) (y.1, y.2) i).1)
tree_once arrays regions (Next region) = le_prop
tree_once arrays regions Stops_here = Unit-prop
tree_once arrays regions (Traps_here kind line) = Unit-prop

region_once : (table : Table) (region : TableRegion) → IsProp (RegionKeeps table region)
region_once table region =
    RegionKeeps-once (tree_once (length table.arrays) (length table.regions) region.tree) le_prop (Π_prop (λ k. →_prop le_prop))
    (MatchOption-prop region.inside _ _ Unit-prop (λ loop. le_prop))
    (MatchOption-prop region.heads _ _ Unit-prop (λ loop. le_prop))

-- what a table keeps has one proof at most
pub kept_once : (table : Table) → IsProp (TableKeeps table)
kept_once table =
    TableKeeps-once le_prop le_prop
    (Π_prop (λ number. Π_prop (λ region. →_prop (region_once table region))))
    (Π_prop (λ loop. Π_prop (λ mark. →_prop (MatchOption-prop mark.outer _ _ Unit-prop (λ outer. le_prop)))))
    (Π_prop (λ region. Π_prop (λ x. →_prop (Coded-set coded_bool _ _))))
    (Π_prop (λ region. Π_prop (λ x. →_prop le_prop)))
    (Π_prop (λ region. trees _ _))
    (Π_prop (λ region. →_prop (λ x. absurd x)))
