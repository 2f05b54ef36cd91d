-- A table of four regions, of which filling brings in one thing in one way each: what the tests replay.
use Rattle.std.specs.Prelude.{pos, [], ◌∷◌, None}
use Rattle.pc_word.specs.declared.item.Item.TheVariants.{Bin, Load, Store, Print}
use Rattle.pc_word.specs.declared.item.OpCode.TheVariants.{Add}
use Rattle.pc_word.specs.declared.item.Operand.TheVariants.{Name, Lit}
use Rattle.pc_table.specs.Table.{Table, TableRegion, TableTree, Does, Asks, Stops_here}

-- a sum, and its print
abbrev pub sum_tree : TableTree
sum_tree = Does 3 (Bin Add 1 (Lit (pos 3)) (Lit (pos 1))) (Does 4 (Print (Name 1)) Stops_here)

-- the sum comes up over a print
abbrev pub over_print : TableTree
over_print = Does 0 (Print (Lit (pos 1))) (Does 1 (Print (Lit (pos 2))) sum_tree)

-- a store to one element, and a load of another with its print
abbrev pub load_tree : TableTree
load_tree = Does 3 (Store 0 (Lit (pos 0)) (Lit (pos 7))) (Does 4 (Load 1 0 (Lit (pos 1))) (Does 5 (Print (Name 1)) Stops_here))

-- the load comes up over the store and two tests
abbrev pub over_tests : TableTree
over_tests = Asks 0 (Lit (pos 1)) (Asks 1 (Lit (pos 1)) (Asks 2 (Lit (pos 1)) load_tree Stops_here) Stops_here) Stops_here

-- a test comes up over a print
abbrev pub test_over_print : TableTree
test_over_print = Does 0 (Print (Lit (pos 1))) (Does 1 (Print (Lit (pos 2))) (Asks 2 (Lit (pos 1)) sum_tree Stops_here))

-- two sums become one above a test, of which one comes up over a print
abbrev pub two_sums : TableTree
two_sums = Asks 0 (Lit (pos 1)) (Does 5 (Print (Lit (pos 2))) sum_tree) sum_tree

-- a region
abbrev pub region_of : TableTree → TableRegion
region_of tree = record { head = 0; tree = tree; live = []; inside = None; heads = None }

-- the table
abbrev pub jumping_table : Table
jumping_table = record {
  regions = region_of over_print ∷ region_of over_tests ∷ region_of test_over_print ∷ region_of two_sums ∷ [];
  loops = [];
  arrays = 4 ∷ [];
}
