-- A table of two regions, what the tests choose forms for: the second is a loop that reads and sums numbers until it reads 0, and
-- then prints the sum; the first stands before it.
use Rattle.std.specs.Prelude.{[], ◌∷◌, Some, None, pos}
use Rattle.pc_word.specs.declared.item.OpCode.TheVariants.{Add}
use Rattle.pc_word.specs.declared.item.Item.TheVariants.{Bin, Copy, Print, Read}
use Rattle.pc_word.specs.declared.item.Operand.TheVariants.{Name, Lit}
use Rattle.pc_table.specs.Table.{Table, TableTree, Does, Asks, Next, Stops_here}

-- what stands before the loop: the sum is 0
abbrev pub zero_tree : TableTree
zero_tree = Does 0 (Copy 1 (Lit (pos 0))) (Next 1)

-- one turn of the loop
abbrev pub sum_tree : TableTree
sum_tree = Does 1 (Read 0) (Asks 2 (Name 0) (Does 3 (Bin Add 1 (Name 1) (Name 0)) (Next 1)) (Does 4 (Print (Name 1)) Stops_here))

-- the table
abbrev pub summing_table : Table
summing_table = record {
  regions =
      record { head = 0; tree = zero_tree; live = []; inside = None; heads = None }
      ∷ record { head = 1; tree = sum_tree; live = 1 ∷ []; inside = Some 0; heads = Some 0 } ∷ [];
  loops = record { line = 1; header = 1; outer = None } ∷ [];
  arrays = [];
}
