-- A table of one region: a loop that adds up every second element of an array, and prints the sum; what the tests open, unwind
-- and rebase.
use Rattle.std.specs.Prelude.{pos, [], ◌∷◌, Some, None}
use Rattle.pc_word.specs.declared.item.Item.TheVariants.{Bin, Copy, Load, Print}
use Rattle.pc_word.specs.declared.item.OpCode.TheVariants.{Add, Mul, Less}
use Rattle.pc_word.specs.declared.item.Operand.TheVariants.{Name, Lit}
use Rattle.pc_table.specs.Table.{Table, TableTree, TableRegion, Does, Asks, Next, Stops_here}

-- the loop's body: twice the counter, the element, the sum, and the counter plus 1 by way of a copy
abbrev pub body_tree : TableTree
body_tree = Does 2 (Bin Mul 4 (Lit (pos 2)) (Name 0))
    (Does 3 (Load 2 0 (Name 4)) (Does 4 (Bin Add 3 (Name 3) (Name 2)) (Does 5 (Copy 5 (Name 0)) (Does 6 (Bin Add 0 (Name 5) (Lit (pos 1))) (Next 0)))))

-- one turn: the body where the counter is below 50, and else the print
abbrev pub loop_tree : TableTree
loop_tree = Does 0 (Bin Less 1 (Name 0) (Lit (pos 50))) (Asks 1 (Name 1) body_tree (Does 7 (Print (Name 3)) Stops_here))

-- its region
abbrev pub loop_region : TableRegion
loop_region = record { head = 0; tree = loop_tree; live = 0 ∷ 3 ∷ []; inside = Some 0; heads = Some 0 }

-- the table
abbrev pub loop_table : Table
loop_table = record {
  regions = loop_region ∷ [];
  loops = record { line = 1; header = 0; outer = None } ∷ [];
  arrays = 100 ∷ [];
}
