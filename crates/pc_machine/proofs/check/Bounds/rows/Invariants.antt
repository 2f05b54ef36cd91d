use Rattle.std.proofs.Common.{◌≡◌, drop}
use Rattle.std.specs.List.{flat_map}
use Rattle.pc_machine.specs.MachineCode.{rows_of}
use Rattle.pc_machine.specs.Flaws.{no_counts, nothing_above, row_flaws}
use Rattle.pc_machine.proofs.check.Bounds.rows.Given as goal

-- the flaws are those of the rows that are left
abbrev pub invariant-loop-tree : goal.invariant-loop-tree
invariant-loop-tree l =
    flat_map (row_flaws l.self no_counts nothing_above) (rows_of l.trees) ≡ flat_map (row_flaws l.self no_counts nothing_above) (rows_of (drop l.tree-index l.trees))
