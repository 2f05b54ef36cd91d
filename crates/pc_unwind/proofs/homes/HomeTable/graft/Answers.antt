use Rattle.std.proofs.Common.{ℕ, subst}
use Rattle.pc_word.specs.declared.item.Operand.{Operand}
use Rattle.pc_table.specs.Table.{table_tree}
use Rattle.pc_table.specs.StoredTable.{table_of}
use Rattle.pc_window.specs.Grafting.{Grafts}
use Rattle.pc_window.specs.StoredWindow.{tree_in, supply_in}
use Rattle.pc_unwind.proofs.StubHomes.{no_homes}
use Rattle.pc_unwind.proofs.homes.HomeTable.graft.Goals as goal

pub invariant_of-self : goal.invariant_of-self
invariant_of-self c = no_homes 96

pub returns-clause-tree : goal.returns-clause-tree
returns-clause-tree c =
    subst (λ (homes : ℕ → Operand). Grafts (table_of c.args.table.now) c.args.inside c.args.tag (table_tree c.args.from.now) (supply_in c.args.names.now) homes
    (tree_in c.in-Ok.tree) (supply_in c.graft.new.names)) c.put_homes.ensures.put c.in-Ok.ensures.tree
