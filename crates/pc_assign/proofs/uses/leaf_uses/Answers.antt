use Rattle.std.proofs.Common.{◌∙◌, ap}
use Rattle.std.specs.List.{list_any}
use Rattle.pc_assign.proofs.Held.{out_uses}
use Rattle.pc_assign.proofs.uses.leaf_uses.Goals as goal
use Rattle.pc_word.specs.Items.{reads_name}

pub returns-in-Out : goal.returns-in-Out
returns-in-Out c =
    out_uses c.args.leaf.now _ c.in-Out.homes c.args.name c.homes_use.result c.in-Out.is
    (c.homes_use.ensures ∙ ap (list_any (λ home. reads_name home.value c.args.name)) c.as_slice-in-Out.ensures)
