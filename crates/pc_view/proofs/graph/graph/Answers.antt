use Rattle.pc_view.proofs.Objects.{can_list}
use Rattle.pc_view.proofs.graph.graph.Goals as goal

pub push_rows-requires : goal.push_rows-requires
push_rows-requires c = (can_list c.args.object.now c.requires).few
