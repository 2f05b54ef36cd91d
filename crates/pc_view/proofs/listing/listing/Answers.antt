use Rattle.pc_object.proofs.Ranges.{few_rows}
use Rattle.pc_view.proofs.Objects.{can_list}
use Rattle.pc_view.proofs.listing.listing.Goals as goal

pub push_rows-requires-clause-few : goal.push_rows-requires-clause-few
push_rows-requires-clause-few c = few_rows c.args.object.now c.requires

pub push_rows-requires-clause-rows : goal.push_rows-requires-clause-rows
push_rows-requires-clause-rows c = can_list c.args.object.now c.requires
