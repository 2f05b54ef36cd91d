use Rattle.pc_object.proofs.Ranges.{few_rows}
use Rattle.pc_view.proofs.Objects.{can_list}
use Rattle.pc_view.proofs.listing.row_text.Goals as goal

pub push_row_at-requires-clause-few : goal.push_row_at-requires-clause-few
push_row_at-requires-clause-few c = few_rows c.args.object.now c.requires

pub push_row_at-requires-clause-rows : goal.push_row_at-requires-clause-rows
push_row_at-requires-clause-rows c = can_list c.args.object.now c.requires
