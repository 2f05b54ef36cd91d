use Rattle.pc_tighten.proofs.Ends.{compact_where_none_may_move}
use Rattle.pc_tighten.proofs.Compacted.{removal_keeps_compact}
use Rattle.pc_tighten.proofs.laws.laws_of_compact_codes.Goals as goal

pub returns : goal.returns
returns c = record {
  none_may_move = compact_where_none_may_move;
  removals = removal_keeps_compact;
}
