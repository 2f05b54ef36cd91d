use Rattle.pc_inline.proofs.Copied.{put_first}
use Rattle.pc_inline.proofs.inlining.inlined_items.Goals as goal

-- the first statements are put after none
pub returns : goal.returns
returns c = put_first c.new-items.result _ _ c.new-items.ensures (rw c.as_slice.ensures at c.in_ok-copy_items.ensures)
