use Rattle.pc_replay_tests.proofs.Unwound.{opened_can}
use Rattle.pc_replay_tests.proofs.following.unwound.Goals as goal

pub unwind-requires : goal.unwind-requires
unwind-requires c = record { able = opened_can c.args.table.now _ c.args.region c.in_ok-window.window c.requires.there c.in_ok-window.ensures.opened }
