use Rattle.pc_window.specs.StoredWindow.{window_in}
use Rattle.pc_pattern.proofs.SeenWindows.{keeps_numbered}
use Rattle.pc_pattern.proofs.leading.led_window.Goals as goal

pub returns-in_ok-leaf_to-in-None-clause-seen : goal.returns-in_ok-leaf_to-in-None-clause-seen
returns-in_ok-leaf_to-in-None-clause-seen c = λ rules.
    keeps_numbered rules c.args.pool.now c.member_of.new.pool (window_in c.args.window) _ c.in_ok-member-in-None.ensures.numbered
    c.in_ok-member-in-None.ensures.seen
