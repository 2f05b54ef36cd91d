use Rattle.pc_replay_tests.proofs.Queues.{one_more}
use Rattle.pc_replay_tests.proofs.Unwound.{small_fills}
use Rattle.pc_replay_tests.proofs.leaves.put.Goals as goal

pub returns-in_ok-put_behind : goal.returns-in_ok-put_behind
returns-in_ok-put_behind c =
    let little = c.may_be_filled.ensures in
    let is = c.if-not-may_be_filled.false in
    one_more c.args.met.now.waiting.items c.put_behind.new.waiting.items c.args.window c.in_ok-put_behind.ensures c.requires.all c.requires.proper
    (small_fills c.args.window c.requires.nodes (little.size is) (little.names is) (little.variables is))
