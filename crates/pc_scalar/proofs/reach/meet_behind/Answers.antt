use Rattle.std.proofs.Common.{length, ◌∙◌}
use Rattle.pc_flow.specs.declared.node.FlowNode.TheVariants.{Op, Test, Stop, Trap}
use Rattle.pc_scalar.specs.models.Met.{Nothing_met, Node_met}
use Rattle.pc_scalar.proofs.Meetings.{op_target, met_behind, meets_length}
use Rattle.pc_scalar.proofs.reach.meet_behind.Goals as goal

pub meet-requires : goal.meet-requires
meet-requires c = (op_target c.args.flow.now c.args.at (length c.args.flags.now) (Op c.in-Op.item c.in-Op.next) c.requires.kept c.requires.as_many c.in-Op.ensures).0

pub meet-requires-in-Test : goal.meet-requires-in-Test
meet-requires-in-Test c =
    (op_target c.args.flow.now c.args.at (length c.args.flags.now) (Test c.in-Test.on c.in-Test.yes c.in-Test.no c.in-Test.turn) c.requires.kept c.requires.as_many c.in-Test.ensures).0

pub meet-requires-in-Test-2 : goal.meet-requires-in-Test-2
meet-requires-in-Test-2 c =
    (op_target c.args.flow.now c.args.at (length c.meet-in-Test.new.flags) (Test c.in-Test.on c.in-Test.yes c.in-Test.no c.in-Test.turn) c.requires.kept
    (meets_length c.args.flags.now c.meet-in-Test.new.flags c.args.met.now c.meet-in-Test.new.met c.in-Test.yes c.in_ok-meet-in-Test.ensures ∙ c.requires.as_many) c.in-Test.ensures).1.0

pub returns-in_ok-meet-in-Op : goal.returns-in_ok-meet-in-Op
returns-in_ok-meet-in-Op c = met_behind c.args.flow.now.nodes c.args.at (Op c.in-Op.item c.in-Op.next) c.args.flags.now c.meet.new.flags c.args.met.now c.meet.new.met c.in-Op.ensures
    (Node_met c.in_ok-meet-in-Op.ensures Nothing_met)

pub returns-in_ok-meet-in-Test-2 : goal.returns-in_ok-meet-in-Test-2
returns-in_ok-meet-in-Test-2 c =
    met_behind c.args.flow.now.nodes c.args.at (Test c.in-Test.on c.in-Test.yes c.in-Test.no c.in-Test.turn) c.args.flags.now c.meet-in-Test-2.new.flags c.args.met.now c.meet-in-Test-2.new.met
    c.in-Test.ensures (Node_met c.in_ok-meet-in-Test.ensures (Node_met c.in_ok-meet-in-Test-2.ensures Nothing_met))

pub returns-in-Stop : goal.returns-in-Stop
returns-in-Stop c = met_behind c.args.flow.now.nodes c.args.at Stop c.args.flags.now c.args.flags.now c.args.met.now c.args.met.now c.in-Stop.ensures Nothing_met

pub returns-in-Trap : goal.returns-in-Trap
returns-in-Trap c = met_behind c.args.flow.now.nodes c.args.at (Trap c.in-Trap.kind c.in-Trap.line) c.args.flags.now c.args.flags.now c.args.met.now c.args.met.now c.in-Trap.ensures Nothing_met
