use Rattle.std.proofs.Common.{arith}
use Rattle.pc_flow.specs.declared.node.FlowNode.TheVariants.{Op, Test}
use Rattle.pc_live.proofs.Rounds.{test_targets}
use Rattle.pc_live.proofs.solver.needed_before.Goals as goal

pub read_by-requires : goal.read_by-requires
read_by-requires g c = (c.requires.kept.nodes_fit c.args.at (Op c.in-Op.item c.in-Op.next) c.in-Op.ensures).0.reads

pub passed_by-passed-requires : goal.passed_by-passed-requires
passed_by-passed-requires g c = (c.requires.kept.nodes_fit c.args.at (Op c.in-Op.item c.in-Op.next) c.in-Op.ensures).0.writes

pub reads_count-requires : goal.reads_count-requires
reads_count-requires g c = (c.requires.kept.nodes_fit c.args.at (Op c.in-Op.item c.in-Op.next) c.in-Op.ensures).0.writes

pub bounds-sets-next : goal.bounds-sets-next
bounds-sets-next g c =
    omega (arith, c.requires.as_many, (c.requires.kept.nodes_fit c.args.at (Op c.in-Op.item c.in-Op.next) c.in-Op.ensures).1.target)

pub bounds-sets-yes : goal.bounds-sets-yes
bounds-sets-yes g c =
    let fits = c.requires.kept.nodes_fit c.args.at (Test c.in-Test.on c.in-Test.yes c.in-Test.no c.in-Test.turn) c.in-Test.ensures in
    omega (arith, c.requires.as_many, (test_targets c.args.flow.now c.args.at c.in-Test.yes c.in-Test.no c.in-Test.turn fits.1).0)

pub bounds-sets-no : goal.bounds-sets-no
bounds-sets-no g c =
    let fits = c.requires.kept.nodes_fit c.args.at (Test c.in-Test.on c.in-Test.yes c.in-Test.no c.in-Test.turn) c.in-Test.ensures in
    omega (arith, c.requires.as_many, (test_targets c.args.flow.now c.args.at c.in-Test.yes c.in-Test.no c.in-Test.turn fits.1).1)

pub with_operand-requires : goal.with_operand-requires
with_operand-requires g c =
    (c.requires.kept.nodes_fit c.args.at (Test c.in-Test.on c.in-Test.yes c.in-Test.no c.in-Test.turn) c.in-Test.ensures).0
