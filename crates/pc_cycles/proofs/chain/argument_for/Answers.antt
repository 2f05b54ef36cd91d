use Rattle.std.proofs.Common.{◌∙◌, sym}
use Rattle.pc_cycles.proofs.Chains.{argument_passed, no_arguments_left}
use Rattle.pc_cycles.proofs.chain.argument_for.Goals as goal

pub returns-then-at-arguments : goal.returns-then-at-arguments
returns-then-at-arguments c =
    sym (c.loop-at.invariant ∙ no_arguments_left c.args.parameters.now c.args.arguments.now c.args.parameter c.loop-at.at c.if-at-arguments.true)

pub loop-at-preserved : goal.loop-at-preserved
loop-at-preserved c =
    c.loop-at.invariant
    ∙ argument_passed c.args.parameters.now c.args.arguments.now c.args.parameter c.loop-at.at c.loop-at-test.true c.if-at-arguments.false
    c.if-first-parameter.false
