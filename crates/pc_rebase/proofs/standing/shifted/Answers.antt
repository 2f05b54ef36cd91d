use Rattle.std.proofs.Common.{rules, ◌≡◌, Some}
use Rattle.pc_word.specs.declared.item.OpCode.TheVariants.{Add}
use Rattle.pc_linear.specs.Combine.{constant_form, variable_form, combine}
use Rattle.pc_rebase.proofs.Stored.{shifted_unwrapped}
use Rattle.pc_rebase.proofs.standing.shifted.Goals as goal

pub returns-clause-value : goal.returns-clause-value
returns-clause-value c =
    let variable = c.variable-variable.result in
    let number = c.constant.result in
    let last = c.unwrap.result in
    let one : variable ≡ variable_form c.args.variable = search rules in
    let other : number ≡ constant_form c.args.offset = search rules in
    let made : combine Add variable number ≡ Some last = search rules in
    shifted_unwrapped c.args.variable c.args.offset variable number last c.ranges.offset one other made
