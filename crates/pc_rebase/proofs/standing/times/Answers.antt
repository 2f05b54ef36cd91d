use Rattle.std.proofs.Common.{rules, ◌≡◌, Some}
use Rattle.pc_word.specs.declared.item.OpCode.TheVariants.{Mul}
use Rattle.pc_linear.specs.Combine.{constant_form, combine}
use Rattle.pc_rebase.proofs.Stored.{part_unwrapped}
use Rattle.pc_rebase.proofs.standing.times.Goals as goal

pub returns : goal.returns
returns c =
    let form = c.args.form.now in
    let factor = c.args.factor in
    let number = c.constant.result in
    let part = c.unwrap.result in
    let is : number ≡ constant_form factor = search rules in
    let made : combine Mul number form ≡ Some part = search rules in
    part_unwrapped factor form number part c.requires.term is made
