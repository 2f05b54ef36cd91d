use Rattle.std.proofs.Common.{rules, ◌≡◌, Some}
use Rattle.pc_word.specs.declared.item.OpCode.TheVariants.{Add}
use Rattle.pc_linear.specs.Combine.{times_form, combine}
use Rattle.pc_rebase.proofs.Stored.{sum_unwrapped}
use Rattle.pc_rebase.proofs.standing.and_times.Goals as goal

pub returns-clause-value : goal.returns-clause-value
returns-clause-value c =
    let sum = c.args.sum.now in
    let form = c.args.form.now in
    let factor = c.args.factor in
    let part = c.times-times.result in
    let last = c.unwrap.result in
    let is : part ≡ times_form form factor = search rules in
    let made : combine Add sum part ≡ Some last = search rules in
    sum_unwrapped sum factor form part last c.requires.sum c.requires.term is made
