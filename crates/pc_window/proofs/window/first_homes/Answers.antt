use Rattle.std.proofs.Common.{refl, ◌∙◌, ap, arith, length-set, ◌≡◌, ◌<◌, length}
use Rattle.pc_word.specs.declared.item.Operand.TheVariants.{Name}
use Rattle.pc_window.specs.models.Stored.{homes_before}
use Rattle.pc_window.proofs.HomesStored.{none_yet, named_more}
use Rattle.pc_window.proofs.window.first_homes.Goals as goal

pub loop-variable-init : goal.loop-variable-init
loop-variable-init c = (refl, none_yet 96)

pub loop-variable-preserved : goal.loop-variable-preserved
loop-variable-preserved c =
    let long = c.loop-variable.invariant.0 in
    let within : c.loop-variable.variable < length c.loop-variable.homes = omega (arith, long, c.loop-variable-test.true) in (
      length-set c.loop-variable.homes c.loop-variable.variable (Name c.loop-variable.variable) ∙ long,
      named_more c.loop-variable.homes c.loop-variable.variable within c.loop-variable.invariant.1,
    )

pub returns : goal.returns
returns c = c.loop-variable.invariant.1 ∙ (let all : c.loop-variable.variable ≡ 96 = omega (arith, c.loop-variable-test.false, c.loop-variable.auto) in ap homes_before all)
