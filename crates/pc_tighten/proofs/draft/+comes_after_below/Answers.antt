use Rattle.std.proofs.Common.{Bool, ◌∙◌, ap}
use Rattle.std.specs.Prelude.{◌||◌}
use Rattle.pc_machine.specs.MachineCode.{row_of}
use Rattle.pc_tighten.proofs.Drafting.{comes_after_below_item}
use Rattle.pc_tighten.proofs.draft.+comes_after_below.Goals as goal

pub returns-in-Step : goal.returns-in-Step
returns-in-Step t c =
    rw c.in-Step.is (comes_after_below_item c.args.x c.in-Step.item c.args.above c.either-above.result c.comes_after_below.result c.args.to (row_of c.in-Step.next.value)
    (c.either-above.ensures ∙ ap (λ (b : Bool). c.args.above || b) c.comes_after.ensures) (rw c.deref.ensures at c.comes_after_below.ensures))
