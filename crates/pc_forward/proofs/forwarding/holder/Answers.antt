use Rattle.std.proofs.Common.{arith}
use Rattle.pc_word.proofs.Truth.{failed}
use Rattle.pc_forward.proofs.Holders.{holds_not, holds_none}
use Rattle.pc_forward.proofs.forwarding.holder.Goals as goal

pub loop-name-preserved : goal.loop-name-preserved
loop-name-preserved c =
    holds_not c.args.forms.now c.args.value.now c.loop-name.name c.index-forms-name.result (omega arith) c.index-forms-name.is
    (failed c.always_equal.ensures.always c.if-always_equal.false) c.loop-name.invariant

pub returns : goal.returns
returns c = holds_none c.args.forms.now c.args.value.now c.loop-name.name (omega arith) c.loop-name.invariant
