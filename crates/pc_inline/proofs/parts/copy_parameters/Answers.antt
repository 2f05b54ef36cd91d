use Rattle.std.proofs.Common.{◌≡◌, slice_get}
use Rattle.std.specs.Option.{option_copied}
use Rattle.pc_inline.specs.models.Sites.{shifted}
use Rattle.pc_inline.proofs.Lists.{parameter_more, put_after}
use Rattle.pc_inline.proofs.parts.copy_parameters.Goals as goal

-- one more parameter
pub loop-at-preserved : goal.loop-at-preserved
loop-at-preserved c =
    let there : option_copied c.get.result ≡ slice_get c.args.args.now c.loop-at.at = c.get.ensures.value in
    put_after _ _ _ _ _ _ c.loop-at.invariant c.in_ok-copy_parameter.ensures
    (parameter_more (shifted c.args.offset) (shifted c.args.inner) c.args.params.now c.args.args.now c.loop-at.at _ (option_copied c.get.result) c.loop-at-test.true there)
