use Rattle.std.proofs.Common.{◌≡◌, ◌+◌, sym, ap, ◌∙◌, drop, get_or}
use Rattle.std.specs.Prelude.{Option, Some, slice_get}
use Rattle.pc_variables.specs.Holdings.{with_name, scalar_behind, with_passed}
use Rattle.pc_variables.proofs.Steps.{passed_one}
use Rattle.pc_variables.proofs.entering.push_passed.Goals as goal

pub loop-place-preserved : goal.loop-place-preserved
loop-place-preserved c =
    let l = c.loop-place in
    let parameters = c.args.parameters.now in
    let arguments = c.args.arguments.now in
    let pushed : c.push_name.new.holdings ≡ with_name l.holdings (Some (get_or parameters l.place 0)) (scalar_behind c.args.passing.now (slice_get arguments l.place))
    = c.in_ok-push_name.ensures ∙ ap (with_name l.holdings (Some (get_or parameters l.place 0))) c.scalar_at-scalar.ensures in
    ap (with_passed c.args.passing.now (drop (l.place + 1) parameters) (drop (l.place + 1) arguments)) pushed
    ∙ sym (passed_one c.args.passing.now parameters arguments l.place l.holdings c.loop-place-test.true)
    ∙ l.invariant
