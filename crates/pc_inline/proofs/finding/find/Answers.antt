use Rattle.std.proofs.Common.{◌≤◌, refl, ap, ◌∙◌, List, length, arith}
use Rattle.std.proofs.lemmas.List.{take_all}
use Rattle.pc_syntax.specs.declared.unit.Function.{Function}
use Rattle.pc_inline.proofs.Rows.{last_first}
use Rattle.pc_inline.specs.models.Finding.{place_among}
use Rattle.pc_inline.proofs.Finds.{place_among-here, place_among-passed, found-within}
use Rattle.pc_inline.proofs.finding.find.Goals.{then-function-symbol, else-function-symbol}
use Rattle.pc_inline.proofs.finding.find.Goals as goal

pub loop-at-init : goal.loop-at-init
unfolding place_among
loop-at-init c = refl

-- one more function, which has the name or another
pub loop-at-preserved : goal.loop-at-preserved
loop-at-preserved c =
    elim c.if-function-symbol.branch [
      | then-function-symbol w ↦
          w.found-is ∙ place_among-here c.args.functions.now c.loop-at.at c.args.symbol c.index-functions-at.result c.loop-at-test.true c.index-functions-at.is w.if-function-symbol.true
      | else-function-symbol w ↦
          place_among-passed c.args.functions.now c.loop-at.at c.args.symbol c.index-functions-at.result _ c.loop-at-test.true c.index-functions-at.is w.if-function-symbol.false
          (w.found-is ∙ c.loop-at.invariant)
    ]

-- the place is one of the list
pub returns-clause-within : goal.returns-clause-within
returns-clause-within c =
    let done : length c.args.functions.now ≤ c.loop-at.at = omega (arith, c.loop-at-test.false) in
    found-within c.args.functions.now c.args.symbol c.loop-at.found
    (c.loop-at.invariant ∙ ap (λ (x : List Function). place_among (last_first x) c.args.symbol) (take_all c.loop-at.at c.args.functions.now done))
