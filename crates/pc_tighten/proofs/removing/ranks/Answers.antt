use Rattle.std.proofs.Common.{◌-◌, true, false, is_some, refl, sym, ◌∙◌, ap}
use Rattle.pc_tighten.proofs.Gotos.{ranked_more}
use Rattle.pc_tighten.proofs.removing.ranks.Goals.{then-is_some, else-is_some}
use Rattle.pc_tighten.proofs.removing.ranks.Goals as goal

pub loop-row-preserved : goal.loop-row-preserved
loop-row-preserved c =
    let gotos = c.args.gotos.now in
    let places = c.loop-row.places.items in
    let now = c.push.new.self.items in
    let gone = c.loop-row.gone in
    let row = c.loop-row.row in
    let marked = ap is_some (sym c.sent_on.ensures) ∙ sym c.is_some.ensures in
    elim c.if-is_some.branch [
      | then-is_some w ↦
          ranked_more gotos places now gone c.if-is_some.gone row (row - gone) true c.loop-row.invariant c.in_ok-push.ensures.items refl (marked ∙ w.if-is_some.true) w.gone-is
      | else-is_some w ↦
          ranked_more gotos places now gone c.if-is_some.gone row (row - gone) false c.loop-row.invariant c.in_ok-push.ensures.items refl (marked ∙ w.if-is_some.false) w.gone-is
    ]
