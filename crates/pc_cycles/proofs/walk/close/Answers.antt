use Rattle.std.proofs.Common.{◌++◌, ◌∙◌, List, ap, subst, sym, arith}
use Rattle.pc_automaton.specs.Automaton.{states_in}
use Rattle.pc_cycles.specs.declared.transition.Transition.{Transition}
use Rattle.pc_cycles.specs.models.Circles.{IsCircle}
use Rattle.pc_cycles.specs.models.Paths.{since}
use Rattle.pc_cycles.proofs.Paths.{since_is_circle}
use Rattle.pc_cycles.proofs.Visits.{follows_back}
use Rattle.pc_cycles.proofs.walk.close.Goals as goal

pub along-requires-clause-circle : goal.along-requires-clause-circle
along-requires-clause-circle c =
    let states = states_in c.args.told.now.automaton in
    let back = since c.args.path.now c.args.next in
    let same = c.in_ok-push_since.ensures ∙ ap (λ (list : List Transition). list ++ back) c.new-transitions.ensures in
    let room = c.requires.at.room in
    subst (IsCircle states) (sym same) (since_is_circle states c.args.path.now c.args.next c.requires.at.comes c.requires.at.others (omega (arith, room)) c.requires.back)

pub returns : goal.returns
returns c =
    let back = since c.args.path.now c.args.next in
    let same = c.in_ok-push_since.ensures ∙ ap (λ (list : List Transition). list ++ back) c.new-transitions.ensures in
    follows_back c.in_ok-cycle.cycle c.requires.at c.requires.found c.requires.back (c.in_ok-cycle.ensures.same ∙ same) c.in_ok-cycle.ensures.is c.in_ok-push.ensures.ok
