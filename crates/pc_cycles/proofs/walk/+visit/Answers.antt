use Rattle.std.proofs.Common.{◌∙◌, sym, refl, arith}
use Rattle.pc_automaton.specs.Automaton.{state_in, states_in}
use Rattle.pc_word.proofs.Places.{map_at}
use Rattle.pc_cycles.proofs.Circles.{leaves_are_few}
use Rattle.pc_cycles.proofs.OnWays.{few_of_state, leads_of_state}
use Rattle.pc_cycles.proofs.Visits.{none_followed, passed_leaf, followed_leaf, all_followed, next_there, off_path, at_next, one_fewer, mark_read}
use Rattle.pc_cycles.proofs.Visits.{follows_met, follows_visited, ok_map}
use Rattle.pc_cycles.proofs.walk.+visit.Goals.{visit-in-Some+in_ok-follow, visit-in_default}
use Rattle.pc_cycles.proofs.walk.+visit.Goals as goal

-- ---- the end of a path

pub follow-returns-then-met-next : goal.follow-returns-then-met-next
follow-returns-then-met-next t c =
    let there = c.requires.at.there in
    let as_many = c.requires.at.as_many in
    follows_met c.requires.found (mark_read c.args.met.now c.args.next _ (omega (arith, there, as_many)) c.if-met-next.true) (sym c.if-is_on.ensures)

pub follow-visit-requires : goal.follow-visit-requires
follow-visit-requires t c =
    let there = c.requires.at.there in
    let as_many = c.requires.at.as_many in (
      omega (arith, c.decreases),
      (
        c.requires.ground,
        (c.requires.at, (mark_read c.args.met.now c.args.next _ (omega (arith, there, as_many)) c.if-met-next.false, c.requires.found)),
      ),
    )

pub follow-returns : goal.follow-returns
follow-returns t c = ok_map c.visit.result (λ visits. follows_visited visits (sym c.if-is_on.ensures)) c.visit.ensures

-- ---- the leaves of a state

pub visit-leaf_count-leaf-end-requires : goal.visit-leaf_count-leaf-end-requires
visit-leaf_count-leaf-end-requires t c =
    few_of_state c.args.told.now.automaton c.args.state c.state.result.now (leaves_are_few c.args.limits (states_in c.args.told.now.automaton) c.requires.ground)
    c.state.ensures

pub visit-loop-leaf-init : goal.visit-loop-leaf-init
visit-loop-leaf-init t c = none_followed c.requires.first_met c.requires.found

pub visit-follow-requires : goal.visit-follow-requires
visit-follow-requires t c =
    let states = states_in c.args.told.now.automaton in
    let leads =
    leads_of_state c.args.told.now.automaton c.args.state c.loop-leaf.leaf c.state.result.now c.state.ensures ∙ sym c.successor_at.ensures ∙ c.in-Some.is in
    let fewer = one_fewer c.args.met.now c.args.state c.requires.first_met in
    let still = c.loop-leaf.invariant.finds.fewer_left in (
      omega (arith, c.decreases, fewer, still),
      (
        c.requires.ground,
        (
          at_next c.requires.at c.requires.first_met c.loop-leaf.invariant.finds _ (λ other. refl) refl (leads, c.requires.at.comes)
              (off_path c.args.path.now c.args.state c.args.met.now c.requires.at.on_met c.requires.first_met, c.requires.at.others)
              (next_there states c.requires.ground.kept _ c.in-Some.next leads),
          c.loop-leaf.invariant.found,
        ),
      ),
    )

pub visit-loop-leaf-preserved : goal.visit-loop-leaf-preserved
visit-loop-leaf-preserved t c =
    let leads = leads_of_state c.args.told.now.automaton c.args.state c.loop-leaf.leaf c.state.result.now c.state.ensures ∙ sym c.successor_at.ensures in
    elim c.match-successor_at.branch [
      | visit-in-Some+in_ok-follow w ↦
          rw (w.met-is, w.cycles-is) (followed_leaf c.loop-leaf.invariant (leads ∙ w.in-Some.is) w.in_ok-follow.ensures.finds w.in_ok-follow.ensures.followed
          w.in_ok-follow.ensures.found)
      | visit-in_default w ↦ rw (w.met-is, w.cycles-is) (passed_leaf c.loop-leaf.invariant (λ next somewhere. w.in_default.not-Some next (sym leads ∙ somewhere)))
    ]

pub visit-returns : goal.visit-returns
visit-returns t c =
    let ended = c.loop-leaf-test.false in
    let all = c.leaf_count-leaf-end.ensures in
    all_followed (state_in c.state.result.now) (map_at state_in c.args.told.now.automaton c.args.state c.state.result.now c.state.ensures) (omega (arith, ended, all))
    c.requires.first_met refl c.loop-leaf.invariant
