use Rattle.std.proofs.Common.{length, ◌∙◌}
use Rattle.pc_automaton.specs.Automaton.{AutomatonState}
use Rattle.pc_compile.specs.models.Leaves.{LeavesKeep}
use Rattle.pc_compile.specs.models.Marked.{LeadsBelow}
use Rattle.pc_compile.proofs.Finding.{finds_state, state_at}
use Rattle.pc_compile.proofs.leading.find_led_out.Goals as goal

pub find_in_row-requires : goal.find_in_row-requires
find_in_row-requires c =
    state_at (λ (state : AutomatonState). LeavesKeep (LeadsBelow (length c.loop-number.found.marks)) state.row) c.args.automaton.now c.loop-number.number
    c.state.result.now c.state.ensures
    (rw (c.loop-number.invariant.1) c.requires.there)

pub loop-number-preserved : goal.loop-number-preserved
loop-number-preserved c = (
  finds_state c.args.automaton.now c.loop-number.number c.state.result.now c.loop-number.found c.find_in_row.new.found c.state.ensures c.in_ok-find_in_row.ensures
      ∙ c.loop-number.invariant.0,
  c.in_ok-find_in_row.ensures.as_many ∙ c.loop-number.invariant.1,
)
