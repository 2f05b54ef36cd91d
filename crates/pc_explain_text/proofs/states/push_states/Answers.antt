use Rattle.std.proofs.Common.{string_bytes}
use Rattle.pc_explain.specs.Legends.{legend_in}
use Rattle.pc_explain.specs.Explained.{schedule_in}
use Rattle.pc_explain.specs.EachState.{explained_in, explained_states}
use Rattle.pc_explain.proofs.EachState.{explained_fits}
use Rattle.pc_explain_text.specs.StateLines.{state_lines}
use Rattle.pc_explain_text.proofs.InTurn.{text_at}
use Rattle.pc_explain_text.proofs.states.push_states.Goals as goal

pub push_state-requires : goal.push_state-requires
push_state-requires c =
    explained_fits c.args.limits (schedule_in c.args.schedule.now) c.requires c.loop-number.number (explained_in c.state-state.result) c.state-state.ensures

pub loop-number-preserved : goal.loop-number-preserved
loop-number-preserved c =
    text_at (state_lines c.args.limits (legend_in c.args.legend.now) c.args.header) (explained_states (schedule_in c.args.schedule.now)) c.loop-number.number
    (explained_in c.state-state.result) (string_bytes c.loop-number.text) _ _ c.state-state.ensures c.in_ok-push_state.ensures c.loop-number.invariant
