use Rattle.std.proofs.Common.{sym, ◌∙◌}
use Rattle.pc_word.proofs.Places.{map_length}
use Rattle.pc_automaton.specs.Automaton.{state_in}
use Rattle.pc_explain.specs.Explained.{schedule_in}
use Rattle.pc_explain.proofs.EachState.{explained_length}
use Rattle.pc_explain.proofs.explanation.Schedule.count.Goals as goal

-- as many states are explained as the automaton has
pub returns : goal.returns
returns c =
    c.count.ensures.number
    ∙ sym (map_length state_in c.args.self.now.told.automaton)
    ∙ sym (explained_length (schedule_in c.args.self.now) c.requires)
