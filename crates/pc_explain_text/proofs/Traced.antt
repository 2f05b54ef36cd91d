-- The items of a schedule of which each part can be shown can be traced.
use Rattle.std.proofs.Common.{sym, ◌∙◌, arith}
use Rattle.std.proofs.lemmas.List.{length-map}
use Rattle.pc_automaton.specs.Automaton.{state_in}
use Rattle.pc_told.specs.Tellings.{telling_in}
use Rattle.pc_explain.specs.declared.explanation.Schedule.{Schedule}
use Rattle.pc_explain.specs.Explained.{schedule_in, HasEach}
use Rattle.pc_explain_text.specs.models.Traced.{CanBeTraced}

pub can_be_traced : (schedule : Schedule) → HasEach (schedule_in schedule) → CanBeTraced schedule.told
can_be_traced schedule each =
    let states = length-map schedule.told.automaton state_in in
    let few = each.few in
    record {
      as_many = sym (length-map schedule.told.rows telling_in) ∙ each.as_many ∙ states;
      few = omega (arith, few, states);
      few_leaves = each.few_leaves;
    }
