-- What can be written can be shown.
use Rattle.std.proofs.Common.{List, [], ◌∷◌, Option, Some, None}
use Rattle.std.specs.Prelude.{IfSome}
use Rattle.std.specs.List.{AllByRecursion}
use Rattle.pc_word.specs.declared.item.Limits.{Limits}
use Rattle.pc_explain.specs.declared.explanation.LoopExplanation.{LoopExplanation}
use Rattle.pc_explain.specs.Explained.{LoopSchedule, Explanation, explanation_in, explanations_in, HasEach, ScheduleCanBeWritten, CanBeShown, CanBeWritten}

module _ (limits : Limits) where
  has_each : (schedule : Option LoopSchedule) → IfSome schedule (ScheduleCanBeWritten limits) → IfSome schedule HasEach
  has_each None can = tt
  has_each (Some schedule) can = can.each

  can_be_shown : (it : Explanation) → CanBeWritten limits it → CanBeShown it
  can_be_shown it can = record { known = can.known; schedule = has_each it.schedule can.schedule }

  pub all_can_be_shown : (loops : List LoopExplanation) → AllByRecursion (CanBeWritten limits) (explanations_in loops)
      → AllByRecursion (λ it. CanBeShown (explanation_in it)) loops
  all_can_be_shown [] can = tt
  all_can_be_shown (it ∷ rest) can = (can_be_shown (explanation_in it) can.0, all_can_be_shown rest can.1)
