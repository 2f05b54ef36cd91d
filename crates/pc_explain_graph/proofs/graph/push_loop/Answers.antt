use Rattle.std.proofs.Common.{Option, Some, None}
use Rattle.std.specs.Prelude.{IfSome, option_map}
use Rattle.pc_word.specs.declared.item.Limits.{Limits}
use Rattle.pc_explain.specs.Explained.{LoopSchedule, schedule_in, HasEach, ScheduleCanBeWritten}
use Rattle.pc_explain_graph.proofs.graph.push_loop.Goals as goal

-- of a schedule that can be written each part can be shown
each_of : (limits : Limits) (schedule : Option LoopSchedule) → IfSome schedule (ScheduleCanBeWritten limits) → IfSome schedule HasEach
each_of limits None can = tt
each_of limits (Some schedule) can = can.each

pub push_loop_edges-requires : goal.push_loop_edges-requires
push_loop_edges-requires c = each_of c.args.limits (option_map schedule_in c.args.it.now.schedule) c.requires.schedule
