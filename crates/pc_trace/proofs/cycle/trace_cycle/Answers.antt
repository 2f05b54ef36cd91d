use Rattle.std.proofs.Common.{◌∙◌, ap, subst, sym, Option}
use Rattle.pc_word.specs.declared.item.End.{End}
use Rattle.pc_word.specs.Run.{Step}
use Rattle.pc_machine.specs.MachineCode.{code_of}
use Rattle.pc_machine.specs.MachineRun.{Cycle, machine_step}
use Rattle.pc_vm.specs.Standing.{here_of}
use Rattle.pc_trace.specs.Trace.{CycleDone, Moves}
use Rattle.pc_trace.proofs.Steps.{event-moves, walk-told}
use Rattle.pc_trace.proofs.cycle.trace_cycle.Goals as goal

pub returns-clause-cycle : goal.returns-clause-cycle
returns-clause-cycle c =
    c.finished.ensures ∙ walk-told _ _ c.in_ok-walk.walk c.cycle-event.result c.cycle-event.new.self c.in_ok-walk.ensures c.cycle-event.ensures.step

pub returns-clause-step : goal.returns-clause-step
returns-clause-step c =
    let step : Step Cycle = machine_step (code_of c.args.machine.now.code) (here_of c.args.machine.now) in
    subst (λ (end : Option End). Moves end c.cycle-event.new.self step) (sym (ap (λ (cycle : CycleDone). cycle.end) c.finished.ensures))
    (event-moves c.cycle-event.result c.cycle-event.new.self step c.cycle-event.ensures.step)
