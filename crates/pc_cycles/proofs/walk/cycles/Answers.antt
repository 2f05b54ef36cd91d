use Rattle.std.proofs.Common.{refl}
use Rattle.pc_automaton.specs.Automaton.{states_in}
use Rattle.pc_cycles.proofs.Done.{none_passed_over}
use Rattle.pc_cycles.proofs.walk.cycles.Goals as goal

pub returns-clause-none_is_passed_over : goal.returns-clause-none_is_passed_over
returns-clause-none_is_passed_over c =
    let visits = c.in_ok-visit.ensures in
    none_passed_over (states_in c.args.told.now.automaton) c.visit.new.met c.visit.new.cycles (λ state is_met. visits.found.others_done state is_met refl)
    (visits.found.others_done 0 visits.is_met refl)
