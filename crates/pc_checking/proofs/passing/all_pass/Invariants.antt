use Rattle.std.proofs.Common.{◌≡◌}
use Rattle.pc_checking.specs.models.Stored.{arrivals_in, setting_in, AreKept}
use Rattle.pc_checking.specs.models.Going.{EntriesGoOn}
use Rattle.pc_checking.proofs.passing.all_pass.Given as goal

-- what comes of the entries that follow comes of all
abbrev pub invariant-loop-entry : goal.invariant-loop-entry
invariant-loop-entry l = record {
  number : l.number ≡ l.entry-index;
  on : EntriesGoOn (setting_in l.setting) (arrivals_in l.initial.arrivals) l.number (arrivals_in l.arrivals);
  kept : AreKept l.setting l.arrivals;
}
