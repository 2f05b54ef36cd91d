-- What a profile costs.
use Rattle.std.proofs.Common.{◌≤◌, ap, arith}
use Rattle.pc_word.specs.MachineLimits.{most_cycles}
use Rattle.pc_machine.specs.MachineCode.{RowCode}
use Rattle.pc_count.specs.Counts.{RunProfile}
use Rattle.pc_count.specs.Profiles.{IsProfileOf}
use Rattle.pc_count.proofs.Least.{cycles-least}

-- a run takes no more cycles than a run may
pub few_cycles : (code : RowCode) (profile : RunProfile) → IsProfileOf code profile → profile.cycles ≤ most_cycles
few_cycles code profile of = omega (arith, ap (λ (p : RunProfile). p.cycles) of.is, (cycles-least code of.most of.start).few, of.few)
