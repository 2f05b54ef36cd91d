use Rattle.std.proofs.Common.{refl}
use Rattle.pc_window.proofs.Settling.{opens_alike}
use Rattle.pc_window.proofs.Proper.{opens_proper}
use Rattle.pc_window.proofs.Bare.{bare_untested}
use Rattle.pc_window.proofs.laws.laws_of_opening.Goals as goal

pub returns-clause-runs : goal.returns-clause-runs
returns-clause-runs c = λ table keeps limits region s. opens_alike table keeps limits region _ refl s

pub returns-clause-proper : goal.returns-clause-proper
returns-clause-proper c = λ table limits region room. opens_proper table limits region _ room refl

pub returns-clause-bare : goal.returns-clause-bare
returns-clause-bare c = bare_untested
