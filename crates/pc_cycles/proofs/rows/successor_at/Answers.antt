use Rattle.std.proofs.Common.{◌∙◌, ap, sym}
use Rattle.std.specs.Option.{option_copied}
use Rattle.pc_cycles.specs.Transitions.{successor_of}
use Rattle.pc_cycles.proofs.rows.successor_at.Goals as goal

pub returns-in-Some : goal.returns-in-Some
returns-in-Some c = c.successor_of.ensures ∙ ap successor_of (ap option_copied (sym c.in-Some.is) ∙ c.leaf_at.ensures)

pub returns-in-None : goal.returns-in-None
returns-in-None c = ap successor_of (ap option_copied (sym c.in-None.is) ∙ c.leaf_at.ensures)
