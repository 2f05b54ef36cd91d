-- The laws of arranging. Each is the contract of a function of laws.rt, which does nothing.
use Rattle.std.specs.Prelude.{◌≡◌, List}
use Rattle.pc_table.specs.Table.{Table}
use Rattle.pc_window.specs.WindowRun.{Window}
use Rattle.pc_window.specs.Steps.{IsProper}
use Rattle.pc_cert.specs.declared.certificate.Step.{Step}
use Rattle.pc_certified.specs.Changes.{ChangesTo}
use Rattle.pc_arranging.specs.Arranging.{Arranges}

-- steps arrange a proper window by changes of which each is legal, whatever code makes of it
abbrev pub ArrangingChanges : Type 0
ArrangingChanges = (table : Table) (steps : List Step) (w v : Window) → IsProper w → Arranges table steps w v → ChangesTo table w v

-- and to a proper window
abbrev pub ArrangedIsProper : Type 0
ArrangedIsProper = (table : Table) (steps : List Step) (w v : Window) → IsProper w → Arranges table steps w v → IsProper v

-- steps arrange a window in one way at most
abbrev pub ArrangedOnce : Type 0
ArrangedOnce = (table : Table) (steps : List Step) (w v u : Window) → Arranges table steps w v → Arranges table steps w u → v ≡ u
