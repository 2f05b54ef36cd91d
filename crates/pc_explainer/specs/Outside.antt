-- The outside as the explainer sees it: the shelf of files, its output and its error output. It has no input.
use Rattle.pc_word.specs.Count.{Rose}
use Rattle.pc_outside.specs.Shelf.{Shelved}
use Rattle.pc_driver.specs.Streams.{Streamed}

-- all that is outside
pub record Surroundings : Type 0 where
  pub shelf : Shelved
  pub out : Streamed
  pub err : Streamed

-- it from its parts
abbrev pub surroundings : Shelved → Streamed → Streamed → Surroundings
surroundings shelf out err = record { shelf = shelf; out = out; err = err }

-- the error output failed
abbrev pub HasErrorFault : Surroundings → Surroundings → Type 0
HasErrorFault old new = Rose old.err.faults new.err.faults
