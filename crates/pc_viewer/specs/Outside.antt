-- The outside as the viewer sees it: the shelf of files, its output and its error output. It has no input.
use Rattle.pc_outside.specs.Shelf.{Shelved}
use Rattle.pc_driver.specs.Streams.{Streamed}

-- all that is outside
pub record Surroundings : Type 0 where
  pub shelf : Shelved
  pub out : Streamed
  pub err : Streamed

-- it from its parts
abbrev pub surroundings : Shelved → Streamed → Streamed → Surroundings
surroundings shelf out err = record { shelf = shelf; out = out; err = err }
