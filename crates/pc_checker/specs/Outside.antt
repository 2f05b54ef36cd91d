-- The outside as the checker sees it: the shelf of files and its error output. It has no input and no output.
use Rattle.pc_outside.specs.Shelf.{Shelved}
use Rattle.pc_driver.specs.Streams.{Streamed}

-- all that is outside
pub record Surroundings : Type 0 where
  pub shelf : Shelved
  pub err : Streamed

-- it from its parts
abbrev pub surroundings : Shelved → Streamed → Surroundings
surroundings shelf err = record { shelf = shelf; err = err }
