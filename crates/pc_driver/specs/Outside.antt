-- The outside as a program sees it: the shelf of files, its input, its output and its error output.
use Rattle.pc_word.specs.Count.{Rose}
use Rattle.pc_outside.specs.Shelf.{Shelved}
use Rattle.pc_driver.specs.Streams.{Streamed}

-- all that is outside of a program
pub record Outside : Type 0 where
  pub shelf : Shelved
  pub input : Streamed
  pub out : Streamed
  pub err : Streamed

-- the outside from its parts
abbrev pub outside_of : Shelved → Streamed → Streamed → Streamed → Outside
outside_of shelf input out err = record { shelf = shelf; input = input; out = out; err = err }

-- the error output failed
abbrev pub HasErrorFault : Outside → Outside → Type 0
HasErrorFault old new = Rose old.err.faults new.err.faults
