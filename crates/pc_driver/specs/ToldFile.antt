-- A file of a shelf that tells its files.
use Rattle.std.specs.Prelude.{◌≡◌, ℕ, List, Option, Some}
use Rattle.std.specs.FinMap.{get}
use Rattle.pc_outside.specs.Shelf.{Files}

-- the shelf tells its files, and the named one has this text
pub record IsToldFile (told : Option Files) (name text : List ℕ) : Type 0 where
  pub files : Files
  pub held : told ≡ Some files
  pub here : get files name ≡ Some text
