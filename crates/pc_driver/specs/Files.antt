-- What is said of a file where the shelf tells what it holds, and where it does not, nothing.
use Rattle.std.specs.Prelude.{◌≡◌, ℕ, ◌<◌, List, length, Option, Some, IfSome}
use Rattle.std.specs.FinMap.{get}
use Rattle.pc_outside.specs.Shelf.{Files, Shelved, ReadFaultOf}
use Rattle.pc_driver.specs.declared.file.FileError.{FileError}
use Rattle.pc_driver.specs.declared.file.FileError.TheVariants as file

-- the named file has this text
abbrev pub HasText : Option Files → List ℕ → List ℕ → Type 0
HasText held name text = IfSome held (λ files. get files name ≡ Some text)

-- the named file is held, with a text of which P holds
abbrev pub HoldsText : Option Files → List ℕ → (List ℕ → Type 0) → Type 0
HoldsText held name P = IfSome held (λ files. (text : List ℕ) × (get files name ≡ Some text) × P text)

-- why a file of at most so many bytes was not read
abbrev pub RefusesFile : FileError → List ℕ → ℕ → Shelved → Shelved → Type 0
RefusesFile file.Memory name most old new = Unit {0}
RefusesFile file.Failed name most old new = ReadFaultOf old new name
RefusesFile file.TooLong name most old new = HoldsText old.held name (λ text. most < length text)
