-- What is said of a source, which is a file or a sample.
use Rattle.std.specs.Prelude.{◌≡◌, ℕ, List, Option, Some}
use Rattle.std.specs.FinMap.{get}
use Rattle.pc_outside.specs.Shelf.{Files}
use Rattle.pc_driver.specs.Files.{HasText, HoldsText}
use Rattle.pc_command.specs.Requests.{SourcePlace, OfFile, OfSample}
use Rattle.pc_sample.specs.SampleText.{sample_text}

-- the source has this text: the named file does, or it is the text of the sample
abbrev pub HasSource : Option Files → SourcePlace → List ℕ → Type 0
HasSource held (OfFile name) text = HasText held name text
HasSource held (OfSample number) text = text ≡ sample_text number

-- there is such a source, with a text of which P holds
abbrev pub HoldsSource : Option Files → SourcePlace → (List ℕ → Type 0) → Type 0
HoldsSource held (OfFile name) P = HoldsText held name P
HoldsSource held (OfSample number) P = P (sample_text number)

-- the shelf tells its files, and the source has this text
abbrev pub IsTold : Option Files → SourcePlace → List ℕ → Type 0
IsTold held (OfFile name) text = (files : Files) × (held ≡ Some files) × (get files name ≡ Some text)
IsTold held (OfSample number) text = text ≡ sample_text number
