-- Inputs of numbers, why bytes are refused as one, as it is reported to a user, and what a program loads.
use Rattle.std.specs.Prelude.{◌≡◌, ℕ, ◌<◌, ◌≤◌, ℤ, List, length, Option, IfSome, Ok, Err}
use Rattle.pc_word.specs.MachineLimits.{most_input}
use Rattle.pc_word.specs.NumberText.{numbers_in}
use Rattle.pc_object.specs.ObjectText.{CodeWithNotes}
use Rattle.pc_outside.specs.Shelf.{Files}
use Rattle.pc_report.specs.declared.fault.InputFault.{InputFault}
use Rattle.pc_report.specs.declared.fault.InputFault.TheVariants as input
use Rattle.pc_driver.specs.Objects.{Holds}

-- the bytes are an input of these numbers
pub record IsInputOf (bytes : List ℕ) (numbers : List ℤ) : Type 0 where
  pub few_bytes : length bytes ≤ most_input
  pub read : numbers_in bytes ≡ Ok numbers

-- the bytes are too many for an input, or spell no numbers
abbrev pub IsNoInput : List ℕ → Type 0
IsNoInput bytes = (numbers : List ℤ) → IsInputOf bytes numbers → ⊥

-- the numbers are those of an input, which is all that was left, where that is told
pub record SpellsInput (left : Option (List ℕ)) (numbers : List ℤ) : Type 0 where
  pub bytes : List ℕ
  pub given : IfSome left (λ all. all ≡ bytes)
  pub input : IsInputOf bytes numbers

-- the object that was loaded, and the numbers that the input gave
pub record Loaded (name : List ℕ) (held : Option Files) (left : Option (List ℕ)) (object : CodeWithNotes) (numbers : List ℤ) : Type 0 where
  pub in_file : Holds held name object
  pub in_input : SpellsInput left numbers

-- the bytes have this fault: they are too many, or the word that begins at this offset is the first that spells no number
pub data HasInputFault (bytes : List ℕ) : (fault : InputFault) → Type 0 where
  Long_input : most_input < length bytes → HasInputFault bytes input.TooLong
  Misspelt_input : {offset : ℕ} →
      length bytes ≤ most_input →
      numbers_in bytes ≡ Err offset →
      HasInputFault bytes (input.NotNumber offset)
