-- What each private answer of the profiler says of the outside before and after it.
use Rattle.std.specs.Prelude.{◌≡◌, ℕ, ℤ, List, Option}
use Rattle.pc_object.specs.ObjectText.{CodeWithNotes, IsObject}
use Rattle.pc_outside.specs.Shelf.{Files}
use Rattle.pc_command.specs.Requests.{StatRequest}
use Rattle.pc_count.specs.Counts.{RunProfile}
use Rattle.pc_count.specs.Profiles.{IsProfileOf}
use Rattle.pc_driver.specs.Input.{SpellsInput}
use Rattle.pc_driver.specs.Objects.{Holds}
use Rattle.pc_profiler.specs.Cost.{cost_text, profile_on}

-- an object was run on numbers for at most so many cycles, and this is its profile
pub record IsProfiled (object : CodeWithNotes) (numbers : List ℤ) (cycles : ℕ) (after : CodeWithNotes) (profile : RunProfile) : Type 0 where
  pub same : after ≡ object
  pub whole : IsObject after
  pub is : profile ≡ profile_on cycles object numbers
  pub of_run : IsProfileOf after.code profile

-- the text that is asked for of an object and the numbers of the input
pub record TellsOn (request : StatRequest) (object : CodeWithNotes) (left : Option (List ℕ)) (text : List ℕ) : Type 0 where
  pub numbers : List ℤ
  pub in_input : SpellsInput left numbers
  pub is : text ≡ cost_text request object numbers

-- so of an object that OBJ holds
pub record TellsCost (request : StatRequest) (held : Option Files) (left : Option (List ℕ)) (text : List ℕ) : Type 0 where
  pub object : CodeWithNotes
  pub in_file : Holds held request.object object
  pub tells : TellsOn request object left text
