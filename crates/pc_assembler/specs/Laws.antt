-- What follows from the assembler's promise for each status, for each command and text.
use Rattle.std.specs.Prelude.{◌≡◌, ℕ, ◌≤◌, ◌⊎◌, List, Option, Some, None}
use Rattle.std.specs.Option.{IsSomeAnd}
use Rattle.pc_word.specs.Count.{Rose}
use Rattle.pc_object.specs.ObjectText.{CodeWithNotes, object_text}
use Rattle.pc_outside.specs.Shelf.{HoldsFile, OnlyFileDiffers, ReadFaultOf, ReadKeeps, WriteFaultOf}
use Rattle.pc_command.specs.Requests.{AssembleRequest}
use Rattle.pc_driver.specs.Files.{HoldsText}
use Rattle.pc_driver.specs.ToldFile.{IsToldFile}
use Rattle.pc_assembler.specs.Assembler.{AssemblerLacks, AssemblerPromise, WritesObject}
use Rattle.pc_assembler.specs.Faults.{IsListingOf, IsNoListing}
use Rattle.pc_assembler.specs.Outside.{Surroundings}

-- the object of a listing at TEXT was written to OBJ, and nothing was told
pub record HasAssembled (old new : Surroundings) (request : AssembleRequest) : Type 0 where
  pub object : CodeWithNotes
  pub written : WritesObject request object old.shelf new.shelf
  pub silent : new.err ≡ old.err

-- the shelf had a read fault of TEXT
abbrev pub HasReadFault : Surroundings → Surroundings → AssembleRequest → Type 0
HasReadFault old new request = ReadFaultOf old.shelf new.shelf request.text

-- the shelf had a write fault of OBJ
abbrev pub HasWriteFault : Surroundings → Surroundings → AssembleRequest → Type 0
HasWriteFault old new request = WriteFaultOf old.shelf new.shelf request.object

-- the error output failed
abbrev pub HasErrorFault : Surroundings → Surroundings → Type 0
HasErrorFault old new = Rose old.err.faults new.err.faults

-- no file but OBJ differs, and without a command none does
abbrev pub KeepsOthers : Option AssembleRequest → Surroundings → Surroundings → Type 0
KeepsOthers None old new = new.shelf.held ≡ old.shelf.held
KeepsOthers (Some request) old new = OnlyFileDiffers old.shelf.held new.shelf.held request.object

-- the shelf tells its files, and TEXT has this text
abbrev pub IsToldText : Surroundings → AssembleRequest → (text : List ℕ) → Type 0
IsToldText old request text = IsToldFile old.shelf.held request.text text

-- what follows
pub record AssemblerStatuses (given : Option AssembleRequest) (old new : Surroundings) (code : ℕ) : Type 0 where
  -- what each status says
  pub assembled : code ≡ 0 → IsSomeAnd given (HasAssembled old new)
  pub lacking : code ≡ 1 → AssemblerLacks old.shelf new.shelf given
  pub misused : code ≡ 2 → (given ≡ None) × (new.shelf ≡ old.shelf)
  pub unread : code ≡ 3 → IsSomeAnd given (HasReadFault old new)
  pub refused : code ≡ 4 → IsSomeAnd given (λ request. HoldsText old.shelf.held request.text IsNoListing)
  pub failed : code ≡ 5 → IsSomeAnd given (HasWriteFault old new) ⊎ HasErrorFault old new
  pub known : code ≤ 5
  -- with 2, 3 and 4 nothing was written
  pub kept : (2 ≤ code) → (code ≤ 4) → ReadKeeps old.shelf new.shelf
  -- whatever the status, no file but OBJ differs
  pub others : KeepsOthers given old new
  -- what is no command is reported so, but for want of memory and a fault of the error output
  pub usage : given ≡ None → (code ≡ 2) ⊎ (code ≡ 1) ⊎ ((code ≡ 5) × HasErrorFault old new)
  -- the object of a listing is written, but for want of memory and faults
  pub complete : (request : AssembleRequest) (text : List ℕ) (object : CodeWithNotes) →
      given ≡ Some request → IsToldText old request text → IsListingOf text object →
      ((code ≡ 0) × HoldsFile old.shelf.held new.shelf.held request.object (object_text object))
      ⊎ (code ≡ 1) ⊎ ((code ≡ 3) × HasReadFault old new request)
      ⊎ ((code ≡ 5) × (HasWriteFault old new request ⊎ HasErrorFault old new))
  -- and what is no listing is refused
  pub strict : (request : AssembleRequest) (text : List ℕ) →
      given ≡ Some request → IsToldText old request text → IsNoListing text →
      (code ≡ 4) ⊎ (code ≡ 1) ⊎ ((code ≡ 3) × HasReadFault old new request) ⊎ ((code ≡ 5) × HasErrorFault old new)

-- the law: the promise says all this
abbrev pub AssemblerPromisesSay : Type 0
AssemblerPromisesSay = (given : Option AssembleRequest) (old new : Surroundings) (code : ℕ) → AssemblerPromise given old new code
    → AssemblerStatuses given old new code
