-- What a write leaves of a shelf that tells what it holds.
use Rattle.std.proofs.Common.{◌≡◌, ℕ, ◌≤◌, List, Option, Some, None, refl}
use Rattle.std.specs.FinMap.{insert}
use Rattle.pc_outside.specs.Shelf.{Files, Shelved, OnlyFileDiffers, WriteKeeps}
use Rattle.pc_outside.proofs.HeldLemmas.{get-insert-other}

-- files that are as before differ in none
OnlyFileDiffers-same : (old new : Option Files) (name : List ℕ) → new ≡ old → OnlyFileDiffers old new name
OnlyFileDiffers-same None new name e = tt
OnlyFileDiffers-same (Some files) new name e = (files, e, λ other differs. refl)

-- an insertion makes only its file differ
OnlyFileDiffers-insert : (files : Files) (new : Option Files) (name bytes : List ℕ) → new ≡ Some (insert files name bytes) → OnlyFileDiffers (Some files) new name
OnlyFileDiffers-insert files new name bytes e = (insert files name bytes, e, λ other differs. get-insert-other files name bytes other differs)

-- a write that left the files as before
pub WriteKeeps-same : (old new : Shelved) (name : List ℕ) → new.held ≡ old.held
    → old.write_faults ≤ new.write_faults → new.read_faults ≡ old.read_faults → new.read_name ≡ old.read_name → WriteKeeps old new name
WriteKeeps-same old new name held counted faults beside = record {
  others = OnlyFileDiffers-same old.held new.held name held;
  counted = counted;
  read_faults = faults;
  read_name = beside;
}

-- a write that made the file
pub WriteKeeps-insert : (old new : Shelved) (name bytes : List ℕ) (files : Files) → old.held ≡ Some files → new.held ≡ Some (insert files name bytes)
    → old.write_faults ≤ new.write_faults → new.read_faults ≡ old.read_faults → new.read_name ≡ old.read_name → WriteKeeps old new name
WriteKeeps-insert old new name bytes files was held counted faults beside = record {
  others = rw was (OnlyFileDiffers-insert files new.held name bytes held);
  counted = counted;
  read_faults = faults;
  read_name = beside;
}
