-- A shelf of files with names: what it shows, and what a read and a write of a file do to it.
use Rattle.std.specs.Prelude.{◌≡◌, ◌≢◌, ℕ, ◌≤◌, List, length, take, Option, Some, IfSome}
use Rattle.std.specs.Option.{option_map}
use Rattle.std.specs.Ordering.{nat_cmp}
use Rattle.std.specs.Cmp.Lexicographic.{slice_cmp}
use Rattle.std.specs.FinMap.{FinMap, get, insert}
use Rattle.pc_outside.specs.Fault.{FaultOf}

-- the bytes of files, by the bytes of their names
abbrev pub Files : Type 0
Files = FinMap (slice_cmp nat_cmp) (List ℕ)

-- a shelf: the files that it holds, where it tells them; how many reads failed, and the name of the last that did; the same of writes
pub record Shelved : Type 0 where
  pub held : Option Files
  pub read_faults : ℕ
  pub read_name : List ℕ
  pub write_faults : ℕ
  pub write_name : List ℕ

-- a read of this name failed between the two moments
abbrev pub ReadFaultOf : Shelved → Shelved → List ℕ → Type 0
ReadFaultOf old new name = FaultOf old.read_faults new.read_faults new.read_name name

-- a write of this name failed between the two moments
abbrev pub WriteFaultOf : Shelved → Shelved → List ℕ → Type 0
WriteFaultOf old new name = FaultOf old.write_faults new.write_faults new.write_name name

-- told files stay told, and no file but this one differs
abbrev pub OnlyFileDiffers : Option Files → Option Files → List ℕ → Type 0
OnlyFileDiffers old new name = IfSome old (λ before. (after : Files) × (new ≡ Some after) × ((other : List ℕ) → other ≢ name → get after other ≡ get before other))

-- what every read leaves as it was: the files, and all of the writes; the count of its own faults has not fallen
pub record ReadKeeps (old new : Shelved) : Type 0 where
  pub held : new.held ≡ old.held
  pub counted : old.read_faults ≤ new.read_faults
  pub write_faults : new.write_faults ≡ old.write_faults
  pub write_name : new.write_name ≡ old.write_name

-- what every write leaves as it was: all files but the named one, and all of the reads; the count of its own faults has not fallen
pub record WriteKeeps (old new : Shelved) (name : List ℕ) : Type 0 where
  pub others : OnlyFileDiffers old.held new.held name
  pub counted : old.write_faults ≤ new.write_faults
  pub read_faults : new.read_faults ≡ old.read_faults
  pub read_name : new.read_name ≡ old.read_name

-- bytes are the first of the named file, at most this many, or the whole of a shorter file; a name that is not held gives none
pub record GivesFile (held : Option Files) (name : List ℕ) (most : ℕ) (bytes : List ℕ) : Type 0 where
  pub bound : length bytes ≤ most
  pub first : IfSome held (λ files. option_map (take most) (get files name) ≡ Some bytes)

-- the named file is exactly these bytes, and all else is as before
abbrev pub HoldsFile : Option Files → Option Files → List ℕ → List ℕ → Type 0
HoldsFile old new name bytes = IfSome old (λ files. new ≡ Some (insert files name bytes))
