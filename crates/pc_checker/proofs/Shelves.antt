-- What a shelf tells after a read, and after a write.
use Rattle.std.proofs.Common.{◌≡◌, ◌≢◌, Bool, true, false, cond, ℕ, ◌≤◌, List, Option, Some, None, refl, ◌∙◌, ap, subst, arith}
use Rattle.std.specs.FinMap.{get, insert, get-insert}
use Rattle.std.specs.Str.{bytes_eq}
use Rattle.std.specs.Cmp.Lexicographic.{nat_list_cmp_total}
use Rattle.std.proofs.lemmas.Map.Text.{is_eq-slice_cmp}
use Rattle.std.proofs.lemmas.Slice.Eq.{bytes_eq-Decides}
use Rattle.pc_word.specs.Count.{Rose}
use Rattle.pc_outside.specs.Shelf.{Files, HoldsFile, OnlyFileDiffers, ReadFaultOf, ReadKeeps, Shelved, WriteFaultOf}

-- a shelf that is not touched is as after a read
pub same_keeps : (shelf : Shelved) → ReadKeeps shelf shelf
same_keeps shelf = record { held = refl; counted = omega arith; write_faults = refl; write_name = refl }

-- a shelf that is as before differs in no file
pub kept_differs : (old new : Option Files) (name : List ℕ) → new ≡ old → OnlyFileDiffers old new name
kept_differs None new name e = tt
kept_differs (Some before) new name e = (before, e, λ other _. refl)

not_chosen : (b : Bool) (x y : Option (List ℕ)) → (b ≡ true → ⊥) → cond b x y ≡ y
not_chosen true x y never = absurd (never refl)
not_chosen false x y never = refl

kept_by_insert : (files : Files) (name bytes other : List ℕ) → other ≢ name → get (insert files name bytes) other ≡ get files other
kept_by_insert files name bytes other apart =
    get-insert nat_list_cmp_total files name bytes other
    ∙ ap (λ (b : Bool). cond b (Some bytes) (get files other)) (is_eq-slice_cmp other name)
    ∙ not_chosen (bytes_eq other name) (Some bytes) (get files other) (λ same. apart ((bytes_eq-Decides other name).0 same))

-- a shelf on which one file was written differs in no other
pub written_differs : (old new : Option Files) (name bytes : List ℕ) → HoldsFile old new name bytes → OnlyFileDiffers old new name
written_differs None new name bytes h = tt
written_differs (Some before) new name bytes h = (insert before name bytes, h, λ other apart. kept_by_insert before name bytes other apart)

-- ---- after a read

rose_later : (one two three : ℕ) → one ≤ two → Rose two three → Rose one three
rose_later one two three le rose = omega (arith, le, rose)

module _ (old mid new : Shelved) (keeps : ReadKeeps old mid) where
  pub keeps_behind : ReadKeeps mid new → ReadKeeps old new
  keeps_behind later = record {
    held = later.held ∙ keeps.held;
    counted = omega (arith, keeps.counted, later.counted);
    write_faults = later.write_faults ∙ keeps.write_faults;
    write_name = later.write_name ∙ keeps.write_name;
  }

  pub read_fault_behind : (name : List ℕ) → ReadFaultOf mid new name → ReadFaultOf old new name
  read_fault_behind name h = record { rose = rose_later old.read_faults mid.read_faults new.read_faults keeps.counted h.rose; named = h.named }

  pub write_fault_behind : (name : List ℕ) → WriteFaultOf mid new name → WriteFaultOf old new name
  write_fault_behind name h = record { rose = subst (λ (before : ℕ). Rose before new.write_faults) keeps.write_faults h.rose; named = h.named }

  pub differs_behind : (name : List ℕ) → OnlyFileDiffers mid.held new.held name → OnlyFileDiffers old.held new.held name
  differs_behind name h = subst (λ (held : Option Files). OnlyFileDiffers held new.held name) keeps.held h

  pub written_behind : (name bytes : List ℕ) → HoldsFile mid.held new.held name bytes → HoldsFile old.held new.held name bytes
  written_behind name bytes h = subst (λ (held : Option Files). HoldsFile held new.held name bytes) keeps.held h
