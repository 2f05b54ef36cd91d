-- What a shelf holds that is as before, or on which one file was written.
use Rattle.std.proofs.Common.{◌≡◌, ◌≢◌, Bool, true, false, cond, ℕ, List, Option, Some, None, refl, ◌∙◌, ap, arith}
use Rattle.std.specs.FinMap.{get, insert, get-insert}
use Rattle.std.specs.Str.{bytes_eq}
use Rattle.std.specs.Cmp.Lexicographic.{nat_list_cmp_total}
use Rattle.std.proofs.lemmas.Map.Text.{is_eq-slice_cmp}
use Rattle.std.proofs.lemmas.Slice.Eq.{bytes_eq-Decides}
use Rattle.pc_outside.specs.Shelf.{Files, Shelved, ReadKeeps, OnlyFileDiffers, HoldsFile}

-- a shelf that is not touched is as after a read
pub same_keeps : (shelf : Shelved) → ReadKeeps shelf shelf
same_keeps shelf = record { held = refl; counted = omega arith; write_faults = refl; write_name = refl }

-- a shelf that is as before differs in no file
pub kept_differs : (old new : Option Files) (name : List ℕ) → new ≡ old → OnlyFileDiffers old new name
kept_differs None new name e = tt
kept_differs (Some before) new name e = (before, e, λ other _. refl)

not_chosen : (b : Bool) (x y : Option (List ℕ)) → (b ≡ true → ⊥) → cond b x y ≡ y
not_chosen true x y never = absurd (never refl)
not_chosen false x y never = refl

kept_by_insert : (files : Files) (name bytes other : List ℕ) → other ≢ name → get (insert files name bytes) other ≡ get files other
kept_by_insert files name bytes other ne =
    get-insert nat_list_cmp_total files name bytes other
    ∙ ap (λ (b : Bool). cond b (Some bytes) (get files other)) (is_eq-slice_cmp other name)
    ∙ not_chosen (bytes_eq other name) (Some bytes) (get files other) (λ same. ne ((bytes_eq-Decides other name).0 same))

-- a shelf on which one file was written differs in no other
pub written_differs : (old new : Option Files) (name bytes : List ℕ) → HoldsFile old new name bytes → OnlyFileDiffers old new name
written_differs None new name bytes h = tt
written_differs (Some before) new name bytes h = (insert before name bytes, h, λ other apart. kept_by_insert before name bytes other apart)
