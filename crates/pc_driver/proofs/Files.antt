-- What is held of a file, and of one that is told.
use Rattle.std.proofs.Common.{◌≡◌, List, ℕ, Option, Some, None, sym, ◌∙◌, subst}
use Rattle.std.specs.FinMap.{get}
use Rattle.pc_outside.specs.Shelf.{Files}
use Rattle.pc_driver.specs.Files.{HasText, HoldsText}

pub some_same : {X : Type 0} (x y : X) → Some x ≡ Some y → x ≡ y
some_same x y e = cc

-- of the text that a file has, P holds
pub holds : (held : Option Files) (name text : List ℕ) (P : List ℕ → Type 0) → HasText held name text → P text → HoldsText held name P
holds None name text P h p = tt
holds (Some files) name text P h p = (text, h, p)

-- P holds of a text, and so does Q
pub held_map : (held : Option Files) (name : List ℕ) (P Q : List ℕ → Type 0) → ((text : List ℕ) → P text → Q text) → HoldsText held name P → HoldsText held name Q
held_map None name P Q f h = tt
held_map (Some files) name P Q f (text, here, p) = (text, here, f text p)

told_here : (files : Files) (name text : List ℕ) (P : List ℕ → Type 0) → get files name ≡ Some text → HoldsText (Some files) name P → P text
told_here files name text P g (other, held, p) = subst P (some_same other text (sym held ∙ g)) p

-- what is held of a file that is told
pub told_holds : (held : Option Files) (files : Files) (name text : List ℕ) (P : List ℕ → Type 0) → held ≡ Some files → get files name ≡ Some text → HoldsText held name P → P text
told_holds held files name text P e g h = told_here files name text P g (subst (λ (o : Option Files). HoldsText o name P) e h)

-- the text of a file that is told is that which it has
pub told_text : (held : Option Files) (files : Files) (name text other : List ℕ) → held ≡ Some files → get files name ≡ Some text → HasText held name other → other ≡ text
told_text held files name text other e g h =
    let here : get files name ≡ Some other = subst (λ (o : Option Files). HasText o name other) e h in
    some_same other text (sym here ∙ g)
