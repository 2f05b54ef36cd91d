-- Inputs that are told, and objects and numbers that were loaded.
use Rattle.std.proofs.Common.{◌≡◌, ℕ, ◌≤◌, List, length, Option, Some, None, sym, ◌∙◌, subst, arith}
use Rattle.std.specs.Prelude.{ℤ, Ok, Err, IfSome}
use Rattle.std.specs.FinMap.{get}
use Rattle.pc_word.specs.MachineLimits.{most_input}
use Rattle.pc_word.specs.NumberText.{numbers_in}
use Rattle.pc_object.specs.ObjectText.{CodeWithNotes, object_text}
use Rattle.pc_object.proofs.ReadingLaws.{one_object}
use Rattle.pc_outside.specs.Shelf.{Files}
use Rattle.pc_report.specs.declared.fault.InputFault.{InputFault}
use Rattle.pc_driver.specs.Input.{HasInputFault, Long_input, Misspelt_input, IsInputOf, IsNoInput, SpellsInput}
use Rattle.pc_driver.specs.Objects.{Holds, IsTextOf}
use Rattle.pc_driver.proofs.Files.{told_text}
use Rattle.pc_driver.proofs.Results.{ok_same}

-- ---- bytes that are refused

-- bytes with a fault are no input
pub faulty_input : (bytes : List ℕ) (what : InputFault) → HasInputFault bytes what → IsNoInput bytes
faulty_input bytes what (Long_input big) numbers is = let few : length bytes ≤ most_input = is.few_bytes in omega arith
faulty_input bytes what (Misspelt_input {offset} few first) numbers is =
    let ok : numbers_in bytes ≡ Ok numbers = is.read in
    let err : numbers_in bytes ≡ Err offset = first in
    cc

pub if_some_map : (o : Option (List ℕ)) (P Q : List ℕ → Type 0) → ((x : List ℕ) → P x → Q x) → IfSome o P → IfSome o Q
if_some_map None P Q f h = tt
if_some_map (Some x) P Q f h = f x h

-- what holds of an input that is told
pub told_input : (o : Option (List ℕ)) (left : List ℕ) (P : List ℕ → Type 0) → o ≡ Some left → IfSome o P → P left
told_input o left P e h = subst (λ (x : Option (List ℕ)). IfSome x P) e h

-- ---- what was run

-- the object that was loaded from a file that is told
pub loaded_text : (held : Option Files) (files : Files) (name text : List ℕ) (object : CodeWithNotes) → held ≡ Some files → get files name ≡ Some text
    → Holds held name object → IsTextOf text object
loaded_text held files name text object e g h = record {
  loads = h.loads;
  text = sym (told_text held files name text (object_text object) e g h.text);
}

pub same_object : (text : List ℕ) (a b : CodeWithNotes) → IsTextOf text a → IsTextOf text b → a ≡ b
same_object text a b p q = one_object a b p.loads.is_object q.loads.is_object p.loads.has_words q.loads.has_words (sym p.text ∙ q.text)

-- the numbers of an input that is told
pub given_input : (o : Option (List ℕ)) (left : List ℕ) (numbers : List ℤ) → o ≡ Some left → SpellsInput o numbers → IsInputOf left numbers
given_input o left numbers e g =
    let same : left ≡ g.bytes = told_input o left (λ all. all ≡ g.bytes) e g.given in
    subst (λ bytes. IsInputOf bytes numbers) (sym same) g.input

pub same_numbers : (left : List ℕ) (a b : List ℤ) → IsInputOf left a → IsInputOf left b → a ≡ b
same_numbers left a b p q = ok_same a b (numbers_in left) p.read q.read
