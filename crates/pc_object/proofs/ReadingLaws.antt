-- The laws of the reading with its offsets.
use Rattle.std.proofs.Common.{suc, ◌-◌, arith, length-append, ◌≡◌, ℕ, ◌≤◌, List, [], ◌∷◌, ◌++◌, length, Result, Ok, Err, sym, ap, subst, ◌∙◌}
use Rattle.std.specs.Prelude.{IfOk, ◌↔◌}
use Rattle.std.proofs.lemmas.List.{append-nil}
use Rattle.pc_object.specs.declared.object.Object.{Object}
use Rattle.pc_object.specs.declared.refusal.ObjectError.{ObjectError}
use Rattle.pc_object.specs.declared.refusal.ObjectError.TheVariants.{Trailing}
use Rattle.pc_object.specs.declared.refusal.Refusal.{Refusal}
use Rattle.pc_object.specs.ObjectText.{CodeWithNotes, object_of, object_text, IsObject}
use Rattle.pc_object.specs.Numbers.{HasWords}
use Rattle.pc_word.specs.Exact.{IsExact}
use Rattle.pc_object.specs.Cause.{object_cause}
use Rattle.pc_object.specs.Reading.{object_at, told_of, object_reading}
use Rattle.pc_object.proofs.FieldLaws.{IsBytes}
use Rattle.pc_object.proofs.ObjectLaws.{is_object, object_again}
use Rattle.pc_word.specs.MachineLimits.{most_object}

told_ok : (total : ℕ) (read : Result CodeWithNotes Refusal) (object : CodeWithNotes) → told_of total read ≡ Ok object → read ≡ Ok object
told_ok total (Ok x) object e = cc
told_ok total (Err refusal) object e = absurd cc

-- what is read is an object, and the bytes are its text
pub reads_objects : (bytes : List ℕ) (object : CodeWithNotes) → IsBytes bytes → length bytes ≤ most_object → object_reading bytes ≡ Ok object
    → IsObject object × HasWords object × (bytes ≡ object_text object)
unfolding object_reading
reads_objects bytes object fits few e = is_object bytes object fits few (told_ok (length bytes) (object_at bytes) object e)

-- the text of an object is read as it
pub reads_text : (object : CodeWithNotes) → IsObject object → HasWords object → object_reading (object_text object) ≡ Ok object
unfolding object_reading
reads_text object h words =
    ap (told_of (length (object_text object))) (ap object_at (sym (append-nil (object_text object))) ∙ object_again object [] h words)

-- bytes are read as an object exactly where they are its text
pub reads_exactly : (bytes : List ℕ) (object : CodeWithNotes) → IsBytes bytes → length bytes ≤ most_object
    → (object_reading bytes ≡ Ok object) ↔ (IsObject object × HasWords object × (bytes ≡ object_text object))
reads_exactly bytes object fits few = (reads_objects bytes object fits few, λ h. ap object_reading h.2 ∙ reads_text object h.0 h.1)

-- objects with one text are one
pub one_object : (a b : CodeWithNotes) → IsObject a → IsObject b → HasWords a → HasWords b → object_text a ≡ object_text b → a ≡ b
one_object a b ha hb wa wb e =
    let both : object_reading (object_text a) ≡ Ok b = ap object_reading e ∙ reads_text b hb wb in
    let same = sym (reads_text a ha wa) ∙ both in cc

-- bytes after the text of an object
pub reads_longer : (object : CodeWithNotes) (byte : ℕ) (more : List ℕ) → IsObject object → HasWords object
    → object_reading (object_text object ++ byte ∷ more) ≡ Err (Trailing (length (object_text object)))
unfolding object_reading
reads_longer object byte more h words =
    let text = object_text object in
    let e : length (text ++ byte ∷ more) - suc (length more) ≡ length text = omega (arith, length-append text (byte ∷ more)) in
    ap (told_of (length (text ++ byte ∷ more))) (object_again object (byte ∷ more) h words) ∙ ap (λ (n : ℕ). Err (Trailing n)) e

-- ---- what the reader gave

pub found_it : (bytes : List ℕ) (result : Result Object ObjectError) → IsBytes bytes → length bytes ≤ most_object → IsExact object_of object_cause result (object_reading bytes)
    → IfOk result (λ object. IsObject (object_of object))
found_it bytes (Ok object) fits few given = (reads_objects bytes (object_of object) fits few given).0
found_it bytes (Err error) fits few given = tt

pub found_words : (bytes : List ℕ) (result : Result Object ObjectError) → IsBytes bytes → length bytes ≤ most_object → IsExact object_of object_cause result (object_reading bytes)
    → IfOk result (λ object. HasWords (object_of object))
found_words bytes (Ok object) fits few given = (reads_objects bytes (object_of object) fits few given).1
found_words bytes (Err error) fits few given = tt

pub found_text : (bytes : List ℕ) (result : Result Object ObjectError) → IsBytes bytes → length bytes ≤ most_object → IsExact object_of object_cause result (object_reading bytes)
    → IfOk result (λ object. bytes ≡ object_text (object_of object))
found_text bytes (Ok object) fits few given = (reads_objects bytes (object_of object) fits few given).2
found_text bytes (Err error) fits few given = tt

pub only_it : (bytes : List ℕ) (result : Result Object ObjectError) (object : CodeWithNotes) → IsExact object_of object_cause result (object_reading bytes) → IsObject object
    → HasWords object → bytes ≡ object_text object → IsExact object_of object_cause result (Ok object)
only_it bytes result object given h words e = subst (λ (read : Result CodeWithNotes ObjectError). IsExact object_of object_cause result read) (ap object_reading e ∙ reads_text object h words) given
