-- Bytes that are refused.
use Rattle.std.proofs.Common.{◌≡◌, ℕ, ◌≤◌, List, length, ◌∙◌, ap, arith}
use Rattle.std.specs.Prelude.{Ok, Err}
use Rattle.pc_word.specs.MachineLimits.{most_object}
use Rattle.pc_object.specs.ObjectText.{object_text}
use Rattle.pc_object.specs.Reading.{object_reading}
use Rattle.pc_object.proofs.ReadingLaws.{reads_text}
use Rattle.pc_report.specs.declared.fault.ObjectFault.{ObjectFault}
use Rattle.pc_driver.specs.Objects.{HasObjectFault, Long_object, Unread_object, IsNoObject}

-- bytes with a fault are no object
pub faulty_object : (bytes : List ℕ) (what : ObjectFault) → HasObjectFault bytes what → IsNoObject bytes
faulty_object bytes what (Long_object big) object is =
    let few : length (object_text object) ≤ most_object = is.loads.is_object.few_bytes in
    let same : length bytes ≡ length (object_text object) = ap length is.text in
    omega arith
faulty_object bytes what (Unread_object {error} few first told) object is =
    let ok : object_reading bytes ≡ Ok object = ap object_reading is.text ∙ reads_text object is.loads.is_object is.loads.has_words in
    let err : object_reading bytes ≡ Err error = first in
    cc
