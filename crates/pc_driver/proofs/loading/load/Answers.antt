-- Why the object was not loaded.
use Rattle.std.proofs.Common.{subst, ℕ, List}
use Rattle.std.proofs.lemmas.Result.{err_from_is_err_and}
use Rattle.pc_word.specs.Exact.{IsRefusal}
use Rattle.pc_object.specs.Cause.{object_cause}
use Rattle.pc_object.specs.Reading.{object_reading}
use Rattle.pc_driver.proofs.Taken.{file_stops, object_stops}
use Rattle.pc_driver.proofs.loading.load.Goals as goal

pub returns-in_err-bytes-clause-object : goal.returns-in_err-bytes-clause-object
returns-in_err-bytes-clause-object g c =
    let p = err_from_is_err_and c.from_residual.result c.from_residual.ensures.1 in
    rw (p.1, p.2) (file_stops c.in_err-bytes.field-0.0 c.args.name.now (g.H.Shelf.state c.args.shelf.now) (g.H.Shelf.state c.read_whole.new.shelf) c.in_err-bytes.ensures.text)

pub returns-in_err-decode-clause-object : goal.returns-in_err-decode-clause-object
returns-in_err-decode-clause-object g c =
    let p = err_from_is_err_and c.from_residual-in_err-decode.result c.from_residual-in_err-decode.ensures.1 in
    let why = c.in_err-decode.field-0.0 in
    rw (p.1, p.2) (object_stops c.args.name.now (g.H.Shelf.state c.args.shelf.now) (g.H.Shelf.state c.read_whole.new.shelf) c.in_ok-bytes.bytes.items
    c.in_ok-bytes.ensures.text c.in_ok-bytes.ensures.few why
    (subst (λ (bytes : List ℕ). IsRefusal (object_cause why) (object_reading bytes)) c.as_slice.ensures.value c.in_err-decode.ensures.exact))
