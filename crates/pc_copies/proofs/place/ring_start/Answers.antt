use Rattle.std.proofs.Common.{◌≡◌, ◌<◌, None, length, arith}
use Rattle.std.proofs.lemmas.Bool.Decides.{nat_tests}
use Rattle.pc_copies.specs.models.Sources.{source_in}
use Rattle.pc_copies.specs.models.Placing.{IsAt, EndsElsewhere, EndsAt}
use Rattle.pc_copies.proofs.Places.{match_other, literal_elsewhere, ends_elsewhere, ends_at}
use Rattle.pc_copies.proofs.place.ring_start.Goals as goal

pub returns-in-Name : goal.returns-in-Name
returns-in-Name c =
    let path = c.args.path.now in
    let some : 0 < length path = grind (arith, nat_tests, c.is_empty.ensures, c.if-is_empty.false) in
    match_other c.position.result (source_in path c.in-Name.register ≡ None) (EndsElsewhere path) (λ at. IsAt path c.in-Name.register at) (λ at. EndsAt path at)
    (λ none. ends_elsewhere path _ c.in-Name.register some c.in-Name.is none) (λ at found. ends_at path _ c.in-Name.register at some c.in-Name.is found) c.position.ensures

pub returns-in-Lit : goal.returns-in-Lit
returns-in-Lit c = literal_elsewhere c.args.path.now _ c.in-Lit.field-0 (grind (arith, nat_tests, c.is_empty.ensures, c.if-is_empty.false)) c.in-Lit.is
