use Rattle.std.proofs.Common.{refl}
use Rattle.pc_pattern.proofs.SeenWindows.{known_place, new_place}
use Rattle.pc_pattern.proofs.seen.Seen.place_of.Goals as goal

pub returns-in_ok-push : goal.returns-in_ok-push
returns-in_ok-push c =
    new_place c.args.key.bytes.items c.in_ok-place.place c.in_ok-place.is_new c.args.self.now _ c.if-is_new.true c.in_ok-place.ensures c.in_ok-push.ensures.items

pub returns-else-is_new : goal.returns-else-is_new
returns-else-is_new c =
    known_place c.args.key.bytes.items c.in_ok-place.place c.in_ok-place.is_new c.args.self.now _ c.if-is_new.false c.in_ok-place.ensures refl
