use Rattle.std.proofs.Common.{◌≡◌, Some, map, take, slice_get}
use Rattle.pc_pattern.proofs.seen.places_among.Given as goal

-- the places of the names so far
abbrev pub invariant-loop-name : goal.invariant-loop-name
invariant-loop-name l = map (λ place. slice_get l.others place) l.places ≡ map (λ name. Some name) (take l.name-index l.names)
