use Rattle.std.proofs.Common.{◌≡◌, Some, map, take, slice_get}
use Rattle.pc_pattern.proofs.seen.names_at.Given as goal

-- the names at the places so far
abbrev pub invariant-loop-place : goal.invariant-loop-place
invariant-loop-place l = map (λ place. slice_get l.names place) (take l.place-index l.places) ≡ map (λ name. Some name) l.there
