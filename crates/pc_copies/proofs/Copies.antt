-- How many copies rows have.
use Rattle.std.proofs.Common.{◌≡◌, ℕ, ◌+◌, List, [], ◌∷◌, ◌++◌, length, reverse, refl, ap, arith}
use Rattle.std.proofs.Common.{length-append}
use Rattle.std.proofs.lemmas.List.{reverse-append}
use Rattle.pc_copies.specs.declared.moves.Move.{Move}
use Rattle.pc_copies.specs.Moves.{copies_in}
use Rattle.pc_copies.specs.models.Packing.{Puts, Fills, Fits}
use Rattle.pc_copies.specs.models.Arranging.{if_any}
use Rattle.pc_copies.specs.models.Counting.{copies_with}

copies_both : (rows more : List (List Move)) → copies_in (rows ++ more) ≡ copies_in rows + copies_in more
copies_both [] more = omega arith
copies_both (row ∷ rows) more = let rest = copies_both rows more in omega (arith, rest)

copies_reverse : (rows : List (List Move)) → copies_in (reverse rows) ≡ copies_in rows
copies_reverse [] = refl
copies_reverse (row ∷ rows) =
    let split = ap copies_in (reverse-append (row ∷ []) rows) in
    let rest = copies_reverse rows in
    let both = copies_both (reverse rows) (row ∷ []) in
    omega (arith, split, rest, both)

pub copies_any : (first : List Move) → copies_in (if_any first) ≡ length first
copies_any [] = refl
copies_any (move ∷ first) = omega arith

-- in whatever order
pub copies_in_order : (rows : List (List Move)) (first : List Move) → copies_in (if_any first ++ reverse rows) ≡ copies_with rows first
copies_in_order rows first =
    let both = copies_both (if_any first) (reverse rows) in
    let behind = copies_reverse rows in
    let front = copies_any first in
    omega (arith, both, behind, front)

-- copies that are put
pub put_counts : (ops : ℕ) (group : List Move) (rows : List (List Move)) (first : List Move) (later : List (List Move)) (now : List Move) → Puts ops group rows first later now
    → copies_with later now ≡ copies_with rows first + length group
put_counts ops group rows first later now (Fills full is now_is) =
    let all = ap copies_in is in
    let none = ap (λ (l : List Move). length l) now_is in
    let both = copies_both rows ((first ++ group) ∷ []) in
    omega (arith, all, none, both, length-append first group)
put_counts ops group rows first later now (Fits room is now_is) =
    let all = ap copies_in is in
    let long = ap (λ (l : List Move). length l) now_is in
    omega (arith, all, long, length-append first group)
