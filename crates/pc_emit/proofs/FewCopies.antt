-- Moves are done by at most twice as many copies.
use Rattle.std.proofs.Common.{◌≡◌, inl, inr, ℕ, zero, suc, ◌*◌, ◌≤◌, List, [], ◌∷◌, length, map, Some, refl, sym, ap, subst, arith}
use Rattle.std.specs.Prelude.{Bool, true, false, if◌then◌else◌, nat_eq, slice_get}
use Rattle.std.specs.List.{AllByRecursion, filter_map, list_any}
use Rattle.std.proofs.lemmas.List.{length-append}
use Rattle.std.proofs.lemmas.Map.Made.{length-le_from_is_member}
use Rattle.std.proofs.lemmas.Cmp.{nat_eq_equiv}
use Rattle.pc_word.specs.Items.{dest_of}
use Rattle.pc_window.proofs.Uses.{nat_eq-tells}
use Rattle.pc_window.proofs.Grafts.{nat_eq-same}
use Rattle.pc_copies.specs.declared.moves.Move.{Move}
use Rattle.pc_copies.specs.Moves.{is_name, nontrivial_moves, copy_of, IsCycle, IsAmong, moves_of, AreCopies}
use Rattle.pc_word.proofs.Truth.{or_first, or_second, or_true}

-- the moves that are not to themselves are no more than all of them
pub kept_few : (moves : List Move) → length (nontrivial_moves moves) ≤ length moves
kept_few [] = omega arith
kept_few (move ∷ moves) = by_test (is_name move.from move.dest) (kept_few moves)
  where
    by_test : (b : Bool) → length (nontrivial_moves moves) ≤ length moves → length (if b then nontrivial_moves moves else (move ∷ nontrivial_moves moves)) ≤ suc (length moves)
    by_test true few = omega (arith, few)
    by_test false few = omega (arith, few)

-- each cycle has a move
cycles_few : (cycles : List (List Move)) → AllByRecursion IsCycle cycles → length cycles ≤ length (moves_of cycles)
cycles_few [] all = omega arith
cycles_few ([] ∷ cycles) all = absurd all.0
cycles_few ((move ∷ moves) ∷ cycles) all =
    let rest = cycles_few cycles all.1 in
    let both = length-append moves (moves_of cycles) in
    omega (arith, rest, both)

-- the registers that moves write
abbrev dests : List Move → List ℕ
dests moves = filter_map dest_of (map copy_of moves)

as_many_dests : (moves : List Move) → length (dests moves) ≡ length moves
as_many_dests [] = refl
as_many_dests (move ∷ moves) = ap suc (as_many_dests moves)

-- a move writes its own
dest_there : (moves : List Move) (at : ℕ) (move : Move) → slice_get moves at ≡ Some move → list_any (nat_eq move.dest) (dests moves) ≡ true
dest_there [] at move e = absurd (cc)
dest_there (other ∷ moves) zero move e =
    let same : other ≡ move = (cc) in
    or_first (nat_eq move.dest other.dest) (list_any (nat_eq move.dest) (dests moves))
    (subst (λ (m : Move). nat_eq move.dest m.dest ≡ true) (sym same) (nat_eq-same move.dest))
dest_there (other ∷ moves) (suc at) move e = or_second (nat_eq move.dest other.dest) (list_any (nat_eq move.dest) (dests moves)) (dest_there moves at move e)

-- moves among others write registers that these write
dests_among : (moves list : List Move) → AllByRecursion (IsAmong moves) list → (q : ℕ) → list_any (nat_eq q) (dests list) ≡ true → list_any (nat_eq q) (dests moves) ≡ true
dests_among moves [] all q there = absurd (cc)
dests_among moves (move ∷ list) all q there = elim (or_true (nat_eq q move.dest) (list_any (nat_eq q) (dests list)) there) [
  | inl here ↦
      subst (λ (n : ℕ). list_any (nat_eq n) (dests moves) ≡ true) (sym (nat_eq-tells q move.dest here)) (dest_there moves all.0.at move all.0.there)
  | inr later ↦ dests_among moves list all.1 q later
]

pub copies_few : (moves : List Move) (copies : ℕ) → AreCopies (nontrivial_moves moves) copies → copies ≤ 2 * length moves
copies_few moves copies are =
    let cycles = cycles_few are.cycles are.are in
    let among = length-le_from_is_member nat_eq_equiv (dests (moves_of are.cycles)) (dests (nontrivial_moves moves)) are.apart (dests_among (nontrivial_moves moves) (moves_of are.cycles) are.among) in
    let joined_many = as_many_dests (moves_of are.cycles) in
    let kept_many = as_many_dests (nontrivial_moves moves) in
    let few = kept_few moves in
    let number = are.number in
    omega (arith, cycles, among, joined_many, kept_many, few, number)
