-- How many copies there are: one for each move, and one more for each cycle that was broken.
use Rattle.std.proofs.Common.{◌≡◌, inl, inr, ℕ, zero, suc, ◌+◌, List, [], ◌∷◌, ◌++◌, length, drop, Option, Some, None, refl, sym, ◌∙◌, ap, subst, arith}
use Rattle.std.specs.List.{AllByRecursion}
use Rattle.pc_word.specs.declared.item.Operand.{Operand}
use Rattle.pc_word.specs.declared.item.Operand.TheVariants.{Name}
use Rattle.pc_word.proofs.Lists.{all_imply}
use Rattle.pc_copies.specs.declared.moves.Move.{Move}
use Rattle.pc_copies.specs.Moves.{Leads_to, IsCycle, IsAmong, moves_of, AreCopies}
use Rattle.pc_copies.specs.models.Sources.{source_in, first_of, IsWritten, Apart}
use Rattle.pc_copies.specs.models.Packing.{WritesOnce, IsRing}
use Rattle.pc_copies.specs.models.Following.{source_at, sources_left, Followed}
use Rattle.pc_copies.specs.models.Arranging.{AreApart, IsTable, Arranging}
use Rattle.pc_copies.specs.models.Counting.{copies_with, BrokenRing, Path_counts, Counting}
use Rattle.pc_copies.proofs.Singles.{tail_written}
use Rattle.pc_copies.proofs.Rows.{source_both, writes_both, once_join}
use Rattle.pc_copies.proofs.Follows.{none_left}
use Rattle.pc_copies.proofs.Kept.{found, all_sources}
use Rattle.pc_copies.proofs.Arranged.{path_source, none_stays, distinct_dests}

-- ---- cycles that were broken

-- a part of moves that write nothing twice
drop_source : (at : ℕ) (path : List Move) (x : ℕ) (from : Operand) → WritesOnce path → source_in (drop at path) x ≡ Some from → source_in path x ≡ Some from
drop_source zero path x from once e = e
drop_source (suc at) [] x from once e = e
drop_source (suc at) (move ∷ path) x from once e =
    let rest = drop_source at path x from once.1 e in
    tail_written move path x (λ same. let none = sym (ap (source_in path) same) ∙ once.0 in absurd (cc)) ∙ rest

-- nothing was put yet
pub counting_first : (moves : List Move) (table : List (Option Operand)) → IsTable moves table → Counting moves table [] []
counting_first moves table is = record {
  cycles = [];
  are = tt;
  among = λ x from e. absurd (cc);
  once = tt;
  gone = λ x h. let e = h.writes in absurd (cc);
  number = let left = is.left in omega (arith, left);
}

module _ (ops scratch : ℕ) (moves : List Move) (at : ℕ) (table later_table : List (Option Operand)) (rows : List (List Move)) (first : List Move) (path : List Move) (begin : ℕ)
    (are : AreApart scratch moves) (so_far : Arranging ops scratch moves at table rows first) (follows : Followed table later_table begin path)
    (counting : Counting moves table rows first) (later : List (List Move)) (now : List Move) (left : sources_left later_table + length path ≡ sources_left table) where
  gone_still : (x : ℕ) → IsWritten (source_in (moves_of counting.cycles)) x → source_at later_table x ≡ None
  gone_still x h = none_stays ops scratch moves at table later_table rows first path begin are so_far follows x (counting.gone x h)

  counting_plain : copies_with later now ≡ copies_with rows first + length path → Counting moves later_table later now
  counting_plain counted = record {
    cycles = counting.cycles;
    are = counting.are;
    among = counting.among;
    once = counting.once;
    gone = gone_still;
    number = let number = counting.number in omega (arith, number, counted, left);
  }

  module _ (broken : BrokenRing path (copies_with rows first) (copies_with later now)) where
    ring_source : (x : ℕ) (from : Operand) → source_in (drop broken.at path) x ≡ Some from → source_in path x ≡ Some from
    ring_source x from e = drop_source broken.at path x from follows.once e

    -- what the cycle writes had a source in the table, and has none now
    ring_taken : (x : ℕ) (from : Operand) → source_in (drop broken.at path) x ≡ Some from → (source_at table x ≡ Some from) × (source_at later_table x ≡ None)
    ring_taken x from e = elim (follows.taken x) [
      | inl stays ↦ let none = stays.0 in let there = ring_source x from e in absurd (cc)
      | inr taken ↦ (sym taken.0 ∙ ring_source x from e, taken.1)
    ]

    ring_apart : Apart (source_in (drop broken.at path)) (source_in (moves_of counting.cycles))
    ring_apart = record { apart = λ x h. by_source x h.from h.writes (source_in (moves_of counting.cycles) x) refl }
      where
        by_source : (x : ℕ) (from : Operand) → source_in (drop broken.at path) x ≡ Some from → (source : Option Operand) → source_in (moves_of counting.cycles) x ≡ source → source ≡ None
        by_source x from e None f = refl
        by_source x from e (Some other) f =
            let gone = counting.gone x (record { from = other; writes = f }) in
            let there = (ring_taken x from e).0 in
            absurd (cc)

    among_more : (x : ℕ) (from : Operand) → source_in (drop broken.at path ++ moves_of counting.cycles) x ≡ Some from → source_in moves x ≡ Some from
    among_more x from e = by_source (source_in (drop broken.at path) x) refl (sym (source_both (drop broken.at path) (moves_of counting.cycles) x) ∙ e)
      where
        by_source : (source : Option Operand) → source_in (drop broken.at path) x ≡ source
            → first_of source (source_in (moves_of counting.cycles) x) ≡ Some from → source_in moves x ≡ Some from
        by_source (Some other) f h = path_source ops scratch moves at table later_table rows first path begin are so_far follows x from (ring_source x from (f ∙ h))
        by_source None f h = counting.among x from h

    gone_more : (x : ℕ) → IsWritten (source_in (drop broken.at path ++ moves_of counting.cycles)) x → source_at later_table x ≡ None
    gone_more x h = elim (writes_both (drop broken.at path) (moves_of counting.cycles) x h) [
      | inl here ↦ (ring_taken x here.from here.writes).1
      | inr before ↦ gone_still x before
    ]

    counting_broken : Counting moves later_table later now
    counting_broken = record {
      cycles = drop broken.at path ∷ counting.cycles;
      are = (broken.ring, counting.are);
      among = among_more;
      once = once_join (drop broken.at path) (moves_of counting.cycles) broken.ring.once counting.once ring_apart;
      gone = gone_more;
      number = let number = counting.number in let counted = broken.counted in omega (arith, number, counted, left);
    }

  -- the moves that were followed are put
  pub counting_more : Path_counts path (copies_with rows first) (copies_with later now) → Counting moves later_table later now
  counting_more (inl counted) = counting_plain counted
  counting_more (inr broken) = counting_broken broken

-- in the end there are so many copies
ring_cycle : (moves : List Move) → IsRing moves → IsCycle moves
ring_cycle moves is = subst IsCycle (sym is.is) (subst (λ (l : List Move). Leads_to l (Name is.head.dest)) is.is is.leads)

is_among : (moves : List Move) (x : ℕ) (from : Operand) → source_in moves x ≡ Some from → IsAmong moves (let move : Move = record { dest = x; from = from } in move)
is_among moves x from e =
    let it = found moves x from e in
    let same : it.move ≡ (let move : Move = record { dest = x; from = from } in move) = λ i. record { dest = it.writes i; from = it.reads i } in
    record { at = it.at; there = it.there ∙ ap (λ (m : Move). Some m) same }

pub counted_all : (moves : List Move) (table : List (Option Operand)) (rows : List (List Move)) (first : List Move) → Counting moves table rows first
    → ((x : ℕ) → source_at table x ≡ None) → AreCopies moves (copies_with rows first)
counted_all moves table rows first counting none = record {
  cycles = counting.cycles;
  are = all_imply_lists counting.cycles counting.are;
  among = all_sources (IsAmong moves) (moves_of counting.cycles) counting.once (λ x from e. is_among moves x from (counting.among x from e));
  apart = distinct_dests (moves_of counting.cycles) counting.once;
  number = let number = counting.number in let left = none_left table none in omega (arith, number, left);
}
  where
    all_imply_lists : (cycles : List (List Move)) → AllByRecursion IsRing cycles → AllByRecursion IsCycle cycles
    all_imply_lists cycles all = all_imply IsRing IsCycle cycles ring_cycle all
