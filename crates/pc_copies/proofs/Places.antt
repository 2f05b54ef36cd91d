-- Moves that follow one another, and the cycle that they may end in.
use Rattle.std.proofs.Common.{◌≡◌, ◌≢◌, ◌⊎◌, inl, inr, ℕ, zero, suc, ◌+◌, ◌-◌, ◌<◌, Bool, List, [], ◌∷◌}
use Rattle.std.proofs.Common.{◌++◌, length, take, drop, get_or, Option, Some, None, refl, sym, ◌∙◌, ap, subst, arith}
use Rattle.std.specs.Prelude.{ℤ, slice_get, MatchOption}
use Rattle.std.specs.List.{AllByRecursion}
use Rattle.std.proofs.Common.{length-drop}
use Rattle.std.proofs.lemmas.List.{take_more, length-take-le}
use Rattle.std.proofs.lemmas.Option.{slice_get_within}
use Rattle.pc_word.specs.declared.item.Operand.{Operand}
use Rattle.pc_word.specs.declared.item.Operand.TheVariants.{Name, Lit}
use Rattle.pc_word.proofs.Lists.{all_front}
use Rattle.pc_copies.specs.declared.moves.Move.{Move}
use Rattle.pc_copies.specs.Moves.{Leads_to}
use Rattle.pc_copies.specs.models.Sources.{source_in, first_of, over, IsRead, Unread, IsWritten, Apart, Do}
use Rattle.pc_copies.specs.models.Packing.{AddsRing, AreNamed, RowsFit, WritesOnce, Avoids, Unwinds, IsRing, IsClean, Unwound}
use Rattle.pc_copies.specs.models.Counting.{Ring_counts, Path_counts}
use Rattle.pc_copies.specs.models.Placing.{IsWay, IsAt, EndsElsewhere, EndsAt}
use Rattle.pc_copies.proofs.Rows.{source_both, do_same}
use Rattle.pc_copies.proofs.Singles.{one_unwritten, head_written}
use Rattle.pc_copies.proofs.Unwinding.{leads_unwind, leads_reads}
use Rattle.pc_copies.proofs.Rings.{none_front, none_behind, leads_split, WriteApart, once_split, all_clean, split_last, adds_ring}

-- ---- where moves end

-- a move in a list, and those before and after it
pub split_at : (moves : List Move) (at : ℕ) (move : Move) → slice_get moves at ≡ Some move → moves ≡ take at moves ++ move ∷ drop (suc at) moves
split_at [] at move e = absurd (cc)
split_at (other ∷ moves) zero move e = let same : other ≡ move = (cc) in ap (λ (m : Move). m ∷ moves) same
split_at (other ∷ moves) (suc at) move e = ap (λ (l : List Move). other ∷ l) (split_at moves at move e)

pub drop_at : (moves : List Move) (at : ℕ) (move : Move) → slice_get moves at ≡ Some move → drop at moves ≡ move ∷ drop (suc at) moves
drop_at [] at move e = absurd (cc)
drop_at (other ∷ moves) zero move e = let same : other ≡ move = (cc) in ap (λ (m : Move). m ∷ moves) same
drop_at (other ∷ moves) (suc at) move e = drop_at moves at move e

-- what the last of several moves reads
pub last_reads : (moves : List Move) (default : Move) (end : Operand) → 0 < length moves → Leads_to moves end → (get_or moves (length moves - 1) default).from ≡ end
last_reads moves default end some leads =
    (leads_split (take (length moves - 1) moves) (get_or moves (length moves - 1) default) [] end (rw (split_last moves default some) leads)).1

-- an answer means something else
pub match_other : (answer : Option ℕ) (None_is Also_none : Type 0) (Some_is Also_some : ℕ → Type 0) → (None_is → Also_none) → ((at : ℕ) → Some_is at → Also_some at)
    → MatchOption answer None_is Some_is → MatchOption answer Also_none Also_some
match_other None None_is Also_none Some_is Also_some none some h = none h
match_other (Some at) None_is Also_none Some_is Also_some none some h = some at h

-- an empty list ends nowhere
pub none_elsewhere : (path : List Move) → path ≡ [] → EndsElsewhere path
none_elsewhere path is = record { elsewhere = λ end register leads e. ap (λ (l : List Move). source_in l register) is }

pub literal_elsewhere : (path : List Move) (default : Move) (value : ℤ) → 0 < length path → (get_or path (length path - 1) default).from ≡ Lit value → EndsElsewhere path
literal_elsewhere path default value some is = record { elsewhere = λ end register leads e. let reads = last_reads path default end some leads in absurd (cc) }

pub ends_elsewhere : (path : List Move) (default : Move) (register : ℕ) → 0 < length path → (get_or path (length path - 1) default).from ≡ Name register
    → source_in path register ≡ None → EndsElsewhere path
ends_elsewhere path default register some is none = record {
  elsewhere = λ end other leads e.
      let reads = last_reads path default end some leads in
      let same : register ≡ other = (cc) in
      subst (λ (r : ℕ). source_in path r ≡ None) same none;
}

pub ends_at : (path : List Move) (default : Move) (register at : ℕ) → 0 < length path → (get_or path (length path - 1) default).from ≡ Name register
    → IsAt path register at → EndsAt path at
ends_at path default register at some is found = record {
  move = found.move;
  there = found.there;
  reads = λ end leads. sym (last_reads path default end some leads) ∙ is ∙ ap Name (sym found.writes);
}

-- the place of a register, one move further
pub none_further : (path : List Move) (default : Move) (register at : ℕ) → at < length path → source_in (take at path) register ≡ None
    → (get_or path at default).dest ≢ register → source_in (take (at + 1) path) register ≡ None
none_further path default register at within none other =
    ap (λ (l : List Move). source_in l register) (take_more path at default within)
    ∙ source_both (take at path) (get_or path at default ∷ []) register
    ∙ ap (λ o. first_of o (source_in (get_or path at default ∷ []) register)) none
    ∙ one_unwritten (get_or path at default) register other

-- ---- moves that end elsewhere

pub way_unwinds : (path : List Move) → IsWay path → EndsElsewhere path → Unwinds path
way_unwinds path way ends = leads_unwind path way.end way.leads way.once (λ register e. ends.elsewhere way.end register way.leads e)

pub unwound_adds : (ops scratch : ℕ) (path : List Move) (rows : List (List Move)) (first : List Move) (later : List (List Move)) (now : List Move)
    → Unwound ops scratch path rows first later now → AddsRing ops scratch (source_in path) rows first later now
unwound_adds ops scratch path rows first later now unwound = adds_ring ops scratch (source_in path) rows first later now unwound.adds

-- ---- moves that end in a cycle

module _ (path : List Move) (at : ℕ) (way : IsWay path) (ends : EndsAt path at) where
  abbrev tail : List Move
  tail = take at path

  split : path ≡ tail ++ ends.move ∷ drop (suc at) path
  split = split_at path at ends.move ends.there

  parts : Leads_to tail (Name ends.move.dest) × Leads_to (ends.move ∷ drop (suc at) path) way.end
  parts = leads_split tail ends.move (drop (suc at) path) way.end (subst (λ (l : List Move). Leads_to l way.end) split way.leads)

  apart : WriteApart tail (ends.move ∷ drop (suc at) path)
  apart = once_split tail (ends.move ∷ drop (suc at) path) (subst WritesOnce split way.once)

  -- the moves from there on are a cycle
  pub way_ring : IsRing (drop at path)
  way_ring =
      let here = drop_at path at ends.move ends.there in
      record {
        head = ends.move;
        tail = drop (suc at) path;
        is = here;
        leads = subst (λ (e : Operand). Leads_to (drop at path) e) (ends.reads way.end way.leads) (subst (λ (l : List Move). Leads_to l way.end) (sym here) parts.1);
        once = subst WritesOnce (sym here) apart.behind;
      }

  -- and those before lead there
  pub way_tail : Unwinds (take at path)
  way_tail = leads_unwind tail (Name ends.move.dest) parts.0 apart.front (λ register e.
      let same : ends.move.dest ≡ register = (cc) in
      subst (λ (r : ℕ). source_in tail r ≡ None) same (apart.apart ends.move.dest ends.move.from (head_written ends.move (drop (suc at) path))))

  -- the cycle and what leads there are all of the moves
  over_path : (x : ℕ) → first_of (source_in (drop at path) x) (source_in tail x) ≡ source_in path x
  over_path x =
      by_source (source_in (ends.move ∷ drop (suc at) path) x) refl
      ∙ sym (source_both tail (ends.move ∷ drop (suc at) path) x)
      ∙ ap (λ (l : List Move). source_in l x) (sym split)
    where
      here : drop at path ≡ ends.move ∷ drop (suc at) path
      here = drop_at path at ends.move ends.there

      by_source : (source : Option Operand) → source_in (ends.move ∷ drop (suc at) path) x ≡ source
          → first_of (source_in (drop at path) x) (source_in tail x) ≡ first_of (source_in tail x) (source_in (ends.move ∷ drop (suc at) path) x)
      by_source (Some from) e =
          ap (λ (l : List Move). first_of (source_in l x) (source_in tail x)) here
          ∙ ap (λ o. first_of o (source_in tail x)) e
          ∙ sym (ap (λ o. first_of o (source_in (ends.move ∷ drop (suc at) path) x)) (apart.apart x from e) ∙ e)
      by_source None e =
          ap (λ (l : List Move). first_of (source_in l x) (source_in tail x)) here
          ∙ ap (λ o. first_of o (source_in tail x)) e
          ∙ sym (ap (λ o. first_of (source_in tail x) o) e ∙ behind (source_in tail x))
        where
          behind : (source : Option Operand) → first_of source None ≡ source
          behind (Some from) = refl
          behind None = refl

  -- what a part of them reads, they read
  ring_read : (register : ℕ) → IsRead (source_in (drop at path)) register → IsRead (source_in path) register
  ring_read register h = record { by = h.by; reads = sym (over_path h.by) ∙ ap (λ o. first_of o (source_in tail h.by)) h.reads }

  tail_reads : (register : ℕ) → IsRead (source_in tail) register → IsRead (source_in path) register
  tail_reads register h = record {
    by = h.by;
    reads = ap (λ (l : List Move). source_in l h.by) split ∙ source_both tail (ends.move ∷ drop (suc at) path) h.by
        ∙ ap (λ o. first_of o (source_in (ends.move ∷ drop (suc at) path) h.by)) h.reads;
  }

  -- what they do not write, no part of them writes
  tail_none : (register : ℕ) → source_in path register ≡ None → source_in tail register ≡ None
  tail_none register e = none_front tail (ends.move ∷ drop (suc at) path) register (sym (ap (λ (l : List Move). source_in l register) split) ∙ e)

  ring_none : (register : ℕ) → source_in path register ≡ None → source_in (drop at path) register ≡ None
  ring_none register e =
      ap (λ (l : List Move). source_in l register) (drop_at path at ends.move ends.there)
      ∙ none_behind tail (ends.move ∷ drop (suc at) path) register (sym (ap (λ (l : List Move). source_in l register) split) ∙ e)

  -- what the cycle reads is written by it, and by no move that leads there
  ring_apart : (register : ℕ) → IsRead (source_in (drop at path)) register → source_in tail register ≡ None
  ring_apart register h =
      let ring = way_ring in
      elim (leads_reads (drop at path) (Name ring.head.dest) register ring.leads h) [
        | inl written ↦ by_source (source_in (drop at path) register) refl written
        | inr is ↦
            let same : ring.head.dest ≡ register = (cc) in
            let there = head_written ring.head ring.tail in
            let read : source_in (drop at path) ring.head.dest ≡ Some ring.head.from = ap (λ (l : List Move). source_in l ring.head.dest) ring.is ∙ there in
            subst (λ (r : ℕ). source_in tail r ≡ None) same (found ring.head.dest ring.head.from read)
      ]
    where
      found : (x : ℕ) (from : Operand) → source_in (drop at path) x ≡ Some from → source_in tail x ≡ None
      found x from e = apart.apart x from (sym (ap (λ (l : List Move). source_in l x) (drop_at path at ends.move ends.there)) ∙ e)

      by_source : (source : Option Operand) → source_in (drop at path) register ≡ source → source_in (drop at path) register ≢ None → source_in tail register ≡ None
      by_source (Some from) e written = found register from e
      by_source None e written = absurd (written e)

  module _ (ops scratch : ℕ) (avoids : AllByRecursion (Avoids scratch) path) (rows : List (List Move)) (first : List Move) (mid : List (List Move)) (row : List Move)
      (later : List (List Move)) (now : List Move) (ring : AddsRing ops scratch (source_in (drop at path)) rows first mid row) (unwound : Unwound ops scratch (take at path) mid row later now) where
    tail_clean : IsClean scratch tail
    tail_clean = all_clean scratch tail (all_front (Avoids scratch) tail (ends.move ∷ drop (suc at) path) (subst (AllByRecursion (Avoids scratch)) split avoids))

    placed_free : (placed : ℕ → Option Operand) → Unread placed (source_in path) → Unread (over placed (source_in (drop at path))) (source_in tail)
    placed_free placed free = record { unread = λ register h. by_source register h.by (placed h.by) refl h.reads }
      where
        by_source : (register by : ℕ) (source : Option Operand) → placed by ≡ source
            → first_of source (source_in (drop at path) by) ≡ Some (Name register) → source_in tail register ≡ None
        by_source register by (Some from) e reads = tail_none register (free.unread register (record { by = by; reads = e ∙ reads }))
        by_source register by None e reads = ring_apart register (record { by = by; reads = reads })

    row_free : Unread (source_in first) (source_in path) → Unread (source_in row) (source_in tail)
    row_free free = record {
      unread = λ register h. elim (ring.reads register h) [
        | inl scratch_is ↦ subst (λ (r : ℕ). source_in tail r ≡ None) (sym scratch_is) tail_clean.unwritten
        | inr (inl early) ↦ tail_none register (free.unread register early)
        | inr (inr here) ↦ ring_apart register here
      ];
    }

    over_all : (placed : Option Operand) (x : ℕ) → first_of (first_of placed (source_in (drop at path) x)) (source_in tail x) ≡ first_of placed (source_in path x)
    over_all (Some from) x = refl
    over_all None x = over_path x

    place_does : (placed : ℕ → Option Operand) → (IsRead placed scratch → ⊥) → Do scratch rows first placed → Unread placed (source_in path) → Unread (source_in first) (source_in path)
        → Do scratch later now (over placed (source_in path))
    place_does placed clean done apart_p apart_f =
        let begun = ring.does placed clean done (record { unread = λ register h. ring_none register (apart_p.unread register h) })
        (record { unread = λ register h. ring_none register (apart_f.unread register h) }) in
        let all = unwound.adds.does (over placed (source_in (drop at path))) begun (placed_free placed apart_p) (row_free apart_f) in
        do_same scratch later now (over (over placed (source_in (drop at path))) (source_in tail)) (over placed (source_in path)) (λ x other. over_all (placed x) x) all

    place_reads : (register : ℕ) → IsRead (source_in now) register → (register ≡ scratch) ⊎ IsRead (source_in first) register ⊎ IsRead (source_in path) register
    place_reads register h = elim (unwound.adds.reads register h) [
      | inl early ↦ elim (ring.reads register early) [
        | inl is ↦ inl is
        | inr (inl old) ↦ inr (inl old)
        | inr (inr here) ↦ inr (inr (ring_read register here))
      ]
      | inr moves ↦ inr (inr (tail_reads register moves))
    ]

    row_apart : Apart (source_in first) (source_in path) → Apart (source_in row) (source_in tail)
    row_apart free = record {
      apart = λ register h. elim (ring.writes register h) [
        | inl is ↦ subst (λ (r : ℕ). source_in tail r ≡ None) (sym is) tail_clean.unwritten
        | inr (inl early) ↦ tail_none register (free.apart register early)
        | inr (inr here) ↦ apart.apart register here.from (sym (ap (λ (l : List Move). source_in l register) (drop_at path at ends.move ends.there)) ∙ here.writes)
      ];
    }

    ring_source : (register : ℕ) (from : Operand) → source_in (drop at path) register ≡ Some from → source_in path register ≡ Some from
    ring_source register from e = sym (over_path register) ∙ ap (λ o. first_of o (source_in tail register)) e

    tail_source : (register : ℕ) (from : Operand) → source_in tail register ≡ Some from → source_in path register ≡ Some from
    tail_source register from e =
        ap (λ (l : List Move). source_in l register) split
        ∙ source_both tail (ends.move ∷ drop (suc at) path) register
        ∙ ap (λ o. first_of o (source_in (ends.move ∷ drop (suc at) path) register)) e

    place_fits : (named : ℕ → Bool) → AreNamed named (source_in path) → Apart (source_in first) (source_in path) → RowsFit named ops scratch rows first
        → RowsFit named ops scratch later now
    place_fits named are free fit =
        let in_ring : AreNamed named (source_in (drop at path)) = record {
          dests = λ register from e. are.dests register from (ring_source register from e);
          reads = λ register read e. are.reads register read (ring_source register (Name read) e);
        } in
        let in_tail : AreNamed named (source_in tail) = record {
          dests = λ register from e. are.dests register from (tail_source register from e);
          reads = λ register read e. are.reads register read (tail_source register (Name read) e);
        } in
        unwound.adds.fits named in_tail (row_apart free) (ring.fits named in_ring (record { apart = λ register h. ring_none register (free.apart register h) }) fit)

    place_writes : (register : ℕ) → IsWritten (source_in now) register → (register ≡ scratch) ⊎ IsWritten (source_in first) register ⊎ IsWritten (source_in path) register
    place_writes register h = elim (unwound.adds.writes register h) [
      | inl early ↦ elim (ring.writes register early) [
        | inl is ↦ inl is
        | inr (inl old) ↦ inr (inl old)
        | inr (inr here) ↦ inr (inr (record { from = here.from; writes = ring_source register here.from here.writes }))
      ]
      | inr moves ↦ inr (inr (record { from = moves.from; writes = tail_source register moves.from moves.writes }))
    ]

    pub place_adds : AddsRing ops scratch (source_in path) rows first later now
    place_adds = record { does = place_does; reads = place_reads; fits = place_fits; writes = place_writes }

  -- the copies of both, with one more where the cycle was broken
  pub path_counts : (before mid after : ℕ) → Ring_counts (drop at path) before mid → after ≡ mid + length (take at path) → Path_counts path before after
  path_counts before mid after ring tail_is =
      let within = slice_get_within path at ends.move ends.there in
      let front = length-take-le at path (omega (arith, within)) in
      let behind = length-drop at path in
      elim ring [
        | inl whole ↦ inl (omega (arith, whole, tail_is, front, behind, within))
        | inr broken ↦ inr (record { at = at; ring = way_ring; counted = omega (arith, broken, tail_is, front, behind, within) })
      ]
