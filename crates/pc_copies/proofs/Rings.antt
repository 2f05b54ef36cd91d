-- Cycles of moves that are put whole, or broken by a copy through scratch.
use Rattle.std.proofs.Common.{◌≡◌, ◌≢◌, ◌⊎◌, inl, inr, ℕ, ◌+◌, ◌-◌, ◌<◌, Bool, true, List, [], ◌∷◌}
use Rattle.std.proofs.Common.{◌++◌, length, take, get_or, Option, Some, None, refl, sym, ◌∙◌, ap, subst, arith}
use Rattle.std.proofs.Common.{length-append}
use Rattle.std.specs.Prelude.{ℤ}
use Rattle.std.specs.List.{AllByRecursion}
use Rattle.std.proofs.lemmas.Bool.{cases_eq}
use Rattle.std.proofs.lemmas.List.{take_more, take_all}
use Rattle.pc_word.proofs.Lists.{all_front, all_back}
use Rattle.pc_word.specs.declared.item.Operand.{Operand}
use Rattle.pc_word.specs.declared.item.Operand.TheVariants.{Name, Lit}
use Rattle.pc_copies.specs.declared.moves.Move.{Move}
use Rattle.pc_copies.specs.Moves.{Leads_to}
use Rattle.pc_copies.specs.models.Sources.{taken, moved, source_in, first_of, over, IsRead, Unread, IsWritten, Apart, back, Do}
use Rattle.pc_copies.specs.models.Packing.{Puts, Fills, Fits, Adds, AddsRing, AreNamed, RowsFit, WritesOnce, Avoids, Unwinds, IsRing, IsClean, Unwound}
use Rattle.pc_copies.proofs.Rows.{source_both, row_more, reads_both, put_done, put_does, put_reads, put_writes, put_fits, put_adds}
use Rattle.pc_copies.proofs.Singles.{one_unwritten, head_written, tail_written, unwritten, one_read, one_written}
use Rattle.pc_copies.proofs.Unwinding.{clean_none, leads_unwind}

-- ---- parts of moves that follow one another

none_first : (one other : Option Operand) → first_of one other ≡ None → one ≡ None
none_first (Some from) other e = absurd (cc)
none_first None other e = refl

none_second : (one other : Option Operand) → first_of one other ≡ None → other ≡ None
none_second (Some from) other e = absurd (cc)
none_second None other e = e

-- what no move of two lists writes
pub none_front : (moves more : List Move) (register : ℕ) → source_in (moves ++ more) register ≡ None → source_in moves register ≡ None
none_front moves more register e = none_first (source_in moves register) (source_in more register) (sym (source_both moves more register) ∙ e)

pub none_behind : (moves more : List Move) (register : ℕ) → source_in (moves ++ more) register ≡ None → source_in more register ≡ None
none_behind moves more register e = none_second (source_in moves register) (source_in more register) (sym (source_both moves more register) ∙ e)

pub leads_split : (moves : List Move) (next : Move) (more : List Move) (end : Operand) → Leads_to (moves ++ next ∷ more) end
    → Leads_to moves (Name next.dest) × Leads_to (next ∷ more) end
leads_split [] next more end leads = (tt, leads)
leads_split (move ∷ []) next more end leads = leads
leads_split (move ∷ other ∷ moves) next more end leads = let rest = leads_split (other ∷ moves) next more end leads.1 in ((leads.0, rest.0), rest.1)

-- two lists that write nothing twice, and nothing that the other one writes
pub record WriteApart (moves more : List Move) : Type 0 where
  pub front : WritesOnce moves
  pub behind : WritesOnce more
  pub apart : (register : ℕ) (from : Operand) → source_in more register ≡ Some from → source_in moves register ≡ None

pub once_split : (moves more : List Move) → WritesOnce (moves ++ more) → WriteApart moves more
once_split [] more once = record { front = tt; behind = once; apart = λ register from e. refl }
once_split (move ∷ moves) more once =
    let rest = once_split moves more once.1 in
    record {
      front = (none_front moves more move.dest once.0, rest.front);
      behind = rest.behind;
      apart = λ register from e.
          let other : move.dest ≢ register = λ same. let none = sym (ap (source_in more) same) ∙ none_behind moves more move.dest once.0 in absurd (cc) in
          tail_written move moves register other ∙ rest.apart register from e;
    }

-- moves that leave a register alone
pub all_clean : (register : ℕ) (moves : List Move) → AllByRecursion (Avoids register) moves → IsClean register moves
all_clean register [] all = clean_none register
all_clean register (move ∷ moves) all =
    let rest = all_clean register moves all.1 in
    record {
      unread = λ h. elim (reads_both (move ∷ []) moves register h) [
        | inl here ↦ all.0.reads (one_read move register here)
        | inr behind ↦ rest.unread behind
      ];
      unwritten = tail_written move moves register all.0.writes ∙ rest.unwritten;
    }

-- ---- a cycle that is put whole

pub adds_ring : (ops scratch : ℕ) (sources : ℕ → Option Operand) (rows : List (List Move)) (first : List Move) (later : List (List Move)) (now : List Move)
    → Adds ops scratch sources rows first later now → AddsRing ops scratch sources rows first later now
adds_ring ops scratch sources rows first later now adds = record {
  does = λ placed clean done apart unread. adds.does placed done apart unread;
  reads = λ register h. inr (adds.reads register h);
  fits = adds.fits;
  writes = λ register h. inr (adds.writes register h);
}

pub put_ring : (scratch ops : ℕ) (ring : List Move) (rows : List (List Move)) (first : List Move) (later : List (List Move)) (now : List Move) → Puts ops ring rows first later now
    → WritesOnce ring → AddsRing ops scratch (source_in ring) rows first later now
put_ring scratch ops ring rows first later now puts once =
    adds_ring ops scratch (source_in ring) rows first later now
    (put_adds scratch ops ring rows first later now puts once)

-- ---- a cycle that is broken

-- the copy out of scratch, and the one into it
abbrev pub from_scratch : ℕ → Move → Move
from_scratch scratch last = record { dest = last.dest; from = Name scratch }

abbrev pub to_scratch : ℕ → Move → Move
to_scratch scratch head = record { dest = scratch; from = Name head.dest }

-- the first row does not name scratch by then
pub broken_clean : (scratch ops : ℕ) (init : List Move) (last : Move) (rows : List (List Move)) (first : List Move) (mid : List (List Move)) (row : List Move)
    (late : List (List Move)) (second : List Move) → Puts ops (from_scratch scratch last ∷ []) rows first mid row → Unwound ops scratch init mid row late second
    → ops < length first + length (init ++ last ∷ []) → length second < ops → IsClean scratch second
broken_clean scratch ops init last rows first mid row late second (Fills full is row_is) unwound long has_room = unwound.clean (subst (IsClean scratch) (sym row_is) (clean_none scratch))
broken_clean scratch ops init last rows first mid row late second (Fits room is row_is) unwound long has_room = elim unwound.grows [
  | inl grown ↦
      let one = ap length row_is in
      absurd (omega (arith, grown, one, long, has_room, length-append first (from_scratch scratch last ∷ []), length-append init (last ∷ [])))
  | inr clean ↦ clean
]

module _ (scratch ops : ℕ) (init : List Move) (last head : Move) (rows : List (List Move)) (first : List Move) (mid : List (List Move)) (row : List Move)
    (late : List (List Move)) (second : List Move) (later : List (List Move)) (now : List Move) (out : Puts ops (from_scratch scratch last ∷ []) rows first mid row)
    (unwound : Unwound ops scratch init mid row late second) (into : Puts ops (to_scratch scratch head ∷ []) late second later now)
    (closes : last.from ≡ Name head.dest) (once : source_in init last.dest ≡ None) (clean : IsClean scratch init) (apart : last.dest ≢ scratch)
    (tidy : IsClean scratch second) (tail : List Move) (begins : init ++ last ∷ [] ≡ head ∷ tail) where
  abbrev ring : List Move
  ring = init ++ last ∷ []

  abbrev leaves : List Move
  leaves = from_scratch scratch last ∷ []

  abbrev enters : List Move
  enters = to_scratch scratch head ∷ []

  init_free : (sources : ℕ → Option Operand) → Unread sources (source_in ring) → (register : ℕ) → IsRead sources register → source_in init register ≡ None
  init_free sources free register h = none_front init (last ∷ []) register (free.unread register h)

  last_free : (sources : ℕ → Option Operand) → Unread sources (source_in ring) → (register : ℕ) → IsRead sources register → source_in leaves register ≡ None
  last_free sources free register h =
      one_unwritten (from_scratch scratch last) register (unwritten last [] register (none_behind init (last ∷ []) register (free.unread register h))).head

  -- what is copied out of scratch is read by none but it
  scratch_free : (register : ℕ) → IsRead (source_in leaves) register → source_in init register ≡ None
  scratch_free register h =
      let is = one_read (from_scratch scratch last) register h in
      let same : scratch ≡ register = (cc) in
      subst (λ (r : ℕ). source_in init r ≡ None) same clean.unwritten

  mid_free : (placed : ℕ → Option Operand) → Unread placed (source_in ring) → Unread (over placed (source_in leaves)) (source_in init)
  mid_free placed free = record { unread = λ register h. by_source register h.by (placed h.by) refl h.reads }
    where
      by_source : (register by : ℕ) (source : Option Operand) → placed by ≡ source → first_of source (source_in leaves by) ≡ Some (Name register) → source_in init register ≡ None
      by_source register by (Some from) e reads = init_free placed free register (record { by = by; reads = e ∙ reads })
      by_source register by None e reads = scratch_free register (record { by = by; reads = reads })

  row_free : Unread (source_in first) (source_in ring) → Unread (source_in row) (source_in init)
  row_free free = record {
    unread = λ register h. elim (put_reads ops leaves rows first mid row out register h) [
      | inl early ↦ init_free (source_in first) free register early
      | inr here ↦ scratch_free register here
    ];
  }

  -- scratch aside, a register has what it had before the copy into scratch
  through : (names : ℕ → ℤ) (x : ℕ) (source : Option Operand) → source ≢ Some (Name scratch) → x ≢ scratch
      → taken source (moved (source_in enters) names) x ≡ taken source names x
  through names x None other apart_x = ap (λ o. taken o names x) (one_unwritten (to_scratch scratch head) x (λ e. apart_x (sym e)))
  through names x (Some (Lit value)) other apart_x = refl
  through names x (Some (Name register)) other apart_x =
      ap (λ o. taken o names register) (one_unwritten (to_scratch scratch head) register (λ e. other (ap (λ r. Some (Name r)) (sym e))))

  -- what is copied out of scratch is what the first move's destination had
  closed : (names : ℕ → ℤ) → taken (first_of (source_in leaves last.dest) (source_in init last.dest)) (moved (source_in enters) names) last.dest
      ≡ taken (source_in ring last.dest) names last.dest
  closed names =
      ap (λ o. taken (first_of o (source_in init last.dest)) (moved (source_in enters) names) last.dest) (head_written (from_scratch scratch last) [])
      ∙ ap (λ o. taken o names scratch) (head_written (to_scratch scratch head) [])
      ∙ sym (ap (λ o. taken o names last.dest) (source_both init (last ∷ []) last.dest
      ∙ ap (λ o. first_of o (source_in (last ∷ []) last.dest)) once ∙ head_written last [] ∙ ap (λ o. Some o) closes))

  none_behind_it : (source : Option Operand) → first_of source None ≡ source
  none_behind_it (Some from) = refl
  none_behind_it None = refl

  kept : (names : ℕ → ℤ) (x : ℕ) → x ≢ scratch → last.dest ≢ x → taken (first_of (source_in leaves x) (source_in init x)) (moved (source_in enters) names) x
      ≡ taken (source_in ring x) names x
  kept names x apart_x other =
      ap (λ o. taken (first_of o (source_in init x)) (moved (source_in enters) names) x) (one_unwritten (from_scratch scratch last) x other)
      ∙ through names x (source_in init x) (λ e. clean.unread (record { by = x; reads = e })) apart_x
      ∙ sym (ap (λ o. taken o names x) (source_both init (last ∷ []) x ∙ ap (λ o. first_of (source_in init x) o) (one_unwritten last x other) ∙ none_behind_it (source_in init x)))

  value_of_ring : (names : ℕ → ℤ) (x : ℕ) → x ≢ scratch → taken (first_of (source_in leaves x) (source_in init x)) (moved (source_in enters) names) x
      ≡ taken (source_in ring x) names x
  value_of_ring names x apart_x = elim (cases_eq last.dest x) [
    | inl same ↦
        subst (λ (r : ℕ). taken (first_of (source_in leaves r) (source_in init r)) (moved (source_in enters) names) r ≡ taken (source_in ring r) names r) same (closed names)
    | inr other ↦ kept names x apart_x other
  ]

  value_through : (placed : ℕ → Option Operand) → (IsRead placed scratch → ⊥) → (names : ℕ → ℤ) (x : ℕ) → x ≢ scratch
      → moved (over (over placed (source_in leaves)) (source_in init)) (moved (source_in enters) names) x ≡ moved (over placed (source_in ring)) names x
  value_through placed free names x apart_x = by_source (placed x) refl
    where
      by_source : (source : Option Operand) → placed x ≡ source
          → taken (first_of (first_of source (source_in leaves x)) (source_in init x)) (moved (source_in enters) names) x ≡ taken (first_of source (source_in ring x)) names x
      by_source (Some from) e = through names x (Some from) (λ is. free (record { by = x; reads = e ∙ is })) apart_x
      by_source None e = value_of_ring names x apart_x

  enters_free : Unread (source_in second) (source_in enters)
  enters_free = record { unread = λ register h. one_unwritten (to_scratch scratch head) register (λ e. tidy.unread (subst (IsRead (source_in second)) (sym e) h)) }

  ring_does : (placed : ℕ → Option Operand) → (IsRead placed scratch → ⊥) → Do scratch rows first placed → Unread placed (source_in ring) → Unread (source_in first) (source_in ring)
      → Do scratch later now (over placed (source_in ring))
  ring_does placed free done apart_p apart_f =
      let begun = put_does scratch ops leaves rows first mid row out placed done (record { unread = last_free placed apart_p }) (record { unread = last_free (source_in first) apart_f }) in
      let middle = unwound.adds.does (over placed (source_in leaves)) begun (mid_free placed apart_p) (row_free apart_f) in
      put_done scratch ops enters late second later now into (over placed (source_in ring)) (record {
        same = λ names x other.
            ap (λ (n : ℕ → ℤ). back late n x) (row_more second enters names enters_free)
            ∙ middle.same (moved (source_in enters) names) x other
            ∙ value_through placed free names x other;
      })

  init_read : (register : ℕ) → IsRead (source_in init) register → IsRead (source_in ring) register
  init_read register h = record { by = h.by; reads = source_both init (last ∷ []) h.by ∙ ap (λ o. first_of o (source_in (last ∷ []) h.by)) h.reads }

  ring_reads : (register : ℕ) → IsRead (source_in now) register → (register ≡ scratch) ⊎ IsRead (source_in first) register ⊎ IsRead (source_in ring) register
  ring_reads register h = elim (put_reads ops enters late second later now into register h) [
    | inl early ↦ elim (unwound.adds.reads register early) [
      | inl old ↦ elim (put_reads ops leaves rows first mid row out register old) [
        | inl oldest ↦ inr (inl oldest)
        | inr here ↦ let is = one_read (from_scratch scratch last) register here in inl (let same : scratch ≡ register = (cc) in sym same)
      ]
      | inr moves ↦ inr (inr (init_read register moves))
    ]
    | inr here ↦
        let is = one_read (to_scratch scratch head) register here in
        let same : head.dest ≡ register = (cc) in
        inr (inr (record {
          by = last.dest;
          reads = source_both init (last ∷ []) last.dest
              ∙ ap (λ o. first_of o (source_in (last ∷ []) last.dest)) once
              ∙ head_written last []
              ∙ ap (λ o. Some o) closes
              ∙ ap (λ r. Some (Name r)) same;
        }))
  ]

  -- no row writes a register twice
  leaves_apart : Apart (source_in first) (source_in ring) → Apart (source_in first) (source_in leaves)
  leaves_apart free = record {
    apart = λ register h. one_unwritten (from_scratch scratch last) register (unwritten last [] register (none_behind init (last ∷ []) register (free.apart register h))).head;
  }

  init_apart : Apart (source_in first) (source_in ring) → Apart (source_in row) (source_in init)
  init_apart free = record {
    apart = λ register h. elim (put_writes ops leaves rows first mid row out register h) [
      | inl early ↦ none_front init (last ∷ []) register (free.apart register early)
      | inr here ↦ subst (λ (r : ℕ). source_in init r ≡ None) (one_written (from_scratch scratch last) register here) once
    ];
  }

  enters_apart : Apart (source_in second) (source_in enters)
  enters_apart = record {
    apart = λ register h. one_unwritten (to_scratch scratch head) register (λ e. let none = sym (ap (source_in second) e) ∙ tidy.unwritten in let writes = h.writes in absurd (cc));
  }

  init_source : (register : ℕ) (from : Operand) → source_in init register ≡ Some from → source_in ring register ≡ Some from
  init_source register from e = source_both init (last ∷ []) register ∙ ap (λ o. first_of o (source_in (last ∷ []) register)) e

  ring_fits : (named : ℕ → Bool) → AreNamed named (source_in ring) → Apart (source_in first) (source_in ring) → RowsFit named ops scratch rows first
      → RowsFit named ops scratch later now
  ring_fits named are free fit =
      let last_named : named last.dest ≡ true = are.dests last.dest last.from (source_both init (last ∷ []) last.dest
      ∙ ap (λ o. first_of o (source_in (last ∷ []) last.dest)) once ∙ head_written last []) in
      let head_named : named head.dest ≡ true = are.dests head.dest head.from (ap (λ (l : List Move). source_in l head.dest) begins ∙ head_written head tail) in
      let inner : AreNamed named (source_in init) = record {
        dests = λ register from e. are.dests register from (init_source register from e);
        reads = λ register read e. are.reads register read (init_source register (Name read) e);
      } in
      let begun = put_fits named ops scratch leaves rows first mid row out (record { dest = inl last_named; from = inr refl }, tt) (refl, tt) (leaves_apart free) fit in
      put_fits named ops scratch enters late second later now into (record { dest = inr refl; from = inl head_named }, tt) (refl, tt) enters_apart
      (unwound.adds.fits named inner (init_apart free) begun)

  init_written : (register : ℕ) → IsWritten (source_in init) register → IsWritten (source_in ring) register
  init_written register h = record { from = h.from; writes = source_both init (last ∷ []) register ∙ ap (λ o. first_of o (source_in (last ∷ []) register)) h.writes }

  last_written : source_in ring last.dest ≡ Some last.from
  last_written = source_both init (last ∷ []) last.dest ∙ ap (λ o. first_of o (source_in (last ∷ []) last.dest)) once ∙ head_written last []

  ring_writes : (register : ℕ) → IsWritten (source_in now) register → (register ≡ scratch) ⊎ IsWritten (source_in first) register ⊎ IsWritten (source_in ring) register
  ring_writes register h = elim (put_writes ops enters late second later now into register h) [
    | inl early ↦ elim (unwound.adds.writes register early) [
      | inl old ↦ elim (put_writes ops leaves rows first mid row out register old) [
        | inl oldest ↦ inr (inl oldest)
        | inr here ↦ inr (inr (record { from = last.from; writes = ap (source_in ring) (sym (one_written (from_scratch scratch last) register here)) ∙ last_written }))
      ]
      | inr moves ↦ inr (inr (init_written register moves))
    ]
    | inr here ↦ inl (sym (one_written (to_scratch scratch head) register here))
  ]

  pub ring_broken : AddsRing ops scratch (source_in ring) rows first later now
  ring_broken = record { does = ring_does; reads = ring_reads; fits = ring_fits; writes = ring_writes }

-- ---- as the code reads it

pub split_last : (moves : List Move) (default : Move) → 0 < length moves → take (length moves - 1) moves ++ get_or moves (length moves - 1) default ∷ [] ≡ moves
split_last moves default some =
    let there : length moves - 1 < length moves = omega (arith, some) in
    let whole : length moves - 1 + 1 ≡ length moves = omega (arith, some) in
    sym (take_more moves (length moves - 1) default there) ∙ ap (λ (n : ℕ). take n moves) whole ∙ take_all (length moves) moves (omega arith)

-- what is known of a cycle and its last move
pub record RingEnds (ring init : List Move) (last : Move) : Type 0 where
  pub head : Move
  pub tail : List Move
  pub begins : ring ≡ head ∷ tail
  pub first : (other : Move) → get_or ring 0 other ≡ head
  pub split : init ++ last ∷ [] ≡ ring
  pub closes : last.from ≡ Name head.dest
  pub leads : Leads_to init (Name last.dest)
  pub front : WritesOnce init
  pub once : source_in init last.dest ≡ None

pub ring_some : (ring : List Move) → IsRing ring → 0 < length ring
ring_some ring is = let long = ap length is.is in omega (arith, long)

pub ring_ends : (ring : List Move) (default : Move) → IsRing ring → RingEnds ring (take (length ring - 1) ring) (get_or ring (length ring - 1) default)
ring_ends ring default is =
    let init = take (length ring - 1) ring in
    let last = get_or ring (length ring - 1) default in
    let split = split_last ring default (ring_some ring is) in
    let leads = leads_split init last [] (Name is.head.dest) (rw split is.leads) in
    let apart = once_split init (last ∷ []) (rw split is.once) in
    record {
      head = is.head;
      tail = is.tail;
      begins = is.is;
      first = λ other. ap (λ (l : List Move). get_or l 0 other) is.is;
      split = split;
      closes = leads.1;
      leads = leads.0;
      front = apart.front;
      once = apart.apart last.dest last.from (head_written last []);
    }

-- the moves before the last one may be done one after the other
pub ring_unwinds : (ring : List Move) → IsRing ring → Unwinds (take (length ring - 1) ring)
ring_unwinds ring is =
    let ends = ring_ends ring is.head is in
    let last = get_or ring (length ring - 1) is.head in
    leads_unwind (take (length ring - 1) ring) (Name last.dest) ends.leads ends.front
    (λ register e. let same : last.dest ≡ register = (cc) in subst (λ (r : ℕ). source_in (take (length ring - 1) ring) r ≡ None) same ends.once)

pub break_adds : (scratch ops : ℕ) (ring : List Move) (default other : Move) (rows : List (List Move)) (first : List Move) (mid : List (List Move)) (row : List Move)
    (late : List (List Move)) (second : List Move) (later : List (List Move)) (now : List Move) → IsRing ring → AllByRecursion (Avoids scratch) ring
    → Puts ops (from_scratch scratch (get_or ring (length ring - 1) default) ∷ []) rows first mid row
    → Unwound ops scratch (take (length ring - 1) ring) mid row late second
    → Puts ops (to_scratch scratch (get_or ring 0 other) ∷ []) late second later now
    → ops < length first + length ring → length second < ops → AddsRing ops scratch (source_in ring) rows first later now
break_adds scratch ops ring default other rows first mid row late second later now is avoids out unwound into long room =
    let ends = ring_ends ring default is in
    let init = take (length ring - 1) ring in
    let last = get_or ring (length ring - 1) default in
    let all : AllByRecursion (Avoids scratch) (init ++ last ∷ []) = rw ends.split avoids in
    let long_split : ops < length first + length (init ++ last ∷ []) = rw ends.split long in
    let tidy = broken_clean scratch ops init last rows first mid row late second out unwound long_split room in
    let enters = subst (λ (m : Move). Puts ops (to_scratch scratch m ∷ []) late second later now) (ends.first other) into in
    let broken = ring_broken scratch ops init last ends.head rows first mid row late second later now out unwound enters ends.closes ends.once
    (all_clean scratch init (all_front (Avoids scratch) init (last ∷ []) all))
    (all_back (Avoids scratch) init (last ∷ []) all).0.writes tidy ends.tail (ends.split ∙ ends.begins) in
    subst (λ (l : List Move). AddsRing ops scratch (source_in l) rows first later now) ends.split broken
