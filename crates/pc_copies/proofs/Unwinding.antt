-- Moves that are put one after the other, the last first.
use Rattle.std.proofs.Common.{◌≡◌, ◌≢◌, ◌⊎◌, inl, inr, ℕ, zero, suc, ◌+◌, ◌-◌, ◌<◌}
use Rattle.std.proofs.Common.{◌≤◌, Bool, true, false, List, [], ◌∷◌, ◌++◌, length, drop, get_or, Option}
use Rattle.std.proofs.Common.{Some, None, refl, sym, ◌∙◌, ap, subst, arith}
use Rattle.std.proofs.Common.{eqb-true, length-append}
use Rattle.std.specs.Prelude.{if◌then◌else◌, nat_eq}
use Rattle.std.specs.List.{AllByRecursion}
use Rattle.std.proofs.lemmas.List.{drop_more}
use Rattle.pc_word.specs.declared.item.Operand.{Operand}
use Rattle.pc_word.specs.declared.item.Operand.TheVariants.{Name}
use Rattle.pc_copies.specs.declared.moves.Move.{Move}
use Rattle.pc_copies.specs.Moves.{Leads_to}
use Rattle.pc_copies.specs.models.Sources.{source_in, first_of, over, IsRead, Unread, IsWritten, Apart, Do}
use Rattle.pc_copies.specs.models.Packing.{Puts, Fills, Fits, WritesOnce, Avoids, Unwinds, RowsFit, AreNamed, IsClean, Unwound}
use Rattle.pc_copies.proofs.Singles.{one_unwritten, head_written, unwritten, one_read, head_read, tail_read, tail_is_written, one_written}
use Rattle.pc_copies.proofs.Copies.{put_counts}
use Rattle.pc_copies.proofs.Rows.{source_both, reads_both, do_same, put_does, put_reads, put_writes, head_copy, tail_named, put_fits}

-- ---- clean rows

pub clean_none : (register : ℕ) → IsClean register []
clean_none register = record { unread = λ h. let e = h.reads in absurd (cc); unwritten = refl }

pub clean_more : (register : ℕ) (row : List Move) (move : Move) → IsClean register row → Avoids register move → IsClean register (row ++ move ∷ [])
clean_more register row move clean avoids = record {
  unread = λ h. elim (reads_both row (move ∷ []) register h) [
    | inl before ↦ clean.unread before
    | inr here ↦ avoids.reads (one_read move register here)
  ];
  unwritten = source_both row (move ∷ []) register ∙ ap (λ o. first_of o (source_in (move ∷ []) register)) clean.unwritten ∙ one_unwritten move register avoids.writes;
}

-- ---- one move more

over_more : (placed rest : Option Operand) (b : Bool) (from : Operand) → (b ≡ true → rest ≡ None)
    → first_of (first_of placed rest) (if b then Some from else None) ≡ first_of placed (if b then Some from else rest)
over_more (Some other) rest b from once = refl
over_more None rest true from once = ap (λ o. first_of o (Some from)) (once refl)
over_more None (Some other) false from once = refl
over_more None None false from once = refl

module _ (scratch ops : ℕ) (move : Move) (moves : List Move) (rows : List (List Move)) (first : List Move) (mid : List (List Move)) (row : List Move)
    (later : List (List Move)) (now : List Move) (before : Unwound ops scratch moves rows first mid row) (puts : Puts ops (move ∷ []) mid row later now)
    (unwinds : Unwinds (move ∷ moves)) (avoids : Avoids scratch move) where
  -- what the moves after it read is not written by it
  moves_unread : (register : ℕ) → IsRead (source_in moves) register → source_in (move ∷ []) register ≡ None
  moves_unread register h = one_unwritten move register (λ e. unwinds.1 (subst (IsRead (source_in moves)) (sym e) h))

  one_free : (sources : ℕ → Option Operand) → Unread sources (source_in (move ∷ moves)) → (register : ℕ) → IsRead sources register → source_in (move ∷ []) register ≡ None
  one_free sources apart register h = one_unwritten move register (unwritten move moves register (apart.unread register h)).head

  rest_free : (sources : ℕ → Option Operand) → Unread sources (source_in (move ∷ moves)) → Unread sources (source_in moves)
  rest_free sources apart = record { unread = λ register h. (unwritten move moves register (apart.unread register h)).tail }

  placed_free : (placed : ℕ → Option Operand) → Unread placed (source_in (move ∷ moves)) → Unread (over placed (source_in moves)) (source_in (move ∷ []))
  placed_free placed apart = record { unread = λ register h. by_source register h.by (placed h.by) refl h.reads }
    where
      by_source : (register by : ℕ) (source : Option Operand) → placed by ≡ source → first_of source (source_in moves by) ≡ Some (Name register)
          → source_in (move ∷ []) register ≡ None
      by_source register by (Some from) e reads = one_free placed apart register (record { by = by; reads = e ∙ reads })
      by_source register by None e reads = moves_unread register (record { by = by; reads = reads })

  row_free : Unread (source_in first) (source_in (move ∷ moves)) → Unread (source_in row) (source_in (move ∷ []))
  row_free apart = record {
    unread = λ register h. elim (before.adds.reads register h) [
      | inl early ↦ one_free (source_in first) apart register early
      | inr late ↦ moves_unread register late
    ];
  }

  more_does : (placed : ℕ → Option Operand) → Do scratch rows first placed → Unread placed (source_in (move ∷ moves)) → Unread (source_in first) (source_in (move ∷ moves))
      → Do scratch later now (over placed (source_in (move ∷ moves)))
  more_does placed done apart unread =
      let so_far = before.adds.does placed done (rest_free placed apart) (rest_free (source_in first) unread) in
      let done = put_does scratch ops (move ∷ []) mid row later now puts (over placed (source_in moves)) so_far (placed_free placed apart) (row_free unread) in
      do_same scratch later now (over (over placed (source_in moves)) (source_in (move ∷ []))) (over placed (source_in (move ∷ moves)))
      (λ x other. over_more (placed x) (source_in moves x) (nat_eq move.dest x) move.from (λ e. sym (ap (source_in moves) (eqb-true move.dest x e)) ∙ unwinds.0)) done

  more_reads : (register : ℕ) → IsRead (source_in now) register → IsRead (source_in first) register ⊎ IsRead (source_in (move ∷ moves)) register
  more_reads register h = elim (put_reads ops (move ∷ []) mid row later now puts register h) [
    | inl early ↦ elim (before.adds.reads register early) [
      | inl old ↦ inl old
      | inr rest ↦ inr (tail_read move moves register unwinds.0 rest)
    ]
    | inr here ↦ inr (head_read move moves register (one_read move register here))
  ]

  -- what the moves after it write is not written by it
  moves_apart : (register : ℕ) → IsWritten (source_in moves) register → source_in (move ∷ []) register ≡ None
  moves_apart register h = one_unwritten move register (λ e. let none = sym (ap (source_in moves) e) ∙ unwinds.0 in let writes = h.writes in absurd (cc))

  row_apart : Apart (source_in first) (source_in (move ∷ moves)) → Apart (source_in row) (source_in (move ∷ []))
  row_apart apart = record {
    apart = λ register h. elim (before.adds.writes register h) [
      | inl early ↦ one_unwritten move register (unwritten move moves register (apart.apart register early)).head
      | inr late ↦ moves_apart register late
    ];
  }

  more_fits : (named : ℕ → Bool) → AreNamed named (source_in (move ∷ moves)) → Apart (source_in first) (source_in (move ∷ moves)) → RowsFit named ops scratch rows first
      → RowsFit named ops scratch later now
  more_fits named are apart fit =
      let rest : Apart (source_in first) (source_in moves) = record { apart = λ register h. (unwritten move moves register (apart.apart register h)).tail } in
      put_fits named ops scratch (move ∷ []) mid row later now puts (head_copy named scratch move moves are, tt) (refl, tt) (row_apart apart)
      (before.adds.fits named (tail_named named move moves unwinds.0 are) rest fit)

  more_writes : (register : ℕ) → IsWritten (source_in now) register → IsWritten (source_in first) register ⊎ IsWritten (source_in (move ∷ moves)) register
  more_writes register h = elim (put_writes ops (move ∷ []) mid row later now puts register h) [
    | inl early ↦ elim (before.adds.writes register early) [
      | inl old ↦ inl old
      | inr rest ↦ inr (tail_is_written move moves register unwinds.0 rest)
    ]
    | inr here ↦ inr (record { from = move.from; writes = ap (source_in (move ∷ moves)) (sym (one_written move register here)) ∙ head_written move moves })
  ]

  more_grows : Puts ops (move ∷ []) mid row later now → (length now ≡ length first + length (move ∷ moves)) ⊎ IsClean scratch now
  more_grows (Fills full is now_is) = inr (subst (IsClean scratch) (sym now_is) (clean_none scratch))
  more_grows (Fits room is now_is) = elim before.grows [
    | inl long ↦ let grown = ap length now_is in inl (omega (arith, long, grown, length-append row (move ∷ [])))
    | inr clean ↦ inr (subst (IsClean scratch) (sym now_is) (clean_more scratch row move clean avoids))
  ]

  more_clean : Puts ops (move ∷ []) mid row later now → IsClean scratch first → IsClean scratch now
  more_clean (Fills full is now_is) clean = subst (IsClean scratch) (sym now_is) (clean_none scratch)
  more_clean (Fits room is now_is) clean = subst (IsClean scratch) (sym now_is) (clean_more scratch row move (before.clean clean) avoids)

  pub unwound_more : Unwound ops scratch (move ∷ moves) rows first later now
  unwound_more = record {
    adds = record { does = more_does; reads = more_reads; fits = more_fits; writes = more_writes };
    grows = more_grows puts;
    clean = more_clean puts;
    counted = let one = put_counts ops (move ∷ []) mid row later now puts in let so_far = before.counted in omega (arith, one, so_far);
  }

unwinds_drop : (at : ℕ) (moves : List Move) → Unwinds moves → Unwinds (drop at moves)
unwinds_drop zero moves unwinds = unwinds
unwinds_drop (suc at) [] unwinds = tt
unwinds_drop (suc at) (move ∷ moves) unwinds = unwinds_drop at moves unwinds.2

avoids_drop : (scratch at : ℕ) (moves : List Move) → AllByRecursion (Avoids scratch) moves → AllByRecursion (Avoids scratch) (drop at moves)
avoids_drop scratch zero moves all = all
avoids_drop scratch (suc at) [] all = tt
avoids_drop scratch (suc at) (move ∷ moves) all = avoids_drop scratch at moves all.1

-- the move before those that were put is put
pub unwound_next : (scratch ops at : ℕ) (moves : List Move) (default : Move) (rows : List (List Move)) (first : List Move) (mid : List (List Move)) (row : List Move)
    (later : List (List Move)) (now : List Move) → 0 < at → at ≤ length moves → Unwinds moves → AllByRecursion (Avoids scratch) moves
    → Unwound ops scratch (drop at moves) rows first mid row → Puts ops (get_or moves (at - 1) default ∷ []) mid row later now
    → Unwound ops scratch (drop (at - 1) moves) rows first later now
unwound_next scratch ops at moves default rows first mid row later now some within unwinds avoids before puts =
    let whole : at - 1 + 1 ≡ at = omega (arith, some) in
    let split : drop (at - 1) moves ≡ get_or moves (at - 1) default ∷ drop at moves =
    drop_more moves (at - 1) default (omega (arith, some, within)) ∙ ap (λ (n : ℕ). get_or moves (at - 1) default ∷ drop n moves) whole in
    let here = subst (λ (l : List Move). Unwinds l) split (unwinds_drop (at - 1) moves unwinds) in
    let avoid = subst (λ (l : List Move). AllByRecursion (Avoids scratch) l) split (avoids_drop scratch (at - 1) moves avoids) in
    subst (λ (l : List Move). Unwound ops scratch l rows first later now) (sym split)
    (unwound_more scratch ops (get_or moves (at - 1) default) (drop at moves) rows first mid row later now before puts here avoid.0)

-- nothing is put
pub unwound_none : (ops scratch : ℕ) (rows : List (List Move)) (first : List Move) → Unwound ops scratch [] rows first rows first
unwound_none ops scratch rows first = record {
  adds = record {
    does = λ placed done apart unread. do_same scratch rows first placed (over placed (source_in [])) (λ x other. kept (placed x)) done;
    reads = λ register h. inl h;
    fits = λ named are apart fit. fit;
    writes = λ register h. inl h;
  };
  grows = inl (omega arith);
  clean = λ h. h;
  counted = omega arith;
}
  where
    kept : (source : Option Operand) → source ≡ first_of source None
    kept (Some from) = refl
    kept None = refl

-- ---- chains

pub leads_reads : (moves : List Move) (end : Operand) (register : ℕ) → Leads_to moves end → IsRead (source_in moves) register
    → (source_in moves register ≢ None) ⊎ (end ≡ Name register)
leads_reads [] end register leads h = let e = h.reads in absurd (cc)
leads_reads (move ∷ []) end register leads h = inr (sym leads ∙ one_read move register h)
leads_reads (move ∷ next ∷ moves) end register leads h = by_test (nat_eq move.dest h.by) refl h.reads (λ e. leads_reads (next ∷ moves) end register leads.1 (record { by = h.by; reads = e }))
  where
    still : source_in (next ∷ moves) register ≢ None → source_in (move ∷ next ∷ moves) register ≢ None
    still written e = written (unwritten move (next ∷ moves) register e).tail

    by_test : (b : Bool) → nat_eq move.dest h.by ≡ b → (if b then Some move.from else source_in (next ∷ moves) h.by) ≡ Some (Name register)
        → (source_in (next ∷ moves) h.by ≡ Some (Name register) → (source_in (next ∷ moves) register ≢ None) ⊎ (end ≡ Name register))
        → (source_in (move ∷ next ∷ moves) register ≢ None) ⊎ (end ≡ Name register)
    by_test true t e rest =
        let first = leads.0 in
        let same : next.dest ≡ register = (cc) in
        inl (still (λ none. let written = head_written next moves in let there = ap (source_in (next ∷ moves)) same in absurd (cc)))
    by_test false t e rest = elim (rest e) [
      | inl written ↦ inl (still written)
      | inr is ↦ inr is
    ]

-- a chain whose end is read from elsewhere
pub leads_unwind : (moves : List Move) (end : Operand) → Leads_to moves end → WritesOnce moves → ((register : ℕ) → end ≡ Name register → source_in moves register ≡ None)
    → Unwinds moves
leads_unwind [] end leads once elsewhere = tt
leads_unwind (move ∷ []) end leads once elsewhere = (once.0, (λ h. let e = h.reads in absurd (cc)), tt)
leads_unwind (move ∷ next ∷ moves) end leads once elsewhere = (
  once.0,
  (λ h. elim (leads_reads (next ∷ moves) end move.dest leads.1 h) [
    | inl written ↦ written once.0
    | inr is ↦ let none = elsewhere move.dest is in let there = head_written move (next ∷ moves) in absurd (cc)
  ]),
  leads_unwind (next ∷ moves) end leads.1 once.1 (λ register e. (unwritten move (next ∷ moves) register (elsewhere register e)).tail),
)
