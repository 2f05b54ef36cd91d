-- Rows that do what was taken out of a table, and in the end all moves at once.
use Rattle.std.proofs.Common.{◌≡◌, ◌≢◌, ◌⊎◌, inl, inr, ℕ, zero, suc, ◌+◌, ◌<◌, ◌≤◌, Bool, ◌||◌, eq-eqb}
use Rattle.std.proofs.Common.{true, false, List, [], ◌∷◌, ◌++◌, length, map, drop, reverse, get_or, Option}
use Rattle.std.proofs.Common.{Some, None, refl, sym, ◌∙◌, ap, subst, arith}
use Rattle.std.specs.Prelude.{ℤ, if◌then◌else◌, nat_eq, slice_get}
use Rattle.std.specs.List.{AllByRecursion, filter_map, IsDistinct}
use Rattle.std.proofs.lemmas.Bool.{cases_eq}
use Rattle.std.proofs.lemmas.List.{reverse-append}
use Rattle.std.proofs.lemmas.Option.{slice_get_within, slice_get-get_or}
use Rattle.pc_word.specs.declared.item.Operand.{Operand}
use Rattle.pc_word.specs.declared.item.Operand.TheVariants.{Name}
use Rattle.pc_word.specs.State.{State}
use Rattle.pc_word.specs.Items.{operand_value, dest_of}
use Rattle.pc_word.specs.Commit.{names_after, stores_of, cells_after, reads_of}
use Rattle.pc_word.proofs.Lists.{all_imply, all_both}
use Rattle.pc_word.proofs.Truth.{or_first, or_second}
use Rattle.pc_copies.specs.declared.moves.Move.{Move}
use Rattle.pc_copies.specs.Moves.{IsMoveSource, IsCopy, is_name, one_names, AreMoves, AreDone, nontrivial_moves, copy_of, after_copies, after_rows, IsCopyRow, IsFullRow, AreCopies, IsArranged}
use Rattle.pc_copies.specs.models.Sources.{taken, moved, source_in, first_of, over, IsRead, Unread, IsWritten, Apart, back, Do}
use Rattle.pc_copies.specs.models.Packing.{AddsRing, AreNamed, WritesOnce, IsFull, Avoids, IsClean}
use Rattle.pc_copies.specs.models.Placing.{IsWay}
use Rattle.pc_copies.specs.models.Following.{source_at, AreSources, Followed}
use Rattle.pc_copies.specs.models.Arranging.{IsMove, AreApart, IsTable, Arranging, IsPacked, if_any}
use Rattle.pc_copies.proofs.Copies.{copies_any, copies_in_order}
use Rattle.pc_copies.proofs.Rows.{do_same, named_copies}
use Rattle.pc_copies.proofs.Singles.{apart_tests, unwritten}
use Rattle.pc_copies.proofs.Unwinding.{leads_reads}
use Rattle.pc_copies.proofs.Rings.{all_clean}
use Rattle.pc_copies.proofs.Kept.{Found, found, all_found, all_sources, given_once, kept_none, kept_apart, kept_source}

-- ---- moves that leave scratch alone

move_avoids : (scratch : ℕ) (move : Move) → IsMove scratch move → Avoids scratch move
move_avoids scratch move is = record {
  writes = is.dest.other;
  reads = λ e. (subst (IsMoveSource scratch) e is.from).other refl;
}

moves_clean : (scratch : ℕ) (moves : List Move) → AreApart scratch moves → IsClean scratch moves
moves_clean scratch moves are = all_clean scratch moves (all_imply (IsMove scratch) (Avoids scratch) moves (move_avoids scratch) are.all)

-- ---- registers that moves name

-- what moves write and read, they name
move_names : (moves : List Move) (register : ℕ) (from : Operand) → source_in moves register ≡ Some from
    → (one_names moves register ≡ true) × ((read : ℕ) → from ≡ Name read → one_names moves read ≡ true)
move_names [] register from e = absurd (cc)
move_names (move ∷ moves) register from e = by_test (nat_eq move.dest register) refl e (move_names moves register from)
  where
    reads : (read : ℕ) → move.from ≡ Name read → one_names (move ∷ moves) read ≡ true
    reads read is =
        let named : is_name move.from read ≡ true = ap (λ (o : Operand). is_name o read) is ∙ eq-eqb read read refl in
        or_first (nat_eq move.dest read || is_name move.from read) (one_names moves read) (or_second (nat_eq move.dest read) (is_name move.from read) named)

    by_test : (b : Bool) → nat_eq move.dest register ≡ b → (if b then Some move.from else source_in moves register) ≡ Some from
        → (source_in moves register ≡ Some from → (one_names moves register ≡ true) × ((read : ℕ) → from ≡ Name read → one_names moves read ≡ true))
        → (one_names (move ∷ moves) register ≡ true) × ((read : ℕ) → from ≡ Name read → one_names (move ∷ moves) read ≡ true)
    by_test true t is later =
        let same : move.from ≡ from = (cc) in (
          or_first (nat_eq move.dest register || is_name move.from register) (one_names moves register)
              (or_first (nat_eq move.dest register) (is_name move.from register) t),
          λ read name. reads read (same ∙ name),
        )
    by_test false t is later =
        let rest = later is in (
          or_second (nat_eq move.dest register || is_name move.from register) (one_names moves register) rest.0,
          λ read name. or_second (nat_eq move.dest read || is_name move.from read) (one_names moves read) (rest.1 read name),
        )

moves_named : (moves : List Move) → AreNamed (one_names moves) (source_in moves)
moves_named moves = record {
  dests = λ register from e. (move_names moves register from e).0;
  reads = λ register read e. (move_names moves register (Name read) e).1 read refl;
}

-- ---- so far

none_more : (source : Option Operand) → first_of source None ≡ source
none_more (Some from) = refl
none_more None = refl

-- nothing was taken out yet
pub arranged_first : (ops scratch : ℕ) (moves : List Move) (table : List (Option Operand)) → IsTable moves table → Arranging ops scratch moves 0 table [] []
arranged_first ops scratch moves table is = record {
  are = is.are;
  placed = λ x. None;
  does = record { same = λ names x other. refl };
  stage = λ x. inl (is.each x, refl);
  reads = λ register h. let e = h.reads in absurd (cc);
  row_reads = λ register h. let e = h.reads in absurd (cc);
  fit = record { full = tt; copies = tt; once = tt };
  row_writes = λ register h. let e = h.writes in absurd (cc);
  through = λ i move low there. absurd (omega (arith, low));
}

module _ (ops scratch : ℕ) (moves : List Move) (at : ℕ) (table later_table : List (Option Operand)) (rows : List (List Move)) (first : List Move) (path : List Move) (begin : ℕ)
    (are : AreApart scratch moves) (so_far : Arranging ops scratch moves at table rows first) (follows : Followed table later_table begin path) where
  -- what had no source has none later, and is written by none of the moves that were followed
  pub none_stays : (x : ℕ) → source_at table x ≡ None → source_at later_table x ≡ None
  none_stays x none = elim (follows.taken x) [
    | inl left ↦ left.1 ∙ none
    | inr taken ↦ taken.1
  ]

  path_none : (x : ℕ) → source_at table x ≡ None → source_in path x ≡ None
  path_none x none = elim (follows.taken x) [
    | inl left ↦ left.0
    | inr taken ↦ taken.0 ∙ none
  ]

  -- a source of theirs is one of the moves
  pub path_source : (x : ℕ) (from : Operand) → source_in path x ≡ Some from → source_in moves x ≡ Some from
  path_source x from e = elim (follows.taken x) [
    | inl left ↦ let none = left.0 in absurd (cc)
    | inr taken ↦ elim (so_far.stage x) [
      | inl waits ↦ sym waits.0 ∙ sym taken.0 ∙ e
      | inr placed ↦ let none = placed.0 in let same = taken.0 in absurd (cc)
    ]
  ]

  -- so they leave scratch alone
  pub path_avoids : AllByRecursion (Avoids scratch) path
  path_avoids = all_sources (Avoids scratch) path follows.once
      (λ x from e. move_avoids scratch (record { dest = x; from = from }) (all_found (IsMove scratch) moves x from are.all (path_source x from e)))

  pub path_way : IsWay path
  path_way = record { once = follows.once; end = follows.end; leads = follows.leads }

  -- what they read has no source later
  path_reads : (register : ℕ) → IsRead (source_in path) register → source_at later_table register ≡ None
  path_reads register h = elim (leads_reads path follows.end register follows.leads h) [
    | inl written ↦ elim (follows.taken register) [
      | inl left ↦ absurd (written left.0)
      | inr taken ↦ taken.1
    ]
    | inr is ↦ follows.ends register is
  ]

  scratch_none : source_at table scratch ≡ None
  scratch_none = elim (so_far.stage scratch) [
    | inl waits ↦ waits.0 ∙ (moves_clean scratch moves are).unwritten
    | inr placed ↦ placed.0
  ]

  placed_clean : IsRead so_far.placed scratch → ⊥
  placed_clean h = elim (so_far.stage h.by) [
    | inl waits ↦ let none = waits.1 in let reads = h.reads in absurd (cc)
    | inr placed ↦ (moves_clean scratch moves are).unread (record { by = h.by; reads = sym placed.1 ∙ h.reads })
  ]

  module _ (default : Move) (here : begin ≡ (get_or moves at default).dest) (within : at < length moves) (later : List (List Move)) (now : List Move) (left_table : AreSources later_table)
      (adds : AddsRing ops scratch (source_in path) rows first later now) where
    placed_free : Unread so_far.placed (source_in path)
    placed_free = record { unread = λ register h. path_none register (so_far.reads register h) }

    row_free : Unread (source_in first) (source_in path)
    row_free = record {
      unread = λ register h. elim (so_far.row_reads register h) [
        | inl is ↦ subst (λ (r : ℕ). source_in path r ≡ None) (sym is) (path_none scratch scratch_none)
        | inr none ↦ path_none register none
      ];
    }

    stage_more : (x : ℕ) → ((source_at later_table x ≡ source_in moves x) × (over so_far.placed (source_in path) x ≡ None))
        ⊎ ((source_at later_table x ≡ None) × (over so_far.placed (source_in path) x ≡ source_in moves x))
    stage_more x = elim (follows.taken x) [
      | inl left ↦
          let same : over so_far.placed (source_in path) x ≡ so_far.placed x = ap (λ o. first_of (so_far.placed x) o) left.0 ∙ none_more (so_far.placed x) in
          elim (so_far.stage x) [
            | inl waits ↦ inl (left.1 ∙ waits.0, same ∙ waits.1)
            | inr placed ↦ inr (left.1 ∙ placed.0, same ∙ placed.1)
          ]
      | inr taken ↦ elim (so_far.stage x) [
        | inl waits ↦ inr (taken.1, ap (λ o. first_of o (source_in path x)) waits.1 ∙ taken.0 ∙ waits.0)
        | inr placed ↦ inr (taken.1, ap (λ o. first_of (so_far.placed x) o) (taken.0 ∙ placed.0) ∙ none_more (so_far.placed x) ∙ placed.1)
      ]
    ]

    reads_more : (register : ℕ) → IsRead (over so_far.placed (source_in path)) register → source_at later_table register ≡ None
    reads_more register h = by_source (so_far.placed h.by) refl h.reads
      where
        by_source : (source : Option Operand) → so_far.placed h.by ≡ source → first_of source (source_in path h.by) ≡ Some (Name register) → source_at later_table register ≡ None
        by_source (Some from) e reads = none_stays register (so_far.reads register (record { by = h.by; reads = e ∙ reads }))
        by_source None e reads = path_reads register (record { by = h.by; reads = reads })

    row_reads_more : (register : ℕ) → IsRead (source_in now) register → (register ≡ scratch) ⊎ (source_at later_table register ≡ None)
    row_reads_more register h = elim (adds.reads register h) [
      | inl is ↦ inl is
      | inr (inl early) ↦ elim (so_far.row_reads register early) [
        | inl is ↦ inl is
        | inr none ↦ inr (none_stays register none)
      ]
      | inr (inr moves_read) ↦ inr (path_reads register moves_read)
    ]

    through_more : (i : ℕ) (move : Move) → i < at + 1 → slice_get moves i ≡ Some move → source_at later_table move.dest ≡ None
    through_more i move low there = elim (cases_eq i at) [
      | inl same ↦
          let stands = slice_get-get_or moves at default within in
          let is : get_or moves at default ≡ move = (let again = subst (λ (n : ℕ). slice_get moves n ≡ Some move) same there in cc) in
          subst (λ (m : Move). source_at later_table m.dest ≡ None) is (subst (λ (r : ℕ). source_at later_table r ≡ None) here follows.begun)
      | inr apart ↦ none_stays move.dest (so_far.through i move (omega (arith, low, apart)) there)
    ]

    row_apart : Apart (source_in first) (source_in path)
    row_apart = record {
      apart = λ register h. elim (so_far.row_writes register h) [
        | inl is ↦ subst (λ (r : ℕ). source_in path r ≡ None) (sym is) (path_none scratch scratch_none)
        | inr none ↦ path_none register none
      ];
    }

    row_writes_more : (register : ℕ) → IsWritten (source_in now) register → (register ≡ scratch) ⊎ (source_at later_table register ≡ None)
    row_writes_more register h = elim (adds.writes register h) [
      | inl is ↦ inl is
      | inr (inl early) ↦ elim (so_far.row_writes register early) [
        | inl is ↦ inl is
        | inr none ↦ inr (none_stays register none)
      ]
      | inr (inr here) ↦ elim (follows.taken register) [
        | inl left ↦ let none = left.0 in let writes = here.writes in absurd (cc)
        | inr taken ↦ inr taken.1
      ]
    ]

    path_named : AreNamed (one_names moves) (source_in path)
    path_named = record {
      dests = λ register from e. (moves_named moves).dests register from (path_source register from e);
      reads = λ register read e. (moves_named moves).reads register read (path_source register (Name read) e);
    }

    pub arranged_more : Arranging ops scratch moves (at + 1) later_table later now
    arranged_more = record {
      are = left_table;
      placed = over so_far.placed (source_in path);
      does = adds.does so_far.placed placed_clean so_far.does placed_free row_free;
      stage = stage_more;
      reads = reads_more;
      row_reads = row_reads_more;
      fit = adds.fits (one_names moves) path_named row_apart so_far.fit;
      row_writes = row_writes_more;
      through = through_more;
    }

-- in the end no source is left
pub none_waits : (ops scratch : ℕ) (moves : List Move) (at : ℕ) (table : List (Option Operand)) (rows : List (List Move)) (first : List Move) → length moves ≤ at
    → Arranging ops scratch moves at table rows first → (x : ℕ) → source_at table x ≡ None
none_waits ops scratch moves at table rows first all so_far x = elim (so_far.stage x) [
  | inl waits ↦ by_source (source_in moves x) refl waits.0
  | inr placed ↦ placed.0
]
  where
    by_source : (source : Option Operand) → source_in moves x ≡ source → source_at table x ≡ source_in moves x → source_at table x ≡ None
    by_source None e waits = waits ∙ e
    by_source (Some from) e waits =
        let it = found moves x from e in
        let none = so_far.through it.at it.move (let within = slice_get_within moves it.at it.move it.there in omega (arith, within, all)) it.there in
        subst (λ (r : ℕ). source_at table r ≡ None) it.writes none

-- and the rows do all moves
pub arranged_all : (ops scratch : ℕ) (moves : List Move) (at : ℕ) (table : List (Option Operand)) (rows : List (List Move)) (first : List Move) → length moves ≤ at
    → Arranging ops scratch moves at table rows first → Do scratch rows first (source_in moves)
arranged_all ops scratch moves at table rows first all so_far = do_same scratch rows first so_far.placed (source_in moves) (λ x other. placed_is x) so_far.does
  where
    by_source : (x : ℕ) (source : Option Operand) → source_in moves x ≡ source → source_at table x ≡ source_in moves x → source ≡ None
    by_source x None e waits = refl
    by_source x (Some from) e waits =
        let it = found moves x from e in
        let none = so_far.through it.at it.move (let within = slice_get_within moves it.at it.move it.there in omega (arith, within, all)) it.there in
        let same = it.writes in
        let gone = subst (λ (r : ℕ). source_at table r ≡ None) same none in
        absurd (cc)

    placed_is : (x : ℕ) → so_far.placed x ≡ source_in moves x
    placed_is x = elim (so_far.stage x) [
      | inl waits ↦ waits.1 ∙ sym (by_source x (source_in moves x) refl waits.0)
      | inr placed ↦ placed.1
    ]

-- ---- rows in the order in which they run

abbrev forth : List (List Move) → (ℕ → ℤ) → ℕ → ℤ
forth [] names = names
forth (row ∷ rows) names = forth rows (moved (source_in row) names)

forth_last : (rows : List (List Move)) (row : List Move) (names : ℕ → ℤ) → forth (rows ++ row ∷ []) names ≡ moved (source_in row) (forth rows names)
forth_last [] row names = refl
forth_last (other ∷ rows) row names = forth_last rows row (moved (source_in other) names)

forth_back : (rows : List (List Move)) (names : ℕ → ℤ) → forth (reverse rows) names ≡ back rows names
forth_back [] names = refl
forth_back (row ∷ rows) names =
    ap (λ (l : List (List Move)). forth l names) (reverse-append (row ∷ []) rows)
    ∙ forth_last (reverse rows) row names
    ∙ ap (λ (n : ℕ → ℤ). moved (source_in row) n) (forth_back rows names)

forth_first : (first : List Move) (rows : List (List Move)) (names : ℕ → ℤ) → forth (if_any first ++ rows) names ≡ forth rows (moved (source_in first) names)
forth_first [] rows names = refl
forth_first (move ∷ first) rows names = refl

-- ---- what a row does to a state

taken_test : (b : Bool) (move : Move) (source : Option Operand) (names : ℕ → ℤ) (x : ℕ) → (if b then operand_value names move.from else taken source names x)
    ≡ taken (if b then Some move.from else source) names x
taken_test true move source names x = refl
taken_test false move source names x = refl

row_names : (lengths : List ℕ) (row : List Move) (s : State) (x : ℕ) → names_after lengths s (map copy_of row) x ≡ moved (source_in row) s.names x
row_names lengths [] s x = refl
row_names lengths (move ∷ row) s x =
    ap (λ v. if nat_eq move.dest x then operand_value s.names move.from else v) (row_names lengths row s x)
    ∙ taken_test (nat_eq move.dest x) move (source_in row x) s.names x

pub row_stores : (lengths : List ℕ) (row : List Move) (s : State) → stores_of lengths s (map copy_of row) ≡ []
row_stores lengths [] s = refl
row_stores lengths (move ∷ row) s = row_stores lengths row s

pub row_takes : (row : List Move) → reads_of (map copy_of row) ≡ 0
row_takes [] = refl
row_takes (move ∷ row) = row_takes row

-- a state with other registers
abbrev with_names : State → (ℕ → ℤ) → State
with_names s names = record s { names = names }

row_does : (lengths : List ℕ) (row : List Move) (s : State) → after_copies lengths row s ≡ with_names s (moved (source_in row) s.names)
row_does lengths row s = λ i. record {
  names = λ x. row_names lengths row s x i;
  cells = λ array place. cells_after s.cells (row_stores lengths row s i) array place;
  input = drop (row_takes row i) s.input;
}

rows_do : (lengths : List ℕ) (rows : List (List Move)) (s : State) → after_rows lengths rows s ≡ with_names s (forth rows s.names)
rows_do lengths [] s = refl
rows_do lengths (row ∷ rows) s =
    ap (after_rows lengths rows) (row_does lengths row s) ∙ rows_do lengths rows (with_names s (moved (source_in row) s.names))

-- a move in a list has a source there
pub missing : (list : List Move) (i : ℕ) (move : Move) → slice_get list i ≡ Some move → source_in list move.dest ≡ None → ⊥
missing [] i move e none = cc
missing (other ∷ list) zero move e none = let same : other ≡ move = (cc) in (unwritten other list move.dest none).head (ap (λ (n : Move). n.dest) same)
missing (other ∷ list) (suc i) move e none = missing list i move e (unwritten other list move.dest none).tail

-- ---- all moves at once

module _ (moves : List Move) (ops scratch : ℕ) (rows : List (List Move)) (first : List Move) (are : AreMoves scratch moves) (does : Do scratch rows first (source_in (nontrivial_moves moves))) where
  abbrev in_order : List (List Move)
  in_order = if_any first ++ reverse rows

  names_are : (lengths : List ℕ) (s : State) (x : ℕ) → x ≢ scratch → (after_rows lengths in_order s).names x ≡ moved (source_in (nontrivial_moves moves)) s.names x
  names_are lengths s x other =
      ap (λ (t : State). t.names x) (rows_do lengths in_order s)
      ∙ ap (λ (n : ℕ → ℤ). n x) (forth_first first (reverse rows) s.names ∙ forth_back rows (moved (source_in first) s.names))
      ∙ does.same s.names x other

  once : WritesOnce moves
  once = given_once scratch moves are

  source_is : (at : ℕ) (move : Move) → slice_get moves at ≡ Some move → source_in moves move.dest ≡ Some move.from
  source_is at move there = by_source (source_in moves move.dest) refl
    where
      by_source : (source : Option Operand) → source_in moves move.dest ≡ source → source ≡ Some move.from
      by_source (Some from) e =
          let it = found moves move.dest from e in
          let same = are.apart it.at at it.move move it.there there it.writes in
          let again = subst (λ (n : ℕ). slice_get moves n ≡ Some it.move) same it.there in
          let is : it.move ≡ move = (cc) in
          ap (λ o. Some o) (sym it.reads ∙ ap (λ (m : Move). m.from) is)
      by_source None e = absurd (missing moves at move there e)

  moved_is : (s : State) (at : ℕ) (move : Move) → slice_get moves at ≡ Some move → moved (source_in (nontrivial_moves moves)) s.names move.dest ≡ operand_value s.names move.from
  moved_is s at move there = elim (kept_source moves once move.dest) [
    | inl same ↦ ap (λ o. taken o s.names move.dest) (same ∙ source_is at move there)
    | inr own ↦
        let is : move.from ≡ Name move.dest = (let given = source_is at move there in let itself = own.1 in cc) in
        ap (λ o. taken o s.names move.dest) own.0 ∙ sym (ap (operand_value s.names) is)
  ]

  others_are : (s : State) (x : ℕ) → ((at : ℕ) (move : Move) → slice_get moves at ≡ Some move → move.dest ≢ x) → moved (source_in (nontrivial_moves moves)) s.names x ≡ s.names x
  others_are s x other = by_source (source_in moves x) refl
    where
      by_source : (source : Option Operand) → source_in moves x ≡ source → moved (source_in (nontrivial_moves moves)) s.names x ≡ s.names x
      by_source (Some from) e = let it = found moves x from e in absurd (other it.at it.move it.there it.writes)
      by_source None e = ap (λ o. taken o s.names x) (kept_none moves x e)

  all_done : (lengths : List ℕ) (old : State) → AreDone moves scratch old (after_rows lengths in_order old)
  all_done lengths old = record {
    moved = λ at move there. names_are lengths old move.dest (are.dests at move there).other ∙ moved_is old at move there;
    others = λ x apart other. names_are lengths old x apart ∙ others_are old x other;
    same_cells = ap (λ (t : State). t.cells) (rows_do lengths in_order old);
    same_input = ap (λ (t : State). t.input) (rows_do lengths in_order old);
  }

-- ---- the rows themselves

dest_apart : (move : Move) (row : List Move) → source_in row move.dest ≡ None → AllByRecursion (λ y. nat_eq move.dest y ≡ false) (filter_map dest_of (map copy_of row))
dest_apart move [] none = tt
dest_apart move (other ∷ row) none =
    let rest = unwritten other row move.dest none in
    (apart_tests move.dest other.dest (λ e. rest.head (sym e)), dest_apart move row rest.tail)

pub distinct_dests : (row : List Move) → WritesOnce row → IsDistinct nat_eq (filter_map dest_of (map copy_of row))
unfolding IsDistinct
distinct_dests [] written = tt
distinct_dests (move ∷ row) written = (dest_apart move row written.0, distinct_dests row written.1)

full_fits : (named : ℕ → Bool) (ops scratch : ℕ) → 1 ≤ ops → (row : List Move) → IsFull named ops scratch row → IsCopyRow named ops scratch row
full_fits named ops scratch some row full = record { copies = full.copies; some = omega (arith, some, full.many); few = omega (arith, full.many); once = distinct_dests row full.once }

all_reverse : (P : List Move → Type 0) (rows : List (List Move)) → AllByRecursion P rows → AllByRecursion P (reverse rows)
all_reverse P [] all = tt
all_reverse P (row ∷ rows) all =
    subst (AllByRecursion P) (sym (reverse-append (row ∷ []) rows)) (all_both P (reverse rows) (row ∷ []) (all_reverse P rows all.1) (all.0, tt))

all_behind : (P : List Move → Type 0) (rows : List (List Move)) → AllByRecursion P rows → AllByRecursion P (drop 1 rows)
all_behind P [] all = tt
all_behind P (row ∷ rows) all = all.1

first_fits : (named : ℕ → Bool) (ops scratch : ℕ) (first : List Move) (rows : List (List Move)) → length first ≤ ops
    → AllByRecursion (IsCopy named scratch) first → WritesOnce first → AllByRecursion (IsCopyRow named ops scratch) rows
    → AllByRecursion (IsCopyRow named ops scratch) (if_any first ++ rows)
first_fits named ops scratch [] rows few copies once all = all
first_fits named ops scratch (move ∷ first) rows few copies once all = (record { copies = copies; some = omega arith; few = few; once = distinct_dests (move ∷ first) once }, all)

rest_full : (ops : ℕ) (first : List Move) (rows : List (List Move)) → AllByRecursion (IsFullRow ops) rows → AllByRecursion (IsFullRow ops) (drop 1 (if_any first ++ rows))
rest_full ops [] rows all = all_behind (IsFullRow ops) rows all
rest_full ops (move ∷ first) rows all = all

-- rows that were packed
pub arranged : (moves : List Move) (ops scratch : ℕ) (rows : List (List Move)) (first : List Move) → AreMoves scratch moves → 1 ≤ ops → ops < length (nontrivial_moves moves)
    → IsPacked ops scratch (nontrivial_moves moves) rows first → IsArranged moves ops scratch (if_any first ++ reverse rows)
arranged moves ops scratch rows first are some many packed =
    let fit = packed.fit in
    let named = one_names (nontrivial_moves moves) in
    record {
      done = all_done moves ops scratch rows first are packed.does;
      rows_fit = first_fits named ops scratch first (reverse rows) (omega (arith, packed.room)) fit.copies fit.once
          (all_reverse (IsCopyRow named ops scratch) rows (all_imply (IsFull named ops scratch) (IsCopyRow named ops scratch) rows (full_fits named ops scratch some) fit.full));
      full = rest_full ops first (reverse rows) (all_reverse (IsFullRow ops) rows (all_imply (IsFull named ops scratch) (IsFullRow ops) rows (λ row full. record { full = full.many }) fit.full));
      copies = subst (AreCopies (nontrivial_moves moves)) (sym (copies_in_order rows first)) packed.copies;
      one = λ few. absurd (omega (arith, few, many));
    }

one_at_most : (first : List Move) → length (if_any first) ≤ 1
one_at_most [] = omega arith
one_at_most (move ∷ first) = omega arith

only : (first : List Move) → if_any first ++ [] ≡ if_any first
only [] = refl
only (move ∷ first) = refl

-- one row of all moves
pub arranged_in_one : (moves : List Move) (ops scratch : ℕ) → AreMoves scratch moves → length (nontrivial_moves moves) ≤ ops → IsArranged moves ops scratch (if_any (nontrivial_moves moves))
arranged_in_one moves ops scratch are few =
    let apart = kept_apart scratch moves are in
    let does : Do scratch [] (nontrivial_moves moves) (source_in (nontrivial_moves moves)) = record { same = λ names x other. refl } in
    let named = one_names (nontrivial_moves moves) in
    record {
      done = subst (λ (l : List (List Move)). (lengths : List ℕ) (old : State) → AreDone moves scratch old (after_rows lengths l old)) (only (nontrivial_moves moves))
          (all_done moves ops scratch [] (nontrivial_moves moves) are does);
      rows_fit = subst (AllByRecursion (IsCopyRow named ops scratch)) (only (nontrivial_moves moves))
          (first_fits named ops scratch (nontrivial_moves moves) [] few (named_copies named scratch (nontrivial_moves moves) apart.once (moves_named (nontrivial_moves moves))) apart.once tt);
      full = subst (λ (l : List (List Move)). AllByRecursion (IsFullRow ops) (drop 1 l)) (only (nontrivial_moves moves)) (rest_full ops (nontrivial_moves moves) [] tt);
      copies = record { cycles = []; are = tt; among = tt; apart = distinct_dests [] tt; number = let any = copies_any (nontrivial_moves moves) in omega (arith, any) };
      one = λ h. one_at_most (nontrivial_moves moves);
    }

pub ruleset arranged_laws = (arranged, arranged_in_one, kept_apart)
