-- Moves that are given, those that are not to themselves, and the table of their sources.
use Rattle.std.proofs.Common.{◌≡◌, ◌≢◌, ◌⊎◌, inl, inr, ℕ, zero, suc, ◌+◌, ◌-◌, ◌<◌, ◌≤◌}
use Rattle.std.proofs.Common.{Bool, true, false, List, [], ◌∷◌, ◌++◌, length, take, drop, get_or, replicate, Option}
use Rattle.std.proofs.Common.{Some, None, refl, sym, ◌∙◌, ap, subst, arith}
use Rattle.std.proofs.Common.{eqb-true}
use Rattle.std.specs.Prelude.{if◌then◌else◌, nat_eq, slice_get, slice_set}
use Rattle.std.specs.List.{AllByRecursion}
use Rattle.std.proofs.lemmas.Bool.{cases_eq}
use Rattle.std.proofs.lemmas.List.{take_more, drop_more, drop_all, length-replicate}
use Rattle.pc_word.specs.declared.item.Operand.{Operand}
use Rattle.pc_word.specs.declared.item.Operand.TheVariants.{Name, Lit}
use Rattle.pc_machine.specs.Registers.{most_registers}
use Rattle.pc_word.proofs.Lists.{set_length}
use Rattle.pc_copies.specs.declared.moves.Move.{Move}
use Rattle.pc_copies.specs.Moves.{AreMoves, is_name, nontrivial_moves}
use Rattle.pc_copies.specs.models.Sources.{source_in}
use Rattle.pc_copies.specs.models.Packing.{WritesOnce}
use Rattle.pc_copies.specs.models.Following.{source_at}
use Rattle.pc_copies.specs.models.Arranging.{IsMove, IsBelow, IsInside, AreApart, IsTable}
use Rattle.pc_copies.proofs.Singles.{head_written, tail_written, unwritten}
use Rattle.pc_copies.proofs.Follows.{set_there, set_elsewhere, left_more, none_left}

-- ---- what has a source

-- the move that gives a register its source
pub record Found (moves : List Move) (x : ℕ) (from : Operand) : Type 0 where
  pub at : ℕ
  pub move : Move
  pub there : slice_get moves at ≡ Some move
  pub writes : move.dest ≡ x
  pub reads : move.from ≡ from

pub found : (moves : List Move) (x : ℕ) (from : Operand) → source_in moves x ≡ Some from → Found moves x from
found [] x from e = absurd (cc)
found (move ∷ moves) x from e = by_test (nat_eq move.dest x) refl e (λ h. found moves x from h)
  where
    by_test : (b : Bool) → nat_eq move.dest x ≡ b → (if b then Some move.from else source_in moves x) ≡ Some from
        → (source_in moves x ≡ Some from → Found moves x from) → Found (move ∷ moves) x from
    by_test true t h rest = record { at = 0; move = move; there = refl; writes = eqb-true move.dest x t; reads = cc }
    by_test false t h rest = let it = rest h in record { at = suc it.at; move = it.move; there = it.there; writes = it.writes; reads = it.reads }

-- what holds of each move holds of the one that gives a register its source
pub all_found : (P : Move → Type 0) (moves : List Move) (x : ℕ) (from : Operand) → AllByRecursion P moves → source_in moves x ≡ Some from
    → P (let move : Move = record { dest = x; from = from } in move)
all_found P [] x from all e = absurd (cc)
all_found P (move ∷ moves) x from all e = by_test (nat_eq move.dest x) refl e (λ h. all_found P moves x from all.1 h)
  where
    by_test : (b : Bool) → nat_eq move.dest x ≡ b → (if b then Some move.from else source_in moves x) ≡ Some from
        → (source_in moves x ≡ Some from → P (let other : Move = record { dest = x; from = from } in other)) → P (let other : Move = record { dest = x; from = from } in other)
    by_test true t h rest =
        let dest : move.dest ≡ x = eqb-true move.dest x t in
        let source : move.from ≡ from = (cc) in
        subst (λ (d : ℕ). P (let other : Move = record { dest = d; from = from } in other)) dest
        (subst (λ (f : Operand). P (let other : Move = record { dest = move.dest; from = f } in other)) source all.0)
    by_test false t h rest = rest h

-- and the other way round, where no register is written twice
pub all_sources : (P : Move → Type 0) (moves : List Move) → WritesOnce moves
    → ((x : ℕ) (from : Operand) → source_in moves x ≡ Some from → P (let move : Move = record { dest = x; from = from } in move)) → AllByRecursion P moves
all_sources P [] once each = tt
all_sources P (move ∷ moves) once each = (
  each move.dest move.from (head_written move moves),
  all_sources P moves once.1 (λ x from e. each x from (tail_written move moves x (λ same. let none = sym (ap (source_in moves) same) ∙ once.0 in absurd (cc)) ∙ e)),
)

-- ---- moves that are given

behind : (scratch : ℕ) (move : Move) (moves : List Move) → AreMoves scratch (move ∷ moves) → AreMoves scratch moves
behind scratch move moves are = record {
  dests = λ at other e. are.dests (suc at) other e;
  sources = λ at other e. are.sources (suc at) other e;
  apart = λ at also other more e f same. let next = are.apart (suc at) (suc also) other more e f same in omega (arith, next);
}

given_all : (scratch : ℕ) (moves : List Move) → AreMoves scratch moves → AllByRecursion (IsMove scratch) moves
given_all scratch [] are = tt
given_all scratch (move ∷ moves) are =
    (record { dest = are.dests 0 move refl; from = are.sources 0 move refl }, given_all scratch moves (behind scratch move moves are))

pub given_once : (scratch : ℕ) (moves : List Move) → AreMoves scratch moves → WritesOnce moves
given_once scratch [] are = tt
given_once scratch (move ∷ moves) are = (by_source (source_in moves move.dest) refl, given_once scratch moves (behind scratch move moves are))
  where
    by_source : (source : Option Operand) → source_in moves move.dest ≡ source → source ≡ None
    by_source (Some from) e = let it = found moves move.dest from e in let same = are.apart 0 (suc it.at) move it.move refl it.there (sym it.writes) in absurd (omega (arith, same))
    by_source None e = refl

-- ---- moves that are not to themselves

none_test : (b : Bool) (move : Move) (moves : List Move) (x : ℕ) → move.dest ≢ x → source_in (nontrivial_moves moves) x ≡ None
    → source_in (if b then nontrivial_moves moves else move ∷ nontrivial_moves moves) x ≡ None
none_test true move moves x other rest = rest
none_test false move moves x other rest = tail_written move (nontrivial_moves moves) x other ∙ rest

pub kept_none : (moves : List Move) (x : ℕ) → source_in moves x ≡ None → source_in (nontrivial_moves moves) x ≡ None
kept_none [] x e = refl
kept_none (move ∷ moves) x e =
    let rest = unwritten move moves x e in
    none_test (is_name move.from move.dest) move moves x rest.head (kept_none moves x rest.tail)

all_test : (P : Move → Type 0) (b : Bool) (move : Move) (moves : List Move) → P move → AllByRecursion P (nontrivial_moves moves)
    → AllByRecursion P (if b then nontrivial_moves moves else move ∷ nontrivial_moves moves)
all_test P true move moves here rest = rest
all_test P false move moves here rest = (here, rest)

kept_all : (P : Move → Type 0) (moves : List Move) → AllByRecursion P moves → AllByRecursion P (nontrivial_moves moves)
kept_all P [] all = tt
kept_all P (move ∷ moves) all = all_test P (is_name move.from move.dest) move moves all.0 (kept_all P moves all.1)

once_test : (b : Bool) (move : Move) (moves : List Move) → source_in (nontrivial_moves moves) move.dest ≡ None → WritesOnce (nontrivial_moves moves)
    → WritesOnce (if b then nontrivial_moves moves else move ∷ nontrivial_moves moves)
once_test true move moves none rest = rest
once_test false move moves none rest = (none, rest)

kept_once : (moves : List Move) → WritesOnce moves → WritesOnce (nontrivial_moves moves)
kept_once [] once = tt
kept_once (move ∷ moves) once = once_test (is_name move.from move.dest) move moves (kept_none moves move.dest once.0) (kept_once moves once.1)

pub kept_apart : (scratch : ℕ) (moves : List Move) → AreMoves scratch moves → AreApart scratch (nontrivial_moves moves)
kept_apart scratch moves are = record { all = kept_all (IsMove scratch) moves (given_all scratch moves are); once = kept_once moves (given_once scratch moves are) }

own_name : (from : Operand) (x : ℕ) → is_name from x ≡ true → from ≡ Name x
own_name (Name register) x e = ap Name (eqb-true register x e)
own_name (Lit value) x e = absurd (cc)

-- a register has its source among the moves that are not to themselves, or is its own source
pub kept_source : (moves : List Move) → WritesOnce moves → (x : ℕ)
    → (source_in (nontrivial_moves moves) x ≡ source_in moves x) ⊎ ((source_in (nontrivial_moves moves) x ≡ None) × (source_in moves x ≡ Some (Name x)))
kept_source [] once x = inl refl
kept_source (move ∷ moves) once x = elim (cases_eq move.dest x) [
  | inl same ↦ subst (λ (r : ℕ). (source_in (nontrivial_moves (move ∷ moves)) r ≡ source_in (move ∷ moves) r) ⊎
      ((source_in (nontrivial_moves (move ∷ moves)) r ≡ None) × (source_in (move ∷ moves) r ≡ Some (Name r)))) same
      (here (is_name move.from move.dest) refl)
  | inr apart ↦ elim (kept_source moves once.1 x) [
    | inl same ↦ inl (elsewhere (is_name move.from move.dest) apart ∙ same ∙ sym (tail_written move moves x apart))
    | inr own ↦ inr (elsewhere (is_name move.from move.dest) apart ∙ own.0, tail_written move moves x apart ∙ own.1)
  ]
]
  where
    here : (b : Bool) → is_name move.from move.dest ≡ b → (source_in (if b then nontrivial_moves moves else move ∷ nontrivial_moves moves) move.dest ≡ source_in (move ∷ moves) move.dest)
        ⊎ ((source_in (if b then nontrivial_moves moves else move ∷ nontrivial_moves moves) move.dest ≡ None) × (source_in (move ∷ moves) move.dest ≡ Some (Name move.dest)))
    here true e = inr (kept_none moves move.dest once.0, head_written move moves ∙ ap (λ o. Some o) (own_name move.from move.dest e))
    here false e = inl (head_written move (nontrivial_moves moves) ∙ sym (head_written move moves))

    elsewhere : (b : Bool) → move.dest ≢ x → source_in (if b then nontrivial_moves moves else move ∷ nontrivial_moves moves) x ≡ source_in (nontrivial_moves moves) x
    elsewhere true apart = refl
    elsewhere false apart = tail_written move (nontrivial_moves moves) x apart

-- one move more is looked at
both_test : (b : Bool) (move : Move) (moves more : List Move) → nontrivial_moves (moves ++ more) ≡ nontrivial_moves moves ++ nontrivial_moves more
    → (if b then nontrivial_moves (moves ++ more) else move ∷ nontrivial_moves (moves ++ more)) ≡ (if b then nontrivial_moves moves else move ∷ nontrivial_moves moves) ++ nontrivial_moves more
both_test true move moves more rest = rest
both_test false move moves more rest = ap (λ (l : List Move). move ∷ l) rest

kept_both : (moves more : List Move) → nontrivial_moves (moves ++ more) ≡ nontrivial_moves moves ++ nontrivial_moves more
kept_both [] more = refl
kept_both (move ∷ moves) more = both_test (is_name move.from move.dest) move moves more (kept_both moves more)

no_more : (moves : List Move) → moves ++ [] ≡ moves
no_more [] = refl
no_more (move ∷ moves) = ap (λ (l : List Move). move ∷ l) (no_more moves)

pub kept_skipped : (moves : List Move) (at : ℕ) (default : Move) (row : List Move) → at < length moves → row ≡ nontrivial_moves (take at moves)
    → is_name (get_or moves at default).from (get_or moves at default).dest ≡ true → row ≡ nontrivial_moves (take (at + 1) moves)
kept_skipped moves at default row within so_far own =
    let move = get_or moves at default in
    so_far
    ∙ sym (ap nontrivial_moves (take_more moves at default within) ∙ kept_both (take at moves) (move ∷ [])
    ∙ ap (λ b. nontrivial_moves (take at moves) ++ (if b then [] else move ∷ [])) own ∙ no_more (nontrivial_moves (take at moves)))

pub kept_pushed : (moves : List Move) (at : ℕ) (default : Move) (row now : List Move) → at < length moves → row ≡ nontrivial_moves (take at moves)
    → is_name (get_or moves at default).from (get_or moves at default).dest ≡ false → now ≡ row ++ get_or moves at default ∷ [] → now ≡ nontrivial_moves (take (at + 1) moves)
kept_pushed moves at default row now within so_far other is =
    let move = get_or moves at default in
    is ∙ ap (λ (l : List Move). l ++ move ∷ []) so_far
    ∙ sym (ap nontrivial_moves (take_more moves at default within) ∙ kept_both (take at moves) (move ∷ []) ∙ ap (λ b. nontrivial_moves (take at moves) ++ (if b then [] else move ∷ [])) other)

-- ---- the table

none_at : (count x : ℕ) → source_at (replicate count (let none : Option Operand = None in none)) x ≡ None
none_at zero x = refl
none_at (suc count) zero = refl
none_at (suc count) (suc x) = none_at count x

-- a table without sources
pub table_none : (moves : List Move) (table : List (Option Operand)) → table ≡ replicate most_registers None → IsTable (drop (length moves) moves) table
table_none moves table is =
    let none : List (Option Operand) = replicate most_registers None in
    subst (IsTable (drop (length moves) moves)) (sym is) (rw (drop_all (length moves) moves (omega arith)) (record {
      are = record { as_many = length-replicate most_registers (let none : Option Operand = None in none); named = λ at register e. let there = none_at most_registers at in absurd (cc) };
      each = λ x. none_at most_registers x;
      left = none_left none (λ x. none_at most_registers x);
    }))

below_of : (from : Operand) (register : ℕ) → IsBelow from → from ≡ Name register → register < most_registers
below_of from register below e = subst IsBelow e below

-- with one source more
table_more : (move : Move) (moves : List Move) (table : List (Option Operand)) → IsInside move → source_in moves move.dest ≡ None → IsTable moves table
    → IsTable (move ∷ moves) (slice_set table move.dest (Some move.from))
table_more move moves table inside once is =
    let within : move.dest < length table = (let many = is.are.as_many in let below = inside.dest in omega (arith, many, below)) in
    record {
      are = record {
        as_many = set_length table move.dest (Some move.from) ∙ is.are.as_many;
        named = λ at register e. elim (cases_eq move.dest at) [
          | inl same ↦
              let there = subst (λ (r : ℕ). source_at (slice_set table move.dest (Some move.from)) r ≡ Some move.from) same (set_there table move.dest (Some move.from) within) in
              below_of move.from register inside.from (cc)
          | inr apart ↦ is.are.named at register (sym (set_elsewhere table move.dest at (Some move.from) apart) ∙ e)
        ];
      };
      each = λ x. elim (cases_eq move.dest x) [
        | inl same ↦
            subst (λ (r : ℕ). source_at (slice_set table move.dest (Some move.from)) r ≡ source_in (move ∷ moves) r) same
            (set_there table move.dest (Some move.from) within ∙ sym (head_written move moves))
        | inr apart ↦ set_elsewhere table move.dest x (Some move.from) apart ∙ is.each x ∙ sym (tail_written move moves x apart)
      ];
      left = let more = left_more table move.dest move.from within (is.each move.dest ∙ once) in let so_far = is.left in omega (arith, more, so_far);
    }

inside_drop : (at : ℕ) (moves : List Move) → AllByRecursion IsInside moves → AllByRecursion IsInside (drop at moves)
inside_drop zero moves all = all
inside_drop (suc at) [] all = tt
inside_drop (suc at) (move ∷ moves) all = inside_drop at moves all.1

once_drop : (at : ℕ) (moves : List Move) → WritesOnce moves → WritesOnce (drop at moves)
once_drop zero moves once = once
once_drop (suc at) [] once = tt
once_drop (suc at) (move ∷ moves) once = once_drop at moves once.1

-- the source of the move before those that are in the table is put there
pub table_next : (moves : List Move) (at : ℕ) (default : Move) (table : List (Option Operand)) → 0 < at → at ≤ length moves → AllByRecursion IsInside moves → WritesOnce moves
    → IsTable (drop at moves) table → IsTable (drop (at - 1) moves) (slice_set table (get_or moves (at - 1) default).dest (Some (get_or moves (at - 1) default).from))
table_next moves at default table some within all once is =
    let whole : at - 1 + 1 ≡ at = omega (arith, some) in
    let split : drop (at - 1) moves ≡ get_or moves (at - 1) default ∷ drop at moves =
    drop_more moves (at - 1) default (omega (arith, some, within)) ∙ ap (λ (n : ℕ). get_or moves (at - 1) default ∷ drop n moves) whole in
    let inside = subst (AllByRecursion IsInside) split (inside_drop (at - 1) moves all) in
    let apart = subst WritesOnce split (once_drop (at - 1) moves once) in
    subst (λ (l : List Move). IsTable l (slice_set table (get_or moves (at - 1) default).dest (Some (get_or moves (at - 1) default).from))) (sym split)
    (table_more (get_or moves (at - 1) default) (drop at moves) table inside.0 apart.0 is)
