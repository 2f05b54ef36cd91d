-- what rows of copies do, with copies more.
use Rattle.std.proofs.Common.{◌≡◌, ◌≢◌, ◌⊎◌, inl, inr, ℕ, ◌<◌, Bool, true, false, List, []}
use Rattle.std.proofs.Common.{◌∷◌, ◌++◌, length, Option, Some, None, refl, sym, ◌∙◌, ap, subst, arith, length-append}
use Rattle.std.specs.Prelude.{ℤ, if◌then◌else◌, nat_eq}
use Rattle.std.specs.List.{AllByRecursion}
use Rattle.pc_word.proofs.Lists.{all_both}
use Rattle.pc_word.specs.declared.item.Operand.{Operand}
use Rattle.pc_word.specs.declared.item.Operand.TheVariants.{Name, Lit}
use Rattle.pc_copies.specs.declared.moves.Move.{Move}
use Rattle.pc_copies.specs.Moves.{IsReadable, IsCopy}
use Rattle.pc_copies.specs.models.Sources.{taken, moved, source_in, first_of, over, IsRead, Unread, IsWritten, Apart, back, Do}
use Rattle.pc_copies.specs.models.Packing.{Puts, Fills, Fits, WritesOnce, IsFull, RowsFit, AreNamed, Adds}
use Rattle.pc_copies.proofs.Singles.{head_written, tail_written, tail_is_written}

-- ---- sources

-- what is moved once what is read was moved before, where none of it is written
taken_both : (other : ℕ → Option Operand) (names : ℕ → ℤ) (x : ℕ) (source : Option Operand) → ((register : ℕ) → source ≡ Some (Name register) → other register ≡ None)
    → taken source (moved other names) x ≡ taken (first_of source (other x)) names x
taken_both other names x None apart = refl
taken_both other names x (Some (Lit value)) apart = refl
taken_both other names x (Some (Name register)) apart = ap (λ o. taken o names register) (apart register refl)

pub moved_both : (one other : ℕ → Option Operand) (names : ℕ → ℤ) (x : ℕ) → Unread one other → moved one (moved other names) x ≡ moved (over one other) names x
moved_both one other names x apart = taken_both other names x (one x) (λ register e. apart.unread register (record { by = x; reads = e }))

over_cons : (b : Bool) (from : Operand) (one other : Option Operand) → (if b then Some from else first_of one other) ≡ first_of (if b then Some from else one) other
over_cons true from one other = refl
over_cons false from one other = refl

-- the sources of moves after others
pub source_both : (moves more : List Move) (x : ℕ) → source_in (moves ++ more) x ≡ over (source_in moves) (source_in more) x
source_both [] more x = refl
source_both (move ∷ moves) more x =
    ap (λ o. if nat_eq move.dest x then Some move.from else o) (source_both moves more x) ∙ over_cons (nat_eq move.dest x) move.from (source_in moves x) (source_in more x)

-- a row with copies more does first what they do
pub row_more : (row more : List Move) (names : ℕ → ℤ) → Unread (source_in row) (source_in more)
    → moved (source_in (row ++ more)) names ≡ moved (source_in row) (moved (source_in more) names)
row_more row more names apart = λ i x. (ap (λ o. taken o names x) (source_both row more x) ∙ sym (moved_both (source_in row) (source_in more) names x apart)) i

-- a row more runs before the others
pub back_more : (rows : List (List Move)) (row : List Move) (names : ℕ → ℤ) → back (rows ++ row ∷ []) names ≡ back rows (moved (source_in row) names)
back_more [] row names = refl
back_more (other ∷ rows) row names = ap (λ (n : ℕ → ℤ). moved (source_in other) n) (back_more rows row names)

-- ---- what rows do

pub do_same : (scratch : ℕ) (rows : List (List Move)) (first : List Move) (one other : ℕ → Option Operand) → ((x : ℕ) → x ≢ scratch → one x ≡ other x)
    → Do scratch rows first one → Do scratch rows first other
do_same scratch rows first one other same done = record { same = λ names x apart. done.same names x apart ∙ ap (λ o. taken o names x) (same x apart) }

-- the first row does more
pub do_more : (scratch : ℕ) (rows : List (List Move)) (first more : List Move) (placed : ℕ → Option Operand) → Do scratch rows first placed → Unread placed (source_in more)
    → Unread (source_in first) (source_in more) → Do scratch rows (first ++ more) (over placed (source_in more))
do_more scratch rows first more placed done apart unread = record {
  same = λ names x other.
      ap (λ (n : ℕ → ℤ). back rows n x) (row_more first more names unread)
      ∙ done.same (moved (source_in more) names) x other
      ∙ moved_both placed (source_in more) names x apart;
}

-- it stands after the other rows
pub do_next : (scratch : ℕ) (rows : List (List Move)) (first : List Move) (placed : ℕ → Option Operand) → Do scratch rows first placed → Do scratch (rows ++ first ∷ []) [] placed
do_next scratch rows first placed done = record { same = λ names x other. ap (λ (n : ℕ → ℤ). n x) (back_more rows first names) ∙ done.same names x other }

-- ---- what is put

-- the first row with the copies, wherever it stands then
pub put_done : (scratch ops : ℕ) (group : List Move) (rows : List (List Move)) (first : List Move) (later : List (List Move)) (now : List Move) → Puts ops group rows first later now
    → (sources : ℕ → Option Operand) → Do scratch rows (first ++ group) sources → Do scratch later now sources
put_done scratch ops group rows first later now (Fills full is now_is) sources done = rw is (rw now_is (do_next scratch rows (first ++ group) sources done))
put_done scratch ops group rows first later now (Fits room is now_is) sources done = rw is (rw now_is done)

pub put_does : (scratch ops : ℕ) (group : List Move) (rows : List (List Move)) (first : List Move) (later : List (List Move)) (now : List Move) → Puts ops group rows first later now
    → (placed : ℕ → Option Operand) → Do scratch rows first placed → Unread placed (source_in group) → Unread (source_in first) (source_in group)
    → Do scratch later now (over placed (source_in group))
put_does scratch ops group rows first later now puts placed done apart unread =
    put_done scratch ops group rows first later now puts (over placed (source_in group)) (do_more scratch rows first group placed done apart unread)

read_both : (row more : List Move) (register : ℕ) (by : ℕ) (one other : Option Operand) → source_in row by ≡ one → source_in more by ≡ other → first_of one other ≡ Some (Name register)
    → IsRead (source_in row) register ⊎ IsRead (source_in more) register
read_both row more register by (Some from) other e f is = inl (record { by = by; reads = e ∙ is })
read_both row more register by None other e f is = inr (record { by = by; reads = f ∙ is })

pub reads_both : (row more : List Move) (register : ℕ) → IsRead (source_in (row ++ more)) register → IsRead (source_in row) register ⊎ IsRead (source_in more) register
reads_both row more register h = read_both row more register h.by (source_in row h.by) (source_in more h.by) refl refl (sym (source_both row more h.by) ∙ h.reads)

none_read : (register : ℕ) → IsRead (source_in []) register → ⊥
none_read register h = let e = h.reads in cc

pub put_reads : (ops : ℕ) (group : List Move) (rows : List (List Move)) (first : List Move) (later : List (List Move)) (now : List Move) → Puts ops group rows first later now
    → (register : ℕ) → IsRead (source_in now) register → IsRead (source_in first) register ⊎ IsRead (source_in group) register
put_reads ops group rows first later now (Fills full is now_is) register h = absurd (none_read register (subst (λ (l : List Move). IsRead (source_in l) register) now_is h))
put_reads ops group rows first later now (Fits room is now_is) register h = reads_both first group register (subst (λ (l : List Move). IsRead (source_in l) register) now_is h)

-- ---- what is written

written_both : (row more : List Move) (register : ℕ) (one other : Option Operand) → source_in row register ≡ one → source_in more register ≡ other
    → IsWritten (λ (x : ℕ). first_of one other) register → IsWritten (source_in row) register ⊎ IsWritten (source_in more) register
written_both row more register (Some from) other e f h = inl (record { from = from; writes = e })
written_both row more register None (Some from) e f h = inr (record { from = from; writes = f })
written_both row more register None None e f h = let is = h.writes in absurd (cc)

pub writes_both : (row more : List Move) (register : ℕ) → IsWritten (source_in (row ++ more)) register → IsWritten (source_in row) register ⊎ IsWritten (source_in more) register
writes_both row more register h =
    written_both row more register (source_in row register) (source_in more register) refl refl (record { from = h.from; writes = sym (source_both row more register) ∙ h.writes })

-- lists that write nothing twice and nothing both
pub once_join : (moves more : List Move) → WritesOnce moves → WritesOnce more → Apart (source_in moves) (source_in more) → WritesOnce (moves ++ more)
once_join [] more once others apart = others
once_join (move ∷ moves) more once others apart = (
  source_both moves more move.dest
      ∙ ap (λ o. first_of o (source_in more move.dest)) once.0
      ∙ apart.apart move.dest (record { from = move.from; writes = head_written move moves }),
  once_join moves more once.1 others (record { apart = λ register h. apart.apart register (tail_is_written move moves register once.0 h) }),
)

pub put_writes : (ops : ℕ) (group : List Move) (rows : List (List Move)) (first : List Move) (later : List (List Move)) (now : List Move) → Puts ops group rows first later now
    → (register : ℕ) → IsWritten (source_in now) register → IsWritten (source_in first) register ⊎ IsWritten (source_in group) register
put_writes ops group rows first later now (Fills full is now_is) register h =
    let none = subst (λ (l : List Move). IsWritten (source_in l) register) now_is h in let e = none.writes in absurd (cc)
put_writes ops group rows first later now (Fits room is now_is) register h = writes_both first group register (subst (λ (l : List Move). IsWritten (source_in l) register) now_is h)

-- moves that name such registers alone are such copies
readable : (named : ℕ → Bool) (scratch : ℕ) (from : Operand) → ((register : ℕ) → from ≡ Name register → named register ≡ true) → IsReadable named scratch from
readable named scratch (Name register) h = inl (h register refl)
readable named scratch (Lit value) h = tt

pub head_copy : (named : ℕ → Bool) (scratch : ℕ) (move : Move) (moves : List Move) → AreNamed named (source_in (move ∷ moves)) → IsCopy named scratch move
head_copy named scratch move moves are = record {
  dest = inl (are.dests move.dest move.from (head_written move moves));
  from = readable named scratch move.from (λ register e. are.reads move.dest register (head_written move moves ∙ ap (λ (o : Operand). Some o) e));
}

pub tail_named : (named : ℕ → Bool) (move : Move) (moves : List Move) → source_in moves move.dest ≡ None → AreNamed named (source_in (move ∷ moves))
    → AreNamed named (source_in moves)
tail_named named move moves once are = record {
  dests = λ register from e. are.dests register from (there register from e);
  reads = λ register read e. are.reads register read (there register (Name read) e);
}
  where
    there : (register : ℕ) (from : Operand) → source_in moves register ≡ Some from → source_in (move ∷ moves) register ≡ Some from
    there register from e = tail_written move moves register (λ same. let none = sym (ap (source_in moves) same) ∙ once in absurd (cc)) ∙ e

pub named_copies : (named : ℕ → Bool) (scratch : ℕ) (moves : List Move) → WritesOnce moves → AreNamed named (source_in moves) → AllByRecursion (IsCopy named scratch) moves
named_copies named scratch [] once are = tt
named_copies named scratch (move ∷ moves) once are =
    (head_copy named scratch move moves are, named_copies named scratch moves once.1 (tail_named named move moves once.0 are))

pub put_fits : (named : ℕ → Bool) (ops scratch : ℕ) (group : List Move) (rows : List (List Move)) (first : List Move) (later : List (List Move)) (now : List Move)
    → Puts ops group rows first later now
    → AllByRecursion (IsCopy named scratch) group → WritesOnce group → Apart (source_in first) (source_in group) → RowsFit named ops scratch rows first
    → RowsFit named ops scratch later now
put_fits named ops scratch group rows first later now (Fills full is now_is) copies once apart fit =
    let row : IsFull named ops scratch (first ++ group) = record {
      many = length-append first group ∙ full;
      copies = all_both (IsCopy named scratch) first group fit.copies copies;
      once = once_join first group fit.once once apart;
    } in
    record {
      full = subst (AllByRecursion (IsFull named ops scratch)) (sym is) (all_both (IsFull named ops scratch) rows ((first ++ group) ∷ []) fit.full (row, tt));
      copies = subst (AllByRecursion (IsCopy named scratch)) (sym now_is) tt;
      once = subst WritesOnce (sym now_is) tt;
    }
put_fits named ops scratch group rows first later now (Fits room is now_is) copies once apart fit = record {
  full = subst (AllByRecursion (IsFull named ops scratch)) (sym is) fit.full;
  copies = subst (AllByRecursion (IsCopy named scratch)) (sym now_is) (all_both (IsCopy named scratch) first group fit.copies copies);
  once = subst WritesOnce (sym now_is) (once_join first group fit.once once apart);
}

-- what is put is added
pub put_adds : (scratch ops : ℕ) (group : List Move) (rows : List (List Move)) (first : List Move) (later : List (List Move)) (now : List Move) → Puts ops group rows first later now
    → WritesOnce group → Adds ops scratch (source_in group) rows first later now
put_adds scratch ops group rows first later now puts once = record {
  does = put_does scratch ops group rows first later now puts;
  reads = put_reads ops group rows first later now puts;
  fits = λ named are. put_fits named ops scratch group rows first later now puts (named_copies named scratch group once are) once;
  writes = put_writes ops group rows first later now puts;
}

-- the first row has room still
pub put_open : (ops : ℕ) (group : List Move) (rows : List (List Move)) (first : List Move) (later : List (List Move)) (now : List Move) → Puts ops group rows first later now
    → length first < ops → length now < ops
put_open ops group rows first later now (Fills full is now_is) room = let none = ap length now_is in omega (arith, none, room)
put_open ops group rows first later now (Fits some is now_is) room = let long = ap length now_is in omega (arith, long, some, length-append first group)
