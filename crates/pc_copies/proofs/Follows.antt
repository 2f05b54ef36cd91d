-- Moves that are followed from one register to the next.
use Rattle.std.proofs.Common.{◌≡◌, ◌≢◌, inl, inr, ℕ, zero, suc, ◌+◌, ◌<◌, cond, List, [], ◌∷◌, ◌++◌, length, Option, Some, None, refl, sym, ◌∙◌, ap, subst, arith}
use Rattle.std.specs.Prelude.{ℤ, slice_set}
use Rattle.std.proofs.lemmas.Bool.{cases_eq}
use Rattle.pc_word.specs.declared.item.Operand.{Operand}
use Rattle.pc_word.specs.declared.item.Operand.TheVariants.{Name, Lit}
use Rattle.pc_machine.specs.Registers.{most_registers}
use Rattle.pc_word.proofs.Lists.{count_more, set_length}
use Rattle.pc_copies.specs.declared.moves.Move.{Move}
use Rattle.pc_copies.specs.Moves.{Leads_to}
use Rattle.pc_copies.specs.models.Sources.{source_in, first_of}
use Rattle.pc_copies.specs.models.Packing.{WritesOnce}
use Rattle.pc_copies.specs.models.Following.{source_at, is_there, sources_left, AreSources, IsTaken, AreTaken, Followed, Following}
use Rattle.pc_copies.proofs.Rows.{source_both}
use Rattle.pc_copies.proofs.Singles.{one_unwritten, head_written, unwritten}

-- ---- tables

pub set_there : (table : List (Option Operand)) (at : ℕ) (source : Option Operand) → at < length table → source_at (slice_set table at source) at ≡ source
set_there [] at source within = absurd (omega arith)
set_there (other ∷ table) zero source within = refl
set_there (other ∷ table) (suc at) source within = set_there table at source (omega arith)

pub set_elsewhere : (table : List (Option Operand)) (at x : ℕ) (source : Option Operand) → at ≢ x → source_at (slice_set table at source) x ≡ source_at table x
set_elsewhere [] at x source apart = refl
set_elsewhere (other ∷ table) zero zero source apart = absurd (apart refl)
set_elsewhere (other ∷ table) zero (suc x) source apart = refl
set_elsewhere (other ∷ table) (suc at) zero source apart = refl
set_elsewhere (other ∷ table) (suc at) (suc x) source apart = set_elsewhere table at x source (λ e. apart (ap suc e))

-- one that is taken out is one less
pub one_less : (table : List (Option Operand)) (at : ℕ) (from : Operand) → source_at table at ≡ Some from → sources_left (slice_set table at None) + 1 ≡ sources_left table
one_less [] at from there = absurd (cc)
one_less (source ∷ table) zero from there =
    let now = count_more is_there None table in
    let before = count_more is_there source table in
    let one = ap {B = ℕ} (λ o. cond (is_there o) 1 0) there in
    omega (arith, now, before, one)
one_less (source ∷ table) (suc at) from there =
    let now = count_more is_there source (slice_set table at None) in
    let before = count_more is_there source table in
    let less = one_less table at from there in
    omega (arith, now, before, less)

-- one that is put where none was is one more
pub left_more : (table : List (Option Operand)) (at : ℕ) (from : Operand) → at < length table → source_at table at ≡ None
    → sources_left (slice_set table at (Some from)) ≡ sources_left table + 1
left_more [] at from within none = absurd (omega arith)
left_more (source ∷ table) zero from within none =
    let now = count_more is_there (Some from) table in
    let before = count_more is_there source table in
    let zero_is = ap {B = ℕ} (λ o. cond (is_there o) 1 0) none in
    omega (arith, now, before, zero_is)
left_more (source ∷ table) (suc at) from within none =
    let now = count_more is_there source (slice_set table at (Some from)) in
    let before = count_more is_there source table in
    let more = left_more table at from (omega arith) none in
    omega (arith, now, before, more)

-- none is left where no register has one
pub none_left : (table : List (Option Operand)) → ((x : ℕ) → source_at table x ≡ None) → sources_left table ≡ 0
none_left [] none = refl
none_left (source ∷ table) none =
    let count = count_more is_there source table in
    let here = ap {B = ℕ} (λ o. cond (is_there o) 1 0) (none 0) in
    let rest = none_left table (λ x. none (suc x)) in
    omega (arith, count, here, rest)

-- ---- one move more

once_more : (moves : List Move) (move : Move) → WritesOnce moves → source_in moves move.dest ≡ None → WritesOnce (moves ++ move ∷ [])
once_more [] move once none = (refl, tt)
once_more (other ∷ moves) move once none =
    let rest = unwritten other moves move.dest none in (
      source_both moves (move ∷ []) other.dest
          ∙ ap (λ o. first_of o (source_in (move ∷ []) other.dest)) once.0
          ∙ one_unwritten move other.dest (λ e. rest.head (sym e)),
      once_more moves move once.1 rest.tail,
    )

leads_more : (moves : List Move) (move : Move) → Leads_to moves (Name move.dest) → Leads_to (moves ++ move ∷ []) move.from
leads_more [] move leads = refl
leads_more (other ∷ []) move leads = (leads, refl)
leads_more (other ∷ next ∷ moves) move leads = (leads.0, leads_more (next ∷ moves) move leads.1)

none_more : (source : Option Operand) → first_of source None ≡ source
none_more (Some from) = refl
none_more None = refl

module _ (before now : List (Option Operand)) (begin : ℕ) (path : List Move) (at : ℕ) (from : Operand) (so_far : Following before now begin path at)
    (there : source_at now at ≡ Some from) where
  abbrev move : Move
  move = record { dest = at; from = from }

  abbrev later : List (Option Operand)
  later = slice_set now at None

  within : at < length now
  within = let many = so_far.table.as_many in let below = so_far.below in omega (arith, many, below)

  -- its source was there from the first
  was_there : (source_in path at ≡ None) × (source_at before at ≡ Some from)
  was_there = elim (so_far.taken at) [
    | inl left ↦ (left.0, sym left.1 ∙ there)
    | inr taken ↦ let none = taken.1 in absurd (cc)
  ]

  taken_here : IsTaken (source_in (path ++ move ∷ []) at) (source_at before at) (source_at later at)
  taken_here = inr (
    source_both path (move ∷ []) at ∙ ap (λ o. first_of o (source_in (move ∷ []) at)) was_there.0 ∙ head_written move [] ∙ sym was_there.1,
    set_there now at None within,
  )

  taken_elsewhere : (x : ℕ) → at ≢ x → IsTaken (source_in (path ++ move ∷ []) x) (source_at before x) (source_at later x)
  taken_elsewhere x apart =
      let same : source_in (path ++ move ∷ []) x ≡ source_in path x =
      source_both path (move ∷ []) x ∙ ap (λ o. first_of (source_in path x) o) (one_unwritten move x apart) ∙ none_more (source_in path x) in
      let kept = set_elsewhere now at x None apart in
      elim (so_far.taken x) [
        | inl left ↦ inl (same ∙ left.0, kept ∙ left.1)
        | inr taken ↦ inr (same ∙ taken.0, kept ∙ taken.1)
      ]

  pub taken_more : AreTaken (path ++ move ∷ []) before later
  taken_more x = elim (cases_eq at x) [
    | inl same ↦ subst (λ (r : ℕ). IsTaken (source_in (path ++ move ∷ []) r) (source_at before r) (source_at later r)) same taken_here
    | inr apart ↦ taken_elsewhere x apart
  ]

  -- what has no source has none later
  pub stays_none : (x : ℕ) → source_at now x ≡ None → source_at later x ≡ None
  stays_none x none = elim (cases_eq at x) [
    | inl same ↦ subst (λ (r : ℕ). source_at later r ≡ None) same (set_there now at None within)
    | inr apart ↦ set_elsewhere now at x None apart ∙ none
  ]

  named_more : (x register : ℕ) → source_at later x ≡ Some (Name register) → register < most_registers
  named_more x register e = elim (cases_eq at x) [
    | inl same ↦ let none = subst (λ (r : ℕ). source_at later r ≡ None) same (set_there now at None within) in absurd (cc)
    | inr apart ↦ so_far.table.named x register (sym (set_elsewhere now at x None apart) ∙ e)
  ]

  pub table_more : AreSources later
  table_more = record { as_many = set_length now at None ∙ so_far.table.as_many; named = named_more }

  begun_more : source_at later begin ≡ None
  begun_more = elim so_far.begun [
    | inl first ↦ subst (λ (r : ℕ). source_at later r ≡ None) first.1 (set_there now at None within)
    | inr begun ↦ stays_none begin begun
  ]

  -- it reads a register: from there on
  pub follows_on : (register : ℕ) → from ≡ Name register → Following before later begin (path ++ move ∷ []) register
  follows_on register is = record {
    table = table_more;
    below = so_far.table.named at register (there ∙ ap (λ o. Some o) is);
    taken = taken_more;
    once = once_more path move so_far.once was_there.0;
    leads = subst (Leads_to (path ++ move ∷ [])) is (leads_more path move so_far.leads);
    begun = inr begun_more;
  }

  -- it reads a literal: that is the end
  pub follows_to : (value : ℤ) → from ≡ Lit value → Followed before later begin (path ++ move ∷ [])
  follows_to value is = record {
    taken = taken_more;
    once = once_more path move so_far.once was_there.0;
    end = from;
    leads = leads_more path move so_far.leads;
    ends = λ register e. absurd (cc);
    begun = begun_more;
  }

-- where nothing more follows
pub followed : (before now : List (Option Operand)) (begin : ℕ) (path : List Move) (at : ℕ) → Following before now begin path at → source_at now at ≡ None
    → Followed before now begin path
followed before now begin path at so_far none = record {
  taken = so_far.taken;
  once = so_far.once;
  end = Name at;
  leads = so_far.leads;
  ends = λ register e. let same : at ≡ register = (cc) in subst (λ (r : ℕ). source_at now r ≡ None) same none;
  begun = elim so_far.begun [
    | inl first ↦ subst (λ (r : ℕ). source_at now r ≡ None) first.1 none
    | inr begun ↦ begun
  ];
}

-- where nothing was followed yet
pub following : (table : List (Option Operand)) (begin : ℕ) → AreSources table → begin < most_registers → Following table table begin [] begin
following table begin are below = record {
  table = are;
  below = below;
  taken = λ x. inl (refl, refl);
  once = tt;
  leads = tt;
  begun = inl (refl, refl);
}
