-- What comes into the front leaves each name known before it is read, and written once on a path.
use Rattle.std.proofs.Common.{◌≡◌, ℕ, Bool, true, false, List, [], ◌∷◌, Option, Some, None, refl, sym, ◌∙◌, ap, subst, inl, inr}
use Rattle.std.specs.Prelude.{◌||◌, if◌then◌else◌, nat_eq}
use Rattle.std.proofs.lemmas.Bool.{eqb-true, eq-eqb}
use Rattle.pc_word.specs.declared.item.Item.{Item}
use Rattle.pc_word.specs.declared.item.Item.TheVariants.{Bin, Copy, Load, Store, Print, Read, More}
use Rattle.pc_word.specs.declared.item.Operand.{Operand}
use Rattle.pc_word.specs.declared.item.Operand.TheVariants.{Name, Lit}
use Rattle.pc_word.specs.Items.{dest_of, reads}
use Rattle.pc_word.specs.Commit.{writes}
use Rattle.pc_window.specs.declared.home.Home.{Home}
use Rattle.pc_window.specs.Tree.{Tree, Pending, Undecided, Exit, Stop_exit, Trap_exit, Front, whole}
use Rattle.pc_linear.specs.Form.{Form}
use Rattle.pc_window.specs.Names.{IsKnown, ReadsKnown, IsNew, and_dest, HomesKnown, Scoped, Unwritten, NotWritten}
use Rattle.pc_window.specs.Rename.{map_homes, mapped}
use Rattle.pc_window.specs.Jump.{Rises, Root, Past_item, Past_yes, Past_no, DividesTree, Root_test, Past, EntersFront, Lands, Lands_renamed, Lands_test, Lands_once, Behind_item, On_yes, On_no}
use Rattle.pc_window.proofs.Renaming.{WindowKeeps, known-after, keeps_below, mapped-same}
use Rattle.pc_window.proofs.Rising.{SameBut, apart_turned, new_to_both, still_known, still_reads, renamed-keeps}
use Rattle.pc_window.proofs.Entering.{Within, NewTo, new_below, known_within, reads_within, same_as}
use Rattle.pc_word.specs.Naming.{map_operands, renamed, with_dest}
use Rattle.pc_word.proofs.Truth.{or_second, or_first, or_false}

-- ---- mapped trees

-- what was new and is written by the tree stays new
abbrev pub StaysNew : (ℕ → Bool) → (ℕ → Bool) → Tree → Type 0
StaysNew known known' tree = (e : ℕ) → known e ≡ false → (Unwritten e tree → ⊥) → known' e ≡ false

abbrev pub StaysKnown : (Operand → Operand) → (ℕ → Bool) → (ℕ → Bool) → Type 0
StaysKnown f known known' = (o : Operand) → IsKnown known o → IsKnown known' (f o)

dest_mapped : (f : Operand → Operand) (x : Item) → dest_of (map_operands f x) ≡ dest_of x
dest_mapped f (Bin op d l r) = refl
dest_mapped f (Copy d from) = refl
dest_mapped f (Load d a i) = refl
dest_mapped f (Store a i v) = refl
dest_mapped f (Print v) = refl
dest_mapped f (Read d) = refl
dest_mapped f (More d) = refl

reads_mapped : (f : Operand → Operand) (known known' : ℕ → Bool) (x : Item) → StaysKnown f known known' → ReadsKnown known x → ReadsKnown known' (map_operands f x)
reads_mapped f known known' (Bin op d l r) stays h = (stays l h.0, (stays r h.1.0, tt))
reads_mapped f known known' (Copy d from) stays h = (stays from h.0, tt)
reads_mapped f known known' (Load d a i) stays h = (stays i h.0, tt)
reads_mapped f known known' (Store a i v) stays h = (stays i h.0, (stays v h.1.0, tt))
reads_mapped f known known' (Print v) stays h = (stays v h.0, tt)
reads_mapped f known known' (Read d) stays h = tt
reads_mapped f known known' (More d) stays h = tt

homes_mapped : (f : Operand → Operand) (known known' : ℕ → Bool) (homes : List Home) → StaysKnown f known known' → HomesKnown known homes → HomesKnown known' (map_homes f homes)
homes_mapped f known known' [] stays h = tt
homes_mapped f known known' (home ∷ homes) stays h = (stays home.value h.0, homes_mapped f known known' homes stays h.1)

written : (dest : Option ℕ) (e : ℕ) → dest ≡ Some e → writes dest e ≡ true
written (Some d) e is = let same : d ≡ e = cc in eq-eqb d e same
written None e is = absurd (cc)

new_dest : (known : ℕ → Bool) (dest : Option ℕ) (e : ℕ) → IsNew known dest → dest ≡ Some e → known e ≡ false
new_dest known (Some d) e new is = let same : d ≡ e = cc in sym (ap known same) ∙ new
new_dest known None e new is = absurd (cc)

stays_new : (known known' : ℕ → Bool) (t o : ℕ) (x : Item) (rest : Tree) → IsNew known (dest_of x) → StaysNew known known' (Pending t o x rest) → IsNew known' (dest_of x)
stays_new known known' t o x rest new stays = by_dest (dest_of x) refl new
  where
    by_dest : (d : Option ℕ) → dest_of x ≡ d → IsNew known d → IsNew known' d
    by_dest None is new = tt
    by_dest (Some e) is new = stays e new (λ u. absurd (let h : writes (dest_of x) e ≡ true = written (dest_of x) e is in let k : writes (dest_of x) e ≡ false = u.0 in cc))

pub scoped_mapped : (f : Operand → Operand) (tree : Tree) (known known' : ℕ → Bool) → Scoped known tree
    → StaysKnown f known known' → StaysNew known known' tree → WindowKeeps f known tree
    → Scoped known' (mapped f tree)
scoped_mapped f (Pending t o x rest) known known' scoped stays new keeps =
    let y = map_operands f x in
    let dest : dest_of y ≡ dest_of x = dest_mapped f x in
    let below : Scoped (and_dest known' x) (mapped f rest) = scoped_mapped f rest (and_dest known x) (and_dest known' x) scoped.2
    (λ p is. elim (known-after known x p is) as (λ z. IsKnown (and_dest known' x) (f p)) [
      | inl there ↦ still_known known' x (f p) (stays p there.1)
      | inr there ↦ subst (IsKnown (and_dest known' x)) (sym (ap f there.2 ∙ (keeps there.0 (new_dest known (dest_of x) there.0 scoped.1 there.1)
          (λ u. absurd (let h : writes (dest_of x) there.0 ≡ true = written (dest_of x) there.0 there.1 in let k : writes (dest_of x) there.0 ≡ false = u.0 in cc))).0))
          (or_first (writes (dest_of x) there.0) (known' there.0) (written (dest_of x) there.0 there.1))
    ])
    (λ e k w. let h = or_false (writes (dest_of x) e) (known e) k in let n : known' e ≡ false = new e h.1 (λ u. w u.1) in let m : writes (dest_of x) e ≡ false = h.0 in rw (m, n) refl)
    (keeps_below f known t o x rest keeps) in (
      reads_mapped f known known' x stays scoped.0,
      subst (IsNew known') (sym dest) (stays_new known known' t o x rest scoped.1 new),
      subst (λ (d : Option ℕ). Scoped (λ z. writes d z || known' z) (mapped f rest)) (sym dest) below,
    )
scoped_mapped f (Undecided t o on p q) known known' scoped stays new keeps = (
  stays on scoped.0,
  scoped_mapped f p known known' scoped.1 stays (λ e k w. new e k (λ u. w u.0)) (λ e k w. keeps e k (λ u. w u.0)),
  scoped_mapped f q known known' scoped.2 stays (λ e k w. new e k (λ u. w u.1)) (λ e k w. keeps e k (λ u. w u.1)),
)
scoped_mapped f (Exit region tag homes) known known' scoped stays new keeps = homes_mapped f known known' homes stays scoped
scoped_mapped f Stop_exit known known' scoped stays new keeps = tt
scoped_mapped f (Trap_exit kind line) known known' scoped stays new keeps = tt

-- a name that the tree does not write may be known
not_written_new : (known : ℕ → Bool) (x : Item) (tree : Tree) → NotWritten (dest_of x) tree → StaysNew known (and_dest known x) tree
not_written_new known x tree unwritten e new w = rw (not_this (dest_of x) unwritten, new) refl
  where
    not_this : (d : Option ℕ) → NotWritten d tree → writes d e ≡ false
    not_this None u = refl
    not_this (Some n) u = elim (nat_eq n e) as (λ b. nat_eq n e ≡ b → b ≡ false) [
      | false ↦ λ k. refl
      | true ↦ λ k. absurd (w (subst (λ (m : ℕ). Unwritten m tree) (eqb-true n e k) u))
    ] refl

pub scoped_more : (known : ℕ → Bool) (x : Item) (tree : Tree) → NotWritten (dest_of x) tree → Scoped known tree → Scoped (and_dest known x) tree
scoped_more known x tree unwritten scoped =
    subst (Scoped (and_dest known x)) (mapped-same tree)
    (scoped_mapped (λ o. o) tree known (and_dest known x) scoped (still_known known x) (not_written_new known x tree unwritten) (λ e k w. (refl, λ o p. p)))

-- ---- what rises

pub or_exchange : (a b c : Bool) → (a || (b || c)) ≡ (b || (a || c))
or_exchange true true c = refl
or_exchange true false c = refl
or_exchange false true c = refl
or_exchange false false c = refl

-- the renamed uses are known
renamed_known : (known : ℕ → Bool) (stood x : Item) → SameBut stood x → StaysKnown (renamed (dest_of stood) (dest_of x)) (and_dest known stood) (and_dest known x)
renamed_known known stood x same = subst (λ (y : Item). StaysKnown (renamed (dest_of stood) (dest_of y)) (and_dest known stood) (and_dest known y)) (sym same.is) (by_item stood)
  where
    one : (d : ℕ) (o : Operand) → IsKnown (λ z. nat_eq d z || known z) o → IsKnown (λ z. nat_eq same.name z || known z) (renamed (Some d) (Some same.name) o)
    one d (Lit value) is = tt
    one d (Name z) is = elim (nat_eq d z) as (λ b. (b || known z) ≡ true → (nat_eq same.name (if b then same.name else z) || known (if b then same.name else z)) ≡ true) [
      | true ↦ λ k. or_first (nat_eq same.name same.name) (known same.name) (eq-eqb same.name same.name refl)
      | false ↦ λ k. or_second (nat_eq same.name z) (known z) k
    ] is
      where
        or_second : (a b : Bool) → b ≡ true → (a || b) ≡ true
        or_second true b e = refl
        or_second false b e = e

    by_item : (stood : Item) → StaysKnown (renamed (dest_of stood) (dest_of (with_dest same.name stood))) (and_dest known stood) (and_dest known (with_dest same.name stood))
    by_item (Bin op d l r) = one d
    by_item (Copy d from) = one d
    by_item (Load d a i) = one d
    by_item (Store a i v) = λ o is. is
    by_item (Print v) = λ o is. is
    by_item (Read d) = one d
    by_item (More d) = one d

pub scoped_risen : (forms : ℕ → Form) (tag origin : ℕ) (stood x : Item) (crosses : Bool) (from left : Tree) (known : ℕ → Bool)
    → Rises forms tag origin stood x crosses from left → SameBut stood x → Scoped known from → IsNew known (dest_of x) → Scoped (and_dest known x) left
scoped_risen forms tag origin stood x crosses from left known (Root rest unwritten) same scoped new =
    scoped_mapped (renamed (dest_of stood) (dest_of x)) rest (and_dest known stood) (and_dest known x) scoped.2 (renamed_known known stood x same)
    (λ e k w. let h = or_false (writes (dest_of stood) e) (known e) k in not_written_new known x rest unwritten e h.1 w) (renamed-keeps known stood x rest unwritten)
scoped_risen forms tag origin stood x crosses from left known (Past_item t o y c rest left' clear apart rises) same scoped new = (
  still_reads known x y scoped.0,
  new_to_both known x (dest_of y) scoped.1 (apart_turned (dest_of y) (dest_of x) apart),
  subst (λ (k : ℕ → Bool). Scoped k left') (λ i z. or_exchange (writes (dest_of x) z) (writes (dest_of y) z) (known z) i)
      (scoped_risen forms tag origin stood x c rest left' (and_dest known y) rises same scoped.2 (new_to_both known y (dest_of x) new apart)),
)
scoped_risen forms tag origin stood x crosses from left known (Past_yes t o on c p q left' is unwritten rises) same scoped new =
    (still_known known x on scoped.0, scoped_risen forms tag origin stood x c p left' known rises same scoped.1 new, scoped_more known x q unwritten scoped.2)
scoped_risen forms tag origin stood x crosses from left known (Past_no t o on c p q left' is unwritten rises) same scoped new =
    (still_known known x on scoped.0, scoped_more known x p unwritten scoped.1, scoped_risen forms tag origin stood x c q left' known rises same scoped.2 new)

scoped_divided : (tag origin : ℕ) (on : Operand) (from p q : Tree) (known : ℕ → Bool) → DividesTree tag origin on from p q → Scoped known from → Scoped known p × Scoped known q
scoped_divided tag origin on from p q known (Root_test p' q') scoped = (scoped.1, scoped.2)
scoped_divided tag origin on from p q known (Past t o y rest p' q' divides) scoped =
    let h = scoped_divided tag origin on rest p' q' (and_dest known y) divides scoped.2 in
    ((scoped.0, scoped.1, h.0), (scoped.0, scoped.1, h.1))

-- ---- the front

pub scoped_entered : (base : ℕ → Bool) (forms forms' : ℕ → Form) (new : Option ℕ) (known : ℕ → Bool) (comes : Option Item) (from to : Front)
    → EntersFront base forms forms' new comes from to → Within base known → NewTo known comes → Scoped known (whole from) → Scoped known (whole to)
scoped_entered base forms forms' new known comes from to (Lands tag origin x t left reads isnew none same rises) within isnew' scoped =
    (reads_within base known within x reads, isnew', scoped_risen forms tag origin x x false t left known rises (same_as x) scoped isnew')
scoped_entered base forms forms' new known comes from to (Lands_renamed tag origin name stood t left reads isnew is gives rises) within isnew' scoped = (
  reads_within base known within (with_dest name stood) reads,
  isnew',
  scoped_risen forms tag origin stood (with_dest name stood) true t left known rises (record { name = name; is = refl }) scoped isnew',
)
scoped_entered base forms forms' new known comes from to (Lands_test tag origin on t p q reads none same divides) within isnew' scoped =
    let h = scoped_divided tag origin on t p q known divides scoped in (known_within base known within on reads, h.0, h.1)
scoped_entered base forms forms' new known comes from to (Lands_once t o on tag origin tag' origin' name stood other c c' p q l m equal reads isnew is gives rises rises') within isnew' scoped =
    let x = with_dest name stood in (
      reads_within base known within x reads,
      isnew',
      (
        still_known known x on scoped.0,
        scoped_risen forms tag origin stood x c p l known rises (record { name = name; is = refl }) scoped.1 isnew',
        scoped_risen forms tag' origin' other x c' q m known rises' (record { name = name; is = sym equal }) scoped.2 isnew',
      ),
    )
scoped_entered base forms forms' new known comes from to (Behind_item t o y c rest rest' may apart enters) within isnew' scoped = (
  scoped.0,
  scoped.1,
  scoped_entered base forms forms' new (and_dest known y) c rest rest' enters (λ z is. or_second (writes (dest_of y) z) (known z) (within z is))
      (new_below forms known y c may isnew') scoped.2,
)
scoped_entered base forms forms' new known comes from to (On_yes t o on c p q p' apart enters) within isnew' scoped =
    (scoped.0, scoped_entered base forms forms' new known c p p' enters within isnew' scoped.1, scoped.2)
scoped_entered base forms forms' new known comes from to (On_no t o on c p q q' apart enters) within isnew' scoped =
    (scoped.0, scoped.1, scoped_entered base forms forms' new known c q q' enters within isnew' scoped.2)

-- what comes into the front writes a name that is not known before the window
pub enters_new : (base : ℕ → Bool) (forms forms' : ℕ → Form) (new : Option ℕ) (comes : Option Item) (from to : Front)
    → EntersFront base forms forms' new comes from to → NewTo base comes × IsNew base new
enters_new base forms forms' new comes from to (Lands tag origin x t left reads isnew none same rises) = (isnew, subst (IsNew base) (sym none) tt)
enters_new base forms forms' new comes from to (Lands_renamed tag origin name stood t left reads isnew is gives rises) = (isnew, subst (IsNew base) (sym is) isnew)
enters_new base forms forms' new comes from to (Lands_test tag origin on t p q reads none same divides) = (tt, subst (IsNew base) (sym none) tt)
enters_new base forms forms' new comes from to (Lands_once t o on tag origin tag' origin' name stood other c c' p q l m equal reads isnew is gives rises rises') =
    (isnew, subst (IsNew base) (sym is) isnew)
enters_new base forms forms' new comes from to (Behind_item t o y c rest rest' may apart enters) = enters_new base forms forms' new c rest rest' enters
enters_new base forms forms' new comes from to (On_yes t o on c p q p' apart enters) = enters_new base forms forms' new c p p' enters
enters_new base forms forms' new comes from to (On_no t o on c p q q' apart enters) = enters_new base forms forms' new c q q' enters
