-- What comes into a front reads parameters of the front, so no other names need be known.
use Rattle.std.specs.Prelude.{◌≡◌, ℕ, Bool, true, false, not, ◌&&◌, ◌||◌, Option, Some, None}
use Rattle.std.proofs.Common.{refl, sym, ◌∙◌, ap, inl, inr}
use Rattle.std.proofs.lemmas.Bool.{eqb-true}
use Rattle.pc_word.specs.declared.item.Item.{Item}
use Rattle.pc_word.specs.declared.item.Item.TheVariants.{Bin, Copy, Load, Store, Print, Read, More}
use Rattle.pc_word.specs.declared.item.Operand.{Operand}
use Rattle.pc_word.specs.declared.item.Operand.TheVariants.{Name, Lit}
use Rattle.pc_word.specs.Items.{dest_of, reads, reads_name}
use Rattle.pc_word.specs.Commit.{writes}
use Rattle.pc_word.specs.Naming.{with_dest}
use Rattle.pc_word.proofs.Truth.{or_first, or_second, or_true}
use Rattle.pc_linear.specs.Form.{Form}
use Rattle.pc_table.proofs.Tests.{needed_above}
use Rattle.pc_window.specs.Tree.{Tree, Pending, Front, whole}
use Rattle.pc_window.specs.Names.{IsKnown, ReadsKnown, IsNew, and_dest, Scoped, uses}
use Rattle.pc_window.specs.Jump.{Rises, Root, Past_item, Past_yes, Past_no, DividesTree, Root_test, Past, EntersFront, Lands, Lands_renamed, Lands_test, Lands_once, Behind_item, On_yes, On_no}
use Rattle.pc_window.specs.Filled.{TwinsAlike}
use Rattle.pc_window.proofs.Undisturbed.{new-known}
use Rattle.pc_window.proofs.Parameters.{Fewer, known_read, known_reads}

-- ---- what is read is known

read_known : (known : ℕ → Bool) (o : Operand) (z : ℕ) → reads_name o z ≡ true → IsKnown known o → known z ≡ true
read_known known (Name x) z e is = sym (ap known (eqb-true x z e)) ∙ is
read_known known (Lit value) z e is = absurd (cc)

two_known : (known : ℕ → Bool) (l r : Operand) (z : ℕ) → (reads_name l z || reads_name r z) ≡ true → IsKnown known l → IsKnown known r → known z ≡ true
two_known known l r z e p q = elim (or_true (reads_name l z) (reads_name r z) e) [ inl h ↦ read_known known l z h p | inr h ↦ read_known known r z h q ]

item_known : (known : ℕ → Bool) (x : Item) (z : ℕ) → reads x z ≡ true → ReadsKnown known x → known z ≡ true
item_known known (Bin op d l r) z e h = two_known known l r z e h.0 h.1.0
item_known known (Copy d from) z e h = read_known known from z e h.0
item_known known (Load d a i) z e h = read_known known i z e h.0
item_known known (Store a i v) z e h = two_known known i v z e h.0 h.1.0
item_known known (Print v) z e h = read_known known v z e h.0
item_known known (Read d) z e h = absurd (cc)
item_known known (More d) z e h = absurd (cc)

-- an item reads the same whatever name it writes
reads_same : (name : ℕ) (x : Item) (z : ℕ) → reads (with_dest name x) z ≡ true → reads x z ≡ true
reads_same name (Bin op d l r) z e = e
reads_same name (Copy d from) z e = e
reads_same name (Load d a i) z e = e
reads_same name (Store a i v) z e = e
reads_same name (Print v) z e = e
reads_same name (Read d) z e = e
reads_same name (More d) z e = e

new_fewer : (known' known : ℕ → Bool) → Fewer known' known → (d : Option ℕ) → IsNew known d → IsNew known' d
new_fewer known' known fewer None h = tt
new_fewer known' known fewer (Some d) h = by_test (known' d) refl
  where
    by_test : (b : Bool) → known' d ≡ b → b ≡ false
    by_test false e = refl
    by_test true e = absurd (let k : known d ≡ true = fewer d e in cc)

-- ---- parameters

-- below an item, a name that is known above it and used is a parameter above it too
used_above : (scope : ℕ → Bool) (y : Item) (rest : Tree) (tag origin z : ℕ) → IsNew scope (dest_of y) → scope z ≡ true → uses rest z ≡ true
    → uses (Pending tag origin y rest) z ≡ true
used_above scope y rest tag origin z isnew k u = needed_above (reads y z) (writes (dest_of y) z) (uses rest z) (new-known scope (dest_of y) z isnew k) u

module _ (forms : ℕ → Form) where
  -- what an item reads that rises, or a test that divides a tree, of the names that are known above the tree
  rises_uses : (tag origin : ℕ) (stood x : Item) (scope : ℕ → Bool) (crosses : Bool) (from left : Tree) → Rises forms tag origin stood x crosses from left
      → Scoped scope from → (z : ℕ) → scope z ≡ true → reads stood z ≡ true → uses from z ≡ true
  rises_uses tag origin stood x scope crosses from left (Root rest unwritten) h z k e = or_first (reads stood z) (not (writes (dest_of stood) z) && uses rest z) e
  rises_uses tag origin stood x scope crosses from left (Past_item t o y c rest rest' clear apart rises) h z k e =
      used_above scope y rest t o z h.1 k (rises_uses tag origin stood x (and_dest scope y) c rest rest' rises h.2 z (or_second (writes (dest_of y) z) (scope z) k) e)
  rises_uses tag origin stood x scope crosses from left (Past_yes t o on c p q p' is unwritten rises) h z k e =
      or_second (reads_name on z) (uses p z || uses q z) (or_first (uses p z) (uses q z) (rises_uses tag origin stood x scope c p p' rises h.1 z k e))
  rises_uses tag origin stood x scope crosses from left (Past_no t o on c p q q' is unwritten rises) h z k e =
      or_second (reads_name on z) (uses p z || uses q z) (or_second (uses p z) (uses q z) (rises_uses tag origin stood x scope c q q' rises h.2 z k e))

  divides_uses : (tag origin : ℕ) (on : Operand) (scope : ℕ → Bool) (from p q : Tree) → DividesTree tag origin on from p q
      → Scoped scope from → (z : ℕ) → scope z ≡ true → reads_name on z ≡ true → uses from z ≡ true
  divides_uses tag origin on scope from p q (Root_test one other) h z k e = or_first (reads_name on z) (uses one z || uses other z) e
  divides_uses tag origin on scope from p q (Past t o y rest p' q' divides) h z k e =
      used_above scope y rest t o z h.1 k (divides_uses tag origin on (and_dest scope y) rest p' q' divides h.2 z (or_second (writes (dest_of y) z) (scope z) k) e)

  -- ---- what comes into a front

  pub narrowed : (base base' : ℕ → Bool) (forms' : ℕ → Form) (new : Option ℕ) (scope : ℕ → Bool) (comes : Option Item) (from to : Front) → Fewer base scope → Fewer base' base
      → ((z : ℕ) → base z ≡ true → uses (whole from) z ≡ true → base' z ≡ true) → Scoped scope (whole from) → (enters : EntersFront base forms forms' new comes from to)
      → (other : EntersFront base' forms forms' new comes from to) × (TwinsAlike enters → TwinsAlike other)
  narrowed base base' forms' new scope comes from to within fewer enough scoped (Lands tag origin x t left read isnew none same rises) = (
    Lands tag origin x t left
        (known_reads base' x (λ z e. let b = item_known base x z e read in enough z b (rises_uses tag origin x x scope false t left rises scoped z (within z b) e)))
        (new_fewer base' base fewer (dest_of x) isnew) none same rises,
    λ h. h,
  )
  narrowed base base' forms' new scope comes from to within fewer enough scoped (Lands_renamed tag origin name stood t left read isnew is gives rises) = (
    let x = with_dest name stood in
        Lands_renamed tag origin name stood t left
        (known_reads base' x (λ z e.
        let b = item_known base x z e read in enough z b (rises_uses tag origin stood x scope true t left rises scoped z (within z b) (reads_same name stood z e))))
        (new_fewer base' base fewer (dest_of x) isnew) is gives rises,
    λ h. h,
  )
  narrowed base base' forms' new scope comes from to within fewer enough scoped (Lands_test tag origin on t p q read none same divides) = (
    Lands_test tag origin on t p q
        (known_read base' on (λ z e. let b = read_known base on z e read in enough z b (divides_uses tag origin on scope t p q divides scoped z (within z b) e)))
        none same divides,
    λ h. h,
  )
  narrowed base base' forms' new scope comes from to within fewer enough scoped
      (Lands_once t o on tag origin tag' origin' name stood other c c' p q p' q' equal read isnew is gives rises rises') = (
        let x = with_dest name stood in
            Lands_once t o on tag origin tag' origin' name stood other c c' p q p' q' equal
            (known_reads base' x (λ z e.
            let b = item_known base x z e read in
            enough z b (or_second (reads_name on z) (uses p z || uses q z)
            (or_first (uses p z) (uses q z) (rises_uses tag origin stood x scope c p p' rises scoped.1 z (within z b) (reads_same name stood z e))))))
            (new_fewer base' base fewer (dest_of x) isnew) is gives rises rises',
        λ h. h,
      )
  narrowed base base' forms' new scope comes from to within fewer enough scoped (Behind_item t o y c rest rest' may apart enters) =
      let n = narrowed base base' forms' new (and_dest scope y) c rest rest' (λ z b. or_second (writes (dest_of y) z) (scope z) (within z b)) fewer
      (λ z b u. enough z b (used_above scope y (whole rest) t o z scoped.1 (within z b) u)) scoped.2 enters in
      (Behind_item t o y c rest rest' may apart n.0, n.1)
  narrowed base base' forms' new scope comes from to within fewer enough scoped (On_yes t o on c p q p' apart enters) =
      let n = narrowed base base' forms' new scope c p p' within fewer
      (λ z b u. enough z b (or_second (reads_name on z) (uses (whole p) z || uses (whole q) z) (or_first (uses (whole p) z) (uses (whole q) z) u))) scoped.1 enters in
      (On_yes t o on c p q p' apart n.0, n.1)
  narrowed base base' forms' new scope comes from to within fewer enough scoped (On_no t o on c p q q' apart enters) =
      let n = narrowed base base' forms' new scope c q q' within fewer
      (λ z b u. enough z b (or_second (reads_name on z) (uses (whole p) z || uses (whole q) z) (or_second (uses (whole p) z) (uses (whole q) z) u))) scoped.2 enters in
      (On_no t o on c p q q' apart n.0, n.1)
