-- The parameters of a tree are known, and they are enough.
use Rattle.std.proofs.Common.{◌≡◌, ℕ, Bool, true, false, List, [], ◌∷◌, Option, Some, None, refl, sym, ◌∙◌, ap}
use Rattle.std.specs.Prelude.{◌||◌, ◌&&◌, not}
use Rattle.std.proofs.lemmas.Bool.{eqb-true, eq-eqb}
use Rattle.pc_word.specs.declared.item.Item.{Item}
use Rattle.pc_word.specs.declared.item.Item.TheVariants.{Bin, Copy, Load, Store, Print, Read, More}
use Rattle.pc_word.specs.declared.item.Operand.{Operand}
use Rattle.pc_word.specs.declared.item.Operand.TheVariants.{Name, Lit}
use Rattle.pc_word.specs.Items.{dest_of, reads, reads_name}
use Rattle.pc_word.specs.Commit.{writes}
use Rattle.pc_linear.specs.Form.{Form}
use Rattle.pc_window.specs.declared.home.Home.{Home}
use Rattle.pc_window.specs.Tree.{Tree, Pending, Undecided, Exit, Stop_exit, Trap_exit, Front, Issued, Split, Unfinished, whole}
use Rattle.pc_window.specs.Filled.{Independent}
use Rattle.pc_window.proofs.Undisturbed.{new-known}
use Rattle.pc_window.specs.Names.{IsKnown, ReadsKnown, IsNew, and_dest, HomesKnown, Scoped, homes_use, uses}
use Rattle.pc_word.proofs.Truth.{or_second, or_first, and_true}

-- one of two holds
or_cases : (a b : Bool) (P : Type 0) → (a || b) ≡ true → (a ≡ true → P) → (b ≡ true → P) → P
or_cases true b P e f g = f refl
or_cases false b P e f g = g e

-- fewer known names, among them all that are read
abbrev pub Fewer : (ℕ → Bool) → (ℕ → Bool) → Type 0
Fewer known' known = (z : ℕ) → known' z ≡ true → known z ≡ true

read_known : (known : ℕ → Bool) (o : Operand) (z : ℕ) → reads_name o z ≡ true → IsKnown known o → known z ≡ true
read_known known (Name x) z e is = sym (ap known (eqb-true x z e)) ∙ is
read_known known (Lit value) z e is = absurd (cc)

two_known : (known : ℕ → Bool) (l r : Operand) (z : ℕ) → (reads_name l z || reads_name r z) ≡ true → IsKnown known l → IsKnown known r → known z ≡ true
two_known known l r z e p q = or_cases (reads_name l z) (reads_name r z) (known z ≡ true) e (λ h. read_known known l z h p) (λ h. read_known known r z h q)

item_known : (known : ℕ → Bool) (x : Item) (z : ℕ) → reads x z ≡ true → ReadsKnown known x → known z ≡ true
item_known known (Bin op d l r) z e h = two_known known l r z e h.0 h.1.0
item_known known (Copy d from) z e h = read_known known from z e h.0
item_known known (Load d a i) z e h = read_known known i z e h.0
item_known known (Store a i v) z e h = two_known known i v z e h.0 h.1.0
item_known known (Print v) z e h = read_known known v z e h.0
item_known known (Read d) z e h = absurd (cc)
item_known known (More d) z e h = absurd (cc)

some_home_known : (known : ℕ → Bool) (homes : List Home) (z : ℕ) → homes_use homes z ≡ true → HomesKnown known homes → known z ≡ true
some_home_known known [] z e all = absurd (cc)
some_home_known known (home ∷ homes) z e all =
    or_cases (reads_name home.value z) (homes_use homes z) (known z ≡ true) e (λ h. read_known known home.value z h all.0) (λ h. some_home_known known homes z h all.1)

-- the parameters are known
pub parameters_known : (tree : Tree) (known : ℕ → Bool) → Scoped known tree → Fewer (uses tree) known
parameters_known (Pending t o x rest) known h z e =
    or_cases (reads x z) (not (writes (dest_of x) z) && uses rest z) (known z ≡ true) e
    (λ k. item_known known x z k h.0)
    (λ k. (let b = and_true (not (writes (dest_of x) z)) (uses rest z) k in
    other (writes (dest_of x) z) (known z) b.0 (parameters_known rest (and_dest known x) h.2 z b.1)))
  where
    other : (a b : Bool) → not a ≡ true → (a || b) ≡ true → b ≡ true
    other true b e h = absurd (cc)
    other false b e h = h
parameters_known (Undecided t o on p q) known h z e =
    or_cases (reads_name on z) (uses p z || uses q z) (known z ≡ true) e (λ k. read_known known on z k h.0)
    (λ k. or_cases (uses p z) (uses q z) (known z ≡ true) k (parameters_known p known h.1 z) (parameters_known q known h.2 z))
parameters_known (Exit region tag homes) known h z e = some_home_known known homes z e h
parameters_known Stop_exit known h z e = absurd (cc)
parameters_known (Trap_exit kind line) known h z e = absurd (cc)

pub known_read : (known' : ℕ → Bool) (o : Operand) → ((z : ℕ) → reads_name o z ≡ true → known' z ≡ true) → IsKnown known' o
known_read known' (Name x) f = f x (eq-eqb x x refl)
known_read known' (Lit value) f = tt

pub known_reads : (known' : ℕ → Bool) (x : Item) → ((z : ℕ) → reads x z ≡ true → known' z ≡ true) → ReadsKnown known' x
known_reads known' (Bin op d l r) f = (
  known_read known' l (λ z e. f z (or_first (reads_name l z) (reads_name r z) e)),
  (known_read known' r (λ z e. f z (or_second (reads_name l z) (reads_name r z) e)), tt),
)
known_reads known' (Copy d from) f = (known_read known' from f, tt)
known_reads known' (Load d a i) f = (known_read known' i f, tt)
known_reads known' (Store a i v) f = (
  known_read known' i (λ z e. f z (or_first (reads_name i z) (reads_name v z) e)),
  (known_read known' v (λ z e. f z (or_second (reads_name i z) (reads_name v z) e)), tt),
)
known_reads known' (Print v) f = (known_read known' v f, tt)
known_reads known' (Read d) f = tt
known_reads known' (More d) f = tt

pub known_homes : (known' : ℕ → Bool) (homes : List Home) → ((z : ℕ) → homes_use homes z ≡ true → known' z ≡ true) → HomesKnown known' homes
known_homes known' [] f = tt
known_homes known' (home ∷ homes) f = (
  known_read known' home.value (λ z e. f z (or_first (reads_name home.value z) (homes_use homes z) e)),
  known_homes known' homes (λ z e. f z (or_second (reads_name home.value z) (homes_use homes z) e)),
)

new_fewer : (known' known : ℕ → Bool) → Fewer known' known → (d : Option ℕ) → IsNew known d → IsNew known' d
new_fewer known' known fewer None h = tt
new_fewer known' known fewer (Some d) h = elim (known' d) as (λ b. known' d ≡ b → b ≡ false) [
  | false ↦ λ e. refl
  | true ↦ λ e. absurd (let k : known d ≡ true = fewer d e in cc)
] refl

-- fewer names are enough, if the parameters are among them
pub scoped_fewer : (tree : Tree) (known' known : ℕ → Bool) → Fewer known' known → Fewer (uses tree) known' → Scoped known tree → Scoped known' tree
scoped_fewer (Pending t o x rest) known' known fewer enough h = (
  known_reads known' x (λ z e. enough z (or_first (reads x z) _ e)),
  new_fewer known' known fewer (dest_of x) h.1,
  scoped_fewer rest (and_dest known' x) (and_dest known x)
      (λ z e. or_cases (writes (dest_of x) z) (known' z) (and_dest known x z ≡ true) e
      (λ k. or_first (writes (dest_of x) z) (known z) k) (λ k. or_second (writes (dest_of x) z) (known z) (fewer z k)))
      (λ z e. below z (writes (dest_of x) z) refl e) h.2,
)
  where
    below : (z : ℕ) (b : Bool) → writes (dest_of x) z ≡ b → uses rest z ≡ true → (b || known' z) ≡ true
    below z true w e = refl
    below z false w e = enough z (or_second (reads x z) _ (rw (w, e) refl))
scoped_fewer (Undecided t o on p q) known' known fewer enough h = (
  known_read known' on (λ z e. enough z (or_first (reads_name on z) _ e)),
  scoped_fewer p known' known fewer (λ z e. enough z (or_second (reads_name on z) _ (or_first (uses p z) (uses q z) e))) h.1,
  scoped_fewer q known' known fewer (λ z e. enough z (or_second (reads_name on z) _ (or_second (uses p z) (uses q z) e))) h.2,
)
scoped_fewer (Exit region tag homes) known' known fewer enough h = known_homes known' homes enough
scoped_fewer Stop_exit known' known fewer enough h = tt
scoped_fewer (Trap_exit kind line) known' known fewer enough h = tt

-- so a tree is scoped by its parameters
pub scoped_parameters : (tree : Tree) (known : ℕ → Bool) → Scoped known tree → Scoped (uses tree) tree
scoped_parameters tree known h = scoped_fewer tree (uses tree) known (parameters_known tree known h) (λ z e. e) h

-- ---- a front that does not hang on itself needs only parameters to be known

independent_by : (forms : ℕ → Form) (known base base' : ℕ → Bool) (front : Front) → ((z : ℕ) → base z ≡ true → known z ≡ true)
    → ((z : ℕ) → base z ≡ true → uses (whole front) z ≡ true → base' z ≡ true)
    → Scoped known (whole front) → Independent forms base front → Independent forms base' front
independent_by forms known base base' (Issued t o x rest) within enough scoped independent = (
  known_reads base' x (λ z e. enough z (item_known base x z e independent.0) (or_first (reads x z) _ e)),
  independent.1,
  independent_by forms (and_dest known x) base base' rest (λ z e. or_second (writes (dest_of x) z) (known z) (within z e))
      (λ z b u. enough z b (or_second (reads x z) _ (let w = new-known known (dest_of x) z scoped.1 (within z b) in rw (w, u) refl))) scoped.2 independent.2,
)
independent_by forms known base base' (Split t o on p q) within enough scoped independent = (
  known_read base' on (λ z e. enough z (read_known base on z e independent.0) (or_first (reads_name on z) _ e)),
  independent_by forms known base base' p within (λ z b u. enough z b (or_second (reads_name on z) _ (or_first (uses (whole p) z) (uses (whole q) z) u))) scoped.1 independent.1,
  independent_by forms known base base' q within (λ z b u. enough z b (or_second (reads_name on z) _ (or_second (uses (whole p) z) (uses (whole q) z) u))) scoped.2 independent.2,
)
independent_by forms known base base' (Unfinished rest) within enough scoped independent = tt

pub independent_parameters : (forms : ℕ → Form) (known : ℕ → Bool) (front : Front) → Scoped known (whole front)
    → Independent forms known front → Independent forms (uses (whole front)) front
independent_parameters forms known front scoped independent = independent_by forms known known (uses (whole front)) front (λ z e. e) (λ z b u. u) scoped independent
