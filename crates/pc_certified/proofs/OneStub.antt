-- Opening one stub: what it keeps of forms and names. (These lemmas stand in pc_window's proofs too, for its own use.)
use Rattle.std.proofs.Common.{List, None, Option, Some, [], ap, arith, inl, inr, refl, subst, sym, ℕ, ◌<◌, ◌∙◌, ◌∷◌, ◌≡◌, ◌≤◌, ◌⊎◌}
use Rattle.std.specs.Prelude.{Bool, false, nat_eq, true, ℤ, ◌||◌}
use Rattle.pc_word.specs.declared.item.Item.{Item}
use Rattle.pc_word.specs.declared.item.Item.TheVariants.{Bin, Copy, Load, More, Print, Read, Store}
use Rattle.pc_word.specs.declared.item.Operand.{Operand}
use Rattle.pc_word.specs.declared.item.Operand.TheVariants.{Lit, Name}
use Rattle.pc_word.specs.Word.{holds}
use Rattle.pc_word.specs.State.{State}
use Rattle.pc_word.specs.Items.{dest_of, operand_value, value_of, reads, reads_name}
use Rattle.pc_word.specs.Commit.{state_after, writes}
use Rattle.pc_word.proofs.Truth.{or_first, or_second, or_true}
use Rattle.pc_linear.specs.Form.{Form, Means}
use Rattle.pc_table.specs.Table.{Table, region_tree}
use Rattle.pc_table.proofs.Tests.{needed_above}
use Rattle.pc_window.specs.declared.home.Home.{Home}
use Rattle.pc_window.specs.Tree.{Exit, Pending, Stop_exit, Trap_exit, Tree, Undecided, home_of}
use Rattle.pc_window.specs.Names.{IsNew, Scoped, and_dest, uses}
use Rattle.pc_window.specs.Hold.{DefinedHold, DefinedMeans, HoldUnder, ParametersHold, Side}
use Rattle.pc_window.specs.Opening.{FormsBelow, ItemBelow, Supply, TreeBelow, graft}
use Rattle.pc_window.proofs.Forms.{Means-agree}
use Rattle.pc_window.proofs.Grafts.{Extends, Extends-refl, OperandBelow-later, nat_eq-same}
use Rattle.pc_window.proofs.GraftForms.{GoesOn, GraftHolds, Held, HomesMean, OperandMeans, graft-below, graft_holds}
use Rattle.pc_window.proofs.Uses.{nat_eq-tells}
use Rattle.pc_window.proofs.Once.{OncePerPath, Undefined, defines}
use Rattle.pc_window.proofs.Unwinding.{HoldUnder-after, Unwound, at_no, at_stub, at_yes, below, defined_later, home_of-used, homes-below, unwound-extends}
use Rattle.pc_window.proofs.Tidying.{not_true}
use Rattle.pc_window.proofs.Soundness.{TreeBelow-later, graft-defines, graft-once, graft-tree}
use Rattle.pc_window.proofs.Parameters.{known_homes, known_read, known_reads}

-- an operand whose names, if any, have the values of their forms, has the value of its form
operand_means : (σ : ℕ → ℤ) (forms : ℕ → Form) (values : ℕ → ℤ) (o : Operand) → ((x : ℕ) → o ≡ Name x → Means σ (forms x) (values x)) → OperandMeans σ forms values o
operand_means σ forms values (Name x) h = h x refl
operand_means σ forms values (Lit value) h = refl

-- what is defined has the value of its form with more names and variables too
pub written_later : (names later : Supply) (σ τ : ℕ → ℤ) (d : ℕ) (value : ℤ) → Extends names later → GoesOn names.next_variable σ τ → FormsBelow names → d < names.next
    → Means σ (names.forms d) value → Means τ (later.forms d) value
written_later names later σ τ d value more goes b lt h =
    subst (λ (f : Form). Means τ f value) (sym (more.forms d lt)) (Means-agree names.next_variable σ τ (names.forms d) value goes.same (b.form d) h)

pub defined_item : (names later : Supply) (σ τ : ℕ → ℤ) (item : Item) (value : ℤ) → Extends names later → GoesOn names.next_variable σ τ → FormsBelow names
    → ItemBelow names.next item
    → DefinedMeans σ names.forms (dest_of item) value → DefinedMeans τ later.forms (dest_of item) value
defined_item names later σ τ (Bin op dest left right) value more goes b lt h = written_later names later σ τ dest value more goes b lt.0 h
defined_item names later σ τ (Copy dest from) value more goes b lt h = written_later names later σ τ dest value more goes b lt.0 h
defined_item names later σ τ (Load dest array index) value more goes b lt h = written_later names later σ τ dest value more goes b lt.0 h
defined_item names later σ τ (Store array index word) value more goes b lt h = tt
defined_item names later σ τ (Print word) value more goes b lt h = tt
defined_item names later σ τ (Read dest) value more goes b lt h = written_later names later σ τ dest value more goes b lt h
defined_item names later σ τ (More dest) value more goes b lt h = written_later names later σ τ dest value more goes b lt h

-- a test's side, where forms hold on it if it is the one that is taken
pub held_side : (σ : ℕ → ℤ) (forms later : ℕ → Form) (lengths : List ℕ) (m tag origin : ℕ) (on : Operand) (one other new new' : Tree) (s : State) (b : Bool)
    → holds (operand_value s.names on) ≡ b
    → (DefinedHold σ forms lengths one s → Held m σ later lengths new s) → (DefinedHold σ forms lengths other s → Held m σ later lengths new' s)
    → DefinedHold σ forms lengths (Undecided tag origin on one other) s → Held m σ later lengths (Undecided tag origin on new new') s
held_side σ forms later lengths m tag origin on one other new new' s true e f g h =
    let p = f (subst (λ (c : Bool). Side c (DefinedHold σ forms lengths one s) (DefinedHold σ forms lengths other s)) e h) in
    record {
      values = p.values;
      goes_on = p.goes_on;
      defined = subst (λ (c : Bool). Side c (DefinedHold p.values later lengths new s) (DefinedHold p.values later lengths new' s)) (sym e) p.defined;
    }
held_side σ forms later lengths m tag origin on one other new new' s false e f g h =
    let p = g (subst (λ (c : Bool). Side c (DefinedHold σ forms lengths one s) (DefinedHold σ forms lengths other s)) e h) in
    record {
      values = p.values;
      goes_on = p.goes_on;
      defined = subst (λ (c : Bool). Side c (DefinedHold p.values later lengths new s) (DefinedHold p.values later lengths new' s)) (sym e) p.defined;
    }

-- the homes of a stub whose parameters have the values of their forms
stub_means : (σ : ℕ → ℤ) (forms : ℕ → Form) (region tag : ℕ) (homes : List Home) (s : State)
    → ParametersHold σ forms (Exit region tag homes) s → HomesMean σ forms s.names (home_of homes)
stub_means σ forms region tag homes s h = record { home = λ v. operand_means σ forms s.names (home_of homes v) (λ x e. h x (home_of-used homes v x e)) }

module _ (table : Table) (loop : Option ℕ) (names after : Supply) (fb : FormsBelow names) where
  pub side_parameters : (σ : ℕ → ℤ) (tag origin : ℕ) (on : Operand) (one other : Tree) (s : State) → ParametersHold σ names.forms (Undecided tag origin on one other) s
      → ParametersHold σ names.forms one s × ParametersHold σ names.forms other s
  side_parameters σ tag origin on one other s h = (
    λ x u. h x (or_second (reads_name on x) (uses one x || uses other x) (or_first (uses one x) (uses other x) u)),
    λ x u. h x (or_second (reads_name on x) (uses one x || uses other x) (or_second (uses one x) (uses other x) u)),
  )

  pub unwound_held : {t u : Tree} → Unwound table loop names after t u → TreeBelow names.next t → (s : State) (σ : ℕ → ℤ) → HoldUnder σ names.forms table.arrays t s
      → Held names.next_variable σ after.forms table.arrays u s
  unfolding GraftHolds
  unwound_held (at_stub region tag homes tree is kept) b s σ h =
      let grafted = graft table loop tag (region_tree table region) names (home_of homes) in
      let held = graft_holds table loop tag (region_tree table region) names (home_of homes) s σ grafted.names fb (homes-below names.next homes b)
      (stub_means σ names.forms region tag homes s h.parameters) (Extends-refl grafted.names) in
      subst (λ (u : Tree). Held names.next_variable σ after.forms table.arrays u s) is
      (subst (λ (a : Supply). Held names.next_variable σ a.forms table.arrays grafted.tree s) kept held)
  unwound_held (below tag origin item {rest = rest} {new = new} u) b s σ h =
      let s' = state_after table.arrays s (item ∷ []) in
      let held = unwound_held u b.1 s' σ (HoldUnder-after σ names.forms table.arrays tag origin item rest s h) in
      record {
        values = held.values;
        goes_on = held.goes_on;
        defined = (defined_item names after σ held.values item (value_of table.arrays s item) (unwound-extends table loop names after fb u) held.goes_on fb b.0 h.defined.0, held.defined);
      }
  unwound_held (at_yes tag origin on {one = one} {new = new} other u) b s σ h =
      let sides = side_parameters σ tag origin on one other s h.parameters in
      held_side σ names.forms after.forms table.arrays names.next_variable tag origin on one other new other s (holds (operand_value s.names on)) refl
      (λ d. unwound_held u b.1 s σ (record { parameters = sides.0; defined = d }))
      (λ d. record {
        values = σ;
        goes_on = record { same = λ v lt. refl };
        defined = defined_later names after σ σ table.arrays other s
            (unwound-extends table loop names after fb u) (record { same = λ v lt. refl }) fb b.2 d;
      })
      h.defined
  unwound_held (at_no tag origin on one {other = other} {new = new} u) b s σ h =
      let sides = side_parameters σ tag origin on one other s h.parameters in
      held_side σ names.forms after.forms table.arrays names.next_variable tag origin on one other one new s (holds (operand_value s.names on)) refl
      (λ d. record {
        values = σ;
        goes_on = record { same = λ v lt. refl };
        defined = defined_later names after σ σ table.arrays one s
            (unwound-extends table loop names after fb u) (record { same = λ v lt. refl }) fb b.1 d;
      })
      (λ d. unwound_held u b.2 s σ (record { parameters = sides.1; defined = d }))
      h.defined

-- names that are below a number are below greater ones
pub ItemBelow-later : (m n : ℕ) (item : Item) → m ≤ n → ItemBelow m item → ItemBelow n item
ItemBelow-later m n (Bin op dest left right) le h = let d = h.0 in (omega arith, OperandBelow-later m n left le h.1, OperandBelow-later m n right le h.2)
ItemBelow-later m n (Copy dest from) le h = let d = h.0 in (omega arith, OperandBelow-later m n from le h.1)
ItemBelow-later m n (Load dest array index) le h = let d = h.0 in (omega arith, OperandBelow-later m n index le h.1)
ItemBelow-later m n (Store array index value) le h = (OperandBelow-later m n index le h.0, OperandBelow-later m n value le h.1)
ItemBelow-later m n (Print value) le h = OperandBelow-later m n value le h
ItemBelow-later m n (Read dest) le h = omega arith
ItemBelow-later m n (More dest) le h = omega arith

module _ (table : Table) (loop : Option ℕ) (names after : Supply) (fb : FormsBelow names) where
  pub unwound-tree : {t u : Tree} → Unwound table loop names after t u → TreeBelow names.next t → TreeBelow after.next u
  unwound-tree (at_stub region tag homes tree is kept) b =
      let grafted = graft table loop tag (region_tree table region) names (home_of homes) in
      subst (λ (u : Tree). TreeBelow after.next u) is (subst (λ (a : Supply). TreeBelow a.next grafted.tree) kept
      (graft-tree table loop tag (region_tree table region) names (home_of homes) grafted.names.next (homes-below names.next homes b) (omega arith)))
  unwound-tree (below tag origin item u) b = (ItemBelow-later names.next after.next item (unwound-extends table loop names after fb u).next b.0, unwound-tree u b.1)
  unwound-tree (at_yes tag origin on other u) b =
      let le = (unwound-extends table loop names after fb u).next in
      (OperandBelow-later names.next after.next on le b.0, unwound-tree u b.1, TreeBelow-later names.next after.next other le b.2)
  unwound-tree (at_no tag origin on one u) b =
      let le = (unwound-extends table loop names after fb u).next in
      (OperandBelow-later names.next after.next on le b.0, TreeBelow-later names.next after.next one le b.1, unwound-tree u b.2)

  pub unwound-forms : {t u : Tree} → Unwound table loop names after t u → TreeBelow names.next t → FormsBelow after
  unwound-forms (at_stub region tag homes tree is kept) b =
      subst (λ (a : Supply). FormsBelow a) kept (graft-below table loop tag (region_tree table region) names (home_of homes) fb (homes-below names.next homes b))
  unwound-forms (below tag origin item u) b = unwound-forms u b.1
  unwound-forms (at_yes tag origin on other u) b = unwound-forms u b.1
  unwound-forms (at_no tag origin on one u) b = unwound-forms u b.2

  pub unwound-defines : {t u : Tree} → Unwound table loop names after t u → (x : ℕ) → defines u x ≡ true → (defines t x ≡ true) ⊎ (names.next ≤ x)
  unwound-defines (at_stub region tag homes tree is kept) x h =
      inr (graft-defines table loop tag (region_tree table region) names (home_of homes) x (ap (λ (t : Tree). defines t x) is ∙ h))
  unwound-defines (below tag origin item {rest = rest} {new = new} u) x h = elim (or_true (writes (dest_of item) x) (defines new x) h) [
    | inl p ↦ inl (or_first (writes (dest_of item) x) (defines rest x) p)
    | inr p ↦ elim (unwound-defines u x p) [ inl q ↦ inl (or_second (writes (dest_of item) x) (defines rest x) q) | inr q ↦ inr q ]
  ]
  unwound-defines (at_yes tag origin on {one = one} {new = new} other u) x h = elim (or_true (defines new x) (defines other x) h) [
    | inl p ↦ elim (unwound-defines u x p) [ inl q ↦ inl (or_first (defines one x) (defines other x) q) | inr q ↦ inr q ]
    | inr p ↦ inl (or_second (defines one x) (defines other x) p)
  ]
  unwound-defines (at_no tag origin on one {other = other} {new = new} u) x h = elim (or_true (defines one x) (defines new x) h) [
    | inl p ↦ inl (or_first (defines one x) (defines other x) p)
    | inr p ↦ elim (unwound-defines u x p) [ inl q ↦ inl (or_second (defines one x) (defines other x) q) | inr q ↦ inr q ]
  ]

  still_new : {t u : Tree} → Unwound table loop names after t u → (item : Item) → ItemBelow names.next item → Undefined (dest_of item) t → Undefined (dest_of item) u
  still_new {t} {u} un item b h = by_dest (dest_of item) (dest_below item b) h
    where
      dest_below : (item : Item) → ItemBelow names.next item → (d : ℕ) → dest_of item ≡ Some d → d < names.next
      dest_below (Bin op dest left right) b d e = let same : dest ≡ d = cc in let lt = b.0 in omega arith
      dest_below (Copy dest from) b d e = let same : dest ≡ d = cc in let lt = b.0 in omega arith
      dest_below (Load dest array index) b d e = let same : dest ≡ d = cc in let lt = b.0 in omega arith
      dest_below (Store array index value) b d e = absurd (cc)
      dest_below (Print value) b d e = absurd (cc)
      dest_below (Read dest) b d e = let same : dest ≡ d = cc in omega arith
      dest_below (More dest) b d e = let same : dest ≡ d = cc in omega arith

      by_dest : (d : Option ℕ) → ((n : ℕ) → d ≡ Some n → n < names.next) → Undefined d t → Undefined d u
      by_dest None lt h = tt
      by_dest (Some n) lt h = not_true (defines u n) (λ e. elim (unwound-defines un n e) [ inl p ↦ absurd (cc) | inr p ↦ let q = lt n refl in absurd (omega arith) ])

  pub unwound-once : {t u : Tree} → Unwound table loop names after t u → TreeBelow names.next t → OncePerPath t → OncePerPath u
  unwound-once (at_stub region tag homes tree is kept) b o = subst (λ (u : Tree). OncePerPath u) is (graft-once table loop tag (region_tree table region) names (home_of homes))
  unwound-once (below tag origin item u) b o = (still_new u item b.0 o.0, unwound-once u b.1 o.1)
  unwound-once (at_yes tag origin on other u) b o = (unwound-once u b.1 o.0, o.1)
  unwound-once (at_no tag origin on one u) b o = (o.0, unwound-once u b.2 o.1)

or_neither : (a b : Bool) → (a || b) ≡ false → (a ≡ false) × (b ≡ false)
or_neither false b e = (refl, e)
or_neither true b e = absurd (cc)

-- what is known is defined nowhere in a tree
abbrev Elsewhere : (ℕ → Bool) → Tree → Type 0
Elsewhere known tree = (z : ℕ) → known z ≡ true → defines tree z ≡ false

new_of : (known : ℕ → Bool) (d : Option ℕ) → ((z : ℕ) → known z ≡ true → writes d z ≡ false) → IsNew known d
new_of known None h = tt
new_of known (Some d) h = by_known (known d) refl
  where
    by_known : (b : Bool) → known d ≡ b → b ≡ false
    by_known true e = absurd (let k = h d e in let same : nat_eq d d ≡ true = nat_eq-same d in cc)
    by_known false e = refl

below_known : (known : ℕ → Bool) (x : Item) (rest : Tree) → ((z : ℕ) → known z ≡ true → defines rest z ≡ false) → Undefined (dest_of x) rest → Elsewhere (and_dest known x) rest
below_known known x rest other new z h = by_dest (dest_of x) new (or_true (writes (dest_of x) z) (known z) h)
  where
    by_dest : (d : Option ℕ) → Undefined d rest → (writes d z ≡ true) ⊎ (known z ≡ true) → defines rest z ≡ false
    by_dest d new (inr k) = other z k
    by_dest None new (inl w) = absurd (cc)
    by_dest (Some e) new (inl w) = sym (ap (defines rest) (nat_eq-tells e z w)) ∙ new

-- a tree whose names are defined once on a path, and its parameters nowhere, is scoped by its parameters
pub once_scoped : (tree : Tree) (known : ℕ → Bool) → ((z : ℕ) → uses tree z ≡ true → known z ≡ true) → Elsewhere known tree → OncePerPath tree → Scoped known tree
once_scoped (Pending t o x rest) known enough other once = (
  known_reads known x (λ z e. enough z (or_first (reads x z) _ e)),
  new_of known (dest_of x) (λ z k. (or_neither (writes (dest_of x) z) (defines rest z) (other z k)).0),
  once_scoped rest (and_dest known x) (λ z u. below z (writes (dest_of x) z) refl u)
      (below_known known x rest (λ z k. (or_neither (writes (dest_of x) z) (defines rest z) (other z k)).1) once.0) once.1,
)
  where
    below : (z : ℕ) (b : Bool) → writes (dest_of x) z ≡ b → uses rest z ≡ true → (b || known z) ≡ true
    below z true w u = refl
    below z false w u = enough z (needed_above (reads x z) (writes (dest_of x) z) (uses rest z) w u)
once_scoped (Undecided t o on p q) known enough other once = (
  known_read known on (λ z e. enough z (or_first (reads_name on z) _ e)),
  once_scoped p known (λ z u. enough z (or_second (reads_name on z) _ (or_first (uses p z) (uses q z) u))) (λ z k. (or_neither (defines p z) (defines q z) (other z k)).0) once.0,
  once_scoped q known (λ z u. enough z (or_second (reads_name on z) _ (or_second (uses p z) (uses q z) u))) (λ z k. (or_neither (defines p z) (defines q z) (other z k)).1) once.1,
)
once_scoped (Exit region tag homes) known enough other once = known_homes known homes enough
once_scoped Stop_exit known enough other once = tt
once_scoped (Trap_exit kind line) known enough other once = tt
