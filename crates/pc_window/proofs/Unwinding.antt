-- Unwinding a stub: the window runs as before, and forms that held still hold.
use Rattle.std.proofs.Common.{◌≡◌, ℕ, ◌+◌, ◌<◌, List, [], ◌∷◌, Option, Some, None, refl, sym, ◌∙◌, ap, subst, arith, inl, inr, zero-add}
use Rattle.std.specs.Prelude.{ℤ, Bool, true, false, if◌then◌else◌, nat_eq, ◌||◌, ◌&&◌, not}
use Rattle.pc_word.specs.declared.item.Item.{Item}
use Rattle.pc_word.specs.declared.item.Item.TheVariants.{Bin, Copy, Load, Store, Print, Read, More}
use Rattle.pc_word.specs.declared.item.Operand.{Operand}
use Rattle.pc_word.specs.declared.item.Operand.TheVariants.{Name, Lit}
use Rattle.pc_word.specs.declared.item.MachineFault.{MachineFault}
use Rattle.pc_word.specs.Word.{holds}
use Rattle.pc_word.specs.Run.{Agree, Grows, Seen, after_printing}
use Rattle.pc_word.proofs.Runs.{Begins-refl, Begins-after, run_from-grows}
use Rattle.pc_word.specs.State.{State}
use Rattle.pc_word.specs.Items.{operand_value, dest_of, value_of, reads, reads_name}
use Rattle.pc_word.specs.Commit.{prints_of, fault_of, state_after, writes}
use Rattle.pc_linear.specs.Form.{Form, Means}
use Rattle.pc_table.specs.Table.{Next, Table, region_tree}
use Rattle.pc_table.specs.RegionRun.{place_at, region_step, region_run}
use Rattle.pc_table.specs.TableKeeps.{TableKeeps}
use Rattle.pc_window.specs.declared.home.Home.{Home}
use Rattle.pc_window.specs.Tree.{Tree, Pending, Undecided, Exit, Stop_exit, Trap_exit, home_of}
use Rattle.pc_window.specs.Walk.{Walked, Leaves, Finishes, printing, done_first, walk}
use Rattle.pc_window.specs.WindowRun.{follow, free_run}
use Rattle.pc_window.specs.Names.{uses, homes_use}
use Rattle.pc_window.specs.Hold.{DefinedMeans, DefinedHold, ParametersHold, HoldUnder, TreeHolds, Side}
use Rattle.pc_table.specs.Loops.{is_inside}
use Rattle.pc_window.specs.Opening.{Supply, Grafted, below_item, under_item, under_test, unwound_at, graft, OperandBelow, ItemBelow, StubBelow, TreeBelow, FormsBelow}
use Rattle.pc_window.proofs.Forms.{Means-agree}
use Rattle.pc_table.proofs.Tests.{needed_above}
use Rattle.pc_window.proofs.Grafts.{follow-after, HomesBelow, Extends, Extends-refl, nat_eq-same}
use Rattle.pc_window.proofs.Follows.{graft-extends}
use Rattle.pc_window.proofs.GraftForms.{HomesMean, OperandMeans, GoesOn, Held, GraftHolds, graft_holds}
use Rattle.pc_window.proofs.Uses.{unwritten, nat_eq-tells, graft-uses}
use Rattle.pc_window.proofs.Openings.{Agree-later, grafted_region}
use Rattle.pc_word.proofs.Truth.{or_first, or_second, or_true}

-- ---- a stub's homes

home_of-below : (n : ℕ) (homes : List Home) (v : ℕ) → StubBelow n homes → OperandBelow n (home_of homes v)
home_of-below n [] v h = tt
home_of-below n (home ∷ homes) v h = by_test (nat_eq home.variable v) (home_of-below n homes v h.1)
  where
    by_test : (b : Bool) → OperandBelow n (home_of homes v) → OperandBelow n (if b then home.value else home_of homes v)
    by_test true next = h.0
    by_test false next = next

pub homes-below : (n : ℕ) (homes : List Home) → StubBelow n homes → HomesBelow n (home_of homes)
unfolding HomesBelow
homes-below n homes h v = home_of-below n homes v h

-- a name that is a home is used by the stub
pub home_of-used : (homes : List Home) (v x : ℕ) → home_of homes v ≡ Name x → homes_use homes x ≡ true
home_of-used [] v x h = absurd (cc)
home_of-used (home ∷ homes) v x h = by_test (nat_eq home.variable v) h (λ p. home_of-used homes v x p)
  where
    by_test : (b : Bool) → (if b then home.value else home_of homes v) ≡ Name x
        → (home_of homes v ≡ Name x → homes_use homes x ≡ true) → (reads_name home.value x || homes_use homes x) ≡ true
    by_test true p next = or_first (reads_name home.value x) (homes_use homes x) (ap (λ (o : Operand). reads_name o x) p ∙ nat_eq-same x)
    by_test false p next = or_second (reads_name home.value x) (homes_use homes x) (next p)

-- an operand whose names, if any, have the values of their forms, has the value of its form
operand_means : (σ : ℕ → ℤ) (forms : ℕ → Form) (values : ℕ → ℤ) (o : Operand) → ((x : ℕ) → o ≡ Name x → Means σ (forms x) (values x)) → OperandMeans σ forms values o
operand_means σ forms values (Name x) h = h x refl
operand_means σ forms values (Lit value) h = refl

-- ---- what was unwound

-- the tree in which one stub is replaced by its region's tree
pub data Unwound (table : Table) (loop : Option ℕ) (names after : Supply) : Tree → Tree → Type 0 where
  at_stub : (region tag : ℕ) (homes : List Home) (tree : Tree) → (graft table loop tag (region_tree table region) names (home_of homes)).tree ≡ tree
      → (graft table loop tag (region_tree table region) names (home_of homes)).names ≡ after → Unwound table loop names after (Exit region tag homes) tree
  below : (tag origin : ℕ) (item : Item) {rest new : Tree} → Unwound table loop names after rest new → Unwound table loop names after (Pending tag origin item rest) (Pending tag origin item new)
  at_yes : (tag origin : ℕ) (on : Operand) {one new : Tree} (other : Tree) → Unwound table loop names after one new
      → Unwound table loop names after (Undecided tag origin on one other) (Undecided tag origin on new other)
  at_no : (tag origin : ℕ) (on : Operand) (one : Tree) {other new : Tree} → Unwound table loop names after other new
      → Unwound table loop names after (Undecided tag origin on one other) (Undecided tag origin on one new)

module _ (table : Table) (loop : Option ℕ) (least : ℕ) (names : Supply) where
  unfoldable pub IsUnwound : Tree → Grafted → Type 0
  IsUnwound t g = Unwound table loop names g.names t g.tree

  item_unwound : (tag origin : ℕ) (item : Item) (rest : Tree) (r : Option Grafted) (g : Grafted) → ((h : Grafted) → r ≡ Some h → IsUnwound rest h)
      → under_item tag origin item r ≡ Some g → IsUnwound (Pending tag origin item rest) g
  unfolding IsUnwound
  item_unwound tag origin item rest None g next e = absurd (cc)
  item_unwound tag origin item rest (Some h) g next e =
      let same : below_item tag origin item h ≡ g = cc in
      subst (λ (k : Grafted). Unwound table loop names k.names (Pending tag origin item rest) k.tree) same (below tag origin item (next h refl))

  test_unwound : (tag origin : ℕ) (on : Operand) (one other : Tree) (r q : Option Grafted) (g : Grafted) → ((h : Grafted) → r ≡ Some h → IsUnwound one h)
      → ((h : Grafted) → q ≡ Some h → IsUnwound other h)
      → under_test tag origin on one other r q ≡ Some g → IsUnwound (Undecided tag origin on one other) g
  unfolding IsUnwound
  test_unwound tag origin on one other (Some h) q g next next' e =
      let k : Grafted = record { tree = Undecided tag origin on h.tree other; names = h.names } in
      let same : k ≡ g = cc in
      subst (λ (k : Grafted). Unwound table loop names k.names (Undecided tag origin on one other) k.tree) same (at_yes tag origin on other (next h refl))
  test_unwound tag origin on one other None (Some h) g next next' e =
      let k : Grafted = record { tree = Undecided tag origin on one h.tree; names = h.names } in
      let same : k ≡ g = cc in
      subst (λ (k : Grafted). Unwound table loop names k.names (Undecided tag origin on one other) k.tree) same (at_no tag origin on one (next' h refl))
  test_unwound tag origin on one other None None g next next' e = absurd (cc)

  stub_unwound : (region tag : ℕ) (homes : List Home) (g : Grafted) (b : Bool)
      → (if b then Some (graft table loop tag (region_tree table region) names (home_of homes)) else None) ≡ Some g → IsUnwound (Exit region tag homes) g
  unfolding IsUnwound
  stub_unwound region tag homes g true e =
      let same : graft table loop tag (region_tree table region) names (home_of homes) ≡ g = cc in
      at_stub region tag homes g.tree (ap (λ (k : Grafted). k.tree) same) (ap (λ (k : Grafted). k.names) same)
  stub_unwound region tag homes g false e = absurd (cc)

  pub unwound_is : (t : Tree) (g : Grafted) → unwound_at table loop least names t ≡ Some g → IsUnwound t g
  unwound_is (Pending tag origin item rest) g e = item_unwound tag origin item rest (unwound_at table loop least names rest) g (λ h p. unwound_is rest h p) e
  unwound_is (Undecided tag origin on one other) g e =
      test_unwound tag origin on one other (unwound_at table loop least names one) (unwound_at table loop least names other) g (λ h p. unwound_is one h p) (λ h p. unwound_is other h p) e
  unwound_is (Exit region tag homes) g e = stub_unwound region tag homes g (is_inside table loop region && nat_eq tag least) e
  unwound_is Stop_exit g e = absurd (cc)
  unwound_is (Trap_exit kind line) g e = absurd (cc)

-- ---- the run

-- what follows one walk is what follows another some units later
pub record LaterWalk (table : Table) (w v : Walked) : Type 0 where
  pub units : ℕ
  pub same : (n : ℕ) → follow table w n ≡ follow table v (units + n)

LaterWalk-refl : (table : Table) (w : Walked) → LaterWalk table w w
LaterWalk-refl table w = record { units = 0; same = λ n. ap (follow table w) (sym (zero-add n)) }

follow-printed : (table : Table) (out : List ℤ) (w v : Walked) (n k : ℕ) → follow table w n ≡ follow table v k → follow table (printing out w) n ≡ follow table (printing out v) k
follow-printed table out w v n k h = follow-split out w n ∙ ap (λ (x : Seen). after_printing out x) h ∙ sym (follow-split out v k)
  where
    follow-split : (out : List ℤ) (w : Walked) (n : ℕ) → follow table (printing out w) n ≡ after_printing out (follow table w n)
    follow-split out w n = follow-after table out w n

LaterWalk-item : (table : Table) (f : Option MachineFault) (out : List ℤ) (w v : Walked) → LaterWalk table w v → LaterWalk table (done_first f out w) (done_first f out v)
LaterWalk-item table (Some fault) out w v h = record { units = h.units; same = λ n. refl }
LaterWalk-item table None out w v h = record { units = h.units; same = λ n. follow-printed table out w v n (h.units + n) (h.same n) }

LaterWalk-side : (table : Table) (b : Bool) (w v x y : Walked) → LaterWalk table w v → LaterWalk table x y → LaterWalk table (if b then w else x) (if b then v else y)
LaterWalk-side table true w v x y p q = p
LaterWalk-side table false w v x y p q = q

module _ (table : Table) (keeps : TableKeeps table) (loop : Option ℕ) (names after : Supply) where
  unwound_later : {t u : Tree} → Unwound table loop names after t u → TreeBelow names.next t → (s : State) → LaterWalk table (walk table.arrays u s) (walk table.arrays t s)
  unwound_later (at_stub region tag homes tree is kept) b s =
      let later = grafted_region table keeps loop tag region names (home_of homes) s (homes-below names.next homes b) in
      subst (λ (u : Tree). LaterWalk table (walk table.arrays u s) (walk table.arrays (Exit region tag homes) s)) is (record { units = later.units; same = later.same })
  unwound_later (below tag origin item {rest = rest} {new = new} u) b s =
      let s' = state_after table.arrays s (item ∷ []) in
      LaterWalk-item table (fault_of table.arrays s (item ∷ [])) (prints_of s (item ∷ [])) (walk table.arrays new s') (walk table.arrays rest s') (unwound_later u b.1 s')
  unwound_later (at_yes tag origin on {one = one} {new = new} other u) b s =
      LaterWalk-side table (holds (operand_value s.names on)) (walk table.arrays new s) (walk table.arrays one s) (walk table.arrays other s) (walk table.arrays other s)
      (unwound_later u b.1 s) (LaterWalk-refl table (walk table.arrays other s))
  unwound_later (at_no tag origin on one {other = other} {new = new} u) b s =
      LaterWalk-side table (holds (operand_value s.names on)) (walk table.arrays one s) (walk table.arrays one s) (walk table.arrays new s) (walk table.arrays other s)
      (LaterWalk-refl table (walk table.arrays one s)) (unwound_later u b.2 s)

follow-grows : (table : Table) (w : Walked) → Grows (follow table w)
follow-grows table (Leaves printed region s) =
    let grows = run_from-grows (region_step table) (place_at table (Next region) s) in
    record {
      prints_more = λ n m le. Begins-after printed (region_run table (Next region) s n).printed (region_run table (Next region) s m).printed (grows.prints_more n m le);
      stays_ended = λ n m e le ended. ap (λ (x : Seen). after_printing printed x) (grows.stays_ended n m e le ended);
    }
follow-grows table (Finishes printed end) = record { prints_more = λ n m le. Begins-refl printed; stays_ended = λ n m e le ended. refl }

-- a window runs as before a stub was unwound
pub unwound_agrees : (table : Table) → TableKeeps table → (loop : Option ℕ) (least : ℕ) (names : Supply) (t : Tree) (g : Grafted)
    → unwound_at table loop least names t ≡ Some g → TreeBelow names.next t → (s : State)
    → Agree (free_run table g.tree s) (free_run table t s)
unfolding IsUnwound
unwound_agrees table keeps loop least names t g e b s =
    let later = unwound_later table keeps loop names g.names (unwound_is table loop least names t g e) b s in
    Agree-later (free_run table g.tree s) (free_run table t s) later.units (follow-grows table (walk table.arrays t s)) later.same

-- ---- forms

-- what is used or written in a tree whose names are below a number is below it
operand_below : (n : ℕ) (o : Operand) (x : ℕ) → OperandBelow n o → reads_name o x ≡ true → x < n
operand_below n (Name y) x b h = let e = nat_eq-tells y x h in omega arith
operand_below n (Lit value) x b h = absurd (cc)

two_below : (n : ℕ) (l r : Operand) (x : ℕ) → OperandBelow n l → OperandBelow n r → (reads_name l x || reads_name r x) ≡ true → x < n
two_below n l r x p q h = elim (or_true (reads_name l x) (reads_name r x) h) [ inl e ↦ operand_below n l x p e | inr e ↦ operand_below n r x q e ]

read_below : (n : ℕ) (item : Item) (x : ℕ) → ItemBelow n item → reads item x ≡ true → x < n
read_below n (Bin op dest left right) x b h = two_below n left right x b.1 b.2 h
read_below n (Copy dest from) x b h = operand_below n from x b.1 h
read_below n (Load dest array index) x b h = operand_below n index x b.1 h
read_below n (Store array index value) x b h = two_below n index value x b.0 b.1 h
read_below n (Print value) x b h = operand_below n value x b h
read_below n (Read dest) x b h = absurd (cc)
read_below n (More dest) x b h = absurd (cc)

homes_read_below : (n : ℕ) (homes : List Home) (x : ℕ) → StubBelow n homes → homes_use homes x ≡ true → x < n
homes_read_below n [] x b h = absurd (cc)
homes_read_below n (home ∷ homes) x b h = elim (or_true (reads_name home.value x) (homes_use homes x) h) [ inl e ↦ operand_below n home.value x b.0 e | inr e ↦ homes_read_below n homes x b.1 e ]

pub used_below : (n : ℕ) (t : Tree) (x : ℕ) → TreeBelow n t → uses t x ≡ true → x < n
used_below n (Pending tag origin item rest) x b h = elim (or_true (reads item x) (not (writes (dest_of item) x) && uses rest x) h) [
  | inl e ↦ read_below n item x b.0 e
  | inr e ↦ used_below n rest x b.1 (unwritten (writes (dest_of item) x) (uses rest x) e).1
]
used_below n (Undecided tag origin on one other) x b h = elim (or_true (reads_name on x) (uses one x || uses other x) h) [
  | inl e ↦ operand_below n on x b.0 e
  | inr e ↦ elim (or_true (uses one x) (uses other x) e) [ inl p ↦ used_below n one x b.1 p | inr p ↦ used_below n other x b.2 p ]
]
used_below n (Exit region tag homes) x b h = homes_read_below n homes x b h
used_below n Stop_exit x b h = absurd (cc)
used_below n (Trap_exit kind line) x b h = absurd (cc)

-- after an item, the parameters of the rest have the values of their forms
after_parameters : (σ : ℕ → ℤ) (forms : ℕ → Form) (lengths : List ℕ) (item : Item) (rest : Tree) (s : State) (d : Option ℕ) (value : ℤ)
    → ((x : ℕ) → (reads item x || (not (writes d x) && uses rest x)) ≡ true → Means σ (forms x) (s.names x)) → DefinedMeans σ forms d value
    → (x : ℕ) → uses rest x ≡ true → Means σ (forms x) (if writes d x then value else s.names x)
after_parameters σ forms lengths item rest s None value h m x u = h x (needed_above (reads item x) false (uses rest x) refl u)
after_parameters σ forms lengths item rest s (Some y) value h m x u = by_test (nat_eq y x) refl
  where
    same : nat_eq y x ≡ true → y ≡ x
    same e = nat_eq-tells y x e

    by_test : (b : Bool) → nat_eq y x ≡ b → Means σ (forms x) (if b then value else s.names x)
    by_test true e = subst (λ (z : ℕ). Means σ (forms z) value) (same e) m
    by_test false e = h x (needed_above (reads item x) (nat_eq y x) (uses rest x) e u)

-- forms hold on the rest after an item
pub HoldUnder-after : (σ : ℕ → ℤ) (forms : ℕ → Form) (lengths : List ℕ) (tag origin : ℕ) (item : Item) (rest : Tree) (s : State)
    → HoldUnder σ forms lengths (Pending tag origin item rest) s
    → HoldUnder σ forms lengths rest (state_after lengths s (item ∷ []))
HoldUnder-after σ forms lengths tag origin item rest s h = record {
  parameters = after_parameters σ forms lengths item rest s (dest_of item) (value_of lengths s item) h.parameters h.defined.0;
  defined = h.defined.1;
}

-- what is defined has the value of its form with more names and variables too
written_later : (names later : Supply) (σ τ : ℕ → ℤ) (d : ℕ) (value : ℤ) → Extends names later → GoesOn names.next_variable σ τ → FormsBelow names → d < names.next
    → Means σ (names.forms d) value → Means τ (later.forms d) value
written_later names later σ τ d value more goes b lt h =
    subst (λ (f : Form). Means τ f value) (sym (more.forms d lt)) (Means-agree names.next_variable σ τ (names.forms d) value goes.same (b.form d) h)

defined_item : (names later : Supply) (σ τ : ℕ → ℤ) (item : Item) (value : ℤ) → Extends names later → GoesOn names.next_variable σ τ → FormsBelow names → ItemBelow names.next item
    → DefinedMeans σ names.forms (dest_of item) value → DefinedMeans τ later.forms (dest_of item) value
defined_item names later σ τ (Bin op dest left right) value more goes b lt h = written_later names later σ τ dest value more goes b lt.0 h
defined_item names later σ τ (Copy dest from) value more goes b lt h = written_later names later σ τ dest value more goes b lt.0 h
defined_item names later σ τ (Load dest array index) value more goes b lt h = written_later names later σ τ dest value more goes b lt.0 h
defined_item names later σ τ (Store array index word) value more goes b lt h = tt
defined_item names later σ τ (Print word) value more goes b lt h = tt
defined_item names later σ τ (Read dest) value more goes b lt h = written_later names later σ τ dest value more goes b lt h
defined_item names later σ τ (More dest) value more goes b lt h = written_later names later σ τ dest value more goes b lt h

pub Side-map : (b : Bool) (A B C D : Type 0) → (A → C) → (B → D) → Side b A B → Side b C D
Side-map true A B C D f g h = f h
Side-map false A B C D f g h = g h

pub defined_later : (names later : Supply) (σ τ : ℕ → ℤ) (lengths : List ℕ) (t : Tree) (s : State)
    → Extends names later → GoesOn names.next_variable σ τ → FormsBelow names → TreeBelow names.next t
    → DefinedHold σ names.forms lengths t s → DefinedHold τ later.forms lengths t s
defined_later names later σ τ lengths (Pending tag origin item rest) s more goes b lt h = (
  defined_item names later σ τ item (value_of lengths s item) more goes b lt.0 h.0,
  defined_later names later σ τ lengths rest (state_after lengths s (item ∷ [])) more goes b lt.1 h.1,
)
defined_later names later σ τ lengths (Undecided tag origin on one other) s more goes b lt h =
    Side-map (holds (operand_value s.names on)) (DefinedHold σ names.forms lengths one s) (DefinedHold σ names.forms lengths other s)
    (DefinedHold τ later.forms lengths one s) (DefinedHold τ later.forms lengths other s)
    (λ p. defined_later names later σ τ lengths one s more goes b lt.1 p) (λ p. defined_later names later σ τ lengths other s more goes b lt.2 p) h
defined_later names later σ τ lengths (Exit region tag homes) s more goes b lt h = tt
defined_later names later σ τ lengths Stop_exit s more goes b lt h = tt
defined_later names later σ τ lengths (Trap_exit kind line) s more goes b lt h = tt

-- a test's side, where forms hold on it if it is the one that is taken
held_side : (σ : ℕ → ℤ) (forms later : ℕ → Form) (lengths : List ℕ) (m tag origin : ℕ) (on : Operand) (one other new new' : Tree) (s : State) (b : Bool)
    → holds (operand_value s.names on) ≡ b
    → (DefinedHold σ forms lengths one s → Held m σ later lengths new s) → (DefinedHold σ forms lengths other s → Held m σ later lengths new' s)
    → DefinedHold σ forms lengths (Undecided tag origin on one other) s → Held m σ later lengths (Undecided tag origin on new new') s
held_side σ forms later lengths m tag origin on one other new new' s true e f g h =
    let p = f (subst (λ (c : Bool). Side c (DefinedHold σ forms lengths one s) (DefinedHold σ forms lengths other s)) e h) in
    record {
      values = p.values;
      goes_on = p.goes_on;
      defined = subst (λ (c : Bool). Side c (DefinedHold p.values later lengths new s) (DefinedHold p.values later lengths new' s)) (sym e) p.defined;
    }
held_side σ forms later lengths m tag origin on one other new new' s false e f g h =
    let p = g (subst (λ (c : Bool). Side c (DefinedHold σ forms lengths one s) (DefinedHold σ forms lengths other s)) e h) in
    record {
      values = p.values;
      goes_on = p.goes_on;
      defined = subst (λ (c : Bool). Side c (DefinedHold p.values later lengths new s) (DefinedHold p.values later lengths new' s)) (sym e) p.defined;
    }

-- the homes of a stub whose parameters have the values of their forms
stub_means : (σ : ℕ → ℤ) (forms : ℕ → Form) (region tag : ℕ) (homes : List Home) (s : State)
    → ParametersHold σ forms (Exit region tag homes) s → HomesMean σ forms s.names (home_of homes)
stub_means σ forms region tag homes s h = record { home = λ v. operand_means σ forms s.names (home_of homes v) (λ x e. h x (home_of-used homes v x e)) }

module _ (table : Table) (loop : Option ℕ) (names after : Supply) (fb : FormsBelow names) where
  pub unwound-extends : {t u : Tree} → Unwound table loop names after t u → Extends names after
  unwound-extends (at_stub region tag homes tree is kept) = subst (λ (a : Supply). Extends names a) kept (graft-extends table loop tag (region_tree table region) names (home_of homes))
  unwound-extends (below tag origin item u) = unwound-extends u
  unwound-extends (at_yes tag origin on other u) = unwound-extends u
  unwound-extends (at_no tag origin on one u) = unwound-extends u

  pub unwound-uses : {t u : Tree} → Unwound table loop names after t u → (x : ℕ) → uses u x ≡ true → uses t x ≡ true
  unwound-uses (at_stub region tag homes tree is kept) x h =
      let home = graft-uses table loop tag (region_tree table region) names (home_of homes) x (ap (λ (t : Tree). uses t x) is ∙ h) in
      home_of-used homes home.variable x home.is
  unwound-uses (below tag origin item {rest = rest} {new = new} u) x h = elim (or_true (reads item x) (not (writes (dest_of item) x) && uses new x) h) [
    | inl e ↦ or_first (reads item x) (not (writes (dest_of item) x) && uses rest x) e
    | inr e ↦ let p = unwritten (writes (dest_of item) x) (uses new x) e in needed_above (reads item x) (writes (dest_of item) x) (uses rest x) p.0 (unwound-uses u x p.1)
  ]
  unwound-uses (at_yes tag origin on {one = one} {new = new} other u) x h = elim (or_true (reads_name on x) (uses new x || uses other x) h) [
    | inl e ↦ or_first (reads_name on x) (uses one x || uses other x) e
    | inr e ↦ or_second (reads_name on x) (uses one x || uses other x) (elim (or_true (uses new x) (uses other x) e) [
      | inl p ↦ or_first (uses one x) (uses other x) (unwound-uses u x p)
      | inr p ↦ or_second (uses one x) (uses other x) p
    ])
  ]
  unwound-uses (at_no tag origin on one {other = other} {new = new} u) x h = elim (or_true (reads_name on x) (uses one x || uses new x) h) [
    | inl e ↦ or_first (reads_name on x) (uses one x || uses other x) e
    | inr e ↦ or_second (reads_name on x) (uses one x || uses other x) (elim (or_true (uses one x) (uses new x) e) [
      | inl p ↦ or_first (uses one x) (uses other x) p
      | inr p ↦ or_second (uses one x) (uses other x) (unwound-uses u x p)
    ])
  ]

  side_parameters : (σ : ℕ → ℤ) (tag origin : ℕ) (on : Operand) (one other : Tree) (s : State) → ParametersHold σ names.forms (Undecided tag origin on one other) s
      → ParametersHold σ names.forms one s × ParametersHold σ names.forms other s
  side_parameters σ tag origin on one other s h = (
    λ x u. h x (or_second (reads_name on x) (uses one x || uses other x) (or_first (uses one x) (uses other x) u)),
    λ x u. h x (or_second (reads_name on x) (uses one x || uses other x) (or_second (uses one x) (uses other x) u)),
  )

  unwound_held : {t u : Tree} → Unwound table loop names after t u → TreeBelow names.next t → (s : State) (σ : ℕ → ℤ) → HoldUnder σ names.forms table.arrays t s
      → Held names.next_variable σ after.forms table.arrays u s
  unfolding GraftHolds
  unwound_held (at_stub region tag homes tree is kept) b s σ h =
      let grafted = graft table loop tag (region_tree table region) names (home_of homes) in
      let held = graft_holds table loop tag (region_tree table region) names (home_of homes) s σ grafted.names fb (homes-below names.next homes b)
      (stub_means σ names.forms region tag homes s h.parameters) (Extends-refl grafted.names) in
      subst (λ (u : Tree). Held names.next_variable σ after.forms table.arrays u s) is
      (subst (λ (a : Supply). Held names.next_variable σ a.forms table.arrays grafted.tree s) kept held)
  unwound_held (below tag origin item {rest = rest} {new = new} u) b s σ h =
      let s' = state_after table.arrays s (item ∷ []) in
      let held = unwound_held u b.1 s' σ (HoldUnder-after σ names.forms table.arrays tag origin item rest s h) in
      record {
        values = held.values;
        goes_on = held.goes_on;
        defined = (defined_item names after σ held.values item (value_of table.arrays s item) (unwound-extends u) held.goes_on fb b.0 h.defined.0, held.defined);
      }
  unwound_held (at_yes tag origin on {one = one} {new = new} other u) b s σ h =
      let sides = side_parameters σ tag origin on one other s h.parameters in
      held_side σ names.forms after.forms table.arrays names.next_variable tag origin on one other new other s (holds (operand_value s.names on)) refl
      (λ d. unwound_held u b.1 s σ (record { parameters = sides.0; defined = d }))
      (λ d. record {
        values = σ;
        goes_on = record { same = λ v lt. refl };
        defined = defined_later names after σ σ table.arrays other s
            (unwound-extends u) (record { same = λ v lt. refl }) fb b.2 d;
      })
      h.defined
  unwound_held (at_no tag origin on one {other = other} {new = new} u) b s σ h =
      let sides = side_parameters σ tag origin on one other s h.parameters in
      held_side σ names.forms after.forms table.arrays names.next_variable tag origin on one other one new s (holds (operand_value s.names on)) refl
      (λ d. record {
        values = σ;
        goes_on = record { same = λ v lt. refl };
        defined = defined_later names after σ σ table.arrays one s
            (unwound-extends u) (record { same = λ v lt. refl }) fb b.1 d;
      })
      (λ d. unwound_held u b.2 s σ (record { parameters = sides.1; defined = d }))
      h.defined

-- forms that held before a stub was unwound still hold
pub unwound_holds : (table : Table) (loop : Option ℕ) (least : ℕ) (names : Supply) (t : Tree) (g : Grafted) → unwound_at table loop least names t ≡ Some g
    → FormsBelow names → TreeBelow names.next t → (s : State)
    → TreeHolds names.forms table.arrays t s → TreeHolds g.names.forms table.arrays g.tree s
unfolding IsUnwound
unwound_holds table loop least names t g e fb b s h =
    let u = unwound_is table loop least names t g e in
    let held = unwound_held table loop names g.names fb u b s h.0 h.1 in
    let more = unwound-extends table loop names g.names fb u in (
      held.values,
      record {
        parameters = λ x used.
            let old = unwound-uses table loop names g.names fb u x used in
            written_later names g.names h.0 held.values x (s.names x) more held.goes_on fb (used_below names.next t x b old) (h.1.parameters x old);
        defined = held.defined;
      },
    )
