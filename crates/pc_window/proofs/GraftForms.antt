-- Forms hold on the walk of a grafted tree, once each new form variable has its value.
use Rattle.std.proofs.Common.{◌≡◌, ℕ, suc, ◌<◌, ◌≤◌, List, [], ◌∷◌, Option, Some, None, refl, sym, ◌∙◌, ap, subst, arith}
use Rattle.std.specs.Prelude.{IfSome, ℤ, Bool, true, false, if◌then◌else◌, nat_eq}
use Rattle.pc_word.specs.declared.item.Item.{Item}
use Rattle.pc_word.specs.declared.item.Item.TheVariants.{Bin, Copy, Load, Store, Print, Read, More}
use Rattle.pc_word.specs.declared.item.Operand.{Operand}
use Rattle.pc_word.specs.declared.item.Operand.TheVariants.{Name, Lit}
use Rattle.pc_word.specs.Word.{holds}
use Rattle.pc_word.specs.State.{State}
use Rattle.pc_word.specs.Items.{operand_value, dest_of, value_of}
use Rattle.pc_word.specs.Commit.{state_after, writes}
use Rattle.pc_linear.specs.Form.{Form, Means}
use Rattle.pc_linear.specs.Combine.{variable_form}
use Rattle.pc_window.specs.Opening.{FormBelow, Supply, changed, with_name, at_home, Brought, Moves_home, Gets_name, Stays_plain, brought, Grafted, graft_item, graft, OperandBelow, FormsBelow}
use Rattle.pc_table.specs.Table.{TableTree, Does, Asks, Next, Stops_here, Traps_here, Table}
use Rattle.pc_window.specs.Tree.{Tree, Pending, Undecided}
use Rattle.pc_window.specs.Hold.{operand_form, DefinedMeans, DefinedHold, Side}
use Rattle.pc_window.proofs.Forms.{combine-below, TermsBelow-later, Means-agree}
use Rattle.pc_linear.proofs.Forms.{combine_means, variable_means}
use Rattle.pc_window.proofs.Grafts.{Does_same, brought_same, HomesBelow, HomesBelow-later, HomesBelow-new, HomesBelow-changed, at_home_below, Extends, Extends-refl, Extends-trans}
use Rattle.pc_window.proofs.Grafts.{with_name-extends, nat_eq-same, nat_eq-less}
use Rattle.pc_window.proofs.Follows.{graft-extends}

-- an operand has the value of its form
abbrev pub OperandMeans : (ℕ → ℤ) → (ℕ → Form) → (ℕ → ℤ) → Operand → Type 0
OperandMeans σ forms values o = Means σ (operand_form forms o) (operand_value values o)

-- each home has the value of its form
pub record HomesMean (σ : ℕ → ℤ) (forms : ℕ → Form) (values : ℕ → ℤ) (homes : ℕ → Operand) : Type 0 where
  pub home : (v : ℕ) → OperandMeans σ forms values (homes v)

-- values of variables that go on from others: those below m are as before
pub record GoesOn (m : ℕ) (σ τ : ℕ → ℤ) : Type 0 where
  pub same : (v : ℕ) → v < m → τ v ≡ σ v

GoesOn-refl : (m : ℕ) (σ : ℕ → ℤ) → GoesOn m σ σ
GoesOn-refl m σ = record { same = λ v h. refl }

pub GoesOn-trans : (m n : ℕ) (σ τ υ : ℕ → ℤ) → m ≤ n → GoesOn m σ τ → GoesOn n τ υ → GoesOn m σ υ
GoesOn-trans m n σ τ υ le p q = record { same = λ v h. let lt : v < n = omega arith in q.same v lt ∙ p.same v h }

at_home_means : (σ : ℕ → ℤ) (forms : ℕ → Form) (values : ℕ → ℤ) (homes : ℕ → Operand) (o : Operand)
    → HomesMean σ forms values homes → OperandMeans σ forms values (at_home homes o)
at_home_means σ forms values homes (Name v) h = h.home v
at_home_means σ forms values homes (Lit value) h = refl

form_of_below : (names : Supply) (o : Operand) → FormsBelow names → OperandBelow names.next o → FormBelow names.next_variable (operand_form names.forms o)
form_of_below names (Name x) b h = b.form x
form_of_below names (Lit value) b h = tt

-- ---- one more name

-- the values of form variables with one more name
abbrev pub with_value : (ℕ → ℤ) → ℕ → ℤ → Option Form → ℕ → ℤ
with_value σ m value None = changed σ m value
with_value σ m value (Some f) = σ

with_value-goes_on : (σ : ℕ → ℤ) (m : ℕ) (value : ℤ) (form : Option Form) → GoesOn m σ (with_value σ m value form)
with_value-goes_on σ m value None = record { same = λ v h. ap (λ (b : Bool). if b then value else σ v) (nat_eq-less m v h) }
with_value-goes_on σ m value (Some f) = GoesOn-refl m σ

changed_same : {X : Type 0} (f : ℕ → X) (n : ℕ) (value : X) → changed f n value n ≡ value
changed_same f n value = ap (λ (b : Bool). if b then value else f n) (nat_eq-same n)

-- the new name's value is what its form says
new_name_means : (σ : ℕ → ℤ) (names : Supply) (value : ℤ) (form : Option Form) → IfSome form (λ f. Means σ f value)
    → Means (with_value σ names.next_variable value form) ((with_name names form).forms names.next) value
new_name_means σ names value None r =
    subst (λ (f : Form). Means (changed σ names.next_variable value) f value) (sym (changed_same names.forms names.next (variable_form names.next_variable)))
    (variable_means (changed σ names.next_variable value) names.next_variable value (changed_same σ names.next_variable value))
new_name_means σ names value (Some f) r = subst (λ (g : Form). Means σ g value) (sym (changed_same names.forms names.next f)) r

pub with_name-below : (names : Supply) (form : Option Form) → IfSome form (FormBelow names.next_variable) → FormsBelow names → FormsBelow (with_name names form)
with_name-below names None r b = record { form = λ x. by_test x (nat_eq names.next x) }
  where
    by_test : (x : ℕ) (c : Bool) → FormBelow (suc names.next_variable) (if c then variable_form names.next_variable else names.forms x)
    by_test x true = (omega arith, tt)
    by_test x false = TermsBelow-later names.next_variable (suc names.next_variable) (names.forms x).terms (omega arith) (b.form x)
with_name-below names (Some g) r b = record { form = λ x. by_test x (nat_eq names.next x) }
  where
    by_test : (x : ℕ) (c : Bool) → FormBelow names.next_variable (if c then g else names.forms x)
    by_test x true = r
    by_test x false = b.form x

-- what an operand means is kept, with more names, more variables and other values of new names
pub OperandMeans-later : (names later : Supply) (σ τ : ℕ → ℤ) (values others : ℕ → ℤ) (o : Operand) → Extends names later → GoesOn names.next_variable σ τ → FormsBelow names
    → ((x : ℕ) → x < names.next → others x ≡ values x) → OperandBelow names.next o → OperandMeans σ names.forms values o → OperandMeans τ later.forms others o
OperandMeans-later names later σ τ values others (Name x) more goes b same lt h =
    subst (λ (f : Form). Means τ f (others x)) (sym (more.forms x lt))
    (subst (λ (z : ℤ). Means τ (names.forms x) z) (sym (same x lt))
    (Means-agree names.next_variable σ τ (names.forms x) (values x) goes.same (b.form x) h))
OperandMeans-later names later σ τ values others (Lit value) more goes b same lt h = refl

pub HomesMean-later : (names later : Supply) (σ τ : ℕ → ℤ) (values others : ℕ → ℤ) (homes : ℕ → Operand)
    → Extends names later → GoesOn names.next_variable σ τ → FormsBelow names
    → ((x : ℕ) → x < names.next → others x ≡ values x) → HomesBelow names.next homes → HomesMean σ names.forms values homes → HomesMean τ later.forms others homes
unfolding HomesBelow
HomesMean-later names later σ τ values others homes more goes b same below h =
    record { home = λ v. OperandMeans-later names later σ τ values others (homes v) more goes b same (below v) (h.home v) }

-- one more home
HomesMean-changed : (σ : ℕ → ℤ) (forms : ℕ → Form) (values : ℕ → ℤ) (homes : ℕ → Operand) (v : ℕ) (o : Operand)
    → OperandMeans σ forms values o → HomesMean σ forms values homes
    → HomesMean σ forms values (changed homes v o)
HomesMean-changed σ forms values homes v o h hs = record { home = λ x. by_test x (nat_eq v x) }
  where
    by_test : (x : ℕ) (b : Bool) → OperandMeans σ forms values (if b then o else homes x)
    by_test x true = h
    by_test x false = hs.home x

-- ---- what an item gets

abbrev pub BelowIn : Supply → Brought → Type 0
BelowIn names (Moves_home variable from) = OperandBelow names.next from
BelowIn names (Gets_name variable given form) = IfSome form (FormBelow names.next_variable)
BelowIn names (Stays_plain given) = Unit

pub brought-below : (names : Supply) (homes : ℕ → Operand) (item : Item) → FormsBelow names → HomesBelow names.next homes → BelowIn names (brought names homes item)
brought-below names homes (Bin op dest left right) b h =
    combine-below names.next_variable op (operand_form names.forms (at_home homes left)) (operand_form names.forms (at_home homes right))
    (form_of_below names (at_home homes left) b (at_home_below names.next homes left h)) (form_of_below names (at_home homes right) b (at_home_below names.next homes right h))
brought-below names homes (Copy dest from) b h = at_home_below names.next homes from h
brought-below names homes (Load dest array index) b h = tt
brought-below names homes (Store array index value) b h = tt
brought-below names homes (Print value) b h = tt
brought-below names homes (Read dest) b h = tt
brought-below names homes (More dest) b h = tt

-- what is owed of an item: its form, where it has one, means what it writes
abbrev pub MeansIn : List ℕ → (ℕ → ℤ) → (ℕ → Form) → State → Brought → Type 0
MeansIn lengths σ forms s (Moves_home variable from) = OperandMeans σ forms s.names from
MeansIn lengths σ forms s (Gets_name variable given form) = IfSome form (λ f. Means σ f (value_of lengths s given))
MeansIn lengths σ forms s (Stays_plain given) = Unit

pub brought-means : (lengths : List ℕ) (σ : ℕ → ℤ) (names : Supply) (homes : ℕ → Operand) (s : State) (item : Item) → HomesMean σ names.forms s.names homes
    → MeansIn lengths σ names.forms s (brought names homes item)
brought-means lengths σ names homes s (Bin op dest left right) h =
    combine_means σ op (operand_form names.forms (at_home homes left)) (operand_form names.forms (at_home homes right)) (operand_value s.names (at_home homes left))
    (operand_value s.names (at_home homes right))
    (at_home_means σ names.forms s.names homes left h) (at_home_means σ names.forms s.names homes right h)
brought-means lengths σ names homes s (Copy dest from) h = at_home_means σ names.forms s.names homes from h
brought-means lengths σ names homes s (Load dest array index) h = tt
brought-means lengths σ names homes s (Store array index value) h = tt
brought-means lengths σ names homes s (Print value) h = tt
brought-means lengths σ names homes s (Read dest) h = tt
brought-means lengths σ names homes s (More dest) h = tt

-- ---- forms of a grafted tree

module _ (table : Table) (loop : Option ℕ) (tag : ℕ) where
  graft_item-below : (origin : ℕ) (b : Brought) (names : Supply) (homes : ℕ → Operand) (rest : Supply → (ℕ → Operand) → Grafted)
      → BelowIn names b → FormsBelow names → HomesBelow names.next homes
      → ((names : Supply) (homes : ℕ → Operand) → FormsBelow names → HomesBelow names.next homes → FormsBelow (rest names homes).names)
      → FormsBelow (graft_item tag origin b names homes rest).names
  graft_item-below origin (Moves_home variable from) names homes rest r b h next = next names (changed homes variable from) b (HomesBelow-changed names.next homes variable from r h)
  graft_item-below origin (Gets_name variable given form) names homes rest r b h next =
      next (with_name names form) (changed homes variable (Name names.next)) (with_name-below names form r b) (HomesBelow-new names form homes variable h)
  graft_item-below origin (Stays_plain given) names homes rest r b h next = next names homes b h

  pub graft-below : (tree : TableTree) (names : Supply) (homes : ℕ → Operand) → FormsBelow names → HomesBelow names.next homes → FormsBelow (graft table loop tag tree names homes).names
  graft-below (Does origin item rest) names homes b h =
      graft_item-below origin (brought names homes item) names homes (graft table loop tag rest) (brought-below names homes item b h) b h (graft-below rest)
  graft-below (Asks origin on on_yes on_no) names homes b h =
      let after = (graft table loop tag on_yes names homes).names in
      graft-below on_no after homes (graft-below on_yes names homes b h) (HomesBelow-later names.next after.next homes (graft-extends table loop tag on_yes names homes).next h)
  graft-below (Next region) names homes b h = b
  graft-below Stops_here names homes b h = b
  graft-below (Traps_here kind line) names homes b h = b

-- there are values of the form variables, that go on from given ones, with which all that the walk defines has the value of its form
pub record Held (m : ℕ) (σ : ℕ → ℤ) (forms : ℕ → Form) (lengths : List ℕ) (tree : Tree) (s : State) : Type 0 where
  pub values : ℕ → ℤ
  pub goes_on : GoesOn m σ values
  pub defined : DefinedHold values forms lengths tree s

-- the forms of a grafted tree hold, from homes that have the values of their forms, whatever names come later
unfoldable pub GraftHolds : Table → Option ℕ → ℕ → TableTree → Type 0
GraftHolds table loop tag tree =
    (names : Supply) (homes : ℕ → Operand) (s : State) (σ : ℕ → ℤ) (final : Supply) → FormsBelow names → HomesBelow names.next homes → HomesMean σ names.forms s.names homes
    → Extends (graft table loop tag tree names homes).names final
    → Held names.next_variable σ final.forms table.arrays (graft table loop tag tree names homes).tree s

side_held : (σ : ℕ → ℤ) (forms : ℕ → Form) (lengths : List ℕ) (m tag origin : ℕ) (on : Operand) (one other : Tree) (s : State) (b : Bool) → holds (operand_value s.names on) ≡ b
    → Held m σ forms lengths one s → Held m σ forms lengths other s → Held m σ forms lengths (Undecided tag origin on one other) s
side_held σ forms lengths m tag origin on one other s true e p q = record {
  values = p.values;
  goes_on = p.goes_on;
  defined = subst (λ (c : Bool). Side c (DefinedHold p.values forms lengths one s) (DefinedHold p.values forms lengths other s)) (sym e) p.defined;
}
side_held σ forms lengths m tag origin on one other s false e p q = record {
  values = q.values;
  goes_on = q.goes_on;
  defined = subst (λ (c : Bool). Side c (DefinedHold q.values forms lengths one s) (DefinedHold q.values forms lengths other s)) (sym e) q.defined;
}

Held-earlier : (m n : ℕ) (σ : ℕ → ℤ) (forms : ℕ → Form) (lengths : List ℕ) (tree : Tree) (s : State) → m ≤ n → Held n σ forms lengths tree s → Held m σ forms lengths tree s
Held-earlier m n σ forms lengths tree s le h = record {
  values = h.values;
  goes_on = record { same = λ v p. let lt : v < n = omega arith in h.goes_on.same v lt };
  defined = h.defined;
}

module _ (table : Table) (loop : Option ℕ) (tag : ℕ) where
  -- with a new name: its form means its value, and the homes have the values of their forms after it
  held_named : (origin : ℕ) (item given : Item) (form : Option Form) (variable : ℕ) (rest : TableTree) (names : Supply) (homes : ℕ → Operand) (s : State) (σ : ℕ → ℤ) (final : Supply)
      → dest_of given ≡ Some names.next → FormsBelow names → HomesBelow names.next homes → HomesMean σ names.forms s.names homes
      → IfSome form (FormBelow names.next_variable) → IfSome form (λ f. Means σ f (value_of table.arrays s given))
      → Extends (graft table loop tag rest (with_name names form) (changed homes variable (Name names.next))).names final → GraftHolds table loop tag rest
      → Held names.next_variable σ final.forms table.arrays (Pending tag origin given (graft table loop tag rest (with_name names form) (changed homes variable (Name names.next))).tree) s
  unfolding GraftHolds
  held_named origin item given form variable rest names homes s σ final dest b h m below means more holds_for =
      let names' = with_name names form in
      let homes' = changed homes variable (Name names.next) in
      let value = value_of table.arrays s given in
      let s' = state_after table.arrays s (given ∷ []) in
      let τ = with_value σ names.next_variable value form in
      let b' : FormsBelow names' = with_name-below names form below b in
      let h' : HomesBelow names'.next homes' = HomesBelow-new names form homes variable h in
      let more' : Extends names names' = with_name-extends names form in
      let all : Extends names' final = Extends-trans names' (graft table loop tag rest names' homes').names final (graft-extends table loop tag rest names' homes') more in
      let goes = with_value-goes_on σ names.next_variable value form in
      let new : Means τ (names'.forms names.next) value = new_name_means σ names value form means in
      let at_new : s'.names names.next ≡ value =
      ap (λ (d : Option ℕ). if writes d names.next then value else s.names names.next) dest ∙ ap (λ (c : Bool). if c then value else s.names names.next) (nat_eq-same names.next) in
      let at_old : (x : ℕ) → x < names.next → s'.names x ≡ s.names x = λ x lt.
      ap (λ (d : Option ℕ). if writes d x then value else s.names x) dest ∙ ap (λ (c : Bool). if c then value else s.names x) (nat_eq-less names.next x lt) in
      let m' : HomesMean τ names'.forms s'.names homes' =
      HomesMean-changed τ names'.forms s'.names homes variable (Name names.next) (subst (λ (z : ℤ). Means τ (names'.forms names.next) z) (sym at_new) new)
      (HomesMean-later names names' σ τ s.names s'.names homes more' goes b at_old h m) in
      let held = holds_for names' homes' s' τ final b' h' m' more in
      let next_is = with_name-next' names form in
      let lt : names.next < names'.next = omega arith in
      let le = more'.next_variable in
      record {
        values = held.values;
        goes_on = GoesOn-trans names.next_variable names'.next_variable σ τ held.values le goes held.goes_on;
        defined = (
          subst (λ (d : Option ℕ). DefinedMeans held.values final.forms d value) (sym dest)
              (subst (λ (f : Form). Means held.values f value) (sym (all.forms names.next lt))
              (Means-agree names'.next_variable τ held.values (names'.forms names.next) value held.goes_on.same (b'.form names.next) new)),
          held.defined,
        );
      }
    where
      with_name-next' : (names : Supply) (form : Option Form) → (with_name names form).next ≡ suc names.next
      with_name-next' names (Some form) = refl
      with_name-next' names None = refl

  held_item : (origin : ℕ) (item : Item) (rest : TableTree) (names : Supply) (homes : ℕ → Operand) (s : State) (σ : ℕ → ℤ) (final : Supply)
      → FormsBelow names → HomesBelow names.next homes → HomesMean σ names.forms s.names homes
      → (b : Brought) → BelowIn names b → MeansIn table.arrays σ names.forms s b → Does_same table.arrays names homes s item b
      → Extends (graft_item tag origin b names homes (graft table loop tag rest)).names final → GraftHolds table loop tag rest
      → Held names.next_variable σ final.forms table.arrays (graft_item tag origin b names homes (graft table loop tag rest)).tree s
  unfolding GraftHolds
  held_item origin item rest names homes s σ final fb h m (Moves_home variable from) below means same more holds_for =
      holds_for names (changed homes variable from) s σ final fb (HomesBelow-changed names.next homes variable from below h)
      (HomesMean-changed σ names.forms s.names homes variable from means m) more
  held_item origin item rest names homes s σ final fb h m (Gets_name variable given form) below means same more holds_for =
      held_named origin item given form variable rest names homes s σ final same.new fb h m below means more holds_for
  held_item origin item rest names homes s σ final fb h m (Stays_plain given) below means same more holds_for =
      let s' = state_after table.arrays s (given ∷ []) in
      let value = value_of table.arrays s given in
      let old : (x : ℕ) → x < names.next → s'.names x ≡ s.names x = λ x lt. ap (λ (d : Option ℕ). if writes d x then value else s.names x) same.none in
      let held = holds_for names homes s' σ final fb h (HomesMean-later names names σ σ s.names s'.names homes (Extends-refl names) (GoesOn-refl names.next_variable σ) fb old h m) more in
      record {
        values = held.values;
        goes_on = held.goes_on;
        defined = (subst (λ (d : Option ℕ). DefinedMeans held.values final.forms d value) (sym same.none) tt, held.defined);
      }

  -- forms hold on the walk of a grafted tree
  pub graft_holds : (tree : TableTree) → GraftHolds table loop tag tree
  unfolding GraftHolds
  graft_holds (Does origin item rest) names homes s σ final b h m more =
      held_item origin item rest names homes s σ final b h m (brought names homes item) (brought-below names homes item b h) (brought-means table.arrays σ names homes s item m)
      (brought_same table.arrays names homes s item) more (graft_holds rest)
  graft_holds (Asks origin on on_yes on_no) names homes s σ final b h m more =
      let one = graft table loop tag on_yes names homes in
      let other = graft table loop tag on_no one.names homes in
      let grown = graft-extends table loop tag on_yes names homes in
      let grown' = graft-extends table loop tag on_no one.names homes in
      let h' = HomesBelow-later names.next one.names.next homes grown.next h in
      side_held σ final.forms table.arrays names.next_variable tag origin (at_home homes on) one.tree other.tree s (holds (operand_value s.names (at_home homes on))) refl
      (graft_holds on_yes names homes s σ final b h m (Extends-trans one.names other.names final grown' more))
      (Held-earlier names.next_variable one.names.next_variable σ final.forms table.arrays other.tree s grown.next_variable
      (graft_holds on_no one.names homes s σ final (graft-below table loop tag on_yes names homes b h) h'
      (HomesMean-later names one.names σ σ s.names s.names homes grown (GoesOn-refl names.next_variable σ) b (λ x lt. refl) h m) more))
  graft_holds (Next region) names homes s σ final b h m more = record { values = σ; goes_on = GoesOn-refl names.next_variable σ; defined = tt }
  graft_holds Stops_here names homes s σ final b h m more = record { values = σ; goes_on = GoesOn-refl names.next_variable σ; defined = tt }
  graft_holds (Traps_here kind line) names homes s σ final b h m more = record { values = σ; goes_on = GoesOn-refl names.next_variable σ; defined = tt }
