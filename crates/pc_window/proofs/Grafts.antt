-- A region's tree with homes in place of variables walks as the region runs.
use Rattle.std.proofs.Common.{◌≡◌, ℕ, suc, ◌+◌, ◌<◌, ◌≤◌, List, [], ◌∷◌, Option, Some, None, refl, sym, ◌∙◌, ap, arith, append_assoc}
use Rattle.std.specs.Prelude.{ℤ, Bool, true, false, if◌then◌else◌, nat_eq}
use Rattle.pc_word.specs.declared.item.Item.{Item}
use Rattle.pc_word.specs.declared.item.Item.TheVariants.{Bin, Copy, Load, Store, Print, Read, More}
use Rattle.pc_word.specs.declared.item.Operand.{Operand}
use Rattle.pc_word.specs.declared.item.Operand.TheVariants.{Name, Lit}
use Rattle.pc_word.specs.declared.item.MachineFault.{MachineFault}
use Rattle.pc_word.specs.Run.{Seen, after_printing, seen_of, run_from}
use Rattle.pc_word.specs.State.{State}
use Rattle.pc_word.specs.Items.{operand_value, dest_of, value_of}
use Rattle.pc_word.specs.Commit.{prints_of, state_after, writes}
use Rattle.pc_linear.specs.Form.{Form}
use Rattle.pc_linear.specs.Combine.{variable_form}
use Rattle.pc_table.specs.Table.{TableTree, Next, Table}
use Rattle.pc_table.specs.RegionRun.{Place, place_at, lead_on, region_step, region_run}
use Rattle.pc_word.specs.Row.{commit_of}
use Rattle.pc_window.specs.Walk.{Walked, Leaves, Finishes, printing, done_first}
use Rattle.pc_window.specs.Tree.{state_at}
use Rattle.pc_window.specs.WindowRun.{follow}
use Rattle.pc_window.specs.Opening.{Supply, changed, with_name, at_home, Brought, Moves_home, Gets_name, Stays_plain, brought, OperandBelow}
use Rattle.pc_word.proofs.Evaluated.{Alike, Alike-value, Alike-after, states_equal}

-- all homes are names below a number, or literals
unfoldable pub HomesBelow : ℕ → (ℕ → Operand) → Type 0
HomesBelow n homes = (v : ℕ) → OperandBelow n (homes v)

-- numbers printed before a walk are printed before what follows it
pub follow-after : (table : Table) (out : List ℤ) (w : Walked) (n : ℕ) → follow table (printing out w) n ≡ after_printing out (follow table w n)
follow-after table out (Leaves printed region s) n =
    let seen = region_run table (Next region) s n in
    ap (λ (l : List ℤ). let x : Seen = record { printed = l; end = seen.end } in x) (append_assoc out printed seen.printed)
follow-after table out (Finishes printed end) n = refl

-- an item before a walk, and a step before a run
pub stepped : (table : Table) (item : Item) (t : State) (rest : TableTree) (out : List ℤ) (w : Walked) (k : ℕ) (f : Option MachineFault)
    → out ≡ prints_of t (item ∷ [])
    → ((n : ℕ) → follow table w n ≡ run_from (region_step table) (k + n) (place_at table rest (state_after table.arrays t (item ∷ []))))
    → (n : ℕ) → follow table (done_first f out w) n ≡ seen_of (lead_on (commit_of table.arrays t (item ∷ []) rest f) (place_at table)) (run_from (region_step table) (k + n))
stepped table item t rest out w k (Some fault) p h n = refl
stepped table item t rest out w k None p h n = follow-after table out w n ∙ (λ d. after_printing (p d) (h n d))

-- what n + 1 steps show is what one step and n more do
pub one_more : (table : Table) (p : Place) (k n : ℕ) → run_from (region_step table) (suc k + n) p ≡ seen_of (region_step table p) (run_from (region_step table) (k + n))
one_more table p k n = let e : suc k + n ≡ suc (k + n) = omega arith in ap (λ (j : ℕ). run_from (region_step table) j p) e

-- the value of an operand, at the homes, is that of the operand
pub at_home_value : (homes : ℕ → Operand) (s : State) (o : Operand) → operand_value s.names (at_home homes o) ≡ operand_value (state_at homes s).names o
at_home_value homes s (Name v) = refl
at_home_value homes s (Lit value) = refl

pub nat_eq-same : (n : ℕ) → nat_eq n n ≡ true
nat_eq-same n = grind arith

pub nat_eq-less : (n x : ℕ) → x < n → nat_eq n x ≡ false
nat_eq-less n x h = grind arith

-- a name that is new changes no operand below it
pub new_changes_none : (n : ℕ) (value : ℤ) (names : ℕ → ℤ) (o : Operand) → OperandBelow n o → operand_value (λ x. if nat_eq n x then value else names x) o ≡ operand_value names o
new_changes_none n value names (Name x) h = ap (λ (b : Bool). if b then value else names x) (nat_eq-less n x h)
new_changes_none n value names (Lit z) h = refl

-- the new name's value is what was written
pub new_value : (n : ℕ) (value : ℤ) (names : ℕ → ℤ) → (if nat_eq n n then value else names n) ≡ value
new_value n value names = ap (λ (b : Bool). if b then value else names n) (nat_eq-same n)

-- the value at a home that was changed
changed_value : (b : Bool) (names : ℕ → ℤ) (one other : Operand) → operand_value names (if b then one else other) ≡ (if b then operand_value names one else operand_value names other)
changed_value true names one other = refl
changed_value false names one other = refl

-- ---- what becomes of an item does the same

-- an item that gets a new name
pub record Gives (lengths : List ℕ) (names : Supply) (homes : ℕ → Operand) (s : State) (item : Item) (variable : ℕ) (given : Item) : Type 0 where
  pub alike : Alike s given (state_at homes s) item
  pub dest : dest_of item ≡ Some variable
  pub new : dest_of given ≡ Some names.next

-- an item that writes no name
pub record StaysSame (homes : ℕ → Operand) (s : State) (item : Item) (given : Item) : Type 0 where
  pub alike : Alike s given (state_at homes s) item
  pub dest : dest_of item ≡ None
  pub none : dest_of given ≡ None

-- a copy
pub record Copies (homes : ℕ → Operand) (item : Item) (variable : ℕ) (from : Operand) : Type 0 where
  pub source : Operand
  pub item_is : item ≡ Copy variable source
  pub from_is : from ≡ at_home homes source

-- what is owed in each of the three cases
abbrev pub Does_same : List ℕ → Supply → (ℕ → Operand) → State → Item → Brought → Type 0
Does_same lengths names homes s item (Moves_home variable from) = Copies homes item variable from
Does_same lengths names homes s item (Gets_name variable given form) = Gives lengths names homes s item variable given
Does_same lengths names homes s item (Stays_plain given) = StaysSame homes s item given

pub brought_same : (lengths : List ℕ) (names : Supply) (homes : ℕ → Operand) (s : State) (item : Item) → Does_same lengths names homes s item (brought names homes item)
brought_same lengths names homes s (Bin op dest left right) = record {
  alike = record { items = λ d. Bin op 0 (Lit (at_home_value homes s left d)) (Lit (at_home_value homes s right d)); states = refl };
  dest = refl;
  new = refl;
}
brought_same lengths names homes s (Copy dest from) = record { source = from; item_is = refl; from_is = refl }
brought_same lengths names homes s (Load dest array index) = record {
  alike = record { items = λ d. Load 0 array (Lit (at_home_value homes s index d)); states = refl };
  dest = refl;
  new = refl;
}
brought_same lengths names homes s (Store array index value) = record {
  alike = record { items = λ d. Store array (Lit (at_home_value homes s index d)) (Lit (at_home_value homes s value d)); states = refl };
  dest = refl;
  none = refl;
}
brought_same lengths names homes s (Print value) = record {
  alike = record { items = λ d. Print (Lit (at_home_value homes s value d)); states = refl };
  dest = refl;
  none = refl;
}
brought_same lengths names homes s (Read dest) = record { alike = record { items = refl; states = refl }; dest = refl; new = refl }
brought_same lengths names homes s (More dest) = record { alike = record { items = refl; states = refl }; dest = refl; new = refl }

-- ---- names only grow

-- new names leave the forms of those that were there
pub record Extends (before after : Supply) : Type 0 where
  pub next : before.next ≤ after.next
  pub next_variable : before.next_variable ≤ after.next_variable
  pub forms : (x : ℕ) → x < before.next → after.forms x ≡ before.forms x

pub Extends-refl : (names : Supply) → Extends names names
Extends-refl names = record { next = omega arith; next_variable = omega arith; forms = λ x h. refl }

pub Extends-trans : (a b c : Supply) → Extends a b → Extends b c → Extends a c
Extends-trans a b c p q =
    let le : a.next ≤ b.next = p.next in
    record {
      next = omega arith;
      next_variable = omega arith;
      forms = λ x h. let lt : x < b.next = omega arith in q.forms x lt ∙ p.forms x h;
    }

pub with_name-extends : (names : Supply) (form : Option Form) → Extends names (with_name names form)
with_name-extends names (Some form) = record {
  next = omega arith;
  next_variable = omega arith;
  forms = λ x h. ap (λ (b : Bool). if b then form else names.forms x) (nat_eq-less names.next x h);
}
with_name-extends names None = record {
  next = omega arith;
  next_variable = omega arith;
  forms = λ x h. ap (λ (b : Bool). if b then variable_form names.next_variable else names.forms x) (nat_eq-less names.next x h);
}

with_name-next : (names : Supply) (form : Option Form) → (with_name names form).next ≡ suc names.next
with_name-next names (Some form) = refl
with_name-next names None = refl

pub OperandBelow-later : (m n : ℕ) (o : Operand) → m ≤ n → OperandBelow m o → OperandBelow n o
OperandBelow-later m n (Name x) le h = omega arith
OperandBelow-later m n (Lit value) le h = tt

pub HomesBelow-later : (m n : ℕ) (homes : ℕ → Operand) → m ≤ n → HomesBelow m homes → HomesBelow n homes
unfolding HomesBelow
HomesBelow-later m n homes le h = λ v. OperandBelow-later m n (homes v) le (h v)

changed_below : (n : ℕ) (b : Bool) (one other : Operand) → OperandBelow n one → OperandBelow n other → OperandBelow n (if b then one else other)
changed_below n true one other p q = p
changed_below n false one other p q = q

pub HomesBelow-changed : (n : ℕ) (homes : ℕ → Operand) (v : ℕ) (one : Operand) → OperandBelow n one → HomesBelow n homes → HomesBelow n (changed homes v one)
unfolding HomesBelow
HomesBelow-changed n homes v one p h = λ x. changed_below n (nat_eq v x) one (homes x) p (h x)

pub at_home_below : (n : ℕ) (homes : ℕ → Operand) (o : Operand) → HomesBelow n homes → OperandBelow n (at_home homes o)
unfolding HomesBelow
at_home_below n homes (Name v) h = h v
at_home_below n homes (Lit value) h = tt

pub HomesBelow-new : (names : Supply) (form : Option Form) (homes : ℕ → Operand) (v : ℕ) → HomesBelow names.next homes
    → HomesBelow (with_name names form).next (changed homes v (Name names.next))
HomesBelow-new names form homes v h =
    let e = with_name-next names form in
    let lt : names.next < (with_name names form).next = omega arith in
    let le : names.next ≤ (with_name names form).next = omega arith in
    HomesBelow-changed (with_name names form).next homes v (Name names.next) lt (HomesBelow-later names.next (with_name names form).next homes le h)

-- ---- the states after an item and after a step

new_home_value : (b : Bool) (n : ℕ) (value other : ℤ) (names : ℕ → ℤ) (o : Operand) → OperandBelow n o → value ≡ other
    → operand_value (λ x. if nat_eq n x then value else names x) (if b then Name n else o) ≡ (if b then other else operand_value names o)
new_home_value true n value other names o h e = new_value n value names ∙ e
new_home_value false n value other names o h e = new_changes_none n value names o h

module _ (lengths : List ℕ) (names : Supply) (homes : ℕ → Operand) (s : State) (item : Item) where
  -- after an item with a new name, the homes have the values of the variables after the step
  pub after_gives : (variable : ℕ) (given : Item) → HomesBelow names.next homes → Gives lengths names homes s item variable given
      → state_at (changed homes variable (Name names.next)) (state_after lengths s (given ∷ [])) ≡ state_after lengths (state_at homes s) (item ∷ [])
  unfolding HomesBelow
  after_gives variable given below g =
      states_equal (state_at (changed homes variable (Name names.next)) (state_after lengths s (given ∷ []))) (state_after lengths (state_at homes s) (item ∷ []))
      (λ v.
      ap (λ (d : Option ℕ). operand_value (λ x. if writes d x then value_of lengths s given else s.names x) (changed homes variable (Name names.next) v)) g.new
      ∙ new_home_value (nat_eq variable v) names.next (value_of lengths s given) (value_of lengths (state_at homes s) item) s.names (homes v) (below v)
      (Alike-value lengths s given (state_at homes s) item g.alike)
      ∙ ap (λ (d : Option ℕ). if writes d v then value_of lengths (state_at homes s) item else operand_value s.names (homes v)) (sym g.dest))
      (Alike-after lengths s given (state_at homes s) item g.alike)

  -- after an item that writes no name
  pub after_plain : (given : Item) → StaysSame homes s item given → state_at homes (state_after lengths s (given ∷ [])) ≡ state_after lengths (state_at homes s) (item ∷ [])
  after_plain given g =
      states_equal (state_at homes (state_after lengths s (given ∷ []))) (state_after lengths (state_at homes s) (item ∷ []))
      (λ v.
      ap (λ (d : Option ℕ). operand_value (λ x. if writes d x then value_of lengths s given else s.names x) (homes v)) g.none
      ∙ ap (λ (d : Option ℕ). if writes d v then value_of lengths (state_at homes s) item else operand_value s.names (homes v)) (sym g.dest))
      (Alike-after lengths s given (state_at homes s) item g.alike)

-- after a copy, of which there is no item
pub after_copy : (lengths : List ℕ) (homes : ℕ → Operand) (s : State) (variable : ℕ) (source : Operand)
    → state_at (changed homes variable (at_home homes source)) s ≡ state_after lengths (state_at homes s) (Copy variable source ∷ [])
after_copy lengths homes s variable source =
    states_equal (state_at (changed homes variable (at_home homes source)) s) (state_after lengths (state_at homes s) (Copy variable source ∷ []))
    (λ v.
    changed_value (nat_eq variable v) s.names (at_home homes source) (homes v)
    ∙ ap (λ (z : ℤ). if nat_eq variable v then z else operand_value s.names (homes v)) (at_home_value homes s source))
    refl
