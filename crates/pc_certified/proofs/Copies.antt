-- A Copy that is put into a tree, and operands that take the place of the name that a Copy gives them: the walk, its marks and what
-- is defined stay, and so do scopes and tags.
use Rattle.std.proofs.Common.{◌≡◌, ℕ, suc, ◌<◌, List, [], ◌∷◌, Option, None, refl, sym, ◌∙◌, ap, subst, arith, inl, inr}
use Rattle.std.specs.Prelude.{ℤ, Bool, true, false, if◌then◌else◌, nat_eq, ◌||◌, ◌&&◌, not, max}
use Rattle.pc_word.specs.declared.item.Item.{Item}
use Rattle.pc_word.specs.declared.item.Item.TheVariants.{Bin, Copy, Load, Store, Print, Read, More}
use Rattle.pc_word.specs.declared.item.Operand.{Operand}
use Rattle.pc_word.specs.declared.item.Operand.TheVariants.{Name, Lit}
use Rattle.pc_word.specs.Word.{holds}
use Rattle.pc_word.specs.State.{State}
use Rattle.pc_word.specs.Items.{operand_value, dest_of, value_of, reads, reads_name}
use Rattle.pc_word.specs.Commit.{prints_of, fault_of, state_after, writes}
use Rattle.pc_word.proofs.Evaluated.{Alike, Alike-fault, Alike-prints, Alike-value, Alike-after, states_equal}
use Rattle.pc_word.proofs.Truth.{or_first, or_second, or_true}
use Rattle.pc_linear.specs.Form.{Form, Means}
use Rattle.pc_linear.specs.Combine.{variable_form}
use Rattle.pc_linear.proofs.Forms.{variable_means}
use Rattle.pc_table.specs.RegionRun.{side_of}
use Rattle.pc_table.proofs.Tests.{needed_above}
use Rattle.pc_window.specs.declared.home.Home.{Home}
use Rattle.pc_window.specs.Tree.{Tree, Pending, Undecided, Exit, Stop_exit, Trap_exit, home_of, state_at}
use Rattle.pc_window.specs.Names.{uses, IsNew, IsKnown, ReadsKnown, HomesKnown, and_dest, Scoped, Unwritten}
use Rattle.pc_window.specs.Walk.{Walked, Leaves, Finishes, printing, done_first, after_item, walk}
use Rattle.pc_window.specs.Hold.{DefinedMeans, DefinedHold, HoldUnder, TreeHolds, Side}
use Rattle.pc_window.specs.Opening.{Supply, changed, with_name, OperandBelow, ItemBelow, StubBelow, TreeBelow, FormsBelow}
use Rattle.pc_window.proofs.Uses.{unwritten, nat_eq-tells}
use Rattle.pc_window.proofs.Grafts.{nat_eq-same, nat_eq-less, with_name-extends, OperandBelow-later}
use Rattle.pc_window.proofs.GraftForms.{GoesOn, Held}
use Rattle.pc_window.proofs.Unwinding.{used_below, HoldUnder-after, Side-map, defined_later}
use Rattle.pc_window.proofs.Soundness.{TreeBelow-later}
use Rattle.pc_window.proofs.Tidying.{AgreeOn, walk_agrees, defined_agrees, not_true}
use Rattle.pc_window.proofs.Parameters.{parameters_known}
use Rattle.pc_window.proofs.Scopes.{scoped_more}
use Rattle.pc_window.proofs.Undisturbed.{name-after, operand-after}
use Rattle.pc_certified.specs.Somewhere.{Somewhere, here, behind_item, in_yes_side, in_no_side}
use Rattle.pc_certified.specs.Copies.{IsUsedIn, CopyAddedHere, added, SameOrCopied, same, to_name, from_name, ItemsExchanged, in_bin, in_copy}
use Rattle.pc_certified.specs.Copies.{in_load, in_store, in_print, in_read, in_more, HomesExchanged, no_home, one_home, TreesExchanged, in_item}
use Rattle.pc_certified.specs.Copies.{in_test, in_stub, in_stop, in_trap, ExchangedHere, below_copy}
use Rattle.pc_certified.proofs.Marked.{counted, mark, marked, uses_less}
use Rattle.pc_certified.proofs.MarkedWalks.{walk_marked}
use Rattle.pc_certified.proofs.Bases.{TagsFrom}
use Rattle.pc_certified.proofs.Tags.{least_from}
use Rattle.pc_certified.proofs.OneStub.{ItemBelow-later, held_side, defined_item, written_later}

printing_nothing : (w : Walked) → printing [] w ≡ w
printing_nothing (Leaves p region t) = refl
printing_nothing (Finishes p end) = refl

-- ---- a Copy to a new name

module _ (lengths : List ℕ) (n : ℕ) where
  -- a tree does not see the name
  not_seen : (rest : Tree) (from : Operand) (s : State) → TreeBelow n rest → (tree : Tree) → ((x : ℕ) → uses tree x ≡ true → uses rest x ≡ true)
      → AgreeOn tree (after_item lengths (Copy n from) s) s
  not_seen rest from s below tree fewer = record {
    name = λ x is. ap (λ (b : Bool). if b then operand_value s.names from else s.names x) (nat_eq-less n x (used_below n rest x below (fewer x is)));
    rest = refl;
  }

  pub copy_walks : {t u : Tree} → Somewhere (CopyAddedHere n) t u → TreeBelow n t → (s : State) → walk lengths u s ≡ walk lengths t s
  copy_walks (here (added tag origin from rest used least)) b s =
      printing_nothing (walk lengths rest (after_item lengths (Copy n from) s))
      ∙ walk_agrees lengths rest (after_item lengths (Copy n from) s) s (not_seen rest from s b rest (λ x is. is))
  copy_walks (behind_item tag origin item c) b s = ap (λ (w : Walked). done_first (fault_of lengths s (item ∷ [])) (prints_of s (item ∷ [])) w) (copy_walks c b.1 (after_item lengths item s))
  copy_walks (in_yes_side tag origin on other c) b s = ap (λ (w : Walked). side_of (operand_value s.names on) w (walk lengths other s)) (copy_walks c b.1 s)
  copy_walks (in_no_side tag origin on one c) b s = ap (λ (w : Walked). side_of (operand_value s.names on) (walk lengths one s) w) (copy_walks c b.2 s)

  pub copy_marks : (base top : ℕ) {t u : Tree} → Somewhere (CopyAddedHere n) t u → TreeBelow n t → (s : State)
      → walk lengths (marked base top u) s ≡ walk lengths (marked base top t) s
  copy_marks base top (here (added tag origin from rest used least)) b s =
      printing_nothing (walk lengths (marked base top rest) (after_item lengths (Copy n from) s))
      ∙ walk_agrees lengths (marked base top rest) (after_item lengths (Copy n from) s) s (not_seen rest from s b (marked base top rest) (λ x is. uses_less base top x rest is))
  copy_marks base top (behind_item tag origin item {old} {new} c) b s =
      walk_marked lengths base top tag origin item new s
      ∙ ap (λ (w : Walked). done_first (fault_of lengths s (item ∷ [])) (prints_of s (mark base tag item ∷ [])) w) (copy_marks base top c b.1 (after_item lengths item s))
      ∙ sym (walk_marked lengths base top tag origin item old s)
  copy_marks base top (in_yes_side tag origin on other c) b s =
      let m = max top (counted base tag) in
      ap (λ (w : Walked). side_of (operand_value s.names on) w (walk lengths (marked base m other) s)) (copy_marks base m c b.1 s)
  copy_marks base top (in_no_side tag origin on one c) b s =
      let m = max top (counted base tag) in
      ap (λ (w : Walked). side_of (operand_value s.names on) (walk lengths (marked base m one) s) w) (copy_marks base m c b.2 s)

  pub copy_uses : {t u : Tree} → Somewhere (CopyAddedHere n) t u → (x : ℕ) → uses u x ≡ true → uses t x ≡ true
  copy_uses (here (added tag origin from rest used least)) x h = elim (or_true (reads_name from x) (not (nat_eq n x) && uses rest x) h) [
    | inl e ↦ by_operand from used e
    | inr e ↦ (unwritten (nat_eq n x) (uses rest x) e).1
  ]
    where
      by_operand : (o : Operand) → IsUsedIn o rest → reads_name o x ≡ true → uses rest x ≡ true
      by_operand (Name y) used e = subst (λ (z : ℕ). uses rest z ≡ true) (nat_eq-tells y x e) used
      by_operand (Lit value) used e = absurd (cc)
  copy_uses (behind_item tag origin item {old} {new} c) x h = elim (or_true (reads item x) (not (writes (dest_of item) x) && uses new x) h) [
    | inl e ↦ or_first (reads item x) (not (writes (dest_of item) x) && uses old x) e
    | inr e ↦ let p = unwritten (writes (dest_of item) x) (uses new x) e in needed_above (reads item x) (writes (dest_of item) x) (uses old x) p.0 (copy_uses c x p.1)
  ]
  copy_uses (in_yes_side tag origin on {old} {new} other c) x h = elim (or_true (reads_name on x) (uses new x || uses other x) h) [
    | inl e ↦ or_first (reads_name on x) (uses old x || uses other x) e
    | inr e ↦ or_second (reads_name on x) (uses old x || uses other x) (elim (or_true (uses new x) (uses other x) e) [
      | inl p ↦ or_first (uses old x) (uses other x) (copy_uses c x p)
      | inr p ↦ or_second (uses old x) (uses other x) p
    ])
  ]
  copy_uses (in_no_side tag origin on one {old} {new} c) x h = elim (or_true (reads_name on x) (uses one x || uses new x) h) [
    | inl e ↦ or_first (reads_name on x) (uses one x || uses old x) e
    | inr e ↦ or_second (reads_name on x) (uses one x || uses old x) (elim (or_true (uses one x) (uses new x) e) [
      | inl p ↦ or_first (uses one x) (uses old x) p
      | inr p ↦ or_second (uses one x) (uses old x) (copy_uses c x p)
    ])
  ]

-- tags stay at least as they were
pub copy_tags : (b n : ℕ) {t u : Tree} → Somewhere (CopyAddedHere n) t u → TagsFrom b t → TagsFrom b u
copy_tags b n (here (added tag origin from rest used least)) h = (let le = least_from b rest least.0 h least.1 in let up = least.2 in omega (arith, le, up), h)
copy_tags b n (behind_item tag origin item c) h = (h.0, copy_tags b n c h.1)
copy_tags b n (in_yes_side tag origin on other c) h = (h.0, copy_tags b n c h.1, h.2)
copy_tags b n (in_no_side tag origin on one c) h = (h.0, h.1, copy_tags b n c h.2)

-- names are below the next again, and scopes are as they must be
used_operand : (n : ℕ) (o : Operand) (rest : Tree) → IsUsedIn o rest → TreeBelow n rest → OperandBelow n o
used_operand n (Name x) rest used b = used_below n rest x b used
used_operand n (Lit value) rest used b = tt

pub copy_below : (n : ℕ) {t u : Tree} → Somewhere (CopyAddedHere n) t u → TreeBelow n t → TreeBelow (suc n) u
copy_below n (here (added tag origin from rest used least)) b =
    ((omega arith, OperandBelow-later n (suc n) from (omega arith) (used_operand n from rest used b)), TreeBelow-later n (suc n) rest (omega arith) b)
copy_below n (behind_item tag origin item c) b = (ItemBelow-later n (suc n) item (omega arith) b.0, copy_below n c b.1)
copy_below n (in_yes_side tag origin on other c) b = (OperandBelow-later n (suc n) on (omega arith) b.0, copy_below n c b.1, TreeBelow-later n (suc n) other (omega arith) b.2)
copy_below n (in_no_side tag origin on one c) b = (OperandBelow-later n (suc n) on (omega arith) b.0, TreeBelow-later n (suc n) one (omega arith) b.1, copy_below n c b.2)

dest_apart : (n : ℕ) (item : Item) → ItemBelow n item → writes (dest_of item) n ≡ false
dest_apart n (Bin op d l r) b = let lt = b.0 in not_true (nat_eq d n) (λ e. let is = nat_eq-tells d n e in absurd (omega (arith, lt, is)))
dest_apart n (Copy d f) b = let lt = b.0 in not_true (nat_eq d n) (λ e. let is = nat_eq-tells d n e in absurd (omega (arith, lt, is)))
dest_apart n (Load d a i) b = let lt = b.0 in not_true (nat_eq d n) (λ e. let is = nat_eq-tells d n e in absurd (omega (arith, lt, is)))
dest_apart n (Store a i v) b = refl
dest_apart n (Print v) b = refl
dest_apart n (Read d) b = not_true (nat_eq d n) (λ e. let is = nat_eq-tells d n e in absurd (omega (arith, b, is)))
dest_apart n (More d) b = not_true (nat_eq d n) (λ e. let is = nat_eq-tells d n e in absurd (omega (arith, b, is)))

below_unwritten : (n : ℕ) (t : Tree) → TreeBelow n t → Unwritten n t
below_unwritten n (Pending tag o x rest) b = (dest_apart n x b.0, below_unwritten n rest b.1)
below_unwritten n (Undecided tag o on p q) b = (below_unwritten n p b.1, below_unwritten n q b.2)
below_unwritten n (Exit region tag homes) b = tt
below_unwritten n Stop_exit b = tt
below_unwritten n (Trap_exit kind line) b = tt

used_known : (known : ℕ → Bool) (o : Operand) (rest : Tree) → IsUsedIn o rest → Scoped known rest → IsKnown known o
used_known known (Name x) rest used h = parameters_known rest known h x used
used_known known (Lit value) rest used h = tt

pub copy_scoped : (n : ℕ) {t u : Tree} → Somewhere (CopyAddedHere n) t u → (known : ℕ → Bool) → known n ≡ false → TreeBelow n t → Scoped known t → Scoped known u
copy_scoped n (here (added tag origin from rest used least)) known new b h =
    ((used_known known from rest used h, tt), new, scoped_more known (Copy n from) rest (below_unwritten n rest b) h)
copy_scoped n (behind_item tag origin item c) known new b h =
    (h.0, h.1, copy_scoped n c (and_dest known item) (ap (λ (c : Bool). c || known n) (dest_apart n item b.0) ∙ new) b.1 h.2)
copy_scoped n (in_yes_side tag origin on other c) known new b h = (h.0, copy_scoped n c known new b.1 h.1, h.2)
copy_scoped n (in_no_side tag origin on one c) known new b h = (h.0, h.1, copy_scoped n c known new b.2 h.2)

-- forms hold, once the new form variable has the value that is copied
module _ (lengths : List ℕ) (names : Supply) (fb : FormsBelow names) where
  abbrev later : Supply
  later = with_name names None

  pub copy_held : {t u : Tree} → Somewhere (CopyAddedHere names.next) t u → TreeBelow names.next t → (s : State) (σ : ℕ → ℤ) → HoldUnder σ names.forms lengths t s
      → Held names.next_variable σ later.forms lengths u s
  copy_held (here (added tag origin from rest used least)) b s σ h =
      let value = operand_value s.names from in
      let m = names.next_variable in
      let τ : ℕ → ℤ = changed σ m value in
      let goes : GoesOn m σ τ = record { same = λ v lt. ap (λ (c : Bool). if c then value else σ v) (nat_eq-less m v lt) } in
      let there : τ m ≡ value = ap (λ (c : Bool). if c then value else σ m) (nat_eq-same m) in
      let form : later.forms names.next ≡ variable_form m = ap (λ (c : Bool). if c then variable_form m else names.forms names.next) (nat_eq-same names.next) in
      record {
        values = τ;
        goes_on = goes;
        defined = (
          subst (λ (f : Form). Means τ f value) (sym form) (variable_means τ m value there),
          defined_agrees τ later.forms lengths rest s (after_item lengths (Copy names.next from) s)
              (agree_back (not_seen lengths names.next rest from s b rest (λ x is. is)))
              (defined_later names later σ τ lengths rest s (with_name-extends names None) goes fb b h.defined),
        );
      }
    where
      agree_back : AgreeOn rest (after_item lengths (Copy names.next from) s) s → AgreeOn rest s (after_item lengths (Copy names.next from) s)
      agree_back a = record { name = λ x is. sym (a.name x is); rest = sym a.rest }
  copy_held (behind_item tag origin item {old} {new} c) b s σ h =
      let held = copy_held c b.1 (state_after lengths s (item ∷ [])) σ (HoldUnder-after σ names.forms lengths tag origin item old s h) in
      record {
        values = held.values;
        goes_on = held.goes_on;
        defined = (defined_item names later σ held.values item (value_of lengths s item) (with_name-extends names None) held.goes_on fb b.0 h.defined.0, held.defined);
      }
  copy_held (in_yes_side tag origin on {old} {new} other c) b s σ h =
      held_side σ names.forms later.forms lengths names.next_variable tag origin on old other new other s (holds (operand_value s.names on)) refl
      (λ d. copy_held c b.1 s σ (record { parameters = λ x u. h.parameters x (or_second (reads_name on x) (uses old x || uses other x) (or_first (uses old x) (uses other x) u)); defined = d }))
      (λ d. record {
        values = σ;
        goes_on = record { same = λ v lt. refl };
        defined = defined_later names later σ σ lengths other s (with_name-extends names None) (record { same = λ v lt. refl }) fb b.2 d;
      })
      h.defined
  copy_held (in_no_side tag origin on one {old} {new} c) b s σ h =
      held_side σ names.forms later.forms lengths names.next_variable tag origin on one old one new s (holds (operand_value s.names on)) refl
      (λ d. record {
        values = σ;
        goes_on = record { same = λ v lt. refl };
        defined = defined_later names later σ σ lengths one s (with_name-extends names None) (record { same = λ v lt. refl }) fb b.1 d;
      })
      (λ d. copy_held c b.2 s σ (record { parameters = λ x u. h.parameters x (or_second (reads_name on x) (uses one x || uses old x) (or_second (uses one x) (uses old x) u)); defined = d }))
      h.defined

  pub copy_holds : {t u : Tree} → Somewhere (CopyAddedHere names.next) t u → TreeBelow names.next t → (s : State) → TreeHolds names.forms lengths t s → TreeHolds later.forms lengths u s
  copy_holds {t} {u} c b s h =
      let held = copy_held c b s h.0 h.1 in (
        held.values,
        record {
          parameters = λ x used.
              let old = copy_uses lengths names.next c x used in
              written_later names later h.0 held.values x (s.names x) (with_name-extends names None) held.goes_on fb (used_below names.next t x b old) (h.1.parameters x old);
          defined = held.defined;
        },
      )

-- ---- operands and the name that a Copy gives them

module _ (name : ℕ) (from : Operand) where
  -- the name has the value of what is copied
  abbrev pub IsCopied : State → Type 0
  IsCopied s = s.names name ≡ operand_value s.names from

  operand_exchanged : {o o' : Operand} → SameOrCopied name from o o' → (s : State) → IsCopied s → operand_value s.names o ≡ operand_value s.names o'
  operand_exchanged (same o) s h = refl
  operand_exchanged to_name s h = sym h
  operand_exchanged from_name s h = h

  item_exchanged : {x x' : Item} → ItemsExchanged name from x x' → (s : State) → IsCopied s → Alike s x s x'
  item_exchanged (in_bin op dest l r) s h = record { items = λ i. Bin op 0 (Lit (operand_exchanged l s h i)) (Lit (operand_exchanged r s h i)); states = refl }
  item_exchanged (in_copy dest o) s h = record { items = λ i. Copy 0 (Lit (operand_exchanged o s h i)); states = refl }
  item_exchanged (in_load dest array o) s h = record { items = λ i. Load 0 array (Lit (operand_exchanged o s h i)); states = refl }
  item_exchanged (in_store array o v) s h = record { items = λ i. Store array (Lit (operand_exchanged o s h i)) (Lit (operand_exchanged v s h i)); states = refl }
  item_exchanged (in_print o) s h = record { items = λ i. Print (Lit (operand_exchanged o s h i)); states = refl }
  item_exchanged (in_read dest) s h = record { items = refl; states = refl }
  item_exchanged (in_more dest) s h = record { items = refl; states = refl }

  pub dest_exchanged : {x x' : Item} → ItemsExchanged name from x x' → dest_of x ≡ dest_of x'
  dest_exchanged (in_bin op dest l r) = refl
  dest_exchanged (in_copy dest o) = refl
  dest_exchanged (in_load dest array o) = refl
  dest_exchanged (in_store array o v) = refl
  dest_exchanged (in_print o) = refl
  dest_exchanged (in_read dest) = refl
  dest_exchanged (in_more dest) = refl

  after_exchanged : (lengths : List ℕ) {x x' : Item} → ItemsExchanged name from x x' → (s : State) → IsCopied s → state_after lengths s (x ∷ []) ≡ state_after lengths s (x' ∷ [])
  after_exchanged lengths {x} {x'} e s h =
      let a = item_exchanged e s h in
      states_equal (state_after lengths s (x ∷ [])) (state_after lengths s (x' ∷ []))
      (λ y i. if writes (dest_exchanged e i) y then Alike-value lengths s x s x' a i else s.names y) (Alike-after lengths s x s x' a)

  home_exchanged : {homes homes' : List Home} → HomesExchanged name from homes homes' → (s : State) → IsCopied s → (v : ℕ)
      → operand_value s.names (home_of homes v) ≡ operand_value s.names (home_of homes' v)
  home_exchanged no_home s h v = refl
  home_exchanged (one_home variable {value} {value'} {homes} {homes'} o more) s h v = by_test (nat_eq variable v) (operand_exchanged o s h) (home_exchanged more s h v)
    where
      by_test : (b : Bool) → operand_value s.names value ≡ operand_value s.names value' → operand_value s.names (home_of homes v) ≡ operand_value s.names (home_of homes' v)
          → operand_value s.names (if b then value else home_of homes v) ≡ operand_value s.names (if b then value' else home_of homes' v)
      by_test true p q = p
      by_test false p q = q

  -- what is known: the name, and what is copied
  pub record IsThere (known : ℕ → Bool) : Type 0 where
    pub name_known : known name ≡ true
    pub from_known : IsKnown known from

  there_below : (known : ℕ → Bool) (x : Item) → IsThere known → IsThere (and_dest known x)
  there_below known x k = record { name_known = or_second (writes (dest_of x) name) (known name) k.name_known; from_known = by_operand from k.from_known }
    where
      by_operand : (o : Operand) → IsKnown known o → IsKnown (and_dest known x) o
      by_operand (Name y) h = or_second (writes (dest_of x) y) (known y) h
      by_operand (Lit value) h = tt

  copied_below : (lengths : List ℕ) (known : ℕ → Bool) (x : Item) → IsThere known → IsNew known (dest_of x) → (s : State) → IsCopied s → IsCopied (after_item lengths x s)
  copied_below lengths known x k new s h = name-after lengths known x s name new k.name_known ∙ h ∙ sym (operand-after lengths known x s from new k.from_known)

  pub exchanged_walks : (lengths : List ℕ) {t u : Tree} → TreesExchanged name from t u → (known : ℕ → Bool) → IsThere known → Scoped known t → (s : State) → IsCopied s
      → walk lengths t s ≡ walk lengths u s
  exchanged_walks lengths (in_item tag origin {item} {item'} {rest} {rest'} e more) known k scoped s h =
      let a = item_exchanged e s h in
      let next : walk lengths rest (after_item lengths item s) ≡ walk lengths rest' (after_item lengths item' s) =
      exchanged_walks lengths more (and_dest known item) (there_below known item k) scoped.2 (after_item lengths item s) (copied_below lengths known item k scoped.1 s h)
      ∙ ap (λ (z : State). walk lengths rest' z) (after_exchanged lengths e s h) in
      λ i. done_first (Alike-fault lengths s item s item' a i) (Alike-prints s item s item' a i) (next i)
  exchanged_walks lengths (in_test tag origin o p q) known k scoped s h =
      let yes_walks = exchanged_walks lengths p known k scoped.1 s h in
      let no_walks = exchanged_walks lengths q known k scoped.2 s h in
      λ i. side_of (operand_exchanged o s h i) (yes_walks i) (no_walks i)
  exchanged_walks lengths (in_stub region tag {homes} {homes'} e) known k scoped s h =
      ap (λ (z : State). Leaves [] region z) (states_equal (state_at (home_of homes) s) (state_at (home_of homes') s) (λ v. home_exchanged e s h v) refl)
  exchanged_walks lengths in_stop known k scoped s h = refl
  exchanged_walks lengths (in_trap kind line) known k scoped s h = refl

  pub exchanged_defined : (σ : ℕ → ℤ) (forms : ℕ → Form) (lengths : List ℕ) {t u : Tree} → TreesExchanged name from t u → (known : ℕ → Bool) → IsThere known → Scoped known t
      → (s : State) → IsCopied s → DefinedHold σ forms lengths t s → DefinedHold σ forms lengths u s
  exchanged_defined σ forms lengths (in_item tag origin {item} {item'} {rest} {rest'} e more) known k scoped s h d =
      let a = item_exchanged e s h in (
        (let value = Alike-value lengths s item s item' a in transport_means (dest_of item) (dest_of item') (value_of lengths s item) (value_of lengths s item') (dest_exchanged e) value d.0),
        subst (λ (z : State). DefinedHold σ forms lengths rest' z) (after_exchanged lengths e s h)
            (exchanged_defined σ forms lengths more (and_dest known item) (there_below known item k) scoped.2 (after_item lengths item s) (copied_below lengths known item k scoped.1 s h) d.1),
      )
    where
      transport_means : (x x' : Option ℕ) (v v' : ℤ) → x ≡ x' → v ≡ v' → DefinedMeans σ forms x v → DefinedMeans σ forms x' v'
      transport_means x x' v v' p q m = subst (λ (y : Option ℕ). DefinedMeans σ forms y v') p (subst (λ (z : ℤ). DefinedMeans σ forms x z) q m)
  exchanged_defined σ forms lengths (in_test tag origin {on} {on'} {on_yes} {on_yes'} {on_no} {on_no'} o p q) known k scoped s h d =
      subst (λ (z : ℤ). Side (holds z) (DefinedHold σ forms lengths on_yes' s) (DefinedHold σ forms lengths on_no' s)) (operand_exchanged o s h)
      (Side-map (holds (operand_value s.names on)) (DefinedHold σ forms lengths on_yes s) (DefinedHold σ forms lengths on_no s) (DefinedHold σ forms lengths on_yes' s)
      (DefinedHold σ forms lengths on_no' s)
      (λ e. exchanged_defined σ forms lengths p known k scoped.1 s h e) (λ e. exchanged_defined σ forms lengths q known k scoped.2 s h e) d)
  exchanged_defined σ forms lengths (in_stub region tag e) known k scoped s h d = tt
  exchanged_defined σ forms lengths in_stop known k scoped s h d = tt
  exchanged_defined σ forms lengths (in_trap kind line) known k scoped s h d = tt

  -- marks
  mark_exchanged : (base tag : ℕ) {x x' : Item} → ItemsExchanged name from x x' → ItemsExchanged name from (mark base tag x) (mark base tag x')
  mark_exchanged base tag (in_bin op dest l r) = in_bin op dest l r
  mark_exchanged base tag (in_copy dest o) = in_copy dest o
  mark_exchanged base tag (in_load dest array o) = in_load dest array o
  mark_exchanged base tag (in_store array o v) = in_store array o v
  mark_exchanged base tag (in_print o) = in_print (same _)
  mark_exchanged base tag (in_read dest) = in_read dest
  mark_exchanged base tag (in_more dest) = in_more dest

  pub exchanged_marked : (base top : ℕ) {t u : Tree} → TreesExchanged name from t u → TreesExchanged name from (marked base top t) (marked base top u)
  exchanged_marked base top (in_item tag origin e more) = in_item tag origin (mark_exchanged base tag e) (exchanged_marked base top more)
  exchanged_marked base top (in_test tag origin o p q) =
      let m = max top (counted base tag) in in_test tag origin o (exchanged_marked base m p) (exchanged_marked base m q)
  exchanged_marked base top (in_stub region tag e) = in_stub (counted base tag) 0 no_home
  exchanged_marked base top in_stop = in_stub top 0 no_home
  exchanged_marked base top (in_trap kind line) = in_stub top 0 no_home

  pub exchanged_tags : (b : ℕ) {t u : Tree} → TreesExchanged name from t u → TagsFrom b t → TagsFrom b u
  exchanged_tags b (in_item tag origin e more) h = (h.0, exchanged_tags b more h.1)
  exchanged_tags b (in_test tag origin o p q) h = (h.0, exchanged_tags b p h.1, exchanged_tags b q h.2)
  exchanged_tags b (in_stub region tag e) h = h
  exchanged_tags b in_stop h = tt
  exchanged_tags b (in_trap kind line) h = tt

  -- names
  operand_below : (n : ℕ) → name < n → OperandBelow n from → {o o' : Operand} → SameOrCopied name from o o' → OperandBelow n o → OperandBelow n o'
  operand_below n a b (same o) h = h
  operand_below n a b to_name h = a
  operand_below n a b from_name h = b

  item_below : (n : ℕ) → name < n → OperandBelow n from → {x x' : Item} → ItemsExchanged name from x x' → ItemBelow n x → ItemBelow n x'
  item_below n a b (in_bin op dest l r) h = (h.0, operand_below n a b l h.1, operand_below n a b r h.2)
  item_below n a b (in_copy dest o) h = (h.0, operand_below n a b o h.1)
  item_below n a b (in_load dest array o) h = (h.0, operand_below n a b o h.1)
  item_below n a b (in_store array o v) h = (operand_below n a b o h.0, operand_below n a b v h.1)
  item_below n a b (in_print o) h = operand_below n a b o h
  item_below n a b (in_read dest) h = h
  item_below n a b (in_more dest) h = h

  homes_below' : (n : ℕ) → name < n → OperandBelow n from → {homes homes' : List Home} → HomesExchanged name from homes homes' → StubBelow n homes → StubBelow n homes'
  homes_below' n a b no_home h = tt
  homes_below' n a b (one_home variable o more) h = (operand_below n a b o h.0, homes_below' n a b more h.1)

  pub exchanged_below : (n : ℕ) → name < n → OperandBelow n from → {t u : Tree} → TreesExchanged name from t u → TreeBelow n t → TreeBelow n u
  exchanged_below n a b (in_item tag origin e more) h = (item_below n a b e h.0, exchanged_below n a b more h.1)
  exchanged_below n a b (in_test tag origin o p q) h = (operand_below n a b o h.0, exchanged_below n a b p h.1, exchanged_below n a b q h.2)
  exchanged_below n a b (in_stub region tag e) h = homes_below' n a b e h
  exchanged_below n a b in_stop h = tt
  exchanged_below n a b (in_trap kind line) h = tt

  operand_known : (known : ℕ → Bool) → IsThere known → {o o' : Operand} → SameOrCopied name from o o' → IsKnown known o → IsKnown known o'
  operand_known known k (same o) h = h
  operand_known known k to_name h = k.name_known
  operand_known known k from_name h = k.from_known

  reads_known : (known : ℕ → Bool) → IsThere known → {x x' : Item} → ItemsExchanged name from x x' → ReadsKnown known x → ReadsKnown known x'
  reads_known known k (in_bin op dest l r) h = (operand_known known k l h.0, (operand_known known k r h.1.0, tt))
  reads_known known k (in_copy dest o) h = (operand_known known k o h.0, tt)
  reads_known known k (in_load dest array o) h = (operand_known known k o h.0, tt)
  reads_known known k (in_store array o v) h = (operand_known known k o h.0, (operand_known known k v h.1.0, tt))
  reads_known known k (in_print o) h = (operand_known known k o h.0, tt)
  reads_known known k (in_read dest) h = h
  reads_known known k (in_more dest) h = h

  homes_known : (known : ℕ → Bool) → IsThere known → {homes homes' : List Home} → HomesExchanged name from homes homes' → HomesKnown known homes → HomesKnown known homes'
  homes_known known k no_home h = tt
  homes_known known k (one_home variable o more) h = (operand_known known k o h.0, homes_known known k more h.1)

  pub exchanged_scoped : {t u : Tree} → TreesExchanged name from t u → (known : ℕ → Bool) → IsThere known → Scoped known t → Scoped known u
  exchanged_scoped (in_item tag origin {item} {item'} {rest} {rest'} e more) known k h = (
    reads_known known k e h.0,
    subst (λ (d : Option ℕ). IsNew known d) (dest_exchanged e) h.1,
    subst (λ (d : Option ℕ). Scoped (λ x. writes d x || known x) rest') (dest_exchanged e) (exchanged_scoped more (and_dest known item) (there_below known item k) h.2),
  )
  exchanged_scoped (in_test tag origin o p q) known k h = (operand_known known k o h.0, exchanged_scoped p known k h.1, exchanged_scoped q known k h.2)
  exchanged_scoped (in_stub region tag e) known k h = homes_known known k e h
  exchanged_scoped in_stop known k h = tt
  exchanged_scoped (in_trap kind line) known k h = tt

-- ---- below a Copy of a tree

known_in : (known : ℕ → Bool) (name : ℕ) (from : Operand) → IsKnown known from → IsThere name from (and_dest known (Copy name from))
known_in known name (Name x) h = record { name_known = or_first (nat_eq name name) (known name) (nat_eq-same name); from_known = or_second (nat_eq name x) (known x) h }
known_in known name (Lit value) h = record { name_known = or_first (nat_eq name name) (known name) (nat_eq-same name); from_known = tt }

copied_in : (lengths : List ℕ) (known : ℕ → Bool) (name : ℕ) (from : Operand) → known name ≡ false → IsKnown known from → (s : State)
    → IsCopied name from (after_item lengths (Copy name from) s)
copied_in lengths known name from new h s =
    ap (λ (b : Bool). if b then operand_value s.names from else s.names name) (nat_eq-same name) ∙ sym (operand-after lengths known (Copy name from) s from new h)

pub use_walks : (lengths : List ℕ) {t u : Tree} → Somewhere ExchangedHere t u → (known : ℕ → Bool) → Scoped known t → (s : State) → walk lengths t s ≡ walk lengths u s
use_walks lengths (here (below_copy tag origin name from {rest} {rest'} e)) known h s =
    ap (λ (w : Walked). printing [] w)
    (exchanged_walks name from lengths e (and_dest known (Copy name from)) (known_in known name from h.0.0) h.2 (after_item lengths (Copy name from) s) (copied_in lengths known name from h.1 h.0.0 s))
use_walks lengths (behind_item tag origin item c) known h s =
    ap (λ (w : Walked). done_first (fault_of lengths s (item ∷ [])) (prints_of s (item ∷ [])) w) (use_walks lengths c (and_dest known item) h.2 (after_item lengths item s))
use_walks lengths (in_yes_side tag origin on other c) known h s = ap (λ (w : Walked). side_of (operand_value s.names on) w (walk lengths other s)) (use_walks lengths c known h.1 s)
use_walks lengths (in_no_side tag origin on one c) known h s = ap (λ (w : Walked). side_of (operand_value s.names on) (walk lengths one s) w) (use_walks lengths c known h.2 s)

pub use_marked : (base top : ℕ) {t u : Tree} → Somewhere ExchangedHere t u → Somewhere ExchangedHere (marked base top t) (marked base top u)
use_marked base top (here (below_copy tag origin name from e)) = here (below_copy tag origin name from (exchanged_marked name from base top e))
use_marked base top (behind_item tag origin item c) = behind_item tag origin (mark base tag item) (use_marked base top c)
use_marked base top (in_yes_side tag origin on other c) = let m = max top (counted base tag) in in_yes_side tag origin on (marked base m other) (use_marked base m c)
use_marked base top (in_no_side tag origin on one c) = let m = max top (counted base tag) in in_no_side tag origin on (marked base m one) (use_marked base m c)

pub use_defined : (σ : ℕ → ℤ) (forms : ℕ → Form) (lengths : List ℕ) {t u : Tree} → Somewhere ExchangedHere t u → (known : ℕ → Bool) → Scoped known t → (s : State)
    → DefinedHold σ forms lengths t s → DefinedHold σ forms lengths u s
use_defined σ forms lengths (here (below_copy tag origin name from e)) known h s d = (
  d.0,
  exchanged_defined name from σ forms lengths e (and_dest known (Copy name from)) (known_in known name from h.0.0) h.2 (after_item lengths (Copy name from) s)
      (copied_in lengths known name from h.1 h.0.0 s) d.1,
)
use_defined σ forms lengths (behind_item tag origin item c) known h s d = (d.0, use_defined σ forms lengths c (and_dest known item) h.2 (after_item lengths item s) d.1)
use_defined σ forms lengths (in_yes_side tag origin on {old} {new} other c) known h s d =
    Side-map (holds (operand_value s.names on)) (DefinedHold σ forms lengths old s) (DefinedHold σ forms lengths other s) (DefinedHold σ forms lengths new s) (DefinedHold σ forms lengths other s)
    (λ e. use_defined σ forms lengths c known h.1 s e) (λ e. e) d
use_defined σ forms lengths (in_no_side tag origin on one {old} {new} c) known h s d =
    Side-map (holds (operand_value s.names on)) (DefinedHold σ forms lengths one s) (DefinedHold σ forms lengths old s) (DefinedHold σ forms lengths one s) (DefinedHold σ forms lengths new s)
    (λ e. e) (λ e. use_defined σ forms lengths c known h.2 s e) d

pub use_tags : (b : ℕ) {t u : Tree} → Somewhere ExchangedHere t u → TagsFrom b t → TagsFrom b u
use_tags b (here (below_copy tag origin name from e)) h = (h.0, exchanged_tags name from b e h.1)
use_tags b (behind_item tag origin item c) h = (h.0, use_tags b c h.1)
use_tags b (in_yes_side tag origin on other c) h = (h.0, use_tags b c h.1, h.2)
use_tags b (in_no_side tag origin on one c) h = (h.0, h.1, use_tags b c h.2)

pub use_below : (n : ℕ) {t u : Tree} → Somewhere ExchangedHere t u → TreeBelow n t → TreeBelow n u
use_below n (here (below_copy tag origin name from e)) h = (h.0, exchanged_below name from n h.0.0 h.0.1 e h.1)
use_below n (behind_item tag origin item c) h = (h.0, use_below n c h.1)
use_below n (in_yes_side tag origin on other c) h = (h.0, use_below n c h.1, h.2)
use_below n (in_no_side tag origin on one c) h = (h.0, h.1, use_below n c h.2)

pub use_scoped : {t u : Tree} → Somewhere ExchangedHere t u → (known : ℕ → Bool) → Scoped known t → Scoped known u
use_scoped (here (below_copy tag origin name from e)) known h = (h.0, h.1, exchanged_scoped name from e (and_dest known (Copy name from)) (known_in known name from h.0.0) h.2)
use_scoped (behind_item tag origin item c) known h = (h.0, h.1, use_scoped c (and_dest known item) h.2)
use_scoped (in_yes_side tag origin on other c) known h = (h.0, use_scoped c known h.1, h.2)
use_scoped (in_no_side tag origin on one c) known h = (h.0, h.1, use_scoped c known h.2)
