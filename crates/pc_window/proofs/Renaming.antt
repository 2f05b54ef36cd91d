-- A walk depends only on what is read: other names with the same values, or other values of names that are not known, change nothing.
use Rattle.std.proofs.Common.{◌≡◌, ℕ, zero, suc, Bool, true, false, List, [], ◌∷◌, ◌++◌, Option, Some, None, refl, sym, ◌∙◌, ap, subst, drop, ◌⊎◌, inl, inr}
use Rattle.std.specs.Prelude.{ℤ, ◌||◌, is_none, if◌then◌else◌, nat_eq, slice_index}
use Rattle.std.specs.List.{AllByRecursion}
use Rattle.std.proofs.lemmas.Bool.{eqb-true, eq-eqb}
use Rattle.pc_word.specs.declared.item.Item.{Item}
use Rattle.pc_word.specs.declared.item.Item.TheVariants.{Bin, Copy, Load, Store, Print, Read, More}
use Rattle.pc_word.specs.declared.item.Operand.{Operand}
use Rattle.pc_word.specs.declared.item.Operand.TheVariants.{Name, Lit}
use Rattle.pc_word.specs.declared.item.MachineFault.{MachineFault}
use Rattle.pc_word.specs.declared.item.MachineFault.TheVariants.{StoreOutOfRange}
use Rattle.pc_word.specs.Word.{holds, word_apply}
use Rattle.pc_word.specs.State.{State}
use Rattle.pc_word.specs.Commit.{Stored, stores_of, prints_of, reads_of, fault_of, writes, cells_after}
use Rattle.pc_word.specs.Items.{operand_value, place_in, element_at, dest_of, value_of, operands_of, reads}
use Rattle.pc_word.proofs.Lists.{all_imply}
use Rattle.pc_window.specs.declared.home.Home.{Home}
use Rattle.pc_window.specs.Tree.{Tree, Pending, Undecided, Exit, Stop_exit, Trap_exit, home_of, home_state}
use Rattle.pc_window.specs.Walk.{Walked, Leaves, printing, unless_fault, after_item, walk}
use Rattle.pc_window.proofs.Shown.{walk_length, shown}
use Rattle.pc_linear.specs.Form.{Form}
use Rattle.pc_window.specs.Hold.{DefinedMeans, Side, DefinedHold}
use Rattle.pc_window.specs.Names.{IsKnown, ReadsKnown, IsNew, and_dest, HomesKnown, Scoped, Unwritten}
use Rattle.pc_window.specs.Rename.{map_homes, mapped}
use Rattle.pc_window.proofs.Exchange.{state_equal}
use Rattle.pc_word.specs.Naming.{map_operands}

-- ---- one item

-- in the second state the mapped operand has the value of the operand in the first
abbrev pub Carried : (Operand → Operand) → State → State → Operand → Type 0
Carried f s t o = operand_value t.names (f o) ≡ operand_value s.names o

-- two states that differ in names alone, and the known operands are carried from one to the other
pub record Carries (f : Operand → Operand) (known : ℕ → Bool) (s t : State) : Type 0 where
  pub operands : (o : Operand) → IsKnown known o → Carried f s t o
  pub cells : t.cells ≡ s.cells
  pub input : t.input ≡ s.input

-- an item does in one state what the mapped item does in the other
pub record DoesSame (lengths : List ℕ) (s t : State) (x y : Item) : Type 0 where
  pub dest : dest_of y ≡ dest_of x
  pub value : value_of lengths t y ≡ value_of lengths s x
  pub stores : stores_of lengths t (y ∷ []) ≡ stores_of lengths s (x ∷ [])
  pub prints : prints_of t (y ∷ []) ≡ prints_of s (x ∷ [])
  pub reads : reads_of (y ∷ []) ≡ reads_of (x ∷ [])
  pub fault : fault_of lengths t (y ∷ []) ≡ fault_of lengths s (x ∷ [])

does_same : (lengths : List ℕ) (f : Operand → Operand) (names names' : ℕ → ℤ) (cells : ℕ → ℕ → ℤ) (input : List ℤ) (x : Item)
    → AllByRecursion (λ o. operand_value names' (f o) ≡ operand_value names o) (operands_of x)
    → DoesSame lengths (record { names = names; cells = cells; input = input }) (record { names = names'; cells = cells; input = input }) x (map_operands f x)
does_same lengths f names names' cells input (Bin op dest left right) h =
    record {
      dest = refl;
      value = ap (λ (v : ℤ). word_apply op v (operand_value names' (f right))) h.0
          ∙ ap (λ (v : ℤ). word_apply op (operand_value names left) v) h.1.0;
      stores = refl;
      prints = refl;
      reads = refl;
      fault = refl;
    }
does_same lengths f names names' cells input (Copy dest from) h = record { dest = refl; value = h.0; stores = refl; prints = refl; reads = refl; fault = refl }
does_same lengths f names names' cells input (Load dest array index) h =
    record { dest = refl; value = ap (λ (v : ℤ). element_at (cells array) (place_in (slice_index lengths array) v)) h.0; stores = refl; prints = refl; reads = refl; fault = refl }
does_same lengths f names names' cells input (Store array index value) h =
    record {
      dest = refl;
      value = h.1.0;
      stores = ap (λ (i : ℤ). let one : Stored = record { array = array; place = place_in (slice_index lengths array) i; word = operand_value names' (f value) } in one ∷ []) h.0
          ∙ ap (λ (v : ℤ). let one : Stored = record { array = array; place = place_in (slice_index lengths array) (operand_value names index); word = v } in one ∷ []) h.1.0;
      prints = refl;
      reads = refl;
      fault = ap (λ (i : ℤ). if is_none (place_in (slice_index lengths array) i) || false then Some StoreOutOfRange else None) h.0;
    }
does_same lengths f names names' cells input (Print value) h = record { dest = refl; value = h.0; stores = refl; prints = ap (λ (v : ℤ). v ∷ []) h.0; reads = refl; fault = refl }
does_same lengths f names names' cells input (Read dest) h = record { dest = refl; value = refl; stores = refl; prints = refl; reads = refl; fault = refl }
does_same lengths f names names' cells input (More dest) h = record { dest = refl; value = refl; stores = refl; prints = refl; reads = refl; fault = refl }

-- the same for states whose arrays and input are equal
pub carried_item : (lengths : List ℕ) (f : Operand → Operand) (known : ℕ → Bool) (s t : State) (x : Item) → Carries f known s t → ReadsKnown known x
    → DoesSame lengths s t x (map_operands f x)
carried_item lengths f known s t x h reads =
    let at : State → Type 0 = λ u. DoesSame lengths s u x (map_operands f x) in
    let equal : let u : State = record { names = t.names; cells = s.cells; input = s.input } in u ≡ t =
    state_equal (record { names = t.names; cells = s.cells; input = s.input }) t (λ z. refl) (λ a p. ap (λ (c : ℕ → ℕ → ℤ). c a p) (sym h.cells)) (sym h.input) in
    subst at equal (does_same lengths f s.names t.names s.cells s.input x (all_imply (IsKnown known) (Carried f s t) (operands_of x) h.operands reads))

-- ---- the states after

-- the map keeps each name that the tree writes, and maps no other to it
abbrev pub WindowKeeps : (Operand → Operand) → (ℕ → Bool) → Tree → Type 0
WindowKeeps f known tree = (e : ℕ) → known e ≡ false → (Unwritten e tree → ⊥) → (f (Name e) ≡ Name e) × ((o : Operand) → f o ≡ Name e → o ≡ Name e)

-- an operand other than the name that is written
other-after : (lengths : List ℕ) (x : Item) (t : State) (o : Operand) → ((e : ℕ) → dest_of x ≡ Some e → o ≡ Name e → ⊥)
    → operand_value (after_item lengths x t).names o ≡ operand_value t.names o
other-after lengths x t (Lit value) other = refl
other-after lengths x t (Name z) other = elim (writes (dest_of x) z) as (λ b. writes (dest_of x) z ≡ b → (if b then value_of lengths t x else t.names z) ≡ t.names z) [
  | false ↦ λ e. refl
  | true ↦ λ e. absurd (written (dest_of x) z e (λ d is. other d is))
] refl
  where
    written : (dest : Option ℕ) (z : ℕ) → writes dest z ≡ true → ((e : ℕ) → dest ≡ Some e → Name z ≡ Name e → ⊥) → ⊥
    written (Some d) z is h = h d refl (ap Name (sym (eqb-true d z is)))
    written None z is h = absurd (cc)

-- the name that is written
dest-after : (lengths : List ℕ) (x : Item) (t : State) (e : ℕ) → dest_of x ≡ Some e → (after_item lengths x t).names e ≡ value_of lengths t x
dest-after lengths x t e is =
    ap (λ (dest : Option ℕ). if writes dest e then value_of lengths t x else t.names e) is
    ∙ ap (λ (b : Bool). if b then value_of lengths t x else t.names e) (eq-eqb e e refl)

-- an operand that is known after an item was written by it, or was known
pub known-after : (known : ℕ → Bool) (x : Item) (o : Operand) → IsKnown (and_dest known x) o
    → (((e : ℕ) → dest_of x ≡ Some e → o ≡ Name e → ⊥) × IsKnown known o) ⊎ ((e : ℕ) × (dest_of x ≡ Some e) × (o ≡ Name e))
known-after known x (Lit value) is = inl ((λ e h p. absurd (cc)), tt)
known-after known x (Name z) is = by_dest (dest_of x) z is
  where
    by_dest : (dest : Option ℕ) (z : ℕ) → (writes dest z || known z) ≡ true
        → (((e : ℕ) → dest ≡ Some e → Name z ≡ Name e → ⊥) × (known z ≡ true)) ⊎ ((e : ℕ) × (dest ≡ Some e) × (Name z ≡ Name e))
    by_dest None z is = inl ((λ e h p. absurd (cc)), is)
    by_dest (Some d) z is = elim (nat_eq d z) as (λ b. nat_eq d z ≡ b → (b || known z) ≡ true
        → (((e : ℕ) → Some d ≡ Some e → Name z ≡ Name e → ⊥) × (known z ≡ true)) ⊎ ((e : ℕ) × (Some d ≡ Some e) × (Name z ≡ Name e))) [
          | true ↦ λ same h. inr (d, refl, ap Name (sym (eqb-true d z same)))
          | false ↦ λ differ h. inl ((λ e p q. absurd (let same : d ≡ z = cc in let h : nat_eq d z ≡ true = eq-eqb d z same in cc)), h)
        ] refl is

-- a written name is new
new-name : (known : ℕ → Bool) (dest : Option ℕ) (e : ℕ) → IsNew known dest → dest ≡ Some e → known e ≡ false
new-name known (Some d) e new is = let same : d ≡ e = cc in sym (ap known same) ∙ new
new-name known None e new is = absurd (cc)

-- and written
written-here : (dest : Option ℕ) (e : ℕ) → dest ≡ Some e → writes dest e ≡ false → ⊥
written-here (Some d) e is h = let same : d ≡ e = cc in let k : nat_eq d e ≡ true = eq-eqb d e same in cc
written-here None e is h = absurd (cc)

-- known operands are carried on behind an item
pub carries_after : (lengths : List ℕ) (f : Operand → Operand) (known : ℕ → Bool) (tag origin : ℕ) (x : Item) (rest : Tree) (s t : State)
    → ReadsKnown known x → IsNew known (dest_of x) → Carries f known s t → WindowKeeps f known (Pending tag origin x rest)
    → Carries f (and_dest known x) (after_item lengths x s) (after_item lengths (map_operands f x) t)
carries_after lengths f known tag origin x rest s t reads new h keeps =
    let y = map_operands f x in
    let same : DoesSame lengths s t x y = carried_item lengths f known s t x h reads in
    let kept : (e : ℕ) → dest_of x ≡ Some e → (f (Name e) ≡ Name e) × ((o : Operand) → f o ≡ Name e → o ≡ Name e) =
    λ e is. keeps e (new-name known (dest_of x) e new is) (λ u. written-here (dest_of x) e is u.0) in
    record {
      operands = λ o is. elim (known-after known x o is) as (λ z. Carried f (after_item lengths x s) (after_item lengths y t) o) [
        | inl there ↦
            other-after lengths y t (f o) (λ e d p. there.0 e (sym same.dest ∙ d) ((kept e (sym same.dest ∙ d)).1 o p))
            ∙ h.operands o there.1
            ∙ sym (other-after lengths x s o there.0)
        | inr there ↦ subst (λ (p : Operand). Carried f (after_item lengths x s) (after_item lengths y t) p) (sym there.2)
            (ap (operand_value (after_item lengths y t).names) (kept there.0 there.1).0
            ∙ dest-after lengths y t there.0 (same.dest ∙ there.1)
            ∙ same.value
            ∙ sym (dest-after lengths x s there.0 there.1))
      ];
      cells = ap (λ (c : ℕ → ℕ → ℤ). cells_after c (stores_of lengths t (y ∷ []))) h.cells ∙ ap (cells_after s.cells) same.stores;
      input = ap (λ (n : ℕ). drop n t.input) same.reads ∙ ap (drop (reads_of (x ∷ []))) h.input;
    }

or_false : (a b : Bool) → (a || b) ≡ false → b ≡ false
or_false false b e = e
or_false true b e = absurd (cc)

pub keeps_below : (f : Operand → Operand) (known : ℕ → Bool) (tag origin : ℕ) (x : Item) (rest : Tree)
    → WindowKeeps f known (Pending tag origin x rest) → WindowKeeps f (and_dest known x) rest
keeps_below f known tag origin x rest keeps e new written = keeps e (or_false (writes (dest_of x) e) (known e) new) (λ u. written u.1)

-- ---- trees

-- the same walk, as long, with the same prints and forms
pub record SameWalk (lengths : List ℕ) (tree : Tree) (s : State) (tree' : Tree) (t : State) : Type 0 where
  pub same : walk lengths tree' t ≡ walk lengths tree s
  pub shows : (n : ℕ) → shown lengths tree' t n ≡ shown lengths tree s n
  pub as_long : walk_length lengths tree' t ≡ walk_length lengths tree s
  pub forms : (σ : ℕ → ℤ) (forms : ℕ → Form) → DefinedHold σ forms lengths tree s → DefinedHold σ forms lengths tree' t

pub if_same : {A : Type 0} (b c : Bool) (x y x' y' : A) → c ≡ b → x' ≡ x → y' ≡ y → (if c then x' else y') ≡ (if b then x else y)
if_same true true x y x' y' e p q = p
if_same false false x y x' y' e p q = q
if_same true false x y x' y' e p q = absurd (cc)
if_same false true x y x' y' e p q = absurd (cc)

pub side_same : (b c : Bool) (P Q P' Q' : Type 0) → c ≡ b → (P → P') → (Q → Q') → Side b P Q → Side c P' Q'
side_same true true P Q P' Q' e f g h = f h
side_same false false P Q P' Q' e f g h = g h
side_same true false P Q P' Q' e f g h = absurd (cc)
side_same false true P Q P' Q' e f g h = absurd (cc)

homes_carried : (f : Operand → Operand) (known : ℕ → Bool) (s t : State) (homes : List Home) → HomesKnown known homes → Carries f known s t
    → (x : ℕ) → (home_state t (map_homes f homes)).names x ≡ (home_state s homes).names x
homes_carried f known s t [] all h x = refl
homes_carried f known s t (home ∷ homes) all h x =
    by_test (nat_eq home.variable x) (homes_carried f known s t homes all.1 h x)
  where
    by_test : (b : Bool) → (home_state t (map_homes f homes)).names x ≡ (home_state s homes).names x
        → operand_value t.names (if b then f home.value else home_of (map_homes f homes) x) ≡ operand_value s.names (if b then home.value else home_of homes x)
    by_test true next = h.operands home.value all.0
    by_test false next = next

-- whether the written word has the value of its form depends on the name and the word
pub writes_same : (σ : ℕ → ℤ) (forms : ℕ → Form) (d e : Option ℕ) (v w : ℤ) → e ≡ d → w ≡ v → DefinedMeans σ forms d v → DefinedMeans σ forms e w
writes_same σ forms d e v w p q h = subst (λ (x : Option ℕ). DefinedMeans σ forms x w) (sym p) (subst (λ (z : ℤ). DefinedMeans σ forms d z) (sym q) h)

-- the walk of the mapped tree from the second state is the walk of the tree from the first
pub mapped-walks : (lengths : List ℕ) (f : Operand → Operand) (known : ℕ → Bool) (tree : Tree) (s t : State)
    → Scoped known tree → Carries f known s t → WindowKeeps f known tree → SameWalk lengths tree s (mapped f tree) t
mapped-walks lengths f known (Pending tag origin x rest) s t scoped h keeps =
    let y = map_operands f x in
    let does : DoesSame lengths s t x y = carried_item lengths f known s t x h scoped.0 in
    let below : SameWalk lengths rest (after_item lengths x s) (mapped f rest) (after_item lengths y t) =
    mapped-walks lengths f (and_dest known x) rest (after_item lengths x s) (after_item lengths y t) scoped.2
    (carries_after lengths f known tag origin x rest s t scoped.0 scoped.1 h keeps) (keeps_below f known tag origin x rest keeps) in
    record {
      same = ap (λ (w : Walked). unless_fault (fault_of lengths t (y ∷ [])) (printing (prints_of t (y ∷ [])) w)) below.same
          ∙ ap (λ (p : List ℤ). unless_fault (fault_of lengths t (y ∷ [])) (printing p (walk lengths rest (after_item lengths x s)))) does.prints
          ∙ ap (λ (e : Option MachineFault). unless_fault e (printing (prints_of s (x ∷ [])) (walk lengths rest (after_item lengths x s)))) does.fault;
      shows = λ n. item_shows n below.shows does.prints;
      as_long = ap suc below.as_long;
      forms = λ σ forms d. (writes_same σ forms (dest_of x) (dest_of y) (value_of lengths s x) (value_of lengths t y) does.dest does.value d.0, below.forms σ forms d.1);
    }
  where
    item_shows : (n : ℕ) → ((m : ℕ) → shown lengths (mapped f rest) (after_item lengths (map_operands f x) t) m ≡ shown lengths rest (after_item lengths x s) m)
        → prints_of t (map_operands f x ∷ []) ≡ prints_of s (x ∷ [])
        → shown lengths (mapped f (Pending tag origin x rest)) t n ≡ shown lengths (Pending tag origin x rest) s n
    item_shows zero next prints = refl
    item_shows (suc n) next prints = λ i. prints i ++ next n i
mapped-walks lengths f known (Undecided tag origin on on_yes on_no) s t scoped h keeps =
    let test : holds (operand_value t.names (f on)) ≡ holds (operand_value s.names on) = ap holds (h.operands on scoped.0) in
    let at_yes : SameWalk lengths on_yes s (mapped f on_yes) t = mapped-walks lengths f known on_yes s t scoped.1 h (λ e new written. keeps e new (λ u. written u.0)) in
    let at_no : SameWalk lengths on_no s (mapped f on_no) t = mapped-walks lengths f known on_no s t scoped.2 h (λ e new written. keeps e new (λ u. written u.1)) in
    record {
      same = if_same (holds (operand_value s.names on)) (holds (operand_value t.names (f on))) _ _ _ _ test at_yes.same at_no.same;
      shows = λ n. test_shows n at_yes.shows at_no.shows;
      as_long = ap suc (if_same (holds (operand_value s.names on)) (holds (operand_value t.names (f on))) _ _ _ _ test at_yes.as_long at_no.as_long);
      forms = λ σ forms. side_same (holds (operand_value s.names on)) (holds (operand_value t.names (f on))) _ _ _ _ test (at_yes.forms σ forms) (at_no.forms σ forms);
    }
  where
    test_shows : (n : ℕ) → ((m : ℕ) → shown lengths (mapped f on_yes) t m ≡ shown lengths on_yes s m) → ((m : ℕ) → shown lengths (mapped f on_no) t m ≡ shown lengths on_no s m)
        → shown lengths (mapped f (Undecided tag origin on on_yes on_no)) t n ≡ shown lengths (Undecided tag origin on on_yes on_no) s n
    test_shows zero p q = refl
    test_shows (suc n) p q = if_same (holds (operand_value s.names on)) (holds (operand_value t.names (f on))) _ _ _ _ (ap holds (h.operands on scoped.0)) (p n) (q n)
mapped-walks lengths f known (Exit region tag homes) s t scoped h keeps = record {
  same = λ i. Leaves [] region (record { names = λ x. homes_carried f known s t homes scoped h x i; cells = h.cells i; input = h.input i });
  shows = λ n. refl;
  as_long = refl;
  forms = λ σ forms d. d;
}
mapped-walks lengths f known Stop_exit s t scoped h keeps = record { same = refl; shows = λ n. refl; as_long = refl; forms = λ σ forms d. d }
mapped-walks lengths f known (Trap_exit kind line) s t scoped h keeps = record { same = refl; shows = λ n. refl; as_long = refl; forms = λ σ forms d. d }

-- ---- the same tree

map_operands-same : (x : Item) → map_operands (λ o. o) x ≡ x
map_operands-same (Bin op dest left right) = refl
map_operands-same (Copy dest from) = refl
map_operands-same (Load dest array index) = refl
map_operands-same (Store array index value) = refl
map_operands-same (Print value) = refl
map_operands-same (Read dest) = refl
map_operands-same (More dest) = refl

map_homes-same : (homes : List Home) → map_homes (λ o. o) homes ≡ homes
map_homes-same [] = refl
map_homes-same (home ∷ homes) = ap (λ (l : List Home). home ∷ l) (map_homes-same homes)

pub mapped-same : (tree : Tree) → mapped (λ o. o) tree ≡ tree
mapped-same (Pending tag origin x rest) = λ i. Pending tag origin (map_operands-same x i) (mapped-same rest i)
mapped-same (Undecided tag origin on on_yes on_no) = λ i. Undecided tag origin on (mapped-same on_yes i) (mapped-same on_no i)
mapped-same (Exit region tag homes) = ap (Exit region tag) (map_homes-same homes)
mapped-same Stop_exit = refl
mapped-same (Trap_exit kind line) = refl

-- states that agree on the known names have the same walk
pub agreed-walks : (lengths : List ℕ) (known : ℕ → Bool) (tree : Tree) (s t : State) → Scoped known tree → Carries (λ o. o) known s t → SameWalk lengths tree s tree t
agreed-walks lengths known tree s t scoped h =
    subst (λ (tree' : Tree). SameWalk lengths tree s tree' t) (mapped-same tree) (mapped-walks lengths (λ o. o) known tree s t scoped h (λ e new written. (refl, λ o p. p)))
