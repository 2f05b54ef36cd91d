-- A row of registers does what the row of names does whose names they hold.
use Rattle.std.proofs.Common.{◌≡◌, ◌≢◌, ℕ, suc, List, [], ◌∷◌, map, drop, Option, Some, None, refl, sym, ◌∙◌, ap, subst, ◌⊎◌, inl, inr, arith}
use Rattle.std.specs.Prelude.{ℤ, Bool, true, false, if◌then◌else◌, not, ◌&&◌, ◌||◌, nat_eq, nat_lt, slice_index}
use Rattle.std.specs.List.{AllByRecursion, list_any}
use Rattle.pc_word.specs.declared.item.Item.{Item}
use Rattle.pc_word.specs.declared.item.Item.TheVariants.{Bin, Copy, Load, Store, Print, Read, More}
use Rattle.pc_word.specs.declared.item.Operand.{Operand}
use Rattle.pc_word.specs.declared.item.Operand.TheVariants.{Name, Lit}
use Rattle.pc_word.specs.declared.item.MachineFault.{MachineFault}
use Rattle.pc_word.specs.declared.item.MachineFault.TheVariants.{StoreOutOfRange, StoredTwice, ReadPastEnd}
use Rattle.pc_word.specs.Word.{holds, word_apply, word_of_test}
use Rattle.pc_word.specs.State.{State}
use Rattle.pc_word.specs.Items.{operand_value, dest_of, value_of, element_at, place_in, next_input, some_left, reads_name}
use Rattle.pc_word.specs.Commit.{Stored, writes, names_after, stores_of, cells_after, prints_of, reads_of, is_outside, some_meet, fault_of, state_after}
use Rattle.pc_word.specs.Row.{Row, Then, Either, At_leaf, items_of, tests_of, path_of, leaf_of, RowOutcome, Faults, Commits, commit_of, row_step}
use Rattle.pc_word.proofs.Lists.{all_front, all_back}
use Rattle.pc_window.specs.declared.home.Home.{Home}
use Rattle.pc_window.specs.Names.{IsKnown, ReadsKnown, HomesKnown, homes_use, and_dest, named}
use Rattle.pc_window.specs.Rebasing.{is_in}
use Rattle.pc_window.proofs.Uses.{nat_eq-tells}
use Rattle.pc_window.proofs.Grafts.{nat_eq-same}
use Rattle.pc_automaton.specs.declared.automaton.AutomatonLeaf.{AutomatonLeaf}
use Rattle.pc_automaton.specs.declared.automaton.AutomatonLeaf.TheVariants.{To, Out, Stop, Trap}
use Rattle.pc_automaton.specs.Automaton.{LeafIsKnown, LeavesAreKnown}
use Rattle.pc_machine.specs.declared.tree.Leaf.{Leaf}
use Rattle.pc_machine.specs.MachineCode.{CodeRow}
use Rattle.pc_assign.specs.Uses.{leaf_uses, row_uses}
use Rattle.pc_emit.proofs.Undisturbed.{IsUndisturbed, StaysUndisturbed}
use Rattle.pc_emit.specs.Emitted.{RowStands, item_stands, test_stands, leaf_stands}
use Rattle.pc_word.specs.Naming.{map_name, map_names}
use Rattle.pc_word.proofs.Truth.{or_first, or_second, or_true}

-- a name that an operand reads
known_read : (known : ℕ → Bool) (o : Operand) (x : ℕ) → IsKnown known o → reads_name o x ≡ true → known x ≡ true
known_read known (Name y) x k r = ap known (sym (nat_eq-tells y x r)) ∙ k
known_read known (Lit value) x k r = absurd (cc)

known_arguments : (known : ℕ → Bool) (arguments : List Operand) (x : ℕ) → AllByRecursion (IsKnown known) arguments
    → list_any (λ o. reads_name o x) arguments ≡ true → known x ≡ true
known_arguments known [] x all used = absurd (cc)
known_arguments known (o ∷ arguments) x all used = elim (or_true (reads_name o x) (list_any (λ o. reads_name o x) arguments) used) [
  | inl p ↦ known_read known o x all.0 p
  | inr p ↦ known_arguments known arguments x all.1 p
]

known_homes : (known : ℕ → Bool) (homes : List Home) (x : ℕ) → HomesKnown known homes → homes_use homes x ≡ true → known x ≡ true
known_homes known [] x all used = absurd (cc)
known_homes known (home ∷ homes) x all used = elim (or_true (reads_name home.value x) (homes_use homes x) used) [
  | inl p ↦ known_read known home.value x all.0 p
  | inr p ↦ known_homes known homes x all.1 p
]

-- a name that a leaf uses is known there
known_leaf : (known : ℕ → Bool) (leaf : AutomatonLeaf) (x : ℕ) → LeafIsKnown known leaf → leaf_uses leaf x ≡ true → known x ≡ true
known_leaf known (To state arguments) x all used = known_arguments known arguments x all used
known_leaf known (Out region homes) x all used = known_homes known homes x all used
known_leaf known Stop x all used = absurd (cc)
known_leaf known (Trap kind line) x all used = absurd (cc)

-- whether a path writes a name
abbrev pub path_writes : List Item → ℕ → Bool
path_writes path x = list_any (λ item. writes (dest_of item) x) path

-- a name that the leaf uses which is taken is known before the row, or its path writes it
pub used_known : (names : ℕ → ℤ) (known : ℕ → Bool) (row : Row AutomatonLeaf) (x : ℕ) → LeavesAreKnown known row → leaf_uses (leaf_of names row) x ≡ true
    → (known x ≡ true) ⊎ (path_writes (path_of names row) x ≡ true)
used_known names known (Then item rest) x leaves used = elim (used_known names (and_dest known item) rest x leaves used) [
  | inl p ↦ elim (or_true (writes (dest_of item) x) (known x) p) [
    | inl w ↦ inr (or_first (writes (dest_of item) x) (path_writes (path_of names rest) x) w)
    | inr k ↦ inl k
  ]
  | inr p ↦ inr (or_second (writes (dest_of item) x) (path_writes (path_of names rest) x) p)
]
used_known names known (Either on p q) x leaves used =
    by_test (holds (operand_value names on)) (λ u. used_known names known p x leaves.0 u) (λ u. used_known names known q x leaves.1 u) used
  where
    by_test : (b : Bool) → (leaf_uses (leaf_of names p) x ≡ true → (known x ≡ true) ⊎ (path_writes (path_of names p) x ≡ true))
        → (leaf_uses (leaf_of names q) x ≡ true → (known x ≡ true) ⊎ (path_writes (path_of names q) x ≡ true))
        → leaf_uses (if b then leaf_of names p else leaf_of names q) x ≡ true
        → (known x ≡ true) ⊎ (path_writes (if b then path_of names p else path_of names q) x ≡ true)
    by_test true one other u = one u
    by_test false one other u = other u
used_known names known (At_leaf leaf) x leaves used = inl (known_leaf known leaf x leaves used)

-- the leaf that is taken is one of the row's
pub used_below : (names : ℕ → ℤ) (row : Row AutomatonLeaf) (x : ℕ) → leaf_uses (leaf_of names row) x ≡ true → row_uses row x ≡ true
used_below names (Then item rest) x used = used_below names rest x used
used_below names (Either on p q) x used = by_test (holds (operand_value names on)) (λ u. used_below names p x u) (λ u. used_below names q x u) used
  where
    by_test : (b : Bool) → (leaf_uses (leaf_of names p) x ≡ true → row_uses p x ≡ true) → (leaf_uses (leaf_of names q) x ≡ true → row_uses q x ≡ true)
        → leaf_uses (if b then leaf_of names p else leaf_of names q) x ≡ true → (row_uses p x || row_uses q x) ≡ true
    by_test true one other u = or_first (row_uses p x) (row_uses q x) (one u)
    by_test false one other u = or_second (row_uses p x) (row_uses q x) (other u)
used_below names (At_leaf leaf) x used = used

-- the items of a path are the row's
pub path_items : {L : Type 0} (P : Item → Type 0) (names : ℕ → ℤ) (row : Row L) → AllByRecursion P (items_of row) → AllByRecursion P (path_of names row)
path_items P names (Then item rest) all = (all.0, path_items P names rest all.1)
path_items P names (Either on p q) all =
    by_test (holds (operand_value names on)) (path_items P names p (all_front P (items_of p) (items_of q) all)) (path_items P names q (all_back P (items_of p) (items_of q) all))
  where
    by_test : (b : Bool) → AllByRecursion P (path_of names p) → AllByRecursion P (path_of names q) → AllByRecursion P (if b then path_of names p else path_of names q)
    by_test true one other = one
    by_test false one other = other
path_items P names (At_leaf leaf) all = tt

-- ---- a name that the path writes below has a register of its own

-- a register that is apart from those of some names is apart from that of each
among_apart : (of : ℕ → ℕ) (xs : List ℕ) (d y : ℕ) → AllByRecursion (λ name. of name ≢ of y) xs → is_in d xs ≡ true → of d ≢ of y
among_apart of [] d y all there = absurd (cc)
among_apart of (x ∷ xs) d y all there = elim (or_true (nat_eq d x) (is_in d xs) there) [
  | inl p ↦ subst (λ (n : ℕ). of n ≢ of y) (sym (nat_eq-tells d x p)) all.0
  | inr p ↦ among_apart of xs d y all.1 p
]

written_apart : (of : ℕ → ℕ) (parameters above : List ℕ) (names : ℕ → ℤ) (row : Row AutomatonLeaf) (d x : ℕ) → StaysUndisturbed of parameters above row
    → is_in d above ≡ true → path_writes (path_of names row) x ≡ true → of d ≢ of x
written_apart of parameters above names (Then item rest) d x apart there written =
    elim (or_true (writes (dest_of item) x) (path_writes (path_of names rest) x) written) [
      | inl w ↦ here (dest_of item) apart.0 w
      | inr w ↦ written_apart of parameters (named (dest_of item) above) names rest d x apart.1 (later (dest_of item)) w
    ]
  where
    here : (dest : Option ℕ) → IsUndisturbed of parameters above rest dest → writes dest x ≡ true → of d ≢ of x
    here (Some y) is_apart w = subst (λ (n : ℕ). of d ≢ of n) (nat_eq-tells y x w) (among_apart of above d y is_apart.defined there)
    here None is_apart w = absurd (cc)

    later : (dest : Option ℕ) → is_in d (named dest above) ≡ true
    later (Some y) = or_second (nat_eq d y) (is_in d above) there
    later None = there
written_apart of parameters above names (Either on p q) d x apart there written =
    by_test (holds (operand_value names on)) (λ w. written_apart of parameters above names p d x apart.0 there w)
    (λ w. written_apart of parameters above names q d x apart.1 there w) written
  where
    by_test : (b : Bool) → (path_writes (path_of names p) x ≡ true → of d ≢ of x) → (path_writes (path_of names q) x ≡ true → of d ≢ of x)
        → path_writes (if b then path_of names p else path_of names q) x ≡ true → of d ≢ of x
    by_test true one other w = one w
    by_test false one other w = other w
written_apart of parameters above names (At_leaf leaf) d x apart there written = absurd (cc)

-- ---- the same items in registers

module _ (lengths : List ℕ) (of : ℕ → ℕ) (s m : State) (cells : m.cells ≡ s.cells) (input : m.input ≡ s.input) where
  -- registers hold these names
  abbrev pub Hold : (ℕ → Bool) → Type 0
  Hold known = (x : ℕ) → known x ≡ true → m.names (of x) ≡ s.names x

  pub operand_same : (known : ℕ → Bool) → Hold known → (o : Operand) → IsKnown known o → operand_value m.names (map_name of o) ≡ operand_value s.names o
  operand_same known hold (Name x) k = hold x k
  operand_same known hold (Lit value) k = refl

  element_same : (array : ℕ) (value value' : ℤ) → value' ≡ value
      → element_at (m.cells array) (place_in (slice_index lengths array) value') ≡ element_at (s.cells array) (place_in (slice_index lengths array) value)
  element_same array value value' e = λ i. element_at (cells i array) (place_in (slice_index lengths array) (e i))

  value_same : (known : ℕ → Bool) → Hold known → (item : Item) → ReadsKnown known item → value_of lengths m (map_names of item) ≡ value_of lengths s item
  value_same known hold (Bin op dest left right) k = λ i. word_apply op (operand_same known hold left k.0 i) (operand_same known hold right k.1.0 i)
  value_same known hold (Copy dest from) k = operand_same known hold from k.0
  value_same known hold (Load dest array index) k =
      element_same array (operand_value s.names index) (operand_value m.names (map_name of index)) (operand_same known hold index k.0)
  value_same known hold (Store array index value) k = operand_same known hold value k.1.0
  value_same known hold (Print value) k = operand_same known hold value k.0
  value_same known hold (Read dest) k = ap next_input input
  value_same known hold (More dest) k = ap (λ (l : List ℤ). word_of_test (some_left l)) input

  -- what items do but for the names that they write
  record DoSame (path path' : List Item) : Type 0 where
    stores : stores_of lengths m path' ≡ stores_of lengths s path
    prints : prints_of m path' ≡ prints_of s path
    reads : reads_of path' ≡ reads_of path

  do_same : (known : ℕ → Bool) → Hold known → (path : List Item) → AllByRecursion (ReadsKnown known) path → DoSame path (map (map_names of) path)
  do_same known hold [] all = record { stores = refl; prints = refl; reads = refl }
  do_same known hold (item ∷ path) all = one_more item all.0 (do_same known hold path all.1)
    where
      one_more : (item : Item) → ReadsKnown known item → DoSame path (map (map_names of) path) → DoSame (item ∷ path) (map_names of item ∷ map (map_names of) path)
      one_more (Bin op dest left right) k h = record { stores = h.stores; prints = h.prints; reads = h.reads }
      one_more (Copy dest from) k h = record { stores = h.stores; prints = h.prints; reads = h.reads }
      one_more (Load dest array index) k h = record { stores = h.stores; prints = h.prints; reads = h.reads }
      one_more (Store array index value) k h =
          let at = operand_same known hold index k.0 in
          let word = operand_same known hold value k.1.0 in
          let stored : ℤ → ℤ → List Stored → List Stored = λ a w l. record { array = array; place = place_in (slice_index lengths array) a; word = w } ∷ l in
          record { stores = λ i. stored (at i) (word i) (h.stores i); prints = h.prints; reads = h.reads }
      one_more (Print value) k h =
          let word = operand_same known hold value k.0 in
          record { stores = h.stores; prints = λ i. word i ∷ h.prints i; reads = h.reads }
      one_more (Read dest) k h = record { stores = h.stores; prints = h.prints; reads = ap (λ (n : ℕ). suc n) h.reads }
      one_more (More dest) k h = record { stores = h.stores; prints = h.prints; reads = h.reads }

  fault_same : (path path' : List Item) → DoSame path path' → fault_of lengths m path' ≡ fault_of lengths s path
  fault_same path path' h =
      let fault : List Stored → ℕ → List ℤ → Option MachineFault = λ stores reads left.
      if list_any is_outside stores then Some StoreOutOfRange
      else if some_meet stores then Some StoredTwice
      else if nat_lt 0 reads && not (some_left left) then Some ReadPastEnd
      else None in
      λ i. fault (h.stores i) (h.reads i) (input i)

  -- ---- names afterwards

  dest_in : (item : Item) (x : ℕ) (value : ℤ) → writes (dest_of item) x ≡ true → (other other' : ℤ)
      → (if writes (dest_of (map_names of item)) (of x) then value else other) ≡ (if writes (dest_of item) x then value else other')
  dest_in item x value w other other' = ap (λ (b : Bool). if b then value else other) (moved item w) ∙ sym (ap (λ (b : Bool). if b then value else other') w)
    where
      same : (d : ℕ) → nat_eq d x ≡ true → nat_eq (of d) (of x) ≡ true
      same d e = let is = nat_eq-tells d x e in let both : of d ≡ of x = ap of is in grind arith

      moved : (item : Item) → writes (dest_of item) x ≡ true → writes (dest_of (map_names of item)) (of x) ≡ true
      moved (Bin op dest left right) e = same dest e
      moved (Copy dest from) e = same dest e
      moved (Load dest array index) e = same dest e
      moved (Store array index value) e = absurd (cc)
      moved (Print value) e = absurd (cc)
      moved (Read dest) e = same dest e
      moved (More dest) e = same dest e

  dest_out : (item : Item) (x : ℕ) (value value' : ℤ) → writes (dest_of item) x ≡ false → ((d : ℕ) → dest_of item ≡ Some d → of d ≢ of x) → (other other' : ℤ) → other ≡ other'
      → (if writes (dest_of (map_names of item)) (of x) then value else other) ≡ (if writes (dest_of item) x then value' else other')
  dest_out item x value value' w apart other other' e =
      ap (λ (b : Bool). if b then value else other) (moved item apart) ∙ e ∙ sym (ap (λ (b : Bool). if b then value' else other') w)
    where
      differ : (d : ℕ) → of d ≢ of x → nat_eq (of d) (of x) ≡ false
      differ d ne = by_test (nat_eq (of d) (of x)) refl
        where
          by_test : (b : Bool) → nat_eq (of d) (of x) ≡ b → b ≡ false
          by_test true e = absurd (ne (nat_eq-tells (of d) (of x) e))
          by_test false e = refl

      moved : (item : Item) → ((d : ℕ) → dest_of item ≡ Some d → of d ≢ of x) → writes (dest_of (map_names of item)) (of x) ≡ false
      moved (Bin op dest left right) a = differ dest (a dest refl)
      moved (Copy dest from) a = differ dest (a dest refl)
      moved (Load dest array index) a = differ dest (a dest refl)
      moved (Store array index value) a = refl
      moved (Print value) a = refl
      moved (Read dest) a = differ dest (a dest refl)
      moved (More dest) a = differ dest (a dest refl)

  module _ (parameters : List ℕ) (hold : Hold (λ x. is_in x parameters)) where
    -- what is shown of a side of a row
    abbrev NamesSame : ℕ → Row AutomatonLeaf → Type 0
    NamesSame x side = AllByRecursion (ReadsKnown (λ x. is_in x parameters)) (path_of s.names side)
        → (is_in x parameters ≡ true) ⊎ (path_writes (path_of s.names side) x ≡ true) → leaf_uses (leaf_of s.names side) x ≡ true
        → names_after lengths m (map (map_names of) (path_of s.names side)) (of x) ≡ names_after lengths s (path_of s.names side) x

    -- a name that the leaf uses which is taken, a parameter or written on the path, has its value in its register
    names_same : (above : List ℕ) (row : Row AutomatonLeaf) (x : ℕ) → StaysUndisturbed of parameters above row
        → AllByRecursion (ReadsKnown (λ x. is_in x parameters)) (path_of s.names row) → row_uses row x ≡ true
        → (is_in x parameters ≡ true) ⊎ (path_writes (path_of s.names row) x ≡ true) → leaf_uses (leaf_of s.names row) x ≡ true
        → names_after lengths m (map (map_names of) (path_of s.names row)) (of x) ≡ names_after lengths s (path_of s.names row) x
    names_same above (Then item rest) x apart reads below known used =
        by_dest (writes (dest_of item) x) refl (λ later. names_same (named (dest_of item) above) rest x apart.1 reads.1 (used_below s.names rest x used) later used)
      where
        -- a parameter, or a name that is written further below
        below_item : writes (dest_of item) x ≡ false → (is_in x parameters ≡ true) ⊎ (path_writes (path_of s.names rest) x ≡ true)
        below_item w = elim known [
          | inl p ↦ inl p
          | inr p ↦ elim (or_true (writes (dest_of item) x) (path_writes (path_of s.names rest) x) p) [
            | inl q ↦ absurd (cc)
            | inr q ↦ inr q
          ]
        ]

        other : (is_in x parameters ≡ true) ⊎ (path_writes (path_of s.names rest) x ≡ true) → (d : ℕ) → dest_of item ≡ Some d → of d ≢ of x
        other (inl p) d e = λ same. (subst (λ (o : Option ℕ). IsUndisturbed of parameters above rest o) e apart.0).used x p (used_below s.names rest x used) (sym same)
        other (inr p) d e =
            written_apart of parameters (named (dest_of item) above) s.names rest d x apart.1
            (subst (λ (o : Option ℕ). is_in d (named o above) ≡ true) (sym e) (or_first (nat_eq d d) (is_in d above) (nat_eq-same d))) p

        by_dest : (b : Bool) → writes (dest_of item) x ≡ b
            → ((is_in x parameters ≡ true) ⊎ (path_writes (path_of s.names rest) x ≡ true)
            → names_after lengths m (map (map_names of) (path_of s.names rest)) (of x) ≡ names_after lengths s (path_of s.names rest) x)
            → (if writes (dest_of (map_names of item)) (of x) then value_of lengths m (map_names of item)
            else names_after lengths m (map (map_names of) (path_of s.names rest)) (of x))
            ≡ (if writes (dest_of item) x then value_of lengths s item else names_after lengths s (path_of s.names rest) x)
        by_dest true w next =
            ap (λ (z : ℤ). if writes (dest_of (map_names of item)) (of x) then z else names_after lengths m (map (map_names of) (path_of s.names rest)) (of x))
            (value_same (λ x. is_in x parameters) hold item reads.0)
            ∙ dest_in item x (value_of lengths s item) w (names_after lengths m (map (map_names of) (path_of s.names rest)) (of x)) (names_after lengths s (path_of s.names rest) x)
        by_dest false w next =
            dest_out item x (value_of lengths m (map_names of item)) (value_of lengths s item) w (other (below_item w))
            (names_after lengths m (map (map_names of) (path_of s.names rest)) (of x)) (names_after lengths s (path_of s.names rest) x) (next (below_item w))
    names_same above (Either on p q) x apart reads below known used =
        by_test (holds (operand_value s.names on)) (λ r k u. names_same above p x apart.0 r (used_below s.names p x u) k u)
        (λ r k u. names_same above q x apart.1 r (used_below s.names q x u) k u) reads known used
      where
        by_test : (b : Bool) → NamesSame x p → NamesSame x q → AllByRecursion (ReadsKnown (λ x. is_in x parameters)) (if b then path_of s.names p else path_of s.names q)
            → (is_in x parameters ≡ true) ⊎ (path_writes (if b then path_of s.names p else path_of s.names q) x ≡ true)
            → leaf_uses (if b then leaf_of s.names p else leaf_of s.names q) x ≡ true
            → names_after lengths m (map (map_names of) (if b then path_of s.names p else path_of s.names q)) (of x)
            ≡ names_after lengths s (if b then path_of s.names p else path_of s.names q) x
        by_test true one other r k u = one r k u
        by_test false one other r k u = other r k u
    names_same above (At_leaf leaf) x apart reads below known used = elim known [
      | inl p ↦ hold x p
      | inr p ↦ absurd (cc)
    ]

    -- ---- the row

    -- the path and the leaf that are taken
    record TakesSame (Related : AutomatonLeaf → Leaf → Type 0) (row : Row AutomatonLeaf) (below : CodeRow) : Type 0 where
      path : path_of m.names below ≡ map (map_names of) (path_of s.names row)
      related : Related (leaf_of s.names row) (leaf_of m.names below)

    takes_same : {Related : AutomatonLeaf → Leaf → Type 0} {row : Row AutomatonLeaf} {below : CodeRow} → RowStands Related of row below
        → AllByRecursion (IsKnown (λ x. is_in x parameters)) (tests_of row) → TakesSame Related row below
    takes_same {Related} (item_stands item h) tests =
        let t = takes_same {Related = Related} h tests in
        record { path = ap (λ (l : List Item). map_names of item ∷ l) t.path; related = t.related }
    takes_same {Related} (test_stands on {on_yes} {on_no} {yes_below} {no_below} h k) tests =
        let t = side (holds (operand_value s.names on)) (holds (operand_value m.names (map_name of on)))
        (ap holds (operand_same (λ x. is_in x parameters) hold on tests.0))
        (takes_same {Related = Related} h (all_front (IsKnown (λ x. is_in x parameters)) (tests_of on_yes) (tests_of on_no) tests.1))
        (takes_same {Related = Related} k (all_back (IsKnown (λ x. is_in x parameters)) (tests_of on_yes) (tests_of on_no) tests.1)) in
        record { path = t.0; related = t.1 }
      where
        side : (b c : Bool) → c ≡ b → TakesSame Related on_yes yes_below → TakesSame Related on_no no_below
            → ((if c then path_of m.names yes_below else path_of m.names no_below) ≡ map (map_names of) (if b then path_of s.names on_yes else path_of s.names on_no))
            × Related (if b then leaf_of s.names on_yes else leaf_of s.names on_no) (if c then leaf_of m.names yes_below else leaf_of m.names no_below)
        side true true e p q = (p.path, p.related)
        side false false e p q = (q.path, q.related)
        side true false e p q = absurd (cc)
        side false true e p q = absurd (cc)
    takes_same (leaf_stands h) tests = record { path = refl; related = h }

-- ---- what both do

-- registers hold what a leaf uses, and arrays and input are the same
pub record LeafHolds (of : ℕ → ℕ) (leaf : AutomatonLeaf) (s m : State) : Type 0 where
  pub names : (x : ℕ) → leaf_uses leaf x ≡ true → m.names (of x) ≡ s.names x
  pub cells : m.cells ≡ s.cells
  pub input : m.input ≡ s.input

-- the same fault; or the same is printed, the leaves are related, and registers hold what the leaf uses
pub data OutcomeStands (Related : AutomatonLeaf → Leaf → Type 0) (of : ℕ → ℕ) : RowOutcome AutomatonLeaf → RowOutcome Leaf → Type 0 where
  both_fault : {fault : MachineFault} → OutcomeStands Related of (Faults fault) (Faults fault)
  both_commit : {printed : List ℤ} {new moved : State} {leaf : AutomatonLeaf} {below : Leaf} → Related leaf below → LeafHolds of leaf new moved
      → OutcomeStands Related of (Commits printed new leaf) (Commits printed moved below)

-- registers hold the parameters
pub record Holds (of : ℕ → ℕ) (parameters : List ℕ) (s m : State) : Type 0 where
  pub names : (x : ℕ) → is_in x parameters ≡ true → m.names (of x) ≡ s.names x
  pub cells : m.cells ≡ s.cells
  pub input : m.input ≡ s.input

outcome_of : {Related : AutomatonLeaf → Leaf → Type 0} (lengths : List ℕ) (of : ℕ → ℕ) (s m : State) (path path' : List Item) (leaf : AutomatonLeaf) (below : Leaf)
    (f : Option MachineFault) → prints_of m path' ≡ prints_of s path → Related leaf below → LeafHolds of leaf (state_after lengths s path) (state_after lengths m path')
    → OutcomeStands Related of (commit_of lengths s path leaf f) (commit_of lengths m path' below f)
outcome_of lengths of s m path path' leaf below (Some fault) prints related h = both_fault
outcome_of {Related} lengths of s m path path' leaf below None prints related h =
    subst (λ (l : List ℤ). OutcomeStands Related of (Commits (prints_of s path) (state_after lengths s path) leaf) (Commits l (state_after lengths m path') below)) (sym prints)
    (both_commit related h)

pub row_does : {Related : AutomatonLeaf → Leaf → Type 0} {row : Row AutomatonLeaf} {below : CodeRow} (lengths : List ℕ) (of : ℕ → ℕ) (parameters : List ℕ) (s m : State)
    → RowStands Related of row below → StaysUndisturbed of parameters [] row
    → AllByRecursion (ReadsKnown (λ x. is_in x parameters)) (items_of row) → AllByRecursion (IsKnown (λ x. is_in x parameters)) (tests_of row)
    → LeavesAreKnown (λ x. is_in x parameters) row → Holds of parameters s m
    → OutcomeStands Related of (row_step lengths row s) (row_step lengths below m)
row_does {Related} {row} {below} lengths of parameters s m stands apart items tests leaves holding =
    let reads = path_items (ReadsKnown (λ x. is_in x parameters)) s.names row items in
    let path = path_of s.names row in
    let path' = map (map_names of) path in
    let t = takes_same lengths of s m holding.cells holding.input parameters holding.names {Related = Related} stands tests in
    let d = do_same lengths of s m holding.cells holding.input (λ x. is_in x parameters) holding.names path reads in
    let h : LeafHolds of (leaf_of s.names row) (state_after lengths s path) (state_after lengths m path') = record {
      names = λ x used. names_same lengths of s m holding.cells holding.input parameters holding.names [] row x apart reads (used_below s.names row x used)
          (used_known s.names (λ x. is_in x parameters) row x leaves used) used;
      cells = λ i. cells_after (holding.cells i) (d.stores i);
      input = λ i. drop (d.reads i) (holding.input i);
    } in
    subst (λ (l : List Item). OutcomeStands Related of (row_step lengths row s) (commit_of lengths m l (leaf_of m.names below) (fault_of lengths m l))) (sym t.path)
    (subst (λ (f : Option MachineFault). OutcomeStands Related of (row_step lengths row s) (commit_of lengths m path' (leaf_of m.names below) f))
    (sym (fault_same lengths of s m holding.cells holding.input path path' d))
    (outcome_of {Related = Related} lengths of s m path path' (leaf_of s.names row) (leaf_of m.names below) (fault_of lengths s path) d.prints t.related h))
