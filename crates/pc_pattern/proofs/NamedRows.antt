-- Rows that differ in the names that they write do the same, but for names.
use Rattle.std.proofs.Common.{◌≡◌, ℕ, suc, List, [], ◌∷◌, ◌⊎◌, inl, inr, refl, sym, ◌∙◌, ap, subst, drop}
use Rattle.std.specs.Prelude.{ℤ, Bool, true, false, not, ◌&&◌, if◌then◌else◌, nat_eq, nat_lt, slice_index, Option, Some, None}
use Rattle.std.specs.List.{list_any}
use Rattle.pc_word.specs.declared.item.Item.{Item}
use Rattle.pc_word.specs.declared.item.Item.TheVariants.{Bin, Copy, Load, Store, Print, Read, More}
use Rattle.pc_word.specs.declared.item.MachineFault.{MachineFault}
use Rattle.pc_word.specs.declared.item.MachineFault.TheVariants.{StoreOutOfRange, StoredTwice, ReadPastEnd}
use Rattle.pc_word.specs.Word.{holds}
use Rattle.pc_word.specs.State.{State}
use Rattle.pc_word.specs.Items.{operand_value, place_in, some_left, dest_of, value_of}
use Rattle.pc_word.specs.Commit.{writes, names_after, Stored, stores_of, cells_after, prints_of, reads_of, is_outside, some_meet, fault_of}
use Rattle.pc_word.specs.Commit.{state_after}
use Rattle.pc_word.specs.Row.{Row, Then, Either, At_leaf, path_of, leaf_of, RowOutcome, Faults, Commits, commit_of, row_step}
use Rattle.pc_window.specs.Names.{IsNew, and_dest}
use Rattle.pc_window.proofs.Undisturbed.{new-known}
use Rattle.pc_canon.specs.Pairs.{Pair, corresponds, defined, Correspond}
use Rattle.pc_pattern.specs.NamedRow.{RowsNamed, named_item, named_test, named_leaf}
use Rattle.pc_word.specs.Naming.{with_dest}
use Rattle.pc_word.proofs.Truth.{or_first, or_second}

-- no name is written twice on a path, nor one of these
abbrev pub WritesOnce : {L : Type 0} → (ℕ → Bool) → Row L → Type 0
WritesOnce known (Then item rest) = IsNew known (dest_of item) × WritesOnce (and_dest known item) rest
WritesOnce known (Either on on_yes on_no) = WritesOnce known on_yes × WritesOnce known on_no
WritesOnce known (At_leaf leaf) = Unit {0}

-- ---- an item with another name

-- both write a name, or neither does
abbrev pub WriteAlike : Option ℕ → Option ℕ → Type 0
WriteAlike d d' = ((x : ℕ) × (y : ℕ) × (d ≡ Some x) × (d' ≡ Some y)) ⊎ ((d ≡ None) × (d' ≡ None))

-- two items do the same above items that do the same, but for the name that is written
record SameButName (lengths : List ℕ) (s : State) (item other : Item) : Type 0 where
  value : value_of lengths s item ≡ value_of lengths s other
  stores : (xs ys : List Item) → stores_of lengths s xs ≡ stores_of lengths s ys → stores_of lengths s (item ∷ xs) ≡ stores_of lengths s (other ∷ ys)
  prints : (xs ys : List Item) → prints_of s xs ≡ prints_of s ys → prints_of s (item ∷ xs) ≡ prints_of s (other ∷ ys)
  reads : (xs ys : List Item) → reads_of xs ≡ reads_of ys → reads_of (item ∷ xs) ≡ reads_of (other ∷ ys)
  dests : WriteAlike (dest_of item) (dest_of other)

same_but_name : (lengths : List ℕ) (s : State) (name : ℕ) (item : Item) → SameButName lengths s item (with_dest name item)
same_but_name lengths s name (Bin op d l r) =
    record { value = refl; stores = λ xs ys e. e; prints = λ xs ys e. e; reads = λ xs ys e. e; dests = inl (d, name, refl, refl) }
same_but_name lengths s name (Copy d from) =
    record { value = refl; stores = λ xs ys e. e; prints = λ xs ys e. e; reads = λ xs ys e. e; dests = inl (d, name, refl, refl) }
same_but_name lengths s name (Load d a i) =
    record { value = refl; stores = λ xs ys e. e; prints = λ xs ys e. e; reads = λ xs ys e. e; dests = inl (d, name, refl, refl) }
same_but_name lengths s name (Store a i v) =
    let one : Stored = record { array = a; place = place_in (slice_index lengths a) (operand_value s.names i); word = operand_value s.names v } in
    record {
      value = refl;
      stores = λ xs ys e. ap (λ (l : List Stored). one ∷ l) e;
      prints = λ xs ys e. e;
      reads = λ xs ys e. e;
      dests = inr (refl, refl);
    }
same_but_name lengths s name (Print v) =
    record {
      value = refl;
      stores = λ xs ys e. e;
      prints = λ xs ys e. ap (λ (l : List ℤ). operand_value s.names v ∷ l) e;
      reads = λ xs ys e. e;
      dests = inr (refl, refl);
    }
same_but_name lengths s name (Read d) =
    record {
      value = refl;
      stores = λ xs ys e. e;
      prints = λ xs ys e. e;
      reads = λ xs ys e. ap (λ (n : ℕ). suc n) e;
      dests = inl (d, name, refl, refl);
    }
same_but_name lengths s name (More d) =
    record { value = refl; stores = λ xs ys e. e; prints = λ xs ys e. e; reads = λ xs ys e. e; dests = inl (d, name, refl, refl) }

-- ---- names over a base

-- what the items write, over other names; all read one state
abbrev over : List ℕ → State → (ℕ → ℤ) → List Item → ℕ → ℤ
over lengths s base [] x = base x
over lengths s base (item ∷ items) x = if writes (dest_of item) x then value_of lengths s item else over lengths s base items x

over_is : (lengths : List ℕ) (s : State) (items : List Item) (x : ℕ) → names_after lengths s items x ≡ over lengths s s.names items x
over_is lengths s [] x = refl
over_is lengths s (item ∷ items) x = ap (λ (z : ℤ). if writes (dest_of item) x then value_of lengths s item else z) (over_is lengths s items x)

over_same : (lengths : List ℕ) (s : State) (base other : ℕ → ℤ) (items : List Item) (x : ℕ) → base x ≡ other x
    → over lengths s base items x ≡ over lengths s other items x
over_same lengths s base other [] x e = e
over_same lengths s base other (item ∷ items) x e =
    ap (λ (z : ℤ). if writes (dest_of item) x then value_of lengths s item else z) (over_same lengths s base other items x e)

-- the name that an item writes, over a base
abbrev put : List ℕ → State → (ℕ → ℤ) → Item → ℕ → ℤ
put lengths s base item y = if writes (dest_of item) y then value_of lengths s item else base y

-- a name that may not be written is not
over_known : {L : Type 0} (lengths : List ℕ) (s : State) (base : ℕ → ℤ) (known : ℕ → Bool) (row : Row L) (x : ℕ) → WritesOnce known row
    → known x ≡ true
    → over lengths s base (path_of s.names row) x ≡ base x
over_known lengths s base known (Then item rest) x once k =
    ap (λ (b : Bool). if b then value_of lengths s item else over lengths s base (path_of s.names rest) x) (new-known known (dest_of item) x once.0 k)
    ∙ over_known lengths s base (and_dest known item) rest x once.1 (or_second (writes (dest_of item) x) (known x) k)
over_known lengths s base known (Either on p q) x once k =
    by_test (holds (operand_value s.names on)) (over_known lengths s base known p x once.0 k) (over_known lengths s base known q x once.1 k)
  where
    by_test : (b : Bool) → over lengths s base (path_of s.names p) x ≡ base x → over lengths s base (path_of s.names q) x ≡ base x
        → over lengths s base (if b then path_of s.names p else path_of s.names q) x ≡ base x
    by_test true h g = h
    by_test false h g = g
over_known lengths s base known (At_leaf leaf) x once k = refl

-- the first item's name may be put below the others
over_first : {L : Type 0} (lengths : List ℕ) (s : State) (base : ℕ → ℤ) (known : ℕ → Bool) (item : Item) (rest : Row L) (x : ℕ)
    → WritesOnce (and_dest known item) rest
    → over lengths s base (item ∷ path_of s.names rest) x ≡ over lengths s (put lengths s base item) (path_of s.names rest) x
over_first lengths s base known item rest x once = by_test (writes (dest_of item) x) refl
  where
    by_test : (b : Bool) → writes (dest_of item) x ≡ b
        → (if b then value_of lengths s item else over lengths s base (path_of s.names rest) x) ≡ over lengths s (put lengths s base item)
        (path_of s.names rest) x
    by_test true e =
        sym (ap (λ (b : Bool). if b then value_of lengths s item else base x) e)
        ∙ sym (over_known lengths s (put lengths s base item) (and_dest known item) rest x once (or_first (writes (dest_of item) x) (known x) e))
    by_test false e =
        over_same lengths s base (put lengths s base item) (path_of s.names rest) x
        (sym (ap (λ (b : Bool). if b then value_of lengths s item else base x) e))

-- ---- the rows

choose : (b b' c : Bool) (v v' u u' : ℤ) → (if b then b' else (not b' && c)) ≡ true → v ≡ v' → (c ≡ true → u ≡ u')
    → (if b then v else u) ≡ (if b' then v' else u')
choose true true c v v' u u' h p q = p
choose true false c v v' u u' h p q = absurd (cc)
choose false true c v v' u u' h p q = absurd (cc)
choose false false c v v' u u' h p q = q h

one_more_name : (names : List Pair) (d d' : Option ℕ) (base base' : ℕ → ℤ) (v v' : ℤ) → WriteAlike d d'
    → ((x y : ℕ) → corresponds names x y ≡ true → base x ≡ base' y) → v ≡ v'
    → (x y : ℕ) → corresponds (defined names d d') x y ≡ true → (if writes d x then v else base x) ≡ (if writes d' y then v' else base' y)
one_more_name names (Some a) (Some b) base base' v v' e same value x y h =
    choose (nat_eq a x) (nat_eq b y) (corresponds names x y) v v' (base x) (base' y) h value (same x y)
one_more_name names None None base base' v v' e same value x y h = same x y h
one_more_name names (Some a) None base base' v v' e same value x y h = elim e [ inl k ↦ absurd (cc) | inr k ↦ absurd (cc) ]
one_more_name names None (Some b) base base' v v' e same value x y h = elim e [ inl k ↦ absurd (cc) | inr k ↦ absurd (cc) ]

-- what both rows take
record TakesSame {L M : Type 0} (Related : List Pair → L → M → Type 0) (lengths : List ℕ) (s : State) (base base' : ℕ → ℤ)
    (items others : List Item) (leaf : L) (other : M) : Type 0 where
  last : List Pair
  names : (x y : ℕ) → corresponds last x y ≡ true → over lengths s base items x ≡ over lengths s base' others y
  stores : stores_of lengths s items ≡ stores_of lengths s others
  prints : prints_of s items ≡ prints_of s others
  reads : reads_of items ≡ reads_of others
  related : Related last leaf other

takes_same : {L M : Type 0} {Related : List Pair → L → M → Type 0} {pairs : List Pair} {row : Row L} {other : Row M} (lengths : List ℕ) (s : State)
    (base base' : ℕ → ℤ) (known known' : ℕ → Bool)
    → RowsNamed Related pairs row other → WritesOnce known row → WritesOnce known' other
    → ((x y : ℕ) → corresponds pairs x y ≡ true → base x ≡ base' y)
    → TakesSame Related lengths s base base' (path_of s.names row) (path_of s.names other) (leaf_of s.names row) (leaf_of s.names other)
takes_same lengths s base base' known known' (named_item {names = pairs} {item} {rest} {other} name h) once once' same =
    let k = same_but_name lengths s name item in
    let t = takes_same lengths s (put lengths s base item) (put lengths s base' (with_dest name item)) (and_dest known item)
    (and_dest known' (with_dest name item)) h once.1 once'.1
    (one_more_name pairs (dest_of item) (dest_of (with_dest name item)) base base' (value_of lengths s item)
    (value_of lengths s (with_dest name item)) k.dests same k.value) in
    record {
      last = t.last;
      names = λ x y e. over_first lengths s base known item rest x once.1 ∙ t.names x y e
          ∙ sym (over_first lengths s base' known' (with_dest name item) other y once'.1);
      stores = k.stores (path_of s.names rest) (path_of s.names other) t.stores;
      prints = k.prints (path_of s.names rest) (path_of s.names other) t.prints;
      reads = k.reads (path_of s.names rest) (path_of s.names other) t.reads;
      related = t.related;
    }
takes_same {Related} lengths s base base' known known' (named_test {on} {on_yes} {on_no} {other_yes} {other_no} p q) once once' same =
    by_test (holds (operand_value s.names on)) (takes_same lengths s base base' known known' p once.0 once'.0 same)
    (takes_same lengths s base base' known known' q once.1 once'.1 same)
  where
    by_test : (b : Bool) → TakesSame Related lengths s base base' (path_of s.names on_yes) (path_of s.names other_yes) (leaf_of s.names on_yes)
        (leaf_of s.names other_yes)
        → TakesSame Related lengths s base base' (path_of s.names on_no) (path_of s.names other_no) (leaf_of s.names on_no) (leaf_of s.names other_no)
        → TakesSame Related lengths s base base' (if b then path_of s.names on_yes else path_of s.names on_no)
        (if b then path_of s.names other_yes else path_of s.names other_no)
        (if b then leaf_of s.names on_yes else leaf_of s.names on_no) (if b then leaf_of s.names other_yes else leaf_of s.names other_no)
    by_test true h g = h
    by_test false h g = g
takes_same lengths s base base' known known' (named_leaf {names = pairs} h) once once' same =
    record { last = pairs; names = same; stores = refl; prints = refl; reads = refl; related = h }

-- what two rows do: the same fault, or the same printed, states that correspond, and related leaves
pub data OutcomesNamed {L M : Type 0} (Related : List Pair → L → M → Type 0) : RowOutcome L → RowOutcome M → Type 0 where
  both_fault : {fault : MachineFault} → OutcomesNamed Related (Faults fault) (Faults fault)
  both_commit : {printed : List ℤ} {new new' : State} {leaf : L} {other : M} (names : List Pair) → Correspond names new new'
      → Related names leaf other
      → OutcomesNamed Related (Commits printed new leaf) (Commits printed new' other)

-- equal stores and reads lead to the same fault
fault_same : (lengths : List ℕ) (s : State) (items others : List Item) → stores_of lengths s items ≡ stores_of lengths s others
    → reads_of items ≡ reads_of others
    → fault_of lengths s items ≡ fault_of lengths s others
fault_same lengths s items others stores reads =
    let fault : List Stored → ℕ → Option MachineFault = λ stores reads.
    if list_any is_outside stores then Some StoreOutOfRange
    else if some_meet stores then Some StoredTwice
    else if (nat_lt 0 reads && not (some_left s.input)) then Some ReadPastEnd
    else None in
    λ i. fault (stores i) (reads i)

named_of : {L M : Type 0} {Related : List Pair → L → M → Type 0} (lengths : List ℕ) (s : State) (items others : List Item) (leaf : L) (other : M)
    (fault : Option MachineFault) (names : List Pair)
    → prints_of s items ≡ prints_of s others → Correspond names (state_after lengths s items) (state_after lengths s others)
    → Related names leaf other
    → OutcomesNamed Related (commit_of lengths s items leaf fault) (commit_of lengths s others other fault)
named_of lengths s items others leaf other (Some fault) names prints c r = both_fault
named_of {Related} lengths s items others leaf other None names prints c r =
    subst (λ (l : List ℤ). OutcomesNamed Related (Commits (prints_of s items) (state_after lengths s items) leaf)
    (Commits l (state_after lengths s others) other)) prints (both_commit names c r)

-- rows that differ in the names that they write do the same, but for names
pub named_rows_do : {L M : Type 0} {Related : List Pair → L → M → Type 0} {pairs : List Pair} {row : Row L} {other : Row M} (lengths : List ℕ)
    (s : State) (known known' : ℕ → Bool)
    → RowsNamed Related pairs row other → WritesOnce known row → WritesOnce known' other
    → ((x y : ℕ) → corresponds pairs x y ≡ true → s.names x ≡ s.names y)
    → OutcomesNamed Related (row_step lengths row s) (row_step lengths other s)
named_rows_do {Related} {row} {other} lengths s known known' h once once' same =
    let t = takes_same lengths s s.names s.names known known' h once once' same in
    let items = path_of s.names row in
    let others = path_of s.names other in
    subst (λ (f : Option MachineFault). OutcomesNamed Related (row_step lengths row s) (commit_of lengths s others (leaf_of s.names other) f))
    (fault_same lengths s items others t.stores t.reads)
    (named_of lengths s items others (leaf_of s.names row) (leaf_of s.names other) (fault_of lengths s items) t.last t.prints
    (record {
      same_names = λ x y e. over_is lengths s items x ∙ t.names x y e ∙ sym (over_is lengths s others y);
      same_cells = ap (λ (l : List Stored). cells_after s.cells l) t.stores;
      same_input = ap (λ (n : ℕ). drop n s.input) t.reads;
    }) t.related)
