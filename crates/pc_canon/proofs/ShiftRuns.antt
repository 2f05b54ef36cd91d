-- Windows that are equal up to a shift have the same run, where corresponding names have the same values.
use Rattle.std.proofs.Common.{◌≡◌, ℕ, zero, suc, List, [], ◌∷◌, ◌⊎◌, inl, inr, refl, sym, ◌∙◌, ap}
use Rattle.std.specs.Prelude.{ℤ, Bool, true, false, not, ◌&&◌, if◌then◌else◌, nat_eq, nat_lt, drop, Option, Some, None, slice_index}
use Rattle.std.specs.List.{list_any}
use Rattle.pc_word.specs.declared.item.Item.{Item}
use Rattle.pc_word.specs.declared.item.MachineFault.{MachineFault}
use Rattle.pc_word.specs.declared.item.MachineFault.TheVariants.{StoreOutOfRange, StoredTwice, ReadPastEnd}
use Rattle.pc_word.specs.Word.{holds, word_apply, word_of_test}
use Rattle.pc_word.specs.Run.{Seen, after_printing, run_from, seen_of}
use Rattle.pc_word.specs.State.{State}
use Rattle.pc_word.specs.Items.{operand_value, place_in, element_at, next_input, some_left, dest_of, value_of}
use Rattle.pc_word.specs.Commit.{writes, Stored, stores_of, cells_after, prints_of, reads_of, is_outside, some_meet, fault_of, state_after}
use Rattle.pc_word.specs.Row.{commit_of}
use Rattle.pc_linear.specs.Form.{Form}
use Rattle.pc_table.specs.Table.{Table, Next}
use Rattle.pc_table.specs.RegionRun.{place_at, lead_on}
use Rattle.pc_window.specs.Tree.{Tree}
use Rattle.pc_window.specs.WindowRun.{Window, Beyond, enter, window_step, tree_run, window_run}
use Rattle.pc_canon.specs.Pairs.{Pair, corresponds, defined, Correspond}
use Rattle.pc_canon.specs.Shift.{ItemsAlike, both_bin, both_copy, both_load, both_store, both_print, both_read, both_more, Maps, TreesAlike, both_then, both_either, both_exit}
use Rattle.pc_canon.specs.Shift.{both_stop, both_trap, ShiftedBy}
use Rattle.pc_canon.proofs.Alike.{operands_alike, home_states_alike}

-- what an item does beside its destination
pub record SameEffect (lengths : List ℕ) (s t : State) (item other : Item) : Type 0 where
  pub value : value_of lengths s item ≡ value_of lengths t other
  pub stores : stores_of lengths s (item ∷ []) ≡ stores_of lengths t (other ∷ [])
  pub prints : prints_of s (item ∷ []) ≡ prints_of t (other ∷ [])
  pub reads : reads_of (item ∷ []) ≡ reads_of (other ∷ [])

abbrev stored : (array : ℕ) → List ℕ → ℤ → ℤ → List Stored
stored array lengths index word = (record { array = array; place = place_in (slice_index lengths array) index; word = word }) ∷ []

stored_alike : (array : ℕ) (lengths : List ℕ) (index word index' word' : ℤ) → index ≡ index' → word ≡ word' → stored array lengths index word ≡ stored array lengths index' word'
stored_alike array lengths index word index' word' p q = ap (λ (z : ℤ). stored array lengths z word) p ∙ ap (λ (z : ℤ). stored array lengths index' z) q

-- items that are alike have the same effect
pub items_alike : {names : List Pair} {item other : Item} (lengths : List ℕ) (s t : State) → Correspond names s t → ItemsAlike names item other → SameEffect lengths s t item other
items_alike {names} lengths s t c (both_bin {op} {left} {left'} {right} {right'} h k) =
    record {
      value = ap (λ (z : ℤ). word_apply op z (operand_value s.names right)) (operands_alike names s t left left' c h)
          ∙ ap (λ (z : ℤ). word_apply op (operand_value t.names left') z) (operands_alike names s t right right' c k);
      stores = refl;
      prints = refl;
      reads = refl;
    }
items_alike {names} lengths s t c (both_copy {from} {from'} h) =
    record { value = operands_alike names s t from from' c h; stores = refl; prints = refl; reads = refl }
items_alike {names} lengths s t c (both_load {array} {index} {index'} h) =
    record {
      value = ap (λ (f : ℕ → ℕ → ℤ). element_at (f array) (place_in (slice_index lengths array) (operand_value s.names index))) c.same_cells
          ∙ ap (λ (z : ℤ). element_at (t.cells array) (place_in (slice_index lengths array) z)) (operands_alike names s t index index' c h);
      stores = refl;
      prints = refl;
      reads = refl;
    }
items_alike {names} lengths s t c (both_store {array} {index} {index'} {value} {value'} h k) =
    let at = operands_alike names s t index index' c h in
    let word = operands_alike names s t value value' c k in
    record {
      value = word;
      stores = stored_alike array lengths (operand_value s.names index) (operand_value s.names value) (operand_value t.names index') (operand_value t.names value') at word;
      prints = refl;
      reads = refl;
    }
items_alike {names} lengths s t c (both_print {value} {value'} h) =
    record {
      value = operands_alike names s t value value' c h;
      stores = refl;
      prints = ap (λ (z : ℤ). z ∷ []) (operands_alike names s t value value' c h);
      reads = refl;
    }
items_alike lengths s t c both_read =
    record { value = ap (λ (l : List ℤ). next_input l) c.same_input; stores = refl; prints = refl; reads = refl }
items_alike lengths s t c both_more =
    record { value = ap (λ (l : List ℤ). word_of_test (some_left l)) c.same_input; stores = refl; prints = refl; reads = refl }

-- both define a name, or neither does
pub dests_of : {names : List Pair} {item other : Item} → ItemsAlike names item other
    → ((x : ℕ) × (y : ℕ) × (dest_of item ≡ Some x) × (dest_of other ≡ Some y)) ⊎ ((dest_of item ≡ None) × (dest_of other ≡ None))
dests_of (both_bin {dest} {dest'} h k) = inl (dest, dest', refl, refl)
dests_of (both_copy {dest} {dest'} h) = inl (dest, dest', refl, refl)
dests_of (both_load {dest} {dest'} h) = inl (dest, dest', refl, refl)
dests_of (both_store h k) = inr (refl, refl)
dests_of (both_print h) = inr (refl, refl)
dests_of (both_read {dest} {dest'}) = inl (dest, dest', refl, refl)
dests_of (both_more {dest} {dest'}) = inl (dest, dest', refl, refl)

-- equal stores, reads and input lead to the same fault
pub fault_alike : (lengths : List ℕ) (s t : State) (item other : Item) → s.input ≡ t.input
    → SameEffect lengths s t item other → fault_of lengths s (item ∷ []) ≡ fault_of lengths t (other ∷ [])
fault_alike lengths s t item other input e =
    let fault : List Stored → ℕ → List ℤ → Option MachineFault = λ stores reads left.
    if list_any is_outside stores then Some StoreOutOfRange
    else if some_meet stores then Some StoredTwice
    else if (nat_lt 0 reads && not (some_left left)) then Some ReadPastEnd
    else None in
    ap (λ (l : List Stored). fault l (reads_of (item ∷ [])) s.input) e.stores
    ∙ ap (λ (n : ℕ). fault (stores_of lengths t (other ∷ [])) n s.input) e.reads
    ∙ ap (λ (l : List ℤ). fault (stores_of lengths t (other ∷ [])) (reads_of (other ∷ [])) l) input

choose : (b b' c : Bool) (v v' u u' : ℤ) → (if b then b' else (not b' && c)) ≡ true → v ≡ v' → (c ≡ true → u ≡ u') → (if b then v else u) ≡ (if b' then v' else u')
choose true true c v v' u u' h p q = p
choose true false c v v' u u' h p q = absurd (cc)
choose false true c v v' u u' h p q = absurd (cc)
choose false false c v v' u u' h p q = q h

-- names correspond after an item as they did before it, and its destinations do
names_alike : (lengths : List ℕ) (names : List Pair) (s t : State) (item other : Item) (d d' : Option ℕ)
    → ((x : ℕ) × (y : ℕ) × (d ≡ Some x) × (d' ≡ Some y)) ⊎ ((d ≡ None) × (d' ≡ None))
    → Correspond names s t → (v v' : ℤ) → v ≡ v' → (x y : ℕ) → corresponds (defined names d d') x y ≡ true
    → (if writes d x then v else s.names x) ≡ (if writes d' y then v' else t.names y)
names_alike lengths names s t item other (Some a) (Some b) e c v v' same x y h =
    choose (nat_eq a x) (nat_eq b y) (corresponds names x y) v v' (s.names x) (t.names y) h same (c.same_names x y)
names_alike lengths names s t item other None None e c v v' same x y h = c.same_names x y h
names_alike lengths names s t item other (Some a) None e c v v' same x y h = elim e [ inl k ↦ absurd (cc) | inr k ↦ absurd (cc) ]
names_alike lengths names s t item other None (Some b) e c v v' same x y h = elim e [ inl k ↦ absurd (cc) | inr k ↦ absurd (cc) ]

-- the states after items that are alike
pub states_alike : {names : List Pair} {item other : Item} (lengths : List ℕ) (s t : State) → Correspond names s t → ItemsAlike names item other
    → Correspond (defined names (dest_of item) (dest_of other)) (state_after lengths s (item ∷ [])) (state_after lengths t (other ∷ []))
states_alike {names} {item} {other} lengths s t c h =
    let e = items_alike lengths s t c h in
    record {
      same_names = names_alike lengths names s t item other (dest_of item) (dest_of other) (dests_of h) c (value_of lengths s item) (value_of lengths t other) e.value;
      same_cells = ap (λ (f : ℕ → ℕ → ℤ). cells_after f (stores_of lengths s (item ∷ []))) c.same_cells ∙ ap (λ (l : List Stored). cells_after t.cells l) e.stores;
      same_input = ap (λ (n : ℕ). drop n s.input) e.reads ∙ ap (λ (l : List ℤ). drop (reads_of (other ∷ [])) l) c.same_input;
    }

-- ---- runs

-- what goes on after items that are alike shows the same
leads_alike : (table : Table) (n : ℕ) (names : List Pair) (fault fault' : Option MachineFault) (s t : State) (item other : Item) (rest rest' : Tree) → fault ≡ fault'
    → prints_of s (item ∷ []) ≡ prints_of t (other ∷ [])
    → run_from (window_step table) n (enter table rest (state_after table.arrays s (item ∷ []))) ≡ run_from (window_step table) n (enter table rest' (state_after table.arrays t (other ∷ [])))
    → seen_of (lead_on (commit_of table.arrays s (item ∷ []) rest fault) (enter table)) (run_from (window_step table) n)
    ≡ seen_of (lead_on (commit_of table.arrays t (other ∷ []) rest' fault') (enter table)) (run_from (window_step table) n)
leads_alike table n names (Some f) (Some f') s t item other rest rest' same prints next = cc
leads_alike table n names None None s t item other rest rest' same prints next =
    ap (λ (l : List ℤ). after_printing l (run_from (window_step table) n (enter table rest (state_after table.arrays s (item ∷ []))))) prints
    ∙ ap (λ (x : Seen). after_printing (prints_of t (other ∷ [])) x) next
leads_alike table n names (Some f) None s t item other rest rest' same prints next = absurd (cc)
leads_alike table n names None (Some f) s t item other rest rest' same prints next = absurd (cc)

same_sides : (b b' : Bool) (f g f' g' : Seen) → b ≡ b' → f ≡ f' → g ≡ g' → (if b then f else g) ≡ (if b' then f' else g')
same_sides true true f g f' g' e p q = p
same_sides false false f g f' g' e p q = q
same_sides true false f g f' g' e p q = absurd (cc)
same_sides false true f g f' g' e p q = absurd (cc)

enter_side : (table : Table) (b : Bool) (n : ℕ) (yes_side no_side : Tree) (s : State)
    → run_from (window_step table) n (enter table (if b then yes_side else no_side) s)
    ≡ (if b then run_from (window_step table) n (enter table yes_side s) else run_from (window_step table) n (enter table no_side s))
enter_side table true n yes_side no_side s = refl
enter_side table false n yes_side no_side s = refl

-- trees that are alike have the same run
pub trees_alike : {maps : Maps} {forms forms' : ℕ → Form} {names : List Pair} {one other : Tree} (table : Table) (s t : State) (n : ℕ) → Correspond names s t
    → TreesAlike maps forms forms' names one other
    → tree_run table one s n ≡ tree_run table other t n
trees_alike table s t n c (both_exit {names} {region} {homes} {homes'} tags h) =
    ap (λ (u : State). run_from (window_step table) n (Beyond (place_at table (Next region) u))) (home_states_alike names s t homes homes' c h)
trees_alike table s t zero c (both_then tags items dests rest) = refl
trees_alike table s t (suc n) c (both_then {names} {item} {item'} {rest} {rest'} tags items dests below) =
    let e = items_alike table.arrays s t c items in
    leads_alike table n names (fault_of table.arrays s (item ∷ [])) (fault_of table.arrays t (item' ∷ [])) s t item item' rest rest'
    (fault_alike table.arrays s t item item' c.same_input e) e.prints
    (trees_alike table (state_after table.arrays s (item ∷ [])) (state_after table.arrays t (item' ∷ [])) n (states_alike table.arrays s t c items) below)
trees_alike table s t zero c (both_either tags on on_yes on_no) = refl
trees_alike table s t (suc n) c (both_either {names} {on} {on'} {on_yes} {on_yes'} {on_no} {on_no'} tags test yes_side no_side) =
    ap (λ (x : Seen). after_printing [] x)
    (enter_side table (holds (operand_value s.names on)) n on_yes on_no s
    ∙ same_sides (holds (operand_value s.names on)) (holds (operand_value t.names on'))
    (tree_run table on_yes s n) (tree_run table on_no s n) (tree_run table on_yes' t n) (tree_run table on_no' t n)
    (ap (λ (z : ℤ). holds z) (operands_alike names s t on on' c test))
    (trees_alike table s t n c yes_side) (trees_alike table s t n c no_side)
    ∙ sym (enter_side table (holds (operand_value t.names on')) n on_yes' on_no' t))
trees_alike table s t zero c both_stop = refl
trees_alike table s t (suc n) c both_stop = refl
trees_alike table s t zero c both_trap = refl
trees_alike table s t (suc n) c both_trap = refl

-- windows that are equal up to a shift have the same run, where corresponding parameters have the same values
pub shifted_runs : (table : Table) (params : List Pair) (w v : Window) (s t : State) → ShiftedBy params w v
    → Correspond params s t → (n : ℕ) → window_run table w s n ≡ window_run table v t n
shifted_runs table params w v s t h c n = trees_alike table s t n c h.1.trees
