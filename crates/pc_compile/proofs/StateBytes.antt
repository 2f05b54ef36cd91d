-- How many bytes states have at most.
use Rattle.std.proofs.Common.{◌≡◌, ℕ, zero, suc, ◌+◌, ◌*◌, ◌<◌, ◌≤◌, true, List, [], ◌∷◌, length, drop, Option, Some, None, refl, sym, ◌∙◌, ap, arith}
use Rattle.std.specs.Prelude.{nat_eq, slice_get, slice_index}
use Rattle.std.specs.List.{AllByRecursion, list_any}
use Rattle.std.specs.List.Sorted.{IsStrictlyIncreasing}
use Rattle.std.proofs.lemmas.List.{length-append}
use Rattle.std.proofs.lemmas.Option.{slice_get_within}
use Rattle.pc_word.specs.declared.item.Item.{Item}
use Rattle.pc_word.specs.declared.item.Item.TheVariants.{Bin, Copy, Load, Store, Print, Read, More}
use Rattle.pc_word.specs.declared.item.Operand.{Operand}
use Rattle.pc_word.specs.declared.item.Operand.TheVariants.{Name, Lit}
use Rattle.pc_word.specs.declared.item.Limits.{Limits}
use Rattle.pc_word.specs.Ranges.{AreLimits}
use Rattle.pc_word.specs.MachineLimits.{most_object, most_rows}
use Rattle.pc_word.specs.Row.{Row, Then, Either, At_leaf, items_of, tests_of, leaves_of}
use Rattle.pc_word.proofs.Lists.{all_front, all_back}
use Rattle.pc_table.specs.Table.{Table, TableRegion, live_of, region_live}
use Rattle.pc_table.specs.TableKeeps.{TableKeeps}
use Rattle.pc_window.specs.declared.home.Home.{Home}
use Rattle.pc_automaton.specs.declared.automaton.AutomatonLeaf.{AutomatonLeaf}
use Rattle.pc_automaton.specs.declared.automaton.AutomatonLeaf.TheVariants.{To, Out, Stop, Trap}
use Rattle.pc_automaton.specs.declared.automaton.AutomatonState.{AutomatonState as StoredState}
use Rattle.pc_automaton.specs.Automaton.{states_in, AutomatonState, Takes, LeafLeads, IsStateAmong, IsAutomaton}
use Rattle.pc_automaton.specs.There.{LeafIsThere, StateIsThere}
use Rattle.pc_automaton.specs.RowFits.{RowFits}
use Rattle.pc_assign.specs.Pressure.{most_scratch, LowBefore}
use Rattle.pc_emit.specs.Bytes.{leaf_bytes, row_bytes, states_bytes}
use Rattle.pc_compile.proofs.Places.{listed}
use Rattle.pc_word.specs.StoredRow.{row_in}
use Rattle.pc_word.proofs.Places.{map_length, drop_at, index_stands}
use Rattle.pc_object.specs.Sizes.{operand_bytes, item_bytes}

-- ---- items and tests

operand_most : (operand : Operand) → operand_bytes operand ≤ 5
operand_most (Name name) = omega arith
operand_most (Lit value) = omega arith

item_most : (item : Item) → item_bytes item ≤ 13
item_most (Bin op dest left right) = let l = operand_most left in let r = operand_most right in omega (arith, l, r)
item_most (Copy dest from) = let f = operand_most from in omega (arith, f)
item_most (Load dest array index) = let i = operand_most index in omega (arith, i)
item_most (Store array index value) = let i = operand_most index in let v = operand_most value in omega (arith, i, v)
item_most (Print value) = let v = operand_most value in omega (arith, v)
item_most (Read dest) = omega arith
item_most (More dest) = omega arith

-- ---- rows

-- a leaf with at most 255 arguments or homes
abbrev pub leaf_limit : ℕ
leaf_limit = 6125

-- a row has a leaf more than tests
row_most : (row : Row AutomatonLeaf) → AllByRecursion (λ leaf. leaf_bytes leaf ≤ leaf_limit) (leaves_of row)
    → row_bytes row ≤ 13 * length (items_of row) + 6131 * length (tests_of row) + leaf_limit
row_most (Then item rest) all =
    let here = item_most item in
    let below = row_most rest all in
    omega (arith, here, below)
row_most (Either on on_yes on_no) all =
    let here = operand_most on in
    let left = row_most on_yes (all_front (λ leaf. leaf_bytes leaf ≤ leaf_limit) (leaves_of on_yes) (leaves_of on_no) all) in
    let right = row_most on_no (all_back (λ leaf. leaf_bytes leaf ≤ leaf_limit) (leaves_of on_yes) (leaves_of on_no) all) in
    let items = length-append (items_of on_yes) (items_of on_no) in
    let tests = length-append (tests_of on_yes) (tests_of on_no) in
    omega (arith, here, left, right, items, tests)
row_most (At_leaf leaf) all = let here = all.0 in omega (arith, here)

-- ---- leaves

-- a list that rises is no longer than its last number
rises_past : (xs : List ℕ) → IsStrictlyIncreasing xs → (at : ℕ) → at < length xs → at ≤ slice_index xs at
rises_past xs rises zero lt = omega arith
rises_past xs rises (suc at) lt =
    let before = rises_past xs rises at (omega arith) in
    let one : suc at ≡ at + 1 = omega arith in
    let up = rises at (omega arith) in
    let here : slice_index xs (suc at) ≡ slice_index xs (at + 1) = ap (slice_index xs) one in
    omega (arith, before, up, here)

rising_few : (xs : List ℕ) (most : ℕ) → IsStrictlyIncreasing xs → ((x : ℕ) → list_any (nat_eq x) xs ≡ true → x < most) → length xs ≤ most
rising_few xs most rises small = by (length xs) refl
  where
    by : (count : ℕ) → length xs ≡ count → length xs ≤ most
    by zero e = omega arith
    by (suc at) e =
        let lt : at < length xs = omega arith in
        let past = rises_past xs rises at lt in
        let below = small (slice_index xs at) (listed xs at (slice_index xs at) (index_stands xs at lt)) in
        omega (arith, past, below)

pub live_few : (table : Table) → TableKeeps table → (region : ℕ) → length (region_live table region) ≤ 96
live_few table keeps region = by (slice_get table.regions region) refl (λ x h. keeps.small region x h)
  where
    by : (found : Option TableRegion) → slice_get table.regions region ≡ found
        → ((x : ℕ) → list_any (nat_eq x) (live_of found) ≡ true → x < 96) → length (live_of found) ≤ 96
    by None e small = omega arith
    by (Some here) e small = rising_few here.live 96 (keeps.each region here e).rising small

pub takes_few : (scratch : ℕ) (states : List AutomatonState) → LowBefore scratch states (length states) → (number count : ℕ) → Takes (slice_get states number) count → count ≤ scratch
takes_few scratch states low number count takes = by (slice_get states number) refl takes
  where
    by : (found : Option AutomatonState) → slice_get states number ≡ found → Takes found count → count ≤ scratch
    by None e takes = absurd takes
    by (Some state) e takes =
        let lt = slice_get_within states number state e in
        let few = low number state lt e in
        omega (arith, few)

leaf_most : (table : Table) → TableKeeps table → (states : List AutomatonState) → LowBefore most_scratch states (length states) → (leaf : AutomatonLeaf)
    → LeafLeads states leaf → LeafIsThere table leaf → leaf_bytes leaf ≤ leaf_limit
leaf_most table keeps states low (To number arguments) leads there =
    let few = takes_few most_scratch states low number (length arguments) leads in omega (arith, few)
leaf_most table keeps states low (Out region homes) leads there =
    let as_many = sym (map_length (λ (home : Home). home.variable) homes) ∙ ap length there.live in
    let few = live_few table keeps region in
    omega (arith, as_many, few)
leaf_most table keeps states low Stop leads there = omega arith
leaf_most table keeps states low (Trap kind line) leads there = omega arith

-- ---- states

pub all_both_hold : {X : Type 0} (P Q R : X → Type 0) (xs : List X) → ((x : X) → P x → Q x → R x) → AllByRecursion P xs → AllByRecursion Q xs → AllByRecursion R xs
all_both_hold P Q R [] f h k = tt
all_both_hold P Q R (x ∷ xs) f h k = (f x h.0 k.0, all_both_hold P Q R xs f h.1 k.1)

abbrev pub row_limit : ℕ
row_limit = 49458

state_most : (table : Table) → TableKeeps table → (limits : Limits) → AreLimits limits → (states : List AutomatonState) → LowBefore most_scratch states (length states)
    → (state : AutomatonState) → IsStateAmong states state → StateIsThere table state → RowFits limits state.row → row_bytes state.row ≤ row_limit
state_most table keeps limits ranges states low state among there fits =
    let leaves =
    all_both_hold (LeafLeads states) (LeafIsThere table) (λ leaf. leaf_bytes leaf ≤ leaf_limit) (leaves_of state.row)
    (leaf_most table keeps states low) among.lead there.leaves in
    let most = row_most state.row leaves in
    let items = fits.items in
    let tests = fits.tests in
    let ops = ranges.ops.1 in
    let asked = ranges.tests.1 in
    omega (arith, most, items, tests, ops, asked)

bytes_most : (states : List AutomatonState) → AllByRecursion (λ state. row_bytes state.row ≤ row_limit) states → states_bytes states ≤ row_limit * length states
bytes_most [] all = omega arith
bytes_most (state ∷ states) all = let here = all.0 in let rest = bytes_most states all.1 in omega (arith, here, rest)

-- the rows of at most 512 states are shorter than twice what an object may be
pub states_short : (table : Table) → TableKeeps table → (limits : Limits) → AreLimits limits → (states : List AutomatonState) → IsAutomaton states
    → LowBefore most_scratch states (length states) → AllByRecursion (StateIsThere table) states → AllByRecursion (λ state. RowFits limits state.row) states
    → length states ≤ most_rows → states_bytes states ≤ 2 * most_object
states_short table keeps limits ranges states automaton low there fits few =
    let both =
    all_both_hold (IsStateAmong states) (StateIsThere table) (λ state. IsStateAmong states state × StateIsThere table state) states
    (λ state h k. (h, k)) automaton.each there in
    let rows =
    all_both_hold (λ state. IsStateAmong states state × StateIsThere table state) (λ state. RowFits limits state.row)
    (λ state. row_bytes state.row ≤ row_limit) states
    (λ state h k. state_most table keeps limits ranges states low state h.0 h.1 k) both fits in
    let most = bytes_most states rows in
    omega (arith, most, few)

-- ---- states in memory

-- the bytes of the states from a place on
pub states_from : (states : List StoredState) (number : ℕ) (state : StoredState) → slice_get states number ≡ Some state
    → states_bytes (states_in (drop number states)) ≡ row_bytes (row_in (λ leaf. leaf) state.row) + states_bytes (states_in (drop (number + 1) states))
states_from states number state here =
    let one : suc number ≡ number + 1 = omega arith in
    ap (λ (rest : List StoredState). states_bytes (states_in rest)) (drop_at states number state here)
    ∙ ap (λ (n : ℕ). row_bytes (row_in (λ leaf. leaf) state.row) + states_bytes (states_in (drop n states))) one
