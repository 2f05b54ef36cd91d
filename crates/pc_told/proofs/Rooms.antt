-- What rows have room for.
use Rattle.std.proofs.Common.{◌≡◌, ℕ, zero, suc, ◌+◌, ◌*◌, ◌≤◌, List, [], ◌∷◌, ◌++◌, length, length-append, arith}
use Rattle.std.specs.Prelude.{Some, slice_get}
use Rattle.std.specs.List.{AllByRecursion, count_by}
use Rattle.std.proofs.Math.Nat.{suc-mul}
use Rattle.pc_word.specs.declared.item.Item.{Item}
use Rattle.pc_word.specs.declared.item.Limits.{Limits}
use Rattle.pc_word.specs.declared.item.Operand.{Operand}
use Rattle.pc_word.specs.Items.{is_memory}
use Rattle.pc_word.specs.Row.{Row, Then, Either, At_leaf, items_of, tests_of}
use Rattle.pc_word.proofs.Lists.{count_more, count_both, all_at}
use Rattle.pc_automaton.specs.Automaton.{AutomatonState}
use Rattle.pc_automaton.specs.RowFits.{RowFits}
use Rattle.pc_told.specs.Laws.{PathsHaveRoom, PathsTakeRows}
use Rattle.pc_told.specs.Resources.{HasRoom, IsLeastRoom, PathIn, to_leaf, past_item, to_yes, to_no, PathThrough, through_none, through_last, through_next}

-- ---- paths

record IsFew (row_items : List Item) (row_tests : List Operand) (items : List Item) (tests : List Operand) : Type 0 where
  few_items : length items ≤ length row_items
  few_tests : length tests ≤ length row_tests
  few_memory : count_by is_memory items ≤ count_by is_memory row_items

-- a path meets no more than the row has
path_few : {L : Type 0} {row : Row L} {items : List Item} {tests : List Operand} {leaf : L} → PathIn row items tests leaf
    → IsFew (items_of row) (tests_of row) items tests
path_few to_leaf = record { few_items = omega arith; few_tests = omega arith; few_memory = omega arith }
path_few (past_item {item} {rest} {items} below) =
    let h = path_few below in
    let few_items = h.few_items in
    let few_memory = h.few_memory in
    record {
      few_items = omega (arith, few_items);
      few_tests = h.few_tests;
      few_memory = omega (arith, few_memory, count_more is_memory item items, count_more is_memory item (items_of rest));
    }
path_few (to_yes {on_yes} {on_no} below) =
    let h = path_few below in
    let few_items = h.few_items in
    let few_tests = h.few_tests in
    let few_memory = h.few_memory in
    record {
      few_items = omega (arith, few_items, length-append (items_of on_yes) (items_of on_no));
      few_tests = omega (arith, few_tests, length-append (tests_of on_yes) (tests_of on_no));
      few_memory = omega (arith, few_memory, count_both is_memory (items_of on_yes) (items_of on_no));
    }
path_few (to_no {on_yes} {on_no} below) =
    let h = path_few below in
    let few_items = h.few_items in
    let few_tests = h.few_tests in
    let few_memory = h.few_memory in
    record {
      few_items = omega (arith, few_items, length-append (items_of on_yes) (items_of on_no));
      few_tests = omega (arith, few_tests, length-append (tests_of on_yes) (tests_of on_no));
      few_memory = omega (arith, few_memory, count_both is_memory (items_of on_yes) (items_of on_no));
    }

-- and so no more than one row has room for
record FitsOne (limits : Limits) (items : List Item) (tests : List Operand) : Type 0 where
  one_items : length items ≤ limits.ops
  one_tests : length tests ≤ limits.tests
  one_memory : count_by is_memory items ≤ limits.mem

fits_one : {L : Type 0} (limits : Limits) (row : Row L) (items : List Item) (tests : List Operand) (leaf : L) → RowFits limits row
    → PathIn row items tests leaf → FitsOne limits items tests
fits_one limits row items tests leaf fits path =
    let h = path_few path in
    let a = h.few_items in
    let b = h.few_tests in
    let c = h.few_memory in
    let d = fits.items in
    let e = fits.tests in
    let f = fits.memory in
    record { one_items = omega (arith, a, d); one_tests = omega (arith, b, e); one_memory = omega (arith, c, f) }

-- ---- paths through many rows

module _ (limits : Limits) (states : List AutomatonState) (fit : AllByRecursion (λ state. RowFits limits state.row) states) where
  fits_at : (from : ℕ) (state : AutomatonState) → slice_get states from ≡ Some state → RowFits limits state.row
  fits_at from state at = all_at (λ (state : AutomatonState). RowFits limits state.row) states from state fit at

  room_through : {from rows : ℕ} {items : List Item} {tests : List Operand} → PathThrough states from rows items tests
      → HasRoom limits (length items) (length tests) (count_by is_memory items) rows
  room_through through_none = record { items_fit = omega arith; tests_fit = omega arith; memory_fits = omega arith }
  room_through (through_last {from} {state} {items} {tests} {leaf} at path) =
      let h = fits_one limits state.row items tests leaf (fits_at from state at) path in
      let a = h.one_items in
      let b = h.one_tests in
      let c = h.one_memory in
      record { items_fit = omega (arith, a); tests_fit = omega (arith, b); memory_fits = omega (arith, c) }
  room_through (through_next {from} {next} {rows} {state} {arguments} {items} {later} {tests} {later_tests} at path further) =
      let h = fits_one limits state.row items tests _ (fits_at from state at) path in
      let k = room_through further in
      let a = h.one_items in
      let b = h.one_tests in
      let c = h.one_memory in
      let d = k.items_fit in
      let e = k.tests_fit in
      let f = k.memory_fits in
      record {
        items_fit = omega (arith, a, d, length-append items later, suc-mul rows limits.ops);
        tests_fit = omega (arith, b, e, length-append tests later_tests, suc-mul rows limits.tests);
        memory_fits = omega (arith, c, f, count_both is_memory items later, suc-mul rows limits.mem);
      }

pub paths_have_room : PathsHaveRoom
paths_have_room limits states fit from rows items tests path = room_through limits states fit path

pub paths_take_rows : PathsTakeRows
paths_take_rows limits states fit from rows items tests path least is = is.least rows (room_through limits states fit path)

pub ruleset paths = (paths_have_room, paths_take_rows)
