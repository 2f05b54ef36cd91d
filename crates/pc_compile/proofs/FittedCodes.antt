-- Codes with as many registers as their rows need.
use Rattle.std.proofs.Common.{◌≡◌, inl, inr, ℕ, ◌<◌, Bool, true, false, ◌&&◌, List, [], ◌∷◌, length, refl, sym, ap, subst, arith}
use Rattle.std.specs.Prelude.{if◌then◌else◌, nat_lt}
use Rattle.std.specs.List.{AllByRecursion, list_all}
use Rattle.std.proofs.lemmas.Bool.Decides.{nat_tests}
use Rattle.pc_word.specs.declared.item.Item.{Item}
use Rattle.pc_word.specs.declared.item.Item.TheVariants.{Bin, Copy, Load, Store, Print, Read, More}
use Rattle.pc_word.specs.declared.item.Limits.{Limits}
use Rattle.pc_word.specs.declared.item.Operand.{Operand}
use Rattle.pc_word.specs.declared.item.Operand.TheVariants.{Name, Lit}
use Rattle.pc_word.specs.Row.{Then, Either, At_leaf, items_of, tests_of}
use Rattle.pc_word.proofs.Lists.{all_front, all_back, all_both}
use Rattle.pc_word.proofs.Truth.{and_true, and_made, less_of}
use Rattle.pc_machine.specs.MachineCode.{CodeRow, RowCode}
use Rattle.pc_machine.specs.Registers.{few_registers, most_registers, IsRegisterCount}
use Rattle.pc_machine.specs.WellFormed.{IsOperand, IsItem, IsRow, WellFormed}
use Rattle.pc_tighten.specs.Compact.{Compact}
use Rattle.pc_compile.specs.Registers.{operand_below, item_below, row_below, registers_for, fitted}

-- ---- registers below a number

less : (a b : ℕ) → a < b → nat_lt a b ≡ true
less a b h = grind (arith, nat_tests)

-- an operand or item of so many registers names no others
operand_is_below : (count : ℕ) (operand : Operand) → IsOperand count operand → operand_below count operand ≡ true
operand_is_below count (Name register) is = less register count is
operand_is_below count (Lit value) is = refl

item_is_below : (count arrays : ℕ) (item : Item) → IsItem count arrays item → item_below count item ≡ true
item_is_below count arrays (Bin op dest left right) is =
    and_made (nat_lt dest count) (operand_below count left && operand_below count right) (less dest count is.0)
    (and_made (operand_below count left) (operand_below count right) (operand_is_below count left is.1) (operand_is_below count right is.2))
item_is_below count arrays (Copy dest from) is = and_made (nat_lt dest count) (operand_below count from) (less dest count is.0) (operand_is_below count from is.1)
item_is_below count arrays (Load dest array index) is = and_made (nat_lt dest count) (operand_below count index) (less dest count is.0) (operand_is_below count index is.2)
item_is_below count arrays (Store array index value) is =
    and_made (operand_below count index) (operand_below count value) (operand_is_below count index is.1) (operand_is_below count value is.2)
item_is_below count arrays (Print value) is = operand_is_below count value is
item_is_below count arrays (Read dest) is = less dest count is
item_is_below count arrays (More dest) is = less dest count is

-- and one that names no others is one of so many
is_operand : (count most : ℕ) (operand : Operand) → IsOperand most operand → operand_below count operand ≡ true → IsOperand count operand
is_operand count most (Name register) is e = less_of register count e
is_operand count most (Lit value) is e = tt

is_item : (count most arrays : ℕ) (item : Item) → IsItem most arrays item → item_below count item ≡ true → IsItem count arrays item
is_item count most arrays (Bin op dest left right) is e =
    let parts = and_true (nat_lt dest count) (operand_below count left && operand_below count right) e in
    let sides = and_true (operand_below count left) (operand_below count right) parts.1 in
    (less_of dest count parts.0, is_operand count most left is.1 sides.0, is_operand count most right is.2 sides.1)
is_item count most arrays (Copy dest from) is e =
    let parts = and_true (nat_lt dest count) (operand_below count from) e in
    (less_of dest count parts.0, is_operand count most from is.1 parts.1)
is_item count most arrays (Load dest array index) is e =
    let parts = and_true (nat_lt dest count) (operand_below count index) e in
    (less_of dest count parts.0, is.1, is_operand count most index is.2 parts.1)
is_item count most arrays (Store array index value) is e =
    let parts = and_true (operand_below count index) (operand_below count value) e in
    (is.0, is_operand count most index is.1 parts.0, is_operand count most value is.2 parts.1)
is_item count most arrays (Print value) is e = is_operand count most value is e
is_item count most arrays (Read dest) is e = less_of dest count e
is_item count most arrays (More dest) is e = less_of dest count e

-- ---- rows that name no others

items_fit : (count most arrays : ℕ) (row : CodeRow) → row_below count row ≡ true → AllByRecursion (IsItem most arrays) (items_of row)
    → AllByRecursion (IsItem count arrays) (items_of row)
items_fit count most arrays (Then item rest) e all =
    let parts = and_true (item_below count item) (row_below count rest) e in
    (is_item count most arrays item all.0 parts.0, items_fit count most arrays rest parts.1 all.1)
items_fit count most arrays (Either on on_yes on_no) e all =
    let parts = and_true (operand_below count on) (row_below count on_yes && row_below count on_no) e in
    let sides = and_true (row_below count on_yes) (row_below count on_no) parts.1 in
    all_both (IsItem count arrays) (items_of on_yes) (items_of on_no)
    (items_fit count most arrays on_yes sides.0 (all_front (IsItem most arrays) (items_of on_yes) (items_of on_no) all))
    (items_fit count most arrays on_no sides.1 (all_back (IsItem most arrays) (items_of on_yes) (items_of on_no) all))
items_fit count most arrays (At_leaf leaf) e all = tt

tests_fit : (count most : ℕ) (row : CodeRow) → row_below count row ≡ true → AllByRecursion (IsOperand most) (tests_of row)
    → AllByRecursion (IsOperand count) (tests_of row)
tests_fit count most (Then item rest) e all = tests_fit count most rest (and_true (item_below count item) (row_below count rest) e).1 all
tests_fit count most (Either on on_yes on_no) e all =
    let parts = and_true (operand_below count on) (row_below count on_yes && row_below count on_no) e in
    let sides = and_true (row_below count on_yes) (row_below count on_no) parts.1 in (
      is_operand count most on all.0 parts.0,
      all_both (IsOperand count) (tests_of on_yes) (tests_of on_no)
          (tests_fit count most on_yes sides.0 (all_front (IsOperand most) (tests_of on_yes) (tests_of on_no) all.1))
          (tests_fit count most on_no sides.1 (all_back (IsOperand most) (tests_of on_yes) (tests_of on_no) all.1)),
    )
tests_fit count most (At_leaf leaf) e all = tt

module _ (limits : Limits) (count most arrays rows : ℕ) where
  row_fits : (row : CodeRow) → row_below count row ≡ true → IsRow limits most arrays rows row → IsRow limits count arrays rows row
  row_fits row e is = record {
    ops = is.ops;
    tests = is.tests;
    mem = is.mem;
    items = items_fit count most arrays row e is.items;
    operands = tests_fit count most row e is.operands;
    leaves = is.leaves;
    paths = is.paths;
  }

  rows_fit : (list : List CodeRow) → list_all (row_below count) list ≡ true → AllByRecursion (IsRow limits most arrays rows) list
      → AllByRecursion (IsRow limits count arrays rows) list
  rows_fit [] e all = tt
  rows_fit (row ∷ list) e all =
      let parts = and_true (row_below count row) (list_all (row_below count) list) e in
      (row_fits row parts.0 all.0, rows_fit list parts.1 all.1)

-- ---- rows of so many registers name no others

row_is_below : (count arrays : ℕ) (row : CodeRow) → AllByRecursion (IsItem count arrays) (items_of row) → AllByRecursion (IsOperand count) (tests_of row)
    → row_below count row ≡ true
row_is_below count arrays (Then item rest) items tests =
    and_made (item_below count item) (row_below count rest) (item_is_below count arrays item items.0) (row_is_below count arrays rest items.1 tests)
row_is_below count arrays (Either on on_yes on_no) items tests =
    and_made (operand_below count on) (row_below count on_yes && row_below count on_no) (operand_is_below count on tests.0)
    (and_made (row_below count on_yes) (row_below count on_no)
    (row_is_below count arrays on_yes (all_front (IsItem count arrays) (items_of on_yes) (items_of on_no) items)
    (all_front (IsOperand count) (tests_of on_yes) (tests_of on_no) tests.1))
    (row_is_below count arrays on_no (all_back (IsItem count arrays) (items_of on_yes) (items_of on_no) items)
    (all_back (IsOperand count) (tests_of on_yes) (tests_of on_no) tests.1)))
row_is_below count arrays (At_leaf leaf) items tests = refl

rows_are_below : (limits : Limits) (count arrays many : ℕ) (rows : List CodeRow) → AllByRecursion (IsRow limits count arrays many) rows
    → list_all (row_below count) rows ≡ true
rows_are_below limits count arrays many [] all = refl
rows_are_below limits count arrays many (row ∷ rows) all =
    and_made (row_below count row) (list_all (row_below count) rows) (row_is_below count arrays row all.0.items all.0.operands)
    (rows_are_below limits count arrays many rows all.1)

-- rows of the fewer registers need these alone
pub few_for_fewer : (limits : Limits) (arrays many : ℕ) (rows : List CodeRow) → AllByRecursion (IsRow limits few_registers arrays many) rows
    → registers_for rows ≡ few_registers
few_for_fewer limits arrays many rows fit =
    ap (λ (b : Bool). if b then few_registers else most_registers) (rows_are_below limits few_registers arrays many rows fit)

-- a well formed code of the fewer registers needs these alone
pub few_stay_few : (code : RowCode) → WellFormed code → code.registers ≡ few_registers → registers_for code.rows ≡ few_registers
few_stay_few code form few =
    few_for_fewer code.limits (length code.arrays) (length code.rows) code.rows
    (subst (λ (n : ℕ). AllByRecursion (IsRow code.limits n (length code.arrays) (length code.rows)) code.rows) few form.rows)

-- ---- a code with as many registers as its rows need

-- it is well formed
pub fitted_form : (code : RowCode) → WellFormed code → WellFormed (fitted code)
fitted_form code form = by (list_all (row_below few_registers) code.rows) refl form.registers
  where
    with_registers : (count : ℕ) → IsRegisterCount count → AllByRecursion (IsRow code.limits count (length code.arrays) (length code.rows)) code.rows
        → WellFormed (record code { registers = count })
    with_registers count is all =
        record { limits = form.limits; registers = is; arrays = form.arrays; initial = form.initial; entry = form.entry; rows = all }

    by : (b : Bool) → list_all (row_below few_registers) code.rows ≡ b → IsRegisterCount code.registers → WellFormed (fitted code)
    by true e is =
        subst (λ (count : ℕ). WellFormed (record code { registers = count })) (sym (ap (λ (b : Bool). if b then few_registers else most_registers) e))
        (with_registers few_registers (inl refl) (rows_fit code.limits few_registers code.registers (length code.arrays) (length code.rows) code.rows e form.rows))
    by false e (inl few) =
        subst (λ (count : ℕ). WellFormed (record code { registers = count })) (sym (few_stay_few code form few))
        (with_registers few_registers (inl refl)
        (subst (λ (n : ℕ). AllByRecursion (IsRow code.limits n (length code.arrays) (length code.rows)) code.rows) few form.rows))
    by false e (inr most) =
        subst (λ (count : ℕ). WellFormed (record code { registers = count })) (sym (ap (λ (b : Bool). if b then few_registers else most_registers) e))
        (with_registers most_registers (inr refl)
        (subst (λ (n : ℕ). AllByRecursion (IsRow code.limits n (length code.arrays) (length code.rows)) code.rows) most form.rows))

-- it is as compact
pub fitted_compact : (code : RowCode) → Compact code → Compact (fitted code)
fitted_compact code compact m t above under reachable pair = compact m t above under reachable (record {
  at_m = pair.at_m;
  at_t = pair.at_t;
  only = record { once = pair.only.once; alone = pair.only.alone };
  not_entry = pair.not_entry;
  not_itself = pair.not_itself;
})
