-- A code has no flaw exactly where it is well formed.
use Rattle.std.proofs.Common.{◌≡◌, inl, inr, ℕ, suc, ◌+◌, ◌<◌, ◌≤◌, zero-le, Bool, true, false, cond, not, ◌&&◌}
use Rattle.std.proofs.Common.{◌||◌, List, [], ◌∷◌, ◌++◌, length, Option, Some, None, refl, sym, ◌∙◌, ap, arith, length-append}
use Rattle.std.specs.Prelude.{ℤ, slice_get, nat_eq, nat_lt, nat_le, sum, ◌↔◌}
use Rattle.std.specs.List.{AllByRecursion, IsDistinct, count_by, filter_map, cons_option, flat_map}
use Rattle.std.proofs.lemmas.Bool.Decides.{nat_tests}
use Rattle.std.proofs.lemmas.List.Sums.{sum_by-cons}
use Rattle.pc_word.specs.declared.item.Item.{Item}
use Rattle.pc_word.specs.declared.item.Item.TheVariants.{Bin, Copy, Load, Store, Print, Read, More}
use Rattle.pc_word.specs.declared.item.Operand.{Operand}
use Rattle.pc_word.specs.declared.item.Operand.TheVariants.{Name, Lit}
use Rattle.pc_word.specs.declared.item.Limits.{Limits}
use Rattle.pc_machine.specs.declared.code.Flaw.{Flaw}
use Rattle.pc_machine.specs.declared.code.Flaw.TheVariants.{HeaderLimit, ArrayCount, Registers, ArrayLength, Elements, DataCount, DataTail, RowCount, Register, Array, Target}
use Rattle.pc_machine.specs.declared.code.Flaw.TheVariants.{DestTwice, EffectTwice, TooManyOps, TooManyTests, TooManyMem}
use Rattle.pc_machine.specs.declared.check.Bounds.{Bounds}
use Rattle.pc_machine.specs.declared.check.Counts.{Counts}
use Rattle.pc_machine.specs.declared.tree.Leaf.{Leaf}
use Rattle.pc_machine.specs.declared.tree.Leaf.TheVariants.{Goto, Stop, Trap}
use Rattle.pc_machine.specs.MachineCode.{CodeRow, RowCode}
use Rattle.pc_word.specs.Row.{Then, Either, At_leaf, items_of, tests_of, leaves_of, paths_of}
use Rattle.pc_word.specs.Items.{dest_of, is_memory, is_effect}
use Rattle.pc_word.specs.Commit.{writes}
use Rattle.pc_machine.specs.WellFormed.{IsOperand, IsItem, IsLeaf, IsPath, IsRow, WellFormed}
use Rattle.pc_word.specs.Data.{IsData, AreData}
use Rattle.pc_word.specs.Ranges.{IsBetween, AreLimits}
use Rattle.pc_word.proofs.Lists.{all_front, all_back, all_both, all_of_map, map_of_all, all_imply, count_more, count_both}
use Rattle.pc_machine.specs.Flaws.{flaw_where, is_between, limit_flaws, limits_flaws, array_count_flaws, register_count_flaws, length_flaws, lengths_flaws}
use Rattle.pc_machine.specs.Flaws.{data_count_flaws, data_flaws, each_data_flaws, initial_flaws}
use Rattle.pc_machine.specs.Flaws.{row_count_flaws, Above, nothing_above, above_with, no_counts, one_where, counts_with_item, counts_with_test}
use Rattle.pc_machine.specs.Flaws.{counts_after, item_tag_flaws, test_tag_flaws, register_flaws, dest_flaws, operand_flaws, array_flaws, field_flaws}
use Rattle.pc_machine.specs.Flaws.{item_flaws, test_flaws, leaf_flaws, row_flaws, bounds_of, header_flaws, flaws_of}
use Rattle.pc_word.proofs.Truth.{below_of, most_of, of_below, of_most, or_false, or_made_false}
use Rattle.pc_word.specs.MachineLimits.{most_arrays, most_elements, most_length, most_mem, most_ops, most_tests}
use Rattle.pc_machine.specs.Registers.{few_registers, most_registers, IsRegisterCount}
use Rattle.pc_word.specs.Data.{ends_in_zero}

-- ---- lists of flaws

-- where there is no flaw in two parts, there is none in the first
none_front : (xs ys : List Flaw) → xs ++ ys ≡ [] → xs ≡ []
none_front [] ys e = refl
none_front (x ∷ xs) ys e = (cc)

-- nor in the second
none_back : (xs ys : List Flaw) → xs ++ ys ≡ [] → ys ≡ []
none_back [] ys e = e
none_back (x ∷ xs) ys e = (cc)

none_both : (xs ys : List Flaw) → xs ≡ [] → ys ≡ [] → xs ++ ys ≡ []
none_both xs ys p q = ap (λ (l : List Flaw). l ++ ys) p ∙ q

-- a test that says of no flaw does not hold
where_none : (b : Bool) (flaw : Flaw) → flaw_where b flaw ≡ [] → b ≡ false
where_none true flaw e = (cc)
where_none false flaw e = refl

none_where : (b : Bool) (flaw : Flaw) → b ≡ false → flaw_where b flaw ≡ []
none_where true flaw e = (cc)
none_where false flaw e = refl

between_of : (low high n : ℕ) → not (is_between low high n) ≡ false → IsBetween low high n
between_of low high n e = (low_of (nat_le low n) (nat_le n high) refl refl e, high_of (nat_le low n) (nat_le n high) refl refl e)
  where
    low_of : (p q : Bool) → nat_le low n ≡ p → nat_le n high ≡ q → not (p && q) ≡ false → low ≤ n
    low_of true q a b e = grind (arith, nat_tests)
    low_of false q a b e = (cc)

    high_of : (p q : Bool) → nat_le low n ≡ p → nat_le n high ≡ q → not (p && q) ≡ false → n ≤ high
    high_of true true a b e = grind (arith, nat_tests)
    high_of true false a b e = (cc)
    high_of false q a b e = (cc)

of_between : (low high n : ℕ) → IsBetween low high n → not (is_between low high n) ≡ false
of_between low high n (p, q) =
    let a : nat_le low n ≡ true = grind (arith, nat_tests) in
    let b : nat_le n high ≡ true = grind (arith, nat_tests) in
    ap (λ (x : Bool). not (x && nat_le n high)) a ∙ ap not b

-- ---- the fields of an item

register_sound : (registers register : ℕ) → register_flaws registers register ≡ [] → register < registers
register_sound registers register e = below_of registers register (where_none (nat_le registers register) Register e)

register_complete : (registers register : ℕ) → register < registers → register_flaws registers register ≡ []
register_complete registers register h = none_where (nat_le registers register) Register (of_below registers register h)

operand_sound : (registers : ℕ) (operand : Operand) → operand_flaws registers operand ≡ [] → IsOperand registers operand
operand_sound registers (Name register) e = register_sound registers register e
operand_sound registers (Lit value) e = tt

operand_complete : (registers : ℕ) (operand : Operand) → IsOperand registers operand → operand_flaws registers operand ≡ []
operand_complete registers (Name register) h = register_complete registers register h
operand_complete registers (Lit value) h = refl

array_sound : (arrays array : ℕ) → array_flaws arrays array ≡ [] → array < arrays
array_sound arrays array e = below_of arrays array (where_none (nat_le arrays array) Array e)

array_complete : (arrays array : ℕ) → array < arrays → array_flaws arrays array ≡ []
array_complete arrays array h = none_where (nat_le arrays array) Array (of_below arrays array h)

-- a register that is not written above, if any
abbrev Fresh : (ℕ → Bool) → Option ℕ → Type 0
Fresh written (Some register) = written register ≡ false
Fresh written None = Unit {0}

dest_sound : (registers : ℕ) (above : Above) (dest : ℕ) → dest_flaws registers above dest ≡ [] → (dest < registers) × (above.written dest ≡ false)
dest_sound registers above dest e = (
  register_sound registers dest (none_front (register_flaws registers dest) (flaw_where (above.written dest) DestTwice) e),
  where_none (above.written dest) DestTwice (none_back (register_flaws registers dest) (flaw_where (above.written dest) DestTwice) e),
)

dest_complete : (registers : ℕ) (above : Above) (dest : ℕ) → dest < registers → above.written dest ≡ false → dest_flaws registers above dest ≡ []
dest_complete registers above dest h fresh =
    none_both (register_flaws registers dest) (flaw_where (above.written dest) DestTwice) (register_complete registers dest h) (none_where (above.written dest) DestTwice fresh)

-- two operands without a flaw
operands_sound : (registers : ℕ) (left right : Operand) → operand_flaws registers left ++ operand_flaws registers right ≡ [] → IsOperand registers left × IsOperand registers right
operands_sound registers left right e = (
  operand_sound registers left (none_front (operand_flaws registers left) (operand_flaws registers right) e),
  operand_sound registers right (none_back (operand_flaws registers left) (operand_flaws registers right) e),
)

operands_complete : (registers : ℕ) (left right : Operand) → IsOperand registers left → IsOperand registers right → operand_flaws registers left ++ operand_flaws registers right ≡ []
operands_complete registers left right p q =
    none_both (operand_flaws registers left) (operand_flaws registers right) (operand_complete registers left p) (operand_complete registers right q)

field_sound : (bounds : Bounds) (above : Above) (item : Item) → field_flaws bounds above item ≡ [] → IsItem bounds.registers bounds.arrays item × Fresh above.written (dest_of item)
field_sound bounds above (Bin op dest left right) e =
    let rest : List Flaw = operand_flaws bounds.registers left ++ operand_flaws bounds.registers right in
    let d = dest_sound bounds.registers above dest (none_front (dest_flaws bounds.registers above dest) rest e) in
    let o = operands_sound bounds.registers left right (none_back (dest_flaws bounds.registers above dest) rest e) in
    ((d.0, o.0, o.1), d.1)
field_sound bounds above (Copy dest from) e =
    let d = dest_sound bounds.registers above dest (none_front (dest_flaws bounds.registers above dest) (operand_flaws bounds.registers from) e) in
    ((d.0, operand_sound bounds.registers from (none_back (dest_flaws bounds.registers above dest) (operand_flaws bounds.registers from) e)), d.1)
field_sound bounds above (Load dest array index) e =
    let rest : List Flaw = array_flaws bounds.arrays array ++ operand_flaws bounds.registers index in
    let d = dest_sound bounds.registers above dest (none_front (dest_flaws bounds.registers above dest) rest e) in
    let o = none_back (dest_flaws bounds.registers above dest) rest e in
    let a = array_sound bounds.arrays array (none_front (array_flaws bounds.arrays array) (operand_flaws bounds.registers index) o) in
    ((d.0, a, operand_sound bounds.registers index (none_back (array_flaws bounds.arrays array) (operand_flaws bounds.registers index) o)), d.1)
field_sound bounds above (Store array index value) e =
    let rest : List Flaw = operand_flaws bounds.registers index ++ operand_flaws bounds.registers value in
    let o = operands_sound bounds.registers index value (none_back (array_flaws bounds.arrays array) rest e) in
    ((array_sound bounds.arrays array (none_front (array_flaws bounds.arrays array) rest e), o.0, o.1), tt)
field_sound bounds above (Print value) e = (operand_sound bounds.registers value e, tt)
field_sound bounds above (Read dest) e = dest_sound bounds.registers above dest e
field_sound bounds above (More dest) e = dest_sound bounds.registers above dest e

field_complete : (bounds : Bounds) (above : Above) (item : Item) → IsItem bounds.registers bounds.arrays item → Fresh above.written (dest_of item) → field_flaws bounds above item ≡ []
field_complete bounds above (Bin op dest left right) h fresh =
    none_both (dest_flaws bounds.registers above dest) (operand_flaws bounds.registers left ++ operand_flaws bounds.registers right)
    (dest_complete bounds.registers above dest h.0 fresh) (operands_complete bounds.registers left right h.1 h.2)
field_complete bounds above (Copy dest from) h fresh =
    none_both (dest_flaws bounds.registers above dest) (operand_flaws bounds.registers from)
    (dest_complete bounds.registers above dest h.0 fresh) (operand_complete bounds.registers from h.1)
field_complete bounds above (Load dest array index) h fresh =
    none_both (dest_flaws bounds.registers above dest) (array_flaws bounds.arrays array ++ operand_flaws bounds.registers index)
    (dest_complete bounds.registers above dest h.0 fresh)
    (none_both (array_flaws bounds.arrays array) (operand_flaws bounds.registers index) (array_complete bounds.arrays array h.1) (operand_complete bounds.registers index h.2))
field_complete bounds above (Store array index value) h fresh =
    none_both (array_flaws bounds.arrays array) (operand_flaws bounds.registers index ++ operand_flaws bounds.registers value)
    (array_complete bounds.arrays array h.0) (operands_complete bounds.registers index value h.1 h.2)
field_complete bounds above (Print value) h fresh = operand_complete bounds.registers value h
field_complete bounds above (Read dest) h fresh = dest_complete bounds.registers above dest h fresh
field_complete bounds above (More dest) h fresh = dest_complete bounds.registers above dest h fresh

-- ---- an item under a path

-- what an item keeps where it stands
record Fits (bounds : Bounds) (counts : Counts) (above : Above) (item : Item) : Type 0 where
  ops : counts.ops < bounds.limits.ops
  mem : one_where (is_memory item) counts.mem ≤ bounds.limits.mem
  effect : (is_effect item && above.effect) ≡ false
  parts : IsItem bounds.registers bounds.arrays item
  fresh : Fresh above.written (dest_of item)

-- one more load or store, if it is one
memory_sound : (memory : Bool) (mem most : ℕ) → mem ≤ most → (memory && nat_le most mem) ≡ false → one_where memory mem ≤ most
memory_sound true mem most few e = let h : mem < most = below_of most mem e in omega arith
memory_sound false mem most few e = few

memory_complete : (memory : Bool) (mem most : ℕ) → one_where memory mem ≤ most → (memory && nat_le most mem) ≡ false
memory_complete true mem most h = of_below most mem (omega arith)
memory_complete false mem most h = refl

item_sound : (bounds : Bounds) (counts : Counts) (above : Above) (item : Item) → counts.mem ≤ bounds.limits.mem → item_flaws bounds counts above item ≡ [] → Fits bounds counts above item
item_sound bounds counts above item few e =
    let full : Bool = nat_le bounds.limits.ops counts.ops in
    let memory : Bool = is_memory item && nat_le bounds.limits.mem counts.mem in
    let effect : Bool = is_effect item && above.effect in
    let tag = none_front (item_tag_flaws bounds.limits counts above (is_memory item) (is_effect item)) (field_flaws bounds above item) e in
    let behind = none_back (flaw_where (nat_le bounds.limits.ops counts.ops) TooManyOps) (flaw_where memory TooManyMem ++ flaw_where effect EffectTwice) tag in
    let f = field_sound bounds above item (none_back (item_tag_flaws bounds.limits counts above (is_memory item) (is_effect item)) (field_flaws bounds above item) e) in
    record {
      ops = below_of bounds.limits.ops counts.ops (where_none full TooManyOps (none_front (flaw_where full TooManyOps) (flaw_where memory TooManyMem ++ flaw_where effect EffectTwice) tag));
      mem = memory_sound (is_memory item) counts.mem bounds.limits.mem few (where_none memory TooManyMem (none_front (flaw_where memory TooManyMem) (flaw_where effect EffectTwice) behind));
      effect = where_none effect EffectTwice (none_back (flaw_where memory TooManyMem) (flaw_where effect EffectTwice) behind);
      parts = f.0;
      fresh = f.1;
    }

item_complete : (bounds : Bounds) (counts : Counts) (above : Above) (item : Item) → Fits bounds counts above item → item_flaws bounds counts above item ≡ []
item_complete bounds counts above item fits =
    let memory : Bool = is_memory item && nat_le bounds.limits.mem counts.mem in
    let effect : Bool = is_effect item && above.effect in
    none_both (item_tag_flaws bounds.limits counts above (is_memory item) (is_effect item)) (field_flaws bounds above item)
    (none_both (flaw_where (nat_le bounds.limits.ops counts.ops) TooManyOps) (flaw_where memory TooManyMem ++ flaw_where effect EffectTwice)
    (none_where (nat_le bounds.limits.ops counts.ops) TooManyOps (of_below bounds.limits.ops counts.ops fits.ops))
    (none_both (flaw_where memory TooManyMem) (flaw_where effect EffectTwice)
    (none_where memory TooManyMem (memory_complete (is_memory item) counts.mem bounds.limits.mem fits.mem))
    (none_where effect EffectTwice fits.effect)))
    (field_complete bounds above item fits.parts fits.fresh)

-- ---- a path under what stands above it

record IsBelow (above : Above) (path : List Item) : Type 0 where
  fresh : AllByRecursion (λ register. above.written register ≡ false) (filter_map dest_of path)
  writes_once : IsDistinct nat_eq (filter_map dest_of path)
  one_effect : one_where above.effect (count_by is_effect path) ≤ 1

-- a register that is written, if any, before registers that are not it and not written above
fresh_more : (written : ℕ → Bool) (dest : Option ℕ) (dests : List ℕ) → Fresh written dest
    → AllByRecursion (λ register. (writes dest register || written register) ≡ false) dests
    → AllByRecursion (λ register. written register ≡ false) (cons_option dest dests)
fresh_more written (Some x) dests h all = (h, all_imply (λ r. (nat_eq x r || written r) ≡ false) (λ r. written r ≡ false) dests (λ r e. (or_false (nat_eq x r) (written r) e).1) all)
fresh_more written None dests h all = all

once_more : (written : ℕ → Bool) (dest : Option ℕ) (dests : List ℕ)
    → AllByRecursion (λ register. (writes dest register || written register) ≡ false) dests
    → IsDistinct nat_eq dests → IsDistinct nat_eq (cons_option dest dests)
unfolding IsDistinct
once_more written (Some x) dests all once = (all_imply (λ r. (nat_eq x r || written r) ≡ false) (λ r. nat_eq x r ≡ false) dests (λ r e. (or_false (nat_eq x r) (written r) e).0) all, once)
once_more written None dests all once = once

fresh_first : (written : ℕ → Bool) (dest : Option ℕ) (dests : List ℕ) → AllByRecursion (λ register. written register ≡ false) (cons_option dest dests) → Fresh written dest
fresh_first written (Some x) dests all = all.0
fresh_first written None dests all = tt

all_or : (p q : ℕ → Bool) (xs : List ℕ) → AllByRecursion (λ x. p x ≡ false) xs → AllByRecursion (λ x. q x ≡ false) xs → AllByRecursion (λ x. (p x || q x) ≡ false) xs
all_or p q [] h k = tt
all_or p q (x ∷ xs) h k = (or_made_false (p x) (q x) h.0 k.0, all_or p q xs h.1 k.1)

all_true : (xs : List ℕ) → AllByRecursion (λ x. ◌≡◌ {A = Bool} false false) xs
all_true [] = tt
all_true (x ∷ xs) = (refl, all_true xs)

fresh_rest : (written : ℕ → Bool) (dest : Option ℕ) (dests : List ℕ) → AllByRecursion (λ register. written register ≡ false) (cons_option dest dests)
    → IsDistinct nat_eq (cons_option dest dests) → AllByRecursion (λ register. (writes dest register || written register) ≡ false) dests
unfolding IsDistinct
fresh_rest written (Some x) dests all once = all_or (λ r. nat_eq x r) written dests once.0 all.1
fresh_rest written None dests all once = all

once_rest : (dest : Option ℕ) (dests : List ℕ) → IsDistinct nat_eq (cons_option dest dests) → IsDistinct nat_eq dests
unfolding IsDistinct
once_rest (Some x) dests once = once.1
once_rest None dests once = once

effect_more : (effect above : Bool) (n m : ℕ) → m ≡ cond effect 1 0 + n → (effect && above) ≡ false → one_where (effect || above) n ≤ 1 → one_where above m ≤ 1
effect_more true true n m e apart h = absurd (cc)
effect_more true false n m e apart h = omega arith
effect_more false true n m e apart h = omega arith
effect_more false false n m e apart h = omega arith

effect_first : (effect above : Bool) (n m : ℕ) → m ≡ cond effect 1 0 + n → one_where above m ≤ 1 → (effect && above) ≡ false
effect_first true true n m e h = absurd (omega arith)
effect_first true false n m e h = refl
effect_first false above n m e h = refl

effect_rest : (effect above : Bool) (n m : ℕ) → m ≡ cond effect 1 0 + n → one_where above m ≤ 1 → one_where (effect || above) n ≤ 1
effect_rest true true n m e h = absurd (omega arith)
effect_rest true false n m e h = omega arith
effect_rest false true n m e h = omega arith
effect_rest false false n m e h = omega arith

below_more : (above : Above) (item : Item) (path : List Item) → Fresh above.written (dest_of item) → (is_effect item && above.effect) ≡ false
    → IsBelow (above_with item above) path → IsBelow above (item ∷ path)
below_more above item path fresh effect below = record {
  fresh = fresh_more above.written (dest_of item) (filter_map dest_of path) fresh below.fresh;
  writes_once = once_more above.written (dest_of item) (filter_map dest_of path) below.fresh below.writes_once;
  one_effect = effect_more (is_effect item) above.effect (count_by is_effect path) (count_by is_effect (item ∷ path)) (count_more is_effect item path) effect below.one_effect;
}

below_rest : (above : Above) (item : Item) (path : List Item) → IsBelow above (item ∷ path) → IsBelow (above_with item above) path
below_rest above item path below = record {
  fresh = fresh_rest above.written (dest_of item) (filter_map dest_of path) below.fresh below.writes_once;
  writes_once = once_rest (dest_of item) (filter_map dest_of path) below.writes_once;
  one_effect = effect_rest (is_effect item) above.effect (count_by is_effect path) (count_by is_effect (item ∷ path)) (count_more is_effect item path) below.one_effect;
}

-- ---- the counts after a row

counts-ops : (row : CodeRow) (counts : Counts) → (counts_after row counts).ops ≡ counts.ops + length (items_of row)
counts-ops (Then item rest) counts = counts-ops rest (counts_with_item (is_memory item) counts) ∙ omega arith
counts-ops (Either on on_yes on_no) counts =
    counts-ops on_no (counts_after on_yes (counts_with_test counts))
    ∙ ap (λ (n : ℕ). n + length (items_of on_no)) (counts-ops on_yes (counts_with_test counts))
    ∙ omega (arith, length-append (items_of on_yes) (items_of on_no))
counts-ops (At_leaf leaf) counts = omega arith

counts-tests : (row : CodeRow) (counts : Counts) → (counts_after row counts).tests ≡ counts.tests + length (tests_of row)
counts-tests (Then item rest) counts = counts-tests rest (counts_with_item (is_memory item) counts)
counts-tests (Either on on_yes on_no) counts =
    counts-tests on_no (counts_after on_yes (counts_with_test counts))
    ∙ ap (λ (n : ℕ). n + length (tests_of on_no)) (counts-tests on_yes (counts_with_test counts))
    ∙ omega (arith, length-append (tests_of on_yes) (tests_of on_no))
counts-tests (At_leaf leaf) counts = omega arith

one_more : (b : Bool) (m n k : ℕ) → k ≡ cond b 1 0 + n → one_where b m + n ≡ m + k
one_more true m n k e = omega arith
one_more false m n k e = omega arith

counts-mem : (row : CodeRow) (counts : Counts) → (counts_after row counts).mem ≡ counts.mem + count_by is_memory (items_of row)
counts-mem (Then item rest) counts =
    counts-mem rest (counts_with_item (is_memory item) counts)
    ∙ one_more (is_memory item) counts.mem (count_by is_memory (items_of rest)) (count_by is_memory (item ∷ items_of rest)) (count_more is_memory item (items_of rest))
counts-mem (Either on on_yes on_no) counts =
    let both = count_both is_memory (items_of on_yes) (items_of on_no) in
    counts-mem on_no (counts_after on_yes (counts_with_test counts))
    ∙ ap (λ (n : ℕ). n + count_by is_memory (items_of on_no)) (counts-mem on_yes (counts_with_test counts))
    ∙ omega (arith, both)
counts-mem (At_leaf leaf) counts = omega arith

-- ---- a row after these counts and under this path

record Keeps (bounds : Bounds) (counts : Counts) (above : Above) (row : CodeRow) : Type 0 where
  ops : counts.ops + length (items_of row) ≤ bounds.limits.ops
  tests : counts.tests + length (tests_of row) ≤ bounds.limits.tests
  mem : counts.mem + count_by is_memory (items_of row) ≤ bounds.limits.mem
  items : AllByRecursion (IsItem bounds.registers bounds.arrays) (items_of row)
  operands : AllByRecursion (IsOperand bounds.registers) (tests_of row)
  leaves : AllByRecursion (IsLeaf bounds.rows) (leaves_of row)
  paths : AllByRecursion (IsBelow above) (paths_of row)

-- counts that the limits allow
record Within (limits : Limits) (counts : Counts) : Type 0 where
  ops : counts.ops ≤ limits.ops
  tests : counts.tests ≤ limits.tests
  mem : counts.mem ≤ limits.mem

leaf_sound : (bounds : Bounds) (leaf : Leaf) → leaf_flaws bounds leaf ≡ [] → IsLeaf bounds.rows leaf
leaf_sound bounds (Goto row) e = below_of bounds.rows row (where_none (nat_le bounds.rows row) Target e)
leaf_sound bounds Stop e = tt
leaf_sound bounds (Trap kind line) e = tt

leaf_complete : (bounds : Bounds) (leaf : Leaf) → IsLeaf bounds.rows leaf → leaf_flaws bounds leaf ≡ []
leaf_complete bounds (Goto row) h = none_where (nat_le bounds.rows row) Target (of_below bounds.rows row h)
leaf_complete bounds Stop h = refl
leaf_complete bounds (Trap kind line) h = refl

-- the path that takes each yes
some_path : (row : CodeRow) (P : List Item → Type 0) → AllByRecursion P (paths_of row) → (path : List Item) × P path
some_path (Then item rest) P all =
    let found = some_path rest (λ path. P (item ∷ path)) (all_of_map P (λ path. item ∷ path) (paths_of rest) all) in
    (item ∷ found.0, found.1)
some_path (Either on on_yes on_no) P all = some_path on_yes P (all_front P (paths_of on_yes) (paths_of on_no) all)
some_path (At_leaf leaf) P all = ([], all.0)

end_below : (above : Above) → IsBelow above []
unfolding IsDistinct
end_below above = record { fresh = tt; writes_once = tt; one_effect = at_most_one above.effect }
  where
    at_most_one : (effect : Bool) → one_where effect 0 ≤ 1
    at_most_one true = omega arith
    at_most_one false = omega arith

then_keeps : (bounds : Bounds) (counts : Counts) (above : Above) (item : Item) (rest : CodeRow) → Fits bounds counts above item
    → Keeps bounds (counts_with_item (is_memory item) counts) (above_with item above) rest → Keeps bounds counts above (Then item rest)
then_keeps bounds counts above item rest fits keeps =
    let count = one_more (is_memory item) counts.mem (count_by is_memory (items_of rest)) (count_by is_memory (item ∷ items_of rest)) (count_more is_memory item (items_of rest)) in
    record {
      ops = omega (arith, keeps.ops);
      tests = keeps.tests;
      mem = omega (arith, keeps.mem, count);
      items = (fits.parts, keeps.items);
      operands = keeps.operands;
      leaves = keeps.leaves;
      paths = map_of_all (IsBelow above) (λ path. item ∷ path) (paths_of rest)
          (all_imply (IsBelow (above_with item above)) (λ path. IsBelow above (item ∷ path)) (paths_of rest) (λ path below. below_more above item path fits.fresh fits.effect below) keeps.paths);
    }

then_fits : (bounds : Bounds) (counts : Counts) (above : Above) (item : Item) (rest : CodeRow) → Keeps bounds counts above (Then item rest) → Fits bounds counts above item
then_fits bounds counts above item rest keeps =
    let count = one_more (is_memory item) counts.mem (count_by is_memory (items_of rest)) (count_by is_memory (item ∷ items_of rest)) (count_more is_memory item (items_of rest)) in
    let found = some_path rest (λ path. IsBelow above (item ∷ path)) (all_of_map (IsBelow above) (λ path. item ∷ path) (paths_of rest) keeps.paths) in
    record {
      ops = omega (arith, keeps.ops);
      mem = omega (arith, keeps.mem, count);
      effect = effect_first (is_effect item) above.effect (count_by is_effect found.0) (count_by is_effect (item ∷ found.0)) (count_more is_effect item found.0) found.1.one_effect;
      parts = keeps.items.0;
      fresh = fresh_first above.written (dest_of item) (filter_map dest_of found.0) found.1.fresh;
    }

then_rest : (bounds : Bounds) (counts : Counts) (above : Above) (item : Item) (rest : CodeRow) → Keeps bounds counts above (Then item rest)
    → Keeps bounds (counts_with_item (is_memory item) counts) (above_with item above) rest
then_rest bounds counts above item rest keeps =
    let count = one_more (is_memory item) counts.mem (count_by is_memory (items_of rest)) (count_by is_memory (item ∷ items_of rest)) (count_more is_memory item (items_of rest)) in
    record {
      ops = omega (arith, keeps.ops);
      tests = keeps.tests;
      mem = omega (arith, keeps.mem, count);
      items = keeps.items.1;
      operands = keeps.operands;
      leaves = keeps.leaves;
      paths = all_imply (λ path. IsBelow above (item ∷ path)) (IsBelow (above_with item above)) (paths_of rest) (λ path below. below_rest above item path below)
          (all_of_map (IsBelow above) (λ path. item ∷ path) (paths_of rest) keeps.paths);
    }

either_keeps : (bounds : Bounds) (counts : Counts) (above : Above) (on : Operand) (on_yes on_no : CodeRow) → IsOperand bounds.registers on
    → Keeps bounds (counts_with_test counts) above on_yes → Keeps bounds (counts_after on_yes (counts_with_test counts)) above on_no
    → Keeps bounds counts above (Either on on_yes on_no)
either_keeps bounds counts above on on_yes on_no is_operand yes_keeps no_keeps =
    let ops = counts-ops on_yes (counts_with_test counts) in
    let tests = counts-tests on_yes (counts_with_test counts) in
    let mem = counts-mem on_yes (counts_with_test counts) in
    record {
      ops = omega (arith, no_keeps.ops, ops, length-append (items_of on_yes) (items_of on_no));
      tests = omega (arith, no_keeps.tests, tests, length-append (tests_of on_yes) (tests_of on_no));
      mem = omega (arith, no_keeps.mem, mem, count_both is_memory (items_of on_yes) (items_of on_no));
      items = all_both (IsItem bounds.registers bounds.arrays) (items_of on_yes) (items_of on_no) yes_keeps.items no_keeps.items;
      operands = (is_operand, all_both (IsOperand bounds.registers) (tests_of on_yes) (tests_of on_no) yes_keeps.operands no_keeps.operands);
      leaves = all_both (IsLeaf bounds.rows) (leaves_of on_yes) (leaves_of on_no) yes_keeps.leaves no_keeps.leaves;
      paths = all_both (IsBelow above) (paths_of on_yes) (paths_of on_no) yes_keeps.paths no_keeps.paths;
    }

either_yes : (bounds : Bounds) (counts : Counts) (above : Above) (on : Operand) (on_yes on_no : CodeRow) → Keeps bounds counts above (Either on on_yes on_no)
    → Keeps bounds (counts_with_test counts) above on_yes
either_yes bounds counts above on on_yes on_no keeps = record {
  ops = omega (arith, keeps.ops, length-append (items_of on_yes) (items_of on_no));
  tests = omega (arith, keeps.tests, length-append (tests_of on_yes) (tests_of on_no));
  mem = omega (arith, keeps.mem, count_both is_memory (items_of on_yes) (items_of on_no));
  items = all_front (IsItem bounds.registers bounds.arrays) (items_of on_yes) (items_of on_no) keeps.items;
  operands = all_front (IsOperand bounds.registers) (tests_of on_yes) (tests_of on_no) keeps.operands.1;
  leaves = all_front (IsLeaf bounds.rows) (leaves_of on_yes) (leaves_of on_no) keeps.leaves;
  paths = all_front (IsBelow above) (paths_of on_yes) (paths_of on_no) keeps.paths;
}

either_no : (bounds : Bounds) (counts : Counts) (above : Above) (on : Operand) (on_yes on_no : CodeRow) → Keeps bounds counts above (Either on on_yes on_no)
    → Keeps bounds (counts_after on_yes (counts_with_test counts)) above on_no
either_no bounds counts above on on_yes on_no keeps =
    let ops = counts-ops on_yes (counts_with_test counts) in
    let tests = counts-tests on_yes (counts_with_test counts) in
    let mem = counts-mem on_yes (counts_with_test counts) in
    record {
      ops = omega (arith, keeps.ops, ops, length-append (items_of on_yes) (items_of on_no));
      tests = omega (arith, keeps.tests, tests, length-append (tests_of on_yes) (tests_of on_no));
      mem = omega (arith, keeps.mem, mem, count_both is_memory (items_of on_yes) (items_of on_no));
      items = all_back (IsItem bounds.registers bounds.arrays) (items_of on_yes) (items_of on_no) keeps.items;
      operands = all_back (IsOperand bounds.registers) (tests_of on_yes) (tests_of on_no) keeps.operands.1;
      leaves = all_back (IsLeaf bounds.rows) (leaves_of on_yes) (leaves_of on_no) keeps.leaves;
      paths = all_back (IsBelow above) (paths_of on_yes) (paths_of on_no) keeps.paths;
    }

-- a row without a flaw keeps its bounds
row_sound : (bounds : Bounds) (counts : Counts) (above : Above) (row : CodeRow) → Within bounds.limits counts → row_flaws bounds counts above row ≡ [] → Keeps bounds counts above row
row_sound bounds counts above (Then item rest) within e =
    let behind : Counts = counts_with_item (is_memory item) counts in
    let below : Above = above_with item above in
    let fits = item_sound bounds counts above item within.mem (none_front (item_flaws bounds counts above item) (row_flaws bounds behind below rest) e) in
    let still : Within bounds.limits behind = record { ops = omega (arith, fits.ops); tests = within.tests; mem = fits.mem } in
    then_keeps bounds counts above item rest fits
    (row_sound bounds behind below rest still (none_back (item_flaws bounds counts above item) (row_flaws bounds behind below rest) e))
row_sound bounds counts above (Either on on_yes on_no) within e =
    let behind : Counts = counts_with_test counts in
    let between : Counts = counts_after on_yes behind in
    let test : List Flaw = test_flaws bounds counts on in
    let rest : List Flaw = row_flaws bounds behind above on_yes ++ row_flaws bounds between above on_no in
    let t = none_front test rest e in
    let r = none_back test rest e in
    let full : Bool = nat_le bounds.limits.tests counts.tests in
    let room : counts.tests < bounds.limits.tests = below_of bounds.limits.tests counts.tests (where_none full TooManyTests (none_front (test_tag_flaws bounds.limits counts)
    (operand_flaws bounds.registers on) t)) in
    let still : Within bounds.limits behind = record { ops = within.ops; tests = omega arith; mem = within.mem } in
    let yes_keeps = row_sound bounds behind above on_yes still (none_front (row_flaws bounds behind above on_yes) (row_flaws bounds between above on_no) r) in
    let later : Within bounds.limits between = record {
      ops = omega (arith, counts-ops on_yes behind, yes_keeps.ops);
      tests = omega (arith, counts-tests on_yes behind, yes_keeps.tests);
      mem = omega (arith, counts-mem on_yes behind, yes_keeps.mem);
    } in
    either_keeps bounds counts above on on_yes on_no (operand_sound bounds.registers on (none_back (test_tag_flaws bounds.limits counts) (operand_flaws bounds.registers on) t)) yes_keeps
    (row_sound bounds between above on_no later (none_back (row_flaws bounds behind above on_yes) (row_flaws bounds between above on_no) r))
row_sound bounds counts above (At_leaf leaf) within e = record {
  ops = omega (arith, within.ops);
  tests = omega (arith, within.tests);
  mem = omega (arith, within.mem);
  items = tt;
  operands = tt;
  leaves = (leaf_sound bounds leaf e, tt);
  paths = (end_below above, tt);
}

-- a row that keeps its bounds has no flaw
row_complete : (bounds : Bounds) (counts : Counts) (above : Above) (row : CodeRow) → Keeps bounds counts above row → row_flaws bounds counts above row ≡ []
row_complete bounds counts above (Then item rest) keeps =
    none_both (item_flaws bounds counts above item) (row_flaws bounds (counts_with_item (is_memory item) counts) (above_with item above) rest)
    (item_complete bounds counts above item (then_fits bounds counts above item rest keeps))
    (row_complete bounds (counts_with_item (is_memory item) counts) (above_with item above) rest (then_rest bounds counts above item rest keeps))
row_complete bounds counts above (Either on on_yes on_no) keeps =
    let behind : Counts = counts_with_test counts in
    let between : Counts = counts_after on_yes behind in
    let room : counts.tests < bounds.limits.tests = omega (arith, keeps.tests) in
    none_both (test_flaws bounds counts on) (row_flaws bounds behind above on_yes ++ row_flaws bounds between above on_no)
    (none_both (test_tag_flaws bounds.limits counts) (operand_flaws bounds.registers on)
    (none_where (nat_le bounds.limits.tests counts.tests) TooManyTests (of_below bounds.limits.tests counts.tests room))
    (operand_complete bounds.registers on keeps.operands.0))
    (none_both (row_flaws bounds behind above on_yes) (row_flaws bounds between above on_no)
    (row_complete bounds behind above on_yes (either_yes bounds counts above on on_yes on_no keeps))
    (row_complete bounds between above on_no (either_no bounds counts above on on_yes on_no keeps)))
row_complete bounds counts above (At_leaf leaf) keeps = leaf_complete bounds leaf keeps.leaves.0

-- ---- a row of a code

path_of_below : (path : List Item) → IsBelow nothing_above path → IsPath path
path_of_below path below = record { writes_once = below.writes_once; one_effect = below.one_effect }

below_of_path : (path : List Item) → IsPath path → IsBelow nothing_above path
below_of_path path is = record { fresh = all_true (filter_map dest_of path); writes_once = is.writes_once; one_effect = is.one_effect }

whole_sound : (bounds : Bounds) (row : CodeRow) → row_flaws bounds no_counts nothing_above row ≡ [] → IsRow bounds.limits bounds.registers bounds.arrays bounds.rows row
whole_sound bounds row e =
    let keeps = row_sound bounds no_counts nothing_above row (record { ops = zero-le; tests = zero-le; mem = zero-le }) e in
    record {
      ops = omega (arith, keeps.ops);
      tests = omega (arith, keeps.tests);
      mem = omega (arith, keeps.mem);
      items = keeps.items;
      operands = keeps.operands;
      leaves = keeps.leaves;
      paths = all_imply (IsBelow nothing_above) IsPath (paths_of row) path_of_below keeps.paths;
    }

whole_complete : (bounds : Bounds) (row : CodeRow) → IsRow bounds.limits bounds.registers bounds.arrays bounds.rows row → row_flaws bounds no_counts nothing_above row ≡ []
whole_complete bounds row is = row_complete bounds no_counts nothing_above row (record {
  ops = omega (arith, is.ops);
  tests = omega (arith, is.tests);
  mem = omega (arith, is.mem);
  items = is.items;
  operands = is.operands;
  leaves = is.leaves;
  paths = all_imply IsPath (IsBelow nothing_above) (paths_of row) below_of_path is.paths;
})

rows_sound : (bounds : Bounds) (rows : List CodeRow) → flat_map (row_flaws bounds no_counts nothing_above) rows ≡ []
    → AllByRecursion (IsRow bounds.limits bounds.registers bounds.arrays bounds.rows) rows
rows_sound bounds [] e = tt
rows_sound bounds (row ∷ rows) e =
    let first : List Flaw = row_flaws bounds no_counts nothing_above row in
    let rest : List Flaw = flat_map (row_flaws bounds no_counts nothing_above) rows in
    (whole_sound bounds row (none_front first rest e), rows_sound bounds rows (none_back first rest e))

rows_complete : (bounds : Bounds) (rows : List CodeRow) → AllByRecursion (IsRow bounds.limits bounds.registers bounds.arrays bounds.rows) rows
    → flat_map (row_flaws bounds no_counts nothing_above) rows ≡ []
rows_complete bounds [] h = refl
rows_complete bounds (row ∷ rows) h =
    none_both (row_flaws bounds no_counts nothing_above row) (flat_map (row_flaws bounds no_counts nothing_above) rows)
    (whole_complete bounds row h.0) (rows_complete bounds rows h.1)

-- ---- the header

limit_sound : (most limit : ℕ) → limit_flaws most limit ≡ [] → IsBetween 1 most limit
limit_sound most limit e = between_of 1 most limit (where_none (not (is_between 1 most limit)) HeaderLimit e)

limit_complete : (most limit : ℕ) → IsBetween 1 most limit → limit_flaws most limit ≡ []
limit_complete most limit h = none_where (not (is_between 1 most limit)) HeaderLimit (of_between 1 most limit h)

pub limits_sound : (limits : Limits) → limits_flaws limits ≡ [] → AreLimits limits
limits_sound limits e =
    let ops : List Flaw = limit_flaws most_ops limits.ops in
    let tests : List Flaw = limit_flaws most_tests limits.tests in
    let mem : List Flaw = limit_flaws most_mem limits.mem in
    let rest = none_back ops (tests ++ mem) e in
    record {
      ops = limit_sound most_ops limits.ops (none_front ops (tests ++ mem) e);
      tests = limit_sound most_tests limits.tests (none_front tests mem rest);
      mem = limit_sound most_mem limits.mem (none_back tests mem rest);
    }

limits_complete : (limits : Limits) → AreLimits limits → limits_flaws limits ≡ []
limits_complete limits are =
    none_both (limit_flaws most_ops limits.ops) (limit_flaws most_tests limits.tests ++ limit_flaws most_mem limits.mem) (limit_complete most_ops limits.ops are.ops)
    (none_both (limit_flaws most_tests limits.tests) (limit_flaws most_mem limits.mem) (limit_complete most_tests limits.tests are.tests) (limit_complete most_mem limits.mem are.mem))

sum_more : (n : ℕ) (ns : List ℕ) → sum (n ∷ ns) ≡ n + sum ns
sum_more n ns = sum_by-cons (λ m. m) n ns

lengths_sound : (before : ℕ) (lengths : List ℕ) → before ≤ most_elements → lengths_flaws before lengths ≡ []
    → AllByRecursion (IsBetween 1 most_length) lengths × (before + sum lengths ≤ most_elements)
lengths_sound before [] few e = (tt, omega arith)
lengths_sound before (elements ∷ lengths) few e =
    let here = none_front (length_flaws before elements) (lengths_flaws (before + elements) lengths) e in
    let odd : Bool = not (is_between 1 most_length elements) in
    let over : Bool = nat_lt most_elements (before + elements) in
    let room : before + elements ≤ most_elements = most_of most_elements (before + elements) (where_none over Elements (none_back (flaw_where odd ArrayLength) (flaw_where over Elements) here)) in
    let rest = lengths_sound (before + elements) lengths room (none_back (length_flaws before elements) (lengths_flaws (before + elements) lengths) e) in (
      (between_of 1 most_length elements (where_none odd ArrayLength (none_front (flaw_where odd ArrayLength) (flaw_where over Elements) here)), rest.0),
      omega (arith, rest.1, sum_more elements lengths),
    )

lengths_complete : (before : ℕ) (lengths : List ℕ) → AllByRecursion (IsBetween 1 most_length) lengths → before + sum lengths ≤ most_elements → lengths_flaws before lengths ≡ []
lengths_complete before [] h few = refl
lengths_complete before (elements ∷ lengths) h few =
    let more = sum_more elements lengths in
    let room : before + elements ≤ most_elements = omega (arith, more) in
    let rest : before + elements + sum lengths ≤ most_elements = omega (arith, more) in
    none_both (length_flaws before elements) (lengths_flaws (before + elements) lengths)
    (none_both (flaw_where (not (is_between 1 most_length elements)) ArrayLength) (flaw_where (nat_lt most_elements (before + elements)) Elements)
    (none_where (not (is_between 1 most_length elements)) ArrayLength (of_between 1 most_length elements h.0))
    (none_where (nat_lt most_elements (before + elements)) Elements (of_most most_elements (before + elements) room)))
    (lengths_complete (before + elements) lengths h.1 rest)

-- the number of registers is one of the two
register_count_sound : (count : ℕ) → register_count_flaws count ≡ [] → IsRegisterCount count
register_count_sound count e = either_of (nat_eq count few_registers) (nat_eq count most_registers) refl refl (where_none (not (nat_eq count few_registers || nat_eq count most_registers)) Registers e)
  where
    either_of : (p q : Bool) → nat_eq count few_registers ≡ p → nat_eq count most_registers ≡ q → not (p || q) ≡ false → IsRegisterCount count
    either_of true q a b h = inl (grind (arith, nat_tests))
    either_of false true a b h = inr (grind (arith, nat_tests))
    either_of false false a b h = (cc)

register_count_complete : (count : ℕ) → IsRegisterCount count → register_count_flaws count ≡ []
register_count_complete count (inl few) = ap register_count_flaws few
register_count_complete count (inr most) = ap register_count_flaws most

-- ---- the data of arrays

data_sound : (elements : ℕ) (words : List ℤ) → data_flaws elements words ≡ [] → IsData elements words
data_sound elements words e = record {
  fits = most_of elements (length words) (where_none (nat_lt elements (length words)) DataCount (none_front (data_count_flaws elements (length words)) (flaw_where (ends_in_zero words) DataTail) e));
  tail = where_none (ends_in_zero words) DataTail (none_back (data_count_flaws elements (length words)) (flaw_where (ends_in_zero words) DataTail) e);
}

data_complete : (elements : ℕ) (words : List ℤ) → IsData elements words → data_flaws elements words ≡ []
data_complete elements words is =
    none_both (data_count_flaws elements (length words)) (flaw_where (ends_in_zero words) DataTail)
    (none_where (nat_lt elements (length words)) DataCount (of_most elements (length words) is.fits))
    (none_where (ends_in_zero words) DataTail is.tail)

each_data_sound : (lengths : List ℕ) (initial : List (List ℤ)) → length initial ≡ length lengths → each_data_flaws lengths initial ≡ [] → AreData lengths initial
each_data_sound [] [] same e = tt
each_data_sound [] (words ∷ initial) same e = absurd (omega (arith, same))
each_data_sound (elements ∷ lengths) [] same e = absurd (omega (arith, same))
each_data_sound (elements ∷ lengths) (words ∷ initial) same e = (
  data_sound elements words (none_front (data_flaws elements words) (each_data_flaws lengths initial) e),
  each_data_sound lengths initial (omega (arith, same)) (none_back (data_flaws elements words) (each_data_flaws lengths initial) e),
)

each_data_complete : (lengths : List ℕ) (initial : List (List ℤ)) → AreData lengths initial → (length initial ≡ length lengths) × (each_data_flaws lengths initial ≡ [])
each_data_complete [] [] are = (refl, refl)
each_data_complete [] (words ∷ initial) are = absurd are
each_data_complete (elements ∷ lengths) [] are = absurd are
each_data_complete (elements ∷ lengths) (words ∷ initial) are =
    let rest = each_data_complete lengths initial are.1 in
    (ap suc rest.0, none_both (data_flaws elements words) (each_data_flaws lengths initial) (data_complete elements words are.0) rest.1)

-- as many lists of words as arrays
as_many_of : (lists arrays : ℕ) → not (nat_eq lists arrays) ≡ false → lists ≡ arrays
as_many_of lists arrays e = same (nat_eq lists arrays) refl e
  where
    same : (p : Bool) → nat_eq lists arrays ≡ p → not p ≡ false → lists ≡ arrays
    same true a h = grind (arith, nat_tests)
    same false a h = (cc)

pub of_as_many : (lists arrays : ℕ) → lists ≡ arrays → not (nat_eq lists arrays) ≡ false
of_as_many lists arrays e = let same : nat_eq lists arrays ≡ true = grind (arith, nat_tests) in ap not same

initial_sound : (lengths : List ℕ) (initial : List (List ℤ)) → initial_flaws lengths initial ≡ [] → AreData lengths initial
initial_sound lengths initial e =
    let apart : Bool = not (nat_eq (length initial) (length lengths)) in
    each_data_sound lengths initial
    (as_many_of (length initial) (length lengths) (where_none apart DataCount (none_front (flaw_where apart DataCount) (each_data_flaws lengths initial) e)))
    (none_back (flaw_where apart DataCount) (each_data_flaws lengths initial) e)

-- as many lists as arrays, of which none has a flaw
pub no_initial_flaws : (lengths : List ℕ) (initial : List (List ℤ)) → length initial ≡ length lengths → each_data_flaws lengths initial ≡ [] → initial_flaws lengths initial ≡ []
no_initial_flaws lengths initial same none =
    let apart : Bool = not (nat_eq (length initial) (length lengths)) in
    none_both (flaw_where apart DataCount) (each_data_flaws lengths initial) (none_where apart DataCount (of_as_many (length initial) (length lengths) same)) none

pub initial_complete : (lengths : List ℕ) (initial : List (List ℤ)) → AreData lengths initial → initial_flaws lengths initial ≡ []
initial_complete lengths initial are = let each = each_data_complete lengths initial are in no_initial_flaws lengths initial each.0 each.1

count_sound : (count : ℕ) → row_count_flaws count ≡ [] → 1 ≤ count
count_sound count e = let apart : nat_eq count 0 ≡ false = where_none (nat_eq count 0) RowCount e in grind (arith, nat_tests)

count_complete : (count : ℕ) → 1 ≤ count → row_count_flaws count ≡ []
count_complete count h = let apart : nat_eq count 0 ≡ false = grind (arith, nat_tests) in none_where (nat_eq count 0) RowCount apart

-- ---- the code

-- a code without a flaw is well formed
pub well_formed_without_flaw : (code : RowCode) → flaws_of code ≡ [] → WellFormed code
well_formed_without_flaw code e =
    let rows : List Flaw = flat_map (row_flaws (bounds_of code) no_counts nothing_above) code.rows in
    let limits : List Flaw = limits_flaws code.limits in
    let count : List Flaw = array_count_flaws (length code.arrays) in
    let registers : List Flaw = register_count_flaws code.registers in
    let lengths : List Flaw = lengths_flaws 0 code.arrays in
    let initial : List Flaw = initial_flaws code.arrays code.initial in
    let row_count : List Flaw = row_count_flaws (length code.rows) in
    let header = none_front (header_flaws code) rows e in
    let counted = none_back limits (count ++ (registers ++ (lengths ++ (initial ++ row_count)))) header in
    let numbered = none_back count (registers ++ (lengths ++ (initial ++ row_count))) counted in
    let measured = none_back registers (lengths ++ (initial ++ row_count)) numbered in
    let filled = none_back lengths (initial ++ row_count) measured in
    let each = lengths_sound 0 code.arrays zero-le (none_front lengths (initial ++ row_count) measured) in
    let few : nat_lt most_arrays (length code.arrays) ≡ false =
    where_none (nat_lt most_arrays (length code.arrays)) ArrayCount (none_front count (registers ++ (lengths ++ (initial ++ row_count))) counted) in
    record {
      limits = limits_sound code.limits (none_front limits (count ++ (registers ++ (lengths ++ (initial ++ row_count)))) header);
      registers = register_count_sound code.registers (none_front registers (lengths ++ (initial ++ row_count)) numbered);
      arrays = record { count = most_of most_arrays (length code.arrays) few; each = each.0; elements = omega (arith, each.1) };
      initial = initial_sound code.arrays code.initial (none_front initial row_count filled);
      entry = count_sound (length code.rows) (none_back initial row_count filled);
      rows = rows_sound (bounds_of code) code.rows (none_back (header_flaws code) rows e);
    }

-- a well-formed code has no flaw in its header
header_complete : (code : RowCode) → WellFormed code → header_flaws code ≡ []
header_complete code well =
    let sum_few : 0 + sum code.arrays ≤ most_elements = omega (arith, well.arrays.elements) in
    let count : List Flaw = array_count_flaws (length code.arrays) in
    let registers : List Flaw = register_count_flaws code.registers in
    let lengths : List Flaw = lengths_flaws 0 code.arrays in
    let initial : List Flaw = initial_flaws code.arrays code.initial in
    let row_count : List Flaw = row_count_flaws (length code.rows) in
    none_both (limits_flaws code.limits) (count ++ (registers ++ (lengths ++ (initial ++ row_count)))) (limits_complete code.limits well.limits)
    (none_both count (registers ++ (lengths ++ (initial ++ row_count)))
    (none_where (nat_lt most_arrays (length code.arrays)) ArrayCount (of_most most_arrays (length code.arrays) well.arrays.count))
    (none_both registers (lengths ++ (initial ++ row_count)) (register_count_complete code.registers well.registers)
    (none_both lengths (initial ++ row_count) (lengths_complete 0 code.arrays well.arrays.each sum_few)
    (none_both initial row_count (initial_complete code.arrays code.initial well.initial) (count_complete (length code.rows) well.entry)))))

-- nor in its rows
pub no_flaw_well_formed : (code : RowCode) → WellFormed code → flaws_of code ≡ []
no_flaw_well_formed code well =
    none_both (header_flaws code) (flat_map (row_flaws (bounds_of code) no_counts nothing_above) code.rows)
    (header_complete code well) (rows_complete (bounds_of code) code.rows well.rows)

-- the law: no flaw stands in a code exactly where it is well formed
pub no_flaw : (code : RowCode) → (flaws_of code ≡ []) ↔ WellFormed code
no_flaw code = (well_formed_without_flaw code, no_flaw_well_formed code)

-- the first flaw is none exactly where the code is well formed
pub first_flaw : (code : RowCode) (told : Option Flaw) → told ≡ slice_get (flaws_of code) 0 → (told ≡ None) ↔ WellFormed code
first_flaw code told e = (
  λ none. well_formed_without_flaw code (no_first (flaws_of code) (sym e ∙ none)),
  λ well. e ∙ ap (λ (flaws : List Flaw). slice_get flaws 0) (no_flaw_well_formed code well),
)
  where
    no_first : (flaws : List Flaw) → slice_get flaws 0 ≡ None → flaws ≡ []
    no_first [] none = refl
    no_first (flaw ∷ flaws) none = (cc)
