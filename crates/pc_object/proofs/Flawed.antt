-- The text of a code with flaws is refused for the first of them. Each part of a text is read as its value, or as the first of its flaws.
use Rattle.std.proofs.Common.{◌≡◌, ℕ, zero, suc, ◌-◌, ◌^◌, ◌<◌, ◌≤◌, Bool, leb, ◌&&◌, List, [], ◌∷◌, ◌++◌, length, Some, Result, Ok, Err, refl, sym, ap, ◌∙◌, subst, arith, append_assoc}
use Rattle.std.proofs.lemmas.Bool.{leb-false}
use Rattle.std.specs.Prelude.{slice_get}
use Rattle.std.specs.List.{flat_map, AllByRecursion}
use Rattle.std.specs.Int.{w16, w32}
use Rattle.pc_word.specs.declared.item.Item.{Item}
use Rattle.pc_word.specs.declared.item.Item.TheVariants as items
use Rattle.pc_word.specs.declared.item.Operand.{Operand}
use Rattle.pc_word.specs.declared.item.Operand.TheVariants.{Name, Lit}
use Rattle.pc_word.specs.Items.{is_memory, is_effect}
use Rattle.pc_word.specs.Row.{Then, Either, At_leaf}
use Rattle.pc_machine.specs.declared.code.Flaw.{Flaw}
use Rattle.pc_machine.specs.declared.code.Flaw.TheVariants as flaws
use Rattle.pc_machine.specs.declared.check.Bounds.{Bounds}
use Rattle.pc_machine.specs.declared.check.Counts.{Counts}
use Rattle.pc_machine.specs.declared.tree.Leaf.{Leaf}
use Rattle.pc_machine.specs.declared.tree.Leaf.TheVariants.{Goto, Stop, Trap}
use Rattle.pc_machine.specs.MachineCode.{CodeRow, RowCode}
use Rattle.pc_machine.specs.Flaws.{limits_flaws, header_flaws, Above}
use Rattle.pc_machine.specs.Flaws.{above_with, nothing_above, no_counts, counts_with_item, counts_with_test, counts_after, item_tag_flaws}
use Rattle.pc_machine.specs.Flaws.{test_tag_flaws, register_flaws, dest_flaws, operand_flaws, array_flaws, target_flaws, field_flaws, item_flaws}
use Rattle.pc_machine.specs.Flaws.{test_flaws, leaf_flaws, row_flaws, bounds_of, flaws_of, flaw_where}
use Rattle.pc_machine.proofs.Flaws.{limits_sound}
use Rattle.pc_object.specs.declared.refusal.Refusal.{Refusal}
use Rattle.pc_object.specs.declared.refusal.ObjectError.TheVariants.{BadField}
use Rattle.pc_object.specs.declared.tag.ItemKind.TheVariants as kinds
use Rattle.pc_object.specs.declared.tag.Tag.TheVariants as tags
use Rattle.pc_object.specs.ObjectText.{CodeWithNotes, u32_text, operator_byte, operand_text, item_text, row_text, leaf_text, header_text, notes_text, object_text}
use Rattle.pc_object.specs.Numbers.{OperandFits, ItemNumbersFit, LeafFits, RowNumbersFit, HasWords, TargetFits, TargetsFit, HasCounts}
use Rattle.pc_object.specs.Reading.{◌>>=◌, ◌>>◌, at_field, unflawed, number_at}
use Rattle.pc_object.specs.Reading.{register_at, dest_at, array_at, operator_at, operand_at, fields_at, goto_at, PartOfRow, ReadsPart, tag_byte}
use Rattle.pc_object.specs.Reading.{is_memory_kind, is_effect_kind, step_at, test_at, counted_item, counted_test, behind_tag, row_at, deepest}
use Rattle.pc_object.specs.Reading.{rows_at, notes_at, end_at, header_at, header_bounds, code_with, object_at, told_of, object_reading}
use Rattle.pc_object.proofs.FieldLaws.{wide32, number_again, operator_again, operand_again}
use Rattle.pc_object.proofs.Tells.{Refuses, Tells, Stops, tells_then, tells_last, tells_next, stops_then, stops_here, field_tells, passes_tells}
use Rattle.pc_object.proofs.HeaderTells.{HasStorageText, shape_of, header_tells}
use Rattle.pc_object.proofs.RowLaws.{nil_parts, where_nil, room, counts_grow, kind_of, fields_text, item_text_is, memory_is, effect_is, at_tag, leaf_again}

-- ---- fields

dest_tells : (registers : ℕ) (above : Above) (dest : ℕ) (rest : List ℕ) → Tells (dest_flaws registers above dest) (dest, rest) (dest_at registers above (dest ∷ rest))
unfolding dest_at
dest_tells registers above dest rest = passes_tells (dest ∷ rest) (dest_flaws registers above dest) (dest, rest)

array_tells : (arrays array : ℕ) (rest : List ℕ) → Tells (array_flaws arrays array) (array, rest) (array_at arrays (array ∷ rest))
unfolding array_at
array_tells arrays array rest = passes_tells (array ∷ rest) (array_flaws arrays array) (array, rest)

register_tells : (registers register : ℕ) (rest : List ℕ) → Tells (register_flaws registers register) (register, rest) (register_at registers (register ∷ rest))
unfolding register_at
register_tells registers register rest = passes_tells (register ∷ rest) (register_flaws registers register) (register, rest)

operand_tells : (registers : ℕ) (operand : Operand) (rest : List ℕ) → OperandFits operand
    → Tells (operand_flaws registers operand) (operand, rest) (operand_at registers (operand_text operand ++ rest))
unfolding operand_at
operand_tells registers (Name register) rest fits =
    tells_last (register_flaws registers register) (register, rest) (Name register, rest) (register_at registers (register ∷ rest))
    (λ r. Ok (Name r.0, r.1)) (register_tells registers register rest) refl
operand_tells registers (Lit value) rest fits = operand_again registers (Lit value) rest refl fits

-- the fields of an item after its tag
fields_tell : (bounds : Bounds) (above : Above) (item : Item) (rest : List ℕ) → ItemNumbersFit item
    → Tells (field_flaws bounds above item) (item, rest) (fields_at bounds above (kind_of item) (fields_text item ++ rest))
unfolding fields_at
fields_tell bounds above (items.Bin op dest left right) rest fits =
    let behind_left : List ℕ = operand_text right ++ rest in
    let behind_dest : List ℕ = operand_text left ++ behind_left in
    let item : Item = items.Bin op dest left right in
    subst (λ (t : List ℕ). Tells (field_flaws bounds above item) (item, rest) (fields_at bounds above kinds.Bin (operator_byte op ∷ dest ∷ t)))
    (sym (append_assoc (operand_text left) (operand_text right) rest))
    (tells_next (field_flaws bounds above item) (op, dest ∷ behind_dest) (item, rest) (operator_at (operator_byte op ∷ dest ∷ behind_dest))
    (λ o. dest_at bounds.registers above o.1 >>= λ d. operand_at bounds.registers d.1 >>= λ l. operand_at bounds.registers l.1 >>= λ r.
    Ok (items.Bin o.0 d.0 l.0 r.0, r.1)) (operator_again op (dest ∷ behind_dest))
    (tells_then (dest_flaws bounds.registers above dest) (operand_flaws bounds.registers left ++ operand_flaws bounds.registers right) (dest, behind_dest) (item, rest)
    (dest_at bounds.registers above (dest ∷ behind_dest))
    (λ d. operand_at bounds.registers d.1 >>= λ l. operand_at bounds.registers l.1 >>= λ r. Ok (items.Bin op d.0 l.0 r.0, r.1)) (dest_tells bounds.registers above dest behind_dest) (λ none.
    tells_then (operand_flaws bounds.registers left) (operand_flaws bounds.registers right) (left, behind_left) (item, rest) (operand_at bounds.registers behind_dest)
    (λ l. operand_at bounds.registers l.1 >>= λ r. Ok (items.Bin op dest l.0 r.0, r.1)) (operand_tells bounds.registers left behind_left fits.0) (λ none.
    tells_last (operand_flaws bounds.registers right) (right, rest) (item, rest) (operand_at bounds.registers behind_left)
    (λ r. Ok (items.Bin op dest left r.0, r.1)) (operand_tells bounds.registers right rest fits.1) refl))))
fields_tell bounds above (items.Copy dest from) rest fits =
    tells_then (dest_flaws bounds.registers above dest) (operand_flaws bounds.registers from) (dest, operand_text from ++ rest) (items.Copy dest from, rest) (dest_at bounds.registers above
    (dest ∷ (operand_text from ++ rest)))
    (λ d. operand_at bounds.registers d.1 >>= λ f. Ok (items.Copy d.0 f.0, f.1)) (dest_tells bounds.registers above dest (operand_text from ++ rest)) (λ none.
    tells_last (operand_flaws bounds.registers from) (from, rest) (items.Copy dest from, rest) (operand_at bounds.registers (operand_text from ++ rest))
    (λ f. Ok (items.Copy dest f.0, f.1)) (operand_tells bounds.registers from rest fits) refl)
fields_tell bounds above (items.Load dest array index) rest fits =
    let tail : List ℕ = operand_text index ++ rest in
    let item : Item = items.Load dest array index in
    tells_then (dest_flaws bounds.registers above dest) (array_flaws bounds.arrays array ++ operand_flaws bounds.registers index) (dest, array ∷ tail) (item, rest) (dest_at bounds.registers above
    (dest ∷ array ∷ tail))
    (λ d. array_at bounds.arrays d.1 >>= λ a. operand_at bounds.registers a.1 >>= λ i. Ok (items.Load d.0 a.0 i.0, i.1)) (dest_tells bounds.registers above dest (array ∷ tail)) (λ none.
    tells_then (array_flaws bounds.arrays array) (operand_flaws bounds.registers index) (array, tail) (item, rest) (array_at bounds.arrays (array ∷ tail))
    (λ a. operand_at bounds.registers a.1 >>= λ i. Ok (items.Load dest a.0 i.0, i.1)) (array_tells bounds.arrays array tail) (λ none.
    tells_last (operand_flaws bounds.registers index) (index, rest) (item, rest) (operand_at bounds.registers tail)
    (λ i. Ok (items.Load dest array i.0, i.1)) (operand_tells bounds.registers index rest fits) refl))
fields_tell bounds above (items.Store array index value) rest fits =
    let behind_index : List ℕ = operand_text value ++ rest in
    let behind_array : List ℕ = operand_text index ++ behind_index in
    let item : Item = items.Store array index value in
    subst (λ (t : List ℕ). Tells (field_flaws bounds above item) (item, rest) (fields_at bounds above kinds.Store (array ∷ t))) (sym (append_assoc (operand_text index) (operand_text value) rest))
    (tells_then (array_flaws bounds.arrays array) (operand_flaws bounds.registers index ++ operand_flaws bounds.registers value) (array, behind_array) (item, rest) (array_at bounds.arrays
    (array ∷ behind_array))
    (λ a. operand_at bounds.registers a.1 >>= λ i. operand_at bounds.registers i.1 >>= λ v. Ok (items.Store a.0 i.0 v.0, v.1)) (array_tells bounds.arrays array behind_array) (λ none.
    tells_then (operand_flaws bounds.registers index) (operand_flaws bounds.registers value) (index, behind_index) (item, rest) (operand_at bounds.registers behind_array)
    (λ i. operand_at bounds.registers i.1 >>= λ v. Ok (items.Store array i.0 v.0, v.1)) (operand_tells bounds.registers index behind_index fits.0) (λ none.
    tells_last (operand_flaws bounds.registers value) (value, rest) (item, rest) (operand_at bounds.registers behind_index)
    (λ v. Ok (items.Store array index v.0, v.1)) (operand_tells bounds.registers value rest fits.1) refl)))
fields_tell bounds above (items.Print value) rest fits =
    tells_last (operand_flaws bounds.registers value) (value, rest) (items.Print value, rest) (operand_at bounds.registers (operand_text value ++ rest))
    (λ v. Ok (items.Print v.0, v.1)) (operand_tells bounds.registers value rest fits) refl
fields_tell bounds above (items.Read dest) rest fits =
    tells_last (dest_flaws bounds.registers above dest) (dest, rest) (items.Read dest, rest) (dest_at bounds.registers above (dest ∷ rest))
    (λ d. Ok (items.Read d.0, d.1)) (dest_tells bounds.registers above dest rest) refl
fields_tell bounds above (items.More dest) rest fits =
    tells_last (dest_flaws bounds.registers above dest) (dest, rest) (items.More dest, rest) (dest_at bounds.registers above (dest ∷ rest))
    (λ d. Ok (items.More d.0, d.1)) (dest_tells bounds.registers above dest rest) refl

-- ---- rows

goto_tells : (rows row : ℕ) (rest : List ℕ) → row < 2 ^ 32 → Tells (target_flaws rows row) (At_leaf (Goto row), rest) (goto_at rows (u32_text row ++ rest))
unfolding goto_at
goto_tells rows row rest fits =
    let bytes : List ℕ = u32_text row ++ rest in
    tells_next (target_flaws rows row) (row, rest) (At_leaf (Goto row), rest) (number_at w32 bytes) (λ n. unflawed bytes (target_flaws rows n.0) >> Ok (At_leaf (Goto n.0), n.1))
    (number_again w32 (2 ^ 32) wide32 row rest fits) (passes_tells bytes (target_flaws rows row) (At_leaf (Goto row), rest))

leaf_tells : (bounds : Bounds) (depth : ℕ) (counts : Counts) (above : Above) (leaf : Leaf) (rest : List ℕ) → bounds.rows ≤ 2 ^ 32 → LeafFits leaf → TargetFits leaf
    → Tells (leaf_flaws bounds leaf) (At_leaf leaf, counts, rest) (row_at bounds (suc depth) counts above (leaf_text leaf ++ rest))
unfolding behind_tag
leaf_tells bounds depth counts above (Goto row) rest few fits target =
    let bytes : List ℕ = u32_text row ++ rest in
    subst (Tells (target_flaws bounds.rows row) (At_leaf (Goto row), counts, rest)) (sym (at_tag bounds depth counts above tags.Goto bytes))
    (tells_last (target_flaws bounds.rows row) (At_leaf (Goto row), rest) (At_leaf (Goto row), counts, rest) (goto_at bounds.rows bytes)
    (λ leaf. Ok (leaf.0, counts, leaf.1)) (goto_tells bounds.rows row rest target) refl)
leaf_tells bounds depth counts above Stop rest few fits target = leaf_again bounds depth counts above Stop rest few refl fits
leaf_tells bounds depth counts above (Trap kind line) rest few fits target = leaf_again bounds depth counts above (Trap kind line) rest few refl fits

-- what stands after the tag of an item, where the part below it tells its flaws
item_tells : (bounds : Bounds) (below : ReadsPart) (counts : Counts) (above : Above) (item : Item) (bytes tail : List ℕ) (gs : List Flaw) (next : CodeRow) (after : Counts) (rest : List ℕ)
    → ItemNumbersFit item
    → (item_tag_flaws bounds.limits counts above (is_memory item) (is_effect item) ≡ []
    → Tells gs (next, after, rest) (below (counts_with_item (is_memory item) counts) (above_with item above) tail))
    → Tells (item_flaws bounds counts above item ++ gs) (Then item next, after, rest) (behind_tag bounds below counts above bytes (tags.Item (kind_of item)) (fields_text item ++ tail))
unfolding behind_tag step_at
item_tells bounds below counts above item bytes tail gs next after rest fits deeper =
    let tag : List Flaw = item_tag_flaws bounds.limits counts above (is_memory item) (is_effect item) in
    let fields : List Flaw = field_flaws bounds above item in
    let behind : Counts = counts_with_item (is_memory item) counts in
    let read : Bool → Bool → Result PartOfRow Refusal = λ memory effect. at_field bytes (counted_item bounds.limits counts above memory effect) >>= λ more. step_at bounds below more above
    (kind_of item) (fields_text item ++ tail) in
    subst (λ (fs : List Flaw). Tells fs (Then item next, after, rest) (read (is_memory_kind (kind_of item)) (is_effect_kind (kind_of item)))) (sym (append_assoc tag fields gs))
    (subst (λ (memory : Bool). Tells (tag ++ (fields ++ gs)) (Then item next, after, rest) (read memory (is_effect_kind (kind_of item)))) (sym (memory_is item))
    (subst (λ (effect : Bool). Tells (tag ++ (fields ++ gs)) (Then item next, after, rest) (read (is_memory item) effect)) (sym (effect_is item))
    (tells_then tag (fields ++ gs) behind (Then item next, after, rest) (at_field bytes (counted_item bounds.limits counts above (is_memory item) (is_effect item)))
    (λ more. step_at bounds below more above (kind_of item) (fields_text item ++ tail)) (field_tells bytes tag behind) (λ none.
    tells_then fields gs (item, tail) (Then item next, after, rest) (fields_at bounds above (kind_of item) (fields_text item ++ tail))
    (λ i. below behind (above_with i.0 above) i.1 >>= λ n. Ok (Then i.0 n.0, n.1, n.2)) (fields_tell bounds above item tail fits) (λ none2.
    tells_last gs (next, after, rest) (Then item next, after, rest) (below behind (above_with item above) tail) (λ n. Ok (Then item n.0, n.1, n.2)) (deeper none) refl)))))

-- what stands after the tag of a test, where both sides tell theirs
test_tells : (bounds : Bounds) (below : ReadsPart) (counts : Counts) (above : Above) (on : Operand) (bytes behind_on behind_yes : List ℕ) (fs gs : List Flaw) (on_yes on_no : CodeRow)
    (between after : Counts) (rest : List ℕ)
    → OperandFits on
    → (test_tag_flaws bounds.limits counts ≡ [] → Tells fs (on_yes, between, behind_yes) (below (counts_with_test counts) above behind_on))
    → (test_tag_flaws bounds.limits counts ≡ [] → Tells gs (on_no, after, rest) (below between above behind_yes))
    → Tells (test_flaws bounds counts on ++ (fs ++ gs)) (Either on on_yes on_no, after, rest) (behind_tag bounds below counts above bytes tags.Test (operand_text on ++ behind_on))
unfolding behind_tag test_at
test_tells bounds below counts above on bytes behind_on behind_yes fs gs on_yes on_no between after rest fits yes_tells no_tells =
    let tag : List Flaw = test_tag_flaws bounds.limits counts in
    let behind : Counts = counts_with_test counts in
    let row : PartOfRow = (Either on on_yes on_no, after, rest) in
    let read : Result PartOfRow Refusal = at_field bytes (counted_test bounds.limits counts) >>= λ more. test_at bounds below more above (operand_text on ++ behind_on) in
    subst (λ (hs : List Flaw). Tells hs row read) (sym (append_assoc tag (operand_flaws bounds.registers on) (fs ++ gs)))
    (tells_then tag (operand_flaws bounds.registers on ++ (fs ++ gs)) behind row (at_field bytes (counted_test bounds.limits counts))
    (λ more. test_at bounds below more above (operand_text on ++ behind_on))
    (field_tells bytes tag behind) (λ none.
    tells_then (operand_flaws bounds.registers on) (fs ++ gs) (on, behind_on) row (operand_at bounds.registers (operand_text on ++ behind_on))
    (λ o. below behind above o.1 >>= λ y. below y.1 above y.2 >>= λ n. Ok (Either o.0 y.0 n.0, n.1, n.2)) (operand_tells bounds.registers on behind_on fits) (λ none2.
    tells_then fs gs (on_yes, between, behind_yes) row (below behind above behind_on) (λ y. below y.1 above y.2 >>= λ n. Ok (Either on y.0 n.0, n.1, n.2)) (yes_tells none) (λ none3.
    tells_last gs (on_no, after, rest) row (below between above behind_yes) (λ n. Ok (Either on on_yes n.0, n.1, n.2)) (no_tells none) refl))))

row_tells : (bounds : Bounds) (row : CodeRow) (depth : ℕ) (counts : Counts) (above : Above) (rest : List ℕ) → bounds.rows ≤ 2 ^ 32 → RowNumbersFit row → TargetsFit row → room bounds counts < depth
    → Tells (row_flaws bounds counts above row) (row, counts_after row counts, rest) (row_at bounds depth counts above (row_text row ++ rest))
row_tells bounds row zero counts above rest few fits targets deep = absurd (omega arith)
row_tells bounds (Then item next) (suc depth) counts above rest few fits targets deep =
    let tail : List ℕ = row_text next ++ rest in
    let behind : Counts = counts_with_item (is_memory item) counts in
    let below : Above = above_with item above in
    let bytes : List ℕ = fields_text item ++ tail in
    let fs : List Flaw = row_flaws bounds counts above (Then item next) in
    let got : PartOfRow = (Then item next, counts_after next behind, rest) in
    let regrouped : row_text (Then item next) ++ rest ≡ tag_byte (tags.Item (kind_of item)) ∷ bytes = append_assoc (item_text item) (row_text next) rest
    ∙ ap (λ (t : List ℕ). t ++ tail) (item_text_is item) in
    subst (Tells fs got) (sym (ap (row_at bounds (suc depth) counts above) regrouped ∙ at_tag bounds depth counts above (tags.Item (kind_of item)) bytes))
    (item_tells bounds (row_at bounds depth) counts above item (tag_byte (tags.Item (kind_of item)) ∷ bytes) tail (row_flaws bounds behind below next) next
    (counts_after next behind) rest fits.0 (λ none.
    let o = nil_parts (flaw_where (leb bounds.limits.ops counts.ops) flaws.TooManyOps)
    (flaw_where (is_memory item && leb bounds.limits.mem counts.mem) flaws.TooManyMem ++ flaw_where (is_effect item && above.effect) flaws.EffectTwice) none in
    let some : counts.ops < bounds.limits.ops = leb-false _ _ (where_nil (leb bounds.limits.ops counts.ops) flaws.TooManyOps o.0) in
    row_tells bounds next depth behind below rest few fits.1 targets (omega (arith, some))))
row_tells bounds (Either on on_yes on_no) (suc depth) counts above rest few fits targets deep =
    let tail : List ℕ = row_text on_no ++ rest in
    let behind : Counts = counts_with_test counts in
    let between : Counts = counts_after on_yes behind in
    let grown = counts_grow on_yes behind in
    let bytes : List ℕ = operand_text on ++ (row_text on_yes ++ tail) in
    let fs : List Flaw = row_flaws bounds counts above (Either on on_yes on_no) in
    let got : PartOfRow = (Either on on_yes on_no, counts_after on_no between, rest) in
    let regrouped : row_text (Either on on_yes on_no) ++ rest ≡ 0x10 ∷ bytes =
    ap (λ (t : List ℕ). 0x10 ∷ t) (append_assoc (operand_text on) (row_text on_yes ++ row_text on_no) rest
    ∙ ap (λ (t : List ℕ). operand_text on ++ t) (append_assoc (row_text on_yes) (row_text on_no) rest)) in
    let few_tests : test_tag_flaws bounds.limits counts ≡ [] → counts.tests < bounds.limits.tests =
    λ none. leb-false _ _ (where_nil (leb bounds.limits.tests counts.tests) flaws.TooManyTests none) in
    subst (Tells fs got) (sym (ap (row_at bounds (suc depth) counts above) regrouped ∙ at_tag bounds depth counts above tags.Test bytes))
    (test_tells bounds (row_at bounds depth) counts above on (0x10 ∷ bytes) (row_text on_yes ++ tail) tail (row_flaws bounds behind above on_yes)
    (row_flaws bounds between above on_no) on_yes on_no between (counts_after on_no between) rest fits.0
    (λ none. let some = few_tests none in row_tells bounds on_yes depth behind above tail few fits.1 targets.0 (omega (arith, some)))
    (λ none. let some = few_tests none in row_tells bounds on_no depth between above rest few fits.2 targets.1 (omega (arith, some, grown.0, grown.1))))
row_tells bounds (At_leaf leaf) (suc depth) counts above rest few fits targets deep = leaf_tells bounds depth counts above leaf rest few fits targets

rows_tell : (bounds : Bounds) (rows : List CodeRow) (rest : List ℕ) → bounds.rows ≤ 2 ^ 32 → room bounds no_counts < deepest → AllByRecursion RowNumbersFit rows → AllByRecursion TargetsFit rows
    → Tells (flat_map (row_flaws bounds no_counts nothing_above) rows) (rows, rest) (rows_at bounds (length rows) (flat_map row_text rows ++ rest))
unfolding rows_at
rows_tell bounds [] rest few deep fits targets = refl
rows_tell bounds (row ∷ rows) rest few deep fits targets =
    let tail : List ℕ = flat_map row_text rows ++ rest in
    let first : List Flaw = row_flaws bounds no_counts nothing_above row in
    let others : List Flaw = flat_map (row_flaws bounds no_counts nothing_above) rows in
    subst (λ (t : List ℕ). Tells (first ++ others) (row ∷ rows, rest) (rows_at bounds (suc (length rows)) t)) (sym (append_assoc (row_text row) (flat_map row_text rows) rest))
    (tells_then first others (row, counts_after row no_counts, tail) (row ∷ rows, rest) (row_at bounds deepest no_counts nothing_above (row_text row ++ tail))
    (λ r. rows_at bounds (length rows) r.2 >>= λ rs. Ok (r.0 ∷ rs.0, rs.1)) (row_tells bounds row deepest no_counts nothing_above tail few fits.0 targets.0 deep) (λ none.
    tells_last others (rows, rest) (row ∷ rows, rest) (rows_at bounds (length rows) tail) (λ rs. Ok (row ∷ rs.0, rs.1)) (rows_tell bounds rows rest few deep fits.1 targets.1) refl))

-- ---- the whole

has_storage_text : (object : CodeWithNotes) → HasWords object → HasCounts object.code → HasStorageText object.code.registers object.code.arrays object.code.initial
has_storage_text object words counts =
    record { few_registers = counts.registers; lengths = counts.lengths; lists = counts.lists; counts = counts.counts; words = words.initial }

-- the text of a code with flaws is refused for the first
object_stops : (object : CodeWithNotes) → HasWords object → HasCounts object.code → Stops (flaws_of object.code) (object_at (object_text object))
unfolding object_at
object_stops object words counts =
    let code : RowCode = object.code in
    let notes : List ℕ = notes_text object.notes in
    let rows : List ℕ = flat_map row_text code.rows ++ notes in
    let in_rows : List Flaw = flat_map (row_flaws (bounds_of code) no_counts nothing_above) code.rows in
    stops_then (header_flaws code) in_rows (shape_of code, rows) (header_at (header_text code ++ rows))
    (λ header. rows_at (header_bounds header.0) header.0.rows header.1 >>= λ rows. number_at w16 rows.1 >>= λ count. notes_at count.0 count.1 >>= λ notes. end_at notes.1
    >> Ok (record { code = code_with header.0 rows.0; notes = notes.0 }))
    (header_tells code rows (has_storage_text object words counts) counts.few_rows) (λ none.
    let limits = limits_sound code.limits ((nil_parts (limits_flaws code.limits) _ none).0) in
    let deep : room (bounds_of code) no_counts < deepest = omega (arith, limits.ops.1, limits.tests.1) in
    stops_here in_rows (code.rows, notes) (rows_at (bounds_of code) (length code.rows) rows)
    (λ rows. number_at w16 rows.1 >>= λ count. notes_at count.0 count.1 >>= λ notes. end_at notes.1 >> Ok
    (record { code = code_with (shape_of code) rows.0; notes = notes.0 }))
    (rows_tell (bounds_of code) code.rows notes (omega (arith, counts.few_rows)) deep words.rows counts.targets))

-- the flaw that stands first is the one that is told
first_told : {A : Type 0} (fs : List Flaw) (flaw : Flaw) (read : Result A Refusal) → Stops fs read → slice_get fs 0 ≡ Some flaw → Refuses flaw read
first_told [] flaw read stops e = absurd (cc)
first_told (f ∷ fs) flaw read stops e = let same : f ≡ flaw = cc in subst (λ (g : Flaw). Refuses g read) same stops

-- the text of a code that is not well formed is read as a bad field, with the flaw that stands first
pub reads_flawed : (object : CodeWithNotes) (flaw : Flaw) → HasWords object → HasCounts object.code → slice_get (flaws_of object.code) 0 ≡ Some flaw
    → (offset : ℕ) × (object_reading (object_text object) ≡ Err (BadField offset flaw))
unfolding object_reading
reads_flawed object flaw words counts first =
    let text : List ℕ = object_text object in
    let stops = first_told (flaws_of object.code) flaw (object_at text) (object_stops object words counts) first in
    (length text - stops.0, ap (told_of (length text)) stops.1)
