-- No line of a listing has a line feed in it.
use Rattle.std.proofs.Common.{◌≡◌, ℕ, zero, suc, ◌+◌, ◌/◌, ◌%◌, ◌==◌, Bool, true, false, cond, List, [], ◌∷◌}
use Rattle.std.proofs.Common.{◌++◌, length, map, refl, ◌∙◌, arith, codes, Option, Some, None}
use Rattle.std.specs.Prelude.{ℤ, pos, negsuc, if◌then◌else◌, nat_eq, slice_index_or}
use Rattle.std.proofs.lemmas.Bool.Decides.{nat_tests}
use Rattle.std.specs.List.{AllByRecursion, count_by}
use Rattle.std.specs.Fmt.{decimal, digits, digits_onto, digit_glyph, signed_decimal}
use Rattle.pc_word.proofs.Lists.{count_more, count_both, all_both}
use Rattle.pc_word.specs.Line.{line, is_line_feed}
use Rattle.pc_word.specs.declared.item.OpCode.{OpCode}
use Rattle.pc_word.specs.declared.item.OpCode.TheVariants.{Add, Sub, Mul, Div, Rem, Shl, Shr, And, Or, Xor, Less, LessEq, Equal, Unequal, Below}
use Rattle.pc_word.specs.declared.item.Operand.{Operand}
use Rattle.pc_word.specs.declared.item.Operand.TheVariants.{Name, Lit}
use Rattle.pc_word.specs.declared.item.Item.{Item}
use Rattle.pc_word.specs.declared.item.Item.TheVariants.{Bin, Copy, Load, Store, Print, Read, More}
use Rattle.pc_word.specs.declared.item.TrapKind.{TrapKind}
use Rattle.pc_word.specs.declared.item.TrapKind.TheVariants.{DivideByZero, OutOfBounds, EndOfInput}
use Rattle.pc_word.specs.declared.item.Limits.{Limits}
use Rattle.pc_word.specs.Items.{is_memory}
use Rattle.pc_word.specs.Row.{Then, Either, At_leaf, items_of, tests_of, leaves_of}
use Rattle.pc_machine.specs.declared.tree.Leaf.{Leaf}
use Rattle.pc_machine.specs.declared.tree.Leaf.TheVariants.{Goto, Stop, Trap}
use Rattle.pc_machine.specs.MachineCode.{CodeRow, RowCode}
use Rattle.pc_object.specs.declared.object.Note.{Note}
use Rattle.pc_object.specs.ObjectText.{CodeWithNotes}
use Rattle.pc_report.specs.FaultLine.{trap_text}
use Rattle.pc_report.specs.Report.{choice_text, note_words}
use Rattle.pc_view.specs.Words.{operator_words, operand_words, item_words, test_words, leaf_words}
use Rattle.pc_view.specs.Leading.{rows_leading_to}
use Rattle.pc_view.specs.Tally.{RunTally, cycle_words, taken_words, times_taken}
use Rattle.pc_view.specs.Tree.{tree_lines}
use Rattle.pc_machine.specs.Registers.{few_registers}
use Rattle.pc_view.specs.DataLines.{data_line, data_lines, all_data_lines}
use Rattle.pc_view.specs.Listing.{separator, arrays_from, array_words, register_words, row_numbers_from, leading_words, limit_words, limits_line, count_words}
use Rattle.pc_view.specs.Listing.{heading, row_lines, rows_lines, listing_lines, lines_text}
use Rattle.pc_view.specs.Laws.{line_count}
use Rattle.pc_view.proofs.Lines.{length-listing_lines}

-- a text has no line feed
abbrev pub Unfed : List ℕ → Type 0
Unfed text = count_by is_line_feed text ≡ 0

-- two texts have none together
pub unfed_both : (a b : List ℕ) → Unfed a → Unfed b → Unfed (a ++ b)
unfed_both a b p q = count_both is_line_feed a b ∙ omega (arith, p, q)

-- ---- numbers

unfed_glyph : (digit : ℕ) → is_line_feed (digit_glyph false digit) ≡ false
unfed_glyph digit = grind (arith, nat_tests)

unfed_onto : (fuel n : ℕ) (behind : List ℕ) → Unfed behind → Unfed (digits_onto fuel 10 false n behind)
unfed_onto zero n behind h = h
unfed_onto (suc fuel) n behind h =
    let more : Unfed (digit_glyph false (n % 10) ∷ behind) =
    count_more is_line_feed (digit_glyph false (n % 10)) behind ∙ rw (unfed_glyph (n % 10), h) refl in
    by (n / 10 == 0) _ _ more (unfed_onto fuel (n / 10) (digit_glyph false (n % 10) ∷ behind) more)
  where
    by : (b : Bool) (x y : List ℕ) → Unfed x → Unfed y → Unfed (cond b x y)
    by true x y p q = p
    by false x y p q = q

pub unfed_decimal : (n : ℕ) → Unfed (decimal n)
unfolding digits
unfed_decimal n = unfed_onto 64 n [] refl

pub unfed_signed : (value : ℤ) → Unfed (signed_decimal value)
unfed_signed (pos n) = unfed_decimal n
unfed_signed (negsuc n) = unfed_both (45 ∷ []) (decimal (suc n)) refl (unfed_decimal (suc n))

-- ---- parts of a row

unfed_operator : (op : OpCode) → Unfed (operator_words op)
unfed_operator Add = refl
unfed_operator Sub = refl
unfed_operator Mul = refl
unfed_operator Div = refl
unfed_operator Rem = refl
unfed_operator Shl = refl
unfed_operator Shr = refl
unfed_operator And = refl
unfed_operator Or = refl
unfed_operator Xor = refl
unfed_operator Less = refl
unfed_operator LessEq = refl
unfed_operator Equal = refl
unfed_operator Unequal = refl
unfed_operator Below = refl

unfed_operand : (operand : Operand) → Unfed (operand_words operand)
unfed_operand (Name register) = unfed_both (codes "r") (decimal register) refl (unfed_decimal register)
unfed_operand (Lit value) = unfed_signed value

-- a literal, a number, and what follows
numbered : (front : List ℕ) (n : ℕ) (behind : List ℕ) → Unfed front → Unfed behind → Unfed (front ++ (decimal n ++ behind))
numbered front n behind p q = unfed_both front (decimal n ++ behind) p (unfed_both (decimal n) behind (unfed_decimal n) q)

-- an operand, a literal, and what follows
operated : (operand : Operand) (literal behind : List ℕ) → Unfed literal → Unfed behind → Unfed (operand_words operand ++ (literal ++ behind))
operated operand literal behind p q = unfed_both (operand_words operand) (literal ++ behind) (unfed_operand operand) (unfed_both literal behind p q)

unfed_item : (item : Item) → Unfed (item_words operator_words item)
unfed_item (Bin op dest left right) =
    numbered (codes "r") dest (codes " = " ++ (operand_words left ++ (codes " " ++ (operator_words op ++ (codes " " ++ operand_words right))))) refl
    (unfed_both (codes " = ") (operand_words left ++ (codes " " ++ (operator_words op ++ (codes " " ++ operand_words right)))) refl
    (operated left (codes " ") (operator_words op ++ (codes " " ++ operand_words right)) refl
    (unfed_both (operator_words op) (codes " " ++ operand_words right) (unfed_operator op)
    (unfed_both (codes " ") (operand_words right) refl (unfed_operand right)))))
unfed_item (Copy dest from) =
    numbered (codes "r") dest (codes " = " ++ operand_words from) refl (unfed_both (codes " = ") (operand_words from) refl (unfed_operand from))
unfed_item (Load dest array index) =
    numbered (codes "r") dest (codes " = a" ++ (decimal array ++ (codes "[" ++ (operand_words index ++ codes "]")))) refl
    (numbered (codes " = a") array (codes "[" ++ (operand_words index ++ codes "]")) refl
    (unfed_both (codes "[") (operand_words index ++ codes "]") refl (unfed_both (operand_words index) (codes "]") (unfed_operand index) refl)))
unfed_item (Store array index value) =
    numbered (codes "a") array (codes "[" ++ (operand_words index ++ (codes "] = " ++ operand_words value))) refl
    (unfed_both (codes "[") (operand_words index ++ (codes "] = " ++ operand_words value)) refl
    (operated index (codes "] = ") (operand_words value) refl (unfed_operand value)))
unfed_item (Print value) =
    unfed_both (codes "print(") (operand_words value ++ codes ")") refl (unfed_both (operand_words value) (codes ")") (unfed_operand value) refl)
unfed_item (Read dest) = numbered (codes "r") dest (codes " = read()") refl refl
unfed_item (More dest) = numbered (codes "r") dest (codes " = more()") refl refl

unfed_test : (on : Operand) → Unfed (test_words on)
unfed_test on = unfed_both (codes "if ") (operand_words on) refl (unfed_operand on)

unfed_trap : (kind : TrapKind) → Unfed (trap_text kind)
unfed_trap DivideByZero = refl
unfed_trap OutOfBounds = refl
unfed_trap EndOfInput = refl

unfed_leaf : (leaf : Leaf) → Unfed (leaf_words leaf)
unfed_leaf (Goto row) = unfed_both (codes "goto row ") (decimal row) refl (unfed_decimal row)
unfed_leaf Stop = refl
unfed_leaf (Trap kind line) =
    unfed_both (codes "trap: ") (trap_text kind ++ (codes " at line " ++ decimal line)) refl
    (unfed_both (trap_text kind) (codes " at line " ++ decimal line) (unfed_trap kind)
    (unfed_both (codes " at line ") (decimal line) refl (unfed_decimal line)))

-- ---- lines

unfed_taken : (told : Option RunTally) (number leaf : ℕ) → Unfed (taken_words told number leaf)
unfed_taken None number leaf = refl
unfed_taken (Some tally) number leaf =
    unfed_both (codes "; taken: ") (decimal (times_taken tally number leaf)) refl (unfed_decimal (times_taken tally number leaf))

unfed_tree : (told : Option RunTally) (number leaf : ℕ) (first below : List ℕ) (row : CodeRow) → Unfed first → Unfed below
    → AllByRecursion Unfed (tree_lines told number leaf first below row)
unfed_tree told number leaf first below (Then item rest) p q =
    (unfed_both first (item_words operator_words item) p (unfed_item item), unfed_tree told number leaf below below rest q q)
unfed_tree told number leaf first below (Either on on_yes on_no) p q =
    let later = leaf + length (leaves_of on_yes) in (
      unfed_both first (test_words on) p (unfed_test on),
      all_both Unfed (tree_lines told number leaf (below ++ codes "yes ") (below ++ codes "|   ") on_yes)
          (tree_lines told number later (below ++ codes "no  ") (below ++ codes "    ") on_no)
          (unfed_tree told number leaf (below ++ codes "yes ") (below ++ codes "|   ") on_yes (unfed_both below (codes "yes ") q refl)
          (unfed_both below (codes "|   ") q refl))
          (unfed_tree told number later (below ++ codes "no  ") (below ++ codes "    ") on_no (unfed_both below (codes "no  ") q refl)
          (unfed_both below (codes "    ") q refl)),
    )
unfed_tree told number leaf first below (At_leaf to) p q = (
  unfed_both first (leaf_words to ++ taken_words told number leaf) p
      (unfed_both (leaf_words to) (taken_words told number leaf) (unfed_leaf to) (unfed_taken told number leaf)),
  tt,
)

unfed_separator : (place : ℕ) → Unfed (separator place)
unfed_separator zero = refl
unfed_separator (suc place) = refl

unfed_arrays_from : (number : ℕ) (lengths : List ℕ) → Unfed (arrays_from number lengths)
unfed_arrays_from number [] = refl
unfed_arrays_from number (length ∷ rest) =
    unfed_both (separator number) (codes "a" ++ (decimal number ++ (codes "[" ++ (decimal length ++ (codes "]" ++ arrays_from (suc number) rest)))))
    (unfed_separator number)
    (numbered (codes "a") number (codes "[" ++ (decimal length ++ (codes "]" ++ arrays_from (suc number) rest))) refl
    (numbered (codes "[") length (codes "]" ++ arrays_from (suc number) rest) refl
    (unfed_both (codes "]") (arrays_from (suc number) rest) refl (unfed_arrays_from (suc number) rest))))

unfed_arrays : (lengths : List ℕ) → Unfed (array_words lengths)
unfed_arrays [] = refl
unfed_arrays (length ∷ rest) = unfed_both (codes "; arrays:") (arrays_from 0 (length ∷ rest)) refl (unfed_arrays_from 0 (length ∷ rest))

unfed_row_numbers_from : (place : ℕ) (numbers : List ℕ) → Unfed (row_numbers_from place numbers)
unfed_row_numbers_from place [] = refl
unfed_row_numbers_from place (number ∷ rest) =
    numbered (separator place) number (row_numbers_from (suc place) rest) (unfed_separator place) (unfed_row_numbers_from (suc place) rest)

unfed_leading : (numbers : List ℕ) → Unfed (leading_words numbers)
unfed_leading [] = refl
unfed_leading (number ∷ rest) = unfed_both (codes "; from rows:") (row_numbers_from 0 (number ∷ rest)) refl
    (unfed_row_numbers_from 0 (number ∷ rest))

unfed_limit_words : (limits : Limits) → Unfed (limit_words limits)
unfolding limit_words
unfed_limit_words limits =
    let end = codes " loads and stores" in
    numbered (codes "limits of a row: ") limits.ops
    (codes " items, " ++ (decimal limits.tests ++ (codes " tests, " ++ (decimal limits.mem ++ end)))) refl
    (numbered (codes " items, ") limits.tests (codes " tests, " ++ (decimal limits.mem ++ end)) refl
    (numbered (codes " tests, ") limits.mem end refl refl))

unfed_registers : (registers : ℕ) → Unfed (register_words registers)
unfed_registers registers = by (nat_eq registers few_registers) (codes "; registers: " ++ decimal registers)
    (unfed_both (codes "; registers: ") (decimal registers) refl (unfed_decimal registers))
  where
    by : (b : Bool) (x : List ℕ) → Unfed x → Unfed (if b then [] else x)
    by true x p = refl
    by false x p = p

unfed_limits : (code : RowCode) → Unfed (limits_line code)
unfed_limits code =
    unfed_both (limit_words code.limits) (array_words code.arrays ++ register_words code.registers) (unfed_limit_words code.limits)
    (unfed_both (array_words code.arrays) (register_words code.registers) (unfed_arrays code.arrays) (unfed_registers code.registers))

unfed_data_line : (array place : ℕ) (word : ℤ) → Unfed (data_line array place word)
unfolding data_line
unfed_data_line array place word =
    numbered (codes "    a") array (codes "[" ++ (decimal place ++ (codes "] = " ++ signed_decimal word))) refl
    (numbered (codes "[") place (codes "] = " ++ signed_decimal word) refl (unfed_both (codes "] = ") (signed_decimal word) refl (unfed_signed word)))

unfed_data_lines : (array place : ℕ) (words : List ℤ) → AllByRecursion Unfed (data_lines array place words)
unfed_data_lines array place [] = tt
unfed_data_lines array place (word ∷ words) = (unfed_data_line array place word, unfed_data_lines array (suc place) words)

unfed_all_data : (array : ℕ) (initial : List (List ℤ)) → AllByRecursion Unfed (all_data_lines array initial)
unfed_all_data array [] = tt
unfed_all_data array (words ∷ initial) =
    all_both Unfed (data_lines array 0 words) (all_data_lines (suc array) initial) (unfed_data_lines array 0 words) (unfed_all_data (suc array) initial)

unfed_count_words : (limits : Limits) (number : ℕ) (row : CodeRow) → Unfed (count_words limits number row)
unfolding count_words
unfed_count_words limits number row =
    let items = length (items_of row) in
    let tests = length (tests_of row) in
    let mem = count_by is_memory (items_of row) in
    let end = codes " loads and stores" in
    let mem_end = codes " of " ++ (decimal limits.mem ++ end) in
    let tests_end = codes " of " ++ (decimal limits.tests ++ (codes " tests, " ++ (decimal mem ++ mem_end))) in
    let items_end = codes " of " ++ (decimal limits.ops ++ (codes " items, " ++ (decimal tests ++ tests_end))) in
    numbered (codes "row ") number (codes ": " ++ (decimal items ++ items_end)) refl
    (numbered (codes ": ") items items_end refl
    (numbered (codes " of ") limits.ops (codes " items, " ++ (decimal tests ++ tests_end)) refl
    (numbered (codes " items, ") tests tests_end refl
    (numbered (codes " of ") limits.tests (codes " tests, " ++ (decimal mem ++ mem_end)) refl
    (numbered (codes " tests, ") mem mem_end refl
    (numbered (codes " of ") limits.mem end refl refl))))))

unfed_cycles : (told : Option RunTally) (number : ℕ) → Unfed (cycle_words told number)
unfed_cycles None number = refl
unfed_cycles (Some tally) number =
    unfed_both (codes "; cycles: ") (decimal (slice_index_or tally.rows number 0)) refl (unfed_decimal (slice_index_or tally.rows number 0))

unfed_heading : (told : Option RunTally) (limits : Limits) (number : ℕ) (row : CodeRow) (leading : List ℕ)
    → Unfed (heading told limits number row leading)
unfed_heading told limits number row leading =
    unfed_both (count_words limits number row) (leading_words leading ++ cycle_words told number) (unfed_count_words limits number row)
    (unfed_both (leading_words leading) (cycle_words told number) (unfed_leading leading) (unfed_cycles told number))

unfed_rows_lines : (told : Option RunTally) (code : RowCode) (number : ℕ) (rows : List CodeRow)
    → AllByRecursion Unfed (rows_lines told code number rows)
unfed_rows_lines told code number [] = tt
unfed_rows_lines told code number (row ∷ rest) =
    all_both Unfed (row_lines told code number row) (rows_lines told code (suc number) rest) (
      unfed_heading told code.limits number row (rows_leading_to number 0 code.rows),
      unfed_tree told number 0 (codes "    ") (codes "    ") row refl refl,
    )
    (unfed_rows_lines told code (suc number) rest)

-- ---- notes

-- the text of each choice, and that of none
unfed_choice : (choice : ℕ) → Unfed (choice_text choice)
unfed_choice zero = refl
unfed_choice (suc zero) = refl
unfed_choice (suc (suc zero)) = refl
unfed_choice (suc (suc (suc zero))) = refl
unfed_choice (suc (suc (suc (suc zero)))) = refl
unfed_choice (suc (suc (suc (suc (suc zero))))) = refl
unfed_choice (suc (suc (suc (suc (suc (suc zero)))))) = refl
unfed_choice (suc (suc (suc (suc (suc (suc (suc zero))))))) = refl
unfed_choice (suc (suc (suc (suc (suc (suc (suc (suc more)))))))) = refl

unfed_note : (note : Note) → Unfed (note_words note)
unfed_note note =
    numbered (codes "loop ") note.line
    (codes ": " ++ (choice_text note.choice ++ (codes " " ++ (decimal note.number ++ (codes " of " ++ decimal note.limit))))) refl
    (unfed_both (codes ": ") (choice_text note.choice ++ (codes " " ++ (decimal note.number ++ (codes " of " ++ decimal note.limit)))) refl
    (unfed_both (choice_text note.choice) (codes " " ++ (decimal note.number ++ (codes " of " ++ decimal note.limit))) (unfed_choice note.choice)
    (numbered (codes " ") note.number (codes " of " ++ decimal note.limit) refl
    (unfed_both (codes " of ") (decimal note.limit) refl (unfed_decimal note.limit)))))

unfed_notes : (notes : List Note) → AllByRecursion Unfed (map note_words notes)
unfed_notes [] = tt
unfed_notes (note ∷ notes) = (unfed_note note, unfed_notes notes)

-- ---- the whole

-- lines without line feeds have as many as they are
feeds-lines_text : (lines : List (List ℕ)) → AllByRecursion Unfed lines → count_by is_line_feed (lines_text lines) ≡ length lines
feeds-lines_text [] h = refl
feeds-lines_text (first ∷ rest) h =
    omega (
      arith,
      count_both is_line_feed (line first) (lines_text rest),
      count_both is_line_feed first (10 ∷ []),
      h.0,
      one,
      feeds-lines_text rest h.1,
    )
  where
    one : count_by is_line_feed (10 ∷ []) ≡ 1
    one = refl

pub feeds-listing : (told : Option RunTally) (object : CodeWithNotes) → count_by is_line_feed (lines_text (listing_lines told object)) ≡ line_count object
feeds-listing told object =
    feeds-lines_text (listing_lines told object) (
      unfed_limits object.code,
      all_both Unfed (all_data_lines 0 object.code.initial) (rows_lines told object.code 0 object.code.rows ++ map note_words object.notes)
          (unfed_all_data 0 object.code.initial)
          (all_both Unfed (rows_lines told object.code 0 object.code.rows) (map note_words object.notes)
          (unfed_rows_lines told object.code 0 object.code.rows) (unfed_notes object.notes)),
    )
    ∙ length-listing_lines told object
