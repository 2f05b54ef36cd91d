-- The object of a table is short: with all regions plain by the graph's nodes, and in the forms that were chosen by what was
-- counted.
use Rattle.std.proofs.Common.{◌≡◌, ℕ, suc, ◌+◌, ◌-◌, ◌*◌, ◌≤◌, List, [], ◌∷◌, ◌++◌, length, length-append, Option, Some, None, refl, ap, arith}
use Rattle.std.specs.Prelude.{ℤ, Bool, true, false, if◌then◌else◌, slice_get, sum}
use Rattle.std.specs.List.{AllByRecursion, flat_map}
use Rattle.std.proofs.lemmas.List.Sums.{sum_by-cons}
use Rattle.pc_word.specs.declared.item.Item.{Item}
use Rattle.pc_word.specs.declared.item.Item.TheVariants.{Bin, Copy, Load, Store, Print, Read, More}
use Rattle.pc_word.specs.declared.item.Operand.{Operand}
use Rattle.pc_word.specs.declared.item.Operand.TheVariants.{Name, Lit}
use Rattle.pc_word.specs.declared.loop_mark.LoopMark.{LoopMark}
use Rattle.pc_word.specs.MachineLimits.{most_elements, most_object}
use Rattle.pc_word.proofs.Lists.{all_both}
use Rattle.pc_table.specs.Table.{TableTree, Does, Asks, Next, Stops_here, Traps_here, TableRegion, Table}
use Rattle.pc_table.specs.TableKeeps.{units}
use Rattle.pc_table.specs.Loops.{is_innermost}
use Rattle.pc_emit.specs.Emitted.{RegionForm}
use Rattle.pc_emit.specs.Bytes.{tree_bytes, regions_bytes, object_bytes}
use Rattle.pc_compile.specs.declared.choice.Form.{Form}
use Rattle.pc_compile.specs.declared.choice.Form.TheVariants as form
use Rattle.pc_compile.specs.declared.choice.Cause.{Cause}
use Rattle.pc_compile.specs.declared.choice.Cause.TheVariants.{Rows, Live, Bytes}
use Rattle.pc_compile.specs.declared.choice.Choice.{Choice}
use Rattle.pc_word.specs.Data.{AreData}
use Rattle.pc_machine.specs.MachineCode.{CodeRow, RowCode}
use Rattle.pc_word.specs.Row.{Then, Either, At_leaf}
use Rattle.pc_object.specs.declared.object.Note.{Note}
use Rattle.pc_object.specs.ObjectText.{CodeWithNotes, operand_text, item_text, leaf_text, row_text, notes_text}
use Rattle.pc_object.specs.declared.version.Version.{Version}
use Rattle.pc_object.specs.declared.version.Version.TheVariants.{Ptv1, Ptv2}
use Rattle.pc_object.specs.ObjectText.{version_of, header_text, object_text, IsChoice}
use Rattle.pc_tighten.specs.Sizes.{Room, row_room, rows_room}
use Rattle.pc_compile.specs.Notes.{caused_note, packed_note, plain_notes, form_notes, choice_notes, choice_heading, loop_notes, notes_from, notes_of}
use Rattle.pc_compile.proofs.Counts.{all_units}
use Rattle.pc_object.proofs.Lengths.{sizes_are_lengths}
use Rattle.pc_object.specs.Sizes.{operand_bytes, item_bytes, header_bytes, length_bytes, data_bytes, initial_bytes}
use Rattle.pc_object.specs.declared.version.Version.{Version}
use Rattle.pc_object.specs.declared.version.Version.TheVariants.{Ptv1, Ptv2}

-- ---- all regions plain

operand_few : (o : Operand) → operand_bytes o ≤ 5
operand_few (Name name) = omega arith
operand_few (Lit value) = omega arith

item_few : (item : Item) → item_bytes item ≤ 13
item_few (Bin op dest left right) = let one = operand_few left in let other = operand_few right in omega (arith, one, other)
item_few (Copy dest from) = let one = operand_few from in omega (arith, one)
item_few (Load dest array index) = let one = operand_few index in omega (arith, one)
item_few (Store array index value) = let one = operand_few index in let other = operand_few value in omega (arith, one, other)
item_few (Print value) = let one = operand_few value in omega (arith, one)
item_few (Read dest) = omega arith
item_few (More dest) = omega arith

-- the row of an item or a test has at most nineteen bytes
tree_few : (tree : TableTree) → tree_bytes tree ≤ 19 * units tree
tree_few (Does origin item rest) = let one = item_few item in let others = tree_few rest in omega (arith, one, others)
tree_few (Asks origin on on_yes on_no) =
    let one = operand_few on in let yes = tree_few on_yes in let no = tree_few on_no in omega (arith, one, yes, no)
tree_few (Next region) = omega arith
tree_few Stops_here = omega arith
tree_few (Traps_here kind line) = omega arith

regions_few : (number : ℕ) (regions : List TableRegion) → regions_bytes (λ region. None) number regions ≤ 6 * length regions + 19 * all_units regions
regions_few number [] = omega arith
regions_few number (region ∷ regions) =
    let one = tree_few region.tree in let others = regions_few (1 + number) regions in omega (arith, one, others)

-- data that fit into their arrays
data_few : (arrays : List ℕ) (initial : List (List ℤ)) → AreData arrays initial → initial_bytes Ptv2 initial ≤ 4 * length arrays + 4 * sum arrays
data_few [] [] fit = omega arith
data_few [] (words ∷ initial) fit = absurd fit
data_few (elements ∷ arrays) [] fit = absurd fit
data_few (elements ∷ arrays) (words ∷ initial) fit =
    let here = fit.0.fits in
    let others = data_few arrays initial fit.1 in
    let bytes = sum_by-cons data_bytes words initial in
    let many = sum_by-cons (λ (n : ℕ). n) elements arrays in
    omega (arith, here, others, bytes, many)

-- a table of so few regions, items, tests, loops and arrays, with data of these
pub plain_is_short : (table : Table) (initial : List (List ℤ)) → length table.regions ≤ 16384 → all_units table.regions ≤ 16384 → length table.loops ≤ 16384
    → length table.arrays ≤ 32 → AreData table.arrays initial → sum table.arrays ≤ most_elements → object_bytes table initial (λ region. None) ≤ most_object
plain_is_short table initial regions units loops arrays fit elements =
    let few = regions_few 0 table.regions in
    let fit_in = data_few table.arrays initial fit in
    omega (arith, few, regions, units, loops, arrays, fit_in, elements)

-- ---- notes

known_of_cause : (line first : ℕ) (cause : Cause) → first ≤ 5 → (caused_note line first cause).choice ≤ 7
known_of_cause line first (Rows number limit) le = omega (arith, le)
known_of_cause line first (Live number limit) le = omega (arith, le)
known_of_cause line first (Bytes number limit) le = omega (arith, le)

known_packed : (line : ℕ) (cause : Option Cause) → (packed_note line cause).choice ≤ 7
known_packed line None = omega arith
known_packed line (Some cause) = known_of_cause line 1 cause (omega arith)

one_plain : (line : ℕ) (cause : Option Cause) → length (plain_notes line cause) ≤ 1
one_plain line None = omega arith
one_plain line (Some cause) = omega arith

known_plain : (line : ℕ) (cause : Option Cause) → AllByRecursion IsChoice (plain_notes line cause)
known_plain line None = tt
known_plain line (Some cause) = (known_of_cause line 5 cause (omega arith), tt)

one_note : (line : ℕ) (kind : Form) (causes : List Cause) → length (form_notes line kind causes) ≤ 1
one_note line (form.Pipelined states rows) causes = omega arith
one_note line form.Packed causes = omega arith
one_note line form.Plain causes = one_plain line (slice_get causes (length causes - 1))

known_note : (line : ℕ) (kind : Form) (causes : List Cause) → AllByRecursion IsChoice (form_notes line kind causes)
known_note line (form.Pipelined states rows) causes = (omega arith, tt)
known_note line form.Packed causes = (known_packed line (slice_get causes 0), tt)
known_note line form.Plain causes = known_plain line (slice_get causes (length causes - 1))

one_of_choice : (line : ℕ) (choice : Option Choice) → length (choice_notes line choice) ≤ 1
one_of_choice line None = omega arith
one_of_choice line (Some choice) = one_note line choice.form choice.causes

known_of_choice : (line : ℕ) (choice : Option Choice) → AllByRecursion IsChoice (choice_notes line choice)
known_of_choice line None = tt
known_of_choice line (Some choice) = known_note line choice.form choice.causes

one_of_loop : (table : Table) (choices : List Choice) (loop : ℕ) (mark : LoopMark) → length (loop_notes table choices loop mark) ≤ 1
one_of_loop table choices loop mark = by (is_innermost table.loops loop) (one_of_choice mark.line (choice_heading table choices loop))
  where
    by : (b : Bool) → length (choice_notes mark.line (choice_heading table choices loop)) ≤ 1
        → length (if b then choice_notes mark.line (choice_heading table choices loop) else []) ≤ 1
    by true h = h
    by false h = omega arith

known_of_loop : (table : Table) (choices : List Choice) (loop : ℕ) (mark : LoopMark) → AllByRecursion IsChoice (loop_notes table choices loop mark)
known_of_loop table choices loop mark = by (is_innermost table.loops loop) (known_of_choice mark.line (choice_heading table choices loop))
  where
    by : (b : Bool) → AllByRecursion IsChoice (choice_notes mark.line (choice_heading table choices loop))
        → AllByRecursion IsChoice (if b then choice_notes mark.line (choice_heading table choices loop) else [])
    by true h = h
    by false h = tt

few_from : (table : Table) (choices : List Choice) (loop : ℕ) (marks : List LoopMark) → length (notes_from table choices loop marks) ≤ length marks
few_from table choices loop [] = omega arith
few_from table choices loop (mark ∷ marks) =
    let both = length-append (loop_notes table choices loop mark) (notes_from table choices (suc loop) marks) in
    let one = one_of_loop table choices loop mark in
    let others = few_from table choices (suc loop) marks in
    omega (arith, both, one, others)

known_from : (table : Table) (choices : List Choice) (loop : ℕ) (marks : List LoopMark) → AllByRecursion IsChoice (notes_from table choices loop marks)
known_from table choices loop [] = tt
known_from table choices loop (mark ∷ marks) =
    all_both IsChoice (loop_notes table choices loop mark) (notes_from table choices (suc loop) marks)
    (known_of_loop table choices loop mark) (known_from table choices (suc loop) marks)

-- there are no more notes than loops
pub few_notes : (table : Table) (choices : List Choice) → length (notes_of table choices) ≤ length table.loops
few_notes table choices = few_from table choices 0 table.loops

-- and each tells a choice that is known
pub known_notes : (table : Table) (choices : List Choice) → AllByRecursion IsChoice (notes_of table choices)
known_notes table choices = known_from table choices 0 table.loops

-- ---- the object

-- the room that the text of a code takes
abbrev pub text_room : Room
text_room = record {
  of_item = λ item. length (item_text item);
  of_test = λ on. 1 + length (operand_text on);
  of_leaf = λ leaf. length (leaf_text leaf);
  alike = λ i j. refl;
}

row_length : (row : CodeRow) → length (row_text row) ≡ row_room text_room row
row_length (Then item rest) = let both = length-append (item_text item) (row_text rest) in let below = row_length rest in omega (arith, both, below)
row_length (Either on on_yes on_no) =
    let all = length-append (operand_text on) (row_text on_yes ++ row_text on_no) in
    let both = length-append (row_text on_yes) (row_text on_no) in
    let yes = row_length on_yes in
    let no = row_length on_no in
    omega (arith, all, both, yes, no)
row_length (At_leaf leaf) = refl

rows_length : (rows : List CodeRow) → length (flat_map row_text rows) ≡ rows_room text_room rows
rows_length [] = refl
rows_length (row ∷ rows) =
    let both = length-append (row_text row) (flat_map row_text rows) in
    let one = row_length row in
    let others = rows_length rows in
    let sum = sum_by-cons (row_room text_room) row rows in
    omega (arith, both, one, others, sum)

-- rows that take no more room have no longer a text
pub no_longer : (rows before : List CodeRow) → rows_room text_room rows ≤ rows_room text_room before
    → length (flat_map row_text rows) ≤ length (flat_map row_text before)
no_longer rows before less = let one = rows_length rows in let other = rows_length before in omega (arith, one, other, less)

-- the header of a code in either version is no longer than in PTV2
header_few : (code : RowCode) → length (header_text code) ≤ 14 + 4 * length code.arrays + initial_bytes Ptv2 code.initial
header_few code = let is = sizes_are_lengths.header code in by (version_of code) is
  where
    by : (version : Version) → length (header_text code) ≡ header_bytes version + length_bytes * length code.arrays + initial_bytes version code.initial
        → length (header_text code) ≤ 14 + 4 * length code.arrays + initial_bytes Ptv2 code.initial
    by Ptv1 is = omega (arith, is)
    by Ptv2 is = omega (arith, is)

-- an object whose rows are no longer than was counted for them
pub object_is_short : (table : Table) (initial : List (List ℤ)) (forms : ℕ → Option RegionForm) (choices : List Choice) (object : CodeWithNotes)
    → object.code.arrays ≡ table.arrays → object.code.initial ≡ initial → object.notes ≡ notes_of table choices
    → length (flat_map row_text object.code.rows) ≤ regions_bytes forms 0 table.regions → object_bytes table initial forms ≤ most_object
    → length (object_text object) ≤ most_object
object_is_short table initial forms choices object same begins noted short counted =
    let code = object.code in
    let rows = code.rows in
    let notes = object.notes in
    let as_many = ap (λ (l : List ℕ). length l) same in
    let as_noted = ap (λ (l : List Note). length l) noted in
    let header = header_few code in
    let begun = ap (initial_bytes Ptv2) begins in
    let told = sizes_are_lengths.notes notes in
    let few = few_notes table choices in
    let all = length-append (header_text code) (flat_map row_text rows ++ notes_text notes) in
    let behind = length-append (flat_map row_text rows) (notes_text notes) in
    omega (arith, short, counted, as_many, as_noted, header, begun, told, few, all, behind)
