-- Texts have as many bytes as is said of them.
use Rattle.std.proofs.Common.{◌≡◌, ℕ, ℤ, ◌+◌, ◌*◌, List, [], ◌∷◌, ◌++◌, length, refl, arith}
use Rattle.std.specs.List.{flat_map, sum_by}
use Rattle.std.proofs.lemmas.List.Sums.{sum_by-cons}
use Rattle.std.proofs.lemmas.List.{length-append}
use Rattle.pc_word.specs.declared.item.Item.{Item}
use Rattle.pc_word.specs.declared.item.Item.TheVariants.{Bin, Copy, Load, Store, Print, Read, More}
use Rattle.pc_word.specs.declared.item.Operand.{Operand}
use Rattle.pc_word.specs.declared.item.Operand.TheVariants.{Name, Lit}
use Rattle.pc_word.specs.Row.{Either}
use Rattle.pc_machine.specs.MachineCode.{CodeRow, RowCode}
use Rattle.pc_object.specs.declared.version.Version.{Version}
use Rattle.pc_object.specs.declared.version.Version.TheVariants.{Ptv1, Ptv2}
use Rattle.pc_object.specs.declared.object.Note.{Note}
use Rattle.pc_object.specs.ObjectText.{u16_text, u32_text, word_text, data_text, version_of, header_text_in, operand_text, item_text, row_text, header_text, note_text, notes_text}
use Rattle.pc_object.specs.Sizes.{operand_bytes, item_bytes, test_bytes, header_bytes, length_bytes, data_bytes, initial_bytes, count_bytes, note_bytes}
use Rattle.pc_object.specs.Laws.{SizesAreLengths}

-- ---- parts of a row

operand_length : (operand : Operand) → length (operand_text operand) ≡ operand_bytes operand
operand_length (Name name) = refl
operand_length (Lit value) = refl

two_lengths : (left right : Operand) → length (operand_text left ++ operand_text right) ≡ operand_bytes left + operand_bytes right
two_lengths left right =
    let both = length-append (operand_text left) (operand_text right) in
    let one = operand_length left in
    let other = operand_length right in
    omega (arith, both, one, other)

item_length : (item : Item) → length (item_text item) ≡ item_bytes item
item_length (Bin op dest left right) = let both = two_lengths left right in omega (arith, both)
item_length (Copy dest from) = let one = operand_length from in omega (arith, one)
item_length (Load dest array index) = let one = operand_length index in omega (arith, one)
item_length (Store array index value) = let both = two_lengths index value in omega (arith, both)
item_length (Print value) = let one = operand_length value in omega (arith, one)
item_length (Read dest) = refl
item_length (More dest) = refl

test_length : (on : Operand) (p q : CodeRow) → length (row_text (Either on p q)) ≡ test_bytes on + (length (row_text p) + length (row_text q))
test_length on p q =
    let whole = length-append (operand_text on) (row_text p ++ row_text q) in
    let sides = length-append (row_text p) (row_text q) in
    let one = operand_length on in
    omega (arith, whole, sides, one)

-- ---- what stands round the rows

lengths_length : (lengths : List ℕ) → length (flat_map u32_text lengths) ≡ length_bytes * length lengths
lengths_length [] = refl
lengths_length (n ∷ lengths) =
    let both = length-append (u32_text n) (flat_map u32_text lengths) in
    let rest = lengths_length lengths in
    omega (arith, both, rest)

words_length : (words : List ℤ) → length (flat_map word_text words) ≡ 4 * length words
words_length [] = refl
words_length (word ∷ words) =
    let both = length-append (word_text word) (flat_map word_text words) in
    let rest = words_length words in
    omega (arith, both, rest)

data_length : (words : List ℤ) → length (data_text words) ≡ data_bytes words
data_length words =
    let both = length-append (u32_text (length words)) (flat_map word_text words) in
    let each = words_length words in
    omega (arith, both, each)

initial_length : (initial : List (List ℤ)) → length (flat_map data_text initial) ≡ sum_by data_bytes initial
initial_length [] = refl
initial_length (words ∷ initial) =
    let both = length-append (data_text words) (flat_map data_text initial) in
    let one = data_length words in
    let rest = initial_length initial in
    let sum = sum_by-cons data_bytes words initial in
    omega (arith, both, one, rest, sum)

header_length : (code : RowCode) → length (header_text code) ≡ header_bytes (version_of code) + length_bytes * length code.arrays + initial_bytes (version_of code) code.initial
header_length code = in_version (version_of code)
  where
    in_version : (version : Version) → length (header_text_in version code) ≡ header_bytes version + length_bytes * length code.arrays + initial_bytes version code.initial
    in_version Ptv1 =
        let both = length-append (flat_map u32_text code.arrays) (u32_text (length code.rows)) in
        let arrays = lengths_length code.arrays in
        omega (arith, both, arrays)
    in_version Ptv2 =
        let all = length-append (u16_text code.registers ++ (flat_map u32_text code.arrays ++ flat_map data_text code.initial)) (u32_text (length code.rows)) in
        let front = length-append (u16_text code.registers) (flat_map u32_text code.arrays ++ flat_map data_text code.initial) in
        let both = length-append (flat_map u32_text code.arrays) (flat_map data_text code.initial) in
        let arrays = lengths_length code.arrays in
        let initial = initial_length code.initial in
        omega (arith, all, front, both, arrays, initial)

each_note : (notes : List Note) → length (flat_map note_text notes) ≡ note_bytes * length notes
each_note [] = refl
each_note (note ∷ notes) =
    let both = length-append (note_text note) (flat_map note_text notes) in
    let rest = each_note notes in
    omega (arith, both, rest)

notes_length : (notes : List Note) → length (notes_text notes) ≡ count_bytes + note_bytes * length notes
notes_length notes = let each = each_note notes in omega (arith, each)

pub sizes_are_lengths : SizesAreLengths
sizes_are_lengths = record {
  operand = operand_length;
  item = item_length;
  test = test_length;
  goto = λ row. refl;
  end = refl;
  trap = λ kind line. refl;
  header = header_length;
  notes = notes_length;
}
