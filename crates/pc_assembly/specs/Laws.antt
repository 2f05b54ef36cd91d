-- Laws of the reading: what is printed of an object is read back. Each is a clause of a function of laws.rt, which does nothing.
use Rattle.std.specs.Prelude.{◌≡◌, ℕ, ◌^◌, ◌<◌, ◌≤◌, true, false, List, [], ◌∷◌, ◌++◌, length, map, codes, Some, None, Ok}
use Rattle.std.specs.Fmt.{decimal}
use Rattle.std.specs.List.{prefix_len, AllByRecursion}
use Rattle.pc_word.specs.Row.{Then, Either, At_leaf, tests_of}
use Rattle.pc_word.specs.declared.item.Item.{Item}
use Rattle.pc_word.specs.declared.item.Operand.{Operand}
use Rattle.pc_machine.specs.declared.tree.Leaf.{Leaf}
use Rattle.pc_machine.specs.MachineCode.{CodeRow}
use Rattle.pc_machine.specs.WellFormed.{IsOperand, IsItem, IsLeaf}
use Rattle.pc_object.specs.Numbers.{OperandFits, ItemNumbersFit, LeafFits, HasWords}
use Rattle.pc_object.specs.ObjectText.{CodeWithNotes, IsObject}
use Rattle.pc_view.specs.Words.{operator_words, item_words, test_words, leaf_words}
use Rattle.pc_view.specs.Listing.{listing_text}
use Rattle.pc_view.specs.Tree.{tree_lines}
use Rattle.pc_assembly.specs.declared.part.Part.{Part}
use Rattle.pc_assembly.specs.declared.part.Part.TheVariants as part
use Rattle.pc_assembly.specs.declared.bytes.Class.TheVariants as class
use Rattle.pc_assembly.specs.declared.line.Side.TheVariants as side
use Rattle.pc_assembly.specs.declared.line.Stage.{Stage}
use Rattle.pc_assembly.specs.declared.line.Stage.TheVariants as stage
use Rattle.pc_assembly.specs.declared.line.Content.{Content}
use Rattle.pc_assembly.specs.declared.line.Content.TheVariants as content
use Rattle.pc_assembly.specs.Bytes.{is_in, after_run}
use Rattle.pc_assembly.specs.Words.{is_end}
use Rattle.pc_assembly.specs.Names.{Names, most_row, is_name, row_named, is_named}
use Rattle.pc_assembly.specs.Parts.{goto_at, part_here}
use Rattle.pc_assembly.specs.Lines.{row_line, line_here}
use Rattle.pc_assembly.specs.Object.{listing_reading}

-- ---- which parts have a text in an object

-- a register of a byte, or a word
abbrev pub OperandHasText : Operand → Type 0
OperandHasText operand = IsOperand 256 operand × OperandFits operand

-- its registers and its array are bytes, and its literals words
abbrev pub ItemHasText : Item → Type 0
ItemHasText item = IsItem 256 256 item × ItemNumbersFit item

-- the row that it leads to, or the line of its trap, is below 2^32
abbrev pub LeafHasText : Leaf → Type 0
LeafHasText leaf = IsLeaf (2 ^ 32) leaf × LeafFits leaf

-- an item, a test or a leaf
abbrev pub PartHasText : Part → Type 0
PartHasText (part.Item item) = ItemHasText item
PartHasText (part.Test on) = OperandHasText on
PartHasText (part.Leaf leaf) = LeafHasText leaf

-- ---- parts

-- a part as it is printed
abbrev pub part_words : Part → List ℕ
part_words (part.Item item) = item_words operator_words item
part_words (part.Test on) = test_words on
part_words (part.Leaf leaf) = leaf_words leaf

-- each part is read back, whatever names rows have, and nothing is left
abbrev pub PartsReadBack : Type 0
PartsReadBack = (names : Names) (part : Part) → PartHasText part → part_here names (part_words part) ≡ Ok (part, [])

-- ---- lines

-- Lines that are read one after the other, by what is due before the first of them and after the last: none is empty, and each tells
-- what is said
abbrev pub ReadAs : Names → List ℕ → Stage → List (List ℕ) → List Content → Stage → Type 0
ReadAs names lengths due [] [] after = due ≡ after
ReadAs names lengths due (line ∷ lines) (content ∷ contents) after =
    (next : Stage) × (is_end (after_run class.Indent line) ≡ false)
    × (line_here names lengths due (after_run class.Indent line) ≡ Ok (next, content))
    × ReadAs names lengths next lines contents after
ReadAs names lengths due _ _ after = ⊥

-- ---- rows

-- the parts of a row, in preorder
abbrev pub parts_of : CodeRow → List Part
parts_of (Then item rest) = part.Item item ∷ parts_of rest
parts_of (Either on on_yes on_no) = part.Test on ∷ (parts_of on_yes ++ parts_of on_no)
parts_of (At_leaf leaf) = part.Leaf leaf ∷ []

-- each part of a row has a text in an object
abbrev pub RowHasText : CodeRow → Type 0
RowHasText (Then item rest) = ItemHasText item × RowHasText rest
RowHasText (Either on on_yes on_no) = OperandHasText on × RowHasText on_yes × RowHasText on_no
RowHasText (At_leaf leaf) = LeafHasText leaf

-- the lines of a row's tree are read back as its parts, in preorder, and its end is found: the row with the number `next` is due
abbrev pub RowsReadBack : Type 0
RowsReadBack = (names : Names) (lengths : List ℕ) (number next : ℕ) (row : CodeRow) → RowHasText row → length (tests_of row) ≤ 255
    → ReadAs names lengths (stage.Part side.Neither 0 next) (tree_lines None number 0 (codes "    ") (codes "    ") row)
    (map (λ part. content.Part part) (parts_of row)) (stage.Row next)

-- ---- names

-- a name, as it stands in front of what does not go on with it
abbrev pub IsName : List ℕ → Type 0
IsName name = (is_name name ≡ true) × AllByRecursion (λ byte. is_in class.Name byte ≡ true) name

-- a goto to a name is read as the goto to the number of the row that has it
abbrev pub GotosReadByName : Type 0
GotosReadByName = (names : Names) (name rest : List ℕ) (row : ℕ) → IsName name → prefix_len (is_in class.Name) rest ≡ 0
    → row_named names name ≡ Some row → row < 2 ^ 32
    → goto_at names (codes " " ++ (name ++ rest)) ≡ goto_at names (codes " row " ++ (decimal row ++ rest))

-- the first line of a row by its name, if no row before it has the name, is read as that by its number
abbrev pub RowsReadByName : Type 0
RowsReadByName = (names : Names) (name rest : List ℕ) (due : ℕ) → IsName name → row_named names name ≡ Some due → due ≤ most_row
    → row_line names due (name ++ (codes ":" ++ rest)) ≡ row_line names due (codes "row " ++ (decimal due ++ (codes ":" ++ rest)))

-- a line that gives a name begins a row, wherever it stands in a listing: so only lines that begin rows give names
abbrev pub NamesAreOfRows : Type 0
NamesAreOfRows = (names : Names) (lengths : List ℕ) (due next : Stage) (bytes : List ℕ) (told : Content) → is_named bytes ≡ true
    → line_here names lengths due bytes ≡ Ok (next, told) → told ≡ content.Row

-- ---- the whole

-- the listing of an object that loads is read back as this object
abbrev pub ListingsReadBack : Type 0
ListingsReadBack = (object : CodeWithNotes) → IsObject object → HasWords object → listing_reading (listing_text object) ≡ Ok object
