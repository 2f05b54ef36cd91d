-- Laws of the texts, of every object. Each is the contract of a function of laws.rt, which does nothing.
use Rattle.std.specs.Prelude.{◌≡◌, ℕ, ◌+◌, ◌<◌, ◌↔◌, ℤ, Bool, true, false, List, [], ◌∷◌, ◌++◌, length}
use Rattle.std.specs.Prelude.{Contains, Option, Some, slice_get}
use Rattle.std.specs.List.{AllByRecursion, count_by, sum_by}
use Rattle.pc_word.specs.Line.{is_line_feed}
use Rattle.pc_word.specs.Row.{Then, Either, At_leaf, items_of, tests_of, leaves_of}
use Rattle.pc_machine.specs.declared.tree.Leaf.{Leaf}
use Rattle.pc_machine.specs.declared.tree.Leaf.TheVariants.{Goto, Stop, Trap}
use Rattle.pc_machine.specs.MachineCode.{CodeRow}
use Rattle.pc_machine.specs.Reachable.{HasLeafTo}
use Rattle.pc_object.specs.ObjectText.{CodeWithNotes}
use Rattle.pc_view.specs.Words.{operator_words, item_words, test_words, leaf_words}
use Rattle.pc_view.specs.Tally.{RunTally, taken_words}
use Rattle.pc_view.specs.Tree.{tree_lines}
use Rattle.pc_view.specs.Graph.{graph_lines}
use Rattle.pc_view.specs.Leading.{rows_leading_to}
use Rattle.pc_view.specs.Listing.{listing_lines, lines_text}

-- ---- the lines of a tree

-- the words of each item, test and leaf of a row, in preorder, with how often each leaf was taken, where that is told
abbrev pub words_of : Option RunTally → (number leaf : ℕ) → CodeRow → List (List ℕ)
words_of told number leaf (Then item rest) = item_words operator_words item ∷ words_of told number leaf rest
words_of told number leaf (Either on on_yes on_no) = test_words on ∷ (words_of told number leaf on_yes ++ words_of told number (leaf + length (leaves_of on_yes)) on_no)
words_of told number leaf (At_leaf to) = (leaf_words to ++ taken_words told number leaf) ∷ []

-- each line ends with its words
abbrev pub EndWith : List (List ℕ) → List (List ℕ) → Type 0
EndWith [] [] = Unit {0}
EndWith (line ∷ lines) (words ∷ more) = ((front : List ℕ) × (line ≡ front ++ words)) × EndWith lines more
EndWith _ _ = ⊥

-- a tree has one line for each item, test and leaf, in preorder, which ends with its words
abbrev pub TreesShowEachPart : Type 0
TreesShowEachPart = (told : Option RunTally) (number leaf : ℕ) (first below : List ℕ) (row : CodeRow)
    → EndWith (tree_lines told number leaf first below row) (words_of told number leaf row)

-- ---- the lines of an object

-- how many parts a row has: its items, tests and leaves
abbrev pub part_count : CodeRow → ℕ
part_count row = length (items_of row) + (length (tests_of row) + length (leaves_of row))

-- a line for the limits; for each array a line for each of its words; for each row a heading and a line for each part; and a line for each
-- note
abbrev pub line_count : CodeWithNotes → ℕ
line_count object =
    1 + (sum_by length object.code.initial + (sum_by (λ row. 1 + part_count row) object.code.rows + length object.notes))

-- the listing of an object has so many lines
abbrev pub ListingsHaveALineForEachPart : Type 0
ListingsHaveALineForEachPart = (told : Option RunTally) (object : CodeWithNotes) → length (listing_lines told object) ≡ line_count object

-- and as many line feeds, so that no line has one in it
abbrev pub ListingsHaveALineFeedForEachLine : Type 0
ListingsHaveALineFeedForEachLine = (told : Option RunTally) (object : CodeWithNotes) → count_by is_line_feed (lines_text (listing_lines told object)) ≡ line_count object

-- ---- the lines of a graph

-- whether a leaf leads to a row
abbrev pub is_edge : Leaf → Bool
is_edge (Goto row) = true
is_edge Stop = false
is_edge (Trap kind line) = false

-- whether an array has data
abbrev pub has_words : List ℤ → Bool
has_words [] = false
has_words (word ∷ words) = true

-- the graph of an object has two lines at its beginning and one at its end; a box for each array that has data; for each row a node, and
-- an edge for each leaf that leads to a row; and a box for each note
abbrev pub graph_line_count : CodeWithNotes → ℕ
graph_line_count object =
    3 + (count_by has_words object.code.initial + (sum_by (λ row. 1 + count_by is_edge (leaves_of row)) object.code.rows + length object.notes))

-- the graph of an object has so many lines
abbrev pub GraphsHaveALineForEachPart : Type 0
GraphsHaveALineForEachPart = (told : Option RunTally) (object : CodeWithNotes) → length (graph_lines told object) ≡ graph_line_count object

-- ---- the rows that lead to a row

-- the numbers rise
abbrev pub Rise : List ℕ → Type 0
Rise [] = Unit {0}
Rise (number ∷ rest) = AllByRecursion (λ later. number < later) rest × Rise rest

-- the numbers of the rows that lead to a row are those of the rows that have a leaf to it, each once, and they rise
pub record LeadTo (rows : List CodeRow) (target : ℕ) (numbers : List ℕ) : Type 0 where
  pub each : (number : ℕ) → Contains numbers number ↔ ((row : CodeRow) × (slice_get rows number ≡ Some row) × HasLeafTo row target)
  pub rise : Rise numbers

-- so it is of each list of rows that lead to a row
abbrev pub LeadingRowsLead : Type 0
LeadingRowsLead = (rows : List CodeRow) (target : ℕ) → LeadTo rows target (rows_leading_to target 0 rows)
