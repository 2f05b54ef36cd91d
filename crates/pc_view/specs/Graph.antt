-- An object as a graph in the language DOT: its rows are record nodes, and each leaf that leads to a row an edge.
use Rattle.std.specs.Prelude.{ℕ, suc, ◌+◌, ℤ, List, [], ◌∷◌, ◌++◌, length, codes, Option, Some, None, slice_get, unwrap_or}
use Rattle.std.specs.Fmt.{decimal}
use Rattle.pc_word.specs.declared.item.OpCode.{OpCode}
use Rattle.pc_word.specs.declared.item.OpCode.TheVariants.{Shl, Shr, Or, Less, LessEq}
use Rattle.pc_word.specs.Row.{Then, Either, At_leaf, leaves_of}
use Rattle.pc_machine.specs.declared.tree.Leaf.TheVariants.{Goto, Stop, Trap}
use Rattle.pc_machine.specs.MachineCode.{CodeRow}
use Rattle.pc_object.specs.declared.object.Note.{Note}
use Rattle.pc_object.specs.ObjectText.{CodeWithNotes}
use Rattle.pc_report.specs.Report.{note_words}
use Rattle.pc_view.specs.Words.{operator_words, item_words, test_words, leaf_words}
use Rattle.pc_view.specs.Tally.{RunTally, hundredths_words, row_share, cycle_words, times_taken}
use Rattle.pc_view.specs.Listing.{lines_text}

-- ---- rows

-- an operator in a field of a record, where `<`, `>` and `|` stand after a backslash
abbrev pub field_operator : OpCode → List ℕ
field_operator Shl = codes "\\<\\<"
field_operator Shr = codes "\\>\\>"
field_operator Or = codes "\\|"
field_operator Less = codes "\\<"
field_operator LessEq = codes "\\<="
field_operator op = operator_words op

-- The fields of a tree, from top to bottom; under a test its sides stand beside each other. A leaf's field has a port, whose name
-- says the way to it: `port`, and a `y` or `n` for each test.
abbrev pub row_fields : List ℕ → CodeRow → List ℕ
row_fields port (Then item rest) = item_words field_operator item ++ (codes "|" ++ row_fields port rest)
row_fields port (Either on on_yes on_no) =
    test_words on ++ (codes "|{{yes|" ++ (row_fields (port ++ codes "y") on_yes
    ++ (codes "}|{no|" ++ (row_fields (port ++ codes "n") on_no ++ codes "}}"))))
row_fields port (At_leaf leaf) = codes "<" ++ (port ++ (codes "> " ++ leaf_words leaf))

-- the shade of a row that ran, where it is told: red, and the deeper, the more of the cycles ran it
abbrev pub shade_words : Option RunTally → ℕ → List ℕ
shade_words None number = []
shade_words (Some tally) number = codes "style=filled, fillcolor=\"0.000 " ++ (hundredths_words (row_share tally number) ++ codes " 1.000\", ")

-- the beginning of the node of a row: its number and its shade
unfoldable pub node_start : Option RunTally → ℕ → List ℕ
node_start told number = codes "    " ++ (decimal number ++ (codes " [" ++ shade_words told number))

-- its label up to the fields: its number, and how often it ran, where that is told
unfoldable pub label_start : Option RunTally → ℕ → List ℕ
label_start told number = codes "label=\"{row " ++ (decimal number ++ (cycle_words told number ++ codes "|"))

-- the node of a row
abbrev pub row_node : Option RunTally → ℕ → CodeRow → List ℕ
row_node told number row = node_start told number ++ (label_start told number ++ (row_fields (codes "p") row ++ codes "}\"];"))

-- the label of an edge: how often its leaf was taken, where that is told
abbrev pub edge_label : Option RunTally → (number leaf : ℕ) → List ℕ
edge_label None number leaf = []
edge_label (Some tally) number leaf = codes " [label=\"" ++ (decimal (times_taken tally number leaf) ++ codes "\"]")

-- the edges of the row with this number, or of a tree in it, of whose leaves the first has the number `leaf`: one for each leaf that
-- leads to a row, from the leaf's port
abbrev pub row_edges : Option RunTally → (number leaf : ℕ) → List ℕ → CodeRow → List (List ℕ)
row_edges told number leaf port (Then item rest) = row_edges told number leaf port rest
row_edges told number leaf port (Either on on_yes on_no) =
    row_edges told number leaf (port ++ codes "y") on_yes ++ row_edges told number (leaf + length (leaves_of on_yes)) (port ++ codes "n") on_no
row_edges told number leaf port (At_leaf (Goto row)) =
    (codes "    " ++ (decimal number ++ (codes ":" ++ (port ++ (codes " -> " ++ (decimal row ++ (edge_label told number leaf ++ codes ";"))))))) ∷ []
row_edges told number leaf port (At_leaf Stop) = []
row_edges told number leaf port (At_leaf (Trap kind line)) = []

-- a row: its node and its edges
abbrev pub row_drawn : Option RunTally → ℕ → CodeRow → List (List ℕ)
row_drawn told number row = row_node told number row ∷ row_edges told number 0 (codes "p") row

-- rows, numbered from `number` on
abbrev pub row_graph : Option RunTally → ℕ → List CodeRow → List (List ℕ)
row_graph told number [] = []
row_graph told number (row ∷ rest) = row_drawn told number row ++ row_graph told (suc number) rest

-- ---- data

-- the box of an array with data: with how many words it begins
unfoldable pub data_node : ℕ → ℕ → List ℕ
data_node array count =
    codes "    data" ++ (decimal array ++ (codes " [shape=box, label=\"words of a" ++ (decimal array ++ (codes ": " ++ (decimal count ++ codes "\"];")))))

-- the boxes of arrays, numbered from `array` on: one for each that has data
abbrev pub data_nodes : ℕ → List (List ℤ) → List (List ℕ)
data_nodes array [] = []
data_nodes array ([] ∷ initial) = data_nodes (suc array) initial
data_nodes array ((word ∷ words) ∷ initial) = data_node array (length (word ∷ words)) ∷ data_nodes (suc array) initial

-- ---- notes

-- the colour of a loop for each choice that its note may have, from 0 to 7: one for each form
abbrev pub choice_colours : List (List ℕ)
choice_colours =
    codes "palegreen"
    ∷ codes "khaki" ∷ codes "khaki" ∷ codes "khaki" ∷ codes "khaki"
    ∷ codes "lightsalmon" ∷ codes "lightsalmon" ∷ codes "lightsalmon" ∷ []

-- that of one choice
abbrev pub choice_colour : ℕ → List ℕ
choice_colour choice = unwrap_or (slice_get choice_colours choice) []

-- the beginning of the box of a note: its number and its colour
unfoldable pub note_start : ℕ → List ℕ → List ℕ
note_start number colour =
    codes "    note" ++ (decimal number ++ (codes " [shape=box, style=filled, fillcolor=" ++ (colour ++ codes ", label=\"")))

-- the box of a note
abbrev pub note_node : ℕ → Note → List ℕ
note_node number note = note_start number (choice_colour note.choice) ++ (note_words note ++ codes "\"];")

-- the boxes of notes, numbered from `number` on
abbrev pub note_nodes : ℕ → List Note → List (List ℕ)
note_nodes number [] = []
note_nodes number (note ∷ rest) = note_node number note ∷ note_nodes (suc number) rest

-- ---- the whole

-- the lines of the graph of an object, with how often its rows ran and their leaves were taken, where that is told
abbrev pub graph_lines : Option RunTally → CodeWithNotes → List (List ℕ)
graph_lines told object =
    codes "digraph rows {"
    ∷ (codes "    node [shape=record];"
    ∷ (data_nodes 0 object.code.initial ++ (row_graph told 0 object.code.rows ++ (note_nodes 0 object.notes ++ codes "}" ∷ []))))

-- the text of the graph
abbrev pub graph_text : CodeWithNotes → List ℕ
graph_text object = lines_text (graph_lines None object)

-- that of an object that was run: each row is shaded by its share of the cycles, and tells how often it ran, as each edge tells how often
-- it was taken
abbrev pub tallied_graph_text : RunTally → CodeWithNotes → List ℕ
tallied_graph_text tally object = lines_text (graph_lines (Some tally) object)
