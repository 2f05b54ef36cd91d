-- The explanations of loops as a graph in the language DOT: a cluster for each loop, in it a node for each state of its schedule, which is
-- a table of its row, and an edge from each leaf to where it leads.
use Rattle.std.specs.Prelude.{ℕ, suc, ◌%◌, nat_eq, if◌then◌else◌, List, [], ◌∷◌, ◌++◌, codes, Option, Some, None, slice_get, unwrap_or}
use Rattle.std.specs.List.{flat_map}
use Rattle.std.specs.Fmt.{decimal}
use Rattle.pc_word.specs.declared.item.Item.{Item}
use Rattle.pc_word.specs.declared.item.Item.TheVariants.{Bin}
use Rattle.pc_word.specs.declared.item.OpCode.{OpCode}
use Rattle.pc_word.specs.declared.item.OpCode.TheVariants.{Shl, Shr, And, Less, LessEq}
use Rattle.pc_word.specs.declared.item.Limits.{Limits}
use Rattle.pc_word.specs.declared.item.Operand.{Operand}
use Rattle.pc_word.specs.Row.{Row, Then, Either, At_leaf}
use Rattle.pc_automaton.specs.declared.automaton.AutomatonLeaf.{AutomatonLeaf}
use Rattle.pc_automaton.specs.declared.automaton.AutomatonLeaf.TheVariants.{To, Out, Stop, Trap}
use Rattle.pc_automaton.specs.Automaton.{AutomatonState}
use Rattle.pc_told.specs.Tellings.{Telling, Tells_item, Tells_test, Tells_leaf}
use Rattle.pc_object.specs.declared.object.Note.{Note}
use Rattle.pc_report.specs.FaultLine.{trap_text}
use Rattle.pc_report.specs.Report.{note_words}
use Rattle.pc_view.specs.Words.{operator_words}
use Rattle.pc_view.specs.Listing.{lines_text}
use Rattle.pc_explain.specs.Explained.{LoopSchedule, Explanation}
use Rattle.pc_explain.specs.Words.{operand_words, item_words, test_words, place_words, leaf_words, no_loop_words}
use Rattle.pc_explain.specs.Heading.{heading}
use Rattle.pc_explain.specs.EachState.{StateExplanation, naming_of, explained_states, each_state}
use Rattle.pc_explain.specs.Legends.{SourceLegend}
use Rattle.pc_explain.specs.Naming.{Naming, name_words}

-- ---- cells

-- an operator in a cell, where `<`, `>` and `&` are written by their names
abbrev pub cell_operator : OpCode → List ℕ
cell_operator Shl = codes "&lt;&lt;"
cell_operator Shr = codes "&gt;&gt;"
cell_operator And = codes "&amp;"
cell_operator Less = codes "&lt;"
cell_operator LessEq = codes "&lt;="
cell_operator op = operator_words op

-- an item in a cell
abbrev pub cell_item : Naming → Item → List ℕ
cell_item naming (Bin op dest left right) =
    name_words naming dest ++ (codes " = " ++ (operand_words naming left ++ (codes " " ++ (cell_operator op ++ (codes " " ++ operand_words naming right)))))
cell_item naming item = item_words naming item

-- the colours of iterations, light ones that can be told apart by whoever sees colours otherwise
abbrev pub colours : List (List ℕ)
colours =
    codes "#77aadd" ∷ codes "#ee8866" ∷ codes "#eedd88" ∷ codes "#ffaabb"
    ∷ codes "#99ddff" ∷ codes "#44bb99" ∷ codes "#bbcc33" ∷ codes "#dddddd" ∷ []

-- the colour of an iteration: the ninth has that of the first again
unfoldable pub colour : (iteration : ℕ) → List ℕ
colour iteration = unwrap_or (slice_get colours (iteration % 8)) []

-- ---- tables

-- a line of a table up to its words: `marks`, which draw the tree, and the beginning of a cell in a colour
unfoldable pub coloured_cell : (marks colour : List ℕ) → List ℕ
coloured_cell marks colour = codes "        <tr><td align=\"left\">" ++ (marks ++ (codes "</td><td align=\"left\" bgcolor=\"" ++ (colour ++ codes "\">")))

-- the same with a cell that has a port
unfoldable pub port_cell : (marks port : List ℕ) → List ℕ
port_cell marks port = codes "        <tr><td align=\"left\">" ++ (marks ++ (codes "</td><td align=\"left\" port=\"" ++ (port ++ codes "\">")))

-- the line of an item
unfoldable pub item_line : Naming → (marks : List ℕ) → (iteration : ℕ) → (line : Option ℕ) → Item → List ℕ
item_line naming marks iteration line item =
    coloured_cell marks (colour iteration) ++ (place_words iteration line ++ (codes ": " ++ (cell_item naming item ++ codes "</td></tr>")))

-- the line of a test
unfoldable pub test_line : Naming → (marks : List ℕ) → (iteration : ℕ) → (line : Option ℕ) → Operand → List ℕ
test_line naming marks iteration line on =
    coloured_cell marks (colour iteration) ++ (place_words iteration line ++ (codes ": " ++ (test_words naming on ++ codes "</td></tr>")))

-- the line of a leaf of a loop with this header
unfoldable pub leaf_line : (header : ℕ) → Naming → (marks port : List ℕ) → AutomatonLeaf → (advance : Option ℕ) → List ℕ
leaf_line header naming marks port leaf advance = port_cell marks port ++ (leaf_words header naming leaf advance ++ codes "</td></tr>")

-- The lines of a row with what is told of it, which has the same shape; `first` stands in front of the first, `below` in front of the
-- others, as in a text. A leaf's port says the way to it: `port`, and a `y` or `n` for each test. `header` is that of the loop.
abbrev pub tree_table : (header : ℕ) → Naming → (first below port : List ℕ) → Row AutomatonLeaf → Telling → List (List ℕ)
tree_table header naming first below port (Then item rest) (Tells_item iteration origin what next) =
    item_line naming first iteration (slice_get naming.legend.lines origin) item ∷ tree_table header naming below below port rest next
tree_table header naming first below port (Either on on_yes on_no) (Tells_test iteration origin what one other) =
    test_line naming first iteration (slice_get naming.legend.lines origin) on
    ∷ (tree_table header naming (below ++ codes "yes ") (below ++ codes "|   ") (port ++ codes "y") on_yes one
    ++ tree_table header naming (below ++ codes "no  ") (below ++ codes "    ") (port ++ codes "n") on_no other)
tree_table header naming first below port (At_leaf leaf) (Tells_leaf advance) = leaf_line header naming first port leaf advance ∷ []
tree_table header naming first below port _ _ = []

-- ---- states

-- the name of a state's node, by the number of its loop's cluster and its own
unfoldable pub state_name : (cluster number : ℕ) → List ℕ
state_name cluster number = codes "s" ++ (decimal cluster ++ (codes "_" ++ decimal number))

-- the first line of a state's node
unfoldable pub node_start : (cluster number : ℕ) → List ℕ
node_start cluster number = codes "        " ++ (state_name cluster number ++ codes " [label=<<table border=\"1\" cellborder=\"0\" cellspacing=\"0\">")

-- the beginning of the first cell of its table
unfoldable pub heading_start : List ℕ
heading_start = codes "        <tr><td align=\"left\" colspan=\"2\">"

-- that cell: the state's number, what its row has of what it may have, and the parameters that it takes, as in a text
abbrev pub heading_cell : Limits → Naming → (number : ℕ) → AutomatonState → List ℕ
heading_cell limits naming number state = heading_start ++ (heading limits naming number state ++ codes "</td></tr>")

-- the last line of the node
unfoldable pub table_end : List ℕ
table_end = codes "        </table>>];"

-- the other lines of its table, with the end of the node
abbrev pub row_table : (header : ℕ) → Naming → StateExplanation → List (List ℕ)
row_table header naming it = tree_table header naming [] [] (codes "p") it.state.row it.telling ++ table_end ∷ []

-- the node of a state, whose names are written so
abbrev pub named_node : Limits → (header cluster number : ℕ) → Naming → StateExplanation → List (List ℕ)
named_node limits header cluster number naming it =
    node_start cluster number ∷ (heading_cell limits naming number it.state ∷ row_table header naming it)

-- the node of a state
abbrev pub state_node : Limits → SourceLegend → (header cluster number : ℕ) → StateExplanation → List (List ℕ)
state_node limits legend header cluster number it = named_node limits header cluster number (naming_of legend it) it

-- ---- edges

-- the name of a region's node; where it is the header of the loop itself, that of the loop's first state
unfoldable pub region_name : (header cluster region : ℕ) → List ℕ
region_name header cluster region = if nat_eq region header then state_name cluster 0 else codes "\"region " ++ (decimal region ++ codes "\"")

-- the name of the node to which a leaf of a loop with this header leads: of a state, of a region, of the end, or of a trap
abbrev pub target_name : (header cluster : ℕ) → AutomatonLeaf → List ℕ
target_name header cluster (To state arguments) = state_name cluster state
target_name header cluster (Out region homes) = region_name header cluster region
target_name header cluster Stop = codes "stop"
target_name header cluster (Trap kind line) = codes "\"trap: " ++ (trap_text kind ++ (codes " at line " ++ (decimal line ++ codes "\"")))

-- the label of an edge: the first iteration of which anything is left, if anything is
abbrev pub edge_label : (advance : Option ℕ) → List ℕ
edge_label None = []
edge_label (Some advance) = codes " [label=\"from +" ++ (decimal advance ++ codes "\"]")

-- an edge from a port of a state's node to where a leaf leads
unfoldable pub edge_line : (region cluster number : ℕ) → (port : List ℕ) → AutomatonLeaf → (advance : Option ℕ) → List ℕ
edge_line region cluster number port leaf advance =
    codes "    " ++ (state_name cluster number ++ (codes ":" ++ (port ++ (codes " -> "
    ++ (target_name region cluster leaf ++ (edge_label advance ++ codes ";"))))))

-- the edges of a tree in a state's row: one for each leaf, from its port
abbrev pub row_edges : (region cluster number : ℕ) → (port : List ℕ) → Row AutomatonLeaf → Telling → List (List ℕ)
row_edges region cluster number port (Then item rest) (Tells_item iteration origin what next) = row_edges region cluster number port rest next
row_edges region cluster number port (Either on on_yes on_no) (Tells_test iteration origin what one other) =
    row_edges region cluster number (port ++ codes "y") on_yes one ++ row_edges region cluster number (port ++ codes "n") on_no other
row_edges region cluster number port (At_leaf leaf) (Tells_leaf advance) = edge_line region cluster number port leaf advance ∷ []
row_edges region cluster number port _ _ = []

-- those of the whole row
abbrev pub state_edges : (region cluster number : ℕ) → StateExplanation → List (List ℕ)
state_edges region cluster number it = row_edges region cluster number (codes "p") it.state.row it.telling

-- ---- loops

-- the first line of a loop's cluster: its number
unfoldable pub cluster_start : (cluster : ℕ) → List ℕ
cluster_start cluster = codes "    subgraph cluster_" ++ (decimal cluster ++ codes " {")

-- the beginning of its label: the region
unfoldable pub label_start : (region : ℕ) → List ℕ
label_start region = codes "        label=\"region " ++ decimal region

-- its label: the region, and the note
abbrev pub cluster_label : (region : ℕ) → (notes : List Note) → List ℕ
cluster_label region notes = label_start region ++ (flat_map (λ note. codes ", " ++ note_words note) notes ++ codes "\";")

-- the node of a loop that has no schedule
unfoldable pub plain_node : (cluster : ℕ) → List ℕ
plain_node cluster = codes "        plain" ++ (decimal cluster ++ codes " [label=\"no schedule\"];")

-- the nodes of a loop, one for each state of its schedule; where it has none, one that says so
abbrev pub loop_nodes : Limits → SourceLegend → (region cluster : ℕ) → Option LoopSchedule → List (List ℕ)
loop_nodes limits legend region cluster (Some schedule) = each_state (state_node limits legend region cluster) 0 (explained_states schedule)
loop_nodes limits legend region cluster None = plain_node cluster ∷ []

-- its edges
abbrev pub loop_edges : (region cluster : ℕ) → Option LoopSchedule → List (List ℕ)
loop_edges region cluster (Some schedule) = each_state (state_edges region cluster) 0 (explained_states schedule)
loop_edges region cluster None = []

-- a loop: its cluster, and the edges, which may leave it
abbrev pub loop_graph : Limits → SourceLegend → (cluster : ℕ) → Explanation → List (List ℕ)
loop_graph limits legend cluster it =
    cluster_start cluster
    ∷ (cluster_label it.region it.notes
    ∷ (loop_nodes limits legend it.region cluster it.schedule ++ (codes "    }" ∷ loop_edges it.region cluster it.schedule)))

-- loops, with clusters numbered from `cluster` on
abbrev pub loops_graph : Limits → SourceLegend → (cluster : ℕ) → List Explanation → List (List ℕ)
loops_graph limits legend cluster [] = []
loops_graph limits legend cluster (it ∷ rest) = loop_graph limits legend cluster it ++ loops_graph limits legend (suc cluster) rest

-- the beginning of a label of the graph
unfoldable pub graph_label_start : List ℕ
graph_label_start = codes "    label=\""

-- a label of the graph that says that there is no loop, or none at the line that is asked for
abbrev pub no_loop_line : (asked : Option ℕ) → List ℕ
no_loop_line asked = graph_label_start ++ (no_loop_words asked ++ codes "\";")

-- that label where there is no explanation
abbrev pub no_loop_label : (asked : Option ℕ) → List Explanation → List (List ℕ)
no_loop_label asked [] = no_loop_line asked ∷ []
no_loop_label asked (it ∷ rest) = []

-- ---- the whole

-- the first two lines of the graph
unfoldable pub graph_start : List (List ℕ)
graph_start = codes "digraph schedules {" ∷ codes "    node [shape=plain, fontname=\"monospace\"];" ∷ []

-- the lines of the graph
abbrev pub graph_lines : Limits → SourceLegend → (asked : Option ℕ) → List Explanation → List (List ℕ)
graph_lines limits legend asked explanations =
    graph_start ++ (no_loop_label asked explanations ++ (loops_graph limits legend 0 explanations ++ codes "}" ∷ []))

-- the text of the graph
abbrev pub explanation_graph : Limits → SourceLegend → (asked : Option ℕ) → List Explanation → List ℕ
explanation_graph limits legend asked explanations = lines_text (graph_lines limits legend asked explanations)
