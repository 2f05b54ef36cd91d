-- How many lines a graph has.
use Rattle.std.proofs.Common.{◌≡◌, ℕ, suc, ◌+◌, List, [], ◌∷◌, ◌++◌, length, refl, ap, arith, codes, Option}
use Rattle.std.proofs.Common.{length-append}
use Rattle.std.specs.List.{count_by, sum_by}
use Rattle.std.proofs.lemmas.List.Sums.{sum_by-cons}
use Rattle.std.specs.Prelude.{ℤ}
use Rattle.pc_word.proofs.Lists.{count_both, count_more}
use Rattle.pc_word.specs.Row.{Then, Either, At_leaf, leaves_of}
use Rattle.pc_machine.specs.declared.tree.Leaf.TheVariants.{Goto, Stop, Trap}
use Rattle.pc_machine.specs.MachineCode.{CodeRow}
use Rattle.pc_object.specs.declared.object.Note.{Note}
use Rattle.pc_object.specs.ObjectText.{CodeWithNotes}
use Rattle.pc_view.specs.Tally.{RunTally}
use Rattle.pc_view.specs.Graph.{data_nodes, row_edges, row_graph, note_nodes, graph_lines}
use Rattle.pc_view.specs.Laws.{is_edge, has_words, graph_line_count}

length-data_nodes : (array : ℕ) (initial : List (List ℤ)) → length (data_nodes array initial) ≡ count_by has_words initial
length-data_nodes array [] = refl
length-data_nodes array ([] ∷ initial) = omega (arith, length-data_nodes (suc array) initial, count_more has_words [] initial)
length-data_nodes array ((word ∷ words) ∷ initial) =
    omega (arith, length-data_nodes (suc array) initial, count_more has_words (word ∷ words) initial)

length-row_edges : (told : Option RunTally) (number leaf : ℕ) (port : List ℕ) (row : CodeRow)
    → length (row_edges told number leaf port row) ≡ count_by is_edge (leaves_of row)
length-row_edges told number leaf port (Then item rest) = length-row_edges told number leaf port rest
length-row_edges told number leaf port (Either on on_yes on_no) =
    let later = leaf + length (leaves_of on_yes) in
    omega (
      arith,
      length-append (row_edges told number leaf (port ++ codes "y") on_yes) (row_edges told number later (port ++ codes "n") on_no),
      length-row_edges told number leaf (port ++ codes "y") on_yes,
      length-row_edges told number later (port ++ codes "n") on_no,
      count_both is_edge (leaves_of on_yes) (leaves_of on_no),
    )
length-row_edges told number leaf port (At_leaf (Goto row)) = refl
length-row_edges told number leaf port (At_leaf Stop) = refl
length-row_edges told number leaf port (At_leaf (Trap kind line)) = refl

length-row_graph : (told : Option RunTally) (number : ℕ) (rows : List CodeRow)
    → length (row_graph told number rows) ≡ sum_by (λ row. 1 + count_by is_edge (leaves_of row)) rows
length-row_graph told number [] = refl
length-row_graph told number (row ∷ rest) =
    omega (
      arith,
      length-append (row_edges told number 0 (codes "p") row) (row_graph told (suc number) rest),
      length-row_edges told number 0 (codes "p") row,
      length-row_graph told (suc number) rest,
      sum_by-cons (λ (row : CodeRow). 1 + count_by is_edge (leaves_of row)) row rest,
    )

length-note_nodes : (number : ℕ) (notes : List Note) → length (note_nodes number notes) ≡ length notes
length-note_nodes number [] = refl
length-note_nodes number (note ∷ rest) = ap suc (length-note_nodes (suc number) rest)

pub length-graph_lines : (told : Option RunTally) (object : CodeWithNotes) → length (graph_lines told object) ≡ graph_line_count object
length-graph_lines told object =
    omega (
      arith,
      length-append (data_nodes 0 object.code.initial) (row_graph told 0 object.code.rows ++ (note_nodes 0 object.notes ++ codes "}" ∷ [])),
      length-append (row_graph told 0 object.code.rows) (note_nodes 0 object.notes ++ codes "}" ∷ []),
      length-append (note_nodes 0 object.notes) (codes "}" ∷ []),
      length-data_nodes 0 object.code.initial,
      length-row_graph told 0 object.code.rows,
      length-note_nodes 0 object.notes,
    )
