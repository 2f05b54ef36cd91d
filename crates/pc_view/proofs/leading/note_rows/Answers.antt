use Rattle.std.proofs.Common.{◌≡◌, ◌∙◌, ◌++◌, ◌∷◌, [], ◌<◌, List, ℕ, length, take, get_or, ◌+◌, ap, arith}
use Rattle.std.proofs.Common.{subst, sym}
use Rattle.std.proofs.lemmas.List.{length-map, length-take, map-append, take_more}
use Rattle.pc_word.specs.declared.row_tree.RowTree.{RowTree}
use Rattle.pc_machine.specs.declared.tree.Leaf.{Leaf}
use Rattle.pc_machine.specs.MachineCode.{CodeRow, row_of, rows_of}
use Rattle.pc_view.specs.models.Lists.{AreLists}
use Rattle.pc_view.proofs.LeadingRows.{lists-next}
use Rattle.pc_view.proofs.leading.note_rows.Goals as goal

-- one row more
rows_more : (trees : List (RowTree Leaf)) (i : ℕ) (tree : RowTree Leaf) → i < length trees → tree ≡ get_or trees i tree
    → rows_of (take i trees) ++ row_of tree ∷ [] ≡ rows_of (take (i + 1) trees)
rows_more trees i tree h is =
    sym (ap rows_of (take_more trees i tree h) ∙ map-append row_of (take i trees) (get_or trees i tree ∷ [])
    ∙ ap (λ (t : RowTree Leaf). rows_of (take i trees) ++ row_of t ∷ []) (sym is))

length-so_far : (trees : List (RowTree Leaf)) (i : ℕ) → i < length trees → i ≡ length (rows_of (take i trees))
length-so_far trees i h = omega (arith, length-map (take i trees) row_of, length-take i trees)

pub loop-number-preserved : goal.loop-number-preserved
loop-number-preserved c =
    let i = c.loop-number.number in
    let h : i < length c.args.rows.now = omega arith in
    subst (λ (rows : List CodeRow). AreLists (length c.args.rows.now) rows c.note_leaves.new.lists)
    (rows_more c.args.rows.now i c.index-rows-number.result h c.index-rows-number.is)
    (lists-next (length c.args.rows.now) i (rows_of (take i c.args.rows.now))
    (row_of c.index-rows-number.result) c.loop-number.lists c.note_leaves.new.lists
    c.loop-number.invariant (length-so_far c.args.rows.now i h) c.note_leaves.auto.lists c.in_ok-note_leaves.ensures)
