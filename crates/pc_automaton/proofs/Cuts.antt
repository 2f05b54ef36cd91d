-- The front of a window as a row.
use Rattle.std.proofs.Common.{◌≡◌, ℕ, List, Option, refl, sym, ◌∙◌, ap}
use Rattle.std.specs.Prelude.{true, IfOk, Result, Ok, Err}
use Rattle.pc_word.specs.declared.item.Limits.{Limits}
use Rattle.pc_word.specs.Row.{Row, Then, Either, At_leaf}
use Rattle.pc_linear.specs.Form.{Form}
use Rattle.pc_table.specs.Table.{Table}
use Rattle.pc_window.specs.declared.tree.WindowTree.{WindowTree}
use Rattle.pc_window.specs.declared.names.NameTable.{NameTable}
use Rattle.pc_window.specs.Tree.{Tree, Pending, Undecided, Exit, Stop_exit, Trap_exit, Front, Issued, Split, Unfinished}
use Rattle.pc_window.specs.WindowRun.{Window, supply_of}
use Rattle.pc_window.specs.Kept.{CutKeeps, Left}
use Rattle.pc_window.specs.Steps.{Cuts, IsProper, left_of, front_row, cut_row, with_tree}
use Rattle.pc_window.specs.StoredWindow.{InNodes, tree_in, supply_in, window_in}
use Rattle.pc_window.proofs.CutRows.{cuts_keep}
use Rattle.pc_window.proofs.LegalRows.{rows_are_legal}
use Rattle.pc_window.proofs.Proper.{cuts_proper}
use Rattle.pc_window.proofs.WindowsStored.{single_window, in_nodes_behind}
use Rattle.pc_word.specs.declared.out_of_memory.OutOfMemory.{OutOfMemory}
use Rattle.pc_word.specs.declared.row_tree.RowTree.{RowTree}
use Rattle.pc_automaton.specs.declared.left.Left.{Left as StoredLeft}
use Rattle.pc_automaton.specs.StoredLeft.{left_in}
use Rattle.pc_automaton.specs.models.Cutting.{bare_window}
use Rattle.pc_word.specs.StoredRow.{row_in}

-- what is left does not depend on the front
left_bare : (table : Table) (w : Window) (tree : Tree) → left_of table (bare_window (supply_of w) w.limits w.inside) tree ≡ left_of table w tree
left_bare table w (Pending tag origin item rest) = refl
left_bare table w (Undecided tag origin on on_yes on_no) = refl
left_bare table w (Exit region tag homes) = refl
left_bare table w Stop_exit = refl
left_bare table w (Trap_exit kind line) = refl

row_bare : (table : Table) (w : Window) (f : Front) → front_row (left_of table (bare_window (supply_of w) w.limits w.inside)) f ≡ front_row (left_of table w) f
row_bare table w (Issued tag origin item rest) = ap (λ (r : Row Left). Then item r) (row_bare table w rest)
row_bare table w (Split tag origin on on_yes on_no) = λ i. Either on (row_bare table w on_yes i) (row_bare table w on_no i)
row_bare table w (Unfinished rest) = ap (λ (l : Left). At_leaf l) (left_bare table w rest)

-- a tree whose nodes are single is a window, its first item or test in front
rest_is : (names : NameTable) (limits : Limits) (inside : Option ℕ) (tree : WindowTree) → InNodes true tree
    → window_in (record { tree = tree; names = names; limits = limits; inside = inside }) ≡ with_tree (bare_window (supply_in names) limits inside) (tree_in tree)
rest_is names limits inside tree single = single_window tree names limits inside (record { tree = tree_in tree; names = supply_in names }) refl single

-- the same with a copy of the names
pub rest_of : (names : NameTable) (forms : List Form) (limits : Limits) (inside : Option ℕ) (tree : WindowTree) → forms ≡ names.forms → InNodes true tree
    → window_in (record { tree = tree; names = record { forms = forms; next_variable = names.next_variable }; limits = limits; inside = inside })
    ≡ with_tree (bare_window (supply_in names) limits inside) (tree_in tree)
rest_of names forms limits inside tree is single =
    ap (λ (fs : List Form). window_in (record { tree = tree; names = record { forms = fs; next_variable = names.next_variable }; limits = limits; inside = inside })) is
    ∙ rest_is names limits inside tree single

pub cut_at_front : (table : Table) (w : Window) (row : Row Left) (f : Front)
    → row ≡ front_row (left_of table (bare_window (supply_of w) w.limits w.inside)) f → w.front ≡ f → cut_row table w f ≡ front_row (left_of table w) f → row ≡ cut_row table w w.front
cut_at_front table w row f is front cut = is ∙ row_bare table w f ∙ sym cut ∙ ap (cut_row table w) (sym front)

pub ruleset cuts = (cut_at_front)

pub ruleset behind = (in_nodes_behind)

-- a cut that is told keeps what a cut keeps
pub keeps_of : (table : Table) (w : Window) (result : Result (RowTree StoredLeft) OutOfMemory) → IfOk result (λ row. Cuts table w (row_in left_in row))
    → IfOk result (λ row. IsProper w → CutKeeps table w (row_in left_in row))
keeps_of table w (Ok row) cut = λ proper. cuts_keep table w (row_in left_in row) cut proper
keeps_of table w (Err error) cut = tt

pub ruleset laws = (cuts_proper, rows_are_legal, keeps_of)
