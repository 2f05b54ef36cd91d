use Rattle.std.proofs.Common.{◌∙◌, ◌<◌, ◌^◌, List, length, map, replicate, ap, sym, subst}
use Rattle.std.specs.Prelude.{All}
use Rattle.pc_word.specs.declared.row_tree.RowTree.{RowTree}
use Rattle.pc_word.specs.Row.{leaves_of}
use Rattle.pc_machine.specs.declared.code.Code.{Code}
use Rattle.pc_machine.specs.declared.tree.Leaf.{Leaf}
use Rattle.pc_machine.specs.MachineCode.{row_of}
use Rattle.pc_count.proofs.Profiles.{few_leaves, no_leaves, no_rows}
use Rattle.pc_count.proofs.profile.run_profile.Goals as goal

pub no_leaf_counts-requires : goal.no_leaf_counts-requires
no_leaf_counts-requires c =
    subst (λ (trees : List (RowTree Leaf)). All (λ tree. length (leaves_of (row_of tree)) < 2 ^ 64) trees)
    (sym (c.as_slice.ensures ∙ ap (λ (code : Code). code.rows) c.code-2.ensures.code)) (few_leaves c.args.machine.now.code c.code.ensures.well)

pub run-ending-requires-clause-rows : goal.run-ending-requires-clause-rows
run-ending-requires-clause-rows c =
    c.in_ok-rows.ensures ∙ ap (λ k. replicate k 0) (c.len.ensures ∙ ap (λ (code : Code). length code.rows) c.code.ensures.code) ∙ no_rows c.args.machine.now.code.rows

pub run-ending-requires-clause-leaves : goal.run-ending-requires-clause-leaves
run-ending-requires-clause-leaves c =
    c.as_mut_slice.ensures.value ∙ c.in_ok-leaves.ensures
    ∙ ap (λ (trees : List (RowTree Leaf)). map (λ tree. replicate (length (leaves_of (row_of tree))) 0) trees)
    (c.as_slice.ensures ∙ ap (λ (code : Code). code.rows) c.code-2.ensures.code)
    ∙ no_leaves 0 c.args.machine.now.code.rows
