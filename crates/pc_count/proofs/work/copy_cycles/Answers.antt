use Rattle.std.proofs.Common.{◌≡◌, ◌∙◌, List, ℕ, length, ap, sym, arith}
use Rattle.std.proofs.lemmas.List.{length-map}
use Rattle.std.specs.Prelude.{sum}
use Rattle.pc_word.specs.declared.row_tree.RowTree.{RowTree}
use Rattle.pc_machine.specs.declared.tree.Leaf.{Leaf}
use Rattle.pc_machine.specs.MachineCode.{code_of, row_of}
use Rattle.pc_count.specs.Counts.{profile_of}
use Rattle.pc_count.proofs.Profiles.{profile-cycles, profile-each_row, profile-rows}
use Rattle.pc_count.proofs.work.copy_cycles.Goals as goal

pub copy_cycles_of-requires-clause-each : goal.copy_cycles_of-requires-clause-each
copy_cycles_of-requires-clause-each c =
    ap (λ (trees : List (RowTree Leaf)). length trees) c.as_slice.ensures ∙ sym (length-map c.args.code.now.rows row_of)
    ∙ sym (profile-each_row (code_of c.args.code.now) (profile_of c.args.profile.now) c.requires) ∙ sym (ap (λ (xs : List ℕ). length xs) c.as_slice-2.ensures)

pub copy_cycles_of-requires-clause-few : goal.copy_cycles_of-requires-clause-few
copy_cycles_of-requires-clause-few c =
    let code = code_of c.args.code.now in
    let profile = profile_of c.args.profile.now in
    let same : sum c.as_slice-2.result.now ≡ sum profile.rows = ap (λ (xs : List ℕ). sum xs) c.as_slice-2.ensures in
    omega (arith, same, profile-rows code profile c.requires, profile-cycles code profile c.requires)
