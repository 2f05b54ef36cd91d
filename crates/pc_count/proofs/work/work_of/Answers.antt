use Rattle.std.proofs.Common.{◌≡◌, List, ℕ, ap, sym, subst, arith}
use Rattle.pc_word.specs.declared.row_tree.RowTree.{RowTree}
use Rattle.pc_machine.specs.declared.tree.Leaf.{Leaf}
use Rattle.pc_machine.specs.MachineCode.{code_of, rows_of}
use Rattle.pc_count.specs.Counts.{profile_of}
use Rattle.pc_count.specs.models.Bounds.{AreCounted, all_counts}
use Rattle.pc_count.proofs.Profiles.{profile-counted, profile-cycles, profile-leaves, profile-work}
use Rattle.pc_count.proofs.work.work_of.Goals as goal

pub rows_work-requires-clause-counted : goal.rows_work-requires-clause-counted
rows_work-requires-clause-counted c =
    subst (λ (rows : List (RowTree Leaf)). AreCounted (rows_of rows) c.as_slice-2.result.now) (sym c.as_slice.ensures)
    (subst (λ (leaves : List (List ℕ)). AreCounted (rows_of c.args.code.now.rows) leaves) (sym c.as_slice-2.ensures.value)
    (profile-counted (code_of c.args.code.now) (profile_of c.args.profile.now) c.requires))

pub rows_work-requires-clause-few : goal.rows_work-requires-clause-few
rows_work-requires-clause-few c =
    let code = code_of c.args.code.now in
    let profile = profile_of c.args.profile.now in
    let same : all_counts c.as_slice-2.result.now ≡ all_counts profile.leaves = ap all_counts c.as_slice-2.ensures.value in
    omega (arith, same, profile-leaves code profile c.requires, profile-cycles code profile c.requires)

pub returns-clause-bound : goal.returns-clause-bound
returns-clause-bound c =
    let code = code_of c.args.code.now in
    let profile = profile_of c.args.profile.now in
    let same : all_counts c.as_slice-2.result.now ≡ all_counts profile.leaves = ap all_counts c.as_slice-2.ensures.value in
    profile-work code profile c.requires c.rows_work.result (omega (arith, same, c.rows_work.ensures.cycles)) c.rows_work.ensures.bound
