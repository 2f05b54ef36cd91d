use Rattle.std.proofs.Common.{◌≡◌, ◌∙◌, ◌+◌, ℕ, suc, length, ap, subst, sym, arith}
use Rattle.std.specs.List.{AllByRecursion}
use Rattle.std.specs.Option.{option_map}
use Rattle.std.specs.Prelude.{slice_get}
use Rattle.pc_word.proofs.Lists.{all_back}
use Rattle.pc_word.specs.Row.{Either, leaves_of}
use Rattle.pc_machine.specs.MachineCode.{CodeRow, row_of}
use Rattle.pc_machine.specs.WellFormed.{IsLeaf}
use Rattle.pc_view.specs.Leading.{leads_to}
use Rattle.pc_view.specs.models.Lists.{noted_where}
use Rattle.pc_view.specs.models.Rows.{row_size}
use Rattle.pc_view.proofs.LeadingRows.{leads_to-Either, noted_where-both, ok_map}
use Rattle.pc_view.proofs.leading.+note_leaves.Goals as goal

-- the no side, after the yes side
pub note_leaves-requires-in-Test-2 : goal.note_leaves-requires-in-Test-2
note_leaves-requires-in-Test-2 t c =
    let one = row_of c.in-Test.yes.value in
    let other = row_of c.in-Test.no.value in
    let is : row_of c.args.row.now ≡ Either c.in-Test.on one other = ap row_of c.in-Test.is in
    let whole : row_size (row_of c.args.row.now) ≡ suc (row_size one + row_size other) = ap row_size is in
    let part : row_size (row_of c.deref-in-Test-2.result.now) ≡ row_size other = ap (λ t. row_size (row_of t)) c.deref-in-Test-2.ensures in
    let leaves : AllByRecursion (IsLeaf (length c.args.lists.now)) (leaves_of other) =
    all_back (IsLeaf (length c.args.lists.now)) (leaves_of one) (leaves_of other)
    (subst (λ (row : CodeRow). AllByRecursion (IsLeaf (length c.args.lists.now)) (leaves_of row)) is c.requires) in (
      omega (arith, c.decreases),
      subst (λ many. AllByRecursion (IsLeaf many) (leaves_of (row_of c.deref-in-Test-2.result.now))) (sym c.note_leaves-in-Test.auto.lists)
          (subst (λ t. AllByRecursion (IsLeaf (length c.args.lists.now)) (leaves_of (row_of t))) (sym c.deref-in-Test-2.ensures) leaves),
    )

-- both sides, one after the other
pub returns-in_ok-note_leaves-in-Test : goal.returns-in_ok-note_leaves-in-Test
returns-in_ok-note_leaves-in-Test t c =
    let one = row_of c.in-Test.yes.value in
    let other = row_of c.in-Test.no.value in
    let is : row_of c.args.row.now ≡ Either c.in-Test.on one other = ap row_of c.in-Test.is in
    let first : (target : ℕ) → slice_get c.note_leaves-in-Test.new.lists target
    ≡ option_map (noted_where (leads_to target one) c.args.number) (slice_get c.args.lists.now target) =
    λ target. c.in_ok-note_leaves-in-Test.ensures target
    ∙ ap (λ t. option_map (noted_where (leads_to target (row_of t)) c.args.number) (slice_get c.args.lists.now target)) c.deref-in-Test.ensures in
    ok_map c.note_leaves-in-Test-2.result (λ second target.
    second target
    ∙ ap (λ t. option_map (noted_where (leads_to target (row_of t)) c.args.number)
    (slice_get c.note_leaves-in-Test.new.lists target)) c.deref-in-Test-2.ensures
    ∙ ap (option_map (noted_where (leads_to target other) c.args.number)) (first target)
    ∙ noted_where-both (leads_to target one) (leads_to target other) c.args.number (slice_get c.args.lists.now target)
    ∙ ap (λ b. option_map (noted_where b c.args.number) (slice_get c.args.lists.now target))
    (sym (leads_to-Either target c.in-Test.on one other) ∙ ap (leads_to target) (sym is))) c.note_leaves-in-Test-2.ensures
