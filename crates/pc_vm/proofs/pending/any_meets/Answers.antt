use Rattle.std.proofs.Common.{◌∙◌, sym, ap, Some, Option, ℕ, map}
use Rattle.std.specs.List.{list_any}
use Rattle.pc_word.specs.Commit.{meets_at}
use Rattle.pc_vm.specs.models.Planned.{stored_of}
use Rattle.pc_vm.proofs.Lists.{list_any-map, never_meets}
use Rattle.pc_vm.proofs.pending.any_meets.Goals as goal

pub returns-in-Some : goal.returns-in-Some
returns-in-Some c =
    let others = c.args.others.now in
    let array = c.args.store.now.array in
    c.any_at.ensures ∙ sym (list_any-map (meets_at array (Some c.in-Some.place)) stored_of others)
    ∙ ap (λ (place : Option ℕ). list_any (meets_at array place) (map stored_of others)) (sym c.in-Some.is)

pub returns-in-None : goal.returns-in-None
returns-in-None c =
    sym (ap (λ (place : Option ℕ). list_any (meets_at c.args.store.now.array place) (map stored_of c.args.others.now)) c.in-None.is
    ∙ never_meets c.args.store.now.array (map stored_of c.args.others.now))
