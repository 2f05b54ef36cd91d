use Rattle.std.proofs.Common.{◌∙◌, List, ap, sym}
use Rattle.std.specs.Prelude.{slice_get}
use Rattle.std.specs.Option.{option_copied}
use Rattle.pc_cycles.specs.declared.told_item.ToldItem.{ToldItem}
use Rattle.pc_cycles.proofs.OnWays.{few_of_state, told_items_of_state, no_told_items}
use Rattle.pc_cycles.proofs.chain.told_item.Goals as goal

pub told_item_at-requires : goal.told_item_at-requires
told_item_at-requires c = few_of_state c.args.told.now.automaton _ c.state-state.result.now c.requires.few c.state-state.ensures

pub returns-in-Some : goal.returns-in-Some
returns-in-Some c =
    c.told_item_at.ensures
    ∙ ap (λ (items : List ToldItem). slice_get items c.args.number)
    (told_items_of_state c.args.told.now.automaton c.args.told.now.rows c.args.transition.state c.args.transition.leaf c.state-state.result.now c.in-Some.row.now
    c.state-state.ensures (sym c.get.ensures.value ∙ ap option_copied c.in-Some.is))

pub returns-in-None : goal.returns-in-None
returns-in-None c =
    sym (ap (λ (items : List ToldItem). slice_get items c.args.number)
    (no_told_items c.args.told.now.rows c.args.transition.state c.args.transition.leaf _ (sym c.get.ensures.value ∙ ap option_copied c.in-None.is)))
