use Rattle.std.proofs.Common.{◌∙◌, ap, sym}
use Rattle.std.specs.Option.{option_copied}
use Rattle.pc_cycles.proofs.OnWays.{few_of_state, advance_of_state, no_advance}
use Rattle.pc_cycles.proofs.chain.advance.Goals as goal

pub advance_at-requires : goal.advance_at-requires
advance_at-requires c = few_of_state c.args.told.now.automaton _ c.state-state.result.now c.requires.few c.state-state.ensures

pub returns-in-Some : goal.returns-in-Some
returns-in-Some c =
    c.advance_at.ensures
    ∙ advance_of_state c.args.told.now.automaton c.args.told.now.rows c.args.transition.state c.args.transition.leaf c.state-state.result.now c.in-Some.row.now
    c.state-state.ensures (sym c.get.ensures.value ∙ ap option_copied c.in-Some.is)

pub returns-in-None : goal.returns-in-None
returns-in-None c =
    sym (no_advance c.args.told.now.rows c.args.transition.state c.args.transition.leaf _ (sym c.get.ensures.value ∙ ap option_copied c.in-None.is))
