use Rattle.std.proofs.Common.{◌≡◌, ◌++◌, ◌∙◌, List, ℕ, append-nil, ap, subst, sym}
use Rattle.std.specs.Prelude.{OnOk}
use Rattle.std.specs.Option.{option_copied}
use Rattle.pc_cycles.proofs.OnWays.{few_of_state, origins_of_state, no_origins}
use Rattle.pc_cycles.proofs.along.push_told.Goals as goal

pub push_origins-requires : goal.push_origins-requires
push_origins-requires c = few_of_state c.args.told.now.automaton _ c.state-state.result.now c.requires.few c.state-state.ensures

pub returns-in-Some : goal.returns-in-Some
returns-in-Some c =
    subst (λ (origins : List ℕ). OnOk c.push_origins.result (c.push_origins.new.origins ≡ c.args.origins.now ++ origins))
    (origins_of_state c.args.told.now.automaton c.args.of_items c.args.told.now.rows c.args.transition.state c.args.transition.leaf c.state-state.result.now c.in-Some.row.now
    c.state-state.ensures (sym c.get.ensures.value ∙ ap option_copied c.in-Some.is))
    c.push_origins.ensures

pub returns-in-None : goal.returns-in-None
returns-in-None c =
    let none = no_origins c.args.of_items c.args.told.now.rows c.args.transition.state c.args.transition.leaf _ (sym c.get.ensures.value ∙ ap option_copied c.in-None.is) in
    sym (ap (λ (origins : List ℕ). c.args.origins.now ++ origins) none ∙ append-nil c.args.origins.now)
