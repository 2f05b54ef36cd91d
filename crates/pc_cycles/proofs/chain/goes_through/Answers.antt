use Rattle.std.proofs.Common.{◌∙◌, List, ap, sym}
use Rattle.std.specs.Prelude.{Option, slice_get}
use Rattle.pc_automaton.specs.Automaton.{states_in}
use Rattle.pc_told.specs.Tellings.{tellings_in}
use Rattle.pc_waiting.specs.declared.obstacle.Waiting.{Waiting}
use Rattle.pc_cycles.specs.Transitions.{told_items_from}
use Rattle.pc_cycles.specs.Chains.{brings}
use Rattle.pc_cycles.proofs.Chains.{stays, is_brought}
use Rattle.pc_cycles.proofs.chain.goes_through.Goals as goal

pub returns-in-None : goal.returns-in-None
returns-in-None c same =
    stays (told_items_from (slice_get (states_in c.args.told.now.automaton) c.args.transition.state) (slice_get (tellings_in c.args.told.now.rows) c.args.transition.state) c.args.transition.leaf)
    (slice_get c.args.told.now.waiting c.args.transition.state) c.args.from c.args.to c.args.item c.in-None.is (c.is_same.ensures same)

pub returns-then-takes_up : goal.returns-then-takes_up
returns-then-takes_up c brought =
    is_brought
    (told_items_from (slice_get (states_in c.args.told.now.automaton) c.args.transition.state) (slice_get (tellings_in c.args.told.now.rows) c.args.transition.state) c.args.transition.leaf)
    (slice_get c.args.told.now.waiting c.args.transition.state) c.args.from c.args.to c.args.item c.in-Some.number c.in-Some-told_item.it c.in-Some.is
    (sym c.told_item.ensures ∙ c.in-Some-told_item.is) (sym c.takes_up.ensures ∙ c.if-takes_up.true)
    (sym (c.brings.ensures ∙ ap (λ (entries : Option (List Waiting)). brings entries c.in-Some-told_item.it c.args.to) c.get.ensures.value) ∙ brought)
