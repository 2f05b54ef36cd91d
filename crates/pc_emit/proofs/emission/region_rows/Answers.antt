use Rattle.std.proofs.Common.{rules, ◌≡◌, ◌+◌, Some, length, sym, ◌∙◌, ap, refl}
use Rattle.std.proofs.lemmas.Result.{on_ok_weaker}
use Rattle.pc_table.specs.Table.{table_tree}
use Rattle.pc_automaton.specs.Automaton.{states_in}
use Rattle.pc_assign.specs.Stored.{registers_in}
use Rattle.pc_emit.specs.Emitted.{Plain, ByAutomaton}
use Rattle.pc_emit.specs.models.Layout.{forms_at}
use Rattle.pc_emit.proofs.Results.{on_ok_all}
use Rattle.pc_emit.proofs.Regions.{plain_made, plain_rows, plain_short, plain_names, plain_few, packed_site, packed_made}
use Rattle.pc_emit.proofs.emission.region_rows.Goals as goal

pub tree_rows-requires-clause-names : goal.tree_rows-requires-clause-names
tree_rows-requires-clause-names c =
    let has : forms_at c.args.plan.now c.args.region ≡ Some Plain = search rules in
    plain_names c.args.plan.now c.args.region (table_tree c.tree_of.result.now) c.requires.plan has c.tree_of.ensures

pub tree_rows-requires-clause-few : goal.tree_rows-requires-clause-few
tree_rows-requires-clause-few c =
    let has : forms_at c.args.plan.now c.args.region ≡ Some Plain = search rules in
    plain_few c.args.plan.now c.args.region (table_tree c.tree_of.result.now) (length c.args.output.now.rows) c.requires.plan has c.tree_of.ensures c.requires.begins

pub state_rows-requires-clause-site : goal.state_rows-requires-clause-site
state_rows-requires-clause-site c =
    let has : forms_at c.args.plan.now c.args.region ≡ Some (ByAutomaton (states_in c.in-Some-ByAutomaton.automaton) (registers_in c.in-Some-ByAutomaton.registers)) = search rules in
    packed_site c.args.plan.now c.args.region _ refl has c.requires.plan refl

pub returns-in-Some-Plain-clause-count : goal.returns-in-Some-Plain-clause-count
returns-in-Some-Plain-clause-count c =
    let has : forms_at c.args.plan.now c.args.region ≡ Some Plain = search rules in
    let many = plain_rows c.args.plan.now c.args.region (table_tree c.tree_of.result.now) has c.tree_of.ensures in
    on_ok_weaker c.tree_rows.result (λ count. count ∙ ap (λ n. length c.args.output.now.rows + n) (sym many)) c.tree_rows.ensures.count

pub returns-in-Some-Plain-clause-made : goal.returns-in-Some-Plain-clause-made
returns-in-Some-Plain-clause-made c =
    let has : forms_at c.args.plan.now c.args.region ≡ Some Plain = search rules in
    on_ok_weaker c.tree_rows.result
    (plain_made c.args.plan.now c.args.region c.tree_rows.new.output (length c.args.output.now.rows) (table_tree c.tree_of.result.now) has c.tree_of.ensures c.requires.begins)
    c.tree_rows.ensures.made

pub returns-in-Some-Plain-clause-short : goal.returns-in-Some-Plain-clause-short
returns-in-Some-Plain-clause-short c =
    let has : forms_at c.args.plan.now c.args.region ≡ Some Plain = search rules in
    on_ok_all c.tree_rows.result
    (plain_short c.args.plan.now c.args.region c.args.output.now c.tree_rows.new.output (table_tree c.tree_of.result.now) has c.tree_of.ensures)
    c.tree_rows.ensures.copies c.tree_rows.ensures.short

pub returns-in-Some-ByAutomaton-clause-made : goal.returns-in-Some-ByAutomaton-clause-made
returns-in-Some-ByAutomaton-clause-made c =
    let has : forms_at c.args.plan.now c.args.region ≡ Some (ByAutomaton (states_in c.in-Some-ByAutomaton.automaton) (registers_in c.in-Some-ByAutomaton.registers)) = search rules in
    on_ok_weaker c.state_rows.result (packed_made c.args.plan.now c.args.region _ refl has c.state_rows.new.output) c.state_rows.ensures.made
