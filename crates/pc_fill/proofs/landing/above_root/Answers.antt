use Rattle.std.proofs.Common.{◌≡◌, length, ap, subst}
use Rattle.std.specs.List.{IsFirstAndRest}
use Rattle.std.specs.Option.{MatchOption}
use Rattle.pc_word.specs.Items.{dest_of}
use Rattle.pc_window.specs.Tree.{Issued, Split, Unfinished}
use Rattle.pc_window.specs.declared.tree.WindowTree.{WindowTree}
use Rattle.pc_window.specs.StoredWindow.{tree_in, front_in, NodesBehind}
use Rattle.pc_fill.specs.models.Taking.{taken_out}
use Rattle.pc_fill.specs.models.Way.{taken_along, landed_along}
use Rattle.pc_fill.proofs.Landed.{ok_all, yes_leaf, no_leaf, joined_both, joined_front}
use Rattle.pc_fill.proofs.landing.above_root.Goals as goal

pub above-requires-clause-yes_nodes : goal.above-requires-clause-yes_nodes
above-requires-clause-yes_nodes c =
    let nodes = subst NodesBehind c.in-Test.is c.requires.nodes in
    let turns = subst (λ r. MatchOption r (length c.args.way.now ≡ 0) (λ p. IsFirstAndRest c.args.way.now p.0.now p.1.now)) c.unwrap.ensures c.split_first.ensures.cases in
    yes_leaf c.in-Test.yes.value c.in-Test.no.value nodes.0
    (joined_both c.args.coming c.args.item c.args.twin c.requires.item c.requires.twin (front_in c.args.tree) c.in-Test.tag c.in-Test.origin c.in-Test.on c.in-Test.yes.value c.in-Test.no.value
    (ap front_in c.in-Test.is) c.args.way.now c.requires.joins c.unwrap.result.0.now c.unwrap.result.1.now turns.0)

pub above-requires-clause-no_nodes : goal.above-requires-clause-no_nodes
above-requires-clause-no_nodes c =
    let nodes = subst NodesBehind c.in-Test.is c.requires.nodes in
    let turns = subst (λ r. MatchOption r (length c.args.way.now ≡ 0) (λ p. IsFirstAndRest c.args.way.now p.0.now p.1.now)) c.unwrap.ensures c.split_first.ensures.cases in
    no_leaf c.in-Test.yes.value c.in-Test.no.value nodes.1
    (joined_both c.args.coming c.args.item c.args.twin c.requires.item c.requires.twin (front_in c.args.tree) c.in-Test.tag c.in-Test.origin c.in-Test.on c.in-Test.yes.value c.in-Test.no.value
    (ap front_in c.in-Test.is) c.args.way.now c.requires.joins c.unwrap.result.0.now c.unwrap.result.1.now turns.0)

pub returns-in-Test-clause-front : goal.returns-in-Test-clause-front
returns-in-Test-clause-front c =
    let below = c.unwrap.result.1.now in
    let turns = subst (λ r. MatchOption r (length c.args.way.now ≡ 0) (λ p. IsFirstAndRest c.args.way.now p.0.now p.1.now)) c.unwrap.ensures c.split_first.ensures.cases in
    ok_all (λ (it : WindowTree). front_in it ≡ Issued c.args.coming.tag c.args.coming.origin c.args.item (Split c.in-Test.tag c.in-Test.origin c.in-Test.on
    (Unfinished (taken_along (dest_of c.args.item) (tree_in c.in-Test.yes.value) below c.args.depth)) (Unfinished (taken_out (dest_of c.args.item) (tree_in c.in-Test.no.value) c.args.twin))))
    (λ it. front_in it ≡ landed_along c.args.coming (front_in c.args.tree) c.args.way.now c.args.depth) c.above.result
    (λ it e. joined_front c.args.coming c.args.item c.args.twin c.requires.item c.requires.twin
    (front_in c.args.tree) c.in-Test.tag c.in-Test.origin c.in-Test.on c.in-Test.yes.value c.in-Test.no.value
    (ap front_in c.in-Test.is) c.args.way.now c.requires.joins c.unwrap.result.0.now below turns.0 c.args.depth (front_in it) e) c.above.ensures.front
