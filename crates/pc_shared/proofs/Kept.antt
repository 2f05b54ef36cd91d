-- A tree that was kept, node by node.
use Rattle.std.proofs.Common.{◌≡◌, ℕ, suc, ◌+◌, List, Option, Some, IsSome, refl, ap, sym, subst, ◌∙◌, arith}
use Rattle.pc_word.specs.declared.item.Item.{Item}
use Rattle.pc_word.specs.declared.item.Operand.{Operand}
use Rattle.pc_word.specs.declared.item.TrapKind.{TrapKind}
use Rattle.pc_window.specs.declared.home.Home.{Home}
use Rattle.pc_arena.specs.Held.{value_at, Holds}
use Rattle.pc_shared.specs.declared.node.SharedNode.{SharedNode}
use Rattle.pc_shared.specs.declared.node.SharedNode.TheVariants as shared
use Rattle.pc_shared.specs.declared.store.Store.{Store}
use Rattle.pc_shared.specs.NodeTree.{NodeTree, Doing, Asking, Leading, Leaving, Ending, Trapping}
use Rattle.pc_shared.specs.Unfolding.{listed_homes, node_tree, tree_at, NodeStands, Stands, KeepsTrees, Extends, Becomes}
use Rattle.pc_shared.proofs.Standing.{node_is}
use Rattle.pc_shared.proofs.Carrying.{deeper, keeps_both}
use Rattle.pc_shared.proofs.Growing.{extends_keeps}

-- a number with a node, whose tree is known
with_node : (old new : Store) (most id : ℕ) (node : SharedNode) (tree : NodeTree) → KeepsTrees old new
    → value_at new.nodes id ≡ Some node → NodeStands new (Some node) (Stands most new)
    → node_tree new (Some node) (tree_at most new) ≡ tree → Becomes old new (suc most) id tree
with_node old new most id node tree keeps is stands made =
    let r = node_is new most id (Some node) tree is (stands, made) in
    record { keeps = keeps; stands = r.0; is = r.1 }

pub kept_step : (old mid new : Store) (most id tag origin : ℕ) (item : Item) (rest : ℕ) (tree : NodeTree) → Becomes old mid most rest tree
    → Extends mid new → value_at new.nodes id ≡ Some (shared.Step tag origin item rest)
    → Becomes old new (suc most) id (Doing tag origin item tree)
kept_step old mid new most id tag origin item rest tree below more is =
    let later = extends_keeps mid new more in
    let r = later.same most rest below.stands in
    with_node old new most id _ _ (keeps_both old mid new below.keeps later) is r.0 (ap (Doing tag origin item) (r.1 ∙ below.is))

pub kept_node : (old mid new : Store) (most id below : ℕ) (tree : NodeTree) → Becomes old mid most below tree → Extends mid new
    → value_at new.nodes id ≡ Some (shared.Node below) → Becomes old new (suc most) id (Leading tree)
kept_node old mid new most id below tree it more is =
    let later = extends_keeps mid new more in
    let r = later.same most below it.stands in
    with_node old new most id _ _ (keeps_both old mid new it.keeps later) is r.0 (ap Leading (r.1 ∙ it.is))

raised : (store : Store) (more most deep id : ℕ) (tree : NodeTree) → more + most ≡ deep → Stands most store id
    → tree_at most store id ≡ tree → Stands deep store id × (tree_at deep store id ≡ tree)
raised store more most deep id tree same stands is =
    let r = deeper store more most id stands in
    (subst (λ (d : ℕ). Stands d store id) same r.0, sym (ap (λ (d : ℕ). tree_at d store id) same) ∙ r.1 ∙ is)

pub kept_test : (old one two new : Store) (a b id tag origin : ℕ) (on : Operand) (on_yes on_no : ℕ) (yes_tree no_tree : NodeTree)
    → Becomes old one a on_yes yes_tree → Becomes one two b on_no no_tree → Extends two new
    → value_at new.nodes id ≡ Some (shared.Test tag origin on on_yes on_no)
    → Becomes old new (suc (a + b)) id (Asking tag origin on yes_tree no_tree)
kept_test old one two new a b id tag origin on on_yes on_no yes_tree no_tree first second more is =
    let later = extends_keeps two new more in
    let from_one = keeps_both one two new second.keeps later in
    let yes_kept = from_one.same a on_yes first.stands in
    let no_kept = later.same b on_no second.stands in
    let y = raised new b a (a + b) on_yes yes_tree (omega arith) yes_kept.0 (yes_kept.1 ∙ first.is) in
    let n = raised new a b (a + b) on_no no_tree refl no_kept.0 (no_kept.1 ∙ second.is) in
    with_node old new (a + b) id _ _ (keeps_both old one new first.keeps from_one) is (y.0, n.0)
    (ap (λ (t : NodeTree). Asking tag origin on t (tree_at (a + b) new on_no)) y.1 ∙ ap (Asking tag origin on yes_tree) n.1)

pub kept_exit : (old mid new : Store) (id region tag listed : ℕ) (list : List Home) → Extends old mid
    → value_at mid.homes listed ≡ Some list → Extends mid new → value_at new.nodes id ≡ Some (shared.Exit region tag listed)
    → Becomes old new 1 id (Leaving region tag list)
kept_exit old mid new id region tag listed list first there more is =
    let in_mid : Holds mid.homes listed = subst IsSome (sym there) refl in
    let now_there : value_at new.homes listed ≡ Some list = more.same_homes listed in_mid ∙ there in
    with_node old new 0 id _ _ (keeps_both old mid new (extends_keeps old mid first) (extends_keeps mid new more)) is
    (subst IsSome (sym now_there) refl) (ap (λ (l : Option (List Home)). Leaving region tag (listed_homes l)) now_there)

pub kept_stop : (old new : Store) (id : ℕ) → Extends old new → value_at new.nodes id ≡ Some shared.Stop → Becomes old new 1 id Ending
kept_stop old new id more is = with_node old new 0 id _ _ (extends_keeps old new more) is tt refl

pub kept_trap : (old new : Store) (id : ℕ) (kind : TrapKind) (line : ℕ) → Extends old new
    → value_at new.nodes id ≡ Some (shared.Trap kind line) → Becomes old new 1 id (Trapping kind line)
kept_trap old new id kind line more is = with_node old new 0 id _ _ (extends_keeps old new more) is tt refl

pub ruleset kept = (kept_step, kept_node, kept_test, kept_exit, kept_stop, kept_trap)
