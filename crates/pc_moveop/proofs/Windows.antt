-- What a move of a window in memory keeps.
use Rattle.std.proofs.Common.{◌≡◌, ℕ, Bool, true, false, List, [], ◌∷◌, Option, Some, None, length, refl, sym, ◌∙◌, ap, subst}
use Rattle.std.specs.Prelude.{◌&&◌, not, if◌then◌else◌, nat_lt}
use Rattle.std.proofs.lemmas.Bool.{ltb-true}
use Rattle.pc_word.specs.declared.item.Item.{Item}
use Rattle.pc_word.specs.declared.item.Limits.{Limits}
use Rattle.pc_word.specs.Items.{dest_of, is_memory}
use Rattle.pc_linear.specs.Form.{Form}
use Rattle.pc_window.specs.declared.window.Window.{Window as StoredWindow}
use Rattle.pc_window.specs.StoredWindow.{tree_in, forms_in, supply_in, window_in}
use Rattle.pc_window.specs.Tree.{Tree, Front}
use Rattle.pc_window.specs.Opening.{Supply}
use Rattle.pc_window.specs.WindowRun.{Window}
use Rattle.pc_window.specs.Filled.{given_supply, IsNext, HasSpace, item_count, memory_count}
use Rattle.pc_window.specs.Steps.{IsProper}
use Rattle.pc_window.proofs.Proper.{proper_fresh}
use Rattle.pc_window.proofs.Readiness.{alike, dest_named}
use Rattle.pc_moveop.specs.NodeTree.{NodeTree, nodes_in, whole_tree, node_front, with_node}
use Rattle.pc_moveop.specs.Climbing.{Mover, mover_at, crosses_test}
use Rattle.pc_moveop.specs.Taking.{landed}
use Rattle.pc_moveop.specs.Refusing.{refusal_of_way, no_room_for, no_room_at, mover_behind, RefusesFound, IsWhyNot}
use Rattle.pc_moveop.specs.Moving.{moved_item, moved_name, coming_of, NodeChanges, SameBounds, HasMoved, WalkKept}
use Rattle.pc_window.specs.Kept.{KeepsWalk}
use Rattle.pc_moveop.specs.declared.error.MoveError.{MoveError}
use Rattle.pc_moveop.specs.declared.error.MoveError.TheVariants.{Full}
use Rattle.pc_moveop.specs.declared.error.RoomKind.TheVariants.{Ops, Mem}
use Rattle.pc_moveop.proofs.Paths.{tree_same, front_same}
use Rattle.pc_moveop.proofs.Legal.{ClearWay, both_none, way_not_refused}
use Rattle.pc_moveop.proofs.Comes.{Enters, enters}
use Rattle.pc_moveop.proofs.Moved.{node_window, StandsNew, RoomAt, window_moves, walk_kept}
use Rattle.pc_word.specs.Naming.{with_dest}

-- ---- a window in memory, by its nodes

pub stored_window : (w : StoredWindow) → node_window (nodes_in w.tree) (supply_in w.names) w.limits w.inside ≡ window_in w
stored_window w = λ i. record { front = front_same w.tree i; forms = forms_in w.names.forms; next = length w.names.forms; next_variable = w.names.next_variable; limits = w.limits; inside = w.inside }

-- what a move keeps
pub record Keeps (w v : StoredWindow) : Type 0 where
  pub proper : IsProper (window_in v)
  pub walk : WalkKept w v

-- where something enters a node, as it may, the window is proper afterwards, with the same walk
pub stored_moves : (w v : StoredWindow) (path : List ℕ) (change : NodeTree → NodeTree) (new : Option ℕ) (comes : Option Item)
    → (changes : NodeChanges (nodes_in w.tree) (nodes_in v.tree) path change) → supply_in v.names ≡ given_supply (supply_in w.names) new comes → SameBounds w v
    → IsProper (window_in w) → IsNext (length w.names.forms) new → RoomAt path w.limits comes (node_front (nodes_in w.tree))
    → ((known : ℕ → Bool) → StandsNew (supply_in w.names) known changes.node → Enters known (forms_in w.names.forms) (given_supply (supply_in w.names) new comes).forms new comes
    (node_front changes.node) (node_front (change changes.node)))
    → Keeps w v
stored_moves w v path change new comes changes names bounds proper next room enters =
    let before = supply_in w.names in
    let t = nodes_in w.tree in
    let n = changes.node in
    let k = window_moves before new comes w.limits w.inside t n (change n) path next changes.at (subst (λ (u : Window). IsProper u) (sym (stored_window w)) proper) room enters in
    let kept = walk_kept (forms_in w.names.forms) (given_supply before new comes).forms new (whole_tree t) (whole_tree (with_node path (change n) t)) k.moves k.is_new k.scoped in
    let to : whole_tree (with_node path (change n) t) ≡ tree_in v.tree = ap whole_tree (sym changes.tree) ∙ tree_same v.tree in
    record {
      proper = subst (λ (u : Window). IsProper u) ((λ i. node_window (sym changes.tree i) (sym names i) (sym bounds.limits i) (sym bounds.inside i)) ∙ stored_window v) k.proper;
      walk = subst (λ (f : ℕ → Form). KeepsWalk (forms_in w.names.forms) (tree_in w.tree) f (tree_in v.tree)) (sym (ap (λ (s : Supply). s.forms) names))
          (subst (λ (u : Tree). KeepsWalk (forms_in w.names.forms) u (given_supply before new comes).forms (tree_in v.tree)) (tree_same w.tree)
          (subst (λ (u : Tree). KeepsWalk (forms_in w.names.forms) (whole_tree t) (given_supply before new comes).forms u) to kept));
    }

-- ---- a move of an item

not_full : (b : Bool) (why : MoveError) (next : Option MoveError) → (if not b then Some why else next) ≡ None → (b ≡ true) × (next ≡ None)
not_full true why next e = (refl, e)
not_full false why next e = absurd (cc)

memory_fits : (a b : Bool) (why : MoveError) → (if a && not b then Some why else None) ≡ None → a ≡ true → b ≡ true
memory_fits a true why e is = refl
memory_fits true false why e is = absurd (cc)
memory_fits false false why e is = absurd (cc)

-- nothing is refused, so there is room
pub space_for : (limits : Limits) (x z : Item) (front : Front) → is_memory z ≡ is_memory x → no_room_for limits x front ≡ None → HasSpace limits (Some z) front
space_for limits x z front same e =
    let a = not_full (nat_lt (item_count front) limits.ops) (Full Ops) _ e in
    (ltb-true (item_count front) limits.ops a.0, λ is. ltb-true (memory_count front) limits.mem (memory_fits (is_memory x) (nat_lt (memory_count front) limits.mem) (Full Mem) a.1 (sym same ∙ is)))

pub room_at : (path : List ℕ) (limits : Limits) (x z : Item) (front : Front) → is_memory z ≡ is_memory x → no_room_at path limits x front ≡ None → RoomAt path limits (Some z) front
room_at [] limits x z front same e = space_for limits x z front same e
room_at (leaf ∷ path) limits x z front same e = tt

moved_memory : (next : ℕ) (m : Mover) → is_memory (moved_item next m) ≡ is_memory m.item
moved_memory next m = by_test (crosses_test m)
  where
    by_test : (b : Bool) → is_memory (if b then with_dest next m.item else m.item) ≡ is_memory m.item
    by_test true = (alike next m.item).memory
    by_test false = refl

moved_next : (next : ℕ) (m : Mover) → IsNext next (moved_name next m)
moved_next next m = by_test (crosses_test m)
  where
    by_test : (b : Bool) → IsNext next (if b then dest_of (with_dest next m.item) else None)
    by_test true = dest_named next m.item (IsNext next) refl tt
    by_test false = tt

-- a move of an item that is not refused keeps all
pub moved : (w v : StoredWindow) (parent : List ℕ) (leaf place : ℕ) → HasMoved w v parent leaf place → IsWhyNot w parent leaf place None → IsProper (window_in w) → Keeps w v
moved w v parent leaf place h why proper =
    let m = h.mover in
    let next = length w.names.forms in
    let n = h.changes.node in
    let found : mover_at leaf place n ≡ Some m = sym (ap (mover_behind leaf place) h.changes.at) ∙ h.is_mover in
    let refuses = subst (λ (o : Option Mover). RefusesFound w parent o None) h.is_mover why in
    let nothing = both_none (refusal_of_way m refuses.conflict) (no_room_at parent w.limits m.item (node_front (nodes_in w.tree))) (sym refuses.is) in
    let clear : ClearWay (forms_in w.names.forms) m.item m.way = way_not_refused (forms_in w.names.forms) m.item m.way refuses.conflict refuses.first nothing.0 in
    stored_moves w v parent (landed (coming_of next m) leaf place) (moved_name next m) (Some (moved_item next m)) h.changes h.names h.bounds proper (moved_next next m)
    (room_at parent w.limits m.item (moved_item next m) (node_front (nodes_in w.tree)) (moved_memory next m) nothing.1)
    (λ known s. enters (supply_in w.names) known leaf place n m found clear s.scoped s.unknown s.free (proper_fresh (window_in w) proper).without)
