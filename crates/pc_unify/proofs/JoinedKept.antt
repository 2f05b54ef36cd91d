-- Two items that become one keep their window proper, and its walk.
use Rattle.std.proofs.Common.{◌≡◌, ℕ, ◌+◌, Bool, false, List, [], ◌∷◌, Option, Some, None, length, refl, sym, ◌∙◌, ap, subst}
use Rattle.std.specs.List.{AllByRecursion}
use Rattle.pc_word.specs.declared.item.Item.{Item}
use Rattle.pc_word.specs.declared.item.Limits.{Limits}
use Rattle.pc_word.specs.declared.item.Operand.{Operand}
use Rattle.pc_word.specs.Items.{dest_of}
use Rattle.pc_linear.specs.Form.{Form}
use Rattle.pc_window.specs.declared.window.Window.{Window as StoredWindow}
use Rattle.pc_window.specs.StoredWindow.{tree_in, forms_in, supply_in, window_in}
use Rattle.pc_window.specs.Tree.{Tree, whole}
use Rattle.pc_window.specs.Names.{IsKnown, IsNew, Scoped, Unwritten, uses}
use Rattle.pc_window.specs.Opening.{Supply, TreeBelow, FormsBelow}
use Rattle.pc_window.specs.WindowRun.{Window}
use Rattle.pc_window.specs.Filled.{given_supply, IsNext, HasSpace, IsWindow, WithinLimits, Independent}
use Rattle.pc_window.specs.Jump.{EntersFront}
use Rattle.pc_window.specs.Move.{Moves, Into_node}
use Rattle.pc_window.specs.Steps.{IsProper}
use Rattle.pc_window.proofs.Fronts.{SameKnownForms, independent_entered, within_entered}
use Rattle.pc_window.proofs.Moving.{scoped_moved}
use Rattle.pc_window.proofs.Parameters.{scoped_parameters, independent_parameters}
use Rattle.pc_window.proofs.Proper.{given_next, proper_fresh}
use Rattle.pc_window.proofs.Readiness.{alike, dest_named}
use Rattle.pc_moveop.specs.NodeTree.{NodeTree, nodes_in, whole_tree, node_front, node_at, with_node}
use Rattle.pc_moveop.specs.Climbing.{Mover, mover_at}
use Rattle.pc_moveop.specs.Taking.{Coming}
use Rattle.pc_moveop.specs.Refusing.{refusal_of_way, no_room_at, mover_behind, mover_of, RefusesFound, RefusesMover, IsWhyNot}
use Rattle.pc_window.specs.Kept.{KeepsWalk}
use Rattle.pc_moveop.specs.declared.error.MoveError.{MoveError}
use Rattle.pc_moveop.proofs.Fronts.{front_changed, same_counts, same_independent}
use Rattle.pc_moveop.proofs.Known.{IsKnownMover, known_at}
use Rattle.pc_moveop.proofs.Legal.{ClearWay, both_none, way_not_refused}
use Rattle.pc_moveop.proofs.Moved.{node_window, StandsNew, Goes, RoomAt, WindowMoves, node_goes, same_forms, walk_kept}
use Rattle.pc_moveop.proofs.Paths.{tree_same, whole_front}
use Rattle.pc_moveop.proofs.Windows.{Keeps, stored_window, room_at}
use Rattle.pc_unify.specs.Unifying.{AreTwins, TwinsBehind, AreThere, IsWhyNotUnify, Not_there, As_on_yes, As_on_no, joined, joint_of, joint_item, HaveJoined}
use Rattle.pc_unify.proofs.EnteringOnce.{EnterOnce, enter_once}
use Rattle.pc_unify.proofs.Retagged.{stays_new}
use Rattle.pc_unify.proofs.TwoSides.{sides_told}
use Rattle.pc_word.specs.Naming.{with_dest}
use Rattle.pc_moveop.proofs.Comes.{gives_named}

-- ---- what enters a node moves the window, whatever its tags

module _ (names : Supply) (new : Option ℕ) (comes : Option Item) (limits : Limits) (inside : Option ℕ) (t n n' : NodeTree) where
  -- it enters the node, where these names are known
  abbrev pub EntersNode : (ℕ → Bool) → Type 0
  EntersNode known = EntersFront known names.forms (given_supply names new comes).forms new comes (node_front n) (node_front n')

  node_moves : IsNext names.next new → FormsBelow names → (known : ℕ → Bool) → StandsNew names known n → EntersNode known → Goes names (given_supply names new comes) new known n n'
  node_moves next forms_below known h enters =
      let after = given_supply names new comes in
      let stays = stays_new names new comes known (node_front n) (node_front n') next enters forms_below (subst (TreeBelow names.next) (sym (whole_front n)) h.below) in
      record {
        moves = subst (λ (u : Tree). Moves names.forms after.forms new known u (whole_tree n')) (whole_front n)
            (subst (λ (u : Tree). Moves names.forms after.forms new known (whole (node_front n)) u) (whole_front n') (Into_node known comes (node_front n) (node_front n') enters));
        below = subst (TreeBelow after.next) (whole_front n') stays.0;
        forms_below = stays.1;
      }

  -- the front stays within its limits, and does not hang on itself
  front_kept : (path : List ℕ) → node_at path t ≡ Some n → IsWindow (uses (whole (node_front t))) (node_window t names limits inside) → RoomAt path limits comes (node_front t)
      → SameKnownForms (uses (whole (node_front t))) names.forms (given_supply names new comes).forms → (path ≡ [] → EntersNode (uses (whole (node_front t))))
      → Independent (given_supply names new comes).forms (uses (whole (node_front t))) (node_front (with_node path n' t)) × WithinLimits limits (node_front (with_node path n' t))
  front_kept [] at is room same enters =
      let here : t ≡ n = cc in
      let known = uses (whole (node_front t)) in
      let forms' = (given_supply names new comes).forms in (
        independent_entered known names.forms forms' new comes (node_front n) (node_front n') (enters refl)
            (subst (λ (u : NodeTree). Independent names.forms known (node_front u)) here is.independent),
        within_entered known names.forms forms' new limits comes (node_front n) (node_front n') (enters refl) (subst (λ (u : NodeTree). HasSpace limits comes (node_front u)) here room)
            (subst (λ (u : NodeTree). WithinLimits limits (node_front u)) here is.within),
      )
  front_kept (leaf ∷ path) at is room same enters =
      let stays = front_changed leaf (with_node path n') t in (
        same_independent (uses (whole (node_front t))) names.forms (given_supply names new comes).forms same (node_front t) (node_front (with_node (leaf ∷ path) n' t)) stays is.independent,
        same_counts limits (node_front t) (node_front (with_node (leaf ∷ path) n' t)) stays is.within,
      )

  pub window_moves : (path : List ℕ) → IsNext names.next new → node_at path t ≡ Some n → IsProper (node_window t names limits inside) → RoomAt path limits comes (node_front t)
      → ((known : ℕ → Bool) → StandsNew names known n → EntersNode known) → WindowMoves names new comes limits inside t n n' path
  window_moves path next at proper room enters =
      let w = node_window t names limits inside in
      let known = uses (whole (node_front t)) in
      let after = given_supply names new comes in
      let t' = with_node path n' t in
      let fresh = proper_fresh w proper in
      let stands : StandsNew names known t = record {
        scoped = subst (Scoped known) (whole_front t) proper.window.scoped;
        unknown = fresh.unknown;
        free = subst (Unwritten names.next) (whole_front t) fresh.unwritten;
        below = subst (TreeBelow names.next) (whole_front t) proper.names_below;
      } in
      let goes : Goes names after new known t t' = node_goes names after new next (given_next names new comes) path n n' t known at
      (λ known' s. node_moves next proper.forms_below known' s (enters known' s)) stands in
      let scoped' : Scoped known (whole (node_front t')) = subst (Scoped known) (sym (whole_front t'))
      (scoped_moved names.forms after.forms new known (whole_tree t) (whole_tree t') goes.moves stands.scoped) in
      let front = front_kept path at proper.window room (same_forms names new comes known fresh.unknown)
      (λ e. enters known (subst (λ (u : NodeTree). StandsNew names known u) (here path e at) stands)) in
      record {
        proper = record {
          window = record {
            scoped = scoped_parameters (whole (node_front t')) known scoped';
            independent = independent_parameters after.forms known (node_front t') scoped' front.0;
            within = front.1;
          };
          room = proper.room;
          names_below = subst (TreeBelow after.next) (sym (whole_front t')) goes.below;
          forms_below = goes.forms_below;
        };
        moves = subst (λ (u : Tree). Moves names.forms after.forms new (uses u) (whole_tree t) (whole_tree t')) (whole_front t) goes.moves;
        is_new = subst (λ (u : Tree). IsNew (uses u) new) (whole_front t) (new_name new next fresh.unknown);
        scoped = subst (λ (u : Tree). Scoped (uses u) (whole_tree t)) (whole_front t) stands.scoped;
      }
    where
      here : (path : List ℕ) → path ≡ [] → node_at path t ≡ Some n → t ≡ n
      here [] e at = cc
      here (leaf ∷ path) e at = absurd (cc)

      new_name : (d : Option ℕ) → IsNext names.next d → uses (whole (node_front t)) names.next ≡ false → IsNew (uses (whole (node_front t))) d
      new_name (Some name) is u = subst (λ (x : ℕ). uses (whole (node_front t)) x ≡ false) (sym is) u
      new_name None is u = tt

-- ---- two items that become one

-- what is known where nothing is refused
not_refused : (w : StoredWindow) (parent : List ℕ) (leaf yes_place no_place : ℕ) (why : Option MoveError) → IsWhyNotUnify w parent leaf yes_place no_place why → why ≡ None
    → IsWhyNot w parent leaf yes_place None × IsWhyNot w parent (leaf + 1) no_place None
not_refused w parent leaf yes_place no_place why (Not_there none) e = absurd (cc)
not_refused w parent leaf yes_place no_place why (As_on_yes of_yes there refuses) e = absurd (cc)
not_refused w parent leaf yes_place no_place why (As_on_no of_no there of_yes refuses) e = (of_yes, subst (IsWhyNot w parent (leaf + 1) no_place) e refuses)

-- the way of an item that may move is clear, and there is room for it
free_way : (w : StoredWindow) (parent : List ℕ) (m : Mover) → RefusesMover w parent m None
    → ClearWay (forms_in w.names.forms) m.item m.way × (no_room_at parent w.limits m.item (node_front (nodes_in w.tree)) ≡ None)
free_way w parent m refuses =
    let nothing = both_none (refusal_of_way m refuses.conflict) (no_room_at parent w.limits m.item (node_front (nodes_in w.tree))) (sym refuses.is) in
    (way_not_refused (forms_in w.names.forms) m.item m.way refuses.conflict refuses.first nothing.0, nothing.1)

-- both are found in the node
twins_in : (w : StoredWindow) (parent : List ℕ) (leaf yes_place no_place : ℕ) (n : NodeTree) → node_at parent (nodes_in w.tree) ≡ Some n → AreThere w parent leaf yes_place no_place
    → AreTwins n leaf yes_place no_place
twins_in w parent leaf yes_place no_place n at there = subst (TwinsBehind leaf yes_place no_place) at there

-- where nothing is refused all is kept
pub joined_keeps : (w v : StoredWindow) (parent : List ℕ) (leaf yes_place no_place : ℕ) → HaveJoined w v parent leaf yes_place no_place
    → IsWhyNotUnify w parent leaf yes_place no_place None → IsProper (window_in w) → Keeps w v
joined_keeps w v parent leaf yes_place no_place h why proper =
    let m = h.mover in
    let before = supply_in w.names in
    let next = length w.names.forms in
    let z = joint_item next m in
    let n = h.changes.node in
    let n' = joined (joint_of next m) leaf yes_place no_place n in
    let t = nodes_in w.tree in
    let twins = twins_in w parent leaf yes_place no_place n h.changes.at h.there in
    let k = twins.on_no in
    let found : mover_at leaf yes_place n ≡ Some m = sym (ap (mover_behind leaf yes_place) h.changes.at) ∙ h.is_mover in
    let same_mover : Some twins.on_yes ≡ Some m = sym twins.is_yes ∙ found in
    let is_yes : twins.on_yes ≡ m = cc in
    let same : with_dest next k.item ≡ z = sym (twins.alike next) ∙ ap (λ (o : Mover). with_dest next o.item) is_yes in
    let refuses = not_refused w parent leaf yes_place no_place None why refl in
    let yes_free = free_way w parent m (subst (λ (o : Option Mover). RefusesFound w parent o None) h.is_mover refuses.0) in
    let other : mover_of w parent (leaf + 1) no_place ≡ Some k = ap (mover_behind (leaf + 1) no_place) h.changes.at ∙ twins.is_no in
    let no_free = free_way w parent k (subst (λ (o : Option Mover). RefusesFound w parent o None) other refuses.1) in
    let new : Option ℕ = dest_of z in
    let after = given_supply before new (Some z) in
    let enters = λ (known : ℕ → Bool) (s : StandsNew before known n). (
    let facts = (subst (IsKnownMover before.forms known (whole_tree n)) found (known_at before.forms known leaf yes_place n)) yes_free.0 s.scoped in
    let to = λ (c : Coming). joined c leaf yes_place no_place n in
    let once : EnterOnce before.forms after.forms known next (Some m) (Some k) n to =
    subst (λ (o : Option Mover). EnterOnce before.forms after.forms known next (Some m) o n to) twins.is_no
    (subst (λ (o : Option Mover). EnterOnce before.forms after.forms known next o (mover_at (leaf + 1) no_place n) n to) found
    (enter_once before.forms after.forms known next yes_place no_place leaf n (sides_told leaf n twins.sides))) in
    once yes_free.0 no_free.0 same (subst (λ (os : List Operand). AllByRecursion (IsKnown known) os) (sym (alike next m.item).operands) facts.0)
    (dest_named next m.item (IsNew known) s.unknown tt) s.free (gives_named before (proper_fresh (window_in w) proper).without m.item)
    ) in
    let kept = window_moves before new (Some z) w.limits w.inside t n n' parent (dest_named next m.item (IsNext next) refl tt) h.changes.at
    (subst (λ (u : Window). IsProper u) (sym (stored_window w)) proper)
    (room_at parent w.limits m.item z (node_front t) (alike next m.item).memory yes_free.1) enters in
    let walk = walk_kept before.forms after.forms new (whole_tree t) (whole_tree (with_node parent n' t)) kept.moves kept.is_new kept.scoped in
    let to : whole_tree (with_node parent n' t) ≡ tree_in v.tree = ap whole_tree (sym h.changes.tree) ∙ tree_same v.tree in
    record {
      proper = subst (λ (u : Window). IsProper u) ((λ i. node_window (sym h.changes.tree i) (sym h.names i) (sym h.bounds.limits i) (sym h.bounds.inside i)) ∙ stored_window v) kept.proper;
      walk = subst (λ (f : ℕ → Form). KeepsWalk before.forms (tree_in w.tree) f (tree_in v.tree)) (sym (ap (λ (s : Supply). s.forms) h.names))
          (subst (λ (u : Tree). KeepsWalk before.forms u after.forms (tree_in v.tree)) (tree_same w.tree)
          (subst (λ (u : Tree). KeepsWalk before.forms (whole_tree t) after.forms u) to walk));
    }
