-- A change of one node, by which something enters it, moves the whole window.
use Rattle.std.proofs.Common.{◌≡◌, ℕ, suc, ◌≤◌, Bool, true, false, List, [], ◌∷◌, Option, Some, None, refl, sym, ◌∙◌, ap, subst, arith}
use Rattle.std.specs.Prelude.{◌-◌, ◌||◌, if◌then◌else◌, nat_eq, nat_lt}
use Rattle.std.proofs.lemmas.Bool.{eqb-true}
use Rattle.pc_word.specs.declared.item.Item.{Item}
use Rattle.pc_word.specs.declared.item.Limits.{Limits}
use Rattle.pc_word.specs.declared.item.Operand.{Operand}
use Rattle.pc_word.specs.Items.{dest_of}
use Rattle.pc_word.specs.Commit.{writes}
use Rattle.pc_linear.specs.Form.{Form}
use Rattle.pc_window.specs.Tree.{Tree, Pending, Undecided, Front, whole}
use Rattle.pc_window.specs.Names.{IsNew, and_dest, Scoped, Unwritten, NotWritten, uses}
use Rattle.pc_window.specs.Opening.{Supply, TreeBelow, FormsBelow, with_name}
use Rattle.pc_window.specs.WindowRun.{Window}
use Rattle.pc_window.specs.Filled.{Jump, given_supply, IsNext, HasSpace, IsWindow, WithinLimits, Independent, item_count, memory_count, test_count}
use Rattle.pc_window.specs.Jump.{combined}
use Rattle.pc_window.specs.Move.{Moves, Into_node, Below, On_yes_side, On_no_side}
use Rattle.pc_window.specs.Steps.{IsProper}
use Rattle.pc_window.proofs.Fronts.{SameKnownForms, independent_entered, within_entered}
use Rattle.pc_window.proofs.Moving.{moves_keep, scoped_moved}
use Rattle.pc_window.proofs.Parameters.{parameters_known, scoped_parameters, independent_parameters}
use Rattle.pc_window.proofs.Proper.{StaysNew, jump_below, given_next, proper_fresh}
use Rattle.pc_window.proofs.Soundness.{TreeBelow-later}
use Rattle.pc_moveop.specs.NodeTree.{NodeTree, Item_node, Test_node, Leads_to, Leads_out, whole_tree, node_front, leaf_count, child_at, led_on, node_at, child_changed, with_node}
use Rattle.pc_window.specs.Kept.{KeepsWalk}
use Rattle.pc_moveop.proofs.Comes.{Enters}
use Rattle.pc_moveop.proofs.Fronts.{front_changed, same_counts, same_independent}
use Rattle.pc_moveop.proofs.Paths.{whole_front}

-- a window of nodes
abbrev pub node_window : NodeTree → Supply → Limits → Option ℕ → Window
node_window t names limits inside = record { front = node_front t; forms = names.forms; next = names.next; next_variable = names.next_variable; limits = limits; inside = inside }

-- ---- what is new

apart_from : (next : ℕ) (new : Option ℕ) → IsNext next new → (d : Option ℕ) → writes d next ≡ false → IsNew (writes d) new
apart_from next (Some name) is d h = subst (λ (n : ℕ). writes d n ≡ false) (sym is) h
apart_from next None is d h = tt

not_written : (next : ℕ) (new : Option ℕ) → IsNext next new → (tree : Tree) → Unwritten next tree → NotWritten new tree
not_written next (Some name) is tree h = subst (λ (n : ℕ). Unwritten n tree) (sym is) h
not_written next None is tree h = tt

-- the form of every other name stays
other_form : (names : Supply) (new : Option ℕ) (comes : Option Item) (x : ℕ) → nat_eq names.next x ≡ false → (given_supply names new comes).forms x ≡ names.forms x
other_form names (Some name) (Some item) x e = by_form (combined names.forms item)
  where
    by_form : (c : Option Form) → (with_name names c).forms x ≡ names.forms x
    by_form (Some f) = rw e refl
    by_form None = rw e refl
other_form names (Some name) None x e = refl
other_form names None comes x e = refl

pub same_forms : (names : Supply) (new : Option ℕ) (comes : Option Item) (known : ℕ → Bool)
    → known names.next ≡ false → SameKnownForms known names.forms (given_supply names new comes).forms
same_forms names new comes known unknown x is = other_form names new comes x (elim (nat_eq names.next x) as (λ b. nat_eq names.next x ≡ b → b ≡ false) [
  | false ↦ λ e. refl
  | true ↦ λ e. absurd (let same : names.next ≡ x = eqb-true names.next x e in let u : known x ≡ false = sym (ap known same) ∙ unknown in cc)
] refl)

-- ---- from the node to the whole

-- what is known where a node stands: its names are known before they are read, and what is new is new there
pub record StandsNew (names : Supply) (known : ℕ → Bool) (t : NodeTree) : Type 0 where
  pub scoped : Scoped known (whole_tree t)
  pub unknown : known names.next ≡ false
  pub free : Unwritten names.next (whole_tree t)
  pub below : TreeBelow names.next (whole_tree t)

-- a tree moves, and what is new stays new
pub record Goes (names after : Supply) (new : Option ℕ) (known : ℕ → Bool) (t u : NodeTree) : Type 0 where
  pub moves : Moves names.forms after.forms new known (whole_tree t) (whole_tree u)
  pub below : TreeBelow after.next (whole_tree u)
  pub forms_below : FormsBelow after

module _ (names after : Supply) (new : Option ℕ) (next : IsNext names.next new) (later : names.next ≤ after.next) where
  goes_item : (known : ℕ → Bool) (t o : ℕ) (y : Item) (rest rest' : NodeTree) → StandsNew names known (Item_node t o y rest)
      → (StandsNew names (and_dest known y) rest → Goes names after new (and_dest known y) rest rest') → Goes names after new known (Item_node t o y rest) (Item_node t o y rest')
  goes_item known t o y rest rest' h goes =
      let k = goes (record {
        scoped = h.scoped.2;
        unknown = ap (λ (b : Bool). b || known names.next) h.free.0 ∙ h.unknown;
        free = h.free.1;
        below = h.below.1;
      }) in
      record {
        moves = Below known t o y (whole_tree rest) (whole_tree rest') (apart_from names.next new next (dest_of y) h.free.0) k.moves;
        below = ((TreeBelow-later names.next after.next (Pending t o y (whole_tree rest)) later h.below).0, k.below);
        forms_below = k.forms_below;
      }

  goes_yes : (known : ℕ → Bool) (t o : ℕ) (on : Operand) (p q p' : NodeTree) → StandsNew names known (Test_node t o on p q)
      → (StandsNew names known p → Goes names after new known p p') → Goes names after new known (Test_node t o on p q) (Test_node t o on p' q)
  goes_yes known t o on p q p' h goes =
      let k = goes (record { scoped = h.scoped.1; unknown = h.unknown; free = h.free.0; below = h.below.1 }) in
      let all = TreeBelow-later names.next after.next (Undecided t o on (whole_tree p) (whole_tree q)) later h.below in
      record {
        moves = On_yes_side known t o on (whole_tree p) (whole_tree q) (whole_tree p') (not_written names.next new next (whole_tree q) h.free.1) k.moves;
        below = (all.0, k.below, all.2);
        forms_below = k.forms_below;
      }

  goes_no : (known : ℕ → Bool) (t o : ℕ) (on : Operand) (p q q' : NodeTree) → StandsNew names known (Test_node t o on p q)
      → (StandsNew names known q → Goes names after new known q q') → Goes names after new known (Test_node t o on p q) (Test_node t o on p q')
  goes_no known t o on p q q' h goes =
      let k = goes (record { scoped = h.scoped.2; unknown = h.unknown; free = h.free.1; below = h.below.2 }) in
      let all = TreeBelow-later names.next after.next (Undecided t o on (whole_tree p) (whole_tree q)) later h.below in
      record {
        moves = On_no_side known t o on (whole_tree p) (whole_tree q) (whole_tree q') (not_written names.next new next (whole_tree p) h.free.0) k.moves;
        below = (all.0, all.1, k.below);
        forms_below = k.forms_below;
      }

  child_goes : (leaf : ℕ) (f : NodeTree → NodeTree) (next_node : NodeTree → Option NodeTree) (n : NodeTree)
      → ((c : NodeTree) (known : ℕ → Bool) → next_node c ≡ Some n → StandsNew names known c → Goes names after new known c (f c))
      → (t : NodeTree) (known : ℕ → Bool) → led_on (child_at leaf t) next_node ≡ Some n → StandsNew names known t → Goes names after new known t (child_changed leaf f t)
  child_goes leaf f next_node n goes (Item_node t o y rest) known at h =
      goes_item known t o y rest (child_changed leaf f rest) h (λ s. child_goes leaf f next_node n goes rest (and_dest known y) at s)
  child_goes leaf f next_node n goes (Test_node t o on p q) known at h =
      elim (nat_lt leaf (leaf_count p)) as (λ b. led_on (if b then child_at leaf p else child_at (leaf - leaf_count p) q) next_node ≡ Some n
      → Goes names after new known (Test_node t o on p q) (if b then Test_node t o on (child_changed leaf f p) q else Test_node t o on p (child_changed (leaf - leaf_count p) f q))) [
        | true ↦ λ e. goes_yes known t o on p q (child_changed leaf f p) h (λ s. child_goes leaf f next_node n goes p known e s)
        | false ↦ λ e. goes_no known t o on p q (child_changed (leaf - leaf_count p) f q) h (λ s. child_goes (leaf - leaf_count p) f next_node n goes q known e s)
      ] at
  child_goes leaf f next_node n goes (Leads_to below) known at h =
      elim (nat_eq leaf 0) as (λ b. led_on (if b then Some below else None) next_node ≡ Some n
      → Goes names after new known (Leads_to below) (if b then Leads_to (f below) else Leads_to below)) [
        | true ↦ λ e. (let k = goes below known e (record { scoped = h.scoped; unknown = h.unknown; free = h.free; below = h.below }) in
            record { moves = k.moves; below = k.below; forms_below = k.forms_below })
        | false ↦ λ e. absurd (cc)
      ] at
  child_goes leaf f next_node n goes (Leads_out out) known at h = absurd (cc)

  pub node_goes : (path : List ℕ) (n n' t : NodeTree) (known : ℕ → Bool) → node_at path t ≡ Some n
      → ((known' : ℕ → Bool) → StandsNew names known' n → Goes names after new known' n n') → StandsNew names known t → Goes names after new known t (with_node path n' t)
  node_goes [] n n' t known at goes h =
      let same : n ≡ t = cc in
      subst (λ (u : NodeTree). Goes names after new known u n') same (goes known (subst (StandsNew names known) (sym same) h))
  node_goes (leaf ∷ path) n n' t known at goes h =
      child_goes leaf (with_node path n') (node_at path) n (λ c known' e s. node_goes path n n' c known' e goes s) t known at h

-- ---- what enters a node moves it

-- limits that leave room
wide : Front → Limits
wide front = record { ops = suc (item_count front); tests = suc (test_count front); mem = suc (memory_count front) }

wide_space : (comes : Option Item) (front : Front) → HasSpace (wide front) comes front
unfolding wide
wide_space (Some x) front = (omega arith, λ is. omega arith)
wide_space None front = omega arith

pub enters_goes : (names : Supply) (new : Option ℕ) (comes : Option Item) → IsNext names.next new → FormsBelow names → (known : ℕ → Bool) (n n' : NodeTree) → StandsNew names known n
    → Enters known names.forms (given_supply names new comes).forms new comes (node_front n) (node_front n') → Goes names (given_supply names new comes) new known n n'
enters_goes names new comes next forms_below known n n' h e =
    let after = given_supply names new comes in
    let limits = wide (node_front n) in
    let jump : Jump known (node_window n names limits None) (node_window n' after limits None) = record {
      new = new;
      comes = comes;
      enters = e.enters;
      next = next;
      names = refl;
      twins = e.twins;
      room = wide_space comes (node_front n);
      limits = refl;
      inside = refl;
    } in
    let stays : StaysNew (node_window n' after limits None) = jump_below known (node_window n names limits None) (node_window n' after limits None) jump
    (record { names_below = subst (TreeBelow names.next) (sym (whole_front n)) h.below; forms_below = forms_below }) in
    record {
      moves = subst (λ (u : Tree). Moves names.forms after.forms new known u (whole_tree n')) (whole_front n)
          (subst (λ (u : Tree). Moves names.forms after.forms new known (whole (node_front n)) u) (whole_front n') (Into_node known comes (node_front n) (node_front n') e.enters));
      below = subst (TreeBelow after.next) (whole_front n') stays.names_below;
      forms_below = stays.forms_below;
    }

-- ---- the whole window

-- a node has room for what comes, where it is the front
abbrev pub RoomAt : List ℕ → Limits → Option Item → Front → Type 0
RoomAt [] limits comes front = HasSpace limits comes front
RoomAt (leaf ∷ path) limits comes front = Unit {0}

-- from each state in which forms hold and the walk is no fault, a move keeps the walk, and forms hold
pub walk_kept : (forms forms' : ℕ → Form) (new : Option ℕ) (from to : Tree) → Moves forms forms' new (uses from) from to → IsNew (uses from) new → Scoped (uses from) from
    → KeepsWalk forms from forms' to
walk_kept forms forms' new from to moves isnew scoped lengths s holds whole_walk =
    let kept = moves_keep forms forms' new (uses from) from to moves isnew scoped in
    let k = kept.1 lengths holds.0 s holds.1 whole_walk in
    (k.0, (k.1, record { parameters = λ x is. k.2.parameters x (parameters_known to (uses from) kept.0 x is); defined = k.2.defined }))

module _ (names : Supply) (new : Option ℕ) (comes : Option Item) (limits : Limits) (inside : Option ℕ) (t n n' : NodeTree) where
  -- so what a node's change keeps
  pub record WindowMoves (path : List ℕ) : Type 0 where
    pub proper : IsProper (node_window (with_node path n' t) (given_supply names new comes) limits inside)
    pub moves : Moves names.forms (given_supply names new comes).forms new (uses (whole_tree t)) (whole_tree t) (whole_tree (with_node path n' t))
    pub is_new : IsNew (uses (whole_tree t)) new
    pub scoped : Scoped (uses (whole_tree t)) (whole_tree t)

  -- the front stays within its limits, and does not hang on itself
  front_kept : (path : List ℕ) → node_at path t ≡ Some n → IsWindow (uses (whole (node_front t))) (node_window t names limits inside) → RoomAt path limits comes (node_front t)
      → SameKnownForms (uses (whole (node_front t))) names.forms (given_supply names new comes).forms
      → (path ≡ [] → Enters (uses (whole (node_front t))) names.forms (given_supply names new comes).forms new comes (node_front n) (node_front n'))
      → Independent (given_supply names new comes).forms (uses (whole (node_front t))) (node_front (with_node path n' t)) × WithinLimits limits (node_front (with_node path n' t))
  front_kept [] at is room same enters =
      let e = enters refl in
      let here : t ≡ n = cc in
      let known = uses (whole (node_front t)) in
      let forms' = (given_supply names new comes).forms in (
        independent_entered known names.forms forms' new comes (node_front n) (node_front n') e.enters (subst (λ (u : NodeTree). Independent names.forms known (node_front u)) here is.independent),
        within_entered known names.forms forms' new limits comes (node_front n) (node_front n') e.enters (subst (λ (u : NodeTree). HasSpace limits comes (node_front u)) here room)
            (subst (λ (u : NodeTree). WithinLimits limits (node_front u)) here is.within),
      )
  front_kept (leaf ∷ path) at is room same enters =
      let changed = front_changed leaf (with_node path n') t in (
        same_independent (uses (whole (node_front t))) names.forms (given_supply names new comes).forms same (node_front t) (node_front (with_node (leaf ∷ path) n' t)) changed is.independent,
        same_counts limits (node_front t) (node_front (with_node (leaf ∷ path) n' t)) changed is.within,
      )

  pub window_moves : (path : List ℕ) → IsNext names.next new → node_at path t ≡ Some n → IsProper (node_window t names limits inside) → RoomAt path limits comes (node_front t)
      → ((known : ℕ → Bool) → StandsNew names known n → Enters known names.forms (given_supply names new comes).forms new comes (node_front n) (node_front n'))
      → WindowMoves path
  window_moves path next at proper room enters =
      let w = node_window t names limits inside in
      let known = uses (whole (node_front t)) in
      let after = given_supply names new comes in
      let t' = with_node path n' t in
      let fresh = proper_fresh w proper in
      let stands : StandsNew names known t = record {
        scoped = subst (Scoped known) (whole_front t) proper.window.scoped;
        unknown = fresh.unknown;
        free = subst (Unwritten names.next) (whole_front t) fresh.unwritten;
        below = subst (TreeBelow names.next) (whole_front t) proper.names_below;
      } in
      let goes : Goes names after new known t t' = node_goes names after new next (given_next names new comes) path n n' t known at
      (λ known' s. enters_goes names new comes next proper.forms_below known' n n' s (enters known' s)) stands in
      let scoped' : Scoped known (whole (node_front t')) = subst (Scoped known) (sym (whole_front t'))
      (scoped_moved names.forms after.forms new known (whole_tree t) (whole_tree t') goes.moves stands.scoped) in
      let front = front_kept path at proper.window room (same_forms names new comes known fresh.unknown)
      (λ e. enters known (subst (λ (u : NodeTree). StandsNew names known u) (here path e at) stands)) in
      record {
        proper = record {
          window = record {
            scoped = scoped_parameters (whole (node_front t')) known scoped';
            independent = independent_parameters after.forms known (node_front t') scoped' front.0;
            within = front.1;
          };
          room = proper.room;
          names_below = subst (TreeBelow after.next) (sym (whole_front t')) goes.below;
          forms_below = goes.forms_below;
        };
        moves = subst (λ (u : Tree). Moves names.forms after.forms new (uses u) (whole_tree t) (whole_tree t')) (whole_front t) goes.moves;
        is_new = subst (λ (u : Tree). IsNew (uses u) new) (whole_front t) (new_name new next fresh.unknown);
        scoped = subst (λ (u : Tree). Scoped (uses u) (whole_tree t)) (whole_front t) stands.scoped;
      }
    where
      here : (path : List ℕ) → path ≡ [] → node_at path t ≡ Some n → t ≡ n
      here [] e at = cc
      here (leaf ∷ path) e at = absurd (cc)

      new_name : (d : Option ℕ) → IsNext names.next d → uses (whole (node_front t)) names.next ≡ false → IsNew (uses (whole (node_front t))) d
      new_name (Some name) is u = subst (λ (x : ℕ). uses (whole (node_front t)) x ≡ false) (sym is) u
      new_name None is u = tt
