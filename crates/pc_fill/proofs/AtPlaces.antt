-- What stands at a place, found from the root, and what is known there.
use Rattle.std.proofs.Common.{◌≡◌, ◌≢◌, ◌↔◌, ℕ, zero, suc, ◌+◌, ◌-◌, ◌<◌, ◌≤◌, Bool, true, false, List, [], ◌∷◌, ◌++◌, Option, Some, None}
use Rattle.std.proofs.Common.{refl, sym, ◌∙◌, ap, subst, arith}
use Rattle.std.specs.Prelude.{nat_eq, not, ◌&&◌, ◌||◌, slice_get}
use Rattle.std.specs.List.{AllByRecursion}
use Rattle.std.proofs.lemmas.Bool.{eqb-true}
use Rattle.pc_word.proofs.Lists.{all_imply}
use Rattle.pc_word.proofs.Places.{none_left}
use Rattle.pc_word.proofs.Truth.{and_true, and_made, or_second, not_true, failed, held, same_fact, fails_here}
use Rattle.pc_word.specs.declared.item.Item.{Item}
use Rattle.pc_word.specs.declared.item.Operand.{Operand}
use Rattle.pc_word.specs.declared.item.Operand.TheVariants.{Name, Lit}
use Rattle.pc_word.specs.Items.{dest_of, operands_of}
use Rattle.pc_word.specs.Commit.{writes}
use Rattle.pc_window.specs.Tree.{Tree, Pending, Undecided, Exit, Stop_exit, Trap_exit, whole, tree_size}
use Rattle.pc_window.specs.Names.{IsKnown, IsNew, Scoped, and_dest, uses}
use Rattle.pc_window.specs.declared.window.Window.{Window as StoredWindow}
use Rattle.pc_window.specs.StoredWindow.{tree_in, front_in, window_in}
use Rattle.pc_window.proofs.WindowsStored.{whole_in}
use Rattle.pc_fill.specs.declared.first.Candidate.{Candidate}
use Rattle.pc_fill.specs.declared.first.ReadyNode.{ReadyNode}
use Rattle.pc_fill.specs.declared.room.Counts.{Counts}
use Rattle.pc_fill.specs.models.Places.{Node, nodes_of, node_of, node_in, unwritten_above, MayComeFrom, IsReadyHere}
use Rattle.pc_fill.specs.models.Search.{AreCounts, HasRoom, comes_before, BestBefore}
use Rattle.pc_fill.proofs.Nodes.{node_on_yes, node_on_no, nodes_count, OfSides, Of_yes, Of_no, of_sides}
use Rattle.pc_fill.proofs.Entered.{at_below, on_yes_side, on_no_side}
use Rattle.pc_fill.proofs.Searching.{room_here, here_room, look_behind, look_unready, look_found}

-- ---- at a place, as code goes down to it

module _ (tag origin place : ℕ) where
  -- at the root
  pub item_here : (x : Item) (rest : Tree) (it : Candidate) → place ≡ 0 → node_of it ≡ record { tag = tag; origin = origin; what = Some x; operands = operands_of x }
      → node_in (Some it) ≡ slice_get (nodes_of (Pending tag origin x rest)) place
  item_here x rest it e is = ap Some is ∙ ap (slice_get (nodes_of (Pending tag origin x rest))) (sym e)

  pub test_here : (on : Operand) (p q : Tree) (it : Candidate) → place ≡ 0 → node_of it ≡ record { tag = tag; origin = origin; what = None; operands = on ∷ [] }
      → node_in (Some it) ≡ slice_get (nodes_of (Undecided tag origin on p q)) place
  test_here on p q it e is = ap Some is ∙ ap (slice_get (nodes_of (Undecided tag origin on p q))) (sym e)

  -- below an item
  pub node_below : (x : Item) (rest : Tree) (it : Option Candidate) → place ≢ 0 → node_in it ≡ slice_get (nodes_of rest) (place - 1)
      → node_in it ≡ slice_get (nodes_of (Pending tag origin x rest)) place
  node_below x rest it ne is = let e : suc (place - 1) ≡ place = omega arith in is ∙ ap (slice_get (nodes_of (Pending tag origin x rest))) e

  -- on a side of a test, whose yes side has so many items and tests where they were counted so far
  pub node_of_yes : (on : Operand) (p q : Tree) (it : Option Candidate) (n : ℕ) → place ≢ 0 → n ≤ tree_size p → place - 1 < n → node_in it ≡ slice_get (nodes_of p) (place - 1)
      → node_in it ≡ slice_get (nodes_of (Undecided tag origin on p q)) place
  node_of_yes on p q it n ne size less is =
      let e : suc (place - 1) ≡ place = omega arith in
      is ∙ sym (node_on_yes p q (place - 1) (omega arith)) ∙ ap (slice_get (nodes_of (Undecided tag origin on p q))) e

  pub node_of_no : (on : Operand) (p q : Tree) (it : Option Candidate) (n : ℕ) → place ≢ 0 → (n < place → n ≡ tree_size p) → n ≤ place - 1
      → node_in it ≡ slice_get (nodes_of q) (place - 1 - n) → node_in it ≡ slice_get (nodes_of (Undecided tag origin on p q)) place
  node_of_no on p q it n ne exact most is =
      let size = exact (omega arith) in
      let e : suc (tree_size p + (place - 1 - n)) ≡ place = omega arith in
      is ∙ sym (node_on_no p q (place - 1 - n)) ∙ ap (slice_get (nodes_of (Undecided tag origin on p q))) e

pub ruleset standing = (item_here, test_here, node_below, node_of_yes, node_of_no)

-- ---- names that nothing above a place writes

pub unwritten_root : (tree : Tree) (place x : ℕ) → place ≡ 0 → true ≡ unwritten_above tree place x
unwritten_root tree place x e = sym (at_zero tree) ∙ ap (λ (n : ℕ). unwritten_above tree n x) (sym e)
  where
    at_zero : (tree : Tree) → unwritten_above tree 0 x ≡ true
    at_zero (Pending t o y rest) = refl
    at_zero (Undecided t o on p q) = refl
    at_zero (Exit region tag homes) = refl
    at_zero Stop_exit = refl
    at_zero (Trap_exit kind line) = refl

module _ (tag origin place n x : ℕ) (below : place ≡ suc n) where
  unwritten_below : (y : Item) (rest : Tree) → unwritten_above (Pending tag origin y rest) place x ≡ (not (writes (dest_of y) x) && unwritten_above rest n x)
  unwritten_below y rest = at_below true (λ k. not (writes (dest_of y) x) && unwritten_above rest k x) place n below

  unwritten_of_yes : (on : Operand) (p q : Tree) → n < tree_size p → unwritten_above (Undecided tag origin on p q) place x ≡ unwritten_above p n x
  unwritten_of_yes on p q less = on_yes_side true (λ k. unwritten_above p k x) (λ k. unwritten_above q (k - tree_size p) x) place n (tree_size p) below less

  unwritten_of_no : (on : Operand) (p q : Tree) → tree_size p ≤ n → unwritten_above (Undecided tag origin on p q) place x ≡ unwritten_above q (n - tree_size p) x
  unwritten_of_no on p q most = on_no_side true (λ k. unwritten_above p k x) (λ k. unwritten_above q (k - tree_size p) x) place n (tree_size p) below most

module _ (tag origin place x : ℕ) (ne : place ≢ 0) where
  under : place ≡ suc (place - 1)
  under = omega arith

  pub written_there : (y : Item) (rest : Tree) (b : Bool) → b ≡ writes (dest_of y) x → b ≡ true → false ≡ unwritten_above (Pending tag origin y rest) place x
  written_there y rest b is e =
      sym (unwritten_below tag origin place (place - 1) x under y rest ∙ ap (λ (c : Bool). not c && unwritten_above rest (place - 1) x) (sym is ∙ e))

  pub unwritten_past : (y : Item) (rest : Tree) (b c : Bool) → b ≡ writes (dest_of y) x → b ≡ false → c ≡ unwritten_above rest (place - 1) x
      → c ≡ unwritten_above (Pending tag origin y rest) place x
  unwritten_past y rest b c is e same =
      same ∙ sym (unwritten_below tag origin place (place - 1) x under y rest ∙ ap (λ (d : Bool). not d && unwritten_above rest (place - 1) x) (sym is ∙ e))

  pub unwritten_yes : (on : Operand) (p q : Tree) (c : Bool) (n : ℕ) → n ≤ tree_size p → place - 1 < n → c ≡ unwritten_above p (place - 1) x
      → c ≡ unwritten_above (Undecided tag origin on p q) place x
  unwritten_yes on p q c n size less same = same ∙ sym (unwritten_of_yes tag origin place (place - 1) x under on p q (omega arith))

  pub unwritten_no : (on : Operand) (p q : Tree) (c : Bool) (n : ℕ) → (n < place → n ≡ tree_size p) → n ≤ place - 1 → c ≡ unwritten_above q (place - 1 - n) x
      → c ≡ unwritten_above (Undecided tag origin on p q) place x
  unwritten_no on p q c n exact most same =
      let size = exact (omega arith) in
      same ∙ ap (λ (k : ℕ). unwritten_above q (place - 1 - k) x) size ∙ sym (unwritten_of_no tag origin place (place - 1) x under on p q (omega arith))

pub ruleset unwritten = (unwritten_root, written_there, unwritten_past, unwritten_yes, unwritten_no)

-- ---- what is read at a place is known before the tree where nothing above writes it

-- what is known there: what was known before, and what is written above
record KnownThere (known : ℕ → Bool) (tree : Tree) (place : ℕ) (operands : List Operand) : Type 0 where
  there : ℕ → Bool
  reads : AllByRecursion (IsKnown there) operands
  before : (x : ℕ) → there x ≡ true → unwritten_above tree place x ≡ true → known x ≡ true
  unwritten : (x : ℕ) → known x ≡ true → unwritten_above tree place x ≡ true

at_root : (known : ℕ → Bool) (tree : Tree) (operands : List Operand) → AllByRecursion (IsKnown known) operands → KnownThere known tree 0 operands
at_root known tree operands reads = record { there = known; reads = reads; before = λ x e u. e; unwritten = λ x e. sym (unwritten_root tree 0 x refl) }

-- what is known is not written again
unwritten_known : (known : ℕ → Bool) (d : Option ℕ) (x : ℕ) → IsNew known d → known x ≡ true → not (writes d x) ≡ true
unwritten_known known None x new e = refl
unwritten_known known (Some d) x new e = by_test (nat_eq d x) refl
  where
    by_test : (b : Bool) → nat_eq d x ≡ b → not b ≡ true
    by_test false k = refl
    by_test true k = absurd (let same : known d ≡ known x = ap known (eqb-true d x k) in cc)

past : (known : ℕ → Bool) (t o : ℕ) (y : Item) (rest : Tree) (n : ℕ) (operands : List Operand) → IsNew known (dest_of y) → KnownThere (and_dest known y) rest n operands
    → KnownThere known (Pending t o y rest) (suc n) operands
past known t o y rest n operands new k = record {
  there = k.there;
  reads = k.reads;
  before = λ x e u.
      let parts = and_true (not (writes (dest_of y) x)) (unwritten_above rest n x) (sym (unwritten_below t o (suc n) n x refl y rest) ∙ u) in
      ap (λ (b : Bool). b || known x) (sym (not_true (writes (dest_of y) x) parts.0)) ∙ k.before x e parts.1;
  unwritten = λ x e.
      unwritten_below t o (suc n) n x refl y rest
      ∙ and_made (not (writes (dest_of y) x)) (unwritten_above rest n x) (unwritten_known known (dest_of y) x new e) (k.unwritten x (or_second (writes (dest_of y) x) (known x) e));
}

on_side : (known : ℕ → Bool) (side tree : Tree) (n place : ℕ) (operands : List Operand) → ((x : ℕ) → unwritten_above tree place x ≡ unwritten_above side n x)
    → KnownThere known side n operands → KnownThere known tree place operands
on_side known side tree n place operands same k =
    record { there = k.there; reads = k.reads; before = λ x e u. k.before x e (sym (same x) ∙ u); unwritten = λ x e. same x ∙ k.unwritten x e }

first_node : (head node : Node) (nodes : List Node) → slice_get (head ∷ nodes) 0 ≡ Some node → head ≡ node
first_node head node nodes e = cc

known_there : (tree : Tree) (known : ℕ → Bool) (place : ℕ) (node : Node) → Scoped known tree → slice_get (nodes_of tree) place ≡ Some node → KnownThere known tree place node.operands
known_there (Pending t o y rest) known zero node scoped at =
    let same = first_node (record { tag = t; origin = o; what = Some y; operands = operands_of y }) node (nodes_of rest) at in
    at_root known (Pending t o y rest) node.operands (subst (λ (n : Node). AllByRecursion (IsKnown known) n.operands) same scoped.0)
known_there (Pending t o y rest) known (suc n) node scoped at = past known t o y rest n node.operands scoped.1 (known_there rest (and_dest known y) n node scoped.2 at)
known_there (Undecided t o on p q) known zero node scoped at =
    let same = first_node (record { tag = t; origin = o; what = None; operands = on ∷ [] }) node (nodes_of p ++ nodes_of q) at in
    at_root known (Undecided t o on p q) node.operands (subst (λ (n : Node). AllByRecursion (IsKnown known) n.operands) same (scoped.0, tt))
known_there (Undecided t o on p q) known (suc n) node scoped at =
    by_side (λ k h. known_there p known k node scoped.1 h) (λ k h. known_there q known k node scoped.2 h) n (of_sides (tree_size p) n) at
  where
    by_side : ((k : ℕ) → slice_get (nodes_of p) k ≡ Some node → KnownThere known p k node.operands)
        → ((k : ℕ) → slice_get (nodes_of q) k ≡ Some node → KnownThere known q k node.operands)
        → (k : ℕ) → OfSides (tree_size p) k → slice_get (nodes_of p ++ nodes_of q) k ≡ Some node → KnownThere known (Undecided t o on p q) (suc k) node.operands
    by_side on_p on_q k (Of_yes k' less) h =
        on_side known p (Undecided t o on p q) k (suc k) node.operands (λ x. unwritten_of_yes t o (suc k) k x refl on p q less) (on_p k (sym (node_on_yes p q k less) ∙ h))
    by_side on_p on_q k (Of_no j) h =
        let m = tree_size p in
        let e : m + j - m ≡ j = omega arith in
        on_side known q (Undecided t o on p q) j (suc (m + j)) node.operands
        (λ x. unwritten_of_no t o (suc (m + j)) (m + j) x refl on p q (omega arith) ∙ ap (λ (k : ℕ). unwritten_above q k x) e) (on_q j (sym (node_on_no p q j) ∙ h))
known_there (Exit region tag homes) known place node scoped at = absurd (cc)
known_there Stop_exit known place node scoped at = absurd (cc)
known_there (Trap_exit kind line) known place node scoped at = absurd (cc)

-- so the two tests agree on what is read there
module _ (tree : Tree) (known : ℕ → Bool) (place : ℕ) (operands : List Operand) (k : KnownThere known tree place operands) where
  known_before : (os : List Operand) → AllByRecursion (IsKnown k.there) os → AllByRecursion (IsKnown (unwritten_above tree place)) os → AllByRecursion (IsKnown known) os
  known_before [] reads h = tt
  known_before (Name x ∷ os) reads h = (k.before x reads.0 h.0, known_before os reads.1 h.1)
  known_before (Lit v ∷ os) reads h = (tt, known_before os reads.1 h.1)

  known_unwritten : (o : Operand) → IsKnown known o → IsKnown (unwritten_above tree place) o
  known_unwritten (Name x) h = k.unwritten x h
  known_unwritten (Lit v) h = tt

-- ---- ready at a place

module _ (window : StoredWindow) (place : ℕ) (it : Candidate) where
  pub unknown_here : (b : Bool) → (b ≡ true) ↔ AllByRecursion (IsKnown (unwritten_above (tree_in window.tree) place)) (node_of it).operands → b ≡ false
      → (false ≡ true) ↔ IsReadyHere (unwritten_above (tree_in window.tree) place) (window_in window) place it.item (node_of it).operands
  unknown_here b iff e = fails_here (IsReadyHere (unwritten_above (tree_in window.tree) place) (window_in window) place it.item (node_of it).operands) (λ h. failed iff e h.reads)

  pub full_here : (counts : Counts) (b : Bool) → AreCounts counts (front_in window.tree) → (b ≡ true) ↔ HasRoom window.limits it.item counts → b ≡ false
      → (false ≡ true) ↔ IsReadyHere (unwritten_above (tree_in window.tree) place) (window_in window) place it.item (node_of it).operands
  full_here counts b are iff e =
      fails_here (IsReadyHere (unwritten_above (tree_in window.tree) place) (window_in window) place it.item (node_of it).operands)
      (λ h. failed iff e (here_room window.limits it.item counts (front_in window.tree) are h.room))

  pub ready_here : (counts : Counts) (a b c : Bool) → AreCounts counts (front_in window.tree)
      → (a ≡ true) ↔ AllByRecursion (IsKnown (unwritten_above (tree_in window.tree) place)) (node_of it).operands → a ≡ true
      → (b ≡ true) ↔ HasRoom window.limits it.item counts → b ≡ true
      → (c ≡ true) ↔ MayComeFrom (window_in window).forms it.item (front_in window.tree) place
      → (c ≡ true) ↔ IsReadyHere (unwritten_above (tree_in window.tree) place) (window_in window) place it.item (node_of it).operands
  ready_here counts a b c are reads e room f free =
      same_fact c (MayComeFrom (window_in window).forms it.item (front_in window.tree) place)
      (IsReadyHere (unwritten_above (tree_in window.tree) place) (window_in window) place it.item (node_of it).operands)
      (λ h. record { reads = held reads e; room = room_here window.limits it.item counts (front_in window.tree) are (held room f); way = h }) (λ h. h.way) free

pub ruleset ready = (unknown_here, full_here, ready_here)

-- known by what stands above, and known before the window
module _ (window : StoredWindow) (place : ℕ) (it : Candidate) (found : node_in (Some it) ≡ slice_get (nodes_of (tree_in window.tree)) place)
    (scoped : Scoped (uses (whole (front_in window.tree))) (whole (front_in window.tree))) where
  scoped_tree : Scoped (uses (whole (front_in window.tree))) (tree_in window.tree)
  scoped_tree = subst (Scoped (uses (whole (front_in window.tree)))) (whole_in window.tree) scoped

  pub ready_known : (b : Bool) → (b ≡ true) ↔ IsReadyHere (unwritten_above (tree_in window.tree) place) (window_in window) place it.item (node_of it).operands
      → (b ≡ true) ↔ IsReadyHere (uses (whole (front_in window.tree))) (window_in window) place it.item (node_of it).operands
  ready_known b iff =
      let known = uses (whole (front_in window.tree)) in
      let os = (node_of it).operands in
      let k = known_there (tree_in window.tree) known place (node_of it) scoped_tree (sym found) in
      same_fact b (IsReadyHere (unwritten_above (tree_in window.tree) place) (window_in window) place it.item os) (IsReadyHere known (window_in window) place it.item os)
      (λ h. record { reads = known_before (tree_in window.tree) known place os k os k.reads h.reads; room = h.room; way = h.way })
      (λ h. record {
        reads = all_imply (IsKnown known) (IsKnown (unwritten_above (tree_in window.tree) place)) os (known_unwritten (tree_in window.tree) known place os k) h.reads;
        room = h.room;
        way = h.way;
      }) iff

-- ---- one place more

module _ (window : StoredWindow) (place : ℕ) (first : Option ReadyNode) (before : BestBefore (uses (whole (front_in window.tree))) (window_in window) place first) where
  -- before the end something stands
  pub none_here : place < tree_size (tree_in window.tree) → node_in None ≡ slice_get (nodes_of (tree_in window.tree)) place
      → BestBefore (uses (whole (front_in window.tree))) (window_in window) (place + 1) first
  none_here within e =
      let end = none_left (nodes_of (tree_in window.tree)) place (sym e) in
      let count = nodes_count (tree_in window.tree) in
      absurd (omega arith)

  module _ (it : Candidate) (found : node_in (Some it) ≡ slice_get (nodes_of (tree_in window.tree)) place)
      (scoped : Scoped (uses (whole (front_in window.tree))) (whole (front_in window.tree))) where
    pub later_here : comes_before it.tag it.origin first ≡ false → BestBefore (uses (whole (front_in window.tree))) (window_in window) (place + 1) first
    later_here e = look_behind (uses (whole (front_in window.tree))) window place (place + 1) (node_of it) (sym found) refl first before e

    pub waiting_here : (b : Bool) → (b ≡ true) ↔ IsReadyHere (unwritten_above (tree_in window.tree) place) (window_in window) place it.item (node_of it).operands
        → b ≡ false → BestBefore (uses (whole (front_in window.tree))) (window_in window) (place + 1) first
    waiting_here b iff e = look_unready (uses (whole (front_in window.tree))) window place (place + 1) (node_of it) (sym found) refl first before b (ready_known window place it found scoped b iff) e

    pub found_here : (b : Bool) → comes_before it.tag it.origin first ≡ true
        → (b ≡ true) ↔ IsReadyHere (unwritten_above (tree_in window.tree) place) (window_in window) place it.item (node_of it).operands → b ≡ true
        → BestBefore (uses (whole (front_in window.tree))) (window_in window) (place + 1) (Some (record { tag = it.tag; origin = it.origin; place = place; item = it.item }))
    found_here b e iff f = look_found (uses (whole (front_in window.tree))) window place (place + 1) (node_of it) (sym found) refl first before b e (ready_known window place it found scoped b iff) f

pub ruleset looking = (none_here, later_here, waiting_here, found_here)
