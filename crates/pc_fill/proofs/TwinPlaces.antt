-- Whether an item has a twin at a place, as code looks there.
use Rattle.std.proofs.Common.{◌≡◌, ◌≢◌, ◌↔◌, ℕ, ◌-◌, ◌<◌, ◌≤◌, Bool, true, false, Option, Some, None, sym, ◌∙◌, ap, subst, lt-ltb, arith}
use Rattle.std.specs.Prelude.{nat_lt, slice_get}
use Rattle.pc_word.proofs.Truth.{of_most, fails_here, same_fact, holds_here}
use Rattle.pc_word.specs.declared.item.Item.{Item}
use Rattle.pc_word.specs.declared.item.Operand.{Operand}
use Rattle.pc_word.specs.Items.{operands_of}
use Rattle.pc_linear.specs.Form.{Form}
use Rattle.pc_window.specs.Tree.{Tree, Front, Issued, Split, whole, tree_size}
use Rattle.pc_window.specs.declared.tree.WindowTree.{WindowTree}
use Rattle.pc_window.specs.StoredWindow.{tree_in, front_in}
use Rattle.pc_window.proofs.WindowsStored.{whole_in}
use Rattle.pc_fill.specs.declared.first.Candidate.{Candidate}
use Rattle.pc_fill.specs.models.Places.{Node, nodes_of, node_of, node_in, MayRise}
use Rattle.pc_fill.specs.models.Landing.{both_unfinished, TwinsAt, TwinHere, TwinIn, TwinFor, ComesWith}
use Rattle.pc_fill.proofs.Sides.{root_only, under_root, below_only, side_first, first_only, side_second, second_only}
use Rattle.pc_fill.proofs.Nodes.{ComesUp, comes_up}
use Rattle.pc_fill.proofs.Twins.{twin_here}
use Rattle.pc_word.specs.Naming.{with_dest}

-- ---- in a tree

one_node : (a b : Node) → Some a ≡ Some b → a ≡ b
one_node a b e = cc

one_item : (a b : Item) → Some a ≡ Some b → a ≡ b
one_item a b e = cc

module _ (forms : ℕ → Form) (next tag origin : ℕ) (item : Item) (tree : Tree) (place : ℕ) where
  pub nothing_there : node_in None ≡ slice_get (nodes_of tree) place → (false ≡ true) ↔ TwinHere forms next tag origin item tree place
  nothing_there at = fails_here (TwinHere forms next tag origin item tree place) (λ h. absurd (let e : None ≡ Some _ = at ∙ h.at in cc))

  node_there : (it : Candidate) → node_in (Some it) ≡ slice_get (nodes_of tree) place → (h : TwinHere forms next tag origin item tree place)
      → record { tag = tag; origin = origin; what = Some h.other; operands = operands_of h.other } ≡ node_of it
  node_there it at h = one_node (record { tag = tag; origin = origin; what = Some h.other; operands = operands_of h.other }) (node_of it) (sym h.at ∙ sym at)

  pub test_there : (it : Candidate) → it.item ≡ None → node_in (Some it) ≡ slice_get (nodes_of tree) place → (false ≡ true) ↔ TwinHere forms next tag origin item tree place
  test_there it none at = fails_here (TwinHere forms next tag origin item tree place)
      (λ h. absurd (let e : Some h.other ≡ None = ap (λ (n : Node). n.what) (node_there it at h) ∙ none in cc))

  pub item_there : (it : Candidate) (other : Item) (c : Bool) → it.item ≡ Some other → node_in (Some it) ≡ slice_get (nodes_of tree) place
      → (c ≡ true) ↔ TwinsAt forms next tag origin item it.tag it.origin other tree place → (c ≡ true) ↔ TwinHere forms next tag origin item tree place
  item_there it other c is at iff =
      same_fact c (TwinsAt forms next tag origin item it.tag it.origin other tree place) (TwinHere forms next tag origin item tree place)
      (λ h.
      let up : ComesUp forms (node_of it) it.item place tree =
      comes_up forms tree place (node_of it) (sym at) (subst (λ (w : Option Item). MayRise forms w tree place) (sym is) h.way) in
      let k : ComesUp forms (node_of it) (Some other) place tree = subst (λ (w : Option Item). ComesUp forms (node_of it) w place tree) is up in
      twin_here forms next tag origin item it.tag it.origin other tree place
      (sym at ∙ ap Some (λ i. record { tag = it.tag; origin = it.origin; what = is i; operands = k.0 i })) h)
      (λ h.
      let same = node_there it at h in
      let item_same : h.other ≡ other = one_item h.other other (ap (λ (n : Node). n.what) same ∙ is) in
      record {
        tags = sym (ap (λ (n : Node). n.tag) same);
        origins = sym (ap (λ (n : Node). n.origin) same);
        alike = ap (with_dest next) (sym item_same) ∙ h.alike;
        way = subst (λ (x : Item). MayRise forms (Some x) tree place) item_same h.way;
      })
      iff

-- ---- behind the front

module _ (forms : ℕ → Form) (next tag origin : ℕ) (item : Item) (t o place k : ℕ) where
  pub item_root : (y : Item) (rest : Front) → place ≡ 0 → (false ≡ true) ↔ TwinIn forms next tag origin item (Issued t o y rest) place k
  item_root y rest e = fails_here (TwinIn forms next tag origin item (Issued t o y rest) place k) (λ h. root_only place ⊥ _ e h)

  pub item_below : (y : Item) (rest : Front) (c : Bool) → place ≢ 0 → (c ≡ true) ↔ TwinIn forms next tag origin item rest (place - 1) k
      → (c ≡ true) ↔ TwinIn forms next tag origin item (Issued t o y rest) place k
  item_below y rest c ne iff =
      same_fact c (TwinIn forms next tag origin item rest (place - 1) k) (TwinIn forms next tag origin item (Issued t o y rest) place k)
      (λ h. under_root place ⊥ _ ne h) (λ h. below_only place ⊥ _ ne h) iff

  pub test_root : (on : Operand) (p q : Front) → place ≡ 0 → (false ≡ true) ↔ TwinIn forms next tag origin item (Split t o on p q) place k
  test_root on p q e = fails_here (TwinIn forms next tag origin item (Split t o on p q) place k) (λ h. root_only place ⊥ _ e h)

  -- on a side of a test of the front, whose yes side has so many items and tests where they were counted so far
  module _ (on : Operand) (p q : WindowTree) (c : Bool) (n : ℕ) (ne : place ≢ 0) where
    same_size : tree_size (whole (front_in p)) ≡ tree_size (tree_in p)
    same_size = ap tree_size (whole_in p)

    pub on_no : (n < place → n ≡ tree_size (tree_in p)) → n ≤ place - 1 → (c ≡ true) ↔ TwinIn forms next tag origin item (front_in q) (place - 1 - n) k
        → (c ≡ true) ↔ TwinIn forms next tag origin item (Split t o on (front_in p) (front_in q)) place k
    on_no exact most iff =
        let size : n ≡ tree_size (whole (front_in p)) = exact (omega arith) ∙ sym same_size in
        let test : nat_lt (place - 1) (tree_size (whole (front_in p))) ≡ false = of_most (place - 1) (tree_size (whole (front_in p))) (omega arith) in
        same_fact c (TwinIn forms next tag origin item (front_in q) (place - 1 - n) k) (TwinIn forms next tag origin item (Split t o on (front_in p) (front_in q)) place k)
        (λ h. under_root place ⊥ _ ne (side_second (nat_lt (place - 1) (tree_size (whole (front_in p)))) _ _ test
        (subst (λ (j : ℕ). TwinIn forms next tag origin item (front_in q) (place - 1 - j) k) size h)))
        (λ h. subst (λ (j : ℕ). TwinIn forms next tag origin item (front_in q) (place - 1 - j) k) (sym size)
        (second_only (nat_lt (place - 1) (tree_size (whole (front_in p)))) _ _ test (below_only place ⊥ _ ne h))) iff

    pub across : n ≤ tree_size (tree_in p) → place - 1 < n → both_unfinished (front_in p) (front_in q) ≡ true
        → (c ≡ true) ↔ TwinHere forms next tag origin item (tree_in q) k
        → (c ≡ true) ↔ TwinIn forms next tag origin item (Split t o on (front_in p) (front_in q)) place k
    across size less both iff =
        let same = same_size in
        let test : nat_lt (place - 1) (tree_size (whole (front_in p))) ≡ true = lt-ltb (place - 1) (tree_size (whole (front_in p))) (omega arith) in
        same_fact c (TwinHere forms next tag origin item (tree_in q) k) (TwinIn forms next tag origin item (Split t o on (front_in p) (front_in q)) place k)
        (λ h. under_root place ⊥ _ ne (side_first (nat_lt (place - 1) (tree_size (whole (front_in p)))) _ _ test
        (side_first (both_unfinished (front_in p) (front_in q)) _ _ both (subst (λ (tree : Tree). TwinHere forms next tag origin item tree k) (sym (whole_in q)) h))))
        (λ h. subst (λ (tree : Tree). TwinHere forms next tag origin item tree k) (whole_in q)
        (first_only (both_unfinished (front_in p) (front_in q)) _ _ both
        (first_only (nat_lt (place - 1) (tree_size (whole (front_in p)))) _ _ test (below_only place ⊥ _ ne h)))) iff

    pub on_yes : n ≤ tree_size (tree_in p) → place - 1 < n → both_unfinished (front_in p) (front_in q) ≡ false
        → (c ≡ true) ↔ TwinIn forms next tag origin item (front_in p) (place - 1) k
        → (c ≡ true) ↔ TwinIn forms next tag origin item (Split t o on (front_in p) (front_in q)) place k
    on_yes size less apart iff =
        let same = same_size in
        let test : nat_lt (place - 1) (tree_size (whole (front_in p))) ≡ true = lt-ltb (place - 1) (tree_size (whole (front_in p))) (omega arith) in
        same_fact c (TwinIn forms next tag origin item (front_in p) (place - 1) k) (TwinIn forms next tag origin item (Split t o on (front_in p) (front_in q)) place k)
        (λ h. under_root place ⊥ _ ne (side_first (nat_lt (place - 1) (tree_size (whole (front_in p)))) _ _ test
        (side_second (both_unfinished (front_in p) (front_in q)) _ _ apart h)))
        (λ h. second_only (both_unfinished (front_in p) (front_in q)) _ _ apart
        (first_only (nat_lt (place - 1) (tree_size (whole (front_in p)))) _ _ test (below_only place ⊥ _ ne h))) iff

-- ---- alone, or with it

module _ (forms : ℕ → Form) (next tag origin : ℕ) (what : Option Item) (front : Front) (place : ℕ) (twin : Option ℕ) where
  pub may_alone : twin ≡ None → (true ≡ true) ↔ ComesWith forms next tag origin what front place twin
  may_alone e = holds_here (ComesWith forms next tag origin what front place twin) (subst (ComesWith forms next tag origin what front place) (sym e) tt)

  pub test_alone : (k : ℕ) → twin ≡ Some k → what ≡ None → (false ≡ true) ↔ ComesWith forms next tag origin what front place twin
  test_alone k e none = fails_here (ComesWith forms next tag origin what front place twin)
      (λ h. subst (λ (w : Option Item). TwinFor forms next tag origin w front place k) none (subst (ComesWith forms next tag origin what front place) e h))

  pub item_with : (k : ℕ) (item : Item) (c : Bool) → twin ≡ Some k → what ≡ Some item → (c ≡ true) ↔ TwinIn forms next tag origin item front place k
      → (c ≡ true) ↔ ComesWith forms next tag origin what front place twin
  item_with k item c e is iff =
      same_fact c (TwinIn forms next tag origin item front place k) (ComesWith forms next tag origin what front place twin)
      (λ h. subst (ComesWith forms next tag origin what front place) (sym e) (subst (λ (w : Option Item). TwinFor forms next tag origin w front place k) (sym is) h))
      (λ h. subst (λ (w : Option Item). TwinFor forms next tag origin w front place k) is (subst (ComesWith forms next tag origin what front place) e h)) iff

pub ruleset standing = (nothing_there, test_there, item_there)

pub ruleset finding = (item_root, item_below, test_root, on_no, across, on_yes)

pub ruleset coming = (may_alone, test_alone, item_with)
