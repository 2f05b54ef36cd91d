-- Nodes that are joined are of one web.
use Rattle.std.proofs.Common.{◌≡◌, ℕ, zero, suc, ◌<◌, ◌⊎◌, inl, inr, false, ◌||◌, min, nat_eq, List, [], ◌∷◌, ◌++◌, length, Option, Some, None, refl, sym, ◌∙◌, ap, subst, arith}
use Rattle.std.specs.Prelude.{slice_get, slice_set, slice_index_or, IfSome}
use Rattle.pc_word.specs.declared.item.Item.{Item}
use Rattle.pc_word.specs.declared.item.Operand.{Operand}
use Rattle.pc_word.specs.declared.row_tree.RowTree.{RowTree}
use Rattle.pc_word.specs.Items.{dest_of}
use Rattle.pc_word.specs.Commit.{writes}
use Rattle.pc_word.specs.Row.{Then, Either, At_leaf}
use Rattle.pc_word.proofs.Places.{map_at}
use Rattle.pc_word.proofs.Truth.{or_false}
use Rattle.pc_machine.specs.declared.tree.Leaf.{Leaf}
use Rattle.pc_machine.specs.MachineCode.{CodeRow, row_of, rows_of}
use Rattle.pc_settled.specs.declared.register_set.RegisterSet.{RegisterSet}
use Rattle.pc_settled.specs.declared.liveness.Home.{Home}
use Rattle.pc_settled.specs.declared.liveness.Liveness.{Liveness}
use Rattle.pc_settled.specs.Laws.{register_of}
use Rattle.pc_settled.specs.Needed.{Past, Yes_passes, No_passes}
use Rattle.pc_settled.specs.Webs.{Value, At, First, Under, Yes_has, No_has, AreOneWeb, Same, Turned, Joined, Passed, Given}
use Rattle.pc_settled.specs.models.Sets.{member}
use Rattle.pc_settled.specs.models.Found.{AreNeeded, AreJoined, LeadsTo, Joins, IsNodeAt, FindsBelow, JoinsBelow, JoinsGiven, JoinsLeaf, JoinsRow, value_in}
use Rattle.pc_settled.proofs.Needs.{leaf_passes}

-- ---- the law

-- all values of a web have one register
pub one_register : (rows : List CodeRow) (one other : Value) → AreOneWeb rows one other → register_of one ≡ register_of other
one_register rows one other Same = refl
one_register rows one other (Turned web) = sym (one_register rows other one web)
one_register rows one other (Joined {between = between} first second) = one_register rows one between first ∙ one_register rows between other second
one_register rows one other (Passed there passes) = refl
one_register rows one other (Given number there has is first second) = refl

-- ---- what nodes name

-- what a node names, once one of them names another one
named : (up : List ℕ) (at above node default : ℕ)
    → (slice_index_or (slice_set up at above) node default ≡ slice_index_or up node default) ⊎ ((node ≡ at) × (slice_index_or (slice_set up at above) node default ≡ above))
named [] at above node default = inl refl
named (other ∷ up) zero above zero default = inr (refl, refl)
named (other ∷ up) zero above (suc node) default = inl refl
named (other ∷ up) (suc at) above zero default = inl refl
named (other ∷ up) (suc at) above (suc node) default = elim (named up at above node default) [
  | inl same ↦ inl same
  | inr there ↦ inr (ap suc there.0, there.1)
]

-- a node that names one of its web
pub set_joined : (rows : List CodeRow) (homes : List Home) (up : List ℕ) (at above : ℕ) → AreOneWeb rows (value_in homes at) (value_in homes above)
    → AreJoined rows homes up → AreJoined rows homes (slice_set up at above)
set_joined rows homes up at above web all = record {
  joined = λ node. elim (named up at above node node) [
    | inl same ↦ subst (λ (n : ℕ). AreOneWeb rows (value_in homes node) (value_in homes n)) (sym same) (all.joined node)
    | inr there ↦ subst (λ (n : ℕ). AreOneWeb rows (value_in homes node) (value_in homes n)) (sym there.1)
        (subst (λ (n : ℕ). AreOneWeb rows (value_in homes n) (value_in homes above)) (sym there.0) web)
  ];
}

-- each node by itself
pub own_joined : (rows : List CodeRow) (homes : List Home) (up : List ℕ) → ((node : ℕ) → slice_index_or up node node ≡ node) → AreJoined rows homes up
own_joined rows homes up own = record { joined = λ node. subst (λ (n : ℕ). AreOneWeb rows (value_in homes node) (value_in homes n)) (sym (own node)) Same }

-- what a longer list says at its places
own_or : (up : List ℕ) (node default : ℕ) → (slice_index_or (up ++ length up ∷ []) node default ≡ slice_index_or up node default)
    ⊎ ((node ≡ length up) × (slice_index_or (up ++ length up ∷ []) node default ≡ length up))
own_or up node default = at up (length up) node
  where
    at : (xs : List ℕ) (more n : ℕ) → (slice_index_or (xs ++ more ∷ []) n default ≡ slice_index_or xs n default)
        ⊎ ((n ≡ length xs) × (slice_index_or (xs ++ more ∷ []) n default ≡ more))
    at [] more zero = inr (refl, refl)
    at [] more (suc n) = inl refl
    at (x ∷ xs) more zero = inl refl
    at (x ∷ xs) more (suc n) = elim (at xs more n) [
      | inl same ↦ inl same
      | inr there ↦ inr (ap suc there.0, there.1)
    ]

-- a node more, by itself
pub own_more : (up : List ℕ) (count : ℕ) → length up ≡ count → ((node : ℕ) → slice_index_or up node node ≡ node)
    → (node : ℕ) → slice_index_or (up ++ count ∷ []) node node ≡ node
own_more up count long own node = subst (λ (n : ℕ). slice_index_or (up ++ n ∷ []) node node ≡ node) long (elim (own_or up node node) [
  | inl same ↦ same ∙ own node
  | inr there ↦ there.1 ∙ sym there.0
])

-- ---- sets of nodes

-- a node leads to itself, and to what one to which it leads names
pub leads_itself : (up : List ℕ) (node : ℕ) → LeadsTo up node node
leads_itself up node = record { leads = λ rows homes all. Same }

pub leads_on : (up : List ℕ) (node at above : ℕ) → LeadsTo up node at → above ≡ slice_index_or up at at → LeadsTo up node above
leads_on up node at above first is = record {
  leads = λ rows homes all. Joined (first.leads rows homes all)
      (subst (λ (n : ℕ). AreOneWeb rows (value_in homes at) (value_in homes n)) (sym is) (all.joined at));
}

-- the less of two numbers is one of them
less_is : (one other : ℕ) → (min one other ≡ one) ⊎ (min one other ≡ other)
less_is one other = grind arith

-- two nodes are joined by the least of their sets
pub joins : (up up1 up2 up3 up4 : List ℕ) (one other first second least : ℕ) → LeadsTo up one first → LeadsTo up other second → least ≡ min first second
    → up1 ≡ slice_set up first least → up2 ≡ slice_set up1 second least → up3 ≡ slice_set up2 one least → up4 ≡ slice_set up3 other least → Joins up up4 one other
joins up up1 up2 up3 up4 one other first second least one_leads other_leads least_is is1 is2 is3 is4 = record {
  keeps = λ rows homes web all.
      let W : ℕ → ℕ → Type 0 = λ n m. AreOneWeb rows (value_in homes n) (value_in homes m) in
      let one_first : W one first = one_leads.leads rows homes all in
      let other_second : W other second = other_leads.leads rows homes all in
      let first_second : W first second = Joined (Turned one_first) (Joined web other_second) in
      let first_least : W first least = elim (less_is first second) [
        | inl is ↦ subst (λ n. W first n) (sym (least_is ∙ is)) Same
        | inr is ↦ subst (λ n. W first n) (sym (least_is ∙ is)) first_second
      ] in
      let second_least : W second least = Joined (Turned first_second) first_least in
      let all1 : AreJoined rows homes up1 = subst (λ u. AreJoined rows homes u) (sym is1) (set_joined rows homes up first least first_least all) in
      let all2 : AreJoined rows homes up2 = subst (λ u. AreJoined rows homes u) (sym is2) (set_joined rows homes up1 second least second_least all1) in
      let all3 : AreJoined rows homes up3 = subst (λ u. AreJoined rows homes u) (sym is3) (set_joined rows homes up2 one least (Joined one_first first_least) all2) in
      subst (λ u. AreJoined rows homes u) (sym is4) (set_joined rows homes up3 other least (Joined other_second second_least) all3);
}

-- ---- the node of a register below

module _ (live : Liveness) (register node : ℕ) where
  -- in the row to which a leaf leads
  pub below_leaf : (tree : RowTree Leaf) (leaf : Leaf) → row_of tree ≡ At_leaf leaf → IsNodeAt live leaf register node → FindsBelow live (row_of tree) register node
  below_leaf tree leaf is at = rw is (record {
    found = λ rows needed. record {
      to = at.to;
      passes = leaf_passes rows leaf register at.to at.leads (needed.needed at.to register at.small at.has);
      is = at.is;
    };
  })

  -- past an item
  pub below_item : (tree next : RowTree Leaf) (item : Item) → row_of tree ≡ Then item (row_of next) → writes (dest_of item) register ≡ false
      → FindsBelow live (row_of next) register node → FindsBelow live (row_of tree) register node
  below_item tree next item is past below = rw is (record {
    found = λ rows needed.
        let there = below.found rows needed in
        record { to = there.to; passes = Past past there.passes; is = there.is };
  })

  -- on one side or the other
  pub below_yes : (tree yes_side no_side : RowTree Leaf) (on : Operand) → row_of tree ≡ Either on (row_of yes_side) (row_of no_side)
      → FindsBelow live (row_of yes_side) register node → FindsBelow live (row_of tree) register node
  below_yes tree yes_side no_side on is below = rw is (record {
    found = λ rows needed.
        let there = below.found rows needed in
        record { to = there.to; passes = Yes_passes there.passes; is = there.is };
  })

  pub below_no : (tree yes_side no_side : RowTree Leaf) (on : Operand) → row_of tree ≡ Either on (row_of yes_side) (row_of no_side)
      → FindsBelow live (row_of no_side) register node → FindsBelow live (row_of tree) register node
  below_no tree yes_side no_side on is below = rw is (record {
    found = λ rows needed.
        let there = below.found rows needed in
        record { to = there.to; passes = No_passes there.passes; is = there.is };
  })

-- the same, of what is found
some_below : (found : Option ℕ) (P Q : ℕ → Type 0) → ((node : ℕ) → P node → Q node) → IfSome found P → IfSome found Q
some_below None P Q forth there = tt
some_below (Some node) P Q forth there = forth node there

pub found_item : (live : Liveness) (register : ℕ) (tree next : RowTree Leaf) (item : Item) (found : Option ℕ) → row_of tree ≡ Then item (row_of next)
    → writes (dest_of item) register ≡ false → IfSome found (λ node. FindsBelow live (row_of next) register node)
    → IfSome found (λ node. FindsBelow live (row_of tree) register node)
found_item live register tree next item found is past =
    some_below found (λ node. FindsBelow live (row_of next) register node) (λ node. FindsBelow live (row_of tree) register node)
    (λ node. below_item live register node tree next item is past)

pub found_no : (live : Liveness) (register : ℕ) (tree yes_side no_side : RowTree Leaf) (on : Operand) (found : Option ℕ)
    → row_of tree ≡ Either on (row_of yes_side) (row_of no_side) → IfSome found (λ node. FindsBelow live (row_of no_side) register node)
    → IfSome found (λ node. FindsBelow live (row_of tree) register node)
found_no live register tree yes_side no_side on found is =
    some_below found (λ node. FindsBelow live (row_of no_side) register node) (λ node. FindsBelow live (row_of tree) register node)
    (λ node. below_no live register node tree yes_side no_side on is)

pub found_leaf : (live : Liveness) (register : ℕ) (tree : RowTree Leaf) (leaf : Leaf) (found : Option ℕ) → row_of tree ≡ At_leaf leaf
    → IfSome found (λ node. IsNodeAt live leaf register node) → IfSome found (λ node. FindsBelow live (row_of tree) register node)
found_leaf live register tree leaf found is =
    some_below found (λ node. IsNodeAt live leaf register node) (λ node. FindsBelow live (row_of tree) register node)
    (λ node. below_leaf live register node tree leaf is)

-- ---- nodes that are joined below

module _ (live : Liveness) (register node : ℕ) where
  pub joins_nothing_below : (row : CodeRow) (up : List ℕ) → JoinsBelow live row register node up up
  joins_nothing_below row up = record { keeps = λ rows needed alike all. all }

  pub joins_past : (tree next : RowTree Leaf) (item : Item) (old new : List ℕ) → row_of tree ≡ Then item (row_of next) → writes (dest_of item) register ≡ false
      → JoinsBelow live (row_of next) register node old new → JoinsBelow live (row_of tree) register node old new
  joins_past tree next item old new is past below = rw is (record {
    keeps = λ rows needed alike all.
        below.keeps rows needed (λ to passes. alike to (Past past passes)) all;
  })

  pub joins_sides : (tree yes_side no_side : RowTree Leaf) (on : Operand) (old between new : List ℕ) → row_of tree ≡ Either on (row_of yes_side) (row_of no_side)
      → JoinsBelow live (row_of yes_side) register node old between → JoinsBelow live (row_of no_side) register node between new
      → JoinsBelow live (row_of tree) register node old new
  joins_sides tree yes_side no_side on old between new is first second = rw is (record {
    keeps = λ rows needed alike all.
        second.keeps rows needed (λ to passes. alike to (No_passes passes)) (first.keeps rows needed (λ to passes. alike to (Yes_passes passes)) all);
  })

  pub joins_leaf : (tree : RowTree Leaf) (leaf : Leaf) (other : ℕ) (old new : List ℕ) → row_of tree ≡ At_leaf leaf → IsNodeAt live leaf register other
      → Joins old new node other → JoinsBelow live (row_of tree) register node old new
  joins_leaf tree leaf other old new is at both = rw is (record {
    keeps = λ rows needed alike all.
        let passes = leaf_passes rows leaf register at.to at.leads (needed.needed at.to register at.small at.has) in
        both.keeps rows live.homes.items (subst (λ (v : Value). AreOneWeb rows (value_in live.homes.items node) v) (sym at.is) (alike at.to passes)) all;
  })

  -- nodes of what an item gives
  pub joins_given : (row : CodeRow) (old new : List ℕ) → FindsBelow live row register node → JoinsBelow live row register node old new
      → JoinsGiven live row register old new
  joins_given row old new found below = record {
    keeps = λ rows needed alike all.
        let there = found.found rows needed in
        below.keeps rows needed (λ to passes.
        subst (λ (v : Value). AreOneWeb rows v (At to register)) (sym there.is) (alike there.to to there.passes passes)) all;
  }

pub joins_not_given : (live : Liveness) (row : CodeRow) (register : ℕ) (up : List ℕ) → JoinsGiven live row register up up
joins_not_given live row register up = record { keeps = λ rows needed alike all. all }

-- ---- nodes that are joined at leaves

module _ (live : Liveness) (number : ℕ) (leaf : Leaf) (written : RegisterSet) where
  pub leaf_joins_nothing : (up : List ℕ) → JoinsLeaf live number leaf written up up
  leaf_joins_nothing up = record { keeps = λ rows needed alike all. all }

  pub leaf_joins_then : (old between new : List ℕ) → JoinsLeaf live number leaf written old between → JoinsLeaf live number leaf written between new
      → JoinsLeaf live number leaf written old new
  leaf_joins_then old between new first second = record { keeps = λ rows needed alike all. second.keeps rows needed alike (first.keeps rows needed alike all) }

  pub leaf_joins : (register here there : ℕ) (old new : List ℕ) → (register < 256 → false ≡ member written register) → IsNodeAt live leaf register there
      → value_in live.homes.items here ≡ At number register → Joins old new here there → JoinsLeaf live number leaf written old new
  leaf_joins register here there old new free at is both = record {
    keeps = λ rows needed alike all.
        let passes = leaf_passes rows leaf register at.to at.leads (needed.needed at.to register at.small at.has) in
        let web = alike register at.to at.small (sym (free at.small)) passes in
        both.keeps rows live.homes.items (subst (λ (v : Value). AreOneWeb rows v (value_in live.homes.items there)) (sym is)
        (subst (λ (v : Value). AreOneWeb rows (At number register) v) (sym at.is) web)) all;
  }

-- ---- nodes that are joined of a row

module _ (live : Liveness) (number : ℕ) where
  pub row_joins_leaf : (tree : RowTree Leaf) (leaf : Leaf) (written : RegisterSet) (old new : List ℕ) → row_of tree ≡ At_leaf leaf
      → JoinsLeaf live number leaf written old new → JoinsRow live number (row_of tree) written old new
  row_joins_leaf tree leaf written old new is at = rw is (record { keeps = λ rows needed alike given all. at.keeps rows needed alike all })

  pub row_joins_sides : (tree yes_side no_side : RowTree Leaf) (on : Operand) (written : RegisterSet) (old between new : List ℕ)
      → row_of tree ≡ Either on (row_of yes_side) (row_of no_side) → JoinsRow live number (row_of yes_side) written old between
      → JoinsRow live number (row_of no_side) written between new → JoinsRow live number (row_of tree) written old new
  row_joins_sides tree yes_side no_side on written old between new is first second = rw is (record {
    keeps = λ rows needed alike given all.
        second.keeps rows needed (λ x to small free passes. alike x to small free (No_passes passes))
        (λ item below dest to other has. given item below dest to other (No_has has))
        (first.keeps rows needed (λ x to small free passes. alike x to small free (Yes_passes passes))
        (λ item below dest to other has. given item below dest to other (Yes_has has)) all);
  })

  -- past an item that writes nothing
  pub row_joins_past : (tree next : RowTree Leaf) (item : Item) (written : RegisterSet) (old new : List ℕ) → row_of tree ≡ Then item (row_of next)
      → dest_of item ≡ None → JoinsRow live number (row_of next) written old new → JoinsRow live number (row_of tree) written old new
  row_joins_past tree next item written old new is none below = rw is (record {
    keeps = λ rows needed alike given all.
        below.keeps rows needed (λ x to small free passes. alike x to small free (Past (ap (λ (o : Option ℕ). writes o x) none) passes))
        (λ item' under dest to other has. given item' under dest to other (Under has)) all;
  })

  -- past an item that writes a register
  pub row_joins_item : (tree next : RowTree Leaf) (item : Item) (dest : ℕ) (written more : RegisterSet) (old between new : List ℕ)
      → row_of tree ≡ Then item (row_of next) → dest_of item ≡ Some dest
      → ((x : ℕ) → x < 256 → member more x ≡ (nat_eq dest x || member written x))
      → JoinsGiven live (row_of next) dest old between → JoinsRow live number (row_of next) more between new
      → JoinsRow live number (row_of tree) written old new
  row_joins_item tree next item dest written more old between new is writes_dest more_is first second = rw is (record {
    keeps = λ rows needed alike given all.
        second.keeps rows needed
        (λ x to small free passes.
        let both = or_false (nat_eq dest x) (member written x) (sym (more_is x small) ∙ free) in
        alike x to small both.1 (Past (ap (λ (o : Option ℕ). writes o x) writes_dest ∙ both.0) passes))
        (λ item' under dest' to other has. given item' under dest' to other (Under has))
        (first.keeps rows needed (λ to other. given item (row_of next) dest to other First writes_dest) all);
  })

-- nodes that are joined of a row of rows
pub row_joined : (live : Liveness) (trees : List (RowTree Leaf)) (at number : ℕ) (tree : RowTree Leaf) (none : RegisterSet) (old new : List ℕ)
    → slice_get trees at ≡ Some tree → number ≡ at → JoinsRow live number (row_of tree) none old new → AreNeeded (rows_of trees) live.rows.items
    → AreJoined (rows_of trees) live.homes.items old → AreJoined (rows_of trees) live.homes.items new
row_joined live trees at number tree none old new there same joined needed all =
    let stands : slice_get (rows_of trees) number ≡ Some (row_of tree) =
    subst (λ (n : ℕ). slice_get (rows_of trees) n ≡ Some (row_of tree)) (sym same) (map_at row_of trees at tree there) in
    joined.keeps (rows_of trees) needed (λ x to small free passes. Passed stands passes)
    (λ item below dest to other has is first second. Given number stands has is first second) all

pub ruleset own_laws = (own_joined, own_more)

pub ruleset join_laws = (joins_nothing_below, joins_past, joins_sides, joins_leaf, joins_given, joins_not_given)

pub ruleset leaf_laws = (leaf_joins_nothing, leaf_joins_then, leaf_joins)

pub ruleset row_laws = (row_joins_leaf, row_joins_sides, row_joins_past, row_joins_item)
