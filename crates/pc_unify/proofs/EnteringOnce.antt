-- Two items that may become one enter the node above as one.
use Rattle.std.proofs.Common.{◌≡◌, ℕ, ◌+◌, Bool, true, false, [], ◌∷◌, Option, Some, None, refl, sym, subst}
use Rattle.std.specs.Prelude.{◌-◌, if◌then◌else◌, nat_lt}
use Rattle.pc_word.specs.declared.item.Item.{Item}
use Rattle.pc_word.specs.declared.item.Operand.{Operand}
use Rattle.pc_word.specs.Items.{dest_of}
use Rattle.pc_word.specs.Commit.{writes}
use Rattle.pc_linear.specs.Form.{Form}
use Rattle.pc_window.specs.Tree.{Tree, Front, Issued, Split, Unfinished}
use Rattle.pc_window.specs.Names.{IsNew, ReadsKnown, Unwritten, NotWritten}
use Rattle.pc_window.specs.Jump.{GivesForm, Rises, EntersFront, Lands_once, Behind_item, On_yes, On_no}
use Rattle.pc_window.proofs.Readiness.{alike, dest_named, not_written_named}
use Rattle.pc_moveop.specs.NodeTree.{NodeTree, Item_node, Test_node, Leads_to, whole_tree, node_front, leaf_count}
use Rattle.pc_moveop.specs.Climbing.{Passed_item, Mover, passing, mover_in, mover_at, crosses_test}
use Rattle.pc_moveop.specs.Taking.{Coming, node_without, leaf_to, leaf_without}
use Rattle.pc_moveop.proofs.Legal.{ClearWay, clear_alike}
use Rattle.pc_moveop.proofs.Rising.{leaf_front, RisesNamed, rises_named}
use Rattle.pc_moveop.proofs.Paths.{whole_front}
use Rattle.pc_unify.specs.Unifying.{joined, joint_of}
use Rattle.pc_unify.proofs.TwoSides.{Sides, Here, Behind, Within_yes, Within_no}
use Rattle.pc_word.specs.Naming.{with_dest}

module _ (forms forms' : ℕ → Form) (base : ℕ → Bool) (n : ℕ) where
  -- of two items that are found: they enter as one
  abbrev pub EnterOnce : Option Mover → Option Mover → NodeTree → (Coming → NodeTree) → Type 0
  EnterOnce None other from to = Unit {0}
  EnterOnce (Some m) None from to = Unit {0}
  EnterOnce (Some m) (Some k) from to = ClearWay forms m.item m.way → ClearWay forms k.item k.way → with_dest n k.item ≡ with_dest n m.item
      → ReadsKnown base (with_dest n m.item) → IsNew base (dest_of (with_dest n m.item)) → Unwritten n (whole_tree from)
      → GivesForm forms forms' (with_dest n m.item) (dest_of (with_dest n m.item))
      → EntersFront base forms forms' (dest_of (with_dest n m.item)) (Some (with_dest n m.item)) (node_front from) (node_front (to (joint_of n m)))

  once_behind : (t o : ℕ) (y : Item) (rest : NodeTree) (to : Coming → NodeTree) (found other : Option Mover) → EnterOnce found other rest to
      → EnterOnce (passing (Passed_item true o y) found) (passing (Passed_item true o y) other) (Item_node t o y rest) (λ c. Item_node t o y (to c))
  once_behind t o y rest to None other h = tt
  once_behind t o y rest to (Some m) None h = tt
  once_behind t o y rest to (Some m) (Some k) h = λ clear clear' same reads isnew free gives.
      let z = with_dest n m.item in
      let apart : IsNew (writes (dest_of y)) (dest_of z) = dest_named n m.item (IsNew (writes (dest_of y))) free.0 tt in
      let item = (clear_alike forms m.item z (alike n m.item) (Passed_item true o y ∷ []) (clear.0, tt)).0 in
      Behind_item t o y (Some z) (node_front rest) (node_front (to (joint_of n m))) (record { no_store_dependence = item.order; one_effect = item.one_effect }, apart) apart
      (h clear.1 clear'.1 same reads isnew free.1 gives)

  once_yes : (t o : ℕ) (on : Operand) (p q : NodeTree) (to : Coming → NodeTree) (found other : Option Mover) → EnterOnce found other p to
      → EnterOnce found other (Test_node t o on p q) (λ c. Test_node t o on (to c) q)
  once_yes t o on p q to None other h = tt
  once_yes t o on p q to (Some m) None h = tt
  once_yes t o on p q to (Some m) (Some k) h = λ clear clear' same reads isnew free gives.
      let z = with_dest n m.item in
      let apart = subst (λ (u : Tree). NotWritten (dest_of z) u) (sym (whole_front q)) (not_written_named n m.item (whole_tree q) free.1) in
      On_yes t o on (Some z) (node_front p) (node_front q) (node_front (to (joint_of n m))) apart (h clear clear' same reads isnew free.0 gives)

  once_no : (t o : ℕ) (on : Operand) (p q : NodeTree) (to : Coming → NodeTree) (found other : Option Mover) → EnterOnce found other q to
      → EnterOnce found other (Test_node t o on p q) (λ c. Test_node t o on p (to c))
  once_no t o on p q to None other h = tt
  once_no t o on p q to (Some m) None h = tt
  once_no t o on p q to (Some m) (Some k) h = λ clear clear' same reads isnew free gives.
      let z = with_dest n m.item in
      let apart = subst (λ (u : Tree). NotWritten (dest_of z) u) (sym (whole_front p)) (not_written_named n m.item (whole_tree p) free.0) in
      On_no t o on (Some z) (node_front p) (node_front q) (node_front (to (joint_of n m))) apart (h clear clear' same reads isnew free.1 gives)

  module _ (yes_place no_place : ℕ) where
    -- right below the test
    once_here : (t o : ℕ) (on : Operand) (below below' : NodeTree) (found other : Option Mover)
        → RisesNamed forms n (whole_tree below) (λ d. whole_tree (node_without d yes_place below)) found
        → RisesNamed forms n (whole_tree below') (λ d. whole_tree (node_without d no_place below')) other
        → EnterOnce found other (Test_node t o on (Leads_to below) (Leads_to below'))
        (λ c. Item_node c.tag c.origin c.item (Test_node t o on (leaf_to (node_without (dest_of c.item) yes_place below)) (leaf_to (node_without (dest_of c.item) no_place below'))))
    once_here t o on below below' None other h h' = tt
    once_here t o on below below' (Some m) None h h' = tt
    once_here t o on below below' (Some m) (Some k) h h' = λ clear clear' same reads isnew free gives.
        let z = with_dest n m.item in
        let left = node_without (dest_of z) yes_place below in
        let left' = node_without (dest_of z) no_place below' in
        let rises' : Rises forms k.tag k.origin k.item z (crosses_test k) (whole_tree below') (whole_tree left') =
        subst (λ (x : Item). Rises forms k.tag k.origin k.item x (crosses_test k) (whole_tree below') (whole_tree (node_without (dest_of x) no_place below'))) same (h' clear' free.1) in
        subst (λ (f : Front). EntersFront base forms forms' (dest_of z) (Some z) (Split t o on (Unfinished (whole_tree below)) (Unfinished (whole_tree below')))
        (Issued m.tag m.origin z (Split t o on f (node_front (leaf_to left'))))) (sym (leaf_front left))
        (subst (λ (f : Front). EntersFront base forms forms' (dest_of z) (Some z) (Split t o on (Unfinished (whole_tree below)) (Unfinished (whole_tree below')))
        (Issued m.tag m.origin z (Split t o on (Unfinished (whole_tree left)) f))) (sym (leaf_front left'))
        (Lands_once t o on m.tag m.origin k.tag k.origin n m.item k.item (crosses_test m) (crosses_test k) (whole_tree below) (whole_tree below') (whole_tree left) (whole_tree left')
        same reads isnew refl gives (h clear free.0) rises'))

    -- where these two leaves are
    abbrev EnterBelow : ℕ → NodeTree → Type 0
    EnterBelow leaf t = EnterOnce (mover_at leaf yes_place t) (mover_at (leaf + 1) no_place t) t (λ c. joined c leaf yes_place no_place t)

    by_yes : (leaf t o : ℕ) (on : Operand) (p q : NodeTree) (here lt next : Bool) → here ≡ false → lt ≡ true → next ≡ true → EnterBelow leaf p
        → EnterOnce (if lt then mover_at leaf yes_place p else mover_at (leaf - leaf_count p) yes_place q)
        (if next then mover_at (leaf + 1) no_place p else mover_at (leaf + 1 - leaf_count p) no_place q) (Test_node t o on p q)
        (λ c. if here then Item_node c.tag c.origin c.item (Test_node t o on (leaf_without (dest_of c.item) yes_place p) (leaf_without (dest_of c.item) no_place q))
        else if lt then Test_node t o on (joined c leaf yes_place no_place p) q else Test_node t o on p (joined c (leaf - leaf_count p) yes_place no_place q))
    by_yes leaf t o on p q false true true a b e h =
        once_yes t o on p q (λ c. joined c leaf yes_place no_place p) (mover_at leaf yes_place p) (mover_at (leaf + 1) no_place p) h
    by_yes leaf t o on p q true lt next a b e h = absurd (cc)
    by_yes leaf t o on p q false false next a b e h = absurd (cc)
    by_yes leaf t o on p q false true false a b e h = absurd (cc)

    by_no : (leaf t o : ℕ) (on : Operand) (p q : NodeTree) (here lt next : Bool) (after : ℕ) → here ≡ false → lt ≡ false → next ≡ false
        → after ≡ (leaf - leaf_count p) + 1 → EnterBelow (leaf - leaf_count p) q
        → EnterOnce (if lt then mover_at leaf yes_place p else mover_at (leaf - leaf_count p) yes_place q)
        (if next then mover_at (leaf + 1) no_place p else mover_at after no_place q) (Test_node t o on p q)
        (λ c. if here then Item_node c.tag c.origin c.item (Test_node t o on (leaf_without (dest_of c.item) yes_place p) (leaf_without (dest_of c.item) no_place q))
        else if lt then Test_node t o on (joined c leaf yes_place no_place p) q else Test_node t o on p (joined c (leaf - leaf_count p) yes_place no_place q))
    by_no leaf t o on p q false false false after a b e same h =
        once_no t o on p q (λ c. joined c (leaf - leaf_count p) yes_place no_place q) (mover_at (leaf - leaf_count p) yes_place q) (mover_at after no_place q)
        (subst (λ (l : ℕ). EnterOnce (mover_at (leaf - leaf_count p) yes_place q) (mover_at l no_place q) q (λ c. joined c (leaf - leaf_count p) yes_place no_place q)) (sym same) h)
    by_no leaf t o on p q true lt next after a b e same h = absurd (cc)
    by_no leaf t o on p q false true next after a b e same h = absurd (cc)
    by_no leaf t o on p q false false true after a b e same h = absurd (cc)

    pub enter_once : (leaf : ℕ) (t : NodeTree) → Sides leaf t → EnterBelow leaf t
    enter_once leaf node (Here t o on below below') =
        once_here t o on below below' (mover_in yes_place below) (mover_in no_place below') (rises_named forms n yes_place below) (rises_named forms n no_place below')
    enter_once leaf node (Behind l t o y rest s) =
        once_behind t o y rest (λ c. joined c l yes_place no_place rest) (mover_at l yes_place rest) (mover_at (l + 1) no_place rest) (enter_once l rest s)
    enter_once leaf node (Within_yes l t o on p q here lt next s) =
        by_yes l t o on p q _ (nat_lt l (leaf_count p)) (nat_lt (l + 1) (leaf_count p)) here lt next (enter_once l p s)
    enter_once leaf node (Within_no l t o on p q here lt next same s) =
        by_no l t o on p q _ (nat_lt l (leaf_count p)) (nat_lt (l + 1) (leaf_count p)) (l + 1 - leaf_count p) here lt next same (enter_once (l - leaf_count p) q s)
