-- The way to a place, as code goes down to it; and that it leads to what is ready there.
use Rattle.std.proofs.Common.{◌≡◌, ◌≢◌, ℕ, suc, ◌+◌, ◌-◌, ◌<◌, ◌≤◌, Bool, true, false, List, [], ◌∷◌, ◌++◌, Option, refl, sym, ◌∙◌, ap, subst, arith}
use Rattle.std.proofs.lemmas.List.{append-nil, append_assoc}
use Rattle.pc_word.specs.declared.item.Item.{Item}
use Rattle.pc_word.specs.declared.item.Operand.{Operand}
use Rattle.pc_linear.specs.Form.{Form}
use Rattle.pc_window.specs.Tree.{Tree, Pending, Undecided, Exit, Stop_exit, Trap_exit, Front, Issued, Split, Unfinished, whole, tree_size}
use Rattle.pc_window.specs.Ready.{CanRise, Stands_here, Stands_below, Stands_on_yes, Stands_on_no, CanDivide, Divides_here, Divides_below}
use Rattle.pc_window.specs.Ready.{IsReadyAt, Item_ready, Test_ready, Ready_below, Ready_on_yes, Ready_on_no}
use Rattle.pc_window.specs.declared.tree.WindowTree.{WindowTree}
use Rattle.pc_window.specs.StoredWindow.{tree_in, front_in}
use Rattle.pc_window.proofs.WindowsStored.{whole_in}
use Rattle.pc_fill.specs.models.Way.{Leads, To_item, To_test, Below_item, On_yes_side, On_no_side, Reaches, Behind_leaf, Behind_item, Behind_yes, Behind_no}
use Rattle.pc_fill.specs.models.Way.{sides_to, depth_in, depth_behind}
use Rattle.pc_fill.proofs.Along.{leads_within, reaches_within}
use Rattle.pc_fill.proofs.Entered.{at_below, on_yes_side, on_no_side}

-- ---- the sides, as code writes them

no_sides : (t : Tree) → sides_to t 0 ≡ []
no_sides (Pending t o x rest) = refl
no_sides (Undecided t o on p q) = refl
no_sides (Exit region tag homes) = refl
no_sides Stop_exit = refl
no_sides (Trap_exit kind line) = refl

pub sides_root : (tree : Tree) (place : ℕ) (way : List Bool) → place ≡ 0 → way ≡ way ++ sides_to tree place
sides_root tree place way e = sym (append-nil way) ∙ ap (λ (l : List Bool). way ++ l) (sym (ap (sides_to tree) e ∙ no_sides tree))

module _ (t o place : ℕ) (ne : place ≢ 0) (before : List Bool) where
  step : place ≡ suc (place - 1)
  step = omega arith

  pub sides_below : (x : Item) (rest : Tree) (after : List Bool) → after ≡ before ++ sides_to rest (place - 1) → after ≡ before ++ sides_to (Pending t o x rest) place
  sides_below x rest after is = is ∙ ap (λ (l : List Bool). before ++ l) (sym (at_below [] (sides_to rest) place (place - 1) step))

  pub sides_yes : (on : Operand) (p q : Tree) (n : ℕ) (middle after : List Bool) → n ≤ tree_size p → place - 1 < n → middle ≡ before ++ (true ∷ [])
      → after ≡ middle ++ sides_to p (place - 1) → after ≡ before ++ sides_to (Undecided t o on p q) place
  sides_yes on p q n middle after size less turned is =
      is ∙ ap (λ (l : List Bool). l ++ sides_to p (place - 1)) turned ∙ append_assoc before (true ∷ []) (sides_to p (place - 1))
      ∙ ap (λ (l : List Bool). before ++ l)
      (sym (on_yes_side [] (λ k. true ∷ sides_to p k) (λ k. false ∷ sides_to q (k - tree_size p)) place (place - 1) (tree_size p) step (omega arith)))

  pub sides_no : (on : Operand) (p q : Tree) (n : ℕ) (middle after : List Bool) → (n < place → n ≡ tree_size p) → n ≤ place - 1 → middle ≡ before ++ (false ∷ [])
      → after ≡ middle ++ sides_to q (place - 1 - n) → after ≡ before ++ sides_to (Undecided t o on p q) place
  sides_no on p q n middle after exact most turned is =
      let size = exact (omega arith) in
      is ∙ ap (λ (l : List Bool). l ++ sides_to q (place - 1 - n)) turned ∙ append_assoc before (false ∷ []) (sides_to q (place - 1 - n))
      ∙ ap (λ (k : ℕ). before ++ (false ∷ sides_to q (place - 1 - k))) size
      ∙ ap (λ (l : List Bool). before ++ l)
      (sym (on_no_side [] (λ k. true ∷ sides_to p k) (λ k. false ∷ sides_to q (k - tree_size p)) place (place - 1) (tree_size p) step (omega arith)))

-- ---- the depth, as code counts it

no_depth : (t : Tree) → 0 ≡ depth_in t 0
no_depth (Pending t o x rest) = refl
no_depth (Undecided t o on p q) = refl
no_depth (Exit region tag homes) = refl
no_depth Stop_exit = refl
no_depth (Trap_exit kind line) = refl

pub depth_root : (tree : Tree) (place : ℕ) → place ≡ 0 → 0 ≡ depth_in tree place
depth_root tree place e = no_depth tree ∙ ap (depth_in tree) (sym e)

module _ (t o place : ℕ) (ne : place ≢ 0) (d : ℕ) where
  step' : place ≡ suc (place - 1)
  step' = omega arith

  pub depth_below : (x : Item) (rest : Tree) → d ≡ depth_in rest (place - 1) → 1 + d ≡ depth_in (Pending t o x rest) place
  depth_below x rest is =
      let more : 1 + d ≡ suc d = omega arith in
      more ∙ ap suc is ∙ sym (at_below 0 (λ k. suc (depth_in rest k)) place (place - 1) step')

  pub depth_yes : (on : Operand) (p q : Tree) (n : ℕ) → n ≤ tree_size p → place - 1 < n → d ≡ depth_in p (place - 1) → d ≡ depth_in (Undecided t o on p q) place
  depth_yes on p q n size less is = is ∙ sym (on_yes_side 0 (depth_in p) (λ k. depth_in q (k - tree_size p)) place (place - 1) (tree_size p) step' (omega arith))

  pub depth_no : (on : Operand) (p q : Tree) (n : ℕ) → (n < place → n ≡ tree_size p) → n ≤ place - 1 → d ≡ depth_in q (place - 1 - n) → d ≡ depth_in (Undecided t o on p q) place
  depth_no on p q n exact most is =
      let size = exact (omega arith) in
      is ∙ ap (λ (k : ℕ). depth_in q (place - 1 - k)) size
      ∙ sym (on_no_side 0 (depth_in p) (λ k. depth_in q (k - tree_size p)) place (place - 1) (tree_size p) step' (omega arith))

  -- the same behind the front
  pub behind_below : (x : Item) (rest : Front) → d ≡ depth_behind rest (place - 1) → d ≡ depth_behind (Issued t o x rest) place
  behind_below x rest is = is ∙ sym (at_below 0 (depth_behind rest) place (place - 1) step')

  module _ (on : Operand) (p q : WindowTree) (n : ℕ) where
    same_size : tree_size (whole (front_in p)) ≡ tree_size (tree_in p)
    same_size = ap tree_size (whole_in p)

    pub behind_yes : n ≤ tree_size (tree_in p) → place - 1 < n → d ≡ depth_behind (front_in p) (place - 1) → d ≡ depth_behind (Split t o on (front_in p) (front_in q)) place
    behind_yes size less is =
        let same = same_size in
        is ∙ sym (on_yes_side 0 (depth_behind (front_in p)) (λ k. depth_behind (front_in q) (k - tree_size (whole (front_in p))))
        place (place - 1) (tree_size (whole (front_in p))) step' (omega arith))

    pub behind_no : (n < place → n ≡ tree_size (tree_in p)) → n ≤ place - 1 → d ≡ depth_behind (front_in q) (place - 1 - n)
        → d ≡ depth_behind (Split t o on (front_in p) (front_in q)) place
    behind_no exact most is =
        let size : n ≡ tree_size (whole (front_in p)) = exact (omega arith) ∙ sym same_size in
        is ∙ ap (λ (k : ℕ). depth_behind (front_in q) (place - 1 - k)) size
        ∙ sym (on_no_side 0 (depth_behind (front_in p)) (λ k. depth_behind (front_in q) (k - tree_size (whole (front_in p)))) place (place - 1) (tree_size (whole (front_in p))) step' (omega arith))

pub behind_item_root : (t o place : ℕ) (x : Item) (rest : Front) → place ≡ 0 → 0 ≡ depth_behind (Issued t o x rest) place
behind_item_root t o place x rest e = ap (depth_behind (Issued t o x rest)) (sym e)

pub behind_test_root : (t o place : ℕ) (on : Operand) (p q : Front) → place ≡ 0 → 0 ≡ depth_behind (Split t o on p q) place
behind_test_root t o place on p q e = ap (depth_behind (Split t o on p q)) (sym e)

pub ruleset sides = (sides_root, sides_below, sides_yes, sides_no)

pub ruleset depths = (depth_root, depth_below, depth_yes, depth_no)

pub ruleset behind = (behind_item_root, behind_test_root, behind_below, behind_yes, behind_no)

-- ---- it leads there

-- a way leads to an item or test behind the front, and it is the one that is written and counted
record WayThere (tree : Tree) (place : ℕ) : Type 0 where
  sides : List Bool
  depth : ℕ
  leads : Leads tree sides depth place
  sides_are : sides ≡ sides_to tree place
  depth_is : depth ≡ depth_in tree place

module _ (t o n : ℕ) where
  way_below : (x : Item) (rest : Tree) → WayThere rest n → WayThere (Pending t o x rest) (suc n)
  way_below x rest w = record {
    sides = w.sides;
    depth = suc w.depth;
    leads = Below_item t o x rest w.sides w.depth n w.leads;
    sides_are = w.sides_are ∙ sym (at_below [] (sides_to rest) (suc n) n refl);
    depth_is = ap suc w.depth_is ∙ sym (at_below 0 (λ k. suc (depth_in rest k)) (suc n) n refl);
  }

  way_yes : (on : Operand) (p q : Tree) → WayThere p n → WayThere (Undecided t o on p q) (suc n)
  way_yes on p q w =
      let less = leads_within p w.sides w.depth n w.leads in
      record {
        sides = true ∷ w.sides;
        depth = w.depth;
        leads = On_yes_side t o on p q w.sides w.depth n w.leads;
        sides_are = ap (λ (l : List Bool). true ∷ l) w.sides_are
            ∙ sym (on_yes_side [] (λ k. true ∷ sides_to p k) (λ k. false ∷ sides_to q (k - tree_size p)) (suc n) n (tree_size p) refl less);
        depth_is = w.depth_is ∙ sym (on_yes_side 0 (depth_in p) (λ k. depth_in q (k - tree_size p)) (suc n) n (tree_size p) refl less);
      }

  way_no : (on : Operand) (p q : Tree) → WayThere q n → WayThere (Undecided t o on p q) (suc (tree_size p + n))
  way_no on p q w =
      let m = tree_size p in
      let back : n ≡ m + n - m = omega arith in
      record {
        sides = false ∷ w.sides;
        depth = w.depth;
        leads = On_no_side t o on p q w.sides w.depth n w.leads;
        sides_are = ap (λ (l : List Bool). false ∷ l) (w.sides_are ∙ ap (sides_to q) back)
            ∙ sym (on_no_side [] (λ k. true ∷ sides_to p k) (λ k. false ∷ sides_to q (k - m)) (suc (m + n)) (m + n) m refl (omega arith));
        depth_is = w.depth_is ∙ ap (depth_in q) back ∙ sym (on_no_side 0 (depth_in p) (λ k. depth_in q (k - m)) (suc (m + n)) (m + n) m refl (omega arith));
      }

rising_way : (forms : ℕ → Form) (x : Item) (tag origin place : ℕ) (c : Bool) (from : Tree) → CanRise forms x tag origin place c from → WayThere from place
rising_way forms x tag origin place c from (Stands_here rest) = record { sides = []; depth = 0; leads = To_item tag origin x rest; sides_are = refl; depth_is = refl }
rising_way forms x tag origin place c from (Stands_below t o y n d rest clear can) = way_below t o n y rest (rising_way forms x tag origin n d rest can)
rising_way forms x tag origin place c from (Stands_on_yes t o on n d p q is can) = way_yes t o n on p q (rising_way forms x tag origin n d p can)
rising_way forms x tag origin place c from (Stands_on_no t o on n d p q is can) = way_no t o n on p q (rising_way forms x tag origin n d q can)

dividing_way : (on : Operand) (tag origin place : ℕ) (from : Tree) → CanDivide on tag origin place from → WayThere from place
dividing_way on tag origin place from (Divides_here p q) = record { sides = []; depth = 0; leads = To_test tag origin on p q; sides_are = refl; depth_is = refl }
dividing_way on tag origin place from (Divides_below t o y n rest can) = way_below t o n y rest (dividing_way on tag origin n rest can)

-- the same from the front
record WayBehind (front : Front) (place : ℕ) : Type 0 where
  sides : List Bool
  depth : ℕ
  reaches : Reaches front sides depth place
  sides_are : sides ≡ sides_to (whole front) place
  depth_is : depth ≡ depth_behind front place

leaf_way : (tree : Tree) (place : ℕ) → WayThere tree place → WayBehind (Unfinished tree) place
leaf_way tree place w = record { sides = w.sides; depth = w.depth; reaches = Behind_leaf tree w.sides w.depth place w.leads; sides_are = w.sides_are; depth_is = w.depth_is }

ready_way : (known : ℕ → Bool) (forms : ℕ → Form) (tag origin place : ℕ) (what : Option Item) (front : Front)
    → IsReadyAt known forms tag origin place what front → WayBehind front place
ready_way known forms tag origin place what front (Item_ready x n c from reads can) = leaf_way from n (rising_way forms x tag origin n c from can)
ready_way known forms tag origin place what front (Test_ready on n from reads can) = leaf_way from n (dividing_way on tag origin n from can)
ready_way known forms tag origin place what front (Ready_below t o y n w rest may ready) =
    let k = ready_way known forms tag origin n w rest ready in
    record {
      sides = k.sides;
      depth = k.depth;
      reaches = Behind_item t o y rest k.sides k.depth n k.reaches;
      sides_are = k.sides_are ∙ sym (at_below [] (sides_to (whole rest)) (suc n) n refl);
      depth_is = k.depth_is ∙ sym (at_below 0 (depth_behind rest) (suc n) n refl);
    }
ready_way known forms tag origin place what front (Ready_on_yes t o on n w p q ready) =
    let k = ready_way known forms tag origin n w p ready in
    let m = tree_size (whole p) in
    let less = reaches_within p k.sides k.depth n k.reaches in
    record {
      sides = true ∷ k.sides;
      depth = k.depth;
      reaches = Behind_yes t o on p q k.sides k.depth n k.reaches;
      sides_are = ap (λ (l : List Bool). true ∷ l) k.sides_are
          ∙ sym (on_yes_side [] (λ i. true ∷ sides_to (whole p) i) (λ i. false ∷ sides_to (whole q) (i - m)) (suc n) n m refl less);
      depth_is = k.depth_is ∙ sym (on_yes_side 0 (depth_behind p) (λ i. depth_behind q (i - m)) (suc n) n m refl less);
    }
ready_way known forms tag origin place what front (Ready_on_no t o on n w p q ready) =
    let k = ready_way known forms tag origin n w q ready in
    let m = tree_size (whole p) in
    let back : n ≡ m + n - m = omega arith in
    record {
      sides = false ∷ k.sides;
      depth = k.depth;
      reaches = Behind_no t o on p q k.sides k.depth n k.reaches;
      sides_are = ap (λ (l : List Bool). false ∷ l) (k.sides_are ∙ ap (sides_to (whole q)) back)
          ∙ sym (on_no_side [] (λ i. true ∷ sides_to (whole p) i) (λ i. false ∷ sides_to (whole q) (i - m)) (suc (m + n)) (m + n) m refl (omega arith));
      depth_is = k.depth_is ∙ ap (depth_behind q) back
          ∙ sym (on_no_side 0 (depth_behind p) (λ i. depth_behind q (i - m)) (suc (m + n)) (m + n) m refl (omega arith));
    }

-- what is written and counted in memory leads to what is ready
pub reaches_ready : (known : ℕ → Bool) (forms : ℕ → Form) (tag origin place : ℕ) (what : Option Item) (tree : WindowTree) (way : List Bool) (depth : ℕ)
    → IsReadyAt known forms tag origin place what (front_in tree)
    → way ≡ [] ++ sides_to (tree_in tree) place → depth ≡ depth_behind (front_in tree) place → Reaches (front_in tree) way depth place
reaches_ready known forms tag origin place what tree way depth ready is counted =
    let k = ready_way known forms tag origin place what (front_in tree) ready in
    let sides : k.sides ≡ way = k.sides_are ∙ ap (λ (t : Tree). sides_to t place) (whole_in tree) ∙ sym is in
    let depth_is : k.depth ≡ depth = k.depth_is ∙ sym counted in
    subst (λ (d : ℕ). Reaches (front_in tree) way d place) depth_is (subst (λ (l : List Bool). Reaches (front_in tree) l k.depth place) sides k.reaches)

pub ruleset reaching = (reaches_ready)
