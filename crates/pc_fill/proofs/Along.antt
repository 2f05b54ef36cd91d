-- What comes along a way is what comes from the place where the way leads.
use Rattle.std.proofs.Common.{◌≡◌, ℕ, suc, ◌+◌, ◌-◌, ◌<◌, Bool, true, false, List, Option, Some, None, refl, sym, ◌∙◌, ap, arith}
use Rattle.std.specs.Prelude.{if◌then◌else◌}
use Rattle.pc_word.specs.declared.item.Item.{Item}
use Rattle.pc_word.specs.declared.item.Operand.{Operand}
use Rattle.pc_word.specs.Items.{dest_of}
use Rattle.pc_window.specs.Rename.{mapped}
use Rattle.pc_window.specs.Tree.{Tree, Pending, Undecided, Front, Issued, Split, Unfinished, whole, tree_size}
use Rattle.pc_fill.specs.declared.landing.Coming.{Coming}
use Rattle.pc_fill.specs.models.Taking.{taken_out}
use Rattle.pc_fill.specs.models.Landing.{joins, behind_leaf, above_test, place_or_root, landed, crossed, crosses}
use Rattle.pc_fill.specs.models.Way.{Leads, To_item, To_test, Below_item, On_yes_side, On_no_side, Reaches, Behind_leaf, Behind_item, Behind_yes, Behind_no}
use Rattle.pc_fill.specs.models.Way.{taken_along, some_sides, crosses_along, leaf_along, above_along, landed_along}
use Rattle.pc_fill.proofs.Entered.{at_below, on_yes_side, on_no_side}
use Rattle.pc_word.specs.Naming.{renamed}

-- ---- within

pub leads_within : (tree : Tree) (sides : List Bool) (depth place : ℕ) → Leads tree sides depth place → place < tree_size tree
leads_within tree sides depth place (To_item t o x rest) = omega arith
leads_within tree sides depth place (To_test t o on p q) = omega arith
leads_within tree sides depth place (Below_item t o x rest s d n h) = let a = leads_within rest s d n h in omega arith
leads_within tree sides depth place (On_yes_side t o on p q s d n h) = let a = leads_within p s d n h in omega arith
leads_within tree sides depth place (On_no_side t o on p q s d n h) = let a = leads_within q s d n h in omega arith

pub reaches_within : (front : Front) (sides : List Bool) (depth place : ℕ) → Reaches front sides depth place → place < tree_size (whole front)
reaches_within front sides depth place (Behind_leaf rest s d n h) = leads_within rest s d n h
reaches_within front sides depth place (Behind_item t o x rest s d n h) = let a = reaches_within rest s d n h in omega arith
reaches_within front sides depth place (Behind_yes t o on p q s d n h) = let a = reaches_within p s d n h in omega arith
reaches_within front sides depth place (Behind_no t o on p q s d n h) = let a = reaches_within q s d n h in omega arith

-- ---- what is taken out

taken_led : (name : Option ℕ) (tree : Tree) (sides : List Bool) (depth place : ℕ) → Leads tree sides depth place → taken_along name tree sides depth ≡ taken_out name tree place
taken_led name tree sides depth place (To_item t o x rest) = refl
taken_led name tree sides depth place (To_test t o on p q) = refl
taken_led name tree sides depth place (Below_item t o x rest s d n h) =
    at_below (mapped (renamed (dest_of x) name) rest) (λ k. Pending t o x (taken_along name rest s k)) (suc d) d refl
    ∙ ap (λ (r : Tree). Pending t o x r) (taken_led name rest s d n h)
    ∙ sym (at_below (mapped (renamed (dest_of x) name) rest) (λ k. Pending t o x (taken_out name rest k)) (suc n) n refl)
taken_led name tree sides depth place (On_yes_side t o on p q s d n h) =
    ap (λ (r : Tree). Undecided t o on r q) (taken_led name p s d n h)
    ∙ sym (on_yes_side (Undecided t o on p q) (λ k. Undecided t o on (taken_out name p k) q) (λ k. Undecided t o on p (taken_out name q (k - tree_size p)))
    (suc n) n (tree_size p) refl (leads_within p s d n h))
taken_led name tree sides depth place (On_no_side t o on p q s d n h) =
    let e : n ≡ tree_size p + n - tree_size p = omega arith in
    ap (λ (r : Tree). Undecided t o on p r) (taken_led name q s d n h ∙ ap (taken_out name q) e)
    ∙ sym (on_no_side (Undecided t o on p q) (λ k. Undecided t o on (taken_out name p k) q) (λ k. Undecided t o on p (taken_out name q (k - tree_size p)))
    (suc (tree_size p + n)) (tree_size p + n) (tree_size p) refl (omega arith))

-- ---- whether a test is crossed

crossed_led : (tree : Tree) (sides : List Bool) (depth place : ℕ) → Leads tree sides depth place → some_sides sides ≡ crossed tree place
crossed_led tree sides depth place (To_item t o x rest) = refl
crossed_led tree sides depth place (To_test t o on p q) = refl
crossed_led tree sides depth place (Below_item t o x rest s d n h) = crossed_led rest s d n h ∙ sym (at_below false (crossed rest) (suc n) n refl)
crossed_led tree sides depth place (On_yes_side t o on p q s d n h) = sym (at_below false (λ k. true) (suc n) n refl)
crossed_led tree sides depth place (On_no_side t o on p q s d n h) = sym (at_below false (λ k. true) (suc (tree_size p + n)) (tree_size p + n) refl)

pub crosses_reached : (front : Front) (sides : List Bool) (depth place : ℕ) → Reaches front sides depth place → crosses_along front sides ≡ crosses front place
crosses_reached front sides depth place (Behind_leaf rest s d n h) = crossed_led rest s d n h
crosses_reached front sides depth place (Behind_item t o x rest s d n h) = crosses_reached rest s d n h ∙ sym (at_below false (crosses rest) (suc n) n refl)
crosses_reached front sides depth place (Behind_yes t o on p q s d n h) =
    crosses_reached p s d n h
    ∙ sym (on_yes_side false (crosses p) (λ k. crosses q (k - tree_size (whole p))) (suc n) n (tree_size (whole p)) refl (reaches_within p s d n h))
crosses_reached front sides depth place (Behind_no t o on p q s d n h) =
    let m = tree_size (whole p) in
    let e : n ≡ m + n - m = omega arith in
    crosses_reached q s d n h ∙ ap (crosses q) e
    ∙ sym (on_no_side false (crosses p) (λ k. crosses q (k - m)) (suc (m + n)) (m + n) m refl (omega arith))

-- ---- what comes into the front

module _ (c : Coming) where
  leaf_led : (what : Option Item) (tree : Tree) (sides : List Bool) (depth place : ℕ) → Leads tree sides depth place → leaf_along c what tree sides depth ≡ behind_leaf c what tree place
  leaf_led (Some x) tree sides depth place h = ap (λ (r : Tree). Issued c.tag c.origin x (Unfinished r)) (taken_led (dest_of x) tree sides depth place h)
  leaf_led None tree sides depth place h = refl

  above_led : (what : Option Item) (tag origin : ℕ) (on : Operand) (p q : Tree) (sides : List Bool) (depth place twin : ℕ) → Leads p sides depth place
      → above_along c what tag origin on p q sides depth twin ≡ above_test c what tag origin on p q place twin
  above_led (Some x) tag origin on p q sides depth place twin h =
      ap (λ (r : Tree). Issued c.tag c.origin x (Split tag origin on (Unfinished r) (Unfinished (taken_out (dest_of x) q twin)))) (taken_led (dest_of x) p sides depth place h)
  above_led None tag origin on p q sides depth place twin h = refl

  -- an item has no twin where its side of the test has finished items or tests
  apart_item : (twin : Option ℕ) (tag origin : ℕ) (x : Item) (f q : Front) → joins twin (Issued tag origin x f) q ≡ false
  apart_item (Some twin) tag origin x f q = refl
  apart_item None tag origin x f q = refl

  apart_test : (twin : Option ℕ) (tag origin : ℕ) (on : Operand) (f g q : Front) → joins twin (Split tag origin on f g) q ≡ false
  apart_test (Some twin) tag origin on f g q = refl
  apart_test None tag origin on f g q = refl

  -- on the yes side of a test
  module _ (tag origin : ℕ) (on : Operand) (q : Front) (twin : ℕ) where
    side_reached : (p : Front) (sides : List Bool) (depth place : ℕ) → Reaches p sides depth place → landed_along c p sides depth ≡ landed c p place
        → (b : Bool) → joins c.twin p q ≡ b
        → (if b then above_along c c.item tag origin on (whole p) (whole q) sides depth twin else Split tag origin on (landed_along c p sides depth) q)
        ≡ (if b then above_test c c.item tag origin on (whole p) (whole q) place twin else Split tag origin on (landed c p place) q)
    side_reached p sides depth place h same false e = ap (λ (f : Front). Split tag origin on f q) same
    side_reached p sides depth place (Behind_leaf rest s d n h) same true e = above_led c.item tag origin on rest (whole q) s d n twin h
    side_reached p sides depth place (Behind_item t o x f s d n h) same true e = absurd (let none = apart_item c.twin t o x f q in cc)
    side_reached p sides depth place (Behind_yes t o on' f g s d n h) same true e = absurd (let none = apart_test c.twin t o on' f g q in cc)
    side_reached p sides depth place (Behind_no t o on' f g s d n h) same true e = absurd (let none = apart_test c.twin t o on' f g q in cc)

  pub landed_reached : (front : Front) (sides : List Bool) (depth place : ℕ) → Reaches front sides depth place → landed_along c front sides depth ≡ landed c front place
  landed_reached front sides depth place (Behind_leaf rest s d n h) = leaf_led c.item rest s d n h
  landed_reached front sides depth place (Behind_item t o x rest s d n h) =
      ap (λ (f : Front). Issued t o x f) (landed_reached rest s d n h)
      ∙ sym (at_below (Issued t o x rest) (λ k. Issued t o x (landed c rest k)) (suc n) n refl)
  landed_reached front sides depth place (Behind_yes t o on p q s d n h) =
      let m = tree_size (whole p) in
      let at_test : ℕ → Front = λ k. above_test c c.item t o on (whole p) (whole q) k (place_or_root c.twin) in
      side_reached t o on q (place_or_root c.twin) p s d n h (landed_reached p s d n h) (joins c.twin p q) refl
      ∙ sym (on_yes_side (Split t o on p q) (λ k. if joins c.twin p q then at_test k else Split t o on (landed c p k) q) (λ k. Split t o on p (landed c q (k - m)))
      (suc n) n m refl (reaches_within p s d n h))
  landed_reached front sides depth place (Behind_no t o on p q s d n h) =
      let m = tree_size (whole p) in
      let at_test : ℕ → Front = λ k. above_test c c.item t o on (whole p) (whole q) k (place_or_root c.twin) in
      let e : n ≡ m + n - m = omega arith in
      ap (λ (f : Front). Split t o on p f) (landed_reached q s d n h ∙ ap (landed c q) e)
      ∙ sym (on_no_side (Split t o on p q) (λ k. if joins c.twin p q then at_test k else Split t o on (landed c p k) q) (λ k. Split t o on p (landed c q (k - m)))
      (suc (m + n)) (m + n) m refl (omega arith))
