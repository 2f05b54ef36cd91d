-- Whether the way from a place is free, step by step as code walks it.
use Rattle.std.proofs.Common.{◌≡◌, ◌≢◌, ◌↔◌, ℕ, ◌-◌, ◌<◌, ◌≤◌, Bool, true, false, Option, ◌∙◌, sym, ap, subst, lt-ltb, arith}
use Rattle.std.specs.Prelude.{nat_lt}
use Rattle.pc_word.proofs.Truth.{of_most, fails_here, failed, held, same_fact, holds_here}
use Rattle.pc_word.specs.declared.item.Item.{Item}
use Rattle.pc_word.specs.declared.item.Operand.{Operand}
use Rattle.pc_linear.specs.Form.{Form}
use Rattle.pc_window.specs.Ready.{MayStandBehind}
use Rattle.pc_window.specs.Tree.{Tree, Pending, Undecided, Front, Issued, Split, whole, tree_size}
use Rattle.pc_window.specs.declared.tree.WindowTree.{WindowTree}
use Rattle.pc_window.specs.StoredWindow.{tree_in, front_in}
use Rattle.pc_window.proofs.WindowsStored.{whole_in}
use Rattle.pc_fill.specs.models.Places.{MayPass, MayCross, MayRise, MayComeFrom}
use Rattle.pc_fill.proofs.Sides.{at_root, root_only, under_root, below_only, side_first, first_only, side_second, second_only}

module _ (forms : ℕ → Form) (what : Option Item) (tag origin place : ℕ) where
  -- ---- behind the front

  pub item_at_root : (y : Item) (rest : Tree) → place ≡ 0 → (true ≡ true) ↔ MayRise forms what (Pending tag origin y rest) place
  item_at_root y rest e = holds_here (MayRise forms what (Pending tag origin y rest) place) (at_root place (Unit {0}) _ e tt)

  pub item_stops : (y : Item) (rest : Tree) (b : Bool) → place ≢ 0 → (b ≡ true) ↔ MayPass forms y what
      → b ≡ false → (false ≡ true) ↔ MayRise forms what (Pending tag origin y rest) place
  item_stops y rest b ne iff e = fails_here (MayRise forms what (Pending tag origin y rest) place) (λ h. failed iff e (below_only place (Unit {0}) _ ne h).0)

  pub item_passed : (y : Item) (rest : Tree) (b c : Bool) → place ≢ 0 → (b ≡ true) ↔ MayPass forms y what → b ≡ true → (c ≡ true) ↔ MayRise forms what rest (place - 1)
      → (c ≡ true) ↔ MayRise forms what (Pending tag origin y rest) place
  item_passed y rest b c ne iff e iff' =
      same_fact c (MayRise forms what rest (place - 1)) (MayRise forms what (Pending tag origin y rest) place)
      (λ h. under_root place (Unit {0}) _ ne (held iff e, h)) (λ h. (below_only place (Unit {0}) _ ne h).1) iff'

  pub test_at_root : (on : Operand) (p q : Tree) → place ≡ 0 → (true ≡ true) ↔ MayRise forms what (Undecided tag origin on p q) place
  test_at_root on p q e = holds_here (MayRise forms what (Undecided tag origin on p q) place) (at_root place (Unit {0}) _ e tt)

  pub test_stops : (on : Operand) (p q : Tree) (b : Bool) → place ≢ 0 → (b ≡ true) ↔ MayCross what
      → b ≡ false → (false ≡ true) ↔ MayRise forms what (Undecided tag origin on p q) place
  test_stops on p q b ne iff e = fails_here (MayRise forms what (Undecided tag origin on p q) place) (λ h. failed iff e (below_only place (Unit {0}) _ ne h).0)

  pub yes_passed : (on : Operand) (p q : Tree) (b c : Bool) (n : ℕ) → place ≢ 0 → (b ≡ true) ↔ MayCross what → b ≡ true → n ≤ tree_size p → place - 1 < n
      → (c ≡ true) ↔ MayRise forms what p (place - 1) → (c ≡ true) ↔ MayRise forms what (Undecided tag origin on p q) place
  yes_passed on p q b c n ne iff e size less iff' =
      let test : nat_lt (place - 1) (tree_size p) ≡ true = lt-ltb (place - 1) (tree_size p) (omega arith) in
      same_fact c (MayRise forms what p (place - 1)) (MayRise forms what (Undecided tag origin on p q) place)
      (λ h. under_root place (Unit {0}) _ ne (held iff e, side_first (nat_lt (place - 1) (tree_size p)) _ _ test h))
      (λ h. first_only (nat_lt (place - 1) (tree_size p)) _ _ test (below_only place (Unit {0}) _ ne h).1) iff'

  pub no_passed : (on : Operand) (p q : Tree) (b c : Bool) (n : ℕ) → place ≢ 0 → (b ≡ true) ↔ MayCross what → b ≡ true → (n < place → n ≡ tree_size p) → n ≤ place - 1
      → (c ≡ true) ↔ MayRise forms what q (place - 1 - n) → (c ≡ true) ↔ MayRise forms what (Undecided tag origin on p q) place
  no_passed on p q b c n ne iff e exact most iff' =
      let size = exact (omega arith) in
      let test : nat_lt (place - 1) (tree_size p) ≡ false = of_most (place - 1) (tree_size p) (omega arith) in
      same_fact c (MayRise forms what q (place - 1 - n)) (MayRise forms what (Undecided tag origin on p q) place)
      (λ h. under_root place (Unit {0}) _ ne (held iff e, side_second (nat_lt (place - 1) (tree_size p)) _ _ test (subst (λ (k : ℕ). MayRise forms what q (place - 1 - k)) size h)))
      (λ h. subst (λ (k : ℕ). MayRise forms what q (place - 1 - k)) (sym size) (second_only (nat_lt (place - 1) (tree_size p)) _ _ test (below_only place (Unit {0}) _ ne h).1)) iff'

  -- ---- in the front

  pub front_item_at_root : (y : Item) (rest : Front) → place ≡ 0 → (false ≡ true) ↔ MayComeFrom forms what (Issued tag origin y rest) place
  front_item_at_root y rest e = fails_here (MayComeFrom forms what (Issued tag origin y rest) place) (λ h. root_only place ⊥ _ e h)

  pub front_item_stops : (y : Item) (rest : Front) (b : Bool) → place ≢ 0 → (b ≡ true) ↔ MayStandBehind forms y what
      → b ≡ false → (false ≡ true) ↔ MayComeFrom forms what (Issued tag origin y rest) place
  front_item_stops y rest b ne iff e = fails_here (MayComeFrom forms what (Issued tag origin y rest) place) (λ h. failed iff e (below_only place ⊥ _ ne h).0)

  pub front_item_passed : (y : Item) (rest : Front) (b c : Bool) → place ≢ 0 → (b ≡ true) ↔ MayStandBehind forms y what
      → b ≡ true → (c ≡ true) ↔ MayComeFrom forms what rest (place - 1) → (c ≡ true) ↔ MayComeFrom forms what (Issued tag origin y rest) place
  front_item_passed y rest b c ne iff e iff' =
      same_fact c (MayComeFrom forms what rest (place - 1)) (MayComeFrom forms what (Issued tag origin y rest) place)
      (λ h. under_root place ⊥ _ ne (held iff e, h)) (λ h. (below_only place ⊥ _ ne h).1) iff'

  pub front_test_at_root : (on : Operand) (p q : Front) → place ≡ 0 → (false ≡ true) ↔ MayComeFrom forms what (Split tag origin on p q) place
  front_test_at_root on p q e = fails_here (MayComeFrom forms what (Split tag origin on p q) place) (λ h. root_only place ⊥ _ e h)

-- on a side of a test of the front, whose yes side has so many items and tests where they were counted so far
module _ (forms : ℕ → Form) (what : Option Item) (tag origin place : ℕ) (on : Operand) (p q : WindowTree) (c : Bool) (n : ℕ) (ne : place ≢ 0) where
  same_size : tree_size (whole (front_in p)) ≡ tree_size (tree_in p)
  same_size = ap tree_size (whole_in p)

  pub front_yes_passed : n ≤ tree_size (tree_in p) → place - 1 < n → (c ≡ true) ↔ MayComeFrom forms what (front_in p) (place - 1)
      → (c ≡ true) ↔ MayComeFrom forms what (Split tag origin on (front_in p) (front_in q)) place
  front_yes_passed size less iff =
      let same = same_size in
      let test : nat_lt (place - 1) (tree_size (whole (front_in p))) ≡ true = lt-ltb (place - 1) (tree_size (whole (front_in p))) (omega arith) in
      same_fact c (MayComeFrom forms what (front_in p) (place - 1)) (MayComeFrom forms what (Split tag origin on (front_in p) (front_in q)) place)
      (λ h. under_root place ⊥ _ ne (side_first (nat_lt (place - 1) (tree_size (whole (front_in p)))) _ _ test h))
      (λ h. first_only (nat_lt (place - 1) (tree_size (whole (front_in p)))) _ _ test (below_only place ⊥ _ ne h)) iff

  pub front_no_passed : (n < place → n ≡ tree_size (tree_in p)) → n ≤ place - 1 → (c ≡ true) ↔ MayComeFrom forms what (front_in q) (place - 1 - n)
      → (c ≡ true) ↔ MayComeFrom forms what (Split tag origin on (front_in p) (front_in q)) place
  front_no_passed exact most iff =
      let size : n ≡ tree_size (whole (front_in p)) = exact (omega arith) ∙ sym same_size in
      let test : nat_lt (place - 1) (tree_size (whole (front_in p))) ≡ false = of_most (place - 1) (tree_size (whole (front_in p))) (omega arith) in
      same_fact c (MayComeFrom forms what (front_in q) (place - 1 - n)) (MayComeFrom forms what (Split tag origin on (front_in p) (front_in q)) place)
      (λ h. under_root place ⊥ _ ne
      (side_second (nat_lt (place - 1) (tree_size (whole (front_in p)))) _ _ test (subst (λ (k : ℕ). MayComeFrom forms what (front_in q) (place - 1 - k)) size h)))
      (λ h. subst (λ (k : ℕ). MayComeFrom forms what (front_in q) (place - 1 - k)) (sym size)
      (second_only (nat_lt (place - 1) (tree_size (whole (front_in p)))) _ _ test (below_only place ⊥ _ ne h))) iff

pub ruleset rising = (item_at_root, item_stops, item_passed, test_at_root, test_stops, yes_passed, no_passed)

pub ruleset coming = (front_item_at_root, front_item_stops, front_item_passed, front_test_at_root, front_yes_passed, front_no_passed)
