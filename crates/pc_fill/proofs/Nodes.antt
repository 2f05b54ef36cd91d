-- What stands at a place of a window is ready there exactly where nothing on the way down is against it.
use Rattle.std.proofs.Common.{◌≡◌, ℕ, zero, suc, ◌+◌, ◌-◌, ◌<◌, inl, inr, Bool, true, false, List}
use Rattle.std.proofs.Common.{[], ◌∷◌, ◌++◌, Option, Some, None, length, refl, sym, ◌∙◌, ap, subst, arith, length-append}
use Rattle.std.specs.Prelude.{nat_lt, slice_get}
use Rattle.std.specs.List.{AllByRecursion}
use Rattle.std.proofs.lemmas.Option.{slice_get_within}
use Rattle.pc_word.proofs.Truth.{decide_le}
use Rattle.pc_word.specs.declared.item.Item.{Item}
use Rattle.pc_word.specs.declared.item.Operand.{Operand}
use Rattle.pc_word.specs.Items.{operands_of}
use Rattle.pc_linear.specs.Form.{Form}
use Rattle.pc_window.specs.Hold.{Side}
use Rattle.pc_window.specs.Tree.{Tree, Pending, Undecided, Exit, Stop_exit, Trap_exit, Front, Issued, Split, Unfinished, whole, tree_size}
use Rattle.pc_window.specs.Names.{IsKnown}
use Rattle.pc_window.specs.Ready.{CanRise, Stands_here, Stands_below, Stands_on_yes, Stands_on_no, CanDivide, Divides_here, Divides_below, MayStandBehind, IsReadyAt, Item_ready, Test_ready}
use Rattle.pc_window.specs.Ready.{Ready_below, Ready_on_yes, Ready_on_no}
use Rattle.pc_fill.specs.models.Places.{Node, nodes_of, MayPass, MayCross, MayRise, MayComeFrom}
use Rattle.pc_fill.proofs.Sides.{to_below, from_below, to_yes, from_yes, to_no, from_no}

-- ---- lists

pub get_left : {X : Type 0} (xs ys : List X) (k : ℕ) → k < length xs → slice_get (xs ++ ys) k ≡ slice_get xs k
get_left [] ys k less = absurd (omega arith)
get_left (x ∷ xs) ys zero less = refl
get_left (x ∷ xs) ys (suc k) less = get_left xs ys k (omega arith)

pub get_right : {X : Type 0} (xs ys : List X) (k : ℕ) → slice_get (xs ++ ys) (length xs + k) ≡ slice_get ys k
get_right [] ys k = let e : 0 + k ≡ k = omega arith in ap (slice_get ys) e
get_right (x ∷ xs) ys k = let e : suc (length xs) + k ≡ suc (length xs + k) = omega arith in ap (slice_get (x ∷ xs ++ ys)) e ∙ get_right xs ys k

pub nodes_count : (tree : Tree) → length (nodes_of tree) ≡ tree_size tree
nodes_count (Pending t o x rest) = ap suc (nodes_count rest)
nodes_count (Undecided t o on p q) = let a = nodes_count p in let b = nodes_count q in let c = length-append (nodes_of p) (nodes_of q) in omega arith
nodes_count (Exit region tag homes) = refl
nodes_count Stop_exit = refl
nodes_count (Trap_exit kind line) = refl

-- what stands on the yes side, and on the no side
pub node_on_yes : (p q : Tree) (k : ℕ) → k < tree_size p → slice_get (nodes_of p ++ nodes_of q) k ≡ slice_get (nodes_of p) k
node_on_yes p q k less = let n = nodes_count p in get_left (nodes_of p) (nodes_of q) k (omega arith)

pub node_on_no : (p q : Tree) (k : ℕ) → slice_get (nodes_of p ++ nodes_of q) (tree_size p + k) ≡ slice_get (nodes_of q) k
node_on_no p q k = ap (λ (n : ℕ). slice_get (nodes_of p ++ nodes_of q) (n + k)) (sym (nodes_count p)) ∙ get_right (nodes_of p) (nodes_of q) k

pub node_within : (tree : Tree) (place : ℕ) (node : Node) → slice_get (nodes_of tree) place ≡ Some node → place < tree_size tree
node_within tree place node at = let n = nodes_count tree in let h = slice_get_within (nodes_of tree) place node at in omega arith

-- ---- what is ready stands there, and the way is free

pub record StandsFree (known : ℕ → Bool) (forms : ℕ → Form) (tag origin place : ℕ) (what : Option Item) (front : Front) : Type 0 where
  pub operands : List Operand
  pub at : slice_get (nodes_of (whole front)) place ≡ Some (record { tag = tag; origin = origin; what = what; operands = operands })
  pub reads : AllByRecursion (IsKnown known) operands
  pub way : MayComeFrom forms what front place

pub can_rise_at : (forms : ℕ → Form) (x : Item) (tag origin place : ℕ) (crosses : Bool) (from : Tree) → CanRise forms x tag origin place crosses from
    → slice_get (nodes_of from) place ≡ Some (record { tag = tag; origin = origin; what = Some x; operands = operands_of x })
can_rise_at forms x tag origin place crosses from (Stands_here rest) = refl
can_rise_at forms x tag origin place crosses from (Stands_below t o y n c rest clear can) = can_rise_at forms x tag origin n c rest can
can_rise_at forms x tag origin place crosses from (Stands_on_yes t o on n c p q is can) =
    let h = can_rise_at forms x tag origin n c p can in
    node_on_yes p q n (node_within p n _ h) ∙ h
can_rise_at forms x tag origin place crosses from (Stands_on_no t o on n c p q is can) = node_on_no p q n ∙ can_rise_at forms x tag origin n c q can

pub can_rise_free : (forms : ℕ → Form) (x : Item) (tag origin place : ℕ) (crosses : Bool) (from : Tree) → CanRise forms x tag origin place crosses from → MayRise forms (Some x) from place
can_rise_free forms x tag origin place crosses from (Stands_here rest) = tt
can_rise_free forms x tag origin place crosses from (Stands_below t o y n c rest clear can) =
    to_below (Unit {0}) (λ k. MayPass forms y (Some x) × MayRise forms (Some x) rest k) n (clear, can_rise_free forms x tag origin n c rest can)
can_rise_free forms x tag origin place crosses from (Stands_on_yes t o on n c p q is can) =
    let less = node_within p n _ (can_rise_at forms x tag origin n c p can) in
    to_below (Unit {0}) (λ k. MayCross (Some x) × Side (nat_lt k (tree_size p)) (MayRise forms (Some x) p k) (MayRise forms (Some x) q (k - tree_size p))) n
    (is, to_yes (MayRise forms (Some x) p) (MayRise forms (Some x) q) n (tree_size p) less (can_rise_free forms x tag origin n c p can))
can_rise_free forms x tag origin place crosses from (Stands_on_no t o on n c p q is can) =
    to_below (Unit {0}) (λ k. MayCross (Some x) × Side (nat_lt k (tree_size p)) (MayRise forms (Some x) p k) (MayRise forms (Some x) q (k - tree_size p))) (tree_size p + n)
    (is, to_no (MayRise forms (Some x) p) (MayRise forms (Some x) q) n (tree_size p) (can_rise_free forms x tag origin n c q can))

can_divide_at : (on : Operand) (tag origin place : ℕ) (from : Tree) → CanDivide on tag origin place from
    → slice_get (nodes_of from) place ≡ Some (record { tag = tag; origin = origin; what = None; operands = on ∷ [] })
can_divide_at on tag origin place from (Divides_here p q) = refl
can_divide_at on tag origin place from (Divides_below t o y n rest can) = can_divide_at on tag origin n rest can

can_divide_free : (forms : ℕ → Form) (on : Operand) (tag origin place : ℕ) (from : Tree) → CanDivide on tag origin place from → MayRise forms None from place
can_divide_free forms on tag origin place from (Divides_here p q) = tt
can_divide_free forms on tag origin place from (Divides_below t o y n rest can) =
    to_below (Unit {0}) (λ k. MayPass forms y None × MayRise forms None rest k) n (tt, can_divide_free forms on tag origin n rest can)

pub stands_free : (known : ℕ → Bool) (forms : ℕ → Form) (tag origin place : ℕ) (what : Option Item) (front : Front) → IsReadyAt known forms tag origin place what front
    → StandsFree known forms tag origin place what front
stands_free known forms tag origin place what front (Item_ready x n c from reads can) =
    record { operands = operands_of x; at = can_rise_at forms x tag origin n c from can; reads = reads; way = can_rise_free forms x tag origin n c from can }
stands_free known forms tag origin place what front (Test_ready on n from reads can) =
    record { operands = on ∷ []; at = can_divide_at on tag origin n from can; reads = (reads, tt); way = can_divide_free forms on tag origin n from can }
stands_free known forms tag origin place what front (Ready_below t o y n w rest may ready) =
    let k = stands_free known forms tag origin n w rest ready in
    record {
      operands = k.operands;
      at = k.at;
      reads = k.reads;
      way = to_below ⊥ (λ j. MayStandBehind forms y w × MayComeFrom forms w rest j) n (may, k.way);
    }
stands_free known forms tag origin place what front (Ready_on_yes t o on n w p q ready) =
    let k = stands_free known forms tag origin n w p ready in
    let less = node_within (whole p) n _ k.at in
    record {
      operands = k.operands;
      at = node_on_yes (whole p) (whole q) n less ∙ k.at;
      reads = k.reads;
      way = to_below ⊥ (λ j. Side (nat_lt j (tree_size (whole p))) (MayComeFrom forms w p j) (MayComeFrom forms w q (j - tree_size (whole p)))) n
          (to_yes (MayComeFrom forms w p) (MayComeFrom forms w q) n (tree_size (whole p)) less k.way);
    }
stands_free known forms tag origin place what front (Ready_on_no t o on n w p q ready) =
    let k = stands_free known forms tag origin n w q ready in
    record {
      operands = k.operands;
      at = node_on_no (whole p) (whole q) n ∙ k.at;
      reads = k.reads;
      way = to_below ⊥ (λ j. Side (nat_lt j (tree_size (whole p))) (MayComeFrom forms w p j) (MayComeFrom forms w q (j - tree_size (whole p)))) (tree_size (whole p) + n)
          (to_no (MayComeFrom forms w p) (MayComeFrom forms w q) n (tree_size (whole p)) k.way);
    }

-- ---- and what stands there and has a free way is ready

-- an item can rise from there, or a test can divide
abbrev pub ComesUp : (ℕ → Form) → Node → Option Item → ℕ → Tree → Type 0
ComesUp forms node (Some x) place tree = (node.operands ≡ operands_of x) × ((crosses : Bool) × CanRise forms x node.tag node.origin place crosses tree)
ComesUp forms node None place tree = (on : Operand) × (node.operands ≡ on ∷ []) × CanDivide on node.tag node.origin place tree

up_past : (forms : ℕ → Form) (node : Node) (what : Option Item) (n : ℕ) (t o : ℕ) (y : Item) (rest : Tree) → MayPass forms y what → ComesUp forms node what n rest
    → ComesUp forms node what (suc n) (Pending t o y rest)
up_past forms node (Some x) n t o y rest clear k = (k.0, (k.1.0, Stands_below t o y n k.1.0 rest clear k.1.1))
up_past forms node None n t o y rest clear k = (k.0, k.1, Divides_below t o y n rest k.2)

up_yes : (forms : ℕ → Form) (node : Node) (what : Option Item) (n : ℕ) (t o : ℕ) (on : Operand) (p q : Tree) → MayCross what → ComesUp forms node what n p
    → ComesUp forms node what (suc n) (Undecided t o on p q)
up_yes forms node (Some x) n t o on p q is k = (k.0, (true, Stands_on_yes t o on n k.1.0 p q is k.1.1))
up_yes forms node None n t o on p q is k = absurd is

up_no : (forms : ℕ → Form) (node : Node) (what : Option Item) (n : ℕ) (t o : ℕ) (on : Operand) (p q : Tree) → MayCross what → ComesUp forms node what n q
    → ComesUp forms node what (suc (tree_size p + n)) (Undecided t o on p q)
up_no forms node (Some x) n t o on p q is k = (k.0, (true, Stands_on_no t o on n k.1.0 p q is k.1.1))
up_no forms node None n t o on p q is k = absurd is

-- a place of two sides is on one of them
pub data OfSides (m : ℕ) : ℕ → Type 0 where
  Of_yes : (n : ℕ) → n < m → OfSides m n
  Of_no : (n : ℕ) → OfSides m (m + n)

pub of_sides : (m n : ℕ) → OfSides m n
of_sides m n = elim (decide_le m n) [
  | inl le ↦ let e : m + (n - m) ≡ n = omega arith in subst (OfSides m) e (Of_no (n - m))
  | inr less ↦ Of_yes n less
]

here_up : (forms : ℕ → Form) (tree : Tree) (node head : Node) (rest : List Node) → slice_get (head ∷ rest) 0 ≡ Some node → head ≡ node
here_up forms tree node head rest e = cc

pub comes_up : (forms : ℕ → Form) (tree : Tree) (place : ℕ) (node : Node) → slice_get (nodes_of tree) place ≡ Some node → MayRise forms node.what tree place
    → ComesUp forms node node.what place tree
comes_up forms (Pending t o x rest) zero node at way =
    let same = here_up forms rest node (record { tag = t; origin = o; what = Some x; operands = operands_of x }) (nodes_of rest) at in
    subst (λ (n : Node). ComesUp forms n n.what 0 (Pending t o x rest)) same (refl, (false, Stands_here rest))
comes_up forms (Pending t o x rest) (suc n) node at way =
    let w = from_below (Unit {0}) (λ k. MayPass forms x node.what × MayRise forms node.what rest k) n way in
    up_past forms node node.what n t o x rest w.0 (comes_up forms rest n node at w.1)
comes_up forms (Undecided t o on p q) zero node at way =
    let same = here_up forms p node (record { tag = t; origin = o; what = None; operands = on ∷ [] }) (nodes_of p ++ nodes_of q) at in
    subst (λ (n : Node). ComesUp forms n n.what 0 (Undecided t o on p q)) same (on, refl, Divides_here p q)
comes_up forms (Undecided t o on p q) (suc n) node at way =
    let w = from_below (Unit {0}) (λ k. MayCross node.what × Side (nat_lt k (tree_size p)) (MayRise forms node.what p k) (MayRise forms node.what q (k - tree_size p))) n way in
    by_side (λ k h e. comes_up forms p k node h e) (λ k h e. comes_up forms q k node h e) n (of_sides (tree_size p) n) at w.0 w.1
  where
    by_side : ((k : ℕ) → slice_get (nodes_of p) k ≡ Some node → MayRise forms node.what p k → ComesUp forms node node.what k p)
        → ((k : ℕ) → slice_get (nodes_of q) k ≡ Some node → MayRise forms node.what q k → ComesUp forms node node.what k q)
        → (k : ℕ) → OfSides (tree_size p) k → slice_get (nodes_of p ++ nodes_of q) k ≡ Some node → MayCross node.what
        → Side (nat_lt k (tree_size p)) (MayRise forms node.what p k) (MayRise forms node.what q (k - tree_size p))
        → ComesUp forms node node.what (suc k) (Undecided t o on p q)
    by_side on_p on_q k (Of_yes k' less) h is e =
        up_yes forms node node.what k t o on p q is (on_p k (sym (node_on_yes p q k less) ∙ h) (from_yes (MayRise forms node.what p) (MayRise forms node.what q) k (tree_size p) less e))
    by_side on_p on_q k (Of_no j) h is e =
        up_no forms node node.what j t o on p q is (on_q j (sym (node_on_no p q j) ∙ h) (from_no (MayRise forms node.what p) (MayRise forms node.what q) j (tree_size p) e))
comes_up forms (Exit region tag homes) place node at way = absurd (cc)
comes_up forms Stop_exit place node at way = absurd (cc)
comes_up forms (Trap_exit kind line) place node at way = absurd (cc)

up_ready : (known : ℕ → Bool) (forms : ℕ → Form) (node : Node) (what : Option Item) (place : ℕ) (tree : Tree)
    → AllByRecursion (IsKnown known) node.operands → ComesUp forms node what place tree
    → IsReadyAt known forms node.tag node.origin place what (Unfinished tree)
up_ready known forms node (Some x) place tree reads k =
    Item_ready x place k.1.0 tree (subst (λ (os : List Operand). AllByRecursion (IsKnown known) os) k.0 reads) k.1.1
up_ready known forms node None place tree reads k =
    let r = subst (λ (os : List Operand). AllByRecursion (IsKnown known) os) k.1 reads in
    Test_ready k.0 place tree r.0 k.2

pub free_ready : (known : ℕ → Bool) (forms : ℕ → Form) (front : Front) (place : ℕ) (node : Node) → slice_get (nodes_of (whole front)) place ≡ Some node
    → AllByRecursion (IsKnown known) node.operands → MayComeFrom forms node.what front place → IsReadyAt known forms node.tag node.origin place node.what front
free_ready known forms (Issued t o y rest) zero node at reads way = absurd way
free_ready known forms (Issued t o y rest) (suc n) node at reads way =
    let w = from_below ⊥ (λ k. MayStandBehind forms y node.what × MayComeFrom forms node.what rest k) n way in
    Ready_below t o y n node.what rest w.0 (free_ready known forms rest n node at reads w.1)
free_ready known forms (Split t o on p q) zero node at reads way = absurd way
free_ready known forms (Split t o on p q) (suc n) node at reads way =
    let w = from_below ⊥ (λ k. Side (nat_lt k (tree_size (whole p))) (MayComeFrom forms node.what p k) (MayComeFrom forms node.what q (k - tree_size (whole p)))) n way in
    by_side (λ k h e. free_ready known forms p k node h reads e) (λ k h e. free_ready known forms q k node h reads e) n (of_sides (tree_size (whole p)) n) at w
  where
    by_side : ((k : ℕ) → slice_get (nodes_of (whole p)) k ≡ Some node → MayComeFrom forms node.what p k → IsReadyAt known forms node.tag node.origin k node.what p)
        → ((k : ℕ) → slice_get (nodes_of (whole q)) k ≡ Some node → MayComeFrom forms node.what q k → IsReadyAt known forms node.tag node.origin k node.what q)
        → (k : ℕ) → OfSides (tree_size (whole p)) k → slice_get (nodes_of (whole p) ++ nodes_of (whole q)) k ≡ Some node
        → Side (nat_lt k (tree_size (whole p))) (MayComeFrom forms node.what p k) (MayComeFrom forms node.what q (k - tree_size (whole p)))
        → IsReadyAt known forms node.tag node.origin (suc k) node.what (Split t o on p q)
    by_side on_p on_q k (Of_yes k' less) h e =
        Ready_on_yes t o on k node.what p q (on_p k (sym (node_on_yes (whole p) (whole q) k less) ∙ h)
        (from_yes (MayComeFrom forms node.what p) (MayComeFrom forms node.what q) k (tree_size (whole p)) less e))
    by_side on_p on_q k (Of_no j) h e =
        Ready_on_no t o on j node.what p q (on_q j (sym (node_on_no (whole p) (whole q) j) ∙ h) (from_no (MayComeFrom forms node.what p) (MayComeFrom forms node.what q) j (tree_size (whole p)) e))
free_ready known forms (Unfinished tree) place node at reads way = up_ready known forms node node.what place tree reads (comes_up forms tree place node at way)
