-- What comes into the front is determined by its place, its twin, and the next name.
use Rattle.std.proofs.Common.{◌≡◌, ℕ, suc, ◌+◌, ◌-◌, ◌<◌, ◌≤◌, Bool, true, false, List, [], ◌∷◌, Option, Some, None, refl, sym, ◌∙◌, ap, subst, lt-ltb, arith}
use Rattle.std.specs.Prelude.{nat_eq, nat_lt, if◌then◌else◌, ◌||◌, is_some, slice_get}
use Rattle.pc_word.proofs.Truth.{of_most}
use Rattle.pc_word.specs.declared.item.Item.{Item}
use Rattle.pc_word.specs.declared.item.Item.TheVariants.{Bin, Copy, Load, Store, Print, Read, More}
use Rattle.pc_word.specs.declared.item.Operand.{Operand}
use Rattle.pc_word.specs.Items.{dest_of, operands_of}
use Rattle.pc_linear.specs.Form.{Form}
use Rattle.pc_window.specs.Hold.{Side}
use Rattle.pc_window.specs.Tree.{Tree, Pending, Undecided, Front, Issued, Split, Unfinished, whole, tree_size}
use Rattle.pc_window.specs.Rename.{mapped}
use Rattle.pc_window.specs.Jump.{Rises, Root, Past_item, Past_yes, Past_no, DividesTree, Root_test, Past, EntersFront, Lands, Lands_renamed, Lands_test, Lands_once, Behind_item, On_yes, On_no}
use Rattle.pc_window.specs.Filled.{risen_place, divided_place, priority_of, IsNext}
use Rattle.pc_window.proofs.Readiness.{Alike, clear_alike}
use Rattle.pc_fill.specs.declared.landing.Coming.{Coming}
use Rattle.pc_fill.specs.Bringing.{IsTwin}
use Rattle.pc_fill.specs.models.Places.{nodes_of, MayPass, MayCross, MayRise}
use Rattle.pc_fill.specs.models.Taking.{taken_out, divided_on, divided_yes, divided_no}
use Rattle.pc_fill.specs.models.Landing.{both_unfinished, joins, above_test, place_or_root, landed, crossed, crosses, came, new_name}
use Rattle.pc_fill.proofs.Sides.{not_zero, to_below, to_yes, to_no}
use Rattle.pc_fill.proofs.Nodes.{node_on_yes, node_on_no, node_within}
use Rattle.pc_word.specs.Naming.{with_dest, renamed}

-- ---- choices by place

pub at_below : {X : Type 0} (here : X) (below : ℕ → X) (place n : ℕ) → place ≡ suc n → (if nat_eq place 0 then here else below (place - 1)) ≡ below n
at_below here below place n e =
    let m : place - 1 ≡ n = omega arith in
    ap (λ (b : Bool). if b then here else below (place - 1)) (ap (λ (k : ℕ). nat_eq k 0) e ∙ not_zero n) ∙ ap below m

pub at_yes : {X : Type 0} (x y : X) (n m : ℕ) → n < m → (if nat_lt n m then x else y) ≡ x
at_yes x y n m less = ap (λ (b : Bool). if b then x else y) (lt-ltb n m less)

pub at_no : {X : Type 0} (x y : X) (n m : ℕ) → m ≤ n → (if nat_lt n m then x else y) ≡ y
at_no x y n m most = ap (λ (b : Bool). if b then x else y) (of_most n m most)

pub on_yes_side : {X : Type 0} (here : X) (f g : ℕ → X) (place n m : ℕ) → place ≡ suc n → n < m
    → (if nat_eq place 0 then here else if nat_lt (place - 1) m then f (place - 1) else g (place - 1)) ≡ f n
on_yes_side here f g place n m e less = at_below here (λ k. if nat_lt k m then f k else g k) place n e ∙ at_yes (f n) (g n) n m less

pub on_no_side : {X : Type 0} (here : X) (f g : ℕ → X) (place n m : ℕ) → place ≡ suc n → m ≤ n
    → (if nat_eq place 0 then here else if nat_lt (place - 1) m then f (place - 1) else g (place - 1)) ≡ g n
on_no_side here f g place n m e most = at_below here (λ k. if nat_lt k m then f k else g k) place n e ∙ at_no (f n) (g n) n m most

-- ---- what rises

pub risen_within : (forms : ℕ → Form) (tag origin : ℕ) (stood x : Item) (c : Bool) (from left : Tree) → (r : Rises forms tag origin stood x c from left) → risen_place r < tree_size from
risen_within forms tag origin stood x c from left (Root rest unwritten) = omega arith
risen_within forms tag origin stood x c from left (Past_item t o y d rest l clear apart rises) = let a = risen_within forms tag origin stood x d rest l rises in omega arith
risen_within forms tag origin stood x c from left (Past_yes t o on d p q l is unwritten rises) = let a = risen_within forms tag origin stood x d p l rises in omega arith
risen_within forms tag origin stood x c from left (Past_no t o on d p q l is unwritten rises) = let a = risen_within forms tag origin stood x d q l rises in omega arith

-- it leaves the tree without it
pub rises_taken : (forms : ℕ → Form) (tag origin : ℕ) (stood x : Item) (c : Bool) (from left : Tree) → (r : Rises forms tag origin stood x c from left)
    → left ≡ taken_out (dest_of x) from (risen_place r)
rises_taken forms tag origin stood x c from left (Root rest unwritten) = refl
rises_taken forms tag origin stood x c from left (Past_item t o y d rest l clear apart rises) =
    ap (λ (u : Tree). Pending t o y u) (rises_taken forms tag origin stood x d rest l rises)
    ∙ sym (at_below (mapped (renamed (dest_of y) (dest_of x)) rest) (λ k. Pending t o y (taken_out (dest_of x) rest k)) (suc (risen_place rises)) (risen_place rises) refl)
rises_taken forms tag origin stood x c from left (Past_yes t o on d p q l is unwritten rises) =
    ap (λ (u : Tree). Undecided t o on u q) (rises_taken forms tag origin stood x d p l rises)
    ∙ sym (on_yes_side (Undecided t o on p q) (λ k. Undecided t o on (taken_out (dest_of x) p k) q) (λ k. Undecided t o on p (taken_out (dest_of x) q (k - tree_size p)))
    (suc (risen_place rises)) (risen_place rises) (tree_size p) refl (risen_within forms tag origin stood x d p l rises))
rises_taken forms tag origin stood x c from left (Past_no t o on d p q l is unwritten rises) =
    let n = risen_place rises in
    let e : n ≡ tree_size p + n - tree_size p = omega arith in
    ap (λ (u : Tree). Undecided t o on p u) (rises_taken forms tag origin stood x d q l rises ∙ ap (taken_out (dest_of x) q) e)
    ∙ sym (on_no_side (Undecided t o on p q) (λ k. Undecided t o on (taken_out (dest_of x) p k) q) (λ k. Undecided t o on p (taken_out (dest_of x) q (k - tree_size p)))
    (suc (tree_size p + n)) (tree_size p + n) (tree_size p) refl (omega arith))

-- whether it crosses a test is seen by its place
pub rises_crossed : (forms : ℕ → Form) (tag origin : ℕ) (stood x : Item) (c : Bool) (from left : Tree) → (r : Rises forms tag origin stood x c from left) → c ≡ crossed from (risen_place r)
rises_crossed forms tag origin stood x c from left (Root rest unwritten) = refl
rises_crossed forms tag origin stood x c from left (Past_item t o y d rest l clear apart rises) =
    rises_crossed forms tag origin stood x d rest l rises ∙ sym (at_below false (crossed rest) (suc (risen_place rises)) (risen_place rises) refl)
rises_crossed forms tag origin stood x c from left (Past_yes t o on d p q l is unwritten rises) = sym (at_below false (λ k. true) (suc (risen_place rises)) (risen_place rises) refl)
rises_crossed forms tag origin stood x c from left (Past_no t o on d p q l is unwritten rises) =
    sym (at_below false (λ k. true) (suc (tree_size p + risen_place rises)) (tree_size p + risen_place rises) refl)

-- it stood there
pub rises_at : (forms : ℕ → Form) (tag origin : ℕ) (stood x : Item) (c : Bool) (from left : Tree) → (r : Rises forms tag origin stood x c from left)
    → slice_get (nodes_of from) (risen_place r) ≡ Some (record { tag = tag; origin = origin; what = Some stood; operands = operands_of stood })
rises_at forms tag origin stood x c from left (Root rest unwritten) = refl
rises_at forms tag origin stood x c from left (Past_item t o y d rest l clear apart rises) = rises_at forms tag origin stood x d rest l rises
rises_at forms tag origin stood x c from left (Past_yes t o on d p q l is unwritten rises) =
    node_on_yes p q (risen_place rises) (risen_within forms tag origin stood x d p l rises) ∙ rises_at forms tag origin stood x d p l rises
rises_at forms tag origin stood x c from left (Past_no t o on d p q l is unwritten rises) = node_on_no p q (risen_place rises) ∙ rises_at forms tag origin stood x d q l rises

-- and its way was free
pub rises_free : (forms : ℕ → Form) (tag origin : ℕ) (stood x : Item) (c : Bool) (from left : Tree) → Alike x stood → (r : Rises forms tag origin stood x c from left)
    → MayRise forms (Some stood) from (risen_place r)
rises_free forms tag origin stood x c from left a (Root rest unwritten) = tt
rises_free forms tag origin stood x c from left a (Past_item t o y d rest l clear apart rises) =
    to_below (Unit {0}) (λ k. MayPass forms y (Some stood) × MayRise forms (Some stood) rest k) (risen_place rises)
    (clear_alike forms y x stood a clear, rises_free forms tag origin stood x d rest l a rises)
rises_free forms tag origin stood x c from left a (Past_yes t o on d p q l is unwritten rises) =
    to_below (Unit {0}) (λ k. MayCross (Some stood) × Side (nat_lt k (tree_size p)) (MayRise forms (Some stood) p k) (MayRise forms (Some stood) q (k - tree_size p))) (risen_place rises) (
      a.quiet ∙ is,
      to_yes (MayRise forms (Some stood) p) (MayRise forms (Some stood) q) (risen_place rises) (tree_size p) (risen_within forms tag origin stood x d p l rises)
          (rises_free forms tag origin stood x d p l a rises),
    )
rises_free forms tag origin stood x c from left a (Past_no t o on d p q l is unwritten rises) =
    to_below (Unit {0})
    (λ k. MayCross (Some stood) × Side (nat_lt k (tree_size p)) (MayRise forms (Some stood) p k) (MayRise forms (Some stood) q (k - tree_size p)))
    (tree_size p + risen_place rises)
    (a.quiet ∙ is, to_no (MayRise forms (Some stood) p) (MayRise forms (Some stood) q) (risen_place rises) (tree_size p) (rises_free forms tag origin stood x d q l a rises))

-- ---- what divides

record DividedAs (tag origin place : ℕ) (on : Operand) (from p q : Tree) : Type 0 where
  test : on ≡ divided_on from
  yes_side : p ≡ divided_yes from
  no_side : q ≡ divided_no from
  at : slice_get (nodes_of from) place ≡ Some (record { tag = tag; origin = origin; what = None; operands = on ∷ [] })
  free : crossed from place ≡ false

divided_as : (tag origin : ℕ) (on : Operand) (from p q : Tree) → (d : DividesTree tag origin on from p q) → DividedAs tag origin (divided_place d) on from p q
divided_as tag origin on from p q (Root_test p' q') = record { test = refl; yes_side = refl; no_side = refl; at = refl; free = refl }
divided_as tag origin on from p q (Past t o y rest p' q' divides) =
    let k = divided_as tag origin on rest p' q' divides in
    record {
      test = k.test;
      yes_side = ap (λ (u : Tree). Pending t o y u) k.yes_side;
      no_side = ap (λ (u : Tree). Pending t o y u) k.no_side;
      at = k.at;
      free = at_below false (crossed rest) (suc (divided_place divides)) (divided_place divides) refl ∙ k.free;
    }

-- ---- what comes into the front

pub record EnteredAs (next : ℕ) (twin : Option ℕ) (new : Option ℕ) (comes : Option Item) (from to : Front) (tag origin place : ℕ) : Type 0 where
  pub what : Option Item
  pub operands : List Operand
  pub at : slice_get (nodes_of (whole from)) place ≡ Some (record { tag = tag; origin = origin; what = what; operands = operands })
  pub comes_is : comes ≡ came next (is_some twin || crosses from place) what
  pub new_is : new ≡ new_name next (is_some twin || crosses from place) what
  pub lands : to ≡ landed (record { tag = tag; origin = origin; item = comes; twin = twin }) from place

-- a new name is the next one
named_next : (next name : ℕ) (x : Item) → IsNext next (dest_of (with_dest name x)) → with_dest name x ≡ with_dest next x
named_next next name (Bin op d l r) e = ap (λ (k : ℕ). Bin op k l r) e
named_next next name (Copy d from) e = ap (λ (k : ℕ). Copy k from) e
named_next next name (Load d a i) e = ap (λ (k : ℕ). Load k a i) e
named_next next name (Store a i v) e = refl
named_next next name (Print v) e = refl
named_next next name (Read d) e = ap (λ (k : ℕ). Read k) e
named_next next name (More d) e = ap (λ (k : ℕ). More k) e

-- and replaces a name that was given before
pub renamed_again : (n m : ℕ) (x : Item) → with_dest n (with_dest m x) ≡ with_dest n x
renamed_again n m (Bin op d l r) = refl
renamed_again n m (Copy d from) = refl
renamed_again n m (Load d a i) = refl
renamed_again n m (Store a i v) = refl
renamed_again n m (Print v) = refl
renamed_again n m (Read d) = refl
renamed_again n m (More d) = refl

no_name : (next : ℕ) (b : Bool) → None ≡ new_name next b None
no_name next true = refl
no_name next false = refl

-- an item with a twin does not stand right behind a leaf
pub twin_above : (known : ℕ → Bool) (forms forms' : ℕ → Form) (new : Option ℕ) (comes : Option Item) (from to : Front) → (e : EntersFront known forms forms' new comes from to)
    → (other : Front) → (priority_of e).3 ≡ 0 → both_unfinished from other ≡ false
twin_above known forms forms' new comes from to (Lands tag origin x t left reads isnew none same rises) other h = absurd (omega arith)
twin_above known forms forms' new comes from to (Lands_renamed tag origin name stood t left reads isnew is gives rises) other h = absurd (omega arith)
twin_above known forms forms' new comes from to (Lands_test tag origin on t p q reads none same divides) other h = absurd (omega arith)
twin_above known forms forms' new comes from to (Lands_once t o on tag origin tag' origin' name stood alt c c' p q l m equal reads isnew is gives rises rises') other h = refl
twin_above known forms forms' new comes from to (Behind_item t o y c rest rest' may apart enters) other h = refl
twin_above known forms forms' new comes from to (On_yes t o on c p q p' apart enters) other h = refl
twin_above known forms forms' new comes from to (On_no t o on c p q q' apart enters) other h = refl

not_joined : (known : ℕ → Bool) (forms forms' : ℕ → Form) (new : Option ℕ) (comes : Option Item) (from to : Front) → (e : EntersFront known forms forms' new comes from to)
    → (other : Front) (twin : Option ℕ) → IsTwin twin (priority_of e).3 (priority_of e).4 → joins twin from other ≡ false
not_joined known forms forms' new comes from to e other None h = refl
not_joined known forms forms' new comes from to e other (Some k) h = twin_above known forms forms' new comes from to e other h.0

-- what comes from behind a leaf has no twin
module _ (next : ℕ) (new : Option ℕ) (comes : Option Item) (from : Tree) (to : Front) (tag origin place : ℕ) where
  alone : (twin : Option ℕ) → IsTwin twin 1 0 → EnteredAs next None new comes (Unfinished from) to tag origin place → EnteredAs next twin new comes (Unfinished from) to tag origin place
  alone None h k = k
  alone (Some n) h k = absurd (let z = h.0 in omega arith)

-- what comes from the path above
module _ (next : ℕ) (twin : Option ℕ) (new : Option ℕ) (comes : Option Item) (tag origin n : ℕ) where
  below_item : (t o : ℕ) (y : Item) (rest rest' : Front) (place : ℕ) → place ≡ suc n → EnteredAs next twin new comes rest rest' tag origin n
      → EnteredAs next twin new comes (Issued t o y rest) (Issued t o y rest') tag origin place
  below_item t o y rest rest' place e k =
      let c : Coming = record { tag = tag; origin = origin; item = comes; twin = twin } in
      let same : crosses rest n ≡ crosses (Issued t o y rest) place = sym (at_below false (crosses rest) place n e) in
      record {
        what = k.what;
        operands = k.operands;
        at = ap (slice_get (nodes_of (whole (Issued t o y rest)))) e ∙ k.at;
        comes_is = k.comes_is ∙ ap (λ (b : Bool). came next (is_some twin || b) k.what) same;
        new_is = k.new_is ∙ ap (λ (b : Bool). new_name next (is_some twin || b) k.what) same;
        lands = ap (λ (f : Front). Issued t o y f) k.lands ∙ sym (at_below (Issued t o y rest) (λ m. Issued t o y (landed c rest m)) place n e);
      }

  below_yes : (t o : ℕ) (on : Operand) (p q p' : Front) (place : ℕ) → place ≡ suc n → joins twin p q ≡ false → EnteredAs next twin new comes p p' tag origin n
      → EnteredAs next twin new comes (Split t o on p q) (Split t o on p' q) tag origin place
  below_yes t o on p q p' place e apart k =
      let c : Coming = record { tag = tag; origin = origin; item = comes; twin = twin } in
      let less : n < tree_size (whole p) = node_within (whole p) n _ k.at in
      let same : crosses p n ≡ crosses (Split t o on p q) place = sym (on_yes_side false (crosses p) (λ m. crosses q (m - tree_size (whole p))) place n (tree_size (whole p)) e less) in
      let at_test : ℕ → Front = λ m. above_test c comes t o on (whole p) (whole q) m (place_or_root twin) in
      let further : ℕ → Front = λ m. Split t o on (landed c p m) q in
      record {
        what = k.what;
        operands = k.operands;
        at = ap (slice_get (nodes_of (whole (Split t o on p q)))) e ∙ node_on_yes (whole p) (whole q) n less ∙ k.at;
        comes_is = k.comes_is ∙ ap (λ (b : Bool). came next (is_some twin || b) k.what) same;
        new_is = k.new_is ∙ ap (λ (b : Bool). new_name next (is_some twin || b) k.what) same;
        lands = ap (λ (f : Front). Split t o on f q) k.lands ∙ ap (λ (b : Bool). if b then at_test n else further n) (sym apart)
            ∙ sym (on_yes_side (Split t o on p q) (λ m. if joins twin p q then at_test m else further m) (λ m. Split t o on p (landed c q (m - tree_size (whole p)))) place n
            (tree_size (whole p)) e less);
      }

  below_no : (t o : ℕ) (on : Operand) (p q q' : Front) (place : ℕ) → place ≡ suc (tree_size (whole p) + n) → EnteredAs next twin new comes q q' tag origin n
      → EnteredAs next twin new comes (Split t o on p q) (Split t o on p q') tag origin place
  below_no t o on p q q' place e k =
      let c : Coming = record { tag = tag; origin = origin; item = comes; twin = twin } in
      let s = tree_size (whole p) in
      let back : n ≡ s + n - s = omega arith in
      let most : s ≤ s + n = omega arith in
      let same : crosses q n ≡ crosses (Split t o on p q) place = ap (crosses q) back ∙ sym (on_no_side false (crosses p) (λ m. crosses q (m - s)) place (s + n) s e most) in
      let at_test : ℕ → Front = λ m. above_test c comes t o on (whole p) (whole q) m (place_or_root twin) in
      let further : ℕ → Front = λ m. Split t o on (landed c p m) q in
      record {
        what = k.what;
        operands = k.operands;
        at = ap (slice_get (nodes_of (whole (Split t o on p q)))) e ∙ node_on_no (whole p) (whole q) n ∙ k.at;
        comes_is = k.comes_is ∙ ap (λ (b : Bool). came next (is_some twin || b) k.what) same;
        new_is = k.new_is ∙ ap (λ (b : Bool). new_name next (is_some twin || b) k.what) same;
        lands = ap (λ (f : Front). Split t o on p f) (k.lands ∙ ap (landed c q) back)
            ∙ sym (on_no_side (Split t o on p q) (λ m. if joins twin p q then at_test m else further m) (λ m. Split t o on p (landed c q (m - s))) place (s + n) s e most);
      }

pub entered_as : (known : ℕ → Bool) (forms forms' : ℕ → Form) (new : Option ℕ) (comes : Option Item) (from to : Front) → (e : EntersFront known forms forms' new comes from to)
    → (next : ℕ) → IsNext next new → (twin : Option ℕ) → IsTwin twin (priority_of e).3 (priority_of e).4
    → EnteredAs next twin new comes from to (priority_of e).0 (priority_of e).1 (priority_of e).2
entered_as known forms forms' new comes from to (Lands tag origin x t left reads isnew none same rises) next u twin is_twin =
    let b : false ≡ crossed t (risen_place rises) = rises_crossed forms tag origin x x false t left rises in
    alone next new (Some x) t to tag origin (risen_place rises) twin is_twin (record {
      what = Some x;
      operands = operands_of x;
      at = rises_at forms tag origin x x false t left rises;
      comes_is = ap (λ (d : Bool). came next d (Some x)) b;
      new_is = none ∙ ap (λ (d : Bool). new_name next d (Some x)) b;
      lands = ap (λ (l : Tree). Issued tag origin x (Unfinished l)) (rises_taken forms tag origin x x false t left rises);
    })
entered_as known forms forms' new comes from to (Lands_renamed tag origin name stood t left reads isnew is gives rises) next u twin is_twin =
    let x = with_dest name stood in
    let b : true ≡ crossed t (risen_place rises) = rises_crossed forms tag origin stood x true t left rises in
    let named = named_next next name stood (subst (IsNext next) is u) in
    alone next new (Some x) t to tag origin (risen_place rises) twin is_twin (record {
      what = Some stood;
      operands = operands_of stood;
      at = rises_at forms tag origin stood x true t left rises;
      comes_is = ap Some named ∙ ap (λ (d : Bool). came next d (Some stood)) b;
      new_is = is ∙ ap dest_of named ∙ ap (λ (d : Bool). new_name next d (Some stood)) b;
      lands = ap (λ (l : Tree). Issued tag origin x (Unfinished l)) (rises_taken forms tag origin stood x true t left rises);
    })
entered_as known forms forms' new comes from to (Lands_test tag origin on t p q reads none same divides) next u twin is_twin =
    let k = divided_as tag origin on t p q divides in
    alone next new None t to tag origin (divided_place divides) twin is_twin (record {
      what = None;
      operands = on ∷ [];
      at = k.at;
      comes_is = refl;
      new_is = none ∙ no_name next (crossed t (divided_place divides));
      lands = λ i. Split tag origin (k.test i) (Unfinished (k.yes_side i)) (Unfinished (k.no_side i));
    })
entered_as known forms forms' new comes from to (Lands_once t o on tag origin tag' origin' name stood other c c' p q l m equal reads isnew is gives rises rises') next u None is_twin =
    absurd (omega arith)
entered_as known forms forms' new comes from to (Lands_once t o on tag origin tag' origin' name stood other c c' p q l m equal reads isnew is gives rises rises') next u (Some k) is_twin =
    let x = with_dest name stood in
    let n = risen_place rises in
    let less = risen_within forms tag origin stood x c p l rises in
    let named = named_next next name stood (subst (IsNext next) is u) in
    let it : Coming = record { tag = tag; origin = origin; item = Some x; twin = Some k } in
    let left_yes : l ≡ taken_out (dest_of x) p n = rises_taken forms tag origin stood x c p l rises in
    let left_no : m ≡ taken_out (dest_of x) q k = rises_taken forms tag' origin' other x c' q m rises' ∙ ap (taken_out (dest_of x) q) is_twin.1 in
    record {
      what = Some stood;
      operands = operands_of stood;
      at = node_on_yes p q n less ∙ rises_at forms tag origin stood x c p l rises;
      comes_is = ap Some named;
      new_is = is ∙ ap dest_of named;
      lands = (λ i. Issued tag origin x (Split t o on (Unfinished (left_yes i)) (Unfinished (left_no i))))
          ∙ sym (on_yes_side (Split t o on (Unfinished p) (Unfinished q)) (λ j. above_test it (Some x) t o on p q j k)
          (λ j. Split t o on (Unfinished p) (landed it (Unfinished q) (j - tree_size p))) (suc n) n (tree_size p) refl less);
    }
entered_as known forms forms' new comes from to (Behind_item t o y c rest rest' may apart enters) next u twin is_twin =
    below_item next twin new c (priority_of enters).0 (priority_of enters).1 (priority_of enters).2 t o y rest rest' (1 + (priority_of enters).2) (omega arith)
    (entered_as known forms forms' new c rest rest' enters next u twin is_twin)
entered_as known forms forms' new comes from to (On_yes t o on c p q p' apart enters) next u twin is_twin =
    below_yes next twin new c (priority_of enters).0 (priority_of enters).1 (priority_of enters).2 t o on p q p' (1 + (priority_of enters).2) (omega arith)
    (not_joined known forms forms' new c p p' enters q twin is_twin) (entered_as known forms forms' new c p p' enters next u twin is_twin)
entered_as known forms forms' new comes from to (On_no t o on c p q q' apart enters) next u twin is_twin =
    below_no next twin new c (priority_of enters).0 (priority_of enters).1 (priority_of enters).2 t o on p q q' (suc (tree_size (whole p)) + (priority_of enters).2) (omega arith)
    (entered_as known forms forms' new c q q' enters next u twin is_twin)
