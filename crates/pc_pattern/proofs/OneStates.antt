-- A closed search has one automaton: the members are the same, and each member has one state.
use Rattle.std.proofs.Common.{◌≡◌, ℕ, suc, ◌+◌, ◌≤◌, List, [], ◌∷◌, ◌++◌, length, map, inl, inr, refl, sym, ◌∙◌, ap, subst, arith}
use Rattle.std.specs.Prelude.{Bool, true, false, not, ◌&&◌, if◌then◌else◌, nat_eq, Some, IfSome, slice_get}
use Rattle.pc_word.specs.declared.item.Item.{Item}
use Rattle.pc_word.specs.declared.item.Item.TheVariants.{Bin, Copy, Load, Store, Print, Read, More}
use Rattle.pc_word.specs.declared.item.Operand.{Operand}
use Rattle.pc_word.specs.declared.item.Operand.TheVariants.{Name, Lit}
use Rattle.pc_word.specs.Items.{dest_of}
use Rattle.pc_word.specs.Naming.{with_dest}
use Rattle.pc_word.specs.Row.{Row, Then, Either, At_leaf, items_of}
use Rattle.pc_word.proofs.Truth.{and_true}
use Rattle.pc_table.specs.TableKeeps.{TableKeeps}
use Rattle.pc_window.specs.declared.home.Home.{Home}
use Rattle.pc_window.specs.Tree.{whole}
use Rattle.pc_window.specs.Names.{uses, parameters_of}
use Rattle.pc_window.specs.WindowRun.{Window}
use Rattle.pc_window.specs.Kept.{Left}
use Rattle.pc_window.specs.Steps.{Positive}
use Rattle.pc_window.proofs.FirstJumps.{filled_one}
use Rattle.pc_window.proofs.Uses.{nat_eq-tells}
use Rattle.pc_canon.specs.Canonical.{parameter_pairs}
use Rattle.pc_canon.specs.Key.{key_of}
use Rattle.pc_canon.specs.Pairs.{Pair, corresponds, defined, themselves, operands_for, OperandsAlike, ArgumentsAlike, HomesAlike}
use Rattle.pc_canon.proofs.Keys.{keys_tell}
use Rattle.pc_automaton.specs.declared.automaton.AutomatonLeaf.{AutomatonLeaf}
use Rattle.pc_automaton.specs.declared.automaton.AutomatonLeaf.TheVariants.{To, Out, Stop, Trap}
use Rattle.pc_automaton.specs.Automaton.{AutomatonState}
use Rattle.pc_pattern.specs.NamedRow.{RowsNamed, named_item, named_test, named_leaf, LeavesAlike, WritesInOrder}
use Rattle.pc_pattern.specs.Searches.{Rules, bare_leaf, Search, IsClosed, LeafFor, to_member, to_bare, to_region, to_end, to_trap, StateFor, Automates, AreDifferent}
use Rattle.pc_pattern.specs.Laws.{PatternsAreOne}
use Rattle.pc_pattern.proofs.Determinism.{brings_one, row_one, bare_or_not, search_one, decide_less, before, no_step}
use Rattle.pc_pattern.proofs.Keys.{map_at, members_differ}
use Rattle.pc_pattern.proofs.Members.{state_of}

-- ---- what corresponds

corresponds_one : (names : List Pair) (x y z : ℕ) → corresponds names x y ≡ true → corresponds names x z ≡ true → y ≡ z
corresponds_one [] x y z h k = absurd (cc)
corresponds_one (pair ∷ names) x y z h k = by (nat_eq pair.one x) h k (λ p q. corresponds_one names x y z p q)
  where
    by : (b : Bool) → (if b then nat_eq pair.other y else (not (nat_eq pair.other y) && corresponds names x y)) ≡ true
        → (if b then nat_eq pair.other z else (not (nat_eq pair.other z) && corresponds names x z)) ≡ true
        → (corresponds names x y ≡ true → corresponds names x z ≡ true → y ≡ z) → y ≡ z
    by true h k next = sym (nat_eq-tells pair.other y h) ∙ nat_eq-tells pair.other z k
    by false h k next =
        next (and_true (not (nat_eq pair.other y)) (corresponds names x y) h).1 (and_true (not (nat_eq pair.other z)) (corresponds names x z) k).1

module _ (names : List Pair) where
  operand_one : (o a b : Operand) → OperandsAlike names o a → OperandsAlike names o b → a ≡ b
  operand_one (Name x) (Name y) (Name z) h k = ap (λ (n : ℕ). Name n) (corresponds_one names x y z h k)
  operand_one (Lit value) (Lit a) (Lit b) h k = ap (λ v. Lit v) (sym h ∙ k)
  operand_one (Name x) (Name y) (Lit b) h k = absurd k
  operand_one (Name x) (Lit a) b h k = absurd h
  operand_one (Lit value) (Lit a) (Name z) h k = absurd k
  operand_one (Lit value) (Name y) b h k = absurd h

  arguments_one : (given a b : List Operand) → ArgumentsAlike names given a → ArgumentsAlike names given b → a ≡ b
  arguments_one [] [] [] h k = refl
  arguments_one (o ∷ given) (x ∷ a) (y ∷ b) h k = λ i. operand_one o x y h.0 k.0 i ∷ arguments_one given a b h.1 k.1 i
  arguments_one [] [] (y ∷ b) h k = absurd k
  arguments_one [] (x ∷ a) b h k = absurd h
  arguments_one (o ∷ given) (x ∷ a) [] h k = absurd k
  arguments_one (o ∷ given) [] b h k = absurd h

  homes_one : (given a b : List Home) → HomesAlike names given a → HomesAlike names given b → a ≡ b
  homes_one [] [] [] h k = refl
  homes_one (o ∷ given) (x ∷ a) (y ∷ b) h k =
      let variable = sym h.0 ∙ k.0 in
      let value = operand_one o.value x.value y.value h.1 k.1 in
      let first : x ≡ y = λ i. record { variable = variable i; value = value i } in
      λ i. first i ∷ homes_one given a b h.2 k.2 i
  homes_one [] [] (y ∷ b) h k = absurd k
  homes_one [] (x ∷ a) b h k = absurd h
  homes_one (o ∷ given) (x ∷ a) [] h k = absurd k
  homes_one (o ∷ given) [] b h k = absurd h

  leaf_alike_one : (leaf a b : AutomatonLeaf) → LeavesAlike names leaf a → LeavesAlike names leaf b → a ≡ b
  leaf_alike_one (To number given) (To one x) (To other y) h k =
      let arguments = arguments_one given x y h.1 k.1 in λ i. To ((sym h.0 ∙ k.0) i) (arguments i)
  leaf_alike_one (Out region given) (Out one x) (Out other y) h k =
      let homes = homes_one given x y h.1 k.1 in λ i. Out ((sym h.0 ∙ k.0) i) (homes i)
  leaf_alike_one Stop Stop Stop h k = refl
  leaf_alike_one (Trap kind line) (Trap kind' line') (Trap kind'' line'') h k = λ i. Trap ((sym h.0 ∙ k.0) i) ((sym h.1 ∙ k.1) i)
  leaf_alike_one (To number given) (To one x) (Out region y) h k = absurd k
  leaf_alike_one (To number given) (To one x) Stop h k = absurd k
  leaf_alike_one (To number given) (To one x) (Trap kind line) h k = absurd k
  leaf_alike_one (To number given) (Out region x) b h k = absurd h
  leaf_alike_one (To number given) Stop b h k = absurd h
  leaf_alike_one (To number given) (Trap kind line) b h k = absurd h
  leaf_alike_one (Out region given) (Out one x) (To number y) h k = absurd k
  leaf_alike_one (Out region given) (Out one x) Stop h k = absurd k
  leaf_alike_one (Out region given) (Out one x) (Trap kind line) h k = absurd k
  leaf_alike_one (Out region given) (To number x) b h k = absurd h
  leaf_alike_one (Out region given) Stop b h k = absurd h
  leaf_alike_one (Out region given) (Trap kind line) b h k = absurd h
  leaf_alike_one Stop Stop (To number y) h k = absurd k
  leaf_alike_one Stop Stop (Out region y) h k = absurd k
  leaf_alike_one Stop Stop (Trap kind line) h k = absurd k
  leaf_alike_one Stop (To number x) b h k = absurd h
  leaf_alike_one Stop (Out region x) b h k = absurd h
  leaf_alike_one Stop (Trap kind line) b h k = absurd h
  leaf_alike_one (Trap kind line) (Trap kind' line') (To number y) h k = absurd k
  leaf_alike_one (Trap kind line) (Trap kind' line') (Out region y) h k = absurd k
  leaf_alike_one (Trap kind line) (Trap kind' line') Stop h k = absurd k
  leaf_alike_one (Trap kind line) (To number x) b h k = absurd h
  leaf_alike_one (Trap kind line) (Out region x) b h k = absurd h
  leaf_alike_one (Trap kind line) Stop b h k = absurd h

-- ---- leaves

module _ (rules : Rules) (members : List Window) (differ : AreDifferent (map key_of members)) where
  -- two members that one window is equal to up to a shift have one number
  number_one : (brought one other : Window) (number number' : ℕ) → slice_get members number ≡ Some one → slice_get members number' ≡ Some other
      → key_of brought ≡ key_of one → key_of brought ≡ key_of other → number ≡ number'
  number_one brought one other number number' at at' same same' =
      differ number number' (key_of brought)
      (subst (λ (key : List ℕ). slice_get (map key_of members) number ≡ Some key) (sym same) (map_at key_of members number one at))
      (subst (λ (key : List ℕ). slice_get (map key_of members) number' ≡ Some key) (sym same') (map_at key_of members number' other at'))

  leaf_one : {names : List Pair} {left : Left} {a b : AutomatonLeaf} → LeafFor rules members names left a → LeafFor rules members names left b → a ≡ b
  leaf_one {names} (to_member {rest} {number} {arguments} brought member brings items at shifted given)
      (to_member {number = number'} {arguments = arguments'} brought' member' brings' items' at' shifted' given') =
      let same = brings_one rules rest brought brought' brings brings' in
      let key : key_of brought ≡ key_of member = (keys_tell brought member).1 (parameter_pairs brought member, shifted) in
      let key' : key_of brought' ≡ key_of member' = (keys_tell brought' member').1 (parameter_pairs brought' member', shifted') in
      let numbers = number_one brought member member' number number' at at' key (ap key_of same ∙ key') in
      let passed = arguments_one names (operands_for (parameters_of (whole brought.front))) arguments arguments' given
      (subst (λ (w : Window). ArgumentsAlike names (operands_for (parameters_of (whole w.front))) arguments') (sym same) given') in
      λ i. To (numbers i) (passed i)
  leaf_one (to_member {rest} brought member brings items at shifted given) (to_bare brought' leaf brings' bare alike) =
      absurd (bare_or_not rules brought brought' leaf (brings_one rules rest brought brought' brings brings') items bare)
  leaf_one (to_bare {rest} brought leaf brings bare alike) (to_member brought' member brings' items at shifted given) =
      absurd (bare_or_not rules brought' brought leaf (sym (brings_one rules rest brought brought' brings brings')) items bare)
  leaf_one {names} (to_bare {rest} {other} brought leaf brings bare alike) (to_bare {other = other'} brought' leaf' brings' bare' alike') =
      let same = brings_one rules rest brought brought' brings brings' in
      let leaves : leaf ≡ leaf' = same_leaf leaf leaf' (sym bare ∙ ap (λ (w : Window). bare_leaf (whole w.front)) same ∙ bare') in
      leaf_alike_one names leaf other other' alike (subst (λ (l : AutomatonLeaf). LeavesAlike names l other') (sym leaves) alike')
    where
      same_leaf : (x y : AutomatonLeaf) → Some x ≡ Some y → x ≡ y
      same_leaf x y e = cc
  leaf_one {names} (to_region {region} {homes} {homes' = one} alike) (to_region {homes' = other} alike') =
      ap (λ (list : List Home). Out region list) (homes_one names homes one other alike alike')
  leaf_one to_end to_end = refl
  leaf_one to_trap to_trap = refl

-- ---- rows

-- an item that writes the same name, if any
item_one : (item : Item) (name name' next : ℕ) → IfSome (dest_of (with_dest name item)) (λ x. x ≡ next) → IfSome (dest_of (with_dest name' item)) (λ x. x ≡ next)
    → with_dest name item ≡ with_dest name' item
item_one (Bin op dest left right) name name' next h k = ap (λ (n : ℕ). Bin op n left right) (h ∙ sym k)
item_one (Copy dest from) name name' next h k = ap (λ (n : ℕ). Copy n from) (h ∙ sym k)
item_one (Load dest array index) name name' next h k = ap (λ (n : ℕ). Load n array index) (h ∙ sym k)
item_one (Store array index value) name name' next h k = refl
item_one (Print value) name name' next h k = refl
item_one (Read dest) name name' next h k = ap (λ (n : ℕ). Read n) (h ∙ sym k)
item_one (More dest) name name' next h k = ap (λ (n : ℕ). More n) (h ∙ sym k)

-- the names of a list's two parts are in order
pub order_parts : (next : ℕ) (xs ys : List Item) → WritesInOrder next (xs ++ ys) → WritesInOrder next xs × WritesInOrder (length xs + next) ys
order_parts next [] ys h = (tt, subst (λ (n : ℕ). WritesInOrder n ys) (let e : next ≡ 0 + next = omega arith in e) h)
order_parts next (x ∷ xs) ys h =
    let parts = order_parts (suc next) xs ys h.1 in
    let same : length xs + suc next ≡ suc (length xs) + next = omega arith in
    ((h.0, parts.0), subst (λ (n : ℕ). WritesInOrder n ys) same parts.1)

module _ {L M : Type 0} (R : List Pair → L → M → Type 0) (one : (names : List Pair) (left : L) (a b : M) → R names left a → R names left b → a ≡ b) where
  rows_one : {names : List Pair} {row : Row L} {a b : Row M} (next : ℕ) → RowsNamed R names row a → RowsNamed R names row b
      → WritesInOrder next (items_of a) → WritesInOrder next (items_of b) → a ≡ b
  rows_one next (named_item {names} {item} {rest} {other} name h) (named_item {other = other'} name' k) p q =
      let same = item_one item name name' next p.0 q.0 in
      let below = rows_one (suc next) h
      (subst (λ (x : Item). RowsNamed R (defined names (dest_of item) (dest_of x)) rest other') (sym same) k) p.1 q.1 in
      λ i. Then (same i) (below i)
  rows_one next (named_test {on} {other_yes = one_yes} {other_no = one_no} h h') (named_test {other_yes} {other_no} k k') p q =
      let parts = order_parts next (items_of one_yes) (items_of one_no) p in
      let others = order_parts next (items_of other_yes) (items_of other_no) q in
      let first = rows_one next h k parts.0 others.0 in
      let second = rows_one (length (items_of one_yes) + next) h' k' parts.1
      (subst (λ (row : Row M). WritesInOrder (length (items_of row) + next) (items_of other_no)) (sym first) others.1) in
      λ i. Either on (first i) (second i)
  rows_one next (named_leaf {names} {leaf} {other} h) (named_leaf {other = other'} k) p q = ap (λ (l : M). At_leaf l) (one names leaf other other' h k)

-- ---- states

-- lists of one length with the same elements at their places are equal
pub same_at : {X : Type 0} (xs ys : List X) → length xs ≡ length ys → ((at : ℕ) (x : X) → slice_get xs at ≡ Some x → slice_get ys at ≡ Some x) → xs ≡ ys
same_at [] [] e each = refl
same_at [] (y ∷ ys) e each = absurd (omega (arith, e))
same_at (x ∷ xs) [] e each = absurd (omega (arith, e))
same_at (x ∷ xs) (y ∷ ys) e each =
    let first : Some y ≡ Some x = each 0 x refl in
    let same : x ≡ y = (cc) in
    let fewer : length xs ≡ length ys = omega (arith, e) in
    λ i. same i ∷ same_at xs ys fewer (λ at z h. each (suc at) z h) i

module _ (rules : Rules) (keeps : TableKeeps rules.table) (room : Positive rules.limits) (region : ℕ) where
  state_one : (members : List Window) → AreDifferent (map key_of members) → (w : Window) (a b : AutomatonState) → StateFor rules members w a → StateFor rules members w b
      → a ≡ b
  state_one members differ w a b p q =
      let parameters = p.parameters ∙ sym q.parameters in
      let cut = row_one rules w p.cut q.cut p.row_for q.row_for in
      let filled = filled_one (uses (whole w.front)) w p.row_for.filled q.row_for.filled p.row_for.fills q.row_for.fills in
      let row = rows_one (LeafFor rules members) (λ names left x y h k. leaf_one rules members differ h k) p.row_for.filled.next p.matches
      (subst (λ (r : Row Left). RowsNamed (LeafFor rules members) (themselves (parameters_of (whole w.front))) r b.row) (sym cut) q.matches) p.ordered
      (subst (λ (v : Window). WritesInOrder v.next (items_of b.row)) (sym filled) q.ordered) in
      λ i. record { parameters = parameters i; row = row i }

  states_one : (members : List Window) → AreDifferent (map key_of members) → (states others : List AutomatonState) → Automates rules members states
      → Automates rules members others → states ≡ others
  states_one members differ states others p q =
      same_at states others (p.as_many ∙ sym q.as_many)
      (λ at x here.
      let m = state_of rules keeps room region members states p at x here in
      let e = q.each at m.0 m.1 in
      e.1 ∙ ap (λ (y : AutomatonState). Some y) (sym (state_one members differ m.0 x e.0 m.2 e.2)))

  -- ---- members

  steps_few : (members others : List Window) (one : IsClosed rules region members) (other : IsClosed rules region others) → other.0 ≤ one.0
  steps_few members others one other = elim (decide_less other.0 one.0) [
    | inl within ↦ within
    | inr beyond ↦
        let b = before (suc one.0) other.1 beyond in
        absurd (no_step rules region one.1 b.search)
  ]

  closed_one : (members others : List Window) → IsClosed rules region members → IsClosed rules region others → members ≡ others
  closed_one members others one other =
      let up = steps_few members others one other in
      let down = steps_few others members other one in
      let same : other.0 ≡ one.0 = omega (arith, up, down) in
      (search_one rules one.1 (subst (λ (steps : ℕ). Search rules region steps others (length others) []) same other.1)).windows

pub patterns_one : PatternsAreOne
patterns_one rules keeps room region rows most states others p q =
    let members = closed_one rules keeps room region p.members q.members p.closed q.closed in
    states_one rules keeps room region p.members (members_differ rules keeps room region p.closed.1) states others p.automates
    (subst (λ (ws : List Window). Automates rules ws others) (sym members) q.automates)
