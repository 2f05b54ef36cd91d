-- The states of a search are those of an automaton.
use Rattle.std.proofs.Common.{◌≡◌, ℕ, zero, suc, List, [], ◌∷◌, length, refl, sym, ◌∙◌, ap, subst, arith}
use Rattle.std.specs.Prelude.{Bool, true, false, not, ◌&&◌, ◌||◌, if◌then◌else◌, nat_eq, Option, Some, None, slice_get}
use Rattle.std.specs.List.{AllByRecursion}
use Rattle.std.proofs.lemmas.Bool.{eqb-true, eq-eqb}
use Rattle.pc_word.specs.declared.item.Item.{Item}
use Rattle.pc_word.specs.declared.item.Item.TheVariants.{Bin, Copy, Load, Store, Print, Read, More}
use Rattle.pc_word.specs.declared.item.Operand.{Operand}
use Rattle.pc_word.specs.declared.item.Operand.TheVariants.{Name, Lit}
use Rattle.pc_word.specs.Items.{operands_of, dest_of}
use Rattle.pc_word.specs.Commit.{writes}
use Rattle.pc_word.specs.Row.{Row, items_of, tests_of, leaves_of}
use Rattle.pc_word.proofs.Lists.{all_front, all_back, all_both, all_at, all_imply}
use Rattle.pc_table.specs.Table.{Table}
use Rattle.pc_table.specs.TableKeeps.{TableKeeps}
use Rattle.pc_linear.specs.Form.{Form}
use Rattle.pc_window.specs.declared.home.Home.{Home}
use Rattle.pc_window.specs.Tree.{Tree, Pending, Undecided, Exit, Stop_exit, Trap_exit, Front, Issued, Split, Unfinished, whole}
use Rattle.pc_window.specs.Names.{uses, IsKnown, ReadsKnown, HomesKnown, and_dest, parameters_of}
use Rattle.pc_window.specs.Rebasing.{is_in}
use Rattle.pc_window.specs.WindowRun.{Window}
use Rattle.pc_window.specs.Filled.{Independent}
use Rattle.pc_window.specs.Kept.{Left}
use Rattle.pc_window.specs.Steps.{Positive, IsProper, left_of, front_row, cut_row}
use Rattle.pc_window.proofs.Filling.{filling_window}
use Rattle.pc_automaton.specs.declared.automaton.AutomatonLeaf.{AutomatonLeaf}
use Rattle.pc_automaton.specs.declared.automaton.AutomatonLeaf.TheVariants.{To, Out, Stop, Trap}
use Rattle.pc_automaton.specs.Automaton.{AutomatonState, is_parameter, LeafIsKnown, LeavesAreKnown, Takes, LeafLeads, IsStateAmong}
use Rattle.pc_automaton.specs.Automaton.{IsAutomaton}
use Rattle.pc_canon.specs.Pairs.{Pair, corresponds, others, themselves, defined, operands_for, OperandsAlike, ArgumentsAlike, HomesAlike}
use Rattle.pc_pattern.specs.NamedRow.{RowsNamed, named_item, named_test, named_leaf, LeavesAlike}
use Rattle.pc_pattern.specs.Searches.{Rules, IsClosed, bare_leaf, LeafFor, to_member, to_bare, to_region, to_end, to_trap, StateFor, Automates}
use Rattle.pc_canon.proofs.ParameterLists.{parameters_listed}
use Rattle.pc_canon.specs.Canonical.{parameter_pairs}
use Rattle.pc_pattern.proofs.Shifts.{shifted_many}
use Rattle.pc_pattern.proofs.Members.{members_proper, begins_with, state_of}
use Rattle.pc_word.specs.Naming.{with_dest}
use Rattle.pc_word.proofs.Truth.{or_first, or_second}

-- ---- what items and tests read

-- what is known is known where more is
abbrev Within : (ℕ → Bool) → (ℕ → Bool) → Type 0
Within known more = (x : ℕ) → known x ≡ true → more x ≡ true

known_more : (known more : ℕ → Bool) → Within known more → (o : Operand) → IsKnown known o → IsKnown more o
known_more known more f (Name x) h = f x h
known_more known more f (Lit value) h = tt

-- each item and each test of a row reads what is known
record RowReads {L : Type 0} (known : ℕ → Bool) (row : Row L) : Type 0 where
  items : AllByRecursion (ReadsKnown known) (items_of row)
  tests : AllByRecursion (IsKnown known) (tests_of row)

front_reads : (left : Tree → Left) (forms : ℕ → Form) (known : ℕ → Bool) (front : Front) → Independent forms known front
    → RowReads known (front_row left front)
front_reads left forms known (Issued t o x rest) h =
    let k = front_reads left forms known rest h.2 in record { items = (h.0, k.items); tests = k.tests }
front_reads left forms known (Split t o on p q) h =
    let k = front_reads left forms known p h.1 in
    let m = front_reads left forms known q h.2 in
    record {
      items = all_both (ReadsKnown known) (items_of (front_row left p)) (items_of (front_row left q)) k.items m.items;
      tests = (h.0, all_both (IsKnown known) (tests_of (front_row left p)) (tests_of (front_row left q)) k.tests m.tests);
    }
front_reads left forms known (Unfinished tree) h = record { items = tt; tests = tt }

cut_reads : (table : Table) (w : Window) (known : ℕ → Bool) (front : Front) → Independent w.forms known front → RowReads known (cut_row table w front)
cut_reads table w known (Issued t o x rest) h = front_reads (left_of table w) w.forms known (Issued t o x rest) h
cut_reads table w known (Split t o on p q) h = front_reads (left_of table w) w.forms known (Split t o on p q) h
cut_reads table w known (Unfinished tree) h = record { items = tt; tests = tt }

-- an item that writes another name reads the same
same_operands : (name : ℕ) (item : Item) → operands_of (with_dest name item) ≡ operands_of item
same_operands name (Bin op d l r) = refl
same_operands name (Copy d from) = refl
same_operands name (Load d a i) = refl
same_operands name (Store a i v) = refl
same_operands name (Print v) = refl
same_operands name (Read d) = refl
same_operands name (More d) = refl

named_reads : {L M : Type 0} {R : List Pair → L → M → Type 0} {names : List Pair} {row : Row L} {other : Row M} (known more : ℕ → Bool)
    → Within known more
    → RowsNamed R names row other → RowReads known row → RowReads more other
named_reads known more f (named_item {item} {rest} name h) k =
    let m = named_reads known more f h (record { items = k.items.1; tests = k.tests }) in
    record {
      items = (
        subst (λ (l : List Operand). AllByRecursion (IsKnown more) l) (sym (same_operands name item))
            (all_imply (IsKnown known) (IsKnown more) (operands_of item) (known_more known more f) k.items.0),
        m.items,
      );
      tests = m.tests;
    }
named_reads known more f (named_test {on} {on_yes} {on_no} {other_yes} {other_no} h g) k =
    let m = named_reads known more f h (record {
      items = all_front (ReadsKnown known) (items_of on_yes) (items_of on_no) k.items;
      tests = all_front (IsKnown known) (tests_of on_yes) (tests_of on_no) k.tests.1;
    }) in
    let n = named_reads known more f g (record {
      items = all_back (ReadsKnown known) (items_of on_yes) (items_of on_no) k.items;
      tests = all_back (IsKnown known) (tests_of on_yes) (tests_of on_no) k.tests.1;
    }) in
    record {
      items = all_both (ReadsKnown more) (items_of other_yes) (items_of other_no) m.items n.items;
      tests = (known_more known more f on k.tests.0, all_both (IsKnown more) (tests_of other_yes) (tests_of other_no) m.tests n.tests);
    }
named_reads known more f (named_leaf h) k = record { items = tt; tests = tt }

-- ---- what leaves use

-- names that correspond to themselves are their own other side
pub others_themselves : (xs : List ℕ) → others (themselves xs) ≡ xs
others_themselves [] = refl
others_themselves (x ∷ xs) = ap (λ (l : List ℕ). x ∷ l) (others_themselves xs)

-- what corresponds to a name is among the names of the other side
pub other_there : (pairs : List Pair) (x y : ℕ) → corresponds pairs x y ≡ true → is_in y (others pairs) ≡ true
other_there [] x y h = absurd (cc)
other_there (pair ∷ pairs) x y h = by (nat_eq pair.one x) (nat_eq pair.other y) refl (corresponds pairs x y) h (other_there pairs x y)
  where
    by : (a b : Bool) → nat_eq pair.other y ≡ b → (c : Bool) → (if a then b else (not b && c)) ≡ true → (c ≡ true → is_in y (others pairs) ≡ true)
        → (nat_eq y pair.other || is_in y (others pairs)) ≡ true
    by a true e c h next = or_first (nat_eq y pair.other) (is_in y (others pairs)) (eq-eqb y pair.other (sym (eqb-true pair.other y e)))
    by true false e c h next = absurd (cc)
    by false false e c h next = or_second (nat_eq y pair.other) (is_in y (others pairs)) (next h)

-- the names of the other side are known
abbrev OthersKnown : List Pair → (ℕ → Bool) → Type 0
OthersKnown names known = (y : ℕ) → is_in y (others names) ≡ true → known y ≡ true

operand_known : (names : List Pair) (known : ℕ → Bool) → OthersKnown names known → (a b : Operand) → OperandsAlike names a b → IsKnown known b
operand_known names known f (Name x) (Name y) h = f y (other_there names x y h)
operand_known names known f (Lit a) (Lit b) h = tt
operand_known names known f (Name x) (Lit b) h = absurd h
operand_known names known f (Lit a) (Name y) h = absurd h

arguments_known : (names : List Pair) (known : ℕ → Bool) → OthersKnown names known → (one other : List Operand) → ArgumentsAlike names one other
    → AllByRecursion (IsKnown known) other
arguments_known names known f [] [] h = tt
arguments_known names known f (a ∷ one) (b ∷ other) h = (operand_known names known f a b h.0, arguments_known names known f one other h.1)
arguments_known names known f [] (b ∷ other) h = absurd h
arguments_known names known f (a ∷ one) [] h = absurd h

homes_known : (names : List Pair) (known : ℕ → Bool) → OthersKnown names known → (one other : List Home) → HomesAlike names one other
    → HomesKnown known other
homes_known names known f [] [] h = tt
homes_known names known f (a ∷ one) (b ∷ other) h = (operand_known names known f a.value b.value h.1, homes_known names known f one other h.2)
homes_known names known f [] (b ∷ other) h = absurd h
homes_known names known f (a ∷ one) [] h = absurd h

alike_known : (names : List Pair) (known : ℕ → Bool) → OthersKnown names known → (one other : AutomatonLeaf) → LeavesAlike names one other
    → LeafIsKnown known other
alike_known names known f (To number one) (To number' other) h = arguments_known names known f one other h.1
alike_known names known f (Out region one) (Out region' other) h = homes_known names known f one other h.1
alike_known names known f one Stop h = tt
alike_known names known f one (Trap kind line) h = tt
alike_known names known f (To number one) (Out region other) h = absurd h
alike_known names known f (Out region one) (To number other) h = absurd h
alike_known names known f Stop (To number other) h = absurd h
alike_known names known f Stop (Out region other) h = absurd h
alike_known names known f (Trap kind line) (To number other) h = absurd h
alike_known names known f (Trap kind line) (Out region other) h = absurd h

leaf_known : {rules : Rules} {members : List Window} {names : List Pair} {left : Left} {leaf : AutomatonLeaf} (known : ℕ → Bool)
    → OthersKnown names known
    → LeafFor rules members names left leaf → LeafIsKnown known leaf
leaf_known {names} known f (to_member {arguments} brought member brings items at shifted given) =
    arguments_known names known f (operands_for (parameters_of (whole brought.front))) arguments given
leaf_known {names} known f (to_bare {other} brought leaf brings bare alike) = alike_known names known f leaf other alike
leaf_known {names} known f (to_region {homes} {homes'} alike) = homes_known names known f homes homes' alike
leaf_known known f to_end = tt
leaf_known known f to_trap = tt

one_more_known : (b y : ℕ) (rest known : Bool) (p q : Bool) → nat_eq y b ≡ p → nat_eq b y ≡ q → (p || rest) ≡ true → (rest ≡ true → known ≡ true)
    → (q || known) ≡ true
one_more_known b y rest known p true e e' h next = refl
one_more_known b y rest known true false e e' h next = absurd (let k = eq-eqb b y (sym (eqb-true y b e)) in let z : true ≡ false = sym k ∙ e' in cc)
one_more_known b y rest known false false e e' h next = next h

-- the names that both items write are known below
defined_known : (names : List Pair) (known : ℕ → Bool) (d e : Option ℕ) → OthersKnown names known
    → OthersKnown (defined names d e) (λ y. writes e y || known y)
defined_known names known (Some a) (Some b) f y h = one_more_known b y (is_in y (others names)) (known y) (nat_eq y b) (nat_eq b y) refl refl h (f y)
defined_known names known None e f y h = or_second (writes e y) (known y) (f y h)
defined_known names known (Some a) None f y h = f y h

leaves_known : {rules : Rules} {members : List Window} {names : List Pair} {row : Row Left} {other : Row AutomatonLeaf} (known : ℕ → Bool)
    → OthersKnown names known
    → RowsNamed (LeafFor rules members) names row other → LeavesAreKnown known other
leaves_known known f (named_item {names} {item} name h) =
    leaves_known (and_dest known (with_dest name item)) (defined_known names known (dest_of item) (dest_of (with_dest name item)) f) h
leaves_known known f (named_test h g) = (leaves_known known f h, leaves_known known f g)
leaves_known known f (named_leaf h) = leaf_known known f h

-- ---- where leaves lead

as_many_alike : (names : List Pair) (one other : List Operand) → ArgumentsAlike names one other → length other ≡ length one
as_many_alike names [] [] h = refl
as_many_alike names (a ∷ one) (b ∷ other) h = ap (λ (n : ℕ). suc n) (as_many_alike names one other h.1)
as_many_alike names [] (b ∷ other) h = absurd h
as_many_alike names (a ∷ one) [] h = absurd h

as_many_operands : (xs : List ℕ) → length (operands_for xs) ≡ length xs
as_many_operands [] = refl
as_many_operands (x ∷ xs) = ap (λ (n : ℕ). suc n) (as_many_operands xs)

bare_leads : (states : List AutomatonState) (names : List Pair) (tree : Tree) (leaf other : AutomatonLeaf) → bare_leaf tree ≡ Some leaf
    → LeavesAlike names leaf other
    → LeafLeads states other
bare_leads states names tree leaf (Out region homes) e h = tt
bare_leads states names tree leaf Stop e h = tt
bare_leads states names tree leaf (Trap kind line) e h = tt
bare_leads states names tree (Out region homes) (To number arguments) e h = absurd h
bare_leads states names tree Stop (To number arguments) e h = absurd h
bare_leads states names tree (Trap kind line) (To number arguments) e h = absurd h
bare_leads states names (Pending t o x rest) (To number' one) (To number arguments) e h = absurd (cc)
bare_leads states names (Undecided t o on p q) (To number' one) (To number arguments) e h = absurd (cc)
bare_leads states names (Exit region tag homes) (To number' one) (To number arguments) e h = absurd (cc)
bare_leads states names Stop_exit (To number' one) (To number arguments) e h = absurd (cc)
bare_leads states names (Trap_exit kind line) (To number' one) (To number arguments) e h = absurd (cc)

module _ (rules : Rules) (members : List Window) (states : List AutomatonState) (auto : Automates rules members states) where
  -- a member's state takes as many arguments as the member has parameters
  takes_arguments : (number count : ℕ) (member : Window) → slice_get members number ≡ Some member
      → count ≡ length (parameters_of (whole member.front))
      → Takes (slice_get states number) count
  takes_arguments number count member at many =
      let e = auto.each number member at in
      subst (λ (o : Option AutomatonState). Takes o count) (sym e.1) (many ∙ sym (ap (λ (l : List ℕ). length l) e.2.parameters))

  leaf_leads : {names : List Pair} {left : Left} {leaf : AutomatonLeaf} → LeafFor rules members names left leaf → LeafLeads states leaf
  leaf_leads {names} (to_member {number} {arguments} brought member brings items at shifted given) =
      takes_arguments number (length arguments) member at
      (as_many_alike names (operands_for (parameters_of (whole brought.front))) arguments given
      ∙ as_many_operands (parameters_of (whole brought.front)) ∙ shifted_many brought member (parameter_pairs brought member, shifted))
  leaf_leads {names} (to_bare {other} brought leaf brings bare alike) = bare_leads states names (whole brought.front) leaf other bare alike
  leaf_leads (to_region alike) = tt
  leaf_leads to_end = tt
  leaf_leads to_trap = tt

  leaves_lead : {names : List Pair} {row : Row Left} {other : Row AutomatonLeaf} → RowsNamed (LeafFor rules members) names row other
      → AllByRecursion (LeafLeads states) (leaves_of other)
  leaves_lead (named_item name h) = leaves_lead h
  leaves_lead (named_test {other_yes} {other_no} h g) =
      all_both (LeafLeads states) (leaves_of other_yes) (leaves_of other_no) (leaves_lead h) (leaves_lead g)
  leaves_lead (named_leaf h) = (leaf_leads h, tt)

  -- the state of a proper member is one among the states
  among : (w : Window) (state : AutomatonState) → IsProper w → StateFor rules members w state → IsStateAmong states state
  among w state proper f =
      let ps = parameters_of (whole w.front) in
      let known = uses (whole w.front) in
      let filled = filling_window known w f.row_for.filled f.row_for.fills proper.window in
      let listed : Within known (is_parameter state) =
      λ x h. subst (λ (l : List ℕ). is_in x l ≡ true) (sym f.parameters) (parameters_listed (whole w.front) x h) in
      let reads : RowReads known f.cut =
      subst (λ (r : Row Left). RowReads known r) (sym f.row_for.cuts)
      (cut_reads rules.table f.row_for.filled known f.row_for.filled.front filled.independent) in
      let row = named_reads known (is_parameter state) listed f.matches reads in
      record {
        items = row.items;
        tests = row.tests;
        leaves = leaves_known (is_parameter state) (λ y h. subst (λ (l : List ℕ). is_in y l ≡ true)
            (others_themselves ps ∙ sym f.parameters) h) f.matches;
        once = f.once;
        lead = leaves_lead f.matches;
      }

-- ---- the whole

-- what holds of the element at each place holds of all
pub all_from_places : {X : Type 0} (P : X → Type 0) (xs : List X) → ((i : ℕ) (x : X) → slice_get xs i ≡ Some x → P x) → AllByRecursion P xs
all_from_places P [] h = tt
all_from_places P (x ∷ xs) h = (h zero x refl, all_from_places P xs (λ i y at. h (suc i) y at))

pub are_automaton : (rules : Rules) → TableKeeps rules.table → Positive rules.limits
    → (region : ℕ) (members : List Window) (states : List AutomatonState)
    → IsClosed rules region members → Automates rules members states → IsAutomaton states
are_automaton rules keeps room region members states closed auto =
    let b = begins_with rules keeps room region closed.1 in
    let first = ap (λ (l : List Window). length l) b.at in
    let many = auto.as_many in
    record {
      some = omega (arith, first, many);
      each = all_from_places (IsStateAmong states) states
          (λ i state at. (let m = state_of rules keeps room region members states auto i state at in
          among rules members states auto m.0 state (all_at IsProper members i m.0 (members_proper rules keeps room region closed.1).0 m.1) m.2));
    }
