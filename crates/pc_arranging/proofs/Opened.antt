-- Opening a stub, as code goes down to it.
use Rattle.std.proofs.Common.{◌≡◌, ◌≢◌, ℕ, ◌-◌, ◌<◌, ◌≤◌, ◌^◌, Bool, true, false, List, Option, Some, None, refl, sym, ◌∙◌, ap, subst, lt-ltb, arith}
use Rattle.std.specs.Prelude.{nat_eq, nat_lt, nat_le, ◌&&◌, ◌||◌, if◌then◌else◌}
use Rattle.std.proofs.lemmas.Bool.Decides.{nat_tests}
use Rattle.pc_word.proofs.Truth.{of_most}
use Rattle.pc_word.specs.declared.item.Item.{Item}
use Rattle.pc_word.specs.declared.item.Operand.{Operand}
use Rattle.pc_table.specs.Table.{Table, TableTree, region_tree}
use Rattle.pc_table.specs.Loops.{is_inside}
use Rattle.pc_window.specs.declared.home.Home.{Home}
use Rattle.pc_window.specs.declared.names.NameTable.{NameTable}
use Rattle.pc_window.specs.declared.tree.WindowTree.{WindowTree}
use Rattle.pc_window.specs.Grafting.{Grafts}
use Rattle.pc_window.specs.Tree.{Tree, Pending, Undecided, Exit, Stop_exit, Trap_exit, home_of}
use Rattle.pc_window.specs.Opening.{Supply, Grafted, graft, under_item, under_test}
use Rattle.pc_window.specs.StoredWindow.{tree_in, supply_in, homes_in, InNodes}
use Rattle.pc_arranging.specs.Numbering.{leaf_count}
use Rattle.pc_arranging.specs.Stubs.{loop_within, may_open, opened_at}
use Rattle.pc_arranging.specs.models.Doing.{made_if, OpensTo}

-- ---- whether it may be opened

module _ (table : Table) (enters : Bool) (inside : Option ℕ) (region tag : ℕ) where
  pub too_high : 1073741823 < tag → false ≡ may_open table enters inside region tag
  too_high more = by_case (enters || is_inside table inside region)
    where
      by_case : (b : Bool) → false ≡ (b && nat_le tag 1073741823)
      by_case true = grind (arith, nat_tests)
      by_case false = refl

  low : tag ≤ 1073741823 → nat_le tag 1073741823 ≡ true
  low le = grind (arith, nat_tests)

  pub may_enter : tag ≤ 1073741823 → enters ≡ true → true ≡ may_open table enters inside region tag
  may_enter le e = sym (low le) ∙ ap (λ (b : Bool). (b || is_inside table inside region) && nat_le tag 1073741823) (sym e)

  pub if_inside : (b : Bool) → tag ≤ 1073741823 → enters ≡ false → b ≡ is_inside table inside region → b ≡ may_open table enters inside region tag
  if_inside b le e is =
      both b (nat_le tag 1073741823) (low le) ∙ ap (λ (c : Bool). c && nat_le tag 1073741823) is
      ∙ ap (λ (c : Bool). (c || is_inside table inside region) && nat_le tag 1073741823) (sym e)
    where
      both : (b c : Bool) → c ≡ true → b ≡ (b && c)
      both true c e = sym e
      both false c e = refl

pub ruleset asking = (too_high, may_enter, if_inside)

-- ---- the tree in its place

module _ (table : Table) (enters : Bool) (inside : Option ℕ) (region tag : ℕ) (homes : List Home) (old new : NameTable) where
  pub may_not : (b : Bool) → b ≡ may_open table enters inside region tag → b ≡ false → OpensTo table enters inside region tag homes old new None
  may_not b is e = sym is ∙ e

  pub grafts_it : (b : Bool) (from : TableTree) (loop : Option ℕ) (by_variable : List Operand) (tree : WindowTree) → b ≡ may_open table enters inside region tag → b ≡ true
      → from ≡ region_tree table region → loop ≡ loop_within table enters inside region → homes_in by_variable ≡ home_of homes → InNodes true tree
      → Grafts table loop tag from (supply_in old) (homes_in by_variable) (tree_in tree) (supply_in new)
      → OpensTo table enters inside region tag homes old new (Some tree)
  grafts_it b from loop by_variable tree is e from_is loop_is homes_are nodes grafts = (
    sym is ∙ e,
    nodes,
    grafts ∙ (λ i. graft table (loop_is i) tag (from_is i) (supply_in old) (homes_are i)),
  )

pub ruleset grafting = (may_not, grafts_it)

-- ---- on the way down

module _ (table : Table) (enters : Bool) (inside : Option ℕ) (names : Supply) (leaf : ℕ) where
  abbrev at_leaf : Tree → Option Grafted
  at_leaf tree = opened_at table enters inside names tree leaf

  pub below : (tag origin : ℕ) (item : Item) (old new : Tree) (after : Supply) (done : Bool) → opened_at table enters inside names old leaf ≡ made_if done (record { tree = new; names = after })
      → opened_at table enters inside names (Pending tag origin item old) leaf ≡ made_if done (record { tree = Pending tag origin item new; names = after })
  below tag origin item old new after true e = ap (under_item tag origin item) e
  below tag origin item old new after false e = ap (under_item tag origin item) e

  module _ (tag origin : ℕ) (on : Operand) (p q : Tree) (n : ℕ) (count : n ≡ leaf_count p) where
    abbrev choice : Bool → Option Grafted
    choice b =
        if b then under_test tag origin on p q (opened_at table enters inside names p leaf) None
        else under_test tag origin on p q None (opened_at table enters inside names q (leaf - leaf_count p))

    pub on_yes : (new : Tree) (after : Supply) (done : Bool) → leaf < n → opened_at table enters inside names p leaf ≡ made_if done (record { tree = new; names = after })
        → opened_at table enters inside names (Undecided tag origin on p q) leaf ≡ made_if done (record { tree = Undecided tag origin on new q; names = after })
    on_yes new after done less e =
        ap choice (lt-ltb leaf (leaf_count p) (omega arith)) ∙ ap (λ (o : Option Grafted). under_test tag origin on p q o None) e ∙ made done
      where
        made : (d : Bool) → under_test tag origin on p q (made_if d (record { tree = new; names = after })) None ≡ made_if d (record { tree = Undecided tag origin on new q; names = after })
        made true = refl
        made false = refl

    pub on_no : (new : Tree) (after : Supply) (done : Bool) → n ≤ leaf → opened_at table enters inside names q (leaf - n) ≡ made_if done (record { tree = new; names = after })
        → opened_at table enters inside names (Undecided tag origin on p q) leaf ≡ made_if done (record { tree = Undecided tag origin on p new; names = after })
    on_no new after done most e =
        ap choice (of_most leaf (leaf_count p) (omega arith))
        ∙ ap (λ (k : ℕ). under_test tag origin on p q None (opened_at table enters inside names q (leaf - k))) (sym count)
        ∙ ap (λ (o : Option Grafted). under_test tag origin on p q None o) e ∙ made done
      where
        made : (d : Bool) → under_test tag origin on p q None (made_if d (record { tree = new; names = after })) ≡ made_if d (record { tree = Undecided tag origin on p new; names = after })
        made true = refl
        made false = refl

  module _ (region tag : ℕ) (homes : List Home) (new : Tree) (after : Supply) where
    abbrev stub_choice : Bool → Option Grafted
    stub_choice b = if b then Some (graft table (loop_within table enters inside region) tag (region_tree table region) names (home_of homes)) else None

    pub another_leaf : leaf ≢ 0 → opened_at table enters inside names (Exit region tag homes) leaf ≡ made_if false (record { tree = new; names = after })
    another_leaf ne = ap stub_choice test
      where
        test : (nat_eq leaf 0 && may_open table enters inside region tag) ≡ false
        test = ap (λ (b : Bool). b && may_open table enters inside region tag) (zero_not leaf ne)
          where
            zero_not : (n : ℕ) → n ≢ 0 → nat_eq n 0 ≡ false
            zero_not n ne = grind (arith, nat_tests)

    at_zero : leaf ≡ 0 → nat_eq leaf 0 ≡ true
    at_zero e = ap (λ (n : ℕ). nat_eq n 0) e

    pub stays : leaf ≡ 0 → may_open table enters inside region tag ≡ false → opened_at table enters inside names (Exit region tag homes) leaf ≡ made_if false (record { tree = new; names = after })
    stays e not = ap stub_choice (ap (λ (b : Bool). b && may_open table enters inside region tag) (at_zero e) ∙ not)

    pub becomes : leaf ≡ 0 → may_open table enters inside region tag ≡ true
        → (let it : Grafted = record { tree = new; names = after } in it) ≡ graft table (loop_within table enters inside region) tag (region_tree table region) names (home_of homes)
        → opened_at table enters inside names (Exit region tag homes) leaf ≡ made_if true (record { tree = new; names = after })
    becomes e may is = ap stub_choice (ap (λ (b : Bool). b && may_open table enters inside region tag) (at_zero e) ∙ may) ∙ ap Some (sym is)

pub ruleset opening = (below, on_yes, on_no, another_leaf, stays, becomes)
