-- A stub that is opened by its number is one that becomes its region's tree, somewhere in the window.
use Rattle.std.proofs.Common.{◌≡◌, ℕ, ◌-◌, Bool, true, false, List, Option, Some, None, refl, ap, subst}
use Rattle.std.specs.Prelude.{nat_eq, nat_lt, ◌&&◌, if◌then◌else◌}
use Rattle.pc_word.specs.declared.item.Item.{Item}
use Rattle.pc_word.specs.declared.item.Operand.{Operand}
use Rattle.pc_table.specs.Table.{Table, region_tree}
use Rattle.pc_window.specs.declared.home.Home.{Home}
use Rattle.pc_window.specs.Tree.{Tree, Pending, Undecided, Exit, Stop_exit, Trap_exit, home_of}
use Rattle.pc_window.specs.Opening.{Supply, Grafted, graft, under_item, under_test, below_item}
use Rattle.pc_certified.specs.Somewhere.{Somewhere, here, behind_item, in_yes_side, in_no_side}
use Rattle.pc_certified.specs.Changes.{OpensHere, the_stub}
use Rattle.pc_arranging.specs.Numbering.{leaf_count}
use Rattle.pc_arranging.specs.Stubs.{loop_within, may_open, opened_at}

-- it is opened with tags as for some loop
pub record OpensSomewhere (table : Table) (names : Supply) (from : Tree) (made : Grafted) : Type 0 where
  pub loop : Option ℕ
  pub opens : Somewhere (OpensHere table loop names made.names) from made.tree

one_made : (g h : Grafted) → Some g ≡ Some h → g ≡ h
one_made g h e = cc

module _ (table : Table) (enters : Bool) (inside : Option ℕ) (names : Supply) where
  below_an_item : (t o : ℕ) (x : Item) (rest : Tree) (r : Option Grafted) (made : Grafted) → ((h : Grafted) → r ≡ Some h → OpensSomewhere table names rest h)
      → under_item t o x r ≡ Some made → OpensSomewhere table names (Pending t o x rest) made
  below_an_item t o x rest None made f e = absurd (cc)
  below_an_item t o x rest (Some h) made f e =
      let k = f h refl in
      subst (OpensSomewhere table names (Pending t o x rest)) (one_made (below_item t o x h) made e) (record { loop = k.loop; opens = behind_item t o x k.opens })

  on_the_yes_side : (t o : ℕ) (on : Operand) (p q : Tree) (r : Option Grafted) (made : Grafted) → ((h : Grafted) → r ≡ Some h → OpensSomewhere table names p h)
      → under_test t o on p q r None ≡ Some made → OpensSomewhere table names (Undecided t o on p q) made
  on_the_yes_side t o on p q None made f e = absurd (cc)
  on_the_yes_side t o on p q (Some h) made f e =
      let k = f h refl in
      subst (OpensSomewhere table names (Undecided t o on p q)) (one_made (record { tree = Undecided t o on h.tree q; names = h.names }) made e)
      (record { loop = k.loop; opens = in_yes_side t o on q k.opens })

  on_the_no_side : (t o : ℕ) (on : Operand) (p q : Tree) (r : Option Grafted) (made : Grafted) → ((h : Grafted) → r ≡ Some h → OpensSomewhere table names q h)
      → under_test t o on p q None r ≡ Some made → OpensSomewhere table names (Undecided t o on p q) made
  on_the_no_side t o on p q None made f e = absurd (cc)
  on_the_no_side t o on p q (Some h) made f e =
      let k = f h refl in
      subst (OpensSomewhere table names (Undecided t o on p q)) (one_made (record { tree = Undecided t o on p h.tree; names = h.names }) made e)
      (record { loop = k.loop; opens = in_no_side t o on p k.opens })

  on_a_side : (t o : ℕ) (on : Operand) (p q : Tree) (r s : Option Grafted) (made : Grafted) → ((h : Grafted) → r ≡ Some h → OpensSomewhere table names p h)
      → ((h : Grafted) → s ≡ Some h → OpensSomewhere table names q h) → (b : Bool)
      → (if b then under_test t o on p q r None else under_test t o on p q None s) ≡ Some made → OpensSomewhere table names (Undecided t o on p q) made
  on_a_side t o on p q r s made f g true e = on_the_yes_side t o on p q r made f e
  on_a_side t o on p q r s made f g false e = on_the_no_side t o on p q s made g e

  a_stub : (region tag : ℕ) (homes : List Home) (made : Grafted) (b : Bool)
      → (if b then Some (graft table (loop_within table enters inside region) tag (region_tree table region) names (home_of homes)) else None) ≡ Some made
      → OpensSomewhere table names (Exit region tag homes) made
  a_stub region tag homes made false e = absurd (cc)
  a_stub region tag homes made true e =
      let same = one_made (graft table (loop_within table enters inside region) tag (region_tree table region) names (home_of homes)) made e in
      record {
        loop = loop_within table enters inside region;
        opens = here (the_stub region tag homes made.tree (ap (λ (g : Grafted). g.tree) same) (ap (λ (g : Grafted). g.names) same));
      }

  pub opened_somewhere : (tree : Tree) (leaf : ℕ) (made : Grafted) → opened_at table enters inside names tree leaf ≡ Some made → OpensSomewhere table names tree made
  opened_somewhere (Pending t o x rest) leaf made e = below_an_item t o x rest (opened_at table enters inside names rest leaf) made (λ h f. opened_somewhere rest leaf h f) e
  opened_somewhere (Undecided t o on p q) leaf made e =
      on_a_side t o on p q (opened_at table enters inside names p leaf) (opened_at table enters inside names q (leaf - leaf_count p)) made
      (λ h f. opened_somewhere p leaf h f) (λ h f. opened_somewhere q (leaf - leaf_count p) h f) (nat_lt leaf (leaf_count p)) e
  opened_somewhere (Exit region tag homes) leaf made e = a_stub region tag homes made (nat_eq leaf 0 && may_open table enters inside region tag) e
  opened_somewhere Stop_exit leaf made e = absurd (cc)
  opened_somewhere (Trap_exit kind line) leaf made e = absurd (cc)
