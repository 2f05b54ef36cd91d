-- A walk, constructor by constructor.
use Rattle.std.proofs.Common.{◌≡◌, ℕ, suc, ◌+◌, Option, Some, None, refl, sym, ◌∙◌, ap, subst, arith}
use Rattle.std.specs.Prelude.{Bool, true, false, if◌then◌else◌, nat_eq, ◌&&◌, List}
use Rattle.pc_word.specs.declared.item.Item.{Item}
use Rattle.pc_word.specs.declared.item.Operand.{Operand}
use Rattle.pc_table.specs.Table.{Table}
use Rattle.pc_window.specs.declared.home.Home.{Home}
use Rattle.pc_window.specs.declared.tree.WindowTree.{WindowTree}
use Rattle.pc_window.specs.Tree.{Tree, Pending, Undecided, Exit, tree_size}
use Rattle.pc_table.specs.Loops.{is_inside}
use Rattle.pc_window.specs.Opening.{Supply, Grafted, unwound_at}
use Rattle.pc_window.specs.StoredWindow.{tree_in, supply_in}
use Rattle.pc_window.proofs.Grafts.{nat_eq-same}
use Rattle.pc_unwind.specs.declared.growth.Growth.{Growth}
use Rattle.pc_unwind.specs.models.Walking.{with_growth, replacement, Replaces, MayReplace, replaces_no_more, replaces_once, WalksFrom, Walks}
use Rattle.pc_unwind.proofs.Parts.{none_left, replaces_again, replaces_below, ends_below, replaces_yes, full_yes, replaces_no, ends_no}

module _ (table : Table) (loop : Option ℕ) (tag : ℕ) where
  -- nothing to unwind
  pub walks_none : (tree : Tree) (growth : Growth) → unwound_at table loop tag (supply_in growth.names) tree ≡ None → Walks table loop tag tree growth tree growth false
  walks_none tree growth none elsewhere size = record { replacements = replaces_no_more (with_growth tree growth); ends = none; size = size }

  module _ (t o : ℕ) where
    -- below an item
    pub walks_item : (item : Item) (whole before after : Tree) (old new : Growth) (full : Bool) → Pending t o item before ≡ whole → Walks table loop tag before old after new full
        → Walks table loop tag whole old (Pending t o item after) new full
    walks_item item whole before after old new full is walks elsewhere size =
        let e = ap tree_size is in
        let w = walks (suc elsewhere) (omega arith) in
        let later = w.size in
        subst (λ (tree : Tree). WalksFrom table loop tag elsewhere full tree old (Pending t o item after) new) is (record {
          replacements = replaces_below table loop tag elsewhere t o item w.replacements;
          ends = ends_below table loop tag elsewhere t o item full (with_growth after new) w.ends;
          size = omega arith;
        })

    -- on the yes side of a test, where it stops there
    pub walks_yes : (on : Operand) (whole one one' two : Tree) (old new : Growth) → Undecided t o on one two ≡ whole → Walks table loop tag one old one' new true
        → Walks table loop tag whole old (Undecided t o on one' two) new true
    walks_yes on whole one one' two old new is walks elsewhere size =
        let e = ap tree_size is in
        let w = walks (suc (elsewhere + tree_size two)) (omega arith) in
        let later = w.size in
        subst (λ (tree : Tree). WalksFrom table loop tag elsewhere true tree old (Undecided t o on one' two) new) is (record {
          replacements = replaces_yes table loop tag elsewhere t o on two w.replacements;
          ends = full_yes table loop tag elsewhere t o on two (with_growth one' new) w.ends;
          size = omega arith;
        })

    -- on both sides of a test
    pub walks_both : (on : Operand) (whole one one' two two' : Tree) (old mid new : Growth) (full : Bool) → Undecided t o on one two ≡ whole
        → Walks table loop tag one old one' mid false → Walks table loop tag two mid two' new full → Walks table loop tag whole old (Undecided t o on one' two') new full
    walks_both on whole one one' two two' old mid new full is first second elsewhere size =
        let e = ap tree_size is in
        let w = first (suc (elsewhere + tree_size two)) (omega arith) in
        let later = w.size in
        let none = λ (names : Supply). none_left table loop tag one' (supply_in mid.names) names w.ends in
        let v = second (suc (elsewhere + tree_size one')) (omega arith) in
        let last = v.size in
        subst (λ (tree : Tree). WalksFrom table loop tag elsewhere full tree old (Undecided t o on one' two') new) is (record {
          replacements = replaces_again table loop tag (replaces_yes table loop tag elsewhere t o on two w.replacements) (replaces_no table loop tag elsewhere t o on one' none v.replacements);
          ends = ends_no table loop tag elsewhere t o on one' none full (with_growth two' new) v.ends;
          size = omega arith;
        })

  -- ---- a stub

  -- a stub that is not unwound: it has another tag, or leads out of the loop
  pub other_tag : (region at : ℕ) (homes : List Home) (growth : Growth) → (at ≡ tag → ⊥) → Walks table loop tag (Exit region at homes) growth (Exit region at homes) growth false
  other_tag region at homes growth other = walks_none (Exit region at homes) growth (by_tests (is_inside table loop region) (nat_eq at tag) refl)
    where
      by_tests : (b c : Bool) → nat_eq at tag ≡ c → (if b && c then Some (replacement table loop at region homes (supply_in growth.names)) else None) ≡ None
      by_tests false c e = refl
      by_tests true false e = refl
      by_tests true true e = absurd (other (grind arith))

  pub leads_out : (region at : ℕ) (homes : List Home) (growth : Growth) → is_inside table loop region ≡ false → Walks table loop tag (Exit region at homes) growth (Exit region at homes) growth false
  leads_out region at homes growth out =
      walks_none (Exit region at homes) growth (ap (λ (b : Bool). if b && nat_eq at tag then Some (replacement table loop at region homes (supply_in growth.names)) else None) out)

  -- a stub that is unwound
  pub unwound_stub : (region : ℕ) (homes : List Home) (names : Supply) → is_inside table loop region ≡ true
      → unwound_at table loop tag names (Exit region tag homes) ≡ Some (replacement table loop tag region homes names)
  unwound_stub region homes names within =
      (λ i. if within i && nat_eq tag tag then Some (replacement table loop tag region homes names) else None)
      ∙ ap (λ (b : Bool). if b then Some (replacement table loop tag region homes names) else None) (nat_eq-same tag)

  -- it would be too large
  pub too_large : (region : ℕ) (homes : List Home) (old new : Growth) → is_inside table loop region ≡ true → MayReplace table loop tag region homes old new None
      → Walks table loop tag (Exit region tag homes) old (Exit region tag homes) new true
  too_large region homes old new within (same, above) elsewhere size =
      subst (λ (growth : Growth). WalksFrom table loop tag elsewhere true (Exit region tag homes) old (Exit region tag homes) growth) (sym same) (record {
        replacements = replaces_no_more (with_growth (Exit region tag homes) old);
        ends = record { too_large = replacement table loop tag region homes (supply_in old.names); next = unwound_stub region homes (supply_in old.names) within; above = omega arith };
        size = size;
      })

  -- a tree is in its place, and is walked in turn
  pub walks_on : (region : ℕ) (homes : List Home) (old mid new : Growth) (tree : WindowTree) (whole placed after : Tree) (full : Bool) → Exit region tag homes ≡ whole
      → is_inside table loop region ≡ true → Replaces table loop tag region homes old mid tree → placed ≡ tree_in tree → Walks table loop tag placed mid after new full
      → Walks table loop tag whole old after new full
  walks_on region homes old mid new tree whole placed after full is within replaces same walks elsewhere size =
      let d = ap tree_size is in
      let grown = replaces.size in
      let least = replaces.within in
      let e = ap tree_size same in
      let w = walks elsewhere (omega arith) in
      let becomes : replacement table loop tag region homes (supply_in old.names) ≡ with_growth placed mid =
      sym replaces.grafts ∙ ap (λ (t : Tree). with_growth t mid) (sym same) in
      subst (λ (tree : Tree). WalksFrom table loop tag elsewhere full tree old after new) is (record {
        replacements = replaces_once (with_growth (Exit region tag homes) old) (with_growth placed mid) (with_growth after new)
            (unwound_stub region homes (supply_in old.names) within ∙ ap (λ (g : Grafted). Some g) becomes) (omega arith) w.replacements;
        ends = w.ends;
        size = w.size;
      })

pub ruleset walks = (walks_item, walks_yes, walks_both, other_tag, leads_out, too_large, walks_on, walks_none)
