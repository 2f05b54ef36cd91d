-- Leaves that end as a window in memory does.
use Rattle.std.proofs.Common.{◌≡◌, ◌↔◌, Bool, true, false, Option, Some, None, refl, sym, ◌∙◌, ap, rules}
use Rattle.std.proofs.lemmas.Bool.{eqb-true, eq-eqb}
use Rattle.pc_word.specs.declared.item.TrapKind.{TrapKind}
use Rattle.pc_word.specs.declared.item.TrapKind.TheVariants.{DivideByZero, OutOfBounds, EndOfInput}
use Rattle.pc_word.specs.contracts.item.TrapKindPartialEq.TheImpl as trap_eq
use Rattle.pc_word.proofs.Truth.{and_true, and_made}
use Rattle.pc_machine.specs.declared.tree.Leaf.{Leaf}
use Rattle.pc_machine.specs.declared.tree.Leaf.TheVariants.{Goto, Stop, Trap}
use Rattle.pc_machine.specs.contracts.tree.LeafPartialEq.TheImpl as leaf_eq
use Rattle.pc_window.specs.declared.window.Window.{Window as StoredWindow}
use Rattle.pc_window.specs.Tree.{whole}
use Rattle.pc_window.specs.StoredWindow.{tree_in, window_in}
use Rattle.pc_window.proofs.WindowsStored.{whole_in}
use Rattle.pc_settling.specs.Arrives.{end_of}

-- ---- what `==` says of leaves

trap_tells : (x y : TrapKind) → trap_eq.eq-value.it x y ≡ true → x ≡ y
trap_tells x y e = search rules

trap_itself : (x : TrapKind) → trap_eq.eq-value.it x x ≡ true
trap_itself DivideByZero = refl
trap_itself OutOfBounds = refl
trap_itself EndOfInput = refl

leaf_tells : (x y : Leaf) → leaf_eq.eq-value.it x y ≡ true → x ≡ y
leaf_tells (Goto row) (Goto to) e = ap Goto (eqb-true row to e)
leaf_tells Stop Stop e = refl
leaf_tells (Trap kind line) (Trap other at) e =
    let both = and_true _ _ e in
    let kinds = trap_tells kind other both.0 in
    let lines = eqb-true line at both.1 in
    λ i. Trap (kinds i) (lines i)
leaf_tells _ _ e = absurd (cc)

leaf_itself : (x : Leaf) → leaf_eq.eq-value.it x x ≡ true
leaf_itself (Goto row) = eq-eqb row row refl
leaf_itself Stop = refl
leaf_itself (Trap kind line) = and_made _ _ (trap_itself kind) (eq-eqb line line refl)

-- ---- ends

-- the window's end is that of its tree in memory
end_in : (w : StoredWindow) (end : Option Leaf) → end ≡ end_of (tree_in w.tree) → end ≡ end_of (whole (window_in w).front)
end_in w end is = is ∙ ap end_of (sym (whole_in w.tree))

-- a window that is no end ends as no leaf does
pub ends_not : (w : StoredWindow) (leaf : Leaf) → None ≡ end_of (tree_in w.tree) → (false ≡ true) ↔ (end_of (whole (window_in w).front) ≡ Some leaf)
ends_not w leaf is = let none = end_in w None is in (λ e. absurd (cc), λ e. let never : None ≡ Some leaf = none ∙ e in absurd (cc))

-- and one that is ends as one leaf does
pub ends_if : (w : StoredWindow) (end leaf : Leaf) (same : Bool) → Some end ≡ end_of (tree_in w.tree) → same ≡ leaf_eq.eq-value.it end leaf
    → (same ≡ true) ↔ (end_of (whole (window_in w).front) ≡ Some leaf)
ends_if w end leaf same is tells =
    let there = end_in w (Some end) is in (
      λ e. sym there ∙ ap Some (leaf_tells end leaf (sym tells ∙ e)),
      λ e.
          let equal : end ≡ leaf = some_one end leaf (there ∙ e) in
          tells ∙ ap (λ (x : Leaf). leaf_eq.eq-value.it end x) (sym equal) ∙ leaf_itself end,
    )
  where
    some_one : (x y : Leaf) → Some x ≡ Some y → x ≡ y
    some_one x y e = cc
