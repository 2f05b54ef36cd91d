-- Windows in memory once something has come into the front.
use Rattle.std.proofs.Common.{◌≡◌, ℕ, Bool, List, ◌∷◌}
use Rattle.std.proofs.Common.{true, false, Option, Some, Result, Ok, Err, refl, sym, ◌∙◌, ap}
use Rattle.std.specs.Prelude.{if◌then◌else◌, OnOk, IfOk}
use Rattle.pc_word.specs.Items.{dest_of}
use Rattle.pc_word.specs.declared.item.Item.{Item}
use Rattle.pc_word.specs.declared.item.Operand.{Operand}
use Rattle.pc_fill.specs.declared.landing.Coming.{Coming}
use Rattle.pc_fill.specs.models.Landing.{both_unfinished, joins, place_or_root}
use Rattle.pc_fill.specs.models.Way.{taken_along, joins_along, above_along, landed_along}
use Rattle.pc_window.proofs.WindowsStored.{whole_in, below_unfinished, below_behind}
use Rattle.pc_window.specs.declared.tree.WindowTree.{WindowTree}
use Rattle.pc_window.specs.declared.tree.WindowTree.TheVariants as stored
use Rattle.pc_window.specs.Tree.{Front, Issued, Split, Unfinished, whole}
use Rattle.pc_window.specs.StoredWindow.{tree_in, front_in, InNodes, NodesBehind}
use Rattle.pc_fill.specs.models.Taking.{taken_out}

-- ---- as code sees it

pub ok_imply : {X E A B : Type 0} (r : Result X E) → (A → B) → OnOk r A → OnOk r B
ok_imply (Ok x) f h = f h
ok_imply (Err e) f h = tt

pub ok_all : {X E : Type 0} (P Q : X → Type 0) (r : Result X E) → ((x : X) → P x → Q x) → IfOk r P → IfOk r Q
ok_all P Q (Ok x) f h = f x h
ok_all P Q (Err e) f h = tt

-- a leaf's side, where neither side is finished
pub yes_leaf : (p q : WindowTree) → NodesBehind p → both_unfinished (front_in p) (front_in q) ≡ true → InNodes false p
yes_leaf (stored.Step' tag origin item b rest) q h e = absurd (cc)
yes_leaf (stored.Test' tag origin on b on_yes d on_no) q h e = absurd (cc)
yes_leaf (stored.Node' b below) q h e = h
yes_leaf (stored.Exit region tag homes) q h e = tt
yes_leaf stored.Stop q h e = tt
yes_leaf (stored.Trap kind line) q h e = tt

no_unfinished : (f g : Front) → both_unfinished f g ≡ true → both_unfinished g f ≡ true
no_unfinished (Issued t o y rest) g e = absurd (cc)
no_unfinished (Split t o on p q) g e = absurd (cc)
no_unfinished (Unfinished a) (Issued t o y rest) e = absurd (cc)
no_unfinished (Unfinished a) (Split t o on p q) e = absurd (cc)
no_unfinished (Unfinished a) (Unfinished b) e = refl

pub no_leaf : (p q : WindowTree) → NodesBehind q → both_unfinished (front_in p) (front_in q) ≡ true → InNodes false q
no_leaf p q h e = yes_leaf q p h (no_unfinished (front_in p) (front_in q) e)

-- where `if a then b else false` is true, both are
both_hold : (a b : Bool) → (if a then b else false) ≡ true → (a ≡ true) × (b ≡ true)
both_hold true b e = (refl, e)
both_hold false b e = absurd (cc)

-- an item and its twin
module _ (c : Coming) (item : Item) (twin : ℕ) (is_item : c.item ≡ Some item) (is_twin : c.twin ≡ Some twin) (front : Front) (tag origin : ℕ) (on : Operand) (p q : WindowTree)
    (is : front ≡ Split tag origin on (front_in p) (front_in q)) (way : List Bool) (h : joins_along c.twin front way ≡ true) where
  here : joins_along c.twin (Split tag origin on (front_in p) (front_in q)) way ≡ true
  here = ap (λ (f : Front). joins_along c.twin f way) (sym is) ∙ h

  module _ (side : Bool) (below : List Bool) (turns : way ≡ side ∷ below) where
    parts : (side ≡ true) × (joins c.twin (front_in p) (front_in q) ≡ true)
    parts = both_hold side (joins c.twin (front_in p) (front_in q)) (ap (joins_along c.twin (Split tag origin on (front_in p) (front_in q))) (sym turns) ∙ here)

    pub joined_both : both_unfinished (front_in p) (front_in q) ≡ true
    joined_both = ap (λ (t : Option ℕ). joins t (front_in p) (front_in q)) (sym is_twin) ∙ parts.1

    pub joined_front : (depth : ℕ) (it : Front) → it ≡ Issued c.tag c.origin item (Split tag origin on (Unfinished (taken_along (dest_of item) (tree_in p) below depth))
        (Unfinished (taken_out (dest_of item) (tree_in q) twin)))
        → it ≡ landed_along c front way depth
    joined_front depth it e =
        e ∙ (λ i. above_along c (sym is_item i) tag origin on (sym (whole_in p) i) (sym (whole_in q) i) below depth (place_or_root (sym is_twin i)))
        ∙ ap (λ (b : Bool). if b then above_along c c.item tag origin on (whole (front_in p)) (whole (front_in q)) below depth (place_or_root c.twin)
        else Split tag origin on (landed_along c (front_in p) below depth) (front_in q)) (sym parts.1)
        ∙ ap (λ (b : Bool). if b then (if joins c.twin (front_in p) (front_in q) then above_along c c.item tag origin on (whole (front_in p)) (whole (front_in q)) below depth (place_or_root c.twin)
        else Split tag origin on (landed_along c (front_in p) below depth) (front_in q)) else Split tag origin on (front_in p) (landed_along c (front_in q) below depth)) (sym parts.0)
        ∙ (λ i. landed_along c (sym is i) (sym turns i) depth)

pub ruleset landing = (below_unfinished, below_behind)

pub ruleset joining = (below_unfinished)
