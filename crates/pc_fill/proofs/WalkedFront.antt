-- The walk through a window: its front, and the whole.
use Rattle.std.proofs.Common.{◌≡◌, ℕ, suc, ◌+◌, ◌-◌, ◌<◌, Bool, true}
use Rattle.std.proofs.Common.{false, List, [], ◌∷◌, ◌++◌, Option, Some, None, refl, sym, ap, subst, arith}
use Rattle.std.specs.Prelude.{nat_lt}
use Rattle.pc_word.specs.declared.item.Item.{Item}
use Rattle.pc_word.specs.declared.item.Operand.{Operand}
use Rattle.pc_word.specs.Items.{operands_of}
use Rattle.pc_window.specs.Hold.{Side}
use Rattle.pc_window.specs.Tree.{Tree, Pending, Undecided, Front, Issued, Split, Unfinished, whole, tree_size}
use Rattle.pc_window.specs.Ready.{MayStandBehind}
use Rattle.pc_window.specs.StoredWindow.{front_in, window_in}
use Rattle.pc_fill.specs.declared.walk.Setting.{Setting}
use Rattle.pc_fill.specs.declared.first.ReadyNode.{ReadyNode}
use Rattle.pc_fill.specs.declared.walk.Found.{Found}
use Rattle.pc_fill.specs.declared.walk.Search.{Search}
use Rattle.pc_fill.specs.declared.path.Path.{Path}
use Rattle.pc_fill.specs.declared.path.Path.TheVariants as path
use Rattle.pc_fill.specs.models.Path.{is_plain, sides_of, LeadsOn}
use Rattle.pc_fill.specs.models.Places.{Node, known_in, MayComeFrom, IsReadyHere}
use Rattle.pc_fill.specs.models.Search.{BestBefore}
use Rattle.pc_fill.specs.models.Way.{Reaches, Behind_leaf, Behind_item, Behind_yes, Behind_no}
use Rattle.pc_fill.specs.models.Walk.{all_in, forms_of, MayComeHere, IsSetting, ComesInFront}
use Rattle.pc_fill.specs.models.Walk.{found_at, placed, LeadsToFound, BestSoFar, FindsFirst, LooksBehind, LooksThrough}
use Rattle.pc_fill.proofs.Sides.{to_below, from_below, to_yes, from_yes, to_no, from_no}
use Rattle.pc_fill.proofs.Searching.{look_unready, item_stands, rest_stands, test_stands, yes_stands, no_stands, all_stands}
use Rattle.pc_fill.proofs.Searching.{nothing_before, none_found, first_found}
use Rattle.pc_fill.proofs.Plain.{issued_plain}
use Rattle.pc_fill.proofs.Walked.{turned, moved}
use Rattle.pc_word.proofs.Truth.{fails_here}

-- ---- in the front

-- below an item
module _ (s : Setting) (way : Path) (place : ℕ) (tag origin : ℕ) (x : Item) (rest : Tree) (front_rest : Front)
    (h : ComesInFront s way place (Pending tag origin x rest) (Issued tag origin x front_rest)) where
  past_issued : (below : Path) → LeadsOn (forms_of s) (MayStandBehind (forms_of s) x) way below → sides_of below ≡ sides_of way → ComesInFront s below (suc place) rest front_rest
  past_issued below leads same = record {
    stands = rest_stands tag origin x rest place (suc place) (all_in s) (omega arith) h.stands;
    way = λ what n less.
        let e : place + suc n ≡ suc place + n = omega arith in
        let at = h.way what (suc n) (omega arith) in (
          λ m.
              let r = at.0 (subst (MayComeHere s what) (sym e) m) in
              let b = from_below ⊥ (λ j. MayStandBehind (forms_of s) x what × MayComeFrom (forms_of s) what front_rest j) n r.1 in
              ((leads what).1 (b.0, r.0), b.1),
          λ m.
              let a = (leads what).0 m.0 in
              subst (MayComeHere s what) e
              (at.1 (a.1, to_below ⊥ (λ j. MayStandBehind (forms_of s) x what × MayComeFrom (forms_of s) what front_rest j) n (a.0, m.1))),
        );
    leads = λ sides d n l.
        let e : place + suc n ≡ suc place + n = omega arith in
        subst (λ (it : List Bool). Reaches (front_in s.window.now.tree) (it ++ sides) d (suc place + n)) (sym same)
        (subst (λ (k : ℕ). Reaches (front_in s.window.now.tree) (sides_of way ++ sides) d k) e (h.leads sides d (suc n) (Behind_item tag origin x front_rest sides d n l)));
    in_order = h.in_order;
  }

  -- the item itself is not ready
  issued_passed : (best : Option ReadyNode) → BestBefore (known_in s.known.now) (window_in s.window.now) place best → BestBefore (known_in s.known.now) (window_in s.window.now) (suc place) best
  issued_passed best before =
      let node : Node = record { tag = tag; origin = origin; what = Some x; operands = operands_of x } in
      let at = item_stands tag origin x rest place (all_in s) h.stands in
      let e : place + 0 ≡ place = omega arith in
      let never : MayComeHere s (Some x) place → ⊥ = λ m. ((h.way (Some x) 0 (omega arith)).0 (subst (MayComeHere s (Some x)) (sym e) m)).1 in
      look_unready (known_in s.known.now) s.window.now place (suc place) node at (omega arith) best before false
      (fails_here (IsReadyHere (known_in s.known.now) (window_in s.window.now) place (Some x) (operands_of x)) (λ k. never k.way)) refl

-- below a test
module _ (s : Setting) (way : Path) (place : ℕ) (tag origin : ℕ) (on : Operand) (p q : Tree) (on_yes on_no : Front) (same : whole on_yes ≡ p)
    (h : ComesInFront s way place (Undecided tag origin on p q) (Split tag origin on on_yes on_no)) where
  same_size : tree_size (whole on_yes) ≡ tree_size p
  same_size = ap tree_size same

  Front_sides : Option Item → ℕ → Type 0
  Front_sides what j = Side (nat_lt j (tree_size (whole on_yes))) (MayComeFrom (forms_of s) what on_yes j) (MayComeFrom (forms_of s) what on_no (j - tree_size (whole on_yes)))

  -- on its yes side
  past_split_yes : (below : Path) → LeadsOn (forms_of s) (λ what. Unit {0}) way below → sides_of below ≡ sides_of way ++ (true ∷ []) → ComesInFront s below (suc place) p on_yes
  unfolding Front_sides
  past_split_yes below leads turns =
      let size = same_size in
      record {
        stands = yes_stands tag origin on p q place (suc place) (all_in s) (omega arith) h.stands;
        way = λ what n less.
            let e : place + suc n ≡ suc place + n = omega arith in
            let less' : n < tree_size (whole on_yes) = omega arith in
            let at = h.way what (suc n) (omega arith) in (
              λ m.
                  let r = at.0 (subst (MayComeHere s what) (sym e) m) in
                  let b = from_below ⊥ (Front_sides what) n r.1 in
                  ((leads what).1 (tt, r.0), from_yes (MayComeFrom (forms_of s) what on_yes) (MayComeFrom (forms_of s) what on_no) n (tree_size (whole on_yes)) less' b),
              λ m.
                  subst (MayComeHere s what) e
                  (at.1 (
                    ((leads what).0 m.0).1,
                    to_below ⊥ (Front_sides what) n (to_yes (MayComeFrom (forms_of s) what on_yes) (MayComeFrom (forms_of s) what on_no) n (tree_size (whole on_yes)) less' m.1),
                  )),
            );
        leads = λ sides d n l.
            let e : place + suc n ≡ suc place + n = omega arith in
            subst (λ (it : List Bool). Reaches (front_in s.window.now.tree) it d (suc place + n)) (turned (sides_of below) (sides_of way) sides true turns)
            (subst (λ (k : ℕ). Reaches (front_in s.window.now.tree) (sides_of way ++ (true ∷ sides)) d k) e
            (h.leads (true ∷ sides) d (suc n) (Behind_yes tag origin on on_yes on_no sides d n l)));
        in_order = λ e. (h.in_order e).0;
      }

  -- on its no side
  past_split_no : (below : Path) → LeadsOn (forms_of s) (λ what. Unit {0}) way below → sides_of below ≡ sides_of way ++ (false ∷ [])
      → ComesInFront s below (suc place + tree_size p) q on_no
  unfolding Front_sides
  past_split_no below leads turns =
      let size = same_size in
      record {
        stands = no_stands tag origin on p q place (suc place) (suc place + tree_size p) (all_in s) (omega arith) refl h.stands;
        way = λ what n less.
            let e : place + suc (tree_size (whole on_yes) + n) ≡ suc place + tree_size p + n = omega arith in
            let at = h.way what (suc (tree_size (whole on_yes) + n)) (omega arith) in (
              λ m.
                  let r = at.0 (subst (MayComeHere s what) (sym e) m) in
                  let b = from_below ⊥ (Front_sides what) (tree_size (whole on_yes) + n) r.1 in
                  ((leads what).1 (tt, r.0), from_no (MayComeFrom (forms_of s) what on_yes) (MayComeFrom (forms_of s) what on_no) n (tree_size (whole on_yes)) b),
              λ m.
                  subst (MayComeHere s what) e
                  (at.1 (
                    ((leads what).0 m.0).1,
                    to_below ⊥ (Front_sides what) (tree_size (whole on_yes) + n)
                        (to_no (MayComeFrom (forms_of s) what on_yes) (MayComeFrom (forms_of s) what on_no) n (tree_size (whole on_yes)) m.1),
                  )),
            );
        leads = λ sides d n l.
            let e : place + suc (tree_size (whole on_yes) + n) ≡ suc place + tree_size p + n = omega arith in
            subst (λ (it : List Bool). Reaches (front_in s.window.now.tree) it d (suc place + tree_size p + n)) (turned (sides_of below) (sides_of way) sides false turns)
            (subst (λ (k : ℕ). Reaches (front_in s.window.now.tree) (sides_of way ++ (false ∷ sides)) d k) e
            (h.leads (false ∷ sides) d (suc (tree_size (whole on_yes) + n)) (Behind_no tag origin on on_yes on_no sides d n l)));
        in_order = λ e. (h.in_order e).1;
      }

  -- the test itself is not ready
  split_passed : (best : Option ReadyNode) → BestBefore (known_in s.known.now) (window_in s.window.now) place best → BestBefore (known_in s.known.now) (window_in s.window.now) (suc place) best
  split_passed best before =
      let node : Node = record { tag = tag; origin = origin; what = None; operands = on ∷ [] } in
      let at = test_stands tag origin on p q place (all_in s) h.stands in
      let e : place + 0 ≡ place = omega arith in
      let never : MayComeHere s None place → ⊥ = λ m. ((h.way None 0 (omega arith)).0 (subst (MayComeHere s None) (sym e) m)).1 in
      look_unready (known_in s.known.now) s.window.now place (suc place) node at (omega arith) best before false
      (fails_here (IsReadyHere (known_in s.known.now) (window_in s.window.now) place None (on ∷ [])) (λ k. never k.way)) refl

-- ---- the front, as code goes through it

same_best : (s : Setting) (search : Search) (m n : ℕ)
    → ((best : Option ReadyNode) → BestBefore (known_in s.known.now) (window_in s.window.now) m best → BestBefore (known_in s.known.now) (window_in s.window.now) n best)
    → BestSoFar s m search → BestSoFar s n search
same_best s search m n on h = record { at = h.at; best = on (placed search.best h.at) h.best; way = h.way }

-- at a leaf of the front
pub went_behind : (s : Setting) (way : Path) (tree rest : Tree) (front : Front) (before after : Search) → tree ≡ rest → front ≡ Unfinished rest
    → LooksBehind s way 0 rest before after → LooksThrough s way tree front before after
went_behind s way tree rest front before after is is_front looks = record {
  on = λ set place comes best.
      let here = subst (λ (t : Tree). ComesInFront s way place t (Unfinished rest)) is (subst (ComesInFront s way place tree) is_front comes) in
      let size : tree_size tree ≡ tree_size rest = ap tree_size is in
      moved s after (place + tree_size rest) (place + tree_size tree) (omega arith)
      (looks.on set place (record {
        stands = here.stands;
        way = here.way;
        leads = λ sides d n l.
            let e : d ≡ 0 + d = omega arith in
            subst (λ (k : ℕ). Reaches (front_in s.window.now.tree) (sides_of way ++ sides) k (place + n)) e (here.leads sides d n (Behind_leaf rest sides d n l));
        in_order = here.in_order;
      }) best);
}

pub went_nowhere : (s : Setting) (way : Path) (tree : Tree) (front : Front) (search : Search) → tree_size tree ≡ 0 → LooksThrough s way tree front search search
went_nowhere s way tree front search none = record { on = λ set place comes best. moved s search place (place + tree_size tree) (omega arith) best }

-- past an item
module _ (s : Setting) (way : Path) (tree : Tree) (front : Front) (tag origin : ℕ) (x : Item) (rest : Tree) (front_rest : Front)
    (is : tree ≡ Pending tag origin x rest) (is_front : front ≡ Issued tag origin x front_rest) (before after : Search) where
  pub went_past : (below : Path) → LeadsOn (forms_of s) (MayStandBehind (forms_of s) x) way below → sides_of below ≡ sides_of way
      → LooksThrough s below rest front_rest before after → LooksThrough s way tree front before after
  went_past below leads same looks = record {
    on = λ set place comes best.
        let here = subst (λ (t : Tree). ComesInFront s way place t (Issued tag origin x front_rest)) is (subst (ComesInFront s way place tree) is_front comes) in
        let size : tree_size tree ≡ suc (tree_size rest) = ap tree_size is in
        moved s after (suc place + tree_size rest) (place + tree_size tree) (omega arith)
        (looks.on set (suc place) (past_issued s way place tag origin x rest front_rest here below leads same)
        (same_best s before place (suc place) (issued_passed s way place tag origin x rest front_rest here) best));
  }

  pub went_past_plain : is_plain x ≡ true → LooksThrough s way rest front_rest before after → LooksThrough s way tree front before after
  went_past_plain e looks = went_past way (issued_plain (forms_of s) x way e) refl looks

-- on both sides of a test
pub went_on_sides : (s : Setting) (way : Path) (tree : Tree) (front : Front) (tag origin : ℕ) (on : Operand) (p q : Tree) (f g : Front)
    → tree ≡ Undecided tag origin on p q → front ≡ Split tag origin on f g → whole f ≡ p
    → (before middle after : Search) (on_yes on_no : Path)
    → LeadsOn (forms_of s) (λ what. Unit {0}) way on_yes → sides_of on_yes ≡ sides_of way ++ (true ∷ []) → LooksThrough s on_yes p f before middle
    → LeadsOn (forms_of s) (λ what. Unit {0}) way on_no → sides_of on_no ≡ sides_of way ++ (false ∷ []) → LooksThrough s on_no q g middle after
    → LooksThrough s way tree front before after
went_on_sides s way tree front tag origin on p q f g is is_front same before middle after on_yes on_no leads turns looks leads' turns' looks' = record {
  on = λ set place comes best.
      let here = subst (λ (t : Tree). ComesInFront s way place t (Split tag origin on f g)) is (subst (ComesInFront s way place tree) is_front comes) in
      let size : tree_size tree ≡ suc (tree_size p + tree_size q) = ap tree_size is in
      moved s after (suc place + tree_size p + tree_size q) (place + tree_size tree) (omega arith)
      (looks'.on set (suc place + tree_size p) (past_split_no s way place tag origin on p q f g same here on_no leads' turns')
      (looks.on set (suc place) (past_split_yes s way place tag origin on p q f g same here on_yes leads turns)
      (same_best s before place (suc place) (split_passed s way place tag origin on p q f g same here) best)));
}

-- ---- the whole window

from_root : (s : Setting) → IsSetting s → ComesInFront s path.Root 0 (all_in s) (front_in s.window.now.tree)
from_root s set = record {
  stands = all_stands (all_in s);
  way = λ what k less.
      let e : 0 + k ≡ k = omega arith in
      (λ m. (tt, subst (MayComeHere s what) e m), λ m. subst (MayComeHere s what) (sym e) m.1);
  leads = λ sides d k l. let e : k ≡ 0 + k = omega arith in subst (λ (n : ℕ). Reaches (front_in s.window.now.tree) sides d n) e l;
  in_order = set.in_order;
}

-- what is found in it is the first of all
pub whole_searched : (s : Setting) (before after : Search) → IsSetting s → before.best ≡ None
    → LooksThrough s path.Root (all_in s) (front_in s.window.now.tree) before after
    → FindsFirst (known_in s.known.now) (window_in s.window.now) after.best after.way.items
whole_searched s before after set none looks =
    let known = known_in s.known.now in
    let start : BestSoFar s 0 before = record {
      at = 0;
      best = subst (λ (it : Option Found). BestBefore known (window_in s.window.now) 0 (placed it 0)) (sym none) (nothing_before known (window_in s.window.now));
      way = subst (λ (it : Option Found). LeadsToFound (front_in s.window.now.tree) it before.way.items 0) (sym none) tt;
    } in
    let end = looks.on set 0 (from_root s set) start in
    by_case after.best end.at end.best end.way
  where
    by_case : (found : Option Found) (at : ℕ) → BestBefore (known_in s.known.now) (window_in s.window.now) (0 + tree_size (all_in s)) (placed found at)
        → LeadsToFound (front_in s.window.now.tree) found after.way.items at → FindsFirst (known_in s.known.now) (window_in s.window.now) found after.way.items
    by_case None at best way = none_found (known_in s.known.now) s.window.now (0 + tree_size (all_in s)) None refl best refl
    by_case (Some it) at best way = (at, way, first_found (known_in s.known.now) s.window.now (0 + tree_size (all_in s)) (Some (found_at it at)) refl best)

pub ruleset going = (went_behind, went_nowhere, went_past, went_past_plain, went_on_sides)
