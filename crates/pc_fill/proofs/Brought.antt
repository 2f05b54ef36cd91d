-- What is brought from a place by code has come by a jump, and nothing comes from there where code brings nothing.
use Rattle.std.proofs.Common.{◌≡◌, ◌↔◌, ℕ, Bool, true, false, Option, Some, None, refl, sym, ◌∙◌, ap, subst}
use Rattle.std.specs.Prelude.{slice_get}
use Rattle.pc_word.proofs.Truth.{failed, held}
use Rattle.pc_window.specs.declared.window.Window.{Window as StoredWindow}
use Rattle.pc_window.specs.Tree.{Tree, whole}
use Rattle.pc_window.specs.Names.{uses, Scoped}
use Rattle.pc_window.specs.WindowRun.{Window}
use Rattle.pc_window.specs.Filled.{priority_of}
use Rattle.pc_window.specs.Ready.{HasFresh}
use Rattle.pc_window.specs.Steps.{IsProper}
use Rattle.pc_window.specs.StoredWindow.{tree_in, front_in, window_in, NodesBehind}
use Rattle.pc_window.proofs.Readiness.{jumps_were_ready}
use Rattle.pc_window.proofs.Unwinding.{used_below}
use Rattle.pc_window.proofs.WindowsStored.{whole_in}
use Rattle.pc_fill.specs.declared.first.Candidate.{Candidate}
use Rattle.pc_fill.specs.declared.first.ReadyNode.{ReadyNode}
use Rattle.pc_fill.specs.Bringing.{IsTwin, IsBrought, BringsOrNot}
use Rattle.pc_fill.specs.FirstReady.{StandsReady}
use Rattle.pc_fill.specs.models.Landing.{ComesWith, landed_window}
use Rattle.pc_fill.specs.models.Places.{nodes_of, node_of, node_in, unwritten_above, IsReadyHere}
use Rattle.pc_fill.specs.models.Search.{IsReadyOrNot}
use Rattle.pc_fill.proofs.AtPlaces.{ready_known}
use Rattle.pc_fill.proofs.Entered.{EnteredAs, entered_as}
use Rattle.pc_fill.proofs.Found.{FoundJump, found_jump, stood_same, twin_there, is_landed}
use Rattle.pc_fill.proofs.Nodes.{stands_free, StandsFree}
use Rattle.pc_fill.proofs.Searching.{ready_at_place, here_stands}
use Rattle.pc_fill.proofs.StaysNew.{fresh_names}

-- ---- what stands at a place

module _ (window : StoredWindow) (place : ℕ) where
  pub nothing_stands : node_in None ≡ slice_get (nodes_of (tree_in window.tree)) place → IsReadyOrNot (uses (whole (front_in window.tree))) (window_in window) place None
  nothing_stands at r e =
      let known = uses (whole (front_in window.tree)) in
      let k : StandsFree known (window_in window).forms r.tag r.origin r.place r.what (front_in window.tree) =
      stands_free known (window_in window).forms r.tag r.origin r.place r.what (front_in window.tree) r.ready in
      let there : None ≡ Some _ = at ∙ ap (λ (t : Tree). slice_get (nodes_of t) place) (sym (whole_in window.tree)) ∙ ap (slice_get (nodes_of (whole (front_in window.tree)))) (sym e) ∙ k.at in
      absurd (cc)

  module _ (it : Candidate) (b : Bool) (found : node_in (Some it) ≡ slice_get (nodes_of (tree_in window.tree)) place)
      (scoped : Scoped (uses (whole (front_in window.tree))) (whole (front_in window.tree)))
      (iff : (b ≡ true) ↔ IsReadyHere (unwritten_above (tree_in window.tree) place) (window_in window) place it.item (node_of it).operands) where
    at_whole : slice_get (nodes_of (whole (front_in window.tree))) place ≡ Some (node_of it)
    at_whole = ap (λ (t : Tree). slice_get (nodes_of t) place) (whole_in window.tree) ∙ sym found

    pub not_ready : b ≡ false → IsReadyOrNot (uses (whole (front_in window.tree))) (window_in window) place None
    not_ready e r is =
        failed (ready_known window place it found scoped b iff) e
        (ready_at_place (uses (whole (front_in window.tree))) (window_in window) place (node_of it) at_whole r is).2

    pub is_ready_there : b ≡ true → IsReadyOrNot (uses (whole (front_in window.tree))) (window_in window) place
        (Some (record { tag = it.tag; origin = it.origin; place = place; item = it.item }))
    is_ready_there e = (
      here_stands (uses (whole (front_in window.tree))) (window_in window) place (node_of it) at_whole (held (ready_known window place it found scoped b iff) e),
      refl,
    )

-- ---- what is brought

-- the next name and form variable are new to a proper window
pub fresh_here : (w : Window) → IsProper w → HasFresh (uses (whole w.front)) w
fresh_here w p = fresh_names (uses (whole w.front)) w (λ x e. used_below w.next (whole w.front) x p.names_below e) (record { names_below = p.names_below; forms_below = p.forms_below })

module _ (w : Window) (p : IsProper w) (place : ℕ) (twin : Option ℕ) where
  -- nothing that is not ready is brought
  none_brought : IsReadyOrNot (uses (whole w.front)) w place None → (v : Window) → IsBrought place twin w v → ⊥
  none_brought never v b =
      let was = jumps_were_ready (uses (whole w.front)) w v b.jump in
      never was.0 (was.1.2 ∙ b.from)

  module _ (r : ReadyNode) (stands : StandsReady (uses (whole w.front)) w r) (here : r.place ≡ place) where
    -- nothing comes with a twin that it has not
    none_with : (ComesWith w.forms w.next r.tag r.origin r.item w.front r.place twin → ⊥) → (v : Window) → IsBrought place twin w v → ⊥
    none_with never v b = by_twin twin refl
      where
        by_twin : (t : Option ℕ) → twin ≡ t → ⊥
        by_twin None e = never (subst (ComesWith w.forms w.next r.tag r.origin r.item w.front r.place) (sym e) tt)
        by_twin (Some k) e =
            let j = b.jump in
            let beside : ((priority_of j.enters).3 ≡ 0) × ((priority_of j.enters).4 ≡ k) = subst (λ (t : Option ℕ). IsTwin t (priority_of j.enters).3 (priority_of j.enters).4) e b.beside in
            let h = twin_there (uses (whole w.front)) w r stands v j (b.from ∙ sym here) beside.0 in
            never (subst (ComesWith w.forms w.next r.tag r.origin r.item w.front r.place) (sym e)
            (subst (λ (n : ℕ). ComesWith w.forms w.next r.tag r.origin r.item w.front r.place (Some n)) beside.1 h))

    -- what lands has come
    lands_brought : ComesWith w.forms w.next r.tag r.origin r.item w.front r.place twin → (v : Window) → v ≡ landed_window w r twin → IsBrought place twin w v
    lands_brought with_twin v is =
        let j : FoundJump (uses (whole w.front)) w r twin = found_jump (uses (whole w.front)) w p.window (fresh_here w p) r stands twin with_twin in
        subst (IsBrought place twin w) (is_landed (uses (whole w.front)) w r stands twin j ∙ sym is) (record { jump = j.jump; from = j.place_is ∙ here; beside = j.twins })

-- as code sees it
module _ (w : StoredWindow) (p : IsProper (window_in w)) (place : ℕ) (twin : Option ℕ) where
  pub brings_none : IsReadyOrNot (uses (whole (front_in w.tree))) (window_in w) place None → BringsOrNot place twin (window_in w) None
  brings_none h = none_brought (window_in w) p place twin h

  module _ (r : ReadyNode) (ready : IsReadyOrNot (uses (whole (front_in w.tree))) (window_in w) place (Some r)) where
    pub brings_not : (b : Bool) → (b ≡ true) ↔ ComesWith (window_in w).forms (window_in w).next r.tag r.origin r.item (front_in w.tree) r.place twin → b ≡ false
        → BringsOrNot place twin (window_in w) None
    brings_not b iff e = none_with (window_in w) p place twin r ready.0 ready.1 (failed iff e)

    pub brings_it : (b : Bool) → (b ≡ true) ↔ ComesWith (window_in w).forms (window_in w).next r.tag r.origin r.item (front_in w.tree) r.place twin → b ≡ true
        → (later : StoredWindow) → window_in later ≡ landed_window (window_in w) r twin → NodesBehind later.tree
        → BringsOrNot place twin (window_in w) (Some later)
    brings_it b iff e later is nodes = (lands_brought (window_in w) p place twin r ready.0 ready.1 (held iff e) (window_in later) is, nodes)

-- ---- it is determined

module _ (w : Window) (r : ReadyNode) (stands : StandsReady (uses (whole w.front)) w r) (place : ℕ) (here : r.place ≡ place) (twin : Option ℕ) where
  -- the item or test that is brought is the one that stands there
  brought_lands : (v : Window) → IsBrought place twin w v → v ≡ landed_window w r twin
  brought_lands v b =
      let known = uses (whole w.front) in
      let j = b.jump in
      let a = priority_of j.enters in
      let e : EnteredAs w.next twin j.new j.comes w.front v.front a.0 a.1 a.2 = entered_as known w.forms v.forms j.new j.comes w.front v.front j.enters w.next j.next twin b.beside in
      let same = stood_same known w r stands a.0 a.1 a.2 e.what e.operands e.at (b.from ∙ sym here) in
      is_landed known w r stands twin (record { v = v; jump = j; tag_is = same.0; origin_is = same.1; place_is = b.from ∙ sym here; twins = b.beside })

-- what is brought from a place, alone or with one twin, comes to one window
pub brought_once : (w : Window) (place : ℕ) (twin : Option ℕ) (v u : Window) → IsBrought place twin w v → IsBrought place twin w u → v ≡ u
brought_once w place twin v u b c =
    let was = jumps_were_ready (uses (whole w.front)) w v b.jump in
    let r : ReadyNode = record { tag = was.0.tag; origin = was.0.origin; place = was.0.place; item = was.0.what } in
    let stands : StandsReady (uses (whole w.front)) w r = record { ready = was.0.ready; room = was.0.room } in
    let here : r.place ≡ place = was.1.2 ∙ b.from in
    brought_lands w r stands place here twin v b ∙ sym (brought_lands w r stands place here twin u c)
