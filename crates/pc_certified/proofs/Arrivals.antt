-- A window that arrives at a claim, and the claim's own window in its place.
use Rattle.std.proofs.Common.{◌≡◌, ℕ, List, [], Option, Some, None, refl, sym, ◌∙◌, ap, subst, append-nil, arith}
use Rattle.pc_word.specs.State.{State}
use Rattle.pc_linear.specs.Form.{Form}
use Rattle.pc_table.specs.Table.{Table}
use Rattle.pc_window.specs.Tree.{Tree, whole}
use Rattle.pc_window.specs.Walk.{Walked, Leaves, Finishes, walk}
use Rattle.pc_window.specs.WindowRun.{Window, follow, FormsHold}
use Rattle.pc_window.specs.Unwinding.{lesser_tag, least_tag, front_tag, or_zero}
use Rattle.pc_canon.specs.Pairs.{Pair, Correspond}
use Rattle.pc_canon.specs.Shift.{Maps, TreesAlike, both_then, both_either, both_exit, both_stop}
use Rattle.pc_canon.proofs.Alike.{home_states_alike}
use Rattle.pc_canon.proofs.ShiftForms.{shifted_forms}
use Rattle.pc_canon.specs.Shift.{both_trap as alike_traps}
use Rattle.pc_certified.specs.Facts.{Fact, StatesMatch}
use Rattle.pc_certified.specs.Claims.{Claim, ArrivesAt, unshifted, shifted_by}
use Rattle.pc_certified.proofs.OnePath.{operands_same}
use Rattle.pc_certified.proofs.Marked.{marked}
use Rattle.pc_certified.proofs.MarkedWalks.{printed_in}
use Rattle.pc_certified.proofs.ShiftMarks.{walks_alike, marks_alike, LeastAlike, least_alike, partner_state, partner_corresponds, operands_alike_valued}

-- ---- trees without tags

module _ (table : Table) where
  abbrev tree_of : Window → Tree
  tree_of w = whole w.front

  -- what is pending in a window, from its own least tag
  abbrev pub own_marks : Window → State → Walked
  own_marks w s = walk table.arrays (marked (front_tag (whole w.front)) 0 (whole w.front)) s

  -- ---- what a walk shows at once

  pub free_none : (w : Walked) → printed_in w ≡ [] → (follow table w 0).printed ≡ []
  free_none (Leaves printed region s) e = append-nil printed ∙ e
  free_none (Finishes printed end) e = e

  pub none_free : (w : Walked) → (follow table w 0).printed ≡ [] → printed_in w ≡ []
  none_free (Leaves printed region s) e = sym (append-nil printed) ∙ e
  none_free (Finishes printed end) e = e

  -- ---- a window that arrives at a claim

  -- the window of a claim, in place of one that arrived at it: it walks the same, and as much is pending
  pub record Arrived (comes : Window) (t : State) (target : Claim) (machine : State) : Type 0 where
    pub state : State
    pub alike : StatesMatch target.facts machine state
    pub forms : FormsHold table target.window state
    pub same : walk table.arrays (whole target.window.front) state ≡ walk table.arrays (whole comes.front) t
    pub marks_same : own_marks target.window state ≡ own_marks comes t

  bare_marks : {maps : Maps} {forms forms' : ℕ → Form} {names : List Pair} {one other : Tree} (base base' : ℕ) (s t : State) → Correspond names s t
      → TreesAlike maps forms forms' names one other → (i j : ℕ) → (maps.shift ≡ i) → (maps.other_shift ≡ j) → least_tag one ≡ None → least_tag other ≡ None
      → walk table.arrays (marked base 0 one) s ≡ walk table.arrays (marked base' 0 other) t
  bare_marks base base' s t c (both_then {tag = tag} {rest = rest} tags items dests below) i j p q e d = absurd (some tag (least_tag rest) e)
    where
      some : (tag : ℕ) (o : Option ℕ) → lesser_tag (Some tag) o ≡ None → ⊥
      some tag None e = cc
      some tag (Some k) e = cc
  bare_marks base base' s t c (both_either {tag = tag} {on_yes = x} {on_no = y} tags test f g) i j p q e d = absurd (some tag (lesser_tag (least_tag x) (least_tag y)) e)
    where
      some : (tag : ℕ) (o : Option ℕ) → lesser_tag (Some tag) o ≡ None → ⊥
      some tag None e = cc
      some tag (Some k) e = cc
  bare_marks base base' s t c (both_exit tags h) i j p q e d = absurd (cc)
  bare_marks base base' s t c (both_stop {names}) i j p q e d = ap (λ (u : State). Leaves [] 0 u) (home_states_alike names s t [] [] c tt)
  bare_marks base base' s t c (alike_traps {names}) i j p q e d = ap (λ (u : State). Leaves [] 0 u) (home_states_alike names s t [] [] c tt)

  own_marks_alike : {maps : Maps} {forms forms' : ℕ → Form} {names : List Pair} (one other : Tree) (s t : State) → Correspond names s t
      → TreesAlike maps forms forms' names one other → (o o' : Option ℕ) → least_tag one ≡ o → least_tag other ≡ o' → LeastAlike maps.shift maps.other_shift o o'
      → walk table.arrays (marked (front_tag one) 0 one) s ≡ walk table.arrays (marked (front_tag other) 0 other) t
  own_marks_alike {maps} one other s t c h (Some a) (Some b) e d l =
      let ea : front_tag one ≡ a = ap or_zero e in
      let eb : front_tag other ≡ b = ap or_zero d in
      marks_alike table.arrays (front_tag one) (front_tag other) 0 s t (omega (arith, ea, eb, l)) c h
  own_marks_alike {maps} one other s t c h None None e d l = bare_marks (front_tag one) (front_tag other) s t c h maps.shift maps.other_shift refl refl e d
  own_marks_alike one other s t c h (Some a) None e d l = absurd l
  own_marks_alike one other s t c h None (Some b) e d l = absurd l

  pub arrived : (comes : Window) (t : State) (target : Claim) (machine : State) (held : List Fact) → FormsHold table comes t → StatesMatch held machine t
      → ArrivesAt comes held target → Arrived comes t target machine
  arrived comes t target machine held forms alike (unshifted is facts) = record {
    state = t;
    alike = record {
      held = λ fact among. operands_same table.arrays held machine t alike fact.source fact.operand (facts fact among);
      cells = alike.cells;
      input = alike.input;
    };
    forms = subst (λ (w : Window). FormsHold table w t) is forms;
    same = ap (λ (w : Window). walk table.arrays (whole w.front) t) (sym is);
    marks_same = ap (λ (w : Window). own_marks w t) (sym is);
  }
  arrived comes t target machine held forms alike (shifted_by params shifted facts) =
      let u = partner_state params t in
      let c = partner_corresponds params t in
      let trees = shifted.1.trees in
      record {
        state = u;
        alike = record {
          held = λ fact among. let f = facts fact among in
              operands_same table.arrays held machine t alike fact.source f.0 f.2 ∙ operands_alike_valued params t u c f.0 fact.operand f.1;
          cells = alike.cells;
          input = alike.input;
        };
        forms = shifted_forms table params comes target.window t u shifted c forms;
        same = sym (walks_alike table.arrays t u c trees);
        marks_same = sym (own_marks_alike (whole comes.front) (whole target.window.front) t u c trees (least_tag (whole comes.front)) (least_tag (whole target.window.front)) refl refl
            (least_alike trees));
      }
