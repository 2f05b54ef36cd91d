-- A step makes one window at most, and so do steps.
use Rattle.std.proofs.Common.{◌≡◌, ℕ, Option, Some, List, refl, sym, ◌∙◌, ap, subst}
use Rattle.pc_table.specs.Table.{Table}
use Rattle.pc_window.specs.Tree.{Tree, whole}
use Rattle.pc_window.specs.Opening.{Grafted}
use Rattle.pc_window.specs.WindowRun.{Window, supply_of}
use Rattle.pc_fill.specs.Bringing.{IsBrought}
use Rattle.pc_fill.proofs.Brought.{brought_once}
use Rattle.pc_cert.specs.declared.certificate.Step.{Step}
use Rattle.pc_arranging.specs.Arranging as steps
use Rattle.pc_arranging.specs.Arranging.{begun, over_tree, Does, brings, joins, IsStepped, AreDone, none_left, one_done}
use Rattle.pc_arranging.specs.Laws.{ArrangedOnce}

one_place : (m n : ℕ) → Some m ≡ Some n → m ≡ n
one_place m n e = cc

one_made : (g h : Grafted) → Some g ≡ Some h → g ≡ h
one_made g h e = cc

one_tree : (t u : Tree) → Some t ≡ Some u → t ≡ u
one_tree t u e = cc

pub does_once : (table : Table) (step : Step) (w v u : Window) → Does table step w v → Does table step w u → v ≡ u
does_once table step w v u (brings place b) (brings place' c) = brought_once w place _ v u b c
does_once table step w v u (joins test on_yes on_no across at b) (joins test' on_yes' on_no' across' at' c) =
    let same : across' ≡ across = one_place across' across (sym at' ∙ at) in
    brought_once w on_yes (Some across) v u b (subst (λ (k : ℕ). IsBrought on_yes (Some k) w u) same c)
does_once table step w v u (steps.opens leaf made is same) (steps.opens leaf' made' is' same') =
    let e : made ≡ made' = one_made made made' (sym is ∙ is') in
    same ∙ ap (λ (g : Grafted). over_tree w g.tree g.names) e ∙ sym same'
does_once table step w v u (steps.enters leaf made is same) (steps.enters leaf' made' is' same') =
    let e : made ≡ made' = one_made made made' (sym is ∙ is') in
    same ∙ ap (λ (g : Grafted). over_tree w g.tree g.names) e ∙ sym same'
does_once table step w v u (steps.uses_copy copy part made is same) (steps.uses_copy copy' part' made' is' same') =
    let e : made ≡ made' = one_tree made made' (sym is ∙ is') in
    same ∙ ap (λ (t : Tree). over_tree w t (supply_of w)) e ∙ sym same'

pub done_once : (table : Table) (steps : List Step) (w v u : Window) → AreDone table steps w v → AreDone table steps w u → v ≡ u
done_once table steps w v u none_left none_left = refl
done_once table steps w v u (one_done {step = step} {steps = rest} {w = a} {v = b} {u = c} first more) (one_done {v = d} {u = e} first' more') =
    let same : d ≡ b = does_once table step a d b first'.does first.does in
    done_once table rest b c e more (subst (λ (x : Window). AreDone table rest x e) same more')

pub arranged_once : ArrangedOnce
arranged_once table steps w v u h k = done_once table steps (begun w) v u h k
