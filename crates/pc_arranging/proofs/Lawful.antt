-- Steps are made of legal changes, and keep windows proper.
use Rattle.std.proofs.Common.{◌≡◌, ℕ, zero, suc, ◌≤◌, Bool, true, false, Option, Some, None, List, refl, sym, subst, arith}
use Rattle.std.specs.Prelude.{nat_le, if◌then◌else◌}
use Rattle.pc_word.specs.declared.item.Limits.{Limits}
use Rattle.pc_word.specs.declared.item.Operand.TheVariants.{Name}
use Rattle.pc_table.specs.Table.{Table}
use Rattle.pc_window.specs.Tree.{Tree, whole}
use Rattle.pc_window.specs.Names.{uses}
use Rattle.pc_window.specs.Opening.{Supply, Grafted, first_new, with_name}
use Rattle.pc_window.specs.WindowRun.{Window, supply_of}
use Rattle.pc_window.specs.Steps.{window_of, Positive, IsProper}
use Rattle.pc_window.proofs.CutRows.{whole_front_of}
use Rattle.pc_window.proofs.GraftForms.{with_name-below}
use Rattle.pc_window.proofs.Proper.{becomes_proper}
use Rattle.pc_window.proofs.Tidying.{not_true}
use Rattle.pc_window.proofs.Unwinding.{used_below}
use Rattle.pc_fill.specs.Bringing.{IsBrought}
use Rattle.pc_cert.specs.declared.certificate.Step.{Step}
use Rattle.pc_certified.specs.Somewhere.{Somewhere}
use Rattle.pc_certified.specs.Changes.{OneChange, moves, regroups, opens, adds_copy, uses_copy, OpensStub, ChangesTo, no_change, one_change}
use Rattle.pc_certified.specs.Copies.{UsesCopy, ExchangedHere}
use Rattle.pc_certified.proofs.Copies.{copy_below, copy_scoped, use_below, use_scoped}
use Rattle.pc_certified.proofs.Jumps.{jumps_are_moves}
use Rattle.pc_certified.proofs.WindowChanges as changes
use Rattle.pc_arranging.specs.declared.naming.FoundHome.{FoundHome}
use Rattle.pc_arranging.specs.Stubs.{opened_at}
use Rattle.pc_arranging.specs.Naming.{home_at, with_home, copied_below, or_at_root, named_home, then_next, named_homes, home_count, entered_at}
use Rattle.pc_arranging.specs.Arranging.{wide_limits, unfinished, begun, grafted, over_tree, Does, brings, joins, IsStepped, AreDone, none_left, one_done, Arranges}
use Rattle.pc_arranging.specs.Arranging as steps
use Rattle.pc_arranging.specs.Laws.{ArrangingChanges, ArrangedIsProper}
use Rattle.pc_arranging.proofs.Opens.{OpensSomewhere, opened_somewhere}
use Rattle.pc_arranging.proofs.Uses.{used_somewhere}
use Rattle.pc_arranging.proofs.Enters.{NamesHome, names_home}

-- what a chain of changes leads to, which is proper
pub record LeadsTo (table : Table) (w v : Window) : Type 0 where
  pub changes : ChangesTo table w v
  pub proper : IsProper v

and_then : (table : Table) (w v u : Window) → ChangesTo table w v → ChangesTo table v u → ChangesTo table w u
and_then table w v u no_change more = more
and_then table w v u (one_change one rest) more = one_change one (and_then table _ v u rest more)

-- ---- nothing in front

-- a proper window is one with nothing in its front too
pub unfinished_proper : (w : Window) (limits : Limits) → Positive limits → IsProper w → IsProper (unfinished (whole w.front) (supply_of w) limits w.inside)
unfinished_proper w limits room p = record {
  window = record { scoped = p.window.scoped; independent = tt; within = record { items = omega arith; memory = omega arith; tests = omega arith } };
  room = room;
  names_below = p.names_below;
  forms_below = p.forms_below;
}

pub wide : Positive wide_limits
wide = record { ops = omega arith; tests = omega arith; mem = omega arith }

begins : (table : Table) (w : Window) → IsProper w → LeadsTo table w (begun w)
begins table w p =
    let q = unfinished_proper w wide_limits wide p in
    record { changes = one_change (regroups (record { tree = refl; forms = refl; proper = q })) no_change; proper = q }

-- a changed tree, with nothing in its front
over_changed : (table : Table) (w : Window) (tree : Tree) (names : Supply) → IsProper (window_of tree names w.limits w.inside)
    → OneChange table w (window_of tree names w.limits w.inside) → LeadsTo table w (over_tree w tree names)
over_changed table w tree names p change =
    let m = window_of tree names w.limits w.inside in
    let same = whole_front_of tree in
    let q : IsProper (over_tree w tree names) = subst (λ (t : Tree). IsProper (over_tree w t names)) same (unfinished_proper m w.limits p.room p) in
    record { changes = one_change change (one_change (regroups (record { tree = sym same; forms = refl; proper = q })) no_change); proper = q }

-- a stub becomes its region's tree
opened : (table : Table) (enters : Bool) (w : Window) → IsProper w → (leaf : ℕ) (made : Grafted) → opened_at table enters w.inside (supply_of w) (whole w.front) leaf ≡ Some made
    → LeadsTo table w (over_tree w made.tree made.names)
opened table enters w p leaf made is =
    let k : OpensSomewhere table (supply_of w) (whole w.front) made = opened_somewhere table enters w.inside (supply_of w) (whole w.front) leaf made is in
    let o : OpensStub table w (window_of made.tree made.names w.limits w.inside) = record { loop = k.loop; after = made.names; tree = made.tree; opens = k.opens; is = refl } in
    over_changed table w made.tree made.names (changes.opens_proper table w (window_of made.tree made.names w.limits w.inside) o p) (opens o)

-- a Copy is used
exchanged : (table : Table) (w : Window) → IsProper w → (made : Tree) → Somewhere ExchangedHere (whole w.front) made → LeadsTo table w (over_tree w made (supply_of w))
exchanged table w p made s =
    let u : UsesCopy w (window_of made (supply_of w) w.limits w.inside) = record { tree = made; changes = s; is = refl } in
    let q = becomes_proper made (supply_of w) w.limits w.inside (uses (whole w.front)) (use_below w.next s p.names_below) p.forms_below p.room (use_scoped s (uses (whole w.front)) p.window.scoped) in
    over_changed table w made (supply_of w) q (uses_copy u)

one_made : (g h : Grafted) → Some g ≡ Some h → g ≡ h
one_made g h e = cc

-- ---- one home gets a name

-- by two changes
home_leads : (table : Table) (w : Window) → IsProper w → (leaf home : ℕ) (found : FoundHome) → home_at (whole w.front) leaf home ≡ Some found → (made : Grafted)
    → named_home (grafted w) leaf home (Some found) ≡ Some made → LeadsTo table w (over_tree w made.tree made.names)
home_leads table w p leaf home found at made is =
    let names = with_name (supply_of w) None in
    let copied = or_at_root found.tag w.next found.operand (whole w.front) (copied_below found.tag w.next found.operand (whole w.front) leaf) in
    let named = with_home (Name w.next) copied leaf home in
    let h : NamesHome w.next (whole w.front) copied named = names_home w.next (whole w.front) leaf home found at in
    let new : uses (whole w.front) w.next ≡ false = not_true (uses (whole w.front) w.next) (λ u. let lt = used_below w.next (whole w.front) w.next p.names_below u in absurd (omega (arith, lt))) in
    let q = becomes_proper copied names w.limits w.inside (uses (whole w.front)) (copy_below w.next h.adds p.names_below) (with_name-below (supply_of w) None tt p.forms_below) p.room
    (copy_scoped w.next h.adds (uses (whole w.front)) new p.names_below p.window.scoped) in
    let first : LeadsTo table w (over_tree w copied names) = over_changed table w copied names q (adds_copy (record { tree = copied; adds = h.adds; is = refl })) in
    let second : LeadsTo table (over_tree w copied names) (over_tree w named names) = exchanged table (over_tree w copied names) first.proper named h.uses_it in
    subst (λ (g : Grafted). LeadsTo table w (over_tree w g.tree g.names)) (one_made (record { tree = named; names = names }) made is)
    (record { changes = and_then table w (over_tree w copied names) (over_tree w named names) first.changes second.changes; proper = second.proper })

-- so do all
homes_lead : (table : Table) (count : ℕ) (w : Window) → IsProper w → (leaf home : ℕ) (made : Grafted) → named_homes count (grafted w) leaf home ≡ Some made
    → LeadsTo table w (over_tree w made.tree made.names)
homes_lead table zero w p leaf home made is =
    let q = unfinished_proper w w.limits p.room p in
    subst (λ (g : Grafted). LeadsTo table w (over_tree w g.tree g.names)) (one_made (grafted w) made is)
    (record { changes = one_change (regroups (record { tree = refl; forms = refl; proper = q })) no_change; proper = q })
homes_lead table (suc n) w p leaf home made is =
    by_found (λ u q e. homes_lead table n u q leaf (suc home) made e) (home_at (whole w.front) leaf home) refl is
  where
    by_found : ((u : Window) → IsProper u → named_homes n (grafted u) leaf (suc home) ≡ Some made → LeadsTo table u (over_tree u made.tree made.names))
        → (f : Option FoundHome) → home_at (whole w.front) leaf home ≡ f → then_next (named_home (grafted w) leaf home f) (λ h. named_homes n h leaf (suc home)) ≡ Some made
        → LeadsTo table w (over_tree w made.tree made.names)
    by_found further None at e = absurd (cc)
    by_found further (Some found) at e =
        let names = with_name (supply_of w) None in
        let copied = or_at_root found.tag w.next found.operand (whole w.front) (copied_below found.tag w.next found.operand (whole w.front) leaf) in
        let named : Grafted = record { tree = with_home (Name w.next) copied leaf home; names = names } in
        let first = home_leads table w p leaf home found at named refl in
        let more = further (over_tree w named.tree named.names) first.proper e in
        record { changes = and_then table w (over_tree w named.tree named.names) (over_tree w made.tree made.names) first.changes more.changes; proper = more.proper }

-- a stub is entered
entered : (table : Table) (w : Window) → IsProper w → (leaf : ℕ) (made : Grafted) → entered_at table w.inside (grafted w) leaf ≡ Some made → LeadsTo table w (over_tree w made.tree made.names)
entered table w p leaf made is = by_count (nat_le (home_count (whole w.front) leaf) first_new) is
  where
    by_named : (r : Option Grafted) → named_homes (home_count (whole w.front) leaf) (grafted w) leaf 0 ≡ r
        → then_next r (λ h. opened_at table true w.inside h.names h.tree leaf) ≡ Some made → LeadsTo table w (over_tree w made.tree made.names)
    by_named None named e = absurd (cc)
    by_named (Some h) named e =
        let first = homes_lead table (home_count (whole w.front) leaf) w p leaf 0 h named in
        let second = opened table true (over_tree w h.tree h.names) first.proper leaf made e in
        record { changes = and_then table w (over_tree w h.tree h.names) (over_tree w made.tree made.names) first.changes second.changes; proper = second.proper }

    by_count : (b : Bool)
        → (if b then then_next (named_homes (home_count (whole w.front) leaf) (grafted w) leaf 0) (λ h. opened_at table true w.inside h.names h.tree leaf) else None) ≡ Some made
        → LeadsTo table w (over_tree w made.tree made.names)
    by_count true e = by_named (named_homes (home_count (whole w.front) leaf) (grafted w) leaf 0) refl e
    by_count false e = absurd (cc)

-- ---- one step

moved : (table : Table) (place : ℕ) (twin : Option ℕ) (w v : Window) → IsProper w → IsBrought place twin w v → LeadsTo table w v
moved table place twin w v p b =
    let m = jumps_are_moves w v p b.jump in
    record { changes = one_change (moves m) no_change; proper = m.proper }

pub does_change : (table : Table) (step : Step) (w v : Window) → IsProper w → Does table step w v → LeadsTo table w v
does_change table step w v p (brings place b) = moved table place _ w v p b
does_change table step w v p (joins test on_yes on_no across at b) = moved table on_yes _ w v p b
does_change table step w v p (steps.opens leaf made is same) =
    subst (LeadsTo table w) (sym same) (opened table false w p leaf made is)
does_change table step w v p (steps.enters leaf made is same) =
    subst (LeadsTo table w) (sym same) (entered table w p leaf made is)
does_change table step w v p (steps.uses_copy copy part made is same) =
    subst (LeadsTo table w) (sym same) (exchanged table w p made (used_somewhere (whole w.front) copy part made is))

-- ---- steps

pub done_change : (table : Table) (steps : List Step) (w v : Window) → IsProper w → AreDone table steps w v → LeadsTo table w v
done_change table steps w v p none_left = record { changes = no_change; proper = p }
done_change table steps w v p (one_done {step = step} {steps = rest} {w = w'} {v = u} {u = v'} first more) =
    let k = does_change table step w' u p first.does in
    let l = done_change table rest u v' k.proper more in
    record { changes = and_then table w' u v' k.changes l.changes; proper = l.proper }

arranged : (table : Table) (steps : List Step) (w v : Window) → IsProper w → Arranges table steps w v → LeadsTo table w v
arranged table steps w v p h =
    let b = begins table w p in
    let l = done_change table steps (begun w) v b.proper h in
    record { changes = and_then table w (begun w) v b.changes l.changes; proper = l.proper }

pub arranging_changes : ArrangingChanges
arranging_changes table steps w v p h = (arranged table steps w v p h).changes

pub arranged_proper : ArrangedIsProper
arranged_proper table steps w v p h = (arranged table steps w v p h).proper
