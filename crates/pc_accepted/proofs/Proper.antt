-- Windows on the way from one row to the next are proper, and their fronts are their first items or tests.
use Rattle.std.proofs.Common.{◌≡◌, ℕ, zero, suc, Bool, true, false, length, Option, Some, None, refl, sym, ap, subst}
use Rattle.std.specs.Prelude.{if◌then◌else◌, nat_lt, List}
use Rattle.pc_word.specs.declared.item.Limits.{Limits}
use Rattle.pc_table.specs.Table.{Table}
use Rattle.pc_cert.specs.declared.certificate.Opening.{Opening}
use Rattle.pc_window.specs.Tree.{Tree, Pending, Undecided, Exit, Stop_exit, Trap_exit, whole, front_of}
use Rattle.pc_window.specs.Opening.{Supply}
use Rattle.pc_window.specs.Tidying.{tidied}
use Rattle.pc_window.specs.WindowRun.{Window}
use Rattle.pc_window.specs.Steps.{window_of, opened_window, Positive, IsProper}
use Rattle.pc_window.proofs.CutRows.{whole_front_of}
use Rattle.pc_window.proofs.Proper.{opens_proper, unwinds_proper, tidies_proper}
use Rattle.pc_renumber.proofs.Renumbered.{IsSingle}
use Rattle.pc_certified.specs.Facts.{Fact}
use Rattle.pc_settling.specs.Remaining.{Remaining}
use Rattle.pc_settling.specs.Settled.{settled}
use Rattle.pc_settling.specs.Begun.{has_room, with_loop, given_loop, in_region, entered, entered_if, Widens, Begun, BeginsWith}
use Rattle.pc_settling.proofs.BegunWindows.{loop_proper}
use Rattle.pc_settling.proofs.SettledLaws.{settled_proper}

-- a proper window whose front is its first item or test, if there is one
pub record IsSound (w : Window) : Type 0 where
  pub proper : IsProper w
  pub single : IsSingle w

pub some_one : {A : Type 0} (x y : A) → Some x ≡ Some y → x ≡ y
some_one x y e = cc

single_of : (tree : Tree) (names : Supply) (limits : Limits) (inside : Option ℕ) → IsSingle (window_of tree names limits inside)
single_of tree names limits inside = ap front_of (sym (whole_front_of tree))

-- ---- what an entry begins with

-- where a loop is given to what is sound
given_sound : (table : Table) (loop : Option ℕ) (found : Option Remaining) (before : Remaining) → given_loop table loop found ≡ Some before
    → ((inside : Remaining) → found ≡ Some inside → IsSound inside.window) → IsSound before.window
given_sound table loop None before is sound = absurd (cc)
given_sound table loop (Some inside) before is sound = choose (has_room table inside.window) is
  where
    choose : (b : Bool) → (if b then Some (record { window = with_loop loop inside.window; facts = inside.facts }) else None) ≡ Some before → IsSound before.window
    choose true e =
        let given = sound inside refl in
        let given_one : IsSound (with_loop loop inside.window) = record { proper = loop_proper loop inside.window given.proper; single = given.single } in
        subst (λ (r : Remaining). IsSound r.window) (some_one (record { window = with_loop loop inside.window; facts = inside.facts }) before e) given_one
    choose false e = absurd (cc)

opened_sound : (table : Table) (limits : Limits) (region : ℕ) → Positive limits → IsSound (opened_window table limits region)
opened_sound table limits region room = record {
  proper = opens_proper table limits region (opened_window table limits region) room refl;
  single = ap front_of (sym (whole_front_of _));
}

sound_here : (left inside : Remaining) → IsSound left.window → Some left ≡ Some inside → IsSound inside.window
sound_here left inside sound is = subst (λ (r : Remaining). IsSound r.window) (some_one left inside is) sound

-- a region that is entered is opened
entered_sound : (table : Table) (limits : Limits) → Positive limits → (most : ℕ) (left inside : Remaining) (tree : Tree) → IsSound left.window
    → entered table limits left tree most ≡ Some inside → IsSound inside.window
entered_sound table limits room most left inside (Pending tag origin item rest) sound is = sound_here left inside sound is
entered_sound table limits room most left inside (Undecided tag origin on on_yes on_no) sound is = sound_here left inside sound is
entered_sound table limits room most left inside Stop_exit sound is = sound_here left inside sound is
entered_sound table limits room most left inside (Trap_exit kind line) sound is = sound_here left inside sound is
entered_sound table limits room zero left inside (Exit region tag homes) sound is = absurd (cc)
entered_sound table limits room (suc most) left inside (Exit region tag homes) sound is =
    choose (nat_lt region (length table.regions)) is
    (entered_sound table limits room most (in_region table limits region homes left.facts) inside (whole (opened_window table limits region).front)
    (opened_sound table limits region room))
  where
    choose : (b : Bool)
        → (if b then entered table limits (in_region table limits region homes left.facts) (whole (opened_window table limits region).front) most else None) ≡ Some inside
        → (entered table limits (in_region table limits region homes left.facts) (whole (opened_window table limits region).front) most ≡ Some inside
        → IsSound inside.window) → IsSound inside.window
    choose true e more = more e
    choose false e more = absurd (cc)

entered_if_sound : (table : Table) (limits : Limits) (enters : Bool) (left inside : Remaining) → Positive limits → IsSound left.window
    → entered_if table limits enters left ≡ Some inside → IsSound inside.window
entered_if_sound table limits true left inside room sound is =
    entered_sound table limits room (length table.regions) left inside (whole left.window.front) sound is
entered_if_sound table limits false left inside room sound is = sound_here left inside sound is

widens_sound : (table : Table) (number : ℕ) (w v : Window) → Widens table number w v → IsSound w → IsSound v
widens_sound table zero w v is sound = subst IsSound (sym is) sound
widens_sound table (suc number) w v (unwound, unwinds, tidies) sound = record {
  proper = tidies_proper unwound v tidies (unwinds_proper table (suc number) w unwound unwinds sound.proper);
  single = subst IsSingle (sym tidies) (ap front_of (sym (whole_front_of (tidied (whole unwound.front)))));
}

-- with what an entry begins is sound where what was left is
pub begun_sound : (table : Table) (limits : Limits) (opening : Opening) (left : Remaining) (begun : Begun) → Positive limits → IsSound left.window
    → BeginsWith table limits opening left begun → IsSound begun.window
begun_sound table limits opening left begun room sound p =
    widens_sound table opening.window p.before.window begun.window p.widens
    (given_sound table opening.inside (entered_if table limits opening.enters left) p.before p.is_before
    (λ inside is. entered_if_sound table limits opening.enters left inside room sound is))

-- ---- what is left

-- what is settled is sound
pub settled_sound : (w : Window) (facts : List Fact) → IsProper w → IsSound (settled w facts).window
settled_sound w facts proper = record { proper = settled_proper w facts proper; single = ap front_of (sym (whole_front_of _)) }

-- before row 0
pub start_sound : (table : Table) (limits : Limits) → Positive limits → IsSound (opened_window table limits 0)
start_sound table limits room = opened_sound table limits 0 room
