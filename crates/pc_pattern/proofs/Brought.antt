-- What a window that was brought on has, and the member that it becomes.
use Rattle.std.proofs.Common.{sym, ap, subst}
use Rattle.pc_window.specs.Tree.{Tree, Pending, Undecided, Exit, Stop_exit, Trap_exit, Front, whole, front_of}
use Rattle.pc_window.specs.WindowRun.{Window}
use Rattle.pc_window.specs.Tidying.{tidied}
use Rattle.pc_window.specs.Kept.{IsRooted}
use Rattle.pc_window.specs.Steps.{Tidies, IsProper}
use Rattle.pc_window.proofs.CutRows.{whole_front_of}
use Rattle.pc_canon.specs.Shift.{ShiftedBy}
use Rattle.pc_canon.specs.Canonical.{parameter_pairs}
use Rattle.pc_renumber.specs.Renumbering.{Renumbers}
use Rattle.pc_renumber.proofs.Renumbered.{IsSingle, renumbered_single, renumbered_shifts, renumbered_proper}
use Rattle.pc_pattern.specs.Searches.{Rules, BringsOn}

-- the front of a window that was tidied is its first item or test
pub tidied_single : (w v : Window) → Tidies w v → IsSingle v
tidied_single w v tidies =
    subst IsSingle (sym tidies) (ap front_of (sym (whole_front_of (tidied (whole w.front)))))

front_rooted : (tree : Tree) → IsRooted (front_of tree)
front_rooted (Pending tag origin item rest) = tt
front_rooted (Undecided tag origin on on_yes on_no) = tt
front_rooted (Exit region tag homes) = tt
front_rooted Stop_exit = tt
front_rooted (Trap_exit kind line) = tt

-- a front that is its first item or test is rooted
pub single_rooted : (w : Window) → IsSingle w → IsRooted w.front
single_rooted w single = subst (λ (front : Front). IsRooted front) (sym single) (front_rooted (whole w.front))

-- what becomes a member was brought on
module _ (rules : Rules) (rest brought member : Window) (brings : BringsOn rules rest brought) (renumbers : Renumbers brought member) where
  pub brought_single : IsSingle brought
  brought_single = tidied_single brings.settles.unwound brought brings.settles.tidies

  pub member_rooted : IsRooted member.front
  member_rooted = single_rooted member (subst IsSingle (sym renumbers) (renumbered_single brought brought_single))

  pub member_proper : IsProper brought → IsProper member
  member_proper proper = subst IsProper (sym renumbers) (renumbered_proper brought proper brought_single)

  pub member_shifted : IsProper brought → ShiftedBy (parameter_pairs brought member) brought member
  member_shifted proper =
      subst (λ (v : Window). ShiftedBy (parameter_pairs brought v) brought v) (sym renumbers) (renumbered_shifts brought proper brought_single)
