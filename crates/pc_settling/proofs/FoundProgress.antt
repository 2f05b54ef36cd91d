-- Progress is found exactly where it is made.
use Rattle.std.proofs.Common.{◌≡◌, ◌⊎◌, inl, inr, ℕ, ◌<◌, true, refl, sym, ap}
use Rattle.std.specs.Prelude.{nat_lt, ◌&&◌}
use Rattle.std.proofs.lemmas.Bool.{ltb-true, lt-ltb}
use Rattle.pc_word.proofs.Truth.{and_true, and_made, or_true, or_first, or_second}
use Rattle.pc_window.specs.declared.window.Window.{Window as StoredWindow}
use Rattle.pc_window.specs.Tree.{Tree, Pending, Undecided, Exit, Stop_exit, Trap_exit, whole}
use Rattle.pc_window.specs.Unwinding.{front_tag}
use Rattle.pc_window.specs.StoredWindow.{tree_in, window_in}
use Rattle.pc_window.proofs.WindowsStored.{whole_in}
use Rattle.pc_certified.specs.Claims.{HasTestOrStub}
use Rattle.pc_settling.specs.Arrives.{has_test_or_stub, progress}
use Rattle.pc_settling.specs.Laws.{FoundProgress}

has_one : (tree : Tree) → has_test_or_stub tree ≡ true → HasTestOrStub tree
has_one (Pending tag origin item rest) h = has_one rest h
has_one (Undecided tag origin on on_yes on_no) h = tt
has_one (Exit region tag homes) h = tt
has_one Stop_exit h = absurd (cc)
has_one (Trap_exit kind line) h = absurd (cc)

of_one : (tree : Tree) → HasTestOrStub tree → has_test_or_stub tree ≡ true
of_one (Pending tag origin item rest) h = of_one rest h
of_one (Undecided tag origin on on_yes on_no) h = refl
of_one (Exit region tag homes) h = refl
of_one Stop_exit h = absurd h
of_one (Trap_exit kind line) h = absurd h

module _ (rank tag next_rank : ℕ) (tree : Tree) where
  abbrev Made : Type 0
  Made = (next_rank < rank) ⊎ ((tag < front_tag tree) × HasTestOrStub tree)

  made : progress rank tag next_rank tree ≡ true → Made
  made h = elim (or_true (nat_lt next_rank rank) (nat_lt tag (front_tag tree) && has_test_or_stub tree) h) [
    | inl falls ↦ inl (ltb-true next_rank rank falls)
    | inr rises ↦
        let both = and_true (nat_lt tag (front_tag tree)) (has_test_or_stub tree) rises in
        inr (ltb-true tag (front_tag tree) both.0, has_one tree both.1)
  ]

  found : Made → progress rank tag next_rank tree ≡ true
  found (inl falls) = or_first (nat_lt next_rank rank) (nat_lt tag (front_tag tree) && has_test_or_stub tree) (lt-ltb next_rank rank falls)
  found (inr (rises, one)) =
      or_second (nat_lt next_rank rank) (nat_lt tag (front_tag tree) && has_test_or_stub tree) (
      and_made (nat_lt tag (front_tag tree)) (has_test_or_stub tree) (lt-ltb tag (front_tag tree) rises) (of_one tree one)
      )

pub found_progress : FoundProgress
found_progress claim next w =
    let tag = front_tag (whole claim.window.front) in
    (made claim.rank tag next.rank (whole w.front), found claim.rank tag next.rank (whole w.front))

-- ---- in memory

-- what is said of a tree in memory is said of the window's tree
pub has_one_in : (w : StoredWindow) → has_test_or_stub (tree_in w.tree) ≡ has_test_or_stub (whole (window_in w).front)
has_one_in w = ap has_test_or_stub (sym (whole_in w.tree))

pub ruleset fronts = (has_one_in)
