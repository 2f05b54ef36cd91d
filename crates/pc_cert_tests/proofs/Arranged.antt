-- Windows that were just opened, and what is left of them.
use Rattle.std.proofs.Common.{◌≡◌, ℕ, ◌≤◌, true, List, [], sym, ◌∙◌, ap, subst, arith}
use Rattle.pc_table.specs.Table.{Table}
use Rattle.pc_window.specs.declared.home.Home.{Home}
use Rattle.pc_window.specs.declared.tree.WindowTree.TheVariants as stored
use Rattle.pc_window.specs.declared.window.Window.{Window as StoredWindow}
use Rattle.pc_window.specs.Tree.{tree_size}
use Rattle.pc_window.specs.Steps.{Positive, IsProper}
use Rattle.pc_window.specs.StoredWindow.{tree_in, window_in, InNodes, IsJustOpened}
use Rattle.pc_window.proofs.WindowsStored.{whole_in}
use Rattle.pc_unwind.specs.Unwindable.{CanUnwind}
use Rattle.pc_arranging.specs.CanArrange.{CanArrange}
use Rattle.pc_settling.specs.Stored.{IsLeft}

-- in one that was just opened steps may be done
pub opened_can : (table : Table) (w : StoredWindow) → CanUnwind table (window_in w) → IsProper (window_in w) → IsJustOpened w → CanArrange table (window_in w)
opened_can table w can proper small =
    let large = ap tree_size (whole_in w.tree) in
    record {
      proper = proper;
      small = record {
        size = let few = small.size in omega (arith, large, few);
        names = can.names;
        variables = can.variables;
      };
      parts = can.parts;
    }

-- and it may be left
pub opened_left : (w : StoredWindow) → IsProper (window_in w) → InNodes true w.tree → IsJustOpened w → IsLeft w
opened_left w proper nodes small = record { proper = proper; nodes = nodes; size = let few = small.size in omega (arith, few) }

-- a small one
pub small_left : (w : StoredWindow) → IsProper (window_in w) → InNodes true w.tree → tree_size (tree_in w.tree) ≤ 4096 → IsLeft w
small_left w proper nodes small = record { proper = proper; nodes = nodes; size = small }

pub ruleset windows = (opened_left, small_left)

-- a stub alone without homes, in a window without names, may be left
of_stub : (w : StoredWindow) (region tag : ℕ) → w.tree ≡ stored.Exit region tag [] → w.names.forms ≡ [] → Positive w.limits → IsLeft w
of_stub w region tag is none room =
    record {
      proper = record {
        window = record {
          scoped = rw is tt;
          independent = rw is tt;
          within = rw is (record { items = omega arith; memory = omega arith; tests = omega arith });
        };
        room = room;
        names_below = rw is tt;
        forms_below = record { form = λ x. rw none tt };
      };
      nodes = rw is tt;
      size = rw is (omega arith);
    }

pub stub_left : (w : StoredWindow) (region tag : ℕ) (homes : List Home) → w.tree ≡ stored.Exit region tag homes → homes ≡ [] → w.names.forms ≡ []
    → w.limits ≡ record { ops = 32; tests = 7; mem = 32 } → IsLeft w
stub_left w region tag homes is bare none wide =
    of_stub w region tag (is ∙ ap (stored.Exit region tag) bare) none (subst Positive (sym wide) (record { ops = omega arith; tests = omega arith; mem = omega arith }))

pub ruleset stubs = (stub_left)
