-- The first examples are shown: what a code that prints, a loop, and rows of two items need.
use Rattle.std.proofs.Common.{None, inl, inr, ℕ, suc, [], ◌∷◌, Some, refl, arith}
use Rattle.std.specs.Prelude.{pos, false}
use Rattle.pc_word.specs.declared.item.Item.{Item}
use Rattle.pc_word.specs.declared.item.Item.TheVariants.{Store, Print}
use Rattle.pc_word.specs.declared.item.Operand.TheVariants.{Lit}
use Rattle.pc_word.specs.Row.{Then, Either, At_leaf}
use Rattle.pc_machine.specs.declared.tree.Leaf.TheVariants.{Goto, Stop}
use Rattle.pc_window.specs.Tree.{Pending, Undecided, Exit, Stop_exit, Issued, Unfinished, whole}
use Rattle.pc_window.specs.Names.{uses}
use Rattle.pc_window.specs.Jump.{Root, Past_item, Lands, Behind_item}
use Rattle.pc_window.specs.Move.{Into_node}
use Rattle.pc_window.specs.WindowRun.{Window, supply_of}
use Rattle.pc_window.specs.Opening.{Grafted}
use Rattle.pc_window.specs.Unwinding.{unwinds_once, unwinds_no_more}
use Rattle.pc_window.proofs.Proper.{unwinds_proper, opens_proper}
use Rattle.pc_window.specs.Steps.{UnwindsTo, window_of, grafted_of, opened_window, Positive, IsProper}
use Rattle.pc_canon.specs.Shift.{ShiftedBy, both_either, both_exit, both_stop}
use Rattle.pc_canon.proofs.Membership.{distinct_to}
use Rattle.pc_certified.specs.Facts.{same_print, same_store}
use Rattle.pc_certified.specs.Paths.{all_matched, matches}
use Rattle.pc_certified.specs.RowMatches.{row_item, front_item, both_test, both_leaf}
use Rattle.pc_certified.specs.Changes.{unwinds, no_change, one_change, IsMoved, moves, regroups}
use Rattle.pc_certified.specs.Claims.{unshifted, shifted_by}
use Rattle.pc_certified.specs.LeafAgrees.{region_changes, region_arrives, leaf_changes, leaf_arrives, leaf_ends}
use Rattle.pc_certified.specs.Shows.{IsShown}
use Rattle.pc_certified.specs.Examples.{small_limits, printing_table, printing_code, printing_claim, PrintingIsShown, loop_table, loop_code}
use Rattle.pc_certified.specs.Examples.{loop_window, loop_claim, two_iterations, LoopIsShown, two_limits, pair_table, pair_code, pair_arranged, pair_claim}
use Rattle.pc_certified.specs.Examples.{PairIsShown, root_code, root_arranged, store_window, print_claim, store_claim, RootIsShown}
use Rattle.pc_certified.proofs.Listed.{none, first, only}

pub room : Positive small_limits
room = record { ops = omega arith; tests = omega arith; mem = omega arith }

printing_shown : IsShown printing_table printing_code (printing_claim ∷ []) printing_claim
printing_shown = record {
  row = Then (Print (Lit (pos 5))) (At_leaf Stop);
  at = refl;
  proper = opens_proper printing_table small_limits 0 (opened_window printing_table small_limits 0) room refl;
  changes = no_change;
  does = row_item (front_item (both_leaf (matches [] [] refl tt (same_print refl) (all_matched tt)) ([], none _, leaf_ends refl)));
}

pub printing_is_shown : PrintingIsShown
printing_is_shown = record {
  arrays = refl;
  initial = refl;
  held = [];
  start = none _;
  begins = region_arrives printing_claim (0, omega arith, refl) (unshifted refl (none _));
  each = only _ _ printing_shown;
}

-- ---- the loop

-- one iteration of the loop, which unwinds to two
abbrev one_iteration : ℕ → Window
one_iteration tag = window_of (Undecided tag 0 (Lit (pos 1)) (Exit 0 (suc tag) []) Stop_exit) (supply_of (opened_window loop_table small_limits 0)) small_limits (Some 0)

abbrev loop_grafted : ℕ → Grafted
loop_grafted tag = record { tree = two_iterations tag; names = supply_of (opened_window loop_table small_limits 0) }

unwinds_at_0 : UnwindsTo loop_table 2 (one_iteration 0) (loop_window 0)
unwinds_at_0 = record {
  unwound = loop_grafted 0;
  unwinds = unwinds_once (grafted_of (one_iteration 0)) (loop_grafted 0) (loop_grafted 0) refl (unwinds_no_more (loop_grafted 0) refl);
  is = refl;
}

unwinds_at_1 : UnwindsTo loop_table 2 (one_iteration 1) (loop_window 1)
unwinds_at_1 = record {
  unwound = loop_grafted 1;
  unwinds = unwinds_once (grafted_of (one_iteration 1)) (loop_grafted 1) (loop_grafted 1) refl (unwinds_no_more (loop_grafted 1) refl);
  is = refl;
}

-- the window of one iteration later is the same up to a shift by 1
loop_again : ShiftedBy [] (loop_window 1) (loop_window 0)
loop_again = (
  record { variables = []; shift = 0; other_shift = 1 },
  record {
    variables_one_to_one = record { ones_differ = distinct_to [] tt; others_differ = distinct_to [] tt };
    params_one_to_one = record { ones_differ = distinct_to [] tt; others_differ = distinct_to [] tt };
    params_alike = tt;
    fronts = (tt, tt);
    trees = both_either refl refl (both_either refl refl (both_exit refl tt) both_stop) both_stop;
    limits = refl;
    inside = refl;
  },
)

loop_shown : IsShown loop_table loop_code (loop_claim ∷ []) loop_claim
loop_shown = record {
  row = Either (Lit (pos 1)) (At_leaf (Goto 0)) (At_leaf Stop);
  at = refl;
  proper = unwinds_proper loop_table 2 (one_iteration 0) (loop_window 0) unwinds_at_0
      (opens_proper loop_table small_limits 0 (one_iteration 0) room refl);
  changes = no_change;
  does = both_test refl
      (both_leaf (all_matched tt) (
        [],
        none _,
        leaf_changes (unwinds 2 unwinds_at_1) (leaf_arrives loop_claim (0, omega arith, refl)
            (inr (omega arith, tt)) (shifted_by [] loop_again (none _))),
      ))
      (both_leaf (all_matched tt) ([], none _, leaf_ends refl));
}

pub loop_is_shown : LoopIsShown
loop_is_shown = record {
  arrays = refl;
  initial = refl;
  held = [];
  start = none _;
  begins = region_changes (unwinds 2 unwinds_at_0) (region_arrives loop_claim (0, omega arith, refl) (unshifted refl (none _)));
  each = only _ _ loop_shown;
}

-- ---- two items in one row

pub pair_room : Positive two_limits
pair_room = record { ops = omega arith; tests = omega arith; mem = omega arith }

pair_proper : IsProper (opened_window pair_table two_limits 0)
pair_proper = opens_proper pair_table two_limits 0 (opened_window pair_table two_limits 0) pair_room refl

-- the print comes behind the store
pair_move : IsMoved (opened_window pair_table two_limits 0) pair_arranged
pair_move =
    let known = uses (whole (opened_window pair_table two_limits 0).front) in
    let store = Store 0 (Lit (pos 0)) (Lit (pos 7)) in
    record {
      new = None;
      moves = Into_node known (Some (Print (Lit (pos 5)))) (Issued 0 0 store (Unfinished (Pending 0 1 (Print (Lit (pos 5))) Stop_exit)))
          (Issued 0 0 store (Issued 0 1 (Print (Lit (pos 5))) (Unfinished Stop_exit)))
          (Behind_item 0 0 store (Some (Print (Lit (pos 5)))) (Unfinished (Pending 0 1 (Print (Lit (pos 5))) Stop_exit)) (Issued 0 1 (Print (Lit (pos 5))) (Unfinished Stop_exit))
          (record { no_store_dependence = tt; one_effect = refl }, tt) tt
          (Lands 0 1 (Print (Lit (pos 5))) (Pending 0 1 (Print (Lit (pos 5))) Stop_exit) Stop_exit (tt, tt) tt refl refl (Root Stop_exit tt)));
      tags = tt;
      is_new = tt;
      proper = record {
        window = record {
          scoped = pair_proper.window.scoped;
          independent = ((tt, (tt, tt)), (record { no_store_dependence = tt; one_effect = refl }, tt), ((tt, tt), tt, tt));
          within = record { items = omega arith; memory = omega arith; tests = omega arith };
        };
        room = pair_room;
        names_below = pair_proper.names_below;
        forms_below = pair_proper.forms_below;
      };
      limits = refl;
      inside = refl;
    }

pair_shown : IsShown pair_table pair_code (pair_claim ∷ []) pair_claim
pair_shown = record {
  row = Then (Print (Lit (pos 5))) (Then (Store 0 (Lit (pos 0)) (Lit (pos 7))) (At_leaf Stop));
  at = refl;
  proper = pair_proper;
  changes = one_change (moves pair_move) no_change;
  does = row_item (row_item (front_item (front_item (both_leaf
      (matches (Store 0 (Lit (pos 0)) (Lit (pos 7)) ∷ []) [] refl ((λ e. refl), tt) (same_print refl)
      (matches [] [] refl tt (same_store refl refl) (all_matched tt))) ([], none _, leaf_ends refl)))));
}

pub pair_is_shown : PairIsShown
pair_is_shown = record {
  arrays = refl;
  initial = refl;
  held = [];
  start = none _;
  begins = region_arrives pair_claim (0, omega arith, refl) (unshifted refl (none _));
  each = only _ _ pair_shown;
}

-- ---- a row that leaves the root

abbrev the_store : Item
the_store = Store 0 (Lit (pos 0)) (Lit (pos 7))

abbrev the_print : Item
the_print = Print (Lit (pos 5))

-- the front is empty
abbrev empty_front : Window
empty_front = record (opened_window pair_table two_limits 0) { front = Unfinished (Pending 0 0 the_store (Pending 0 1 the_print Stop_exit)) }

empty_proper : IsProper empty_front
empty_proper = record {
  window = record { scoped = pair_proper.window.scoped; independent = tt; within = record { items = omega arith; memory = omega arith; tests = omega arith } };
  room = pair_room;
  names_below = pair_proper.names_below;
  forms_below = pair_proper.forms_below;
}

-- the print rises above the store into it
print_move : IsMoved empty_front root_arranged
print_move =
    let known = uses (whole empty_front.front) in
    record {
      new = None;
      moves = Into_node known (Some the_print) (Unfinished (Pending 0 0 the_store (Pending 0 1 the_print Stop_exit))) (Issued 0 1 the_print (Unfinished (Pending 0 0 the_store Stop_exit)))
          (Lands 0 1 the_print (Pending 0 0 the_store (Pending 0 1 the_print Stop_exit)) (Pending 0 0 the_store Stop_exit) (tt, tt) tt refl refl
          (Past_item 0 0 the_store false (Pending 0 1 the_print Stop_exit) Stop_exit (record { no_dependence = tt; one_effect = refl }) tt (Root Stop_exit tt)));
      tags = tt;
      is_new = tt;
      proper = record {
        window = record {
          scoped = ((tt, tt), tt, ((tt, (tt, tt)), tt, tt));
          independent = ((tt, tt), tt, tt);
          within = record { items = omega arith; memory = omega arith; tests = omega arith };
        };
        room = pair_room;
        names_below = (tt, ((tt, tt), tt));
        forms_below = pair_proper.forms_below;
      };
      limits = refl;
      inside = refl;
    }

store_proper : IsProper store_window
store_proper = record {
  window = record {
    scoped = ((tt, (tt, tt)), tt, tt);
    independent = ((tt, (tt, tt)), tt, tt);
    within = record { items = omega arith; memory = omega arith; tests = omega arith };
  };
  room = pair_room;
  names_below = ((tt, tt), tt);
  forms_below = pair_proper.forms_below;
}

print_shown : IsShown pair_table root_code (print_claim ∷ store_claim ∷ []) print_claim
print_shown = record {
  row = Then the_print (At_leaf (Goto 1));
  at = refl;
  proper = pair_proper;
  changes = one_change (regroups (record { tree = refl; forms = refl; proper = empty_proper })) (one_change (moves print_move) no_change);
  does = row_item (front_item (both_leaf (matches [] [] refl tt (same_print refl) (all_matched tt))
      ([], none _, leaf_arrives store_claim (1, omega arith, refl) (inl (omega arith)) (unshifted refl (none _)))));
}

store_shown : IsShown pair_table root_code (print_claim ∷ store_claim ∷ []) store_claim
store_shown = record {
  row = Then the_store (At_leaf Stop);
  at = refl;
  proper = store_proper;
  changes = no_change;
  does = row_item (front_item (both_leaf (matches [] [] refl tt (same_store refl refl) (all_matched tt)) ([], none _, leaf_ends refl)));
}

pub root_is_shown : RootIsShown
root_is_shown = record {
  arrays = refl;
  initial = refl;
  held = [];
  start = none _;
  begins = region_arrives print_claim (0, omega arith, refl) (unshifted refl (none _));
  each = first _ _ (store_claim ∷ []) print_shown (only _ _ store_shown);
}
