-- The examples are shown in which a region is entered, or an item of the next region is done early.
use Rattle.std.specs.Prelude.{List, pos, false}
use Rattle.std.proofs.Common.{None, inl, ◌≡◌, ℕ, [], ◌∷◌, Some, refl, arith}
use Rattle.pc_word.specs.declared.item.Item.TheVariants.{Bin, Load, Copy, Print}
use Rattle.pc_word.specs.declared.item.OpCode.TheVariants.{Add}
use Rattle.pc_word.specs.declared.item.Item.{Item}
use Rattle.pc_word.specs.declared.item.Operand.{Operand}
use Rattle.pc_word.specs.declared.item.Operand.TheVariants.{Name, Lit}
use Rattle.pc_word.specs.Row.{Then, Either, At_leaf}
use Rattle.pc_machine.specs.declared.tree.Leaf.TheVariants.{Goto, Stop}
use Rattle.pc_window.specs.Opening.{Supply, FormsBelow, first_supply, with_name}
use Rattle.pc_window.specs.Names.{and_dest, uses}
use Rattle.pc_window.specs.Tree.{Tree, Pending, Undecided, Exit, Stop_exit, Issued, Unfinished, whole}
use Rattle.pc_window.specs.Move.{Below, Into_node}
use Rattle.pc_window.specs.Jump.{Lands_renamed, Past_yes, Root, Past_item, Lands, Behind_item}
use Rattle.pc_window.specs.declared.home.Home.{Home}
use Rattle.pc_window.proofs.GraftForms.{with_name-below}
use Rattle.pc_window.proofs.Openings.{first_names-below}
use Rattle.pc_window.specs.WindowRun.{Window}
use Rattle.pc_window.specs.Steps.{window_of, opened_window, Positive, IsProper}
use Rattle.pc_window.proofs.Proper.{opens_proper}
use Rattle.pc_certified.specs.Facts.{same_bin, same_load, Fact, OperandsMatch, same_print}
use Rattle.pc_certified.specs.Paths.{computed, all_matched, passes, matches, writes_here, writes_later, FactAfter, unchanged, copied_by_row}
use Rattle.pc_certified.specs.Somewhere.{in_yes_side, here, behind_item}
use Rattle.pc_certified.specs.Copies.{in_test, in_bin, added, below_copy, in_item, in_load, in_print, in_stop, in_stub, one_home, no_home, same, to_name, from_name}
use Rattle.pc_certified.specs.RowMatches.{row_item, front_item, both_test, both_leaf}
use Rattle.pc_certified.specs.Changes.{ChangesTo, opens, adds_copy, uses_copy, the_stub, no_change, one_change, IsMoved, moves, regroups}
use Rattle.pc_certified.specs.Claims.{unshifted}
use Rattle.pc_certified.specs.LeafAgrees.{FactAfterCopy, other_operand, leaf_copies, region_arrives, region_enters, leaf_arrives, leaf_enters, leaf_ends, FactInRegion}
use Rattle.pc_certified.specs.Shows.{IsShown}
use Rattle.pc_certified.specs.Examples.{tested_table, tested_code, sum_form, tested_supply, tested_left, tested_arranged, sum_claim, tested_claim}
use Rattle.pc_certified.specs.Examples.{TestedIsShown, early_table, early_code, early_supply, early_arranged, print_left, early_claim, late_claim}
use Rattle.pc_certified.specs.Examples.{EarlyIsShown, small_limits, two_limits, enter_table, enter_code, enter_arranged, literal_claim}
use Rattle.pc_certified.specs.Examples.{register_claim, EnteringIsShown}
use Rattle.pc_certified.proofs.Listed.{none, first, only}
use Rattle.pc_certified.proofs.Examples.{room, pair_room}

-- ---- a region that is entered before its homes are copied

enter_proper : IsProper (opened_window enter_table small_limits 1)
enter_proper = opens_proper enter_table small_limits 1 (opened_window enter_table small_limits 1) room refl

arranged_proper : IsProper enter_arranged
arranged_proper = record {
  window = record {
    scoped = enter_proper.window.scoped;
    independent = (tt, ((refl, tt), tt, tt), tt);
    within = record { items = omega arith; memory = omega arith; tests = omega arith };
  };
  room = room;
  names_below = enter_proper.names_below;
  forms_below = enter_proper.forms_below;
}

abbrev register_fact : Fact
register_fact = record { source = Name 3; operand = Name 0 }

-- the stub that is left, inside the loop, is taken as its region: the loop's window, where register 3 has the value of variable 0
literal_shown : IsShown enter_table enter_code (literal_claim ∷ register_claim ∷ []) literal_claim
literal_shown = record {
  row = Either (Lit (pos 1)) (Then (Print (Lit (pos 5))) (Then (Copy 3 (Lit (pos 5))) (At_leaf (Goto 1)))) (At_leaf Stop);
  at = refl;
  proper = enter_proper;
  changes = one_change (regroups (record { tree = refl; forms = refl; proper = arranged_proper })) no_change;
  does = both_test refl
      (row_item (row_item (front_item (both_leaf (matches [] [] refl tt (same_print (0, omega arith, refl)) (passes refl (all_matched tt))) (
        register_fact ∷ [],
        only (FactAfter literal_claim.facts (Print (Lit (pos 5)) ∷ Copy 3 (Lit (pos 5)) ∷ []) (Print (Name 0) ∷ [])) _
            (copied_by_row (writes_later refl (writes_here refl)) (0, omega arith, refl) (refl, tt)),
        leaf_enters {inside = register_fact ∷ []} 1 1 (record { variable = 0; value = Name 0 } ∷ []) refl
            (only (FactInRegion (register_fact ∷ []) (record { variable = 0; value = Name 0 } ∷ [])) _ (0, refl, (0, omega arith, refl)))
            (region_arrives register_claim (1, omega arith, refl) (unshifted refl (only (λ fact. OperandsMatch (register_fact ∷ []) fact.source fact.operand) _ (0, omega arith, refl)))),
      )))))
      (both_leaf (all_matched tt) ([], none _, leaf_ends refl));
}

register_shown : IsShown enter_table enter_code (literal_claim ∷ register_claim ∷ []) register_claim
register_shown = record {
  row = Either (Lit (pos 1)) (Then (Print (Name 3)) (At_leaf (Goto 1))) (At_leaf Stop);
  at = refl;
  proper = enter_proper;
  changes = one_change (regroups (record { tree = refl; forms = refl; proper = arranged_proper })) no_change;
  does = both_test refl
      (row_item (front_item (both_leaf (matches [] [] refl tt (same_print (0, omega arith, refl)) (all_matched tt)) (
        register_fact ∷ [],
        only (FactAfter register_claim.facts (Print (Name 3) ∷ []) (Print (Name 0) ∷ [])) _ (unchanged (0, omega arith, refl) (refl, tt) (refl, tt)),
        leaf_enters {inside = register_fact ∷ []} 1 1 (record { variable = 0; value = Name 0 } ∷ []) refl
            (only (FactInRegion (register_fact ∷ []) (record { variable = 0; value = Name 0 } ∷ [])) _ (0, refl, (0, omega arith, refl)))
            (region_arrives register_claim (1, omega arith, refl) (unshifted refl (only (λ fact. OperandsMatch (register_fact ∷ []) fact.source fact.operand) _ (0, omega arith, refl)))),
      ))))
      (both_leaf (all_matched tt) ([], none _, leaf_ends refl));
}

-- region 0 is a Copy alone: its window is a stub, and the claim of row 0 has the window of its region, where literal 5 has the value of variable 0
pub entering_is_shown : EnteringIsShown
entering_is_shown = record {
  arrays = refl;
  initial = refl;
  held = [];
  start = none _;
  begins = region_enters {inside = literal_claim.facts} 1 0 (record { variable = 0; value = Lit (pos 5) } ∷ []) refl
      (only (FactInRegion [] (record { variable = 0; value = Lit (pos 5) } ∷ [])) _ (0, refl, refl))
      (region_arrives literal_claim (0, omega arith, refl) (unshifted refl (only (λ fact. OperandsMatch literal_claim.facts fact.source fact.operand) _ (0, omega arith, refl))));
  each = first _ _ (register_claim ∷ []) literal_shown (only _ _ register_shown);
}

-- ---- an item of the next region in the row before it

abbrev print_one : Item
print_one = Print (Lit (pos 1))

abbrev the_copy : Item
the_copy = Copy 96 (Lit (pos 5))

abbrev at_literal : List Home
at_literal = record { variable = 0; value = Lit (pos 5) } ∷ []

abbrev at_name : List Home
at_name = record { variable = 0; value = Name 96 } ∷ []

abbrev early_window : Window
early_window = opened_window early_table two_limits 0

-- with a Copy of the stub's home; with its name as the home; with the region's tree; and with the literal again as the load's index
abbrev with_copy : Window
with_copy = window_of (Pending 0 0 print_one (Pending 0 0 the_copy (Exit 1 0 at_literal))) (with_name first_supply None) two_limits None

abbrev with_home : Window
with_home = window_of (Pending 0 0 print_one (Pending 0 0 the_copy (Exit 1 0 at_name))) (with_name first_supply None) two_limits None

abbrev with_region : Window
with_region = window_of (Pending 0 0 print_one (Pending 0 0 the_copy (Pending 0 0 (Load 97 0 (Name 96)) print_left))) early_supply two_limits None

abbrev with_literal : Window
with_literal = window_of (Pending 0 0 print_one (Pending 0 0 the_copy (Pending 0 0 (Load 97 0 (Lit (pos 5))) print_left))) early_supply two_limits None

early_forms : FormsBelow early_supply
early_forms = with_name-below (with_name first_supply None) None tt (with_name-below first_supply None tt first_names-below)

early_room : Positive two_limits
early_room = pair_room

arranged_early : IsProper early_arranged
arranged_early = record {
  window = record {
    scoped = ((tt, tt), tt, ((tt, tt), refl, ((tt, tt), refl, ((refl, tt), tt, tt))));
    independent = ((tt, tt), (record { no_store_dependence = tt; one_effect = refl }, tt), ((tt, tt), tt, tt));
    within = record { items = omega arith; memory = omega arith; tests = omega arith };
  };
  room = early_room;
  names_below = (tt, ((omega arith, tt), ((omega arith, tt), (omega arith, tt))));
  forms_below = early_forms;
}

late_proper : IsProper late_claim.window
late_proper = record {
  window = record {
    scoped = ((refl, tt), tt, tt);
    independent = ((refl, tt), tt, tt);
    within = record { items = omega arith; memory = omega arith; tests = omega arith };
  };
  room = early_room;
  names_below = (omega arith, tt);
  forms_below = early_forms;
}

load_move : IsMoved with_literal early_arranged
load_move =
    let known = uses (whole with_literal.front) in
    let load = Load 97 0 (Lit (pos 5)) in
    let from = Pending 0 0 the_copy (Pending 0 0 load print_left) in
    let left = Pending 0 0 the_copy print_left in
    record {
      new = None;
      moves = Into_node known (Some load) (Issued 0 0 print_one (Unfinished from)) (Issued 0 0 print_one (Issued 0 0 load (Unfinished left)))
          (Behind_item 0 0 print_one (Some load) (Unfinished from) (Issued 0 0 load (Unfinished left)) (record { no_store_dependence = tt; one_effect = refl }, refl) tt
          (Lands 0 0 load from left (tt, tt) refl refl refl (Past_item 0 0 the_copy false (Pending 0 0 load print_left) print_left (record { no_dependence = tt; one_effect = refl }) refl
          (Root print_left (refl, tt)))));
      tags = tt;
      is_new = tt;
      proper = arranged_early;
      limits = refl;
      inside = refl;
    }

early_changes : ChangesTo early_table early_window early_arranged
early_changes =
    one_change (adds_copy (record { tree = whole with_copy.front; adds = behind_item 0 0 print_one (here (added 0 0 (Lit (pos 5)) (Exit 1 0 at_literal) tt (0, refl, omega arith))); is = refl }))
    (one_change (uses_copy (record {
      tree = whole with_home.front;
      changes = behind_item 0 0 print_one
          (here (below_copy 0 0 96 (Lit (pos 5)) (in_stub 1 0 (one_home 0 to_name no_home))));
      is = refl;
    }))
    (one_change (opens (record {
      loop = None;
      after = early_supply;
      tree = whole with_region.front;
      opens = behind_item 0 0 print_one (behind_item 0 0 the_copy (here (the_stub 1 0 at_name (Pending 0 0 (Load 97 0 (Name 96)) print_left) refl refl)));
      is = refl;
    }))
    (one_change (uses_copy (record {
      tree = whole with_literal.front;
      changes = behind_item 0 0 print_one (here (below_copy 0 0 96 (Lit (pos 5)) (in_item 0 0 (in_load 97 0 from_name) (in_item 0 1 (in_print (same (Name 97))) in_stop))));
      is = refl;
    }))
    (one_change (moves load_move) no_change))))

abbrev loaded : Fact
loaded = record { source = Name 4; operand = Name 97 }

same_number : (x y : ℕ) → Name x ≡ Name y → x ≡ y
same_number x y e = cc

other_name : Name 97 ≡ Name 96 → ⊥
other_name e = let is = same_number 97 96 e in omega (arith, is)

early_shown : IsShown early_table early_code (early_claim ∷ late_claim ∷ []) early_claim
early_shown = record {
  row = Then print_one (Then (Load 4 0 (Lit (pos 5))) (At_leaf (Goto 1)));
  at = refl;
  proper = opens_proper early_table two_limits 0 early_window early_room refl;
  changes = early_changes;
  does = row_item (row_item (front_item (front_item (both_leaf (matches [] (Load 97 0 (Lit (pos 5)) ∷ []) refl tt (same_print refl) (passes refl (all_matched (refl, tt)))) (
    loaded ∷ [],
    only (FactAfter [] (print_one ∷ Load 4 0 (Lit (pos 5)) ∷ []) (print_one ∷ Load 97 0 (Lit (pos 5)) ∷ [])) _
        (computed (writes_later refl (writes_here refl)) (writes_later refl (writes_here refl)) (same_load refl)),
    leaf_copies {after = loaded ∷ []} 0 0 96 (Lit (pos 5)) print_left refl (only (FactAfterCopy (loaded ∷ []) 96 (Lit (pos 5))) _ (other_operand (0, omega arith, refl) other_name))
        (leaf_arrives late_claim (1, omega arith, refl) (inl (omega arith)) (unshifted refl (only (λ fact. OperandsMatch (loaded ∷ []) fact.source fact.operand) _ (0, omega arith, refl)))),
  )))));
}

late_shown : IsShown early_table early_code (early_claim ∷ late_claim ∷ []) late_claim
late_shown = record {
  row = Then (Print (Name 4)) (At_leaf Stop);
  at = refl;
  proper = late_proper;
  changes = no_change;
  does = row_item (front_item (both_leaf (matches [] [] refl tt (same_print (0, omega arith, refl)) (all_matched tt)) ([], none _, leaf_ends refl)));
}

pub early_is_shown : EarlyIsShown
early_is_shown = record {
  arrays = refl;
  initial = refl;
  held = [];
  start = none _;
  begins = region_arrives early_claim (0, omega arith, refl) (unshifted refl (none _));
  each = first _ _ (late_claim ∷ []) early_shown (only _ _ late_shown);
}

-- ---- the same above a test

abbrev one : Operand
one = Lit (pos 1)

abbrev tested_window : Window
tested_window = opened_window tested_table two_limits 0

abbrev copied_supply : Supply
copied_supply = with_name first_supply None

abbrev summed_supply : Supply
summed_supply = with_name copied_supply (Some sum_form)

-- the Copy stands above the test; then the stub's home is its name, and the stub its region's tree
abbrev copied_first : Window
copied_first = window_of (Pending 0 0 the_copy (Undecided 0 0 one (Exit 1 0 at_literal) Stop_exit)) copied_supply two_limits None

abbrev copied_home : Window
copied_home = window_of (Pending 0 0 the_copy (Undecided 0 0 one (Exit 1 0 at_name) Stop_exit)) copied_supply two_limits None

abbrev sum_below : Tree
sum_below = Pending 0 0 (Bin Add 97 (Name 96) one) (Pending 0 1 (Print (Name 97)) Stop_exit)

abbrev copied_region : Window
copied_region = window_of (Pending 0 0 the_copy (Undecided 0 0 one sum_below Stop_exit)) summed_supply two_limits None

-- the sum rises above the test, with a new name and the form of the Copy's name and 1; then it reads the literal
abbrev risen : Window
risen = window_of (Pending 0 0 the_copy (Pending 0 0 (Bin Add 98 (Name 96) one) tested_left)) tested_supply two_limits None

abbrev risen_literal : Window
risen_literal = window_of (Pending 0 0 the_copy (Pending 0 0 (Bin Add 98 (Lit (pos 5)) one) tested_left)) tested_supply two_limits None

abbrev risen_empty : Window
risen_empty = record risen_literal { front = Unfinished (Pending 0 0 the_copy (Pending 0 0 (Bin Add 98 (Lit (pos 5)) one) tested_left)) }

tested_forms : FormsBelow tested_supply
tested_forms = with_name-below summed_supply (Some sum_form) (omega arith, tt)
    (with_name-below copied_supply (Some sum_form) (omega arith, tt) (with_name-below first_supply None tt first_names-below))

risen_proper : IsProper risen
risen_proper = record {
  window = record {
    scoped = ((tt, tt), refl, ((refl, (tt, tt)), refl, (tt, ((refl, tt), tt, tt), tt)));
    independent = ((tt, tt), tt, tt);
    within = record { items = omega arith; memory = omega arith; tests = omega arith };
  };
  room = early_room;
  names_below = ((omega arith, tt), ((omega arith, omega arith, tt), (tt, (omega arith, tt), tt)));
  forms_below = tested_forms;
}

empty_risen : IsProper risen_empty
empty_risen = record {
  window = record {
    scoped = ((tt, tt), refl, ((tt, (tt, tt)), refl, (tt, ((refl, tt), tt, tt), tt)));
    independent = tt;
    within = record { items = omega arith; memory = omega arith; tests = omega arith };
  };
  room = early_room;
  names_below = ((omega arith, tt), ((omega arith, tt, tt), (tt, (omega arith, tt), tt)));
  forms_below = tested_forms;
}

arranged_tested : IsProper tested_arranged
arranged_tested = record {
  window = record {
    scoped = ((tt, (tt, tt)), refl, ((tt, tt), refl, (tt, ((refl, tt), tt, tt), tt)));
    independent = ((tt, (tt, tt)), tt, tt);
    within = record { items = omega arith; memory = omega arith; tests = omega arith };
  };
  room = early_room;
  names_below = ((omega arith, tt, tt), ((omega arith, tt), (tt, (omega arith, tt), tt)));
  forms_below = tested_forms;
}

tested_proper : IsProper tested_claim.window
tested_proper = record {
  window = record {
    scoped = (tt, ((refl, tt), tt, tt), tt);
    independent = (tt, tt, tt);
    within = record { items = omega arith; memory = omega arith; tests = omega arith };
  };
  room = early_room;
  names_below = (tt, (omega arith, tt), tt);
  forms_below = tested_forms;
}

split_proper : IsProper tested_claim.arranged
split_proper = record {
  window = record {
    scoped = (tt, ((refl, tt), tt, tt), tt);
    independent = (tt, ((refl, tt), tt, tt), tt);
    within = record { items = omega arith; memory = omega arith; tests = omega arith };
  };
  room = early_room;
  names_below = (tt, (omega arith, tt), tt);
  forms_below = tested_forms;
}

-- above the test, below the Copy
rise_move : IsMoved copied_region risen
rise_move =
    let known = uses (whole copied_region.front) in
    let from = Undecided 0 0 one sum_below Stop_exit in
    let sum = Bin Add 98 (Name 96) one in
    record {
      new = Some 98;
      moves = Below known 0 0 the_copy from (Pending 0 0 sum tested_left) refl
          (Into_node (and_dest known the_copy) (Some sum) (Unfinished from) (Issued 0 0 sum (Unfinished tested_left))
          (Lands_renamed 0 0 98 (Bin Add 97 (Name 96) one) from tested_left (refl, (tt, tt)) refl refl (sum_form, refl, refl)
          (Past_yes 0 0 one false sum_below Stop_exit (Pending 0 1 (Print (Name 98)) Stop_exit) refl tt (Root (Pending 0 1 (Print (Name 97)) Stop_exit) (refl, tt)))));
      tags = tt;
      is_new = refl;
      proper = risen_proper;
      limits = refl;
      inside = refl;
    }

-- above the Copy, into the front
front_move : IsMoved risen_empty tested_arranged
front_move =
    let known = uses (whole risen_empty.front) in
    let sum = Bin Add 98 (Lit (pos 5)) one in
    let from = Pending 0 0 the_copy (Pending 0 0 sum tested_left) in
    let left = Pending 0 0 the_copy tested_left in
    record {
      new = None;
      moves = Into_node known (Some sum) (Unfinished from) (Issued 0 0 sum (Unfinished left))
          (Lands 0 0 sum from left (tt, (tt, tt)) refl refl refl (Past_item 0 0 the_copy false (Pending 0 0 sum tested_left) tested_left
          (record { no_dependence = tt; one_effect = refl }) refl (Root tested_left ((refl, tt), tt))));
      tags = tt;
      is_new = tt;
      proper = arranged_tested;
      limits = refl;
      inside = refl;
    }

tested_changes : ChangesTo tested_table tested_window tested_arranged
tested_changes =
    one_change (adds_copy (record { tree = whole copied_first.front; adds = here (added 0 0 (Lit (pos 5)) (Undecided 0 0 one (Exit 1 0 at_literal) Stop_exit) tt (0, refl, omega arith)); is = refl }))
    (one_change (uses_copy (record {
      tree = whole copied_home.front;
      changes = here (below_copy 0 0 96 (Lit (pos 5)) (in_test 0 0 (same one) (in_stub 1 0 (one_home 0 to_name no_home)) in_stop));
      is = refl;
    }))
    (one_change (opens (record {
      loop = None;
      after = summed_supply;
      tree = whole copied_region.front;
      opens = behind_item 0 0 the_copy (in_yes_side 0 0 one Stop_exit (here (the_stub 1 0 at_name sum_below refl refl)));
      is = refl;
    }))
    (one_change (moves rise_move)
    (one_change (uses_copy (record {
      tree = whole risen_literal.front;
      changes = here (below_copy 0 0 96 (Lit (pos 5)) (in_item 0 0 (in_bin Add 98 from_name (same one)) (in_test 0 0 (same one) (in_item 0 1 (in_print (same (Name 98))) in_stop) in_stop)));
      is = refl;
    }))
    (one_change (regroups (record { tree = refl; forms = refl; proper = empty_risen })) (one_change (moves front_move) no_change))))))

abbrev summed : Fact
summed = record { source = Name 4; operand = Name 98 }

not_copied : Name 98 ≡ Name 96 → ⊥
not_copied e = let is = same_number 98 96 e in omega (arith, is)

sum_shown : IsShown tested_table tested_code (sum_claim ∷ tested_claim ∷ []) sum_claim
sum_shown = record {
  row = Then (Bin Add 4 (Lit (pos 5)) one) (At_leaf (Goto 1));
  at = refl;
  proper = opens_proper tested_table two_limits 0 tested_window early_room refl;
  changes = tested_changes;
  does = row_item (front_item (both_leaf (passes refl (all_matched (refl, tt))) (
    summed ∷ [],
    only (FactAfter [] (Bin Add 4 (Lit (pos 5)) one ∷ []) (Bin Add 98 (Lit (pos 5)) one ∷ [])) _
        (computed (writes_here refl) (writes_here refl) (same_bin refl refl)),
    leaf_copies {after = summed ∷ []} 0 0 96 (Lit (pos 5)) tested_left refl (only (FactAfterCopy (summed ∷ []) 96 (Lit (pos 5))) _ (other_operand (0, omega arith, refl) not_copied))
        (leaf_arrives tested_claim (1, omega arith, refl) (inl (omega arith)) (unshifted refl (only (λ fact. OperandsMatch (summed ∷ []) fact.source fact.operand) _ (0, omega arith, refl)))),
  )));
}

tested_shown : IsShown tested_table tested_code (sum_claim ∷ tested_claim ∷ []) tested_claim
tested_shown = record {
  row = Either one (Then (Print (Name 4)) (At_leaf Stop)) (At_leaf Stop);
  at = refl;
  proper = tested_proper;
  changes = one_change (regroups (record { tree = refl; forms = refl; proper = split_proper })) no_change;
  does = both_test refl
      (row_item (front_item (both_leaf (matches [] [] refl tt (same_print (0, omega arith, refl)) (all_matched tt)) ([], none _, leaf_ends refl))))
      (both_leaf (all_matched tt) ([], none _, leaf_ends refl));
}

pub tested_is_shown : TestedIsShown
tested_is_shown = record {
  arrays = refl;
  initial = refl;
  held = [];
  start = none _;
  begins = region_arrives sum_claim (0, omega arith, refl) (unshifted refl (none _));
  each = first _ _ (tested_claim ∷ []) sum_shown (only _ _ tested_shown);
}
