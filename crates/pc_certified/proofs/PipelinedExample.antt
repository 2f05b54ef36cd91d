-- The pipelined loop is shown: its row arrives again at its own claim, one iteration later.
use Rattle.std.specs.Prelude.{pos, Bool, true, false, ◌||◌, if◌then◌else◌, ◌+ℤ◌, List}
use Rattle.std.specs.Int.{int_wrap}
use Rattle.std.proofs.Common.{None, Some, inl, inr, ◌≡◌, ℕ, [], ◌∷◌, refl, arith}
use Rattle.pc_word.specs.declared.item.Item.TheVariants.{Bin, Print, Read}
use Rattle.pc_word.specs.declared.item.OpCode.TheVariants.{Add}
use Rattle.pc_word.specs.declared.item.Operand.TheVariants.{Name, Lit}
use Rattle.pc_word.specs.Row.{Then, Either, At_leaf}
use Rattle.pc_linear.specs.Form.{factor_of}
use Rattle.pc_machine.specs.declared.tree.Leaf.TheVariants.{Goto, Stop}
use Rattle.pc_window.specs.Tree.{Pending, Undecided, Stop_exit, Split, Unfinished, whole}
use Rattle.pc_window.specs.Names.{uses}
use Rattle.pc_window.specs.Jump.{Lands_test, Past, Root_test}
use Rattle.pc_window.specs.Move.{Into_node}
use Rattle.pc_window.specs.Rebasing.{is_in}
use Rattle.pc_window.specs.WindowRun.{Window, supply_of}
use Rattle.pc_window.specs.Steps.{window_of, opened_window, with_tree, Positive, IsProper}
use Rattle.pc_window.proofs.Proper.{opens_proper, rebases_proper}
use Rattle.pc_canon.specs.Pairs.{Pair}
use Rattle.pc_canon.specs.Shift.{ShiftedBy, OneToOne, FormsAlike, both_then, both_either, both_exit, both_stop, both_print, both_bin}
use Rattle.pc_canon.proofs.Membership.{distinct_to}
use Rattle.pc_certified.specs.Facts.{OperandsMatch, same_bin, same_print, same_read}
use Rattle.pc_certified.specs.Paths.{FactAfter, all_matched, passes, matches, writes_here, writes_later, computed}
use Rattle.pc_certified.specs.RowMatches.{row_item, front_item, both_test, both_leaf}
use Rattle.pc_certified.specs.Somewhere.{here, behind_item}
use Rattle.pc_certified.specs.Changes.{OpensStub, rebases, opens, the_stub, no_change, one_change, IsMoved, moves, regroups}
use Rattle.pc_certified.specs.Claims.{Claim, unshifted, shifted_by}
use Rattle.pc_certified.specs.LeafAgrees.{FactInRegion, region_arrives, leaf_changes, leaf_arrives, leaf_enters, leaf_ends}
use Rattle.pc_certified.specs.Shows.{IsShown}
use Rattle.pc_certified.specs.PipelinedExample.{three_limits, counting_table, counting_code, in_register, home_at, sum_left, sum_and_left, two_behind}
use Rattle.pc_certified.specs.PipelinedExample.{rebased_left, opened_left, read_claim, first_arranged, first_claim, next_names, next_window, next_arranged}
use Rattle.pc_certified.specs.PipelinedExample.{next_claim, later_window, PipelinedIsShown}
use Rattle.pc_certified.proofs.Listed.{none, first, only}
use Rattle.pc_certified.proofs.WindowChanges.{opens_proper as stub_proper}

room : Positive three_limits
room = record { ops = omega arith; tests = omega arith; mem = omega arith }

abbrev claims : List Claim
claims = read_claim ∷ first_claim ∷ next_claim ∷ []

-- ---- the input is read

read_proper : IsProper (opened_window counting_table three_limits 0)
read_proper = opens_proper counting_table three_limits 0 (opened_window counting_table three_limits 0) room refl

read_shown : IsShown counting_table counting_code claims read_claim
read_shown = record {
  row = Then (Read 0) (At_leaf (Goto 1));
  at = refl;
  proper = read_proper;
  changes = no_change;
  does = row_item (front_item (both_leaf (matches [] [] refl tt same_read (all_matched tt)) (
    in_register 96 ∷ [],
    only (FactAfter [] (Read 0 ∷ []) (Read 96 ∷ [])) _ (computed (writes_here refl) (writes_here refl) same_read),
    leaf_enters {inside = in_register 0 ∷ []} 1 0 (home_at 96) refl (only (FactInRegion (in_register 96 ∷ []) (home_at 96)) _ (0, refl, (0, omega arith, refl)))
        (region_arrives first_claim (1, omega arith, refl) (unshifted refl (only (λ fact. OperandsMatch (in_register 0 ∷ []) fact.source fact.operand) _ (0, omega arith, refl)))),
  )));
}

-- ---- the first sum

first_proper : IsProper (opened_window counting_table three_limits 1)
first_proper = opens_proper counting_table three_limits 1 (opened_window counting_table three_limits 1) room refl

arranged_first : IsProper first_arranged
arranged_first = record {
  window = record {
    scoped = first_proper.window.scoped;
    independent = (refl, ((refl, (tt, tt)), tt, tt), tt);
    within = record { items = omega arith; memory = omega arith; tests = omega arith };
  };
  room = room;
  names_below = first_proper.names_below;
  forms_below = first_proper.forms_below;
}

abbrev first_rest : Window
first_rest = with_tree first_arranged (sum_left 0 96)

abbrev first_rebased : Window
first_rebased = window_of (sum_left 0 96) (rebased_left 0 96 (supply_of first_arranged)) three_limits (Some 0)

rest_proper : IsProper first_rest
rest_proper = record {
  window = record {
    scoped = ((refl, tt), tt, (refl, tt));
    independent = ((refl, tt), tt, tt);
    within = record { items = omega arith; memory = omega arith; tests = omega arith };
  };
  room = room;
  names_below = (omega arith, (omega arith, tt));
  forms_below = first_proper.forms_below;
}

first_opens : OpensStub counting_table first_rebased next_window
unfolding int_wrap
first_opens = record {
  loop = Some 0;
  after = next_names;
  tree = two_behind 0 96 97;
  opens = behind_item 0 2 (Print (Name 96)) (here (the_stub 1 1 (home_at 96) (Undecided 1 0 (Name 96) (sum_and_left 1 96 97) Stop_exit) refl refl));
  is = refl;
}

first_shown : IsShown counting_table counting_code claims first_claim
first_shown = record {
  row = Either (Name 0) (Then (Bin Add 0 (Name 0) (Lit (pos 1))) (At_leaf (Goto 2))) (At_leaf Stop);
  at = refl;
  proper = first_proper;
  changes = one_change (regroups (record { tree = refl; forms = refl; proper = arranged_first })) no_change;
  does = both_test (0, omega arith, refl)
      (row_item (front_item (both_leaf (passes refl (all_matched (refl, tt))) (
        in_register 96 ∷ [],
        only (FactAfter (in_register 0 ∷ []) (Bin Add 0 (Name 0) (Lit (pos 1)) ∷ []) (Bin Add 96 (Name 0) (Lit (pos 1)) ∷ [])) _
            (computed (writes_here refl) (writes_here refl) (same_bin (0, omega arith, refl) refl)),
        leaf_changes {v = first_rebased} (rebases refl) (leaf_changes (opens first_opens)
            (leaf_arrives next_claim (2, omega arith, refl) (inl (omega arith))
            (unshifted refl (only (λ fact. OperandsMatch (in_register 96 ∷ []) fact.source fact.operand) _ (0, omega arith, refl))))),
      ))))
      (both_leaf (all_matched tt) ([], none _, leaf_ends refl));
}

-- ---- from then on

next_proper : IsProper next_window
next_proper = stub_proper counting_table first_rebased next_window first_opens (rebases_proper first_rest first_rebased refl rest_proper)

-- the front is empty; the test has come above the print; and both sides of it are in the front
abbrev next_empty : Window
next_empty = record next_window { front = Unfinished (two_behind 0 96 97) }

abbrev next_split : Window
next_split = record next_window {
  front = Split 1 0 (Name 96) (Unfinished (Pending 0 2 (Print (Name 96)) (sum_and_left 1 96 97))) (Unfinished (Pending 0 2 (Print (Name 96)) Stop_exit));
}

empty_proper : IsProper next_empty
empty_proper = record {
  window = record { scoped = next_proper.window.scoped; independent = tt; within = record { items = omega arith; memory = omega arith; tests = omega arith } };
  room = room;
  names_below = next_proper.names_below;
  forms_below = next_proper.forms_below;
}

split_proper : IsProper next_split
split_proper = record {
  window = record {
    scoped = (refl, ((refl, tt), tt, ((refl, (tt, tt)), refl, ((refl, tt), tt, (refl, tt)))), ((refl, tt), tt, tt));
    independent = (refl, tt, tt);
    within = record { items = omega arith; memory = omega arith; tests = omega arith };
  };
  room = room;
  names_below = let below = next_proper.names_below in (below.1.0, (below.0, below.1.1), (below.0, tt));
  forms_below = next_proper.forms_below;
}

arranged_next : IsProper next_arranged
arranged_next = record {
  window = record {
    scoped = split_proper.window.scoped;
    independent = (refl, ((refl, tt), (record { no_store_dependence = tt; one_effect = refl }, tt), ((refl, (tt, tt)), tt, tt)), ((refl, tt), tt, tt));
    within = record { items = omega arith; memory = omega arith; tests = omega arith };
  };
  room = room;
  names_below = split_proper.names_below;
  forms_below = next_proper.forms_below;
}

test_move : IsMoved next_empty next_split
test_move =
    let known = uses (whole next_empty.front) in
    let print = Print (Name 96) in
    let one = Pending 0 2 print (sum_and_left 1 96 97) in
    let other = Pending 0 2 print Stop_exit in
    record {
      new = None;
      moves = Into_node known None (Unfinished (two_behind 0 96 97)) (Split 1 0 (Name 96) (Unfinished one) (Unfinished other))
          (Lands_test 1 0 (Name 96) (two_behind 0 96 97) one other refl refl refl
          (Past 0 2 print (Undecided 1 0 (Name 96) (sum_and_left 1 96 97) Stop_exit) (sum_and_left 1 96 97) Stop_exit (Root_test (sum_and_left 1 96 97) Stop_exit)));
      tags = tt;
      is_new = tt;
      proper = split_proper;
      limits = refl;
      inside = refl;
    }

-- ---- what is left arrives again

abbrev next_rest : Window
next_rest = with_tree next_arranged (sum_left 1 97)

abbrev next_rebased : Window
next_rebased = window_of (sum_left 1 97) (rebased_left 1 97 next_names) three_limits (Some 0)

next_opens : OpensStub counting_table next_rebased later_window
unfolding int_wrap
next_opens = record {
  loop = Some 0;
  after = opened_left 1 97 next_names;
  tree = two_behind 1 97 98;
  opens = behind_item 1 2 (Print (Name 97)) (here (the_stub 1 2 (home_at 97) (Undecided 2 0 (Name 97) (sum_and_left 2 97 98) Stop_exit) refl refl));
  is = refl;
}

-- the form variable of the later window, and that of the window before; and the parameters
abbrev form_variables : List Pair
form_variables = record { one = 97; other = 96 } ∷ []

abbrev names_alike : List Pair
names_alike = record { one = 97; other = 96 } ∷ []

one_to_one : OneToOne form_variables
one_to_one = record { ones_differ = distinct_to (97 ∷ []) (refl, tt); others_differ = distinct_to (96 ∷ []) (refl, tt) }

-- no other variable has a factor
no_factor : (variable x : ℕ) → is_in x (variable ∷ []) ≡ false → factor_of (record { variable = variable; factor = pos 1 } ∷ []) x ≡ pos 0
no_factor variable x e = by_test _ e
  where
    by_test : (b : Bool) → (b || false) ≡ false → ((if b then pos 1 else pos 0) +ℤ pos 0) ≡ pos 0
    by_test true h = absurd (cc)
    by_test false h = refl

sums_alike : FormsAlike form_variables (later_window.forms 97) (next_window.forms 96)
unfolding int_wrap
sums_alike = record { constants = refl; both_terms = refl; factors = (refl, tt); no_more = no_factor 97; no_others = no_factor 96 }

next_sums_alike : FormsAlike form_variables (later_window.forms 98) (next_window.forms 97)
unfolding int_wrap
next_sums_alike = record { constants = refl; both_terms = refl; factors = (refl, tt); no_more = no_factor 97; no_others = no_factor 96 }

later_shifted : ShiftedBy names_alike later_window next_window
later_shifted = (
  record { variables = form_variables; shift = 0; other_shift = 1 },
  record {
    variables_one_to_one = one_to_one;
    params_one_to_one = one_to_one;
    params_alike = (sums_alike, tt);
    fronts = tt;
    trees = both_then refl (both_print refl) tt
        (both_either refl refl (both_then refl (both_bin refl refl) next_sums_alike (both_then refl (both_print refl) tt (both_exit refl (refl, refl, tt)))) both_stop);
    limits = refl;
    inside = refl;
  },
)

next_shown : IsShown counting_table counting_code claims next_claim
next_shown = record {
  row = Either (Name 0) (Then (Print (Name 0)) (Then (Bin Add 0 (Name 0) (Lit (pos 1))) (At_leaf (Goto 2)))) (Then (Print (Name 0)) (At_leaf Stop));
  at = refl;
  proper = next_proper;
  changes = one_change (regroups (record { tree = refl; forms = refl; proper = empty_proper }))
      (one_change (moves test_move) (one_change (regroups (record { tree = refl; forms = refl; proper = arranged_next })) no_change));
  does = both_test (0, omega arith, refl)
      (row_item (row_item (front_item (front_item (both_leaf (matches [] (Bin Add 97 (Name 96) (Lit (pos 1)) ∷ []) refl tt (same_print (0, omega arith, refl))
      (passes refl (all_matched (refl, tt)))) (
        in_register 97 ∷ [],
        only (FactAfter (in_register 96 ∷ []) (Print (Name 0) ∷ Bin Add 0 (Name 0) (Lit (pos 1)) ∷ []) (Print (Name 96) ∷ Bin Add 97 (Name 96) (Lit (pos 1)) ∷ [])) _
            (computed (writes_later refl (writes_here refl)) (writes_later refl (writes_here refl)) (same_bin (0, omega arith, refl) refl)),
        leaf_changes {v = next_rebased} (rebases refl) (leaf_changes (opens next_opens) (leaf_arrives next_claim (2, omega arith, refl) (inr (omega arith, tt))
            (shifted_by names_alike later_shifted (only _ (in_register 96) (Name 97, refl, (0, omega arith, refl)))))),
      ))))))
      (row_item (front_item (both_leaf (matches [] [] refl tt (same_print (0, omega arith, refl)) (all_matched tt)) ([], none _, leaf_ends refl))));
}

pub pipelined_is_shown : PipelinedIsShown
pipelined_is_shown = record {
  arrays = refl;
  initial = refl;
  held = [];
  start = none _;
  begins = region_arrives read_claim (0, omega arith, refl) (unshifted refl (none _));
  each = first _ _ (first_claim ∷ next_claim ∷ []) read_shown (first _ _ (next_claim ∷ []) first_shown (only _ _ next_shown));
}
