-- A pipelined loop that claims show: a row prints in one iteration and adds for the next.
use Rattle.std.specs.Prelude.{suc, ℕ, pos, List, [], ◌∷◌, Some, None}
use Rattle.pc_word.specs.declared.item.Item.TheVariants.{Bin, Print, Read}
use Rattle.pc_word.specs.declared.item.OpCode.TheVariants.{Add}
use Rattle.pc_word.specs.declared.item.Operand.TheVariants.{Name, Lit}
use Rattle.pc_word.specs.declared.item.Limits.{Limits}
use Rattle.pc_word.specs.Row.{Then, Either, At_leaf}
use Rattle.pc_table.specs.Table.{Table, Does, Asks, Next, Stops_here, region_tree}
use Rattle.pc_machine.specs.declared.tree.Leaf.TheVariants.{Goto, Stop}
use Rattle.pc_machine.specs.MachineCode.{RowCode}
use Rattle.pc_window.specs.declared.home.Home.{Home}
use Rattle.pc_window.specs.Tree.{Tree, Pending, Undecided, Exit, Stop_exit, Issued, Split, Unfinished, home_of}
use Rattle.pc_window.specs.Opening.{Supply, graft}
use Rattle.pc_window.specs.Rebasing.{rebased}
use Rattle.pc_window.specs.WindowRun.{Window, supply_of}
use Rattle.pc_window.specs.Steps.{window_of, opened_window}
use Rattle.pc_certified.specs.Facts.{Fact}
use Rattle.pc_certified.specs.Claims.{Claim}
use Rattle.pc_certified.specs.Shows.{Shows}

abbrev pub three_limits : Limits
three_limits = record { ops = 3; tests = 1; mem = 1 }

-- variable 0 is read; then, as long as it is not 0: 1 is added to it, and it is printed
abbrev pub counting_table : Table
counting_table = record {
  regions = record { head = 0; tree = Does 0 (Read 0) (Next 1); live = []; inside = None; heads = None } ∷ record {
    head = 1;
    tree = Asks 0 (Name 0) (Does 1 (Bin Add 0 (Name 0) (Lit (pos 1))) (Does 2 (Print (Name 0)) (Next 1))) Stops_here;
    live = 0 ∷ [];
    inside = Some 0;
    heads = Some 0;
  } ∷ [];
  loops = record { line = 1; header = 1; outer = None } ∷ [];
  arrays = [];
}

-- register 0 is read; the first sum; and from then on a row prints a sum and makes the next one
abbrev pub counting_code : RowCode
counting_code = record {
  limits = three_limits;
  registers = 128;
  arrays = [];
  initial = [];
  rows = Then (Read 0) (At_leaf (Goto 1))
      ∷ Either (Name 0) (Then (Bin Add 0 (Name 0) (Lit (pos 1))) (At_leaf (Goto 2))) (At_leaf Stop)
      ∷ Either (Name 0) (Then (Print (Name 0)) (Then (Bin Add 0 (Name 0) (Lit (pos 1))) (At_leaf (Goto 2)))) (Then (Print (Name 0)) (At_leaf Stop)) ∷ [];
}

-- that register 0 has the value of a name
abbrev pub in_register : ℕ → Fact
in_register name = record { source = Name 0; operand = Name name }

-- variable 0 at a name
abbrev pub home_at : ℕ → List Home
home_at name = record { variable = 0; value = Name name } ∷ []

-- what is left of an iteration behind its sum
abbrev pub sum_left : ℕ → ℕ → Tree
sum_left tag sum = Pending tag 2 (Print (Name sum)) (Exit 1 (suc tag) (home_at sum))

-- an iteration behind its test, with the last sum and its own
abbrev pub sum_and_left : ℕ → ℕ → ℕ → Tree
sum_and_left tag last sum = Pending tag 1 (Bin Add sum (Name last) (Lit (pos 1))) (sum_left tag sum)

-- the print of an iteration, and the next iteration
abbrev pub two_behind : ℕ → ℕ → ℕ → Tree
two_behind tag last sum = Pending tag 2 (Print (Name last)) (Undecided (suc tag) 0 (Name last) (sum_and_left (suc tag) last sum) Stop_exit)

-- the names once what is left behind a sum is rebased, and once its stub is opened then
abbrev pub rebased_left : ℕ → ℕ → Supply → Supply
rebased_left tag sum names = rebased (sum_left tag sum) names

abbrev pub opened_left : ℕ → ℕ → Supply → Supply
opened_left tag sum names = (graft counting_table (Some 0) (suc tag) (region_tree counting_table 1) (rebased_left tag sum names) (home_of (home_at sum))).names

-- ---- the claims

abbrev pub read_claim : Claim
read_claim = record {
  row = 0;
  rank = 2;
  window = opened_window counting_table three_limits 0;
  facts = [];
  arranged = opened_window counting_table three_limits 0;
}

-- the front is the test and the sum
abbrev pub first_arranged : Window
first_arranged = record (opened_window counting_table three_limits 1) {
  front = Split 0 0 (Name 0) (Issued 0 1 (Bin Add 96 (Name 0) (Lit (pos 1))) (Unfinished (sum_left 0 96))) (Unfinished Stop_exit);
}

abbrev pub first_claim : Claim
first_claim = record { row = 1; rank = 1; window = opened_window counting_table three_limits 1; facts = in_register 0 ∷ []; arranged = first_arranged }

-- a sum is still to be printed, and the next iteration follows
abbrev pub next_names : Supply
next_names = opened_left 0 96 (supply_of (opened_window counting_table three_limits 1))

abbrev pub next_window : Window
next_window = window_of (two_behind 0 96 97) next_names three_limits (Some 0)

-- the test has come above the print, which stands on both sides of it
abbrev pub next_arranged : Window
next_arranged = record next_window {
  front = Split 1 0 (Name 96)
      (Issued 0 2 (Print (Name 96)) (Issued 1 1 (Bin Add 97 (Name 96) (Lit (pos 1))) (Unfinished (sum_left 1 97))))
      (Issued 0 2 (Print (Name 96)) (Unfinished Stop_exit));
}

abbrev pub next_claim : Claim
next_claim = record { row = 2; rank = 0; window = next_window; facts = in_register 96 ∷ []; arranged = next_arranged }

-- the window at which the row arrives again, one iteration later
abbrev pub later_window : Window
later_window = window_of (two_behind 1 97 98) (opened_left 1 97 next_names) three_limits (Some 0)

abbrev pub PipelinedIsShown : Type 0
PipelinedIsShown = Shows counting_table [] counting_code (read_claim ∷ first_claim ∷ next_claim ∷ [])
