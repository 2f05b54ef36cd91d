-- Small tables and codes that claims show.
use Rattle.std.specs.Prelude.{suc, ℕ, pos, [], ◌∷◌, Some, None}
use Rattle.pc_word.specs.declared.item.Item.TheVariants.{Bin, Copy, Load, Store, Print}
use Rattle.pc_word.specs.declared.item.OpCode.TheVariants.{Add}
use Rattle.pc_word.specs.declared.item.Operand.TheVariants.{Name, Lit}
use Rattle.pc_word.specs.declared.item.Limits.{Limits}
use Rattle.pc_word.specs.Row.{Then, Either, At_leaf}
use Rattle.pc_linear.specs.Form.{Form}
use Rattle.pc_linear.specs.Combine.{plus, variable_form, constant_form}
use Rattle.pc_table.specs.Table.{Table, Does, Asks, Next, Stops_here}
use Rattle.pc_machine.specs.declared.tree.Leaf.TheVariants.{Goto, Stop}
use Rattle.pc_machine.specs.MachineCode.{RowCode}
use Rattle.pc_window.specs.Opening.{Supply, first_supply, with_name}
use Rattle.pc_window.specs.Steps.{window_of, opened_window}
use Rattle.pc_window.specs.Tree.{Tree, Pending, Undecided, Exit, Stop_exit, Issued, Split, Unfinished}
use Rattle.pc_window.specs.WindowRun.{Window, supply_of}
use Rattle.pc_certified.specs.Claims.{Claim}
use Rattle.pc_certified.specs.Shows.{Shows}

abbrev pub small_limits : Limits
small_limits = record { ops = 1; tests = 1; mem = 1 }

-- print 5, and stop
abbrev pub printing_table : Table
printing_table = record {
  regions = record { head = 0; tree = Does 0 (Print (Lit (pos 5))) Stops_here; live = []; inside = None; heads = None } ∷ [];
  loops = [];
  arrays = [];
}

abbrev pub printing_code : RowCode
printing_code = record { limits = small_limits; registers = 128; arrays = []; initial = []; rows = Then (Print (Lit (pos 5))) (At_leaf Stop) ∷ [] }

abbrev pub printing_claim : Claim
printing_claim = record {
  row = 0;
  rank = 0;
  window = opened_window printing_table small_limits 0;
  facts = [];
  arranged = opened_window printing_table small_limits 0;
}

abbrev pub PrintingIsShown : Type 0
PrintingIsShown = Shows printing_table [] printing_code (printing_claim ∷ [])

-- ---- a loop that never ends

-- test 1, and again; else stop
abbrev pub loop_table : Table
loop_table = record {
  regions = record { head = 0; tree = Asks 0 (Lit (pos 1)) (Next 0) Stops_here; live = []; inside = Some 0; heads = Some 0 } ∷ [];
  loops = record { line = 1; header = 0; outer = None } ∷ [];
  arrays = [];
}

abbrev pub loop_code : RowCode
loop_code = record { limits = small_limits; registers = 128; arrays = []; initial = []; rows = Either (Lit (pos 1)) (At_leaf (Goto 0)) (At_leaf Stop) ∷ [] }

-- two iterations of the loop, from a tag on
abbrev pub two_iterations : ℕ → Tree
two_iterations tag = Undecided tag 0 (Lit (pos 1)) (Undecided (suc tag) 0 (Lit (pos 1)) (Exit 0 (suc (suc tag)) []) Stop_exit) Stop_exit

-- its window, unwound: two iterations
abbrev pub loop_window : ℕ → Window
loop_window tag = window_of (two_iterations tag) (supply_of (opened_window loop_table small_limits 0)) small_limits (Some 0)

abbrev pub loop_claim : Claim
loop_claim = record { row = 0; rank = 0; window = loop_window 0; facts = []; arranged = loop_window 0 }

-- the row's one leaf that goes on leads to the same window, one iteration later
abbrev pub LoopIsShown : Type 0
LoopIsShown = Shows loop_table [] loop_code (loop_claim ∷ [])

-- ---- two items in one row

abbrev pub two_limits : Limits
two_limits = record { ops = 2; tests = 1; mem = 1 }

-- store 7 in element 0 of array 0, print 5, and stop
abbrev pub pair_table : Table
pair_table = record {
  regions = record {
    head = 0;
    tree = Does 0 (Store 0 (Lit (pos 0)) (Lit (pos 7))) (Does 1 (Print (Lit (pos 5))) Stops_here);
    live = [];
    inside = None;
    heads = None;
  } ∷ [];
  loops = [];
  arrays = 4 ∷ [];
}

-- the row prints before it stores, as it may
abbrev pub pair_code : RowCode
pair_code = record {
  limits = two_limits;
  registers = 128;
  arrays = 4 ∷ [];
  initial = [] ∷ [];
  rows = Then (Print (Lit (pos 5))) (Then (Store 0 (Lit (pos 0)) (Lit (pos 7))) (At_leaf Stop)) ∷ [];
}

-- the print has moved into the front
abbrev pub pair_arranged : Window
pair_arranged = record (opened_window pair_table two_limits 0) {
  front = Issued 0 0 (Store 0 (Lit (pos 0)) (Lit (pos 7))) (Issued 0 1 (Print (Lit (pos 5))) (Unfinished Stop_exit));
}

abbrev pub pair_claim : Claim
pair_claim = record { row = 0; rank = 0; window = opened_window pair_table two_limits 0; facts = []; arranged = pair_arranged }

abbrev pub PairIsShown : Type 0
PairIsShown = Shows pair_table ([] ∷ []) pair_code (pair_claim ∷ [])

-- ---- a row that leaves the root

-- the print alone, and the store in the row behind it
abbrev pub root_code : RowCode
root_code = record {
  limits = two_limits;
  registers = 128;
  arrays = 4 ∷ [];
  initial = [] ∷ [];
  rows = Then (Print (Lit (pos 5))) (At_leaf (Goto 1)) ∷ Then (Store 0 (Lit (pos 0)) (Lit (pos 7))) (At_leaf Stop) ∷ [];
}

-- the front is the print; the store, which is the window's root, has not come into it
abbrev pub root_arranged : Window
root_arranged = record (opened_window pair_table two_limits 0) {
  front = Issued 0 1 (Print (Lit (pos 5))) (Unfinished (Pending 0 0 (Store 0 (Lit (pos 0)) (Lit (pos 7))) Stop_exit));
}

-- what is left
abbrev pub store_window : Window
store_window = record (opened_window pair_table two_limits 0) { front = Issued 0 0 (Store 0 (Lit (pos 0)) (Lit (pos 7))) (Unfinished Stop_exit) }

abbrev pub print_claim : Claim
print_claim = record { row = 0; rank = 1; window = opened_window pair_table two_limits 0; facts = []; arranged = root_arranged }

abbrev pub store_claim : Claim
store_claim = record { row = 1; rank = 0; window = store_window; facts = []; arranged = store_window }

abbrev pub RootIsShown : Type 0
RootIsShown = Shows pair_table ([] ∷ []) root_code (print_claim ∷ store_claim ∷ [])

-- ---- a region that is entered before its homes are copied

-- variable 0 is 5; then, again and again: test 1, and print it; else stop
abbrev pub enter_table : Table
enter_table = record {
  regions = record { head = 0; tree = Does 0 (Copy 0 (Lit (pos 5))) (Next 1); live = []; inside = None; heads = None }
      ∷ record { head = 1; tree = Asks 0 (Lit (pos 1)) (Does 1 (Print (Name 0)) (Next 1)) Stops_here; live = 0 ∷ []; inside = Some 0; heads = Some 0 } ∷ [];
  loops = record { line = 1; header = 1; outer = None } ∷ [];
  arrays = [];
}

-- the first iteration prints the literal and copies it to register 3; the others print register 3
abbrev pub enter_code : RowCode
enter_code = record {
  limits = small_limits;
  registers = 128;
  arrays = [];
  initial = [];
  rows = Either (Lit (pos 1)) (Then (Print (Lit (pos 5))) (Then (Copy 3 (Lit (pos 5))) (At_leaf (Goto 1)))) (At_leaf Stop)
      ∷ Either (Lit (pos 1)) (Then (Print (Name 3)) (At_leaf (Goto 1))) (At_leaf Stop) ∷ [];
}

-- the whole region in the front
abbrev pub enter_arranged : Window
enter_arranged = record (opened_window enter_table small_limits 1) {
  front = Split 0 0 (Lit (pos 1)) (Issued 0 1 (Print (Name 0)) (Unfinished (Exit 1 1 (record { variable = 0; value = Name 0 } ∷ [])))) (Unfinished Stop_exit);
}

-- literal 5 has the value of variable 0 of the loop's window, and then register 3 does
abbrev pub literal_claim : Claim
literal_claim = record {
  row = 0;
  rank = 0;
  window = opened_window enter_table small_limits 1;
  facts = record { source = Lit (pos 5); operand = Name 0 } ∷ [];
  arranged = enter_arranged;
}

abbrev pub register_claim : Claim
register_claim = record {
  row = 1;
  rank = 0;
  window = opened_window enter_table small_limits 1;
  facts = record { source = Name 3; operand = Name 0 } ∷ [];
  arranged = enter_arranged;
}

abbrev pub EnteringIsShown : Type 0
EnteringIsShown = Shows enter_table [] enter_code (literal_claim ∷ register_claim ∷ [])

-- ---- an item of the next region in the row before it

-- print 1; variable 0 is 5; then the next region: print element 5, and stop
abbrev pub early_table : Table
early_table = record {
  regions = record { head = 0; tree = Does 0 (Print (Lit (pos 1))) (Does 1 (Copy 0 (Lit (pos 5))) (Next 1)); live = []; inside = None; heads = None }
      ∷ record { head = 1; tree = Does 0 (Load 1 0 (Name 0)) (Does 1 (Print (Name 1)) Stops_here); live = 0 ∷ []; inside = None; heads = None } ∷ [];
  loops = [];
  arrays = 8 ∷ [];
}

-- the load stands in row 0; the array begins with 3
abbrev pub early_code : RowCode
early_code = record {
  limits = two_limits;
  registers = 128;
  arrays = 8 ∷ [];
  initial = (pos 3 ∷ []) ∷ [];
  rows = Then (Print (Lit (pos 1))) (Then (Load 4 0 (Lit (pos 5))) (At_leaf (Goto 1))) ∷ Then (Print (Name 4)) (At_leaf Stop) ∷ [];
}

-- the name of the Copy, and of the load behind it
abbrev pub early_supply : Supply
early_supply = with_name (with_name first_supply None) None

-- what is left of the region behind the load
abbrev pub print_left : Tree
print_left = Pending 0 1 (Print (Name 97)) Stop_exit

-- the load has come into the front above the Copy of the home, whose place its operand took
abbrev pub early_arranged : Window
early_arranged = record (window_of Stop_exit early_supply two_limits None) {
  front = Issued 0 0 (Print (Lit (pos 1))) (Issued 0 0 (Load 97 0 (Lit (pos 5))) (Unfinished (Pending 0 0 (Copy 96 (Lit (pos 5))) print_left)));
}

abbrev pub early_claim : Claim
early_claim = record { row = 0; rank = 1; window = opened_window early_table two_limits 0; facts = []; arranged = early_arranged }

abbrev pub late_claim : Claim
late_claim = record {
  row = 1;
  rank = 0;
  window = window_of print_left early_supply two_limits None;
  facts = record { source = Name 4; operand = Name 97 } ∷ [];
  arranged = window_of print_left early_supply two_limits None;
}

abbrev pub EarlyIsShown : Type 0
EarlyIsShown = Shows early_table ((pos 3 ∷ []) ∷ []) early_code (early_claim ∷ late_claim ∷ [])

-- ---- the same above a test

-- test 1: variable 0 is 5, and on to the next region, which prints its successor; else stop
abbrev pub tested_table : Table
tested_table = record {
  regions = record { head = 0; tree = Asks 0 (Lit (pos 1)) (Does 1 (Copy 0 (Lit (pos 5))) (Next 1)) Stops_here; live = []; inside = None; heads = None }
      ∷ record { head = 1; tree = Does 0 (Bin Add 1 (Name 0) (Lit (pos 1))) (Does 1 (Print (Name 1)) Stops_here); live = 0 ∷ []; inside = None; heads = None } ∷ [];
  loops = [];
  arrays = [];
}

-- the sum stands in row 0, before the test
abbrev pub tested_code : RowCode
tested_code = record {
  limits = two_limits;
  registers = 128;
  arrays = [];
  initial = [];
  rows = Then (Bin Add 4 (Lit (pos 5)) (Lit (pos 1))) (At_leaf (Goto 1)) ∷ Either (Lit (pos 1)) (Then (Print (Name 4)) (At_leaf Stop)) (At_leaf Stop) ∷ [];
}

-- the form of the sum: the form variable of the Copy's name, and 1
abbrev pub sum_form : Form
sum_form = plus (variable_form 96) (pos 1) (constant_form (pos 1))

-- the names of the Copy, of the sum in its region, and of the sum above the test
abbrev pub tested_supply : Supply
tested_supply = with_name (with_name (with_name first_supply None) (Some sum_form)) (Some sum_form)

-- the test, behind which the sum is printed
abbrev pub tested_left : Tree
tested_left = Undecided 0 0 (Lit (pos 1)) (Pending 0 1 (Print (Name 98)) Stop_exit) Stop_exit

-- the sum has come into the front
abbrev pub tested_arranged : Window
tested_arranged = record (window_of Stop_exit tested_supply two_limits None) {
  front = Issued 0 0 (Bin Add 98 (Lit (pos 5)) (Lit (pos 1))) (Unfinished (Pending 0 0 (Copy 96 (Lit (pos 5))) tested_left));
}

abbrev pub sum_claim : Claim
sum_claim = record { row = 0; rank = 1; window = opened_window tested_table two_limits 0; facts = []; arranged = tested_arranged }

-- the whole test in the front
abbrev pub tested_claim : Claim
tested_claim = record {
  row = 1;
  rank = 0;
  window = window_of tested_left tested_supply two_limits None;
  facts = record { source = Name 4; operand = Name 98 } ∷ [];
  arranged = record (window_of Stop_exit tested_supply two_limits None) {
    front = Split 0 0 (Lit (pos 1)) (Issued 0 1 (Print (Name 98)) (Unfinished Stop_exit)) (Unfinished Stop_exit);
  };
}

abbrev pub TestedIsShown : Type 0
TestedIsShown = Shows tested_table [] tested_code (sum_claim ∷ tested_claim ∷ [])
