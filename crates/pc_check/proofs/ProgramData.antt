-- The arrays of a program without faults begin with data that they have room for.
use Rattle.std.proofs.Common.{◌≡◌, Bool, true, false, []}
use Rattle.pc_word.specs.Data.{AreData}
use Rattle.pc_syntax.specs.Source.{SourceStatement, Scope, ScalarDeclaration, ArrayDeclaration, Assignment, Printing, Evaluation, Branch, WhileLoop}
use Rattle.pc_syntax.specs.Source.{DoLoop, ForLoop, BreakOut, ContinueOn, ReturnFrom, Nothing, OptionalStatement, Absent, Present, SourceList}
use Rattle.pc_syntax.specs.Source.{No_more, More}
use Rattle.pc_check.specs.InitialData.{data_of}
use Rattle.pc_check.specs.Names.{Names, no_names, entered}
use Rattle.pc_check.specs.Faults.{array_name_faults, array_length_faults, measured_faults, statement_faults, branch_faults, list_faults}
use Rattle.pc_check.specs.Faults.{names_behind, names_behind_optional, names_behind_list}
use Rattle.pc_check.proofs.DataLaws.{data_of-fits, AreData-more}
use Rattle.pc_check.proofs.SoundLaws.{none_front, none_rest}

-- the arrays that are declared begin with data that they have room for
abbrev HasData : Names → Type 0
HasData n = AreData n.lengths n.initial

mutual
  unfolding statement_faults names_behind

  data-statement : (in_loop : Bool) (s : SourceStatement) (n : Names) → HasData n → statement_faults in_loop s n ≡ [] → HasData (names_behind s n)
  data-statement in_loop (Scope items) n has none = data-list in_loop items (entered n) has none
  data-statement in_loop (ScalarDeclaration symbol line initial) n has none = has
  data-statement in_loop (ArrayDeclaration symbol line at size values) n has none =
      AreData-more n.lengths n.initial size (data_of values) has
      (data_of-fits values size (none_rest (array_length_faults n at size) _ (none_rest (array_name_faults n symbol line) _ none)))
  data-statement in_loop (Assignment symbol line index bracket op at value) n has none = has
  data-statement in_loop (Printing line value) n has none = has
  data-statement in_loop (Evaluation line value) n has none = has
  data-statement in_loop (Branch line test body otherwise) n has none =
      let parts = none_rest (measured_faults n line test) _ none in
      data-branch in_loop otherwise (names_behind body n) (data-statement in_loop body n has (none_front _ (branch_faults in_loop otherwise (names_behind body n)) parts))
      (none_rest (statement_faults in_loop body n) _ parts)
  data-statement in_loop (WhileLoop line test body) n has none = data-statement true body n has (none_rest (measured_faults n line test) _ none)
  data-statement in_loop (DoLoop line body test) n has none =
      data-statement true body n has (none_front _ (measured_faults (names_behind body n) line test) none)
  data-statement in_loop (ForLoop line first test step body) n has none =
      let begun = names_behind_list first (entered n) in
      let rest = none_rest (list_faults in_loop first (entered n)) _ none in
      let turn = none_rest (measured_faults begun line test) _ rest in
      let started = data-list in_loop first (entered n) has (none_front (list_faults in_loop first (entered n)) _ none) in
      let stepped = data-branch in_loop step begun started (none_front _ (statement_faults true body (names_behind_optional step begun)) turn) in
      data-statement true body (names_behind_optional step begun) stepped (none_rest (branch_faults in_loop step begun) _ turn)
  data-statement in_loop (BreakOut line) n has none = has
  data-statement in_loop (ContinueOn line) n has none = has
  data-statement in_loop (ReturnFrom line value) n has none = has
  data-statement in_loop Nothing n has none = has

  data-branch : (in_loop : Bool) (x : OptionalStatement) (n : Names) → HasData n → branch_faults in_loop x n ≡ [] → HasData (names_behind_optional x n)
  data-branch in_loop Absent n has none = has
  data-branch in_loop (Present x) n has none = data-statement in_loop x n has none

  data-list : (in_loop : Bool) (x : SourceList) (n : Names) → HasData n → list_faults in_loop x n ≡ [] → HasData (names_behind_list x n)
  data-list in_loop No_more n has none = has
  data-list in_loop (More first rest) n has none =
      let middle = names_behind first n in
      data-list in_loop rest middle (data-statement in_loop first n has (none_front _ (list_faults in_loop rest middle) none))
      (none_rest (statement_faults in_loop first n) _ none)

-- a program without faults
pub program-data : (items : SourceList) → list_faults false items no_names ≡ [] → HasData (names_behind_list items no_names)
program-data items none = data-list false items no_names tt none
