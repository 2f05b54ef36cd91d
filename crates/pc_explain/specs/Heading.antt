-- What stands above the row of a state.
use Rattle.std.specs.Prelude.{ℕ, List, ◌++◌, codes, length}
use Rattle.std.specs.List.{count_by}
use Rattle.std.specs.Fmt.{decimal}
use Rattle.pc_word.specs.declared.item.Limits.{Limits}
use Rattle.pc_word.specs.Items.{is_memory}
use Rattle.pc_word.specs.Row.{Row, items_of, tests_of}
use Rattle.pc_automaton.specs.declared.automaton.AutomatonLeaf.{AutomatonLeaf}
use Rattle.pc_automaton.specs.Automaton.{AutomatonState}
use Rattle.pc_explain.specs.Naming.{Naming}
use Rattle.pc_explain.specs.Words.{parameters_from}

-- the number of a state, and how many items, tests, and loads and stores its row has of how many it may have
unfoldable pub count_words : Limits → ℕ → Row AutomatonLeaf → List ℕ
count_words limits number row =
    codes "    state " ++ (decimal number ++ (codes ": " ++ (decimal (length (items_of row)) ++ (codes " of " ++ (decimal limits.ops ++ (codes " items, "
    ++ (decimal (length (tests_of row)) ++ (codes " of " ++ (decimal limits.tests ++ (codes " tests, "
    ++ (decimal (count_by is_memory (items_of row)) ++ (codes " of " ++ (decimal limits.mem ++ codes " loads and stores")))))))))))))

-- that, and the parameters that it takes
abbrev pub heading : Limits → Naming → ℕ → AutomatonState → List ℕ
heading limits naming number state = count_words limits number state.row ++ (codes "; takes" ++ parameters_from naming 0 state.parameters)
