-- What holds of each leaf of a row, part by part.
use Rattle.pc_word.specs.Row.{Row, Then, Either, At_leaf}
use Rattle.pc_automaton.specs.declared.automaton.AutomatonLeaf.{AutomatonLeaf}

-- this holds of each leaf of a row
abbrev pub LeavesKeep : (AutomatonLeaf → Type 0) → Row AutomatonLeaf → Type 0
LeavesKeep Keeps (Then item rest) = LeavesKeep Keeps rest
LeavesKeep Keeps (Either on on_yes on_no) = LeavesKeep Keeps on_yes × LeavesKeep Keeps on_no
LeavesKeep Keeps (At_leaf leaf) = Keeps leaf
