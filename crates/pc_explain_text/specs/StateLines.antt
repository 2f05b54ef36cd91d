-- States as lines: the row of each as the tree that it is, and what waits.
use Rattle.std.specs.Prelude.{ℕ, List, [], ◌∷◌, ◌++◌, codes, map, slice_get}
use Rattle.pc_word.specs.declared.item.Limits.{Limits}
use Rattle.pc_word.specs.Row.{Row, Then, Either, At_leaf}
use Rattle.pc_automaton.specs.declared.automaton.AutomatonLeaf.{AutomatonLeaf}
use Rattle.pc_told.specs.Tellings.{Telling, Tells_item, Tells_test, Tells_leaf}
use Rattle.pc_waiting.specs.declared.obstacle.Waiting.{Waiting}
use Rattle.pc_explain.specs.Legends.{SourceLegend}
use Rattle.pc_explain.specs.Naming.{Naming}
use Rattle.pc_explain.specs.Words.{item_words, test_words, place_words, leaf_words}
use Rattle.pc_explain.specs.Waits.{kind_words, obstacle_words}
use Rattle.pc_explain.specs.Heading.{heading}
use Rattle.pc_explain.specs.EachState.{StateExplanation}

-- ---- a row

-- The lines of a row with what is told of it, which has the same shape; `first` stands in front of the first, `below` in front of the
-- others. Under a test its yes side comes first: `yes` and `no` begin the sides, and a bar goes down from `yes`. `header` is the region
-- that heads the loop.
abbrev pub tree_lines : (header : ℕ) → Naming → (first below : List ℕ) → Row AutomatonLeaf → Telling → List (List ℕ)
tree_lines header naming first below (Then item rest) (Tells_item iteration origin what next) =
    (first ++ (place_words iteration (slice_get naming.legend.lines origin) ++ (codes ": " ++ item_words naming item)))
    ∷ tree_lines header naming below below rest next
tree_lines header naming first below (Either on on_yes on_no) (Tells_test iteration origin what one other) =
    (first ++ (place_words iteration (slice_get naming.legend.lines origin) ++ (codes ": " ++ test_words naming on)))
    ∷ (tree_lines header naming (below ++ codes "yes ") (below ++ codes "|   ") on_yes one
    ++ tree_lines header naming (below ++ codes "no  ") (below ++ codes "    ") on_no other)
tree_lines header naming first below (At_leaf leaf) (Tells_leaf advance) = (first ++ leaf_words header naming leaf advance) ∷ []
tree_lines header naming first below _ _ = []

-- ---- what waits

-- what stands in front of it
unfoldable pub waiting_front : List ℕ
waiting_front = codes "        waits: "

-- where it comes from, what it is, and why it waits
abbrev pub waiting_words : SourceLegend → Waiting → List ℕ
waiting_words legend it =
    waiting_front ++ (place_words it.iteration (slice_get legend.lines it.origin)
    ++ (codes ", " ++ (kind_words legend it.what ++ (codes ": " ++ obstacle_words legend.lines it.obstacle))))

-- ---- a state

-- how the names of a state are written
abbrev pub naming_of : SourceLegend → StateExplanation → Naming
naming_of legend it = record { legend = legend; holdings = it.holdings }

-- the lines of a state by its number: its heading, its row after eight blanks, and what waits
abbrev pub state_lines : Limits → SourceLegend → (header number : ℕ) → StateExplanation → List (List ℕ)
state_lines limits legend header number it =
    heading limits (naming_of legend it) number it.state
    ∷ (tree_lines header (naming_of legend it) (codes "        ") (codes "        ") it.state.row it.telling ++ map (waiting_words legend) it.waits)
