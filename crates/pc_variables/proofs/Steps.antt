-- One step more of each loop.
use Rattle.std.proofs.Common.{◌≡◌, refl, sym, ap, ◌∙◌, subst, ℕ, zero, suc, ◌+◌, ◌<◌, List, [], ◌∷◌, ◌++◌, length, drop, get_or, map, arith}
use Rattle.std.specs.Prelude.{Option, Some, None, slice_get}
use Rattle.std.proofs.Math.Seq.{drop-cons}
use Rattle.pc_word.specs.declared.item.Operand.{Operand}
use Rattle.pc_flow.specs.FlowGraph.{FlowGraph}
use Rattle.pc_automaton.specs.Automaton.{AutomatonState}
use Rattle.pc_told.specs.declared.told_row.ToldRow.{ToldRow}
use Rattle.pc_told.specs.Tellings.{telling_in, tellings_in}
use Rattle.pc_variables.specs.declared.holding.Holding.{Holding}
use Rattle.pc_variables.specs.Holdings.{with_name, scalar_behind, with_passed, arguments_to, entered_by, entered, holdings_of, and_state, and_states}

-- ---- arguments

no_arguments : (passing : List Holding) (parameters : List ℕ) (holdings : List Holding) → with_passed passing parameters [] holdings ≡ holdings
no_arguments passing [] holdings = refl
no_arguments passing (parameter ∷ parameters) holdings = refl

-- one parameter more
pub passed_one : (passing : List Holding) (parameters : List ℕ) (arguments : List Operand) (i : ℕ) (holdings : List Holding) → i < length parameters
    → with_passed passing (drop i parameters) (drop i arguments) holdings
    ≡ with_passed passing (drop (i + 1) parameters) (drop (i + 1) arguments) (with_name holdings (Some (get_or parameters i 0)) (scalar_behind passing (slice_get arguments i)))
passed_one passing [] arguments i holdings below = absurd (omega arith)
passed_one passing (first ∷ parameters) [] zero holdings below = sym (no_arguments passing parameters holdings)
passed_one passing (first ∷ parameters) (argument ∷ arguments) zero holdings below = refl
passed_one passing (first ∷ parameters) [] (suc i) holdings below =
    let more : suc i + 1 ≡ suc (i + 1) = omega arith in
    no_arguments passing (drop i parameters) holdings ∙ sym (no_arguments passing (drop (i + 1) parameters) holdings)
    ∙ ap (λ (k : ℕ). with_passed passing (drop k (first ∷ parameters)) (drop k []) holdings) (sym more)
passed_one passing (first ∷ parameters) (argument ∷ arguments) (suc i) holdings below =
    let more : suc i + 1 ≡ suc (i + 1) = omega arith in
    passed_one passing parameters arguments i holdings (omega arith)
    ∙ ap (λ (k : ℕ). with_passed passing (drop k (first ∷ parameters)) (drop k (argument ∷ arguments))
    (with_name holdings (Some (get_or parameters i 0)) (scalar_behind passing (slice_get arguments i)))) (sym more)

-- ---- the state that leads there

-- one state more
pub entered_one : (earlier : List (List Holding)) (states : List AutomatonState) (i number : ℕ) (parameters : List ℕ) (holdings passing : List Holding) (state : AutomatonState)
    → i < length earlier → passing ≡ get_or earlier i passing → slice_get states i ≡ Some state
    → entered (drop i earlier) (drop i states) number parameters holdings
    ≡ entered_by passing (arguments_to number state.row) parameters holdings (entered (drop (i + 1) earlier) (drop (i + 1) states) number parameters holdings)
entered_one [] states i number parameters holdings passing state below is there = absurd (omega arith)
entered_one (first ∷ earlier) [] i number parameters holdings passing state below is there = absurd (cc)
entered_one (first ∷ earlier) (other ∷ states) zero number parameters holdings passing state below is there =
    let same : other ≡ state = cc in
    λ j. entered_by (sym is j) (arguments_to number (same j).row) parameters holdings (entered earlier states number parameters holdings)
entered_one (first ∷ earlier) (other ∷ states) (suc i) number parameters holdings passing state below is there =
    let more : suc i + 1 ≡ suc (i + 1) = omega arith in
    entered_one earlier states i number parameters holdings passing state (omega arith) is there
    ∙ ap (λ (k : ℕ). entered_by passing (arguments_to number state.row) parameters holdings
    (entered (drop k (first ∷ earlier)) (drop k (other ∷ states)) number parameters holdings)) (sym more)

-- ---- states

-- one state more of which it is told
pub state_one : (flow : FlowGraph) (states : List AutomatonState) (rows : List ToldRow) (i : ℕ) (row : ToldRow) (variables : List (List Holding)) (state : AutomatonState)
    → i < length rows → row ≡ get_or rows i row → length variables ≡ i → slice_get states i ≡ Some state
    → and_states flow states (tellings_in (drop i rows)) variables
    ≡ and_states flow states (tellings_in (drop (i + 1) rows)) (variables ++ holdings_of flow states variables state (telling_in row) ∷ [])
state_one flow states rows i row variables state below is size there =
    let more : suc i ≡ i + 1 = omega arith in
    let next : drop i rows ≡ row ∷ drop (i + 1) rows = drop-cons rows i row below ∙ (λ j. sym is j ∷ drop (more j) rows) in
    ap (λ (l : List ToldRow). and_states flow states (tellings_in l) variables) next
    ∙ ap (λ (o : Option AutomatonState). and_states flow states (tellings_in (drop (i + 1) rows)) (and_state flow states variables o (telling_in row)))
    (ap (slice_get states) size ∙ there)
