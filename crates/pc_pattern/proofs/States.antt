-- The first member of a search, and the state of a member, as the code makes them.
use Rattle.std.proofs.Common.{◌≡◌, ℕ, ◌+◌, ◌≤◌, ◌<◌, ◌^◌, [], length, sym, ◌∙◌, ap, subst, arith}
use Rattle.std.specs.Prelude.{Result, Err, IfErr}
use Rattle.pc_word.specs.declared.item.Limits.{Limits}
use Rattle.pc_word.specs.MachineLimits.{most_rows}
use Rattle.pc_word.specs.Ranges.{AreLimits}
use Rattle.pc_word.specs.Row.{Row}
use Rattle.pc_table.specs.declared.table.RegionTable.{RegionTable}
use Rattle.pc_table.specs.Table.{Table}
use Rattle.pc_table.specs.StoredTable.{table_of}
use Rattle.pc_table.specs.TableKeeps.{most_region_nodes}
use Rattle.pc_window.specs.declared.window.Window.{Window as StoredWindow}
use Rattle.pc_window.specs.Tree.{Tree, whole, tree_size}
use Rattle.pc_window.specs.Names.{uses, parameters_of}
use Rattle.pc_window.specs.Unwinding.{most_unwound}
use Rattle.pc_window.specs.WindowRun.{Window}
use Rattle.pc_window.specs.Kept.{Left}
use Rattle.pc_window.specs.Steps.{EachLeft, FillsTo, Cuts, UnwindsTo, Tidies, IsProper, opened_window}
use Rattle.pc_window.specs.StoredWindow.{tree_in, window_in, IsJustOpened}
use Rattle.pc_table.proofs.StoredRegions.{as_many}
use Rattle.pc_window.proofs.WindowsStored.{whole_in, in_nodes_behind}
use Rattle.pc_window.proofs.Filling.{filling_limits}
use Rattle.pc_fill.specs.Fillable.{IsFillable, FilledFrom}
use Rattle.pc_unwind.specs.Unwindable.{CanUnwind}
use Rattle.pc_shifts.specs.Alike.{HasNormalForms}
use Rattle.pc_shifts.proofs.NormalForms.{filling_normal, cutting_normal, opened_normal}
use Rattle.pc_unwind.proofs.Opened.{opened_unwinds}
use Rattle.pc_automaton.specs.Automaton.{AutomatonState}
use Rattle.pc_pattern.specs.declared.error.SearchError.{SearchError}
use Rattle.pc_pattern.specs.declared.error.SearchError.TheVariants.{Memory}
use Rattle.pc_pattern.specs.declared.leading.Bounds.{Bounds}
use Rattle.pc_pattern.specs.Searches.{Rules}
use Rattle.pc_pattern.specs.models.Pools.{Pool, CanBringOn, IsSmall, IsSettled}
use Rattle.pc_pattern.specs.models.Leading.{rules_within, RowLeads, RowRefused, Made, Unmade, unmade_memory, unmade_row, most_in_front, IsFirst}
use Rattle.pc_pattern.proofs.Sizes.{IsRest, can_bring_on, each_and, cut_rests}
use Rattle.pc_pattern.proofs.Steps.{names_there}

-- ---- the first member

pub opened_can : (table : RegionTable) (limits : Limits) (region : ℕ) (w : StoredWindow) → region < length table.regions
    → window_in w ≡ opened_window (table_of table) limits region → CanUnwind (table_of table) (window_in w)
opened_can table limits region w there is =
    let many = as_many table.regions in
    subst (CanUnwind (table_of table)) (sym is) (opened_unwinds (table_of table) table.kept limits region (omega (arith, there, many)))

-- its forms are in normal form
pub opened_forms : (table : Table) (limits : Limits) (region : ℕ) (w : StoredWindow) → window_in w ≡ opened_window table limits region
    → HasNormalForms (window_in w)
opened_forms table limits region w is = opened_normal table limits region (window_in w) is

-- a window that was just opened is not too large
pub opened_size : (w : StoredWindow) → IsJustOpened w → tree_size (whole (window_in w).front) ≤ most_unwound
opened_size w just =
    let size = just.size in
    let same = ap (λ (t : Tree). tree_size t) (whole_in w.tree) in
    omega (arith, size, same)

-- it has few form variables
pub opened_variables : (w : StoredWindow) → IsJustOpened w → w.names.next_variable ≤ 2 ^ 30
opened_variables w just = let few = just.variables in omega (arith, few)

pub first_of : (table : Table) (bounds : Bounds) (region : ℕ) (opened : StoredWindow) (unwound first : Window)
    → window_in opened ≡ opened_window table bounds.limits region → IsJustOpened opened → UnwindsTo table bounds.extent.window (window_in opened) unwound
    → Tidies unwound first → IsFirst (rules_within table bounds) region first
first_of table bounds region opened unwound first is just unwinds tidies = record {
  settles = record {
    unwound = unwound;
    unwinds = subst (λ (w : Window). UnwindsTo table bounds.extent.window w unwound) is unwinds;
    tidies = tidies;
  };
  size = subst (λ (w : Window). tree_size (whole w.front) ≤ most_region_nodes) is
      (subst (λ (t : Tree). tree_size t ≤ most_region_nodes) (sym (whole_in opened.tree)) just.size);
  names = subst (λ (w : Window). w.next ≤ 96 + most_region_nodes) is just.names;
}

-- ---- states

-- a window that waits can be filled
pub fillable_of : (table : Table) (w : StoredWindow) → IsSettled w → IsSmall table most_rows (window_in w) → IsFillable w
fillable_of table w settled small =
    let variables = settled.variables in
    let size = small.size in
    let names = small.names in
    let same = ap (λ (t : Tree). tree_size t) (whole_in w.tree) in
    record {
      size = omega (arith, size, same);
      nodes = in_nodes_behind w.tree settled.nodes;
      names = omega (arith, names);
      variables = omega (arith, variables);
    }

-- filling gives no more names than a front may have items and tests
pub filled_grown : (w filled : StoredWindow) → FillsTo (window_in w) (window_in filled) → FilledFrom w filled → IsProper (window_in filled) → AreLimits w.limits
    → length filled.names.forms ≤ length w.names.forms + most_in_front
filled_grown w filled fills from proper limits =
    let grown = from.names in
    let within = proper.window.within in
    let items = within.items in
    let tests = within.tests in
    let same : filled.limits ≡ w.limits = filling_limits (uses (whole (window_in w).front)) (window_in w) (window_in filled) fills in
    let ops = ap (λ (l : Limits). l.ops) same in
    let most_tests_same = ap (λ (l : Limits). l.tests) same in
    let most_o = limits.ops.1 in
    let most_t = limits.tests.1 in
    omega (arith, grown, items, tests, ops, most_tests_same, most_o, most_t)

-- what is left of it may be brought on
pub rests_able : (table : Table) (w filled : StoredWindow) (cut : Row Left) → FillsTo (window_in w) (window_in filled) → FilledFrom w filled
    → IsProper (window_in filled) → AreLimits w.limits → Cuts table (window_in filled) cut → IsSettled w → IsSmall table most_rows (window_in w)
    → EachLeft IsProper cut → EachLeft (CanBringOn table) cut
rests_able table w filled cut fills from proper limits cuts settled small each =
    let normal = filling_normal (uses (whole (window_in w).front)) (window_in w) (window_in filled) fills settled.normal in
    each_and (λ v. IsProper v × HasNormalForms v) (IsRest table most_rows) (CanBringOn table)
    (λ v p rest. can_bring_on table most_rows v (omega arith) p.0 p.1 rest) cut
    (each_and IsProper HasNormalForms (λ v. IsProper v × HasNormalForms v) (λ v p n. (p, n)) cut each (cutting_normal table (window_in filled) cut cuts normal))
    (cut_rests table most_rows (window_in w) (window_in filled) cut fills cuts small (filled_grown w filled fills from proper limits))

-- a window's state, by its parts, and what holds of the window that it was filled to
pub made_of : (rules : Rules) (w filled : StoredWindow) (pool after : Pool) (cut : Row Left) (state : AutomatonState) (next later : ℕ) (P : Window → Type 0)
    → state.parameters ≡ parameters_of (tree_in w.tree) → FillsTo (window_in w) (window_in filled) → FilledFrom w filled
    → IsProper (window_in filled) → AreLimits w.limits → Cuts rules.table (window_in filled) cut → next ≡ length filled.names.forms
    → RowLeads rules [] next pool cut state.row later after → P (window_in filled) → (made : Made rules (window_in w) pool state after) × P made.filled
made_of rules w filled pool after cut state next later P parameters fills from proper limits cuts first row taken = (
  record {
    parameters = parameters ∙ ap (λ (t : Tree). parameters_of t) (sym (whole_in w.tree));
    filled = window_in filled;
    fills = fills;
    grown = filled_grown w filled fills from proper limits;
    cut = cut;
    cuts = cuts;
    later = later;
    row = subst (λ (n : ℕ). RowLeads rules [] n pool cut state.row later after) first row;
  },
  taken,
)

pub no_memory : (rules : Rules) (rows : ℕ) (w : Window) (pool : Pool) (error : SearchError) → error ≡ Memory → Unmade rules rows w pool error
no_memory rules rows w pool error is = subst (Unmade rules rows w pool) (sym is) unmade_memory

pub unmade_of : (rules : Rules) (rows : ℕ) (w filled : Window) (pool : Pool) (cut : Row Left) (error : SearchError) → FillsTo w filled
    → Cuts rules.table filled cut → RowRefused rules rows pool cut error → Unmade rules rows w pool error
unmade_of rules rows w filled pool cut error fills cuts refused = unmade_row fills cuts refused

-- and so where the refusal is handed on
pub refused_on : {T : Type 0} (rules : Rules) (rows : ℕ) (w filled : Window) (pool : Pool) (cut : Row Left) (result : Result T SearchError) (error : SearchError)
    → result ≡ Err error → FillsTo w filled → Cuts rules.table filled cut → RowRefused rules rows pool cut error
    → IfErr result (λ e. Unmade rules rows w pool e)
refused_on {T} rules rows w filled pool cut result error is fills cuts refused =
    subst (λ (r : Result T SearchError). IfErr r (λ e. Unmade rules rows w pool e)) (sym is)
    (unmade_of rules rows w filled pool cut error fills cuts refused)

pub ruleset states = (names_there, fillable_of, rests_able, no_memory, unmade_of)
