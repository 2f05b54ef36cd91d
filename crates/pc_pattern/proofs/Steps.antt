-- The steps of a search, as the code takes them.
use Rattle.std.proofs.Common.{◌≡◌, ℕ, suc, ◌+◌, ◌≤◌, ◌<◌, ◌^◌, List, ◌∷◌, length, sym, ◌∙◌, ap, subst, arith}
use Rattle.std.specs.Prelude.{true, Option, Some, None}
use Rattle.pc_word.specs.declared.item.Item.{Item}
use Rattle.pc_word.specs.declared.item.Operand.{Operand}
use Rattle.pc_word.specs.Items.{dest_of}
use Rattle.pc_word.specs.Row.{Row, Then, Either, At_leaf}
use Rattle.pc_table.specs.Table.{Table}
use Rattle.pc_window.specs.declared.window.Window.{Window as StoredWindow}
use Rattle.pc_window.specs.Tree.{Tree, whole, tree_size}
use Rattle.pc_window.specs.Names.{parameters_of}
use Rattle.pc_window.specs.Opening.{TreeBelow}
use Rattle.pc_window.specs.Unwinding.{most_unwound}
use Rattle.pc_window.specs.WindowRun.{Window}
use Rattle.pc_window.specs.Kept.{Left, Rest}
use Rattle.pc_window.specs.Steps.{Rebases, UnwindsTo, Tidies, IsProper}
use Rattle.pc_window.specs.StoredWindow.{tree_in, window_in, InNodes}
use Rattle.pc_window.proofs.WindowsStored.{whole_in}
use Rattle.pc_unwind.specs.Unwindable.{HasGrown}
use Rattle.pc_canon.specs.Pairs.{Pair}
use Rattle.pc_shifts.specs.Alike.{HasNormalForms}
use Rattle.pc_shifts.proofs.NormalForms.{rebasing_normal, unwinding_normal, tidying_normal}
use Rattle.pc_automaton.specs.declared.automaton.AutomatonLeaf.{AutomatonLeaf}
use Rattle.pc_automaton.specs.declared.automaton.AutomatonLeaf.TheVariants.{To}
use Rattle.pc_pattern.specs.declared.error.SearchError.{SearchError}
use Rattle.pc_pattern.specs.declared.error.SearchError.TheVariants.{Memory}
use Rattle.pc_pattern.specs.declared.leading.Bounds.{Bounds}
use Rattle.pc_pattern.specs.Searches.{Rules, Settles, bare_leaf}
use Rattle.pc_pattern.specs.models.Renaming.{renamed_bare, arguments_for}
use Rattle.pc_pattern.specs.models.Pools.{Pool, IsNumbered, CanBringOn, IsRebased, IsSettled}
use Rattle.pc_pattern.specs.models.Seen.{RebasedLeads, RebasedRefused, rebased_memory, rebased_many}
use Rattle.pc_pattern.specs.models.Leading.{rules_within, WindowLeads, leads_member, leads_bare, LeftLeads, leads_rest, leads_region, leads_end, leads_trap}
use Rattle.pc_pattern.specs.models.Leading.{RowLeads, leads_plain, leads_written, leads_test, leads_leaf}
use Rattle.pc_pattern.specs.models.Leading.{WindowRefused, LeftRefused, refused_here, refused_rest}
use Rattle.pc_pattern.specs.models.Leading.{RowRefused, refused_row, refused_below, refused_yes, refused_no, refused_leaf}
use Rattle.pc_pattern.proofs.LedRows.{none_bare}
use Rattle.pc_pattern.proofs.Placed.{member_out}
use Rattle.pc_pattern.proofs.SeenWindows.{keeps_numbered, keeps_met}
use Rattle.pc_pattern.proofs.Sizes.{can_unwind, rebased_same}
use Rattle.pc_word.specs.Naming.{with_dest}

-- ---- windows that are brought on

-- a window that was unwound is not too large
pub unwound_size : (table : Table) (number : ℕ) (w unwound later : StoredWindow) → tree_size (whole (window_in w).front) ≤ most_unwound
    → HasGrown table number (window_in w) (window_in unwound) → tree_size (tree_in later.tree) ≤ tree_size (tree_in unwound.tree)
    → tree_size (tree_in later.tree) ≤ most_unwound
unwound_size table number w unwound later size grown smaller =
    let larger = grown.size in
    let same = ap (λ (t : Tree). tree_size t) (whole_in unwound.tree) in
    omega (arith, size, larger, same, smaller)

-- it has few names
pub unwound_names : (table : Table) (number : ℕ) (w unwound later : StoredWindow) → tree_size (whole (window_in w).front) ≤ most_unwound
    → length w.names.forms ≤ 2 ^ 30 → HasGrown table number (window_in w) (window_in unwound) → Tidies (window_in unwound) (window_in later)
    → length later.names.forms < 2 ^ 31
unwound_names table number w unwound later size names grown tidies =
    let larger = grown.size in
    let more = grown.names in
    let same : length later.names.forms ≡ length unwound.names.forms = ap (λ (u : Window). u.next) tidies in
    omega (arith, size, larger, more, same, names)

-- and few form variables
pub unwound_settled : (table : Table) (number : ℕ) (w unwound later : StoredWindow) → tree_size (whole (window_in w).front) ≤ most_unwound
    → w.names.next_variable ≤ 2 ^ 30 → HasGrown table number (window_in w) (window_in unwound) → UnwindsTo table number (window_in w) (window_in unwound)
    → Tidies (window_in unwound) (window_in later) → HasNormalForms (window_in w) → InNodes true later.tree → IsSettled later
unwound_settled table number w unwound later size variables grown unwinds tidies normal nodes =
    let unwound_normal = unwinding_normal table number (window_in w) (window_in unwound) unwinds normal in
    let larger = grown.size in
    let more = grown.variables in
    let same : later.names.next_variable ≡ unwound.names.next_variable = ap (λ (u : Window). u.next_variable) tidies in
    record {
      normal = tidying_normal (window_in unwound) (window_in later) tidies unwound_normal;
      nodes = nodes;
      variables = omega (arith, size, larger, more, same, variables);
    }

-- a window that was rebased is as large as before
pub rebased_size : (table : Table) (w v : Window) → CanBringOn table w → Rebases w v → tree_size (whole v.front) ≤ most_unwound
rebased_size table w v can rebases =
    subst (λ (t : Tree). tree_size t ≤ most_unwound) (sym (rebased_same w v rebases can.proper).0) can.size

-- it is rebased
pub is_rebased : (table : Table) (w v : StoredWindow) → CanBringOn table (window_in w) → Rebases (window_in w) (window_in v) → InNodes true v.tree
    → length v.names.forms ≡ length w.names.forms → v.names.next_variable ≤ 2 ^ 30 → IsProper (window_in v) → IsRebased table v
is_rebased table w v can rebases nodes same variables proper = record {
  proper = proper;
  normal = rebasing_normal (window_in w) (window_in v) rebases can.normal;
  nodes = nodes;
  able = can_unwind table (window_in w) (window_in v) can rebases variables;
  size = subst (λ (t : Tree). tree_size t ≤ most_unwound) (whole_in v.tree) (rebased_size table (window_in w) (window_in v) can rebases);
  names = let names = can.names in omega (arith, same, names);
  variables = variables;
}

pub whole_size : (w : StoredWindow) → tree_size (tree_in w.tree) ≤ most_unwound → tree_size (whole (window_in w).front) ≤ most_unwound
whole_size w size = subst (λ (t : Tree). tree_size t ≤ most_unwound) (sym (whole_in w.tree)) size

pub settles_of : (table : Table) (bounds : Bounds) (w unwound later : Window) → UnwindsTo table bounds.extent.window w unwound → Tidies unwound later
    → Settles (rules_within table bounds) w later
settles_of table bounds w unwound later unwinds tidies = record { unwound = unwound; unwinds = unwinds; tidies = tidies }

pub ruleset steps = (is_rebased, settles_of, whole_size, unwound_size, unwound_names, unwound_settled)

-- ---- leaves

-- the names of a proper window are listed
pub names_there : (w : StoredWindow) (n : ℕ) → IsProper (window_in w) → n ≡ length w.names.forms → TreeBelow n (tree_in w.tree)
names_there w n proper is =
    subst (λ (m : ℕ). TreeBelow m (tree_in w.tree)) (sym is)
    (subst (λ (t : Tree). TreeBelow (length w.names.forms) t) (whole_in w.tree) proper.names_below)

renamed_whole : (written : List Pair) (w : StoredWindow) (leaf : Option AutomatonLeaf) → leaf ≡ renamed_bare written (bare_leaf (tree_in w.tree))
    → renamed_bare written (bare_leaf (whole (window_in w).front)) ≡ leaf
renamed_whole written w leaf is = ap (λ (t : Tree). renamed_bare written (bare_leaf t)) (whole_in w.tree) ∙ sym is

pub left_to_do : (written : List Pair) (w : StoredWindow) → None ≡ renamed_bare written (bare_leaf (tree_in w.tree))
    → bare_leaf (whole (window_in w).front) ≡ None
left_to_do written w none = none_bare written (bare_leaf (whole (window_in w).front)) (renamed_whole written w None none)

pub window_member : (written : List Pair) (pool later : Pool) (w : StoredWindow) (number : ℕ) (parameters : List ℕ) (arguments : List Operand)
    → None ≡ renamed_bare written (bare_leaf (tree_in w.tree)) → IsNumbered pool (window_in w) number later
    → parameters ≡ parameters_of (whole (window_in w).front) → arguments ≡ arguments_for written parameters
    → WindowLeads written pool (window_in w) (To number arguments) later
window_member written pool later w number parameters arguments none numbered are given =
    subst (λ (l : List Operand). WindowLeads written pool (window_in w) (To number l) later)
    (sym (given ∙ ap (arguments_for written) are)) (leads_member (renamed_whole written w None none) numbered)

pub window_bare : (written : List Pair) (pool : Pool) (w : StoredWindow) (leaf : AutomatonLeaf)
    → Some leaf ≡ renamed_bare written (bare_leaf (tree_in w.tree)) → WindowLeads written pool (window_in w) leaf pool
window_bare written pool w leaf some = leads_bare (renamed_whole written w (Some leaf) some)

pub left_memory : (rules : Rules) (rows : ℕ) (pool : Pool) (left : Left) (error : SearchError) → error ≡ Memory → LeftRefused rules rows pool left error
left_memory rules rows pool left error is = subst (LeftRefused rules rows pool left) (sym is) refused_here

pub left_rest : (rules : Rules) (written : List Pair) (pool later : Pool) (rest rebased : Window) (leaf : AutomatonLeaf) → Rebases rest rebased
    → RebasedLeads rules written pool rebased leaf later → LeftLeads rules written pool (Rest rest) leaf later
left_rest rules written pool later rest rebased leaf rebases leads =
    leads_rest (record { rebased = rebased; rebases = rebases; settles = leads.settles }) leads.leads

pub left_refused : (rules : Rules) (rows : ℕ) (pool : Pool) (rest rebased : Window) (error : SearchError) → Rebases rest rebased
    → RebasedRefused rules rows pool rebased error → LeftRefused rules rows pool (Rest rest) error
left_refused rules rows pool rest rebased error rebases rebased_memory = refused_here
left_refused rules rows pool rest rebased error rebases (rebased_many settles refused) =
    refused_rest (record { rebased = rebased; rebases = rebases; settles = settles }) refused

-- ---- rebased windows

pub rebased_leads : (rules : Rules) (written : List Pair) (pool later : Pool) (w brought : Window) (leaf : AutomatonLeaf) → Settles rules w brought
    → WindowLeads written pool brought leaf later → RebasedLeads rules written pool w leaf later
rebased_leads rules written pool later w brought leaf settles leads = record { brought = brought; settles = settles; leads = leads }

pub rebased_refused : (rules : Rules) (rows : ℕ) (pool : Pool) (w brought : Window) (error : SearchError) → Settles rules w brought
    → WindowRefused rows pool brought error → RebasedRefused rules rows pool w error
rebased_refused rules rows pool w brought error settles refused = rebased_many settles refused

pub rebased_out : (rules : Rules) (rows : ℕ) (pool : Pool) (w : Window) (error : SearchError) → error ≡ Memory → RebasedRefused rules rows pool w error
rebased_out rules rows pool w error is = subst (RebasedRefused rules rows pool w) (sym is) rebased_memory

pub ruleset leaves = (
  names_there,
  left_to_do,
  window_member,
  window_bare,
  member_out,
  left_memory,
  left_rest,
  left_refused,
  leads_region,
  leads_end,
  leads_trap,
  keeps_numbered,
  keeps_met,
  rebased_leads,
  rebased_refused,
  rebased_out,
)

-- ---- rows

next_is : (next : ℕ) → next + 1 ≡ suc next
next_is next = omega arith

pub row_plain : (rules : Rules) (written : List Pair) (next later : ℕ) (pool after : Pool) (item : Item) (row rest : Row Left) (other below : Row AutomatonLeaf)
    → row ≡ Then item rest → other ≡ Then (with_dest next item) below → None ≡ dest_of item → RowLeads rules written (next + 1) pool rest below later after
    → RowLeads rules written next pool row other later after
row_plain rules written next later pool after item row rest other below is are none leads =
    let more = subst (λ (n : ℕ). RowLeads rules written n pool rest below later after) (next_is next) leads in
    subst (λ (r : Row Left). RowLeads rules written next pool r other later after) (sym is)
    (subst (λ (r : Row AutomatonLeaf). RowLeads rules written next pool (Then item rest) r later after) (sym are) (leads_plain (sym none) more))

pub row_written : (rules : Rules) (written : List Pair) (next later one : ℕ) (pool after : Pool) (item : Item) (row rest : Row Left)
    (other below : Row AutomatonLeaf)
    → row ≡ Then item rest → other ≡ Then (with_dest next item) below → Some one ≡ dest_of item
    → RowLeads rules (record { one = one; other = next } ∷ written) (next + 1) pool rest below later after
    → RowLeads rules written next pool row other later after
row_written rules written next later one pool after item row rest other below is are some leads =
    let more = subst (λ (n : ℕ). RowLeads rules (record { one = one; other = next } ∷ written) n pool rest below later after) (next_is next) leads in
    subst (λ (r : Row Left). RowLeads rules written next pool r other later after) (sym is)
    (subst (λ (r : Row AutomatonLeaf). RowLeads rules written next pool (Then item rest) r later after) (sym are) (leads_written (sym some) more))

pub row_test : (rules : Rules) (written : List Pair) (next mid later : ℕ) (pool middle after : Pool) (on : Operand) (row on_yes on_no : Row Left)
    (other yes_row no_row : Row AutomatonLeaf)
    → row ≡ Either on on_yes on_no → other ≡ Either on yes_row no_row → RowLeads rules written next pool on_yes yes_row mid middle
    → RowLeads rules written mid middle on_no no_row later after → RowLeads rules written next pool row other later after
row_test rules written next mid later pool middle after on row on_yes on_no other yes_row no_row is are one two =
    subst (λ (r : Row Left). RowLeads rules written next pool r other later after) (sym is)
    (subst (λ (r : Row AutomatonLeaf). RowLeads rules written next pool (Either on on_yes on_no) r later after) (sym are) (leads_test one two))

pub row_leaf : (rules : Rules) (written : List Pair) (next : ℕ) (pool after : Pool) (row : Row Left) (left : Left) (leaf : AutomatonLeaf)
    → row ≡ At_leaf left → LeftLeads rules written pool left leaf after → RowLeads rules written next pool row (At_leaf leaf) next after
row_leaf rules written next pool after row left leaf is leads =
    subst (λ (r : Row Left). RowLeads rules written next pool r (At_leaf leaf) next after) (sym is) (leads_leaf leads)

pub row_memory : (rules : Rules) (rows : ℕ) (pool : Pool) (row : Row Left) (error : SearchError) → error ≡ Memory → RowRefused rules rows pool row error
row_memory rules rows pool row error is = subst (RowRefused rules rows pool row) (sym is) refused_row

pub row_below : (rules : Rules) (rows : ℕ) (pool : Pool) (item : Item) (row rest : Row Left) (error : SearchError) → row ≡ Then item rest
    → RowRefused rules rows pool rest error → RowRefused rules rows pool row error
row_below rules rows pool item row rest error is refused =
    subst (λ (r : Row Left). RowRefused rules rows pool r error) (sym is) (refused_below refused)

pub row_yes : (rules : Rules) (rows : ℕ) (pool : Pool) (on : Operand) (row on_yes on_no : Row Left) (error : SearchError) → row ≡ Either on on_yes on_no
    → RowRefused rules rows pool on_yes error → RowRefused rules rows pool row error
row_yes rules rows pool on row on_yes on_no error is refused =
    subst (λ (r : Row Left). RowRefused rules rows pool r error) (sym is) (refused_yes refused)

pub row_no : (rules : Rules) (written : List Pair) (rows next mid : ℕ) (pool middle : Pool) (on : Operand) (row on_yes on_no : Row Left)
    (yes_row : Row AutomatonLeaf) (error : SearchError)
    → row ≡ Either on on_yes on_no → RowLeads rules written next pool on_yes yes_row mid middle → RowRefused rules rows middle on_no error
    → RowRefused rules rows pool row error
row_no rules written rows next mid pool middle on row on_yes on_no yes_row error is leads refused =
    subst (λ (r : Row Left). RowRefused rules rows pool r error) (sym is) (refused_no leads refused)

pub row_left : (rules : Rules) (rows : ℕ) (pool : Pool) (row : Row Left) (left : Left) (error : SearchError) → row ≡ At_leaf left
    → LeftRefused rules rows pool left error → RowRefused rules rows pool row error
row_left rules rows pool row left error is refused =
    subst (λ (r : Row Left). RowRefused rules rows pool r error) (sym is) (refused_leaf refused)

pub ruleset rows = (row_plain, row_written, row_test, row_leaf, row_memory, row_below, row_yes, row_no, row_left)
