-- A turn of the search's loop: the first window that waits becomes a state.
use Rattle.std.proofs.Common.{◌≡◌, ℕ, ◌-◌, ◌≤◌, ◌<◌, List, [], ◌∷◌, ◌++◌, length, length-append, map, sym, ap, subst, arith}
use Rattle.std.specs.Prelude.{Result, Err, IfErr}
use Rattle.std.specs.List.{AllByRecursion}
use Rattle.std.proofs.lemmas.List.{length-map}
use Rattle.pc_word.specs.declared.item.Limits.{Limits}
use Rattle.pc_word.specs.MachineLimits.{most_rows}
use Rattle.pc_word.specs.SourceLimits.{most_nodes}
use Rattle.pc_word.specs.Ranges.{AreLimits, IsExtent}
use Rattle.pc_table.specs.declared.table.RegionTable.{RegionTable}
use Rattle.pc_table.specs.Table.{Table}
use Rattle.pc_table.specs.StoredTable.{table_of}
use Rattle.pc_window.specs.declared.window.Window.{Window as StoredWindow}
use Rattle.pc_window.specs.Steps.{Positive, IsProper}
use Rattle.pc_window.specs.StoredWindow.{window_in}
use Rattle.pc_window.specs.WindowRun.{Window}
use Rattle.pc_canon.specs.Key.{key_of}
use Rattle.pc_table.proofs.StoredRegions.{as_many}
use Rattle.pc_automaton.specs.declared.automaton.AutomatonState.{AutomatonState as StoredState}
use Rattle.pc_automaton.specs.Automaton.{AutomatonState, state_in, states_in}
use Rattle.pc_automaton.specs.Reachable.{EachIsReachable}
use Rattle.pc_pattern.specs.declared.error.SearchError.{SearchError}
use Rattle.pc_pattern.specs.declared.leading.Bounds.{Bounds}
use Rattle.pc_pattern.specs.declared.pool.Pool.{Pool as StoredPool}
use Rattle.pc_pattern.specs.Searches.{Rules}
use Rattle.pc_pattern.specs.Recording.{TakesEach, IsRecorded}
use Rattle.pc_pattern.specs.Pattern.{IsNotFound}
use Rattle.pc_pattern.specs.models.Pools.{keys_in, pool_in, IsSmall}
use Rattle.pc_pattern.specs.models.Leading.{rules_within, Made, Unmade, IsFirst}
use Rattle.pc_pattern.proofs.Progress.{Searching, begins_searching, next_proper, next_limits, some_left, next_small, searching_on, too_far, states_led, pattern_found}

-- limits in their ranges leave room
pub room_of : (limits : Limits) → AreLimits limits → Positive limits
room_of limits are = record { ops = are.ops.0; tests = are.tests.0; mem = are.mem.0 }

pub all_of_one : (P : StoredWindow → Type 0) (xs : List StoredWindow) (w : StoredWindow) → xs ≡ w ∷ [] → P w → AllByRecursion P xs
all_of_one P xs w is h = subst (λ (l : List StoredWindow). AllByRecursion P l) (sym is) (h, tt)

pub all_of_more : (P : StoredWindow → Type 0) (old rest : List StoredWindow) (w : StoredWindow) → old ≡ w ∷ rest → AllByRecursion P old
    → P w × AllByRecursion P rest
all_of_more P old rest w is h = subst (λ (l : List StoredWindow). AllByRecursion P l) is h

module _ (stored : RegionTable) (bounds : Bounds) (limits : AreLimits bounds.limits) (extent : IsExtent bounds.extent) (region : ℕ) where
  abbrev table : Table
  table = table_of stored

  abbrev rules : Rules
  rules = rules_within table bounds

  abbrev rows : ℕ
  rows = bounds.extent.rows

  few_regions : length table.regions ≤ most_nodes
  few_regions = let few = stored.few in let many = as_many stored.regions in omega (arith, few, many)

  room : Positive bounds.limits
  room = room_of bounds.limits limits

  -- the first window waits alone
  pub begun : (first : StoredWindow) (pool : StoredPool) (states : List StoredState) → states ≡ [] → keys_in pool.keys.keys ≡ key_of (window_in first) ∷ []
      → pool.waiting.items ≡ first ∷ [] → IsFirst rules region (window_in first) → Searching rules region rows (states_in states) [] (pool_in pool)
  begun first pool states none keys alone is =
      let same : pool_in pool ≡ record { keys = key_of (window_in first) ∷ []; waiting = window_in first ∷ [] } =
      λ i. record { keys = keys i; waiting = map window_in (alone i) } in
      subst (Searching rules region rows (states_in states) []) (sym same)
      (subst (λ (l : List StoredState). Searching rules region rows (states_in l) [] (record { keys = key_of (window_in first) ∷ []; waiting = window_in first ∷ [] }))
      (sym none)
      (begins_searching rules stored.kept few_regions extent.window.1 room region rows (window_in first) extent.rows.0 is.settles is.size is.names))

  module _ (states : List StoredState) (filled : List Window) (old new : StoredPool) (w : StoredWindow) (first : old.waiting.items ≡ w ∷ new.waiting.items) (same : new.keys ≡ old.keys)
      (s : Searching rules region rows (states_in states) filled (pool_in old)) where
    here : Searching rules region rows (states_in states) filled (record { keys = keys_in new.keys.keys; waiting = window_in w ∷ map window_in new.waiting.items })
    here =
        let is : pool_in old ≡ record { keys = keys_in new.keys.keys; waiting = window_in w ∷ map window_in new.waiting.items } =
        λ i. record { keys = keys_in (sym same i).keys; waiting = map window_in (first i) } in
        subst (Searching rules region rows (states_in states) filled) is s

    pub turn_proper : IsProper (window_in w)
    turn_proper =
        next_proper rules stored.kept few_regions extent.window.1 room region rows (states_in states) filled (window_in w) (map window_in new.waiting.items)
        (keys_in new.keys.keys) here

    pub turn_limits : AreLimits w.limits
    turn_limits =
        let is : w.limits ≡ bounds.limits =
        next_limits rules stored.kept few_regions extent.window.1 room region rows (states_in states) filled (window_in w) (map window_in new.waiting.items)
        (keys_in new.keys.keys) here in
        subst AreLimits (sym is) limits

    pub turn_small : IsSmall table most_rows (window_in w)
    turn_small =
        next_small rules stored.kept few_regions extent.window.1 room region rows (states_in states) filled (window_in w) (map window_in new.waiting.items)
        (keys_in new.keys.keys) here extent.rows.1

    -- not all rows that there may be were made
    pub turn_left : length states < rows
    turn_left =
        let left = some_left rules stored.kept few_regions extent.window.1 room region rows (states_in states) filled (window_in w) (map window_in new.waiting.items)
        (keys_in new.keys.keys) here in
        let many = length-map states state_in in
        omega (arith, left, many)

    -- a refusal is handed on
    pub turn_refused : (result : Result (List StoredState) SearchError) (error : SearchError) → result ≡ Err error
        → Unmade rules rows (window_in w) (pool_in new) error → IfErr result (λ e. IsNotFound rules region rows e)
    turn_refused result error at unmade =
        subst (λ (r : Result (List StoredState) SearchError). IfErr r (λ e. IsNotFound rules region rows e)) (sym at)
        (too_far rules stored.kept few_regions extent.window.1 room region rows (states_in states) filled (window_in w) (map window_in new.waiting.items)
        (keys_in new.keys.keys) here error unmade)

    -- the search goes on with one state more
    pub turn_on : (state : StoredState) (after : StoredPool) (states' : List AutomatonState) → states' ≡ states_in states ++ state_in state ∷ []
        → (made : Made rules (window_in w) (pool_in new) (state_in state) (pool_in after)) → length after.keys.keys ≤ rows
        → Searching rules region rows states' (filled ++ (made.filled ∷ [])) (pool_in after)
    turn_on state after states' more made within =
        let many = length-map after.keys.keys (λ key. key.bytes.items) in
        subst (λ (l : List AutomatonState). Searching rules region rows l (filled ++ (made.filled ∷ [])) (pool_in after)) (sym more)
        (searching_on rules stored.kept few_regions extent.window.1 room region rows (states_in states) filled (window_in w) (map window_in new.waiting.items)
        (keys_in new.keys.keys) here (state_in state) (pool_in after) made (omega (arith, many, within)))

    -- then fewer may be made
    pub turn_smaller : (state : StoredState) (news : List StoredState) → states_in news ≡ states_in states ++ state_in state ∷ []
        → rows - length news < rows - length states
    turn_smaller state news more =
        let left = turn_left in
        let all = ap (λ (l : List AutomatonState). length l) more in
        let one = length-append (states_in states) (state_in state ∷ []) in
        let many = length-map states state_in in
        let many_more = length-map news state_in in
        omega (arith, left, all, one, many, many_more)

  -- where no window waits, there is a pattern, of which the recorder has taken what it was told
  pub turned : {R : Type 0} (told : R → Window → R → Type 0) (before after : R) (states : List StoredState) (filled : List Window) (pool : StoredPool)
      → pool.waiting.items ≡ [] → Searching rules region rows (states_in states) filled (pool_in pool) → TakesEach told before filled after
      → IsRecorded told rules region rows (states_in states) before after × EachIsReachable (states_in states)
  turned told before after states filled pool none s taken =
      let is : pool_in pool ≡ record { keys = keys_in pool.keys.keys; waiting = [] } =
      λ i. record { keys = keys_in pool.keys.keys; waiting = map window_in (none i) } in
      let last = subst (Searching rules region rows (states_in states) filled) is s in (
        pattern_found told before after rules region rows (states_in states) filled (keys_in pool.keys.keys) last taken,
        states_led rules region rows (states_in states) filled (keys_in pool.keys.keys) last,
      )
