-- How far a search has come: which members were taken and have their states, and which wait.
use Rattle.std.proofs.Common.{◌≡◌, ℕ, zero, suc, ◌+◌, ◌≤◌, ◌<◌, List, [], ◌∷◌, ◌++◌, length, length-append, append-nil, append_assoc, map}
use Rattle.std.proofs.Common.{inl, inr, refl, sym, ◌∙◌, ap, subst, arith}
use Rattle.std.specs.Prelude.{nat_eq, Some, slice_get}
use Rattle.std.specs.List.{AllByRecursion, IsDistinct}
use Rattle.std.proofs.lemmas.List.{length-map}
use Rattle.pc_word.specs.MachineLimits.{most_window}
use Rattle.pc_word.specs.SourceLimits.{most_nodes}
use Rattle.pc_word.specs.Row.{Row, leaves_of}
use Rattle.pc_word.proofs.Lists.{all_back, all_imply}
use Rattle.pc_table.specs.TableKeeps.{TableKeeps, most_region_nodes}
use Rattle.pc_window.specs.Tree.{whole, tree_size}
use Rattle.pc_window.specs.Names.{uses, parameters_of}
use Rattle.pc_window.specs.Opening.{first_new}
use Rattle.pc_window.specs.WindowRun.{Window}
use Rattle.pc_window.specs.Kept.{Left}
use Rattle.pc_window.specs.Steps.{EachLeft, FillsTo, Positive, IsProper, opened_window}
use Rattle.pc_window.proofs.Filling.{filling_window}
use Rattle.pc_window.proofs.Proper.{fills_proper, cuts_proper}
use Rattle.pc_window.proofs.Listed.{parameters-below}
use Rattle.pc_canon.specs.Pairs.{themselves}
use Rattle.pc_canon.specs.Key.{key_of}
use Rattle.pc_canon.proofs.ParameterLists.{parameters_listed, parameters_distinct}
use Rattle.pc_automaton.specs.Automaton.{AutomatonState, names_written}
use Rattle.pc_automaton.specs.Reachable.{IsLedTo, EachIsReachable}
use Rattle.pc_pattern.specs.declared.error.SearchError.{SearchError}
use Rattle.pc_pattern.specs.Searches.{Rules, RowFor, Settles, Search, begins, takes, StateFor}
use Rattle.pc_pattern.specs.Pattern.{IsNotFound}
use Rattle.pc_pattern.specs.Recording.{EachFilled, TakesEach, IsRecorded}
use Rattle.pc_pattern.specs.models.Pools.{Pool, IsSmall}
use Rattle.pc_pattern.specs.models.Leading.{Made, Unmade, unmade_memory, unmade_row}
use Rattle.pc_pattern.proofs.Pools.{KeysStand, last_in, LeadsTo, either_side, row_leads_to}
use Rattle.pc_pattern.proofs.Keys.{key_at}
use Rattle.pc_pattern.proofs.Members.{slice_get_more, members_proper, state_more}
use Rattle.pc_pattern.proofs.RowsFit.{members_limited}
use Rattle.pc_pattern.proofs.LedRows.{cut_scoped, LeavesScoped, renames_parameters, row_leads, row_fresh, row_ordered, distinct_apart}
use Rattle.pc_pattern.proofs.Sizes.{filled_next, later_small, all_later_small, IsRest, each_and, cut_rests, first_small, IsNext, row_small}
use Rattle.pc_pattern.proofs.Looking.{row_looked, row_refused}

-- ---- the state of a member

-- the state that the code makes of a member is its state among all members that stand with their keys in the end
made_state : (rules : Rules) → TableKeeps rules.table → (final : List Window) (w : Window) (pool : Pool) (state : AutomatonState) (after : Pool)
    → IsProper w → (m : Made rules w pool state after) → EachLeft IsProper m.cut → KeysStand final after.keys → StateFor rules final w state
made_state rules keeps final w pool state after proper m each stand =
    let ps = parameters_of (whole w.front) in
    let known = uses (whole w.front) in
    let filled = filling_window known w m.filled m.fills proper.window in
    let scoped : LeavesScoped known m.cut =
    subst (λ (r : Row Left). LeavesScoped known r) (sym m.cuts) (cut_scoped known rules.table m.filled m.filled.front filled.scoped) in
    let below_w : AllByRecursion (λ x. x < w.next) ps = parameters-below w.next (whole w.front) proper.names_below in
    let grows = filled_next known w m.filled m.fills in
    let below : AllByRecursion (λ x. x < m.filled.next) ps = all_imply (λ x. x < w.next) (λ x. x < m.filled.next) ps
    (λ x lt. omega (arith, lt, grows)) below_w in
    let fresh = row_fresh m.row in
    let once : IsDistinct nat_eq (ps ++ names_written state.row) =
    distinct_apart m.filled.next ps (names_written state.row) below
    (all_imply (λ x. (m.filled.next ≤ x) × (x < m.later)) (λ x. m.filled.next ≤ x) (names_written state.row) (λ x h. h.0) fresh.inside)
    (parameters_distinct (whole w.front)) fresh.once in
    record {
      parameters = m.parameters;
      cut = m.cut;
      row_for = record { filled = m.filled; fills = m.fills; cuts = m.cuts };
      matches = row_leads keeps final known (themselves ps) (renames_parameters known ps m.filled.next (parameters_listed (whole w.front)) below) each scoped
          m.row stand;
      ordered = row_ordered m.row;
      once = subst (λ (l : List ℕ). IsDistinct nat_eq (l ++ names_written state.row)) (sym m.parameters) once;
    }

-- ---- reachable states

-- a state that is reachable is so among more states
led_still : (states more : List AutomatonState) (to : ℕ) → IsLedTo states to → IsLedTo (states ++ more) to
led_still states more to h = record {
  from = h.from;
  state = h.state;
  arguments = h.arguments;
  earlier = h.earlier;
  there = slice_get_more states more h.from h.state h.there;
  leaf = h.leaf;
}

-- and the last state leads to what came to wait behind its row
led_by_last : (states : List AutomatonState) (state : AutomatonState) (to : ℕ) → length states < to → LeadsTo state.row to
    → IsLedTo (states ++ (state ∷ [])) to
led_by_last states state to later h = record {
  from = length states;
  state = state;
  arguments = h.0;
  earlier = later;
  there = last_in states state;
  leaf = h.1;
}

-- ---- how far it has come

module _ (rules : Rules) where
  -- each member that was taken has its state
  abbrev pub EachMade : List Window → List Window → List AutomatonState → Type 0
  EachMade members [] [] = Unit {0}
  EachMade members (w ∷ ws) (state ∷ states) = StateFor rules members w state × EachMade members ws states
  EachMade members _ _ = ⊥

  -- the members that were taken have these states and were filled to these windows, and the others wait
  pub record Searching (region rows : ℕ) (states : List AutomatonState) (filled : List Window) (pool : Pool) : Type 0 where
    pub steps : ℕ
    pub took : List Window
    pub search : Search rules region steps (took ++ pool.waiting) (length states) []
    pub keys : pool.keys ≡ map key_of (took ++ pool.waiting)
    pub made : EachMade (took ++ pool.waiting) took states
    pub fills : EachFilled took filled
    pub few : length pool.keys ≤ rows
    pub small : AllByRecursion (IsSmall rules.table (suc (length states))) pool.waiting
    pub led : (at : ℕ) → suc at < length pool.keys → IsLedTo states (suc at)

  made_many : (members ws : List Window) (states : List AutomatonState) → EachMade members ws states → length ws ≡ length states
  made_many members [] [] h = refl
  made_many members (w ∷ ws) (state ∷ states) h = ap (λ (n : ℕ). suc n) (made_many members ws states h.1)
  made_many members [] (state ∷ states) h = absurd h
  made_many members (w ∷ ws) [] h = absurd h

  made_more : (members more ws : List Window) (states : List AutomatonState) → EachMade members ws states → EachMade (members ++ more) ws states
  made_more members more [] [] h = tt
  made_more members more (w ∷ ws) (state ∷ states) h = (state_more rules members more w state h.0, made_more members more ws states h.1)
  made_more members more [] (state ∷ states) h = absurd h
  made_more members more (w ∷ ws) [] h = absurd h

  made_last : (members ws : List Window) (states : List AutomatonState) (w : Window) (state : AutomatonState) → EachMade members ws states
      → StateFor rules members w state → EachMade members (ws ++ (w ∷ [])) (states ++ (state ∷ []))
  made_last members [] [] w state h k = (k, tt)
  made_last members (v ∷ ws) (s ∷ states) w state h k = (h.0, made_last members ws states w state h.1 k)
  made_last members [] (s ∷ states) w state h k = absurd h
  made_last members (v ∷ ws) [] w state h k = absurd h

  made_at : (members ws : List Window) (states : List AutomatonState) → EachMade members ws states → (number : ℕ) (w : Window) → slice_get ws number ≡ Some w
      → (state : AutomatonState) × (slice_get states number ≡ Some state) × StateFor rules members w state
  made_at members [] states h number w at = absurd (cc)
  made_at members (v ∷ ws) (s ∷ states) h zero w at = (s, refl, subst (λ (u : Window). StateFor rules members u s) (same v w at) h.0)
    where
      same : (a b : Window) → Some a ≡ Some b → a ≡ b
      same a b e = cc
  made_at members (v ∷ ws) (s ∷ states) h (suc number) w at = made_at members ws states h.1 number w at
  made_at members (v ∷ ws) [] h number w at = absurd h

-- one window more is filled
filled_last : (ws filled : List Window) (w v : Window) → EachFilled ws filled → FillsTo w v → EachFilled (ws ++ (w ∷ [])) (filled ++ (v ∷ []))
filled_last [] [] w v h k = (k, tt)
filled_last (u ∷ ws) (g ∷ filled) w v h k = (h.0, filled_last ws filled w v h.1 k)
filled_last [] (g ∷ filled) w v h k = absurd h
filled_last (u ∷ ws) [] w v h k = absurd h

-- behind some elements a list goes on
behind : {X : Type 0} (xs ys : List X) (i : ℕ) (y : X) → slice_get ys i ≡ Some y → slice_get (xs ++ ys) (length xs + i) ≡ Some y
behind [] ys i y at = ap (λ (n : ℕ). slice_get ys n) (let e : 0 + i ≡ i = omega arith in e) ∙ at
behind (x ∷ xs) ys i y at = ap (λ (n : ℕ). slice_get (x ∷ (xs ++ ys)) n) (let e : length (x ∷ xs) + i ≡ suc (length xs + i) = omega arith in e)
    ∙ behind xs ys i y at

-- where keys are those of members, each stands
keys_stand : (members : List Window) (keys : List (List ℕ)) → keys ≡ map key_of members → KeysStand members keys
keys_stand members keys same number key at = key_at members number key (sym (ap (λ (ks : List (List ℕ)). slice_get ks number) same) ∙ at)

module _ (rules : Rules) (keeps : TableKeeps rules.table) (few_regions : length rules.table.regions ≤ most_nodes) (number : rules.number ≤ most_window)
    (room : Positive rules.limits) (region rows : ℕ) where
  -- a search begins with the region's window
  pub begins_searching : (first : Window) → 1 ≤ rows → Settles rules (opened_window rules.table rules.limits region) first
      → tree_size (whole (opened_window rules.table rules.limits region).front) ≤ most_region_nodes
      → (opened_window rules.table rules.limits region).next ≤ first_new + most_region_nodes
      → Searching rules region rows [] [] (record { keys = key_of first ∷ []; waiting = first ∷ [] })
  begins_searching first some settles size names = record {
    steps = 0;
    took = [];
    search = begins refl settles;
    keys = refl;
    made = tt;
    fills = tt;
    few = omega (arith, some);
    small = (first_small rules keeps few_regions number region first size names settles, tt);
    led = λ at below. absurd (omega (arith, below));
  }

  module _ (states : List AutomatonState) (fronts : List Window) (w : Window) (rest : List Window) (keys : List (List ℕ))
      (s : Searching rules region rows states fronts (record { keys = keys; waiting = w ∷ rest })) where
    -- without the window that waits first
    abbrev left_pool : Pool
    left_pool = record { keys = keys; waiting = rest }

    -- the window that waits first is proper and small, and has the search's limits
    pub next_proper : IsProper w
    next_proper = (all_back IsProper s.took (w ∷ rest) (members_proper rules keeps room region s.search).0).0

    pub next_limits : w.limits ≡ rules.limits
    next_limits = (all_back (λ (v : Window). v.limits ≡ rules.limits) s.took (w ∷ rest) (members_limited rules region s.search).0).0

    many : length s.took ≡ length states
    many = made_many rules (s.took ++ (w ∷ rest)) s.took states s.made

    -- not all members that there may be were taken
    pub some_left : length states < rows
    some_left =
        let few = s.few in
        let all = ap (λ (ks : List (List ℕ)). length ks) s.keys ∙ length-map (s.took ++ (w ∷ rest)) key_of in
        let both = length-append s.took (w ∷ rest) in
        let took = many in
        omega (arith, few, all, both, took)

    pub next_small : rows ≤ 512 → IsSmall rules.table 512 w
    next_small le = let some = some_left in later_small rules.table (suc (length states)) 512 w (omega (arith, some, le)) s.small.0

    next_at : slice_get (s.took ++ (w ∷ rest)) (length states) ≡ Some w
    next_at = ap (λ (n : ℕ). slice_get (s.took ++ (w ∷ rest)) n) (let e = many in let z : length states ≡ length s.took + 0 = omega (arith, e) in z)
        ∙ behind s.took (w ∷ rest) 0 w refl

    -- its row is taken, and there are leaves to look at
    taken : (cut : Row Left) → RowFor rules w cut → Search rules region (suc s.steps) (s.took ++ (w ∷ rest)) (suc (length states)) (leaves_of cut ++ [])
    taken cut row_for =
        subst (λ (l : List Left). Search rules region (suc s.steps) (s.took ++ (w ∷ rest)) (suc (length states)) l) (sym (append-nil (leaves_of cut)))
        (takes s.search next_at row_for)

    regrouped : (ys : List Window) → (s.took ++ (w ∷ rest)) ++ ys ≡ (s.took ++ (w ∷ [])) ++ (rest ++ ys)
    regrouped ys = append_assoc s.took (w ∷ rest) ys ∙ sym (append_assoc s.took (w ∷ []) (rest ++ ys))

    -- each that waits then is reachable, as each that waited
    led_on : (state : AutomatonState) (after : Pool) → Made rules w left_pool state after → (at : ℕ) → suc at < length after.keys
        → IsLedTo (states ++ (state ∷ [])) (suc at)
    led_on state after m at below = elim (either_side (suc at) (length keys)) [
      | inl before ↦ led_still states (state ∷ []) (suc at) (s.led at before)
      | inr last ↦ (
          let all = ap (λ (ks : List (List ℕ)). length ks) s.keys ∙ length-map (s.took ++ (w ∷ rest)) key_of in
          let both = length-append s.took (w ∷ rest) in
          let took = many in
          led_by_last states state (suc at) (omega (arith, last, all, both, took)) (row_leads_to m.row (suc at) last below)
          )
    ]

    -- once it has its state, the search is a member further
    pub searching_on : (state : AutomatonState) (after : Pool) (m : Made rules w left_pool state after) → length after.keys ≤ rows
        → Searching rules region rows (states ++ (state ∷ [])) (fronts ++ (m.filled ∷ [])) after
    searching_on state after m few =
        let row_for : RowFor rules w m.cut = record { filled = m.filled; fills = m.fills; cuts = m.cuts } in
        let one_more : suc (length states) ≡ length (states ++ (state ∷ [])) = (let e = length-append states (state ∷ []) in omega (arith, e)) in
        let looked = row_looked rules keeps room region (suc (length states)) (suc s.steps) (s.took ++ (w ∷ rest)) [] m.row s.keys (taken m.cut row_for) in
        let final = (s.took ++ (w ∷ rest)) ++ looked.added in
        let same : final ≡ (s.took ++ (w ∷ [])) ++ after.waiting =
        regrouped looked.added ∙ ap (λ (l : List Window). (s.took ++ (w ∷ [])) ++ l) (sym looked.waits) in
        let proper = next_proper in
        let each_proper = cuts_proper rules.table m.filled m.cut m.cuts (fills_proper w m.filled m.fills proper) in
        let made : EachMade rules final (s.took ++ (w ∷ [])) (states ++ (state ∷ [])) =
        made_last rules final s.took states w state (made_more rules (s.took ++ (w ∷ rest)) looked.added s.took states s.made)
        (made_state rules keeps final w left_pool state after proper m each_proper (keys_stand final after.keys looked.keys)) in
        let turns = suc (length states) in
        let rests = cut_rests rules.table turns w m.filled m.cut m.fills m.cuts s.small.0 m.grown in
        let next = each_and IsProper (IsRest rules.table turns) (IsNext rules keeps few_regions number turns) (λ v p r. (p, r)) m.cut each_proper rests in
        let small = row_small rules keeps few_regions number turns next m.row
        (all_later_small rules.table turns (suc turns) rest (omega arith) s.small.1) in
        record {
          steps = looked.steps;
          took = s.took ++ (w ∷ []);
          search = subst (λ (l : List Window). Search rules region looked.steps l (length (states ++ (state ∷ []))) []) same
              (subst (λ (k : ℕ). Search rules region looked.steps final k []) one_more looked.search);
          keys = looked.keys ∙ ap (map key_of) same;
          made = subst (λ (l : List Window). EachMade rules l (s.took ++ (w ∷ [])) (states ++ (state ∷ []))) same made;
          fills = filled_last s.took fronts w m.filled s.fills m.fills;
          few = few;
          small = subst (λ (n : ℕ). AllByRecursion (IsSmall rules.table (suc n)) after.waiting) one_more small;
          led = led_on state after m;
        }

    -- and where more members than there may be come of it, there is no pattern
    pub too_far : (error : SearchError) → Unmade rules rows w left_pool error → IsNotFound rules region rows error
    too_far error unmade_memory = tt
    too_far error (unmade_row {filled} {cut} fills cuts refused) =
        row_refused rules keeps room region (suc (length states)) rows (suc s.steps) (s.took ++ (w ∷ rest)) [] refused s.keys
        (taken cut (record { filled = filled; fills = fills; cuts = cuts }))

-- where no window waits, each state but the first is reachable
pub states_led : (rules : Rules) (region rows : ℕ) (states : List AutomatonState) (filled : List Window) (keys : List (List ℕ))
    → Searching rules region rows states filled (record { keys = keys; waiting = [] }) → EachIsReachable states
states_led rules region rows states filled keys s at below =
    let many = made_many rules (s.took ++ []) s.took states s.made in
    let all = ap (λ (ks : List (List ℕ)). length ks) s.keys ∙ length-map (s.took ++ []) key_of ∙ ap (λ (ws : List Window). length ws) (append-nil s.took) in
    s.led at (omega (arith, below, many, all))

-- and the states are those of a pattern, of which a recorder has taken what it was told
pub pattern_found : {R : Type 0} (told : R → Window → R → Type 0) (before after : R) (rules : Rules) (region rows : ℕ) (states : List AutomatonState) (filled : List Window) (keys : List (List ℕ))
    → Searching rules region rows states filled (record { keys = keys; waiting = [] }) → TakesEach told before filled after
    → IsRecorded told rules region rows states before after
pattern_found told before after rules region rows states filled keys s taken =
    let all : s.took ++ [] ≡ s.took = append-nil s.took in
    let made = subst (λ (l : List Window). EachMade rules l s.took states) all s.made in
    let many = made_many rules s.took s.took states made in
    let few = s.few in
    let count = ap (λ (ks : List (List ℕ)). length ks) s.keys ∙ length-map (s.took ++ []) key_of ∙ ap (λ (ws : List Window). length ws) all in
    record {
      pattern = record {
        members = s.took;
        closed = (
          s.steps,
          subst (λ (n : ℕ). Search rules region s.steps s.took n []) (sym many)
              (subst (λ (l : List Window). Search rules region s.steps l (length states) []) all s.search),
        );
        few = omega (arith, few, many, count);
        automates = record { as_many = sym many; each = made_at rules s.took s.took states made };
      };
      filled = filled;
      fills = s.fills;
      taken = taken;
    }
