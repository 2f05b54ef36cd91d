-- What is left at the leaves of a row, in memory.
use Rattle.std.proofs.Common.{◌≡◌, ◌⊎◌, inl, inr, ℕ, suc, ◌+◌, ◌<◌, ◌≤◌, Bool, true, List, [], ◌∷◌, ◌++◌, length, map, get_or, drop, Some, Result, Ok, Err}
use Rattle.std.proofs.Common.{refl, sym, ◌∙◌, ap, subst, arith, length-append, drop_of_length-le}
use Rattle.std.specs.Prelude.{IfOk, MatchResult, slice_get, reverse}
use Rattle.std.specs.List.{AllByRecursion}
use Rattle.std.proofs.lemmas.List.{length-map, length-reverse, reverse-append, reverse-reverse}
use Rattle.std.proofs.lemmas.Option.{slice_get-get_or}
use Rattle.pc_word.specs.declared.item.Limits.{Limits}
use Rattle.pc_word.specs.declared.item.TrapKind.{TrapKind}
use Rattle.pc_word.specs.Ranges.{AreLimits}
use Rattle.pc_word.specs.Row.{Row, Then, Either, At_leaf, leaves_of, tests_of}
use Rattle.pc_word.proofs.Lists.{all_both}
use Rattle.pc_word.proofs.Places.{drop_at, map_at}
use Rattle.pc_table.specs.Table.{Table}
use Rattle.pc_machine.specs.declared.tree.Leaf.{Leaf}
use Rattle.pc_machine.specs.declared.tree.Leaf.TheVariants.{Goto, Stop, Trap}
use Rattle.pc_machine.specs.MachineCode.{CodeRow}
use Rattle.pc_machine.specs.WellFormed.{IsRow}
use Rattle.pc_window.specs.declared.names.NameTable.{NameTable}
use Rattle.pc_window.specs.declared.tree.WindowTree.{WindowTree}
use Rattle.pc_window.specs.declared.window.Window.{Window as StoredWindow}
use Rattle.pc_window.specs.Tree.{Tree, Front, Issued, Split, Unfinished, whole, tree_size}
use Rattle.pc_window.specs.WindowRun.{Window, supply_of}
use Rattle.pc_window.specs.Names.{uses, and_dest, Scoped}
use Rattle.pc_window.specs.Opening.{TreeBelow, FormsBelow}
use Rattle.pc_window.specs.Steps.{with_tree, front_row, Positive, IsProper}
use Rattle.pc_window.specs.StoredWindow.{tree_in, front_in, supply_in, window_in, InNodes}
use Rattle.pc_window.proofs.Proper.{becomes_proper}
use Rattle.pc_window.proofs.WindowsStored.{single_window}
use Rattle.pc_certified.specs.Facts.{Fact}
use Rattle.pc_matching.specs.declared.fact.Fact as stored_fact
use Rattle.pc_matching.specs.Facts.{facts_of, helds_of}
use Rattle.pc_arranging.specs.CanArrange.{IsArrangedIn}
use Rattle.pc_settling.specs.Remaining.{Remaining}
use Rattle.pc_settling.specs.Settled.{settled}
use Rattle.pc_settling.specs.Arrives.{end_of}
use Rattle.pc_settling.specs.Stored.{IsLeft}
use Rattle.pc_accepted.specs.declared.flaw.LeafFlaw.{LeafFlaw}
use Rattle.pc_accepted.specs.declared.flaw.LeafFlaw.TheVariants.{OtherEnd}
use Rattle.pc_accepted.specs.Accepted.{with_limits}
use Rattle.pc_accepted.specs.Arrivals.{Arrivals}
use Rattle.pc_accepted.specs.Leading.{Setting, Departure, LeafRefusal, Leads, LeadsOn, IsEnd, ends, ends_otherwise, goes_to, AllLeadOn, all_lead_on, one_leads_on, one_is_refused}
use Rattle.pc_checking.specs.models.Stored.{left_window, outcome_of}
use Rattle.pc_checking.specs.models.Going.{LeavesGoOn}

-- ---- what is left at a leaf

-- a tree of an arranged window, under other limits
pub rest_window : (arranged : StoredWindow) (names : NameTable) (limits : Limits) (rest : WindowTree) → names ≡ arranged.names → InNodes true rest
    → window_in (record { tree = rest; names = names; limits = limits; inside = arranged.inside }) ≡ with_tree (with_limits limits (window_in arranged)) (tree_in rest)
rest_window arranged names limits rest same nodes =
    ap (λ (n : NameTable). window_in (record { tree = rest; names = n; limits = limits; inside = arranged.inside })) same
    ∙ single_window rest arranged.names limits arranged.inside (record { tree = tree_in rest; names = supply_in arranged.names }) refl nodes

-- with a copy of its names
pub copied_rest : (arranged : StoredWindow) (names : NameTable) (limits : Limits) (rest : WindowTree) → names ≡ arranged.names → IsLeft (left_window arranged limits rest)
    → IsLeft (record { tree = rest; names = names; limits = limits; inside = arranged.inside })
copied_rest arranged names limits rest same left =
    subst (λ (n : NameTable). IsLeft (record { tree = rest; names = n; limits = limits; inside = arranged.inside })) (sym same) left

-- it is settled, where a call settles it
pub settled_rest : {E R : Type 0} (view : R → Remaining) (arranged : StoredWindow) (names : NameTable) (limits : Limits) (rest : WindowTree) (facts held : List stored_fact.Fact)
    (result : Result R E) → names ≡ arranged.names → facts ≡ held → IsLeft (left_window arranged limits rest)
    → IfOk result (λ left. view left ≡ settled (window_in (record { tree = rest; names = names; limits = limits; inside = arranged.inside })) (facts_of facts))
    → IfOk result (λ left. view left ≡ settled (with_tree (with_limits limits (window_in arranged)) (tree_in rest)) (facts_of held))
settled_rest view arranged names limits rest facts held (Ok left) same facts_are it is =
    is ∙ (λ i. settled (rest_window arranged names limits rest same it.nodes i) (facts_of (facts_are i)))
settled_rest view arranged names limits rest facts held (Err error) same facts_are it is = tt

-- what stands behind the leaves of a front is proper, under any limits with room
module _ (w : Window) (limits : Limits) (room : Positive limits) (forms_below : FormsBelow (supply_of w)) where
  rests_proper : (front : Front) (known : ℕ → Bool) → TreeBelow w.next (whole front) → Scoped known (whole front)
      → AllByRecursion (λ (rest : Tree). IsProper (with_tree (with_limits limits w) rest)) (leaves_of (front_row (λ tree. tree) front))
  rests_proper (Issued tag origin item front) known below scoped = rests_proper front (and_dest known item) below.1 scoped.2
  rests_proper (Split tag origin on p q) known below scoped =
      all_both (λ (rest : Tree). IsProper (with_tree (with_limits limits w) rest)) (leaves_of (front_row (λ tree. tree) p)) (leaves_of (front_row (λ tree. tree) q))
      (rests_proper p known below.1 scoped.1) (rests_proper q known below.2 scoped.2)
  rests_proper (Unfinished tree) known below scoped = (becomes_proper tree (supply_of w) limits w.inside known below forms_below room scoped, tt)

-- and no larger than all of it
rests_small : (most : ℕ) (front : Front) → tree_size (whole front) ≤ most
    → AllByRecursion (λ (rest : Tree). tree_size rest ≤ most) (leaves_of (front_row (λ tree. tree) front))
rests_small most (Issued tag origin item front) small = rests_small most front (omega (arith, small))
rests_small most (Split tag origin on p q) small =
    all_both (λ (rest : Tree). tree_size rest ≤ most) (leaves_of (front_row (λ tree. tree) p)) (leaves_of (front_row (λ tree. tree) q))
    (rests_small most p (omega (arith, small))) (rests_small most q (omega (arith, small)))
rests_small most (Unfinished tree) small = (small, tt)

module _ (arranged : StoredWindow) (limits : Limits) where
  each_left : (rests : List WindowTree) → AllByRecursion (InNodes true) rests
      → AllByRecursion (λ (rest : Tree). IsProper (with_tree (with_limits limits (window_in arranged)) rest)) (map tree_in rests)
      → AllByRecursion (λ (rest : Tree). tree_size rest ≤ 4096) (map tree_in rests)
      → AllByRecursion (λ (rest : WindowTree). IsLeft (left_window arranged limits rest)) rests
  each_left [] nodes proper small = tt
  each_left (rest ∷ rests) nodes proper small = (
    record {
      proper = subst IsProper (sym (rest_window arranged arranged.names limits rest refl nodes.0)) proper.0;
      nodes = nodes.0;
      size = small.0;
    },
    each_left rests nodes.1 proper.1 small.1,
  )

  -- so each of them is left to do, under limits of the machine
  pub all_left : (table : Table) → IsArrangedIn table arranged → AreLimits limits → (rests : List WindowTree) → AllByRecursion (InNodes true) rests
      → map tree_in rests ≡ leaves_of (front_row (λ tree. tree) (front_in arranged.tree))
      → AllByRecursion (λ (rest : WindowTree). IsLeft (left_window arranged limits rest)) rests
  all_left table it within rests nodes are =
      let room : Positive limits = record { ops = within.ops.0; tests = within.tests.0; mem = within.mem.0 } in
      let w = window_in arranged in
      let proper = it.can.proper in
      each_left rests nodes
      (subst (AllByRecursion (λ (rest : Tree). IsProper (with_tree (with_limits limits w) rest))) (sym are)
      (rests_proper w limits room proper.forms_below w.front (uses (whole w.front)) proper.names_below proper.window.scoped))
      (subst (AllByRecursion (λ (rest : Tree). tree_size rest ≤ 4096)) (sym are) (rests_small 4096 w.front it.can.small.size))

-- ---- where it leads

-- a leaf that is one of these is an end
pub end_is : (leaf : Leaf) → (leaf ≡ Stop) ⊎ ((kind : TrapKind) × (line : ℕ) × (leaf ≡ Trap kind line)) → IsEnd leaf
end_is leaf (inl e) = subst IsEnd (sym e) tt
end_is leaf (inr h) = subst IsEnd (sym h.2) tt

-- at an end
pub ended : (s : Setting) (departure : Departure) (left : Remaining) (arrivals : Arrivals) (leaf : Leaf) (found : Result (Unit {0}) LeafFlaw) → IsEnd leaf
    → MatchResult found (λ _. end_of (whole left.window.front) ≡ Some leaf) (λ why. (why ≡ OtherEnd) × (end_of (whole left.window.front) ≡ Some leaf → ⊥))
    → LeadsOn s departure left arrivals leaf (outcome_of arrivals found)
ended s departure left arrivals leaf (Ok done) is_end is = ends is_end is
ended s departure left arrivals leaf (Err why) is_end is =
    subst (λ (w : LeafFlaw). LeadsOn s departure left arrivals leaf (Err w)) (sym is.0) (ends_otherwise is_end is.1)

-- at a goto, where a call leads to the row's entry
pub gone_to : {E : Type 0} (s : Setting) (departure : Departure) (left : Remaining) (arrivals later : Arrivals) (leaf : Leaf) (row : ℕ) (result : Result (Result (Unit {0}) LeafFlaw) E)
    → leaf ≡ Goto row → IfOk result (λ outcome. Leads s (Some departure) left arrivals row (outcome_of later outcome))
    → IfOk result (λ outcome. LeadsOn s departure left arrivals leaf (outcome_of later outcome))
gone_to s departure left arrivals later leaf row (Ok outcome) is leads =
    subst (λ (l : Leaf). LeadsOn s departure left arrivals l (outcome_of later outcome)) (sym is) (goes_to leads)
gone_to s departure left arrivals later leaf row (Err error) is leads = tt

-- where what was left is settled so
pub led_settled : {E : Type 0} (s : Setting) (departure : Departure) (left other : Remaining) (arrivals later : Arrivals) (leaf : Leaf) (result : Result (Result (Unit {0}) LeafFlaw) E)
    → left ≡ other → IfOk result (λ outcome. LeadsOn s departure left arrivals leaf (outcome_of later outcome))
    → IfOk result (λ outcome. LeadsOn s departure other arrivals leaf (outcome_of later outcome))
led_settled s departure left other arrivals later leaf result same leads =
    subst (λ (r : Remaining). IfOk result (λ outcome. LeadsOn s departure r arrivals leaf (outcome_of later outcome))) same leads

-- ---- one leaf after the other

-- a row has one leaf more than tests
pub leaves_and_tests : {L : Type 0} (row : Row L) → length (leaves_of row) ≡ suc (length (tests_of row))
leaves_and_tests (Then item rest) = leaves_and_tests rest
leaves_and_tests (Either on p q) =
    let more = leaves_and_tests p in
    let others = leaves_and_tests q in
    let both = length-append (leaves_of p) (leaves_of q) in
    let tests = length-append (tests_of p) (tests_of q) in
    omega (arith, more, others, both, tests)
leaves_and_tests (At_leaf leaf) = refl

-- a row of a well-formed code has few leaves
pub few_leaves : (limits : Limits) (registers arrays rows : ℕ) (row : CodeRow) → AreLimits limits → IsRow limits registers arrays rows row → length (leaves_of row) ≤ 8
few_leaves limits registers arrays rows row within is =
    let as_many = leaves_and_tests row in
    let tests = is.tests in
    let most = within.tests.1 in
    omega (arith, as_many, tests, most)

-- a list that is turned round, and back
pub turned_back : {X : Type 0} (xs turned : List X) → turned ≡ reverse xs → reverse turned ≡ xs
turned_back xs turned is = ap reverse is ∙ reverse-reverse xs

-- there are as many trees as facts
pub as_many : (rests turned : List WindowTree) (trees : List Tree) (n : ℕ) → turned ≡ reverse rests → map tree_in rests ≡ trees → n ≡ length trees → 0 + length turned ≡ n
as_many rests turned trees n is are many =
    let same : length turned ≡ length rests = ap length is ∙ length-reverse rests in
    let all : length rests ≡ length trees = sym (length-map rests tree_in) ∙ ap length are in
    omega (arith, same, all, many)

-- a leaf of a list that is read
pub leaf_there : (leaves listed : List Leaf) (number : ℕ) (default : Leaf) → listed ≡ leaves → number < length leaves → slice_get leaves number ≡ Some (get_or listed number default)
leaf_there leaves listed number default is within =
    slice_get-get_or leaves number default within ∙ ap (λ (list : List Leaf). Some (get_or list number default)) (sym is)

pub is_none : {X : Type 0} (xs : List X) → length xs ≡ 0 → xs ≡ []
is_none [] none = refl
is_none (x ∷ xs) none = absurd (omega (arith, none))

-- what was put behind others, turned round
pub reverse_more : {X : Type 0} (xs old : List X) (x : X) → old ≡ xs ++ x ∷ [] → reverse old ≡ x ∷ reverse xs
reverse_more xs old x is = ap reverse is ∙ reverse-append xs (x ∷ [])

pub length_more : {X : Type 0} (xs old : List X) (x : X) → old ≡ xs ++ x ∷ [] → length old ≡ length xs + 1
length_more xs old x is = ap length is ∙ length-append xs (x ∷ [])

module _ (s : Setting) (departure : Departure) (arranged : Window) (first : Arrivals) (helds : List (List stored_fact.Fact)) (leaves : List Leaf) (rests : List Tree) where
  abbrev GoOn : (number : ℕ) → Arrivals → List Tree → Type 0
  GoOn number arrivals more = LeavesGoOn s departure arranged first (helds_of helds) leaves rests number arrivals (drop number (helds_of helds)) (drop number leaves) more

  module _ (number : ℕ) (arrivals : Arrivals) (held : List stored_fact.Fact) (leaf : Leaf) (old new : List WindowTree) (rest : WindowTree) (items : old ≡ new ++ rest ∷ [])
      (on : GoOn number arrivals (map tree_in (reverse old))) (held_at : slice_get helds number ≡ Some held) (leaf_at : slice_get leaves number ≡ Some leaf) where
    at_place : (outcome : Result Arrivals LeafRefusal)
        → AllLeadOn s departure arranged number arrivals (facts_of held ∷ drop (suc number) (helds_of helds)) (leaf ∷ drop (suc number) leaves)
        (tree_in rest ∷ map tree_in (reverse new)) outcome → AllLeadOn s departure arranged 0 first (helds_of helds) leaves rests outcome
    at_place outcome all =
        let facts = sym (drop_at (helds_of helds) number (facts_of held) (map_at facts_of helds number held held_at)) in
        let more = sym (drop_at leaves number leaf leaf_at) in
        let trees : tree_in rest ∷ map tree_in (reverse new) ≡ map tree_in (reverse old) = sym (ap (λ (list : List WindowTree). map tree_in list) (reverse_more new old rest items)) in
        on outcome (subst (λ (h : List (List Fact)). AllLeadOn s departure arranged number arrivals h (drop number leaves) (map tree_in (reverse old)) outcome) facts (
        subst (λ (l : List Leaf). AllLeadOn s departure arranged number arrivals (facts_of held ∷ drop (suc number) (helds_of helds)) l (map tree_in (reverse old)) outcome) more (
        subst (λ (t : List Tree). AllLeadOn s departure arranged number arrivals (facts_of held ∷ drop (suc number) (helds_of helds)) (leaf ∷ drop (suc number) leaves) t outcome)
        trees all)))

    module _ (later : Arrivals) (led : Result (Unit {0}) LeafFlaw)
        (leads : LeadsOn s departure (settled (with_tree arranged (tree_in rest)) (facts_of held)) arrivals leaf (outcome_of later led)) where
      -- a leaf that leads on
      pub one_on : (done : Unit {0}) → led ≡ Ok done → GoOn (number + 1) later (map tree_in (reverse new))
      one_on done is =
          subst (λ (n : ℕ). GoOn n later (map tree_in (reverse new))) (let e : suc number ≡ number + 1 = omega arith in e)
          (λ outcome all. at_place outcome (one_leads_on (
          subst (λ (r : Result (Unit {0}) LeafFlaw). LeadsOn s departure (settled (with_tree arranged (tree_in rest)) (facts_of held)) arrivals leaf (outcome_of later r)) is leads) all))

      -- a leaf that does not
      pub one_refused : (why : LeafFlaw) → led ≡ Err why → AllLeadOn s departure arranged 0 first (helds_of helds) leaves rests (Err (record { leaf = number; why = why }))
      one_refused why is = at_place (Err (record { leaf = number; why = why })) (one_is_refused (
          subst (λ (r : Result (Unit {0}) LeafFlaw). LeadsOn s departure (settled (with_tree arranged (tree_in rest)) (facts_of held)) arrivals leaf (outcome_of later r)) is leads))

  -- and the end
  pub all_on : (number : ℕ) (arrivals : Arrivals) (none : List WindowTree) → none ≡ [] → GoOn number arrivals (map tree_in (reverse none))
      → length helds ≤ number → length leaves ≤ number → AllLeadOn s departure arranged 0 first (helds_of helds) leaves rests (Ok arrivals)
  all_on number arrivals none is on no_helds no_leaves =
      let many = length-map helds facts_of in
      on (Ok arrivals) (
      subst (λ (h : List (List Fact)). AllLeadOn s departure arranged number arrivals h (drop number leaves) (map tree_in (reverse none)) (Ok arrivals))
      (sym (drop_of_length-le (helds_of helds) (omega (arith, many, no_helds)))) (
      subst (λ (l : List Leaf). AllLeadOn s departure arranged number arrivals [] l (map tree_in (reverse none)) (Ok arrivals)) (sym (drop_of_length-le leaves no_leaves)) (
      subst (λ (t : List WindowTree). AllLeadOn s departure arranged number arrivals [] [] (map tree_in (reverse t)) (Ok arrivals)) (sym is) all_lead_on)))
