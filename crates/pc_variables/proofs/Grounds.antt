-- Each name that is told to hold a scalar has a ground for it.
use Rattle.std.proofs.Common.{◌⊎◌, inl, inr, ◌≡◌, refl, sym, ap, ◌∙◌, subst, ℕ, zero, suc, ◌+◌, ◌<◌, ◌≤◌, List, [], ◌∷◌, ◌++◌, length, Bool, true, false, cond, nat_eq, nat_lt, arith}
use Rattle.std.specs.Prelude.{Option, Some, None, slice_get}
use Rattle.std.specs.List.{AllByRecursion}
use Rattle.std.specs.Option.{option_and_then, option_or}
use Rattle.std.proofs.lemmas.Bool.Decides.{nat_tests}
use Rattle.std.proofs.lemmas.List.{length_push}
use Rattle.std.proofs.Common.{append_assoc, append-nil}
use Rattle.std.proofs.lemmas.Option.{slice_get_within}
use Rattle.pc_word.specs.SourceLimits.{most_scalars}
use Rattle.pc_word.specs.Items.{dest_of}
use Rattle.pc_word.specs.Row.{Row, Then, Either, At_leaf}
use Rattle.pc_word.specs.declared.item.Item.{Item}
use Rattle.pc_word.specs.declared.item.Item.TheVariants.{Bin, Copy, Load, Store, Print, Read, More}
use Rattle.pc_word.specs.declared.item.Operand.{Operand}
use Rattle.pc_word.specs.declared.item.Operand.TheVariants.{Name, Lit}
use Rattle.pc_flow.specs.FlowGraph.{FlowGraph}
use Rattle.pc_flow.specs.declared.node.FlowNode.{FlowNode}
use Rattle.pc_flow.specs.declared.node.FlowNode.TheVariants.{Op, Test, Stop, Trap}
use Rattle.pc_automaton.specs.declared.automaton.AutomatonLeaf.{AutomatonLeaf}
use Rattle.pc_automaton.specs.Automaton.{AutomatonState}
use Rattle.pc_told.specs.Tellings.{Telling, Tells_item, Tells_test, Tells_leaf}
use Rattle.pc_variables.specs.declared.holding.Holding.{Holding}
use Rattle.pc_variables.specs.Holdings.{is_held, scalar_of, with_name, if_scalar, copied_by, copied_at, given_to, assigned_at, assigned_by, with_assigned, with_own, arguments_to, scalar_behind}
use Rattle.pc_variables.specs.Holdings.{with_passed, entered_by, entered, parameters_held, holdings_of, and_state, and_states}
use Rattle.pc_variables.specs.Holds.{WritesFrom, here, below, on_yes, on_no, Becomes, itself, copied, Assigns, PassesFirst, Holds, assigned, begun, passed}
use Rattle.pc_variables.specs.Laws.{EachHasAGround}

-- ---- any ground

-- what holds of each name with its scalar
abbrev AllOf : (ℕ → ℕ → Type 0) → List Holding → Type 0
AllOf P holdings = AllByRecursion (λ holding. P holding.name holding.scalar) holdings

all_pushed : (P : ℕ → ℕ → Type 0) (holdings : List Holding) (last : Holding) → AllOf P holdings → P last.name last.scalar → AllOf P (holdings ++ last ∷ [])
all_pushed P [] last all one = (one, tt)
all_pushed P (first ∷ others) last all one = (all.0, all_pushed P others last all.1 one)

module _ (P : ℕ → ℕ → Type 0) where
  name_kept : (holdings : List Holding) (name scalar : Option ℕ) → AllOf P holdings → ((x s : ℕ) → name ≡ Some x → scalar ≡ Some s → P x s)
      → AllOf P (with_name holdings name scalar)
  name_kept holdings None scalar all one = all
  name_kept holdings (Some name) None all one = all
  name_kept holdings (Some name) (Some scalar) all one = by (is_held holdings name)
    where
      by : (t : Bool) → AllOf P (cond t holdings (holdings ++ record { name = name; scalar = scalar } ∷ []))
      by true = all
      by false = all_pushed P holdings (record { name = name; scalar = scalar }) all (one name scalar refl refl)

  -- the scalar that a name holds is one that it is told to hold
  found_holds : (holdings : List Holding) (name scalar : ℕ) → AllOf P holdings → scalar_of holdings name ≡ Some scalar → P name scalar
  found_holds [] name scalar all is = absurd (cc)
  found_holds (first ∷ others) name scalar all is = by (nat_eq first.name name) refl is (λ is. found_holds others name scalar all.1 is)
    where
      by : (t : Bool) → nat_eq first.name name ≡ t → cond t (Some first.scalar) (scalar_of others name) ≡ Some scalar
          → (scalar_of others name ≡ Some scalar → P name scalar) → P name scalar
      by true e is rest =
          let same : first.name ≡ name = grind (arith, nat_tests) in
          let told : first.scalar ≡ scalar = cc in
          subst (λ (s : ℕ). P name s) told (subst (λ (x : ℕ). P x first.scalar) same all.0)
      by false e is rest = rest is

  row_kept : (flow : FlowGraph) (row : Row AutomatonLeaf) (telling : Telling) (holdings : List Holding) → AllOf P holdings
      → ((name origin scalar : ℕ) → WritesFrom row telling name origin → assigned_by flow origin ≡ Some scalar → P name scalar)
      → AllOf P (with_assigned flow row telling holdings)
  row_kept flow (Then item rest) (Tells_item iteration origin told next) holdings all each =
      row_kept flow rest next _ (name_kept holdings (dest_of item) (assigned_by flow origin) all (λ x s is by. each x origin s (here is) by))
      (λ name other scalar writes by. each name other scalar (below writes) by)
  row_kept flow (Either on yes_row no_row) (Tells_test iteration origin told one other) holdings all each =
      row_kept flow no_row other _
      (row_kept flow yes_row one holdings all (λ name at scalar writes by. each name at scalar (on_yes writes) by))
      (λ name at scalar writes by. each name at scalar (on_no writes) by)
  row_kept flow (Then item rest) (Tells_test iteration origin told one other) holdings all each = all
  row_kept flow (Then item rest) (Tells_leaf advance) holdings all each = all
  row_kept flow (Either on yes_row no_row) (Tells_item iteration origin told next) holdings all each = all
  row_kept flow (Either on yes_row no_row) (Tells_leaf advance) holdings all each = all
  row_kept flow (At_leaf leaf) (Tells_item iteration origin told next) holdings all each = all
  row_kept flow (At_leaf leaf) (Tells_test iteration origin told one other) holdings all each = all
  row_kept flow (At_leaf leaf) (Tells_leaf advance) holdings all each = all

  own_kept : (parameters : List ℕ) (holdings : List Holding) → AllOf P holdings
      → ((place parameter scalar : ℕ) → slice_get parameters place ≡ Some parameter → if_scalar parameter ≡ Some scalar → P parameter scalar)
      → AllOf P (with_own parameters holdings)
  own_kept [] holdings all each = all
  own_kept (parameter ∷ parameters) holdings all each =
      own_kept parameters _
      (name_kept holdings (Some parameter) (if_scalar parameter) all
      (λ x s is by. let same : parameter ≡ x = cc in subst (λ (y : ℕ). P y s) same (each 0 parameter s refl by)))
      (λ place other scalar there by. each (suc place) other scalar there by)

  passed_kept : (passing : List Holding) (parameters : List ℕ) (arguments : List Operand) (holdings : List Holding) → AllOf P holdings
      → ((place parameter other scalar : ℕ) → slice_get parameters place ≡ Some parameter → slice_get arguments place ≡ Some (Name other)
      → scalar_of passing other ≡ Some scalar → P parameter scalar)
      → AllOf P (with_passed passing parameters arguments holdings)
  passed_kept passing [] [] holdings all each = all
  passed_kept passing [] (argument ∷ arguments) holdings all each = all
  passed_kept passing (parameter ∷ parameters) [] holdings all each = all
  passed_kept passing (parameter ∷ parameters) (Name other ∷ arguments) holdings all each =
      passed_kept passing parameters arguments _
      (name_kept holdings (Some parameter) (scalar_of passing other) all
      (λ x s is by. let same : parameter ≡ x = cc in subst (λ (y : ℕ). P y s) same (each 0 parameter other s refl refl by)))
      (λ place p x scalar takes given by. each (suc place) p x scalar takes given by)
  passed_kept passing (parameter ∷ parameters) (Lit value ∷ arguments) holdings all each =
      passed_kept passing parameters arguments holdings all (λ place p x scalar takes given by. each (suc place) p x scalar takes given by)

-- ---- what a node assigns

scalar_is : (variable scalar : ℕ) → if_scalar variable ≡ Some scalar → (variable ≡ scalar) × (variable < most_scalars)
scalar_is variable scalar h = by (nat_lt variable most_scalars) refl h
  where
    by : (t : Bool) → nat_lt variable most_scalars ≡ t → cond t (Some variable) None ≡ Some scalar → (variable ≡ scalar) × (variable < most_scalars)
    by true e h = (cc, grind (arith, nat_tests))
    by false e h = absurd (cc)

-- what is given to a scalar becomes its value
record Given (flow : FlowGraph) (next variable scalar : ℕ) : Type 0 where
  becomes : Becomes flow next variable scalar
  is_scalar : scalar < most_scalars

copied_gives : (flow : FlowGraph) (next variable scalar : ℕ) → copied_at variable (slice_get flow.nodes next) ≡ Some scalar → Given flow next variable scalar
copied_gives flow next variable scalar h = by (slice_get flow.nodes next) refl h
  where
    of_copy : (dest from after : ℕ) → slice_get flow.nodes next ≡ Some (Op (Copy dest (Name from)) after) → copied_by variable (Copy dest (Name from)) ≡ Some scalar
        → Given flow next variable scalar
    of_copy dest from after e h = at (nat_eq from variable) refl h
      where
        at : (t : Bool) → nat_eq from variable ≡ t → cond t (if_scalar dest) None ≡ Some scalar → Given flow next variable scalar
        at true same h =
            let from_is : from ≡ variable = grind (arith, nat_tests) in
            let is = scalar_is dest scalar h in
            record {
              becomes = subst (λ (v : ℕ). Becomes flow next v scalar) from_is
                  (subst (λ (s : ℕ). Becomes flow next from s) is.0 (copied {variable = from} {scalar = dest} {after = after} e));
              is_scalar = subst (λ (v : ℕ). v < most_scalars) is.0 is.1;
            }
        at false same h = absurd (cc)

    by_item : (item : Item) (after : ℕ) → slice_get flow.nodes next ≡ Some (Op item after) → copied_by variable item ≡ Some scalar → Given flow next variable scalar
    by_item (Copy dest (Name from)) after e h = of_copy dest from after e h
    by_item (Copy dest (Lit value)) after e h = absurd (cc)
    by_item (Bin op dest left right) after e h = absurd (cc)
    by_item (Load dest array index) after e h = absurd (cc)
    by_item (Store array index value) after e h = absurd (cc)
    by_item (Print value) after e h = absurd (cc)
    by_item (Read dest) after e h = absurd (cc)
    by_item (More dest) after e h = absurd (cc)

    by : (node : Option FlowNode) → slice_get flow.nodes next ≡ node → copied_at variable node ≡ Some scalar → Given flow next variable scalar
    by (Some (Op item after)) e h = by_item item after e h
    by (Some (Test on yes_node no_node turn)) e h = absurd (cc)
    by (Some Stop) e h = absurd (cc)
    by (Some (Trap kind line)) e h = absurd (cc)
    by None e h = absurd (cc)

given_becomes : (flow : FlowGraph) (next variable scalar : ℕ) → given_to flow next variable ≡ Some scalar → Given flow next variable scalar
given_becomes flow next variable scalar h = by (if_scalar variable) refl h
  where
    by : (own : Option ℕ) → if_scalar variable ≡ own → option_or own (copied_at variable (slice_get flow.nodes next)) ≡ Some scalar → Given flow next variable scalar
    by (Some s) e h =
        let same : s ≡ scalar = cc in
        let is = scalar_is variable scalar (e ∙ ap Some same) in
        record {
          becomes = subst (λ (v : ℕ). Becomes flow next variable v) is.0 itself;
          is_scalar = subst (λ (v : ℕ). v < most_scalars) is.0 is.1;
        }
    by None e h = copied_gives flow next variable scalar h

assigns : (flow : FlowGraph) (origin scalar : ℕ) → assigned_by flow origin ≡ Some scalar → Assigns flow origin scalar
assigns flow origin scalar h = by (slice_get flow.nodes origin) refl h
  where
    by_dest : (item : Item) (next : ℕ) → slice_get flow.nodes origin ≡ Some (Op item next) → (dest : Option ℕ) → dest_of item ≡ dest
        → option_and_then (given_to flow next) dest ≡ Some scalar → Assigns flow origin scalar
    by_dest item next e None d h = absurd (cc)
    by_dest item next e (Some variable) d h =
        let it = given_becomes flow next variable scalar h in
        record { item = item; next = next; variable = variable; node = e; dest = d; becomes = it.becomes; is_scalar = it.is_scalar }

    by : (node : Option FlowNode) → slice_get flow.nodes origin ≡ node → assigned_at flow node ≡ Some scalar → Assigns flow origin scalar
    by (Some (Op item next)) e h = by_dest item next e (dest_of item) refl h
    by (Some (Test on yes_node no_node turn)) e h = absurd (cc)
    by (Some Stop) e h = absurd (cc)
    by (Some (Trap kind line)) e h = absurd (cc)
    by None e h = absurd (cc)

-- ---- lists

-- an element of a list that was pushed on
pub pushed_at : {A : Type 0} (xs : List A) (last : A) (i : ℕ) (x : A) → slice_get (xs ++ last ∷ []) i ≡ Some x
    → (slice_get xs i ≡ Some x) ⊎ ((length xs ≡ i) × (last ≡ x))
pushed_at [] last zero x h = inr (refl, cc)
pushed_at [] last (suc i) x h = absurd (cc)
pushed_at (y ∷ xs) last zero x h = inl h
pushed_at (y ∷ xs) last (suc i) x h = one_further (pushed_at xs last i x h)
  where
    one_further : (slice_get xs i ≡ Some x) ⊎ ((length xs ≡ i) × (last ≡ x)) → (slice_get xs i ≡ Some x) ⊎ ((suc (length xs) ≡ suc i) × (last ≡ x))
    one_further (inl before) = inl before
    one_further (inr (at, same)) = inr (ap suc at, same)

-- the element between two lists
seam : {A : Type 0} (front : List A) (x : A) (rest : List A) → slice_get (front ++ x ∷ rest) (length front) ≡ Some x
seam [] x rest = refl
seam (y ∷ front) x rest = seam front x rest

-- a list has an element at each place within it
at_least : {A : Type 0} (xs : List A) (i : ℕ) → i < length xs → slice_get xs i ≡ None → ⊥
at_least [] i less none = absurd (omega arith)
at_least (x ∷ xs) zero less none = absurd (cc)
at_least (x ∷ xs) (suc i) less none = at_least xs i (omega arith) none

-- ---- the states

module _ (flow : FlowGraph) (states : List AutomatonState) (tellings : List Telling) where
  -- the names of these states that hold scalars have grounds
  abbrev HaveGrounds : List (List Holding) → Type 0
  HaveGrounds earlier = (number : ℕ) (holdings : List Holding) → slice_get earlier number ≡ Some holdings → AllOf (Holds flow states tellings number) holdings

  -- of the first state from `at` on that leads there; `earlier` are the names of the states from there on
  entered_kept : (earlier : List (List Holding)) (rest : List AutomatonState) (at number : ℕ) (entering : AutomatonState) (holdings : List Holding)
      → ((i : ℕ) → slice_get rest i ≡ slice_get states (at + i))
      → ((i : ℕ) (found : List Holding) → slice_get earlier i ≡ Some found → AllOf (Holds flow states tellings (at + i)) found)
      → at + length earlier ≤ number → slice_get states number ≡ Some entering
      → ((before : ℕ) (state : AutomatonState) → before < at → slice_get states before ≡ Some state → arguments_to number state.row ≡ None)
      → AllOf (Holds flow states tellings number) holdings
      → AllOf (Holds flow states tellings number) (entered earlier rest number entering.parameters holdings)
  entered_kept [] [] at number entering holdings same grounds few there none all = all
  entered_kept [] (state ∷ rest) at number entering holdings same grounds few there none all = all
  entered_kept (passing ∷ earlier) [] at number entering holdings same grounds few there none all = all
  entered_kept (passing ∷ earlier) (state ∷ rest) at number entering holdings same grounds few there none all =
      by (arguments_to number state.row) refl
      (λ quiet.
      entered_kept earlier rest (at + 1) number entering holdings
      (λ i. same (suc i) ∙ ap (slice_get states) (further i))
      (λ i found is. subst (λ (n : ℕ). AllOf (Holds flow states tellings n) found) (further i) (grounds (suc i) found is))
      (omega (arith, few)) there (last_none quiet) all)
    where
      further : (i : ℕ) → at + suc i ≡ at + 1 + i
      further i = omega arith

      here_state : slice_get states at ≡ Some state
      here_state = let e : at + 0 ≡ at = omega arith in ap (slice_get states) (sym e) ∙ sym (same 0)

      last_none : arguments_to number state.row ≡ None → (before : ℕ) (other : AutomatonState) → before < at + 1 → slice_get states before ≡ Some other
          → arguments_to number other.row ≡ None
      last_none quiet before other less is = side (nat_lt before at) refl
        where
          side : (t : Bool) → nat_lt before at ≡ t → arguments_to number other.row ≡ None
          side true e = none before other (grind (arith, nat_tests)) is
          side false e =
              let last : at ≡ before = grind (arith, nat_tests) in
              let one : Some state ≡ Some other = sym here_state ∙ ap (slice_get states) last ∙ is in
              let it : state ≡ other = cc in
              subst (λ (s : AutomatonState). arguments_to number s.row ≡ None) it quiet

      by : (found : Option (List Operand)) → arguments_to number state.row ≡ found
          → (arguments_to number state.row ≡ None → AllOf (Holds flow states tellings number) (entered earlier rest number entering.parameters holdings))
          → AllOf (Holds flow states tellings number) (entered_by passing found entering.parameters holdings (entered earlier rest number entering.parameters holdings))
      by None e others = others e
      by (Some arguments) e others =
          let e0 : at + 0 ≡ at = omega arith in
          passed_kept (Holds flow states tellings number) passing entering.parameters arguments holdings all
          (λ place parameter other scalar takes given is.
          passed {from = at} (omega (arith, few))
          (record {
            passing = state;
            entered = entering;
            arguments = arguments;
            place = place;
            there = here_state;
            leads = there;
            leaf = e;
            first = none;
            takes = takes;
            given = given;
          })
          (found_holds (Holds flow states tellings at) passing other scalar
          (subst (λ (n : ℕ). AllOf (Holds flow states tellings n) passing) e0 (grounds 0 passing refl)) is))

  parameters_kept : (earlier : List (List Holding)) (state : AutomatonState) → HaveGrounds earlier → slice_get states (length earlier) ≡ Some state
      → AllOf (Holds flow states tellings (length earlier)) (parameters_held states earlier state.parameters)
  parameters_kept [] state grounds there =
      own_kept (Holds flow states tellings 0) state.parameters [] tt
      (λ place parameter scalar takes is.
      let s = scalar_is parameter scalar is in
      subst (λ (v : ℕ). Holds flow states tellings 0 parameter v) s.0 (begun place there takes s.1))
  parameters_kept (first ∷ earlier) state grounds there =
      entered_kept (first ∷ earlier) states 0 (length (first ∷ earlier)) state []
      (λ i. let e : i ≡ 0 + i = omega arith in ap (slice_get states) e)
      (λ i found is. let e : i ≡ 0 + i = omega arith in subst (λ (n : ℕ). AllOf (Holds flow states tellings n) found) e (grounds i found is))
      (omega arith) there (λ before other less is. absurd (omega (arith, less))) tt

  holdings_kept : (earlier : List (List Holding)) (state : AutomatonState) (telling : Telling) → HaveGrounds earlier
      → slice_get states (length earlier) ≡ Some state → slice_get tellings (length earlier) ≡ Some telling
      → AllOf (Holds flow states tellings (length earlier)) (holdings_of flow states earlier state telling)
  holdings_kept earlier state telling grounds there told =
      row_kept (Holds flow states tellings (length earlier)) flow state.row telling _ (parameters_kept earlier state grounds there)
      (λ name origin scalar writes is. assigned there told writes (assigns flow origin scalar is))

  -- one list more
  pushed_kept : (earlier : List (List Holding)) (last : List Holding) → HaveGrounds earlier → AllOf (Holds flow states tellings (length earlier)) last
      → HaveGrounds (earlier ++ last ∷ [])
  pushed_kept earlier last grounds one number holdings is = by (pushed_at earlier last number holdings is)
    where
      by : (slice_get earlier number ≡ Some holdings) ⊎ ((length earlier ≡ number) × (last ≡ holdings)) → AllOf (Holds flow states tellings number) holdings
      by (inl before) = grounds number holdings before
      by (inr (at, same)) =
          subst (λ (n : ℕ). AllOf (Holds flow states tellings n) holdings) at (subst (AllOf (Holds flow states tellings (length earlier))) same one)

  -- the states of which it is told after those
  states_kept : (left done : List Telling) (earlier : List (List Holding)) → tellings ≡ done ++ left → length done ≡ length earlier
      → length tellings ≡ length states → HaveGrounds earlier → HaveGrounds (and_states flow states left earlier)
  states_kept [] done earlier parts size many grounds = grounds
  states_kept (telling ∷ left) done earlier parts size many grounds =
      by (slice_get states (length earlier)) refl (λ more size_more. states_kept left (done ++ telling ∷ []) more moved size_more many)
    where
      told : slice_get tellings (length earlier) ≡ Some telling
      told = (λ i. slice_get (parts i) (sym size i)) ∙ seam done telling left

      moved : tellings ≡ (done ++ telling ∷ []) ++ left
      moved = parts ∙ sym (append_assoc done (telling ∷ []) left)

      by : (state : Option AutomatonState) → slice_get states (length earlier) ≡ state
          → ((more : List (List Holding)) → length (done ++ telling ∷ []) ≡ length more → HaveGrounds more → HaveGrounds (and_states flow states left more))
          → HaveGrounds (and_states flow states left (and_state flow states earlier state telling))
      by None e go_on =
          let within = slice_get_within tellings (length earlier) telling told in
          absurd (at_least states (length earlier) (omega (arith, within, many)) e)
      by (Some state) e go_on =
          let last = holdings_of flow states earlier state telling in
          let one = length_push done telling in
          let other = length_push earlier last in
          go_on (earlier ++ last ∷ []) (omega (arith, one, other, size))
          (pushed_kept earlier last grounds (holdings_kept earlier state telling grounds e told))

pub grounds : EachHasAGround
grounds flow states tellings number holdings many is =
    states_kept flow states tellings tellings [] [] refl refl many (λ other found none. absurd (cc)) number holdings is
