-- What a packed region that may be emitted has, its rows need.
use Rattle.std.proofs.Common.{◌≡◌, ◌⊎◌, inl, inr, ℕ, zero, suc, ◌+◌, ◌<◌, ◌≤◌, List, [], ◌∷◌, length, map, Option, Some, None, refl, sym, ◌∙◌, ap, subst, arith}
use Rattle.std.specs.Prelude.{Bool, true, nat_eq, slice_get, slice_index}
use Rattle.std.specs.List.{AllByRecursion, cons_option, list_any}
use Rattle.std.specs.List.Sorted.{IsStrictlyIncreasing}
use Rattle.std.proofs.lemmas.List.Elements.{filter_map-append}
use Rattle.std.proofs.lemmas.Option.{slice_get_within}
use Rattle.pc_word.specs.declared.item.Operand.{Operand}
use Rattle.pc_word.specs.declared.item.Operand.TheVariants.{Name, Lit}
use Rattle.pc_word.specs.Items.{dest_of}
use Rattle.pc_word.specs.Commit.{writes}
use Rattle.pc_word.specs.Row.{Row, Then, Either, At_leaf, items_of, leaves_of}
use Rattle.pc_word.proofs.Lists.{all_front, all_back, all_at}
use Rattle.pc_word.proofs.Truth.{decide_le, or_first, or_second, or_true}
use Rattle.pc_table.specs.Table.{Table, TableRegion, live_of, region_live, region_tree}
use Rattle.pc_table.specs.TableKeeps.{TableKeeps}
use Rattle.pc_window.specs.declared.home.Home.{Home}
use Rattle.pc_window.specs.Names.{IsKnown, HomesKnown, and_dest}
use Rattle.pc_window.specs.Rebasing.{is_in}
use Rattle.pc_window.proofs.Uses.{nat_eq-tells}
use Rattle.pc_window.proofs.Grafts.{nat_eq-same}
use Rattle.pc_window.specs.Unwinding.{or_zero}
use Rattle.pc_automaton.specs.declared.automaton.AutomatonLeaf.{AutomatonLeaf}
use Rattle.pc_automaton.specs.declared.automaton.AutomatonLeaf.TheVariants.{To, Out, Stop, Trap}
use Rattle.pc_automaton.specs.Automaton.{AutomatonState, IsStateAmong, LeavesAreKnown, LeafLeads, LeafIsKnown, Takes, names_written}
use Rattle.pc_automaton.specs.AutomatonRun.{state_parameters}
use Rattle.pc_automaton.specs.There.{StateIsThere, LeafIsThere}
use Rattle.pc_assign.specs.Assigned.{Registers}
use Rattle.pc_assign.specs.Apart.{Differ, AllDiffer, HasAllowed, IsApart}
use Rattle.pc_copies.specs.declared.moves.Move.{Move}
use Rattle.pc_copies.specs.Moves.{IsNamed, IsMoveSource}
use Rattle.pc_machine.specs.Registers.{most_registers}
use Rattle.pc_emit.specs.Registers.{register_of, argument_moves, home_moves}
use Rattle.pc_emit.specs.Emitting.{LeadsToForm, CanHave}
use Rattle.pc_emit.specs.Emitted.{ByAutomaton, Emission}
use Rattle.pc_emit.specs.declared.plan.Plan.{Plan}
use Rattle.pc_emit.specs.declared.packed.PackedSite.{PackedSite}
use Rattle.pc_emit.specs.models.Layout.{table_in, forms_at, emission_in, states_at, registers_at, names_at, IsPlan, IsSite}
use Rattle.pc_emit.specs.models.Packing.{CanMove, CanMakeLeaf, CanMakeLeaves, CanMakeRow}
use Rattle.pc_word.specs.Naming.{map_name}

-- ---- registers

-- the register of a name that has one is named by moves
named_register : (scratch : ℕ) → scratch < most_registers → (of : ℕ → Option ℕ) (name : ℕ) → HasAllowed scratch of name → IsNamed scratch (register_of of name)
named_register scratch most of name has = subst (IsNamed scratch) (sym (ap or_zero has.has)) (record { below = omega (arith, most, has.below); other = λ e. omega (arith, has.below, e) })

-- so is an operand whose name has one
named_operand : (scratch : ℕ) → scratch < most_registers → (of : ℕ → Option ℕ) (known : ℕ → Bool) → ((x : ℕ) → known x ≡ true → HasAllowed scratch of x) → (o : Operand) → IsKnown known o
    → IsMoveSource scratch (map_name (register_of of) o)
named_operand scratch most of known has (Name x) k = named_register scratch most of x (has x k)
named_operand scratch most of known has (Lit value) k = tt

-- names that share no register stand at one place where they have one register
one_place : (scratch : ℕ) (of : ℕ → Option ℕ) (names : List ℕ) → AllByRecursion (HasAllowed scratch of) names → AllDiffer of names → (at also p q : ℕ)
    → slice_get names at ≡ Some p → slice_get names also ≡ Some q → register_of of p ≡ register_of of q → at ≡ also
one_place scratch of [] has differ at also p q e f same = absurd (cc)
one_place scratch of (name ∷ names) has differ zero zero p q e f same = refl
one_place scratch of (name ∷ names) has differ zero (suc also) p q e f same =
    absurd (clash (all_at (Differ of name) names also q differ.0 f) has.0 (all_at (HasAllowed scratch of) names also q has.1 f))
  where
    clash : Differ of name q → HasAllowed scratch of name → HasAllowed scratch of q → ⊥
    clash apart h k =
        let is : name ≡ p = (cc) in
        let both : h.register ≡ k.register = sym (ap or_zero h.has) ∙ ap (register_of of) is ∙ same ∙ ap or_zero k.has in
        apart h.register h.has (k.has ∙ ap (λ (n : ℕ). Some n) (sym both))
one_place scratch of (name ∷ names) has differ (suc at) zero p q e f same = absurd (clash (all_at (Differ of name) names at p differ.0 e) has.0 (all_at (HasAllowed scratch of) names at p has.1 e))
  where
    clash : Differ of name p → HasAllowed scratch of name → HasAllowed scratch of p → ⊥
    clash apart h k =
        let is : name ≡ q = (cc) in
        let both : h.register ≡ k.register = sym (ap or_zero h.has) ∙ ap (register_of of) is ∙ sym same ∙ ap or_zero k.has in
        apart h.register h.has (k.has ∙ ap (λ (n : ℕ). Some n) (sym both))
one_place scratch of (name ∷ names) has differ (suc at) (suc also) p q e f same = ap suc (one_place scratch of names has.1 differ.1 at also p q e f same)

-- ---- arguments

-- a move passes an argument to the parameter at its place
record Passes (of to : ℕ → ℕ) (parameters : List ℕ) (arguments : List Operand) (at : ℕ) (move : Move) : Type 0 where
  parameter : ℕ
  argument : Operand
  takes : slice_get parameters at ≡ Some parameter
  gives : slice_get arguments at ≡ Some argument
  dest : move.dest ≡ to parameter
  from : move.from ≡ map_name of argument

passes_at : (of to : ℕ → ℕ) (parameters : List ℕ) (arguments : List Operand) (at : ℕ) (move : Move) → slice_get (argument_moves of to parameters arguments) at ≡ Some move
    → Passes of to parameters arguments at move
passes_at of to [] arguments at move e = absurd (cc)
passes_at of to (p ∷ parameters) [] at move e = absurd (cc)
passes_at of to (p ∷ parameters) (a ∷ arguments) zero move e =
    let made : Move = record { dest = to p; from = map_name of a } in
    let same : made ≡ move = (cc) in
    record { parameter = p; argument = a; takes = refl; gives = refl; dest = sym (ap (λ (m : Move). m.dest) same); from = sym (ap (λ (m : Move). m.from) same) }
passes_at of to (p ∷ parameters) (a ∷ arguments) (suc at) move e =
    let rest = passes_at of to parameters arguments at move e in
    record { parameter = rest.parameter; argument = rest.argument; takes = rest.takes; gives = rest.gives; dest = rest.dest; from = rest.from }

-- the register of a name that has one is below scratch, and so is that of an operand whose name has one
register_below : (scratch : ℕ) (of : ℕ → Option ℕ) (name : ℕ) → HasAllowed scratch of name → register_of of name < scratch
register_below scratch of name has = subst (λ (n : ℕ). n < scratch) (sym (ap or_zero has.has)) has.below

operand_below : (scratch : ℕ) (of : ℕ → Option ℕ) (known : ℕ → Bool) → ((x : ℕ) → known x ≡ true → HasAllowed scratch of x) → (o : Operand) → IsKnown known o
    → (register : ℕ) → map_name (register_of of) o ≡ Name register → register < scratch
operand_below scratch of known has (Name x) k register e =
    let same : register_of of x ≡ register = (cc) in subst (λ (n : ℕ). n < scratch) same (register_below scratch of x (has x k))
operand_below scratch of known has (Lit value) k register e = absurd (cc)

arguments_move : (scratch : ℕ) → scratch < most_registers → (of to : ℕ → Option ℕ) (known : ℕ → Bool) → ((x : ℕ) → known x ≡ true → HasAllowed scratch of x)
    → (parameters : List ℕ) (arguments : List Operand)
    → AllByRecursion (IsKnown known) arguments → AllByRecursion (HasAllowed scratch to) parameters → AllDiffer to parameters
    → CanMove scratch (argument_moves (register_of of) (register_of to) parameters arguments)
arguments_move scratch most of to known has parameters arguments are_known have differ = record {
  are = record {
    dests = λ at move e.
        let passes = passes_at (register_of of) (register_of to) parameters arguments at move e in
        subst (IsNamed scratch) (sym passes.dest) (named_register scratch most to passes.parameter (all_at (HasAllowed scratch to) parameters at passes.parameter have passes.takes));
    sources = λ at move e.
        let passes = passes_at (register_of of) (register_of to) parameters arguments at move e in
        subst (IsMoveSource scratch) (sym passes.from)
        (named_operand scratch most of known has passes.argument (all_at (IsKnown known) arguments at passes.argument are_known passes.gives));
    apart = λ at also move other e f same.
        let passes = passes_at (register_of of) (register_of to) parameters arguments at move e in
        let more = passes_at (register_of of) (register_of to) parameters arguments also other f in
        one_place scratch to parameters have differ at also passes.parameter more.parameter passes.takes more.takes (sym passes.dest ∙ same ∙ more.dest);
  };
  below = λ at move e.
      let passes = passes_at (register_of of) (register_of to) parameters arguments at move e in
      record {
        dest = subst (λ (n : ℕ). n < scratch) (sym passes.dest) (register_below scratch to passes.parameter (all_at (HasAllowed scratch to) parameters at passes.parameter have passes.takes));
        from = λ register is.
            operand_below scratch of known has passes.argument (all_at (IsKnown known) arguments at passes.argument are_known passes.gives) register (sym passes.from ∙ is);
      };
}

-- ---- homes

-- a move brings a home's variable into its register
record Brings (of : ℕ → ℕ) (homes : List Home) (at : ℕ) (move : Move) : Type 0 where
  home : Home
  there : slice_get homes at ≡ Some home
  dest : move.dest ≡ home.variable
  from : move.from ≡ map_name of home.value

brings_at : (of : ℕ → ℕ) (homes : List Home) (at : ℕ) (move : Move) → slice_get (home_moves of homes) at ≡ Some move → Brings of homes at move
brings_at of [] at move e = absurd (cc)
brings_at of (home ∷ homes) zero move e =
    let made : Move = record { dest = home.variable; from = map_name of home.value } in
    let same : made ≡ move = (cc) in
    record { home = home; there = refl; dest = sym (ap (λ (m : Move). m.dest) same); from = sym (ap (λ (m : Move). m.from) same) }
brings_at of (home ∷ homes) (suc at) move e =
    let rest = brings_at of homes at move e in
    record { home = rest.home; there = rest.there; dest = rest.dest; from = rest.from }

variable_at : (homes : List Home) (at : ℕ) (home : Home) → slice_get homes at ≡ Some home → slice_get (map (λ (home : Home). home.variable) homes) at ≡ Some home.variable
variable_at [] at home e = absurd (cc)
variable_at (other ∷ homes) zero home e = let same : other ≡ home = (cc) in ap (λ (h : Home). Some h.variable) same
variable_at (other ∷ homes) (suc at) home e = variable_at homes at home e

-- a number at a place is in the list
place_in : (xs : List ℕ) (at x : ℕ) → slice_get xs at ≡ Some x → list_any (nat_eq x) xs ≡ true
place_in [] at x e = absurd (cc)
place_in (y ∷ xs) zero x e =
    let same : y ≡ x = (cc) in
    or_first (nat_eq x y) (list_any (nat_eq x) xs) (subst (λ (n : ℕ). nat_eq x n ≡ true) (sym same) (nat_eq-same x))
place_in (y ∷ xs) (suc at) x e = or_second (nat_eq x y) (list_any (nat_eq x) xs) (place_in xs at x e)

index_is : (xs : List ℕ) (at x : ℕ) → slice_get xs at ≡ Some x → slice_index xs at ≡ x
index_is [] at x e = absurd (cc)
index_is (y ∷ xs) zero x e = cc
index_is (y ∷ xs) (suc at) x e = index_is xs at x e

-- numbers that rise are at one place each
rising_apart : (xs : List ℕ) → IsStrictlyIncreasing xs → (at also x : ℕ) → slice_get xs at ≡ Some x → slice_get xs also ≡ Some x → at ≡ also
rising_apart xs rising at also x e f = elim (decide_le at also) [
  | inl below ↦ elim (decide_le also at) [
    | inl above ↦ omega (arith, below, above)
    | inr less ↦ absurd (clash at also less (index_is xs at x e) (index_is xs also x f) (slice_get_within xs also x f))
  ]
  | inr more ↦ absurd (clash also at more (index_is xs also x f) (index_is xs at x e) (slice_get_within xs at x e))
]
  where
    rises : (low more : ℕ) → low + suc more < length xs → slice_index xs low < slice_index xs (low + suc more)
    rises low zero within =
        let one = rising low (omega (arith, within)) in
        let at : low + suc 0 ≡ low + 1 = omega arith in
        let is = ap (slice_index xs) at in
        omega (arith, one, is)
    rises low (suc more) within =
        let rest = rises low more (omega (arith, within)) in
        let one = rising (low + suc more) (omega (arith, within)) in
        let at : low + suc (suc more) ≡ low + suc more + 1 = omega arith in
        let is = ap (slice_index xs) at in
        omega (arith, one, is, rest)

    gap : (low high : ℕ) → low < high → (more : ℕ) × (high ≡ low + suc more)
    gap low zero lt = absurd (omega (arith, lt))
    gap low (suc high) lt = elim (decide_le high low) [
      | inl last ↦ (0, omega (arith, lt, last))
      | inr less ↦ let rest = gap low high less in (suc rest.0, let is = rest.1 in omega (arith, is))
    ]

    clash : (low high : ℕ) → low < high → slice_index xs low ≡ x → slice_index xs high ≡ x → high < length xs → ⊥
    clash low high lt one other within =
        let more = gap low high lt in
        let is = more.1 in
        let less = rises low more.0 (omega (arith, within, is)) in
        let at = ap (slice_index xs) is in
        omega (arith, less, at, one, other)

homes_move : (scratch : ℕ) → 96 ≤ scratch → scratch < most_registers → (table : Table) → TableKeeps table → (of : ℕ → Option ℕ) (known : ℕ → Bool)
    → ((x : ℕ) → known x ≡ true → HasAllowed scratch of x) → (region : ℕ) (homes : List Home)
    → HomesKnown known homes → map (λ (home : Home). home.variable) homes ≡ region_live table region → CanMove scratch (home_moves (register_of of) homes)
homes_move scratch variables most table keeps of known has region homes are_known live = record {
  are = record {
    dests = λ at move e.
        let brings = brings_at (register_of of) homes at move e in
        let small = small_at at brings.home brings.there in
        subst (IsNamed scratch) (sym brings.dest) (record { below = omega (arith, small, variables, most); other = λ e. omega (arith, small, variables, e) });
    sources = λ at move e.
        let brings = brings_at (register_of of) homes at move e in
        subst (IsMoveSource scratch) (sym brings.from)
        (named_operand scratch most of known has brings.home.value (all_at (λ (home : Home). IsKnown known home.value) homes at brings.home are_known brings.there));
    apart = λ at also move other e f same.
        let brings = brings_at (register_of of) homes at move e in
        let more = brings_at (register_of of) homes also other f in
        let one : brings.home.variable ≡ more.home.variable = sym brings.dest ∙ same ∙ more.dest in
        rising_apart (region_live table region) (rising (slice_get table.regions region) refl) at also more.home.variable
        (here at brings.home brings.there ∙ ap (λ (n : ℕ). Some n) one) (here also more.home more.there);
  };
  below = λ at move e.
      let brings = brings_at (register_of of) homes at move e in
      let small = small_at at brings.home brings.there in
      record {
        dest = subst (λ (n : ℕ). n < scratch) (sym brings.dest) (omega (arith, small, variables));
        from = λ register is.
            operand_below scratch of known has brings.home.value (all_at (λ (home : Home). IsKnown known home.value) homes at brings.home are_known brings.there) register
            (sym brings.from ∙ is);
      };
}
  where
    here : (at : ℕ) (home : Home) → slice_get homes at ≡ Some home → slice_get (region_live table region) at ≡ Some home.variable
    here at home e = subst (λ (l : List ℕ). slice_get l at ≡ Some home.variable) live (variable_at homes at home e)

    small_at : (at : ℕ) (home : Home) → slice_get homes at ≡ Some home → home.variable < 96
    small_at at home e = keeps.small region home.variable (place_in (region_live table region) at home.variable (here at home e))

    rising : (it : Option TableRegion) → slice_get table.regions region ≡ it → IsStrictlyIncreasing (live_of it)
    rising None e = λ k lt. absurd (omega (arith, lt))
    rising (Some it) e = (keeps.each region it e).rising

-- ---- leaves and rows

module _ (e : Emission) (keeps : TableKeeps e.table) (states : List AutomatonState) (registers : Registers)
    (each_apart : (number : ℕ) (state : AutomatonState) → slice_get states number ≡ Some state → IsApart registers.scratch (registers.of number) state)
    (variables : 96 ≤ registers.scratch) (most : registers.scratch < most_registers) (number : ℕ) where
  abbrev scratch : ℕ
  scratch = registers.scratch

  -- the names that are known have registers
  abbrev AllHave : (ℕ → Bool) → Type 0
  AllHave known = (x : ℕ) → known x ≡ true → HasAllowed scratch (registers.of number) x

  can_make_leaf : (known : ℕ → Bool) → AllHave known → (leaf : AutomatonLeaf) → LeafIsKnown known leaf → LeafLeads states leaf → LeafIsThere e.table leaf
      → LeadsToForm e.table e.forms leaf → CanMakeLeaf e states registers (register_of (registers.of number)) leaf
  can_make_leaf known has (To to arguments) are_known leads there form = found (slice_get states to) refl leads
    where
      found : (it : Option AutomatonState) → slice_get states to ≡ it → Takes it (length arguments)
          → (to < length states) × (length arguments ≡ length (state_parameters it))
          × CanMove scratch (argument_moves (register_of (registers.of number)) (register_of (registers.of to)) (state_parameters it) arguments)
      found None at takes = absurd takes
      found (Some state) at takes =
          let apart = each_apart to state at in (
            slice_get_within states to state at,
            takes,
            arguments_move scratch most (registers.of number) (registers.of to) known has state.parameters arguments are_known
                (all_front (HasAllowed scratch (registers.of to)) state.parameters (names_written state.row) apart.allowed) apart.parameters,
          )
  can_make_leaf known has (Out region homes) are_known leads there form = (form, homes_move scratch variables most e.table keeps (registers.of number) known has region homes are_known there.live)
  can_make_leaf known has Stop are_known leads there form = tt
  can_make_leaf known has (Trap kind line) are_known leads there form = tt

  can_make_leaves : (known : ℕ → Bool) → AllHave known → (row : Row AutomatonLeaf) → AllByRecursion (HasAllowed scratch (registers.of number)) (names_written row) → LeavesAreKnown known row
      → AllByRecursion (LeafLeads states) (leaves_of row) → AllByRecursion (LeafIsThere e.table) (leaves_of row) → AllByRecursion (LeadsToForm e.table e.forms) (leaves_of row)
      → CanMakeLeaves (CanMakeLeaf e states registers (register_of (registers.of number))) row
  can_make_leaves known has (Then item rest) written are_known leads there forms =
      can_make_leaves (and_dest known item) (λ x k. one_more x (dest_of item) written (or_true (writes (dest_of item) x) (known x) k)) rest
      (others (dest_of item) written) are_known leads there forms
    where
      others : (d : Option ℕ) → AllByRecursion (HasAllowed scratch (registers.of number)) (cons_option d (names_written rest))
          → AllByRecursion (HasAllowed scratch (registers.of number)) (names_written rest)
      others (Some d) all = all.1
      others None all = all

      one_more : (x : ℕ) (d : Option ℕ) → AllByRecursion (HasAllowed scratch (registers.of number)) (cons_option d (names_written rest)) → (writes d x ≡ true) ⊎ (known x ≡ true)
          → HasAllowed scratch (registers.of number) x
      one_more x d all (inr k) = has x k
      one_more x (Some d) all (inl w) = subst (HasAllowed scratch (registers.of number)) (nat_eq-tells d x w) all.0
      one_more x None all (inl w) = absurd (cc)
  can_make_leaves known has (Either on p q) written are_known leads there forms =
      let all = subst (AllByRecursion (HasAllowed scratch (registers.of number))) (filter_map-append dest_of (items_of p) (items_of q)) written in (
        can_make_leaves known has p (all_front (HasAllowed scratch (registers.of number)) (names_written p) (names_written q) all) are_known.0
            (all_front (LeafLeads states) (leaves_of p) (leaves_of q) leads) (all_front (LeafIsThere e.table) (leaves_of p) (leaves_of q) there)
            (all_front (LeadsToForm e.table e.forms) (leaves_of p) (leaves_of q) forms),
        can_make_leaves known has q (all_back (HasAllowed scratch (registers.of number)) (names_written p) (names_written q) all) are_known.1
            (all_back (LeafLeads states) (leaves_of p) (leaves_of q) leads) (all_back (LeafIsThere e.table) (leaves_of p) (leaves_of q) there)
            (all_back (LeadsToForm e.table e.forms) (leaves_of p) (leaves_of q) forms),
      )
  can_make_leaves known has (At_leaf leaf) written are_known leads there forms = can_make_leaf known has leaf are_known leads.0 there.0 forms.0

-- the rows of an automaton that may be emitted
pub can_make : (plan : Plan) (site : PackedSite) → IsPlan plan → IsSite plan site → (number : ℕ) (state : AutomatonState) → slice_get (states_at site) number ≡ Some state
    → CanMakeRow plan site (names_at site number) state.row
can_make plan site is at number state there =
    let can : CanHave (table_in plan) plan.limits (forms_at plan) (region_tree (table_in plan) site.region) (ByAutomaton (states_at site) (registers_at site)) = is.forms.each site.region _ at.form in
    let among = all_at (IsStateAmong (states_at site)) (states_at site) number state can.automaton.each there in
    let apart = can.apart number state there in
    can_make_leaves (emission_in plan) is.kept (states_at site) (registers_at site) can.apart can.variables can.most number (λ x. is_in x state.parameters)
    (λ x k. all_in (HasAllowed (registers_at site).scratch ((registers_at site).of number)) state.parameters x
    (all_front (HasAllowed (registers_at site).scratch ((registers_at site).of number)) state.parameters (names_written state.row) apart.allowed) k)
    state.row (all_back (HasAllowed (registers_at site).scratch ((registers_at site).of number)) state.parameters (names_written state.row) apart.allowed)
    among.leaves among.lead (all_at (StateIsThere (table_in plan)) (states_at site) number state can.there there).leaves (can.out number state there)
  where
    all_in : (P : ℕ → Type 0) (xs : List ℕ) (x : ℕ) → AllByRecursion P xs → is_in x xs ≡ true → P x
    all_in P [] x all there = absurd (cc)
    all_in P (y ∷ xs) x all there = elim (or_true (nat_eq x y) (is_in x xs) there) [
      | inl p ↦ subst P (sym (nat_eq-tells x y p)) all.0
      | inr p ↦ all_in P xs x all.1 p
    ]
