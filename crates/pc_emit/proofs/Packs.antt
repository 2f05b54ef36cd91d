-- Rows of packed regions: what leads on from a leaf, and rows from their parts.
use Rattle.std.proofs.Common.{◌≡◌, ℕ, zero, suc, ◌+◌, ◌*◌, ◌<◌, ◌≤◌, List, [], ◌∷◌, ◌++◌, length, Some, refl, sym, ◌∙◌, ap, subst, arith}
use Rattle.std.specs.Prelude.{slice_get}
use Rattle.std.proofs.lemmas.List.{length-append, length-map}
use Rattle.pc_word.specs.declared.item.Item.{Item}
use Rattle.pc_word.specs.declared.item.Operand.{Operand}
use Rattle.pc_word.specs.declared.item.TrapKind.{TrapKind}
use Rattle.pc_word.specs.Row.{Row, Then, Either, At_leaf}
use Rattle.pc_window.specs.declared.home.Home.{Home}
use Rattle.pc_automaton.specs.declared.automaton.AutomatonLeaf.{AutomatonLeaf}
use Rattle.pc_automaton.specs.declared.automaton.AutomatonLeaf.TheVariants.{To, Out, Stop, Trap}
use Rattle.pc_automaton.specs.declared.automaton.AutomatonState.{AutomatonState as StoredState}
use Rattle.pc_automaton.specs.Automaton.{state_in, states_in}
use Rattle.pc_automaton.specs.AutomatonRun.{state_parameters}
use Rattle.pc_copies.specs.declared.moves.Move.{Move}
use Rattle.pc_machine.specs.declared.tree.Leaf.{Leaf}
use Rattle.pc_machine.specs.declared.tree.Leaf.TheVariants as machine
use Rattle.pc_machine.specs.MachineCode.{CodeRow}
use Rattle.pc_object.specs.ObjectText.{operand_text, item_text, leaf_text, row_text}
use Rattle.pc_emit.specs.Registers.{argument_moves, home_moves}
use Rattle.pc_emit.specs.Emitted.{LeadsToRegion, leads_to_state, leads_to_region, ends_here, traps_here, item_stands, test_stands, leaf_stands}
use Rattle.pc_emit.specs.Bytes.{leaf_bytes, row_bytes}
use Rattle.pc_emit.specs.declared.output.Output.{Output}
use Rattle.pc_emit.specs.declared.plan.Plan.{Plan}
use Rattle.pc_emit.specs.declared.packed.PackedSite.{PackedSite}
use Rattle.pc_emit.specs.models.Output.{OutputGrows}
use Rattle.pc_emit.specs.models.Layout.{emission_in, states_at, registers_at, names_at, IsLeft, IsSite}
use Rattle.pc_emit.specs.models.Packing.{CanMove, MovesAlong, MovesToRegion, LeafMade, RowMade}
use Rattle.pc_emit.specs.models.Making.{CopiesMayLeadTo}
use Rattle.pc_emit.proofs.Ways.{ways}
use Rattle.pc_emit.proofs.Texts.{operand_short, item_short, operand_same, item_same}
use Rattle.pc_word.specs.Naming.{map_name, map_names}

-- ---- moves

module _ (plan : Plan) (site : PackedSite) (scratch : ℕ) (output : Output) (from to : Leaf) (moves given : List Move) (left : scratch ≡ (registers_at site).scratch) (are : moves ≡ given)
    (along : MovesAlong plan scratch output from moves to) where
  along_given : MovesAlong plan (registers_at site).scratch output from given to
  along_given =
      subst (λ (n : ℕ). MovesAlong plan n output from given to) left (subst (λ (m : List Move). MovesAlong plan scratch output from m to) are along)

  -- moves on the way to a state
  pub moved_to_state : (state row : ℕ) → IsSite plan site → row ≡ site.first + state → to ≡ machine.Goto row
      → MovesAlong plan (registers_at site).scratch output from given (machine.Goto ((emission_in plan).places.state site.region state))
  moved_to_state state row is at leads =
      subst (λ (l : Leaf). MovesAlong plan (registers_at site).scratch output from given l) (leads ∙ ap machine.Goto (at ∙ ap (λ (n : ℕ). n + state) is.begins))
      along_given

  -- on the way to a region
  pub moved_to_region : (region : ℕ) → LeadsToRegion (emission_in plan) region to → MovesToRegion plan (registers_at site).scratch output from given region
  moved_to_region region leads = record { to = to; leads = leads; along = along_given }

-- what leads to a state may stand after copies
pub state_target : (plan : Plan) (site : PackedSite) (state row : ℕ) → IsSite plan site → state < length site.automaton.now → row ≡ site.first + state
    → CopiesMayLeadTo plan (machine.Goto row)
state_target plan site state row is there at = record { within = let few = is.few in omega (arith, few, there, at); short = omega arith }

-- the register that is left in a site's form is one of those that are enough
pub site_left : (plan : Plan) (site : PackedSite) (scratch : ℕ) → IsSite plan site → scratch ≡ (registers_at site).scratch → IsLeft plan scratch
site_left plan site scratch is left count enough =
    let room = enough.left site.region (states_at site) (registers_at site) is.form in omega (arith, left, room)

-- moves that can go through it
pub can_move : (site : PackedSite) (scratch : ℕ) (moves given : List Move) → scratch ≡ (registers_at site).scratch → moves ≡ given → CanMove (registers_at site).scratch given
    → CanMove scratch moves
can_move site scratch moves given left are can = subst (λ (n : ℕ). CanMove n moves) (sym left) (subst (CanMove (registers_at site).scratch) (sym are) can)

-- a state in memory is one of the states
pub state_there : (site : PackedSite) (number : ℕ) (stored : StoredState) → slice_get site.automaton.now number ≡ Some stored
    → slice_get (states_at site) number ≡ Some (state_in stored)
state_there site number stored e = in_list site.automaton.now number e
  where
    in_list : (list : List StoredState) (at : ℕ) → slice_get list at ≡ Some stored → slice_get (states_in list) at ≡ Some (state_in stored)
    in_list [] at e = absurd (cc)
    in_list (first ∷ list) zero e = let same : first ≡ stored = (cc) in ap (λ (s : StoredState). Some (state_in s)) same
    in_list (first ∷ list) (suc at) e = in_list list at e

-- there is a move for each argument
pub many_arguments : (of to : ℕ → ℕ) (parameters : List ℕ) (arguments : List Operand) → length arguments ≡ length parameters
    → length (argument_moves of to parameters arguments) ≡ length arguments
many_arguments of to [] [] same = refl
many_arguments of to [] (argument ∷ arguments) same = absurd (omega (arith, same))
many_arguments of to (parameter ∷ parameters) [] same = absurd (omega (arith, same))
many_arguments of to (parameter ∷ parameters) (argument ∷ arguments) same = ap suc (many_arguments of to parameters arguments (omega (arith, same)))

-- so copies are no longer than was counted
pub homes_short : (of : ℕ → ℕ) (homes : List Home) (moves : List Move) (bytes before : ℕ) → moves ≡ home_moves of homes → bytes ≤ before + (5 + 24 * length moves)
    → bytes ≤ before + (5 + 24 * length homes)
homes_short of homes moves bytes before are short =
    let many = ap (λ (l : List Move). length l) are ∙ length-map homes (λ (home : Home). let move : Move = record { dest = home.variable; from = map_name of home.value } in move) in
    omega (arith, short, many)

-- ---- leaves

module _ (plan : Plan) (site : PackedSite) (of : ℕ → ℕ) (output : Output) (leaf : AutomatonLeaf) (made : Leaf) where
  pub leaf_to_state : (state : ℕ) (arguments : List Operand) → leaf ≡ To state arguments
      → MovesAlong plan (registers_at site).scratch output made (argument_moves of (names_at site state) (state_parameters (slice_get (states_at site) state)) arguments)
      (machine.Goto ((emission_in plan).places.state site.region state))
      → LeafMade plan site of output leaf made
  leaf_to_state state arguments e along =
      subst (λ (l : AutomatonLeaf). LeafMade plan site of output l made) (sym e) (record { stands = λ final stays. leads_to_state (along.stands final stays) })

  pub leaf_to_region : (region : ℕ) (homes : List Home) → leaf ≡ Out region homes → MovesToRegion plan (registers_at site).scratch output made (home_moves of homes) region
      → LeafMade plan site of output leaf made
  leaf_to_region region homes e led =
      subst (λ (l : AutomatonLeaf). LeafMade plan site of output l made) (sym e)
      (record { stands = λ final stays. leads_to_region led.leads (led.along.stands final stays) })

  pub leaf_ends : leaf ≡ Stop → made ≡ machine.Stop → LeafMade plan site of output leaf made
  leaf_ends e is =
      subst (λ (l : AutomatonLeaf). LeafMade plan site of output l made) (sym e)
      (subst (λ (m : Leaf). LeafMade plan site of output Stop m) (sym is) (record { stands = λ final stays. ends_here }))

  pub leaf_traps : (kind : TrapKind) (line : ℕ) → leaf ≡ Trap kind line → made ≡ machine.Trap kind line → LeafMade plan site of output leaf made
  leaf_traps kind line e is =
      subst (λ (l : AutomatonLeaf). LeafMade plan site of output l made) (sym e)
      (subst (λ (m : Leaf). LeafMade plan site of output (Trap kind line) m) (sym is) (record { stands = λ final stays. traps_here }))

-- ---- bytes of leaves

module _ (leaf : AutomatonLeaf) (bytes before : ℕ) where
  pub to_state_short : (state : ℕ) (arguments : List Operand) → leaf ≡ To state arguments → bytes ≤ before + (5 + 24 * length arguments) → bytes ≤ before + leaf_bytes leaf
  to_state_short state arguments e short = subst (λ (l : AutomatonLeaf). bytes ≤ before + leaf_bytes l) (sym e) short

  pub to_region_short : (region : ℕ) (homes : List Home) → leaf ≡ Out region homes → bytes ≤ before + (5 + 24 * length homes) → bytes ≤ before + leaf_bytes leaf
  to_region_short region homes e short = subst (λ (l : AutomatonLeaf). bytes ≤ before + leaf_bytes l) (sym e) short

pub end_short : (leaf : AutomatonLeaf) (before : ℕ) → leaf ≡ Stop → before + 1 ≤ before + leaf_bytes leaf
end_short leaf before e = subst (λ (l : AutomatonLeaf). before + 1 ≤ before + leaf_bytes l) (sym e) (omega arith)

pub trap_short : (leaf : AutomatonLeaf) (kind : TrapKind) (line before : ℕ) → leaf ≡ Trap kind line → before + 6 ≤ before + leaf_bytes leaf
trap_short leaf kind line before e = subst (λ (l : AutomatonLeaf). before + 6 ≤ before + leaf_bytes l) (sym e) (omega arith)

pub ruleset leaves = (
  state_target,
  site_left,
  can_move,
  moved_to_state,
  moved_to_region,
  homes_short,
  leaf_to_state,
  leaf_to_region,
  leaf_ends,
  leaf_traps,
  to_state_short,
  to_region_short,
  end_short,
  trap_short,
  ways,
)

-- ---- rows

module _ (plan : Plan) (site : PackedSite) (of : ℕ → ℕ) (row : Row AutomatonLeaf) (made : CodeRow) where
  pub item_made : (output : Output) (item : Item) (rest : Row AutomatonLeaf) (below : CodeRow) → row ≡ Then item rest → RowMade plan site of output rest below
      → made ≡ Then (map_names of item) below → RowMade plan site of output row made
  item_made output item rest below e one is =
      subst (λ (r : Row AutomatonLeaf). RowMade plan site of output r made) (sym e)
      (subst (λ (m : CodeRow). RowMade plan site of output (Then item rest) m) (sym is)
      (record { stands = λ final stays. item_stands item (one.stands final stays) }))

  pub test_made : (mid output : Output) (on : Operand) (on_yes on_no : Row AutomatonLeaf) (yes_below no_below : CodeRow) → row ≡ Either on on_yes on_no
      → RowMade plan site of mid on_yes yes_below → OutputGrows mid output → RowMade plan site of output on_no no_below
      → made ≡ Either (map_name of on) yes_below no_below → RowMade plan site of output row made
  test_made mid output on on_yes on_no yes_below no_below e one grows other is =
      subst (λ (r : Row AutomatonLeaf). RowMade plan site of output r made) (sym e)
      (subst (λ (m : CodeRow). RowMade plan site of output (Either on on_yes on_no) m) (sym is)
      (record { stands = λ final stays. test_stands on (one.stands final (grows.stays final stays)) (other.stands final stays) }))

  pub leaf_made : (output : Output) (leaf : AutomatonLeaf) (below : Leaf) → row ≡ At_leaf leaf → LeafMade plan site of output leaf below → made ≡ At_leaf below
      → RowMade plan site of output row made
  leaf_made output leaf below e one is =
      subst (λ (r : Row AutomatonLeaf). RowMade plan site of output r made) (sym e)
      (subst (λ (m : CodeRow). RowMade plan site of output (At_leaf leaf) m) (sym is)
      (record { stands = λ final stays. leaf_stands (one.stands final stays) }))

-- ---- bytes of rows

module _ (of : ℕ → ℕ) (row : Row AutomatonLeaf) (made : CodeRow) (bytes before : ℕ) where
  pub item_row_short : (item : Item) (rest : Row AutomatonLeaf) (below : CodeRow) → row ≡ Then item rest → made ≡ Then (map_names of item) below
      → bytes + length (row_text below) ≤ before + row_bytes rest → bytes + length (row_text made) ≤ before + row_bytes row
  item_row_short item rest below e is short =
      let counted = ap row_bytes e in
      let text = ap (λ (r : CodeRow). length (row_text r)) is in
      let both = length-append (item_text (map_names of item)) (row_text below) in
      let one = item_short (map_names of item) in
      let same = item_same of item in
      omega (arith, short, counted, text, both, one, same)

  pub test_row_short : (on : Operand) (on_yes on_no : Row AutomatonLeaf) (yes_below no_below : CodeRow) (mid : ℕ) → row ≡ Either on on_yes on_no
      → made ≡ Either (map_name of on) yes_below no_below → mid + length (row_text yes_below) ≤ before + row_bytes on_yes
      → bytes + length (row_text no_below) ≤ mid + row_bytes on_no → bytes + length (row_text made) ≤ before + row_bytes row
  test_row_short on on_yes on_no yes_below no_below mid e is first second =
      let counted = ap row_bytes e in
      let text = ap (λ (r : CodeRow). length (row_text r)) is in
      let all = length-append (operand_text (map_name of on)) (row_text yes_below ++ row_text no_below) in
      let both = length-append (row_text yes_below) (row_text no_below) in
      let one = operand_short (map_name of on) in
      let same = operand_same of on in
      omega (arith, first, second, counted, text, all, both, one, same)

  pub leaf_row_short : (leaf : AutomatonLeaf) (below : Leaf) → row ≡ At_leaf leaf → made ≡ At_leaf below → bytes + length (leaf_text below) ≤ before + leaf_bytes leaf
      → bytes + length (row_text made) ≤ before + row_bytes row
  leaf_row_short leaf below e is short =
      let counted = ap row_bytes e in
      let text = ap (λ (r : CodeRow). length (row_text r)) is in
      omega (arith, short, counted, text)

pub ruleset rows = (item_made, test_made, leaf_made, item_row_short, test_row_short, leaf_row_short, ways)
