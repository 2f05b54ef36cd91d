-- Rows of packed regions in the making.
use Rattle.std.specs.Prelude.{◌≡◌, ℕ, ◌<◌, List, Option, Some, length, slice_get}
use Rattle.pc_word.specs.declared.item.Operand.TheVariants.{Name}
use Rattle.pc_word.specs.Row.{Row, Then, Either, At_leaf}
use Rattle.pc_automaton.specs.declared.automaton.AutomatonLeaf.{AutomatonLeaf}
use Rattle.pc_automaton.specs.declared.automaton.AutomatonLeaf.TheVariants.{To, Out, Stop, Trap}
use Rattle.pc_automaton.specs.Automaton.{AutomatonState}
use Rattle.pc_automaton.specs.AutomatonRun.{state_parameters}
use Rattle.pc_assign.specs.Assigned.{Registers}
use Rattle.pc_copies.specs.declared.moves.Move.{Move}
use Rattle.pc_copies.specs.Moves.{AreMoves}
use Rattle.pc_machine.specs.declared.tree.Leaf.{Leaf}
use Rattle.pc_machine.specs.MachineCode.{CodeRow}
use Rattle.pc_emit.specs.Registers.{register_of, argument_moves, home_moves}
use Rattle.pc_emit.specs.Emitted.{Emission, LeadsToRegion, LeadsThroughMoves, LeafStands, RowStands, StateStands}
use Rattle.pc_emit.specs.Emitting.{HasForm}
use Rattle.pc_emit.specs.declared.output.Output.{Output}
use Rattle.pc_emit.specs.declared.plan.Plan.{Plan}
use Rattle.pc_emit.specs.declared.packed.PackedSite.{PackedSite}
use Rattle.pc_emit.specs.models.Output.{Stays}
use Rattle.pc_emit.specs.models.Layout.{emission_in, states_at, registers_at}

-- a move that names registers below scratch alone
pub record IsBelow (scratch : ℕ) (move : Move) : Type 0 where
  pub dest : move.dest < scratch
  pub from : (register : ℕ) → move.from ≡ Name register → register < scratch

-- such moves, which may be done at once through scratch
pub record CanMove (scratch : ℕ) (moves : List Move) : Type 0 where
  pub are : AreMoves scratch moves
  pub below : (at : ℕ) (move : Move) → slice_get moves at ≡ Some move → IsBelow scratch move

-- what a leaf needs: its moves may be done at once, and what it leads to is there
abbrev pub CanMakeLeaf : Emission → List AutomatonState → Registers → (ℕ → ℕ) → AutomatonLeaf → Type 0
CanMakeLeaf e states registers of (To number arguments) =
    (number < length states) × (length arguments ≡ length (state_parameters (slice_get states number)))
    × CanMove registers.scratch (argument_moves of (register_of (registers.of number)) (state_parameters (slice_get states number)) arguments)
CanMakeLeaf e states registers of (Out region homes) = HasForm e.table e.forms region × CanMove registers.scratch (home_moves of homes)
CanMakeLeaf e states registers of Stop = Unit {0}
CanMakeLeaf e states registers of (Trap kind line) = Unit {0}

-- what each leaf of a row needs
abbrev pub CanMakeLeaves : (AutomatonLeaf → Type 0) → Row AutomatonLeaf → Type 0
CanMakeLeaves Can (Then item rest) = CanMakeLeaves Can rest
CanMakeLeaves Can (Either on on_yes on_no) = CanMakeLeaves Can on_yes × CanMakeLeaves Can on_no
CanMakeLeaves Can (At_leaf leaf) = Can leaf

-- what the leaves of a row need whose names have these registers
abbrev pub CanMakeRow : Plan → PackedSite → (of : ℕ → ℕ) → Row AutomatonLeaf → Type 0
CanMakeRow plan site of row = CanMakeLeaves (CanMakeLeaf (emission_in plan) (states_at site) (registers_at site) of) row

-- moves lead from one leaf to another, whatever will be made
pub record MovesAlong (plan : Plan) (scratch : ℕ) (output : Output) (from : Leaf) (moves : List Move) (to : Leaf) : Type 0 where
  pub stands : (final : List CodeRow) → Stays output final → LeadsThroughMoves (emission_in plan) scratch final from moves to

-- or from one to a region
pub record MovesToRegion (plan : Plan) (scratch : ℕ) (output : Output) (from : Leaf) (moves : List Move) (region : ℕ) : Type 0 where
  pub to : Leaf
  pub leads : LeadsToRegion (emission_in plan) region to
  pub along : MovesAlong plan scratch output from moves to

-- a leaf stands that names have these registers at, whatever will be made
pub record LeafMade (plan : Plan) (site : PackedSite) (of : ℕ → ℕ) (output : Output) (leaf : AutomatonLeaf) (made : Leaf) : Type 0 where
  pub stands : (final : List CodeRow) → Stays output final
      → LeafStands (emission_in plan) final site.region (states_at site) (registers_at site) of leaf made

-- a row stands
pub record RowMade (plan : Plan) (site : PackedSite) (of : ℕ → ℕ) (output : Output) (row : Row AutomatonLeaf) (made : CodeRow) : Type 0 where
  pub stands : (final : List CodeRow) → Stays output final
      → RowStands (LeafStands (emission_in plan) final site.region (states_at site) (registers_at site) of) of row made

-- a state stands
pub record StateMade (plan : Plan) (site : PackedSite) (number : ℕ) (output : Output) (state : AutomatonState) : Type 0 where
  pub stands : (final : List CodeRow) → Stays output final
      → StateStands (emission_in plan) final site.region (states_at site) (registers_at site) number state

-- so does each of the first states
pub record StatesMade (plan : Plan) (site : PackedSite) (count : ℕ) (output : Output) : Type 0 where
  pub each : (number : ℕ) (state : AutomatonState) → number < count → slice_get (states_at site) number ≡ Some state → StateMade plan site number output state
