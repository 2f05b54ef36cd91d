-- When the forms of a window hold in a state.
use Rattle.std.specs.Prelude.{◌≡◌, ℕ, ℤ, Bool, true, false, List, [], ◌∷◌, Option, Some, None}
use Rattle.pc_word.specs.declared.item.Operand.{Operand}
use Rattle.pc_word.specs.declared.item.Operand.TheVariants.{Name, Lit}
use Rattle.pc_word.specs.Word.{holds}
use Rattle.pc_word.specs.State.{State}
use Rattle.pc_word.specs.Items.{operand_value, dest_of, value_of}
use Rattle.pc_word.specs.Commit.{state_after}
use Rattle.pc_linear.specs.Form.{Form, Means}
use Rattle.pc_linear.specs.Combine.{constant_form}
use Rattle.pc_window.specs.Tree.{Tree, Pending, Undecided, Exit, Stop_exit, Trap_exit}
use Rattle.pc_window.specs.Names.{uses}

-- the form of an operand
abbrev pub operand_form : (ℕ → Form) → Operand → Form
operand_form forms (Name x) = forms x
operand_form forms (Lit value) = constant_form value

-- a value is what the form of the name says, if there is a name
abbrev pub DefinedMeans : (ℕ → ℤ) → (ℕ → Form) → Option ℕ → ℤ → Type 0
DefinedMeans σ forms None value = Unit {0}
DefinedMeans σ forms (Some x) value = Means σ (forms x) value

-- one of two, as a test goes
abbrev pub Side : Bool → Type 0 → Type 0 → Type 0
Side true One Other = One
Side false One Other = Other

-- each name that the walk defines has the value of its form
abbrev pub DefinedHold : (ℕ → ℤ) → (ℕ → Form) → List ℕ → Tree → State → Type 0
DefinedHold σ forms lengths (Pending tag origin item rest) s =
    DefinedMeans σ forms (dest_of item) (value_of lengths s item) × DefinedHold σ forms lengths rest (state_after lengths s (item ∷ []))
DefinedHold σ forms lengths (Undecided tag origin on on_yes on_no) s =
    Side (holds (operand_value s.names on)) (DefinedHold σ forms lengths on_yes s) (DefinedHold σ forms lengths on_no s)
DefinedHold σ forms lengths (Exit region tag homes) s = Unit {0}
DefinedHold σ forms lengths Stop_exit s = Unit {0}
DefinedHold σ forms lengths (Trap_exit kind line) s = Unit {0}

-- each known name has the value of its form
abbrev pub KnownHold : (ℕ → Bool) → (ℕ → ℤ) → (ℕ → Form) → State → Type 0
KnownHold known σ forms s = (x : ℕ) → known x ≡ true → Means σ (forms x) (s.names x)

-- each parameter has the value of its form
abbrev pub ParametersHold : (ℕ → ℤ) → (ℕ → Form) → Tree → State → Type 0
ParametersHold σ forms tree s = KnownHold (uses tree) σ forms s

-- under these values of the form variables, each known name and each name that the walk defines has the value of its form
pub record HoldFor (known : ℕ → Bool) (σ : ℕ → ℤ) (forms : ℕ → Form) (lengths : List ℕ) (tree : Tree) (s : State) : Type 0 where
  pub parameters : KnownHold known σ forms s
  pub defined : DefinedHold σ forms lengths tree s

-- the same where the parameters are known
abbrev pub HoldUnder : (ℕ → ℤ) → (ℕ → Form) → List ℕ → Tree → State → Type 0
HoldUnder σ forms lengths tree s = HoldFor (uses tree) σ forms lengths tree s

-- there are such values
abbrev pub TreeHolds : (ℕ → Form) → List ℕ → Tree → State → Type 0
TreeHolds forms lengths tree s = (σ : ℕ → ℤ) × HoldUnder σ forms lengths tree s
