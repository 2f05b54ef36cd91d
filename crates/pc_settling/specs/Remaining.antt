-- What is still to be done at a leaf of a row: a window, and the facts that hold where it begins.
use Rattle.std.specs.Prelude.{ℕ, Bool, ◌&&◌, List, [], ◌∷◌, ◌++◌, map, filter}
use Rattle.pc_word.specs.declared.item.Operand.{Operand}
use Rattle.pc_word.specs.declared.item.Operand.TheVariants.{Name, Lit}
use Rattle.pc_window.specs.WindowRun.{Window}
use Rattle.pc_certified.specs.Facts.{Fact}
use Rattle.pc_matching.specs.Matching.{same_operand}
use Rattle.pc_matching.specs.FactsAfter.{that, is_of_name}

-- a window, and the facts that hold where it begins
pub record Remaining : Type 0 where
  pub window : Window
  pub facts : List Fact

-- ---- sources of a value

-- a literal is a source of its own value
abbrev pub own_source : Operand → List Operand
own_source (Name name) = []
own_source (Lit value) = Lit value ∷ []

-- whether a fact says something of a name, and of the value of this operand
abbrev pub is_of_operand : Operand → Fact → Bool
is_of_operand operand fact = is_of_name fact && same_operand fact.operand operand

-- the registers and literals that have an operand's value by these facts
abbrev pub sources_of : Operand → List Fact → List Operand
sources_of operand facts = own_source operand ++ map (λ fact. fact.source) (filter (is_of_operand operand) facts)

-- that each of these has the value of a name
abbrev pub have_value_of : ℕ → List Operand → List Fact
have_value_of name sources = map (λ source. that source (Name name)) sources
