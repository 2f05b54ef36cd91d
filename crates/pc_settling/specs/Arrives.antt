-- Whether what an entry begins with arrives at a claim, and whether that is progress.
use Rattle.std.specs.Prelude.{◌≡◌, ℕ, Bool, true, false, ◌&&◌, ◌||◌, if◌then◌else◌, nat_lt, nat_eq, List, [], ◌∷◌, Option, Some, None, slice_get}
use Rattle.std.specs.List.{list_all}
use Rattle.pc_word.specs.declared.item.Operand.{Operand}
use Rattle.pc_word.specs.declared.item.Operand.TheVariants.{Name, Lit}
use Rattle.pc_cert.specs.declared.certificate.Source.{Source}
use Rattle.pc_cert.specs.declared.certificate.Source.TheVariants.{Register, Literal}
use Rattle.pc_cert.specs.declared.certificate.WindowOperand.{WindowOperand}
use Rattle.pc_cert.specs.declared.certificate.WindowOperand.TheVariants as written
use Rattle.pc_cert.specs.declared.certificate.Fact as written_fact
use Rattle.pc_machine.specs.declared.tree.Leaf.{Leaf}
use Rattle.pc_machine.specs.declared.tree.Leaf.TheVariants.{Stop, Trap}
use Rattle.pc_window.specs.Tree.{Tree, Pending, Undecided, Exit, Stop_exit, Trap_exit}
use Rattle.pc_window.specs.Names.{parameters_of}
use Rattle.pc_window.specs.Unwinding.{front_tag}
use Rattle.pc_window.specs.WindowRun.{Window}
use Rattle.pc_canon.specs.Pairs.{Pair}
use Rattle.pc_canon.specs.Canonical.{parameter_pairs}
use Rattle.pc_canon.specs.Key.{key_of}
use Rattle.pc_certified.specs.Facts.{Fact}
use Rattle.pc_matching.specs.Matching.{operands_match}

-- ---- the facts of an entry

-- a register or literal as a row's operand
abbrev pub source_of : Source → Operand
source_of (Register register) = Name register
source_of (Literal value) = Lit value

-- a parameter's name
abbrev pub name_of : Option ℕ → Option Operand
name_of None = None
name_of (Some name) = Some (Name name)

-- a window's operand, where these are its parameters: one by its number, if there is one, or a literal
abbrev pub operand_at : List ℕ → WindowOperand → Option Operand
operand_at parameters (written.Parameter number) = name_of (slice_get parameters number)
operand_at parameters (written.Literal value) = Some (Lit value)

-- a fact of a source and an operand, and others, if there are all
abbrev pub and_fact : Operand → Option Operand → Option (List Fact) → Option (List Fact)
and_fact source (Some operand) (Some facts) = Some (record { source = source; operand = operand } ∷ facts)
and_fact source _ _ = None

-- the facts of an entry on the names of a window with these parameters, if there are so many
abbrev pub facts_at : List ℕ → List written_fact.Fact → Option (List Fact)
facts_at parameters [] = Some []
facts_at parameters (fact ∷ facts) = and_fact (source_of fact.source) (operand_at parameters fact.operand) (facts_at parameters facts)

-- the facts of an entry whose window has this tree: parameters have numbers in the order of first use
abbrev pub facts_of_entry : Tree → List written_fact.Fact → Option (List Fact)
facts_of_entry tree facts = facts_at (parameters_of tree) facts

-- ---- arriving

-- the name that corresponds to one of the other side
abbrev pub paired_name : List Pair → ℕ → Option ℕ
paired_name [] other = None
paired_name (pair ∷ pairs) other = if nat_eq pair.other other then Some pair.one else paired_name pairs other

-- the operand that corresponds to one of the other side: the same literal, or the name that does
abbrev pub paired : List Pair → Operand → Option Operand
paired pairs (Lit value) = Some (Lit value)
paired pairs (Name other) = name_of (paired_name pairs other)

-- whether facts say that a source has this value, if it is any
abbrev pub has_value : List Fact → Operand → Option Operand → Bool
has_value held source None = false
has_value held source (Some operand) = operands_match held source operand

-- whether a claim's fact holds here, where these names correspond to those of the claim
abbrev pub holds_here : List Pair → List Fact → Fact → Bool
holds_here pairs held fact = has_value held fact.source (paired pairs fact.operand)

-- windows that have one key
abbrev pub SameKey : Window → Window → Type 0
SameKey w v = key_of w ≡ key_of v

-- a window, where these facts hold, arrives at a claim's window with the claim's facts: both have one key, so that their parameters
-- correspond in the order of first use, and each of the claim's facts holds for what corresponds
pub record Arrives (w : Window) (held : List Fact) (v : Window) (claimed : List Fact) : Type 0 where
  pub key : SameKey w v
  pub facts : list_all (holds_here (parameter_pairs w v) held) claimed ≡ true

-- ---- progress

-- whether a tree has a test or a stub
abbrev pub has_test_or_stub : Tree → Bool
has_test_or_stub (Pending tag origin item rest) = has_test_or_stub rest
has_test_or_stub (Undecided tag origin on on_yes on_no) = true
has_test_or_stub (Exit region tag homes) = true
has_test_or_stub Stop_exit = false
has_test_or_stub (Trap_exit kind line) = false

-- whether there is progress from a claim of this rank, whose window has this least tag, to one of this rank at which this tree arrives
abbrev pub progress : (rank tag next_rank : ℕ) → Tree → Bool
progress rank tag next_rank tree = nat_lt next_rank rank || (nat_lt tag (front_tag tree) && has_test_or_stub tree)

-- ---- ends

-- the leaf that ends as a tree does: at the end of the program, or with the same trap; none where the tree is no end
abbrev pub end_of : Tree → Option Leaf
end_of Stop_exit = Some Stop
end_of (Trap_exit kind line) = Some (Trap kind line)
end_of tree = None
