-- Names: what a tree uses and defines; and when each name is known before it is read, and written once on a path.
use Rattle.std.specs.Prelude.{◌≡◌, ℕ, Bool, true, false, not, ◌&&◌, ◌||◌, if◌then◌else◌, List, [], ◌∷◌, ◌++◌, Option, Some, None}
use Rattle.std.specs.List.{list_any, AllByRecursion}
use Rattle.pc_word.specs.declared.item.Item.{Item}
use Rattle.pc_word.specs.declared.item.Operand.{Operand}
use Rattle.pc_word.specs.declared.item.Operand.TheVariants.{Name, Lit}
use Rattle.pc_word.specs.Items.{dest_of, operands_of, reads, reads_name}
use Rattle.pc_word.specs.Commit.{writes}
use Rattle.pc_window.specs.declared.home.Home.{Home}
use Rattle.pc_window.specs.Tree.{Tree, Pending, Undecided, Exit, Stop_exit, Trap_exit}

-- ---- used and defined

-- whether a home reads a name
abbrev pub homes_use : List Home → ℕ → Bool
homes_use homes x = list_any (λ home. reads_name home.value x) homes

-- whether a name is used and not defined above: the parameters of a tree
abbrev pub uses : Tree → ℕ → Bool
uses (Pending tag origin item rest) x = reads item x || (not (writes (dest_of item) x) && uses rest x)
uses (Undecided tag origin on on_yes on_no) x = reads_name on x || (uses on_yes x || uses on_no x)
uses (Exit region tag homes) x = homes_use homes x
uses Stop_exit x = false
uses (Trap_exit kind line) x = false

-- ---- known

-- a literal is known, and a name where it is among the known names
abbrev pub IsKnown : (ℕ → Bool) → Operand → Type 0
IsKnown known (Name x) = known x ≡ true
IsKnown known (Lit value) = Unit {0}

-- an item whose operands are all known
abbrev pub ReadsKnown : (ℕ → Bool) → Item → Type 0
ReadsKnown known item = AllByRecursion (IsKnown known) (operands_of item)

-- the name that is written, if any, is not among these
abbrev pub IsNew : (ℕ → Bool) → Option ℕ → Type 0
IsNew known (Some dest) = known dest ≡ false
IsNew known None = Unit {0}

-- the known names, and the one that an item writes
abbrev pub and_dest : (ℕ → Bool) → Item → ℕ → Bool
and_dest known item x = writes (dest_of item) x || known x

-- each home is known
abbrev pub HomesKnown : (ℕ → Bool) → List Home → Type 0
HomesKnown known homes = AllByRecursion (λ home. IsKnown known home.value) homes

-- on each path every name is known before it is read, and is written once
abbrev pub Scoped : (ℕ → Bool) → Tree → Type 0
Scoped known (Pending tag origin item rest) = ReadsKnown known item × IsNew known (dest_of item) × Scoped (and_dest known item) rest
Scoped known (Undecided tag origin on on_yes on_no) = IsKnown known on × Scoped known on_yes × Scoped known on_no
Scoped known (Exit region tag homes) = HomesKnown known homes
Scoped known Stop_exit = Unit {0}
Scoped known (Trap_exit kind line) = Unit {0}

-- a name that a tree writes nowhere
abbrev pub Unwritten : ℕ → Tree → Type 0
Unwritten x (Pending tag origin item rest) = (writes (dest_of item) x ≡ false) × Unwritten x rest
Unwritten x (Undecided tag origin on on_yes on_no) = Unwritten x on_yes × Unwritten x on_no
Unwritten x (Exit region tag homes) = Unit {0}
Unwritten x Stop_exit = Unit {0}
Unwritten x (Trap_exit kind line) = Unit {0}

-- the name that is written, if any, is written nowhere in a tree
abbrev pub NotWritten : Option ℕ → Tree → Type 0
NotWritten (Some name) tree = Unwritten name tree
NotWritten None tree = Unit {0}

-- ---- lists of names

-- the names that an operand, an item or homes read, in order
abbrev pub name_in : Operand → List ℕ
name_in (Name x) = x ∷ []
name_in (Lit value) = []

-- the names that operands read, in order
abbrev pub names_among : List Operand → List ℕ
names_among [] = []
names_among (o ∷ []) = name_in o
names_among (o ∷ p ∷ operands) = name_in o ++ names_among (p ∷ operands)

-- the names that an item reads, in order
abbrev pub names_read : Item → List ℕ
names_read item = names_among (operands_of item)

-- the names that homes read, in order
abbrev pub names_in_homes : List Home → List ℕ
names_in_homes [] = []
names_in_homes (home ∷ homes) = name_in home.value ++ names_in_homes homes

-- the names of a list that are not written
abbrev pub without_name : Option ℕ → List ℕ → List ℕ
without_name dest [] = []
without_name dest (x ∷ xs) = if writes dest x then without_name dest xs else (x ∷ without_name dest xs)

-- the uses of names that are not defined above them, in preorder
abbrev pub free_uses : Tree → List ℕ
free_uses (Pending tag origin item rest) = names_read item ++ without_name (dest_of item) (free_uses rest)
free_uses (Undecided tag origin on on_yes on_no) = name_in on ++ (free_uses on_yes ++ free_uses on_no)
free_uses (Exit region tag homes) = names_in_homes homes
free_uses Stop_exit = []
free_uses (Trap_exit kind line) = []

-- each name of a list once, where it stands first
abbrev pub first_uses : List ℕ → List ℕ
first_uses [] = []
first_uses (x ∷ xs) = x ∷ without_name (Some x) (first_uses xs)

-- the parameters, in the order of first use
abbrev pub parameters_of : Tree → List ℕ
parameters_of tree = first_uses (free_uses tree)

-- a list with the name that is defined before it
abbrev pub named : Option ℕ → List ℕ → List ℕ
named (Some dest) names = dest ∷ names
named None names = names

-- the names that a tree defines, in preorder
abbrev pub definitions_of : Tree → List ℕ
definitions_of (Pending tag origin item rest) = named (dest_of item) (definitions_of rest)
definitions_of (Undecided tag origin on on_yes on_no) = definitions_of on_yes ++ definitions_of on_no
definitions_of (Exit region tag homes) = []
definitions_of Stop_exit = []
definitions_of (Trap_exit kind line) = []
