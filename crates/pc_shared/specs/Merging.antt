-- Windows in which definitions that are alike have one name.
use Rattle.std.specs.Prelude.{◌≡◌, ◌⊎◌, ℕ, zero, suc, ◌+◌, ◌≤◌, true, List, [], ◌∷◌, Option, Some, None}
use Rattle.pc_word.specs.declared.item.Item.{Item}
use Rattle.pc_word.specs.Items.{dest_of}
use Rattle.pc_word.specs.Naming.{with_dest}
use Rattle.pc_linear.specs.Form.{Form}
use Rattle.pc_table.specs.Table.{Table}
use Rattle.pc_window.specs.Tree.{Tree, Pending, Undecided, Exit, Stop_exit, Trap_exit, whole, tree_size}
use Rattle.pc_window.specs.Names.{named, parameters_of}
use Rattle.pc_window.specs.Rebasing.{is_in}
use Rattle.pc_window.specs.Steps.{IsProper}
use Rattle.pc_window.specs.There.{PartsAreThere}
use Rattle.pc_window.specs.WindowRun.{Window}
use Rattle.pc_canon.specs.Pairs.{themselves}
use Rattle.pc_canon.specs.Shift.{AlikeBy}
use Rattle.pc_canon.specs.Key.{key_of}
use Rattle.pc_shared.specs.declared.merging.Definition.{Definition}

-- ---- equal but for names

-- the numbers below one
abbrev pub numbers_below : ℕ → List ℕ
numbers_below zero = []
numbers_below (suc n) = n ∷ numbers_below n

-- two windows are equal but for the names that they define: tags, parameters and form variables are the same
abbrev pub SameButNames : Window → Window → Type 0
SameButNames w v =
    AlikeBy (record { variables = themselves (numbers_below w.next_variable); shift = 0; other_shift = 0 })
    (themselves (parameters_of (whole w.front))) w v

-- ---- one name

-- what defines a name: the item but for the name, with its tag and origin, and the name's form
abbrev pub definition_of : (ℕ → Form) → ℕ → ℕ → Item → ℕ → Definition
definition_of forms tag origin item name = record { tag = tag; origin = origin; item = with_dest 0 item; form = forms name }

-- a place where a name is defined: by what, and the names that are defined above it
pub record Defined : Type 0 where
  pub definition : Definition
  pub name : ℕ
  pub above : List ℕ

-- what holds of the place where an item defines a name, if it does
abbrev pub OfDefined : (Defined → Type 0) → (ℕ → Form) → List ℕ → ℕ → ℕ → Item → Option ℕ → Type 0
OfDefined P forms above tag origin item (Some name) = P (record { definition = definition_of forms tag origin item name; name = name; above = above })
OfDefined P forms above tag origin item None = Unit {0}

-- what holds of each place of a tree where a name is defined, below these names
abbrev pub EachDefined : (Defined → Type 0) → (ℕ → Form) → List ℕ → Tree → Type 0
EachDefined P forms above (Pending tag origin item rest) =
    OfDefined P forms above tag origin item (dest_of item) × EachDefined P forms (named (dest_of item) above) rest
EachDefined P forms above (Undecided tag origin on on_yes on_no) = EachDefined P forms above on_yes × EachDefined P forms above on_no
EachDefined P forms above (Exit region tag homes) = Unit {0}
EachDefined P forms above Stop_exit = Unit {0}
EachDefined P forms above (Trap_exit kind line) = Unit {0}

-- two definitions that are alike have one name, unless the name of the one stands above the other
abbrev pub NamedAlike : Defined → Defined → Type 0
NamedAlike p q = p.definition ≡ q.definition → (p.name ≡ q.name) ⊎ ((is_in p.name q.above ≡ true) ⊎ (is_in q.name p.above ≡ true))

-- two definitions that have one name are alike
abbrev pub AlikeWhereNamed : Defined → Defined → Type 0
AlikeWhereNamed p q = p.name ≡ q.name → p.definition ≡ q.definition

-- two definitions have one name only where they are alike, and always where they are, unless a third that is alike stands above one
-- of them, with the name of the other
pub record OneName (p q : Defined) : Type 0 where
  pub alike : AlikeWhereNamed p q
  pub named : NamedAlike p q

-- so it is with each two definitions of a window
abbrev pub IsMerged : Window → Type 0
IsMerged w = EachDefined (λ p. EachDefined (OneName p) w.forms [] (whole w.front)) w.forms [] (whole w.front)

-- a window once definitions that are alike have one name: it is equal to the one before but for names, so it has its key, and it is
-- proper; it is as large, and no more names are new than the one before had items and tests
pub record MergedFrom (w v : Window) : Type 0 where
  pub same : SameButNames w v
  pub merged : IsMerged v
  pub key : key_of v ≡ key_of w
  pub proper : IsProper v
  pub size : tree_size (whole v.front) ≡ tree_size (whole w.front)
  pub names : v.next ≤ w.next + tree_size (whole w.front)
  pub variables : v.next_variable ≡ w.next_variable
  pub parts : (table : Table) (most : ℕ) → PartsAreThere table most (whole w.front) → PartsAreThere table most (whole v.front)
