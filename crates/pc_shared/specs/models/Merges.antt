-- How definitions that are alike get one name, one after the other.
use Rattle.std.specs.Prelude.{◌≡◌, ℕ, Bool, true, false, nat_eq, List, [], ◌∷◌, ◌++◌, Option, Some, None}
use Rattle.std.specs.List.{list_any}
use Rattle.pc_word.specs.declared.item.Item.{Item}
use Rattle.pc_word.specs.declared.item.Operand.{Operand}
use Rattle.pc_word.specs.declared.item.TrapKind.{TrapKind}
use Rattle.pc_word.specs.Items.{dest_of}
use Rattle.pc_word.specs.Naming.{map_name, with_dest}
use Rattle.pc_linear.specs.Form.{Form}
use Rattle.pc_window.specs.declared.home.Home.{Home}
use Rattle.pc_window.specs.declared.window.Window.{Window as StoredWindow}
use Rattle.pc_window.specs.Opening.{Supply, with_name}
use Rattle.pc_window.specs.Rebasing.{is_in}
use Rattle.pc_window.specs.Rename.{map_homes}
use Rattle.pc_window.specs.StoredWindow.{supply_in}
use Rattle.pc_canon.specs.Pairs.{Pair, others}
use Rattle.pc_shared.specs.declared.merging.Definition.{Definition}
use Rattle.pc_shared.specs.declared.merging.Given.{Given}
use Rattle.pc_shared.specs.declared.merging.Giver.{Giver}
use Rattle.pc_shared.specs.NodeTree.{NodeTree, Doing, Asking, Leading, Leaving, Ending, Trapping, nodes_in}
use Rattle.pc_shared.specs.Merging.{definition_of}
use Rattle.pc_shared.specs.models.Renaming.{renamed_name, renamed_item}

-- ---- given names

-- the first name in a list that was given to what is defined so, and that does not stand above
pub data FirstFree (above : List ℕ) (definition : Definition) : List Given → Option ℕ → Type 0 where
  none_given : FirstFree above definition [] None
  this_one : {one : Given} {more : List Given} → one.definition ≡ definition → is_in one.name above ≡ false → FirstFree above definition (one ∷ more) (Some one.name)
  a_later : {one : Given} {more : List Given} {name : Option ℕ} → (one.definition ≡ definition → is_in one.name above ≡ true)
      → FirstFree above definition more name → FirstFree above definition (one ∷ more) name

-- the names that were given, and all names with their forms
pub record Giving : Type 0 where
  pub given : List Given
  pub names : Supply

abbrev pub giving_in : Giver → Giving
giving_in giver = record { given = giver.given.items; names = supply_in giver.names }

-- one more name that was given
abbrev pub one_more : List Given → Definition → ℕ → List Given
one_more given definition name = given ++ record { definition = definition; name = name } ∷ []

-- whether a name was given
abbrev pub is_taken : ℕ → List Given → Bool
is_taken x given = list_any (λ one. nat_eq x one.name) given

-- a name for an old one with this form, where these were given and these stand above: itself, or a new one
pub data Chooses (given : List Given) (above : List ℕ) (old : ℕ) (form : Form) (names : Supply) : ℕ → Supply → Type 0 where
  its_own : is_taken old given ≡ false → is_in old above ≡ false → Chooses given above old form names old names
  a_new : Chooses given above old form names names.next (with_name names (Some form))

-- below these pairs of names, a name is given in place of an old one: the first that may be, or one that is chosen
pub data GivesName (pairs : List Pair) (old : ℕ) (definition : Definition) (g : Giving) : ℕ → Giving → Type 0 where
  given_before : {name : ℕ} → FirstFree (others pairs) definition g.given (Some name) → GivesName pairs old definition g name g
  given_now : {name : ℕ} {names : Supply} → FirstFree (others pairs) definition g.given None
      → Chooses g.given (others pairs) old definition.form g.names name names
      → GivesName pairs old definition g name (record { given = one_more g.given definition name; names = names })

-- ---- trees

-- below these pairs of names, a tree becomes another, and more names are given
pub data Merges : List Pair → Giving → NodeTree → Giving → NodeTree → Type 0 where
  merges_item : {pairs : List Pair} {g h : Giving} {tag origin : ℕ} {item : Item} {rest rest' : NodeTree} → dest_of item ≡ None
      → Merges pairs g rest h rest' → Merges pairs g (Doing tag origin item rest) h (Doing tag origin (renamed_item pairs item) rest')
  merges_definition : {pairs : List Pair} {g m h : Giving} {tag origin : ℕ} {item : Item} {rest rest' : NodeTree} {old name : ℕ}
      → dest_of item ≡ Some old → GivesName pairs old (definition_of g.names.forms tag origin (renamed_item pairs item) old) g name m
      → Merges (record { one = old; other = name } ∷ pairs) m rest h rest'
      → Merges pairs g (Doing tag origin item rest) h (Doing tag origin (with_dest name (renamed_item pairs item)) rest')
  merges_test : {pairs : List Pair} {g m h : Giving} {tag origin : ℕ} {on : Operand} {on_yes on_no on_yes' on_no' : NodeTree}
      → Merges pairs g on_yes m on_yes' → Merges pairs m on_no h on_no'
      → Merges pairs g (Asking tag origin on on_yes on_no) h (Asking tag origin (map_name (renamed_name pairs) on) on_yes' on_no')
  merges_leaf : {pairs : List Pair} {g h : Giving} {below below' : NodeTree} → Merges pairs g below h below' → Merges pairs g (Leading below) h (Leading below')
  merges_stub : {pairs : List Pair} {g : Giving} {region tag : ℕ} {homes : List Home}
      → Merges pairs g (Leaving region tag homes) g (Leaving region tag (map_homes (map_name (renamed_name pairs)) homes))
  merges_end : {pairs : List Pair} {g : Giving} → Merges pairs g Ending g Ending
  merges_trap : {pairs : List Pair} {g : Giving} {kind : TrapKind} {line : ℕ} → Merges pairs g (Trapping kind line) g (Trapping kind line)

-- a window in memory has become another: its tree has, where nothing was given before
pub record HasMerged (w v : StoredWindow) : Type 0 where
  pub giving : Giving
  pub merges : Merges [] (record { given = []; names = supply_in w.names }) (nodes_in w.tree) giving (nodes_in v.tree)
  pub names : supply_in v.names ≡ giving.names
  pub limits : v.limits ≡ w.limits
  pub inside : v.inside ≡ w.inside
