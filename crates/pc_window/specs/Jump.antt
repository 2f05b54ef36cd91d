-- How one item or test that stands behind the front comes into it.
use Rattle.std.specs.Prelude.{ℕ, ◌≡◌, Bool, true, false, nat_eq, Option, Some, None}
use Rattle.std.specs.List.{AllByRecursion}
use Rattle.pc_word.specs.declared.item.Item.{Item}
use Rattle.pc_word.specs.declared.item.Item.TheVariants.{Bin}
use Rattle.pc_word.specs.declared.item.Operand.{Operand}
use Rattle.pc_word.specs.Items.{dest_of, only_computes}
use Rattle.pc_word.specs.Commit.{writes}
use Rattle.pc_window.specs.Tree.{Tree, Pending, Undecided, Front, Issued, Split, Unfinished, whole}
use Rattle.pc_linear.specs.Form.{Form}
use Rattle.pc_linear.specs.Combine.{combine, variable_form}
use Rattle.pc_window.specs.Hold.{operand_form}
use Rattle.pc_window.specs.Opening.{changed}
use Rattle.pc_window.specs.Names.{IsKnown, ReadsKnown, IsNew, NotWritten}
use Rattle.pc_window.specs.Conflict.{NoConflict, MayFollow}
use Rattle.pc_window.specs.Rename.{mapped}
use Rattle.pc_word.specs.Naming.{renamed, with_dest}

-- ---- new forms

-- what `combine` gives from the present forms of an item's operands
abbrev pub combined : (ℕ → Form) → Item → Option Form
combined forms (Bin op dest left right) = combine op (operand_form forms left) (operand_form forms right)
combined forms item = None

-- a form without a form variable
abbrev pub Without : ℕ → Form → Type 0
Without variable form = AllByRecursion (λ term. nat_eq variable term.variable ≡ false) form.terms

-- the form of a new name: what `combine` gives, or a form variable that no form has
abbrev pub NewForm : (ℕ → Form) → Option Form → Form → Type 0
NewForm forms (Some given) form = form ≡ given
NewForm forms None form = (variable : ℕ) × (form ≡ variable_form variable) × ((x : ℕ) → Without variable (forms x))

-- ---- an item rises to the root of what stands behind a leaf

-- an item that stands in a tree rises to its root, there with the name that x writes: it conflicts with no item that it
-- passes; it passes a test only where it is quiet; what it leaves has its uses renamed. `crosses` tells whether it passes
-- a test.
pub data Rises (forms : ℕ → Form) (tag origin : ℕ) (stood x : Item) : Bool → Tree → Tree → Type 0 where
  Root : (rest : Tree) → NotWritten (dest_of x) rest
      → Rises forms tag origin stood x false (Pending tag origin stood rest) (mapped (renamed (dest_of stood) (dest_of x)) rest)
  Past_item : (t o : ℕ) (y : Item) (crosses : Bool) (rest left : Tree) → NoConflict forms y x → IsNew (writes (dest_of y)) (dest_of x)
      → Rises forms tag origin stood x crosses rest left → Rises forms tag origin stood x crosses (Pending t o y rest) (Pending t o y left)
  Past_yes : (t o : ℕ) (on : Operand) (crosses : Bool) (on_yes on_no left : Tree) → only_computes x ≡ true → NotWritten (dest_of x) on_no
      → Rises forms tag origin stood x crosses on_yes left → Rises forms tag origin stood x true (Undecided t o on on_yes on_no) (Undecided t o on left on_no)
  Past_no : (t o : ℕ) (on : Operand) (crosses : Bool) (on_yes on_no left : Tree) → only_computes x ≡ true → NotWritten (dest_of x) on_yes
      → Rises forms tag origin stood x crosses on_no left → Rises forms tag origin stood x true (Undecided t o on on_yes on_no) (Undecided t o on on_yes left)

-- a test that stands behind items alone divides a tree: the items before it then stand on both sides
pub data DividesTree (tag origin : ℕ) (on : Operand) : Tree → Tree → Tree → Type 0 where
  Root_test : (on_yes on_no : Tree) → DividesTree tag origin on (Undecided tag origin on on_yes on_no) on_yes on_no
  Past : (t o : ℕ) (y : Item) (rest on_yes on_no : Tree) → DividesTree tag origin on rest on_yes on_no
      → DividesTree tag origin on (Pending t o y rest) (Pending t o y on_yes) (Pending t o y on_no)

-- ---- one item or test comes into the front

-- the forms once a new name is given to what an item writes; without a new name all forms stay
abbrev pub GivesForm : (ℕ → Form) → (ℕ → Form) → Item → Option ℕ → Type 0
GivesForm forms forms' x None = forms' ≡ forms
GivesForm forms forms' x (Some name) = (form : Form) × NewForm forms (combined forms x) form × (forms' ≡ changed forms name form)

-- what comes is an item that may follow another in its row, or it is a test
abbrev pub MayComeBehind : (ℕ → Form) → Item → Option Item → Type 0
MayComeBehind forms y (Some x) = MayFollow forms y x × IsNew (writes (dest_of y)) (dest_of x)
MayComeBehind forms y None = Unit {0}

-- one item (`comes`), or a test, that reads only what is known before the window comes into the front; `new` is the name
-- that it gets, if any
pub data EntersFront (known : ℕ → Bool) (forms forms' : ℕ → Form) (new : Option ℕ) : Option Item → Front → Front → Type 0 where
  -- an item before which no unfinished test stands goes to the end of the path above it
  Lands : (tag origin : ℕ) (x : Item) (from left : Tree) → ReadsKnown known x → IsNew known (dest_of x) → new ≡ None → forms' ≡ forms
      → Rises forms tag origin x x false from left
      → EntersFront known forms forms' new (Some x) (Unfinished from) (Issued tag origin x (Unfinished left))
  -- an item before which an unfinished test stands gets a new name
  Lands_renamed : (tag origin name : ℕ) (stood : Item) (from left : Tree) → ReadsKnown known (with_dest name stood) → IsNew known (dest_of (with_dest name stood))
      → new ≡ dest_of (with_dest name stood) → GivesForm forms forms' (with_dest name stood) new
      → Rises forms tag origin stood (with_dest name stood) true from left
      → EntersFront known forms forms' new (Some (with_dest name stood)) (Unfinished from) (Issued tag origin (with_dest name stood) (Unfinished left))
  -- a test replaces the leaf above it
  Lands_test : (tag origin : ℕ) (on : Operand) (from on_yes on_no : Tree) → IsKnown known on → new ≡ None → forms' ≡ forms
      → DividesTree tag origin on from on_yes on_no
      → EntersFront known forms forms' new None (Unfinished from) (Split tag origin on (Unfinished on_yes) (Unfinished on_no))
  -- two items that are equal but for their names, below both sides of a test, become one above it
  Lands_once : (t o : ℕ) (on : Operand) (tag origin tag' origin' name : ℕ) (stood other : Item) (crosses crosses' : Bool) (on_yes on_no yes_left no_left : Tree)
      → with_dest name other ≡ with_dest name stood → ReadsKnown known (with_dest name stood) → IsNew known (dest_of (with_dest name stood))
      → new ≡ dest_of (with_dest name stood) → GivesForm forms forms' (with_dest name stood) new
      → Rises forms tag origin stood (with_dest name stood) crosses on_yes yes_left → Rises forms tag' origin' other (with_dest name stood) crosses' on_no no_left
      → EntersFront known forms forms' new (Some (with_dest name stood)) (Split t o on (Unfinished on_yes) (Unfinished on_no))
      (Issued tag origin (with_dest name stood) (Split t o on (Unfinished yes_left) (Unfinished no_left)))
  -- the path above
  Behind_item : (t o : ℕ) (y : Item) (comes : Option Item) (rest rest' : Front) → MayComeBehind forms y comes → IsNew (writes (dest_of y)) new
      → EntersFront known forms forms' new comes rest rest' → EntersFront known forms forms' new comes (Issued t o y rest) (Issued t o y rest')
  On_yes : (t o : ℕ) (on : Operand) (comes : Option Item) (on_yes on_no on_yes' : Front) → NotWritten new (whole on_no)
      → EntersFront known forms forms' new comes on_yes on_yes' → EntersFront known forms forms' new comes (Split t o on on_yes on_no) (Split t o on on_yes' on_no)
  On_no : (t o : ℕ) (on : Operand) (comes : Option Item) (on_yes on_no on_no' : Front) → NotWritten new (whole on_yes)
      → EntersFront known forms forms' new comes on_no on_no' → EntersFront known forms forms' new comes (Split t o on on_yes on_no) (Split t o on on_yes on_no')
