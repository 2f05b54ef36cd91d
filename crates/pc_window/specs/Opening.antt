-- Opening a region, and unwinding a stub: the region's tree with homes in place of its variables.
use Rattle.std.specs.Prelude.{ℕ, suc, ◌+◌, ◌<◌, pos, if◌then◌else◌, nat_eq, nat_lt, ◌&&◌, List, [], ◌∷◌, Option, Some, None}
use Rattle.pc_word.specs.SourceLimits.{most_scalars, most_temporaries}
use Rattle.pc_word.specs.declared.item.Item.{Item}
use Rattle.pc_word.specs.declared.item.Item.TheVariants.{Bin, Copy, Load, Store, Print, Read, More}
use Rattle.pc_word.specs.declared.item.Operand.{Operand}
use Rattle.pc_word.specs.declared.item.Operand.TheVariants.{Name, Lit}
use Rattle.pc_word.specs.Items.{dest_of, operands_of}
use Rattle.pc_linear.specs.declared.term.Term.{Term}
use Rattle.pc_linear.specs.Form.{Form}
use Rattle.pc_linear.specs.Combine.{combine, constant_form, variable_form}
use Rattle.pc_table.specs.Table.{Table, TableTree, Does, Asks, Next, Stops_here, Traps_here, region_tree, region_live}
use Rattle.pc_table.specs.Loops.{same_loop, headed_loop, is_inside}
use Rattle.pc_window.specs.declared.home.Home.{Home}
use Rattle.pc_window.specs.Tree.{Tree, Pending, Undecided, Exit, Stop_exit, Trap_exit, home_of}
use Rattle.pc_window.specs.Hold.{operand_form}

-- the form of each name, and the numbers from which on names and form variables are new
pub record Supply : Type 0 where
  pub forms : ℕ → Form
  pub next : ℕ
  pub next_variable : ℕ

-- a function with another value at one number
abbrev pub changed : {X : Type 0} → (ℕ → X) → ℕ → X → ℕ → X
changed f n value x = if nat_eq n x then value else f x

-- one more name, with a form, or with a new form variable where it has none
abbrev pub with_name : Supply → Option Form → Supply
with_name names (Some form) = record {
  forms = changed names.forms names.next form;
  next = suc names.next;
  next_variable = names.next_variable;
}
with_name names None = record {
  forms = changed names.forms names.next (variable_form names.next_variable);
  next = suc names.next;
  next_variable = suc names.next_variable;
}

-- an operand with a variable's home in its place
abbrev pub at_home : (ℕ → Operand) → Operand → Operand
at_home homes (Name v) = homes v
at_home homes (Lit value) = Lit value

-- what becomes of a region's item: a variable's home changes and there is no item, or the item gets a new name that becomes the variable's home, or it writes no variable
pub data Brought : Type 0 where
  Moves_home : (variable : ℕ) → (from : Operand) → Brought
  Gets_name : (variable : ℕ) → (item : Item) → (form : Option Form) → Brought
  Stays_plain : (item : Item) → Brought

-- what becomes of an item, at these homes
abbrev pub brought : Supply → (ℕ → Operand) → Item → Brought
brought names homes (Bin op dest left right) =
    Gets_name dest (Bin op names.next (at_home homes left) (at_home homes right))
    (combine op (operand_form names.forms (at_home homes left)) (operand_form names.forms (at_home homes right)))
brought names homes (Copy dest from) = Moves_home dest (at_home homes from)
brought names homes (Load dest array index) = Gets_name dest (Load names.next array (at_home homes index)) None
brought names homes (Store array index value) = Stays_plain (Store array (at_home homes index) (at_home homes value))
brought names homes (Print value) = Stays_plain (Print (at_home homes value))
brought names homes (Read dest) = Gets_name dest (Read names.next) None
brought names homes (More dest) = Gets_name dest (More names.next) None

-- a tree, and the names after it was made
pub record Grafted : Type 0 where
  pub tree : Tree
  pub names : Supply

-- a tree below an item
abbrev pub below_item : ℕ → ℕ → Item → Grafted → Grafted
below_item tag origin item g = record { tree = Pending tag origin item g.tree; names = g.names }

-- what becomes of an item, and then the rest, with the names and homes as they are then
abbrev pub graft_item : ℕ → ℕ → Brought → Supply → (ℕ → Operand) → (Supply → (ℕ → Operand) → Grafted) → Grafted
graft_item tag origin (Moves_home variable from) names homes rest = rest names (changed homes variable from)
graft_item tag origin (Gets_name variable item form) names homes rest =
    below_item tag origin item (rest (with_name names form) (changed homes variable (Name names.next)))
graft_item tag origin (Stays_plain item) names homes rest = below_item tag origin item (rest names homes)

-- two trees below a test
abbrev pub below_test : ℕ → ℕ → Operand → Grafted → (Supply → Grafted) → Grafted
below_test tag origin on yes_side no_side =
    record { tree = Undecided tag origin on yes_side.tree (no_side yes_side.names).tree; names = (no_side yes_side.names).names }

-- the homes of some variables
abbrev pub homes_at : (ℕ → Operand) → List ℕ → List Home
homes_at homes [] = []
homes_at homes (v ∷ vs) = record { variable = v; value = homes v } ∷ homes_at homes vs

-- the tag of a stub: one higher where it leads to the header of the window's loop
abbrev pub stub_tag : Table → Option ℕ → ℕ → ℕ → ℕ
stub_tag table loop region tag = if same_loop (headed_loop table region) loop then suc tag else tag

-- a region's tree with homes in place of its variables, at a tag
abbrev pub graft : Table → Option ℕ → ℕ → TableTree → Supply → (ℕ → Operand) → Grafted
graft table loop tag (Does origin item rest) names homes = graft_item tag origin (brought names homes item) names homes (graft table loop tag rest)
graft table loop tag (Asks origin on on_yes on_no) names homes =
    below_test tag origin (at_home homes on) (graft table loop tag on_yes names homes) (λ after. graft table loop tag on_no after homes)
graft table loop tag (Next region) names homes =
    record { tree = Exit region (stub_tag table loop region tag) (homes_at homes (region_live table region)); names = names }
graft table loop tag Stops_here names homes = record { tree = Stop_exit; names = names }
graft table loop tag (Traps_here kind line) names homes = record { tree = Trap_exit kind line; names = names }

-- ---- opening

-- how many variables there are: the numbers of names and form variables from there on are new
abbrev pub first_new : ℕ
first_new = most_scalars + most_temporaries

-- at first variable v is the name v, with the form variable v
abbrev pub first_form : ℕ → Form
first_form v = if nat_lt v first_new then variable_form v else constant_form (pos 0)

-- the names before anything is opened
abbrev pub first_supply : Supply
first_supply = record { forms = first_form; next = first_new; next_variable = first_new }

-- the first home of a variable
abbrev pub first_home : ℕ → Operand
first_home v = if nat_lt v first_new then Name v else Lit (pos 0)

-- a region's tree, opened: at tag 0, each variable at its first home
abbrev pub opened : Table → Option ℕ → ℕ → Grafted
opened table loop region = graft table loop 0 (region_tree table region) first_supply first_home

-- ---- unwinding

-- the same with an item above
abbrev pub under_item : ℕ → ℕ → Item → Option Grafted → Option Grafted
under_item tag origin item None = None
under_item tag origin item (Some g) = Some (below_item tag origin item g)

-- the same with a test above: of two sides the first that was changed
abbrev pub under_test : ℕ → ℕ → Operand → Tree → Tree → Option Grafted → Option Grafted → Option Grafted
under_test tag origin on on_yes on_no (Some g) other = Some (record { tree = Undecided tag origin on g.tree on_no; names = g.names })
under_test tag origin on on_yes on_no None (Some g) = Some (record { tree = Undecided tag origin on on_yes g.tree; names = g.names })
under_test tag origin on on_yes on_no None None = None

-- the first stub in preorder that is inside the loop and has this tag, replaced by its region's tree
abbrev pub unwound_at : Table → Option ℕ → ℕ → Supply → Tree → Option Grafted
unwound_at table loop least names (Pending tag origin item rest) = under_item tag origin item (unwound_at table loop least names rest)
unwound_at table loop least names (Undecided tag origin on on_yes on_no) =
    under_test tag origin on on_yes on_no (unwound_at table loop least names on_yes) (unwound_at table loop least names on_no)
unwound_at table loop least names (Exit region tag homes) =
    if is_inside table loop region && nat_eq tag least then Some (graft table loop tag (region_tree table region) names (home_of homes)) else None
unwound_at table loop least names Stop_exit = None
unwound_at table loop least names (Trap_exit kind line) = None

-- ---- names and form variables that are new

-- the variables of terms are below a number
abbrev pub TermsBelow : ℕ → List Term → Type 0
TermsBelow m [] = Unit {0}
TermsBelow m (t ∷ ts) = (t.variable < m) × TermsBelow m ts

-- the variables of a form are below a number
abbrev pub FormBelow : ℕ → Form → Type 0
FormBelow m f = TermsBelow m f.terms

-- the name that an operand reads, if any, is below a number
abbrev pub OperandBelow : ℕ → Operand → Type 0
OperandBelow n (Name x) = x < n
OperandBelow n (Lit value) = Unit

-- the names that operands read are below a number
abbrev pub OperandsBelow : ℕ → List Operand → Type 0
OperandsBelow n [] = Unit
OperandsBelow n (o ∷ []) = OperandBelow n o
OperandsBelow n (o ∷ p ∷ operands) = OperandBelow n o × OperandsBelow n (p ∷ operands)

-- the name that is written, if any is, and those that operands read are below a number
abbrev pub NamesBelow : ℕ → Option ℕ → List Operand → Type 0
NamesBelow n None operands = OperandsBelow n operands
NamesBelow n (Some dest) [] = dest < n
NamesBelow n (Some dest) (o ∷ []) = (dest < n) × OperandBelow n o
NamesBelow n (Some dest) (o ∷ p ∷ operands) = (dest < n) × OperandBelow n o × OperandsBelow n (p ∷ operands)

-- the names that an item reads and writes are below a number
abbrev pub ItemBelow : ℕ → Item → Type 0
ItemBelow n item = NamesBelow n (dest_of item) (operands_of item)

-- the names that the homes of a stub read are below a number
abbrev pub StubBelow : ℕ → List Home → Type 0
StubBelow n [] = Unit
StubBelow n (home ∷ homes) = OperandBelow n home.value × StubBelow n homes

-- every name of a tree is below a number
abbrev pub TreeBelow : ℕ → Tree → Type 0
TreeBelow n (Pending tag origin item rest) = ItemBelow n item × TreeBelow n rest
TreeBelow n (Undecided tag origin on on_yes on_no) = OperandBelow n on × TreeBelow n on_yes × TreeBelow n on_no
TreeBelow n (Exit region tag homes) = StubBelow n homes
TreeBelow n Stop_exit = Unit
TreeBelow n (Trap_exit kind line) = Unit

-- no form has a variable that is new
pub record FormsBelow (names : Supply) : Type 0 where
  pub form : (x : ℕ) → FormBelow names.next_variable (names.forms x)
