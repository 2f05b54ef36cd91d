-- Two windows that are equal up to their names, their form variables and a shift of all tags.
use Rattle.std.specs.Prelude.{◌≡◌, ℕ, pos, ◌+◌, Bool, true, false, nat_eq, List, [], ◌∷◌, Option, Some}
use Rattle.std.specs.List.{AllByRecursion, IsDistinct}
use Rattle.pc_word.specs.declared.item.Item.{Item}
use Rattle.pc_word.specs.declared.item.Item.TheVariants.{Bin, Copy, Load, Store, Print, Read, More}
use Rattle.pc_word.specs.declared.item.OpCode.{OpCode}
use Rattle.pc_word.specs.declared.item.Operand.{Operand}
use Rattle.pc_word.specs.declared.item.TrapKind.{TrapKind}
use Rattle.pc_word.specs.Items.{dest_of}
use Rattle.pc_linear.specs.declared.term.Term.{Term}
use Rattle.pc_linear.specs.Form.{Form, factor_of}
use Rattle.pc_window.specs.declared.home.Home.{Home}
use Rattle.pc_window.specs.Tree.{Tree, Pending, Undecided, Exit, Stop_exit, Trap_exit, Front, Issued, Split, Unfinished, whole}
use Rattle.pc_window.specs.Rebasing.{is_in}
use Rattle.pc_window.specs.WindowRun.{Window}
use Rattle.pc_canon.specs.Pairs.{Pair, ones, others, defined, OperandsAlike, HomesAlike}

-- ---- pairs

-- no two pairs have the same on a side
pub record OneToOne (pairs : List Pair) : Type 0 where
  pub ones_differ : IsDistinct nat_eq (ones pairs)
  pub others_differ : IsDistinct nat_eq (others pairs)

-- what is said of both sides of each pair
abbrev pub EachPair : List Pair → (ℕ → ℕ → Type 0) → Type 0
EachPair pairs P = AllByRecursion (λ pair. P pair.one pair.other) pairs

-- ---- forms

-- whether a sum has a term
abbrev pub has_terms : List Term → Bool
has_terms [] = false
has_terms (term ∷ terms) = true

-- equal constants, terms in both or in none, the same factors of corresponding variables, and the factor 0 of all others; a form
-- without terms means exactly its constant, another one a number modulo 2^32, so that terms in one alone are a difference
pub record FormsAlike (variables : List Pair) (f g : Form) : Type 0 where
  pub constants : f.constant ≡ g.constant
  pub both_terms : has_terms f.terms ≡ has_terms g.terms
  pub factors : EachPair variables (λ x y. factor_of f.terms x ≡ factor_of g.terms y)
  pub no_more : (x : ℕ) → is_in x (ones variables) ≡ false → factor_of f.terms x ≡ pos 0
  pub no_others : (y : ℕ) → is_in y (others variables) ≡ false → factor_of g.terms y ≡ pos 0

-- ---- items

-- the same kind, operator and array, and operands that are alike
pub data ItemsAlike (names : List Pair) : Item → Item → Type 0 where
  both_bin : {op : OpCode} {dest dest' : ℕ} {left left' right right' : Operand}
      → OperandsAlike names left left' → OperandsAlike names right right' → ItemsAlike names (Bin op dest left right) (Bin op dest' left' right')
  both_copy : {dest dest' : ℕ} {from from' : Operand} → OperandsAlike names from from' → ItemsAlike names (Copy dest from) (Copy dest' from')
  both_load : {array dest dest' : ℕ} {index index' : Operand} → OperandsAlike names index index'
      → ItemsAlike names (Load dest array index) (Load dest' array index')
  both_store : {array : ℕ} {index index' value value' : Operand}
      → OperandsAlike names index index' → OperandsAlike names value value' → ItemsAlike names (Store array index value) (Store array index' value')
  both_print : {value value' : Operand} → OperandsAlike names value value' → ItemsAlike names (Print value) (Print value')
  both_read : {dest dest' : ℕ} → ItemsAlike names (Read dest) (Read dest')
  both_more : {dest dest' : ℕ} → ItemsAlike names (More dest) (More dest')

-- ---- trees

-- which form variables correspond, and what is added to the tags of each window
pub record Maps : Type 0 where
  pub variables : List Pair
  pub shift : ℕ
  pub other_shift : ℕ

-- names that are defined at the same place have forms that are alike
abbrev pub DestsAlike : Maps → (ℕ → Form) → (ℕ → Form) → Option ℕ → Option ℕ → Type 0
DestsAlike maps forms forms' (Some x) (Some y) = FormsAlike maps.variables (forms x) (forms' y)
DestsAlike maps forms forms' _ _ = Unit {0}

-- tags that are equal once each window is shifted
abbrev pub TagsAlike : Maps → ℕ → ℕ → Type 0
TagsAlike maps tag tag' = tag + maps.shift ≡ tag' + maps.other_shift

-- the same at each place, where these names correspond
pub data TreesAlike (maps : Maps) (forms forms' : ℕ → Form) : List Pair → Tree → Tree → Type 0 where
  both_then : {names : List Pair} {tag tag' origin : ℕ} {item item' : Item} {rest rest' : Tree}
      → TagsAlike maps tag tag' → ItemsAlike names item item' → DestsAlike maps forms forms' (dest_of item) (dest_of item')
      → TreesAlike maps forms forms' (defined names (dest_of item) (dest_of item')) rest rest'
      → TreesAlike maps forms forms' names (Pending tag origin item rest) (Pending tag' origin item' rest')
  both_either : {names : List Pair} {tag tag' origin : ℕ} {on on' : Operand} {on_yes on_yes' on_no on_no' : Tree}
      → TagsAlike maps tag tag' → OperandsAlike names on on'
      → TreesAlike maps forms forms' names on_yes on_yes' → TreesAlike maps forms forms' names on_no on_no'
      → TreesAlike maps forms forms' names (Undecided tag origin on on_yes on_no) (Undecided tag' origin on' on_yes' on_no')
  both_exit : {names : List Pair} {region tag tag' : ℕ} {homes homes' : List Home}
      → TagsAlike maps tag tag' → HomesAlike names homes homes' → TreesAlike maps forms forms' names (Exit region tag homes) (Exit region tag' homes')
  both_stop : {names : List Pair} → TreesAlike maps forms forms' names Stop_exit Stop_exit
  both_trap : {names : List Pair} {kind : TrapKind} {line : ℕ} → TreesAlike maps forms forms' names (Trap_exit kind line) (Trap_exit kind line)

-- as many items and tests of the front at the same places
abbrev pub SameFront : Front → Front → Type 0
SameFront (Issued tag origin item rest) (Issued tag' origin' item' rest') = SameFront rest rest'
SameFront (Split tag origin on on_yes on_no) (Split tag' origin' on' on_yes' on_no') = SameFront on_yes on_yes' × SameFront on_no on_no'
SameFront (Unfinished rest) (Unfinished rest') = Unit {0}
SameFront _ _ = ⊥

-- ---- windows

-- two windows are alike by these maps, where these parameters correspond
pub record AlikeBy (maps : Maps) (params : List Pair) (w v : Window) : Type 0 where
  pub variables_one_to_one : OneToOne maps.variables
  pub params_one_to_one : OneToOne params
  pub params_alike : EachPair params (λ x y. FormsAlike maps.variables (w.forms x) (v.forms y))
  pub fronts : SameFront w.front v.front
  pub trees : TreesAlike maps w.forms v.forms params (whole w.front) (whole v.front)
  pub limits : w.limits ≡ v.limits
  pub inside : w.inside ≡ v.inside

-- the windows are equal up to a shift, where these parameters correspond
abbrev pub ShiftedBy : List Pair → Window → Window → Type 0
ShiftedBy params w v = (maps : Maps) × AlikeBy maps params w v

-- the windows are equal up to a shift
abbrev pub Shifted : Window → Window → Type 0
Shifted w v = (params : List Pair) × ShiftedBy params w v
