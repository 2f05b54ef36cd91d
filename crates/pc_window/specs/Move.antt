-- Moves anywhere in a window: any node may play the front (move_op, move_cj, unify), and an item whose name is used nowhere
-- below may be deleted.
use Rattle.std.specs.Prelude.{ℕ, ◌≡◌, Bool, true, false, Option, Some, None}
use Rattle.pc_word.specs.declared.item.Item.{Item}
use Rattle.pc_word.specs.declared.item.Item.TheVariants.{Bin, Copy, Load, Store, Print, Read, More}
use Rattle.pc_word.specs.declared.item.Operand.{Operand}
use Rattle.pc_word.specs.Items.{dest_of}
use Rattle.pc_word.specs.Commit.{writes}
use Rattle.pc_window.specs.Tree.{Tree, Pending, Undecided, Front, whole}
use Rattle.pc_linear.specs.Form.{Form}
use Rattle.pc_window.specs.Names.{IsNew, and_dest, uses, NotWritten}
use Rattle.pc_window.specs.Jump.{EntersFront}

-- bin, load and more
abbrev pub is_deletable : Item → Bool
is_deletable (Bin op dest left right) = true
is_deletable (Copy dest from) = false
is_deletable (Load dest array index) = true
is_deletable (Store array index value) = false
is_deletable (Print value) = false
is_deletable (Read dest) = false
is_deletable (More dest) = true

-- the name that an item writes is used nowhere below
abbrev pub IsUnused : Option ℕ → Tree → Type 0
IsUnused (Some name) rest = uses rest name ≡ false
IsUnused None rest = Unit {0}

-- one move leads from a tree to a tree, where these names are known above it
pub data Moves (forms forms' : ℕ → Form) (new : Option ℕ) : (ℕ → Bool) → Tree → Tree → Type 0 where
  -- an item or test comes into a node from behind its leaves
  Into_node : (known : ℕ → Bool) (comes : Option Item) (from to : Front) → EntersFront known forms forms' new comes from to → Moves forms forms' new known (whole from) (whole to)
  -- an item is deleted
  Deletes : (known : ℕ → Bool) (tag origin : ℕ) (x : Item) (rest : Tree) → is_deletable x ≡ true → IsUnused (dest_of x) rest → new ≡ None → forms' ≡ forms
      → Moves forms forms' new known (Pending tag origin x rest) rest
  Below : (known : ℕ → Bool) (t o : ℕ) (y : Item) (rest rest' : Tree) → IsNew (writes (dest_of y)) new
      → Moves forms forms' new (and_dest known y) rest rest' → Moves forms forms' new known (Pending t o y rest) (Pending t o y rest')
  On_yes_side : (known : ℕ → Bool) (t o : ℕ) (on : Operand) (on_yes on_no on_yes' : Tree) → NotWritten new on_no
      → Moves forms forms' new known on_yes on_yes' → Moves forms forms' new known (Undecided t o on on_yes on_no) (Undecided t o on on_yes' on_no)
  On_no_side : (known : ℕ → Bool) (t o : ℕ) (on : Operand) (on_yes on_no on_no' : Tree) → NotWritten new on_yes
      → Moves forms forms' new known on_no on_no' → Moves forms forms' new known (Undecided t o on on_yes on_no) (Undecided t o on on_yes on_no')
