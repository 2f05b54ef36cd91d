-- The walk through a window that writes down what waits.
use Rattle.std.specs.Prelude.{◌≡◌, ℕ, List, [], ◌∷◌, ◌++◌, Option}
use Rattle.pc_word.specs.declared.item.Item.{Item}
use Rattle.pc_word.specs.declared.item.Operand.{Operand}
use Rattle.pc_linear.specs.Form.{Form}
use Rattle.pc_window.specs.StoredWindow.{forms_in}
use Rattle.pc_window.specs.Tree.{Tree, Front}
use Rattle.pc_waiting.specs.declared.obstacle.Waiting.{Waiting}
use Rattle.pc_waiting.specs.declared.path.Above.{Above}
use Rattle.pc_waiting.specs.declared.walk.Setting.{Setting}
use Rattle.pc_waiting.specs.Waiting.{standing_in, standing_behind, AreWaiting}

abbrev pub forms_of : Setting → ℕ → Form
forms_of s = forms_in s.names.now.forms

-- an item or test was looked at
pub record LooksAt (s : Setting) (above : List Above) (tag origin : ℕ) (what : Option Item) (operands : List Operand) (before after : List Waiting) : Type 0 where
  pub more : List Waiting
  pub appends : after ≡ before ++ more
  pub waits : (place : ℕ) → AreWaiting (forms_of s) s.first s.room
      (record { tag = tag; origin = origin; what = what; operands = operands; above = above; place = place } ∷ []) more

-- a tree behind the front was looked at
pub record LooksBehind (s : Setting) (above : List Above) (tree : Tree) (before after : List Waiting) : Type 0 where
  pub more : List Waiting
  pub appends : after ≡ before ++ more
  pub waits : (place : ℕ) → AreWaiting (forms_of s) s.first s.room (standing_in above place tree) more

-- a part of the front was gone through, and what stands behind it looked at
pub record LooksThrough (s : Setting) (above : List Above) (front : Front) (before after : List Waiting) : Type 0 where
  pub more : List Waiting
  pub appends : after ≡ before ++ more
  pub waits : (place : ℕ) → AreWaiting (forms_of s) s.first s.room (standing_behind above place front) more
