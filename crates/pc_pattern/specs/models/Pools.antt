-- The members that a search has come to, as the code keeps them: the keys of all, and the windows that wait for their rows.
use Rattle.std.specs.Prelude.{◌≡◌, ℕ, ◌+◌, ◌*◌, ◌≤◌, ◌^◌, Bool, true, false, List, [], ◌∷◌, ◌++◌, length, map, Some, slice_get}
use Rattle.pc_table.specs.Table.{Table}
use Rattle.pc_window.specs.declared.window.Window.{Window as StoredWindow}
use Rattle.pc_window.specs.Tree.{whole, tree_size}
use Rattle.pc_window.specs.Unwinding.{most_unwound}
use Rattle.pc_window.specs.WindowRun.{Window}
use Rattle.pc_window.specs.Steps.{IsProper}
use Rattle.pc_window.specs.There.{PartsAreThere}
use Rattle.pc_window.specs.StoredWindow.{tree_in, window_in, InNodes}
use Rattle.pc_unwind.specs.Unwindable.{CanUnwind}
use Rattle.pc_canon.specs.Key.{key_of}
use Rattle.pc_renumber.specs.Renumbering.{Renumbers}
use Rattle.pc_shifts.specs.Alike.{HasNormalForms}
use Rattle.pc_pattern.specs.declared.member_key.MemberKey.{MemberKey}
use Rattle.pc_pattern.specs.declared.pool.Pool.{Pool as StoredPool}

-- the keys of all members, and the windows that wait
pub record Pool : Type 0 where
  pub keys : List (List ℕ)
  pub waiting : List Window

-- keys in memory
abbrev pub keys_in : List MemberKey → List (List ℕ)
keys_in keys = map (λ (key : MemberKey). key.bytes.items) keys

-- members in memory
abbrev pub pool_in : StoredPool → Pool
pool_in pool = record { keys = keys_in pool.keys.keys; waiting = map window_in pool.waiting.items }

-- one member more, which waits
abbrev pub with_member : Pool → List ℕ → Window → Pool
with_member pool key w = record { keys = pool.keys ++ key ∷ []; waiting = pool.waiting ++ w ∷ [] }

-- what stands at no number of a list
abbrev pub IsNowhere : {A : Type 0} → List A → A → Type 0
IsNowhere {A} xs x = (i : ℕ) → slice_get xs i ≡ Some x → ⊥

-- a key has a number among keys: that of the equal one, or, where it is new, the next one, and then it stands last
pub data IsPlaced (keys : List (List ℕ)) (key : List ℕ) : ℕ → Bool → List (List ℕ) → Type 0 where
  placed_known : {number : ℕ} → slice_get keys number ≡ Some key → IsPlaced keys key number false keys
  placed_new : IsNowhere keys key → IsPlaced keys key (length keys) true (keys ++ key ∷ [])

-- a window waits behind others, renumbered
pub record Joins (before : List Window) (w : Window) (after : List Window) : Type 0 where
  pub member : Window
  pub renumbers : Renumbers w member
  pub waits : after ≡ before ++ member ∷ []

-- a window has a number: that of its key, or the next one, and then it waits, renumbered
pub data IsNumbered (pool : Pool) (w : Window) : ℕ → Pool → Type 0 where
  numbered_known : {number : ℕ} → slice_get pool.keys number ≡ Some (key_of w) → IsNumbered pool w number pool
  numbered_new : {member : Window} → IsNowhere pool.keys (key_of w) → Renumbers w member
      → IsNumbered pool w (length pool.keys) (with_member pool (key_of w) member)

-- ---- how large windows are

-- a window that may be brought on
pub record CanBringOn (table : Table) (w : Window) : Type 0 where
  pub proper : IsProper w
  pub normal : HasNormalForms w
  pub size : tree_size (whole w.front) ≤ most_unwound
  pub names : w.next ≤ 2 ^ 30
  pub parts : PartsAreThere table (2 ^ 30) (whole w.front)

-- a window that was rebased, and may be unwound
pub record IsRebased (table : Table) (w : StoredWindow) : Type 0 where
  pub proper : IsProper (window_in w)
  pub normal : HasNormalForms (window_in w)
  pub nodes : InNodes true w.tree
  pub able : CanUnwind table (window_in w)
  pub size : tree_size (tree_in w.tree) ≤ most_unwound
  pub names : length w.names.forms ≤ 2 ^ 30
  pub variables : w.names.next_variable ≤ 2 ^ 30

-- more than the names that a window gets in a turn
abbrev pub names_a_turn : ℕ
names_a_turn = 4096

-- more than its tags rise in a turn
abbrev pub tags_a_turn : ℕ
tags_a_turn = 32768

-- a window that waits after so many turns has few items, names and tags
pub record IsSmall (table : Table) (turns : ℕ) (w : Window) : Type 0 where
  pub size : tree_size (whole w.front) ≤ most_unwound
  pub names : w.next ≤ names_a_turn * turns
  pub parts : PartsAreThere table (tags_a_turn * turns) (whole w.front)

-- what each window that waits keeps
pub record IsSettled (w : StoredWindow) : Type 0 where
  pub normal : HasNormalForms (window_in w)
  pub nodes : InNodes true w.tree
  pub variables : w.names.next_variable ≤ 2 ^ 30 + most_unwound
