-- Windows that were left at leaves, as they are kept: by the keys that they have once they are rebased.
use Rattle.std.specs.Prelude.{◌≡◌, ℕ, List, length, map, Some, None, slice_get, slice_set}
use Rattle.pc_window.specs.Tree.{whole}
use Rattle.pc_window.specs.Names.{parameters_of}
use Rattle.pc_window.specs.WindowRun.{Window}
use Rattle.pc_window.specs.Steps.{IsProper}
use Rattle.pc_canon.specs.Pairs.{Pair}
use Rattle.pc_canon.specs.Key.{key_of}
use Rattle.pc_shifts.specs.Alike.{HasNormalForms}
use Rattle.pc_automaton.specs.declared.automaton.AutomatonLeaf.{AutomatonLeaf}
use Rattle.pc_automaton.specs.declared.automaton.AutomatonLeaf.TheVariants.{To}
use Rattle.pc_pattern.specs.declared.error.SearchError.{SearchError}
use Rattle.pc_pattern.specs.declared.error.SearchError.TheVariants.{Memory}
use Rattle.pc_pattern.specs.declared.pool.Pool.{Pool as StoredPool}
use Rattle.pc_pattern.specs.declared.seen.Met.{Met}
use Rattle.pc_pattern.specs.declared.seen.Seen.{Seen}
use Rattle.pc_pattern.specs.declared.seen.SeenMember.{SeenMember}
use Rattle.pc_pattern.specs.Searches.{Rules, Settles, bare_leaf}
use Rattle.pc_pattern.specs.models.Pools.{Pool, keys_in}
use Rattle.pc_pattern.specs.models.Leading.{WindowLeads, WindowRefused}
use Rattle.pc_pattern.specs.models.Renaming.{arguments_for}

-- ---- what is kept

-- a window with this key is unwound and tidied to one that is a member, where members have these keys: the member has this number, and
-- the parameters stand at these places among those of the window
pub record CameTo (rules : Rules) (keys : List (List ℕ)) (key : List ℕ) (member : SeenMember) : Type 0 where
  pub before : Window
  pub proper : IsProper before
  pub normal : HasNormalForms before
  pub has_key : key ≡ key_of before
  pub after : Window
  pub settles : Settles rules before after
  pub to_do : bare_leaf (whole after.front) ≡ None
  pub is_member : slice_get keys member.number ≡ Some (key_of after)
  pub parameters : map (λ place. slice_get (parameters_of (whole before.front)) place) member.places
      ≡ map (λ name. Some name) (parameters_of (whole after.front))

-- what is kept of each is so
pub record AreSeen (rules : Rules) (keys : List (List ℕ)) (seen : Seen) : Type 0 where
  pub as_many : length seen.members.items ≡ length seen.keys.keys
  pub each : (place : ℕ) (key : List ℕ) (member : SeenMember) → slice_get (keys_in seen.keys.keys) place ≡ Some key
      → slice_get seen.members.items place ≡ Some (Some member) → CameTo rules keys key member

-- it stays so where a search goes on
abbrev pub KeepsSeen : Rules → StoredPool → StoredPool → Type 0
KeepsSeen rules before after = AreSeen rules (keys_in before.keys.keys) before.seen → AreSeen rules (keys_in after.keys.keys) after.seen

-- ---- windows that are met

-- a key has a place, for which nothing is kept where it is new
pub record HasPlace (key : List ℕ) (place : ℕ) (before after : Seen) : Type 0 where
  pub there : slice_get (keys_in after.keys.keys) place ≡ Some key
  pub kept : (rules : Rules) (keys : List (List ℕ)) → AreSeen rules keys before → AreSeen rules keys after

-- a window is met: its key has a place, and these are its parameters
pub record IsMet (seen : Seen) (met : Met) (w : Window) : Type 0 where
  pub there : slice_get (keys_in seen.keys.keys) met.place ≡ Some (key_of w)
  pub parameters : met.parameters ≡ parameters_of (whole w.front)

-- a window that was brought on was met before it was unwound
pub record WasMet (rules : Rules) (seen : Seen) (met : Met) (after : Window) : Type 0 where
  pub before : Window
  pub proper : IsProper before
  pub normal : HasNormalForms before
  pub met_so : IsMet seen met before
  pub settles : Settles rules before after

-- a member may be kept for a window that was met; nothing else differs
pub record Keeps (met : Met) (number : ℕ) (parameters : List ℕ) (before after : Seen) : Type 0 where
  pub member : SeenMember
  pub has_number : member.number ≡ number
  pub places : map (λ place. slice_get met.parameters place) member.places ≡ map (λ name. Some name) parameters
  pub same_keys : after.keys.keys ≡ before.keys.keys
  pub members : after.members.items ≡ slice_set before.members.items met.place (Some member)

pub data MayKeep (met : Met) (number : ℕ) (parameters : List ℕ) (before after : Seen) : Type 0 where
  keeps_none : after ≡ before → MayKeep met number parameters before after
  keeps_one : Keeps met number parameters before after → MayKeep met number parameters before after

-- a leaf leads to the member that is kept for a window that was met
pub record LeadsToKept (written : List Pair) (met : Met) (seen : Seen) (leaf : AutomatonLeaf) : Type 0 where
  pub member : SeenMember
  pub kept : slice_get seen.members.items met.place ≡ Some (Some member)
  pub parameters : List ℕ
  pub there : map (λ place. slice_get met.parameters place) member.places ≡ map (λ name. Some name) parameters
  pub leads : leaf ≡ To member.number (arguments_for written parameters)

-- ---- rebased windows

-- a rebased window becomes a leaf, once it is unwound and tidied
pub record RebasedLeads (rules : Rules) (written : List Pair) (pool : Pool) (w : Window) (leaf : AutomatonLeaf) (later : Pool) : Type 0 where
  pub brought : Window
  pub settles : Settles rules w brought
  pub leads : WindowLeads written pool brought leaf later

-- or it is one member too many; or memory ran out
pub data RebasedRefused (rules : Rules) (rows : ℕ) (pool : Pool) (w : Window) : SearchError → Type 0 where
  rebased_memory : RebasedRefused rules rows pool w Memory
  rebased_many : {brought : Window} {error : SearchError} → Settles rules w brought → WindowRefused rows pool brought error
      → RebasedRefused rules rows pool w error
