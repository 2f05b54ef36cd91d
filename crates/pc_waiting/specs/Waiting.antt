-- What keeps an item or test that stands behind a window's front from coming into it: the first of these reasons. It reads what is not
-- known before the row; what stands above it does not let it pass; or the front has no room.
use Rattle.std.specs.Prelude.{◌≡◌, ℕ, suc, ◌+◌, ◌-◌, Bool, true, false, if◌then◌else◌, nat_eq, List, [], ◌∷◌, ◌++◌, Option, Some, None}
use Rattle.std.specs.Option.{option_or}
use Rattle.pc_word.specs.declared.item.Item.{Item}
use Rattle.pc_word.specs.declared.item.Limits.{Limits}
use Rattle.pc_word.specs.declared.item.Operand.{Operand}
use Rattle.pc_word.specs.declared.item.Operand.TheVariants.{Name, Lit}
use Rattle.pc_word.specs.Items.{dest_of, operands_of, is_memory, only_computes}
use Rattle.pc_word.specs.Commit.{writes}
use Rattle.pc_linear.specs.Form.{Form}
use Rattle.pc_window.specs.Tree.{Tree, Pending, Undecided, Exit, Stop_exit, Trap_exit, Front, Issued, Split, Unfinished, whole, tree_size}
use Rattle.pc_window.specs.Conflict.{NoConflict}
use Rattle.pc_window.specs.Ready.{MayStandBehind}
use Rattle.pc_window.specs.Filled.{item_count, memory_count, test_count}
use Rattle.pc_window.specs.WindowRun.{Window}
use Rattle.pc_waiting.specs.declared.obstacle.Resource.{Resource}
use Rattle.pc_waiting.specs.declared.obstacle.Resource.TheVariants.{Items, Tests, Memory}
use Rattle.pc_waiting.specs.declared.obstacle.Obstacle.{Obstacle}
use Rattle.pc_waiting.specs.declared.obstacle.Obstacle.TheVariants as told
use Rattle.pc_waiting.specs.declared.obstacle.Waiting.{Waiting}
use Rattle.pc_waiting.specs.declared.path.Kind.{Kind}
use Rattle.pc_waiting.specs.declared.path.Kind.TheVariants as kind
use Rattle.pc_waiting.specs.declared.path.Above.{Above}
use Rattle.pc_waiting.specs.declared.room.Room.{Room}

-- ---- what stands behind a front

-- an item or test that stands behind a front: `what` is the item, or none where it is a test; what it reads; what stands above it, from
-- there up to the root, but for tests of the front; and its preorder place in the window
pub record Standing : Type 0 where
  pub tag : ℕ
  pub origin : ℕ
  pub what : Option Item
  pub operands : List Operand
  pub above : List Above
  pub place : ℕ

-- the items and tests of a tree behind the front, in preorder, where these stand above it and it begins at this place
abbrev pub standing_in : List Above → ℕ → Tree → List Standing
standing_in above place (Pending tag origin item rest) =
    record { tag = tag; origin = origin; what = Some item; operands = operands_of item; above = above; place = place }
    ∷ standing_in (record { tag = tag; origin = origin; kind = kind.Pending item } ∷ above) (suc place) rest
standing_in above place (Undecided tag origin on on_yes on_no) =
    record { tag = tag; origin = origin; what = None; operands = on ∷ []; above = above; place = place }
    ∷ (standing_in (record { tag = tag; origin = origin; kind = kind.Undecided } ∷ above) (suc place) on_yes
    ++ standing_in (record { tag = tag; origin = origin; kind = kind.Undecided } ∷ above) (suc (place + tree_size on_yes)) on_no)
standing_in above place (Exit region tag homes) = []
standing_in above place Stop_exit = []
standing_in above place (Trap_exit what line) = []

-- the same behind a part of a front
abbrev pub standing_behind : List Above → ℕ → Front → List Standing
standing_behind above place (Issued tag origin item rest) =
    standing_behind (record { tag = tag; origin = origin; kind = kind.Issued item } ∷ above) (suc place) rest
standing_behind above place (Split tag origin on on_yes on_no) =
    standing_behind above (suc place) on_yes ++ standing_behind above (suc (place + tree_size (whole on_yes))) on_no
standing_behind above place (Unfinished rest) = standing_in above place rest

-- and behind a whole front
abbrev pub standing_of : Front → List Standing
standing_of front = standing_behind [] 0 front

-- ---- what it needs

-- whether what stands above writes a name
abbrev pub kind_writes : Kind → ℕ → Bool
kind_writes (kind.Issued item) x = writes (dest_of item) x
kind_writes (kind.Pending item) x = writes (dest_of item) x
kind_writes kind.Undecided x = false

-- the nearest item above that writes a name
abbrev pub writer_of : (first : ℕ) → List Above → ℕ → Option Obstacle
writer_of first [] x = None
writer_of first (last ∷ above) x = if kind_writes last.kind x then Some (told.Needs (last.tag - first) last.origin) else writer_of first above x

-- the one that writes what an operand reads
abbrev pub needed_by : (first : ℕ) → List Above → Operand → Option Obstacle
needed_by first above (Name x) = writer_of first above x
needed_by first above (Lit value) = None

-- the one that writes the first operand which is written above
abbrev pub needed : (first : ℕ) → List Above → List Operand → Option Obstacle
needed first above [] = None
needed first above (one ∷ []) = needed_by first above one
needed first above (one ∷ other ∷ operands) = option_or (needed_by first above one) (needed first above (other ∷ operands))

-- ---- what is in its way

-- what stands above lets an item, or a test, pass: in the front the item may stand behind it; behind the front the two do not conflict,
-- and past a test only an item may come that does no more than to give its name a word
abbrev pub LetsPass : (ℕ → Form) → Kind → Option Item → Type 0
LetsPass forms (kind.Issued y) what = MayStandBehind forms y what
LetsPass forms (kind.Pending y) (Some x) = NoConflict forms y x
LetsPass forms (kind.Pending y) None = Unit {0}
LetsPass forms kind.Undecided (Some x) = only_computes x ≡ true
LetsPass forms kind.Undecided None = ⊥

-- the obstacle that something is where it does not let pass
abbrev pub met_as : Kind → (iteration origin : ℕ) → Obstacle
met_as (kind.Issued item) iteration origin = told.Meets iteration origin
met_as (kind.Pending item) iteration origin = told.Meets iteration origin
met_as kind.Undecided iteration origin = told.Undecided iteration origin

-- with its iteration counted from the first
abbrev pub met : (first : ℕ) → Above → Obstacle
met first it = met_as it.kind (it.tag - first) it.origin

-- the first that does not let an item, or a test, pass, from the root down, which is the end of the list; or none
pub data FirstInWay (forms : ℕ → Form) (first : ℕ) (what : Option Item) : List Above → Option Obstacle → Type 0 where
  Nothing_above : FirstInWay forms first what [] None
  Stopped_before : (last : Above) (above : List Above) (found : Obstacle) → FirstInWay forms first what above (Some found)
      → FirstInWay forms first what (last ∷ above) (Some found)
  Stopped_here : (last : Above) (above : List Above) → FirstInWay forms first what above None → (LetsPass forms last.kind what → ⊥)
      → FirstInWay forms first what (last ∷ above) (Some (met first last))
  Passes : (last : Above) (above : List Above) → FirstInWay forms first what above None → LetsPass forms last.kind what
      → FirstInWay forms first what (last ∷ above) None

-- ---- room

-- what is left of some room beside a front: its items, its tests, and its loads and stores take it
abbrev pub room_beside : Room → Front → Room
room_beside room front = record { items = room.items - item_count front; tests = room.tests - test_count front; memory = room.memory - memory_count front }

-- the room that a front has left within limits
abbrev pub room_of : Limits → Front → Room
room_of limits front = room_beside (record { items = limits.ops; tests = limits.tests; memory = limits.mem }) front

-- an obstacle where nothing is left
abbrev pub no_room : (left : ℕ) → Resource → Option Obstacle
no_room left resource = if nat_eq left 0 then Some (told.NoRoom resource) else None

-- what an item, or a test, lacks
abbrev pub lacking : Room → Option Item → Option Obstacle
lacking room (Some item) = option_or (no_room room.items Items) (if is_memory item then no_room room.memory Memory else None)
lacking room None = no_room room.tests Tests

-- ---- what waits, and why

-- the first obstacle of an item, or a test, that reads these operands and stands below these: something that it needs, else something in
-- its way, else that there is no room; or none
pub data FirstObstacle (forms : ℕ → Form) (first : ℕ) (room : Room) (above : List Above) (what : Option Item) (operands : List Operand) : Option Obstacle → Type 0 where
  Is_needed : (found : Obstacle) → needed first above operands ≡ Some found → FirstObstacle forms first room above what operands (Some found)
  Is_in_way : (found : Obstacle) → needed first above operands ≡ None → FirstInWay forms first what above (Some found)
      → FirstObstacle forms first room above what operands (Some found)
  Is_room : needed first above operands ≡ None → FirstInWay forms first what above None → FirstObstacle forms first room above what operands (lacking room what)

-- the same of what stands behind the front of a window
abbrev pub HasObstacle : (first : ℕ) → Window → Standing → Option Obstacle → Type 0
HasObstacle first w it found = FirstObstacle w.forms first (room_of w.limits w.front) it.above it.what it.operands found

-- the entry of what waits
abbrev pub waits_for : (first : ℕ) → Standing → Obstacle → Waiting
waits_for first it obstacle = record { iteration = it.tag - first; origin = it.origin; what = it.what; obstacle = obstacle }

-- these are the entries of what stands there: one for each that has an obstacle, in order
pub data AreWaiting (forms : ℕ → Form) (first : ℕ) (room : Room) : List Standing → List Waiting → Type 0 where
  No_more : AreWaiting forms first room [] []
  One_waits : (it : Standing) (others : List Standing) (obstacle : Obstacle) (found : List Waiting)
      → FirstObstacle forms first room it.above it.what it.operands (Some obstacle) → AreWaiting forms first room others found
      → AreWaiting forms first room (it ∷ others) (waits_for first it obstacle ∷ found)
  One_is_free : (it : Standing) (others : List Standing) (found : List Waiting) → FirstObstacle forms first room it.above it.what it.operands None
      → AreWaiting forms first room others found → AreWaiting forms first room (it ∷ others) found

-- what waits behind the front of a window, and why, with iterations counted from this one
abbrev pub WhatWaits : (first : ℕ) → Window → List Waiting → Type 0
WhatWaits first w found = AreWaiting w.forms first (room_of w.limits w.front) (standing_of w.front) found
