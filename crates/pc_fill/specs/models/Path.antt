-- What stands above a place, what may come along it into the front, and the sides of tests that it takes.
use Rattle.std.specs.Prelude.{ℕ, Bool, not, ◌&&◌, ◌↔◌, List, [], ◌∷◌, ◌++◌, Option}
use Rattle.pc_word.specs.declared.item.Item.{Item}
use Rattle.pc_word.specs.Items.{is_memory, is_effect}
use Rattle.pc_linear.specs.Form.{Form}
use Rattle.pc_window.specs.Ready.{MayStandBehind}
use Rattle.pc_fill.specs.declared.path.Path.{Path}
use Rattle.pc_fill.specs.declared.path.Path.TheVariants.{Root, Issued', Chosen', Passed', Crossed'}
use Rattle.pc_fill.specs.models.Places.{MayPass, MayCross}

-- whether an item touches no array, and prints and reads nothing
abbrev pub is_plain : Item → Bool
is_plain item = not (is_memory item) && not (is_effect item)

-- an item, or a test, may pass what stands above it
abbrev pub MayComeAlong : (ℕ → Form) → Path → Option Item → Type 0
MayComeAlong forms Root what = Unit {0}
MayComeAlong forms (Issued' item p above) what = MayStandBehind forms item what × MayComeAlong forms above what
MayComeAlong forms (Chosen' side p above) what = MayComeAlong forms above what
MayComeAlong forms (Passed' item p above) what = MayPass forms item what × MayComeAlong forms above what
MayComeAlong forms (Crossed' side p above) what = MayCross what × MayComeAlong forms above what

-- the sides that it takes, from the root down
abbrev pub sides_of : Path → List Bool
sides_of Root = []
sides_of (Issued' item p above) = sides_of above
sides_of (Chosen' side p above) = sides_of above ++ (side ∷ [])
sides_of (Passed' item p above) = sides_of above
sides_of (Crossed' side p above) = sides_of above ++ (side ∷ [])

-- a path that leads on past something
abbrev pub LeadsOn : (ℕ → Form) → (Option Item → Type 0) → Path → Path → Type 0
LeadsOn forms May above below = (what : Option Item) → MayComeAlong forms below what ↔ (May what × MayComeAlong forms above what)
