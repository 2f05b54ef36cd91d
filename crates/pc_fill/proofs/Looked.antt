-- The walk through a window: one item or test.
use Rattle.std.proofs.Common.{◌≡◌, ◌∙◌, ◌↔◌, ℕ, suc, Bool, true}
use Rattle.std.proofs.Common.{false, List, Option, Some, refl, sym, subst, arith}
use Rattle.std.specs.List.{AllByRecursion}
use Rattle.pc_word.specs.declared.item.Item.{Item}
use Rattle.pc_word.specs.declared.item.Operand.{Operand}
use Rattle.pc_window.specs.Names.{IsKnown}
use Rattle.pc_window.specs.StoredWindow.{front_in, window_in}
use Rattle.pc_fill.specs.declared.walk.Setting.{Setting}
use Rattle.pc_fill.specs.declared.walk.Found.{Found}
use Rattle.pc_fill.specs.declared.walk.Search.{Search}
use Rattle.pc_fill.specs.declared.path.Path.{Path}
use Rattle.pc_fill.specs.models.Path.{is_plain, MayComeAlong, sides_of}
use Rattle.pc_fill.specs.models.Places.{Node, known_in, IsReadyHere}
use Rattle.pc_fill.specs.models.Search.{HasRoom, comes_before, BestBefore}
use Rattle.pc_fill.specs.models.Way.{Reaches}
use Rattle.pc_fill.specs.models.Walk.{forms_of, IsSetting, IsReadyThere, StandsThere}
use Rattle.pc_fill.specs.models.Walk.{placed, LeadsToFound, LooksAt}
use Rattle.pc_fill.proofs.Searching.{room_here, here_room, look_behind, look_unready, look_found}
use Rattle.pc_fill.proofs.Plain.{plain, plain_comes}
use Rattle.pc_word.proofs.Truth.{fails_here, failed, held, same_fact}

-- ---- ready where a path leads

-- what is not ready, and what is
module _ (s : Setting) (way : Path) (what : Option Item) (operands : List Operand) where
  pub unknown_there : (b : Bool) → (b ≡ true) ↔ AllByRecursion (IsKnown (known_in s.known.now)) operands → b ≡ false → (false ≡ true) ↔ IsReadyThere s way what operands
  unknown_there b iff e = fails_here (IsReadyThere s way what operands) (λ h. failed iff e h.reads)

  pub full_there : (b : Bool) → (b ≡ true) ↔ HasRoom s.window.now.limits what s.counts → b ≡ false → (false ≡ true) ↔ IsReadyThere s way what operands
  full_there b iff e = fails_here (IsReadyThere s way what operands) (λ h. failed iff e h.room)

  pub ready_there : (a b c : Bool) → (a ≡ true) ↔ AllByRecursion (IsKnown (known_in s.known.now)) operands → a ≡ true → (b ≡ true) ↔ HasRoom s.window.now.limits what s.counts
      → b ≡ true → (c ≡ true) ↔ MayComeAlong (forms_of s) way what → (c ≡ true) ↔ IsReadyThere s way what operands
  ready_there a b c reads e room f free =
      same_fact c (MayComeAlong (forms_of s) way what) (IsReadyThere s way what operands) (λ h. record { reads = held reads e; room = held room f; way = h }) (λ h. h.way) free

module _ (s : Setting) (way : Path) (item : Item) (operands : List Operand) where
  pub plain_there : (a b c : Bool) → (a ≡ true) ↔ AllByRecursion (IsKnown (known_in s.known.now)) operands → a ≡ true → (b ≡ true) ↔ HasRoom s.window.now.limits (Some item) s.counts
      → b ≡ true → c ≡ is_plain item → c ≡ true → (true ≡ true) ↔ IsReadyThere s way (Some item) operands
  plain_there a b c reads e room f is g = (
    λ h. record { reads = held reads e; room = held room f; way = plain_comes (forms_of s) item (plain item (sym is ∙ g)) way },
    λ h. refl,
  )

-- what is ready where a path leads is ready at its place
pub ready_at : (s : Setting) (way : Path) (depth place : ℕ) (node : Node) (b : Bool) → IsSetting s → StandsThere s way depth place node
    → (b ≡ true) ↔ IsReadyThere s way node.what node.operands → (b ≡ true) ↔ IsReadyHere (known_in s.known.now) (window_in s.window.now) place node.what node.operands
ready_at s way depth place node b set stands iff =
    same_fact b (IsReadyThere s way node.what node.operands) (IsReadyHere (known_in s.known.now) (window_in s.window.now) place node.what node.operands)
    (λ h. record { reads = h.reads; room = room_here s.window.now.limits node.what s.counts (front_in s.window.now.tree) set.counts h.room; way = stands.way.1 h.way })
    (λ h. record { reads = h.reads; room = here_room s.window.now.limits node.what s.counts (front_in s.window.now.tree) set.counts h.room; way = stands.way.0 h.way }) iff

-- ---- what was looked at

-- the first, at its place, stays the first where one place more was looked at
module _ (s : Setting) (way : Path) (depth : ℕ) (node : Node) (before : Search) where
  -- what stands behind what was found
  pub look_later : ((place : ℕ) → false ≡ comes_before node.tag node.origin (placed before.best place)) → LooksAt s way depth node before before
  look_later e = record {
    on = λ set place stands best. record {
      at = best.at;
      best = look_behind (known_in s.known.now) s.window.now place (suc place) node stands.at (omega arith) (placed before.best best.at) best.best (sym (e best.at));
      way = best.way;
    };
  }

  -- what is not ready
  pub look_waiting : (b : Bool) → (b ≡ true) ↔ IsReadyThere s way node.what node.operands → b ≡ false → LooksAt s way depth node before before
  look_waiting b iff e = record {
    on = λ set place stands best. record {
      at = best.at;
      best = look_unready (known_in s.known.now) s.window.now place (suc place) node stands.at (omega arith) (placed before.best best.at) best.best b
          (ready_at s way depth place node b set stands iff) e;
      way = best.way;
    };
  }

  -- what is found
  pub look_first : (b : Bool) → ((place : ℕ) → true ≡ comes_before node.tag node.origin (placed before.best place)) → (b ≡ true) ↔ IsReadyThere s way node.what node.operands → b ≡ true
      → (after : Search) → after.best ≡ Some (record { tag = node.tag; origin = node.origin; depth = depth; item = node.what }) → after.way.items ≡ sides_of way
      → LooksAt s way depth node before after
  look_first b e iff f after is sides = record {
    on = λ set place stands best. record {
      at = place;
      best = subst (λ (it : Option Found). BestBefore (known_in s.known.now) (window_in s.window.now) (suc place) (placed it place)) (sym is)
          (look_found (known_in s.known.now) s.window.now place (suc place) node stands.at (omega arith) (placed before.best best.at) best.best b (sym (e best.at))
          (ready_at s way depth place node b set stands iff) f);
      way = subst (λ (it : Option Found). LeadsToFound (front_in s.window.now.tree) it after.way.items place) (sym is)
          (subst (λ (l : List Bool). Reaches (front_in s.window.now.tree) l depth place) (sym sides) stands.leads);
    };
  }

pub ruleset ready = (unknown_there, full_there, ready_there, plain_there)

pub ruleset looking = (look_later, look_waiting, look_first)
