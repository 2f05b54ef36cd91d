-- How windows begin, in memory.
use Rattle.std.proofs.Common.{◌≡◌, ℕ, suc, zero, ◌+◌, ◌<◌, ◌≤◌, ◌^◌, Bool, true, false, length, Option, Some, None, refl, sym, ap, subst, arith}
use Rattle.std.specs.Prelude.{◌&&◌, if◌then◌else◌}
use Rattle.pc_word.specs.declared.item.Limits.{Limits}
use Rattle.pc_cert.specs.declared.certificate.Opening.{Opening}
use Rattle.pc_table.specs.declared.table.RegionTable.{RegionTable}
use Rattle.pc_table.specs.Table.{Table}
use Rattle.pc_table.specs.StoredTable.{table_of}
use Rattle.pc_table.proofs.StoredRegions.{as_many}
use Rattle.pc_window.specs.declared.window.Window.{Window as StoredWindow}
use Rattle.pc_window.specs.Tree.{Tree, whole, tree_size}
use Rattle.pc_window.specs.Opening.{TreeBelow}
use Rattle.pc_window.specs.WindowRun.{Window}
use Rattle.pc_window.specs.Steps.{UnwindsTo, Tidies, IsProper}
use Rattle.pc_window.specs.StoredWindow.{tree_in, front_in, window_in, InNodes}
use Rattle.pc_window.proofs.There.{tidies_there}
use Rattle.pc_window.proofs.WindowsStored.{whole_in}
use Rattle.pc_unwind.specs.Unwindable.{HasGrown}
use Rattle.pc_unwind.proofs.PartsThere.{parts_higher}
use Rattle.pc_canon.specs.Keyed.{HasKey}
use Rattle.pc_settling.specs.Remaining.{Remaining}
use Rattle.pc_settling.specs.Begun.{has_room, with_loop, given_loop, before_unwinding, Widens, Begun, BeginsWith, is_stub}
use Rattle.pc_settling.specs.Stored.{IsLeft, IsBegun}
use Rattle.pc_settling.proofs.Rooms.{Room, room_of, can_unwind}

-- ---- another loop

-- a proper window with another loop is proper
pub loop_proper : (loop : Option ℕ) (w : Window) → IsProper w → IsProper (with_loop loop w)
loop_proper loop w p = record {
  window = record { scoped = p.window.scoped; independent = p.window.independent; within = p.window.within };
  room = p.room;
  names_below = p.names_below;
  forms_below = p.forms_below;
}

pub loop_left : (loop : Option ℕ) (w : StoredWindow) → IsLeft w → IsLeft (record { tree = w.tree; names = w.names; limits = w.limits; inside = loop })
loop_left loop w left = record { proper = loop_proper loop (window_in w) left.proper; nodes = left.nodes; size = left.size }

-- where there is room
pub given_room : (table : Table) (loop : Option ℕ) (left : Remaining) → has_room table left.window ≡ true
    → (let it : Remaining = record { window = with_loop loop left.window; facts = left.facts } in Some it) ≡ given_loop table loop (Some left)
given_room table loop left room = choose (has_room table left.window) room
  where
    choose : (b : Bool) → b ≡ true
        → (let it : Remaining = record { window = with_loop loop left.window; facts = left.facts } in Some it)
        ≡ (if b then Some (record { window = with_loop loop left.window; facts = left.facts }) else None)
    choose true e = refl
    choose false e = absurd (cc)

-- and where there is none
pub given_no_room : (table : Table) (loop : Option ℕ) (left : Remaining) → has_room table left.window ≡ false → None ≡ given_loop table loop (Some left)
given_no_room table loop left room = choose (has_room table left.window) room
  where
    choose : (b : Bool) → b ≡ false
        → None ≡ (if b then (let it : Remaining = record { window = with_loop loop left.window; facts = left.facts } in Some it) else None)
    choose false e = refl
    choose true e = absurd (cc)

pub ruleset loops = (loop_left, given_room, given_no_room)

-- ---- unwound and tidied

pub widens_none : (table : Table) (number : ℕ) (w : Window) → number ≡ 0 → Widens table number w w
widens_none table zero w is = refl
widens_none table (suc number) w is = absurd (cc)

pub widens_some : (table : Table) (number : ℕ) (w unwound v : Window) → (number ≡ 0 → ⊥) → UnwindsTo table number w unwound → Tidies unwound v → Widens table number w v
widens_some table zero w unwound v some unwinds tidies = absurd (some refl)
widens_some table (suc number) w unwound v some unwinds tidies = (unwound, unwinds, tidies)

-- what is not unwound has room
pub begun_plain : (table : RegionTable) (w : StoredWindow) → IsLeft w → has_room (table_of table) (window_in w) ≡ true → IsBegun (table_of table) w
begun_plain table w left h =
    let room = room_of (table_of table) w h in
    let names = room.names in
    let variables = room.variables in
    record {
      left = left;
      names = omega (arith, names);
      variables = omega (arith, variables);
      parts = parts_higher (table_of table) (2 ^ 29) (2 ^ 30) (whole (window_in w).front) (omega arith) room.parts;
    }

-- what is unwound and tidied still has
pub begun_widened : (table : RegionTable) (number : ℕ) (w unwound later : StoredWindow) → number < 2 ^ 8 → IsLeft w → has_room (table_of table) (window_in w) ≡ true
    → HasGrown (table_of table) number (window_in w) (window_in unwound) → Tidies (window_in unwound) (window_in later)
    → tree_size (tree_in later.tree) ≤ tree_size (tree_in unwound.tree) → IsProper (window_in later) → InNodes true later.tree → IsBegun (table_of table) later
begun_widened table number w unwound later few left h grown tidies smaller proper nodes =
    let room = room_of (table_of table) w h in
    let names = room.names in
    let variables = room.variables in
    let size = left.size in
    let larger = grown.size in
    let more_names = grown.names in
    let more_variables = grown.variables in
    let same : tree_size (whole (front_in w.tree)) ≡ tree_size (tree_in w.tree) = ap tree_size (whole_in w.tree) in
    let unwound_same : tree_size (whole (front_in unwound.tree)) ≡ tree_size (tree_in unwound.tree) = ap tree_size (whole_in unwound.tree) in
    let same_names : length later.names.forms ≡ length unwound.names.forms = ap (λ (u : Window). u.next) tidies in
    let same_variables : later.names.next_variable ≡ unwound.names.next_variable = ap (λ (u : Window). u.next_variable) tidies in
    let regions = as_many table.regions in
    let few_regions = table.few in
    record {
      left = record { proper = proper; nodes = nodes; size = omega (arith, size, larger, same, unwound_same, smaller) };
      names = omega (arith, names, size, larger, same, more_names, same_names);
      variables = omega (arith, variables, size, larger, same, more_variables, same_variables);
      parts = tidies_there (table_of table) (2 ^ 30) (window_in unwound) (window_in later) tidies (
          parts_higher (table_of table) (2 ^ 29 + (length (table_of table).regions + number)) (2 ^ 30) (whole (window_in unwound).front) (
          omega (arith, regions, few_regions, few)
          ) (grown.parts (2 ^ 29) room.parts)
          );
    }

pub ruleset widening = (can_unwind, widens_none, widens_some, begun_plain, begun_widened)

-- ---- all of it

-- an entry begins with what was widened
pub begins_with : (table : Table) (limits : Limits) (opening : Opening) (left before : Remaining) (later : StoredWindow) (begun : Begun)
    → Some before ≡ before_unwinding table limits opening left → Widens table opening.window before.window (window_in later)
    → begun ≡ (record { window = window_in later; facts = before.facts; entered = opening.enters && is_stub (whole left.window.front) })
    → BeginsWith table limits opening left begun
begins_with table limits opening left before later begun is widens begun_is =
    subst (BeginsWith table limits opening left) (sym begun_is) (
    record { before = before; is_before = sym is; widens = widens; facts = refl; entered = refl }
    )

-- what has begun has a key
pub begun_key : (table : Table) (w : StoredWindow) → IsBegun table w → HasKey w
begun_key table w begun =
    let names = begun.names in
    let size = begun.left.size in
    record {
      below = subst (λ (t : Tree). TreeBelow (length w.names.forms) t) (whole_in w.tree) begun.left.proper.names_below;
      few_names = omega (arith, names);
      variables = begun.left.proper.forms_below;
      small = omega (arith, size);
    }

pub ruleset begun = (begins_with)
