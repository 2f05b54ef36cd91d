-- A jump of filling is a legal move, and filling is made of these.
use Rattle.std.specs.Prelude.{ℕ, Bool, Option, Some, None}
use Rattle.std.proofs.Common.{sym, subst, arith}
use Rattle.pc_word.specs.declared.item.Item.{Item}
use Rattle.pc_word.specs.declared.item.Limits.{Limits}
use Rattle.pc_linear.specs.Form.{Form}
use Rattle.pc_table.specs.Table.{Table}
use Rattle.pc_window.specs.Tree.{Front, whole}
use Rattle.pc_window.specs.Names.{uses, IsNew}
use Rattle.pc_window.specs.Jump.{EntersFront, Lands, Lands_renamed, Lands_test, Lands_once, Behind_item, On_yes, On_no}
use Rattle.pc_window.specs.Move.{Into_node}
use Rattle.pc_window.specs.Filled.{IsWindow, TwinsAlike, IsNext, Jump, Filled, Full, Goes_on}
use Rattle.pc_window.specs.WindowRun.{Window}
use Rattle.pc_window.specs.Steps.{Positive, IsProper}
use Rattle.pc_window.proofs.Tidying.{not_true}
use Rattle.pc_window.proofs.Filling.{jump_window}
use Rattle.pc_window.proofs.Parameters.{parameters_known, scoped_parameters, independent_parameters}
use Rattle.pc_window.proofs.Proper.{StaysNew, jump_below}
use Rattle.pc_window.proofs.Unwinding.{used_below}
use Rattle.pc_certified.specs.Changes.{EntersWithSameTags, moves, ChangesTo, no_change, one_change}
use Rattle.pc_certified.specs.Laws.{JumpsAreMoves, FillingIsMadeOfMoves}
use Rattle.pc_certified.proofs.Narrowed.{narrowed}

-- items of one tag and origin have one tag
same_tags : {known : ℕ → Bool} {forms forms' : ℕ → Form} {new : Option ℕ} {comes : Option Item} {from to : Front}
    → (enters : EntersFront known forms forms' new comes from to) → TwinsAlike enters → EntersWithSameTags enters
same_tags (Lands tag origin x from left reads isnew none same rises) h = tt
same_tags (Lands_renamed tag origin name stood from left reads isnew is gives rises) h = tt
same_tags (Lands_test tag origin on from on_yes on_no reads none same divides) h = tt
same_tags (Lands_once t o on tag origin tag' origin' name stood other crosses crosses' on_yes on_no yes_left no_left equal reads isnew is gives rises rises') h = h.0
same_tags (Behind_item t o y comes rest rest' may apart enters) h = same_tags enters h
same_tags (On_yes t o on comes on_yes on_no on_yes' apart enters) h = same_tags enters h
same_tags (On_no t o on comes on_yes on_no on_no' apart enters) h = same_tags enters h

-- the next name is new
next_new : (w : Window) → IsProper w → (new : Option ℕ) → IsNext w.next new → IsNew (uses (whole w.front)) new
next_new w p None is = tt
next_new w p (Some name) is =
    not_true (uses (whole w.front) name) (λ used. let lt = used_below w.next (whole w.front) name p.names_below used in absurd (omega (arith, lt, is)))

pub jumps_are_moves : JumpsAreMoves
jumps_are_moves w v p jump =
    let known = uses (whole w.front) in
    let is = jump_window known w v jump p.window in
    let below = jump_below known w v jump (record { names_below = p.names_below; forms_below = p.forms_below }) in
    record {
      new = jump.new;
      moves = Into_node known jump.comes w.front v.front jump.enters;
      tags = same_tags jump.enters jump.twins;
      is_new = next_new w p jump.new jump.next;
      proper = record {
        window = record { scoped = scoped_parameters (whole v.front) known is.scoped; independent = independent_parameters v.forms known v.front is.scoped is.independent; within = is.within };
        room = subst (λ (l : Limits). Positive l) (sym jump.limits) p.room;
        names_below = below.names_below;
        forms_below = below.forms_below;
      };
      limits = jump.limits;
      inside = jump.inside;
    }

-- ---- filling

-- what is known to more than a window's parameters
proper_of : (known : ℕ → Bool) (w : Window) → IsWindow known w → StaysNew w → Positive w.limits → IsProper w
proper_of known w is below room = record {
  window = record { scoped = scoped_parameters (whole w.front) known is.scoped; independent = independent_parameters w.forms known w.front is.scoped is.independent; within = is.within };
  room = room;
  names_below = below.names_below;
  forms_below = below.forms_below;
}

-- a jump reads the window's own parameters
own_jump : (known : ℕ → Bool) (w v : Window) → IsWindow known w → Jump known w v → Jump (uses (whole w.front)) w v
own_jump known w v is jump =
    let n = narrowed w.forms known (uses (whole w.front)) v.forms jump.new known jump.comes w.front v.front (λ z k. k) (parameters_known (whole w.front) known is.scoped)
    (λ z k u. u) is.scoped jump.enters in
    record {
      new = jump.new;
      comes = jump.comes;
      enters = n.0;
      next = jump.next;
      names = jump.names;
      twins = n.1 jump.twins;
      room = jump.room;
      limits = jump.limits;
      inside = jump.inside;
    }

filled_changes : (table : Table) (known : ℕ → Bool) (w v : Window) → Filled known w v → IsWindow known w → StaysNew w → Positive w.limits → ChangesTo table w v
filled_changes table known w v (Full w' none) is below room = no_change
filled_changes table known w v (Goes_on w' v' u jump first filled) is below room =
    one_change (moves (jumps_are_moves w' v' (proper_of known w' is below room) (own_jump known w' v' is jump)))
    (filled_changes table known v' u filled (jump_window known w' v' jump is) (jump_below known w' v' jump below) (subst (λ (l : Limits). Positive l) (sym jump.limits) room))

pub filling_changes : FillingIsMadeOfMoves
filling_changes table w v p filled =
    filled_changes table (uses (whole w.front)) w v filled p.window (record { names_below = p.names_below; forms_below = p.forms_below }) p.room
