-- Why an item may not move, by what is told of it.
use Rattle.std.proofs.Common.{◌≡◌, ℕ, Bool, List, [], ◌∷◌, Option, Some, None, refl, ◌∙◌, ap}
use Rattle.std.specs.Prelude.{slice_get}
use Rattle.std.specs.List.{list_any}
use Rattle.pc_word.specs.declared.item.Item.{Item}
use Rattle.pc_word.specs.declared.item.Item.TheVariants.{Bin, Copy, Load, Store, Print, Read, More}
use Rattle.pc_word.specs.declared.item.Operand.{Operand}
use Rattle.pc_word.specs.declared.item.Operand.TheVariants.{Name, Lit}
use Rattle.pc_word.specs.Items.{operands_of}
use Rattle.pc_window.specs.declared.window.Window.{Window as StoredWindow}
use Rattle.pc_window.specs.StoredWindow.{forms_in}
use Rattle.pc_moveop.specs.NodeTree.{nodes_in, node_front}
use Rattle.pc_moveop.specs.Climbing.{defines_operand, Passed, Mover, first_defined, has_effect, crosses_test}
use Rattle.pc_moveop.specs.Refusing.{refused_first, first_refusal, no_room_at, RefusesFound}
use Rattle.pc_moveop.specs.declared.error.MoveError.{MoveError}
use Rattle.pc_moveop.specs.declared.error.MoveError.TheVariants.{NotThere}
use Rattle.pc_moveop.specs.models.Climbs.{Finds, first_marked, second_marked}
use Rattle.pc_moveop.specs.declared.climbing.Climb.{Climb}

-- one operand after another
one_marked : (o : Operand) (way : List Passed) → second_marked (list_any (defines_operand (Some o)) way) (o ∷ []) ≡ first_defined (o ∷ []) way
one_marked (Name x) way = refl
one_marked (Lit v) way = refl

both_marked : (o p : Operand) (way : List Passed)
    → first_marked (list_any (defines_operand (Some o)) way) (list_any (defines_operand (Some p)) way) (o ∷ p ∷ []) ≡ first_defined (o ∷ p ∷ []) way
both_marked (Name x) (Name y) way = refl
both_marked (Name x) (Lit v) way = refl
both_marked (Lit u) (Name y) way = refl
both_marked (Lit u) (Lit v) way = refl

alone_marked : (o : Operand) (b : Bool) (way : List Passed) → first_marked (list_any (defines_operand (Some o)) way) b (o ∷ []) ≡ first_defined (o ∷ []) way
alone_marked (Name x) b way = refl
alone_marked (Lit v) b way = refl

marked : (x : Item) (way : List Passed)
    → first_marked (list_any (defines_operand (slice_get (operands_of x) 0)) way) (list_any (defines_operand (slice_get (operands_of x) 1)) way) (operands_of x) ≡ first_defined (operands_of x) way
marked (Bin op d l r) way = both_marked l r way
marked (Copy d from) way = alone_marked from _ way
marked (Load d a index) way = alone_marked index _ way
marked (Store a index value) way = both_marked index value way
marked (Print value) way = alone_marked value _ way
marked (Read d) way = refl
marked (More d) way = refl

-- the first refusal, by what is told of an item
pub refused : (w : StoredWindow) (parent : List ℕ) (c : Climb) (found : Option Mover) (why : Option MoveError) → Finds (forms_in w.names.forms) found (Some c)
    → why ≡ refused_first (first_refusal (first_marked c.first_defined c.second_defined (operands_of c.item)) c.conflict c.crosses c.effect c.item)
    (no_room_at parent w.limits c.item (node_front (nodes_in w.tree)))
    → RefusesFound w parent found why
refused w parent c (Some m) why found is =
    let h = found.is in
    record {
      conflict = c.conflict;
      first = h.conflict;
      is = is ∙ (λ i. refused_first (first_refusal (first_marked (h.first i) (h.second i) (operands_of (h.item i))) c.conflict (h.crosses i) (h.effect i) (h.item i))
          (no_room_at parent w.limits (h.item i) (node_front (nodes_in w.tree))))
          ∙ ap (λ (d : Option ℕ). refused_first (first_refusal d c.conflict (crosses_test m) (list_any has_effect m.way) m.item)
          (no_room_at parent w.limits m.item (node_front (nodes_in w.tree)))) (marked m.item m.way);
    }
refused w parent c None why found is = absurd (found.is)

-- there is nothing to move
pub nothing_found : (w : StoredWindow) (parent : List ℕ) (found : Option Mover) → Finds (forms_in w.names.forms) found None → RefusesFound w parent found (Some NotThere)
nothing_found w parent None found = refl
nothing_found w parent (Some m) found = absurd (found.is)

pub ruleset refusing = (refused, nothing_found)
