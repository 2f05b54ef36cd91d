-- After values were reused, none is computed that stands.
use Rattle.std.proofs.Common.{◌≡◌, ℕ, zero, suc, Bool, true, false, not, ◌&&◌, List, length, [], ◌∷◌, Option, Some, None, refl, sym, ◌∙◌, ap, subst, eq-eqb}
use Rattle.std.specs.Prelude.{if◌then◌else◌, nat_eq, slice_get}
use Rattle.pc_word.specs.declared.item.Item.{Item}
use Rattle.pc_word.specs.declared.item.Item.TheVariants.{Bin, Copy, Load, Store, Print, Read, More}
use Rattle.pc_word.specs.declared.item.OpCode.{OpCode}
use Rattle.pc_word.specs.declared.item.Operand.{Operand}
use Rattle.pc_word.specs.Items.{dest_of, reads_name, op_number}
use Rattle.pc_word.proofs.Truth.{and_made}
use Rattle.pc_flow.specs.declared.node.FlowNode.TheVariants.{Op}
use Rattle.pc_flow.specs.FlowGraph.{FlowGraph}
use Rattle.pc_pass.specs.Pass.{Keeps}
use Rattle.pc_scalar.specs.declared.plan.Plan.{Plan}
use Rattle.pc_scalar.specs.declared.rule.Rule.TheVariants.{KnownValues}
use Rattle.pc_scalar.specs.Valued.{ComputesNoneAgain}
use Rattle.pc_scalar.specs.LoopTests.{KeepsLoopTests}
use Rattle.pc_scalar.specs.Tally.{AreMany, IsWorkedOn}
use Rattle.pc_scalar.specs.models.Plan.{Fits, planned}
use Rattle.pc_scalar.specs.models.Known.{same_operand, computes, holder, reused, valued_item, rewritten}
use Rattle.pc_scalar.specs.models.Rewriting.{IsRewriting}
use Rattle.pc_scalar.proofs.Rewrites.{of_item}
use Rattle.pc_scalar.proofs.Rewritten.{rewriting_keeps, rewriting_keeps_tests, reached_before}
use Rattle.pc_scalar.proofs.Differing.{rewriting_counts}
use Rattle.pc_scalar.proofs.Operands.{same_self}
use Rattle.pc_scalar.proofs.Standing.{rewriting_fits, stands_known, stands_small}

-- an item computes what it computes
computes_self : (op : OpCode) (dest : ℕ) (left right : Operand) → computes op left right (Bin op dest left right) ≡ true
computes_self op dest left right =
    and_made (nat_eq (op_number op) (op_number op)) (same_operand left left && same_operand right right) (eq-eqb (op_number op) (op_number op) refl)
    (and_made (same_operand left left) (same_operand right right) (same_self left) (same_self right))

-- an item that computes something writes it
computes_dest : (op : OpCode) (left right : Operand) (item : Item) → computes op left right item ≡ true → dest_of item ≡ None → ⊥
computes_dest op left right (Bin other dest first second) e none = cc
computes_dest op left right (Copy dest from) e none = cc
computes_dest op left right (Load dest array index) e none = cc
computes_dest op left right (Store array index value) e none = cc
computes_dest op left right (Print value) e none = cc
computes_dest op left right (Read dest) e none = cc
computes_dest op left right (More dest) e none = cc

chosen_none : (op : OpCode) (left right : Operand) (item : Item) (rest : Option ℕ) (b : Bool) → computes op left right item ≡ b → (if b then dest_of item else rest) ≡ None
    → (b ≡ false) × (rest ≡ None)
chosen_none op left right item rest true is e = absurd (computes_dest op left right item is e)
chosen_none op left right item rest false is e = (refl, e)

-- where no variable stands for a value, none that is known does
holds_none : (op : OpCode) (left right : Operand) (known : List (Option Item)) (x : ℕ) (item : Item) → slice_get known x ≡ Some (Some item)
    → computes op left right item ≡ true → holder op left right known ≡ None → ⊥
holds_none op left right [] x item there is none = cc
holds_none op left right (fact ∷ known) zero item there is none =
    let same : fact ≡ Some item = (cc) in
    let first = subst (λ (f : Option Item). holder op left right (f ∷ known) ≡ None) same none in
    let chosen = chosen_none op left right item (holder op left right known) (computes op left right item) refl first in
    absurd (let off = chosen.0 in cc)
holds_none op left right (None ∷ known) (suc x) item there is none = holds_none op left right known x item there is none
holds_none op left right (Some other ∷ known) (suc x) item there is none =
    holds_none op left right known x item there is (chosen_none op left right other (holder op left right known) (computes op left right other) refl none).1

reused_none : (found : Option ℕ) (known : List (Option Item)) (o op : OpCode) (d dest : ℕ) (l left r right : Operand) → holder o l r known ≡ found
    → reused found (Bin o d l r) d ≡ Bin op dest left right → holder op left right known ≡ None
reused_none (Some name) known o op d dest l left r right is e = absurd (cc)
reused_none None known o op d dest l left r right is e =
    let one : o ≡ op = (cc) in
    let two : l ≡ left = (cc) in
    let three : r ≡ right = (cc) in
    sym (ap (λ (x : OpCode). holder x l r known) one ∙ ap (λ (x : Operand). holder op x r known) two ∙ ap (λ (x : Operand). holder op left x known) three) ∙ is

-- an item that still computes something computes what no variable stands for
valued_none : (known : List (Option Item)) (item : Item) (op : OpCode) (dest : ℕ) (left right : Operand) → valued_item known item ≡ Bin op dest left right
    → holder op left right known ≡ None
valued_none known (Bin o d l r) op dest left right e = reused_none (holder o l r known) known o op d dest l left r right refl e
valued_none known (Copy d from) op dest left right e = absurd (cc)
valued_none known (Load d array index) op dest left right e = absurd (cc)
valued_none known (Store array index value) op dest left right e = absurd (cc)
valued_none known (Print value) op dest left right e = absurd (cc)
valued_none known (Read d) op dest left right e = absurd (cc)
valued_none known (More d) op dest left right e = absurd (cc)

lasts : (a b : Bool) → a ≡ false → b ≡ false → (not a && not b) ≡ true
lasts false false e h = refl
lasts true b e h = absurd (cc)
lasts false true e h = absurd (cc)

pub valuing_reuses : (flow : FlowGraph) (plan : Plan) → IsRewriting flow KnownValues plan → ComputesNoneAgain (planned plan flow)
valuing_reuses flow plan is = record {
  none = λ at to dest earlier op left right reached there one other stands.
      let before = reached_before flow KnownValues plan is at reached in
      let w = is.written at before in
      let made = w.stands in
      let same : Op (Bin op dest left right) to ≡ rewritten KnownValues w.known w.node = (cc) in
      let of = of_item flow KnownValues w.known at to (Bin op dest left right) w.node w.there same in
      let none = valued_none w.known of.old op dest left right of.is in
      let small = stands_small flow KnownValues plan is (Bin op earlier left right) earlier at refl stands in
      let is_known = stands_known flow KnownValues plan is (Bin op earlier left right) earlier at
      (lasts (reads_name left earlier) (reads_name right earlier) one other) refl small stands w.known w.known_at in
      holds_none op left right w.known earlier (Bin op earlier left right) is_known (computes_self op earlier left right) none;
}

pub valuing_fits : (flow : FlowGraph) (plan : Plan) → IsRewriting flow KnownValues plan → Fits flow plan
valuing_fits flow plan is = rewriting_fits flow KnownValues plan is

pub valuing_keeps : (flow : FlowGraph) (plan : Plan) → IsRewriting flow KnownValues plan → Keeps flow (planned plan flow)
valuing_keeps flow plan is = rewriting_keeps flow KnownValues plan is

pub valuing_keeps_tests : (flow : FlowGraph) (plan : Plan) → IsRewriting flow KnownValues plan → KeepsLoopTests flow (planned plan flow)
valuing_keeps_tests flow plan is = rewriting_keeps_tests flow KnownValues plan is

pub valuing_counts : (flow : FlowGraph) (plan : Plan) → IsRewriting flow KnownValues plan → AreMany (IsWorkedOn flow (planned plan flow)) (length flow.nodes) plan.changed
valuing_counts flow plan is = rewriting_counts flow KnownValues plan is

pub ruleset value_laws = (valuing_fits, valuing_keeps, valuing_reuses, valuing_keeps_tests, valuing_counts)
