-- What stands for a value, and what becomes of a node.
use Rattle.std.proofs.Common.{◌≡◌, inl, inr, ℕ, ◌+◌, ◌<◌, ◌≤◌, List, [], ◌∷◌, length, Option, Some, None, refl, sym, ◌∙◌, ap, subst, arith}
use Rattle.std.specs.Prelude.{MatchOption, slice_get, slice_index_or}
use Rattle.std.proofs.lemmas.Bool.{cases_eq}
use Rattle.std.proofs.lemmas.Option.{slice_get_within, slice_get-get_or}
use Rattle.pc_word.specs.declared.item.Item.TheVariants.{Bin, Copy, Load, Store, Print, Read, More}
use Rattle.pc_word.specs.declared.item.OpCode.{OpCode}
use Rattle.pc_word.specs.declared.item.Operand.{Operand}
use Rattle.pc_word.specs.declared.item.TrapKind.{TrapKind}
use Rattle.pc_flow.specs.declared.node.FlowNode.{FlowNode}
use Rattle.pc_flow.specs.declared.node.FlowNode.TheVariants.{Op, Test, Stop, Trap}
use Rattle.pc_linear.specs.declared.term.Term.{Term}
use Rattle.pc_linear.specs.Form.{Form}
use Rattle.pc_linear.specs.Equality.{AlwaysEqual}
use Rattle.pc_forward.specs.declared.trail.Trail.{Trail}
use Rattle.pc_forward.specs.Trail.{operand_form}
use Rattle.pc_forward.specs.Forwardable.{IsHolder, IsAtHand, HasElement, IsForwardable}
use Rattle.pc_forward.specs.Forwarded.{StandsFor}
use Rattle.pc_forward.specs.models.Words.{IsWordOperand}
use Rattle.pc_forward.specs.models.Walking.{IsKnownAs, NotKnown, IsForwardedNode, Is_forwarded, Stays}
use Rattle.pc_forward.proofs.Elements.{latest_once}

-- ---- holders

module _ (forms : List Form) (value : Form) where
  -- one variable more has not the value
  pub holds_not : (name : ℕ) (form : Form) → name < length forms → form ≡ slice_index_or forms name form → (AlwaysEqual form value → ⊥) → ((x : ℕ) → x < name → IsHolder forms value x → ⊥)
      → (x : ℕ) → x < name + 1 → IsHolder forms value x → ⊥
  holds_not name form low is other none x less h = elim (cases_eq name x) [
    | inl same ↦
        let there = slice_get-get_or forms name form low ∙ ap (λ (f : Form). Some f) (sym is) in
        let moved = subst (λ (n : ℕ). slice_get forms n ≡ Some form) same there in
        let also = h.there in
        let is_it : h.form ≡ form = (cc) in
        other (subst (λ (f : Form). AlwaysEqual f value) is_it h.same)
    | inr apart ↦ none x (omega (arith, less, apart)) h
  ]

  -- none has
  pub holds_none : (name : ℕ) → length forms ≤ name → ((x : ℕ) → x < name → IsHolder forms value x → ⊥) → (x : ℕ) → IsHolder forms value x → ⊥
  holds_none name end none x h = none x (let low = slice_get_within forms x h.form h.there in omega (arith, low, end)) h

  -- a value that is no constant, and that no variable has
  pub not_at_hand : (value.terms ≡ [] → ⊥) → ((x : ℕ) → IsHolder forms value x → ⊥) → IsAtHand forms value → ⊥
  not_at_hand some none (inl constant) = some constant
  not_at_hand some none (inr holder) = none holder.0 holder.1

-- whether there are terms
pub no_first : (ts : List Term) → slice_get ts 0 ≡ None → ts ≡ []
no_first [] e = refl
no_first (t ∷ ts) e = absurd (cc)

pub some_first : (ts : List Term) (t : Term) → slice_get ts 0 ≡ Some t → ts ≡ [] → ⊥
some_first [] t e none = absurd (cc)
some_first (u ∷ ts) t e none = cc

-- ---- elements

module _ (trail : Trail) (array : ℕ) (index : Operand) where
  -- what an element's value is told by what stands for it
  pub known_as : (value : Form) (o : Option Operand) → IsWordOperand index → HasElement trail.accesses array (operand_form trail.forms index) value
      → MatchOption o (IsAtHand trail.forms value → ⊥) (λ from. StandsFor trail.forms value from) → MatchOption o (NotKnown trail array index) (λ from. IsKnownAs trail array index from)
  known_as value (Some from) word element stands = record { word = word; value = value; element = element; stands_for = stands }
  known_as value None word element off = λ other h hand.
      let same = latest_once trail.accesses array (operand_form trail.forms index) element.access h.access element.latest h.latest in
      let is : other ≡ value = sym h.is ∙ ap (λ a. a.value) (sym same) ∙ element.is in
      off (subst (IsAtHand trail.forms) is hand)

-- ---- nodes

pub becomes_copy : (trail : Trail) (node : FlowNode) (dest array to : ℕ) (index from : Operand) → node ≡ Op (Load dest array index) to → IsKnownAs trail array index from
    → IsForwardedNode trail node (Op (Copy dest from) to)
becomes_copy trail node dest array to index from is known = subst (λ (n : FlowNode). IsForwardedNode trail n (Op (Copy dest from) to)) (sym is) (Is_forwarded known)

not_forwardable : (trail : Trail) (node : FlowNode) (dest array to : ℕ) (index : Operand) → node ≡ Op (Load dest array index) to → NotKnown trail array index → IsForwardable trail node → ⊥
not_forwardable trail node dest array to index is off h =
    let also : Op (Load dest array index) to ≡ Op (Load h.dest h.array h.index) h.to = sym is ∙ h.is in
    let same_array : h.array ≡ array = (cc) in
    let same_index : h.index ≡ index = (cc) in
    off h.value (subst (λ (o : Operand). HasElement trail.accesses array (operand_form trail.forms o) h.value) same_index
    (subst (λ (a : ℕ). HasElement trail.accesses a (operand_form trail.forms h.index) h.value) same_array h.element)) h.at_hand

pub stays_load : (trail : Trail) (node : FlowNode) (dest array to : ℕ) (index : Operand) → node ≡ Op (Load dest array index) to → NotKnown trail array index → IsForwardedNode trail node node
stays_load trail node dest array to index is off = Stays (not_forwardable trail node dest array to index is off)

pub stays_bin : (trail : Trail) (node : FlowNode) (op : OpCode) (dest to : ℕ) (left right : Operand) → node ≡ Op (Bin op dest left right) to → IsForwardedNode trail node node
stays_bin trail node op dest to left right is = Stays (λ (h : IsForwardable trail node). absurd (let also = sym is ∙ h.is in cc))

pub stays_copy : (trail : Trail) (node : FlowNode) (dest to : ℕ) (from : Operand) → node ≡ Op (Copy dest from) to → IsForwardedNode trail node node
stays_copy trail node dest to from is = Stays (λ (h : IsForwardable trail node). absurd (let also = sym is ∙ h.is in cc))

pub stays_store : (trail : Trail) (node : FlowNode) (array to : ℕ) (index value : Operand) → node ≡ Op (Store array index value) to → IsForwardedNode trail node node
stays_store trail node array to index value is = Stays (λ (h : IsForwardable trail node). absurd (let also = sym is ∙ h.is in cc))

pub stays_print : (trail : Trail) (node : FlowNode) (to : ℕ) (value : Operand) → node ≡ Op (Print value) to → IsForwardedNode trail node node
stays_print trail node to value is = Stays (λ (h : IsForwardable trail node). absurd (let also = sym is ∙ h.is in cc))

pub stays_read : (trail : Trail) (node : FlowNode) (dest to : ℕ) → node ≡ Op (Read dest) to → IsForwardedNode trail node node
stays_read trail node dest to is = Stays (λ (h : IsForwardable trail node). absurd (let also = sym is ∙ h.is in cc))

pub stays_more : (trail : Trail) (node : FlowNode) (dest to : ℕ) → node ≡ Op (More dest) to → IsForwardedNode trail node node
stays_more trail node dest to is = Stays (λ (h : IsForwardable trail node). absurd (let also = sym is ∙ h.is in cc))

pub stays_test : (trail : Trail) (node : FlowNode) (on : Operand) (on_yes on_no : ℕ) (turn : Option ℕ) → node ≡ Test on on_yes on_no turn → IsForwardedNode trail node node
stays_test trail node on on_yes on_no turn is = Stays (λ (h : IsForwardable trail node). absurd (let also = sym is ∙ h.is in cc))

pub stays_stop : (trail : Trail) (node : FlowNode) → node ≡ Stop → IsForwardedNode trail node node
stays_stop trail node is = Stays (λ (h : IsForwardable trail node). absurd (let also = sym is ∙ h.is in cc))

pub stays_trap : (trail : Trail) (node : FlowNode) (kind : TrapKind) (line : ℕ) → node ≡ Trap kind line → IsForwardedNode trail node node
stays_trap trail node kind line is = Stays (λ (h : IsForwardable trail node). absurd (let also = sym is ∙ h.is in cc))

pub ruleset forwarding = (becomes_copy, stays_load, stays_bin, stays_copy, stays_store, stays_print, stays_read, stays_more, stays_test, stays_stop, stays_trap)
