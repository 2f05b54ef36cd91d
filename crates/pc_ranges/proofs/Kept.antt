-- A map that is found to be kept is kept.
use Rattle.std.proofs.Common.{◌≡◌, ◌⊎◌, ℕ, ◌<◌, ◌≤◌, Bool, true, false, not, ◌&&◌, List, [], ◌∷◌, length, Option, Some, None, refl, sym, ◌∙◌, ap, subst, arith, inl, inr}
use Rattle.std.specs.Prelude.{ℤ, pos, ◌<ℤ◌, if◌then◌else◌, IfSome, nat_eq, int_lt, int_le, slice_get, slice_set, slice_index}
use Rattle.std.proofs.lemmas.Int.{ints}
use Rattle.std.proofs.lemmas.Option.{slice_get_past}
use Rattle.pc_word.specs.declared.item.Item.{Item}
use Rattle.pc_word.specs.declared.item.Item.TheVariants.{Bin, Copy, Load, Store, Print, Read, More}
use Rattle.pc_word.specs.declared.item.OpCode.{OpCode}
use Rattle.pc_word.specs.declared.item.Operand.{Operand}
use Rattle.pc_word.specs.declared.item.Operand.TheVariants.{Name, Lit}
use Rattle.pc_word.specs.declared.item.TrapKind.{TrapKind}
use Rattle.pc_word.specs.Word.{holds, word_of_test, word_apply}
use Rattle.pc_word.specs.State.{State, start_state, set_name, set_cell, set_input}
use Rattle.pc_word.specs.Run.{Step, Goes}
use Rattle.pc_word.specs.Items.{operand_value, place_in, next_input, some_left, dest_of, value_of, reads_name}
use Rattle.pc_word.specs.Commit.{writes}
use Rattle.pc_word.specs.Row.{RowOutcome, Faults, Commits, item_step}
use Rattle.pc_word.specs.Laws.{does_alone, stores_alone, reads_alone}
use Rattle.pc_word.proofs.Items.{item_step-is}
use Rattle.pc_word.proofs.Lists.{set_length}
use Rattle.pc_word.proofs.Places.{set_there, set_elsewhere, same_number, other_number, other_way, own_number}
use Rattle.pc_word.proofs.Truth.{and_true, not_true, decide_le}
use Rattle.pc_flow.specs.declared.node.FlowNode.{FlowNode}
use Rattle.pc_flow.specs.declared.node.FlowNode.TheVariants.{Op, Test, Stop, Trap}
use Rattle.pc_flow.specs.FlowGraph.{FlowGraph}
use Rattle.pc_flow.specs.FlowRun.{FlowState, step_after_item, run_node}
use Rattle.pc_ranges.specs.declared.interval.Interval.{Interval}
use Rattle.pc_ranges.specs.declared.bounds.Bounds.{Bounds}
use Rattle.pc_ranges.specs.Interval.{least, greatest, LiesIn, interval_of, operand_interval}
use Rattle.pc_ranges.specs.Bounds.{IsDone, IsWithin, bounds_at, IsKept}
use Rattle.pc_ranges.specs.models.Narrowing.{narrowed_left, narrowed_right, tested}
use Rattle.pc_ranges.specs.models.Keeping.{given, written, stays_done, after_item, with_operand, narrowed, compared, latest_node, on_side}
use Rattle.pc_ranges.specs.models.Keeping.{is_empty, is_inside, is_latest, has_zero, IsVoid, Implies, BeginsWithin, GoesFrom, GoesOn}
use Rattle.pc_ranges.proofs.Intervals.{lt_of, le_of, in_all, in_exactly, lies_between}
use Rattle.pc_ranges.proofs.Operators.{over_lies, truth_lies}
use Rattle.pc_ranges.proofs.Narrowed.{left_lies, right_lies, tested_lies}

-- every variable of a state lies in its interval
abbrev pub Lie : List Interval → State → Type 0
Lie intervals s = (variable : ℕ) → LiesIn (interval_of intervals variable) (s.names variable)

-- so does an operand
pub operand_lies : (intervals : List Interval) (s : State) (operand : Operand) → Lie intervals s → LiesIn (operand_interval intervals operand) (operand_value s.names operand)
operand_lies intervals s (Name variable) lie = lie variable
operand_lies intervals s (Lit word) lie = in_exactly word

-- ---- another interval for a variable

set_interval : (intervals : List Interval) (d : ℕ) (interval : Interval) (z : ℤ) → LiesIn interval z → (d < length intervals) ⊎ (length intervals ≤ d)
    → LiesIn (interval_of (slice_set intervals d interval) d) z
set_interval intervals d interval z lies (inl there) = rw (set_there intervals d interval there) lies
set_interval intervals d interval z lies (inr past) =
    let long = set_length intervals d interval in
    rw (slice_get_past (slice_set intervals d interval) d (omega (arith, long))) (in_all z)

set_lies : (b : Bool) (intervals : List Interval) (d x : ℕ) (interval : Interval) (z : ℤ) → nat_eq d x ≡ b → (nat_eq d x ≡ true → LiesIn interval z)
    → (nat_eq d x ≡ false → LiesIn (interval_of intervals x) z) → LiesIn (interval_of (slice_set intervals d interval) x) z
set_lies true intervals d x interval z e own other =
    subst (λ (y : ℕ). LiesIn (interval_of (slice_set intervals d interval) y) z) (same_number d x e)
    (set_interval intervals d interval z (own e) (within d (length intervals)))
  where
    within : (d n : ℕ) → (d < n) ⊎ (n ≤ d)
    within d n = elim (decide_le n d) [ inl past ↦ inr past | inr there ↦ inl there ]
set_lies false intervals d x interval z e own other =
    let apart = other_number d x e in
    rw (set_elsewhere intervals d x interval apart) (other e)

-- ---- behind an item

-- the names behind an item, and the node to which it leads
record Behind (lengths : List ℕ) (item : Item) (to : ℕ) (s t : State) (leaf : ℕ) : Type 0 where
  leads : leaf ≡ to
  names : (x : ℕ) → t.names x ≡ (if writes (dest_of item) x then value_of lengths s item else s.names x)

stored : (lengths : List ℕ) (array : ℕ) (index value : Operand) (place : Option ℕ) (v : ℤ) (to leaf : ℕ) (s t : State) (printed : List ℤ)
    → stores_alone array place v to s ≡ Commits printed t leaf → Behind lengths (Store array index value) to s t leaf
stored lengths array index value None v to leaf s t printed e = absurd (cc)
stored lengths array index value (Some place) v to leaf s t printed e =
    let same : set_cell array place v s ≡ t = (cc) in
    let leads : to ≡ leaf = (cc) in
    record { leads = sym leads; names = λ x. ap (λ (u : State). u.names x) (sym same) }

read : (lengths : List ℕ) (dest : ℕ) (input : List ℤ) (to leaf : ℕ) (s t : State) (printed : List ℤ) → input ≡ s.input
    → reads_alone dest input to s ≡ Commits printed t leaf → Behind lengths (Read dest) to s t leaf
read lengths dest [] to leaf s t printed is e = absurd (cc)
read lengths dest (word ∷ words) to leaf s t printed is e =
    let same : set_input words (set_name dest word s) ≡ t = (cc) in
    let leads : to ≡ leaf = (cc) in
    record { leads = sym leads; names = λ x. ap (λ (u : State). u.names x) (sym same) ∙ ap (λ (l : List ℤ). if nat_eq dest x then next_input l else s.names x) is }

alone : (lengths : List ℕ) (item : Item) (to leaf : ℕ) (s t : State) (printed : List ℤ) → does_alone lengths item to s ≡ Commits printed t leaf
    → Behind lengths item to s t leaf
alone lengths (Bin op dest left right) to leaf s t printed e =
    let same : set_name dest (word_apply op (operand_value s.names left) (operand_value s.names right)) s ≡ t = (cc) in
    let leads : to ≡ leaf = (cc) in
    record { leads = sym leads; names = λ x. ap (λ (u : State). u.names x) (sym same) }
alone lengths (Copy dest from) to leaf s t printed e =
    let same : set_name dest (operand_value s.names from) s ≡ t = (cc) in
    let leads : to ≡ leaf = (cc) in
    record { leads = sym leads; names = λ x. ap (λ (u : State). u.names x) (sym same) }
alone lengths (Load dest array index) to leaf s t printed e =
    let same : set_name dest (value_of lengths s (Load dest array index)) s ≡ t = (cc) in
    let leads : to ≡ leaf = (cc) in
    record { leads = sym leads; names = λ x. ap (λ (u : State). u.names x) (sym same) }
alone lengths (Store array index value) to leaf s t printed e =
    stored lengths array index value (place_in (slice_index lengths array) (operand_value s.names index)) (operand_value s.names value) to leaf s t printed e
alone lengths (Print value) to leaf s t printed e =
    let same : s ≡ t = (cc) in
    let leads : to ≡ leaf = (cc) in
    record { leads = sym leads; names = λ x. ap (λ (u : State). u.names x) (sym same) }
alone lengths (Read dest) to leaf s t printed e = read lengths dest s.input to leaf s t printed refl e
alone lengths (More dest) to leaf s t printed e =
    let same : set_name dest (word_of_test (some_left s.input)) s ≡ t = (cc) in
    let leads : to ≡ leaf = (cc) in
    record { leads = sym leads; names = λ x. ap (λ (u : State). u.names x) (sym same) }

behind : (lengths : List ℕ) (item : Item) (to leaf : ℕ) (s t : State) (printed : List ℤ) → item_step lengths item to s ≡ Commits printed t leaf
    → Behind lengths item to s t leaf
behind lengths item to leaf s t printed e = alone lengths item to leaf s t printed (sym (item_step-is lengths item to s) ∙ e)

-- what an item writes lies in its interval
given_lies : (lengths : List ℕ) (intervals : List Interval) (s : State) (item : Item) → Lie intervals s → LiesIn (given intervals item) (value_of lengths s item)
given_lies lengths intervals s (Bin op dest left right) lie =
    over_lies op (operand_interval intervals left) (operand_interval intervals right) (operand_value s.names left) (operand_value s.names right)
    (operand_lies intervals s left lie) (operand_lies intervals s right lie)
given_lies lengths intervals s (Copy dest from) lie = operand_lies intervals s from lie
given_lies lengths intervals s (Load dest array index) lie = in_all (value_of lengths s (Load dest array index))
given_lies lengths intervals s (Store array index value) lie = in_all (value_of lengths s (Store array index value))
given_lies lengths intervals s (Print value) lie = in_all (value_of lengths s (Print value))
given_lies lengths intervals s (Read dest) lie = in_all (value_of lengths s (Read dest))
given_lies lengths intervals s (More dest) lie = truth_lies false false (some_left s.input) (λ e. absurd (cc)) (λ e. absurd (cc))

chosen_lies : (b : Bool) (interval : Interval) (v old : ℤ) → (b ≡ true → LiesIn interval v) → b ≡ true → LiesIn interval (if b then v else old)
chosen_lies true interval v old h e = h refl
chosen_lies false interval v old h e = absurd (cc)

kept_lies : (b : Bool) (interval : Interval) (v old : ℤ) → LiesIn interval old → b ≡ false → LiesIn interval (if b then v else old)
kept_lies true interval v old h e = absurd (cc)
kept_lies false interval v old h e = h

written_lies : (dest : Option ℕ) (interval : Interval) (v : ℤ) (intervals : List Interval) (s t : State) → LiesIn interval v → Lie intervals s
    → ((x : ℕ) → t.names x ≡ (if writes dest x then v else s.names x)) → Lie (written dest interval intervals) t
written_lies None interval v intervals s t given_in lie names x = rw (names x) (lie x)
written_lies (Some d) interval v intervals s t given_in lie names x = rw (names x) (set_lies (nat_eq d x) intervals d x interval (if nat_eq d x then v else s.names x) refl
    (λ e. chosen_lies (nat_eq d x) interval v (s.names x) (λ b. given_in) e) (λ e. kept_lies (nat_eq d x) (interval_of intervals x) v (s.names x) (lie x) e))

-- an operand that is not written keeps its value
unread : (operand : Operand) (d : ℕ) (v : ℤ) (s t : State) → reads_name operand d ≡ false → ((x : ℕ) → t.names x ≡ (if nat_eq d x then v else s.names x))
    → operand_value t.names operand ≡ operand_value s.names operand
unread (Name name) d v s t e names = names name ∙ unchosen (nat_eq d name) (other_way name d e)
  where
    unchosen : (b : Bool) → b ≡ false → (if b then v else s.names name) ≡ s.names name
    unchosen true e = absurd (cc)
    unchosen false e = refl
unread (Lit word) d v s t e names = refl

-- the value of an item that does not read its variable stays
done_after : (flow : FlowGraph) (at to : ℕ) (item : Item) (s t : State) → slice_get flow.nodes at ≡ Some (Op item to) → stays_done item ≡ true
    → ((x : ℕ) → t.names x ≡ (if writes (dest_of item) x then value_of flow.arrays s item else s.names x)) → IsDone flow at t
done_after flow at to (Bin op dest left right) s t there stays names = record {
  value = λ o d next l r stands.
      let same : Some (Op (Bin op dest left right) to) ≡ Some (Op (Bin o d l r) next) = sym there ∙ stands in
      let same_op : op ≡ o = (cc) in
      let same_dest : dest ≡ d = (cc) in
      let same_left : left ≡ l = (cc) in
      let same_right : right ≡ r = (cc) in
      let apart = and_true (not (reads_name left dest)) (not (reads_name right dest)) stays in
      let kept_left = unread left dest (word_apply op (operand_value s.names left) (operand_value s.names right)) s t (not_true (reads_name left dest) apart.0) names in
      let kept_right = unread right dest (word_apply op (operand_value s.names left) (operand_value s.names right)) s t (not_true (reads_name right dest) apart.1) names in
      rw (sym same_op, sym same_dest, sym same_left, sym same_right)
      (names dest ∙ own (nat_eq dest dest) (own_number dest) (word_apply op (operand_value s.names left) (operand_value s.names right)) (s.names dest)
      ∙ sym (ap (λ (z : ℤ). word_apply op z (operand_value t.names right)) kept_left ∙ ap (word_apply op (operand_value s.names left)) kept_right));
}
  where
    own : (b : Bool) → b ≡ true → (v old : ℤ) → (if b then v else old) ≡ v
    own true e v old = refl
    own false e v old = absurd (cc)
done_after flow at to (Copy dest from) s t there stays names = absurd (cc)
done_after flow at to (Load dest array index) s t there stays names = absurd (cc)
done_after flow at to (Store array index value) s t there stays names = absurd (cc)
done_after flow at to (Print value) s t there stays names = absurd (cc)
done_after flow at to (Read dest) s t there stays names = absurd (cc)
done_after flow at to (More dest) s t there stays names = absurd (cc)

latest_if : (b : Bool) (flow : FlowGraph) (at : ℕ) (t : State) → (b ≡ true → IsDone flow at t) → IfSome (if b then Some at else None) (λ from. IsDone flow from t)
latest_if true flow at t h = h refl
latest_if false flow at t h = tt

after_within : (flow : FlowGraph) (at to leaf : ℕ) (bounds : Bounds) (item : Item) (s t : State) (printed : List ℤ) → slice_get flow.nodes at ≡ Some (Op item to)
    → IsWithin flow bounds s → item_step flow.arrays item to s ≡ Commits printed t leaf → IsWithin flow (after_item bounds at item) t
after_within flow at to leaf bounds item s t printed there is e =
    let then_is = behind flow.arrays item to leaf s t printed e in
    record {
      lie = written_lies (dest_of item) (given bounds.intervals item) (value_of flow.arrays s item) bounds.intervals s t
          (given_lies flow.arrays bounds.intervals s item is.lie) is.lie then_is.names;
      done = latest_if (stays_done item) flow at t (λ stays. done_after flow at to item s t there stays then_is.names);
    }

-- ---- on a side of a test

operand_set : (operand : Operand) (interval : Interval) (intervals : List Interval) (s : State) → LiesIn interval (operand_value s.names operand) → Lie intervals s
    → Lie (with_operand operand interval intervals) s
operand_set (Name d) interval intervals s lies lie x = set_lies (nat_eq d x) intervals d x interval (s.names x) refl
    (λ e. subst (λ (y : ℕ). LiesIn interval (s.names y)) (same_number d x e) lies) (λ e. lie x)
operand_set (Lit word) interval intervals s lies lie x = lie x

narrowed_lie : (op : OpCode) (left right : Operand) (side : Bool) (intervals : List Interval) (s : State)
    → holds (word_apply op (operand_value s.names left) (operand_value s.names right)) ≡ side → Lie intervals s → Lie (narrowed op left right side intervals) s
narrowed_lie op left right side intervals s e lie =
    let in_a = operand_lies intervals s left lie in
    let in_b = operand_lies intervals s right lie in
    operand_set right (narrowed_right op side (operand_interval intervals left) (operand_interval intervals right))
    (with_operand left (narrowed_left op side (operand_interval intervals left) (operand_interval intervals right)) intervals) s
    (right_lies op side (operand_interval intervals left) (operand_interval intervals right) (operand_value s.names left) (operand_value s.names right) e in_a in_b)
    (operand_set left (narrowed_left op side (operand_interval intervals left) (operand_interval intervals right)) intervals s
    (left_lies op side (operand_interval intervals left) (operand_interval intervals right) (operand_value s.names left) (operand_value s.names right) e in_a in_b) lie)

compared_if : (b : Bool) (op : OpCode) (left right : Operand) (side : Bool) (intervals : List Interval) (s : State)
    → (b ≡ true → holds (word_apply op (operand_value s.names left) (operand_value s.names right)) ≡ side) → Lie intervals s
    → Lie (if b then narrowed op left right side intervals else intervals) s
compared_if true op left right side intervals s e lie = narrowed_lie op left right side intervals s (e refl) lie
compared_if false op left right side intervals s e lie = lie

-- an operand that reads a name has its value
names_it : (on : Operand) (dest : ℕ) (s : State) → reads_name on dest ≡ true → operand_value s.names on ≡ s.names dest
names_it (Name name) dest s e = ap s.names (same_number name dest e)
names_it (Lit word) dest s e = absurd (cc)

compared_lie : (flow : FlowGraph) (from : ℕ) (node : Option FlowNode) (on : Operand) (side : Bool) (intervals : List Interval) (s : State) → slice_get flow.nodes from ≡ node
    → IsDone flow from s → holds (operand_value s.names on) ≡ side → Lie intervals s → Lie (compared node on side intervals) s
compared_lie flow from (Some (Op (Bin op dest left right) to)) on side intervals s there done e lie =
    compared_if (reads_name on dest) op left right side intervals s
    (λ reads. ap holds (sym (done.value op dest to left right there)) ∙ ap holds (sym (names_it on dest s reads)) ∙ e) lie
compared_lie flow from (Some (Op (Copy dest source) to)) on side intervals s there done e lie = lie
compared_lie flow from (Some (Op (Load dest array index) to)) on side intervals s there done e lie = lie
compared_lie flow from (Some (Op (Store array index value) to)) on side intervals s there done e lie = lie
compared_lie flow from (Some (Op (Print value) to)) on side intervals s there done e lie = lie
compared_lie flow from (Some (Op (Read dest) to)) on side intervals s there done e lie = lie
compared_lie flow from (Some (Op (More dest) to)) on side intervals s there done e lie = lie
compared_lie flow from (Some (Test other on_yes on_no turn)) on side intervals s there done e lie = lie
compared_lie flow from (Some Stop) on side intervals s there done e lie = lie
compared_lie flow from (Some (Trap kind line)) on side intervals s there done e lie = lie
compared_lie flow from None on side intervals s there done e lie = lie

latest_lie : (flow : FlowGraph) (latest : Option ℕ) (on : Operand) (side : Bool) (intervals : List Interval) (s : State) → IfSome latest (λ from. IsDone flow from s)
    → holds (operand_value s.names on) ≡ side → Lie intervals s → Lie (compared (latest_node flow.nodes latest) on side intervals) s
latest_lie flow (Some from) on side intervals s done e lie = compared_lie flow from (slice_get flow.nodes from) on side intervals s refl done e lie
latest_lie flow None on side intervals s done e lie = lie

side_within : (flow : FlowGraph) (bounds : Bounds) (on : Operand) (side : Bool) (s : State) → IsWithin flow bounds s → holds (operand_value s.names on) ≡ side
    → IsWithin flow (on_side flow bounds on side) s
side_within flow bounds on side s is e = record {
  lie = latest_lie flow bounds.latest on side (with_operand on (tested side (operand_interval bounds.intervals on)) bounds.intervals) s is.done e
      (operand_set on (tested side (operand_interval bounds.intervals on)) bounds.intervals s
      (tested_lies side (operand_interval bounds.intervals on) (operand_value s.names on) e (operand_lies bounds.intervals s on is.lie)) is.lie);
  done = tt;
}

-- ---- what is known is enough

empty_none : (interval : Interval) (z : ℤ) → is_empty interval ≡ true → LiesIn interval z → ⊥
empty_none interval z e lies =
    let first = and_true (int_lt interval.high interval.low) (int_lt least interval.low && int_lt interval.high greatest) e in
    let ends = and_true (int_lt least interval.low) (int_lt interval.high greatest) first.1 in
    let apart = lt_of interval.high interval.low first.0 in
    let low = lies.low (lt_of least interval.low ends.0) in
    let high = lies.high (lt_of interval.high greatest ends.1) in
    absurd (omega (arith, ints))

pub void_implies : (bounds target : Bounds) → IsVoid bounds.intervals → Implies bounds target
void_implies bounds target void = record { holds = λ flow s is. absurd (empty_none (interval_of bounds.intervals void.variable) (s.names void.variable) void.empty (is.lie void.variable)) }

inside_lies : (one other : Interval) (z : ℤ) → is_inside one other ≡ true → LiesIn one z → LiesIn other z
inside_lies one other z e lies =
    let both = and_true (int_le other.low one.low) (int_le one.high other.high) e in
    let low = le_of other.low one.low both.0 in
    let high = le_of one.high other.high both.1 in
    record {
      low = λ h. let bounds : least <ℤ one.low = omega (arith, ints) in let bottom = lies.low bounds in omega (arith, ints);
      high = λ h. let bounds : one.high <ℤ greatest = omega (arith, ints) in let top = lies.high bounds in omega (arith, ints);
    }

-- an interval that is listed, or none
listed : (intervals : List Interval) (x : ℕ) (z : ℤ) → (x < length intervals → LiesIn (interval_of intervals x) z) → LiesIn (interval_of intervals x) z
listed intervals x z h = elim (decide_le (length intervals) x) [
  | inl past ↦ rw (slice_get_past intervals x past) (in_all z)
  | inr there ↦ h there
]

latest_done : (flow : FlowGraph) (known wanted : Option ℕ) (s : State) → is_latest known wanted ≡ true → IfSome known (λ from. IsDone flow from s)
    → IfSome wanted (λ from. IsDone flow from s)
latest_done flow known None s e done = tt
latest_done flow (Some known) (Some wanted) s e done = subst (λ (from : ℕ). IsDone flow from s) (same_number known wanted e) done
latest_done flow None (Some wanted) s e done = absurd (cc)

pub inside_implies : (bounds target : Bounds) → is_latest bounds.latest target.latest ≡ true
    → ((x : ℕ) → x < length target.intervals → is_inside (interval_of bounds.intervals x) (interval_of target.intervals x) ≡ true) → Implies bounds target
inside_implies bounds target latest inside = record {
  holds = λ flow s is. record {
    lie = λ x. listed target.intervals x (s.names x)
        (λ there. inside_lies (interval_of bounds.intervals x) (interval_of target.intervals x) (s.names x) (inside x there) (is.lie x));
    done = latest_done flow bounds.latest target.latest s latest is.done;
  };
}

-- where nothing is known, every state is within what is known
pub nowhere_implies : (bounds : Bounds) (map : List Bounds) (next : ℕ) → slice_get map next ≡ None → Implies bounds (bounds_at map next)
nowhere_implies bounds map next e = rw e (record { holds = λ flow s is. record { lie = λ x. in_all (s.names x); done = tt } })

pub target_implies : (bounds target : Bounds) (map : List Bounds) (next : ℕ) → slice_get map next ≡ Some target → Implies bounds target → Implies bounds (bounds_at map next)
target_implies bounds target map next e implies = rw e implies

-- ---- steps

module _ (flow : FlowGraph) (bounds : Bounds) (map : List Bounds) (at : ℕ) where
  -- the step of an item
  item_goes : (item : Item) (to : ℕ) (outcome : RowOutcome ℕ) (s : State) (next : FlowState) (printed : List ℤ) → slice_get flow.nodes at ≡ Some (Op item to)
      → Implies (after_item bounds at item) (bounds_at map to) → item_step flow.arrays item to s ≡ outcome → IsWithin flow bounds s
      → step_after_item outcome ≡ Goes printed next → IsWithin flow (bounds_at map next.node) next.state
  item_goes item to (Faults fault) s next printed there implies is within e = absurd (cc)
  item_goes item to (Commits out t leaf) s next printed there implies is within e =
      let same : (let it : FlowState = record { node = leaf; state = t } in it) ≡ next = (cc) in
      let leads = (behind flow.arrays item to leaf s t out is).leads in
      let then_is = implies.holds flow t (after_within flow at to leaf bounds item s t out there within is) in
      subst (λ (n : FlowState). IsWithin flow (bounds_at map n.node) n.state) same (subst (λ (n : ℕ). IsWithin flow (bounds_at map n) t) (sym leads) then_is)

  pub op_goes_on : (item : Item) (to : ℕ) → slice_get flow.nodes at ≡ Some (Op item to) → Implies (after_item bounds at item) (bounds_at map to) → GoesFrom flow bounds map at
  op_goes_on item to there implies = record {
    goes = λ s next printed within e.
        item_goes item to (item_step flow.arrays item to s) s next printed there implies refl within (sym (ap (run_node flow.arrays s) there) ∙ e);
  }

  -- that of a test
  side_goes : (b : Bool) (on : Operand) (on_yes on_no : ℕ) (s : State) (next : FlowState) (printed : List ℤ) → holds (operand_value s.names on) ≡ b
      → Implies (on_side flow bounds on true) (bounds_at map on_yes) → Implies (on_side flow bounds on false) (bounds_at map on_no)
      → IsWithin flow bounds s
      → (let went : Step FlowState = Goes [] (record { node = if b then on_yes else on_no; state = s }) in went) ≡ Goes printed next
      → IsWithin flow (bounds_at map next.node) next.state
  side_goes true on on_yes on_no s next printed holding yes_implies no_implies within e =
      let same : (let it : FlowState = record { node = on_yes; state = s } in it) ≡ next = (cc) in
      subst (λ (n : FlowState). IsWithin flow (bounds_at map n.node) n.state) same (yes_implies.holds flow s (side_within flow bounds on true s within holding))
  side_goes false on on_yes on_no s next printed holding yes_implies no_implies within e =
      let same : (let it : FlowState = record { node = on_no; state = s } in it) ≡ next = (cc) in
      subst (λ (n : FlowState). IsWithin flow (bounds_at map n.node) n.state) same (no_implies.holds flow s (side_within flow bounds on false s within holding))

  pub test_goes_on : (on : Operand) (on_yes on_no : ℕ) (turn : Option ℕ) → slice_get flow.nodes at ≡ Some (Test on on_yes on_no turn)
      → Implies (on_side flow bounds on true) (bounds_at map on_yes) → Implies (on_side flow bounds on false) (bounds_at map on_no) → GoesFrom flow bounds map at
  test_goes_on on on_yes on_no turn there yes_implies no_implies = record {
    goes = λ s next printed within e.
        side_goes (holds (operand_value s.names on)) on on_yes on_no s next printed refl yes_implies no_implies within (sym (ap (run_node flow.arrays s) there) ∙ e);
  }

  pub stop_goes_on : slice_get flow.nodes at ≡ Some Stop → GoesFrom flow bounds map at
  stop_goes_on there = record { goes = λ s next printed within e. let step = sym (ap (run_node flow.arrays s) there) ∙ e in absurd (cc) }

  pub trap_goes_on : (kind : TrapKind) (line : ℕ) → slice_get flow.nodes at ≡ Some (Trap kind line) → GoesFrom flow bounds map at
  trap_goes_on kind line there = record { goes = λ s next printed within e. let step = sym (ap (run_node flow.arrays s) there) ∙ e in absurd (cc) }

  none_goes_on : slice_get flow.nodes at ≡ None → GoesFrom flow bounds map at
  none_goes_on there = record { goes = λ s next printed within e. let step = sym (ap (run_node flow.arrays s) there) ∙ e in absurd (cc) }

-- from what is known at a node
pub known_goes_on : (flow : FlowGraph) (bounds : Bounds) (map : List Bounds) (at : ℕ) → slice_get map at ≡ Some bounds → GoesFrom flow bounds map at → GoesOn flow map at
known_goes_on flow bounds map at e goes = rw e goes

-- ---- the whole

pub zero_within : (flow : FlowGraph) (map : List Bounds) (bounds : Bounds) → slice_get map flow.entry ≡ Some bounds → bounds.latest ≡ None
    → ((x : ℕ) → x < length bounds.intervals → has_zero (interval_of bounds.intervals x) ≡ true) → BeginsWithin flow map
zero_within flow map bounds there none zero input = rw there (record {
  lie = λ x. listed bounds.intervals x (pos 0) (λ low. has_zero_lies (interval_of bounds.intervals x) (zero x low));
  done = rw none tt;
})
  where
    has_zero_lies : (interval : Interval) → has_zero interval ≡ true → LiesIn interval (pos 0)
    has_zero_lies interval e =
        let both = and_true (int_le interval.low (pos 0)) (int_le (pos 0) interval.high) e in
        lies_between interval.low interval.high (pos 0) (le_of interval.low (pos 0) both.0) (le_of (pos 0) interval.high both.1)

-- a map that the start and each node keep is kept
pub all_kept : (flow : FlowGraph) (map : List Bounds) → BeginsWithin flow map → ((at : ℕ) → at < length flow.nodes → GoesOn flow map at) → IsKept flow map
all_kept flow map begins goes = record {
  begins = begins;
  goes_on = λ here next printed within e. (goes_at here.node).goes here.state next printed within e;
}
  where
    goes_at : (at : ℕ) → GoesOn flow map at
    goes_at at = elim (decide_le (length flow.nodes) at) [
      | inl past ↦ none_goes_on flow (bounds_at map at) map at (slice_get_past flow.nodes at past)
      | inr there ↦ goes at there
    ]

nothing_within : (flow : FlowGraph) (at : ℕ) (s : State) → IsWithin flow (bounds_at [] at) s
nothing_within flow at s = record { lie = λ x. in_all (s.names x); done = tt }

pub nothing_known : (flow : FlowGraph) (map : List Bounds) → map ≡ [] → IsKept flow map
nothing_known flow map e = rw e (record {
  begins = λ input. nothing_within flow flow.entry (start_state flow.initial input);
  goes_on = λ here next printed within step. nothing_within flow next.node next.state;
})

pub ruleset map_laws = (all_kept)

pub ruleset no_map = (nothing_known)

pub ruleset start_laws = (zero_within)

pub ruleset known_laws = (known_goes_on)

pub ruleset node_laws = (op_goes_on, test_goes_on, stop_goes_on, trap_goes_on)

pub ruleset target_laws = (nowhere_implies, target_implies)

pub ruleset implied_laws = (void_implies, inside_implies)
