-- Nodes that are rewritten by what is known there.
use Rattle.std.proofs.Common.{◌≡◌, ◌≢◌, inl, inr, ℕ, ◌+◌, ◌<◌, Bool, true, false, ◌||◌, List, [], ◌∷◌, ◌++◌, length, Some, refl, sym, ◌∙◌, ap, subst, arith}
use Rattle.std.specs.Prelude.{ℤ, if◌then◌else◌, slice_get, slice_index}
use Rattle.std.specs.List.{list_any}
use Rattle.std.specs.Ordering.{int_eq}
use Rattle.std.proofs.lemmas.Bool.{cases_eq}
use Rattle.pc_word.specs.declared.item.Item.{Item}
use Rattle.pc_word.specs.declared.item.Item.TheVariants.{Bin, Copy, Load, Store, Print, Read, More}
use Rattle.pc_word.specs.declared.item.OpCode.{OpCode}
use Rattle.pc_word.specs.declared.item.Operand.{Operand}
use Rattle.pc_word.specs.declared.item.Operand.TheVariants.{Name, Lit}
use Rattle.pc_word.specs.Word.{word_apply}
use Rattle.pc_word.specs.State.{State, set_name}
use Rattle.pc_word.specs.Items.{operand_value, place_in, element_at, operands_of, dest_of, reads_name}
use Rattle.pc_word.specs.Row.{RowOutcome, Commits, item_step}
use Rattle.pc_word.specs.Laws.{does_alone, stores_alone}
use Rattle.pc_word.proofs.Items.{item_step-is}
use Rattle.pc_word.proofs.Places.{get_front, get_last, same_number}
use Rattle.pc_word.proofs.Truth.{and_true, or_true, or_false}
use Rattle.pc_flow.specs.declared.node.FlowNode.{FlowNode}
use Rattle.pc_flow.specs.declared.node.FlowNode.TheVariants.{Op, Test, Stop, Trap}
use Rattle.pc_flow.specs.FlowGraph.{FlowGraph, IsVariable, ItemFits, NodeFits, HasEdge, tested_loop}
use Rattle.pc_live.specs.Live.{node_reads}
use Rattle.pc_scalar.specs.models.Ends.{NodeThere, led}
use Rattle.pc_scalar.proofs.Skipping.{fits_there, KeepsEdges}
use Rattle.pc_ranges.specs.declared.interval.Interval.{Interval}
use Rattle.pc_ranges.specs.declared.bounds.Bounds.{Bounds}
use Rattle.pc_ranges.specs.Interval.{exactly, is_bounded, is_single, interval_of, operand_interval}
use Rattle.pc_ranges.specs.Bounds.{bounds_at}
use Rattle.pc_ranges.specs.Over.{over}
use Rattle.pc_ranges.specs.models.Rewriting.{is_settled, settled, settled_item, item_changes, settled_node}
use Rattle.pc_ranges.proofs.Intervals.{eq_of, single_is}
use Rattle.pc_ranges.proofs.Operators.{over_lies}
use Rattle.pc_ranges.proofs.Kept.{Lie, operand_lies}

-- one element more that is made of another and its number
pub made_more : {X Y : Type 0} (f : ℕ → X → Y) (xs : List X) (ys more : List Y) (i : ℕ) (x : X) (y : Y) → slice_get xs i ≡ Some x → y ≡ f i x
    → length ys ≡ i → more ≡ ys ++ y ∷ [] → ((k : ℕ) (z : X) → k < i → slice_get xs k ≡ Some z → slice_get ys k ≡ Some (f k z))
    → (k : ℕ) (z : X) → k < i + 1 → slice_get xs k ≡ Some z → slice_get more k ≡ Some (f k z)
made_more f xs ys more i x y there is long e so_far k z low at_k = elim (cases_eq k i) [
  | inl same ↦
      let at_i = subst (λ (j : ℕ). slice_get xs j ≡ Some z) same at_k in
      let value : x ≡ z = (cc) in
      let last : slice_get (ys ++ y ∷ []) i ≡ Some y = subst (λ (j : ℕ). slice_get (ys ++ y ∷ []) j ≡ Some y) long (get_last ys y) in
      rw (e, same) (last ∙ ap Some (is ∙ ap (f i) value))
  | inr apart ↦
      let before : k < i = omega arith in
      rw e (get_front ys (y ∷ []) k (f k z) (so_far k z before at_k))
]

-- ---- operands

-- where a test is known, so is the choice by it
yes_is : {X : Type 0} (b : Bool) (x y : X) → b ≡ true → (if b then x else y) ≡ x
yes_is true x y e = refl
yes_is false x y e = absurd (cc)

no_is : {X : Type 0} (b : Bool) (x y : X) → b ≡ false → (if b then x else y) ≡ y
no_is true x y e = absurd (cc)
no_is false x y e = refl

module _ (intervals : List Interval) where
  value_if : (b : Bool) (x : ℕ) (s : State) → is_single (interval_of intervals x) ≡ b → Lie intervals s
      → operand_value s.names (if b then Lit (interval_of intervals x).low else Name x) ≡ s.names x
  value_if true x s e lie = sym (single_is (interval_of intervals x) (s.names x) e (lie x))
  value_if false x s e lie = refl

  -- a literal for a variable of a single word has its value
  pub settled_value : (operand : Operand) (s : State) → Lie intervals s → operand_value s.names (settled intervals operand) ≡ operand_value s.names operand
  settled_value (Name x) s lie = value_if (is_single (interval_of intervals x)) x s refl lie
  settled_value (Lit word) s lie = refl

  variable_if : (b : Bool) (word : ℤ) (operand : Operand) → IsVariable operand → IsVariable (if b then Lit word else operand)
  variable_if true word operand h = tt
  variable_if false word operand h = h

  settled_variable : (operand : Operand) → IsVariable operand → IsVariable (settled intervals operand)
  settled_variable operand h = variable_if (is_settled intervals operand) (operand_interval intervals operand).low operand h

  single_ends : (interval : Interval) → is_single interval ≡ true → exactly interval.low ≡ interval
  single_ends interval e =
      let both = and_true (is_bounded interval) (int_eq interval.low interval.high) e in
      let same = eq_of interval.low interval.high both.1 in
      ap (λ (z : ℤ). let it : Interval = record { low = interval.low; high = z } in it) same

  interval_by : (b : Bool) (x : ℕ) → is_single (interval_of intervals x) ≡ b
      → operand_interval intervals (if b then Lit (interval_of intervals x).low else Name x) ≡ interval_of intervals x
  interval_by true x e = single_ends (interval_of intervals x) e
  interval_by false x e = refl

  -- and its interval
  pub settled_interval : (operand : Operand) → operand_interval intervals (settled intervals operand) ≡ operand_interval intervals operand
  settled_interval (Name x) = interval_by (is_single (interval_of intervals x)) x refl
  settled_interval (Lit word) = refl

  names_by : (b : Bool) (y x : ℕ) → is_single (interval_of intervals y) ≡ b → reads_name (if b then Lit (interval_of intervals y).low else Name y) x ≡ true
      → is_single (interval_of intervals x) ≡ false
  names_by true y x e reads = absurd (cc)
  names_by false y x e reads = subst (λ (z : ℕ). is_single (interval_of intervals z) ≡ false) (same_number y x reads) e

  -- a variable that is still named has no single word
  settled_names : (operand : Operand) (x : ℕ) → reads_name (settled intervals operand) x ≡ true → is_single (interval_of intervals x) ≡ false
  settled_names (Name y) x reads = names_by (is_single (interval_of intervals y)) y x refl reads
  settled_names (Lit word) x reads = absurd (cc)

  other_if : (b : Bool) (x : ℕ) (word : ℤ) → b ≡ true → (let it : Operand = if b then Lit word else Name x in it) ≢ Name x
  other_if true x word e same = cc
  other_if false x word e same = cc

  pub settled_other : (operand : Operand) → is_settled intervals operand ≡ true → settled intervals operand ≢ operand
  settled_other (Name x) e = other_if (is_single (interval_of intervals x)) x (interval_of intervals x).low e
  settled_other (Lit word) e = absurd (cc)

  pub settled_same : (operand : Operand) → is_settled intervals operand ≡ false → settled intervals operand ≡ operand
  settled_same operand e = no_is (is_settled intervals operand) (Lit (operand_interval intervals operand).low) operand e

  -- ---- items

  abbrev given_by : OpCode → Operand → Operand → Interval
  given_by op left right = over op (operand_interval intervals left) (operand_interval intervals right)

  abbrev item_by : Bool → OpCode → ℕ → Operand → Operand → Item
  item_by b op dest left right = if b then Copy dest (Lit (given_by op left right).low) else Bin op dest (settled intervals left) (settled intervals right)

  dest_by : (b : Bool) (op : OpCode) (dest : ℕ) (left right : Operand) → dest_of (item_by b op dest left right) ≡ Some dest
  dest_by true op dest left right = refl
  dest_by false op dest left right = refl

  pub settled_dest : (item : Item) → dest_of (settled_item intervals item) ≡ dest_of item
  settled_dest (Bin op dest left right) = dest_by (is_single (given_by op left right)) op dest left right
  settled_dest (Copy dest from) = refl
  settled_dest (Load dest array index) = refl
  settled_dest (Store array index value) = refl
  settled_dest (Print value) = refl
  settled_dest (Read dest) = refl
  settled_dest (More dest) = refl

  fits_by : (b : Bool) (arrays : ℕ) (op : OpCode) (dest : ℕ) (left right : Operand) → ItemFits arrays (Bin op dest left right) → ItemFits arrays (item_by b op dest left right)
  fits_by true arrays op dest left right h = record { reads = (tt, tt); writes = h.writes; array = tt }
  fits_by false arrays op dest left right h =
      record { reads = (settled_variable left h.reads.0, (settled_variable right h.reads.1.0, tt)); writes = h.writes; array = tt }

  settled_item_fits : (arrays : ℕ) (item : Item) → ItemFits arrays item → ItemFits arrays (settled_item intervals item)
  settled_item_fits arrays (Bin op dest left right) h = fits_by (is_single (given_by op left right)) arrays op dest left right h
  settled_item_fits arrays (Copy dest from) h = record { reads = (settled_variable from h.reads.0, tt); writes = h.writes; array = tt }
  settled_item_fits arrays (Load dest array index) h = record { reads = (settled_variable index h.reads.0, tt); writes = h.writes; array = h.array }
  settled_item_fits arrays (Store array index value) h =
      record { reads = (settled_variable index h.reads.0, (settled_variable value h.reads.1.0, tt)); writes = h.writes; array = h.array }
  settled_item_fits arrays (Print value) h = record { reads = (settled_variable value h.reads.0, tt); writes = h.writes; array = tt }
  settled_item_fits arrays (Read dest) h = h
  settled_item_fits arrays (More dest) h = h

  does_by : (b : Bool) (lengths : List ℕ) (op : OpCode) (dest : ℕ) (left right : Operand) (to : ℕ) (s : State) → is_single (given_by op left right) ≡ b → Lie intervals s
      → does_alone lengths (item_by b op dest left right) to s ≡ does_alone lengths (Bin op dest left right) to s
  does_by true lengths op dest left right to s e lie =
      let value = single_is (given_by op left right) (word_apply op (operand_value s.names left) (operand_value s.names right)) e
      (over_lies op (operand_interval intervals left) (operand_interval intervals right) (operand_value s.names left) (operand_value s.names right)
      (operand_lies intervals s left lie) (operand_lies intervals s right lie)) in
      ap (λ (z : ℤ). let out : RowOutcome ℕ = Commits [] (set_name dest z s) to in out) (sym value)
  does_by false lengths op dest left right to s e lie =
      ap (λ (z : ℤ). let out : RowOutcome ℕ = Commits [] (set_name dest (word_apply op z (operand_value s.names (settled intervals right))) s) to in out) (settled_value left s lie)
      ∙ ap (λ (z : ℤ). let out : RowOutcome ℕ = Commits [] (set_name dest (word_apply op (operand_value s.names left) z) s) to in out) (settled_value right s lie)

  alone_same : (lengths : List ℕ) (item : Item) (to : ℕ) (s : State) → Lie intervals s → does_alone lengths (settled_item intervals item) to s ≡ does_alone lengths item to s
  alone_same lengths (Bin op dest left right) to s lie = does_by (is_single (given_by op left right)) lengths op dest left right to s refl lie
  alone_same lengths (Copy dest from) to s lie =
      ap (λ (z : ℤ). let out : RowOutcome ℕ = Commits [] (set_name dest z s) to in out) (settled_value from s lie)
  alone_same lengths (Load dest array index) to s lie =
      ap (λ (z : ℤ). let out : RowOutcome ℕ = Commits [] (set_name dest (element_at (s.cells array) (place_in (slice_index lengths array) z)) s) to in out) (settled_value index s lie)
  alone_same lengths (Store array index value) to s lie =
      ap (λ (z : ℤ). stores_alone array (place_in (slice_index lengths array) z) (operand_value s.names (settled intervals value)) to s) (settled_value index s lie)
      ∙ ap (λ (z : ℤ). stores_alone array (place_in (slice_index lengths array) (operand_value s.names index)) z to s) (settled_value value s lie)
  alone_same lengths (Print value) to s lie = ap (λ (z : ℤ). let out : RowOutcome ℕ = Commits (z ∷ []) s to in out) (settled_value value s lie)
  alone_same lengths (Read dest) to s lie = refl
  alone_same lengths (More dest) to s lie = refl

  -- a rewritten item does the same, in each state in which all variables lie in their intervals
  pub settled_does : (lengths : List ℕ) (item : Item) (to : ℕ) (s : State) → Lie intervals s → item_step lengths (settled_item intervals item) to s ≡ item_step lengths item to s
  settled_does lengths item to s lie =
      item_step-is lengths (settled_item intervals item) to s ∙ alone_same lengths item to s lie ∙ sym (item_step-is lengths item to s)

  -- ---- what a rewritten item computes and names

  many_by : (b : Bool) (o op : OpCode) (d dest : ℕ) (l r left right : Operand) → is_single (given_by o l r) ≡ b → item_by b o d l r ≡ Bin op dest left right
      → is_single (given_by op left right) ≡ false
  many_by true o op d dest l r left right e same = absurd (cc)
  many_by false o op d dest l r left right e same =
      let same_op : o ≡ op = (cc) in
      let same_left : settled intervals l ≡ left = (cc) in
      let same_right : settled intervals r ≡ right = (cc) in
      rw (sym same_op, sym same_left, sym same_right, settled_interval l, settled_interval r) e

  pub settled_many : (item : Item) (op : OpCode) (dest : ℕ) (left right : Operand) → settled_item intervals item ≡ Bin op dest left right
      → is_single (given_by op left right) ≡ false
  settled_many (Bin o d l r) op dest left right e = many_by (is_single (given_by o l r)) o op d dest l r left right refl e
  settled_many (Copy d from) op dest left right e = absurd (cc)
  settled_many (Load d array index) op dest left right e = absurd (cc)
  settled_many (Store array index value) op dest left right e = absurd (cc)
  settled_many (Print value) op dest left right e = absurd (cc)
  settled_many (Read d) op dest left right e = absurd (cc)
  settled_many (More d) op dest left right e = absurd (cc)

  one_names : (operand : Operand) (x : ℕ) → (reads_name (settled intervals operand) x || false) ≡ true → is_single (interval_of intervals x) ≡ false
  one_names operand x e = elim (or_true (reads_name (settled intervals operand) x) false e) [
    | inl reads ↦ settled_names operand x reads
    | inr never ↦ absurd (cc)
  ]

  two_names : (left right : Operand) (x : ℕ) → (reads_name (settled intervals left) x || (reads_name (settled intervals right) x || false)) ≡ true
      → is_single (interval_of intervals x) ≡ false
  two_names left right x e = elim (or_true (reads_name (settled intervals left) x) (reads_name (settled intervals right) x || false) e) [
    | inl reads ↦ settled_names left x reads
    | inr others ↦ one_names right x others
  ]

  bin_names : (b : Bool) (op : OpCode) (dest : ℕ) (left right : Operand) (x : ℕ) → list_any (λ o. reads_name o x) (operands_of (item_by b op dest left right)) ≡ true
      → is_single (interval_of intervals x) ≡ false
  bin_names true op dest left right x e = absurd (cc)
  bin_names false op dest left right x e = two_names left right x e

  pub item_names : (item : Item) (x : ℕ) → list_any (λ o. reads_name o x) (operands_of (settled_item intervals item)) ≡ true → is_single (interval_of intervals x) ≡ false
  item_names (Bin op dest left right) x e = bin_names (is_single (given_by op left right)) op dest left right x e
  item_names (Copy dest from) x e = one_names from x e
  item_names (Load dest array index) x e = one_names index x e
  item_names (Store array index value) x e = two_names index value x e
  item_names (Print value) x e = one_names value x e
  item_names (Read dest) x e = absurd (cc)
  item_names (More dest) x e = absurd (cc)

  -- ---- whether an item is another one now

  bin_other : (b : Bool) (op : OpCode) (dest : ℕ) (left right : Operand) → (b ≡ false → (is_settled intervals left || is_settled intervals right) ≡ true)
      → item_by b op dest left right ≢ Bin op dest left right
  bin_other true op dest left right h same = cc
  bin_other false op dest left right h same =
      let same_left : settled intervals left ≡ left = (cc) in
      let same_right : settled intervals right ≡ right = (cc) in
      elim (or_true (is_settled intervals left) (is_settled intervals right) (h refl)) [
        | inl one ↦ settled_other left one same_left
        | inr one ↦ settled_other right one same_right
      ]

  either_left : (b c : Bool) → (b || c) ≡ true → b ≡ false → c ≡ true
  either_left true c e f = absurd (cc)
  either_left false c e f = e

  one_of : (b : Bool) → (b || false) ≡ true → b ≡ true
  one_of true e = refl
  one_of false e = e

  pub item_other : (item : Item) → item_changes intervals item ≡ true → settled_item intervals item ≢ item
  item_other (Bin op dest left right) e same =
      bin_other (is_single (given_by op left right)) op dest left right
      (either_left (is_single (given_by op left right)) (is_settled intervals left || is_settled intervals right) e) same
  item_other (Copy dest from) e same = let operand : settled intervals from ≡ from = (cc) in settled_other from (one_of (is_settled intervals from) e) operand
  item_other (Load dest array index) e same = let operand : settled intervals index ≡ index = (cc) in settled_other index (one_of (is_settled intervals index) e) operand
  item_other (Store array index value) e same =
      let first : settled intervals index ≡ index = (cc) in
      let second : settled intervals value ≡ value = (cc) in
      elim (or_true (is_settled intervals index) (is_settled intervals value || false) e) [
        | inl one ↦ settled_other index one first
        | inr one ↦ settled_other value (one_of (is_settled intervals value) one) second
      ]
  item_other (Print value) e same = let operand : settled intervals value ≡ value = (cc) in settled_other value (one_of (is_settled intervals value) e) operand
  item_other (Read dest) e same = cc
  item_other (More dest) e same = cc

  pub item_same : (item : Item) → item_changes intervals item ≡ false → settled_item intervals item ≡ item
  item_same (Bin op dest left right) e =
      let first = or_false (is_single (given_by op left right)) (is_settled intervals left || is_settled intervals right) e in
      let both = or_false (is_settled intervals left) (is_settled intervals right) first.1 in
      no_is (is_single (given_by op left right)) (Copy dest (Lit (given_by op left right).low)) (Bin op dest (settled intervals left) (settled intervals right)) first.0
      ∙ ap (λ (o : Operand). Bin op dest o (settled intervals right)) (settled_same left both.0) ∙ ap (Bin op dest left) (settled_same right both.1)
  item_same (Copy dest from) e = ap (Copy dest) (settled_same from (or_false (is_settled intervals from) false e).0)
  item_same (Load dest array index) e = ap (Load dest array) (settled_same index (or_false (is_settled intervals index) false e).0)
  item_same (Store array index value) e =
      let first = or_false (is_settled intervals index) (is_settled intervals value || false) e in
      ap (λ (o : Operand). Store array o (settled intervals value)) (settled_same index first.0)
      ∙ ap (Store array index) (settled_same value (or_false (is_settled intervals value) false first.1).0)
  item_same (Print value) e = ap Print (settled_same value (or_false (is_settled intervals value) false e).0)
  item_same (Read dest) e = refl
  item_same (More dest) e = refl

-- ---- nodes

settled_fits : (flow : FlowGraph) (map : List Bounds) (at : ℕ) (node : FlowNode) → NodeFits flow at node → NodeFits flow at (settled_node map at node)
settled_fits flow map at (Op item to) h = (settled_item_fits (bounds_at map at).intervals (length flow.arrays) item h.0, h.1)
settled_fits flow map at (Test on on_yes on_no turn) h = (settled_variable (bounds_at map at).intervals on h.0, h.1)
settled_fits flow map at Stop h = h
settled_fits flow map at (Trap kind line) h = h

-- the edges of a rewritten node lead to nodes that are there
pub settled_there : (flow : FlowGraph) (map : List Bounds) (at count : ℕ) (node : FlowNode) → count ≡ length flow.nodes → NodeFits flow at node
    → NodeThere count (settled_node map at node)
settled_there flow map at count node e fits = fits_there flow at count (settled_node map at node) e (settled_fits flow map at node fits)

settled_turn : (map : List Bounds) (at : ℕ) (node : FlowNode) → tested_loop (settled_node map at node) ≡ tested_loop node
settled_turn map at (Op item to) = refl
settled_turn map at (Test on on_yes on_no turn) = refl
settled_turn map at Stop = refl
settled_turn map at (Trap kind line) = refl

settled_edge : (map : List Bounds) (at : ℕ) (node : FlowNode) (to : ℕ) → HasEdge node to → HasEdge (settled_node map at node) to
settled_edge map at (Op item next) to e = e
settled_edge map at (Test on on_yes on_no turn) to e = e
settled_edge map at Stop to e = e
settled_edge map at (Trap kind line) to e = e

settled_edge_from : (map : List Bounds) (at : ℕ) (node : FlowNode) (to : ℕ) → HasEdge (settled_node map at node) to → HasEdge node to
settled_edge_from map at (Op item next) to e = e
settled_edge_from map at (Test on on_yes on_no turn) to e = e
settled_edge_from map at Stop to e = e
settled_edge_from map at (Trap kind line) to e = e

-- rewritten nodes have the edges that they had
pub settled_keeps : (flow : FlowGraph) (map : List Bounds) → KeepsEdges flow (settled_node map)
settled_keeps flow map = record { fits = settled_fits flow map; turn = settled_turn map; edge = settled_edge map; edge_from = settled_edge_from map }

-- a variable that a rewritten node reads has no single word
pub node_names : (map : List Bounds) (ends : List ℕ) (at x : ℕ) (node : FlowNode) → node_reads (led ends (settled_node map at node)) x ≡ true
    → is_single (interval_of (bounds_at map at).intervals x) ≡ false
node_names map ends at x (Op item to) e = item_names (bounds_at map at).intervals item x e
node_names map ends at x (Test on on_yes on_no turn) e = settled_names (bounds_at map at).intervals on x e
node_names map ends at x Stop e = absurd (cc)
node_names map ends at x (Trap kind line) e = absurd (cc)
