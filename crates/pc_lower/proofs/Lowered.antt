-- Expressions that are lowered part by part: what each part may take for granted, and what the parts together give.
use Rattle.std.proofs.Common.{◌≡◌, ℕ, ◌+◌, ◌<◌, ◌≤◌, ◌⊎◌, inl, inr, true, ◌&&◌, List, length, Option, refl, sym, ◌∙◌, ap, subst, arith}
use Rattle.std.specs.Prelude.{ℤ, pos, max, nat_lt}
use Rattle.pc_word.specs.declared.item.Item.TheVariants.{Bin, Copy, Load, Read, More}
use Rattle.pc_word.specs.declared.item.Operand.{Operand}
use Rattle.pc_word.specs.declared.item.Operand.TheVariants.{Name, Lit}
use Rattle.pc_word.specs.declared.item.OpCode.TheVariants as codes
use Rattle.pc_word.specs.declared.item.TrapKind.TheVariants.{EndOfInput}
use Rattle.pc_word.specs.SourceLimits.{most_scalars, most_temporaries}
use Rattle.pc_word.proofs.Truth.{and_true, less_of}
use Rattle.pc_syntax.specs.declared.operator.UnaryOp.{UnaryOp}
use Rattle.pc_syntax.specs.declared.operator.UnaryOp.TheVariants.{Minus, Flip, Not}
use Rattle.pc_syntax.specs.declared.operator.BinaryOp.{BinaryOp}
use Rattle.pc_syntax.specs.Source.{SourceExpression, Literal, Variable, Input, Indexed, Prefixed, Combined, Conjunction, Disjunction, Conditional}
use Rattle.pc_check.specs.Needs.{hold, need}
use Rattle.pc_check.specs.Sizes.{expression_size, operator_size}
use Rattle.pc_check.specs.Sound.{has_slots}
use Rattle.pc_flow.specs.FlowGraph.{FlowGraph, IsVariable, ItemFits}
use Rattle.pc_lower.specs.Lowers.{temporary, held, prefix_item, Bounds, Combines, Does, Tests, Gives}
use Rattle.pc_lower.specs.models.Drafts.{Draft}
use Rattle.pc_lower.specs.models.Fills.{Lays, HasRoom}
use Rattle.pc_lower.specs.models.LowersExpression.{AreLengths, MayLower, LaysExpression, Guards}
use Rattle.pc_lower.proofs.Fills.{lays_both, lays_as, less_room, room_left, placed_first}

-- ---- values

-- what holds a value is needed
pub hold_needed : (e : SourceExpression) → hold e ≤ need e
unfolding need
hold_needed (Literal value) = omega arith
hold_needed (Variable symbol line) = omega arith
hold_needed (Input line) = omega arith
hold_needed (Indexed symbol line at index) = grind arith
hold_needed (Prefixed op operand) = grind arith
hold_needed (Combined op at left right) = grind arith
hold_needed (Conjunction left right) = grind arith
hold_needed (Disjunction left right) = grind arith
hold_needed (Conditional test one other) = grind arith

-- where a value is, there is a variable or a literal
pub held_fits : (e : SourceExpression) (t arrays : ℕ) → has_slots most_scalars arrays e ≡ true → t + hold e ≤ most_temporaries → IsVariable (held e t)
unfolding has_slots
held_fits (Literal value) t arrays slots h = tt
held_fits (Variable symbol line) t arrays slots h = let s = less_of symbol most_scalars slots in omega (arith, s)
held_fits (Input line) t arrays slots h = omega (arith, h)
held_fits (Indexed symbol line at index) t arrays slots h = omega (arith, h)
held_fits (Prefixed op operand) t arrays slots h = omega (arith, h)
held_fits (Combined op at left right) t arrays slots h = omega (arith, h)
held_fits (Conjunction left right) t arrays slots h = omega (arith, h)
held_fits (Disjunction left right) t arrays slots h = omega (arith, h)
held_fits (Conditional test one other) t arrays slots h = omega (arith, h)

-- the item for a unary operator fits
pub prefix_fits : (op : UnaryOp) (dest arrays : ℕ) (a : Operand) → dest < 96 → IsVariable a → ItemFits arrays (prefix_item op dest a)
prefix_fits Minus dest arrays a h k = record { reads = (tt, (k, tt)); writes = h; array = tt }
prefix_fits Flip dest arrays a h k = record { reads = (k, (tt, tt)); writes = h; array = tt }
prefix_fits Not dest arrays a h k = record { reads = (k, (tt, tt)); writes = h; array = tt }

-- ---- parts

-- a part that is lowered before nodes that were placed: it leads on to the first of them
pub may_part : {d d1 : Draft} {e : SourceExpression} {t to q k m : ℕ} {inside : Option ℕ} {P : FlowGraph → Type 0} (x : SourceExpression) (u : ℕ)
    → MayLower d e t to q inside → Lays d d1 k m to P → has_slots most_scalars (length d.graph.arrays) x ≡ true → u + need x ≤ most_temporaries
    → expression_size x + k ≤ expression_size e → 1 ≤ k → MayLower d1 x u m m inside
may_part {d} {d1} {e} {t} {to} {q} {k} {m} {inside} {P} x u may l slots temporaries size some = record {
  arrays = subst AreLengths (sym l.fills.arrays) may.arrays;
  slots = subst (λ (arrays : List ℕ). has_slots most_scalars (length arrays) x ≡ true) (sym l.fills.arrays) slots;
  temporaries = temporaries;
  room = room_left (expression_size x) may.room l size;
  leads = placed_first may.room l some;
  contiguous = λ none. refl;
}

-- ---- each construct

-- `read()`
pub lays_read : {a b c d : Draft} {p n m to : ℕ} {inside : Option ℕ} (line t q : ℕ)
    → Lays a b 1 n to (λ flow. Does flow inside n (Read (64 + t)) q)
    → Lays b c 2 m n (λ flow. Guards flow inside (Name (64 + t)) EndOfInput line m n)
    → Lays c d 1 p m (λ flow. Does flow inside p (More (64 + t)) m)
    → LaysExpression (Input line) t p to q inside a d
unfolding expression_size
lays_read {p = p} {n = n} {m = m} {inside = inside} line t q read guard more =
    lays_as 4 (λ flow. Gives flow inside (Input line) t p q) (lays_both (lays_both read guard) more) refl
    (λ flow h. (m, n, h.0.1.0, h.1, h.0.1.1, h.0.1.2, h.0.0))

-- a unary operator
module _ {d : Draft} {op : UnaryOp} {x : SourceExpression} {t to q : ℕ} {inside : Option ℕ} (may : MayLower d (Prefixed op x) t to q inside) where
  unary-slots : has_slots most_scalars (length d.graph.arrays) x ≡ true
  unfolding has_slots
  unary-slots = may.slots

  unary-needs : (t + need x ≤ most_temporaries) × (t < most_temporaries)
  unfolding need
  unary-needs = let n : t + max (need x) 1 ≤ most_temporaries = may.temporaries in (grind (arith, n), grind (arith, n))

  pub unary_room : HasRoom d 1 to inside
  unfolding expression_size
  unary_room = less_room 1 (omega arith) may.room

  pub unary_item : ItemFits (length d.graph.arrays) (prefix_item op (64 + t) (held x t))
  unary_item =
      let n = unary-needs in
      let h = hold_needed x in
      let room = n.0 in
      let dest = n.1 in
      prefix_fits op (64 + t) (length d.graph.arrays) (held x t) (omega (arith, dest))
      (held_fits x t (length d.graph.arrays) unary-slots (omega (arith, h, room)))

  pub unary_operand : {d1 : Draft} {m : ℕ} {P : FlowGraph → Type 0} → Lays d d1 1 m to P → MayLower d1 x t m m inside
  unfolding expression_size
  unary_operand l = may_part x t may l unary-slots unary-needs.0 (omega arith) (omega arith)

pub lays_unary : {a b c : Draft} {p m to : ℕ} {inside : Option ℕ} (op : UnaryOp) (x : SourceExpression) (t q : ℕ)
    → Lays a b 1 m to (λ flow. Does flow inside m (prefix_item op (64 + t) (held x t)) q)
    → LaysExpression x t p m m inside b c → LaysExpression (Prefixed op x) t p to q inside a c
unfolding expression_size
lays_unary {p = p} {m = m} {inside = inside} op x t q item operand =
    lays_as (expression_size x + 1) (λ flow. Gives flow inside (Prefixed op x) t p q) (lays_both item operand) refl
    (λ flow h. (m, h.1, h.0))

-- ---- items that fit

-- a copy
pub copy_fits : (dest arrays : ℕ) (a : Operand) → dest < 96 → IsVariable a → ItemFits arrays (Copy dest a)
copy_fits dest arrays a h k = record { reads = (k, tt); writes = h; array = tt }

-- a test that a value is not 0
pub truth_fits : (dest arrays : ℕ) (a : Operand) → dest < 96 → IsVariable a → ItemFits arrays (Bin codes.Unequal dest a (Lit (pos 0)))
truth_fits dest arrays a h k = record { reads = (k, (tt, tt)); writes = h; array = tt }

-- the value of a part that was measured
pub value_fits : (x : SourceExpression) (u arrays : ℕ) → has_slots most_scalars arrays x ≡ true → u + need x ≤ most_temporaries → IsVariable (held x u)
value_fits x u arrays slots h = let n = hold_needed x in held_fits x u arrays slots (omega (arith, n, h))

-- ---- an element

module _ {d : Draft} {array line at : ℕ} {x : SourceExpression} {t to q : ℕ} {inside : Option ℕ} (may : MayLower d (Indexed array line at x) t to q inside) where
  element-slots : (array < length d.graph.arrays) × (has_slots most_scalars (length d.graph.arrays) x ≡ true)
  unfolding has_slots
  element-slots = let both = and_true (nat_lt array (length d.graph.arrays)) (has_slots most_scalars (length d.graph.arrays) x) may.slots in
      (less_of array (length d.graph.arrays) both.0, both.1)

  element-needs : (t + need x ≤ most_temporaries) × ((t + hold x < most_temporaries) × (t < most_temporaries))
  unfolding need
  element-needs = let n : t + max (need x) (hold x + 1) ≤ most_temporaries = may.temporaries in (grind (arith, n), (grind (arith, n), grind (arith, n)))

  pub element_small : array < 256
  element_small = let a = element-slots.0 in let n = may.arrays.few in omega (arith, a, n)

  pub element_temporary : t + hold x < most_temporaries
  element_temporary = element-needs.1.0

  pub element_place : IsVariable (held x t)
  element_place = value_fits x t (length d.graph.arrays) element-slots.1 element-needs.0

  pub element_array : array < length d.graph.arrays
  element_array = element-slots.0

  pub element_first : t < most_temporaries
  element_first = element-needs.1.1

  pub element_room : HasRoom d 4 to inside
  unfolding expression_size
  element_room = less_room 4 (omega arith) may.room

  pub element_index : {d1 : Draft} {m : ℕ} {P : FlowGraph → Type 0} → Lays d d1 4 m to P → MayLower d1 x t m m inside
  unfolding expression_size
  element_index l = may_part x t may l element-slots.1 element-needs.0 (omega arith) (omega arith)

pub lays_element : {a b c : Draft} {p m to : ℕ} {inside : Option ℕ} (array line at : ℕ) (x : SourceExpression) (t q : ℕ)
    → Lays a b 4 m to (λ flow. (n : ℕ) × Bounds flow inside array at (temporary (t + hold x)) (held x t) m n
    × Does flow inside n (Load (temporary t) array (held x t)) q)
    → LaysExpression x t p m m inside b c → LaysExpression (Indexed array line at x) t p to q inside a c
unfolding expression_size
lays_element {p = p} {m = m} {inside = inside} array line at x t q load index =
    lays_as (expression_size x + 4) (λ flow. Gives flow inside (Indexed array line at x) t p q) (lays_both load index) refl
    (λ flow h. (m, h.0.0, h.1, h.0.1, h.0.2))

-- ---- a binary operator

-- an operator has a node
pub operator_some : (op : BinaryOp) → 1 ≤ operator_size op
operator_some op = grind arith

module _ {d : Draft} {op : BinaryOp} {at : ℕ} {x y : SourceExpression} {t to q : ℕ} {inside : Option ℕ} (may : MayLower d (Combined op at x y) t to q inside) where
  binary-slots : (has_slots most_scalars (length d.graph.arrays) x ≡ true) × (has_slots most_scalars (length d.graph.arrays) y ≡ true)
  unfolding has_slots
  binary-slots = and_true (has_slots most_scalars (length d.graph.arrays) x) (has_slots most_scalars (length d.graph.arrays) y) may.slots

  binary-needs : (t + need x ≤ most_temporaries) × ((t + hold x + need y ≤ most_temporaries) × (t < most_temporaries))
  unfolding need
  binary-needs = let n : t + max (max (need x) (hold x + need y)) 1 ≤ most_temporaries = may.temporaries in (grind (arith, n), (grind (arith, n), grind (arith, n)))

  pub binary_temporary : t < most_temporaries
  binary_temporary = binary-needs.1.1

  pub binary_above : t + hold x ≤ most_temporaries
  binary_above = let n = binary-needs.1.0 in omega (arith, n)

  pub binary_room : HasRoom d (operator_size op) to inside
  unfolding expression_size
  binary_room = less_room (operator_size op) (omega arith) may.room

  pub binary_left_value : IsVariable (held x t)
  binary_left_value = value_fits x t (length d.graph.arrays) binary-slots.0 binary-needs.0

  pub binary_right_value : IsVariable (held y (t + hold x))
  binary_right_value = value_fits y (t + hold x) (length d.graph.arrays) binary-slots.1 binary-needs.1.0

  pub binary_right : {d1 : Draft} {n : ℕ} {P : FlowGraph → Type 0} → Lays d d1 (operator_size op) n to P → MayLower d1 y (t + hold x) n n inside
  unfolding expression_size
  binary_right l = may_part y (t + hold x) may l binary-slots.1 binary-needs.1.0 (omega arith) (operator_some op)

  pub binary_left : {d1 d2 : Draft} {n m : ℕ} {P Q : FlowGraph → Type 0} → Lays d d1 (operator_size op) n to P → Lays d1 d2 (expression_size y) m n Q
      → MayLower d2 x t m m inside
  unfolding expression_size
  binary_left l k = let some = operator_some op in may_part x t may (lays_both l k) binary-slots.0 binary-needs.0 (omega arith) (omega (arith, some))

pub lays_binary : {a b c e : Draft} {p m n to : ℕ} (inside : Option ℕ) (op : BinaryOp) (at : ℕ) (x y : SourceExpression) (t q : ℕ)
    → Lays a b (operator_size op) n to (λ flow. Combines flow inside op at (temporary t) (held x t) (held y (t + hold x)) n q)
    → LaysExpression y (t + hold x) m n n inside b c → LaysExpression x t p m m inside c e → LaysExpression (Combined op at x y) t p to q inside a e
unfolding expression_size
lays_binary {p = p} {m = m} {n = n} inside op at x y t q operation right left =
    lays_as (expression_size x + expression_size y + operator_size op) (λ flow. Gives flow inside (Combined op at x y) t p q)
    (lays_both (lays_both operation right) left) (omega arith) (λ flow h. (m, n, h.1, h.0.1, h.0.0))

-- ---- `&&` and `||`

-- an expression is `&&` or `||` of two
abbrev pub IsShortcut : SourceExpression → SourceExpression → SourceExpression → Type 0
IsShortcut e x y = (e ≡ Conjunction x y) ⊎ (e ≡ Disjunction x y)

-- each of the two is one
pub is_conjunction : (x y : SourceExpression) → IsShortcut (Conjunction x y) x y
is_conjunction x y = inl refl

pub is_disjunction : (x y : SourceExpression) → IsShortcut (Disjunction x y) x y
is_disjunction x y = inr refl

shortcut-size : (e x y : SourceExpression) → IsShortcut e x y → expression_size e ≡ expression_size x + expression_size y + 3
unfolding expression_size
shortcut-size e x y (inl h) = ap expression_size h
shortcut-size e x y (inr h) = ap expression_size h

shortcut-need : (e x y : SourceExpression) → IsShortcut e x y → need e ≡ max (max (need x) (need y)) 1
unfolding need
shortcut-need e x y (inl h) = ap need h
shortcut-need e x y (inr h) = ap need h

shortcut-has : (n : ℕ) (e x y : SourceExpression) → IsShortcut e x y → has_slots most_scalars n e ≡ (has_slots most_scalars n x && has_slots most_scalars n y)
unfolding has_slots
shortcut-has n e x y (inl h) = ap (has_slots most_scalars n) h
shortcut-has n e x y (inr h) = ap (has_slots most_scalars n) h

module _ {d : Draft} {e x y : SourceExpression} {t to q : ℕ} {inside : Option ℕ} (is : IsShortcut e x y) (may : MayLower d e t to q inside) where
  both-slots : (has_slots most_scalars (length d.graph.arrays) x ≡ true) × (has_slots most_scalars (length d.graph.arrays) y ≡ true)
  both-slots = and_true (has_slots most_scalars (length d.graph.arrays) x) (has_slots most_scalars (length d.graph.arrays) y)
      (sym (shortcut-has (length d.graph.arrays) e x y is) ∙ may.slots)

  both-needs : (t + need x ≤ most_temporaries) × ((t + need y ≤ most_temporaries) × (t < most_temporaries))
  both-needs =
      let n = may.temporaries in
      let m = shortcut-need e x y is in
      let k : t + max (max (need x) (need y)) 1 ≤ most_temporaries = omega (arith, n, m) in
      (grind (arith, k), (grind (arith, k), grind (arith, k)))

  pub shortcut_room : HasRoom d 1 to inside
  shortcut_room = let s = shortcut-size e x y is in less_room 1 (omega (arith, s)) may.room

  pub shortcut_copy : (value : ℤ) → ItemFits (length d.graph.arrays) (Copy (64 + t) (Lit value))
  shortcut_copy value = let n = both-needs.1.1 in copy_fits (64 + t) (length d.graph.arrays) (Lit value) (omega (arith, n)) tt

  pub shortcut_left_value : IsVariable (held x t)
  shortcut_left_value = value_fits x t (length d.graph.arrays) both-slots.0 both-needs.0

  -- after the copy
  module _ {d1 : Draft} {z : ℕ} {P : FlowGraph → Type 0} (l : Lays d d1 1 z to P) where
    pub truth_room : HasRoom d1 1 z inside
    truth_room = let s = shortcut-size e x y is in room_left 1 may.room l (omega (arith, s))

    pub truth_item : ItemFits (length d1.graph.arrays) (Bin codes.Unequal (64 + t) (held y t) (Lit (pos 0)))
    truth_item =
        let n = both-needs.1.1 in
        truth_fits (64 + t) (length d1.graph.arrays) (held y t) (omega (arith, n)) (value_fits y t (length d.graph.arrays) both-slots.1 both-needs.1.0)

    -- after the test that the right operand is not 0
    module _ {d2 : Draft} {n : ℕ} {Q : FlowGraph → Type 0} (k : Lays d1 d2 1 n z Q) where
      pub shortcut_right : MayLower d2 y t n n inside
      shortcut_right = let s = shortcut-size e x y is in may_part y t may (lays_both l k) both-slots.1 both-needs.1.0 (omega (arith, s)) (omega arith)

      -- after the right operand
      module _ {d3 : Draft} {v : ℕ} {R : FlowGraph → Type 0} (j : Lays d2 d3 (expression_size y) v n R) where
        pub test_room : HasRoom d3 1 v inside
        test_room = let s = shortcut-size e x y is in room_left 1 may.room (lays_both (lays_both l k) j) (omega (arith, s))

        pub shortcut_left : {d4 : Draft} {m : ℕ} {S : FlowGraph → Type 0} → Lays d3 d4 1 m v S → MayLower d4 x t m m inside
        shortcut_left i = let s = shortcut-size e x y is in
            may_part x t may (lays_both (lays_both (lays_both l k) j) i) both-slots.0 both-needs.0 (omega (arith, s)) (omega arith)

pub lays_conjunction : {a b c d e f : Draft} {p m v n z to : ℕ} {inside : Option ℕ} (x y : SourceExpression) (t q : ℕ)
    → Lays a b 1 z to (λ flow. Does flow inside z (Copy (64 + t) (Lit (pos 0))) q)
    → Lays b c 1 n z (λ flow. Does flow inside n (Bin codes.Unequal (64 + t) (held y t) (Lit (pos 0))) q)
    → LaysExpression y t v n n inside c d
    → Lays d e 1 m v (λ flow. Tests flow inside m (held x t) v z)
    → LaysExpression x t p m m inside e f → LaysExpression (Conjunction x y) t p to q inside a f
unfolding expression_size
lays_conjunction {p = p} {m = m} {v = v} {n = n} {z = z} {inside = inside} x y t q copy unequal right test left =
    lays_as (expression_size x + expression_size y + 3) (λ flow. Gives flow inside (Conjunction x y) t p q)
    (lays_both (lays_both (lays_both (lays_both copy unequal) right) test) left) (omega arith)
    (λ flow h. (m, v, z, n, h.1, h.0.1, h.0.0.1, h.0.0.0.1, h.0.0.0.0))

pub lays_disjunction : {a b c d e f : Draft} {p m v n z to : ℕ} {inside : Option ℕ} (x y : SourceExpression) (t q : ℕ)
    → Lays a b 1 z to (λ flow. Does flow inside z (Copy (64 + t) (Lit (pos 1))) q)
    → Lays b c 1 n z (λ flow. Does flow inside n (Bin codes.Unequal (64 + t) (held y t) (Lit (pos 0))) q)
    → LaysExpression y t v n n inside c d
    → Lays d e 1 m v (λ flow. Tests flow inside m (held x t) z v)
    → LaysExpression x t p m m inside e f → LaysExpression (Disjunction x y) t p to q inside a f
unfolding expression_size
lays_disjunction {p = p} {m = m} {v = v} {n = n} {z = z} {inside = inside} x y t q copy unequal right test left =
    lays_as (expression_size x + expression_size y + 3) (λ flow. Gives flow inside (Disjunction x y) t p q)
    (lays_both (lays_both (lays_both (lays_both copy unequal) right) test) left) (omega arith)
    (λ flow h. (m, z, v, n, h.1, h.0.1, h.0.0.0.0, h.0.0.1, h.0.0.0.1))

-- ---- `?:`

module _ {d : Draft} {x y w : SourceExpression} {t to q : ℕ} {inside : Option ℕ} (may : MayLower d (Conditional x y w) t to q inside) where
  choice-slots : (has_slots most_scalars (length d.graph.arrays) x ≡ true)
      × ((has_slots most_scalars (length d.graph.arrays) y ≡ true) × (has_slots most_scalars (length d.graph.arrays) w ≡ true))
  unfolding has_slots
  choice-slots =
      let n = length d.graph.arrays in
      let first = and_true (has_slots most_scalars n x) (has_slots most_scalars n y && has_slots most_scalars n w) may.slots in
      (first.0, and_true (has_slots most_scalars n y) (has_slots most_scalars n w) first.1)

  choice-needs : (t + need x ≤ most_temporaries) × ((t + need y ≤ most_temporaries) × ((t + need w ≤ most_temporaries) × (t < most_temporaries)))
  unfolding need
  choice-needs =
      let n : t + max (max (max (need x) (need y)) (need w)) 1 ≤ most_temporaries = may.temporaries in
      (grind (arith, n), (grind (arith, n), (grind (arith, n), grind (arith, n))))

  choice-size : expression_size x + expression_size y + expression_size w + 3 ≤ expression_size (Conditional x y w)
  unfolding expression_size
  choice-size = omega arith

  pub choice_room : HasRoom d 1 to inside
  choice_room = let s = choice-size in less_room 1 (omega (arith, s)) may.room

  pub choice_test_value : IsVariable (held x t)
  choice_test_value = value_fits x t (length d.graph.arrays) choice-slots.0 choice-needs.0

  pub choice_other_item : ItemFits (length d.graph.arrays) (Copy (64 + t) (held w t))
  choice_other_item =
      let n = choice-needs.1.1.1 in
      copy_fits (64 + t) (length d.graph.arrays) (held w t) (omega (arith, n)) (value_fits w t (length d.graph.arrays) choice-slots.1.1 choice-needs.1.1.0)

  -- after the copy of the second value
  module _ {d1 : Draft} {j : ℕ} {P : FlowGraph → Type 0} (l : Lays d d1 1 j to P) where
    pub choice_other : MayLower d1 w t j j inside
    choice_other = let s = choice-size in may_part w t may l choice-slots.1.1 choice-needs.1.1.0 (omega (arith, s)) (omega arith)

    -- after the second expression
    module _ {d2 : Draft} {z : ℕ} {Q : FlowGraph → Type 0} (k : Lays d1 d2 (expression_size w) z j Q) where
      pub choice_one_room : HasRoom d2 1 z inside
      choice_one_room = let s = choice-size in room_left 1 may.room (lays_both l k) (omega (arith, s))

      pub choice_one_item : ItemFits (length d2.graph.arrays) (Copy (64 + t) (held y t))
      choice_one_item =
          let n = choice-needs.1.1.1 in
          copy_fits (64 + t) (length d2.graph.arrays) (held y t) (omega (arith, n)) (value_fits y t (length d.graph.arrays) choice-slots.1.0 choice-needs.1.0)

      -- after the copy of the first value
      module _ {d3 : Draft} {i : ℕ} {R : FlowGraph → Type 0} (g : Lays d2 d3 1 i z R) where
        pub choice_one : MayLower d3 y t i i inside
        choice_one = let s = choice-size in
            may_part y t may (lays_both (lays_both l k) g) choice-slots.1.0 choice-needs.1.0 (omega (arith, s)) (omega arith)

        -- after the first expression
        module _ {d4 : Draft} {v : ℕ} {S : FlowGraph → Type 0} (f : Lays d3 d4 (expression_size y) v i S) where
          pub choice_test_room : HasRoom d4 1 v inside
          choice_test_room = let s = choice-size in room_left 1 may.room (lays_both (lays_both (lays_both l k) g) f) (omega (arith, s))

          pub choice_test : {d5 : Draft} {m : ℕ} {T : FlowGraph → Type 0} → Lays d4 d5 1 m v T → MayLower d5 x t m m inside
          choice_test e = let s = choice-size in
              may_part x t may (lays_both (lays_both (lays_both (lays_both l k) g) f) e) choice-slots.0 choice-needs.0 (omega (arith, s)) (omega arith)

pub lays_choice : {a b c d e f g : Draft} {p m v i z j to : ℕ} {inside : Option ℕ} (x y w : SourceExpression) (t q : ℕ)
    → Lays a b 1 j to (λ flow. Does flow inside j (Copy (64 + t) (held w t)) q)
    → LaysExpression w t z j j inside b c
    → Lays c d 1 i z (λ flow. Does flow inside i (Copy (64 + t) (held y t)) q)
    → LaysExpression y t v i i inside d e
    → Lays e f 1 m v (λ flow. Tests flow inside m (held x t) v z)
    → LaysExpression x t p m m inside f g → LaysExpression (Conditional x y w) t p to q inside a g
unfolding expression_size
lays_choice {p = p} {m = m} {v = v} {i = i} {z = z} {j = j} {inside = inside} x y w t q last other middle one start test =
    lays_as (expression_size x + expression_size y + expression_size w + 3) (λ flow. Gives flow inside (Conditional x y w) t p q)
    (lays_both (lays_both (lays_both (lays_both (lays_both last other) middle) one) start) test) (omega arith)
    (λ flow h. (m, v, z, i, j, h.1, h.0.1, h.0.0.1, h.0.0.0.1, h.0.0.0.0.1, h.0.0.0.0.0))
