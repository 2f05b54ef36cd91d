-- What the tests of operands and items say.
use Rattle.std.proofs.Common.{◌≡◌, ℕ, true, List, [], ◌∷◌, refl, ap, subst}
use Rattle.std.specs.Prelude.{Contains, ◌&&◌}
use Rattle.std.proofs.lemmas.Bool.{eqb-true, eq-eqb}
use Rattle.std.proofs.lemmas.Bool.Decides.{Decides-int_eq}
use Rattle.pc_word.specs.declared.item.Item.{Item}
use Rattle.pc_word.specs.declared.item.Item.TheVariants.{Bin, Copy, Load, Store, Print, Read, More}
use Rattle.pc_word.specs.declared.item.OpCode.{OpCode}
use Rattle.pc_word.specs.declared.item.Operand.{Operand}
use Rattle.pc_word.specs.declared.item.Operand.TheVariants.{Name, Lit}
use Rattle.pc_word.specs.Items.{op_number, operands_of}
use Rattle.pc_word.proofs.Items.{same_operator as operator_of_number}
use Rattle.pc_word.proofs.Truth.{and_true, and_made}
use Rattle.pc_certified.specs.Facts.{Fact, OperandsMatch, ItemsMatch, same_bin, same_copy, same_load, same_store, same_print, same_read, same_more}
use Rattle.pc_matching.specs.Matching.{same_operand, says_that, operands_match, each_matches, same_kind, items_match}
use Rattle.pc_matching.specs.FactsAfter.{that}
use Rattle.pc_matching.proofs.Elements.{In, in_of, of_in, in_any, of_any}

-- ---- operands

pub operand_of : (one other : Operand) → same_operand one other ≡ true → one ≡ other
operand_of (Name x) (Name y) e = ap Name (eqb-true x y e)
operand_of (Lit v) (Lit w) e = ap Lit ((Decides-int_eq v w).0 e)
operand_of (Name x) (Lit w) e = absurd (cc)
operand_of (Lit v) (Name y) e = absurd (cc)

pub same_operand_itself : (one : Operand) → same_operand one one ≡ true
same_operand_itself (Name x) = eq-eqb x x refl
same_operand_itself (Lit v) = (Decides-int_eq v v).1 refl

-- a fact that says so is this one
pub said : (source operand : Operand) (fact : Fact) → says_that source operand fact ≡ true → fact ≡ that source operand
said source operand fact e =
    let both = and_true (same_operand fact.source source) (same_operand fact.operand operand) e in
    let one = operand_of fact.source source both.0 in
    let other = operand_of fact.operand operand both.1 in
    λ i. record { source = one i; operand = other i }

pub says_itself : (source operand : Operand) → says_that source operand (that source operand) ≡ true
says_itself source operand =
    and_made (same_operand source source) (same_operand operand operand) (same_operand_itself source) (same_operand_itself operand)

module _ (facts : List Fact) where
  listed : (source operand : Operand) → In facts (that source operand) → Contains facts (that source operand)
  listed source operand h = of_in facts (that source operand) h

  told : (source operand : Operand) → (fact : Fact) × In facts fact × (says_that source operand fact ≡ true) → Contains facts (that source operand)
  told source operand (fact, h, e) = listed source operand (subst (In facts) (said source operand fact e) h)

  pub operands_of_test : (source operand : Operand) → operands_match facts source operand ≡ true → OperandsMatch facts source operand
  operands_of_test (Lit v) (Lit w) e = (Decides-int_eq v w).0 e
  operands_of_test (Lit v) (Name y) e = told (Lit v) (Name y) (in_any (says_that (Lit v) (Name y)) facts e)
  operands_of_test (Name x) operand e = told (Name x) operand (in_any (says_that (Name x) operand) facts e)

  passes : (source operand : Operand) → Contains facts (that source operand) → In facts (that source operand)
  passes source operand h = in_of facts (that source operand) h

  pub test_of_operands : (source operand : Operand) → OperandsMatch facts source operand → operands_match facts source operand ≡ true
  test_of_operands (Lit v) (Lit w) h = (Decides-int_eq v w).1 h
  test_of_operands (Lit v) (Name y) h = of_any (says_that (Lit v) (Name y)) facts (that (Lit v) (Name y)) (passes (Lit v) (Name y) h) (says_itself (Lit v) (Name y))
  test_of_operands (Name x) operand h = of_any (says_that (Name x) operand) facts (that (Name x) operand) (passes (Name x) operand h) (says_itself (Name x) operand)

  -- ---- items

  one_operand : (left left' : Operand) → each_matches facts (left ∷ []) (left' ∷ []) ≡ true → OperandsMatch facts left left'
  one_operand left left' e = operands_of_test left left' (and_true (operands_match facts left left') true e).0

  two_operands : (left left' right right' : Operand) → each_matches facts (left ∷ right ∷ []) (left' ∷ right' ∷ []) ≡ true
      → OperandsMatch facts left left' × OperandsMatch facts right right'
  two_operands left left' right right' e =
      let both = and_true (operands_match facts left left') (operands_match facts right right' && true) e in
      (operands_of_test left left' both.0, one_operand right right' both.1)

  one_test : (left left' : Operand) → OperandsMatch facts left left' → each_matches facts (left ∷ []) (left' ∷ []) ≡ true
  one_test left left' h = and_made (operands_match facts left left') true (test_of_operands left left' h) refl

  two_tests : (left left' right right' : Operand) → OperandsMatch facts left left' → OperandsMatch facts right right'
      → each_matches facts (left ∷ right ∷ []) (left' ∷ right' ∷ []) ≡ true
  two_tests left left' right right' h k =
      and_made (operands_match facts left left') (operands_match facts right right' && true) (test_of_operands left left' h) (one_test right right' k)

  bins : (op op' : OpCode) (dest dest' : ℕ) (left left' right right' : Operand) → op ≡ op' → OperandsMatch facts left left' → OperandsMatch facts right right'
      → ItemsMatch facts (Bin op dest left right) (Bin op' dest' left' right')
  bins op op' dest dest' left left' right right' e h k =
      subst (λ (o : OpCode). ItemsMatch facts (Bin op dest left right) (Bin o dest' left' right')) e (same_bin h k)

  loads : (dest dest' array array' : ℕ) (index index' : Operand) → array ≡ array' → OperandsMatch facts index index'
      → ItemsMatch facts (Load dest array index) (Load dest' array' index')
  loads dest dest' array array' index index' e h =
      subst (λ (a : ℕ). ItemsMatch facts (Load dest array index) (Load dest' a index')) e (same_load h)

  stores : (array array' : ℕ) (index index' value value' : Operand) → array ≡ array' → OperandsMatch facts index index' → OperandsMatch facts value value'
      → ItemsMatch facts (Store array index value) (Store array' index' value')
  stores array array' index index' value value' e h k =
      subst (λ (a : ℕ). ItemsMatch facts (Store array index value) (Store a index' value')) e (same_store h k)

  of_parts : (item other : Item) → same_kind item other ≡ true → each_matches facts (operands_of item) (operands_of other) ≡ true → ItemsMatch facts item other
  of_parts (Bin op dest left right) (Bin op' dest' left' right') e h =
      let two = two_operands left left' right right' h in
      bins op op' dest dest' left left' right right' (operator_of_number op op' (eqb-true (op_number op) (op_number op') e)) two.0 two.1
  of_parts (Copy dest from) (Copy dest' from') e h = same_copy (one_operand from from' h)
  of_parts (Load dest array index) (Load dest' array' index') e h = loads dest dest' array array' index index' (eqb-true array array' e) (one_operand index index' h)
  of_parts (Store array index value) (Store array' index' value') e h =
      let two = two_operands index index' value value' h in
      stores array array' index index' value value' (eqb-true array array' e) two.0 two.1
  of_parts (Print value) (Print value') e h = same_print (one_operand value value' h)
  of_parts (Read dest) (Read dest') e h = same_read
  of_parts (More dest) (More dest') e h = same_more
  of_parts _ _ e h = absurd (cc)

  pub items_of_test : (item other : Item) → items_match facts item other ≡ true → ItemsMatch facts item other
  items_of_test item other e =
      let both = and_true (same_kind item other) (each_matches facts (operands_of item) (operands_of other)) e in
      of_parts item other both.0 both.1

  with_parts : (item other : Item) → same_kind item other ≡ true → each_matches facts (operands_of item) (operands_of other) ≡ true
      → items_match facts item other ≡ true
  with_parts item other e h = and_made (same_kind item other) (each_matches facts (operands_of item) (operands_of other)) e h

  pub test_of_items : {item other : Item} → ItemsMatch facts item other → items_match facts item other ≡ true
  test_of_items (same_bin {op} {dest} {dest'} {left} {left'} {right} {right'} h k) =
      with_parts (Bin op dest left right) (Bin op dest' left' right') (eq-eqb (op_number op) (op_number op) refl) (two_tests left left' right right' h k)
  test_of_items (same_copy {dest} {dest'} {from} {from'} h) = with_parts (Copy dest from) (Copy dest' from') refl (one_test from from' h)
  test_of_items (same_load {array} {dest} {dest'} {index} {index'} h) =
      with_parts (Load dest array index) (Load dest' array index') (eq-eqb array array refl) (one_test index index' h)
  test_of_items (same_store {array} {index} {index'} {value} {value'} h k) =
      with_parts (Store array index value) (Store array index' value') (eq-eqb array array refl) (two_tests index index' value value' h k)
  test_of_items (same_print {value} {value'} h) = with_parts (Print value) (Print value') refl (one_test value value' h)
  test_of_items same_read = refl
  test_of_items same_more = refl
