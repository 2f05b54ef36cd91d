-- Values that are passed to parameters: the next state's run goes on as it would have with all names.
use Rattle.std.proofs.Common.{◌≡◌, ℕ, List, [], ◌∷◌, refl, sym, ◌∙◌, ap}
use Rattle.std.specs.Prelude.{ℤ, Bool, true, false, not, ◌&&◌, if◌then◌else◌, nat_eq}
use Rattle.std.proofs.lemmas.Bool.{eqb-true}
use Rattle.pc_word.specs.declared.item.Operand.{Operand}
use Rattle.pc_word.specs.State.{State}
use Rattle.pc_word.specs.Items.{operand_value}
use Rattle.pc_automaton.specs.AutomatonRun.{passed, passed_state}
use Rattle.pc_canon.specs.Pairs.{Pair, corresponds, ones, others, themselves, operands_for, ArgumentsAlike, Correspond}
use Rattle.pc_canon.proofs.Alike.{operands_alike}

-- ---- what is passed

one_passed : (b b' c : Bool) (u v w : ℤ) → (if b then b' else (not b' && c)) ≡ true → (b ≡ true → u ≡ v) → (c ≡ true → u ≡ w)
    → u ≡ (if b' then v else w)
one_passed true true c u v w h p q = p refl
one_passed true false c u v w h p q = absurd (cc)
one_passed false true c u v w h p q = absurd (cc)
one_passed false false c u v w h p q = q h

-- each parameter has the value of the name that corresponds to it
passed_corresponds : (names : ℕ → ℤ) (pairs : List Pair) (x y : ℕ) → corresponds pairs x y ≡ true
    → names x ≡ passed names (others pairs) (operands_for (ones pairs)) y
passed_corresponds names [] x y h = absurd (cc)
passed_corresponds names (pair ∷ pairs) x y h =
    one_passed (nat_eq pair.one x) (nat_eq pair.other y) (corresponds pairs x y) (names x) (names pair.one)
    (passed names (others pairs) (operands_for (ones pairs)) y) h
    (λ same. ap (λ (z : ℕ). names z) (sym (eqb-true pair.one x same)))
    (λ k. passed_corresponds names pairs x y k)

pub state_corresponds : (s : State) (pairs : List Pair) → Correspond pairs s (passed_state s (others pairs) (operands_for (ones pairs)))
state_corresponds s pairs = record { same_names = λ x y h. passed_corresponds s.names pairs x y h; same_cells = refl; same_input = refl }

-- ---- the same from states that correspond

passed_same : (names : List Pair) (s t : State) → Correspond names s t → (parameters : List ℕ) (one other : List Operand)
    → ArgumentsAlike names one other
    → (x : ℕ) → passed s.names parameters one x ≡ passed t.names parameters other x
passed_same names s t c [] [] [] h x = refl
passed_same names s t c [] (a ∷ one) (b ∷ other) h x = refl
passed_same names s t c (parameter ∷ parameters) [] [] h x = refl
passed_same names s t c (parameter ∷ parameters) (a ∷ one) (b ∷ other) h x =
    by (nat_eq parameter x) (operands_alike names s t a b c h.0) (passed_same names s t c parameters one other h.1 x)
  where
    by : (q : Bool) → operand_value s.names a ≡ operand_value t.names b → passed s.names parameters one x ≡ passed t.names parameters other x
        → (if q then operand_value s.names a else passed s.names parameters one x) ≡
        (if q then operand_value t.names b else passed t.names parameters other x)
    by true h k = h
    by false h k = k
passed_same names s t c parameters [] (b ∷ other) h x = absurd h
passed_same names s t c parameters (a ∷ one) [] h x = absurd h

pub states_same : (names : List Pair) (s t : State) → Correspond names s t → (parameters : List ℕ) (one other : List Operand)
    → ArgumentsAlike names one other
    → passed_state s parameters one ≡ passed_state t parameters other
states_same names s t c parameters one other h =
    λ i. record { names = λ x. passed_same names s t c parameters one other h x i; cells = c.same_cells i; input = c.same_input i }

-- names that correspond to themselves are the same
pub themselves_same : (xs : List ℕ) (x y : ℕ) → corresponds (themselves xs) x y ≡ true → x ≡ y
themselves_same [] x y h = absurd (cc)
themselves_same (z ∷ zs) x y h = by (nat_eq z x) (nat_eq z y) (corresponds (themselves zs) x y) refl refl h (themselves_same zs x y)
  where
    by : (b b' c : Bool) → nat_eq z x ≡ b → nat_eq z y ≡ b' → (if b then b' else (not b' && c)) ≡ true → (c ≡ true → x ≡ y) → x ≡ y
    by true true c p q h k = sym (eqb-true z x p) ∙ eqb-true z y q
    by true false c p q h k = absurd (cc)
    by false true c p q h k = absurd (cc)
    by false false c p q h k = k h
