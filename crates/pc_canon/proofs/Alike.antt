-- Lists that are alike place by place; and what is alike has the same value in states that correspond.
use Rattle.std.proofs.Common.{◌≡◌, ℕ, List, [], ◌∷◌, refl, ap}
use Rattle.std.specs.Prelude.{Bool, true, false, nat_eq, if◌then◌else◌}
use Rattle.pc_word.specs.declared.item.Operand.{Operand}
use Rattle.pc_word.specs.declared.item.Operand.TheVariants.{Name, Lit}
use Rattle.pc_word.specs.State.{State}
use Rattle.pc_word.specs.Items.{operand_value}
use Rattle.pc_window.specs.declared.home.Home.{Home}
use Rattle.pc_window.specs.Tree.{home_of, home_state}
use Rattle.pc_canon.specs.Pairs.{Pair, OperandsAlike, HomesAlike, Correspond}

-- two lists have as many elements, related place by place
pub data EachAlike {A B : Type 0} (Related : A → B → Type 0) : List A → List B → Type 0 where
  no_more : EachAlike Related [] []
  one_more : {a : A} {b : B} {xs : List A} {ys : List B} → Related a b → EachAlike Related xs ys → EachAlike Related (a ∷ xs) (b ∷ ys)

-- ---- operands and homes

pub operands_alike : (names : List Pair) (s t : State) (a b : Operand) → Correspond names s t → OperandsAlike names a b
    → operand_value s.names a ≡ operand_value t.names b
operands_alike names s t (Name x) (Name y) c h = c.same_names x y h
operands_alike names s t (Lit a) (Lit b) c h = h
operands_alike names s t (Name x) (Lit b) c h = absurd h
operands_alike names s t (Lit a) (Name y) c h = absurd h

homes_alike : (names : List Pair) (s t : State) (homes homes' : List Home) → Correspond names s t → HomesAlike names homes homes'
    → (x : ℕ) → (home_state s homes).names x ≡ (home_state t homes').names x
homes_alike names s t [] [] c h x = refl
homes_alike names s t (home ∷ homes) (home' ∷ homes') c h x =
    by_variable (nat_eq home.variable x) (nat_eq home'.variable x) (ap (λ (v : ℕ). nat_eq v x) h.0) (homes_alike names s t homes homes' c h.2 x)
  where
    by_variable : (b b' : Bool) → b ≡ b' → operand_value s.names (home_of homes x) ≡ operand_value t.names (home_of homes' x)
        → operand_value s.names (if b then home.value else home_of homes x) ≡ operand_value t.names (if b' then home'.value else home_of homes' x)
    by_variable true true e next = operands_alike names s t home.value home'.value c h.1
    by_variable false false e next = next
    by_variable true false e next = absurd (cc)
    by_variable false true e next = absurd (cc)
homes_alike names s t [] (home' ∷ homes') c h x = absurd h
homes_alike names s t (home ∷ homes) [] c h x = absurd h

-- the states in which regions are entered are equal
pub home_states_alike : (names : List Pair) (s t : State) (homes homes' : List Home) → Correspond names s t → HomesAlike names homes homes'
    → home_state s homes ≡ home_state t homes'
home_states_alike names s t homes homes' c h = λ i. record {
  names = λ x. homes_alike names s t homes homes' c h x i;
  cells = c.same_cells i;
  input = c.same_input i;
}
