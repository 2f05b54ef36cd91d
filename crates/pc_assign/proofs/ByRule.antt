-- What was chosen is what the rule says.
use Rattle.std.proofs.Common.{◌≡◌, ℕ, zero, suc, ◌+◌, ◌<◌, ◌≤◌, max, Bool, true, false, ◌||◌, ◌⊎◌, inl, inr, List, [], ◌∷◌, ◌++◌, length, take}
use Rattle.std.proofs.Common.{Option, Some, None, refl, sym, ◌∙◌, ap, subst, arith}
use Rattle.std.specs.Prelude.{nat_eq, slice_get, count_by, IsSomeAnd, MatchBool}
use Rattle.std.specs.List.{IsDistinct, AllByRecursion, cons_option}
use Rattle.std.proofs.lemmas.List.{append_cancel_left, append_assoc}
use Rattle.pc_word.specs.Row.{Row}
use Rattle.pc_word.proofs.Truth.{decide_le}
use Rattle.pc_window.specs.Names.{named}
use Rattle.pc_window.specs.Rebasing.{is_in}
use Rattle.pc_automaton.specs.declared.automaton.AutomatonLeaf.{AutomatonLeaf}
use Rattle.pc_automaton.specs.Automaton.{AutomatonState, names_written}
use Rattle.pc_assign.specs.Uses.{row_uses}
use Rattle.pc_assign.specs.Pressure.{definitions_with, item_pressure, row_pressure, IsLow}
use Rattle.pc_assign.specs.Assigned.{state_names, Parameters, StateByRule, is_register, one_has, used_has, IsLeast, IsParameterChoice, passed_at}
use Rattle.pc_assign.specs.Assigned.{ParametersByRule, IsDefinitionChoice, First_choice, Second_choice, DestByRule, RowByRule}
use Rattle.pc_assign.specs.models.Choosing.{IsLeastAbsent, IsParameterTaken, AreParameters, used_holds, AreMost, AreHeld, IsChosen, Of_taken}
use Rattle.pc_assign.specs.models.Choosing.{Of_needed, AreChosen, Leaf_chosen, None_chosen, One_chosen, Sides_chosen}
use Rattle.pc_assign.proofs.Counting.{members, members_or, members_same, members_one, members_used, members_in, members_all, members_none}
use Rattle.pc_assign.proofs.Gives.{GivesEach, one_has_is, used_has_is, gives_front, gives_back, gives_take, length_take, gives_at, beside_gives}
use Rattle.pc_assign.proofs.Gives.{beside_none}
use Rattle.pc_assign.proofs.Held.{get_more}
use Rattle.pc_assign.specs.Stored.{beside}
use Rattle.pc_automaton.proofs.Checked.{sides_written}

-- ---- the least

-- where not all registers below scratch are taken, the least that is not is one of these
pub least_allowed : (scratch : ℕ) (taken : ℕ → Bool) (register : ℕ) → members taken scratch < scratch → IsLeastAbsent scratch taken register → IsLeast scratch taken register
least_allowed scratch taken register few h = by (decide_le scratch register)
  where
    by : (scratch ≤ register) ⊎ (register < scratch) → IsLeast scratch taken register
    by (inl full) =
        let all : members taken scratch ≡ scratch = members_all taken scratch (λ x k. h.least x (omega arith)) in absurd (omega (arith, all))
    by (inr below) = record { below = below; free = h.free below; least = h.least }

least_seen : (scratch : ℕ) (f g : ℕ → Bool) (register : ℕ) → ((x : ℕ) → f x ≡ g x) → IsLeast scratch f register → IsLeast scratch g register
least_seen scratch f g register same h = subst (λ (set : ℕ → Bool). IsLeast scratch set register) (λ i x. same x i) h

-- ---- parameters

parameter_choice : (scratch : ℕ) (taken : ℕ → Bool) (passed : Option ℕ) (register : ℕ) → members taken scratch < scratch
    → IsParameterTaken scratch taken passed register → IsParameterChoice scratch taken passed register
parameter_choice scratch taken None register few h = least_allowed scratch taken register few h
parameter_choice scratch taken (Some passed) register few h = by (taken passed) h
  where
    by : (b : Bool) → MatchBool b (IsLeastAbsent scratch taken register) (register ≡ passed) → MatchBool b (IsLeast scratch taken register) (register ≡ passed)
    by true k = least_allowed scratch taken register few k
    by false k = k

length_of_take : (xs : List ℕ) (n : ℕ) → length (take n xs) ≤ n
length_of_take xs zero = omega arith
length_of_take [] (suc n) = omega arith
length_of_take (x ∷ xs) (suc n) = omega (arith, length_of_take xs n)

within : (xs : List ℕ) (n x : ℕ) → slice_get xs n ≡ Some x → n < length xs
within [] n x e = absurd (cc)
within (y ∷ xs) zero x e = omega arith
within (y ∷ xs) (suc n) x e = omega (arith, within xs n x e)

pub parameters_by_rule : (scratch : ℕ) (of : ℕ → Option ℕ) (passed : List (Option ℕ)) (parameters held : List ℕ) → GivesEach of parameters held
    → length held ≡ length parameters → length parameters ≤ scratch → AreParameters scratch passed held → ParametersByRule scratch of passed parameters
parameters_by_rule scratch of passed parameters held gives as_many few chosen at name here =
    let it = gives_at of parameters held at name gives here in
    let before = λ (q : ℕ). sym (one_has_is of (take at parameters) (take at held) q (gives_take of parameters held at gives)
    (length_take held parameters at as_many)) in
    let small : members (λ q. is_in q (take at held)) scratch < scratch =
    omega (arith, members_in (take at held) scratch, length_of_take held at, within parameters at name here) in
    let choice = parameter_choice scratch (λ q. is_in q (take at held)) (passed_at (slice_get passed at)) it.0 small (chosen at it.0 it.1) in
    subst (λ (found : Option ℕ). IsSomeAnd found (IsParameterChoice scratch (one_has of (take at parameters)) (passed_at (slice_get passed at)))) (sym it.2)
    (subst (λ (set : ℕ → Bool). IsParameterChoice scratch set (passed_at (slice_get passed at)) it.0) (λ i q. before q i) choice)

-- ---- what a row's choices add

pub record Added (row : Row AutomatonLeaf) (old new : List ℕ) : Type 0 where
  pub added : List ℕ
  pub is : new ≡ old ++ added
  pub as_many : length added ≡ length (names_written row)

at_end : (xs : List ℕ) → xs ≡ xs ++ []
at_end [] = refl
at_end (x ∷ xs) = ap (λ (ys : List ℕ). x ∷ ys) (at_end xs)

pub length_both : (xs ys : List ℕ) → length (xs ++ ys) ≡ length xs + length ys
length_both [] ys = omega arith
length_both (x ∷ xs) ys = omega (arith, length_both xs ys)

module _ (scratch : ℕ) (parameters held : List ℕ) where
  pub chosen_added : (above : ℕ → Bool) (row : Row AutomatonLeaf) (old new : List ℕ) → AreChosen scratch parameters held above row old new → Added row old new
  chosen_added above row old new Leaf_chosen = record { added = []; is = at_end old; as_many = refl }
  chosen_added above row old new (None_chosen {item = item} {rest = rest} none h) =
      let below = chosen_added above rest old new h in
      record {
        added = below.added;
        is = below.is;
        as_many = below.as_many ∙ ap
            (λ (found : Option ℕ). length (cons_option found (names_written rest))) (sym none);
      }
  chosen_added above row old new (One_chosen {below = under} {item = item} {dest = dest} {register = register} {rest = rest} some choice with h) =
      let below = chosen_added under rest (old ++ register ∷ []) new h in
      record {
        added = register ∷ below.added;
        is = below.is ∙ append_assoc old (register ∷ []) below.added;
        as_many = ap suc below.as_many ∙ ap (λ (found : Option ℕ). length (cons_option found (names_written rest))) (sym some);
      }
  chosen_added above row old new (Sides_chosen {on_yes = on_yes} {on_no = on_no} {between = between} h k) =
      let one = chosen_added above on_yes old between h in
      let two = chosen_added above on_no between new k in
      record {
        added = one.added ++ two.added;
        is = two.is ∙ ap (λ (xs : List ℕ). xs ++ two.added) one.is ∙ append_assoc old one.added two.added;
        as_many =
            let sum : length (names_written on_yes ++ names_written on_no) ≡ length (names_written on_yes) + length (names_written on_no) =
            length_both (names_written on_yes) (names_written on_no) in
            let same : length (one.added ++ two.added) ≡ length (names_written on_yes ++ names_written on_no) =
            omega (arith, length_both one.added two.added, one.as_many, two.as_many, sum) in
            same ∙ ap length (sym (sides_written on_yes on_no));
      }

  -- ---- defined names

  both_low : (a b n : ℕ) → max a b ≤ n → (a ≤ n) × (b ≤ n)
  both_low a b n h = (omega arith, omega arith)

  choice_of : (of : ℕ → Option ℕ) (names : List ℕ) (above : ℕ → Bool) (rest : Row AutomatonLeaf) (register depth : ℕ) → GivesEach of parameters held
      → length held ≡ length parameters → ((q : ℕ) → one_has of names q ≡ above q) → members above scratch ≤ depth
      → suc depth + count_by (row_uses rest) parameters ≤ scratch
      → IsChosen scratch (λ other. is_in other held || above other) (λ other. used_holds (row_uses rest) parameters held other || above other) register
      → IsDefinitionChoice scratch (λ q. one_has of parameters q || one_has of names q) (λ q. used_has (row_uses rest) of parameters q || one_has of names q) register
  choice_of of names above rest register depth gives as_many over few room (Of_taken below h) =
      First_choice (least_seen scratch (λ other. is_in other held || above other) (λ q. one_has of parameters q || one_has of names q) register
      (λ q i. sym (one_has_is of parameters held q gives as_many) i || sym (over q) i)
      (record { below = below; free = h.free below; least = h.least }))
  choice_of of names above rest register depth gives as_many over few room (Of_needed full h) =
      let used = used_holds (row_uses rest) parameters held in
      let small : members (λ other. used other || above other) scratch < scratch =
      omega (arith, members_or used above scratch, members_used (row_uses rest) parameters held scratch, few, room) in
      Second_choice
      (λ q below. (λ i. one_has_is of parameters held q gives as_many i || over q i) ∙ full.least q below)
      (least_seen scratch (λ other. used other || above other) (λ q. used_has (row_uses rest) of parameters q || one_has of names q) register
      (λ q i. sym (used_has_is (row_uses rest) of parameters held q gives) i || sym (over q) i)
      (least_allowed scratch (λ other. used other || above other) register small h))

  one_higher : (above below : ℕ → Bool) (register depth : ℕ) → ((q : ℕ) → below q ≡ (nat_eq q register || above q)) → members above scratch ≤ depth
      → members below scratch ≤ suc depth
  one_higher above below register depth with few =
      added_up (members below scratch) (members (λ q. nat_eq q register || above q) scratch) (members (λ x. nat_eq x register) scratch)
      (members above scratch) depth
      (members_same below (λ q. nat_eq q register || above q) scratch with) (members_or (λ x. nat_eq x register) above scratch)
      (members_one register scratch) few
    where
      added_up : (a b c d e : ℕ) → a ≡ b → b ≤ c + d → c ≤ 1 → d ≤ e → a ≤ suc e
      added_up a b c d e same sum one few = omega arith

  pub row_by_rule : (of : ℕ → Option ℕ) (names : List ℕ) (above : ℕ → Bool) (row : Row AutomatonLeaf) (old new added : List ℕ) (depth : ℕ)
      → GivesEach of parameters held → length held ≡ length parameters → ((q : ℕ) → one_has of names q ≡ above q) → members above scratch ≤ depth
      → row_pressure parameters depth row ≤ scratch → new ≡ old ++ added → GivesEach of (names_written row) added
      → AreChosen scratch parameters held above row old new → RowByRule scratch of parameters names row
  row_by_rule of names above row old new added depth gives as_many over few room is each Leaf_chosen = tt
  row_by_rule of names above row old new added depth gives as_many over few room is each (None_chosen {item = item} {rest = rest} none h) =
      let under : row_pressure parameters depth rest ≤ scratch =
      omega (
        arith,
        subst (λ (found : Option ℕ). max (item_pressure parameters depth rest found)
            (row_pressure parameters (definitions_with found depth) rest) ≤ scratch) none room,
      ) in
      let given = subst (λ (found : Option ℕ). GivesEach of (cons_option found (names_written rest)) added) none each in
      subst (λ (found : Option ℕ). DestByRule scratch of parameters names rest found × RowByRule scratch of parameters (named found names) rest) (sym none)
      (tt, row_by_rule of names above rest old new added depth gives as_many over few under is given h)
  row_by_rule of names above row old new added depth gives as_many over few room is each
      (One_chosen {below = below} {item = item} {dest = dest} {register = register} {rest = rest} some choice with h) =
      let low : max (suc depth + count_by (row_uses rest) parameters) (row_pressure parameters (suc depth) rest) ≤ scratch =
      subst (λ (found : Option ℕ). max (item_pressure parameters depth rest found)
      (row_pressure parameters (definitions_with found depth) rest) ≤ scratch) some room in
      let parts = both_low (suc depth + count_by (row_uses rest) parameters) (row_pressure parameters (suc depth) rest) scratch low in
      let more = chosen_added below rest (old ++ register ∷ []) new h in
      let same : added ≡ register ∷ more.added = append_cancel_left old added (register ∷ more.added)
      (sym is ∙ more.is ∙ append_assoc old (register ∷ []) more.added) in
      let given : GivesEach of (dest ∷ names_written rest) (register ∷ more.added) =
      subst (λ (xs : List ℕ). GivesEach of (dest ∷ names_written rest) xs) same
      (subst (λ (found : Option ℕ). GivesEach of (cons_option found (names_written rest)) added) some each) in
      let higher : members below scratch ≤ suc depth =
      one_higher above below register depth with few in
      subst (λ (found : Option ℕ). DestByRule scratch of parameters names rest found × RowByRule scratch of parameters (named found names) rest) (sym some) (
        subst (λ (found : Option ℕ). IsSomeAnd found (IsDefinitionChoice scratch (λ q. one_has of parameters q || one_has of names q)
            (λ q. used_has (row_uses rest) of parameters q || one_has of names q))) (sym given.0)
            (choice_of of names above rest register depth gives as_many over few parts.0 choice),
        row_by_rule of (dest ∷ names) below rest (old ++ register ∷ []) new more.added (suc depth) gives as_many
            (λ q. (λ i. is_register q (given.0 i) || over q i) ∙ sym (with q)) higher parts.1 more.is given.1 h,
      )
  row_by_rule of names above row old new added depth gives as_many over few room is each
      (Sides_chosen {on_yes = on_yes} {on_no = on_no} {between = between} h k) =
      let sides = both_low (row_pressure parameters depth on_yes) (row_pressure parameters depth on_no) scratch room in
      let one = chosen_added above on_yes old between h in
      let two = chosen_added above on_no between new k in
      let same : added ≡ one.added ++ two.added =
      append_cancel_left old added (one.added ++ two.added)
      (sym is ∙ two.is ∙ ap (λ (xs : List ℕ). xs ++ two.added) one.is ∙ append_assoc old one.added two.added) in
      let given : GivesEach of (names_written on_yes ++ names_written on_no) (one.added ++ two.added) =
      subst (λ (xs : List ℕ). GivesEach of (names_written on_yes ++ names_written on_no) xs) same
      (subst (λ (ns : List ℕ). GivesEach of ns added) (sides_written on_yes on_no) each) in (
        row_by_rule of names above on_yes old between one.added depth gives as_many over few sides.0 one.is
            (gives_front of (names_written on_yes) (names_written on_no) one.added two.added one.as_many given) h,
        row_by_rule of names above on_no between new two.added depth gives as_many over few sides.1 two.is
            (gives_back of (names_written on_yes) (names_written on_no) one.added two.added one.as_many given) k,
      )

  -- no register that is chosen is above scratch
  push_most : (rs : List ℕ) (r : ℕ) → AreMost scratch rs → r ≤ scratch → AreMost scratch (rs ++ r ∷ [])
  push_most rs r h k at x e = elim (get_more rs r at x e) [
    | inl old ↦ h at x old.1
    | inr new ↦ subst (λ (y : ℕ). y ≤ scratch) (sym new.1) k
  ]

  chosen_few : (taken needed : ℕ → Bool) (register : ℕ) → IsChosen scratch taken needed register → register ≤ scratch
  chosen_few taken needed register (Of_taken below h) = h.most
  chosen_few taken needed register (Of_needed full h) = h.most

  pub chosen_most : (above : ℕ → Bool) (row : Row AutomatonLeaf) (old new : List ℕ) → AreMost scratch old → AreChosen scratch parameters held above row old new
      → AreMost scratch new
  chosen_most above row old new most Leaf_chosen = most
  chosen_most above row old new most (None_chosen {rest = rest} none h) = chosen_most above rest old new most h
  chosen_most above row old new most (One_chosen {below = under} {register = register} {rest = rest} some choice with h) =
      chosen_most under rest (old ++ register ∷ []) new
      (push_most old register most
      (chosen_few (λ other. is_in other held || above other)
      (λ other. used_holds (row_uses rest) parameters held other || above other) register choice)) h
  chosen_most above row old new most (Sides_chosen {on_yes = on_yes} {on_no = on_no} {between = between} h k) =
      chosen_most above on_no between new (chosen_most above on_yes old between most h) k

-- ---- a state

first_gives : (of : ℕ → Option ℕ) (xs : List ℕ) → GivesEach of xs xs → AllByRecursion (λ x. of x ≡ Some x) xs
first_gives of [] h = tt
first_gives of (x ∷ xs) h = (h.0, first_gives of xs h.1)

parameters_are : (scratch number : ℕ) (of : ℕ → Option ℕ) (passed : List (Option ℕ)) (parameters held : List ℕ) → GivesEach of parameters held
    → length held ≡ length parameters
    → length parameters ≤ scratch → AreHeld scratch number passed parameters held → Parameters scratch number of passed parameters
parameters_are scratch zero of passed parameters held gives as_many few is = first_gives of parameters
    (subst (λ (rs : List ℕ). GivesEach of parameters rs) is gives)
parameters_are scratch (suc before) of passed parameters held gives as_many few chosen = parameters_by_rule scratch of passed parameters held gives as_many few chosen

-- the names of a state have registers by the rule
pub state_by_rule : (scratch number : ℕ) (passed : List (Option ℕ)) (state : AutomatonState) (keys held registers : List ℕ) → keys ≡ state_names state
    → IsDistinct nat_eq (state_names state)
    → IsLow scratch state → length held ≡ length state.parameters → AreHeld scratch number passed state.parameters held
    → AreChosen scratch state.parameters held (λ q. false) state.row held registers → StateByRule scratch number passed (beside keys registers) state
state_by_rule scratch number passed state keys held registers are distinct low as_many is chosen =
    let parts = both_less (length state.parameters) (row_pressure state.parameters 0 state.row) low in
    let more = chosen_added scratch state.parameters held (λ q. false) state.row held registers chosen in
    let long : length registers ≡ length (state_names state) =
    ap length more.is ∙ length_both held more.added
    ∙ (λ i. as_many i + more.as_many i) ∙ sym (length_both state.parameters (names_written state.row)) in
    let gives : GivesEach (beside keys registers) (state_names state) registers =
    subst (λ (ks : List ℕ). GivesEach (beside ks registers) (state_names state) registers) (sym are)
    (beside_gives (state_names state) registers distinct long) in
    let split : GivesEach (beside keys registers) (state.parameters ++ names_written state.row) (held ++ more.added) =
    subst (λ (rs : List ℕ). GivesEach (beside keys registers) (state_names state) rs) more.is gives in
    let of_parameters = gives_front (beside keys registers) state.parameters (names_written state.row) held more.added as_many split in
    let of_row = gives_back (beside keys registers) state.parameters (names_written state.row) held more.added as_many split in
    record {
      parameters = parameters_are scratch number (beside keys registers) passed state.parameters held of_parameters as_many parts.0 is;
      row = row_by_rule scratch state.parameters held (beside keys registers) [] (λ q. false) state.row held registers more.added 0 of_parameters as_many
          (λ q. refl) (omega (arith, members_none (λ q. false) scratch (λ q. refl))) parts.1 more.is of_row chosen;
      others = λ name absent. beside_none keys registers name (ap (is_in name) are ∙ absent);
    }
  where
    both_less : (a b : ℕ) → max a b ≤ scratch → (a ≤ scratch) × (b ≤ scratch)
    both_less a b h = (omega arith, omega arith)
