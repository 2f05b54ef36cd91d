-- Registers of defined names, along a row.
use Rattle.std.proofs.Common.{◌≡◌, ℕ, Bool, ◌||◌, List, [], ◌∷◌, ◌++◌, Some, None, Result, Ok, Err, sym, subst}
use Rattle.std.specs.Prelude.{nat_eq, OnOk}
use Rattle.pc_word.specs.declared.item.Item.{Item}
use Rattle.pc_word.specs.declared.item.Operand.{Operand}
use Rattle.pc_word.specs.Row.{Row, Then, Either, At_leaf}
use Rattle.pc_word.specs.Items.{dest_of}
use Rattle.pc_window.specs.Rebasing.{is_in}
use Rattle.pc_automaton.specs.declared.automaton.AutomatonLeaf.{AutomatonLeaf}
use Rattle.pc_assign.specs.Uses.{row_uses}
use Rattle.pc_assign.specs.models.Choosing.{used_holds, IsChosen, AreChosen, Leaf_chosen, None_chosen, One_chosen, Sides_chosen}

module _ (scratch : ℕ) (parameters held : List ℕ) where
  pub leaf_given : (above : ℕ → Bool) (whole : Row AutomatonLeaf) (leaf : AutomatonLeaf) (old : List ℕ)
      → whole ≡ At_leaf leaf → AreChosen scratch parameters held above whole old old
  leaf_given above whole leaf old is = subst (λ (row : Row AutomatonLeaf). AreChosen scratch parameters held above row old old) (sym is) Leaf_chosen

  pub none_given : {E : Type 0} (above : ℕ → Bool) {whole rest : Row AutomatonLeaf} {item : Item} (old new : List ℕ) (result : Result (Unit {0}) E)
      → whole ≡ Then item rest → dest_of item ≡ None → OnOk result (AreChosen scratch parameters held above rest old new)
      → OnOk result (AreChosen scratch parameters held above whole old new)
  none_given above old new (Ok done) is none h =
      subst (λ (row : Row AutomatonLeaf). AreChosen scratch parameters held above row old new) (sym is) (None_chosen none h)
  none_given above old new (Err e) is none h = tt

  pub one_given : {E : Type 0} (above below : ℕ → Bool) {whole rest : Row AutomatonLeaf} {item : Item} {dest : ℕ} (register : ℕ)
      (old mid new : List ℕ) (result : Result (Unit {0}) E)
      → whole ≡ Then item rest → dest_of item ≡ Some dest
      → IsChosen scratch (λ other. is_in other held || above other) (λ other. used_holds (row_uses rest) parameters held other || above other) register
      → ((other : ℕ) → below other ≡ (nat_eq other register || above other)) → mid ≡ old ++ register ∷ []
      → OnOk result (AreChosen scratch parameters held below rest mid new) → OnOk result (AreChosen scratch parameters held above whole old new)
  one_given above below {rest = rest} register old mid new (Ok done) is some chosen with pushed h =
      subst (λ (row : Row AutomatonLeaf). AreChosen scratch parameters held above row old new) (sym is)
      (One_chosen some chosen with (subst (λ (xs : List ℕ). AreChosen scratch parameters held below rest xs new) pushed h))
  one_given above below register old mid new (Err e) is some chosen with pushed h = tt

  pub sides_given : {E : Type 0} (above : ℕ → Bool) {whole on_yes on_no : Row AutomatonLeaf} {on : Operand} (old mid new : List ℕ)
      (result : Result (Unit {0}) E)
      → whole ≡ Either on on_yes on_no → AreChosen scratch parameters held above on_yes old mid → OnOk result (AreChosen scratch parameters held above on_no mid new)
      → OnOk result (AreChosen scratch parameters held above whole old new)
  sides_given above old mid new (Ok done) is first h =
      subst (λ (row : Row AutomatonLeaf). AreChosen scratch parameters held above row old new) (sym is) (Sides_chosen first h)
  sides_given above old mid new (Err e) is first h = tt
