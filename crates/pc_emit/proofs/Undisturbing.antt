-- Where names that are live together have different registers, no row writes one that is still needed.
use Rattle.std.proofs.Common.{◌≡◌, ◌≢◌, ℕ, List, [], ◌∷◌, ◌++◌, Option, Some, None, sym, ◌∙◌, ap, subst, inl, inr}
use Rattle.std.specs.Prelude.{true, nat_eq}
use Rattle.std.specs.List.{AllByRecursion, filter_map, cons_option}
use Rattle.std.proofs.lemmas.List.Elements.{filter_map-append}
use Rattle.pc_word.specs.Items.{dest_of}
use Rattle.pc_word.specs.Row.{Row, Then, Either, At_leaf, items_of}
use Rattle.pc_word.proofs.Lists.{all_front, all_back}
use Rattle.pc_window.specs.Names.{named}
use Rattle.pc_window.specs.Rebasing.{is_in}
use Rattle.pc_window.specs.Unwinding.{or_zero}
use Rattle.pc_window.proofs.Uses.{nat_eq-tells}
use Rattle.pc_automaton.specs.declared.automaton.AutomatonLeaf.{AutomatonLeaf}
use Rattle.pc_automaton.specs.Automaton.{AutomatonState, names_written}
use Rattle.pc_assign.specs.Uses.{row_uses}
use Rattle.pc_assign.specs.Apart.{Differ, HasAllowed, DestApart, KeepsApart, IsApart}
use Rattle.pc_emit.specs.Registers.{register_of}
use Rattle.pc_emit.proofs.Undisturbed.{IsUndisturbed, StaysUndisturbed}
use Rattle.pc_word.proofs.Truth.{or_true}

module _ (scratch : ℕ) (of : ℕ → Option ℕ) where
  -- names that share no register have different ones, if each has one
  differ : (dest name : ℕ) → HasAllowed scratch of dest → HasAllowed scratch of name → Differ of dest name → register_of of name ≢ register_of of dest
  differ dest name h k apart same =
      let one : register_of of name ≡ k.register = ap or_zero k.has in
      let other : register_of of dest ≡ h.register = ap or_zero h.has in
      let both : k.register ≡ h.register = sym one ∙ same ∙ other in
      apart h.register h.has (k.has ∙ ap (λ (n : ℕ). Some n) both)

  each_differs : (dest : ℕ) (above : List ℕ) → HasAllowed scratch of dest → AllByRecursion (HasAllowed scratch of) above → AllByRecursion (Differ of dest) above
      → AllByRecursion (λ name. register_of of name ≢ register_of of dest) above
  each_differs dest [] h all apart = tt
  each_differs dest (name ∷ above) h all apart = (differ dest name h all.0 apart.0, each_differs dest above h all.1 apart.1)

  used_differs : (rest : Row AutomatonLeaf) (dest : ℕ) (parameters : List ℕ) → HasAllowed scratch of dest → AllByRecursion (HasAllowed scratch of) parameters
      → AllByRecursion (λ parameter. row_uses rest parameter ≡ true → Differ of dest parameter) parameters
      → (name : ℕ) → is_in name parameters ≡ true → row_uses rest name ≡ true → register_of of name ≢ register_of of dest
  used_differs rest dest [] h all apart name there used = absurd (cc)
  used_differs rest dest (p ∷ parameters) h all apart name there used = elim (or_true (nat_eq name p) (is_in name parameters) there) [
    | inl e ↦ (let same : name ≡ p = nat_eq-tells name p e in
        subst (λ (n : ℕ). register_of of n ≢ register_of of dest) (sym same)
        (differ dest p h all.0 (apart.0 (subst (λ (n : ℕ). row_uses rest n ≡ true) same used))))
    | inr e ↦ used_differs rest dest parameters h all.1 apart.1 name e used
  ]

  module _ (parameters : List ℕ) (all : AllByRecursion (HasAllowed scratch of) parameters) where
    undisturbed : (above : List ℕ) (row : Row AutomatonLeaf) → AllByRecursion (HasAllowed scratch of) above → AllByRecursion (HasAllowed scratch of) (filter_map dest_of (items_of row))
        → KeepsApart of parameters above row → StaysUndisturbed (register_of of) parameters above row
    undisturbed above (Then item rest) has written apart =
        by_dest (dest_of item) written apart.0 apart.1 (λ above' has' written' apart'. undisturbed above' rest has' written' apart')
      where
        by_dest : (d : Option ℕ) → AllByRecursion (HasAllowed scratch of) (cons_option d (filter_map dest_of (items_of rest))) → DestApart of parameters above rest d
            → KeepsApart of parameters (named d above) rest
            → ((above' : List ℕ) → AllByRecursion (HasAllowed scratch of) above' → AllByRecursion (HasAllowed scratch of) (filter_map dest_of (items_of rest)) → KeepsApart of parameters above' rest
            → StaysUndisturbed (register_of of) parameters above' rest)
            → IsUndisturbed (register_of of) parameters above rest d × StaysUndisturbed (register_of of) parameters (named d above) rest
        by_dest (Some dest) written' here below next = (
          record { defined = each_differs dest above written'.0 has here.1; used = used_differs rest dest parameters written'.0 all here.0 },
          next (dest ∷ above) (written'.0, has) written'.1 below,
        )
        by_dest None written' here below next = (tt, next above has written' below)
    undisturbed above (Either on p q) has written apart = (
      undisturbed above p has (all_front (HasAllowed scratch of) (filter_map dest_of (items_of p)) (filter_map dest_of (items_of q)) (parted p q written)) apart.0,
      undisturbed above q has (all_back (HasAllowed scratch of) (filter_map dest_of (items_of p)) (filter_map dest_of (items_of q)) (parted p q written)) apart.1,
    )
      where
        parted : (p q : Row AutomatonLeaf) → AllByRecursion (HasAllowed scratch of) (filter_map dest_of (items_of p ++ items_of q))
            → AllByRecursion (HasAllowed scratch of) (filter_map dest_of (items_of p) ++ filter_map dest_of (items_of q))
        parted p q h = subst (AllByRecursion (HasAllowed scratch of)) (filter_map-append dest_of (items_of p) (items_of q)) h
    undisturbed above (At_leaf leaf) has written apart = tt

-- the rows of a state
pub stays_undisturbed : (scratch : ℕ) (of : ℕ → Option ℕ) (state : AutomatonState) → IsApart scratch of state → StaysUndisturbed (register_of of) state.parameters [] state.row
stays_undisturbed scratch of state apart =
    undisturbed scratch of state.parameters (all_front (HasAllowed scratch of) state.parameters (names_written state.row) apart.allowed) [] state.row tt
    (all_back (HasAllowed scratch of) state.parameters (names_written state.row) apart.allowed) apart.row
