-- Two cuts of one graph take the same trees, and name the same regions.
use Rattle.std.proofs.Common.{◌≡◌, inl, inr, ℕ, zero, suc, ◌<◌, List, [], ◌∷◌, ◌++◌, Some, refl, sym, ◌∙◌, ap, subst, arith}
use Rattle.std.specs.Prelude.{slice_get}
use Rattle.pc_word.specs.declared.item.Item.{Item}
use Rattle.pc_word.specs.declared.item.Operand.{Operand}
use Rattle.pc_word.specs.declared.item.TrapKind.{TrapKind}
use Rattle.pc_word.proofs.Truth.{decide_le}
use Rattle.pc_flow.specs.declared.node.FlowNode.TheVariants.{Op, Test, Trap}
use Rattle.pc_flow.specs.FlowGraph.{FlowGraph}
use Rattle.pc_table.specs.Table.{TableTree, Does, Asks, Next, Traps_here}
use Rattle.pc_regions.specs.Cut.{IsTreeOf, An_item, A_test, A_stop, A_trap, IsBehind, Taken, Not_taken, AreMet, None_met, Known, Met, nexts_of}
use Rattle.pc_regions.proofs.Members.{Once}

-- names after others, parted
pub met_parted : (known after : ℕ) (one other : List ℕ) → AreMet known (one ++ other) after → (mid : ℕ) × AreMet known one mid × AreMet mid other after
met_parted known after [] other h = (known, None_met, h)
met_parted known after (_ ∷ names) other (Known less rest) = let parts = met_parted known after names other rest in (parts.0, Known less parts.1, parts.2)
met_parted known after (_ ∷ names) other (Met rest) = let parts = met_parted (suc known) after names other rest in (parts.0, Met parts.1, parts.2)

-- no tree finds room where there is none
no_room : (flow : FlowGraph) (Head : ℕ → Type 0) (heads : List ℕ) (room at left : ℕ) (tree : TableTree) → IsTreeOf flow Head heads room at tree left → room ≡ zero → ⊥
no_room flow Head heads _ at left tree (An_item here behind) e = cc
no_room flow Head heads _ at left tree (A_test here one other) e = cc
no_room flow Head heads _ at left tree (A_stop here) e = cc
no_room flow Head heads _ at left tree (A_trap here) e = cc

module _ (flow : FlowGraph) (P Q : ℕ → Type 0) (forth : (at : ℕ) → P at → Q at) (back : (at : ℕ) → Q at → P at)
    (heads others : List ℕ) (once : Once heads) (once_too : Once others) where
  -- the heads below a number are the same
  abbrev pub SameBelow : ℕ → Type 0
  SameBelow known = (i : ℕ) → i < known → slice_get heads i ≡ slice_get others i

  -- two trees are the same, and so is what is left and known after them
  pub record SameTree (tree other : TableTree) (left rest after last : ℕ) : Type 0 where
    pub tree_is : tree ≡ other
    pub left_is : left ≡ rest
    pub after_is : after ≡ last
    pub below : SameBelow after

  -- ---- one name

  pub record SameName (one other after last : ℕ) : Type 0 where
    pub name_is : one ≡ other
    pub after_is : after ≡ last
    pub below : SameBelow after

  -- a known name and another for the same head
  known_name : (known one other to : ℕ) → one < known → SameBelow known → slice_get heads one ≡ Some to → slice_get others other ≡ Some to → one ≡ other
  known_name known one other to less below p q = once_too one other to (sym (below one less) ∙ p) q

  known_other : (known one other to : ℕ) → other < known → SameBelow known → slice_get heads one ≡ Some to → slice_get others other ≡ Some to → one ≡ other
  known_other known one other to less below p q = once one other to p (below other less ∙ q)

  below_next : (known to : ℕ) → SameBelow known → slice_get heads known ≡ Some to → slice_get others known ≡ Some to → SameBelow (suc known)
  below_next known to below p q i lt = elim (decide_le (suc i) known) [
    | inl less ↦ below i less
    | inr high ↦
        let last : i ≡ known = omega (arith, lt, high) in
        subst (λ (n : ℕ). slice_get heads n ≡ slice_get others n) (sym last) (p ∙ sym q)
  ]

  same_name : (known one other to after last : ℕ) → slice_get heads one ≡ Some to → slice_get others other ≡ Some to
      → AreMet known (one ∷ []) after → AreMet known (other ∷ []) last → SameBelow known → SameName one other after last
  same_name known one other to _ _ p q (Known less None_met) (Known less_too None_met) below =
      record { name_is = known_name known one other to less below p q; after_is = refl; below = below }
  same_name known one _ to _ _ p q (Known less None_met) (Met None_met) below =
      let same = known_name known one known to less below p q in absurd (omega (arith, same, less))
  same_name known _ other to _ _ p q (Met None_met) (Known less None_met) below =
      let same = known_other known known other to less below p q in absurd (omega (arith, same, less))
  same_name known _ _ to _ _ p q (Met None_met) (Met None_met) below =
      record { name_is = refl; after_is = refl; below = below_next known to below p q }

  -- ---- trees

  mutual
    pub same_tree : (room at left : ℕ) (tree : TableTree) → IsTreeOf flow P heads room at tree left → (rest : ℕ) (other : TableTree) → IsTreeOf flow Q others room at other rest
        → (known after last : ℕ) → AreMet known (nexts_of tree) after → AreMet known (nexts_of other) last → SameBelow known → SameTree tree other left rest after last
    same_tree _ at left _ (An_item {room} {next} {item} {rest = tail} here behind) rest _
        (An_item {next = next_too} {item = item_too} {rest = tail_too} here_too behind_too) known after last met met_too below =
        let items : Some (Op item next) ≡ Some (Op item_too next_too) = sym here ∙ here_too in
        let same_item : item ≡ item_too = (cc) in
        let same_next : next_too ≡ next = (cc) in
        let is = same_behind room next left tail behind rest tail_too (subst (λ (n : ℕ). IsBehind flow Q others room n tail_too rest) same_next behind_too) known after last met met_too below in
        record {
          tree_is = ap (λ (i : Item). Does at i tail) same_item ∙ ap (λ (t : TableTree). Does at item_too t) is.tree_is;
          left_is = is.left_is;
          after_is = is.after_is;
          below = is.below;
        }
    same_tree _ at left _ (An_item here behind) rest _ (A_test here_too one other) known after last met met_too below = absurd (cc)
    same_tree _ at left _ (An_item here behind) rest _ (A_stop here_too) known after last met met_too below = absurd (cc)
    same_tree _ at left _ (An_item here behind) rest _ (A_trap here_too) known after last met met_too below = absurd (cc)
    same_tree _ at left _ (A_test {room} {yes_side} {no_side} {mid} {on} {turn} {on_yes} {on_no} here one other) rest _
        (A_test {yes_side = yes_too} {no_side = no_too} {mid = mid_too} {on = on_too} {turn = turn_too} {on_yes = tree_too} {on_no = last_tree} here_too one_too other_too)
        known after last met met_too below =
        let tests : Some (Test on yes_side no_side turn) ≡ Some (Test on_too yes_too no_too turn_too) = sym here ∙ here_too in
        let same_on : on ≡ on_too = (cc) in
        let same_yes : yes_too ≡ yes_side = (cc) in
        let same_no : no_too ≡ no_side = (cc) in
        let parts = met_parted known after (nexts_of on_yes) (nexts_of on_no) met in
        let parts_too = met_parted known last (nexts_of tree_too) (nexts_of last_tree) met_too in
        let first = same_behind room yes_side mid on_yes one mid_too tree_too (subst (λ (n : ℕ). IsBehind flow Q others room n tree_too mid_too) same_yes one_too)
        known parts.0 parts_too.0 parts.1 parts_too.1 below in
        let second = same_behind mid no_side left on_no other rest last_tree
        (subst (λ (r : ℕ). IsBehind flow Q others r no_side last_tree rest) (sym first.left_is) (subst (λ (n : ℕ). IsBehind flow Q others mid_too n last_tree rest) same_no other_too))
        parts.0 after last parts.2 (subst (λ (k : ℕ). AreMet k (nexts_of last_tree) last) (sym first.after_is) parts_too.2) first.below in
        record {
          tree_is = ap (λ (o : Operand). Asks at o on_yes on_no) same_on ∙ ap (λ (t : TableTree). Asks at on_too t on_no) first.tree_is
              ∙ ap (λ (t : TableTree). Asks at on_too tree_too t) second.tree_is;
          left_is = second.left_is;
          after_is = second.after_is;
          below = second.below;
        }
    same_tree _ at left _ (A_test here one other) rest _ (An_item here_too behind) known after last met met_too below = absurd (cc)
    same_tree _ at left _ (A_test here one other) rest _ (A_stop here_too) known after last met met_too below = absurd (cc)
    same_tree _ at left _ (A_test here one other) rest _ (A_trap here_too) known after last met met_too below = absurd (cc)
    same_tree _ at _ _ (A_stop here) _ _ (A_stop here_too) known _ _ None_met None_met below = record { tree_is = refl; left_is = refl; after_is = refl; below = below }
    same_tree _ at _ _ (A_stop here) rest _ (An_item here_too behind) known after last met met_too below = absurd (cc)
    same_tree _ at _ _ (A_stop here) rest _ (A_test here_too one other) known after last met met_too below = absurd (cc)
    same_tree _ at _ _ (A_stop here) _ _ (A_trap here_too) known after last met met_too below = absurd (cc)
    same_tree _ at _ _ (A_trap {line} {kind} here) _ _ (A_trap {line = line_too} {kind = kind_too} here_too) known _ _ None_met None_met below =
        let traps : Some (Trap kind line) ≡ Some (Trap kind_too line_too) = sym here ∙ here_too in
        let same_kind : kind ≡ kind_too = (cc) in
        let same_line : line ≡ line_too = (cc) in
        record {
          tree_is = ap (λ (k : TrapKind). Traps_here k line) same_kind ∙ ap (λ (l : ℕ). Traps_here kind_too l) same_line;
          left_is = refl;
          after_is = refl;
          below = below;
        }
    same_tree _ at _ _ (A_trap here) rest _ (An_item here_too behind) known after last met met_too below = absurd (cc)
    same_tree _ at _ _ (A_trap here) rest _ (A_test here_too one other) known after last met met_too below = absurd (cc)
    same_tree _ at _ _ (A_trap here) _ _ (A_stop here_too) known after last met met_too below = absurd (cc)

    same_behind : (room to left : ℕ) (tree : TableTree) → IsBehind flow P heads room to tree left → (rest : ℕ) (other : TableTree) → IsBehind flow Q others room to other rest
        → (known after last : ℕ) → AreMet known (nexts_of tree) after → AreMet known (nexts_of other) last → SameBelow known → SameTree tree other left rest after last
    same_behind room to left tree (Taken no_head is) rest other (Taken no_head_too is_too) known after last met met_too below =
        same_tree room to left tree is rest other is_too known after last met met_too below
    same_behind room to left tree (Taken no_head is) _ _ (Not_taken (inl head) there) known after last met met_too below = absurd (no_head (back to head))
    same_behind room to left tree (Taken no_head is) _ _ (Not_taken (inr full) there) known after last met met_too below = absurd (no_room flow P heads room to left tree is full)
    same_behind room to _ _ (Not_taken (inl head) there) rest other (Taken no_head is) known after last met met_too below = absurd (no_head (forth to head))
    same_behind room to _ _ (Not_taken (inr full) there) rest other (Taken no_head is) known after last met met_too below = absurd (no_room flow Q others room to rest other is full)
    same_behind room to _ _ (Not_taken {region} head there) _ _ (Not_taken {region = region_too} head_too there_too) known after last met met_too below =
        let is = same_name known region region_too to after last there there_too met met_too below in
        record { tree_is = ap (λ (n : ℕ). Next n) is.name_is; left_is = refl; after_is = is.after_is; below = is.below }
