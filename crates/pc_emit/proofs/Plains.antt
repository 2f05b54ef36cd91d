-- The rows of a plain region, one after the other.
use Rattle.std.proofs.Common.{◌≡◌, ◌⊎◌, inl, inr, ℕ, suc, ◌+◌, ◌≤◌, List, [], ◌∷◌, ◌++◌, length, sym, ◌∙◌, ap, subst, arith}
use Rattle.std.specs.Prelude.{Some}
use Rattle.std.proofs.lemmas.List.{length-append}
use Rattle.pc_word.specs.declared.item.Item.{Item}
use Rattle.pc_word.specs.declared.item.Operand.{Operand}
use Rattle.pc_word.specs.Row.{Then, Either, At_leaf}
use Rattle.pc_word.specs.declared.item.TrapKind.{TrapKind}
use Rattle.pc_table.specs.Table.{TableTree, Does, Asks, Next, Stops_here, Traps_here, table_tree}
use Rattle.pc_table.specs.declared.tree.RegionTree.{RegionTree}
use Rattle.pc_table.specs.declared.tree.RegionTree.TheVariants as stored
use Rattle.pc_table.specs.TableKeeps.{units}
use Rattle.pc_machine.specs.declared.tree.Leaf.{Leaf}
use Rattle.pc_machine.specs.MachineCode.{CodeRow}
use Rattle.pc_object.specs.ObjectText.{operand_text, item_text, leaf_text, row_text}
use Rattle.pc_emit.specs.Bytes.{tree_bytes}
use Rattle.pc_emit.specs.Emitted.{LeadsBehind, item_row, test_row, no_row, no_end_row, no_trap_row}
use Rattle.pc_emit.specs.declared.output.Output.{Output}
use Rattle.pc_emit.specs.declared.plan.Plan.{Plan}
use Rattle.pc_emit.specs.models.Output.{bytes_of, OutputGrows, StandsAt}
use Rattle.pc_emit.specs.models.Layout.{emission_in}
use Rattle.pc_emit.specs.models.Making.{TreeMade}
use Rattle.pc_emit.proofs.Texts.{operand_short, item_short, leaf_short, bytes_more}

module _ (plan : Plan) (tree : TableTree) (row : ℕ) where
  -- an item's row, and those after it
  pub item_tree : (mid new : Output) (origin next behind : ℕ) (item : Item) (rest : TableTree) (made : CodeRow) (leaf : Leaf) → tree ≡ Does origin item rest
      → StandsAt mid row made → made ≡ Then item (At_leaf leaf) → LeadsBehind (emission_in plan) behind rest leaf → behind ≡ row + 1 → OutputGrows mid new
      → TreeMade plan new next rest → next ≡ row + 1 → TreeMade plan new row tree
  item_tree mid new origin next behind item rest made leaf e stands is leads at grows more is_next =
      let one : behind ≡ suc row = omega (arith, at) in
      let other : next ≡ suc row = omega (arith, is_next) in
      subst (λ (t : TableTree). TreeMade plan new row t) (sym e)
      (record {
        stands = λ final stays. item_row (stands.stands final (grows.stays final stays) ∙ ap (λ (r : CodeRow). Some r) is)
            (subst (λ (n : ℕ). LeadsBehind (emission_in plan) n rest leaf) one leads)
            ((subst (λ (n : ℕ). TreeMade plan new n rest) other more).stands final stays);
      })

  -- a test's row, and those of its sides
  pub test_tree : (mid later new : Output) (origin yes_at no_at yes_behind no_behind : ℕ) (on : Operand) (on_yes on_no : TableTree) (made : CodeRow) (yes_leaf no_leaf : Leaf)
      → tree ≡ Asks origin on on_yes on_no → StandsAt mid row made → made ≡ Either on (At_leaf yes_leaf) (At_leaf no_leaf)
      → LeadsBehind (emission_in plan) yes_behind on_yes yes_leaf → yes_behind ≡ row + 1
      → LeadsBehind (emission_in plan) no_behind on_no no_leaf → no_behind ≡ row + 1 + units on_yes
      → OutputGrows mid later → TreeMade plan later yes_at on_yes → yes_at ≡ row + 1 → OutputGrows later new
      → TreeMade plan new no_at on_no → no_at ≡ row + 1 + units on_yes → TreeMade plan new row tree
  test_tree mid later new origin yes_at no_at yes_behind no_behind on on_yes on_no made yes_leaf no_leaf e stands is leads at leads_too at_too grows first first_at grows_more second second_at =
      let yes_is : yes_behind ≡ suc row = omega (arith, at) in
      let no_is : no_behind ≡ suc row + units on_yes = omega (arith, at_too) in
      let first_is : yes_at ≡ suc row = omega (arith, first_at) in
      let second_is : no_at ≡ suc row + units on_yes = omega (arith, second_at) in
      subst (λ (t : TableTree). TreeMade plan new row t) (sym e)
      (record {
        stands = λ final stays. test_row (stands.stands final (grows.stays final (grows_more.stays final stays)) ∙ ap (λ (r : CodeRow). Some r) is)
            (subst (λ (n : ℕ). LeadsBehind (emission_in plan) n on_yes yes_leaf) yes_is leads)
            (subst (λ (n : ℕ). LeadsBehind (emission_in plan) n on_no no_leaf) no_is leads_too)
            ((subst (λ (n : ℕ). TreeMade plan later n on_yes) first_is first).stands final (grows_more.stays final stays))
            ((subst (λ (n : ℕ). TreeMade plan new n on_no) second_is second).stands final stays);
      })

-- a tree without rows
pub bare_tree : (plan : Plan) (output : Output) (row : ℕ) (tree : TableTree) → units tree ≡ 0 → TreeMade plan output row tree
bare_tree plan output row (Does origin item rest) none = absurd (omega (arith, none))
bare_tree plan output row (Asks origin on on_yes on_no) none = absurd (omega (arith, none))
bare_tree plan output row (Next region) none = record { stands = λ final stays. no_row }
bare_tree plan output row Stops_here none = record { stands = λ final stays. no_end_row }
bare_tree plan output row (Traps_here kind line) none = record { stands = λ final stays. no_trap_row }

-- which a tree in memory is that has neither an item nor a test
pub bare_units : (it : RegionTree) → ((region : ℕ) × (it ≡ stored.Next region)) ⊎ ((it ≡ stored.Stop) ⊎ ((kind : TrapKind) × (line : ℕ) × (it ≡ stored.Trap kind line)))
    → units (table_tree it) ≡ 0
bare_units it (inl next) = ap (λ (r : RegionTree). units (table_tree r)) next.1
bare_units it (inr (inl stop)) = ap (λ (r : RegionTree). units (table_tree r)) stop
bare_units it (inr (inr trap)) = ap (λ (r : RegionTree). units (table_tree r)) trap.2

-- ---- bytes

module _ (tree : TableTree) (old mid : List CodeRow) (made : CodeRow) (bytes : ℕ) (added : mid ≡ old ++ made ∷ []) where
  now : bytes_of mid ≡ bytes_of old + length (row_text made)
  now = ap bytes_of added ∙ bytes_more old made

  pub item_tree_short : (origin : ℕ) (item : Item) (rest : TableTree) (leaf : Leaf) → tree ≡ Does origin item rest → made ≡ Then item (At_leaf leaf)
      → bytes ≤ bytes_of mid + tree_bytes rest → bytes ≤ bytes_of old + tree_bytes tree
  item_tree_short origin item rest leaf e is short =
      let counted = ap tree_bytes e in
      let text = ap (λ (r : CodeRow). length (row_text r)) is in
      let both = length-append (item_text item) (leaf_text leaf) in
      let one = item_short item in
      let other = leaf_short leaf in
      let before = now in
      omega (arith, short, counted, text, both, one, other, before)

  pub test_tree_short : (origin later : ℕ) (on : Operand) (on_yes on_no : TableTree) (yes_leaf no_leaf : Leaf) → tree ≡ Asks origin on on_yes on_no
      → made ≡ Either on (At_leaf yes_leaf) (At_leaf no_leaf) → later ≤ bytes_of mid + tree_bytes on_yes → bytes ≤ later + tree_bytes on_no
      → bytes ≤ bytes_of old + tree_bytes tree
  test_tree_short origin later on on_yes on_no yes_leaf no_leaf e is first second =
      let counted = ap tree_bytes e in
      let text = ap (λ (r : CodeRow). length (row_text r)) is in
      let all = length-append (operand_text on) (leaf_text yes_leaf ++ leaf_text no_leaf) in
      let both = length-append (leaf_text yes_leaf) (leaf_text no_leaf) in
      let tested = operand_short on in
      let one = leaf_short yes_leaf in
      let other = leaf_short no_leaf in
      let before = now in
      omega (arith, first, second, counted, text, all, both, tested, one, other, before)

pub ruleset trees = (item_tree_short, test_tree_short)
