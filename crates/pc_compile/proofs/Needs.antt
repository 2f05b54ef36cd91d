-- States that agree on what a tree needs agree, after its item or test, on what is needed there.
use Rattle.std.proofs.Common.{◌≡◌, ℕ, [], ◌∷◌, ap}
use Rattle.std.specs.Prelude.{pos, true, ◌||◌, ◌&&◌, not}
use Rattle.pc_word.specs.declared.item.Item.{Item}
use Rattle.pc_word.specs.declared.item.Operand.{Operand}
use Rattle.pc_word.specs.State.{State}
use Rattle.pc_word.specs.Items.{operand_value, dest_of, value_of, reads, reads_name}
use Rattle.pc_word.specs.Commit.{state_after, writes}
use Rattle.pc_table.specs.Table.{TableTree, Does, Asks, Next, Table, region_tree}
use Rattle.pc_table.specs.TableKeeps.{needs, TableKeeps}
use Rattle.pc_table.specs.Laws.{AlikeAtHead}
use Rattle.pc_table.proofs.Tests.{needed_above}
use Rattle.pc_table.proofs.Live.{pick_same}
use Rattle.pc_word.proofs.Evaluated.{bare, Alike, Alike-value, Alike-after, same_evaluated, same_operand}
use Rattle.pc_word.proofs.Truth.{or_first, or_second}

-- two states with the same elements and input left, and the same values of the variables that a tree needs
pub record Agrees (table : Table) (tree : TableTree) (s m : State) : Type 0 where
  pub names : (x : ℕ) → needs table tree x ≡ true → m.names x ≡ s.names x
  pub others : bare m ≡ bare s

module _ (table : Table) (s m : State) where
  -- an item does the same in both
  pub item_alike : (origin : ℕ) (item : Item) (rest : TableTree) → Agrees table (Does origin item rest) s m → Alike m item s item
  item_alike origin item rest agrees = record {
    items = same_evaluated m.names s.names item (λ x p. agrees.names x (or_first (reads item x) (not (writes (dest_of item) x) && needs table rest x) p));
    states = agrees.others;
  }

  pub behind_item : (origin : ℕ) (item : Item) (rest : TableTree) → Agrees table (Does origin item rest) s m
      → Agrees table rest (state_after table.arrays s (item ∷ [])) (state_after table.arrays m (item ∷ []))
  behind_item origin item rest agrees = record {
    names = λ x p. pick_same (writes (dest_of item) x) (value_of table.arrays m item) (value_of table.arrays s item) (m.names x) (s.names x)
        (Alike-value table.arrays m item s item (item_alike origin item rest agrees))
        (λ w. agrees.names x (needed_above (reads item x) (writes (dest_of item) x) (needs table rest x) w p));
    others = Alike-after table.arrays m item s item (item_alike origin item rest agrees);
  }

  module _ (origin : ℕ) (on : Operand) (on_yes on_no : TableTree) (agrees : Agrees table (Asks origin on on_yes on_no) s m) where
    -- a test goes to the same side in both
    pub test_alike : operand_value m.names on ≡ operand_value s.names on
    test_alike = same_operand m.names s.names on (λ x p. agrees.names x (or_first (reads_name on x) (needs table on_yes x || needs table on_no x) p))

    pub behind_yes : Agrees table on_yes s m
    behind_yes = record {
      names = λ x p. agrees.names x (or_second (reads_name on x) (needs table on_yes x || needs table on_no x) (or_first (needs table on_yes x) (needs table on_no x) p));
      others = agrees.others;
    }

    pub behind_no : Agrees table on_no s m
    behind_no = record {
      names = λ x p. agrees.names x (or_second (reads_name on x) (needs table on_yes x || needs table on_no x) (or_second (needs table on_yes x) (needs table on_no x) p));
      others = agrees.others;
    }

  -- at a region's head the live variables are what its tree needs, and all that a leaf that leads to it needs
  pub agrees_at_head : TableKeeps table → (region : ℕ) → AlikeAtHead table region s m → Agrees table (region_tree table region) s m
  agrees_at_head keeps region alike = record {
    names = λ x p. alike.names x (keeps.live region x p);
    others = λ d. record { names = λ x. pos 0; cells = alike.cells d; input = alike.input d };
  }

  pub alike_at_head : (region : ℕ) → Agrees table (Next region) s m → AlikeAtHead table region s m
  alike_at_head region agrees = record {
    cells = ap (λ (t : State). t.cells) agrees.others;
    input = ap (λ (t : State). t.input) agrees.others;
    names = agrees.names;
  }
