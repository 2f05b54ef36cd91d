-- Room, taken item by item and test by test.
use Rattle.std.proofs.Common.{◌≡◌, ℕ, suc, ◌+◌, ◌-◌, refl, ◌∙◌, ap, arith}
use Rattle.std.specs.Prelude.{if◌then◌else◌}
use Rattle.pc_word.specs.declared.item.Item.{Item}
use Rattle.pc_word.specs.declared.item.Operand.{Operand}
use Rattle.pc_word.specs.Items.{is_memory}
use Rattle.pc_window.specs.Tree.{Tree, Front, Issued, Split, Unfinished}
use Rattle.pc_window.specs.Filled.{item_count, memory_count, test_count}
use Rattle.pc_waiting.specs.declared.room.Room.{Room}
use Rattle.pc_waiting.specs.Waiting.{room_beside}
use Rattle.pc_waiting.specs.models.Path.{beside_item, beside_test}

-- room for so many of each
abbrev room : ℕ → ℕ → ℕ → Room
room items tests memory = record { items = items; tests = tests; memory = memory }

same_room : (a b c a' b' c' : ℕ) → a ≡ a' → b ≡ b' → c ≡ c' → room a b c ≡ room a' b' c'
same_room a b c a' b' c' p q r = λ i. record { items = p i; tests = q i; memory = r i }

-- one after the other
two_taken : (n a b : ℕ) → n - a - b ≡ n - (a + b)
two_taken n a b = omega arith

one_taken : (n a : ℕ) → n - 1 - a ≡ n - suc a
one_taken n a = omega arith

three_taken : (n a b : ℕ) → n - 1 - a - b ≡ n - suc (a + b)
three_taken n a b = omega arith

no_less : (n : ℕ) → n ≡ n - 0
no_less n = omega arith

pub item_taken : (tag origin : ℕ) (item : Item) (rest : Front) (it below after : Room) → below ≡ beside_item it item → after ≡ room_beside below rest
    → after ≡ room_beside it (Issued tag origin item rest)
item_taken tag origin item rest it below after p q =
    q ∙ ap (λ (r : Room). room_beside r rest) p
    ∙ same_room _ _ _ _ _ _ (one_taken it.items (item_count rest)) refl (two_taken it.memory (if is_memory item then 1 else 0) (memory_count rest))

pub test_taken : (tag origin : ℕ) (on : Operand) (on_yes on_no : Front) (it below between after : Room) → below ≡ beside_test it
    → between ≡ room_beside below on_yes → after ≡ room_beside between on_no → after ≡ room_beside it (Split tag origin on on_yes on_no)
test_taken tag origin on on_yes on_no it below between after p q r =
    r ∙ ap (λ (r : Room). room_beside r on_no) (q ∙ ap (λ (r : Room). room_beside r on_yes) p)
    ∙ same_room _ _ _ _ _ _ (two_taken it.items (item_count on_yes) (item_count on_no)) (three_taken it.tests (test_count on_yes) (test_count on_no))
    (two_taken it.memory (memory_count on_yes) (memory_count on_no))

pub none_taken : (rest : Tree) (it : Room) → it ≡ room_beside it (Unfinished rest)
none_taken rest it = same_room it.items it.tests it.memory _ _ _ (no_less it.items) (no_less it.tests) (no_less it.memory)

pub ruleset counting = (item_taken, test_taken, none_taken)
