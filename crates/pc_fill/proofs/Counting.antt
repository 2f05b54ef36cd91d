-- The counts of a front.
use Rattle.std.proofs.Common.{ℕ, suc, ◌+◌, ◌≤◌, refl, ap, arith}
use Rattle.std.specs.Prelude.{if◌then◌else◌, Bool, true, false}
use Rattle.pc_word.specs.declared.item.Item.{Item}
use Rattle.pc_word.specs.declared.item.Operand.{Operand}
use Rattle.pc_word.specs.Items.{is_memory}
use Rattle.pc_window.specs.Tree.{Tree, Front, Issued, Split, Unfinished}
use Rattle.pc_fill.specs.declared.room.Counts.{Counts}
use Rattle.pc_fill.specs.models.Search.{AreCounts, FrontFits}

one_more : (b : Bool) → (if b then 1 else 0) ≤ 1
one_more true = omega arith
one_more false = omega arith

pub item_counted : (tag origin : ℕ) (item : Item) (rest : Front) (below : Counts) → AreCounts below rest
    → AreCounts (record { items = suc below.items; memory = (if is_memory item then 1 else 0) + below.memory; tests = below.tests }) (Issued tag origin item rest)
item_counted tag origin item rest below h = record { items = ap suc h.items; memory = ap (λ (n : ℕ). (if is_memory item then 1 else 0) + n) h.memory; tests = h.tests }

pub test_counted : (tag origin : ℕ) (on : Operand) (p q : Front) (yes_counts no_counts : Counts) → AreCounts yes_counts p → AreCounts no_counts q
    → AreCounts (record { items = yes_counts.items + no_counts.items; memory = yes_counts.memory + no_counts.memory; tests = suc (yes_counts.tests + no_counts.tests) }) (Split tag origin on p q)
test_counted tag origin on p q a b h k = record {
  items = λ i. h.items i + k.items i;
  memory = λ i. h.memory i + k.memory i;
  tests = λ i. suc (h.tests i + k.tests i);
}

pub leaf_counted : (rest : Tree) → AreCounts (record { items = 0; memory = 0; tests = 0 }) (Unfinished rest)
leaf_counted rest = record { items = refl; memory = refl; tests = refl }

pub item_fits : (n : ℕ) (item : Item) (below : Counts) → FrontFits below n
    → FrontFits (record { items = suc below.items; memory = (if is_memory item then 1 else 0) + below.memory; tests = below.tests }) (suc n)
item_fits n item below h =
    let a = h.items in let b = h.memory in let c = h.tests in let d = one_more (is_memory item) in
    record { items = omega arith; memory = omega arith; tests = omega arith }

pub test_fits : (m n : ℕ) (yes_counts no_counts : Counts) → FrontFits yes_counts m → FrontFits no_counts n
    → FrontFits (record { items = yes_counts.items + no_counts.items; memory = yes_counts.memory + no_counts.memory; tests = suc (yes_counts.tests + no_counts.tests) }) (suc (m + n))
test_fits m n a b h k =
    let p = h.items in let q = h.memory in let r = h.tests in let s = k.items in let t = k.memory in let u = k.tests in
    record { items = omega arith; memory = omega arith; tests = omega arith }

pub leaf_fits : (n : ℕ) → FrontFits (record { items = 0; memory = 0; tests = 0 }) n
leaf_fits n = record { items = omega arith; memory = omega arith; tests = omega arith }

pub ruleset counting = (item_counted, test_counted, leaf_counted, item_fits, test_fits, leaf_fits)
