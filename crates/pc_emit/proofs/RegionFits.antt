-- The rows of regions keep the limits.
use Rattle.std.proofs.Common.{ℕ, ◌≤◌, [], ◌∷◌, arith}
use Rattle.std.specs.Prelude.{nat_eq}
use Rattle.std.specs.List.{IsDistinct, filter_map}
use Rattle.std.proofs.lemmas.List.Sums.{count_by-le-length}
use Rattle.pc_word.specs.declared.item.Item.{Item}
use Rattle.pc_word.specs.declared.item.Item.TheVariants.{Bin, Copy, Load, Store, Print, Read, More}
use Rattle.pc_word.specs.declared.item.Operand.{Operand}
use Rattle.pc_word.specs.declared.item.Operand.TheVariants.{Name, Lit}
use Rattle.pc_word.specs.declared.item.Limits.{Limits}
use Rattle.pc_word.specs.Ranges.{AreLimits}
use Rattle.pc_word.specs.Items.{dest_of, is_effect, is_memory}
use Rattle.pc_word.specs.Row.{Then, Either, At_leaf}
use Rattle.pc_table.specs.TableKeeps.{NamesVariable, ItemIsThere}
use Rattle.pc_machine.specs.declared.tree.Leaf.{Leaf}
use Rattle.pc_machine.specs.WellFormed.{IsOperand, IsItem, IsLeaf, IsPath, IsRow}

-- ---- rows of one item or test

-- a variable is a register
operand_fits : (registers : ℕ) → 96 ≤ registers → (operand : Operand) → NamesVariable operand → IsOperand registers operand
operand_fits registers room (Name name) h = omega (arith, room, h)
operand_fits registers room (Lit value) h = tt

-- an item of a table is one of the machine
item_fits : (registers : ℕ) → 96 ≤ registers → (arrays : ℕ) (item : Item) → ItemIsThere arrays item → IsItem registers arrays item
item_fits registers room arrays (Bin op dest left right) h =
    (let w = h.writes in omega (arith, room, w), operand_fits registers room left h.reads.0, operand_fits registers room right h.reads.1.0)
item_fits registers room arrays (Copy dest from) h = (let w = h.writes in omega (arith, room, w), operand_fits registers room from h.reads.0)
item_fits registers room arrays (Load dest array index) h = (let w = h.writes in omega (arith, room, w), h.array, operand_fits registers room index h.reads.0)
item_fits registers room arrays (Store array index value) h = (h.array, operand_fits registers room index h.reads.0, operand_fits registers room value h.reads.1.0)
item_fits registers room arrays (Print value) h = operand_fits registers room value h.reads.0
item_fits registers room arrays (Read dest) h = let w = h.writes in omega (arith, room, w)
item_fits registers room arrays (More dest) h = let w = h.writes in omega (arith, room, w)

-- one item alone writes each register once
writes_once : (item : Item) → IsDistinct nat_eq (filter_map dest_of (item ∷ []))
unfolding IsDistinct
writes_once (Bin op dest left right) = (tt, tt)
writes_once (Copy dest from) = (tt, tt)
writes_once (Load dest array index) = (tt, tt)
writes_once (Store array index value) = tt
writes_once (Print value) = tt
writes_once (Read dest) = (tt, tt)
writes_once (More dest) = (tt, tt)

alone_is_path : (item : Item) → IsPath (item ∷ [])
alone_is_path item = record { writes_once = writes_once item; one_effect = count_by-le-length is_effect (item ∷ []) }

none_is_path : IsPath []
unfolding IsDistinct
none_is_path = record { writes_once = tt; one_effect = omega arith }

module _ (registers : ℕ) (room : 96 ≤ registers) (limits : Limits) (fine : AreLimits limits) (arrays rows : ℕ) where
  pub item_row_fits : (item : Item) (leaf : Leaf) → ItemIsThere arrays item → IsLeaf rows leaf → IsRow limits registers arrays rows (Then item (At_leaf leaf))
  item_row_fits item leaf fits is = record {
    ops = let low = fine.ops.0 in omega (arith, low);
    tests = omega arith;
    mem = let low = fine.mem.0 in let few = count_by-le-length is_memory (item ∷ []) in omega (arith, low, few);
    items = (item_fits registers room arrays item fits, tt);
    operands = tt;
    leaves = (is, tt);
    paths = (alone_is_path item, tt);
  }

  pub test_row_fits : (on : Operand) (one other : Leaf) → NamesVariable on → IsLeaf rows one → IsLeaf rows other
      → IsRow limits registers arrays rows (Either on (At_leaf one) (At_leaf other))
  test_row_fits on one other fits is is_too = record {
    ops = omega arith;
    tests = let low = fine.tests.0 in omega (arith, low);
    mem = omega arith;
    items = tt;
    operands = (operand_fits registers room on fits, tt);
    leaves = (is, (is_too, tt));
    paths = (none_is_path, (none_is_path, tt));
  }

  pub leaf_row_fits : (leaf : Leaf) → IsLeaf rows leaf → IsRow limits registers arrays rows (At_leaf leaf)
  leaf_row_fits leaf is = record {
    ops = omega arith;
    tests = omega arith;
    mem = omega arith;
    items = tt;
    operands = tt;
    leaves = (is, tt);
    paths = (none_is_path, tt);
  }
