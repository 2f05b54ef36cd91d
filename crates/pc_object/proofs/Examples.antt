-- The texts of a few objects, byte by byte.
use Rattle.std.proofs.Common.{arith, ◌≡◌, ℕ, ℤ, List, [], ◌∷◌, length, replicate, refl, inl, pos, negsuc}
use Rattle.pc_word.specs.declared.item.Item.TheVariants.{Copy, Load, Store, Print, Read}
use Rattle.pc_word.specs.declared.item.Operand.TheVariants.{Name, Lit}
use Rattle.pc_word.specs.declared.item.TrapKind.TheVariants.{EndOfInput}
use Rattle.pc_machine.specs.declared.tree.Leaf.TheVariants.{Goto, Stop, Trap}
use Rattle.pc_machine.specs.Registers.{few_registers, most_registers}
use Rattle.pc_machine.specs.MachineCode.{CodeRow}
use Rattle.pc_word.specs.Row.{Then, Either, At_leaf}
use Rattle.std.specs.List.{IsDistinct}
use Rattle.pc_object.specs.declared.object.Note.{Note}
use Rattle.pc_object.specs.ObjectText.{CodeWithNotes, IsObject, object_text}

-- rows for 8 items, 3 tests and 2 loads and stores, with no note
plain : List ℕ → List CodeRow → CodeWithNotes
plain arrays rows = record {
  code = record { limits = record { ops = 8; tests = 3; mem = 2 }; registers = few_registers; arrays = arrays; initial = replicate (length arrays) []; rows = rows };
  notes = [];
}

-- it prints 7 and stops
prints_seven : object_text (plain [] (Then (Print (Lit (pos 7))) (At_leaf Stop) ∷ [])) ≡
    0x50 ∷ 0x54 ∷ 0x56 ∷ 0x31 ∷ 0x08 ∷ 0x03 ∷ 0x02 ∷ 0x00 ∷ 0x00 ∷ 0x00 ∷ 0x00 ∷ 0x01
    ∷ 0x24 ∷ 0x01 ∷ 0x00 ∷ 0x00 ∷ 0x00 ∷ 0x07 ∷ 0x02 ∷ 0x00 ∷ 0x00 ∷ []
unfolding plain
prints_seven = refl

-- it stops
stops : object_text (plain [] (At_leaf Stop ∷ [])) ≡
    0x50 ∷ 0x54 ∷ 0x56 ∷ 0x31 ∷ 0x08 ∷ 0x03 ∷ 0x02 ∷ 0x00 ∷ 0x00 ∷ 0x00 ∷ 0x00 ∷ 0x01 ∷ 0x02 ∷ 0x00 ∷ 0x00 ∷ []
unfolding plain
stops = refl

-- a test of register 5: the yes side reads into register 127 and goes to row 0, the no side traps at line 258
tests_five : object_text (plain [] (Either (Name 5) (Then (Read 127) (At_leaf (Goto 0))) (At_leaf (Trap EndOfInput 258)) ∷ [])) ≡
    0x50 ∷ 0x54 ∷ 0x56 ∷ 0x31 ∷ 0x08 ∷ 0x03 ∷ 0x02 ∷ 0x00 ∷ 0x00 ∷ 0x00 ∷ 0x00 ∷ 0x01
    ∷ 0x10 ∷ 0x00 ∷ 0x05 ∷ 0x25 ∷ 0x7F ∷ 0x01 ∷ 0x00 ∷ 0x00 ∷ 0x00 ∷ 0x00 ∷ 0x03 ∷ 0x02 ∷ 0x00 ∷ 0x00 ∷ 0x01 ∷ 0x02 ∷ 0x00 ∷ 0x00 ∷ []
unfolding plain
tests_five = refl

-- arrays of 4 and 65536 elements, and a store of the word -2 at register 9 of the second
stores : object_text (plain (4 ∷ 65536 ∷ []) (Then (Store 1 (Name 9) (Lit (negsuc 1))) (At_leaf Stop) ∷ [])) ≡
    0x50 ∷ 0x54 ∷ 0x56 ∷ 0x31 ∷ 0x08 ∷ 0x03 ∷ 0x02 ∷ 0x02 ∷ 0x00 ∷ 0x00 ∷ 0x00 ∷ 0x04 ∷ 0x00 ∷ 0x01 ∷ 0x00 ∷ 0x00 ∷ 0x00 ∷ 0x00 ∷ 0x00 ∷ 0x01
    ∷ 0x23 ∷ 0x01 ∷ 0x00 ∷ 0x09 ∷ 0x01 ∷ 0xFF ∷ 0xFF ∷ 0xFF ∷ 0xFE ∷ 0x02 ∷ 0x00 ∷ 0x00 ∷ []
unfolding plain
stores = refl

-- the loop at line 3 is pipelined in 300 states of 512 rows
noted : object_text (record { code = (plain [] (At_leaf Stop ∷ [])).code; notes = record { choice = 0; line = 3; number = 300; limit = 512 } ∷ [] }) ≡
    0x50 ∷ 0x54 ∷ 0x56 ∷ 0x31 ∷ 0x08 ∷ 0x03 ∷ 0x02 ∷ 0x00 ∷ 0x00 ∷ 0x00 ∷ 0x00 ∷ 0x01 ∷ 0x02 ∷ 0x00 ∷ 0x01
    ∷ 0x00 ∷ 0x00 ∷ 0x00 ∷ 0x00 ∷ 0x03 ∷ 0x00 ∷ 0x00 ∷ 0x01 ∷ 0x2C ∷ 0x00 ∷ 0x00 ∷ 0x02 ∷ 0x00 ∷ []
unfolding plain
noted = refl

-- 256 registers, of which register 200 takes the word 5
wide : object_text (record {
  code = record {
    limits = record { ops = 8; tests = 3; mem = 2 };
    registers = most_registers;
    arrays = [];
    initial = [];
    rows = Then (Copy 200 (Lit (pos 5))) (At_leaf Stop) ∷ [];
  };
  notes = [];
}) ≡
    0x50 ∷ 0x54 ∷ 0x56 ∷ 0x32 ∷ 0x08 ∷ 0x03 ∷ 0x02 ∷ 0x00 ∷ 0x01 ∷ 0x00 ∷ 0x00 ∷ 0x00 ∷ 0x00 ∷ 0x01
    ∷ 0x21 ∷ 0xC8 ∷ 0x01 ∷ 0x00 ∷ 0x00 ∷ 0x00 ∷ 0x05 ∷ 0x02 ∷ 0x00 ∷ 0x00 ∷ []
wide = refl

-- an array of two elements that begins with 5, which is printed
filled : object_text (record {
  code = record {
    limits = record { ops = 8; tests = 3; mem = 2 };
    registers = few_registers;
    arrays = 2 ∷ [];
    initial = (pos 5 ∷ []) ∷ [];
    rows = Then (Load 0 0 (Lit (pos 0))) (At_leaf (Goto 1)) ∷ Then (Print (Name 0)) (At_leaf Stop) ∷ [];
  };
  notes = [];
}) ≡
    0x50 ∷ 0x54 ∷ 0x56 ∷ 0x32 ∷ 0x08 ∷ 0x03 ∷ 0x02 ∷ 0x01 ∷ 0x00 ∷ 0x80 ∷ 0x00 ∷ 0x00 ∷ 0x00 ∷ 0x02
    ∷ 0x00 ∷ 0x00 ∷ 0x00 ∷ 0x01 ∷ 0x00 ∷ 0x00 ∷ 0x00 ∷ 0x05 ∷ 0x00 ∷ 0x00 ∷ 0x00 ∷ 0x02
    ∷ 0x22 ∷ 0x00 ∷ 0x00 ∷ 0x01 ∷ 0x00 ∷ 0x00 ∷ 0x00 ∷ 0x00 ∷ 0x01 ∷ 0x00 ∷ 0x00 ∷ 0x00 ∷ 0x01
    ∷ 0x24 ∷ 0x00 ∷ 0x00 ∷ 0x02 ∷ 0x00 ∷ 0x00 ∷ []
filled = refl

-- and it may be written
pub prints_seven_is_object : (arrays : List ℕ) (initial : List (List ℤ)) (rows : List CodeRow) (notes : List Note) → arrays ≡ [] → initial ≡ []
    → rows ≡ Then (Print (Lit (pos 7))) (At_leaf Stop) ∷ [] → notes ≡ []
    → IsObject (record { code = record { limits = record { ops = 8; tests = 3; mem = 2 }; registers = few_registers; arrays = arrays; initial = initial; rows = rows }; notes = notes })
unfolding IsDistinct
prints_seven_is_object arrays initial rows notes no_arrays no_data one_row no_notes = rw (no_arrays, no_data, one_row, no_notes) (record {
  code = record {
    limits = record { ops = (omega arith, omega arith); tests = (omega arith, omega arith); mem = (omega arith, omega arith) };
    registers = inl refl;
    arrays = record { count = omega arith; each = tt; elements = omega arith };
    initial = tt;
    entry = omega arith;
    rows = (
      record {
        ops = omega arith;
        tests = omega arith;
        mem = omega arith;
        items = (tt, tt);
        operands = tt;
        leaves = (tt, tt);
        paths = (record { writes_once = tt; one_effect = omega arith }, tt);
      },
      tt,
    );
  };
  choices = tt;
  few_notes = omega arith;
  few_bytes = omega arith;
})
