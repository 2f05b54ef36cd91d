-- A few texts, read line by line.
use Rattle.std.proofs.Common.{◌≡◌, [], ◌∷◌, ◌++◌, refl, pos, negsuc, Ok, Err}
use Rattle.std.specs.Prelude.{codes}
use Rattle.pc_word.specs.declared.item.OpCode.TheVariants as ops
use Rattle.pc_word.specs.declared.item.Item.TheVariants as items
use Rattle.pc_word.specs.declared.item.Operand.TheVariants.{Name, Lit}
use Rattle.pc_machine.specs.declared.tree.Leaf.TheVariants.{Goto, Stop}
use Rattle.pc_assembly.specs.declared.error.Expected.TheVariants as expect
use Rattle.pc_assembly.specs.declared.spelling.Word.TheVariants as word
use Rattle.pc_assembly.specs.declared.part.Part.TheVariants as part
use Rattle.pc_assembly.specs.declared.line.Side.TheVariants as side
use Rattle.pc_assembly.specs.declared.line.Stage.TheVariants as stage
use Rattle.pc_assembly.specs.declared.line.Content.TheVariants as content
use Rattle.pc_assembly.specs.Operands.{register_here, negative_here, positive_here, literal_here, operand_here, operator_of, operator_here}
use Rattle.pc_assembly.specs.Items.{call_at, computed_on, computed_here, source_here, assignment_here, print_at}
use Rattle.pc_assembly.specs.Parts.{test_at, numbered_row, target_here, goto_at, leaf_here, part_here}
use Rattle.pc_assembly.specs.Names.{is_name, is_named, names_after, rows_after, names_from}
use Rattle.pc_assembly.specs.Notes.{plain_reason, choice_here, note_here}
use Rattle.pc_assembly.specs.Lines.{part_line, line_here}
use Rattle.pc_assembly.specs.Text.{lines_of}
use Rattle.std.specs.List.{flat_map}
use Rattle.std.specs.Fmt.{digits}
use Rattle.pc_word.specs.Line.{line}
use Rattle.pc_object.specs.ObjectText.{CodeWithNotes}
use Rattle.pc_view.specs.Listing.{limit_words, count_words, listing_text}
use Rattle.pc_view.specs.DataLines.{data_line}
use Rattle.pc_word.specs.Row.{Then, Either, At_leaf}
use Rattle.pc_machine.specs.Registers.{few_registers}
use Rattle.pc_object.specs.Reading.{object_reading, object_at, version_at, array_count_at, storage_at, register_count_at, lengths_at, row_count_at}
use Rattle.pc_object.specs.Reading.{header_at as object_header, limits_at as object_limits, limit_at as object_limit, operand_at as object_operand}
use Rattle.pc_object.specs.Reading.{dest_at, register_at, operator_of_byte, choice_at, note_at}
use Rattle.pc_object.specs.Reading.{operator_at as object_operator, test_at as object_test, goto_at as object_goto}
use Rattle.pc_object.specs.Reading.{rows_at, row_at, tag_at, tag_of, behind_tag, step_at, fields_at, word_at, notes_at}
use Rattle.pc_assembly.specs.Words.{number_is}
use Rattle.pc_assembly.specs.Limits.{title_at, memory_at, limit_at, limits_at, lengths_here, arrays_at, registers_here, header_at}
use Rattle.pc_assembly.specs.Lines.{used_at, usage_at, usage_here, numbered_at, row_here, row_line, note_line}
use Rattle.pc_assembly.specs.Listing.{first_line, line_read, lines_read, body_read}
use Rattle.pc_assembly.specs.Assembled.{initial_from, header_bytes}
use Rattle.pc_assembly.specs.Object.{assembled, listing_reading}

-- an item in a row with no test goes on
prints : line_here [] [] (stage.Part side.Neither 0 1) (codes "print(7)")
    ≡ Ok (stage.Part side.Neither 0 1, content.Part (part.Item (items.Print (Lit (pos 7)))))
unfolding line_here part_line part_here print_at operand_here literal_here positive_here
prints = refl

-- a leaf behind a yes side is followed by the no side
goes : line_here [] [] (stage.Part side.Yes 1 3) (codes "yes  goto row 2 ; a comment")
    ≡ Ok (stage.Part side.No 0 3, content.Part (part.Leaf (Goto 2)))
unfolding line_here part_line part_here leaf_here goto_at target_here numbered_row
goes = refl

-- an operator, registers and a literal, with and without blanks
subtracts : line_here [] [] (stage.Part side.Neither 0 1) (codes "r1=r20 - -3")
    ≡ Ok (stage.Part side.Neither 0 1, content.Part (part.Item (items.Bin ops.Sub 1 (Name 20) (Lit (negsuc 2)))))
unfolding line_here part_line part_here assignment_here source_here computed_here computed_on
    register_here operand_here operator_here operator_of literal_here negative_here
subtracts = refl

-- where the yes side is due, no other side may stand
misses_yes : line_here [] [] (stage.Part side.Yes 1 1) (codes "no stop") ≡ Err (record { left = 7; expected = expect.Word word.Yes })
unfolding line_here part_line
misses_yes = refl

-- a line feed ends a line, and a comment with it
cuts : lines_of (codes "stop ; one" ++ (10 ∷ (10 ∷ codes "row 1"))) ≡ codes "stop ; one" ∷ [] ∷ codes "row 1" ∷ []
unfolding lines_of
cuts = refl

-- a listing, as the object that prints 7
prints_seven : listing_reading (flat_map line (
    codes "limits of a row: 8 items, 3 tests, 2 loads and stores; arrays: none"
    ∷ codes "row 0: 1 of 8 items, 0 of 3 tests, 0 of 2 loads and stores; from rows: none"
    ∷ codes "    print(7)"
    ∷ codes "    stop" ∷ []
    )) ≡ Ok (record {
      code = record {
        limits = record { ops = 8; tests = 3; mem = 2 };
        registers = few_registers;
        arrays = [];
        initial = [];
        rows = Then (items.Print (Lit (pos 7))) (At_leaf Stop) ∷ [];
      };
      notes = [];
    })
unfolding listing_reading first_line body_read line_read lines_read assembled header_bytes initial_from lines_of
    header_at title_at memory_at limit_at limits_at lengths_here arrays_at registers_here
    names_from names_after rows_after is_named is_name line_here row_line row_here numbered_at usage_here usage_at used_at number_is part_line part_here print_at leaf_here
    operand_here literal_here positive_here
    object_reading object_at object_header version_at object_limits object_limit array_count_at storage_at register_count_at lengths_at
    row_count_at rows_at row_at tag_at tag_of behind_tag step_at fields_at object_operand word_at notes_at
prints_seven = refl

-- an object with a loop, which prints the sum of its input
sum : CodeWithNotes
sum = record {
  code = record {
    limits = record { ops = 8; tests = 3; mem = 2 };
    registers = few_registers;
    arrays = [];
    initial = [];
    rows =
        Then (items.More 1) (At_leaf (Goto 1))
        ∷ Either (Name 1) (Then (items.Read 0) (At_leaf (Goto 2))) (Then (items.Print (Name 2)) (At_leaf Stop))
        ∷ Then (items.Bin ops.Add 2 (Name 2) (Name 0)) (Then (items.More 1) (At_leaf (Goto 1)))
        ∷ [];
  };
  notes = record { choice = 5; line = 7; number = 257; limit = 256 } ∷ [];
}

-- its listing is read back
sum_read_back : listing_reading (listing_text sum) ≡ Ok sum
unfolding listing_reading first_line body_read line_read lines_read assembled header_bytes initial_from lines_of
    header_at title_at memory_at limit_at limits_at lengths_here arrays_at registers_here
    names_from names_after rows_after is_named is_name line_here row_line row_here numbered_at usage_here usage_at used_at number_is part_line part_here print_at leaf_here
    operand_here literal_here positive_here
    object_reading object_at object_header version_at object_limits object_limit array_count_at storage_at register_count_at lengths_at
    row_count_at rows_at row_at tag_at tag_of behind_tag step_at fields_at object_operand word_at notes_at
    sum digits note_line limit_words count_words data_line assignment_here source_here computed_here computed_on register_here operator_here operator_of call_at
    test_at goto_at target_here numbered_row note_here choice_here plain_reason choice_at note_at object_test dest_at register_at object_goto object_operator operator_of_byte
sum_read_back = refl
