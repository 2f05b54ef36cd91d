-- A listing is read back as the object that was listed.
use Rattle.std.proofs.Common.{ℕ, suc, ◌+◌, ◌^◌, ◌≤◌, ◌≡◌, arith}
use Rattle.std.proofs.Common.{List, [], ◌∷◌, ◌++◌, map, length, refl, sym, ap, subst, append_assoc, append-nil}
use Rattle.std.proofs.Common.{codes, None, Ok}
use Rattle.std.specs.List.{AllByRecursion}
use Rattle.pc_word.specs.Row.{Then, Either, At_leaf, tests_of}
use Rattle.pc_word.specs.MachineLimits.{most_object}
use Rattle.pc_word.specs.declared.item.Limits.{Limits}
use Rattle.pc_machine.specs.MachineCode.{CodeRow, RowCode}
use Rattle.pc_machine.specs.WellFormed.{IsRow}
use Rattle.pc_word.specs.Ranges.{AreLimits}
use Rattle.pc_object.specs.Numbers.{RowNumbersFit}
use Rattle.pc_object.specs.models.InRange.{IsInRange}
use Rattle.pc_object.proofs.Ranges.{range_of_more, range_from_lists}
use Rattle.pc_view.specs.Tree.{tree_lines}
use Rattle.pc_view.specs.Leading.{rows_leading_to}
use Rattle.pc_view.specs.Listing.{rows_lines}
use Rattle.pc_assembly.specs.declared.line.Line.{Line}
use Rattle.pc_assembly.specs.declared.line.Side.TheVariants as side
use Rattle.pc_assembly.specs.declared.line.Stage.{Stage}
use Rattle.pc_assembly.specs.declared.line.Stage.TheVariants as stage
use Rattle.pc_assembly.specs.declared.line.Content.{Content}
use Rattle.pc_assembly.specs.declared.line.Content.TheVariants as content
use Rattle.pc_assembly.specs.declared.bytes.Class.TheVariants as class
use Rattle.pc_assembly.specs.Bytes.{after_run}
use Rattle.pc_assembly.specs.Names.{Names}
use Rattle.pc_assembly.specs.Text.{place_of}
use Rattle.pc_assembly.specs.Listing.{Draft, draft_with, line_read, lines_read}
use Rattle.pc_assembly.specs.Laws.{RowHasText, ReadAs}
use Rattle.pc_assembly.proofs.ReadHeadings.{UsageFits, later_heading_read, first_heading_read}
use Rattle.pc_assembly.proofs.ReadRows.{told_parts, row_read, read_both}

-- ---- rows

-- a row whose lines are read back under these limits
pub record PrintsBack (limits : Limits) (row : CodeRow) : Type 0 where
  pub text : RowHasText row
  pub tests : length (tests_of row) ≤ 255
  pub counted : UsageFits limits row

-- rows as what lines tell
abbrev pub told_rows : List CodeRow → List Content
told_rows [] = []
told_rows (row ∷ rest) = content.Row ∷ (told_parts row ++ told_rows rest)

-- rows behind others
later_rows : (names : Names) (lengths : List ℕ) (code : RowCode) (number : ℕ) (rows : List CodeRow) → AllByRecursion (PrintsBack code.limits) rows
    → number + length rows ≤ most_object
    → ReadAs names lengths (stage.Row number) (rows_lines None code number rows) (told_rows rows) (stage.Row (number + length rows))
later_rows names lengths code number [] h few = let e : number + 0 ≡ number = omega arith in rw e refl
later_rows names lengths code number (row ∷ rest) h few =
    let leading = rows_leading_to number 0 code.rows in
    let tree = tree_lines None number 0 (codes "    ") (codes "    ") row in
    let first = later_heading_read names lengths code.limits number row leading (omega (arith, few)) h.0.counted in
    let one : number + 1 ≡ suc number = omega arith in
    let ended : suc number + length rest ≡ number + suc (length rest) = omega arith in
    let more = later_rows names lengths code (suc number) rest h.1 (omega (arith, few)) in
    let begun = stage.Part side.Neither 0 (suc number) in
    let others = rows_lines None code (suc number) rest in
    let both = read_both names lengths begun (stage.Row (suc number)) (stage.Row (suc number + length rest)) tree others
    (told_parts row) (told_rows rest) (row_read names lengths number (suc number) row h.0.text h.0.tests) more in
    let all : ReadAs names lengths begun (tree ++ others) (told_parts row ++ told_rows rest) (stage.Row (number + suc (length rest))) =
    subst (λ n. ReadAs names lengths begun (tree ++ others) (told_parts row ++ told_rows rest) (stage.Row n)) ended both in
    (stage.Part side.Neither 0 (number + 1), first.0, first.1, rw one all)

-- all rows, behind the data
pub rows_read : (names : Names) (lengths : List ℕ) (code : RowCode) (array element : ℕ) (rows : List CodeRow) → AllByRecursion (PrintsBack code.limits) rows
    → 1 ≤ length rows → length rows ≤ most_object
    → ReadAs names lengths (stage.Data array element) (rows_lines None code 0 rows) (told_rows rows) (stage.Row (length rows))
rows_read names lengths code array element [] h some few = absurd (omega (arith, some))
rows_read names lengths code array element (row ∷ rest) h some few =
    let leading = rows_leading_to 0 0 code.rows in
    let tree = tree_lines None 0 0 (codes "    ") (codes "    ") row in
    let first = first_heading_read names lengths array element code.limits row leading h.0.counted in
    let ended : 1 + length rest ≡ suc (length rest) = omega arith in
    let more = later_rows names lengths code 1 rest h.1 (omega (arith, few)) in
    let begun = stage.Part side.Neither 0 1 in
    let others = rows_lines None code 1 rest in
    let both = read_both names lengths begun (stage.Row 1) (stage.Row (1 + length rest)) tree others (told_parts row) (told_rows rest)
    (row_read names lengths 0 1 row h.0.text h.0.tests) more in
    let all = subst (λ n. ReadAs names lengths begun (tree ++ others) (told_parts row ++ told_rows rest) (stage.Row n)) ended both in
    (begun, first.0, first.1, all)

-- ---- which rows

-- a tree in range, whose literals are words, has a text
row_has_text : (row : CodeRow) → IsInRange 256 256 (2 ^ 32) row → RowNumbersFit row → RowHasText row
row_has_text (Then item rest) h k = ((h.0, k.0), row_has_text rest h.1 k.1)
row_has_text (Either on on_yes on_no) h k = ((h.0, k.0), row_has_text on_yes h.1 k.1, row_has_text on_no h.2 k.2)
row_has_text (At_leaf leaf) h k = (h, k)

prints_back : (limits : Limits) (registers arrays rows : ℕ) (row : CodeRow) → AreLimits limits → registers ≤ 256 → arrays ≤ 256
    → rows ≤ 2 ^ 32
    → IsRow limits registers arrays rows row → RowNumbersFit row → PrintsBack limits row
prints_back limits registers arrays rows row are le le2 le3 is fits =
    let range = range_of_more registers arrays rows 256 256 (2 ^ 32) row le le2 le3
    (range_from_lists registers arrays rows row is.items is.operands is.leaves) in
    let ops = are.ops.1 in
    let tests = are.tests.1 in
    let mem = are.mem.1 in
    let few_ops = is.ops in
    let few_tests = is.tests in
    let few_mem = is.mem in
    record {
      text = row_has_text row range fits;
      tests = omega (arith, tests, few_tests);
      counted = record {
        ops = omega (arith, ops);
        tests = omega (arith, tests);
        mem = omega (arith, mem);
        few_ops = omega (arith, ops, few_ops);
        few_tests = omega (arith, tests, few_tests);
        few_mem = omega (arith, mem, few_mem);
      };
    }

pub rows_print_back : (limits : Limits) (registers arrays count : ℕ) (rows : List CodeRow) → AreLimits limits → registers ≤ 256
    → arrays ≤ 256 → count ≤ 2 ^ 32
    → AllByRecursion (IsRow limits registers arrays count) rows → AllByRecursion RowNumbersFit rows
    → AllByRecursion (PrintsBack limits) rows
rows_print_back limits registers arrays count [] are le le2 le3 h k = tt
rows_print_back limits registers arrays count (row ∷ rows) are le le2 le3 h k =
    let first = prints_back limits registers arrays count row are le le2 le3 h.0 k.0 in
    (first, rows_print_back limits registers arrays count rows are le le2 le3 h.1 k.1)

-- ---- lines, one after the other

-- what lines tell
abbrev pub told_of : List Line → List Content
told_of lines = map (λ line. line.content) lines

-- lines that are read so are kept so
pub lines_kept : (names : Names) (lengths : List ℕ) (draft : Draft) (number : ℕ) (lines : List (List ℕ)) (contents : List Content) (after : Stage)
    → ReadAs names lengths draft.stage lines contents after
    → (kept : List Line) × (told_of kept ≡ contents)
    × (lines_read names lengths draft number lines ≡ Ok (record { lines = draft.lines ++ kept; stage = after }, number + length lines))
unfolding lines_read line_read
lines_kept names lengths draft number [] [] after h =
    let none : draft.lines ++ [] ≡ draft.lines = append-nil draft.lines in
    let last : number + 0 ≡ number = omega arith in
    ([], refl, rw (none, last, sym h) refl)
lines_kept names lengths draft number (line ∷ lines) (content ∷ contents) after h =
    let next = draft_with draft number line (h.0, content) in
    let rest = lines_kept names lengths next (suc number) lines contents after h.3 in
    let first : Line = record { at = place_of number line (length (after_run class.Indent line)); content = content } in
    let joined : (draft.lines ++ first ∷ []) ++ rest.0 ≡ draft.lines ++ first ∷ rest.0 = append_assoc draft.lines (first ∷ []) rest.0 in
    let last : suc number + length lines ≡ number + suc (length lines) = omega arith in
    (first ∷ rest.0, ap (λ told. content ∷ told) rest.1, rw (h.1, h.2, rest.2, joined, last) refl)
lines_kept names lengths draft number [] (content ∷ contents) after h = absurd h
lines_kept names lengths draft number (line ∷ lines) [] after h = absurd h
