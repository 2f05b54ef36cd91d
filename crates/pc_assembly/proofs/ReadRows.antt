-- The lines of a row's tree, as they are printed, are read back as its parts.
use Rattle.std.proofs.Common.{ℕ, suc, ◌+◌, ◌<◌, ◌≤◌, ◌≡◌, true, false, arith, nat_lt}
use Rattle.std.proofs.Common.{List, [], ◌∷◌, ◌++◌, map, length, refl, sym, ap, subst, append_assoc, append-nil}
use Rattle.std.proofs.Common.{length-append, codes, one-add, None, Ok}
use Rattle.std.specs.List.{prefix_len, AllByRecursion}
use Rattle.std.proofs.lemmas.Bool.Decides.{nat_tests}
use Rattle.pc_word.specs.declared.item.Item.TheVariants.{Bin, Copy, Load, Store, Print, Read, More}
use Rattle.pc_word.specs.Row.{Then, Either, At_leaf, tests_of, leaves_of}
use Rattle.pc_machine.specs.declared.tree.Leaf.TheVariants.{Goto, Stop, Trap}
use Rattle.pc_machine.specs.MachineCode.{CodeRow}
use Rattle.pc_view.specs.Words.{operator_words, item_words, test_words, leaf_words}
use Rattle.pc_view.specs.Tree.{tree_lines}
use Rattle.pc_assembly.specs.declared.bytes.Class.TheVariants as class
use Rattle.pc_assembly.specs.declared.part.Part.{Part}
use Rattle.pc_assembly.specs.declared.part.Part.TheVariants as part
use Rattle.pc_assembly.specs.declared.line.Side.{Side}
use Rattle.pc_assembly.specs.declared.line.Side.TheVariants as side
use Rattle.pc_assembly.specs.declared.line.Stage.{Stage}
use Rattle.pc_assembly.specs.declared.line.Stage.TheVariants as stage
use Rattle.pc_assembly.specs.declared.line.Content.{Content}
use Rattle.pc_assembly.specs.declared.line.Content.TheVariants as content
use Rattle.pc_assembly.specs.Bytes.{is_in, after_run}
use Rattle.pc_assembly.specs.Words.{is_end}
use Rattle.pc_assembly.specs.Names.{Names}
use Rattle.pc_assembly.specs.Lines.{stage_after_leaf, part_line, line_here}
use Rattle.pc_assembly.specs.Laws.{PartHasText, RowHasText, part_words, parts_of, ReadAs}
use Rattle.pc_assembly.proofs.ReadParts.{part_read}

-- ---- several lines

-- lines after lines
pub read_both : (names : Names) (lengths : List ℕ) (due middle after : Stage) (a b : List (List ℕ)) (p q : List Content)
    → ReadAs names lengths due a p middle → ReadAs names lengths middle b q after → ReadAs names lengths due (a ++ b) (p ++ q) after
read_both names lengths due middle after [] b [] q h k = subst (λ due. ReadAs names lengths due b q after) (sym h) k
read_both names lengths due middle after (line ∷ a) b (content ∷ p) q h k = (h.0, h.1, h.2, read_both names lengths h.0 middle after a b p q h.3 k)
read_both names lengths due middle after [] b (content ∷ p) q h k = absurd h
read_both names lengths due middle after (line ∷ a) b [] q h k = absurd h

-- ---- what stands in front of a part

-- blanks and bars alone
abbrev pub IsIndent : List ℕ → Type 0
IsIndent text = AllByRecursion (λ byte. is_in class.Indent byte ≡ true) text

-- a text begins with what is no blank, no bar and no comment
pub record Starts (text : List ℕ) : Type 0 where
  pub no_indent : prefix_len (is_in class.Indent) text ≡ 0
  pub no_blank : prefix_len (is_in class.Blank) text ≡ 0
  pub no_end : is_end text ≡ false

-- what stands behind an indent
pub behind_indent : (indent text : List ℕ) → IsIndent indent → Starts text → after_run class.Indent (indent ++ text) ≡ text
behind_indent [] text h starts = rw (starts.no_indent) refl
behind_indent (byte ∷ indent) text h starts = rw (h.0, one-add (prefix_len (is_in class.Indent) (indent ++ text)))
    (behind_indent indent text h.1 starts)

-- and the line does not end in front of it
indent_goes_on : (indent text : List ℕ) → IsIndent indent → Starts text → is_end (after_run class.Indent (indent ++ text)) ≡ false
indent_goes_on indent text h starts = rw (behind_indent indent text h starts, starts.no_end) refl

-- ---- a line

-- the word that begins the side of a test
abbrev pub side_words : Side → List ℕ
side_words side.Neither = []
side_words side.Yes = codes "yes "
side_words side.No = codes "no  "

-- a part begins with a letter
part_starts : (part : Part) → Starts (part_words part)
part_starts (part.Item (Bin op dest left right)) = record { no_indent = refl; no_blank = refl; no_end = refl }
part_starts (part.Item (Copy dest from)) = record { no_indent = refl; no_blank = refl; no_end = refl }
part_starts (part.Item (Load dest array index)) = record { no_indent = refl; no_blank = refl; no_end = refl }
part_starts (part.Item (Store array index value)) = record { no_indent = refl; no_blank = refl; no_end = refl }
part_starts (part.Item (Print value)) = record { no_indent = refl; no_blank = refl; no_end = refl }
part_starts (part.Item (Read dest)) = record { no_indent = refl; no_blank = refl; no_end = refl }
part_starts (part.Item (More dest)) = record { no_indent = refl; no_blank = refl; no_end = refl }
part_starts (part.Test on) = record { no_indent = refl; no_blank = refl; no_end = refl }
part_starts (part.Leaf (Goto row)) = record { no_indent = refl; no_blank = refl; no_end = refl }
part_starts (part.Leaf Stop) = record { no_indent = refl; no_blank = refl; no_end = refl }
part_starts (part.Leaf (Trap kind line)) = record { no_indent = refl; no_blank = refl; no_end = refl }

side_starts : (due : Side) (part : Part) → Starts (side_words due ++ part_words part)
side_starts side.Neither part = part_starts part
side_starts side.Yes part = record { no_indent = refl; no_blank = refl; no_end = refl }
side_starts side.No part = record { no_indent = refl; no_blank = refl; no_end = refl }

-- what is due after a part
abbrev behind_part : (sides next : ℕ) → Part → Stage
behind_part sides next (part.Item item) = stage.Part side.Neither sides next
behind_part sides next (part.Test on) = stage.Part side.Yes (sides + 1) next
behind_part sides next (part.Leaf leaf) = stage_after_leaf sides next

more_room : (sides : ℕ) → sides < 255 → nat_lt sides 255 ≡ true
more_room sides room = grind (arith, nat_tests, room)

-- there is room for one test more, where the part is one
abbrev HasRoom : ℕ → Part → Type 0
HasRoom sides (part.Item item) = Unit {0}
HasRoom sides (part.Test on) = sides < 255
HasRoom sides (part.Leaf leaf) = Unit {0}

-- a line with this side and this part
part_line_read : (names : Names) (due : Side) (sides next : ℕ) (part : Part) → PartHasText part → HasRoom sides part
    → part_line names due sides next (side_words due ++ part_words part) ≡ Ok (behind_part sides next part, content.Part part)
unfolding part_line
part_line_read names side.Neither sides next (part.Item item) h room = rw
    ((part_starts (part.Item item)).no_blank, part_read names (part.Item item) h) refl
part_line_read names side.Yes sides next (part.Item item) h room = rw ((part_starts (part.Item item)).no_blank, part_read names (part.Item item) h) refl
part_line_read names side.No sides next (part.Item item) h room = rw ((part_starts (part.Item item)).no_blank, part_read names (part.Item item) h) refl
part_line_read names side.Neither sides next (part.Test on) h room = rw (part_read names (part.Test on) h, more_room sides room) refl
part_line_read names side.Yes sides next (part.Test on) h room = rw (part_read names (part.Test on) h, more_room sides room) refl
part_line_read names side.No sides next (part.Test on) h room = rw (part_read names (part.Test on) h, more_room sides room) refl
part_line_read names side.Neither sides next (part.Leaf leaf) h room = rw
    ((part_starts (part.Leaf leaf)).no_blank, part_read names (part.Leaf leaf) h) refl
part_line_read names side.Yes sides next (part.Leaf leaf) h room = rw ((part_starts (part.Leaf leaf)).no_blank, part_read names (part.Leaf leaf) h) refl
part_line_read names side.No sides next (part.Leaf leaf) h room = rw ((part_starts (part.Leaf leaf)).no_blank, part_read names (part.Leaf leaf) h) refl

-- a line of a row: an indent, the side that is due, and a part
row_line_read : (names : Names) (lengths : List ℕ) (due : Side) (sides next : ℕ) (indent : List ℕ) (part : Part)
    → IsIndent indent → PartHasText part → HasRoom sides part
    → (is_end (after_run class.Indent (indent ++ (side_words due ++ part_words part))) ≡ false)
    × (line_here names lengths (stage.Part due sides next) (after_run class.Indent (indent ++ (side_words due ++ part_words part)))
    ≡ Ok (behind_part sides next part, content.Part part))
unfolding line_here
row_line_read names lengths due sides next indent part clear h room =
    let text = side_words due ++ part_words part in (
      indent_goes_on indent text clear (side_starts due part),
      rw (behind_indent indent text clear (side_starts due part)) (part_line_read names due sides next part h room),
    )

-- ---- a row

-- four more bytes of an indent
longer_indent : (indent more : List ℕ) → IsIndent indent → IsIndent more → IsIndent (indent ++ more)
longer_indent [] more h k = k
longer_indent (byte ∷ indent) more h k = (h.0, longer_indent indent more h.1 k)

-- the parts of a row as what lines tell
abbrev pub told_parts : CodeRow → List Content
told_parts row = map (λ part. content.Part part) (parts_of row)

pub told_both : (a b : List Part) → map (λ part. content.Part part) (a ++ b)
    ≡ map (λ part. content.Part part) a ++ map (λ part. content.Part part) b
told_both [] b = refl
told_both (part ∷ a) b = ap (λ contents. content.Part part ∷ contents) (told_both a b)

-- the lines of a tree, which stands behind so many tests that are still without their no side
pub tree_read : (names : Names) (lengths : List ℕ) (due : Side) (sides next number leaf : ℕ) (first indent below : List ℕ) (row : CodeRow)
    → first ≡ indent ++ side_words due → IsIndent indent → IsIndent below → RowHasText row → sides + length (tests_of row) ≤ 255
    → ReadAs names lengths (stage.Part due sides next) (tree_lines None number leaf first below row) (told_parts row)
    (stage_after_leaf sides next)
tree_read names lengths due sides next number leaf first indent below (Then item rest) is clear bars h few =
    let words = item_words operator_words item in
    let line : first ++ words ≡ indent ++ (side_words due ++ words) = rw is (append_assoc indent (side_words due) words) in
    let read = row_line_read names lengths due sides next indent (part.Item item) clear h.0 tt in
    let more = tree_read names lengths side.Neither sides next number leaf below below below rest (sym (append-nil below)) bars bars h.1 few in
    (stage.Part side.Neither sides next, rw line read.0, rw line read.1, more)
tree_read names lengths due sides next number leaf first indent below (Either on on_yes on_no) is clear bars h few =
    let later = leaf + length (leaves_of on_yes) in
    let words = test_words on in
    let tests = length-append (tests_of on_yes) (tests_of on_no) in
    let room : sides < 255 = omega (arith, few) in
    let yes_few : (sides + 1) + length (tests_of on_yes) ≤ 255 = omega (arith, few, tests) in
    let no_few : sides + length (tests_of on_no) ≤ 255 = omega (arith, few, tests) in
    let line : first ++ words ≡ indent ++ (side_words due ++ words) = rw is (append_assoc indent (side_words due) words) in
    let read = row_line_read names lengths due sides next indent (part.Test on) clear h.0 room in
    let bar : IsIndent (codes "|   ") = (refl, (refl, (refl, (refl, tt)))) in
    let blanks : IsIndent (codes "    ") = (refl, (refl, (refl, (refl, tt)))) in
    let one : sides + 1 ≡ suc sides = omega arith in
    let yes_lines = tree_lines None number leaf (below ++ codes "yes ") (below ++ codes "|   ") on_yes in
    let no_lines = tree_lines None number later (below ++ codes "no  ") (below ++ codes "    ") on_no in
    let begun = stage.Part side.Yes (sides + 1) next in
    let between = stage.Part side.No sides next in
    let yes_read = tree_read names lengths side.Yes (sides + 1) next number leaf (below ++ codes "yes ") below (below ++ codes "|   ") on_yes
    refl bars (longer_indent below (codes "|   ") bars bar) h.1 yes_few in
    let ended : stage_after_leaf (sides + 1) next ≡ between = ap (λ count. stage_after_leaf count next) one in
    let yes_ended : ReadAs names lengths begun yes_lines (told_parts on_yes) between =
    subst (λ after. ReadAs names lengths begun yes_lines (told_parts on_yes) after) ended yes_read in
    let no_read = tree_read names lengths side.No sides next number later (below ++ codes "no  ") below (below ++ codes "    ") on_no
    refl bars (longer_indent below (codes "    ") bars blanks) h.2 no_few in
    let both = read_both names lengths begun between (stage_after_leaf sides next) yes_lines no_lines (told_parts on_yes) (told_parts on_no)
    yes_ended no_read in (
      stage.Part side.Yes (sides + 1) next,
      rw line read.0,
      rw line read.1,
      rw (told_both (parts_of on_yes) (parts_of on_no)) both,
    )
tree_read names lengths due sides next number leaf first indent below (At_leaf to) is clear bars h few =
    let words = leaf_words to in
    let line : first ++ (words ++ []) ≡ indent ++ (side_words due ++ words) = rw (is, append-nil words)
    (append_assoc indent (side_words due) words) in
    let read = row_line_read names lengths due sides next indent (part.Leaf to) clear h tt in
    (stage_after_leaf sides next, rw line read.0, rw line read.1, refl)

-- the lines of a row, behind its heading
pub row_read : (names : Names) (lengths : List ℕ) (number next : ℕ) (row : CodeRow) → RowHasText row → length (tests_of row) ≤ 255
    → ReadAs names lengths (stage.Part side.Neither 0 next) (tree_lines None number 0 (codes "    ") (codes "    ") row) (told_parts row)
    (stage.Row next)
row_read names lengths number next row h few =
    let blanks : IsIndent (codes "    ") = (refl, (refl, (refl, (refl, tt)))) in
    tree_read names lengths side.Neither 0 next number 0 (codes "    ") (codes "    ") (codes "    ") row refl blanks blanks h
    (omega (arith, few))
