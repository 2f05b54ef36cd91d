-- Laws of checking one thing after another.
use Rattle.std.proofs.Common.{◌≡◌, ℕ, zero, suc, ◌-◌, Bool, false, length, drop, get_or, replicate, List, [], ◌∷◌, ◌++◌, Result, Ok, Err, refl, sym, ◌∙◌, ap, arith}
use Rattle.std.proofs.lemmas.List.{length-map}
use Rattle.std.proofs.Math.Seq.{drop-cons}
use Rattle.std.specs.Prelude.{ℤ, pos, ◌<◌, ◌≤◌, slice_index_or}
use Rattle.std.specs.List.{flat_map}
use Rattle.pc_word.specs.declared.item.Item.{Item}
use Rattle.pc_word.specs.declared.item.Operand.{Operand}
use Rattle.pc_word.specs.declared.item.Limits.{Limits}
use Rattle.pc_machine.specs.declared.code.Flaw.{Flaw}
use Rattle.pc_machine.specs.declared.check.Bounds.{Bounds}
use Rattle.pc_machine.specs.declared.check.Counts.{Counts}
use Rattle.pc_word.specs.declared.row_tree.RowTree.{RowTree}
use Rattle.pc_machine.specs.declared.tree.Leaf.{Leaf}
use Rattle.pc_machine.specs.MachineCode.{CodeRow, RowCode, row_of, rows_of}
use Rattle.pc_word.specs.Row.{Then, Either}
use Rattle.pc_word.specs.Items.{is_memory}
use Rattle.pc_machine.specs.declared.code.Flaw.TheVariants.{DataTail}
use Rattle.pc_word.specs.Data.{ends_in_zero}
use Rattle.pc_word.proofs.Data.{ends_in_zero-last}
use Rattle.pc_machine.specs.Flaws.{flaw_where, data_count_flaws, data_tail_flaws, data_flaws}
use Rattle.pc_machine.specs.Flaws.{Above, nothing_above, no_counts, above_with, counts_with_item, counts_with_test, counts_after, item_flaws, test_flaws, row_flaws, header_flaws, bounds_of, flaws_of}
use Rattle.pc_word.specs.Exact.{checked}

-- ---- one check after another

-- what was checked has no flaw
pub checked-sound : {X : Type 0} (flaws : List Flaw) (x y : X) → checked flaws x ≡ Ok y → flaws ≡ []
checked-sound [] x y e = refl
checked-sound (flaw ∷ flaws) x y e = (cc)

-- and is the value that was given
pub checked-value : {X : Type 0} (flaws : List Flaw) (x y : X) → checked flaws x ≡ Ok y → x ≡ y
checked-value [] x y e = (cc)
checked-value (flaw ∷ flaws) x y e = (cc)

-- what was refused has that flaw first, whatever flaws stand after
pub checked-stops : {X Y : Type 0} (flaws more : List Flaw) (x : X) (y : Y) (flaw : Flaw) → checked flaws x ≡ Err flaw → checked (flaws ++ more) y ≡ Err flaw
checked-stops [] more x y flaw e = (cc)
checked-stops (first ∷ flaws) more x y flaw e = (cc)

-- where there is none, those after decide
pub checked-goes_on : {X Y : Type 0} (flaws more : List Flaw) (x z : X) (y : Y) → checked flaws x ≡ Ok z → checked (flaws ++ more) y ≡ checked more y
checked-goes_on [] more x z y e = refl
checked-goes_on (first ∷ flaws) more x z y e = (cc)

-- ---- a row

-- what the checker gives for a row
abbrev given : Bounds → Counts → Above → CodeRow → Result Counts Flaw
given bounds counts above row = checked (row_flaws bounds counts above row) (counts_after row counts)

-- an item with a flaw
pub item-stops : (bounds : Bounds) (counts : Counts) (above : Above) (row rest : CodeRow) (item : Item) (flaw : Flaw)
    → row ≡ Then item rest → Err flaw ≡ checked (item_flaws bounds counts above item) (counts_with_item (is_memory item) counts)
    → Err flaw ≡ given bounds counts above row
item-stops bounds counts above row rest item flaw is_row stops =
    let flaws : List Flaw = item_flaws bounds counts above item in
    let after : Counts = counts_with_item (is_memory item) counts in
    sym (checked-stops flaws (row_flaws bounds after (above_with item above) rest) after (counts_after (Then item rest) counts) flaw (sym stops))
    ∙ ap (λ (r : CodeRow). given bounds counts above r) (sym is_row)

-- an item with none
pub item-goes_on : (bounds : Bounds) (counts behind : Counts) (above below : Above) (row rest next : CodeRow) (item : Item)
    → row ≡ Then item rest → Ok behind ≡ checked (item_flaws bounds counts above item) (counts_with_item (is_memory item) counts)
    → below ≡ above_with item above → next ≡ rest
    → given bounds behind below next ≡ given bounds counts above row
item-goes_on bounds counts behind above below row rest next item is_row goes is_below is_next =
    let flaws : List Flaw = item_flaws bounds counts above item in
    let after : Counts = counts_with_item (is_memory item) counts in
    ap (λ (c : Counts). given bounds c below next) (sym (checked-value flaws after behind (sym goes)))
    ∙ ap (λ (a : Above). given bounds after a next) is_below
    ∙ ap (λ (r : CodeRow). given bounds after (above_with item above) r) is_next
    ∙ sym (checked-goes_on flaws (row_flaws bounds after (above_with item above) rest) after behind (counts_after (Then item rest) counts) (sym goes))
    ∙ ap (λ (r : CodeRow). given bounds counts above r) (sym is_row)

-- a test with no flaw, whose yes side has one
pub yes-stops : (bounds : Bounds) (counts behind : Counts) (above : Above) (row on_yes on_no next : CodeRow) (on : Operand) (flaw : Flaw)
    → row ≡ Either on on_yes on_no → Ok behind ≡ checked (test_flaws bounds counts on) (counts_with_test counts)
    → next ≡ on_yes → Err flaw ≡ given bounds behind above next
    → Err flaw ≡ given bounds counts above row
yes-stops bounds counts behind above row on_yes on_no next on flaw is_row goes is_next stops =
    let flaws : List Flaw = test_flaws bounds counts on in
    let after : Counts = counts_with_test counts in
    let no_flaws : List Flaw = row_flaws bounds (counts_after on_yes after) above on_no in
    let here : Err flaw ≡ given bounds after above on_yes =
    stops ∙ ap (λ (c : Counts). given bounds c above next) (sym (checked-value flaws after behind (sym goes))) ∙ ap (λ (r : CodeRow). given bounds after above r) is_next in
    sym (checked-stops (row_flaws bounds after above on_yes) no_flaws (counts_after on_yes after) (counts_after (Either on on_yes on_no) counts) flaw (sym here))
    ∙ sym (checked-goes_on flaws (row_flaws bounds after above on_yes ++ no_flaws) after behind (counts_after (Either on on_yes on_no) counts) (sym goes))
    ∙ ap (λ (r : CodeRow). given bounds counts above r) (sym is_row)

-- a test with no flaw, whose yes side has none
pub yes-goes_on : (bounds : Bounds) (counts behind between : Counts) (above : Above) (row on_yes on_no next last : CodeRow) (on : Operand)
    → row ≡ Either on on_yes on_no → Ok behind ≡ checked (test_flaws bounds counts on) (counts_with_test counts)
    → next ≡ on_yes → Ok between ≡ given bounds behind above next → last ≡ on_no
    → given bounds between above last ≡ given bounds counts above row
yes-goes_on bounds counts behind between above row on_yes on_no next last on is_row goes is_next goes_yes is_last =
    let flaws : List Flaw = test_flaws bounds counts on in
    let after : Counts = counts_with_test counts in
    let no_flaws : List Flaw = row_flaws bounds (counts_after on_yes after) above on_no in
    let here : Ok between ≡ given bounds after above on_yes =
    goes_yes ∙ ap (λ (c : Counts). given bounds c above next) (sym (checked-value flaws after behind (sym goes))) ∙ ap (λ (r : CodeRow). given bounds after above r) is_next in
    ap (λ (c : Counts). given bounds c above last) (sym (checked-value (row_flaws bounds after above on_yes) (counts_after on_yes after) between (sym here)))
    ∙ ap (λ (r : CodeRow). given bounds (counts_after on_yes after) above r) is_last
    ∙ sym (checked-goes_on (row_flaws bounds after above on_yes) no_flaws (counts_after on_yes after) between (counts_after (Either on on_yes on_no) counts) (sym here))
    ∙ sym (checked-goes_on flaws (row_flaws bounds after above on_yes ++ no_flaws) after behind (counts_after (Either on on_yes on_no) counts) (sym goes))
    ∙ ap (λ (r : CodeRow). given bounds counts above r) (sym is_row)

-- ---- rows

-- a row with a flaw among those that are left
pub row-stops : (bounds : Bounds) (counts : Counts) (above : Above) (trees : List (RowTree Leaf)) (i : ℕ) (tree found : RowTree Leaf) (flaws : List Flaw) (flaw : Flaw)
    → i < length trees → tree ≡ get_or trees i tree → found ≡ tree → counts ≡ no_counts → above ≡ nothing_above
    → flaws ≡ flat_map (row_flaws bounds no_counts nothing_above) (rows_of (drop i trees))
    → Err flaw ≡ given bounds counts above (row_of found)
    → ◌≡◌ {A = Result (Unit {0}) Flaw} (Err flaw) (checked flaws tt)
row-stops bounds counts above trees i tree found flaws flaw within is_tree is_found is_none is_root left stops =
    let whole : List CodeRow → List Flaw = λ rows. flat_map (row_flaws bounds no_counts nothing_above) rows in
    let here : Err flaw ≡ given bounds no_counts nothing_above (row_of tree) =
    stops ∙ ap (λ (c : Counts). given bounds c above (row_of found)) is_none
    ∙ ap (λ (a : Above). given bounds no_counts a (row_of found)) is_root
    ∙ ap (λ (t : RowTree Leaf). given bounds no_counts nothing_above (row_of t)) is_found in
    let split : drop i trees ≡ tree ∷ drop (suc i) trees = drop-cons trees i tree within ∙ ap (λ (t : RowTree Leaf). t ∷ drop (suc i) trees) (sym is_tree) in
    sym (checked-stops (row_flaws bounds no_counts nothing_above (row_of tree)) (whole (rows_of (drop (suc i) trees))) (counts_after (row_of tree) no_counts) tt flaw (sym here))
    ∙ ap (λ (fs : List Flaw). checked fs tt) (sym (left ∙ ap (λ (ts : List (RowTree Leaf)). whole (rows_of ts)) split))

-- a header with no flaw
pub header-goes_on : (limits : Limits) (registers : ℕ) (lengths : List ℕ) (initial : List (List ℤ)) (trees shown : List (RowTree Leaf)) (arrays rows : ℕ) (x : Unit {0})
    → Ok x ≡ checked (header_flaws (record { limits = limits; registers = registers; arrays = lengths; initial = initial; rows = rows_of trees })) tt
    → arrays ≡ length lengths → rows ≡ length trees → shown ≡ trees
    → ◌≡◌ {A = Result (Unit {0}) Flaw} (checked (flat_map (row_flaws (record { limits = limits; registers = registers; arrays = arrays; rows = rows }) no_counts nothing_above) (rows_of shown)) tt)
    (checked (flaws_of (record { limits = limits; registers = registers; arrays = lengths; initial = initial; rows = rows_of trees })) tt)
header-goes_on limits registers lengths initial trees shown arrays rows x goes same_arrays same_rows same =
    let code : RowCode = record { limits = limits; registers = registers; arrays = lengths; initial = initial; rows = rows_of trees } in
    let count : rows ≡ length (rows_of trees) = same_rows ∙ sym (length-map trees row_of) in
    let bounds : ℕ → ℕ → Bounds = λ n m. record { limits = limits; registers = registers; arrays = n; rows = m } in
    ap (λ (n : ℕ). checked (flat_map (row_flaws (bounds n rows) no_counts nothing_above) (rows_of shown)) tt) same_arrays
    ∙ ap (λ (n : ℕ). checked (flat_map (row_flaws (bounds (length lengths) n) no_counts nothing_above) (rows_of shown)) tt) count
    ∙ ap (λ (ts : List (RowTree Leaf)). checked (flat_map (row_flaws (bounds_of code) no_counts nothing_above) (rows_of ts)) tt) same
    ∙ sym (checked-goes_on (header_flaws code) (flat_map (row_flaws (bounds_of code) no_counts nothing_above) (rows_of trees)) tt x tt (sym goes))

-- ---- the data of an array

-- words whose count has no flaw, and of which the last one is checked
pub data-goes_on : (elements : ℕ) (words : List ℤ) (x : Unit {0}) → Ok x ≡ checked (data_count_flaws elements (length words)) tt → 1 ≤ length words
    → ◌≡◌ {A = Result (Unit {0}) Flaw} (checked (data_tail_flaws (slice_index_or words (length words - 1) (pos 0))) tt) (checked (data_flaws elements words) tt)
data-goes_on elements words x goes some =
    ap (λ (b : Bool). checked (flaw_where b DataTail) tt) (sym (ends_in_zero-last words (length words - 1) (count_of words some)))
    ∙ sym (checked-goes_on (data_count_flaws elements (length words)) (flaw_where (ends_in_zero words) DataTail) tt x tt (sym goes))
  where
    count_of : (words : List ℤ) → 1 ≤ length words → length words ≡ suc (length words - 1)
    count_of words some = omega arith

-- ---- the path

-- nothing is marked at the root
none_marked : (n register : ℕ) → slice_index_or (replicate n false) register false ≡ false
none_marked zero register = refl
none_marked (suc n) zero = refl
none_marked (suc n) (suc register) = none_marked n register

pub root_above : (n : ℕ) → ◌≡◌ {A = Above} (record { written = λ register. slice_index_or (replicate n false) register false; effect = false }) nothing_above
root_above n = λ i. record { written = λ register. none_marked n register i; effect = false }
