-- A row that is read is the row that was written, without a flaw; and such a row that was written is read again.
use Rattle.std.proofs.Common.{◌≡◌, ℕ, zero, suc, ◌+◌, ◌-◌, ◌^◌, ◌<◌, ◌≤◌, Bool, true, false, leb, ◌&&◌, List, [], ◌∷◌, ◌++◌, Ok, refl, sym, ap, subst, ◌∙◌, append_assoc, arith}
use Rattle.std.specs.Int.{w32}
use Rattle.std.proofs.lemmas.Bool.{leb-false}
use Rattle.pc_word.specs.declared.item.Item.{Item}
use Rattle.pc_word.specs.declared.item.Item.TheVariants as items
use Rattle.pc_word.specs.declared.item.Operand.{Operand}
use Rattle.pc_machine.specs.declared.code.Flaw.{Flaw}
use Rattle.pc_machine.specs.declared.code.Flaw.TheVariants as flaws
use Rattle.pc_machine.specs.declared.check.Bounds.{Bounds}
use Rattle.pc_machine.specs.declared.check.Counts.{Counts}
use Rattle.pc_machine.specs.declared.tree.Leaf.{Leaf}
use Rattle.pc_machine.specs.declared.tree.Leaf.TheVariants.{Goto, Stop, Trap}
use Rattle.pc_machine.specs.MachineCode.{CodeRow}
use Rattle.pc_word.specs.Row.{Then, Either, At_leaf}
use Rattle.pc_word.specs.Items.{is_memory, is_effect}
use Rattle.pc_machine.specs.Flaws.{flaw_where, Above, above_with, counts_with_item, counts_with_test, counts_after, item_tag_flaws, test_tag_flaws}
use Rattle.pc_machine.specs.Flaws.{dest_flaws, operand_flaws, array_flaws, target_flaws, field_flaws, item_flaws, test_flaws, leaf_flaws, row_flaws}
use Rattle.pc_object.specs.declared.tag.ItemKind.{ItemKind}
use Rattle.pc_object.specs.declared.tag.ItemKind.TheVariants as kinds
use Rattle.pc_object.specs.declared.tag.Tag.{Tag}
use Rattle.pc_object.specs.declared.tag.Tag.TheVariants as tags
use Rattle.pc_object.specs.ObjectText.{operator_byte, trap_byte, operand_text, item_text, leaf_text, row_text, u32_text}
use Rattle.pc_object.specs.Numbers.{ItemNumbersFit, LeafFits, RowNumbersFit}
use Rattle.pc_object.specs.Reading.{◌>>=◌, ◌>>◌, at_field, unflawed, number_at, operator_at, trap_at, dest_at, array_at, operand_at, tag_byte, tag_at}
use Rattle.pc_object.specs.Reading.{is_memory_kind, is_effect_kind, fields_at, goto_at, trap_fields_at, PartOfRow, ReadsPart, counted_item}
use Rattle.pc_object.specs.Reading.{counted_test, step_at, test_at, behind_tag, row_at}
use Rattle.pc_object.proofs.FieldLaws.{IsBytes, Takes, Takes-then, bind_ok, ok_is, checked_ok, passes_then, wide32, number_takes, number_again}
use Rattle.pc_object.proofs.FieldLaws.{operator_takes, operator_again, trap_takes, trap_again, tag_takes, tag_again, dest_takes, dest_again}
use Rattle.pc_object.proofs.FieldLaws.{array_takes, array_again, operand_takes, operand_again}

-- ---- lists of flaws

-- a list without elements has parts without elements
pub nil_parts : {X : Type 0} (xs ys : List X) → xs ++ ys ≡ [] → (xs ≡ []) × (ys ≡ [])
nil_parts [] ys e = (refl, e)
nil_parts (x ∷ xs) ys e = absurd cc

pub nil_joined : {X : Type 0} (xs ys : List X) → xs ≡ [] → ys ≡ [] → xs ++ ys ≡ []
nil_joined xs ys e f = rw (e, f) refl

-- ---- items

abbrev pub kind_of : Item → ItemKind
kind_of (items.Bin op dest left right) = kinds.Bin
kind_of (items.Copy dest from) = kinds.Copy
kind_of (items.Load dest array index) = kinds.Load
kind_of (items.Store array index value) = kinds.Store
kind_of (items.Print value) = kinds.Print
kind_of (items.Read dest) = kinds.Read
kind_of (items.More dest) = kinds.More

-- an item's text after its tag
abbrev pub fields_text : Item → List ℕ
fields_text (items.Bin op dest left right) = operator_byte op ∷ dest ∷ (operand_text left ++ operand_text right)
fields_text (items.Copy dest from) = dest ∷ operand_text from
fields_text (items.Load dest array index) = dest ∷ array ∷ operand_text index
fields_text (items.Store array index value) = array ∷ (operand_text index ++ operand_text value)
fields_text (items.Print value) = operand_text value
fields_text (items.Read dest) = dest ∷ []
fields_text (items.More dest) = dest ∷ []

pub item_text_is : (item : Item) → item_text item ≡ tag_byte (tags.Item (kind_of item)) ∷ fields_text item
item_text_is (items.Bin op dest left right) = refl
item_text_is (items.Copy dest from) = refl
item_text_is (items.Load dest array index) = refl
item_text_is (items.Store array index value) = refl
item_text_is (items.Print value) = refl
item_text_is (items.Read dest) = refl
item_text_is (items.More dest) = refl

pub memory_is : (item : Item) → is_memory_kind (kind_of item) ≡ is_memory item
memory_is (items.Bin op dest left right) = refl
memory_is (items.Copy dest from) = refl
memory_is (items.Load dest array index) = refl
memory_is (items.Store array index value) = refl
memory_is (items.Print value) = refl
memory_is (items.Read dest) = refl
memory_is (items.More dest) = refl

pub effect_is : (item : Item) → is_effect_kind (kind_of item) ≡ is_effect item
effect_is (items.Bin op dest left right) = refl
effect_is (items.Copy dest from) = refl
effect_is (items.Load dest array index) = refl
effect_is (items.Store array index value) = refl
effect_is (items.Print value) = refl
effect_is (items.Read dest) = refl
effect_is (items.More dest) = refl

-- what the fields of a read item are
pub record AreFields (bounds : Bounds) (above : Above) (kind : ItemKind) (bytes : List ℕ) (item : Item) (rest : List ℕ) : Type 0 where
  pub kind_is : kind ≡ kind_of item
  pub takes : Takes bytes (fields_text item) rest
  pub sound : field_flaws bounds above item ≡ []
  pub fits : ItemNumbersFit item

abbrev pub Fields : Bounds → Above → ItemKind → List ℕ → (Item × List ℕ) → Type 0
Fields bounds above kind bytes read = AreFields bounds above kind bytes read.0 read.1

pub fields_take : (bounds : Bounds) (above : Above) (kind : ItemKind) (bytes : List ℕ) (read : Item × List ℕ) → IsBytes bytes → fields_at bounds above kind bytes ≡ Ok read
    → Fields bounds above kind bytes read
unfolding fields_at
fields_take bounds above kinds.Bin bytes read fits e =
    let a = bind_ok (operator_at bytes) (λ op. dest_at bounds.registers above op.1 >>= λ dest. operand_at bounds.registers dest.1 >>= λ left. operand_at bounds.registers left.1 >>= λ right.
    Ok (items.Bin op.0 dest.0 left.0 right.0, right.1)) read e in
    let b = bind_ok (dest_at bounds.registers above a.0.1) (λ dest. operand_at bounds.registers dest.1 >>= λ left. operand_at bounds.registers left.1 >>= λ right.
    Ok (items.Bin a.0.0 dest.0 left.0 right.0, right.1)) read a.2 in
    let c = bind_ok (operand_at bounds.registers b.0.1) (λ left. operand_at bounds.registers left.1 >>= λ right. Ok (items.Bin a.0.0 b.0.0 left.0 right.0, right.1)) read b.2 in
    let d = bind_ok (operand_at bounds.registers c.0.1) (λ right. Ok (items.Bin a.0.0 b.0.0 c.0.0 right.0, right.1)) read c.2 in
    let ta = operator_takes bytes a.0.0 a.0.1 fits a.1 in
    let tb = dest_takes bounds.registers above a.0.1 b.0.0 b.0.1 ta.rest_fits b.1 in
    let tc = operand_takes bounds.registers b.0.1 c.0.0 c.0.1 tb.0.rest_fits c.1 in
    let td = operand_takes bounds.registers c.0.1 d.0.0 d.0.1 tc.0.rest_fits d.1 in
    let tcd = Takes-then b.0.1 (operand_text c.0.0) c.0.1 (operand_text d.0.0) d.0.1 tc.0 td.0 in
    let tbd = Takes-then a.0.1 (b.0.0 ∷ []) b.0.1 (operand_text c.0.0 ++ operand_text d.0.0) d.0.1 tb.0 tcd in
    let tad = Takes-then bytes (operator_byte a.0.0 ∷ []) a.0.1 (b.0.0 ∷ (operand_text c.0.0 ++ operand_text d.0.0)) d.0.1 ta tbd in
    let made : Item × List ℕ = (items.Bin a.0.0 b.0.0 c.0.0 d.0.0, d.0.1) in
    subst (Fields bounds above kinds.Bin bytes) (ok_is made read d.2) (record {
      kind_is = refl;
      takes = tad;
      sound = nil_joined (dest_flaws bounds.registers above b.0.0) (operand_flaws bounds.registers c.0.0 ++ operand_flaws bounds.registers d.0.0) tb.1 (nil_joined
          (operand_flaws bounds.registers c.0.0) (operand_flaws bounds.registers d.0.0) tc.1 td.1);
      fits = (tc.2, td.2);
    })
fields_take bounds above kinds.Copy bytes read fits e =
    let a = bind_ok (dest_at bounds.registers above bytes) (λ dest. operand_at bounds.registers dest.1 >>= λ from. Ok (items.Copy dest.0 from.0, from.1)) read e in
    let b = bind_ok (operand_at bounds.registers a.0.1) (λ from. Ok (items.Copy a.0.0 from.0, from.1)) read a.2 in
    let ta = dest_takes bounds.registers above bytes a.0.0 a.0.1 fits a.1 in
    let tb = operand_takes bounds.registers a.0.1 b.0.0 b.0.1 ta.0.rest_fits b.1 in
    let made : Item × List ℕ = (items.Copy a.0.0 b.0.0, b.0.1) in
    subst (Fields bounds above kinds.Copy bytes) (ok_is made read b.2) (record {
      kind_is = refl;
      takes = Takes-then bytes (a.0.0 ∷ []) a.0.1 (operand_text b.0.0) b.0.1 ta.0 tb.0;
      sound = nil_joined (dest_flaws bounds.registers above a.0.0) (operand_flaws bounds.registers b.0.0) ta.1 tb.1;
      fits = tb.2;
    })
fields_take bounds above kinds.Load bytes read fits e =
    let a = bind_ok (dest_at bounds.registers above bytes) (λ dest. array_at bounds.arrays dest.1 >>= λ array. operand_at bounds.registers array.1 >>= λ index.
    Ok (items.Load dest.0 array.0 index.0, index.1)) read e in
    let b = bind_ok (array_at bounds.arrays a.0.1) (λ array. operand_at bounds.registers array.1 >>= λ index. Ok (items.Load a.0.0 array.0 index.0, index.1)) read a.2 in
    let c = bind_ok (operand_at bounds.registers b.0.1) (λ index. Ok (items.Load a.0.0 b.0.0 index.0, index.1)) read b.2 in
    let ta = dest_takes bounds.registers above bytes a.0.0 a.0.1 fits a.1 in
    let tb = array_takes bounds.arrays a.0.1 b.0.0 b.0.1 ta.0.rest_fits b.1 in
    let tc = operand_takes bounds.registers b.0.1 c.0.0 c.0.1 tb.0.rest_fits c.1 in
    let tbc = Takes-then a.0.1 (b.0.0 ∷ []) b.0.1 (operand_text c.0.0) c.0.1 tb.0 tc.0 in
    let made : Item × List ℕ = (items.Load a.0.0 b.0.0 c.0.0, c.0.1) in
    subst (Fields bounds above kinds.Load bytes) (ok_is made read c.2) (record {
      kind_is = refl;
      takes = Takes-then bytes (a.0.0 ∷ []) a.0.1 (b.0.0 ∷ operand_text c.0.0) c.0.1 ta.0 tbc;
      sound = nil_joined (dest_flaws bounds.registers above a.0.0) (array_flaws bounds.arrays b.0.0 ++ operand_flaws bounds.registers c.0.0) ta.1 (nil_joined (array_flaws bounds.arrays b.0.0)
          (operand_flaws bounds.registers c.0.0) tb.1 tc.1);
      fits = tc.2;
    })
fields_take bounds above kinds.Store bytes read fits e =
    let a = bind_ok (array_at bounds.arrays bytes) (λ array. operand_at bounds.registers array.1 >>= λ index. operand_at bounds.registers index.1 >>= λ value.
    Ok (items.Store array.0 index.0 value.0, value.1)) read e in
    let b = bind_ok (operand_at bounds.registers a.0.1) (λ index. operand_at bounds.registers index.1 >>= λ value. Ok (items.Store a.0.0 index.0 value.0, value.1)) read a.2 in
    let c = bind_ok (operand_at bounds.registers b.0.1) (λ value. Ok (items.Store a.0.0 b.0.0 value.0, value.1)) read b.2 in
    let ta = array_takes bounds.arrays bytes a.0.0 a.0.1 fits a.1 in
    let tb = operand_takes bounds.registers a.0.1 b.0.0 b.0.1 ta.0.rest_fits b.1 in
    let tc = operand_takes bounds.registers b.0.1 c.0.0 c.0.1 tb.0.rest_fits c.1 in
    let tbc = Takes-then a.0.1 (operand_text b.0.0) b.0.1 (operand_text c.0.0) c.0.1 tb.0 tc.0 in
    let made : Item × List ℕ = (items.Store a.0.0 b.0.0 c.0.0, c.0.1) in
    subst (Fields bounds above kinds.Store bytes) (ok_is made read c.2) (record {
      kind_is = refl;
      takes = Takes-then bytes (a.0.0 ∷ []) a.0.1 (operand_text b.0.0 ++ operand_text c.0.0) c.0.1 ta.0 tbc;
      sound = nil_joined (array_flaws bounds.arrays a.0.0) (operand_flaws bounds.registers b.0.0 ++ operand_flaws bounds.registers c.0.0) ta.1 (nil_joined (operand_flaws bounds.registers b.0.0)
          (operand_flaws bounds.registers c.0.0) tb.1 tc.1);
      fits = (tb.2, tc.2);
    })
fields_take bounds above kinds.Print bytes read fits e =
    let a = bind_ok (operand_at bounds.registers bytes) (λ value. Ok (items.Print value.0, value.1)) read e in
    let ta = operand_takes bounds.registers bytes a.0.0 a.0.1 fits a.1 in
    let made : Item × List ℕ = (items.Print a.0.0, a.0.1) in
    subst (Fields bounds above kinds.Print bytes) (ok_is made read a.2) (record { kind_is = refl; takes = ta.0; sound = ta.1; fits = ta.2 })
fields_take bounds above kinds.Read bytes read fits e =
    let a = bind_ok (dest_at bounds.registers above bytes) (λ dest. Ok (items.Read dest.0, dest.1)) read e in
    let ta = dest_takes bounds.registers above bytes a.0.0 a.0.1 fits a.1 in
    let made : Item × List ℕ = (items.Read a.0.0, a.0.1) in
    subst (Fields bounds above kinds.Read bytes) (ok_is made read a.2) (record { kind_is = refl; takes = ta.0; sound = ta.1; fits = tt })
fields_take bounds above kinds.More bytes read fits e =
    let a = bind_ok (dest_at bounds.registers above bytes) (λ dest. Ok (items.More dest.0, dest.1)) read e in
    let ta = dest_takes bounds.registers above bytes a.0.0 a.0.1 fits a.1 in
    let made : Item × List ℕ = (items.More a.0.0, a.0.1) in
    subst (Fields bounds above kinds.More bytes) (ok_is made read a.2) (record { kind_is = refl; takes = ta.0; sound = ta.1; fits = tt })

fields_again : (bounds : Bounds) (above : Above) (item : Item) (rest : List ℕ) → field_flaws bounds above item ≡ [] → ItemNumbersFit item
    → fields_at bounds above (kind_of item) (fields_text item ++ rest) ≡ Ok (item, rest)
unfolding fields_at
fields_again bounds above (items.Bin op dest left right) rest none fits =
    let p = nil_parts (dest_flaws bounds.registers above dest) (operand_flaws bounds.registers left ++ operand_flaws bounds.registers right) none in
    let q = nil_parts (operand_flaws bounds.registers left) (operand_flaws bounds.registers right) p.1 in
    rw (
      append_assoc (operand_text left) (operand_text right) rest,
      operator_again op (dest ∷ (operand_text left ++ (operand_text right ++ rest))),
      dest_again bounds.registers above dest (operand_text left ++ (operand_text right ++ rest)) p.0,
      operand_again bounds.registers left (operand_text right ++ rest) q.0 fits.0,
      operand_again bounds.registers right rest q.1 fits.1,
    ) refl
fields_again bounds above (items.Copy dest from) rest none fits =
    let p = nil_parts (dest_flaws bounds.registers above dest) (operand_flaws bounds.registers from) none in
    rw (dest_again bounds.registers above dest (operand_text from ++ rest) p.0, operand_again bounds.registers from rest p.1 fits) refl
fields_again bounds above (items.Load dest array index) rest none fits =
    let p = nil_parts (dest_flaws bounds.registers above dest) (array_flaws bounds.arrays array ++ operand_flaws bounds.registers index) none in
    let q = nil_parts (array_flaws bounds.arrays array) (operand_flaws bounds.registers index) p.1 in
    rw (
      dest_again bounds.registers above dest (array ∷ (operand_text index ++ rest)) p.0,
      array_again bounds.arrays array
          (operand_text index ++ rest) q.0,
      operand_again bounds.registers index rest q.1 fits,
    ) refl
fields_again bounds above (items.Store array index value) rest none fits =
    let p = nil_parts (array_flaws bounds.arrays array) (operand_flaws bounds.registers index ++ operand_flaws bounds.registers value) none in
    let q = nil_parts (operand_flaws bounds.registers index) (operand_flaws bounds.registers value) p.1 in
    rw (
      append_assoc (operand_text index) (operand_text value) rest,
      array_again bounds.arrays array (operand_text index ++ (operand_text value ++ rest)) p.0,
      operand_again bounds.registers index (operand_text value ++ rest) q.0 fits.0,
      operand_again bounds.registers value rest q.1 fits.1,
    ) refl
fields_again bounds above (items.Print value) rest none fits = rw (operand_again bounds.registers value rest none fits) refl
fields_again bounds above (items.Read dest) rest none fits = rw (dest_again bounds.registers above dest rest none) refl
fields_again bounds above (items.More dest) rest none fits = rw (dest_again bounds.registers above dest rest none) refl

-- ---- parts of rows

-- what a read part of a row is
pub record IsReadRow (bounds : Bounds) (counts : Counts) (above : Above) (bytes : List ℕ) (row : CodeRow) (after : Counts) (rest : List ℕ) : Type 0 where
  pub takes : Takes bytes (row_text row) rest
  pub sound : row_flaws bounds counts above row ≡ []
  pub fits : RowNumbersFit row
  pub counted : after ≡ counts_after row counts

abbrev pub Part : Bounds → Counts → Above → List ℕ → PartOfRow → Type 0
Part bounds counts above bytes read = IsReadRow bounds counts above bytes read.0 read.1 read.2

-- a reader of parts that is right
abbrev pub ReadsWell : Bounds → ReadsPart → Type 0
ReadsWell bounds below = (counts : Counts) (above : Above) (bytes : List ℕ) (read : PartOfRow) → IsBytes bytes → below counts above bytes ≡ Ok read → Part bounds counts above bytes read

-- after the tag of an item
step_takes : (bounds : Bounds) (below : ReadsPart) → ReadsWell bounds below → (counts more : Counts) (above : Above) (bytes : List ℕ) (kind : ItemKind) (rest : List ℕ) (read : PartOfRow)
    → Takes bytes (tag_byte (tags.Item kind) ∷ []) rest → at_field bytes (counted_item bounds.limits counts above (is_memory_kind kind) (is_effect_kind kind)) ≡ Ok more
    → step_at bounds below more above kind rest ≡ Ok read → Part bounds counts above bytes read
unfolding step_at
step_takes bounds below well counts more above bytes kind rest read tag counted e =
    let a = bind_ok (fields_at bounds above kind rest) (λ item. below more (above_with item.0 above) item.1 >>= λ next. Ok (Then item.0 next.0, next.1, next.2)) read e in
    let b = bind_ok (below more (above_with a.0.0 above) a.0.1) (λ next. Ok (Then a.0.0 next.0, next.1, next.2)) read a.2 in
    let item = a.0.0 in
    let f = fields_take bounds above kind rest a.0 tag.rest_fits a.1 in
    let n = well more (above_with item above) a.0.1 b.0 f.takes.rest_fits b.1 in
    let k = checked_ok bytes (item_tag_flaws bounds.limits counts above (is_memory_kind kind) (is_effect_kind kind)) (counts_with_item (is_memory_kind kind) counts) more counted in
    let m : is_memory item ≡ is_memory_kind kind = sym (ap is_memory_kind f.kind_is ∙ memory_is item) in
    let x : is_effect item ≡ is_effect_kind kind = sym (ap is_effect_kind f.kind_is ∙ effect_is item) in
    let tag_sound : item_tag_flaws bounds.limits counts above (is_memory item) (is_effect item) ≡ [] = ap (λ (t : Bool). item_tag_flaws bounds.limits counts above t (is_effect item)) m
    ∙ ap (λ (t : Bool). item_tag_flaws bounds.limits counts above (is_memory_kind kind) t) x ∙ k.0 in
    let more_is : more ≡ counts_with_item (is_memory item) counts = sym k.1 ∙ ap (λ (t : Bool). counts_with_item t counts) (sym m) in
    let text : tag_byte (tags.Item kind) ∷ fields_text item ≡ item_text item = ap (λ (t : ItemKind). tag_byte (tags.Item t) ∷ fields_text item) f.kind_is ∙ sym (item_text_is item) in
    let item_takes : Takes bytes (item_text item) a.0.1 = subst (λ (t : List ℕ). Takes bytes t a.0.1) text
    (Takes-then bytes (tag_byte (tags.Item kind) ∷ []) rest (fields_text item) a.0.1 tag f.takes) in
    let below_sound : row_flaws bounds (counts_with_item (is_memory item) counts) (above_with item above) b.0.0 ≡ [] =
    subst (λ (c : Counts). row_flaws bounds c (above_with item above) b.0.0 ≡ []) more_is n.sound in
    let made : PartOfRow = (Then item b.0.0, b.0.1, b.0.2) in
    subst (Part bounds counts above bytes) (ok_is made read b.2) (record {
      takes = Takes-then bytes (item_text item) a.0.1 (row_text b.0.0) b.0.2 item_takes n.takes;
      sound = nil_joined (item_flaws bounds counts above item) (row_flaws bounds (counts_with_item (is_memory item) counts) (above_with item above) b.0.0)
          (nil_joined (item_tag_flaws bounds.limits counts above (is_memory item) (is_effect item)) (field_flaws bounds above item) tag_sound f.sound) below_sound;
      fits = (f.fits, n.fits);
      counted = n.counted ∙ ap (counts_after b.0.0) more_is;
    })

-- after the tag of a test
test_takes : (bounds : Bounds) (below : ReadsPart) → ReadsWell bounds below → (counts more : Counts) (above : Above) (bytes rest : List ℕ) (read : PartOfRow)
    → Takes bytes (tag_byte tags.Test ∷ []) rest → at_field bytes (counted_test bounds.limits counts) ≡ Ok more
    → test_at bounds below more above rest ≡ Ok read → Part bounds counts above bytes read
unfolding test_at
test_takes bounds below well counts more above bytes rest read tag counted e =
    let a = bind_ok (operand_at bounds.registers rest) (λ on. below more above on.1 >>= λ on_yes. below on_yes.1 above on_yes.2 >>= λ on_no.
    Ok (Either on.0 on_yes.0 on_no.0, on_no.1, on_no.2)) read e in
    let b = bind_ok (below more above a.0.1) (λ on_yes. below on_yes.1 above on_yes.2 >>= λ on_no. Ok (Either a.0.0 on_yes.0 on_no.0, on_no.1, on_no.2)) read a.2 in
    let c = bind_ok (below b.0.1 above b.0.2) (λ on_no. Ok (Either a.0.0 b.0.0 on_no.0, on_no.1, on_no.2)) read b.2 in
    let o = operand_takes bounds.registers rest a.0.0 a.0.1 tag.rest_fits a.1 in
    let y = well more above a.0.1 b.0 o.0.rest_fits b.1 in
    let n = well b.0.1 above b.0.2 c.0 y.takes.rest_fits c.1 in
    let k = checked_ok bytes (test_tag_flaws bounds.limits counts) (counts_with_test counts) more counted in
    let yes_sound : row_flaws bounds (counts_with_test counts) above b.0.0 ≡ [] = subst (λ (t : Counts). row_flaws bounds t above b.0.0 ≡ []) (sym k.1) y.sound in
    let between : b.0.1 ≡ counts_after b.0.0 (counts_with_test counts) = y.counted ∙ ap (counts_after b.0.0) (sym k.1) in
    let no_sound : row_flaws bounds (counts_after b.0.0 (counts_with_test counts)) above c.0.0 ≡ [] = subst (λ (t : Counts). row_flaws bounds t above c.0.0 ≡ []) between n.sound in
    let sides = Takes-then a.0.1 (row_text b.0.0) b.0.2 (row_text c.0.0) c.0.2 y.takes n.takes in
    let behind = Takes-then rest (operand_text a.0.0) a.0.1 (row_text b.0.0 ++ row_text c.0.0) c.0.2 o.0 sides in
    let made : PartOfRow = (Either a.0.0 b.0.0 c.0.0, c.0.1, c.0.2) in
    subst (Part bounds counts above bytes) (ok_is made read c.2) (record {
      takes = Takes-then bytes (0x10 ∷ []) rest (operand_text a.0.0 ++ (row_text b.0.0 ++ row_text c.0.0)) c.0.2 tag behind;
      sound = nil_joined (test_flaws bounds counts a.0.0) (row_flaws bounds (counts_with_test counts) above b.0.0 ++ row_flaws bounds (counts_after b.0.0 (counts_with_test counts)) above c.0.0)
          (nil_joined (test_tag_flaws bounds.limits counts) (operand_flaws bounds.registers a.0.0) k.0 o.1)
          (nil_joined (row_flaws bounds (counts_with_test counts) above b.0.0) (row_flaws bounds (counts_after b.0.0 (counts_with_test counts)) above c.0.0) yes_sound no_sound);
      fits = (o.2, y.fits, n.fits);
      counted = n.counted ∙ ap (counts_after c.0.0) between;
    })

-- a row that is only a leaf
leaf_part : (bounds : Bounds) (counts : Counts) (above : Above) (bytes : List ℕ) (leaf : Leaf) (rest : List ℕ) → Takes bytes (leaf_text leaf) rest → leaf_flaws bounds leaf ≡ [] → LeafFits leaf
    → Part bounds counts above bytes (At_leaf leaf, counts, rest)
leaf_part bounds counts above bytes leaf rest takes sound fits = record { takes = takes; sound = sound; fits = fits; counted = refl }

goto_takes : (bounds : Bounds) (counts : Counts) (above : Above) (bytes rest : List ℕ) (read : PartOfRow) → Takes bytes (0x01 ∷ []) rest
    → (goto_at bounds.rows rest >>= λ leaf. Ok (leaf.0, counts, leaf.1)) ≡ Ok read → Part bounds counts above bytes read
unfolding goto_at
goto_takes bounds counts above bytes rest read tag e =
    let a = bind_ok (goto_at bounds.rows rest) (λ leaf. Ok (leaf.0, counts, leaf.1)) read e in
    let b = bind_ok (number_at w32 rest) (λ row. unflawed rest (target_flaws bounds.rows row.0) >> Ok (At_leaf (Goto row.0), row.1)) a.0 a.1 in
    let p = passes_then rest (target_flaws bounds.rows b.0.0) (At_leaf (Goto b.0.0), b.0.1) a.0 b.2 in
    let t = number_takes w32 (2 ^ 32) wide32 rest b.0.0 b.0.1 tag.rest_fits b.1 in
    let part = leaf_part bounds counts above bytes (Goto b.0.0) b.0.1 (Takes-then bytes (0x01 ∷ []) rest (u32_text b.0.0) b.0.1 tag t.0) p.0 tt in
    let whole : Part bounds counts above bytes (a.0.0, counts, a.0.1) = subst (λ (y : CodeRow × List ℕ). Part bounds counts above bytes (y.0, counts, y.1)) p.1 part in
    subst (Part bounds counts above bytes) (ok_is (a.0.0, counts, a.0.1) read a.2) whole

trap_row_takes : (bounds : Bounds) (counts : Counts) (above : Above) (bytes rest : List ℕ) (read : PartOfRow) → Takes bytes (0x03 ∷ []) rest
    → (trap_fields_at rest >>= λ leaf. Ok (leaf.0, counts, leaf.1)) ≡ Ok read → Part bounds counts above bytes read
unfolding trap_fields_at
trap_row_takes bounds counts above bytes rest read tag e =
    let a = bind_ok (trap_fields_at rest) (λ leaf. Ok (leaf.0, counts, leaf.1)) read e in
    let b = bind_ok (trap_at rest) (λ kind. number_at w32 kind.1 >>= λ line. Ok (At_leaf (Trap kind.0 line.0), line.1)) a.0 a.1 in
    let c = bind_ok (number_at w32 b.0.1) (λ line. Ok (At_leaf (Trap b.0.0 line.0), line.1)) a.0 b.2 in
    let k = trap_takes rest b.0.0 b.0.1 tag.rest_fits b.1 in
    let t = number_takes w32 (2 ^ 32) wide32 b.0.1 c.0.0 c.0.1 k.rest_fits c.1 in
    let kt = Takes-then rest (trap_byte b.0.0 ∷ []) b.0.1 (u32_text c.0.0) c.0.1 k t.0 in
    let part = leaf_part bounds counts above bytes (Trap b.0.0 c.0.0) c.0.1 (Takes-then bytes (0x03 ∷ []) rest (trap_byte b.0.0 ∷ u32_text c.0.0) c.0.1 tag kt) refl t.1 in
    let whole : Part bounds counts above bytes (a.0.0, counts, a.0.1) =
    subst (λ (y : CodeRow × List ℕ). Part bounds counts above bytes (y.0, counts, y.1)) (ok_is (At_leaf (Trap b.0.0 c.0.0), c.0.1) a.0 c.2) part in
    subst (Part bounds counts above bytes) (ok_is (a.0.0, counts, a.0.1) read a.2) whole

behind_takes : (bounds : Bounds) (below : ReadsPart) → ReadsWell bounds below → (counts : Counts) (above : Above) (bytes : List ℕ) (tag : Tag) (rest : List ℕ) (read : PartOfRow)
    → Takes bytes (tag_byte tag ∷ []) rest → behind_tag bounds below counts above bytes tag rest ≡ Ok read → Part bounds counts above bytes read
unfolding behind_tag
behind_takes bounds below well counts above bytes tags.Goto rest read tag e = goto_takes bounds counts above bytes rest read tag e
behind_takes bounds below well counts above bytes tags.Stop rest read tag e =
    subst (Part bounds counts above bytes) (ok_is (At_leaf Stop, counts, rest) read e) (leaf_part bounds counts above bytes Stop rest tag refl tt)
behind_takes bounds below well counts above bytes tags.Trap rest read tag e = trap_row_takes bounds counts above bytes rest read tag e
behind_takes bounds below well counts above bytes tags.Test rest read tag e =
    let a = bind_ok (at_field bytes (counted_test bounds.limits counts)) (λ more. test_at bounds below more above rest) read e in
    test_takes bounds below well counts a.0 above bytes rest read tag a.1 a.2
behind_takes bounds below well counts above bytes (tags.Item kind) rest read tag e =
    let a = bind_ok (at_field bytes (counted_item bounds.limits counts above (is_memory_kind kind) (is_effect_kind kind))) (λ more. step_at bounds below more above kind rest) read e in
    step_takes bounds below well counts a.0 above bytes kind rest read tag a.1 a.2

pub row_takes : (bounds : Bounds) (depth : ℕ) → ReadsWell bounds (row_at bounds depth)
unfolding row_at
row_takes bounds zero counts above bytes read fits e = absurd cc
row_takes bounds (suc depth) counts above bytes read fits e =
    let a = bind_ok (tag_at bytes) (λ tag. behind_tag bounds (row_at bounds depth) counts above bytes tag.0 tag.1) read e in
    behind_takes bounds (row_at bounds depth) (row_takes bounds depth) counts above bytes a.0.0 a.0.1 read (tag_takes bytes a.0.0 a.0.1 fits a.1) a.2

-- ---- a row that was written

pub where_nil : (test : Bool) (flaw : Flaw) → flaw_where test flaw ≡ [] → test ≡ false
where_nil true flaw e = absurd cc
where_nil false flaw e = refl

-- how many items and tests a row may still have
abbrev pub room : Bounds → Counts → ℕ
room bounds counts = (bounds.limits.ops - counts.ops) + (bounds.limits.tests - counts.tests)

-- counts only grow
pub counts_grow : (row : CodeRow) (counts : Counts) → (counts.ops ≤ (counts_after row counts).ops) × (counts.tests ≤ (counts_after row counts).tests)
counts_grow (Then item rest) counts = let h = counts_grow rest (counts_with_item (is_memory item) counts) in (omega (arith, h.0), h.1)
counts_grow (Either on on_yes on_no) counts =
    let h = counts_grow on_yes (counts_with_test counts) in
    let k = counts_grow on_no (counts_after on_yes (counts_with_test counts)) in
    (omega (arith, h.0, k.0), omega (arith, h.1, k.1))
counts_grow (At_leaf leaf) counts = (omega arith, omega arith)

pub at_tag : (bounds : Bounds) (depth : ℕ) (counts : Counts) (above : Above) (tag : Tag) (rest : List ℕ)
    → row_at bounds (suc depth) counts above (tag_byte tag ∷ rest) ≡ behind_tag bounds (row_at bounds depth) counts above (tag_byte tag ∷ rest) tag rest
unfolding row_at
at_tag bounds depth counts above tag rest = rw (tag_again tag rest) refl

at_item : (bounds : Bounds) (below : ReadsPart) (counts : Counts) (above : Above) (bytes : List ℕ) (kind : ItemKind) (rest : List ℕ)
    → item_tag_flaws bounds.limits counts above (is_memory_kind kind) (is_effect_kind kind) ≡ []
    → behind_tag bounds below counts above bytes (tags.Item kind) rest ≡ step_at bounds below (counts_with_item (is_memory_kind kind) counts) above kind rest
unfolding behind_tag
at_item bounds below counts above bytes kind rest none = rw none refl

at_step : (bounds : Bounds) (below : ReadsPart) (counts : Counts) (above : Above) (kind : ItemKind) (bytes : List ℕ) (item : Item) (rest : List ℕ) (next : CodeRow) (after : Counts) (end : List ℕ)
    → fields_at bounds above kind bytes ≡ Ok (item, rest) → below counts (above_with item above) rest ≡ Ok (next, after, end)
    → step_at bounds below counts above kind bytes ≡ Ok (Then item next, after, end)
unfolding step_at
at_step bounds below counts above kind bytes item rest next after end h k = rw (h, k) refl

at_test : (bounds : Bounds) (below : ReadsPart) (counts : Counts) (above : Above) (bytes rest : List ℕ) → test_tag_flaws bounds.limits counts ≡ []
    → behind_tag bounds below counts above bytes tags.Test rest ≡ test_at bounds below (counts_with_test counts) above rest
unfolding behind_tag
at_test bounds below counts above bytes rest none = rw none refl

at_sides : (bounds : Bounds) (below : ReadsPart) (counts : Counts) (above : Above) (bytes : List ℕ) (on : Operand) (rest : List ℕ) (on_yes : CodeRow) (between : Counts) (more : List ℕ)
    (on_no : CodeRow)
    (after : Counts) (end : List ℕ)
    → operand_at bounds.registers bytes ≡ Ok (on, rest) → below counts above rest ≡ Ok (on_yes, between, more) → below between above more ≡ Ok (on_no, after, end)
    → test_at bounds below counts above bytes ≡ Ok (Either on on_yes on_no, after, end)
unfolding test_at
at_sides bounds below counts above bytes on rest on_yes between more on_no after end h k l = rw (h, k, l) refl

pub leaf_again : (bounds : Bounds) (depth : ℕ) (counts : Counts) (above : Above) (leaf : Leaf) (rest : List ℕ) → bounds.rows ≤ 2 ^ 32 → leaf_flaws bounds leaf ≡ [] → LeafFits leaf
    → row_at bounds (suc depth) counts above (leaf_text leaf ++ rest) ≡ Ok (At_leaf leaf, counts, rest)
unfolding behind_tag goto_at trap_fields_at
leaf_again bounds depth counts above (Goto row) rest few none fits =
    let there : row < bounds.rows = leb-false _ _ (where_nil (leb bounds.rows row) flaws.Target none) in
    at_tag bounds depth counts above tags.Goto (u32_text row ++ rest) ∙ rw (number_again w32 (2 ^ 32) wide32 row rest (omega (arith, there)), none) refl
leaf_again bounds depth counts above Stop rest few none fits = at_tag bounds depth counts above tags.Stop rest
leaf_again bounds depth counts above (Trap kind line) rest few none fits =
    at_tag bounds depth counts above tags.Trap (trap_byte kind ∷ (u32_text line ++ rest)) ∙ rw (trap_again kind (u32_text line ++ rest), number_again w32 (2 ^ 32) wide32 line rest fits) refl

-- a row without a flaw is read, where the reader may go deep enough
pub row_again : (bounds : Bounds) (row : CodeRow) (depth : ℕ) (counts : Counts) (above : Above) (rest : List ℕ) → bounds.rows ≤ 2 ^ 32 → row_flaws bounds counts above row ≡ [] → RowNumbersFit row
    → room bounds counts < depth
    → row_at bounds depth counts above (row_text row ++ rest) ≡ Ok (row, counts_after row counts, rest)
row_again bounds row zero counts above rest few none fits deep = absurd (omega arith)
row_again bounds (Then item next) (suc depth) counts above rest few none fits deep =
    let p = nil_parts (item_flaws bounds counts above item) (row_flaws bounds (counts_with_item (is_memory item) counts) (above_with item above) next) none in
    let q = nil_parts (item_tag_flaws bounds.limits counts above (is_memory item) (is_effect item)) (field_flaws bounds above item) p.0 in
    let o = nil_parts (flaw_where (leb bounds.limits.ops counts.ops) flaws.TooManyOps)
    (flaw_where (is_memory item && leb bounds.limits.mem counts.mem) flaws.TooManyMem ++ flaw_where (is_effect item && above.effect) flaws.EffectTwice) q.0 in
    let some : counts.ops < bounds.limits.ops = leb-false _ _ (where_nil (leb bounds.limits.ops counts.ops) flaws.TooManyOps o.0) in
    let tail = row_text next ++ rest in
    let tag = tag_byte (tags.Item (kind_of item)) in
    let regrouped : row_text (Then item next) ++ rest ≡ tag ∷ (fields_text item ++ tail) = append_assoc (item_text item) (row_text next) rest ∙ ap (λ (t : List ℕ). t ++ tail) (item_text_is item) in
    let tag_none : item_tag_flaws bounds.limits counts above (is_memory_kind (kind_of item)) (is_effect_kind (kind_of item)) ≡ [] =
    ap (λ (t : Bool). item_tag_flaws bounds.limits counts above t (is_effect_kind (kind_of item))) (memory_is item)
    ∙ ap (λ (t : Bool). item_tag_flaws bounds.limits counts above (is_memory item) t) (effect_is item) ∙ q.0 in
    let below = row_again bounds next depth (counts_with_item (is_memory item) counts) (above_with item above) rest few p.1 fits.1 (omega (arith, some)) in
    ap (row_at bounds (suc depth) counts above) regrouped
    ∙ at_tag bounds depth counts above (tags.Item (kind_of item)) (fields_text item ++ tail)
    ∙ at_item bounds (row_at bounds depth) counts above (tag ∷ (fields_text item ++ tail)) (kind_of item) (fields_text item ++ tail) tag_none
    ∙ ap (λ (t : Bool). step_at bounds (row_at bounds depth) (counts_with_item t counts) above (kind_of item) (fields_text item ++ tail)) (memory_is item)
    ∙ at_step bounds (row_at bounds depth) (counts_with_item (is_memory item) counts) above (kind_of item) (fields_text item ++ tail) item tail next
    (counts_after next (counts_with_item (is_memory item) counts)) rest
    (fields_again bounds above item tail q.1 fits.0) below
row_again bounds (Either on on_yes on_no) (suc depth) counts above rest few none fits deep =
    let counted = counts_with_test counts in
    let between = counts_after on_yes counted in
    let p = nil_parts (test_flaws bounds counts on) (row_flaws bounds counted above on_yes ++ row_flaws bounds between above on_no) none in
    let q = nil_parts (test_tag_flaws bounds.limits counts) (operand_flaws bounds.registers on) p.0 in
    let r = nil_parts (row_flaws bounds counted above on_yes) (row_flaws bounds between above on_no) p.1 in
    let some : counts.tests < bounds.limits.tests = leb-false _ _ (where_nil (leb bounds.limits.tests counts.tests) flaws.TooManyTests q.0) in
    let grown = counts_grow on_yes counted in
    let tail = row_text on_no ++ rest in
    let regrouped : row_text (Either on on_yes on_no) ++ rest ≡ 0x10 ∷ (operand_text on ++ (row_text on_yes ++ tail)) =
    ap (λ (t : List ℕ). 0x10 ∷ t) (append_assoc (operand_text on) (row_text on_yes ++ row_text on_no) rest
    ∙ ap (λ (t : List ℕ). operand_text on ++ t) (append_assoc (row_text on_yes) (row_text on_no) rest)) in
    let first = row_again bounds on_yes depth counted above tail few r.0 fits.1 (omega (arith, some)) in
    let second = row_again bounds on_no depth between above rest few r.1 fits.2 (omega (arith, some, grown.0, grown.1)) in
    ap (row_at bounds (suc depth) counts above) regrouped
    ∙ at_tag bounds depth counts above tags.Test (operand_text on ++ (row_text on_yes ++ tail))
    ∙ at_test bounds (row_at bounds depth) counts above (0x10 ∷ (operand_text on ++ (row_text on_yes ++ tail))) (operand_text on ++ (row_text on_yes ++ tail)) q.0
    ∙ at_sides bounds (row_at bounds depth) counted above (operand_text on ++ (row_text on_yes ++ tail)) on (row_text on_yes ++ tail) on_yes between tail on_no (counts_after on_no between) rest
    (operand_again bounds.registers on (row_text on_yes ++ tail) q.1 fits.0) first second
row_again bounds (At_leaf leaf) (suc depth) counts above rest few none fits deep = leaf_again bounds depth counts above leaf rest few none fits
