-- The text of an object that is cut off. Where a reader gives a value, it gives the same where more bytes follow; and where it
-- refuses for another reason than the end of the bytes, it refuses there too.
use Rattle.std.proofs.Common.{◌≡◌, ℕ, zero, suc, ◌+◌, ◌<◌, ◌≤◌, Bool, true, false, List, [], ◌∷◌, ◌++◌, length, get_or, take, drop, drop-cons}
use Rattle.std.proofs.Common.{Option, Some, None, Result, Ok, Err, refl, sym, ap, ◌∙◌, subst, arith, length-append}
use Rattle.std.proofs.lemmas.List.{append-nil, take-append-le, drop-append-le, take-append-drop, length-take}
use Rattle.std.specs.Prelude.{ℤ, nat_eq, nat_lt, if◌then◌else◌, ◌==◌}
use Rattle.std.specs.Int.{Width, w16, w32, byte_len, from_be_bytes, cast_signed}
use Rattle.pc_word.specs.declared.item.Item.TheVariants as items
use Rattle.pc_word.specs.declared.item.Operand.TheVariants.{Name, Lit}
use Rattle.pc_word.specs.Row.{Then, Either, At_leaf}
use Rattle.pc_word.specs.MachineLimits.{most_ops, most_tests, most_mem}
use Rattle.pc_word.specs.Exact.{checked}
use Rattle.pc_word.proofs.Truth.{most_of, of_most}
use Rattle.pc_machine.specs.declared.code.Flaw.{Flaw}
use Rattle.pc_machine.specs.declared.code.Flaw.TheVariants as flaws
use Rattle.pc_machine.specs.declared.check.Bounds.{Bounds}
use Rattle.pc_machine.specs.declared.check.Counts.{Counts}
use Rattle.pc_machine.specs.declared.tree.Leaf.TheVariants.{Goto, Trap}
use Rattle.pc_machine.specs.MachineCode.{CodeRow}
use Rattle.pc_machine.specs.Flaws.{register_count_flaws, data_count_flaws, data_tail_flaws}
use Rattle.pc_machine.specs.Flaws.{limit_flaws, array_count_flaws, length_flaws, row_count_flaws, Above, above_with, nothing_above, no_counts}
use Rattle.pc_machine.specs.Flaws.{register_flaws, dest_flaws, array_flaws, target_flaws, flaw_where}
use Rattle.pc_object.specs.declared.version.Version.{Version}
use Rattle.pc_object.specs.declared.version.Version.TheVariants.{Ptv1, Ptv2}
use Rattle.pc_object.specs.declared.object.Note.{Note}
use Rattle.pc_object.specs.declared.refusal.Refusal.{Refusal}
use Rattle.pc_object.specs.declared.refusal.Refusal.TheVariants.{NotMagic, Short, Flawed, Longer}
use Rattle.pc_object.specs.declared.refusal.ObjectError.TheVariants.{Truncated}
use Rattle.pc_object.specs.declared.tag.ItemKind.{ItemKind}
use Rattle.pc_object.specs.declared.tag.ItemKind.TheVariants as kinds
use Rattle.pc_object.specs.declared.tag.Tag.{Tag}
use Rattle.pc_object.specs.declared.tag.Tag.TheVariants as tags
use Rattle.pc_object.specs.ObjectText.{CodeWithNotes, object_text, IsObject}
use Rattle.pc_object.specs.Numbers.{HasWords}
use Rattle.pc_object.specs.Reading.{◌>>=◌, ◌>>◌, at_field, unflawed, known, byte_at, number_at, word_at, magic_at, limit_at, limits_at, lengths_at}
use Rattle.pc_object.specs.Reading.{array_count_at, row_count_at, operator_of_byte, trap_of, operator_at, trap_at, register_at, dest_at, array_at}
use Rattle.pc_object.specs.Reading.{operand_at, tag_of, tag_at, is_memory_kind, is_effect_kind, fields_at, goto_at, trap_fields_at, PartOfRow}
use Rattle.pc_object.specs.Reading.{ReadsPart, step_at, test_at, counted_item, counted_test, behind_tag, row_at, deepest, rows_at, choice_at}
use Rattle.pc_object.specs.Reading.{digit_at, version_at, register_count_at, data_word_at, words_at, data_at, each_data_at, initial_at, version_flaws}
use Rattle.pc_object.specs.Reading.{Storage, storage_at, code_with}
use Rattle.pc_object.specs.Reading.{note_at, notes_at, end_at, Header, header_at, header_bounds, object_at, told_of, object_reading}
use Rattle.pc_object.proofs.ObjectLaws.{object_again}

-- ---- what more bytes change

-- a reading refuses
abbrev IsRefused : {A : Type 0} → Result A Refusal → Type 0
IsRefused (Ok x) = ⊥
IsRefused (Err refusal) = Unit {0}

-- what is read of bytes, and what is read where more follow: at a value what `value` says, at the end of the bytes nothing, and any other
-- refusal is one there too
abbrev Extends : {A : Type 0} → (A → Result A Refusal → Type 0) → Result A Refusal → Result A Refusal → Type 0
Extends value (Ok x) longer = value x longer
Extends value (Err Short) longer = Unit {0}
Extends value (Err NotMagic) longer = IsRefused longer
Extends value (Err (Flawed left flaw)) longer = IsRefused longer
Extends value (Err (Longer left)) longer = IsRefused longer

-- the same value is read, but for what is left after it
abbrev Gives : {A : Type 0} → (A → A) → A → Result A Refusal → Type 0
Gives more x longer = longer ≡ Ok (more x)

-- more bytes are left after a value
abbrev with_more : {A : Type 0} → List ℕ → A × List ℕ → A × List ℕ
with_more q x = (x.0, x.1 ++ q)

-- and after a part of a row
abbrev part_more : List ℕ → PartOfRow → PartOfRow
part_more q x = (x.0, x.1, x.2 ++ q)

-- the same value
abbrev same : {A : Type 0} → A → A
same x = x

refused_then : {A B : Type 0} (n : Result A Refusal) (k : A → Result B Refusal) → IsRefused n → IsRefused (n >>= k)
refused_then (Ok x) k h = absurd h
refused_then (Err refusal) k h = tt

-- one reading after another
both_extend : {A B : Type 0} (more : A → A) (value : B → Result B Refusal → Type 0) (m n : Result A Refusal) (f k : A → Result B Refusal)
    → Extends (Gives more) m n → ((x : A) → Extends value (f x) (k (more x))) → Extends value (m >>= f) (n >>= k)
both_extend more value (Ok x) n f k e rest = subst (λ (r : Result _ Refusal). Extends value (f x) (r >>= k)) (sym e) (rest x)
both_extend more value (Err Short) n f k e rest = tt
both_extend more value (Err NotMagic) n f k e rest = refused_then n k e
both_extend more value (Err (Flawed left flaw)) n f k e rest = refused_then n k e
both_extend more value (Err (Longer left)) n f k e rest = refused_then n k e

-- the same, where what comes next looks only at the value and at what is left
then_extends : {A B : Type 0} (q : List ℕ) (value : B → Result B Refusal → Type 0) (m n : Result (A × List ℕ) Refusal) (f : A × List ℕ → Result B Refusal)
    → Extends (Gives (with_more q)) m n → ((x : A × List ℕ) → Extends value (f x) (f (with_more q x))) → Extends value (m >>= f) (n >>= f)
then_extends q value m n f e rest = both_extend (with_more q) value m n f f e rest

-- a check says the same of a field, wherever it stands
field_extends : {A : Type 0} (bytes longer : List ℕ) (answer : Result A Flaw) → Extends (Gives same) (at_field bytes answer) (at_field longer answer)
field_extends bytes longer (Ok x) = refl
field_extends bytes longer (Err flaw) = tt

known_extends : {A : Type 0} (bytes longer : List ℕ) (flaw : Flaw) (found : Option A) → Extends (Gives same) (known bytes flaw found) (known longer flaw found)
known_extends bytes longer flaw (Some x) = refl
known_extends bytes longer flaw None = tt

-- ---- numbers

byte_extends : (bytes q : List ℕ) → Extends (Gives (with_more q)) (byte_at bytes) (byte_at (bytes ++ q))
byte_extends [] q = tt
byte_extends (byte ∷ bytes) q = refl

number_extends : (w : Width) (bytes q : List ℕ) → Extends (Gives (with_more q)) (number_at w bytes) (number_at w (bytes ++ q))
number_extends w bytes q = by_length (nat_lt (length bytes) (byte_len w)) refl
  where
    by_length : (b : Bool) → nat_lt (length bytes) (byte_len w) ≡ b
        → Extends (Gives (with_more q)) (if b then Err Short else Ok (from_be_bytes w (take (byte_len w) bytes), drop (byte_len w) bytes)) (number_at w (bytes ++ q))
    by_length true e = tt
    by_length false e =
        let long : byte_len w ≤ length bytes = most_of (length bytes) (byte_len w) e in
        let longer : nat_lt (length (bytes ++ q)) (byte_len w) ≡ false = of_most (length (bytes ++ q)) (byte_len w) (omega (arith, length-append bytes q)) in
        rw (longer, take-append-le (byte_len w) bytes q long, drop-append-le (byte_len w) bytes q long) refl

word_extends : (bytes q : List ℕ) → Extends (Gives (with_more q)) (word_at bytes) (word_at (bytes ++ q))
unfolding word_at
word_extends bytes q =
    then_extends q (Gives (with_more q)) (number_at w32 bytes) (number_at w32 (bytes ++ q)) (λ number. Ok (cast_signed w32 number.0, number.1)) (number_extends w32 bytes q) (λ number. refl)

-- a byte that is checked
checked_byte_extends : (told : ℕ → List Flaw) (bytes q : List ℕ)
    → Extends (Gives (with_more q)) (byte_at bytes >>= λ x. unflawed bytes (told x.0) >> Ok x) (byte_at (bytes ++ q) >>= λ x. unflawed (bytes ++ q) (told x.0) >> Ok x)
checked_byte_extends told bytes q =
    both_extend (with_more q) (Gives (with_more q)) (byte_at bytes) (byte_at (bytes ++ q)) (λ x. unflawed bytes (told x.0) >> Ok x) (λ x. unflawed (bytes ++ q) (told x.0) >> Ok x)
    (byte_extends bytes q)
    (λ x. both_extend same (Gives (with_more q)) (unflawed bytes (told x.0)) (unflawed (bytes ++ q) (told x.0)) (λ u. Ok x) (λ u. Ok (with_more q x))
    (field_extends bytes (bytes ++ q) (checked {X = Unit {0}} (told x.0) tt)) (λ u. refl))

-- a byte that a table knows
table_extends : {A : Type 0} (table : ℕ → Option A) (flaw : Flaw) (bytes q : List ℕ)
    → Extends (Gives (with_more q)) (byte_at bytes >>= λ x. known bytes flaw (table x.0) >>= λ a. Ok (a, x.1)) (byte_at (bytes ++ q) >>= λ x. known (bytes ++ q) flaw (table x.0) >>= λ a. Ok (a, x.1))
table_extends table flaw bytes q =
    both_extend (with_more q) (Gives (with_more q)) (byte_at bytes) (byte_at (bytes ++ q))
    (λ x. known bytes flaw (table x.0) >>= λ a. Ok (a, x.1)) (λ x. known (bytes ++ q) flaw (table x.0) >>= λ a. Ok (a, x.1)) (byte_extends bytes q)
    (λ x. both_extend same (Gives (with_more q)) (known bytes flaw (table x.0)) (known (bytes ++ q) flaw (table x.0)) (λ a. Ok (a, x.1)) (λ a. Ok (a, x.1 ++ q))
    (known_extends bytes (bytes ++ q) flaw (table x.0)) (λ a. refl))

-- ---- the header

magic_choice_extends : (b : Bool) (read longer : Result (List ℕ) Refusal) (q : List ℕ) → Extends (Gives (λ rest. rest ++ q)) read longer
    → Extends (Gives (λ rest. rest ++ q)) (if b then read else Err NotMagic) (if b then longer else Err NotMagic)
magic_choice_extends true read longer q deeper = deeper
magic_choice_extends false read longer q deeper = tt

magic_extends : (magic bytes q : List ℕ) → Extends (Gives (λ rest. rest ++ q)) (magic_at magic bytes) (magic_at magic (bytes ++ q))
magic_extends [] bytes q = refl
magic_extends (first ∷ magic) [] q = tt
magic_extends (first ∷ magic) (byte ∷ bytes) q = magic_choice_extends (byte == first) (magic_at magic bytes) (magic_at magic (bytes ++ q)) q (magic_extends magic bytes q)

digit_extends : (bytes q : List ℕ) → Extends (Gives (with_more q)) (digit_at bytes) (digit_at (bytes ++ q))
digit_extends [] q = tt
digit_extends (byte ∷ bytes) q = by_digit (byte == 0x31) (byte == 0x32)
  where
    by_digit : (one two : Bool)
        → Extends {A = Version × List ℕ} (Gives (with_more q)) (if one then Ok (Ptv1, bytes) else if two then Ok (Ptv2, bytes) else Err NotMagic)
        (if one then Ok (Ptv1, bytes ++ q) else if two then Ok (Ptv2, bytes ++ q) else Err NotMagic)
    by_digit true two = refl
    by_digit false true = refl
    by_digit false false = tt

version_extends : (bytes q : List ℕ) → Extends (Gives (with_more q)) (version_at bytes) (version_at (bytes ++ q))
unfolding version_at
version_extends bytes q =
    let ptv : List ℕ = 0x50 ∷ 0x54 ∷ 0x56 ∷ [] in
    both_extend (λ rest. rest ++ q) (Gives (with_more q)) (magic_at ptv bytes) (magic_at ptv (bytes ++ q)) digit_at digit_at (magic_extends ptv bytes q) (λ rest. digit_extends rest q)

limit_extends : (most : ℕ) (bytes q : List ℕ) → Extends (Gives (with_more q)) (limit_at most bytes) (limit_at most (bytes ++ q))
unfolding limit_at
limit_extends most bytes q = checked_byte_extends (limit_flaws most) bytes q

limits_extend : (bytes q : List ℕ) → Extends (Gives (with_more q)) (limits_at bytes) (limits_at (bytes ++ q))
unfolding limits_at
limits_extend bytes q =
    then_extends q (Gives (with_more q)) (limit_at most_ops bytes) (limit_at most_ops (bytes ++ q))
    (λ ops. limit_at most_tests ops.1 >>= λ tests. limit_at most_mem tests.1 >>= λ mem. Ok (record { ops = ops.0; tests = tests.0; mem = mem.0 }, mem.1))
    (limit_extends most_ops bytes q) (λ ops.
    then_extends q (Gives (with_more q)) (limit_at most_tests ops.1) (limit_at most_tests (ops.1 ++ q))
    (λ tests. limit_at most_mem tests.1 >>= λ mem. Ok (record { ops = ops.0; tests = tests.0; mem = mem.0 }, mem.1))
    (limit_extends most_tests ops.1 q) (λ tests.
    then_extends q (Gives (with_more q)) (limit_at most_mem tests.1) (limit_at most_mem (tests.1 ++ q))
    (λ mem. Ok (record { ops = ops.0; tests = tests.0; mem = mem.0 }, mem.1)) (limit_extends most_mem tests.1 q) (λ mem. refl)))

lengths_extend : (count before : ℕ) (bytes q : List ℕ) → Extends (Gives (with_more q)) (lengths_at count before bytes) (lengths_at count before (bytes ++ q))
unfolding lengths_at
lengths_extend zero before bytes q = refl
lengths_extend (suc count) before bytes q =
    both_extend (with_more q) (Gives (with_more q)) (number_at w32 bytes) (number_at w32 (bytes ++ q))
    (λ elements. at_field bytes (checked (length_flaws before elements.0) (before + elements.0)) >>= λ total. lengths_at count total elements.1 >>= λ others. Ok (elements.0 ∷ others.0, others.1))
    (λ elements. at_field (bytes ++ q) (checked (length_flaws before elements.0) (before + elements.0)) >>= λ total. lengths_at count total elements.1 >>= λ others. Ok
    (elements.0 ∷ others.0, others.1))
    (number_extends w32 bytes q) (λ elements.
    both_extend same (Gives (with_more q)) (at_field bytes (checked (length_flaws before elements.0) (before + elements.0)))
    (at_field (bytes ++ q) (checked (length_flaws before elements.0) (before + elements.0)))
    (λ total. lengths_at count total elements.1 >>= λ others. Ok (elements.0 ∷ others.0, others.1))
    (λ total. lengths_at count total (elements.1 ++ q) >>= λ others. Ok (elements.0 ∷ others.0, others.1))
    (field_extends bytes (bytes ++ q) (checked (length_flaws before elements.0) (before + elements.0))) (λ total.
    then_extends q (Gives (with_more q)) (lengths_at count total elements.1) (lengths_at count total (elements.1 ++ q))
    (λ others. Ok (elements.0 ∷ others.0, others.1)) (lengths_extend count total elements.1 q) (λ others. refl)))

array_count_extends : (bytes q : List ℕ) → Extends (Gives (with_more q)) (array_count_at bytes) (array_count_at (bytes ++ q))
unfolding array_count_at
array_count_extends bytes q = checked_byte_extends array_count_flaws bytes q

-- a number that is checked
checked_number_extends : (w : Width) (told : ℕ → List Flaw) (bytes q : List ℕ)
    → Extends (Gives (with_more q)) (number_at w bytes >>= λ x. unflawed bytes (told x.0) >> Ok x) (number_at w (bytes ++ q) >>= λ x. unflawed (bytes ++ q) (told x.0) >> Ok x)
checked_number_extends w told bytes q =
    both_extend (with_more q) (Gives (with_more q)) (number_at w bytes) (number_at w (bytes ++ q))
    (λ x. unflawed bytes (told x.0) >> Ok x) (λ x. unflawed (bytes ++ q) (told x.0) >> Ok x) (number_extends w bytes q)
    (λ x. both_extend same (Gives (with_more q)) (unflawed bytes (told x.0)) (unflawed (bytes ++ q) (told x.0)) (λ u. Ok x) (λ u. Ok (with_more q x))
    (field_extends bytes (bytes ++ q) (checked {X = Unit {0}} (told x.0) tt)) (λ u. refl))

register_count_extends : (version : Version) (bytes q : List ℕ) → Extends (Gives (with_more q)) (register_count_at version bytes) (register_count_at version (bytes ++ q))
unfolding register_count_at
register_count_extends Ptv1 bytes q = refl
register_count_extends Ptv2 bytes q = checked_number_extends w16 register_count_flaws bytes q

data_word_extends : (is_last : Bool) (bytes q : List ℕ) → Extends (Gives (with_more q)) (data_word_at is_last bytes) (data_word_at is_last (bytes ++ q))
unfolding data_word_at
data_word_extends is_last bytes q =
    let told : ℤ → List Flaw = λ word. if is_last then data_tail_flaws word else [] in
    both_extend (with_more q) (Gives (with_more q)) (word_at bytes) (word_at (bytes ++ q))
    (λ x. unflawed bytes (told x.0) >> Ok x) (λ x. unflawed (bytes ++ q) (told x.0) >> Ok x) (word_extends bytes q)
    (λ x. both_extend same (Gives (with_more q)) (unflawed bytes (told x.0)) (unflawed (bytes ++ q) (told x.0)) (λ u. Ok x) (λ u. Ok (with_more q x))
    (field_extends bytes (bytes ++ q) (checked {X = Unit {0}} (told x.0) tt)) (λ u. refl))

words_extend : (count : ℕ) (bytes q : List ℕ) → Extends (Gives (with_more q)) (words_at count bytes) (words_at count (bytes ++ q))
unfolding words_at
words_extend zero bytes q = refl
words_extend (suc after) bytes q =
    then_extends q (Gives (with_more q)) (data_word_at (nat_eq after 0) bytes) (data_word_at (nat_eq after 0) (bytes ++ q))
    (λ word. words_at after word.1 >>= λ others. Ok (word.0 ∷ others.0, others.1)) (data_word_extends (nat_eq after 0) bytes q) (λ word.
    then_extends q (Gives (with_more q)) (words_at after word.1) (words_at after (word.1 ++ q)) (λ others. Ok (word.0 ∷ others.0, others.1)) (words_extend after word.1 q) (λ others. refl))

data_extends : (elements : ℕ) (bytes q : List ℕ) → Extends (Gives (with_more q)) (data_at elements bytes) (data_at elements (bytes ++ q))
unfolding data_at
data_extends elements bytes q =
    both_extend (with_more q) (Gives (with_more q)) (number_at w32 bytes) (number_at w32 (bytes ++ q))
    (λ count. unflawed bytes (data_count_flaws elements count.0) >> words_at count.0 count.1)
    (λ count. unflawed (bytes ++ q) (data_count_flaws elements count.0) >> words_at count.0 count.1) (number_extends w32 bytes q) (λ count.
    both_extend same (Gives (with_more q)) (unflawed bytes (data_count_flaws elements count.0)) (unflawed (bytes ++ q) (data_count_flaws elements count.0))
    (λ u. words_at count.0 count.1) (λ u. words_at count.0 (count.1 ++ q))
    (field_extends bytes (bytes ++ q) (checked {X = Unit {0}} (data_count_flaws elements count.0) tt)) (λ u. words_extend count.0 count.1 q))

each_data_extends : (lengths bytes q : List ℕ) → Extends (Gives (with_more q)) (each_data_at lengths bytes) (each_data_at lengths (bytes ++ q))
unfolding each_data_at
each_data_extends [] bytes q = refl
each_data_extends (elements ∷ lengths) bytes q =
    then_extends q (Gives (with_more q)) (data_at elements bytes) (data_at elements (bytes ++ q))
    (λ words. each_data_at lengths words.1 >>= λ others. Ok (words.0 ∷ others.0, others.1)) (data_extends elements bytes q) (λ words.
    then_extends q (Gives (with_more q)) (each_data_at lengths words.1) (each_data_at lengths (words.1 ++ q)) (λ others. Ok (words.0 ∷ others.0, others.1)) (each_data_extends lengths words.1 q)
    (λ others. refl))

initial_extends : (version : Version) (lengths bytes q : List ℕ) → Extends (Gives (with_more q)) (initial_at version lengths bytes) (initial_at version lengths (bytes ++ q))
initial_extends Ptv1 lengths bytes q = refl
initial_extends Ptv2 lengths bytes q = each_data_extends lengths bytes q

storage_extends : (version : Version) (count : ℕ) (bytes q : List ℕ) → Extends (Gives (with_more q)) (storage_at version count bytes) (storage_at version count (bytes ++ q))
unfolding storage_at
storage_extends version count bytes q =
    both_extend (with_more q) (Gives (with_more q)) (register_count_at version bytes) (register_count_at version (bytes ++ q))
    (behind bytes) (behind (bytes ++ q)) (register_count_extends version bytes q) (λ registers.
    both_extend (with_more q) (Gives (with_more q)) (lengths_at count 0 registers.1) (lengths_at count 0 (registers.1 ++ q))
    (behind_lengths bytes registers.0) (behind_lengths (bytes ++ q) registers.0) (lengths_extend count 0 registers.1 q) (λ arrays.
    both_extend (with_more q) (Gives (with_more q)) (initial_at version arrays.0 arrays.1) (initial_at version arrays.0 (arrays.1 ++ q))
    (behind_data bytes registers.0 arrays.0) (behind_data (bytes ++ q) registers.0 arrays.0) (initial_extends version arrays.0 arrays.1 q) (λ initial.
    both_extend same (Gives (with_more q)) (unflawed bytes (version_flaws version registers.0 initial.0)) (unflawed (bytes ++ q) (version_flaws version registers.0 initial.0))
    (λ u. Ok (record { registers = registers.0; arrays = arrays.0; initial = initial.0 }, initial.1))
    (λ u. Ok (record { registers = registers.0; arrays = arrays.0; initial = initial.0 }, initial.1 ++ q))
    (field_extends bytes (bytes ++ q) (checked {X = Unit {0}} (version_flaws version registers.0 initial.0) tt)) (λ u. refl))))
  where
    behind_data : List ℕ → ℕ → List ℕ → List (List ℤ) × List ℕ → Result (Storage × List ℕ) Refusal
    behind_data start registers arrays initial =
        unflawed start (version_flaws version registers initial.0) >> Ok (record { registers = registers; arrays = arrays; initial = initial.0 }, initial.1)

    behind_lengths : List ℕ → ℕ → List ℕ × List ℕ → Result (Storage × List ℕ) Refusal
    behind_lengths start registers arrays = initial_at version arrays.0 arrays.1 >>= behind_data start registers arrays.0

    behind : List ℕ → ℕ × List ℕ → Result (Storage × List ℕ) Refusal
    behind start registers = lengths_at count 0 registers.1 >>= behind_lengths start registers.0

row_count_extends : (bytes q : List ℕ) → Extends (Gives (with_more q)) (row_count_at bytes) (row_count_at (bytes ++ q))
unfolding row_count_at
row_count_extends bytes q = checked_number_extends w32 row_count_flaws bytes q

header_extends : (bytes q : List ℕ) → Extends (Gives (with_more q)) (header_at bytes) (header_at (bytes ++ q))
unfolding header_at
header_extends bytes q =
    then_extends q (Gives (with_more q)) (version_at bytes) (version_at (bytes ++ q))
    (λ version. limits_at version.1 >>= λ limits. array_count_at limits.1 >>= λ count. storage_at version.0 count.0 count.1 >>= λ storage. row_count_at storage.1 >>= λ rows.
    Ok (record { limits = limits.0; storage = storage.0; rows = rows.0 }, rows.1))
    (version_extends bytes q) (λ version.
    then_extends q (Gives (with_more q)) (limits_at version.1) (limits_at (version.1 ++ q))
    (λ limits. array_count_at limits.1 >>= λ count. storage_at version.0 count.0 count.1 >>= λ storage. row_count_at storage.1 >>= λ rows.
    Ok (record { limits = limits.0; storage = storage.0; rows = rows.0 }, rows.1))
    (limits_extend version.1 q) (λ limits.
    then_extends q (Gives (with_more q)) (array_count_at limits.1) (array_count_at (limits.1 ++ q))
    (λ count. storage_at version.0 count.0 count.1 >>= λ storage. row_count_at storage.1 >>= λ rows. Ok (record { limits = limits.0; storage = storage.0; rows = rows.0 }, rows.1))
    (array_count_extends limits.1 q) (λ count.
    then_extends q (Gives (with_more q)) (storage_at version.0 count.0 count.1) (storage_at version.0 count.0 (count.1 ++ q))
    (λ storage. row_count_at storage.1 >>= λ rows. Ok (record { limits = limits.0; storage = storage.0; rows = rows.0 }, rows.1))
    (storage_extends version.0 count.0 count.1 q) (λ storage.
    then_extends q (Gives (with_more q)) (row_count_at storage.1) (row_count_at (storage.1 ++ q))
    (λ rows. Ok (record { limits = limits.0; storage = storage.0; rows = rows.0 }, rows.1)) (row_count_extends storage.1 q) (λ rows. refl)))))

-- ---- the fields of a row

operator_extends : (bytes q : List ℕ) → Extends (Gives (with_more q)) (operator_at bytes) (operator_at (bytes ++ q))
unfolding operator_at
operator_extends bytes q = table_extends operator_of_byte flaws.Operator bytes q

trap_extends : (bytes q : List ℕ) → Extends (Gives (with_more q)) (trap_at bytes) (trap_at (bytes ++ q))
unfolding trap_at
trap_extends bytes q = table_extends trap_of flaws.Trap bytes q

tag_extends : (bytes q : List ℕ) → Extends (Gives (with_more q)) (tag_at bytes) (tag_at (bytes ++ q))
unfolding tag_at
tag_extends bytes q = table_extends tag_of flaws.Tag bytes q

register_extends : (registers : ℕ) (bytes q : List ℕ) → Extends (Gives (with_more q)) (register_at registers bytes) (register_at registers (bytes ++ q))
unfolding register_at
register_extends registers bytes q = checked_byte_extends (register_flaws registers) bytes q

dest_extends : (registers : ℕ) (above : Above) (bytes q : List ℕ) → Extends (Gives (with_more q)) (dest_at registers above bytes) (dest_at registers above (bytes ++ q))
unfolding dest_at
dest_extends registers above bytes q = checked_byte_extends (dest_flaws registers above) bytes q

array_extends : (arrays : ℕ) (bytes q : List ℕ) → Extends (Gives (with_more q)) (array_at arrays bytes) (array_at arrays (bytes ++ q))
unfolding array_at
array_extends arrays bytes q = checked_byte_extends (array_flaws arrays) bytes q

operand_extends : (registers : ℕ) (bytes q : List ℕ) → Extends (Gives (with_more q)) (operand_at registers bytes) (operand_at registers (bytes ++ q))
unfolding operand_at
operand_extends registers [] q = tt
operand_extends registers (zero ∷ rest) q =
    then_extends q (Gives (with_more q)) (register_at registers rest) (register_at registers (rest ++ q)) (λ register. Ok (Name register.0, register.1)) (register_extends registers rest q)
    (λ register. refl)
operand_extends registers (suc zero ∷ rest) q =
    then_extends q (Gives (with_more q)) (word_at rest) (word_at (rest ++ q)) (λ word. Ok (Lit word.0, word.1)) (word_extends rest q) (λ word. refl)
operand_extends registers (suc (suc tag) ∷ rest) q = tt

fields_extend : (bounds : Bounds) (above : Above) (kind : ItemKind) (bytes q : List ℕ) → Extends (Gives (with_more q)) (fields_at bounds above kind bytes) (fields_at bounds above kind (bytes ++ q))
unfolding fields_at
fields_extend bounds above kinds.Bin bytes q =
    then_extends q (Gives (with_more q)) (operator_at bytes) (operator_at (bytes ++ q))
    (λ op. dest_at bounds.registers above op.1 >>= λ dest. operand_at bounds.registers dest.1 >>= λ left. operand_at bounds.registers left.1 >>= λ right.
    Ok (items.Bin op.0 dest.0 left.0 right.0, right.1)) (operator_extends bytes q) (λ op.
    then_extends q (Gives (with_more q)) (dest_at bounds.registers above op.1) (dest_at bounds.registers above (op.1 ++ q))
    (λ dest. operand_at bounds.registers dest.1 >>= λ left. operand_at bounds.registers left.1 >>= λ right.
    Ok (items.Bin op.0 dest.0 left.0 right.0, right.1)) (dest_extends bounds.registers above op.1 q) (λ dest.
    then_extends q (Gives (with_more q)) (operand_at bounds.registers dest.1) (operand_at bounds.registers (dest.1 ++ q))
    (λ left. operand_at bounds.registers left.1 >>= λ right. Ok (items.Bin op.0 dest.0 left.0 right.0, right.1)) (operand_extends bounds.registers dest.1 q) (λ left.
    then_extends q (Gives (with_more q)) (operand_at bounds.registers left.1) (operand_at bounds.registers (left.1 ++ q))
    (λ right. Ok (items.Bin op.0 dest.0 left.0 right.0, right.1)) (operand_extends bounds.registers left.1 q) (λ right. refl))))
fields_extend bounds above kinds.Copy bytes q =
    then_extends q (Gives (with_more q)) (dest_at bounds.registers above bytes) (dest_at bounds.registers above (bytes ++ q))
    (λ dest. operand_at bounds.registers dest.1 >>= λ from. Ok (items.Copy dest.0 from.0, from.1)) (dest_extends bounds.registers above bytes q) (λ dest.
    then_extends q (Gives (with_more q)) (operand_at bounds.registers dest.1) (operand_at bounds.registers (dest.1 ++ q))
    (λ from. Ok (items.Copy dest.0 from.0, from.1)) (operand_extends bounds.registers dest.1 q) (λ from. refl))
fields_extend bounds above kinds.Load bytes q =
    then_extends q (Gives (with_more q)) (dest_at bounds.registers above bytes) (dest_at bounds.registers above (bytes ++ q))
    (λ dest. array_at bounds.arrays dest.1 >>= λ array. operand_at bounds.registers array.1 >>= λ index.
    Ok (items.Load dest.0 array.0 index.0, index.1)) (dest_extends bounds.registers above bytes q) (λ dest.
    then_extends q (Gives (with_more q)) (array_at bounds.arrays dest.1) (array_at bounds.arrays (dest.1 ++ q))
    (λ array. operand_at bounds.registers array.1 >>= λ index. Ok (items.Load dest.0 array.0 index.0, index.1)) (array_extends bounds.arrays dest.1 q) (λ array.
    then_extends q (Gives (with_more q)) (operand_at bounds.registers array.1) (operand_at bounds.registers (array.1 ++ q))
    (λ index. Ok (items.Load dest.0 array.0 index.0, index.1)) (operand_extends bounds.registers array.1 q) (λ index. refl)))
fields_extend bounds above kinds.Store bytes q =
    then_extends q (Gives (with_more q)) (array_at bounds.arrays bytes) (array_at bounds.arrays (bytes ++ q))
    (λ array. operand_at bounds.registers array.1 >>= λ index. operand_at bounds.registers index.1 >>= λ value.
    Ok (items.Store array.0 index.0 value.0, value.1)) (array_extends bounds.arrays bytes q) (λ array.
    then_extends q (Gives (with_more q)) (operand_at bounds.registers array.1) (operand_at bounds.registers (array.1 ++ q))
    (λ index. operand_at bounds.registers index.1 >>= λ value. Ok (items.Store array.0 index.0 value.0, value.1)) (operand_extends bounds.registers array.1 q) (λ index.
    then_extends q (Gives (with_more q)) (operand_at bounds.registers index.1) (operand_at bounds.registers (index.1 ++ q))
    (λ value. Ok (items.Store array.0 index.0 value.0, value.1)) (operand_extends bounds.registers index.1 q) (λ value. refl)))
fields_extend bounds above kinds.Print bytes q =
    then_extends q (Gives (with_more q)) (operand_at bounds.registers bytes) (operand_at bounds.registers (bytes ++ q))
    (λ value. Ok (items.Print value.0, value.1)) (operand_extends bounds.registers bytes q) (λ value. refl)
fields_extend bounds above kinds.Read bytes q =
    then_extends q (Gives (with_more q)) (dest_at bounds.registers above bytes) (dest_at bounds.registers above (bytes ++ q))
    (λ dest. Ok (items.Read dest.0, dest.1)) (dest_extends bounds.registers above bytes q) (λ dest. refl)
fields_extend bounds above kinds.More bytes q =
    then_extends q (Gives (with_more q)) (dest_at bounds.registers above bytes) (dest_at bounds.registers above (bytes ++ q))
    (λ dest. Ok (items.More dest.0, dest.1)) (dest_extends bounds.registers above bytes q) (λ dest. refl)

goto_extends : (rows : ℕ) (bytes q : List ℕ) → Extends (Gives (with_more q)) (goto_at rows bytes) (goto_at rows (bytes ++ q))
unfolding goto_at
goto_extends rows bytes q =
    both_extend (with_more q) (Gives (with_more q)) (number_at w32 bytes) (number_at w32 (bytes ++ q))
    (λ row. unflawed bytes (target_flaws rows row.0) >> Ok (At_leaf (Goto row.0), row.1)) (λ row. unflawed (bytes ++ q) (target_flaws rows row.0) >> Ok (At_leaf (Goto row.0), row.1))
    (number_extends w32 bytes q) (λ row.
    both_extend same (Gives (with_more q)) (unflawed bytes (target_flaws rows row.0)) (unflawed (bytes ++ q) (target_flaws rows row.0))
    (λ u. Ok (At_leaf (Goto row.0), row.1)) (λ u. Ok (At_leaf (Goto row.0), row.1 ++ q))
    (field_extends bytes (bytes ++ q) (checked {X = Unit {0}} (target_flaws rows row.0) tt)) (λ u. refl))

trap_fields_extend : (bytes q : List ℕ) → Extends (Gives (with_more q)) (trap_fields_at bytes) (trap_fields_at (bytes ++ q))
unfolding trap_fields_at
trap_fields_extend bytes q =
    then_extends q (Gives (with_more q)) (trap_at bytes) (trap_at (bytes ++ q)) (λ kind. number_at w32 kind.1 >>= λ line. Ok (At_leaf (Trap kind.0 line.0), line.1)) (trap_extends bytes q) (λ kind.
    then_extends q (Gives (with_more q)) (number_at w32 kind.1) (number_at w32 (kind.1 ++ q)) (λ line. Ok (At_leaf (Trap kind.0 line.0), line.1)) (number_extends w32 kind.1 q) (λ line. refl))

-- ---- rows

-- a reader of a part of a row reads the same where more bytes follow
abbrev PartExtends : ReadsPart → Type 0
PartExtends below = (counts : Counts) (above : Above) (bytes q : List ℕ) → Extends (Gives (part_more q)) (below counts above bytes) (below counts above (bytes ++ q))

module _ (bounds : Bounds) (below : ReadsPart) (extends : PartExtends below) where
  step_extends : (counts : Counts) (above : Above) (kind : ItemKind) (bytes q : List ℕ)
      → Extends (Gives (part_more q)) (step_at bounds below counts above kind bytes) (step_at bounds below counts above kind (bytes ++ q))
  unfolding step_at
  step_extends counts above kind bytes q =
      then_extends q (Gives (part_more q)) (fields_at bounds above kind bytes) (fields_at bounds above kind (bytes ++ q))
      (λ item. below counts (above_with item.0 above) item.1 >>= λ next. Ok (Then item.0 next.0, next.1, next.2)) (fields_extend bounds above kind bytes q) (λ item.
      both_extend (part_more q) (Gives (part_more q)) (below counts (above_with item.0 above) item.1) (below counts (above_with item.0 above) (item.1 ++ q))
      (λ next. Ok (Then item.0 next.0, next.1, next.2)) (λ next. Ok (Then item.0 next.0, next.1, next.2)) (extends counts (above_with item.0 above) item.1 q) (λ next. refl))

  test_extends : (counts : Counts) (above : Above) (bytes q : List ℕ) → Extends (Gives (part_more q)) (test_at bounds below counts above bytes) (test_at bounds below counts above (bytes ++ q))
  unfolding test_at
  test_extends counts above bytes q =
      then_extends q (Gives (part_more q)) (operand_at bounds.registers bytes) (operand_at bounds.registers (bytes ++ q))
      (λ on. below counts above on.1 >>= λ on_yes. below on_yes.1 above on_yes.2 >>= λ on_no. Ok (Either on.0 on_yes.0 on_no.0, on_no.1, on_no.2)) (operand_extends bounds.registers bytes q) (λ on.
      both_extend (part_more q) (Gives (part_more q)) (below counts above on.1) (below counts above (on.1 ++ q))
      (λ on_yes. below on_yes.1 above on_yes.2 >>= λ on_no. Ok (Either on.0 on_yes.0 on_no.0, on_no.1, on_no.2))
      (λ on_yes. below on_yes.1 above on_yes.2 >>= λ on_no. Ok (Either on.0 on_yes.0 on_no.0, on_no.1, on_no.2)) (extends counts above on.1 q) (λ on_yes.
      both_extend (part_more q) (Gives (part_more q)) (below on_yes.1 above on_yes.2) (below on_yes.1 above (on_yes.2 ++ q))
      (λ on_no. Ok (Either on.0 on_yes.0 on_no.0, on_no.1, on_no.2)) (λ on_no. Ok (Either on.0 on_yes.0 on_no.0, on_no.1, on_no.2)) (extends on_yes.1 above on_yes.2 q) (λ on_no. refl)))

  behind_extends : (counts : Counts) (above : Above) (bytes longer : List ℕ) (tag : Tag) (rest q : List ℕ)
      → Extends (Gives (part_more q)) (behind_tag bounds below counts above bytes tag rest) (behind_tag bounds below counts above longer tag (rest ++ q))
  unfolding behind_tag
  behind_extends counts above bytes longer tags.Goto rest q =
      then_extends q (Gives (part_more q)) (goto_at bounds.rows rest) (goto_at bounds.rows (rest ++ q)) (λ leaf. Ok (leaf.0, counts, leaf.1)) (goto_extends bounds.rows rest q) (λ leaf. refl)
  behind_extends counts above bytes longer tags.Stop rest q = refl
  behind_extends counts above bytes longer tags.Trap rest q =
      then_extends q (Gives (part_more q)) (trap_fields_at rest) (trap_fields_at (rest ++ q)) (λ leaf. Ok (leaf.0, counts, leaf.1)) (trap_fields_extend rest q) (λ leaf. refl)
  behind_extends counts above bytes longer tags.Test rest q =
      both_extend same (Gives (part_more q)) (at_field bytes (counted_test bounds.limits counts)) (at_field longer (counted_test bounds.limits counts))
      (λ more. test_at bounds below more above rest) (λ more. test_at bounds below more above (rest ++ q)) (field_extends bytes longer (counted_test bounds.limits counts))
      (λ more. test_extends more above rest q)
  behind_extends counts above bytes longer (tags.Item kind) rest q =
      let counted = counted_item bounds.limits counts above (is_memory_kind kind) (is_effect_kind kind) in
      both_extend same (Gives (part_more q)) (at_field bytes counted) (at_field longer counted)
      (λ more. step_at bounds below more above kind rest) (λ more. step_at bounds below more above kind (rest ++ q)) (field_extends bytes longer counted) (λ more. step_extends more above kind rest q)

row_extends : (bounds : Bounds) (depth : ℕ) → PartExtends (row_at bounds depth)
unfolding row_at
row_extends bounds zero counts above bytes q = tt
row_extends bounds (suc depth) counts above bytes q =
    both_extend (with_more q) (Gives (part_more q)) (tag_at bytes) (tag_at (bytes ++ q))
    (λ tag. behind_tag bounds (row_at bounds depth) counts above bytes tag.0 tag.1) (λ tag. behind_tag bounds (row_at bounds depth) counts above (bytes ++ q) tag.0 tag.1)
    (tag_extends bytes q) (λ tag. behind_extends bounds (row_at bounds depth) (row_extends bounds depth) counts above bytes (bytes ++ q) tag.0 tag.1 q)

rows_extend : (bounds : Bounds) (count : ℕ) (bytes q : List ℕ) → Extends (Gives (with_more q)) (rows_at bounds count bytes) (rows_at bounds count (bytes ++ q))
unfolding rows_at
rows_extend bounds zero bytes q = refl
rows_extend bounds (suc count) bytes q =
    both_extend (part_more q) (Gives (with_more q)) (row_at bounds deepest no_counts nothing_above bytes) (row_at bounds deepest no_counts nothing_above (bytes ++ q))
    (λ row. rows_at bounds count row.2 >>= λ others. Ok (row.0 ∷ others.0, others.1)) (λ row. rows_at bounds count row.2 >>= λ others. Ok (row.0 ∷ others.0, others.1))
    (row_extends bounds deepest no_counts nothing_above bytes q) (λ row.
    then_extends q (Gives (with_more q)) (rows_at bounds count row.2) (rows_at bounds count (row.2 ++ q)) (λ others. Ok (row.0 ∷ others.0, others.1)) (rows_extend bounds count row.2 q)
    (λ others. refl))

-- ---- notes

choice_extends : (bytes q : List ℕ) → Extends (Gives (with_more q)) (choice_at bytes) (choice_at (bytes ++ q))
unfolding choice_at
choice_extends bytes q = checked_byte_extends (λ choice. flaw_where (nat_lt 7 choice) flaws.Choice) bytes q

note_extends : (bytes q : List ℕ) → Extends (Gives (with_more q)) (note_at bytes) (note_at (bytes ++ q))
unfolding note_at
note_extends bytes q =
    then_extends q (Gives (with_more q)) (choice_at bytes) (choice_at (bytes ++ q))
    (λ choice. number_at w32 choice.1 >>= λ line. number_at w32 line.1 >>= λ number. number_at w32 number.1 >>= λ limit. Ok (note choice.0 line.0 number.0 limit.0, limit.1))
    (choice_extends bytes q) (λ choice.
    then_extends q (Gives (with_more q)) (number_at w32 choice.1) (number_at w32 (choice.1 ++ q))
    (λ line. number_at w32 line.1 >>= λ number. number_at w32 number.1 >>= λ limit. Ok (note choice.0 line.0 number.0 limit.0, limit.1)) (number_extends w32 choice.1 q) (λ line.
    then_extends q (Gives (with_more q)) (number_at w32 line.1) (number_at w32 (line.1 ++ q))
    (λ number. number_at w32 number.1 >>= λ limit. Ok (note choice.0 line.0 number.0 limit.0, limit.1)) (number_extends w32 line.1 q) (λ number.
    then_extends q (Gives (with_more q)) (number_at w32 number.1) (number_at w32 (number.1 ++ q))
    (λ limit. Ok (note choice.0 line.0 number.0 limit.0, limit.1)) (number_extends w32 number.1 q) (λ limit. refl))))
  where
    note : ℕ → ℕ → ℕ → ℕ → Note
    note choice line number limit = record { choice = choice; line = line; number = number; limit = limit }

notes_extend : (count : ℕ) (bytes q : List ℕ) → Extends (Gives (with_more q)) (notes_at count bytes) (notes_at count (bytes ++ q))
unfolding notes_at
notes_extend zero bytes q = refl
notes_extend (suc count) bytes q =
    then_extends q (Gives (with_more q)) (note_at bytes) (note_at (bytes ++ q)) (λ note. notes_at count note.1 >>= λ others. Ok (note.0 ∷ others.0, others.1)) (note_extends bytes q) (λ note.
    then_extends q (Gives (with_more q)) (notes_at count note.1) (notes_at count (note.1 ++ q)) (λ others. Ok (note.0 ∷ others.0, others.1)) (notes_extend count note.1 q) (λ others. refl))

-- ---- the whole

-- where bytes are an object, more of them are none
abbrev IsNoLonger : CodeWithNotes → Result CodeWithNotes Refusal → Type 0
IsNoLonger object longer = IsRefused longer

end_extends : (rest : List ℕ) (byte : ℕ) (more : List ℕ) (object : CodeWithNotes) → Extends IsNoLonger (end_at rest >> Ok object) (end_at (rest ++ byte ∷ more) >> Ok object)
end_extends [] byte more object = tt
end_extends (first ∷ rest) byte more object = tt

object_extends : (bytes : List ℕ) (byte : ℕ) (more : List ℕ) → Extends IsNoLonger (object_at bytes) (object_at (bytes ++ byte ∷ more))
unfolding object_at
object_extends bytes byte more =
    let q : List ℕ = byte ∷ more in
    then_extends q IsNoLonger (header_at bytes) (header_at (bytes ++ q))
    (λ header. rows_at (header_bounds header.0) header.0.rows header.1 >>= λ rows. number_at w16 rows.1 >>= λ count. notes_at count.0 count.1 >>= λ notes. end_at notes.1 >> Ok
    (object header.0 rows.0 notes.0))
    (header_extends bytes q) (λ header.
    then_extends q IsNoLonger (rows_at (header_bounds header.0) header.0.rows header.1) (rows_at (header_bounds header.0) header.0.rows (header.1 ++ q))
    (λ rows. number_at w16 rows.1 >>= λ count. notes_at count.0 count.1 >>= λ notes. end_at notes.1 >> Ok (object header.0 rows.0 notes.0))
    (rows_extend (header_bounds header.0) header.0.rows header.1 q) (λ rows.
    then_extends q IsNoLonger (number_at w16 rows.1) (number_at w16 (rows.1 ++ q))
    (λ count. notes_at count.0 count.1 >>= λ notes. end_at notes.1 >> Ok (object header.0 rows.0 notes.0)) (number_extends w16 rows.1 q) (λ count.
    then_extends q IsNoLonger (notes_at count.0 count.1) (notes_at count.0 (count.1 ++ q))
    (λ notes. end_at notes.1 >> Ok (object header.0 rows.0 notes.0)) (notes_extend count.0 count.1 q) (λ notes. end_extends notes.1 byte more (object header.0 rows.0 notes.0)))))
  where
    object : Header → List CodeRow → List Note → CodeWithNotes
    object header rows notes = record { code = code_with header rows; notes = notes }

-- what is no refusal where more bytes follow was want of bytes
cut_short : (read longer : Result CodeWithNotes Refusal) (object : CodeWithNotes) → Extends IsNoLonger read longer → longer ≡ Ok object → read ≡ Err Short
cut_short (Ok x) longer object h e = absurd (subst IsRefused e h)
cut_short (Err Short) longer object h e = refl
cut_short (Err NotMagic) longer object h e = absurd (subst IsRefused e h)
cut_short (Err (Flawed left flaw)) longer object h e = absurd (subst IsRefused e h)
cut_short (Err (Longer left)) longer object h e = absurd (subst IsRefused e h)

-- each proper beginning of an object's text is read as truncated, with its length
pub reads_shorter : (object : CodeWithNotes) (k : ℕ) → IsObject object → HasWords object → k < length (object_text object) → object_reading (take k (object_text object)) ≡ Err (Truncated k)
unfolding object_reading
reads_shorter object k h words within =
    let text : List ℕ = object_text object in
    let front : List ℕ = take k text in
    let whole : front ++ (get_or text k 0 ∷ drop (suc k) text) ≡ text =
    ap (λ (rest : List ℕ). front ++ rest) (sym (drop-cons text k 0 within)) ∙ take-append-drop k text in
    let read : object_at text ≡ Ok object = ap object_at (sym (append-nil text)) ∙ object_again object [] h words in
    let short : object_at front ≡ Err Short =
    cut_short (object_at front) (object_at (front ++ (get_or text k 0 ∷ drop (suc k) text))) object (object_extends front (get_or text k 0) (drop (suc k) text)) (ap object_at whole ∙ read) in
    let long : length front ≡ k = omega (arith, length-take k text) in
    ap (told_of (length front)) short ∙ ap (λ (n : ℕ). Err (Truncated n)) long
