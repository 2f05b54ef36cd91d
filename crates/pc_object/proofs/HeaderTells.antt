-- The text of a header is read as it, or as the first of its flaws.
use Rattle.std.proofs.Common.{◌≡◌, ℕ, suc, ◌+◌, ◌^◌, ◌<◌, ℤ, Bool, true, false, List, [], ◌∷◌, ◌++◌, length, replicate, Result, Ok, refl, sym, ap, ◌∙◌, subst, arith, append_assoc}
use Rattle.std.proofs.lemmas.Bool.{eqb-true}
use Rattle.std.proofs.lemmas.List.{append-nil}
use Rattle.std.specs.Prelude.{nat_eq, if◌then◌else◌, FitsSigned}
use Rattle.std.specs.List.{flat_map, AllByRecursion}
use Rattle.std.specs.Int.{w16, w32}
use Rattle.pc_word.specs.declared.item.Limits.{Limits}
use Rattle.pc_word.specs.MachineLimits.{most_ops, most_tests, most_mem}
use Rattle.pc_word.specs.Exact.{checked}
use Rattle.pc_word.proofs.Truth.{and_true}
use Rattle.pc_machine.specs.declared.code.Flaw.{Flaw}
use Rattle.pc_machine.specs.declared.code.Flaw.TheVariants as flaws
use Rattle.pc_machine.specs.Registers.{few_registers}
use Rattle.pc_word.specs.Data.{ends_in_zero, has_no_data}
use Rattle.pc_machine.specs.MachineCode.{RowCode}
use Rattle.pc_machine.specs.Flaws.{flaw_where, limit_flaws, limits_flaws, array_count_flaws, register_count_flaws, length_flaws, lengths_flaws}
use Rattle.pc_machine.specs.Flaws.{data_count_flaws, data_tail_flaws, data_flaws, each_data_flaws, initial_flaws, row_count_flaws, header_flaws}
use Rattle.pc_word.proofs.Data.{AreData-none}
use Rattle.pc_machine.proofs.Flaws.{initial_complete, of_as_many}
use Rattle.pc_object.specs.declared.refusal.Refusal.{Refusal}
use Rattle.pc_object.specs.declared.version.Version.{Version}
use Rattle.pc_object.specs.declared.version.Version.TheVariants.{Ptv1, Ptv2}
use Rattle.pc_object.specs.ObjectText.{u16_text, u32_text, word_text, fits_ptv1, version_for, version_of, version_text, data_text, storage_text, header_text}
use Rattle.pc_object.specs.Numbers.{WordsFit}
use Rattle.pc_object.specs.Reading.{◌>>=◌, ◌>>◌, at_field, unflawed, number_at, word_at, version_at, limit_at, limits_at, lengths_at, array_count_at}
use Rattle.pc_object.specs.Reading.{register_count_at, data_word_at, words_at, data_at, each_data_at, version_flaws, Storage, storage_at, row_count_at}
use Rattle.pc_object.specs.Reading.{Header, header_at}
use Rattle.pc_object.proofs.FieldLaws.{wide16, wide32, number_again, word_again}
use Rattle.pc_object.proofs.HeaderLaws.{ends_more}
use Rattle.pc_object.proofs.Tells.{Tells, tells_then, tells_last, tells_next, field_tells, passes_tells}

-- ---- limits and lengths

limit_tells : (most limit : ℕ) (rest : List ℕ) → Tells (limit_flaws most limit) (limit, rest) (limit_at most (limit ∷ rest))
unfolding limit_at
limit_tells most limit rest = passes_tells (limit ∷ rest) (limit_flaws most limit) (limit, rest)

limits_tell : (limits : Limits) (rest : List ℕ) → Tells (limits_flaws limits) (limits, rest) (limits_at (limits.ops ∷ limits.tests ∷ limits.mem ∷ rest))
unfolding limits_at
limits_tell limits rest =
    tells_then (limit_flaws most_ops limits.ops) (limit_flaws most_tests limits.tests ++ limit_flaws most_mem limits.mem) (limits.ops, limits.tests ∷ limits.mem ∷ rest) (limits, rest)
    (limit_at most_ops (limits.ops ∷ limits.tests ∷ limits.mem ∷ rest))
    (λ ops. limit_at most_tests ops.1 >>= λ tests. limit_at most_mem tests.1 >>= λ mem. Ok (record { ops = ops.0; tests = tests.0; mem = mem.0 }, mem.1))
    (limit_tells most_ops limits.ops (limits.tests ∷ limits.mem ∷ rest)) (λ none.
    tells_then (limit_flaws most_tests limits.tests) (limit_flaws most_mem limits.mem) (limits.tests, limits.mem ∷ rest) (limits, rest) (limit_at most_tests (limits.tests ∷ limits.mem ∷ rest))
    (λ tests. limit_at most_mem tests.1 >>= λ mem. Ok (record { ops = limits.ops; tests = tests.0; mem = mem.0 }, mem.1)) (limit_tells most_tests limits.tests (limits.mem ∷ rest)) (λ none2.
    tells_last (limit_flaws most_mem limits.mem) (limits.mem, rest) (limits, rest) (limit_at most_mem (limits.mem ∷ rest))
    (λ mem. Ok (record { ops = limits.ops; tests = limits.tests; mem = mem.0 }, mem.1)) (limit_tells most_mem limits.mem rest) refl))

array_count_tells : (count : ℕ) (rest : List ℕ) → Tells (array_count_flaws count) (count, rest) (array_count_at (count ∷ rest))
unfolding array_count_at
array_count_tells count rest = passes_tells (count ∷ rest) (array_count_flaws count) (count, rest)

lengths_tell : (lengths : List ℕ) (before : ℕ) (rest : List ℕ) → AllByRecursion (λ n. n < 2 ^ 32) lengths
    → Tells (lengths_flaws before lengths) (lengths, rest) (lengths_at (length lengths) before (flat_map u32_text lengths ++ rest))
unfolding lengths_at
lengths_tell [] before rest fits = refl
lengths_tell (n ∷ lengths) before rest fits =
    let tail : List ℕ = flat_map u32_text lengths ++ rest in
    let bytes : List ℕ = u32_text n ++ tail in
    let fs : List Flaw = lengths_flaws before (n ∷ lengths) in
    subst (λ (t : List ℕ). Tells fs (n ∷ lengths, rest) (lengths_at (suc (length lengths)) before t)) (sym (append_assoc (u32_text n) (flat_map u32_text lengths) rest))
    (tells_next fs (n, tail) (n ∷ lengths, rest) (number_at w32 bytes)
    (λ e. at_field bytes (checked (length_flaws before e.0) (before + e.0)) >>= λ total. lengths_at (length lengths) total e.1 >>= λ others. Ok (e.0 ∷ others.0, others.1))
    (number_again w32 (2 ^ 32) wide32 n tail fits.0)
    (tells_then (length_flaws before n) (lengths_flaws (before + n) lengths) (before + n) (n ∷ lengths, rest) (at_field bytes (checked (length_flaws before n) (before + n)))
    (λ total. lengths_at (length lengths) total tail >>= λ others. Ok (n ∷ others.0, others.1)) (field_tells bytes (length_flaws before n) (before + n)) (λ none.
    tells_last (lengths_flaws (before + n) lengths) (lengths, rest) (n ∷ lengths, rest) (lengths_at (length lengths) (before + n) tail) (λ others. Ok (n ∷ others.0, others.1))
    (lengths_tell lengths (before + n) rest fits.1) refl)))

row_count_tells : (count : ℕ) (rest : List ℕ) → count < 2 ^ 32 → Tells (row_count_flaws count) (count, rest) (row_count_at (u32_text count ++ rest))
unfolding row_count_at
row_count_tells count rest few =
    let bytes : List ℕ = u32_text count ++ rest in
    tells_next (row_count_flaws count) (count, rest) (count, rest) (number_at w32 bytes) (λ n. unflawed bytes (row_count_flaws n.0) >> Ok n) (number_again w32 (2 ^ 32) wide32 count rest few)
    (passes_tells bytes (row_count_flaws count) (count, rest))

-- ---- the data of arrays

data_word_tells : (is_last : Bool) (word : ℤ) (rest : List ℕ) → FitsSigned w32 word
    → Tells (if is_last then data_tail_flaws word else []) (word, rest) (data_word_at is_last (word_text word ++ rest))
unfolding data_word_at
data_word_tells is_last word rest fits =
    let bytes : List ℕ = word_text word ++ rest in
    let fs : List Flaw = if is_last then data_tail_flaws word else [] in
    tells_next fs (word, rest) (word, rest) (word_at bytes) (λ w. unflawed bytes (if is_last then data_tail_flaws w.0 else []) >> Ok w) (word_again word rest fits)
    (passes_tells bytes fs (word, rest))

words_tell : (words : List ℤ) (rest : List ℕ) → WordsFit words
    → Tells (flaw_where (ends_in_zero words) flaws.DataTail) (words, rest) (words_at (length words) (flat_map word_text words ++ rest))
unfolding words_at
words_tell [] rest fits = refl
words_tell (word ∷ words) rest fits =
    let tail : List ℕ = flat_map word_text words ++ rest in
    let bytes : List ℕ = word_text word ++ tail in
    let is_last : Bool = nat_eq (length words) 0 in
    let first : List Flaw = if is_last then data_tail_flaws word else [] in
    let others : List Flaw = flaw_where (ends_in_zero words) flaws.DataTail in
    subst (λ (fs : List Flaw). Tells fs (word ∷ words, rest) (words_at (suc (length words)) (flat_map word_text (word ∷ words) ++ rest))) (sym (ends_more word words))
    (subst (λ (t : List ℕ). Tells (first ++ others) (word ∷ words, rest) (words_at (suc (length words)) t)) (sym (append_assoc (word_text word) (flat_map word_text words) rest))
    (tells_then first others (word, tail) (word ∷ words, rest) (data_word_at is_last bytes) (λ w. words_at (length words) w.1 >>= λ ws. Ok (w.0 ∷ ws.0, ws.1))
    (data_word_tells is_last word tail fits.0) (λ none.
    tells_last others (words, rest) (word ∷ words, rest) (words_at (length words) tail) (λ ws. Ok (word ∷ ws.0, ws.1)) (words_tell words rest fits.1) refl)))

data_tells : (elements : ℕ) (words : List ℤ) (rest : List ℕ) → length words < 2 ^ 32 → WordsFit words → Tells (data_flaws elements words) (words, rest) (data_at elements (data_text words ++ rest))
unfolding data_at
data_tells elements words rest few fits =
    let n : ℕ = length words in
    let tail : List ℕ = flat_map word_text words ++ rest in
    let bytes : List ℕ = u32_text n ++ tail in
    let fs : List Flaw = data_flaws elements words in
    subst (λ (t : List ℕ). Tells fs (words, rest) (data_at elements t)) (sym (append_assoc (u32_text n) (flat_map word_text words) rest))
    (tells_next fs (n, tail) (words, rest) (number_at w32 bytes) (λ count. unflawed bytes (data_count_flaws elements count.0) >> words_at count.0 count.1)
    (number_again w32 (2 ^ 32) wide32 n tail few)
    (tells_then (data_count_flaws elements n) (flaw_where (ends_in_zero words) flaws.DataTail) tt (words, rest) (unflawed bytes (data_count_flaws elements n)) (λ u. words_at n tail)
    (field_tells {A = Unit {0}} bytes (data_count_flaws elements n) tt) (λ none. words_tell words rest fits)))

each_data_tells : (lengths : List ℕ) (initial : List (List ℤ)) (rest : List ℕ) → length initial ≡ length lengths → AllByRecursion (λ words. length words < 2 ^ 32) initial
    → AllByRecursion WordsFit initial
    → Tells (each_data_flaws lengths initial) (initial, rest) (each_data_at lengths (flat_map data_text initial ++ rest))
unfolding each_data_at
each_data_tells [] [] rest same few fits = refl
each_data_tells [] (words ∷ initial) rest same few fits = absurd (omega (arith, same))
each_data_tells (elements ∷ lengths) [] rest same few fits = absurd (omega (arith, same))
each_data_tells (elements ∷ lengths) (words ∷ initial) rest same few fits =
    let tail : List ℕ = flat_map data_text initial ++ rest in
    let first : List Flaw = data_flaws elements words in
    let others : List Flaw = each_data_flaws lengths initial in
    subst (λ (t : List ℕ). Tells (first ++ others) (words ∷ initial, rest) (each_data_at (elements ∷ lengths) t)) (sym (append_assoc (data_text words) (flat_map data_text initial) rest))
    (tells_then first others (words, tail) (words ∷ initial, rest) (data_at elements (data_text words ++ tail)) (λ ws. each_data_at lengths ws.1 >>= λ is. Ok (ws.0 ∷ is.0, is.1))
    (data_tells elements words tail few.0 fits.0) (λ none.
    tells_last others (initial, rest) (words ∷ initial, rest) (each_data_at lengths tail) (λ is. Ok (words ∷ is.0, is.1))
    (each_data_tells lengths initial rest (omega (arith, same)) few.1 fits.1) refl))

-- ---- registers, lengths and data

-- what a code says of its registers and arrays has a text
pub record HasStorageText (registers : ℕ) (arrays : List ℕ) (initial : List (List ℤ)) : Type 0 where
  pub few_registers : registers < 2 ^ 16
  pub lengths : AllByRecursion (λ n. n < 2 ^ 32) arrays
  pub lists : length initial ≡ length arrays
  pub counts : AllByRecursion (λ words. length words < 2 ^ 32) initial
  pub words : AllByRecursion WordsFit initial

-- the flaws of registers and arrays
abbrev pub storage_flaws : ℕ → List ℕ → List (List ℤ) → List Flaw
storage_flaws registers arrays initial = register_count_flaws registers ++ (lengths_flaws 0 arrays ++ initial_flaws arrays initial)

-- lists without words are empty lists
empty_lists : (initial : List (List ℤ)) → has_no_data initial ≡ true → initial ≡ replicate (length initial) []
empty_lists [] none = refl
empty_lists ([] ∷ initial) none = ap (λ (lists : List (List ℤ)). [] ∷ lists) (empty_lists initial none)
empty_lists ((word ∷ words) ∷ initial) none = absurd cc

-- the first version tells of the lengths alone
first_tells : (arrays rest : List ℕ) → AllByRecursion (λ n. n < 2 ^ 32) arrays
    → Tells (storage_flaws few_registers arrays (replicate (length arrays) [])) (record { registers = few_registers; arrays = arrays; initial = replicate (length arrays) [] }, rest)
    (storage_at Ptv1 (length arrays) (flat_map u32_text arrays ++ rest))
unfolding storage_at register_count_at
first_tells arrays rest lengths =
    let none : initial_flaws arrays (replicate (length arrays) []) ≡ [] = initial_complete arrays (replicate (length arrays) []) (AreData-none arrays) in
    let storage : Storage = record { registers = few_registers; arrays = arrays; initial = replicate (length arrays) [] } in
    let bytes : List ℕ = flat_map u32_text arrays ++ rest in
    let fs : List Flaw = lengths_flaws 0 arrays in
    let read : Result (Storage × List ℕ) Refusal = lengths_at (length arrays) 0 bytes >>= λ a. Ok (record { registers = few_registers; arrays = a.0; initial = replicate (length a.0) [] }, a.1) in
    subst (λ (gs : List Flaw). Tells (fs ++ gs) (storage, rest) read) (sym none)
    (subst (λ (gs : List Flaw). Tells gs (storage, rest) read) (sym (append-nil fs))
    (tells_last fs (arrays, rest) (storage, rest) (lengths_at (length arrays) 0 bytes)
    (λ a. Ok (record { registers = few_registers; arrays = a.0; initial = replicate (length a.0) [] }, a.1)) (lengths_tell arrays 0 rest lengths) refl))

second_tells : (registers : ℕ) (arrays : List ℕ) (initial : List (List ℤ)) (rest : List ℕ) → HasStorageText registers arrays initial → fits_ptv1 registers initial ≡ false
    → Tells (storage_flaws registers arrays initial) (record { registers = registers; arrays = arrays; initial = initial }, rest)
    (storage_at Ptv2 (length arrays) (storage_text Ptv2 registers arrays initial ++ rest))
unfolding storage_at register_count_at
second_tells registers arrays initial rest has wide =
    let behind : List ℕ = flat_map data_text initial ++ rest in
    let lengths : List ℕ = flat_map u32_text arrays ++ behind in
    let bytes : List ℕ = u16_text registers ++ lengths in
    let storage : Storage = record { registers = registers; arrays = arrays; initial = initial } in
    let fs : List Flaw = register_count_flaws registers in
    let gs : List Flaw = lengths_flaws 0 arrays in
    let hs : List Flaw = each_data_flaws arrays initial in
    let none : initial_flaws arrays initial ≡ hs = ap (λ (t : Bool). flaw_where t flaws.DataCount ++ hs) (of_as_many (length initial) (length arrays) has.lists) in
    let regrouped : storage_text Ptv2 registers arrays initial ++ rest ≡ bytes =
    append_assoc (u16_text registers) (flat_map u32_text arrays ++ flat_map data_text initial) rest
    ∙ ap (λ (t : List ℕ). u16_text registers ++ t) (append_assoc (flat_map u32_text arrays) (flat_map data_text initial) rest) in
    subst (λ (t : List ℕ). Tells (storage_flaws registers arrays initial) (storage, rest) (storage_at Ptv2 (length arrays) t)) (sym regrouped)
    (subst (λ (is : List Flaw). Tells (fs ++ (gs ++ is)) (storage, rest) (storage_at Ptv2 (length arrays) bytes)) (sym none)
    (tells_then fs (gs ++ hs) (registers, lengths) (storage, rest) (number_at w16 bytes >>= λ n. unflawed bytes (register_count_flaws n.0) >> Ok n)
    (λ r. lengths_at (length arrays) 0 r.1 >>= λ a. each_data_at a.0 a.1 >>= λ i. unflawed bytes (version_flaws Ptv2 r.0 i.0)
    >> Ok (record { registers = r.0; arrays = a.0; initial = i.0 }, i.1))
    (tells_next fs (registers, lengths) (registers, lengths) (number_at w16 bytes) (λ n. unflawed bytes (register_count_flaws n.0) >> Ok n)
    (number_again w16 (2 ^ 16) wide16 registers lengths has.few_registers) (passes_tells bytes fs (registers, lengths))) (λ no_registers.
    tells_then gs hs (arrays, behind) (storage, rest) (lengths_at (length arrays) 0 lengths)
    (λ a. each_data_at a.0 a.1 >>= λ i. unflawed bytes (version_flaws Ptv2 registers i.0) >> Ok (record { registers = registers; arrays = a.0; initial = i.0 }, i.1))
    (lengths_tell arrays 0 behind has.lengths) (λ no_lengths.
    tells_last hs (initial, rest) (storage, rest) (each_data_at arrays behind)
    (λ i. unflawed bytes (version_flaws Ptv2 registers i.0) >> Ok (record { registers = registers; arrays = arrays; initial = i.0 }, i.1))
    (each_data_tells arrays initial rest has.lists has.counts has.words) (rw wide refl)))))

storage_tells : (registers : ℕ) (arrays : List ℕ) (initial : List (List ℤ)) (rest : List ℕ) → HasStorageText registers arrays initial
    → Tells (storage_flaws registers arrays initial) (record { registers = registers; arrays = arrays; initial = initial }, rest)
    (storage_at (version_for registers initial) (length arrays) (storage_text (version_for registers initial) registers arrays initial ++ rest))
storage_tells registers arrays initial rest has = by_version (fits_ptv1 registers initial) refl
  where
    told : Version → Type 0
    told version =
        Tells (storage_flaws registers arrays initial) (record { registers = registers; arrays = arrays; initial = initial }, rest)
        (storage_at version (length arrays) (storage_text version registers arrays initial ++ rest))

    by_version : (fits : Bool) → fits_ptv1 registers initial ≡ fits → told (if fits then Ptv1 else Ptv2)
    by_version true e =
        let both = and_true (nat_eq registers few_registers) (has_no_data initial) e in
        let few : registers ≡ few_registers = eqb-true registers few_registers both.0 in
        let none : initial ≡ replicate (length arrays) [] = empty_lists initial both.1 ∙ ap (λ (n : ℕ). replicate n []) has.lists in
        subst (λ (n : ℕ). Tells (storage_flaws n arrays initial) (record { registers = n; arrays = arrays; initial = initial }, rest)
        (storage_at Ptv1 (length arrays) (flat_map u32_text arrays ++ rest))) (sym few)
        (subst (λ (lists : List (List ℤ)). Tells (storage_flaws few_registers arrays lists) (record { registers = few_registers; arrays = arrays; initial = lists }, rest)
        (storage_at Ptv1 (length arrays) (flat_map u32_text arrays ++ rest))) (sym none) (first_tells arrays rest has.lengths))
    by_version false e = second_tells registers arrays initial rest has e

-- ---- the whole header

version_again : (version : Version) (rest : List ℕ) → version_at (version_text version ++ rest) ≡ Ok (version, rest)
unfolding version_at
version_again Ptv1 rest = refl
version_again Ptv2 rest = refl

-- the header of a code
abbrev pub shape_of : RowCode → Header
shape_of code = record { limits = code.limits; storage = record { registers = code.registers; arrays = code.arrays; initial = code.initial }; rows = length code.rows }

-- its flaws with those of registers and arrays together
regrouped_flaws : (code : RowCode)
    → header_flaws code
    ≡ limits_flaws code.limits ++ (array_count_flaws (length code.arrays) ++ (storage_flaws code.registers code.arrays code.initial ++ row_count_flaws (length code.rows)))
regrouped_flaws code =
    let registers : List Flaw = register_count_flaws code.registers in
    let lengths : List Flaw = lengths_flaws 0 code.arrays in
    let initial : List Flaw = initial_flaws code.arrays code.initial in
    let rows : List Flaw = row_count_flaws (length code.rows) in
    ap (λ (fs : List Flaw). limits_flaws code.limits ++ (array_count_flaws (length code.arrays) ++ fs))
    (ap (λ (fs : List Flaw). registers ++ fs) (sym (append_assoc lengths initial rows)) ∙ sym (append_assoc registers (lengths ++ initial) rows))

pub header_tells : (code : RowCode) (rest : List ℕ) → HasStorageText code.registers code.arrays code.initial → length code.rows < 2 ^ 32
    → Tells (header_flaws code) (shape_of code, rest) (header_at (header_text code ++ rest))
unfolding header_at
header_tells code rest has few_rows =
    let version : Version = version_of code in
    let stored : List ℕ = storage_text version code.registers code.arrays code.initial in
    let rows : List ℕ = u32_text (length code.rows) ++ rest in
    let count : List ℕ = length code.arrays ∷ (stored ++ rows) in
    let limits : List ℕ = code.limits.ops ∷ code.limits.tests ∷ code.limits.mem ∷ count in
    let got : Header × List ℕ = (shape_of code, rest) in
    let storage : Storage = record { registers = code.registers; arrays = code.arrays; initial = code.initial } in
    let in_storage : List Flaw = storage_flaws code.registers code.arrays code.initial in
    let in_rows : List Flaw = row_count_flaws (length code.rows) in
    let fs : List Flaw = limits_flaws code.limits ++ (array_count_flaws (length code.arrays) ++ (in_storage ++ in_rows)) in
    let regrouped : header_text code ++ rest ≡ version_text version ++ limits =
    append_assoc (version_text version) (code.limits.ops ∷ code.limits.tests ∷ code.limits.mem ∷ length code.arrays ∷ (stored ++ u32_text (length code.rows))) rest
    ∙ ap (λ (t : List ℕ). version_text version ++ (code.limits.ops ∷ code.limits.tests ∷ code.limits.mem ∷ length code.arrays ∷ t)) (append_assoc stored (u32_text (length code.rows)) rest) in
    subst (λ (hs : List Flaw). Tells hs got (header_at (header_text code ++ rest))) (sym (regrouped_flaws code))
    (subst (λ (t : List ℕ). Tells fs got (header_at t)) (sym regrouped)
    (tells_next fs (version, limits) got (version_at (version_text version ++ limits))
    (λ version. limits_at version.1 >>= λ limits. array_count_at limits.1 >>= λ count. storage_at version.0 count.0 count.1 >>= λ storage. row_count_at storage.1 >>= λ rows.
    Ok (record { limits = limits.0; storage = storage.0; rows = rows.0 }, rows.1))
    (version_again version limits)
    (tells_then (limits_flaws code.limits) (array_count_flaws (length code.arrays) ++ (in_storage ++ in_rows)) (code.limits, count) got (limits_at limits)
    (λ limits. array_count_at limits.1 >>= λ count. storage_at version count.0 count.1 >>= λ storage. row_count_at storage.1 >>= λ rows.
    Ok (record { limits = limits.0; storage = storage.0; rows = rows.0 }, rows.1))
    (limits_tell code.limits count) (λ no_limits.
    tells_then (array_count_flaws (length code.arrays)) (in_storage ++ in_rows) (length code.arrays, stored ++ rows) got (array_count_at count)
    (λ count. storage_at version count.0 count.1 >>= λ storage. row_count_at storage.1 >>= λ rows. Ok (record { limits = code.limits; storage = storage.0; rows = rows.0 }, rows.1))
    (array_count_tells (length code.arrays) (stored ++ rows)) (λ no_count.
    tells_then in_storage in_rows (storage, rows) got (storage_at version (length code.arrays) (stored ++ rows))
    (λ storage. row_count_at storage.1 >>= λ rows. Ok (record { limits = code.limits; storage = storage.0; rows = rows.0 }, rows.1))
    (storage_tells code.registers code.arrays code.initial rows has) (λ no_storage.
    tells_last in_rows (length code.rows, rest) got (row_count_at rows)
    (λ rows. Ok (record { limits = code.limits; storage = storage; rows = rows.0 }, rows.1)) (row_count_tells (length code.rows) rest few_rows) refl))))))
