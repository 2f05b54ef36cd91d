-- A header that is read is the header that was written, without a flaw.
use Rattle.std.proofs.Common.{◌≡◌, ℕ, zero, suc, ◌+◌, ◌^◌, ◌<◌, ℤ, Bool, true, false, cond, eqb, List, [], ◌∷◌, ◌++◌, length, replicate}
use Rattle.std.proofs.Common.{Ok, Err, refl, sym, ap, subst, ◌∙◌, arith}
use Rattle.std.specs.Prelude.{nat_eq, if◌then◌else◌, FitsSigned}
use Rattle.std.specs.Int.{w16, w32}
use Rattle.std.specs.List.{flat_map, AllByRecursion}
use Rattle.std.proofs.lemmas.Bool.{eqb-true}
use Rattle.std.proofs.lemmas.Bool.Decides.{nat_tests}
use Rattle.std.proofs.lemmas.List.{append-nil}
use Rattle.pc_word.specs.declared.item.Limits.{Limits}
use Rattle.pc_word.specs.Exact.{checked}
use Rattle.pc_word.specs.MachineLimits.{most_mem, most_ops, most_tests}
use Rattle.pc_machine.specs.declared.code.Flaw.{Flaw}
use Rattle.pc_machine.specs.declared.code.Flaw.TheVariants as flaws
use Rattle.pc_machine.specs.Registers.{few_registers}
use Rattle.pc_word.specs.Data.{ends_in_zero}
use Rattle.pc_machine.specs.Flaws.{flaw_where, limit_flaws, limits_flaws, array_count_flaws, register_count_flaws, length_flaws, lengths_flaws}
use Rattle.pc_machine.specs.Flaws.{data_count_flaws, data_tail_flaws, data_flaws, each_data_flaws, initial_flaws, row_count_flaws}
use Rattle.pc_word.proofs.Data.{no_data-replicate, AreData-none}
use Rattle.pc_machine.proofs.Flaws.{initial_complete, no_initial_flaws}
use Rattle.pc_object.specs.declared.version.Version.{Version}
use Rattle.pc_object.specs.declared.version.Version.TheVariants.{Ptv1, Ptv2}
use Rattle.pc_object.specs.declared.refusal.Refusal.TheVariants.{NotMagic}
use Rattle.pc_object.specs.ObjectText.{u16_text, u32_text, word_text, fits_ptv1, version_for, version_text, data_text, storage_text}
use Rattle.pc_object.specs.Numbers.{WordsFit}
use Rattle.pc_object.specs.Reading.{◌>>=◌, ◌>>◌, at_field, unflawed, number_at, word_at, magic_at, digit_at, version_at, limit_at, limits_at, lengths_at}
use Rattle.pc_object.specs.Reading.{array_count_at, register_count_at, data_word_at, words_at, data_at, each_data_at, version_flaws, Storage}
use Rattle.pc_object.specs.Reading.{storage_at, row_count_at, Header, header_at}
use Rattle.pc_object.proofs.FieldLaws.{IsBytes, IsBytes-rest, Takes, Takes-then, bind_ok, ok_is, checked_ok, passes_then, wide16, wide32}
use Rattle.pc_object.proofs.FieldLaws.{number_takes, word_takes, checked_byte_takes}
use Rattle.pc_object.proofs.RowLaws.{nil_joined, where_nil}

-- ---- the first bytes

magic_takes : (magic bytes rest : List ℕ) → IsBytes bytes → magic_at magic bytes ≡ Ok rest → Takes bytes magic rest
magic_takes [] bytes rest fits e = subst (λ (r : List ℕ). Takes bytes [] r) (ok_is bytes rest e) (record { parts = refl; rest_fits = fits })
magic_takes (m ∷ magic) [] rest fits e = absurd cc
magic_takes (m ∷ magic) (b ∷ bytes) rest fits e =
    elim (eqb b m) as (λ t. eqb b m ≡ t → cond t (magic_at magic bytes) (Err NotMagic) ≡ Ok rest → Takes (b ∷ bytes) (m ∷ magic) rest) [
      | true ↦ λ hit found.
          let t = magic_takes magic bytes rest (IsBytes-rest b bytes fits) found in
          record { parts = ap (λ (x : ℕ). x ∷ bytes) (eqb-true b m hit) ∙ ap (λ (w : List ℕ). m ∷ w) t.parts; rest_fits = t.rest_fits }
      | false ↦ λ miss found. absurd cc
    ] refl e

-- the byte after `PTV`
abbrev digit : Version → ℕ
digit Ptv1 = 0x31
digit Ptv2 = 0x32

abbrev ptv : List ℕ
ptv = 0x50 ∷ 0x54 ∷ 0x56 ∷ []

version_is : (version : Version) → ptv ++ (digit version ∷ []) ≡ version_text version
version_is Ptv1 = refl
version_is Ptv2 = refl

digit_takes : (bytes : List ℕ) (read : Version × List ℕ) → IsBytes bytes → digit_at bytes ≡ Ok read → Takes bytes (digit read.0 ∷ []) read.1
digit_takes [] read fits e = absurd cc
digit_takes (b ∷ bytes) read fits e = by_digit (eqb b 0x31) (eqb b 0x32) refl refl e
  where
    taken : (version : Version) → b ≡ digit version → Takes (b ∷ bytes) (digit version ∷ []) bytes
    taken version is = record { parts = ap (λ (x : ℕ). x ∷ bytes) is; rest_fits = IsBytes-rest b bytes fits }

    by_digit : (one two : Bool) → eqb b 0x31 ≡ one → eqb b 0x32 ≡ two
        → (if one then Ok (Ptv1, bytes) else if two then Ok (Ptv2, bytes) else Err NotMagic) ≡ Ok read → Takes (b ∷ bytes) (digit read.0 ∷ []) read.1
    by_digit true two is other found = subst (λ (y : Version × List ℕ). Takes (b ∷ bytes) (digit y.0 ∷ []) y.1) (ok_is (Ptv1, bytes) read found) (taken Ptv1 (eqb-true b 0x31 is))
    by_digit false true not_one is found = subst (λ (y : Version × List ℕ). Takes (b ∷ bytes) (digit y.0 ∷ []) y.1) (ok_is (Ptv2, bytes) read found) (taken Ptv2 (eqb-true b 0x32 is))
    by_digit false false not_one not_two found = absurd cc

version_takes : (bytes : List ℕ) (read : Version × List ℕ) → IsBytes bytes → version_at bytes ≡ Ok read → Takes bytes (version_text read.0) read.1
unfolding version_at
version_takes bytes read fits e =
    let a = bind_ok (magic_at ptv bytes) digit_at read e in
    let ta = magic_takes ptv bytes a.0 fits a.1 in
    let tb = digit_takes a.0 read ta.rest_fits a.2 in
    subst (λ (text : List ℕ). Takes bytes text read.1) (version_is read.0) (Takes-then bytes ptv a.0 (digit read.0 ∷ []) read.1 ta tb)

-- ---- limits

limit_takes : (most : ℕ) (bytes : List ℕ) (n : ℕ) (rest : List ℕ) → IsBytes bytes → limit_at most bytes ≡ Ok (n, rest) → Takes bytes (n ∷ []) rest × (limit_flaws most n ≡ []) × (n < 256)
unfolding limit_at
limit_takes most bytes n rest fits e = checked_byte_takes (limit_flaws most) bytes n rest fits e

abbrev limits_text : Limits → List ℕ
limits_text limits = limits.ops ∷ limits.tests ∷ limits.mem ∷ []

abbrev AreRead : List ℕ → (Limits × List ℕ) → Type 0
AreRead bytes read = Takes bytes (limits_text read.0) read.1 × (limits_flaws read.0 ≡ [])

limits_take : (bytes : List ℕ) (read : Limits × List ℕ) → IsBytes bytes → limits_at bytes ≡ Ok read → AreRead bytes read
unfolding limits_at
limits_take bytes read fits e =
    let a = bind_ok (limit_at most_ops bytes) (λ ops. limit_at most_tests ops.1 >>= λ tests. limit_at most_mem tests.1 >>= λ mem. Ok
    (record { ops = ops.0; tests = tests.0; mem = mem.0 }, mem.1)) read e in
    let b = bind_ok (limit_at most_tests a.0.1) (λ tests. limit_at most_mem tests.1 >>= λ mem. Ok (record { ops = a.0.0; tests = tests.0; mem = mem.0 }, mem.1)) read a.2 in
    let c = bind_ok (limit_at most_mem b.0.1) (λ mem. Ok (record { ops = a.0.0; tests = b.0.0; mem = mem.0 }, mem.1)) read b.2 in
    let ta = limit_takes most_ops bytes a.0.0 a.0.1 fits a.1 in
    let tb = limit_takes most_tests a.0.1 b.0.0 b.0.1 ta.0.rest_fits b.1 in
    let tc = limit_takes most_mem b.0.1 c.0.0 c.0.1 tb.0.rest_fits c.1 in
    let tbc = Takes-then a.0.1 (b.0.0 ∷ []) b.0.1 (c.0.0 ∷ []) c.0.1 tb.0 tc.0 in
    let made : Limits × List ℕ = (record { ops = a.0.0; tests = b.0.0; mem = c.0.0 }, c.0.1) in
    subst (AreRead bytes) (ok_is made read c.2) (
      Takes-then bytes (a.0.0 ∷ []) a.0.1 (b.0.0 ∷ c.0.0 ∷ []) c.0.1 ta.0 tbc,
      nil_joined (limit_flaws most_ops a.0.0) (limit_flaws most_tests b.0.0 ++ limit_flaws most_mem c.0.0) ta.1 (nil_joined (limit_flaws most_tests b.0.0) (limit_flaws most_mem c.0.0) tb.1 tc.1),
    )

-- ---- registers and arrays

abbrev Lengths : ℕ → ℕ → List ℕ → (List ℕ × List ℕ) → Type 0
Lengths count before bytes read = Takes bytes (flat_map u32_text read.0) read.1 × (length read.0 ≡ count) × (lengths_flaws before read.0 ≡ [])

lengths_take : (count before : ℕ) (bytes : List ℕ) (read : List ℕ × List ℕ) → IsBytes bytes → lengths_at count before bytes ≡ Ok read → Lengths count before bytes read
unfolding lengths_at
lengths_take zero before bytes read fits e = subst (Lengths 0 before bytes) (ok_is ([], bytes) read e) (record { parts = refl; rest_fits = fits }, refl, refl)
lengths_take (suc count) before bytes read fits e =
    let a = bind_ok (number_at w32 bytes) (λ elements. at_field bytes
    (checked (length_flaws before elements.0) (before + elements.0)) >>= λ total. lengths_at count total elements.1 >>= λ others. Ok (elements.0 ∷ others.0, others.1)) read e in
    let b = bind_ok (at_field bytes (checked (length_flaws before a.0.0) (before + a.0.0))) (λ total. lengths_at count total a.0.1 >>= λ others. Ok (a.0.0 ∷ others.0, others.1)) read a.2 in
    let c = bind_ok (lengths_at count b.0 a.0.1) (λ others. Ok (a.0.0 ∷ others.0, others.1)) read b.2 in
    let t = number_takes w32 (2 ^ 32) wide32 bytes a.0.0 a.0.1 fits a.1 in
    let k = checked_ok bytes (length_flaws before a.0.0) (before + a.0.0) b.0 b.1 in
    let o = lengths_take count b.0 a.0.1 c.0 t.0.rest_fits c.1 in
    let others_sound : lengths_flaws (before + a.0.0) c.0.0 ≡ [] = subst (λ (n : ℕ). lengths_flaws n c.0.0 ≡ []) (sym k.1) o.2 in
    let made : List ℕ × List ℕ = (a.0.0 ∷ c.0.0, c.0.1) in
    subst (Lengths (suc count) before bytes) (ok_is made read c.2) (
      Takes-then bytes (u32_text a.0.0) a.0.1 (flat_map u32_text c.0.0) c.0.1 t.0 o.0,
      ap suc o.1,
      nil_joined (length_flaws before a.0.0) (lengths_flaws (before + a.0.0) c.0.0) k.0 others_sound,
    )

array_count_takes : (bytes : List ℕ) (n : ℕ) (rest : List ℕ) → IsBytes bytes → array_count_at bytes ≡ Ok (n, rest) → Takes bytes (n ∷ []) rest × (array_count_flaws n ≡ []) × (n < 256)
unfolding array_count_at
array_count_takes bytes n rest fits e = checked_byte_takes array_count_flaws bytes n rest fits e

-- ---- the data of arrays

-- the flaw at a word that may be the last
abbrev tail_flaws : Bool → ℤ → List Flaw
tail_flaws is_last word = if is_last then data_tail_flaws word else []

data_word_takes : (is_last : Bool) (bytes : List ℕ) (read : ℤ × List ℕ) → IsBytes bytes → data_word_at is_last bytes ≡ Ok read
    → Takes bytes (word_text read.0) read.1 × (tail_flaws is_last read.0 ≡ []) × FitsSigned w32 read.0
unfolding data_word_at
data_word_takes is_last bytes read fits e =
    let a = bind_ok (word_at bytes) (λ word. unflawed bytes (tail_flaws is_last word.0) >> Ok word) read e in
    let p = passes_then bytes (tail_flaws is_last a.0.0) a.0 read a.2 in
    let t = word_takes bytes a.0.0 a.0.1 fits a.1 in
    subst (λ (y : ℤ × List ℕ). Takes bytes (word_text y.0) y.1 × (tail_flaws is_last y.0 ≡ []) × FitsSigned w32 y.0) p.1 (t.0, p.0, t.1)

-- words end in 0 where the first does and is the last, or the others do
pub ends_more : (word : ℤ) (words : List ℤ)
    → flaw_where (ends_in_zero (word ∷ words)) flaws.DataTail ≡ (if nat_eq (length words) 0 then data_tail_flaws word else []) ++ flaw_where (ends_in_zero words) flaws.DataTail
ends_more word [] = sym (append-nil (data_tail_flaws word))
ends_more word (next ∷ words) = let some : nat_eq (length (next ∷ words)) 0 ≡ false = grind (arith, nat_tests) in rw some refl

abbrev Words : ℕ → List ℕ → (List ℤ × List ℕ) → Type 0
Words count bytes read = Takes bytes (flat_map word_text read.0) read.1 × (length read.0 ≡ count) × (flaw_where (ends_in_zero read.0) flaws.DataTail ≡ []) × WordsFit read.0

words_take : (count : ℕ) (bytes : List ℕ) (read : List ℤ × List ℕ) → IsBytes bytes → words_at count bytes ≡ Ok read → Words count bytes read
unfolding words_at
words_take zero bytes read fits e = subst (Words 0 bytes) (ok_is ([], bytes) read e) (record { parts = refl; rest_fits = fits }, refl, refl, tt)
words_take (suc after) bytes read fits e =
    let a = bind_ok (data_word_at (nat_eq after 0) bytes) (λ word. words_at after word.1 >>= λ others. Ok (word.0 ∷ others.0, others.1)) read e in
    let b = bind_ok (words_at after a.0.1) (λ others. Ok (a.0.0 ∷ others.0, others.1)) read a.2 in
    let t = data_word_takes (nat_eq after 0) bytes a.0 fits a.1 in
    let o = words_take after a.0.1 b.0 t.0.rest_fits b.1 in
    let first_sound : tail_flaws (nat_eq (length b.0.0) 0) a.0.0 ≡ [] = subst (λ (n : ℕ). tail_flaws (nat_eq n 0) a.0.0 ≡ []) (sym o.1) t.1 in
    let made : List ℤ × List ℕ = (a.0.0 ∷ b.0.0, b.0.1) in
    subst (Words (suc after) bytes) (ok_is made read b.2) (
      Takes-then bytes (word_text a.0.0) a.0.1 (flat_map word_text b.0.0) b.0.1 t.0 o.0,
      ap suc o.1,
      ends_more a.0.0 b.0.0 ∙ nil_joined (tail_flaws (nat_eq (length b.0.0) 0) a.0.0) (flaw_where (ends_in_zero b.0.0) flaws.DataTail) first_sound o.2,
      (t.2, o.3),
    )

abbrev Data : ℕ → List ℕ → (List ℤ × List ℕ) → Type 0
Data elements bytes read = Takes bytes (data_text read.0) read.1 × (data_flaws elements read.0 ≡ []) × WordsFit read.0

data_takes : (elements : ℕ) (bytes : List ℕ) (read : List ℤ × List ℕ) → IsBytes bytes → data_at elements bytes ≡ Ok read → Data elements bytes read
unfolding data_at
data_takes elements bytes read fits e =
    let a = bind_ok (number_at w32 bytes) (λ count. unflawed bytes (data_count_flaws elements count.0) >> words_at count.0 count.1) read e in
    let b = bind_ok (unflawed bytes (data_count_flaws elements a.0.0)) (λ u. words_at a.0.0 a.0.1) read a.2 in
    let k = checked_ok bytes (data_count_flaws elements a.0.0) tt b.0 b.1 in
    let t = number_takes w32 (2 ^ 32) wide32 bytes a.0.0 a.0.1 fits a.1 in
    let o = words_take a.0.0 a.0.1 read t.0.rest_fits b.2 in
    let count_text : Takes bytes (u32_text (length read.0)) a.0.1 = subst (λ (n : ℕ). Takes bytes (u32_text n) a.0.1) (sym o.1) t.0 in
    let count_sound : data_count_flaws elements (length read.0) ≡ [] = subst (λ (n : ℕ). data_count_flaws elements n ≡ []) (sym o.1) k.0 in (
      Takes-then bytes (u32_text (length read.0)) a.0.1 (flat_map word_text read.0) read.1 count_text o.0,
      nil_joined (data_count_flaws elements (length read.0)) (flaw_where (ends_in_zero read.0) flaws.DataTail) count_sound o.2,
      o.3,
    )

abbrev EachData : List ℕ → List ℕ → (List (List ℤ) × List ℕ) → Type 0
EachData lengths bytes read =
    Takes bytes (flat_map data_text read.0) read.1 × (length read.0 ≡ length lengths) × (each_data_flaws lengths read.0 ≡ []) × AllByRecursion WordsFit read.0

each_data_takes : (lengths bytes : List ℕ) (read : List (List ℤ) × List ℕ) → IsBytes bytes → each_data_at lengths bytes ≡ Ok read → EachData lengths bytes read
unfolding each_data_at
each_data_takes [] bytes read fits e = subst (EachData [] bytes) (ok_is ([], bytes) read e) (record { parts = refl; rest_fits = fits }, refl, refl, tt)
each_data_takes (elements ∷ lengths) bytes read fits e =
    let a = bind_ok (data_at elements bytes) (λ words. each_data_at lengths words.1 >>= λ others. Ok (words.0 ∷ others.0, others.1)) read e in
    let b = bind_ok (each_data_at lengths a.0.1) (λ others. Ok (a.0.0 ∷ others.0, others.1)) read a.2 in
    let t = data_takes elements bytes a.0 fits a.1 in
    let o = each_data_takes lengths a.0.1 b.0 t.0.rest_fits b.1 in
    let made : List (List ℤ) × List ℕ = (a.0.0 ∷ b.0.0, b.0.1) in
    subst (EachData (elements ∷ lengths) bytes) (ok_is made read b.2) (
      Takes-then bytes (data_text a.0.0) a.0.1 (flat_map data_text b.0.0) b.0.1 t.0 o.0,
      ap suc o.1,
      nil_joined (data_flaws elements a.0.0) (each_data_flaws lengths b.0.0) t.1 o.2,
      (t.2, o.3),
    )

-- ---- registers, lengths and data

-- what is read of registers and arrays
pub record IsStorage (version : Version) (count : ℕ) (bytes : List ℕ) (storage : Storage) (rest : List ℕ) : Type 0 where
  pub takes : Takes bytes (storage_text version storage.registers storage.arrays storage.initial) rest
  pub version_fits : version_for storage.registers storage.initial ≡ version
  pub counted : length storage.arrays ≡ count
  pub registers : register_count_flaws storage.registers ≡ []
  pub lengths : lengths_flaws 0 storage.arrays ≡ []
  pub initial : initial_flaws storage.arrays storage.initial ≡ []
  pub words : AllByRecursion WordsFit storage.initial

empty_fit : (n : ℕ) → AllByRecursion WordsFit (replicate n [])
empty_fit zero = tt
empty_fit (suc n) = (tt, empty_fit n)

version_without : (n : ℕ) → version_for few_registers (replicate n []) ≡ Ptv1
version_without n = rw (no_data-replicate n) refl

version_with : (registers : ℕ) (initial : List (List ℤ)) → version_flaws Ptv2 registers initial ≡ [] → version_for registers initial ≡ Ptv2
version_with registers initial none = let wide = where_nil (fits_ptv1 registers initial) flaws.Version none in ap (λ (b : Bool). if b then Ptv1 else Ptv2) wide

storage_takes : (version : Version) (count : ℕ) (bytes : List ℕ) (read : Storage × List ℕ) → IsBytes bytes → storage_at version count bytes ≡ Ok read → IsStorage version count bytes read.0 read.1
unfolding storage_at register_count_at
storage_takes Ptv1 count bytes read fits e =
    let a = bind_ok (lengths_at count 0 bytes) (λ arrays. Ok (record { registers = few_registers; arrays = arrays.0; initial = replicate (length arrays.0) [] }, arrays.1)) read e in
    let t = lengths_take count 0 bytes a.0 fits a.1 in
    let n : ℕ = length a.0.0 in
    let made : Storage × List ℕ = (record { registers = few_registers; arrays = a.0.0; initial = replicate n [] }, a.0.1) in
    subst (λ (y : Storage × List ℕ). IsStorage Ptv1 count bytes y.0 y.1) (ok_is made read a.2) (record {
      takes = t.0;
      version_fits = version_without n;
      counted = t.1;
      registers = refl;
      lengths = t.2;
      initial = initial_complete a.0.0 (replicate n []) (AreData-none a.0.0);
      words = empty_fit n;
    })
storage_takes Ptv2 count bytes read fits e =
    let a = bind_ok (number_at w16 bytes >>= λ registers. unflawed bytes (register_count_flaws registers.0) >> Ok registers)
    (λ registers. lengths_at count 0 registers.1 >>= λ arrays. each_data_at arrays.0 arrays.1 >>= λ initial. unflawed bytes (version_flaws Ptv2 registers.0 initial.0)
    >> Ok (record { registers = registers.0; arrays = arrays.0; initial = initial.0 }, initial.1)) read e in
    let b = bind_ok (lengths_at count 0 a.0.1) (λ arrays. each_data_at arrays.0 arrays.1 >>= λ initial. unflawed bytes (version_flaws Ptv2 a.0.0 initial.0)
    >> Ok (record { registers = a.0.0; arrays = arrays.0; initial = initial.0 }, initial.1)) read a.2 in
    let c = bind_ok (each_data_at b.0.0 b.0.1) (λ initial. unflawed bytes (version_flaws Ptv2 a.0.0 initial.0)
    >> Ok (record { registers = a.0.0; arrays = b.0.0; initial = initial.0 }, initial.1)) read b.2 in
    let made : Storage × List ℕ = (record { registers = a.0.0; arrays = b.0.0; initial = c.0.0 }, c.0.1) in
    let v = passes_then bytes (version_flaws Ptv2 a.0.0 c.0.0) made read c.2 in
    let n = bind_ok (number_at w16 bytes) (λ registers. unflawed bytes (register_count_flaws registers.0) >> Ok registers) a.0 a.1 in
    let p = passes_then bytes (register_count_flaws n.0.0) n.0 a.0 n.2 in
    let tn = number_takes w16 (2 ^ 16) wide16 bytes n.0.0 n.0.1 fits n.1 in
    let ta = subst (λ (y : ℕ × List ℕ). Takes bytes (u16_text y.0) y.1 × (register_count_flaws y.0 ≡ [])) p.1 (tn.0, p.0) in
    let tb = lengths_take count 0 a.0.1 b.0 ta.0.rest_fits b.1 in
    let tc = each_data_takes b.0.0 b.0.1 c.0 tb.0.rest_fits c.1 in
    let tbc = Takes-then a.0.1 (flat_map u32_text b.0.0) b.0.1 (flat_map data_text c.0.0) c.0.1 tb.0 tc.0 in
    subst (λ (y : Storage × List ℕ). IsStorage Ptv2 count bytes y.0 y.1) v.1 (record {
      takes = Takes-then bytes (u16_text a.0.0) a.0.1 (flat_map u32_text b.0.0 ++ flat_map data_text c.0.0) c.0.1 ta.0 tbc;
      version_fits = version_with a.0.0 c.0.0 v.0;
      counted = tb.1;
      registers = ta.1;
      lengths = tb.2;
      initial = no_initial_flaws b.0.0 c.0.0 tc.1 tc.2;
      words = tc.3;
    })

-- ---- the whole header

row_count_takes : (bytes : List ℕ) (n : ℕ) (rest : List ℕ) → IsBytes bytes → row_count_at bytes ≡ Ok (n, rest) → Takes bytes (u32_text n) rest × (row_count_flaws n ≡ []) × (n < 2 ^ 32)
unfolding row_count_at
row_count_takes bytes n rest fits e =
    let a = bind_ok (number_at w32 bytes) (λ x. unflawed bytes (row_count_flaws x.0) >> Ok x) (n, rest) e in
    let p = passes_then bytes (row_count_flaws a.0.0) a.0 (n, rest) a.2 in
    let t = number_takes w32 (2 ^ 32) wide32 bytes a.0.0 a.0.1 fits a.1 in
    subst (λ (y : ℕ × List ℕ). Takes bytes (u32_text y.0) y.1 × (row_count_flaws y.0 ≡ []) × (y.0 < 2 ^ 32)) p.1 (t.0, p.0, t.1)

-- the text of a header of this version
abbrev pub shape_text : Version → Header → List ℕ
shape_text version header =
    version_text version
    ++ (limits_text header.limits
    ++ (length header.storage.arrays
    ∷ (storage_text version header.storage.registers header.storage.arrays header.storage.initial ++ u32_text header.rows)))

pub record IsHeader (bytes : List ℕ) (header : Header) (rest : List ℕ) : Type 0 where
  pub takes : Takes bytes (shape_text (version_for header.storage.registers header.storage.initial) header) rest
  pub limits : limits_flaws header.limits ≡ []
  pub count : array_count_flaws (length header.storage.arrays) ≡ []
  pub registers : register_count_flaws header.storage.registers ≡ []
  pub lengths : lengths_flaws 0 header.storage.arrays ≡ []
  pub initial : initial_flaws header.storage.arrays header.storage.initial ≡ []
  pub words : AllByRecursion WordsFit header.storage.initial
  pub rows : row_count_flaws header.rows ≡ []

pub header_takes : (bytes : List ℕ) (read : Header × List ℕ) → IsBytes bytes → header_at bytes ≡ Ok read → IsHeader bytes read.0 read.1
unfolding header_at
header_takes bytes read fits e =
    let m = bind_ok (version_at bytes) (λ version. limits_at version.1 >>= λ limits. array_count_at limits.1 >>= λ count. storage_at version.0 count.0 count.1 >>= λ storage.
    row_count_at storage.1 >>= λ rows. Ok (record { limits = limits.0; storage = storage.0; rows = rows.0 }, rows.1)) read e in
    let a = bind_ok (limits_at m.0.1) (λ limits. array_count_at limits.1 >>= λ count. storage_at m.0.0 count.0 count.1 >>= λ storage. row_count_at storage.1 >>= λ rows.
    Ok (record { limits = limits.0; storage = storage.0; rows = rows.0 }, rows.1)) read m.2 in
    let b = bind_ok (array_count_at a.0.1) (λ count. storage_at m.0.0 count.0 count.1 >>= λ storage. row_count_at storage.1 >>= λ rows.
    Ok (record { limits = a.0.0; storage = storage.0; rows = rows.0 }, rows.1)) read a.2 in
    let c = bind_ok (storage_at m.0.0 b.0.0 b.0.1) (λ storage. row_count_at storage.1 >>= λ rows. Ok (record { limits = a.0.0; storage = storage.0; rows = rows.0 }, rows.1)) read b.2 in
    let d = bind_ok (row_count_at c.0.1) (λ rows. Ok (record { limits = a.0.0; storage = c.0.0; rows = rows.0 }, rows.1)) read c.2 in
    let version : Version = m.0.0 in
    let storage : Storage = c.0.0 in
    let tm = version_takes bytes m.0 fits m.1 in
    let ta = limits_take m.0.1 a.0 tm.rest_fits a.1 in
    let tb = array_count_takes a.0.1 b.0.0 b.0.1 ta.0.rest_fits b.1 in
    let tc = storage_takes version b.0.0 b.0.1 c.0 tb.0.rest_fits c.1 in
    let td = row_count_takes c.0.1 d.0.0 d.0.1 tc.takes.rest_fits d.1 in
    let stored : List ℕ = storage_text version storage.registers storage.arrays storage.initial in
    let tcd = Takes-then b.0.1 stored c.0.1 (u32_text d.0.0) d.0.1 tc.takes td.0 in
    let counted : Takes a.0.1 (length storage.arrays ∷ []) b.0.1 = subst (λ (n : ℕ). Takes a.0.1 (n ∷ []) b.0.1) (sym tc.counted) tb.0 in
    let tbd = Takes-then a.0.1 (length storage.arrays ∷ []) b.0.1 (stored ++ u32_text d.0.0) d.0.1 counted tcd in
    let tad = Takes-then m.0.1 (limits_text a.0.0) a.0.1 (length storage.arrays ∷ (stored ++ u32_text d.0.0)) d.0.1 ta.0 tbd in
    let tmd = Takes-then bytes (version_text version) m.0.1 (limits_text a.0.0 ++ (length storage.arrays ∷ (stored ++ u32_text d.0.0))) d.0.1 tm tad in
    let header : Header = record { limits = a.0.0; storage = storage; rows = d.0.0 } in
    let made : Header × List ℕ = (header, d.0.1) in
    subst (λ (y : Header × List ℕ). IsHeader bytes y.0 y.1) (ok_is made read d.2) (record {
      takes = subst (λ (v : Version). Takes bytes (shape_text v header) d.0.1) (sym tc.version_fits) tmd;
      limits = ta.1;
      count = subst (λ (n : ℕ). array_count_flaws n ≡ []) (sym tc.counted) tb.1;
      registers = tc.registers;
      lengths = tc.lengths;
      initial = tc.initial;
      words = tc.words;
      rows = td.1;
    })
