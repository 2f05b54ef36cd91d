-- Reading so many things one after the other, as a loop does.
use Rattle.std.proofs.Common.{ℤ, get_or, Bool, true, false, not, ltb, length, drop, drop-cons, ◌≡◌, ℕ, suc, ◌+◌, ◌-◌}
use Rattle.std.proofs.Common.{◌<◌, ◌≤◌, List, [], ◌∷◌, ◌++◌, Result, Ok, Err, refl, sym, ap, ◌∙◌, append_assoc, arith}
use Rattle.std.proofs.Math.ListN.{drop_of_length-le}
use Rattle.std.proofs.lemmas.List.{append-nil}
use Rattle.std.proofs.lemmas.Bool.{ltb-false}
use Rattle.pc_machine.specs.declared.code.Flaw.{Flaw}
use Rattle.pc_machine.specs.declared.code.Flaw.TheVariants.{ArrayLength, Elements}
use Rattle.pc_machine.specs.declared.check.Bounds.{Bounds}
use Rattle.pc_machine.specs.MachineCode.{CodeRow}
use Rattle.pc_machine.specs.declared.check.Counts.{Counts}
use Rattle.pc_machine.specs.Flaws.{no_counts, nothing_above, flaw_where, is_between, length_flaws}
use Rattle.pc_word.specs.Exact.{checked}
use Rattle.pc_object.specs.declared.object.Note.{Note}
use Rattle.pc_object.specs.declared.refusal.Refusal.{Refusal}
use Rattle.pc_object.specs.declared.refusal.Refusal.TheVariants.{Short}
use Rattle.pc_object.specs.declared.refusal.Halt.{Halt}
use Rattle.pc_object.specs.declared.refusal.Halt.TheVariants as halts
use Rattle.pc_word.specs.Exact.{IsRefusal}
use Rattle.pc_object.specs.models.HaltCause.{halt_cause}
use Rattle.pc_object.specs.Reading.{◌>>=◌, at_field, magic_at, number_at, lengths_at, data_word_at, words_at, data_at, each_data_at, row_at, rows_at, note_at, notes_at, deepest}
use Rattle.std.specs.Prelude.{nat_eq}
use Rattle.std.proofs.lemmas.Bool.Decides.{nat_tests}
use Rattle.std.specs.Int.{w32}
use Rattle.pc_word.specs.MachineLimits.{most_elements, most_length}

-- what was read before, and what is still read
abbrev pub with_front : {X : Type 0} → List X → Result (List X × List ℕ) Refusal → Result (List X × List ℕ) Refusal
with_front front read = read >>= λ x. Ok (front ++ x.0, x.1)

regroup : {X : Type 0} (front : List X) (n : X) (read : Result (List X × List ℕ) Refusal) → with_front front (read >>= λ x. Ok (n ∷ x.0, x.1)) ≡ with_front (front ++ n ∷ []) read
regroup front n (Ok x) = ap (λ (ns : List _). Ok (ns, x.1)) (simp append_assoc)
regroup front n (Err f) = refl

-- whether a place is the last of so many
is_last : (count i : ℕ) → i < count → nat_eq (count - (i + 1)) 0 ≡ nat_eq (i + 1) count
is_last count i lt = grind (arith, nat_tests)

-- ---- lengths

pub lengths_go_on : (front : List ℕ) (count i before : ℕ) (bytes : List ℕ) (n total : ℕ) (after : List ℕ) (all : Result (List ℕ × List ℕ) Refusal) → i < count
    → number_at w32 bytes ≡ Ok (n, after) → at_field bytes (checked (length_flaws before n) (before + n)) ≡ Ok total
    → with_front front (lengths_at (count - i) before bytes) ≡ all → with_front (front ++ n ∷ []) (lengths_at (count - (i + 1)) total after) ≡ all
unfolding lengths_at
lengths_go_on front count i before bytes n total after all lt h fine so_far =
    let k : count - i ≡ suc (count - (i + 1)) = omega arith in
    let one : with_front front (lengths_at (count - i) before bytes) ≡ with_front (front ++ n ∷ []) (lengths_at (count - (i + 1)) total after) =
    rw (k, h, fine) (regroup front n (lengths_at (count - (i + 1)) total after)) in
    sym one ∙ so_far

-- a length is missing
pub lengths_end : (halt : Halt) (front : List ℕ) (count i before : ℕ) (bytes : List ℕ) (all : Result (List ℕ × List ℕ) Refusal) → i < count → IsRefusal (halt_cause halt) (number_at w32 bytes)
    → with_front front (lengths_at (count - i) before bytes) ≡ all → IsRefusal (halt_cause halt) all
unfolding lengths_at
lengths_end halts.Memory front count i before bytes all lt h so_far = tt
lengths_end (halts.Refused f) front count i before bytes all lt h so_far =
    let k : count - i ≡ suc (count - (i + 1)) = omega arith in
    let one : with_front front (lengths_at (count - i) before bytes) ≡ Err f = rw (k, h) refl in
    sym so_far ∙ one

-- a length is flawed
pub lengths_flawed : (halt : Halt) (front : List ℕ) (count i before : ℕ) (bytes : List ℕ) (n : ℕ) (after : List ℕ) (all : Result (List ℕ × List ℕ) Refusal) → i < count
    → number_at w32 bytes ≡ Ok (n, after) → IsRefusal (halt_cause halt) (at_field bytes (checked (length_flaws before n) (before + n)))
    → with_front front (lengths_at (count - i) before bytes) ≡ all → IsRefusal (halt_cause halt) all
unfolding lengths_at
lengths_flawed halts.Memory front count i before bytes n after all lt h fine so_far = tt
lengths_flawed (halts.Refused f) front count i before bytes n after all lt h fine so_far =
    let k : count - i ≡ suc (count - (i + 1)) = omega arith in
    let one : with_front front (lengths_at (count - i) before bytes) ≡ Err f = rw (k, h, fine) refl in
    sym so_far ∙ one

pub lengths_done : (front : List ℕ) (count i before : ℕ) (bytes : List ℕ) (all : Result (List ℕ × List ℕ) Refusal) → count ≤ i → with_front front (lengths_at (count - i) before bytes) ≡ all
    → all ≡ Ok (front, bytes)
unfolding lengths_at
lengths_done front count i before bytes all le so_far =
    let k : count - i ≡ 0 = omega arith in
    let one : with_front front (lengths_at (count - i) before bytes) ≡ Ok (front, bytes) = rw k (ap (λ (ns : List ℕ). Ok (ns, bytes)) (append-nil front)) in
    sym so_far ∙ one

-- ---- the words of an array

pub words_go_on : (front : List ℤ) (count i : ℕ) (bytes : List ℕ) (word : ℤ) (after : List ℕ) (all : Result (List ℤ × List ℕ) Refusal) → i < count
    → data_word_at (nat_eq (i + 1) count) bytes ≡ Ok (word, after)
    → with_front front (words_at (count - i) bytes) ≡ all → with_front (front ++ word ∷ []) (words_at (count - (i + 1)) after) ≡ all
unfolding words_at
words_go_on front count i bytes word after all lt h so_far =
    let k : count - i ≡ suc (count - (i + 1)) = omega arith in
    let last : nat_eq (count - (i + 1)) 0 ≡ nat_eq (i + 1) count = is_last count i lt in
    let one : with_front front (words_at (count - i) bytes) ≡ with_front (front ++ word ∷ []) (words_at (count - (i + 1)) after) =
    rw (k, last, h) (regroup front word (words_at (count - (i + 1)) after)) in
    sym one ∙ so_far

pub words_end : (halt : Halt) (front : List ℤ) (count i : ℕ) (bytes : List ℕ) (all : Result (List ℤ × List ℕ) Refusal) → i < count
    → IsRefusal (halt_cause halt) (data_word_at (nat_eq (i + 1) count) bytes)
    → with_front front (words_at (count - i) bytes) ≡ all → IsRefusal (halt_cause halt) all
unfolding words_at
words_end halts.Memory front count i bytes all lt h so_far = tt
words_end (halts.Refused f) front count i bytes all lt h so_far =
    let k : count - i ≡ suc (count - (i + 1)) = omega arith in
    let last : nat_eq (count - (i + 1)) 0 ≡ nat_eq (i + 1) count = is_last count i lt in
    let one : with_front front (words_at (count - i) bytes) ≡ Err f = rw (k, last, h) refl in
    sym so_far ∙ one

pub words_done : (front : List ℤ) (count i : ℕ) (bytes : List ℕ) (all : Result (List ℤ × List ℕ) Refusal) → count ≤ i → with_front front (words_at (count - i) bytes) ≡ all
    → all ≡ Ok (front, bytes)
unfolding words_at
words_done front count i bytes all le so_far =
    let k : count - i ≡ 0 = omega arith in
    let one : with_front front (words_at (count - i) bytes) ≡ Ok (front, bytes) = rw k (ap (λ (ns : List ℤ). Ok (ns, bytes)) (append-nil front)) in
    sym so_far ∙ one

-- ---- the data of each array

pub each_data_goes_on : (front : List (List ℤ)) (lengths : List ℕ) (i : ℕ) (bytes : List ℕ) (words : List ℤ) (after : List ℕ) (all : Result (List (List ℤ) × List ℕ) Refusal) → i < length lengths
    → data_at (get_or lengths i 0) bytes ≡ Ok (words, after)
    → with_front front (each_data_at (drop i lengths) bytes) ≡ all → with_front (front ++ words ∷ []) (each_data_at (drop (i + 1) lengths) after) ≡ all
unfolding each_data_at
each_data_goes_on front lengths i bytes words after all lt h so_far =
    let next : i + 1 ≡ suc i = omega arith in
    let one : with_front front (each_data_at (drop i lengths) bytes) ≡ with_front (front ++ words ∷ []) (each_data_at (drop (i + 1) lengths) after) =
    rw (next, drop-cons lengths i 0 lt, h) (regroup front words (each_data_at (drop (suc i) lengths) after)) in
    sym one ∙ so_far

pub each_data_ends : (halt : Halt) (front : List (List ℤ)) (lengths : List ℕ) (i : ℕ) (bytes : List ℕ) (all : Result (List (List ℤ) × List ℕ) Refusal) → i < length lengths
    → IsRefusal (halt_cause halt) (data_at (get_or lengths i 0) bytes)
    → with_front front (each_data_at (drop i lengths) bytes) ≡ all → IsRefusal (halt_cause halt) all
unfolding each_data_at
each_data_ends halts.Memory front lengths i bytes all lt h so_far = tt
each_data_ends (halts.Refused f) front lengths i bytes all lt h so_far =
    let one : with_front front (each_data_at (drop i lengths) bytes) ≡ Err f = rw (drop-cons lengths i 0 lt, h) refl in
    sym so_far ∙ one

pub each_data_done : (front : List (List ℤ)) (lengths : List ℕ) (i : ℕ) (bytes : List ℕ) (all : Result (List (List ℤ) × List ℕ) Refusal) → length lengths ≤ i
    → with_front front (each_data_at (drop i lengths) bytes) ≡ all → all ≡ Ok (front, bytes)
unfolding each_data_at
each_data_done front lengths i bytes all le so_far =
    let one : with_front front (each_data_at (drop i lengths) bytes) ≡ Ok (front, bytes) = rw (drop_of_length-le lengths le) (ap (λ (ns : List (List ℤ)). Ok (ns, bytes)) (append-nil front)) in
    sym so_far ∙ one

-- ---- rows

pub rows_go_on : (bounds : Bounds) (front : List CodeRow) (count i : ℕ) (bytes : List ℕ) (row : CodeRow) (counts : Counts) (after : List ℕ) (all : Result (List CodeRow × List ℕ) Refusal) → i < count
    → row_at bounds deepest no_counts nothing_above bytes ≡ Ok (row, counts, after)
    → with_front front (rows_at bounds (count - i) bytes) ≡ all → with_front (front ++ row ∷ []) (rows_at bounds (count - (i + 1)) after) ≡ all
unfolding rows_at
rows_go_on bounds front count i bytes row counts after all lt h so_far =
    let k : count - i ≡ suc (count - (i + 1)) = omega arith in
    let one : with_front front (rows_at bounds (count - i) bytes) ≡ with_front (front ++ row ∷ []) (rows_at bounds (count - (i + 1)) after) =
    rw (k, h) (regroup front row (rows_at bounds (count - (i + 1)) after)) in
    sym one ∙ so_far

pub rows_end : (halt : Halt) (bounds : Bounds) (front : List CodeRow) (count i : ℕ) (bytes : List ℕ) (all : Result (List CodeRow × List ℕ) Refusal) → i < count
    → IsRefusal (halt_cause halt) (row_at bounds deepest no_counts nothing_above bytes)
    → with_front front (rows_at bounds (count - i) bytes) ≡ all → IsRefusal (halt_cause halt) all
unfolding rows_at
rows_end halts.Memory bounds front count i bytes all lt h so_far = tt
rows_end (halts.Refused f) bounds front count i bytes all lt h so_far =
    let k : count - i ≡ suc (count - (i + 1)) = omega arith in
    let one : with_front front (rows_at bounds (count - i) bytes) ≡ Err f = rw (k, h) refl in
    sym so_far ∙ one

pub rows_done : (bounds : Bounds) (front : List CodeRow) (count i : ℕ) (bytes : List ℕ) (all : Result (List CodeRow × List ℕ) Refusal) → count ≤ i
    → with_front front (rows_at bounds (count - i) bytes) ≡ all → all ≡ Ok (front, bytes)
unfolding rows_at
rows_done bounds front count i bytes all le so_far =
    let k : count - i ≡ 0 = omega arith in
    let one : with_front front (rows_at bounds (count - i) bytes) ≡ Ok (front, bytes) = rw k (ap (λ (ns : List CodeRow). Ok (ns, bytes)) (append-nil front)) in
    sym so_far ∙ one

-- ---- notes

pub notes_go_on : (front : List Note) (count i : ℕ) (bytes : List ℕ) (note : Note) (after : List ℕ) (all : Result (List Note × List ℕ) Refusal) → i < count → note_at bytes ≡ Ok (note, after)
    → with_front front (notes_at (count - i) bytes) ≡ all → with_front (front ++ note ∷ []) (notes_at (count - (i + 1)) after) ≡ all
unfolding notes_at
notes_go_on front count i bytes note after all lt h so_far =
    let k : count - i ≡ suc (count - (i + 1)) = omega arith in
    let one : with_front front (notes_at (count - i) bytes) ≡ with_front (front ++ note ∷ []) (notes_at (count - (i + 1)) after) = rw (k, h) (regroup front note (notes_at (count - (i + 1)) after)) in
    sym one ∙ so_far

pub notes_end : (halt : Halt) (front : List Note) (count i : ℕ) (bytes : List ℕ) (all : Result (List Note × List ℕ) Refusal) → i < count → IsRefusal (halt_cause halt) (note_at bytes)
    → with_front front (notes_at (count - i) bytes) ≡ all → IsRefusal (halt_cause halt) all
unfolding notes_at
notes_end halts.Memory front count i bytes all lt h so_far = tt
notes_end (halts.Refused f) front count i bytes all lt h so_far =
    let k : count - i ≡ suc (count - (i + 1)) = omega arith in
    let one : with_front front (notes_at (count - i) bytes) ≡ Err f = rw (k, h) refl in
    sym so_far ∙ one

pub notes_done : (front : List Note) (count i : ℕ) (bytes : List ℕ) (all : Result (List Note × List ℕ) Refusal) → count ≤ i → with_front front (notes_at (count - i) bytes) ≡ all
    → all ≡ Ok (front, bytes)
unfolding notes_at
notes_done front count i bytes all le so_far =
    let k : count - i ≡ 0 = omega arith in
    let one : with_front front (notes_at (count - i) bytes) ≡ Ok (front, bytes) = rw k (ap (λ (ns : List Note). Ok (ns, bytes)) (append-nil front)) in
    sym so_far ∙ one

-- ---- the first bytes

-- bytes that end before one that is due
pub magic_ends : (magic : List ℕ) (i : ℕ) (rest : List ℕ) (all : Result (List ℕ) Refusal) → i < length magic → length rest < 1 → magic_at (drop i magic) rest ≡ all → all ≡ Err Short
magic_ends magic i [] all lt none so_far = sym so_far ∙ rw (drop-cons magic i 0 lt) refl
magic_ends magic i (byte ∷ rest) all lt none so_far = absurd (omega arith)

-- ---- elements

-- a value that passed two checks
two_checks : (bytes : List ℕ) (a b : Bool) (f g : Flaw) (x y : ℕ) → at_field bytes (checked (flaw_where a f ++ flaw_where b g) x) ≡ Ok y → (b ≡ false) × (x ≡ y)
two_checks bytes true b f g x y e = absurd cc
two_checks bytes false true f g x y e = absurd cc
two_checks bytes false false f g x y e = (refl, cc)

-- the elements with a length that has no flaw are not too many
pub few_with : (bytes : List ℕ) (before n total : ℕ) → at_field bytes (checked (length_flaws before n) (before + n)) ≡ Ok total → total ≤ most_elements
few_with bytes before n total e =
    let t = two_checks bytes (not (is_between 1 most_length n)) (ltb most_elements (before + n)) ArrayLength Elements (before + n) total e in
    omega (arith, ltb-false _ _ t.0, t.1)
