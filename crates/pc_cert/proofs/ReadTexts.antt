-- Fields that are read are those that were written, and such fields that were written are read again.
use Rattle.std.proofs.Common.{◌≡◌, ℕ, zero, suc, ◌^◌, ◌<◌, ◌≤◌, ℤ, Bool, true, false, cond, ltb, List, [], ◌∷◌, ◌++◌, length}
use Rattle.std.proofs.Common.{Result, Ok, Err, refl, sym, ap, subst, ◌∙◌, append_assoc, arith}
use Rattle.std.specs.Prelude.{FitsSigned}
use Rattle.std.specs.List.{flat_map, AllByRecursion}
use Rattle.std.specs.Int.{Width, w16, w32, byte_len, to_be_bytes, cast_signed}
use Rattle.pc_object.specs.declared.refusal.Refusal.TheVariants as objects
use Rattle.pc_object.specs.declared.refusal.Refusal.{Refusal as ObjectRefusal}
use Rattle.pc_object.specs.ObjectText.{u16_text, u32_text, word_text}
use Rattle.pc_object.specs.Reading.{◌>>=◌ as ◌object>>=◌, number_at as object_number_at, word_at as object_word_at}
use Rattle.pc_object.proofs.FieldLaws.{IsBytes, IsBytes-rest, Takes, Takes-then, IsWide, wide16, wide32}
use Rattle.pc_object.proofs.FieldLaws.{number_takes as object_number_takes, number_again as object_number_again, word_takes as object_word_takes, word_again as object_word_again}
use Rattle.pc_cert.specs.declared.refusal.Refusal.{Refusal}
use Rattle.pc_cert.specs.declared.refusal.Refusal.TheVariants as refusals
use Rattle.pc_cert.specs.Reading.{◌>>=◌, byte_at, number_at, word_at, many_at, counted_at}

-- what is read is a value that fits, whose text stands first, and the bytes after it
abbrev pub IsReadOf : {A : Type 0} → (A → List ℕ) → (A → Type 0) → List ℕ → A × List ℕ → Type 0
IsReadOf text Fits bytes read = Takes bytes (text read.0) read.1 × Fits read.0

-- a reader reads exactly the texts of values that fit
pub record ReadsTexts {A : Type 0} (text : A → List ℕ) (Fits : A → Type 0) (reader : List ℕ → Result (A × List ℕ) Refusal) : Type 0 where
  pub takes : (bytes : List ℕ) (read : A × List ℕ) → IsBytes bytes → reader bytes ≡ Ok read → IsReadOf text Fits bytes read
  pub again : (x : A) (rest : List ℕ) → Fits x → reader (text x ++ rest) ≡ Ok (x, rest)

-- the text goes on in front
pub Takes-tag : (tag : ℕ) (bytes text rest : List ℕ) → Takes bytes text rest → Takes (tag ∷ bytes) (tag ∷ text) rest
Takes-tag tag bytes text rest t = record { parts = ap (λ (x : List ℕ). tag ∷ x) t.parts; rest_fits = t.rest_fits }

-- ---- steps

-- the value of a step that did not fail
pub bind_ok : {A B : Type 0} (r : Result A Refusal) (f : A → Result B Refusal) (y : B) → (r >>= f) ≡ Ok y → (x : A) × (r ≡ Ok x) × (f x ≡ Ok y)
bind_ok (Ok x) f y e = (x, refl, e)
bind_ok (Err d) f y e = absurd cc

abbrev done : {A : Type 0} → A → Result A Refusal
done x = Ok x

pub ok_is : {A : Type 0} (x y : A) → done x ≡ done y → x ≡ y
ok_is x y e = cc

-- ---- numbers

-- a test that did not fail does not fail with another refusal
guarded : {A : Type 0} (b : Bool) (x y : A) → cond b (Err refusals.Short) (done x) ≡ Ok y → cond b (Err objects.Short) (Ok x) ≡ Ok y
guarded true x y e = absurd cc
guarded false x y e = cc

guarded_back : {A : Type 0} (b : Bool) (x y : A) → cond b (Err objects.Short) (Ok x) ≡ Ok y → cond b (Err refusals.Short) (done x) ≡ Ok y
guarded_back true x y e = absurd cc
guarded_back false x y e = cc

number_reads : (w : Width) (limit : ℕ) → IsWide w limit → ReadsTexts (to_be_bytes w) (λ n. n < limit) (number_at w)
number_reads w limit wide = record {
  takes = λ bytes read fits e.
      object_number_takes w limit wide bytes read.0 read.1 fits (guarded (ltb (length bytes) (byte_len w)) _ read e);
  again = λ n rest lt. guarded_back (ltb (length (to_be_bytes w n ++ rest)) (byte_len w)) _ (n, rest) (object_number_again w limit wide n rest lt);
}

pub half_reads : ReadsTexts u16_text (λ n. n < 2 ^ 16) (number_at w16)
half_reads = number_reads w16 (2 ^ 16) wide16

pub whole_reads : ReadsTexts u32_text (λ n. n < 2 ^ 32) (number_at w32)
whole_reads = number_reads w32 (2 ^ 32) wide32

pub byte_takes : (bytes : List ℕ) (read : ℕ × List ℕ) → IsBytes bytes → byte_at bytes ≡ Ok read → Takes bytes (read.0 ∷ []) read.1 × (read.0 < 256)
byte_takes [] read fits e = absurd cc
byte_takes (x ∷ bytes) read fits e =
    subst (λ (y : ℕ × List ℕ). Takes (x ∷ bytes) (y.0 ∷ []) y.1 × (y.0 < 256)) (ok_is (x, bytes) read e) (record { parts = refl; rest_fits = IsBytes-rest x bytes fits }, fits 0)

-- a word that is read is read by the reader of objects
word_of : (read : Result (ℕ × List ℕ) Refusal) (other : Result (ℕ × List ℕ) ObjectRefusal) → ((x : ℕ × List ℕ) → read ≡ Ok x → other ≡ Ok x) → (y : ℤ × List ℕ)
    → (read >>= λ n. Ok (cast_signed w32 n.0, n.1)) ≡ Ok y → (x : ℕ × List ℕ) × (other ≡ Ok x) × ((cast_signed w32 x.0, x.1) ≡ y)
word_of read other same y e =
    let b = bind_ok read (λ n. Ok (cast_signed w32 n.0, n.1)) y e in
    (b.0, same b.0 b.1, ok_is (cast_signed w32 b.0.0, b.0.1) y b.2)

word_back : (read : Result (ℕ × List ℕ) Refusal) (other : Result (ℕ × List ℕ) ObjectRefusal) → ((x : ℕ × List ℕ) → other ≡ Ok x → read ≡ Ok x) → (y : ℤ × List ℕ)
    → (other object>>= λ n. Ok (cast_signed w32 n.0, n.1)) ≡ Ok y → (read >>= λ n. Ok (cast_signed w32 n.0, n.1)) ≡ Ok y
word_back read (Ok x) same y e = rw (same x refl) cc
word_back read (Err d) same y e = absurd cc

pub word_reads : ReadsTexts word_text (FitsSigned w32) word_at
unfolding word_at object_word_at
word_reads = record {
  takes = λ bytes read fits e.
      let found = word_of (number_at w32 bytes) (object_number_at w32 bytes) (λ x. guarded (ltb (length bytes) (byte_len w32)) _ x) read e in
      object_word_takes bytes read.0 read.1 fits (rw found.1 (ap (λ (y : ℤ × List ℕ). Ok y) found.2));
  again = λ z rest fits. word_back (number_at w32 (word_text z ++ rest)) (object_number_at w32 (word_text z ++ rest))
      (λ x. guarded_back (ltb (length (word_text z ++ rest)) (byte_len w32)) _ x) (z, rest) (object_word_again z rest fits);
}

-- ---- lists

-- all of so many fit
abbrev pub AreSoMany : {A : Type 0} → (A → Type 0) → ℕ → List A → Type 0
AreSoMany Fits count xs = AllByRecursion Fits xs × (length xs ≡ count)

many_take : {A : Type 0} {text : A → List ℕ} {Fits : A → Type 0} {one_at : List ℕ → Result (A × List ℕ) Refusal} → ReadsTexts text Fits one_at → (count : ℕ) (bytes : List ℕ) (read : List A × List ℕ)
    → IsBytes bytes → many_at one_at count bytes ≡ Ok read → IsReadOf (flat_map text) (AreSoMany Fits count) bytes read
unfolding many_at
many_take {A} {text} {Fits} {one_at} reads zero bytes read fits e =
    let nothing : List A × List ℕ = ([], bytes) in
    subst (IsReadOf (flat_map text) (AreSoMany Fits 0) bytes) (ok_is nothing read e) (record { parts = refl; rest_fits = fits }, (tt, refl))
many_take {A} {text} {Fits} {one_at} reads (suc count) bytes read fits e =
    let a = bind_ok (one_at bytes) (λ first. many_at one_at count first.1 >>= λ others. Ok (first.0 ∷ others.0, others.1)) read e in
    let b = bind_ok (many_at one_at count a.0.1) (λ others. Ok (a.0.0 ∷ others.0, others.1)) read a.2 in
    let t = reads.takes bytes a.0 fits a.1 in
    let o = many_take reads count a.0.1 b.0 t.0.rest_fits b.1 in
    let made : List A × List ℕ = (a.0.0 ∷ b.0.0, b.0.1) in
    subst (IsReadOf (flat_map text) (AreSoMany Fits (suc count)) bytes) (ok_is made read b.2)
    (Takes-then bytes (text a.0.0) a.0.1 (flat_map text b.0.0) b.0.1 t.0 o.0, ((t.1, o.1.0), ap suc o.1.1))

many_again : {A : Type 0} {text : A → List ℕ} {Fits : A → Type 0} {one_at : List ℕ → Result (A × List ℕ) Refusal} → ReadsTexts text Fits one_at → (xs : List A) (rest : List ℕ)
    → AllByRecursion Fits xs → many_at one_at (length xs) (flat_map text xs ++ rest) ≡ Ok (xs, rest)
unfolding many_at
many_again reads [] rest fits = refl
many_again {A} {text} {Fits} {one_at} reads (x ∷ xs) rest fits =
    let regrouped : flat_map text (x ∷ xs) ++ rest ≡ text x ++ (flat_map text xs ++ rest) = append_assoc (text x) (flat_map text xs) rest in
    ap (many_at one_at (suc (length xs))) regrouped ∙ rw (reads.again x (flat_map text xs ++ rest) fits.0, many_again reads xs rest fits.1) refl

pub many_reads : {A : Type 0} {text : A → List ℕ} {Fits : A → Type 0} {one_at : List ℕ → Result (A × List ℕ) Refusal} → ReadsTexts text Fits one_at → (count : ℕ)
    → ReadsTexts (flat_map text) (AreSoMany Fits count) (many_at one_at count)
many_reads {A} {text} {Fits} {one_at} reads count = record {
  takes = many_take reads count;
  again = λ xs rest fits. ap (λ (n : ℕ). many_at one_at n (flat_map text xs ++ rest)) (sym fits.1) ∙ many_again reads xs rest fits.0;
}

-- how many there are, and each
abbrev pub counted_text : {A : Type 0} → (A → List ℕ) → List A → List ℕ
counted_text text xs = u16_text (length xs) ++ flat_map text xs

-- all fit, and they are few
abbrev pub AreFew : {A : Type 0} → (A → Type 0) → List A → Type 0
AreFew Fits xs = AllByRecursion Fits xs × (length xs ≤ 65535)

pub counted_reads : {A : Type 0} {text : A → List ℕ} {Fits : A → Type 0} {one_at : List ℕ → Result (A × List ℕ) Refusal} → ReadsTexts text Fits one_at
    → ReadsTexts (counted_text text) (AreFew Fits) (counted_at one_at)
unfolding counted_at
counted_reads {A} {text} {Fits} {one_at} reads = record {
  takes = λ bytes read fits e.
      let a = bind_ok (number_at w16 bytes) (λ count. many_at one_at count.0 count.1) read e in
      let n = half_reads.takes bytes a.0 fits a.1 in
      let o = (many_reads reads a.0.0).takes a.0.1 read n.0.rest_fits a.2 in
      let here : Takes bytes (u16_text (length read.0)) a.0.1 = subst (λ (k : ℕ). Takes bytes (u16_text k) a.0.1) (sym o.1.1) n.0 in
      (Takes-then bytes (u16_text (length read.0)) a.0.1 (flat_map text read.0) read.1 here o.0, (o.1.0, omega (arith, n.1, o.1.1)));
  again = λ xs rest fits.
      let regrouped : counted_text text xs ++ rest ≡ u16_text (length xs) ++ (flat_map text xs ++ rest) = append_assoc (u16_text (length xs)) (flat_map text xs) rest in
      ap (counted_at one_at) regrouped ∙ rw (half_reads.again (length xs) (flat_map text xs ++ rest) (omega (arith, fits.1)), many_again reads xs rest fits.0) refl;
}
