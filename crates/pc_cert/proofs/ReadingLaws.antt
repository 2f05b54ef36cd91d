-- The laws of certificates: what is read is a certificate whose text the bytes are, and the text of a certificate is read as it.
use Rattle.std.proofs.Common.{◌≡◌, ℕ, suc, ◌-◌, ◌^◌, ◌<◌, ◌≤◌, Bool, true, false, cond, eqb, List, [], ◌∷◌, ◌++◌, length}
use Rattle.std.proofs.Common.{Result, Ok, Err, refl, sym, ap, subst, ◌∙◌, append_assoc, arith}
use Rattle.std.specs.Prelude.{IfOk}
use Rattle.std.specs.Int.{w32}
use Rattle.std.specs.List.{flat_map, AllByRecursion}
use Rattle.std.proofs.lemmas.Bool.{eqb-true}
use Rattle.std.proofs.lemmas.List.{append-nil, length-append}
use Rattle.pc_word.specs.Exact.{IsExact}
use Rattle.pc_word.specs.MachineLimits.{most_object}
use Rattle.pc_object.specs.ObjectText.{u32_text}
use Rattle.pc_object.proofs.FieldLaws.{IsBytes, IsBytes-rest, Takes}
use Rattle.pc_cert.specs.declared.certificate.Entry.{Entry}
use Rattle.pc_cert.specs.declared.certificate.Certificate.{Certificate}
use Rattle.pc_cert.specs.declared.refusal.Refusal.{Refusal}
use Rattle.pc_cert.specs.declared.refusal.Refusal.TheVariants as refusals
use Rattle.pc_cert.specs.declared.refusal.CertificateError.{CertificateError}
use Rattle.pc_cert.specs.declared.refusal.CertificateError.TheVariants.{Trailing}
use Rattle.pc_cert.specs.CertificateText.{entry_text, certificate_text, IsEntry, IsCertificate}
use Rattle.pc_cert.specs.Numbers.{EntryFits, HasNumbers}
use Rattle.pc_cert.specs.Cause.{certificate_cause}
use Rattle.pc_cert.specs.Reading.{◌>>=◌, ◌>>◌, magic_at, number_at, many_at, entry_at, end_at, entries_at, told_of, certificate_reading}
use Rattle.pc_cert.proofs.ReadTexts.{Takes-tag, bind_ok, ok_is, whole_reads, many_reads}
use Rattle.pc_cert.proofs.ReadParts.{IsWritten, entry_reads}

-- ---- the first bytes

magic_takes : (magic bytes rest : List ℕ) → IsBytes bytes → magic_at magic bytes ≡ Ok rest → Takes bytes magic rest
magic_takes [] bytes rest fits e = record { parts = ok_is bytes rest e; rest_fits = subst IsBytes (ok_is bytes rest e) fits }
magic_takes (first ∷ magic) [] rest fits e = absurd cc
magic_takes (first ∷ magic) (byte ∷ bytes) rest fits e = split (magic_takes magic bytes rest (IsBytes-rest byte bytes fits)) (eqb byte first) refl e
  where
    split : (magic_at magic bytes ≡ Ok rest → Takes bytes magic rest) → (b : Bool) → eqb byte first ≡ b → cond b (magic_at magic bytes) (Err refusals.NotMagic) ≡ Ok rest
        → Takes (byte ∷ bytes) (first ∷ magic) rest
    split more true is found = subst (λ (n : ℕ). Takes (n ∷ bytes) (first ∷ magic) rest) (sym (eqb-true _ _ is)) (Takes-tag first bytes magic rest (more found))
    split more false is found = absurd cc

-- ---- entries that are written

-- all entries are written
pub all_written : (entries : List Entry) → AllByRecursion IsEntry entries → AllByRecursion EntryFits entries → AllByRecursion IsWritten entries
all_written [] may fits = tt
all_written (entry ∷ entries) may fits = (record { may = may.0; fits = fits.0 }, all_written entries may.1 fits.1)

may_be_written : (entries : List Entry) → AllByRecursion IsWritten entries → AllByRecursion IsEntry entries
may_be_written [] written = tt
may_be_written (entry ∷ entries) written = (written.0.may, may_be_written entries written.1)

have_numbers : (entries : List Entry) → AllByRecursion IsWritten entries → AllByRecursion EntryFits entries
have_numbers [] written = tt
have_numbers (entry ∷ entries) written = (written.0.fits, have_numbers entries written.1)

-- there are no more entries than bytes
few_entries : (entries : List Entry) → length entries ≤ length (flat_map entry_text entries)
few_entries [] = omega arith
few_entries (entry ∷ entries) = omega (arith, few_entries entries, length-append (entry_text entry) (flat_map entry_text entries), entry_is_long)
  where
    entry_is_long : 1 ≤ length (entry_text entry)
    entry_is_long = omega arith

-- ---- the whole

ended : {A : Type 0} (rest : List ℕ) (x y : A) → (end_at rest >> Ok x) ≡ Ok y → (rest ≡ []) × (x ≡ y)
ended [] x y e = (refl, cc)
ended (b ∷ rest) x y e = absurd cc

abbrev magic : List ℕ
magic = 0x50 ∷ 0x54 ∷ 0x43 ∷ 0x31 ∷ []

-- what bytes are whose entries were read
record IsReadCertificate (bytes : List ℕ) (entries : List Entry) : Type 0 where
  text : bytes ≡ certificate_text entries
  written : AllByRecursion IsWritten entries

entries_take : (bytes : List ℕ) (entries : List Entry) → IsBytes bytes → entries_at bytes ≡ Ok entries → IsReadCertificate bytes entries
unfolding entries_at
entries_take bytes entries fits e =
    let a = bind_ok (magic_at magic bytes) (λ rest. number_at w32 rest >>= λ count. many_at entry_at count.0 count.1 >>= λ read. end_at read.1 >> Ok read.0) entries e in
    let b = bind_ok (number_at w32 a.0) (λ count. many_at entry_at count.0 count.1 >>= λ read. end_at read.1 >> Ok read.0) entries a.2 in
    let c = bind_ok (many_at entry_at b.0.0 b.0.1) (λ read. end_at read.1 >> Ok read.0) entries b.2 in
    let last = ended c.0.1 c.0.0 entries c.2 in
    let ta = magic_takes magic bytes a.0 fits a.1 in
    let tb = whole_reads.takes a.0 b.0 ta.rest_fits b.1 in
    let tc = (many_reads entry_reads b.0.0).takes b.0.1 c.0 tb.0.rest_fits c.1 in
    let count : b.0.0 ≡ length entries = sym tc.1.1 ∙ ap (λ (xs : List Entry). length xs) last.1 in
    let parts : b.0.1 ≡ flat_map entry_text entries =
    tc.0.parts ∙ ap (λ (rest : List ℕ). flat_map entry_text c.0.0 ++ rest) last.0 ∙ append-nil (flat_map entry_text c.0.0) ∙ ap (λ (xs : List Entry). flat_map entry_text xs) last.1 in
    record {
      text = ta.parts ∙ ap (λ (rest : List ℕ). magic ++ rest) (tb.0.parts ∙ ap (λ (n : ℕ). u32_text n ++ b.0.1) count ∙ ap (λ (rest : List ℕ). u32_text (length entries) ++ rest) parts);
      written = subst (λ (xs : List Entry). AllByRecursion IsWritten xs) last.1 tc.1.0;
    }

-- the reader of entries, and then what follows them
entries_again : (entries : List Entry) (rest : List ℕ) → AllByRecursion IsWritten entries → length entries < 2 ^ 32
    → entries_at (certificate_text entries ++ rest) ≡ (end_at rest >> Ok entries)
unfolding entries_at
entries_again entries rest written few =
    let regrouped : (u32_text (length entries) ++ flat_map entry_text entries) ++ rest ≡ u32_text (length entries) ++ (flat_map entry_text entries ++ rest) =
    append_assoc (u32_text (length entries)) (flat_map entry_text entries) rest in
    ap (λ (t : List ℕ). entries_at (magic ++ t)) regrouped ∙ rw (
      whole_reads.again (length entries) (flat_map entry_text entries ++ rest) few,
      (many_reads entry_reads (length entries)).again entries rest (written, refl),
    ) refl

pub few_of : (entries : List Entry) → IsCertificate entries → length entries < 2 ^ 32
few_of entries is = omega (arith, few_entries entries, is.few_bytes, length-append (u32_text (length entries)) (flat_map entry_text entries))

read_ok : (total : ℕ) (read : Result (List Entry) Refusal) (entries : List Entry) → told_of total read ≡ Ok entries → read ≡ Ok entries
read_ok total (Ok x) entries e = cc
read_ok total (Err refusal) entries e = absurd cc

pub reads_certificates : (bytes : List ℕ) (entries : List Entry) → IsBytes bytes → length bytes ≤ most_object → certificate_reading bytes ≡ Ok entries
    → IsCertificate entries × HasNumbers entries × (bytes ≡ certificate_text entries)
unfolding certificate_reading
reads_certificates bytes entries fits few e =
    let found = entries_take bytes entries fits (read_ok (length bytes) (entries_at bytes) entries e) in
    let short : length (certificate_text entries) ≤ most_object = subst (λ (t : List ℕ). length t ≤ most_object) found.text few in
    (record { may = may_be_written entries found.written; few_bytes = short }, have_numbers entries found.written, found.text)

pub reads_text : (entries : List Entry) → IsCertificate entries → HasNumbers entries → certificate_reading (certificate_text entries) ≡ Ok entries
unfolding certificate_reading
reads_text entries is numbers =
    let whole = entries_again entries [] (all_written entries is.may numbers) (few_of entries is) in
    let nothing : certificate_text entries ++ [] ≡ certificate_text entries = append-nil (certificate_text entries) in
    ap (λ (r : Result (List Entry) Refusal). told_of (length (certificate_text entries)) r) (ap entries_at (sym nothing) ∙ whole)

pub reads_longer : (entries : List Entry) (byte : ℕ) (more : List ℕ) → IsCertificate entries → HasNumbers entries
    → certificate_reading (certificate_text entries ++ byte ∷ more) ≡ Err (Trailing (length (certificate_text entries)))
unfolding certificate_reading
reads_longer entries byte more is numbers =
    let text = certificate_text entries in
    let e : length (text ++ byte ∷ more) - suc (length more) ≡ length text = omega (arith, length-append text (byte ∷ more)) in
    ap (λ (r : Result (List Entry) Refusal). told_of (length (text ++ byte ∷ more)) r) (entries_again entries (byte ∷ more) (all_written entries is.may numbers) (few_of entries is))
    ∙ ap (λ (n : ℕ). Err (Trailing n)) e

-- certificates with one text are one
pub one_certificate : (a b : List Entry) → IsCertificate a → IsCertificate b → HasNumbers a → HasNumbers b → certificate_text a ≡ certificate_text b → a ≡ b
one_certificate a b is_a is_b numbers_a numbers_b e =
    let same = sym (reads_text a is_a numbers_a) ∙ ap certificate_reading e ∙ reads_text b is_b numbers_b in cc

-- ---- what the reader gave

-- what is read is a certificate, whose text the bytes are
pub found : (bytes : List ℕ) (result : Result Certificate CertificateError) → IsBytes bytes → length bytes ≤ most_object
    → IsExact (λ it. it.entries) certificate_cause result (certificate_reading bytes)
    → IfOk result (λ it. IsCertificate it.entries × HasNumbers it.entries × (bytes ≡ certificate_text it.entries))
found bytes (Ok it) fits few given = reads_certificates bytes it.entries fits few given
found bytes (Err error) fits few given = tt

-- of what holds of a value that was given, a part
pub part_of : {A E : Type 0} {P Q : A → Type 0} (result : Result A E) → ((x : A) → P x → Q x) → IfOk result P → IfOk result Q
part_of (Ok x) f given = f x given
part_of (Err error) f given = tt

pub only_it : (bytes : List ℕ) (result : Result Certificate CertificateError) (entries : List Entry) → IsExact (λ it. it.entries) certificate_cause result (certificate_reading bytes)
    → IsCertificate entries → HasNumbers entries → bytes ≡ certificate_text entries → IsExact (λ it. it.entries) certificate_cause result (Ok entries)
only_it bytes result entries given is numbers e =
    subst (λ (read : Result (List Entry) CertificateError). IsExact (λ it. it.entries) certificate_cause result read) (ap certificate_reading e ∙ reads_text entries is numbers) given
