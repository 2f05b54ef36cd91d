-- Reading so many things one after the other, as a loop does.
use Rattle.std.proofs.Common.{drop, drop-cons, ◌≡◌, ℕ, suc, ◌+◌, ◌-◌, ◌<◌, ◌≤◌, List, [], ◌∷◌, ◌++◌, length, Result, Ok, Err, refl, sym, ap, ◌∙◌, append_assoc, arith}
use Rattle.std.proofs.lemmas.List.{append-nil}
use Rattle.pc_word.specs.Exact.{IsRefusal}
use Rattle.pc_cert.specs.declared.refusal.Refusal.{Refusal}
use Rattle.pc_cert.specs.declared.refusal.Halt.{Halt}
use Rattle.pc_cert.specs.declared.refusal.Halt.TheVariants as halts
use Rattle.pc_cert.specs.models.HaltCause.{halt_cause}
use Rattle.pc_cert.specs.declared.refusal.Refusal.TheVariants.{Short}
use Rattle.pc_cert.specs.Reading.{◌>>=◌, magic_at, many_at}

-- what was read before, and what is still read
abbrev pub with_front : {X : Type 0} → List X → Result (List X × List ℕ) Refusal → Result (List X × List ℕ) Refusal
with_front front read = read >>= λ x. Ok (front ++ x.0, x.1)

regroup : {X : Type 0} (front : List X) (n : X) (read : Result (List X × List ℕ) Refusal) → with_front front (read >>= λ x. Ok (n ∷ x.0, x.1)) ≡ with_front (front ++ n ∷ []) read
regroup front n (Ok x) = ap (λ (ns : List _). Ok (ns, x.1)) (simp append_assoc)
regroup front n (Err f) = refl

-- one more is read
pub many_go_on : {X : Type 0} (one_at : List ℕ → Result (X × List ℕ) Refusal) (front : List X) (count i : ℕ) (bytes : List ℕ) (x : X) (after : List ℕ) (all : Result (List X × List ℕ) Refusal)
    → i < count → one_at bytes ≡ Ok (x, after) → with_front front (many_at one_at (count - i) bytes) ≡ all
    → with_front (front ++ x ∷ []) (many_at one_at (count - (i + 1)) after) ≡ all
unfolding many_at
many_go_on one_at front count i bytes x after all lt h so_far =
    let k : count - i ≡ suc (count - (i + 1)) = omega arith in
    let one : with_front front (many_at one_at (count - i) bytes) ≡ with_front (front ++ x ∷ []) (many_at one_at (count - (i + 1)) after) =
    rw (k, h) (regroup front x (many_at one_at (count - (i + 1)) after)) in
    sym one ∙ so_far

-- the next one is refused
pub many_end : {X : Type 0} (halt : Halt) (one_at : List ℕ → Result (X × List ℕ) Refusal) (front : List X) (count i : ℕ) (bytes : List ℕ) (all : Result (List X × List ℕ) Refusal)
    → i < count → IsRefusal (halt_cause halt) (one_at bytes) → with_front front (many_at one_at (count - i) bytes) ≡ all → IsRefusal (halt_cause halt) all
unfolding many_at
many_end halts.Memory one_at front count i bytes all lt h so_far = tt
many_end (halts.Refused f) one_at front count i bytes all lt h so_far =
    let k : count - i ≡ suc (count - (i + 1)) = omega arith in
    let one : with_front front (many_at one_at (count - i) bytes) ≡ Err f = rw (k, h) refl in
    sym so_far ∙ one

-- all are read
pub many_done : {X : Type 0} (one_at : List ℕ → Result (X × List ℕ) Refusal) (front : List X) (count i : ℕ) (bytes : List ℕ) (all : Result (List X × List ℕ) Refusal) → count ≤ i
    → with_front front (many_at one_at (count - i) bytes) ≡ all → all ≡ Ok (front, bytes)
unfolding many_at
many_done one_at front count i bytes all le so_far =
    let k : count - i ≡ 0 = omega arith in
    let one : with_front front (many_at one_at (count - i) bytes) ≡ Ok (front, bytes) = rw k (ap (λ (ns : List _). Ok (ns, bytes)) (append-nil front)) in
    sym so_far ∙ one

-- ---- the first bytes

-- bytes that end before one that is due
pub magic_ends : (magic : List ℕ) (i : ℕ) (rest : List ℕ) (all : Result (List ℕ) Refusal) → i < length magic → length rest < 1 → magic_at (drop i magic) rest ≡ all → all ≡ Err Short
magic_ends magic i [] all lt none so_far = sym so_far ∙ rw (drop-cons magic i 0 lt) refl
magic_ends magic i (byte ∷ rest) all lt none so_far = absurd (omega arith)
