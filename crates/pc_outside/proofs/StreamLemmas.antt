-- Told bytes over several reads or writes.
use Rattle.std.proofs.Common.{◌≡◌, ℕ, zero, suc, ◌-◌, ◌<◌, ◌+◌, ◌≤◌, List, [], ◌++◌, length, take, drop, Option, Some, None, ◌⊎◌, inl, inr, refl}
use Rattle.std.proofs.Common.{sym, ap, ◌∙◌, append_assoc, arith, length-append}
use Rattle.std.specs.Io.KnownBytes.{Appends, Consumes, IsAtEnd, Keeps, ReadConsumes, WriteAppends}
use Rattle.std.proofs.lemmas.List.{take_at, drop_at, take_all, drop_all, append-nil, length-take-le}
use Rattle.std.proofs.lemmas.Slice.{between_to_end}
use Rattle.std.proofs.Math.Seq.{take-add}
use Rattle.std.specs.Prelude.{slice_range, Result, Ok, Err}
use Rattle.pc_outside.specs.Stream.{TakesFirst, LosesFront, flushed}

-- to lose some bytes and then others is to lose both
pub Consumes-append : (a b c : Option (List ℕ)) (xs ys : List ℕ) → Consumes a b xs → Consumes b c ys → Consumes a c (xs ++ ys)
Consumes-append None b c xs ys p q = tt
Consumes-append (Some a) None c xs ys p q = absurd p
Consumes-append (Some a) (Some b) None xs ys p q = absurd q
Consumes-append (Some a) (Some b) (Some c) xs ys p q = p ∙ ap (λ zs. xs ++ zs) q ∙ sym (append_assoc xs ys c)

-- to grow by some bytes and then by others is to grow by both
pub Appends-append : (a b c : Option (List ℕ)) (xs ys : List ℕ) → Appends a b xs → Appends b c ys → Appends a c (xs ++ ys)
Appends-append None b c xs ys p q = tt
Appends-append (Some a) None c xs ys p q = absurd p
Appends-append (Some a) (Some b) None xs ys p q = absurd q
Appends-append (Some a) (Some b) (Some c) xs ys p q = q ∙ ap (λ zs. zs ++ ys) p ∙ append_assoc a xs ys

-- a further piece of the bytes from a place on
pub Appends-more : (a b c : Option (List ℕ)) (bytes : List ℕ) (sent n : ℕ) → Appends a b (take sent bytes)
    → Appends b c (take n (slice_range bytes sent (length bytes))) → Appends a c (take (sent + n) bytes)
Appends-more a b c bytes sent n p q =
    let rest : slice_range bytes sent (length bytes) ≡ drop sent bytes = between_to_end bytes sent (length bytes) (omega arith) in
    rw take-add (Appends-append a b c _ _ p (rw rest at q))

-- to lose none more
pub Consumes-none : (a b c : Option (List ℕ)) (xs ys : List ℕ) (n : ℕ) → n ≡ 0 → Consumes a b xs → Consumes b c (take n ys) → Consumes a c xs
Consumes-none a b c xs ys n e p q =
    let none : take n ys ≡ [] = ap (λ k. take k ys) e in
    let all : xs ++ [] ≡ xs = append-nil xs in
    rw all at (Consumes-append a b c xs [] p (rw none at q))

-- what was read before, and a further piece, are lost
pub LosesFront-more : (a b c : Option (List ℕ)) (most : ℕ) (xs ys : List ℕ) → length xs + length ys ≤ most → Consumes a b xs → Consumes b c ys → LosesFront a c most
LosesFront-more a b c most xs ys bound p q = record {
  lost = xs ++ ys;
  bound = rw length-append bound;
  gone = Consumes-append a b c xs ys p q;
}

-- bytes from the front that are as many as may be, or all that there were, are the first
first_bytes : (most : ℕ) (all new : List ℕ) → length all ≤ most → (length all ≡ most) ⊎ (new ≡ []) → all ≡ take most (all ++ new)
first_bytes most all new bound (inl e) = sym (take_at all new most e)
first_bytes most all new bound (inr e) =
    let whole : all ++ new ≡ all = ap (λ xs. all ++ xs) e ∙ append-nil all in
    sym (take_all most (all ++ new) (rw whole bound) ∙ whole)

-- and what is left is the rest
rest_bytes : (most : ℕ) (all new : List ℕ) → length all ≤ most → (length all ≡ most) ⊎ (new ≡ []) → new ≡ drop most (all ++ new)
rest_bytes most all new bound (inl e) = sym (drop_at all new most e)
rest_bytes most all new bound (inr e) =
    let whole : all ++ new ≡ all = ap (λ xs. all ++ xs) e ∙ append-nil all in
    e ∙ sym (drop_all most (all ++ new) (rw whole bound))

-- what was read so far is the first bytes, once it is as much as may be or nothing is left
pub TakesFirst-from_consumes : (old new : Option (List ℕ)) (most : ℕ) (all : List ℕ) → length all ≤ most → Consumes old new all
    → (length all ≡ most) ⊎ IsAtEnd new → TakesFirst old new most all
TakesFirst-from_consumes None new most all bound e h = record { bound = bound; first = tt; lost = tt }
TakesFirst-from_consumes (Some old) None most all bound e h = absurd e
TakesFirst-from_consumes (Some old) (Some new) most all bound e h = record {
  bound = bound;
  first = first_bytes most all new bound h ∙ ap (take most) (sym e);
  lost = ap Some (rest_bytes most all new bound h ∙ ap (drop most) (sym e));
}

-- ---- a stream that was asked before, and kept what is told of it

-- what is told is kept where nothing is asked
pub Keeps-refl : (a : Option (List ℕ)) → Keeps a a
Keeps-refl None = tt
Keeps-refl (Some xs) = refl

-- kept twice
pub Keeps-trans : (a b c : Option (List ℕ)) → Keeps a b → Keeps b c → Keeps a c
Keeps-trans None b c p q = tt
Keeps-trans (Some xs) None c p q = absurd p
Keeps-trans (Some xs) (Some ys) None p q = absurd q
Keeps-trans (Some xs) (Some ys) (Some zs) p q = q ∙ p

-- kept, and then lost from the front
Consumes-kept : (a b c : Option (List ℕ)) (bs : List ℕ) → Keeps a b → Consumes b c bs → Consumes a c bs
Consumes-kept None b c bs p q = tt
Consumes-kept (Some xs) None c bs p q = absurd p
Consumes-kept (Some xs) (Some ys) None bs p q = absurd q
Consumes-kept (Some xs) (Some ys) (Some zs) bs p q = sym p ∙ q

-- kept, and then grown
Appends-kept : (a b c : Option (List ℕ)) (bs : List ℕ) → Keeps a b → Appends b c bs → Appends a c bs
Appends-kept None b c bs p q = tt
Appends-kept (Some xs) None c bs p q = absurd p
Appends-kept (Some xs) (Some ys) None bs p q = absurd q
Appends-kept (Some xs) (Some ys) (Some zs) bs p q = q ∙ ap (λ ws. ws ++ bs) p

-- kept, and then read
pub ReadConsumes-kept : {E : Type 0} (a b c : Option (List ℕ)) (r : Result ℕ E) (into : List ℕ) → Keeps a b → ReadConsumes b c r into → ReadConsumes a c r into
ReadConsumes-kept a b c (Ok n) into p q = (Consumes-kept a b c (take n into) p q.0, q.1)
ReadConsumes-kept a b c (Err e) into p q = Keeps-trans a b c p q

-- kept, and then written
pub WriteAppends-kept : {E : Type 0} (a b c : Option (List ℕ)) (r : Result ℕ E) (from : List ℕ) → Keeps a b → WriteAppends b c r from → WriteAppends a c r from
WriteAppends-kept a b c (Ok n) from p q = Appends-kept a b c (take n from) p q
WriteAppends-kept a b c (Err e) from p q = Keeps-trans a b c p q

-- a write that no flush confirmed leaves what was taken as it was
pub flushed_kept : (a b c : Option (List ℕ)) (n : ℕ) (buf : List ℕ) → 0 < n → n ≤ length buf → Appends a b (take n buf) → Keeps b c
    → Keeps a (flushed n c)
flushed_kept None b c n buf some bound p q = tt
flushed_kept (Some a) None c n buf some bound p q = absurd p
flushed_kept (Some a) (Some b) None n buf some bound p q = absurd q
flushed_kept (Some a) (Some b) (Some c) zero buf some bound p q = absurd (omega arith)
flushed_kept (Some a) (Some b) (Some c) (suc n) buf some bound p q =
    let grown : c ≡ a ++ take (suc n) buf = q ∙ p in
    let added : length (take (suc n) buf) ≡ suc n = length-take-le (suc n) buf bound in
    let whole : length c ≡ length a + length (take (suc n) buf) = ap length grown ∙ length-append a (take (suc n) buf) in
    let before : length a ≡ length c - suc n = omega (arith, whole, added) in
    ap (λ (bytes : List ℕ). take (length c - suc n) bytes) grown ∙ take_at a (take (suc n) buf) (length c - suc n) before
