-- What reads and writes do to the bytes that a source has left and a sink has taken, where these are told.
use Rattle.std.specs.Prelude.{◌≡◌, ℕ, zero, suc, ◌-◌, ◌<◌, ◌≤◌, List, length, take, drop, Option, Some, IfSome, Result, MatchResult}
use Rattle.std.specs.Option.{option_map}
use Rattle.std.specs.Io.KnownBytes.{Appends, Consumes}

-- a read that gave n bytes left the rest of its slice as before, and one that failed all of it
abbrev pub KeepsRest : {E : Type 0} → Result ℕ E → List ℕ → List ℕ → Type 0
KeepsRest r old new = MatchResult r (λ n. drop n new ≡ drop n old) (λ _. new ≡ old)

-- all is the first bytes of what was left, at most this many, or the whole of less; what is left lost them
pub record TakesFirst (old new : Option (List ℕ)) (most : ℕ) (all : List ℕ) : Type 0 where
  pub bound : length all ≤ most
  pub first : IfSome old (λ bytes. all ≡ take most bytes)
  pub lost : IfSome old (λ bytes. new ≡ Some (drop most bytes))

-- what is left lost some bytes from its front, at most this many
pub record LosesFront (old new : Option (List ℕ)) (most : ℕ) : Type 0 where
  pub lost : List ℕ
  pub bound : length lost ≤ most
  pub gone : Consumes old new lost

-- what was taken grew by a proper prefix of bs
pub record AppendsPart (old new : Option (List ℕ)) (bs : List ℕ) : Type 0 where
  pub sent : ℕ
  pub short : sent < length bs
  pub grew : Appends old new (take sent bs)

-- of what a writer took, all but the last bytes, so many as no flush has confirmed
abbrev pub flushed : ℕ → Option (List ℕ) → Option (List ℕ)
flushed zero told = told
flushed (suc n) told = option_map (λ bytes. take (length bytes - suc n) bytes) told
