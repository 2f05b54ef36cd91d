-- What is told at the leaves of a row.
use Rattle.std.proofs.Common.{◌≡◌, ℕ, zero, suc, ◌+◌, ◌<◌, ◌≤◌, drop, get_or, arith, nat_eq, List, [], ◌∷◌, length, Option, Some, refl, ◌∙◌}
use Rattle.std.proofs.Math.Seq.{drop-cons}
use Rattle.std.specs.Prelude.{slice_index_or, if◌then◌else◌, Bool, true, false, not}
use Rattle.pc_renaming.specs.declared.witness.Holding.{Holding}
use Rattle.pc_renaming.specs.Witness.{with_home, home_after, home_of}

-- where one value is depends on what is told of it alone
pub home_at : (one other : ℕ → Option ℕ) (held : List Holding) (register : ℕ) → one register ≡ other register → home_after one held register ≡ home_after other held register
home_at one other [] register same = same
home_at one other (holding ∷ held) register same = home_at (with_home holding.register holding.place one) (with_home holding.register holding.place other) held register here
  where
    here : with_home holding.register holding.place one register ≡ with_home holding.register holding.place other register
    here = elim (nat_eq holding.register register) as (λ b. (if b then Some holding.place else one register) ≡ (if b then Some holding.place else other register)) [
      | true ↦ refl
      | false ↦ same
    ]

-- with what is told of one more
pub told_on : (held : List Holding) (i : ℕ) (d : Holding) (place next : Option ℕ) (register : ℕ) → i < length held
    → next ≡ with_home (get_or held i d).register (get_or held i d).place (λ other. place) register
    → home_after (λ other. place) (drop i held) register ≡ home_of held register → home_after (λ other. next) (drop (i + 1) held) register ≡ home_of held register
told_on held i d place next register below is so_far =
    let one : i + 1 ≡ suc i = omega arith in
    let at : drop i held ≡ get_or held i d ∷ drop (suc i) held = drop-cons held i d below in
    let now = rw at at so_far in
    rw one (home_at (λ other. next) (with_home (get_or held i d).register (get_or held i d).place (λ other. place)) (drop (suc i) held) register is ∙ now)

-- past the end of a table nothing is told
pub past_end : {X : Type 0} (xs : List X) (at : ℕ) (x : X) → length xs ≤ at → slice_index_or xs at x ≡ x
past_end [] at x past = refl
past_end (y ∷ xs) zero x past = absurd (omega (arith, past))
past_end (y ∷ xs) (suc at) x past = past_end xs at x (omega (arith, past))

-- a test whose opposite failed
pub not_false : (b : Bool) → not b ≡ false → b ≡ true
not_false true is = refl
not_false false is = absurd (cc)

pub ruleset home_laws = (home_at, past_end)
