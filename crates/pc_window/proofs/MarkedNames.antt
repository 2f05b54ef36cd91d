-- Marks that tell which names are in a list.
use Rattle.std.proofs.Common.{◌≡◌, ◌≢◌, ◌⊎◌, inl, inr, ℕ, zero, suc, ◌≤◌, List, [], ◌∷◌, ◌++◌, Some, length, sym, ◌∙◌, ap, subst, arith}
use Rattle.std.specs.Prelude.{Bool, true, false, ◌||◌, nat_eq, replicate, slice_get, slice_set}
use Rattle.std.proofs.lemmas.Bool.Decides.{eqb_tells}
use Rattle.std.proofs.lemmas.Option.{slice_get_within}
use Rattle.pc_word.proofs.Lists.{set_at}
use Rattle.pc_window.specs.Rebasing.{is_in}
use Rattle.pc_window.specs.models.Listing.{AreMarked}
use Rattle.pc_window.proofs.Listed.{in_more, or_true, or_false}

-- no name is marked where none is listed
pub none_listed : (n : ℕ) (marks : List Bool) → marks ≡ replicate n false → AreMarked [] marks
none_listed n marks is = subst (λ (list : List Bool). AreMarked [] list) (sym is) (record { says = says n })
  where
    says : (n name : ℕ) (mark : Bool) → slice_get (replicate n false) name ≡ Some mark → false ≡ mark
    says zero name mark e = absurd (cc)
    says (suc n) zero mark e = (cc)
    says (suc n) (suc name) mark e = says n name mark e

module _ (names later : List ℕ) (marks : List Bool) (name : ℕ) (are : AreMarked names marks) (put : later ≡ names ++ name ∷ []) where
  is_in-later : (x : ℕ) (same : Bool) → nat_eq x name ≡ same → is_in x later ≡ (is_in x names || same)
  is_in-later x same e = ap (is_in x) put ∙ in_more x name names ∙ ap (λ (b : Bool). is_in x names || b) e

  itself : (x : ℕ) → x ≡ name → is_in x later ≡ true
  itself x is = is_in-later x true (grind arith) ∙ or_true (is_in x names)

  another : (x : ℕ) → x ≢ name → is_in x later ≡ is_in x names
  another x is = by (eqb_tells x name)
    where
      by : ((nat_eq x name ≡ true) × (x ≡ name)) ⊎ ((nat_eq x name ≡ false) × (x ≢ name)) → is_in x later ≡ is_in x names
      by (inl same) = absurd (is same.1)
      by (inr apart) = is_in-later x false apart.0 ∙ or_false (is_in x names)

  -- one more name, which is marked
  pub one_marked : (after : List Bool) → after ≡ slice_set marks name true → AreMarked later after
  one_marked after set = record { says = λ x mark e. by x mark (set_at marks name x true mark (ap (λ (list : List Bool). slice_get list x) (sym set) ∙ e)) }
    where
      by : (x : ℕ) (mark : Bool) → ((x ≡ name) × (mark ≡ true)) ⊎ ((x ≢ name) × (slice_get marks x ≡ Some mark)) → is_in x later ≡ mark
      by x mark (inl own) = itself x own.0 ∙ sym own.1
      by x mark (inr other) = another x other.0 ∙ are.says x mark other.1

  -- one more name, which has no mark
  pub one_unmarked : length marks ≤ name → AreMarked later marks
  one_unmarked out = record { says = λ x mark e. another x (apart x mark e) ∙ are.says x mark e }
    where
      apart : (x : ℕ) (mark : Bool) → slice_get marks x ≡ Some mark → x ≢ name
      apart x mark e is = let lt = slice_get_within marks x mark e in omega arith

pub ruleset marks = (none_listed, one_marked, one_unmarked)
