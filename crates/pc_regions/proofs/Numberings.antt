-- Lists that grow by an element, and a node that gets the next number.
use Rattle.std.proofs.Common.{◌≡◌, ◌≢◌, ℕ, zero, suc, ◌<◌, ◌≤◌, inl, inr, List, [], ◌∷◌, ◌++◌, length, Option, Some, None, refl, sym, ◌∙◌, ap, subst, arith, get_or}
use Rattle.std.specs.Prelude.{is_some, slice_get, slice_set, replicate}
use Rattle.std.specs.List.{count_by}
use Rattle.std.proofs.lemmas.Option.{slice_get_within, slice_get-get_or}
use Rattle.std.proofs.lemmas.List.{get_or-replicate, length-replicate}
use Rattle.pc_word.proofs.Lists.{count_more, set_at, set_length}
use Rattle.pc_word.specs.SourceLimits.{most_nodes}
use Rattle.pc_regions.specs.models.Numbered.{Numbered, IsNumbered, nothing_met, Meets}
use Rattle.pc_word.proofs.Places.{get_front, get_last, get_more, length_more, set_there, set_elsewhere}

-- a node that gets a number is counted
count_set : (xs : List (Option ℕ)) (i x : ℕ) → slice_get xs i ≡ Some None → count_by is_some (slice_set xs i (Some x)) ≡ suc (count_by is_some xs)
count_set [] i x e = absurd (cc)
count_set (None ∷ xs) zero x e =
    let more = count_more is_some (Some x) xs in
    let before = count_more is_some None xs in
    omega (arith, more, before)
count_set (Some y ∷ xs) zero x e = absurd (cc)
count_set (y ∷ xs) (suc i) x e =
    let more = count_more is_some y (slice_set xs i (Some x)) in
    let before = count_more is_some y xs in
    let rest = count_set xs i x e in
    omega (arith, more, before, rest)

-- the numbering in which a node has the next number
abbrev pub numbered_next : Numbered → ℕ → Numbered
numbered_next it node = record { numbers = slice_set it.numbers node (Some (length it.order)); order = it.order ++ node ∷ [] }

-- numberings with equal parts are equal
numbered_equal : (it other : Numbered) → it.numbers ≡ other.numbers → it.order ≡ other.order → it ≡ other
numbered_equal it other p q =
    ap (λ (numbers : List (Option ℕ)). let made : Numbered = record { numbers = numbers; order = it.order } in made) p
    ∙ ap (λ (order : List ℕ). let made : Numbered = record { numbers = other.numbers; order = order } in made) q

-- a node that was met before is another one than a node that was not
not_met : (it : Numbered) (node number other : ℕ) → IsNumbered it → slice_get it.numbers node ≡ Some None → slice_get it.order number ≡ Some other → node ≢ other
not_met it node number other is none met same =
    let there = is.node_there number other met in
    let e : slice_get it.numbers other ≡ Some None = subst (λ (n : ℕ). slice_get it.numbers n ≡ Some None) same none in
    cc

-- a node that was not met yet may get the next number
pub next_is_numbered : (it : Numbered) (node : ℕ) → IsNumbered it → slice_get it.numbers node ≡ Some None → IsNumbered (numbered_next it node)
next_is_numbered it node is none =
    let within = slice_get_within it.numbers node None none in
    record {
      few_nodes = subst (λ (n : ℕ). n ≤ most_nodes) (sym (set_length it.numbers node (Some (length it.order)))) is.few_nodes;
      as_many = length_more it.order node ∙ ap suc is.as_many ∙ sym (count_set it.numbers node (length it.order) none);
      number_there = λ other number e. elim (set_at it.numbers node other (Some (length it.order)) (Some number) e) [
        | inl h ↦
            let is_number : length it.order ≡ number = (cc) in
            subst (λ (n : ℕ). slice_get (it.order ++ node ∷ []) n ≡ Some other) is_number
            (get_last it.order node ∙ ap (λ (n : ℕ). Some n) (sym h.0))
        | inr h ↦ get_front it.order (node ∷ []) number other (is.number_there other number h.1)
      ];
      node_there = λ number other e. elim (get_more it.order node number other e) [
        | inl h ↦ set_elsewhere it.numbers node other (Some (length it.order)) (not_met it node number other is none h) ∙ is.node_there number other h
        | inr h ↦
            subst (λ (n : ℕ). slice_get (slice_set it.numbers node (Some (length it.order))) n ≡ Some (Some number)) h.1
            (set_there it.numbers node (Some (length it.order)) within ∙ ap (λ (n : ℕ). Some (Some n)) (sym h.0))
      ];
    }

-- the parts of a numbering in which a node gets the next number
pub record GetsNext (it new : Numbered) (node number : ℕ) : Type 0 where
  pub within : node < length it.numbers
  pub none : get_or it.numbers node None ≡ None
  pub is_next : number ≡ length it.order
  pub numbers : new.numbers ≡ slice_set it.numbers node (Some number)
  pub order : new.order ≡ it.order ++ node ∷ []

-- such a numbering is one
pub gets_next_is_numbered : (it new : Numbered) (node number : ℕ) → IsNumbered it → GetsNext it new node number → IsNumbered new
gets_next_is_numbered it new node number is gets =
    let none = slice_get-get_or it.numbers node None gets.within ∙ ap Some gets.none in
    subst IsNumbered (sym (numbered_equal new (numbered_next it node) (gets.numbers ∙ ap (λ (n : ℕ). slice_set it.numbers node (Some n)) gets.is_next) gets.order))
    (next_is_numbered it node is none)

-- and in it the node has this number
pub gets_next_meets : (it new : Numbered) (node number : ℕ) → GetsNext it new node number → Meets it new node number
gets_next_meets it new node number gets = record {
  there = rw (gets.order, gets.is_next) (get_last it.order node);
  as_many_nodes = rw gets.numbers (set_length it.numbers node (Some number));
  grown = inr (gets.order, gets.is_next);
}

-- in a list of nothing nothing is found
none_there : (count i x : ℕ) → slice_get (replicate count None) i ≡ Some (Some x) → ⊥
none_there count i x e =
    let nothing : Option ℕ = None in
    let within = slice_get_within (replicate count None) i (Some x) e in
    let fewer : i < count = omega (arith, within, length-replicate count nothing) in
    let there = slice_get-get_or (replicate count None) i None within ∙ ap Some (get_or-replicate count i None None fewer) in
    cc

-- and nothing is counted
none_counted : (count : ℕ) → count_by is_some (replicate count (let nothing : Option ℕ = None in nothing)) ≡ 0
none_counted zero = refl
none_counted (suc count) =
    let nothing : Option ℕ = None in
    let more = count_more is_some nothing (replicate count nothing) in
    let rest = none_counted count in
    omega (arith, more, rest)

-- where no node was met, nothing is said
pub nothing_met_is_numbered : (count : ℕ) → count ≤ most_nodes → IsNumbered (nothing_met count)
nothing_met_is_numbered count few = record {
  few_nodes = subst (λ (n : ℕ). n ≤ most_nodes) (sym (length-replicate count None)) few;
  as_many = sym (none_counted count);
  number_there = λ node number e. absurd (none_there count node number e);
  node_there = λ number node e. absurd (cc);
}
