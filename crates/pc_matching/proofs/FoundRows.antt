-- A row that is found to match a front matches it.
use Rattle.std.proofs.Common.{◌≡◌, ℕ, zero, suc, ◌+◌, Bool, true, false, List, [], ◌∷◌, ◌++◌, length, Option, Some, None, refl, sym, ◌∙◌, ap, subst, append_assoc, arith}
use Rattle.std.specs.Prelude.{if◌then◌else◌, slice_get}
use Rattle.std.proofs.Math.ListN.{length-append}
use Rattle.std.proofs.lemmas.List.{append-nil}
use Rattle.pc_word.specs.declared.item.Item.{Item}
use Rattle.pc_word.specs.declared.item.Operand.{Operand}
use Rattle.pc_word.specs.Row.{Row, Then, Either, At_leaf, leaves_of}
use Rattle.pc_window.specs.Steps.{with_tree, front_row}
use Rattle.pc_certified.specs.LeafAgrees.{LeafAgrees}
use Rattle.pc_certified.specs.Facts.{Fact}
use Rattle.pc_certified.specs.RowMatches.{RowMatches, row_item, front_item, both_test, both_leaf}
use Rattle.pc_matching.specs.Matching.{operands_match, effects_match}
use Rattle.pc_matching.specs.FactsAfter.{facts_after}
use Rattle.pc_matching.specs.RowMatch.{first_items, below_items, both_sides, test_match, leaf_match, match_below}
use Rattle.pc_matching.specs.Laws.{HoldsAtLeaves, AgreesFromFacts, FoundRowsMatch, EachLeafHasFacts, FoundRowsOfClaimsMatch}
use Rattle.pc_matching.proofs.Tests.{operands_of_test}
use Rattle.pc_matching.proofs.TakenEffects.{effects_found}
use Rattle.pc_matching.proofs.Listing.{listed_facts_hold}

-- ---- what is found, step by step

-- a row is found to match a front, with these facts at its leaves, where these items of each stand above
pub data IsFound {L M : Type 0} (facts : List Fact) : List Item → List Item → Row L → Row M → List (List Fact) → Type 0 where
  found_item : {items others : List Item} {item : Item} {row : Row L} {front : Row M} {helds : List (List Fact)}
      → IsFound facts (items ++ (item ∷ [])) others row front helds → IsFound facts items others (Then item row) front helds
  found_front : {items others : List Item} {item : Item} {row : Row L} {front : Row M} {helds : List (List Fact)}
      → IsFound facts items (others ++ (item ∷ [])) row front helds → IsFound facts items others row (Then item front) helds
  found_test : {items others : List Item} {on on' : Operand} {yes_row no_row : Row L} {yes_front no_front : Row M} {one other : List (List Fact)}
      → operands_match facts on on' ≡ true → IsFound facts items others yes_row yes_front one → IsFound facts items others no_row no_front other
      → IsFound facts items others (Either on yes_row no_row) (Either on' yes_front no_front) (one ++ other)
  found_leaf : {items others : List Item} {leaf : L} {left : M} → effects_match facts items others ≡ true
      → IsFound facts items others (At_leaf leaf) (At_leaf left) (facts_after facts items others ∷ [])

-- what is found of a row is a match, whatever the front
abbrev Finds : {L : Type 0} (M : Type 0) → List Fact → List Item → List Item → Row L → Type 0
Finds M facts items others row =
    (front : Row M) (helds : List (List Fact)) → match_below facts items others row front ≡ Some helds → IsFound facts items others row front helds

module _ {L M : Type 0} (facts : List Fact) where
  -- below the first items of a front, and so above them
  down : (items others : List Item) (row : Row L) (front : Row M) (helds : List (List Fact))
      → IsFound facts items (others ++ first_items front) row (below_items front) helds → IsFound facts items others row front helds
  down items others row (Then item rest) helds h =
      let joined : others ++ (item ∷ first_items rest) ≡ (others ++ (item ∷ [])) ++ first_items rest = sym (append_assoc others (item ∷ []) (first_items rest)) in
      found_front (down items (others ++ (item ∷ [])) row rest helds
      (subst (λ (above : List Item). IsFound facts items above row (below_items rest) helds) joined h))
  down items others row (Either on yes_front no_front) helds h =
      subst (λ (above : List Item). IsFound facts items above row (Either on yes_front no_front) helds) (append-nil others) h
  down items others row (At_leaf left) helds h =
      subst (λ (above : List Item). IsFound facts items above row (At_leaf left) helds) (append-nil others) h

  -- what is found of both sides
  sides : (items others : List Item) (on on' : Operand) (yes_row no_row : Row L) (yes_front no_front : Row M) (one other : Option (List (List Fact)))
      (helds : List (List Fact)) → operands_match facts on on' ≡ true
      → ((found : List (List Fact)) → one ≡ Some found → IsFound facts items others yes_row yes_front found)
      → ((found : List (List Fact)) → other ≡ Some found → IsFound facts items others no_row no_front found) → both_sides one other ≡ Some helds
      → IsFound facts items others (Either on yes_row no_row) (Either on' yes_front no_front) helds
  sides items others on on' yes_row no_row yes_front no_front (Some one) (Some other) helds same h k e =
      let is : one ++ other ≡ helds = (cc) in
      subst (IsFound facts items others (Either on yes_row no_row) (Either on' yes_front no_front)) is (found_test same (h one refl) (k other refl))
  sides items others on on' yes_row no_row yes_front no_front (Some one) None helds same h k e = absurd (cc)
  sides items others on on' yes_row no_row yes_front no_front None other helds same h k e = absurd (cc)

  test_if : (b : Bool) (items others : List Item) (on on' : Operand) (yes_row no_row : Row L) (yes_front no_front : Row M) (one other : Option (List (List Fact)))
      (helds : List (List Fact)) → operands_match facts on on' ≡ b
      → ((found : List (List Fact)) → one ≡ Some found → IsFound facts items others yes_row yes_front found)
      → ((found : List (List Fact)) → other ≡ Some found → IsFound facts items others no_row no_front found)
      → (if b then both_sides one other else None) ≡ Some helds
      → IsFound facts items others (Either on yes_row no_row) (Either on' yes_front no_front) helds
  test_if true items others on on' yes_row no_row yes_front no_front one other helds same h k e =
      sides items others on on' yes_row no_row yes_front no_front one other helds same h k e
  test_if false items others on on' yes_row no_row yes_front no_front one other helds same h k e = absurd (cc)

  at_test : (items others : List Item) (on : Operand) (yes_row no_row : Row L) (below : Row M) (helds : List (List Fact))
      → Finds M facts items others yes_row → Finds M facts items others no_row
      → test_match facts on (match_below facts items others yes_row) (match_below facts items others no_row) below ≡ Some helds
      → IsFound facts items others (Either on yes_row no_row) below helds
  at_test items others on yes_row no_row (Then item rest) helds h k e = absurd (cc)
  at_test items others on yes_row no_row (At_leaf left) helds h k e = absurd (cc)
  at_test items others on yes_row no_row (Either on' yes_front no_front) helds h k e =
      test_if (operands_match facts on on') items others on on' yes_row no_row yes_front no_front
      (match_below facts items others yes_row yes_front) (match_below facts items others no_row no_front) helds refl (h yes_front) (k no_front) e

  leaf_if : (b : Bool) (items others : List Item) (leaf : L) (left : M) (helds : List (List Fact)) → effects_match facts items others ≡ b
      → (if b then Some (facts_after facts items others ∷ []) else None) ≡ Some helds → IsFound facts items others (At_leaf leaf) (At_leaf left) helds
  leaf_if true items others leaf left helds same e =
      let is : facts_after facts items others ∷ [] ≡ helds = (cc) in
      subst (IsFound facts items others (At_leaf leaf) (At_leaf left)) is (found_leaf same)
  leaf_if false items others leaf left helds same e = absurd (cc)

  at_leaf : (items others : List Item) (leaf : L) (below : Row M) (helds : List (List Fact)) → leaf_match facts items others below ≡ Some helds
      → IsFound facts items others (At_leaf leaf) below helds
  at_leaf items others leaf (Then item rest) helds e = absurd (cc)
  at_leaf items others leaf (Either on yes_front no_front) helds e = absurd (cc)
  at_leaf items others leaf (At_leaf left) helds e = leaf_if (effects_match facts items others) items others leaf left helds refl e

  pub found : (items others : List Item) (row : Row L) (front : Row M) (helds : List (List Fact)) → match_below facts items others row front ≡ Some helds
      → IsFound facts items others row front helds
  found items others (Then item row) front helds e = found_item (found (items ++ (item ∷ [])) others row front helds e)
  found items others (Either on yes_row no_row) front helds e =
      down items others (Either on yes_row no_row) front helds
      (at_test items (others ++ first_items front) on yes_row no_row (below_items front) helds
      (found items (others ++ first_items front) yes_row) (found items (others ++ first_items front) no_row) e)
  found items others (At_leaf leaf) front helds e =
      down items others (At_leaf leaf) front helds (at_leaf items (others ++ first_items front) leaf (below_items front) helds e)

  -- ---- as many lists as leaves

  pub counts : {items others : List Item} {row : Row L} {front : Row M} {helds : List (List Fact)} → IsFound facts items others row front helds
      → (length helds ≡ length (leaves_of row)) × (length helds ≡ length (leaves_of front))
  counts (found_item h) = counts h
  counts (found_front h) = counts h
  counts (found_test {yes_row} {no_row} {yes_front} {no_front} {one} {other} same h k) =
      let first = counts h in
      let second = counts k in
      let all = length-append one other in
      let rows = length-append (leaves_of yes_row) (leaves_of no_row) in
      let fronts = length-append (leaves_of yes_front) (leaves_of no_front) in (
        all ∙ ap (λ n. n + length other) first.0 ∙ ap (λ n. length (leaves_of yes_row) + n) second.0 ∙ sym rows,
        all ∙ ap (λ n. n + length other) first.1 ∙ ap (λ n. length (leaves_of yes_front) + n) second.1 ∙ sym fronts,
      )
  counts (found_leaf same) = (refl, refl)

-- ---- what holds at each leaf

at_front : {X : Type 0} (xs ys : List X) (place : ℕ) (x : X) → slice_get xs place ≡ Some x → slice_get (xs ++ ys) place ≡ Some x
at_front [] ys place x e = absurd (cc)
at_front (z ∷ xs) ys zero x e = e
at_front (z ∷ xs) ys (suc place) x e = at_front xs ys place x e

at_back : {X : Type 0} (xs ys : List X) (n place : ℕ) (x : X) → n ≡ length xs → slice_get ys place ≡ Some x → slice_get (xs ++ ys) (n + place) ≡ Some x
at_back [] ys n place x is e = let same : n + place ≡ place = omega (arith, is) in subst (λ k. slice_get ys k ≡ Some x) (sym same) e
at_back (z ∷ xs) ys n place x is e =
    let same : n + place ≡ suc (length xs + place) = omega (arith, is) in
    subst (λ k. slice_get (z ∷ (xs ++ ys)) k ≡ Some x) (sym same) (at_back xs ys (length xs) place x refl e)

module _ {L M : Type 0} (Agrees : List Fact → L → M → Type 0) where
  in_first : (one other : List (List Fact)) (leaves leaves' : List L) (lefts lefts' : List M)
      → HoldsAtLeaves Agrees (one ++ other) (leaves ++ leaves') (lefts ++ lefts') → HoldsAtLeaves Agrees one leaves lefts
  in_first one other leaves leaves' lefts lefts' holds place held leaf left e f g =
      holds place held leaf left (at_front one other place held e) (at_front leaves leaves' place leaf f) (at_front lefts lefts' place left g)

  in_second : (one other : List (List Fact)) (leaves leaves' : List L) (lefts lefts' : List M) → length one ≡ length leaves → length one ≡ length lefts
      → HoldsAtLeaves Agrees (one ++ other) (leaves ++ leaves') (lefts ++ lefts') → HoldsAtLeaves Agrees other leaves' lefts'
  in_second one other leaves leaves' lefts lefts' is is' holds place held leaf left e f g =
      holds (length one + place) held leaf left (at_back one other (length one) place held refl e) (at_back leaves leaves' (length one) place leaf is f)
      (at_back lefts lefts' (length one) place left is' g)

  pub matches : {facts : List Fact} {items others : List Item} {row : Row L} {front : Row M} {helds : List (List Fact)} → IsFound facts items others row front helds
      → HoldsAtLeaves Agrees helds (leaves_of row) (leaves_of front) → RowMatches facts (AgreesFromFacts Agrees facts) items others row front
  matches (found_item h) holds = row_item (matches h holds)
  matches (found_front h) holds = front_item (matches h holds)
  matches {facts} (found_test {on} {on'} {yes_row} {no_row} {yes_front} {no_front} {one} {other} same h k) holds =
      let many = counts facts h in
      both_test (operands_of_test facts on on' same)
      (matches h (in_first one other (leaves_of yes_row) (leaves_of no_row) (leaves_of yes_front) (leaves_of no_front) holds))
      (matches k (in_second one other (leaves_of yes_row) (leaves_of no_row) (leaves_of yes_front) (leaves_of no_front) many.0 many.1 holds))
  matches {facts} {items} {others} (found_leaf {leaf} {left} same) holds =
      both_leaf (effects_found facts items others same)
      (facts_after facts items others, listed_facts_hold facts items others, holds 0 (facts_after facts items others) leaf left refl refl refl)

pub found_rows_match : {L M : Type 0} (Agrees : List Fact → L → M → Type 0) → FoundRowsMatch L M Agrees
found_rows_match Agrees facts row front helds e holds = matches Agrees (found facts [] [] row front helds e) holds

pub each_leaf_has_facts : {L M : Type 0} → EachLeafHasFacts L M
each_leaf_has_facts facts row front helds e = counts facts (found facts [] [] row front helds e)

pub found_rows_of_claims_match : FoundRowsOfClaimsMatch
found_rows_of_claims_match table limits claims claim row helds =
    found_rows_match (λ held leaf rest. LeafAgrees table limits claims claim held leaf (with_tree claim.arranged rest)) claim.facts row
    (front_row (λ tree. tree) claim.arranged.front) helds
