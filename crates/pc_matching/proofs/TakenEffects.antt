-- Effects that are found to match match.
use Rattle.std.proofs.Common.{◌≡◌, Bool, true, false, List, [], ◌∷◌, ◌++◌, Option, Some, None, refl, sym, ap, subst}
use Rattle.std.specs.Prelude.{if◌then◌else◌, ◌&&◌, not}
use Rattle.std.specs.List.{AllByRecursion, list_all}
use Rattle.pc_word.specs.declared.item.Item.{Item}
use Rattle.pc_word.proofs.Truth.{and_true, not_true}
use Rattle.pc_certified.specs.Facts.{Fact, ItemsMatch}
use Rattle.pc_certified.specs.Paths.{has_side_effect, is_ordered, MayPrecede, EffectsMatch, all_matched, passes, matches}
use Rattle.pc_matching.specs.Matching.{items_match, with_above, without_match, effects_taken}
use Rattle.pc_matching.specs.Laws.{FoundEffectsMatch}
use Rattle.pc_matching.proofs.Tests.{items_of_test}

-- an item is matched, and this is left of a path without what it matches
pub record IsTaken (facts : List Fact) (item : Item) (others left : List Item) : Type 0 where
  pub before : List Item
  pub other : Item
  pub after : List Item
  pub whole : others ≡ before ++ (other ∷ after)
  pub rest : left ≡ before ++ after
  pub may : AllByRecursion (MayPrecede item) before
  pub match : ItemsMatch facts item other

-- an item that passes another one may be left above it
may_precede : (item other : Item) → (is_ordered item && is_ordered other) ≡ false → MayPrecede item other
may_precede item other e is = not_both (is_ordered item) (is_ordered other) e is where
  not_both : (a b : Bool) → (a && b) ≡ false → a ≡ true → b ≡ false
  not_both true b h k = h
  not_both false b h k = absurd (cc)

module _ (facts : List Fact) (item : Item) where
  -- what is taken below is taken with an item more above
  one_more : (other : Item) (others : List Item) (found : Option (List Item)) (left : List Item) → MayPrecede item other
      → ((rest : List Item) → found ≡ Some rest → IsTaken facts item others rest) → with_above other found ≡ Some left → IsTaken facts item (other ∷ others) left
  one_more other others None left may taken e = absurd (cc)
  one_more other others (Some rest) left may taken e =
      let there = taken rest refl in
      let same : other ∷ rest ≡ left = (cc) in
      record {
        before = other ∷ there.before;
        other = there.other;
        after = there.after;
        whole = ap (λ (l : List Item). other ∷ l) there.whole;
        rest = subst (λ (l : List Item). l ≡ other ∷ (there.before ++ there.after)) same (ap (λ (l : List Item). other ∷ l) there.rest);
        may = (may, there.may);
        match = there.match;
      }

  taken_first : (b c : Bool) (other : Item) (others left : List Item) → items_match facts item other ≡ b → (is_ordered item && is_ordered other) ≡ c
      → ((rest : List Item) → without_match facts item others ≡ Some rest → IsTaken facts item others rest)
      → (if b then Some others else if c then None else with_above other (without_match facts item others)) ≡ Some left → IsTaken facts item (other ∷ others) left
  taken_first true c other others left is ahead taken e =
      let same : others ≡ left = (cc) in
      record { before = []; other = other; after = others; whole = refl; rest = sym same; may = tt; match = items_of_test facts item other is }
  taken_first false true other others left is ahead taken e = absurd (cc)
  taken_first false false other others left is ahead taken e = one_more other others (without_match facts item others) left (may_precede item other ahead) taken e

  pub taken : (others left : List Item) → without_match facts item others ≡ Some left → IsTaken facts item others left
  taken [] left e = absurd (cc)
  taken (other ∷ others) left e =
      taken_first (items_match facts item other) (is_ordered item && is_ordered other) other others left refl refl (taken others) e

module _ (facts : List Fact) where
  nothing_left : (items : List Item) → effects_taken facts items None ≡ true → ⊥
  nothing_left [] e = cc
  nothing_left (item ∷ items) e = cc

  no_effects : (others : List Item) → list_all (λ other. not (has_side_effect other)) others ≡ true → AllByRecursion (λ item. has_side_effect item ≡ false) others
  no_effects [] e = tt
  no_effects (other ∷ others) e =
      let both = and_true (not (has_side_effect other)) (list_all (λ item. not (has_side_effect item)) others) e in
      (not_true (has_side_effect other) both.0, no_effects others both.1)

  one_match : (item : Item) (items others : List Item) (found : Option (List Item)) → has_side_effect item ≡ true → without_match facts item others ≡ found
      → ((rest : List Item) → effects_taken facts items (Some rest) ≡ true → EffectsMatch facts items rest) → effects_taken facts items found ≡ true
      → EffectsMatch facts (item ∷ items) others
  one_match item items others None does is rest e = absurd (nothing_left items e)
  one_match item items others (Some left) does is rest e =
      let there = taken facts item others left is in
      let below : EffectsMatch facts items (there.before ++ there.after) = subst (EffectsMatch facts items) there.rest (rest left e) in
      subst (EffectsMatch facts (item ∷ items)) (sym there.whole) (matches there.before there.after does there.may there.match below)

  one_item : (b : Bool) (item : Item) (items others : List Item) → has_side_effect item ≡ b
      → ((rest : List Item) → effects_taken facts items (Some rest) ≡ true → EffectsMatch facts items rest)
      → effects_taken facts items (if b then without_match facts item others else Some others) ≡ true → EffectsMatch facts (item ∷ items) others
  one_item true item items others does rest e = one_match item items others (without_match facts item others) does refl rest e
  one_item false item items others does rest e = passes does (rest others e)

  pub effects_found : (items others : List Item) → effects_taken facts items (Some others) ≡ true → EffectsMatch facts items others
  effects_found [] others e = all_matched (no_effects others e)
  effects_found (item ∷ items) others e = one_item (has_side_effect item) item items others refl (effects_found items) e

pub found_effects_match : FoundEffectsMatch
found_effects_match facts items others e = effects_found facts items others e
