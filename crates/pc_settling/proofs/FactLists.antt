-- The facts that are listed after a Copy, and in a region that is entered, are those that hold there.
use Rattle.std.proofs.Common.{◌≡◌, ℕ, zero, suc, ◌<◌, ◌⊎◌, inl, inr, Bool, true, false, List, [], ◌∷◌, map, refl, sym, ◌∙◌, ap, subst, arith}
use Rattle.std.specs.Prelude.{not, filter, Contains}
use Rattle.pc_word.specs.declared.item.Operand.{Operand}
use Rattle.pc_word.specs.declared.item.Operand.TheVariants.{Name, Lit}
use Rattle.pc_word.proofs.Truth.{and_true, and_made, decide_le}
use Rattle.pc_window.specs.declared.home.Home.{Home}
use Rattle.pc_window.specs.Tree.{home_of}
use Rattle.pc_window.specs.Opening.{first_new}
use Rattle.pc_certified.specs.Facts.{Fact, OperandsMatch}
use Rattle.pc_certified.specs.LeafAgrees.{FactAfterCopy, other_operand, copied_name, FactInRegion}
use Rattle.pc_matching.specs.Matching.{same_operand}
use Rattle.pc_matching.specs.FactsAfter.{that, some_name, is_of_name}
use Rattle.pc_matching.proofs.Tests.{operand_of, same_operand_itself}
use Rattle.pc_matching.proofs.Elements.{In, in_of, of_in, in_front, in_back, in_either, in_filter, of_filter, in_map, of_map, in_flat, of_flat}
use Rattle.pc_settling.specs.Remaining.{own_source, is_of_operand, sources_of, have_value_of}
use Rattle.pc_settling.specs.Settled.{is_of_another, facts_after_copy}
use Rattle.pc_settling.specs.Begun.{numbers_below, facts_in_region}
use Rattle.pc_settling.specs.Laws.{ListedAfterCopyHold, AllAfterCopyAreListed, ListedInRegionHold, AllInRegionAreListed}

-- a list in which a source has a name's value says so
pub of_listed : (list : List Fact) (source : Operand) (name : ℕ) → In list (that source (Name name)) → OperandsMatch list source (Name name)
of_listed list (Lit v) name h = of_in list (that (Lit v) (Name name)) h
of_listed list (Name x) name h = of_in list (that (Name x) (Name name)) h

pub below_listed : (n x : ℕ) → x < n → In (numbers_below n) x
below_listed zero x below = absurd (omega (arith, below))
below_listed (suc n) x below = elim (lt_or_is n x below) [
  | inl less ↦ in_front (numbers_below n) (n ∷ []) x (below_listed n x less)
  | inr is ↦ in_back (numbers_below n) (n ∷ []) x (inl is)
] where
  lt_or_is : (n x : ℕ) → x < suc n → (x < n) ⊎ (n ≡ x)
  lt_or_is n x h = elim (decide_le n x) [
    | inl le ↦ inr (omega (arith, le, h))
    | inr less ↦ inl less
  ]

module _ (facts : List Fact) where
  -- a fact that says something of a name is one of those that are given
  given : (source operand : Operand) → some_name source operand ≡ true → In facts (that source operand) → OperandsMatch facts source operand
  given (Lit v) (Lit w) e h = absurd (cc)
  given (Lit v) (Name y) e h = of_in facts (that (Lit v) (Name y)) h
  given (Name x) operand e h = of_in facts (that (Name x) operand) h

  -- and back, for such a fact
  given_back : (source operand : Operand) → some_name source operand ≡ true → OperandsMatch facts source operand → In facts (that source operand)
  given_back (Lit v) (Lit w) e h = absurd (cc)
  given_back (Lit v) (Name y) e h = in_of facts (that (Lit v) (Name y)) h
  given_back (Name x) operand e h = in_of facts (that (Name x) operand) h

  -- ---- sources

  own : (source operand : Operand) → In (own_source operand) source → OperandsMatch facts source operand
  own source (Name x) h = absurd h
  own source (Lit v) (inl e) = subst (λ (o : Operand). OperandsMatch facts o (Lit v)) e refl
  own source (Lit v) (inr never) = absurd never

  by_fact : (operand : Operand) (fact : Fact) → In facts fact → is_of_operand operand fact ≡ true → OperandsMatch facts fact.source operand
  by_fact operand fact h e =
      let both = and_true (is_of_name fact) (same_operand fact.operand operand) e in
      subst (λ (o : Operand). OperandsMatch facts fact.source o) (operand_of fact.operand operand both.1) (given fact.source fact.operand both.0 h)

  -- what is listed as a source has the operand's value
  pub source_matches : (operand source : Operand) → In (sources_of operand facts) source → OperandsMatch facts source operand
  source_matches operand source h = elim (in_either (own_source operand) (map (λ (fact : Fact). fact.source) (filter (is_of_operand operand) facts)) source h) [
    | inl k ↦ own source operand k
    | inr k ↦
        let from = in_map (λ (fact : Fact). fact.source) (filter (is_of_operand operand) facts) source k in
        let there = in_filter (is_of_operand operand) facts from.0 from.1 in
        subst (λ (o : Operand). OperandsMatch facts o operand) from.2 (by_fact operand from.0 there.0 there.1)
  ]

  listed_source : (operand source : Operand) → some_name source operand ≡ true → In facts (that source operand) → In (sources_of operand facts) source
  listed_source operand source e h =
      in_back (own_source operand) (map (λ (fact : Fact). fact.source) (filter (is_of_operand operand) facts)) source (
      of_map (λ (fact : Fact). fact.source) (filter (is_of_operand operand) facts) (that source operand) (
      of_filter (is_of_operand operand) facts (that source operand) (
      and_made (is_of_name (that source operand)) (same_operand operand operand) e (same_operand_itself operand)
      ) h
      )
      )

  -- and what has its value is listed
  pub source_listed : (operand source : Operand) → OperandsMatch facts source operand → In (sources_of operand facts) source
  source_listed (Lit w) (Lit v) h = inl (ap Lit (sym h))
  source_listed (Name y) (Lit v) h = listed_source (Name y) (Lit v) refl (given_back (Lit v) (Name y) refl h)
  source_listed operand (Name x) h = listed_source operand (Name x) refl (given_back (Name x) operand refl h)

  pub valued : (name : ℕ) (operand : Operand) (fact : Fact) → In (have_value_of name (sources_of operand facts)) fact
      → (source : Operand) × OperandsMatch facts source operand × (that source (Name name) ≡ fact)
  valued name operand fact h =
      let from = in_map (λ (source : Operand). that source (Name name)) (sources_of operand facts) fact h in
      (from.0, source_matches operand from.0 from.1, from.2)

  pub of_valued : (name : ℕ) (operand source : Operand) → OperandsMatch facts source operand → In (have_value_of name (sources_of operand facts)) (that source (Name name))
  of_valued name operand source h = of_map (λ (s : Operand). that s (Name name)) (sources_of operand facts) source (source_listed operand source h)

  -- ---- after a Copy

  differs : (operand : Operand) (name : ℕ) → not (same_operand operand (Name name)) ≡ true → operand ≡ Name name → ⊥
  differs operand name e is =
      let same : same_operand operand (Name name) ≡ true =
      ap (λ (o : Operand). same_operand o (Name name)) is ∙ same_operand_itself (Name name) in cc

  differing : (operand : Operand) (name : ℕ) (b : Bool) → same_operand operand (Name name) ≡ b → (operand ≡ Name name → ⊥) → not b ≡ true
  differing operand name false e h = refl
  differing operand name true e h = absurd (h (operand_of operand (Name name) e))

  after_copy_holds : (name : ℕ) (from : Operand) (fact : Fact) → In (facts_after_copy facts name from) fact → FactAfterCopy facts name from fact
  after_copy_holds name from fact h =
      elim (in_either (filter (is_of_another (Name name)) facts) (have_value_of name (sources_of from facts)) fact h) [
        | inl k ↦
            let there = in_filter (is_of_another (Name name)) facts fact k in
            let both = and_true (is_of_name fact) (not (same_operand fact.operand (Name name))) there.1 in
            other_operand (given fact.source fact.operand both.0 there.0) (differs fact.operand name both.1)
        | inr k ↦
            let from_there = valued name from fact k in
            subst (FactAfterCopy facts name from) from_there.2 (copied_name from_there.1)
      ]

  name_stays : (name : ℕ) (from source operand : Operand) → some_name source operand ≡ true → OperandsMatch facts source operand → (operand ≡ Name name → ⊥)
      → Contains (facts_after_copy facts name from) (that source operand)
  name_stays name from source operand e h differ =
      of_in (facts_after_copy facts name from) (that source operand) (
      in_front (filter (is_of_another (Name name)) facts) (have_value_of name (sources_of from facts)) (that source operand) (
      of_filter (is_of_another (Name name)) facts (that source operand) (
      and_made (some_name source operand) (not (same_operand operand (Name name))) e (
      differing operand name (same_operand operand (Name name)) refl differ
      )
      ) (given_back source operand e h)
      )
      )

  stays_listed : (name : ℕ) (from source operand : Operand) → OperandsMatch facts source operand → (operand ≡ Name name → ⊥)
      → OperandsMatch (facts_after_copy facts name from) source operand
  stays_listed name from (Lit v) (Lit w) h differ = h
  stays_listed name from (Lit v) (Name y) h differ = name_stays name from (Lit v) (Name y) refl h differ
  stays_listed name from (Name x) operand h differ = name_stays name from (Name x) operand refl h differ

  copy_listed : (name : ℕ) (from source : Operand) → OperandsMatch facts source from → OperandsMatch (facts_after_copy facts name from) source (Name name)
  copy_listed name from source h =
      of_listed (facts_after_copy facts name from) source name (
      in_back (filter (is_of_another (Name name)) facts) (have_value_of name (sources_of from facts)) (that source (Name name)) (of_valued name from source h)
      )

  all_after_copy : (name : ℕ) (from : Operand) (fact : Fact) → FactAfterCopy facts name from fact → OperandsMatch (facts_after_copy facts name from) fact.source fact.operand
  all_after_copy name from fact (other_operand {source} {operand} h other) = stays_listed name from source operand h other
  all_after_copy name from fact (copied_name {source} h) = copy_listed name from source h

  -- ---- in a region

  in_region_holds : (homes : List Home) (fact : Fact) → In (facts_in_region homes facts) fact → FactInRegion facts homes fact
  in_region_holds homes fact h =
      let from = in_flat (λ (variable : ℕ). have_value_of variable (sources_of (home_of homes variable) facts)) (numbers_below first_new) fact h in
      let there = valued from.0 (home_of homes from.0) fact from.2 in
      (from.0, ap (λ (f : Fact). f.operand) (sym there.2), subst (λ (f : Fact). OperandsMatch facts f.source (home_of homes from.0)) there.2 there.1)

  all_in_region : (homes : List Home) (source : Operand) (variable : ℕ) → variable < first_new → FactInRegion facts homes (that source (Name variable))
      → OperandsMatch (facts_in_region homes facts) source (Name variable)
  all_in_region homes source variable below (v, is, h) =
      of_listed (facts_in_region homes facts) source variable (
      of_flat (λ (x : ℕ). have_value_of x (sources_of (home_of homes x) facts)) (numbers_below first_new) variable (that source (Name variable)) (
      below_listed first_new variable below
      ) (of_valued variable (home_of homes variable) source (subst (λ (x : ℕ). OperandsMatch facts source (home_of homes x)) (same_variable variable v is) h))
      )
    where
      same_variable : (x y : ℕ) → Name x ≡ Name y → y ≡ x
      same_variable x y e = cc

pub listed_after_copy_hold : ListedAfterCopyHold
listed_after_copy_hold facts name from fact h = after_copy_holds facts name from fact (in_of (facts_after_copy facts name from) fact h)

pub all_after_copy_are_listed : AllAfterCopyAreListed
all_after_copy_are_listed facts name from fact h = all_after_copy facts name from fact h

pub listed_in_region_hold : ListedInRegionHold
listed_in_region_hold facts homes fact h = in_region_holds facts homes fact (in_of (facts_in_region homes facts) fact h)

pub all_in_region_are_listed : AllInRegionAreListed
all_in_region_are_listed facts homes source variable below h = all_in_region facts homes source variable below h
