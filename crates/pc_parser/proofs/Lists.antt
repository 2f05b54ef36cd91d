-- What a loop over items has so far, with what the parser gives of the rest.
use Rattle.std.proofs.Common.{◌≡◌, refl, sym, ap, ◌∙◌, subst, ℕ, zero, suc, ◌+◌, ◌-◌, ◌≤◌, Bool, true, false, List, length, arith, cond}
use Rattle.std.specs.Prelude.{max}
use Rattle.pc_lexer.specs.declared.token.Token.{Token}
use Rattle.pc_lexer.specs.declared.mark.Mark.TheVariants as marks
use Rattle.pc_syntax.specs.Unit.{UnitStatement, UnitList, Finish, Item, unit_appended}
use Rattle.pc_parser.specs.declared.calls.Calls.{Calls}
use Rattle.pc_parser.specs.declared.outcome.Failure.{Failure}
use Rattle.pc_parser.specs.declared.outcome.Failure.TheVariants as failures
use Rattle.pc_parser.specs.declared.storage.Storage.{Storage}
use Rattle.pc_parser.specs.Places.{kind_at}
use Rattle.pc_parser.specs.models.Tests.{is_mark}
use Rattle.pc_parser.specs.models.Outcome.{ParseOutcome, Parsed, Unreadable, TooHigh, after, expect}
use Rattle.pc_parser.specs.models.StatementParser.{declarator_at, last_declarator, declarators_at, item_at, items_at}
use Rattle.pc_parser.specs.models.Parsing.{FailsParsing, behind}
use Rattle.pc_parser.proofs.Budgets.{fails-after}

appended-assoc : (one two three : UnitList) → unit_appended one (unit_appended two three) ≡ unit_appended (unit_appended one two) three
appended-assoc Finish two three = refl
appended-assoc (Item first rest) two three = ap (Item first) (appended-assoc rest two three)

appended-none : (list : UnitList) → unit_appended list Finish ≡ list
appended-none Finish = refl
appended-none (Item first rest) = ap (Item first) (appended-none rest)

-- what is read, after items of some height
abbrev pub gathered : UnitList → ℕ → ParseOutcome UnitList → ParseOutcome UnitList
gathered front height outcome = after outcome (λ rest other to. Parsed (unit_appended front rest) (max height other) to)

pub gathered-start : (outcome : ParseOutcome UnitList) → outcome ≡ gathered Finish 0 outcome
gathered-start (Parsed trees height to) = let same : height ≡ max 0 height = omega arith in ap (λ n. Parsed trees n to) same
gathered-start (Unreadable at) = refl
gathered-start (TooHigh at) = refl

pub gathered-behind : (front : UnitList) (outcome : ParseOutcome UnitList) → behind front outcome ≡ gathered front 0 outcome
gathered-behind front (Parsed trees height to) = let same : height ≡ max 0 height = omega arith in ap (λ n. Parsed (unit_appended front trees) n to) same
gathered-behind front (Unreadable at) = refl
gathered-behind front (TooHigh at) = refl

-- more items between the front and the rest
gathered-more : (front more : UnitList) (height raised : ℕ) (outcome : ParseOutcome UnitList) →
    gathered front height (after outcome (λ rest other to. Parsed (unit_appended more rest) (max raised other) to)) ≡ gathered (unit_appended front more) (max height raised) outcome
gathered-more front more height raised (Parsed rest other to) =
    let same : max height (max raised other) ≡ max (max height raised) other = omega arith in
    ap (λ n. Parsed (unit_appended front (unit_appended more rest)) n to) same ∙ ap (λ list. Parsed list (max (max height raised) other) to) (appended-assoc front more rest)
gathered-more front more height raised (Unreadable at) = refl
gathered-more front more height raised (TooHigh at) = refl

module _ (tokens : List Token) (calls : Calls) (budget : ℕ) (storage : Storage) where
  -- the declarators so far, and what goes on after them
  abbrev pub continued : UnitList → (height at turns : ℕ) → ParseOutcome UnitList
  continued front height at turns =
      cond (is_mark marks.Comma (kind_at tokens at)) (gathered front height (declarators_at tokens calls budget storage turns (at + 1)))
      (expect tokens marks.Semicolon at (Parsed front height (at + 1)))

  -- one more declarator
  pub declarators-turn : (front : UnitList) (height turns p : ℕ) (tree : UnitStatement) (raised at : ℕ) → 1 ≤ turns → declarator_at tokens calls budget storage p ≡ Parsed tree raised at →
      gathered front height (declarators_at tokens calls budget storage turns p) ≡ continued (unit_appended front (Item tree Finish)) (max height raised) at (turns - 1)
  unfolding declarators_at last_declarator
  declarators-turn front height zero p tree raised at some is = absurd (omega arith)
  declarators-turn front height (suc turns) p tree raised at some is =
      let less : turns ≡ suc turns - 1 = omega arith in
      ap (λ o. gathered front height
      (after o (λ tree height at. cond (is_mark marks.Comma (kind_at tokens at))
      (after (declarators_at tokens calls budget storage turns (at + 1)) (λ rest other to. Parsed (Item tree rest) (max height other) to))
      (last_declarator tokens tree height at)))) is ∙
      by (is_mark marks.Comma (kind_at tokens at)) ∙ ap (λ n. continued (unit_appended front (Item tree Finish)) (max height raised) at n) less
    where
      by_end : (t : Bool) →
          gathered front height (cond t (Parsed (Item tree Finish) raised (at + 1)) (Unreadable at))
          ≡ cond t (Parsed (unit_appended front (Item tree Finish)) (max height raised) (at + 1)) (Unreadable at)
      by_end true = refl
      by_end false = refl

      by : (t : Bool) → gathered front height
          (cond t (after (declarators_at tokens calls budget storage turns (at + 1)) (λ rest other to. Parsed (Item tree rest) (max raised other) to))
          (last_declarator tokens tree raised at)) ≡
          cond t (gathered (unit_appended front (Item tree Finish)) (max height raised) (declarators_at tokens calls budget storage turns (at + 1)))
          (expect tokens marks.Semicolon at (Parsed (unit_appended front (Item tree Finish)) (max height raised) (at + 1)))
      by true = gathered-more front (Item tree Finish) height raised (declarators_at tokens calls budget storage turns (at + 1))
      by false = by_end (is_mark marks.Semicolon (kind_at tokens at))

  -- a declarator that fails
  pub declarators-fail : (front : UnitList) (height turns p : ℕ) (failure : Failure) → 1 ≤ turns → FailsParsing failure (declarator_at tokens calls budget storage p) →
      FailsParsing failure (gathered front height (declarators_at tokens calls budget storage turns p))
  unfolding declarators_at
  declarators-fail front height zero p failure some fails = absurd (omega arith)
  declarators-fail front height (suc turns) p failure some fails = fails-after failure _ _ (fails-after failure (declarator_at tokens calls budget storage p) _ fails)

  -- the first declarator, after the items before it
  pub declarators-init : (front list : UnitList) (p : ℕ) (tree : UnitStatement) (raised at : ℕ) → declarator_at tokens calls budget storage p ≡ Parsed tree raised at →
      list ≡ unit_appended front (Item tree Finish) →
      behind front (declarators_at tokens calls budget storage (length tokens + 1) p) ≡ continued list raised at (length tokens)
  declarators-init front list p tree raised at is list_is =
      let high : max 0 raised ≡ raised = omega arith in let less : length tokens + 1 - 1 ≡ length tokens = omega arith in
      gathered-behind front (declarators_at tokens calls budget storage (length tokens + 1) p) ∙ declarators-turn front 0 (length tokens + 1) p tree raised at (omega arith) is ∙
      ap (λ l. continued l (max 0 raised) at (length tokens + 1 - 1)) (sym list_is) ∙ ap (λ n. continued list n at (length tokens + 1 - 1)) high ∙ ap (λ n. continued list raised at n) less

  -- one more declarator in the loop
  pub declarators-more : (whole : ParseOutcome UnitList) (front list : UnitList) (height at turns : ℕ) (tree : UnitStatement) (raised to joined : ℕ) → whole ≡ continued front height at turns →
      is_mark marks.Comma (kind_at tokens at) ≡ true → 1 ≤ turns → declarator_at tokens calls budget storage (at + 1) ≡ Parsed tree raised to →
      list ≡ unit_appended front (Item tree Finish) → joined ≡ max height raised →
      whole ≡ continued list joined to (turns - 1)
  declarators-more whole front list height at turns tree raised to joined same comma some is list_is high =
      same ∙ ap (λ t. cond t (gathered front height (declarators_at tokens calls budget storage turns (at + 1))) (expect tokens marks.Semicolon at (Parsed front height (at + 1)))) comma ∙
      declarators-turn front height turns (at + 1) tree raised to some is ∙ ap (λ l. continued l (max height raised) to (turns - 1)) (sym list_is)
      ∙ ap (λ n. continued list n to (turns - 1)) (sym high)

  -- a failure of the first declarator, and of one in the loop
  pub declarators-fail_first : (front : UnitList) (p : ℕ) (failure : Failure) → FailsParsing failure (declarator_at tokens calls budget storage p) →
      FailsParsing failure (behind front (declarators_at tokens calls budget storage (length tokens + 1) p))
  declarators-fail_first front p failure fails =
      subst (λ o. FailsParsing failure o) (sym (gathered-behind front (declarators_at tokens calls budget storage (length tokens + 1) p)))
      (declarators-fail front 0 (length tokens + 1) p failure (omega arith) fails)

  pub declarators-fail_more : (whole : ParseOutcome UnitList) (front : UnitList) (height at turns : ℕ) (failure : Failure) → whole ≡ continued front height at turns →
      is_mark marks.Comma (kind_at tokens at) ≡ true → 1 ≤ turns → FailsParsing failure (declarator_at tokens calls budget storage (at + 1)) → FailsParsing failure whole
  declarators-fail_more whole front height at turns failure same comma some fails =
      subst (λ o. FailsParsing failure o)
      (sym (same ∙ ap (λ t. cond t (gathered front height (declarators_at tokens calls budget storage turns (at + 1)))
      (expect tokens marks.Semicolon at (Parsed front height (at + 1)))) comma))
      (declarators-fail front height turns (at + 1) failure some fails)

module _ (tokens : List Token) (calls : Calls) (budget : ℕ) where
  module _ (inner : (from : ℕ) → ParseOutcome UnitStatement) where
    -- one more item
    pub items-turn : (front : UnitList) (height turns p : ℕ) (more : UnitList) (raised at : ℕ) → 1 ≤ turns → is_mark marks.RightBrace (kind_at tokens p) ≡ false →
        behind front (item_at tokens calls inner budget p) ≡ Parsed more raised at →
        gathered front height (items_at tokens calls inner budget turns p) ≡ gathered more (max height raised) (items_at tokens calls inner budget (turns - 1) at)
    unfolding items_at
    items-turn front height zero p more raised at some no' is = absurd (omega arith)
    items-turn front height (suc turns) p more raised at some no' is =
        let less : turns ≡ suc turns - 1 = omega arith in
        ap (λ t. gathered front height (cond t (Parsed Finish 0 (p + 1)) (after (item_at tokens calls inner budget p) rest_of))) no' ∙ by (item_at tokens calls inner budget p) is
        ∙ ap (λ n. gathered more (max height raised) (items_at tokens calls inner budget n at)) less
      where
        rest_of : UnitList → (height at : ℕ) → ParseOutcome UnitList
        rest_of trees height at = after (items_at tokens calls inner budget turns at) (λ rest other to. Parsed (unit_appended trees rest) (max height other) to)

        by : (o : ParseOutcome UnitList) → behind front o ≡ Parsed more raised at →
            gathered front height (after o rest_of) ≡ gathered more (max height raised) (items_at tokens calls inner budget turns at)
        by (Parsed trees i q) same =
            let list : unit_appended front trees ≡ more = cc in let high : i ≡ raised = cc in let place : q ≡ at = cc in
            gathered-more front trees height i (items_at tokens calls inner budget turns q) ∙ ap (λ l. gathered l (max height i) (items_at tokens calls inner budget turns q)) list ∙
            ap (λ n. gathered more (max height n) (items_at tokens calls inner budget turns q)) high ∙ ap (λ n. gathered more (max height raised) (items_at tokens calls inner budget turns n)) place
        by (Unreadable a) same = cc
        by (TooHigh a) same = cc

    -- the end of the items
    pub items-end : (front : UnitList) (height turns p : ℕ) → 1 ≤ turns → is_mark marks.RightBrace (kind_at tokens p) ≡ true →
        gathered front height (items_at tokens calls inner budget turns p) ≡ Parsed front height (p + 1)
    unfolding items_at
    items-end front height zero p some yes' = absurd (omega arith)
    items-end front height (suc turns) p some yes' =
        let same : max height 0 ≡ height = omega arith in
        ap (λ t. gathered front height
        (cond t (Parsed Finish 0 (p + 1))
        (after (item_at tokens calls inner budget p)
        (λ trees height at. after (items_at tokens calls inner budget turns at) (λ rest other to. Parsed (unit_appended trees rest) (max height other) to))))) yes' ∙
        ap (λ list. Parsed list (max height 0) (p + 1)) (appended-none front) ∙ ap (λ n. Parsed front n (p + 1)) same

    -- an item that fails
    pub items-fail : (front : UnitList) (height turns p : ℕ) (failure : Failure) → 1 ≤ turns → is_mark marks.RightBrace (kind_at tokens p) ≡ false →
        FailsParsing failure (behind front (item_at tokens calls inner budget p)) → FailsParsing failure (gathered front height (items_at tokens calls inner budget turns p))
    unfolding items_at
    items-fail front height zero p failure some no' fails = absurd (omega arith)
    items-fail front height (suc turns) p failure some no' fails =
        subst (λ t. FailsParsing failure (gathered front height (cond t (Parsed Finish 0 (p + 1)) (after (item_at tokens calls inner budget p) rest_of)))) (sym no')
        (by failure (item_at tokens calls inner budget p) fails)
      where
        rest_of : UnitList → (height at : ℕ) → ParseOutcome UnitList
        rest_of trees height at = after (items_at tokens calls inner budget turns at) (λ rest other to. Parsed (unit_appended trees rest) (max height other) to)

        by : (failure : Failure) (o : ParseOutcome UnitList) → FailsParsing failure (behind front o) → FailsParsing failure (gathered front height (after o rest_of))
        by failures.Memory o fails' = tt
        by (failures.Syntax at) (Parsed trees i q) fails' = cc
        by (failures.Syntax at) (Unreadable a) fails' = fails'
        by (failures.Syntax at) (TooHigh a) fails' = fails'
        by (failures.TooNested at) (Parsed trees i q) fails' = cc
        by (failures.TooNested at) (Unreadable a) fails' = fails'
        by (failures.TooNested at) (TooHigh a) fails' = fails'

    -- the items before the first
    pub items-init : (p : ℕ) → items_at tokens calls inner budget (length tokens + 1) p ≡ gathered Finish 0 (items_at tokens calls inner budget (length tokens + 1) p)
    items-init p = gathered-start (items_at tokens calls inner budget (length tokens + 1) p)

    -- one more item in the loop
    pub items-more : (whole : ParseOutcome UnitList) (front : UnitList) (height turns p : ℕ) (more : UnitList) (raised at joined : ℕ) →
        whole ≡ gathered front height (items_at tokens calls inner budget turns p) →
        1 ≤ turns → is_mark marks.RightBrace (kind_at tokens p) ≡ false → behind front (item_at tokens calls inner budget p) ≡ Parsed more raised at → joined ≡ max height raised →
        whole ≡ gathered more joined (items_at tokens calls inner budget (turns - 1) at)
    items-more whole front height turns p more raised at joined same some no' is high =
        same ∙ items-turn front height turns p more raised at some no' is ∙ ap (λ n. gathered more n (items_at tokens calls inner budget (turns - 1) at)) (sym high)

    -- the end of the loop
    pub items-ended : (whole : ParseOutcome UnitList) (front : UnitList) (height turns p : ℕ) → whole ≡ gathered front height (items_at tokens calls inner budget turns p) →
        1 ≤ turns → is_mark marks.RightBrace (kind_at tokens p) ≡ true →
        whole ≡ Parsed front height (p + 1)
    items-ended whole front height turns p same some yes' = same ∙ items-end front height turns p some yes'

    -- an item in the loop that fails
    pub items-failed : (whole : ParseOutcome UnitList) (front : UnitList) (height turns p : ℕ) (failure : Failure) →
        whole ≡ gathered front height (items_at tokens calls inner budget turns p) → 1 ≤ turns →
        is_mark marks.RightBrace (kind_at tokens p) ≡ false → FailsParsing failure (behind front (item_at tokens calls inner budget p)) → FailsParsing failure whole
    items-failed whole front height turns p failure same some no' fails = subst (λ o. FailsParsing failure o) (sym same) (items-fail front height turns p failure some no' fails)
