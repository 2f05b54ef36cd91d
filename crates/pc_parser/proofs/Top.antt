-- What the parser promises of tokens, from what it gives.
use Rattle.std.proofs.Common.{◌≡◌, refl, sym, ap, ◌∙◌, subst, ℕ, zero, suc, ◌+◌, ◌-◌, ◌<◌, ◌≤◌, true, false, List, [], ◌∷◌, length, arith}
use Rattle.std.specs.Prelude.{option_map, unwrap_or, max}
use Rattle.pc_word.specs.SourceLimits.{most_height}
use Rattle.pc_lexer.specs.declared.token.Token.{Token}
use Rattle.pc_lexer.specs.declared.keyword.Keyword.TheVariants as keys
use Rattle.pc_parser.specs.declared.outcome.Failure.{Failure}
use Rattle.pc_parser.specs.declared.outcome.Failure.TheVariants as failures
use Rattle.pc_parser.specs.declared.unit.ParseError.TheVariants as errors
use Rattle.pc_parser.specs.Places.{kind_at, line_at}
use Rattle.pc_syntax.specs.declared.statement.Stmt.{Stmt}
use Rattle.pc_syntax.specs.Source.{SourceList, SourceProgram}
use Rattle.pc_syntax.specs.Unit.{UnitList}
use Rattle.pc_syntax.specs.Plain.{plain_list}
use Rattle.pc_syntax.specs.Erasure.{list_of}
use Rattle.pc_syntax.specs.UnitErasure.{unit_list_of}
use Rattle.pc_parser.specs.declared.calls.Calls.TheVariants.{Refused}
use Rattle.pc_parser.specs.Statements.{HasKeyword, ReadsMain, ReadsProgram}
use Rattle.pc_parser.specs.Parse.{IsReadWithin, AgreeUpTo, error_line, IsPlaceOfLine}
use Rattle.pc_parser.specs.models.Outcome.{ParseOutcome, Parsed, Unreadable, TooHigh}
use Rattle.pc_parser.specs.models.StatementParser.{main_at, program_at}
use Rattle.pc_parser.specs.models.Parsing.{FailsParsing}
use Rattle.pc_parser.specs.models.Parsing.{FailsInside, located}
use Rattle.pc_parser.proofs.Local.{Budgets, Local, earlier, expect_key-local, stop, is_high}
use Rattle.pc_parser.proofs.LocalStatements.{main_at-local}
use Rattle.pc_parser.proofs.Finds.{expect_key-yes}
use Rattle.pc_parser.proofs.FindsStatements.{finds-main_part}
use Rattle.pc_parser.proofs.Holds.{Good, expect_key-good}
use Rattle.pc_parser.proofs.HoldsStatements.{IsMainPart, main_at-holds}
use Rattle.pc_parser.proofs.PlainReadings.{same-plain, main-no_calls}

-- lists that agree up to a place have that place
agree-length : (at : ℕ) (others tokens : List Token) → AgreeUpTo at others tokens → at ≤ length tokens → at ≤ length others
agree-length zero others tokens agree inside = omega arith
agree-length (suc at) others [] agree inside = absurd (omega arith)
agree-length (suc at) [] (token ∷ tokens) agree inside = let first = agree 0 (omega arith) in cc
agree-length (suc at) (other ∷ others) (token ∷ tokens) agree inside =
    let less = agree-length at others tokens (λ place low. agree (suc place) (omega arith)) (omega arith) in omega arith

agree-kinds : (at : ℕ) (others tokens : List Token) → AgreeUpTo at others tokens → (i : ℕ) → i ≤ at → kind_at others i ≡ kind_at tokens i
unfolding kind_at
agree-kinds at others tokens agree i low = ap (option_map (λ token. token.kind)) (agree i low)

agree-lines : (at : ℕ) (others tokens : List Token) → AgreeUpTo at others tokens → (i : ℕ) → i ≤ at → line_at others i ≡ line_at tokens i
unfolding line_at
agree-lines at others tokens agree i low = ap (λ o. unwrap_or (option_map (λ token. token.line) o) 0) (agree i low)

-- what is read, of at most a height
abbrev pub IsRead : {X : Type 0} → (List Token → X → ℕ → Type 0) → List Token → ℕ → X → (height to : ℕ) → Type 0
IsRead Reads tokens b x h to = Reads tokens x h × (h ≤ b)

-- A parser of whole lists of tokens which gives what is read, finds what is read, and depends on the tokens up to where it stops.
pub record IsParser (X : Type 0) (given : List Token → ℕ → ParseOutcome X) (Reads : List Token → X → ℕ → Type 0) : Type 1 where
  pub holds : (tokens : List Token) → Good (length tokens) (most_height - 1 + 3) (IsRead Reads tokens most_height) (given tokens most_height)
  pub local : (k : ℕ) (E : Type 0) (ts ws : List Token) → ((i : ℕ) → i ≤ k → kind_at ws i ≡ kind_at ts i) → ((i : ℕ) → i ≤ k → line_at ws i ≡ line_at ts i) →
      k < length ts + 1 → k < length ws + 1 → (b c : ℕ) → Budgets E b c → Local k E 1 0 (given ts b) (given ws c)
  pub finds : (tokens : List Token) (b : ℕ) (x : X) (h : ℕ) → Reads tokens x h → h ≤ b → (to : ℕ) × (given tokens b ≡ Parsed x h to)

module _ {X : Type 0} (given : List Token → ℕ → ParseOutcome X) (Reads : List Token → X → ℕ → Type 0) (parser : IsParser X given Reads) where
  -- at most one reads given tokens, and it has one height
  pub one-reading : (tokens : List Token) (one other : X) (height raised : ℕ) → Reads tokens one height → Reads tokens other raised → (one ≡ other) × (height ≡ raised)
  one-reading tokens one other height raised reads reads' =
      let first = parser.finds tokens (max height raised) one height reads (omega arith) in
      let second = parser.finds tokens (max height raised) other raised reads' (omega arith) in
      let first_is = first.1 in let second_is = second.1 in
      let same : Parsed one height first.0 ≡ Parsed other raised second.0 = sym first_is ∙ second_is in
      (cc, cc)

  module _ (tokens : List Token) where
    -- no x, however high or of at most a height, is read in what begins with the tokens up to a place
    abbrev pub Nothing : ℕ → Type 0
    Nothing at = (others : List Token) (x : X) (height : ℕ) → AgreeUpTo at others tokens → Reads others x height → ⊥

    abbrev pub NothingWithin : ℕ → Type 0
    NothingWithin at = (others : List Token) (x : X) (height : ℕ) → AgreeUpTo at others tokens → height ≤ most_height → Reads others x height → ⊥

    -- the parser gives only what is read
    pub gives-read : (x : X) (h to : ℕ) → given tokens most_height ≡ Parsed x h to → Reads tokens x h × (h ≤ most_height)
    gives-read x h to is = subst (λ o. Good (length tokens) (most_height - 1 + 3) (IsRead Reads tokens most_height) o) is (parser.holds tokens)

    -- where nothing can be read, nothing reads what begins so
    pub unreadable-nothing : (at : ℕ) → given tokens most_height ≡ Unreadable at → (at ≤ length tokens) × Nothing at
    unreadable-nothing at is = (inside, nothing)
      where
        inside : at ≤ length tokens
        inside = subst (λ o. Good (length tokens) (most_height - 1 + 3) (IsRead Reads tokens most_height) o) is (parser.holds tokens)

        nothing : Nothing at
        nothing others x h agree reads =
            let within = inside in
            let there = agree-length at others tokens agree within in
            let local = parser.local at ⊥ tokens others (agree-kinds at others tokens agree) (agree-lines at others tokens agree) (omega arith)
            (omega arith) most_height (max most_height h) (record { low = omega arith; same = λ e. absurd e }) in
            let stops : stop (given tokens most_height) ≤ at = subst (λ o. stop o ≤ at) (sym is) (omega arith) in
            let low : is_high (given tokens most_height) ≡ false = ap is_high is in
            let same = local.carries stops (λ high. let bad : true ≡ false = sym high ∙ low in cc) in
            let found = parser.finds others (max most_height h) x h reads (omega arith) in
            let found_is = found.1 in cc

    -- where it is too high, nothing that is allowed reads what begins so, and it comes late
    pub high-nothing : (at : ℕ) → given tokens most_height ≡ TooHigh at → (at ≤ length tokens) × NothingWithin at × (250 ≤ at)
    high-nothing at is = (good.1, nothing, late)
      where
        good : (most_height - 1 + 3 ≤ at + 2) × (at ≤ length tokens)
        good = subst (λ o. Good (length tokens) (most_height - 1 + 3) (IsRead Reads tokens most_height) o) is (parser.holds tokens)

        late : 250 ≤ at
        late = let a = good.0 in omega arith

        nothing : NothingWithin at
        nothing others x h agree low reads =
            let inside = good.1 in
            let there = agree-length at others tokens agree inside in
            let local = parser.local at (Unit {0}) tokens others (agree-kinds at others tokens agree) (agree-lines at others tokens agree) (omega arith)
            (omega arith) most_height most_height (record { low = omega arith; same = λ e. refl }) in
            let stops : stop (given tokens most_height) ≤ at = subst (λ o. stop o ≤ at) (sym is) (omega arith) in
            let same = local.carries stops (λ high. tt) in
            let found = parser.finds others most_height x h reads low in
            let found_is = found.1 in cc

    -- a failure's place is among the tokens
    pub fails-inside : (failure : Failure) → FailsParsing failure (given tokens most_height) → FailsInside failure (length tokens)
    fails-inside failures.Memory fails = tt
    fails-inside (failures.Syntax at) fails = (unreadable-nothing at fails).0
    fails-inside (failures.TooNested at) fails = (high-nothing at fails).0

    -- what a refusal tells
    pub syntax-told : (failure : Failure) (at line : ℕ) → FailsParsing failure (given tokens most_height) → located tokens failure ≡ errors.Syntax at line →
        IsPlaceOfLine tokens at line × Nothing at
    syntax-told failures.Memory at line fails is = cc
    syntax-told (failures.Syntax found) at line fails is =
        let same : found ≡ at = cc in let lines : error_line tokens found ≡ line = cc in let w = unreadable-nothing found fails in
        ((subst (λ n. n ≤ length tokens) same w.0, sym lines ∙ ap (error_line tokens) same), subst Nothing same w.1)
    syntax-told (failures.TooNested found) at line fails is = cc

    pub nested-told : (failure : Failure) (at line : ℕ) → FailsParsing failure (given tokens most_height) → located tokens failure ≡ errors.TooNested at line →
        IsPlaceOfLine tokens at line × NothingWithin at × (250 ≤ at)
    nested-told failures.Memory at line fails is = cc
    nested-told (failures.Syntax found) at line fails is = cc
    nested-told (failures.TooNested found) at line fails is =
        let same : found ≡ at = cc in let lines : error_line tokens found ≡ line = cc in let w = high-nothing found fails in
        ((subst (λ n. n ≤ length tokens) same w.0, sym lines ∙ ap (error_line tokens) same), subst NothingWithin same w.1, subst (λ n. 250 ≤ n) same w.2)

    -- a refusal comes only where nothing is read
    pub refused-none : (failure : Failure) → (failure ≡ failures.Memory → ⊥) → FailsParsing failure (given tokens most_height) → (x : X) (h : ℕ) → h ≤ most_height → Reads tokens x h → ⊥
    refused-none failures.Memory told fails x h low reads = told refl
    refused-none (failures.Syntax at) told fails x h low reads = (unreadable-nothing at fails).1 tokens x h (λ place low'. refl) reads
    refused-none (failures.TooNested at) told fails x h low reads = (high-nothing at fails).1 tokens x h (λ place low'. refl) low reads

-- ---- programs

abbrev pub ReadsAlone : List Token → UnitList → ℕ → Type 0
ReadsAlone tokens items h = HasKeyword tokens 0 keys.Int × ReadsMain tokens Refused 1 items h

pub programs : IsParser UnitList program_at ReadsAlone
unfolding program_at
programs = record { holds = holds; local = local; finds = finds }
  where
    holds : (tokens : List Token) → Good (length tokens) (most_height - 1 + 3) (IsRead ReadsAlone tokens most_height) (program_at tokens most_height)
    holds tokens =
        expect_key-good tokens (most_height - 1 + 3) keys.Int 0 (IsRead ReadsAlone tokens most_height) (main_at tokens Refused most_height 1) (omega arith)
        (λ int below'. alone int (main_at tokens Refused most_height 1) (main_at-holds tokens Refused most_height 1 (omega arith)))
      where
        alone : HasKeyword tokens 0 keys.Int → (o : ParseOutcome UnitList) → Good (length tokens) (most_height - 1 + 3) (IsMainPart tokens Refused most_height 1) o →
            Good (length tokens) (most_height - 1 + 3) (IsRead ReadsAlone tokens most_height) o
        alone int (Parsed items h to) good = ((int, good.reads), good.low)
        alone int (Unreadable at) good = good
        alone int (TooHigh at) good = good

    local : (k : ℕ) (E : Type 0) (ts ws : List Token) → ((i : ℕ) → i ≤ k → kind_at ws i ≡ kind_at ts i) → ((i : ℕ) → i ≤ k → line_at ws i ≡ line_at ts i) →
        k < length ts + 1 → k < length ws + 1 → (b c : ℕ) → Budgets E b c → Local k E 1 0 (program_at ts b) (program_at ws c)
    local k E ts ws kinds lines few fewer b c budgets =
        expect_key-local k E ts ws kinds lines keys.Int 0 (main_at ts Refused b 1) (main_at ws Refused c 1)
        (earlier k E 1 1 0 (0 + 1) _ _ (omega arith) (omega arith) (main_at-local k E ts ws Refused kinds lines few fewer b c budgets 1))

    finds : (tokens : List Token) (b : ℕ) (items : UnitList) (h : ℕ) → ReadsAlone tokens items h → h ≤ b → (to : ℕ) × (program_at tokens b ≡ Parsed items h to)
    finds tokens b items h reads low =
        let found = finds-main_part tokens Refused b 1 items h reads.1 low in
        (found.0, expect_key-yes tokens keys.Int 0 _ reads.0 ∙ found.1)

pub program-alone : (tokens : List Token) (program : SourceProgram) (h : ℕ) → ReadsProgram tokens program h → ReadsAlone tokens (plain_list program.items) h
program-alone tokens program h (ReadsProgram.program int d) = (int, d)

-- what is given is a program's, and it is read
pub program-no_calls : (tokens : List Token) (trees : List Stmt) (h to : ℕ) → program_at tokens most_height ≡ Parsed (unit_list_of trees) h to → unit_list_of trees ≡ plain_list (list_of trees)
program-no_calls tokens trees h to is = let reads = (gives-read program_at ReadsAlone programs tokens (unit_list_of trees) h to is).0 in main-no_calls tokens 1 trees h reads.1

pub program-read : (tokens : List Token) (trees : List Stmt) (h to : ℕ) → program_at tokens most_height ≡ Parsed (unit_list_of trees) h to →
    IsReadWithin most_height tokens record { items = list_of trees }
program-read tokens trees h to is =
    let reads = gives-read program_at ReadsAlone programs tokens (unit_list_of trees) h to is in
    (h, reads.1, ReadsProgram.program reads.0.0 (subst (λ items. ReadsMain tokens Refused 1 items h) (program-no_calls tokens trees h to is) reads.0.1))

-- at most one program reads given tokens
pub one-program : (tokens : List Token) (one other : SourceProgram) (height raised : ℕ) → ReadsProgram tokens one height → ReadsProgram tokens other raised → (one ≡ other) × (height ≡ raised)
one-program tokens one other height raised reads reads' =
    let same = one-reading program_at ReadsAlone programs tokens (plain_list one.items) (plain_list other.items) height raised (program-alone tokens one height reads)
    (program-alone tokens other raised reads') in
    let whole : SourceList → SourceProgram = λ i. record { items = i } in
    (ap whole (same-plain one.items other.items same.0), same.1)
