-- Entries that pass, in memory.
use Rattle.std.proofs.Common.{◌≡◌, ℕ, suc, ◌+◌, ◌<◌, ◌≤◌, List, length, map, Option, Some, None, Result, Ok, Err, refl, sym, ◌∙◌, ap, subst, get_or, arith}
use Rattle.std.specs.Prelude.{slice_get, option_map}
use Rattle.std.proofs.lemmas.List.{length-map}
use Rattle.std.proofs.lemmas.Option.{slice_get-map, slice_get_read, slice_get_past}
use Rattle.pc_word.specs.Row.{leaves_of}
use Rattle.pc_word.specs.declared.row_tree.RowTree.{RowTree}
use Rattle.pc_word.proofs.Lists.{all_at}
use Rattle.pc_word.proofs.Places.{map_at}
use Rattle.pc_table.specs.Table.{Table}
use Rattle.pc_table.specs.StoredTable.{table_of}
use Rattle.pc_machine.specs.declared.tree.Leaf.{Leaf}
use Rattle.pc_machine.specs.MachineCode.{CodeRow, row_of}
use Rattle.pc_machine.specs.WellFormed.{IsRow}
use Rattle.pc_cert.specs.declared.certificate.Entry.{Entry}
use Rattle.pc_cert.specs.declared.certificate.Step.{Step}
use Rattle.pc_window.specs.Tree.{whole}
use Rattle.pc_window.specs.Unwinding.{front_tag}
use Rattle.pc_window.specs.Steps.{front_row}
use Rattle.pc_window.specs.StoredWindow.{window_in}
use Rattle.pc_matching.specs.declared.fact.Fact as stored_fact
use Rattle.pc_matching.specs.Facts.{helds_of}
use Rattle.pc_settling.specs.Stored.{IsBegun}
use Rattle.pc_accepted.specs.declared.flaw.Flaw.{Flaw}
use Rattle.pc_accepted.specs.declared.flaw.Flaw.TheVariants as flaw
use Rattle.pc_accepted.specs.Arrivals.{Arrivals, FirstArrival}
use Rattle.pc_accepted.specs.Leading.{Setting, AllLeadOn}
use Rattle.pc_accepted.specs.Accepted.{with_limits, LeavesLeadOn, IsDone, Passes, not_reached, has_no_row, not_arranged, not_matched, leaf_refused, passes_on}
use Rattle.pc_accepted.specs.Accepted.{AllPass, all_passed, one_passed, one_rejected}
use Rattle.pc_checking.specs.declared.arranged.Arranged as stored_arranged
use Rattle.pc_checking.specs.declared.arrival.FirstArrival as stored_arrival
use Rattle.pc_checking.specs.declared.leaves.LeafRefusal as stored_refusal
use Rattle.pc_checking.specs.declared.setting.Setting as stored_setting
use Rattle.pc_checking.specs.models.Stored.{arrivals_in, setting_in, outcome_of, leaves_outcome, IsSetting, IsRowOf, AreKept}
use Rattle.pc_checking.proofs.Arrived.{was_at, was_so}
use Rattle.pc_checking.specs.models.Going.{ArrangesFor, is_illegal, is_other, is_arranged, EntriesGoOn}

-- ---- one entry

-- a row that is not there, in memory
pub no_row : (rows : List (RowTree Leaf)) (number : ℕ) → None ≡ slice_get rows number → slice_get (map row_of rows) number ≡ None
no_row rows number is = slice_get-map row_of rows number ∙ ap (option_map row_of) (sym is)

-- and one that is
pub row_there : (rows : List (RowTree Leaf)) (number : ℕ) (row : RowTree Leaf) → Some row ≡ slice_get rows number → slice_get (map row_of rows) number ≡ Some (row_of row)
row_there rows number row is = map_at row_of rows number row (sym is)

-- which keeps the limits of a well-formed code
pub row_keeps : (s : stored_setting.Setting) (number : ℕ) (row : RowTree Leaf) → IsSetting s → Some row ≡ slice_get s.code.now.rows number → IsRowOf s (row_of row)
row_keeps s number row is there =
    subst (λ (n : ℕ). IsRow s.code.now.limits s.code.now.registers (length s.code.now.arrays) n (row_of row)) (length-map s.code.now.rows row_of)
    (all_at (IsRow s.code.now.limits s.code.now.registers (length s.code.now.arrays) (length (map row_of s.code.now.rows))) (map row_of s.code.now.rows) number (row_of row)
    is.formed.rows (row_there s.code.now.rows number row there))

-- nothing has arrived at an entry that is read
pub pass_nowhere : (s : Setting) (number : ℕ) (entry : Entry) (arrivals : List (Option stored_arrival.FirstArrival)) (default : Option stored_arrival.FirstArrival)
    → number < length arrivals → get_or arrivals number default ≡ None → Passes s number entry (arrivals_in arrivals) (Err flaw.Unreached)
pass_nowhere s number entry arrivals default within none = not_reached (was_so arrivals number default None within none)

-- or something has, with which the entry may begin; but its row is not there
pub pass_no_row : (s : stored_setting.Setting) (number : ℕ) (entry : Entry) (arrivals : List (Option stored_arrival.FirstArrival))
    (default : Option stored_arrival.FirstArrival) (arrived : stored_arrival.FirstArrival) → number < length arrivals → get_or arrivals number default ≡ Some arrived
    → None ≡ slice_get s.code.now.rows entry.row → Passes (setting_in s) number entry (arrivals_in arrivals) (Err flaw.NoRow)
pass_no_row s number entry arrivals default arrived within is none =
    has_no_row (was_so arrivals number default (Some arrived) within is) (no_row s.code.now.rows entry.row none)

pub begun_there : (s : stored_setting.Setting) (arrivals : List (Option stored_arrival.FirstArrival)) (number : ℕ) (default : Option stored_arrival.FirstArrival)
    (arrived : stored_arrival.FirstArrival) → AreKept s arrivals → number < length s.entries.now → get_or arrivals number default ≡ Some arrived
    → IsBegun (table_of s.table.now) arrived.window
begun_there s arrivals number default arrived kept within is =
    let many = kept.as_many in kept.begun number arrived (was_at arrivals number default (Some arrived) (omega (arith, many, within)) (sym is))

pub ruleset passing = (pass_nowhere, pass_no_row)

-- what has come of arranging
pub arranged_so : (table : Table) (steps given : List Step) (arrived : FirstArrival) (row : CodeRow) (found outcome : Result stored_arranged.Arranged Flaw) → given ≡ steps
    → found ≡ outcome → ArrangesFor table given arrived row found → ArrangesFor table steps arrived row outcome
arranged_so table steps given arrived row found outcome same is so =
    subst (λ (list : List Step). ArrangesFor table list arrived row outcome) same
    (subst (λ (o : Result stored_arranged.Arranged Flaw). ArrangesFor table given arrived row o) is so)

module _ (s : Setting) (number : ℕ) (entry : Entry) (arrivals : Arrivals) (arrived : FirstArrival) (row : CodeRow)
    (was : slice_get arrivals number ≡ Some (Some arrived)) (there : slice_get s.code.rows entry.row ≡ Some row) where
  pub pass_not : (why : Flaw) → ArrangesFor s.table entry.steps arrived row (Err why) → Passes s number entry arrivals (Err why)
  pass_not why (is_illegal never) = not_arranged was there never
  pass_not why (is_other arranges none) = not_matched was there arranges none

  module _ (arranged : stored_arranged.Arranged) (so : ArrangesFor s.table entry.steps arrived row (Ok arranged)) where
    pub is_done : IsDone s entry arrived row (window_in arranged.window) (helds_of arranged.helds)
    is_done = by_cases so
      where
        by_cases : ArrangesFor s.table entry.steps arrived row (Ok arranged) → IsDone s entry arrived row (window_in arranged.window) (helds_of arranged.helds)
        by_cases (is_arranged arranges does) = record { there = there; arranges = arranges; does = does }

    module _ (tag : ℕ) (tag_is : tag ≡ front_tag (whole arrived.window.front)) (given : List (List stored_fact.Fact)) (given_is : given ≡ arranged.helds) (later : Arrivals)
        (led : Result (Unit {0}) stored_refusal.LeafRefusal)
        (leads : AllLeadOn s (record { rank = entry.rank; tag = tag }) (with_limits s.code.limits (window_in arranged.window)) 0 arrivals (helds_of given) (leaves_of row)
        (leaves_of (front_row (λ tree. tree) (window_in arranged.window).front)) (leaves_outcome later led)) where
      leads_so : (outcome : Result (Unit {0}) stored_refusal.LeafRefusal) → led ≡ outcome → LeavesLeadOn s entry arrived row (window_in arranged.window) (helds_of arranged.helds) arrivals
          (leaves_outcome later outcome)
      leads_so outcome is =
          subst (λ (t : ℕ). AllLeadOn s (record { rank = entry.rank; tag = t }) (with_limits s.code.limits (window_in arranged.window)) 0 arrivals (helds_of arranged.helds) (leaves_of row)
          (leaves_of (front_row (λ tree. tree) (window_in arranged.window).front)) (leaves_outcome later outcome)) tag_is (
          subst (λ (h : List (List stored_fact.Fact)). AllLeadOn s (record { rank = entry.rank; tag = tag }) (with_limits s.code.limits (window_in arranged.window)) 0 arrivals (helds_of h)
          (leaves_of row) (leaves_of (front_row (λ tree. tree) (window_in arranged.window).front)) (leaves_outcome later outcome)) given_is (
          subst (λ (o : Result (Unit {0}) stored_refusal.LeafRefusal). AllLeadOn s (record { rank = entry.rank; tag = tag }) (with_limits s.code.limits (window_in arranged.window)) 0 arrivals
          (helds_of given) (leaves_of row) (leaves_of (front_row (λ tree. tree) (window_in arranged.window).front)) (leaves_outcome later o)) is leads))

      pub pass_on : (done : Unit {0}) → led ≡ Ok done → Passes s number entry arrivals (Ok later)
      pass_on done is = passes_on was is_done (leads_so (Ok done) is)

      pub pass_no_leaf : (refusal : stored_refusal.LeafRefusal) → led ≡ Err refusal → Passes s number entry arrivals (Err (flaw.Leaf refusal.leaf refusal.why))
      pass_no_leaf refusal is = leaf_refused was is_done (leads_so (Err refusal) is)

-- ---- one entry after the other

-- the entry of a number
pub entry_at : (entries : List Entry) (number index : ℕ) (entry : Entry) → number ≡ index → index < length entries → entry ≡ get_or entries index entry
    → slice_get entries number ≡ Some entry
entry_at entries number index entry same within is =
    ap (λ (n : ℕ). slice_get entries n) same ∙ slice_get_read entries (length entries) index entry refl within is

-- and none past the last
pub no_entry : (entries : List Entry) (number index : ℕ) → number ≡ index → length entries ≤ index → slice_get entries number ≡ None
no_entry entries number index is past = ap (λ (n : ℕ). slice_get entries n) is ∙ slice_get_past entries index past

module _ (s : Setting) (first : Arrivals) (number : ℕ) (arrivals : Arrivals) (on : EntriesGoOn s first number arrivals) where
  module _ (entry : Entry) (there : slice_get s.entries number ≡ Some entry) (later : Arrivals) (found : Result (Unit {0}) Flaw)
      (passes : Passes s number entry arrivals (outcome_of later found)) where
    so : (outcome : Result (Unit {0}) Flaw) → found ≡ outcome → Passes s number entry arrivals (outcome_of later outcome)
    so outcome is = subst (λ (o : Result (Unit {0}) Flaw). Passes s number entry arrivals (outcome_of later o)) is passes

    pub entry_passed : (done : Unit {0}) → found ≡ Ok done → EntriesGoOn s first (number + 1) later
    entry_passed done is =
        subst (λ (n : ℕ). EntriesGoOn s first n later) (let e : suc number ≡ number + 1 = omega arith in e)
        (λ outcome all. on outcome (one_passed there (so (Ok done) is) all))

    pub entry_refused : (why : Flaw) → found ≡ Err why → AllPass s 0 first (Err (record { entry = number; flaw = why }))
    entry_refused why is = on (Err (record { entry = number; flaw = why })) (one_rejected there (so (Err why) is))

  pub entries_passed : slice_get s.entries number ≡ None → AllPass s 0 first (Ok arrivals)
  entries_passed none = on (Ok arrivals) (all_passed none)
