-- How a certificate is answered, in memory.
use Rattle.std.proofs.Common.{◌≡◌, ◌↔◌, ℤ, ◌<◌, Bool, true, false, List, length, None, Result, Ok, Err, sym, ◌∙◌, subst, arith}
use Rattle.std.specs.Prelude.{IfOk, MatchResult}
use Rattle.pc_table.specs.declared.table.RegionTable.{RegionTable}
use Rattle.pc_table.specs.Table.{Table}
use Rattle.pc_table.proofs.StoredRegions.{as_many}
use Rattle.pc_machine.specs.MachineCode.{RowCode}
use Rattle.pc_window.specs.WindowRun.{Window}
use Rattle.pc_window.specs.Steps.{opened_window}
use Rattle.pc_certified.specs.Facts.{Fact}
use Rattle.pc_settling.specs.Remaining.{Remaining}
use Rattle.pc_settling.specs.Start.{facts_at_start}
use Rattle.pc_settling.proofs.EnteredRegions.{opened_left}
use Rattle.pc_cert.specs.declared.certificate.Entry.{Entry}
use Rattle.pc_accepted.specs.declared.flaw.LeafFlaw.{LeafFlaw}
use Rattle.pc_accepted.specs.declared.flaw.Flaw.TheVariants as flaw
use Rattle.pc_accepted.specs.declared.flaw.Rejection.{Rejection}
use Rattle.pc_accepted.specs.Arrivals.{Arrivals, no_arrivals}
use Rattle.pc_accepted.specs.Leading.{Setting, Leads}
use Rattle.pc_accepted.specs.Accepted.{AllPass, StartLeads, at_start, at_first, HasData, has_other_data, does_not_start, starts, Accepts, Rejects, setting_of}
use Rattle.pc_checking.specs.models.Stored.{outcome_of}
use Rattle.pc_checking.specs.models.Going.{GoesThrough}

-- ---- the start

-- there is a region 0
pub region_there : (table : RegionTable) → 0 < length table.regions
region_there table = let some = table.kept.some_region in let many = as_many table.regions in omega (arith, some, many)

-- its window, and what holds there
pub starts_with : (table : Table) (code : RowCode) (w : Window) (facts : List Fact) → w ≡ opened_window table code.limits 0 → facts ≡ facts_at_start code.registers
    → (let it : Remaining = record { window = w; facts = facts } in it) ≡ at_start table code
starts_with table code w facts is facts_are = λ i. record { window = is i; facts = facts_are i }

pub ruleset starting = (region_there, starts_with, opened_left)

-- ---- the answer

module _ (s : Setting) (none : Arrivals) (none_is : none ≡ no_arrivals s.entries) (start : Remaining) (start_is : start ≡ at_start s.table s.code) (later : Arrivals)
    (led : Result (Unit {0}) LeafFlaw) (leads : Leads s None start none 0 (outcome_of later led)) where
  start_leads : (outcome : Result (Unit {0}) LeafFlaw) → led ≡ outcome → StartLeads s (outcome_of later outcome)
  start_leads outcome is =
      subst (λ (a : Arrivals). Leads s None (at_start s.table s.code) a 0 (outcome_of later outcome)) none_is (
      subst (λ (r : Remaining). Leads s None r none 0 (outcome_of later outcome)) start_is (
      subst (λ (o : Result (Unit {0}) LeafFlaw). Leads s None start none 0 (outcome_of later o)) is leads))

  pub through_not : (why : LeafFlaw) → led ≡ Err why → GoesThrough {U = Unit {0}} s (Err (at_first (flaw.Start why)))
  through_not why is words same = does_not_start same (start_leads (Err why) is)

  pub through_all : {E : Type 0} (done : Unit {0}) → led ≡ Ok done → (last : Arrivals) (result : Result (Result (Unit {0}) Rejection) E)
      → IfOk result (λ outcome. AllPass s 0 later (outcome_of last outcome)) → IfOk result (λ outcome. GoesThrough s outcome)
  through_all done is last (Ok (Ok passed)) all = λ words same. (last, starts same (start_leads (Ok done) is) all)
  through_all done is last (Ok (Err why)) all = λ words same. starts same (start_leads (Ok done) is) all
  through_all done is last (Err error) all = tt

module _ (table : Table) (words : List (List ℤ)) (code : RowCode) (entries : List Entry) where
  pub answer_other : (same : Bool) → (same ≡ true) ↔ HasData table.arrays words code → same ≡ false
      → MatchResult (let it : Result (Unit {0}) Rejection = Err (at_first flaw.OtherData) in it) (λ _. Accepts table words code entries) (λ rejection. Rejects table words code entries rejection)
  answer_other same tells other = has_other_data (λ h. absurd (let e : true ≡ false = sym (tells.1 h) ∙ other in cc))

  pub answer_all : {E : Type 0} (same : Bool) (result : Result (Result (Unit {0}) Rejection) E) → (same ≡ true) ↔ HasData table.arrays words code → same ≡ true
      → IfOk result (λ outcome. GoesThrough (setting_of table code entries) outcome)
      → IfOk result (λ outcome. MatchResult outcome (λ _. Accepts table words code entries) (λ rejection. Rejects table words code entries rejection))
  answer_all same (Ok outcome) tells is goes = goes words (tells.0 is)
  answer_all same (Err error) tells is goes = tt
