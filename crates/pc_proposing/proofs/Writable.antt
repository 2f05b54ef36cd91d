-- How many bytes entries have, and entries one by one.
use Rattle.std.proofs.Common.{◌≡◌, ℕ, ◌+◌, ◌*◌, ◌≤◌, List, [], ◌∷◌, ◌++◌, Option, Some, None, length, sym, subst, arith, length-append}
use Rattle.std.specs.List.{flat_map, AllByRecursion}
use Rattle.pc_word.specs.MachineLimits.{most_object}
use Rattle.pc_object.specs.ObjectText.{u16_text, u32_text}
use Rattle.pc_cert.specs.declared.certificate.Source.{Source}
use Rattle.pc_cert.specs.declared.certificate.Source.TheVariants as sources
use Rattle.pc_cert.specs.declared.certificate.WindowOperand.{WindowOperand}
use Rattle.pc_cert.specs.declared.certificate.WindowOperand.TheVariants as operands
use Rattle.pc_cert.specs.declared.certificate.Fact.{Fact}
use Rattle.pc_cert.specs.declared.certificate.Step.{Step}
use Rattle.pc_cert.specs.declared.certificate.Step.TheVariants.{Bring, Join, Open, Enter, Use}
use Rattle.pc_cert.specs.declared.certificate.Entry.{Entry}
use Rattle.pc_cert.specs.CertificateText.{source_text, operand_text, fact_text, loop_text, opening_text, step_text, facts_text, steps_text, entry_text, IsEntry, IsCertificate}
use Rattle.pc_proposing.specs.declared.drafts.Draft.{Draft}
use Rattle.pc_proposing.specs.models.Drafts.{IsDraft}

source_short : (source : Source) → length (source_text source) ≤ 5
source_short (sources.Register register) = omega arith
source_short (sources.Literal value) = omega arith

operand_short : (operand : WindowOperand) → length (operand_text operand) ≤ 5
operand_short (operands.Parameter parameter) = omega arith
operand_short (operands.Literal value) = omega arith

fact_short : (fact : Fact) → length (fact_text fact) ≤ 10
fact_short fact = omega (arith, length-append (source_text fact.source) (operand_text fact.operand), source_short fact.source, operand_short fact.operand)

facts_short : (facts : List Fact) → length (flat_map fact_text facts) ≤ 10 * length facts
facts_short [] = omega arith
facts_short (fact ∷ facts) = omega (arith, length-append (fact_text fact) (flat_map fact_text facts), fact_short fact, facts_short facts)

step_short : (step : Step) → length (step_text step) ≤ 7
step_short (Bring place) = omega arith
step_short (Join branch on_yes on_no) = omega arith
step_short (Open leaf) = omega arith
step_short (Enter leaf) = omega arith
step_short (Use copy place) = omega arith

steps_short : (steps : List Step) → length (flat_map step_text steps) ≤ 7 * length steps
steps_short [] = omega arith
steps_short (step ∷ steps) = omega (arith, length-append (step_text step) (flat_map step_text steps), step_short step, steps_short steps)

loop_short : (inside : Option ℕ) → length (loop_text inside) ≤ 2
loop_short None = omega arith
loop_short (Some inside) = omega arith

-- an entry
pub entry_short : (entry : Entry) → length (entry_text entry) ≤ 15 + 10 * length entry.facts + 7 * length entry.steps
entry_short entry = omega (
  arith,
  length-append (u32_text entry.row) (u32_text entry.rank ++ (facts_text entry.facts ++ (opening_text entry.opening ++ steps_text entry.steps))),
  length-append (u32_text entry.rank) (facts_text entry.facts ++ (opening_text entry.opening ++ steps_text entry.steps)),
  length-append (facts_text entry.facts) (opening_text entry.opening ++ steps_text entry.steps),
  length-append (opening_text entry.opening) (steps_text entry.steps),
  length-append (u16_text (length entry.facts)) (flat_map fact_text entry.facts),
  length-append (u16_text (length entry.steps)) (flat_map step_text entry.steps),
  facts_short entry.facts,
  steps_short entry.steps,
  loop_short entry.opening.inside,
)

pub ruleset bytes = (entry_short)

-- ---- entries one by one

pub no_draft : (draft : Draft) → draft.entries ≡ [] → draft.bytes ≡ 8 → IsDraft draft
no_draft draft none eight = record {
  may = subst (AllByRecursion IsEntry) (sym none) tt;
  bytes = subst (λ (entries : List Entry). 8 + length (flat_map entry_text entries) ≤ draft.bytes) (sym none) (omega (arith, eight));
  few = omega (arith, eight);
}

pub ruleset beginning = (no_draft)

all_more : (entries : List Entry) (entry : Entry) → AllByRecursion IsEntry entries → IsEntry entry → AllByRecursion IsEntry (entries ++ entry ∷ [])
all_more [] entry all one = (one, tt)
all_more (other ∷ entries) entry all one = (all.0, all_more entries entry all.1 one)

bytes_more : (entries : List Entry) (entry : Entry)
    → length (flat_map entry_text (entries ++ entry ∷ [])) ≡ length (flat_map entry_text entries) + length (entry_text entry)
bytes_more [] entry = omega (arith, length-append (entry_text entry) [])
bytes_more (other ∷ entries) entry = omega (
  arith,
  length-append (entry_text other) (flat_map entry_text (entries ++ entry ∷ [])),
  length-append (entry_text other) (flat_map entry_text entries),
  bytes_more entries entry,
)

pub one_more : (draft more : Draft) (entry : Entry) (bytes : ℕ) → IsDraft draft → IsEntry entry → more.entries ≡ draft.entries ++ entry ∷ []
    → length (entry_text entry) ≤ bytes → more.bytes ≡ draft.bytes + bytes → more.bytes ≤ most_object → IsDraft more
one_more draft more entry bytes is one entries short all few = record {
  may = subst (AllByRecursion IsEntry) (sym entries) (all_more draft.entries entry is.may one);
  bytes = subst (λ (them : List Entry). 8 + length (flat_map entry_text them) ≤ more.bytes) (sym entries)
      (omega (arith, bytes_more draft.entries entry, is.bytes, short, all));
  few = few;
}

pub ruleset adding = (one_more)

-- ---- the certificate

pub draft_certificate : (draft : Draft) → IsDraft draft → IsCertificate draft.entries
draft_certificate draft is = record {
  may = is.may;
  few_bytes = omega (arith, length-append (u32_text (length draft.entries)) (flat_map entry_text draft.entries), is.bytes, is.few);
}

pub none_certificate : IsCertificate []
none_certificate = record { may = tt; few_bytes = omega arith }

pub ruleset certificates = (draft_certificate, none_certificate)
