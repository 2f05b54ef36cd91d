-- Parameters that have their first turns, and names that are written, in order.
use Rattle.std.proofs.Common.{◌≡◌, ℕ, ◌+◌, ◌<◌, List, length, drop, sym, ◌∙◌, ap}
use Rattle.std.specs.Prelude.{slice_index_or}
use Rattle.std.proofs.lemmas.List.{at_drop_more}
use Rattle.pc_linear.specs.Form.{Form}
use Rattle.pc_window.specs.declared.names.NameTable.{NameTable}
use Rattle.pc_window.specs.Opening.{Supply}
use Rattle.pc_window.specs.Rebasing.{with_form}
use Rattle.pc_window.specs.StoredWindow.{supply_in}
use Rattle.pc_rebase.specs.declared.finding.Found.{Found}
use Rattle.pc_rebase.specs.models.Finding.{found_after, found_all, all_written}
use Rattle.pc_rebase.specs.models.Standing.{stands_in, written_by}
use Rattle.pc_rebase.proofs.MadeBases.{below_at}

pub next_found : (old : ℕ → Form) (ps : List ℕ) (at : ℕ) (whole now later : Found) (f : Form) → at < length ps → whole ≡ found_all old (drop at ps) now
    → f ≡ written_by (stands_in now.stands) (old (slice_index_or ps at 0)) → later ≡ found_after (slice_index_or ps at 0) f now → whole ≡ found_all old (drop (at + 1) ps) later
next_found old ps at whole now later f there so_far form made =
    so_far ∙ at_drop_more (λ (list : List ℕ). found_all old list now) ps at 0 there
    ∙ ap (found_all old (drop (at + 1) ps)) (sym (made ∙ ap (λ (g : Form). found_after (slice_index_or ps at 0) g now) form))

pub next_written : (stands old : ℕ → Form) (ns : List ℕ) (at : ℕ) (whole now later : Supply) (f g : Form) → at < length ns → whole ≡ all_written stands old (drop at ns) now
    → f ≡ old (slice_index_or ns at 0) → g ≡ written_by stands f → later ≡ with_form now (slice_index_or ns at 0) g → whole ≡ all_written stands old (drop (at + 1) ns) later
next_written stands old ns at whole now later f g there so_far form written made =
    so_far ∙ at_drop_more (λ (list : List ℕ). all_written stands old list now) ns at 0 there
    ∙ ap (all_written stands old (drop (at + 1) ns)) (sym (made ∙ ap (with_form now (slice_index_or ns at 0)) (written ∙ ap (written_by stands) form)))

pub as_many_written : (names later : NameTable) (n : ℕ) (f : Form) → supply_in later ≡ with_form (supply_in names) n f → length later.forms ≡ length names.forms
as_many_written names later n f is = ap (λ (s : Supply). s.next) is

pub ruleset loops = (next_found, next_written, as_many_written, below_at)
