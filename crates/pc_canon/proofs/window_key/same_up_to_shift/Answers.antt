use Rattle.std.proofs.Common.{◌∙◌}
use Rattle.std.proofs.lemmas.Bool.Decides.{Decides-eqb}
use Rattle.std.proofs.lemmas.Slice.Eq.{slice_eq-Decides}
use Rattle.pc_window.specs.StoredWindow.{window_in}
use Rattle.pc_canon.proofs.Keys.{compared_keys}
use Rattle.pc_canon.proofs.window_key.same_up_to_shift.Goals as goal

pub returns : goal.returns
returns c =
    compared_keys (window_in c.args.one.now) (window_in c.args.other.now) c.as_slice.result.now c.as_slice-2.result.now c.eq.result
    (slice_eq-Decides Decides-eqb c.as_slice.result.now c.as_slice-2.result.now c.eq.result c.eq.ensures)
    (c.as_slice.ensures.value ∙ c.in_ok-one.ensures.bytes) (c.as_slice-2.ensures.value ∙ c.in_ok-other.ensures.bytes)
