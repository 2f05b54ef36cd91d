use Rattle.std.proofs.Common.{sym, subst}
use Rattle.std.specs.Prelude.{◌≡◌, false}
use Rattle.serde_json.specs.Data.{Data}
use Rattle.serde_json.specs.Written.{has_float}
use Rattle.pc_explain.specs.Explained.{explanations_in}
use Rattle.pc_explain.specs.Legends.{legend_in}
use Rattle.pc_explain_json.proofs.Whole.{explanations-whole}
use Rattle.pc_explain_json.proofs.json.explanation_json.Goals as goal

pub line_text-requires : goal.line_text-requires
line_text-requires c =
    subst (λ (value : Data). has_float value ≡ false) (sym c.in_ok-value.ensures)
    (explanations-whole (legend_in c.args.legend.now) c.args.limits c.args.line (explanations_in c.args.loops.now))
