use Rattle.std.proofs.Common.{◌<◌, ◌∙◌, ℕ, Bool, ap, subst}
use Rattle.pc_window.specs.Filled.{Filled}
use Rattle.pc_window.specs.StoredWindow.{window_in}
use Rattle.pc_window.proofs.Filling.{fills_keep}
use Rattle.pc_fill.specs.models.Places.{known_in}
use Rattle.pc_fill.proofs.Jumps.{can_begin, proper_after, filled_from}
use Rattle.pc_fill.proofs.filling.fill_from.Goals as goal

pub fill_on-requires-clause-can : goal.fill_on-requires-clause-can
fill_on-requires-clause-can c =
    can_begin c.args.window c.requires.proper c.requires.fillable (known_in c.deref.result.now) (ap known_in c.deref.ensures.value ∙ c.in_ok-known.ensures)
    (subst (λ (n : ℕ). n < 511) c.most_in_front-most.ensures.most c.most_in_front-most.ensures.few)

pub returns-clause-left : goal.returns-clause-left
returns-clause-left c =
    filled_from c.args.window c.requires.proper c.requires.fillable (known_in c.deref.result.now) c.in_ok-filled.filled c.in_ok-filled.ensures.fills c.in_ok-filled.ensures.grows

pub returns-clause-proper : goal.returns-clause-proper
returns-clause-proper c =
    proper_after c.args.window c.requires.proper c.requires.fillable (known_in c.deref.result.now) (ap known_in c.deref.ensures.value ∙ c.in_ok-known.ensures) c.in_ok-filled.filled
    c.in_ok-filled.ensures.fills

pub returns-clause-keeps : goal.returns-clause-keeps
returns-clause-keeps c table =
    fills_keep table _ _
    (subst (λ (known : ℕ → Bool). Filled known (window_in c.args.window) (window_in c.in_ok-filled.filled)) (ap known_in c.deref.ensures.value ∙ c.in_ok-known.ensures)
    c.in_ok-filled.ensures.fills) c.requires.proper
