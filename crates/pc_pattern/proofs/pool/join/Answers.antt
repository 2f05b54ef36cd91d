use Rattle.std.proofs.Common.{List, [], ◌∷◌, sym, subst}
use Rattle.std.specs.List.{AllByRecursion}
use Rattle.pc_word.proofs.Lists.{all_both}
use Rattle.pc_window.specs.declared.window.Window.{Window}
use Rattle.pc_pattern.specs.models.Pools.{IsSettled}
use Rattle.pc_pattern.proofs.Placed.{settled_again}
use Rattle.pc_pattern.proofs.pool.join.Goals as goal

pub returns-clause-settled : goal.returns-clause-settled
returns-clause-settled c = λ all.
    subst (λ (l : List Window). AllByRecursion IsSettled l) (sym c.in_ok-put_behind.ensures)
    (all_both IsSettled c.args.waiting.now.items (c.in_ok-window.window ∷ []) all
    (settled_again c.args.window c.in_ok-window.window c.requires.proper c.in_ok-window.ensures.renumbers c.requires.settled c.in_ok-window.ensures.nodes, tt))
