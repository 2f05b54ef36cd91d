use Rattle.std.proofs.lemmas.Result.{err_from_is_err_and}
use Rattle.pc_command.specs.Requests.{explain_request}
use Rattle.pc_explainer.proofs.Programs.{only_lacks}
use Rattle.pc_explainer.proofs.source.compile_and_explain.Goals as goal

-- what is compiled is not too large, so memory ran out
pub returns-in_err-text-clause-uncompiled : goal.returns-in_err-text-clause-uncompiled
returns-in_err-text-clause-uncompiled g c =
    let p = err_from_is_err_and c.from_residual-in_err-text.result c.from_residual-in_err-text.ensures.1 in
    rw (p.1, p.2) (only_lacks _ (explain_request c.args.command) _ _ _ _ _ c.in_ok-compiled.ensures.compiled)
