-- What stands after the object and the report is how the compiler ends, or that the program is too large.
use Rattle.std.proofs.Common.{ap, subst}
use Rattle.pc_check.specs.Checks.{resolved_of}
use Rattle.pc_check.specs.Sizes.{resolved_size}
use Rattle.pc_compile.specs.Compiled.{IsUncompiled}
use Rattle.pc_tool.specs.Compilation.{counts_of}
use Rattle.pc_tool.proofs.CompilerEndings.{done_ends, due_ends, large_ends}
use Rattle.pc_tool.proofs.Translations.{translation_of}
use Rattle.pc_tool.proofs.compile.compile_program.Goals as goal

pub returns-in-None-clause-ends : goal.returns-in-None-clause-ends
returns-in-None-clause-ends g c =
    done_ends _ _ _ _ _ _ _ c.in-Ok.field-0 (translation_of _ _ _ _ _ c.requires.source c.in-Ok.ensures.translation) _ _ _
    c.as_slice-bytes.ensures.value (ap (counts_of g.P.Pass.label g.P.Pass.changed) c.as_slice-passes.ensures.value) c.in-None.is c.write_object.ensures

pub returns-in-Ok-clause-ends : goal.returns-in-Ok-clause-ends
returns-in-Ok-clause-ends g c =
    due_ends _ _ _ _ _ _ _ c.in-Ok.field-0 (translation_of _ _ _ _ _ c.requires.source c.in-Ok.ensures.translation) _ _ _ c.in-Some.fault
    c.as_slice-bytes.ensures.value (ap (counts_of g.P.Pass.label g.P.Pass.changed) c.as_slice-passes.ensures.value) c.in-Some.is c.write_object.ensures

pub returns-in-Err-TooLarge-clause-ends : goal.returns-in-Err-TooLarge-clause-ends
returns-in-Err-TooLarge-clause-ends g c =
    let e = c.in-Err-TooLarge.field-0-is in
    rw e (large_ends _ _ _ _ _ _ _ c.requires.source (subst (IsUncompiled (resolved_size (resolved_of c.args.checked.now))) e c.in-Err-TooLarge.ensures.uncompiled))
