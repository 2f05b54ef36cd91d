use Rattle.std.proofs.Common.{false}
use Rattle.pc_syntax.specs.UnitErasure.{unit_list_of}
use Rattle.pc_calls.specs.Counted.{function_sizes}
use Rattle.pc_inline.specs.models.Sized.{seen}
use Rattle.pc_inline.proofs.Rows.{last_first}
use Rattle.pc_inline.proofs.Alike.{list-alike}
use Rattle.pc_inline.proofs.TableLaws.{sized_alike}
use Rattle.pc_inline.proofs.tables.unit_size.Goals as goal

pub returns : goal.returns
returns c =
    let functions = c.args.unit.now.functions in
    let counted = rw (c.as_slice-functions.ensures, c.as_slice.ensures) at c.list_size.ensures in
    let are = rw c.as_slice-functions.ensures at c.in_ok-sizes.ensures in
    sized_alike c.list_size.result _ _ counted
    (list-alike false (seen functions c.in_ok-sizes.sizes) (function_sizes (last_first functions)) are.like (unit_list_of c.args.unit.now.main.items))
