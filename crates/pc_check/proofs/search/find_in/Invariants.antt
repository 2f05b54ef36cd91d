use Rattle.std.proofs.Common.{◌≡◌, take}
use Rattle.pc_check.specs.Names.{found_in}
use Rattle.pc_check.specs.models.View.{scopes_of}
use Rattle.pc_check.proofs.search.find_in.Given as goal

-- what the scopes so far declare the name as
abbrev pub invariant-loop-scope : goal.invariant-loop-scope
invariant-loop-scope l = l.found ≡ found_in (scopes_of (take l.scope-index l.scopes)) l.symbol
