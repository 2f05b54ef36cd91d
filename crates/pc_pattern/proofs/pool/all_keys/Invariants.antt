use Rattle.std.proofs.Common.{◌≡◌, ◌++◌}
use Rattle.pc_pattern.specs.models.Pools.{keys_in}
use Rattle.pc_pattern.proofs.pool.all_keys.Given as goal

-- the keys so far, and then those that are left, are all
abbrev pub invariant-loop-key : goal.invariant-loop-key
invariant-loop-key l = keys_in l.all ++ keys_in l.key-iterator ≡ keys_in l.initial.key-iterator
