use Rattle.pc_emit.proofs.Ways.{test_ways}
use Rattle.pc_emit.proofs.packed.+packed_row.Goals as goal

pub returns-in_ok-with_test-in-Test-clause-ways : goal.returns-in_ok-with_test-in-Test-clause-ways
returns-in_ok-with_test-in-Test-clause-ways t c =
    test_ways _ _ _ _ _ _ c.packed_row-in-Test.new.output _ c.in_ok-with_test-in-Test.ensures c.in_ok-no-in-Test.ensures.grows c.in_ok-yes-in-Test.ensures.ways c.in_ok-no-in-Test.ensures.ways
