use Rattle.std.proofs.Common.{rules, ◌≡◌, ◌+◌, ◌<◌, ◌≤◌, ◌∷◌, ◌++◌, ◌%◌, [], length, arith}
use Rattle.pc_canon.proofs.Bytes.{digit_written, last_written, before_stays}
use Rattle.pc_canon.proofs.number_bytes.write_digits.Goals as goal

pub loop-rest-preserved : goal.loop-rest-preserved
loop-rest-preserved c =
    let so_far = c.loop-rest.invariant in
    let start = c.args.bytes.now.items in
    let old = c.loop-rest.bytes.items in
    let new = c.push.new.self.items in
    let put : new ≡ old ++ (128 + c.loop-rest.rest % 128) ∷ [] = search rules in
    let large : 128 ≤ c.loop-rest.rest = search rules in
    let longer : length old ≤ length new = search rules in
    record {
      written = digit_written old new _ c.loop-rest.rest put large so_far.written;
      before = before_stays start old new _ so_far.before so_far.longer put;
      longer = omega (arith, so_far.longer, longer);
    }

pub returns-clause-written : goal.returns-clause-written
returns-clause-written c =
    let old = c.loop-rest.bytes.items in
    let new = c.push-2.new.self.items in
    let put : new ≡ old ++ c.loop-rest.rest ∷ [] = search rules in
    let small : c.loop-rest.rest < 128 = search rules in
    last_written old new _ c.loop-rest.rest put small c.loop-rest.invariant.written
