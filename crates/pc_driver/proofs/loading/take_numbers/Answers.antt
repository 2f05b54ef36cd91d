use Rattle.std.proofs.Common.{◌≡◌, ◌+◌, ◌<◌, ◌≤◌, ℕ, List, length, subst, arith}
use Rattle.std.specs.Prelude.{Ok}
use Rattle.std.proofs.lemmas.Result.{err_from_is_err_and}
use Rattle.pc_word.specs.MachineLimits.{most_input}
use Rattle.pc_word.specs.NumberText.{numbers_in, IsNumbersRefusal}
use Rattle.pc_driver.proofs.Taken.{gives, long_input, refused_numbers, loses}
use Rattle.pc_driver.proofs.loading.take_numbers.Goals as goal

-- the input is too long
pub returns-then-len-gt-MOST_INPUT-clause-numbers : goal.returns-then-len-gt-MOST_INPUT-clause-numbers
returns-then-len-gt-MOST_INPUT-clause-numbers g c =
    let big : most_input < length c.in_ok-bytes.bytes.items = omega arith in
    long_input (g.I.Source.left c.args.input.now) c.in_ok-bytes.bytes.items c.in_ok-bytes.ensures.first.first big

pub returns-then-len-gt-MOST_INPUT-clause-lost : goal.returns-then-len-gt-MOST_INPUT-clause-lost
returns-then-len-gt-MOST_INPUT-clause-lost g c =
    loses (g.I.Source.left c.args.input.now) (g.I.Source.left c.take_all.new.source) (most_input + 1) c.in_ok-bytes.bytes.items c.in_ok-bytes.ensures.first

-- a word of the input is no number
pub returns-in_err-read_numbers-clause-numbers : goal.returns-in_err-read_numbers-clause-numbers
returns-in_err-read_numbers-clause-numbers g c =
    let small : length c.in_ok-bytes.bytes.items ≤ most_input = omega arith in
    let p = err_from_is_err_and c.from_residual-in_err-read_numbers.result c.from_residual-in_err-read_numbers.ensures.1 in
    rw (p.1, p.2) (refused_numbers c.in_err-read_numbers.field-0.0 c.in_ok-bytes.bytes.items
    (record { told = g.I.Source.left c.args.input.now; faults = g.I.Source.faults c.args.input.now })
    (record { told = g.I.Source.left c.take_all.new.source; faults = g.I.Source.faults c.take_all.new.source })
    c.in_ok-bytes.ensures.first.first small
    (subst (λ (bytes : List ℕ). IsNumbersRefusal bytes c.in_err-read_numbers.field-0.0) c.as_slice.ensures.value c.in_err-read_numbers.ensures.err))

pub returns-in_err-read_numbers-clause-lost : goal.returns-in_err-read_numbers-clause-lost
returns-in_err-read_numbers-clause-lost g c =
    loses (g.I.Source.left c.args.input.now) (g.I.Source.left c.take_all.new.source) (most_input + 1) c.in_ok-bytes.bytes.items c.in_ok-bytes.ensures.first

-- the words of the input are numbers
pub returns-clause-numbers : goal.returns-clause-numbers
returns-clause-numbers g c =
    let small : length c.in_ok-bytes.bytes.items ≤ most_input = omega arith in
    gives (g.I.Source.left c.args.input.now) c.in_ok-bytes.bytes.items c.in_ok-read_numbers.field-0 c.in_ok-bytes.ensures.first.first small
    (subst (λ (bytes : List ℕ). numbers_in bytes ≡ Ok c.in_ok-read_numbers.field-0) c.as_slice.ensures.value c.in_ok-read_numbers.ensures.ok)

pub returns-clause-lost : goal.returns-clause-lost
returns-clause-lost g c =
    loses (g.I.Source.left c.args.input.now) (g.I.Source.left c.take_all.new.source) (most_input + 1) c.in_ok-bytes.bytes.items c.in_ok-bytes.ensures.first
