use Rattle.std.proofs.Common.{ap, ◌∙◌, ◌-◌}
use Rattle.std.specs.Prelude.{ℕ, nat_eq}
use Rattle.std.proofs.lemmas.Nat.Bits.{shr_and_one}
use Rattle.pc_settled.proofs.Bits.{low_is, high_is}
use Rattle.pc_settled.proofs.register_set.RegisterSet.contains.Goals as goal

pub returns-then-register-lt128-clause-exact : goal.returns-then-register-lt128-clause-exact
returns-then-register-lt128-clause-exact c small =
    ap (λ (bit : ℕ). nat_eq bit 1) (shr_and_one c.args.self.low c.args.register) ∙ low_is c.args.self c.args.register c.if-register-lt128.true

pub returns-then-register-lt256-clause-exact : goal.returns-then-register-lt256-clause-exact
returns-then-register-lt256-clause-exact c small =
    ap (λ (bit : ℕ). nat_eq bit 1) (shr_and_one c.args.self.high (c.args.register - 128)) ∙ high_is c.args.self c.args.register c.if-register-lt128.false
