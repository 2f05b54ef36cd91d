use Rattle.std.proofs.Common.{◌≡◌, ◌<◌, length, map, refl, ◌∙◌, arith, rules}
use Rattle.std.proofs.lemmas.List.{length-map}
use Rattle.pc_pass.specs.Pass.{No_pass}
use Rattle.pc_pass.proofs.Chains.{chain_next, rest_next, chain_broken, chain_all}
use Rattle.pc_pass.proofs.Lists.{keeps_refl, keeps_trans, one_named, one_counted, one_ran}
use Rattle.pc_pass.proofs.list.run_each.Goals as goal

pub loop-pass-init : goal.loop-pass-init
loop-pass-init g c = record {
  keeps = keeps_refl c.args.flow.now;
  chain = No_pass;
  rest = refl;
  named = refl;
  counted = λ at low. omega arith;
  no_fall = λ at low. omega arith;
  ran = λ at low. absurd (omega arith);
}

pub returns-in_err-apply-clause-broken : goal.returns-in_err-apply-clause-broken
returns-in_err-apply-clause-broken g c =
    let there : c.loop-pass.pass-index < length c.loop-pass.passes = omega arith in
    let broken =
    chain_broken g.P.Pass.does g.P.Pass.changed c.args.passes.now c.loop-pass.passes c.loop-pass.pass-index c.pass-item.result c.apply.new.self
    c.args.flow.now c.loop-pass.flow there c.loop-pass.auto.passes c.loop-pass.invariant.rest c.loop-pass.invariant.chain c.apply.new.flow
    c.in_err-apply.ensures.undone in
    search rules

pub returns-clause-chain : goal.returns-clause-chain
returns-clause-chain g c =
    chain_all g.P.Pass.does g.P.Pass.changed c.args.passes.now c.loop-pass.passes c.loop-pass.pass-index c.args.flow.now c.loop-pass.flow
    (omega arith) c.loop-pass.auto.passes c.loop-pass.invariant.chain

pub returns-in_err-apply-clause-named : goal.returns-in_err-apply-clause-named
returns-in_err-apply-clause-named g c =
    one_named c.loop-pass.passes c.loop-pass.pass-index c.pass-item.result c.apply.new.self g.P.Pass.label c.apply.ensures.named
    ∙ c.loop-pass.invariant.named

pub returns-in_err-apply-clause-counted : goal.returns-in_err-apply-clause-counted
returns-in_err-apply-clause-counted g c =
    let there : c.loop-pass.pass-index < length c.loop-pass.passes = omega arith in
    one_counted c.loop-pass.passes c.loop-pass.pass-index c.pass-item.result c.apply.new.self g.P.Pass.changed there
    (map g.P.Pass.changed c.args.passes.now) c.apply.ensures.counted c.loop-pass.invariant.counted

pub returns-in_err-apply-clause-no_fall : goal.returns-in_err-apply-clause-no_fall
returns-in_err-apply-clause-no_fall g c =
    let there : c.loop-pass.pass-index < length c.loop-pass.passes = omega arith in
    one_counted c.loop-pass.passes c.loop-pass.pass-index c.pass-item.result c.apply.new.self g.P.Pass.runs there
    (map g.P.Pass.runs c.args.passes.now) c.apply.ensures.no_fall c.loop-pass.invariant.no_fall

pub loop-pass-preserved : goal.loop-pass-preserved
loop-pass-preserved g c =
    let there : c.loop-pass.pass-index < length c.loop-pass.passes = omega arith in
    let long : length (map g.P.Pass.runs c.args.passes.now) ≡ length c.loop-pass.passes =
    omega (arith, length-map c.args.passes.now g.P.Pass.runs, c.loop-pass.auto.passes) in
    record {
      keeps = keeps_trans c.args.flow.now c.loop-pass.flow c.apply.new.flow c.loop-pass.invariant.keeps c.in_ok-apply.ensures.keeps;
      chain =
          chain_next g.P.Pass.does g.P.Pass.changed c.args.passes.now c.loop-pass.passes c.loop-pass.pass-index c.pass-item.result c.apply.new.self
          c.args.flow.now c.loop-pass.flow there c.loop-pass.auto.passes c.loop-pass.invariant.rest c.loop-pass.invariant.chain c.apply.new.flow
          c.in_ok-apply.ensures.does;
      rest =
          rest_next g.P.Pass.does g.P.Pass.changed c.args.passes.now c.loop-pass.passes c.loop-pass.pass-index c.pass-item.result c.apply.new.self
          c.args.flow.now c.loop-pass.flow there c.loop-pass.auto.passes c.loop-pass.invariant.rest c.loop-pass.invariant.chain;
      named =
          one_named c.loop-pass.passes c.loop-pass.pass-index c.pass-item.result c.apply.new.self g.P.Pass.label c.apply.ensures.named
          ∙ c.loop-pass.invariant.named;
      counted =
          one_counted c.loop-pass.passes c.loop-pass.pass-index c.pass-item.result c.apply.new.self g.P.Pass.changed there
          (map g.P.Pass.changed c.args.passes.now) c.apply.ensures.counted c.loop-pass.invariant.counted;
      no_fall =
          one_counted c.loop-pass.passes c.loop-pass.pass-index c.pass-item.result c.apply.new.self g.P.Pass.runs there
          (map g.P.Pass.runs c.args.passes.now) c.apply.ensures.no_fall c.loop-pass.invariant.no_fall;
      ran =
          one_ran c.loop-pass.passes c.loop-pass.pass-index c.pass-item.result c.apply.new.self g.P.Pass.runs there
          (map g.P.Pass.runs c.args.passes.now) long c.in_ok-apply.ensures.ran c.loop-pass.invariant.no_fall c.loop-pass.invariant.ran;
    }
