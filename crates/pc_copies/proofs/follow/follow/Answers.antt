use Rattle.std.proofs.Common.{ap, arith, length, length-append, []}
use Rattle.std.specs.Prelude.{List, ◌∷◌}
use Rattle.pc_copies.specs.declared.moves.Move.{Move}
use Rattle.pc_copies.proofs.Follows.{one_less, follows_on, follows_to, following}
use Rattle.pc_copies.proofs.follow.follow.Goals as goal

pub loop-sources-init : goal.loop-sources-init
loop-sources-init c = record {
  so_far = rw c.new-path.ensures (following c.args.sources.now c.args.first c.requires.table c.requires.first);
  counted = let none = ap (λ (l : List Move). length l) c.new-path.ensures in omega (arith, none);
}

pub loop-sources-preserved : goal.loop-sources-preserved
loop-sources-preserved c =
    let old = c.loop-sources.invariant in
    let less = one_less c.loop-sources.sources c.loop-sources.at c.in-Some.from c.in-Some.is in
    let long = ap (λ (l : List Move). length l) c.in_ok-push.ensures.ok in
    let move : Move = record { dest = c.loop-sources.at; from = c.in-Some.from } in
    record {
      so_far = rw c.in_ok-push.ensures.ok
          (follows_on c.args.sources.now c.loop-sources.sources c.args.first c.loop-sources.path c.loop-sources.at c.in-Some.from old.so_far c.in-Some.is c.in-Name.register c.in-Name.is);
      counted = omega (arith, less, long, old.counted, length-append c.loop-sources.path (move ∷ []));
    }

pub returns-in-Lit-clause-followed : goal.returns-in-Lit-clause-followed
returns-in-Lit-clause-followed c =
    rw c.in_ok-push.ensures.ok
    (follows_to c.args.sources.now c.loop-sources.sources c.args.first c.loop-sources.path c.loop-sources.at c.in-Some.from c.loop-sources.invariant.so_far c.in-Some.is
    c.in-Lit.field-0 c.in-Lit.is)

pub returns-in-Lit-clause-counted : goal.returns-in-Lit-clause-counted
returns-in-Lit-clause-counted c =
    let less = one_less c.loop-sources.sources c.loop-sources.at c.in-Some.from c.in-Some.is in
    let long = ap (λ (l : List Move). length l) c.in_ok-push.ensures.ok in
    let move : Move = record { dest = c.loop-sources.at; from = c.in-Some.from } in
    omega (arith, less, long, c.loop-sources.invariant.counted, length-append c.loop-sources.path (move ∷ []))
