use Rattle.std.proofs.Common.{eqb, ◌≡◌, ℕ, ◌<◌, length, inl, inr, Option, Some, None, sym, ◌∙◌, ap, subst, arith}
use Rattle.std.specs.Prelude.{false, IfSome}
use Rattle.std.specs.Option.{option_eq}
use Rattle.std.proofs.lemmas.Bool.Decides.{nat_tests}
use Rattle.pc_regions.specs.models.Entering.{depth_bound, InLoop, header_at}
use Rattle.pc_regions.proofs.LoopsEntered.{round_there, round_lower, out_round}
use Rattle.pc_regions.proofs.heads.headed_loop.Goals as goal

pub loop-inner-smaller : goal.loop-inner-smaller
loop-inner-smaller c =
    let less = round_lower c.args.flow.now.loops c.requires.kept.outer_first c.args.at c.in-Some.number c.outer_loop-inner.result c.outer_loop-inner.ensures in
    let inner = ap depth_bound c.in-Some.is in
    omega (arith, less, inner)

-- a header that the test refused is not that node
not_that : (header : Option ℕ) (at : ℕ) → option_eq eqb header (Some at) ≡ false → header ≡ Some at → ⊥
not_that None at test e = cc
not_that (Some x) at test e = let same : x ≡ at = (cc) in grind (arith, nat_tests)

pub loop-inner-preserved : goal.loop-inner-preserved
loop-inner-preserved c =
    let loops = c.args.flow.now.loops in
    let there = subst (λ (o : Option ℕ). IfSome o (λ loop. loop < length loops)) c.in-Some.is c.loop-inner.invariant.inner_there in
    record {
      kept = c.requires.kept;
      inner_there = round_there loops c.requires.kept.outer_first c.args.at c.in-Some.number c.outer_loop-inner.result c.outer_loop-inner.ensures there;
      round = λ loop belongs e.
          let within = subst (λ (o : Option ℕ). InLoop loops o loop) c.in-Some.is (c.loop-inner.invariant.round loop belongs e) in
          elim (out_round loops c.in-Some.number loop c.outer_loop-inner.result c.outer_loop-inner.ensures within) [
            | inl same ↦
                absurd (not_that (header_at c.args.headers.now c.in-Some.number) c.args.at (sym c.eq.ensures ∙ c.if-eq.false)
                (ap (λ (n : ℕ). header_at c.args.headers.now n) same ∙ e))
            | inr around ↦ around
          ];
    }
