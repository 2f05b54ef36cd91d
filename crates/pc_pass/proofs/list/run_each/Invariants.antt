use Rattle.std.proofs.Common.{◌≡◌, ℕ, ◌<◌, map, get_or, take, drop}
use Rattle.pc_pass.specs.Pass.{Keeps, Chain, NoneFell}
use Rattle.pc_word.specs.Count.{Rose}
use Rattle.pc_pass.proofs.list.run_each.Given as goal

-- the passes so far have come to their end, and those from here on stand as they did
abbrev pub invariant-loop-pass : goal.invariant-loop-pass
invariant-loop-pass g l = record {
  keeps : Keeps l.initial.flow l.flow;
  chain : Chain g.P.Pass.does g.P.Pass.changed (take l.pass-index l.initial.passes) (take l.pass-index l.passes) l.initial.flow l.flow;
  rest : drop l.pass-index l.passes ≡ drop l.pass-index l.initial.passes;
  named : map g.P.Pass.label l.passes ≡ map g.P.Pass.label l.initial.passes;
  counted : NoneFell (map g.P.Pass.changed l.initial.passes) (map g.P.Pass.changed l.passes);
  no_fall : NoneFell (map g.P.Pass.runs l.initial.passes) (map g.P.Pass.runs l.passes);
  ran : (at : ℕ) → at < l.pass-index → Rose (get_or (map g.P.Pass.runs l.initial.passes) at 0) (get_or (map g.P.Pass.runs l.passes) at 0);
}
