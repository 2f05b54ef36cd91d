-- What passes keep, what they do one after another, and their counts.
use Rattle.std.specs.Prelude.{◌≡◌, ℕ, ◌+◌, ◌<◌, ◌≤◌, ℤ, List, [], ◌∷◌, All, length, slice_index, take, drop}
use Rattle.pc_word.specs.Count.{Rose}
use Rattle.pc_word.specs.Run.{Answers, AgreeOnInputs}
use Rattle.pc_word.specs.Word.{IsWord}
use Rattle.pc_flow.specs.FlowGraph.{FlowGraph}
use Rattle.pc_flow.specs.FlowRun.{flow_run}

-- The new graph shows what the old one shows, on every input of words and in both directions, and is no slower: on each such input,
-- after as many nodes, it has shown at least what the old one has. It has as many nodes, the same loops, each node in the same
-- one, and the same arrays, which begin with the same words.
pub record Keeps (old new : FlowGraph) : Type 0 where
  pub agrees : AgreeOnInputs (flow_run new) (flow_run old)
  pub pace : (input : List ℤ) → All IsWord input → (n : ℕ) → Answers (flow_run old input n) (flow_run new input n) (flow_run old input n).end
  pub as_many : length new.nodes ≡ length old.nodes
  pub same_loops : new.loops ≡ old.loops
  pub same_inside : new.inside ≡ old.inside
  pub same_arrays : new.arrays ≡ old.arrays
  pub same_initial : new.initial ≡ old.initial

-- Each pass of a list is applied once, in order: the first to the first graph, and each other to the graph that the one before it
-- left; the last graph is the one that the last pass left. `does` is what a pass does, between two graphs and from its count of
-- changes before to that after; `before` and `after` are the passes before they are applied and after that.
pub data Chain {P : Type 0} (does : P → FlowGraph → FlowGraph → ℕ → ℕ → Type 0) (changed : P → ℕ) : (before after : List P) → (first last : FlowGraph) → Type 0 where
  No_pass : {flow : FlowGraph} →
      Chain does changed [] [] flow flow
  One_pass : {pass passed : P} {before after : List P} {first mid last : FlowGraph} →
      does pass first mid (changed pass) (changed passed) →
      Chain does changed before after mid last →
      Chain does changed (pass ∷ before) (passed ∷ after) first last

-- some of the first passes of a list, but not all, were applied so, and the graph is as they left it; those after the one that failed
-- are as before
pub record BrokenChain {P : Type 0} (does : P → FlowGraph → FlowGraph → ℕ → ℕ → Type 0) (changed : P → ℕ) (before after : List P) (first last : FlowGraph) : Type 0 where
  pub many : ℕ
  pub not_all : many < length before
  pub chain : Chain does changed (take many before) (take many after) first last
  pub rest : drop (many + 1) after ≡ drop (many + 1) before

-- each of a list of counts rose, or stands at the end of u64
abbrev pub EachRose : List ℕ → List ℕ → Type 0
EachRose before now = (at : ℕ) → at < length before → Rose (slice_index before at) (slice_index now at)

-- none of a list of counts fell
abbrev pub NoneFell : List ℕ → List ℕ → Type 0
NoneFell before now = (at : ℕ) → at < length before → slice_index before at ≤ slice_index now at
