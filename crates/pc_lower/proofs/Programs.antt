-- A flow that implements a program: it passes the nodes of the trace, and its run and the source's agree.
use Rattle.std.proofs.Common.{◌≡◌, ℕ, suc, ◌+◌, ◌<◌, ◌≤◌, ◌⊎◌, inl, inr, List, [], ◌∷◌, ◌++◌, length, Option, Some, None, refl, sym, ◌∙◌, ap, subst, append-nil, append_assoc, arith}
use Rattle.std.specs.Prelude.{ℤ, slice_get}
use Rattle.pc_word.specs.declared.item.End.{End}
use Rattle.pc_word.specs.declared.item.End.TheVariants.{Ended}
use Rattle.pc_word.specs.Data.{first_cells}
use Rattle.pc_word.specs.Run.{Seen, Run, Agree, Answers, Step, Goes, Stops, after_printing, seen_of, run_from, At, reach, reached_of, reached_after}
use Rattle.pc_word.proofs.Runs.{Answers-equal, run_from-answers, run_from-ended, run_from-at}
use Rattle.pc_syntax.specs.Source.{ResolvedProgram}
use Rattle.pc_meaning.specs.ProgramState.{ProgramState, source_start}
use Rattle.pc_word.proofs.Truth.{decide_le}
use Rattle.pc_meaning.proofs.SourceRuns.{source_run-faultless}
use Rattle.pc_meaning.specs.Statement.{Completion, GoesOn, Breaks, Continues, Returns, Traps, Spent, execute_list}
use Rattle.pc_meaning.specs.SourceRun.{shown, outcome_of, source_run}
use Rattle.pc_meaning.specs.Trace.{Kind, list_trace, trace_of}
use Rattle.pc_flow.specs.declared.node.FlowNode.{FlowNode}
use Rattle.pc_flow.specs.declared.node.FlowNode.TheVariants.{Stop}
use Rattle.pc_flow.specs.FlowGraph.{FlowGraph}
use Rattle.pc_flow.specs.FlowRun.{FlowState, run_node, node_step, flow_start, nodes_run, flow_run}
use Rattle.pc_lower.specs.Kinds.{kind_before, kinds_from}
use Rattle.pc_lower.specs.Lowers.{Lowers}
use Rattle.pc_lower.specs.Laws.{LoweredRunsAgree, LoweredRunsAreFaultless, LoweredRunsPassTheTrace, LoweredRunsKeepPace}
use Rattle.pc_lower.proofs.Walks.{Comes, Passed}
use Rattle.pc_lower.proofs.Statements.{Finished, Reaches, list-comes}
use Rattle.pc_lower.proofs.Payments.{dos_list, cost, cost-below, remaining, execute_list-paid}

-- ---- walks and runs

-- where a walk leads to
pub record Walked (nodes : List FlowNode) (lengths : List ℕ) (ks : List Kind) (out : List ℤ) (f : FlowState) (P : List ℤ → FlowState → Type 0) : Type 0 where
  pub more : List ℤ
  pub there : FlowState
  pub reached : reach (node_step nodes lengths) (length ks) f ≡ At more there
  pub kinds : kinds_from nodes lengths (length ks) f ≡ ks
  pub reason : P (out ++ more) there

-- the same, of one step and a walk after it
record WalkedOn (nodes : List FlowNode) (lengths : List ℕ) (k : Kind) (ks : List Kind) (out : List ℤ) (x : Step FlowState) (P : List ℤ → FlowState → Type 0) : Type 0 where
  more : List ℤ
  there : FlowState
  reached : reached_of x (reach (node_step nodes lengths) (length ks)) ≡ At more there
  kinds : kind_before (Some k) x (kinds_from nodes lengths (length ks)) ≡ k ∷ ks
  reason : P (out ++ more) there

-- a step, and a walk
walked_on : (nodes : List FlowNode) (lengths : List ℕ) (k : Kind) (ks : List Kind) (out : List ℤ) (x : Step FlowState) (P : List ℤ → FlowState → Type 0)
    → ((o : List ℤ) (g : FlowState) → Comes nodes lengths ks o g P → Walked nodes lengths ks o g P)
    → Passed x (λ o g. Comes nodes lengths ks (out ++ o) g P) → WalkedOn nodes lengths k ks out x P
walked_on nodes lengths k ks out (Goes o g) P h p =
    let w = h (out ++ o) g p in
    record {
      more = o ++ w.more;
      there = w.there;
      reached = ap (reached_after o) w.reached;
      kinds = ap (λ (l : List Kind). k ∷ l) w.kinds;
      reason = subst (λ (l : List ℤ). P l w.there) (append_assoc out o w.more) w.reason;
    }
walked_on nodes lengths k ks out (Stops o end) P h p = absurd p

-- a walk of a run
pub Comes-walked : (nodes : List FlowNode) (lengths : List ℕ) (ks : List Kind) (out : List ℤ) (f : FlowState) (P : List ℤ → FlowState → Type 0)
    → Comes nodes lengths ks out f P → Walked nodes lengths ks out f P
Comes-walked nodes lengths [] out f P p =
    record { more = []; there = f; reached = refl; kinds = refl; reason = subst (λ (l : List ℤ). P l f) (sym (append-nil out)) p }
Comes-walked nodes lengths (k ∷ ks) out f P p =
    let w = walked_on nodes lengths k ks out (node_step nodes lengths f) P (λ o g. Comes-walked nodes lengths ks o g P) p.1 in
    record {
      more = w.more;
      there = w.there;
      reached = w.reached;
      kinds = ap (λ (kind : Option Kind). kind_before kind (node_step nodes lengths f) (kinds_from nodes lengths (length ks))) p.0 ∙ w.kinds;
      reason = w.reason;
    }

-- ---- programs

-- a flow that implements a program follows it from the start
program-comes : (flow : FlowGraph) (program : ResolvedProgram) → flow.arrays ≡ program.arrays → flow.initial ≡ program.initial → (lowers : Lowers flow program.body) (input : List ℤ) (n : ℕ)
    → Comes flow.nodes program.arrays (trace_of program input n) [] (flow_start flow.entry flow.initial input)
    (Finished flow.nodes lowers.last lowers.last lowers.last (outcome_of program input n))
unfolding outcome_of trace_of
program-comes flow program same same_data lowers input n =
    let last = lowers.last in
    let start = source_start program.initial input n in
    let here = flow_start flow.entry flow.initial input in
    subst (λ (arrays : List ℕ). Comes flow.nodes arrays (list_trace arrays program.body start) [] here
    (Finished flow.nodes last last last (execute_list arrays program.body start))) same
    (list-comes flow last lowers.stops.there program.body None 0 lowers.first last last last flow.entry last lowers.body start [] here refl
    (record { scalars = λ x h. refl; cells = λ a i. ap (λ (initial : List (List ℤ)). first_cells initial a i) same_data; input = refl; printed = refl }))

-- the nodes that it passes first are those of the trace
pub lowered_runs_pass_the_trace : LoweredRunsPassTheTrace
lowered_runs_pass_the_trace flow program same same_data lowers input n =
    let walked = Comes-walked flow.nodes program.arrays (trace_of program input n) [] (flow_start flow.entry flow.initial input)
    (Finished flow.nodes lowers.last lowers.last lowers.last (outcome_of program input n)) (program-comes flow program same same_data lowers input n) in
    subst (λ (arrays : List ℕ). kinds_from flow.nodes arrays (length (trace_of program input n)) (flow_start flow.entry flow.initial input) ≡ trace_of program input n)
    (sym same) walked.kinds

-- where a flow that has followed a program is: at the end or a trap, or on its way
Closed : List FlowNode → List ℕ → Seen → Option End → List ℤ → FlowState → Type 0
Closed nodes lengths seen (Some e) out g = (seen.printed ≡ out) × (node_step nodes lengths g ≡ Stops [] e)
Closed nodes lengths seen None out g = seen.printed ≡ out

-- at the last node
last-closed : (nodes : List FlowNode) (lengths : List ℕ) (last : ℕ) → slice_get nodes last ≡ Some Stop → (s : ProgramState) (out : List ℤ) (g : FlowState) → Reaches last s out g
    → (s.printed ≡ out) × (node_step nodes lengths g ≡ Stops [] Ended)
last-closed nodes lengths last stops s out g r =
    (r.stands.printed, ap (run_node lengths g.state) (ap (slice_get nodes) r.at ∙ stops))

-- every outcome
finished-closed : (nodes : List FlowNode) (lengths : List ℕ) (last : ℕ) → slice_get nodes last ≡ Some Stop → (x : Completion) (out : List ℤ) (g : FlowState)
    → Finished nodes last last last x out g → Closed nodes lengths (shown x) (shown x).end out g
unfolding Closed
finished-closed nodes lengths last stops (GoesOn s) out g p = last-closed nodes lengths last stops s out g p
finished-closed nodes lengths last stops (Breaks s) out g p = last-closed nodes lengths last stops s out g p
finished-closed nodes lengths last stops (Continues s) out g p = last-closed nodes lengths last stops s out g p
finished-closed nodes lengths last stops (Returns s) out g p = (p.1, ap (run_node lengths g.state) p.0)
finished-closed nodes lengths last stops (Traps kind line s) out g p = (p.1, ap (run_node lengths g.state) p.0)
finished-closed nodes lengths last stops (Spent s) out g p = p

-- the flow shows the same after some units: as many as the trace has nodes, and one more where it has ended
record Matches (X : Run) (seen : Seen) (nodes_passed : ℕ) : Type 0 where
  units : ℕ
  same : seen ≡ X units
  enough : nodes_passed ≤ units
  limited : units ≤ suc nodes_passed

-- what is seen is equal where its parts are
seen_equal : (x : Seen) (l : List ℤ) (e : Option End) → x.printed ≡ l → x.end ≡ e → x ≡ record { printed = l; end = e }
seen_equal x l e p q = ap (λ (l : List ℤ). let seen : Seen = record { printed = l; end = x.end } in seen) p ∙ ap (λ (e : Option End). let seen : Seen = record { printed = l; end = e } in seen) q

-- a run whose walk has come to its end, or on its way
closed-matches : (nodes : List FlowNode) (lengths : List ℕ) (n : ℕ) (f g : FlowState) (out : List ℤ) (seen : Seen) (e : Option End) → seen.end ≡ e
    → reach (node_step nodes lengths) n f ≡ At out g → Closed nodes lengths seen e out g → Matches (λ m. run_from (node_step nodes lengths) m f) seen n
unfolding Closed
closed-matches nodes lengths n f g out seen (Some e) h r c = record {
  units = n + 1;
  same = seen_equal seen (out ++ []) (Some e) (c.0 ∙ sym (append-nil out)) h
      ∙ sym (run_from-at (node_step nodes lengths) n 1 f g out r ∙ ap (λ (x : Step FlowState). after_printing out (seen_of x (run_from (node_step nodes lengths) 0))) c.1);
  enough = omega arith;
  limited = omega arith;
}
closed-matches nodes lengths n f g out seen None h r c = record {
  units = n + 0;
  same = seen_equal seen (out ++ []) None (c ∙ sym (append-nil out)) h ∙ sym (run_from-at (node_step nodes lengths) n 0 f g out r);
  enough = omega arith;
  limited = omega arith;
}

-- the source, for any number of turns
source-matches : (flow : FlowGraph) (program : ResolvedProgram) → flow.arrays ≡ program.arrays → flow.initial ≡ program.initial → Lowers flow program.body → (input : List ℤ) (n : ℕ)
    → Matches (nodes_run flow.nodes program.arrays flow.initial flow.entry input) (source_run program input n) (length (trace_of program input n))
unfolding source_run
source-matches flow program same same_data lowers input n =
    let x = outcome_of program input n in
    let here = flow_start flow.entry flow.initial input in
    let w = Comes-walked flow.nodes program.arrays (trace_of program input n) [] here (Finished flow.nodes lowers.last lowers.last lowers.last x)
    (program-comes flow program same same_data lowers input n) in
    closed-matches flow.nodes program.arrays (length (trace_of program input n)) here w.there w.more (shown x) (shown x).end refl w.reached
    (finished-closed flow.nodes program.arrays lowers.last lowers.stops.there x w.more w.there w.reason)

-- so it keeps pace with the trace
pub lowered_runs_keep_pace : LoweredRunsKeepPace
lowered_runs_keep_pace flow program same same_data lowers input n =
    let start = flow_start flow.entry flow.initial input in
    let most = suc (length (trace_of program input n)) in
    let step = node_step flow.nodes program.arrays in
    let here = source-matches flow program same same_data lowers input n in
    let paced = subst (λ (x : Seen). Answers x (run_from step most start) x.end) (sym here.same) (run_from-answers step here.units most start here.limited) in
    subst (λ (arrays : List ℕ). Answers (source_run program input n) (nodes_run flow.nodes arrays flow.initial flow.entry input most) (source_run program input n).end) (sym same) paced

-- ---- enough turns

-- a program that has not ended has spent its turns
spent : (x : Completion) → (shown x).end ≡ None → remaining x ≡ 0
spent (GoesOn s) e = cc
spent (Breaks s) e = cc
spent (Continues s) e = cc
spent (Returns s) e = cc
spent (Traps kind line s) e = cc
spent (Spent s) e = refl

-- one number is at least another, where it is not below it
at_least : (k m : ℕ) → (k < m → ⊥) → m ≤ k
at_least k m h = grind (arith, h)

-- with turns that m nodes pay for, a program that has not ended passes at least m
enough_turns : (program : ResolvedProgram) (input : List ℤ) (m : ℕ)
    → (source_run program input (cost (dos_list program.body) m)).end ≡ None → m ≤ length (trace_of program input (cost (dos_list program.body) m))
unfolding source_run outcome_of trace_of
enough_turns program input m e =
    let w = dos_list program.body in
    let n = cost w m in
    let k = length (list_trace program.arrays program.body (source_start program.initial input n)) in
    let paid = execute_list-paid program.arrays w program.body (omega arith) (source_start program.initial input n) in
    let none = spent (execute_list program.arrays program.body (source_start program.initial input n)) e in
    let below = cost-below w k m in
    at_least k m (λ less. let b = below less in omega (arith, b, paid, none))

-- ---- both directions

-- what the flow shows after m units, before or after the source's end
met : (step : FlowState → Step FlowState) (f : FlowState) (seen : Seen) (m units : ℕ) (e : End) → seen ≡ run_from step units f → seen.end ≡ Some e → (m ≤ units) ⊎ (units < m)
    → Answers (run_from step m f) seen (run_from step m f).end
met step f seen m units e same h (inl le) =
    subst (λ (x : Seen). Answers (run_from step m f) x (run_from step m f).end) (sym same) (run_from-answers step m units f le)
met step f seen m units e same h (inr less) =
    Answers-equal (run_from step m f) seen (run_from-ended step f units m e (omega (arith, less)) (ap (λ (x : Seen). x.end) (sym same) ∙ h) ∙ sym same)

-- what the flow shows after m units, the source shows with turns enough for m nodes
answered : (step : FlowState → Step FlowState) (f : FlowState) (seen : Seen) (passed m : ℕ) → Matches (λ n. run_from step n f) seen passed → (seen.end ≡ None → m ≤ passed)
    → (e : Option End) → seen.end ≡ e → Answers (run_from step m f) seen (run_from step m f).end
answered step f seen passed m here enough None h =
    let late = enough h in
    let units = here.units in
    let more = here.enough in
    subst (λ (x : Seen). Answers (run_from step m f) x (run_from step m f).end) (sym here.same) (run_from-answers step m units f (omega (arith, late, more)))
answered step f seen passed m here enough (Some e) h = met step f seen m here.units e here.same h (decide_le m here.units)

-- the flow and the source agree
pub agree_on : (flow : FlowGraph) (program : ResolvedProgram) → flow.arrays ≡ program.arrays → flow.initial ≡ program.initial → Lowers flow program.body
    → (input : List ℤ) → Agree (flow_run flow input) (source_run program input)
agree_on flow program same same_data lowers input =
    let start = flow_start flow.entry flow.initial input in
    subst (λ (arrays : List ℕ). Agree (nodes_run flow.nodes arrays flow.initial flow.entry input) (source_run program input)) (sym same) (record {
      forth = λ m.
          let n = cost (dos_list program.body) m in
          let seen = source_run program input n in (
            n,
            answered (node_step flow.nodes program.arrays) start seen (length (trace_of program input n)) m (source-matches flow program same same_data lowers input n)
                (enough_turns program input m) seen.end refl,
          );
      back = λ n.
          let here = source-matches flow program same same_data lowers input n in
          (here.units, Answers-equal (source_run program input n) (nodes_run flow.nodes program.arrays flow.initial flow.entry input here.units) here.same);
    })

-- on every input of words
pub lowered_runs_agree : LoweredRunsAgree
lowered_runs_agree flow program same same_data lowers input words = agree_on flow program same same_data lowers input

-- and so the flow comes to no fault
pub lowered_runs_are_faultless : LoweredRunsAreFaultless
lowered_runs_are_faultless flow program same same_data lowers input m fault h =
    let met = (agree_on flow program same same_data lowers input).forth m in
    let answer = subst (λ (e : Option End). Answers (flow_run flow input m) (source_run program input met.0) e) h met.1 in
    source_run-faultless program input met.0 fault answer.1
