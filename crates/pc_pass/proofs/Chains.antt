-- Chains of passes, of which one more is applied.
use Rattle.std.proofs.Common.{◌≡◌, ℕ, ◌+◌, ◌<◌, ◌≤◌, List, [], ◌∷◌, ◌++◌, length, set, get_or, take, drop, sym, ◌∙◌, ap, subst, arith, take_all, drop-set-lt}
use Rattle.std.proofs.lemmas.List.{drop_more, take_more, take_more_set, take-set}
use Rattle.pc_flow.specs.FlowGraph.{FlowGraph}
use Rattle.pc_pass.specs.Pass.{Chain, No_pass, One_pass, BrokenChain}

module _ {P : Type 0} (does : P → FlowGraph → FlowGraph → ℕ → ℕ → Type 0) (changed : P → ℕ) where
  -- one pass more is applied at the end
  chain_more : (before after : List P) (first mid last : FlowGraph) (pass passed : P) → Chain does changed before after first mid
      → does pass mid last (changed pass) (changed passed) → Chain does changed (before ++ pass ∷ []) (after ++ passed ∷ []) first last
  chain_more _ _ _ mid last pass passed No_pass here = One_pass here No_pass
  chain_more _ _ _ mid last pass passed (One_pass {before = before} {after = after} {mid = second} that rest) here =
      One_pass that (chain_more before after second mid last pass passed rest here)

  -- all passes of two lists that are as long are all passes
  pub chain_all : (initial passes : List P) (i : ℕ) (first last : FlowGraph) → length passes ≤ i → length passes ≡ length initial
      → Chain does changed (take i initial) (take i passes) first last → Chain does changed initial passes first last
  chain_all initial passes i first last whole as_many chain =
      let also : length initial ≤ i = omega (arith, whole, as_many) in
      subst (λ (l : List P). Chain does changed l passes first last) (take_all i initial also)
      (subst (λ (l : List P). Chain does changed (take i initial) l first last) (take_all i passes whole) chain)

  -- where the passes up to a place were applied, and those from there on stand as they did
  module _ (initial passes : List P) (i : ℕ) (d passed : P) (first flow : FlowGraph) (there : i < length passes) (as_many : length passes ≡ length initial)
      (rest : drop i passes ≡ drop i initial) (chain : Chain does changed (take i initial) (take i passes) first flow) where
    split : get_or passes i d ∷ drop (i + 1) passes ≡ get_or initial i d ∷ drop (i + 1) initial
    split = sym (drop_more passes i d there) ∙ rest ∙ drop_more initial i d (omega (arith, there, as_many))

    -- the pass at the place is the one that was given
    given : get_or initial i d ≡ get_or passes i d
    given = sym (ap (λ (l : List P). get_or l 0 d) split)

    -- it is applied
    pub chain_next : (last : FlowGraph) → does (get_or passes i d) flow last (changed (get_or passes i d)) (changed passed)
        → Chain does changed (take (i + 1) initial) (take (i + 1) (set passes i passed)) first last
    chain_next last here =
        let all : i < length initial = omega (arith, there, as_many) in
        rw (take_more initial i d all, take_more_set passes i passed there, given)
        (chain_more (take i initial) (take i passes) first flow last (get_or passes i d) passed chain here)

    -- and those after it stand as they did
    pub rest_next : drop (i + 1) (set passes i passed) ≡ drop (i + 1) initial
    rest_next = drop-set-lt (i + 1) passes i passed (omega arith) ∙ ap (drop 1) split

    -- or it comes to no end
    pub chain_broken : (last : FlowGraph) → last ≡ flow → BrokenChain does changed initial (set passes i passed) first last
    chain_broken last same = record {
      many = i;
      not_all = omega (arith, there, as_many);
      chain = rw (take-set passes i passed, same) chain;
      rest = rest_next;
    }
