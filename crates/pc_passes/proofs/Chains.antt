-- What the passes make of a graph.
use Rattle.std.proofs.Common.{◌≡◌, ℕ, List, [], ◌∷◌, map, refl, subst}
use Rattle.std.specs.Prelude.{codes}
use Rattle.pc_flow.specs.FlowGraph.{FlowGraph}
use Rattle.pc_forward.specs.Forwarded.{Forwards}
use Rattle.pc_pass.specs.Pass.{Chain, No_pass, One_pass}
use Rattle.pc_ranges.specs.Ranged.{LeavesRanged}
use Rattle.pc_scalar.specs.Cleared.{WritesAreLive}
use Rattle.pc_scalar.specs.Copied.{NamesNoCopy}
use Rattle.pc_scalar.specs.Folded.{IsFolded}
use Rattle.pc_scalar.specs.Leaves.{Leaves}
use Rattle.pc_scalar.specs.Valued.{ComputesNoneAgain}
use Rattle.pc_passes.specs.Passes.{Doing, IsFresh, First, NoMore, AreThePasses, Then, Nothing_more, IsMadeByThePasses}

module _ {P : Type 0} (label : P → List ℕ) (changed : P → ℕ) (does : P → Doing) where
  -- what a list of passes makes
  abbrev Makes : (List P → Type 0) → (FlowGraph → FlowGraph → List ℕ → Type 0) → Type 0
  Makes Are Made = (before after : List P) (first last : FlowGraph) → Are before → Chain does changed before after first last → Made first last (map changed after)

  -- of one pass and those that follow
  first_made : (Does : Doing) (name : List ℕ) (Others : List P → Type 0) (Made : FlowGraph → FlowGraph → List ℕ → Type 0) → Makes Others Made → (pass : P) (others after : List P)
      (first last : FlowGraph) → IsFresh label changed does pass name Does → Others others → Chain does changed (pass ∷ others) after first last → Then Does Made first last (map changed after)
  first_made Does name Others Made rest pass others _ first last fresh follow (One_pass {passed = passed} {after = after} {mid = mid} one more) = record {
    mid = mid;
    count = changed passed;
    others = map changed after;
    are = refl;
    does = subst (λ (n : ℕ). Does first mid n (changed passed)) fresh.unused (fresh.does_so first mid (changed pass) (changed passed) one);
    follow = rest others after mid last follow more;
  }

  first_makes : (Does : Doing) (name : List ℕ) (Others : List P → Type 0) (Made : FlowGraph → FlowGraph → List ℕ → Type 0) → Makes Others Made
      → Makes (First label changed does name Does Others) (Then Does Made)
  first_makes Does name Others Made rest before after first last are chain =
      first_made Does name Others Made rest are.first are.others after first last are.fresh are.follow (subst (λ (l : List P). Chain does changed l after first last) are.are chain)

  -- of none
  none_made : (after : List P) (first last : FlowGraph) → Chain does changed [] after first last → Nothing_more first last (map changed after)
  none_made _ first _ No_pass = record { same = refl; none = refl }

  none_makes : Makes NoMore Nothing_more
  none_makes before after first last none chain = none_made after first last (subst (λ (l : List P). Chain does changed l after first last) none chain)

  -- of the passes
  pub the_passes_make : Makes (AreThePasses label changed does) IsMadeByThePasses
  the_passes_make =
      first_makes (Leaves IsFolded) (codes "fold") _ _
      (first_makes LeavesRanged (codes "ranges") _ _
      (first_makes (Leaves NamesNoCopy) (codes "copies") _ _
      (first_makes (Leaves ComputesNoneAgain) (codes "values") _ _
      (first_makes Forwards (codes "forward") _ _
      (first_makes (Leaves WritesAreLive) (codes "dead") _ _
      none_makes)))))

  -- such a list
  pub are_the_passes : (passes : List P) (fold ranges copies values forward dead : P) → passes ≡ fold ∷ ranges ∷ copies ∷ values ∷ forward ∷ dead ∷ []
      → IsFresh label changed does fold (codes "fold") (Leaves IsFolded)
      → IsFresh label changed does ranges (codes "ranges") LeavesRanged
      → IsFresh label changed does copies (codes "copies") (Leaves NamesNoCopy)
      → IsFresh label changed does values (codes "values") (Leaves ComputesNoneAgain)
      → IsFresh label changed does forward (codes "forward") Forwards
      → IsFresh label changed does dead (codes "dead") (Leaves WritesAreLive)
      → AreThePasses label changed does passes
  are_the_passes passes fold ranges copies values forward dead is one two three four five six = record {
    first = fold;
    others = _;
    are = is;
    fresh = one;
    follow = record {
      first = ranges;
      others = _;
      are = refl;
      fresh = two;
      follow = record {
        first = copies;
        others = _;
        are = refl;
        fresh = three;
        follow = record {
          first = values;
          others = _;
          are = refl;
          fresh = four;
          follow = record {
            first = forward;
            others = _;
            are = refl;
            fresh = five;
            follow = record { first = dead; others = []; are = refl; fresh = six; follow = refl };
          };
        };
      };
    };
  }
