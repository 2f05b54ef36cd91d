-- What lowering an expression owes and gives.
use Rattle.std.specs.Prelude.{◌≡◌, ℕ, ◌+◌, ◌≤◌, true, List, length, Option, slice_index}
use Rattle.pc_word.specs.SourceLimits.{most_scalars, most_temporaries}
use Rattle.pc_word.specs.MachineLimits.{most_arrays, most_length}
use Rattle.pc_word.specs.declared.item.Operand.{Operand}
use Rattle.pc_word.specs.declared.item.TrapKind.{TrapKind}
use Rattle.pc_syntax.specs.Source.{SourceExpression}
use Rattle.pc_check.specs.Needs.{need}
use Rattle.pc_check.specs.Sizes.{expression_size}
use Rattle.pc_check.specs.Sound.{has_slots}
use Rattle.pc_flow.specs.FlowGraph.{FlowGraph}
use Rattle.pc_lower.specs.Lowers.{Tests, Trapping, Gives}
use Rattle.pc_lower.specs.models.Drafts.{Draft, IsPlaced}
use Rattle.pc_lower.specs.models.Fills.{Lays, HasRoom}

-- the lengths of arrays that a machine may have
pub record AreLengths (arrays : List ℕ) : Type 0 where
  pub few : length arrays ≤ most_arrays
  pub short : (array : ℕ) → slice_index arrays array ≤ most_length

-- so many nodes may be placed before a number, for arrays that a machine may have, and lead on to a node that was placed
pub record IsReady (draft : Draft) (size to following : ℕ) (inside : Option ℕ) : Type 0 where
  pub arrays : AreLengths draft.graph.arrays
  pub room : HasRoom draft size to inside
  pub leads : IsPlaced draft.graph following

-- an expression's names are there, and temporaries enough, from one on
pub record IsHeld (arrays : List ℕ) (e : SourceExpression) (t : ℕ) : Type 0 where
  pub slots : has_slots most_scalars (length arrays) e ≡ true
  pub temporaries : t + need e ≤ most_temporaries

-- An expression may be lowered before a number, with temporaries from t on: its names are there, there are temporaries
-- and numbers enough, and where it has no node what follows it stands at that number.
pub record MayLower (draft : Draft) (e : SourceExpression) (t to following : ℕ) (inside : Option ℕ) : Type 0 where
  pub arrays : AreLengths draft.graph.arrays
  pub slots : has_slots most_scalars (length draft.graph.arrays) e ≡ true
  pub temporaries : t + need e ≤ most_temporaries
  pub room : HasRoom draft (expression_size e) to inside
  pub leads : IsPlaced draft.graph following
  pub contiguous : expression_size e ≡ 0 → following ≡ to

-- the nodes from a start to a number were placed; they implement the expression and lead on to what follows
abbrev pub LaysExpression : SourceExpression → (t start to following : ℕ) → (inside : Option ℕ) → (old new : Draft) → Type 0
LaysExpression e t start to following inside old new =
    Lays old new (expression_size e) start to (λ flow. Gives flow inside e t start following)

-- from p a test leads to q where a value is not 0, and else to a trap
abbrev pub Guards : FlowGraph → (inside : Option ℕ) → Operand → TrapKind → (line p q : ℕ) → Type 0
Guards flow inside on kind line p q = (z : ℕ) × Tests flow inside p on q z × Trapping flow inside z kind line
