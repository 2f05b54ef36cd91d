-- Iterations are counted from the least tag of the window, so none is cut off.
use Rattle.std.proofs.Common.{ℕ, suc, ◌+◌, ◌≤◌, List, [], ◌∷◌, Option, Some, None, arith}
use Rattle.std.specs.List.{AllByRecursion}
use Rattle.pc_word.proofs.Lists.{all_at, all_both}
use Rattle.pc_window.specs.Tree.{Tree, Pending, Undecided, Exit, Stop_exit, Trap_exit, Front, Issued, Split, Unfinished, whole, tree_size}
use Rattle.pc_window.specs.Unwinding.{lesser_tag, least_tag, or_zero, front_tag}
use Rattle.pc_waiting.specs.declared.path.Kind.TheVariants as kind
use Rattle.pc_waiting.specs.declared.path.Above.{Above}
use Rattle.pc_waiting.specs.Waiting.{standing_in, standing_behind, standing_of}
use Rattle.pc_waiting.specs.Laws.{IsFrom, NoIterationIsCutOff}

-- a tag is no less than a number, where there is one
abbrev AtLeast : ℕ → Option ℕ → Type 0
AtLeast n None = Unit {0}
AtLeast n (Some tag) = n ≤ tag

both_at_least : (n : ℕ) (a b : Option ℕ) → AtLeast n (lesser_tag a b) → AtLeast n a × AtLeast n b
both_at_least n None b h = (tt, h)
both_at_least n (Some a) None h = (h, tt)
both_at_least n (Some a) (Some b) h = (omega (arith, h), omega (arith, h))

zero_at_least : (a : Option ℕ) → AtLeast (or_zero a) a
zero_at_least None = tt
zero_at_least (Some a) = omega arith

module _ (first : ℕ) where
  abbrev AllFrom : List Above → Type 0
  AllFrom above = AllByRecursion (λ last. first ≤ last.tag) above

  all_in : (tree : Tree) (above : List Above) (place : ℕ) → AtLeast first (least_tag tree) → AllFrom above
      → AllByRecursion (IsFrom first) (standing_in above place tree)
  all_in (Pending tag origin item rest) above place h from =
      let parts = both_at_least first (Some tag) (least_tag rest) h in
      (record { own = parts.0; all_above = from }, all_in rest (record { tag = tag; origin = origin; kind = kind.Pending item } ∷ above) (suc place) parts.1 (parts.0, from))
  all_in (Undecided tag origin on p q) above place h from =
      let parts = both_at_least first (Some tag) (lesser_tag (least_tag p) (least_tag q)) h in
      let sides = both_at_least first (least_tag p) (least_tag q) parts.1 in
      let last : Above = record { tag = tag; origin = origin; kind = kind.Undecided } in (
        record { own = parts.0; all_above = from },
        all_both (IsFrom first) (standing_in (last ∷ above) (suc place) p) (standing_in (last ∷ above) (suc (place + tree_size p)) q)
            (all_in p (last ∷ above) (suc place) sides.0 (parts.0, from)) (all_in q (last ∷ above) (suc (place + tree_size p)) sides.1 (parts.0, from)),
      )
  all_in (Exit region tag homes) above place h from = tt
  all_in Stop_exit above place h from = tt
  all_in (Trap_exit what line) above place h from = tt

  all_behind : (front : Front) (above : List Above) (place : ℕ) → AtLeast first (least_tag (whole front)) → AllFrom above
      → AllByRecursion (IsFrom first) (standing_behind above place front)
  all_behind (Issued tag origin item rest) above place h from =
      let parts = both_at_least first (Some tag) (least_tag (whole rest)) h in
      all_behind rest (record { tag = tag; origin = origin; kind = kind.Issued item } ∷ above) (suc place) parts.1 (parts.0, from)
  all_behind (Split tag origin on p q) above place h from =
      let parts = both_at_least first (Some tag) (lesser_tag (least_tag (whole p)) (least_tag (whole q))) h in
      let sides = both_at_least first (least_tag (whole p)) (least_tag (whole q)) parts.1 in
      all_both (IsFrom first) (standing_behind above (suc place) p) (standing_behind above (suc (place + tree_size (whole p))) q)
      (all_behind p above (suc place) sides.0 from) (all_behind q above (suc (place + tree_size (whole p))) sides.1 from)
  all_behind (Unfinished rest) above place h from = all_in rest above place h from

pub no_iteration_is_cut_off : NoIterationIsCutOff
no_iteration_is_cut_off w n it there =
    let first = front_tag (whole w.front) in
    all_at (IsFrom first) (standing_of w.front) n it (all_behind first w.front [] 0 (zero_at_least (least_tag (whole w.front))) tt) there
