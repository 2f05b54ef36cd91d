-- Iterations are counted from the least tag of the window, so no number is cut off.
use Rattle.std.proofs.Common.{◌≡◌, ℕ, ◌+◌, ◌-◌, ◌≤◌, refl, arith}
use Rattle.std.specs.Prelude.{Bool, true, false, if◌then◌else◌, IfSome, min, Option, Some, None}
use Rattle.pc_table.specs.Table.{Table}
use Rattle.pc_table.specs.Loops.{is_inside}
use Rattle.pc_window.specs.Tree.{Tree, Pending, Undecided, Exit, Stop_exit, Trap_exit, Front, Issued, Split, Unfinished, whole}
use Rattle.pc_window.specs.Unwinding.{lesser_tag, least_tag, or_zero, front_tag}
use Rattle.pc_window.specs.WindowRun.{Window}
use Rattle.pc_told.specs.Tellings.{advance_behind, advance_at_root, telling_behind, front_telling, first_iteration}
use Rattle.pc_told.specs.Laws.{CountsFrom, IterationsCount}

-- ---- the least tag

-- a tag is no less than a number, where there is one
abbrev AtLeast : ℕ → Option ℕ → Type 0
AtLeast n None = Unit {0}
AtLeast n (Some tag) = n ≤ tag

both_at_least : (n : ℕ) (a b : Option ℕ) → AtLeast n (lesser_tag a b) → AtLeast n a × AtLeast n b
both_at_least n None b h = (tt, h)
both_at_least n (Some a) None h = (h, tt)
both_at_least n (Some a) (Some b) h = (omega (arith, h), omega (arith, h))

zero_at_least : (a : Option ℕ) → AtLeast (or_zero a) a
zero_at_least None = tt
zero_at_least (Some a) = omega arith

-- a tree with a tag has its least one
some_at_least : (n tag : ℕ) (a : Option ℕ) → AtLeast n (lesser_tag (Some tag) a) → n ≤ or_zero (lesser_tag (Some tag) a)
some_at_least n tag None h = h
some_at_least n tag (Some a) h = h

-- ---- fronts

-- a number that is no less is so much greater
more : (first n : ℕ) → first ≤ n → n ≡ first + (n - first)
more first n h = omega (arith, h)

module _ (table : Table) (loop : Option ℕ) (first : ℕ) where
  leaf_counts : (rest : Tree) → AtLeast first (least_tag rest) → IfSome (advance_behind table loop first rest) (λ advance. front_tag rest ≡ first + advance)
  leaf_counts (Pending tag origin item rest) h = more first (front_tag (Pending tag origin item rest)) (some_at_least first tag (least_tag rest) h)
  leaf_counts (Undecided tag origin on on_yes on_no) h =
      more first (front_tag (Undecided tag origin on on_yes on_no)) (some_at_least first tag (lesser_tag (least_tag on_yes) (least_tag on_no)) h)
  leaf_counts (Exit region tag homes) h = by (is_inside table loop region)
    where
      by : (b : Bool) → IfSome (if b then Some (tag - first) else None) (λ advance. tag ≡ first + advance)
      by true = more first tag h
      by false = tt
  leaf_counts Stop_exit h = tt
  leaf_counts (Trap_exit kind line) h = tt

  root_counts : (rest : Tree) → AtLeast first (least_tag rest) → IfSome (advance_at_root table loop first rest) (λ advance. front_tag rest ≡ first + advance)
  root_counts (Pending tag origin item rest) h = leaf_counts (Pending tag origin item rest) h
  root_counts (Undecided tag origin on on_yes on_no) h = leaf_counts (Undecided tag origin on on_yes on_no) h
  root_counts (Exit region tag homes) h = tt
  root_counts Stop_exit h = tt
  root_counts (Trap_exit kind line) h = tt

  front_counts : (front : Front) → AtLeast first (least_tag (whole front)) → CountsFrom first front (telling_behind table loop first front)
  front_counts (Issued tag origin item rest) h =
      let parts = both_at_least first (Some tag) (least_tag (whole rest)) h in (more first tag parts.0, front_counts rest parts.1)
  front_counts (Split tag origin on on_yes on_no) h =
      let parts = both_at_least first (Some tag) (lesser_tag (least_tag (whole on_yes)) (least_tag (whole on_no))) h in
      let sides = both_at_least first (least_tag (whole on_yes)) (least_tag (whole on_no)) parts.1 in
      (more first tag parts.0, front_counts on_yes sides.0, front_counts on_no sides.1)
  front_counts (Unfinished rest) h = leaf_counts rest h

pub iterations_count : IterationsCount
iterations_count table w = by w.front (zero_at_least (least_tag (whole w.front)))
  where
    by : (front : Front) → AtLeast (first_iteration w) (least_tag (whole front)) → CountsFrom (first_iteration w) front (front_telling table w.inside (first_iteration w) front)
    by (Issued tag origin item rest) h = front_counts table w.inside (first_iteration w) (Issued tag origin item rest) h
    by (Split tag origin on on_yes on_no) h = front_counts table w.inside (first_iteration w) (Split tag origin on on_yes on_no) h
    by (Unfinished rest) h = root_counts table w.inside (first_iteration w) rest h
