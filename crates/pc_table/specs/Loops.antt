-- Loops that regions head, and that they stand in.
use Rattle.std.specs.Prelude.{ℕ, Bool, false, not, if◌then◌else◌, nat_eq, List, Option, Some, None, slice_get}
use Rattle.std.specs.List.{list_any}
use Rattle.pc_word.specs.declared.loop_mark.LoopMark.{LoopMark}
use Rattle.pc_table.specs.Table.{TableRegion, Table}

-- whether two loops are there and the same
abbrev pub same_loop : Option ℕ → Option ℕ → Bool
same_loop (Some loop) (Some other) = nat_eq loop other
same_loop None other = false
same_loop (Some loop) None = false

-- ---- the parts of a region that may not be there

abbrev pub heads_of : Option TableRegion → Option ℕ
heads_of None = None
heads_of (Some region) = region.heads

abbrev pub inside_of : Option TableRegion → Option ℕ
inside_of None = None
inside_of (Some region) = region.inside

-- ---- regions by number

-- the loop whose header a region is
abbrev pub headed_loop : Table → ℕ → Option ℕ
headed_loop table region = heads_of (slice_get table.regions region)

-- whether a loop is the innermost one that a region stands in
abbrev pub is_inside : Table → Option ℕ → ℕ → Bool
is_inside table loop region = same_loop (inside_of (slice_get table.regions region)) loop

-- ---- innermost loops

-- whether no loop stands in a loop
abbrev pub is_innermost : List LoopMark → ℕ → Bool
is_innermost loops loop = not (list_any (λ mark. same_loop mark.outer (Some loop)) loops)

-- a loop, where it is innermost
abbrev pub if_innermost : List LoopMark → Option ℕ → Option ℕ
if_innermost loops None = None
if_innermost loops (Some loop) = if is_innermost loops loop then Some loop else None

-- the loop whose header a region is, where it is innermost
abbrev pub innermost_loop : Table → ℕ → Option ℕ
innermost_loop table region = if_innermost table.loops (headed_loop table region)
