-- Whether regions, loops and arrays are a table, as the code finds out.
use Rattle.std.specs.Prelude.{ℕ, Bool, true, false, not, ◌||◌, ◌&&◌, nat_eq, nat_lt, nat_le, List, [], ◌∷◌, length, Option, Some, None, is_none}
use Rattle.std.specs.List.{list_all, list_any}
use Rattle.pc_word.specs.declared.item.Item.{Item}
use Rattle.pc_word.specs.declared.item.Operand.{Operand}
use Rattle.pc_word.specs.declared.item.Operand.TheVariants.{Name, Lit}
use Rattle.pc_word.specs.declared.loop_mark.LoopMark.{LoopMark}
use Rattle.pc_word.specs.Items.{operands_of, dest_of, array_of}
use Rattle.pc_word.specs.Commit.{writes}
use Rattle.pc_table.specs.declared.table.Region.{Region}
use Rattle.pc_table.specs.Table.{Table, TableTree, TableRegion, Does, Asks, Next, Stops_here, Traps_here, table_region, table_regions, region_tree, region_live}
use Rattle.pc_table.specs.TableKeeps.{units, untested}
use Rattle.pc_window_specimen.specs.declared.checking.Draft.{Draft}
use Rattle.pc_window_specimen.specs.declared.checking.Known.{Known}
use Rattle.pc_window_specimen.specs.declared.checking.Known.TheVariants.{Live, Written'}

-- what may be a table
abbrev pub drafted : Draft → Table
drafted draft = record { regions = table_regions draft.regions; loops = draft.loops; arrays = draft.arrays }

-- ---- what is there

-- whether a number that may be missing is below another
abbrev pub is_below : ℕ → Option ℕ → Bool
is_below count None = true
is_below count (Some number) = nat_lt number count

-- whether an operand is a literal or a variable
abbrev pub is_variable : Operand → Bool
is_variable (Name name) = nat_lt name 96
is_variable (Lit value) = true

-- whether each operand of an item is
abbrev pub are_variables : Item → Bool
are_variables item = list_all is_variable (operands_of item)

-- whether all that an item names is there
abbrev pub item_is_there : ℕ → Item → Bool
item_is_there arrays item = (are_variables item && is_below 96 (dest_of item)) && is_below arrays (array_of item)

-- whether all that a tree names is there
abbrev pub tree_is_there : (arrays regions : ℕ) → TableTree → Bool
tree_is_there arrays regions (Does origin item rest) = item_is_there arrays item && tree_is_there arrays regions rest
tree_is_there arrays regions (Asks origin on on_yes on_no) =
    (is_variable on && tree_is_there arrays regions on_yes) && tree_is_there arrays regions on_no
tree_is_there arrays regions (Next region) = nat_lt region regions
tree_is_there arrays regions Stops_here = true
tree_is_there arrays regions (Traps_here kind line) = true

-- ---- how large a tree is, how it begins, and where it leads without a test

-- whether it has not too many items and tests
abbrev pub is_small : TableTree → Bool
is_small tree = not (nat_lt 128 (units tree))

-- whether it begins with an item, a test, an end or a trap
abbrev pub begins_here : TableTree → Bool
begins_here (Does origin item rest) = true
begins_here (Asks origin on on_yes on_no) = true
begins_here (Next region) = false
begins_here Stops_here = true
begins_here (Traps_here kind line) = true

-- whether the region to which a tree leads without a test, if any, does not lead on so
abbrev pub may_follow : Table → Option ℕ → Bool
may_follow table None = true
may_follow table (Some next) = is_none (untested (region_tree table next))

-- the same of a tree
abbrev pub leads_on : Table → TableTree → Bool
leads_on table tree = may_follow table (untested tree)

-- ---- what is live

-- the variables that are known at a place
abbrev pub known_at : Known → ℕ → Bool
known_at (Live names) x = list_any (nat_eq x) names.now
known_at (Written' name p above) x = nat_eq name x || known_at above x

-- whether an operand is a literal or a known variable
abbrev pub knows : (ℕ → Bool) → Operand → Bool
knows known (Name x) = known x
knows known (Lit value) = true

-- whether each operand of an item is
abbrev pub knows_item : (ℕ → Bool) → Item → Bool
knows_item known item = list_all (knows known) (operands_of item)

-- the known variables, and the one that an item writes
abbrev pub and_written : (ℕ → Bool) → Item → ℕ → Bool
and_written known item x = writes (dest_of item) x || known x

-- whether all that a tree needs is known
abbrev pub covers : Table → (ℕ → Bool) → TableTree → Bool
covers table known (Does origin item rest) = knows_item known item && covers table (and_written known item) rest
covers table known (Asks origin on on_yes on_no) = (knows known on && covers table known on_yes) && covers table known on_no
covers table known (Next region) = list_all known (region_live table region)
covers table known Stops_here = true
covers table known (Traps_here kind line) = true

-- whether a number is below the first of some others
abbrev pub starts_above : ℕ → List ℕ → Bool
starts_above x [] = true
starts_above x (y ∷ ys) = nat_lt x y

-- whether numbers rise
abbrev pub rises : List ℕ → Bool
rises [] = true
rises (x ∷ xs) = starts_above x xs && rises xs

-- ---- the whole

-- whether a tree is one of a table's region
abbrev pub is_tree : Draft → TableTree → Bool
is_tree draft tree =
    ((tree_is_there (length draft.arrays) (length draft.regions) tree && is_small tree) && begins_here tree) && leads_on (drafted draft) tree

-- whether variables are live that a tree needs, and in rising order
abbrev pub is_live : Table → TableRegion → Bool
is_live table region =
    (rises region.live && list_all (λ x. nat_lt x 96) region.live) && covers table (λ x. list_any (nat_eq x) region.live) region.tree

-- whether a region is one of a table
abbrev pub is_region : Draft → Region → Bool
is_region draft region =
    ((is_tree draft (table_region region).tree && is_live (drafted draft) (table_region region)) && is_below (length draft.loops) region.inside)
    && is_below (length draft.loops) region.heads

-- whether a loop stands in no other
abbrev pub is_outermost : LoopMark → Bool
is_outermost mark = is_none mark.outer

-- whether each part is one of a table
abbrev pub is_table : Draft → Bool
is_table draft =
    ((nat_lt 0 (length draft.regions) && nat_le (length draft.arrays) 32) && list_all is_outermost draft.loops)
    && list_all (is_region draft) draft.regions
