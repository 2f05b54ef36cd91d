-- A row of copies takes its step.
use Rattle.std.proofs.Common.{◌≡◌, ℕ, List, [], ◌∷◌, map, None, refl, ◌∙◌, ap}
use Rattle.std.specs.Prelude.{ℤ, if◌then◌else◌, not, ◌&&◌, nat_lt, Option, Some}
use Rattle.std.specs.List.{list_any}
use Rattle.pc_word.specs.declared.item.Item.{Item}
use Rattle.pc_word.specs.declared.item.MachineFault.{MachineFault}
use Rattle.pc_word.specs.declared.item.MachineFault.TheVariants.{StoreOutOfRange, StoredTwice, ReadPastEnd}
use Rattle.pc_word.specs.State.{State}
use Rattle.pc_word.specs.Items.{some_left}
use Rattle.pc_word.specs.Commit.{Stored, is_outside, some_meet, reads_of, prints_of, fault_of}
use Rattle.pc_word.specs.Row.{path_of, leaf_of, commit_of, Commits, row_step}
use Rattle.pc_copies.specs.declared.moves.Move.{Move}
use Rattle.pc_copies.specs.Moves.{copy_of, after_copies}
use Rattle.pc_copies.specs.Laws.{copy_row, CopiesCommit}
use Rattle.pc_copies.proofs.Arranged.{row_stores, row_takes}

path_is : {L : Type 0} (names : ℕ → ℤ) (row : List Move) (leaf : L) → path_of names (copy_row row leaf) ≡ map copy_of row
path_is names [] leaf = refl
path_is names (move ∷ row) leaf = ap (λ (l : List Item). copy_of move ∷ l) (path_is names row leaf)

leaf_is : {L : Type 0} (names : ℕ → ℤ) (row : List Move) (leaf : L) → leaf_of names (copy_row row leaf) ≡ leaf
leaf_is names [] leaf = refl
leaf_is names (move ∷ row) leaf = leaf_is names row leaf

prints_none : (s : State) (row : List Move) → prints_of s (map copy_of row) ≡ []
prints_none s [] = refl
prints_none s (move ∷ row) = prints_none s row

-- the fault of a path, by its stores and its reads
by_stores : List Stored → ℕ → State → Option MachineFault
by_stores stores reads s =
    if list_any is_outside stores then Some StoreOutOfRange else if some_meet stores then Some StoredTwice
    else if nat_lt 0 reads && not (some_left s.input) then Some ReadPastEnd else None

no_fault : (lengths : List ℕ) (s : State) (row : List Move) → fault_of lengths s (map copy_of row) ≡ None
unfolding by_stores
no_fault lengths s row =
    ap (λ (stores : List Stored). by_stores stores (reads_of (map copy_of row)) s) (row_stores lengths row s) ∙ ap (λ (reads : ℕ). by_stores [] reads s) (row_takes row)

-- whatever leaf stands after it
pub row_commits : {L : Type 0} (lengths : List ℕ) (row : List Move) (leaf : L) (s : State) → row_step lengths (copy_row row leaf) s ≡ Commits [] (after_copies lengths row s) leaf
row_commits {L} lengths row leaf s =
    ap (λ (l : List Item). commit_of lengths s l (leaf_of s.names (copy_row row leaf)) (fault_of lengths s l)) (path_is s.names row leaf)
    ∙ ap (λ (n : L). commit_of lengths s (map copy_of row) n (fault_of lengths s (map copy_of row))) (leaf_is s.names row leaf)
    ∙ ap (λ (f : Option MachineFault). commit_of lengths s (map copy_of row) leaf f) (no_fault lengths s row)
    ∙ ap (λ (l : List ℤ). Commits l (after_copies lengths row s) leaf) (prints_none s row)

pub copies_commit : CopiesCommit
copies_commit lengths row leaf s = row_commits lengths row leaf s
