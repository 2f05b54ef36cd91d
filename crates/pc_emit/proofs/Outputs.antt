-- A row that is appended to others.
use Rattle.std.proofs.Common.{◌≡◌, ℕ, zero, suc, ◌+◌, List, [], ◌∷◌, ◌++◌, length, Some, sym, ◌∙◌, ap, subst, arith}
use Rattle.std.specs.Prelude.{slice_get}
use Rattle.std.proofs.lemmas.List.{length-map, length-append, map-append}
use Rattle.pc_word.specs.declared.row_tree.RowTree.{RowTree}
use Rattle.pc_machine.specs.declared.tree.Leaf.{Leaf}
use Rattle.pc_machine.specs.MachineCode.{CodeRow, row_of, rows_of}
use Rattle.pc_emit.specs.declared.output.Output.{Output}
use Rattle.pc_emit.specs.models.Output.{OutputGrows, StandsAt}
use Rattle.pc_word.proofs.Places.{get_last}

-- what stands in a list stands in a longer one
still_there : {X : Type 0} (xs ys : List X) (at : ℕ) (x : X) → slice_get xs at ≡ Some x → slice_get (xs ++ ys) at ≡ Some x
still_there [] ys at x e = absurd (cc)
still_there (y ∷ xs) ys zero x e = e
still_there (y ∷ xs) ys (suc at) x e = still_there xs ys at x e

-- the trees of a list, and one more
pub tree_still : (old new : List (RowTree Leaf)) (tree : RowTree Leaf) (at : ℕ) (row : CodeRow) → new ≡ old ++ tree ∷ []
    → slice_get (rows_of old) at ≡ Some row → slice_get (rows_of new) at ≡ Some row
tree_still old new tree at row e h =
    subst (λ (l : List CodeRow). slice_get l at ≡ Some row) (sym (ap rows_of e ∙ map-append row_of old (tree ∷ [])))
    (still_there (rows_of old) (row_of tree ∷ []) at row h)

pub tree_last : (old new : List (RowTree Leaf)) (tree : RowTree Leaf) → new ≡ old ++ tree ∷ [] → slice_get (rows_of new) (length old) ≡ Some (row_of tree)
tree_last old new tree e =
    subst (λ (n : ℕ). slice_get (rows_of new) n ≡ Some (row_of tree)) (length-map old row_of)
    (subst (λ (l : List CodeRow). slice_get l (length (rows_of old)) ≡ Some (row_of tree)) (sym (ap rows_of e ∙ map-append row_of old (tree ∷ [])))
    (get_last (rows_of old) (row_of tree)))

-- one more row of a region
pub row_grows : (old new : Output) (tree : RowTree Leaf) → new.rows ≡ old.rows ++ tree ∷ [] → new.copies.items ≡ old.copies.items → new.base ≡ old.base → OutputGrows old new
row_grows old new tree e same base = record {
  base = base;
  more = let many = ap (λ (l : List (RowTree Leaf)). length l) same in omega (arith, many);
  stays = λ final stays. record {
    rows_stay = λ at row h. stays.rows_stay at row (tree_still old.rows new.rows tree at row e h);
    copies_stay = λ at row h. subst (λ (b : ℕ). slice_get final (b + at) ≡ Some row) base
        (stays.copies_stay at row (subst (λ (l : List (RowTree Leaf)). slice_get (rows_of l) at ≡ Some row) (sym same) h));
  };
}

pub row_stands : (old new : Output) (tree : RowTree Leaf) → new.rows ≡ old.rows ++ tree ∷ [] → StandsAt new (length old.rows) (row_of tree)
row_stands old new tree e = record { stands = λ final stays. stays.rows_stay (length old.rows) (row_of tree) (tree_last old.rows new.rows tree e) }

-- one more row of copies
pub copies_grow : (old new : Output) (tree : RowTree Leaf) → new.copies.items ≡ old.copies.items ++ tree ∷ [] → new.rows ≡ old.rows → new.base ≡ old.base → OutputGrows old new
copies_grow old new tree e same base = record {
  base = base;
  more =
      let many = ap (λ (l : List (RowTree Leaf)). length l) e in
      let both = length-append old.copies.items (tree ∷ []) in
      omega (arith, many, both);
  stays = λ final stays. record {
    rows_stay = λ at row h. stays.rows_stay at row (subst (λ (l : List (RowTree Leaf)). slice_get (rows_of l) at ≡ Some row) (sym same) h);
    copies_stay = λ at row h. subst (λ (b : ℕ). slice_get final (b + at) ≡ Some row) base
        (stays.copies_stay at row (tree_still old.copies.items new.copies.items tree at row e h));
  };
}

pub copies_stand : (old new : Output) (tree : RowTree Leaf) (at : ℕ) → new.copies.items ≡ old.copies.items ++ tree ∷ [] → new.base ≡ old.base
    → at ≡ old.base + length old.copies.items → StandsAt new at (row_of tree)
copies_stand old new tree at e base is = record {
  stands = λ final stays. subst (λ (n : ℕ). slice_get final n ≡ Some (row_of tree)) (ap (λ (b : ℕ). b + length old.copies.items) base ∙ sym is)
      (stays.copies_stay (length old.copies.items) (row_of tree) (tree_last old.copies.items new.copies.items tree e));
}

-- the rows of one tree more
pub tree_added : (old new : List (RowTree Leaf)) (tree : RowTree Leaf) → new ≡ old ++ tree ∷ [] → rows_of new ≡ rows_of old ++ row_of tree ∷ []
tree_added old new tree e = ap rows_of e ∙ map-append row_of old (tree ∷ [])

pub ruleset outputs = (row_grows, row_stands, copies_grow, copies_stand, tree_added)
