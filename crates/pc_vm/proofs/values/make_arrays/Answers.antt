use Rattle.std.proofs.Common.{◌≡◌, ◌∙◌, ◌≤◌, ◌++◌, ◌∷◌, [], List, length, take, get_or, ap, sym, subst, arith}
use Rattle.std.specs.Prelude.{ℤ}
use Rattle.pc_vm.specs.models.Made.{new_array, new_arrays}
use Rattle.pc_vm.proofs.Starts.{data_fits, arrays_with, arrays_all}
use Rattle.pc_vm.proofs.values.make_arrays.Goals as goal

pub make_array-requires : goal.make_array-requires
make_array-requires c =
    subst (λ (words : List ℤ). length words ≤ get_or c.args.lengths.now c.loop-place.place 0) (sym c.words_of-words.ensures)
    (data_fits c.args.lengths.now c.args.lists.now c.loop-place.place c.requires)

pub loop-place-preserved : goal.loop-place-preserved
loop-place-preserved c =
    c.in_ok-push.ensures.items
    ∙ ap (λ (arrays : List (List ℤ)). arrays ++ c.in_ok-make_array.field-0 ∷ []) c.loop-place.invariant
    ∙ ap (λ (array : List ℤ). new_arrays (take c.loop-place.place c.args.lengths.now) (take c.loop-place.place c.args.lists.now) ++ array ∷ [])
    (c.in_ok-make_array.ensures ∙ ap (λ (words : List ℤ). new_array (get_or c.args.lengths.now c.loop-place.place 0) words) c.words_of-words.ensures)
    ∙ arrays_with c.args.lengths.now c.args.lists.now c.loop-place.place c.requires c.loop-place-test.true

pub returns : goal.returns
returns c = c.loop-place.invariant ∙ arrays_all c.args.lengths.now c.args.lists.now c.loop-place.place c.requires (omega (arith, c.loop-place-test.false))
