use Rattle.std.proofs.Common.{rules, ◌≡◌, ◌<◌, ◌++◌, ◌∙◌, sym, ap, subst, length, List, arith}
use Rattle.std.specs.Prelude.{ℕ, map, replicate}
use Rattle.std.specs.List.{AllByRecursion}
use Rattle.pc_window.specs.Tree.{Tree}
use Rattle.pc_window.specs.Names.{definitions_of, parameters_of}
use Rattle.pc_window.specs.Opening.{TreeBelow}
use Rattle.pc_window.specs.StoredWindow.{tree_in, front_in, forms_in, window_in}
use Rattle.pc_window.proofs.WindowsStored.{whole_in}
use Rattle.pc_window.proofs.Listed.{parameters-below}
use Rattle.pc_canon.specs.Bytes.{bytes_of}
use Rattle.pc_canon.specs.Canonical.{tags_of, first_tag}
use Rattle.pc_canon.specs.Key.{shape_numbers, limit_numbers, loop_numbers}
use Rattle.pc_canon.specs.models.Written.{levels_of, written, forms_numbers}
use Rattle.pc_canon.proofs.Leveled.{levels-long}
use Rattle.pc_canon.proofs.WrittenKeys.{few_parameters, few_definitions, key_written, parts_written}
use Rattle.pc_canon.proofs.window_key.key.Goals as goal

pub levels_of-requires-clause-below : goal.levels_of-requires-clause-below
levels_of-requires-clause-below c =
    let tree = tree_in c.args.window.now.tree in
    let n = length c.args.window.now.names.forms in
    let are : c.as_slice.result.now ≡ parameters_of tree = search rules in
    let count : c.len-count.result ≡ n = search rules in
    subst (λ (m : ℕ). AllByRecursion (λ name. name < m) c.as_slice.result.now) (sym count)
    (subst (λ (names : List ℕ). AllByRecursion (λ name. name < n) names) (sym are) (parameters-below n tree c.requires.below))

pub levels_of-requires-clause-few : goal.levels_of-requires-clause-few
levels_of-requires-clause-few c =
    let tree = tree_in c.args.window.now.tree in
    let are : c.as_slice.result.now ≡ parameters_of tree = search rules in
    let few = few_parameters (length c.args.window.now.names.forms) tree c.requires.below in
    let long = ap (λ (names : List ℕ). length names) are in
    omega (arith, few, long, c.requires.few_names)

pub overflow_cast-depth : goal.overflow_cast-depth
overflow_cast-depth c =
    let tree = tree_in c.args.window.now.tree in
    let are : c.in_ok-names.names ≡ parameters_of tree = search rules in
    let few = few_parameters (length c.args.window.now.names.forms) tree c.requires.below in
    let long = ap (λ (names : List ℕ). length names) are in
    omega (arith, few, long, c.requires.few_names)

pub write_tree-requires-clause-below : goal.write_tree-requires-clause-below
write_tree-requires-clause-below c =
    let tree = tree_in c.args.window.now.tree in
    let n = length c.args.window.now.names.forms in
    let are : c.deref_mut.result.now ≡ levels_of c.as_slice.result.now (replicate n 0) = search rules in
    let long = ap (λ (levels : List ℕ). length levels) are ∙ levels-long n c.as_slice.result.now in
    subst (λ (m : ℕ). TreeBelow m tree) (sym long) c.requires.below

pub write_tree-requires-clause-room : goal.write_tree-requires-clause-room
write_tree-requires-clause-room c =
    let tree = tree_in c.args.window.now.tree in
    let are : c.in_ok-names.names ≡ parameters_of tree = search rules in
    let few = few_parameters (length c.args.window.now.names.forms) tree c.requires.below in
    let long = ap (λ (names : List ℕ). length names) are in
    omega (arith, few, long, c.requires.few_names, c.requires.small)

pub write_forms-requires-clause-few : goal.write_forms-requires-clause-few
write_forms-requires-clause-few c =
    let tree = tree_in c.args.window.now.tree in
    let are : c.as_slice-2.result.now ≡ parameters_of tree = search rules in
    let listed : c.as_slice-3.result.now ≡ definitions_of tree = search rules in
    let few = few_parameters (length c.args.window.now.names.forms) tree c.requires.below in
    let fewer = few_definitions tree in
    let long = ap (λ (names : List ℕ). length names) are in
    let longer = ap (λ (names : List ℕ). length names) listed in
    omega (arith, few, fewer, long, longer, c.requires.few_names, c.requires.small)

pub returns-clause-names : goal.returns-clause-names
returns-clause-names c =
    let are : c.in_ok-names.names ≡ parameters_of (tree_in c.args.window.now.tree) = search rules in
    are ∙ ap (λ (tree : Tree). parameters_of tree) (sym (whole_in c.args.window.now.tree))

pub returns-clause-tag : goal.returns-clause-tag
returns-clause-tag c =
    let is : c.first_tag-tag.result ≡ first_tag (tags_of (tree_in c.args.window.now.tree)) = search rules in
    is ∙ ap (λ (tree : Tree). first_tag (tags_of tree)) (sym (whole_in c.args.window.now.tree))

pub returns-clause-bytes : goal.returns-clause-bytes
returns-clause-bytes c =
    let window = c.args.window.now in
    let tree = tree_in window.tree in
    let n = length window.names.forms in
    let forms = forms_in window.names.forms in
    let names = parameters_of tree in
    let trees = written (first_tag (tags_of tree)) (length names) (levels_of names (replicate n 0)) tree in
    let constants = forms_numbers (map forms names) (map forms (definitions_of tree)) in
    let one = c.write_tree.new.numbers in
    let two = c.write_shape.new.numbers in
    let three = c.write_forms.new.numbers in
    let four = c.write_limits.new.numbers in
    let five = c.write_loop.new.numbers in
    let are : c.in_ok-names.names ≡ names = search rules in
    let tag : c.first_tag-tag.result ≡ first_tag (tags_of tree) = search rules in
    let levels : c.deref_mut.result.now ≡ levels_of c.in_ok-names.names (replicate n 0) = search rules in
    let by_levels : one ≡ written c.first_tag-tag.result (length c.in_ok-names.names) c.deref_mut.result.now tree = search rules in
    let first : one ≡ trees =
    by_levels ∙ (λ i. written (tag i) (length (are i)) (levels i) tree) ∙ ap (λ (list : List ℕ). written (first_tag (tags_of tree)) (length names) (levels_of list (replicate n 0)) tree) are in
    let second : two ≡ one ++ shape_numbers (front_in window.tree) = search rules in
    let defined : c.write_tree.new.defined ≡ definitions_of tree = search rules in
    let by_names : three ≡ two ++ forms_numbers (map forms c.in_ok-names.names) (map forms c.write_tree.new.defined) = search rules in
    let third : three ≡ two ++ constants = by_names ∙ (λ i. two ++ forms_numbers (map forms (are i)) (map forms (defined i))) in
    let fourth : four ≡ three ++ limit_numbers window.limits = search rules in
    let fifth : five ≡ four ++ loop_numbers window.inside = search rules in
    let numbers = parts_written trees (shape_numbers (front_in window.tree)) constants (limit_numbers window.limits) (loop_numbers window.inside)
    one two three four five first second third fourth fifth
    ∙ key_written n (window_in window) tree (whole_in window.tree) c.requires.below in
    let bytes : c.into_bytes.result.items ≡ bytes_of five = search rules in
    bytes ∙ ap bytes_of numbers
