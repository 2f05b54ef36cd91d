-- The windows that the tests make.
use Rattle.std.proofs.Common.{◌≡◌, ℕ, ◌<◌, List, [], ◌∷◌, ◌++◌, length, refl, sym, subst, arith}
use Rattle.std.specs.Prelude.{pos, nat_eq, true}
use Rattle.std.specs.List.{AllByRecursion}
use Rattle.pc_word.proofs.Lists.{all_both}
use Rattle.pc_word.specs.declared.item.Item.TheVariants.{Bin, Print}
use Rattle.pc_word.specs.declared.item.OpCode.TheVariants.{Add}
use Rattle.pc_word.specs.declared.item.Operand.TheVariants.{Name, Lit}
use Rattle.pc_linear.specs.Form.{Form}
use Rattle.pc_linear.specs.Combine.{variable_form}
use Rattle.pc_window.specs.declared.names.NameTable.{NameTable}
use Rattle.pc_window.specs.declared.window.Window.{Window as StoredWindow}
use Rattle.pc_window.specs.Tree.{Tree, Pending, Stop_exit}
use Rattle.pc_window.specs.Opening.{FormBelow, FormsBelow, TreeBelow}
use Rattle.pc_window.specs.Steps.{IsProper, Positive}
use Rattle.pc_window.specs.StoredWindow.{InNodes, tree_in, supply_in, window_in}
use Rattle.pc_window.proofs.Proper.{becomes_proper}
use Rattle.pc_window.proofs.WindowsStored.{single_window}
use Rattle.pc_renumber.proofs.Renumbered.{forms_listed}

pub one_more_form : (m variable : ℕ) (forms : List Form) → variable < m → AllByRecursion (FormBelow m) forms
    → AllByRecursion (FormBelow m) (forms ++ variable_form variable ∷ [])
one_more_form m variable forms below all = all_both (FormBelow m) forms (variable_form variable ∷ []) all ((below, tt), tt)

pub all_forms_below : (names : NameTable) → AllByRecursion (FormBelow names.next_variable) names.forms → FormsBelow (supply_in names)
all_forms_below names all = record { form = λ x. forms_listed names.next_variable names.forms all x }

pub ruleset names = (one_more_form, all_forms_below)

-- the tree of the sum
abbrev sum_tree : Tree
sum_tree = Pending 0 0 (Bin Add 7 (Name 5) (Lit (pos 1))) (Pending 0 1 (Print (Name 7)) Stop_exit)

pub sum_proper : (w : StoredWindow) → tree_in w.tree ≡ sum_tree → InNodes true w.tree → FormsBelow (supply_in w.names) → length w.names.forms ≡ 8
    → w.limits ≡ (record { ops = 4; tests = 1; mem = 2 }) → IsProper (window_in w)
sum_proper w tree nodes below count limits =
    subst IsProper (sym (single_window w.tree w.names w.limits w.inside (record { tree = sum_tree; names = supply_in w.names })
    (λ i. record { tree = tree i; names = supply_in w.names }) nodes))
    (becomes_proper sum_tree (supply_in w.names) w.limits w.inside (nat_eq 5)
    (subst (λ (n : ℕ). TreeBelow n sum_tree) (sym count) ((omega arith, omega arith, tt), (omega arith, tt))) below
    (subst Positive (sym limits) (record { ops = omega arith; tests = omega arith; mem = omega arith }))
    ((refl, (tt, tt)), refl, ((refl, tt), tt, tt)))
