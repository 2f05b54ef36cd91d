use Rattle.std.proofs.Common.{ap, ◌∙◌, sym, ◌++◌, List, [], ◌∷◌, ℕ, ℤ}
use Rattle.pc_check.specs.declared.slot.Slot.TheVariants as slot
use Rattle.pc_check.specs.InitialData.{data_of}
use Rattle.pc_check.specs.Names.{Names, Scope, with_array}
use Rattle.pc_check.specs.models.View.{names_of}
use Rattle.pc_check.proofs.ScopeLaws.{entries_with_new}
use Rattle.pc_check.proofs.scopes.Scopes.declare_array.Goals as goal

-- the name goes last in the innermost scope, and its length and its data go last in their lists
pub returns-clause-declared : goal.returns-clause-declared
returns-clause-declared c =
    let before = names_of c.args.self.now in
    let entries = c.in_ok-insert.ensures.entries
    ∙ entries_with_new c.args.self.now.innermost c.args.symbol (slot.Array c.len-number.result)
    (sym c.contains_key.ensures ∙ c.if-contains_key.false)
    ∙ ap (λ (n : ℕ). before.innermost ++ (c.args.symbol, slot.Array n) ∷ []) c.len-number.ensures in
    let after : Names = with_array before c.args.symbol c.args.size (data_of c.args.values.now) in
    let words = rw c.as_slice-2.ensures at c.in_ok-words.ensures.value in
    let begun = c.in_ok-push.ensures.ok ∙ ap (λ (x : List ℤ). before.initial ++ x ∷ []) words in
    let lengths = c.in_ok-push-2.ensures.ok in
    ap (λ (scope : Scope). record after { innermost = scope; lengths = c.push-2.new.self; initial = c.push.new.self }) entries
    ∙ ap (λ (sizes : List ℕ). record after { lengths = sizes; initial = c.push.new.self }) lengths
    ∙ ap (λ (lists : List (List ℤ)). record after { initial = lists }) begun
