-- What is told of a program by what is told of its statements.
use Rattle.std.proofs.Common.{◌≡◌, ap, ◌∙◌, sym, subst, ℕ, ℤ, List, [], ◌∷◌, Ok, length, true, false}
use Rattle.pc_word.specs.Data.{AreData}
use Rattle.pc_word.specs.Exact.{checked}
use Rattle.pc_syntax.specs.Source.{SourceList, SourceProgram, ResolvedProgram}
use Rattle.pc_check.specs.declared.error.CheckError.{CheckError}
use Rattle.pc_check.specs.Names.{Names, no_names}
use Rattle.pc_check.specs.Faults.{list_faults, names_behind_list, faults}
use Rattle.pc_check.specs.Resolution.{resolved_list, resolved}
use Rattle.pc_check.specs.Sound.{list_is_sound}
use Rattle.pc_check.proofs.SoundLaws.{program-sound}
use Rattle.pc_check.proofs.ProgramData.{program-data}
use Rattle.pc_check.specs.models.Resolves.{ListResolves}

-- what is checked and has no fault is given
given : {X : Type 0} (found : List CheckError) (value answer : X) → found ≡ [] → value ≡ answer → checked found value ≡ Ok answer
given [] value answer none same = ap Ok same
given (first ∷ others) value answer none same = cc

-- a program is resolved to what its statements are resolved to, with what they declare
pub program-resolves : (program : SourceProgram) (first behind : Names) (out : SourceList) (scalars : ℕ) (arrays : List ℕ) (initial : List (List ℤ)) →
    first ≡ no_names → ListResolves false program.items first behind out → scalars ≡ behind.scalars → arrays ≡ behind.lengths → initial ≡ behind.initial →
    checked (faults program) (resolved program) ≡ Ok (record { scalars = scalars; arrays = arrays; initial = initial; body = out })
program-resolves program first behind out scalars arrays initial start some counted sized begun =
    let at = ap (names_behind_list program.items) (sym start) ∙ some.behind in
    let items = ap (resolved_list program.items) (sym start) ∙ some.is_resolved in
    let numbers : ℕ → List ℕ → List (List ℤ) → SourceList → ResolvedProgram =
    λ n sizes lists list. record { scalars = n; arrays = sizes; initial = lists; body = list } in
    given (faults program) (resolved program) _ (ap (list_faults false program.items) (sym start) ∙ some.faultless)
    (ap (λ (n : ℕ). numbers n (names_behind_list program.items no_names).lengths (names_behind_list program.items no_names).initial (resolved_list program.items no_names))
    (ap (λ (n : Names). n.scalars) at ∙ sym counted)
    ∙ ap (λ (sizes : List ℕ). numbers scalars sizes (names_behind_list program.items no_names).initial (resolved_list program.items no_names))
    (ap (λ (n : Names). n.lengths) at ∙ sym sized)
    ∙ ap (λ (lists : List (List ℤ)). numbers scalars arrays lists (resolved_list program.items no_names))
    (ap (λ (n : Names). n.initial) at ∙ sym begun)
    ∙ ap (numbers scalars arrays initial) items)

-- what its statements are resolved to has slots below the counts of what they declare
pub statements-sound : (items : SourceList) (first behind : Names) (out : SourceList) (scalars : ℕ) (arrays : List ℕ) →
    first ≡ no_names → ListResolves false items first behind out → scalars ≡ behind.scalars → arrays ≡ behind.lengths →
    list_is_sound scalars (length arrays) false out ≡ true
statements-sound items first behind out scalars arrays start some counted sized =
    let at = ap (names_behind_list items) (sym start) ∙ some.behind in
    let none = ap (list_faults false items) (sym start) ∙ some.faultless in
    let made = ap (resolved_list items) (sym start) ∙ some.is_resolved in
    ap (λ (n : ℕ). list_is_sound n (length arrays) false out) (counted ∙ sym (ap (λ (n : Names). n.scalars) at))
    ∙ ap (λ (sizes : List ℕ). list_is_sound (names_behind_list items no_names).scalars (length sizes) false out)
    (sized ∙ sym (ap (λ (n : Names). n.lengths) at))
    ∙ ap (λ (x : SourceList). list_is_sound (names_behind_list items no_names).scalars (length (names_behind_list items no_names).lengths) false x) (sym made)
    ∙ program-sound items none

-- what they declare begins with data that there is room for
pub statements-data : (items : SourceList) (first behind : Names) (out : SourceList) (arrays : List ℕ) (initial : List (List ℤ)) →
    first ≡ no_names → ListResolves false items first behind out → arrays ≡ behind.lengths → initial ≡ behind.initial → AreData arrays initial
statements-data items first behind out arrays initial start some sized begun =
    let at = ap (names_behind_list items) (sym start) ∙ some.behind in
    let none = ap (list_faults false items) (sym start) ∙ some.faultless in
    subst (λ (lists : List (List ℤ)). AreData arrays lists) (ap (λ (n : Names). n.initial) at ∙ sym begun)
    (subst (λ (sizes : List ℕ). AreData sizes (names_behind_list items no_names).initial) (ap (λ (n : Names). n.lengths) at ∙ sym sized)
    (program-data items none))
