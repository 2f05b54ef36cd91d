-- The laws of windows that are equal up to a shift. Each is the contract of a function of laws.rt, which does nothing.
use Rattle.std.specs.Prelude.{◌≡◌, ℕ, ℤ, true, List, length, Option}
use Rattle.pc_word.specs.declared.item.Limits.{Limits}
use Rattle.pc_word.specs.declared.item.OpCode.{OpCode}
use Rattle.pc_word.specs.declared.item.Operand.{Operand}
use Rattle.pc_word.specs.Row.{Row}
use Rattle.pc_linear.specs.Form.{Form}
use Rattle.pc_linear.specs.Combine.{plus, combine}
use Rattle.pc_table.specs.Table.{Table, TableTree}
use Rattle.pc_window.specs.Kept.{Left}
use Rattle.pc_window.specs.Steps.{IsProper, Opens, UnwindsTo, Tidies, Rebases, FillsTo, Cuts, EachLeft}
use Rattle.pc_window.specs.Opening.{Supply, graft}
use Rattle.pc_window.specs.Tree.{Tree}
use Rattle.pc_window.specs.Names.{uses}
use Rattle.pc_window.specs.Tidying.{tidied}
use Rattle.pc_window.specs.WindowRun.{Window}
use Rattle.pc_canon.specs.Pairs.{Pair, corresponds}
use Rattle.pc_canon.specs.Shift.{OneToOne, FormsAlike, Maps, TagsAlike, TreesAlike, ShiftedBy, Shifted}
use Rattle.pc_canon.specs.Canonical.{parameter_pairs}
use Rattle.pc_canon.specs.Key.{key_of}
use Rattle.pc_renumber.specs.Renumbering.{Renumbers}
use Rattle.pc_shifts.specs.Alike.{HasNormalTerms, ResultsAlike, HasNormalForms, UnwindsToo, SettlesToo}
use Rattle.pc_shifts.specs.Supplies.{SuppliesAlike, HomesOf, GraftedAlike}

-- ---- forms

-- forms that are alike have as many terms
abbrev pub AlikeFormsAreAsLong : Type 0
AlikeFormsAreAsLong = (variables : List Pair) (f f' : Form) → OneToOne variables → HasNormalTerms f → HasNormalTerms f' → FormsAlike variables f f'
    → length f.terms ≡ length f'.terms

-- a form and so many times another: where both are alike, so are the sums
abbrev pub SumsKeepAlikeForms : Type 0
SumsKeepAlikeForms = (variables : List Pair) (f f' g g' : Form) (number : ℤ) → OneToOne variables → HasNormalTerms f → HasNormalTerms f'
    → FormsAlike variables f f' → FormsAlike variables g g' → FormsAlike variables (plus f number g) (plus f' number g')

-- what an operator makes of forms that are alike is alike, or it makes a form of neither two
abbrev pub CombiningKeepsAlikeForms : Type 0
CombiningKeepsAlikeForms = (variables : List Pair) (op : OpCode) (f f' g g' : Form) → OneToOne variables → HasNormalTerms f → HasNormalTerms f'
    → FormsAlike variables f f' → FormsAlike variables g g' → ResultsAlike variables (combine op f g) (combine op f' g')

-- ---- trees

-- a name that one of two trees uses that are alike corresponds to one that the other uses
abbrev pub AlikeTreesUseAlikeNames : Type 0
AlikeTreesUseAlikeNames = (maps : Maps) (forms forms' : ℕ → Form) (names : List Pair) (one other : Tree) → TreesAlike maps forms forms' names one other
    → (x : ℕ) → uses one x ≡ true → (y : ℕ) × (uses other y ≡ true) × (corresponds names x y ≡ true)

-- trees are alike by other names too that correspond, where those do that are used
abbrev pub UsedNamesCount : Type 0
UsedNamesCount = (maps : Maps) (forms forms' : ℕ → Form) (names names' : List Pair) (one other : Tree)
    → ((x y : ℕ) → uses one x ≡ true → uses other y ≡ true → corresponds names x y ≡ true → corresponds names' x y ≡ true)
    → TreesAlike maps forms forms' names one other → TreesAlike maps forms forms' names' one other

-- trees that are alike have tidied trees that are alike
abbrev pub TidyingKeepsAlikeTrees : Type 0
TidyingKeepsAlikeTrees = (maps : Maps) (forms forms' : ℕ → Form) (names : List Pair) (one other : Tree) → TreesAlike maps forms forms' names one other
    → TreesAlike maps forms forms' names (tidied one) (tidied other)

-- a region's tree, grafted from alike supplies at alike homes, is alike
abbrev pub GraftingKeepsAlikeTrees : Type 0
GraftingKeepsAlikeTrees = (maps : Maps) (table : Table) (loop : Option ℕ) (tag tag' : ℕ) (tree : TableTree) (pairs : List Pair) (names names' : Supply)
    (homes homes' : ℕ → Operand) → TagsAlike maps tag tag' → SuppliesAlike maps.variables names names' → HomesOf maps.variables pairs names names' homes homes'
    → GraftedAlike maps pairs names names' (graft table loop tag tree names homes) (graft table loop tag' tree names' homes')

-- ---- windows

-- where one of two windows that are equal up to a shift is unwound, so is the other, to one that is equal up to a shift again
abbrev pub UnwindingKeepsShifts : Type 0
UnwindingKeepsShifts = (table : Table) (number : ℕ) (w v w' : Window) → IsProper w → IsProper v → HasNormalForms w → HasNormalForms v → Shifted w v
    → UnwindsTo table number w w' → UnwindsToo table number w v w'

-- and where it is tidied then, so is the other
abbrev pub SettlingKeepsShifts : Type 0
SettlingKeepsShifts = (table : Table) (number : ℕ) (w v unwound w' : Window) → IsProper w → IsProper v → HasNormalForms w → HasNormalForms v → Shifted w v
    → UnwindsTo table number w unwound → Tidies unwound w' → SettlesToo table number w v w'

-- so a window with the key of one that settled to a window that is equal to some member up to a shift settles to such a one itself
abbrev pub KnownWindowsSettleAlike : Type 0
KnownWindowsSettleAlike = (table : Table) (number : ℕ) (w v unwound w' member : Window) → IsProper w → IsProper v → HasNormalForms w → HasNormalForms v
    → key_of w ≡ key_of v → UnwindsTo table number w unwound → Tidies unwound w' → Shifted w' member
    → (too : SettlesToo table number w v w') × ShiftedBy (parameter_pairs too.settled member) too.settled member

-- ---- forms of windows

-- a region that is opened has the terms of its forms in normal form
abbrev pub OpenedFormsAreNormal : Type 0
OpenedFormsAreNormal = (table : Table) (limits : Limits) (region : ℕ) (w : Window) → Opens table limits region w → HasNormalForms w

-- and what a window becomes has them so where the window has
abbrev pub FillingKeepsNormalForms : Type 0
FillingKeepsNormalForms = (w v : Window) → FillsTo w v → HasNormalForms w → HasNormalForms v

abbrev pub CuttingKeepsNormalForms : Type 0
CuttingKeepsNormalForms = (table : Table) (w : Window) (row : Row Left) → Cuts table w row → HasNormalForms w → EachLeft HasNormalForms row

abbrev pub RebasingKeepsNormalForms : Type 0
RebasingKeepsNormalForms = (w v : Window) → Rebases w v → HasNormalForms w → HasNormalForms v

abbrev pub UnwindingKeepsNormalForms : Type 0
UnwindingKeepsNormalForms = (table : Table) (number : ℕ) (w v : Window) → UnwindsTo table number w v → HasNormalForms w → HasNormalForms v

abbrev pub TidyingKeepsNormalForms : Type 0
TidyingKeepsNormalForms = (w v : Window) → Tidies w v → HasNormalForms w → HasNormalForms v

abbrev pub RenumberingKeepsNormalForms : Type 0
RenumberingKeepsNormalForms = (w v : Window) → Renumbers w v → HasNormalForms w → HasNormalForms v
