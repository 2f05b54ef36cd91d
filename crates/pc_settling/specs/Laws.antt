-- The laws of what is left at a leaf. Each is the contract of a function of laws.rt, which does nothing.
use Rattle.std.specs.Prelude.{◌≡◌, ◌↔◌, ◌<◌, ◌⊎◌, ℕ, true, false, List, Contains, Option, Some}
use Rattle.pc_word.specs.declared.item.Item.TheVariants.{Copy}
use Rattle.pc_word.specs.declared.item.Limits.{Limits}
use Rattle.pc_word.specs.declared.item.Operand.{Operand}
use Rattle.pc_word.specs.declared.item.Operand.TheVariants.{Name}
use Rattle.pc_cert.specs.declared.certificate.Opening.{Opening}
use Rattle.pc_table.specs.Table.{Table}
use Rattle.pc_machine.specs.declared.tree.Leaf.{Leaf}
use Rattle.pc_machine.specs.declared.tree.Leaf.TheVariants.{Goto}
use Rattle.pc_window.specs.declared.home.Home.{Home}
use Rattle.pc_window.specs.Tree.{Tree, Pending, whole}
use Rattle.pc_window.specs.Tidying.{IsTidy}
use Rattle.pc_window.specs.Unwinding.{front_tag}
use Rattle.pc_window.specs.Opening.{first_new, OperandBelow}
use Rattle.pc_window.specs.WindowRun.{Window}
use Rattle.pc_window.specs.Steps.{Positive, IsProper}
use Rattle.pc_certified.specs.Facts.{Fact, EachFact, OperandsMatch}
use Rattle.pc_certified.specs.Claims.{Claim, ArrivesAt, MakesProgress}
use Rattle.pc_certified.specs.Shows.{HoldsAtStart}
use Rattle.pc_certified.specs.LeafAgrees.{FactAfterCopy, FactInRegion, LeafAgrees, LeafAgreesInRegion}
use Rattle.pc_settling.specs.Remaining.{Remaining}
use Rattle.pc_settling.specs.Settled.{facts_after_copy, settled}
use Rattle.pc_settling.specs.Begun.{Begun, Begins, BeginsWith, facts_in_region}
use Rattle.pc_settling.specs.Arrives.{Arrives, progress, end_of}
use Rattle.pc_settling.specs.Start.{facts_at_start}

-- ---- facts

-- each of the facts after a Copy holds after it
abbrev pub ListedAfterCopyHold : Type 0
ListedAfterCopyHold = (facts : List Fact) (name : ℕ) (from : Operand) → EachFact (facts_after_copy facts name from) (FactAfterCopy facts name from)

-- and each fact that holds after it is listed, unless it says of a literal that it is itself
abbrev pub AllAfterCopyAreListed : Type 0
AllAfterCopyAreListed = (facts : List Fact) (name : ℕ) (from : Operand) (fact : Fact) → FactAfterCopy facts name from fact
    → OperandsMatch (facts_after_copy facts name from) fact.source fact.operand

-- each of the facts in a region that is entered holds there
abbrev pub ListedInRegionHold : Type 0
ListedInRegionHold = (facts : List Fact) (homes : List Home) → EachFact (facts_in_region homes facts) (FactInRegion facts homes)

-- and each fact of one of its variables that holds there is listed
abbrev pub AllInRegionAreListed : Type 0
AllInRegionAreListed = (facts : List Fact) (homes : List Home) (source : Operand) (variable : ℕ) → variable < first_new
    → FactInRegion facts homes (record { source = source; operand = Name variable }) → OperandsMatch (facts_in_region homes facts) source (Name variable)

-- each of the facts at the start holds there
abbrev pub ListedAtStartHold : Type 0
ListedAtStartHold = (registers : ℕ) → EachFact (facts_at_start registers) HoldsAtStart

-- and each fact of one of the registers and of one of the variables that holds there is listed, unless it says of a literal that it is itself
abbrev pub AllAtStartAreListed : Type 0
AllAtStartAreListed = (registers : ℕ) (source operand : Operand) → OperandBelow registers source → OperandBelow first_new operand
    → HoldsAtStart (record { source = source; operand = operand }) → OperandsMatch (facts_at_start registers) source operand

-- ---- what is settled

-- no Copy stands at the root of a tree
abbrev pub HasNoCopyAtRoot : Tree → Type 0
HasNoCopyAtRoot (Pending tag origin (Copy name from) rest) = ⊥
HasNoCopyAtRoot tree = Unit {0}

-- in what is settled nothing may go, and no Copy stands at its root
abbrev pub SettledIsDone : Type 0
SettledIsDone = (w : Window) (facts : List Fact) → IsTidy (whole (settled w facts).window.front) × HasNoCopyAtRoot (whole (settled w facts).window.front)

-- where what is left agrees with a leaf once it is settled, it does as it was left
abbrev pub SettledAgrees : Type 0
SettledAgrees = (table : Table) (limits : Limits) (claims : List Claim) (claim : Claim) (leaf : Leaf) (w : Window) (facts : List Fact)
    → LeafAgrees table limits claims claim (settled w facts).facts leaf (settled w facts).window → LeafAgrees table limits claims claim facts leaf w

-- so it does in a region that was entered
abbrev pub SettledAgreesInRegion : Type 0
SettledAgreesInRegion = (table : Table) (limits : Limits) (claims : List Claim) (leaf : Leaf) (w : Window) (facts : List Fact)
    → LeafAgreesInRegion table limits claims (settled w facts).facts leaf (settled w facts).window → LeafAgreesInRegion table limits claims facts leaf w

-- where what is left, settled, ends as a leaf does, they agree
abbrev pub EndsAgree : Type 0
EndsAgree = (table : Table) (limits : Limits) (claims : List Claim) (claim : Claim) (leaf : Leaf) (w : Window) (facts : List Fact)
    → end_of (whole (settled w facts).window.front) ≡ Some leaf → LeafAgrees table limits claims claim facts leaf w

-- ---- what is begun

-- an entry begins with one window and facts at most
abbrev pub OneBeginning : Type 0
OneBeginning = (table : Table) (limits : Limits) (opening : Opening) (left : Remaining) (one other : Option Begun)
    → Begins table limits opening left one → Begins table limits opening left other → one ≡ other

-- where no region is entered, what was left agrees with a leaf where that with which an entry begins does
abbrev pub BegunAgrees : Type 0
BegunAgrees = (table : Table) (limits : Limits) (claims : List Claim) (claim : Claim) (leaf : Leaf) (opening : Opening) (left : Remaining) (begun : Begun)
    → IsProper left.window → BeginsWith table limits opening left begun → begun.entered ≡ false
    → LeafAgrees table limits claims claim begun.facts leaf begun.window → LeafAgrees table limits claims claim left.facts leaf left.window

-- where one is entered, it does where the other does in a region
abbrev pub EnteredAgrees : Type 0
EnteredAgrees = (table : Table) (limits : Limits) (claims : List Claim) (claim : Claim) (leaf : Leaf) (opening : Opening) (left : Remaining) (begun : Begun)
    → Positive limits → BeginsWith table limits opening left begun → begun.entered ≡ true
    → LeafAgreesInRegion table limits claims begun.facts leaf begun.window → LeafAgrees table limits claims claim left.facts leaf left.window

-- and in a region both are alike
abbrev pub BegunAgreesInRegion : Type 0
BegunAgreesInRegion = (table : Table) (limits : Limits) (claims : List Claim) (leaf : Leaf) (opening : Opening) (left : Remaining) (begun : Begun)
    → Positive limits → IsProper left.window → BeginsWith table limits opening left begun
    → LeafAgreesInRegion table limits claims begun.facts leaf begun.window → LeafAgreesInRegion table limits claims left.facts leaf left.window

-- ---- arriving

-- what is found to arrive at a claim arrives there
abbrev pub FoundArrivals : Type 0
FoundArrivals = (claim : Claim) (w : Window) (held : List Fact) → Arrives w held claim.window claim.facts → ArrivesAt w held claim

-- progress is found exactly where it is made
abbrev pub FoundProgress : Type 0
FoundProgress = (claim next : Claim) (w : Window)
    → (progress claim.rank (front_tag (whole claim.window.front)) next.rank (whole w.front) ≡ true) ↔ MakesProgress claim w next

-- ---- together

-- a region was entered, or progress is found from one claim to the next
abbrev pub GoesOn : (claim next : Claim) → Begun → Type 0
GoesOn claim next begun =
    (begun.entered ≡ true) ⊎ (progress claim.rank (front_tag (whole claim.window.front)) next.rank (whole begun.window.front) ≡ true)

-- where what is left of a claim's window is settled, the next claim's entry begins with it, this arrives at the next claim, and there is
-- progress, it agrees with a leaf that leads to the next claim's row
abbrev pub LeavesLeadOn : Type 0
LeavesLeadOn = (table : Table) (limits : Limits) (claims : List Claim) (claim next : Claim) (opening : Opening) (w : Window) (held : List Fact) (begun : Begun)
    → Positive limits → IsProper w → Contains claims next → BeginsWith table limits opening (settled w held) begun
    → Arrives begun.window begun.facts next.window next.facts → GoesOn claim next begun → LeafAgrees table limits claims claim held (Goto next.row) w

-- where a claim's entry begins with a window, once a region was entered or at the start, and arrives at the claim, the window agrees with a leaf that leads to the claim's row
abbrev pub RegionsLeadOn : Type 0
RegionsLeadOn = (table : Table) (limits : Limits) (claims : List Claim) (next : Claim) (opening : Opening) (left : Remaining) (begun : Begun)
    → Positive limits → IsProper left.window → Contains claims next → BeginsWith table limits opening left begun
    → Arrives begun.window begun.facts next.window next.facts → LeafAgreesInRegion table limits claims left.facts (Goto next.row) left.window
