-- Where what is left at a leaf leads: to the end, or to the entry of the row that comes next.
use Rattle.std.specs.Prelude.{◌≡◌, ℕ, suc, Bool, true, false, ◌||◌, List, [], ◌∷◌, Option, Some, None, Result, Ok, Err, slice_get, slice_set}
use Rattle.pc_table.specs.Table.{Table}
use Rattle.pc_machine.specs.declared.tree.Leaf.{Leaf}
use Rattle.pc_machine.specs.declared.tree.Leaf.TheVariants.{Goto, Stop, Trap}
use Rattle.pc_machine.specs.MachineCode.{RowCode}
use Rattle.pc_cert.specs.declared.certificate.Entry.{Entry}
use Rattle.pc_window.specs.Tree.{Tree, whole}
use Rattle.pc_window.specs.WindowRun.{Window}
use Rattle.pc_window.specs.Steps.{with_tree}
use Rattle.pc_certified.specs.Facts.{Fact}
use Rattle.pc_settling.specs.Remaining.{Remaining}
use Rattle.pc_settling.specs.Settled.{settled}
use Rattle.pc_settling.specs.Begun.{Begun, Begins, BeginsWith}
use Rattle.pc_settling.specs.Arrives.{Arrives, progress, end_of}
use Rattle.pc_accepted.specs.declared.flaw.LeafFlaw.{LeafFlaw}
use Rattle.pc_accepted.specs.declared.flaw.LeafFlaw.TheVariants.{OtherEnd, NoEntry, NoBeginning, NoParameter, NoArrival, NoProgress}
use Rattle.pc_accepted.specs.Arrivals.{Arrivals, FirstArrival, IsEntryOf, entry_number, first_arrival}

-- what stays the same while entries are gone through: the table, the code, and the entries
pub record Setting : Type 0 where
  pub table : Table
  pub code : RowCode
  pub entries : List Entry

-- the entry whose row is left: its rank, and the least tag of its window
pub record Departure : Type 0 where
  pub rank : ℕ
  pub tag : ℕ

-- whether there is progress to an entry: always from the start; else where a region was entered, or from one window to the other
abbrev pub has_progress : Option Departure → Begun → Entry → Bool
has_progress None begun entry = true
has_progress (Some departure) begun entry = begun.entered || progress departure.rank departure.tag entry.rank (whole begun.window.front)

-- ---- to an entry

-- a row's entry begins with what is left, and then stands for this
pub record Reaches (setting : Setting) (left : Remaining) (arrivals : Arrivals) (row number : ℕ) (entry : Entry) (begun : Begun) (arrived : FirstArrival) : Type 0 where
  pub of_row : IsEntryOf setting.entries row number entry
  pub begins : BeginsWith setting.table setting.code.limits entry.opening left begun
  pub before : Option FirstArrival
  pub was : slice_get arrivals number ≡ Some before
  pub stands : first_arrival before begun.window entry ≡ Some arrived

-- what has arrived where, once what is left leads to a row; or the first reason why it does not
pub data Leads (setting : Setting) (departure : Option Departure) (left : Remaining) (arrivals : Arrivals) (row : ℕ) : Result Arrivals LeafFlaw → Type 0 where
  leads_nowhere : entry_number setting.entries row ≡ None → Leads setting departure left arrivals row (Err NoEntry)
  does_not_begin : {number : ℕ} {entry : Entry} → IsEntryOf setting.entries row number entry
      → Begins setting.table setting.code.limits entry.opening left None → Leads setting departure left arrivals row (Err NoBeginning)
  has_no_parameter : {number : ℕ} {entry : Entry} {begun : Begun} → IsEntryOf setting.entries row number entry
      → BeginsWith setting.table setting.code.limits entry.opening left begun → slice_get arrivals number ≡ Some None
      → first_arrival None begun.window entry ≡ None → Leads setting departure left arrivals row (Err NoParameter)
  does_not_arrive : {number : ℕ} {entry : Entry} {begun : Begun} {arrived : FirstArrival} → Reaches setting left arrivals row number entry begun arrived
      → (Arrives begun.window begun.facts arrived.window arrived.facts → ⊥) → Leads setting departure left arrivals row (Err NoArrival)
  has_none : {number : ℕ} {entry : Entry} {begun : Begun} {arrived : FirstArrival} → Reaches setting left arrivals row number entry begun arrived
      → Arrives begun.window begun.facts arrived.window arrived.facts → has_progress departure begun entry ≡ false
      → Leads setting departure left arrivals row (Err NoProgress)
  leads_to : {number : ℕ} {entry : Entry} {begun : Begun} {arrived : FirstArrival} → Reaches setting left arrivals row number entry begun arrived
      → Arrives begun.window begun.facts arrived.window arrived.facts → has_progress departure begun entry ≡ true
      → Leads setting departure left arrivals row (Ok (slice_set arrivals number (Some arrived)))

-- ---- at a leaf

-- a leaf is an end
abbrev pub IsEnd : Leaf → Type 0
IsEnd (Goto row) = ⊥
IsEnd Stop = Unit {0}
IsEnd (Trap kind line) = Unit {0}

-- what has arrived where, once a leaf is passed at which this is left: as before, where it ends alike; else by the entry of the row that comes
-- next; or why it does not lead on
pub data LeadsOn (setting : Setting) (departure : Departure) (left : Remaining) (arrivals : Arrivals) : Leaf → Result Arrivals LeafFlaw → Type 0 where
  ends : {leaf : Leaf} → IsEnd leaf → end_of (whole left.window.front) ≡ Some leaf → LeadsOn setting departure left arrivals leaf (Ok arrivals)
  ends_otherwise : {leaf : Leaf} → IsEnd leaf → (end_of (whole left.window.front) ≡ Some leaf → ⊥)
      → LeadsOn setting departure left arrivals leaf (Err OtherEnd)
  goes_to : {row : ℕ} {outcome : Result Arrivals LeafFlaw} → Leads setting (Some departure) left arrivals row outcome
      → LeadsOn setting departure left arrivals (Goto row) outcome

-- ---- at all leaves of a row

-- the leaf that does not lead on, by its number, and why
pub record LeafRefusal : Type 0 where
  pub leaf : ℕ
  pub why : LeafFlaw

-- what has arrived where, once the leaves of a row are passed, in preorder, from this number on: at each, where its facts hold, a tree of
-- this window is left, and is settled; or the first leaf that does not lead on
pub data AllLeadOn (setting : Setting) (departure : Departure) (arranged : Window) : (number : ℕ) → Arrivals → List (List Fact) → List Leaf → List Tree
    → Result Arrivals LeafRefusal → Type 0 where
  all_lead_on : {number : ℕ} {arrivals : Arrivals} → AllLeadOn setting departure arranged number arrivals [] [] [] (Ok arrivals)
  one_leads_on : {number : ℕ} {arrivals later : Arrivals} {held : List Fact} {helds : List (List Fact)} {leaf : Leaf} {leaves : List Leaf} {rest : Tree}
      {rests : List Tree} {outcome : Result Arrivals LeafRefusal}
      → LeadsOn setting departure (settled (with_tree arranged rest) held) arrivals leaf (Ok later)
      → AllLeadOn setting departure arranged (suc number) later helds leaves rests outcome
      → AllLeadOn setting departure arranged number arrivals (held ∷ helds) (leaf ∷ leaves) (rest ∷ rests) outcome
  one_is_refused : {number : ℕ} {arrivals : Arrivals} {held : List Fact} {helds : List (List Fact)} {leaf : Leaf} {leaves : List Leaf} {rest : Tree}
      {rests : List Tree} {why : LeafFlaw}
      → LeadsOn setting departure (settled (with_tree arranged rest) held) arrivals leaf (Err why)
      → AllLeadOn setting departure arranged number arrivals (held ∷ helds) (leaf ∷ leaves) (rest ∷ rests) (Err (record { leaf = number; why = why }))
