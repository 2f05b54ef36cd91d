-- The claims of a certificate; when a window arrives at one; and what progress on the way there is.
use Rattle.std.specs.Prelude.{◌≡◌, ℕ, ◌<◌, ◌⊎◌, List}
use Rattle.pc_word.specs.declared.item.Operand.{Operand}
use Rattle.pc_window.specs.Tree.{Tree, Pending, Undecided, Exit, Stop_exit, Trap_exit, whole}
use Rattle.pc_window.specs.Unwinding.{front_tag}
use Rattle.pc_window.specs.WindowRun.{Window}
use Rattle.pc_canon.specs.Pairs.{Pair, OperandsAlike}
use Rattle.pc_canon.specs.Shift.{ShiftedBy}
use Rattle.pc_certified.specs.Facts.{Fact, EachFact, OperandsMatch}

-- a claim: one way in which the machine may come to this row, where what is still to be done is what the window does, and the facts hold;
-- with its rank, and the window once it is arranged, whose front the row does
pub record Claim : Type 0 where
  pub row : ℕ
  pub rank : ℕ
  pub window : Window
  pub facts : List Fact
  pub arranged : Window

-- ---- arriving

-- a window, where these facts hold, arrives at a claim: it is the claim's window, or equal to it up to a shift, and the claim's facts
-- follow for the same operands, or for those that correspond
pub data ArrivesAt (window : Window) (held : List Fact) (claim : Claim) : Type 0 where
  unshifted : window ≡ claim.window → EachFact claim.facts (λ fact. OperandsMatch held fact.source fact.operand) → ArrivesAt window held claim
  shifted_by : (params : List Pair) → ShiftedBy params window claim.window
      → EachFact claim.facts (λ fact. (operand : Operand) × OperandsAlike params operand fact.operand × OperandsMatch held fact.source operand)
      → ArrivesAt window held claim

-- ---- progress

-- a tree has a test or a stub
abbrev pub HasTestOrStub : Tree → Type 0
HasTestOrStub (Pending tag origin item rest) = HasTestOrStub rest
HasTestOrStub (Undecided tag origin on on_yes on_no) = Unit {0}
HasTestOrStub (Exit region tag homes) = Unit {0}
HasTestOrStub Stop_exit = ⊥
HasTestOrStub (Trap_exit kind line) = ⊥

-- from one claim to the next, at which a window arrives, there is progress: the rank falls, or the window's least tag is above that of
-- the claim's window and it has a test or stub
abbrev pub MakesProgress : (claim : Claim) (window : Window) (next : Claim) → Type 0
MakesProgress claim window next =
    (next.rank < claim.rank) ⊎ ((front_tag (whole claim.window.front) < front_tag (whole window.front)) × HasTestOrStub (whole window.front))
