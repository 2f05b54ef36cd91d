-- What is so of each row of copies that was made since.
use Rattle.std.proofs.Common.{◌≡◌, inl, inr, ℕ, suc, ◌+◌, List, [], ◌∷◌, ◌++◌, length, sym, ap, subst, arith}
use Rattle.std.proofs.lemmas.List.Elements.{Contains-append_left, Contains-append_right}
use Rattle.pc_word.specs.declared.item.Item.{Item}
use Rattle.pc_word.specs.declared.item.Operand.{Operand}
use Rattle.pc_word.specs.Row.{Then, Either, At_leaf, leaves_of}
use Rattle.pc_word.proofs.Truth.{decide_le}
use Rattle.pc_word.specs.declared.row_tree.RowTree.{RowTree}
use Rattle.pc_machine.specs.declared.tree.Leaf.{Leaf}
use Rattle.pc_machine.specs.declared.tree.Leaf.TheVariants.{Goto}
use Rattle.pc_machine.specs.MachineCode.{CodeRow}
use Rattle.pc_emit.specs.declared.output.Output.{Output}
use Rattle.pc_emit.specs.declared.plan.Plan.{Plan}
use Rattle.pc_emit.specs.models.Output.{Stays, OutputGrows, EachCopy}
use Rattle.pc_emit.specs.models.Making.{IsOnTheWay, LeavesReached}

-- none was made since
pub same_copies : {P : List CodeRow → ℕ → Type 0} (old new : Output) → new.copies.items ≡ old.copies.items → EachCopy P old new
same_copies old new same = record {
  each = λ final stays at low high. absurd (let many = ap (λ (l : List (RowTree Leaf)). length l) same in omega (arith, low, high, many));
}

module _ {P : List CodeRow → ℕ → Type 0} (old mid new : Output) where
  -- some were made, and then some more
  pub copies_more : OutputGrows mid new → EachCopy P old mid → EachCopy P mid new → EachCopy P old new
  copies_more grows one other = record {
    each = λ final stays at low high. elim (decide_le (suc at) (length mid.copies.items)) [
      | inl below ↦ subst (λ (b : ℕ). P final (b + at)) (sym grows.base) (one.each final (grows.stays final stays) at low below)
      | inr above ↦ other.each final stays at (omega (arith, above)) high
    ];
  }

-- what is so of one is so of each
pub copies_imply : (P Q : List CodeRow → ℕ → Type 0) (old new : Output) → ((final : List CodeRow) → Stays new final → (number : ℕ) → P final number → Q final number)
    → EachCopy P old new → EachCopy Q old new
copies_imply P Q old new implies ways = record { each = λ final stays at low high. implies final stays (new.base + at) (ways.each final stays at low high) }

-- what is reached where less is reached
pub ways_from : (plan : Plan) (Reached Known : List CodeRow → Type 0) (old new : Output)
    → ((final : List CodeRow) → Stays new final → Known final → Reached final) → EachCopy (IsOnTheWay plan Reached) old new → EachCopy (IsOnTheWay plan Known) old new
ways_from plan Reached Known old new implies ways =
    copies_imply (IsOnTheWay plan Reached) (IsOnTheWay plan Known) old new
    (λ final stays number way. record { fits = way.fits; reached = λ known. way.reached (implies final stays known) }) ways

-- ---- rows

module _ (plan : Plan) (made : CodeRow) where
  -- the leaves of a row are those after its item
  pub item_ways : (item : Item) (below : CodeRow) (old new : Output) → made ≡ Then item below → EachCopy (IsOnTheWay plan (LeavesReached (leaves_of below))) old new
      → EachCopy (IsOnTheWay plan (LeavesReached (leaves_of made))) old new
  item_ways item below old new is ways = subst (λ (m : CodeRow). EachCopy (IsOnTheWay plan (LeavesReached (leaves_of m))) old new) (sym is) ways

  -- and those of both sides of its test
  pub test_ways : (on : Operand) (yes_below no_below : CodeRow) (old mid new : Output) → made ≡ Either on yes_below no_below → OutputGrows mid new
      → EachCopy (IsOnTheWay plan (LeavesReached (leaves_of yes_below))) old mid → EachCopy (IsOnTheWay plan (LeavesReached (leaves_of no_below))) mid new
      → EachCopy (IsOnTheWay plan (LeavesReached (leaves_of made))) old new
  test_ways on yes_below no_below old mid new is grows one other =
      let all = leaves_of yes_below ++ leaves_of no_below in
      subst (λ (m : CodeRow). EachCopy (IsOnTheWay plan (LeavesReached (leaves_of m))) old new) (sym is)
      (copies_more {P = IsOnTheWay plan (LeavesReached all)} old mid new grows
      (ways_from plan (LeavesReached (leaves_of yes_below)) (LeavesReached all) old mid
      (λ final stays known number has. known number (Contains-append_left (leaves_of yes_below) (leaves_of no_below) (Goto number) has)) one)
      (ways_from plan (LeavesReached (leaves_of no_below)) (LeavesReached all) mid new
      (λ final stays known number has. known number (Contains-append_right (leaves_of yes_below) (leaves_of no_below) (Goto number) has)) other))

  -- or it is a leaf
  pub leaf_ways : (leaf : Leaf) (old new : Output) → made ≡ At_leaf leaf → EachCopy (IsOnTheWay plan (LeavesReached (leaf ∷ []))) old new
      → EachCopy (IsOnTheWay plan (LeavesReached (leaves_of made))) old new
  leaf_ways leaf old new is ways = subst (λ (m : CodeRow). EachCopy (IsOnTheWay plan (LeavesReached (leaves_of m))) old new) (sym is) ways

pub ruleset ways = (same_copies, item_ways, test_ways, leaf_ways)
