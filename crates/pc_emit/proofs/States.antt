-- The rows of the states of a packed region, one after the other.
use Rattle.std.proofs.Common.{◌≡◌, inl, inr, ℕ, zero, suc, ◌+◌, ◌≤◌, List, [], ◌∷◌, ◌++◌, length, Some, refl, sym, ◌∙◌, ap, subst, drop, arith}
use Rattle.std.specs.Prelude.{slice_get, slice_index}
use Rattle.pc_word.specs.Row.{leaves_of}
use Rattle.pc_word.proofs.Truth.{decide_le}
use Rattle.pc_automaton.specs.Automaton.{AutomatonState}
use Rattle.pc_word.specs.declared.row_tree.RowTree.{RowTree}
use Rattle.pc_machine.specs.declared.tree.Leaf.{Leaf}
use Rattle.pc_machine.specs.MachineCode.{CodeRow, rows_of}
use Rattle.pc_machine.specs.Reachable.{Behind}
use Rattle.pc_object.specs.ObjectText.{row_text}
use Rattle.pc_emit.specs.Bytes.{row_bytes, states_bytes}
use Rattle.pc_emit.specs.declared.output.Output.{Output}
use Rattle.pc_emit.specs.declared.plan.Plan.{Plan}
use Rattle.pc_emit.specs.declared.packed.PackedSite.{PackedSite}
use Rattle.pc_emit.specs.models.Output.{bytes_of, OutputGrows, StandsAt, EachCopy}
use Rattle.pc_emit.specs.models.Layout.{states_at, names_at, IsSite}
use Rattle.pc_emit.specs.models.Packing.{RowMade, StateMade, StatesMade}
use Rattle.pc_emit.specs.models.Making.{IsOnTheWay, LeavesReached, RowsReached}
use Rattle.pc_emit.proofs.Passings.{nothing_grows, grows_more}
use Rattle.pc_emit.proofs.Texts.{bytes_more}
use Rattle.pc_emit.proofs.Ways.{same_copies}

-- the bytes of rows and of copies
abbrev pub bytes_made : Output → ℕ
bytes_made output = bytes_of (rows_of output.rows) + bytes_of (rows_of output.copies.items)

-- the rows of the first states were appended to others
pub record StatesSoFar (plan : Plan) (site : PackedSite) (old new : Output) (count : ℕ) : Type 0 where
  pub grows : OutputGrows old new
  pub count_is : length new.rows ≡ length old.rows + count
  pub made : StatesMade plan site count new
  pub ways : EachCopy (IsOnTheWay plan (RowsReached (length old.rows) (length new.rows))) old new
  pub short : bytes_made new + states_bytes (drop count (states_at site)) ≤ bytes_made old + states_bytes (states_at site)

module _ (plan : Plan) (site : PackedSite) (old : Output) where
  -- at first none was
  pub no_states : StatesSoFar plan site old old 0
  no_states = record {
    grows = nothing_grows old;
    count_is = omega arith;
    made = record { each = λ number state lt there. absurd (omega (arith, lt)) };
    ways = same_copies old old refl;
    short = omega arith;
  }

  module _ (mid later new : Output) (number : ℕ) (state : AutomatonState) (made : CodeRow) (so_far : StatesSoFar plan site old mid number)
      (there : slice_get (states_at site) number ≡ Some state) (grows : OutputGrows mid later) (same : later.rows ≡ mid.rows)
      (row_made : RowMade plan site (names_at site number) later state.row made)
      (ways : EachCopy (IsOnTheWay plan (LeavesReached (leaves_of made))) mid later)
      (short : bytes_of (rows_of later.copies.items) + length (row_text made) ≤ bytes_of (rows_of mid.copies.items) + row_bytes state.row)
      (grows_too : OutputGrows later new) (copies : new.copies.items ≡ later.copies.items) (added : rows_of new.rows ≡ rows_of later.rows ++ made ∷ [])
      (count_more : length new.rows ≡ length later.rows + 1) (stands : StandsAt new (length later.rows) made) where
    same_count : length later.rows ≡ length mid.rows
    same_count = ap (λ (l : List (RowTree Leaf)). length l) same

    -- and one state more
    pub one_more_state : IsSite plan site → length old.rows ≡ site.first → StatesSoFar plan site old new (number + 1)
    one_more_state is begins = record {
      grows = grows_more old later new (grows_more old mid later so_far.grows grows) grows_too;
      count_is = let before = so_far.count_is in let one = same_count in omega (arith, before, one, count_more);
      made = record {
        each = λ at it lt its. elim (decide_le (suc at) number) [
          | inl below ↦ record { stands = λ final stays. (so_far.made.each at it below its).stands final (grows.stays final (grows_too.stays final stays)) }
          | inr above ↦ let is_last : number ≡ at = omega (arith, lt, above) in last at it is_last its
        ];
      };
      ways = record {
        each = λ final stays at low high. elim (decide_le (suc at) (length mid.copies.items)) [
          | inl below ↦
              let way = so_far.ways.each final (grows.stays final (grows_too.stays final stays)) at low below in
              let base : mid.base ≡ new.base = sym (grows_too.base ∙ grows.base) in
              subst (λ (b : ℕ). IsOnTheWay plan (RowsReached (length old.rows) (length new.rows)) final (b + at)) base
              (record { fits = way.fits; reached = λ reached. way.reached (λ row from to. reached row from (let one = same_count in omega (arith, to, one, count_more))) })
          | inr above ↦
              let many = ap (λ (l : List (RowTree Leaf)). length l) copies in
              let way = ways.each final (grows_too.stays final stays) at (omega (arith, above)) (omega (arith, high, many)) in
              subst (λ (b : ℕ). IsOnTheWay plan (RowsReached (length old.rows) (length new.rows)) final (b + at)) (sym grows_too.base)
              (record {
                fits = way.fits;
                reached = λ reached. way.reached (λ to has. Behind (reached (length later.rows)
                    (let one = same_count in let before = so_far.count_is in omega (arith, one, before)) (omega (arith, count_more))) (stands.stands final stays) has);
              })
        ];
      };
      short =
          let before = so_far.short in
          let rows = ap bytes_of added ∙ bytes_more (rows_of later.rows) made in
          let old_rows = ap (λ (l : List (RowTree Leaf)). bytes_of (rows_of l)) same in
          let new_copies = ap (λ (l : List (RowTree Leaf)). bytes_of (rows_of l)) copies in
          let left = next_left (states_at site) number there in
          omega (arith, before, short, rows, old_rows, new_copies, left);
    }
      where
        next_left : (states : List AutomatonState) (number : ℕ) → slice_get states number ≡ Some state
            → states_bytes (drop number states) ≡ row_bytes state.row + states_bytes (drop (number + 1) states)
        next_left [] number e = absurd (cc)
        next_left (first ∷ states) zero e = let same : first ≡ state = (cc) in ap (λ (s : AutomatonState). row_bytes s.row + states_bytes states) same
        next_left (first ∷ states) (suc number) e =
            let next : suc number + 1 ≡ suc (number + 1) = omega arith in
            next_left states number e ∙ ap (λ (n : ℕ). row_bytes state.row + states_bytes (drop n (first ∷ states))) (sym next)

        last : (at : ℕ) (it : AutomatonState) → number ≡ at → slice_get (states_at site) at ≡ Some it → StateMade plan site at new it
        last at it e its = subst (λ (n : ℕ). StateMade plan site n new it) e (subst (λ (s : AutomatonState). StateMade plan site number new s) is_state here)
          where
            is_state : state ≡ it
            is_state = let both = sym there ∙ ap (slice_get (states_at site)) e ∙ its in cc

            place : length later.rows ≡ slice_index plan.entries.now site.region + number
            place = let one = same_count in let before = so_far.count_is in let at = is.begins in omega (arith, one, before, begins, at)

            here : StateMade plan site number new state
            here = record {
              stands = λ final stays. record {
                row = made;
                there = subst (λ (n : ℕ). slice_get final n ≡ Some made) place (stands.stands final stays);
                stands = row_made.stands final (grows_too.stays final stays);
              };
            }

  -- so all of them
  pub all_states : (new : Output) → StatesSoFar plan site old new (length site.automaton.now) → bytes_made new ≤ bytes_made old + states_bytes (states_at site)
  all_states new so_far = let short = so_far.short in omega (arith, short)

pub ruleset states = (no_states, one_more_state, all_states)
