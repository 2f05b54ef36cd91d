-- Ways through rows of copies.
use Rattle.std.proofs.Common.{◌≡◌, inl, inr, ℕ, suc, ◌+◌, ◌*◌, ◌<◌, ◌≤◌, Bool, true, List, [], ◌∷◌, ◌++◌, length, Option, Some, refl, sym, ◌∙◌, ap, subst, drop, drop-cons, get_or, arith}
use Rattle.std.specs.Prelude.{Contains}
use Rattle.std.specs.List.{AllByRecursion}
use Rattle.std.proofs.lemmas.List.{length-append, length-map}
use Rattle.std.proofs.lemmas.List.Elements.{Contains-push}
use Rattle.std.proofs.lemmas.Option.{slice_get_within, slice_get-get_or}
use Rattle.pc_word.proofs.Lists.{all_at}
use Rattle.pc_word.proofs.Truth.{decide_le}
use Rattle.pc_copies.specs.declared.moves.Move.{Move}
use Rattle.pc_copies.specs.Moves.{nontrivial_moves, one_names, copies_in, IsCopyRow, IsArranged}
use Rattle.pc_copies.proofs.Named.{named_all}
use Rattle.pc_copies.specs.Laws.{copy_row}
use Rattle.pc_machine.specs.declared.tree.Leaf.{Leaf}
use Rattle.pc_machine.specs.declared.tree.Leaf.TheVariants.{Goto}
use Rattle.pc_machine.specs.MachineCode.{CodeRow, row_of, rows_of}
use Rattle.pc_machine.specs.WellFormed.{IsLeaf, IsRow}
use Rattle.pc_machine.specs.Reachable.{Behind, HasLeafTo}
use Rattle.pc_object.specs.ObjectText.{leaf_text, row_text}
use Rattle.pc_emit.specs.declared.output.Output.{Output}
use Rattle.pc_emit.specs.declared.plan.Plan.{Plan}
use Rattle.pc_emit.specs.Emitted.{passes_none, passes_row}
use Rattle.pc_emit.specs.models.Output.{bytes_of, Stays, OutputGrows, StandsAt, PassesAlong, EachCopy}
use Rattle.pc_emit.specs.models.Layout.{rows_end, IsLeft}
use Rattle.pc_emit.specs.models.Packing.{CanMove, MovesAlong}
use Rattle.pc_emit.specs.models.Making.{CopiesMayLeadTo, IsOnTheWay, LeavesReached}
use Rattle.pc_emit.proofs.Ways.{same_copies}
use Rattle.pc_emit.proofs.Copying.{one_leaf, copies_fit, copies_short}
use Rattle.pc_emit.proofs.Texts.{bytes_more}
use Rattle.pc_emit.proofs.FewCopies.{copies_few}

-- what was made stands
pub nothing_grows : (output : Output) → OutputGrows output output
nothing_grows output = record { base = refl; more = omega arith; stays = λ final stays. stays }

-- more was made, and then more
pub grows_more : (old mid new : Output) → OutputGrows old mid → OutputGrows mid new → OutputGrows old new
grows_more old mid new one other = record {
  base = other.base ∙ one.base;
  more = let first = one.more in let second = other.more in omega (arith, first, second);
  stays = λ final stays. one.stays final (other.stays final stays);
}

pub ruleset passings = (nothing_grows, grows_more)

-- ---- from the last row of copies to the first

-- what is so of what leads through copies to a target, whatever will be made
pub record LeadsThrough (plan : Plan) (old new : Output) (from : Leaf) (copies : List (List Move)) (to : Leaf) : Type 0 where
  pub grows : OutputGrows old new
  pub rows : new.rows ≡ old.rows
  pub passes : PassesAlong new from copies to
  pub ways : EachCopy (IsOnTheWay plan (LeavesReached (from ∷ []))) old new
  pub within : (final : List CodeRow) → Stays new final → rows_end plan ≤ length final → IsLeaf (length final) from
  pub short : length (leaf_text from) ≤ 5
  pub bytes : bytes_of (rows_of new.copies.items) ≤ bytes_of (rows_of old.copies.items) + 12 * copies_in copies

-- a leaf that is within some rows is within more
pub within_more : (rows more : ℕ) (leaf : Leaf) → rows ≤ more → IsLeaf rows leaf → IsLeaf more leaf
within_more rows more (Goto row) le is = omega (arith, le, is)
within_more rows more _ le is = is

-- a target leads to itself
pub through_none : (plan : Plan) (output : Output) (to : Leaf) → CopiesMayLeadTo plan to → LeadsThrough plan output output to [] to
through_none plan output to target = record {
  grows = nothing_grows output;
  rows = refl;
  passes = record { passes = λ final stays. passes_none };
  ways = same_copies output output refl;
  within = λ final stays le. within_more (rows_end plan) (length final) to le target.within;
  short = target.short;
  bytes = omega arith;
}

module _ (scratch : ℕ) (moves : List Move) (can : CanMove scratch moves) (plan : Plan) (left : IsLeft plan scratch)
    (old mid new : Output) (number : ℕ) (row : CodeRow) (copies : List Move) (more : List (List Move)) (next to : Leaf) (is : row ≡ copy_row copies next)
    (through : LeadsThrough plan old mid next more to) (grows : OutputGrows mid new) (stands : StandsAt new number row)
    (fits : IsCopyRow (one_names (nontrivial_moves moves)) plan.limits.ops scratch copies) where
  -- what leads to the row
  abbrev Here : List CodeRow → Type 0
  Here = LeavesReached (Goto number ∷ [])

  -- where it is reached, so is what it leads to
  leads_on : (final : List CodeRow) → Stays new final → Here final → LeavesReached (next ∷ []) final
  leads_on final stays reached to has =
      Behind (reached number (Contains-push [] (Goto number))) (stands.stands final stays)
      (subst (λ (r : CodeRow). HasLeafTo r to) (sym is) (subst (λ (l : List Leaf). Contains l (Goto to)) (sym (one_leaf copies next)) has))

  -- the registers that the moves name
  moves_below : (count : ℕ) → scratch < count → (register : ℕ) → one_names (nontrivial_moves moves) register ≡ true → register < count
  moves_below count room = named_all (λ register. register < count) moves (λ at move there.
      let low = can.below at move there in
      record { dest = let first = low.dest in omega (arith, first, room); from = λ register e. let second = low.from register e in omega (arith, second, room) })

  -- the row itself
  own_way : (final : List CodeRow) → Stays new final → IsOnTheWay plan Here final number
  own_way final stays = record {
    fits = λ count enough le other there.
        let same : row ≡ other = same_row (stands.stands final stays) there in
        subst (IsRow plan.limits count (length plan.table.now.arrays) (length final)) (sym is ∙ same)
        (copies_fit count (one_names (nontrivial_moves moves)) scratch (moves_below count (left count enough)) (left count enough)
        plan.limits (length plan.table.now.arrays) (length final) copies next fits (through.within final (grows.stays final stays) le));
    reached = λ reached. reached number (Contains-push [] (Goto number));
  }
    where
      same_row : {it : Option CodeRow} {other : CodeRow} → it ≡ Some row → it ≡ Some other → row ≡ other
      same_row e f = cc

  -- those made before it
  earlier_way : (final : List CodeRow) → Stays new final → (at : ℕ) → IsOnTheWay plan (LeavesReached (next ∷ [])) final (mid.base + at) → IsOnTheWay plan Here final (new.base + at)
  earlier_way final stays at way =
      subst (λ (b : ℕ). IsOnTheWay plan Here final (b + at)) (sym grows.base)
      (record { fits = way.fits; reached = λ reached. way.reached (leads_on final stays reached) })

  -- through one row more
  pub through_one : new.rows ≡ mid.rows → rows_of new.copies.items ≡ rows_of mid.copies.items ++ row ∷ [] → number ≡ mid.base + length mid.copies.items
      → LeadsThrough plan old new (Goto number) (copies ∷ more) to
  through_one same added at = record {
    grows = grows_more old mid new through.grows grows;
    rows = same ∙ through.rows;
    passes = record {
      passes = λ final stays. passes_row (stands.stands final stays ∙ ap (λ (r : CodeRow). Some r) is) (through.passes.passes final (grows.stays final stays));
    };
    ways = record {
      each = λ final stays place low high. elim (decide_le (suc place) (length mid.copies.items)) [
        | inl below ↦ earlier_way final stays place (through.ways.each final (grows.stays final stays) place low below)
        | inr above ↦ subst (IsOnTheWay plan Here final) (last place above high) (own_way final stays)
      ];
    };
    within = λ final stays le. slice_get_within final number row (stands.stands final stays);
    short = omega arith;
    bytes =
        let before = through.bytes in
        let now = ap bytes_of added ∙ bytes_more (rows_of mid.copies.items) row in
        let one = subst (λ (r : CodeRow). length (row_text r) ≤ 12 * length copies) (sym is) (copies_short copies next fits.some through.short) in
        omega (arith, before, now, one);
  }
    where
      many : length new.copies.items ≡ suc (length mid.copies.items)
      many =
          let all = ap (λ (l : List CodeRow). length l) added in
          let both = length-append (rows_of mid.copies.items) (row ∷ []) in
          let old = length-map mid.copies.items row_of in
          let now = length-map new.copies.items row_of in
          omega (arith, all, both, old, now)

      last : (place : ℕ) → length mid.copies.items < suc place → place < length new.copies.items → number ≡ new.base + place
      last place above high = let count = many in let base = grows.base in omega (arith, at, above, high, count, base)

-- at the end of a list nothing is left
pub through_rest_of_none : (plan : Plan) (output : Output) (rows : List (List Move)) (to : Leaf) → CopiesMayLeadTo plan to → LeadsThrough plan output output to (drop (length rows) rows) to
through_rest_of_none plan output rows to target =
    subst (λ (l : List (List Move)). LeadsThrough plan output output to l to) (sym (none_left rows)) (through_none plan output to target)
  where
    none_left : (xs : List (List Move)) → drop (length xs) xs ≡ []
    none_left [] = refl
    none_left (x ∷ xs) = none_left xs

-- what is left from a place on begins with what stands there
pub through_from : (plan : Plan) (old new : Output) (rows : List (List Move)) (at : ℕ) (copies : List Move) (from to : Leaf) → at < length rows → copies ≡ get_or rows at copies
    → LeadsThrough plan old new from (copies ∷ drop (suc at) rows) to → LeadsThrough plan old new from (drop at rows) to
through_from plan old new rows at copies from to lt is through =
    subst (λ (l : List (List Move)). LeadsThrough plan old new from l to)
    (sym (drop-cons rows at copies lt ∙ ap (λ (c : List Move). c ∷ drop (suc at) rows) (sym is))) through

-- the row at a place is one
pub row_at : (named : ℕ → Bool) (ops scratch : ℕ) (rows : List (List Move)) (at : ℕ) (copies : List Move) → AllByRecursion (IsCopyRow named ops scratch) rows → at < length rows
    → copies ≡ get_or rows at copies → IsCopyRow named ops scratch copies
row_at named ops scratch rows at copies all lt is =
    all_at (IsCopyRow named ops scratch) rows at copies all (slice_get-get_or rows at copies lt ∙ ap (λ (c : List Move). Some c) (sym is))

-- ---- through all rows

module _ (plan : Plan) (scratch : ℕ) (old new : Output) (from to : Leaf) (moves : List Move) (rows : List (List Move)) (through : LeadsThrough plan old new from rows to)
    (arranged : IsArranged moves plan.limits.ops scratch rows) where
  -- copies that were arranged do their moves on the way
  pub moves_along : MovesAlong plan scratch new from moves to
  moves_along = record { stands = λ final stays. record { copies = rows; arranged = arranged; passes = through.passes.passes final stays } }

  -- and are no longer than was counted
  pub along_short : bytes_of (rows_of new.copies.items) + length (leaf_text from) ≤ bytes_of (rows_of old.copies.items) + (5 + 24 * length moves)
  along_short =
      let bytes = through.bytes in
      let short = through.short in
      let few = copies_few moves (copies_in rows) arranged.copies in
      omega (arith, bytes, short, few)
