use Rattle.std.proofs.Common.{◌≡◌, ◌+◌, Ok, Err, take, drop, sym, ap, ◌∙◌, refl, arith}
use Rattle.std.proofs.lemmas.Result.{err_from_is_err_and}
use Rattle.std.proofs.lemmas.List.{take_rest, length-drop, length-take-le}
use Rattle.pc_lexer.specs.Bytes.{line_feeds}
use Rattle.pc_lexer.specs.Piece.{piece_at}
use Rattle.pc_lexer.specs.Cut.{fresh_after}
use Rattle.pc_lexer.specs.Tokens.{kind_of, fault_at, lexed}
use Rattle.pc_lexer.specs.models.Steps.{spellings}
use Rattle.pc_lexer.proofs.Fronts.{Front}
use Rattle.pc_lexer.proofs.Begun.{piece_fits}
use Rattle.pc_lexer.proofs.Reading.{Reads, spelled_at, reads_first, reads_last, uses_last, reads_stuck, reads_kept, reads_moved, reads_refused, exact_fault, line_within, length-with_token, few_kept}
use Rattle.pc_lexer.proofs.lexing.lex.Goals as goal
use Rattle.pc_lexer.proofs.lexing.lex.Goals.{In-Ok, In_ok-kind, In_ok-keep}

-- the piece that was found
found_piece : (c : In-Ok) → piece_at c.loop-offset.fresh (drop c.loop-offset.offset c.args.text.now) ≡ Ok c.in-Ok.piece
found_piece c = sym (rw take_rest at c.in-Ok.ensures)

piece_fits_text : (c : In-Ok) → Front c.in-Ok.piece.length (drop c.loop-offset.offset c.args.text.now)
piece_fits_text c = piece_fits c.loop-offset.fresh (drop c.loop-offset.offset c.args.text.now) c.in-Ok.piece (found_piece c)

-- the token that it is
found_kind : (c : In_ok-kind)
    → kind_of (spellings c.loop-offset.names.keys) (spelled_at c.args.text.now c.loop-offset.offset c.in-Ok.piece) c.in-Ok.piece.shape ≡ c.in_ok-kind.kind
found_kind c = sym (rw take_rest at c.in_ok-kind.ensures.kind)

-- the state after it
next : (c : In_ok-keep)
    → piece_at c.loop-offset.fresh (drop c.loop-offset.offset c.args.text.now) ≡ Ok c.in-Ok.piece
    → kind_of (spellings c.loop-offset.names.keys) (spelled_at c.args.text.now c.loop-offset.offset c.in-Ok.piece) c.in-Ok.piece.shape ≡ c.in_ok-kind.kind
    → Reads c.args.text.now c.keep.new.found (spellings c.kind_of.new.names.keys) (c.loop-offset.offset + c.in-Ok.piece.length)
    (c.loop-offset.line + line_feeds (spelled_at c.args.text.now c.loop-offset.offset c.in-Ok.piece))
    (fresh_after c.loop-offset.fresh (spelled_at c.args.text.now c.loop-offset.offset c.in-Ok.piece))
next c piece kind =
    let l = c.loop-offset in
    reads_moved c.in_ok-keep.ensures.kept (rw take_rest at c.in_ok-kind.ensures.kept) refl refl
    (reads_kept c.args.text.now l.tokens (spellings l.names.keys) l.offset l.line l.fresh l.invariant.reads (omega arith)
    c.in-Ok.piece piece c.in_ok-kind.kind kind c.in_ok-keep.ensures.room)

pub loop-offset-init : goal.loop-offset-init
loop-offset-init c = record {
  reads = reads_first c.args.text.now c.new-tokens.result (spellings c.new-names.result.keys) c.new-tokens.ensures (ap spellings c.new-names.ensures.empty);
  few = rw c.new-tokens.ensures (omega arith);
  names_few = rw (c.new-names.ensures.len, c.new-tokens.ensures) (omega arith);
}

pub returns-in-Err-clause-tokens : goal.returns-in-Err-clause-tokens
returns-in-Err-clause-tokens c =
    let l = c.loop-offset in
    let r = l.invariant.reads in
    let h : piece_at l.fresh (drop l.offset c.args.text.now) ≡ Err c.in-Err.why = sym (rw take_rest at c.in-Err.ensures) in
    let before = take l.offset c.args.text.now in
    let same = c.fault_at.ensures before (length-take-le l.offset c.args.text.now r.within) (sym r.line_is) in
    exact_fault c.fault_at.result (lexed c.args.text.now)
    (reads_stuck c.args.text.now l.tokens (spellings l.names.keys) l.offset l.line l.fresh r (omega arith) c.in-Err.why h
    ∙ ap Err (sym (same ∙ ap (λ n. fault_at n c.in-Err.why before) c.len.ensures)))

pub slice_bounds-spelling-end : goal.slice_bounds-spelling-end
slice_bounds-spelling-end c =
    let f = piece_fits_text (goal.at.slice_bounds-spelling-end c).In-Ok in
    rw take_rest (sym (length-take-le c.in-Ok.piece.length (drop c.loop-offset.offset c.args.text.now) f.within))

pub returns-in_err-keep-clause-tokens : goal.returns-in_err-keep-clause-tokens
returns-in_err-keep-clause-tokens c =
    let at = goal.at.returns-in_err-keep-clause-tokens c in
    let p = err_from_is_err_and c.from_residual-in_err-keep.result c.from_residual-in_err-keep.ensures.1 in
    let l = c.loop-offset in
    rw (p.1, p.2)
    (reads_refused c.args.text.now l.tokens (spellings l.names.keys) l.offset l.line l.fresh l.invariant.reads (omega arith)
    c.in-Ok.piece (found_piece at.In-Ok) c.in_ok-kind.kind c.in_err-keep.field-0.0 (found_kind at.In_ok-kind) c.in_err-keep.ensures.refused)

pub overflow_add-offset : goal.overflow_add-offset
overflow_add-offset c =
    let f = piece_fits_text (goal.at.overflow_add-offset c).In-Ok in
    omega (arith, f.within, length-drop c.loop-offset.offset c.args.text.now)

pub overflow_add-line : goal.overflow_add-line
overflow_add-line c =
    let at = goal.at.overflow_add-line c in
    let feeds : c.line_feeds.result ≡ line_feeds (spelled_at c.args.text.now c.loop-offset.offset c.in-Ok.piece) = rw take_rest at c.line_feeds.ensures.value in
    omega (arith, feeds, line_within (next at.In_ok-keep (found_piece at.In-Ok) (found_kind at.In_ok-kind)))

pub loop-offset-smaller : goal.loop-offset-smaller
loop-offset-smaller c =
    let f = piece_fits_text (goal.at.loop-offset-smaller c).In-Ok in
    omega (arith, f.some, f.within, length-drop c.loop-offset.offset c.args.text.now)

pub loop-offset-preserved : goal.loop-offset-preserved
loop-offset-preserved c =
    let at = goal.at.loop-offset-preserved c in
    let feeds : c.line_feeds.result ≡ line_feeds (spelled_at c.args.text.now c.loop-offset.offset c.in-Ok.piece) = rw take_rest at c.line_feeds.ensures.value in
    let l = c.loop-offset in
    record {
      reads = reads_moved refl refl (ap (λ n. l.line + n) feeds) (rw take_rest at c.fresh_after-fresh.ensures) (next at.In_ok-keep (found_piece at.In-Ok) (found_kind at.In_ok-kind));
      few = rw c.in_ok-keep.ensures.kept (few_kept l.tokens c.in_ok-kind.kind l.line l.invariant.few c.in_ok-keep.ensures.room);
      names_few = rw c.in_ok-keep.ensures.kept
          (omega (arith, length-with_token l.tokens c.in_ok-kind.kind l.line, c.in_ok-kind.ensures.room, l.invariant.names_few));
    }

pub returns-clause-tokens : goal.returns-clause-tokens
returns-clause-tokens c = reads_last c.loop-offset.invariant.reads (omega arith)

pub returns-clause-names : goal.returns-clause-names
returns-clause-names c = uses_last c.loop-offset.invariant.reads (omega arith)
