use Rattle.std.proofs.Common.{ap, sym, ◌∙◌, ◌∷◌, [], ◌++◌, map, take}
use Rattle.std.specs.Prelude.{string_bytes}
use Rattle.std.specs.Str.Lossy.{utf8_lossy}
use Rattle.std.proofs.lemmas.List.{map-append, take_more}
use Rattle.pc_names.specs.Spellings.{name_bytes, name_of}
use Rattle.pc_names.proofs.names.spelled_names.Goals as goal

-- the name of one symbol more
pub loop-symbol-preserved : goal.loop-symbol-preserved
loop-symbol-preserved c =
    let name = name_of (name_bytes c.args.names.now) in
    let symbols = c.args.symbols.now in
    let at = c.loop-symbol.symbol-index in
    let more = ap (map name) (take_more symbols at 0 c.loop-symbol-test.true) ∙ map-append name (take at symbols) _ in
    let pushed = c.in_ok-name.ensures.lossy ∙ ap utf8_lossy c.spelled.ensures in
    ap (map string_bytes) c.in_ok-push.ensures.ok ∙ map-append string_bytes c.loop-symbol.found _ ∙ (λ i. c.loop-symbol.invariant i ++ pushed i ∷ []) ∙ sym more
