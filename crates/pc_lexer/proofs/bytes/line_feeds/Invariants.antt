use Rattle.std.proofs.Common.{◌≡◌, take}
use Rattle.pc_lexer.specs.Bytes.{line_feeds}
use Rattle.pc_lexer.proofs.bytes.line_feeds.Given as goal

-- the line feeds that were passed are counted
abbrev pub invariant-loop-byte : goal.invariant-loop-byte
invariant-loop-byte l = l.count ≡ line_feeds (take l.byte-index l.bytes)
