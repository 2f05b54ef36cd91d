-- What std strips is what the definition leaves out.
use Rattle.std.proofs.Common.{◌≡◌, ◌≢◌, List, ℕ, ◌∷◌, sym, lit<}
use Rattle.std.specs.Prelude.{Option, Some, None, option_map}
use Rattle.std.specs.Option.{MatchOption}
use Rattle.std.specs.Borrow.{Bor}
use Rattle.std.proofs.lemmas.Str.Pattern.{strip_prefix_char}
use Rattle.pc_command.specs.Requests.{behind_at}
use Rattle.pc_command.proofs.Sources.{behind_at-None, behind_at-Some}
use Rattle.pc_command.proofs.source.behind_at.Goals as goal

-- by what was stripped
stripped : (word : List ℕ) (read : Option (Bor (List ℕ))) → MatchOption read ((rest : List ℕ) → word ≢ 64 ∷ rest) (λ rest. word ≡ 64 ∷ rest.now)
    → option_map (λ digits. digits.now) read ≡ behind_at word
stripped word None h = sym (behind_at-None word h)
stripped word (Some rest) h = sym (behind_at-Some word rest.now h)

pub returns : goal.returns
returns c = stripped c.args.word.now _ (strip_prefix_char 64 c.args.word.now c.strip_prefix.result c.strip_prefix.ensures.cases (lit< tt))
