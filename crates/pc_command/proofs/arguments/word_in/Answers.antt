-- The word that is read is the one of the definition.
use Rattle.std.proofs.Common.{◌≡◌, ◌∙◌, List, ℕ, [], refl, sym, ap}
use Rattle.std.specs.Prelude.{Option, Some, None, option_map, unwrap_or}
use Rattle.std.specs.Borrow.{Bor}
use Rattle.std.specs.Option.{IsSome}
use Rattle.clap.specs.Matches.{found_of}
use Rattle.clap.proofs.WalkLemmas.{first_value-rows}
use Rattle.pc_command.specs.Arguments.{word_in}
use Rattle.pc_command.proofs.arguments.word_in.Goals as goal

-- a word is read where there is one
is_read : (read : Option (Bor (List ℕ))) (found : Option (List ℕ)) → option_map (λ word. word.now) read ≡ found → IsSome found → IsSome read
is_read None found e some = absurd (let bad = rw (← e) at some in cc)
is_read (Some word) found e some = refl

pub unwrap-requires : goal.unwrap-requires
unwrap-requires c = is_read c.get_str.result _ (c.get_str.ensures ∙ first_value-rows (found_of c.args.matches.now) c.args.name.now) c.requires

pub returns : goal.returns
unfolding word_in
returns c =
    ap (λ (o : Option (List ℕ)). unwrap_or o [])
    (ap (option_map (λ (word : Bor (List ℕ)). word.now)) (sym c.unwrap.ensures) ∙ c.get_str.ensures ∙ first_value-rows (found_of c.args.matches.now) c.args.name.now)
