use Rattle.pc_object.proofs.Ranges.{few_rows, few_words, all_in_range, has_words}
use Rattle.pc_object.proofs.encoding.encode.Goals as goal

pub push_header-requires-clause-initial : goal.push_header-requires-clause-initial
push_header-requires-clause-initial c = few_words c.args.object.now c.requires

pub push_header-requires-clause-rows : goal.push_header-requires-clause-rows
push_header-requires-clause-rows c = few_rows c.args.object.now c.requires

pub push_rows-requires : goal.push_rows-requires
push_rows-requires c = rw c.as_slice.ensures (all_in_range c.args.object.now c.requires)

pub returns-clause-words : goal.returns-clause-words
returns-clause-words c =
    has_words c.args.object.now c.in_ok-push_header.ensures.words (rw (← c.as_slice.ensures) c.in_ok-push_rows.ensures.words) (rw (← c.as_slice-2.ensures) c.in_ok-push_notes.ensures.words)
