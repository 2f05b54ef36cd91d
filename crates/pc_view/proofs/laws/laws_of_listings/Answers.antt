-- The laws are lemmas.
use Rattle.pc_view.proofs.Feeds.{feeds-listing}
use Rattle.pc_view.proofs.Lines.{length-listing_lines, tree_ends}
use Rattle.pc_view.proofs.laws.laws_of_listings.Goals as goal

pub returns-clause-parts : goal.returns-clause-parts
returns-clause-parts c = tree_ends

pub returns-clause-lines : goal.returns-clause-lines
returns-clause-lines c = length-listing_lines

pub returns-clause-line_feeds : goal.returns-clause-line_feeds
returns-clause-line_feeds c = feeds-listing
