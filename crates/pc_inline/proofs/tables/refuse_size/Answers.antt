use Rattle.pc_inline.proofs.TableLaws.{too_many_statements, too_many_nodes, too_high}
use Rattle.pc_inline.proofs.tables.refuse_size.Goals as goal

pub returns-then-size-gt-MOST_STATEMENTS-clause-refused : goal.returns-then-size-gt-MOST_STATEMENTS-clause-refused
returns-then-size-gt-MOST_STATEMENTS-clause-refused c = λ a is. too_many_statements c.args.size a is c.if-size-gt-MOST_STATEMENTS.true

pub returns-then-size-gt-MOST_EXPRESSION_NODES-clause-refused : goal.returns-then-size-gt-MOST_EXPRESSION_NODES-clause-refused
returns-then-size-gt-MOST_EXPRESSION_NODES-clause-refused c = λ a is. too_many_nodes c.args.size a is c.if-size-gt-MOST_EXPRESSION_NODES.true

pub returns-then-size-ge-MOST_HEIGHT-clause-refused : goal.returns-then-size-ge-MOST_HEIGHT-clause-refused
returns-then-size-ge-MOST_HEIGHT-clause-refused c =
    λ a is. too_high c.args.size a is c.if-size-gt-MOST_STATEMENTS.false c.if-size-gt-MOST_EXPRESSION_NODES.false c.if-size-ge-MOST_HEIGHT.true
