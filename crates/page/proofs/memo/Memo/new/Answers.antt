-- Nothing is remembered at first.
use borrow.Author.Rules.{rules}
use Rattle.words.specs.Width.{prop_width}
use Rattle.words.proofs.Zeros.{zeros}
use Rattle.page.specs.Memo.{rows_length}
use Rattle.page.proofs.Memos.{firsts_none, rows_none}
use Rattle.page.proofs.memo.Memo.new.Goals as goal

pub invariant_of-result-clause-remembers : goal.invariant_of-result-clause-remembers
invariant_of-result-clause-remembers c = record {
  of_labels = firsts_none _ _ _ _ (zeros prop_width prop_width (search rules)) c.args.layers.room.small.props;
  of_words = rows_none _ _ _ _ (zeros rows_length rows_length (search rules)) c.args.layers.room.small.props;
}
