-- `words::row` meets its contract: the words that `word` reads, each behind the one before, are the row.
use Rattle.words.proofs.RowsLaws.{row_made}
use Rattle.words.proofs.row.Goals as goal

pub returns : goal.returns
returns c = row_made _ _ c.requires.fits c.word.ensures c.word-2.ensures c.word-3.ensures c.word-4.ensures c.word-5.ensures
