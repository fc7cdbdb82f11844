-- `Writer::word` meets its contract: the bytes that it writes are those of the word.
use Rattle.words.specs.Words.{bytes_of}
use Rattle.words.proofs.Writer.word.Goals as goal

pub returns : goal.returns
unfolding bytes_of
returns c = rw c.to_le_bytes.ensures at c.bytes.ensures
