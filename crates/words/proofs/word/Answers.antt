-- `words::word` meets its contract: the four bytes are there, and together they make the word.
use Rattle.std.proofs.Common.{arith}
use Rattle.words.specs.Words.{four_at}
use Rattle.words.proofs.WordsLaws.{word_there}
use Rattle.words.proofs.word.Goals as goal

pub returns : goal.returns
unfolding four_at
returns c = omega (arith, c.from_le_bytes.ensures, word_there _ _ c.requires.fits)
