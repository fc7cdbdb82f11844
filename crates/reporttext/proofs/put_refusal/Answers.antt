-- `reporttext::put_refusal` meets its contract: the word, the number and the place, one writer after the other.
use Rattle.std.proofs.Common.{arith}
use Rattle.words.specs.Writer.{next, ended}
use Rattle.reporttext.specs.Refused.{refusal_text}
use Rattle.reporttext.proofs.put_refusal.Goals as goal

pub returns : goal.returns
unfolding refusal_text
returns c = (ended c.new-writer.ensures (next c.bytes.ensures (next c.put_column.ensures.0 c.put_column-2.ensures.0)) search, omega arith)
