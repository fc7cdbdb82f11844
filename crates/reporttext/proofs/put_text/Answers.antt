-- `reporttext::put_text` meets its contract: the first line, the queues' lines and the last line, one writer after the other.
use Rattle.std.proofs.Common.{arith}
use Rattle.words.specs.Writer.{next, ended}
use Rattle.reporttext.specs.Text.{busy_line, text_of}
use Rattle.reporttext.proofs.put_text.Goals as goal

pub returns : goal.returns
unfolding text_of busy_line
returns c = (
  ended c.new-writer.ensures (next c.bytes.ensures (next c.put_lines.ensures.0 (next c.bytes-2.ensures (next c.put_column.ensures.0 c.put_column-2.ensures.0)))) search,
  omega arith,
)
