-- `decimal::put_column` meets its contract: a number, then a byte.
use Rattle.std.proofs.Common.{arith}
use Rattle.words.specs.Writer.{next}
use Rattle.decimal.specs.Digits.{column}
use Rattle.decimal.proofs.put_column.Goals as goal

pub returns : goal.returns
unfolding column
returns c = (next c.put_decimal.ensures.0 c.byte.ensures, omega arith)
