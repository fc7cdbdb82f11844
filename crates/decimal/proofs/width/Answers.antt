-- `decimal::width` meets its contract: the whole part of the logarithm is one less than the number of digits.
use Rattle.std.proofs.Common.{sym, arith}
use Rattle.decimal.proofs.DigitsLaws.{decimal_width}
use Rattle.decimal.proofs.width.Goals as goal

pub returns : goal.returns
returns c =
    let log = c.ilog10.ensures in
    (sym (decimal_width _ _ (omega (arith, c.max.ensures, log.power_le)) (omega (arith, c.max.ensures, log.next_power_gt))), omega (arith, log.bound))
