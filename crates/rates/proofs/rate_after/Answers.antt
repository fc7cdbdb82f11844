-- `rates::rate_after` meets its contract: equation 1 by parts, in products of 16 by 32 bits.
use Rattle.std.proofs.Common.{arith}
use Rattle.arith.specs.Gcd.{gcd_pos_left}
use Rattle.rates.proofs.RatesLaws.{rate_by_parts}
use Rattle.rates.proofs.rate_after.Goals as goal

pub quotient-stretch-requires : goal.quotient-stretch-requires
quotient-stretch-requires c = record { some = omega (arith, gcd_pos_left c.args.x c.args.q.share) }

pub quotient-requires : goal.quotient-requires
quotient-requires c = record { some = omega (arith, gcd_pos_left c.args.q.produce c.args.q.consume) }

pub quotient-requires-2 : goal.quotient-requires-2
quotient-requires-2 c = record { some = omega (arith, gcd_pos_left c.args.x c.args.q.share) }

pub returns : goal.returns
returns c =
    let q = c.args.q in
    let k = c.requires.known in
    rw (c.from.ensures, c.from-2.ensures, c.from-3.ensures, c.from-4.ensures, c.quotient.ensures, c.quotient-2.ensures, c.quotient-stretch.ensures)
    (rate_by_parts q.produce q.consume q.g q.share c.args.x c.args.y _ k.consume.0 k.g k.share c.gcd-common.ensures)
