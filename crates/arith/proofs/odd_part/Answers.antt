-- `arith::odd_part` gives the odd part of its number: the shift takes out as many twos as the number has.
use Rattle.arith.specs.Binary.{odd_part}
use Rattle.arith.proofs.odd_part.Goals as goal

pub returns : goal.returns
returns c = odd_part c.args.n c.requires.some c.ranges.n.fits
