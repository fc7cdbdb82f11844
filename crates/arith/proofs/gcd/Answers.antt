-- `arith::gcd`: the goals that the check leaves, with the invariant of `Invariants.antt`.
use Rattle.std.proofs.Common.{◌≡◌, arith}
use Rattle.arith.specs.Gcd.{gcd_zero}
use Rattle.arith.specs.Products.{gcd_comm}
use Rattle.arith.specs.Binary.{turn_first, turn_next, turn_last}
use Rattle.arith.proofs.gcd.Goals as goal

pub returns-then-a-eq0 : goal.returns-then-a-eq0
returns-then-a-eq0 c = rw (c.if-a-eq0.true, gcd_comm 0 c.args.b, gcd_zero)

pub returns-then-b-eq0 : goal.returns-then-b-eq0
returns-then-b-eq0 c = rw (c.if-b-eq0.true, gcd_zero)

pub loop-x-init : goal.loop-x-init
loop-x-init c = turn_first _ _ _ _ c.odd_part-x.ensures c.odd_part-y.ensures

pub loop-x-preserved : goal.loop-x-preserved
loop-x-preserved c =
    let l = c.loop-x in
    turn_next _ _ l.x l.y _ _ _ l.invariant c.min-x.ensures c.abs_diff-apart.ensures c.odd_part-y-in-loop-x.ensures

pub returns : goal.returns
returns c =
    let l = c.loop-x in
    let same : l.x ≡ l.y = omega (arith, c.loop-x-test.false) in
    turn_last c.args.a c.args.b l.x l.y _ l.invariant same c.min-twos.ensures (omega (arith, c.if-a-eq0.false)) c.ranges.a.fits
