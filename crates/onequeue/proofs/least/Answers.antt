-- `onequeue::least` answers the minimum, by `minimum_rest`, and the naming count, whose two quotients are those of its definition; g is not 0, since the
-- produce is not.
use Rattle.std.proofs.Common.{◌≡◌, sym, ℕ, ◌+◌, ◌-◌, ◌%◌, arith}
use Rattle.std.proofs.Math.Nat.{sub-zero}
use Rattle.std.specs.Int.{div_ceil}
use Rattle.arith.specs.Gcd.{gcd_pos_left}
use Rattle.arith.proofs.DivisionLaws.{ceil_quotient}
use Rattle.onequeue.specs.Known.{Known}
use Rattle.onequeue.specs.Least.{least}
use Rattle.onequeue.proofs.LeastLaws.{minimum_rest}
use Rattle.onequeue.specs.declared.Row.{Row}
use Rattle.onequeue.proofs.least.Goals as goal

-- the two numbers as the code computes them
module _ {q : Row} (k : Known q) where
  minimum-same : q.threshold - 1 - (q.threshold - 1) % q.g + q.produce ≡ (least 0 q.produce q.threshold q.consume).minimum
  minimum-same = rw k.g (sym (minimum_rest q.produce q.threshold q.consume k.threshold.0))

  naming-same : (n : ℕ) → n ≡ div_ceil (q.threshold - q.consume) q.produce → n + q.share ≡ (least 0 q.produce q.threshold q.consume).by
  unfolding least
  naming-same n e = rw (sub-zero, k.share, k.g, e, ceil_quotient (q.threshold - q.consume) q.produce k.produce.0)

pub nonzero_rem-minimum : goal.nonzero_rem-minimum
nonzero_rem-minimum c =
    let q = c.args.q in
    omega (arith, gcd_pos_left q.produce q.consume)

pub returns : goal.returns
returns c =
    let k = c.requires in
    λ i. record { minimum = minimum-same k i; by = naming-same k _ c.div_ceil.ensures i }
