-- What the code is handed of a queue.
--   Known q             produce, threshold and consume in their ranges and in order; g is the gcd of produce and consume, share is consume over g
use Rattle.std.specs.Prelude.{◌≡◌, ◌/◌, ◌≤◌}
use Rattle.arith.specs.Gcd.{gcd}
use Rattle.onequeue.specs.declared.Row.{Row}

-- what the checks 4 and 5 of 01 leave of a row, with 01's g = gcd(p, c) and c/g
pub record Known (q : Row) : Type 0 where
  pub produce : (1 ≤ q.produce) × (q.produce ≤ 65535)
  pub threshold : (1 ≤ q.threshold) × (q.threshold ≤ 65535)
  pub consume : (1 ≤ q.consume) × (q.consume ≤ 65535)
  pub order : q.consume ≤ q.threshold
  pub g : q.g ≡ gcd q.produce q.consume
  pub share : q.share ≡ q.consume / q.g
