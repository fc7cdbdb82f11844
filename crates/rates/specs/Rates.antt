-- The rate of a node from that of the node before it (01, Rates, load, minimum; 003, equation 1), over plain numbers: a queue
-- with produce p and consume c, and a node before it that fires x times in y ticks.
--   common p c x             003's g, the gcd of p * x and c
--   next_x p c x, next_y p c x y
--                            the rate of the node behind the queue
--   stretch p c x            how many times y the new y is
--   rate_after p c x y       the three together, as code has them
--   Step q x                 what the code of a step asks
use Rattle.std.specs.Prelude.{◌≡◌, ℕ, ◌*◌, ◌/◌, ◌<◌}
use Rattle.std.proofs.Common.{arith}
use Rattle.arith.specs.Division.{floor_unique}
use Rattle.arith.specs.Gcd.{gcd}
use Rattle.onequeue.specs.Known.{Known}
use Rattle.onequeue.specs.declared.Row.{Row}
use Rattle.rates.specs.declared.Rate.{Rate}

-- "g = gcd(p×x_i, c)"
unfoldable pub common : ℕ → ℕ → ℕ → ℕ
unfolding gcd
common p c x = gcd (p * x) c

-- "x_(i+1) = p×x_i/g"
unfoldable pub next_x : ℕ → ℕ → ℕ → ℕ
unfolding common
next_x p c x = p * x / common p c x

-- "y_(i+1) = c×y_i/g"
unfoldable pub next_y : ℕ → ℕ → ℕ → ℕ → ℕ
unfolding common
next_y p c x y = c * y / common p c x

-- c/g: how many times y_i the new y is
unfoldable pub stretch : ℕ → ℕ → ℕ → ℕ
unfolding common
stretch p c x = c / common p c x

-- the rate behind the queue, and by how much y grew
unfoldable pub rate_after : ℕ → ℕ → ℕ → ℕ → Rate
unfolding next_x next_y stretch
rate_after p c x y = record { x = next_x p c x; y = next_y p c x y; stretch = stretch p c x }

-- a number that is b times q, over b
pub exact : (a b q : ℕ) → 0 < b → a ≡ b * q → a / b ≡ q
exact a b q h e = floor_unique a b q (omega arith) (omega arith)

-- what the code of a step asks: a known queue, and a node before it that fires
pub record Step (q : Row) (x : ℕ) : Type 0 where
  pub known : Known q
  pub fires : 0 < x
