-- The busy ticks so far (01, Rates, load, minimum), kept where sums could pass 64 bits.
--   capped y b               b, or y + 1 where b is above y
--   capped_above, _within    it is above y exactly when b is
--   capped_same, -over       it is b where b is not above y, and y + 1 where b is; capped_below: so at most y + 1
--   capped_step              a sum of capped numbers, capped, is the sum, capped
--   Small busy k e           what the code of a sum asks
use Rattle.std.specs.Prelude.{◌≡◌, ◌↔◌, ℕ, ◌+◌, ◌*◌, ◌≤◌, ◌<◌, min}
use Rattle.std.proofs.Common.{mul-le-mul_right, lt_of_not-le, add-one, arith}
use Rattle.std.proofs.Math.Decide.{dec_le}

-- b, or y + 1 in place of every number above y
unfoldable pub capped : ℕ → ℕ → ℕ
capped y b = min b (y + 1)

pub capped_above : (y b : ℕ) → (y < capped y b) ↔ (y < b)
unfolding capped
capped_above y b = (λ l. omega arith, λ l. omega arith)

pub capped_same : (y b : ℕ) → b ≤ y → capped y b ≡ b
unfolding capped
capped_same y b l = omega arith

pub capped_within : (y b : ℕ) → capped y b ≤ y → b ≤ y
unfolding capped
capped_within y b l = omega arith

pub capped_over : (y b : ℕ) → y < b → capped y b ≡ y + 1
unfolding capped
capped_over y b l = omega arith

pub capped_below : (y b : ℕ) → capped y b ≤ y + 1
unfolding capped
capped_below y b = omega arith

-- one node more: what was capped at y, k times, and d more, capped at k * y
pub capped_step : (y b k d : ℕ) → 0 < k → capped (k * y) (capped y b * k + d) ≡ capped (k * y) (b * k + d)
capped_step y b k d h = by (dec_le b y)
  where
    by : Dec (b ≤ y) → capped (k * y) (capped y b * k + d) ≡ capped (k * y) (b * k + d)
    by (yes l) = rw (capped_same y b l)
    by (no f) =
        let l : y < b = lt_of_not-le f in
        let more : (y + 1) * k ≤ b * k = mul-le-mul_right k (rw add-one l) in
        rw (capped_over y b l, capped_over (k * y) ((y + 1) * k + d) (omega arith), capped_over (k * y) (b * k + d) (omega arith))

-- what the code of a sum asks, so that it does not pass 64 bits
pub record Small (busy k e : ℕ) : Type 0 where
  pub before : busy ≤ 4294967296
  pub stretch : k ≤ 65535
  pub work : e ≤ 1000000
