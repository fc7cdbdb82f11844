-- The capacity in force, and the margin.
--   B, b, k             the capacity word of a row, the queue's minimum, and a capacity in force
--   capacity B b        the capacity in force: B, or b where B is 0
--   margin k b          k - b, with its sign
--   Within k b          what the code is handed: a capacity and a minimum up to a million
use Rattle.std.specs.Prelude.{cond, ℕ, ◌≤◌, eqb, ℤ}
use Rattle.std.proofs.Math.IntN.{sub_ℕ}

-- 01's "with B=0 the capacity is b"
unfoldable pub capacity : ℕ → ℕ → ℕ
capacity B b = cond (eqb B 0) b B

-- 01's "margin: B - b, signed", of the capacity in force
unfoldable pub margin : ℕ → ℕ → ℤ
margin k b = sub_ℕ k b

-- both at most 1,000,000: B by 01's range, and b since it is at most 131,069
pub record Within (k b : ℕ) : Type 0 where
  pub capacity : k ≤ 1000000
  pub minimum : b ≤ 1000000
