-- How often the node behind a queue has fired in the immediate run (01, Firing; 004, Lemma 5.1).
--   τ, c, m                     threshold and consume; how many tokens came in all, those at the start among them
--   fires τ c m                 the count of firings: one step of 01's F
use Rattle.std.specs.Prelude.{cond, ℕ, ◌+◌, ◌-◌, ◌/◌, ltb}

-- "F_(i+1) is 0 while p×F_i is below τ, else (p×F_i − τ)/c rounded down, plus 1", of m tokens for p×F_i
unfoldable pub fires : ℕ → ℕ → ℕ → ℕ
fires τ c m = cond (ltb m τ) 0 ((m - τ) / c + 1)
