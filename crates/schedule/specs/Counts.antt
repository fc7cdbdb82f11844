-- The exact counts of the immediate run (01, Firing; 004, Lemma 5.1), node by node from the source on.
--   c, k, i                  a chain, how often the source has fired, a node
--   fed c i N                how often N_(i+1) has fired where N_i has fired N times and queue i is below threshold: one step of F
--   F c k i                  how often N_i has fired after k firings of the source
--   turns_of c i             y_i/y: how many firings of the source N_i's cycle has; turns_source, turns_next: node by node
-- What is named here and not declared stands in proofs/CountsLaws.antt.
use Rattle.std.specs.Prelude.{◌≡◌}
use Rattle.std.proofs.Common.{mul-zero, arith}
use Rattle.std.proofs.Math.Path.{ap}
use Prim.Native.Nat.{ℕ, zero, suc, ◌+◌, ◌*◌, ◌/◌, ◌≤◌, ◌<◌}
use Rattle.chain.specs.Record.{row_of}
use Rattle.chain.specs.declared.Chain.{Chain}
use Rattle.events.specs.Counts.{fires}
use Rattle.sizing.specs.Nodes.{y_of}
use Rattle.sizing.specs.Sizes.{start}

-- "0 while p×F_i is below τ, else (p×F_i − τ)/c rounded down, plus 1", of N for F_i and with what the queue starts with
abbrev pub fed : Chain → ℕ → ℕ → ℕ
fed c i N = fires (row_of c i).threshold (row_of c i).consume (start (row_of c i) + (row_of c i).produce * N)

-- "exact counts: F_0 = k; F_(i+1)" as one step of F_i
unfoldable pub F : Chain → ℕ → ℕ → ℕ
unfolding fires
F c k zero = k
F c k (suc i) = fed c i (F c k i)

-- where τ tokens came and fewer were there at the start, some came by a firing
pub some_fed : (s p τ N : ℕ) → s < τ → τ ≤ s + p * N → 0 < N
some_fed s p τ zero h l = absurd (omega (arith, mul-zero p))
some_fed s p τ (suc N) h l = omega arith

-- what the producer's m × q × x more firings put in is what the consumer's m × x' more take out
pub more : (s p d q x x' N m : ℕ) → d * x' ≡ p * x * q → s + p * (N + m * q * x) ≡ s + p * N + d * (m * x')
more s p d q x x' N m e = omega (arith, ap (λ (n : ℕ). m * n) e)

-- "y_i/y" of the rate law
abbrev pub turns_of : Chain → ℕ → ℕ
turns_of c i = y_of c i / c.period
