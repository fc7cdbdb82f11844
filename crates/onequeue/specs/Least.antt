-- The minimum b of a queue, with its naming count.
--   s, p, τ, c          the contents at the start, 0 in a chain of 01; produce, threshold and consume
--   least s p τ c       both: the minimum is the largest content below τ, plus p; the naming count says how many firings of the producer show it
--   Reaches s p τ c q   q firings of the producer, and no fewer, bring the contents from s to τ - c or more; reaches: there is such a q
--   IsLeast s p τ c m   both in words: the minimum is r + p for the r that `Largest` describes, the naming count q + w for the q that `Reaches` does and
--                       the w with gcd p c * w = c
use Rattle.std.specs.Prelude.{◌≡◌, ℕ, ◌+◌, ◌-◌, ◌*◌, ◌/◌, ◌≤◌, ◌<◌}
use Rattle.std.proofs.Common.{le_antisymm, arith}
use Rattle.arith.specs.Division.{ceil}
use Rattle.arith.proofs.DivisionLaws.{ceil_above, ceil_least}
use Rattle.arith.specs.Gcd.{gcd}
use Rattle.onequeue.specs.Residue.{residue, Largest}
use Rattle.onequeue.specs.declared.Shown.{Shown}

-- 01's "minimum b of a queue: with g = gcd(p,c), the largest multiple of g below τ, plus p", and its "naming count of demand 3: (τ−c)/p rounded up,
-- plus c/g"; c ≤ τ, so at s = 0 the minus is exact, and a start past τ - c makes what is rounded up 0
unfoldable pub least : ℕ → ℕ → ℕ → ℕ → Shown
unfolding residue ceil gcd
least s p τ c = record { minimum = residue s τ (gcd p c) + p; by = ceil (τ - c - s) p + c / gcd p c }

-- no fewer firings than q bring the contents from s to τ - c or more; said with no minus
pub record Reaches (s p τ c q : ℕ) : Type 0 where
  pub enough : τ ≤ s + p * q + c
  pub fewest : (m : ℕ) → τ ≤ s + p * m + c → q ≤ m

-- what is missing from s to τ - c, over p rounded up, is so many
pub reaches : (s p τ c : ℕ) → 0 < p → Reaches s p τ c (ceil (τ - c - s) p)
reaches s p τ c hp = record { enough = omega (arith, ceil_above (τ - c - s) p hp); fewest = λ m l. ceil_least (τ - c - s) p m (omega arith) }

-- and no other number is
pub reaches_unique : {s p τ c q m : ℕ} → Reaches s p τ c q → Reaches s p τ c m → q ≡ m
reaches_unique {q = q} {m} a b = le_antisymm (a.fewest m b.enough) (b.fewest q a.enough)

-- the pair m in words, with no division: what is left below τ, the firings that come within c of τ, and what g leaves of c
pub record IsLeast (s p τ c : ℕ) (m : Shown) : Type 0 where
  pub left : ℕ
  pub largest : Largest s τ (gcd p c) left
  pub minimum : m.minimum ≡ left + p
  pub firings : ℕ
  pub near : Reaches s p τ c firings
  pub share : ℕ
  pub whole : gcd p c * share ≡ c
  pub by : m.by ≡ firings + share
