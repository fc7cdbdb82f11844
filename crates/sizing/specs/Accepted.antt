-- What a chain that the analysis accepts is, and that each of its numbers fits its width.
--   Accepted c               sound, no rate above the limit, not overloaded: 01's accepted chain
--   SizeFits q, size_fits    the numbers of a queue's line: x and y up to the limit, minimum up to 131,069, naming count up to
--                            65,535, capacity up to 1,000,000, and the margin between minus and plus a million
-- What is named here and not declared stands in proofs/AcceptedLaws.antt.
use Rattle.std.specs.Prelude.{◌≡◌, refl, Bool, true, false, cond, ℕ, suc, ◌-◌, ◌≤◌, ◌<◌, ltb, pos, negsuc, nat_abs}
use Rattle.std.proofs.Common.{arith, ltb-true}
use Rattle.chain.specs.Sound.{Sound}
use Rattle.chain.specs.declared.Chain.{Chain}
use Rattle.onequeue.specs.Capacity.{margin}
use Rattle.sizing.specs.Load.{busy_of, cycle_of}
use Rattle.sizing.specs.Checks.{limit, InLimit}
use Rattle.sizing.specs.declared.QueueSize.{QueueSize}

-- "a chain it doesn't refuse is accepted"
pub record Accepted (c : Chain) : Type 0 where
  pub chain : Sound c
  pub rates : (i : ℕ) → i < c.n → InLimit c (suc i)
  pub load : busy_of c ≤ cycle_of c

-- the numbers of a queue's line
pub record SizeFits (q : QueueSize) : Type 0 where
  pub x : q.x ≤ limit
  pub y : q.y ≤ limit
  pub minimum : q.minimum ≤ 131069
  pub by : q.by ≤ 65535
  pub capacity : q.capacity ≤ 1000000
  pub margin : nat_abs q.margin ≤ 1000000

pub margin_fits : (m k b : ℕ) → k ≤ m → b ≤ m → nat_abs (margin k b) ≤ m
unfolding margin
margin_fits m k b hk hb = by (ltb k b) refl
  where
    by : (t : Bool) → ltb k b ≡ t → nat_abs (cond t (negsuc (b - suc k)) (pos (k - b))) ≤ m
    by true e = let h : k < b = ltb-true k b e in omega arith
    by false e = omega arith
