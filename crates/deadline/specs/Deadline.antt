-- The deadline of a node's k-th firing (01, Firing; 000, definition 1).
--   earlier q k                the index at the node before the queue q, for index k at the node that it feeds
--   deadline c i k             the deadline of N_i's k-th firing: the index is followed down to the source
--   index_check c i k          13: an index on the way down passes the limit
--   index c i k j              N_j's index on the way down from N_i's k
--   FirstPassing c i k L       13 in words: of the indices on the way down, N_L's is the first that passes
use Rattle.std.specs.Prelude.{cond, ltb, leb}
use Prim.Native.Nat.{ℕ, zero, suc, ◌+◌, ◌-◌, ◌*◌, ◌/◌, ◌≤◌, ◌<◌}
use Rattle.words.specs.declared.Queue.{Queue}
use Rattle.onequeue.specs.Capacity.{capacity}
use Rattle.onequeue.specs.Least.{least}
use Rattle.chain.specs.Refusals.{test, or_else}
use Rattle.chain.specs.Record.{row_of}
use Rattle.chain.specs.Refusal.{Refusal}
use Rattle.chain.specs.declared.Chain.{Chain}
use Rattle.sizing.specs.Sizes.{capacity_of}
use Rattle.sizing.specs.Checks.{limit}

-- "index ((k−1)×c+B)/p rounded down, plus 1"; B is the capacity in force; k is at least 1, of the firing asked by 11, of a next firing by `next`, and of
-- each further index by earlier_some, so the minus is exact
unfoldable pub earlier : Queue → ℕ → ℕ
unfolding capacity least
earlier q k = ((k - 1) * q.consume + capacity_of q) / q.produce + 1

-- "(k−1)×y for N_0, else N_(i−1)'s deadline for index .."
unfoldable pub deadline : Chain → ℕ → ℕ → ℕ
unfolding earlier
deadline c zero k = (k - 1) * c.period
deadline c (suc i) k = deadline c i (earlier (row_of c i) k)

-- 13: "a deadline index passes 4,294,967,295", place the "node whose index it is"; the recursion stops at the first that does
unfoldable pub index_check : Chain → ℕ → ℕ → Refusal
unfolding or_else earlier
index_check c zero k = test 13 0 (ltb limit k)
index_check c (suc i) k = or_else (test 13 (suc i) (ltb limit k)) (index_check c i (earlier (row_of c i) k))

-- N_j's index on the way down from N_i's index k; from N_j on upwards it is k
unfoldable pub index : Chain → ℕ → ℕ → ℕ → ℕ
unfolding earlier
index c zero k j = k
index c (suc i) k j = cond (leb (suc i) j) k (index c i (earlier (row_of c i) k) j)

-- 13 in words: N_L's index passes the limit, and no index from N_i down to before it does
pub record FirstPassing (c : Chain) (i k L : ℕ) : Type 0 where
  pub node : L ≤ i
  pub passes : limit < index c i k L
  pub before : (j : ℕ) → L < j → j ≤ i → index c i k j ≤ limit
