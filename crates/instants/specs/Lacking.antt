-- 13 of a tick and a run: when it is said (01, Firing).
--   Within, Past c s i         no index on the way down from N_i's next firing to the source passes the limit, or one does
--   FirstLacking               13 in words: the lowest such node
use Rattle.std.specs.Prelude.{ℕ, suc, ◌≤◌, ◌<◌}
use Rattle.chain.specs.declared.Chain.{Chain}
use Rattle.sizing.specs.Checks.{limit}
use Rattle.state.specs.State.{count_at}
use Rattle.state.specs.Fired.{Over}
use Rattle.state.specs.declared.Run.{Run}
use Rattle.deadline.specs.Deadline.{index}

-- "a deadline index passes 4,294,967,295": no index on the way down from N_i's next firing to the source does
abbrev pub Within : Chain → Run → ℕ → Type 0
Within c s i = (m : ℕ) → m ≤ i → index c i (suc (count_at s i)) m ≤ limit

-- or one does
pub record Past (c : Chain) (s : Run) (i : ℕ) : Type 0 where
  pub at : ℕ
  pub node : at ≤ i
  pub passes : limit < index c i (suc (count_at s i)) at

-- 13 in words: L is the lowest node over threshold with an index past the limit on its way
pub record FirstLacking (c : Chain) (s : Run) (L : ℕ) : Type 0 where
  pub some : 0 < L
  pub node : L ≤ c.n
  pub over : Over c s L
  pub past : Past c s L
  pub before : (j : ℕ) → 0 < j → j < L → Over c s j → Within c s j
