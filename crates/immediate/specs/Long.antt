-- What the search for the first count that passes the limit knows on its way.
--   Few q m                  a sound queue, and a count within the limit
--   Passing c k f i          f is N_i's count, and no count before it passes the limit
use Rattle.std.specs.Prelude.{◌≡◌, ℕ, ◌≤◌, ◌<◌}
use Rattle.words.specs.declared.Queue.{Queue}
use Rattle.chain.specs.Sound.{SoundRow}
use Rattle.chain.specs.declared.Chain.{Chain}
use Rattle.schedule.specs.Counts.{F}
use Rattle.immediate.specs.Checks.{most}

-- what the code of a count is handed
pub record Few (q : Queue) (m : ℕ) : Type 0 where
  pub sound : SoundRow q
  pub few : m ≤ most

-- f is N_i's count, and no count before it passes the limit
pub record Passing (c : Chain) (k f i : ℕ) : Type 0 where
  pub reach : i ≤ c.n
  pub is : f ≡ F c k i
  pub under : (j : ℕ) → j < i → F c k j ≤ most
