-- What a chain that the checks 2, 4 and 5 do not refuse is.
--   row_range q at, node_range e at  4 of one queue row and of one node row
--   SoundRow q, Sound c             a row, and a chain, in range and in order
use Rattle.std.specs.Prelude.{◌≡◌, map, ℕ, ◌≤◌, ◌<◌}
use Rattle.words.specs.declared.Queue.{Queue}
use Rattle.chain.specs.Tests.{In}
use Rattle.chain.specs.Refusals.{first}
use Rattle.chain.specs.Record.{row_of, work_of}
use Rattle.chain.specs.Checks.{ticks, row_fields, out_of_range}
use Rattle.chain.specs.Refusal.{Refusal}
use Rattle.chain.specs.declared.Chain.{Chain}

-- 4 of one queue row that stands at `at`, and of one node row
unfoldable pub row_range : Queue → ℕ → Refusal
unfolding first row_fields
row_range q at = first (map out_of_range (row_fields q at))

abbrev pub node_range : ℕ → ℕ → Refusal
node_range e at = out_of_range (ticks at e)

-- what a queue row in range and in order is
pub record SoundRow (q : Queue) : Type 0 where
  pub produce : In 1 65535 q.produce
  pub threshold : In 1 65535 q.threshold
  pub consume : In 1 65535 q.consume
  pub capacity : q.capacity ≤ 1000000
  pub reserved : q.reserved ≡ 0
  pub order : q.consume ≤ q.threshold

-- what a chain that 2, 4 and 5 do not refuse is, wherever its tables stand
pub record Sound (c : Chain) : Type 0 where
  pub count : In 1 16 c.n
  pub period : In 1 1000000 c.period
  pub rows : (i : ℕ) → i < c.n → SoundRow (row_of c i)
  pub work : (i : ℕ) → i < c.n → In 1 1000000 (work_of c i)
