-- Ticks in which nothing but one node's work goes on (01, Firing): so many of them are one step.
--   worked_in e i k            the work done e after k ticks of work of N_i; of no node where i is 0
--   worked_for s i k           s after k ticks of work of N_i that finish no firing; for_none: it is s where k is 0
-- What is named here and not declared stands in proofs/QuietLaws.antt.
use Rattle.std.specs.Prelude.{List, ℕ, zero, suc, ◌+◌, get_or, set}
use Rattle.state.specs.declared.Run.{Run}

-- the work done after k ticks of work of N_i
unfoldable pub worked_in : List ℕ → ℕ → ℕ → List ℕ
worked_in e zero k = e
worked_in e (suc j) k = set e j (get_or e j 0 + k)

-- s after k ticks of work of N_i, none of which finishes a firing; i is 0 where no node works
abbrev pub worked_for : Run → ℕ → ℕ → Run
worked_for s i k = record { clock = s.clock + k; counts = s.counts; held = s.held; done = worked_in s.done i k }
