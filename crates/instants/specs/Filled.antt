-- What a step of a tick needs of a state, and what 17 asks of it (01, Firing and Numbers a call may refuse with).
--   Filled c s                 what a step needs: an accepted chain, whole arrays, no queue above its capacity, and work done below e
--   Balanced c s               each queue holds what was put in less what was taken out
--   Running c s                an accepted chain, and a state of it that passes 17
--   cramped_as                 one with the same contents has the same room
use Rattle.std.specs.Prelude.{◌≡◌, ◌&&◌, List, ℕ, ◌+◌, ◌≤◌, ◌<◌, ltb, get_or}
use Rattle.std.proofs.Common.{ap}
use Rattle.chain.specs.Record.{row_of, work_of}
use Rattle.chain.specs.declared.Chain.{Chain}
use Rattle.sizing.specs.Sizes.{capacity_of}
use Rattle.sizing.specs.Accepted.{Accepted}
use Rattle.state.specs.State.{held_at, done_at}
use Rattle.state.specs.Fired.{Balance}
use Rattle.state.specs.Checks.{cramped, StateSound}
use Rattle.state.specs.declared.Run.{Run}
use Rattle.slots.specs.Runs.{Whole}

-- what a step of a tick needs: an accepted chain, whole arrays, no queue above its capacity, and less work done of each node than its execution time
pub record Filled (c : Chain) (s : Run) : Type 0 where
  pub chain : Accepted c
  pub whole : Whole s
  pub within : (j : ℕ) → j < c.n → held_at s j ≤ capacity_of (row_of c j)
  pub below : (j : ℕ) → j < c.n → done_at s j < work_of c j

-- "each queue holds what its producer's firings put in less what its consumer's took out", of every queue
abbrev pub Balanced : Chain → Run → Type 0
Balanced c s = (j : ℕ) → j < c.n → Balance c s j

-- an accepted chain, and a state of it that passes 17
pub record Running (c : Chain) (s : Run) : Type 0 where
  pub chain : Accepted c
  pub whole : Whole s
  pub state : StateSound c s

-- equal lists have equal slots
pub at : {a b : List ℕ} → a ≡ b → (j : ℕ) → get_or a j 0 ≡ get_or b j 0
at e j = ap (λ (x : List ℕ). get_or x j 0) e

-- whether a production fits is not changed by work
pub cramped_as : (c : Chain) (u w : Run) (i : ℕ) → w.held ≡ u.held → cramped c w i ≡ cramped c u i
unfolding cramped
cramped_as c u w i held = λ z. ltb i c.n && ltb (capacity_of (row_of c i)) (get_or (held z) i 0 + (row_of c i).produce)
