-- The walk over a chain's queues, as the code has it.
--   Walked c i w             the walk w has come to N_i: it has N_i's rate and the load so far, and no node so far is refused 6
--   Walks c i w              what the code asks that goes on past queue i
use Rattle.std.specs.Prelude.{◌≡◌, ℕ, ◌<◌}
use Rattle.chain.specs.Sound.{Sound}
use Rattle.chain.specs.declared.Chain.{Chain}
use Rattle.chain.proofs.Passing.{Passed}
use Rattle.rates.specs.Load.{capped}
use Rattle.sizing.specs.Nodes.{x_of, y_of}
use Rattle.sizing.specs.Load.{busy_in}
use Rattle.sizing.specs.Checks.{rate_test}
use Rattle.sizing.specs.declared.Walk.{Walk}

-- at N_i: its rate, the load of the nodes up to it in y_i ticks, capped there, and 6 silent of each of them
pub record Walked (c : Chain) (i : ℕ) (w : Walk) : Type 0 where
  pub firings : w.x ≡ x_of c i
  pub ticks : w.y ≡ y_of c i
  pub load : w.busy ≡ capped (y_of c i) (busy_in c (y_of c i) i)
  pub rates : Passed (rate_test c) c.n i

-- a walk that has come to queue i of a chain which 2, 4 and 5 pass
pub record Walks (c : Chain) (i : ℕ) (w : Walk) : Type 0 where
  pub chain : Sound c
  pub inside : i < c.n
  pub walked : Walked c i w
