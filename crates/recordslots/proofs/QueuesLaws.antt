-- Laws of specs/Queues.antt that rest on a definition which an edit of must-fail/ changes.
-- No step overflows a queue past n, so that the row whose production is dropped is one of the first n (01, Firing).
--   sourced-, finish- and finished_queued
--                            the steps of a tick that can overflow one
use Rattle.std.specs.Prelude.{◌≡◌, refl, Bool, cond}
use Rattle.std.proofs.Math.Bool.{true, false}
use Prim.Native.Nat.{ℕ, zero, suc}
use Rattle.std.proofs.Common.{arith}
use Rattle.chain.specs.declared.Chain.{Chain}
use Rattle.state.specs.Fired.{fired}
use Rattle.state.specs.Checks.{cramped}
use Rattle.state.proofs.ChecksLaws.{cramped_is}
use Rattle.state.specs.declared.Run.{Run}
use Rattle.instants.specs.Steps.{clean, overflowed, with_done, divides, sourced, ended, finish, finished}
use Rattle.recordslots.specs.Queues.{Queued}

module _ (c : Chain) (s : Run) where
  -- a production that does not fit has a queue
  cramped_queued : (q : ℕ) (u : Run) → Queued c.n (cond (cramped c s q) (overflowed s s.clock q) (clean u)).outcome
  cramped_queued q u = by (cramped c s q) refl
    where
      by : (b : Bool) → cramped c s q ≡ b → Queued c.n (cond b (overflowed s s.clock q) (clean u)).outcome
      by true e = omega (arith, ((cramped_is c s q).0 e).0)
      by false e = tt

  -- the source's step
  pub sourced_queued : Queued c.n (sourced c s).outcome
  unfolding sourced
  sourced_queued = by (divides c.period s.clock)
    where
      by : (b : Bool) → Queued c.n (cond b (cond (cramped c s 0) (overflowed s s.clock 0) (clean (fired c s 0))) (clean s)).outcome
      by true = cramped_queued 0 (fired c s 0)
      by false = tt

  -- the effect of a firing that is finished
  pub finish_queued : (i : ℕ) → Queued c.n (finish c s i).outcome
  unfolding finish
  finish_queued zero = tt
  finish_queued (suc j) = cramped_queued (suc j) (fired c (with_done s j 0) (suc j))

  -- the firing finished by then
  pub finished_queued : Queued c.n (finished c s).outcome
  unfolding finished
  finished_queued = finish_queued (ended c s)
