-- What the steps of a tick keep of a state (01, Firing and Numbers a call may refuse with).
--   source_may                 the source may fire where there is room
--   SourceStep c s u           what it leaves where it is clean; sourced_clean: it does; source_running: a state that passes 17 where there was one
--   TickStep c s t             what a clean tick leaves; works_step, tick_step: it does; tick_running: a state that passes 17 where there was one
--   fired_clock, _done         a firing changes neither clock nor work done
--   Countable c s              no count is at the limit
-- What is named here and not declared stands in proofs/KeptLaws.antt.
use Rattle.std.specs.Prelude.{◌≡◌, ◌≢◌, false}
use Rattle.std.proofs.Math.Path.{refl}
use Rattle.std.proofs.Common.{arith}
use Prim.Native.Nat.{ℕ, suc, ◌+◌, ◌≤◌, ◌<◌}
use Rattle.chain.specs.declared.Chain.{Chain}
use Rattle.sizing.specs.Checks.{limit}
use Rattle.state.specs.State.{count_at}
use Rattle.state.specs.Fired.{fired, May}
use Rattle.state.specs.Checks.{cramped}
use Rattle.state.proofs.ChecksLaws.{cramped_room}
use Rattle.state.specs.declared.Run.{Run}
use Rattle.instants.specs.Filled.{Filled, Balanced}

-- the source may fire where its production fits
pub source_may : (c : Chain) (s : Run) → count_at s 0 ≢ limit → cramped c s 0 ≡ false → May c s 0
source_may c s n e = record { node = omega arith; countable = n; over = tt; room = (cramped_room c s 0).0 e }

-- what the source's step leaves where it is clean
pub record SourceStep (c : Chain) (s u : Run) : Type 0 where
  pub filled : Filled c u
  pub balanced : Balanced c s → Balanced c u
  pub clock : u.clock ≡ s.clock
  pub done : u.done ≡ s.done
  pub source : count_at u 0 ≤ suc (count_at s 0)
  pub others : (i : ℕ) → 0 < i → count_at u i ≡ count_at s i

-- what a tick leaves where it is clean, one tick later, no node having fired more than once
pub record TickStep (c : Chain) (s t : Run) : Type 0 where
  pub filled : Filled c t
  pub balanced : Balanced c s → Balanced c t
  pub clock : t.clock ≡ s.clock + 1
  pub counts : (i : ℕ) → i ≤ c.n → count_at t i ≤ suc (count_at s i)

-- a firing changes neither clock nor work done
module _ (c : Chain) (s : Run) (i : ℕ) where
  pub fired_clock : (fired c s i).clock ≡ s.clock
  unfolding fired
  fired_clock = refl

  pub fired_done : (fired c s i).done ≡ s.done
  unfolding fired
  fired_done = refl

-- no count of a node is at the limit
abbrev pub Countable : Chain → Run → Type 0
Countable c s = (i : ℕ) → i ≤ c.n → count_at s i ≢ limit
