-- A deadline run from a fresh start (01, Firing).
--   InPace c s                 no node has fired more often than the clock has ticked
--   fresh_in_pace, pace_kept   so it is at a fresh start, and after a tick in which each count grows by at most one
--   Paced c s                  a state that passes 17, in which that is so
use Rattle.std.specs.Prelude.{◌≡◌, ℕ, suc, ◌+◌, ◌≤◌}
use Rattle.std.proofs.Common.{arith}
use Rattle.chain.specs.declared.Chain.{Chain}
use Rattle.state.specs.State.{count_at, fresh_run, fresh_count}
use Rattle.state.specs.declared.Run.{Run}
use Rattle.instants.specs.Filled.{Running}

-- no node has fired more often than the clock has ticked
abbrev pub InPace : Chain → Run → Type 0
InPace c s = (i : ℕ) → i ≤ c.n → count_at s i ≤ s.clock

pub fresh_in_pace : (c : Chain) → InPace c (fresh_run c)
fresh_in_pace c i l = omega (arith, fresh_count c i)

pub pace_kept : (c : Chain) (s t : Run) → InPace c s → t.clock ≡ s.clock + 1 → ((i : ℕ) → i ≤ c.n → count_at t i ≤ suc (count_at s i)) → InPace c t
pace_kept c s t p clock counts i l = omega (arith, counts i l, p i l, clock)

-- a state that passes 17, in which that is so
pub record Paced (c : Chain) (s : Run) : Type 0 where
  pub running : Running c s
  pub counts : (i : ℕ) → i ≤ c.n → count_at s i ≤ s.clock
