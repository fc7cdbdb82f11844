-- What steps of the deadline run leave before a clock, and what a recording run needs of it to go on (02, Item 2).
--   Able c U s                 ticks can be made of s up to clock U, and no count passes the limit in them
--   Midway c U u               the same of the state after the source's step
--   SourceLost c U t s         the source's production does not fit at t, s being the state before its step
--   FinishLost c U t j s       that of N_(j+1)'s firing, which is finished at t, does not, s being the state with all its work done
--   Left c U y                 y is what steps of the deadline run leave before clock U: clean, one of these, or 13
--   left_with, left_clean, _undated, _source
--                              what is left, by its outcome; a clean state, 13 and the source's overflow are such
--   finished_at, _dated        which never overflows at the source, and never ends with 13
-- What is named here and not declared stands in proofs/LeftLaws.antt.
use Rattle.std.specs.Prelude.{◌≡◌}
use Rattle.std.proofs.Math.Path.{ap}
use Rattle.std.proofs.Common.{sym, arith}
use Prim.Native.Nat.{ℕ, zero, suc, ◌+◌, ◌-◌, ◌≤◌, ◌<◌}
use Rattle.chain.specs.Record.{work_of}
use Rattle.chain.specs.declared.Chain.{Chain}
use Rattle.sizing.specs.Checks.{limit}
use Rattle.state.specs.State.{count_at, done_at}
use Rattle.state.specs.Fired.{Over}
use Rattle.state.specs.declared.Run.{Run}
use Rattle.instants.specs.Steps.{overflowed, with_done, sourced, worked, ended_in, finish, finished}
use Rattle.instants.specs.Steps.{at_of}
use Rattle.instants.specs.Filled.{Filled}
use Rattle.instants.specs.Runs.{unclean_overflow, unclean_undated, overflow_undated}
use Rattle.instants.proofs.KeptLaws.{finish_cases}
use Rattle.instants.specs.declared.Outcome.{Outcome}
use Rattle.instants.specs.declared.Outcome.TheVariants.{Clean, Overflowed, NoDeadline}
use Rattle.instants.specs.declared.Ticked.{Ticked}
use Rattle.recordings.specs.Steps.{lost_firing}

-- ticks can be made of s up to clock U, and no count passes the limit in them
pub record Able (c : Chain) (U : ℕ) (s : Run) : Type 0 where
  pub filled : Filled c s
  pub clock : s.clock ≤ U
  pub counts : (i : ℕ) → i ≤ c.n → count_at s i + (U - s.clock) ≤ limit

-- the same of the state after the source's step, in which the source has had its firing of this tick
pub record Midway (c : Chain) (U : ℕ) (u : Run) : Type 0 where
  pub filled : Filled c u
  pub clock : u.clock < U
  pub source : count_at u 0 + (U - u.clock) ≤ suc limit
  pub others : (j : ℕ) → j < c.n → count_at u (suc j) + (U - u.clock) ≤ limit

-- the source's production does not fit at t
pub record SourceLost (c : Chain) (U t : ℕ) (s : Run) : Type 0 where
  pub able : Able c U s
  pub clock : s.clock ≡ t
  pub early : t < U
  pub spills : sourced c s ≡ overflowed s t 0

-- N_(j+1)'s, finished at t, does not, all the work of its firing being done
pub record FinishLost (c : Chain) (U t j : ℕ) (s : Run) : Type 0 where
  pub clock : s.clock ≡ t
  pub queue : suc j < c.n
  pub over : Over c s (suc j)
  pub count : count_at s (suc j) < limit
  pub able : Able c U (lost_firing c s (suc j))

-- what steps of the deadline run leave before clock U
pub record Left (c : Chain) (U : ℕ) (y : Ticked) : Type 0 where
  pub clean : y.outcome ≡ Clean → Able c U y.run
  pub source : (t : ℕ) → y.outcome ≡ Overflowed t 0 → SourceLost c U t y.run
  pub finish : (t j : ℕ) → y.outcome ≡ Overflowed t (suc j) → FinishLost c U t j y.run

-- what is left, by its outcome
pub left_with : (y : Ticked) {o : Outcome} → y.outcome ≡ o → y ≡ record { outcome = o; run = y.run }
left_with y e = λ i. record { outcome = e i; run = y.run }

-- one tick of work of N_i, which is over threshold, and the effect of the firing then finished
module _ {c : Chain} {U : ℕ} {u : Run} (k : Midway c U u) where
  -- N_(j+1)'s firing is finished
  module _ (j : ℕ) (l : j < c.n) (all : done_at u j + 1 ≡ work_of c j) (o : Over c u (suc j)) where
    abbrev pub spent : Run
    spent = worked u (suc j)

    abbrev pub cleared : Run
    cleared = with_done (worked u (suc j)) j 0

-- a tick's work is never followed by the source's overflow
pub finished_at : (c : Chain) (w : Run) (t : ℕ) → (finished c w).outcome ≡ Overflowed t 0 → ⊥
unfolding finished finish
finished_at c w t = by (ended_in c w c.n)
  where
    by : (i : ℕ) → (finish c w i).outcome ≡ Overflowed t 0 → ⊥
    by zero e = unclean_overflow (sym e)
    by (suc j) e = finish_cases c w j (λ x. x.outcome ≡ Overflowed t 0 → ⊥) (λ m h. let z : suc j ≡ 0 = ap at_of h in absurd (omega arith)) (λ m h. unclean_overflow (sym h)) e

-- nor by 13
pub finished_dated : (c : Chain) (w : Run) (t i : ℕ) → (finished c w).outcome ≡ NoDeadline t i → ⊥
unfolding finished finish
finished_dated c w t i = by (ended_in c w c.n)
  where
    by : (k : ℕ) → (finish c w k).outcome ≡ NoDeadline t i → ⊥
    by zero e = unclean_undated (sym e)
    by (suc j) e = finish_cases c w j (λ x. x.outcome ≡ NoDeadline t i → ⊥) (λ m h. overflow_undated h) (λ m h. unclean_undated (sym h)) e
