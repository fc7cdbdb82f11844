-- What a caller of `run` learns, from the contract of the call alone.
--   c, T, r                  a chain, a number of ticks, and the answer of run
--   RanSo c T r              demand 3 of a deadline run that was not refused, as C is answered it, and where it overflows
--   Ran c T r                r is the answer of the deadline run; where it is not refused, RanSo
--   ran_so                   the first part gives the second
use Rattle.std.specs.Prelude.{◌≡◌, ◌↔◌, ℕ, suc, ◌+◌, ◌*◌, ◌≤◌, ◌<◌}
use Rattle.std.proofs.Common.{sym, ap, subst, ◌∙◌, arith}
use Rattle.ardenquill.specs.Chains.{row_of}
use Rattle.ardenquill.specs.Analyses.{start}
use Rattle.ardenquill.specs.Runs.{count_at, held_at}
use Rattle.ardenquill.specs.Histories.{times}
use Rattle.ardenquill.specs.Ticks.{resting, deadline_run_answer}
use Rattle.ardenquill.specs.Flat.{flat}
use Rattle.ardenquill.specs.declared.OutcomeRun.{OutcomeRun}
use Rattle.ardenquill.specs.Records.{Chain}
use Rattle.promises.specs.Outcomes.{OverflowedAt}
use Rattle.promises.specs.Laws.{coded_overflowed}
use Rattle.promises.specs.Replay.{p_of, c_of, line, replay_answer, Fires, Sometime}
use Rattle.promises.specs.ByTicks.{DeadlineRuns}
use Rattle.promises.specs.Beyond.{firings, run_fires, run_state, run_counted, run_balance, run_naming, run_overflow}

-- counts are those of its firings, which manual firing accepts; "each queue holds what its producer's firings put in less what its consumer's took out"; a producer
-- that fired "as often as 01 names" has shown the minimum; and an overflow is at queue 0, and C is told it by kind 1, the tick and the queue
pub record RanSo (c : Chain) (T : ℕ) (r : OutcomeRun) : Type 0 where
  pub fires : Fires c (firings c T)
  pub state : (replay_answer c (firings c T)).run ≡ resting r.run
  pub counted : (i : ℕ) → i ≤ c.n → count_at r.run i ≡ times i (firings c T)
  pub balance : (j : ℕ) → j < c.n → start (row_of c j) + p_of c j * count_at r.run j ≡ held_at r.run j + c_of c j * count_at r.run (suc j)
  pub naming : (j : ℕ) → j < c.n → (line c j).by ≤ count_at r.run j → Sometime c (firings c T) (λ s. (line c j).minimum ≤ held_at s j)
  pub overflow : (t q : ℕ) → OverflowedAt (deadline_run_answer c T).outcome t q → q ≡ 0
  pub told : (t q : ℕ) → ((r.kind ≡ 1) × ((r.tick ≡ t) × (r.at ≡ q))) ↔ OverflowedAt (deadline_run_answer c T).outcome t q

-- the answer, and what it promises where it is not refused
pub record Ran (c : Chain) (T : ℕ) (r : OutcomeRun) : Type 0 where
  pub answer : r ≡ flat (deadline_run_answer c T)
  pub so : r.number ≡ 0 → RanSo c T r

-- the answer is enough
pub ran_so : (c : Chain) (T : ℕ) {r : OutcomeRun} → r ≡ flat (deadline_run_answer c T) → Ran c T r
ran_so c T e = record { answer = e; so = λ z. subst (RanSo c T) (sym e) (by (ap (λ (x : OutcomeRun). x.number) (sym e) ∙ z)) }
  where
    by : DeadlineRuns c T → RanSo c T (flat (deadline_run_answer c T))
    by ran = record {
      fires = run_fires c T ran;
      state = run_state c T ran;
      counted = run_counted c T ran;
      balance = λ j l. rw (run_counted c T ran j (omega arith), run_counted c T ran (suc j) l) (run_balance c T ran j l);
      naming = run_naming c T ran;
      overflow = run_overflow c T ran;
      told = coded_overflowed (deadline_run_answer c T).outcome;
    }
