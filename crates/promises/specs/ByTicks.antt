-- Ticks one after the other, as their calls answer them, and that a deadline run answers the same.
--   c, T, s                  a chain, a number of ticks, a run state
--   DeadlineRuns c T         the deadline run of T ticks is not refused
--   follows, carry_on r f, ticks_from c T s
--                            T ticks from s: the first refusal, or the first outcome that is not clean, ends it
--   answer_is                a run that is not refused answers what its instants leave
--   ticks_answer             T ticks within the limit answer what T ticks leave
--   ticks_are_run            so the run of T ticks answers what they do
use Rattle.std.specs.Prelude.{◌≡◌}
use Rattle.std.proofs.Math.Path.{refl, sym, ap}
use Rattle.std.proofs.Common.{◌∙◌, arith}
use Prim.Native.Nat.{ℕ, zero, suc, ◌+◌, ◌≤◌, ◌<◌}
use Rattle.ardenquill.specs.Analyses.{Accepted, analyse_accepts, Enough}
use Rattle.ardenquill.specs.Runs.{fresh_run, fresh_answer, fresh_state}
use Rattle.ardenquill.specs.Ticks.{goes, onward, tick, ticks, instants, longest, tick_answer, deadline_run_answer}
use Rattle.ardenquill.specs.Ticks.{ran_as, ticking_is, tick_ran, deadline_run_accepts, deadline_run_ran}
use Rattle.ardenquill.specs.Ticks.{run_is_ticks, Paced, fresh_paced, tick_paced, paced_ticking, run_may, running_filled, tick_step}
use Rattle.ardenquill.specs.Records.{Chain, Run, Outcome, Clean, Overflowed, NoDeadline, Ticked, TickAnswer}

-- the deadline run is not refused
abbrev pub DeadlineRuns : Chain → ℕ → Type 0
DeadlineRuns c T = (deadline_run_answer c T).number ≡ 0

-- what follows an answer: nothing after a refusal, or after an outcome that is not clean
unfoldable pub follows : ℕ → Outcome → TickAnswer → (Run → TickAnswer) → TickAnswer
follows zero Clean r f = f r.run
follows zero (Overflowed t q) r f = r
follows zero (NoDeadline t i) r f = r
follows (suc n) o r f = r

unfoldable pub carry_on : TickAnswer → (Run → TickAnswer) → TickAnswer
unfolding follows
carry_on r f = follows r.number r.outcome r f

-- tick after tick, as the calls answer
unfoldable pub ticks_from : Chain → ℕ → Run → TickAnswer
unfolding carry_on tick_answer
ticks_from c zero s = record { number = 0; place = 0; outcome = Clean; run = s }
ticks_from c (suc T) s = carry_on (tick_answer c s) (ticks_from c T)

-- an answer that is not refused goes on as what it answers does
carried : (x : Ticked) (f : Run → TickAnswer) (g : Run → Ticked) → (x.outcome ≡ Clean → f x.run ≡ ran_as (g x.run)) → carry_on (ran_as x) f ≡ ran_as (onward x g)
unfolding carry_on onward
carried x f g next = by x.outcome next
  where
    by : (o : Outcome) → (o ≡ Clean → f x.run ≡ ran_as (g x.run)) → follows 0 o (record { number = 0; place = 0; outcome = o; run = x.run }) f ≡ ran_as (goes o x.run g)
    by Clean h = h refl
    by (Overflowed t q) h = refl
    by (NoDeadline t i) h = refl

module _ {c : Chain} (enough : (j : ℕ) → j < c.n → Enough c j) where
  pub ticks_answer : (T : ℕ) {s : Run} → Paced c s → s.clock + T ≤ longest → ticks_from c T s ≡ ran_as (ticks c T s)
  unfolding ticks_from ticks
  ticks_answer zero p l = refl
  ticks_answer (suc T) {s} p l =
      ap (λ (r : TickAnswer). carry_on r (ticks_from c T)) (tick_ran c s ((ticking_is c s).1 (paced_ticking enough p (omega arith))))
      ∙ carried (tick c s) (ticks_from c T) (ticks c T) (λ h. let q : Paced c (tick c s).run = tick_paced p h in ticks_answer T q (omega (arith, (tick_step (running_filled p.running) h).clock)))

-- a deadline run that is not refused
module _ (c : Chain) (T : ℕ) (ran : DeadlineRuns c T) where
  -- what it answers is what its instants leave
  pub answer_is : deadline_run_answer c T ≡ ran_as (instants c T (fresh_run c))
  answer_is = deadline_run_ran c T ((deadline_run_accepts c T).1 (run_may c T ran))

  -- and what T ticks from a fresh start answer
  pub ticks_are_run : deadline_run_answer c T ≡ ticks_from c T (fresh_answer c).run
  unfolding fresh_run
  ticks_are_run =
      let a : Accepted c = (run_may c T ran).0.0 in
      answer_is
      ∙ ap ran_as (run_is_ticks a T)
      ∙ sym (ticks_answer (run_may c T ran).0.1 T (fresh_paced a) (omega (arith, (run_may c T ran).1)))
      ∙ ap (ticks_from c T) (sym (fresh_state c ((analyse_accepts c).1 a)))
