-- Laws of specs/Answers.antt that rest on a definition which an edit of must-fail/ changes.
-- The laws of a tick and of a deadline run, of what their calls answer (01, Firing).
--   answer_one, answer_exactly a tick that is not refused answers one tick, and nothing else
--   answer_ends                what ends it, ends it at its clock
--   paced_ticking              no check refuses a tick of a run before its longest end
--   run_answers                a deadline run that is not refused answers what T ticks of a fresh start end with, and nothing else
--   run_may, ran_to            its chain, its capacities and its length; and what every shorter one answers
--   run_start, _next, _stops   of no ticks it answers a fresh start; of one more, what the tick from its state answers, or the same where it was not clean
--   at_clock                   of T ticks, where it is clean, it leaves a state that passes 17, at clock T
--   run_stays, run_before      where it is not clean longer runs answer the same, so where one is clean the shorter ones are
--   Ends c T o, run_ends       a run of T ticks ends with o exactly where the run up to o's instant is clean and the tick from there ends with o
--   CleanStep c t s u, along   what each clean tick hands on from s to u at instant t holds of a clean run
use Rattle.std.proofs.Math.Logic.Iff
use Rattle.std.specs.Prelude.{◌≡◌, refl, ◌↔◌, ℕ, zero, suc, ◌+◌, ◌-◌, ◌≤◌, ◌<◌}
use Rattle.std.proofs.Common.{sym, ap, subst, ◌∙◌, ⊎_elim, le_refl, le_trans, add-zero, arith}
use Rattle.chain.specs.Refusals.{Silent}
use Rattle.chain.specs.declared.Chain.{Chain}
use Rattle.sizing.specs.Checks.{Enough}
use Rattle.sizing.specs.Accepted.{Accepted}
use Rattle.state.specs.State.{fresh_run}
use Rattle.state.specs.declared.Run.{Run}
use Rattle.slots.specs.Runs.{Whole}
use Rattle.instants.specs.Steps.{tick_of, clean, tick, ticks}
use Rattle.instants.specs.Checks.{longest, tick_refusal, outcome_of, tick_answer, deadline_run_answer}
use Rattle.instants.specs.Refusals.{Ticking, ran_as}
use Rattle.instants.proofs.RefusalsLaws.{ticking_is, tick_ran, deadline_run_accepts, deadline_run_ran}
use Rattle.instants.specs.Runs.{clean_or, onward_goes, onward_stops}
use Rattle.instants.proofs.RunsLaws.{ticks_none, ticks_last}
use Rattle.instants.specs.Filled.{Running}
use Rattle.instants.specs.Fresh.{Paced}
use Rattle.instants.proofs.FreshLaws.{fresh_running, run_is_ticks, paced_countable, ticks_paced}
use Rattle.instants.specs.Once.{TickOnce}
use Rattle.instants.specs.Exactly.{OneTick, TicksTo}
use Rattle.instants.proofs.ExactlyLaws.{is_one, one_overflows, one_lacks, one_leaves, tick_exactly, ticks_exactly}
use Rattle.instants.specs.declared.Outcome.{Outcome}
use Rattle.instants.specs.declared.Outcome.TheVariants.{Clean, Overflowed, NoDeadline}
use Rattle.instants.specs.declared.Ticked.{Ticked}
use Rattle.instants.specs.Answered.{TickAnswer}
use Rattle.instants.specs.Answers.{left, ran_same, Ends, CleanStep}

module _ (c : Chain) (s : Run) (w : Whole s) (ok : (tick_answer c s).number ≡ 0) where
  -- a tick that is not refused
  ticking : Ticking c s
  unfolding tick_answer outcome_of
  ticking = (ticking_is c s).0 ok

  running : Running c s
  running = record { chain = ticking.chain; whole = w; state = ticking.state }

  ran : tick_answer c s ≡ ran_as (tick c s)
  unfolding tick_answer outcome_of
  ran = tick_ran c s ok

  -- answers one tick
  pub answer_one : OneTick c s (left (tick_answer c s))
  answer_one = subst (λ (a : TickAnswer). OneTick c s (left a)) (sym ran) (is_one ticking.enough running)

  -- and nothing else
  pub answer_exactly : (x : Ticked) → (tick_answer c s ≡ ran_as x) ↔ OneTick c s x
  answer_exactly x = Iff.trans (ran_same (tick_answer c s) (tick c s) x ran) (tick_exactly ticking.enough running x)

  -- "overflowed at (tick, queue)", and 13 "at the first instant when": the tick is the clock
  pub answer_ends : (o : Outcome) → (o ≡ Clean → ⊥) → (tick_answer c s).outcome ≡ o → tick_of o ≡ s.clock
  answer_ends Clean n e = absurd (n refl)
  answer_ends (Overflowed t q) n e = ((one_overflows answer_one t q).0 e).0.0
  answer_ends (NoDeadline t i) n e = ((one_lacks answer_one t i).0 e).0

-- no check refuses a tick of a run before its longest end
pub paced_ticking : {c : Chain} {s : Run} → ((j : ℕ) → j < c.n → Enough c j) → Paced c s → s.clock < longest → Ticking c s
paced_ticking enough p l = record { chain = p.running.chain; enough = enough; state = p.running.state; clock = l; countable = paced_countable p (omega arith) }

-- a deadline run that is not refused
module _ (c : Chain) (T : ℕ) (ok : (deadline_run_answer c T).number ≡ 0) where
  -- its chain is accepted, its capacities are enough, and it is within the limit
  pub run_may : (Accepted c × ((j : ℕ) → j < c.n → Enough c j)) × (T ≤ longest)
  unfolding deadline_run_answer outcome_of
  run_may = (deadline_run_accepts c T).0 ok

  -- nor is any shorter one
  pub ran_to : (t : ℕ) → t ≤ T → deadline_run_answer c t ≡ ran_as (ticks c t (fresh_run c))
  ran_to t l = deadline_run_ran c t ((deadline_run_accepts c t).1 (run_may.0, le_trans l run_may.1)) ∙ ap ran_as (run_is_ticks run_may.0.0 t)

  -- it answers what T ticks of a fresh start end with, and nothing else
  pub run_answers : (x : Ticked) → (deadline_run_answer c T ≡ ran_as x) ↔ TicksTo c T (fresh_run c) x
  run_answers x = Iff.trans (ran_same (deadline_run_answer c T) (ticks c T (fresh_run c)) x (ran_to T (le_refl T))) (ticks_exactly run_may.0.1 T (fresh_running run_may.0.0) x)

  -- of no ticks it answers a fresh start
  pub run_start : deadline_run_answer c 0 ≡ ran_as (clean (fresh_run c))
  run_start = ran_to 0 (omega arith) ∙ ap ran_as (ticks_none c (fresh_run c))

  -- where it is clean it leaves a state that passes 17, at clock t
  pub at_clock : (t : ℕ) → t ≤ T → (deadline_run_answer c t).outcome ≡ Clean → Paced c (deadline_run_answer c t).run × ((deadline_run_answer c t).run.clock ≡ t)
  at_clock t l h = rw (ran_to t l) (ticks_paced run_may.0.0 t (ap (λ (a : TickAnswer). a.outcome) (sym (ran_to t l)) ∙ h))

  -- no check refuses a tick from there
  silent_at : (t : ℕ) → t < T → (deadline_run_answer c t).outcome ≡ Clean → Silent (tick_refusal c (deadline_run_answer c t).run)
  silent_at t l h =
      let k = at_clock t (omega arith) h in
      (ticking_is c (deadline_run_answer c t).run).1 (paced_ticking run_may.0.1 k.0 (omega (arith, k.1, run_may.1)))

  -- and of one tick more it answers what that tick does
  pub run_next : (t : ℕ) → t < T → (deadline_run_answer c t).outcome ≡ Clean → deadline_run_answer c (suc t) ≡ tick_answer c (deadline_run_answer c t).run
  run_next t l h =
      let e = ran_to t (omega arith) in
      ran_to (suc t) l
      ∙ ap ran_as (ticks_last c t (fresh_run c) ∙ onward_goes (ticks c t (fresh_run c)) (tick c) (ap (λ (a : TickAnswer). a.outcome) (sym e) ∙ h) ∙ ap (λ (a : TickAnswer). tick c a.run) (sym e))
      ∙ sym (tick_ran c (deadline_run_answer c t).run (silent_at t l h))

  -- where it is not, the same
  pub run_stops : (t : ℕ) → t < T → ((deadline_run_answer c t).outcome ≡ Clean → ⊥) → deadline_run_answer c (suc t) ≡ deadline_run_answer c t
  run_stops t l n =
      let e = ran_to t (omega arith) in
      ran_to (suc t) l ∙ ap ran_as (ticks_last c t (fresh_run c) ∙ onward_stops (ticks c t (fresh_run c)) (tick c) (λ z. n (ap (λ (a : TickAnswer). a.outcome) e ∙ z))) ∙ sym e

  -- so longer runs answer the same
  pub run_stays : (t k : ℕ) → t + k ≤ T → ((deadline_run_answer c t).outcome ≡ Clean → ⊥) → deadline_run_answer c (t + k) ≡ deadline_run_answer c t
  run_stays t zero l n = ap (deadline_run_answer c) (add-zero t)
  run_stays t (suc k) l n =
      let e : deadline_run_answer c (t + k) ≡ deadline_run_answer c t = run_stays t k (omega arith) n in
      let more : t + suc k ≡ suc (t + k) = omega arith in
      ap (deadline_run_answer c) more ∙ run_stops (t + k) (omega arith) (λ z. n (ap (λ (a : TickAnswer). a.outcome) (sym e) ∙ z)) ∙ e

  -- and where one is clean so are the shorter ones
  pub run_before : (t : ℕ) → t < T → (deadline_run_answer c (suc t)).outcome ≡ Clean → (deadline_run_answer c t).outcome ≡ Clean
  run_before t l h = ⊎_elim (λ z. z) (λ n. absurd (n (ap (λ (a : TickAnswer). a.outcome) (sym (run_stops t l n)) ∙ h))) (clean_or (deadline_run_answer c t).outcome)

  -- the tick from a clean run of t ticks
  tick_at : (t : ℕ) → t < T → (deadline_run_answer c t).outcome ≡ Clean → OneTick c (deadline_run_answer c t).run (left (tick_answer c (deadline_run_answer c t).run))
  unfolding tick_answer outcome_of
  tick_at t l h = answer_one c (deadline_run_answer c t).run (at_clock t (omega arith) h).0.running.whole (silent_at t l h)

  clock_of : (t : ℕ) → t < T → (deadline_run_answer c t).outcome ≡ Clean → (o : Outcome) → (o ≡ Clean → ⊥) → (tick_answer c (deadline_run_answer c t).run).outcome ≡ o → tick_of o ≡ t
  unfolding tick_answer outcome_of
  clock_of t l h o n e =
      let k = at_clock t (omega arith) h in
      answer_ends c (deadline_run_answer c t).run k.0.running.whole (silent_at t l h) o n e ∙ k.1

  -- an outcome of a run of t ticks is that of the tick at its instant
  ends_by : (o : Outcome) → (o ≡ Clean → ⊥) → (t : ℕ) → t ≤ T → (deadline_run_answer c t).outcome ≡ o → Ends c t o
  ends_by o n zero l e = absurd (n (sym e ∙ ap (λ (a : TickAnswer). a.outcome) run_start))
  ends_by o n (suc t) l e = ⊎_elim here (λ f. before f (ends_by o n t (omega arith))) (clean_or (deadline_run_answer c t).outcome)
    where
      here : (deadline_run_answer c t).outcome ≡ Clean → Ends c (suc t) o
      here z =
          let says : (tick_answer c (deadline_run_answer c t).run).outcome ≡ o = ap (λ (a : TickAnswer). a.outcome) (sym (run_next t l z)) ∙ e in
          let at : tick_of o ≡ t = clock_of t l z o n says in
          record {
            before = omega (arith, at);
            cleanly = rw at z;
            says = rw at says;
          }

      before : ((deadline_run_answer c t).outcome ≡ Clean → ⊥) → ((deadline_run_answer c t).outcome ≡ o → Ends c t o) → Ends c (suc t) o
      before f shorter =
          let k : Ends c t o = shorter (ap (λ (a : TickAnswer). a.outcome) (sym (run_stops t l f)) ∙ e) in
          record { before = omega (arith, k.before); cleanly = k.cleanly; says = k.says }

  -- "the first instant when"
  pub run_ends : (o : Outcome) → (o ≡ Clean → ⊥) → ((deadline_run_answer c T).outcome ≡ o) ↔ Ends c T o
  run_ends o n = (ends_by o n T (le_refl T), back)
    where
      back : Ends c T o → (deadline_run_answer c T).outcome ≡ o
      back k =
          let says : (deadline_run_answer c (suc (tick_of o))).outcome ≡ o = ap (λ (a : TickAnswer). a.outcome) (run_next (tick_of o) k.before k.cleanly) ∙ k.says in
          let rest : T ≡ suc (tick_of o) + (T - suc (tick_of o)) = omega (arith, k.before) in
          ap (λ (t : ℕ). (deadline_run_answer c t).outcome) rest
          ∙ ap (λ (a : TickAnswer). a.outcome) (run_stays (suc (tick_of o)) (T - suc (tick_of o)) (omega (arith, k.before)) (λ z. n (sym says ∙ z)))
          ∙ says

  -- what each clean tick hands on, from a fresh start, holds of a clean run
  pub along : (P : ℕ → Type 0) → P 0 → ((t : ℕ) → t < T → CleanStep c t (deadline_run_answer c t).run (deadline_run_answer c (suc t)).run → P t → P (suc t))
      → (deadline_run_answer c T).outcome ≡ Clean → P T
  along P none more = to T (le_refl T)
    where
      to : (t : ℕ) → t ≤ T → (deadline_run_answer c t).outcome ≡ Clean → P t
      to zero l h = none
      to (suc t) l h =
          let z : (deadline_run_answer c t).outcome ≡ Clean = run_before t l h in
          let e : deadline_run_answer c (suc t) ≡ tick_answer c (deadline_run_answer c t).run = run_next t l z in
          let k = at_clock t (omega arith) z in
          let once : TickOnce c (deadline_run_answer c t).run (deadline_run_answer c (suc t)).run =
          subst (λ (a : TickAnswer). TickOnce c (deadline_run_answer c t).run a.run) (sym e) (one_leaves (tick_at t l z) (ap (λ (a : TickAnswer). a.outcome) (sym e) ∙ h)) in
          more t l (record { running = k.0.running; clock = k.1; tick = once }) (to t (omega arith) z)
