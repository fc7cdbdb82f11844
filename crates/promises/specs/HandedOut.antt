-- States that calls hand out, and that manual firing and the tick then take: 17 never refuses one (01, Numbers a call may refuse with, and Firing).
--   c, s, i, k, T, j         a chain, a run state, a node, source firings, ticks, a queue (N_j feeds it and N_(j+1) empties it)
--   AllSlots s, Passes c s j s has 17 counts, 16 queues and 16 nodes' work; s has none of 17's reasons at queue j (Replay)
--   Runs c k, DeadlineRuns c T
--                            the immediate run, and the deadline run, is not refused (Replay, ByTicks)
--   HandedOut c s            a call for the chain c that is not refused hands out s: a fresh start, a manual firing, an immediate run, a tick, whatever its outcome,
--                            or a deadline run, whatever its outcome
--   handed_out_running, _slots, _passes
--                            such a state has all its slots, and passes 17 for c, which is accepted
--   handed_out_work          so no call leaves work done of e
--   fire_never_17, tick_never_17
--                            and no call refuses such a state 17
use Rattle.std.specs.Prelude.{◌≡◌, ◌≢◌, ℕ, zero, suc, ◌≤◌, ◌<◌}
use Rattle.std.proofs.Common.{sym, ap, ◌∙◌, ⊎_elim, le_refl, arith}
use Rattle.ardenquill.specs.Chains.{work_of}
use Rattle.ardenquill.specs.Analyses.{analyse_accepts}
use Rattle.ardenquill.specs.Runs.{done_at, answered, fresh_answer, fresh_state, fire_refusal, fire_answer, fire_accepted, fire_17, Firing, firing_is, FirstBroken}
use Rattle.ardenquill.specs.Immediate.{schedule, immediate_answer}
use Rattle.ardenquill.specs.Ticks as ticks
use Rattle.ardenquill.specs.Ticks.{outcome_of, tick_refusal, tick_answer, deadline_run_answer, tick_17, Running, fired_running, fresh_running, clean_or}
use Rattle.ardenquill.specs.Ticks.{ran_to, run_may, run_start, run_next, run_stops}
use Rattle.ardenquill.specs.Records.{Chain, Run, TickAnswer}
use Rattle.promises.specs.Outcomes.{cleanly_is}
use Rattle.promises.specs.Replay.{Accepts, AllSlots, Passes, Runs, accepts_is}
use Rattle.promises.specs.Laws.{whole, all_slots, passes_is, running_after, permits, parts, ends_in}
use Rattle.promises.specs.ByTicks.{DeadlineRuns}
use Rattle.promises.specs.Demand2.{immediate_fires, tick_when, tick_ends}
use Rattle.promises.specs.TickInNumbers.{tick_passes}

-- "Each step hands the whole run state back": the calls that hand one out, where they are not refused; what manual firing and the tick were handed has all its slots, as
-- its type says
pub data HandedOut (c : Chain) : Run → Type 0 where
  by_fresh : (fresh_answer c).number ≡ 0 → HandedOut c (fresh_answer c).run
  by_fire : (s : Run) (i : ℕ) → AllSlots s → (fire_answer c s i).number ≡ 0 → HandedOut c (fire_answer c s i).run
  by_immediate : (k : ℕ) → Runs c k → HandedOut c (immediate_answer c k).run
  by_tick : (s : Run) → AllSlots s → (tick_answer c s).number ≡ 0 → HandedOut c (tick_answer c s).run
  by_deadline_run : (T : ℕ) → DeadlineRuns c T → HandedOut c (deadline_run_answer c T).run

-- a fresh start
after_fresh : (c : Chain) → (fresh_answer c).number ≡ 0 → Running c (fresh_answer c).run
unfolding fresh_answer answered
after_fresh c ok = rw (fresh_state c ok) (fresh_running ((analyse_accepts c).0 ok))

-- a manual firing that is accepted
after_firing : (c : Chain) (s : Run) (i : ℕ) → AllSlots s → (fire_answer c s i).number ≡ 0 → Running c (fire_answer c s i).run
unfolding fire_answer answered
after_firing c s i slots ok =
    let f : Firing c s i = (firing_is c s i).0 ok in
    rw (fire_accepted c s i ok) (fired_running (record { chain = f.chain; whole = whole slots; state = f.state }) i f.may.over f.may.room)

-- an immediate run
after_immediate : (c : Chain) (k : ℕ) → Runs c k → Running c (immediate_answer c k).run
after_immediate c k ran = rw (ends_in c k ran) (running_after (fresh_running (parts c k ran).0.0) (schedule c k) (permits c (schedule c k) (immediate_fires c k ran)))

-- a tick, clean or not
after_tick : (c : Chain) (s : Run) → AllSlots s → (tick_answer c s).number ≡ 0 → Running c (tick_answer c s).run
after_tick c s slots ok = record { chain = (accepts_is c).0 may; whole = ticks.whole_kept c s (whole slots); state = (passes_is c (tick_answer c s).run may).1 passes }
  where
    may : Accepts c
    may = ((tick_when c s).0 ok).0.0

    passes : (j : ℕ) → j < c.n → Passes c (tick_answer c s).run j
    passes = ⊎_elim
        (λ e. tick_passes c s slots ok ((cleanly_is (tick_answer c s).outcome).1 e))
        (λ n. rw (tick_ends c s slots ok (λ z. n ((cleanly_is (tick_answer c s).outcome).0 z))) ((tick_when c s).0 ok).1.0)
        (clean_or (tick_answer c s).outcome)

-- a deadline run, and every shorter one
after_run : (c : Chain) (T : ℕ) → DeadlineRuns c T → (t : ℕ) → t ≤ T → Running c (deadline_run_answer c t).run
after_run c T ok zero l = rw (run_start c T ok) (fresh_running (run_may c T ok).0.0)
after_run c T ok (suc t) l =
    let before : Running c (deadline_run_answer c t).run = after_run c T ok t (omega arith) in
    ⊎_elim
    (λ z.
    let e : deadline_run_answer c (suc t) ≡ tick_answer c (deadline_run_answer c t).run = run_next c T ok t l z in
    rw e (after_tick c (deadline_run_answer c t).run (all_slots before.whole) (ap (λ (a : TickAnswer). a.number) (sym e ∙ ran_to c T ok (suc t) l))))
    (λ n. rw (run_stops c T ok t l n) before)
    (clean_or (deadline_run_answer c t).outcome)

-- each of them is of an accepted chain, has all its slots and passes 17
pub handed_out_running : {c : Chain} {s : Run} → HandedOut c s → Running c s
handed_out_running {c} (by_fresh ok) = after_fresh c ok
handed_out_running {c} (by_fire s i slots ok) = after_firing c s i slots ok
handed_out_running {c} (by_immediate k ok) = after_immediate c k ok
handed_out_running {c} (by_tick s slots ok) = after_tick c s slots ok
handed_out_running {c} (by_deadline_run T ok) = after_run c T ok T (le_refl T)

module _ {c : Chain} {s : Run} (h : HandedOut c s) where
  -- a state that is handed out has all its slots
  pub handed_out_slots : AllSlots s
  handed_out_slots = all_slots (handed_out_running h).whole

  -- and none of 17's reasons: it "breaks the balance (p × producer's count − c × consumer's count is not what is held), passes a capacity, or has work done of e or
  -- more" at no queue
  pub handed_out_passes : (j : ℕ) → j < c.n → Passes c s j
  handed_out_passes = (passes_is c s ((accepts_is c).1 (handed_out_running h).chain)).0 (handed_out_running h).state

  -- "work done of e is left only by an overflow at a finish", which does not happen: no call leaves it
  pub handed_out_work : (j : ℕ) → j < c.n → done_at s j < work_of c j
  handed_out_work j l = (handed_out_passes j l).work

  -- no queue is the first that is broken
  unbroken : (L : ℕ) → FirstBroken c s L → ⊥
  unbroken L f =
      let k = (handed_out_running h).state L f.queue in
      ⊎_elim (⊎_elim (λ n. n k.0.0) (λ full. omega (arith, k.0.1))) (λ late. omega (arith, k.1)) f.broken

  -- "every call that is handed a run state checks 17", and manual firing never refuses such a state so
  pub fire_never_17 : (i : ℕ) → (fire_answer c s i).number ≢ 17
  unfolding fire_answer answered
  fire_never_17 i e = unbroken _ ((fire_17 c s i (fire_refusal c s i).place).0 (λ t. record { number = e t; place = (fire_refusal c s i).place })).1

  -- nor does the tick
  pub tick_never_17 : (tick_answer c s).number ≢ 17
  unfolding tick_answer outcome_of
  tick_never_17 e = unbroken _ ((tick_17 c s (tick_refusal c s).place).0 (λ t. record { number = e t; place = (tick_refusal c s).place })).1
