-- Laws of specs/Along.antt that rest on a definition which an edit of must-fail/ changes.
-- The laws of a recording tick and of a recording run, of what their calls answer (02, Item 2).
--   rec_answer_of_law, _ran    what a recording tick that is not refused finds, and that it answers what the tick leaves
--   rec_answer_one, _exactly   which is one tick, and nothing else
--   rec_answer_ends            what ends a tick, ends it so
--   rec_run_may, rec_ran_to    the chain and the length of a recording run that is not refused; and what every shorter one answers
--   rec_run_answers            it answers what T ticks of a fresh start with an empty list end with, and nothing else
--   rec_run_start, _next, _stops
--                              of no ticks it answers a fresh start; of one more, what the tick from its state and its list answers, or the same where it was not clean
--   rec_at_clock               of T ticks, where it is clean, it leaves a state and a list that pass 17, at clock T
--   rec_run_stays, _before     where it is not clean longer runs answer the same, so where one is clean the shorter ones are
--   RecEnds c T o, rec_run_ends
--                              a run of T ticks ends with o exactly where the run up to o's tick is clean and the tick from there ends with o
--   RecCleanStep c t x y, rec_along
--                              what each clean tick hands on from x to y at instant t holds of a clean run
--   rec_ticks_answer           T ticks within the limit answer what T ticks leave
--   rec_run_by_ticks           so the run of T ticks answers what they do
use Rattle.std.proofs.Math.Logic.Iff
use Rattle.std.specs.Prelude.{◌≡◌, refl, ◌↔◌, ℕ, zero, suc, ◌+◌, ◌≤◌, ◌<◌, length}
use Rattle.std.proofs.Common.{sym, ap, subst, ◌∙◌, ⊎_elim, le_refl, le_trans, arith}
use Rattle.chain.specs.Refusals.{Silent}
use Rattle.chain.specs.declared.Chain.{Chain}
use Rattle.sizing.specs.Accepted.{Accepted}
use Rattle.state.specs.State.{fresh_run}
use Rattle.state.specs.declared.Run.{Run}
use Rattle.slots.specs.Runs.{Whole}
use Rattle.instants.specs.Checks.{longest}
use Rattle.instants.specs.Follows.{Answered, answered_stays, answered_before, answered_ends, answered_along}
use Rattle.losses.specs.Losses.{empty_losses, listed_of}
use Rattle.losses.specs.declared.Losses.{Losses}
use Rattle.recordings.specs.Steps.{rec_clean, rec_tick, rec_ticks}
use Rattle.recordings.proofs.RunsLaws.{rec_clean_or, rec_onward_goes, rec_onward_stops, rec_ticks_none, rec_ticks_last, rec_run_is_ticks}
use Rattle.recordings.proofs.GrowingLaws.{tick_clock}
use Rattle.recordings.specs.Checks.{Recording, recording_filled, fresh_recording}
use Rattle.recordings.specs.Answers.{rec_tick_refusal, rec_answer_of, rec_tick_answer, rec_run_answer}
use Rattle.recordings.specs.RecRefusals.{RecTicking, rec_ran_as}
use Rattle.recordings.proofs.RecRefusalsLaws.{rec_ticking_is, rec_tick_ran, rec_run_accepts, rec_run_ran}
use Rattle.recordings.specs.Exactly.{RecOneTick, RecTickOnce, RecTicksTo}
use Rattle.recordings.proofs.ExactlyLaws.{rec_is_one, rec_tick_exactly, rec_one_full, rec_one_lacks, rec_one_leaves, rec_ticks_exactly}
use Rattle.recordings.specs.Paced.{RecPaced, rec_fresh_paced, rec_paced_ticking}
use Rattle.recordings.proofs.PacedLaws.{rec_tick_paced, rec_ticks_paced}
use Rattle.recordings.specs.declared.RecordOutcome.{RecordOutcome}
use Rattle.recordings.specs.declared.RecordOutcome.TheVariants.{Clean, NoDeadline, ListFull}
use Rattle.recordings.specs.declared.Recorded.{Recorded}
use Rattle.recordings.specs.Answered.{RecordAnswer}
use Rattle.recordings.specs.Along.{rec_left, ran_same, rec_begins, RecEnds, RecCleanStep, rec_carry_on, rec_ticks_from, carried}

module _ (c : Chain) (s : Run) (l : Losses) (w : Whole s) (long : length l.entries ≡ 256) (ok : (rec_tick_answer c s l).number ≡ 0) where
  -- a recording tick that is not refused
  ticking : RecTicking c s l
  unfolding rec_tick_answer rec_answer_of
  ticking = (rec_ticking_is c s l).0 ok

  -- finds a chain that is accepted, and a state and a list that pass 17
  pub rec_answer_of_law : Recording c s l
  rec_answer_of_law = record { chain = ticking.chain; whole = w; listed = listed_of l long ticking.sound.short; sound = ticking.sound }

  -- answers what the tick leaves
  pub rec_answer_ran : rec_tick_answer c s l ≡ rec_ran_as (rec_tick c s l)
  unfolding rec_tick_answer rec_answer_of
  rec_answer_ran = rec_tick_ran c s l ok

  -- which is one tick
  pub rec_answer_one : RecOneTick c s l (rec_left (rec_tick_answer c s l))
  rec_answer_one = subst (λ (a : RecordAnswer). RecOneTick c s l (rec_left a)) (sym rec_answer_ran) (rec_is_one (recording_filled rec_answer_of_law) rec_answer_of_law.listed)

  -- and nothing else
  pub rec_answer_exactly : (x : Recorded) → (rec_tick_answer c s l ≡ rec_ran_as x) ↔ RecOneTick c s l x
  rec_answer_exactly x = Iff.trans (ran_same (rec_tick_answer c s l) (rec_tick c s l) x rec_answer_ran) (rec_tick_exactly (recording_filled rec_answer_of_law) rec_answer_of_law.listed x)

  -- "13 at the first instant when", and 15 at the instant of the loss that it does not take
  pub rec_answer_ends : (o : RecordOutcome) → (o ≡ Clean → ⊥) → (rec_tick_answer c s l).outcome ≡ o → rec_begins o ≡ s.clock
  rec_answer_ends Clean n e = absurd (n refl)
  rec_answer_ends (NoDeadline t i) n e = (rec_one_lacks rec_answer_one t i e).0
  rec_answer_ends (ListFull t zero) n e = ⊎_elim (λ a. a.0.0) (λ a. absurd (omega (arith, a.queue))) (rec_one_full rec_answer_one t 0 e)
  rec_answer_ends (ListFull t (suc j)) n e = ⊎_elim (λ a. absurd (omega (arith, a.0.1))) (λ a. omega (arith, a.tick)) (rec_one_full rec_answer_one t (suc j) e)

-- a recording run that is not refused
module _ (c : Chain) (T : ℕ) (ok : (rec_run_answer c T).number ≡ 0) where
  -- its chain is accepted, and it is within the limit
  pub rec_run_may : Accepted c × (T ≤ longest)
  unfolding rec_run_answer rec_answer_of
  rec_run_may = (rec_run_accepts c T).0 ok

  -- nor is any shorter one
  pub rec_ran_to : (t : ℕ) → t ≤ T → rec_run_answer c t ≡ rec_ran_as (rec_ticks c t (fresh_run c) empty_losses)
  rec_ran_to t l = rec_run_ran c t ((rec_run_accepts c t).1 (rec_run_may.0, le_trans l rec_run_may.1)) ∙ ap rec_ran_as (rec_run_is_ticks rec_run_may.0 t empty_losses)

  -- it answers what T ticks of a fresh start with an empty list end with, and nothing else
  pub rec_run_answers : (x : Recorded) → (rec_run_answer c T ≡ rec_ran_as x) ↔ RecTicksTo c T (fresh_run c) empty_losses x
  rec_run_answers x =
      let fresh = fresh_recording rec_run_may.0 in
      Iff.trans (ran_same (rec_run_answer c T) (rec_ticks c T (fresh_run c) empty_losses) x (rec_ran_to T (le_refl T))) (rec_ticks_exactly T (recording_filled fresh) fresh.listed x)

  -- of no ticks it answers a fresh start
  pub rec_run_start : rec_run_answer c 0 ≡ rec_ran_as (rec_clean (fresh_run c) empty_losses)
  rec_run_start = rec_ran_to 0 (omega arith) ∙ ap rec_ran_as (rec_ticks_none c (fresh_run c) empty_losses)

  -- where it is clean it leaves a state and a list that pass 17, at clock t
  pub rec_at_clock : (t : ℕ) → t ≤ T → (rec_run_answer c t).outcome ≡ Clean → RecPaced c (rec_run_answer c t).run (rec_run_answer c t).losses × ((rec_run_answer c t).run.clock ≡ t)
  rec_at_clock t l h = rw (rec_ran_to t l) (rec_ticks_paced rec_run_may.0 t (ap (λ (a : RecordAnswer). a.outcome) (sym (rec_ran_to t l)) ∙ h))

  -- no check refuses a tick from there
  silent_at : (t : ℕ) → t < T → (rec_run_answer c t).outcome ≡ Clean → Silent (rec_tick_refusal c (rec_run_answer c t).run (rec_run_answer c t).losses)
  silent_at t l h =
      let k = rec_at_clock t (omega arith) h in
      (rec_ticking_is c (rec_run_answer c t).run (rec_run_answer c t).losses).1 (rec_paced_ticking k.0 (omega (arith, k.1, rec_run_may.1)))

  -- and of one tick more it answers what that tick does
  pub rec_run_next : (t : ℕ) → t < T → (rec_run_answer c t).outcome ≡ Clean → rec_run_answer c (suc t) ≡ rec_tick_answer c (rec_run_answer c t).run (rec_run_answer c t).losses
  rec_run_next t l h =
      let e = rec_ran_to t (omega arith) in
      let x : Recorded = rec_ticks c t (fresh_run c) empty_losses in
      rec_ran_to (suc t) l
      ∙ ap rec_ran_as (rec_ticks_last c t (fresh_run c) empty_losses ∙ rec_onward_goes x (rec_tick c) (ap (λ (a : RecordAnswer). a.outcome) (sym e) ∙ h))
      ∙ ap (λ (a : RecordAnswer). rec_ran_as (rec_tick c a.run a.losses)) (sym e)
      ∙ sym (rec_tick_ran c (rec_run_answer c t).run (rec_run_answer c t).losses (silent_at t l h))

  -- where it is not, the same
  pub rec_run_stops : (t : ℕ) → t < T → ((rec_run_answer c t).outcome ≡ Clean → ⊥) → rec_run_answer c (suc t) ≡ rec_run_answer c t
  rec_run_stops t l n =
      let e = rec_ran_to t (omega arith) in
      let stays = rec_onward_stops (rec_ticks c t (fresh_run c) empty_losses) (rec_tick c) (λ z. n (ap (λ (a : RecordAnswer). a.outcome) e ∙ z)) in
      rec_ran_to (suc t) l ∙ ap rec_ran_as (rec_ticks_last c t (fresh_run c) empty_losses ∙ stays) ∙ sym e

  -- so each of its answers is that of one tick more, as far as they are clean
  answered : Answered (λ (a : RecordAnswer). a.outcome ≡ Clean) (λ a. rec_tick_answer c a.run a.losses) (rec_run_answer c) T
  answered = record { decided = λ a. rec_clean_or a.outcome; start = ap (λ (a : RecordAnswer). a.outcome) rec_run_start; next = rec_run_next; stops = rec_run_stops }

  -- so longer runs answer the same
  pub rec_run_stays : (t k : ℕ) → t + k ≤ T → ((rec_run_answer c t).outcome ≡ Clean → ⊥) → rec_run_answer c (t + k) ≡ rec_run_answer c t
  rec_run_stays = answered_stays answered

  -- and where one is clean so are the shorter ones
  pub rec_run_before : (t : ℕ) → t < T → (rec_run_answer c (suc t)).outcome ≡ Clean → (rec_run_answer c t).outcome ≡ Clean
  rec_run_before = answered_before answered

  -- the tick from a clean run of t ticks
  module _ (t : ℕ) (l : t < T) (h : (rec_run_answer c t).outcome ≡ Clean) where
    here : Recording c (rec_run_answer c t).run (rec_run_answer c t).losses
    here = (rec_at_clock t (omega arith) h).0.recording

    tick_at : RecOneTick c (rec_run_answer c t).run (rec_run_answer c t).losses (rec_left (rec_tick_answer c (rec_run_answer c t).run (rec_run_answer c t).losses))
    unfolding rec_tick_answer rec_answer_of
    tick_at = rec_answer_one c (rec_run_answer c t).run (rec_run_answer c t).losses here.whole here.listed.long (silent_at t l h)

    clock_of : (o : RecordOutcome) → (o ≡ Clean → ⊥) → (rec_tick_answer c (rec_run_answer c t).run (rec_run_answer c t).losses).outcome ≡ o → rec_begins o ≡ t
    unfolding rec_tick_answer rec_answer_of
    clock_of o n e =
        rec_answer_ends c (rec_run_answer c t).run (rec_run_answer c t).losses here.whole here.listed.long (silent_at t l h) o n e ∙ (rec_at_clock t (omega arith) h).1

  -- "the first instant when"
  pub rec_run_ends : (o : RecordOutcome) → (o ≡ Clean → ⊥) → ((rec_run_answer c T).outcome ≡ o) ↔ RecEnds c T o
  rec_run_ends o n =
      Iff.trans (answered_ends answered (λ a. a.outcome ≡ o) (λ a e z. n (sym e ∙ z)) (rec_begins o) (λ t l h e. clock_of t l h o n e))
      (λ h. record { before = h.0; cleanly = h.1.0; says = h.1.1 }, λ k. (k.before, (k.cleanly, k.says)))

  -- what each clean tick hands on, from a fresh start, holds of a clean run
  pub rec_along : (P : ℕ → Type 0) → P 0 → ((t : ℕ) → t < T → RecCleanStep c t (rec_run_answer c t) (rec_run_answer c (suc t)) → P t → P (suc t))
      → (rec_run_answer c T).outcome ≡ Clean → P T
  rec_along P none more = answered_along answered P none step
    where
      step : (t : ℕ) → t < T → (rec_run_answer c t).outcome ≡ Clean → (rec_run_answer c (suc t)).outcome ≡ Clean → P t → P (suc t)
      step t l z h =
          let e : rec_run_answer c (suc t) ≡ rec_tick_answer c (rec_run_answer c t).run (rec_run_answer c t).losses = rec_run_next t l z in
          let once : RecTickOnce c (rec_run_answer c t).run (rec_run_answer c t).losses (rec_left (rec_run_answer c (suc t))) =
          subst (λ (a : RecordAnswer). RecTickOnce c (rec_run_answer c t).run (rec_run_answer c t).losses (rec_left a)) (sym e)
          (rec_one_leaves (tick_at t l z) (ap (λ (a : RecordAnswer). a.outcome) (sym e) ∙ h)) in
          more t l (record { recording = here t l z; clock = (rec_at_clock t (omega arith) z).1; tick = once })

-- T ticks within the limit answer what T ticks leave
pub rec_ticks_answer : (c : Chain) (T : ℕ) {s : Run} {l : Losses} → RecPaced c s l → s.clock + T ≤ longest → rec_ticks_from c T s l ≡ rec_ran_as (rec_ticks c T s l)
unfolding rec_ticks_from rec_ticks
rec_ticks_answer c zero p h = refl
rec_ticks_answer c (suc T) {s} {l} p h =
    ap (λ (r : RecordAnswer). rec_carry_on r (rec_ticks_from c T)) (rec_tick_ran c s l ((rec_ticking_is c s l).1 (rec_paced_ticking p (omega arith))))
    ∙ carried (rec_tick c s l) (rec_ticks_from c T) (rec_ticks c T)
    (λ z. rec_ticks_answer c T (rec_tick_paced p z) (omega (arith, tick_clock (recording_filled p.recording) p.recording.listed z)))

-- "a recording run from a fresh start" is so many recording ticks, with an empty list, as their calls answer
pub rec_run_by_ticks : (c : Chain) (T : ℕ) → (rec_run_answer c T).number ≡ 0 → rec_run_answer c T ≡ rec_ticks_from c T (fresh_run c) empty_losses
unfolding fresh_run
rec_run_by_ticks c T ok =
    let may = rec_run_may c T ok in
    rec_ran_to c T ok T (le_refl T) ∙ sym (rec_ticks_answer c T (rec_fresh_paced may.0) (omega (arith, may.1)))
