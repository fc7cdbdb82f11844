-- The answers of a recording tick and of a recording run, as their code puts them together.
use mathlib.Core.Path.{◌≡◌, refl, sym, ap, ◌∙◌}
use mathlib.Core.List.{List}
use Prim.Native.Nat.{ℕ, ◌+◌, ◌≤◌}
use native.Mathlib.Nat.{zero-add}
use native.Mathlib.Omega.{arith}
use lib.ListN.{replicate}
use Rattle.std.proofs.Common.{Result, Ok, Err, length}
use Rattle.chain.specs.Faults.{Few}
use Rattle.chain.specs.Refusals.{fine, or_else, Silent, silent_as, or_left, or_right}
use Rattle.chain.specs.Refusal.{Refusal}
use Rattle.chain.specs.Said.{refusal, speaks}
use Rattle.chain.specs.declared.Chain.{Chain}
use Rattle.chain.specs.declared.reasons.Refused.{Refused}
use Rattle.sizing.specs.Accepted.{Accepted}
use Rattle.sizing.specs.Plan.{SizedPlans}
use Rattle.state.specs.State.{empty_run, fresh_run}
use Rattle.state.specs.Fired.{accounted}
use Rattle.state.specs.Checks.{state_check_with, Planned, Accountable, planned_sized}
use Rattle.state.proofs.ChecksLaws.{state_sums}
use Rattle.state.specs.declared.Run.{Run}
use Rattle.flow.specs.Flow.{Shows}
use Rattle.flow.specs.Poured.{Showing}
use Rattle.instants.specs.Checks.{longest, length_check, clock_check, spent_check}
use Rattle.instants.specs.Filled.{Filled}
use Rattle.losses.specs.Losses.{empty_losses, Listed, listed_empty}
use Rattle.losses.specs.Tally.{TallyGives}
use Rattle.losses.specs.declared.Losses.{Losses}
use Rattle.recordings.specs.Steps.{rec_clean, rec_onward, rec_tick, rec_ticks}
use Rattle.recordings.proofs.RunsLaws.{rec_onward_goes, rec_ticks_none, rec_ticks_last, rec_run_is_ticks}
use Rattle.recordings.specs.Checks.{rec_accounted, rec_state_check, rec_queues_check, recording_filled}
use Rattle.recordings.specs.Answers.{rec_answer_of, rec_tick_refusal, rec_tick_answer, rec_run_refusal, rec_run_answer}
use Rattle.recordings.specs.RecRefusals.{RecTicking, rec_ran_as}
use Rattle.recordings.proofs.RecRefusalsLaws.{rec_answer_refused, rec_ticking_is, rec_tick_parts, rec_tick_ran, rec_run_parts, rec_run_accepts, rec_run_ran}
use Rattle.ticks.specs.Runs.{LendsIn, RanGives, lent_once, lends_once, lent_fresh, lends_fresh}
use Rattle.recordings.specs.declared.Recorded.{Recorded}
use Rattle.recordings.specs.Answered.{recorded_said}
use Rattle.steps.specs.declared.Halt.{Halt}
use Rattle.recorder.specs.Joined.{JoinedGives, Carries, carries_gives}

-- what an error is answered with
pub error_told : (e : Refused) (s : Run) (l : Losses) (x : Recorded) → rec_answer_of (refusal e) s l x ≡ recorded_said s l (Err e)
error_told e s l x = sym (rec_answer_refused (refusal e) s l x (speaks e))

pub ruleset answering = (rec_tick_parts, rec_run_parts, error_told)

-- the number of queues of a chain that has a plan
pub few : {c : Chain} {p : List ℕ} → Planned c p → Few c.n
few k = record { few = k.chain.count.1 }

-- 17: of the list, or of the queues with its sums
module _ (c : Chain) (s : Run) (l : Losses) where
  pub list_refuses : {e : Refused} → TallyGives c.n l (Err e) → refusal e ≡ rec_state_check c s l
  unfolding rec_state_check
  list_refuses {e} g = or_left (rec_queues_check c s l) g.says (speaks e)

  module _ {p t : List ℕ} (k : Planned c p) (g : TallyGives c.n l (Ok t)) where
    -- they are numbers that 17 can count
    pub sums_accountable : Accountable c p t
    sums_accountable = record { planned = k; few = λ i h. omega (arith, g.few i (omega (arith, k.chain.count.1))) }

    pub queues_refuse : {d : Refusal} → d ≡ state_check_with c s t → d ≡ rec_state_check c s l
    unfolding rec_state_check rec_queues_check
    queues_refuse e = or_right g.says refl (e ∙ state_sums c s t (rec_accounted c s l) (λ i h. ap (λ (x : ℕ). accounted c s i + x) (g.sums i (omega (arith, k.chain.count.1)))))

pub ruleset damages = (few, list_refuses, sums_accountable, queues_refuse)

-- one recording tick is so many
rec_ticks_one : (c : Chain) (s : Run) (l : Losses) → rec_ticks c 1 s l ≡ rec_tick c s l
rec_ticks_one c s l = rec_ticks_last c 0 s l ∙ ap (λ (x : Recorded). rec_onward x (rec_tick c)) (rec_ticks_none c s l) ∙ rec_onward_goes (rec_clean s l) (rec_tick c) refl

-- a recording tick
module _ (c : Chain) (s : Run) (l : Losses) (long : length l.entries ≡ 256) {p : List ℕ} {u : Unit} (e : SizedPlans c p (Ok u)) (f : fine ≡ rec_state_check c s l)
    (g : fine ≡ or_else (clock_check s) (spent_check c s)) {o : List ℕ} (shown : Showing o c s) where
  accepts : Silent (rec_tick_refusal c s l)
  accepts = silent_as (or_right e.says refl (or_right f refl g) ∙ sym (rec_tick_parts c s l)) refl

  ticking : RecTicking c s l
  ticking = (rec_ticking_is c s l).0 accepts

  listed : Listed l
  listed = record { long = long; short = ticking.sound.short }

  filled : Filled c s
  filled = recording_filled (record {
    chain = ticking.chain;
    whole = record { counts = shown.typed.counts; held = shown.typed.held; done = shown.typed.done };
    listed = listed;
    sound = ticking.sound;
  })

  pub tick_carries : Carries p o s.done l s.clock 1
  tick_carries = record { lends = lends_once (planned_sized e refl).plans shown filled ticking.clock ticking.countable; listed = listed }

  lent : LendsIn p o s.done s.clock 1 c s
  lent = lent_once (planned_sized e refl).plans shown filled ticking.clock ticking.countable

  ran_once : {x : Recorded} → x ≡ rec_ticks c 1 s l → recorded_said s l (Ok x) ≡ rec_tick_answer c s l
  ran_once h = ap rec_ran_as (h ∙ rec_ticks_one c s l) ∙ sym (rec_tick_ran c s l accepts)

  module _ {q x : List ℕ} {r : Result ℕ Halt} (t : RanGives p o s.done s.clock 1 q x r) where
    pub tick_answers : {a : Recorded} → JoinedGives p q x l (s.clock + 1) r a → recorded_said s l (Ok a) ≡ rec_tick_answer c s l
    tick_answers j = ran_once (carries_gives refl tick_carries t j lent)

-- a recording run
module _ (c : Chain) (T : ℕ) {p : List ℕ} {u : Unit} (e : SizedPlans c p (Ok u)) (g : fine ≡ length_check T) {f : List ℕ} (y : Shows f c (fresh_run c)) where
  fine_run : Silent (rec_run_refusal c T)
  fine_run = silent_as (or_right e.says refl g ∙ sym (rec_run_parts c T)) refl

  allowed : Accepted c × (T ≤ longest)
  allowed = (rec_run_accepts c T).0 fine_run

  pub run_carries : Carries p f (replicate 16 0) empty_losses 0 T
  run_carries = record { lends = lends_fresh (planned_sized e refl).plans y allowed.0 allowed.1; listed = listed_empty }

  fresh : LendsIn p f (replicate 16 0) 0 T c (fresh_run c)
  fresh = lent_fresh (planned_sized e refl).plans y allowed.0 allowed.1

  ran : {x : Recorded} → x ≡ rec_ticks c T (fresh_run c) empty_losses → recorded_said empty_run empty_losses (Ok x) ≡ rec_run_answer c T
  ran h = ap rec_ran_as (h ∙ sym (rec_run_is_ticks allowed.0 T empty_losses)) ∙ sym (rec_run_ran c T fine_run)

  module _ {q x : List ℕ} {r : Result ℕ Halt} (t : RanGives p f (replicate 16 0) 0 T q x r) where
    pub run_answers : {a : Recorded} → JoinedGives p q x empty_losses T r a → recorded_said empty_run empty_losses (Ok a) ≡ rec_run_answer c T
    run_answers j = ran (carries_gives (sym (zero-add T)) run_carries t j fresh)
