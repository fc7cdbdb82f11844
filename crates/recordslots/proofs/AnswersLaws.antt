-- Laws of specs/Answers.antt that rest on a definition which an edit of must-fail/ changes.
-- "In every run state the slots past n are neither read nor changed" (01, Firing), nor are those past the count of a list of losses, of what a recording tick and a
-- recording run answer (02, Item 2).
--   rec_past_n               chains, states and lists that differ in such slots only have such answers of a tick
--   rec_past_kept            each of which has its own slots past n as they were, and goes on from its own list
--   rec_entries_kept         whose slots from the new count on are as they were
--   rec_whole_kept, rec_long_kept
--                            and as many slots of both
--   rec_tick_answer_same     so from one state and one list they have the same answer
--   rec_run_answer_alike     and a recording run has one answer
--   rec_run_kept, rec_run_zero_entries, rec_run_whole, rec_run_long
--                            whose slots past n and past the count are zero, and which has all its slots
use Rattle.std.specs.Prelude.{◌≡◌, refl, Bool, true, false, cond, ℕ, ◌≤◌, eqb, leb, length}
use Rattle.std.proofs.Common.{sym, ◌∙◌}
use Rattle.chain.specs.Refusals.{test, or_else}
use Rattle.chain.specs.Refusal.{Refusal}
use Rattle.chain.specs.declared.Chain.{Chain}
use Rattle.state.specs.State.{empty_run, fresh_empty}
use Rattle.state.specs.declared.Run.{Run}
use Rattle.slots.specs.Chains.{AlikeChains}
use Rattle.slots.proofs.ChainsLaws.{analyse_alike}
use Rattle.slots.specs.Runs.{AlikeRuns, Whole}
use Rattle.instants.specs.Checks.{longest}
use Rattle.losses.specs.Losses.{empty_losses, entry_at, empty_slots, listed_empty, Extends}
use Rattle.losses.specs.declared.Losses.{Losses}
use Rattle.recordings.specs.Steps.{rec_tick}
use Rattle.recordings.specs.Traced.{rec_run}
use Rattle.recordings.specs.Answers.{rec_tick_refusal, rec_run_refusal, rec_answer_of, rec_tick_answer, rec_run_answer}
use Rattle.recordings.proofs.RecRefusalsLaws.{rec_tick_parts}
use Rattle.recordings.specs.declared.RecordOutcome.{RecordOutcome}
use Rattle.recordings.specs.declared.RecordOutcome.TheVariants.{Clean}
use Rattle.recordings.specs.declared.Recorded.{Recorded}
use Rattle.tickslots.specs.Slots.{KeptSlots}
use Rattle.tickslots.proofs.SlotsLaws.{states_of, states_refl, runs_of, kept_whole}
use Rattle.tickslots.specs.Alike.{spent_alike}
use Rattle.recordslots.specs.Lists.{AlikeLosses, AlikeRecorded}
use Rattle.recordslots.proofs.ListsLaws.{losses_refl}
use Rattle.recordslots.proofs.AlikeLaws.{rec_tick_alike}
use Rattle.recordslots.proofs.KeptLaws.{rec_tick_kept, rec_instants_kept}
use Rattle.recordslots.proofs.SameLaws.{rec_tick_same, rec_run_alike}
use Rattle.recordslots.proofs.ChecksLaws.{rec_state_alike}
use Rattle.recordslots.specs.Answers.{rec_run_refusal_alike, AlikeRecordAnswers, answer_kept}

-- no check of a tick reads such a slot
pub rec_tick_refusal_alike : {c d : Chain} → AlikeChains c d → {s t : Run} → AlikeRuns c.n s t → {l m : Losses} → AlikeLosses l m → rec_tick_refusal c s l ≡ rec_tick_refusal d t m
rec_tick_refusal_alike {c} {d} a {s} {t} r {l} {m} k =
    rec_tick_parts c s l
    ∙ (λ i. or_else (analyse_alike a i) (or_else (rec_state_alike a r k i) (or_else (test 9 0 (leb longest (r.clock i))) (spent_alike a r i))))
    ∙ sym (rec_tick_parts d t m)

-- what is refused alike, and else leaves such states and lists
answer_alike : {n : ℕ} {q r : Refusal} {s t : Run} {l m : Losses} {x y : Recorded} → q ≡ r → AlikeRuns n s t → AlikeLosses l m → AlikeRecorded n x y
    → AlikeRecordAnswers n (rec_answer_of q s l x) (rec_answer_of r t m y)
unfolding rec_answer_of
answer_alike {n} {q} {r} {s} {t} {l} {m} {x} {y} e h g k =
    rw (← e) (record { number = refl; place = refl; outcome = outcome (eqb q.number 0); run = run (eqb q.number 0); losses = losses (eqb q.number 0) })
  where
    outcome : (b : Bool) → ◌≡◌ {A = RecordOutcome} (cond b x.outcome Clean) (cond b y.outcome Clean)
    outcome true = k.outcome
    outcome false = refl

    run : (b : Bool) → AlikeRuns n (cond b x.run s) (cond b y.run t)
    run true = runs_of k.state
    run false = h

    losses : (b : Bool) → AlikeLosses (cond b x.losses l) (cond b y.losses m)
    losses true = k.losses
    losses false = g

-- a tick of chains, states and lists that differ in such slots only: number, place and outcome are the same, and states and lists differ there only
pub rec_past_n : {c d : Chain} → AlikeChains c d → {s t : Run} → AlikeRuns c.n s t → Whole s → Whole t → {l m : Losses} → AlikeLosses l m
    → AlikeRecordAnswers c.n (rec_tick_answer c s l) (rec_tick_answer d t m)
unfolding rec_tick_answer
rec_past_n a r w v k = answer_alike (rec_tick_refusal_alike a r k) r k (rec_tick_alike a (states_of w v r) k)

module _ (c : Chain) (s : Run) (l : Losses) where
  -- a tick keeps the slots past n, and its list goes on from the one that it was handed
  pub rec_past_kept : KeptSlots c.n s (rec_tick_answer c s l).run × Extends l (rec_tick_answer c s l).losses
  unfolding rec_tick_answer
  rec_past_kept = answer_kept (rec_tick_refusal c s l) s l (rec_tick c s l) (rec_tick_kept c s l)

  -- "entries from the new count on" are as they were
  pub rec_entries_kept : (k : ℕ) → (rec_tick_answer c s l).losses.count ≤ k → entry_at (rec_tick_answer c s l).losses k ≡ entry_at l k
  rec_entries_kept = rec_past_kept.1.behind

  -- and the number of slots
  pub rec_whole_kept : Whole s → Whole (rec_tick_answer c s l).run
  rec_whole_kept w = kept_whole rec_past_kept.0 w

  pub rec_long_kept : length (rec_tick_answer c s l).losses.entries ≡ length l.entries
  rec_long_kept = rec_past_kept.1.long

-- chains that differ in slots past n only
module _ {c d : Chain} (a : AlikeChains c d) where
  -- a tick from one state and one list
  pub rec_tick_answer_same : (s : Run) (l : Losses) → rec_tick_answer c s l ≡ rec_tick_answer d s l
  unfolding rec_tick_answer
  rec_tick_answer_same s l = let e = rec_tick_refusal_alike a (runs_of (states_refl s)) (losses_refl l) in λ i. rec_answer_of (e i) s l (rec_tick_same a s l i)

  -- a recording run
  pub rec_run_answer_alike : (T : ℕ) → rec_run_answer c T ≡ rec_run_answer d T
  unfolding rec_run_answer
  rec_run_answer_alike T = λ i. rec_answer_of (rec_run_refusal_alike a T i) empty_run empty_losses (rec_run_alike a T i)

module _ (c : Chain) (T : ℕ) where
  -- the slots past n of a recording run's state are those of an empty one, and its list goes on from the empty one
  pub rec_run_kept : KeptSlots c.n empty_run (rec_run_answer c T).run × Extends empty_losses (rec_run_answer c T).losses
  unfolding rec_run_answer
  rec_run_kept = answer_kept (rec_run_refusal c T) empty_run empty_losses (rec_run c T) (rw (← fresh_empty c) (rec_instants_kept c T empty_run empty_losses))

  -- so the slots past its entries are zero, refused or not
  pub rec_run_zero_entries : (k : ℕ) → (rec_run_answer c T).losses.count ≤ k → entry_at (rec_run_answer c T).losses k ≡ record { tick = 0; queue = 0; tokens = 0 }
  rec_run_zero_entries k h = rec_run_kept.1.behind k h ∙ empty_slots k

  -- and it has all its slots
  pub rec_run_whole : Whole (rec_run_answer c T).run
  rec_run_whole = kept_whole rec_run_kept.0 (record { counts = refl; held = refl; done = refl })

  pub rec_run_long : length (rec_run_answer c T).losses.entries ≡ 256
  rec_run_long = rec_run_kept.1.long ∙ listed_empty.long
