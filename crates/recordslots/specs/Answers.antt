-- "In every run state the slots past n are neither read nor changed" (01, Firing), nor are those past the count of a list of losses, of what a recording tick and a
-- recording run answer (02, Item 2).
--   rec-tick-refusal-, rec_run_refusal_alike
--                            chains, states and lists that differ in such slots only are refused alike
--   AlikeRecordAnswers n x y answers that are the same but for slots past n of the state, and past the count of the list
use Rattle.std.specs.Prelude.{◌≡◌, Bool, true, false, cond, ℕ, eqb}
use Rattle.std.proofs.Common.{sym, ap, ◌∙◌}
use Rattle.chain.specs.Refusals.{or_else}
use Rattle.chain.specs.Refusal.{Refusal}
use Rattle.chain.specs.declared.Chain.{Chain}
use Rattle.state.specs.declared.Run.{Run}
use Rattle.slots.specs.Chains.{AlikeChains}
use Rattle.slots.proofs.ChainsLaws.{analyse_alike}
use Rattle.slots.specs.Runs.{AlikeRuns}
use Rattle.instants.specs.Checks.{length_check}
use Rattle.losses.specs.Losses.{Extends, extends_refl}
use Rattle.losses.specs.declared.Losses.{Losses}
use Rattle.recordings.specs.Answers.{rec_run_refusal, rec_answer_of}
use Rattle.recordings.proofs.RecRefusalsLaws.{rec_run_parts}
use Rattle.recordings.specs.declared.Recorded.{Recorded}
use Rattle.recordings.specs.Answered.{RecordAnswer}
use Rattle.tickslots.specs.Slots.{KeptSlots}
use Rattle.tickslots.proofs.SlotsLaws.{kept_refl}
use Rattle.recordslots.specs.Lists.{AlikeLosses, KeptRecorded}

-- nor of a run
pub rec_run_refusal_alike : {c d : Chain} → AlikeChains c d → (T : ℕ) → rec_run_refusal c T ≡ rec_run_refusal d T
rec_run_refusal_alike {c} {d} a T = rec_run_parts c T ∙ ap (λ (r : Refusal). or_else r (length_check T)) (analyse_alike a) ∙ sym (rec_run_parts d T)

-- two answers that agree on all but the slots past n of the state, and past the count of the list
pub record AlikeRecordAnswers (n : ℕ) (x y : RecordAnswer) : Type 0 where
  pub number : x.number ≡ y.number
  pub place : x.place ≡ y.place
  pub outcome : x.outcome ≡ y.outcome
  pub run : AlikeRuns n x.run y.run
  pub losses : AlikeLosses x.losses y.losses

-- what keeps slots, or gives state and list back
pub answer_kept : {n : ℕ} (r : Refusal) (s : Run) (l : Losses) (x : Recorded) → KeptRecorded n s l x → KeptSlots n s (rec_answer_of r s l x).run × Extends l (rec_answer_of r s l x).losses
unfolding rec_answer_of
answer_kept {n} r s l x k = by (eqb r.number 0)
  where
    by : (b : Bool) → KeptSlots n s (cond b x.run s) × Extends l (cond b x.losses l)
    by true = (k.state, k.losses)
    by false = (kept_refl s, extends_refl l)
