-- What a recording tick and a recording run are answered with: a refusal, or an outcome with the state and the list that it leaves.
--   RecordAnswer           the refusal that the call ended with, if any, beside the outcome, the state and the list
--   recorded_said s l r    the answer that a result makes which is such an outcome or an error, s and l being given back then
--   recorded_says, _alike  number and place are what the result says, and no two results have the same answer
--   recorded_back          an answer with a number is clean, and gives s and l back
use Rattle.std.specs.Prelude.{◌≡◌, refl, ℕ, Result}
use Rattle.std.proofs.Common.{Ok, Err, sym, ap}
use Rattle.chain.specs.Refusals.{refused}
use Rattle.chain.specs.Said.{code, said, speaks, refusal_alike}
use Rattle.chain.specs.declared.reasons.Refused.{Refused}
use Rattle.state.specs.declared.Run.{Run}
use Rattle.losses.specs.declared.Losses.{Losses}
use Rattle.recordings.specs.declared.RecordOutcome.{RecordOutcome}
use Rattle.recordings.specs.declared.RecordOutcome.TheVariants.{Clean}
use Rattle.recordings.specs.declared.Recorded.{Recorded}

-- an outcome with the state and the list that it leaves, beside the refusal
pub record RecordAnswer : Type 0 where
  pub number : ℕ
  pub place : ℕ
  pub outcome : RecordOutcome
  pub run : Run
  pub losses : Losses

-- "a refusal gives number and place, all other results zero, .. run state as before", and the list
abbrev pub recorded_said : Run → Losses → Result Recorded Refused → RecordAnswer
recorded_said s l (Ok x) = record { number = 0; place = 0; outcome = x.outcome; run = x.run; losses = x.losses }
recorded_said s l (Err e) = record { number = code e.reason; place = e.place; outcome = Clean; run = s; losses = l }

-- number and place are those of what the result says
pub recorded_says : (s : Run) (l : Losses) (r : Result Recorded Refused) → refused (recorded_said s l r).number (recorded_said s l r).place ≡ said r
recorded_says s l (Ok x) = refl
recorded_says s l (Err e) = refl

-- equal answers come from equal results
pub recorded_alike : (s : Run) (l : Losses) (r t : Result Recorded Refused) → recorded_said s l r ≡ recorded_said s l t → r ≡ t
recorded_alike s l (Ok x) (Ok y) e = ap Ok (ap (λ (a : RecordAnswer). record { outcome = a.outcome; run = a.run; losses = a.losses }) e)
recorded_alike s l (Ok x) (Err f) e = absurd (speaks f (ap (λ (a : RecordAnswer). a.number) (sym e)))
recorded_alike s l (Err d) (Ok y) e = absurd (speaks d (ap (λ (a : RecordAnswer). a.number) e))
recorded_alike s l (Err d) (Err f) e = ap Err (refusal_alike d f (ap (λ (a : RecordAnswer). refused a.number a.place) e))

-- an answer with a number leaves all as it was
pub recorded_back : (s : Run) (l : Losses) (r : Result Recorded Refused)
    → ((recorded_said s l r).number ≡ 0 → ⊥) → ((recorded_said s l r).outcome ≡ Clean) × (((recorded_said s l r).run ≡ s) × ((recorded_said s l r).losses ≡ l))
recorded_back s l (Ok x) n = absurd (n refl)
recorded_back s l (Err e) n = (refl, (refl, refl))
