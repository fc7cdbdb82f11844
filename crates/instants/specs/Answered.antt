-- What a tick and a deadline run are answered with: a refusal, or an outcome with the state that it leaves.
--   TickAnswer             the refusal that the call ended with, if any, beside the outcome and the state
--   ticked_said s r        the answer that a result makes which is an outcome with its state or an error, s being given back then
--   ticked_says, _alike    number and place are what the result says, and no two results have the same answer
--   ticked_back            an answer with a number is clean, and gives s back
use Rattle.std.specs.Prelude.{◌≡◌, refl, ℕ, Result}
use Rattle.std.proofs.Common.{Ok, Err, sym, ap}
use Rattle.chain.specs.Refusals.{refused}
use Rattle.chain.specs.Said.{code, said, speaks, refusal_alike}
use Rattle.chain.specs.declared.reasons.Refused.{Refused}
use Rattle.state.specs.declared.Run.{Run}
use Rattle.instants.specs.declared.Outcome.{Outcome}
use Rattle.instants.specs.declared.Outcome.TheVariants.{Clean}
use Rattle.instants.specs.declared.Ticked.{Ticked}

-- an outcome with the state that it leaves, beside the refusal
pub record TickAnswer : Type 0 where
  pub number : ℕ
  pub place : ℕ
  pub outcome : Outcome
  pub run : Run

-- "a refusal gives number and place, all other results zero, .. run state as before"
abbrev pub ticked_said : Run → Result Ticked Refused → TickAnswer
ticked_said s (Ok x) = record { number = 0; place = 0; outcome = x.outcome; run = x.run }
ticked_said s (Err e) = record { number = code e.reason; place = e.place; outcome = Clean; run = s }

-- number and place are those of what the result says
pub ticked_says : (s : Run) (r : Result Ticked Refused) → refused (ticked_said s r).number (ticked_said s r).place ≡ said r
ticked_says s (Ok x) = refl
ticked_says s (Err e) = refl

-- equal answers come from equal results
pub ticked_alike : (s : Run) (r t : Result Ticked Refused) → ticked_said s r ≡ ticked_said s t → r ≡ t
ticked_alike s (Ok x) (Ok y) e = ap Ok (ap (λ (a : TickAnswer). record { outcome = a.outcome; run = a.run }) e)
ticked_alike s (Ok x) (Err f) e = absurd (speaks f (ap (λ (a : TickAnswer). a.number) (sym e)))
ticked_alike s (Err d) (Ok y) e = absurd (speaks d (ap (λ (a : TickAnswer). a.number) e))
ticked_alike s (Err d) (Err f) e = ap Err (refusal_alike d f (ap (λ (a : TickAnswer). refused a.number a.place) e))

-- an answer with a number leaves all as it was
pub ticked_back : (s : Run) (r : Result Ticked Refused) → ((ticked_said s r).number ≡ 0 → ⊥) → ((ticked_said s r).outcome ≡ Clean) × ((ticked_said s r).run ≡ s)
ticked_back s (Ok x) n = absurd (n refl)
ticked_back s (Err e) n = (refl, refl)
