-- The laws of a recording tick and of a recording run, of what their calls answer (02, Item 2).
--   rec_left a                 what an answer says of a tick: its outcome, and the state and the list that it leaves
--   rec_begins o               the clock of the tick that ends with o: 15 at a finish is at the instant after it
--   RecEnds c T o, rec_run_ends
--                              a run of T ticks ends with o exactly where the run up to o's tick is clean and the tick from there ends with o
--   RecCleanStep c t x y, rec_along
--                              what each clean tick hands on from x to y at instant t holds of a clean run
--   rec_follows, rec_carry_on r f, rec_ticks_from c T s l
--                              T ticks from s and l, as their calls answer: the first refusal, or the first outcome that is not clean, ends it
-- What is named here and not declared stands in proofs/AlongLaws.antt.
use Rattle.std.specs.Prelude.{◌≡◌, refl, ◌↔◌, ℕ, zero, suc, ◌-◌, ◌<◌}
use Rattle.std.proofs.Common.{sym, ap, ◌∙◌}
use Rattle.chain.specs.declared.Chain.{Chain}
use Rattle.state.specs.declared.Run.{Run}
use Rattle.losses.specs.declared.Losses.{Losses}
use Rattle.recordings.specs.Steps.{rec_goes, rec_onward}
use Rattle.recordings.specs.Checks.{Recording}
use Rattle.recordings.specs.Answers.{rec_tick_answer, rec_run_answer}
use Rattle.recordings.specs.RecRefusals.{rec_ran_as}
use Rattle.recordings.specs.Exactly.{RecTickOnce}
use Rattle.recordings.specs.declared.RecordOutcome.{RecordOutcome}
use Rattle.recordings.specs.declared.RecordOutcome.TheVariants.{Clean, NoDeadline, ListFull}
use Rattle.recordings.specs.declared.Recorded.{Recorded}
use Rattle.recordings.specs.Answered.{RecordAnswer}

-- an outcome, and the state and the list that it leaves
abbrev pub rec_left : RecordAnswer → Recorded
rec_left a = record { outcome = a.outcome; run = a.run; losses = a.losses }

-- what an answer has that was not refused
pub ran_same : (a : RecordAnswer) (y x : Recorded) → a ≡ rec_ran_as y → (a ≡ rec_ran_as x) ↔ (y ≡ x)
ran_same a y x e = (λ f. ap rec_left (sym e ∙ f), λ f. e ∙ ap rec_ran_as f)

-- the clock of the tick that ends with o: "an entry's tick is t for the source and the finish instant for a node", and so is 15's
abbrev pub rec_begins : RecordOutcome → ℕ
rec_begins Clean = 0
rec_begins (NoDeadline t i) = t
rec_begins (ListFull t zero) = t
rec_begins (ListFull t (suc j)) = t - 1

-- "the first instant when": the run up to the tick that ends with o is clean, and the tick from what it leaves ends with o
pub record RecEnds (c : Chain) (T : ℕ) (o : RecordOutcome) : Type 0 where
  pub before : rec_begins o < T
  pub cleanly : (rec_run_answer c (rec_begins o)).outcome ≡ Clean
  pub says : (rec_tick_answer c (rec_run_answer c (rec_begins o)).run (rec_run_answer c (rec_begins o)).losses).outcome ≡ o

-- one clean tick of a recording run, at instant t
pub record RecCleanStep (c : Chain) (t : ℕ) (x y : RecordAnswer) : Type 0 where
  pub recording : Recording c x.run x.losses
  pub clock : x.run.clock ≡ t
  pub tick : RecTickOnce c x.run x.losses (rec_left y)

-- what follows an answer: nothing after a refusal, or after an outcome that is not clean
unfoldable pub rec_follows : ℕ → RecordOutcome → RecordAnswer → (Run → Losses → RecordAnswer) → RecordAnswer
rec_follows zero Clean r f = f r.run r.losses
rec_follows zero (NoDeadline t i) r f = r
rec_follows zero (ListFull t q) r f = r
rec_follows (suc n) o r f = r

unfoldable pub rec_carry_on : RecordAnswer → (Run → Losses → RecordAnswer) → RecordAnswer
unfolding rec_follows
rec_carry_on r f = rec_follows r.number r.outcome r f

-- tick after tick, as the calls answer
unfoldable pub rec_ticks_from : Chain → ℕ → Run → Losses → RecordAnswer
unfolding rec_carry_on rec_tick_answer
rec_ticks_from c zero s l = record { number = 0; place = 0; outcome = Clean; run = s; losses = l }
rec_ticks_from c (suc T) s l = rec_carry_on (rec_tick_answer c s l) (rec_ticks_from c T)

-- an answer that is not refused goes on as what it answers does
pub carried : (x : Recorded) (f : Run → Losses → RecordAnswer) (g : Run → Losses → Recorded) → (x.outcome ≡ Clean → f x.run x.losses ≡ rec_ran_as (g x.run x.losses))
    → rec_carry_on (rec_ran_as x) f ≡ rec_ran_as (rec_onward x g)
unfolding rec_carry_on rec_onward
carried x f g next = by x.outcome next
  where
    by : (o : RecordOutcome) → (o ≡ Clean → f x.run x.losses ≡ rec_ran_as (g x.run x.losses))
        → rec_follows 0 o (record { number = 0; place = 0; outcome = o; run = x.run; losses = x.losses }) f ≡ rec_ran_as (rec_goes o x.run x.losses g)
    by Clean h = h refl
    by (NoDeadline t i) h = refl
    by (ListFull t q) h = refl
