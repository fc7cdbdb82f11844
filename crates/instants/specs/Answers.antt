-- The laws of a tick and of a deadline run, of what their calls answer (01, Firing).
--   left a                     what an answer says of a tick: its outcome, and the state that it leaves
--   Ends c T o, run_ends       a run of T ticks ends with o exactly where the run up to o's instant is clean and the tick from there ends with o
--   CleanStep c t s u, along   what each clean tick hands on from s to u at instant t holds of a clean run
-- What is named here and not declared stands in proofs/AnswersLaws.antt.
use Rattle.std.specs.Prelude.{◌≡◌, ◌↔◌, ℕ, ◌<◌}
use Rattle.std.proofs.Common.{sym, ap, ◌∙◌}
use Rattle.chain.specs.declared.Chain.{Chain}
use Rattle.state.specs.declared.Run.{Run}
use Rattle.instants.specs.Steps.{tick_of}
use Rattle.instants.specs.Checks.{tick_answer, deadline_run_answer}
use Rattle.instants.specs.Refusals.{ran_as}
use Rattle.instants.specs.Filled.{Running}
use Rattle.instants.specs.Once.{TickOnce}
use Rattle.instants.specs.declared.Outcome.{Outcome}
use Rattle.instants.specs.declared.Outcome.TheVariants.{Clean}
use Rattle.instants.specs.declared.Ticked.{Ticked}
use Rattle.instants.specs.Answered.{TickAnswer}

-- an outcome, and the state that it leaves
abbrev pub left : TickAnswer → Ticked
left a = record { outcome = a.outcome; run = a.run }

-- what an answer has that was not refused
pub ran_same : (a : TickAnswer) (y x : Ticked) → a ≡ ran_as y → (a ≡ ran_as x) ↔ (y ≡ x)
ran_same a y x e = (λ f. ap left (sym e ∙ f), λ f. e ∙ ap ran_as f)

-- "the first instant when": the run up to the instant of o is clean, and the tick from the state that it leaves ends with o
pub record Ends (c : Chain) (T : ℕ) (o : Outcome) : Type 0 where
  pub before : tick_of o < T
  pub cleanly : (deadline_run_answer c (tick_of o)).outcome ≡ Clean
  pub says : (tick_answer c (deadline_run_answer c (tick_of o)).run).outcome ≡ o

-- one clean tick of a run, at instant t
pub record CleanStep (c : Chain) (t : ℕ) (s u : Run) : Type 0 where
  pub running : Running c s
  pub clock : s.clock ≡ t
  pub tick : TickOnce c s u
