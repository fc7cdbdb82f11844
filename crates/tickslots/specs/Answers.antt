-- "In every run state the slots past n are neither read nor changed" (01, Firing), of a tick and of a deadline run.
--   AlikeAnswers n x y       answers that are the same but for slots past n of the state
use Rattle.std.specs.Prelude.{◌≡◌, ℕ}
use Rattle.slots.specs.Runs.{AlikeRuns}
use Rattle.instants.specs.Answered.{TickAnswer}

-- two answers that agree on all but the slots past n of the state
pub record AlikeAnswers (n : ℕ) (x y : TickAnswer) : Type 0 where
  pub number : x.number ≡ y.number
  pub place : x.place ≡ y.place
  pub outcome : x.outcome ≡ y.outcome
  pub run : AlikeRuns n x.run y.run
