-- The answers of a tick and of a deadline run, as their code puts them together.
--   left_by l e r            the outcome that r tells, and the state that the flow l shows, with the clock of r and the work done e
--   outcome_clean, _overflowed, _undated
--                            the outcome that each result tells
--   left_is                  which is what a tick or a run leaves, where that is so
use Rattle.std.specs.Prelude.{◌≡◌, List, ℕ, Result}
use Rattle.std.proofs.Common.{Ok, Err, sym, ap, ◌∙◌}
use Rattle.chain.specs.declared.Chain.{Chain}
use Rattle.state.specs.declared.Run.{Run}
use Rattle.flow.specs.Shown.{shown}
use Rattle.flow.specs.Poured.{shown_with}
use Rattle.instants.specs.declared.Outcome.TheVariants.{Clean, Overflowed, NoDeadline}
use Rattle.instants.specs.declared.Ticked.{Ticked}
use Rattle.steps.specs.Lent.{outcome_in}
use Rattle.steps.specs.declared.Halt.{Halt}
use Rattle.steps.specs.declared.Halt.TheVariants as halt
use Rattle.ticks.specs.Runs.{clock_in, RanTo}

-- what a call leaves that is not refused
abbrev pub left_by : List ℕ → List ℕ → Result ℕ Halt → Ticked
left_by l e r = record { outcome = outcome_in r; run = record { clock = clock_in r; counts = (shown l).counts; held = (shown l).held; done = e } }

-- the outcome of each result
module _ (r : Result ℕ Halt) (t i : ℕ) where
  pub outcome_clean : r ≡ Ok t → Clean ≡ outcome_in r
  outcome_clean e = sym (ap outcome_in e)

  pub outcome_overflowed : r ≡ Err (halt.Overflowed t i) → Overflowed t i ≡ outcome_in r
  outcome_overflowed e = sym (ap outcome_in e)

  pub outcome_undated : r ≡ Err (halt.NoDeadline t i) → NoDeadline t i ≡ outcome_in r
  outcome_undated e = sym (ap outcome_in e)

-- what a call leaves is what ticks leave, where the flow, the work done and r show that
pub left_is : {l e : List ℕ} {r : Result ℕ Halt} {c : Chain} {x : Ticked} → RanTo c x l e r → left_by l e r ≡ x
left_is {l} {e} {r} {c} {x} t = λ z. record { outcome = sym t.outcome z; run = (state ∙ shown_with t.shows) z }
  where
    state : ◌≡◌ {A = Run} (record { clock = clock_in r; counts = (shown l).counts; held = (shown l).held; done = e })
        (record { clock = x.run.clock; counts = (shown l).counts; held = (shown l).held; done = x.run.done })
    state = λ z. record { clock = sym t.clock z; counts = (shown l).counts; held = (shown l).held; done = t.done z }
