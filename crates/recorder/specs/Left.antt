-- The answers of a recording tick and of a recording run, as their code puts them together.
--   rec_outcome_in r         the outcome that a recording run has where deadline ticks end with r and no loss is taken
--   rec_dated_clean, _undated, rec_full
--                            which it is
--   run_left_by f e r        the state that the flow f shows, with the clock of r and the work done e
--   rec_left_by f e r m      that and the list m, with the state that the flow f shows, the clock of r and the work done e
--   left_is                  which has what recording ticks leave, where these show it
--   undated_is               and so where deadline ticks did not overflow
use Rattle.std.specs.Prelude.{◌≡◌, List, ℕ, Result}
use Rattle.std.proofs.Common.{Ok, Err, refl, sym, ap, ◌∙◌}
use Rattle.chain.specs.declared.Chain.{Chain}
use Rattle.state.specs.declared.Run.{Run}
use Rattle.flow.specs.Shown.{shown}
use Rattle.flow.specs.Poured.{shown_with}
use Rattle.instants.specs.declared.Outcome.TheVariants as plain
use Rattle.instants.specs.declared.Ticked.{Ticked}
use Rattle.losses.specs.declared.Losses.{Losses}
use Rattle.recordings.specs.Steps.{rec_clean, rec_undated}
use Rattle.recordings.specs.declared.RecordOutcome.{RecordOutcome}
use Rattle.recordings.specs.declared.RecordOutcome.TheVariants.{Clean, NoDeadline, ListFull}
use Rattle.recordings.specs.declared.Recorded.{Recorded}
use Rattle.steps.specs.declared.Halt.{Halt}
use Rattle.steps.specs.declared.Halt.TheVariants as halt
use Rattle.ticks.specs.Runs.{clock_in, RanTo}

-- a production that does not fit is lost where the list has a slot: it ends a recording run where the list is full
abbrev pub rec_outcome_in : Result ℕ Halt → RecordOutcome
rec_outcome_in (Ok t) = Clean
rec_outcome_in (Err (halt.Overflowed t q)) = ListFull t q
rec_outcome_in (Err (halt.NoDeadline t i)) = NoDeadline t i

-- the outcome of each result
module _ (r : Result ℕ Halt) (t i : ℕ) where
  pub rec_dated_clean : r ≡ Ok t → Clean ≡ rec_outcome_in r
  rec_dated_clean e = sym (ap rec_outcome_in e)

  pub rec_dated_undated : r ≡ Err (halt.NoDeadline t i) → NoDeadline t i ≡ rec_outcome_in r
  rec_dated_undated e = sym (ap rec_outcome_in e)

  pub rec_full : r ≡ Err (halt.Overflowed t i) → ListFull t i ≡ rec_outcome_in r
  rec_full e = sym (ap rec_outcome_in e)

-- the state that the flow f shows where ticks ended with r, with the work done e
abbrev pub run_left_by : List ℕ → List ℕ → Result ℕ Halt → Run
run_left_by f e r = record { clock = clock_in r; counts = (shown f).counts; held = (shown f).held; done = e }

-- what a call leaves that is not refused
abbrev pub rec_left_by : List ℕ → List ℕ → Result ℕ Halt → Losses → Recorded
rec_left_by f e r m = record {
  outcome = rec_outcome_in r;
  run = run_left_by f e r;
  losses = m;
}

-- which is what recording ticks leave, where the flow, the work done and r show the state
pub left_is : {f e : List ℕ} {r : Result ℕ Halt} {c : Chain} {y : Ticked} → RanTo c y f e r → {x : Recorded} {m : Losses}
    → x ≡ record { outcome = rec_outcome_in r; run = y.run; losses = m } → rec_left_by f e r m ≡ x
left_is {f} {e} {r} {c} {y} t {m = m} is = (λ z. record { outcome = rec_outcome_in r; run = (clocked ∙ shown_with t.shows) z; losses = m }) ∙ sym is
  where
    clocked : ◌≡◌ {A = Run} (record { clock = clock_in r; counts = (shown f).counts; held = (shown f).held; done = e })
        (record { clock = y.run.clock; counts = (shown f).counts; held = (shown f).held; done = y.run.done })
    clocked = λ z. record { clock = sym t.clock z; counts = (shown f).counts; held = (shown f).held; done = t.done z }

-- and so where deadline ticks did not overflow: what they leave is clean, or has no deadline
pub undated_is : {f e : List ℕ} (r : Result ℕ Halt) {c : Chain} {y : Ticked} {m : Losses} {x : Recorded} → RanTo c y f e r → ((t q : ℕ) → r ≡ Err (halt.Overflowed t q) → ⊥)
    → (y.outcome ≡ plain.Clean → x ≡ rec_clean y.run m) → ((t i : ℕ) → y.outcome ≡ plain.NoDeadline t i → x ≡ rec_undated y.run m t i) → rec_left_by f e r m ≡ x
undated_is (Ok k) t n clean undated = left_is t (clean t.outcome)
undated_is (Err (halt.Overflowed u q)) t n clean undated = absurd (n u q refl)
undated_is (Err (halt.NoDeadline u i)) t n clean undated = left_is t (undated u i t.outcome)
