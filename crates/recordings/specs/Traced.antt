-- A recording run from a fresh start with an empty list, by the history of its firings (02, Item 2).
--   rec_run c T, rec_firings c T what it leaves after T ticks, and its firings; rec_run_means: which these are
-- What is named here and not declared stands in proofs/TracedLaws.antt.
use Rattle.std.specs.Prelude.{◌≡◌, refl, List, ℕ}
use Rattle.chain.specs.declared.Chain.{Chain}
use Rattle.state.specs.State.{fresh_run}
use Rattle.traces.specs.Trace.{resting}
use Rattle.losses.specs.Losses.{empty_losses}
use Rattle.recordings.specs.Steps.{rec_instants}
use Rattle.recordings.specs.Marked.{Marked}
use Rattle.recordings.specs.Trace.{rec_trace}
use Rattle.recordings.specs.declared.Recorded.{Recorded}

-- a fresh start is at rest
pub fresh_resting : (c : Chain) → resting (fresh_run c) ≡ fresh_run c
unfolding fresh_run
fresh_resting c = refl

-- what a run of T ticks from a fresh start with an empty list leaves, and its firings
abbrev pub rec_run : Chain → ℕ → Recorded
rec_run c T = rec_instants c T (fresh_run c) empty_losses

abbrev pub rec_firings : Chain → ℕ → List Marked
rec_firings c T = rec_trace c T (fresh_run c) empty_losses
