-- What a recording tick says and leaves, by its conditions (02, Item 2).
--   Says o N v                 an outcome's number and values
use Rattle.std.specs.Prelude.{◌≡◌, List, ℕ}
use Rattle.chain.specs.declared.Chain.{Chain}
use Rattle.state.specs.State.{done_at}
use Rattle.state.specs.declared.Run.{Run}
use Rattle.losses.specs.declared.Losses.{Losses}
use Rattle.recordings.specs.Steps.{rec_number_of, rec_values_of}
use Rattle.recordings.specs.Once.{SourceNoted}
use Rattle.recordings.specs.Fields.{rec_source_done}
use Rattle.recordings.specs.declared.RecordOutcome.{RecordOutcome}

-- an outcome's number and values
abbrev pub Says : RecordOutcome → ℕ → List ℕ → Type 0
Says o N v = (rec_number_of o ≡ N) × (rec_values_of o ≡ v)

-- the source's step does no work
pub source_done : {c : Chain} {s : Run} {l : Losses} {u : Run} {m : Losses} → SourceNoted c s l u m → (j : ℕ) → done_at u j ≡ done_at s j
source_done = rec_source_done
