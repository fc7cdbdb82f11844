-- When the source fires, and what its step leaves (01, Firing), beside the definition of the step.
--   Due c s                    y divides the clock
--   Full c s, Fits c s         what the source produces does not fit queue 0, or does
--   SourceOnce c s u           u is s after the source's step, field by field
-- What is named here and not declared stands in proofs/SourceLaws.antt.
use Rattle.std.specs.Prelude.{◌≡◌, ◌≢◌, ℕ, ◌+◌, ◌≤◌, ◌<◌}
use Rattle.std.specs.Int.{◌∣◌}
use Rattle.chain.specs.Record.{row_of}
use Rattle.chain.specs.declared.Chain.{Chain}
use Rattle.sizing.specs.Sizes.{capacity_of}
use Rattle.state.specs.State.{count_at, held_at}
use Rattle.state.specs.declared.Run.{Run}
use Rattle.slots.specs.Runs.{Whole}

-- "the source fires if y divides t"
abbrev pub Due : Chain → Run → Type 0
Due c s = c.period ∣ s.clock

-- what the source produces does not fit its queue, or does; "filling to exactly the capacity is allowed"
abbrev pub Full : Chain → Run → Type 0
Full c s = capacity_of (row_of c 0) < held_at s 0 + (row_of c 0).produce

abbrev pub Fits : Chain → Run → Type 0
Fits c s = held_at s 0 + (row_of c 0).produce ≤ capacity_of (row_of c 0)

-- u is s after the source's step: where the source is due, its count is one more and queue 0 has p more; all else is as it was
pub record SourceOnce (c : Chain) (s u : Run) : Type 0 where
  pub whole : Whole u
  pub clock : u.clock ≡ s.clock
  pub done : u.done ≡ s.done
  pub fires : Due c s → (count_at u 0 ≡ count_at s 0 + 1) × (held_at u 0 ≡ held_at s 0 + (row_of c 0).produce)
  pub rests : (Due c s → ⊥) → (count_at u 0 ≡ count_at s 0) × (held_at u 0 ≡ held_at s 0)
  pub counts : (m : ℕ) → m ≢ 0 → count_at u m ≡ count_at s m
  pub held : (j : ℕ) → j ≢ 0 → held_at u j ≡ held_at s j
