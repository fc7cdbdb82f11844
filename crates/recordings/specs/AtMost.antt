-- How many losses one recording tick can note (02, Item 2): the source's, and that of a firing then finished.
use Rattle.std.specs.Prelude.{◌≡◌, ℕ, ◌+◌, ◌≤◌}
use Rattle.recordings.specs.declared.RecordOutcome.TheVariants.{ListFull}
use Rattle.recordings.specs.declared.Recorded.{Recorded}

-- at most k entries more than b, and not found full where there is room for k more
pub record Within (b k : ℕ) (x : Recorded) : Type 0 where
  pub few : x.losses.count ≤ b + k
  pub room : b + k ≤ 256 → (t q : ℕ) → x.outcome ≡ ListFull t q → ⊥

-- two lists that have room lead to the same outcome and state
pub record Same (x y : Recorded) : Type 0 where
  pub outcome : x.outcome ≡ y.outcome
  pub run : x.run ≡ y.run
