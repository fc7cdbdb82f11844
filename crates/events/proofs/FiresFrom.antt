-- From τ tokens on the node behind a queue has fired once for them, and once for each c more. It stands alone, since an edit of `fires` changes it, too.
use Rattle.std.specs.Prelude.{◌≡◌, ℕ, ◌+◌, ◌-◌, ◌/◌, ◌≤◌}
use Rattle.std.proofs.Common.{le-ltb}
use Rattle.events.specs.Counts.{fires}

-- and from τ on
pub fires_from : (τ c m : ℕ) → τ ≤ m → fires τ c m ≡ (m - τ) / c + 1
unfolding fires
fires_from τ c m h = simp (le-ltb m τ h)
