-- No step overflows a queue past n, so that the row whose production is dropped is one of the first n (01, Firing).
--   Queued n o               the queue that overflowed, if one did, is one of the first n
use Prim.Native.Nat.{ℕ, ◌<◌}
use Rattle.instants.specs.declared.Outcome.{Outcome}
use Rattle.instants.specs.declared.Outcome.TheVariants.{Clean, Overflowed, NoDeadline}

-- the queue that overflowed, if one did, is one of the first n
abbrev pub Queued : ℕ → Outcome → Type 0
Queued n Clean = Unit
Queued n (Overflowed t q) = q < n
Queued n (NoDeadline t i) = Unit
