-- Figures of 01 and 000, computed.
use Rattle.std.specs.Prelude.{ℕ}
use Rattle.onequeue.specs.declared.Shown.{Shown}

-- a pair
abbrev pub shown : ℕ → ℕ → Shown
shown b k = record { minimum = b; by = k }
