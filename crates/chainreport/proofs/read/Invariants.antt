-- `chainreport::read` ends, since each turn leaves less room, and what it has put at the front is what the input has lost.
use Rattle.std.proofs.Common.{◌≡◌, ◌-◌, ◌^◌, ◌≤◌, ◌<◌, length, take}
use Rattle.std.specs.Io.KnownBytes.{Consumes}
use Rattle.chainreport.proofs.read.Given as goal

abbrev pub invariant-loop-end : goal.invariant-loop-end
invariant-loop-end g l = (length l.file ≡ length l.initial.file) × (l.end ≤ length l.file) × (length l.file < 2 ^ 64)
    × Consumes (g.R.Read.remaining l.initial.input) (g.R.Read.remaining l.input) (take l.end l.file)

abbrev pub decreases-loop-end : goal.decreases-loop-end
decreases-loop-end g l = length l.file - l.end
