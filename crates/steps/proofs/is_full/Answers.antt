-- `steps::is_full` meets its contract: past the last queue nothing is full, and the sum fits.
use Rattle.std.proofs.Common.{zero-add}
use Rattle.steps.specs.Laws.{rooms_sum}
use Rattle.steps.proofs.is_full.Goals as goal

pub overflow_add-result-4 : goal.overflow_add-result-4
overflow_add-result-4 c = record { fits = rw zero-add (rooms_sum c.requires c.if-n-i.false) }
