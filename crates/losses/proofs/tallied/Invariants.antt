-- `losses::tallied` meets its contract: the list is too long, or an entry names no queue, or each entry's tokens are summed for its queue.
use Rattle.losses.proofs.Pass.{Passed}
use Rattle.losses.proofs.tallied.Given as goal

abbrev pub invariant-loop-k : goal.invariant-loop-k
invariant-loop-k l = Passed l.n l.losses l.k l.lost
