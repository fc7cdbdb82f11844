-- `state::is_broken` meets its contract: the capacity is the one in force, and every queue starts empty.
use Rattle.std.proofs.Common.{zero-add, add-one}
use Rattle.state.specs.Checks.{broken_with, ruled}
use Rattle.state.proofs.is_broken.Goals as goal

pub returns : goal.returns
unfolding broken_with
returns c =
    let own = ruled c.requires.planned _ c.requires.queue in
    let next = add-one c.args.i in
    rw (← own.capacity) (simp zero-add (cc))
