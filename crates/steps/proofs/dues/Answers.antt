-- `steps::dues`: the goals that the check leaves, with the invariant of `Invariants.antt`.
use Rattle.steps.specs.Dued.{dued_taken, dued_left, dued_size}
use Rattle.steps.proofs.dues.Goals as goal
use Rattle.steps.proofs.dues.Goals.{then-every-j, else-every-j}

pub loop-j-preserved : goal.loop-j-preserved
loop-j-preserved c =
    let inv = c.loop-j.invariant in
    let test = c.loop-j-test.true in
    elim c.if-every-j.branch [
      | then-every-j w ↦ rw w.due-is (dued_taken inv test (dued_size c.requires) w.dated.ensures)
      | else-every-j w ↦ rw w.due-is (dued_left inv test w.if-every-j.false)
    ]
