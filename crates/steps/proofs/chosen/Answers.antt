-- `steps::chosen`: the goals that the check leaves, with the invariant of `Invariants.antt`.
use Rattle.steps.specs.Scans.{chosen_none, chosen_taken, chosen_under, chosen_later, chosen_end}
use Rattle.steps.proofs.chosen.Goals as goal
use Rattle.steps.proofs.chosen.Goals.{then-flow-j+then-due-j, else-flow-j, else-flow-j-via-then-flow-j+else-due-j, else-flow-j-via-else-flow-j}

pub loop-j-init : goal.loop-j-init
loop-j-init c = chosen_none _ _

pub returns : goal.returns
returns c = chosen_end c.loop-j.invariant c.loop-j-test.false

pub loop-j-preserved : goal.loop-j-preserved
loop-j-preserved c =
    let inv = c.loop-j.invariant in
    let test = c.loop-j-test.true in
    elim c.if-flow-j.branch [
      | then-flow-j+then-due-j w ↦ rw (w.node-is, w.earliest-is) (chosen_taken inv test w.if-flow-j.true w.if-due-j.true)
      | else-flow-j w ↦ rw (w.node-is, w.earliest-is) (elim w.else-flow-j.branch [
        | else-flow-j-via-then-flow-j+else-due-j w' ↦ chosen_later inv test w'.if-due-j.false
        | else-flow-j-via-else-flow-j w' ↦ chosen_under inv test w'.if-flow-j.false
      ])
    ]
