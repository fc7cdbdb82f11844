-- `immediate::check_length`: the goals that the check leaves, with the invariant of `Invariants.antt`.
use Rattle.std.proofs.Common.{◌∙◌, arith}
use Rattle.std.proofs.lemmas.Grind.{common_steps}
use Rattle.immediate.proofs.LongLaws.{passing_none, passing_more, passing_refuses, passing_passes, passing_last}
use Rattle.immediate.proofs.check_length.Goals as goal

pub loop-i-init : goal.loop-i-init
loop-i-init c = grind (arith, common_steps, passing_none)

pub returns-in_err-test : goal.returns-in_err-test
returns-in_err-test c = grind (arith, common_steps, passing_refuses c.loop-i.invariant c.in_err-test.field-0.0 c.in_err-test.ensures)

pub fed-count-requires : goal.fed-count-requires
fed-count-requires c = record { sound = c.requires.rows _ (omega (arith, c.loop-i-test.true)); few = passing_passes c.loop-i.invariant c.in_ok-test.ensures }

pub loop-i-preserved : goal.loop-i-preserved
loop-i-preserved c = passing_more c.loop-i.invariant c.loop-i-test.true (passing_passes c.loop-i.invariant c.in_ok-test.ensures) c.fed-count.ensures

pub returns : goal.returns
returns c = c.test-2.ensures ∙ passing_last c.loop-i.invariant c.loop-i-test.false
