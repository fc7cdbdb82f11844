-- `recorder::recording_tick` meets its contract: the chain is refused, or state and list are damaged, or clock or count is at its end, or the tick loses nothing, or it goes on from its loss.
use Rattle.std.proofs.Common.{refl, rules}
use Rattle.state.specs.Checks.{planned_sized}
use Rattle.recorder.specs.Joined.{carries_joins}
use Rattle.recorder.proofs.Answers.{tick_carries, tick_answers}
use Rattle.recorder.proofs.recording_tick.Goals as goal

pub damage-requires : goal.damage-requires
damage-requires c = planned_sized c.in_ok-planned.ensures refl

pub showing-flow-requires : goal.showing-flow-requires
showing-flow-requires c = (planned_sized c.in_ok-planned.ensures refl).chain

pub passes-first-requires : goal.passes-first-requires
passes-first-requires c = (tick_carries _ _ _ (search rules) c.in_ok-planned.ensures c.in_ok-damage.ensures c.in_ok-late_check.ensures c.showing-flow.ensures).lends

pub joined-ended-requires : goal.joined-ended-requires
joined-ended-requires c = carries_joins refl (tick_carries _ _ _ (search rules) c.in_ok-planned.ensures c.in_ok-damage.ensures c.in_ok-late_check.ensures c.showing-flow.ensures) c.passes-first.ensures

pub returns : goal.returns
returns c = rw (c.outcome.ensures, c.left.ensures) (tick_answers _ _ _ (search rules) c.in_ok-planned.ensures c.in_ok-damage.ensures c.in_ok-late_check.ensures c.showing-flow.ensures c.passes-first.ensures c.joined-ended.ensures)
