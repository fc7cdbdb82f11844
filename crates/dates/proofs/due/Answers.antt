-- `dates::due` meets its contract: the word that the way down gives is the deadline, or never, and then 13 is asked for its place.
use Rattle.dates.proofs.Answers.{due_late, due_had}
use Rattle.dates.proofs.due.Goals as goal

pub returns-then-ticks : goal.returns-then-ticks
returns-then-ticks c = due_late c.followed-ticks.ensures c.if-ticks.true c.passing.ensures

pub returns : goal.returns
returns c = due_had c.followed-ticks.ensures c.if-ticks.false
