-- `dates::dated` meets its contract: the next firing's index is one more than the count.
use Rattle.dates.proofs.Answers.{dated_gives}
use Rattle.dates.proofs.dated.Goals as goal

pub returns : goal.returns
returns c = dated_gives c.requires c.followed.ensures
