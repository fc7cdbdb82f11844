-- Every report begins with the first line, so that bytes that do not are none.
use Rattle.outsider.specs.Users.{headed_recognised}
use Rattle.outsider.proofs.may_be_report.Goals as goal

pub returns : goal.returns
returns c = headed_recognised c.headed.ensures
