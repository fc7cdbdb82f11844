-- `dates::followed` ends: the node falls from call to call.
use Rattle.dates.proofs.+followed.Given as goal

abbrev pub decreases-followed : goal.decreases-followed
decreases-followed l = l.i
