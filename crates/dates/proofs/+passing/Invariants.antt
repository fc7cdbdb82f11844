-- `dates::passing` ends: the node falls from call to call.
use Rattle.dates.proofs.+passing.Given as goal

abbrev pub decreases-passing : goal.decreases-passing
decreases-passing l = l.i
