-- Laws of specs/Steps.antt that rest on a definition which an edit of must-fail/ changes.
-- One tick and a deadline run (01, Firing).
use Rattle.std.specs.Prelude.{◌≡◌, refl, cond, eqb}
use Rattle.instants.specs.declared.Outcome.{Outcome}
use Rattle.instants.specs.declared.Outcome.TheVariants.{Clean, Overflowed, NoDeadline}
use Rattle.instants.specs.Steps.{number_of, kind_of}

-- which are 01's number and values
pub kind_number : (o : Outcome) → number_of o ≡ cond (eqb (kind_of o) 2) 13 0
kind_number Clean = refl
kind_number (Overflowed t q) = refl
kind_number (NoDeadline t i) = refl
