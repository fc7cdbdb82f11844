-- Laws of specs/Steps.antt that rest on a definition which an edit of must-fail/ changes.
-- One recording tick and a recording run (02, Item 2); "rec" before a name says: the same of a recording run.
use Rattle.std.specs.Prelude.{◌≡◌, refl, cond, [], ◌∷◌, ℕ, eqb}
use Rattle.recordings.specs.declared.RecordOutcome.{RecordOutcome}
use Rattle.recordings.specs.declared.RecordOutcome.TheVariants.{Clean, NoDeadline, ListFull}
use Rattle.recordings.specs.Steps.{rec_number_of, rec_values_of, rec_tick_of, rec_at_of}

pub rec_values : (o : RecordOutcome) → rec_values_of o ≡ cond (eqb (rec_number_of o) 0) [] (rec_tick_of o ∷ rec_at_of o ∷ [])
rec_values Clean = refl
rec_values (NoDeadline t i) = refl
rec_values (ListFull t q) = refl

-- the numbers and values, with no other word
pub rec_numbers : (t p : ℕ) → (rec_number_of Clean ≡ 0) × ((rec_number_of (NoDeadline t p) ≡ 13) × (rec_number_of (ListFull t p) ≡ 15))
rec_numbers t p = (refl, (refl, refl))
