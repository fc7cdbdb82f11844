-- A recording run by instants and by ticks (02, Item 2).
use Rattle.std.specs.Prelude.{◌≡◌}
use Rattle.std.proofs.Math.Path.{refl}
use Rattle.state.specs.declared.Run.{Run}
use Rattle.losses.specs.declared.Losses.{Losses}
use Rattle.recordings.specs.Steps.{rec_goes, rec_onward}
use Rattle.recordings.specs.declared.RecordOutcome.{RecordOutcome}
use Rattle.recordings.specs.declared.RecordOutcome.TheVariants.{Clean, NoDeadline, ListFull}
use Rattle.recordings.specs.declared.Recorded.{Recorded}

-- one thing after the other
pub rec_onward_then : (r : Recorded) (f g : Run → Losses → Recorded) → rec_onward (rec_onward r f) g ≡ rec_onward r (λ s l. rec_onward (f s l) g)
unfolding rec_onward rec_goes
rec_onward_then r f g = by r.outcome r.run r.losses
  where
    by : (o : RecordOutcome) (s : Run) (l : Losses) → rec_onward (rec_goes o s l f) g ≡ rec_goes o s l (λ u m. rec_onward (f u m) g)
    by Clean s l = refl
    by (NoDeadline t i) s l = refl
    by (ListFull t q) s l = refl
