-- A recording run as deadline runs that are joined by losses (02, Item 2): how it goes on from each outcome of the deadline run.
--   rec_from c U l y           how a recording run up to clock U goes on from y, what steps of the deadline run have left, with the list l
-- What is named here and not declared stands in proofs/ResumedLaws.antt.
use Prim.Native.Nat.{ℕ, zero, suc, ◌-◌, ◌<◌}
use Rattle.chain.specs.Record.{row_of}
use Rattle.chain.specs.declared.Chain.{Chain}
use Rattle.state.specs.declared.Run.{Run}
use Rattle.instants.specs.Steps.{overflowed, chosen, worked}
use Rattle.instants.specs.declared.Outcome.{Outcome}
use Rattle.instants.specs.declared.Outcome.TheVariants.{Clean, Overflowed, NoDeadline}
use Rattle.instants.specs.declared.Ticked.{Ticked}
use Rattle.losses.specs.Losses.{noted}
use Rattle.losses.specs.declared.Losses.{Losses}
use Rattle.recordings.specs.Steps.{rec_undated, rec_onward, dropped, recorded, rec_finished, rec_tick, rec_ticks}
use Rattle.recordings.specs.Left.{SourceLost}
use Rattle.recordings.specs.declared.Recorded.{Recorded}

-- how a recording run goes on from there: with more ticks; with a loss at a finish and more ticks; with the whole tick of which the source's step overflows
unfoldable pub rec_from_by : Chain → ℕ → Losses → Run → Outcome → Recorded
unfolding rec_ticks rec_tick rec_onward recorded
rec_from_by c U l s Clean = rec_ticks c (U - s.clock) s l
rec_from_by c U l s (Overflowed t zero) = rec_onward (rec_tick c s l) (rec_ticks c (U - suc s.clock))
rec_from_by c U l s (Overflowed t (suc j)) = rec_onward (recorded c l (overflowed s t (suc j))) (rec_ticks c (U - s.clock))
rec_from_by c U l s (NoDeadline t i) = rec_undated s l t i

unfoldable pub rec_from : Chain → ℕ → Losses → Ticked → Recorded
unfolding rec_from_by
rec_from c U l y = rec_from_by c U l y.run y.outcome

-- where it goes on with an entry more
module _ (c : Chain) (U : ℕ) (l : Losses) (room : l.count < 256) where
  module _ {s : Run} {t : ℕ} (k : SourceLost c U t s) where
    abbrev pub u : Run
    u = dropped c s 0

    abbrev pub m : Losses
    m = noted l t 0 (row_of c 0).produce

    -- what follows in that tick
    abbrev pub follows : Run → Losses → Recorded
    follows v o = rec_finished c (worked v (chosen c v)) o
