-- The trace of a recording run: its firings in order, each with its instant and whether its production is lost (02, Item 2).
--   marked c s h               the firings h, each marked by whether its production does not fit in s
--   rec_tracing o h            the firings h where nothing has ended the run; none after any other outcome
--   rec_finish_trace c s l     the firing that is finished in s, if it takes effect, lost or not
--   rec_tick_trace c s l       the firings of one tick
--   rec_trace c T s l          the firings of T ticks, as far as they are clean
use Rattle.std.specs.Prelude.{List, [], ◌++◌, map, ℕ, zero, suc}
use Rattle.chain.specs.declared.Chain.{Chain}
use Rattle.state.specs.Checks.{cramped}
use Rattle.state.specs.declared.Run.{Run}
use Rattle.history.specs.History.{Entry}
use Rattle.instants.specs.Steps.{ended_in, ended}
use Rattle.traces.specs.Trace.{source_entry, finish_entry}
use Rattle.losses.specs.declared.Losses.{Losses}
use Rattle.recordings.specs.Steps.{rec_begun, rec_advanced, rec_finished, rec_tick}
use Rattle.recordings.specs.Marked.{Marked}
use Rattle.recordings.specs.declared.RecordOutcome.{RecordOutcome}
use Rattle.recordings.specs.declared.RecordOutcome.TheVariants.{Clean, NoDeadline, ListFull}

-- "lost or not": whether a production does not fit
unfoldable pub marked : Chain → Run → List Entry → List Marked
unfolding cramped
marked c s h = map (λ (e : Entry). (e, cramped c s e.1)) h

-- there are firings where nothing has ended the run
unfoldable pub rec_tracing : RecordOutcome → List Marked → List Marked
rec_tracing Clean h = h
rec_tracing (NoDeadline t i) h = []
rec_tracing (ListFull t q) h = []

-- "the effect at t+1 of a firing then finished": s is the state after the tick of work
unfoldable pub rec_finish_trace : Chain → Run → Losses → List Marked
unfolding rec_tracing rec_finished marked finish_entry ended_in
rec_finish_trace c s l = rec_tracing (rec_finished c s l).outcome (marked c s (finish_entry s (ended c s)))

-- one tick: the source's firing, unless the full list stops it or 13 takes it back, then the one finished by the work
unfoldable pub rec_tick_trace : Chain → Run → Losses → List Marked
unfolding rec_tracing rec_begun marked source_entry rec_advanced rec_finish_trace
rec_tick_trace c s l =
    rec_tracing (rec_begun c s l).outcome (marked c s (source_entry c s))
    ++ rec_tracing (rec_advanced c s l).outcome (rec_finish_trace c (rec_advanced c s l).run (rec_advanced c s l).losses)

-- tick after tick, up to the first outcome
unfoldable pub rec_trace : Chain → ℕ → Run → Losses → List Marked
unfolding rec_tick_trace rec_tracing rec_tick
rec_trace c zero s l = []
rec_trace c (suc T) s l = rec_tick_trace c s l ++ rec_tracing (rec_tick c s l).outcome (rec_trace c T (rec_tick c s l).run (rec_tick c s l).losses)
