-- The trace of a deadline run: the instants and the nodes of its firings, in order (01, Firing, and demand 3).
--   tracing o s f              what f says of a state that was left clean; nothing after any other outcome
--   source_entry c s           the source's firing at the clock of s, if y divides it
--   finish_entry s i           the firing of N_i that takes effect at the clock of s; none of N_0
--   finish_trace c s           the firing that is finished in s, if it takes effect
--   tick_trace c s             the firings of one tick
--   trace c T s                the firings of T ticks, as far as they are clean
--   resting s                  the counts and contents of s, at rest
--   Replays c s h t            manual firing accepts the nodes of h in turn, from the counts and contents of s, and leaves those of t
use Rattle.std.specs.Prelude.{◌≡◌, cond, List, [], ◌∷◌, ◌++◌, ℕ, zero, suc, replicate}
use Rattle.chain.specs.declared.Chain.{Chain}
use Rattle.state.specs.declared.Run.{Run}
use Rattle.history.specs.History.{Entry, nodes, after, Permitted}
use Rattle.instants.specs.Steps.{divides, begun, ended_in, ended, finished, advanced, tick}
use Rattle.instants.specs.declared.Outcome.{Outcome}
use Rattle.instants.specs.declared.Outcome.TheVariants.{Clean, Overflowed, NoDeadline}

-- there are entries where nothing has ended the run
unfoldable pub tracing : Outcome → Run → (Run → List Entry) → List Entry
tracing Clean s f = f s
tracing (Overflowed t q) s f = []
tracing (NoDeadline t i) s f = []

-- "then the source fires if y divides t"
unfoldable pub source_entry : Chain → Run → List Entry
source_entry c s = cond (divides c.period s.clock) ((s.clock, 0) ∷ []) []

-- "the effect at t+1 of a firing then finished": s is the state after the tick of work
unfoldable pub finish_entry : Run → ℕ → List Entry
finish_entry s zero = []
finish_entry s (suc j) = (s.clock, suc j) ∷ []

-- which an overflow leaves out
unfoldable pub finish_trace : Chain → Run → List Entry
unfolding tracing finished finish_entry ended_in
finish_trace c s = tracing (finished c s).outcome s (λ u. finish_entry s (ended c s))

-- one tick: the source's firing, unless it overflows or 13 takes it back, then the one finished by the work
unfoldable pub tick_trace : Chain → Run → List Entry
unfolding tracing begun source_entry advanced finish_trace
tick_trace c s = tracing (begun c s).outcome s (λ u. source_entry c s) ++ tracing (advanced c s).outcome (advanced c s).run (finish_trace c)

-- tick after tick, up to the first outcome
unfoldable pub trace : Chain → ℕ → Run → List Entry
unfolding tick_trace tracing tick
trace c zero s = []
trace c (suc T) s = tick_trace c s ++ tracing (tick c s).outcome (tick c s).run (trace c T)

-- counts and contents of a state, at clock 0 and with no work done
abbrev pub resting : Run → Run
resting s = record { clock = 0; counts = s.counts; held = s.held; done = replicate 16 0 }

-- the nodes of h, in order, are firings that manual firing accepts from the counts and contents of s, and after them these are those of t
abbrev pub Replays : Chain → Run → List Entry → Run → Type 0
Replays c s h t = Permitted c (resting s) (nodes h) × (after c (resting s) (nodes h) ≡ resting t)
