-- Laws of specs/Figures.antt that rest on a definition which an edit of must-fail/ changes.
-- Figures of traces, each computed (01, P7 and P8, and Firing).
--   feed_34                  Feed, T = 34
--   seven_41                 Feed with e = 7, T = 41, which overflows at tick 40
--   short, short_12          Permeate with B 12 and 5 (P4), whose second queue overflows at a finish
--   far, far_state, far_tick  a chain and a state in which 13 takes back the source's step
use Rattle.std.specs.Prelude.{◌≡◌, refl, [], ◌∷◌}
use Rattle.chain.specs.Factory.{factory_answer}
use Rattle.state.specs.State.{fresh_run}
use Rattle.instants.specs.Figures.{feed, feed_working}
use Rattle.instants.specs.Steps.{tick, ticks, values_of}
use Rattle.traces.specs.Trace.{tick_trace, trace}
use Rattle.traces.specs.Figures.{short, far, far_state}

-- P7: each firing of the sink takes two ticks; after the source's 4th the queue holds 10, enough for two of them
pub feed_34 : trace feed 34 (fresh_run feed) ≡ (0, 0) ∷ (10, 0) ∷ (12, 1) ∷ (20, 0) ∷ (22, 1) ∷ (30, 0) ∷ (32, 1) ∷ (34, 1) ∷ []
unfolding trace factory_answer fresh_run
feed_34 = refl

-- P8: the source's 5th firing overflows at tick 40, when the sink has worked 3 of its 7 ticks
pub seven_41 : trace (feed_working 7 0) 41 (fresh_run (feed_working 7 0)) ≡ (0, 0) ∷ (10, 0) ∷ (17, 1) ∷ (20, 0) ∷ (27, 1) ∷ (30, 0) ∷ (37, 1) ∷ []
unfolding trace factory_answer fresh_run
seven_41 = refl

-- at 11 the finish overflows, and of that tick only the source's firing is left
pub short_12 : (trace short 12 (fresh_run short) ≡ (0, 0) ∷ (5, 0) ∷ (6, 1) ∷ (10, 0) ∷ []) × (values_of (ticks short 12 (fresh_run short)).outcome ≡ 11 ∷ 1 ∷ [])
unfolding trace ticks fresh_run
short_12 = (refl, refl)

-- 13 at that tick, of N_2, and no firing is left of it
pub far_tick : (tick_trace far far_state ≡ []) × (values_of (tick far far_state).outcome ≡ 65535 ∷ 2 ∷ [])
unfolding tick_trace tick
far_tick = (refl, refl)
