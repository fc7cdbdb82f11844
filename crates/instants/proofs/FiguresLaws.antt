-- Laws of specs/Figures.antt that rest on a definition which an edit of must-fail/ changes.
-- Figures of ticks and deadline runs, each computed (01, P7 and P8).
--   feed_34                    P7
--   seven_41, seven_40         P8: the overflow at tick 40, to which a run of 40 ticks does not come
--   twelve_90                  and with B = 12 none to tick 90
--   feed_ticks                 P7 by ticks
--   late, late_run, late_tick  a node that the source's step brings over threshold, and whose deadline can't be had
--   late_rests                 where the source does not step it is below threshold, and the tick is clean
use Rattle.std.specs.Prelude.{◌≡◌, refl, [], ◌∷◌}
use Rattle.chain.specs.Factory.{factory_answer}
use Rattle.state.specs.State.{fresh_run}
use Rattle.instants.specs.Steps.{with_clock, tick, ticks, instants}
use Rattle.instants.specs.Figures.{feed, feed_working, row, late, late_run}

-- P7: "T=34: source 4, sink 4, held 4"
pub feed_34 : row (instants feed 34 (fresh_run feed)) ≡ 0 ∷ 4 ∷ 4 ∷ 4 ∷ []
unfolding instants factory_answer fresh_run
feed_34 = refl

-- P8: "overflow at tick 40, queue 0, with source 4, sink 3, held 7"
pub seven_41 : row (instants (feed_working 7 0) 41 (fresh_run (feed_working 7 0))) ≡ 0 ∷ 4 ∷ 3 ∷ 7 ∷ 40 ∷ 0 ∷ []
unfolding instants fresh_run
seven_41 = refl

-- at instant T the source does not step
pub seven_40 : row (instants (feed_working 7 0) 40 (fresh_run (feed_working 7 0))) ≡ 0 ∷ 4 ∷ 3 ∷ 7 ∷ []
unfolding instants fresh_run
seven_40 = refl

-- P8: "with B=12 it is clean to tick 90"
pub twelve_90 : row (instants (feed_working 7 12) 90 (fresh_run (feed_working 7 12))) ≡ 0 ∷ 9 ∷ 10 ∷ 6 ∷ []
unfolding instants fresh_run
twelve_90 = refl

-- P7 by ticks
pub feed_ticks : row (ticks feed 34 (fresh_run feed)) ≡ 0 ∷ 4 ∷ 4 ∷ 4 ∷ []
unfolding ticks factory_answer fresh_run
feed_ticks = refl

-- "13 at the first instant when, after the source's step, an over-threshold node's deadline can't be had, .. the state being that before the source's step"
pub late_tick : row (tick late late_run) ≡ 13 ∷ 4294967290 ∷ 4294967290 ∷ 0 ∷ 0 ∷ 1 ∷ []
unfolding tick
late_tick = refl

-- while it is below threshold nothing is asked of it
pub late_rests : row (tick late (with_clock late_run 1)) ≡ 0 ∷ 4294967290 ∷ 4294967290 ∷ 0 ∷ []
unfolding tick
late_rests = refl
