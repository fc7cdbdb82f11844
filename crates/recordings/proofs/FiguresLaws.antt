-- Laws of specs/Figures.antt that rest on a definition which an edit of must-fail/ changes.
-- Figures of recording runs, each computed (02, Item 2).
--   feed_90, feed_90_losses    Feed with e=7 and B=10, which as a deadline run overflows at tick 40: two losses in 90 ticks
--   feed_41_firings            its firings to tick 41, one of them lost
--   shallow, shallow_512, _last, _513
--                              a queue in which nothing fits: the list fills up, and the 257th loss stops the run
--   two, two_row, two_513      a second queue in which nothing fits: the run is stopped at a finish
--   two_refused                and its state and list are refused then
--   both_passes, _full, _last  which pass 17; the 256th loss, the source's, is kept, and the other one stops the tick
--   steep_overflows, steep_taken_back
--                              as a deadline tick it overflows, and as a recording tick 13 ends it, taking back the source's loss
--   steep_row                  which is said with its number, tick and node
use Rattle.std.specs.Prelude.{◌≡◌, refl, [], ◌∷◌, true, false}
use Rattle.words.specs.Table.{tab}
use Rattle.chain.specs.Refusals.{refused}
use Rattle.state.specs.State.{fresh_run}
use Rattle.instants.specs.Figures.{feed_working}
use Rattle.losses.specs.Losses.{empty_losses, loss, entry_at, entries_in}
use Rattle.recordings.specs.Steps.{rec_undated, rec_tick, rec_ticks, rec_instants}
use Rattle.recordings.specs.Trace.{rec_trace}
use Rattle.recordings.specs.Checks.{rec_state_check}
use Rattle.recordings.specs.Figures.{rec_row, shallow, two, two_row, both, both_run, both255, steep, steep_run}

-- Feed with e=7 and B=10, to tick 90
pub feed_90 : rec_row (rec_instants (feed_working 7 10) 90 (fresh_run (feed_working 7 10)) empty_losses) ≡ 0 ∷ 9 ∷ 8 ∷ 4 ∷ 2 ∷ []
unfolding rec_instants fresh_run
feed_90 = refl

pub feed_90_losses : entries_in (rec_instants (feed_working 7 10) 90 (fresh_run (feed_working 7 10)) empty_losses).losses ≡ loss 40 0 4 ∷ loss 80 0 4 ∷ []
unfolding rec_instants fresh_run tab
feed_90_losses = refl

-- its firings to tick 41: the source's at 40 is lost
pub feed_41_firings : rec_trace (feed_working 7 10) 41 (fresh_run (feed_working 7 10)) empty_losses
    ≡ ((0, 0), false) ∷ ((10, 0), false) ∷ ((17, 1), false) ∷ ((20, 0), false) ∷ ((27, 1), false) ∷ ((30, 0), false) ∷ ((37, 1), false) ∷ ((40, 0), true) ∷ []
unfolding rec_trace fresh_run
feed_41_firings = refl

-- the 256th loss, at tick 510, is kept
pub shallow_512 : rec_row (rec_ticks shallow 512 (fresh_run shallow) empty_losses) ≡ 0 ∷ 256 ∷ 0 ∷ 0 ∷ 256 ∷ []
unfolding rec_ticks fresh_run
shallow_512 = refl

pub shallow_last : entry_at (rec_ticks shallow 512 (fresh_run shallow) empty_losses).losses 255 ≡ loss 510 0 4
unfolding rec_ticks fresh_run
shallow_last = refl

-- the 257th stops the run at tick 512, queue 0
pub shallow_513 : rec_row (rec_ticks shallow 513 (fresh_run shallow) empty_losses) ≡ 15 ∷ 256 ∷ 0 ∷ 0 ∷ 256 ∷ 512 ∷ 0 ∷ []
unfolding rec_ticks fresh_run
shallow_513 = refl

-- it is stopped at a finish: the clock is 513 and the work of N_1 is done, its firing not counted and its input not taken
pub two_513 : two_row (rec_ticks two 513 (fresh_run two) empty_losses) ≡ 15 ∷ 257 ∷ 256 ∷ 0 ∷ 1 ∷ 0 ∷ 1 ∷ 0 ∷ 256 ∷ 513 ∷ 513 ∷ 1 ∷ []
unfolding rec_ticks fresh_run
two_513 = refl

-- and refused then: work done of e, at queue 0
pub two_refused : rec_state_check two (rec_ticks two 513 (fresh_run two) empty_losses).run (rec_ticks two 513 (fresh_run two) empty_losses).losses ≡ refused 17 0
unfolding rec_ticks fresh_run rec_state_check
two_refused = refl

pub both_passes : (rec_state_check both both_run both255).number ≡ 0
unfolding rec_state_check
both_passes = refl

-- "with 255 entries and two losses in one tick the 256th is kept": the source's step stands, and the firing that is then finished has no effect
pub both_full : two_row (rec_tick both both_run both255) ≡ 15 ∷ 257 ∷ 0 ∷ 0 ∷ 1 ∷ 0 ∷ 2 ∷ 0 ∷ 256 ∷ 1025 ∷ 1025 ∷ 1 ∷ []
unfolding rec_tick
both_full = refl

pub both_last : entry_at (rec_tick both both_run both255).losses 255 ≡ loss 1024 0 1
unfolding rec_tick
both_last = refl

-- "13 at an instant takes back the entry of that instant's source step": node 3, and no entry
pub steep_taken_back : rec_tick steep steep_run empty_losses ≡ rec_undated steep_run empty_losses 131072 3
unfolding rec_tick
steep_taken_back = refl

-- 13, with its tick and its node; no firing is counted, and there is no entry
pub steep_row : rec_row (rec_tick steep steep_run empty_losses) ≡ 13 ∷ 65536 ∷ 65535 ∷ 1 ∷ 0 ∷ 131072 ∷ 3 ∷ []
unfolding rec_tick
steep_row = refl
