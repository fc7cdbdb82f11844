-- Laws of specs/Answers.antt that rest on a definition which an edit of must-fail/ changes.
-- What a recording tick and a recording run are refused with, and what they answer (02, Item 2).
--   shallow_run, shallow_tick  of a queue in which nothing fits, its capacity being below the minimum (Figures), neither call refuses anything
--   late_long                  17 of the list is said before 9 of the clock
--   late_short, late_list      with a list that passes it is 9, and the list is given back as it was, with no loss of that tick
--   due_list                   two ticks earlier it is not refused, and the loss is noted
use Rattle.std.specs.Prelude.{◌≡◌, refl}
use Rattle.chain.specs.Refusals.{refused, fine}
use Rattle.state.specs.State.{fresh_run}
use Rattle.losses.specs.Losses.{loss, empty_losses, entry_at}
use Rattle.recordings.specs.Figures.{shallow}
use Rattle.recordings.specs.Answers.{rec_tick_refusal, rec_tick_answer, rec_run_answer, late_run, long_list}

-- "old skids' capacities below the minimum are allowed"
pub shallow_run : (rec_run_answer shallow 3).number ≡ 0
unfolding rec_run_answer
shallow_run = refl

pub shallow_tick : rec_tick_refusal shallow (fresh_run shallow) empty_losses ≡ fine
unfolding rec_tick_refusal fresh_run
shallow_tick = refl

-- 17 of the list comes before 9 of the clock
pub late_long : rec_tick_refusal shallow (late_run 1000000) long_list ≡ refused 17 0
unfolding rec_tick_refusal
late_long = refl

pub late_short : rec_tick_refusal shallow (late_run 1000000) empty_losses ≡ refused 9 0
unfolding rec_tick_refusal
late_short = refl

-- "a refused tick" gives the list as it was, though the source's production would be lost then
pub late_list : (rec_tick_answer shallow (late_run 1000000) empty_losses).losses.count ≡ 0
unfolding rec_tick_answer
late_list = refl

-- two ticks earlier it is taken, and lost
pub due_list : entry_at (rec_tick_answer shallow (late_run 999998) empty_losses).losses 0 ≡ loss 999998 0 4
unfolding rec_tick_answer
due_list = refl
