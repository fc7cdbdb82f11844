-- What a recording tick and a recording run are refused with, and what they answer (02, Item 2).
--   rec_tick_checks c s l      the checks of a recording tick, in order
--   rec_run_checks c T         the checks of a recording run, in order
--   rec_tick_refusal, rec_run_refusal
--                              what they are refused with
--   rec_answer_of r s l x      the answer of a call: the refusal r with the state s and the list l, or what x leaves where r is silent
--   rec_tick_answer c s l      the whole answer of a recording tick: the state and the list as they were, or what the tick leaves
--   rec_run_answer c T         the whole answer of a recording run: an empty state and an empty list, or what the run leaves
--   late_run t, long_list      a state of clock t in which nothing has happened, and a list of 257 entries
use Rattle.std.specs.Prelude.{cond, List, [], ◌∷◌, ◌++◌, ℕ, eqb, replicate}
use Rattle.chain.specs.Refusals.{first}
use Rattle.chain.specs.Refusal.{Refusal}
use Rattle.chain.specs.declared.Chain.{Chain}
use Rattle.sizing.specs.Checks.{analyse_checks, analyse_refusal}
use Rattle.state.specs.State.{empty_run, fresh_run}
use Rattle.state.specs.declared.Run.{Run}
use Rattle.instants.specs.Checks.{clock_check, spent_check, length_check}
use Rattle.losses.specs.Losses.{loss, empty_losses}
use Rattle.losses.specs.declared.Losses.{Losses}
use Rattle.recordings.specs.Steps.{rec_tick, rec_instants}
use Rattle.recordings.specs.Checks.{rec_state_check}
use Rattle.recordings.specs.Traced.{rec_run}
use Rattle.recordings.specs.declared.RecordOutcome.TheVariants.{Clean}
use Rattle.recordings.specs.declared.Recorded.{Recorded}
use Rattle.recordings.specs.Answered.{RecordAnswer}

-- the checks of an analysis, since "a recording run is not refused with 8", then 17 with the list, then both of 9
abbrev pub rec_tick_checks : Chain → Run → Losses → List Refusal
rec_tick_checks c s l = analyse_checks c ++ (rec_state_check c s l ∷ clock_check s ∷ spent_check c s ∷ [])

-- and of a run, which begins with a fresh start: 9
abbrev pub rec_run_checks : Chain → ℕ → List Refusal
rec_run_checks c T = analyse_checks c ++ (length_check T ∷ [])

-- what they are refused with
unfoldable pub rec_tick_refusal : Chain → Run → Losses → Refusal
unfolding first analyse_refusal rec_state_check spent_check
rec_tick_refusal c s l = first (rec_tick_checks c s l)

unfoldable pub rec_run_refusal : Chain → ℕ → Refusal
unfolding first analyse_refusal
rec_run_refusal c T = first (rec_run_checks c T)

-- "a refusal gives number and place, all other results zero, .. run state as before", and the list: s and l are those that are given then
unfoldable pub rec_answer_of : Refusal → Run → Losses → Recorded → RecordAnswer
rec_answer_of r s l x = record {
  number = r.number;
  place = r.place;
  outcome = cond (eqb r.number 0) x.outcome Clean;
  run = cond (eqb r.number 0) x.run s;
  losses = cond (eqb r.number 0) x.losses l;
}

-- one recording tick of a state and a list that are handed in
unfoldable pub rec_tick_answer : Chain → Run → Losses → RecordAnswer
unfolding rec_tick_refusal rec_answer_of rec_tick
rec_tick_answer c s l = rec_answer_of (rec_tick_refusal c s l) s l (rec_tick c s l)

-- a recording run of T ticks from a fresh start, with an empty list
unfoldable pub rec_run_answer : Chain → ℕ → RecordAnswer
unfolding rec_run_refusal rec_answer_of rec_instants fresh_run
rec_run_answer c T = rec_answer_of (rec_run_refusal c T) empty_run empty_losses (rec_run c T)

-- a state of clock t in which nothing has happened
abbrev pub late_run : ℕ → Run
late_run t = record { clock = t; counts = replicate 17 0; held = replicate 16 0; done = replicate 16 0 }

abbrev pub long_list : Losses
long_list = record { count = 257; entries = replicate 256 (loss 0 0 0) }
