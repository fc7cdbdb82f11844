-- What the public calls promise of one tick and of a deadline run, handed on from the crates `instants` (their meaning), `traces` (their
-- firings) and `tickslots` (the slots past n).
pub use Rattle.instants.specs.Answered.{ticked_said}
unfoldable pub use Rattle.instants.specs.Steps.{goes, onward, sourced, lacking, choose, chosen, worked, ended_in, finish, finished, begun, advanced, tick, ticks, instants}
pub use Rattle.instants.specs.Steps.{number_of, values_of, kind_of, tick_of, at_of, kind_values, clean, overflowed, undated, with_clock, with_done, divides, next, lacking_test, as_early, ended}
pub use Rattle.instants.proofs.StepsLaws.{kind_number}
unfoldable pub use Rattle.instants.specs.Checks.{spent_check, tick_refusal, deadline_run_refusal, outcome_of, tick_answer, deadline_run_answer}
pub use Rattle.instants.specs.Checks.{longest, clock_check, spent_test, tick_checks, length_check, deadline_run_checks}
pub use Rattle.instants.specs.Refusals.{FirstSpent, LateOrSpent}
pub use Rattle.instants.proofs.RefusalsLaws.{clock_exact, clock_silent, clock_only, spent_exact, spent_silent}
pub use Rattle.instants.proofs.RefusalsLaws.{spent_only, length_exact, length_silent, length_only, tick_parts, tick_17, tick_9, tick_earlier}
pub use Rattle.instants.specs.Refusals.{tick_numbers, Ticking}
pub use Rattle.instants.proofs.RefusalsLaws.{tick_numbered, tick_accepts, ticking_is, deadline_run_parts}
pub use Rattle.instants.specs.Refusals.{deadline_run_numbers}
pub use Rattle.instants.proofs.RefusalsLaws.{deadline_run_9, deadline_run_earlier, deadline_run_numbered, deadline_run_accepts}
pub use Rattle.instants.specs.Refusals.{ran_as, refused_as}
pub use Rattle.instants.proofs.RefusalsLaws.{tick_ran, tick_refused, deadline_run_ran, deadline_run_refused}
pub use Rattle.instants.specs.Runs.{onward_clean, onward_none, onward_then, clean_or}
pub use Rattle.instants.proofs.RunsLaws.{instants_ticks, ticks_more}
pub use Rattle.instants.specs.Kept.{TickStep, Countable}
pub use Rattle.instants.proofs.KeptLaws.{tick_step, tick_running, begun_stays}
pub use Rattle.instants.specs.Filled.{Filled, Balanced, Running}
pub use Rattle.instants.proofs.FilledLaws.{running_filled, running_balanced, filled_running, fired_running}
pub use Rattle.instants.specs.Lacking.{Within, Past, FirstLacking}
pub use Rattle.instants.proofs.LackingLaws.{lacking_exact, lacking_silent}
pub use Rattle.instants.specs.Fresh.{Paced}
pub use Rattle.instants.proofs.FreshLaws.{fresh_running, fresh_rests, run_is_ticks, fresh_paced, paced_countable, tick_paced, ticks_paced}
pub use Rattle.instants.specs.Best.{First, Best, best_unique}
pub use Rattle.instants.proofs.BestLaws.{choose_best, choose_is, chosen_best, chosen_only, choose_shift, chosen_shift}
pub use Rattle.instants.proofs.SpillLaws.{room_after_choice}
pub use Rattle.instants.specs.Source.{Due, Full, Fits, SourceOnce}
pub use Rattle.instants.proofs.SourceLaws.{divides_is, source_spills, source_fires, source_rests, source_only}
pub use Rattle.instants.specs.Outcomes.{Dated}
pub use Rattle.instants.proofs.OutcomesLaws.{lacking_once, lacking_dated}
pub use Rattle.instants.specs.Once.{Works, Effect, WorkOnce, work_only, TickOnce}
pub use Rattle.instants.proofs.OnceLaws.{works_is, once_counts, once_keeps}
pub use Rattle.instants.specs.Exactly.{Spills, Lacks, Spilled, Lacked, Stopped, Cleaned, OneTick}
pub use Rattle.instants.proofs.ExactlyLaws.{one_overflows, one_lacks}
pub use Rattle.instants.proofs.ExactlyLaws.{one_cleans, one_stays, one_leaves, clean_only, one_tick_only, tick_exactly}
pub use Rattle.instants.specs.Exactly.{Then}
pub use Rattle.instants.proofs.ExactlyLaws.{finish_never_spills, ticks_to_only, ticks_exactly, ticks_never_spill, run_never_spills}
unfoldable pub use Rattle.instants.specs.Exactly.{TicksTo}
pub use Rattle.instants.specs.Answers.{left}
pub use Rattle.instants.proofs.AnswersLaws.{answer_one, answer_exactly, answer_ends, paced_ticking, run_may, ran_to, run_answers}
pub use Rattle.instants.specs.Answers.{Ends, CleanStep}
pub use Rattle.instants.proofs.AnswersLaws.{run_start, at_clock, run_next, run_stops, run_stays, run_before, run_ends, along}
unfoldable pub use Rattle.instants.specs.Totals.{spent_on, HowMany}
pub use Rattle.instants.specs.Totals.{worked_by, source_work, other_work, own_work, total, SomeOver, some_over, Waits, how_many_one}
pub use Rattle.instants.proofs.TotalsLaws.{tick_total, run_clock, run_source, run_work}
unfoldable pub use Rattle.traces.specs.Trace.{tracing, source_entry, finish_entry, finish_trace, tick_trace, trace}
pub use Rattle.traces.specs.Trace.{resting, Replays}
pub use Rattle.traces.specs.Traced.{replays_none, replays_one, replays_then}
pub use Rattle.traces.proofs.TracedLaws.{tick_traced, traced, run_traced, run_counted, run_balance, run_naming}
unfoldable pub use Rattle.traces.specs.Rising.{Rising}
pub use Rattle.traces.proofs.RisingLaws.{tick_rising, trace_rising, run_rising}
unfoldable pub use Rattle.traces.specs.Entries.{instants_of}
pub use Rattle.traces.specs.Entries.{instants_append, instants_times, entries_of, FiredAt}
pub use Rattle.traces.proofs.EntriesLaws.{entries_count, source_entries, worked_by_law, entries_when, entries_first, entries_apart, entries_rise}
pub use Rattle.tickslots.specs.Deadlines.{deadline_alike, index_alike, question_alike}
pub use Rattle.tickslots.specs.Slots.{KeptSlots}
pub use Rattle.tickslots.specs.Answers.{AlikeAnswers}
pub use Rattle.tickslots.proofs.AnswersLaws.{past_n, past_kept, whole_kept, tick_answer_same, deadline_run_alike, deadline_run_kept, deadline_run_whole}
