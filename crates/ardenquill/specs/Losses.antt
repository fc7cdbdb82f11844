-- What the public calls promise of recording ticks and runs, handed on from the crates `losses` (the list), `recordings` (their meaning and their firings) and
-- `recordslots` (the slots past n, and those past the count).
pub use Rattle.losses.specs.Losses.{longest_list, loss, no_loss, empty_losses, entry_at, entries_in, noted, lost, Listed, listed_of, listed_empty, empty_slots}
unfoldable pub use Rattle.losses.specs.Losses.{lost_in}
pub use Rattle.losses.specs.Losses.{Noted, noted_only, Extends}
pub use Rattle.losses.proofs.LossesLaws.{is_noted, noted_slot, noted_slots, noted_entries, lost_append, lost_noted}
unfoldable pub use Rattle.losses.specs.Checks.{stray_check, list_check}
pub use Rattle.losses.specs.Checks.{long_check, stray_test, Stray, Named, LongOrStray}
pub use Rattle.losses.proofs.ChecksLaws.{list_exact, list_silent, list_only}
pub use Rattle.recordings.specs.Answered.{recorded_said}
unfoldable pub use Rattle.recordings.specs.Steps.{rec_goes, rec_onward, lost_firing, recorded_by, recorded, rec_sourced, rec_begun, rec_advanced, rec_finished, rec_tick, rec_ticks, rec_instants}
pub use Rattle.recordings.specs.Steps.{rec_number_of, rec_values_of, rec_tick_of, rec_at_of, rec_clean, rec_undated, rec_full, dropped}
pub use Rattle.recordings.proofs.StepsLaws.{rec_values}
pub use Rattle.recordings.proofs.RunsLaws.{rec_clean_or, rec_unclean_full, rec_onward_goes, rec_onward_stops, rec_ticks_none, rec_ticks_suc, rec_ticks_more, rec_ticks_last, rec_run_is_ticks}
pub use Rattle.recordings.proofs.DropsLaws.{dropped_output, dropped_input, dropped_other, dropped_keeps, fired_dropped, dropped_balance}
unfoldable pub use Rattle.recordings.specs.Marked.{rec_after, EachFair, losses_of}
pub use Rattle.recordings.specs.Marked.{Marked, unmarked, unmarked_more, rec_step, Fair, losses_none, losses_lost, losses_fits}
pub use Rattle.recordings.proofs.MarkedLaws.{rec_after_none, rec_after_lost, rec_after_fits, fair_each}
unfoldable pub use Rattle.recordings.specs.Trace.{marked, rec_tracing, rec_finish_trace, rec_tick_trace, rec_trace}
unfoldable pub use Rattle.recordings.specs.Growing.{EachAt}
pub use Rattle.recordings.specs.Growing.{Grows}
pub use Rattle.recordings.proofs.GrowingLaws.{rec_trace_none, rec_trace_stays, rec_trace_grows, tick_instant}
pub use Rattle.recordings.proofs.AtMostLaws.{tick_notes, tick_room, tick_alike}
unfoldable pub use Rattle.recordings.specs.Checks.{rec_queues_check, rec_state_check}
pub use Rattle.recordings.specs.Checks.{RecBalance, RecBroken, RecSteady, FirstRecBroken, RecSound, Recording}
pub use Rattle.recordings.proofs.ChecksLaws.{rec_state_exact, rec_state_silent, rec_state_only, rec_state_sums}
pub use Rattle.recordings.specs.Checks.{recording_filled, fresh_recording}
pub use Rattle.recordings.proofs.ChecksLaws.{rec_tick_balance, rec_tick_recording}
pub use Rattle.recordings.specs.Traced.{rec_run, rec_firings}
pub use Rattle.recordings.proofs.TracedLaws.{rec_fair, rec_after_law, rec_counted, rec_entries, rec_count, rec_entry, rec_balance, rec_rising, rec_moment, rec_within}
unfoldable pub use Rattle.recordings.specs.Answers.{rec_tick_refusal, rec_run_refusal, rec_answer_of, rec_tick_answer, rec_run_answer}
pub use Rattle.recordings.specs.Answers.{rec_tick_checks, rec_run_checks}
pub use Rattle.recordings.specs.RecRefusals.{rec_tick_numbers, rec_run_numbers}
pub use Rattle.recordings.proofs.RecRefusalsLaws.{rec_tick_parts, rec_tick_numbered, rec_tick_17, rec_tick_9, rec_tick_earlier, rec_tick_never_8}
pub use Rattle.recordings.specs.RecRefusals.{RecTicking}
pub use Rattle.recordings.proofs.RecRefusalsLaws.{rec_tick_accepts, rec_ticking_is, rec_run_parts, rec_run_numbered, rec_run_9, rec_run_earlier, rec_run_never_8}
pub use Rattle.recordings.specs.RecRefusals.{rec_ran_as, rec_refused_as}
pub use Rattle.recordings.proofs.RecRefusalsLaws.{rec_run_accepts, rec_tick_ran, rec_tick_refused, rec_run_ran, rec_run_refused}
pub use Rattle.recordings.specs.Beside.{TakenBack, NextLoss}
pub use Rattle.recordings.specs.Once.{LostOnce, SourceNoted, source_noted_only, WorkNoted, WorkFull}
pub use Rattle.recordings.specs.Exactly.{SourceFull, Begun, HasBegun, RecLacked, FinishFull, StoppedAtFinish, RecCleaned, GoesOn, AfterSource, StoppedAtSource, RecOneTick, rec_one_only}
pub use Rattle.recordings.proofs.ExactlyLaws.{has_begun}
pub use Rattle.recordings.specs.Exactly.{FullTick, LacksTick, RecTickOnce, FinishLeaves}
pub use Rattle.recordings.proofs.ExactlyLaws.{rec_tick_exactly, rec_one_leaves, rec_one_lacks_stays, rec_one_full_stays}
pub use Rattle.recordings.specs.Exactly.{RecThen, RecStopped, rec_ticks_to_only}
pub use Rattle.recordings.proofs.ExactlyLaws.{rec_full_exactly, rec_lacks_exactly, rec_clean_exactly}
unfoldable pub use Rattle.recordings.specs.Exactly.{RecTicksTo}
pub use Rattle.recordings.specs.Fields.{rec_source_fires, rec_source_rests, rec_source_others, rec_source_done, rec_source_work, rec_source_fed, rec_source_unfed, rec_source_held}
pub use Rattle.recordings.specs.Fields.{rec_work_counts, rec_work_own, rec_work_others, rec_work_source, lost_or, rec_own_work, rec_other_work}
pub use Rattle.recordings.specs.Paced.{rec_tick_counts, RecPaced, rec_fresh_paced, rec_paced_ticking}
pub use Rattle.recordings.proofs.PacedLaws.{rec_tick_paced, rec_ticks_paced}
pub use Rattle.recordings.specs.Along.{rec_left, rec_begins}
pub use Rattle.recordings.proofs.AlongLaws.{rec_answer_of_law, rec_answer_ran, rec_answer_one, rec_answer_exactly, rec_answer_ends, rec_run_may, rec_ran_to, rec_run_answers, rec_run_start}
pub use Rattle.recordings.specs.Along.{RecEnds, RecCleanStep}
pub use Rattle.recordings.proofs.AlongLaws.{rec_at_clock, rec_run_next, rec_run_stops, rec_run_stays, rec_run_before, rec_run_ends, rec_along, rec_run_by_ticks}
unfoldable pub use Rattle.recordings.specs.Along.{rec_follows, rec_carry_on, rec_ticks_from}
pub use Rattle.recordings.specs.Totals.{RecWaits, rec_tick_total}
pub use Rattle.recordings.proofs.TotalsLaws.{rec_run_clock, rec_run_source, rec_run_work}
pub use Rattle.recordings.proofs.OutcomesLaws.{full_refused}
pub use Rattle.recordings.proofs.FreshLaws.{rec_run_clean, rec_run_undated, rec_run_loses, rec_run_nothing_lost, rec_run_full, rec_run_passes, rec_run_zeros}
pub use Rattle.recordslots.specs.Lists.{AlikeLosses}
pub use Rattle.recordslots.proofs.ListsLaws.{alike_of}
pub use Rattle.recordslots.specs.Answers.{AlikeRecordAnswers}
pub use Rattle.recordslots.proofs.AnswersLaws.{rec_past_n, rec_past_kept, rec_entries_kept, rec_whole_kept, rec_long_kept, rec_tick_answer_same}
pub use Rattle.recordslots.proofs.AnswersLaws.{rec_run_answer_alike, rec_run_kept, rec_run_zero_entries, rec_run_whole, rec_run_long}
