-- What the public calls promise of the immediate run, handed on from the crates `events` (the counts of one queue), `schedule` (its order and
-- its counts) and `immediate` (its checks and its answer).
unfoldable pub use Rattle.events.specs.Counts.{fires}
pub use Rattle.events.proofs.CountsLaws.{fires_below, fires_reach, fires_mono, fires_shift, fires_unique}
pub use Rattle.events.proofs.FiresFrom.{fires_from}
pub use Rattle.schedule.specs.Counts.{fed, turns_of}
pub use Rattle.schedule.proofs.CountsLaws.{fed_mono, F-mono, F-feeds, turns_source, turns_next, rates, rate}
unfoldable pub use Rattle.schedule.specs.Counts.{F}
pub use Rattle.schedule.specs.Reached.{Reached, reached_fresh, reached_fired, reached_along, reached_after, Calm, fresh_calm}
pub use Rattle.schedule.proofs.ReachedLaws.{calm_counts, counts, same_counts, one_state, below_minimum}
unfoldable pub use Rattle.schedule.specs.Schedule.{joined, burst, schedule}
pub use Rattle.schedule.specs.Schedule.{Next, HasNext, Follows}
pub use Rattle.schedule.proofs.ScheduleLaws.{burst_exact, schedule_none, schedule_more, next_one, next_some}
pub use Rattle.schedule.proofs.ScheduleLaws.{follows_alike, follows_prompt, rule, ends, source, reached, counts_are_F, unique}
pub use Rattle.schedule.specs.Schedule.{Tight, fresh_tight}
pub use Rattle.schedule.proofs.ScheduleLaws.{tight_fired, next_firing, follows_permitted, permitted, any_order}
pub use Rattle.immediate.specs.Checks.{most, length_test, immediate_checks, FirstTooLong}
pub use Rattle.immediate.proofs.ChecksLaws.{length_exact, length_silent}
pub use Rattle.immediate.specs.Checks.{immediate_numbers}
pub use Rattle.immediate.proofs.ChecksLaws.{length_only, immediate_parts, immediate_9, immediate_earlier}
pub use Rattle.immediate.proofs.ChecksLaws.{immediate_numbered, immediate_accepts, immediate_ran, immediate_refused}
unfoldable pub use Rattle.immediate.specs.Checks.{length_check, immediate_refusal, immediate_answer}
pub use Rattle.immediate.proofs.SlotsLaws.{F-alike, length_alike, refusal_alike, reached_alike, calm_alike, state_alike, immediate_alike}
