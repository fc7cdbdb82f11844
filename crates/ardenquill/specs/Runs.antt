-- What the public calls promise of run states and of one manual firing, handed on from the crates `state` and `slots`.
pub use Rattle.state.specs.State.{count_at, held_at, done_at, empty_run, fresh_empty, zeros, fresh_count, fresh_held, refused_with, run_said}
unfoldable pub use Rattle.state.specs.State.{fresh_run, answered}
unfoldable pub use Rattle.state.specs.Fired.{fired}
pub use Rattle.state.specs.Fired.{Over, over_enough, Room, May, Balance, Slots}
pub use Rattle.state.proofs.FiredLaws.{count_fired, count_other, held_output, held_input, held_other, held_sink, balance_kept}
pub use Rattle.state.specs.Checks.{broken, state_test, state_check, spent, count_check, over, idle, over_check, cramped, room_check}
pub use Rattle.state.specs.Checks.{Cramped, Broken, Steady, FirstBroken, StateSound}
pub use Rattle.state.proofs.ChecksLaws.{state_exact, state_silent, count_silent, over_silent}
pub use Rattle.state.specs.Fire.{node_checks, fire_checks}
pub use Rattle.state.proofs.FireLaws.{fire_parts, fire_accepts, fire_accepted, fire_refused, fire_17, fire_9, fire_11}
pub use Rattle.state.specs.Fire.{fire_numbers, Firing, fresh_refusal, fresh_state, fresh_refused}
pub use Rattle.state.proofs.FireLaws.{fire_12, fire_earlier, fire_numbered, firing_is}
unfoldable pub use Rattle.state.specs.Fire.{fresh_answer, fire_refusal, fire_answer}
pub use Rattle.slots.specs.Chains.{AlikeChains, flat_alike}
pub use Rattle.slots.proofs.ChainsLaws.{alike_refl, record_alike, chain_alike, rates_alike}
pub use Rattle.slots.proofs.Trimmed.{trimmed_alike}
pub use Rattle.slots.proofs.ChainsLaws.{cycle_alike, busy_alike, sizes_alike, analyse_alike, analysis_alike, run_alike, run_analysis_alike}
pub use Rattle.slots.specs.Runs.{AlikeRuns, KeptPast, Whole, whole_kept, fresh_whole}
pub use Rattle.slots.proofs.RunsLaws.{fresh_alike, fire_alike, past_n, past_kept}
