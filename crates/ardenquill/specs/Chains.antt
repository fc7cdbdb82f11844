-- What the public calls promise of chains, refusals and factory chains, handed on from the crates `words` and `chain`.
unfoldable pub use Rattle.words.specs.Flat.{flat}
unfoldable pub use Rattle.words.specs.Table.{tab}
pub use Rattle.words.specs.Table.{slots, length_tab, slot_free, tab_at, tab_last, slot_used, is_slots}
pub use Rattle.words.specs.Rows.{none, row}
pub use Rattle.chain.specs.Tests.{outside, Out, In, outside_true, outside_false, sum_iff}
pub use Rattle.chain.specs.Refusals.{refused, fine, test, or_else, Silent, First, first_is, first_fine, first_silent}
pub use Rattle.chain.specs.Refusals.{Only, only_test, test_alone, numbered_length, numbered_own, absent, or_says}
pub use Rattle.chain.specs.Refusals.{or_silents, first_append, all_silent, test_exact, test_silent, or_left}
unfoldable pub use Rattle.chain.specs.Refusals.{Silents, Numbered, first}
pub use Rattle.chain.specs.Said.{code, refusal, said, speaks, chain_said}
pub use Rattle.chain.specs.Record.{row_of, work_of, empty_chain, refused_alike, answered_fine, same_chain}
unfoldable pub use Rattle.chain.specs.Record.{trimmed, answered}
pub use Rattle.chain.specs.Checks.{Field, field, ticks, fields, count_check, out_of_range, range_check, overdrawn, record_range}
pub use Rattle.chain.proofs.ChecksLaws.{row_values, row_places}
pub use Rattle.chain.specs.Checks.{record_order, chain_checks, chain_refusal, FieldOut, FieldIn, field_at, FirstOut, FirstOver}
pub use Rattle.chain.proofs.ChecksLaws.{record_2, record_4}
pub use Rattle.chain.specs.Checks.{chain_numbers}
pub use Rattle.chain.proofs.ChecksLaws.{record_5, chain_numbered, count_silent, row_silent, range_exact, order_exact, range_only, order_only}
unfoldable pub use Rattle.chain.specs.Checks.{row_fields, order_check}
pub use Rattle.chain.specs.Sound.{SoundRow, Sound, node_range}
pub use Rattle.chain.proofs.SoundLaws.{sound, sound_is, range_parts}
unfoldable pub use Rattle.chain.specs.Sound.{row_range}
pub use Rattle.chain.specs.Factory.{queue, made, factory_chains, factory_check, factory_exact, trimmed_factory}
unfoldable pub use Rattle.chain.specs.Factory.{factory_refusal, factory_answer}
