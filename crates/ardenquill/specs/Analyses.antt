-- What the public calls promise of an analysis, handed on from the crates `arith`, `onequeue`, `rates` and `sizing`. What a call
-- answers is handed on unfoldable, so that a figure can be computed.
pub use Rattle.arith.specs.Division.{ceil}
pub use Rattle.arith.proofs.DivisionLaws.{ceil_above, ceil_least, ceil_unique}
pub use Rattle.arith.specs.Gcd.{gcd, gcd_dvd_left, gcd_dvd_right, gcd_greatest, gcd_unique, gcd_pos_left}
pub use Rattle.onequeue.specs.Residue.{residue, Largest, largest_unique}
pub use Rattle.onequeue.proofs.ResidueLaws.{residue_largest, residue_000, residue_004, residue_floor, residue_rest}
pub use Rattle.onequeue.specs.Least.{Reaches, reaches, IsLeast}
pub use Rattle.onequeue.proofs.LeastLaws.{least_is, minimum_produce, minimum_threshold, minimum_bound, naming_pos, naming_fits}
unfoldable pub use Rattle.onequeue.specs.Least.{least}
pub use Rattle.onequeue.specs.Capacity.{capacity, margin}
pub use Rattle.onequeue.proofs.CapacityLaws.{capacity_written, capacity_minimum, margin_over, margin_under, margin_balance, margin_zero, margin_negative, short_is}
unfoldable pub use Rattle.rates.specs.Rates.{common, next_x, next_y, stretch}
unfoldable pub use Rattle.sizing.specs.Nodes.{x_of, y_of}
pub use Rattle.sizing.specs.Nodes.{stretch_of, source_rate, x_pos, y_pos, y_stretch, y_multiple, y_source, tokens_balance, cycle_least}
unfoldable pub use Rattle.sizing.specs.Load.{busy_in}
pub use Rattle.sizing.specs.Load.{busy_of, cycle_of, parts_exact, busy_next}
pub use Rattle.rates.specs.Load.{capped, capped_above}
pub use Rattle.sizing.specs.Sizes.{start, least_of, minimum_of, naming_of, capacity_of, margin_of, size_of, no_size, empty_analysis, refused_with, analysis_said}
pub use Rattle.sizing.proofs.SizesLaws.{margin_unwritten, margin_written, size_at}
unfoldable pub use Rattle.sizing.specs.Sizes.{size_by, analysis_of, sized}
unfoldable pub use Rattle.sizing.specs.Checks.{analyse_refusal, analyse_answer, run_refusal, run_answer}
pub use Rattle.sizing.specs.Checks.{limit, too_large, rate_test, rate_check, load_check, capacity_test, capacity_check}
pub use Rattle.sizing.proofs.ChecksLaws.{limit_word}
pub use Rattle.sizing.specs.Checks.{size_checks, analyse_checks, run_checks, InLimit, FirstTooLarge, Short, Enough}
pub use Rattle.sizing.proofs.ChecksLaws.{enough_capacity}
pub use Rattle.sizing.specs.Checks.{FirstShort}
pub use Rattle.sizing.proofs.ChecksLaws.{analyse_2, analyse_4, analyse_5, analyse_6, analyse_7, run_parts, run_8}
pub use Rattle.sizing.specs.Checks.{analyse_numbers, run_numbers}
pub use Rattle.sizing.proofs.ChecksLaws.{run_earlier, analyse_numbered, run_numbered, rates_silent}
pub use Rattle.sizing.specs.Accepted.{Accepted, SizeFits}
pub use Rattle.sizing.proofs.AcceptedLaws.{size_accepts, analyse_accepts, analysed, run_accepts, size_fits, busy_fits, cycle_fits}
