-- What the public calls promise of reports, handed on from the crates `words`, `decimal`, `reporttext` and `report`.
unfoldable pub use Rattle.decimal.specs.Digits.{digits_in, decimal, column, value_from, value_of}
pub use Rattle.decimal.specs.Digits.{last_digit, Digits}
pub use Rattle.decimal.proofs.DigitsLaws.{by_digits, value_of_decimal, decimal_digits, no_leading_zero}
unfoldable pub use Rattle.decimal.specs.Signed.{integer}
pub use Rattle.decimal.proofs.SignedLaws.{minus_exact}
pub use Rattle.words.specs.Literal.{text}
pub use Rattle.reporttext.specs.Text.{heading, heading_length, columns, column_count, lines, busy_word}
unfoldable pub use Rattle.reporttext.specs.Text.{numbers, line, busy_line, text_of}
unfoldable pub use Rattle.reporttext.specs.Heading.{begins, headed}
pub use Rattle.reporttext.specs.Heading.{begins_true}
pub use Rattle.reporttext.proofs.HeadingLaws.{headed_true, first_line_law, report_headed}
unfoldable pub use Rattle.reporttext.specs.Refused.{refusal_text}
pub use Rattle.reporttext.specs.Refused.{longest_refusal}
pub use Rattle.reporttext.proofs.RefusedLaws.{refusal_short}
pub use Rattle.reporttext.specs.Occurrences.{Without, without_decimal, without_integer}
unfoldable pub use Rattle.reporttext.specs.Occurrences.{occurrences}
pub use Rattle.reporttext.specs.Feeds.{feeds, Plain, OneLine}
pub use Rattle.reporttext.proofs.FeedsLaws.{report_feeds}
unfoldable pub use Rattle.reporttext.specs.Feeds.{heading_one, queue_one, busy_one, refusal_one}
pub use Rattle.reporttext.specs.Short.{longest_column, longest_line, longest_busy_line, longest_report}
pub use Rattle.reporttext.proofs.ShortLaws.{line_short, report_short}
pub use Rattle.report.specs.Checks.{report_text, report_checks, report_numbers}
pub use Rattle.report.proofs.ChecksLaws.{report_1, report_2, report_3, report_4, report_5, report_6, report_7, report_10, report_numbered, report_parts}
unfoldable pub use Rattle.report.specs.Checks.{report_refusal, size_refusal}
pub use Rattle.report.proofs.AcceptedLaws.{report_accepts, report_written, report_as_read, report_as_analysed, report_as_room}
pub use Rattle.report.specs.Room.{file_refusal, refusal_room}
pub use Rattle.report.proofs.RoomLaws.{report_room, report_roomy}
