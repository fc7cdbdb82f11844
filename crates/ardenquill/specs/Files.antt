-- What the public calls promise of chain files, handed on from the crates `words` and `chainfile`.
pub use Rattle.words.specs.Words.{word, Bytes, part, Alike}
pub use Rattle.words.proofs.WordsLaws.{word_there, word_at_law, word_alike, bytes_length}
unfoldable pub use Rattle.words.specs.Words.{word_at, bytes_of, four_at}
pub use Rattle.words.specs.Rows.{row_from, same_row}
pub use Rattle.words.proofs.RowsLaws.{row_there}
unfoldable pub use Rattle.words.specs.Rows.{row_at}
pub use Rattle.chainfile.specs.File.{count_of, period_of, queues_at, nodes_at, total_of, wrong_length, length_check, bad_table, overlap, offset_tests}
pub use Rattle.chainfile.specs.File.{file_offsets, file_range, file_order, read_checks, BadLength, BadTable, GoodTable, Shared, BadTables}
pub use Rattle.chainfile.proofs.FileLaws.{read_1, read_2}
pub use Rattle.chainfile.specs.File.{read_numbers, length_silent}
pub use Rattle.chainfile.proofs.FileLaws.{read_3, read_4, read_5, read_numbered, bad_table_law, good_table, overlap_false}
unfoldable pub use Rattle.chainfile.specs.File.{read_refusal, read_answer, chain_of, offset_check}
pub use Rattle.chainfile.specs.Packed.{packed_length, header, rows, nodes, words, room_check, write_checks, not_written, written, length_said, Output, output_fine}
pub use Rattle.chainfile.specs.Packed.{output_within, write_2, write_4, write_5, write_10, write_numbers, write_numbered, packed_length_law, room_only}
unfoldable pub use Rattle.chainfile.specs.Packed.{packed, write_refusal}
pub use Rattle.chainfile.specs.Accepted.{Placed, AcceptedFile, write_accepts, write_fine}
pub use Rattle.chainfile.proofs.AcceptedLaws.{read_accepts, read_fine}
pub use Rattle.chainfile.specs.RoundTrip.{packed_file}
pub use Rattle.chainfile.proofs.RoundTripLaws.{read_of_write, trimmed_read, write_of_read, packed_again, ignored}
pub use Rattle.chainfile.specs.Places.{There, field_there, over_there}
