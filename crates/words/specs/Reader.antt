-- A reader on the caller's bytes (01: "The reader keeps its place on the caller's own bytes").
--   moved k r    the same bytes, k bytes further on
use Rattle.std.specs.Prelude.{ℕ, ◌+◌}
use Rattle.words.specs.declared.ChainReader.{ChainReader}

-- a word has four bytes, a queue row twenty
abbrev pub moved : ℕ → ChainReader → ChainReader
moved k r = record { bytes = r.bytes; at = r.at + k }
