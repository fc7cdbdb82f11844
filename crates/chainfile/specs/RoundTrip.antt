-- What is read and written agrees (demand 2: "Reading a written chain file gives the chain back; writing a chain that was read gives the packed file").
--   packed_file f                      the packed file of what f says: a header, then f's own tables
use Rattle.std.specs.Prelude.{List, ◌++◌, ℕ, ◌*◌}
use Rattle.words.specs.Words.{bytes_of, part}
use Rattle.chainfile.specs.File.{count_of, period_of, queues_at, nodes_at}
use Rattle.chainfile.specs.Packed.{header}

-- the packed file of what f says: n, y, 20, 20+20n, 20+24n, then the 20n bytes of its queue table, then the 4n of its node table
unfoldable pub packed_file : List ℕ → List ℕ
unfolding bytes_of
packed_file f = bytes_of (header (count_of f) (period_of f)) ++ (part f (queues_at f) (20 * count_of f) ++ part f (nodes_at f) (4 * count_of f))
