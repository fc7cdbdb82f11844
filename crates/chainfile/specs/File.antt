-- The chain file: what its words say, the checks 1 and 3 of where they stand, and what the reader answers (01, Chain file).
--   count_of f, period_of f, queues_at f, nodes_at f, total_of f
--                              the header's five words
--   header_of f                all five
--   chain_of f                 the chain that the words of f say, slots past n zero
--   wrong_length len total, length_check f
--                              1: the length, or the total word
--   bad_table, overlap, offset_tests
--                              the reasons of 3, and their order
--   offset_check len n q w     3: where the tables stand
--   file_offsets f, file_range f, file_order f
--                              3, 4 and 5 of the file f
--   read_checks f              the reader's checks, in order
--   header_refusal f, rows_refusal f
--                              what 1 to 3 refuse, and what 4 and 5 do
--   read_refusal f, read_answer f
--                              what the reader refuses f with, and its whole answer
--   BadLength, BadTable, GoodTable, Shared, BadTables
--                              01's conditions of 1 and 3, in words
--   length_exact, offset_exact each check speaks exactly under its condition
--   length_silent              and 1 is silent exactly where it does not hold
--   length_only, offset_only   each speaks with its own number only
-- What is named here and not declared stands in proofs/FileLaws.antt.
use Rattle.std.proofs.Math.Logic.Iff
use Rattle.std.specs.Prelude.{◌≡◌, Bool, ◌||◌, ◌&&◌, not, ◌↔◌, ◌≢◌, ◌⊎◌, List, [], ◌∷◌, ℕ, ◌+◌, ◌*◌, ◌%◌, ◌≤◌, ◌<◌, ltb, eqb, length, take, drop}
use Rattle.std.proofs.Common.{arith}
use Rattle.words.specs.Rows.{none, row_at}
use Rattle.words.specs.Table.{slots}
use Rattle.words.specs.Words.{word_at}
use Rattle.chain.specs.Refusals.{refused, test, first, Silent, Only, only_test, test_exact, test_silent}
use Rattle.chain.specs.Record.{answered}
use Rattle.chain.specs.Tests.{outside, Out, In, outside_true, outside_false, or_true, or_false, differ_true, differ_false}
use Rattle.chain.specs.Checks.{count_check, range_check, order_check}
use Rattle.chain.specs.Refusal.{Refusal}
use Rattle.chain.specs.declared.Chain.{Chain}
use Rattle.chain.specs.declared.ChainAnswer.{ChainAnswer}
use Rattle.chainfile.specs.declared.reader.Header.{Header}

-- "five words: n, source period y in ticks, byte offset of the queue table, byte offset of the node table, total length in bytes"
abbrev pub count_of : List ℕ → ℕ
count_of f = word_at f 0

abbrev pub period_of : List ℕ → ℕ
period_of f = word_at f 4

abbrev pub queues_at : List ℕ → ℕ
queues_at f = word_at f 8

abbrev pub nodes_at : List ℕ → ℕ
nodes_at f = word_at f 12

abbrev pub total_of : List ℕ → ℕ
total_of f = word_at f 16

abbrev pub header_of : List ℕ → Header
header_of f = record { n = count_of f; period = period_of f; queues = queues_at f; nodes = nodes_at f; total = total_of f }

-- the chain that the words of f say: row i of the queue table, word i of the node table; slots past n are zero
unfoldable pub chain_of : List ℕ → Chain
chain_of f = record {
  n = count_of f;
  period = period_of f;
  queues = slots (λ i. row_at f (queues_at f + 20 * i)) none 16 (count_of f);
  work = slots (λ i. word_at f (nodes_at f + 4 * i)) 0 16 (count_of f);
}

-- 1: "length under 20 or over 4,096, or total word differs from length", place 0
abbrev pub wrong_length : ℕ → ℕ → Bool
wrong_length len total = outside 20 4096 len || not (eqb total len)

abbrev pub length_check : List ℕ → Refusal
length_check f = test 1 0 (wrong_length (length f) (total_of f))

-- "a table offset is no multiple of 4, is below 20, or its table passes the end"
abbrev pub bad_table : ℕ → ℕ → ℕ → Bool
bad_table len at end = not (eqb (at % 4) 0) || (ltb at 20 || ltb len end)

-- "or the tables overlap": each begins before the other ends
abbrev pub overlap : ℕ → ℕ → ℕ → ℕ → Bool
overlap q qend w wend = ltb q wend && ltb w qend

-- place "8 (queue offset, tested first), 12 (node offset, then overlap)"; the tables stand at q and w
abbrev pub offset_tests : ℕ → ℕ → ℕ → ℕ → List Refusal
offset_tests len n q w = test 3 8 (bad_table len q (q + 20 * n)) ∷ test 3 12 (bad_table len w (w + 4 * n)) ∷ test 3 12 (overlap q (q + 20 * n) w (w + 4 * n)) ∷ []

-- 3: the first of these that speaks
unfoldable pub offset_check : ℕ → ℕ → ℕ → ℕ → Refusal
unfolding first
offset_check len n q w = first (offset_tests len n q w)

-- 3, 4 and 5 of a file, with places in the caller's own bytes
abbrev pub file_offsets : List ℕ → Refusal
file_offsets f = offset_check (length f) (count_of f) (queues_at f) (nodes_at f)

abbrev pub file_range : List ℕ → Refusal
file_range f = range_check (chain_of f) (queues_at f) (nodes_at f)

abbrev pub file_order : List ℕ → Refusal
file_order f = order_check (chain_of f) (queues_at f)

-- "the reader checks 1 to 5"
abbrev pub read_checks : List ℕ → List Refusal
read_checks f = length_check f ∷ count_check (count_of f) ∷ file_offsets f ∷ file_range f ∷ file_order f ∷ []

unfoldable pub read_refusal : List ℕ → Refusal
unfolding first offset_check chain_of range_check order_check
read_refusal f = first (read_checks f)

-- the part of it before any row is looked at, 1 to 3, and the rows' part, 4 and 5
unfoldable pub header_refusal : List ℕ → Refusal
unfolding first offset_check
header_refusal f = first (take 3 (read_checks f))

unfoldable pub rows_refusal : List ℕ → Refusal
unfolding first chain_of range_check order_check
rows_refusal f = first (drop 3 (read_checks f))

-- what the reader answers to any bytes
unfoldable pub read_answer : List ℕ → ChainAnswer
unfolding answered read_refusal chain_of
read_answer f = answered (read_refusal f) (chain_of f)

-- 1 in words
abbrev pub BadLength : List ℕ → Type 0
BadLength f = Out 20 4096 (length f) ⊎ (total_of f ≢ length f)

pub length_exact : (L : ℕ) (f : List ℕ) → (length_check f ≡ refused 1 L) ↔ (BadLength f × (L ≡ 0))
length_exact L f = Iff.trans (test_exact 1 L 0 (λ e. omega arith) _) (Iff.and (or_true (outside_true 20 4096 (length f)) (differ_true (total_of f) (length f))) Iff.rfl)

pub length_silent : (f : List ℕ) → Silent (length_check f) ↔ (In 20 4096 (length f) × (total_of f ≡ length f))
length_silent f = Iff.trans (test_silent 1 0 (λ e. omega arith) _) (or_false (outside_false 20 4096 (length f)) (differ_false (total_of f) (length f)))

pub length_only : (f : List ℕ) → Only 1 (length_check f)
length_only f = only_test 1 0 (wrong_length (length f) (total_of f))

-- 3 in words: a table that begins at `at` and ends before `end` stands wrong in a file of `len` bytes
abbrev pub BadTable : ℕ → ℕ → ℕ → Type 0
BadTable len at end = (at % 4 ≢ 0) ⊎ ((at < 20) ⊎ (len < end))

-- and well
abbrev pub GoodTable : ℕ → ℕ → ℕ → Type 0
GoodTable len at end = (at % 4 ≡ 0) × ((20 ≤ at) × (end ≤ len))

-- some byte lies in both tables
pub record Shared (q qend w wend : ℕ) : Type 0 where
  pub byte : ℕ
  pub in_queues : (q ≤ byte) × (byte < qend)
  pub in_nodes : (w ≤ byte) × (byte < wend)

-- the queue offset's reasons at place 8; else the node offset's at place 12; else, at place 12, a byte in both tables
abbrev pub BadTables : ℕ → ℕ → ℕ → ℕ → ℕ → Type 0
BadTables len n q w L = (BadTable len q (q + 20 * n) × (L ≡ 8))
    ⊎ (GoodTable len q (q + 20 * n) × ((BadTable len w (w + 4 * n) × (L ≡ 12)) ⊎ (GoodTable len w (w + 4 * n) × (Shared q (q + 20 * n) w (w + 4 * n) × (L ≡ 12)))))

-- the numbers of the reader's checks, in order: each speaks with its own
abbrev pub read_numbers : List ℕ
read_numbers = 1 ∷ 2 ∷ 3 ∷ 4 ∷ 5 ∷ []
