-- Laws of specs/File.antt that rest on a definition which an edit of must-fail/ changes.
-- The chain file: what its words say, the checks 1 and 3 of where they stand, and what the reader answers (01, Chain file).
--   bad_table_law, good_table, overlap_true, overlap_false
--                              the reasons of 3 hold, or fail, exactly under theirs
--   length_exact, offset_exact each check speaks exactly under its condition
--   length_only, offset_only   each speaks with its own number only
--   read_1 .. read_5           when a file is refused with each number
use Rattle.std.proofs.Math.Logic.Iff
use Rattle.std.specs.Prelude.{◌≡◌, refl, Bool, true, false, ◌↔◌, ◌≢◌, List, [], ◌∷◌, ℕ, ◌+◌, ◌*◌, ◌%◌, ◌<◌, max, length, get_or, take}
use Rattle.std.proofs.Common.{sym, ◌∙◌, true≢false, arith}
use Rattle.std.proofs.Math.Logic.{true-and}
use Rattle.chain.specs.Refusals.{fine, Silents, Numbered, refused, test, first, Silent, Only, only_test, only_fine, only_or, test_exact, test_silent, or_says, says_last}
use Rattle.chain.proofs.RefusalsLaws.{exact_at}
use Rattle.chain.specs.Tests.{Out, or_true, or_false, and_true, sum_iff, below_true, below_false, differ_true, differ_false}
use Rattle.chain.specs.Checks.{count_check, fields, FirstOut, FirstOver}
use Rattle.chain.proofs.ChecksLaws.{count_exact, range_exact, order_exact, count_only, range_only, order_only}
use Rattle.chainfile.specs.File.{count_of, queues_at, nodes_at, chain_of, length_check, bad_table, overlap, offset_check, file_offsets, file_range}
use Rattle.chainfile.specs.File.{read_checks, read_refusal, BadLength, length_exact, length_only, BadTable, GoodTable, Shared, BadTables, read_numbers}

pub bad_table_law : (len at end : ℕ) → (bad_table len at end ≡ true) ↔ BadTable len at end
bad_table_law len at end = or_true (differ_true (at % 4) 0) (or_true (below_true at 20) (below_true len end))

pub good_table : (len at end : ℕ) → (bad_table len at end ≡ false) ↔ GoodTable len at end
good_table len at end = or_false (differ_false (at % 4) 0) (or_false (below_false at 20) (below_false len end))

-- the tables of n rows overlap exactly when some byte lies in both
pub overlap_true : (n q w : ℕ) → (overlap q (q + 20 * n) w (w + 4 * n) ≡ true) ↔ Shared q (q + 20 * n) w (w + 4 * n)
overlap_true n q w = Iff.trans (and_true (below_true q (w + 4 * n)) (below_true w (q + 20 * n))) (out, λ s. (omega (arith, s.in_queues, s.in_nodes), omega (arith, s.in_queues, s.in_nodes)))
  where
    out : (q < w + 4 * n) × (w < q + 20 * n) → Shared q (q + 20 * n) w (w + 4 * n)
    out h = record { byte = max q w; in_queues = (omega arith, omega arith); in_nodes = (omega arith, omega arith) }

-- and are apart exactly when none does
pub overlap_false : (n q w : ℕ) → (overlap q (q + 20 * n) w (w + 4 * n) ≡ false) ↔ (Shared q (q + 20 * n) w (w + 4 * n) → ⊥)
overlap_false n q w = (λ e s. true≢false (sym ((overlap_true n q w).1 s) ∙ e), λ no. by _ (λ e. no ((overlap_true n q w).0 e)))
  where
    by : (b : Bool) → (b ≡ true → ⊥) → b ≡ false
    by true h = absurd (h refl)
    by false h = refl

pub offset_exact : (L len n q w : ℕ) → (offset_check len n q w ≡ refused 3 L) ↔ BadTables len n q w L
unfolding offset_check first
offset_exact L len n q w =
    Iff.trans (or_says 3 L three _ _) (sum_iff (bad 8 q (q + 20 * n)) (Iff.and (good 8 q (q + 20 * n))
    (Iff.trans (or_says 3 L three _ _) (sum_iff (bad 12 w (w + 4 * n)) (Iff.and (good 12 w (w + 4 * n))
    (Iff.trans (says_last 3 L three _) (Iff.trans (test_exact 3 L 12 three _) (Iff.and (overlap_true n q w) Iff.rfl))))))))
  where
    three : ◌≢◌ {A = ℕ} 3 0
    three e = omega arith

    bad : (P at end : ℕ) → (test 3 P (bad_table len at end) ≡ refused 3 L) ↔ (BadTable len at end × (L ≡ P))
    bad P at end = Iff.trans (test_exact 3 L P three _) (Iff.and (bad_table_law len at end) Iff.rfl)

    good : (P at end : ℕ) → Silent (test 3 P (bad_table len at end)) ↔ GoodTable len at end
    good P at end = Iff.trans (test_silent 3 P three _) (good_table len at end)

pub offset_only : (len n q w : ℕ) → Only 3 (offset_check len n q w)
unfolding offset_check first
offset_only len n q w =
    only_or _ _ (only_test 3 8 (bad_table len q (q + 20 * n)))
    (only_or _ _ (only_test 3 12 (bad_table len w (w + 4 * n))) (only_or _ _ (only_test 3 12 (overlap q (q + 20 * n) w (w + 4 * n))) (only_fine 3)))

pub read_numbered : (f : List ℕ) → Numbered read_numbers (read_checks f)
unfolding Numbered
read_numbered f = (
  length_only f,
  (count_only (count_of f), (offset_only (length f) (count_of f) (queues_at f) (nodes_at f), (range_only (chain_of f) (queues_at f) (nodes_at f), (order_only (chain_of f) (queues_at f), tt)))),
)

-- a file is refused with a number exactly when no earlier check speaks and the number's own condition holds
module _ (f : List ℕ) (L : ℕ) where
  read_at : (k : ℕ) → k < 5 → (read_refusal f ≡ refused (get_or read_numbers k 0) L) ↔ (Silents (take k (read_checks f)) × (get_or (read_checks f) k fine ≡ refused (get_or read_numbers k 0) L))
  unfolding read_refusal
  read_at k l = exact_at read_numbers (read_checks f) (read_numbered f) tt k L l

  pub read_1 : (read_refusal f ≡ refused 1 L) ↔ (BadLength f × (L ≡ 0))
  unfolding Silents
  read_1 = Iff.trans (read_at 0 (omega arith)) (Iff.trans true-and (length_exact L f))

  pub read_2 : (read_refusal f ≡ refused 2 L) ↔ (Silents (length_check f ∷ []) × (Out 1 16 (count_of f) × (L ≡ 0)))
  read_2 = Iff.trans (read_at 1 (omega arith)) (Iff.and Iff.rfl (count_exact L (count_of f)))

  pub read_3 : (read_refusal f ≡ refused 3 L) ↔ (Silents (length_check f ∷ count_check (count_of f) ∷ []) × BadTables (length f) (count_of f) (queues_at f) (nodes_at f) L)
  read_3 = Iff.trans (read_at 2 (omega arith)) (Iff.and Iff.rfl (offset_exact L (length f) (count_of f) (queues_at f) (nodes_at f)))

  pub read_4 : (read_refusal f ≡ refused 4 L) ↔ (Silents (length_check f ∷ count_check (count_of f) ∷ file_offsets f ∷ []) × FirstOut (fields (chain_of f) (queues_at f) (nodes_at f)) L)
  read_4 = Iff.trans (read_at 3 (omega arith)) (Iff.and Iff.rfl (range_exact L (chain_of f) (queues_at f) (nodes_at f)))

  pub read_5 : (read_refusal f ≡ refused 5 L) ↔ (Silents (length_check f ∷ count_check (count_of f) ∷ file_offsets f ∷ file_range f ∷ []) × FirstOver (chain_of f) (queues_at f) L)
  read_5 = Iff.trans (read_at 4 (omega arith)) (Iff.and Iff.rfl (order_exact L (chain_of f) (queues_at f)))
