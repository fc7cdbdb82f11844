-- Laws of specs/Checks.antt that rest on a definition which an edit of must-fail/ changes.
-- The report call's checks (01, Numbers a call may refuse with; Report program).
--   report_1 .. report_7, report_10
--                          when a file is refused with each number
--   report_parts           the reader speaks first, then 6 and 7, then 10
use Rattle.std.proofs.Math.Logic.Iff
use Rattle.std.specs.Prelude.{◌≡◌, ◌↔◌, List, [], ◌∷◌, ◌++◌, ℕ, ◌<◌, length, get_or, take}
use Rattle.std.proofs.Common.{ap, ◌∙◌, arith}
use Rattle.std.proofs.Math.Logic.{true-and}
use Rattle.chain.specs.Tests.{Out}
use Rattle.chain.specs.Refusals.{Silents, Numbered, refused, fine, or_else, first_append, numbered_append}
use Rattle.chain.proofs.RefusalsLaws.{exact_at}
use Rattle.chain.specs.Checks.{count_check, fields, FirstOut, FirstOver}
use Rattle.chain.proofs.ChecksLaws.{count_exact, range_exact, order_exact}
use Rattle.chainfile.specs.File.{count_of, queues_at, nodes_at, chain_of, length_check, file_offsets, file_range, read_checks}
use Rattle.chainfile.specs.File.{read_refusal, BadLength, BadTables, length_exact, read_numbers}
use Rattle.chainfile.proofs.FileLaws.{offset_exact, read_numbered}
use Rattle.chainfile.specs.Packed.{room_check, room_exact, room_only, room_last}
use Rattle.sizing.specs.Load.{busy_of, cycle_of}
use Rattle.sizing.specs.Checks.{rate_check, size_checks, FirstTooLarge}
use Rattle.sizing.proofs.ChecksLaws.{rate_exact, load_exact, rate_only, load_only}
use Rattle.report.specs.Checks.{report_text, report_checks, report_refusal, report_numbers, size_refusal}

pub report_numbered : (f : List ℕ) (room : ℕ) → Numbered report_numbers (report_checks f room)
unfolding Numbered
report_numbered f room =
    numbered_append read_numbers (6 ∷ 7 ∷ 10 ∷ []) (read_checks f) (size_checks (chain_of f) ++ (room_check (length (report_text f)) room ∷ []))
    (read_numbered f) (rate_only (chain_of f), (load_only (chain_of f), (room_only (length (report_text f)) room, tt)))

-- a file is refused with a number exactly when no earlier check speaks and the number's own condition holds
module _ (f : List ℕ) (room L : ℕ) where
  report_at : (k : ℕ) → k < 8 → (report_refusal f room ≡ refused (get_or report_numbers k 0) L)
      ↔ (Silents (take k (report_checks f room)) × (get_or (report_checks f room) k fine ≡ refused (get_or report_numbers k 0) L))
  unfolding report_refusal
  report_at k l = exact_at report_numbers (report_checks f room) (report_numbered f room) tt k L l

  pub report_1 : (report_refusal f room ≡ refused 1 L) ↔ (BadLength f × (L ≡ 0))
  unfolding Silents
  report_1 = Iff.trans (report_at 0 (omega arith)) (Iff.trans true-and (length_exact L f))

  pub report_2 : (report_refusal f room ≡ refused 2 L) ↔ (Silents (length_check f ∷ []) × (Out 1 16 (count_of f) × (L ≡ 0)))
  report_2 = Iff.trans (report_at 1 (omega arith)) (Iff.and Iff.rfl (count_exact L (count_of f)))

  pub report_3 : (report_refusal f room ≡ refused 3 L) ↔ (Silents (length_check f ∷ count_check (count_of f) ∷ []) × BadTables (length f) (count_of f) (queues_at f) (nodes_at f) L)
  report_3 = Iff.trans (report_at 2 (omega arith)) (Iff.and Iff.rfl (offset_exact L (length f) (count_of f) (queues_at f) (nodes_at f)))

  pub report_4 : (report_refusal f room ≡ refused 4 L) ↔ (Silents (length_check f ∷ count_check (count_of f) ∷ file_offsets f ∷ []) × FirstOut (fields (chain_of f) (queues_at f) (nodes_at f)) L)
  report_4 = Iff.trans (report_at 3 (omega arith)) (Iff.and Iff.rfl (range_exact L (chain_of f) (queues_at f) (nodes_at f)))

  pub report_5 : (report_refusal f room ≡ refused 5 L) ↔ (Silents (length_check f ∷ count_check (count_of f) ∷ file_offsets f ∷ file_range f ∷ []) × FirstOver (chain_of f) (queues_at f) L)
  report_5 = Iff.trans (report_at 4 (omega arith)) (Iff.and Iff.rfl (order_exact L (chain_of f) (queues_at f)))

  pub report_6 : (report_refusal f room ≡ refused 6 L) ↔ (Silents (read_checks f) × FirstTooLarge (chain_of f) L)
  report_6 = Iff.trans (report_at 5 (omega arith)) (Iff.and Iff.rfl (rate_exact (chain_of f) L))

  pub report_7 : (report_refusal f room ≡ refused 7 L) ↔ (Silents (read_checks f ++ (rate_check (chain_of f) ∷ [])) × ((cycle_of (chain_of f) < busy_of (chain_of f)) × (L ≡ 0)))
  report_7 = Iff.trans (report_at 6 (omega arith)) (Iff.and Iff.rfl (load_exact (chain_of f) L))

  pub report_10 : (report_refusal f room ≡ refused 10 L) ↔ (Silents (read_checks f ++ size_checks (chain_of f)) × ((room < length (report_text f)) × (L ≡ length (report_text f))))
  report_10 = Iff.trans (report_at 7 (omega arith)) (Iff.and Iff.rfl (room_exact L (length (report_text f)) room))

-- the reader's, then these, then 10
pub report_parts : (f : List ℕ) (room : ℕ) → report_refusal f room ≡ or_else (read_refusal f) (or_else (size_refusal f) (room_check (length (report_text f)) room))
unfolding report_refusal read_refusal size_refusal
report_parts f room =
    first_append (read_checks f) (size_checks (chain_of f) ++ (room_check (length (report_text f)) room ∷ []))
    ∙ ap (or_else (read_refusal f)) (room_last (size_checks (chain_of f)) (length (report_text f)) room)
