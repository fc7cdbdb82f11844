-- The report call's checks (01, Numbers a call may refuse with; Report program).
--   report_text f          the report of the file f, where it is not refused
--   report_checks f room   the call's checks, in order: the reader's, then 6 and 7, then 10
--   report_refusal f room  what the call refuses f with, the lent output being `room` bytes long
--   size_refusal f         what 6 and 7 refuse of the chain that f says
use Rattle.std.specs.Prelude.{List, [], ◌∷◌, ◌++◌, ℕ, length}
use Rattle.chain.specs.Refusals.{first}
use Rattle.chain.specs.Refusal.{Refusal}
use Rattle.chainfile.specs.File.{chain_of, read_checks}
use Rattle.chainfile.specs.File.{read_refusal, read_numbers}
use Rattle.chainfile.specs.Packed.{room_check}
use Rattle.sizing.specs.Load.{busy_in}
use Rattle.sizing.specs.Sizes.{analysis_of}
use Rattle.sizing.specs.Checks.{rate_check, size_checks}
use Rattle.reporttext.specs.Text.{text_of}

-- the report of a file
abbrev pub report_text : List ℕ → List ℕ
report_text f = text_of (analysis_of (chain_of f))

-- the reader's checks 1 to 5; 6 and 7; then 10, its place the whole length of the report
abbrev pub report_checks : List ℕ → ℕ → List Refusal
report_checks f room = read_checks f ++ (size_checks (chain_of f) ++ (room_check (length (report_text f)) room ∷ []))

unfoldable pub report_refusal : List ℕ → ℕ → Refusal
unfolding first read_refusal rate_check busy_in analysis_of text_of
report_refusal f room = first (report_checks f room)

-- their numbers, in order: each check speaks with its own
abbrev pub report_numbers : List ℕ
report_numbers = read_numbers ++ (6 ∷ 7 ∷ 10 ∷ [])

-- 6 and 7 of the chain that the file says
unfoldable pub size_refusal : List ℕ → Refusal
unfolding first chain_of rate_check busy_in
size_refusal f = first (size_checks (chain_of f))
