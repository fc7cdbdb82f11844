-- Lent bytes that are always enough.
--   file_refusal f  what 1 to 7 refuse a file with
--   refusal_room   with room for the longest line of a refusal it is never refused
use Rattle.std.specs.Prelude.{◌≡◌, List, ℕ, ◌^◌, ◌≤◌, ◌<◌}
use Rattle.std.proofs.Common.{arith}
use Rattle.std.proofs.Math.ListN.{length}
use Rattle.chain.specs.Refusals.{fine, or_else}
use Rattle.chain.specs.Refusal.{Refusal}
use Rattle.chainfile.specs.File.{read_refusal}
use Rattle.chainfile.specs.Packed.{room_check, room_enough}
use Rattle.reporttext.specs.Refused.{refusal_text, longest_refusal}
use Rattle.reporttext.proofs.RefusedLaws.{refusal_short}
use Rattle.report.specs.Checks.{size_refusal}

pub refusal_room : (N L room : ℕ) → N < 2 ^ 32 → L < 2 ^ 32 → longest_refusal ≤ room → room_check (length (refusal_text N L)) room ≡ fine
refusal_room N L room n l h = room_enough _ _ (omega (arith, refusal_short N L n l))

-- what 1 to 7 refuse a file with
abbrev pub file_refusal : List ℕ → Refusal
file_refusal f = or_else (read_refusal f) (size_refusal f)
