-- Laws of specs/Room.antt that rest on a definition which an edit of must-fail/ changes.
-- Lent bytes that are always enough.
--   report_room    with room for the longest report the report call never says 10
--   report_roomy   with that room the report call says what these say
use Rattle.std.specs.Prelude.{◌≡◌, List, ℕ, ◌≤◌}
use Rattle.std.proofs.Math.Path.{refl, sym}
use Rattle.std.proofs.Common.{◌∙◌, arith}
use Rattle.std.proofs.Math.Logic.{by_cases}
use Rattle.std.proofs.Math.Decide.{ℕ_discrete}
use Rattle.std.proofs.Math.ListN.{length}
use Rattle.chain.specs.Refusals.{refused, fine, or_else, Silent, Silents, first_silent, first_fine, or_left, or_right}
use Rattle.chainfile.specs.File.{chain_of, read_checks, read_refusal}
use Rattle.chainfile.proofs.AcceptedLaws.{read_accepts}
use Rattle.chainfile.specs.Packed.{room_check, room_enough}
use Rattle.sizing.specs.Checks.{size_checks}
use Rattle.sizing.proofs.AcceptedLaws.{size_accepts}
use Rattle.reporttext.specs.Short.{longest_report}
use Rattle.reporttext.proofs.ShortLaws.{report_short}
use Rattle.report.specs.Checks.{report_text, report_refusal, size_refusal}
use Rattle.report.proofs.ChecksLaws.{report_parts, report_10}
use Rattle.report.specs.Room.{file_refusal}

pub report_room : (f : List ℕ) (room L : ℕ) → longest_report ≤ room → report_refusal f room ≡ refused 10 L → ⊥
unfolding read_refusal Silents
report_room f room L l e =
    let t = (report_10 f room L).0 e in
    let h = t.0 in
    let file = (read_accepts f).0 ((first_silent (read_checks f)).1 (h.0, (h.1.0, (h.1.1.0, (h.1.1.1.0, (h.1.1.1.1.0, tt)))))) in
    let accepted = (size_accepts (chain_of f)).0 (file.chain, (first_silent (size_checks (chain_of f))).1 h.1.1.1.1.1) in
    omega (arith, report_short (chain_of f) accepted, t.1)

module _ (f : List ℕ) (room : ℕ) (l : longest_report ≤ room) where
  -- a file that 1 to 7 pass has a report that fits
  passes : Silent (read_refusal f) → Silent (size_refusal f) → room_check (length (report_text f)) room ≡ fine
  unfolding size_refusal
  passes r z =
      let accepted = (size_accepts (chain_of f)).0 (((read_accepts f).0 r).chain, z) in
      room_enough _ _ (omega (arith, report_short (chain_of f) accepted))

  -- behind the reader, 10 adds nothing
  behind : Silent (read_refusal f) → or_else (size_refusal f) (room_check (length (report_text f)) room) ≡ size_refusal f
  unfolding size_refusal
  behind r = by_cases (ℕ_discrete (size_refusal f).number 0)
      (λ z. sym (or_right refl z (sym (passes r z))) ∙ sym (first_fine (size_checks (chain_of f)) z))
      (λ n. sym (or_left _ refl n))

  pub report_roomy : report_refusal f room ≡ file_refusal f
  report_roomy = report_parts f room ∙ by_cases (ℕ_discrete (read_refusal f).number 0)
      (λ z. sym (or_right refl z refl) ∙ behind z ∙ or_right refl z refl)
      (λ n. sym (or_left _ refl n) ∙ or_left _ refl n)
