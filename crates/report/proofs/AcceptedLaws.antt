-- What the report call accepts, and what it then answers and leaves in the lent bytes.
--   report_accepts   the call accepts exactly a file that the reader accepts, of an accepted chain, with room for the report
--   report_fine      and then says number 0 with place 0
--   report_written   and then answers the report's length; the lent bytes become the report and, past it, stay as they were
--   report_as_read, _analysed, _room
--                    the call says what the reader says of the file; where that is nothing, what the analysis says of its chain; and where that is nothing, 10 or nothing
use Rattle.std.specs.Prelude.{◌≡◌, true, ◌↔◌, ◌≢◌, List, ◌++◌, ℕ, ◌≤◌, length, drop}
use Rattle.std.proofs.Math.Path.{refl, sym}
use Rattle.std.proofs.Common.{◌∙◌}
use Rattle.chain.specs.Refusals.{fine, Silent, silent_as, first_fine, or_left, or_right, or_silents}
use Rattle.chain.proofs.SoundLaws.{sound}
use Rattle.chainfile.specs.File.{chain_of, read_refusal}
use Rattle.chainfile.specs.Accepted.{AcceptedFile}
use Rattle.chainfile.proofs.AcceptedLaws.{read_accepts}
use Rattle.chainfile.specs.Packed.{written, room_check, room_silent, Output, output_fine}
use Rattle.chainfile.specs.declared.LengthAnswer.{LengthAnswer}
use Rattle.sizing.specs.Checks.{analyse_refusal}
use Rattle.sizing.proofs.ChecksLaws.{analyse_parts}
use Rattle.sizing.specs.Sizes.{analysis_of}
use Rattle.sizing.specs.Accepted.{Accepted}
use Rattle.sizing.proofs.AcceptedLaws.{size_accepts}
use Rattle.reporttext.specs.Heading.{headed}
use Rattle.reporttext.proofs.HeadingLaws.{report_headed}
use Rattle.report.specs.Checks.{report_text, report_checks, size_refusal, report_refusal}
use Rattle.report.proofs.ChecksLaws.{report_parts}

module _ (f : List ℕ) (room : ℕ) where
  pub report_accepts : Silent (report_refusal f room) ↔ (AcceptedFile f × (Accepted (chain_of f) × (length (report_text f) ≤ room)))
  unfolding size_refusal
  report_accepts = (out, back)
    where
      out : Silent (report_refusal f room) → AcceptedFile f × (Accepted (chain_of f) × (length (report_text f) ≤ room))
      out z =
          let parts = (or_silents _ _).0 (silent_as (report_parts f room) z) in
          let rest = (or_silents _ _).0 parts.1 in
          let file = (read_accepts f).0 parts.0 in
          (file, ((size_accepts (chain_of f)).0 (file.chain, rest.0), (room_silent _ _).0 rest.1))

      back : AcceptedFile f × (Accepted (chain_of f) × (length (report_text f) ≤ room)) → Silent (report_refusal f room)
      back h =
          let own = ((size_accepts (chain_of f)).1 h.1.0).1 in
          silent_as (sym (report_parts f room)) ((or_silents _ _).1 ((read_accepts f).1 h.0, (or_silents _ _).1 (own, (room_silent _ _).1 h.1.1)))

  pub report_fine : Silent (report_refusal f room) → report_refusal f room ≡ fine
  unfolding report_refusal
  report_fine z = first_fine (report_checks f room) z

  -- the reader speaks first
  pub report_as_read : (read_refusal f).number ≢ 0 → report_refusal f room ≡ read_refusal f
  report_as_read n = report_parts f room ∙ sym (or_left _ refl n)

  module _ (read : Silent (read_refusal f)) where
    -- the chain of a file that is read passes 2, 4 and 5, so the analysis says of it what 6 and 7 say
    sizes_as : size_refusal f ≡ analyse_refusal (chain_of f)
    unfolding size_refusal
    sizes_as = or_right refl ((sound (chain_of f)).1 ((read_accepts f).0 read).chain) refl ∙ sym (analyse_parts (chain_of f))

    -- then the analysis
    pub report_as_analysed : (analyse_refusal (chain_of f)).number ≢ 0 → report_refusal f room ≡ analyse_refusal (chain_of f)
    report_as_analysed n = report_parts f room ∙ sym (or_right refl read (or_left _ (sym sizes_as) n))

    -- then 10
    pub report_as_room : Silent (analyse_refusal (chain_of f)) → report_refusal f room ≡ room_check (length (report_text f)) room
    report_as_room z = report_parts f room ∙ sym (or_right refl read (or_right (sym sizes_as) z refl))

-- and they begin with the first line
pub report_written : (f o p : List ℕ) (a : LengthAnswer) → Output (report_refusal f (length o)) (report_text f) o p a → Silent (report_refusal f (length o))
    → (a ≡ written (length (report_text f))) × ((p ≡ report_text f ++ drop (length (report_text f)) o) × (headed p ≡ true))
report_written f o p a w z =
    let h = output_fine (report_fine f (length o) z) w in
    (h.0, (h.1, rw h.1 (report_headed (analysis_of (chain_of f)) _)))
