-- Laws of specs/Heading.antt that rest on a definition which an edit of must-fail/ changes.
-- The first line, which is always the same (01, Report program).
--   headed_true     that is so exactly where its first bytes are that line
--   first_line_law  it is the first line of every report
--   report_headed   a report with anything behind it begins with it
use Rattle.std.specs.Prelude.{◌≡◌, refl, true, ◌↔◌, List, ◌++◌, ℕ, take}
use Rattle.sizing.specs.declared.Analysis.{Analysis}
use Rattle.reporttext.specs.Text.{heading, heading_length, text_of}
use Rattle.reporttext.specs.Heading.{begins_true, headed}

pub headed_true : (t : List ℕ) → (headed t ≡ true) ↔ (take heading_length t ≡ heading)
unfolding headed
headed_true t = begins_true heading t

pub first_line_law : (a : Analysis) → take heading_length (text_of a) ≡ heading
unfolding text_of
first_line_law a = refl

-- and so does what a report was written to the front of
pub report_headed : (a : Analysis) (rest : List ℕ) → headed (text_of a ++ rest) ≡ true
unfolding text_of
report_headed a rest = (headed_true (text_of a ++ rest)).1 refl
