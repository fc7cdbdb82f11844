-- Two facts of a user's own, from what the library hands on.
--   c, j                     a chain, and a queue of it
--   below_spreadsheet        the minimum that is reported of a queue is below τ + p, which spreadsheets take for it
--   Recognised t r           r says whether t begins as every report does, so it is true of what a report was written to
--   headed_recognised        which what headed answers says
use Rattle.std.specs.Prelude.{◌≡◌, refl, Bool, true, ◌↔◌, List, ℕ, ◌+◌, ◌<◌, length, get_or, take}
use Rattle.std.proofs.Common.{sym, ap, ◌∙◌}
use Rattle.ardenquill.specs.Records.{Chain, QueueSize, AnalysisAnswer, LengthAnswer}
use Rattle.ardenquill.specs.Chains.{row_of}
use Rattle.ardenquill.specs.Files.{Output}
use Rattle.ardenquill.specs.Analyses.{no_size, size_at, size_by, minimum_bound, analyse_answer, analysed}
use Rattle.ardenquill.specs.Reports.{heading, heading_length, headed, headed_true, report_text, report_refusal, report_written}

-- 01's "sizing errors seen on spreadsheets": "b = .. τ+p" is too large for every queue of every chain that is not refused
pub below_spreadsheet : (c : Chain) → (analyse_answer c).number ≡ 0 → (j : ℕ) → j < c.n
    → (get_or (analyse_answer c).analysis.queues j no_size).minimum < (row_of c j).threshold + (row_of c j).produce
unfolding size_by
below_spreadsheet c ok j l =
    let a = analysed c refl ok in
    let line = ap (λ (r : AnalysisAnswer). get_or r.analysis.queues j no_size) a.1 ∙ size_at c j a.0.chain.count.1 l in
    rw (ap (λ (q : QueueSize). q.minimum) line) (minimum_bound 0 _ _ (row_of c j).consume (a.0.chain.rows j l).threshold.0 (a.0.chain.rows j l).produce.0)

-- r says whether t begins with the first line, and so it is true where lent bytes o became t by a report that was not refused
pub record Recognised (t : List ℕ) (r : Bool) : Type 0 where
  pub begins : (r ≡ true) ↔ (take heading_length t ≡ heading)
  pub reported : (f o : List ℕ) (a : LengthAnswer) → Output (report_refusal f (length o)) (report_text f) o t a → a.number ≡ 0 → r ≡ true

pub headed_recognised : {t : List ℕ} {r : Bool} → r ≡ headed t → Recognised t r
headed_recognised {t} e = record {
  begins = rw e (headed_true t);
  reported = λ f o a w z. e ∙ (report_written f o t a w (sym (ap (λ (x : LengthAnswer). x.number) w.answer) ∙ z)).1.1;
}
