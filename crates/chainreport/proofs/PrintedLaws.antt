-- Laws of specs/Printed.antt that rest on a definition which an edit of must-fail/ changes.
-- What the report program prints (01, Report program).
--   prints_refusal, prints_report
--                    how the library's calls, with room for the longest report, leave it at the front of what is lent to them
use Rattle.std.specs.Prelude.{◌≡◌, cond, List, ◌++◌, ℕ, ◌^◌, ◌≤◌, ◌<◌, eqb, take, drop}
use Rattle.std.proofs.Common.{sym, ◌∙◌, arith, eq-eqb, ne_eqb}
use Rattle.std.proofs.Math.Path.{ap}
use Rattle.std.proofs.Math.ListN.{length}
use Rattle.ardenquill.specs.Files.{Output, output_fine, room_check}
use Rattle.ardenquill.specs.Reports.{report_text, report_refusal, refusal_text, file_refusal, longest_report, longest_refusal, report_written, report_roomy, refusal_room}
use Rattle.chain.specs.Refusal.{Refusal}
use Rattle.chainfile.specs.declared.LengthAnswer.{LengthAnswer}
use Rattle.chainreport.specs.Printed.{printed, fronted}

module _ (f o : List ℕ) (room : longest_report ≤ length o) {p : List ℕ} {a : LengthAnswer} (w : Output (report_refusal f (length o)) (report_text f) o p a) where
  -- what the report call refuses with is what 1 to 7 refuse the file with
  number_same : a.number ≡ (file_refusal f).number
  number_same = ap (λ (v : LengthAnswer). v.number) w.answer ∙ ap (λ (r : Refusal). r.number) (report_roomy f (length o) room)

  place_same : a.place ≡ (file_refusal f).place
  place_same = ap (λ (v : LengthAnswer). v.place) w.answer ∙ ap (λ (r : Refusal). r.place) (report_roomy f (length o) room)

  pub prints_report : a.number ≡ 0 → take a.length p ≡ printed f
  unfolding printed
  prints_report z =
      let h = report_written f o p a w (sym (ap (λ (v : LengthAnswer). v.number) w.answer) ∙ z) in
      rw (eq-eqb _ _ (sym number_same ∙ z)) (fronted o (ap (λ (v : LengthAnswer). v.length) h.0) h.1.0)

  module _ (n : a.number ≡ 0 → ⊥) where
    -- a refused call left the lent bytes as they were
    untouched : p ≡ o
    untouched = w.bytes ∙ kept (report_refusal f (length o)).number (λ z. n (ap (λ (v : LengthAnswer). v.number) w.answer ∙ z))
      where
        kept : (k : ℕ) → (k ≡ 0 → ⊥) → cond (eqb k 0) (report_text f ++ drop (length (report_text f)) o) o ≡ o
        kept k m = simp (ne_eqb k 0 m)

    pub prints_refusal : {q : List ℕ} {b : LengthAnswer} → a.number < 2 ^ 32 → a.place < 2 ^ 32
        → Output (room_check (length (refusal_text a.number a.place)) (length p)) (refusal_text a.number a.place) p q b
        → (b.number ≡ 0) × (take b.length q ≡ printed f)
    unfolding printed
    prints_refusal hn hl v =
        let long : longest_refusal ≤ length p = omega (arith, ap length untouched) in
        let h = output_fine (refusal_room a.number a.place (length p) hn hl long) v in
        let line = fronted p (ap (λ (u : LengthAnswer). u.length) h.0) h.1 in
        (ap (λ (u : LengthAnswer). u.number) h.0, rw (ne_eqb _ _ (λ z. n (number_same ∙ z)), ← number_same, ← place_same) line)
