-- Laws of specs/PrintedInColumns.antt that rest on a definition which an edit of must-fail/ changes.
-- What the report program prints, by what reading and analysing answer: of the words by which it is defined none stands in these laws but `printed`.
--   prints_as_read, prints_as_analysed, prints_as_reported
--                          the line of the reader's refusal; else of the analysis'; else the report
use Rattle.std.specs.Prelude.{◌≡◌, refl, ◌≢◌, List}
use Rattle.std.proofs.Math.Path.{sym, ap, subst}
use Rattle.std.proofs.Common.{◌∙◌, le_refl, arith, eq-eqb, ne_eqb, le-ltb}
use Prim.Native.Nat.{ℕ, ◌+◌}
use Rattle.std.proofs.Math.ListN.{length}
use Rattle.ardenquill.specs.Chains.{answered, fine}
use Rattle.ardenquill.specs.Files.{read_answer, read_refusal, chain_of, room_check}
use Rattle.ardenquill.specs.Analyses.{analysis_of, analyse_answer, analyse_refusal, sized}
use Rattle.ardenquill.specs.Reports.{report_text, file_refusal, longest_report, report_roomy, report_as_read, report_as_analysed, report_as_room}
use Rattle.ardenquill.specs.Records.{Refusal, Chain}
use Rattle.promises.specs.Replay.{accepts_is}
use Rattle.promises.specs.Laws.{report_is as answered-analysis}
use Rattle.promises.specs.Columns.{IsReport, IsRefusal, report_is, refusal_is}
use Rattle.chainreport.specs.Printed.{printed}
use Rattle.chainreport.specs.PrintedInColumns.{prints}

refusing : (f : List ℕ) (r : Refusal) → r.number ≢ 0 → IsRefusal r.number r.place (prints f r)
refusing f r n = simp (ne_eqb _ _ n) ((refusal_is r.number r.place _).1 refl)

module _ (f : List ℕ) where
  printed_by : {r : Refusal} → file_refusal f ≡ r → printed f ≡ prints f r
  unfolding printed
  printed_by e = ap (prints f) e

  -- "A refusal prints only the line `refused,number,place`": the reader's
  pub prints_as_read : (read_answer f).number ≢ 0 → IsRefusal (read_answer f).number (read_answer f).place (printed f)
  unfolding read_answer answered
  prints_as_read n = rw (printed_by (sym (report_roomy f longest_report (le_refl _)) ∙ report_as_read f longest_report n)) (refusing f (read_refusal f) n)

  module _ (read : (read_answer f).number ≡ 0) where
    chain_is : (read_answer f).chain ≡ chain_of f
    unfolding read_answer answered
    chain_is = simp (eq-eqb _ _ read)

    quiet : (read_refusal f).number ≡ 0
    unfolding read_answer answered
    quiet = read

    -- the analysis'
    pub prints_as_analysed : let a = analyse_answer (read_answer f).chain in a.number ≢ 0 → IsRefusal a.number a.place (printed f)
    unfolding analyse_answer sized
    prints_as_analysed = subst Is (sym chain_is) (λ n.
        rw (printed_by (sym (report_roomy f longest_report (le_refl _)) ∙ report_as_analysed f longest_report quiet n)) (refusing f (analyse_refusal (chain_of f)) n))
      where
        Is : Chain → Type 0
        Is c = (analyse_answer c).number ≢ 0 → IsRefusal (analyse_answer c).number (analyse_answer c).place (printed f)

    -- and else the report
    pub prints_as_reported : (analyse_answer (read_answer f).chain).number ≡ 0 → IsReport (analyse_answer (read_answer f).chain).analysis (printed f)
    unfolding analyse_answer sized
    prints_as_reported z =
        let room : ℕ = length (report_text f) + longest_report in
        let ok : (analyse_answer (chain_of f)).number ≡ 0 = sym (ap (λ (c : Chain). (analyse_answer c).number) chain_is) ∙ z in
        let fits : room_check (length (report_text f)) room ≡ fine = simp (le-ltb room (length (report_text f)) (omega arith)) in
        let none : file_refusal f ≡ fine = sym (report_roomy f room (omega arith)) ∙ report_as_room f room quiet ok ∙ fits in
        let is : (analyse_answer (read_answer f).chain).analysis ≡ analysis_of (chain_of f) = answered-analysis _ ((accepts_is _).0 z) ∙ ap analysis_of chain_is in
        rw (printed_by none, is) ((report_is (analysis_of (chain_of f)) (report_text f)).1 refl)
