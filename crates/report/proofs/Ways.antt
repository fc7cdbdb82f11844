-- The report call's ways out, as its code has them: the reader refuses; 6 or 7 does; or the text of the analysis is written.
use Rattle.std.specs.Prelude.{◌≡◌, List, ℕ, length}
use Rattle.std.proofs.Common.{Ok, Err, refl, sym, ap, ◌∙◌}
use Rattle.chain.specs.Refusals.{refused, fine, first, or_left, or_right, silent_as}
use Rattle.chain.specs.Record.{answered}
use Rattle.chain.specs.Said.{chain_said, refusal, speaks}
use Rattle.chain.specs.Sound.{Sound}
use Rattle.chain.specs.Faults.{Few}
use Rattle.chain.specs.declared.Chain.{Chain}
use Rattle.chain.specs.declared.ChainAnswer.{ChainAnswer}
use Rattle.chain.specs.declared.reasons.Refused.{Refused}
use Rattle.chainfile.specs.File.{chain_of, read_refusal, read_answer}
use Rattle.chainfile.proofs.AcceptedLaws.{read_accepts}
use Rattle.chainfile.specs.Packed.{room_check, Output}
use Rattle.chainfile.specs.declared.LengthAnswer.{LengthAnswer}
use Rattle.sizing.specs.Sizes.{analysis_of, analysis_said, sized}
use Rattle.sizing.specs.Checks.{size_checks}
use Rattle.sizing.specs.declared.Analysis.{Analysis}
use Rattle.sizing.specs.declared.AnalysisAnswer.{AnalysisAnswer}
use Rattle.reporttext.specs.Text.{text_of}
use Rattle.report.specs.Checks.{report_text, size_refusal, report_refusal}
use Rattle.report.proofs.ChecksLaws.{report_parts}

module _ (f : List ℕ) where
  pub read_refused : (room : ℕ) (e : Refused) → chain_said (Err e) ≡ read_answer f → refusal e ≡ report_refusal f room
  unfolding read_answer answered
  read_refused room e is =
      let says : refusal e ≡ read_refusal f = ap (λ (x : ChainAnswer). refused x.number x.place) is in
      or_left _ says (speaks e) ∙ sym (report_parts f room)

  -- the reader has a chain
  module _ (c : Chain) (is : chain_said (Ok c) ≡ read_answer f) where
    read_fine : fine ≡ read_refusal f
    unfolding read_answer answered
    read_fine = ap (λ (x : ChainAnswer). refused x.number x.place) is

    read_chain : c ≡ chain_of f
    unfolding read_answer answered
    read_chain = ap (λ (x : ChainAnswer). x.chain) (rw (← read_fine) at is)

    pub read_sound : Sound c
    read_sound = rw read_chain ((read_accepts f).0 (silent_as read_fine refl)).chain

    size_is : first (size_checks c) ≡ size_refusal f
    unfolding size_refusal
    size_is = ap (λ (k : Chain). first (size_checks k)) read_chain

    pub size_refused : (room : ℕ) (e : Refused) → analysis_said (Err e) ≡ sized (first (size_checks c)) c → refusal e ≡ report_refusal f room
    unfolding sized
    size_refused room e made =
        let says : refusal e ≡ first (size_checks c) = ap (λ (x : AnalysisAnswer). refused x.number x.place) made in
        or_right read_fine refl (or_left _ (says ∙ size_is) (speaks e)) ∙ sym (report_parts f room)

    -- and it has an analysis
    module _ (a : Analysis) (made : analysis_said (Ok a) ≡ sized (first (size_checks c)) c) where
      size_fine : fine ≡ first (size_checks c)
      unfolding sized
      size_fine = ap (λ (x : AnalysisAnswer). refused x.number x.place) made

      size_analysis : a ≡ analysis_of (chain_of f)
      unfolding sized
      size_analysis = ap (λ (x : AnalysisAnswer). x.analysis) (rw (← size_fine) at made) ∙ ap analysis_of read_chain

      pub few_queues : Few a.n
      unfolding analysis_of
      few_queues = rw size_analysis (record { few = ((read_accepts f).0 (silent_as read_fine refl)).chain.count.1 })

      pub text_written : {o p : List ℕ} {r : LengthAnswer} → Output (room_check (length (text_of a)) (length o)) (text_of a) o p r → Output (report_refusal f (length o)) (report_text f) o p r
      text_written {o} w =
          let left : room_check (length (report_text f)) (length o) ≡ report_refusal f (length o) =
          or_right read_fine refl (or_right (size_fine ∙ size_is) refl refl) ∙ sym (report_parts f (length o)) in
          rw (← left) (rw size_analysis at w)
