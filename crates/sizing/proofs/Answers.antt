-- What the analysis and a chain that is to be run are answered, as their code puts it together: at each `?` by the error, and at the end.
--   passed                   a chain that 2, 4 and 5 pass is sound
--   analyse_refused, _sized  the ways out of the analysis
--   run_refused, _short, _whole, run_few
--                            those of a chain that is to be run, and that an analysis has few queues
--   answering                the ways out, by which the check proves the two calls
use Rattle.std.specs.Prelude.{◌≡◌, refl, ◌≤◌}
use Rattle.std.proofs.Common.{Ok, Err, sym, ap, ◌∙◌}
use Rattle.chain.specs.Refusal.{Refusal}
use Rattle.chain.specs.Refusals.{fine, first, or_left, or_right}
use Rattle.chain.specs.Checks.{chain_refusal}
use Rattle.chain.specs.Faults.{Few}
use Rattle.chain.specs.Sound.{Sound}
use Rattle.chain.proofs.SoundLaws.{sound_known}
use Rattle.chain.specs.Said.{refusal, speaks}
use Rattle.chain.specs.declared.Chain.{Chain}
use Rattle.chain.specs.declared.reasons.Refused.{Refused}
use Rattle.sizing.specs.Sizes.{analysis_of, sized, analysis_said}
use Rattle.sizing.proofs.SizesLaws.{analysis_refused, analysis_given, sized_said}
use Rattle.sizing.specs.Checks.{size_checks, analyse_refusal, analyse_answer, run_refusal, run_answer, short_in}
use Rattle.sizing.proofs.ChecksLaws.{short_is_capacity, analyse_parts, run_parts}
use Rattle.sizing.proofs.AcceptedLaws.{analysed}
use Rattle.sizing.specs.declared.Analysis.{Analysis}
use Rattle.sizing.specs.declared.AnalysisAnswer.{AnalysisAnswer}

-- a chain that 2, 4 and 5 pass
pub passed : (c : Chain) → fine ≡ chain_refusal c → Sound c
passed c z = sound_known c z refl

module _ (c : Chain) where
  pub analyse_refused : (e : Refused) → refusal e ≡ chain_refusal c → analysis_said (Err e) ≡ analyse_answer c
  unfolding analyse_answer
  analyse_refused e g = analysis_refused e c (or_left _ g (speaks e) ∙ sym (analyse_parts c))

  pub analyse_sized : fine ≡ chain_refusal c → sized (first (size_checks c)) c ≡ analyse_answer c
  unfolding analyse_answer
  analyse_sized z = ap (λ (f : Refusal). sized f c) (or_right z refl refl ∙ sym (analyse_parts c))

  pub run_refused : (e : Refused) → analysis_said (Err e) ≡ analyse_answer c → analysis_said (Err e) ≡ run_answer c
  unfolding analyse_answer run_answer
  run_refused e g = analysis_refused e c (or_left _ (sized_said (analyse_refusal c) c g) (speaks e) ∙ sym (run_parts c))

  -- an analysis that was given
  module _ {a : Analysis} (g : analysis_said (Ok a) ≡ analyse_answer c) where
    few : c.n ≤ 16
    few = (analysed c g refl).0.chain.count.1

    whole : a ≡ analysis_of c
    whole = ap (λ (b : AnalysisAnswer). b.analysis) (analysed c g refl).1

    pub run_few : Few a.n
    unfolding analysis_of
    run_few = record { few = rw whole few }

    -- what is said of a run is what its analysis shows
    shown : {r : Refusal} → r ≡ short_in a → r ≡ run_refusal c
    unfolding analyse_answer
    shown f = or_right (sized_said (analyse_refusal c) c g) refl (f ∙ ap short_in whole ∙ short_is_capacity c few) ∙ sym (run_parts c)

    pub run_short : (e : Refused) → refusal e ≡ short_in a → analysis_said (Err e) ≡ run_answer c
    unfolding run_answer
    run_short e f = analysis_refused e c (shown f)

    pub run_whole : fine ≡ short_in a → analysis_said (Ok a) ≡ run_answer c
    unfolding run_answer
    run_whole f = analysis_given c (shown f) whole

pub ruleset answering = (passed, analyse_refused, analyse_sized, run_refused, run_short, run_whole)
