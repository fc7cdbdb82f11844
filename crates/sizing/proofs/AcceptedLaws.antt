-- Laws of specs/Accepted.antt that rest on a definition which an edit of must-fail/ changes.
-- What a chain that the analysis accepts is, and that each of its numbers fits its width.
--   size_accepts             a sound chain is accepted exactly when 6 and 7 are silent
--   analyse_accepts          a chain is not refused exactly when it is accepted
--   analysed                 the same of an answer that code was given
--   run_accepts              and a run does not refuse it exactly when each of its capacities is enough, too
--   run_said, run_quiet
--                            what code was answered that asked whether a chain may run
--   SizeFits q, size_fits    the numbers of a queue's line: x and y up to the limit, minimum up to 131,069, naming count up to
--                            65,535, capacity up to 1,000,000, and the margin between minus and plus a million
--   busy_fits, cycle_fits    the load
use Rattle.std.proofs.Math.Logic.Iff
use Rattle.std.specs.Prelude.{◌≡◌, refl, ◌↔◌, ℕ, zero, suc, ◌≤◌, ◌<◌}
use Rattle.std.proofs.Common.{sym, ap, ◌∙◌, le_trans, arith}
use Rattle.chain.specs.Refusals.{refused, first, Silent, Silents, silent_as, first_silent, first_fine, or_silents}
use Rattle.chain.specs.Checks.{chain_refusal}
use Rattle.chain.specs.Sound.{Sound}
use Rattle.chain.proofs.SoundLaws.{sound}
use Rattle.chain.specs.declared.Chain.{Chain}
use Rattle.sizing.specs.Nodes.{y_of}
use Rattle.sizing.specs.Load.{busy_of, cycle_of}
use Rattle.sizing.specs.Sizes.{size_by, size_of, analysis_of, sized, minimum_most, naming_most, capacity_most}
use Rattle.sizing.proofs.SizesLaws.{sized_fine, sized_said}
use Rattle.sizing.specs.Checks.{limit, Enough, size_checks, analyse_checks, analyse_refusal, analyse_answer, run_refusal}
use Rattle.sizing.specs.Checks.{run_answer, capacity_check}
use Rattle.sizing.proofs.ChecksLaws.{analyse_parts, run_parts, rates_silent, load_silent, capacity_silent}
use Rattle.sizing.specs.declared.AnalysisAnswer.{AnalysisAnswer}
use Rattle.sizing.specs.Accepted.{Accepted, SizeFits, margin_fits}

-- a chain that 2, 4 and 5 pass is accepted exactly when 6 and 7 pass it too
pub size_accepts : (c : Chain) → (Sound c × Silent (first (size_checks c))) ↔ Accepted c
unfolding Silents
size_accepts c = (out, λ a. (a.chain, (first_silent (size_checks c)).1 ((rates_silent c).1 a.rates, ((load_silent c).1 a.load, tt))))
  where
    out : Sound c × Silent (first (size_checks c)) → Accepted c
    out h =
        let own = (first_silent (size_checks c)).0 h.1 in
        record { chain = h.0; rates = (rates_silent c).0 own.0; load = (load_silent c).0 own.1.0 }

pub analyse_accepts : (c : Chain) → Silent (analyse_refusal c) ↔ Accepted c
analyse_accepts c =
    Iff.trans (silent_as (analyse_parts c), silent_as (sym (analyse_parts c)))
    (Iff.trans (or_silents (chain_refusal c) (first (size_checks c))) (Iff.trans (Iff.and (sound c) Iff.rfl) (size_accepts c)))

-- the answer that code was given, where it is not refused: the chain is accepted, and this is its analysis
pub analysed : {a : AnalysisAnswer} (c : Chain) → a ≡ analyse_answer c → a.number ≡ 0 → Accepted c × (a ≡ record { number = 0; place = 0; analysis = analysis_of c })
unfolding analyse_answer analyse_refusal sized
analysed c e z =
    let quiet : Silent (analyse_refusal c) = sym (ap (λ (b : AnalysisAnswer). b.number) e) ∙ z in
    ((analyse_accepts c).0 quiet, e ∙ sym (sized_fine c (sym (first_fine (analyse_checks c) quiet))))

pub run_accepts : (c : Chain) → Silent (run_refusal c) ↔ (Accepted c × ((i : ℕ) → i < c.n → Enough c i))
run_accepts c =
    Iff.trans (silent_as (run_parts c), silent_as (sym (run_parts c)))
    (Iff.trans (or_silents (analyse_refusal c) (capacity_check c)) (Iff.and (analyse_accepts c) (capacity_silent c)))

-- what code was answered that asked whether a chain may run
module _ {a : AnalysisAnswer} (c : Chain) (e : a ≡ run_answer c) where
  pub run_said : refused a.number a.place ≡ run_refusal c
  unfolding run_answer
  run_said = sized_said (run_refusal c) c e

  pub run_quiet : a.number ≡ 0 → Silent (run_refusal c)
  run_quiet z = silent_as run_said z

module _ (c : Chain) (a : Accepted c) where
  pub size_fits : (i : ℕ) → i < c.n → SizeFits (size_of c i)
  unfolding size_by
  size_fits i l =
      let row = a.chain.rows i l in
      record {
        x = (a.rates i l).0;
        y = (a.rates i l).1;
        minimum = minimum_most row;
        by = naming_most row;
        capacity = capacity_most row;
        margin = margin_fits 1000000 _ _ (capacity_most row) (le_trans (minimum_most row) (omega arith));
      }

  pub cycle_fits : cycle_of c ≤ limit
  cycle_fits = last c.n refl
    where
      last : (k : ℕ) → k ≡ c.n → y_of c k ≤ limit
      last zero e = absurd (omega (arith, a.chain.count.0))
      last (suc k) e = (a.rates k (omega arith)).1

  pub busy_fits : busy_of c ≤ limit
  busy_fits = le_trans a.load cycle_fits
