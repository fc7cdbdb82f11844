-- Laws of specs/Checks.antt that rest on a definition which an edit of must-fail/ changes.
-- The immediate run (01, Firing): its checks and its answer.
--   short_silent, long_says    9 of one node: silent within the limit, and speaking past it
--   length_exact, _silent, _only
--                              9 speaks exactly under its condition, is silent exactly elsewhere, and has its own number
--   immediate_parts            the checks of a run, then 9
--   immediate_9, _earlier      when an immediate run is refused with each number
--   immediate_accepts          it is not refused exactly when the chain is accepted, its capacities are enough, and no count passes the limit
--   immediate_ran, _refused    the state that it gives
use Rattle.std.proofs.Math.Logic.Iff
use Rattle.std.specs.Prelude.{◌≡◌, refl, ◌↔◌, ◌≢◌, [], ◌∷◌, ℕ, suc, ◌≤◌, ◌<◌, ltb}
use Rattle.std.proofs.Common.{sym, ◌∙◌, arith, eq-eqb, ne_eqb}
use Rattle.std.proofs.Math.Path.{ap}
use Rattle.words.specs.Table.{tab}
use Rattle.chain.specs.Tests.{below_true, below_false}
use Rattle.chain.specs.Refusals.{refused, first, or_else, first_append, first_last, Silent, Silents, Numbered, or_silents, silent_as}
use Rattle.chain.proofs.RefusalsLaws.{exact_at}
use Rattle.chain.specs.Refusals.{Lowest, lowest_is, Only, only_test, only_tab, test_exact, test_silent, all_silent, said_earlier, numbered_append}
use Rattle.chain.specs.declared.Chain.{Chain}
use Rattle.sizing.specs.Checks.{Enough, run_checks, run_refusal, run_numbers}
use Rattle.sizing.proofs.ChecksLaws.{run_numbered}
use Rattle.sizing.specs.Accepted.{Accepted}
use Rattle.sizing.proofs.AcceptedLaws.{run_accepts}
use Rattle.state.specs.State.{empty_run, fresh_run, answered}
use Rattle.history.specs.History.{after}
use Rattle.schedule.specs.Counts.{F}
use Rattle.schedule.specs.Schedule.{schedule}
use Rattle.immediate.specs.Checks.{most, length_test, length_check, immediate_checks, immediate_numbers, immediate_refusal, immediate_answer, FirstTooLong}

module _ (c : Chain) (k : ℕ) where
  pub short_silent : (i : ℕ) → Silent (length_test c k i) ↔ (F c k i ≤ most)
  short_silent i = Iff.trans (test_silent 9 i (λ e. omega arith) _) (below_false most (F c k i))

  pub long_says : (i L : ℕ) → (length_test c k i ≡ refused 9 L) ↔ ((most < F c k i) × (L ≡ i))
  long_says i L = Iff.trans (test_exact 9 L i (λ e. omega arith) _) (Iff.and (below_true most (F c k i)) Iff.rfl)

  pub length_exact : (L : ℕ) → (length_check c k ≡ refused 9 L) ↔ FirstTooLong c k L
  unfolding length_check
  length_exact L = Iff.trans (lowest_is 9 L (λ e. omega arith) (length_test c k) (suc c.n)) (out, back)
    where
      out : Lowest (length_test c k) (suc c.n) 9 L → FirstTooLong c k L
      out f =
          let e = (long_says f.at L).0 f.says in
          rw e.1 (record { node = omega (arith, f.inside); above = e.0; before = λ j l. (short_silent j).0 (f.before j l) })

      back : FirstTooLong c k L → Lowest (length_test c k) (suc c.n) 9 L
      back f = record { at = L; inside = omega (arith, f.node); says = (long_says L L).1 (f.above, refl); before = λ j l. (short_silent j).1 (f.before j l) }

  pub length_silent : Silent (length_check c k) ↔ ((i : ℕ) → i ≤ c.n → F c k i ≤ most)
  unfolding length_check
  length_silent = Iff.trans (all_silent (length_test c k) (suc c.n)) (λ h i l. (short_silent i).0 (h i (omega arith)), λ h i l. (short_silent i).1 (h i (omega arith)))

  pub length_only : Only 9 (length_check c k)
  unfolding length_check
  length_only = only_tab 9 (length_test c k) (λ i. only_test 9 i (ltb most (F c k i))) (suc c.n)

  pub immediate_parts : immediate_refusal c k ≡ or_else (run_refusal c) (length_check c k)
  unfolding immediate_refusal run_refusal length_check first
  immediate_parts = first_append (run_checks c) (length_check c k ∷ []) ∙ ap (or_else (first (run_checks c))) (first_last (tab (suc c.n) (length_test c k)))

  -- the numbers of its checks, in order: each speaks with its own
  pub immediate_numbered : Numbered immediate_numbers (immediate_checks c k)
  unfolding Numbered
  immediate_numbered = numbered_append run_numbers (9 ∷ []) (run_checks c) (length_check c k ∷ []) (run_numbered c) (length_only, tt)

  pub immediate_9 : (L : ℕ) → (immediate_refusal c k ≡ refused 9 L) ↔ (Silents (run_checks c) × FirstTooLong c k L)
  unfolding immediate_refusal
  immediate_9 L = Iff.trans (exact_at immediate_numbers (immediate_checks c k) immediate_numbered tt 6 L (omega arith)) (Iff.and Iff.rfl (length_exact L))

  -- every other number is said exactly when it is said of every run
  pub immediate_earlier : (N L : ℕ) → N ≢ 0 → N ≢ 9 → (immediate_refusal c k ≡ refused N L) ↔ (run_refusal c ≡ refused N L)
  unfolding immediate_refusal run_refusal Numbered
  immediate_earlier N L some other = said_earlier N L some (run_checks c) (9 ∷ []) (length_check c k ∷ []) (length_only, tt) (λ e. other (sym e), tt)

  pub immediate_accepts : Silent (immediate_refusal c k) ↔ ((Accepted c × ((i : ℕ) → i < c.n → Enough c i)) × ((i : ℕ) → i ≤ c.n → F c k i ≤ most))
  immediate_accepts =
      Iff.trans (silent_as immediate_parts, silent_as (sym immediate_parts))
      (Iff.trans (or_silents (run_refusal c) (length_check c k)) (Iff.and (run_accepts c) length_silent))

  pub immediate_ran : Silent (immediate_refusal c k) → (immediate_answer c k).run ≡ after c (fresh_run c) (schedule c k)
  unfolding immediate_answer answered
  immediate_ran z = simp (eq-eqb _ _ z)

  pub immediate_refused : (Silent (immediate_refusal c k) → ⊥) → (immediate_answer c k).run ≡ empty_run
  unfolding immediate_answer answered
  immediate_refused n = simp (ne_eqb _ _ n)
