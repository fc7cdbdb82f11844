-- Laws of specs/Long.antt that rest on a definition which an edit of must-fail/ changes.
-- What the search for the first count that passes the limit knows on its way.
--   passing_none, _more      at the start, and one node further
--   passing_over, _past      9 speaks at the first count that passes, and is silent where none does
--   passing_refuses, _passes, _last
--                            what the check of the count at hand says of it, and of the run where it refuses or is the last
use Rattle.std.specs.Prelude.{◌≡◌, refl, Bool, true, false, ℕ, suc, ◌+◌, ◌*◌, ◌≤◌, ◌<◌, ltb}
use Rattle.std.proofs.Math.Path.{sym, ap}
use Rattle.std.proofs.Common.{◌∙◌, arith, ltb-true, ltb-false}
use Rattle.std.proofs.Math.Numerals.{add-one}
use Rattle.words.specs.Table.{tab, below_next}
use Rattle.chain.specs.Refusal.{Refusal}
use Rattle.chain.specs.Refusals.{refused, fine, test, first_fine}
use Rattle.chain.specs.Said.{refusal, speaks}
use Rattle.chain.specs.Record.{row_of}
use Rattle.chain.specs.declared.Chain.{Chain}
use Rattle.chain.specs.declared.reasons.Refused.{Refused}
use Rattle.sizing.specs.Sizes.{start}
use Rattle.events.specs.Counts.{fires}
use Rattle.schedule.specs.Counts.{F}
use Rattle.immediate.specs.Checks.{most, length_test, length_check}
use Rattle.immediate.proofs.ChecksLaws.{length_exact, length_silent}
use Rattle.immediate.specs.Long.{Passing}

pub passing_none : (c : Chain) (k : ℕ) → Passing c k k 0
unfolding F
passing_none c k = record { reach = omega arith; is = refl; under = λ j l. absurd (omega arith) }

module _ {c : Chain} {k f i : ℕ} (x : Passing c k f i) where
  so_far : f ≤ most → (j : ℕ) → j < i + 1 → F c k j ≤ most
  so_far l = below_next i (omega (arith, x.is)) x.under

  pub passing_more : i < c.n → f ≤ most → {g : ℕ} → g ≡ fires (row_of c i).threshold (row_of c i).consume (start (row_of c i) + (row_of c i).produce * f) → Passing c k g (i + 1)
  unfolding F
  passing_more l m e = record {
    reach = omega arith;
    is = rw add-one (e ∙ ap (λ (z : ℕ). fires (row_of c i).threshold (row_of c i).consume (start (row_of c i) + (row_of c i).produce * z)) x.is);
    under = so_far m;
  }

  pub passing_over : most < f → refused 9 i ≡ length_check c k
  passing_over l = sym ((length_exact c k i).1 (record { node = x.reach; above = omega (arith, x.is); before = x.under }))

  pub passing_past : i ≡ c.n → f ≤ most → fine ≡ length_check c k
  unfolding length_check
  passing_past e l = sym (first_fine (tab (suc c.n) (length_test c k)) ((length_silent c k).1 (λ j h. so_far l j (omega arith))))

  pub passing_refuses : (e : Refused) → refusal e ≡ test 9 i (ltb most f) → refusal e ≡ length_check c k
  passing_refuses e = by (ltb most f) refl
    where
      by : (b : Bool) → ltb most f ≡ b → refusal e ≡ test 9 i b → refusal e ≡ length_check c k
      by true q h = h ∙ passing_over (ltb-true _ _ q)
      by false q h = absurd (speaks e (ap (λ (r : Refusal). r.number) h))

  pub passing_passes : fine ≡ test 9 i (ltb most f) → f ≤ most
  passing_passes = by (ltb most f) refl
    where
      by : (b : Bool) → ltb most f ≡ b → fine ≡ test 9 i b → f ≤ most
      by true q h = let n = ap (λ (r : Refusal). r.number) h in absurd (omega (arith, n))
      by false q h = ltb-false _ _ q

  pub passing_last : c.n ≤ i → test 9 c.n (ltb most f) ≡ length_check c k
  passing_last h = by (ltb most f) refl
    where
      by : (b : Bool) → ltb most f ≡ b → test 9 c.n b ≡ length_check c k
      by true q = ap (refused 9) (omega (arith, h, x.reach)) ∙ passing_over (ltb-true _ _ q)
      by false q = passing_past (omega (arith, h, x.reach)) (ltb-false _ _ q)
