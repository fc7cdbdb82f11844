-- Laws of specs/Lacking.antt that rest on a definition which an edit of must-fail/ changes.
-- 13 of a tick and a run: when it is said (01, Firing).
--   within_is, past_is         its deadline can be had exactly where none does, and can't exactly where one does
--   lack_says, lack_silent     13 of one node: speaking where it is over threshold and its deadline can't be had, and silent elsewhere
--   lacking_exact, _silent     13 speaks exactly under its condition, and is silent exactly elsewhere
use Rattle.std.proofs.Math.Logic.Iff
use Rattle.std.specs.Prelude.{◌≡◌, refl, ◌↔◌, Bool, true, false, ◌&&◌, not, ℕ, zero, suc, ◌<◌, eqb}
use Rattle.std.proofs.Common.{sym, ◌∙◌, true≢false, arith}
use Rattle.std.proofs.Math.Logic.{by_cases}
use Rattle.std.proofs.Math.Decide.{ℕ_discrete}
use Rattle.chain.specs.Tests.{equal_true, and_true, negated_true, negated_false}
use Rattle.chain.specs.Refusals.{refused, Silent, Lowest, lowest_is, all_silent, test_exact, test_silent}
use Rattle.chain.specs.declared.Chain.{Chain}
use Rattle.state.specs.Fired.{Over}
use Rattle.state.specs.Checks.{over}
use Rattle.state.proofs.ChecksLaws.{over_true}
use Rattle.state.specs.declared.Run.{Run}
use Rattle.deadline.specs.Deadline.{index_check}
use Rattle.deadline.proofs.DeadlineLaws.{index_exact, index_silent, index_only}
use Rattle.instants.specs.Steps.{next, lacking_test, lacking}
use Rattle.instants.specs.Lacking.{Within, Past, FirstLacking}

module _ (c : Chain) (s : Run) where
  -- a deadline can be had exactly where no index on its way passes the limit
  pub within_is : (i : ℕ) → Silent (index_check c i (next s i)) ↔ Within c s i
  within_is i = index_silent c i (next s i)

  -- and can't be had exactly where one does
  pub past_is : (i : ℕ) → (Silent (index_check c i (next s i)) → ⊥) ↔ Past c s i
  past_is i = (out, λ p z. omega (arith, p.passes, (within_is i).0 z p.at p.node))
    where
      out : (Silent (index_check c i (next s i)) → ⊥) → Past c s i
      out n =
          let e : (index_check c i (next s i)).number ≡ 13 = index_only c i (next s i) n in
          let f = (index_exact c i (next s i) (index_check c i (next s i)).place).0 (λ k. record { number = e k; place = (index_check c i (next s i)).place }) in
          record { at = (index_check c i (next s i)).place; node = f.node; passes = f.passes }

  -- 13 of one node
  pub lack_says : (i L : ℕ) → (lacking_test c s i ≡ refused 13 L) ↔ ((Over c s i × (Silent (index_check c i (next s i)) → ⊥)) × (L ≡ i))
  lack_says i L = Iff.trans (test_exact 13 L i (λ e. omega arith) _) (Iff.and (and_true (over_true c s i) (negated_true (equal_true _ _))) Iff.rfl)

  pub lack_silent : (i : ℕ) → Silent (lacking_test c s i) ↔ (Over c s i → Silent (index_check c i (next s i)))
  lack_silent i = Iff.trans (test_silent 13 i (λ e. omega arith) _) (out, back)
    where
      out : (over c s i && not (eqb (index_check c i (next s i)).number 0)) ≡ false → Over c s i → Silent (index_check c i (next s i))
      out e o = by_cases (ℕ_discrete (index_check c i (next s i)).number 0) (λ z. z)
          (λ n. absurd (true≢false (sym ((and_true (over_true c s i) (negated_true (equal_true _ _))).1 (o, n)) ∙ e)))

      by : (b : Bool) → over c s i ≡ b → (Over c s i → Silent (index_check c i (next s i))) → (b && not (eqb (index_check c i (next s i)).number 0)) ≡ false
      by true e h = (negated_false (equal_true _ _)).1 (h ((over_true c s i).0 e))
      by false e h = refl

      back : (Over c s i → Silent (index_check c i (next s i))) → (over c s i && not (eqb (index_check c i (next s i)).number 0)) ≡ false
      back h = by (over c s i) refl h

  -- the nodes before the one found, and the node that is the first, which the list counts from 0
  before_found : {m : ℕ} (j : ℕ) → 0 < j → j < suc m → ((k : ℕ) → k < m → Silent (lacking_test c s (suc k))) → Over c s j → Within c s j
  before_found zero p l h o = absurd (omega arith)
  before_found (suc k) p l h o = (within_is (suc k)).0 ((lack_silent (suc k)).0 (h k (omega arith)) o)

  found : (m : ℕ) → FirstLacking c s m → Lowest (λ j. lacking_test c s (suc j)) c.n 13 m
  found zero g = absurd (omega (arith, g.some))
  found (suc m) g = record {
    at = m;
    inside = g.node;
    says = (lack_says (suc m) (suc m)).1 ((g.over, (past_is (suc m)).1 g.past), refl);
    before = λ j l. (lack_silent (suc j)).1 (λ o. (within_is (suc j)).1 (g.before (suc j) (omega arith) (omega arith) o));
  }

  pub lacking_exact : (L : ℕ) → (lacking c s ≡ refused 13 L) ↔ FirstLacking c s L
  unfolding lacking
  lacking_exact L = Iff.trans (lowest_is 13 L (λ e. omega arith) (λ j. lacking_test c s (suc j)) c.n) (out, back)
    where
      out : Lowest (λ j. lacking_test c s (suc j)) c.n 13 L → FirstLacking c s L
      out f =
          let e = (lack_says (suc f.at) L).0 f.says in
          rw e.1 (record {
            some = omega arith;
            node = f.inside;
            over = e.0.0;
            past = (past_is (suc f.at)).0 e.0.1;
            before = λ j p l. before_found j p l f.before;
          })

      back : FirstLacking c s L → Lowest (λ j. lacking_test c s (suc j)) c.n 13 L
      back f = found L f

  pub lacking_silent : Silent (lacking c s) ↔ ((j : ℕ) → j < c.n → Over c s (suc j) → Silent (index_check c (suc j) (next s (suc j))))
  unfolding lacking
  lacking_silent = Iff.trans (all_silent (λ j. lacking_test c s (suc j)) c.n) (λ h j l. (lack_silent (suc j)).0 (h j l), λ h j l. (lack_silent (suc j)).1 (h j l))
