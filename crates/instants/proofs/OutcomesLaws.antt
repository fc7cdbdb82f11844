-- Laws of specs/Outcomes.antt that rest on a definition which an edit of must-fail/ changes.
-- The three ways in which a tick ends (01, Firing), of a state that passes 17.
--   lacking_found, dated_of_law  where 13 speaks there is such a node, and where it is silent there is none
--   lacking_once, _dated       13 has one place, and none where each has its deadline
--   tick_three                 what holds of the three ways in which a tick ends holds of it: the source overflows; 13; the work of the node chosen
use Rattle.std.specs.Prelude.{◌≡◌, refl, Bool, true, false, cond, ◌&&◌, ℕ, zero, suc, eqb}
use Rattle.std.proofs.Common.{sym, ap, ◌∙◌, arith, eqb-true}
use Rattle.std.proofs.Math.Path.{subst}
use Rattle.std.proofs.Math.Bool.{not}
use Rattle.std.proofs.lemmas.Bool.{eqb-false}
use Rattle.chain.specs.Refusals.{Silent, Only, only_test, only_tab}
use Rattle.chain.specs.Refusal.{Refusal}
use Rattle.chain.specs.declared.Chain.{Chain}
use Rattle.state.specs.Fired.{fired}
use Rattle.state.specs.Checks.{over}
use Rattle.state.specs.declared.Run.{Run}
use Rattle.deadline.specs.Deadline.{index_check}
use Rattle.instants.specs.Steps.{clean, overflowed, undated, onward, next, lacking_test, lacking, begun, chosen, worked, finished, tick}
use Rattle.instants.proofs.KeptLaws.{tick_begun}
use Rattle.instants.specs.Filled.{Running}
use Rattle.instants.proofs.FilledLaws.{running_filled, fired_running}
use Rattle.instants.specs.Lacking.{FirstLacking}
use Rattle.instants.proofs.LackingLaws.{within_is, lacking_exact, lacking_silent}
use Rattle.instants.specs.declared.Ticked.{Ticked}
use Rattle.instants.specs.Source.{Due, Full, Fits, SourceOnce}
use Rattle.instants.proofs.SourceLaws.{source_three, once_fires, once_rests}
use Rattle.instants.specs.Outcomes.{Dated}

module _ (c : Chain) (u : Run) where
  lacking_only : Only 13 (lacking c u)
  unfolding lacking
  lacking_only = only_tab 13 (λ j. lacking_test c u (suc j)) (λ j. only_test 13 (suc j) (over c u (suc j) && not (eqb (index_check c (suc j) (next u (suc j))).number 0))) c.n

  -- 13 speaks of the lowest node that lacks its deadline
  pub lacking_found : (Silent (lacking c u) → ⊥) → FirstLacking c u (lacking c u).place
  lacking_found n = let e : (lacking c u).number ≡ 13 = lacking_only n in (lacking_exact c u (lacking c u).place).0 (λ k. record { number = e k; place = (lacking c u).place })

  -- there is one such node only
  pub lacking_once : (i j : ℕ) → FirstLacking c u i → FirstLacking c u j → i ≡ j
  lacking_once i j f g = ap (λ (x : Refusal). x.place) (sym ((lacking_exact c u i).1 f) ∙ (lacking_exact c u j).1 g)

  -- and none where each has its deadline
  pub lacking_dated : (i : ℕ) → FirstLacking c u i → Dated c u → ⊥
  lacking_dated zero f d = omega (arith, f.some)
  lacking_dated (suc j) f d = omega (arith, f.past.passes, d j f.node f.over f.past.at f.past.node)

  pub dated_of_law : Silent (lacking c u) → Dated c u
  dated_of_law z j l o = (within_is c u (suc j)).0 ((lacking_silent c u).0 z j l o)

module _ {c : Chain} {s : Run} (r : Running c s) where
  -- the three ways in which a tick ends
  pub tick_three : (P : Ticked → Type 0) → (Due c s → Full c s → P (overflowed s s.clock 0))
      → ((u : Run) (i : ℕ) → (Due c s → Fits c s) → SourceOnce c s u → FirstLacking c u i → P (undated s s.clock i))
      → ((u : Run) → (Due c s → Fits c s) → SourceOnce c s u → Running c u → Dated c u → P (finished c (worked u (chosen c u)))) → P (tick c s)
  unfolding begun onward
  tick_three P spills lacks works = subst P (sym (tick_begun c s))
      (source_three (running_filled r) (λ x. P (onward (onward x dates) work)) spills
      (λ d f. by (fired c s 0) (λ z. f) (once_fires (running_filled r) d) (fired_running r 0 tt (λ l. f)) (eqb (lacking c (fired c s 0)).number 0) refl)
      (λ n. by s (λ d. absurd (n d)) (once_rests (running_filled r) n) r (eqb (lacking c s).number 0) refl))
    where
      work : Run → Ticked
      work u = finished c (worked u (chosen c u))

      dates : Run → Ticked
      dates u = cond (eqb (lacking c u).number 0) (clean u) (undated s s.clock (lacking c u).place)

      by : (u : Run) → (Due c s → Fits c s) → SourceOnce c s u → Running c u → (b : Bool) → eqb (lacking c u).number 0 ≡ b
          → P (onward (cond b (clean u) (undated s s.clock (lacking c u).place)) work)
      by u f o k true e = works u f o k (dated_of_law c u (eqb-true _ _ e))
      by u f o k false e = lacks u (lacking c u).place f o (lacking_found c u (eqb-false _ _ e))
