-- Laws of specs/Spill.antt that rest on a definition which an edit of must-fail/ changes.
-- An overflow at a finish never happens (01, Firing): from a state that passes 17, of a chain that passes 8, only the source can overflow.
--   room_after_choice          so the node that works has room for what it produces
--   finish_fits                and what a tick of work finishes is clean
use Rattle.std.specs.Prelude.{◌≡◌, refl, Bool, false, cond, ℕ, zero, suc, ◌+◌, ◌<◌}
use Rattle.std.proofs.Common.{sym, ap, subst, ◌∙◌, le_refl, zero-lt-suc, arith}
use Rattle.std.proofs.Math.Logic.{by_cases}
use Rattle.std.proofs.Math.Decide.{ℕ_discrete}
use Rattle.chain.specs.Refusals.{test_silent}
use Rattle.chain.specs.Record.{work_of}
use Rattle.chain.specs.declared.Chain.{Chain}
use Rattle.sizing.specs.Checks.{Enough}
use Rattle.sizing.specs.Accepted.{Accepted}
use Rattle.state.specs.State.{done_at}
use Rattle.state.specs.Fired.{Room}
use Rattle.state.specs.Checks.{cramped, StateSound}
use Rattle.state.proofs.ChecksLaws.{over_true, room_silent}
use Rattle.state.specs.declared.Run.{Run}
use Rattle.instants.proofs.BestLaws.{chosen_best}
use Rattle.instants.proofs.KeptLaws.{finish_cases, chosen_low, worked_held, works_on, works_ends}
use Rattle.instants.specs.Filled.{Running, cramped_as}
use Rattle.instants.proofs.FilledLaws.{running_filled}
use Rattle.instants.specs.Steps.{chosen, worked, finish, finished}
use Rattle.instants.specs.declared.Outcome.TheVariants.{Clean}
use Rattle.instants.specs.declared.Ticked.{Ticked}
use Rattle.instants.specs.Spill.{room_before}

-- the node that works has room for what it produces
pub room_after_choice : {c : Chain} (u : Run) → Accepted c → ((j : ℕ) → j < c.n → Enough c j) → StateSound c u → 0 < chosen c u → Room c u (chosen c u)
room_after_choice {c} u a enough k some l =
    room_before u (chosen c u) a.chain l (enough (chosen c u) l) (k (chosen c u) l).0.0
    (λ o. ((chosen_best c u).first (suc (chosen c u)) (zero-lt-suc _) l ((over_true c u (suc (chosen c u))).1 o)).tie (le_refl _))

-- and a production that has it is not too large after the work
cramped_worked : (c : Chain) (u : Run) (i : ℕ) → Room c u i → cramped c (worked u i) i ≡ false
cramped_worked c u i r = cramped_as c u (worked u i) i (worked_held u i) ∙ (test_silent 12 i (λ e. omega arith) (cramped c u i)).0 ((room_silent c u i).1 r)

-- what a tick of work finishes is clean
module _ {c : Chain} {u : Run} (r : Running c u) (enough : (j : ℕ) → j < c.n → Enough c j) where
  fits : (j : ℕ) → chosen c u ≡ suc j → Room c u (suc j)
  fits j e = subst (Room c u) e (room_after_choice u r.chain enough r.state (omega (arith, e)))

  finish_clean : (j : ℕ) → chosen c u ≡ suc j → (finish c (worked u (suc j)) (suc j)).outcome ≡ Clean
  finish_clean j e = finish_cases c (worked u (suc j)) j (λ x. x.outcome ≡ Clean)
      (λ full. absurd (let q : ◌≡◌ {A = ℕ} 1 0 = ap (λ (b : Bool). cond b 1 0) (sym full ∙ cramped_worked c u (suc j) (fits j e)) in omega arith))
      (λ room. refl)

  pub finish_fits : (finished c (worked u (chosen c u))).outcome ≡ Clean
  finish_fits = at (chosen c u) refl
    where
      at : (i : ℕ) → chosen c u ≡ i → (finished c (worked u i)).outcome ≡ Clean
      at zero e = ap (λ (x : Ticked). x.outcome) (works_on (running_filled r) 0 (λ j l z. absurd (omega arith)))
      at (suc j) e =
          let l : j < c.n = omega (arith, chosen_low c u, e) in
          by_cases (ℕ_discrete (done_at u j + 1) (work_of c j))
          (λ all. ap (λ (x : Ticked). x.outcome) (works_ends (running_filled r) j l all) ∙ finish_clean j e)
          (λ ne.
          let less : done_at u j + 1 < work_of c j = omega (arith, ne, (r.state j l).1) in
          ap (λ (x : Ticked). x.outcome) (works_on (running_filled r) (suc j) (λ m f z. let q : j ≡ m = omega arith in subst (λ (y : ℕ). done_at u y + 1 < work_of c y) q less)))
