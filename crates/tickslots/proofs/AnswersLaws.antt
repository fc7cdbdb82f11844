-- Laws of specs/Answers.antt that rest on a definition which an edit of must-fail/ changes.
-- "In every run state the slots past n are neither read nor changed" (01, Firing), of a tick and of a deadline run.
--   past_n                   chains and states that differ in slots past n only have such answers of a tick
--   past_kept                each of which has its own slots past n as they were
--   whole_kept               and as many slots
--   same_ticked, tick_same, instants_same, tick_answer_same
--                            so from one state they have the same outcome and the same state
--   deadline_run_alike       and a deadline run has one answer
--   deadline_run_kept, _whole
--                            whose slots past n are 0, and which has all its slots
use Rattle.std.specs.Prelude.{◌≡◌, refl, Bool, true, false, cond, ℕ, eqb}
use Rattle.std.proofs.Math.Path.{sym, ap}
use Rattle.std.proofs.Common.{◌∙◌}
use Rattle.chain.specs.Refusal.{Refusal}
use Rattle.chain.specs.declared.Chain.{Chain}
use Rattle.state.specs.State.{empty_run, fresh_run, fresh_empty}
use Rattle.state.specs.declared.Run.{Run}
use Rattle.slots.specs.Chains.{AlikeChains}
use Rattle.slots.specs.Runs.{AlikeRuns, Whole}
use Rattle.instants.specs.Steps.{tick, instants}
use Rattle.instants.specs.Checks.{tick_refusal, deadline_run_refusal, outcome_of, tick_answer, deadline_run_answer}
use Rattle.instants.specs.declared.Outcome.{Outcome}
use Rattle.instants.specs.declared.Outcome.TheVariants.{Clean}
use Rattle.instants.specs.declared.Ticked.{Ticked}
use Rattle.tickslots.specs.Slots.{KeptSlots, AlikeTicked}
use Rattle.tickslots.proofs.SlotsLaws.{states_of, states_refl, runs_of, kept_refl, kept_whole, same_state}
use Rattle.tickslots.specs.Alike.{tick_refusal_alike, deadline_run_refusal_alike}
use Rattle.tickslots.proofs.AlikeLaws.{tick_alike, instants_alike}
use Rattle.tickslots.proofs.KeptLaws.{tick_kept, instants_kept}
use Rattle.tickslots.specs.Answers.{AlikeAnswers}

-- what is refused alike, and else leaves such states
answer_alike : {n : ℕ} {q r : Refusal} {s t : Run} {x y : Ticked} → q ≡ r → AlikeRuns n s t → AlikeTicked n x y → AlikeAnswers n (outcome_of q s x) (outcome_of r t y)
unfolding outcome_of
answer_alike {n} {q} {r} {s} {t} {x} {y} e h k = rw (← e) (record { number = refl; place = refl; outcome = outcome (eqb q.number 0); run = run (eqb q.number 0) })
  where
    outcome : (b : Bool) → ◌≡◌ {A = Outcome} (cond b x.outcome Clean) (cond b y.outcome Clean)
    outcome true = k.outcome
    outcome false = refl

    run : (b : Bool) → AlikeRuns n (cond b x.run s) (cond b y.run t)
    run true = runs_of k.state
    run false = h

-- what keeps slots, or gives the state back
answer_kept : {n : ℕ} (r : Refusal) (s : Run) (x : Ticked) → KeptSlots n s x.run → KeptSlots n s (outcome_of r s x).run
unfolding outcome_of
answer_kept {n} r s x k = by (eqb r.number 0)
  where
    by : (b : Bool) → KeptSlots n s (cond b x.run s)
    by true = k
    by false = kept_refl s

-- a tick of chains and states that differ in slots past n only: number, place and outcome are the same, and the states differ there only
pub past_n : {c d : Chain} → AlikeChains c d → {s t : Run} → AlikeRuns c.n s t → Whole s → Whole t → AlikeAnswers c.n (tick_answer c s) (tick_answer d t)
unfolding tick_answer
past_n a r w v = answer_alike (tick_refusal_alike a r) r (tick_alike a (states_of w v r))

-- a tick keeps the slots past n
pub past_kept : (c : Chain) (s : Run) → KeptSlots c.n s (tick_answer c s).run
unfolding tick_answer
past_kept c s = answer_kept (tick_refusal c s) s (tick c s) (tick_kept c s)

-- and the number of slots
pub whole_kept : (c : Chain) (s : Run) → Whole s → Whole (tick_answer c s).run
whole_kept c s w = kept_whole (past_kept c s) w

-- outcomes with states that differ in slots past n only, and have one state's there, are the same
pub same_ticked : {n : ℕ} {s : Run} {x y : Ticked} → KeptSlots n s x.run → KeptSlots n s y.run → AlikeTicked n x y → x ≡ y
same_ticked h k a = let e = same_state h k a.state in λ i. record { outcome = a.outcome i; run = e i }

-- chains that differ in slots past n only
module _ {c d : Chain} (a : AlikeChains c d) where
  -- one tick from one state
  pub tick_same : (s : Run) → tick c s ≡ tick d s
  tick_same s = same_ticked (tick_kept c s) (rw a.n (tick_kept d s)) (tick_alike a (states_refl s))

  -- its answer
  pub tick_answer_same : (s : Run) → tick_answer c s ≡ tick_answer d s
  unfolding tick_answer
  tick_answer_same s = let e = tick_refusal_alike a (runs_of (states_refl s)) in λ i. outcome_of (e i) s (tick_same s i)

  -- so many instants
  pub instants_same : (T : ℕ) (s : Run) → instants c T s ≡ instants d T s
  instants_same T s = same_ticked (instants_kept c T s) (rw a.n (instants_kept d T s)) (instants_alike a T (states_refl s))

  -- a deadline run
  pub deadline_run_alike : (T : ℕ) → deadline_run_answer c T ≡ deadline_run_answer d T
  unfolding deadline_run_answer
  deadline_run_alike T =
      let start : fresh_run c ≡ fresh_run d = sym (fresh_empty c) ∙ fresh_empty d in
      let ends : instants c T (fresh_run c) ≡ instants d T (fresh_run d) = instants_same T (fresh_run c) ∙ ap (instants d T) start in
      λ i. outcome_of (deadline_run_refusal_alike a T i) empty_run (ends i)

module _ (c : Chain) (T : ℕ) where
  -- the slots past n of a deadline run's state are those of an empty one
  pub deadline_run_kept : KeptSlots c.n empty_run (deadline_run_answer c T).run
  unfolding deadline_run_answer
  deadline_run_kept = answer_kept (deadline_run_refusal c T) empty_run (instants c T (fresh_run c)) (rw (← fresh_empty c) (instants_kept c T empty_run))

  -- and it has all its slots
  pub deadline_run_whole : Whole (deadline_run_answer c T).run
  deadline_run_whole = kept_whole deadline_run_kept (record { counts = refl; held = refl; done = refl })
