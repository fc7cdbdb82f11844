-- The answers of a tick and of a deadline run, as their code puts them together.
use mathlib.Core.Path.{◌≡◌, refl, sym, ap, ◌∙◌}
use mathlib.Core.List.{List}
use Prim.Native.Nat.{ℕ, ◌≤◌}
use lib.ListN.{replicate}
use Rattle.chain.specs.Faults.{Few}
use Rattle.std.proofs.Common.{Result, Ok, Err}
use Rattle.chain.specs.Refusals.{fine, or_else, Silent, silent_as, or_right}
use Rattle.chain.specs.Said.{refusal, speaks}
use Rattle.chain.specs.declared.reasons.Refused.{Refused}
use Rattle.chain.specs.declared.Chain.{Chain}
use Rattle.sizing.specs.Accepted.{Accepted}
use Rattle.sizing.proofs.AcceptedLaws.{run_accepts}
use Rattle.sizing.specs.Plan.{RunPlans}
use Rattle.state.specs.State.{empty_run, fresh_run}
use Rattle.state.specs.Checks.{state_check, planned_run}
use Rattle.state.specs.declared.Run.{Run}
use Rattle.flow.specs.Flow.{Shows}
use Rattle.flow.specs.Poured.{Showing}
use Rattle.instants.specs.Checks.{longest, length_check, clock_check, spent_check, outcome_of, tick_refusal, tick_answer, deadline_run_refusal, deadline_run_answer}
use Rattle.instants.specs.Steps.{onward, tick, ticks}
use Rattle.instants.specs.Runs.{onward_none}
use Rattle.instants.proofs.RunsLaws.{ticks_none, ticks_suc}
use Rattle.instants.specs.Refusals.{Ticking, ran_as, outcome_refused}
use Rattle.instants.proofs.RefusalsLaws.{tick_parts, tick_ran, ticking_is, deadline_run_parts, deadline_run_accepts, deadline_run_ran}
use Rattle.instants.specs.Filled.{Filled}
use Rattle.instants.proofs.FilledLaws.{running_filled}
use Rattle.instants.proofs.FreshLaws.{run_is_ticks}
use Rattle.instants.specs.Answered.{ticked_said}
use Rattle.instants.specs.declared.Ticked.{Ticked}
use Rattle.steps.specs.declared.Halt.{Halt}
use Rattle.ticks.specs.Left.{left_by, left_is}
use Rattle.ticks.specs.Runs.{Lends, RanGives, lent_once, lends_once, lent_fresh, lends_fresh}

-- what an error is answered with
pub error_told : (e : Refused) (s : Run) (t : Ticked) → outcome_of (refusal e) s t ≡ ticked_said s (Err e)
error_told e s t = sym (outcome_refused (refusal e) s t (speaks e))

pub ruleset answering = (tick_parts, deadline_run_parts, error_told)

-- the number of queues of a chain that may run
pub few : {c : Chain} {p : List ℕ} {u : Unit} → RunPlans c p (Ok u) → Few c.n
few k = record { few = (planned_run k refl).chain.count.1 }

-- one tick is so many ticks
ticks_one : (c : Chain) (s : Run) → ticks c 1 s ≡ tick c s
ticks_one c s = ticks_suc c 0 s ∙ ap (onward (tick c s)) (λ i u. ticks_none c u i) ∙ onward_none (tick c s)

-- a tick
module _ (c : Chain) (s : Run) {p : List ℕ} {u : Unit} (k : RunPlans c p (Ok u)) (f : fine ≡ state_check c s) (g : fine ≡ or_else (clock_check s) (spent_check c s)) where
  accepts : Silent (tick_refusal c s)
  accepts = silent_as (or_right k.says refl (or_right f refl g) ∙ sym (tick_parts c s)) refl

  module _ {m : List ℕ} (v : Showing m c s) where
    ticking : Ticking c s
    ticking = (ticking_is c s).0 accepts

    filled : Filled c s
    filled = running_filled (record {
      chain = ticking.chain;
      whole = record { counts = v.typed.counts; held = v.typed.held; done = v.typed.done };
      state = ticking.state;
    })

    pub tick_lends : Lends p m s.done s.clock 1
    tick_lends = lends_once (planned_run k refl).plans v filled ticking.clock ticking.countable

    pub tick_answers : {h o : List ℕ} {r : Result ℕ Halt} → RanGives p m s.done s.clock 1 h o r → ticked_said s (Ok (left_by h o r)) ≡ tick_answer c s
    tick_answers t = ap ran_as (left_is (t.gives (lent_once (planned_run k refl).plans v filled ticking.clock ticking.countable)) ∙ ticks_one c s)
        ∙ sym (tick_ran c s accepts)

-- a deadline run
module _ (c : Chain) (T : ℕ) {p : List ℕ} {u : Unit} (k : RunPlans c p (Ok u)) (f : fine ≡ length_check T) where
  fine_run : Silent (deadline_run_refusal c T)
  fine_run = silent_as (or_right k.says refl f ∙ sym (deadline_run_parts c T)) refl

  short : T ≤ longest
  short = ((deadline_run_accepts c T).0 fine_run).1

  accepted : Accepted c
  accepted = ((run_accepts c).0 (silent_as k.says refl)).0

  module _ {l : List ℕ} (y : Shows l c (fresh_run c)) where
    pub run_lends : Lends p l (replicate 16 0) 0 T
    run_lends = lends_fresh (planned_run k refl).plans y accepted short

    pub run_answers : {h v : List ℕ} {r : Result ℕ Halt} → RanGives p l (replicate 16 0) 0 T h v r → ticked_said empty_run (Ok (left_by h v r)) ≡ deadline_run_answer c T
    run_answers t = ap ran_as (left_is (t.gives (lent_fresh (planned_run k refl).plans y accepted short)) ∙ sym (run_is_ticks accepted T)) ∙ sym (deadline_run_ran c T fine_run)
