-- What the code of a question and of a next firing makes of the way down.
use Rattle.std.specs.Prelude.{◌≡◌, Result, List, ℕ, ◌+◌}
use Rattle.std.proofs.Common.{Ok, Err, refl, sym, ap, ap₂, ◌∙◌, arith}
use Rattle.std.proofs.Math.Logic.{by_cases}
use Rattle.std.proofs.Math.Decide.{ℕ_discrete}
use Rattle.chain.specs.Refusals.{fine, refused, or_else, silent_as}
use Rattle.chain.specs.Refusal.{Refusal}
use Rattle.chain.specs.Said.{said}
use Rattle.chain.specs.declared.Chain.{Chain}
use Rattle.chain.specs.declared.reasons.Reason.TheVariants.{DeadlineTooLate}
use Rattle.chain.specs.declared.reasons.Refused.{Refused}
use Rattle.chain.proofs.Passing.{passing}
use Rattle.sizing.specs.Plan.{RunPlans}
use Rattle.state.specs.State.{fresh_run}
use Rattle.state.specs.Checks.{planned_run}
use Rattle.state.specs.declared.Run.{Run}
use Rattle.flow.specs.Flow.{count_in, Shows}
use Rattle.deadline.specs.Deadline.{deadline, index_check}
use Rattle.deadline.proofs.DeadlineLaws.{index_only}
use Rattle.dates.specs.Question.{due_said, answered_due, said_answered, never, dated_of, dated_never, ask_check, deadline_refusal, deadline_answer}
use Rattle.dates.specs.Dues.{Shown, Dues, DueGives, FollowedGives, PassingGives, Dated, DatedGives}
use Rattle.dates.proofs.QuestionLaws.{ask_silent, deadline_parts}

-- 13 as the last check of a list: nothing stands behind it
index_last : (c : Chain) (i k : ℕ) (o : Result ℕ Refused) → said o ≡ index_check c i k → or_else (index_check c i k) fine ≡ index_check c i k
index_last c i k (Ok d) e = grind (arith, passing, e)
index_last c i k (Err x) e = grind (arith, passing, e)

-- a question that asks for a node and a firing of a chain that may run
module _ {c : Chain} {i k : ℕ} {l : List ℕ} {u : Unit {0}} (p : RunPlans c l (Ok u)) (a : fine ≡ ask_check c i k) where
  pub asked_dues : {f : List ℕ} → Shows f c (fresh_run c) → Dues l f i k
  asked_dues s =
      let asked = (ask_silent c i k).0 (silent_as a refl) in
      record {
        chain = c;
        run = fresh_run c;
        shown = record { plans = p.plans; shows = s };
        sound = (planned_run p refl).chain;
        node = asked.0;
        index = asked.1;
      }

  pub asked_answers : {f : List ℕ} → Shows f c (fresh_run c) → (o : Result ℕ Refused) → DueGives l f i k o → due_said o ≡ deadline_answer c i k
  unfolding deadline_answer
  asked_answers {f} s o g =
      let says = g.says (record { plans = p.plans; shows = s }) in
      let last = index_last c i k o says in
      let whole : said o ≡ deadline_refusal c i k = grind (arith, passing, deadline_parts, p.says) in
      said_answered (deadline c i k) o (g.due (record { plans = p.plans; shows = s })) ∙ ap (λ (r : Refusal). answered_due r (deadline c i k)) whole

-- the way down in one word, and 13's place, as a result
module _ {l f : List ℕ} {i k r : ℕ} (g : FollowedGives l f i k r) where
  pub due_late : r ≡ never → {j : ℕ} → PassingGives l f i k j → DueGives l f i k (Err (record { reason = DeadlineTooLate; place = j }))
  due_late q p = record { says = λ {c} x. ap₂ refused (sym (index_only c i k (g.late x q))) (p.place x); due = λ x. tt }

  pub due_had : (r ≡ never → ⊥) → DueGives l f i k (Ok r)
  due_had n = record { says = λ x. (g.had x n).0; due = λ x. (g.had x n).1 }

  -- the next firing's deadline: never where 13 speaks
  dated_is : {c : Chain} {s : Run} → Shown l f c s → r ≡ dated_of c i k
  unfolding dated_of
  dated_is {c} x = by_cases (ℕ_discrete r never)
      (λ q. q ∙ sym (dated_never c i k (g.late x q)))
      (λ n. let y = g.had x n in rw (← y.0) y.1)

pub dated_gives : {l f : List ℕ} {i : ℕ} → Dated l f i → {r : ℕ} → FollowedGives l f i (count_in f i + 1) r → DatedGives l f i r
dated_gives {i = i} d g = record {
  due = λ {c} x. dated_is g x ∙ ap (dated_of c i) (omega (arith, x.shows.counts i (omega (arith, d.node, d.shown.shows.few))));
}
