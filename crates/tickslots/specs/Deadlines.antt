-- The slots of a chain past n are not read by a deadline (01, Firing: "the slots past n are neither read nor changed").
--   deadline_alike           chains that differ in slots past n only have the same deadlines
--   index_alike              and 13 is said of both or of neither
--   question_alike           so a deadline question has the same answer, whatever node and index it asks of
use Rattle.std.specs.Prelude.{◌≡◌, Bool, ◌||◌, [], ◌∷◌}
use Rattle.std.proofs.Math.Path.{refl, sym, ap}
use Rattle.std.proofs.Common.{◌∙◌, arith}
use Rattle.std.proofs.Math.Bool.{true, false}
use Prim.Native.Nat.{ℕ, zero, suc, ◌-◌, ◌*◌, ◌≤◌, ◌<◌}
use Rattle.std.proofs.Math.Dec.{ltb, eqb}
use borrow.Author.Tests.{lt-ltb, ltb-true, ltb-false}
use Rattle.words.specs.declared.Queue.{Queue}
use Rattle.chain.specs.Refusals.{refused, test, first, or_else}
use Rattle.chain.specs.Record.{row_of}
use Rattle.chain.specs.declared.Chain.{Chain}
use Rattle.sizing.specs.Checks.{limit, run_refusal}
use Rattle.slots.specs.Chains.{AlikeChains}
use Rattle.slots.proofs.ChainsLaws.{run_alike}
use Rattle.deadline.specs.Deadline.{earlier, deadline, index_check}
use Rattle.dates.specs.Question.{answered_due, refused_with, answered_refused, deadline_refusal, deadline_answer}
use Rattle.dates.proofs.QuestionLaws.{deadline_parts, deadline_accepts}

-- of no node of the chain 11 is all that a question adds to the checks of a run
no_node : (c : Chain) (i k : ℕ) → c.n < i → deadline_refusal c i k ≡ or_else (run_refusal c) (refused 11 i)
unfolding first or_else
no_node c i k l = deadline_parts c i k ∙ ap (λ (b : Bool). or_else (run_refusal c) (first (test 11 i (b || eqb k 0) ∷ index_check c i k ∷ []))) (lt-ltb _ _ l)

module _ {c d : Chain} (a : AlikeChains c d) where
  -- the deadline of each node's k-th firing
  pub deadline_alike : (i k : ℕ) → i ≤ c.n → deadline c i k ≡ deadline d i k
  unfolding deadline
  deadline_alike zero k l = ap (λ (y : ℕ). (k - 1) * y) a.period
  deadline_alike (suc i) k l = deadline_alike i (earlier (row_of c i) k) (omega arith) ∙ ap (λ (q : Queue). deadline d i (earlier q k)) (a.rows i l)

  -- 13 of it
  pub index_alike : (i k : ℕ) → i ≤ c.n → index_check c i k ≡ index_check d i k
  unfolding index_check
  index_alike zero k l = refl
  index_alike (suc i) k l =
      ap (or_else (test 13 (suc i) (ltb limit k))) (index_alike i (earlier (row_of c i) k) (omega arith) ∙ ap (λ (q : Queue). index_check d i (earlier q k)) (a.rows i l))

  -- a deadline question: of a node of the chain by the two laws above, and of any other 11 is said before either is asked
  pub question_alike : (i k : ℕ) → deadline_answer c i k ≡ deadline_answer d i k
  unfolding deadline_answer
  question_alike i k = by (ltb c.n i) refl
    where
      by : (b : Bool) → ltb c.n i ≡ b → answered_due (deadline_refusal c i k) (deadline c i k) ≡ answered_due (deadline_refusal d i k) (deadline d i k)
      by false e =
          let l : i ≤ c.n = ltb-false _ _ e in
          let alike : deadline_refusal c i k ≡ deadline_refusal d i k = deadline_parts c i k
          ∙ (λ t. or_else (run_alike a t) (first (test 11 i (ltb (a.n t) i || eqb k 0) ∷ index_alike i k l t ∷ []))) ∙ sym (deadline_parts d i k) in
          λ t. answered_due (alike t) (deadline_alike i k l t)
      by true e =
          let l : c.n < i = ltb-true _ _ e in
          let alike : deadline_refusal c i k ≡ deadline_refusal d i k = no_node c i k l ∙ (λ t. or_else (run_alike a t) (refused 11 i)) ∙ sym (no_node d i k (omega (arith, a.n))) in
          sym (answered_refused (deadline_refusal c i k) _ (λ z. omega (arith, ((deadline_accepts c i k).0 z).1.0.0)))
          ∙ (λ t. refused_with (alike t).number (alike t).place)
          ∙ answered_refused (deadline_refusal d i k) _ (λ z. omega (arith, a.n, ((deadline_accepts d i k).0 z).1.0.0))
