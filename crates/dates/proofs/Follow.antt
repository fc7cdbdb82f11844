-- The way of an index down to the source, as the code takes it: at the source, at an index that passes the limit, and from one node to the next.
use Rattle.std.specs.Prelude.{◌≡◌, List, ℕ, zero, suc, ◌+◌, ◌-◌, ◌*◌, ◌/◌, ◌≤◌, ◌<◌}
use Rattle.std.proofs.Common.{refl, sym, ap, ◌∙◌, subst, arith, lt-ltb, le-ltb, mul-le-mul}
use Rattle.chain.specs.Refusals.{fine, refused, or_else, Silent}
use Rattle.chain.specs.Record.{row_of}
use Rattle.chain.specs.Refusal.{Refusal}
use Rattle.chain.specs.declared.Chain.{Chain}
use Rattle.sizing.specs.Sizes.{capacity_most}
use Rattle.sizing.specs.Checks.{limit}
use Rattle.sizing.specs.Plan.{capacity_in, period_in}
use Rattle.state.specs.declared.Run.{Run}
use Rattle.flow.specs.Flow.{produce_in, consume_in}
use Rattle.deadline.specs.Deadline.{earlier, deadline, index_check}
use Rattle.dates.specs.Question.{never}
use Rattle.dates.specs.Dues.{Step, Shown, Dues, FollowedGives, PassingGives}

-- 13 and the deadline a node down, and 13 at an index that passes and at the source
module _ (c : Chain) where
  check_next : (j k : ℕ) → 0 < j → k ≤ limit → index_check c j k ≡ index_check c (j - 1) (earlier (row_of c (j - 1)) k)
  unfolding index_check or_else
  check_next zero k n l = absurd (omega arith)
  check_next (suc j) k n l = let e : suc j - 1 ≡ j = omega arith in rw e (simp (le-ltb limit k l))

  due_next : (j k : ℕ) → 0 < j → deadline c j k ≡ deadline c (j - 1) (earlier (row_of c (j - 1)) k)
  unfolding deadline
  due_next zero k n = absurd (omega arith)
  due_next (suc j) k n = let e : suc j - 1 ≡ j = omega arith in rw e

  check_passing : (j k : ℕ) → limit < k → refused 13 j ≡ index_check c j k
  unfolding index_check or_else
  check_passing zero k l = simp (lt-ltb limit k l)
  check_passing (suc j) k l = simp (lt-ltb limit k l)

  check_source : (k : ℕ) → k ≤ limit → fine ≡ index_check c 0 k
  unfolding index_check
  check_source k l = simp (le-ltb limit k l)

  due_source : (k : ℕ) → deadline c 0 k ≡ (k - 1) * c.period
  unfolding deadline
  due_source k = refl

module _ {l f : List ℕ} {i k : ℕ} (d : Dues l f i k) (w : k ≤ limit) where
  module _ (z : i ≡ 0) where
    source_low : (k - 1) * period_in l < never
    source_low =
        let index : k - 1 ≤ 4294967294 = omega arith in
        let period : period_in l ≤ 1000000 = rw d.shown.plans.period d.sound.period.1 in
        omega (arith, mul-le-mul index period)

    pub source_gives : {t : ℕ} → t ≡ (k - 1) * period_in l → FollowedGives l f i k t
    source_gives e = record {
      had = λ {c} x _. (rw z (check_source c k w), rw (z, due_source c k, ← x.plans.period) e);
      late = λ x q. absurd (omega (arith, q, e, source_low));
    }

    pub source_place : PassingGives l f i k 0
    source_place = record { place = λ {c} x. rw z (ap (λ (r : Refusal). r.place) (check_source c k w)) }

  module _ (n : 0 < i) where
    -- every chain that is shown has the queue before the node
    below : {c : Chain} {s : Run} → Shown l f c s → i - 1 < c.n
    below x = omega (arith, d.node, d.shown.shows.many, x.shows.many, n)

    pub step_range : Step (produce_in f (i - 1)) (consume_in f (i - 1)) (capacity_in l (i - 1)) k
    step_range =
        let h = below d.shown in
        let row = d.sound.rows (i - 1) h in
        record {
          produce = omega (arith, d.shown.shows.puts (i - 1) h, row.produce.0);
          consume = omega (arith, d.shown.shows.takes (i - 1) h, row.consume.1);
          capacity = omega (arith, d.shown.plans.capacities (i - 1) h, capacity_most row);
          index = (d.index, w);
        }

    module _ {m : ℕ} (e : m ≡ ((k - 1) * consume_in f (i - 1) + capacity_in l (i - 1)) / produce_in f (i - 1) + 1) where
      -- the index as the code computes it is the one before
      index_is : {c : Chain} {s : Run} → Shown l f c s → earlier (row_of c (i - 1)) k ≡ m
      unfolding earlier
      index_is x = let h = below x in rw (e, x.shows.takes _ h, x.plans.capacities _ h, x.shows.puts _ h)

      check_down : {c : Chain} {s : Run} → Shown l f c s → index_check c (i - 1) m ≡ index_check c i k
      check_down {c} x = sym (check_next c i k n w ∙ ap (index_check c (i - 1)) (index_is x))

      due_down : {c : Chain} {s : Run} → Shown l f c s → deadline c (i - 1) m ≡ deadline c i k
      due_down {c} x = sym (due_next c i k n ∙ ap (deadline c (i - 1)) (index_is x))

      pub passing_gives : limit < m → FollowedGives l f i k never
      passing_gives p = record {
        had = λ x q. absurd (q refl);
        late = λ {c} x q. subst (λ (r : Refusal). Silent r → ⊥) (check_passing c (i - 1) m p ∙ check_down x) (λ h. omega (arith, h));
      }

      pub passing_place : limit < m → PassingGives l f i k (i - 1)
      passing_place p = record { place = λ {c} x. ap (λ (r : Refusal). r.place) (check_passing c (i - 1) m p ∙ check_down x) }

      pub next_gives : {r : ℕ} → FollowedGives l f (i - 1) m r → FollowedGives l f i k r
      next_gives g = record {
        had = λ x q. let y = g.had x q in (y.0 ∙ check_down x, y.1 ∙ due_down x);
        late = λ x q. subst (λ (r : Refusal). Silent r → ⊥) (check_down x) (g.late x q);
      }

      pub next_place : {r : ℕ} → PassingGives l f (i - 1) m r → PassingGives l f i k r
      next_place g = record { place = λ x. g.place x ∙ ap (λ (r : Refusal). r.place) (check_down x) }
