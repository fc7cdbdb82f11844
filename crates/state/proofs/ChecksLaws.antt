-- Laws of specs/Checks.antt that rest on a definition which an edit of must-fail/ changes.
-- The checks of a run state, 17, and of a manual firing, 9, 11 and 12 (01, Numbers a call may refuse with).
--   state_sums                 which looks at x through the sums alone
--   unlost, none_lost          and is the plain check where nothing was lost: of a queue, and of a state
--   over c s i, over_true      whether N_i may fire
--   queue_silent, -says, queues_exact, _silent, _only
--                              their laws
--   cramped_is, _room, _or     the test of 12 holds exactly where the production does not fit, and fails exactly where it does; one of them is so
--   state-, count-, over-, room_exact
--                              each check speaks exactly under its condition
--   state-, count-, over-, room_silent
--                              and is silent exactly elsewhere
--   state-, count-, over-, room_only
--                              and speaks with its own number
--   lent_run, state_lent, state_lent_with
--                              the state whose numbers are lent, which 17 is said of
use Rattle.std.proofs.Math.Logic.Iff
use Rattle.std.specs.Prelude.{◌≡◌, refl, Bool, true, false, ◌↔◌, ◌≢◌, ◌⊎◌, List, ℕ, zero, suc, ◌+◌, ◌*◌, ◌≤◌, ◌<◌, eqb, get_or, replicate}
use Rattle.std.proofs.Common.{ap, inl, inr, add-zero, arith, ne_eqb}
use Rattle.std.proofs.Math.Logic.{⊎_elim, by_cases}
use Rattle.std.proofs.Math.Decide.{dec_lt}
use Rattle.std.proofs.lemmas.Bool.{eqb-false}
use Rattle.words.specs.Table.{tab, tab_alike}
use Rattle.chain.specs.Tests.{below_true, below_false, upto_true, upto_false, equal_true, differ_true, differ_false, or_true, or_false, and_true, and_false, negated_true, negated_false}
use Rattle.chain.specs.Refusals.{refused, test, first, Silent, Lowest, lowest_is, Only, only_test, only_tab, test_exact, test_silent, all_silent}
use Rattle.chain.specs.Record.{row_of, work_of}
use Rattle.chain.specs.declared.Chain.{Chain}
use Rattle.words.specs.declared.Queue.{Queue}
use Rattle.sizing.specs.Sizes.{capacity_of}
use Rattle.sizing.specs.Checks.{limit}
use Rattle.state.specs.State.{zeros, count_at, held_at, done_at}
use Rattle.state.specs.Fired.{Over, Room, supplied, accounted}
use Rattle.state.specs.declared.Run.{Run}
use Rattle.state.specs.Checks.{broken_unless, broken, broken_with, state_check, spent, count_check, over, idle, over_check, cramped, Cramped}
use Rattle.state.specs.Checks.{room_check, queue_test, BrokenAt, SteadyAt, FirstBrokenAt, state_test_with, state_check_with, FirstBroken, StateSound, lent_run}

-- 17 of every queue of a state, over the two sides of each queue's balance
module _ (c : Chain) (s : Run) (left right : ℕ → ℕ) where
  pub queue_silent : (i : ℕ) → Silent ((queue_test c s left right) i) ↔ (SteadyAt c s left right) i
  queue_silent i = Iff.trans (test_silent 17 i (λ e. omega arith) _) (or_false (or_false (differ_false _ _) (below_false _ _)) (upto_false _ _))

  pub queue_says : (i L : ℕ) → ((queue_test c s left right) i ≡ refused 17 L) ↔ ((BrokenAt c s left right) i × (L ≡ i))
  queue_says i L = Iff.trans (test_exact 17 L i (λ e. omega arith) _) (Iff.and (or_true (or_true (differ_true _ _) (below_true _ _)) (upto_true _ _)) Iff.rfl)

  pub queues_exact : (L : ℕ) → (first (tab c.n (queue_test c s left right)) ≡ refused 17 L) ↔ (FirstBrokenAt c s left right) L
  queues_exact L = Iff.trans (lowest_is 17 L (λ e. omega arith) (queue_test c s left right) c.n) (out, back)
    where
      out : Lowest (queue_test c s left right) c.n 17 L → (FirstBrokenAt c s left right) L
      out f =
          let e = (queue_says f.at L).0 f.says in
          rw e.1 (record { queue = f.inside; broken = e.0; before = λ j l. (queue_silent j).0 (f.before j l) })

      back : (FirstBrokenAt c s left right) L → Lowest (queue_test c s left right) c.n 17 L
      back f = record { at = L; inside = f.queue; says = (queue_says L L).1 (f.broken, refl); before = λ j l. (queue_silent j).1 (f.before j l) }

  pub queues_silent : Silent (first (tab c.n (queue_test c s left right))) ↔ ((i : ℕ) → i < c.n → (SteadyAt c s left right) i)
  queues_silent = Iff.trans (all_silent (queue_test c s left right) c.n) (λ h i l. (queue_silent i).0 (h i l), λ h i l. (queue_silent i).1 (h i l))

  pub queues_only : Only 17 (first (tab c.n (queue_test c s left right)))
  queues_only = only_tab 17 (queue_test c s left right) (λ i. only_test 17 i (broken_unless (eqb (left i) (right i)) (row_of c i) (work_of c i) (held_at s i) (done_at s i))) c.n

-- it looks at x through the sums alone
pub state_sums : (c : Chain) (s : Run) (x : List ℕ) (right : ℕ → ℕ) → ((i : ℕ) → i < c.n → accounted c s i + get_or x i 0 ≡ right i)
    → state_check_with c s x ≡ first (tab c.n (queue_test c s (supplied c s) right))
unfolding state_check_with
state_sums c s x right e = ap first (tab_alike c.n (state_test_with c s x) (queue_test c s (supplied c s) right) (λ i h. ap
    (λ (y : ℕ). test 17 i (broken_unless (eqb (supplied c s i) y) (row_of c i) (work_of c i) (held_at s i) (done_at s i))) (e i h)))

-- a queue that lost nothing has one of 17's reasons as the plain check has it
pub unlost : (q : Queue) (e a b x d : ℕ) → broken_with q e a b x 0 d ≡ broken q e a b x d
unfolding broken broken_with
unlost q e a b x d = rw (add-zero (x + q.consume * b))

-- where nothing was lost it is the plain check
pub none_lost : (c : Chain) (s : Run) → state_check_with c s (replicate 16 0) ≡ state_check c s
unfolding state_check broken
none_lost c s = state_sums c s (replicate 16 0) (accounted c s) (λ i h. rw (zeros 16 i) (add-zero (accounted c s i)))

module _ (c : Chain) (s : Run) where
  pub state_exact : (L : ℕ) → (state_check c s ≡ refused 17 L) ↔ FirstBroken c s L
  unfolding state_check broken
  state_exact = queues_exact c s (supplied c s) (accounted c s)

  pub state_silent : Silent (state_check c s) ↔ StateSound c s
  unfolding state_check broken
  state_silent = queues_silent c s (supplied c s) (accounted c s)

  pub state_only : Only 17 (state_check c s)
  unfolding state_check broken
  state_only = queues_only c s (supplied c s) (accounted c s)

  pub over_true : (i : ℕ) → (over c s i ≡ true) ↔ Over c s i
  over_true zero = (λ e. tt, λ e. refl)
  over_true (suc j) = upto_true _ _

  pub count_exact : (i L : ℕ) → (count_check c s i ≡ refused 9 L) ↔ (((i ≤ c.n) × (count_at s i ≡ limit)) × (L ≡ i))
  count_exact i L = Iff.trans (test_exact 9 L i (λ e. omega arith) _) (Iff.and (and_true (upto_true _ _) (equal_true _ _)) Iff.rfl)

  pub over_exact : (i L : ℕ) → (over_check c s i ≡ refused 11 L) ↔ (((c.n < i) ⊎ (Over c s i → ⊥)) × (L ≡ i))
  over_exact i L = Iff.trans (test_exact 11 L i (λ e. omega arith) _) (Iff.and (or_true (below_true _ _) (negated_true (over_true i))) Iff.rfl)

  pub cramped_is : (i : ℕ) → (cramped c s i ≡ true) ↔ Cramped c s i
  unfolding cramped
  cramped_is i = and_true (below_true _ _) (below_true _ _)

  pub room_exact : (i L : ℕ) → (room_check c s i ≡ refused 12 L) ↔ (Cramped c s i × (L ≡ i))
  room_exact i L = Iff.trans (test_exact 12 L i (λ e. omega arith) _) (Iff.and (cramped_is i) Iff.rfl)

  pub count_silent : (i : ℕ) → i ≤ c.n → Silent (count_check c s i) ↔ (count_at s i ≢ limit)
  count_silent i l = Iff.trans (test_silent 9 i (λ e. omega arith) _) (Iff.trans (and_false (upto_false _ _) (unequal _ _)) (⊎_elim (λ (f : c.n < i). absurd (omega arith)) (λ n. n), inr))
    where
      unequal : (a b : ℕ) → (eqb a b ≡ false) ↔ (a ≢ b)
      unequal a b = (λ e. eqb-false a b e, λ n. ne_eqb a b n)

  pub over_silent : (i : ℕ) → Silent (over_check c s i) ↔ ((i ≤ c.n) × Over c s i)
  over_silent i = Iff.trans (test_silent 11 i (λ e. omega arith) _) (or_false (below_false _ _) (negated_false (over_true i)))

  pub cramped_room : (i : ℕ) → (cramped c s i ≡ false) ↔ Room c s i
  unfolding cramped
  cramped_room i = Iff.trans (and_false (below_false _ _) (below_false _ _)) (out, back)
    where
      out : (c.n ≤ i) ⊎ (held_at s i + (row_of c i).produce ≤ capacity_of (row_of c i)) → Room c s i
      out h l = ⊎_elim (λ m. absurd (omega arith)) (λ f. f) h

      back : Room c s i → (c.n ≤ i) ⊎ (held_at s i + (row_of c i).produce ≤ capacity_of (row_of c i))
      back r = by_cases (dec_lt i c.n) (λ l. inr (r l)) (λ n. inl (omega arith))

  pub cramped_or : (i : ℕ) → Cramped c s i ⊎ Room c s i
  cramped_or i = by (cramped c s i) refl
    where
      by : (b : Bool) → cramped c s i ≡ b → Cramped c s i ⊎ Room c s i
      by true e = inl ((cramped_is i).0 e)
      by false e = inr ((cramped_room i).0 e)

  pub room_silent : (i : ℕ) → Silent (room_check c s i) ↔ Room c s i
  room_silent i = Iff.trans (test_silent 12 i (λ e. omega arith) _) (cramped_room i)

  pub count_only : (i : ℕ) → Only 9 (count_check c s i)
  count_only i = only_test 9 i (spent c s i)

  pub over_only : (i : ℕ) → Only 11 (over_check c s i)
  over_only i = only_test 11 i (idle c s i)

  pub room_only : (i : ℕ) → Only 12 (room_check c s i)
  room_only i = only_test 12 i (cramped c s i)

-- 17 does not look at the clock
pub state_lent : (c : Chain) (s : Run) → state_check c (lent_run s.counts s.held s.done) ≡ state_check c s
unfolding state_check
state_lent c s = refl

-- nor where tokens were lost
pub state_lent_with : (c : Chain) (s : Run) (x : List ℕ) → state_check_with c (lent_run s.counts s.held s.done) x ≡ state_check_with c s x
unfolding state_check_with
state_lent_with c s x = refl
