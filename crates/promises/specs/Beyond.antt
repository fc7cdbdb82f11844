-- What is shown beyond the demands, of what the public calls answer.
--   c, h, j, i, k, T         a chain, a list of nodes fired in this order, a queue, a node, source firings, ticks (Demand3)
--   feed_working e B         Feed with the execution time e and the capacity B
--   load_below_one_overflows, overflow_for_c, larger_clean
--                            a chain whose load is below 1 and which overflows (P8 of the scope), what C is told of that, and that with a larger queue it does not
--   firings c T              the nodes that fired in the deadline run of T ticks, in order
--   run_fires, run_state     manual firing accepts each of them, and after them counts and contents are the run's
--   run_counted, run_balance, run_naming
--                            so demand 3 holds of deadline runs
--   run_overflow             an overflow is of the source's production, into queue 0
--   carried_on               a run of a+b ticks is a run of a ticks, carried on for b
--   thirteen                 13 is the number of the runs that end for want of a deadline
--   filled, reached          where nodes fire at once, a producer that has fired the naming count has filled its queue to exactly the minimum
--   any_order, run_any_order permitted orders of equally many source firings that leave only the source to fire end in one state, the immediate run's
--   feed, feed_line          the factory chain 0, whose queue has the minimum 10, by 4 firings of the source
--   three, three_short       of Feed no smaller naming count would do: an accepted list with 3 firings of the source, in which the queue never holds 10
--   six, six_full            nor a smaller minimum: an accepted list in which nodes fire at once, after which the queue holds 10
--   permeate, permeate_line  the factory chain 1, whose queue 1 has the minimum 6, by 3 firings of its producer
--   two, two_full            the naming count is a bound: an accepted list with 2 firings of that producer, after which the queue holds 6
--   slow, slow_cycle         an accepted chain with a cycle longer than any immediate run
use Rattle.std.specs.Prelude.{◌≡◌, refl, ◌↔◌, List, [], ◌∷◌, ℕ, suc, ◌+◌, ◌*◌, ◌/◌, ◌≤◌, ◌<◌}
use Rattle.std.proofs.Common.{sym, ap, subst, ◌∙◌, arith}
use Rattle.ardenquill.specs.Chains.{row_of, Sound, queue, made, factory_answer}
use Rattle.ardenquill.specs.Analyses.{start, analyse_answer, Accepted}
use Rattle.ardenquill.specs.Runs.{count_at, held_at, fresh_run}
use Rattle.ardenquill.specs.Histories as histories
use Rattle.ardenquill.specs.Histories.{nodes, times, after, at_some}
use Rattle.ardenquill.specs.Immediate as immediate
use Rattle.ardenquill.specs.Immediate.{schedule, immediate_answer}
use Rattle.ardenquill.specs.Ticks.{number_of, kind_of, onward, ticks, instants, deadline_run_answer, ran_as, run_is_ticks, ticks_more, trace, resting, run_traced, run_never_spills, run_may}
use Rattle.ardenquill.specs.Flat.{flat}
use Rattle.ardenquill.specs.Records.{Chain, Run, Outcome, Clean, Overflowed, NoDeadline, Ticked, TickAnswer}
use Rattle.promises.specs.Outcomes.{Cleanly, OverflowedAt, overflowed_is}
use Rattle.promises.specs.Replay.{p_of, c_of, line, replay_answer, Fires, Sometime, LowAt, Low, AtOnce, Runs, fires_is, fires_state, Accepts}
use Rattle.promises.specs.Laws.{minimum_is, by_is, accepted, permits, state_is, moment, prompts, Each, each_at, Firings, firing_at}
use Rattle.promises.specs.ByTicks.{DeadlineRuns, answer_is}
use Rattle.promises.specs.Demand2.{immediate_fires, immediate_state, immediate_rule, immediate_source, immediate_ends}
use Rattle.promises.specs.Demand3 as demand
use Rattle.promises.specs.Demand3.{nearest_at_once}

-- Feed with another execution time, and with a capacity
abbrev pub feed_working : ℕ → ℕ → Chain
feed_working e B = made 10 (queue 4 7 3 B ∷ []) (e ∷ [])

-- "Taking load below 1 as proof that no queue overflows (P8)" is an error: this chain is accepted, "load 28 of 30, yet overflow at tick 40, queue 0, with source 4,
-- sink 3, held 7"
pub load_below_one_overflows : let a = analyse_answer (feed_working 7 0) in
    let r = deadline_run_answer (feed_working 7 0) 41 in
    ((a.number ≡ 0) × ((a.analysis.busy ≡ 28) × (a.analysis.cycle ≡ 30)))
    × (((r.number ≡ 0) × OverflowedAt r.outcome 40 0) × ((count_at r.run 0 ≡ 4) × ((count_at r.run 1 ≡ 3) × (held_at r.run 0 ≡ 7))))
unfolding analyse_answer deadline_run_answer
load_below_one_overflows = ((refl, (refl, refl)), ((refl, (refl, refl)), (refl, (refl, refl))))

-- as C is answered it: kind 1, tick 40, at 0, beside the state
pub overflow_for_c : let r = flat (deadline_run_answer (feed_working 7 0) 41) in
    ((r.number ≡ 0) × (r.place ≡ 0)) × (((r.kind ≡ 1) × ((r.tick ≡ 40) × (r.at ≡ 0))) × ((count_at r.run 0 ≡ 4) × ((count_at r.run 1 ≡ 3) × (held_at r.run 0 ≡ 7))))
unfolding deadline_run_answer
overflow_for_c = ((refl, refl), ((refl, (refl, refl)), (refl, (refl, refl))))

-- "With B=12 it is clean to tick 90"
pub larger_clean : let r = deadline_run_answer (feed_working 7 12) 90 in (r.number ≡ 0) × Cleanly r.outcome
unfolding deadline_run_answer
larger_clean = (refl, (refl, refl))

-- the nodes that fired in a deadline run, in order
abbrev pub firings : Chain → ℕ → List ℕ
firings c T = nodes (trace c T (fresh_run c))

-- a deadline run that is not refused
module _ (c : Chain) (T : ℕ) (ran : DeadlineRuns c T) where
  -- its firings and its state
  traced : Fires c (firings c T) × (after c (fresh_run c) (firings c T) ≡ resting (deadline_run_answer c T).run)
  traced =
      let a : Accepted c = (run_may c T ran).0.0 in
      let t = run_traced a T (run_may c T ran).1 in
      ((fires_is c (firings c T)).1 (a, t.0), t.1 ∙ ap (λ (r : TickAnswer). resting r.run) (sym (answer_is c T ran)))

  -- manual firing accepts each of them
  pub run_fires : Fires c (firings c T)
  run_fires = traced.0

  -- and after them counts and contents are the run's
  pub run_state : (replay_answer c (firings c T)).run ≡ resting (deadline_run_answer c T).run
  run_state = fires_state c (firings c T) run_fires ∙ traced.1

  -- a count is how often the node fired
  pub run_counted : (i : ℕ) → i ≤ c.n → count_at (deadline_run_answer c T).run i ≡ times i (firings c T)
  run_counted i l = ap (λ (s : Run). count_at s i) (sym run_state) ∙ demand.counted c (firings c T) run_fires i l

  -- "each queue holds what its producer's firings put in less what its consumer's took out"
  pub run_balance : (j : ℕ) → j < c.n → start (row_of c j) + p_of c j * times j (firings c T) ≡ held_at (deadline_run_answer c T).run j + c_of c j * times (suc j) (firings c T)
  run_balance j l = subst (λ (s : Run). start (row_of c j) + p_of c j * times j (firings c T) ≡ held_at s j + c_of c j * times (suc j) (firings c T)) run_state
      (demand.balance c (firings c T) run_fires j l)

  -- "in no permitted order can a producer fire as often as 01 names for its queue unless that queue has held at least the minimum"
  pub run_naming : (j : ℕ) → j < c.n → (line c j).by ≤ count_at (deadline_run_answer c T).run j → Sometime c (firings c T) (λ s. (line c j).minimum ≤ held_at s j)
  run_naming j l often = demand.naming c (firings c T) run_fires j l (omega (arith, run_counted j (omega arith)))

  -- "overflowed at (tick, queue)" is always at queue 0: no firing that has worked its execution time is stopped by a full queue
  pub run_overflow : (t q : ℕ) → OverflowedAt (deadline_run_answer c T).outcome t q → q ≡ 0
  run_overflow t q h =
      run_never_spills (run_may c T ran).0.1 (run_may c T ran).0.0 T t q (ap (λ (a : TickAnswer). a.outcome) (sym (answer_is c T ran)) ∙ (overflowed_is (deadline_run_answer c T).outcome t q).0 h)

-- a run of a+b ticks is a run of a ticks carried on for b
pub carried_on : (c : Chain) (a b : ℕ) → DeadlineRuns c (a + b) → deadline_run_answer c (a + b) ≡ ran_as (onward (instants c a (fresh_run c)) (ticks c b))
carried_on c a b ran =
    let k : Accepted c = (run_may c (a + b) ran).0.0 in
    answer_is c (a + b) ran
    ∙ ap ran_as (run_is_ticks k (a + b) ∙ ticks_more c a b (fresh_run c) ∙ ap (λ (x : Ticked). onward x (ticks c b)) (sym (run_is_ticks k a)))

-- 13 is the number of exactly the outcomes that are neither clean nor an overflow
pub thirteen : (o : Outcome) → (number_of o ≡ 13) ↔ (kind_of o ≡ 2)
thirteen Clean = (λ e. absurd (omega arith), λ e. absurd (omega arith))
thirteen (Overflowed t q) = (λ e. absurd (omega arith), λ e. absurd (omega arith))
thirteen (NoDeadline t i) = (λ e. refl, λ e. refl)

module _ (c : Chain) (h : List ℕ) (ok : Fires c h) where
  -- a producer of an order in which nodes fire at once that has fired the naming count has filled its queue to exactly the minimum
  pub filled : AtOnce c h → (j : ℕ) → j < c.n → (line c j).by ≤ times j h → Sometime c h (λ s. held_at s j ≡ (line c j).minimum)
  filled low j l often =
      let a : Accepted c = accepted c h ok in
      at_some (λ g k e m. rw (moment c h ok g k e, minimum_is c a j l) m) (histories.reached c a h (permits c h ok) (prompts c h ok low) j l (rw (by_is c a j l) at often))

-- whatever the order: equally many source firings that leave no other node over threshold lead to one state
pub any_order : (c : Chain) (g h : List ℕ) → Fires c g → Fires c h → times 0 g ≡ times 0 h → Low c (replay_answer c g).run → Low c (replay_answer c h).run
    → (replay_answer c g).run ≡ (replay_answer c h).run
any_order c g h ok ok' e low low' =
    let s : Sound c = (accepted c g ok).chain in
    state_is c g ok
    ∙ immediate.any_order s g (permits c g ok) (λ j z l. rw (state_is c g ok) at (low j l))
    ∙ ap (λ (m : ℕ). after c (fresh_run c) (schedule c m)) e
    ∙ sym (immediate.any_order s h (permits c h ok') (λ j z l. rw (state_is c h ok') at (low' j l)))
    ∙ sym (state_is c h ok')

module _ (c : Chain) (k : ℕ) (ran : Runs c k) where
  -- so every permitted order of k source firings that ends so leads to the immediate run's state
  pub run_any_order : (h : List ℕ) → Fires c h → times 0 h ≡ k → Low c (replay_answer c h).run → (replay_answer c h).run ≡ (immediate_answer c k).run
  run_any_order h ok e low =
      any_order c h (schedule c k) ok (immediate_fires c k ran) (e ∙ sym (immediate_source c k ran)) low (rw (← immediate_state c k ran) (immediate_ends c k ran))
      ∙ sym (immediate_state c k ran)

  -- in which a queue whose producer has fired its naming count has held exactly the minimum
  pub reached : (j : ℕ) → j < c.n → (line c j).by ≤ count_at (immediate_answer c k).run j → Sometime c (schedule c k) (λ s. held_at s j ≡ (line c j).minimum)
  reached j l often =
      let fires = immediate_fires c k ran in
      filled c (schedule c k) fires (nearest_at_once c (schedule c k) (immediate_rule c k ran)) j l
      (omega (arith, ap (λ (s : Run). count_at s j) (immediate_state c k ran), demand.counted c (schedule c k) fires j (omega arith)))

-- the factory chain 0
abbrev pub feed : Chain
feed = (factory_answer 0).chain

-- what analyse answers of its queue
pub feed_line : ((line feed 0).minimum ≡ 10) × ((line feed 0).by ≡ 4)
unfolding factory_answer analyse_answer
feed_line = (refl, refl)

-- three firings of the source
abbrev pub three : List ℕ
three = 0 ∷ 0 ∷ 1 ∷ 0 ∷ []

-- less than 10 is held after g
abbrev Below : List ℕ → Type 0
Below g = held_at (replay_answer feed g).run 0 < 10

-- at each moment of them
three_below : Each Below three
unfolding factory_answer replay_answer Each
three_below = (omega arith, (omega arith, (omega arith, (omega arith, omega arith))))

-- manual firing accepts them, and at no moment the queue has held its minimum
pub three_short : (Fires feed three × (times 0 three ≡ 3)) × (Sometime feed three (λ s. (line feed 0).minimum ≤ held_at s 0) → ⊥)
unfolding factory_answer replay_answer times
three_short = ((refl, refl), λ m. omega (arith, m.holds, feed_line.0, each_at Below m.before m.later (subst (Each Below) m.parts three_below)))

-- each firing of the source, then the sink until it is below threshold, up to the fourth
abbrev pub six : List ℕ
six = 0 ∷ 0 ∷ 1 ∷ 0 ∷ 1 ∷ 0 ∷ []

-- the node that N_i feeds is below threshold after g
abbrev LowAfter : List ℕ → ℕ → Type 0
LowAfter g = LowAt feed (replay_answer feed g).run

-- of each of them
six_low : Firings LowAfter six
unfolding factory_answer replay_answer Firings
six_low = (λ l. omega arith, (λ l. omega arith, (λ l. omega arith, (λ l. omega arith, (λ l. omega arith, (λ l. omega arith, tt))))))

-- manual firing accepts them, each node fires at once, and then the queue holds exactly 10
pub six_full : (Fires feed six × AtOnce feed six) × (held_at (replay_answer feed six).run 0 ≡ 10)
unfolding factory_answer replay_answer
six_full = ((refl, λ g k i e. firing_at LowAfter g k i (subst (Firings LowAfter) e six_low)), refl)

-- the factory chain 1
abbrev pub permeate : Chain
permeate = (factory_answer 1).chain

-- what analyse answers of its queue 1
pub permeate_line : ((line permeate 1).minimum ≡ 6) × ((line permeate 1).by ≡ 3)
unfolding factory_answer analyse_answer
permeate_line = (refl, refl)

-- two firings of that queue's producer
abbrev pub two : List ℕ
two = 0 ∷ 0 ∷ 1 ∷ 0 ∷ 1 ∷ []

-- manual firing accepts them, and with one firing less than the naming count the queue holds its minimum
pub two_full : (Fires permeate two × (times 1 two ≡ 2)) × (held_at (replay_answer permeate two).run 1 ≡ 6)
unfolding factory_answer replay_answer times
two_full = ((refl, refl), refl)

-- a chain whose source's tokens come one by one, and are taken by 65521, and those of the node between by 65519
abbrev pub slow : Chain
slow = made 1 (queue 1 65521 65521 0 ∷ queue 1 65519 65519 0 ∷ []) (1 ∷ 1 ∷ [])

-- it is accepted, and its sink's cycle has more source firings than an immediate run may have: of its rate no two runs tell, and exact_rate does
pub slow_cycle : Accepts slow × (((line slow 1).x ≡ 1) × (1000000 < (line slow 1).y / slow.period))
unfolding analyse_answer
slow_cycle = (refl, (refl, omega arith))
