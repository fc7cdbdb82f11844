-- Laws of specs/Schedule.antt that rest on a definition which an edit of must-fail/ changes.
-- The order of the immediate run (01, Firing), as a history that is computed.
--   burst_exact              its minus is exact
--   feed_schedule            the order of Feed's run of 4, computed
--   next_one, HasNext, next_some
--                            there is exactly one such node in every state
--   Bursts c i f, burst_runs each burst of N_i takes its count from N to N + 1 and settles the queues after it
--   rule, ends, source, reached, counts_are_F
--                            the schedule is by the rule, ends with no node but the source over threshold, and has k source firings; its
--                            state is one that firings lead to, with the counts F
--   follows_alike, unique    no other history by the rule does so
--   follows_prompt           by the rule no node fires while the node that it feeds is over threshold
--   next_firing, follows_permitted, permitted
--                            so manual firing accepts each of its firings in turn, the capacities being enough and the counts within the limit
--   any_order                any permitted order that ends so leads to the schedule's state
use Rattle.std.specs.Prelude.{◌≡◌, refl, ◌≢◌, List, [], ◌∷◌, ◌++◌, length}
use Rattle.std.proofs.Common.{sym, ap₂, subst, ◌∙◌, le_refl, le_trans, lt_of_not-le, zero-add}
use Rattle.std.proofs.Math.Path.{ap}
use Rattle.std.proofs.Math.Logic.{by_cases}
use Prim.Native.Nat.{ℕ, zero, suc, ◌+◌, ◌-◌, ◌≤◌, ◌<◌}
use Rattle.std.proofs.Math.Decide.{ℕ_discrete, dec_le}
use native.Mathlib.Omega.{arith}
use Rattle.chain.specs.Record.{row_of}
use Rattle.chain.specs.Sound.{Sound}
use Rattle.chain.specs.Factory.{factory_answer}
use Rattle.chain.specs.declared.Chain.{Chain}
use Rattle.sizing.specs.Sizes.{minimum_of, capacity_of}
use Rattle.sizing.specs.Checks.{limit, Enough}
use Rattle.sizing.proofs.ChecksLaws.{enough_capacity}
use Rattle.sizing.specs.Accepted.{Accepted}
use Rattle.state.specs.State.{count_at, held_at, fresh_run, fresh_count}
use Rattle.state.specs.Fired.{fired, over_enough}
use Rattle.state.proofs.FiredLaws.{counts_length, count_fired, count_other, held_output, held_input, held_other}
use Rattle.state.specs.Fire.{Firing}
use Rattle.state.proofs.FireLaws.{firing_is}
use Rattle.state.specs.declared.Run.{Run}
use Rattle.history.specs.History.{times, after, Permitted, Prompt, after_append, EachFiring, each_append}
use Rattle.history.proofs.QueuesLaws.{times_again}
use Rattle.history.proofs.Laws.{counted_from}
use Rattle.schedule.specs.Counts.{fed, F}
use Rattle.schedule.proofs.CountsLaws.{fed_mono}
use Rattle.schedule.specs.Reached.{Reached, Calm, reached_fresh, reached_fired, reached_slots, reached_done, reached_after, fresh_calm}
use Rattle.schedule.proofs.ReachedLaws.{calm_counts, counts, one_state, below_minimum}
use Rattle.schedule.specs.Schedule.{joined, burst, schedule, joined_last, Next, HasNext, Follows, Ran, Bursts, Ready, still_over, now_below, times_rest, Tight, fresh_tight}

-- P5's run of 4 source firings, computed: each firing of the source, then the sink until it is below threshold
pub feed_schedule : schedule (factory_answer 0).chain 4 ≡ 0 ∷ 0 ∷ 1 ∷ 0 ∷ 1 ∷ 0 ∷ 1 ∷ 1 ∷ []
unfolding schedule factory_answer
feed_schedule = refl

-- the exact counts do not fall, so their difference is exact
pub burst_exact : (c : Chain) (i N : ℕ) → fed c i N + (fed c i (suc N) - fed c i N) ≡ fed c i (suc N)
burst_exact c i N = omega (arith, fed_mono c i N (suc N) (omega arith))

-- no firing of the source, no firing
pub schedule_none : (c : Chain) → schedule c 0 ≡ []
unfolding schedule
schedule_none c = refl

-- one more firing of the source, with what it sets off
pub schedule_more : (c : Chain) (k : ℕ) → schedule c (suc k) ≡ schedule c k ++ burst c c.n 0 k
unfolding schedule
schedule_more c k = joined_last (burst c c.n 0) k 0 ∙ ap (λ (m : ℕ). joined (burst c c.n 0) k 0 ++ burst c c.n 0 m) (zero-add k)

-- of two nodes that may fire the one nearer the sink is first
not_after : (c : Chain) (s : Run) (i j : ℕ) → Next c s i → Next c s j → j ≤ i
not_after c s i zero a b = omega arith
not_after c s i (suc j) a b = by_cases (dec_le (suc j) i) (λ l. l) (λ f. absurd (omega (arith, a.nearest j (omega arith) b.node, b.over)))

-- so there is at most one such node
pub next_one : (c : Chain) (s : Run) (i j : ℕ) → Next c s i → Next c s j → i ≡ j
next_one c s i j a b = omega (arith, not_after c s i j a b, not_after c s j i b a)

-- from N_m down, where no node after N_m may fire
next_from : (c : Chain) (s : Run) (m : ℕ) → m ≤ c.n → Calm c s m → HasNext c s
next_from c s zero l calm = record { at = 0; next = record { node = l; over = tt; nearest = calm } }
next_from c s (suc m) l calm = by_cases (dec_le (row_of c m).threshold (held_at s m))
    (λ o. record { at = suc m; next = record { node = l; over = o; nearest = calm } })
    (λ f. next_from c s m (omega arith) (λ j a b. by_cases (ℕ_discrete m j) (λ e. rw (← e) (lt_of_not-le f)) (λ ne. calm j (omega arith) b)))

-- there is one in every state
pub next_some : (c : Chain) (s : Run) → HasNext c s
next_some c s = next_from c s c.n (le_refl c.n) (λ j a b. absurd (omega arith))

-- by the rule no node fires while the node that it feeds is over threshold
pub follows_prompt : (c : Chain) (s : Run) (h : List ℕ) → Follows c s h → Prompt c s h
unfolding EachFiring
follows_prompt c s [] f = tt
follows_prompt c s (i ∷ h) f = (f.0.nearest i (le_refl i), follows_prompt c (fired c s i) h f.1)

-- one such run after another
ran_more : (c : Chain) (s : Run) (i N M : ℕ) (g h : List ℕ) → Ran c s i N g → Ran c (after c s g) i M h → Ran c s i M (g ++ h)
ran_more c s i N M g h a b = record {
  follows = each_append c (Next c) s g h a.follows b.follows;
  reached = rw (after_append c s g h) b.reached;
  calm = rw (after_append c s g h) b.calm;
  same = rw (after_append c s g h) (λ j l. b.same j l ∙ a.same j l);
  ends = rw (after_append c s g h) b.ends;
}

-- M - N such runs, one after the other
joined_runs : (c : Chain) (i : ℕ) (f : ℕ → List ℕ) → Bursts c i f → (r N M : ℕ) → N + r ≡ M → (s : Run) → count_at s i ≡ N → Reached c s → Calm c s i
    → Ready c s i M → Ran c s i M (joined f r N)
unfolding joined after EachFiring
joined_runs c i f bursts zero N M e s at reached calm ready = record { follows = tt; reached = reached; calm = calm; same = λ j l. refl; ends = omega (arith, at, e) }
joined_runs c i f bursts (suc r) N M e s at reached calm ready =
    let one : Ran c s i (suc N) (f N) = bursts s N at reached calm (ready s reached (λ j l. refl) (omega (arith, at, e))) in
    ran_more c s i (suc N) M (f N) (joined f r (suc N)) one
    (joined_runs c i f bursts r (suc N) M (omega (arith, e)) (after c s (f N)) one.ends one.reached one.calm
    (λ t q same low. ready t q (λ j l. same j l ∙ one.same j l) low))

module _ (c : Chain) (k : Sound c) where
  -- N_(i+1) may fire until its count is the exact one
  next_ready : (s : Run) (i : ℕ) → i < c.n → Ready c s (suc i) (fed c i (count_at s i))
  next_ready s i l t q same low =
      still_over _ _ _ _ _ _ _ (k.rows i l).consume.0 (q.balance i l) (rw (same i (omega arith)) low)

  -- and then its queue is below threshold
  settled : (t : Run) (i : ℕ) → i < c.n → Reached c t → Calm c t (suc i) → count_at t (suc i) ≡ fed c i (count_at t i) → Calm c t i
  settled t i l q calm e j m lt = by_cases (ℕ_discrete i j)
      (λ same. rw (← same) (now_below _ _ _ _ _ _ _ (k.rows i l).consume.0 (q.balance i l) e))
      (λ ne. calm j (omega arith) lt)

  -- a burst is such a run: by what is left towards the sink
  pub burst_runs : (m i : ℕ) → i + m ≡ c.n → Bursts c i (burst c m i)
  unfolding burst after EachFiring
  burst_runs zero i e s N at reached calm over = record {
    follows = (record { node = omega arith; over = over; nearest = calm }, tt);
    reached = reached_fired k reached i (omega arith) over;
    calm = λ j l m. absurd (omega arith);
    same = λ j l. count_other c s i j (λ f. omega arith);
    ends = omega (arith, count_fired c s i (omega (arith, (reached_slots k reached).counts)), at);
  }
  burst_runs (suc m) i e s N at reached calm over =
      let l : i < c.n = omega arith in
      let t : Run = fired c s i in
      let once : count_at t i ≡ suc N = omega (arith, count_fired c s i (omega (arith, (reached_slots k reached).counts)), at) in
      let then : count_at t (suc i) ≡ fed c i N = count_other c s i (suc i) (λ f. omega arith) ∙ calm_counts k reached i calm i (le_refl i) l ∙ ap (fed c i) at in
      let quiet : Calm c t (suc i) = λ j a b. omega (arith, held_other c s i j (λ f. omega arith) (λ f. omega arith), calm j (omega arith) b) in
      let all : Ran c t (suc i) (fed c i (suc N)) (joined (burst c m (suc i)) (fed c i (suc N) - fed c i N) (fed c i N)) =
      joined_runs c (suc i) (burst c m (suc i)) (burst_runs m (suc i) (omega arith)) (fed c i (suc N) - fed c i N) (fed c i N) (fed c i (suc N)) (burst_exact c i N) t then
      (reached_fired k reached i (omega arith) over) quiet (rw (← once) (next_ready t i l)) in
      record {
        follows = (record { node = omega arith; over = over; nearest = calm }, all.follows);
        reached = all.reached;
        calm = settled _ i l all.reached all.calm (all.ends ∙ ap (fed c i) (sym (all.same i (omega arith) ∙ once)));
        same = λ j a. all.same j (omega arith) ∙ count_other c s i j (λ f. omega arith);
        ends = all.same i (omega arith) ∙ once;
      }

  -- the whole schedule is such a run of the source
  schedule_runs : (n : ℕ) → Ran c (fresh_run c) 0 n (schedule c n)
  unfolding schedule
  schedule_runs n =
      joined_runs c 0 (burst c c.n 0) (burst_runs c.n 0 (omega arith)) n 0 n (omega arith) (fresh_run c) (fresh_count c 0) (reached_fresh k) (fresh_calm k 0) (λ t q same low. tt)

module _ {c : Chain} (k : Sound c) (n : ℕ) where
  -- the schedule is by the rule
  pub rule : Follows c (fresh_run c) (schedule c n)
  rule = (schedule_runs c k n).follows

  -- it ends with no node but the source over threshold
  pub ends : Calm c (after c (fresh_run c) (schedule c n)) 0
  ends = (schedule_runs c k n).calm

  -- its end is a state that firings lead to
  pub reached : Reached c (after c (fresh_run c) (schedule c n))
  reached = (schedule_runs c k n).reached

  -- "exact counts": of each node
  pub counts_are_F : (j : ℕ) → j ≤ c.n → count_at (after c (fresh_run c) (schedule c n)) j ≡ F c n j
  counts_are_F j l = counts k reached ends j l ∙ ap (λ (m : ℕ). F c m j) (schedule_runs c k n).ends

  -- and it has so many firings of the source
  pub source : times 0 (schedule c n) ≡ n
  source = omega (arith, counted_from c (fresh_run c) (schedule c n) 0 (omega (arith, (reached_fresh k).wide)), fresh_count c 0, (schedule_runs c k n).ends)

-- where no node but the source is over threshold, a history by the rule goes on with the source
goes_on : (c : Chain) (s : Run) (j : ℕ) (h : List ℕ) → Calm c s 0 → Next c s j → 0 < times 0 (j ∷ h)
goes_on c s zero h calm next = omega (arith, times_again 0 0 h refl)
goes_on c s (suc j) h calm next = absurd (omega (arith, calm j (omega arith) next.node, next.over))

-- from one state, the rule leads in one way to the next state in which no node but the source is over threshold, and the next
pub follows_alike : (c : Chain) (s : Run) (g h : List ℕ) → Follows c s g → Follows c s h → Calm c (after c s g) 0 → Calm c (after c s h) 0 → times 0 g ≡ times 0 h → g ≡ h
unfolding after EachFiring times
follows_alike c s [] [] a b u v e = refl
follows_alike c s [] (j ∷ h) a b u v e = absurd (omega (arith, goes_on c s j h u b.0, e))
follows_alike c s (i ∷ g) [] a b u v e = absurd (omega (arith, goes_on c s i g v a.0, e))
follows_alike c s (i ∷ g) (j ∷ h) a b u v e =
    let same : i ≡ j = next_one c s i j a.0 b.0 in
    ap₂ ◌∷◌ same
    (follows_alike c (fired c s i) g h a.1 (subst (λ (x : ℕ). Follows c (fired c s x) h) (sym same) b.1)
    u (subst (λ (x : ℕ). Calm c (after c (fired c s x) h) 0) (sym same) v) (times_rest i j g h same e))

-- so the schedule is the only history by the rule that ends with no node but the source over threshold
pub unique : {c : Chain} → Sound c → (h : List ℕ) → Follows c (fresh_run c) h → Calm c (after c (fresh_run c) h) 0 → h ≡ schedule c (times 0 h)
unique {c} k h f u = follows_alike c (fresh_run c) h (schedule c (times 0 h)) f (rule k (times 0 h)) u (ends k (times 0 h)) (sym (source k (times 0 h)))

-- and a firing by the rule keeps it so
pub tight_fired : {c : Chain} {s : Run} {i : ℕ} → Sound c → Reached c s → Next c s i → Tight c s → Tight c (fired c s i)
tight_fired {c} {s} {i} k r next tight j l = by_cases (ℕ_discrete j i)
    (λ e. rw e (omega (arith, held_output c s i (omega arith) (omega (arith, r.deep, k.count.1)), below_minimum k r i (omega arith) (next.nearest i (le_refl i) (omega arith)))))
    (λ ne. by_cases (ℕ_discrete (suc j) i)
    (λ e. rw (← e) (omega (arith, held_input c s j (omega (arith, r.deep, k.count.1)) (over_enough k s j l (rw (← e) at next).over), tight j l)))
    (λ ne'. omega (arith, held_other c s i j ne ne', tight j l)))

-- so manual firing accepts a firing by the rule, the capacities being enough and the count one that can grow
pub next_firing : {c : Chain} {s : Run} {i : ℕ} → Accepted c → ((j : ℕ) → j < c.n → Enough c j) → Reached c s → Tight c s → Next c s i → count_at s i ≢ limit → Firing c s i
next_firing {c} {s} {i} a enough r tight next grows =
    let cap : (j : ℕ) → j < c.n → minimum_of (row_of c j) ≤ capacity_of (row_of c j) = λ j l. enough_capacity c j (enough j l) in
    record {
      chain = a;
      state = λ j l. ((r.balance j l, le_trans (tight j l) (cap j l)), omega (arith, reached_done a.chain r j, (a.chain.work j l).0));
      may = record {
        node = next.node;
        countable = grows;
        over = next.over;
        room = λ l. le_trans (below_minimum a.chain r i l (next.nearest i (le_refl i) l)) (cap i l);
      };
    }

-- and each firing of a history by the rule, the counts at its end being words
pub follows_permitted : {c : Chain} → Accepted c → ((i : ℕ) → i < c.n → Enough c i) → (s : Run) (h : List ℕ) → Reached c s → Tight c s
    → ((j : ℕ) → j ≤ c.n → count_at (after c s h) j ≤ limit) → Follows c s h → Permitted c s h
unfolding after EachFiring
follows_permitted a enough s [] r tight most f = tt
follows_permitted {c} a enough s (i ∷ h) r tight most f =
    let k : Sound c = a.chain in
    let next : Next c s i = f.0 in
    let slot : i < length s.counts = omega (arith, (reached_slots k r).counts, next.node) in
    let later : count_at (fired c s i) i ≤ limit = omega (arith, counted_from c (fired c s i) h i (omega (arith, counts_length c s i)), most i next.node) in (
      (firing_is c s i).1 (next_firing a enough r tight next (λ e. omega (arith, count_fired c s i slot, later))),
      follows_permitted a enough (fired c s i) h (reached_fired k r i next.node next.over) (tight_fired k r next tight) most f.1,
    )

-- manual firing accepts each firing of the schedule in turn, where no count passes the largest word; an immediate run is refused 9 long before
pub permitted : {c : Chain} → Accepted c → ((i : ℕ) → i < c.n → Enough c i) → (k : ℕ) → ((j : ℕ) → j ≤ c.n → F c k j ≤ limit)
    → Permitted c (fresh_run c) (schedule c k)
permitted {c} a enough k few =
    follows_permitted a enough (fresh_run c) (schedule c k) (reached_fresh a.chain) (fresh_tight a.chain)
    (λ j l. omega (arith, counts_are_F a.chain k j l, few j l)) (rule a.chain k)

-- whatever the order, the source's count tells the state in which no other node may fire
pub any_order : {c : Chain} → Sound c → (h : List ℕ) → Permitted c (fresh_run c) h → Calm c (after c (fresh_run c) h) 0
    → after c (fresh_run c) h ≡ after c (fresh_run c) (schedule c (times 0 h))
unfolding F
any_order {c} k h p calm =
    let n : ℕ = times 0 h in
    one_state k (reached_after k h p) (reached k n) calm (ends k n)
    (omega (arith, counted_from c (fresh_run c) h 0 (omega (arith, (reached_fresh k).wide)), fresh_count c 0, counts_are_F k n 0 (omega arith)))
