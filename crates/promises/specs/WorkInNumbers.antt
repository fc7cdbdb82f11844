-- Demand 2, the work of one tick and of a clean deadline run, and the instants of its firings, by the slots of chain and state.
--   c, s, t, i, j, k, T      a chain, run states or an instant, a node, a queue (N_j feeds it and N_(j+1) empties it), a number, ticks
--   worked_slots             the ticks that a node has worked, by the slots of the chain and the state
--   OverThen c s j, asked_of c s j
--                            N_(j+1) is over threshold after the source's step of s; what the question of its next firing is answered (TickInNumbers)
--   Chosen c s j, DoneIs c s t j, tick_done
--                            N_(j+1) is the node that works; what a clean tick leaves in the slots of its count and its work done
--   sum_worked, sum_worked_law  the ticks that all nodes have worked
--   SomeThen c s, Exactly P T m, has, lacks, zero_sum, run_worked
--                            a node is over threshold after the source's step; m of the numbers below T have P; the work of a clean run
--   GrowsAt c T j k t, trace_instant
--                            the instant at which N_(j+1)'s count becomes k+1, which is its k-th in the trace
--   trace_count, instants_by, entries_are, InstantsRise, rises, trace_in_order, nodes_none, nodes_more
--                            how many there are; they are those of the trace, whose instants never fall; the nodes of a trace
use Rattle.std.specs.Prelude.{◌≡◌, refl, ◌≢◌, ◌⊎◌, cond, List, [], ◌∷◌, ℕ, zero, suc, ◌+◌, ◌*◌, ◌≤◌, ◌<◌, eqb, length, get_or}
use Rattle.std.proofs.Common.{sym, ap, subst, ◌∙◌, inl, inr, ⊎_elim, arith}
use Rattle.std.proofs.Math.Logic.{by_cases}
use Rattle.std.proofs.Math.Decide.{ℕ_discrete, dec_lt}
use Rattle.ardenquill.specs.Chains.{work_of}
use Rattle.ardenquill.specs.Runs.{zeros, count_at, done_at, fresh_run, fresh_empty}
use Rattle.ardenquill.specs.Ticks.{tick_answer, deadline_run_answer, worked_by, spent_on, total, Waits, tick_total, SourceOnce, run_start}
use Rattle.ardenquill.specs.Histories.{Entry, nodes}
use Rattle.ardenquill.specs.Ticks.{CleanStep, along, trace, instants_of, Rising, entries_of, entries_count, FiredAt}
use Rattle.ardenquill.specs.Records.{Chain, Run, TickAnswer}
use Rattle.promises.specs.Replay.{AllSlots}
use Rattle.promises.specs.Zeros.{zero_run}
use Rattle.promises.specs.Outcomes.{Cleanly, cleanly_is}
use Rattle.promises.specs.ByTicks.{DeadlineRuns}
use Rattle.promises.specs.Demand2.{tick_when, trace_when, trace_rises}
use Rattle.promises.specs.TickInNumbers.{OverThen, asked_of, WorksAsked, tick_works, tick_passes, parted, over_out, over_in}

-- "e for each firing, and the work done of the next", each in its slot
pub worked_slots : (c : Chain) (s : Run) (j : ℕ) → worked_by c s j ≡ get_or c.work j 0 * get_or s.counts (suc j) 0 + get_or s.done j 0
worked_slots c s j = refl

-- "the over-threshold node whose next firing has the earliest deadline, ties to the one nearest the sink"
pub record Chosen (c : Chain) (s : Run) (w : ℕ) : Type 0 where
  pub node : w < c.n
  pub over : OverThen c s w
  pub early : (j : ℕ) → j < c.n → OverThen c s j → (asked_of c s w).due ≤ (asked_of c s j).due
  pub tie : (j : ℕ) → w < j → j < c.n → OverThen c s j → (asked_of c s w).due < (asked_of c s j).due

-- what a clean tick leaves in N_(j+1)'s slots: the last tick of a firing makes its count one more and its work done 0, any other its work done one more; and the slots of
-- a node that does not work stay
pub record DoneIs (c : Chain) (s t : Run) (j : ℕ) : Type 0 where
  pub last : Chosen c s j → get_or s.done j 0 + 1 ≡ get_or c.work j 0 → (get_or t.counts (suc j) 0 ≡ get_or s.counts (suc j) 0 + 1) × (get_or t.done j 0 ≡ 0)
  pub more : Chosen c s j → get_or s.done j 0 + 1 ≢ get_or c.work j 0 → (get_or t.counts (suc j) 0 ≡ get_or s.counts (suc j) 0) × (get_or t.done j 0 ≡ get_or s.done j 0 + 1)
  pub rests : (Chosen c s j → ⊥) → (get_or t.counts (suc j) 0 ≡ get_or s.counts (suc j) 0) × (get_or t.done j 0 ≡ get_or s.done j 0)

module _ (c : Chain) (s : Run) (slots : AllSlots s) (ok : (tick_answer c s).number ≡ 0) (z : Cleanly (tick_answer c s).outcome) (j : ℕ) (l : j < c.n) where
  abbrev t : Run
  t = (tick_answer c s).run

  was : done_at s j < work_of c j
  was = (((tick_when c s).0 ok).1.0 j l).work

  is : done_at t j < work_of c j
  is = (tick_passes c s slots ok z j l).work

  -- one node only is chosen
  one : {w v : ℕ} → Chosen c s w → Chosen c s v → w ≡ v
  one {w} {v} a b = by_cases (dec_lt w v)
      (λ f. absurd (omega (arith, a.tie v f b.node b.over, b.early w a.node a.over)))
      (λ f. by_cases (dec_lt v w) (λ g. absurd (omega (arith, b.tie w g a.node a.over, a.early v b.node b.over))) (λ g. omega arith))

  chosen : {w : ℕ} → WorksAsked c s t w → Chosen c s w
  chosen k = record { node = k.node; over = k.over; early = k.early; tie = k.tie }

  kept : worked_by c t j ≡ worked_by c s j → (count_at t (suc j) ≡ count_at s (suc j)) × (done_at t j ≡ done_at s j)
  kept same = parted (work_of c j) _ _ _ _ is was same

  stays : (Chosen c s j → ⊥) → worked_by c t j ≡ worked_by c s j → DoneIs c s t j
  stays n same = record { last = λ k e. absurd (n k); more = λ k e. absurd (n k); rests = λ m. kept same }

  works : Chosen c s j → worked_by c t j ≡ worked_by c s j + 1 → DoneIs c s t j
  works k same = record {
    last = λ m e. parted (work_of c j) (count_at t (suc j)) (done_at t j) (count_at s (suc j) + 1) 0 is (omega (arith, was)) (omega (arith, same, e));
    more = λ m e. parted (work_of c j) (count_at t (suc j)) (done_at t j) (count_at s (suc j)) (done_at s j + 1) is (omega (arith, was, e)) (omega (arith, same));
    rests = λ n. absurd (n k);
  }

  -- "works one tick, keeping work already done .. and the effect at t+1 of a firing then finished", slot by slot
  pub tick_done : DoneIs c s (tick_answer c s).run j
  tick_done = ⊎_elim
      (λ k. by_cases (ℕ_discrete j k.queue)
      (λ e. works (subst (Chosen c s) (sym e) (chosen k.is)) (subst (λ (q : ℕ). worked_by c t q ≡ worked_by c s q + 1) (sym e) k.is.works))
      (λ ne. stays (λ m. ne (one m (chosen k.is))) (k.is.others j ne)))
      (λ k. stays (λ m. k.0 j l m.over) (k.1 j))
      (tick_works c s slots ok z)

-- at an instant N_(j+1)'s count is k in the run up to it, and k+1 in the run up to the next, t
pub record GrowsAt (c : Chain) (T j k t : ℕ) : Type 0 where
  pub before : ℕ
  pub is : t ≡ before + 1
  pub within : t ≤ T
  pub was : count_at (deadline_run_answer c before).run (suc j) ≡ k
  pub count : count_at (deadline_run_answer c t).run (suc j) ≡ k + 1

module _ (c : Chain) (T : ℕ) (ran : DeadlineRuns c T) (ends : Cleanly (deadline_run_answer c T).outcome) (j : ℕ) (l : j < c.n) where
  pub trace_instant : (k t : ℕ) → (k < length (entries_of c T (suc j))) × (get_or (entries_of c T (suc j)) k 0 ≡ t) → GrowsAt c T j k t
  trace_instant k t h =
      let f : FiredAt c T j k t = (trace_when c T ran ends j l k t).0 h in
      record { before = f.before; is = omega (arith, f.is); within = omega (arith, f.is, f.within); was = f.was; count = omega (arith, f.count) }

-- the ticks that N_1 to N_m have worked, by slots
unfoldable pub sum_worked : Chain → Run → ℕ → ℕ
sum_worked c s zero = 0
sum_worked c s (suc j) = sum_worked c s j + (get_or c.work j 0 * get_or s.counts (suc j) 0 + get_or s.done j 0)

sum_to : (c : Chain) (s : Run) (m : ℕ) → spent_on c s m ≡ sum_worked c s m
unfolding sum_worked spent_on
sum_to c s zero = refl
sum_to c s (suc j) = rw (sum_to c s j)

pub sum_worked_law : (c : Chain) (s : Run) → total c s ≡ sum_worked c s c.n
sum_worked_law c s = sum_to c s c.n

-- so many are there, of every node
pub trace_count : (c : Chain) (T : ℕ) → DeadlineRuns c T → (i : ℕ) → i ≤ c.n → length (entries_of c T i) ≡ count_at (deadline_run_answer c T).run i
trace_count c T ran = entries_count c T ran

-- N_i's instants in a trace, an entry being an instant and a node
unfoldable pub instants_by : ℕ → List (ℕ × ℕ) → List ℕ
instants_by i [] = []
instants_by i (e ∷ h) = cond (eqb e.1 i) (e.0 ∷ instants_by i h) (instants_by i h)

instants_are : (i : ℕ) (h : List Entry) → instants_of i h ≡ instants_by i h
unfolding instants_of instants_by
instants_are i [] = refl
instants_are i (e ∷ h) = rw (instants_are i h)

pub entries_are : (c : Chain) (T i : ℕ) → entries_of c T i ≡ instants_by i (trace c T (fresh_run c))
entries_are c T i = instants_are i (trace c T (fresh_run c))

-- instants from a to b that never fall
unfoldable pub InstantsRise : ℕ → List (ℕ × ℕ) → ℕ → Type 0
InstantsRise a [] b = a ≤ b
InstantsRise a (e ∷ h) b = (a ≤ e.0) × InstantsRise e.0 h b

pub rises : (a : ℕ) (h : List Entry) (b : ℕ) → Rising a h b → InstantsRise a h b
unfolding Rising InstantsRise
rises a [] b r = r
rises a (e ∷ h) b r = (r.0, rises e.0 h b r.1)

pub trace_in_order : (c : Chain) (T : ℕ) → DeadlineRuns c T → Cleanly (deadline_run_answer c T).outcome → InstantsRise 0 (trace c T (fresh_run c)) T
trace_in_order c T ran ends = rises 0 (trace c T (fresh_run c)) T (trace_rises c T ran ends)

-- the nodes of a trace
pub nodes_none : nodes [] ≡ []
nodes_none = refl

pub nodes_more : (t i : ℕ) (h : List (ℕ × ℕ)) → nodes ((t, i) ∷ h) ≡ i ∷ nodes h
nodes_more t i h = refl

-- a node is over threshold after the source's step
pub record SomeThen (c : Chain) (s : Run) : Type 0 where
  pub queue : ℕ
  pub node : queue < c.n
  pub over : OverThen c s queue

-- exactly m of the numbers below T have P
unfoldable pub Exactly : (ℕ → Type 0) → ℕ → ℕ → Type 0
Exactly P zero m = m ≡ 0
Exactly P (suc T) zero = (P T → ⊥) × Exactly P T zero
Exactly P (suc T) (suc m) = (P T × Exactly P T m) ⊎ ((P T → ⊥) × Exactly P T (suc m))

pub has : (P : ℕ → Type 0) (T m : ℕ) → P T → Exactly P T m → Exactly P (suc T) (suc m)
unfolding Exactly
has P T m p h = inl (p, h)

pub lacks : (P : ℕ → Type 0) (T m : ℕ) → (P T → ⊥) → Exactly P T m → Exactly P (suc T) m
unfolding Exactly
lacks P T zero n h = (n, h)
lacks P T (suc m) n h = inr (n, h)

-- after the source's step
module _ {c : Chain} {s u : Run} (o : SourceOnce c s u) where
  to_waits : SomeThen c s → Waits c s
  to_waits k = record { after = u; source = o; some = record { queue = k.queue; node = k.node; over = over_in o k.queue k.over } }

of_waits : {c : Chain} {s : Run} → Waits c s → SomeThen c s
of_waits w = record { queue = w.some.queue; node = w.some.node; over = over_out w.source w.some.queue w.some.over }

pub zero_sum : (c : Chain) (m : ℕ) → sum_worked c zero_run m ≡ 0
unfolding sum_worked
zero_sum c zero = refl
zero_sum c (suc j) = rw (zeros 16 j, zero_sum c j) (omega arith)

-- "the over-threshold node .. works one tick": the ticks that all nodes have worked in a clean run are the instants at which one was over threshold
pub run_worked : (c : Chain) (T : ℕ) → DeadlineRuns c T → Cleanly (deadline_run_answer c T).outcome
    → Exactly (λ t. SomeThen c (deadline_run_answer c t).run) T (sum_worked c (deadline_run_answer c T).run c.n)
unfolding Exactly
run_worked c T ran ends = along c T ran Worked first more ((cleanly_is (deadline_run_answer c T).outcome).0 ends)
  where
    Some : ℕ → Type 0
    Some t = SomeThen c (deadline_run_answer c t).run

    Worked : ℕ → Type 0
    Worked t = Exactly Some t (sum_worked c (deadline_run_answer c t).run c.n)

    first : Worked 0
    first = ap (λ (a : TickAnswer). sum_worked c a.run c.n) (run_start c T ran) ∙ ap (λ (s : Run). sum_worked c s c.n) (sym (fresh_empty c)) ∙ zero_sum c c.n

    more : (t : ℕ) → t < T → CleanStep c t (deadline_run_answer c t).run (deadline_run_answer c (suc t)).run → Worked t → Worked (suc t)
    more t l k h =
        let a : ℕ = sum_worked c (deadline_run_answer c t).run c.n in
        let b : ℕ = sum_worked c (deadline_run_answer c (suc t)).run c.n in
        let was = sum_worked_law c (deadline_run_answer c t).run in
        let is = sum_worked_law c (deadline_run_answer c (suc t)).run in
        ⊎_elim
        (λ w. let e : suc a ≡ b = omega (arith, w.1, was, is) in subst (Exactly Some (suc t)) e (has Some t a (of_waits w.0) h))
        (λ w. let e : a ≡ b = omega (arith, w.1, was, is) in subst (Exactly Some (suc t)) e (lacks Some t a (λ p. w.0 (to_waits k.tick.source p)) h))
        (tick_total k.tick)
