-- Demand 2, of what the public calls answer.
--   c, j, i, k, T, s         a chain, a queue (N_j feeds it and N_(j+1) empties it), a node, a number or an index, ticks, a run state
--   p_of, τ_of, c_of, work_of c j
--                            p, τ and c of queue j, and e of N_(j+1)
--   Accepts c, line c j, rate_x c i, rate_y c i
--                            analyse does not refuse c; what it answers of queue j, and of N_i's rate (Replay)
--   Accepted c               no check of the analysis refuses c (Analyses). When a chain is accepted, a record is written, a file is read and reported on, and else with which
--                            number and place, is said by their numbers and bytes: accepts_when (RatesInNumbers), record_passes (RecordInNumbers), write_when (WriterInBytes),
--                            read_exactly (FileInBytes), report_columns (ReportInColumns)
--   rate_x_law, rate_y_law   "Node rates"
--   Smallest, smallest, papers_agree, naming_count, unwritten, written
--                            "smallest capacities", as 000 and 004 write them; the naming count of demand 3; the capacity in force and the margin
--   sum_of, load, load_exact, load_within
--                            "load"
--   index c i k j, deadline c i k
--                            N_j's index on the way down from N_i's k, and the deadline that it leads to (Deadlines)
--   index_before, index_asked, index_next, deadline_when, deadline_is, deadline_source, deadline_next
--                            "deadlines"
--   Passes c s j, AllSlots s s passes 17 at queue j, and has all its slots (Replay)
--   Permits c s i            9, 11 and 12 let N_i fire in s
--   fresh_when, fresh_is, fire_when, FiredOnce, fire_does
--                            "manual firing": a fresh start and one firing, accepted when and what it leaves
--   Runs c k, Fires c h, NearestFirst c h, Low c s, Ample c j
--                            the immediate run is not refused; a permitted order; by the rule; only the source may fire; a capacity that is not below the
--                            minimum (Replay)
--   schedule c k, F c k i    the firings of the immediate run, in order; how often N_i fires in it (Immediate)
--   immediate_when, immediate_fires, _state, _rule, _source, _ends, _counted, _counts, _exact, _rest
--                            "both kinds of run", the immediate one: accepted when; its firings, and that they are by the rule; its counts, which are theirs, exactly
--   DeadlineRuns c T, ticks_from c T s
--                            the deadline run is not refused; T ticks as their calls answer them (ByTicks)
--   ran_as x                 the answer of a call that no check refused and that ends with x, an outcome with the state that is left (Ticks)
--   OneTick c s x, TicksTo c T s x
--                            one tick of s, and T of them as far as they are clean, end with x (Ticks)
--   Spills, Lacks c s i, TickOnce c s t
--                            the source is due and has no room; after its step N_i is the lowest node over threshold with an index past the limit on its way; t is
--                            what a clean tick leaves of s, field by field (Ticks)
--   Says o N vs, Cleanly o, OverflowedAt o t q, UndatedAt o t i
--                            an outcome by 01's number and values, and the three that there are (Outcomes)
--   EndsAt c T N t at        the run up to the instant t, before T, is clean, and the tick from there ends with the number N and the values t and at
--   Waits c s, total c s, HowMany P T m
--                            a node is over threshold after the source's step; the ticks that all nodes have worked; m of the numbers below T have P (Ticks)
--   deadline_run_when, deadline_run_is, by_ticks, run_ends
--                            the deadline run: accepted when; what it answers; the same tick by tick; and its first instant
--   trace c T s, entries_of c T i, Rising, FiredAt c T j k t
--                            the firings of T ticks with their instants; N_i's instants in a run of T ticks; they never fall; the instant at which N_(j+1)'s count
--                            becomes k+1 (Ticks)
--   run_clock, run_source, run_work, trace_rises, _source, _when, _apart, _first
--                            of a clean one: its clock, how often the source has fired, how long the others have worked, and the instants of all firings
--   Spent c s i, LowestOf    N_i's count is at its end (Replay); "lowest", in words (Order)
--   tick_when, tick_nine
--                            one tick: accepted when; and 9 of it
--   tick_is, tick_overflows, _lacks, _cleans, _leaves, _clock, _ends, source_fires, source_rests
--                            what it answers; each outcome exactly when; and what it leaves (and by numbers alone, TickInNumbers)
--   coded a, flat a          the answer a of a tick, and of a deadline run, as C has it (Flat)
--   Told, tick_told, run_told
--                            what C is told of them
--   tick_stores              and what C's tick asks before it stores a state
--   reads_back, writes_packed, packed_is_itself
--                            "Reading a written chain file gives the chain back; writing a chain that was read gives the packed file"
use Rattle.std.proofs.Math.Logic.Iff
use Rattle.std.specs.Prelude.{◌≡◌, refl, true, ◌↔◌, ◌≢◌, ◌⊎◌, List, [], ◌∷◌, ◌++◌, ℕ, zero, suc, ◌+◌, ◌-◌, ◌*◌, ◌/◌, ◌≤◌, ◌<◌, pos, ◌+ℤ◌, length, get_or, take, drop, replicate}
use Rattle.std.proofs.Math.Path.{sym, ap}
use Rattle.std.proofs.Common.{subst, ◌∙◌, arith, le-leb}
use Rattle.std.proofs.Math.Logic.{inl, inr, ⊎_elim}
use Rattle.std.specs.Int.{◌∣◌}
use Rattle.std.proofs.Math.Nat.{sub-zero}
use Rattle.ardenquill.specs.Chains.{Silents, tab, row_of, work_of, trimmed}
use Rattle.ardenquill.specs.Files.{count_of, queues_at, nodes_at, read_answer, packed_length, packed, write_refusal, Output, Bytes, packed_file, read_of_write, write_of_read, packed_again}
use Rattle.ardenquill.specs.Analyses.{ceil, gcd, gcd_pos_left, residue_000, residue_004, least, common}
use Rattle.ardenquill.specs.Analyses.{next_x, next_y, x_of, y_of, y_multiple, busy_in, run_checks, analysis_of, analyse_answer}
use Rattle.ardenquill.specs.Analyses.{Accepted, capacity_minimum, capacity_written, margin_unwritten, margin_balance}
use Rattle.ardenquill.specs.Runs as runs
use Rattle.ardenquill.specs.Runs.{count_at, held_at, fresh_run, fresh_answer, fresh_empty, fresh_state, fired, May, state_check, state_silent, Whole}
use Rattle.ardenquill.specs.Runs.{Firing, firing_is, fire_answer, fire_accepts, fire_accepted, count_fired, count_other, held_output, held_other}
use Rattle.ardenquill.specs.Histories.{times, counted, after}
use Rattle.ardenquill.specs.Immediate as immediate
use Rattle.ardenquill.specs.Immediate.{F, schedule, Next, Follows, rule, immediate_answer, immediate_accepts, permitted, counts_are_F}
use Rattle.ardenquill.specs.Deadlines.{earlier, earlier_some, deadline, index, answered_due, deadline_answer, deadline_accepts, deadline_due}
use Rattle.ardenquill.specs.Ticks as ticks
use Rattle.ardenquill.specs.Ticks.{kind_of, tick_of, at_of, outcome_of, tick_answer, deadline_run_answer, ran_as, left, tick_refusal, tick_accepts}
use Rattle.ardenquill.specs.Ticks.{tick_9, deadline_run_accepts, TickOnce, once_counts, once_keeps, Spills, Lacks, OneTick, one_overflows, one_lacks}
use Rattle.ardenquill.specs.Ticks.{one_cleans, one_stays, one_leaves, TicksTo, answer_one, answer_exactly, Ends, HowMany, total, Waits}
use Rattle.ardenquill.specs.Ticks.{Rising, trace, entries_of, FiredAt, source_entries, entries_when, entries_apart, entries_first, entries_rise}
use Rattle.ardenquill.specs.Flat.{coded, is_clean, flat}
use Rattle.ardenquill.proofs.FlatLaws.{clean_exactly}
use Rattle.ardenquill.specs.Records.{Chain, ChainAnswer, LengthAnswer, Analysis, Run, Outcome, Clean, Ticked, TickAnswer}
use Rattle.promises.specs.Order.{LowestOf, said}
use Rattle.promises.specs.Replay.{p_of, τ_of, c_of, Spent, Accepts, line, rate_x, rate_y, replay_answer, Fires, AllSlots, Passes, Ample, Low, NearestFirst, Runs, accepts_is, fires_is}
use Rattle.promises.specs.Laws.{report_is, x_is, y_is, by_is, capacity_is, rate_x_is, rate_y_is, least_own, minimum_as, largest_multiple}
use Rattle.promises.specs.Laws.{may_run_is, run_quiet, silents_append, whole, passes_is, index_down, taken, state_is, moment, parts, sound}
use Rattle.promises.specs.Laws.{ends_in, keeps, minimum_is, margin_is, coded_overflowed, coded_undated, coded_clean, one_firing, over_is}
use Rattle.promises.specs.ByTicks.{DeadlineRuns, ticks_from, ticks_are_run}
use Rattle.promises.specs.Outcomes.{Says, Cleanly, OverflowedAt, UndatedAt, cleanly_is, overflowed_is, undated_is, says_tick}
use Rattle.promises.specs.ByCounts.{rule_exhausted, exact_count}
use Rattle.promises.specs.Zeros.{zero_run}
use Rattle.promises.specs.Demand1.{tick_stays, deadline_run_empty}

-- 01's "with g = gcd(p,c), the largest multiple of g below τ, plus p"
pub record Smallest (p τ c b : ℕ) : Type 0 where
  pub multiple : ℕ
  pub is : b ≡ multiple + p
  pub divides : gcd p c ∣ multiple
  pub below : multiple < τ
  pub largest : (m : ℕ) → gcd p c ∣ m → m < τ → m ≤ multiple

-- 01's "sum over nodes 1..n of e×x×(y_n/y_node)", up to N_i and of a cycle of y ticks
unfoldable pub sum_of : Chain → ℕ → ℕ → ℕ
sum_of c y zero = 0
sum_of c y (suc j) = sum_of c y j + work_of c j * (line c j).x * (y / (line c j).y)

-- which is the one that the load is defined by
sum_is : (c : Chain) → Accepted c → (y i : ℕ) → i ≤ c.n → sum_of c y i ≡ busy_in c y i
unfolding sum_of busy_in
sum_is c a y zero l = refl
sum_is c a y (suc j) l = rw (sum_is c a y j (omega arith), x_is c a j l, y_is c a j l)

module _ (c : Chain) (ok : Accepts c) where
  -- no check of the analysis speaks
  known : Accepted c
  known = (accepts_is c).0 ok

  module _ (j : ℕ) (l : j < c.n) where
    -- "Node rates .. equal the published Processing Graph Method rules as document 01 condenses them": "x_(i+1) = p×x_i/g", "g = gcd(p×x_i, c)"
    pub rate_x_law : (line c j).x ≡ p_of c j * rate_x c j / gcd (p_of c j * rate_x c j) (c_of c j)
    unfolding x_of next_x common
    rate_x_law = x_is c known j l ∙ rw (rate_x_is c known j (omega arith))

    -- and "y_(i+1) = c×y_i/g (003, equation 1)"
    pub rate_y_law : (line c j).y ≡ c_of c j * rate_y c j / gcd (p_of c j * rate_x c j) (c_of c j)
    unfolding y_of next_y common
    rate_y_law = y_is c known j l ∙ rw (rate_x_is c known j (omega arith), rate_y_is c known j (omega arith))

    -- "smallest capacities .. equal the published Processing Graph Method rules as document 01 condenses them" (000, Lemma 1)
    pub smallest : Smallest (p_of c j) (τ_of c j) (c_of c j) (line c j).minimum
    smallest =
        let own = least_own c known j l in
        let m = largest_multiple _ _ _ own.largest in
        record { multiple = own.left; is = minimum_is c known j l ∙ own.minimum; divides = m.0; below = own.largest.below; largest = m.1 }

    -- 01's "000 and 004 write the residue below threshold differently, but the values agree": b as 000 writes it, and as 004 does where g divides τ and where not
    pub papers_agree : let g = gcd (p_of c j) (c_of c j) in
        ((line c j).minimum ≡ (ceil (τ_of c j) g - 1) * g + p_of c j)
        × (((k : ℕ) → τ_of c j ≡ k * g → (line c j).minimum ≡ τ_of c j - g + p_of c j)
        × (((k : ℕ) → τ_of c j ≢ k * g) → (line c j).minimum ≡ τ_of c j / g * g + p_of c j))
    papers_agree =
        let two = residue_004 (τ_of c j) _ (gcd_pos_left _ (c_of c j) (known.chain.rows j l).produce.0) in
        (minimum_as c known j l (residue_000 (τ_of c j) _), (λ k e. minimum_as c known j l (two.0 k e), λ n. minimum_as c known j l (two.1 n)))

    -- 01's "naming count of demand 3: (τ−c)/p rounded up, plus c/g"
    pub naming_count : (line c j).by ≡ ceil (τ_of c j - c_of c j) (p_of c j) + c_of c j / gcd (p_of c j) (c_of c j)
    unfolding least
    naming_count = by_is c known j l ∙ rw sub-zero

    -- 01's "with B=0 the capacity is b and the margin 0"
    pub unwritten : (row_of c j).capacity ≡ 0 → ((line c j).capacity ≡ (line c j).minimum) × ((line c j).margin ≡ pos 0)
    unwritten z = (capacity_is c known j l ∙ rw z (capacity_minimum _) ∙ sym (minimum_is c known j l), margin_is c known j l ∙ margin_unwritten (row_of c j) z)

    -- 01's "Margin: B − b, signed", as a sum
    pub written : (row_of c j).capacity ≢ 0 → ((line c j).capacity ≡ (row_of c j).capacity) × (pos (line c j).minimum +ℤ (line c j).margin ≡ pos (row_of c j).capacity)
    written n =
        (capacity_is c known j l ∙ capacity_written _ _ n, rw (minimum_is c known j l, margin_is c known j l) (margin_balance _ _ ∙ ap pos (capacity_written _ _ n)))

  -- "load .. equal the published Processing Graph Method rules as document 01 condenses them": busy, "per cycle y_n"
  pub load : ((analyse_answer c).analysis.cycle ≡ rate_y c c.n) × ((analyse_answer c).analysis.busy ≡ sum_of c (analyse_answer c).analysis.cycle c.n)
  unfolding analysis_of
  load =
      let cycle : (analyse_answer c).analysis.cycle ≡ y_of c c.n = ap (λ (a : Analysis). a.cycle) (report_is c known) in
      (cycle ∙ sym (rate_y_is c known c.n (omega arith)), ap (λ (a : Analysis). a.busy) (report_is c known) ∙ sym (rw cycle (sum_is c known _ c.n (omega arith))))

  -- each of its divisions is exact
  pub load_exact : (j : ℕ) → j < c.n → (line c j).y ∣ (analyse_answer c).analysis.cycle
  load_exact j l = rw (load.0, rate_y_is c known c.n (omega arith), y_is c known j l) (y_multiple c known.chain c.n (suc j) l (omega arith))

  -- and of an accepted chain it is no "exact busy above y_n"
  pub load_within : (analyse_answer c).analysis.busy ≤ (analyse_answer c).analysis.cycle
  unfolding analysis_of
  load_within = rw (report_is c known) known.load

-- 01's "index ((k−1)×c+B)/p rounded down, plus 1" at N_i, for index k at N_(i+1), B being the capacity in force of the queue between
abbrev pub index_before : Chain → ℕ → ℕ → ℕ
index_before c i k = ((k - 1) * c_of c i + (line c i).capacity) / p_of c i + 1

-- the indices on the way down from N_i's k: its own is k, and from N_(i+1) on down they are those of N_i for the index before
pub index_asked : (c : Chain) (i k : ℕ) → index c i k i ≡ k
unfolding index
index_asked c zero k = refl
index_asked c (suc i) k = simp (le-leb (suc i) (suc i) (omega arith))

pub index_next : (c : Chain) → Accepts c → (i k j : ℕ) → i < c.n → j ≤ i → index c (suc i) k j ≡ index c i (index_before c i k) j
unfolding earlier
index_next c ok i k j l m = index_down c i k j m ∙ ap (λ (h : ℕ). index c i h j) (rw (capacity_is c ((accepts_is c).0 ok) i l))

-- "deadlines .. equal the published Processing Graph Method rules as document 01 condenses them" (000, definition 1): a question is answered exactly when the
-- chain may run, node and firing exist, and no index on the way down passes the limit
pub deadline_when : (c : Chain) (i k : ℕ)
    → ((deadline_answer c i k).number ≡ 0) ↔ ((Accepts c × ((j : ℕ) → j < c.n → Ample c j)) × (((i ≤ c.n) × (1 ≤ k)) × ((j : ℕ) → j ≤ i → index c i k j ≤ 4294967295)))
unfolding deadline_answer answered_due
deadline_when c i k = Iff.trans (deadline_accepts c i k) (Iff.and (may_run_is c) Iff.rfl)

-- it is the deadline by which a tick chooses
pub deadline_is : (c : Chain) (i k : ℕ) → (deadline_answer c i k).number ≡ 0 → (deadline_answer c i k).due ≡ deadline c i k
unfolding deadline_answer answered_due
deadline_is c i k asked = deadline_due c i k asked

-- "(k−1)×y for N_0"
pub deadline_source : (c : Chain) (k : ℕ) → (deadline_answer c 0 k).number ≡ 0 → (deadline_answer c 0 k).due ≡ (k - 1) * c.period
unfolding deadline_answer answered_due deadline
deadline_source c k asked = deadline_due c 0 k asked

-- "else N_(i−1)'s deadline for index" as above, which is answered, too
pub deadline_next : (c : Chain) (i k : ℕ) → (deadline_answer c (suc i) k).number ≡ 0
    → ((deadline_answer c i (index_before c i k)).number ≡ 0) × ((deadline_answer c (suc i) k).due ≡ (deadline_answer c i (index_before c i k)).due)
unfolding deadline_answer answered_due deadline earlier
deadline_next c i k asked =
    let p = (deadline_accepts c (suc i) k).0 asked in
    let same : earlier (row_of c i) k ≡ index_before c i k = rw (capacity_is c p.0.0 i p.1.0.0) in
    let too = (deadline_accepts c i (index_before c i k)).1 (
      p.0,
      ((omega (arith, p.1.0.0), rw (← same) (earlier_some (row_of c i) k)), λ j l. rw (← same, ← index_down c i k j l) (p.1.1 j (omega arith))),
    ) in
    (too, deadline_due c (suc i) k asked ∙ ap (deadline c i) same ∙ sym (deadline_due c i (index_before c i k) too))

-- 01's "A fresh start begins a new history": it is accepted exactly when the chain is
pub fresh_when : (c : Chain) → ((fresh_answer c).number ≡ 0) ↔ Accepts c
unfolding fresh_answer runs.answered analyse_answer
fresh_when c = Iff.rfl

-- and then no node has fired, "every queue starts empty", no work is done and the clock is 0
pub fresh_is : (c : Chain) → Accepts c → (fresh_answer c).run ≡ zero_run
unfolding analyse_answer
fresh_is c ok = fresh_state c ok ∙ sym (fresh_empty c)

-- 01's "finished firing adds p to the output queue, if any, then removes c from the input queue, if any", and "changes only the fired node's count and the
-- contents of its queues, not clock or work done"; t is the state after it
pub record FiredOnce (c : Chain) (s : Run) (i : ℕ) (t : Run) : Type 0 where
  pub count : count_at t i ≡ count_at s i + 1
  pub counts : (m : ℕ) → m ≢ i → count_at t m ≡ count_at s m
  pub output : i < c.n → held_at t i ≡ held_at s i + p_of c i
  pub input : (j : ℕ) → i ≡ suc j → held_at t j + c_of c j ≡ held_at s j
  pub others : (j : ℕ) → j ≢ i → suc j ≢ i → held_at t j ≡ held_at s j
  pub clock : t.clock ≡ s.clock
  pub done : t.done ≡ s.done

-- 9, 11 and 12 of manual firing have no reason: there is such a node, its count is not "4,294,967,295", "its input queue holds at least τ", and p more do not pass the
-- capacity of its output queue, if any
pub record Permits (c : Chain) (s : Run) (i : ℕ) : Type 0 where
  pub node : i ≤ c.n
  pub count : count_at s i ≢ 4294967295
  pub threshold : (j : ℕ) → i ≡ suc j → τ_of c j ≤ held_at s j
  pub room : i < c.n → held_at s i + p_of c i ≤ (line c i).capacity

module _ (c : Chain) (s : Run) (i : ℕ) where
  -- which are the conditions that manual firing is defined by
  permits_is : Accepts c → May c s i ↔ Permits c s i
  permits_is ok = (
    λ m. record { node = m.node; count = m.countable; threshold = (over_is c s i).0 m.over; room = λ l. rw (capacity_is c ((accepts_is c).0 ok) i l) (m.room l) },
    λ m. record { node = m.node; countable = m.count; over = (over_is c s i).1 m.threshold; room = λ l. rw (capacity_is c ((accepts_is c).0 ok) i l) at (m.room l) },
  )

  -- "manual firing .. equal the published Processing Graph Method rules as document 01 condenses them" (004, definition 5.2): it is accepted exactly when the chain
  -- is, the state passes 17, and 9, 11 and 12 have no reason
  pub fire_when : ((fire_answer c s i).number ≡ 0) ↔ (Accepts c × (((j : ℕ) → j < c.n → Passes c s j) × Permits c s i))
  unfolding fire_answer runs.answered
  fire_when = Iff.trans (fire_accepts c s i) (
    λ k. let a = (accepts_is c).1 k.0 in (a, ((passes_is c s a).0 k.1.0, (permits_is a).0 k.1.1)),
    λ k. ((accepts_is c).0 k.0, ((passes_is c s k.0).1 k.1.0, (permits_is k.0).1 k.1.1)),
  )

  -- and what it then does to a state of 17 counts and 16 queues, as every state is
  pub fire_does : AllSlots s → (fire_answer c s i).number ≡ 0 → FiredOnce c s i (fire_answer c s i).run
  unfolding fire_answer runs.answered fired
  fire_does slots ok =
      let w : Whole s = whole slots in
      let f : Firing c s i = (firing_is c s i).0 ok in
      rw (fire_accepted c s i ok) (record {
        count = count_fired c s i (omega (arith, w.counts, f.chain.chain.count.1, f.may.node));
        counts = count_other c s i;
        output = λ l. held_output c s i l (omega (arith, w.held, f.chain.chain.count.1));
        input = λ j e. rw e (taken w (rw e at f));
        others = held_other c s i;
        clock = refl;
        done = refl;
      })

-- "both kinds of run equal the published Processing Graph Method rules as document 01 condenses them", the immediate one: it is accepted exactly when the chain
-- is, no capacity is below the minimum, and no count passes the limit
pub immediate_when : (c : Chain) (k : ℕ)
    → Runs c k ↔ ((Accepts c × ((j : ℕ) → j < c.n → Ample c j)) × ((i : ℕ) → i ≤ c.n → F c k i ≤ 1000000))
unfolding immediate_answer runs.answered
immediate_when c k = Iff.trans (immediate_accepts c k) (Iff.and (may_run_is c) Iff.rfl)

module _ (c : Chain) (k : ℕ) (ran : Runs c k) where
  -- manual firing accepts each of its firings in turn
  pub immediate_fires : Fires c (schedule c k)
  immediate_fires = (fires_is c (schedule c k)).1 ((parts c k ran).0.0, permitted (parts c k ran).0.0 (parts c k ran).0.1 k (λ j l. omega (arith, (parts c k ran).1 j l)))

  -- and its state is the one that they lead to
  pub immediate_state : (immediate_answer c k).run ≡ (replay_answer c (schedule c k)).run
  immediate_state = ends_in c k ran ∙ sym (state_is c (schedule c k) immediate_fires)

  -- they are by 01's rule: "No source firing happens while another node may fire, and among those that may, the one nearest the sink goes first"
  pub immediate_rule : NearestFirst c (schedule c k)
  immediate_rule g l i e =
      let next : Next c (after c (fresh_run c) g) i = one_firing c _ (fresh_run c) g i l (subst (Follows c (fresh_run c)) e (rule (sound c k ran) k)) in
      rw (moment c (schedule c k) immediate_fires g _ e) (record { node = next.node; over = (over_is c (after c (fresh_run c) g) i).0 next.over; nearest = next.nearest })

  -- "a run of k source firings"
  pub immediate_source : times 0 (schedule c k) ≡ k
  immediate_source = immediate.source (sound c k ran) k

  -- which ends with no other node to fire
  pub immediate_ends : Low c (immediate_answer c k).run
  immediate_ends = rw (ends_in c k ran) (λ j l. immediate.ends (sound c k ran) k j (omega arith) l)

  -- a count is how often the node stands among them
  pub immediate_counted : (i : ℕ) → i ≤ c.n → count_at (immediate_answer c k).run i ≡ times i (schedule c k)
  immediate_counted i l = rw (ends_in c k ran) (counted c (parts c k ran).0.0 (schedule c k) i l)

  -- its counts are F
  pub immediate_counts : (i : ℕ) → i ≤ c.n → count_at (immediate_answer c k).run i ≡ F c k i
  immediate_counts i l = rw (ends_in c k ran) (counts_are_F (sound c k ran) k i l)

  -- "F_0 = k; F_(i+1) is 0 while p×F_i is below τ, else (p×F_i − τ)/c rounded down, plus 1 (004, Lemma 5.1)"
  pub immediate_exact : let N = count_at (immediate_answer c k).run in
      (N 0 ≡ k) × ((i : ℕ) → i < c.n → (p_of c i * N i < τ_of c i → N (suc i) ≡ 0) × (τ_of c i ≤ p_of c i * N i → N (suc i) ≡ (p_of c i * N i - τ_of c i) / c_of c i + 1))
  immediate_exact =
      let ok : Accepts c = (accepts_is c).1 (parts c k ran).0.0 in
      let exact = exact_count c ok (rule_exhausted c ok k) in
      (immediate_counted 0 (omega arith) ∙ exact.0, λ i l. rw (immediate_counted i (omega arith), immediate_counted (suc i) l) (exact.1 i l))

  -- "clock and work done stay 0"
  pub immediate_rest : ((immediate_answer c k).run.clock ≡ 0) × ((immediate_answer c k).run.done ≡ replicate 16 0)
  immediate_rest = ((keeps c k ran).clock, (keeps c k ran).done)

-- "both kinds of run equal the published Processing Graph Method rules as document 01 condenses them", the deadline run: it is accepted exactly when the chain is,
-- no capacity is below the minimum, and "T at most 1,000,000"
pub deadline_run_when : (c : Chain) (T : ℕ) → DeadlineRuns c T ↔ ((Accepts c × ((j : ℕ) → j < c.n → Ample c j)) × (T ≤ 1000000))
unfolding deadline_run_answer outcome_of
deadline_run_when c T = Iff.trans (deadline_run_accepts c T) (Iff.and (may_run_is c) Iff.rfl)

-- an outcome of number N at the instant t, of a queue or a node: "the first instant when", in a run of T ticks
pub record EndsAt (c : Chain) (T N t at : ℕ) : Type 0 where
  pub before : t < T
  pub cleanly : Cleanly (deadline_run_answer c t).outcome
  pub says : Says (tick_answer c (deadline_run_answer c t).run).outcome N (t ∷ at ∷ [])

module _ (c : Chain) (T : ℕ) (ran : DeadlineRuns c T) where
  -- "a run of T ticks from a fresh start": it answers what T ticks end with, as far as they are clean, and nothing else
  pub deadline_run_is : (x : Ticked) → (deadline_run_answer c T ≡ ran_as x) ↔ TicksTo c T (fresh_run c) x
  deadline_run_is = ticks.run_answers c T ran

  -- which is what T ticks, one after the other, answer
  pub by_ticks : deadline_run_answer c T ≡ ticks_from c T (fresh_answer c).run
  by_ticks = ticks_are_run c T ran

  -- 13's "first instant when", and an overflow's: it ends at t so exactly when the run of t ticks is clean and the tick from the state that it leaves says so
  pub run_ends : (N t at : ℕ) → Says (deadline_run_answer c T).outcome N (t ∷ at ∷ []) ↔ EndsAt c T N t at
  run_ends N t at = (out, back)
    where
      out : Says (deadline_run_answer c T).outcome N (t ∷ at ∷ []) → EndsAt c T N t at
      out h =
          let two = says_tick (deadline_run_answer c T).outcome N t at h in
          let k : Ends c T (deadline_run_answer c T).outcome = (ticks.run_ends c T ran (deadline_run_answer c T).outcome two.1).0 refl in
          record {
            before = subst (λ (u : ℕ). u < T) two.0 k.before;
            cleanly = (cleanly_is (deadline_run_answer c t).outcome).1 (subst (λ (u : ℕ). (deadline_run_answer c u).outcome ≡ Clean) two.0 k.cleanly);
            says = subst (λ (o : Outcome). Says o N (t ∷ at ∷ [])) (sym (subst (λ (u : ℕ). (tick_answer c (deadline_run_answer c u).run).outcome ≡ (deadline_run_answer c T).outcome) two.0 k.says)) h;
          }

      back : EndsAt c T N t at → Says (deadline_run_answer c T).outcome N (t ∷ at ∷ [])
      back k =
          let o : Outcome = (tick_answer c (deadline_run_answer c t).run).outcome in
          let two = says_tick o N t at k.says in
          let clean : (deadline_run_answer c t).outcome ≡ Clean = (cleanly_is (deadline_run_answer c t).outcome).0 k.cleanly in
          let so : Ends c T o = record {
            before = subst (λ (u : ℕ). u < T) (sym two.0) k.before;
            cleanly = subst (λ (u : ℕ). (deadline_run_answer c u).outcome ≡ Clean) (sym two.0) clean;
            says = ap (λ (u : ℕ). (tick_answer c (deadline_run_answer c u).run).outcome) two.0;
          } in
          subst (λ (p : Outcome). Says p N (t ∷ at ∷ [])) (sym ((ticks.run_ends c T ran o two.1).1 so)) k.says

  -- "it ends clean"
  module _ (ends : Cleanly (deadline_run_answer c T).outcome) where
    z : (deadline_run_answer c T).outcome ≡ Clean
    z = (cleanly_is (deadline_run_answer c T).outcome).0 ends

    -- "a run of T ticks"
    pub run_clock : (deadline_run_answer c T).run.clock ≡ T
    run_clock = ticks.run_clock c T ran z

    -- "the source fires if y divides t": it has fired T/y times, rounded up
    pub run_source : count_at (deadline_run_answer c T).run 0 ≡ ceil T c.period
    run_source = ticks.run_source c T ran z

    -- "the over-threshold node .. works one tick": what N_1 to N_n have worked, e for each firing and the work done of the next, is one tick for each instant
    -- below T at which one of them was over threshold after the source's step
    pub run_work : HowMany (λ t. Waits c (deadline_run_answer c t).run) T (total c (deadline_run_answer c T).run)
    run_work = ticks.run_work c T ran z

    -- "At each instant t below T": the instants of its firings never fall, and none is after T
    pub trace_rises : Rising 0 (trace c T (fresh_run c)) T
    trace_rises = entries_rise c T ran z

    -- "the source fires if y divides t": its firings stand at the multiples of y below T, once each
    pub trace_source : entries_of c T 0 ≡ tab (ceil T c.period) (λ k. k * c.period)
    trace_source = source_entries c T ran z

    module _ (j : ℕ) (l : j < c.n) where
      -- "the effect at t+1 of a firing then finished": N_(j+1)'s k-th firing, counted from 0, stands at the instant at which its count becomes k+1
      pub trace_when : (k t : ℕ) → ((k < length (entries_of c T (suc j))) × (get_or (entries_of c T (suc j)) k 0 ≡ t)) ↔ FiredAt c T j k t
      trace_when = entries_when c T ran z j l

      -- "works one tick": a firing takes its e ticks, so two successive ones are e or more apart, and the first is at e or later
      pub trace_apart : (k : ℕ) → suc k < length (entries_of c T (suc j)) → get_or (entries_of c T (suc j)) k 0 + work_of c j ≤ get_or (entries_of c T (suc j)) (suc k) 0
      trace_apart = entries_apart c T ran z j l

      pub trace_first : 0 < length (entries_of c T (suc j)) → work_of c j ≤ get_or (entries_of c T (suc j)) 0 0
      trace_first = entries_first c T ran z j l

module _ (c : Chain) (s : Run) where
  -- a tick is accepted exactly when the chain is, no capacity is below the minimum, the state passes 17, and neither a "clock of 1,000,000 or more" nor "a count at
  -- 4,294,967,295" is 9
  pub tick_when : ((tick_answer c s).number ≡ 0)
      ↔ ((Accepts c × ((j : ℕ) → j < c.n → Ample c j)) × (((j : ℕ) → j < c.n → Passes c s j) × ((s.clock < 1000000) × ((i : ℕ) → i ≤ c.n → count_at s i ≢ 4294967295))))
  unfolding tick_answer outcome_of
  tick_when = Iff.trans (tick_accepts c s) (
    λ k. let m = (may_run_is c).0 k.0 in (m, ((passes_is c s m.0).0 k.1.0, k.1.1)),
    λ k. ((may_run_is c).1 k.0, ((passes_is c s k.0.0).1 k.1.0, k.1.1)),
  )

  -- "A tick handed a clock of 1,000,000 or more is 9, place 0; then a count at 4,294,967,295 is 9, place the lowest such node", where nothing earlier is refused
  pub tick_nine : Accepts c × ((j : ℕ) → j < c.n → Ample c j) → ((j : ℕ) → j < c.n → Passes c s j) → (L : ℕ)
      → (((tick_answer c s).number ≡ 9) × ((tick_answer c s).place ≡ L)) ↔ (((1000000 ≤ s.clock) × (L ≡ 0)) ⊎ ((s.clock < 1000000) × LowestOf (Spent c s) L))
  unfolding Silents tick_answer outcome_of
  tick_nine may pass L = Iff.trans (said (tick_refusal c s) 9 L) (Iff.trans (tick_9 c s L) (
    λ h. ⊎_elim (λ a. inl a) (λ a. inr (a.0, record { has = (a.1.node, a.1.spent); before = λ j l t. a.1.before j l t.1 })) h.1,
    λ h. (
      silents_append (run_checks c) (state_check c s ∷ []) (run_quiet c may) ((state_silent c s).1 ((passes_is c s may.0).1 pass), tt),
      ⊎_elim (λ a. inl a) (λ a. inr (a.0, record { node = a.1.has.0; spent = a.1.has.1; before = λ j l e. a.1.before j l (omega (arith, a.1.has.0), e) })) h,
    ),
  ))

  -- one that is, of a state with all its slots
  module _ (slots : AllSlots s) (ok : (tick_answer c s).number ≡ 0) where
    -- it is one tick
    one : OneTick c s (left (tick_answer c s))
    one = answer_one c s (whole slots) ok

    -- "One tick at clock t is the source's step, one tick of work, the clock going to t+1, and the effect at t+1 of a firing then finished": it answers one such tick,
    -- and nothing else
    pub tick_is : (x : Ticked) → (tick_answer c s ≡ ran_as x) ↔ OneTick c s x
    tick_is = answer_exactly c s (whole slots) ok

    -- "overflowed at (tick, queue)": exactly when y divides the clock and queue 0 has no room, at the clock and at queue 0
    pub tick_overflows : (t q : ℕ) → OverflowedAt (tick_answer c s).outcome t q ↔ (((t ≡ s.clock) × (q ≡ 0)) × ((c.period ∣ s.clock) × ((line c 0).capacity < held_at s 0 + p_of c 0)))
    tick_overflows t q =
        let a : Accepted c = (accepts_is c).0 (tick_when.0 ok).0.0 in
        Iff.trans (overflowed_is (tick_answer c s).outcome t q) (rw (capacity_is c a 0 a.chain.count.0) (one_overflows one t q))

    -- "13 .. when, after the source's step, an over-threshold node's deadline can't be had, place the lowest such over-threshold node"
    pub tick_lacks : (t i : ℕ) → UndatedAt (tick_answer c s).outcome t i ↔ ((t ≡ s.clock) × Lacks c s i)
    tick_lacks t i = Iff.trans (undated_is (tick_answer c s).outcome t i) (one_lacks one t i)

    -- "it ends clean": exactly otherwise
    pub tick_cleans : Cleanly (tick_answer c s).outcome ↔ ((Spills c s → ⊥) × ((i : ℕ) → Lacks c s i → ⊥))
    tick_cleans = Iff.trans (cleanly_is (tick_answer c s).outcome) (one_cleans one)

    -- "the state being that before the production", and of 13 "that before the source's step": a tick that overflows or has no deadline leaves the state as it was
    pub tick_ends : (Cleanly (tick_answer c s).outcome → ⊥) → (tick_answer c s).run ≡ s
    tick_ends n = one_stays one (λ e. n ((cleanly_is (tick_answer c s).outcome).1 e))

    module _ (z : Cleanly (tick_answer c s).outcome) where
      -- a clean one leaves what the source's step, one tick of work and its effect make of the state, field by field
      pub tick_leaves : TickOnce c s (tick_answer c s).run
      tick_leaves = one_leaves one ((cleanly_is (tick_answer c s).outcome).0 z)

      -- "the clock going to t+1"
      pub tick_clock : (tick_answer c s).run.clock ≡ s.clock + 1
      tick_clock = tick_leaves.work.clock ∙ ap (λ (t : ℕ). t + 1) tick_leaves.source.clock

      -- "the source fires if y divides t", and else does not
      pub source_fires : (count_at (tick_answer c s).run 0 ≡ count_at s 0 + 1) ↔ (c.period ∣ s.clock)
      source_fires = once_counts tick_leaves

      pub source_rests : (count_at (tick_answer c s).run 0 ≡ count_at s 0) ↔ ((c.period ∣ s.clock) → ⊥)
      source_rests = once_keeps tick_leaves

-- what C is told of the answer a of a tick or a run: its number and place; kind 1, the tick and the queue exactly when it is overflowed; kind 2, the tick and the node
-- exactly when a deadline can't be had; 0, 0, 0 exactly when it is clean or refused
pub record Told (a : TickAnswer) (number place kind tick at : ℕ) : Type 0 where
  pub numbered : (number ≡ a.number) × (place ≡ a.place)
  pub overflowed : (t q : ℕ) → ((kind ≡ 1) × ((tick ≡ t) × (at ≡ q))) ↔ OverflowedAt a.outcome t q
  pub undated : (t i : ℕ) → ((kind ≡ 2) × ((tick ≡ t) × (at ≡ i))) ↔ UndatedAt a.outcome t i
  pub cleanly : ((kind ≡ 0) × ((tick ≡ 0) × (at ≡ 0))) ↔ ((a.number ≢ 0) ⊎ Cleanly a.outcome)

-- which its code, tick and place tell
told : (a : TickAnswer) → (a.number ≢ 0 → Cleanly a.outcome) → Told a a.number a.place (kind_of a.outcome) (tick_of a.outcome) (at_of a.outcome)
told a refusal = record {
  numbered = (refl, refl);
  overflowed = coded_overflowed a.outcome;
  undated = coded_undated a.outcome;
  cleanly = (λ h. inr ((coded_clean a.outcome).0 h), ⊎_elim (λ n. (coded_clean a.outcome).1 (refusal n)) (coded_clean a.outcome).1);
}

-- of a tick
pub tick_told : (c : Chain) (s : Run) → let r = coded (tick_answer c s) in Told (tick_answer c s) r.number r.place r.kind r.tick r.at
tick_told c s = told (tick_answer c s) (λ n. (tick_stays c s n).0)

-- and of a run, with the state that it leaves
pub run_told : (c : Chain) (T : ℕ) → let r = flat (deadline_run_answer c T) in Told (deadline_run_answer c T) r.number r.place r.kind r.tick r.at × (r.run ≡ (deadline_run_answer c T).run)
run_told c T = (told (deadline_run_answer c T) (λ n. (deadline_run_empty c T n).0), refl)

-- what C's tick asks of its answer before it stores a state: true exactly of a tick that is not refused and ends clean. Of any other the state is the one handed in
-- (tick_stays, tick_ends), so that there is nothing to store
pub tick_stores : (c : Chain) (s : Run) → (is_clean (coded (tick_answer c s)) ≡ true) ↔ (((tick_answer c s).number ≡ 0) × Cleanly (tick_answer c s).outcome)
tick_stores c s = Iff.trans (clean_exactly (tick_answer c s)) (Iff.and Iff.rfl (Iff.symm (cleanly_is (tick_answer c s).outcome)))

-- "Reading a written chain file gives the chain back": a chain c that is written into lent bytes o, which become p; slots past n, of which the file has
-- nothing, are zero in the chain that is read
pub reads_back : (c : Chain) (o p : List ℕ) (a : LengthAnswer) → Output (write_refusal c (length o)) (packed c) o p a → a.number ≡ 0
    → read_answer (take (packed_length c.n) p) ≡ record { number = 0; place = 0; chain = trimmed c }
reads_back = read_of_write

-- "writing a chain that was read gives the packed file": of any file f that is read, and any lent bytes o with room
pub writes_packed : (f o p : List ℕ) (r : ChainAnswer) (a : LengthAnswer) → Bytes f → r ≡ read_answer f → r.number ≡ 0 → packed_length (count_of f) ≤ length o
    → Output (write_refusal r.chain (length o)) (packed r.chain) o p a
    → (a ≡ record { number = 0; place = 0; length = packed_length (count_of f) }) × (p ≡ packed_file f ++ drop (packed_length (count_of f)) o)
writes_packed = write_of_read

-- which is that file itself where it was packed
pub packed_is_itself : (f : List ℕ) → Bytes f → (read_answer f).number ≡ 0 → queues_at f ≡ 20 → nodes_at f ≡ 20 + 20 * count_of f → length f ≡ packed_length (count_of f) → packed_file f ≡ f
unfolding read_answer
packed_is_itself = packed_again
