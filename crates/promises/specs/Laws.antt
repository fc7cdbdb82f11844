-- What the theorems of the demands are proved by: what a line of the analysis says, and permitted orders and immediate runs by their definitions.
--   line_is, x-, y-, minimum-, by-, capacity-, margin_is
--                            the line of a queue by 01's formulas, and its parts
--   rate_x_is, rate_y_is     a node's reported rate
--   report_is                the analysis that is answered
--   least_own, minimum_as, largest_multiple
--                            minimum and naming count of a queue in words, its minimum by its residue, and that this is a largest multiple
--   may_run_is, run_quiet    two ways to say of a chain that it may run; and then none of the checks of a run speaks
--   silents_append, _parts, _last
--                            nor of two lists of checks in a row where none of either does, and only there; of a list with one check behind it
--   whole, all_slots, passes_at, passes_is, over_is
--                            two ways to say of a state that it has all slots, that it passes 17, and that a node in it is over threshold
--   index_down               an index on the way down to the source
--   taken, fed_by            what a firing takes, and a count from the one before it
--   each_firing, one_firing  what holds of each firing of an order, from what holds of one of them, and back
--   running_after            a state that passes 17 still does after permitted firings
--   accepted, permits, state_is, moment, running_at, prompts
--                            of a permitted order: its chain, its firings, its state, the state at each moment, that this passes 17, and that the order is prompt
--   quiet, parts, sound, ends_in, keeps
--                            of an immediate run: its checks, what they leave to be known, and its state
--   coded_overflowed, _undated, _clean
--                            an outcome by what C is told of it
--   output_silent            a call that writes is not refused exactly when its checks are silent
--   write_alike              chains that differ in slots past n only are written alike
--   Each, Firings            something holds at each moment of a list, or of each of its firings, one by one
use Rattle.std.specs.Prelude.{◌≡◌, ◌↔◌, ℕ, zero, suc, ◌+◌, ◌*◌, ◌≤◌, ◌<◌, length, get_or}
use Rattle.std.proofs.Math.Path.{refl, ap}
use Rattle.std.proofs.Common.{sym, subst, ◌∙◌, zero-add, arith}
use mathlib.Core.List.{List, [], ◌∷◌, ◌++◌}
use Rattle.std.specs.Int.{◌∣◌}
use Rattle.std.proofs.Math.Nat.{zero-mod, mod-eq-zero_of_dvd, dvd_of_mod-eq-zero}
use Rattle.std.proofs.lemmas.Bool.{lt-leb}
use Rattle.ardenquill.specs.Chains.{row, row_of, first, Silent, Silents, first_silent, Sound}
use Rattle.ardenquill.specs.Files.{bytes_of, packed_length, header, rows, nodes, packed, room_check, write_refusal, Output}
use Rattle.ardenquill.specs.Analyses.{gcd, gcd_pos_left, residue, Largest, residue_largest, largest_unique, IsLeast, least_is, x_of, y_of, source_rate}
use Rattle.ardenquill.specs.Analyses.{least_of, minimum_of, naming_of, capacity_of, margin_of, size_by, size_of, no_size, size_at, analysis_of}
use Rattle.ardenquill.specs.Analyses.{analyse_answer, Accepted, analysed, Enough, run_checks, run_refusal, run_accepts}
use Rattle.ardenquill.specs.Runs.{held_at, fresh_run, answered, fired, StateSound, Whole, Firing, firing_is, held_input, over_enough, AlikeChains, flat_alike, record_alike, Over, Steady}
use Rattle.ardenquill.specs.Histories.{after, Permitted, Prompt, EachFiring, each_before}
use Rattle.ardenquill.specs.Immediate as immediate
use Rattle.ardenquill.specs.Immediate.{F, fires, Reached, schedule, most, immediate_refusal, immediate_answer, immediate_accepts, immediate_ran}
use Rattle.ardenquill.specs.Deadlines.{earlier, index}
use Rattle.ardenquill.specs.Ticks.{kind_of, tick_of, at_of, Running, fired_running, fresh_running}
use Rattle.ardenquill.specs.Records.{Refusal, Queue, Chain, LengthAnswer, QueueSize, Analysis, AnalysisAnswer, Run, Outcome, Clean, Overflowed, NoDeadline}
use Rattle.promises.specs.Outcomes.{Cleanly, OverflowedAt, UndatedAt}
use Rattle.promises.specs.Replay.{p_of, τ_of, c_of, Accepts, AllSlots, Passes, Ample, line, rate_x, rate_y, replay_answer, Fires, AtOnce, Runs, accepts_is, fires_is, fires_state, fires_before}

-- the line of a queue of an accepted chain
module _ (c : Chain) (a : Accepted c) where
  -- the whole analysis
  pub report_is : (analyse_answer c).analysis ≡ analysis_of c
  report_is = ap (λ (r : AnalysisAnswer). r.analysis) (analysed c refl ((accepts_is c).1 a)).1

  module _ (j : ℕ) (l : j < c.n) where
    pub line_is : line c j ≡ size_of c j
    line_is = ap (λ (r : Analysis). get_or r.queues j no_size) report_is ∙ size_at c j a.chain.count.1 l

    pub x_is : (line c j).x ≡ x_of c (suc j)
    unfolding size_by
    x_is = ap (λ (q : QueueSize). q.x) line_is

    pub y_is : (line c j).y ≡ y_of c (suc j)
    unfolding size_by
    y_is = ap (λ (q : QueueSize). q.y) line_is

    pub minimum_is : (line c j).minimum ≡ minimum_of (row_of c j)
    unfolding size_by
    minimum_is = ap (λ (q : QueueSize). q.minimum) line_is

    pub by_is : (line c j).by ≡ naming_of (row_of c j)
    unfolding size_by
    by_is = ap (λ (q : QueueSize). q.by) line_is

    pub capacity_is : (line c j).capacity ≡ capacity_of (row_of c j)
    unfolding size_by
    capacity_is = ap (λ (q : QueueSize). q.capacity) line_is

    pub margin_is : (line c j).margin ≡ margin_of (row_of c j)
    unfolding size_by
    margin_is = ap (λ (q : QueueSize). q.margin) line_is

    -- its minimum and its naming count, in words
    pub least_own : IsLeast 0 (p_of c j) (τ_of c j) (c_of c j) (least_of (row_of c j))
    least_own = (least_is 0 _ _ _ (a.chain.rows j l).threshold.0 (a.chain.rows j l).produce.0 _).1 refl

    -- its minimum by what the residue is
    pub minimum_as : {r : ℕ} → residue 0 (τ_of c j) (gcd (p_of c j) (c_of c j)) ≡ r → (line c j).minimum ≡ r + p_of c j
    minimum_as e =
        let last = residue_largest 0 _ _ (a.chain.rows j l).threshold.0 (gcd_pos_left _ _ (a.chain.rows j l).produce.0) in
        minimum_is ∙ least_own.minimum ∙ ap (λ (n : ℕ). n + p_of c j) (largest_unique least_own.largest last ∙ e)

  -- the rate of a node
  pub rate_x_is : (i : ℕ) → i ≤ c.n → rate_x c i ≡ x_of c i
  rate_x_is zero l = sym (source_rate c).0
  rate_x_is (suc j) l = x_is j l

  pub rate_y_is : (i : ℕ) → i ≤ c.n → rate_y c i ≡ y_of c i
  rate_y_is zero l = sym (source_rate c).1
  rate_y_is (suc j) l = y_is j l

-- the largest multiple of g below τ, by remainders
pub largest_multiple : (τ g r : ℕ) → Largest 0 τ g r → (g ∣ r) × ((m : ℕ) → g ∣ m → m < τ → m ≤ r)
largest_multiple τ g r l = (dvd_of_mod-eq-zero g (l.rest ∙ zero-mod g), λ m d b. l.top m b (mod-eq-zero_of_dvd g d ∙ sym (zero-mod g)))

-- two ways to say of a chain that it may run
pub may_run_is : (c : Chain) → (Accepted c × ((j : ℕ) → j < c.n → Enough c j)) ↔ (Accepts c × ((j : ℕ) → j < c.n → Ample c j))
may_run_is c = (
  λ p. ((accepts_is c).1 p.0, λ j l. rw (minimum_is c p.0 j l) (p.1 j l)),
  λ p. let a : Accepted c = (accepts_is c).0 p.0 in (a, λ j l. rw (minimum_is c a j l) at (p.1 j l)),
)

-- and then none of the checks of a run speaks
pub run_quiet : (c : Chain) → Accepts c × ((j : ℕ) → j < c.n → Ample c j) → Silents (run_checks c)
unfolding run_refusal
run_quiet c may = (first_silent (run_checks c)).0 ((run_accepts c).1 ((may_run_is c).1 may))

-- none of two lists of checks in a row speaks where none of either does
pub silents_append : (rs qs : List Refusal) → Silents rs → Silents qs → Silents (rs ++ qs)
unfolding Silents
silents_append [] qs a b = b
silents_append (r ∷ rs) qs a b = (a.0, silents_append rs qs a.1 b)

pub silents_parts : (rs qs : List Refusal) → Silents (rs ++ qs) → Silents rs × Silents qs
unfolding Silents
silents_parts [] qs a = (tt, a)
silents_parts (r ∷ rs) qs a = let p = silents_parts rs qs a.1 in ((a.0, p.0), p.1)

pub silents_last : (rs : List Refusal) (r : Refusal) → Silents (rs ++ (r ∷ [])) ↔ (Silents rs × Silent r)
unfolding Silents
silents_last rs r = (λ a. let p = silents_parts rs (r ∷ []) a in (p.0, p.1.0), λ a. silents_append rs (r ∷ []) a.0 (a.1, tt))

-- two ways to say of a state that it has all slots
pub whole : {s : Run} → AllSlots s → Whole s
whole k = record { counts = k.counts; held = k.held; done = k.done }

pub all_slots : {s : Run} → Whole s → AllSlots s
all_slots k = record { counts = k.counts; held = k.held; done = k.done }

-- and that it passes 17, at a queue and at all of them
pub passes_at : (c : Chain) (s : Run) → Accepts c → (j : ℕ) → j < c.n → Steady c s j ↔ Passes c s j
passes_at c s ok j l = (
  λ k. record { balance = k.0.0; capacity = rw (capacity_is c ((accepts_is c).0 ok) j l) k.0.1; work = k.1 },
  λ k. ((k.balance, rw (capacity_is c ((accepts_is c).0 ok) j l) at k.capacity), k.work),
)

pub passes_is : (c : Chain) (s : Run) → Accepts c → StateSound c s ↔ ((j : ℕ) → j < c.n → Passes c s j)
passes_is c s ok = (λ k j l. (passes_at c s ok j l).0 (k j l), λ k j l. (passes_at c s ok j l).1 (k j l))

-- and that N_i may fire in it: "when its input queue holds at least τ; N_0 always"
pub over_is : (c : Chain) (s : Run) (i : ℕ) → Over c s i ↔ ((j : ℕ) → i ≡ suc j → τ_of c j ≤ held_at s j)
over_is c s zero = (λ o j e. absurd (omega arith), λ h. tt)
over_is c s (suc q) = (λ o j e. subst (λ (m : ℕ). τ_of c m ≤ held_at s m) (omega arith) o, λ h. h q refl)

-- N_j's index on the way down from N_(i+1) is that from N_i
pub index_down : (c : Chain) (i k j : ℕ) → j ≤ i → index c (suc i) k j ≡ index c i (earlier (row_of c i) k) j
unfolding index
index_down c i k j l = simp (lt-leb (suc i) j (omega arith))

-- what an accepted firing of N_(j+1) takes from queue j
pub taken : {c : Chain} {s : Run} {j : ℕ} → Whole s → Firing c s (suc j) → held_at (fired c s (suc j)) j + c_of c j ≡ held_at s j
taken {c} {s} {j} w f = held_input c s j (omega (arith, w.held, f.chain.chain.count.1, f.may.node)) (over_enough f.chain.chain s j f.may.node f.may.over)

-- N_(i+1)'s count in an immediate run is what N_i's puts allow
pub fed_by : (c : Chain) (k i : ℕ) → F c k (suc i) ≡ fires (τ_of c i) (c_of c i) (p_of c i * F c k i)
unfolding F
fed_by c k i = ap (fires (τ_of c i) (c_of c i)) (zero-add _)

-- what holds of each firing, said by what was fired before it
module _ (c : Chain) (P : Run → ℕ → Type 0) where
  -- of all of them, from one by one
  pub each_firing : (s : Run) (h : List ℕ) → ((before later : List ℕ) (i : ℕ) → h ≡ before ++ (i ∷ later) → P (after c s before) i) → EachFiring c P s h
  unfolding EachFiring after
  each_firing s [] one = tt
  each_firing s (i ∷ h) one = (one [] h i refl, each_firing (fired c s i) h (λ g k m e. one (i ∷ g) k m (ap (λ (t : List ℕ). i ∷ t) e)))

  -- and of one of them
  pub one_firing : (s : Run) (g : List ℕ) (i : ℕ) (k : List ℕ) → EachFiring c P s (g ++ (i ∷ k)) → P (after c s g) i
  unfolding EachFiring after
  one_firing s [] i k p = p.0
  one_firing s (m ∷ g) i k p = one_firing (fired c s m) g i k p.1

-- a state that passes 17 still does after firings that manual firing permits
pub running_after : {c : Chain} {s : Run} → Running c s → (h : List ℕ) → Permitted c s h → Running c (after c s h)
unfolding EachFiring after
running_after r [] ok = r
running_after {c} {s} r (i ∷ h) ok = let f : Firing c s i = (firing_is c s i).0 ok.0 in running_after {s = fired c s i} (fired_running r i f.may.over f.may.room) h ok.1

-- a permitted order
module _ (c : Chain) (h : List ℕ) (ok : Fires c h) where
  -- the chain is accepted
  pub accepted : Accepted c
  accepted = ((fires_is c h).0 ok).0

  -- each firing is one that manual firing accepts
  pub permits : Permitted c (fresh_run c) h
  permits = ((fires_is c h).0 ok).1

  -- the state is the one that the firings lead to
  pub state_is : (replay_answer c h).run ≡ after c (fresh_run c) h
  state_is = fires_state c h ok

  -- the state at a moment
  pub moment : (g k : List ℕ) → h ≡ g ++ k → (replay_answer c g).run ≡ after c (fresh_run c) g
  moment g k e = fires_state c g (fires_before c g k (subst (Fires c) e ok))

  -- which passes 17, with all its slots
  pub running_at : (g k : List ℕ) → h ≡ g ++ k → Running c (replay_answer c g).run
  running_at g k e = rw (moment g k e) (running_after (fresh_running accepted) g (each_before c _ (fresh_run c) g k (subst (Permitted c (fresh_run c)) e permits)))

  -- nodes that fire at once, as a history has it
  pub prompts : AtOnce c h → Prompt c (fresh_run c) h
  prompts low = each_firing c _ (fresh_run c) h (λ g k i e. rw (moment g (i ∷ k) e) at (low g k i e))

-- the immediate run of k source firings
module _ (c : Chain) (k : ℕ) (ran : Runs c k) where
  -- no check of the run speaks
  pub quiet : (immediate_refusal c k).number ≡ 0
  unfolding immediate_answer answered
  quiet = ran

  -- the chain is accepted, its capacities are enough, and its counts are within the limit
  pub parts : (Accepted c × ((i : ℕ) → i < c.n → Enough c i)) × ((i : ℕ) → i ≤ c.n → F c k i ≤ most)
  parts = (immediate_accepts c k).0 quiet

  -- so its fields are in their ranges
  pub sound : Sound c
  sound = parts.0.0.chain

  -- the run ends in the state that its order leads to
  pub ends_in : (immediate_answer c k).run ≡ after c (fresh_run c) (schedule c k)
  ends_in = immediate_ran c k quiet

  -- which keeps what firings keep
  pub keeps : Reached c (immediate_answer c k).run
  keeps = rw ends_in (immediate.reached sound k)

-- an outcome by what C is told of it: its code, its tick, and its queue or node
pub coded_overflowed : (o : Outcome) (t q : ℕ) → ((kind_of o ≡ 1) × ((tick_of o ≡ t) × (at_of o ≡ q))) ↔ OverflowedAt o t q
coded_overflowed Clean t q = (λ h. absurd (omega (arith, h.0)), λ h. absurd (let n : ◌≡◌ {A = ℕ} 0 2 = ap length h.1 in omega arith))
coded_overflowed (Overflowed u r) t q = (λ h. (refl, λ k. h.1.0 k ∷ h.1.1 k ∷ []), λ h. (refl, (ap (λ (vs : List ℕ). get_or vs 0 0) h.1, ap (λ (vs : List ℕ). get_or vs 1 0) h.1)))
coded_overflowed (NoDeadline u i) t q = (λ h. absurd (omega (arith, h.0)), λ h. absurd (omega (arith, h.0)))

pub coded_undated : (o : Outcome) (t m : ℕ) → ((kind_of o ≡ 2) × ((tick_of o ≡ t) × (at_of o ≡ m))) ↔ UndatedAt o t m
coded_undated Clean t m = (λ h. absurd (omega (arith, h.0)), λ h. absurd (omega (arith, h.0)))
coded_undated (Overflowed u r) t m = (λ h. absurd (omega (arith, h.0)), λ h. absurd (omega (arith, h.0)))
coded_undated (NoDeadline u i) t m = (λ h. (refl, λ k. h.1.0 k ∷ h.1.1 k ∷ []), λ h. (refl, (ap (λ (vs : List ℕ). get_or vs 0 0) h.1, ap (λ (vs : List ℕ). get_or vs 1 0) h.1)))

pub coded_clean : (o : Outcome) → ((kind_of o ≡ 0) × ((tick_of o ≡ 0) × (at_of o ≡ 0))) ↔ Cleanly o
coded_clean Clean = (λ h. (refl, refl), λ h. (refl, (refl, refl)))
coded_clean (Overflowed t q) = (λ h. absurd (omega (arith, h.0)), λ h. absurd (let n : ◌≡◌ {A = ℕ} 2 0 = ap length h.1 in omega arith))
coded_clean (NoDeadline t i) = (λ h. absurd (omega (arith, h.0)), λ h. absurd (omega (arith, h.0)))

-- a call that writes answers 0 exactly when its checks are silent
pub output_silent : {r : Refusal} {t o p : List ℕ} {a : LengthAnswer} → Output r t o p a → (a.number ≡ 0) ↔ Silent r
output_silent w = (λ z. sym (ap (λ (x : LengthAnswer). x.number) w.answer) ∙ z, λ z. ap (λ (x : LengthAnswer). x.number) w.answer ∙ z)

-- chains that differ in slots past n only are written alike
module _ {c d : Chain} (a : AlikeChains c d) where
  rows_alike : rows c c.n ≡ rows d d.n
  rows_alike = flat_alike _ _ c.n (λ i l. ap (λ (q : Queue). row q) (a.rows i l)) ∙ ap (rows d) a.n

  nodes_alike : nodes c c.n ≡ nodes d d.n
  nodes_alike = flat_alike _ _ c.n (λ i l. ap (λ (e : ℕ). e ∷ []) (a.work i l)) ∙ ap (nodes d) a.n

  pub write_alike : (room : ℕ) → (write_refusal c room ≡ write_refusal d room) × (packed c ≡ packed d)
  unfolding write_refusal packed
  write_alike room = (
    λ k. first (record_alike a k ++ (room_check (packed_length (a.n k)) room ∷ [])),
    λ k. bytes_of (header (a.n k) (a.period k) ++ (rows_alike k ++ nodes_alike k)),
  )

-- P holds at each moment of a list, of what it begins with
unfoldable pub Each : (List ℕ → Type 0) → List ℕ → Type 0
Each P [] = P []
Each P (i ∷ h) = P [] × Each (λ g. P (i ∷ g)) h

-- so of each beginning
pub each_at : (P : List ℕ → Type 0) (g k : List ℕ) → Each P (g ++ k) → P g
unfolding Each
each_at P [] [] h = h
each_at P [] (i ∷ k) h = h.0
each_at P (i ∷ g) k h = each_at (λ l. P (i ∷ l)) g k h.1

-- P holds of each firing of a list, and of what it was fired after
unfoldable pub Firings : (List ℕ → ℕ → Type 0) → List ℕ → Type 0
Firings P [] = Unit
Firings P (i ∷ h) = P [] i × Firings (λ g. P (i ∷ g)) h

-- so of each firing
pub firing_at : (P : List ℕ → ℕ → Type 0) (g k : List ℕ) (i : ℕ) → Firings P (g ++ (i ∷ k)) → P g i
unfolding Firings
firing_at P [] k i h = h.0
firing_at P (m ∷ g) k i h = firing_at (λ l. P (m ∷ l)) g k i h.1
