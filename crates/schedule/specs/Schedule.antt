-- The order of the immediate run (01, Firing), as a history that is computed.
--   joined f r N             f at N, N + 1, .. N + r - 1, joined
--   burst c m i N            what the firing of N_i that takes its count from N to N + 1 sets off, m queues being left towards the sink
--   schedule c k             the immediate run of k source firings, from a fresh start; schedule_none, schedule_more: one firing after the other
--   Next c s i               01's rule: N_i is the node nearest the sink that may fire
--   next_one, HasNext, next_some
--                            there is exactly one such node in every state
--   Follows c s h            each firing of h, from s on, is by the rule
--   Ran c s i M h            what firings h by the rule leave of N_i and the nodes after it
--   Bursts c i f, burst_runs each burst of N_i takes its count from N to N + 1 and settles the queues after it
--   Tight c s                no queue holds more than its minimum; fresh_tight, tight_fired: by the rule none ever does
-- What is named here and not declared stands in proofs/ScheduleLaws.antt.
use Rattle.std.specs.Prelude.{◌≡◌, List, [], ◌∷◌, ◌++◌}
use Rattle.std.proofs.Common.{sym, ◌∙◌, append-nil, append_assoc, add-zero}
use Rattle.std.proofs.Math.Path.{ap}
use Rattle.std.proofs.Math.Logic.{by_cases}
use Prim.Native.Nat.{ℕ, zero, suc, ◌+◌, ◌-◌, ◌*◌, ◌≤◌, ◌<◌}
use Rattle.std.proofs.Math.Decide.{ℕ_discrete}
use native.Mathlib.Omega.{arith}
use Rattle.chain.specs.Record.{row_of}
use Rattle.chain.specs.Sound.{Sound}
use Rattle.chain.specs.declared.Chain.{Chain}
use Rattle.onequeue.proofs.LeastLaws.{minimum_threshold}
use Rattle.events.specs.Counts.{fires}
use Rattle.events.proofs.CountsLaws.{fires_reach, fires_settles}
use Rattle.sizing.specs.Sizes.{start, minimum_of}
use Rattle.state.specs.State.{count_at, held_at, fresh_run, fresh_held}
use Rattle.state.specs.Fired.{Over}
use Rattle.state.specs.declared.Run.{Run}
use Rattle.history.specs.History.{times, after, EachFiring}
use Rattle.history.proofs.QueuesLaws.{times_again, times_other}
use Rattle.schedule.specs.Counts.{fed}
use Rattle.schedule.specs.Reached.{Reached, Calm}

-- f at N, N + 1, .., r of them
unfoldable pub joined : (ℕ → List ℕ) → ℕ → ℕ → List ℕ
joined f zero N = []
joined f (suc r) N = f N ++ joined f r (suc N)

-- "firing a node settles the queue after it, and settling a queue fires the node after it until the queue is below threshold": as often as
-- the exact counts differ
unfoldable pub burst : Chain → ℕ → ℕ → ℕ → List ℕ
unfolding joined fires
burst c zero i N = i ∷ []
burst c (suc m) i N = i ∷ joined (burst c m (suc i)) (fed c i (suc N) - fed c i N) (fed c i N)

-- "a run of k source firings from a fresh start"
unfoldable pub schedule : Chain → ℕ → List ℕ
unfolding burst
schedule c k = joined (burst c c.n 0) k 0

-- one more source firing, at the end
pub joined_last : (f : ℕ → List ℕ) (r N : ℕ) → joined f (suc r) N ≡ joined f r N ++ f (N + r)
unfolding joined
joined_last f zero N = append-nil (f N) ∙ ap f (sym (add-zero N))
joined_last f (suc r) N =
    ap (λ (h : List ℕ). f N ++ h) (joined_last f r (suc N) ∙ ap (λ (m : ℕ). joined f r (suc N) ++ f m) (omega arith)) ∙ sym (append_assoc (f N) (joined f r (suc N)) (f (N + suc r)))

-- "no source firing happens while another node may fire, and among those that may, the one nearest the sink goes first"
pub record Next (c : Chain) (s : Run) (i : ℕ) : Type 0 where
  pub node : i ≤ c.n
  pub over : Over c s i
  pub nearest : Calm c s i

-- and there is always one: the search goes from the sink down, and ends at the source
pub record HasNext (c : Chain) (s : Run) : Type 0 where
  pub at : ℕ
  pub next : Next c s at

-- a history by the rule
abbrev pub Follows : Chain → Run → List ℕ → Type 0
Follows c = EachFiring c (Next c)

-- what firings by the rule from s leave, of N_i and the nodes after it: N_i has fired M times, no node after it is over threshold, and no node
-- before it has fired
pub record Ran (c : Chain) (s : Run) (i M : ℕ) (h : List ℕ) : Type 0 where
  pub follows : Follows c s h
  pub reached : Reached c (after c s h)
  pub calm : Calm c (after c s h) i
  pub same : (j : ℕ) → j < i → count_at (after c s h) j ≡ count_at s j
  pub ends : count_at (after c s h) i ≡ M

-- f N is a run of one firing of N_i, from N to N + 1, with what it sets off
abbrev pub Bursts : Chain → ℕ → (ℕ → List ℕ) → Type 0
Bursts c i f = (s : Run) (N : ℕ) → count_at s i ≡ N → Reached c s → Calm c s i → Over c s i → Ran c s i (suc N) (f N)

-- N_i may fire until it has fired M times, whatever the nodes after it do
abbrev pub Ready : Chain → Run → ℕ → ℕ → Type 0
Ready c s i M = (t : Run) → Reached c t → ((j : ℕ) → j < i → count_at t j ≡ count_at s j) → count_at t i < M → Over c t i

-- a queue that is owed a firing holds τ
pub still_over : (s p τ d N M x : ℕ) → 0 < d → s + p * N ≡ x + d * M → M < fires τ d (s + p * N) → τ ≤ x
still_over s p τ d N M x hd b l = omega (arith, (fires_reach τ d (s + p * N) M hd).0 l, b)

-- and one whose consumer has fired so often is below τ
pub now_below : (s p τ d N M x : ℕ) → 0 < d → s + p * N ≡ x + d * M → M ≡ fires τ d (s + p * N) → x < τ
now_below s p τ d N M x hd b e = omega (arith, fires_settles τ d (s + p * N) hd, ap (λ (n : ℕ). d * n) e, b)

-- how often the source fires after a first node
pub times_rest : (i j : ℕ) (g h : List ℕ) → i ≡ j → times 0 (i ∷ g) ≡ times 0 (j ∷ h) → times 0 g ≡ times 0 h
times_rest i j g h same e = by_cases (ℕ_discrete i 0)
    (λ z. omega (arith, times_again i 0 g z, times_again j 0 h (sym same ∙ z), e))
    (λ ne. omega (arith, times_other i 0 g ne, times_other j 0 h (λ z. ne (same ∙ z)), e))

-- no queue holds more than its minimum
abbrev pub Tight : Chain → Run → Type 0
Tight c s = (j : ℕ) → j < c.n → held_at s j ≤ minimum_of (row_of c j)

-- at a fresh start none does
pub fresh_tight : {c : Chain} → Sound c → Tight c (fresh_run c)
fresh_tight {c} k j l =
    let q = k.rows j l in
    let most = minimum_threshold (start (row_of c j)) (row_of c j).produce (row_of c j).threshold (row_of c j).consume q.threshold.0 q.produce.0 in
    omega (arith, fresh_held k j l, most, q.threshold.0)
