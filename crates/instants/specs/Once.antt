-- What a clean tick leaves (01, Firing), field by field, and that nothing else fits.
--   Works c u w                N_w is the one that works in u: no node over threshold is due earlier, none as early nearer the sink; w is 0 where none is over
--   Effect c u j t             the effect of a finished firing of N_(j+1) on u, in t
--   WorkOnce c u w t           t is u after one tick of work of N_w, and after the effect of its firing where that is then finished
--   work_once, work_only       what a tick of work leaves is that, and nothing else is
--   TickOnce c s t             t is s after one clean tick
--   work_source                a tick of work is none of the source's
-- What is named here and not declared stands in proofs/OnceLaws.antt.
use Rattle.std.specs.Prelude.{◌≡◌, refl, ◌≢◌, List, ℕ, zero, suc, ◌+◌, ◌≤◌, ◌<◌, get_or}
use Rattle.std.proofs.Common.{sym, ◌∙◌, ext_get_or}
use Rattle.std.proofs.Math.Path.{ap}
use Rattle.std.proofs.Math.Logic.{by_cases}
use Rattle.std.proofs.Math.Decide.{ℕ_discrete, dec_lt}
use native.Mathlib.Omega.{arith}
use Rattle.chain.specs.Record.{row_of, work_of}
use Rattle.chain.specs.declared.Chain.{Chain}
use Rattle.state.specs.State.{count_at, held_at, done_at, same_run}
use Rattle.state.specs.Fired.{fired, Over}
use Rattle.state.specs.declared.Run.{Run}
use Rattle.slots.specs.Runs.{Whole}
use Rattle.deadline.specs.Deadline.{deadline}
use Rattle.instants.specs.Steps.{with_done, worked}
use Rattle.instants.specs.Filled.{Filled}
use Rattle.instants.specs.Source.{Due, Fits, SourceOnce}
use Rattle.instants.specs.Outcomes.{Dated}

-- "the over-threshold node whose next firing has the earliest deadline, ties to the one nearest the sink"; 0 where no node but the source is over threshold
pub record Works (c : Chain) (u : Run) (w : ℕ) : Type 0 where
  pub node : w ≤ c.n
  pub over : 0 < w → Over c u w
  pub some : (j : ℕ) → 0 < j → j ≤ c.n → Over c u j → 0 < w
  pub early : (j : ℕ) → 0 < j → j ≤ c.n → Over c u j → deadline c w (suc (count_at u w)) ≤ deadline c j (suc (count_at u j))
  pub tie : (j : ℕ) → w < j → j ≤ c.n → Over c u j → deadline c w (suc (count_at u w)) < deadline c j (suc (count_at u j))

-- "a finished firing adds p to the output queue, if any, then removes c from the input queue": N_(j+1) has fired once more, its work is cleared, all else is as it was
pub record Effect (c : Chain) (u : Run) (j : ℕ) (t : Run) : Type 0 where
  pub count : count_at t (suc j) ≡ count_at u (suc j) + 1
  pub counts : (m : ℕ) → m ≢ suc j → count_at t m ≡ count_at u m
  pub output : suc j < c.n → held_at t (suc j) ≡ held_at u (suc j) + (row_of c (suc j)).produce
  pub input : held_at t j + (row_of c j).consume ≡ held_at u j
  pub held : (m : ℕ) → m ≢ j → (m ≡ suc j → c.n ≤ m) → held_at t m ≡ held_at u m
  pub done : done_at t j ≡ 0

-- "works one tick, keeping work already done", "the clock going to t+1, and the effect at t+1 of a firing then finished"; w is 0 where no node works
pub record WorkOnce (c : Chain) (u : Run) (w : ℕ) (t : Run) : Type 0 where
  pub whole : Whole t
  pub clock : t.clock ≡ u.clock + 1
  pub others : (k : ℕ) → w ≢ suc k → done_at t k ≡ done_at u k
  pub idle : w ≡ 0 → (t.counts ≡ u.counts) × (t.held ≡ u.held)
  pub on : (j : ℕ) → w ≡ suc j → done_at u j + 1 ≢ work_of c j → (done_at t j ≡ done_at u j + 1) × ((t.counts ≡ u.counts) × (t.held ≡ u.held))
  pub ends : (j : ℕ) → w ≡ suc j → done_at u j + 1 ≡ work_of c j → Effect c u j t

module _ {c : Chain} {u : Run} (r : Filled c u) where
  module _ (j : ℕ) (l : j < c.n) where
    -- one that is
    module _ (all : done_at u j + 1 ≡ work_of c j) (o : Over c u (suc j)) (t : Run) (is : t ≡ fired c (with_done (worked u (suc j)) j 0) (suc j)) (whole : Whole t) where
      -- the state before the effect
      abbrev pub cleared : Run
      cleared = with_done (worked u (suc j)) j 0

-- two states that are both u after a tick of work of N_w are one
module _ {c : Chain} {u : Run} {w : ℕ} {t v : Run} (a : WorkOnce c u w t) (b : WorkOnce c u w v) where
  -- the same work, counts and contents, each slot by slot
  abbrev Alike : Type 0
  Alike = ((m : ℕ) → done_at t m ≡ done_at v m) × (((m : ℕ) → count_at t m ≡ count_at v m) × ((m : ℕ) → held_at t m ≡ held_at v m))

  -- of lists that are u's
  as_lists : {x y z : List ℕ} → x ≡ z → y ≡ z → (m : ℕ) → get_or x m 0 ≡ get_or y m 0
  as_lists e f m = ap (λ (l : List ℕ). get_or l m 0) (e ∙ sym f)

  -- of work that is the same at N_w
  as_work : (j : ℕ) → w ≡ suc j → done_at t j ≡ done_at v j → (m : ℕ) → done_at t m ≡ done_at v m
  as_work j e h m = by_cases (ℕ_discrete m j) (λ z. rw z h) (λ n. let ne : w ≢ suc m = λ f. n (omega arith) in a.others m ne ∙ sym (b.others m ne))

  -- of an effect
  as_effect : (j : ℕ) → w ≡ suc j → Effect c u j t → Effect c u j v → Alike
  as_effect j e f g = (as_work j e (f.done ∙ sym g.done), (count, hold))
    where
      count : (m : ℕ) → count_at t m ≡ count_at v m
      count m = by_cases (ℕ_discrete m (suc j)) (λ z. rw z (f.count ∙ sym g.count)) (λ n. f.counts m n ∙ sym (g.counts m n))

      hold : (m : ℕ) → held_at t m ≡ held_at v m
      hold m = by_cases (ℕ_discrete m j) (λ z. rw z (omega (arith, f.input, g.input)))
          (λ n. by_cases (ℕ_discrete m (suc j))
          (λ z. by_cases (dec_lt (suc j) c.n) (λ l. rw z (f.output l ∙ sym (g.output l))) (λ l. let past : m ≡ suc j → c.n ≤ m = λ q. omega arith in f.held m n past ∙ sym (g.held m n past)))
          (λ ne. let past : m ≡ suc j → c.n ≤ m = λ q. absurd (ne q) in f.held m n past ∙ sym (g.held m n past)))

  alike : (i : ℕ) → w ≡ i → Alike
  alike zero e =
      let p = a.idle e in
      let q = b.idle e in
      (λ m. let ne : w ≢ suc m = λ f. omega arith in a.others m ne ∙ sym (b.others m ne), (as_lists p.0 q.0, as_lists p.1 q.1))
  alike (suc j) e = by_cases (ℕ_discrete (done_at u j + 1) (work_of c j))
      (λ all. as_effect j e (a.ends j e all) (b.ends j e all))
      (λ ne.
      let p = a.on j e ne in
      let q = b.on j e ne in
      (as_work j e (p.0 ∙ sym q.0), (as_lists p.1.0 q.1.0, as_lists p.1.1 q.1.1)))

  pub work_only : t ≡ v
  work_only =
      let k = alike w refl in
      same_run (a.clock ∙ sym b.clock)
      (ext_get_or 0 t.counts v.counts (a.whole.counts ∙ sym b.whole.counts) (λ m l. k.1.0 m))
      (ext_get_or 0 t.held v.held (a.whole.held ∙ sym b.whole.held) (λ m l. k.1.1 m))
      (ext_get_or 0 t.done v.done (a.whole.done ∙ sym b.whole.done) (λ m l. k.0 m))

-- t is s after one clean tick: the source's step, which fits where it is due; then each node over threshold has its deadline; then one tick of work
pub record TickOnce (c : Chain) (s t : Run) : Type 0 where
  pub after : Run
  pub worker : ℕ
  pub fits : Due c s → Fits c s
  pub source : SourceOnce c s after
  pub dated : Dated c after
  pub works : Works c after worker
  pub work : WorkOnce c after worker t

-- a tick of work is none of the source's
pub work_source : {c : Chain} {u t : Run} {w : ℕ} → WorkOnce c u w t → count_at t 0 ≡ count_at u 0
work_source {c} {u} {t} {w} k = at w refl
  where
    at : (i : ℕ) → w ≡ i → count_at t 0 ≡ count_at u 0
    at zero e = ap (λ (l : List ℕ). get_or l 0 0) (k.idle e).0
    at (suc j) e = by_cases (ℕ_discrete (done_at u j + 1) (work_of c j)) (λ all. (k.ends j e all).counts 0 (λ z. omega arith)) (λ n. ap (λ (l : List ℕ). get_or l 0 0) (k.on j e n).1.0)
