-- What is counted over a deadline run that is clean (01, Firing).
--   due_more                   a count that is t/y, rounded up, is that of t+1 where it is one more exactly if y divides t
--   worked_by c s j, spent_on c s m, total c s
--                              the ticks that N_(j+1), N_1 to N_m, and all nodes have worked: e for each firing, and the work done of the next
--   spent_alike                the same work of each node is the same of all
--   worked_out                 the last tick of a firing adds one to them
--   source_work, own_work, other_work
--                              the source's step adds none, a tick of work one to those of the node that works, and none to any other's
--   tick_work                  a clean tick adds at most one to those of each node
--   one_more, none_more        one tick of work adds one to the total, and a tick in which no node works none
--   SomeOver c u, some_over    one of N_1 to N_n is over threshold, or none is
--   Waits c s                  one is after the source's step of s
--   work_total, tick_total     a tick of work of the node that is chosen, and a clean tick, adds one tick of work where a node waits for it, and none elsewhere
--   HowMany P T m              exactly m of the numbers below T have P
--   how_many_one, many_next    there is one such m only, and one more exactly where one more number has P
--   fresh_work, fresh_total    no node has worked before a run
-- What is named here and not declared stands in proofs/TotalsLaws.antt.
use Rattle.std.specs.Prelude.{◌≡◌, refl, ◌≢◌, ◌⊎◌, List, get_or}
use Rattle.std.proofs.Common.{sym, ap, subst, ◌∙◌, inl, inr, ⊎_elim, le_refl, zero-lt-suc, add-one, arith}
use Rattle.std.proofs.Math.Logic.{by_cases}
use Prim.Native.Nat.{ℕ, zero, suc, ◌+◌, ◌*◌, ◌≤◌, ◌<◌, ◌∣◌}
use Rattle.std.proofs.Math.Nat.{le_step}
use Rattle.std.proofs.Math.Decide.{ℕ_discrete, dec_le, dec_dvd}
use Rattle.arith.specs.Division.{ceil}
use Rattle.arith.proofs.DivisionLaws.{ceil_multiple, ceil_between}
use Rattle.chain.specs.Record.{row_of, work_of}
use Rattle.chain.specs.declared.Chain.{Chain}
use Rattle.state.specs.State.{count_at, held_at, done_at, fresh_run, fresh_count}
use Rattle.state.specs.Fired.{Over}
use Rattle.state.specs.declared.Run.{Run}
use Rattle.instants.specs.Source.{SourceOnce}
use Rattle.instants.specs.Once.{Works, WorkOnce, TickOnce}

-- "the source fires if y divides t": a count that is t/y, rounded up, and is one more after t exactly where y divides t, is that of t+1
pub due_more : (y t a b : ℕ) → 0 < y → (y ∣ t → b ≡ a + 1) → ((y ∣ t → ⊥) → b ≡ a) → a ≡ ceil t y → b ≡ ceil (suc t) y
due_more y t a b some fires rests p = by_cases (dec_dvd y t)
    (λ d. fires d ∙ add-one a ∙ ap suc p ∙ sym (ceil_multiple t y some d))
    (λ n. rests n ∙ p ∙ sym (ceil_between t y some n))

-- the ticks that N_(j+1) has worked: e for each of its firings, and those on the firing that it has begun
abbrev pub worked_by : Chain → Run → ℕ → ℕ
worked_by c s j = work_of c j * count_at s (suc j) + done_at s j

-- of N_1 to N_m, and of all nodes
unfoldable pub spent_on : Chain → Run → ℕ → ℕ
spent_on c s zero = 0
spent_on c s (suc j) = spent_on c s j + worked_by c s j

abbrev pub total : Chain → Run → ℕ
total c s = spent_on c s c.n

-- the same work of each node is the same of all
pub spent_alike : (c : Chain) (s t : Run) (m : ℕ) → ((j : ℕ) → j < m → worked_by c t j ≡ worked_by c s j) → spent_on c t m ≡ spent_on c s m
unfolding spent_on
spent_alike c s t zero h = refl
spent_alike c s t (suc j) h = λ k. spent_alike c s t j (λ i l. h i (le_step l)) k + h j (le_refl (suc j)) k

-- and a tick more of one node is a tick more of all
spent_more : (c : Chain) (s t : Run) (j m : ℕ) → j < m → worked_by c t j ≡ worked_by c s j + 1 → ((i : ℕ) → i ≢ j → worked_by c t i ≡ worked_by c s i) → spent_on c t m ≡ spent_on c s m + 1
unfolding spent_on
spent_more c s t j zero l h others = absurd (omega arith)
spent_more c s t j (suc m) l h others = by_cases (ℕ_discrete m j)
    (λ e. let own : worked_by c t m ≡ worked_by c s m + 1 = rw e h in omega (arith, own, spent_alike c s t m (λ i f. others i (λ z. omega arith))))
    (λ n. omega (arith, others m n, spent_more c s t j m (omega arith) h others))

-- the last tick of a firing is one more: e has become one firing
pub worked_out : (c : Chain) (u t : Run) (j : ℕ) → done_at u j + 1 ≡ work_of c j → count_at t (suc j) ≡ count_at u (suc j) + 1 → done_at t j ≡ 0 → worked_by c t j ≡ worked_by c u j + 1
worked_out c u t j = ends (work_of c j) (count_at u (suc j)) (count_at t (suc j)) (done_at u j) (done_at t j)
  where
    ends : (e N N' d d' : ℕ) → d + 1 ≡ e → N' ≡ N + 1 → d' ≡ 0 → e * N' + d' ≡ e * N + d + 1
    ends e N N' d d' f g h = rw (g, h) (omega (arith, f))

-- the source does none of it
pub source_work : {c : Chain} {s u : Run} → SourceOnce c s u → (j : ℕ) → worked_by c u j ≡ worked_by c s j
source_work {c} o j = λ k. work_of c j * o.counts (suc j) (λ z. omega arith) k + get_or (o.done k) j 0

pub source_total : {c : Chain} {s u : Run} → SourceOnce c s u → total c u ≡ total c s
source_total {c} {s} {u} o = spent_alike c s u c.n (λ j l. source_work o j)

module _ {c : Chain} {u t : Run} {w : ℕ} (k : WorkOnce c u w t) where
  -- a node that does not work
  pub other_work : (i : ℕ) → w ≢ suc i → worked_by c t i ≡ worked_by c u i
  other_work i ne = λ z. work_of c i * count w refl z + k.others i ne z
    where
      lists : {x y : List ℕ} → x ≡ y → get_or x (suc i) 0 ≡ get_or y (suc i) 0
      lists e = ap (λ (l : List ℕ). get_or l (suc i) 0) e

      count : (v : ℕ) → w ≡ v → count_at t (suc i) ≡ count_at u (suc i)
      count zero e = lists (k.idle e).0
      count (suc j) e = by_cases (ℕ_discrete (done_at u j + 1) (work_of c j)) (λ all. (k.ends j e all).counts (suc i) (λ z. ne (omega arith))) (λ n. lists (k.on j e n).1.0)

  -- the node that works: its work is one tick more, or e has become one firing more
  pub own_work : (j : ℕ) → w ≡ suc j → worked_by c t j ≡ worked_by c u j + 1
  own_work j e = by_cases (ℕ_discrete (done_at u j + 1) (work_of c j))
      (λ all. worked_out c u t j all (k.ends j e all).count (k.ends j e all).done)
      (λ n.
      let count : count_at t (suc j) ≡ count_at u (suc j) = ap (λ (l : List ℕ). get_or l (suc j) 0) (k.on j e n).1.0 in
      rw (count, (k.on j e n).0) (omega arith))

  -- a tick of work is a tick of work
  pub one_more : w ≤ c.n → 0 < w → total c t ≡ total c u + 1
  one_more l some = at w refl
    where
      at : (v : ℕ) → w ≡ v → total c t ≡ total c u + 1
      at zero e = absurd (omega arith)
      at (suc j) e = spent_more c u t j c.n (omega arith) (own_work j e) (λ i n. other_work i (λ z. n (omega arith)))

  pub none_more : w ≡ 0 → total c t ≡ total c u
  none_more e = spent_alike c u t c.n (λ i l. other_work i (λ z. omega arith))

-- "works one tick": in a clean tick no node does more work than that
pub tick_work : {c : Chain} {s t : Run} → TickOnce c s t → (j : ℕ) → worked_by c t j ≤ worked_by c s j + 1
tick_work k j = by_cases (ℕ_discrete k.worker (suc j))
    (λ e. omega (arith, own_work k.work j e, source_work k.source j))
    (λ n. omega (arith, other_work k.work j n, source_work k.source j))

-- a node other than the source is over threshold
pub record SomeOver (c : Chain) (u : Run) : Type 0 where
  pub queue : ℕ
  pub node : queue < c.n
  pub over : Over c u (suc queue)

-- of N_1 to N_m one is, or none
some_to : (c : Chain) (u : Run) (m : ℕ) → m ≤ c.n → SomeOver c u ⊎ ((j : ℕ) → j < m → Over c u (suc j) → ⊥)
some_to c u zero l = inr (λ j b o. omega arith)
some_to c u (suc m) l = by_cases (dec_le (row_of c m).threshold (held_at u m))
    (λ o. inl (record { queue = m; node = l; over = o }))
    (λ n. ⊎_elim (λ s. inl s) (λ none. inr (λ j b o. by_cases (ℕ_discrete j m) (λ e. n (subst (λ (i : ℕ). Over c u (suc i)) e o)) (λ ne. none j (omega arith) o))) (some_to c u m (omega arith)))

pub some_over : (c : Chain) (u : Run) → SomeOver c u ⊎ (SomeOver c u → ⊥)
some_over c u = ⊎_elim (λ s. inl s) (λ none. inr (λ s. none s.queue s.node s.over)) (some_to c u c.n (le_refl c.n))

-- a node is over threshold after the source's step
pub record Waits (c : Chain) (s : Run) : Type 0 where
  pub after : Run
  pub source : SourceOnce c s after
  pub some : SomeOver c after

-- one tick of work of N_w, the node that u chooses, is one tick more of all where a node is over threshold, and none elsewhere
pub work_total : {c : Chain} {u : Run} {w : ℕ} (t : Run) → Works c u w → ((j : ℕ) → w ≡ suc j → worked_by c t j ≡ worked_by c u j + 1) → ((i : ℕ) → w ≢ suc i → worked_by c t i ≡ worked_by c u i)
    → (SomeOver c u × (total c t ≡ total c u + 1)) ⊎ ((SomeOver c u → ⊥) × (total c t ≡ total c u))
work_total {c} {u} {w} t k own others = at w refl
  where
    at : (v : ℕ) → w ≡ v → (SomeOver c u × (total c t ≡ total c u + 1)) ⊎ ((SomeOver c u → ⊥) × (total c t ≡ total c u))
    at zero e = inr (
      λ f. omega (arith, e, k.some (suc f.queue) (zero-lt-suc f.queue) f.node f.over),
      spent_alike c u t c.n (λ i l. others i (λ z. omega arith)),
    )
    at (suc j) e = inl (
      record { queue = j; node = omega (arith, k.node, e); over = subst (Over c u) e (k.over (omega (arith, e))) },
      spent_more c u t j c.n (omega (arith, k.node, e)) (own j e) (λ i n. others i (λ z. n (omega arith))),
    )

-- exactly m of the numbers below T have P
unfoldable pub HowMany : (ℕ → Type 0) → ℕ → ℕ → Type 0
HowMany P zero m = m ≡ 0
HowMany P (suc T) zero = (P T → ⊥) × HowMany P T zero
HowMany P (suc T) (suc m) = (P T × HowMany P T m) ⊎ ((P T → ⊥) × HowMany P T (suc m))

-- no other number does
pub how_many_one : (P : ℕ → Type 0) (T m k : ℕ) → HowMany P T m → HowMany P T k → m ≡ k
unfolding HowMany
how_many_one P zero m k = λ a b. a ∙ sym b
how_many_one P (suc T) zero zero = λ a b. refl
how_many_one P (suc T) zero (suc k) = λ a. ⊎_elim (λ b. absurd (a.0 b.0)) (λ b. how_many_one P T zero (suc k) a.1 b.1)
how_many_one P (suc T) (suc m) zero = λ a b. ⊎_elim (λ x. absurd (b.0 x.0)) (λ x. how_many_one P T (suc m) zero x.1 b.1) a
how_many_one P (suc T) (suc m) (suc k) = ⊎_elim
    (λ a. ⊎_elim (λ b. ap suc (how_many_one P T m k a.1 b.1)) (λ b. absurd (b.0 a.0)))
    (λ a. ⊎_elim (λ b. absurd (a.0 b.0)) (λ b. how_many_one P T (suc m) (suc k) a.1 b.1))

-- one number more that has P, or has it not
many_has : (P : ℕ → Type 0) (T m : ℕ) → P T → HowMany P T m → HowMany P (suc T) (suc m)
unfolding HowMany
many_has P T m p h = inl (p, h)

many_lacks : (P : ℕ → Type 0) (T m : ℕ) → (P T → ⊥) → HowMany P T m → HowMany P (suc T) m
unfolding HowMany
many_lacks P T zero n h = (n, h)
many_lacks P T (suc m) n h = inr (n, h)

-- so a number that is one more after each t that has P, and the same after each other, counts them
pub many_next : (P : ℕ → Type 0) (f : ℕ → ℕ) (t : ℕ) → (P t × (f (suc t) ≡ f t + 1)) ⊎ ((P t → ⊥) × (f (suc t) ≡ f t)) → HowMany P t (f t) → HowMany P (suc t) (f (suc t))
unfolding HowMany
many_next P f t next h = ⊎_elim (λ w. rw (w.1 ∙ add-one (f t)) (many_has P t (f t) w.0 h)) (λ w. rw w.1 (many_lacks P t (f t) w.0 h)) next

-- a fresh start has no work behind it
pub fresh_work : (c : Chain) (j : ℕ) → worked_by c (fresh_run c) j ≡ 0
unfolding fresh_run
fresh_work c j = rw (fresh_count c (suc j)) (omega arith)

pub fresh_total : (c : Chain) (m : ℕ) → spent_on c (fresh_run c) m ≡ 0
unfolding spent_on
fresh_total c zero = refl
fresh_total c (suc j) = omega (arith, fresh_total c j, fresh_work c j)
