-- What one recording tick looks at, by the numbers of its chain, its state and its list (02, Item 2); and that this is the same by the state after the source's step,
-- by which a recording tick is defined. When it ends how is in LossesInNumbers, what it leaves in LossesLeft.
--   c, s, l, j, i, q         a chain, a run state, a list of losses, a queue (N_j feeds it and N_(j+1) empties it), a node, a queue
--   Takes s l                state and list have all their slots
--   SourceLoses c s          the source fires at the clock of s, and what it produces does not fit queue 0; loses?: whether it does
--   Took c s l               its loss, if it is one, finds room in the list
--   OverAfter c s j          N_(j+1) is over threshold after the source's step
--   due_of c s j, index_of c s j m
--                            the deadline of N_(j+1)'s next firing, and N_m's index on the way down from it
--   due_source, due_next, index_here, index_before_law
--                            what these are
--   HasDue c s j, Undue c s j
--                            no index on the way passes the limit, so that the deadline can be had; or one does
--   LacksNow c s i           N_i is the lowest node over threshold whose deadline can't be had
--   WorksNow c s w           N_(w+1) is the node that works: over threshold, none has an earlier deadline, and none nearer the sink an equal one
--   FullAfter c s l          the list is full after the source's step
--   FullNow c s l q          the firing of N_q is finished in this tick, does not fit queue q, and the list is full
--   spills_first, first_spills, fits_first
--                            two ways to say that the source's production does not fit, or does
--   over_out, _in, dated_out, _in, lacks_out, _in, works_out, _in, list_kept, list_more, full_out, _aw
--                            the same by the state and the list after the source's step
use Rattle.std.specs.Prelude.{◌≡◌, refl, ◌⊎◌, ℕ, zero, suc, ◌+◌, ◌-◌, ◌*◌, ◌/◌, ◌≤◌, ◌<◌, length}
use Rattle.std.proofs.Common.{sym, ap, subst, inl, inr, ⊎_elim, zero-lt-suc, le_refl, arith, le-leb}
use Rattle.std.proofs.Math.Logic.{by_cases}
use Rattle.std.specs.Int.{◌∣◌}
use Rattle.std.proofs.Math.Decide.{ℕ_discrete, dec_dvd, dec_le, dec_lt}
use Rattle.ardenquill.specs.Chains.{row_of, work_of}
use Rattle.ardenquill.specs.Analyses.{capacity_of, Accepted}
use Rattle.ardenquill.specs.Runs.{count_at, held_at, done_at, Over, Room, Cramped}
use Rattle.ardenquill.specs.Deadlines.{earlier, deadline, index}
use Rattle.ardenquill.specs.Ticks.{Due, FirstLacking, Dated, Works}
use Rattle.ardenquill.specs.Losses.{SourceNoted, rec_source_others, rec_source_fed, rec_source_unfed, rec_source_held}
use Rattle.ardenquill.specs.Records.{Chain, Run, Losses}
use Rattle.promises.specs.Replay.{p_of, τ_of, c_of, Accepts, line, AllSlots, accepts_is}
use Rattle.promises.specs.Laws.{capacity_is, index_down}

-- as the types of a state and of a list say
abbrev pub Takes : Run → Losses → Type 0
Takes s l = AllSlots s × (length l.entries ≡ 256)

-- "then the source fires if y divides t", and "a production that doesn't fit"
abbrev pub SourceLoses : Chain → Run → Type 0
SourceLoses c s = (c.period ∣ s.clock) × ((line c 0).capacity < held_at s 0 + p_of c 0)

-- "a 257th loss stops the run before it happens": that of the source is none
abbrev pub Took : Chain → Run → Losses → Type 0
Took c s l = SourceLoses c s → l.count < 256

-- "its input queue holds at least τ" after the source's step: queue j does, or it is queue 0 and does with what the source then puts there, which fits
abbrev pub OverAfter : Chain → Run → ℕ → Type 0
OverAfter c s j = (τ_of c j ≤ held_at s j) ⊎ ((j ≡ 0) × ((c.period ∣ s.clock) × ((held_at s 0 + p_of c 0 ≤ (line c 0).capacity) × (τ_of c 0 ≤ held_at s 0 + p_of c 0))))

-- the deadline of N_(j+1)'s next firing, "the deadline formula unchanged": "deadlines count productions as if none were dropped"
abbrev pub due_of : Chain → Run → ℕ → ℕ
due_of c s j = deadline c (suc j) (count_at s (suc j) + 1)

-- N_m's index on the way down from it
abbrev pub index_of : Chain → Run → ℕ → ℕ → ℕ
index_of c s j m = index c (suc j) (count_at s (suc j) + 1) m

-- "(k−1)×y for N_0, else N_(i−1)'s deadline for index ((k−1)×c+B)/p rounded down, plus 1", B being the capacity in force, below the minimum or not
pub due_source : (c : Chain) (k : ℕ) → deadline c 0 k ≡ (k - 1) * c.period
unfolding deadline
due_source c k = refl

pub due_next : (c : Chain) → Accepts c → (i k : ℕ) → i < c.n → deadline c (suc i) k ≡ deadline c i (((k - 1) * c_of c i + (line c i).capacity) / p_of c i + 1)
unfolding deadline earlier
due_next c ok i k l = rw (capacity_is c ((accepts_is c).0 ok) i l)

-- and the indices on that way: N_i's own is k, and one below it is that on the way down from the next
pub index_here : (c : Chain) (i k : ℕ) → index c i k i ≡ k
unfolding index
index_here c zero k = refl
index_here c (suc i) k = simp (le-leb (suc i) (suc i) (le_refl (suc i)))

pub index_before_law : (c : Chain) → Accepts c → (i k m : ℕ) → i < c.n → m ≤ i → index c (suc i) k m ≡ index c i (((k - 1) * c_of c i + (line c i).capacity) / p_of c i + 1) m
unfolding earlier
index_before_law c ok i k m l h = rw (capacity_is c ((accepts_is c).0 ok) i l) (index_down c i k m h)

-- a deadline can be had where no index on its way "passes 4,294,967,295"
abbrev pub HasDue : Chain → Run → ℕ → Type 0
HasDue c s j = (m : ℕ) → m ≤ suc j → index_of c s j m ≤ 4294967295

-- and can't where one does
pub record Undue (c : Chain) (s : Run) (j : ℕ) : Type 0 where
  pub at : ℕ
  pub node : at ≤ suc j
  pub passes : 4294967295 < index_of c s j at

-- "an over-threshold node's deadline can't be had, place the lowest such over-threshold node"
pub record LacksNow (c : Chain) (s : Run) (i : ℕ) : Type 0 where
  pub queue : ℕ
  pub is : i ≡ suc queue
  pub node : queue < c.n
  pub over : OverAfter c s queue
  pub undue : Undue c s queue
  pub before : (j : ℕ) → j < queue → OverAfter c s j → HasDue c s j

-- "the over-threshold node whose next firing has the earliest deadline, ties to the one nearest the sink"
pub record WorksNow (c : Chain) (s : Run) (w : ℕ) : Type 0 where
  pub node : w < c.n
  pub over : OverAfter c s w
  pub early : (j : ℕ) → j < c.n → OverAfter c s j → due_of c s w ≤ due_of c s j
  pub tie : (j : ℕ) → w < j → j < c.n → OverAfter c s j → due_of c s w < due_of c s j

-- the list has 256 entries after the source's step
abbrev pub FullAfter : Chain → Run → Losses → Type 0
FullAfter c s l = (256 ≤ l.count) ⊎ (SourceLoses c s × (l.count ≡ 255))

-- 15 at a finish: each node over threshold has its deadline, N_q works the last tick of a firing, queue q has no room for it, and the list is full
pub record FullNow (c : Chain) (s : Run) (l : Losses) (q : ℕ) : Type 0 where
  pub queue : ℕ
  pub is : q ≡ suc queue
  pub took : Took c s l
  pub dated : (j : ℕ) → j < c.n → OverAfter c s j → HasDue c s j
  pub works : WorksNow c s queue
  pub all : done_at s queue + 1 ≡ work_of c queue
  pub spills : (q < c.n) × ((line c q).capacity < held_at s q + p_of c q)
  pub full : FullAfter c s l

-- whether the source's production is lost can be told
pub loses? : (c : Chain) (s : Run) → SourceLoses c s ⊎ (SourceLoses c s → ⊥)
loses? c s = by_cases (dec_dvd c.period s.clock)
    (λ d. by_cases (dec_lt (line c 0).capacity (held_at s 0 + p_of c 0)) (λ h. inl (d, h)) (λ n. inr (λ h. n h.1)))
    (λ n. inr (λ h. n h.0))

-- two ways to say that it is
module _ {c : Chain} (a : Accepted c) (s : Run) where
  first_capacity : (line c 0).capacity ≡ capacity_of (row_of c 0)
  first_capacity = capacity_is c a 0 a.chain.count.0

  pub spills_first : SourceLoses c s → Cramped c s 0
  spills_first h = (a.chain.count.0, omega (arith, h.1, first_capacity))

  pub first_spills : Due c s → Cramped c s 0 → SourceLoses c s
  first_spills d h = (d, omega (arith, h.1, first_capacity))

  pub fits_first : (SourceLoses c s → ⊥) → Due c s → Room c s 0
  fits_first n d z = by_cases (dec_le (held_at s 0 + p_of c 0) (line c 0).capacity) (λ h. omega (arith, h, first_capacity)) (λ h. absurd (n (d, omega arith)))

-- after the source's step
module _ {c : Chain} (a : Accepted c) {s : Run} {l : Losses} {u : Run} {m : Losses} (o : SourceNoted c s l u m) where
  held_more : (j : ℕ) → held_at s j ≤ held_at u j
  held_more j = by_cases (ℕ_discrete j 0)
      (λ z. rw z (by_cases (dec_dvd c.period s.clock)
      (λ d. ⊎_elim (λ h. omega (arith, rec_source_unfed o (λ e. spills_first a s h))) (λ n. omega (arith, rec_source_fed o d (fits_first a s n d))) (loses? c s))
      (λ n. omega (arith, rec_source_unfed o (λ d. absurd (n d))))))
      (λ ne. omega (arith, rec_source_held o j ne))

  pub over_out : (j : ℕ) → τ_of c j ≤ held_at u j → OverAfter c s j
  over_out j h = by_cases (ℕ_discrete j 0)
      (λ z. first (subst (λ (i : ℕ). τ_of c i ≤ held_at u i) z h) z)
      (λ ne. inl (omega (arith, h, rec_source_held o j ne)))
    where
      same : τ_of c 0 ≤ held_at u 0 → held_at u 0 ≡ held_at s 0 → j ≡ 0 → OverAfter c s j
      same g e z = inl (rw z (omega (arith, g, e)))

      first : τ_of c 0 ≤ held_at u 0 → j ≡ 0 → OverAfter c s j
      first g z = by_cases (dec_dvd c.period s.clock)
          (λ d. ⊎_elim
          (λ b. same g (rec_source_unfed o (λ e. spills_first a s b)) z)
          (λ n. let fed = rec_source_fed o d (fits_first a s n d) in
          inr (z, (d, (omega (arith, fits_first a s n d a.chain.count.0, first_capacity a s), omega (arith, g, fed)))))
          (loses? c s))
          (λ n. same g (rec_source_unfed o (λ d. absurd (n d))) z)

  pub over_in : (j : ℕ) → OverAfter c s j → τ_of c j ≤ held_at u j
  over_in j = ⊎_elim
      (λ h. omega (arith, h, held_more j))
      (λ h. subst (λ (i : ℕ). τ_of c i ≤ held_at u i) (sym h.0) (omega (arith, h.1.1.1, rec_source_fed o h.1.0 (λ z. omega (arith, h.1.1.0, first_capacity a s)))))

  -- the source does not change the index of a node's next firing
  next_then : (j : ℕ) → suc (count_at u (suc j)) ≡ count_at s (suc j) + 1
  next_then j = omega (arith, rec_source_others o (suc j) (λ e. omega arith))

  index_then : (j : ℕ) (i : ℕ) → index c (suc j) (suc (count_at u (suc j))) i ≡ index_of c s j i
  index_then j i = ap (λ (k : ℕ). index c (suc j) k i) (next_then j)

  due_then : (j : ℕ) → deadline c (suc j) (suc (count_at u (suc j))) ≡ due_of c s j
  due_then j = ap (deadline c (suc j)) (next_then j)

  pub dated_out : Dated c u → (j : ℕ) → j < c.n → OverAfter c s j → HasDue c s j
  dated_out d j h v i low = rw (← index_then j i) (d j h (over_in j v) i low)

  pub dated_in : ((j : ℕ) → j < c.n → OverAfter c s j → HasDue c s j) → Dated c u
  dated_in d j h v i low = rw (index_then j i) (d j h (over_out j v) i low)

  pub lacks_out : (i : ℕ) → FirstLacking c u i → LacksNow c s i
  lacks_out zero k = absurd (omega (arith, k.some))
  lacks_out (suc q) k = record {
    queue = q;
    is = refl;
    node = k.node;
    over = over_out q k.over;
    undue = record { at = k.past.at; node = k.past.node; passes = rw (← index_then q k.past.at) k.past.passes };
    before = λ j h v i low. rw (← index_then j i) (k.before (suc j) (zero-lt-suc j) (omega arith) (over_in j v) i low);
  }

  pub lacks_in : (i : ℕ) → LacksNow c s i → FirstLacking c u i
  lacks_in i k = subst (FirstLacking c u) (sym k.is) (record {
    some = zero-lt-suc k.queue;
    node = k.node;
    over = over_in k.queue k.over;
    past = record { at = k.undue.at; node = k.undue.node; passes = rw (index_then k.queue k.undue.at) k.undue.passes };
    before = before;
  })
    where
      before : (j : ℕ) → 0 < j → j < suc k.queue → Over c u j → (n : ℕ) → n ≤ j → index c j (suc (count_at u j)) n ≤ 4294967295
      before zero p h v n low = absurd (omega arith)
      before (suc j) p h v n low = rw (index_then j n) (k.before j (omega arith) (over_out j v) n low)

  pub works_out : (w : ℕ) → Works c u (suc w) → WorksNow c s w
  works_out w k = record {
    node = k.node;
    over = over_out w (k.over (zero-lt-suc w));
    early = λ j h v. rw (← due_then w, ← due_then j) (k.early (suc j) (zero-lt-suc j) h (over_in j v));
    tie = λ j b h v. rw (← due_then w, ← due_then j) (k.tie (suc j) (omega arith) h (over_in j v));
  }

  pub works_in : (w : ℕ) → WorksNow c s w → Works c u (suc w)
  works_in w k = record { node = k.node; over = λ z. over_in w k.over; some = λ j p h v. zero-lt-suc w; early = early; tie = tie }
    where
      early : (j : ℕ) → 0 < j → j ≤ c.n → Over c u j → deadline c (suc w) (suc (count_at u (suc w))) ≤ deadline c j (suc (count_at u j))
      early zero p h v = absurd (omega arith)
      early (suc j) p h v = rw (due_then w, due_then j) (k.early j h (over_out j v))

      tie : (j : ℕ) → suc w < j → j ≤ c.n → Over c u j → deadline c (suc w) (suc (count_at u (suc w))) < deadline c j (suc (count_at u j))
      tie zero b h v = absurd (omega arith)
      tie (suc j) b h v = rw (due_then w, due_then j) (k.tie j (omega arith) h (over_out j v))

  -- the list is as it was, or has the source's entry
  pub list_kept : (SourceLoses c s → ⊥) → m ≡ l
  list_kept n = (o.keeps (fits_first a s n)).1

  pub list_more : SourceLoses c s → m.count ≡ l.count + 1
  list_more h = (o.loses h.0 (spills_first a s h)).noted.count

  pub full_out : Took c s l → 256 ≤ m.count → FullAfter c s l
  full_out took h = ⊎_elim (λ b. inr (b, omega (arith, list_more b, took b, h))) (λ n. inl (subst (λ (x : Losses). 256 ≤ x.count) (list_kept n) h)) (loses? c s)

  pub full_in_law : FullAfter c s l → 256 ≤ m.count
  full_in_law = ⊎_elim
      (λ h. ⊎_elim (λ b. omega (arith, list_more b, h)) (λ n. subst (λ (x : Losses). 256 ≤ x.count) (sym (list_kept n)) h) (loses? c s))
      (λ h. omega (arith, list_more h.0, h.1))
