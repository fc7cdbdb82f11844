-- Demand 2, the refusals 8, 14 and 17, and those of a manual firing, with their places, by the numbers of chain and state: of the words by which they are defined none
-- stands in these laws. 6 and 7 are in RatesInNumbers, the numbers of runs and deadline questions in RunsInNumbers, 9 and 13 of one tick in Demand2 and TickInNumbers.
--   c, s, i, j, k, T, L      a chain, a run state, a node, a queue (N_j feeds it and N_(j+1) empties it), a number or an index, ticks, a place
--   Accepts c, line c j      the analysis does not refuse c; what it answers of queue j: b is minimum, the capacity in force capacity (Replay)
--   LowestOf Reason L        L has the reason, and none before it has (Order)
--   MayRun c, PassesAll c s  none of 2 to 8 has a reason to refuse c (checked_silent); 17 has none at any queue of s (Ample, Passes: Replay)
--   immediate-, deadline-, tick-, deadline_run_begins and _record
--                            what is answered of a chain that is checked for a run every run and deadline question answers, too
--   checked_when, checked_analysis
--                            when that is not refused, and that it is then answered its analysis
--   TooSmall c j, checked_eight
--                            8 at queue j; and when it is answered
--   f, o, p, a               the bytes of a file; lent bytes before and after a call, whose answer is a: Output says what a call that writes does (Files)
--   analyse-, fresh-, fire-, write-, report_never_eight
--                            "runs and deadlines only"
--   passes?, Fails c s j     whether queue j passes 17; it does not
--   fire_seventeen, tick_seventeen
--                            when 17 is answered
--   Spent c s i, Starved c s i, Cramped c s i
--                            9, 11 and 12 of a manual firing: the count of N_i is at its end (Replay); its input queue is below threshold; its output queue has no room
--   fire_nine, _eleven, _twelve
--                            when each is answered
--   factory_fourteen, factory_when
--                            when the factory refuses a number with 14, and when it does not
use Rattle.std.proofs.Math.Logic.Iff
use Rattle.std.specs.Prelude.{◌≡◌, refl, ◌↔◌, ◌≢◌, ◌⊎◌, List, [], ◌∷◌, ◌++◌, ℕ, zero, suc, ◌+◌, ◌*◌, ◌≤◌, ◌<◌, length, get_or}
use Rattle.std.proofs.Common.{ap, ◌∙◌, arith}
use Rattle.std.proofs.Math.Logic.{inl, inr, ⊎_elim, by_cases}
use Rattle.std.proofs.Math.Decide.{ℕ_discrete, dec_le, dec_lt}
use borrow.Author.Tests.{lt-leb, eq-eqb}
use Rattle.ardenquill.specs.Chains as chains
use Rattle.ardenquill.specs.Chains.{row_of, work_of, Silent, Silents, first_silent, factory_refusal, factory_answer, factory_exact}
use Rattle.ardenquill.specs.Analyses.{start, minimum_of, sized, analyse_checks, analyse_refusal, analyse_answer, run_checks, run_refusal, run_answer, run_accepts, run_8, Enough, FirstShort, Accepted}
use Rattle.ardenquill.specs.Runs as runs
use Rattle.ardenquill.specs.Runs.{count_at, held_at, done_at, Over, FirstBroken, state_check, state_silent, count_check, count_silent}
use Rattle.ardenquill.specs.Runs.{over_check, over_silent, fresh_answer, fire_refusal, fire_answer, fire_9, fire_11, fire_12, fire_17}
use Rattle.ardenquill.specs.Immediate.{immediate_refusal, immediate_answer, immediate_earlier}
use Rattle.ardenquill.specs.Deadlines.{answered_due, deadline_refusal, deadline_answer, deadline_earlier}
use Rattle.ardenquill.specs.Ticks.{outcome_of, tick_refusal, tick_answer, tick_earlier, tick_17, deadline_run_refusal, deadline_run_answer, deadline_run_earlier}
use Rattle.ardenquill.specs.Files.{packed, write_refusal, Output}
use Rattle.ardenquill.specs.Reports.{report_text, report_refusal}
use Rattle.ardenquill.specs.Records.{Chain, LengthAnswer, Run}
use Rattle.promises.specs.Order.{not_listed, LowestOf, lowest_failing, judge_three, said}
use Rattle.promises.specs.Replay.{p_of, τ_of, c_of, Accepts, line, Spent, Passes, Ample, accepts_is}
use Rattle.promises.specs.Laws.{minimum_is, capacity_is, may_run_is, silents_last, passes_at, passes_is, over_is}
use Rattle.promises.specs.RecordInNumbers.{RecordChecked, checked_as}
use Rattle.promises.specs.RatesInNumbers.{checked_record}
use Rattle.promises.specs.Demand1.{factory_numbers, analyse_numbers_law, fresh_numbers, fire_numbers_law, write_numbers_law, report_numbers_law}

-- none of 2 to 8 has a reason to refuse the chain
abbrev pub MayRun : Chain → Type 0
MayRun c = Accepts c × ((j : ℕ) → j < c.n → Ample c j)

-- 17 has none to refuse the state
abbrev pub PassesAll : Chain → Run → Type 0
PassesAll c s = (j : ℕ) → j < c.n → Passes c s j

module _ (c : Chain) where
  -- the checks of the analysis
  pub analyse_silent : Silents (analyse_checks c) ↔ Accepts c
  unfolding analyse_answer analyse_refusal sized
  analyse_silent = Iff.symm (first_silent (analyse_checks c))

  -- and of a run
  pub checked_silent : Silents (run_checks c) ↔ MayRun c
  unfolding run_refusal
  checked_silent = Iff.trans (Iff.symm (first_silent (run_checks c))) (Iff.trans (run_accepts c) (may_run_is c))

-- "Manual firing, runs and deadline questions check the analysis first", and runs and deadline questions 8: each of these numbers they answer exactly where a chain that
-- is checked for a run is answered it, with its place
module _ (c : Chain) (N L : ℕ) (some : N ≢ 0) (early : N < 9) where
  -- an immediate run
  pub immediate_begins : (k : ℕ) → (((immediate_answer c k).number ≡ N) × ((immediate_answer c k).place ≡ L)) ↔ (((run_answer c).number ≡ N) × ((run_answer c).place ≡ L))
  unfolding immediate_answer runs.answered run_answer sized
  immediate_begins k = Iff.trans (said (immediate_refusal c k) N L) (Iff.trans (immediate_earlier c k N L some (λ e. omega arith)) (Iff.symm (said (run_refusal c) N L)))

  -- a deadline question
  pub deadline_begins : (i k : ℕ) → (((deadline_answer c i k).number ≡ N) × ((deadline_answer c i k).place ≡ L)) ↔ (((run_answer c).number ≡ N) × ((run_answer c).place ≡ L))
  unfolding deadline_answer answered_due run_answer sized
  deadline_begins i k = Iff.trans (said (deadline_refusal c i k) N L) (Iff.trans (deadline_earlier c i k L N some early) (Iff.symm (said (run_refusal c) N L)))

  -- a tick
  pub tick_begins : (s : Run) → (((tick_answer c s).number ≡ N) × ((tick_answer c s).place ≡ L)) ↔ (((run_answer c).number ≡ N) × ((run_answer c).place ≡ L))
  unfolding tick_answer outcome_of run_answer sized
  tick_begins s = Iff.trans (said (tick_refusal c s) N L) (Iff.trans (tick_earlier c s N L some (λ e. omega arith) (λ e. omega arith)) (Iff.symm (said (run_refusal c) N L)))

  -- a deadline run
  pub deadline_run_begins : (T : ℕ) → (((deadline_run_answer c T).number ≡ N) × ((deadline_run_answer c T).place ≡ L)) ↔ (((run_answer c).number ≡ N) × ((run_answer c).place ≡ L))
  unfolding deadline_run_answer outcome_of run_answer sized
  deadline_run_begins T = Iff.trans (said (deadline_run_refusal c T) N L) (Iff.trans (deadline_run_earlier c T N L some (λ e. omega arith)) (Iff.symm (said (run_refusal c) N L)))

-- so 2, 4 and 5 of them are those of the analysis
module _ (c : Chain) where
  -- an immediate run
  pub immediate_record : (k : ℕ) → RecordChecked c (immediate_answer c k).number (immediate_answer c k).place
  immediate_record k = checked_as c (λ K L some low. immediate_begins c K L some (omega arith) k) (checked_record c)

  -- a deadline question
  pub deadline_record : (i k : ℕ) → RecordChecked c (deadline_answer c i k).number (deadline_answer c i k).place
  deadline_record i k = checked_as c (λ K L some low. deadline_begins c K L some (omega arith) i k) (checked_record c)

  -- a tick
  pub tick_record : (s : Run) → RecordChecked c (tick_answer c s).number (tick_answer c s).place
  tick_record s = checked_as c (λ K L some low. tick_begins c K L some (omega arith) s) (checked_record c)

  -- a deadline run
  pub deadline_run_record : (T : ℕ) → RecordChecked c (deadline_run_answer c T).number (deadline_run_answer c T).place
  deadline_run_record T = checked_as c (λ K L some low. deadline_run_begins c K L some (omega arith) T) (checked_record c)

  -- a chain that is checked for a run is not refused exactly where none of 2 to 8 has a reason
  pub checked_when : ((run_answer c).number ≡ 0) ↔ MayRun c
  unfolding run_answer sized
  checked_when = Iff.trans (run_accepts c) (may_run_is c)

  -- and then it is answered its analysis
  pub checked_analysis : (run_answer c).number ≡ 0 → (run_answer c).analysis ≡ (analyse_answer c).analysis
  unfolding run_answer analyse_answer sized
  checked_analysis z = let ok : (analyse_refusal c).number ≡ 0 = (accepts_is c).1 ((run_accepts c).0 z).0 in simp (eq-eqb _ _ z, eq-eqb _ _ ok)

-- 8's "B (not 0) below b", at queue j
abbrev pub TooSmall : Chain → ℕ → Type 0
TooSmall c j = (j < c.n) × (((row_of c j).capacity ≢ 0) × ((row_of c j).capacity < (line c j).minimum))

-- 8: place "lowest queue"
pub checked_eight : (c : Chain) (L : ℕ) → (((run_answer c).number ≡ 8) × ((run_answer c).place ≡ L)) ↔ (Accepts c × LowestOf (TooSmall c) L)
unfolding run_answer sized
checked_eight c L = Iff.trans (said (run_refusal c) 8 L) (Iff.trans (run_8 c L) (
  λ h. let ok : Accepts c = (analyse_silent c).0 h.0 in (ok, out ((accepts_is c).0 ok) h.1),
  λ h. ((analyse_silent c).1 h.0, back ((accepts_is c).0 h.0) h.1),
))
  where
    out : Accepted c → FirstShort c L → LowestOf (TooSmall c) L
    out a f = record {
      has = (f.queue, (f.short.0, rw (minimum_is c a L f.queue) f.short.1));
      before = λ j l t. ⊎_elim (λ z. t.1.0 z) (λ h. omega (arith, h, t.1.1, minimum_is c a j t.0)) (f.before j l);
    }

    enough : Accepted c → (j : ℕ) → j < c.n → (TooSmall c j → ⊥) → Enough c j
    enough a j l none = by_cases (ℕ_discrete (row_of c j).capacity 0) (λ z. inl z) (λ n. by_cases (dec_le (minimum_of (row_of c j)) (row_of c j).capacity) (λ h. inr h)
        (λ h. absurd (none (l, (n, omega (arith, h, minimum_is c a j l))))))

    back : Accepted c → LowestOf (TooSmall c) L → FirstShort c L
    back a f = record {
      queue = f.has.0;
      short = (f.has.1.0, rw (minimum_is c a L f.has.0) at f.has.1.1);
      before = λ j l. enough a j (omega (arith, f.has.0)) (f.before j l);
    }

-- "runs and deadlines only": no other call that is handed a chain, or a chain's file, answers 8
module _ (c : Chain) where
  -- the analysis
  pub analyse_never_eight : (analyse_answer c).number ≢ 8
  analyse_never_eight = not_listed 8 _ tt (analyse_numbers_law c)

  -- a fresh start
  pub fresh_never_eight : (fresh_answer c).number ≢ 8
  fresh_never_eight = not_listed 8 _ tt (fresh_numbers c)

  -- a manual firing
  pub fire_never_eight : (s : Run) (i : ℕ) → (fire_answer c s i).number ≢ 8
  fire_never_eight s i = not_listed 8 _ tt (fire_numbers_law c s i)

  -- the writer
  pub write_never_eight : (o p : List ℕ) (a : LengthAnswer) → Output (write_refusal c (length o)) (packed c) o p a → a.number ≢ 8
  write_never_eight o p a w = not_listed 8 _ tt (write_numbers_law c o p a w)

-- and the report
pub report_never_eight : (f o p : List ℕ) (a : LengthAnswer) → Output (report_refusal f (length o)) (report_text f) o p a → a.number ≢ 8
report_never_eight f o p a w = not_listed 8 _ tt (report_numbers_law f o p a w)

-- one of 17's reasons holds at queue j, in 01's order
abbrev Reasons : Chain → Run → ℕ → Type 0
Reasons c s j = ((start (row_of c j) + p_of c j * count_at s j ≢ held_at s j + c_of c j * count_at s (suc j)) ⊎ ((line c j).capacity < held_at s j)) ⊎ (work_of c j ≤ done_at s j)

-- or queue j passes 17
judged : (c : Chain) (s : Run) (j : ℕ) → Passes c s j ⊎ Reasons c s j
judged c s j = ⊎_elim inl
    (⊎_elim (⊎_elim (λ n. inr (inl (inl n))) (λ n. inr (inl (inr (omega arith))))) (λ n. inr (inr (omega arith))))
    (judge_three (ℕ_discrete (start (row_of c j) + p_of c j * count_at s j) (held_at s j + c_of c j * count_at s (suc j)))
    (dec_le (held_at s j) (line c j).capacity) (dec_lt (done_at s j) (work_of c j))
    (λ b k w. record { balance = b; capacity = k; work = w }))

-- and never both
not_both : (c : Chain) (s : Run) (j : ℕ) → Reasons c s j → Passes c s j → ⊥
not_both c s j r p = ⊎_elim (⊎_elim (λ n. n p.balance) (λ m. omega (arith, m, p.capacity))) (λ m. omega (arith, m, p.work)) r

-- whether queue j passes 17 can be told
pub passes? : (c : Chain) (s : Run) (j : ℕ) → Dec (Passes c s j)
passes? c s j = ⊎_elim (λ p. yes p) (λ r. no (not_both c s j r)) (judged c s j)

-- 17's "breaks the balance .., passes a capacity, or has work done of e or more", at queue j, "for work done the one feeding the node"
abbrev pub Fails : Chain → Run → ℕ → Type 0
Fails c s j = (j < c.n) × (Passes c s j → ⊥)

module _ (c : Chain) (s : Run) where
  -- the lowest queue that does not pass
  broken_first : Accepts c → (L : ℕ) → FirstBroken c s L ↔ LowestOf (Fails c s) L
  broken_first ok L = Iff.trans (
    λ f. ((f.queue, rw (capacity_is c ((accepts_is c).0 ok) L f.queue) f.broken), λ j l. (passes_at c s ok j (omega (arith, f.queue))).0 (f.before j l)),
    λ f. record {
      queue = f.0.0;
      broken = rw (capacity_is c ((accepts_is c).0 ok) L f.0.0) at f.0.1;
      before = λ j l. (passes_at c s ok j (omega (arith, f.0.0))).1 (f.1 j l);
    },
  ) (lowest_failing c.n (Reasons c s) (Passes c s) (judged c s) (not_both c s) L)

  -- 17: place "lowest queue", of a manual firing
  pub fire_seventeen : (i L : ℕ) → (((fire_answer c s i).number ≡ 17) × ((fire_answer c s i).place ≡ L)) ↔ (Accepts c × LowestOf (Fails c s) L)
  unfolding fire_answer runs.answered
  fire_seventeen i L = Iff.trans (said (fire_refusal c s i) 17 L) (Iff.trans (fire_17 c s i L) (
    λ h. let ok = (analyse_silent c).0 h.0 in (ok, (broken_first ok L).0 h.1),
    λ h. ((analyse_silent c).1 h.0, (broken_first h.0 L).1 h.1),
  ))

  -- and of a tick, "after 8"
  pub tick_seventeen : (L : ℕ) → (((tick_answer c s).number ≡ 17) × ((tick_answer c s).place ≡ L)) ↔ (MayRun c × LowestOf (Fails c s) L)
  unfolding tick_answer outcome_of
  tick_seventeen L = Iff.trans (said (tick_refusal c s) 17 L) (Iff.trans (tick_17 c s L) (
    λ h. let may = (checked_silent c).0 h.0 in (may, (broken_first may.0 L).0 h.1),
    λ h. ((checked_silent c).1 h.0, (broken_first h.0.0 L).1 h.1),
  ))

-- 11's "node not over threshold": N_i has an input queue, and that holds less than τ
pub record Starved (c : Chain) (s : Run) (i : ℕ) : Type 0 where
  pub queue : ℕ
  pub is : i ≡ suc queue
  pub below : held_at s queue < τ_of c queue

-- 12's "would pass a capacity": N_i has an output queue, and p more would
abbrev pub Cramped : Chain → Run → ℕ → Type 0
Cramped c s i = (i < c.n) × ((line c i).capacity < held_at s i + p_of c i)

module _ (c : Chain) (s : Run) (i : ℕ) where
  -- the checks before 9
  before_nine : Silents (analyse_checks c ++ (state_check c s ∷ [])) ↔ (Accepts c × PassesAll c s)
  before_nine = Iff.trans (silents_last (analyse_checks c) (state_check c s)) (
    λ h. let ok = (analyse_silent c).0 h.0 in (ok, (passes_is c s ok).0 ((state_silent c s).0 h.1)),
    λ h. ((analyse_silent c).1 h.0, (state_silent c s).1 ((passes_is c s h.0).1 h.1)),
  )

  -- 9 is silent
  unspent : Silent (count_check c s i) ↔ (Spent c s i → ⊥)
  unspent = by_cases (dec_le i c.n)
      (λ l. Iff.trans (count_silent c s i l) (λ n h. n h.1, λ n e. n (l, e)))
      (λ n. (λ z h. n h.0, λ h. simp (lt-leb i c.n (omega arith))))

  -- the checks before 11
  before_eleven : Silents (analyse_checks c ++ (state_check c s ∷ count_check c s i ∷ [])) ↔ ((Accepts c × PassesAll c s) × (Spent c s i → ⊥))
  before_eleven = Iff.trans (silents_last (analyse_checks c ++ (state_check c s ∷ [])) (count_check c s i)) (Iff.and before_nine unspent)

  -- two ways to say that N_i is below threshold
  starved_is : (Over c s i → ⊥) ↔ Starved c s i
  starved_is = by i
    where
      by : (m : ℕ) → (Over c s m → ⊥) ↔ Starved c s m
      by zero = (λ n. absurd (n tt), λ h. absurd (omega (arith, h.is)))
      by (suc q) = (λ n. record { queue = q; is = refl; below = omega arith }, λ h o. omega (arith, h.below, (over_is c s (suc q)).0 o h.queue h.is))

  -- 11 is silent, of a node that there is
  fed_enough : i ≤ c.n → Silent (over_check c s i) ↔ (Starved c s i → ⊥)
  fed_enough l = Iff.trans (over_silent c s i) (
    λ o h. starved_is.1 h o.1,
    λ n. (l, by_cases (over? i) (λ o. o) (λ m. absurd (n (starved_is.0 m)))),
  )
    where
      over? : (m : ℕ) → Dec (Over c s m)
      over? zero = yes tt
      over? (suc q) = dec_le (τ_of c q) (held_at s q)

  -- the checks before 12
  before_twelve : i ≤ c.n → Silents (analyse_checks c ++ (state_check c s ∷ count_check c s i ∷ over_check c s i ∷ [])) ↔ (((Accepts c × PassesAll c s) × (Spent c s i → ⊥)) × (Starved c s i → ⊥))
  before_twelve l = Iff.trans (silents_last (analyse_checks c ++ (state_check c s ∷ count_check c s i ∷ [])) (over_check c s i)) (Iff.and before_eleven (fed_enough l))

  module _ (L : ℕ) where
    -- 9: "with the node as place once its count is 4,294,967,295, tested before 11 and 12", and after 17
    pub fire_nine : (((fire_answer c s i).number ≡ 9) × ((fire_answer c s i).place ≡ L)) ↔ ((Accepts c × PassesAll c s) × (Spent c s i × (L ≡ i)))
    unfolding fire_answer runs.answered
    fire_nine = Iff.trans (said (fire_refusal c s i) 9 L) (Iff.trans (fire_9 c s i L) (Iff.and before_nine Iff.rfl))

    -- 11: "no such node, .. or node not over threshold", place "node"
    pub fire_eleven : (((fire_answer c s i).number ≡ 11) × ((fire_answer c s i).place ≡ L)) ↔ (((Accepts c × PassesAll c s) × (Spent c s i → ⊥)) × (((c.n < i) ⊎ Starved c s i) × (L ≡ i)))
    unfolding fire_answer runs.answered
    fire_eleven = Iff.trans (said (fire_refusal c s i) 11 L) (Iff.trans (fire_11 c s i L) (Iff.and before_eleven (Iff.and (
      ⊎_elim (λ l. inl l) (λ n. inr (starved_is.0 n)),
      ⊎_elim (λ l. inl l) (λ h. inr (starved_is.1 h)),
    ) Iff.rfl)))

    -- 12: "a manual firing would pass a capacity", place "queue"; N_i fills queue i
    pub fire_twelve : (((fire_answer c s i).number ≡ 12) × ((fire_answer c s i).place ≡ L)) ↔ ((((Accepts c × PassesAll c s) × (Spent c s i → ⊥)) × (Starved c s i → ⊥)) × (Cramped c s i × (L ≡ i)))
    unfolding fire_answer runs.answered
    fire_twelve = Iff.trans (said (fire_refusal c s i) 12 L) (Iff.trans (fire_12 c s i L) (
      λ h.
          let l : i < c.n = h.1.0.0 in
          let q = (before_twelve (omega arith)).0 h.0 in
          (q, ((l, rw (capacity_is c ((accepts_is c).0 q.0.0.0) i l) h.1.0.1), h.1.1)),
      λ h.
          let l : i < c.n = h.1.0.0 in
          ((before_twelve (omega arith)).1 h.0, ((l, rw (capacity_is c ((accepts_is c).0 h.0.0.0.0) i l) at h.1.0.1), h.1.1)),
    ))

-- 14: "no such factory chain", place "number asked": there are three, 0 to 2
pub factory_fourteen : (k L : ℕ) → (((factory_answer k).number ≡ 14) × ((factory_answer k).place ≡ L)) ↔ ((2 < k) × (L ≡ k))
unfolding factory_answer chains.answered
factory_fourteen k L = Iff.trans (said (factory_refusal k) 14 L) (factory_exact L k)

-- and every other number is answered with its chain
pub factory_when : (k : ℕ) → ((factory_answer k).number ≡ 0) ↔ (k ≤ 2)
factory_when k = (
  λ z. by_cases (dec_le k 2) (λ l. l) (λ n. absurd (omega (arith, z, ((factory_fourteen k k).1 (omega arith, refl)).0))),
  λ l. by_cases (ℕ_discrete (factory_answer k).number 14)
      (λ e. absurd (omega (arith, ((factory_fourteen k _).0 (e, refl)).0)))
      (λ n. ⊎_elim (λ z. z.1.0) (λ r. let only : r.at ≡ 0 = omega (arith, r.inside) in absurd (n (r.number ∙ ap (λ (m : ℕ). get_or (14 ∷ []) m 0) only))) (factory_numbers k)),
)
