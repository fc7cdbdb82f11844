-- Demand 2, one tick by the numbers of its chain and its state, and by what the deadline question answers: of the words by which a tick is defined none stands in
-- these laws.
--   c, s, t, i, j, w         a chain, a run state, a tick or the state after it, a node, a queue, the queue of the node that works
--   OverThen c s j           N_(j+1) is over threshold after the source's step of s
--   asked_of c s j            what the deadline question of N_(j+1)'s next firing answers
--   LacksAsked c s i         N_i is the lowest node over threshold whose question is refused 13
--   tick_13                  a tick ends with 13 exactly then, where the source does not overflow
--   worked_by c s j          the ticks that N_(j+1) has worked: e for each firing, and the work done of the next (Ticks)
--   WorksAsked c s t w, Worked c s t
--                            N_(w+1) is the one that worked: over threshold, no question of a node over threshold has an earlier answer, none an equal one nearer the sink;
--                            and that some node is
--   tick_works               in a clean tick it works one tick, and nobody else; where no node is over threshold nobody does
--   tick_passes              a clean tick leaves a state that passes 17; with tick_works, tick_clock, source_fires and tick_kept that is every slot of it
--   Finishes c s t j         N_(j+1) is the one that worked, and it was the last tick of its firing
--   node_fires, node_rests   exactly then its count grows, by one
use Rattle.std.specs.Prelude.{◌≡◌, refl, ◌↔◌, ◌≢◌, ◌⊎◌, [], ◌∷◌, ◌++◌, ℕ, zero, suc, ◌+◌, ◌*◌, ◌≤◌, ◌<◌}
use Rattle.std.proofs.Common.{sym, subst, ◌∙◌, inl, inr, ⊎_elim, zero-lt-suc, mul-le-mul_left, arith}
use Rattle.std.proofs.Math.Path.{ap}
use Rattle.std.proofs.Math.Logic.{by_cases}
use Rattle.std.specs.Int.{◌∣◌}
use Rattle.std.proofs.Math.Decide.{ℕ_discrete, dec_lt, dec_dvd}
use Rattle.ardenquill.specs.Chains.{work_of, Silent, Silents}
use Rattle.ardenquill.specs.Analyses.{Accepted, run_checks}
use Rattle.ardenquill.specs.Runs.{count_at, held_at, done_at, Over, StateSound}
use Rattle.ardenquill.specs.Deadlines.{ask_check, ask_silent, index_check, index, index_silent, index_only, index_exact, deadline, answered_due, deadline_answer, deadline_13}
use Rattle.ardenquill.specs.Ticks.{outcome_of, tick_answer, Ticking, ticking_is, tick_ran, tick_running, SourceOnce, TickOnce, Lacks, worked_by, source_work, other_work, own_work}
use Rattle.ardenquill.specs.Records.{Refusal, Chain, DeadlineAnswer, Run, Outcome, Clean, Overflowed, NoDeadline, TickAnswer}
use Rattle.promises.specs.Outcomes.{Cleanly, UndatedAt, cleanly_is, overflowed_is, undated_is}
use Rattle.promises.specs.Replay.{p_of, τ_of, Accepts, line, AllSlots, Passes, Ample, accepts_is}
use Rattle.promises.specs.Laws.{capacity_is, run_quiet, silents_append, whole, passes_is}
use Rattle.promises.specs.Demand2.{tick_when, tick_overflows, tick_lacks, tick_leaves, deadline_when, deadline_is}

-- "its input queue holds at least τ" after "the source fires if y divides t": queue j does, or it is queue 0 and does with what the source then puts there
abbrev pub OverThen : Chain → Run → ℕ → Type 0
OverThen c s j = (τ_of c j ≤ held_at s j) ⊎ ((j ≡ 0) × ((c.period ∣ s.clock) × (τ_of c 0 ≤ held_at s 0 + p_of c 0)))

-- what the question of N_(j+1)'s next firing is answered
abbrev pub asked_of : Chain → Run → ℕ → DeadlineAnswer
asked_of c s j = deadline_answer c (suc j) (count_at s (suc j) + 1)

-- "an over-threshold node's deadline can't be had, place the lowest such over-threshold node"
pub record LacksAsked (c : Chain) (s : Run) (i : ℕ) : Type 0 where
  pub queue : ℕ
  pub is : i ≡ suc queue
  pub node : queue < c.n
  pub over : OverThen c s queue
  pub asked : (asked_of c s queue).number ≡ 13
  pub before : (j : ℕ) → j < queue → OverThen c s j → (asked_of c s j).number ≡ 0

-- "the over-threshold node whose next firing has the earliest deadline, ties to the one nearest the sink, works one tick, keeping work already done": t has one tick more
-- of N_(w+1), e for each firing and the work on the next, and no more of any other node
pub record WorksAsked (c : Chain) (s t : Run) (w : ℕ) : Type 0 where
  pub node : w < c.n
  pub over : OverThen c s w
  pub early : (j : ℕ) → j < c.n → OverThen c s j → (asked_of c s w).due ≤ (asked_of c s j).due
  pub tie : (j : ℕ) → w < j → j < c.n → OverThen c s j → (asked_of c s w).due < (asked_of c s j).due
  pub works : worked_by c t w ≡ worked_by c s w + 1
  pub others : (j : ℕ) → j ≢ w → worked_by c t j ≡ worked_by c s j

-- some node is that
pub record Worked (c : Chain) (s t : Run) : Type 0 where
  pub queue : ℕ
  pub is : WorksAsked c s t queue

-- N_(j+1) is that, and with this tick has worked the e ticks of a firing
abbrev pub Finishes : Chain → Run → Run → ℕ → Type 0
Finishes c s t j = (done_at s j + 1 ≡ work_of c j) × WorksAsked c s t j

-- then its count is one more, and else it is the same
abbrev CountsSo : Chain → Run → Run → ℕ → Type 0
CountsSo c s t j = (Finishes c s t j × (count_at t (suc j) ≡ count_at s (suc j) + 1)) ⊎ ((Finishes c s t j → ⊥) × (count_at t (suc j) ≡ count_at s (suc j)))

-- after the source's step
module _ {c : Chain} {s u : Run} (o : SourceOnce c s u) where
  pub over_out : (j : ℕ) → τ_of c j ≤ held_at u j → OverThen c s j
  over_out j h = by_cases (ℕ_discrete j 0)
      (λ z. by_cases (dec_dvd c.period s.clock)
      (λ d. inr (z, (d, subst (λ (m : ℕ). τ_of c 0 ≤ m) (o.fires d).1 (subst (λ (i : ℕ). τ_of c i ≤ held_at u i) z h))))
      (λ n. inl (subst (λ (i : ℕ). τ_of c i ≤ held_at s i) (sym z) (subst (λ (m : ℕ). τ_of c 0 ≤ m) (o.rests n).1 (subst (λ (i : ℕ). τ_of c i ≤ held_at u i) z h)))))
      (λ ne. inl (subst (λ (m : ℕ). τ_of c j ≤ m) (o.held j ne) h))

  pub over_in : (j : ℕ) → OverThen c s j → τ_of c j ≤ held_at u j
  over_in j = ⊎_elim kept (λ h. subst (λ (i : ℕ). τ_of c i ≤ held_at u i) (sym h.0) (subst (λ (m : ℕ). τ_of c 0 ≤ m) (sym (o.fires h.1.0).1) h.1.1))
    where
      kept : τ_of c j ≤ held_at s j → τ_of c j ≤ held_at u j
      kept h = by_cases (ℕ_discrete j 0)
          (λ z. by_cases (dec_dvd c.period s.clock)
          (λ d. subst (λ (i : ℕ). τ_of c i ≤ held_at u i) (sym z) (omega (arith, (o.fires d).1, subst (λ (i : ℕ). τ_of c i ≤ held_at s i) z h)))
          (λ n. subst (λ (i : ℕ). τ_of c i ≤ held_at u i) (sym z) (omega (arith, (o.rests n).1, subst (λ (i : ℕ). τ_of c i ≤ held_at s i) z h))))
          (λ ne. omega (arith, o.held j ne, h))

  -- the source does not change the index of a node's next firing
  index_then : (j : ℕ) → suc (count_at u (suc j)) ≡ count_at s (suc j) + 1
  index_then j = omega (arith, o.counts (suc j) (λ e. omega arith))

-- a question of a chain that may run
module _ (c : Chain) (may : Accepts c × ((j : ℕ) → j < c.n → Ample c j)) (i k : ℕ) (node : i ≤ c.n) (some : 1 ≤ k) where
  had : ((m : ℕ) → m ≤ i → index c i k m ≤ 4294967295) → (deadline_answer c i k).number ≡ 0
  had h = (deadline_when c i k).1 (may, ((node, some), h))

  -- is refused 13 where an index on its way passes the limit
  passed : (m : ℕ) → m ≤ i → 4294967295 < index c i k m → (deadline_answer c i k).number ≡ 13
  unfolding Silents deadline_answer answered_due
  passed m l p =
      let speaks : Silent (index_check c i k) → ⊥ = λ z. omega (arith, p, (index_silent c i k).0 z m l) in
      let e : (index_check c i k).number ≡ 13 = index_only c i k speaks in
      let f = (index_exact c i k (index_check c i k).place).0 (λ a. record { number = e a; place = (index_check c i k).place }) in
      let quiet : Silents (run_checks c ++ (ask_check c i k ∷ [])) = silents_append (run_checks c) (ask_check c i k ∷ []) (run_quiet c may) ((ask_silent c i k).1 (node, some), tt) in
      ap (λ (r : Refusal). r.number) ((deadline_13 c i k (index_check c i k).place).1 (quiet, f))

-- a number of e's and less than e beside them is such in one way only
pub parted : (e N d M b : ℕ) → d < e → b < e → e * N + d ≡ e * M + b → (N ≡ M) × (d ≡ b)
parted e N d M b l m h =
    let same : N ≡ M = by_cases (dec_lt N M)
    (λ f. absurd (omega (arith, mul-le-mul_left e f)))
    (λ f. by_cases (dec_lt M N) (λ g. absurd (omega (arith, mul-le-mul_left e g))) (λ g. omega arith)) in
    (same, omega (arith, subst (λ (x : ℕ). e * x + d ≡ e * M + b) same h))

module _ (c : Chain) (s : Run) (slots : AllSlots s) (ok : (tick_answer c s).number ≡ 0) where
  -- its chain may run
  may : Accepts c × ((j : ℕ) → j < c.n → Ample c j)
  may = ((tick_when c s).0 ok).0

  -- the question of a node after the source's step
  asked_had : {u : Run} → SourceOnce c s u → (j : ℕ) → j < c.n → ((m : ℕ) → m ≤ suc j → index c (suc j) (suc (count_at u (suc j))) m ≤ 4294967295) → (asked_of c s j).number ≡ 0
  asked_had {u} o j l h = subst (λ (k : ℕ). (deadline_answer c (suc j) k).number ≡ 0) (index_then o j) (had c may (suc j) (suc (count_at u (suc j))) l (omega arith) h)

  asked_passed : {u : Run} → SourceOnce c s u → (j : ℕ) → j < c.n → (m : ℕ) → m ≤ suc j → 4294967295 < index c (suc j) (suc (count_at u (suc j))) m → (asked_of c s j).number ≡ 13
  asked_passed {u} o j l m h p = subst (λ (k : ℕ). (deadline_answer c (suc j) k).number ≡ 13) (index_then o j) (passed c may (suc j) (suc (count_at u (suc j))) l (omega arith) m h p)

  asked_due : {u : Run} → SourceOnce c s u → (j : ℕ) → (asked_of c s j).number ≡ 0 → (asked_of c s j).due ≡ deadline c (suc j) (suc (count_at u (suc j)))
  asked_due o j z = deadline_is c (suc j) (count_at s (suc j) + 1) z ∙ ap (deadline c (suc j)) (sym (index_then o j))

  -- 13 in words is 13 of the question
  lacks_asked : (i : ℕ) → Lacks c s i → LacksAsked c s i
  lacks_asked zero k = absurd (omega (arith, k.first.some))
  lacks_asked (suc q) k = record {
    queue = q;
    is = refl;
    node = k.first.node;
    over = over_out k.source q k.first.over;
    asked = asked_passed k.source q k.first.node k.first.past.at k.first.past.node k.first.past.passes;
    before = λ j l o. asked_had k.source j (omega (arith, k.first.node)) (k.first.before (suc j) (zero-lt-suc j) (omega arith) (over_in k.source j o));
  }

  -- of one node only
  asked_once : (i j : ℕ) → LacksAsked c s i → LacksAsked c s j → i ≡ j
  asked_once i j a b = by_cases (ℕ_discrete a.queue b.queue) (λ e. a.is ∙ ap suc e ∙ sym b.is) (λ n. ⊎_elim
      (λ l. absurd (omega (arith, a.asked, b.before a.queue l a.over)))
      (λ l. absurd (omega (arith, b.asked, a.before b.queue l b.over)))
      (apart a.queue b.queue n))
    where
      apart : (m k : ℕ) → m ≢ k → (m < k) ⊎ (k < m)
      apart m k n = by_cases (dec_lt m k) (λ l. inl l) (λ l. inr (omega (arith, n, l)))

  -- "13 .. when, after the source's step, an over-threshold node's deadline can't be had, place the lowest such over-threshold node", where the source does not overflow
  pub tick_13 : (t i : ℕ) → UndatedAt (tick_answer c s).outcome t i ↔ (((t ≡ s.clock) × ((c.period ∣ s.clock) → held_at s 0 + p_of c 0 ≤ (line c 0).capacity)) × LacksAsked c s i)
  tick_13 t i = (out, λ h. back h (tick_answer c s).outcome refl)
    where
      a : Accepted c
      a = (accepts_is c).0 may.0

      out : UndatedAt (tick_answer c s).outcome t i → ((t ≡ s.clock) × ((c.period ∣ s.clock) → held_at s 0 + p_of c 0 ≤ (line c 0).capacity)) × LacksAsked c s i
      out e =
          let k = (tick_lacks c s slots ok t i).0 e in
          ((k.0, λ d. rw (capacity_is c a 0 a.chain.count.0) (k.1.fits d)), lacks_asked i k.1)

      back : (((t ≡ s.clock) × ((c.period ∣ s.clock) → held_at s 0 + p_of c 0 ≤ (line c 0).capacity)) × LacksAsked c s i)
          → (o : Outcome) → (tick_answer c s).outcome ≡ o → UndatedAt (tick_answer c s).outcome t i
      back h Clean e =
          let k = tick_leaves c s slots ok ((cleanly_is (tick_answer c s).outcome).1 e) in
          let q : ℕ = h.1.queue in
          absurd (omega (arith, h.1.asked, asked_had k.source q h.1.node (k.dated q h.1.node (over_in k.source q h.1.over))))
      back h (Overflowed m q) e = let k = (tick_overflows c s slots ok m q).0 ((overflowed_is (tick_answer c s).outcome m q).1 e) in absurd (omega (arith, k.1.1, h.0.1 k.1.0))
      back h (NoDeadline m j) e =
          let k = out' m j e in
          (undated_is (tick_answer c s).outcome t i).1 (e ∙ (λ z. NoDeadline ((k.0 ∙ sym h.0.0) z) (asked_once j i k.1 h.1 z)))
        where
          out' : (m j : ℕ) → (tick_answer c s).outcome ≡ NoDeadline m j → (m ≡ s.clock) × LacksAsked c s j
          out' m j e = let k = (tick_lacks c s slots ok m j).0 ((undated_is (tick_answer c s).outcome m j).1 e) in (k.0, lacks_asked j k.1)

  -- "the over-threshold node whose next firing has the earliest deadline, ties to the one nearest the sink, works one tick"; where there is none nobody works
  pub tick_works : Cleanly (tick_answer c s).outcome
      → Worked c s (tick_answer c s).run ⊎ (((j : ℕ) → j < c.n → OverThen c s j → ⊥) × ((j : ℕ) → worked_by c (tick_answer c s).run j ≡ worked_by c s j))
  tick_works z = at k.worker refl
    where
      k : TickOnce c s (tick_answer c s).run
      k = tick_leaves c s slots ok z

      due : (j : ℕ) → j < c.n → OverThen c s j → (asked_of c s j).due ≡ deadline c (suc j) (suc (count_at k.after (suc j)))
      due j l o = asked_due k.source j (asked_had k.source j l (k.dated j l (over_in k.source j o)))

      at : (v : ℕ) → k.worker ≡ v → Worked c s (tick_answer c s).run ⊎ (((j : ℕ) → j < c.n → OverThen c s j → ⊥) × ((j : ℕ) → worked_by c (tick_answer c s).run j ≡ worked_by c s j))
      at zero e = inr (λ j l o. omega (arith, e, k.works.some (suc j) (zero-lt-suc j) l (over_in k.source j o)), λ j. other_work k.work j (λ f. omega arith) ∙ source_work k.source j)
      at (suc q) e =
          let l : q < c.n = omega (arith, e, k.works.node) in
          let o : OverThen c s q = over_out k.source q (subst (λ (i : ℕ). Over c k.after i) e (k.works.over (omega (arith, e)))) in
          let own : worked_by c (tick_answer c s).run q ≡ worked_by c k.after q + 1 = own_work k.work q e in
          inl (record {
            queue = q;
            is = record {
              node = l;
              over = o;
              early = λ j m p. rw (due q l o, due j m p)
                  (subst (λ (i : ℕ). deadline c i (suc (count_at k.after i)) ≤ deadline c (suc j) (suc (count_at k.after (suc j)))) e
                  (k.works.early (suc j) (zero-lt-suc j) m (over_in k.source j p)));
              tie = λ j f m p. rw (due q l o, due j m p)
                  (subst (λ (i : ℕ). deadline c i (suc (count_at k.after i)) < deadline c (suc j) (suc (count_at k.after (suc j)))) e
                  (k.works.tie (suc j) (omega (arith, e)) m (over_in k.source j p)));
              works = own ∙ ap (λ (m : ℕ). m + 1) (source_work k.source q);
              others = λ j ne. other_work k.work j (λ f. ne (omega (arith, e, f))) ∙ source_work k.source j;
            };
          })

  -- so each queue of what it leaves balances, and no work is at e
  pub tick_passes : Cleanly (tick_answer c s).outcome → (j : ℕ) → j < c.n → Passes c (tick_answer c s).run j
  unfolding tick_answer outcome_of
  tick_passes z =
      let k : Ticking c s = (ticking_is c s).0 ok in
      let ran = tick_ran c s ok in
      let leaves = tick_running (record { chain = k.chain; whole = whole slots; state = k.state }) (ap (λ (a : TickAnswer). a.outcome) (sym ran) ∙ (cleanly_is (tick_answer c s).outcome).0 z) in
      (passes_is c (tick_answer c s).run may.0).0 (subst (λ (a : TickAnswer). StateSound c a.run) (sym ran) leaves.state)

  module _ (z : Cleanly (tick_answer c s).outcome) (j : ℕ) (l : j < c.n) where
    -- a clean tick leaves such a count, by what the node has worked before and after it
    counts_so : CountsSo c s (tick_answer c s).run j
    counts_so = ⊎_elim (λ k. by_cases (ℕ_discrete j k.queue) (λ e. own (subst (WorksAsked c s t) (sym e) k.is)) (λ ne. none (k.is.others j ne))) (λ k. none (k.1 j)) (tick_works z)
      where
        t : Run
        t = (tick_answer c s).run

        was : done_at s j < work_of c j
        was = (((tick_when c s).0 ok).1.0 j l).work

        is : done_at t j < work_of c j
        is = (tick_passes z j l).work

        none : worked_by c t j ≡ worked_by c s j → CountsSo c s t j
        none same = inr (λ f. omega (arith, same, f.1.works), (parted (work_of c j) _ _ _ _ is was same).0)

        own : WorksAsked c s t j → CountsSo c s t j
        own k = by_cases (ℕ_discrete (done_at s j + 1) (work_of c j))
            (λ all. inl ((all, k), (parted (work_of c j) (count_at t (suc j)) (done_at t j) (count_at s (suc j) + 1) 0 is (omega arith) (omega (arith, k.works, all))).0))
            (λ n. inr (λ f. n f.0, (parted (work_of c j) (count_at t (suc j)) (done_at t j) (count_at s (suc j)) (done_at s j + 1) is (omega (arith, n, was)) (omega (arith, k.works))).0))

    -- "the effect at t+1 of a firing then finished": a clean tick adds one to N_(j+1)'s count exactly when that works the last tick of a firing, and else leaves it
    pub node_fires : (count_at (tick_answer c s).run (suc j) ≡ count_at s (suc j) + 1) ↔ Finishes c s (tick_answer c s).run j
    node_fires = (λ e. ⊎_elim (λ k. k.0) (λ k. absurd (omega (arith, k.1, e))) counts_so, λ f. ⊎_elim (λ k. k.1) (λ k. absurd (k.0 f)) counts_so)

    pub node_rests : (count_at (tick_answer c s).run (suc j) ≡ count_at s (suc j)) ↔ (Finishes c s (tick_answer c s).run j → ⊥)
    node_rests = (λ e f. omega (arith, e, node_fires.1 f), λ n. ⊎_elim (λ k. absurd (n k.0)) (λ k. k.1) counts_so)
