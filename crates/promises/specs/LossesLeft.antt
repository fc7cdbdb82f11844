-- What one recording tick leaves, by the numbers of its chain, its state and its list (02, Item 2): every slot of the state, and every slot of the list. SourceLoses, Took
-- and WorksNow are in LossWords, by numbers.
--   c, s, l, j, q            a chain, a run state, a list of losses, a queue (N_j feeds it and N_(j+1) empties it), a queue
--   Takes s l                state and list have all their slots (LossWords)
--   FinishesNow c s j        N_(j+1) works the last tick of a firing in this tick
--   FinishLoses c s j        and what it produces does not fit queue j+1
--   RecWorked c s t          N_(queue+1) is the node that worked one tick, and no other did (workedBy: e for each firing, and the work done of the next)
--   Noted l t q p m          m is l with the entry (t, q, p) more, slot by slot (Losses)
--   AfterFirst c s l m       m is l after the source's step: with its loss, or as it was
--   ListAfter c s l m        m is l after the tick: after the source's step, and then with the loss of a finish, or as it was
--   rec_left_clock, rec_left_fires, _rests, rec_left_works, rec_left_node_fires, _node_rests, rec_left_passes, rec_left_list
--                            a clean tick: the clock, the source's count, the work, the other counts, that 17 passes what it leaves, which with the counts is every queue's
--                            contents, and the list
--   rec_left_undated         13 leaves state and list as they were
--   FullLeft c s l q t m, rec_left_full
--                            15 leaves them as they were at the source, and else this
use Rattle.std.specs.Prelude.{◌≡◌, refl, ◌↔◌, ◌≢◌, ◌⊎◌, List, ℕ, zero, suc, ◌+◌, ◌<◌, get_or}
use Rattle.std.proofs.Common.{sym, ap, subst, ◌∙◌, inl, inr, ⊎_elim, zero-lt-suc, arith}
use Rattle.std.proofs.Math.Logic.{by_cases}
use Rattle.std.specs.Int.{◌∣◌}
use Rattle.std.proofs.Math.Decide.{ℕ_discrete, dec_dvd, dec_le}
use Rattle.ardenquill.specs.Chains.{work_of}
use Rattle.ardenquill.specs.Analyses.{Accepted}
use Rattle.ardenquill.specs.Runs.{count_at, held_at, done_at, Room}
use Rattle.ardenquill.specs.Ticks.{Works, works_is, worked_by}
use Rattle.ardenquill.specs.Losses.{Noted, SourceNoted, WorkNoted, RecTickOnce, rec_one_leaves, rec_one_lacks_stays, FinishLeaves, rec_one_full_stays, Recording, RecSound}
use Rattle.ardenquill.specs.Losses.{rec_tick_recording, rec_unclean_full, rec_source_fires, rec_source_rests, rec_source_others, rec_source_done, rec_source_work}
use Rattle.ardenquill.specs.Losses.{rec_source_fed, rec_source_unfed, rec_source_held, rec_work_counts, rec_work_own, rec_work_others, rec_work_source, rec_own_work}
use Rattle.ardenquill.specs.Losses.{rec_other_work, rec_tick, rec_left, rec_tick_answer, rec_answer_of_law, rec_answer_ran, rec_answer_one}
use Rattle.ardenquill.specs.Records.{Chain, Run, Losses, RecordClean, RecordAnswer}
use Rattle.promises.specs.Replay.{p_of, line, accepts_is}
use Rattle.promises.specs.Laws.{capacity_is, whole}
use Rattle.promises.specs.LossOutcomes.{RecCleanly, RecUndatedAt, FullAt, rec_cleanly_is, rec_undated_is, full_is}
use Rattle.promises.specs.LossesRefused.{ListPasses, RecPasses, rec_passes_at}
use Rattle.promises.specs.LossWords.{Takes, SourceLoses, OverAfter, WorksNow, spills_first, fits_first, over_in, works_out, works_in, list_kept}

-- N_(j+1) is the node that works, and with this tick it has worked the e ticks of a firing
abbrev pub FinishesNow : Chain → Run → ℕ → Type 0
FinishesNow c s j = (done_at s j + 1 ≡ work_of c j) × WorksNow c s j

-- and queue j+1, if there is one, has no room for what it produces
abbrev pub FinishLoses : Chain → Run → ℕ → Type 0
FinishLoses c s j = FinishesNow c s j × ((suc j < c.n) × ((line c (suc j)).capacity < held_at s (suc j) + p_of c (suc j)))

-- "works one tick, keeping work already done": one node, and no other
pub record RecWorked (c : Chain) (s t : Run) : Type 0 where
  pub queue : ℕ
  pub is : WorksNow c s queue
  pub works : worked_by c t queue ≡ worked_by c s queue + 1
  pub others : (j : ℕ) → j ≢ queue → worked_by c t j ≡ worked_by c s j

-- "its tick, queue and tokens go into a list", of the source's step
pub record AfterFirst (c : Chain) (s : Run) (l m : Losses) : Type 0 where
  pub loses : SourceLoses c s → Noted l s.clock 0 (p_of c 0) m
  pub keeps : (SourceLoses c s → ⊥) → m ≡ l

-- and of a firing then finished: "an entry's tick is .. the finish instant for a node"
pub record ListAfter (c : Chain) (s : Run) (l m : Losses) : Type 0 where
  pub between : Losses
  pub first : AfterFirst c s l between
  pub loses : (j : ℕ) → FinishLoses c s j → Noted between (s.clock + 1) (suc j) (p_of c (suc j)) m
  pub keeps : ((j : ℕ) → FinishLoses c s j → ⊥) → m ≡ between

-- 15 at a finish of N_q: "the source's step stands, the clock is t+1, work done e, count not raised, input not taken"
pub record FullLeft (c : Chain) (s : Run) (l : Losses) (q : ℕ) (t : Run) (m : Losses) : Type 0 where
  pub queue : ℕ
  pub is : q ≡ suc queue
  pub clock : t.clock ≡ s.clock + 1
  pub fires : c.period ∣ s.clock → count_at t 0 ≡ count_at s 0 + 1
  pub rests : (c.period ∣ s.clock → ⊥) → count_at t 0 ≡ count_at s 0
  pub counts : (i : ℕ) → i ≢ 0 → count_at t i ≡ count_at s i
  pub fed : c.period ∣ s.clock → (SourceLoses c s → ⊥) → held_at t 0 ≡ held_at s 0 + p_of c 0
  pub unfed : (c.period ∣ s.clock → SourceLoses c s) → held_at t 0 ≡ held_at s 0
  pub held : (j : ℕ) → j ≢ 0 → held_at t j ≡ held_at s j
  pub done : done_at t queue ≡ work_of c queue
  pub others : (j : ℕ) → j ≢ queue → done_at t j ≡ done_at s j
  pub list : AfterFirst c s l m

-- the source's step of a list
after_first : {c : Chain} → Accepted c → {s : Run} {l : Losses} {u : Run} {m : Losses} → SourceNoted c s l u m → AfterFirst c s l m
after_first {c} a {s} {l} {u} {m} o = record {
  loses = λ h. subst (λ (t : ℕ). Noted l t 0 (p_of c 0) m) o.clock (o.loses h.0 (spills_first a s h)).noted;
  keeps = list_kept a o;
}

-- one node works in a state
worker_only : {c : Chain} {u : Run} {i j : ℕ} → Works c u i → Works c u j → i ≡ j
worker_only {c} {u} {i} {j} a b = sym ((works_is c u i).1 a) ∙ (works_is c u j).1 b

-- a recording tick that is not refused
module _ (c : Chain) (s : Run) (l : Losses) (takes : Takes s l) (ok : (rec_tick_answer c s l).number ≡ 0) where
  r : Recording c s l
  r = rec_answer_of_law c s l (whole takes.0) takes.1 ok

  -- "13 at an instant takes back the entry of that instant's source step", and that step
  pub rec_left_undated : (at i : ℕ) → RecUndatedAt (rec_tick_answer c s l).outcome at i → ((rec_tick_answer c s l).run ≡ s) × ((rec_tick_answer c s l).losses ≡ l)
  rec_left_undated at i z = rec_one_lacks_stays (rec_answer_one c s l (whole takes.0) takes.1 ok) at i ((rec_undated_is _ at i).0 z)

  -- "15 leaves the state as an overflow would"
  pub rec_left_full : (at q : ℕ) → FullAt (rec_tick_answer c s l).outcome at q
      → ((q ≡ 0) × (((rec_tick_answer c s l).run ≡ s) × ((rec_tick_answer c s l).losses ≡ l))) ⊎ FullLeft c s l q (rec_tick_answer c s l).run (rec_tick_answer c s l).losses
  rec_left_full at q z = ⊎_elim inl (λ b. inr (left b)) (rec_one_full_stays (rec_answer_one c s l (whole takes.0) takes.1 ok) at q ((full_is _ at q).0 z))
    where
      left : FinishLeaves c s l q (rec_tick_answer c s l).run (rec_tick_answer c s l).losses → FullLeft c s l q (rec_tick_answer c s l).run (rec_tick_answer c s l).losses
      left b =
          let o = b.begun.source in
          let count : (i : ℕ) → count_at (rec_tick_answer c s l).run i ≡ count_at b.after i = λ i. ap (λ (x : List ℕ). get_or x i 0) b.work.counts in
          let hold : (i : ℕ) → held_at (rec_tick_answer c s l).run i ≡ held_at b.after i = λ i. ap (λ (x : List ℕ). get_or x i 0) b.work.held in
          record {
            queue = b.before;
            is = b.queue;
            clock = b.work.clock ∙ ap (λ (k : ℕ). k + 1) o.clock;
            fires = λ d. count 0 ∙ rec_source_fires o d;
            rests = λ n. count 0 ∙ rec_source_rests o n;
            counts = λ i ne. count i ∙ rec_source_others o i ne;
            fed = λ d n. hold 0 ∙ rec_source_fed o d (fits_first r.chain s n d);
            unfed = λ h. hold 0 ∙ rec_source_unfed o (λ d. spills_first r.chain s (h d));
            held = λ j ne. hold j ∙ rec_source_held o j ne;
            done = b.work.done;
            others = λ j ne. b.work.others j ne ∙ rec_source_done o j;
            list = after_first r.chain o;
          }

  -- "it ends clean"
  module _ (z : RecCleanly (rec_tick_answer c s l).outcome) where
    once : RecTickOnce c s l (rec_left (rec_tick_answer c s l))
    once = rec_one_leaves (rec_answer_one c s l (whole takes.0) takes.1 ok) ((rec_cleanly_is _).0 z)

    o : SourceNoted c s l once.after once.listed
    o = once.begun.source

    w : WorkNoted c once.after once.listed once.cleaned.worker (rec_tick_answer c s l).run (rec_tick_answer c s l).losses
    w = once.cleaned.work

    -- "the clock going to t+1"
    pub rec_left_clock : (rec_tick_answer c s l).run.clock ≡ s.clock + 1
    rec_left_clock = w.clock ∙ ap (λ (k : ℕ). k + 1) o.clock

    -- "the source fires if y divides t", its production lost or not, and else does not
    pub rec_left_fires : (count_at (rec_tick_answer c s l).run 0 ≡ count_at s 0 + 1) ↔ (c.period ∣ s.clock)
    rec_left_fires = (
      λ e. by_cases (dec_dvd c.period s.clock) (λ d. d) (λ n. absurd (omega (arith, e, rec_work_source w, rec_source_rests o n))),
      λ d. rec_work_source w ∙ rec_source_fires o d,
    )

    pub rec_left_rests : (count_at (rec_tick_answer c s l).run 0 ≡ count_at s 0) ↔ (c.period ∣ s.clock → ⊥)
    rec_left_rests = (λ e d. omega (arith, e, rec_left_fires.1 d), λ n. rec_work_source w ∙ rec_source_rests o n)

    -- "the over-threshold node whose next firing has the earliest deadline, ties to the one nearest the sink, works one tick"; where there is none nobody works
    pub rec_left_works : RecWorked c s (rec_tick_answer c s l).run
        ⊎ (((j : ℕ) → j < c.n → OverAfter c s j → ⊥) × ((j : ℕ) → worked_by c (rec_tick_answer c s l).run j ≡ worked_by c s j))
    rec_left_works = at once.cleaned.worker refl
      where
        at : (v : ℕ) → once.cleaned.worker ≡ v → RecWorked c s (rec_tick_answer c s l).run
            ⊎ (((j : ℕ) → j < c.n → OverAfter c s j → ⊥) × ((j : ℕ) → worked_by c (rec_tick_answer c s l).run j ≡ worked_by c s j))
        at zero e = inr (
          λ j h v. omega (arith, e, once.cleaned.works.some (suc j) (zero-lt-suc j) h (over_in r.chain o j v)),
          λ j. rec_other_work w j (λ f. omega arith) ∙ rec_source_work o j,
        )
        at (suc q) e = inl (record {
          queue = q;
          is = works_out r.chain o q (subst (Works c once.after) e once.cleaned.works);
          works = rec_own_work w q e ∙ ap (λ (k : ℕ). k + 1) (rec_source_work o q);
          others = λ j ne. rec_other_work w j (λ f. ne (omega arith)) ∙ rec_source_work o j;
        })

    -- what it leaves passes 17, so that the contents of each queue are what the counts and the entries say
    pub rec_left_passes : ListPasses c (rec_tick_answer c s l).losses × ((j : ℕ) → j < c.n → RecPasses c (rec_tick_answer c s l).run (rec_tick_answer c s l).losses j)
    rec_left_passes =
        let e = rec_answer_ran c s l (whole takes.0) takes.1 ok in
        let clean : (rec_tick c s l).outcome ≡ RecordClean = ap (λ (x : RecordAnswer). x.outcome) (sym e) ∙ (rec_cleanly_is _).0 z in
        let k = rec_tick_recording r (λ at q f. rec_unclean_full (sym f ∙ clean)) in
        let sound = subst (λ (x : RecordAnswer). RecSound c x.run x.losses) (sym e) k.sound in
        ((sound.short, sound.named), λ j h. (rec_passes_at c (rec_tick_answer c s l).run (rec_tick_answer c s l).losses ((accepts_is c).1 r.chain) j h).0 (sound.queues j h))

    -- N_(j+1) works the last tick of a firing
    ends_own : (j : ℕ) → FinishesNow c s j → (once.cleaned.worker ≡ suc j) × (done_at once.after j + 1 ≡ work_of c j)
    ends_own j f = (worker_only once.cleaned.works (works_in r.chain o j f.1), omega (arith, f.0, rec_source_done o j))

    own_ends : (j : ℕ) → once.cleaned.worker ≡ suc j → done_at once.after j + 1 ≡ work_of c j → FinishesNow c s j
    own_ends j e all = (omega (arith, all, rec_source_done o j), works_out r.chain o j (subst (Works c once.after) e once.cleaned.works))

    module _ (j : ℕ) where
      before : count_at once.after (suc j) ≡ count_at s (suc j)
      before = rec_source_others o (suc j) (λ e. omega arith)

      fires : FinishesNow c s j → count_at (rec_tick_answer c s l).run (suc j) ≡ count_at s (suc j) + 1
      fires f = let k = ends_own j f in rec_work_own w j k.0 k.1 ∙ ap (λ (x : ℕ). x + 1) before

      rests : (FinishesNow c s j → ⊥) → count_at (rec_tick_answer c s l).run (suc j) ≡ count_at s (suc j)
      rests n = at once.cleaned.worker refl
        where
          at : (v : ℕ) → once.cleaned.worker ≡ v → count_at (rec_tick_answer c s l).run (suc j) ≡ count_at s (suc j)
          at zero e = rec_work_counts w (λ k f. absurd (omega arith)) (suc j) ∙ before
          at (suc q) e = by_cases (ℕ_discrete (done_at once.after q + 1) (work_of c q))
              (λ all. rec_work_others w q e all (suc j) (λ f. n (let i : q ≡ j = omega arith in subst (FinishesNow c s) i (own_ends q e all))) ∙ before)
              (λ ne. rec_work_counts w (λ k f all. ne (let i : k ≡ q = omega arith in subst (λ (x : ℕ). done_at once.after x + 1 ≡ work_of c x) i all)) (suc j) ∙ before)

      -- "the effect at t+1 of a firing then finished": its count grows by one exactly then, its production lost or not, and else does not
      pub rec_left_node_fires : (count_at (rec_tick_answer c s l).run (suc j) ≡ count_at s (suc j) + 1) ↔ FinishesNow c s j
      rec_left_node_fires = (λ e. by_finish (λ f. f) (λ n. absurd (omega (arith, e, rests n))), fires)
        where
          by_finish : {P : Type 0} → (FinishesNow c s j → P) → ((FinishesNow c s j → ⊥) → P) → P
          by_finish does none = by_cases (ℕ_discrete once.cleaned.worker (suc j))
              (λ e. by_cases (ℕ_discrete (done_at once.after j + 1) (work_of c j)) (λ all. does (own_ends j e all)) (λ n. none (λ f. n (ends_own j f).1)))
              (λ n. none (λ f. n (ends_own j f).0))

      pub rec_left_node_rests : (count_at (rec_tick_answer c s l).run (suc j) ≡ count_at s (suc j)) ↔ (FinishesNow c s j → ⊥)
      rec_left_node_rests = (λ e f. omega (arith, e, fires f), rests)

    -- "dropped whole, its tick, queue and tokens go into a list": the list has the source's loss, then that of a finish, and else is as it was
    pub rec_left_list : ListAfter c s l (rec_tick_answer c s l).losses
    rec_left_list = record {
      between = once.listed;
      first = after_first r.chain o;
      loses = λ j f.
          let k = ends_own j f.0 in
          let n : suc j < c.n = f.1.0 in
          let lost = w.loses j k.0 k.1 (n, omega (arith, f.1.1, capacity_is c r.chain (suc j) n, rec_source_held o (suc j) (λ e. omega arith))) in
          subst (λ (x : ℕ). Noted once.listed x (suc j) (p_of c (suc j)) (rec_tick_answer c s l).losses) rec_left_clock lost.noted;
      keeps = λ n. (w.keeps (fits n)).1;
    }
      where
        fits : ((j : ℕ) → FinishLoses c s j → ⊥) → (j : ℕ) → once.cleaned.worker ≡ suc j → done_at once.after j + 1 ≡ work_of c j → Room c once.after (suc j)
        fits n j e all h = by_cases (dec_le (held_at s (suc j) + p_of c (suc j)) (line c (suc j)).capacity)
            (λ k. omega (arith, k, capacity_is c r.chain (suc j) h, rec_source_held o (suc j) (λ f. omega arith)))
            (λ k. absurd (n j (own_ends j e all, (h, omega arith))))
