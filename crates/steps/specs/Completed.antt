-- The second half of a tick, one tick of work and the effect of the firing then finished, one law to each need of its code.
--   complete_works           the work of its node can grow
--   complete_goes            it has not worked its execution time: nothing takes effect
--   Before                   the queue before a node that has worked its execution time
--   complete_finishes        it has: what the effect of its firing asks
--   complete_fires, _spills  the firing takes effect, or does not fit
use Rattle.std.specs.Prelude.{◌≡◌, Bool, true, false}
use Rattle.std.proofs.Math.Path.{refl, ap, subst}
use Rattle.std.proofs.Common.{Ok, Err, sym, ◌∙◌, true≢false, arith}
use mathlib.Core.List.{List, [], ◌∷◌}
use Prim.Native.Nat.{ℕ, zero, suc, ◌+◌, ◌≤◌, ◌<◌}
use Rattle.std.proofs.Math.ListN.{get_or}
use borrow.Author.Tests.{leb-true, leb-false}
use Rattle.chain.specs.Record.{work_of}
use Rattle.chain.specs.declared.Chain.{Chain}
use Rattle.sizing.specs.Plan.{work_in}
use Rattle.state.specs.State.{count_at, done_at}
use Rattle.state.specs.declared.Run.{Run}
use Rattle.flow.specs.Flow.{Shows}
use Rattle.instants.specs.Steps.{clean, worked, ended, finish, finished}
use Rattle.instants.proofs.KeptLaws.{finish_others, worked_counts, worked_held, worked_clock, worked_same, works_unended, works_on, works_ended, works_ends}
use Rattle.instants.specs.Runs.{unclean_overflow}
use Rattle.instants.specs.Quiet.{worked_in}
use Rattle.instants.proofs.QuietLaws.{worked_done}
use Rattle.instants.specs.declared.Outcome.{Outcome}
use Rattle.instants.specs.declared.Outcome.TheVariants.{Clean}
use Rattle.instants.specs.declared.Ticked.{Ticked}
use Rattle.traces.specs.Trace.{tracing, finish_entry, finish_trace}
use Rattle.traces.specs.Traced.{tracing_none}
use Rattle.traces.proofs.TracedLaws.{finish_entry_law}
use Rattle.steps.specs.Lent.{WorkFits, ended_at, EndsIn, Ends, FinishedTo, FinishedGives}
use Rattle.steps.specs.Laws.{shows_as}
use Rattle.steps.specs.Passed.{CompletesIn, Completes, CompletedTo, CompletedGives}
use Rattle.steps.specs.declared.Halt.TheVariants as halt

-- of a state with which the second half may be made
module _ {l f e : List ℕ} {i : ℕ} {c : Chain} {u : Run} (x : CompletesIn l f e i c u) where
  -- the state after the work
  abbrev v : Run
  v = worked u i

  worked_is : worked_in e i 1 ≡ v.done
  worked_is = ap (λ (y : List ℕ). worked_in y i 1) x.done ∙ sym (worked_done u i)

  same_counts : (k : ℕ) → count_at v k ≡ count_at u k
  same_counts k = ap (λ (y : List ℕ). get_or y k 0) (worked_counts u i)

  works : WorkFits e i 1
  works = record {
    node = omega (arith, x.node, x.filled.chain.chain.count.1);
    less = λ j h.
        let m : j < c.n = omega (arith, x.node) in
        omega (arith, ap (λ (y : List ℕ). get_or y j 0) x.done, x.filled.below j m, (x.filled.chain.chain.work j m).1);
  }

  -- the plan's execution time is the chain's, and the work done is one more
  time_is : (j : ℕ) → i ≡ suc j → (work_in l j ≡ work_of c j) × (get_or (worked_in e i 1) j 0 ≡ done_at u j + 1)
  time_is j h =
      let m : j < c.n = omega (arith, x.node) in (
        x.shown.plans.works j m,
        ap (λ (y : List ℕ). get_or y j 0) worked_is
            ∙ subst (λ (n : ℕ). done_at (worked u n) j ≡ done_at u j + 1) (sym h) (worked_same u j (omega (arith, x.filled.whole.done, x.filled.chain.chain.count.1))),
      )

  unended : ended_at l (worked_in e i 1) i ≡ false → (j : ℕ) → j < c.n → i ≡ suc j → done_at u j + 1 < work_of c j
  unfolding ended_at
  unended h j m z =
      let low : get_or (worked_in e i 1) j 0 < work_in l j = leb-false _ _ (subst (λ (n : ℕ). ended_at l (worked_in e i 1) n ≡ false) z h) in
      omega (arith, (time_is j z).0, (time_is j z).1)

  all_worked : (j : ℕ) → i ≡ suc j → ended_at l (worked_in e i 1) i ≡ true → done_at u j + 1 ≡ work_of c j
  unfolding ended_at
  all_worked j z h =
      let high : work_in l j ≤ get_or (worked_in e i 1) j 0 = leb-true _ _ (subst (λ (n : ℕ). ended_at l (worked_in e i 1) n ≡ true) z h) in
      omega (arith, (time_is j z).0, (time_is j z).1, x.filled.below j (omega (arith, x.node)))

  -- it has not worked its execution time
  goes_on : ended_at l (worked_in e i 1) i ≡ false → CompletedTo c u i f (worked_in e i 1) (Ok false)
  unfolding tracing finish finish_entry
  goes_on h = let on : finished c v ≡ clean v = works_on x.filled i (unended h) in record {
    outcome = ap (λ (y : Ticked). y.outcome) on;
    spills = tt;
    shows = subst (λ (y : Ticked). Shows f c y.run) (sym on) (shows_as x.shown.shows (worked_counts u i) (worked_held u i));
    done = worked_is ∙ ap (λ (y : Ticked). y.run.done) (sym on);
    entry = finish_entry_law c v (works_unended x.filled i (unended h));
    rests = λ n. on;
    others = λ j n. ap (λ (y : Ticked). count_at y.run (suc j)) on ∙ same_counts (suc j);
    some = λ n. absurd (true≢false (sym n));
  }

  -- the queue before it, where it has worked its execution time
  pub record Before : Type 0 where
    pub queue : ℕ
    pub is : i ≡ suc queue

  before : ended_at l (worked_in e i 1) i ≡ true → Before
  unfolding ended_at
  before h = by i refl
    where
      by : (n : ℕ) → i ≡ n → Before
      by zero z = absurd (true≢false (sym (subst (λ (n : ℕ). ended_at l (worked_in e i 1) n ≡ true) z h)))
      by (suc j) z = record { queue = j; is = z }

  -- it has: the effect of its firing is that of a firing finished
  module _ (h : ended_at l (worked_in e i 1) i ≡ true) where
    inside : (before h).queue < c.n
    inside = omega (arith, x.node, (before h).is)

    ends : EndsIn l f (worked_in e i 1) i c u
    ends = let q : Before = before h in record {
      shown = x.shown;
      filled = x.filled;
      queue = q.queue;
      is = q.is;
      inside = inside;
      over = x.over q.queue q.is;
      count = x.count q.queue q.is;
      all = all_worked q.queue q.is h;
      done = worked_is ∙ ap (λ (n : ℕ). (worked u n).done) q.is;
    }

    ended_is : (ended c v ≡ i) × (finished c v ≡ finish c v i)
    ended_is =
        let q : Before = before h in
        let all = all_worked q.queue q.is h in
        subst (λ (n : ℕ). (ended c (worked u n) ≡ n) × (finished c (worked u n) ≡ finish c (worked u n) n)) (sym q.is)
        (works_ended x.filled q.queue inside all, works_ends x.filled q.queue inside all)

    -- its entry, where that is clean
    entry_own : (finish c v i).outcome ≡ Clean → finish_trace c v ≡ (u.clock + 1, i) ∷ []
    unfolding tracing finish_entry
    entry_own o = finish_entry_law c v ended_is.0 ∙ ap (λ (y : Outcome). tracing y v (λ w. finish_entry v i)) o ∙ at (before h).is
      where
        at : {j : ℕ} → i ≡ suc j → finish_entry v i ≡ (u.clock + 1, i) ∷ []
        at {j} z = subst (λ (n : ℕ). finish_entry v n ≡ (u.clock + 1, n) ∷ []) (sym z) (ap (λ (t : ℕ). (t, suc j) ∷ []) (worked_clock u i))

    module _ {m o : List ℕ} where
      fires : FinishedTo c u i m o true → CompletedTo c u i m o (Ok true)
      fires y = record {
        outcome = y.outcome;
        spills = tt;
        shows = y.shows;
        done = y.done;
        entry = entry_own (ap (λ (z : Ticked). z.outcome) (sym ended_is.1) ∙ y.outcome);
        rests = λ n. absurd (true≢false n);
        others = λ j n. ap (λ (w : Ticked). count_at w.run (suc j)) ended_is.1 ∙ finish_others c v i (suc j) (λ w. n refl (sym w)) ∙ same_counts (suc j);
        some = λ n. omega (arith, (before h).is);
      }

      spills : FinishedTo c u i m o false → CompletedTo c u i m o (Err (halt.Overflowed (u.clock + 1) i))
      spills y = record {
        outcome = y.outcome;
        spills = (refl, omega (arith, (before h).is));
        shows = y.shows;
        done = y.done;
        entry = finish_entry_law c v ended_is.0 ∙ tracing_none (finish c v i).outcome v _ (λ z. unclean_overflow (sym y.outcome ∙ ap (λ (w : Ticked). w.outcome) ended_is.1 ∙ z));
        rests = tt;
        others = tt;
        some = λ n. absurd (true≢false (sym n));
      }

-- whether the work is all, as code has it
all_done : (l e o : List ℕ) (i : ℕ) {x a : Bool} → o ≡ worked_in e i 1 → x ≡ ended_at l o i → x ≡ a → ended_at l (worked_in e i 1) i ≡ a
all_done l e o i w y h = ap (λ (q : List ℕ). ended_at l q i) (sym w) ∙ sym y ∙ h

-- as the code has it: o is the work done after one tick of work, and b tells whether it is all
module _ {l f e : List ℕ} {i : ℕ} where
  pub complete_works : Completes l f e i → WorkFits e i 1
  complete_works a = works a.is

  module _ {o : List ℕ} {b : Bool} (w : o ≡ worked_in e i 1) (y : b ≡ ended_at l o i) where
    pub complete_goes : {t : ℕ} → b ≡ false → CompletedGives l f e t i f o (Ok false)
    complete_goes h = rw w (record { gives = λ p. goes_on p (all_done l e o i w y h); told = tt })

    module _ (h : b ≡ true) where
      ends_now : {c : Chain} {u : Run} → CompletesIn l f e i c u → EndsIn l f o i c u
      ends_now {c} {u} p = subst (λ (q : List ℕ). EndsIn l f q i c u) (sym w) (ends p (all_done l e o i w y h))

      pub complete_finishes : Completes l f e i → Ends l f o i
      complete_finishes a = record { chain = a.chain; run = a.run; ends = ends_now a.is }

      module _ {m n : List ℕ} {k : Bool} (q : FinishedGives l f o i m n k) where
        finished_to : {c : Chain} {u : Run} {a : Bool} → k ≡ a → CompletesIn l f e i c u → FinishedTo c u i m n a
        finished_to {c} {u} z p = subst (FinishedTo c u i m n) z (q.gives (ends_now p))

        pub complete_fires : {t : ℕ} → k ≡ true → CompletedGives l f e t i m n (Ok true)
        complete_fires z = record { gives = λ p. fires p (all_done l e o i w y h) (finished_to z p); told = tt }

        pub complete_spills : {t : ℕ} → k ≡ false → CompletedGives l f e t i m n (Err (halt.Overflowed t i))
        complete_spills z = record { gives = λ p. spills p (all_done l e o i w y h) (finished_to z p); told = refl }

pub ruleset completing = (complete_goes, complete_finishes, complete_fires, complete_spills)
