-- The steps of a tick over what a run lends, one law to each need of their code.
--   full_is, -sink, -queue   whether a production fits is what 12 asks of the state that is shown, and how code tests it
--   rooms-…                  the numbers of that test fit
--   source-…                 the source's step
--   work-…, ended-…          so many ticks of work, and whether it is all that is to be done
--   as_clean, as_unclean     a result that is Ok is clean, and no other is
--   shows_as                 a flow shows every state with the same counts and contents
--   finish-…                 the effect of a firing that is finished
use Rattle.std.specs.Prelude.{◌≡◌, ◌≢◌, Bool, true, false, List, [], ◌∷◌, ℕ, zero, suc, ◌+◌, ◌-◌, ◌%◌, ◌≤◌, ◌<◌, ◌^◌, ltb, leb, length, get_or, set, Result, IfOk, IfErr, IsOk, IsErr}
use Rattle.std.proofs.Math.Path.{refl, ap}
use Rattle.std.proofs.Common.{Ok, Err, sym, ap₂, subst, ◌∙◌, true≢false, arith, eq-eqb, ne_eqb, lt-ltb, le-ltb}
use Rattle.std.proofs.Math.Logic.{by_cases}
use Rattle.std.proofs.Math.Decide.{dec_lt}
use Rattle.chain.specs.declared.Chain.{Chain}
use Rattle.sizing.specs.Sizes.{capacity_most}
use Rattle.state.specs.Fired.{fired, May}
use Rattle.state.specs.Checks.{cramped}
use Rattle.state.specs.declared.Run.{Run}
use Rattle.flow.specs.Flow.{produce_in, held_in, size_in, Shows, Ready, firing, shows_fired}
use Rattle.sizing.specs.Plan.{capacity_in, work_in, period_in}
use Rattle.dates.specs.Dues.{Shown}
use Rattle.instants.specs.Steps.{clean, overflowed, sourced, worked, with_done, finish, finished}
use Rattle.instants.specs.Runs.{unclean_overflow, unclean_undated}
use Rattle.instants.specs.Filled.{cramped_as}
use Rattle.instants.specs.Kept.{source_may, fired_done}
use Rattle.instants.proofs.KeptLaws.{worked_counts, worked_held, worked_clock, works_ends, finish_may}
use Rattle.instants.specs.Quiet.{worked_in}
use Rattle.instants.specs.declared.Outcome.TheVariants.{Clean, Overflowed}
use Rattle.instants.specs.declared.Ticked.{Ticked}
use Rattle.traces.specs.Trace.{tracing, source_entry}
use Rattle.steps.specs.Lent.{fired_at, outcome_in, fired_in, Stands, full_in, Rooms, Sources, SourcedTo, SourcedGives, ended_at, EndsIn, Ends, FinishedTo, FinishedGives}
use Rattle.steps.specs.declared.Halt.{Halt}
use Rattle.steps.specs.declared.Halt.TheVariants as halt

-- a result that is Ok is clean, and no other is
module _ {A : Type 0} where
  pub as_clean : (r : Result A Halt) → IsOk r → outcome_in r ≡ Clean
  as_clean (Ok a) z = refl
  as_clean (Err h) z = absurd (true≢false (sym z))

  pub as_unclean : (r : Result A Halt) → IsErr r → outcome_in r ≡ Clean → ⊥
  as_unclean (Ok a) z h = true≢false (sym z)
  as_unclean (Err (halt.Overflowed t q)) z h = unclean_overflow h
  as_unclean (Err (halt.NoDeadline t i)) z h = unclean_undated h

-- whether the production of N_i does not fit, by the plan and the flow and by the chain and the state that they show
pub full_is : {l f : List ℕ} {c : Chain} {s : Run} → Shown l f c s → (i : ℕ) → full_in l f i ≡ cramped c s i
unfolding cramped
full_is {l} {f} {c} {s} x i = by_cases (dec_lt i c.n)
    (λ h. let size : i < size_in f = omega (arith, x.shows.many) in
    simp (lt-ltb i (size_in f) size, lt-ltb i c.n h) (λ t. ltb (x.plans.capacities i h t) (x.shows.holds i (omega (arith, x.shows.few)) t + x.shows.puts i h t)))
    (λ n. let size : size_in f ≤ i = omega (arith, x.shows.many) in let past : c.n ≤ i = omega arith in simp (le-ltb i (size_in f) size, le-ltb i c.n past))

-- the numbers of that test fit
module _ {l f : List ℕ} {i : ℕ} (r : Rooms l f i) where
  pub rooms_size : size_in f ≤ 16
  rooms_size = omega (arith, r.shown.shows.many, r.shown.shows.few)

  pub rooms_sum : i < size_in f → held_in f i + produce_in f i < 2 ^ 32
  rooms_sum h =
      let m : i < r.chain.n = omega (arith, r.shown.shows.many) in
      let q = r.filled.chain.chain.rows i m in
      omega (arith, r.shown.shows.holds i (omega (arith, rooms_size)), r.shown.shows.puts i m, r.filled.within i m, capacity_most q, q.produce.1)

-- past the last queue nothing is full
pub full_sink : (l f : List ℕ) (i : ℕ) → size_in f ≤ i → false ≡ full_in l f i
full_sink l f i h = simp (le-ltb i (size_in f) h)

pub full_queue : (l f : List ℕ) (i : ℕ) → i < size_in f → ltb (capacity_in l i) (held_in f i + produce_in f i) ≡ full_in l f i
full_queue l f i h = simp (lt-ltb i (size_in f) h)

-- the source's step of a state, in each of its three cases
module _ (c : Chain) (s : Run) where
  rests : s.clock % c.period ≢ 0 → sourced c s ≡ clean s
  unfolding sourced
  rests n = simp (ne_eqb _ _ n)

  spills : s.clock % c.period ≡ 0 → cramped c s 0 ≡ true → sourced c s ≡ overflowed s s.clock 0
  unfolding sourced
  spills z e = simp (eq-eqb _ _ z, e)

  fires : s.clock % c.period ≡ 0 → cramped c s 0 ≡ false → sourced c s ≡ clean (fired c s 0)
  unfolding sourced
  fires z e = simp (eq-eqb _ _ z, e)

-- the source's entry in the trace, where y does not divide the clock and where it does
module _ (c : Chain) (s : Run) where
  entry_none : s.clock % c.period ≢ 0 → source_entry c s ≡ []
  unfolding source_entry
  entry_none n = simp (ne_eqb _ _ n)

  entry_own : s.clock % c.period ≡ 0 → source_entry c s ≡ (s.clock, 0) ∷ []
  unfolding source_entry
  entry_own z = simp (eq-eqb _ _ z)

-- a flow shows what the source's step leaves
sourced_to : {c : Chain} {s : Run} {t : ℕ} {g : List ℕ} {r : Result Bool Halt} {x : Ticked} → sourced c s ≡ x → x.outcome ≡ outcome_in r
    → IfErr r (λ h. h ≡ halt.Overflowed t 0) → Shows g c x.run → IfOk r (λ fired. fired ≡ false → sourced c s ≡ clean s)
    → tracing x.outcome s (λ u. source_entry c s) ≡ fired_at (fired_in r) t 0 → SourcedTo c s t g r
sourced_to {c} {s} {t} {g} {r} e o spills h rests entry = record {
  outcome = ap (λ (y : Ticked). y.outcome) e ∙ o;
  spills = spills;
  shows = subst (λ (y : Ticked). Shows g c y.run) (sym e) h;
  rests = rests;
  entry = ap (λ (y : Ticked). tracing y.outcome s (λ u. source_entry c s)) e ∙ entry;
}

-- the source may fire where its production fits
may_source : {l f : List ℕ} {c : Chain} {s : Run} → Stands l f c s → full_in l f 0 ≡ false → May c s 0
may_source {c = c} {s = s} x e = source_may c s (λ z. omega (arith, x.counts 0 (omega arith))) (sym (full_is x.shown 0) ∙ e)

module _ {l f : List ℕ} {t : ℕ} where
  pub source_ready : Sources l f t → full_in l f 0 ≡ false → Ready f 0
  source_ready a e = record {
    chain = a.chain;
    run = a.run;
    shows = a.stands.shown.shows;
    sound = a.stands.filled.chain.chain;
    may = may_source a.stands e;
    word = omega (arith, a.stands.counts 0 (omega arith));
  }

  -- whether y divides the clock, by the plan and by the chain
  rest_is : {c : Chain} {s : Run} → Stands l f c s → s.clock ≡ t → s.clock % c.period ≡ t % period_in l
  rest_is x k = ap₂ (λ (a b : ℕ). a % b) k (sym x.shown.plans.period)

  pub source_rests : t % period_in l ≢ 0 → SourcedGives l f t f (Ok false)
  unfolding tracing
  source_rests n = record {
    gives = λ {c} {s} x k.
        let late : s.clock % c.period ≢ 0 = λ z. n (sym (rest_is x k) ∙ z) in
        sourced_to (rests c s late) refl tt x.shown.shows (λ n. rests c s late) (entry_none c s late);
  }

  module _ (z : t % period_in l ≡ 0) where
    pub source_spills : full_in l f 0 ≡ true → SourcedGives l f t f (Err (halt.Overflowed t 0))
    unfolding tracing
    source_spills e = record {
      gives = λ {c} {s} x k.
          sourced_to (spills c s (rest_is x k ∙ z) (sym (full_is x.shown 0) ∙ e)) (ap (λ (u : ℕ). Overflowed u 0) k) refl x.shown.shows tt refl;
    }

    pub source_fires : full_in l f 0 ≡ false → SourcedGives l f t (firing f 0) (Ok true)
    unfolding tracing
    source_fires e = record {
      gives = λ {c} {s} x k.
          sourced_to (fires c s (rest_is x k ∙ z) (sym (full_is x.shown 0) ∙ e)) refl tt (shows_fired x.shown.shows x.filled.chain.chain (may_source x e))
          (λ n. absurd (true≢false n)) (entry_own c s (rest_is x k ∙ z) ∙ ap (λ (u : ℕ). (u, 0) ∷ []) k);
    }

-- k ticks of work as code has them, which counts from 0
pub work_node : (e : List ℕ) (i k : ℕ) → 0 < i → set e (i - 1) (get_or e (i - 1) 0 + k) ≡ worked_in e i k
unfolding worked_in
work_node e zero k h = absurd (omega arith)
work_node e (suc j) k h = let z : suc j - 1 ≡ j = omega arith in rw z

pub work_none : (e : List ℕ) (i k : ℕ) → i ≤ 0 → e ≡ worked_in e i k
unfolding worked_in
work_none e zero k h = refl
work_none e (suc j) k h = absurd (omega arith)

pub ended_none : (l e : List ℕ) (i : ℕ) → i ≡ 0 → false ≡ ended_at l e i
unfolding ended_at
ended_none l e zero h = refl
ended_none l e (suc j) h = absurd (omega arith)

pub ended_node : (l e : List ℕ) (i : ℕ) → i ≢ 0 → leb (work_in l (i - 1)) (get_or e (i - 1) 0) ≡ ended_at l e i
unfolding ended_at
ended_node l e zero h = absurd (h refl)
ended_node l e (suc j) h = let z : suc j - 1 ≡ j = omega arith in rw z

-- a flow shows every state with the counts and contents of one that it shows
pub shows_as : {f : List ℕ} {c : Chain} {s t : Run} → Shows f c s → t.counts ≡ s.counts → t.held ≡ s.held → Shows f c t
shows_as x a h = record {
  long = x.long;
  many = x.many;
  few = x.few;
  puts = x.puts;
  waits = x.waits;
  takes = x.takes;
  wide = ap length a ∙ x.wide;
  deep = ap length h ∙ x.deep;
  counts = λ j l. x.counts j l ∙ sym (ap (λ (y : List ℕ). get_or y j 0) a);
  holds = λ j l. x.holds j l ∙ sym (ap (λ (y : List ℕ). get_or y j 0) h);
}

-- what the effect of N_(j+1)'s firing leaves, in each of its two cases
module _ (c : Chain) (w : Run) (j : ℕ) where
  finish_over : cramped c w (suc j) ≡ true → finish c w (suc j) ≡ overflowed w w.clock (suc j)
  unfolding finish
  finish_over e = simp e

  finish_clean : cramped c w (suc j) ≡ false → finish c w (suc j) ≡ clean (fired c (with_done w j 0) (suc j))
  unfolding finish
  finish_clean e = simp e

module _ {l f e : List ℕ} {i : ℕ} {c : Chain} {u : Run} (x : EndsIn l f e i c u) where
  -- the node's own number, and the state after its work
  abbrev node : ℕ
  node = suc x.queue

  abbrev after : Run
  after = worked u node

  abbrev cleared : Run
  cleared = with_done after x.queue 0

  ends_is : finished c after ≡ finish c after node
  ends_is = works_ends x.filled x.queue x.inside x.all

  full_now : {b : Bool} → full_in l f i ≡ b → cramped c after node ≡ b
  full_now {b} h = cramped_as c u after node (worked_held u node) ∙ sym (full_is x.shown node) ∙ subst (λ (k : ℕ). full_in l f k ≡ b) x.is h

  cleared_shown : Shows f c cleared
  cleared_shown = shows_as x.shown.shows (worked_counts u node) (worked_held u node)

  ends_may : full_in l f i ≡ false → May c cleared node
  ends_may h = finish_may c u x.queue x.inside x.over (λ z. omega (arith, x.count)) (full_now h)

  ends_over : full_in l f i ≡ true → FinishedTo c u node f e false
  ends_over h = let q : finished c after ≡ overflowed after after.clock node = ends_is ∙ finish_over c after x.queue (full_now h) in record {
    outcome = ap (λ (y : Ticked). y.outcome) q ∙ ap (λ (t : ℕ). Overflowed t node) (worked_clock u node);
    shows = subst (λ (y : Ticked). Shows f c y.run) (sym q) (shows_as x.shown.shows (worked_counts u node) (worked_held u node));
    done = x.done ∙ ap (λ (y : Ticked). y.run.done) (sym q);
  }

  ends_fits : full_in l f i ≡ false → FinishedTo c u node (firing f node) (set e x.queue 0) true
  ends_fits h = let q : finished c after ≡ clean (fired c cleared node) = ends_is ∙ finish_clean c after x.queue (full_now h) in record {
    outcome = ap (λ (y : Ticked). y.outcome) q;
    shows = subst (λ (y : Ticked). Shows (firing f node) c y.run) (sym q) (shows_fired cleared_shown x.filled.chain.chain (ends_may h));
    done = ap (λ (y : List ℕ). set y x.queue 0) x.done ∙ sym (fired_done c cleared node) ∙ ap (λ (y : Ticked). y.run.done) (sym q);
  }

module _ {l f e : List ℕ} {i : ℕ} where
  pub finish_rooms : Ends l f e i → Rooms l f i
  finish_rooms a = record {
    chain = a.chain;
    run = a.run;
    shown = a.ends.shown;
    filled = a.ends.filled;
    node = omega (arith, a.ends.is, a.ends.inside);
  }

  pub finish_ready : Ends l f e i → full_in l f i ≡ false → Ready f i
  finish_ready a h = rw a.ends.is (record {
    chain = a.chain;
    run = cleared a.ends;
    shows = cleared_shown a.ends;
    sound = a.ends.filled.chain.chain;
    may = ends_may a.ends h;
    word = omega (arith, a.ends.count, ap (λ (y : List ℕ). get_or y (suc a.ends.queue) 0) (worked_counts a.run (suc a.ends.queue)));
  })

  pub finish_spills : full_in l f i ≡ true → FinishedGives l f e i f e false
  finish_spills h = record { gives = λ {c} {u} x. subst (λ (k : ℕ). FinishedTo c u k f e false) (sym x.is) (ends_over x h) }

  pub finish_fits : full_in l f i ≡ false → FinishedGives l f e i (firing f i) (set e (i - 1) 0) true
  finish_fits h = record {
    gives = λ {c} {u} x.
        let z : suc x.queue - 1 ≡ x.queue = omega arith in
        subst (λ (k : ℕ). FinishedTo c u k (firing f k) (set e (k - 1) 0) true) (sym x.is)
        (subst (λ (k : ℕ). FinishedTo c u (suc x.queue) (firing f (suc x.queue)) (set e k 0) true) (sym z) (ends_fits x h));
  }
