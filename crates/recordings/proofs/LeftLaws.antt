-- Laws of specs/Left.antt that rest on a definition which an edit of must-fail/ changes.
-- What steps of the deadline run leave before a clock, and what a recording run needs of it to go on (02, Item 2).
--   left_queue                 the queue that overflows is one of the chain
--   left_with, left_clean, _undated, _source
--                              what is left, by its outcome; a clean state, 13 and the source's overflow are such
--   step_midway, drop_midway   the source's step leaves a state that is midway, also where its production is dropped
--   drop_lacking, drop_chosen  whose 13 and choice are then those of the state before
--   finish_left                one tick of work and its effect leave such a y
use Rattle.std.specs.Prelude.{◌≡◌, true, false, ◌&&◌, ◌≢◌, List, eqb, length, get_or}
use Rattle.std.proofs.Math.Path.{refl, ap}
use Rattle.std.proofs.Common.{sym, subst, ◌∙◌, arith}
use Rattle.std.proofs.Math.Bool.{not}
use Rattle.std.proofs.Math.Logic.{by_cases}
use Prim.Native.Nat.{ℕ, zero, suc, ◌+◌, ◌-◌, ◌≤◌, ◌<◌}
use Rattle.std.proofs.Math.Decide.{ℕ_discrete}
use Rattle.words.specs.Table.{tab_alike}
use Rattle.chain.specs.Refusals.{first, test}
use Rattle.chain.specs.Record.{work_of}
use Rattle.chain.specs.declared.Chain.{Chain}
use Rattle.sizing.specs.Checks.{limit}
use Rattle.state.specs.State.{count_at, done_at}
use Rattle.state.specs.Fired.{fired, consumed, Over}
use Rattle.state.proofs.FiredLaws.{count_fired, count_other}
use Rattle.state.specs.Checks.{over, cramped}
use Rattle.state.proofs.ChecksLaws.{cramped_is, cramped_room}
use Rattle.state.specs.declared.Run.{Run}
use Rattle.deadline.specs.Deadline.{deadline, index_check}
use Rattle.instants.specs.Steps.{clean, overflowed, undated, next, lacking_test, lacking, chosen, worked, finished}
use Rattle.instants.specs.Steps.{tick_of, at_of}
use Rattle.instants.proofs.BestLaws.{chosen_shift}
use Rattle.instants.specs.Filled.{Filled, cramped_as}
use Rattle.instants.proofs.FilledLaws.{fired_filled}
use Rattle.instants.specs.Runs.{unclean_overflow, unclean_undated, overflow_undated}
use Rattle.instants.specs.Kept.{SourceStep, fired_clock}
use Rattle.instants.proofs.KeptLaws.{finish_cases, worked_clock, worked_counts, works_filled, works_on, works_ends, cleared_filled}
use Rattle.instants.specs.declared.Outcome.TheVariants.{Overflowed}
use Rattle.instants.specs.declared.Ticked.{Ticked}
use Rattle.recordings.specs.Steps.{dropped, lost_firing}
use Rattle.recordings.proofs.DropsLaws.{dropped_filled}
use Rattle.recordings.specs.Left.{Able, Midway, SourceLost, FinishLost, Left, spent, cleared}

-- the queue that overflows is one of the chain
pub left_queue : {c : Chain} {U : ℕ} {y : Ticked} → Left c U y → (t q : ℕ) → y.outcome ≡ Overflowed t q → q < c.n
left_queue k t zero e = omega (arith, (k.source t e).able.filled.chain.chain.count.0)
left_queue k t (suc j) e = (k.finish t j e).queue

-- what is clean, undated, or overflows at a finish
module _ {c : Chain} {U : ℕ} where
  pub left_clean : {s : Run} → Able c U s → Left c U (clean s)
  left_clean a = record { clean = λ e. a; source = λ t e. absurd (unclean_overflow (sym e)); finish = λ t j e. absurd (unclean_overflow (sym e)) }

  pub left_undated : {s : Run} {t i : ℕ} → Left c U (undated s t i)
  left_undated = record { clean = λ e. absurd (unclean_undated e); source = λ a e. absurd (overflow_undated (sym e)); finish = λ a j e. absurd (overflow_undated (sym e)) }

  pub left_source : {s : Run} {t : ℕ} → SourceLost c U t s → Left c U (overflowed s t 0)
  left_source {s} {t} k = record {
    clean = λ e. absurd (unclean_overflow e);
    source = λ a e. subst (λ (x : ℕ). SourceLost c U x s) (ap tick_of e) k;
    finish = λ a j e. let z : 0 ≡ suc j = ap at_of e in absurd (omega arith);
  }

  left_finish : {s : Run} {t j : ℕ} → FinishLost c U t j s → Left c U (overflowed s t (suc j))
  left_finish {s} {t} {j} k = record {
    clean = λ e. absurd (unclean_overflow e);
    source = λ a e. let z : suc j ≡ 0 = ap at_of e in absurd (omega arith);
    finish = λ a i e.
        let same : j ≡ i = let z : suc j ≡ suc i = ap at_of e in omega arith in
        subst (λ (x : ℕ). FinishLost c U x i s) (ap tick_of e) (subst (λ (x : ℕ). FinishLost c U t x s) same k);
  }

-- the source's step
module _ {c : Chain} {U : ℕ} {s : Run} (a : Able c U s) (early : s.clock < U) where
  pub step_midway : {u : Run} → SourceStep c s u → Midway c U u
  step_midway k = record {
    filled = k.filled;
    clock = omega (arith, k.clock);
    source = omega (arith, k.clock, k.source, a.counts 0 (omega arith));
    others = λ j l. omega (arith, k.clock, k.others (suc j) (omega arith), a.counts (suc j) (omega arith));
  }

  pub drop_midway : Midway c U (dropped c s 0)
  unfolding fired consumed
  drop_midway = record {
    filled = dropped_filled a.filled 0 tt;
    clock = early;
    source = omega (arith, count_fired c s 0 (omega (arith, a.filled.whole.counts)), a.counts 0 (omega arith));
    others = λ j l. omega (arith, count_other c s 0 (suc j) (λ e. omega arith), a.counts (suc j) (omega arith));
  }

-- a dropped production changes neither 13 nor the choice
module _ (c : Chain) (s : Run) where
  same_next : (j : ℕ) → next (dropped c s 0) (suc j) ≡ next s (suc j)
  same_next j = ap suc (count_other c s 0 (suc j) (λ e. omega arith))

  same_over : (i : ℕ) → over c (dropped c s 0) i ≡ over c s i
  unfolding consumed
  same_over zero = refl
  same_over (suc j) = refl

  pub drop_lacking : lacking c (dropped c s 0) ≡ lacking c s
  unfolding lacking consumed
  drop_lacking = ap first (tab_alike c.n (λ j. lacking_test c (dropped c s 0) (suc j)) (λ j. lacking_test c s (suc j))
      (λ j l z. test 13 (suc j) (same_over (suc j) z && not (eqb (index_check c (suc j) (same_next j z)).number 0))))

  pub drop_chosen : chosen c (dropped c s 0) ≡ chosen c s
  drop_chosen = chosen_shift c s (dropped c s 0) 0 (λ i some l. due i some) (λ i some l. same_over i)
    where
      due : (i : ℕ) → 0 < i → deadline c i (next (dropped c s 0) i) ≡ deadline c i (next s i) + 0
      due zero some = absurd (omega arith)
      due (suc j) some = ap (deadline c (suc j)) (same_next j) ∙ omega arith

-- one tick of work of N_i, which is over threshold, and the effect of the firing then finished
module _ {c : Chain} {U : ℕ} {u : Run} (k : Midway c U u) where
  same_counts : (i m : ℕ) → count_at (worked u i) m ≡ count_at u m
  same_counts i m = ap (λ (x : List ℕ). get_or x m 0) (worked_counts u i)

  -- counts that were not changed since the source's step
  unchanged : (i m : ℕ) → m ≤ c.n → count_at u m + (U - suc u.clock) ≤ limit
  unchanged i zero l = omega (arith, k.source, k.clock)
  unchanged i (suc m) l = omega (arith, k.others m l)

  -- the counts after N_(j+1) has fired once more
  counted : (j : ℕ) (v w : Run) → v.counts ≡ u.counts → length v.counts ≡ 17 → j < c.n → c.n ≤ 16 → w.counts ≡ (fired c v (suc j)).counts
      → (m : ℕ) → m ≤ c.n → count_at w m + (U - suc u.clock) ≤ limit
  counted j v w same wide l few once m low = by_cases (ℕ_discrete m (suc j))
      (λ e. rw e (omega (arith, at (suc j), own, k.others j l, k.clock)))
      (λ ne. omega (arith, at m, other m ne, unchanged (suc j) m low))
    where
      at : (i : ℕ) → count_at w i ≡ count_at (fired c v (suc j)) i
      at i = ap (λ (x : List ℕ). get_or x i 0) once

      own : count_at (fired c v (suc j)) (suc j) ≡ count_at u (suc j) + 1
      own = count_fired c v (suc j) (omega arith) ∙ ap (λ (x : List ℕ). get_or x (suc j) 0 + 1) same

      other : (i : ℕ) → i ≢ suc j → count_at (fired c v (suc j)) i ≡ count_at u i
      other i ne = count_other c v (suc j) i ne ∙ ap (λ (x : List ℕ). get_or x i 0) same

  -- nothing takes effect
  works_left : (i : ℕ) → ((j : ℕ) → j < c.n → i ≡ suc j → done_at u j + 1 < work_of c j) → Left c U (finished c (worked u i))
  works_left i less = subst (Left c U) (sym (works_on k.filled i less)) (left_clean (record {
    filled = works_filled k.filled i less;
    clock = omega (arith, worked_clock u i, k.clock);
    counts = λ m l. rw (worked_clock u i, same_counts i m) (omega (arith, unchanged i m l));
  }))

  -- N_(j+1)'s firing is finished
  module _ (j : ℕ) (l : j < c.n) (all : done_at u j + 1 ≡ work_of c j) (o : Over c u (suc j)) where
    few : c.n ≤ 16
    few = k.filled.chain.chain.count.1

    cleared_over : Over c (cleared k j l all o) (suc j)
    unfolding worked
    cleared_over = o

    ready : Filled c (cleared k j l all o)
    ready = cleared_filled k.filled j l all

    -- one tick later, with its node counted once more
    able_counted : {w : Run} → Filled c w → w.clock ≡ (spent k j l all o).clock → w.counts ≡ (fired c (cleared k j l all o) (suc j)).counts → Able c U w
    able_counted {w} f e once = record {
      filled = f;
      clock = omega (arith, e, worked_clock u (suc j), k.clock);
      counts = λ m low. rw (e ∙ worked_clock u (suc j)) (omega (arith, counted j (cleared k j l all o) w (worked_counts u (suc j)) ready.whole.counts l few once m low));
    }

    fires_left : cramped c (spent k j l all o) (suc j) ≡ false → Left c U (clean (fired c (cleared k j l all o) (suc j)))
    fires_left e = left_clean (able_counted
        (fired_filled ready (suc j) cleared_over ((cramped_room c (cleared k j l all o) (suc j)).0 (cramped_as c (spent k j l all o) (cleared k j l all o) (suc j) refl ∙ e)))
        (fired_clock c (cleared k j l all o) (suc j)) refl)

    spills_left : cramped c (spent k j l all o) (suc j) ≡ true → Left c U (overflowed (spent k j l all o) (spent k j l all o).clock (suc j))
    unfolding lost_firing worked
    spills_left e = left_finish (record {
      clock = refl;
      queue = ((cramped_is c (spent k j l all o) (suc j)).0 e).0;
      over = o;
      count = omega (arith, k.others j l, k.clock);
      able = able_counted (dropped_filled ready (suc j) cleared_over) refl refl;
    })

    finish_ends : Left c U (finished c (spent k j l all o))
    finish_ends = subst (Left c U) (sym (works_ends k.filled j l all)) (finish_cases c (spent k j l all o) j (Left c U) spills_left fires_left)

  pub finish_left : (i : ℕ) → i ≤ c.n → ((j : ℕ) → i ≡ suc j → Over c u (suc j)) → Left c U (finished c (worked u i))
  finish_left zero low o = works_left 0 (λ j l e. absurd (omega arith))
  finish_left (suc j) low o = by_cases (ℕ_discrete (done_at u j + 1) (work_of c j))
      (λ all. finish_ends j low all (o j refl))
      (λ ne. works_left (suc j) (λ m h e. let z : j ≡ m = omega arith in subst (λ (x : ℕ). done_at u x + 1 < work_of c x) z (omega (arith, ne, k.filled.below j low))))
