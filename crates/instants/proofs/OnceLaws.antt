-- Laws of specs/Once.antt that rest on a definition which an edit of must-fail/ changes.
-- What a clean tick leaves (01, Firing), field by field, and that nothing else fits.
--   works_is                   which is the node that the definition chooses
--   work_once, work_only       what a tick of work leaves is that, and nothing else is
--   once_counts, once_keeps    so a clean tick counts one firing of the source more exactly where y divides the clock, and none exactly elsewhere
use Rattle.std.specs.Prelude.{◌≡◌, refl, ◌↔◌, ◌≢◌, List, ℕ, zero, suc, ◌+◌, ◌≤◌, ◌<◌, get_or}
use Rattle.std.proofs.Common.{sym, ◌∙◌, zero-lt-suc}
use Rattle.std.proofs.Math.Path.{ap, subst}
use Rattle.std.proofs.Math.Logic.{by_cases}
use Rattle.std.proofs.Math.Decide.{ℕ_discrete, dec_dvd}
use native.Mathlib.Omega.{arith}
use Rattle.std.proofs.Math.ListN.{length-set}
use Rattle.std.proofs.Math.Seq.{get_or-set_same, get_or-set_other}
use Rattle.chain.specs.Record.{row_of, work_of}
use Rattle.chain.specs.declared.Chain.{Chain}
use Rattle.state.specs.State.{count_at, held_at, done_at}
use Rattle.state.specs.Fired.{fired, Over, over_enough}
use Rattle.state.proofs.FiredLaws.{count_fired, count_other, held_output, held_input, held_other, held_sink}
use Rattle.state.specs.Checks.{over}
use Rattle.state.proofs.ChecksLaws.{over_true}
use Rattle.state.specs.declared.Run.{Run}
use Rattle.slots.specs.Runs.{Whole, fired_whole}
use Rattle.deadline.specs.Deadline.{deadline}
use Rattle.instants.specs.Best.{Best}
use Rattle.instants.proofs.BestLaws.{chosen_best, chosen_only}
use Rattle.instants.specs.Steps.{chosen, with_done, next, worked, finish, finished}
use Rattle.instants.proofs.KeptLaws.{finish_cases, worked_counts, worked_held, worked_clock, worked_other}
use Rattle.instants.specs.Filled.{Filled}
use Rattle.instants.specs.Runs.{unclean_overflow}
use Rattle.instants.proofs.KeptLaws.{worked_same, works_on, works_filled, works_ends, cleared_filled}
use Rattle.instants.specs.declared.Outcome.TheVariants.{Clean}
use Rattle.instants.specs.declared.Ticked.{Ticked}
use Rattle.instants.specs.Source.{Due}
use Rattle.instants.specs.Once.{Works, Effect, WorkOnce, cleared, TickOnce, work_source}

-- there is one such node, and it is the one that the definition chooses
pub works_is : (c : Chain) (u : Run) (w : ℕ) → (chosen c u ≡ w) ↔ Works c u w
works_is c u w = (λ e. out (subst (Best _ _ c.n) e (chosen_best c u)), λ k. chosen_only c u w (back k))
  where
    out : Best (λ i. deadline c i (next u i)) (over c u) c.n w → Works c u w
    out b = record {
      node = b.low;
      over = λ l. (over_true c u w).0 (b.able_it l);
      some = λ j p l o. (b.first j p l ((over_true c u j).1 o)).some;
      early = λ j p l o. (b.first j p l ((over_true c u j).1 o)).early;
      tie = λ j p l o. (b.first j (omega arith) l ((over_true c u j).1 o)).tie p;
    }

    back : Works c u w → Best (λ i. deadline c i (next u i)) (over c u) c.n w
    back k = record {
      low = k.node;
      able_it = λ l. (over_true c u w).1 (k.over l);
      first = λ j p l t. let o : Over c u j = (over_true c u j).0 t in record { some = k.some j p l o; early = k.early j p l o; tie = λ h. k.tie j h l o };
    }

module _ {c : Chain} {u : Run} (r : Filled c u) where
  -- no node works
  work_idle : WorkOnce c u 0 (worked u 0)
  work_idle = record {
    whole = (works_filled r 0 (λ j l e. absurd (omega arith))).whole;
    clock = worked_clock u 0;
    others = λ k ne. worked_other u 0 k ne;
    idle = λ e. (worked_counts u 0, worked_held u 0);
    on = λ j e. absurd (omega arith);
    ends = λ j e. absurd (omega arith);
  }

  module _ (j : ℕ) (l : j < c.n) where
    slot : j < 16
    slot = omega (arith, l, r.chain.chain.count.1)

    -- a firing that is not finished
    less : done_at u j + 1 ≢ work_of c j → (m : ℕ) → m < c.n → suc j ≡ suc m → done_at u m + 1 < work_of c m
    less ne m f e = let z : j ≡ m = omega arith in subst (λ (x : ℕ). done_at u x + 1 < work_of c x) z (omega (arith, ne, r.below j l))

    work_on : done_at u j + 1 ≢ work_of c j → WorkOnce c u (suc j) (worked u (suc j))
    work_on ne = record {
      whole = (works_filled r (suc j) (less ne)).whole;
      clock = worked_clock u (suc j);
      others = λ k f. worked_other u (suc j) k f;
      idle = λ e. absurd (omega arith);
      on = λ m e f. let z : j ≡ m = omega arith in subst (λ (x : ℕ). (done_at (worked u (suc j)) x ≡ done_at u x + 1) × (((worked u (suc j)).counts ≡ u.counts) × ((worked u (suc j)).held ≡ u.held))) z
          (worked_same u j (omega (arith, r.whole.done, slot)), (worked_counts u (suc j), worked_held u (suc j)));
      ends = λ m e f. let z : j ≡ m = omega arith in absurd (ne (subst (λ (x : ℕ). done_at u x + 1 ≡ work_of c x) (sym z) f));
    }

    -- one that is
    module _ (all : done_at u j + 1 ≡ work_of c j) (o : Over c u (suc j)) (t : Run) (is : t ≡ fired c (with_done (worked u (suc j)) j 0) (suc j)) (whole : Whole t) where
      k : Filled c (cleared r j l all o t is whole)
      k = cleared_filled r j l all

      same_count : (m : ℕ) → count_at (cleared r j l all o t is whole) m ≡ count_at u m
      same_count m = ap (λ (x : List ℕ). get_or x m 0) (worked_counts u (suc j))

      same_held : (m : ℕ) → held_at (cleared r j l all o t is whole) m ≡ held_at u m
      same_held m = ap (λ (x : List ℕ). get_or x m 0) (worked_held u (suc j))

      enough : (row_of c j).consume ≤ held_at (cleared r j l all o t is whole) j
      enough = omega (arith, same_held j, over_enough r.chain.chain u j l o)

      effect : Effect c u j t
      unfolding fired
      effect = rw is (record {
        count = count_fired c (cleared r j l all o t is whole) (suc j) (omega (arith, k.whole.counts, slot)) ∙ ap (λ (x : ℕ). x + 1) (same_count (suc j));
        counts = λ m ne. count_other c (cleared r j l all o t is whole) (suc j) m ne ∙ same_count m;
        output = λ h. held_output c (cleared r j l all o t is whole) (suc j) h (omega (arith, k.whole.held, r.chain.chain.count.1)) ∙ ap (λ (x : ℕ). x + (row_of c (suc j)).produce) (same_held (suc j));
        input = held_input c (cleared r j l all o t is whole) j (omega (arith, k.whole.held, slot)) enough ∙ same_held j;
        held = λ m ne past. by_cases (ℕ_discrete m (suc j))
            (λ e. held_sink c (cleared r j l all o t is whole) (suc j) m (past e) (λ f. omega arith) ∙ same_held m)
            (λ n. held_other c (cleared r j l all o t is whole) (suc j) m n (λ f. ne (omega arith)) ∙ same_held m);
        done = get_or-set_same (worked u (suc j)).done j 0 0 (omega (arith, k.whole.done, length-set (worked u (suc j)).done j 0, slot));
      })

      work_ends : WorkOnce c u (suc j) t
      unfolding fired
      work_ends = record {
        whole = whole;
        clock = ap (λ (x : Run). x.clock) is ∙ worked_clock u (suc j);
        others = λ m ne. ap (λ (x : Run). done_at x m) is ∙ get_or-set_other (worked u (suc j)).done j m 0 0 (λ e. ne (omega arith)) ∙ worked_other u (suc j) m ne;
        idle = λ e. absurd (omega arith);
        on = λ m e f. let z : j ≡ m = omega arith in absurd (f (subst (λ (x : ℕ). done_at u x + 1 ≡ work_of c x) z all));
        ends = λ m e f. let z : j ≡ m = omega arith in subst (λ (x : ℕ). Effect c u x t) z effect;
      }

  -- a tick of work of N_w, where what it finishes is clean, leaves what is said
  pub work_once : (w : ℕ) → w ≤ c.n → (0 < w → Over c u w) → (finished c (worked u w)).outcome ≡ Clean → WorkOnce c u w (finished c (worked u w)).run
  work_once zero low o h = subst (λ (x : Ticked). WorkOnce c u 0 x.run) (sym (works_on r 0 (λ j l e. absurd (omega arith)))) work_idle
  work_once (suc j) low o h = by_cases (ℕ_discrete (done_at u j + 1) (work_of c j))
      (λ all.
      let e : finished c (worked u (suc j)) ≡ finish c (worked u (suc j)) (suc j) = works_ends r j low all in
      subst (λ (x : Ticked). WorkOnce c u (suc j) x.run) (sym e)
      (finish_cases c (worked u (suc j)) j (λ x. x.outcome ≡ Clean → WorkOnce c u (suc j) x.run)
      (λ f z. absurd (unclean_overflow z))
      (λ f z. work_ends j low all (o (zero-lt-suc j)) _ refl (fired_whole c (with_done (worked u (suc j)) j 0) (suc j) (cleared_filled r j low all).whole))
      (ap (λ (x : Ticked). x.outcome) (sym e) ∙ h)))
      (λ ne. subst (λ (x : Ticked). WorkOnce c u (suc j) x.run) (sym (works_on r (suc j) (less j low ne))) (work_on j low ne))

module _ {c : Chain} {s t : Run} (k : TickOnce c s t) where
  -- "the source fires if y divides t"
  pub once_counts : (count_at t 0 ≡ count_at s 0 + 1) ↔ Due c s
  once_counts = (
    λ e. by_cases (dec_dvd c.period s.clock) (λ d. d) (λ n. absurd (omega (arith, e, work_source k.work, (k.source.rests n).0))),
    λ d. work_source k.work ∙ (k.source.fires d).0,
  )

  -- and else does not
  pub once_keeps : (count_at t 0 ≡ count_at s 0) ↔ (Due c s → ⊥)
  once_keeps = (λ e d. omega (arith, e, once_counts.1 d), λ n. work_source k.work ∙ (k.source.rests n).0)
