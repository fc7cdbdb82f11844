-- The walk over the queues: what a queue more adds, and what 6 and 7 say at its end.
--   walk_step, _small        what the two steps of a turn ask
--   walk_line, _refused, _more
--                            what it gives: the queue's line, and 6, or a walk that has come to the next node
--   walk_says, _cycle, _busy behind the last queue: 6 and 7 say what 7 says of the walk, whose cycle is the chain's, and whose
--                            load, where 7 is silent
use Rattle.std.specs.Prelude.{◌≡◌, refl, Bool, ℕ, suc, ◌+◌, ◌*◌, ◌≤◌, ltb}
use Rattle.std.proofs.Common.{subst, sym, ap, ap₂, ◌∙◌, add-one, arith}
use Rattle.std.proofs.lemmas.Bool.Decides.{nat_tests}
use Rattle.chain.specs.Refusals.{fine, test, first, or_else, test_alone, test_silent, number_of}
use Rattle.chain.specs.Tests.{below_false}
use Rattle.chain.specs.Record.{row_of, work_of}
use Rattle.chain.specs.Said.{refusal}
use Rattle.chain.specs.declared.Chain.{Chain}
use Rattle.chain.specs.declared.reasons.Refused.{Refused}
use Rattle.chain.proofs.Passing.{rest, first_more, or_fine, or_refusal, passed_more, passed_all}
use Rattle.onequeue.specs.declared.Row.{Row}
use Rattle.rates.specs.Rates.{rate_after, Step}
use Rattle.rates.proofs.RatesLaws.{stretch_below}
use Rattle.rates.specs.Load.{capped, capped_step, capped_above, capped_below, capped_same, capped_within, Small}
use Rattle.rates.specs.declared.Rate.{Rate}
use Rattle.sizing.specs.Nodes.{x_of, y_of, stretch_of, x_pos, y_stretch, grows}
use Rattle.sizing.specs.Load.{busy_in, busy_of, cycle_of, busy_next}
use Rattle.sizing.specs.Sizes.{row_by, row_known, size_by, size_of}
use Rattle.sizing.specs.Checks.{limit, too_large, rate_test, rate_check, size_checks}
use Rattle.sizing.specs.Walk.{Walked, Walks}
use Rattle.sizing.specs.declared.Walk.{Walk}

-- the row of queue i, and the rate that the code makes of it
module _ {c : Chain} {i : ℕ} {w : Walk} (h : Walks c i w) {row : Row} (e : row ≡ row_by (row_of c i)) where
  pub walk_step : Step row w.x
  walk_step = record { known = rw e (row_known (h.chain.rows i h.inside)); fires = rw h.walked.firings (x_pos c h.chain i (omega (arith, h.inside))) }

  module _ {r : Rate} (f : r ≡ rate_after row.produce row.consume w.x w.y) where
    rate_is : r ≡ rate_after (row_of c i).produce (row_of c i).consume (x_of c i) (y_of c i)
    unfolding row_by
    rate_is = f ∙ ap (λ (q : Row). rate_after q.produce q.consume w.x w.y) e ∙ ap₂ (rate_after (row_of c i).produce (row_of c i).consume) h.walked.firings h.walked.ticks

    x_is : r.x ≡ x_of c (suc i)
    unfolding rate_after x_of
    x_is = ap (λ (r : Rate). r.x) rate_is

    y_is : r.y ≡ y_of c (suc i)
    unfolding rate_after y_of
    y_is = ap (λ (r : Rate). r.y) rate_is

    stretch_is : r.stretch ≡ stretch_of c i
    unfolding rate_after
    stretch_is = ap (λ (r : Rate). r.stretch) rate_is

    pub walk_small : w.y ≤ limit → Small w.busy r.stretch (work_of c i)
    walk_small fits = record {
      before = omega (arith, fits, h.walked.load, h.walked.ticks, capped_below (y_of c i) (busy_in c (y_of c i) i));
      stretch = omega (arith, stretch_is, stretch_below (row_of c i).produce (row_of c i).consume (x_of c i) (h.chain.rows i h.inside).consume.0, (h.chain.rows i h.inside).consume.1);
      work = (h.chain.work i h.inside).1;
    }

    pub walk_line : size_by (row_of c i) r.x r.y ≡ size_of c i
    walk_line = ap₂ (size_by (row_of c i)) x_is y_is

    -- what 6 says of N_(i+1)
    rate_says : rate_check c ≡ or_else (test 6 (i + 1) (too_large r.x r.y)) (rest (rate_test c) c.n (i + 1))
    unfolding rate_check
    rate_says = h.walked.rates ∙ passed_more (rate_test c) c.n i h.inside ∙ rw (x_is, y_is, add-one) refl

    pub walk_refused : (s : Refused) → test 6 (i + 1) (too_large r.x r.y) ≡ refusal s → first (size_checks c) ≡ refusal s
    walk_refused s g = simp (first_more, rate_says, g, or_refusal s)

    -- the load with one node more
    next_load : {busy : ℕ} → busy ≡ capped r.y (w.busy * r.stretch + work_of c i * r.x) → busy ≡ capped (y_of c (suc i)) (busy_in c (y_of c (suc i)) (suc i))
    next_load g =
        let B = busy_in c (y_of c i) i in
        let d = work_of c i * x_of c (suc i) in
        let once : capped (y_of c (suc i)) (capped (y_of c i) B * stretch_of c i + d) ≡ capped (y_of c (suc i)) (B * stretch_of c i + d) =
        rw (y_stretch c h.chain i h.inside) (capped_step (y_of c i) B (stretch_of c i) d (grows c h.chain i h.inside)) in
        g ∙ rw (x_is, y_is, stretch_is, h.walked.load) once ∙ ap (capped (y_of c (suc i))) (sym (busy_next c h.chain i h.inside))

    pub walk_more : {over : Bool} {busy : ℕ} → over ≡ too_large r.x r.y → fine ≡ test 6 (i + 1) over → busy ≡ capped r.y (w.busy * r.stretch + work_of c i * r.x)
        → Walked c (i + 1) (record { x = r.x; y = r.y; busy = busy })
    unfolding rate_check
    walk_more o z g = rw add-one (record {
      firings = x_is;
      ticks = y_is;
      load = next_load g;
      rates = rw (← add-one) (rate_says ∙ rw (← o, ← z) (or_fine _));
    })

pub ruleset walking = (walk_small, walk_refused, walk_line)

-- behind the last queue
module _ {c : Chain} {i : ℕ} {w : Walk} (h : Walked c i w) (e : i ≡ c.n) where
  whole : Walked c c.n w
  whole = subst (λ (k : ℕ). Walked c k w) e h

  over_is : ltb w.y w.busy ≡ ltb (cycle_of c) (busy_of c)
  over_is = rw (whole.ticks, whole.load) (grind (arith, nat_tests, capped_above (cycle_of c) (busy_of c)))

  -- what 6 and 7 say is what 7 says of the walk
  pub walk_says : first (size_checks c) ≡ test 7 0 (ltb w.y w.busy)
  unfolding rate_check
  walk_says = simp (whole.rates, passed_all (rate_test c) c.n c.n (omega arith), over_is) (sym (test_alone 7 0 (λ e. omega arith) _))

  pub walk_cycle : w.y ≡ cycle_of c
  walk_cycle = whole.ticks

  -- and where that is nothing, the load is exact
  pub walk_busy : fine ≡ test 7 0 (ltb w.y w.busy) → w.busy ≡ busy_of c
  walk_busy z =
      let l : w.busy ≤ w.y = (below_false w.y w.busy).0 ((test_silent 7 0 (λ e. omega arith) _).0 (number_of (sym z))) in
      whole.load ∙ capped_same (cycle_of c) (busy_of c) (capped_within (cycle_of c) (busy_of c) (rw (← whole.load, ← whole.ticks) l))
