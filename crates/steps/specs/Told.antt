-- What a pass tells of its firings, by the counts of the state that it leaves.
--   passed_counts            a node's count is as many more as it is told to have fired
use Rattle.std.specs.Prelude.{◌≡◌, refl, Bool, true, false, cond, ◌&&◌, List, ◌++◌, ℕ, suc, ◌+◌, ◌≤◌, eqb, Result}
use Rattle.std.proofs.Common.{sym, ap, ◌∙◌, arith}
use Rattle.chain.specs.declared.Chain.{Chain}
use Rattle.state.specs.State.{count_at}
use Rattle.state.specs.declared.Run.{Run}
use Rattle.history.specs.History.{Entry, nodes, times}
use Rattle.history.proofs.Laws.{counted_from}
use Rattle.instants.specs.Steps.{tick}
use Rattle.instants.specs.Filled.{Running}
use Rattle.instants.specs.Kept.{Countable}
use Rattle.traces.specs.Trace.{tick_trace, resting}
use Rattle.traces.proofs.TracedLaws.{tick_traced}
use Rattle.steps.specs.Lent.{fired_at}
use Rattle.steps.specs.Passed.{source_in, node_in, done_in, PassTo}
use Rattle.steps.specs.declared.Halt.{Halt}
use Rattle.steps.specs.declared.Passed.{Passed}

-- how often N_k stands among firings of which there is one or none
told_one : (b : Bool) (t i k : ℕ) → times k (nodes (fired_at b t i)) ≡ cond (b && eqb i k) 1 0
unfolding times
told_one true t i k = refl
told_one false t i k = refl

told_both : (a b : Bool) (t u i j k : ℕ) → times k (nodes (fired_at a t i ++ fired_at b u j)) ≡ cond (a && eqb i k) 1 0 + cond (b && eqb j k) 1 0
unfolding times
told_both true b t u i j k = by (eqb i k)
  where
    by : (x : Bool) → cond x (suc (times k (nodes (fired_at b u j)))) (times k (nodes (fired_at b u j))) ≡ cond x 1 0 + cond (b && eqb j k) 1 0
    by true = omega (arith, told_one b u j k)
    by false = omega (arith, told_one b u j k)
told_both false b t u i j k = omega (arith, told_one b u j k)

-- the source has fired where that is told, and so has the node that worked, and no other node has
pub passed_counts : {c : Chain} {s : Run} {t : ℕ} {g h : List ℕ} {r : Result Passed Halt} → PassTo c s t g h r → Running c s → Countable c s → (k : ℕ) → k ≤ c.n
    → count_at (tick c s).run k ≡ count_at s k + (cond (source_in c t r && eqb 0 k) 1 0 + cond (done_in r && eqb (node_in r) k) 1 0)
passed_counts {c} {s} {t} {r = r} p run some k l =
    ap (λ (u : Run). count_at u k) (sym (tick_traced run some).1)
    ∙ counted_from c (resting s) (nodes (tick_trace c s)) k (omega (arith, run.whole.counts, run.chain.chain.count.1))
    ∙ ap (λ (n : ℕ). count_at s k + n) (ap (λ (e : List Entry). times k (nodes e)) p.firings ∙ told_both (source_in c t r) (done_in r) t (t + 1) 0 (node_in r) k)
