-- The slots of a chain past n are not read by an immediate run (01, Firing: "the slots past n are neither read nor changed").
--   F-alike                    chains that differ in slots past n only have the same exact counts
--   length_alike, refusal_alike
--                              so 9 is said of both or of neither, and the run is refused alike
--   reached_alike, calm_alike  a state that firings lead to, and one in which no node may fire, is one of both
--   state_alike                so their schedules end in one state
--   immediate_alike            and the answer is the same
use Rattle.std.specs.Prelude.{◌≡◌, ltb}
use Rattle.std.proofs.Math.Path.{refl, sym, ap}
use Rattle.std.proofs.Common.{ap₂, subst, ◌∙◌, arith}
use Rattle.std.proofs.Math.Logic.{by_cases}
use Prim.Native.Nat.{ℕ, zero, suc, ◌+◌, ◌*◌, ◌≤◌, ◌<◌}
use Rattle.std.proofs.Math.Decide.{ℕ_discrete}
use Rattle.words.specs.Table.{tab, tab_alike}
use Rattle.words.specs.declared.Queue.{Queue}
use Rattle.chain.specs.Refusals.{test, first, or_else, Silent, silent_as}
use Rattle.chain.specs.Sound.{Sound}
use Rattle.chain.specs.declared.Chain.{Chain}
use Rattle.sizing.specs.Sizes.{start}
use Rattle.state.specs.State.{count_at, held_at, fresh_run, answered}
use Rattle.state.specs.declared.Run.{Run}
use Rattle.slots.specs.Chains.{AlikeChains}
use Rattle.slots.proofs.ChainsLaws.{run_alike}
use Rattle.events.specs.Counts.{fires}
use Rattle.history.specs.History.{after}
use Rattle.schedule.specs.Counts.{F}
use Rattle.schedule.specs.Reached.{Reached, Calm}
use Rattle.schedule.proofs.ReachedLaws.{one_state}
use Rattle.schedule.proofs.ScheduleLaws as order_laws
use Rattle.schedule.specs.Schedule.{schedule}
use Rattle.schedule.proofs.ScheduleLaws.{counts_are_F}
use Rattle.immediate.specs.Checks.{most, length_test, length_check, immediate_refusal, immediate_answer}
use Rattle.immediate.proofs.ChecksLaws.{immediate_parts, immediate_accepts, immediate_ran, immediate_refused}

module _ {c d : Chain} (a : AlikeChains c d) where
  -- the exact counts of each node
  pub F-alike : (k i : ℕ) → i ≤ c.n → F c k i ≡ F d k i
  unfolding F
  F-alike k zero l = refl
  F-alike k (suc i) l =
      let r = a.rows i l in
      let e = F-alike k i (omega arith) in
      λ t. fires (r t).threshold (r t).consume (start (r t) + (r t).produce * e t)

  -- 9
  pub length_alike : (k : ℕ) → length_check c k ≡ length_check d k
  unfolding length_check
  length_alike k = ap first (
      tab_alike (suc c.n) (length_test c k) (length_test d k) (λ i l. ap (λ (m : ℕ). test 9 i (ltb most m)) (F-alike k i (omega arith)))
      ∙ ap (λ (n : ℕ). tab (suc n) (length_test d k)) a.n
      )

  -- an immediate run is refused alike
  pub refusal_alike : (k : ℕ) → immediate_refusal c k ≡ immediate_refusal d k
  refusal_alike k = immediate_parts c k ∙ ap₂ or_else (run_alike a) (length_alike k) ∙ sym (immediate_parts d k)

  -- a queue of the one chain is a queue of the other
  inside : (j : ℕ) → j < d.n → j < c.n
  inside j l = omega (arith, a.n)

  -- what holds of a state that firings lead to
  pub reached_alike : {s : Run} → Reached c s → Reached d s
  reached_alike {s} r = record {
    clock = r.clock;
    done = r.done;
    wide = r.wide;
    deep = r.deep;
    balance = λ j l. subst (λ (q : Queue). start q + q.produce * count_at s j ≡ held_at s j + q.consume * count_at s (suc j)) (a.rows j (inside j l)) (r.balance j (inside j l));
    owed = λ j l. subst (λ (q : Queue). 0 < count_at s (suc j) → q.consume * count_at s (suc j) + q.threshold ≤ start q + q.produce * count_at s j + q.consume)
        (a.rows j (inside j l)) (r.owed j (inside j l));
    counts_past = λ j l. r.counts_past j (omega (arith, a.n));
    held_past = λ j l. r.held_past j (omega (arith, a.n));
  }

  -- no node after N_i may fire
  pub calm_alike : (s : Run) (i : ℕ) → Calm c s i → Calm d s i
  calm_alike s i calm j m l = subst (λ (q : Queue). held_at s j < q.threshold) (a.rows j (inside j l)) (calm j m (inside j l))

  -- the state after the schedule
  pub state_alike : Sound c → Sound d → (k : ℕ) → after c (fresh_run c) (schedule c k) ≡ after d (fresh_run d) (schedule d k)
  unfolding F
  state_alike u v k =
      one_state v (reached_alike (order_laws.reached u k)) (order_laws.reached v k) (calm_alike (after c (fresh_run c) (schedule c k)) 0 (order_laws.ends u k)) (order_laws.ends v k)
      (counts_are_F u k 0 (omega arith) ∙ sym (counts_are_F v k 0 (omega arith)))

  -- the state that is answered
  run_alike_at : (k : ℕ) → (immediate_answer c k).run ≡ (immediate_answer d k).run
  run_alike_at k = by_cases (ℕ_discrete (immediate_refusal c k).number 0)
      (λ z.
      let y : Silent (immediate_refusal d k) = silent_as (refusal_alike k) z in
      immediate_ran c k z
      ∙ state_alike ((immediate_accepts c k).0 z).0.0.chain ((immediate_accepts d k).0 y).0.0.chain k
      ∙ sym (immediate_ran d k y))
      (λ n. immediate_refused c k n ∙ sym (immediate_refused d k (λ y. n (silent_as (sym (refusal_alike k)) y))))

  -- the whole answer
  pub immediate_alike : (k : ℕ) → immediate_answer c k ≡ immediate_answer d k
  unfolding immediate_answer answered
  immediate_alike k = λ t. record { number = (refusal_alike k t).number; place = (refusal_alike k t).place; run = run_alike_at k t }
