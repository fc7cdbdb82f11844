-- The slots of a chain and of a state past n, and those of a list of losses past its count, are not read by a recording tick (01, Firing: "the slots past n are
-- neither read nor changed"; 02, Item 2). Throughout, c and d are chains, s and t states, and l and m lists, that differ in such slots only.
--   dropped_alike            a firing of a node of the chain whose production is dropped
--   lost_firing_alike               the same, of one that is finished
--   recorded_alike           a step of the deadline run in a recording run
--   rec-sourced-, rec-begun-, rec-advanced- and rec_finished_alike
--                            the parts of a recording tick
--   rec-tick-, rec-ticks- and rec_instants_alike
--                            a recording tick, so many of them, and a recording run
use Rattle.std.specs.Prelude.{refl, cond}
use Rattle.std.proofs.Common.{ap, arith}
use Rattle.std.proofs.Math.Path.{ap₂}
use Prim.Native.Nat.{ℕ, zero, suc, ◌≤◌}
use Rattle.std.proofs.Math.Dec.{eqb, ltb}
use Rattle.words.specs.declared.Queue.{Queue}
use Rattle.chain.specs.Refusal.{Refusal}
use Rattle.chain.specs.declared.Chain.{Chain}
use Rattle.state.specs.declared.Run.{Run}
use Rattle.slots.specs.Chains.{AlikeChains}
use Rattle.instants.specs.Steps.{lacking, chosen, worked}
use Rattle.instants.proofs.KeptLaws.{chosen_low}
use Rattle.instants.specs.declared.Outcome.{Outcome}
use Rattle.instants.specs.declared.Outcome.TheVariants as plain
use Rattle.instants.specs.declared.Ticked.{Ticked}
use Rattle.losses.specs.Losses.{longest_list}
use Rattle.losses.specs.declared.Losses.{Losses}
use Rattle.recordings.specs.Steps.{rec_clean, rec_undated, dropped, lost_firing, recorded_by, recorded, rec_sourced, rec_begun, rec_advanced, rec_finished, rec_tick, rec_ticks, rec_instants}
use Rattle.recordings.specs.declared.RecordOutcome.TheVariants.{NoDeadline}
use Rattle.tickslots.specs.Slots.{AlikeStates, AlikeTicked}
use Rattle.tickslots.proofs.SlotsLaws.{runs_of}
use Rattle.tickslots.specs.Alike.{lacking_alike, chosen_alike}
use Rattle.tickslots.proofs.AlikeLaws.{consumed_alike, fired_alike, cleared_alike, worked_alike, sourced_alike, finished_alike}
use Rattle.recordslots.specs.Lists.{AlikeLosses, AlikeRecorded}
use Rattle.recordslots.proofs.ListsLaws.{alike_noted, rec_alike_clean, rec_alike_cond, rec_alike_onward}
use Rattle.recordslots.specs.Queues.{Queued}
use Rattle.recordslots.proofs.QueuesLaws.{sourced_queued, finished_queued}

module _ {c d : Chain} (a : AlikeChains c d) where
  -- a firing whose production is dropped
  pub dropped_alike : {s t : Run} → AlikeStates c.n s t → (i : ℕ) → i ≤ c.n → AlikeStates c.n (dropped c s i) (dropped d t i)
  dropped_alike {s} {t} r i low = record {
    clock = r.clock;
    counts = (fired_alike a r i low).counts;
    held = consumed_alike a i low s.held t.held r.held;
    done = r.done;
  }

  -- the same of one that is finished
  pub lost_firing_alike : {s t : Run} → AlikeStates c.n s t → (i : ℕ) → i ≤ c.n → AlikeStates c.n (lost_firing c s i) (lost_firing d t i)
  unfolding lost_firing
  lost_firing_alike r zero low = dropped_alike r 0 low
  lost_firing_alike r (suc j) low = dropped_alike (cleared_alike r j) (suc j) low

  -- a step of the deadline run, whose production is dropped and noted where it does not fit
  pub recorded_alike : {x y : Ticked} {l m : Losses} → Queued c.n x.outcome → AlikeTicked c.n x y → AlikeLosses l m → AlikeRecorded c.n (recorded c l x) (recorded d m y)
  unfolding recorded recorded_by
  recorded_alike {x} {y} {l} {m} queued h k = rw (← h.outcome) (by x.outcome queued)
    where
      by : (o : Outcome) → Queued c.n o → AlikeRecorded c.n (recorded_by c l o x.run) (recorded_by d m o y.run)
      by plain.Clean low = rec_alike_clean h.state k
      by (plain.Overflowed t q) low = rec_alike_cond
          (ap (λ (count : ℕ). ltb count longest_list) k.count)
          (rec_alike_clean (lost_firing_alike h.state q (omega arith)) (alike_noted k t q (ap (λ (row : Queue). row.produce) (a.rows q low))))
          (record { outcome = refl; state = h.state; losses = k })
      by (plain.NoDeadline t i) low = record { outcome = refl; state = h.state; losses = k }

  -- the source's step
  pub rec_sourced_alike : {s t : Run} {l m : Losses} → AlikeStates c.n s t → AlikeLosses l m → AlikeRecorded c.n (rec_sourced c s l) (rec_sourced d t m)
  unfolding rec_sourced
  rec_sourced_alike {s} r k = recorded_alike (sourced_queued c s) (sourced_alike a r) k

  -- the source's step, then 13
  pub rec_begun_alike : {s t : Run} {l m : Losses} → AlikeStates c.n s t → AlikeLosses l m → AlikeRecorded c.n (rec_begun c s l) (rec_begun d t m)
  unfolding rec_begun
  rec_begun_alike {s} {t} {l} {m} r k = rec_alike_onward _ _ (rec_sourced_alike r k) dated
    where
      dated : (u v : Run) (g h : Losses) → AlikeStates c.n u v → AlikeLosses g h → AlikeRecorded c.n
          (cond (eqb (lacking c u).number 0) (rec_clean u g) (rec_undated s l s.clock (lacking c u).place))
          (cond (eqb (lacking d v).number 0) (rec_clean v h) (rec_undated t m t.clock (lacking d v).place))
      dated u v g h w same =
          let e = lacking_alike a (runs_of w) in
          rec_alike_cond (ap (λ (x : Refusal). eqb x.number 0) e) (rec_alike_clean w same)
          (record { outcome = ap₂ NoDeadline r.clock (ap (λ (x : Refusal). x.place) e); state = r; losses = k })

  -- the source's step, 13, and one tick of work
  pub rec_advanced_alike : {s t : Run} {l m : Losses} → AlikeStates c.n s t → AlikeLosses l m → AlikeRecorded c.n (rec_advanced c s l) (rec_advanced d t m)
  unfolding rec_advanced
  rec_advanced_alike r k = rec_alike_onward _ _ (rec_begun_alike r k) works
    where
      works : (u v : Run) (g h : Losses) → AlikeStates c.n u v → AlikeLosses g h → AlikeRecorded c.n (rec_clean (worked u (chosen c u)) g) (rec_clean (worked v (chosen d v)) h)
      works u v g h w same = rw (← chosen_alike a (runs_of w)) (rec_alike_clean (worked_alike w (chosen c u) (chosen_low c u)) same)

  -- the firing finished by then
  pub rec_finished_alike : {s t : Run} {l m : Losses} → AlikeStates c.n s t → AlikeLosses l m → AlikeRecorded c.n (rec_finished c s l) (rec_finished d t m)
  unfolding rec_finished
  rec_finished_alike {s} r k = recorded_alike (finished_queued c s) (finished_alike a r) k

  -- one tick
  pub rec_tick_alike : {s t : Run} {l m : Losses} → AlikeStates c.n s t → AlikeLosses l m → AlikeRecorded c.n (rec_tick c s l) (rec_tick d t m)
  unfolding rec_tick
  rec_tick_alike r k = rec_alike_onward _ _ (rec_advanced_alike r k) (λ u v g h w same. rec_finished_alike w same)

  -- so many ticks
  pub rec_ticks_alike : (T : ℕ) {s t : Run} {l m : Losses} → AlikeStates c.n s t → AlikeLosses l m → AlikeRecorded c.n (rec_ticks c T s l) (rec_ticks d T t m)
  unfolding rec_ticks
  rec_ticks_alike zero r k = rec_alike_clean r k
  rec_ticks_alike (suc T) r k = rec_alike_onward _ _ (rec_tick_alike r k) (λ u v g h w same. rec_ticks_alike T w same)

  -- so many instants
  pub rec_instants_alike : (T : ℕ) {s t : Run} {l m : Losses} → AlikeStates c.n s t → AlikeLosses l m → AlikeRecorded c.n (rec_instants c T s l) (rec_instants d T t m)
  unfolding rec_instants
  rec_instants_alike zero r k = rec_finished_alike r k
  rec_instants_alike (suc T) r k =
      rec_alike_onward _ _ (rec_alike_onward _ _ (rec_finished_alike r k) (λ u v g h w same. rec_advanced_alike w same)) (λ u v g h w same. rec_instants_alike T w same)
