-- Laws of specs/Alike.antt that rest on a definition which an edit of must-fail/ changes.
-- The slots of a chain and of a state past n are not read by a tick (01, Firing: "the slots past n are neither read nor changed"). Throughout, c and d
-- are chains, and s and t states, that differ in slots past n only.
--   consumed_alike           what a firing takes from its input queue
--   fired_alike              a firing of a node of the chain
--   cleared_alike            the work done of a node, cleared
--   sourced-, lacking-, chosen-, worked-, ended-, finish- and finished_alike
--                            the parts of a tick
--   begun-, advanced-, tick- and instants_alike
--                            a tick, and a run
use Rattle.std.specs.Prelude.{◌≡◌, Bool, List, get_or, set}
use Rattle.std.proofs.Math.Path.{refl, ap, ap₂}
use Rattle.std.proofs.Common.{arith}
use Rattle.std.proofs.Math.Bool.{true, false, cond}
use Prim.Native.Nat.{ℕ, zero, suc, ◌+◌, ◌-◌, ◌≤◌, ◌<◌}
use Rattle.std.proofs.Math.Dec.{ltb, eqb}
use borrow.Author.Tests.{ltb-true}
use Rattle.chain.specs.Record.{row_of}
use Rattle.chain.specs.Refusal.{Refusal}
use Rattle.chain.specs.declared.Chain.{Chain}
use Rattle.state.specs.Fired.{produced, consumed, fired}
use Rattle.state.specs.declared.Run.{Run}
use Rattle.slots.specs.Chains.{AlikeChains}
use Rattle.slots.proofs.RunsLaws.{cramped_alike}
use Rattle.instants.specs.Steps.{clean, overflowed, undated, with_done, divides, sourced, lacking}
use Rattle.instants.specs.Steps.{chosen, worked, ended, finish, finished, begun, advanced, tick, instants}
use Rattle.instants.proofs.KeptLaws.{chosen_low}
use Rattle.instants.specs.declared.Outcome.TheVariants.{Overflowed, NoDeadline}
use Rattle.tickslots.specs.Slots.{AlikeLists, alike_set, AlikeStates, AlikeTicked}
use Rattle.tickslots.proofs.SlotsLaws.{runs_of, alike_clean, alike_cond, alike_onward}
use Rattle.tickslots.specs.Alike.{lacking_alike, ended_low, chosen_alike, ended_alike}

-- what a firing puts into its output queue, and takes from its input queue
module _ {c d : Chain} (a : AlikeChains c d) where
  produced_alike : (i : ℕ) (x y : List ℕ) → AlikeLists c.n x y → AlikeLists c.n (produced c i x) (produced d i y)
  unfolding produced
  produced_alike i x y h = rw (← a.n) (by (ltb i c.n) refl)
    where
      by : (b : Bool) → ltb i c.n ≡ b → AlikeLists c.n (cond b (set x i (get_or x i 0 + (row_of c i).produce)) x) (cond b (set y i (get_or y i 0 + (row_of d i).produce)) y)
      by true e = let l : i < c.n = ltb-true _ _ e in alike_set x y i _ _ h (λ k. h.slots i l k + (a.rows i l k).produce)
      by false e = h

  pub consumed_alike : (i : ℕ) → i ≤ c.n → (x y : List ℕ) → AlikeLists c.n x y → AlikeLists c.n (consumed c i x) (consumed d i y)
  unfolding consumed
  consumed_alike zero l x y h = h
  consumed_alike (suc j) l x y h = alike_set x y j _ _ h (λ k. h.slots j l k - (a.rows j l k).consume)

  -- a firing of a node of the chain
  pub fired_alike : {s t : Run} → AlikeStates c.n s t → (i : ℕ) → i ≤ c.n → AlikeStates c.n (fired c s i) (fired d t i)
  unfolding fired
  fired_alike {s} {t} r i l = record {
    clock = r.clock;
    counts = alike_set s.counts t.counts i _ _ r.counts (ap (λ (m : ℕ). m + 1) (r.counts.slots i (omega arith)));
    held = consumed_alike i l _ _ (produced_alike i s.held t.held r.held);
    done = r.done;
  }

-- one tick of work of a node of the chain
pub worked_alike : {n : ℕ} {s t : Run} → AlikeStates n s t → (i : ℕ) → i ≤ n → AlikeStates n (worked s i) (worked t i)
unfolding worked
worked_alike r zero l = record { clock = ap (λ (m : ℕ). m + 1) r.clock; counts = r.counts; held = r.held; done = r.done }
worked_alike {s = s} {t} r (suc j) l = record {
  clock = ap (λ (m : ℕ). m + 1) r.clock;
  counts = r.counts;
  held = r.held;
  done = alike_set s.done t.done j _ _ r.done (ap (λ (m : ℕ). m + 1) (r.done.slots j l));
}

-- the work done of N_(j+1) is cleared
pub cleared_alike : {n : ℕ} {s t : Run} → AlikeStates n s t → (j : ℕ) → AlikeStates n (with_done s j 0) (with_done t j 0)
cleared_alike {s = s} {t} r j = record { clock = r.clock; counts = r.counts; held = r.held; done = alike_set s.done t.done j 0 0 r.done refl }

-- a production that does not fit, at a time and a queue
overflowed_alike : {n : ℕ} {s t : Run} → AlikeStates n s t → (q : ℕ) → AlikeTicked n (overflowed s s.clock q) (overflowed t t.clock q)
overflowed_alike r q = record { outcome = ap (λ (m : ℕ). Overflowed m q) r.clock; state = r }

module _ {c d : Chain} (a : AlikeChains c d) where
  -- the source's step
  pub sourced_alike : {s t : Run} → AlikeStates c.n s t → AlikeTicked c.n (sourced c s) (sourced d t)
  unfolding sourced
  sourced_alike {s} {t} r = alike_cond
      (ap₂ divides a.period r.clock)
      (alike_cond (cramped_alike a (runs_of r) 0) (overflowed_alike r 0) (alike_clean (fired_alike a r 0 (omega arith))))
      (alike_clean r)

  -- the effect of a firing that is finished
  pub finish_alike : {s t : Run} → AlikeStates c.n s t → (i : ℕ) → i ≤ c.n → AlikeTicked c.n (finish c s i) (finish d t i)
  unfolding finish
  finish_alike r zero l = alike_clean r
  finish_alike {s} {t} r (suc j) l = alike_cond (cramped_alike a (runs_of r) (suc j)) (overflowed_alike r (suc j)) (alike_clean (fired_alike a (cleared_alike r j) (suc j) l))

  -- the firing finished by then
  pub finished_alike : {s t : Run} → AlikeStates c.n s t → AlikeTicked c.n (finished c s) (finished d t)
  unfolding finished
  finished_alike {s} {t} r = rw (← ended_alike a (runs_of r)) (finish_alike r (ended c s) (ended_low c s c.n))

  -- the source's step, then 13
  pub begun_alike : {s t : Run} → AlikeStates c.n s t → AlikeTicked c.n (begun c s) (begun d t)
  unfolding begun
  begun_alike {s} {t} r = alike_onward _ _ (sourced_alike r) dated
    where
      dated : (u v : Run) → AlikeStates c.n u v → AlikeTicked c.n
          (cond (eqb (lacking c u).number 0) (clean u) (undated s s.clock (lacking c u).place))
          (cond (eqb (lacking d v).number 0) (clean v) (undated t t.clock (lacking d v).place))
      dated u v w =
          let e = lacking_alike a (runs_of w) in
          alike_cond (ap (λ (x : Refusal). eqb x.number 0) e) (alike_clean w) (record { outcome = ap₂ NoDeadline r.clock (ap (λ (x : Refusal). x.place) e); state = r })

  -- the source's step, 13, and one tick of work
  pub advanced_alike : {s t : Run} → AlikeStates c.n s t → AlikeTicked c.n (advanced c s) (advanced d t)
  unfolding advanced
  advanced_alike r = alike_onward _ _ (begun_alike r) works
    where
      works : (u v : Run) → AlikeStates c.n u v → AlikeTicked c.n (clean (worked u (chosen c u))) (clean (worked v (chosen d v)))
      works u v w = rw (← chosen_alike a (runs_of w)) (alike_clean (worked_alike w (chosen c u) (chosen_low c u)))

  -- one tick
  pub tick_alike : {s t : Run} → AlikeStates c.n s t → AlikeTicked c.n (tick c s) (tick d t)
  unfolding tick
  tick_alike r = alike_onward _ _ (advanced_alike r) (λ u v w. finished_alike w)

  -- so many instants
  pub instants_alike : (T : ℕ) {s t : Run} → AlikeStates c.n s t → AlikeTicked c.n (instants c T s) (instants d T t)
  unfolding instants
  instants_alike zero r = finished_alike r
  instants_alike (suc T) r = alike_onward _ _ (alike_onward _ _ (finished_alike r) (λ u v w. advanced_alike w)) (λ u v w. instants_alike T w)
