-- A tick keeps the slots past n of its state, and the number of slots (01, Firing: "the slots past n are neither read nor changed").
--   consumed_kept            what a firing takes from its input queue
--   fired_kept, worked_kept  a firing of a node of the chain, and one tick of work
--   cleared_kept             the work done of a node, cleared
--   sourced-, finish-, finished-, begun- and advanced_kept
--                            the parts of a tick
--   tick- and instants_kept
--                            a tick, and a run
use Rattle.std.specs.Prelude.{◌≡◌, Bool, List, eqb, get_or, set}
use Rattle.std.proofs.Math.Path.{refl}
use Rattle.std.proofs.Math.Bool.{true, false, cond}
use Prim.Native.Nat.{ℕ, zero, suc, ◌+◌, ◌-◌, ◌≤◌, ◌<◌}
use Rattle.std.proofs.Common.{arith, ltb-true}
use Rattle.std.proofs.Math.Dec.{ltb}
use Rattle.chain.specs.Record.{row_of}
use Rattle.chain.specs.declared.Chain.{Chain}
use Rattle.state.specs.State.{count_at, done_at}
use Rattle.state.specs.Fired.{produced, consumed, fired}
use Rattle.state.specs.Checks.{cramped}
use Rattle.state.specs.declared.Run.{Run}
use Rattle.instants.proofs.KeptLaws.{chosen_low}
use Rattle.instants.specs.Steps.{clean, undated, onward, with_done, divides, sourced, lacking, chosen, worked, ended, finish, finished, begun, advanced, tick, instants}
use Rattle.tickslots.specs.Slots.{KeptList, KeptSlots}
use Rattle.tickslots.proofs.SlotsLaws.{kept_set, kept_list, kept_lists, kept_refl, kept_trans, kept_cond, kept_onward}
use Rattle.tickslots.specs.Alike.{ended_low}

-- one tick of work of a node of the chain
pub worked_kept : {n : ℕ} (s : Run) (i : ℕ) → i ≤ n → KeptSlots n s (worked s i)
unfolding worked
worked_kept s zero l = record { counts = kept_list s.counts; held = kept_list s.held; done = kept_list s.done }
worked_kept s (suc j) l = record { counts = kept_list s.counts; held = kept_list s.held; done = kept_set s.done j (done_at s j + 1) l }

-- the work done of N_(j+1) is cleared
pub cleared_kept : {n : ℕ} (s : Run) (j : ℕ) → j < n → KeptSlots n s (with_done s j 0)
cleared_kept s j l = record { counts = kept_list s.counts; held = kept_list s.held; done = kept_set s.done j 0 l }

module _ (c : Chain) where
  produced_kept : (i : ℕ) (x : List ℕ) → KeptList c.n x (produced c i x)
  unfolding produced
  produced_kept i x = by (ltb i c.n) refl
    where
      by : (b : Bool) → ltb i c.n ≡ b → KeptList c.n x (cond b (set x i (get_or x i 0 + (row_of c i).produce)) x)
      by true e = kept_set x i (get_or x i 0 + (row_of c i).produce) (ltb-true _ _ e)
      by false e = kept_list x

  -- what a firing takes from its input queue
  pub consumed_kept : (i : ℕ) → i ≤ c.n → (x : List ℕ) → KeptList c.n x (consumed c i x)
  unfolding consumed
  consumed_kept zero l x = kept_list x
  consumed_kept (suc j) l x = kept_set x j (get_or x j 0 - (row_of c j).consume) l

  -- a firing of a node of the chain
  pub fired_kept : (s : Run) (i : ℕ) → i ≤ c.n → KeptSlots c.n s (fired c s i)
  unfolding fired
  fired_kept s i l = record {
    counts = kept_set s.counts i (count_at s i + 1) (omega arith);
    held = kept_lists (produced_kept i s.held) (consumed_kept i l (produced c i s.held));
    done = kept_list s.done;
  }

  -- the source's step
  pub sourced_kept : (s : Run) → KeptSlots c.n s (sourced c s).run
  unfolding sourced
  sourced_kept s = kept_cond _ _ (divides c.period s.clock) (kept_cond _ _ (cramped c s 0) (kept_refl s) (fired_kept s 0 (omega arith))) (kept_refl s)

  -- the effect of a firing that is finished
  pub finish_kept : (s : Run) (i : ℕ) → i ≤ c.n → KeptSlots c.n s (finish c s i).run
  unfolding finish
  finish_kept s zero l = kept_refl s
  finish_kept s (suc j) l = kept_cond _ _ (cramped c s (suc j)) (kept_refl s) (kept_trans (cleared_kept s j l) (fired_kept (with_done s j 0) (suc j) l))

  -- the firing finished by then
  pub finished_kept : (s : Run) → KeptSlots c.n s (finished c s).run
  unfolding finished
  finished_kept s = finish_kept s (ended c s) (ended_low c s c.n)

  -- the source's step, then 13
  pub begun_kept : (s : Run) → KeptSlots c.n s (begun c s).run
  unfolding begun
  begun_kept s =
      kept_onward (sourced c s) (λ u. cond (eqb (lacking c u).number 0) (clean u) (undated s s.clock (lacking c u).place)) (sourced_kept s)
      (λ u k. kept_cond (clean u) (undated s s.clock (lacking c u).place) (eqb (lacking c u).number 0) k (kept_refl s))

  -- the source's step, 13, and one tick of work
  pub advanced_kept : (s : Run) → KeptSlots c.n s (advanced c s).run
  unfolding advanced
  advanced_kept s = kept_onward (begun c s) (λ u. clean (worked u (chosen c u))) (begun_kept s) (λ u k. kept_trans k (worked_kept u (chosen c u) (chosen_low c u)))

  -- one tick
  pub tick_kept : (s : Run) → KeptSlots c.n s (tick c s).run
  unfolding tick
  tick_kept s = kept_onward (advanced c s) (finished c) (advanced_kept s) (λ u k. kept_trans k (finished_kept u))

  -- so many instants
  pub instants_kept : (T : ℕ) (s : Run) → KeptSlots c.n s (instants c T s).run
  unfolding instants
  instants_kept zero s = finished_kept s
  instants_kept (suc T) s =
      kept_onward (onward (finished c s) (advanced c)) (instants c T) (kept_onward (finished c s) (advanced c) (finished_kept s) (λ u k. kept_trans k (advanced_kept u)))
      (λ u k. kept_trans k (instants_kept T u))
