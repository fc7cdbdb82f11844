-- Laws of specs/Kept.antt that rest on a definition which an edit of must-fail/ changes.
-- What the steps of a tick keep of a state (01, Firing and Numbers a call may refuse with).
--   source_cases, finish_cases what holds of each way in which the source's step, and the effect of a firing, end holds of them
--   sourced_others, _held, _stays
--                              the source's step changes no other node or queue, and nothing at all where it is not clean
--   begun_clean, begun_stays   the source's step and 13 leave what the source's step does where neither ends the tick, and else the state as it was
--   begun_over, _silent, _undated
--                              what they leave in each of their three cases
--   chosen_low, chosen_over    the node that works is a node of the chain, and over threshold
--   ended_none, ended_one      which node's work is done
--   worked_counts, _held, _clock, _other, -same
--                              what one tick of work leaves
--   works_filled, _unended, _on
--                              a firing that is not finished: what is kept, that no node's work is done, and that nothing takes effect
--   works_ended, _ends, cleared_filled, cleared_running, finish_may
--                              one that is: that its node's work is done, its effect, what is kept with its work cleared, and that its node may fire
--   tick_begun, tick_ends, tick_works
--                              a tick is the source's step and 13, and then, where these are clean, the work of the node chosen and its effect
--   finished_clock, finish_others
--                              the effect of one does not move the clock, and changes no other count
use Rattle.std.specs.Prelude.{◌≡◌, ◌≢◌, Bool, true, false, cond, List, eqb, length, get_or}
use Rattle.std.proofs.Math.Path.{refl, ap}
use Rattle.std.proofs.Common.{sym, subst, ◌∙◌, le_refl, arith, eqb-true, eq-eqb, le-leb}
use Rattle.std.proofs.Math.Logic.{by_cases}
use Prim.Native.Nat.{ℕ, zero, suc, ◌+◌, ◌≤◌, ◌<◌}
use Rattle.std.proofs.Math.Nat.{le_step}
use Rattle.std.proofs.Math.Decide.{ℕ_discrete}
use Rattle.std.proofs.Math.ListN.{length-set}
use Rattle.std.proofs.Math.Seq.{get_or-set_same, get_or-set_other}
use Rattle.std.proofs.lemmas.Bool.{lt-leb}
use Rattle.chain.specs.Refusals.{Silent, refused}
use Rattle.chain.specs.Record.{work_of}
use Rattle.chain.specs.Refusal.{Refusal}
use Rattle.chain.specs.declared.Chain.{Chain}
use Rattle.sizing.specs.Checks.{limit}
use Rattle.state.specs.State.{count_at, held_at, done_at}
use Rattle.state.specs.Fired.{fired, Over, Room, May}
use Rattle.state.proofs.FiredLaws.{count_fired, count_other, held_other}
use Rattle.state.specs.Checks.{over, cramped}
use Rattle.state.proofs.ChecksLaws.{over_true, cramped_room}
use Rattle.state.specs.declared.Run.{Run}
use Rattle.instants.proofs.BestLaws.{chosen_best}
use Rattle.instants.specs.Runs.{unclean_overflow, unclean_undated, onward_goes, onward_stops, onward_cases, onward_then}
use Rattle.instants.specs.Filled.{Filled, Balanced, Running}
use Rattle.instants.proofs.FilledLaws.{running_filled, running_balanced, filled_running, fired_filled, fired_balanced}
use Rattle.instants.specs.Filled.{cramped_as}
use Rattle.instants.proofs.FilledLaws.{balanced_as, filled_as}
use Rattle.instants.specs.Steps.{clean, overflowed, undated, onward, goes, divides, sourced, lacking, begun, chosen, worked, ended_in, ended, finish, finished, advanced, tick, with_done}
use Rattle.instants.specs.declared.Outcome.{Outcome}
use Rattle.instants.specs.declared.Outcome.TheVariants.{Clean, Overflowed, NoDeadline}
use Rattle.instants.specs.declared.Ticked.{Ticked}
use Rattle.instants.specs.Kept.{SourceStep, TickStep, fired_clock}

-- the source's step: its production does not fit, or it fires, or it rests
pub source_cases : (c : Chain) (s : Run) (P : Ticked → Type 0) → (cramped c s 0 ≡ true → P (overflowed s s.clock 0))
    → (cramped c s 0 ≡ false → P (clean (fired c s 0))) → P (clean s) → P (sourced c s)
unfolding sourced
source_cases c s P spills fires rests = by (divides c.period s.clock) (cramped c s 0) refl
  where
    by : (d x : Bool) → cramped c s 0 ≡ x → P (cond d (cond x (overflowed s s.clock 0) (clean (fired c s 0))) (clean s))
    by true true e = spills e
    by true false e = fires e
    by false x e = rests

-- the effect of N_(j+1)'s firing: its production does not fit, or it takes effect
pub finish_cases : (c : Chain) (w : Run) (j : ℕ) (P : Ticked → Type 0) → (cramped c w (suc j) ≡ true → P (overflowed w w.clock (suc j)))
    → (cramped c w (suc j) ≡ false → P (clean (fired c (with_done w j 0) (suc j))))
    → P (finish c w (suc j))
unfolding finish
finish_cases c w j P spills fires = by (cramped c w (suc j)) refl
  where
    by : (x : Bool) → cramped c w (suc j) ≡ x → P (cond x (overflowed w w.clock (suc j)) (clean (fired c (with_done w j 0) (suc j))))
    by true e = spills e
    by false e = fires e

-- the source's step changes no other node's count, and no other queue
pub sourced_others : (c : Chain) (s : Run) (j : ℕ) → count_at (sourced c s).run (suc j) ≡ count_at s (suc j)
sourced_others c s j = source_cases c s (λ x. count_at x.run (suc j) ≡ count_at s (suc j)) (λ e. refl) (λ e. count_other c s 0 (suc j) (λ z. omega arith)) refl

pub sourced_held : (c : Chain) (s : Run) (j : ℕ) → 0 < j → held_at (sourced c s).run j ≡ held_at s j
sourced_held c s j l = source_cases c s (λ x. held_at x.run j ≡ held_at s j) (λ e. refl) (λ e. held_other c s 0 j (λ z. omega arith) (λ z. omega arith)) refl

-- an outcome of it leaves the state as it was
pub sourced_stays : (c : Chain) (s : Run) → ((sourced c s).outcome ≡ Clean → ⊥) → (sourced c s).run ≡ s
sourced_stays c s = source_cases c s (λ x. (x.outcome ≡ Clean → ⊥) → x.run ≡ s) (λ e n. refl) (λ e n. absurd (n refl)) (λ n. refl)

module _ {c : Chain} {s : Run} (f : Filled c s) where
  source_rests : SourceStep c s s
  source_rests = record { filled = f; balanced = λ b. b; clock = refl; done = refl; source = omega arith; others = λ i l. refl }

  source_fires : Room c s 0 → SourceStep c s (fired c s 0)
  unfolding fired
  source_fires m = record {
    filled = fired_filled f 0 tt m;
    balanced = fired_balanced f 0 tt;
    clock = refl;
    done = refl;
    source = omega (arith, count_fired c s 0 (omega (arith, f.whole.counts)));
    others = λ i l. count_other c s 0 i (λ e. omega arith);
  }

  pub sourced_clean : (sourced c s).outcome ≡ Clean → SourceStep c s (sourced c s).run
  sourced_clean = source_cases c s (λ x. x.outcome ≡ Clean → SourceStep c s x.run) (λ e h. absurd (unclean_overflow h)) (λ e h. source_fires ((cramped_room c s 0).0 e)) (λ h. source_rests)

pub source_running : {c : Chain} {s u : Run} → Running c s → SourceStep c s u → Running c u
source_running r k = filled_running k.filled (k.balanced (running_balanced r))

-- where neither ends the tick, they leave what the source's step left
pub begun_clean : (c : Chain) (s : Run) → (begun c s).outcome ≡ Clean → ((sourced c s).outcome ≡ Clean) × (Silent (lacking c (sourced c s).run) × (begun c s ≡ clean (sourced c s).run))
unfolding begun
begun_clean c s h =
    let o = onward_cases (sourced c s) after h in
    let x = by (eqb (lacking c (sourced c s).run).number 0) refl o.1.0 in
    (o.0, (x.0, o.1.1 ∙ x.1))
  where
    after : Run → Ticked
    after u = cond (eqb (lacking c u).number 0) (clean u) (undated s s.clock (lacking c u).place)

    by : (b : Bool) → eqb (lacking c (sourced c s).run).number 0 ≡ b
        → (cond b (clean (sourced c s).run) (undated s s.clock (lacking c (sourced c s).run).place)).outcome ≡ Clean
        → Silent (lacking c (sourced c s).run) × (cond b (clean (sourced c s).run) (undated s s.clock (lacking c (sourced c s).run).place) ≡ clean (sourced c s).run)
    by true e h = (eqb-true _ _ e, refl)
    by false e h = absurd (unclean_undated h)

-- what they leave in each of their three cases: an outcome of the source's step, 13 silent, and 13 of node i
module _ (c : Chain) (s : Run) where
  pub begun_over : ((sourced c s).outcome ≡ Clean → ⊥) → begun c s ≡ sourced c s
  unfolding begun
  begun_over n = onward_stops (sourced c s) _ n

  module _ (h : (sourced c s).outcome ≡ Clean) where
    dated_after : begun c s ≡ cond (eqb (lacking c (sourced c s).run).number 0) (clean (sourced c s).run) (undated s s.clock (lacking c (sourced c s).run).place)
    unfolding begun
    dated_after = onward_goes (sourced c s) _ h

    pub begun_silent : Silent (lacking c (sourced c s).run) → begun c s ≡ clean (sourced c s).run
    begun_silent z = dated_after ∙ simp (eq-eqb _ _ z)

    pub begun_undated : (i : ℕ) → lacking c (sourced c s).run ≡ refused 13 i → begun c s ≡ undated s s.clock i
    begun_undated i e = dated_after ∙ ap (λ (x : Refusal). cond (eqb x.number 0) (clean (sourced c s).run) (undated s s.clock x.place)) e

-- an outcome of the source's step leaves the state as it was, and so does 13
pub begun_stays : (c : Chain) (s : Run) → ((begun c s).outcome ≡ Clean → ⊥) → (begun c s).run ≡ s
unfolding begun onward
begun_stays c s = by (sourced c s).outcome (sourced c s).run _ (sourced_stays c s) (λ v. lacks v (eqb (lacking c v).number 0))
  where
    lacks : (v : Run) (b : Bool) → ((cond b (clean v) (undated s s.clock (lacking c v).place)).outcome ≡ Clean → ⊥) → (cond b (clean v) (undated s s.clock (lacking c v).place)).run ≡ s
    lacks v true n = absurd (n refl)
    lacks v false n = refl

    by : (o : Outcome) (u : Run) (f : Run → Ticked) → ((o ≡ Clean → ⊥) → u ≡ s) → ((v : Run) → ((f v).outcome ≡ Clean → ⊥) → (f v).run ≡ s) → ((goes o u f).outcome ≡ Clean → ⊥) → (goes o u f).run ≡ s
    by Clean u f stays next n = next u n
    by (Overflowed t q) u f stays next n = stays unclean_overflow
    by (NoDeadline t i) u f stays next n = stays unclean_undated

module _ (c : Chain) (s : Run) where
  -- the node that works is a node of the chain, and over threshold
  pub chosen_low : chosen c s ≤ c.n
  chosen_low = (chosen_best c s).low

  pub chosen_over : (j : ℕ) → chosen c s ≡ suc j → Over c s (suc j)
  chosen_over j e = (over_true c s (suc j)).0 (subst (λ (i : ℕ). over c s i ≡ true) e ((chosen_best c s).able_it (omega arith)))

-- which node's work is done
module _ (c : Chain) (s : Run) where
  pub ended_none : (m : ℕ) → ((j : ℕ) → j < m → done_at s j < work_of c j) → ended_in c s m ≡ 0
  unfolding ended_in
  ended_none zero h = refl
  ended_none (suc j) h = simp (lt-leb (work_of c j) (done_at s j) (h j (le_refl (suc j)))) (ended_none j (λ k l. h k (le_step l)))

  pub ended_one : (m j : ℕ) → j < m → work_of c j ≤ done_at s j → ((k : ℕ) → k < m → k ≢ j → done_at s k < work_of c k) → ended_in c s m ≡ suc j
  unfolding ended_in
  ended_one zero j l h others = absurd (omega arith)
  ended_one (suc k) j l h others = by_cases (ℕ_discrete k j)
      (λ e. simp (le-leb (work_of c k) (done_at s k) (rw e h)) (ap suc e))
      (λ ne. simp (lt-leb (work_of c k) (done_at s k) (others k (le_refl (suc k)) ne)) (ended_one k j (omega arith) h (λ i m. others i (le_step m))))

-- one tick of work of N_i leaves counts and contents as they were, and moves the clock
module _ (s : Run) where
  pub worked_counts : (i : ℕ) → (worked s i).counts ≡ s.counts
  unfolding worked
  worked_counts zero = refl
  worked_counts (suc j) = refl

  pub worked_held : (i : ℕ) → (worked s i).held ≡ s.held
  unfolding worked
  worked_held zero = refl
  worked_held (suc j) = refl

  pub worked_clock : (i : ℕ) → (worked s i).clock ≡ s.clock + 1
  unfolding worked
  worked_clock zero = refl
  worked_clock (suc j) = refl

  pub worked_other : (i j : ℕ) → i ≢ suc j → done_at (worked s i) j ≡ done_at s j
  unfolding worked
  worked_other zero j ne = refl
  worked_other (suc k) j ne = get_or-set_other s.done k j (done_at s k + 1) 0 (λ e. ne (ap suc (sym e)))

  pub worked_same : (j : ℕ) → j < length s.done → done_at (worked s (suc j)) j ≡ done_at s j + 1
  unfolding worked
  worked_same j l = get_or-set_same s.done j (done_at s j + 1) 0 l

  worked_deep : (i : ℕ) → length (worked s i).done ≡ length s.done
  unfolding worked
  worked_deep zero = refl
  worked_deep (suc j) = length-set s.done j (done_at s j + 1)

-- what a firing takes was there when its node was chosen, and its production fits where it did after the work
finish_over : (c : Chain) (u : Run) (j : ℕ) → Over c u (suc j) → Over c (with_done (worked u (suc j)) j 0) (suc j)
unfolding worked
finish_over c u j o = o

finish_room : (c : Chain) (u : Run) (j : ℕ) → cramped c (worked u (suc j)) (suc j) ≡ false → Room c (with_done (worked u (suc j)) j 0) (suc j)
finish_room c u j e = (cramped_room c (with_done (worked u (suc j)) j 0) (suc j)).0 (cramped_as c (worked u (suc j)) (with_done (worked u (suc j)) j 0) (suc j) refl ∙ e)

module _ {c : Chain} {u : Run} (f : Filled c u) where
  below_else : (i j : ℕ) → j < c.n → i ≢ suc j → done_at (worked u i) j < work_of c j
  below_else i j l ne = rw (worked_other u i j ne) (f.below j l)

  same_done : (j : ℕ) → j < c.n → done_at (worked u (suc j)) j ≡ done_at u j + 1
  same_done j l = worked_same u j (omega (arith, f.whole.done, f.chain.chain.count.1))

  -- a firing that is not finished: the work is kept, and nothing takes effect
  module _ (i : ℕ) (less : (j : ℕ) → j < c.n → i ≡ suc j → done_at u j + 1 < work_of c j) where
    below : (j : ℕ) → j < c.n → done_at (worked u i) j < work_of c j
    below j l = by_cases (ℕ_discrete i (suc j)) (λ e. rw (e, same_done j l) (less j l e)) (λ ne. below_else i j l ne)

    pub works_filled : Filled c (worked u i)
    works_filled = filled_as c u (worked u i) f (ap length (worked_counts u i) ∙ f.whole.counts) (worked_held u i) (worked_deep u i ∙ f.whole.done) below

    pub works_unended : ended c (worked u i) ≡ 0
    works_unended = ended_none c (worked u i) c.n below

    pub works_on : finished c (worked u i) ≡ clean (worked u i)
    unfolding finished finish
    works_on = ap (finish c (worked u i)) works_unended

  -- a firing that is finished takes effect, if it fits; its work is cleared before
  module _ (j : ℕ) (l : j < c.n) (all : done_at u j + 1 ≡ work_of c j) where
    pub works_ended : ended c (worked u (suc j)) ≡ suc j
    works_ended = ended_one c (worked u (suc j)) c.n j l (omega (arith, all, same_done j l)) (λ k m ne. below_else (suc j) k m (λ e. ne (omega arith)))

    pub works_ends : finished c (worked u (suc j)) ≡ finish c (worked u (suc j)) (suc j)
    unfolding finished
    works_ends = ap (finish c (worked u (suc j))) works_ended

    pub cleared_filled : Filled c (with_done (worked u (suc j)) j 0)
    cleared_filled =
        filled_as c u (with_done (worked u (suc j)) j 0) f (ap length (worked_counts u (suc j)) ∙ f.whole.counts) (worked_held u (suc j))
        (length-set (worked u (suc j)).done j 0 ∙ worked_deep u (suc j) ∙ f.whole.done) low
      where
        low : (k : ℕ) → k < c.n → done_at (with_done (worked u (suc j)) j 0) k < work_of c k
        low k m = by_cases (ℕ_discrete k j)
            (λ e. rw (e, get_or-set_same (worked u (suc j)).done j 0 0 (omega (arith, worked_deep u (suc j), f.whole.done, f.chain.chain.count.1))) (f.chain.chain.work j l).0)
            (λ ne. rw (get_or-set_other (worked u (suc j)).done j k 0 0 ne) (below_else (suc j) k m (λ e. ne (omega arith))))

-- its node may fire where its count can grow and its production fits
pub finish_may : (c : Chain) (u : Run) (j : ℕ) → j < c.n → Over c u (suc j) → count_at u (suc j) ≢ limit → cramped c (worked u (suc j)) (suc j) ≡ false
    → May c (with_done (worked u (suc j)) j 0) (suc j)
unfolding worked
finish_may c u j l o n e = record { node = l; countable = n; over = o; room = finish_room c u j e }

-- a state that passes 17 passes it with that work cleared
cleared_balanced : (c : Chain) (u : Run) (j : ℕ) → Balanced c u → Balanced c (with_done (worked u (suc j)) j 0)
cleared_balanced c u j = balanced_as c u (with_done (worked u (suc j)) j 0) (worked_counts u (suc j)) (worked_held u (suc j))

pub cleared_running : {c : Chain} {u : Run} → Running c u → (j : ℕ) → j < c.n → done_at u j + 1 ≡ work_of c j → Running c (with_done (worked u (suc j)) j 0)
cleared_running {c} {u} r j l all = filled_running (cleared_filled (running_filled r) j l all) (cleared_balanced c u j (running_balanced r))

-- the source's step and 13, and then the work of the node chosen and its effect
pub tick_begun : (c : Chain) (s : Run) → tick c s ≡ onward (begun c s) (λ u. finished c (worked u (chosen c u)))
unfolding tick advanced onward
tick_begun c s = onward_then (begun c s) (λ u. clean (worked u (chosen c u))) (finished c)

-- a tick that ends with the outcome of the source's step or of 13, and one that goes on
module _ (c : Chain) (s : Run) where
  pub tick_ends : ((begun c s).outcome ≡ Clean → ⊥) → tick c s ≡ begun c s
  tick_ends n = tick_begun c s ∙ onward_stops (begun c s) _ n

  pub tick_works : (begun c s).outcome ≡ Clean → tick c s ≡ finished c (worked (begun c s).run (chosen c (begun c s).run))
  tick_works e = tick_begun c s ∙ onward_goes (begun c s) _ e

-- its effect does not move the clock either, and changes the count of its node alone
module _ (c : Chain) (w : Run) where
  finish_clock : (i : ℕ) → (finish c w i).run.clock ≡ w.clock
  unfolding finish
  finish_clock zero = refl
  finish_clock (suc j) = finish_cases c w j (λ x. x.run.clock ≡ w.clock) (λ e. refl) (λ e. fired_clock c (with_done w j 0) (suc j))

  pub finished_clock : (finished c w).run.clock ≡ w.clock
  unfolding finished
  finished_clock = finish_clock (ended c w)

  pub finish_others : (i k : ℕ) → k ≢ i → count_at (finish c w i).run k ≡ count_at w k
  unfolding finish
  finish_others zero k n = refl
  finish_others (suc j) k n = finish_cases c w j (λ x. count_at x.run k ≡ count_at w k) (λ e. refl) (λ e. count_other c (with_done w j 0) (suc j) k n)

-- the effect of a firing then finished
module _ {c : Chain} {s u : Run} (k : SourceStep c s u) where
  -- counts that were not changed since the source's step
  unchanged : (w : Run) → w.counts ≡ u.counts → (i : ℕ) → count_at w i ≤ suc (count_at s i)
  unchanged w e zero = omega (arith, ap (λ (l : List ℕ). get_or l 0 0) e, k.source)
  unchanged w e (suc i) = omega (arith, ap (λ (l : List ℕ). get_or l (suc i) 0) e, k.others (suc i) (omega arith))

  -- nothing took effect
  rests : (i : ℕ) → Filled c (worked u i) → TickStep c s (worked u i)
  rests i f = record {
    filled = f;
    balanced = λ b. balanced_as c u (worked u i) (worked_counts u i) (worked_held u i) (k.balanced b);
    clock = worked_clock u i ∙ ap (λ (t : ℕ). t + 1) k.clock;
    counts = λ j l. unchanged (worked u i) (worked_counts u i) j;
  }

  module _ (j : ℕ) (l : j < c.n) (all : done_at u j + 1 ≡ work_of c j) (o : Over c u (suc j)) where
    fires_step : cramped c (worked u (suc j)) (suc j) ≡ false → TickStep c s (fired c (with_done (worked u (suc j)) j 0) (suc j))
    fires_step e =
        let v : Run = with_done (worked u (suc j)) j 0 in
        let other : count_at u (suc j) ≡ count_at s (suc j) = k.others (suc j) (omega arith) in
        let f : Filled c v = cleared_filled k.filled j l all in
        let over : Over c v (suc j) = finish_over c u j o in
        let room : Room c v (suc j) = finish_room c u j e in
        let once : count_at (fired c v (suc j)) (suc j) ≡ count_at v (suc j) + 1 = count_fired c v (suc j) (omega (arith, f.whole.counts, f.chain.chain.count.1)) in
        let same : count_at v (suc j) ≡ count_at u (suc j) = ap (λ (x : List ℕ). get_or x (suc j) 0) (worked_counts u (suc j)) in
        record {
          filled = fired_filled f (suc j) over room;
          balanced = λ b. fired_balanced f (suc j) over (cleared_balanced c u j (k.balanced b));
          clock = fired_clock c v (suc j) ∙ worked_clock u (suc j) ∙ ap (λ (t : ℕ). t + 1) k.clock;
          counts = λ i f. by_cases (ℕ_discrete i (suc j))
              (λ e. rw e (omega (arith, once, same, other)))
              (λ n. rw (count_other c v (suc j) i n) (unchanged v (worked_counts u (suc j)) i));
        }

    ends : (finish c (worked u (suc j)) (suc j)).outcome ≡ Clean → TickStep c s (finish c (worked u (suc j)) (suc j)).run
    ends = finish_cases c (worked u (suc j)) j (λ x. x.outcome ≡ Clean → TickStep c s x.run) (λ e h. absurd (unclean_overflow h)) (λ e h. fires_step e)

  -- the whole step of work, of the node that was chosen
  pub works_step : (i : ℕ) → i ≤ c.n → ((j : ℕ) → i ≡ suc j → Over c u (suc j)) → (finished c (worked u i)).outcome ≡ Clean → TickStep c s (finished c (worked u i)).run
  works_step zero low o h =
      let on : finished c (worked u 0) ≡ clean (worked u 0) = works_on k.filled 0 (λ j l e. absurd (omega arith)) in
      subst (λ (x : Ticked). TickStep c s x.run) (sym on) (rests 0 (works_filled k.filled 0 (λ j l e. absurd (omega arith))))
  works_step (suc j) low o h = by_cases (ℕ_discrete (done_at u j + 1) (work_of c j))
      (λ all.
      let e : finished c (worked u (suc j)) ≡ finish c (worked u (suc j)) (suc j) = works_ends k.filled j low all in
      subst (λ (x : Ticked). TickStep c s x.run) (sym e) (ends j low all (o j refl) (ap (λ (x : Ticked). x.outcome) (sym e) ∙ h)))
      (λ ne.
      let less : (m : ℕ) → m < c.n → suc j ≡ suc m → done_at u m + 1 < work_of c m =
      λ m f e. let z : j ≡ m = omega arith in subst (λ (x : ℕ). done_at u x + 1 < work_of c x) z (omega (arith, ne, k.filled.below j low)) in
      let on : finished c (worked u (suc j)) ≡ clean (worked u (suc j)) = works_on k.filled (suc j) less in
      subst (λ (x : Ticked). TickStep c s x.run) (sym on) (rests (suc j) (works_filled k.filled (suc j) less)))

-- the whole tick
pub tick_step : {c : Chain} {s : Run} → Filled c s → (tick c s).outcome ≡ Clean → TickStep c s (tick c s).run
tick_step {c} {s} f h =
    let o = onward_cases (begun c s) (λ u. finished c (worked u (chosen c u))) (ap (λ (x : Ticked). x.outcome) (sym (tick_begun c s)) ∙ h) in
    let b = begun_clean c s o.0 in
    let u : Run = (sourced c s).run in
    let e : tick c s ≡ finished c (worked u (chosen c u)) = tick_begun c s ∙ o.1.1 ∙ ap (λ (x : Ticked). finished c (worked x.run (chosen c x.run))) b.1.1 in
    let step : SourceStep c s u = sourced_clean f b.0 in
    subst (λ (x : Ticked). TickStep c s x.run) (sym e)
    (works_step step (chosen c u) (chosen_low c u) (chosen_over c u) (ap (λ (x : Ticked). x.outcome) (sym e) ∙ h))

pub tick_running : {c : Chain} {s : Run} → Running c s → (tick c s).outcome ≡ Clean → Running c (tick c s).run
tick_running r h = let k = tick_step (running_filled r) h in filled_running k.filled (k.balanced (running_balanced r))
