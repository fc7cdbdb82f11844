-- The firings of a deadline run are a permitted history (01, Firing, and demand 3).
--   tracing_none               nothing is said after an outcome that ends a run
--   replays_none, _one, _then  no firing, a firing that may be, and one trace after the other
use Rattle.std.specs.Prelude.{◌≡◌, true, false, eqb, leb}
use Rattle.std.proofs.Math.Path.{refl, ap, subst}
use Rattle.std.proofs.Common.{sym, ◌∙◌, le_refl, arith, leb-true}
use Rattle.std.proofs.Math.Bool.{Bool, cond}
use mathlib.Core.List.{List, [], ◌∷◌, ◌++◌, map-append}
use Prim.Native.Nat.{ℕ, zero, suc, ◌+◌, ◌≤◌, ◌<◌}
use Rattle.std.proofs.Math.Nat.{le_step}
use Rattle.std.proofs.Math.ListN.{replicate}
use Rattle.chain.specs.Record.{work_of}
use Rattle.chain.specs.declared.Chain.{Chain}
use Rattle.state.specs.State.{done_at, fresh_run, zeros}
use Rattle.state.specs.Fired.{fired, May}
use Rattle.state.specs.Checks.{cramped, StateSound}
use Rattle.state.proofs.FireLaws.{firing_is}
use Rattle.state.specs.declared.Run.{Run}
use Rattle.history.specs.History.{Entry, nodes, after, Permitted, after_append, EachFiring, each_append}
use Rattle.instants.specs.Checks.{longest}
use Rattle.instants.specs.Steps.{clean, overflowed, undated, onward, divides, sourced, lacking, begun}
use Rattle.instants.specs.Steps.{ended_in, finish}
use Rattle.instants.specs.Kept.{Countable, source_may}
use Rattle.instants.specs.Filled.{Running}
use Rattle.instants.specs.declared.Outcome.{Outcome}
use Rattle.instants.specs.declared.Outcome.TheVariants.{Clean, Overflowed, NoDeadline}
use Rattle.instants.specs.declared.Ticked.{Ticked}
use Rattle.traces.specs.Trace.{tracing, source_entry, finish_entry, resting, Replays}

-- nothing is said after an outcome that ends a run
pub tracing_none : (o : Outcome) (s : Run) (f : Run → List Entry) → (o ≡ Clean → ⊥) → tracing o s f ≡ []
unfolding tracing
tracing_none Clean s f n = absurd (n refl)
tracing_none (Overflowed t q) s f n = refl
tracing_none (NoDeadline t i) s f n = refl

-- a state that passes 17 passes it at rest
resting_sound : {c : Chain} {s : Run} → Running c s → StateSound c (resting s)
resting_sound r j l = ((r.state j l).0, omega (arith, zeros 16 j, (r.chain.chain.work j l).0))

-- and a node that may fire may fire there
resting_may : {c : Chain} {s : Run} (i : ℕ) → May c s i → May c (resting s) i
resting_may zero m = record { node = m.node; countable = m.countable; over = tt; room = m.room }
resting_may (suc j) m = record { node = m.node; countable = m.countable; over = m.over; room = m.room }

module _ (c : Chain) (s : Run) where
  -- no firing, between states with the same counts and contents
  pub replays_none : (t : Run) → s.counts ≡ t.counts → s.held ≡ t.held → Replays c s [] t
  unfolding EachFiring after
  replays_none t a h = (tt, λ i. record { clock = 0; counts = a i; held = h i; done = replicate 16 0 })

  -- one firing, which may be
  pub replays_one : Running c s → (t i : ℕ) → May c s i → Replays c s ((t, i) ∷ []) (fired c s i)
  unfolding EachFiring after fired
  replays_one r t i m = (((firing_is c (resting s) i).1 (record { chain = r.chain; state = resting_sound r; may = resting_may i m }), tt), refl)

  -- one trace and then another
  pub replays_then : (t u : Run) (g h : List Entry) → Replays c s g t → Replays c t h u → Replays c s (g ++ h) u
  replays_then t u g h a b =
      subst (λ (x : List ℕ). Permitted c (resting s) x × (after c (resting s) x ≡ resting u)) (sym (map-append (λ (e : Entry). e.1) g h)) (
        each_append c _ (resting s) (nodes g) (nodes h) a.0 (subst (λ (x : Run). Permitted c x (nodes h)) (sym a.1) b.0),
        after_append c (resting s) (nodes g) (nodes h) ∙ ap (λ (x : Run). after c x (nodes h)) a.1 ∙ b.1,
      )

-- what 13 makes of a state that the source's step left clean
abbrev pub dates : Chain → Run → Run → Ticked
dates c s u = cond (eqb (lacking c u).number 0) (clean u) (undated s s.clock (lacking c u).place)

-- the source's step and 13, whatever they leave
module _ {c : Chain} {s : Run} (r : Running c s) (some : Countable c s) where
  -- 13 takes back what the source's step did
  pub dated : (u : Run) (h : List Entry) → Replays c s h u → Replays c s (tracing (dates c s u).outcome s (λ v. h)) (dates c s u).run
  unfolding tracing
  dated u h k = by (eqb (lacking c u).number 0)
    where
      step : Bool → Ticked
      step b = cond b (clean u) (undated s s.clock (lacking c u).place)

      by : (b : Bool) → Replays c s (tracing (step b).outcome s (λ v. h)) (step b).run
      by true = k
      by false = replays_none c s s refl refl

  -- the source's firing is in the trace where it is in the state
  pub begun_traced : Replays c s (tracing (begun c s).outcome s (λ u. source_entry c s)) (begun c s).run
  unfolding begun sourced source_entry tracing
  begun_traced = by (divides c.period s.clock) (cramped c s 0) refl
    where
      step : Bool → Bool → Ticked
      step d x = onward (cond d (cond x (overflowed s s.clock 0) (clean (fired c s 0))) (clean s)) (dates c s)

      by : (d x : Bool) → cramped c s 0 ≡ x → Replays c s (tracing (step d x).outcome s (λ u. cond d ((s.clock, 0) ∷ []) [])) (step d x).run
      by true true e = replays_none c s s refl refl
      by true false e = dated (fired c s 0) ((s.clock, 0) ∷ []) (replays_one c s r s.clock 0 (source_may c s (some 0 (omega arith)) e))
      by false x e = dated s [] (replays_none c s s refl refl)

-- a node whose work is done is one of the chain's
pub ended_found : (c : Chain) (s : Run) (m j : ℕ) → ended_in c s m ≡ suc j → (j < m) × (work_of c j ≤ done_at s j)
unfolding ended_in
ended_found c s zero j h = absurd (omega arith)
ended_found c s (suc k) j h = by (leb (work_of c k) (done_at s k)) refl (ended_found c s k j) h
  where
    by : (b : Bool) → leb (work_of c k) (done_at s k) ≡ b → (ended_in c s k ≡ suc j → (j < k) × (work_of c j ≤ done_at s j))
        → cond b (suc k) (ended_in c s k) ≡ suc j → (j < suc k) × (work_of c j ≤ done_at s j)
    by true e before h = let z : k ≡ j = omega arith in subst (λ (x : ℕ). (x < suc k) × (work_of c x ≤ done_at s x)) z (le_refl (suc k), leb-true _ _ e)
    by false e before h = let f = before h in (le_step f.0, f.1)

-- the trace of a firing of N_i that is finished in s, or of none, leads to what it leaves
abbrev pub Effected : Chain → Run → ℕ → Type 0
Effected c s i = Replays c s (tracing (finish c s i).outcome s (λ u. finish_entry s i)) (finish c s i).run

-- a fresh start is at rest, at clock 0
pub fresh_resting : (c : Chain) → resting (fresh_run c) ≡ fresh_run c
unfolding fresh_run
fresh_resting c = refl

pub fresh_clock : (c : Chain) (T : ℕ) → T ≤ longest → (fresh_run c).clock + T ≤ longest
unfolding fresh_run
fresh_clock c T l = omega arith
