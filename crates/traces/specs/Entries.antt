-- The instants of a trace, node by node, and what they are in a deadline run that is clean (01, Firing).
--   instants_of i h            the instants at which N_i stands in h, in order
--   instants_append            those of one trace and then another
--   instants_times             N_i has as many of them as it stands in h
--   entries_of c T i           those of a run of T ticks from a fresh start
--   FiredAt c T j k t          t is the instant, T or earlier, at which N_(j+1)'s count goes from k to k+1, with no work done of its next firing
-- What is named here and not declared stands in proofs/EntriesLaws.antt.
use Rattle.std.specs.Prelude.{◌≡◌, ◌≢◌, ◌⊎◌, Bool, true, false, cond, eqb, length, get_or}
use Rattle.std.proofs.Math.Path.{refl, ap, subst}
use Rattle.std.proofs.Common.{◌∙◌, inr, arith, eq-eqb, ne_eqb}
use Rattle.std.proofs.Math.Logic.{inl, ⊎_elim}
use mathlib.Core.List.{List, [], ◌∷◌, ◌++◌, append-nil}
use Prim.Native.Nat.{ℕ, zero, suc, ◌+◌, ◌*◌, ◌≤◌, ◌<◌}
use Rattle.chain.specs.declared.Chain.{Chain}
use Rattle.state.specs.State.{count_at, done_at, fresh_run}
use Rattle.state.specs.declared.Run.{Run}
use Rattle.history.specs.History.{Entry, nodes, times}
use Rattle.instants.specs.Checks.{deadline_run_answer}
use Rattle.instants.specs.Answers.{CleanStep}
use Rattle.instants.specs.declared.Outcome.{Outcome}
use Rattle.instants.specs.declared.Outcome.TheVariants.{Clean, Overflowed, NoDeadline}
use Rattle.traces.specs.Trace.{tracing, trace}

-- the instants at which N_i stands in a trace, in order
unfoldable pub instants_of : ℕ → List Entry → List ℕ
instants_of i [] = []
instants_of i (e ∷ h) = cond (eqb e.1 i) (e.0 ∷ instants_of i h) (instants_of i h)

-- a firing of N_i, and one of another node
pub instants_own : (i t : ℕ) (h : List Entry) → instants_of i ((t, i) ∷ h) ≡ t ∷ instants_of i h
unfolding instants_of
instants_own i t h = simp (eq-eqb i i refl)

pub instants_other : (i m t : ℕ) (h : List Entry) → m ≢ i → instants_of i ((t, m) ∷ h) ≡ instants_of i h
unfolding instants_of
instants_other i m t h n = simp (ne_eqb m i n)

-- one trace and then another
pub instants_append : (i : ℕ) (g h : List Entry) → instants_of i (g ++ h) ≡ instants_of i g ++ instants_of i h
unfolding instants_of
instants_append i [] h = refl
instants_append i (e ∷ g) h = by (eqb e.1 i) (instants_append i g h)
  where
    by : (b : Bool) → instants_of i (g ++ h) ≡ instants_of i g ++ instants_of i h
        → cond b (e.0 ∷ instants_of i (g ++ h)) (instants_of i (g ++ h)) ≡ cond b (e.0 ∷ instants_of i g) (instants_of i g) ++ instants_of i h
    by true same = ap (λ (l : List ℕ). e.0 ∷ l) same
    by false same = same

-- as many as N_i stands in it
pub instants_times : (i : ℕ) (h : List Entry) → length (instants_of i h) ≡ times i (nodes h)
unfolding instants_of times
instants_times i [] = refl
instants_times i (e ∷ h) = by (eqb e.1 i) (instants_times i h)
  where
    by : (b : Bool) → length (instants_of i h) ≡ times i (nodes h) → length (cond b (e.0 ∷ instants_of i h) (instants_of i h)) ≡ cond b (suc (times i (nodes h))) (times i (nodes h))
    by true same = ap suc same
    by false same = same

-- there are entries, or none
pub tracing_cases : (o : Outcome) (s : Run) (f : Run → List Entry) (P : List Entry → Type 0) → P [] → (o ≡ Clean → P (f s)) → P (tracing o s f)
unfolding tracing
tracing_cases Clean s f P none some = some refl
tracing_cases (Overflowed t q) s f P none some = none
tracing_cases (NoDeadline t i) s f P none some = none

-- when a firing of N_i takes effect in a tick at t: the source's at t, any other at t+1
abbrev pub when : ℕ → ℕ → ℕ
when zero t = t
when (suc j) t = suc t

-- t alone, or nothing
abbrev pub AtMost : List ℕ → ℕ → Type 0
AtMost l t = (l ≡ []) ⊎ (l ≡ t ∷ [])

-- t more at the end, or nothing more
abbrev pub More : List ℕ → List ℕ → ℕ → Type 0
More l m t = (m ≡ l) ⊎ (m ≡ l ++ (t ∷ []))

pub at_end : (l m : List ℕ) (t : ℕ) → AtMost m t → More l (l ++ m) t
at_end l m t = ⊎_elim (λ e. inl (ap (λ (n : List ℕ). l ++ n) e ∙ append-nil l)) (λ e. inr (ap (λ (n : List ℕ). l ++ n) e))

-- the instants at which N_i's firings take effect in a run of T ticks from a fresh start
abbrev pub entries_of : Chain → ℕ → ℕ → List ℕ
entries_of c T i = instants_of i (trace c T (fresh_run c))

-- one clean tick of a run, at t
abbrev pub Step : Chain → ℕ → Type 0
Step c t = CleanStep c t (deadline_run_answer c t).run (deadline_run_answer c (suc t)).run

-- N_i has one more instant and its count is one more, or neither
abbrev pub Grows : Chain → ℕ → ℕ → Type 0
Grows c i t =
    ((entries_of c (suc t) i ≡ entries_of c t i) × (count_at (deadline_run_answer c (suc t)).run i ≡ count_at (deadline_run_answer c t).run i))
    ⊎ ((entries_of c (suc t) i ≡ entries_of c t i ++ (when i t ∷ [])) × (count_at (deadline_run_answer c (suc t)).run i ≡ suc (count_at (deadline_run_answer c t).run i)))

-- t is T or earlier; at the instant before it N_(j+1)'s count is k, at t it is k+1, and then no work is done of its next firing
pub record FiredAt (c : Chain) (T j k t : ℕ) : Type 0 where
  pub before : ℕ
  pub is : t ≡ suc before
  pub within : before < T
  pub was : count_at (deadline_run_answer c before).run (suc j) ≡ k
  pub count : count_at (deadline_run_answer c t).run (suc j) ≡ suc k
  pub done : done_at (deadline_run_answer c t).run j ≡ 0

-- work that grew by one tick at most, and to one firing more, is none of the next
pub cleared : (e N M d d' : ℕ) → e * M + d' ≤ e * N + d + 1 → d < e → M ≡ suc N → d' ≡ 0
cleared e N M d d' h l q = omega (arith, subst (λ (m : ℕ). e * m + d' ≤ e * N + d + 1) q h)

-- a deadline run that is not refused, and is clean
module _ (c : Chain) (T : ℕ) (ok : (deadline_run_answer c T).number ≡ 0) (z : (deadline_run_answer c T).outcome ≡ Clean) where
  module _ (j : ℕ) (f : j < c.n) where
    -- the k-th of some instants is the one at which the count becomes k+1, and so with one more
    abbrev pub AllFired : List ℕ → Type 0
    AllFired l = (k : ℕ) → k < length l → FiredAt c T j k (get_or l k 0)
