-- Laws of specs/Quiet.antt that rest on a definition which an edit of must-fail/ changes.
-- Ticks in which nothing but one node's work goes on (01, Firing): so many of them are one step.
--   worked_done                which one tick of work leaves
--   quiet, quiet_filled        k ticks in which the source is never due and N_i does not come to the end of its work, and what they keep
--   quiet_run                  so a run jumps over them
--   rests_until                the source is not due from a clock that y does not divide to the next that it does
use Rattle.std.specs.Prelude.{◌≡◌, refl, List, ℕ, zero, suc, ◌+◌, ◌/◌, ◌%◌, ◌≤◌, ◌<◌, length, get_or, set}
use Rattle.std.proofs.Common.{sym, ap, subst, ◌∙◌, add-zero, mod-eq_of_lt, arith, length-set, get_or-set_same, get_or-set_other, set-set}
use Rattle.std.proofs.Math.Logic.{by_cases}
use Rattle.std.specs.Int.{◌∣◌}
use Rattle.std.proofs.Math.Nat.{div-add-mod, mod-eq-zero_of_dvd}
use Rattle.std.proofs.Math.Decide.{ℕ_discrete}
use Rattle.std.proofs.lemmas.List.{set-get_or}
use Rattle.arith.specs.Division.{rest_of_sum}
use Rattle.chain.specs.Refusals.{Silent}
use Rattle.chain.specs.Record.{work_of}
use Rattle.chain.specs.declared.Chain.{Chain}
use Rattle.state.specs.State.{done_at}
use Rattle.state.specs.declared.Run.{Run}
use Rattle.instants.specs.Steps.{clean, onward, lacking, chosen, worked, ticks}
use Rattle.instants.specs.Runs.{onward_clean}
use Rattle.instants.proofs.RunsLaws.{ticks_none, ticks_suc, ticks_more}
use Rattle.instants.proofs.KeptLaws.{chosen_low, worked_counts, worked_held, worked_clock, worked_same, works_filled}
use Rattle.instants.specs.Filled.{Filled}
use Rattle.instants.proofs.FilledLaws.{filled_as, lacking_as, chosen_as}
use Rattle.instants.specs.Source.{Due}
use Rattle.instants.specs.declared.Ticked.{Ticked}
use Rattle.instants.specs.Quiet.{worked_in, worked_for}
use Rattle.instants.proofs.QuietTick.{quiet_tick}

-- one tick of work, as the definition of a tick has it
pub worked_done : (s : Run) (i : ℕ) → (worked s i).done ≡ worked_in s.done i 1
unfolding worked worked_in
worked_done s zero = refl
worked_done s (suc j) = refl

-- no tick of work, and one tick of work and then k
in_none : (e : List ℕ) (i : ℕ) → worked_in e i 0 ≡ e
unfolding worked_in
in_none e zero = refl
in_none e (suc j) = ap (set e j) (add-zero (get_or e j 0)) ∙ set-get_or e j 0

pub for_none : (s : Run) (i : ℕ) → worked_for s i 0 ≡ s
for_none s i = λ k. record { clock = add-zero s.clock k; counts = s.counts; held = s.held; done = in_none s.done i k }

in_more : (e : List ℕ) (i k : ℕ) → ((j : ℕ) → i ≡ suc j → j < length e) → worked_in (worked_in e i 1) i k ≡ worked_in e i (suc k)
unfolding worked_in
in_more e zero k l = refl
in_more e (suc j) k l = set-set e j (get_or e j 0 + 1) _ ∙ ap (set e j) (omega (arith, get_or-set_same e j (get_or e j 0 + 1) 0 (l j refl)))

for_more : (s : Run) (i k : ℕ) → ((j : ℕ) → i ≡ suc j → j < length s.done) → worked_for (worked s i) i k ≡ worked_for s i (suc k)
for_more s i k l = λ m. record { clock = time m; counts = worked_counts s i m; held = worked_held s i m; done = (ap (λ (e : List ℕ). worked_in e i k) (worked_done s i) ∙ in_more s.done i k l) m }
  where
    time : (worked s i).clock + k ≡ s.clock + suc k
    time = omega (arith, worked_clock s i)

-- k ticks in which the source is never due, no firing is finished, and N_i is the node that works: the clock is k later, its work k more, all else as it was
pub quiet : {c : Chain} (k : ℕ) {s : Run} → Filled c s → Silent (lacking c s) → (i : ℕ) → chosen c s ≡ i → ((m : ℕ) → m < k → c.period ∣ (s.clock + m) → ⊥)
    → ((j : ℕ) → i ≡ suc j → done_at s j + k < work_of c j) → ticks c k s ≡ clean (worked_for s i k)
quiet {c} zero {s} f z i w rests less = ticks_none c s ∙ ap clean (sym (for_none s i))
quiet {c} (suc k) {s} f z i w rests less =
    ticks_suc c k s
    ∙ ap (λ (x : Ticked). onward x (ticks c k)) (quiet_tick f z i w now once)
    ∙ onward_clean (worked s i) (ticks c k)
    ∙ quiet k (works_filled f i (λ j l e. once j e)) (subst Silent (sym (lacking_as c s (worked s i) (worked_counts s i) (worked_held s i))) z)
    i (chosen_as c s (worked s i) (worked_counts s i) (worked_held s i) ∙ w) later left
    ∙ ap clean (for_more s i k slot)
  where
    now : Due c s → ⊥
    now h = rests 0 (omega arith) (subst (λ (t : ℕ). c.period ∣ t) (sym (add-zero s.clock)) h)

    once : (j : ℕ) → i ≡ suc j → done_at s j + 1 < work_of c j
    once j e = omega (arith, less j e)

    slot : (j : ℕ) → i ≡ suc j → j < length s.done
    slot j e = omega (arith, f.whole.done, f.chain.chain.count.1, chosen_low c s, w, e)

    later : (m : ℕ) → m < k → c.period ∣ ((worked s i).clock + m) → ⊥
    later m l h = let e : (worked s i).clock + m ≡ s.clock + suc m = omega (arith, worked_clock s i) in rests (suc m) (omega arith) (subst (λ (t : ℕ). c.period ∣ t) e h)

    left : (j : ℕ) → i ≡ suc j → done_at (worked s i) j + k < work_of c j
    left j e = subst (λ (x : ℕ). done_at (worked s x) j + k < work_of c j) (sym e) (omega (arith, worked_same s j (slot j e), less j e))

-- so a run of k + T ticks is a run of T ticks from there
pub quiet_run : {c : Chain} (k T : ℕ) {s : Run} → Filled c s → Silent (lacking c s) → (i : ℕ) → chosen c s ≡ i → ((m : ℕ) → m < k → c.period ∣ (s.clock + m) → ⊥)
    → ((j : ℕ) → i ≡ suc j → done_at s j + k < work_of c j) → ticks c (k + T) s ≡ ticks c T (worked_for s i k)
quiet_run {c} k T {s} f z i w rests less =
    ticks_more c k T s ∙ ap (λ (x : Ticked). onward x (ticks c T)) (quiet k f z i w rests less) ∙ onward_clean (worked_for s i k) (ticks c T)

-- and the state after them is filled
pub quiet_filled : {c : Chain} {s : Run} (k : ℕ) → Filled c s → (i : ℕ) → ((j : ℕ) → i ≡ suc j → done_at s j + k < work_of c j) → Filled c (worked_for s i k)
unfolding worked_in
quiet_filled {c} {s} k f zero less = filled_as c s (worked_for s 0 k) f f.whole.counts refl f.whole.done f.below
quiet_filled {c} {s} k f (suc j) less = filled_as c s (worked_for s (suc j) k) f f.whole.counts refl (length-set s.done j _ ∙ f.whole.done) below
  where
    below : (m : ℕ) → m < c.n → done_at (worked_for s (suc j) k) m < work_of c m
    below m l = by_cases (ℕ_discrete m j)
        (λ e. rw (e, get_or-set_same s.done j (done_at s j + k) 0 (omega (arith, f.whole.done, f.chain.chain.count.1, l, e))) (less j refl))
        (λ ne. rw (get_or-set_other s.done j m (done_at s j + k) 0 ne) (f.below m l))

-- from a clock that leaves a remainder on division by y, the source is not due until that remainder and the ticks make y
pub rests_until : (y t k : ℕ) → 0 < t % y → t % y + k ≤ y → (m : ℕ) → m < k → y ∣ (t + m) → ⊥
rests_until y t k some l m h d =
    let e : (t + m) % y ≡ (t % y + m) % y = rest_of_sum (t + m) (t % y + m) y (t / y) (omega (arith, div-add-mod t y)) in
    let f : (t % y + m) % y ≡ t % y + m = mod-eq_of_lt (omega arith) in
    let z : (t + m) % y ≡ 0 = mod-eq-zero_of_dvd y d in
    omega (arith, e, f, z)
