-- Laws of specs/Exactly.antt that rest on a definition which an edit of must-fail/ changes.
-- One tick as a relation (01, Firing): what it ends with and what it leaves, and that it is the only one that fits.
--   one_overflows, _lacks, _cleans
--                              such an x is overflowed exactly where the source is due and does not fit, ends with 13 exactly where a node lacks its deadline, and
--                              is clean exactly elsewhere
--   one_stays, one_leaves      an overflow and 13 leave the state as it was, and a clean one leaves what TickOnce says
--   clean_only, one_tick_only  of any chain and state there is at most one such x
--   is_one, tick_exactly       of a chain that passes 8 and a state that passes 17 the tick is that one
--   finish_never_spills        so an overflow of a tick is the source's, at the tick's own clock
--   ticks_to_only              there is at most one such x
--   ticks_exactly              so many ticks end with that
--   ticks_never_spill, run_never_spills
--                              so an overflow of them, and of a deadline run, is at queue 0
use Rattle.std.specs.Prelude.{◌≡◌, refl, ◌↔◌}
use Rattle.std.proofs.Common.{sym, ◌∙◌, arith}
use Rattle.std.proofs.Math.Path.{ap, subst}
use Rattle.std.proofs.Math.Logic.{inl, inr, ⊎_elim}
use Prim.Native.Nat.{ℕ, zero, suc, ◌<◌}
use Rattle.chain.specs.declared.Chain.{Chain}
use Rattle.sizing.specs.Checks.{Enough}
use Rattle.sizing.specs.Accepted.{Accepted}
use Rattle.state.specs.State.{fresh_run}
use Rattle.state.specs.declared.Run.{Run}
use Rattle.instants.specs.Steps.{tick_of, at_of, overflowed, undated, onward, chosen, tick, ticks, instants}
use Rattle.instants.specs.Runs.{unclean_overflow, unclean_undated, overflow_undated}
use Rattle.instants.proofs.RunsLaws.{ticks_none, ticks_suc}
use Rattle.instants.proofs.KeptLaws.{tick_running}
use Rattle.instants.specs.Filled.{Running}
use Rattle.instants.proofs.FilledLaws.{running_filled}
use Rattle.instants.proofs.FreshLaws.{fresh_running, run_is_ticks}
use Rattle.instants.specs.Lacking.{FirstLacking}
use Rattle.instants.proofs.SpillLaws.{finish_fits}
use Rattle.instants.specs.Source.{SourceOnce}
use Rattle.instants.proofs.SourceLaws.{source_only}
use Rattle.instants.proofs.OutcomesLaws.{lacking_once, lacking_dated, tick_three}
use Rattle.instants.specs.Once.{Works, WorkOnce, work_only, TickOnce}
use Rattle.instants.proofs.OnceLaws.{works_is, work_once}
use Rattle.instants.specs.declared.Outcome.TheVariants.{Clean, Overflowed, NoDeadline}
use Rattle.instants.specs.declared.Ticked.{Ticked}
use Rattle.instants.specs.Exactly.{Spills, Lacks, Stopped, Cleaned, OneTick, TicksTo}

-- a state is left by one clean tick in one way only
pub clean_only : {c : Chain} {s : Run} (t v : Run) → TickOnce c s t → TickOnce c s v → t ≡ v
clean_only {c} {s} t v a b =
    let e : a.after ≡ b.after = source_only a.after b.after a.source b.source in
    let f : a.worker ≡ b.worker = sym ((works_is c b.after a.worker).1 (subst (λ (x : Run). Works c x a.worker) e a.works)) ∙ (works_is c b.after b.worker).1 b.works in
    work_only (subst (λ (i : ℕ). WorkOnce c b.after i t) f (subst (λ (x : Run). WorkOnce c x a.worker t) e a.work)) b.work

-- the three exclude each other, whatever they end with
module _ {c : Chain} {s : Run} where
  spill_lack : {i : ℕ} → Spills c s → Lacks c s i → ⊥
  spill_lack a b = omega (arith, a.1, b.fits a.0)

  spill_clean : {t : Run} → Spills c s → TickOnce c s t → ⊥
  spill_clean a b = omega (arith, a.1, b.fits a.0)

  lacks_in : {i : ℕ} {u : Run} → Lacks c s i → SourceOnce c s u → FirstLacking c u i
  lacks_in {i} {u} a o = subst (λ (v : Run). FirstLacking c v i) (source_only a.after u a.source o) a.first

  lack_clean : {i : ℕ} {t : Run} → Lacks c s i → TickOnce c s t → ⊥
  lack_clean {i} a b = lacking_dated c b.after i (lacks_in a b.source) b.dated

  lacks_once : (i j : ℕ) → Lacks c s i → Lacks c s j → i ≡ j
  lacks_once i j a b = lacking_once c b.after i j (lacks_in a b.source) b.first

  stop_clean : {x : Ticked} {t : Run} → Stopped c s x → TickOnce c s t → ⊥
  stop_clean h k = ⊎_elim (λ a. spill_clean a.spills k) (λ a. lack_clean a.lacks k) h

  stopped_only : {x y : Ticked} → Stopped c s x → Stopped c s y → x ≡ y
  stopped_only = ⊎_elim
      (λ a. ⊎_elim (λ b. a.is ∙ sym b.is) (λ b. absurd (spill_lack a.spills b.lacks)))
      (λ a. ⊎_elim (λ b. absurd (spill_lack b.spills a.lacks)) (λ b. a.is ∙ ap (undated s s.clock) (lacks_once a.node b.node a.lacks b.lacks) ∙ sym b.is))

-- and each determines what it leaves
pub one_tick_only : {c : Chain} {s : Run} (x y : Ticked) → OneTick c s x → OneTick c s y → x ≡ y
one_tick_only {c} {s} x y = ⊎_elim
    (λ a. ⊎_elim (λ b. stopped_only a b) (λ b. absurd (stop_clean a b.tick)))
    (λ a. ⊎_elim (λ b. absurd (stop_clean b a.tick)) (λ b. both a b))
  where
    both : Cleaned c s x → Cleaned c s y → x ≡ y
    both a b = λ i. record { outcome = (a.is ∙ sym b.is) i; run = clean_only x.run y.run a.tick b.tick i }

-- what one tick ends with
module _ {c : Chain} {s : Run} {x : Ticked} (h : OneTick c s x) where
  three : (P : Ticked → Type 0) → (Spills c s → P (overflowed s s.clock 0)) → ((i : ℕ) → Lacks c s i → P (undated s s.clock i)) → (x.outcome ≡ Clean → TickOnce c s x.run → P x) → P x
  three P spills lacks cleans = ⊎_elim (⊎_elim (λ a. subst P (sym a.is) (spills a.spills)) (λ a. subst P (sym a.is) (lacks a.node a.lacks))) (λ a. cleans a.is a.tick) h

  -- "overflowed at (tick, queue)"
  pub one_overflows : (t q : ℕ) → (x.outcome ≡ Overflowed t q) ↔ (((t ≡ s.clock) × (q ≡ 0)) × Spills c s)
  one_overflows t q = three (λ y. (y.outcome ≡ Overflowed t q) ↔ (((t ≡ s.clock) × (q ≡ 0)) × Spills c s))
      (λ a. (λ e. ((ap tick_of (sym e), ap at_of (sym e)), a), λ k m. Overflowed (sym k.0.0 m) (sym k.0.1 m)))
      (λ i a. (λ e. absurd (overflow_undated (sym e)), λ k. absurd (spill_lack k.1 a)))
      (λ z a. (λ e. absurd (unclean_overflow (sym e ∙ z)), λ k. absurd (spill_clean k.1 a)))

  -- "with 13 at the first instant when .., place the lowest such over-threshold node"
  pub one_lacks : (t i : ℕ) → (x.outcome ≡ NoDeadline t i) ↔ ((t ≡ s.clock) × Lacks c s i)
  one_lacks t i = three (λ y. (y.outcome ≡ NoDeadline t i) ↔ ((t ≡ s.clock) × Lacks c s i))
      (λ a. (λ e. absurd (overflow_undated e), λ k. absurd (spill_lack a k.1)))
      (λ j a. (λ e. (ap tick_of (sym e), subst (Lacks c s) (ap at_of e) a), λ k m. NoDeadline (sym k.0 m) (lacks_once j i a k.1 m)))
      (λ z a. (λ e. absurd (unclean_undated (sym e ∙ z)), λ k. absurd (lack_clean k.1 a)))

  -- "it ends clean": exactly otherwise
  pub one_cleans : (x.outcome ≡ Clean) ↔ ((Spills c s → ⊥) × ((i : ℕ) → Lacks c s i → ⊥))
  one_cleans = three (λ y. (y.outcome ≡ Clean) ↔ ((Spills c s → ⊥) × ((i : ℕ) → Lacks c s i → ⊥)))
      (λ a. (λ e. absurd (unclean_overflow e), λ k. absurd (k.0 a)))
      (λ i a. (λ e. absurd (unclean_undated e), λ k. absurd (k.1 i a)))
      (λ z a. (λ e. (λ b. spill_clean b a, λ i b. lack_clean b a), λ k. z))

  -- an overflow and 13 leave the state as it was
  pub one_stays : (x.outcome ≡ Clean → ⊥) → x.run ≡ s
  one_stays = three (λ y. (y.outcome ≡ Clean → ⊥) → y.run ≡ s) (λ a n. refl) (λ i a n. refl) (λ z a n. absurd (n z))

  -- and a clean tick leaves what is said
  pub one_leaves : x.outcome ≡ Clean → TickOnce c s x.run
  one_leaves = three (λ y. y.outcome ≡ Clean → TickOnce c s y.run) (λ a e. absurd (unclean_overflow e)) (λ i a e. absurd (unclean_undated e)) (λ z a e. a)

module _ {c : Chain} (enough : (j : ℕ) → j < c.n → Enough c j) {s : Run} (r : Running c s) where
  pub is_one : OneTick c s (tick c s)
  is_one = tick_three r (OneTick c s)
      (λ d f. inl (inl (record { is = refl; spills = (d, f) })))
      (λ u i fits o l. inl (inr (record { node = i; is = refl; lacks = record { after = u; fits = fits; source = o; first = l } })))
      (λ u fits o k d.
      let w : Works c u (chosen c u) = (works_is c u (chosen c u)).0 refl in
      inr (record {
        is = finish_fits k enough;
        tick = record { after = u; worker = chosen c u; fits = fits; source = o; dated = d; works = w; work = work_once (running_filled k) (chosen c u) w.node w.over (finish_fits k enough) };
      }))

  -- "one tick at clock t": what holds of one, and of nothing else
  pub tick_exactly : (x : Ticked) → (tick c s ≡ x) ↔ OneTick c s x
  tick_exactly x = (λ e. subst (OneTick c s) e is_one, λ h. one_tick_only (tick c s) x is_one h)

  -- no firing that is finished overflows: "overflowed at (tick, queue)" is at the tick's own clock, and the queue is the source's
  pub finish_never_spills : (t q : ℕ) → (tick c s).outcome ≡ Overflowed t q → (t ≡ s.clock) × (q ≡ 0)
  finish_never_spills t q e = ((one_overflows is_one t q).0 e).0

pub ticks_to_only : (c : Chain) (T : ℕ) (s : Run) (x y : Ticked) → TicksTo c T s x → TicksTo c T s y → x ≡ y
unfolding TicksTo
ticks_to_only c zero s x y = λ a b. a ∙ sym b
ticks_to_only c (suc T) s x y = ⊎_elim
    (λ a. ⊎_elim (λ b. stopped_only a b) (λ b. absurd (stop_clean a b.tick)))
    (λ a. ⊎_elim (λ b. absurd (stop_clean b a.tick))
    (λ b. ticks_to_only c T a.next x y a.holds (subst (λ (t : Run). TicksTo c T t y) (clean_only b.next a.next b.tick a.tick) b.holds)))

-- an overflow of so many ticks is at queue 0
to_queue_0 : (c : Chain) (T : ℕ) (s : Run) (x : Ticked) (t q : ℕ) → x.outcome ≡ Overflowed t q → TicksTo c T s x → q ≡ 0
unfolding TicksTo
to_queue_0 c zero s x t q e = λ h. absurd (unclean_overflow (sym e ∙ ap (λ (y : Ticked). y.outcome) h))
to_queue_0 c (suc T) s x t q e = ⊎_elim (λ a. ((one_overflows (inl a) t q).0 e).0.1) (λ a. to_queue_0 c T a.next x t q e a.holds)

module _ {c : Chain} (enough : (j : ℕ) → j < c.n → Enough c j) where
  is_many : (T : ℕ) {s : Run} → Running c s → TicksTo c T s (ticks c T s)
  unfolding TicksTo onward
  is_many zero {s} r = ticks_none c s
  is_many (suc T) {s} r = ⊎_elim
      (⊎_elim (λ a. inl (inl (record { is = goes_on a.is; spills = a.spills }))) (λ a. inl (inr (record { node = a.node; is = goes_on a.is; lacks = a.lacks }))))
      (λ a. inr (record {
        next = (tick c s).run;
        tick = a.tick;
        holds = subst (TicksTo c T (tick c s).run) (sym (goes_on (λ i. record { outcome = a.is i; run = (tick c s).run }))) (is_many T (tick_running r a.is));
      }))
      (is_one enough r)
    where
      goes_on : {x : Ticked} → tick c s ≡ x → ticks c (suc T) s ≡ onward x (ticks c T)
      goes_on e = ticks_suc c T s ∙ ap (λ (x : Ticked). onward x (ticks c T)) e

  -- so many ticks end with what is said, and with nothing else
  pub ticks_exactly : (T : ℕ) {s : Run} → Running c s → (x : Ticked) → (ticks c T s ≡ x) ↔ TicksTo c T s x
  ticks_exactly T {s} r x = (λ e. subst (TicksTo c T s) e (is_many T r), λ h. ticks_to_only c T s (ticks c T s) x (is_many T r) h)

  -- so an overflow of them is at queue 0, and of a deadline run
  pub ticks_never_spill : (T : ℕ) {s : Run} → Running c s → (t q : ℕ) → (ticks c T s).outcome ≡ Overflowed t q → q ≡ 0
  ticks_never_spill T {s} r t q e = to_queue_0 c T s (ticks c T s) t q e (is_many T r)

  pub run_never_spills : Accepted c → (T t q : ℕ) → (instants c T (fresh_run c)).outcome ≡ Overflowed t q → q ≡ 0
  run_never_spills a T t q e = ticks_never_spill T (fresh_running a) t q (ap (λ (x : Ticked). x.outcome) (sym (run_is_ticks a T)) ∙ e)
