-- The jump over quiet ticks: what its code asks and gives of the plan l and the work done e, and one law to each way in which it ends.
--   Unfinished l e i         the work of N_i, where there is one, is below its execution time
--   OneTickLeft l e i k      N_i has one tick of work left after k more
--   UnfinishedGives l e T i r
--                            r is the most of T ticks in which N_i works and does not finish its firing
--   unfinished_none, _left, _all
--                            no node works, the work that is left is less than T, and it is not; unfinished_below: its numbers fit
--   Quiets l e t U i         the ticks from t up to U are looked at
--   QuietGives l e t U i r   r is the most of them in which the source does not fire and N_i does not finish its firing
--   quiet_due, -none, _source, -all
--                            the source fires at t, no tick is left, the source fires first, and it does not; quiet_first: the last two together
--   JumpedGives l e t U i h r
--                            h has the work of so many ticks more, and r is the clock after them; jump_works: what that work asks
use Rattle.std.specs.Prelude.{◌≡◌, refl, ◌≢◌, ◌⊎◌, List, ℕ, suc, ◌+◌, ◌-◌, ◌*◌, ◌/◌, ◌%◌, ◌≤◌, ◌<◌, min, get_or}
use Rattle.std.proofs.Common.{ap, subst, ◌∙◌, inl, inr, ⊎_elim, add-zero, mod-lt, arith}
use Rattle.std.specs.Int.{◌∣◌}
use Rattle.std.proofs.Math.Logic.{by_cases}
use Rattle.std.proofs.Math.Decide.{dec_lt}
use Rattle.std.proofs.Math.Nat.{div-add-mod, dvd-mul_right, dvd_of_mod-eq-zero}
use Rattle.sizing.specs.Checks.{limit}
use Rattle.sizing.specs.Plan.{work_in, period_in}
use Rattle.instants.specs.Quiet.{worked_in}
use Rattle.instants.proofs.QuietLaws.{rests_until}
use Rattle.steps.specs.Lent.{WorkFits}

-- the work of N_i, where there is one, is below its execution time
pub record Unfinished (l e : List ℕ) (i : ℕ) : Type 0 where
  pub node : i ≤ 16
  pub less : (j : ℕ) → i ≡ suc j → get_or e j 0 < work_in l j

-- N_i has one tick of work left after k more
pub record OneTickLeft (l e : List ℕ) (i k : ℕ) : Type 0 where
  pub queue : ℕ
  pub is : i ≡ suc queue
  pub last : get_or e queue 0 + k + 1 ≡ work_in l queue

-- of T ticks the most in which N_i works and does not finish its firing
pub record UnfinishedGives (l e : List ℕ) (T i r : ℕ) : Type 0 where
  pub within : r ≤ T
  pub on : (j : ℕ) → i ≡ suc j → get_or e j 0 + r < work_in l j
  pub most : (r ≡ T) ⊎ OneTickLeft l e i r

pub unfinished_none : {l e : List ℕ} {T i : ℕ} → i ≡ 0 → UnfinishedGives l e T i T
unfinished_none z = record { within = omega arith; on = λ j h. absurd (omega arith); most = inl refl }

-- the work that is left before the last tick, which code counts from 0
module _ {l e : List ℕ} {i : ℕ} (a : Unfinished l e i) (some : i ≢ 0) where
  own : i ≡ suc (i - 1)
  own = omega arith

  pub unfinished_below : get_or e (i - 1) 0 < work_in l (i - 1)
  unfinished_below = a.less (i - 1) own

  on_for : (k : ℕ) → k ≤ work_in l (i - 1) - get_or e (i - 1) 0 - 1 → (j : ℕ) → i ≡ suc j → get_or e j 0 + k < work_in l j
  on_for k h j z = let here : j ≡ i - 1 = omega arith in rw here (omega (arith, h, unfinished_below))

  pub unfinished_left : {T : ℕ} → work_in l (i - 1) - get_or e (i - 1) 0 - 1 < T → UnfinishedGives l e T i (work_in l (i - 1) - get_or e (i - 1) 0 - 1)
  unfinished_left h = record {
    within = omega arith;
    on = on_for _ (omega arith);
    most = inr (record { queue = i - 1; is = own; last = omega (arith, unfinished_below) });
  }

  pub unfinished_all : {T : ℕ} → T ≤ work_in l (i - 1) - get_or e (i - 1) 0 - 1 → UnfinishedGives l e T i T
  unfinished_all {T} h = record { within = omega arith; on = on_for T h; most = inl refl }

-- what the code of the quiet ticks asks: the ticks from t up to U
pub record Quiets (l e : List ℕ) (t U i : ℕ) : Type 0 where
  pub work : Unfinished l e i
  pub short : (j : ℕ) → i ≡ suc j → work_in l j ≤ limit
  pub period : 0 < period_in l
  pub from : t ≤ U
  pub end : U ≤ limit

-- the most of them in which the source does not fire and N_i does not finish its firing: after them there is none, or the source fires, or N_i finishes it
pub record QuietGives (l e : List ℕ) (t U i r : ℕ) : Type 0 where
  pub within : t + r ≤ U
  pub rests : (m : ℕ) → m < r → period_in l ∣ (t + m) → ⊥
  pub on : (j : ℕ) → i ≡ suc j → get_or e j 0 + r < work_in l j
  pub most : ((t + r ≡ U) ⊎ (period_in l ∣ (t + r))) ⊎ OneTickLeft l e i r

module _ {l e : List ℕ} {t U i : ℕ} (a : Quiets l e t U i) where
  pub quiet_due : t % period_in l ≡ 0 → QuietGives l e t U i 0
  quiet_due z = record {
    within = omega (arith, a.from);
    rests = λ m h. absurd (omega arith);
    on = λ j h. omega (arith, a.work.less j h);
    most = inl (inr (dvd_of_mod-eq-zero (period_in l) (ap (λ (k : ℕ). k % period_in l) (add-zero t) ∙ z)));
  }

  module _ {k : ℕ} (w : UnfinishedGives l e (U - t) i k) where
    all_on : {r : ℕ} → r ≤ k → (j : ℕ) → i ≡ suc j → get_or e j 0 + r < work_in l j
    all_on h j z = omega (arith, w.on j z, h)

    -- they end with the ticks or with the work
    ends : ((t + k ≡ U) ⊎ (period_in l ∣ (t + k))) ⊎ OneTickLeft l e i k
    ends = ⊎_elim (λ z. inl (inl (omega (arith, a.from, z)))) inr w.most

    pub quiet_none : k ≡ 0 → QuietGives l e t U i 0
    quiet_none z = subst (QuietGives l e t U i) z (record { within = omega (arith, w.within, a.from); rests = λ m h. absurd (omega arith); on = w.on; most = ends })

    module _ (some : t % period_in l ≢ 0) where
      rest : t % period_in l < period_in l
      rest = mod-lt t a.period

      next : period_in l * (t / period_in l + 1) ≡ t + (period_in l - t % period_in l)
      next = omega (arith, div-add-mod t (period_in l), rest)

      pub quiet_source : period_in l - t % period_in l < k → QuietGives l e t U i (period_in l - t % period_in l)
      quiet_source h = record {
        within = omega (arith, w.within, a.from);
        rests = rests_until (period_in l) t _ (omega arith) (omega (arith, rest));
        on = all_on (omega arith);
        most = inl (inr (subst (λ (k : ℕ). period_in l ∣ k) next (dvd-mul_right (period_in l) (t / period_in l + 1))));
      }

      pub quiet_all : k ≤ period_in l - t % period_in l → QuietGives l e t U i k
      quiet_all h = record { within = omega (arith, w.within, a.from); rests = rests_until (period_in l) t k (omega arith) (omega (arith, rest)); on = w.on; most = ends }

      pub quiet_first : {r : ℕ} → r ≡ min k (period_in l - t % period_in l) → QuietGives l e t U i r
      quiet_first {r} e = by_cases (dec_lt (period_in l - t % period_in l) k)
          (λ h. let z : r ≡ period_in l - t % period_in l = omega arith in rw z (quiet_source h))
          (λ n. let z : r ≡ k = omega arith in rw z (quiet_all (omega arith)))

-- so many quiet ticks are worked, and r is the clock after them
pub record JumpedGives (l e : List ℕ) (t U i : ℕ) (h : List ℕ) (r : ℕ) : Type 0 where
  pub ticks : ℕ
  pub quiet : QuietGives l e t U i ticks
  pub done : h ≡ worked_in e i ticks
  pub clock : r ≡ t + ticks

-- what the work of them asks
pub jump_works : {l e : List ℕ} {t U i r : ℕ} → Quiets l e t U i → QuietGives l e t U i r → WorkFits e i r
jump_works a q = record { node = a.work.node; less = λ j z. omega (arith, q.on j z, a.short j z) }
