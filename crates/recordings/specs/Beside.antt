-- A recording run beside the deadline run (02, Item 2), of any accepted chain, its capacities at or above the minimum or below.
--   begun_spills               13 is no overflow
--   spilled, tick_spilled      where the source's production does not fit, the deadline tick ends with that
--   TakenBack, NextLoss        13 has taken back what the source's step lost; the next entry is that of a loss at t and queue q
--   TakenBackThen c T s l      the deadline run overflows where 13 has taken back the loss
-- What is named here and not declared stands in proofs/BesideLaws.antt.
use Rattle.std.specs.Prelude.{◌≡◌, Bool, eqb}
use Rattle.std.proofs.Math.Path.{refl, ap}
use Rattle.std.proofs.Common.{sym, ◌∙◌, arith}
use Rattle.std.proofs.Math.Bool.{true, false, cond}
use Prim.Native.Nat.{ℕ, ◌<◌}
use Rattle.chain.specs.Record.{row_of}
use Rattle.chain.specs.declared.Chain.{Chain}
use Rattle.state.specs.declared.Run.{Run}
use Rattle.instants.specs.Steps.{clean, overflowed, undated, sourced, lacking, begun, tick, ticks}
use Rattle.instants.specs.Runs.{unclean_overflow, overflow_undated, onward_goes}
use Rattle.instants.proofs.KeptLaws.{source_cases, begun_clean, begun_over, tick_ends}
use Rattle.instants.specs.declared.Outcome.TheVariants as plain
use Rattle.instants.specs.declared.Ticked.{Ticked}
use Rattle.losses.specs.Losses.{loss, entry_at, noted, Listed, Extends}
use Rattle.losses.proofs.LossesLaws.{is_noted}
use Rattle.losses.specs.declared.Losses.{Losses}
use Rattle.recordings.specs.Steps.{rec_clean, rec_undated, rec_ticks}
use Rattle.recordings.specs.declared.Recorded.{Recorded}

-- 13 is no overflow
pub begun_spills : (c : Chain) (s : Run) {t q : ℕ} → (begun c s).outcome ≡ plain.Overflowed t q → (sourced c s).outcome ≡ plain.Clean → ⊥
unfolding begun
begun_spills c s {t} {q} e z = by (eqb (lacking c (sourced c s).run).number 0) (ap (λ (x : Ticked). x.outcome) (sym (onward_goes (sourced c s) _ z)) ∙ e)
  where
    by : (b : Bool) → (cond b (clean (sourced c s).run) (undated s s.clock (lacking c (sourced c s).run).place)).outcome ≡ plain.Overflowed t q → ⊥
    by true h = unclean_overflow (sym h)
    by false h = overflow_undated (sym h)

-- the source's overflow ends the tick of the deadline run
module _ (c : Chain) (s : Run) (n : (sourced c s).outcome ≡ plain.Clean → ⊥) where
  pub spilled : sourced c s ≡ overflowed s s.clock 0
  spilled = source_cases c s (λ x. (x.outcome ≡ plain.Clean → ⊥) → x ≡ overflowed s s.clock 0) (λ e m. refl) (λ e m. absurd (m refl)) (λ m. absurd (m refl)) n

  pub tick_spilled : tick c s ≡ overflowed s s.clock 0
  tick_spilled = tick_ends c s (λ z. n (begun_clean c s z).0) ∙ begun_over c s n ∙ spilled

-- 13 came at t and has taken back what the source's step lost: the state and the list are as they were before the tick
pub record TakenBack (l : Losses) (t q : ℕ) (u : Run) (x : Recorded) : Type 0 where
  pub node : ℕ
  pub source : q ≡ 0
  pub is : x ≡ rec_undated u l t node

-- the next entry is that of a loss at t of what queue q is given
pub record NextLoss (c : Chain) (l : Losses) (t q : ℕ) (x : Recorded) : Type 0 where
  pub more : l.count < x.losses.count
  pub entry : entry_at x.losses l.count ≡ loss t q (row_of c q).produce

-- a list that goes on from one with that entry has it
pub next_goes : {c : Chain} {l : Losses} {t q : ℕ} {x y : Recorded} → NextLoss c l t q x → Extends x.losses y.losses → NextLoss c l t q y
next_goes {l = l} a g = record { more = omega (arith, a.more, g.more); entry = g.before l.count a.more ∙ a.entry }

-- the list with that entry
pub next_noted : {c : Chain} {l : Losses} → Listed l → l.count < 256 → (t q : ℕ) (s : Run) → NextLoss c l t q (rec_clean s (noted l t q (row_of c q).produce))
next_noted {c} k room t q s = record { more = omega arith; entry = (is_noted k room t q (row_of c q).produce).entry }

-- the deadline run overflows at the source, at an instant at which 13 has taken back the loss of the recording run
pub record TakenBackThen (c : Chain) (T : ℕ) (s : Run) (l : Losses) : Type 0 where
  pub tick : ℕ
  pub queue : ℕ
  pub overflows : (ticks c T s).outcome ≡ plain.Overflowed tick queue
  pub taken : TakenBack l tick queue (ticks c T s).run (rec_ticks c T s l)
