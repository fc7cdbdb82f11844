-- The answer of an immediate run, as its code puts it together.
use mathlib.Core.Path.{◌≡◌, refl, sym, ap, ◌∙◌}
use Prim.Native.Nat.{ℕ}
use Rattle.std.proofs.Common.{Ok, Err}
use Rattle.chain.specs.Refusal.{Refusal}
use Rattle.chain.specs.Refusals.{fine, silent_as, or_left, or_right}
use Rattle.chain.specs.Said.{refusal, speaks}
use Rattle.chain.specs.Sound.{Sound}
use Rattle.chain.specs.declared.Chain.{Chain}
use Rattle.chain.specs.declared.reasons.Refused.{Refused}
use Rattle.sizing.specs.Checks.{run_refusal}
use Rattle.sizing.proofs.AcceptedLaws.{run_accepts}
use Rattle.state.specs.State.{empty_run, fresh_run, run_said, answered, answered_refused, answered_fine}
use Rattle.state.specs.declared.Run.{Run}
use Rattle.history.specs.History.{after}
use Rattle.schedule.specs.Schedule.{schedule}
use Rattle.immediate.specs.Checks.{length_check, immediate_refusal, immediate_answer}
use Rattle.immediate.proofs.ChecksLaws.{immediate_parts, immediate_accepts}
use Rattle.immediate.specs.Steps.{Bounds}

module _ (c : Chain) (k : ℕ) where
  abbrev driven : Run
  driven = after c (fresh_run c) (schedule c k)

  -- a refusal gives an empty state
  back : (e : Refused) → refusal e ≡ immediate_refusal c k → run_said empty_run (Err e) ≡ immediate_answer c k
  unfolding immediate_answer
  back e f = answered_refused (refusal e) empty_run driven (speaks e) ∙ ap (λ (r : Refusal). answered r empty_run driven) f

  pub chain_refuses : (e : Refused) → refusal e ≡ run_refusal c → run_said empty_run (Err e) ≡ immediate_answer c k
  chain_refuses e h = back e (or_left (length_check c k) h (speaks e) ∙ sym (immediate_parts c k))

  module _ (h : fine ≡ run_refusal c) where
    pub sound_chain : Sound c
    sound_chain = ((run_accepts c).0 (silent_as h refl)).0.chain

    whole : {r : Refusal} → r ≡ length_check c k → r ≡ immediate_refusal c k
    whole f = or_right h refl f ∙ sym (immediate_parts c k)

    pub length_refuses : (e : Refused) → refusal e ≡ length_check c k → run_said empty_run (Err e) ≡ immediate_answer c k
    length_refuses e f = back e (whole f)

    module _ (f : fine ≡ length_check c k) where
      pub bounds : Bounds k c
      bounds = let b = (immediate_accepts c k).0 (silent_as (whole f) refl) in record { accepted = b.0.0; enough = b.0.1; within = b.1 }

      pub ran : {t : Run} → t ≡ driven → run_said empty_run (Ok t) ≡ immediate_answer c k
      unfolding immediate_answer
      ran e = rw e (answered_fine empty_run driven (whole f))
