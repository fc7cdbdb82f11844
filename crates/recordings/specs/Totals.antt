-- What is counted over a recording run that is clean (02, Item 2): a lost production is worked for and counted as any other.
--   RecWaits c s l             one of N_1 to N_n is over threshold after the source's step
--   rec_tick_total             a clean tick adds one tick of work where a node waits for it, and none elsewhere
use Rattle.std.specs.Prelude.{◌≡◌, ◌⊎◌}
use Rattle.std.proofs.Common.{subst, inl, inr, ⊎_elim, arith}
use Prim.Native.Nat.{◌+◌}
use Rattle.chain.specs.declared.Chain.{Chain}
use Rattle.state.specs.declared.Run.{Run}
use Rattle.instants.specs.Totals.{total, spent_alike, SomeOver, work_total}
use Rattle.losses.specs.declared.Losses.{Losses}
use Rattle.recordings.specs.Once.{SourceNoted, source_noted_only}
use Rattle.recordings.specs.Fields.{rec_source_work, rec_own_work, rec_other_work}
use Rattle.recordings.specs.Exactly.{RecTickOnce}
use Rattle.recordings.specs.declared.Recorded.{Recorded}

-- a node is over threshold after the source's step
pub record RecWaits (c : Chain) (s : Run) (l : Losses) : Type 0 where
  pub after : Run
  pub listed : Losses
  pub source : SourceNoted c s l after listed
  pub some : SomeOver c after

-- a clean tick does one tick of work where a node waits for it, and none elsewhere
pub rec_tick_total : {c : Chain} {s : Run} {l : Losses} {x : Recorded} → RecTickOnce c s l x
    → (RecWaits c s l × (total c x.run ≡ total c s + 1)) ⊎ ((RecWaits c s l → ⊥) × (total c x.run ≡ total c s))
rec_tick_total {c} {s} {l} {x} k = ⊎_elim
    (λ h. inl (record { after = k.after; listed = k.listed; source = k.begun.source; some = h.0 }, omega (arith, h.1, before)))
    (λ h. inr (λ w. h.0 (subst (SomeOver c) (source_noted_only w.source k.begun.source).0 w.some), omega (arith, h.1, before)))
    (work_total x.run k.cleaned.works (rec_own_work k.cleaned.work) (rec_other_work k.cleaned.work))
  where
    before : total c k.after ≡ total c s
    before = spent_alike c s k.after c.n (λ j l. rec_source_work k.begun.source j)
