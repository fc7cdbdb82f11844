-- What a recording tick and so many of them keep (02, Item 2).
--   rec_tracing_clean, _none   the firings of what is clean, and of what is not
--   Led c s l h x              the firings h lead from s and l to what x has, in which a step may be made unless the list was found full
-- What is named here and not declared stands in proofs/KeptLaws.antt.
use Rattle.std.specs.Prelude.{◌≡◌}
use Rattle.std.proofs.Math.Path.{refl, ap}
use mathlib.Core.List.{List, []}
use Prim.Native.Nat.{ℕ}
use Rattle.chain.specs.declared.Chain.{Chain}
use Rattle.state.specs.declared.Run.{Run}
use Rattle.instants.specs.Filled.{Filled}
use Rattle.losses.specs.declared.Losses.{Losses}
use Rattle.recordings.specs.Marked.{Marked}
use Rattle.recordings.specs.Trace.{rec_tracing}
use Rattle.recordings.specs.Leads.{Leads}
use Rattle.recordings.specs.declared.RecordOutcome.{RecordOutcome}
use Rattle.recordings.specs.declared.RecordOutcome.TheVariants.{Clean, NoDeadline, ListFull}
use Rattle.recordings.specs.declared.Recorded.{Recorded}

-- the firings of what is clean, and of what is not
pub rec_tracing_clean : {o : RecordOutcome} (h : List Marked) → o ≡ Clean → rec_tracing o h ≡ h
unfolding rec_tracing
rec_tracing_clean h e = ap (λ (o : RecordOutcome). rec_tracing o h) e

pub rec_tracing_none : (o : RecordOutcome) (h : List Marked) → (o ≡ Clean → ⊥) → rec_tracing o h ≡ []
unfolding rec_tracing
rec_tracing_none Clean h n = absurd (n refl)
rec_tracing_none (NoDeadline t i) h n = refl
rec_tracing_none (ListFull t q) h n = refl

-- the firings h lead to what x has, and unless the list was found full a step may be made there
pub record Led (c : Chain) (s : Run) (l : Losses) (h : List Marked) (x : Recorded) : Type 0 where
  pub leads : Leads c s l h x.run x.losses
  pub filled : ((t q : ℕ) → x.outcome ≡ ListFull t q → ⊥) → Filled c x.run
