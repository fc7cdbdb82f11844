-- One tick in which the source is not due and no firing is finished is work alone. It stands alone, since an edit changes what it says.
use Rattle.std.specs.Prelude.{◌≡◌, ℕ, suc, ◌+◌, ◌<◌}
use Rattle.std.proofs.Common.{sym, ap, subst, ◌∙◌}
use Rattle.chain.specs.Refusals.{Silent}
use Rattle.chain.specs.Record.{work_of}
use Rattle.chain.specs.declared.Chain.{Chain}
use Rattle.state.specs.State.{done_at}
use Rattle.state.specs.declared.Run.{Run}
use Rattle.instants.specs.Steps.{clean, sourced, lacking, chosen, worked, finished, begun, tick}
use Rattle.instants.proofs.KeptLaws.{begun_silent, tick_works, works_on}
use Rattle.instants.specs.Filled.{Filled}
use Rattle.instants.specs.Source.{Due}
use Rattle.instants.proofs.SourceLaws.{source_rests}
use Rattle.instants.specs.declared.Ticked.{Ticked}

-- N_i is the node that works, each node over threshold having a deadline; the source is not due, and the work of N_i goes on
pub quiet_tick : {c : Chain} {s : Run} → Filled c s → Silent (lacking c s) → (i : ℕ) → chosen c s ≡ i → (Due c s → ⊥)
    → ((j : ℕ) → i ≡ suc j → done_at s j + 1 < work_of c j) → tick c s ≡ clean (worked s i)
quiet_tick {c} {s} f silent i works rests less =
    tick_works c s (ap (λ (x : Ticked). x.outcome) begins)
    ∙ ap (λ (x : Ticked). finished c (worked x.run (chosen c x.run))) begins
    ∙ ap (λ (w : ℕ). finished c (worked s w)) works
    ∙ works_on f i (λ j l e. less j e)
  where
    still : clean s ≡ sourced c s
    still = sym ((source_rests f).1 rests)

    begins : begun c s ≡ clean s
    begins =
        begun_silent c s (ap (λ (x : Ticked). x.outcome) (sym still)) (subst (λ (x : Ticked). Silent (lacking c x.run)) still silent)
        ∙ ap (λ (x : Ticked). clean x.run) (sym still)
