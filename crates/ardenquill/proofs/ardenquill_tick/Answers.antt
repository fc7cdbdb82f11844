-- Where the answer is not clean nothing is stored, and the state that the tick answers is the one handed in (`unclean_stays`).
use Rattle.std.proofs.Common.{rules, ◌≡◌, Bool, not, T, sym, ap, subst, ◌∙◌}
use Rattle.chain.specs.declared.Chain.{Chain}
use Rattle.state.specs.declared.Run.{Run}
use Rattle.slots.specs.Runs.{Whole}
use Rattle.instants.specs.Answered.{TickAnswer}
use Rattle.tickslots.proofs.AnswersLaws.{past_kept}
use Rattle.ardenquill.specs.declared.OutcomeAnswer.{OutcomeAnswer}
use Rattle.ardenquill.specs.Ticks.{tick_answer}
use Rattle.ardenquill.specs.Flat.{coded, is_clean}
use Rattle.ardenquill.proofs.FlatLaws.{unclean_stays}
use Rattle.ardenquill.proofs.ardenquill_tick.Goals as goal

-- a state has all its slots where the state that its tick answers has them
whole_before : (c : Chain) (s : Run) → Whole (tick_answer c s).run → Whole s
whole_before c s w = let k = past_kept c s in record { counts = sym k.counts.long ∙ w.counts; held = sym k.held.long ∙ w.held; done = sym k.done.long ∙ w.done }

pub returns-else-is_clean : goal.returns-else-is_clean
returns-else-is_clean c =
    let is = rw c.in-Ok.is at c.tick.ensures in
    let says : c.into-code.result ≡ coded (tick_answer _ _) = c.into-code.ensures ∙ ap (λ (a : TickAnswer). coded a) is in
    let whole : Whole c.in-Ok.left.run = search rules in
    let unclean = subst (λ (b : Bool). T (not b)) (sym c.if-is_clean.false ∙ c.is_clean.ensures ∙ ap (λ (a : OutcomeAnswer). is_clean a) says) tt in
    (sym (unclean_stays _ _ (whole_before _ _ (subst (λ (a : TickAnswer). Whole a.run) is whole)) unclean), says)
