-- The state and the list are those of the answer where they are stored, and else the ones handed in (`rec_unmoved_stays`, `rec_ungrown_stays`).
use Rattle.std.proofs.Common.{rules, ◌≡◌, Bool, not, T, length, sym, ap, subst, ◌∙◌}
use Rattle.chain.specs.declared.Chain.{Chain}
use Rattle.state.specs.declared.Run.{Run}
use Rattle.slots.specs.Runs.{Whole}
use Rattle.losses.specs.declared.Losses.{Losses}
use Rattle.recordings.specs.Answers.{rec_tick_answer}
use Rattle.recordings.specs.Answered.{RecordAnswer}
use Rattle.recordslots.proofs.AnswersLaws.{rec_past_kept}
use Rattle.ardenquill.specs.declared.OutcomeAnswer.{OutcomeAnswer}
use Rattle.ardenquill.specs.RecFlat.{rec_coded, rec_moves, rec_grows}
use Rattle.ardenquill.proofs.RecFlatLaws.{rec_unmoved_stays, rec_ungrown_stays}
use Rattle.ardenquill.proofs.ardenquill_recording_tick.Goals as goal
use Rattle.ardenquill.proofs.ardenquill_recording_tick.Goals.{then-rec_moves, else-rec_moves, After-rec_grows}

module _ (c : Chain) (s : Run) (l : Losses) where
  -- the state and the list have all their slots where those that the tick answers have them
  whole_before : Whole (rec_tick_answer c s l).run → Whole s
  whole_before w = let k = (rec_past_kept c s l).0 in record { counts = sym k.counts.long ∙ w.counts; held = sym k.held.long ∙ w.held; done = sym k.done.long ∙ w.done }

  listed_before : length (rec_tick_answer c s l).losses.entries ≡ 256 → length l.entries ≡ 256
  listed_before e = sym (rec_past_kept c s l).1.long ∙ e

-- a tick that is not refused
module _ (c : After-rec_grows) where
  abbrev answer : RecordAnswer
  answer = rec_tick_answer c.args.chain.now c.args.run.now c.args.losses.now

  is : record { number = 0; place = 0; outcome = c.in-Ok.left.outcome; run = c.in-Ok.left.run; losses = c.in-Ok.left.losses } ≡ answer
  is = rw c.in-Ok.is at c.recording_tick.ensures

  -- the answer, as C has it
  says : c.into-code.result ≡ rec_coded answer
  says = c.into-code.ensures ∙ ap (λ (a : RecordAnswer). rec_coded a) is

  -- what is not stored is as it was
  whole : Whole c.args.run.now
  whole = let w : Whole c.in-Ok.left.run = search rules in whole_before _ _ _ (subst (λ (a : RecordAnswer). Whole a.run) is w)

  listed : length c.args.losses.now.entries ≡ 256
  listed = let w : length c.in-Ok.left.losses.entries ≡ 256 = search rules in listed_before _ _ _ (subst (λ (a : RecordAnswer). length a.losses.entries ≡ 256) is w)

  list : c.in-Ok.left.losses ≡ answer.losses
  list = ap (λ (a : RecordAnswer). a.losses) is

  -- the state that is left
  left : c.if-rec_moves.run ≡ answer.run
  left = elim c.if-rec_moves.branch [
    | then-rec_moves w ↦ w.run-is ∙ ap (λ (a : RecordAnswer). a.run) is
    | else-rec_moves w ↦
        let unmoved = subst (λ (b : Bool). T (not b)) (sym w.if-rec_moves.false ∙ c.rec_moves.ensures ∙ ap (λ (a : OutcomeAnswer). rec_moves a) says) tt in
        w.run-is ∙ sym (rec_unmoved_stays _ _ _ whole listed unmoved).0
  ]

pub returns-then-rec_grows : goal.returns-then-rec_grows
returns-then-rec_grows c =
    let d = (goal.at.returns-then-rec_grows c).After-rec_grows in
    (left d, (list d, says d))

pub returns-else-rec_grows : goal.returns-else-rec_grows
returns-else-rec_grows c =
    let d = (goal.at.returns-else-rec_grows c).After-rec_grows in
    let grows = sym c.if-rec_grows.false ∙ c.rec_grows.ensures ∙ ap (λ (m : Losses). rec_grows c.args.losses.now.count m.count) (list d) in
    let ungrown = subst (λ (b : Bool). T (not b)) grows tt in
    (left d, (sym (rec_ungrown_stays _ _ _ (whole d) (listed d) ungrown), says d))
