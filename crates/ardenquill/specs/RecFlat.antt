-- What C is answered in place of an outcome of a recording tick or run (02, Item 2), and when a recording tick stores.
--   rec_kind_of o            the code of an outcome; rec_kind_number: which says the same as its number
--   rec_coded a              the answer a with its outcome as a code, a tick, and a node or queue; without its state and its list
--   rec_flat a               the same, with its state and its list
--   rec_moves a              whether a, as C has it, is the answer of a recording tick that changed the state
--   Moving o                 an outcome with which the state has changed
--   rec_grows b k            whether a list of b entries has another number k of them after a tick
--   RecLeaves c s l t m a    t, m and a are the state, the list and the answer, as C has it, of a recording tick of s and l
-- What is named here and not declared stands in proofs/RecFlatLaws.antt.
use Rattle.std.specs.Prelude.{◌≡◌, Bool, not, ◌&&◌, ◌||◌, ◌≢◌, ℕ, eqb}
use Rattle.chain.specs.declared.Chain.{Chain}
use Rattle.state.specs.declared.Run.{Run}
use Rattle.losses.specs.declared.Losses.{Losses}
use Rattle.recordings.specs.Steps.{rec_tick_of, rec_at_of}
use Rattle.recordings.specs.Answers.{rec_tick_answer}
use Rattle.recordings.specs.declared.RecordOutcome.{RecordOutcome}
use Rattle.recordings.specs.declared.RecordOutcome.TheVariants.{Clean, NoDeadline, ListFull}
use Rattle.recordings.specs.Answered.{RecordAnswer}
use Rattle.ardenquill.specs.declared.OutcomeAnswer.{OutcomeAnswer}
use Rattle.ardenquill.specs.declared.OutcomeRecording.{OutcomeRecording}

-- the code of an outcome: 2 is 13, as it is of every tick, and 3 is 15
abbrev pub rec_kind_of : RecordOutcome → ℕ
rec_kind_of Clean = 0
rec_kind_of (NoDeadline t i) = 2
rec_kind_of (ListFull t q) = 3

-- the outcome as C has it, beside the refusal
abbrev pub rec_coded : RecordAnswer → OutcomeAnswer
rec_coded a = record { number = a.number; place = a.place; kind = rec_kind_of a.outcome; tick = rec_tick_of a.outcome; at = rec_at_of a.outcome }

-- and beside the state and the list
abbrev pub rec_flat : RecordAnswer → OutcomeRecording
rec_flat a =
    let code = rec_coded a in
    record { number = code.number; place = code.place; kind = code.kind; tick = code.tick; at = code.at; run = a.run; losses = a.losses }

-- "it ends clean", or "the stopped list" at a finish: there "the source's step stands"
abbrev pub rec_moves : OutcomeAnswer → Bool
rec_moves a = eqb a.number 0 && (eqb a.kind 0 || (eqb a.kind 3 && not (eqb a.at 0)))

-- the same of an outcome: 13 and a full list at the source come before anything has changed
abbrev pub Moving : RecordOutcome → Type 0
Moving Clean = Unit {0}
Moving (NoDeadline t i) = ⊥
Moving (ListFull t q) = q ≢ 0

-- a list that has grown is another after the tick than before
abbrev pub rec_grows : ℕ → ℕ → Bool
rec_grows b k = not (eqb b k)

-- what a recording tick leaves in the state and the list that it is lent, and what it answers
abbrev pub RecLeaves : Chain → Run → Losses → Run → Losses → OutcomeAnswer → Type 0
RecLeaves c s l t m a = (t ≡ (rec_tick_answer c s l).run) × ((m ≡ (rec_tick_answer c s l).losses) × (a ≡ rec_coded (rec_tick_answer c s l)))
