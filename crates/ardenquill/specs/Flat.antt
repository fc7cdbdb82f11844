-- What C is answered in place of an outcome of several kinds.
--   coded a                  the answer a with its outcome as a code, a tick, and a queue or node; without its state
--   flat a                   the same, and its state
--   is_clean a               whether a, as C has it, is the answer of a tick that was taken and ended clean
use Rattle.std.specs.Prelude.{Bool, ◌&&◌, eqb}
use Rattle.instants.specs.Steps.{kind_of, tick_of, at_of}
use Rattle.instants.specs.Answered.{TickAnswer}
use Rattle.ardenquill.specs.declared.OutcomeAnswer.{OutcomeAnswer}
use Rattle.ardenquill.specs.declared.OutcomeRun.{OutcomeRun}

-- the outcome as C has it, beside the refusal
abbrev pub coded : TickAnswer → OutcomeAnswer
coded a = record { number = a.number; place = a.place; kind = kind_of a.outcome; tick = tick_of a.outcome; at = at_of a.outcome }

-- and beside the state
abbrev pub flat : TickAnswer → OutcomeRun
flat a =
    let code = coded a in
    record { number = code.number; place = code.place; kind = code.kind; tick = code.tick; at = code.at; run = a.run }

-- "it ends clean", of a tick that is not refused
abbrev pub is_clean : OutcomeAnswer → Bool
is_clean a = eqb a.number 0 && eqb a.kind 0
