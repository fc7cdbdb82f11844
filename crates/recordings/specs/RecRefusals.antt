-- When a recording tick and a recording run are refused, and what they answer then and else (02, Item 2).
--   rec_tick_numbers, rec_run_numbers
--                              the numbers of their checks, in order
--   RecTicking c s l, rec_ticking_is
--                              the same as a record, which the code of a recording tick asks
--   rec_ran_as x, rec_refused_as r s l
--                              the two forms of an answer
-- What is named here and not declared stands in proofs/RecRefusalsLaws.antt.
use Rattle.std.specs.Prelude.{◌≡◌, ◌≢◌, List, [], ◌∷◌, ◌++◌, ℕ, ◌≤◌, ◌<◌}
use Rattle.std.proofs.Common.{arith}
use Rattle.chain.specs.Refusals.{refused, Others, number_of, said_earlier}
use Rattle.chain.specs.Refusal.{Refusal}
use Rattle.chain.specs.declared.Chain.{Chain}
use Rattle.sizing.specs.Checks.{limit, analyse_checks, analyse_refusal, analyse_numbers}
use Rattle.sizing.proofs.ChecksLaws.{analyse_numbered}
use Rattle.sizing.specs.Accepted.{Accepted}
use Rattle.state.specs.State.{count_at}
use Rattle.state.specs.declared.Run.{Run}
use Rattle.instants.specs.Checks.{longest}
use Rattle.losses.specs.declared.Losses.{Losses}
use Rattle.recordings.specs.Checks.{RecSound}
use Rattle.recordings.specs.declared.RecordOutcome.TheVariants.{Clean}
use Rattle.recordings.specs.declared.Recorded.{Recorded}
use Rattle.recordings.specs.Answered.{RecordAnswer}

-- the numbers of the checks of a recording tick and of a recording run, in order: no 8
abbrev pub rec_tick_numbers : List ℕ
rec_tick_numbers = analyse_numbers ++ (17 ∷ 9 ∷ 9 ∷ [])

abbrev pub rec_run_numbers : List ℕ
rec_run_numbers = analyse_numbers ++ (9 ∷ [])

-- no number above 7 is one of an analysis
pub analyse_others : (N : ℕ) → 7 < N → Others N analyse_numbers
analyse_others N l = (λ e. omega arith, (λ e. omega arith, (λ e. omega arith, (λ e. omega arith, (λ e. omega arith, tt)))))

-- so it is never refused with one
pub analyse_not : (c : Chain) (N L : ℕ) → 7 < N → analyse_refusal c ≡ refused N L → ⊥
unfolding analyse_refusal
analyse_not c N L l e =
    let z : 0 ≡ N = number_of ((said_earlier N L (λ z. omega arith) [] analyse_numbers (analyse_checks c) (analyse_numbered c) (analyse_others N l)).0 e) in
    omega arith

-- what the code of a recording tick asks: it is not refused (rec_ticking_is)
pub record RecTicking (c : Chain) (s : Run) (l : Losses) : Type 0 where
  pub chain : Accepted c
  pub sound : RecSound c s l
  pub clock : s.clock < longest
  pub countable : (i : ℕ) → i ≤ c.n → count_at s i ≢ limit

-- the answer of a call that is not refused
abbrev pub rec_ran_as : Recorded → RecordAnswer
rec_ran_as x = record { number = 0; place = 0; outcome = x.outcome; run = x.run; losses = x.losses }

-- and of one that is
abbrev pub rec_refused_as : Refusal → Run → Losses → RecordAnswer
rec_refused_as r s l = record { number = r.number; place = r.place; outcome = Clean; run = s; losses = l }
