-- A question is a public call with what it is handed; its answer is the call's own contract, as a list of numbers with every slot and every lent byte.
--   Question, answer_to q    a call, and what it answers; of a run that is too long to be computed here, its number and place
--   signed z                 a number with its sign: 0 and z, or 1 and how far z is below 0
--   row_numbers q, chain_numbers c
--                            a row's five words; n, the period, the words of the 16 rows, the 16 execution times
--   size_numbers q           a queue's line: x, y, minimum, naming count, capacity, signed margin
--   state_numbers s          a run state: the clock, the 17 counts, what the 16 queues hold, the 16 work dones
--   made_chain r, analysed r, state r
--                            number and place, then a chain, the 16 lines with n before and busy and cycle behind, or a run state
--   outcome r                the answer of a tick or a deadline run: number, place, the outcome's number, a run state, the outcome's values
--   wrote a p, writes r t o  the answer of a call that writes: number, place, length and every lent byte afterwards; and what they are where r refuses
--                            the text t or does not, o having been lent
--   said b                   a test as a number
--   output_answers, write-, report-, line_answers
--                            any answer that the contract of such a call allows is that one
use Rattle.std.specs.Prelude.{◌≡◌, refl, Bool, true, false, cond, ℕ, suc, eqb, length, drop, ℤ, pos, negsuc}
use Rattle.std.proofs.Common.{ap₂, ◌∙◌}
use mathlib.Core.List.{List, [], ◌∷◌, ◌++◌, flat_map}
use Rattle.ardenquill.specs.Chains.{factory_answer}
use Rattle.ardenquill.specs.Files.{word_at, row_at, read_answer, packed, write_refusal, room_check, Output}
use Rattle.ardenquill.specs.Reports.{report_text, report_refusal, refusal_text, headed as begins}
use Rattle.ardenquill.specs.Analyses.{analyse_answer, run_answer}
use Rattle.ardenquill.specs.Runs.{fresh_answer, fire_answer}
use Rattle.ardenquill.specs.Immediate.{immediate_answer}
use Rattle.ardenquill.specs.Deadlines.{deadline_answer}
use Rattle.ardenquill.specs.Ticks.{number_of, values_of, tick_answer, deadline_run_answer}
use Rattle.ardenquill.specs.Flat.{coded, flat}
use Rattle.ardenquill.specs.Records.{Queue, Chain, ChainAnswer, Refusal, LengthAnswer, QueueSize, AnalysisAnswer, TickAnswer, Run, RunAnswer}

-- a call with its arguments; bytes are the file, then what is lent
pub data Question : Type 0 where
  read : List ℕ → Question
  write : Chain → List ℕ → Question
  factory : ℕ → Question
  report : List ℕ → List ℕ → Question
  refusal_line : ℕ → ℕ → List ℕ → Question
  headed : List ℕ → Question
  analyse : Chain → Question
  checked_for_run : Chain → Question
  fresh : Chain → Question
  fire : Chain → Run → ℕ → Question
  immediate : Chain → ℕ → Question
  immediate_refusal : Chain → ℕ → Question
  deadline : Chain → ℕ → ℕ → Question
  tick : Chain → Run → Question
  tick_for_c : Chain → Run → Question
  deadline_run : Chain → ℕ → Question
  deadline_run_for_c : Chain → ℕ → Question
  deadline_run_refusal : Chain → ℕ → Question

-- 0 and z, or 1 and how far z is below 0
unfoldable pub signed : ℤ → List ℕ
signed (pos n) = 0 ∷ n ∷ []
signed (negsuc n) = 1 ∷ suc n ∷ []

-- the five words of a row
abbrev pub row_numbers : Queue → List ℕ
row_numbers q = q.produce ∷ q.threshold ∷ q.consume ∷ q.capacity ∷ q.reserved ∷ []

-- a whole chain, slots past n too
unfoldable pub chain_numbers : Chain → List ℕ
unfolding flat_map
chain_numbers c = c.n ∷ c.period ∷ (flat_map row_numbers c.queues ++ c.work)

-- a queue's line
unfoldable pub size_numbers : QueueSize → List ℕ
unfolding signed
size_numbers q = q.x ∷ q.y ∷ q.minimum ∷ q.by ∷ q.capacity ∷ signed q.margin

-- a whole run state, slots past n too
unfoldable pub state_numbers : Run → List ℕ
state_numbers s = s.clock ∷ (s.counts ++ (s.held ++ s.done))

-- the answer of a call that makes a chain
abbrev pub made_chain : ChainAnswer → List ℕ
made_chain r = r.number ∷ r.place ∷ chain_numbers r.chain

-- the answer of a call that analyses one
unfoldable pub analysed : AnalysisAnswer → List ℕ
unfolding flat_map size_numbers
analysed r = r.number ∷ r.place ∷ r.analysis.n ∷ (flat_map size_numbers r.analysis.queues ++ (r.analysis.busy ∷ r.analysis.cycle ∷ []))

-- the answer of a call that gives a run state
abbrev pub state : RunAnswer → List ℕ
state r = r.number ∷ r.place ∷ state_numbers r.run

-- the answer of a tick or a deadline run
abbrev pub outcome : TickAnswer → List ℕ
outcome r = r.number ∷ r.place ∷ number_of r.outcome ∷ (state_numbers r.run ++ values_of r.outcome)

-- the answer of a call that writes, and every lent byte afterwards
abbrev pub wrote : LengthAnswer → List ℕ → List ℕ
wrote a p = a.number ∷ a.place ∷ a.length ∷ p

-- which are these where r refuses the text t or does not, the bytes o having been lent
unfoldable pub writes : Refusal → List ℕ → List ℕ → List ℕ
writes r t o = r.number ∷ r.place ∷ cond (eqb r.number 0) (length t ∷ (t ++ drop (length t) o)) (0 ∷ o)

-- a test as a number
abbrev pub said : Bool → ℕ
said b = cond b 1 0

-- what the call answers; C is told the outcome of a tick and of a deadline run as kind, tick, and queue or node, behind the place, and a tick's state is what is left in the
-- place of the one that was lent
unfoldable pub answer_to : Question → List ℕ
unfolding chain_numbers analysed state_numbers writes word_at row_at read_answer packed write_refusal factory_answer report_refusal refusal_text
    begins analyse_answer run_answer fresh_answer fire_answer immediate_answer deadline_answer tick_answer deadline_run_answer
answer_to (read f) = made_chain (read_answer f)
answer_to (write c o) = writes (write_refusal c (length o)) (packed c) o
answer_to (factory k) = made_chain (factory_answer k)
answer_to (report f o) = writes (report_refusal f (length o)) (report_text f) o
answer_to (refusal_line N L o) = writes (room_check (length (refusal_text N L)) (length o)) (refusal_text N L) o
answer_to (headed t) = said (begins t) ∷ []
answer_to (analyse c) = analysed (analyse_answer c)
answer_to (checked_for_run c) = analysed (run_answer c)
answer_to (fresh c) = state (fresh_answer c)
answer_to (fire c s i) = state (fire_answer c s i)
answer_to (immediate c k) = state (immediate_answer c k)
answer_to (immediate_refusal c k) = (immediate_answer c k).number ∷ (immediate_answer c k).place ∷ []
answer_to (deadline c i k) = (deadline_answer c i k).number ∷ (deadline_answer c i k).place ∷ (deadline_answer c i k).due ∷ []
answer_to (tick c s) = outcome (tick_answer c s)
answer_to (tick_for_c c s) = let r = coded (tick_answer c s) in r.number ∷ r.place ∷ r.kind ∷ r.tick ∷ r.at ∷ state_numbers (tick_answer c s).run
answer_to (deadline_run c T) = outcome (deadline_run_answer c T)
answer_to (deadline_run_for_c c T) = let r = flat (deadline_run_answer c T) in r.number ∷ r.place ∷ r.kind ∷ r.tick ∷ r.at ∷ state_numbers r.run
answer_to (deadline_run_refusal c T) = (deadline_run_answer c T).number ∷ (deadline_run_answer c T).place ∷ []

-- any answer with any bytes that a writing call's contract allows are these numbers
output_answers : {r : Refusal} {t o p : List ℕ} {a : LengthAnswer} → Output r t o p a → wrote a p ≡ writes r t o
unfolding writes
output_answers {r} {t} {o} {p} {a} w = ap₂ wrote w.answer w.bytes ∙ by (eqb r.number 0)
  where
    by : (b : Bool) → wrote (record { number = r.number; place = r.place; length = cond b (length t) 0 }) (cond b (t ++ drop (length t) o) o)
        ≡ r.number ∷ r.place ∷ cond b (length t ∷ (t ++ drop (length t) o)) (0 ∷ o)
    by true = refl
    by false = refl

-- so the table speaks of what the three calls answer and leave in the lent bytes
pub write_answers : (c : Chain) (o p : List ℕ) (a : LengthAnswer) → Output (write_refusal c (length o)) (packed c) o p a → wrote a p ≡ answer_to (write c o)
unfolding answer_to
write_answers c o p a w = output_answers w

pub report_answers : (f o p : List ℕ) (a : LengthAnswer) → Output (report_refusal f (length o)) (report_text f) o p a → wrote a p ≡ answer_to (report f o)
unfolding answer_to
report_answers f o p a w = output_answers w

pub line_answers : (N L : ℕ) (o p : List ℕ) (a : LengthAnswer) → Output (room_check (length (refusal_text N L)) (length o)) (refusal_text N L) o p a → wrote a p ≡ answer_to (refusal_line N L o)
unfolding answer_to
line_answers N L o p a w = output_answers w
