-- How the records that C has are laid out: the order of their fields and how wide each is, as include/ardenquill.h has them; the offsets follow from that by repr(C), and
-- tests/header.c has them as numbers. Contracts speak of fields by their names, and of numbers, so of order and width nothing else says a word.
--   val T L r      what the machine holds for the record r of the struct T, by the toolchain's own meaning of structs
--   word n         a number of 32 bits
--   parts vs       values one behind the other, as a struct's fields and an array's elements lie
--   row q, chain c, line q, analysis a, run s, loss e, losses l
--                  what it holds for a queue row, a chain, a queue's line, an analysis, a run state, a loss and a list of losses
--   row_lies, chain_lies, line_lies, analysis_lies, run_lies, loss_lies, losses_lies
--                  which is their fields, in this order and of these widths
--   chain_answer_lies, length_answer_lies, analysis_answer_lies, run_answer_lies, deadline_answer_lies, outcome_lies, outcome_run_lies, recording_lies
--                  so are the answers
use Rattle.std.specs.Prelude.{◌≡◌, refl, List, [], ◌∷◌, ◌++◌, map, ℕ}
use Rattle.std.proofs.lemmas.Simd.{map-map}
use Rattle.std.specs.Int.{w32, w64}
use mir.Val.{Val, vint, vstruct, of_z, of_list}
use denote.Struct.Laws.{val}
use Rattle.words.specs.declared.Queue.{Queue}
use Rattle.words.specs.contracts.Queue.{the_type as rowType}
use Rattle.words.proofs.Queue.TheLaws.{the_laws as rowLaws}
use Rattle.chain.specs.declared.Chain.{Chain}
use Rattle.chain.specs.contracts.Chain.{the_type as chainType}
use Rattle.chain.proofs.Chain.TheLaws.{the_laws as chainLaws}
use Rattle.chain.specs.declared.ChainAnswer.{ChainAnswer}
use Rattle.chain.specs.contracts.ChainAnswer.{the_type as chainAnswerType}
use Rattle.chain.proofs.ChainAnswer.TheLaws.{the_laws as chainAnswerLaws}
use Rattle.chainfile.specs.declared.LengthAnswer.{LengthAnswer}
use Rattle.chainfile.specs.contracts.LengthAnswer.{the_type as lengthAnswerType}
use Rattle.chainfile.proofs.LengthAnswer.TheLaws.{the_laws as lengthAnswerLaws}
use Rattle.sizing.specs.declared.QueueSize.{QueueSize}
use Rattle.sizing.specs.contracts.QueueSize.{the_type as lineType}
use Rattle.sizing.proofs.QueueSize.TheLaws.{the_laws as lineLaws}
use Rattle.sizing.specs.declared.Analysis.{Analysis}
use Rattle.sizing.specs.contracts.Analysis.{the_type as analysisType}
use Rattle.sizing.proofs.Analysis.TheLaws.{the_laws as analysisLaws}
use Rattle.sizing.specs.declared.AnalysisAnswer.{AnalysisAnswer}
use Rattle.sizing.specs.contracts.AnalysisAnswer.{the_type as analysisAnswerType}
use Rattle.sizing.proofs.AnalysisAnswer.TheLaws.{the_laws as analysisAnswerLaws}
use Rattle.state.specs.declared.Run.{Run}
use Rattle.state.specs.contracts.Run.{the_type as runType}
use Rattle.state.proofs.Run.TheLaws.{the_laws as runLaws}
use Rattle.state.specs.declared.RunAnswer.{RunAnswer}
use Rattle.state.specs.contracts.RunAnswer.{the_type as runAnswerType}
use Rattle.state.proofs.RunAnswer.TheLaws.{the_laws as runAnswerLaws}
use Rattle.losses.specs.declared.Loss.{Loss}
use Rattle.losses.specs.contracts.Loss.{the_type as lossType}
use Rattle.losses.proofs.Loss.TheLaws.{the_laws as lossLaws}
use Rattle.losses.specs.declared.Losses.{Losses}
use Rattle.losses.specs.contracts.Losses.{the_type as lossesType}
use Rattle.losses.proofs.Losses.TheLaws.{the_laws as lossesLaws}
use Rattle.dates.specs.declared.DeadlineAnswer.{DeadlineAnswer}
use Rattle.dates.specs.contracts.DeadlineAnswer.{the_type as deadlineAnswerType}
use Rattle.dates.proofs.DeadlineAnswer.TheLaws.{the_laws as deadlineAnswerLaws}
use Rattle.ardenquill.specs.declared.OutcomeAnswer.{OutcomeAnswer}
use Rattle.ardenquill.specs.contracts.OutcomeAnswer.{the_type as outcomeType}
use Rattle.ardenquill.proofs.OutcomeAnswer.TheLaws.{the_laws as outcomeLaws}
use Rattle.ardenquill.specs.declared.OutcomeRun.{OutcomeRun}
use Rattle.ardenquill.specs.contracts.OutcomeRun.{the_type as outcomeRunType}
use Rattle.ardenquill.proofs.OutcomeRun.TheLaws.{the_laws as outcomeRunLaws}
use Rattle.ardenquill.specs.declared.OutcomeRecording.{OutcomeRecording}
use Rattle.ardenquill.specs.contracts.OutcomeRecording.{the_type as recordingType}
use Rattle.ardenquill.proofs.OutcomeRecording.TheLaws.{the_laws as recordingLaws}

-- a number of 32 bits
abbrev pub word : ℕ → Val
word n = vint w32 n

-- values one behind the other
abbrev pub parts : List Val → Val
parts vs = vstruct (of_list vs)

-- the records that stand in others
abbrev pub row : Queue → Val
row q = val rowType rowLaws q

abbrev pub chain : Chain → Val
chain c = val chainType chainLaws c

abbrev pub line : QueueSize → Val
line q = val lineType lineLaws q

abbrev pub analysis : Analysis → Val
analysis a = val analysisType analysisLaws a

abbrev pub run : Run → Val
run s = val runType runLaws s

abbrev pub loss : Loss → Val
loss e = val lossType lossLaws e

abbrev pub losses : Losses → Val
losses l = val lossesType lossesLaws l

-- numbers of an array are made into values as they are
words : (xs : List ℕ) → map word (map (λ (n : ℕ). n) xs) ≡ map word xs
words xs = map-map word (λ (n : ℕ). n) xs

-- "A queue row has five words: produce p, threshold τ, consume c, capacity B, one reserved word", and so has its record
pub row_lies : (q : Queue) → row q ≡ parts (map word (q.produce ∷ q.threshold ∷ q.consume ∷ q.capacity ∷ q.reserved ∷ []))
row_lies q = refl

-- struct ardenquill_chain
pub chain_lies : (c : Chain) → chain c ≡ parts (word c.n ∷ word c.period ∷ parts (map row c.queues) ∷ parts (map word c.work) ∷ [])
chain_lies c = refl

-- struct ardenquill_queue_size: the naming count has 32 bits, too, and stands behind the minimum
pub line_lies : (q : QueueSize) → line q ≡ parts (map word (q.x ∷ q.y ∷ q.minimum ∷ q.by ∷ q.capacity ∷ of_z w32 q.margin ∷ []))
line_lies q = refl

-- struct ardenquill_analysis
pub analysis_lies : (a : Analysis) → analysis a ≡ parts (word a.n ∷ parts (map line a.queues) ∷ word a.busy ∷ word a.cycle ∷ [])
analysis_lies a = refl

-- struct ardenquill_run
pub run_lies : (s : Run) → run s ≡ parts (word s.clock ∷ parts (map word s.counts) ∷ parts (map word s.held) ∷ parts (map word s.done) ∷ [])
run_lies s = refl

-- struct ardenquill_loss
pub loss_lies : (e : Loss) → loss e ≡ parts (map word (e.tick ∷ e.queue ∷ e.tokens ∷ []))
loss_lies e = refl

-- struct ardenquill_losses
pub losses_lies : (l : Losses) → losses l ≡ parts (word l.count ∷ parts (map loss l.entries) ∷ [])
losses_lies l = refl

-- the answers, each with number and place in front
pub chain_answer_lies : (a : ChainAnswer) → val chainAnswerType chainAnswerLaws a ≡ parts (word a.number ∷ word a.place ∷ chain a.chain ∷ [])
chain_answer_lies a = refl

pub length_answer_lies : (a : LengthAnswer) → val lengthAnswerType lengthAnswerLaws a ≡ parts (word a.number ∷ word a.place ∷ vint w64 a.length ∷ [])
length_answer_lies a = refl

pub analysis_answer_lies : (a : AnalysisAnswer) → val analysisAnswerType analysisAnswerLaws a ≡ parts (word a.number ∷ word a.place ∷ analysis a.analysis ∷ [])
analysis_answer_lies a = refl

pub run_answer_lies : (a : RunAnswer) → val runAnswerType runAnswerLaws a ≡ parts (word a.number ∷ word a.place ∷ run a.run ∷ [])
run_answer_lies a = refl

pub deadline_answer_lies : (a : DeadlineAnswer) → val deadlineAnswerType deadlineAnswerLaws a ≡ parts (word a.number ∷ word a.place ∷ vint w64 a.due ∷ [])
deadline_answer_lies a = refl

pub outcome_lies : (a : OutcomeAnswer) → val outcomeType outcomeLaws a ≡ parts (map word (a.number ∷ a.place ∷ a.kind ∷ a.tick ∷ a.at ∷ []))
outcome_lies a = refl

pub outcome_run_lies : (a : OutcomeRun) → val outcomeRunType outcomeRunLaws a ≡ parts (map word (a.number ∷ a.place ∷ a.kind ∷ a.tick ∷ a.at ∷ []) ++ (run a.run ∷ []))
outcome_run_lies a = refl

pub recording_lies : (a : OutcomeRecording) → val recordingType recordingLaws a ≡ parts (map word (a.number ∷ a.place ∷ a.kind ∷ a.tick ∷ a.at ∷ []) ++ (run a.run ∷ losses a.losses ∷ []))
recording_lies a = refl
