-- The records that the public calls are handed and answer, and those in which contracts say what C is answered of a tick, handed on from the crates that
-- declare them.
pub use Rattle.words.specs.declared.Queue.{Queue}
pub use Rattle.chain.specs.declared.reasons.Reason.{Reason}
pub use Rattle.chain.specs.declared.reasons.Reason.TheVariants.{FileLength, QueueCount, TablePlace, FieldRange, RowOrder, RateTooLarge, Overload, CapacityTooSmall}
pub use Rattle.chain.specs.declared.reasons.Reason.TheVariants.{RunTooLong, NoRoom, NodeNotReady, QueueFull, DeadlineTooLate, NoFactoryChain, BrokenState}
pub use Rattle.chain.specs.declared.reasons.Refused.{Refused}
pub use Rattle.chain.specs.Refusal.{Refusal}
pub use Rattle.chain.specs.declared.Chain.{Chain}
pub use Rattle.chain.specs.declared.ChainAnswer.{ChainAnswer}
pub use Rattle.chainfile.specs.declared.LengthAnswer.{LengthAnswer}
pub use Rattle.sizing.specs.declared.QueueSize.{QueueSize}
pub use Rattle.sizing.specs.declared.Analysis.{Analysis}
pub use Rattle.sizing.specs.declared.AnalysisAnswer.{AnalysisAnswer}
pub use Rattle.state.specs.declared.Run.{Run}
pub use Rattle.state.specs.declared.RunAnswer.{RunAnswer}
pub use Rattle.dates.specs.declared.DeadlineAnswer.{DeadlineAnswer}
pub use Rattle.instants.specs.declared.Outcome.{Outcome}
pub use Rattle.instants.specs.declared.Outcome.TheVariants.{Clean, Overflowed, NoDeadline}
pub use Rattle.instants.specs.declared.Ticked.{Ticked}
pub use Rattle.instants.specs.Answered.{TickAnswer}
pub use Rattle.losses.specs.declared.Loss.{Loss}
pub use Rattle.losses.specs.declared.Losses.{Losses}
pub use Rattle.recordings.specs.declared.RecordOutcome.{RecordOutcome}
pub use Rattle.recordings.specs.declared.RecordOutcome.TheVariants.{Clean as RecordClean, NoDeadline as RecordNoDeadline, ListFull}
pub use Rattle.recordings.specs.declared.Recorded.{Recorded}
pub use Rattle.recordings.specs.Answered.{RecordAnswer}
