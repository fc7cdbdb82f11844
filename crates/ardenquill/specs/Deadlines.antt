-- What the public calls promise of deadlines, handed on from the crates `deadline` and `dates`.
unfoldable pub use Rattle.deadline.specs.Deadline.{earlier, deadline, index_check, index}
pub use Rattle.deadline.specs.Deadline.{FirstPassing}
pub use Rattle.deadline.proofs.DeadlineLaws.{index_exact, index_silent, index_only, earlier_some, earlier_mono, earlier_shift, deadline_mono, deadline_shift}
unfoldable pub use Rattle.dates.specs.Question.{answered_due, deadline_refusal, deadline_answer}
pub use Rattle.dates.specs.Question.{due_said}
pub use Rattle.dates.specs.Question.{ask_check, deadline_checks}
pub use Rattle.dates.proofs.QuestionLaws.{ask_exact, ask_silent, ask_only, deadline_parts}
pub use Rattle.dates.specs.Question.{deadline_numbers}
pub use Rattle.dates.proofs.QuestionLaws.{deadline_11, deadline_13, deadline_earlier, deadline_numbered}
pub use Rattle.dates.specs.Question.{deadline_most}
pub use Rattle.dates.proofs.QuestionLaws.{deadline_accepts, deadline_due, deadline_refused}
