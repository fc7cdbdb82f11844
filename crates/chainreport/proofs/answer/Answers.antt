-- With room for the longest report the library's calls leave what is to be printed of the file, and the line of a refusal fits.
use Rattle.std.proofs.Common.{rules, ◌≡◌, ◌^◌, ◌<◌, ℕ, Result, Ok, Err, take}
use Rattle.std.specs.Prelude.{refl, IsOk}
use Rattle.ardenquill.specs.Chains.{speaks}
use Rattle.ardenquill.specs.Files.{length_said}
use Rattle.ardenquill.specs.Records.{Refused}
use Rattle.chainreport.specs.Printed.{printed}
use Rattle.chainreport.proofs.PrintedLaws.{prints_refusal, prints_report}
use Rattle.chainreport.proofs.answer.Goals as goal
use Rattle.chainreport.proofs.answer.Goals.{After-refusal_line}

-- a result that says nothing is no refusal
ok : (r : Result ℕ Refused) → (length_said r).number ≡ 0 → IsOk r
ok (Ok k) z = refl
ok (Err e) z = absurd (speaks e z)

module _ (c : After-refusal_line) where
  line : ((length_said c.refusal_line.result).number ≡ 0) × (take (length_said c.refusal_line.result).length c.refusal_line.new.out ≡ printed c.args.file.now)
  line =
      let refuses = rw c.in-Err.is at c.report.ensures in
      let number : c.number.result < 2 ^ 32 = search rules in
      let place : c.in-Err.refused.place < 2 ^ 32 = search rules in
      prints_refusal _ _ c.requires refuses (speaks c.in-Err.refused) (rw c.number.ensures at number) place (rw c.number.ensures at c.refusal_line.ensures)

pub unwrap-requires : goal.unwrap-requires
unwrap-requires c = ok _ (line (goal.at.unwrap-requires c).After-refusal_line).0

pub returns-in-Ok-clause-answers : goal.returns-in-Ok-clause-answers
returns-in-Ok-clause-answers c = prints_report _ _ c.requires (rw c.in-Ok.is at c.report.ensures) refl

pub returns-in-Err-clause-answers : goal.returns-in-Err-clause-answers
returns-in-Err-clause-answers c = rw c.unwrap.ensures at (line (goal.at.returns-in-Err-clause-answers c).After-refusal_line).1
