-- Laws of specs/Figures.antt that rest on a definition which an edit of must-fail/ changes.
-- The figures that the scope marks P, files, reports and refusals, in one table under one statement: each row's answer is what the call answers.
--   figures                  the statement: what the test decides of the table
use Rattle.std.specs.Prelude.{◌≡◌, ℕ, ◌<◌, length, get_or}
use mathlib.Core.List.{[], flat_map}
use Rattle.figures.specs.Questions.{analyse}
use Rattle.figures.specs.Questions.{answer_to, chain_numbers, state_numbers}
use Rattle.figures.specs.Literals.{repeated, feed}
use Rattle.figures.specs.ChainRefusals.{by_file, by_record, accepted}
use Rattle.figures.specs.RunRefusals.{by_state}
use Rattle.figures.specs.Figures.{table, all_right, right_rows}

-- every figure of the table is right
pub figures : (i : ℕ) → i < length table → (get_or table i (analyse feed, [])).1 ≡ answer_to (get_or table i (analyse feed, [])).0
unfolding all_right chain_numbers state_numbers repeated flat_map by_file by_record accepted by_state
figures = right_rows table (analyse feed, []) tt
