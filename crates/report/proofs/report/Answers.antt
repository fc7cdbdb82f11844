-- `report::report` meets its contract: its three ways out, as `Ways` has them.
use Rattle.std.proofs.Common.{rules}
use Rattle.chainfile.proofs.Writing.{output_refused}
use Rattle.report.proofs.Ways.{read_refused, read_sound, size_refused, few_queues, text_written}
use Rattle.report.proofs.report.Goals as goal

pub returns-in_err-chain : goal.returns-in_err-chain
returns-in_err-chain c = output_refused _ _ (search rules) (read_refused _ _ c.in_err-chain.field-0.0 c.in_err-chain.ensures)

pub sized-requires : goal.sized-requires
sized-requires c = read_sound _ _ c.in_ok-chain.ensures

pub returns-in_err-analysis : goal.returns-in_err-analysis
returns-in_err-analysis c = output_refused _ _ (search rules) (size_refused _ _ c.in_ok-chain.ensures _ c.in_err-analysis.field-0.0 c.in_err-analysis.ensures)

pub write_text-requires : goal.write_text-requires
write_text-requires c = few_queues _ _ c.in_ok-chain.ensures _ c.in_ok-analysis.ensures

pub returns : goal.returns
returns c = text_written _ _ c.in_ok-chain.ensures _ c.in_ok-analysis.ensures c.write_text.ensures
