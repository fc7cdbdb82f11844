-- `immediate::immediate` meets its contract: the chain may not run, or a count would pass the limit, or the run is driven.
use Rattle.std.proofs.Common.{arith}
use Rattle.std.proofs.lemmas.Grind.{common_steps}
use Rattle.immediate.proofs.Answers.{chain_refuses, sound_chain, length_refuses, bounds, ran}
use Rattle.immediate.proofs.immediate.Goals as goal

pub returns-in_err-check_chain : goal.returns-in_err-check_chain
returns-in_err-check_chain c = grind (arith, common_steps, chain_refuses _ c.args.k _ c.in_err-check_chain.ensures)

pub check_length-requires : goal.check_length-requires
check_length-requires c = sound_chain _ c.args.k c.in_ok-check_chain.ensures

pub returns-in_err-check_length : goal.returns-in_err-check_length
returns-in_err-check_length c = grind (arith, common_steps, length_refuses _ c.args.k c.in_ok-check_chain.ensures _ c.in_err-check_length.ensures)

pub driven-requires : goal.driven-requires
driven-requires c = bounds _ c.args.k c.in_ok-check_chain.ensures c.in_ok-check_length.ensures

pub returns : goal.returns
returns c = ran _ _ c.in_ok-check_chain.ensures c.in_ok-check_length.ensures c.driven.ensures
