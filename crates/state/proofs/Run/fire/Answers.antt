-- `state::Run::fire` meets its contract: what its three checks have passed may fire.
use Rattle.std.proofs.Common.{arith}
use Rattle.chain.proofs.Passing.{passing}
use Rattle.state.proofs.FireLaws.{fire_parts, fine_firing}
use Rattle.state.proofs.Run.fire.Goals as goal

pub effect-requires : goal.effect-requires
effect-requires c = fine_firing _ _ _ (grind (arith, passing, fire_parts))
