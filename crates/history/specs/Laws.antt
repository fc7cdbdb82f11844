-- The laws of every permitted history of an accepted chain, from a fresh start (01, Firing, and demand 3).
--   fresh_slots              a fresh start has a slot for each node and queue
use Rattle.std.specs.Prelude.{ℕ}
use Rattle.std.proofs.Common.{arith}
use Rattle.std.proofs.lemmas.List.{length-replicate}
use Rattle.words.specs.Table.{length_tab}
use Rattle.chain.specs.Sound.{Sound}
use Rattle.chain.specs.declared.Chain.{Chain}
use Rattle.state.specs.State.{fresh_run}
use Rattle.state.specs.Fired.{Slots}

-- a fresh start has a count for each node and a slot for each queue
pub fresh_slots : (c : Chain) → Sound c → Slots c.n (fresh_run c)
unfolding fresh_run
fresh_slots c a = record { counts = omega (arith, a.count.1, length-replicate {A = ℕ} 17 0); held = rw (length_tab 16 _) a.count.1 }
