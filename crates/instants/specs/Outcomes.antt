-- The three ways in which a tick ends (01, Firing), of a state that passes 17.
--   Dated c u                  no node over threshold in u has an index past the limit on its way
use Rattle.std.specs.Prelude.{ℕ, suc, ◌<◌}
use Rattle.chain.specs.declared.Chain.{Chain}
use Rattle.state.specs.Fired.{Over}
use Rattle.state.specs.declared.Run.{Run}
use Rattle.instants.specs.Lacking.{Within}

-- no node over threshold lacks its deadline
abbrev pub Dated : Chain → Run → Type 0
Dated c u = (j : ℕ) → j < c.n → Over c u (suc j) → Within c u (suc j)
