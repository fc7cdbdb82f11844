-- A chain and the one with its slots past n zero are alike. It stands alone, since an edit of `AlikeChains` changes its proof, too.
use Rattle.std.proofs.Math.Path.{refl}
use Rattle.std.proofs.Common.{sym, arith}
use Prim.Native.Nat.{◌≤◌}
use Rattle.words.specs.Rows.{none}
use Rattle.words.specs.Table.{slot_used}
use Rattle.chain.specs.Record.{row_of, work_of, trimmed}
use Rattle.chain.specs.declared.Chain.{Chain}
use Rattle.slots.specs.Chains.{AlikeChains}

-- a chain and the one with its slots past n zero
pub trimmed_alike : (c : Chain) → c.n ≤ 16 → AlikeChains c (trimmed c)
unfolding trimmed
trimmed_alike c few = record {
  n = refl;
  period = refl;
  rows = λ i l. sym (slot_used (row_of c) none 16 c.n i none (omega arith) l);
  work = λ i l. sym (slot_used (work_of c) 0 16 c.n i 0 (omega arith) l);
}
