-- The slots of a chain past n are not read: chains that differ only there have the same answers (01, Firing: "the slots past n are neither
-- read nor changed").
--   AlikeChains c d          two chains that differ in slots past n only
--   flat_alike               lists in a row that are equal one by one
use Rattle.std.specs.Prelude.{◌≡◌}
use Rattle.std.proofs.Math.Path.{refl, ap, ap₂}
use Rattle.std.proofs.Common.{◌∙◌, arith}
use mathlib.Core.List.{List, ◌++◌}
use Prim.Native.Nat.{ℕ, zero, suc, ◌<◌}
use Rattle.words.specs.Flat.{flat}
use Rattle.words.specs.Table.{tab, tab_alike}
use Rattle.chain.specs.Record.{row_of, work_of}
use Rattle.chain.specs.declared.Chain.{Chain}

-- two chains that agree on all but the slots past n
pub record AlikeChains (c d : Chain) : Type 0 where
  pub n : c.n ≡ d.n
  pub period : c.period ≡ d.period
  pub rows : (i : ℕ) → i < c.n → row_of c i ≡ row_of d i
  pub work : (i : ℕ) → i < c.n → work_of c i ≡ work_of d i

-- tables of equal length and equal elements are equal
pub tabs_alike : {A : Type 0} {n m : ℕ} (f g : ℕ → A) → n ≡ m → ((i : ℕ) → i < n → f i ≡ g i) → tab n f ≡ tab m g
tabs_alike {n = n} f g e h = tab_alike n f g h ∙ ap (λ (k : ℕ). tab k g) e

-- and so are lists of them in a row
pub flat_alike : {A : Type 0} (f g : ℕ → List A) (n : ℕ) → ((i : ℕ) → i < n → f i ≡ g i) → flat f n ≡ flat g n
unfolding flat
flat_alike f g zero h = refl
flat_alike f g (suc n) h = ap₂ ◌++◌ (flat_alike f g n (λ i l. h i (omega arith))) (h n (omega arith))
