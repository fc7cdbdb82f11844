-- Numbers and lines written one behind the other, as the loops over columns and over queues have them.
use mathlib.Core.Path.{◌≡◌, sym, ap, ◌∙◌}
use mathlib.Core.List.{List, [], ◌∷◌, ◌++◌, append_assoc, append-nil}
use Prim.Native.Nat.{ℕ, zero, suc, ◌+◌, ◌<◌}
use native.Mathlib.Nat.{not-suc-le-zero}
use native.Mathlib.Numerals.{add-one}
use native.Mathlib.Omega.{arith}
use lib.ListN.{length, get_or, take}
use Rattle.words.specs.Writer.{Wrote, nothing, next}
use Rattle.words.specs.declared.Writer.{Writer}
use Rattle.words.specs.Flat.{flat, flat_more}
use Rattle.decimal.specs.Digits.{column}
use Rattle.reporttext.specs.Text.{numbers}

pub lines_none : (w : Writer) (f : ℕ → List ℕ) → Wrote w (flat f 0) w
unfolding flat
lines_none w f = nothing w

pub lines_more : {u v w : Writer} (f : ℕ → List ℕ) (i : ℕ) → Wrote u (flat f i) v → Wrote v (f i) w → Wrote u (flat f (i + 1)) w
lines_more f i p q = rw (flat_more f i) (next p q)

-- one number more of a list
numbers_next : (ns : List ℕ) (j : ℕ) → j < length ns → numbers (take (suc j) ns) ≡ numbers (take j ns) ++ column (get_or ns j 0) 44
unfolding numbers
numbers_next [] j h = absurd (not-suc-le-zero h)
numbers_next (n ∷ ns) zero h = append-nil (column n 44)
numbers_next (n ∷ ns) (suc j) h =
    ap (λ (t : List ℕ). column n 44 ++ t) (numbers_next ns j (omega arith)) ∙ sym (append_assoc (column n 44) (numbers (take j ns)) (column (get_or ns j 0) 44))

pub numbers_none : (w : Writer) → Wrote w (numbers []) w
unfolding numbers
numbers_none w = nothing w

pub numbers_more : {u v w : Writer} (ns : List ℕ) (j : ℕ) → j < length ns → Wrote u (numbers (take j ns)) v → Wrote v (column (get_or ns j 0) 44) w
    → Wrote u (numbers (take (j + 1) ns)) w
numbers_more ns j h p q = rw (add-one j, numbers_next ns j h) (next p q)
