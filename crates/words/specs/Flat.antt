-- Lists in a row: a table's rows, one behind the other.
--   flat f n       f 0, f 1, .. f (n - 1) in a row
--   flat_more      one list more
--   flat_length    of lists of one width w: w * n
--   flat_at        and what stands at w * i + j is f i's element j
use Rattle.std.specs.Prelude.{◌≡◌, List, [], ◌++◌}
use Rattle.std.proofs.Math.Path.{sym, ap}
use Rattle.std.proofs.Common.{◌∙◌, not-suc-le-zero, eq-or-lt_of_le, mul-zero, mul-le-mul_left, add-one}
use Rattle.std.proofs.Math.Logic.{⊎_elim}
use Prim.Native.Nat.{ℕ, zero, suc, ◌+◌, ◌*◌, ◌≤◌, ◌<◌}
use Rattle.std.proofs.Math.Nat.{mul-suc}
use native.Mathlib.Omega.{arith}
use Rattle.std.proofs.Math.ListN.{length, get_or, length-append, get_or-append}
use Rattle.std.proofs.Math.Seq.{get_or-append-add}

-- the lists f 0, f 1, .. f (n - 1) in a row
unfoldable pub flat : {A : Type 0} → (ℕ → List A) → ℕ → List A
flat f zero = []
flat f (suc n) = flat f n ++ f n

pub flat_more : {A : Type 0} (f : ℕ → List A) (n : ℕ) → flat f (n + 1) ≡ flat f n ++ f n
unfolding flat
flat_more f n = rw add-one

module _ {A : Type 0} (f : ℕ → List A) (w : ℕ) (wide : (i : ℕ) → length (f i) ≡ w) where
  pub flat_length : (n : ℕ) → length (flat f n) ≡ w * n
  unfolding flat
  flat_length zero = sym (mul-zero w)
  flat_length (suc n) = omega (arith, length-append (flat f n) (f n), wide n, flat_length n, mul-suc w n)

  pub flat_at : (n i j : ℕ) (d : A) → i < n → j < w → get_or (flat f n) (w * i + j) d ≡ get_or (f i) j d
  unfolding flat
  flat_at zero i j d h l = absurd (not-suc-le-zero h)
  flat_at (suc n) i j d h l = ⊎_elim
      (λ (e : suc i ≡ suc n).
      let g : i ≡ n = omega arith in
      ap (λ (k : ℕ). get_or (flat f n ++ f n) k d) (index n g) ∙ get_or-append-add (flat f n) (f n) j d ∙ ap (λ (k : ℕ). get_or (f k) j d) (sym g))
      (λ (q : suc i < suc n). get_or-append (flat f n) (f n) d (w * i + j) (inside n q) ∙ flat_at n i j d (omega arith) l)
      (eq-or-lt_of_le h)
    where
      index : (n : ℕ) → i ≡ n → w * i + j ≡ length (flat f n) + j
      index n g = ap (λ (k : ℕ). w * k + j) g ∙ ap (λ (k : ℕ). k + j) (sym (flat_length n))

      inside : (n : ℕ) → suc i < suc n → w * i + j < length (flat f n)
      inside n q = let le : suc i ≤ n = omega arith in omega (arith, flat_length n, mul-le-mul_left w le, mul-suc w i)
