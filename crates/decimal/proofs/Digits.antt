-- A number's digits stored the last one first: with those before it stored behind, the whole text is there.
--   left k n    the digits that are left where k are: those of n, or none
use Rattle.std.specs.Prelude.{◌≡◌, refl, List, [], ℕ, zero, suc, ◌+◌, ◌/◌, ◌≤◌, ◌<◌, length, set}
use Rattle.std.proofs.Common.{ap, ◌∙◌, ⊎_elim, add-zero, arith}
use Rattle.std.proofs.lemmas.List.Edits.{sets}
use Rattle.words.specs.Put.{put_last}
use Rattle.decimal.specs.Digits.{below, last_digit, decimal}
use Rattle.decimal.proofs.DigitsLaws.{decimal_one, decimal_more, decimal_some, decimal_length}

abbrev pub left : ℕ → ℕ → List ℕ
left zero n = []
left (suc k) n = decimal n

tens : (k n : ℕ) → suc (suc k) ≡ length (decimal n) → 10 ≤ n
tens k n e = ⊎_elim (λ (h : n < 10). absurd (omega (arith, ap length (decimal_one n h)))) (λ h. h) (below n 10)

ones : (n : ℕ) → 1 ≡ length (decimal n) → n < 10
ones n e = ⊎_elim (λ h. h) (λ (h : 10 ≤ n). absurd (omega (arith, decimal_length n h, decimal_some (n / 10)))) (below n 10)

-- the last digit of those that are left
pub one_less : (k n : ℕ) → suc k ≡ length (decimal n) → k ≡ length (left k (n / 10))
one_less zero n e = refl
one_less (suc k) n e = omega (arith, decimal_length n (tens k n e))

pub put_digit : (l : List ℕ) (at k n d : ℕ) → suc k ≡ length (decimal n) → d ≡ last_digit n → sets (set l (at + k) d) at (left k (n / 10)) ≡ sets l at (decimal n)
put_digit l at zero n d e f = rw (f, add-zero, decimal_one n (ones n e))
put_digit l at (suc k) n d e f =
    let h : 10 ≤ n = tens k n e in
    put_last l at (decimal (n / 10)) (at + suc k) d (omega (arith, decimal_length n h)) ∙ rw (f, decimal_more n h)
