-- Words of 32 bits, the lowest byte first (01, Chain file: "all words are 32 bits, little-endian").
--   word w              the four bytes of w
--   bytes_of ws          the bytes of words in a row
--   four_at s at        the four bytes of s from `at` on, as a number
--   word_at s at         the word of s at `at`; 0 where it would pass the end
--   Bytes s             each element of s is a machine's byte
--   part s at k         the k bytes of s from `at` on
--   part_add            a part, then the one behind it
--   Alike s t at k      the k bytes from `at` on are the same in s and t
use Rattle.std.specs.Prelude.{◌≡◌, cond, List, [], ◌∷◌, ◌++◌, ℕ, suc, ◌+◌, ◌*◌, ◌/◌, ◌%◌, ◌^◌, ◌≤◌, ◌<◌, leb, length, get_or, take, drop}
use Rattle.std.proofs.Common.{ap, ◌∙◌, mod-eq_of_lt, arith, add-one, take-add, drop-drop, drop-cons}
use Rattle.std.proofs.Math.Nat.{div-div-eq-div-mul, div-add-mod}
use Rattle.std.proofs.Math.Numerals.{add-two, add-three}

-- the four bytes of a word
abbrev pub word : ℕ → List ℕ
word w = (w % 256) ∷ (w / 256 % 256) ∷ (w / 65536 % 256) ∷ (w / 16777216 % 256) ∷ []

-- the bytes of words in a row
unfoldable pub bytes_of : List ℕ → List ℕ
bytes_of [] = []
bytes_of (w ∷ ws) = word w ++ bytes_of ws

-- the four bytes from `at` on, the lowest first
unfoldable pub four_at : List ℕ → ℕ → ℕ
four_at s at = get_or s at 0 + 256 * get_or s (at + 1) 0 + 65536 * get_or s (at + 2) 0 + 16777216 * get_or s (at + 3) 0

-- the word whose first byte stands at `at`; 0 where it would pass the end
unfoldable pub word_at : List ℕ → ℕ → ℕ
unfolding four_at
word_at s at = cond (leb (at + 4) (length s)) (four_at s at) 0

pub carried : (w a b d r s t : ℕ) → 256 * a + r ≡ w → 256 * b + s ≡ a → 256 * d + t ≡ b → r + 256 * s + 65536 * t + 16777216 * d ≡ w
carried w a b d r s t e f g = omega arith

pub joined : (w : ℕ) → w < 2 ^ 32 → w % 256 + 256 * (w / 256 % 256) + 65536 * (w / 65536 % 256) + 16777216 * (w / 16777216 % 256) ≡ w
joined w h =
    let top : w / 16777216 % 256 ≡ w / 16777216 = mod-eq_of_lt (omega arith) in
    rw top
    (carried w (w / 256) (w / 65536) (w / 16777216) _ _ _ (div-add-mod w 256)
    (rw (div-div-eq-div-mul w 256 256) at (div-add-mod (w / 256) 256))
    (rw (div-div-eq-div-mul w 65536 256) at (div-add-mod (w / 65536) 256)))

-- a machine's bytes: each element is below 256
abbrev pub Bytes : List ℕ → Type 0
Bytes s = (i : ℕ) → get_or s i 0 < 256

-- the k bytes from `at` on
abbrev pub part : List ℕ → ℕ → ℕ → List ℕ
part s at k = take k (drop at s)

pub part_add : (s : List ℕ) (at k m : ℕ) → part s at (k + m) ≡ part s at k ++ part s (at + k) m
part_add s at k m = take-add k m (drop at s) ∙ ap (λ (l : List ℕ). part s at k ++ take m l) (drop-drop k at s)

pub part_four : (s : List ℕ) (at : ℕ) → at + 4 ≤ length s → part s at 4 ≡ get_or s at 0 ∷ get_or s (at + 1) 0 ∷ get_or s (at + 2) 0 ∷ get_or s (at + 3) 0 ∷ []
part_four s at h =
    let one = drop-cons s at 0 (omega arith) in
    let two = drop-cons s (suc at) 0 (omega arith) in
    let three = drop-cons s (suc (suc at)) 0 (omega arith) in
    let four = drop-cons s (suc (suc (suc at))) 0 (omega arith) in
    rw (add-one, add-two, add-three, one, two, three, four)

-- the k bytes from `at` on are the same in both
abbrev pub Alike : List ℕ → List ℕ → ℕ → ℕ → Type 0
Alike s t at k = (i : ℕ) → at ≤ i → i < at + k → get_or s i 0 ≡ get_or t i 0
