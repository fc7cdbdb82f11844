-- Laws of specs/Words.antt that rest on a definition which an edit of must-fail/ changes.
-- Words of 32 bits, the lowest byte first (01, Chain file: "all words are 32 bits, little-endian").
--   word_there, _past   its two cases
--   lowest_first        one word in numbers
--   bytes_append, _length, then_words
--                       words in a row: their bytes are in a row, four to a word, and written one after the other
--   word_at_law         word k of the bytes of words is word k: the round trip of every word
--   word_back           the bytes of a word that was read are the bytes it was read from
--   word_alike          equal bytes give equal words
use Rattle.std.specs.Prelude.{◌≡◌, refl, List, [], ◌∷◌, ◌++◌, ℕ, zero, suc, ◌+◌, ◌*◌, ◌/◌, ◌%◌, ◌^◌, ◌≤◌, ◌<◌, length, get_or}
use Rattle.std.proofs.Common.{sym, ap, ◌∙◌, arith, le-leb, get_or-append-add}
use Rattle.std.proofs.lemmas.Bool.{lt-leb}
use Rattle.words.specs.Put.{Puts, then}
use Rattle.words.specs.Words.{word, bytes_of, four_at, word_at, joined, Bytes, part, part_four, Alike}

pub word_there : (s : List ℕ) (at : ℕ) → at + 4 ≤ length s → word_at s at ≡ four_at s at
unfolding word_at
word_there s at h = simp (le-leb _ _ h)

pub word_past : (s : List ℕ) (at : ℕ) → length s < at + 4 → word_at s at ≡ 0
unfolding word_at
word_past s at h = simp (lt-leb _ _ h)

-- "little-endian", by numbers alone: the bytes 1, 2, 3 and 4 are the word 1 + 2 × 256 + 3 × 65,536 + 4 × 16,777,216, read and written
pub lowest_first : (word_at (1 ∷ 2 ∷ 3 ∷ 4 ∷ []) 0 ≡ 67305985) × (bytes_of (67305985 ∷ []) ≡ 1 ∷ 2 ∷ 3 ∷ 4 ∷ [])
unfolding word_at bytes_of
lowest_first = (refl, refl)

pub bytes_append : (s t : List ℕ) → bytes_of (s ++ t) ≡ bytes_of s ++ bytes_of t
unfolding bytes_of
bytes_append [] t = refl
bytes_append (w ∷ s) t = ap (λ (l : List ℕ). word w ++ l) (bytes_append s t)

pub bytes_length : (s : List ℕ) → length (bytes_of s) ≡ 4 * length s
unfolding bytes_of
bytes_length [] = refl
bytes_length (w ∷ s) = omega (arith, bytes_length s)

pub then_words : {l m o : List ℕ} {i j k : ℕ} (s t : List ℕ) → Puts l i (bytes_of s) m j → Puts m j (bytes_of t) o k → Puts l i (bytes_of (s ++ t)) o k
then_words s t p q = rw (bytes_append s t) (then p q)

shift : (w : ℕ) (r : List ℕ) (k j : ℕ) → get_or (word w ++ r) (4 * suc k + j) 0 ≡ get_or r (4 * k + j) 0
shift w r k j =
    let e : 4 * suc k + j ≡ 4 + (4 * k + j) = omega arith in
    ap (λ (n : ℕ). get_or (word w ++ r) n 0) e ∙ get_or-append-add (word w) r (4 * k + j) 0

shift0 : (w : ℕ) (r : List ℕ) (k : ℕ) → get_or (word w ++ r) (4 * suc k) 0 ≡ get_or r (4 * k) 0
shift0 w r k =
    let e : 4 * suc k ≡ 4 + 4 * k = omega arith in
    ap (λ (n : ℕ). get_or (word w ++ r) n 0) e ∙ get_or-append-add (word w) r (4 * k) 0

four_at_law : (ws : List ℕ) (k : ℕ) → get_or ws k 0 < 2 ^ 32 → four_at (bytes_of ws) (4 * k) ≡ get_or ws k 0
unfolding four_at bytes_of
four_at_law [] zero h = refl
four_at_law [] (suc k) h = refl
four_at_law (w ∷ ws) zero h = joined w h
four_at_law (w ∷ ws) (suc k) h =
    rw (shift0 w (bytes_of ws) k, shift w (bytes_of ws) k 1, shift w (bytes_of ws) k 2, shift w (bytes_of ws) k 3) (four_at_law ws k h)

pub word_at_law : (ws : List ℕ) (k : ℕ) → k < length ws → get_or ws k 0 < 2 ^ 32 → word_at (bytes_of ws) (4 * k) ≡ get_or ws k 0
word_at_law ws k l h = word_there (bytes_of ws) (4 * k) (omega (arith, bytes_length ws)) ∙ four_at_law ws k h

-- four bytes, joined to a word, are the word's bytes
split : (a b c d : ℕ) → a < 256 → b < 256 → c < 256 → d < 256 → word (a + 256 * b + 65536 * c + 16777216 * d) ≡ a ∷ b ∷ c ∷ d ∷ []
split a b c d ha hb hc hd =
    let w : ℕ = a + 256 * b + 65536 * c + 16777216 * d in
    rw (low w a (b + 256 * c + 65536 * d) (omega arith) ha, low (w / 256) b (c + 256 * d) (omega arith) hb, low (w / 65536) c d (omega arith) hc, low (w / 16777216) d 0 (omega arith) hd)
  where
    low : (v a r : ℕ) → v ≡ a + 256 * r → a < 256 → v % 256 ≡ a
    low v a r e h = omega arith

pub word_back : (s : List ℕ) (at : ℕ) → Bytes s → at + 4 ≤ length s → bytes_of (word_at s at ∷ []) ≡ part s at 4
unfolding four_at bytes_of
word_back s at b h = ap word (word_there s at h) ∙ split _ _ _ _ (b at) (b (at + 1)) (b (at + 2)) (b (at + 3)) ∙ sym (part_four s at h)

-- in lists of one length, since a word that would pass the end is 0
pub word_alike : (s t : List ℕ) (at : ℕ) → length s ≡ length t → Alike s t at 4 → word_at s at ≡ word_at t at
unfolding word_at
word_alike s t at e h = rw (e, h at (omega arith) (omega arith), h (at + 1) (omega arith) (omega arith), h (at + 2) (omega arith) (omega arith), h (at + 3) (omega arith) (omega arith))
