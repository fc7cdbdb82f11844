-- Laws of specs/Rows.antt that rest on a definition which an edit of must-fail/ changes.
-- Queue rows: five words in a row (01, Chain file: "a queue row has five words").
--   row_there, _past  its two cases
--   row_made          five words, read where the row is there, are the row
--   table_back        the bytes of a table that was read row by row are the bytes it was read from
--   row_back          and so are those of a row
--   row_alike         equal bytes give equal rows
use Rattle.std.specs.Prelude.{◌≡◌, List, [], ◌∷◌, ◌++◌, ℕ, zero, suc, ◌+◌, ◌*◌, ◌≤◌, ◌<◌, length}
use Rattle.std.proofs.Common.{sym, ap, ap₂, ◌∙◌, add-zero, mul-zero, mul-suc, arith, le-leb}
use Rattle.std.proofs.lemmas.Bool.{lt-leb}
use Rattle.words.specs.Flat.{flat}
use Rattle.words.specs.Words.{bytes_of, word_at, Bytes, part, part_add, Alike}
use Rattle.words.proofs.WordsLaws.{bytes_append, word_back, word_alike}
use Rattle.words.specs.declared.Queue.{Queue}
use Rattle.words.specs.Rows.{none, row, row_from, row_at, same_row}

pub row_there : (s : List ℕ) (at : ℕ) → at + 20 ≤ length s → row_at s at ≡ row_from s at
unfolding row_at
row_there s at h = simp (le-leb _ _ h)

pub row_past : (s : List ℕ) (at : ℕ) → length s < at + 20 → row_at s at ≡ none
unfolding row_at
row_past s at h = simp (lt-leb _ _ h)

pub row_made : (s : List ℕ) (at : ℕ) {p τ c b z : ℕ} → at + 20 ≤ length s → p ≡ word_at s at → τ ≡ word_at s (at + 4) → c ≡ word_at s (at + 8) → b ≡ word_at s (at + 12) → z ≡ word_at s (at + 16)
    → record { produce = p; threshold = τ; consume = c; capacity = b; reserved = z } ≡ row_at s at
row_made s at h e f g k l = same_row e f g k l ∙ sym (row_there s at h)

-- the table of n rows, w bytes each, that stands at `at`
pub table_back : (s : List ℕ) (at w : ℕ) (f : ℕ → List ℕ) (n : ℕ) → ((i : ℕ) → i < n → bytes_of (f i) ≡ part s (at + w * i) w) → bytes_of (flat f n) ≡ part s at (w * n)
unfolding flat bytes_of
table_back s at w f zero h = rw (mul-zero w)
table_back s at w f (suc n) h =
    bytes_append (flat f n) (f n)
    ∙ ap₂ ◌++◌ (table_back s at w f n (λ i l. h i (omega arith))) (h n (omega arith))
    ∙ sym (part_add s at (w * n) w)
    ∙ ap (part s at) (sym (mul-suc w n))

-- a row is a table of five words
pub row_back : (s : List ℕ) (at : ℕ) → Bytes s → at + 20 ≤ length s → bytes_of (row (row_at s at)) ≡ part s at 20
unfolding flat
row_back s at b h =
    ap (λ (q : Queue). bytes_of (row q)) (row_there s at h)
    ∙ rw (add-zero at) at (table_back s at 4 (λ i. word_at s (at + 4 * i) ∷ []) 5 (λ i l. word_back s (at + 4 * i) b (omega arith)))

pub row_alike : (s t : List ℕ) (at : ℕ) → length s ≡ length t → Alike s t at 20 → row_at s at ≡ row_at t at
unfolding row_at
row_alike s t at e h = rw (
  e,
  word at (omega arith) (omega arith),
  word (at + 4) (omega arith) (omega arith),
  word (at + 8) (omega arith) (omega arith),
  word (at + 12) (omega arith) (omega arith),
  word (at + 16) (omega arith) (omega arith),
)
  where
    word : (o : ℕ) → at ≤ o → o + 4 ≤ at + 20 → word_at s o ≡ word_at t o
    word o l m = word_alike s t o e (λ i p q. h i (omega arith) (omega arith))
