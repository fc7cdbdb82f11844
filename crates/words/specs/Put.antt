-- Bytes put into a lent slice at a place.
--   Room l i k          k bytes from place i on lie inside l
--   Puts l i t m r      m is l with the text t stored from place i on and all else as it was; r is the place behind t
--   put_front           a text stored at the front: the text, then the rest of the list as it was
--   put_set, put_last   a store behind the text may come before it; the text's last byte first, then the bytes before it
--   puts_none, then     no text; one writer after the other
--   puts_length         a writer keeps the length
--   puts_take           a copy, one byte more
--   puts_part           a copy into the part of a slice that begins at i and is as long as the text
--   taken               the text stands at the front of what it was written to
-- "Stored" is the library's `sets`, to which a store past the end is none, so only `put_front` and `taken` ask for room.
use Rattle.std.specs.Prelude.{◌≡◌, refl, ◌≢◌, List, [], ◌∷◌, ◌++◌, ℕ, suc, ◌+◌, ◌-◌, ◌≤◌, ◌<◌, length, get_or, set, take, drop}
use Rattle.std.proofs.Common.{sym, ap, ◌∙◌, add-zero, zero-add, add-suc, suc-add, add-one, arith, length-append, append_assoc, take-suc, drop-drop, take_at}
use Rattle.std.proofs.lemmas.List.Edits.{sets, sets-eq}
use Rattle.std.proofs.lemmas.List.{set_comm}
use Rattle.std.proofs.Math.Seq.{length-sets}
use borrow.Rule.Slice.PartMut.{put_mid}

-- k bytes from place i on lie inside l
pub record Room (l : List ℕ) (i k : ℕ) : Type 0 where
  pub fits : i + k ≤ length l

-- what a writer does: t stands at i, all else is as it was, and r is the place behind t
pub record Puts (l : List ℕ) (i : ℕ) (t m : List ℕ) (r : ℕ) : Type 0 where
  pub next : r ≡ i + length t
  pub holds : m ≡ sets l i t

put_put : (l : List ℕ) (i : ℕ) (s t : List ℕ) → sets l i (s ++ t) ≡ sets (sets l i s) (i + length s) t
put_put l i [] t = ap (λ (k : ℕ). sets l k t) (sym (add-zero i))
put_put l i (a ∷ s) t =
    put_put (set l i a) (suc i) s t ∙ ap (λ (k : ℕ). sets (sets (set l i a) (suc i) s) k t) (suc-add i (length s) ∙ sym (add-suc i (length s)))

pub put_front : (l t : List ℕ) → length t ≤ length l → sets l 0 t ≡ t ++ drop (length t) l
put_front l t h = sets-eq t l 0 (omega arith) ∙ ap (λ (k : ℕ). t ++ drop k l) (zero-add (length t))

pub put_set : (l : List ℕ) (i : ℕ) (s : List ℕ) (j b : ℕ) → i + length s ≤ j → sets (set l j b) i s ≡ set (sets l i s) j b
put_set l i [] j b h = refl
put_set l i (a ∷ s) j b h =
    let ne : j ≢ i = λ e. omega arith in
    ap (λ (m : List ℕ). sets m (suc i) s) (set_comm l j i b a ne) ∙ put_set (set l i a) (suc i) s j b (omega arith)

pub put_last : (l : List ℕ) (i : ℕ) (s : List ℕ) (j b : ℕ) → j ≡ i + length s → sets (set l j b) i s ≡ sets l i (s ++ (b ∷ []))
put_last l i s j b e =
    put_set l i s j b (omega arith) ∙ ap (λ (k : ℕ). set (sets l i s) k b) e ∙ sym (put_put l i s (b ∷ []))

pub puts_none : {l : List ℕ} {i : ℕ} → Puts l i [] l i
puts_none {l} {i} = record { next = sym (add-zero i); holds = refl }

pub then : {l m o s t : List ℕ} {i j k : ℕ} → Puts l i s m j → Puts m j t o k → Puts l i (s ++ t) o k
then {l} {m} {o} {s} {t} {i} {j} {k} p q = record {
  next = omega (arith, p.next, q.next, length-append s t);
  holds = q.holds ∙ ap (λ (n : ℕ). sets m n t) p.next ∙ ap (λ (n : List ℕ). sets n (i + length s) t) p.holds ∙ sym (put_put l i s t);
}

pub puts_length : {l m t : List ℕ} {i k : ℕ} → Puts l i t m k → length m ≡ length l
puts_length {l} {m} {t} {i} p = ap length p.holds ∙ length-sets l i t

pub puts_take : {l m : List ℕ} {at k : ℕ} (s : List ℕ) (i : ℕ) → i < length s → Puts l at (take i s) m k → Puts l at (take (i + 1) s) (set m k (get_or s i 0)) (k + 1)
puts_take {l} {m} {at} {k} s i h p =
    let one : Puts m k (get_or s i 0 ∷ []) (set m k (get_or s i 0)) (k + 1) = record { next = refl; holds = refl } in
    rw (add-one i, take-suc s i 0 h) (then p one)

pub puts_part : {l t m : List ℕ} {i k : ℕ} → i + length t ≤ length l → k ≡ i + length t → m ≡ t → Puts l i t (put_mid i (k - i) l m) k
puts_part {l} {t} {m} {i} {k} room e f =
    let wide : k - i ≡ length t = omega arith in
    record { next = e; holds = rw (f, wide, sets-eq t l i room, drop-drop (length t) i l, append_assoc) }

pub taken : {l t m : List ℕ} {k : ℕ} → Puts l 0 t m k → k ≤ length l → take k m ≡ t
taken {l} {t} {m} {k} p h =
    let whole : length t ≡ k = omega (arith, p.next) in
    let room : length t ≤ length l = omega arith in
    ap (take k) (p.holds ∙ put_front l t room) ∙ take_at t _ k whole
