-- Texts cut at a byte.
--   Without b t         no byte of t is b (Reports)
--   cut b t             the pieces of t between its bytes b
--   cut_one, cut_more   what characterises them: a text without b is one piece; what stands before the first b is a piece, and the others are those of the rest
--   cut_same            texts of the same pieces are the same text
use Rattle.std.specs.Prelude.{◌≡◌, refl, cond, ◌≢◌, List, [], ◌∷◌, ◌++◌, ℕ, eqb, drop}
use Rattle.std.proofs.Common.{sym, ap, ◌∙◌, arith, eq-eqb, ne_eqb}
use Rattle.std.proofs.Math.Logic.{by_cases}
use Rattle.std.proofs.Math.Decide.{ℕ_discrete}
use Rattle.ardenquill.specs.Reports.{occurrences, Without}

-- a byte before the first piece
unfoldable onto : ℕ → List (List ℕ) → List (List ℕ)
onto a [] = (a ∷ []) ∷ []
onto a (s ∷ ss) = (a ∷ s) ∷ ss

-- the pieces between the bytes b
unfoldable pub cut : ℕ → List ℕ → List (List ℕ)
unfolding onto
cut b [] = [] ∷ []
cut b (a ∷ t) = cond (eqb a b) ([] ∷ cut b t) (onto a (cut b t))

-- a text without b begins with another byte, and goes on without it
without_tail : (b a : ℕ) (s : List ℕ) → Without b (a ∷ s) → (a ≢ b) × Without b s
unfolding occurrences
without_tail b a s w =
    let other : a ≢ b = λ e. omega (arith, simp (eq-eqb a b e) at w.none) in
    (other, record { none = omega (arith, simp (ne_eqb a b other) at w.none) })

pub cut_one : (b : ℕ) (s : List ℕ) → Without b s → cut b s ≡ s ∷ []
unfolding cut onto
cut_one b [] w = refl
cut_one b (a ∷ s) w =
    let t = without_tail b a s w in
    simp (ne_eqb a b t.0) (ap (onto a) (cut_one b s t.1))

pub cut_more : (b : ℕ) (s t : List ℕ) → Without b s → cut b (s ++ (b ∷ t)) ≡ s ∷ cut b t
unfolding cut onto
cut_more b [] t w = simp (eq-eqb b b refl)
cut_more b (a ∷ s) t w =
    let r = without_tail b a s w in
    simp (ne_eqb a b r.0) (ap (onto a) (cut_more b s t r.1))

-- texts in a row, b before each
led : ℕ → List (List ℕ) → List ℕ
led b [] = []
led b (s ∷ ss) = b ∷ (s ++ led b ss)

led_onto : (b a : ℕ) (ss : List (List ℕ)) → led b (onto a ss) ≡ b ∷ a ∷ drop 1 (led b ss)
unfolding led onto
led_onto b a [] = refl
led_onto b a (s ∷ ss) = refl

-- so t is got back from its pieces
led_cut : (b : ℕ) (t : List ℕ) → led b (cut b t) ≡ b ∷ t
unfolding cut led
led_cut b [] = refl
led_cut b (a ∷ t) = by_cases (ℕ_discrete a b)
    (λ e. simp (eq-eqb a b e) (rw e (ap (λ (s : List ℕ). b ∷ s) (led_cut b t))))
    (λ n. simp (ne_eqb a b n) (led_onto b a (cut b t) ∙ ap (λ (s : List ℕ). b ∷ a ∷ drop 1 s) (led_cut b t)))

pub cut_same : (b : ℕ) {s t : List ℕ} → cut b s ≡ cut b t → s ≡ t
cut_same b {s} {t} e = ap (drop 1) (sym (led_cut b s) ∙ ap (led b) e ∙ led_cut b t)
