-- Tables of a fixed number of slots, as the arrays of a record are, of which the first few are in use.
--   tab N f            f 0, f 1, .. f (N - 1)
--   slots f z N n      N slots: the first n hold f, the others z
--   length_tab, tab_at, is_tab
--                      what characterises a table: its length, its elements, and that they are all there is to it
--   tab_last, _more    one element more, at the end
--   tab_alike          tables of equal elements are equal
--   slot_used, _free, is_slots
--                      what a slot below n holds, what one from n on does, and that this is all there is to it
--   slots_none, _more, -end, _whole
--                      a table filled slot by slot: at the start, after one slot more, at the end, and where no slot is left
--   slots_alike        tables that are filled alike are equal
--   slots_again        a table filled with its own slots is the same table
--   below_next         what holds of a slot and of each before it holds of each before the next
use Rattle.std.specs.Prelude.{◌≡◌, Bool, true, false, cond, ◌≢◌, ltb, length, get_or, set, replicate}
use Rattle.std.proofs.Math.Path.{refl, ap, ap₂}
use Rattle.std.proofs.Common.{sym, ◌∙◌, ⊎_elim, eq-or-lt_of_le, add-one, arith, lt-ltb, le-ltb, ltb-true, ltb-false, length-set, get_or-set_same, get_or-set_other, ext_get_or}
use mathlib.Core.List.{List, [], ◌∷◌, ◌++◌}
use Prim.Native.Nat.{ℕ, zero, suc, ◌+◌, ◌≤◌, ◌<◌}
use Rattle.std.proofs.lemmas.List.{length-replicate, get_or-replicate}

-- f 0, f 1, .. f (n - 1)
unfoldable pub tab : {A : Type 0} → ℕ → (ℕ → A) → List A
tab zero f = []
tab (suc n) f = f zero ∷ tab n (λ k. f (suc k))

module _ {A : Type 0} where
  pub length_tab : (n : ℕ) (f : ℕ → A) → length (tab n f) ≡ n
  unfolding tab
  length_tab zero f = refl
  length_tab (suc n) f = ap suc (length_tab n (λ k. f (suc k)))

  pub tab_at : (n : ℕ) (f : ℕ → A) (i : ℕ) (d : A) → i < n → get_or (tab n f) i d ≡ f i
  unfolding tab
  tab_at zero f i d l = absurd (omega arith)
  tab_at (suc n) f zero d l = refl
  tab_at (suc n) f (suc i) d l = tab_at n (λ k. f (suc k)) i d (omega arith)

  pub is_tab : (n : ℕ) (f : ℕ → A) (d : A) (l : List A) → length l ≡ n → ((i : ℕ) → i < n → get_or l i d ≡ f i) → l ≡ tab n f
  is_tab n f d l e h =
      ext_get_or d l (tab n f) (e ∙ sym (length_tab n f)) (λ i lt. let m : i < n = omega (arith, e) in h i m ∙ sym (tab_at n f i d m))

  pub tab_last : (n : ℕ) (f : ℕ → A) → tab (suc n) f ≡ tab n f ++ (f n ∷ [])
  unfolding tab
  tab_last zero f = refl
  tab_last (suc n) f = ap (λ (l : List A). f zero ∷ l) (tab_last n (λ k. f (suc k)))

  pub tab_more : (n : ℕ) (f : ℕ → A) → tab (n + 1) f ≡ tab n f ++ (f n ∷ [])
  tab_more n f = rw add-one (tab_last n f)

  pub tab_alike : (n : ℕ) (f g : ℕ → A) → ((i : ℕ) → i < n → f i ≡ g i) → tab n f ≡ tab n g
  unfolding tab
  tab_alike zero f g h = refl
  tab_alike (suc n) f g h = ap₂ ◌∷◌ (h zero (omega arith)) (tab_alike n (λ k. f (suc k)) (λ k. g (suc k)) (λ i l. h (suc i) (omega arith)))

module _ {A : Type 0} (f : ℕ → A) (z : A) where
  -- N slots, of which the first n hold f 0 .. f (n - 1) and the others z
  abbrev pub slots : ℕ → ℕ → List A
  slots N n = tab N (λ j. cond (ltb j n) (f j) z)

  pub slot_used : (N n i : ℕ) (d : A) → i < N → i < n → get_or (slots N n) i d ≡ f i
  slot_used N n i d l h = tab_at N _ i d l ∙ simp (lt-ltb i n h)

  pub slot_free : (N n i : ℕ) (d : A) → i < N → n ≤ i → get_or (slots N n) i d ≡ z
  slot_free N n i d l h = tab_at N _ i d l ∙ simp (le-ltb i n h)

  pub is_slots : (N n : ℕ) (d : A) (l : List A) → length l ≡ N → ((i : ℕ) → i < N → i < n → get_or l i d ≡ f i) → ((i : ℕ) → i < N → n ≤ i → get_or l i d ≡ z) → l ≡ slots N n
  is_slots N n d l e used free = is_tab N _ d l e (λ i h. by i h (ltb i n) refl)
    where
      by : (i : ℕ) → i < N → (t : Bool) → ltb i n ≡ t → get_or l i d ≡ cond t (f i) z
      by i h true q = used i h (ltb-true _ _ q)
      by i h false q = free i h (ltb-false _ _ q)

  pub slots_none : (N : ℕ) → replicate N z ≡ slots N 0
  slots_none N = is_slots N 0 z (replicate N z) (length-replicate N z) (λ i l h. absurd (omega arith)) (λ i l h. get_or-replicate N i z z l)

  pub slots_more : (N i : ℕ) (t : List A) (v : A) → i < N → t ≡ slots N i → v ≡ f i → set t i v ≡ slots N (i + 1)
  slots_more N i t v h e g = rw (e, g) (is_slots N (i + 1) z (set (slots N i) i (f i)) (length-set (slots N i) i (f i) ∙ length_tab N _) used free)
    where
      used : (j : ℕ) → j < N → j < i + 1 → get_or (set (slots N i) i (f i)) j z ≡ f j
      used j l m = by (ltb j i) refl
        where
          by : (b : Bool) → ltb j i ≡ b → get_or (set (slots N i) i (f i)) j z ≡ f j
          by true q =
              let lt : j < i = ltb-true _ _ q in
              let ne : j ≢ i = λ p. omega arith in
              get_or-set_other (slots N i) i j (f i) z ne ∙ slot_used N i j z l lt
          by false q =
              let le : i ≤ j = ltb-false _ _ q in
              let p : j ≡ i = omega arith in
              let inside : i < length (slots N i) = rw (length_tab N (λ k. cond (ltb k i) (f k) z)) h in
              rw p (get_or-set_same (slots N i) i (f i) z inside)

      free : (j : ℕ) → j < N → i + 1 ≤ j → get_or (set (slots N i) i (f i)) j z ≡ z
      free j l m =
          let ne : j ≢ i = λ p. omega arith in
          get_or-set_other (slots N i) i j (f i) z ne ∙ slot_free N i j z l (omega arith)

  pub slots_whole : (N : ℕ) → slots N N ≡ tab N f
  slots_whole N = tab_alike N _ f (λ i l. simp (lt-ltb i N l))

  pub slots_end : (N i n : ℕ) → i ≤ n → n ≤ i → (l : List A) → l ≡ slots N i → l ≡ slots N n
  slots_end N i n g h l e = let q : n ≡ i = omega arith in rw q e

pub slots_alike : {A : Type 0} (f g : ℕ → A) (z : A) (N n : ℕ) → ((i : ℕ) → i < n → f i ≡ g i) → slots f z N n ≡ slots g z N n
slots_alike f g z N n h =
    is_slots g z N n z (slots f z N n) (length_tab N _) (λ i l m. slot_used f z N n i z l m ∙ h i m) (λ i l m. slot_free f z N n i z l m)

pub slots_again : {A : Type 0} (f : ℕ → A) (z : A) (N n : ℕ) → slots (λ i. get_or (slots f z N n) i z) z N n ≡ slots f z N n
slots_again f z N n =
    sym (is_slots _ z N n z (slots f z N n) (length_tab N _) (λ i l m. refl) (λ i l m. slot_free f z N n i z l m))

pub below_next : {P : ℕ → Type 0} (i : ℕ) → P i → ((j : ℕ) → j < i → P j) → (j : ℕ) → j < i + 1 → P j
below_next {P} i here before j l = ⊎_elim (λ (e : j ≡ i). rw e here) (λ g. before j g) (eq-or-lt_of_le {n = j} {m = i} (omega arith))
