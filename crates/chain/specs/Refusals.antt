-- Refusals, and the order in which checks speak (01, Numbers a call may refuse with).
--   refused N L              refusal number N with place L
--   fine                     not refused: number 0, place 0
--   test N L wrong           the check that says N at L where `wrong` holds, and nothing elsewhere
--   or_else r s               what r says, or what s says where r is silent
--   first rs                 what the first check of the list that speaks says; fine where all are silent
--   Silent r, Silents rs     a check, and each check of a list, says nothing
--   First rs N L             the first check of the list that speaks says N at L
--   Lowest g n N L           the first of g 0, .. g (n - 1) that speaks says N at L
--   Only N r, Numbered Ns rs a check speaks with no number but N; each check of a list with none but its own
--   numbered_append, _length, _own
--                            lists in a row; a number for each check; and a check that speaks has its own
--   absent, distinct         a number stands in no list; no number of a list is 0 or stands twice
--   elsewhere k Ns, stands_once k Ns
--                            the numbers at every place but k; and the one at k is not 0 and is none of them; stands_once_figure: of 1, 2, 1, 3
--   Others N Ns              N is none of the numbers, of which each is to be shown
--   number_of, silent_as     equal refusals have equal numbers, and are silent together
--   or_left, -right, -both   the cases of or_else, as code has them
--   or_silents, or_says      what or_else says, from what its two checks say
--   first_fine, first_silent a list is silent exactly where each check is, and then says fine
--   first_append, _last, -flat, map_tab
--                            the checks of lists in a row, and of a table
--   first_is, lowest_is      a list says N at L exactly when First, and a table exactly when Lowest
--   all_silent               a table is silent exactly when each of its checks is
--   says_last, test_alone    a check that stands alone or last
--   test_exact, test_silent  a test speaks exactly where it fails, and is silent exactly where it passes
--   only_test, _fine, _or, _map, _tab
--                            what keeps to one number
--   said_earlier             a list says a number that its last checks do not have exactly when the checks before these say it
-- What is named here and not declared stands in proofs/RefusalsLaws.antt.
use Rattle.std.proofs.Math.Logic.Iff
use Rattle.std.specs.Prelude.{◌≡◌, Bool, true, false, cond, not, ◌&&◌, ◌↔◌, ◌≢◌, ◌⊎◌, T, eqb, length, get_or, take, drop}
use Rattle.std.proofs.Math.Path.{refl, sym, ap}
use Rattle.std.proofs.Common.{ap₂, ◌∙◌, true≢false, inl, inr, ⊎_elim, not-suc-le-zero, arith, T_not, eq-eqb, ne_eqb}
use Rattle.std.proofs.Math.Logic.{by_cases}
use mathlib.Core.List.{List, [], ◌∷◌, ◌++◌, map, map-append}
use Prim.Native.Nat.{ℕ, zero, suc, ◌<◌}
use Rattle.std.proofs.Math.Decide.{ℕ_discrete}
use Rattle.words.specs.Flat.{flat}
use Rattle.words.specs.Table.{tab, tab_last, length_tab, tab_at}
use Rattle.chain.specs.Refusal.{Refusal}

-- refusal number N with place L
abbrev pub refused : ℕ → ℕ → Refusal
refused N L = record { number = N; place = L }

-- not refused
abbrev pub fine : Refusal
fine = refused 0 0

-- the check that says N at L where `wrong` holds, and nothing elsewhere
abbrev pub test : ℕ → ℕ → Bool → Refusal
test N L wrong = cond wrong (refused N L) fine

-- what r says, or what s says where r is silent
unfoldable pub or_else : Refusal → Refusal → Refusal
or_else r s = cond (eqb r.number 0) s r

-- what the first check that speaks says: "checks run in this order, lowest number first"
unfoldable pub first : List Refusal → Refusal
unfolding or_else
first [] = fine
first (r ∷ rs) = or_else r (first rs)

-- a check says nothing
abbrev pub Silent : Refusal → Type 0
Silent r = r.number ≡ 0

-- each check of a list says nothing
unfoldable pub Silents : List Refusal → Type 0
Silents [] = Unit
Silents (r ∷ rs) = Silent r × Silents rs

or_silent : (r s : Refusal) → Silent r → or_else r s ≡ s
unfolding or_else
or_silent r s h = simp (eq-eqb _ _ h)

or_speaks : (r s : Refusal) → (Silent r → ⊥) → or_else r s ≡ r
unfolding or_else
or_speaks r s h = simp (ne_eqb _ _ h)

-- a check is silent or it is not
speaks? : {C : Type 0} (r : Refusal) → (Silent r → C) → ((Silent r → ⊥) → C) → C
speaks? r = by_cases (ℕ_discrete r.number 0)

pub number_of : {r s : Refusal} → r ≡ s → r.number ≡ s.number
number_of e = ap (λ (x : Refusal). x.number) e

-- what was answered for a check is silent where the check is
pub silent_as : {r s : Refusal} → r ≡ s → Silent r → Silent s
silent_as e z = sym (number_of e) ∙ z

-- the two cases of a check and the next one, as code has them: r was answered for a
pub or_left : {a r : Refusal} (b : Refusal) → r ≡ a → (Silent r → ⊥) → r ≡ or_else a b
or_left {a} b e h = e ∙ sym (or_speaks a b (λ z. h (number_of e ∙ z)))

pub or_right : {a b r s : Refusal} → r ≡ a → Silent r → s ≡ b → s ≡ or_else a b
or_right {a} {b} e h g = g ∙ sym (or_silent a b (silent_as e h))

pub or_both : {a b r s t : Refusal} → r ≡ or_else s t → s ≡ a → t ≡ b → r ≡ or_else a b
or_both e f g = e ∙ ap₂ or_else f g

-- a silent list says fine
pub first_fine : (rs : List Refusal) → Silent (first rs) → first rs ≡ fine
unfolding first
first_fine [] h = refl
first_fine (r ∷ rs) h = speaks? r
    (λ z. or_silent r (first rs) z ∙ first_fine rs (sym (number_of (or_silent r (first rs) z)) ∙ h))
    (λ n. absurd (n (sym (number_of (or_speaks r (first rs) n)) ∙ h)))

pub or_silents : (r s : Refusal) → Silent (or_else r s) ↔ (Silent r × Silent s)
or_silents r s = (out, λ h. number_of (or_silent r s h.0) ∙ h.1)
  where
    out : Silent (or_else r s) → Silent r × Silent s
    out h = speaks? r (λ z. (z, sym (number_of (or_silent r s z)) ∙ h)) (λ n. absurd (n (sym (number_of (or_speaks r s n)) ∙ h)))

pub first_silent : (rs : List Refusal) → Silent (first rs) ↔ Silents rs
unfolding first Silents
first_silent [] = (λ h. tt, λ h. refl)
first_silent (r ∷ rs) = Iff.trans (or_silents r (first rs)) (Iff.and Iff.rfl (first_silent rs))

silents_at : (rs : List Refusal) → Silents rs → (j : ℕ) → Silent (get_or rs j fine)
unfolding Silents
silents_at [] h j = refl
silents_at (r ∷ rs) h zero = h.0
silents_at (r ∷ rs) h (suc j) = silents_at rs h.1 j

silents_all : (rs : List Refusal) → ((j : ℕ) → j < length rs → Silent (get_or rs j fine)) → Silents rs
unfolding Silents
silents_all [] h = tt
silents_all (r ∷ rs) h = (h 0 (omega arith), silents_all rs (λ j l. h (suc j) (omega arith)))

pub first_append : (a b : List Refusal) → first (a ++ b) ≡ or_else (first a) (first b)
unfolding first
first_append [] b = sym (or_silent fine (first b) refl)
first_append (r ∷ a) b = speaks? r
    (λ z. or_silent r (first (a ++ b)) z ∙ first_append a b ∙ ap (λ (x : Refusal). or_else x (first b)) (sym (or_silent r (first a) z)))
    (λ n. or_speaks r (first (a ++ b)) n ∙ sym (or_speaks r (first b) n) ∙ ap (λ (x : Refusal). or_else x (first b)) (sym (or_speaks r (first a) n)))

-- the first check of the list that speaks says N at L
pub record First (rs : List Refusal) (N L : ℕ) : Type 0 where
  pub at : ℕ
  pub inside : at < length rs
  pub says : get_or rs at fine ≡ refused N L
  pub before : (j : ℕ) → j < at → Silent (get_or rs j fine)

-- which check speaks first: the first of the list, or one of the others where that is silent
first_here : (r : Refusal) (rs : List Refusal) (N L : ℕ) → r ≡ refused N L → First (r ∷ rs) N L
first_here r rs N L e = record { at = 0; inside = omega arith; says = e; before = λ j h. absurd (not-suc-le-zero h) }

first_later : (r : Refusal) (rs : List Refusal) (N L : ℕ) → Silent r → First rs N L → First (r ∷ rs) N L
first_later r rs N L z f = record { at = suc f.at; inside = omega (arith, f.inside); says = f.says; before = before }
  where
    before : (j : ℕ) → j < suc f.at → Silent (get_or (r ∷ rs) j fine)
    before zero h = z
    before (suc j) h = f.before j (omega arith)

module _ (N L : ℕ) (some : N ≢ 0) where
  pub says_some : {r : Refusal} → r ≡ refused N L → Silent r → ⊥
  says_some e z = some (sym (number_of e) ∙ z)

  first_found : (rs : List Refusal) → first rs ≡ refused N L → First rs N L
  unfolding first
  first_found [] e = absurd (some (sym (number_of e)))
  first_found (r ∷ rs) e = speaks? r
      (λ z. first_later r rs N L z (first_found rs (sym (or_silent r (first rs) z) ∙ e)))
      (λ n. first_here r rs N L (sym (or_speaks r (first rs) n) ∙ e))

  first_given : (rs : List Refusal) (k : ℕ) → k < length rs → get_or rs k fine ≡ refused N L → ((j : ℕ) → j < k → Silent (get_or rs j fine)) → first rs ≡ refused N L
  unfolding first
  first_given [] k l e b = absurd (not-suc-le-zero l)
  first_given (r ∷ rs) zero l e b = or_speaks r (first rs) (says_some e) ∙ e
  first_given (r ∷ rs) (suc k) l e b =
      or_silent r (first rs) (b 0 (omega arith)) ∙ first_given rs k (omega arith) e (λ j h. b (suc j) (omega arith))

  pub first_is : (rs : List Refusal) → (first rs ≡ refused N L) ↔ First rs N L
  first_is rs = (first_found rs, λ f. first_given rs f.at f.inside f.says f.before)

-- a check and the next one say N at L exactly when the first does, or is silent and the other does
pub or_says : (N L : ℕ) → N ≢ 0 → (r s : Refusal) → (or_else r s ≡ refused N L) ↔ ((r ≡ refused N L) ⊎ (Silent r × (s ≡ refused N L)))
or_says N L some r s = (out, ⊎_elim (λ e. or_speaks r s (says_some N L some e) ∙ e) (λ h. or_silent r s h.0 ∙ h.1))
  where
    out : or_else r s ≡ refused N L → (r ≡ refused N L) ⊎ (Silent r × (s ≡ refused N L))
    out e = speaks? r (λ z. inr (z, sym (or_silent r s z) ∙ e)) (λ n. inl (sym (or_speaks r s n) ∙ e))

pub says_last : (N L : ℕ) → N ≢ 0 → (r : Refusal) → (first (r ∷ []) ≡ refused N L) ↔ (r ≡ refused N L)
unfolding first
says_last N L some r = Iff.trans (or_says N L some r fine) (⊎_elim (λ e. e) (λ h. absurd (some (sym (number_of h.1)))), inl)

-- a single test says N at L exactly when it fails and L is its place, and nothing exactly when it passes
pub test_exact : (N L M : ℕ) → N ≢ 0 → (wrong : Bool) → (test N M wrong ≡ refused N L) ↔ ((wrong ≡ true) × (L ≡ M))
test_exact N L M some true = (λ e. (refl, sym (ap (λ (x : Refusal). x.place) e)), λ h. ap (refused N) (sym h.1))
test_exact N L M some false = (λ e. absurd (some (sym (number_of e))), λ h. absurd (true≢false (sym h.0)))

pub test_silent : (N M : ℕ) → N ≢ 0 → (wrong : Bool) → Silent (test N M wrong) ↔ (wrong ≡ false)
test_silent N M some true = (λ z. absurd (some z), λ e. absurd (true≢false e))
test_silent N M some false = (λ z. refl, λ e. refl)

pub test_alone : (N L : ℕ) → N ≢ 0 → (wrong : Bool) → test N L wrong ≡ first (test N L wrong ∷ [])
unfolding first
test_alone N L some true = sym (or_speaks (refused N L) fine some)
test_alone N L some false = sym (or_silent fine fine refl)

-- a check speaks with no number but N
abbrev pub Only : ℕ → Refusal → Type 0
Only N r = (Silent r → ⊥) → r.number ≡ N

pub only_test : (N L : ℕ) (wrong : Bool) → Only N (test N L wrong)
only_test N L true n = refl
only_test N L false n = absurd (n refl)

pub only_fine : (N : ℕ) → Only N fine
only_fine N n = absurd (n refl)

pub only_or : {N : ℕ} (r s : Refusal) → Only N r → Only N s → Only N (or_else r s)
only_or r s hr hs n = speaks? r
    (λ z. number_of (or_silent r s z) ∙ hs (λ k. n (number_of (or_silent r s z) ∙ k)))
    (λ k. number_of (or_speaks r s k) ∙ hr k)

pub only_map : {A : Type 0} (N : ℕ) (g : A → Refusal) → ((a : A) → Only N (g a)) → (l : List A) → Only N (first (map g l))
unfolding first
only_map N g h [] = only_fine N
only_map N g h (a ∷ l) = only_or (g a) (first (map g l)) (h a) (only_map N g h l)

pub only_tab : (N : ℕ) (g : ℕ → Refusal) → ((i : ℕ) → Only N (g i)) → (n : ℕ) → Only N (first (tab n g))
unfolding first tab
only_tab N g h zero = only_fine N
only_tab N g h (suc k) = only_or (g zero) (first (tab k (λ i. g (suc i)))) (h zero) (only_tab N (λ i. g (suc i)) (λ i. h (suc i)) k)

-- each check of a list speaks with no number but its own
unfoldable pub Numbered : List ℕ → List Refusal → Type 0
Numbered [] [] = Unit
Numbered [] (r ∷ rs) = ⊥
Numbered (N ∷ Ns) [] = ⊥
Numbered (N ∷ Ns) (r ∷ rs) = Only N r × Numbered Ns rs

-- numbered lists in a row
pub numbered_append : (Ns Ms : List ℕ) (rs ts : List Refusal) → Numbered Ns rs → Numbered Ms ts → Numbered (Ns ++ Ms) (rs ++ ts)
unfolding Numbered
numbered_append [] Ms [] ts o m = m
numbered_append [] Ms (r ∷ rs) ts o m = absurd o
numbered_append (N ∷ Ns) Ms [] ts o m = absurd o
numbered_append (N ∷ Ns) Ms (r ∷ rs) ts o m = (o.0, numbered_append Ns Ms rs ts o.1 m)

-- N is none of the numbers
abbrev pub absent : ℕ → List ℕ → Bool
absent N [] = true
absent N (M ∷ Ms) = not (eqb M N) && absent N Ms

-- none of the numbers is 0, and none stands twice
abbrev pub distinct : List ℕ → Bool
distinct [] = true
distinct (N ∷ Ns) = absent N (0 ∷ Ns) && distinct Ns

-- the numbers at every place but k
abbrev pub elsewhere : ℕ → List ℕ → List ℕ
elsewhere k Ns = take k Ns ++ drop (suc k) Ns

-- the number at k is not 0, and stands nowhere else; others may stand twice, as 1 in 1, 2, 1, 3, where 2 and 3 stand once
abbrev pub stands_once : ℕ → List ℕ → Bool
stands_once k Ns = absent (get_or Ns k 0) (0 ∷ elsewhere k Ns)

-- N is none of the numbers
abbrev pub Others : ℕ → List ℕ → Type 0
Others N [] = Unit
Others N (M ∷ Ms) = (M ≢ N) × Others N Ms

pub both : (a b : Bool) → T (a && b) → T a × T b
both true b h = (tt, h)
both false b h = absurd h

pub unlike : (M N : ℕ) → T (not (eqb M N)) → M ≢ N
unlike M N h e = T_not (eqb M N) h (rw (eq-eqb M N e) tt)

pub others : (N : ℕ) (Ns : List ℕ) → T (absent N Ns) → Others N Ns
others N [] h = tt
others N (M ∷ Ms) h = let g = both (not (eqb M N)) (absent N Ms) h in (unlike M N g.0, others N Ms g.1)

pub others_at : (N : ℕ) (Ns : List ℕ) → Others N Ns → (k : ℕ) → k < length Ns → get_or Ns k 0 ≢ N
others_at N [] h k l = absurd (not-suc-le-zero l)
others_at N (M ∷ Ms) h zero l = h.0
others_at N (M ∷ Ms) h (suc k) l = others_at N Ms h.1 k (omega arith)

-- there is a number for each check
pub numbered_length : (Ns : List ℕ) (rs : List Refusal) → Numbered Ns rs → length Ns ≡ length rs
unfolding Numbered
numbered_length [] [] o = refl
numbered_length [] (r ∷ rs) o = absurd o
numbered_length (N ∷ Ns) [] o = absurd o
numbered_length (N ∷ Ns) (r ∷ rs) o = ap suc (numbered_length Ns rs o.1)

-- a check that speaks has its own
pub numbered_own : (Ns : List ℕ) (rs : List Refusal) → Numbered Ns rs → (k : ℕ) → k < length rs → (Silent (get_or rs k fine) → ⊥) → (get_or rs k fine).number ≡ get_or Ns k 0
unfolding Numbered
numbered_own [] [] o k l n = absurd (not-suc-le-zero l)
numbered_own [] (r ∷ rs) o k l n = absurd o
numbered_own (N ∷ Ns) [] o k l n = absurd o
numbered_own (N ∷ Ns) (r ∷ rs) o zero l n = o.0 n
numbered_own (N ∷ Ns) (r ∷ rs) o (suc k) l n = numbered_own Ns rs o.1 k (omega arith) n

-- a list that speaks does so with one of its numbers
speaks_numbered : (N : ℕ) → N ≢ 0 → (Ns : List ℕ) (rs : List Refusal) → Numbered Ns rs → Others N Ns → (first rs).number ≢ N
unfolding first Numbered
speaks_numbered N some [] [] o a e = some (sym e)
speaks_numbered N some [] (r ∷ rs) o a e = o
speaks_numbered N some (M ∷ Ms) [] o a e = o
speaks_numbered N some (M ∷ Ms) (r ∷ rs) o a e = speaks? r
    (λ z. speaks_numbered N some Ms rs o.1 a.1 (sym (number_of (or_silent r (first rs) z)) ∙ e))
    (λ n. a.0 (sym (o.0 n) ∙ sym (number_of (or_speaks r (first rs) n)) ∙ e))

-- checks behind others have no number but their own, so every other number is said exactly when the others say it
pub said_earlier : (N L : ℕ) → N ≢ 0 → (ps : List Refusal) (Ns : List ℕ) (rs : List Refusal) → Numbered Ns rs → Others N Ns → (first (ps ++ rs) ≡ refused N L) ↔ (first ps ≡ refused N L)
said_earlier N L some ps Ns rs o a = rw (first_append ps rs)
    (Iff.trans (or_says N L some (first ps) (first rs)) (⊎_elim (λ e. e) (λ s. absurd (speaks_numbered N some Ns rs o a (number_of s.1))), inl))

-- the first of the checks g 0, .. g (n - 1) that speaks says N at L: "lowest", "first such"
pub record Lowest (g : ℕ → Refusal) (n N L : ℕ) : Type 0 where
  pub at : ℕ
  pub inside : at < n
  pub says : g at ≡ refused N L
  pub before : (j : ℕ) → j < at → Silent (g j)

pub lowest_is : (N L : ℕ) → N ≢ 0 → (g : ℕ → Refusal) (n : ℕ) → (first (tab n g) ≡ refused N L) ↔ Lowest g n N L
lowest_is N L some g n = Iff.trans (first_is N L some (tab n g)) (out, back)
  where
    out : First (tab n g) N L → Lowest g n N L
    out f =
        let l : f.at < n = rw (length_tab n g) at f.inside in
        record {
          at = f.at;
          inside = l;
          says = sym (tab_at n g f.at fine l) ∙ f.says;
          before = λ j m. number_of (sym (tab_at n g j fine (omega arith))) ∙ f.before j m;
        }

    back : Lowest g n N L → First (tab n g) N L
    back f = record {
      at = f.at;
      inside = rw (length_tab n g) f.inside;
      says = tab_at n g f.at fine f.inside ∙ f.says;
      before = λ j m. number_of (tab_at n g j fine (omega (arith, f.inside))) ∙ f.before j m;
    }

pub all_silent : (g : ℕ → Refusal) (n : ℕ) → Silent (first (tab n g)) ↔ ((i : ℕ) → i < n → Silent (g i))
all_silent g n = Iff.trans (first_silent (tab n g)) (
  λ h i l. number_of (sym (tab_at n g i fine l)) ∙ silents_at (tab n g) h i,
  λ h. silents_all (tab n g) (λ j l. let m : j < n = rw (length_tab n g) at l in number_of (tab_at n g j fine m) ∙ h j m),
)

-- a silent check behind a list adds nothing
pub first_last : (rs : List Refusal) → or_else (first rs) fine ≡ first rs
first_last rs = speaks? (first rs)
    (λ z. or_silent (first rs) fine z ∙ sym (first_fine rs z))
    (λ n. or_speaks (first rs) fine n)

-- the checks of lists in a row, and of a table
module _ {A : Type 0} (g : A → Refusal) where
  pub first_flat : (f : ℕ → List A) (n : ℕ) → first (map g (flat f n)) ≡ first (tab n (λ i. first (map g (f i))))
  unfolding flat first tab
  first_flat f zero = refl
  first_flat f (suc n) =
      let h : ℕ → Refusal = λ i. first (map g (f i)) in
      ap first (map-append g (flat f n) (f n)) ∙ first_append (map g (flat f n)) (map g (f n))
      ∙ ap (λ (r : Refusal). or_else r (h n)) (first_flat f n)
      ∙ ap (λ (r : Refusal). or_else (first (tab n h)) r) (sym (first_last (map g (f n))))
      ∙ sym (first_append (tab n h) (h n ∷ [])) ∙ ap first (sym (tab_last n h))

  pub map_tab : (n : ℕ) (f : ℕ → A) → map g (tab n f) ≡ tab n (λ i. g (f i))
  unfolding tab
  map_tab zero f = refl
  map_tab (suc n) f = ap (λ (l : List Refusal). g (f zero) ∷ l) (map_tab n (λ i. f (suc i)))
