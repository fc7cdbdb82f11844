-- "One of the listed refusal numbers with its place, in the listed order" (demand 1): what that says of a call's list of checks.
--   Refuses numbers checks N L
--                            N at L is what the first of the checks that speaks says, and its number is the one at its place in the list of numbers
--   InOrder numbers checks N L
--                            the checks are all silent, and N and L are 0; or Refuses
--   in_order                 what a list of checks says first, each of which has its own number
--   not_listed               a number that stands in none of the places of a call's list is one that it never answers
--   LowestOf Reason L        "lowest", "first such": L has the reason, and none before it has
--   lowest_failing           the lowest below n that has a reason is the lowest that does not pass, where each passes or has one
--   judge_three              three facts that can be told hold, or one of them does not
--   said                     a refusal by its number and its place
use Rattle.std.specs.Prelude.{◌≡◌, Bool, true, false, not, ◌&&◌, ◌↔◌, ◌≢◌, ◌⊎◌, List, [], ◌∷◌, ℕ, zero, suc, ◌<◌, T, eqb, length, get_or}
use Rattle.std.proofs.Common.{sym, ap, ◌∙◌, inl, inr, ⊎_elim, not-suc-le-zero, arith, eq-eqb}
use Rattle.std.proofs.Math.Logic.{by_cases}
use Rattle.std.proofs.Math.Decide.{ℕ_discrete}
use Rattle.ardenquill.specs.Chains.{refused, fine, absent, first, Silent, Silents, First, first_is, first_fine, first_silent, Numbered, numbered_length, numbered_own}
use Rattle.ardenquill.specs.Records.{Refusal}

-- the first check that speaks says N at L, and N is its number in the list
pub record Refuses (numbers : List ℕ) (checks : List Refusal) (N L : ℕ) : Type 0 where
  pub at : ℕ
  pub inside : at < length numbers
  pub number : N ≡ get_or numbers at 0
  pub says : get_or checks at fine ≡ refused N L
  pub before : (j : ℕ) → j < at → Silent (get_or checks j fine)

-- number and place are 0 where no check speaks, else what the first one that does says
abbrev pub InOrder : List ℕ → List Refusal → ℕ → ℕ → Type 0
InOrder numbers checks N L = (Silents checks × ((N ≡ 0) × (L ≡ 0))) ⊎ Refuses numbers checks N L

-- what a list of numbered checks says first
pub in_order : (Ns : List ℕ) (rs : List Refusal) → Numbered Ns rs → (N L : ℕ) → refused N L ≡ first rs → InOrder Ns rs N L
in_order Ns rs o N L e = by_cases (ℕ_discrete N 0)
    (λ z.
    let quiet : Silent (first rs) = ap (λ (r : Refusal). r.number) (sym e) ∙ z in
    inl ((first_silent rs).0 quiet, (z, ap (λ (r : Refusal). r.place) (e ∙ first_fine rs quiet))))
    (λ some.
    let f : First rs N L = (first_is N L some rs).0 (sym e) in
    let said : (get_or rs f.at fine).number ≡ N = ap (λ (r : Refusal). r.number) f.says in
    inr (record {
      at = f.at;
      inside = omega (arith, f.inside, numbered_length Ns rs o);
      number = sym said ∙ numbered_own Ns rs o f.at f.inside (λ z. some (sym said ∙ z));
      says = f.says;
      before = f.before;
    }))

-- a number that is absent from a list is absent behind its first, too
absent_rest : (M N : ℕ) (Ns : List ℕ) → T (absent M (N ∷ Ns)) → T (absent M Ns)
absent_rest M N Ns = by (not (eqb N M))
  where
    by : (b : Bool) → T (b && absent M Ns) → T (absent M Ns)
    by true h = h
    by false h = absurd h

-- a number that is absent from a list stands at none of its places
absent_at : (M : ℕ) (Ns : List ℕ) → T (absent M Ns) → (k : ℕ) → k < length Ns → get_or Ns k 0 ≢ M
absent_at M [] h k l = absurd (not-suc-le-zero l)
absent_at M (N ∷ Ns) h zero l = λ e. rw (eq-eqb N M e) at h
absent_at M (N ∷ Ns) h (suc k) l = absent_at M Ns (absent_rest M N Ns h) k (omega arith)

-- "one of the listed refusal numbers", and no other
pub not_listed : (M : ℕ) (Ns : List ℕ) → T (absent M (0 ∷ Ns)) → {rs : List Refusal} {N L : ℕ} → InOrder Ns rs N L → N ≢ M
not_listed M Ns h = ⊎_elim
    (λ z e. absent_at M (0 ∷ Ns) h 0 (omega arith) (sym z.1.0 ∙ e))
    (λ r e. absent_at M Ns (absent_rest M 0 Ns h) r.at r.inside (sym r.number ∙ e))

-- "lowest", "first such": L has the reason, and none before it has
pub record LowestOf (Reason : ℕ → Type 0) (L : ℕ) : Type 0 where
  pub has : Reason L
  pub before : (j : ℕ) → j < L → Reason j → ⊥

-- the lowest below n that has a reason is the lowest that does not pass, where each passes or has a reason, and none both
pub lowest_failing : (n : ℕ) (Reason Pass : ℕ → Type 0) → ((j : ℕ) → Pass j ⊎ Reason j) → ((j : ℕ) → Reason j → Pass j → ⊥) → (L : ℕ)
    → (((L < n) × Reason L) × ((j : ℕ) → j < L → Pass j)) ↔ LowestOf (λ j. (j < n) × (Pass j → ⊥)) L
lowest_failing n Reason Pass judged apart L = (
  λ f. record { has = (f.0.0, apart L f.0.1); before = λ j l t. t.1 (f.1 j l) },
  λ f. (
    (f.has.0, ⊎_elim (λ p. absurd (f.has.1 p)) (λ r. r) (judged L)),
    λ j l. ⊎_elim (λ p. p) (λ r. absurd (f.before j l (omega (arith, f.has.0), apart j r))) (judged j),
  ),
)

-- three facts that can be told hold, or one of them does not
pub judge_three : {A B C P : Type 0} → Dec A → Dec B → Dec C → (A → B → C → P) → P ⊎ (((A → ⊥) ⊎ (B → ⊥)) ⊎ (C → ⊥))
judge_three a b d all = by_cases a (λ x. by_cases b (λ y. by_cases d (λ z. inl (all x y z)) (λ n. inr (inr n))) (λ n. inr (inl (inr n)))) (λ n. inr (inl (inl n)))

-- a refusal by its number and its place
pub said : (r : Refusal) (N L : ℕ) → ((r.number ≡ N) × (r.place ≡ L)) ↔ (r ≡ refused N L)
said r N L = (λ h k. record { number = h.0 k; place = h.1 k }, λ e. (ap (λ (x : Refusal). x.number) e, ap (λ (x : Refusal). x.place) e))
