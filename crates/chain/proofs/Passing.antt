-- Checks that a call makes one behind the other with `?`: it ends at the first that refuses.
--   first_none, _more    a list of checks, one by one
--   or_fine, or_refusal  a check that passes adds nothing to what is said behind it, and behind a refusal nothing is said
--   rest g n i           what the checks g i, .. g (n - 1) say
--   Passed g n i         the invariant of a loop over a table of checks: before check i of n none has said anything
--   passed_none, _more, _all
--                        it holds at the start, and each check that passes leaves what is behind it; at the end nothing is left
--   passing              all of these, by which the check proves such a call where `using` names it on the function
use Rattle.std.specs.Prelude.{◌≡◌, List, [], ◌∷◌, ℕ, ◌+◌, ◌≤◌, ◌<◌, drop}
use Rattle.std.proofs.Common.{refl, sym, ap, add-one, drop-cons}
use Rattle.std.proofs.lemmas.List.{drop_all}
use Rattle.words.specs.Table.{tab, tab_at, length_tab}
use Rattle.chain.specs.Refusal.{Refusal}
use Rattle.chain.specs.Refusals.{fine, or_else, first, or_left, or_right}
use Rattle.chain.specs.Said.{refusal, speaks}
use Rattle.chain.specs.declared.reasons.Refused.{Refused}

pub first_none : first [] ≡ fine
unfolding first
first_none = refl

pub first_more : (r : Refusal) (rs : List Refusal) → first (r ∷ rs) ≡ or_else r (first rs)
unfolding first
first_more r rs = refl

pub or_fine : (s : Refusal) → or_else fine s ≡ s
or_fine s = sym (or_right {a = fine} refl refl refl)

pub or_refusal : (e : Refused) (s : Refusal) → or_else (refusal e) s ≡ refusal e
or_refusal e s = sym (or_left {a = refusal e} s refl (speaks e))

unfoldable pub rest : (ℕ → Refusal) → ℕ → ℕ → Refusal
rest g n i = first (drop i (tab n g))

-- the table says what its checks from i on say
abbrev pub Passed : (ℕ → Refusal) → ℕ → ℕ → Type 0
Passed g n i = first (tab n g) ≡ rest g n i

module _ (g : ℕ → Refusal) (n : ℕ) where
  pub passed_none : Passed g n 0
  unfolding rest
  passed_none = refl

  pub passed_more : (i : ℕ) → i < n → rest g n i ≡ or_else (g i) (rest g n (i + 1))
  unfolding rest first
  passed_more i h =
      let here = tab_at n g i fine h in
      rw (add-one, ← here) (ap first (drop-cons (tab n g) i fine (rw (length_tab n g) h)))

  pub passed_all : (i : ℕ) → n ≤ i → rest g n i ≡ fine
  unfolding rest first
  passed_all i h = ap first (drop_all i (tab n g) (rw (length_tab n g) h))

pub ruleset passing = (first_none, first_more, or_fine, or_refusal, passed_none, passed_more, passed_all)
