-- Laws of specs/Checks.antt that rest on a definition which an edit of must-fail/ changes.
-- 17 of a list of losses (02, Item 2), before the balance of any queue.
--   long_exact, _silent, stray_silent, _only, _exact
--                              each of the two speaks exactly where it should, and is silent elsewhere
--   list_exact, _silent, _only 17 of the list speaks exactly then, at place 0, is silent exactly elsewhere, and has its own number
use Rattle.std.proofs.Math.Logic.Iff
use Rattle.std.specs.Prelude.{◌≡◌, ◌↔◌, ◌⊎◌, ℕ, ◌≤◌, ◌<◌, leb, ltb}
use Rattle.std.proofs.Common.{sym, ◌∙◌, inl, inr, arith}
use Rattle.std.proofs.Math.Logic.{⊎_elim}
use Rattle.words.specs.Table.{tab}
use Rattle.chain.specs.Tests.{below_true, below_false, upto_true, upto_false}
use Rattle.chain.specs.Refusals.{refused, first, Silent, lowest_is, all_silent, test_exact, test_silent, or_says, or_silents, Only, only_test, only_tab, only_or}
use Rattle.losses.specs.Losses.{longest_list, entry_at}
use Rattle.losses.specs.declared.Losses.{Losses}
use Rattle.losses.specs.Checks.{long_check, stray_test, stray_check, list_check, Stray, Named, LongOrStray}

module _ (n : ℕ) (l : Losses) where
  pub long_exact : (L : ℕ) → (long_check l ≡ refused 17 L) ↔ ((256 < l.count) × (L ≡ 0))
  long_exact L = Iff.trans (test_exact 17 L 0 (λ e. omega arith) _) (Iff.and (below_true longest_list l.count) Iff.rfl)

  pub long_silent : Silent (long_check l) ↔ (l.count ≤ 256)
  long_silent = Iff.trans (test_silent 17 0 (λ e. omega arith) _) (below_false longest_list l.count)

  entry_says : (k L : ℕ) → (stray_test n l k ≡ refused 17 L) ↔ ((n ≤ (entry_at l k).queue) × (L ≡ 0))
  entry_says k L = Iff.trans (test_exact 17 L 0 (λ e. omega arith) _) (Iff.and (upto_true n (entry_at l k).queue) Iff.rfl)

  entry_silent : (k : ℕ) → Silent (stray_test n l k) ↔ ((entry_at l k).queue < n)
  entry_silent k = Iff.trans (test_silent 17 0 (λ e. omega arith) _) (upto_false n (entry_at l k).queue)

  pub stray_silent : Silent (stray_check n l) ↔ Named n l
  unfolding stray_check
  stray_silent = Iff.trans (all_silent (stray_test n l) l.count) (λ h k m. (entry_silent k).0 (h k m), λ h k m. (entry_silent k).1 (h k m))

  pub stray_only : Only 17 (stray_check n l)
  unfolding stray_check
  stray_only = only_tab 17 (stray_test n l) (λ k. only_test 17 0 (leb n (entry_at l k).queue)) l.count

  pub stray_exact : (L : ℕ) → (stray_check n l ≡ refused 17 L) ↔ (Stray n l × (L ≡ 0))
  unfolding stray_check
  stray_exact L = (says L, back)
    where
      says : (P : ℕ) → first (tab l.count (stray_test n l)) ≡ refused 17 P → Stray n l × (P ≡ 0)
      says P e =
          let f = (lowest_is 17 P (λ z. omega arith) (stray_test n l) l.count).0 e in
          let s = (entry_says f.at P).0 f.says in
          (record { entry = f.at; listed = f.inside; names = s.0 }, s.1)

      back : Stray n l × (L ≡ 0) → first (tab l.count (stray_test n l)) ≡ refused 17 L
      back h =
          let spoken : Silent (stray_check n l) → ⊥ = λ z. let m = stray_silent.0 z h.0.entry h.0.listed in omega (arith, h.0.names) in
          let number : (stray_check n l).number ≡ 17 = stray_only spoken in
          let place : (stray_check n l).place ≡ 0 = (says (stray_check n l).place (λ i. record { number = number i; place = (stray_check n l).place })).1 in
          λ i. record { number = number i; place = (place ∙ sym h.1) i }

  -- "a list longer than 256 or an entry that names no queue of the chain"
  pub list_exact : (L : ℕ) → (list_check n l ≡ refused 17 L) ↔ (LongOrStray n l × (L ≡ 0))
  unfolding list_check
  list_exact L = Iff.trans (or_says 17 L (λ e. omega arith) (long_check l) (stray_check n l)) (out, back)
    where
      out : (long_check l ≡ refused 17 L) ⊎ (Silent (long_check l) × (stray_check n l ≡ refused 17 L)) → LongOrStray n l × (L ≡ 0)
      out = ⊎_elim
          (λ e. let h = (long_exact L).0 e in (inl h.0, h.1))
          (λ e. let h = (stray_exact L).0 e.1 in (inr (long_silent.0 e.0, h.0), h.1))

      back : LongOrStray n l × (L ≡ 0) → (long_check l ≡ refused 17 L) ⊎ (Silent (long_check l) × (stray_check n l ≡ refused 17 L))
      back h = ⊎_elim (λ a. inl ((long_exact L).1 (a, h.1))) (λ a. inr (long_silent.1 a.0, (stray_exact L).1 (a.1, h.1))) h.0

  pub list_silent : Silent (list_check n l) ↔ ((l.count ≤ 256) × Named n l)
  unfolding list_check
  list_silent = Iff.trans (or_silents (long_check l) (stray_check n l)) (Iff.and long_silent stray_silent)

  pub list_only : Only 17 (list_check n l)
  unfolding list_check
  list_only = only_or (long_check l) (stray_check n l) (only_test 17 0 (ltb longest_list l.count)) stray_only
