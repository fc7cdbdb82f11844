-- The pass over a list of losses: before entry k each entry before it names a queue, and the sums are theirs.
use mathlib.Core.Path.{◌≡◌, refl, sym, ap, ap₂, ◌∙◌}
use mathlib.Core.Bool.{Bool, true, false, cond}
use mathlib.Core.Logic.{by_cases}
use mathlib.Core.List.{List, [], ◌∷◌}
use Prim.Native.Nat.{ℕ, ◌+◌, ◌*◌, ◌≤◌, ◌<◌}
use native.Mathlib.Nat.{add-zero}
use native.Mathlib.Decide.{ℕ_discrete}
use native.Mathlib.Omega.{arith}
use lib.Dec.{eqb}
use lib.ListN.{length, get_or, set, replicate, length-set, length-replicate, get_or-replicate}
use lib.Seq.{get_or-set_same, get_or-set_other}
use borrow.Author.Tests.{eq-eqb, ne_eqb}
use Rattle.words.specs.Table.{tab, tab_more, below_next}
use Rattle.std.proofs.Common.{Ok, Err}
use Rattle.chain.specs.declared.reasons.Reason.TheVariants.{BrokenState}
use Rattle.chain.specs.Refusals.{fine, or_right, first_fine}
use Rattle.losses.specs.Losses.{entry_at, lost_in}
use Rattle.losses.proofs.LossesLaws.{lost_append}
use Rattle.losses.specs.Checks.{LongOrStray, Named, long_check, stray_test, stray_check, list_check}
use Rattle.losses.proofs.ChecksLaws.{long_silent, stray_silent, list_exact}
use Rattle.losses.specs.Tally.{TallyGives}
use Rattle.losses.specs.declared.Loss.{Loss}
use Rattle.losses.specs.declared.Losses.{Losses}

-- the tokens of queue j in the first k entries
abbrev sum_of : Losses → ℕ → ℕ → ℕ
sum_of l k j = lost_in j (tab k (entry_at l))

sum_more : (l : Losses) (k j : ℕ) → sum_of l (k + 1) j ≡ sum_of l k j + cond (eqb (entry_at l k).queue j) (entry_at l k).tokens 0
unfolding lost_in
sum_more l k j = ap (lost_in j) (tab_more k (entry_at l)) ∙ lost_append j (tab k (entry_at l)) (entry_at l k ∷ []) ∙ ap (λ (x : ℕ). sum_of l k j + x) (add-zero _)

pub record Passed (n : ℕ) (l : Losses) (k : ℕ) (x : List ℕ) : Type 0 where
  pub within : k ≤ l.count
  pub long : length x ≡ 16
  pub named : (i : ℕ) → i < k → (entry_at l i).queue < n
  pub sums : (j : ℕ) → j < 16 → get_or x j 0 ≡ sum_of l k j
  pub few : (j : ℕ) → j < 16 → get_or x j 0 ≤ k * 4294967295

module _ (n : ℕ) (l : Losses) where
  pub passed_none : Passed n l 0 (replicate 16 0)
  unfolding lost_in tab
  passed_none = record {
    within = omega arith;
    long = length-replicate {A = ℕ} 16 0;
    named = λ i h. absurd (omega arith);
    sums = λ j h. get_or-replicate {A = ℕ} 16 j 0 0 h;
    few = λ j h. omega (arith, get_or-replicate {A = ℕ} 16 j 0 0 h);
  }

  -- one entry more, as code has read it: its queue has a slot, and its tokens are a number of 32 bits
  module _ {k : ℕ} {x : List ℕ} {e : Loss} (p : Passed n l k x) (listed : k < l.count) (is : e ≡ entry_at l k) (names : e.queue < n) (few : n ≤ 16) (word : e.tokens ≤ 4294967295) where
    abbrev next : List ℕ
    next = set x e.queue (get_or x e.queue 0 + e.tokens)

    next_sum : (j : ℕ) → j < 16 → get_or next j 0 ≡ get_or x j 0 + cond (eqb e.queue j) e.tokens 0
    next_sum j h = by_cases (ℕ_discrete j e.queue)
        (λ same. rw same (get_or-set_same x e.queue _ 0 (omega (arith, p.long)) ∙ simp (eq-eqb e.queue e.queue refl)))
        (λ ne. get_or-set_other x e.queue j _ 0 ne ∙ sym (simp (ne_eqb e.queue j (λ same. ne (sym same)), add-zero (get_or x j 0))))

    at_most : (b : Bool) → cond b e.tokens 0 ≤ 4294967295
    at_most true = word
    at_most false = omega arith

    pub passed_more : Passed n l (k + 1) next
    passed_more = record {
      within = omega arith;
      long = length-set x e.queue _ ∙ p.long;
      named = below_next k (rw (← is) names) p.named;
      sums = λ j h. next_sum j h ∙ ap₂ (λ (y : ℕ) (d : Loss). y + cond (eqb d.queue j) d.tokens 0) (p.sums j h) is ∙ sym (sum_more l k j);
      few = λ j h. omega (arith, next_sum j h, p.few j h, at_most (eqb e.queue j));
    }

  -- the ways out: the list is refused, or its entries are summed
  pub refuses : LongOrStray n l → TallyGives n l (Err (record { reason = BrokenState; place = 0 }))
  refuses h = record { says = sym ((list_exact n l 0).1 (h, refl)); sums = tt; few = tt }

  list_fine : l.count ≤ 256 → Named n l → fine ≡ list_check n l
  unfolding list_check stray_check
  list_fine short named = or_right {r = long_check l} refl ((long_silent n l).1 short) (sym (first_fine (tab l.count (stray_test n l)) ((stray_silent n l).1 named)))

  pub passed_all : {k : ℕ} {x : List ℕ} → l.count ≤ 256 → l.count ≤ k → Passed n l k x → TallyGives n l (Ok x)
  passed_all {k} short over p =
      let e : k ≡ l.count = omega (arith, p.within) in
      record {
        says = list_fine short (λ i h. p.named i (omega arith));
        sums = λ j h. p.sums j h ∙ ap (λ (m : ℕ). sum_of l m j) e;
        few = λ j h. omega (arith, p.few j h);
      }
