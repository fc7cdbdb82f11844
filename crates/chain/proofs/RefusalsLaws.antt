-- Laws of specs/Refusals.antt that rest on a definition which an edit of must-fail/ changes.
-- Refusals, and the order in which checks speak (01, Numbers a call may refuse with).
--   exact_once               a list says the number of its check k, which stands once, at L exactly when the checks before it are silent and it says so
--   exact_at                 the same of each check, where no number stands twice
use Rattle.std.proofs.Math.Logic.Iff
use Rattle.std.specs.Prelude.{◌≡◌, true, false, ◌↔◌, ◌≢◌, T, length, get_or, take}
use Rattle.std.proofs.Math.Path.{refl, sym}
use Rattle.std.proofs.Common.{◌∙◌, inr, ⊎_elim, not-suc-le-zero, arith, ne_eqb}
use Rattle.std.proofs.Math.Logic.{true-and}
use mathlib.Core.List.{List, [], ◌∷◌}
use Prim.Native.Nat.{ℕ, zero, suc, ◌<◌}
use Rattle.chain.specs.Refusal.{Refusal}
use Rattle.chain.specs.Refusals.{refused, fine, first, Silents, number_of, says_some, or_says, says_last}
use Rattle.chain.specs.Refusals.{Numbered, absent, distinct, elsewhere, stands_once, Others, both, others, others_at, numbered_length, said_earlier}

pub stands_once_figure : let Ns : List ℕ = 1 ∷ 2 ∷ 1 ∷ 3 ∷ [] in (stands_once 0 Ns ≡ false) × ((stands_once 1 Ns ≡ true) × ((stands_once 2 Ns ≡ false) × (stands_once 3 Ns ≡ true)))
stands_once_figure = (refl, (refl, (refl, refl)))

-- a number that no check but check k may have is said exactly when the checks before that one are silent and it says so
said_alone : (N L : ℕ) → N ≢ 0 → (Ns : List ℕ) (rs : List Refusal) → Numbered Ns rs → (k : ℕ) → Others N (elsewhere k Ns)
    → (first rs ≡ refused N L) ↔ (Silents (take k rs) × (get_or rs k fine ≡ refused N L))
unfolding first Silents Numbered
said_alone N L some Ns [] o zero a = Iff.symm true-and
said_alone N L some Ns [] o (suc k) a = Iff.symm true-and
said_alone N L some [] (r ∷ rs) o k a = absurd o
said_alone N L some (M ∷ Ms) (r ∷ rs) o zero a = Iff.trans (said_earlier N L some (r ∷ []) Ms rs o.1 a) (Iff.trans (says_last N L some r) (Iff.symm true-and))
said_alone N L some (M ∷ Ms) (r ∷ rs) o (suc k) a =
    let rest = said_alone N L some Ms rs o.1 k a.1 in
    Iff.trans (or_says N L some r (first rs)) (
      ⊎_elim
          (λ e. absurd (a.0 (sym (o.0 (says_some N L some e)) ∙ number_of e)))
          (λ s. let q = rest.0 s.1 in ((s.0, q.0), q.1)),
      λ s. inr (s.0.0, rest.1 (s.0.1, s.1)),
    )

-- a list of checks says the number of its check k, which stands once, at L exactly when the checks before that one are silent and it says so
pub exact_once : (Ns : List ℕ) (rs : List Refusal) → Numbered Ns rs → (k L : ℕ) → T (stands_once k Ns)
    → (first rs ≡ refused (get_or Ns k 0) L) ↔ (Silents (take k rs) × (get_or rs k fine ≡ refused (get_or Ns k 0) L))
exact_once Ns rs o k L h =
    let a = others (get_or Ns k 0) (0 ∷ elsewhere k Ns) h in
    said_alone (get_or Ns k 0) L (λ e. a.0 (sym e)) Ns rs o k a.1

-- where no number stands twice, the one at each place stands once
distinct_once : (Ns : List ℕ) → T (distinct Ns) → (k : ℕ) → k < length Ns → T (stands_once k Ns)
distinct_once [] d k l = absurd (not-suc-le-zero l)
distinct_once (N ∷ Ns) d zero l = (both (absent N (0 ∷ Ns)) (distinct Ns) d).0
distinct_once (N ∷ Ns) d (suc k) l =
    let p = both (absent N (0 ∷ Ns)) (distinct Ns) d in
    rw (ne_eqb N (get_or Ns k 0) (λ e. others_at N Ns (others N (0 ∷ Ns) p.0).1 k (omega arith) (sym e))) (distinct_once Ns p.1 k (omega arith))

-- and so a list in which no number stands twice says the number of each of its checks exactly then
pub exact_at : (Ns : List ℕ) (rs : List Refusal) → Numbered Ns rs → T (distinct Ns) → (k L : ℕ) → k < length rs
    → (first rs ≡ refused (get_or Ns k 0) L) ↔ (Silents (take k rs) × (get_or rs k fine ≡ refused (get_or Ns k 0) L))
exact_at Ns rs o d k L l = exact_once Ns rs o k L (distinct_once Ns d k (omega (arith, numbered_length Ns rs o)))
