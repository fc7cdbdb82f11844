-- Laws of specs/Peak.antt that rest on a definition which an edit of must-fail/ changes.
-- The peak law: a settled queue never holds more than its minimum (000, Lemma 1).
--   peak_law                    where each take finds τ and no put does, the minimum is not passed
--   allowed_before, settled_before
--                               the first events of such a list are such a list
--   peak_always                 so the minimum is not passed at any moment
use Rattle.std.specs.Prelude.{◌≡◌, List, [], ◌∷◌, ◌++◌, ℕ, suc, ◌+◌, ◌-◌, ◌*◌, ◌≤◌, ◌<◌}
use Rattle.std.proofs.Common.{subst, le_trans, arith}
use Rattle.onequeue.specs.Least.{least}
use Rattle.onequeue.proofs.LeastLaws.{minimum_threshold}
use Rattle.events.specs.Events.{Event, put, take, contents, Allowed, Settled, Holds}
use Rattle.events.specs.Peak.{room, allowed_before}

-- from contents x, after N productions and M consumptions
peak_from : (s p τ c N M x : ℕ) (es : List Event) → 0 < p → c ≤ τ → s < τ → s + p * N ≡ x + c * M → x ≤ (least s p τ c).minimum
    → Allowed p τ c x es → Settled p τ c x es → contents p c x es ≤ (least s p τ c).minimum
unfolding contents Allowed Settled
peak_from s p τ c N M x [] hp ct hs bal most al st = most
peak_from s p τ c N M x (put ∷ es) hp ct hs bal most al st =
    peak_from s p τ c (suc N) M (x + p) es hp ct hs (omega arith) (room s p τ c N M x hp hs bal st.0) al st.1
peak_from s p τ c N M x (take ∷ es) hp ct hs bal most al st =
    peak_from s p τ c N (suc M) (x - c) es hp ct hs (omega (arith, al.0)) (omega arith) al.1 st

-- from what the queue starts with on: where each take finds τ and no put does, the minimum is not passed
pub peak_law : (s p τ c : ℕ) (es : List Event) → 0 < p → c ≤ τ → s < τ → Allowed p τ c s es → Settled p τ c s es
    → contents p c s es ≤ (least s p τ c).minimum
peak_law s p τ c es hp ct hs = peak_from s p τ c 0 0 s es hp ct hs (omega arith) (omega (arith, minimum_threshold s p τ c hs hp))

-- and so of a settled list
pub settled_before : (p τ c x : ℕ) (before after : List Event) → Settled p τ c x (before ++ after) → Settled p τ c x before
unfolding Settled
settled_before p τ c x [] after st = tt
settled_before p τ c x (put ∷ before) after st = (st.0, settled_before p τ c (x + p) before after st.1)
settled_before p τ c x (take ∷ before) after st = settled_before p τ c (x - c) before after st

-- so at no moment the minimum is passed
pub peak_always : (s p τ c b : ℕ) (es : List Event) → 0 < p → c ≤ τ → s < τ → Allowed p τ c s es → Settled p τ c s es
    → Holds p c s es b → b ≤ (least s p τ c).minimum
peak_always s p τ c b es hp ct hs al st h =
    le_trans h.holds
    (peak_law s p τ c h.before hp ct hs
    (allowed_before p τ c s h.before h.after (subst (Allowed p τ c s) h.parts al))
    (settled_before p τ c s h.before h.after (subst (Settled p τ c s) h.parts st)))
