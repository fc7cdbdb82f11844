-- Laws of specs/Naming.antt that rest on a definition which an edit of must-fail/ changes.
-- The naming law: the naming count of productions shows the minimum, whatever the order (01, demand 3's naming count).
--   naming_law                  after so many puts, at some moment the queue has held its minimum
use Rattle.std.specs.Prelude.{◌≡◌, List, [], ◌∷◌, ◌++◌, ℕ, ◌+◌, ◌-◌, ◌*◌, ◌/◌, ◌%◌, ◌≤◌, ◌<◌}
use Rattle.std.proofs.Common.{◌∙◌, ap, subst, mul-le-mul_left, mul_comm, arith}
use Rattle.arith.specs.Division.{ceil}
use Rattle.arith.proofs.DivisionLaws.{ceil_above}
use Rattle.arith.specs.Gcd.{gcd, gcd_pos_left}
use Rattle.arith.specs.Bezout.{Meets, window}
use Rattle.onequeue.specs.Residue.{residue}
use Rattle.onequeue.proofs.ResidueLaws.{residue_largest}
use Rattle.onequeue.specs.Least.{least}
use Rattle.events.specs.Events.{Event, put, puts, takes, contents, Allowed, owed, Holds}
use Rattle.events.proofs.EventsLaws.{contents_after, balance}
use Rattle.events.specs.Peak.{allowed_before}
use Rattle.events.specs.Naming.{Put, put_at, at_least, rest_add}

-- before the put after j others, the queue holds at least r
held : (s p τ c r j : ℕ) (es : List Event) → c ≤ τ → r < τ → τ ≤ c + (s + p * j) → (s + p * j) % c ≡ r % c → Allowed p τ c s es → puts es ≡ j
    → r ≤ contents p c s es
held s p τ c r j es ct hr far same al e =
    at_least τ c r (s + p * j) (takes es) (contents p c s es) hr far same
    (subst (λ n. s + p * n ≡ contents p c s es + c * takes es) e (balance s p τ c es ct al))
    (subst (λ n. 0 < takes es → c * takes es + τ ≤ s + p * n + c) e (owed s p τ c es ct al))

-- so that with it the queue holds r + p
shown : (s p τ c r j : ℕ) (es : List Event) → c ≤ τ → r < τ → τ ≤ c + (s + p * j) → (s + p * j) % c ≡ r % c → Allowed p τ c s es → j < puts es
    → Holds p c s es (r + p)
unfolding contents
shown s p τ c r j es ct hr far same al more =
    let at : Put es j = put_at es j more in
    let al' : Allowed p τ c s (at.before ++ put ∷ []) = allowed_before p τ c s (at.before ++ put ∷ []) at.after (subst (Allowed p τ c s) at.parts al) in
    let h : r ≤ contents p c s at.before = held s p τ c r j at.before ct hr far same (allowed_before p τ c s at.before (put ∷ []) al') at.count in
    record {
      before = at.before ++ put ∷ [];
      after = at.after;
      parts = at.parts;
      holds = omega (arith, contents_after p c s at.before (put ∷ []));
    }

-- after the naming count of puts the queue has held its minimum
pub naming_law : (s p τ c : ℕ) (es : List Event) → 0 < p → 0 < c → c ≤ τ → s < τ → Allowed p τ c s es → (least s p τ c).by ≤ puts es
    → Holds p c s es (least s p τ c).minimum
unfolding least residue
naming_law s p τ c es hp hc ct hs al enough =
    let g : ℕ = gcd p c in
    let k : ℕ = ceil (τ - s) g - 1 in
    let w : Meets p c (g * k) (ceil (τ - c - s) p) (c / g) = window p c k (ceil (τ - c - s) p) hp hc in
    shown s p τ c (s + k * g) w.at es ct
    (residue_largest s τ g hs (gcd_pos_left p c hp)).below
    (omega (arith, ceil_above (τ - c - s) p hp, mul-le-mul_left p w.low))
    (rest_add s (p * w.at) (k * g) c (w.meets ∙ ap (λ (n : ℕ). n % c) (mul_comm g k)))
    al (omega (arith, w.high))
