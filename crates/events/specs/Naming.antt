-- The naming law: the naming count of productions shows the minimum, whatever the order (01, demand 3's naming count).
--   s, p, τ, c                  the contents at the start; produce, threshold and consume
use Rattle.std.specs.Prelude.{◌≡◌, refl, List, [], ◌∷◌, ◌++◌, ℕ, zero, suc, ◌+◌, ◌*◌, ◌%◌, ◌≤◌, ◌<◌}
use Rattle.std.proofs.Common.{sym, ◌∙◌, ap, lt_of_not-le, arith}
use Rattle.std.proofs.Math.Nat.{add-mod}
use Rattle.std.proofs.Math.Decide.{dec_le}
use Rattle.arith.specs.Division.{rest_of_sum, same_rest_gap}
use Rattle.events.specs.Events.{Event, put, take, puts}

-- the put of es that comes after j others
pub record Put (es : List Event) (j : ℕ) : Type 0 where
  pub before : List Event
  pub after : List Event
  pub parts : es ≡ (before ++ put ∷ []) ++ after
  pub count : puts before ≡ j

-- there is one for each j below their number
pub put_at : (es : List Event) (j : ℕ) → j < puts es → Put es j
unfolding puts
put_at [] j h = absurd (omega arith)
put_at (put ∷ es) zero h = record { before = []; after = es; parts = refl; count = refl }
put_at (put ∷ es) (suc j) h =
    let r : Put es j = put_at es j (omega arith) in
    record { before = put ∷ r.before; after = r.after; parts = ap (λ l. put ∷ l) r.parts; count = ap suc r.count }
put_at (take ∷ es) j h =
    let r : Put es j = put_at es j h in
    record { before = take ∷ r.before; after = r.after; parts = ap (λ l. take ∷ l) r.parts; count = r.count }

-- of N tokens, x are left by M takes that each found τ: at least r, where N has r's remainder by c, r is below τ, and N is at least τ - c
pub at_least : (τ c r N M x : ℕ) → r < τ → τ ≤ c + N → N % c ≡ r % c → N ≡ x + c * M → (0 < M → c * M + τ ≤ N + c) → r ≤ x
at_least τ c r N M x hr far same bal last = by (dec_le r x)
  where
    low : (M : ℕ) → N ≡ x + c * M → (0 < M → c * M + τ ≤ N + c) → τ ≤ x + c
    low zero e more = omega arith
    low (suc M) e more = omega (arith, more (omega arith))

    by : Dec (r ≤ x) → r ≤ x
    by (yes h) = h
    by (no f) = absurd (omega (arith, low M bal last, same_rest_gap x r c (sym (rest_of_sum N x c M bal) ∙ same) (lt_of_not-le f)))

-- equal remainders stay equal when the same is added
pub rest_add : (s a b c : ℕ) → a % c ≡ b % c → (s + a) % c ≡ (s + b) % c
rest_add s a b c e = add-mod s a c ∙ ap (λ (n : ℕ). (s % c + n) % c) e ∙ sym (add-mod s b c)
