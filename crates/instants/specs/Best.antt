-- The node that works is the best (01, Firing): over threshold, no deadline earlier, none equal nearer the sink.
--   due, able              the deadline of each node's next firing, and which nodes may fire
--   First due r j          N_r goes before N_j
--   Best due able n r      of the nodes 1 to n, r is the one to choose; 0 where none is able
--   best_unique            there is one best only
use Rattle.std.specs.Prelude.{◌≡◌, Bool, true, ℕ, suc, ◌+◌, ◌≤◌, ◌<◌}
use Rattle.std.proofs.Common.{sym, ◌∙◌, ⊎_elim, eq-or-lt_of_le, le_antisymm, arith}
use Rattle.std.proofs.Math.Logic.{by_cases}
use Rattle.std.proofs.Math.Decide.{dec_le}

-- N_r is a node other than the source, is due no later than N_j, and is due before it where N_j is nearer the sink
pub record First (due : ℕ → ℕ) (r j : ℕ) : Type 0 where
  pub some : 0 < r
  pub early : due r ≤ due j
  pub tie : r < j → due r < due j

-- r is one of the nodes 1 to n that are able, and goes before each of them; or it is 0, and none is able
pub record Best (due : ℕ → ℕ) (able : ℕ → Bool) (n r : ℕ) : Type 0 where
  pub low : r ≤ n
  pub able_it : 0 < r → able r ≡ true
  pub first : (j : ℕ) → 0 < j → j ≤ n → able j ≡ true → First due r j

-- a node up to n + 1 is n + 1, or one up to n
pub last : (P : ℕ → Type 0) (j n : ℕ) → j ≤ suc n → P (suc n) → (j ≤ n → P j) → P j
last P j n l top rest = ⊎_elim (λ e. rw e top) (λ h. rest (omega arith)) (eq-or-lt_of_le l)

-- a best node is no nearer the sink than another
best_below : {due : ℕ → ℕ} {able : ℕ → Bool} {n r q : ℕ} → Best due able n r → Best due able n q → r ≤ q
best_below {r = r} {q} a b = by_cases (dec_le r q) (λ h. h) (λ f. absurd (nearer (omega arith)))
  where
    nearer : q < r → ⊥
    nearer l =
        let g = b.first r (omega arith) a.low (a.able_it (omega arith)) in
        let f = a.first q g.some b.low (b.able_it g.some) in
        omega (arith, g.tie l, f.early)

-- there is one best only
pub best_unique : {due : ℕ → ℕ} {able : ℕ → Bool} {n r q : ℕ} → Best due able n r → Best due able n q → r ≡ q
best_unique a b = le_antisymm (best_below a b) (best_below b a)

-- nodes that are as able, each due d later, have the same best
pub best_moved : (due due' : ℕ → ℕ) (able able' : ℕ → Bool) (d n r : ℕ) → ((j : ℕ) → 0 < j → j ≤ n → due' j ≡ due j + d) → ((j : ℕ) → 0 < j → j ≤ n → able' j ≡ able j)
    → Best due able n r → Best due' able' n r
best_moved due due' able able' d n r later alike b = record { low = b.low; able_it = λ some. alike r some b.low ∙ b.able_it some; first = before }
  where
    before : (j : ℕ) → 0 < j → j ≤ n → able' j ≡ true → First due' r j
    before j some l t =
        let f = b.first j some l (sym (alike j some l) ∙ t) in
        let at-r = later r f.some b.low in
        let at_j = later j some l in
        record { some = f.some; early = omega (arith, f.early, at-r, at_j); tie = λ h. omega (arith, f.tie h, at-r, at_j) }
