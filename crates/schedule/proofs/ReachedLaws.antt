-- Laws of specs/Reached.antt that rest on a definition which an edit of must-fail/ changes.
-- What holds of every state that firings lead to from a fresh start, whatever their order (01, Firing; 004, Lemma 5.1).
--   calm_counts              a calm state has each node's count by its producer's
--   counts                   and so by the source's: they are F
--   same_counts              two of these states with the same counts are the same
--   one_state                so a calm state is known by the source's count
--   below_minimum            a queue below threshold has room for one production within its minimum
use Rattle.std.specs.Prelude.{◌≡◌}
use Rattle.std.proofs.Math.Path.{refl, ap}
use Rattle.std.proofs.Common.{sym, ◌∙◌, arith, ext_get_or}
use Rattle.std.proofs.Math.Logic.{by_cases}
use Prim.Native.Nat.{ℕ, zero, suc, ◌+◌, ◌≤◌, ◌<◌}
use Rattle.std.proofs.Math.Decide.{dec_lt, dec_le}
use Rattle.chain.specs.Record.{row_of}
use Rattle.chain.specs.Sound.{Sound}
use Rattle.chain.specs.declared.Chain.{Chain}
use Rattle.events.proofs.CountsLaws.{fires_is}
use Rattle.events.specs.Peak.{room}
use Rattle.sizing.specs.Sizes.{minimum_of}
use Rattle.state.specs.State.{count_at, held_at, same_run}
use Rattle.state.specs.declared.Run.{Run}
use Rattle.schedule.specs.Counts.{fed, F}
use Rattle.schedule.specs.Reached.{Reached, Calm, held_alike}

module _ {c : Chain} {s : Run} (k : Sound c) (r : Reached c s) where
  -- a queue below threshold has its consumer's count by its producer's
  pub calm_counts : (i : ℕ) → Calm c s i → (j : ℕ) → i ≤ j → j < c.n → count_at s (suc j) ≡ fed c j (count_at s j)
  calm_counts i calm j m l = fires_is _ _ _ _ _ (k.rows j l).consume.0 (r.balance j l) (calm j m l) (r.owed j l)

  -- "exact counts", 004's Lemma 5.1
  pub counts : Calm c s 0 → (j : ℕ) → j ≤ c.n → count_at s j ≡ F c (count_at s 0) j
  unfolding F
  counts calm zero l = refl
  counts calm (suc j) l = calm_counts 0 calm j (omega arith) l ∙ ap (fed c j) (counts calm j (omega arith))

  -- a queue below threshold has room for one production within its minimum
  pub below_minimum : (j : ℕ) → j < c.n → held_at s j < (row_of c j).threshold → held_at s j + (row_of c j).produce ≤ minimum_of (row_of c j)
  below_minimum j l low = room _ _ _ _ _ _ _ (k.rows j l).produce.0 (k.rows j l).threshold.0 (r.balance j l) low

module _ {c : Chain} {s t : Run} (k : Sound c) (r : Reached c s) (q : Reached c t) where
  -- states with the same counts are the same
  pub same_counts : ((j : ℕ) → j ≤ c.n → count_at s j ≡ count_at t j) → s ≡ t
  same_counts e = same_run (r.clock ∙ sym q.clock)
      (ext_get_or 0 s.counts t.counts (r.wide ∙ sym q.wide) (λ j l. by_cases (dec_le j c.n) (λ m. e j m) (λ f. r.counts_past j (omega arith) ∙ sym (q.counts_past j (omega arith)))))
      (ext_get_or 0 s.held t.held (r.deep ∙ sym q.deep) (λ j l. by_cases (dec_lt j c.n)
      (λ m. held_alike _ _ _ _ _ _ _ _ _ (e j (omega arith)) (e (suc j) m) (r.balance j m) (q.balance j m))
      (λ f. r.held_past j (omega arith) ∙ sym (q.held_past j (omega arith)))))
      (r.done ∙ sym q.done)

  -- so two calm states are the same where the source has fired equally often
  pub one_state : Calm c s 0 → Calm c t 0 → count_at s 0 ≡ count_at t 0 → s ≡ t
  one_state u v e = same_counts (λ j l. counts k r u j l ∙ ap (λ (n : ℕ). F c n j) e ∙ sym (counts k q v j l))
