-- Laws of specs/Laws.antt that rest on a definition which an edit of must-fail/ changes.
-- The laws of every permitted history of an accepted chain, from a fresh start (01, Firing, and demand 3).
--   fresh_contents, fresh_allowed, fresh_settled
--                            what queue j sees of a permitted history: what is held, each take finds τ, and in a prompt one no put does
--   counted_from, counted    a node's count has grown by how often it fired, and from a fresh start is that
--   balance                  what a queue started with and what was put into it is what it holds and what was taken from it
--   naming                   a producer that fired the naming count has shown the minimum, in whatever permitted order
--   peak_end, peak           a prompt order does not pass the minimum, at its end or at any moment
--   reached                  a prompt order in which the producer fired the naming count has held exactly the minimum
use Rattle.std.specs.Prelude.{◌≡◌, refl, List, [], ◌∷◌, ◌++◌, ℕ, suc, ◌+◌, ◌*◌, ◌≤◌, ◌<◌, length}
use Rattle.std.proofs.Common.{sym, subst, ◌∙◌, le_trans, le_antisymm, arith}
use Rattle.std.proofs.Math.Logic.{by_cases}
use Rattle.std.proofs.Math.Decide.{ℕ_discrete}
use Rattle.chain.specs.Record.{row_of}
use Rattle.chain.specs.Sound.{SoundRow}
use Rattle.chain.specs.declared.Chain.{Chain}
use Rattle.sizing.specs.Sizes.{start, minimum_of, naming_of}
use Rattle.sizing.specs.Accepted.{Accepted}
use Rattle.state.specs.State.{count_at, held_at, fresh_run, fresh_count, fresh_held}
use Rattle.state.specs.Fired.{fired}
use Rattle.state.proofs.FiredLaws.{counts_length, count_fired, count_other}
use Rattle.state.specs.declared.Run.{Run}
use Rattle.events.proofs.EventsLaws as one_laws
use Rattle.events.specs.Events.{contents, Allowed, Settled, Holds}
use Rattle.events.proofs.PeakLaws.{peak_law}
use Rattle.events.proofs.NamingLaws.{naming_law}
use Rattle.history.specs.History.{times, after, Permitted, Prompt, at_some, HasHeld, HeldExactly, each_before}
use Rattle.history.specs.Queues.{events, Cut, cut}
use Rattle.history.proofs.QueuesLaws.{times_again, times_other, puts_times, takes_times, held_contents, queue_allowed, queue_settled}
use Rattle.history.specs.Laws.{fresh_slots}

-- from any state that has a count for N_i
pub counted_from : (c : Chain) (s : Run) (h : List ℕ) (i : ℕ) → i < length s.counts → count_at (after c s h) i ≡ count_at s i + times i h
unfolding after times
counted_from c s [] i l = omega arith
counted_from c s (j ∷ h) i l = counted_from c (fired c s j) h i (omega (arith, counts_length c s j)) ∙ by_cases (ℕ_discrete j i)
    (λ e. rw (times_again j i h e, e, count_fired c s i l) (omega arith))
    (λ n. rw (times_other j i h n, count_other c s j i (λ e. n (sym e))) refl)

-- whether or not the firings were accepted
pub counted : (c : Chain) → Accepted c → (h : List ℕ) (i : ℕ) → i ≤ c.n → count_at (after c (fresh_run c) h) i ≡ times i h
counted c a h i l = omega (arith, counted_from c (fresh_run c) h i (omega (arith, (fresh_slots c a.chain).counts)), fresh_count c i)

-- what queue j sees of h, from what it starts with
module _ (c : Chain) (a : Accepted c) (j : ℕ) (l : j < c.n) (h : List ℕ) (ok : Permitted c (fresh_run c) h) where
  -- the queue holds what its events leave of what it starts with
  pub fresh_contents : held_at (after c (fresh_run c) h) j ≡ contents (row_of c j).produce (row_of c j).consume (start (row_of c j)) (events j h)
  fresh_contents =
      subst (λ (x : ℕ). held_at (after c (fresh_run c) h) j ≡ contents (row_of c j).produce (row_of c j).consume x (events j h)) (fresh_held a.chain j l)
      (held_contents c j l (fresh_run c) h (fresh_slots c a.chain) ok)

  -- each of its takes finds τ
  pub fresh_allowed : Allowed (row_of c j).produce (row_of c j).threshold (row_of c j).consume (start (row_of c j)) (events j h)
  fresh_allowed =
      subst (λ (x : ℕ). Allowed (row_of c j).produce (row_of c j).threshold (row_of c j).consume x (events j h)) (fresh_held a.chain j l)
      (queue_allowed c j l (fresh_run c) h (fresh_slots c a.chain) ok)

  -- and in a prompt order each of its puts finds less
  pub fresh_settled : Prompt c (fresh_run c) h → Settled (row_of c j).produce (row_of c j).threshold (row_of c j).consume (start (row_of c j)) (events j h)
  fresh_settled low =
      subst (λ (x : ℕ). Settled (row_of c j).produce (row_of c j).threshold (row_of c j).consume x (events j h)) (fresh_held a.chain j l)
      (queue_settled c j l (fresh_run c) h (fresh_slots c a.chain) ok low)

-- what a history begins with
module _ (c : Chain) {h : List ℕ} (g k : List ℕ) (e : h ≡ g ++ k) where
  -- a beginning of a permitted history is permitted
  permitted_start : Permitted c (fresh_run c) h → Permitted c (fresh_run c) g
  permitted_start ok = each_before c _ (fresh_run c) g k (subst (Permitted c (fresh_run c)) e ok)

  -- and one of a prompt history is prompt
  prompt_start : Prompt c (fresh_run c) h → Prompt c (fresh_run c) g
  prompt_start low = each_before c _ (fresh_run c) g k (subst (Prompt c (fresh_run c)) e low)

module _ (c : Chain) (a : Accepted c) (h : List ℕ) (ok : Permitted c (fresh_run c) h) where
  -- "each queue holds what its producer's firings put in less what its consumer's took out", as a sum
  pub balance : (j : ℕ) → j < c.n → start (row_of c j) + (row_of c j).produce * times j h ≡ held_at (after c (fresh_run c) h) j + (row_of c j).consume * times (suc j) h
  balance j l =
      rw (fresh_contents c a j l h ok, ← puts_times j h, ← takes_times j h)
      (one_laws.balance (start (row_of c j)) (row_of c j).produce (row_of c j).threshold (row_of c j).consume (events j h) (a.chain.rows j l).order (fresh_allowed c a j l h ok))

  -- "in no permitted order can a producer fire as often as 01 names for its queue unless that queue has held at least the minimum"
  pub naming : (j : ℕ) → j < c.n → naming_of (row_of c j) ≤ times j h → HasHeld c h j (minimum_of (row_of c j))
  naming j l enough =
      let row : SoundRow (row_of c j) = a.chain.rows j l in
      let m : Holds (row_of c j).produce (row_of c j).consume (start (row_of c j)) (events j h) (minimum_of (row_of c j)) =
      naming_law (start (row_of c j)) (row_of c j).produce (row_of c j).threshold (row_of c j).consume (events j h)
      row.produce.0 row.consume.0 row.order row.threshold.0 (fresh_allowed c a j l h ok) (rw (puts_times j h) enough) in
      let k : Cut j h m.before = cut j h m.before m.after m.parts in
      record {
        before = k.before;
        later = k.later;
        parts = k.parts;
        holds = rw (fresh_contents c a j l k.before (permitted_start c k.before k.later k.parts ok), k.sees) m.holds;
      }

  -- at the end of a prompt order no queue holds more than its minimum
  pub peak_end : Prompt c (fresh_run c) h → (j : ℕ) → j < c.n → held_at (after c (fresh_run c) h) j ≤ minimum_of (row_of c j)
  peak_end low j l =
      let row : SoundRow (row_of c j) = a.chain.rows j l in
      rw (fresh_contents c a j l h ok)
      (peak_law (start (row_of c j)) (row_of c j).produce (row_of c j).threshold (row_of c j).consume (events j h)
      row.produce.0 row.order row.threshold.0 (fresh_allowed c a j l h ok) (fresh_settled c a j l h ok low))

module _ (c : Chain) (a : Accepted c) (h : List ℕ) (ok : Permitted c (fresh_run c) h) (low : Prompt c (fresh_run c) h) where
  -- the end of what h begins with
  peak_at : (g k : List ℕ) → h ≡ g ++ k → (j : ℕ) → j < c.n → held_at (after c (fresh_run c) g) j ≤ minimum_of (row_of c j)
  peak_at g k e j l = peak_end c a g (permitted_start c g k e ok) (prompt_start c g k e low) j l

  -- and so at no moment
  pub peak : (j : ℕ) → j < c.n → (b : ℕ) → HasHeld c h j b → b ≤ minimum_of (row_of c j)
  peak j l b m = le_trans m.holds (peak_at m.before m.later m.parts j l)

  -- so where the producer has fired the naming count, the queue has held exactly the minimum
  pub reached : (j : ℕ) → j < c.n → naming_of (row_of c j) ≤ times j h → HeldExactly c h j (minimum_of (row_of c j))
  reached j l enough = at_some (λ g k e least. le_antisymm (peak_at g k e j l) least) (naming c a h ok j l enough)
