-- Laws of specs/Queues.antt that rest on a definition which an edit of must-fail/ changes.
-- What one queue sees of a history (01, Firing).
--   times_again, times_other how often N_j fires in a history that begins with N_j, and with another node
--   events_append            histories one after the other
--   puts_times, takes_times  its puts are the firings of N_q, its takes those of N_(q+1)
--   held_contents            after a permitted history the queue holds what its events leave in it
--   queue_allowed            each of its takes finds τ
--   queue_settled            and where the history is prompt, no put does
use Rattle.std.specs.Prelude.{◌≡◌, ◌≢◌}
use Rattle.std.proofs.Math.Path.{refl, sym, ap}
use Rattle.std.proofs.Common.{subst, ◌∙◌, arith, eq-eqb, ne_eqb}
use mathlib.Core.List.{List, [], ◌∷◌, ◌++◌, append_assoc}
use Prim.Native.Nat.{ℕ, suc, ◌<◌}
use Rattle.chain.specs.Refusals.{Silent}
use Rattle.chain.specs.Record.{row_of}
use Rattle.chain.specs.declared.Chain.{Chain}
use Rattle.state.specs.State.{held_at}
use Rattle.state.specs.Fired.{fired, Over, over_enough, Slots}
use Rattle.state.proofs.FiredLaws.{slots_kept, held_output, held_input, held_other}
use Rattle.state.specs.Fire.{fire_refusal}
use Rattle.state.proofs.FireLaws.{fire_accepts}
use Rattle.state.specs.declared.Run.{Run}
use Rattle.events.specs.Events.{puts, takes, contents, Allowed, Settled}
use Rattle.events.proofs.EventsLaws.{contents_after}
use Rattle.history.specs.History.{times, after, Permitted, Prompt, EachFiring}
use Rattle.history.specs.Queues.{seen, events, seen_cases, allowed_append, settled_append}

-- N_j, in a history that begins with it
pub times_again : (i j : ℕ) (h : List ℕ) → i ≡ j → times j (i ∷ h) ≡ suc (times j h)
unfolding times
times_again i j h e = simp (eq-eqb i j e)

-- and in one that begins with another node
pub times_other : (i j : ℕ) (h : List ℕ) → i ≢ j → times j (i ∷ h) ≡ times j h
unfolding times
times_other i j h n = simp (ne_eqb i j n)

module _ (q : ℕ) where
  -- the events of one history and then another
  pub events_append : (g h : List ℕ) → events q (g ++ h) ≡ events q g ++ events q h
  unfolding events
  events_append [] h = refl
  events_append (i ∷ g) h = ap (λ es. seen q i ++ es) (events_append g h) ∙ sym (append_assoc (seen q i) (events q g) (events q h))

  -- its puts are its producer's firings
  pub puts_times : (h : List ℕ) → puts (events q h) ≡ times q h
  unfolding events times puts
  puts_times [] = refl
  puts_times (i ∷ h) = seen_cases q i (λ es. puts (es ++ events q h) ≡ times q (i ∷ h))
      (λ e. ap suc (puts_times h) ∙ sym (times_again i q h e))
      (λ e. puts_times h ∙ sym (times_other i q h (λ f. omega arith)))
      (λ m n. puts_times h ∙ sym (times_other i q h m))

  -- its takes are its consumer's
  pub takes_times : (h : List ℕ) → takes (events q h) ≡ times (suc q) h
  unfolding events times takes
  takes_times [] = refl
  takes_times (i ∷ h) = seen_cases q i (λ es. takes (es ++ events q h) ≡ times (suc q) (i ∷ h))
      (λ e. takes_times h ∙ sym (times_other i (suc q) h (λ f. omega arith)))
      (λ e. ap suc (takes_times h) ∙ sym (times_again i (suc q) h e))
      (λ m n. takes_times h ∙ sym (times_other i (suc q) h n))

module _ (c : Chain) (q : ℕ) (inside : q < c.n) where
  -- one firing that is not refused, as the queue sees it
  fired_contents : (s : Run) (i : ℕ) → Slots c.n s → Silent (fire_refusal c s i)
      → held_at (fired c s i) q ≡ contents (row_of c q).produce (row_of c q).consume (held_at s q) (seen q i)
  unfolding contents
  fired_contents s i k z =
      let m = (fire_accepts c s i).0 z in
      seen_cases q i (λ es. held_at (fired c s i) q ≡ contents (row_of c q).produce (row_of c q).consume (held_at s q) es)
      (λ e. rw e (held_output c s q inside (omega (arith, k.held))))
      (λ e. rw e (omega (arith, held_input c s q (omega (arith, k.held)) (over_enough m.0.chain s q inside (subst (Over c s) e m.1.1.over)))))
      (λ n n'. held_other c s i q (λ e. n (sym e)) (λ e. n' (sym e)))

  -- its take, if it is one, finds τ
  fired_allowed : (s : Run) (i : ℕ) → Silent (fire_refusal c s i) → Allowed (row_of c q).produce (row_of c q).threshold (row_of c q).consume (held_at s q) (seen q i)
  unfolding Allowed
  fired_allowed s i z = seen_cases q i (Allowed (row_of c q).produce (row_of c q).threshold (row_of c q).consume (held_at s q))
      (λ e. tt) (λ e. (subst (Over c s) e ((fire_accepts c s i).0 z).1.1.over, tt)) (λ n n'. tt)

  -- its put, if it is one and the firing is prompt, finds less
  fired_settled : (s : Run) (i : ℕ) → (i < c.n → held_at s i < (row_of c i).threshold)
      → Settled (row_of c q).produce (row_of c q).threshold (row_of c q).consume (held_at s q) (seen q i)
  unfolding Settled
  fired_settled s i low = seen_cases q i (Settled (row_of c q).produce (row_of c q).threshold (row_of c q).consume (held_at s q))
      (λ e. (subst (λ j. j < c.n → held_at s j < (row_of c j).threshold) e low inside, tt)) (λ e. tt) (λ n n'. tt)

  -- the queue holds what its events leave in it
  pub held_contents : (s : Run) (h : List ℕ) → Slots c.n s → Permitted c s h
      → held_at (after c s h) q ≡ contents (row_of c q).produce (row_of c q).consume (held_at s q) (events q h)
  unfolding after EachFiring events contents
  held_contents s [] k ok = refl
  held_contents s (i ∷ h) k ok =
      held_contents (fired c s i) h (slots_kept c s i k) ok.1
      ∙ ap (λ (x : ℕ). contents (row_of c q).produce (row_of c q).consume x (events q h)) (fired_contents s i k ok.0)
      ∙ sym (contents_after (row_of c q).produce (row_of c q).consume (held_at s q) (seen q i) (events q h))

  -- each of its takes finds τ
  pub queue_allowed : (s : Run) (h : List ℕ) → Slots c.n s → Permitted c s h
      → Allowed (row_of c q).produce (row_of c q).threshold (row_of c q).consume (held_at s q) (events q h)
  unfolding EachFiring events Allowed
  queue_allowed s [] k ok = tt
  queue_allowed s (i ∷ h) k ok =
      allowed_append _ _ _ (held_at s q) (seen q i) (events q h) (fired_allowed s i ok.0)
      (subst (λ (x : ℕ). Allowed (row_of c q).produce (row_of c q).threshold (row_of c q).consume x (events q h)) (fired_contents s i k ok.0)
      (queue_allowed (fired c s i) h (slots_kept c s i k) ok.1))

  -- and in a prompt history each of its puts finds less
  pub queue_settled : (s : Run) (h : List ℕ) → Slots c.n s → Permitted c s h → Prompt c s h
      → Settled (row_of c q).produce (row_of c q).threshold (row_of c q).consume (held_at s q) (events q h)
  unfolding EachFiring events Settled
  queue_settled s [] k ok low = tt
  queue_settled s (i ∷ h) k ok low =
      settled_append _ _ _ (held_at s q) (seen q i) (events q h) (fired_settled s i low.0)
      (subst (λ (x : ℕ). Settled (row_of c q).produce (row_of c q).threshold (row_of c q).consume x (events q h)) (fired_contents s i k ok.0)
      (queue_settled (fired c s i) h (slots_kept c s i k) ok.1 low.1))
