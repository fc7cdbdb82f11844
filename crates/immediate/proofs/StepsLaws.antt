-- Laws of specs/Steps.antt that rest on a definition which an edit of must-fail/ changes.
-- What fire and settle ask and give, and the steps of their proofs.
--   fire_word                its count is within the limit
--   fire_may                 such a node may fire
--   fire_settle, _done, _sink, settle_none, _fire, _more, _less, _done
--                            the steps
use Rattle.std.specs.Prelude.{◌≡◌, refl}
use Rattle.std.proofs.Common.{subst, ◌∙◌, ⊎_elim, eq-or-lt_of_le, arith}
use Prim.Native.Nat.{ℕ, suc, ◌+◌, ◌*◌, ◌≤◌, ◌<◌}
use Rattle.chain.specs.Record.{row_of}
use Rattle.chain.specs.Sound.{Sound}
use Rattle.chain.specs.declared.Chain.{Chain}
use Rattle.sizing.specs.Sizes.{start}
use Rattle.events.proofs.CountsLaws.{fires_reach}
use Rattle.state.specs.State.{count_at, held_at}
use Rattle.state.specs.Fired.{fired, May}
use Rattle.state.proofs.FiredLaws.{count_fired, count_other, held_other}
use Rattle.state.specs.declared.Run.{Run}
use Rattle.schedule.specs.Counts.{F, fed}
use Rattle.schedule.proofs.CountsLaws.{fed_mono}
use Rattle.schedule.specs.Reached.{reached_fired}
use Rattle.schedule.specs.Schedule.{Next}
use Rattle.schedule.proofs.ScheduleLaws.{tight_fired, next_firing}
use Rattle.immediate.specs.Checks.{most}
use Rattle.immediate.specs.Steps.{Held, FireAsk, trail_none, trail_first, trail_then, FireDone, SettleAsk, SettleDone, Settling}

module _ {k : ℕ} {c : Chain} {s : Run} {i : ℕ} (a : FireAsk k c s i) where
  pub fire_word : count_at s i < most
  fire_word = omega (arith, a.below, a.bounds.within i a.node)

  sound : Sound c
  sound = a.bounds.accepted.chain

  -- 01's rule: of the nodes that may fire, N_i is the one nearest the sink
  next : Next c s i
  next = record { node = a.node; over = a.over; nearest = λ j le l. a.calm j (omega arith) l }

  pub fire_may : May c s i
  fire_may = (next_firing a.bounds.accepted a.bounds.enough a.held.reached a.held.tight next (λ e. omega (arith, fire_word))).may

  held_after : Held c (fired c s i)
  held_after = record {
    reached = reached_fired sound a.held.reached i a.node a.over;
    tight = tight_fired sound a.held.reached next a.held.tight;
  }

  once : count_at (fired c s i) i ≡ count_at s i + 1
  once = count_fired c s i (omega (arith, a.held.reached.wide, a.node, sound.count.1))

  before : (j : ℕ) → j < i → count_at (fired c s i) j ≡ count_at s j
  before j l = count_other c s i j (λ e. omega arith)

  pub fire_settle : i < c.n → SettleAsk k c (fired c s i) i
  fire_settle l = record {
    bounds = a.bounds;
    held = held_after;
    queue = l;
    calm = λ j le lt. rw (held_other c s i j (λ e. omega arith) (λ e. omega arith)) (a.calm j (omega arith) lt);
    below = omega (arith, once, a.below);
  }

  pub fire_done : {r : Run} → SettleDone c (fired c s i) i r → FireDone c s i r
  fire_done d = record {
    trail = trail_first next d.trail;
    held = d.held;
    calm = d.calm;
    same = λ j l. d.same j (omega arith) ∙ before j l;
    once = d.same i (omega arith) ∙ once;
  }

  pub fire_sink : c.n ≤ i → FireDone c s i (fired c s i)
  fire_sink l = record { trail = trail_first next (trail_none c (fired c s i)); held = held_after; calm = λ j le lt. absurd (omega arith); same = before; once = once }

module _ {k : ℕ} {c : Chain} {s : Run} {q : ℕ} (a : SettleAsk k c s q) where
  pub settle_none : Settling c s q s
  settle_none = record { trail = trail_none c s; held = a.held; calm = a.calm; same = λ j l. refl }

  module _ {r : Run} (x : Settling c s q r) where
    -- a consumer that may fire has fired less often than its producer's count lets it
    short : (row_of c q).threshold ≤ held_at r q → count_at r (suc q) < F c k (suc q)
    unfolding F
    short o =
        let row = a.bounds.accepted.chain.rows q a.queue in
        let tokens : (row_of c q).threshold + (row_of c q).consume * count_at r (suc q) ≤ start (row_of c q) + (row_of c q).produce * count_at r q = omega (arith, x.held.reached.balance q a.queue, o) in
        let now : suc (count_at r (suc q)) ≤ fed c q (count_at r q) =
        (fires_reach (row_of c q).threshold (row_of c q).consume (start (row_of c q) + (row_of c q).produce * count_at r q) (count_at r (suc q)) row.consume.0).1 tokens in
        omega (arith, now, fed_mono c q (count_at r q) (F c k q) (omega (arith, x.same q (omega arith), a.below)))

    pub settle_fire : (row_of c q).threshold ≤ held_at r q → FireAsk k c r (suc q)
    settle_fire o = record { bounds = a.bounds; held = x.held; node = a.queue; over = o; calm = x.calm; below = short o }

    pub settle_more : {u : Run} → FireDone c r (suc q) u → Settling c s q u
    settle_more d = record { trail = trail_then x.trail d.trail; held = d.held; calm = d.calm; same = λ j l. d.same j (omega arith) ∙ x.same j l }

    pub settle_less : {u : Run} → FireDone c r (suc q) u → held_at u q < held_at r q
    settle_less {u} d = less _ _ _ _ _ _ _ _ _ (x.held.reached.balance q a.queue) (d.held.reached.balance q a.queue)
        (d.same q (omega arith)) d.once (a.bounds.accepted.chain.rows q a.queue).consume.0
      where
        less : (s p c N M x N' M' x' : ℕ) → s + p * N ≡ x + c * M → s + p * N' ≡ x' + c * M' → N' ≡ N → M' ≡ M + 1 → 1 ≤ c → x' < x
        less s p c N M x N' M' x' e e' f g l = omega (arith, e, rw (f, g) at e')

    pub settle_done : held_at r q < (row_of c q).threshold → SettleDone c s q r
    settle_done l = record {
      trail = x.trail;
      held = x.held;
      calm = λ j le lt. ⊎_elim (λ e. subst (λ (m : ℕ). held_at r m < (row_of c m).threshold) e l) (λ h. x.calm j h lt) (eq-or-lt_of_le le);
      same = x.same;
    }
