-- Laws of specs/Lent.antt that rest on a definition which an edit of must-fail/ changes.
-- Fire and settle over a lent flow: what they ask and give of the state that it shows.
--   fire_ready, _size, _settles, _ends, _ends_sink, settle_size, going_none, _size, _fire, -more, -less, -done
--                            the steps of the two calls
--   driving_none, _fire, _more, _done
--                            the steps of the whole run
use Rattle.std.specs.Prelude.{◌≡◌, List, ℕ, suc, ◌+◌, ◌≤◌, ◌<◌}
use Rattle.std.proofs.Common.{sym, ap, subst, ◌∙◌, add-one, arith}
use Rattle.chain.specs.Record.{row_of}
use Rattle.chain.specs.Sound.{Sound}
use Rattle.chain.specs.declared.Chain.{Chain}
use Rattle.state.specs.State.{count_at, held_at, fresh_run, fresh_count}
use Rattle.state.specs.Fired.{fired}
use Rattle.state.specs.declared.Run.{Run}
use Rattle.history.specs.History.{times, after}
use Rattle.history.proofs.Laws.{counted_from}
use Rattle.schedule.specs.Counts.{F}
use Rattle.schedule.specs.Reached.{Reached, Calm, reached_fresh, fresh_calm}
use Rattle.schedule.specs.Schedule.{schedule, fresh_tight}
use Rattle.schedule.proofs.ScheduleLaws.{unique}
use Rattle.flow.specs.Flow.{threshold_in, held_in, size_in, firing, Shows, Ready, shows_fired}
use Rattle.flow.specs.Shown.{shown, shown_is}
use Rattle.immediate.specs.Steps.{Bounds, Trail, trail_none, trail_then, FireAsk, FireDone, SettleAsk, Settling}
use Rattle.immediate.proofs.StepsLaws.{fire_word, fire_may}
use Rattle.immediate.proofs.StepsLaws.{fire_settle, fire_done, fire_sink, settle_none, settle_fire, settle_more, settle_less, settle_done}
use Rattle.immediate.specs.Lent.{Fire, Settle, Showing, FireGives, SettleGives, Going, Driven, Driving}

-- the flow that fire is handed shows, after the firing, the state after it
shown_next : {l : List ℕ} {k : ℕ} {c : Chain} {s : Run} {i : ℕ} → Shows l c s → FireAsk k c s i → Shows (firing l i) c (fired c s i)
shown_next x a = shows_fired x a.bounds.accepted.chain (fire_may a)

-- what fire is handed
module _ {l : List ℕ} {i : ℕ} (f : Fire l i) where
  pub fire_ready : Ready l i
  fire_ready = record {
    chain = f.chain;
    run = f.run;
    shows = f.shows;
    sound = f.ask.bounds.accepted.chain;
    may = fire_may f.ask;
    word = omega (arith, fire_word f.ask);
  }

  next : Shows (firing l i) f.chain (fired f.chain f.run i)
  next = shown_next f.shows f.ask

  pub fire_size : (size_in (firing l i) ≡ size_in l) × (size_in l ≤ 16)
  fire_size = (next.many ∙ sym f.shows.many, omega (arith, f.shows.many, f.shows.few))

  pub fire_settles : i < size_in (firing l i) → Settle (firing l i) i
  fire_settles h = record { runs = f.runs; chain = f.chain; run = fired f.chain f.run i; shows = next; ask = fire_settle f.ask (omega (arith, next.many)) }

pub fire_ends : {l m : List ℕ} {i : ℕ} → i < size_in (firing l i) → SettleGives (firing l i) i m → FireGives l i m
fire_ends {l} {m} {i} h g = record {
  gives = λ k c s x a.
      let y = shown_next x a in
      let z = g.gives k c (fired c s i) y (fire_settle a (omega (arith, y.many))) in
      record { run = z.run; shows = z.shows; is = fire_done a z.is };
}

pub fire_ends_sink : {l : List ℕ} {i : ℕ} → size_in (firing l i) ≤ i → FireGives l i (firing l i)
fire_ends_sink {l} {i} h = record {
  gives = λ k c s x a.
      let y = shown_next x a in
      record { run = fired c s i; shows = y; is = fire_sink a (omega (arith, y.many)) };
}

pub settle_size : {l : List ℕ} {q : ℕ} → Settle l q → (q < size_in l) × (size_in l ≤ 16)
settle_size a = (omega (arith, a.shows.many, a.ask.queue), omega (arith, a.shows.many, a.shows.few))

pub going_none : {l : List ℕ} {q : ℕ} → Going l q l
going_none = record { gives = λ k c s x a. record { run = s; shows = x; is = settle_none a } }

module _ {l m : List ℕ} {q : ℕ} (g : Going l q m) where
  pub going_size : Settle l q → size_in m ≡ size_in l
  going_size a = (g.gives a.runs a.chain a.run a.shows a.ask).shows.many ∙ sym a.shows.many

  pub going_done : held_in m q < threshold_in m q → SettleGives l q m
  going_done h = record {
    gives = λ k c s x a.
        let y = g.gives k c s x a in
        record { run = y.run; shows = y.shows; is = settle_done a y.is (omega (arith, h, y.shows.holds q (omega (arith, x.few, a.queue)), y.shows.waits q a.queue)) };
  }

  module _ (h : threshold_in m q ≤ held_in m q) where
    over : (k : ℕ) (c : Chain) (s r : Run) → SettleAsk k c s q → Shows m c r → (row_of c q).threshold ≤ held_at r q
    over k c s r a y = omega (arith, h, y.holds q (omega (arith, y.few, a.queue)), y.waits q a.queue)

    pub going_fire : Settle l q → Fire m (q + 1)
    going_fire a =
        let y = g.gives a.runs a.chain a.run a.shows a.ask in
        rw add-one (record {
          runs = a.runs;
          chain = a.chain;
          run = y.run;
          shows = y.shows;
          ask = settle_fire a.ask y.is (over a.runs a.chain a.run y.run a.ask y.shows);
        })

    module _ {u : List ℕ} (f : FireGives m (q + 1) u) where
      fires : (k : ℕ) (c : Chain) (s r : Run) → SettleAsk k c s q → Shows m c r → Settling c s q r → Showing (FireDone c r (suc q)) c u
      fires k c s r a y x = (subst (λ (n : ℕ). FireGives m n u) (add-one q) f).gives k c r y (settle_fire a x (over k c s r a y))

      pub going_more : Going l q u
      going_more = record {
        gives = λ k c s x a.
            let y = g.gives k c s x a in
            let z = fires k c s y.run a y.shows y.is in
            record { run = z.run; shows = z.shows; is = settle_more a y.is z.is };
      }

      pub going_less : Settle l q → held_in u q < held_in m q
      going_less a =
          let y = g.gives a.runs a.chain a.run a.shows a.ask in
          let z = fires a.runs a.chain a.run y.run a.ask y.shows y.is in
          let b : q < 16 = omega (arith, a.shows.few, a.ask.queue) in
          omega (arith, z.shows.holds q b, y.shows.holds q b, settle_less a.ask y.is z.is)

pub driving_none : (k : ℕ) (l : List ℕ) → Driving k l 0 l
driving_none k l = record {
  gives = λ c b x. record {
    most = omega arith;
    state = record {
      run = fresh_run c;
      shows = x;
      is = record {
        trail = trail_none c (fresh_run c);
        held = record { reached = reached_fresh b.accepted.chain; tight = fresh_tight b.accepted.chain };
        calm = fresh_calm b.accepted.chain 0;
        count = fresh_count c 0;
      };
    };
  };
}

-- the next firing of the source is one that fire takes
source : {k m : ℕ} {c : Chain} {u : List ℕ} → Bounds k c → (d : Driven k c m u) → m < k → FireAsk k c d.state.run 0
unfolding F
source b d h = record {
  bounds = b;
  held = d.state.is.held;
  node = omega arith;
  over = tt;
  calm = d.state.is.calm;
  below = omega (arith, d.state.is.count);
}

module _ {k m : ℕ} {l u : List ℕ} (g : Driving k l m u) where
  pub driving_fire : {c : Chain} → Bounds k c → Shows l c (fresh_run c) → m < k → Fire u 0
  driving_fire {c} b x h =
      let d = g.gives c b x in
      record { runs = k; chain = c; run = d.state.run; shows = d.state.shows; ask = source b d h }

  pub driving_more : {v : List ℕ} → m < k → FireGives u 0 v → Driving k l (m + 1) v
  driving_more h f = record {
    gives = λ c b x.
        let d = g.gives c b x in
        let z = f.gives k c d.state.run d.state.shows (source b d h) in
        record {
          most = omega arith;
          state = record {
            run = z.run;
            shows = z.shows;
            is = record {
              trail = trail_then d.state.is.trail z.is.trail;
              held = z.is.held;
              calm = z.is.calm;
              count = z.is.once ∙ ap (λ (n : ℕ). n + 1) d.state.is.count;
            };
          };
        };
  }

  -- after k of them its firings are the schedule's, since both are by the rule, end calm and have k firings of the source
  pub driving_done : {c : Chain} → Bounds k c → Shows l c (fresh_run c) → k ≤ m → shown u ≡ after c (fresh_run c) (schedule c k)
  driving_done {c} b x h =
      let d = g.gives c b x in
      let sound : Sound c = b.accepted.chain in
      let r : Reached c d.state.run = d.state.is.held.reached in
      let t : Trail c (fresh_run c) d.state.run = d.state.is.trail in
      let often : times 0 t.firings ≡ k =
      omega (arith, counted_from c (fresh_run c) t.firings 0 (omega (arith, (reached_fresh sound).wide)), fresh_count c 0, ap (λ (s : Run). count_at s 0) t.is, d.state.is.count, d.most) in
      shown_is d.state.shows r.clock r.done
      ∙ sym t.is
      ∙ ap (after c (fresh_run c)) (unique sound t.firings t.follows (subst (λ (s : Run). Calm c s 0) (sym t.is) d.state.is.calm) ∙ ap (schedule c) often)
