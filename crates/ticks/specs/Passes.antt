-- Ticks over what is lent: what holds before each that is made.
--   kept_as                  a deadline that is kept stays right while its node's count stays
--   stands_in                a state that is lent for a tick is one that a tick can be made of
--   Gone l g o h k U i c x   a state is lent at clock k, and its ticks up to clock U leave x; o has the deadlines that they look at, and i is the node that works, if that is known
--   Going                    so for every state that was lent at the start, x being what all its ticks leave
--   going_stand, _none       at the start: what the deadlines ask, and that none was made
--   going_pass, _quiets, _jumps, -less, _dates, _fires, _last
--                            what the next tick asks; where no node fired in it, what the jump asks, what it leaves, and that fewer ticks are left; what the deadline of a node that
--                            fired asks, a tick in which one did, and the last such tick
--   going_slot               where that deadline is kept
--   going_ends, -done        at the first outcome that is not clean, and after the last tick
use Rattle.std.specs.Prelude.{◌≡◌, refl, ◌≢◌, ◌⊎◌, Option, true, false, List, ℕ, suc, ◌+◌, ◌-◌, ◌≤◌, ◌<◌, ltb, length, get_or, set}
use Rattle.std.proofs.Common.{Some, None, Ok, Err, sym, ap, subst, ◌∙◌, inl, inr, ⊎_elim, true≢false, arith, length-set, get_or-set_same, get_or-set_other, lt-ltb}
use Rattle.std.proofs.Math.Logic.{by_cases}
use Rattle.std.specs.Int.{◌∣◌}
use Rattle.std.proofs.Math.Decide.{ℕ_discrete}
use Rattle.chain.specs.Refusals.{Silent}
use Rattle.chain.specs.Record.{row_of, work_of}
use Rattle.chain.specs.declared.Chain.{Chain}
use Rattle.sizing.specs.Plan.{work_in}
use Rattle.state.specs.State.{count_at, done_at}
use Rattle.state.specs.Fired.{Over}
use Rattle.state.specs.declared.Run.{Run}
use Rattle.dates.specs.Question.{dated_of}
use Rattle.dates.specs.Dues.{Shown, Dated, DatedGives}
use Rattle.instants.specs.Steps.{onward, sourced, next, lacking, chosen, tick, ticks}
use Rattle.instants.specs.Runs.{onward_goes, onward_stops}
use Rattle.instants.proofs.RunsLaws.{ticks_none, ticks_suc}
use Rattle.instants.specs.Kept.{TickStep}
use Rattle.instants.proofs.KeptLaws.{sourced_others, sourced_held, tick_step}
use Rattle.instants.proofs.FilledLaws.{lacking_as, chosen_as}
use Rattle.instants.specs.Quiet.{worked_in, worked_for}
use Rattle.instants.proofs.QuietLaws.{for_none, quiet_filled, quiet_run}
use Rattle.instants.specs.declared.Outcome.TheVariants.{Clean}
use Rattle.instants.specs.declared.Ticked.{Ticked}
use Rattle.steps.specs.Lent.{Stands}
use Rattle.steps.specs.Laws.{shows_as, as_unclean}
use Rattle.steps.specs.Passed.{Stand, Wanted, DuesGive, Known, PassIn, Passes, PassTo, PassGives}
use Rattle.steps.specs.Jumped.{Quiets, QuietGives, JumpedGives}
use Rattle.steps.specs.declared.Halt.{Halt}
use Rattle.steps.specs.declared.Passed.{Passed}
use Rattle.ticks.specs.Runs.{LendsIn, Lends, RanTo, RanGives}

-- a deadline that is kept stays right as long as the node's count does
kept_as : (c : Chain) (s t : Run) (j : ℕ) {v : ℕ} → count_at t (suc j) ≡ count_at s (suc j) → v ≡ dated_of c (suc j) (next s (suc j)) → v ≡ dated_of c (suc j) (next t (suc j))
kept_as c s t j e h = h ∙ ap (λ (n : ℕ). dated_of c (suc j) (suc n)) (sym e)

-- a state that is lent for a tick is one that a tick can be made of
stands_in : {l f e : List ℕ} {t T : ℕ} {c : Chain} {s : Run} → LendsIn l f e t T c s → 0 < T → Stands l f c s
stands_in a some = record { shown = a.shown; filled = a.filled; counts = λ i n. omega (arith, a.counts i n) }

-- a state is lent whose ticks up to clock U leave x, with the deadlines that they look at: of the nodes that the source's step leaves over threshold and, where another tick follows, of
-- every node
pub record Gone (l g o h : List ℕ) (k U : ℕ) (i : Option ℕ) (c : Chain) (x : Ticked) : Type 0 where
  pub now : Run
  pub lends : LendsIn l g h k (U - k) c now
  pub rest : ticks c (U - k) now ≡ x
  pub keeps : k < U → (j : ℕ) → j < c.n → (k + 1 < U) ⊎ Over c (sourced c now).run (suc j) → get_or o j 0 ≡ dated_of c (suc j) (next now (suc j))
  pub wide : length o ≡ 16
  pub known : Known c now i

-- so for every state that was lent at the start
pub record Going (l f e : List ℕ) (t T : ℕ) (g o h : List ℕ) (k U : ℕ) (i : Option ℕ) : Type 0 where
  pub gives : {c : Chain} {s : Run} → LendsIn l f e t T c s → Gone l g o h k U i c (ticks c T s)

-- the start
module _ {l f e : List ℕ} {t T : ℕ} where
  pub going_stand : Lends l f e t T → Stand l f
  going_stand a = record { chain = a.chain; run = a.run; stands = record { shown = a.lends.shown; filled = a.lends.filled; counts = a.counts } }

  module _ {d : List ℕ} (g : DuesGive l f (ltb 1 T) 16 d) (wide : length d ≡ 16) where
    module _ {c : Chain} {s : Run} (a : LendsIn l f e t T c s) where
      wanted : (j : ℕ) → j < c.n → (t + 1 < t + T) ⊎ Over c (sourced c s).run (suc j) → Wanted (ltb 1 T) c s j
      wanted j n = ⊎_elim
          (λ m. inl (inl (lt-ltb 1 T (omega arith))))
          (λ o. by_cases (ℕ_discrete j 0) (λ z. inl (inr z)) (λ x. inr (subst (λ (m : ℕ). (row_of c j).threshold ≤ m) (sourced_held c s j (omega arith)) o)))

      gone_none : Gone l f d e t (t + T) None c (ticks c T s)
      gone_none =
          let all : T ≡ t + T - t = omega arith in
          record {
            now = s;
            lends = subst (λ (n : ℕ). LendsIn l f e t n c s) all a;
            rest = ap (λ (n : ℕ). ticks c n s) (sym all);
            keeps = λ m j n w. g.gives (stands_in a (omega arith)) j (omega (arith, a.shown.shows.few)) n (wanted j n w);
            wide = wide;
            known = tt;
          }

    pub going_none : Going l f e t T f d e t (t + T) None
    going_none = record { gives = gone_none }

-- before the next tick
module _ {l g o h : List ℕ} {k U : ℕ} {i : Option ℕ} {c : Chain} {x : Ticked} (y : Gone l g o h k U i c x) (more : k < U) where
  abbrev now : Run
  now = y.now

  asks_now : PassIn l g o h k i c now
  asks_now = record {
    stands = stands_in y.lends (omega arith);
    clock = y.lends.clock;
    early = omega (arith, y.lends.long);
    done = y.lends.done;
    keeps = record { due = λ j n b. kept_as c now (sourced c now).run j (sourced_others c now j) (y.keeps more j n (inr b)) };
    known = y.known;
  }

  -- after it
  rest_is : onward (tick c now) (ticks c (U - (k + 1))) ≡ x
  rest_is = sym (ticks_suc c (U - (k + 1)) now) ∙ ap (λ (n : ℕ). ticks c n now) (omega arith) ∙ y.rest

  module _ {u v : List ℕ} where
    ends_now : {r : Halt} → PassTo c now k u v (Err r) → RanTo c x u v (Err r)
    ends_now {r} p =
        let last : (tick c now).outcome ≡ Clean → ⊥ = λ z. as_unclean {A = Passed} (Err r) refl (sym p.outcome ∙ z) in
        subst (λ (q : Ticked). RanTo c q u v (Err r)) (sym (onward_stops (tick c now) _ last) ∙ rest_is)
        (record { outcome = p.outcome; clock = p.clock; shows = p.shows; done = p.done })

    module _ {r : Passed} (p : PassTo c now k u v (Ok r)) where
      went : (tick c now).outcome ≡ Clean
      went = p.outcome

      after : TickStep c now (tick c now).run
      after = tick_step y.lends.filled went

      shown_next : Shown l u c (tick c now).run
      shown_next = record { plans = y.lends.shown.plans; shows = p.shows }

      gone_next : {w : List ℕ} {m : Option ℕ} → (k + 1 < U → (j : ℕ) → j < c.n → get_or w j 0 ≡ dated_of c (suc j) (next (tick c now).run (suc j)))
          → length w ≡ 16 → Known c (tick c now).run m → Gone l u w v (k + 1) U m c x
      gone_next keeps wide known = record {
        now = (tick c now).run;
        lends = record {
          shown = shown_next;
          filled = after.filled;
          clock = after.clock ∙ ap (λ (n : ℕ). n + 1) y.lends.clock;
          done = p.done;
          long = omega (arith, y.lends.long);
          counts = λ j n. omega (arith, after.counts j n, y.lends.counts j n);
        };
        rest = sym (onward_goes (tick c now) _ went) ∙ rest_is;
        keeps = λ m j n w. keeps m j n;
        wide = wide;
        known = known;
      }

      gone_rests : r.fired ≡ false → Gone l u o v (k + 1) U (Some r.node) c x
      gone_rests n = gone_next
          (λ m j b. kept_as c now (tick c now).run j (p.others j (λ a. absurd (true≢false (sym a ∙ n)))) (y.keeps more j b (inl m)))
          y.wide (p.known n)

      gone_last : U ≤ k + 1 → Gone l u o v (k + 1) U None c x
      gone_last end = gone_next (λ m. absurd (omega arith)) y.wide tt

      module _ (follows : k + 1 < U) (b : r.fired ≡ true) where
        dated_asks : Dated l u r.node
        dated_asks = record {
          chain = c;
          run = (tick c now).run;
          shown = shown_next;
          sound = y.lends.filled.chain.chain;
          node = p.low;
          count = omega (arith, after.counts r.node p.low, y.lends.counts r.node p.low);
        }

        gone_fires : {w : ℕ} → DatedGives l u r.node w → Gone l u (set o (r.node - 1) w) v (k + 1) U None c x
        gone_fires {w} q = gone_next keeps_next (length-set o (r.node - 1) w ∙ y.wide) tt
          where
            keeps_next : k + 1 < U → (j : ℕ) → j < c.n → get_or (set o (r.node - 1) w) j 0 ≡ dated_of c (suc j) (next (tick c now).run (suc j))
            keeps_next m j n = by_cases (ℕ_discrete (suc j) r.node)
                (λ a.
                let here : r.node - 1 ≡ j = omega arith in
                rw here (get_or-set_same o j w 0 (omega (arith, y.wide, y.lends.shown.shows.few)) ∙ q.due shown_next ∙ ap (λ (i : ℕ). dated_of c i (next (tick c now).run i)) (sym a)))
                (λ a.
                let there : j ≢ r.node - 1 = λ e. a (omega (arith, p.some b)) in
                get_or-set_other o (r.node - 1) j w 0 there ∙ kept_as c now (tick c now).run j (p.others j (λ e f. a (sym f))) (y.keeps more j n (inl m)))

-- the quiet ticks that follow, of a state in which the node that works is known
module _ {l g o h : List ℕ} {k U i : ℕ} {c : Chain} {x : Ticked} (y : Gone l g o h k U (Some i) c x) (low : i ≤ c.n) where
  stands : Silent (lacking c y.now) × (chosen c y.now ≡ i)
  stands = y.known

  -- the work done and the execution time of its node, by the chain and by what is lent
  own_work : (j : ℕ) → i ≡ suc j → (get_or h j 0 ≡ done_at y.now j) × (work_in l j ≡ work_of c j)
  own_work j z = (ap (λ (e : List ℕ). get_or e j 0) y.lends.done, y.lends.shown.plans.works j (omega (arith, low)))

  quiets : k ≤ U → Quiets l h k U i
  quiets from = record {
    work = record {
      node = omega (arith, low, y.lends.shown.shows.few);
      less = λ j z. let w = own_work j z in omega (arith, w.0, w.1, y.lends.filled.below j (omega (arith, low)));
    };
    short = λ j z. let w = own_work j z in omega (arith, w.1, (y.lends.filled.chain.chain.work j (omega (arith, low))).1);
    period = omega (arith, y.lends.shown.plans.period, y.lends.filled.chain.chain.period.0);
    from = from;
    end = omega (arith, from, y.lends.long);
  }

  -- so many of them are a jump
  module _ {r : ℕ} (q : QuietGives l h k U i r) where
    abbrev then : Run
    then = worked_for y.now i r

    on : (j : ℕ) → i ≡ suc j → done_at y.now j + r < work_of c j
    on j z = let w = own_work j z in omega (arith, w.0, w.1, q.on j z)

    rests : (m : ℕ) → m < r → c.period ∣ (y.now.clock + m) → ⊥
    rests m b d = q.rests m b (subst (λ (e : ℕ). e ∣ (k + m)) (sym y.lends.shown.plans.period) (subst (λ (t : ℕ). c.period ∣ (t + m)) y.lends.clock d))

    gone_jumps : {u : List ℕ} → u ≡ worked_in h i r → Gone l g o u (k + r) U (Some i) c x
    gone_jumps {u} done =
        let left : U - k ≡ r + (U - (k + r)) = omega (arith, q.within) in
        record {
          now = then;
          lends = record {
            shown = record { plans = y.lends.shown.plans; shows = shows_as y.lends.shown.shows refl refl };
            filled = quiet_filled r y.lends.filled i on;
            clock = ap (λ (t : ℕ). t + r) y.lends.clock;
            done = done ∙ ap (λ (e : List ℕ). worked_in e i r) y.lends.done;
            long = omega (arith, q.within, y.lends.long);
            counts = λ j n. omega (arith, y.lends.counts j n, left);
          };
          rest = sym (quiet_run r (U - (k + r)) y.lends.filled stands.0 i stands.1 rests on) ∙ ap (λ (n : ℕ). ticks c n y.now) (sym left) ∙ y.rest;
          keeps = keeps_now;
          wide = y.wide;
          known = (subst Silent (sym (lacking_as c y.now then refl refl)) stands.0, chosen_as c y.now then refl refl ∙ stands.1);
        }
      where
        -- a node that the source's step leaves over threshold at the end of the jump is one whose deadline was kept
        keeps_now : k + r < U → (j : ℕ) → j < c.n → (k + r + 1 < U) ⊎ Over c (sourced c then).run (suc j) → get_or o j 0 ≡ dated_of c (suc j) (next then (suc j))
        keeps_now m j n w = by_cases (ℕ_discrete r 0)
            (λ z.
            let still : then ≡ y.now = ap (worked_for y.now i) z ∙ for_none y.now i in
            y.keeps (omega arith) j n (⊎_elim (λ b. inl (omega arith)) (λ b. inr (subst (λ (s : Run). Over c (sourced c s).run (suc j)) still b)) w))
            (λ z. y.keeps (omega arith) j n (inl (omega arith)))

-- as the code of the ticks has it
module _ {l f e : List ℕ} {t T : ℕ} {g o h : List ℕ} {k U : ℕ} {i : Option ℕ} (y : Going l f e t T g o h k U i) where
  -- after the last tick
  pub going_done : U ≤ k → RanGives l f e t T g h (Ok k)
  going_done end = record {
    low = tt;
    gives = λ {c} {s} a.
        let x : Gone l g o h k U i c (ticks c T s) = y.gives a in
        subst (λ (q : Ticked). RanTo c q g h (Ok k)) (sym (ticks_none c x.now) ∙ ap (λ (n : ℕ). ticks c n x.now) (omega arith) ∙ x.rest)
        (record { outcome = refl; clock = x.lends.clock; shows = x.lends.shown.shows; done = x.lends.done });
  }

  module _ (more : k < U) where
    pub going_pass : Lends l f e t T → Passes l g o h k i
    going_pass a = record { chain = a.chain; run = (y.gives a.lends).now; is = asks_now (y.gives a.lends) more }

    module _ {u v : List ℕ} where
      pub going_ends : {r : Halt} → PassGives l g o h k i u v (Err r) → Lends l f e t T → RanGives l f e t T u v (Err r)
      going_ends p a =
          let q = p.gives (asks_now (y.gives a.lends) more) in
          record { low = omega (arith, q.low, q.shows.few); gives = λ b. ends_now (y.gives b) more (p.gives (asks_now (y.gives b) more)) }

      module _ {r : Passed} (p : PassGives l g o h k i u v (Ok r)) where
        passed : {c : Chain} {s : Run} (a : LendsIn l f e t T c s) → PassTo c (y.gives a).now k u v (Ok r)
        passed a = p.gives (asks_now (y.gives a) more)

        -- no node has fired: the quiet ticks that follow are a jump
        module _ (n : r.fired ≡ false) where
          rested : {c : Chain} {s : Run} (a : LendsIn l f e t T c s) → Gone l u o v (k + 1) U (Some r.node) c (ticks c T s)
          rested a = gone_rests (y.gives a) more (passed a) n

          pub going_quiets : Lends l f e t T → Quiets l v (k + 1) U r.node
          going_quiets a = quiets (rested a.lends) (passed a.lends).low (omega arith)

          pub going_jumps : {w : List ℕ} {m : ℕ} → JumpedGives l v (k + 1) U r.node w m → Going l f e t T u o w m U (Some r.node)
          going_jumps {w} {m} q = record {
            gives = λ {c} {s} a. subst (λ (j : ℕ). Gone l u o w j U (Some r.node) c (ticks c T s)) (sym q.clock) (gone_jumps (rested a) (passed a).low q.quiet q.done);
          }

          pub going_less : {w : List ℕ} {m : ℕ} → JumpedGives l v (k + 1) U r.node w m → U - m < U - k
          going_less q = omega (arith, q.clock, q.quiet.within)

        pub going_last : U ≤ k + 1 → Going l f e t T u o v (k + 1) U None
        going_last end = record { gives = λ a. gone_last (y.gives a) more (passed a) end }

        -- the deadline of the node that fired, and where it is kept
        module _ (b : r.fired ≡ true) where
          pub going_slot : Lends l f e t T → (0 < r.node) × (r.node ≤ 16)
          going_slot a = let q = passed a.lends in (q.some b, omega (arith, q.low, q.shows.few))

          module _ (follows : k + 1 < U) where
            pub going_dates : Lends l f e t T → Dated l u r.node
            going_dates a = dated_asks (y.gives a.lends) more (passed a.lends) follows b

            pub going_fires : {w : ℕ} → DatedGives l u r.node w → Going l f e t T u (set o (r.node - 1) w) v (k + 1) U None
            going_fires q = record { gives = λ a. gone_fires (y.gives a) more (passed a) follows b q }

-- by all of which the check proves the code of the ticks
pub ruleset going = (going_stand, going_none, going_pass, going_ends, going_quiets, going_jumps, going_less, going_last, going_slot, going_dates, going_fires, going_done)
