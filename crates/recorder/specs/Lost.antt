-- The code that takes a loss and goes on: one law to each need and each way in which it ends.
--   overflow_at t q          an overflow as code has it; halted_overflows: what is shown then overflows at t and queue q
--   lost_loses, _finish      at a finish: what the loss asks, and what it leaves
--   source_stand, _looks, _loses, _early, _lacks
--                            at the source: what the deadlines, 13 and the loss ask, that the clock can grow, and 13
--   source_completes, _works, _spills
--                            what the tick of work asks, and what it leaves, clean and not
--   onward_halts, _rests, _lends, _ran
--                            the ticks that follow: none after a halt or at the end, what they ask, and what they leave
use Rattle.std.specs.Prelude.{◌≡◌, Bool, false, ℕ, suc, ◌+◌, ◌-◌, ◌≤◌, ◌<◌, Result, IfOk, IfErr, is_ok}
use Rattle.std.proofs.Math.Path.{refl, ap, subst}
use Rattle.std.proofs.Common.{Some, None, Ok, Err, sym, ◌∙◌, inr, true≢false, arith}
use mathlib.Core.List.{List}
use Rattle.std.proofs.Math.ListN.{set}
use Rattle.chain.specs.Refusals.{refused, Silent, number_of}
use Rattle.chain.specs.Record.{row_of}
use Rattle.chain.specs.declared.Chain.{Chain}
use Rattle.sizing.specs.Checks.{limit}
use Rattle.state.specs.State.{count_at}
use Rattle.state.specs.Fired.{fired, consumed, Over}
use Rattle.state.specs.declared.Run.{Run}
use Rattle.flow.specs.Flow.{Shows}
use Rattle.flow.specs.Lost.{losing, Loses, shows_lost}
use Rattle.instants.specs.Checks.{longest}
use Rattle.instants.specs.Steps.{clean, overflowed, undated, lacking, chosen, worked, finished, ticks}
use Rattle.instants.proofs.LackingLaws.{lacking_exact}
use Rattle.instants.proofs.KeptLaws.{chosen_low, chosen_over, finished_clock, worked_clock}
use Rattle.instants.specs.declared.Outcome.TheVariants.{Overflowed}
use Rattle.instants.specs.declared.Ticked.{Ticked}
use Rattle.losses.specs.Losses.{noted}
use Rattle.recordings.specs.Steps.{dropped, lost_firing, rec_ticks}
use Rattle.recordings.specs.Left.{SourceLost, FinishLost, left_with, finished_dated}
use Rattle.recordings.proofs.LeftLaws.{left_clean, left_undated, drop_midway, finish_left}
use Rattle.recordings.specs.Resumed.{rec_from}
use Rattle.recordings.proofs.ResumedLaws.{ticks_left, ticks_reach, ticks_from_law, from_more, from_undated, from_finish, from_lacks, from_source}
use Rattle.steps.specs.Lent.{tick_of, place_of, outcome_in, Stands, Keeps, Looks, LackingGives, ChosenGives}
use Rattle.steps.specs.Laws.{shows_as}
use Rattle.steps.specs.Passed.{Stand, DuesGive, CompletesIn, Completes, CompletedTo, CompletedGives, completed_at}
use Rattle.steps.specs.declared.Halt.{Halt}
use Rattle.steps.specs.declared.Halt.TheVariants as halt
use Rattle.ticks.specs.Runs.{clock_in, LendsIn, Lends, RanTo, RanGives}
use Rattle.recorder.specs.Halted.{Halted, Halts, Overflows, LostTo, LostGives, OnwardGives}

-- an overflow at t and queue q, as code has it
abbrev pub overflow_at : ℕ → ℕ → Result ℕ Halt
overflow_at t q = Err (halt.Overflowed t q)

-- a clean tick is no halt
no_halt : {t : ℕ} {x : Halt} → ◌≡◌ {A = Result ℕ Halt} (Ok t) (Err x) → ⊥
no_halt e = true≢false (ap is_ok e)

module _ {l f e : List ℕ} {U t q : ℕ} {c : Chain} {y : Ticked} (x : Halted l f e U (overflow_at t q) c y) where
  pub halted_overflows : y.outcome ≡ Overflowed t q
  halted_overflows = x.ran.outcome

  -- at a finish
  module _ (some : 0 < q) where
    abbrev node : ℕ
    node = q - 1

    is_suc : q ≡ suc node
    is_suc = omega arith

    at_finish : y.outcome ≡ Overflowed t (suc node)
    at_finish = halted_overflows ∙ ap (Overflowed t) is_suc

    ends : FinishLost c U t node y.run
    ends = x.left.finish t node at_finish

    loses_now : Loses f q
    loses_now = record {
      chain = c;
      run = y.run;
      shows = x.ran.shows;
      sound = x.chain.chain;
      node = omega (arith, ends.queue);
      over = subst (Over c y.run) (sym is_suc) ends.over;
      count = subst (λ (i : ℕ). count_at y.run i < limit) (sym is_suc) ends.count;
    }

    shows_now : Shows (losing f q) c (lost_firing c y.run (suc node))
    unfolding lost_firing fired
    shows_now = subst (λ (i : ℕ). Shows (losing f i) c (lost_firing c y.run (suc node))) (sym is_suc) (shows_as (shows_lost x.ran.shows (omega (arith, ends.queue))) refl refl)

    finish_to : LostTo l (losing f q) (set e (q - 1) 0) U t q (Ok t) c y
    unfolding lost_firing fired
    finish_to = record {
      next = clean (lost_firing c y.run (suc node));
      halted = record {
        chain = x.chain;
        plans = x.plans;
        ran = record { outcome = refl; clock = ends.clock; shows = shows_now; done = ap (λ (z : List ℕ). set z (q - 1) 0) x.ran.done };
        left = left_clean ends.able;
        end = x.end;
        low = tt;
      };
      queue = omega (arith, ends.queue);
      back = λ v i z. absurd (no_halt z);
      goes = λ n m room. subst (λ (i : ℕ). rec_from c U m y ≡ rec_from c U (noted m t i (row_of c i).produce) (clean (lost_firing c y.run (suc node)))) (sym is_suc)
          (from_finish c U m room y t node at_finish);
    }

  -- at the source
  module _ (none : q ≤ 0) where
    at_source : y.outcome ≡ Overflowed t 0
    at_source = let z : q ≡ 0 = omega arith in halted_overflows ∙ ap (Overflowed t) z

    lost_here : SourceLost c U t y.run
    lost_here = x.left.source t at_source

    is_here : y ≡ overflowed y.run t 0
    is_here = left_with y at_source

    stands_here : Stands l f c y.run
    stands_here = record {
      shown = record { plans = x.plans; shows = x.ran.shows };
      filled = lost_here.able.filled;
      counts = λ i h. omega (arith, lost_here.able.counts i h, lost_here.clock, lost_here.early);
    }

    loses_here : Loses f 0
    loses_here = record {
      chain = c;
      run = y.run;
      shows = x.ran.shows;
      sound = x.chain.chain;
      node = omega arith;
      over = tt;
      count = stands_here.counts 0 (omega arith);
    }

    module _ {d : List ℕ} (g : DuesGive l f false 16 d) where
      keeps_here : Keeps d c y.run
      keeps_here = record { due = λ j h o. g.gives stands_here j (omega (arith, x.ran.shows.few)) h (inr o) }

      -- 13 takes the loss back
      lacks_to : {r : ℕ} → LackingGives f d (Some r) → LostTo l f e U t q (Err (halt.NoDeadline t r)) c y
      lacks_to {r} k =
          let says : lacking c y.run ≡ refused 13 r = k.gives x.chain.chain x.ran.shows keeps_here in
          record {
            next = undated y.run t r;
            halted = record {
              chain = x.chain;
              plans = x.plans;
              ran = record { outcome = refl; clock = lost_here.clock; shows = x.ran.shows; done = x.ran.done };
              left = left_undated;
              end = x.end;
              low = omega (arith, ((lacking_exact c y.run r).0 says).node, x.ran.shows.few);
            };
            queue = omega (arith, x.chain.chain.count.0);
            back = λ v i z m room.
                ap (λ (w : Ticked). rec_from c U m w) is_here ∙ from_lacks c U m room lost_here r says ∙ sym (from_undated c U m (undated y.run t r) t r refl);
            goes = λ n. absurd (n t r refl);
          }

      -- or the tick of work follows
      module _ (k : LackingGives f d None) {i : ℕ} (p : ChosenGives f d i) where
        abbrev u : Run
        u = dropped c y.run 0

        silent : Silent (lacking c y.run)
        silent = number_of (k.gives x.chain.chain x.ran.shows keeps_here)

        is_chosen : chosen c y.run ≡ i
        is_chosen = p.gives x.chain.chain x.ran.shows keeps_here silent

        completes_here : CompletesIn l (losing f 0) e i c u
        unfolding consumed fired
        completes_here =
            let mid = drop_midway lost_here.able (omega (arith, lost_here.clock, lost_here.early)) in
            record {
              shown = record { plans = x.plans; shows = shows_lost x.ran.shows (omega arith) };
              filled = mid.filled;
              done = x.ran.done;
              node = subst (λ (k : ℕ). k ≤ c.n) is_chosen (chosen_low c y.run);
              over = λ j h. chosen_over c y.run j (is_chosen ∙ h);
              count = λ j h. let low : j < c.n = omega (arith, subst (λ (k : ℕ). k ≤ c.n) is_chosen (chosen_low c y.run)) in omega (arith, mid.others j low, mid.clock);
            }

        later : u.clock + 1 ≡ t + 1
        unfolding consumed fired
        later = ap (λ (n : ℕ). n + 1) lost_here.clock

        works_to : {g h : List ℕ} {a : Result ℕ Halt} → (finished c (worked u i)).outcome ≡ outcome_in a → t + 1 ≡ clock_in a → IfErr a (λ h. place_of h ≤ 16)
            → Shows g c (finished c (worked u i)).run → h ≡ (finished c (worked u i)).run.done → LostTo l g h U t q a c y
        works_to {a = a} outcome clock low shows done = record {
          next = finished c (worked u i);
          halted = record {
            chain = x.chain;
            plans = x.plans;
            ran = record {
              outcome = outcome;
              clock = finished_clock c (worked u i) ∙ worked_clock u i ∙ later ∙ clock;
              shows = shows;
              done = done;
            };
            left = finish_left (drop_midway lost_here.able (omega (arith, lost_here.clock, lost_here.early))) i completes_here.node completes_here.over;
            end = x.end;
            low = low;
          };
          queue = omega (arith, x.chain.chain.count.0);
          back = λ v j z. absurd (finished_dated c (worked u i) v j (outcome ∙ ap outcome_in z));
          goes = λ n m room.
              let z : q ≡ 0 = omega arith in
              ap (λ (w : Ticked). rec_from c U m w) is_here ∙ from_source c U m room lost_here silent
              ∙ (λ k. rec_from c U (noted m t (sym z k) (row_of c (sym z k)).produce) (finished c (worked u (is_chosen k))));
        }

-- as the code has it
module _ {l f e : List ℕ} {t q : ℕ} where
  module _ (some : 0 < q) where
    pub lost_loses : Overflows l f e t q → Loses f q
    lost_loses a = loses_now a.halts.halted some

    pub lost_finish : LostGives l f e t q (losing f q) (set e (q - 1) 0) (Ok t)
    lost_finish = record { gives = λ x. finish_to x some }

  module _ (none : q ≤ 0) where
    pub source_stand : Overflows l f e t q → Stand l f
    source_stand a = record { chain = a.halts.chain; run = a.halts.what.run; stands = stands_here a.halts.halted none }

    pub source_loses : Overflows l f e t q → Loses f 0
    source_loses a = loses_here a.halts.halted none

    module _ {d : List ℕ} (g : DuesGive l f false 16 d) where
      pub source_lacks : {r : ℕ} → LackingGives f d (Some r) → LostGives l f e t q f e (Err (halt.NoDeadline t r))
      source_lacks k = record { gives = λ x. lacks_to x none g k }

      module _ (k : LackingGives f d None) {i : ℕ} (p : ChosenGives f d i) where
        pub source_completes : Overflows l f e t q → Completes l (losing f 0) e i
        source_completes a = record { chain = a.halts.chain; run = u a.halts.halted none g k p; is = completes_here a.halts.halted none g k p }

        module _ {o m n : List ℕ} (is : o ≡ losing f 0) where
          works_now : {r : Result Bool Halt} → CompletedGives l o e (t + 1) i m n r → {U : ℕ} {c : Chain} {y : Ticked} (x : Halted l f e U (overflow_at t q) c y)
              → CompletedTo c (u x none g k p) i m n r
          works_now {r} w x = completed_at (subst (λ (o : List ℕ). CompletedGives l o e (t + 1) i m n r) is w) (completes_here x none g k p) (later x none g k p)

          pub source_works : {b : Bool} → CompletedGives l o e (t + 1) i m n (Ok b) → LostGives l f e t q m n (Ok (t + 1))
          source_works w = record { gives = λ x. let y = works_now w x in works_to x none g k p y.outcome refl tt y.shows y.done }

          pub source_spills : {b : Halt} → CompletedGives l o e (t + 1) i m n (Err b) → LostGives l f e t q m n (Err b)
          source_spills {b} w = record {
            gives = λ x.
                let y = works_now w x in
                let at : (t + 1 ≡ tick_of b) × (place_of b ≡ i) = (sym (later x none g k p) ∙ ap tick_of (sym y.spills.0), ap place_of y.spills.0) in
                works_to x none g k p y.outcome at.0 (omega (arith, at.1, (completes_here x none g k p).node, x.ran.shows.few)) y.shows y.done;
          }

-- the number of queues that a flow shows, and the clock, which can grow
pub source_looks : {l f e : List ℕ} {t q : ℕ} → Overflows l f e t q → Looks f
source_looks a = let s = a.halts.halted.ran.shows in record { size = omega (arith, s.many, s.few) }

pub source_early : {l f e : List ℕ} {t q : ℕ} → Overflows l f e t q → q ≤ 0 → t < longest
source_early a none = omega (arith, (lost_here a.halts.halted none).early, a.halts.halted.end)

-- where ticks are clean, the clock after them is reached
pub reaches : {l f e g h : List ℕ} {t T U : ℕ} {c : Chain} {s : Run} (a : Result ℕ Halt) → LendsIn l f e t T c s → RanTo c (ticks c T s) g h a → U ≡ t + T → IfOk a (λ k. U ≤ k)
reaches {T = T} {U = U} (Ok k) x ran until = omega (arith, ticks_reach {U = U} T x.filled (omega (arith, x.clock)) ran.outcome, ran.clock)
reaches (Err x) y ran until = tt

-- the ticks that follow
module _ {l f e : List ℕ} {U : ℕ} where
  pub onward_halts : {x : Halt} → OnwardGives l f e U (Err x) f e (Err x)
  onward_halts = record { ends = tt; gives = λ {c} {y} x. record { next = y; halted = x; goes = λ m. refl } }

  pub onward_rests : {t : ℕ} → U ≤ t → OnwardGives l f e U (Ok t) f e (Ok t)
  onward_rests ends = record { ends = ends; gives = λ {c} {y} x. record { next = y; halted = x; goes = λ m. refl } }

  module _ {t : ℕ} (more : t < U) where
    onward_in : {c : Chain} {y : Ticked} → Halted l f e U (Ok t) c y → LendsIn l f e t (U - t) c y.run
    onward_in {c} {y} x =
        let able = x.left.clean x.ran.outcome in
        record {
          shown = record { plans = x.plans; shows = x.ran.shows };
          filled = able.filled;
          clock = x.ran.clock;
          done = x.ran.done;
          long = omega (arith, x.end);
          counts = λ i h. omega (arith, able.counts i h, x.ran.clock);
        }

    pub onward_lends : Halts l f e U (Ok t) → Lends l f e t (U - t)
    onward_lends a =
        let x = onward_in a.halted in
        record { chain = a.chain; run = a.what.run; lends = x; counts = λ i h. omega (arith, x.counts i h) }

    pub onward_ran : {g h : List ℕ} {a : Result ℕ Halt} → Halts l f e U (Ok t) → RanGives l f e t (U - t) g h a → OnwardGives l f e U (Ok t) g h a
    onward_ran {g} {h} {a} b k = record {
      ends = reaches a (onward_in b.halted) (k.gives (onward_in b.halted)) (omega arith);
      gives = λ {c} {y} x.
          let able = x.left.clean x.ran.outcome in
          let T : ℕ = U - t in
          let upto : y.run.clock + T ≡ U = omega (arith, x.ran.clock) in
          record {
            next = ticks c T y.run;
            halted = record { chain = x.chain; plans = x.plans; ran = k.gives (onward_in x); left = ticks_left T able upto; end = x.end; low = k.low };
            goes = λ m. from_more c U m y x.ran.outcome ∙ ap (λ (n : ℕ). rec_ticks c (U - n) y.run m) x.ran.clock ∙ ticks_from_law T able upto m;
          };
    }

-- by which the check proves the code that takes a loss, and the code that goes on
pub ruleset taking = (lost_finish, source_stand, source_looks, source_loses, source_lacks, source_works, source_spills, source_early)

pub ruleset going_on = (onward_halts, onward_rests, onward_lends)
