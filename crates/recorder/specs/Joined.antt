-- Recording ticks over what is lent, with their list: what holds before each loss is taken.
--   Joins, JoinedGives       what the code asks that goes on from where deadline ticks ended before clock U, and what it gives
--   Carry l g h U r m c x    r is how deadline ticks before clock U ended, and x is how a recording run with the list m goes on from there
--   Carrying                 so for everything that was shown at the start; carry_start: at the start
--   carry_overflows, _queue, _slot, _notes
--                            what the loss asks, its queue and its slot in the list, and what holds once it is noted
--   carry_halts, _onward     what the ticks after it ask, and what they leave
--   carry_full, _lacks, _ends
--                            the three ways in which they end; carry_low, carry_last: the place at which a halt of the last two is, is a number of the chain
--   Carries l f e m t T      a state that is lent for T ticks, and a list of 256 slots
--   carries_joins, _gives, _unlost
--                            its first ticks: what goes on from them, what all of them leave, and where nothing is lost
use Rattle.std.specs.Prelude.{◌≡◌, refl, ◌≢◌, List, ℕ, ◌+◌, ◌≤◌, ◌<◌, is_some, Result, IfOk, IfErr}
use Rattle.std.proofs.Common.{true, false, Some, None, Ok, Err, sym, ap, subst, ◌∙◌, arith}
use Rattle.chain.specs.Record.{row_of}
use Rattle.chain.specs.declared.Chain.{Chain}
use Rattle.state.specs.declared.Run.{Run}
use Rattle.flow.specs.Flow.{produce_in}
use Rattle.instants.specs.Steps.{ticks}
use Rattle.instants.specs.declared.Outcome.TheVariants.{Clean}
use Rattle.instants.specs.declared.Ticked.{Ticked}
use Rattle.losses.specs.Losses.{noted, Listed}
use Rattle.losses.proofs.LossesLaws.{listed_noted}
use Rattle.losses.specs.declared.Losses.{Losses}
use Rattle.recordings.specs.Steps.{rec_ticks}
use Rattle.recordings.proofs.BesideLaws.{beside_clean, beside_undated}
use Rattle.recordings.specs.Left.{Able}
use Rattle.recordings.proofs.LeftLaws.{left_queue}
use Rattle.recordings.specs.Resumed.{rec_from}
use Rattle.recordings.proofs.ResumedLaws.{ticks_left, ticks_from_law, from_clean, from_undated, from_full}
use Rattle.recordings.specs.declared.Recorded.{Recorded}
use Rattle.steps.specs.declared.Halt.{Halt}
use Rattle.steps.specs.declared.Halt.TheVariants as halt
use Rattle.steps.specs.Laws.{as_unclean}
use Rattle.steps.specs.Lent.{place_of}
use Rattle.ticks.specs.Runs.{LendsIn, Lends, RanTo, RanGives}
use Rattle.recorder.specs.Halted.{overflow_in, overflow_is, overflow_not, undated_in, undated_at, undated_not, Halted, Halts, Overflows, LostTo, LostGives, OnwardGives}
use Rattle.recorder.specs.Lost.{overflow_at, reaches}
use Rattle.recorder.specs.Left.{rec_left_by, left_is, undated_is}

-- how ticks ended before clock U, and a list of 256 slots; where they are clean, clock U is reached
pub record Joins (l f e : List ℕ) (m : Losses) (U : ℕ) (r : Result ℕ Halt) : Type 0 where
  pub halts : Halts l f e U r
  pub listed : Listed m
  pub ends : IfOk r (λ t. U ≤ t)

-- the answer is what a recording run with the list m leaves that goes on from there
pub record JoinedGives (l f e : List ℕ) (m : Losses) (U : ℕ) (r : Result ℕ Halt) (a : Recorded) : Type 0 where
  pub gives : {c : Chain} {y : Ticked} → Halted l f e U r c y → a ≡ rec_from c U m y

-- deadline ticks ended with r before clock U, and x is how a recording run with the list m goes on from there
pub record Carry (l g h : List ℕ) (U : ℕ) (r : Result ℕ Halt) (m : Losses) (c : Chain) (x : Recorded) : Type 0 where
  pub what : Ticked
  pub halted : Halted l g h U r c what
  pub from : x ≡ rec_from c U m what

-- so for everything that was shown at the start
pub record Carrying (l f e : List ℕ) (m₀ : Losses) (U : ℕ) (r₀ : Result ℕ Halt) (g h : List ℕ) (r : Result ℕ Halt) (m : Losses) : Type 0 where
  pub listed : Listed m
  pub gives : {c : Chain} {y : Ticked} → Halted l f e U r₀ c y → Carry l g h U r m c (rec_from c U m₀ y)

-- at the start
pub carry_start : {l f e : List ℕ} {m : Losses} {U : ℕ} {r : Result ℕ Halt} → Joins l f e m U r → Carrying l f e m U r f e r m
carry_start a = record { listed = a.listed; gives = λ {c} {y} x. record { what = y; halted = x; from = refl } }

-- a clean outcome is at the clock of the result
reached : {g h : List ℕ} {U : ℕ} {c : Chain} {y : Ticked} (r : Result ℕ Halt) → RanTo c y g h r → IfOk r (λ t. U ≤ t) → y.outcome ≡ Clean → U ≤ y.run.clock
reached (Ok t) ran ends e = omega (arith, ends, ran.clock)
reached (Err x) ran ends e = absurd (as_unclean {A = ℕ} (Err x) refl (sym ran.outcome ∙ e))

module _ {l f e : List ℕ} {m₀ : Losses} {U : ℕ} {r₀ : Result ℕ Halt} {g h : List ℕ} {r : Result ℕ Halt} {m : Losses} (k : Carrying l f e m₀ U r₀ g h r m) where
  -- where a production does not fit
  module _ {t q : ℕ} (over : overflow_in r ≡ Some (t, q)) where
    z : r ≡ overflow_at t q
    z = overflow_is r over

    spills : {c : Chain} {y : Ticked} → Halted l g h U r c y → Halted l g h U (overflow_at t q) c y
    spills {c} {y} = subst (λ (a : Result ℕ Halt). Halted l g h U a c y) z

    pub carry_overflows : Joins l f e m₀ U r₀ → Overflows l g h t q
    carry_overflows a =
        let x = k.gives a.halts.halted in
        record { until = U; halts = record { chain = a.halts.chain; what = x.what; halted = spills x.halted } }

    -- its queue is one of the chain
    pub carry_queue : Joins l f e m₀ U r₀ → q < 16
    carry_queue a =
        let x = k.gives a.halts.halted in
        omega (arith, left_queue x.halted.left t q (spills x.halted).ran.outcome, x.halted.ran.shows.few)

    -- "a 257th loss stops the run before it happens"
    pub carry_full : m.count ≡ 256 → JoinedGives l f e m₀ U r₀ (rec_left_by g h r m)
    carry_full full = record {
      gives = λ {c} x.
          let y = k.gives x in
          rw z (left_is (spills y.halted).ran (y.from ∙ from_full c U m y.halted.left (omega (arith, full)) t q (spills y.halted).ran.outcome));
    }

    module _ (n : m.count ≢ 256) {o p : List ℕ} {b : Result ℕ Halt} (w : LostGives l g h t q o p b) where
      room : m.count < 256
      room = omega (arith, n, k.listed.short)

      taken : {c : Chain} {v : Ticked} (x : Halted l f e U r₀ c v) → LostTo l o p U t q b c (k.gives x).what
      taken x = w.gives (spills (k.gives x).halted)

      pub carry_slot : m.count < 256
      carry_slot = room

      -- 13 takes it back
      pub carry_lacks : undated_in b ≡ true → JoinedGives l f e m₀ U r₀ (rec_left_by o p b m)
      carry_lacks back = record {
        gives = λ {c} x.
            let y = taken x in
            let at = undated_at b back in
            let u : ℕ = at.0 in
            let i : ℕ = at.1.0 in
            let lacks : b ≡ Err (halt.NoDeadline u i) = at.1.1 in
            let ran = subst (λ (a : Result ℕ Halt). RanTo c y.next o p a) lacks y.halted.ran in
            rw lacks (left_is ran ((k.gives x).from ∙ y.back u i lacks m room ∙ from_undated c U m y.next u i ran.outcome));
      }

      -- its node, where there is one
      pub carry_low : Joins l f e m₀ U r₀ → IfErr b (λ x. place_of x ≤ 16)
      carry_low a = (taken a.halts.halted).halted.low

      -- or it is noted
      pub carry_notes : undated_in b ≡ false → {v : ℕ} → v ≡ produce_in o q → Carrying l f e m₀ U r₀ o p b (noted m t q v)
      carry_notes goes {v} is = record {
        listed = listed_noted k.listed room t q v;
        gives = λ {c} x.
            let y = taken x in
            let tokens : v ≡ (row_of c q).produce = is ∙ y.halted.ran.shows.puts q y.queue in
            record {
              what = y.next;
              halted = y.halted;
              from = (k.gives x).from ∙ y.goes (undated_not b goes) m room ∙ ap (λ (j : ℕ). rec_from c U (noted m t q j) y.next) (sym tokens);
            };
      }

  -- what the ticks after it ask, and what they leave
  pub carry_halts : Joins l f e m₀ U r₀ → Halts l g h U r
  carry_halts a = let x = k.gives a.halts.halted in record { chain = a.halts.chain; what = x.what; halted = x.halted }

  pub carry_onward : {o p : List ℕ} {b : Result ℕ Halt} → OnwardGives l g h U r o p b → Carrying l f e m₀ U r₀ o p b m
  carry_onward w = record {
    listed = k.listed;
    gives = λ x. let y = k.gives x in let z = w.gives y.halted in record { what = z.next; halted = z.halted; from = y.from ∙ z.goes m };
  }

  -- where nothing more is lost
  pub carry_ends : overflow_in r ≡ None → IfOk r (λ t. U ≤ t) → JoinedGives l f e m₀ U r₀ (rec_left_by g h r m)
  carry_ends n ends = record {
    gives = λ {c} x.
        let y = k.gives x in
        undated_is r y.halted.ran (overflow_not r (ap is_some n))
        (λ e. y.from ∙ from_clean c U m y.what e (reached r y.halted.ran ends e))
        (λ t i e. y.from ∙ from_undated c U m y.what t i e);
  }

  pub carry_last : Joins l f e m₀ U r₀ → IfErr r (λ x. place_of x ≤ 16)
  carry_last a = (k.gives a.halts.halted).halted.low

-- a state that is lent for T ticks, and a list of 256 slots
pub record Carries (l f e : List ℕ) (m : Losses) (t T : ℕ) : Type 0 where
  pub lends : Lends l f e t T
  pub listed : Listed m

-- the first ticks, and then how they go on
module _ {l f e : List ℕ} {m : Losses} {t T : ℕ} {g h : List ℕ} {r : Result ℕ Halt} {U : ℕ} (until : U ≡ t + T) (a : Carries l f e m t T) (k : RanGives l f e t T g h r) where
  module _ {c : Chain} {s : Run} (x : LendsIn l f e t T c s) where
    able : Able c U s
    able = record { filled = x.filled; clock = omega (arith, until, x.clock); counts = λ i n. omega (arith, until, x.counts i n, x.clock) }

    upto : s.clock + T ≡ U
    upto = omega (arith, until, x.clock)

    first_halted : Halted l g h U r c (ticks c T s)
    first_halted = record { chain = x.filled.chain; plans = x.shown.plans; ran = k.gives x; left = ticks_left T able upto; end = omega (arith, until, x.long); low = k.low }

  pub carries_joins : Joins l g h m U r
  carries_joins =
      let x = a.lends.lends in
      record {
        halts = record { chain = a.lends.chain; what = ticks a.lends.chain T a.lends.run; halted = first_halted x };
        listed = a.listed;
        ends = reaches r x (k.gives x) until;
      }

  pub carries_gives : {b : Recorded} → JoinedGives l g h m U r b → {c : Chain} {s : Run} → LendsIn l f e t T c s → b ≡ rec_ticks c T s m
  carries_gives j x = j.gives (first_halted x) ∙ sym (ticks_from_law T (able x) (upto x) m)

  -- where they do not overflow, nothing is lost
  pub carries_unlost : is_some (overflow_in r) ≡ false → {c : Chain} {s : Run} → LendsIn l f e t T c s → rec_left_by g h r m ≡ rec_ticks c T s m
  carries_unlost n {c} {s} x = undated_is r (k.gives x) (overflow_not r n) (beside_clean c T s m) (beside_undated c T s m)
