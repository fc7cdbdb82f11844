-- Laws of specs/Once.antt that rest on a definition which an edit of must-fail/ changes.
-- What the steps of a recording tick leave (02, Item 2), field by field, and that nothing else fits.
--   source_noted, source_noted_only
--                              what it leaves where it is clean is that, and nothing else is
--   work_full, work_noted      what the full list leaves of a tick of work, and what one leaves that is clean, is that
use Rattle.std.specs.Prelude.{◌≡◌, refl, ◌≢◌, List, ℕ, suc, ◌+◌, ◌≤◌, ◌<◌, length, get_or}
use Rattle.std.proofs.Common.{sym, ap, ◌∙◌, arith, length-set, get_or-set_same, get_or-set_other}
use Rattle.std.proofs.Math.Path.{subst}
use Rattle.std.proofs.Math.Bool.{false}
use Rattle.chain.specs.Record.{row_of, work_of}
use Rattle.chain.specs.declared.Chain.{Chain}
use Rattle.state.specs.State.{count_at, held_at, done_at}
use Rattle.state.specs.Fired.{fired, Over, Room, over_enough}
use Rattle.state.proofs.FiredLaws.{count_fired, count_other}
use Rattle.state.specs.Checks.{cramped}
use Rattle.state.proofs.ChecksLaws.{cramped_room}
use Rattle.state.specs.declared.Run.{Run}
use Rattle.instants.specs.Steps.{clean, with_done, worked, finish, finished}
use Rattle.instants.specs.Filled.{Filled, cramped_as}
use Rattle.instants.proofs.SourceLaws.{once_fires, once_rests}
use Rattle.instants.specs.Once.{WorkOnce}
use Rattle.instants.proofs.OnceLaws.{work_once}
use Rattle.instants.specs.Kept.{fired_clock}
use Rattle.instants.proofs.KeptLaws.{worked_counts, worked_held, worked_clock, worked_same, worked_other, works_on, works_ends, cleared_filled}
use Rattle.instants.specs.declared.Ticked.{Ticked}
use Rattle.losses.specs.Losses.{noted, Listed}
use Rattle.losses.proofs.LossesLaws.{is_noted}
use Rattle.losses.specs.declared.Losses.{Losses}
use Rattle.recordings.specs.Steps.{dropped, rec_sourced, rec_finished}
use Rattle.recordings.proofs.RunsLaws.{rec_unclean_full}
use Rattle.recordings.proofs.DropsLaws.{dropped_input, dropped_other, dropped_whole}
use Rattle.recordings.proofs.CasesLaws.{source_four, work_four}
use Rattle.recordings.specs.declared.RecordOutcome.TheVariants.{Clean}
use Rattle.recordings.specs.Once.{LostOnce, SourceNoted, WorkNoted, WorkFull}

module _ {c : Chain} {s : Run} (f : Filled c s) {l : Losses} (k : Listed l) where
  source_lost : l.count < 256 → LostOnce c s 0 l (dropped c s 0) (noted l s.clock 0 (row_of c 0).produce)
  source_lost room = record {
    whole = dropped_whole c s 0 f.whole;
    count = count_fired c s 0 (omega (arith, f.whole.counts));
    counts = λ k ne. count_other c s 0 k ne;
    input = λ j e. absurd (omega arith);
    held = λ k ne. dropped_other c s 0 k (λ e. omega arith);
    done = λ j e. absurd (omega arith);
    others = λ k ne. refl;
    noted = is_noted k room s.clock 0 (row_of c 0).produce;
  }

  -- what the source's step leaves where it is clean
  pub source_noted : (rec_sourced c s l).outcome ≡ Clean → SourceNoted c s l (rec_sourced c s l).run (rec_sourced c s l).losses
  unfolding fired
  source_noted = source_four f l (λ x. x.outcome ≡ Clean → SourceNoted c s l x.run x.losses)
      (λ d spills room z. record { clock = refl; keeps = λ fits. absurd (omega (arith, spills.1, fits d spills.0)); loses = λ h g. source_lost room })
      (λ d spills none z. absurd (rec_unclean_full z))
      (λ d fits z. record { clock = refl; keeps = λ h. (once_fires f d, refl); loses = λ h spills. absurd (omega (arith, spills.1, fits spills.0)) })
      (λ rests z. record { clock = refl; keeps = λ h. (once_rests f rests, refl); loses = λ d spills. absurd (rests d) })

module _ {c : Chain} {u : Run} (f : Filled c u) where
  -- no firing is finished
  rests_once : (w : ℕ) → w ≤ c.n → (0 < w → Over c u w) → ((j : ℕ) → w ≡ suc j → done_at u j + 1 ≢ work_of c j) → WorkOnce c u w (worked u w)
  rests_once w low over less =
      let on : finished c (worked u w) ≡ clean (worked u w) = works_on f w (λ j l e. omega (arith, less j e, f.below j l)) in
      subst (λ (x : Ticked). WorkOnce c u w x.run) on (work_once f w low over (ap (λ (x : Ticked). x.outcome) on))

  module _ (j : ℕ) (low : j < c.n) (over : Over c u (suc j)) (all : done_at u j + 1 ≡ work_of c j) where
    slot : j < 16
    slot = omega (arith, f.chain.chain.count.1)

    -- one is, and fits
    fires_once : Room c u (suc j) → WorkOnce c u (suc j) (fired c (with_done (worked u (suc j)) j 0) (suc j))
    unfolding finish
    fires_once room =
        let still : cramped c (worked u (suc j)) (suc j) ≡ false = cramped_as c u (worked u (suc j)) (suc j) (worked_held u (suc j)) ∙ (cramped_room c u (suc j)).1 room in
        let on : finished c (worked u (suc j)) ≡ clean (fired c (with_done (worked u (suc j)) j 0) (suc j)) = works_ends f j low all ∙ simp still in
        subst (λ (x : Ticked). WorkOnce c u (suc j) x.run) on (work_once f (suc j) low (λ z. over) (ap (λ (x : Ticked). x.outcome) on))

    -- one is, and its production is dropped
    work_lost : {l : Losses} → Listed l → l.count < 256
        → LostOnce c u (suc j) l (dropped c (with_done (worked u (suc j)) j 0) (suc j)) (noted l (worked u (suc j)).clock (suc j) (row_of c (suc j)).produce)
    work_lost {l} k room = record {
      whole = dropped_whole c cleared (suc j) g.whole;
      count = count_fired c cleared (suc j) (omega (arith, g.whole.counts, slot)) ∙ ap (λ (x : ℕ). x + 1) (count (suc j));
      counts = λ m ne. count_other c cleared (suc j) m ne ∙ count m;
      input = λ m e. let z : j ≡ m = omega arith in subst (λ (x : ℕ). held_at (dropped c cleared (suc j)) x + (row_of c x).consume ≡ held_at u x) z
          (dropped_input c cleared j (omega (arith, g.whole.held, slot)) (omega (arith, hold j, over_enough f.chain.chain u j low over)) ∙ hold j);
      held = λ m ne. dropped_other c cleared (suc j) m (λ e. ne (sym e)) ∙ hold m;
      done = λ m e. let z : j ≡ m = omega arith in subst (λ (x : ℕ). done_at cleared x ≡ 0) z
          (get_or-set_same (worked u (suc j)).done j 0 0 (omega (arith, g.whole.done, length-set (worked u (suc j)).done j 0, slot)));
      others = λ m ne. get_or-set_other (worked u (suc j)).done j m 0 0 (λ e. ne (omega arith)) ∙ worked_other u (suc j) m ne;
      noted = is_noted k room (worked u (suc j)).clock (suc j) (row_of c (suc j)).produce;
    }
      where
        cleared : Run
        cleared = with_done (worked u (suc j)) j 0

        g : Filled c cleared
        g = cleared_filled f j low all

        count : (m : ℕ) → count_at cleared m ≡ count_at u m
        count m = ap (λ (x : List ℕ). get_or x m 0) (worked_counts u (suc j))

        hold : (m : ℕ) → held_at cleared m ≡ held_at u m
        hold m = ap (λ (x : List ℕ). get_or x m 0) (worked_held u (suc j))

    -- one is, and the list is full
    pub work_full : WorkFull c u j (worked u (suc j))
    work_full = record {
      whole = record {
        counts = ap length (worked_counts u (suc j)) ∙ f.whole.counts;
        held = ap length (worked_held u (suc j)) ∙ f.whole.held;
        done = sym (length-set (worked u (suc j)).done j 0) ∙ (cleared_filled f j low all).whole.done;
      };
      clock = worked_clock u (suc j);
      counts = worked_counts u (suc j);
      held = worked_held u (suc j);
      done = worked_same u j (omega (arith, f.whole.done, slot)) ∙ all;
      others = λ k ne. worked_other u (suc j) k (λ e. ne (omega arith));
    }

  -- what a tick of work leaves where it is clean
  pub work_noted : {l : Losses} → Listed l → (w : ℕ) → w ≤ c.n → (0 < w → Over c u w) → (rec_finished c (worked u w) l).outcome ≡ Clean
      → WorkNoted c u l w (rec_finished c (worked u w) l).run (rec_finished c (worked u w) l).losses
  work_noted {l} k w low over = work_four f l (λ x. x.outcome ≡ Clean → WorkNoted c u l w x.run x.losses) w low
      (λ less z. record { clock = worked_clock u w; keeps = λ h. (rests_once w low over less, refl); loses = λ j e all full. absurd (less j e all) })
      (λ j e all room z. record {
        clock = fired_clock c (with_done (worked u (suc j)) j 0) (suc j) ∙ worked_clock u (suc j);
        keeps = λ h. (subst (λ (i : ℕ). WorkOnce c u i (fired c (with_done (worked u (suc j)) j 0) (suc j))) (sym e) (fires_once j (node j e) (mine j e) all room), refl);
        loses = λ m q also full. absurd (omega (arith, full.1, subst (λ (i : ℕ). Room c u i) (sym e ∙ q) room full.0));
      })
      (λ j e all full room z. record {
        clock = worked_clock u (suc j);
        keeps = λ h. absurd (omega (arith, full.1, h j e all full.0));
        loses = λ m q also more. let i : j ≡ m = omega arith in
            subst (λ (x : ℕ). LostOnce c u (suc x) l (dropped c (with_done (worked u (suc j)) j 0) (suc j)) (noted l (worked u (suc j)).clock (suc j) (row_of c (suc j)).produce)) i
            (work_lost j (node j e) (mine j e) all k room);
      })
      (λ j e all full none z. absurd (rec_unclean_full z))
    where
      node : (j : ℕ) → w ≡ suc j → j < c.n
      node j e = omega arith

      mine : (j : ℕ) → w ≡ suc j → Over c u (suc j)
      mine j e = subst (Over c u) e (over (omega arith))
