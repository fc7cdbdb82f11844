-- One tick over what a run lends, from its two halves.
--   Working c s g i          what a tick knows once the source's step and 13 were clean: the state, and the node that works
--   pass_ends                the tick ends there
--   pass_completes           what its second half asks
--   pass_goes, pass_spills   what both halves leave, where its second half is clean and where it is not
use Rattle.std.specs.Prelude.{◌≡◌, Bool, false, List, [], ◌++◌, ℕ, zero, suc, ◌+◌, ◌≤◌, ◌<◌, Option}
use Rattle.std.proofs.Common.{Ok, Err, refl, sym, ap, ap₂, subst, ◌∙◌, true≢false, arith}
use Rattle.chain.specs.Refusals.{Silent}
use Rattle.chain.specs.declared.Chain.{Chain}
use Rattle.state.specs.State.{count_at}
use Rattle.state.specs.declared.Run.{Run}
use Rattle.history.specs.History.{Entry}
use Rattle.flow.specs.Flow.{Shows}
use Rattle.instants.specs.Steps.{divides, clean, sourced, lacking, chosen, worked, finished, begun, tick}
use Rattle.instants.specs.Kept.{SourceStep}
use Rattle.instants.proofs.KeptLaws.{begun_stays, sourced_clean, begun_clean, tick_ends, tick_works}
use Rattle.instants.proofs.FilledLaws.{lacking_as, chosen_as}
use Rattle.instants.proofs.KeptLaws.{chosen_low, chosen_over, worked_counts, worked_held, worked_clock, finished_clock}
use Rattle.instants.specs.declared.Outcome.{Outcome}
use Rattle.instants.specs.declared.Outcome.TheVariants.{Clean}
use Rattle.instants.specs.declared.Ticked.{Ticked}
use Rattle.traces.specs.Trace.{tracing, source_entry, finish_trace, tick_trace}
use Rattle.traces.specs.Traced.{tracing_none}
use Rattle.traces.proofs.TracedLaws.{tick_entries, tick_entries_none}
use Rattle.steps.specs.Lent.{fired_at, tick_of, place_of}
use Rattle.steps.specs.Laws.{as_unclean}
use Rattle.steps.specs.Passed.{AtStart, source_in, BegunTo, BegunGives, CompletesIn, Completes, CompletedTo, CompletedGives, completed_at, PassIn, Passes, PassTo, PassGives}
use Rattle.steps.specs.declared.Halt.{Halt}
use Rattle.steps.specs.declared.Halt.TheVariants as halt
use Rattle.steps.specs.declared.Start.{Start}

-- what a tick knows once the source's step and 13 were clean
pub record Working (c : Chain) (s : Run) (g : List ℕ) (i : ℕ) : Type 0 where
  pub went : (begun c s).outcome ≡ Clean
  pub step : SourceStep c s (begun c s).run
  pub shows : Shows g c (begun c s).run
  pub silent : Silent (lacking c (begun c s).run)
  pub node : chosen c (begun c s).run ≡ i

-- a halt in the first half of a tick is at its clock, and what the source put in is taken back
at_tick : (t : ℕ) (h : Halt) → AtStart t h → tick_of h ≡ t
at_tick t (halt.Overflowed u q) a = a.0
at_tick t (halt.NoDeadline u i) a = a

taken_back : (c : Chain) (t : ℕ) (h : Halt) → AtStart t h → source_in c t (Err h) ≡ false
taken_back c t (halt.Overflowed u zero) a = refl
taken_back c t (halt.Overflowed u (suc j)) a = absurd (omega (arith, a.1))
taken_back c t (halt.NoDeadline u i) a = refl

-- where a finish overflows, the source has fired where y divides the clock
finish_told : (c : Chain) (t u k : ℕ) → 0 < k → source_in c t (Err (halt.Overflowed u k)) ≡ divides c.period t
finish_told c t u zero z = absurd (omega (arith, z))
finish_told c t u (suc j) z = refl

-- the tick ends with the outcome of the source's step or of 13
pub pass_ends : {l f d e g : List ℕ} {t : ℕ} {i : Option ℕ} {h : Halt} → BegunGives l f d t i g (Err h) → PassGives l f d e t i g e (Err h)
pass_ends {g = g} {t = t} {h = h} b = record {
  gives = λ {c} {s} x.
      let y : BegunTo c s t g (Err h) = b.gives x.stands x.clock x.keeps x.known in
      let o : (begun c s).outcome ≡ Clean → ⊥ = λ z. as_unclean {A = Start} (Err h) refl (sym y.outcome ∙ z) in
      let q : tick c s ≡ begun c s = tick_ends c s o in
      let stays : (tick c s).run ≡ s = ap (λ (v : Ticked). v.run) q ∙ begun_stays c s o in
      record {
        outcome = ap (λ (v : Ticked). v.outcome) q ∙ y.outcome;
        clock = ap (λ (v : Run). v.clock) stays ∙ x.clock ∙ sym (at_tick t h y.halts);
        shows = subst (λ (v : Ticked). Shows g c v.run) (sym q) y.shows;
        done = x.done ∙ ap (λ (v : Run). v.done) (sym stays);
        firings =
            tick_entries_none c s o
            ∙ ap (λ (v : List Entry). v ++ []) (sym (tracing_none (begun c s).outcome s _ o) ∙ y.entry ∙ ap (λ (v : Bool). fired_at v t 0) (sym (taken_back c t h y.halts)));
        known = tt;
        others = tt;
        some = λ z. absurd (true≢false (sym z));
        low = y.low;
      };
}

module _ {l f d e g : List ℕ} {t : ℕ} {i : Option ℕ} {r : Start} (b : BegunGives l f d t i g (Ok r)) where
  begins : {c : Chain} {s : Run} → PassIn l f d e t i c s → BegunTo c s t g (Ok r)
  begins x = b.gives x.stands x.clock x.keeps x.known

  working : {c : Chain} {s : Run} → PassIn l f d e t i c s → Working c s g r.node
  working {c} {s} x =
      let y : BegunTo c s t g (Ok r) = begins x in
      let q = begun_clean c s y.outcome in
      let is : (sourced c s).run ≡ (begun c s).run = ap (λ (v : Ticked). v.run) (sym q.1.1) in
      record {
        went = y.outcome;
        step = subst (SourceStep c s) is (sourced_clean x.stands.filled q.0);
        shows = y.shows;
        silent = subst (λ (v : Run). Silent (lacking c v)) is q.1.0;
        node = y.node;
      }

-- the node that works
module _ {l f d e : List ℕ} {t : ℕ} {i : Option ℕ} {c : Chain} {s : Run} {g : List ℕ} {k : ℕ} (x : PassIn l f d e t i c s) (w : Working c s g k) where
  -- the state after the source's step
  abbrev u : Run
  u = (begun c s).run

  low : k ≤ c.n
  low = subst (λ (m : ℕ). m ≤ c.n) w.node (chosen_low c u)

  completes : CompletesIn l g e k c u
  completes = record {
    shown = record { plans = x.stands.shown.plans; shows = w.shows };
    filled = w.step.filled;
    done = x.done ∙ sym w.step.done;
    node = low;
    over = λ j h. chosen_over c u j (w.node ∙ h);
    count = λ j h. omega (arith, w.step.others (suc j) (omega arith), x.stands.counts (suc j) (omega (arith, low, h)));
  }

  ticked : tick c s ≡ finished c (worked u k)
  ticked = tick_works c s w.went ∙ ap (λ (m : ℕ). finished c (worked u m)) w.node

  later : u.clock + 1 ≡ t + 1
  later = ap (λ (n : ℕ). n + 1) (w.step.clock ∙ x.clock)

  clocked : (tick c s).run.clock ≡ t + 1
  clocked = ap (λ (z : Ticked). z.run.clock) ticked ∙ finished_clock c (worked u k) ∙ worked_clock u k ∙ later

  -- the firings of both halves
  both_fire : {first fires : List Entry} → tracing (begun c s).outcome s (λ v. source_entry c s) ≡ first → finish_trace c (worked u k) ≡ fires → tick_trace c s ≡ first ++ fires
  both_fire first then = tick_entries c s w.went ∙ ap₂ ◌++◌ first (ap (λ (n : ℕ). finish_trace c (worked u n)) w.node ∙ then)

  -- the source's, by whether y divides the clock
  source_told : tracing (begun c s).outcome s (λ v. source_entry c s) ≡ fired_at (divides c.period t) t 0
  unfolding tracing source_entry
  source_told = ap (λ (o : Outcome). tracing o s (λ v. source_entry c s)) w.went ∙ ap (λ (n : ℕ). fired_at (divides c.period n) n 0) x.clock

  module _ {m o : List ℕ} where
    -- both are clean
    clean_both : {source fired : Bool} → tracing (begun c s).outcome s (λ v. source_entry c s) ≡ fired_at source t 0 → CompletedTo c u k m o (Ok fired)
        → PassTo c s t m o (Ok (record { source = source; node = k; fired = fired }))
    clean_both {fired = fired} first y = record {
      outcome = ap (λ (z : Ticked). z.outcome) ticked ∙ y.outcome;
      clock = clocked;
      shows = subst (λ (z : Ticked). Shows m c z.run) (sym ticked) y.shows;
      done = y.done ∙ ap (λ (z : Ticked). z.run.done) (sym ticked);
      firings = both_fire first (y.entry ∙ ap (λ (n : ℕ). fired_at fired n k) later);
      known = λ n.
          let q : tick c s ≡ clean (worked u k) = ticked ∙ y.rests n in
          subst (λ (v : Ticked). Silent (lacking c v.run) × (chosen c v.run ≡ k)) (sym q)
          (subst Silent (sym (lacking_as c u (worked u k) (worked_counts u k) (worked_held u k))) w.silent, chosen_as c u (worked u k) (worked_counts u k) (worked_held u k) ∙ w.node);
      others = λ j n. ap (λ (v : Ticked). count_at v.run (suc j)) ticked ∙ y.others j n ∙ w.step.others (suc j) (omega arith);
      some = y.some;
      low = low;
    }

    -- the firing finished does not fit
    spills_both : {h : Halt} → CompletedTo c u k m o (Err h) → PassTo c s t m o (Err h)
    spills_both {h} y = record {
      outcome = ap (λ (z : Ticked). z.outcome) ticked ∙ y.outcome;
      clock = clocked ∙ sym later ∙ ap tick_of (sym y.spills.0);
      shows = subst (λ (z : Ticked). Shows m c z.run) (sym ticked) y.shows;
      done = y.done ∙ ap (λ (z : Ticked). z.run.done) (sym ticked);
      firings = both_fire (source_told ∙ ap (λ (b : Bool). fired_at b t 0) (sym told)) y.entry;
      known = tt;
      others = tt;
      some = λ z. absurd (true≢false (sym z));
      low = subst (λ (x : Halt). place_of x ≤ c.n) (sym y.spills.0) low;
    }
      where
        told : source_in c t (Err h) ≡ divides c.period t
        told = ap (λ (x : Halt). source_in c t (Err x)) y.spills.0 ∙ finish_told c t (u.clock + 1) k y.spills.1

-- as the code of a tick has it
module _ {l f d e g : List ℕ} {t : ℕ} {i : Option ℕ} {r : Start} (b : BegunGives l f d t i g (Ok r)) where
  pub pass_completes : Passes l f d e t i → Completes l g e r.node
  pass_completes a = record { chain = a.chain; run = (begun a.chain a.run).run; is = completes a.is (working b a.is) }

  module _ {m o : List ℕ} where
    pub pass_goes : {fired : Bool} → CompletedGives l g e (t + 1) r.node m o (Ok fired) → PassGives l f d e t i m o (Ok (record { source = r.source; node = r.node; fired = fired }))
    pass_goes q = record { gives = λ p. let w = working b p in clean_both p w (begins b p).entry (completed_at q (completes p w) (later p w)) }

    pub pass_spills : {h : Halt} → CompletedGives l g e (t + 1) r.node m o (Err h) → PassGives l f d e t i m o (Err h)
    pass_spills q = record { gives = λ p. let w = working b p in spills_both p w (completed_at q (completes p w) (later p w)) }

pub ruleset passing = (pass_ends, pass_completes, pass_goes, pass_spills)
