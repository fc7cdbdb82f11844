-- The first half of a tick, the source's step, 13 and the choice, one law to each way in which its code ends.
--   begun_spills             the source's production does not fit
--   begun_stands             the source has not fired, and the choice of the tick before stands
--   begun_lacks              a deadline cannot be had: what the source put in is taken back
--   begun_chooses            the node that works is chosen anew
--   begun_size               the number of queues after the source's step
use Rattle.std.specs.Prelude.{◌≡◌, ◌≢◌, Bool, false, List, ℕ, ◌+◌, ◌≤◌, get_or, set, Option, Result, IfOk, IfErr, MatchResult}
use Rattle.std.proofs.Math.Path.{refl}
use Rattle.std.proofs.Common.{Some, None, Ok, Err, sym, ap, subst, ◌∙◌, arith, length-set, get_or-set_same, get_or-set_other}
use Rattle.std.proofs.Math.Logic.{by_cases}
use Rattle.std.proofs.Math.Decide.{ℕ_discrete}
use Rattle.chain.specs.Refusals.{Silent, number_of}
use Rattle.chain.specs.declared.Chain.{Chain}
use Rattle.state.specs.declared.Run.{Run}
use Rattle.flow.specs.Flow.{count_in, held_in, Shows}
use Rattle.instants.proofs.LackingLaws.{lacking_exact}
use Rattle.instants.specs.Steps.{clean, sourced, lacking, chosen, begun}
use Rattle.instants.specs.Kept.{SourceStep}
use Rattle.instants.proofs.KeptLaws.{sourced_held, sourced_clean, begun_over, begun_silent, begun_undated, chosen_low}
use Rattle.instants.specs.declared.Outcome.{Outcome}
use Rattle.instants.specs.declared.Outcome.TheVariants.{Clean, NoDeadline}
use Rattle.instants.specs.declared.Ticked.{Ticked}
use Rattle.traces.specs.Trace.{tracing, source_entry}
use Rattle.traces.specs.Traced.{tracing_none}
use Rattle.steps.specs.Lent.{fired_at, as_outcome, place_of, outcome_in, Stands, Sources, SourcedTo, SourcedGives, Looks, LackingGives, ChosenGives}
use Rattle.steps.specs.Laws.{as_unclean}
use Rattle.steps.specs.Passed.{AtStart, started_in, BegunTo, BegunGives}
use Rattle.steps.specs.declared.Halt.{Halt}
use Rattle.steps.specs.declared.Halt.TheVariants as halt
use Rattle.steps.specs.declared.Start.{Start}

-- a flow shows what they leave
begun_to : {c : Chain} {s : Run} {t : ℕ} {g : List ℕ} {r : Result Start Halt} {x : Ticked} → begun c s ≡ x → x.outcome ≡ outcome_in r → IfErr r (AtStart t)
    → Shows g c x.run → tracing x.outcome s (λ u. source_entry c s) ≡ fired_at (started_in r) t 0 → IfOk r (λ y. chosen c (begun c s).run ≡ y.node)
    → MatchResult r (λ y. y.node ≤ c.n) (λ h. place_of h ≤ c.n) → BegunTo c s t g r
begun_to {c} {s} {t} {g} {r} e o halts h entry node low = record {
  outcome = ap (λ (y : Ticked). y.outcome) e ∙ o;
  halts = halts;
  shows = subst (λ (y : Ticked). Shows g c y.run) (sym e) h;
  entry = ap (λ (y : Ticked). tracing y.outcome s (λ u. source_entry c s)) e ∙ entry;
  node = node;
  low = low;
}

-- what the source put in is taken back
restored : {l f g : List ℕ} {c : Chain} {s : Run} → Stands l f c s → (sourced c s).outcome ≡ Clean → Shows g c (sourced c s).run → Shows (set (set g 48 (count_in f 0)) 65 (held_in f 0)) c s
restored {l} {f} {g} {c} {s} x h y =
    let u : SourceStep c s (sourced c s).run = sourced_clean x.filled h in
    let one : List ℕ = set g 48 (count_in f 0) in
    let other : (p : ℕ) → p ≢ 48 → p ≢ 65 → get_or (set one 65 (held_in f 0)) p 0 ≡ get_or g p 0 = λ p a b. get_or-set_other one 65 p _ 0 b ∙ get_or-set_other g 48 p _ 0 a in
    record {
      long = length-set one 65 _ ∙ length-set g 48 _ ∙ y.long;
      many = other 82 (λ e. omega arith) (λ e. omega arith) ∙ y.many;
      few = y.few;
      puts = λ j m. other j (λ e. omega (arith, y.few)) (λ e. omega (arith, y.few)) ∙ y.puts j m;
      waits = λ j m. other (16 + j) (λ e. omega (arith, y.few)) (λ e. omega (arith, y.few)) ∙ y.waits j m;
      takes = λ j m. other (32 + j) (λ e. omega (arith, y.few)) (λ e. omega (arith, y.few)) ∙ y.takes j m;
      wide = x.filled.whole.counts;
      deep = x.filled.whole.held;
      counts = λ j m. by_cases (ℕ_discrete j 0)
          (λ e. rw e (get_or-set_other one 65 48 _ 0 (λ z. omega arith) ∙ get_or-set_same g 48 _ 0 (omega (arith, y.long)) ∙ x.shown.shows.counts 0 (omega arith)))
          (λ n. other (48 + j) (λ e. n (omega arith)) (λ e. omega arith) ∙ y.counts j m ∙ u.others j (omega arith));
      holds = λ j m. by_cases (ℕ_discrete j 0)
          (λ e. rw e (get_or-set_same one 65 _ 0 (omega (arith, y.long, length-set g 48 (count_in f 0))) ∙ x.shown.shows.holds 0 (omega arith)))
          (λ n. other (65 + j) (λ e. omega arith) (λ e. n (omega arith)) ∙ y.holds j m ∙ sourced_held c s j (omega arith));
    }

-- the source's production does not fit
pub begun_spills : {l f g d : List ℕ} {t : ℕ} {i : Option ℕ} {e : Halt} → SourcedGives l f t g (Err e) → BegunGives l f d t i g (Err e)
begun_spills {g = g} {t = t} {e = e} a = record {
  gives = λ {c} {s} x k q n.
      let b : SourcedTo c s t g (Err e) = a.gives x k in
      let ends : (sourced c s).outcome ≡ Clean → ⊥ = λ h. as_unclean {A = Bool} (Err e) refl (sym b.outcome ∙ h) in
      let at : (as_outcome e ≡ as_outcome (halt.Overflowed t 0)) × (AtStart t e × (place_of e ≤ c.n)) =
      subst (λ (h : Halt). (as_outcome h ≡ as_outcome (halt.Overflowed t 0)) × (AtStart t h × (place_of h ≤ c.n))) (sym b.spills) (refl, ((refl, refl), omega arith)) in
      begun_to (begun_over c s ends) b.outcome at.1.0 b.shows (tracing_none (sourced c s).outcome s _ ends) tt at.1.1;
}

module _ {l f g : List ℕ} {t : ℕ} {b : Bool} (a : SourcedGives l f t g (Ok b)) where
  pub begun_size : Sources l f t → Looks g
  begun_size o = let y = a.gives o.stands o.clock in record { size = omega (arith, y.shows.many, y.shows.few) }

  module _ {c : Chain} {s : Run} (x : Stands l f c s) (k : s.clock ≡ t) where
    went : (sourced c s).outcome ≡ Clean
    went = (a.gives x k).outcome

    -- the source's firing, where 13 is silent
    stays : tracing Clean s (λ u. source_entry c s) ≡ fired_at b t 0
    stays = ap (λ (o : Outcome). tracing o s (λ u. source_entry c s)) (sym went) ∙ (a.gives x k).entry

    -- the node that works, once the source has fired or not and 13 is silent
    begun_node : {j : ℕ} → Silent (lacking c (sourced c s).run) → chosen c (sourced c s).run ≡ j → BegunTo c s t g (Ok (record { source = b; node = j }))
    begun_node {j} silent is =
        let e : begun c s ≡ clean (sourced c s).run = begun_silent c s went silent in
        begun_to e refl tt (a.gives x k).shows stays (ap (λ (y : Ticked). chosen c y.run) e ∙ is) (subst (λ (m : ℕ). m ≤ c.n) is (chosen_low c (sourced c s).run))

  pub begun_stands : {d : List ℕ} {i : ℕ} → b ≡ false → BegunGives l f d t (Some i) g (Ok (record { source = b; node = i }))
  begun_stands {i = i} none = record {
    gives = λ {c} {s} x k q n.
        let still : (sourced c s).run ≡ s = ap (λ (y : Ticked). y.run) ((a.gives x k).rests none) in
        begun_node x k (subst (λ (u : Run). Silent (lacking c u)) (sym still) n.0) (subst (λ (u : Run). chosen c u ≡ i) (sym still) n.1);
  }

  pub begun_chooses : {d : List ℕ} {i : Option ℕ} {j : ℕ} → LackingGives g d None → ChosenGives g d j → BegunGives l f d t i g (Ok (record { source = b; node = j }))
  begun_chooses q h = record {
    gives = λ {c} {s} x k keeps n.
        let shows = (a.gives x k).shows in
        let silent : Silent (lacking c (sourced c s).run) = number_of (q.gives x.filled.chain.chain shows keeps) in
        begun_node x k silent (h.gives x.filled.chain.chain shows keeps silent);
  }

  pub begun_lacks : {d : List ℕ} {i : Option ℕ} {m : ℕ} → LackingGives g d (Some m)
      → BegunGives l f d t i (set (set g 48 (count_in f 0)) 65 (held_in f 0)) (Err (halt.NoDeadline t m))
  unfolding tracing
  begun_lacks {m = m} q = record {
    gives = λ {c} {s} x k keeps n.
        let says = q.gives x.filled.chain.chain (a.gives x k).shows keeps in
        begun_to (begun_undated c s (went x k) m says) (ap (λ (u : ℕ). NoDeadline u m) k) refl (restored x (went x k) (a.gives x k).shows) refl tt
        ((lacking_exact c (sourced c s).run m).0 says).node;
  }

pub ruleset beginning = (begun_spills, begun_stands, begun_lacks, begun_chooses)
