-- Laws of specs/Leads.antt that rest on a definition which an edit of must-fail/ changes.
-- What firings make of a state and a list, lost or not (02, Item 2).
--   leads_none, _fired, _dropped, _then
--                              no firing, one that fits, one that is lost, and one history after the other
--   leads_balance              so the balance with what the list has lost is kept
--   leads_within               and no queue passes its capacity
use Rattle.std.specs.Prelude.{◌≡◌, refl, true, false, List, [], ◌∷◌, ◌++◌, ℕ, ◌+◌, ◌≤◌, ◌<◌, replicate}
use Rattle.std.proofs.Math.Path.{sym}
use Rattle.std.proofs.Common.{ap, subst, ◌∙◌, true≢false, append-nil, append_assoc, arith}
use Rattle.std.proofs.Math.Logic.{by_cases}
use Rattle.std.proofs.lemmas.List.{map-append}
use Rattle.std.proofs.Math.Nat.{le_refl}
use Rattle.std.proofs.Math.Decide.{ℕ_discrete}
use Rattle.chain.specs.Record.{row_of}
use Rattle.chain.specs.Sound.{Sound}
use Rattle.chain.specs.declared.Chain.{Chain}
use Rattle.sizing.specs.Sizes.{capacity_of}
use Rattle.state.specs.State.{held_at, done_at, zeros}
use Rattle.state.specs.Fired.{fired, Over, Room, Slots, BalanceWith}
use Rattle.state.specs.Checks.{Cramped}
use Rattle.state.specs.declared.Run.{Run}
use Rattle.history.specs.History.{Entry}
use Rattle.instants.specs.Filled.{Filled}
use Rattle.instants.proofs.FilledLaws.{filled_as}
use Rattle.traces.specs.Trace.{resting}
use Rattle.traces.specs.Rising.{Rising, rising_append}
use Rattle.losses.specs.Losses.{entries_in, noted, lost_in, lost, Listed, extends_refl, extends_trans}
use Rattle.losses.proofs.LossesLaws.{lost_append, listed_noted, is_noted, noted_entries, extends_noted}
use Rattle.losses.specs.declared.Loss.{Loss}
use Rattle.losses.specs.declared.Losses.{Losses}
use Rattle.recordings.specs.Steps.{dropped}
use Rattle.recordings.specs.Marked.{Marked, unmarked, rec_after, EachFair, losses_of}
use Rattle.recordings.proofs.MarkedLaws.{rec_after_append, fair_append, losses_append, marked_balance, marked_within}
use Rattle.recordings.specs.Leads.{Leads, resting_over}

-- no firing, between states with the same counts and contents
pub leads_none : (c : Chain) (s u : Run) {l : Losses} → Listed l → s.counts ≡ u.counts → s.held ≡ u.held → s.clock ≤ u.clock → Leads c s l [] u l
unfolding EachFair rec_after losses_of Rising
leads_none c s u {l} k a h later = record {
  fair = tt;
  after = λ i. record { clock = 0; counts = a i; held = h i; done = replicate 16 0 };
  entries = sym (append-nil (entries_in l));
  extends = extends_refl l;
  listed = k;
  named = λ n. n;
  rising = later;
}

module _ (c : Chain) (s : Run) {l : Losses} (k : Listed l) (i : ℕ) (node : i ≤ c.n) (over : Over c s i) where
  -- one firing at the clock of s, which fits
  pub leads_fired : Room c s i → Leads c s l (((s.clock, i), false) ∷ []) (fired c s i) l
  unfolding EachFair rec_after losses_of fired Rising
  leads_fired room = record {
    fair = (record { node = node; over = resting_over c s i over; lost = λ e. absurd (true≢false (sym e)); fits = λ e. room }, tt);
    after = refl;
    entries = sym (append-nil (entries_in l));
    extends = extends_refl l;
    listed = k;
    named = λ n. n;
    rising = (le_refl s.clock, le_refl s.clock);
  }

  -- one that is lost, and noted
  pub leads_dropped : Cramped c s i → l.count < 256 → Leads c s l (((s.clock, i), true) ∷ []) (dropped c s i) (noted l s.clock i (row_of c i).produce)
  unfolding EachFair rec_after losses_of fired Rising
  leads_dropped full room = record {
    fair = (record { node = node; over = resting_over c s i over; lost = λ e. full; fits = λ e. absurd (true≢false e) }, tt);
    after = refl;
    entries = noted_entries k room s.clock i (row_of c i).produce;
    extends = extends_noted l s.clock i (row_of c i).produce;
    listed = listed_noted k room s.clock i (row_of c i).produce;
    named = λ n m f. by_cases (ℕ_discrete m l.count)
        (λ e. rw (e, (is_noted k room s.clock i (row_of c i).produce).entry) full.0)
        (λ ne. rw ((is_noted k room s.clock i (row_of c i).produce).others m ne) (n m (omega (arith, ne))));
    rising = (le_refl s.clock, le_refl s.clock);
  }

-- one history and then another
pub leads_then : {c : Chain} {s u v : Run} {l m n : Losses} (g h : List Marked) → Leads c s l g u m → Leads c u m h v n → Leads c s l (g ++ h) v n
leads_then {c} {s} {u} {v} {l} g h a b = record {
  fair = fair_append c (resting s) g h a.fair (subst (λ (x : Run). EachFair c x h) (sym a.after) b.fair);
  after = rec_after_append c (resting s) g h ∙ ap (λ (x : Run). rec_after c x h) a.after ∙ b.after;
  entries =
      b.entries
      ∙ ap (λ (x : List Loss). x ++ losses_of c h) a.entries
      ∙ append_assoc (entries_in l) (losses_of c g) (losses_of c h)
      ∙ ap (λ (x : List Loss). entries_in l ++ x) (sym (losses_append c g h));
  extends = extends_trans a.extends b.extends;
  listed = b.listed;
  named = λ k. b.named (a.named k);
  rising = subst (λ (x : List Entry). Rising s.clock x v.clock) (sym (map-append (λ (e : Marked). e.0) g h))
      (rising_append s.clock (unmarked g) u.clock (unmarked h) v.clock a.rising b.rising);
}

-- "tokens produced equal tokens consumed, held, and the sum of that queue's entries"
pub leads_balance : {c : Chain} {s u : Run} {l m : Losses} {h : List Marked} → Sound c → Slots c.n s → Leads c s l h u m
    → (j : ℕ) → j < c.n → BalanceWith c s j (lost l j) → BalanceWith c u j (lost m j)
leads_balance {c} {s} {u} {l} {m} {h} k slots a j f b =
    subst (λ (x : Run). BalanceWith c x j (lost m j)) a.after
    (subst (BalanceWith c (rec_after c (resting s) h) j) sum
    (marked_balance k (resting s) (record { counts = slots.counts; held = slots.held }) h a.fair j f (lost l j) b))
  where
    sum : lost l j + lost_in j (losses_of c h) ≡ lost m j
    sum = sym (ap (lost_in j) a.entries ∙ lost_append j (entries_in l) (losses_of c h))

-- "no queue passes its capacity"
pub leads_within : {c : Chain} {s u : Run} {l m : Losses} {h : List Marked} → Filled c s → Leads c s l h u m → (j : ℕ) → j < c.n → held_at u j ≤ capacity_of (row_of c j)
leads_within {c} {s} {u} {h = h} f a j l = subst (λ (x : Run). held_at x j ≤ capacity_of (row_of c j)) a.after (marked_within rested h a.fair j l)
  where
    -- what a step needs says nothing of the clock, and work done of none is below e
    rested : Filled c (resting s)
    rested = filled_as c s (resting s) f f.whole.counts refl refl (λ i m. let z : done_at (resting s) i ≡ 0 = zeros 16 i in omega (arith, z, (f.chain.chain.work i m).0))
