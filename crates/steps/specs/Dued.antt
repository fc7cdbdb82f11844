-- The deadlines that are kept: what holds before node j+1 is looked at.
--   Dued l f every j d       d has the deadlines that are wanted of the first j nodes
--   dued_none, _taken, _left, _end
--                            at the start, with node j+1's deadline wanted and not wanted, and at the end
--   dued_size, dued_dated    the number of queues, and what the deadline of N_(j+1) asks
use Rattle.std.proofs.Math.Logic.Iff
use Rattle.std.specs.Prelude.{◌≡◌, ◌≢◌, Bool, false, cond, ◌||◌, List, ℕ, suc, ◌+◌, ◌≤◌, ◌<◌, eqb, leb, length, set, replicate}
use Rattle.std.proofs.Common.{sym, ap, ◌∙◌, ⊎_elim, add-one, arith, length-set, get_or-set_same, get_or-set_other, ne_eqb}
use Rattle.std.proofs.lemmas.List.{length-replicate}
use Rattle.std.proofs.lemmas.Bool.{eqb-false}
use Rattle.words.specs.Table.{below_next}
use Rattle.chain.specs.Tests.{or_false, upto_false}
use Rattle.chain.specs.declared.Chain.{Chain}
use Rattle.state.specs.Fired.{Over}
use Rattle.state.specs.declared.Run.{Run}
use Rattle.flow.specs.Flow.{threshold_in, held_in, size_in}
use Rattle.dates.specs.Question.{dated_of}
use Rattle.dates.specs.Dues.{Dated, DatedGives}
use Rattle.instants.specs.Steps.{next}
use Rattle.steps.specs.Lent.{Stands}
use Rattle.steps.specs.Passed.{Stand, Wanted, DuesGive}

-- d has the deadlines that are wanted of the first j nodes
pub record Dued (l f : List ℕ) (every : Bool) (j : ℕ) (d : List ℕ) : Type 0 where
  pub reach : j ≤ size_in f
  pub long : length d ≡ 16
  pub give : DuesGive l f every j d

pub dued_none : (l f : List ℕ) (every : Bool) → Dued l f every 0 (replicate 16 0)
dued_none l f every = record { reach = omega arith; long = length-replicate {A = ℕ} 16 0; give = record { gives = λ x j h. absurd (omega arith) } }

pub dued_size : {l f : List ℕ} → Stand l f → size_in f ≤ 16
dued_size a = omega (arith, a.stands.shown.shows.many, a.stands.shown.shows.few)

-- what the deadline of N_(j+1)'s next firing asks
pub dued_dated : {l f : List ℕ} {j : ℕ} → Stand l f → j < size_in f → Dated l f (j + 1)
dued_dated {l} {f} {j} a h =
    let m : j < a.chain.n = omega (arith, a.stands.shown.shows.many) in
    record {
      chain = a.chain;
      run = a.run;
      shown = a.stands.shown;
      sound = a.stands.filled.chain.chain;
      node = omega arith;
      count = a.stands.counts (j + 1) (omega arith);
    }

-- a node of which the test of the code does not hold is not wanted
unwanted : {l f : List ℕ} {every : Bool} {j : ℕ} {c : Chain} {s : Run} → (every || eqb j 0) || leb (threshold_in f j) (held_in f j) ≡ false → Stands l f c s → j < c.n → Wanted every c s j → ⊥
unwanted {l} {f} {every} {j} {c} {s} t x m =
    let none : ((every ≡ false) × (j ≢ 0)) × (held_in f j < threshold_in f j) =
    (or_false (or_false Iff.rfl (λ e. eqb-false j 0 e, λ n. ne_eqb j 0 n)) (upto_false (threshold_in f j) (held_in f j))).0 t in
    ⊎_elim
    (⊎_elim (λ e. absurd (let z : ◌≡◌ {A = ℕ} 1 0 = ap (λ (b : Bool). cond b 1 0) (sym e ∙ none.0.0) in omega arith)) (λ e. none.0.1 e))
    (λ (o : Over c s (suc j)). absurd (omega (arith, none.1, o, x.shown.shows.waits j m, x.shown.shows.holds j (omega (arith, x.shown.shows.few)))))

module _ {l f : List ℕ} {every : Bool} {j : ℕ} {d : List ℕ} (a : Dued l f every j d) (h : j < size_in f) where
  pub dued_taken : size_in f ≤ 16 → {v : ℕ} → DatedGives l f (j + 1) v → Dued l f every (j + 1) (set d j v)
  dued_taken few {v} g = record {
    reach = omega arith;
    long = length-set d j v ∙ a.long;
    give = record {
      gives = λ {c} {s} x. below_next j
          (λ n w. get_or-set_same d j v 0 (omega (arith, a.long)) ∙ g.due x.shown ∙ ap (λ (i : ℕ). dated_of c i (next s i)) (add-one j))
          (λ k p n w. get_or-set_other d j k v 0 (λ e. omega arith) ∙ a.give.gives x k p n w);
    };
  }

  pub dued_left : (every || eqb j 0) || leb (threshold_in f j) (held_in f j) ≡ false → Dued l f every (j + 1) d
  dued_left t = record {
    reach = omega arith;
    long = a.long;
    give = record {
      gives = λ {c} {s} x. below_next j (λ n w. absurd (unwanted t x n w)) (a.give.gives x);
    };
  }

pub dued_end : {l f : List ℕ} {every : Bool} {j : ℕ} {d : List ℕ} → Dued l f every j d → size_in f ≤ j → DuesGive l f every 16 d
dued_end a h = record { gives = λ x k m n w. a.give.gives x k (omega (arith, x.shown.shows.many)) n w }
