-- A recording run beside the deadline run (02, Item 2): "as long as nothing is lost" they are the same.
--   c, T, t, q, i            a chain, ticks, an instant, a queue, a node
--   instants c T (fresh_run c)
--                            the deadline run's own definition, of any chain: the call refuses one with a capacity below the minimum, and the recording call does not
--   TakenAt c T t x          13 at t has taken back the loss of the source, with the state of x
--   FirstLoss c T t q        the first entry is the loss at t of queue q
--   AsRule c T x             what is said beside x, an outcome and the state that it leaves
--   beside_rule              it holds beside the deadline run's definition, of every chain that the recording call accepts
--   beside_deadline          and beside what the deadline call answers, where that refuses nothing
use Rattle.std.specs.Prelude.{◌≡◌, ◌⊎◌, ℕ, ◌<◌, get_or}
use Rattle.std.proofs.Common.{sym, ap, subst, ◌∙◌, inl, inr, ⊎_elim}
use Rattle.ardenquill.specs.Analyses.{Accepted}
use Rattle.ardenquill.specs.Runs.{fresh_run}
use Rattle.ardenquill.specs.Ticks.{clean, instants, left, deadline_run_answer}
use Rattle.ardenquill.specs.Losses.{rec_run_answer, rec_ran_as, rec_run_may, rec_run_clean, rec_run_undated, rec_run_loses, rec_run_nothing_lost}
use Rattle.ardenquill.specs.Records.{Chain, Ticked, TickAnswer, RecordAnswer}
use Rattle.promises.specs.Outcomes.{Cleanly, OverflowedAt, UndatedAt, cleanly_is, overflowed_is, undated_is}
use Rattle.promises.specs.Replay.{p_of}
use Rattle.promises.specs.ByTicks.{DeadlineRuns, answer_is}
use Rattle.promises.specs.LossOutcomes.{RecCleanly, RecUndatedAt, rec_cleanly_is, rec_undated_is, zero_loss, zero_losses}
use Rattle.promises.specs.LossesRefused.{RecRuns}
use Rattle.promises.specs.Losses.{answered}

-- 13 at t has taken back what the source's step lost: the state is the one before that step, and nothing is noted
pub record TakenAt (c : Chain) (T t : ℕ) (x : Ticked) : Type 0 where
  pub node : ℕ
  pub says : RecUndatedAt (rec_run_answer c T).outcome t node
  pub state : (rec_run_answer c T).run ≡ x.run
  pub list : (rec_run_answer c T).losses ≡ zero_losses

-- the first entry is the loss at t of p tokens of queue q
abbrev pub FirstLoss : Chain → ℕ → ℕ → ℕ → Type 0
FirstLoss c T t q = (0 < (rec_run_answer c T).losses.count) × (get_or (rec_run_answer c T).losses.entries 0 zero_loss ≡ record { tick = t; queue = q; tokens = p_of c q })

-- x is an outcome of a deadline run, with the state that it leaves
pub record AsRule (c : Chain) (T : ℕ) (x : Ticked) : Type 0 where
  -- where that ends clean, or with 13, so does the recording run, with the same state and no entry
  pub cleans : Cleanly x.outcome → RecCleanly (rec_run_answer c T).outcome × (((rec_run_answer c T).run ≡ x.run) × ((rec_run_answer c T).losses ≡ zero_losses))
  pub undates : (t i : ℕ) → UndatedAt x.outcome t i
      → RecUndatedAt (rec_run_answer c T).outcome t i × (((rec_run_answer c T).run ≡ x.run) × ((rec_run_answer c T).losses ≡ zero_losses))
  -- where it overflows at t and queue q, the first entry is that loss, unless it is the source's and 13 at t takes it back
  pub loses : (t q : ℕ) → OverflowedAt x.outcome t q → ((q ≡ 0) × TakenAt c T t x) ⊎ FirstLoss c T t q
  -- and where the recording run ends clean with no entry it is this run
  pub same : RecCleanly (rec_run_answer c T).outcome → (rec_run_answer c T).losses.count ≡ 0 → x ≡ clean (rec_run_answer c T).run

module _ (c : Chain) (T : ℕ) (ran : RecRuns c T) where
  a : Accepted c
  a = (rec_run_may c T ran).0

  -- "deadline run" by its definition, whatever the capacities
  pub beside_rule : AsRule c T (instants c T (fresh_run c))
  beside_rule = record {
    cleans = λ z.
        let e = answered c T ran ∙ ap rec_ran_as (rec_run_clean a T ((cleanly_is _).0 z)) in
        ((rec_cleanly_is _).1 (ap (λ (x : RecordAnswer). x.outcome) e), (ap (λ (x : RecordAnswer). x.run) e, ap (λ (x : RecordAnswer). x.losses) e));
    undates = λ t i z.
        let e = answered c T ran ∙ ap rec_ran_as (rec_run_undated a T t i ((undated_is _ t i).0 z)) in
        ((rec_undated_is _ t i).1 (ap (λ (x : RecordAnswer). x.outcome) e), (ap (λ (x : RecordAnswer). x.run) e, ap (λ (x : RecordAnswer). x.losses) e));
    loses = λ t q z. ⊎_elim
        (λ b.
        let e = answered c T ran ∙ ap rec_ran_as b.is in
        inl (
          b.source,
          record {
            node = b.node;
            says = (rec_undated_is _ t b.node).1 (ap (λ (x : RecordAnswer). x.outcome) e);
            state = ap (λ (x : RecordAnswer). x.run) e;
            list = ap (λ (x : RecordAnswer). x.losses) e;
          },
        ))
        (λ b. inr (rw (answered c T ran) b.more, rw (answered c T ran) b.entry))
        (rec_run_loses a T t q ((overflowed_is _ t q).0 z));
    same = λ z none.
        rec_run_nothing_lost a T (ap (λ (x : RecordAnswer). x.outcome) (sym (answered c T ran)) ∙ (rec_cleanly_is _).0 z)
        (ap (λ (x : RecordAnswer). x.losses.count) (sym (answered c T ran)) ∙ none)
        ∙ ap (λ (x : RecordAnswer). clean x.run) (sym (answered c T ran));
  }

  -- and by its call
  pub beside_deadline : DeadlineRuns c T → AsRule c T (left (deadline_run_answer c T))
  beside_deadline runs = subst (λ (x : TickAnswer). AsRule c T (left x)) (sym (answer_is c T runs)) beside_rule
