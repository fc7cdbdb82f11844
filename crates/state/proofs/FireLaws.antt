-- Laws of specs/Fire.antt that rest on a definition which an edit of must-fail/ changes.
-- Manual firing (01, Firing), and what a call that gives a state answers.
--   node_lent                  which look at counts and contents alone
--   fresh_parts                a fresh start has number and place of the analysis, and an empty state either way
--   fire_parts                 the checks of the analysis, then 17, then 9, 11 and 12
--   fire_earlier               2, 4, 5, 6 and 7 are said exactly when the analysis says them
--   fire_17, fire_9, fire_11, fire_12
--                              when a firing is refused with each number of its own
--   fire_accepts               it is not refused exactly when the chain is accepted, the state passes 17 and the firing may be
--   Firing c s i, firing_is    the same as a record, which the code of a manual firing asks
--   fine_firing                and so is one of which the checks say nothing
--   fire_accepted, fire_refused
--                              the state that it gives back
--   firing                     what the check proves the code of a firing by
use Rattle.std.proofs.Math.Logic.Iff
use Rattle.std.specs.Prelude.{◌≡◌, ◌↔◌, ◌≢◌, ◌⊎◌, [], ◌∷◌, ◌++◌, ℕ, zero, suc, ◌+◌, ◌≤◌, ◌<◌, get_or, take}
use Rattle.std.proofs.Math.Path.{refl}
use Rattle.std.proofs.Common.{sym, ap, ◌∙◌, eq-eqb, ne_eqb}
use Rattle.std.proofs.Math.Logic.{by_cases}
use Rattle.std.proofs.Math.Decide.{ℕ_discrete}
use native.Mathlib.Omega.{arith}
use Rattle.chain.specs.Refusals.{refused, fine, first, or_else, first_append, Silent, Silents, or_silents, silent_as, first_silent, Numbered, said_earlier, numbered_append}
use Rattle.chain.proofs.RefusalsLaws.{exact_at}
use Rattle.chain.specs.Record.{row_of}
use Rattle.chain.specs.declared.Chain.{Chain}
use Rattle.sizing.specs.Sizes.{capacity_of}
use Rattle.sizing.specs.Sizes.{sized}
use Rattle.sizing.specs.Checks.{limit, analyse_checks, analyse_refusal, analyse_answer, analyse_numbers}
use Rattle.sizing.proofs.ChecksLaws.{analyse_numbered}
use Rattle.sizing.specs.Accepted.{Accepted}
use Rattle.sizing.proofs.AcceptedLaws.{analyse_accepts}
use Rattle.state.specs.State.{empty_run, fresh_empty, count_at, held_at, answered, answered_error, answered_ok, refused_with}
use Rattle.state.specs.Fired.{fired, Over, May}
use Rattle.state.proofs.ChecksLaws as own_laws
use Rattle.state.specs.Checks.{planned_sized, state_check, lent_run, count_check, over_check, cramped, FirstBroken, StateSound}
use Rattle.state.proofs.ChecksLaws.{state_exact}
use Rattle.state.proofs.ChecksLaws.{over_exact, room_exact, state_silent, over_silent, room_silent, state_only, over_only, room_only}
use Rattle.state.specs.declared.Run.{Run}
use Rattle.state.specs.Fire.{fresh_answer, fresh_state, fresh_refused, node_checks, fire_checks, fire_refusal, fire_answer, Firing, node_numbers, fire_numbers}

-- they look at counts and contents alone
pub node_lent : (c : Chain) (s : Run) (i : ℕ) → first (node_checks c (lent_run s.counts s.held []) i) ≡ first (node_checks c s i)
unfolding first cramped
node_lent c s zero = refl
node_lent c s (suc i) = refl

-- a fresh start has number and place of the analysis, and an empty state either way
pub fresh_parts : (c : Chain) → fresh_answer c ≡ refused_with (analyse_answer c).number (analyse_answer c).place empty_run
unfolding fresh_answer answered analyse_answer sized
fresh_parts c = by_cases (ℕ_discrete (analyse_refusal c).number 0)
    (λ z. ap (refused_with (analyse_refusal c).number (analyse_refusal c).place) (fresh_state c z ∙ sym (fresh_empty c)))
    (λ n. ap (refused_with (analyse_refusal c).number (analyse_refusal c).place) (fresh_refused c n))

module _ (c : Chain) (s : Run) (i : ℕ) where
  pub fire_parts : fire_refusal c s i ≡ or_else (analyse_refusal c) (or_else (state_check c s) (first (node_checks c s i)))
  unfolding fire_refusal analyse_refusal first
  fire_parts = first_append (analyse_checks c) (state_check c s ∷ node_checks c s i)

module _ (c : Chain) (s : Run) (i : ℕ) where
  node_numbered : Numbered node_numbers (state_check c s ∷ node_checks c s i)
  unfolding Numbered
  node_numbered = (state_only c s, (own_laws.count_only c s i, (over_only c s i, (room_only c s i, tt))))

  pub fire_numbered : Numbered fire_numbers (fire_checks c s i)
  fire_numbered = numbered_append analyse_numbers node_numbers (analyse_checks c) (state_check c s ∷ node_checks c s i) (analyse_numbered c) node_numbered

-- a firing is refused with a number exactly when no earlier check speaks and the number's own condition holds
module _ (c : Chain) (s : Run) (i L : ℕ) where
  fire_at : (k : ℕ) → k < 9 → (fire_refusal c s i ≡ refused (get_or fire_numbers k 0) L)
      ↔ (Silents (take k (fire_checks c s i)) × (get_or (fire_checks c s i) k fine ≡ refused (get_or fire_numbers k 0) L))
  unfolding fire_refusal
  fire_at k l = exact_at fire_numbers (fire_checks c s i) (fire_numbered c s i) tt k L l

  pub fire_17 : (fire_refusal c s i ≡ refused 17 L) ↔ (Silents (analyse_checks c) × FirstBroken c s L)
  fire_17 = Iff.trans (fire_at 5 (omega arith)) (Iff.and Iff.rfl (state_exact c s L))

  pub fire_9 : (fire_refusal c s i ≡ refused 9 L) ↔ (Silents (analyse_checks c ++ (state_check c s ∷ [])) × (((i ≤ c.n) × (count_at s i ≡ limit)) × (L ≡ i)))
  fire_9 = Iff.trans (fire_at 6 (omega arith)) (Iff.and Iff.rfl (own_laws.count_exact c s i L))

  pub fire_11 : (fire_refusal c s i ≡ refused 11 L) ↔ (Silents (analyse_checks c ++ (state_check c s ∷ count_check c s i ∷ [])) × (((c.n < i) ⊎ (Over c s i → ⊥)) × (L ≡ i)))
  fire_11 = Iff.trans (fire_at 7 (omega arith)) (Iff.and Iff.rfl (over_exact c s i L))

  pub fire_12 : (fire_refusal c s i ≡ refused 12 L) ↔ (Silents (analyse_checks c ++ (state_check c s ∷ count_check c s i ∷ over_check c s i ∷ []))
      × (((i < c.n) × (capacity_of (row_of c i) < held_at s i + (row_of c i).produce)) × (L ≡ i)))
  fire_12 = Iff.trans (fire_at 8 (omega arith)) (Iff.and Iff.rfl (room_exact c s i L))

  -- what the analysis says stands, and nothing else has its numbers
  pub fire_earlier : (N : ℕ) → N ≢ 0 → N < 9 → (fire_refusal c s i ≡ refused N L) ↔ (analyse_refusal c ≡ refused N L)
  unfolding fire_refusal analyse_refusal
  fire_earlier N some low =
      said_earlier N L some (analyse_checks c) node_numbers (state_check c s ∷ node_checks c s i) (node_numbered c s i)
      (λ e. omega arith, (λ e. omega arith, (λ e. omega arith, (λ e. omega arith, tt))))

module _ (c : Chain) (s : Run) (i : ℕ) where
  -- a firing is not refused exactly when the chain is accepted, the state passes 17, and the firing is one that may be
  pub fire_accepts : Silent (fire_refusal c s i) ↔ (Accepted c × (StateSound c s × May c s i))
  unfolding Silents
  fire_accepts =
      Iff.trans (silent_as (fire_parts c s i), silent_as (sym (fire_parts c s i)))
      (Iff.trans (or_silents _ _) (Iff.and (analyse_accepts c) (Iff.trans (or_silents _ _) (Iff.and (state_silent c s) (Iff.trans (first_silent (node_checks c s i)) (out, back))))))
    where
      out : Silents (node_checks c s i) → May c s i
      out h =
          let o = (over_silent c s i).0 h.1.0 in
          record { node = o.0; countable = (own_laws.count_silent c s i o.0).0 h.0; over = o.1; room = (room_silent c s i).0 h.1.1.0 }

      back : May c s i → Silents (node_checks c s i)
      back m = ((own_laws.count_silent c s i m.node).1 m.countable, ((over_silent c s i).1 (m.node, m.over), ((room_silent c s i).1 m.room, tt)))

  pub firing_is : Silent (fire_refusal c s i) ↔ Firing c s i
  firing_is = Iff.trans fire_accepts (λ h. record { chain = h.0; state = h.1.0; may = h.1.1 }, λ f. (f.chain, (f.state, f.may)))

  pub fine_firing : fire_refusal c s i ≡ fine → Firing c s i
  fine_firing e = firing_is.0 (silent_as (sym e) refl)

  -- what a firing gives back: the state after it, or the state as it was
  pub fire_accepted : Silent (fire_refusal c s i) → (fire_answer c s i).run ≡ fired c s i
  unfolding fire_answer answered
  fire_accepted z = simp (eq-eqb _ _ z)

  pub fire_refused : (Silent (fire_refusal c s i) → ⊥) → (fire_answer c s i).run ≡ s
  unfolding fire_answer answered
  fire_refused n = simp (ne_eqb _ _ n)

-- by these the check proves the code of a firing
pub ruleset firing = (fire_parts, fine_firing, answered_error, answered_ok, planned_sized)
