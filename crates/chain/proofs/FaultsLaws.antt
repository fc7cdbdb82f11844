-- Laws of specs/Faults.antt that rest on a definition which an edit of must-fail/ changes.
-- Rows that the checks 4 and 5 pass.
--   fine_row_law                    the one test of a queue row and its node row holds exactly where both are sound
--   gather_fine                     a row that it passes changes nothing in what is refused of the rows before it
--   rows_apart                      4 and 5 of a chain are those of its period, of its queue rows, of its node rows and of their order
--   fine_rows                       of a chain whose rows are all fine 4 of the period is left
use Rattle.std.proofs.Math.Logic.Iff
use Rattle.std.specs.Prelude.{◌<◌, ◌≡◌, true, ◌↔◌, List, [], ◌∷◌, map, ℕ, ◌+◌, ◌*◌}
use Rattle.std.proofs.Common.{ap, sym, ◌∙◌, arith}
use Rattle.words.specs.Table.{tab}
use Rattle.words.specs.declared.Queue.{Queue}
use Rattle.chain.specs.Tests.{outside, In, outside_false, below_false, upto_true, equal_true, and_true}
use Rattle.chain.specs.Refusals.{test, test_alone, fine, Silent, first_fine, first_append, all_silent, first, or_else, first_last}
use Rattle.chain.specs.Record.{row_of, work_of}
use Rattle.chain.specs.Checks.{field_silent, ticks, out_of_range, row_fields, overdrawn, range_check, order_check}
use Rattle.chain.specs.Refusal.{Refusal}
use Rattle.chain.specs.Sound.{row_range, node_range, SoundRow}
use Rattle.chain.proofs.SoundLaws.{range_parts, row_sound}
use Rattle.chain.specs.declared.Chain.{Chain}
use Rattle.chain.specs.Faults.{fine_row, AllFine}

pub fine_row_law : (q : Queue) (e : ℕ) → (fine_row q e ≡ true) ↔ (SoundRow q × In 1 1000000 e)
fine_row_law q e = Iff.trans
    (and_true (and_true (and_true (and_true (and_true (and_true (and_true (and_true (upto_true _ _) (upto_true _ _)) (upto_true _ _)) (upto_true _ _)) (upto_true _ _))
    (upto_true _ _)) (equal_true _ _)) (upto_true _ _)) (upto_true _ _)) (
      λ (((((((p, t), c), o), b), r), k), k'). (record { produce = p; threshold = (omega arith, t); consume = (c, omega arith); capacity = b; reserved = r; order = o }, (k, k')),
      λ (s, k). (((((((s.produce, s.threshold.1), s.consume.0), s.order), s.capacity), s.reserved), k.0), k.1),
    )

-- a row that the test passes changes no fault: what is refused of any rows before it, of their fields, of their execution times and of
-- their order, is refused with it too, wherever its parts stand
pub gather_fine : (r : Queue) (v : ℕ) → fine_row r v ≡ true → (at to : ℕ) (rows nodes order : List Refusal)
    → (first rows ≡ or_else (first rows) (row_range r at))
    × ((first nodes ≡ or_else (first nodes) (node_range v to)) × (first order ≡ or_else (first order) (overdrawn r at)))
unfolding row_range
gather_fine r v t at to rows nodes order =
    let fit = (fine_row_law r v).0 t in
    (same rows (first_fine (map out_of_range (row_fields r at)) ((row_sound r at).1 fit.0).0), (same nodes (ap (test 4 to) ((outside_false 1 1000000 v).1 fit.1)), same order (ap (test 5 (at + 8)) ((below_false _ _).1 fit.0.order))))
  where
    same : {s : Refusal} (rs : List Refusal) → s ≡ fine → first rs ≡ or_else (first rs) s
    same rs h = sym (first_last rs) ∙ ap (or_else (first rs)) (sym h)

module _ (c : Chain) (q w : ℕ) where
  -- 4 of each queue row and of each node row, and 5 of each queue row
  abbrev pub queue_checks : ℕ → Refusal
  queue_checks i = row_range (row_of c i) (q + 20 * i)

  abbrev pub node_checks : ℕ → Refusal
  node_checks i = node_range (work_of c i) (w + 4 * i)

  abbrev pub order_checks : ℕ → Refusal
  order_checks i = overdrawn (row_of c i) (q + 20 * i)

  -- 4 and 5 of the chain: of its period, of its queue rows, of its node rows, and of their order
  pub rows_apart : first (range_check c q w ∷ order_check c q ∷ [])
      ≡ first (out_of_range (ticks 4 c.period) ∷ first (tab c.n queue_checks) ∷ first (tab c.n node_checks) ∷ order_check c q ∷ [])
  unfolding first
  rows_apart =
      let period = out_of_range (ticks 4 c.period) in
      let queues = first (tab c.n queue_checks) in
      let nodes = first (tab c.n node_checks) in
      let behind : Refusal → Refusal = λ r. or_else r (or_else (order_check c q) fine) in
      ap behind (range_parts c q w ∙ ap (λ (r : Refusal). or_else period (or_else queues r)) (sym (first_last (tab c.n node_checks))))
      ∙ sym (first_append (period ∷ queues ∷ nodes ∷ []) (order_check c q ∷ []))

  -- of a chain whose rows are all fine 4 of the period is left
  pub fine_rows : AllFine (row_of c) (work_of c) c.n → out_of_range (ticks 4 c.period) ≡ first (range_check c q w ∷ order_check c q ∷ [])
  unfolding first order_check
  fine_rows h = sym (rows_apart ∙ rw (queues, nodes, order) (sym (test_alone 4 4 (λ z. omega arith) (outside 1 1000000 c.period))))
    where
      fits : (j : ℕ) → j < c.n → SoundRow (row_of c j) × In 1 1000000 (work_of c j)
      fits j l = (fine_row_law (row_of c j) (work_of c j)).0 (h j l)

      none : (g : ℕ → Refusal) → ((j : ℕ) → j < c.n → Silent (g j)) → first (tab c.n g) ≡ fine
      none g s = first_fine (tab c.n g) ((all_silent g c.n).1 s)

      queues : first (tab c.n queue_checks) ≡ fine
      queues = none queue_checks (λ j l. ((row_sound (row_of c j) (q + 20 * j)).1 (fits j l).0).0)

      nodes : first (tab c.n node_checks) ≡ fine
      nodes = none node_checks (λ j l. (field_silent (ticks (w + 4 * j) (work_of c j))).1 (fits j l).1)

      order : first (tab c.n order_checks) ≡ fine
      order = none order_checks (λ j l. ((row_sound (row_of c j) (q + 20 * j)).1 (fits j l).0).1)
