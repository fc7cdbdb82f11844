-- A chain handed in as a record, refused 2, 4 or 5, by its numbers and the byte offsets of its packed file: of the words by which these checks are defined none
-- stands in what is said of the calls.
--   c, q, w, L, M            a chain, the byte offsets of its queue table and of its node table, byte offsets
--   row_of c i, work_of c i   slot i of the record's queues, and of its execution times (InSlots)
--   WrongCount n, RightCount n
--                            n is 0 or above 16, and 1 to 16
--   OutInRow r at L          the word at L of the row r, which stands at `at`, is out of its range
--   PeriodOut c, OutInQueues c q L, OutInNodes c w L
--                            the period is out of its range; so is the word at L of the queue table, of the node table
--   OutAt c q w L            so is the word at L of any of the three
--   LowestOf P L             L has P, and no place before it has (Order)
--   FirstOutAt c q w L       L is the first such word: the period, then the lowest of the queue table, then the lowest of the node table
--   FirstAbove c q L         L is where the c of the first row stands whose c is above its τ
--   Fine c q w               no word is out of its range, and no c is above its τ
--   range_first, _silent, order_first, fine_is
--                            what the checks 4 and 5 say, the tables standing anywhere, and which chain is sound, in these words; the calls below and FileInBytes cite them
--   GoodRecord c, good_is    so is a record whose tables stand as in its packed file
--   RecordChecked c N P      a call that answers number N and place P says 2, 4 and 5 exactly so; record_passes: and none of them exactly where all is fine
--   analyse-, write_record   the analysis and the writer do; write_room: and 10 of the writer. checked_as: so does every call that answers these numbers where one of them does
--                            (RatesInNumbers and PlacesInNumbers: -begins, -record)
use Rattle.std.proofs.Math.Logic.Iff
use Rattle.std.specs.Prelude.{◌≡◌, refl, ◌↔◌, ◌≢◌, ◌⊎◌, List, [], ◌∷◌, length, get_or}
use Rattle.std.proofs.Common.{inl, inr, ⊎_elim, add-zero, arith}
use Rattle.std.proofs.Math.Logic.{by_cases}
use Prim.Native.Nat.{ℕ, zero, suc, ◌+◌, ◌*◌, ◌≤◌, ◌<◌}
use Rattle.std.proofs.Math.Decide.{ℕ_discrete}
use Rattle.ardenquill.specs.Chains.{Out, In, outside_true, outside_false, sum_iff, refused, or_else, first, Silent, Silents, or_says, or_silents}
use Rattle.ardenquill.specs.Chains.{all_silent, test_exact, test_silent, tab, row, row_of, work_of, Field, field, ticks, row_fields, FieldOut, FirstOut}
use Rattle.ardenquill.specs.Chains.{FirstOver, fields, out_of_range, overdrawn, count_check, range_check, order_check, record_range, row_range, node_range}
use Rattle.ardenquill.specs.Chains.{range_parts, count_silent, row_silent, range_exact, order_exact, range_only, order_only, Sound, sound_is}
use Rattle.ardenquill.specs.Files.{packed, write_refusal, Output, write_2, write_4, write_5, write_10}
use Rattle.ardenquill.specs.Analyses.{sized, analyse_refusal, analyse_answer, analyse_2, analyse_4, analyse_5}
use Rattle.ardenquill.specs.Records.{Refusal, Queue, Chain, LengthAnswer}
use Rattle.promises.specs.Order.{LowestOf, said}
use Rattle.promises.specs.LowestPlace.{Finds, Among, finds_as, finds_then, finds_all}

-- 2, "n is 0 or above 16", and what it lets pass
abbrev pub WrongCount : ℕ → Type 0
WrongCount n = (n ≡ 0) ⊎ (16 < n)

abbrev pub RightCount : ℕ → Type 0
RightCount n = (1 ≤ n) × (n ≤ 16)

-- "p, τ, c 1 to 65,535; .. B 0 to 1,000,000 ..; reserved 0", in the order of the row's words, four bytes apart
pub data OutInRow (r : Queue) (at L : ℕ) : Type 0 where
  produce_out : L ≡ at → (r.produce < 1) ⊎ (65535 < r.produce) → OutInRow r at L
  threshold_out : L ≡ at + 4 → (r.threshold < 1) ⊎ (65535 < r.threshold) → OutInRow r at L
  consume_out : L ≡ at + 8 → (r.consume < 1) ⊎ (65535 < r.consume) → OutInRow r at L
  capacity_out : L ≡ at + 12 → 1000000 < r.capacity → OutInRow r at L
  reserved_out : L ≡ at + 16 → r.reserved ≢ 0 → OutInRow r at L

-- "y .. 1 to 1,000,000"
abbrev pub PeriodOut : Chain → Type 0
PeriodOut c = (c.period < 1) ⊎ (1000000 < c.period)

-- row i of the queue table stands at q + 20 i
pub record OutInQueues (c : Chain) (q L : ℕ) : Type 0 where
  pub row : ℕ
  pub inside : row < c.n
  pub out : OutInRow (row_of c row) (q + 20 * row) L

-- word i of the node table stands at w + 4 i; "e 1 to 1,000,000"
pub record OutInNodes (c : Chain) (w L : ℕ) : Type 0 where
  pub row : ℕ
  pub inside : row < c.n
  pub place : L ≡ w + 4 * row
  pub out : (work_of c row < 1) ⊎ (1000000 < work_of c row)

-- "a field out of range": the period stands at 4
pub data OutAt (c : Chain) (q w L : ℕ) : Type 0 where
  period_out : L ≡ 4 → PeriodOut c → OutAt c q w L
  queues_out : OutInQueues c q L → OutAt c q w L
  nodes_out : OutInNodes c w L → OutAt c q w L

-- "y, then queue rows in order and field order, then node rows"
pub data FirstOutAt (c : Chain) (q w L : ℕ) : Type 0 where
  period_first : L ≡ 4 → PeriodOut c → FirstOutAt c q w L
  queues_first : (PeriodOut c → ⊥) → LowestOf (OutInQueues c q) L → FirstOutAt c q w L
  nodes_first : (PeriodOut c → ⊥) → ((M : ℕ) → OutInQueues c q M → ⊥) → LowestOf (OutInNodes c w) L → FirstOutAt c q w L

-- "c above τ, first such row", place the "byte offset of c"
pub record FirstAbove (c : Chain) (q L : ℕ) : Type 0 where
  pub row : ℕ
  pub inside : row < c.n
  pub place : L ≡ q + 20 * row + 8
  pub above : (row_of c row).threshold < (row_of c row).consume
  pub before : (j : ℕ) → j < row → (row_of c j).consume ≤ (row_of c j).threshold

-- what 4 and 5 let pass
pub record Fine (c : Chain) (q w : ℕ) : Type 0 where
  pub ranges : (L : ℕ) → OutAt c q w L → ⊥
  pub order : (i : ℕ) → i < c.n → (row_of c i).consume ≤ (row_of c i).threshold

-- a record that 2, 4 and 5 have no reason to refuse
abbrev pub GoodRecord : Chain → Type 0
GoodRecord c = RightCount c.n × Fine c 20 (20 + 20 * c.n)

-- "A chain handed in as a record passes checks 2, 4, 5 again, with places as in its packed file": of a call that answers N and P, 4 is at the lowest byte offset of a
-- word out of its range, and 5 at the first row's
pub record RecordChecked (c : Chain) (N P : ℕ) : Type 0 where
  pub two : (L : ℕ) → ((N ≡ 2) × (P ≡ L)) ↔ (WrongCount c.n × (L ≡ 0))
  pub four : (L : ℕ) → ((N ≡ 4) × (P ≡ L)) ↔ (RightCount c.n × LowestOf (OutAt c 20 (20 + 20 * c.n)) L)
  pub five : (L : ℕ) → ((N ≡ 5) × (P ≡ L)) ↔ (RightCount c.n × (((M : ℕ) → OutAt c 20 (20 + 20 * c.n) M → ⊥) × FirstAbove c 20 L))

-- 4 is a number of a refusal
four : ◌≢◌ {A = ℕ} 4 0
four e = omega arith

-- 4 of one field
field_finds : (p least most v : ℕ) → Finds (out_of_range (field p least most v)) 4 (λ L. (L ≡ p) × Out least most v)
field_finds p least most v = record {
  says = λ L. Iff.trans (test_exact 4 L p four _) (
    λ h. record { has = (h.1, (outside_true least most v).0 h.0); before = λ M l k. omega (arith, k.0, h.1) },
    λ h. ((outside_true least most v).1 h.has.1, h.has.0),
  );
  silent = Iff.trans (test_silent 4 p four _) (Iff.trans (outside_false least most v) (λ i M k. ⊎_elim (λ l. omega (arith, i)) (λ l. omega (arith, i)) k.1, back));
}
  where
    back : ((M : ℕ) → (M ≡ p) × Out least most v → ⊥) → In least most v
    back n =
        let low : v < least → ⊥ = λ l. n p (refl, inl l) in
        let high : most < v → ⊥ = λ l. n p (refl, inr l) in
        (omega (arith, low), omega (arith, high))

-- field k of a row
row_field : Queue → ℕ → ℕ → Field
row_field r at k = field (at + 4 * k) (get_or (1 ∷ 1 ∷ 1 ∷ 0 ∷ 0 ∷ []) k 0) (get_or (65535 ∷ 65535 ∷ 65535 ∷ 1000000 ∷ 0 ∷ []) k 0) (get_or (row r) k 0)

-- 4 of a row is 4 of these
row_tests : (r : Queue) (at : ℕ) → row_range r at ≡ first (tab 5 (λ k. out_of_range (row_field r at k)))
unfolding row_range row_fields first tab row_field
row_tests r at = rw (add-zero at)

-- 4 of one row
row_finds : (r : Queue) (at : ℕ) → Finds (row_range r at) 4 (OutInRow r at)
unfolding row_field
row_finds r at = rw (row_tests r at)
    (finds_as (λ L. (out L, back L)) (finds_all 4 four (λ k. out_of_range (row_field r at k)) Wrong (λ i j M K l a b. omega (arith, a.0, b.0)) (λ k. field_finds (at + 4 * k) _ _ _) 5))
  where
    Wrong : ℕ → ℕ → Type 0
    Wrong k L = (L ≡ at + 4 * k) × FieldOut (row_field r at k)

    at_word : (k L : ℕ) → k < 5 → Wrong k L → OutInRow r at L
    at_word zero L l h = produce_out (omega (arith, h.0)) h.1
    at_word (suc zero) L l h = threshold_out h.0 h.1
    at_word (suc (suc zero)) L l h = consume_out h.0 h.1
    at_word (suc (suc (suc zero))) L l h = capacity_out h.0 (⊎_elim (λ z. absurd (omega arith)) (λ z. z) h.1)
    at_word (suc (suc (suc (suc zero)))) L l h = reserved_out h.0 (λ e. ⊎_elim (λ z. omega arith) (λ z. omega arith) h.1)
    at_word (suc (suc (suc (suc (suc k))))) L l h = absurd (omega arith)

    out : (L : ℕ) → Among 5 Wrong L → OutInRow r at L
    out L a = at_word a.at L a.inside a.is

    back : (L : ℕ) → OutInRow r at L → Among 5 Wrong L
    back L (produce_out e h) = record { at = 0; inside = omega arith; is = (omega arith, h) }
    back L (threshold_out e h) = record { at = 1; inside = omega arith; is = (e, h) }
    back L (consume_out e h) = record { at = 2; inside = omega arith; is = (e, h) }
    back L (capacity_out e h) = record { at = 3; inside = omega arith; is = (e, inr h) }
    back L (reserved_out e h) = record { at = 4; inside = omega arith; is = (e, inr (omega arith)) }

-- a word of a row stands within its 20 bytes
row_within : (r : Queue) (at L : ℕ) → OutInRow r at L → (at ≤ L) × (L < at + 20)
row_within r at L (produce_out e h) = (omega arith, omega arith)
row_within r at L (threshold_out e h) = (omega arith, omega arith)
row_within r at L (consume_out e h) = (omega arith, omega arith)
row_within r at L (capacity_out e h) = (omega arith, omega arith)
row_within r at L (reserved_out e h) = (omega arith, omega arith)

module _ (c : Chain) (q w : ℕ) where
  -- 4 of the first of three parts, the period
  period_check : Refusal
  period_check = out_of_range (ticks 4 c.period)

  -- of the queue table, row by row
  queues_check : Refusal
  queues_check = first (tab c.n (λ i. row_range (row_of c i) (q + 20 * i)))

  -- of the node table, word by word
  nodes_check : Refusal
  nodes_check = first (tab c.n (λ i. node_range (work_of c i) (w + 4 * i)))

  -- each says the lowest of its words that is out of its range
  period_finds : Finds period_check 4 (λ M. (M ≡ 4) × PeriodOut c)
  unfolding period_check
  period_finds = field_finds 4 1 1000000 c.period

  -- the queue table's stand row behind row
  queues_finds : Finds queues_check 4 (OutInQueues c q)
  unfolding queues_check
  queues_finds = finds_as (λ L. (λ a. record { row = a.at; inside = a.inside; out = a.is }, λ o. record { at = o.row; inside = o.inside; is = o.out }))
      (finds_all 4 four _ (λ i. OutInRow (row_of c i) (q + 20 * i)) rises (λ i. row_finds (row_of c i) (q + 20 * i)) c.n)
    where
      rises : (i j M K : ℕ) → i < j → OutInRow (row_of c i) (q + 20 * i) M → OutInRow (row_of c j) (q + 20 * j) K → M < K
      rises i j M K l a b = omega (arith, row_within (row_of c i) (q + 20 * i) M a, row_within (row_of c j) (q + 20 * j) K b)

  -- the node table's stand word behind word
  nodes_finds : Finds nodes_check 4 (OutInNodes c w)
  unfolding nodes_check
  nodes_finds = finds_as (λ L. (λ a. record { row = a.at; inside = a.inside; place = a.is.0; out = a.is.1 }, λ o. record { at = o.row; inside = o.inside; is = (o.place, o.out) }))
      (finds_all 4 four _ (λ i L. (L ≡ w + 4 * i) × Out 1 1000000 (work_of c i)) (λ i j M K l a b. omega (arith, a.0, b.0)) (λ i. field_finds (w + 4 * i) 1 1000000 (work_of c i)) c.n)

  -- the first of the three that speaks
  parts_are : range_check c q w ≡ or_else period_check (or_else queues_check nodes_check)
  unfolding period_check queues_check nodes_check
  parts_are = range_parts c q w

  -- 4, the tables standing anywhere, says the first word out of its range
  pub range_first : (L : ℕ) → (range_check c q w ≡ refused 4 L) ↔ FirstOutAt c q w L
  range_first L = rw parts_are (Iff.trans (or_says 4 L four period_check (or_else queues_check nodes_check))
      (Iff.trans (sum_iff Iff.rfl (Iff.and Iff.rfl (or_says 4 L four queues_check nodes_check))) (out, back)))
    where
      in_range : Silent period_check → PeriodOut c → ⊥
      in_range z p = period_finds.silent.0 z 4 (refl, p)

      quiet : (PeriodOut c → ⊥) → Silent period_check
      quiet n = period_finds.silent.1 (λ M p. n p.1)

      out : (period_check ≡ refused 4 L) ⊎ (Silent period_check × ((queues_check ≡ refused 4 L) ⊎ (Silent queues_check × (nodes_check ≡ refused 4 L)))) → FirstOutAt c q w L
      out = ⊎_elim (λ e. let p = ((period_finds.says L).0 e).has in period_first p.0 p.1) (λ h. ⊎_elim
          (λ e. queues_first (in_range h.0) ((queues_finds.says L).0 e))
          (λ e. nodes_first (in_range h.0) (queues_finds.silent.0 e.0) ((nodes_finds.says L).0 e.1))
          h.1)

      back : FirstOutAt c q w L → (period_check ≡ refused 4 L) ⊎ (Silent period_check × ((queues_check ≡ refused 4 L) ⊎ (Silent queues_check × (nodes_check ≡ refused 4 L))))
      back (period_first e p) = inl ((period_finds.says L).1 (record { has = (e, p); before = λ M l k. omega (arith, k.0) }))
      back (queues_first n h) = inr (quiet n, inl ((queues_finds.says L).1 h))
      back (nodes_first n m h) = inr (quiet n, inr (queues_finds.silent.1 m, (nodes_finds.says L).1 h))

  -- and is silent exactly where there is none
  pub range_silent : Silent (range_check c q w) ↔ ((L : ℕ) → OutAt c q w L → ⊥)
  range_silent = rw parts_are (Iff.trans (or_silents period_check (or_else queues_check nodes_check)) (Iff.trans (Iff.and Iff.rfl (or_silents queues_check nodes_check)) (out, back)))
    where
      out : Silent period_check × (Silent queues_check × Silent nodes_check) → (L : ℕ) → OutAt c q w L → ⊥
      out h L (period_out e p) = period_finds.silent.0 h.0 L (e, p)
      out h L (queues_out o) = queues_finds.silent.0 h.1.0 L o
      out h L (nodes_out o) = nodes_finds.silent.0 h.1.1 L o

      back : ((L : ℕ) → OutAt c q w L → ⊥) → Silent period_check × (Silent queues_check × Silent nodes_check)
      back n = (period_finds.silent.1 (λ M p. n M (period_out p.0 p.1)), (queues_finds.silent.1 (λ M o. n M (queues_out o)), nodes_finds.silent.1 (λ M o. n M (nodes_out o))))

-- two ways to say the first row whose c is above its τ
above_is : (c : Chain) (q L : ℕ) → FirstOver c q L ↔ FirstAbove c q L
above_is c q L = (
  λ f. record { row = f.row; inside = f.inside; place = f.place; above = f.over; before = f.before },
  λ f. record { row = f.row; inside = f.inside; over = f.above; place = f.place; before = f.before },
)

-- 5, the queue table standing anywhere, says the first such row
pub order_first : (c : Chain) (q L : ℕ) → (order_check c q ≡ refused 5 L) ↔ FirstAbove c q L
order_first c q L = Iff.trans (order_exact L c q) (above_is c q L)

-- and is silent exactly where there is none
order_silent : (c : Chain) (q : ℕ) → Silent (order_check c q) ↔ ((i : ℕ) → i < c.n → (row_of c i).consume ≤ (row_of c i).threshold)
unfolding order_check
order_silent c q = Iff.trans (all_silent (λ i. overdrawn (row_of c i) (q + 20 * i)) c.n) (
  λ h i l. (row_silent (row_of c i) (q + 20 * i)).0 (h i l),
  λ h i l. (row_silent (row_of c i) (q + 20 * i)).1 (h i l),
)

-- a sound chain, its tables standing anywhere
pub fine_is : (c : Chain) (q w : ℕ) → Sound c ↔ (RightCount c.n × Fine c q w)
unfolding Silents
fine_is c q w = Iff.trans (Iff.symm (sound_is c q w)) (
  λ h. ((count_silent c.n).0 h.0, record { ranges = (range_silent c q w).0 h.1.0; order = (order_silent c q).0 h.1.1.0 }),
  λ h. ((count_silent c.n).1 h.0, ((range_silent c q w).1 h.1.ranges, ((order_silent c q).1 h.1.order, tt))),
)

-- and so where they stand in its packed file
pub good_is : (c : Chain) → Sound c ↔ GoodRecord c
good_is c = fine_is c 20 (20 + 20 * c.n)

-- where the tables of a packed file stand, 4 says the lowest word out of its range
packed_finds : (c : Chain) → Finds (range_check c 20 (20 + 20 * c.n)) 4 (OutAt c 20 (20 + 20 * c.n))
packed_finds c = rw (parts_are c 20 w)
    (finds_as (λ L. (out L, back L)) (finds_then 4 four first_places (period_finds c 20 w) (finds_then 4 four later_places (queues_finds c 20 w) (nodes_finds c 20 w))))
  where
    w : ℕ
    w = 20 + 20 * c.n

    in_queues : (M : ℕ) → OutInQueues c 20 M → (20 ≤ M) × (M < w)
    in_queues M o = let i = row_within (row_of c o.row) (20 + 20 * o.row) M o.out in (omega (arith, i), omega (arith, i, o.inside))

    later_places : (M K : ℕ) → OutInQueues c 20 M → OutInNodes c w K → M < K
    later_places M K o m = omega (arith, in_queues M o, m.place)

    first_places : (M K : ℕ) → (M ≡ 4) × PeriodOut c → OutInQueues c 20 K ⊎ OutInNodes c w K → M < K
    first_places M K p = ⊎_elim (λ o. omega (arith, p.0, in_queues K o)) (λ m. omega (arith, p.0, m.place))

    out : (L : ℕ) → ((L ≡ 4) × PeriodOut c) ⊎ (OutInQueues c 20 L ⊎ OutInNodes c w L) → OutAt c 20 w L
    out L = ⊎_elim (λ p. period_out p.0 p.1) (⊎_elim (λ o. queues_out o) (λ m. nodes_out m))

    back : (L : ℕ) → OutAt c 20 w L → ((L ≡ 4) × PeriodOut c) ⊎ (OutInQueues c 20 L ⊎ OutInNodes c w L)
    back L (period_out e p) = inl (e, p)
    back L (queues_out o) = inr (inl o)
    back L (nodes_out m) = inr (inr m)

-- "n is 0" for "below 1"
pub count_wrong : (n : ℕ) → Out 1 16 n ↔ WrongCount n
count_wrong n = sum_iff (λ l. omega arith, λ e. omega arith) Iff.rfl

module _ (c : Chain) where
  -- what says 2, 4 and 5 as the record's own checks do
  checked_by : (r : Refusal) → ((L : ℕ) → (r ≡ refused 2 L) ↔ (Out 1 16 c.n × (L ≡ 0)))
      → ((L : ℕ) → (r ≡ refused 4 L) ↔ (Silents (count_check c.n ∷ []) × FirstOut (fields c 20 (20 + 20 * c.n)) L))
      → ((L : ℕ) → (r ≡ refused 5 L) ↔ (Silents (count_check c.n ∷ record_range c ∷ []) × FirstOver c 20 L))
      → RecordChecked c r.number r.place
  unfolding Silents
  checked_by r says-2 says-4 says-5 = record {
    two = λ L. Iff.trans (said r 2 L) (Iff.trans (says-2 L) (Iff.and (count_wrong c.n) Iff.rfl));
    four = λ L. Iff.trans (said r 4 L) (Iff.trans (says-4 L)
        (Iff.and (λ h. (count_silent c.n).0 h.0, λ h. ((count_silent c.n).1 h, tt)) (Iff.trans (Iff.symm (range_exact L c 20 w)) ((packed_finds c).says L))));
    five = λ L. Iff.trans (said r 5 L) (Iff.trans (says-5 L) (
      λ h. ((count_silent c.n).0 h.0.0, ((range_silent c 20 w).0 h.0.1.0, (above_is c 20 L).0 h.1)),
      λ h. (((count_silent c.n).1 h.0, ((range_silent c 20 w).1 h.1.0, tt)), (above_is c 20 L).1 h.1.1),
    ));
  }
    where
      w : ℕ
      w = 20 + 20 * c.n

  -- and a call that answers these numbers, with their places, exactly where such a call does
  pub checked_as : {N P M Q : ℕ} → ((K L : ℕ) → K ≢ 0 → K < 8 → ((M ≡ K) × (Q ≡ L)) ↔ ((N ≡ K) × (P ≡ L))) → RecordChecked c N P → RecordChecked c M Q
  checked_as h k = record {
    two = λ L. Iff.trans (h 2 L (λ e. omega arith) (omega arith)) (k.two L);
    four = λ L. Iff.trans (h 4 L (λ e. omega arith) (omega arith)) (k.four L);
    five = λ L. Iff.trans (h 5 L (λ e. omega arith) (omega arith)) (k.five L);
  }

  -- and such a call says none of the three exactly where the count is right and all is fine
  pub record_passes : {N P : ℕ} → RecordChecked c N P → ((N ≢ 2) × ((N ≢ 4) × (N ≢ 5))) ↔ GoodRecord c
  record_passes {N} {P} k = (λ h. (right h.0, record { ranges = in_range (right h.0) h.1.0; order = in_order h }), back)
    where
      w : ℕ
      w = 20 + 20 * c.n

      right : N ≢ 2 → RightCount c.n
      right n =
          let low : c.n ≡ 0 → ⊥ = λ e. n ((k.two 0).1 (inl e, refl)).0 in
          let high : 16 < c.n → ⊥ = λ l. n ((k.two 0).1 (inr l, refl)).0 in
          (omega (arith, low), omega (arith, high))

      in_range : RightCount c.n → N ≢ 4 → (L : ℕ) → OutAt c 20 w L → ⊥
      in_range count n = by_cases (ℕ_discrete (range_check c 20 w).number 0) (λ z. (range_silent c 20 w).0 z)
          (λ some. absurd (n ((k.four _).1 (count, ((packed_finds c).says _).0 ((said (range_check c 20 w) 4 _).0 (range_only c 20 w some, refl)))).0))

      in_order : (N ≢ 2) × ((N ≢ 4) × (N ≢ 5)) → (i : ℕ) → i < c.n → (row_of c i).consume ≤ (row_of c i).threshold
      in_order h = by_cases (ℕ_discrete (order_check c 20).number 0) (λ z. (order_silent c 20).0 z)
          (λ some. absurd (h.1.1 ((k.five _).1 (right h.0, (in_range (right h.0) h.1.0, (order_first c 20 _).0 ((said (order_check c 20) 5 _).0 (order_only c 20 some, refl))))).0))

      back : RightCount c.n × Fine c 20 w → (N ≢ 2) × ((N ≢ 4) × (N ≢ 5))
      back h = (
        λ e. ⊎_elim (λ z. omega (arith, h.0)) (λ l. omega (arith, h.0)) ((k.two P).0 (e, refl)).0,
        (λ e. h.1.ranges P ((k.four P).0 (e, refl)).1.has, λ e. let a = ((k.five P).0 (e, refl)).1.1 in omega (arith, a.above, h.1.order a.row a.inside)),
      )

  -- "Analysis checks also 6, 7"
  pub analyse_record : RecordChecked c (analyse_answer c).number (analyse_answer c).place
  unfolding analyse_answer sized
  analyse_record = checked_by (analyse_refusal c) (analyse_2 c) (analyse_4 c) (analyse_5 c)

  -- "The writer checks 2, 4, 5, 10"
  pub write_record : (o p : List ℕ) (a : LengthAnswer) → Output (write_refusal c (length o)) (packed c) o p a → RecordChecked c a.number a.place
  write_record o p a v = rw v.answer (checked_by (write_refusal c (length o)) (write_2 c (length o)) (write_4 c (length o)) (write_5 c (length o)))

  -- 10, "lent output shorter than what would be written", place "bytes needed"
  pub write_room : (o p : List ℕ) (a : LengthAnswer) → Output (write_refusal c (length o)) (packed c) o p a
      → (L : ℕ) → ((a.number ≡ 10) × (a.place ≡ L)) ↔ (GoodRecord c × ((length o < 20 + 24 * c.n) × (L ≡ 20 + 24 * c.n)))
  write_room o p a v L = rw v.answer (Iff.trans (said (write_refusal c (length o)) 10 L)
      (Iff.trans (write_10 c (length o) L) (Iff.and (Iff.trans (sound_is c 20 (20 + 20 * c.n)) (good_is c)) Iff.rfl)))
