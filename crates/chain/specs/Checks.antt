-- The checks of a chain's own numbers, 2, 4 and 5, which its file and its record share (01, Numbers a call may refuse with).
--   Field, field, ticks        a word with its range and its place
--   row_fields q at            the five fields of a row that stands at `at`, in field order
--   fields c q w               every field in 01's order; the queue table stands at q, the node table at w
--   count_check n              2: n is 0 or above 16
--   out_of_range f, range_check c q w
--                              4 of one field; and of a chain, the first in that order
--   overdrawn q at, order_check c q
--                              5 of one row, c above τ; and of a chain, the first such row
--   record_range c, record_order c
--                              4 and 5 of a record, with places as in its packed file
--   chain_checks c, chain_refusal c
--                              the checks of a chain handed in as a record, in order, and what it is refused with
--   FieldOut, FieldIn, field_at, FirstOut, FirstOver
--                              01's conditions of 4 and 5, in words
-- What is named here and not declared stands in proofs/ChecksLaws.antt.
use Rattle.std.proofs.Math.Logic.Iff
use Rattle.std.specs.Prelude.{◌≡◌, ◌↔◌, List, [], ◌∷◌, ◌++◌, map, ℕ, ◌+◌, ◌*◌, ◌≤◌, ◌<◌, ltb, length, get_or}
use Rattle.std.proofs.Common.{arith}
use Rattle.words.specs.Flat.{flat}
use Rattle.words.specs.Table.{tab}
use Rattle.words.specs.declared.Queue.{Queue}
use Rattle.chain.specs.Tests.{outside, Out, In, outside_true, outside_false}
use Rattle.chain.specs.Refusals.{refused, test, first, Silent}
use Rattle.chain.specs.Refusals.{test_exact, test_silent}
use Rattle.chain.specs.Record.{row_of, work_of}
use Rattle.chain.specs.Refusal.{Refusal}
use Rattle.chain.specs.declared.Chain.{Chain}

-- a word of the file, with its range and its byte offset
pub record Field : Type 0 where
  pub place : ℕ
  pub least : ℕ
  pub most : ℕ
  pub value : ℕ

abbrev pub field : ℕ → ℕ → ℕ → ℕ → Field
field at least most v = record { place = at; least = least; most = most; value = v }

-- "y and e 1 to 1,000,000"
abbrev pub ticks : ℕ → ℕ → Field
ticks at v = field at 1 1000000 v

-- "p, τ, c 1 to 65,535; .. B 0 to 1,000,000 ..; reserved 0", in the order of the row's words
unfoldable pub row_fields : Queue → ℕ → List Field
row_fields q at =
    field at 1 65535 q.produce
    ∷ field (at + 4) 1 65535 q.threshold
    ∷ field (at + 8) 1 65535 q.consume
    ∷ field (at + 12) 0 1000000 q.capacity
    ∷ field (at + 16) 0 0 q.reserved
    ∷ []

-- "y, then queue rows in order and field order, then node rows"
unfoldable pub fields : Chain → ℕ → ℕ → List Field
unfolding row_fields flat tab
fields c q w = ticks 4 c.period ∷ (flat (λ i. row_fields (row_of c i) (q + 20 * i)) c.n ++ tab c.n (λ i. ticks (w + 4 * i) (work_of c i)))

-- 2: "n is 0 or above 16", place 0
abbrev pub count_check : ℕ → Refusal
count_check n = test 2 0 (outside 1 16 n)

-- 4 of one field: "a field out of range", place its byte offset
abbrev pub out_of_range : Field → Refusal
out_of_range f = test 4 f.place (outside f.least f.most f.value)

-- 4: the first field out of range
unfoldable pub range_check : Chain → ℕ → ℕ → Refusal
unfolding first fields
range_check c q w = first (map out_of_range (fields c q w))

-- 5 of one row: "c above τ", place the byte offset of c
abbrev pub overdrawn : Queue → ℕ → Refusal
overdrawn q at = test 5 (at + 8) (ltb q.threshold q.consume)

-- 5: the first such row
unfoldable pub order_check : Chain → ℕ → Refusal
unfolding first tab
order_check c q = first (tab c.n (λ i. overdrawn (row_of c i) (q + 20 * i)))

-- 4 and 5 of a record, "with places as in its packed file": the queue table at 20, the node table at 20+20n
abbrev pub record_range : Chain → Refusal
record_range c = range_check c 20 (20 + 20 * c.n)

abbrev pub record_order : Chain → Refusal
record_order c = order_check c 20

-- "a chain handed in as a record passes checks 2, 4, 5 again"
abbrev pub chain_checks : Chain → List Refusal
chain_checks c = count_check c.n ∷ record_range c ∷ record_order c ∷ []

unfoldable pub chain_refusal : Chain → Refusal
unfolding first range_check order_check
chain_refusal c = first (chain_checks c)

-- a field is out of its range, or in it
abbrev pub FieldOut : Field → Type 0
FieldOut f = Out f.least f.most f.value

abbrev pub FieldIn : Field → Type 0
FieldIn f = In f.least f.most f.value

pub field_exact : (L : ℕ) (f : Field) → (out_of_range f ≡ refused 4 L) ↔ (FieldOut f × (L ≡ f.place))
field_exact L f = Iff.trans (test_exact 4 L f.place (λ e. omega arith) _) (Iff.and (outside_true f.least f.most f.value) Iff.rfl)

pub field_silent : (f : Field) → Silent (out_of_range f) ↔ FieldIn f
field_silent f = Iff.trans (test_silent 4 f.place (λ e. omega arith) _) (outside_false f.least f.most f.value)

-- the field at k of a list
abbrev pub field_at : List Field → ℕ → Field
field_at fs k = get_or fs k (field 0 0 0 0)

-- 4 in words: the first field of the list that is out of range has place L
pub record FirstOut (fs : List Field) (L : ℕ) : Type 0 where
  pub at : ℕ
  pub inside : at < length fs
  pub wrong : FieldOut (field_at fs at)
  pub place : L ≡ (field_at fs at).place
  pub before : (j : ℕ) → j < at → FieldIn (field_at fs j)

-- 5 in words: the first row whose c is above its τ has its c at L
pub record FirstOver (c : Chain) (q L : ℕ) : Type 0 where
  pub row : ℕ
  pub inside : row < c.n
  pub over : (row_of c row).threshold < (row_of c row).consume
  pub place : L ≡ q + 20 * row + 8
  pub before : (j : ℕ) → j < row → (row_of c j).consume ≤ (row_of c j).threshold

-- the numbers of a record's checks, in order: each speaks with its own
abbrev pub chain_numbers : List ℕ
chain_numbers = 2 ∷ 4 ∷ 5 ∷ []
