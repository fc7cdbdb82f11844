-- The packed file and the writer (01, Chain file: "the writer writes only that").
--   packed_length n      20+24n
--   header n y           the header's words
--   rows c i, nodes c i  the words of the first i rows, and of the first i execution times
--   words c              all words: header, queue table, node table
--   packed c             their bytes
--   room_check need room  10: lent output shorter than what would be written
--   write_checks c room  the writer's checks, in order
--   write_refusal c room  what the writer refuses c with, the lent output being `room` bytes long
--   not_written N L, written k
--                        the answer of a call that refuses to write, and of one that wrote k bytes
--   length_said r        the answer that a result makes which is a length or an error
--   length_says, _alike  number and place are what the result says, and no two results have the same answer
--   Output r t o p a     what a call that writes a text t into lent bytes o answers and leaves there, its refusal being r
--   output_fine          what it is where nothing is refused
--   output_within        the length answered never passes the lent bytes
--   room_exact, _silent, _enough, _only
--                        10 is said exactly under its condition, nothing is where there is room, and no other number is
--   room_last            10 is what the last check of a call says
--   write_2, write_4, write_5, write_10
--                        when a chain is refused with each number
--   rows-, nodes-, packed_length_law, packed_parts
--                        how long the tables and the file are, and what the file is made of
--   TableFits, Fits      what the code of the writer asks: few queues, and room
use Rattle.std.proofs.Math.Logic.Iff
use Rattle.std.specs.Prelude.{◌≡◌, refl, Bool, true, false, cond, Result, ◌↔◌, List, [], ◌∷◌, ◌++◌, ℕ, ◌+◌, ◌*◌, ◌≤◌, ◌<◌, ltb, eqb, length, drop, get_or, take}
use Rattle.std.proofs.Common.{Ok, Err, sym, ap, ◌∙◌, arith, le-ltb, length-append}
use Rattle.std.proofs.Math.Logic.{true-and}
use Rattle.words.specs.Flat.{flat, flat_length}
use Rattle.words.specs.Words.{bytes_of}
use Rattle.words.proofs.WordsLaws.{bytes_append, bytes_length}
use Rattle.words.specs.Rows.{row}
use Rattle.chain.specs.Tests.{Out, below_true, below_false}
use Rattle.chain.specs.Refusals.{Silent, Silents, Numbered, refused, fine, test, first, or_else, first_append, test_alone, Only, only_test, test_exact, test_silent, numbered_append}
use Rattle.chain.proofs.RefusalsLaws.{exact_at}
use Rattle.chain.specs.Record.{row_of, work_of}
use Rattle.chain.specs.Checks.{count_check, chain_checks, range_check, order_check, record_range, record_order, fields}
use Rattle.chain.specs.Checks.{FirstOut, FirstOver, chain_numbers}
use Rattle.chain.proofs.ChecksLaws.{count_exact, range_exact, order_exact, chain_numbered}
use Rattle.chain.specs.Refusal.{Refusal}
use Rattle.chain.specs.Said.{code, said, speaks, refusal_alike}
use Rattle.chain.specs.declared.reasons.Refused.{Refused}
use Rattle.chain.specs.declared.Chain.{Chain}
use Rattle.chainfile.specs.declared.LengthAnswer.{LengthAnswer}

-- "length 20+24n"
abbrev pub packed_length : ℕ → ℕ
packed_length n = 20 + 24 * n

-- "the queue table at 20, the node table at 20+20n and length 20+24n"
abbrev pub header : ℕ → ℕ → List ℕ
header n y = n ∷ y ∷ 20 ∷ (20 + 20 * n) ∷ packed_length n ∷ []

-- the first i rows, and the first i execution times
abbrev pub rows : Chain → ℕ → List ℕ
rows c i = flat (λ j. row (row_of c j)) i

abbrev pub nodes : Chain → ℕ → List ℕ
nodes c i = flat (λ j. work_of c j ∷ []) i

-- header, queue table, node table
abbrev pub words : Chain → List ℕ
words c = header c.n c.period ++ (rows c c.n ++ nodes c c.n)

-- the packed file
unfoldable pub packed : Chain → List ℕ
unfolding bytes_of flat
packed c = bytes_of (words c)

-- 10: "lent output shorter than what would be written", place "bytes needed"
abbrev pub room_check : ℕ → ℕ → Refusal
room_check need room = test 10 need (ltb room need)

-- "the writer checks 2, 4, 5, 10"
abbrev pub write_checks : Chain → ℕ → List Refusal
write_checks c room = chain_checks c ++ (room_check (packed_length c.n) room ∷ [])

unfoldable pub write_refusal : Chain → ℕ → Refusal
unfolding first range_check order_check
write_refusal c room = first (write_checks c room)

-- "a refusal gives number and place, all other results zero"
abbrev pub not_written : ℕ → ℕ → LengthAnswer
not_written N L = record { number = N; place = L; length = 0 }

abbrev pub written : ℕ → LengthAnswer
written k = record { number = 0; place = 0; length = k }

-- the answer that a result makes which is a length or an error
abbrev pub length_said : Result ℕ Refused → LengthAnswer
length_said (Ok k) = written k
length_said (Err e) = not_written (code e.reason) e.place

-- number and place are those of what the result says
pub length_says : (r : Result ℕ Refused) → refused (length_said r).number (length_said r).place ≡ said r
length_says (Ok k) = refl
length_says (Err e) = refl

-- equal answers come from equal results
pub length_alike : (r s : Result ℕ Refused) → length_said r ≡ length_said s → r ≡ s
length_alike (Ok j) (Ok k) e = ap Ok (ap (λ (x : LengthAnswer). x.length) e)
length_alike (Ok k) (Err f) e = absurd (speaks f (ap (λ (x : LengthAnswer). x.number) (sym e)))
length_alike (Err d) (Ok k) e = absurd (speaks d (ap (λ (x : LengthAnswer). x.number) e))
length_alike (Err d) (Err f) e = ap Err (refusal_alike d f (ap (λ (x : LengthAnswer). refused x.number x.place) e))

-- a call that writes: the answer is the refusal, or the text's length; the lent bytes o become p,
-- the text first and every byte past it as it was, or all of them as they were where it refuses
pub record Output (r : Refusal) (t o p : List ℕ) (a : LengthAnswer) : Type 0 where
  pub answer : a ≡ record { number = r.number; place = r.place; length = cond (eqb r.number 0) (length t) 0 }
  pub bytes : p ≡ cond (eqb r.number 0) (t ++ drop (length t) o) o

-- a call that wrote: its answer, and what became of the lent bytes
pub output_fine : {r : Refusal} {t o p : List ℕ} {a : LengthAnswer} → r ≡ fine → Output r t o p a → (a ≡ written (length t)) × (p ≡ t ++ drop (length t) o)
output_fine {r} {t} {o} {p} {a} e w = let v : Output fine t o p a = rw e at w in (v.answer, v.bytes)

-- the length that a call answers is that of a front of the lent bytes, refused or not
pub output_within : {r : Refusal} {t o p : List ℕ} {a : LengthAnswer} → Output r t o p a → a.length ≤ length p
output_within {r} {t} {o} {p} {a} w = by (eqb r.number 0) w.answer w.bytes
  where
    by : (b : Bool) → a ≡ record { number = r.number; place = r.place; length = cond b (length t) 0 } → p ≡ cond b (t ++ drop (length t) o) o → a.length ≤ length p
    by true e f = omega (arith, ap (λ (v : LengthAnswer). v.length) e, ap length f, length-append t (drop (length t) o))
    by false e f = omega (arith, ap (λ (v : LengthAnswer). v.length) e)

pub room_exact : (L need room : ℕ) → (room_check need room ≡ refused 10 L) ↔ ((room < need) × (L ≡ need))
room_exact L need room = Iff.trans (test_exact 10 L need (λ e. omega arith) _) (Iff.and (below_true room need) Iff.rfl)

pub room_silent : (need room : ℕ) → Silent (room_check need room) ↔ (need ≤ room)
room_silent need room = Iff.trans (test_silent 10 need (λ e. omega arith) _) (below_false room need)

pub room_enough : (need room : ℕ) → need ≤ room → room_check need room ≡ fine
room_enough need room h = simp (le-ltb _ _ h)

pub room_only : (need room : ℕ) → Only 10 (room_check need room)
room_only need room = only_test 10 need (ltb room need)

-- 10 as the last check of a call
pub room_last : (rs : List Refusal) (need room : ℕ) → first (rs ++ (room_check need room ∷ [])) ≡ or_else (first rs) (room_check need room)
room_last rs need room = first_append rs (room_check need room ∷ []) ∙ ap (or_else (first rs)) (sym (test_alone 10 need (λ e. omega arith) (ltb room need)))

-- the numbers of the writer's checks, in order: each speaks with its own
abbrev pub write_numbers : List ℕ
write_numbers = chain_numbers ++ (10 ∷ [])

pub write_numbered : (c : Chain) (room : ℕ) → Numbered write_numbers (write_checks c room)
unfolding Numbered
write_numbered c room = numbered_append chain_numbers (10 ∷ []) (chain_checks c) (room_check (packed_length c.n) room ∷ []) (chain_numbered c) (room_only (packed_length c.n) room, tt)

-- a chain is refused with a number exactly when no earlier check speaks and the number's own condition holds
module _ (c : Chain) (room L : ℕ) where
  write_at : (k : ℕ) → k < 4 → (write_refusal c room ≡ refused (get_or write_numbers k 0) L)
      ↔ (Silents (take k (write_checks c room)) × (get_or (write_checks c room) k fine ≡ refused (get_or write_numbers k 0) L))
  unfolding write_refusal
  write_at k l = exact_at write_numbers (write_checks c room) (write_numbered c room) tt k L l

  pub write_2 : (write_refusal c room ≡ refused 2 L) ↔ (Out 1 16 c.n × (L ≡ 0))
  unfolding Silents
  write_2 = Iff.trans (write_at 0 (omega arith)) (Iff.trans true-and (count_exact L c.n))

  pub write_4 : (write_refusal c room ≡ refused 4 L) ↔ (Silents (count_check c.n ∷ []) × FirstOut (fields c 20 (20 + 20 * c.n)) L)
  write_4 = Iff.trans (write_at 1 (omega arith)) (Iff.and Iff.rfl (range_exact L c 20 (20 + 20 * c.n)))

  pub write_5 : (write_refusal c room ≡ refused 5 L) ↔ (Silents (count_check c.n ∷ record_range c ∷ []) × FirstOver c 20 L)
  write_5 = Iff.trans (write_at 2 (omega arith)) (Iff.and Iff.rfl (order_exact L c 20))

  pub write_10 : (write_refusal c room ≡ refused 10 L) ↔ (Silents (count_check c.n ∷ record_range c ∷ record_order c ∷ []) × ((room < packed_length c.n) × (L ≡ packed_length c.n)))
  write_10 = Iff.trans (write_at 3 (omega arith)) (Iff.and Iff.rfl (room_exact L (packed_length c.n) room))

-- how long the tables and the file are
pub rows_length : (c : Chain) (i : ℕ) → length (rows c i) ≡ 5 * i
rows_length c i = flat_length (λ j. row (row_of c j)) 5 (λ j. refl) i

pub nodes_length : (c : Chain) (i : ℕ) → length (nodes c i) ≡ i
nodes_length c i = omega (arith, flat_length (λ j. work_of c j ∷ []) 1 (λ j. refl) i)

pub packed_length_law : (c : Chain) → length (packed c) ≡ packed_length c.n
unfolding packed
packed_length_law c =
    omega (arith, bytes_length (words c), length-append (rows c c.n) (nodes c c.n), rows_length c c.n, nodes_length c c.n)

-- the bytes of a packed file: header, queue table, node table
pub packed_parts : (c : Chain) → packed c ≡ bytes_of (header c.n c.period) ++ (bytes_of (rows c c.n) ++ bytes_of (nodes c c.n))
unfolding packed
packed_parts c =
    bytes_append (header c.n c.period) (rows c c.n ++ nodes c c.n)
    ∙ ap (λ (l : List ℕ). bytes_of (header c.n c.period) ++ l) (bytes_append (rows c c.n) (nodes c c.n))

-- room in the lent bytes l for k bytes from `at` on, of a chain of n queues; and for its whole packed file
pub record TableFits (n : ℕ) (l : List ℕ) (at k : ℕ) : Type 0 where
  pub few : n ≤ 16
  pub room : at + k ≤ length l

pub record Fits (c : Chain) (l : List ℕ) : Type 0 where
  pub few : c.n ≤ 16
  pub room : packed_length c.n ≤ length l
