-- A chain file by its bytes, and what the reader answers to it: of the words by which the reader is defined none stands in these laws.
--   f, c, n, y, q, w, L      the bytes of a file, a chain, the header's words: the count, the period, the byte offsets of the queue table and of the node table; a place
--   Word f at v              v is the word of f at byte `at`, the lowest byte first
--   Header f n y q w t       the five words of the header
--   RowWords f at r, Tables f q w c
--                            the row at `at` is r; the tables at q and w are those of c
--   ChainSlots c             c has 16 slots of each kind, those past n zero (Zeros)
--   InQueues n q i, InNodes n w i, InBoth n q w
--                            byte i is in the queue table, in the node table; some byte is in both
--   TableStands len at In, Stands len n q w
--                            a table, whose bytes are In, and both tables stand where they may in a file of len bytes (table_stands, by their ends)
--   OffsetWrong len n q w L  one does not, and 3 says so at L
--   Headed f n y q w, HasHeader f, Laid f q w c, HasTables f
--                            what 1, and what 1 to 3, let pass
--   Fine c q w, OutAt c q w L, FirstOutAt c q w L, FirstAbove c q L
--                            no word is out of its range and no c above its τ; the word at L is out of its range, and is the first such; the first c above its τ is at L
--                            (RecordInNumbers)
--   ReadsAs f c, read_exactly
--                            what 1 to 5 let pass; a file is read as c exactly when it is that
--   read_length, -count, -offsets, -ranges, -order
--                            when 1, 2, 3, 4 and 5 are answered, each where none before it is; header_known and tables_known: and then the header, and the tables, are there
--   word_out, word_in, read_says, answer_refusal, answer_chain, queues_at_law, nodes_at_law
--                            these words and the definitions of the reader, which the files above cite
use Rattle.std.proofs.Math.Logic.Iff
use Rattle.std.specs.Prelude.{◌≡◌, Bool, true, false, ◌↔◌, ◌≢◌, ◌⊎◌, ℕ, ◌+◌, ◌-◌, ◌*◌, ◌≤◌, ◌<◌, length, get_or}
use Rattle.std.proofs.Math.Path.{refl, sym}
use Rattle.std.proofs.Common.{ap, subst, ◌∙◌, inl, inr, ⊎_elim, le_refl, arith}
use Rattle.std.proofs.Math.Logic.{by_cases}
use mathlib.Core.List.{List, [], ◌∷◌}
use Rattle.std.specs.Int.{◌∣◌}
use Rattle.std.proofs.Math.Nat.{mod-eq-zero_of_dvd, dvd_of_mod-eq-zero}
use Rattle.std.proofs.Math.Decide.{ℕ_discrete, dec_lt}
use Rattle.ardenquill.specs.Chains.{refused, test, Silent, Silents, first_silent, test_silent, count_check}
use Rattle.ardenquill.specs.Chains.{count_silent, range_check, range_exact, order_check, order_exact, row_of, work_of}
use Rattle.ardenquill.specs.Chains.{none, tab, slot_used, is_slots, answered, answered_fine, same_chain, Sound}
use Rattle.ardenquill.specs.Files.{four_at, word_at, word_there, row_at, row_there, same_row, count_of, queues_at, nodes_at, chain_of}
use Rattle.ardenquill.specs.Files.{length_check, length_silent, BadLength, bad_table, BadTable, bad_table_law, GoodTable, good_table}
use Rattle.ardenquill.specs.Files.{overlap, Shared, overlap_false, BadTables, offset_tests, offset_check, file_offsets, read_refusal}
use Rattle.ardenquill.specs.Files.{read_answer, read_1, read_2, read_3, read_4, read_5, Placed, read_accepts, read_fine}
use Rattle.ardenquill.specs.Records.{Refusal, Queue, Chain, ChainAnswer}
use Rattle.promises.specs.Order.{said}
use Rattle.promises.specs.Zeros.{ChainSlots, slots_zero}
use Rattle.promises.specs.RecordInNumbers.{WrongCount, RightCount, count_wrong, OutAt, FirstOutAt, FirstAbove, Fine, fine_is, range_first, range_silent, order_first}

-- "All words are 32 bits, little-endian": v is the word whose lowest byte, the first, stands at `at`
pub record Word (f : List ℕ) (at v : ℕ) : Type 0 where
  pub inside : at + 4 ≤ length f
  pub is : v ≡ get_or f at 0 + 256 * get_or f (at + 1) 0 + 65536 * get_or f (at + 2) 0 + 16777216 * get_or f (at + 3) 0

-- "The header is 20 bytes, five words: n, source period y in ticks, byte offset of the queue table, byte offset of the node table, total length in bytes"
pub record Header (f : List ℕ) (n y q w t : ℕ) : Type 0 where
  pub count : Word f 0 n
  pub period : Word f 4 y
  pub queues : Word f 8 q
  pub nodes : Word f 12 w
  pub total : Word f 16 t

-- "A queue row has five words: produce p, threshold τ, consume c, capacity B, one reserved word"
pub record RowWords (f : List ℕ) (at : ℕ) (r : Queue) : Type 0 where
  pub produce : Word f at r.produce
  pub threshold : Word f (at + 4) r.threshold
  pub consume : Word f (at + 8) r.consume
  pub capacity : Word f (at + 12) r.capacity
  pub reserved : Word f (at + 16) r.reserved

-- "A node row is one word, the execution time e of N_1 .. N_n in order": the tables that stand at q and w are those of c
pub record Tables (f : List ℕ) (q w : ℕ) (c : Chain) : Type 0 where
  pub rows : (i : ℕ) → i < c.n → RowWords f (q + 20 * i) (row_of c i)
  pub nodes : (i : ℕ) → i < c.n → Word f (w + 4 * i) (work_of c i)

-- byte i is in the queue table of n rows at q, in the node table of n rows at w
abbrev pub InQueues : ℕ → ℕ → ℕ → Type 0
InQueues n q i = (q ≤ i) × (i < q + 20 * n)

abbrev pub InNodes : ℕ → ℕ → ℕ → Type 0
InNodes n w i = (w ≤ i) × (i < w + 4 * n)

-- none of "a table offset is no multiple of 4, is below 20, or its table passes the end" holds of a table at `at` in a file of `len` bytes, by its bytes: none of them is
-- one of the header's 20, and none is past the end
pub record TableStands (len at : ℕ) (InTable : ℕ → Type 0) : Type 0 where
  pub multiple : 4 ∣ at
  pub behind : (i : ℕ) → i < 20 → InTable i → ⊥
  pub within : (i : ℕ) → InTable i → i < len

-- "or the tables overlap": a byte is in both
pub record InBoth (n q w : ℕ) : Type 0 where
  pub byte : ℕ
  pub queues : InQueues n q byte
  pub nodes : InNodes n w byte

-- 3, place "8 (queue offset, tested first), 12 (node offset, then overlap)"
pub data OffsetWrong (len n q w L : ℕ) : Type 0 where
  queues_wrong : (TableStands len q (InQueues n q) → ⊥) → L ≡ 8 → OffsetWrong len n q w L
  nodes_wrong : TableStands len q (InQueues n q) → (TableStands len w (InNodes n w) → ⊥) → L ≡ 12 → OffsetWrong len n q w L
  overlapping : TableStands len q (InQueues n q) → InBoth n q w → L ≡ 12 → OffsetWrong len n q w L

-- what 3 lets pass: header, queue table and node table share no byte, and none passes the end
pub record Stands (len n q w : ℕ) : Type 0 where
  pub queues : TableStands len q (InQueues n q)
  pub nodes : TableStands len w (InNodes n w)
  pub apart : InBoth n q w → ⊥

-- what 1 lets pass: a length of 20 to 4,096, and a header whose total word is that length
pub record Headed (f : List ℕ) (n y q w : ℕ) : Type 0 where
  pub long : (20 ≤ length f) × (length f ≤ 4096)
  pub words : Header f n y q w (length f)

-- what 1, 2 and 3 let pass: the words of f say c, with the tables at q and w
pub record Laid (f : List ℕ) (q w : ℕ) (c : Chain) : Type 0 where
  pub header : Headed f c.n c.period q w
  pub count : RightCount c.n
  pub stands : Stands (length f) c.n q w
  pub tables : Tables f q w c
  pub past : ChainSlots c

-- f has such a header
pub record HasHeader (f : List ℕ) : Type 0 where
  pub n : ℕ
  pub y : ℕ
  pub q : ℕ
  pub w : ℕ
  pub is : Headed f n y q w

-- f has such tables
pub record HasTables (f : List ℕ) : Type 0 where
  pub q : ℕ
  pub w : ℕ
  pub c : Chain
  pub is : Laid f q w c

-- what 1 to 5 let pass
pub record ReadsAs (f : List ℕ) (c : Chain) : Type 0 where
  pub queues : ℕ
  pub nodes : ℕ
  pub laid : Laid f queues nodes c
  pub fine : Fine c queues nodes

-- a word by its bytes is the word at its place
pub word_out : {f : List ℕ} {at v : ℕ} → Word f at v → word_at f at ≡ v
unfolding four_at
word_out {f} {at} k = word_there f at k.inside ∙ sym k.is

-- and the word at its place is one by its bytes, where it does not pass the end
pub word_in : (f : List ℕ) (at v : ℕ) → at + 4 ≤ length f → word_at f at ≡ v → Word f at v
unfolding four_at
word_in f at v l e = record { inside = l; is = sym e ∙ word_there f at l }

-- by its first byte and its last: such a table of some bytes begins at a multiple of 4, at 20 or later, and ends within the file, both ways
pub table_stands : (len at size : ℕ) → 0 < size → TableStands len at (λ i. (at ≤ i) × (i < at + size)) ↔ ((4 ∣ at) × ((20 ≤ at) × (at + size ≤ len)))
table_stands len at size some = (
  λ t.
      let low : at < 20 → ⊥ = λ l. t.behind at l (le_refl at, omega arith) in
      (t.multiple, (omega (arith, low), omega (arith, t.within (at + size - 1) (omega arith, omega arith)))),
  λ g. record { multiple = g.0; behind = λ i l h. omega (arith, g.1.0, h.0); within = λ i h. omega (arith, g.1.1, h.1) },
)

-- which is what the reader tests
stands_is : (len at size : ℕ) → 0 < size → GoodTable len at (at + size) ↔ TableStands len at (λ i. (at ≤ i) × (i < at + size))
stands_is len at size some = Iff.trans (Iff.and (dvd_of_mod-eq-zero 4, mod-eq-zero_of_dvd 4) Iff.rfl) (Iff.symm (table_stands len at size some))

-- the number and the place that a file is answered
pub read_says : (f : List ℕ) (N L : ℕ) → (((read_answer f).number ≡ N) × ((read_answer f).place ≡ L)) ↔ (read_refusal f ≡ refused N L)
unfolding read_answer answered
read_says f N L = said (read_refusal f) N L

-- as one refusal
pub answer_refusal : (f : List ℕ) → read_refusal f ≡ refused (read_answer f).number (read_answer f).place
unfolding read_answer answered
answer_refusal f = refl

-- and the chain, where it is not refused
pub answer_chain : (f : List ℕ) → Silent (read_refusal f) → read_answer f ≡ record { number = 0; place = 0; chain = chain_of f }
unfolding read_answer
answer_chain f z = sym (answered_fine (chain_of f) (sym (read_fine f z)))

-- a row by its bytes
row_out : {f : List ℕ} {at : ℕ} {r : Queue} → RowWords f at r → row_at f at ≡ r
row_out {f} {at} k =
    row_there f at (omega (arith, k.reserved.inside))
    ∙ same_row (word_out k.produce) (word_out k.threshold) (word_out k.consume) (word_out k.capacity) (word_out k.reserved)

-- a file that 1, 2 and 3 do not refuse
module _ (f : List ℕ) where
  -- the two tables have no byte in common
  abbrev Apart : Type 0
  Apart = Shared (queues_at f) (queues_at f + 20 * count_of f) (nodes_at f) (nodes_at f + 4 * count_of f) → ⊥

  -- they are silent exactly where the file is placed so, by the definitions of the reader
  placed_is : Silents (length_check f ∷ count_check (count_of f) ∷ file_offsets f ∷ []) ↔ (Placed f × Apart)
  unfolding Silents offset_check
  placed_is = (out, back)
    where
      tests : List Refusal
      tests = offset_tests (length f) (count_of f) (queues_at f) (nodes_at f)

      good : (P at end : ℕ) → Silent (test 3 P (bad_table (length f) at end)) ↔ GoodTable (length f) at end
      good P at end = Iff.trans (test_silent 3 P (λ e. omega arith) _) (good_table (length f) at end)

      apart : Silent (test 3 12 (overlap (queues_at f) (queues_at f + 20 * count_of f) (nodes_at f) (nodes_at f + 4 * count_of f))) ↔ Apart
      apart = Iff.trans (test_silent 3 12 (λ e. omega arith) _) (overlap_false (count_of f) (queues_at f) (nodes_at f))

      out : Silents (length_check f ∷ count_check (count_of f) ∷ file_offsets f ∷ []) → Placed f × Apart
      out h =
          let o = (first_silent tests).0 h.1.1.0 in
          let l = (length_silent f).0 h.0 in
          (record { count = (count_silent (count_of f)).0 h.1.0; long = l.0; total = l.1; queues = (good 8 _ _).0 o.0; nodes = (good 12 _ _).0 o.1.0 }, apart.0 o.1.1.0)

      back : Placed f × Apart → Silents (length_check f ∷ count_check (count_of f) ∷ file_offsets f ∷ [])
      back h =
          let p = h.0 in (
            (length_silent f).1 (p.long, p.total),
            ((count_silent (count_of f)).1 p.count, ((first_silent tests).1 ((good 8 _ _).1 p.queues, ((good 12 _ _).1 p.nodes, (apart.1 h.1, tt))), tt)),
          )

  -- what the file says by the definition is laid in it by its bytes
  laid_there : Placed f → Apart → Laid f (queues_at f) (nodes_at f) (chain_of f)
  unfolding chain_of tab
  laid_there p apart = record {
    count = p.count;
    header = record {
      long = p.long;
      words = record {
        count = word 0 (omega arith);
        period = word 4 (omega arith);
        queues = word 8 (omega arith);
        nodes = word 12 (omega arith);
        total = word_in f 16 (length f) (omega (arith, p.long.0)) p.total;
      };
    };
    stands = record {
      queues = (stands_is (length f) (queues_at f) (20 * count_of f) (omega (arith, p.count.0))).0 p.queues;
      nodes = (stands_is (length f) (nodes_at f) (4 * count_of f) (omega (arith, p.count.0))).0 p.nodes;
      apart = λ b. apart (record { byte = b.byte; in_queues = b.queues; in_nodes = b.nodes });
    };
    tables = record { rows = row; nodes = node };
    past = record { rows = slots_zero (λ i. row_at f (queues_at f + 20 * i)) none (count_of f); work = slots_zero (λ i. word_at f (nodes_at f + 4 * i)) 0 (count_of f) };
  }
    where
      word : (at : ℕ) → at + 4 ≤ 20 → Word f at (word_at f at)
      word at l = word_in f at (word_at f at) (omega (arith, p.long.0)) refl

      row : (i : ℕ) → i < count_of f → RowWords f (queues_at f + 20 * i) (row_of (chain_of f) i)
      row i l =
          let o : ℕ = queues_at f + 20 * i in
          let ends : o + 20 ≤ length f = omega (arith, p.queues.1.1) in
          rw (slot_used (λ j. row_at f (queues_at f + 20 * j)) none 16 (count_of f) i none (omega (arith, p.count.1)) l, row_there f o ends)
          (record {
            produce = word_in f o _ (omega arith) refl;
            threshold = word_in f (o + 4) _ (omega arith) refl;
            consume = word_in f (o + 8) _ (omega arith) refl;
            capacity = word_in f (o + 12) _ (omega arith) refl;
            reserved = word_in f (o + 16) _ (omega arith) refl;
          })

      node : (i : ℕ) → i < count_of f → Word f (nodes_at f + 4 * i) (work_of (chain_of f) i)
      node i l = word_in f (nodes_at f + 4 * i) _ (omega (arith, p.nodes.1.1)) (sym (slot_used (λ j. word_at f (nodes_at f + 4 * j)) 0 16 (count_of f) i 0 (omega (arith, p.count.1)) l))

-- and what is laid in a file by its bytes is what it says by the definitions
module _ {f : List ℕ} {q w : ℕ} {c : Chain} (k : Laid f q w c) where
  -- its count
  count_is : count_of f ≡ c.n
  count_is = word_out k.header.words.count

  -- its offsets
  pub queues_at_law : queues_at f ≡ q
  queues_at_law = word_out k.header.words.queues

  pub nodes_at_law : nodes_at f ≡ w
  nodes_at_law = word_out k.header.words.nodes

  -- its chain
  chain_is : chain_of f ≡ c
  unfolding chain_of
  chain_is = simp (count_is, queues_at_law, nodes_at_law)
      (same_chain refl (word_out k.header.words.period)
      (sym (is_slots _ none 16 c.n none c.queues k.past.rows.long (λ i l m. sym (row_out (k.tables.rows i m))) (λ i l m. k.past.rows.past i m l)))
      (sym (is_slots _ 0 16 c.n 0 c.work k.past.work.long (λ i l m. sym (word_out (k.tables.nodes i m))) (λ i l m. k.past.work.past i m l))))

  -- and where its tables stand
  placed : Placed f × Apart f
  placed = (
    record {
      count = rw count_is k.count;
      long = k.header.long;
      total = word_out k.header.words.total;
      queues = rw (count_is, queues_at_law) ((stands_is (length f) q (20 * c.n) (omega (arith, k.count.0))).1 k.stands.queues);
      nodes = rw (count_is, nodes_at_law) ((stands_is (length f) w (4 * c.n) (omega (arith, k.count.0))).1 k.stands.nodes);
    },
    rw (count_is, queues_at_law, nodes_at_law) (λ s. k.stands.apart (record { byte = s.byte; queues = s.in_queues; nodes = s.in_nodes })),
  )

-- "The reader checks 1 to 5": a file is read as the chain c exactly when its bytes say c, its tables stand where they may, and no word of them is refused
pub read_exactly : (f : List ℕ) (c : Chain) → (read_answer f ≡ record { number = 0; place = 0; chain = c }) ↔ ReadsAs f c
read_exactly f c = (out, back)
  where
    out : read_answer f ≡ record { number = 0; place = 0; chain = c } → ReadsAs f c
    out e =
        let z : Silent (read_refusal f) = ap (λ (r : Refusal). r.number) (answer_refusal f) ∙ ap (λ (a : ChainAnswer). a.number) e in
        let a = (read_accepts f).0 z in
        let same : chain_of f ≡ c = ap (λ (x : ChainAnswer). x.chain) (sym (answer_chain f z) ∙ e) in
        subst (ReadsAs f) same (record { queues = queues_at f; nodes = nodes_at f; laid = laid_there f a.places a.apart; fine = ((fine_is (chain_of f) (queues_at f) (nodes_at f)).0 a.chain).1 })

    back : ReadsAs f c → read_answer f ≡ record { number = 0; place = 0; chain = c }
    back r =
        let p = placed r.laid in
        let s : Sound (chain_of f) = rw (chain_is r.laid) ((fine_is c r.queues r.nodes).1 (r.laid.count, r.fine)) in
        let z : Silent (read_refusal f) = (read_accepts f).1 (record { places = p.0; apart = p.1; chain = s }) in
        answer_chain f z ∙ ap (λ (d : Chain). record { number = 0; place = 0; chain = d }) (chain_is r.laid)

-- a table stands badly or well
bad_or_good : (len at end : ℕ) → BadTable len at end ⊎ GoodTable len at end
bad_or_good len at end = by (bad_table len at end) refl
  where
    by : (t : Bool) → bad_table len at end ≡ t → BadTable len at end ⊎ GoodTable len at end
    by true e = inl ((bad_table_law len at end).0 e)
    by false e = inr ((good_table len at end).0 e)

-- not both
bad_not : (len at end : ℕ) → BadTable len at end ↔ (GoodTable len at end → ⊥)
bad_not len at end = (
  λ b g. ⊎_elim (λ ne. ne g.0) (⊎_elim (λ l. omega (arith, g.1.0)) (λ l. omega (arith, g.1.1))) b,
  λ n. ⊎_elim (λ b. b) (λ g. absurd (n g)) (bad_or_good len at end),
)

-- 1, "length under 20 or over 4,096, or total word differs from length", place 0
pub read_length : (f : List ℕ) (L : ℕ)
    → (((read_answer f).number ≡ 1) × ((read_answer f).place ≡ L)) ↔ (((length f < 20) ⊎ ((4096 < length f) ⊎ (Word f 16 (length f) → ⊥))) × (L ≡ 0))
read_length f L = Iff.trans (read_says f 1 L) (Iff.trans (read_1 f L) (Iff.and (⊎_elim (⊎_elim (λ l. inl l) (λ l. inr (inl l))) (λ ne. inr (inr (λ k. ne (word_out k)))), back) Iff.rfl))
  where
    back : (length f < 20) ⊎ ((4096 < length f) ⊎ (Word f 16 (length f) → ⊥)) → BadLength f
    back = ⊎_elim (λ l. inl (inl l)) (⊎_elim (λ l. inl (inr l)) (λ n. by_cases (dec_lt (length f) 20) (λ l. inl (inl l)) (λ l. inr (λ e. n (word_in f 16 (length f) (omega (arith, l)) e)))))

-- where 1 is not given the header is there
pub header_known : (f : List ℕ) → ((read_answer f).number ≢ 1) ↔ HasHeader f
header_known f = (out, back)
  where
    wrong : ((length f < 20) ⊎ ((4096 < length f) ⊎ (Word f 16 (length f) → ⊥))) → (read_answer f).number ≡ 1
    wrong h = ((read_length f 0).1 (h, refl)).0

    out : (read_answer f).number ≢ 1 → HasHeader f
    out n =
        let low : length f < 20 → ⊥ = λ l. n (wrong (inl l)) in
        let high : 4096 < length f → ⊥ = λ l. n (wrong (inr (inl l))) in
        let long : 20 ≤ length f = omega (arith, low) in
        let word : (at : ℕ) → at + 4 ≤ 20 → Word f at (word_at f at) = λ at l. word_in f at (word_at f at) (omega arith) refl in
        let total : Word f 16 (length f) = by_cases (ℕ_discrete (word_at f 16) (length f))
        (λ e. word_in f 16 (length f) (omega arith) e)
        (λ ne. absurd (n (wrong (inr (inr (λ k. ne (word_out k))))))) in
        record {
          n = word_at f 0;
          y = word_at f 4;
          q = word_at f 8;
          w = word_at f 12;
          is = record {
            long = (long, omega (arith, high));
            words = record {
              count = word 0 (omega arith);
              period = word 4 (omega arith);
              queues = word 8 (omega arith);
              nodes = word 12 (omega arith);
              total = total;
            };
          };
        }

    back : HasHeader f → (read_answer f).number ≢ 1
    back h e = ⊎_elim (λ l. omega (arith, h.is.long.0)) (⊎_elim (λ l. omega (arith, h.is.long.1)) (λ n. n h.is.words.total)) ((read_length f (read_answer f).place).0 (e, refl)).0

-- a file whose length is right
module _ {f : List ℕ} {n y q w : ℕ} (h : Headed f n y q w) where
  -- 1 is silent
  long_silent : Silent (length_check f)
  long_silent = (length_silent f).1 (h.long, word_out h.words.total)

  -- 2, "n is 0 or above 16", place 0
  pub read_count : (L : ℕ) → (((read_answer f).number ≡ 2) × ((read_answer f).place ≡ L)) ↔ (WrongCount n × (L ≡ 0))
  unfolding Silents
  read_count L = rw (← word_out h.words.count)
      (Iff.trans (read_says f 2 L) (Iff.trans (read_2 f L) (Iff.trans (λ k. k.1, λ k. ((long_silent, tt), k)) (Iff.and (count_wrong (count_of f)) Iff.rfl))))

  module _ (count : RightCount n) where
    -- the tables by their bytes
    queues_stand : GoodTable (length f) q (q + 20 * n) ↔ TableStands (length f) q (InQueues n q)
    queues_stand = stands_is (length f) q (20 * n) (omega (arith, count.0))

    nodes_stand : GoodTable (length f) w (w + 4 * n) ↔ TableStands (length f) w (InNodes n w)
    nodes_stand = stands_is (length f) w (4 * n) (omega (arith, count.0))

    -- 3, place "8 (queue offset, tested first), 12 (node offset, then overlap)"
    pub read_offsets : (L : ℕ) → (((read_answer f).number ≡ 3) × ((read_answer f).place ≡ L)) ↔ OffsetWrong (length f) n q w L
    unfolding Silents
    read_offsets L = Iff.trans (read_says f 3 L) (Iff.trans (read_3 f L) (Iff.trans (λ k. k.1, λ k. ((long_silent, (few, tt)), k)) same))
      where
        few : Silent (count_check (count_of f))
        few = (count_silent (count_of f)).1 (rw (word_out h.words.count) count)

        no_queues : BadTable (length f) q (q + 20 * n) ↔ (TableStands (length f) q (InQueues n q) → ⊥)
        no_queues = Iff.trans (bad_not (length f) q (q + 20 * n)) (Iff.not queues_stand)

        no_nodes : BadTable (length f) w (w + 4 * n) ↔ (TableStands (length f) w (InNodes n w) → ⊥)
        no_nodes = Iff.trans (bad_not (length f) w (w + 4 * n)) (Iff.not nodes_stand)

        out : BadTables (length f) n q w L → OffsetWrong (length f) n q w L
        out = ⊎_elim (λ b. queues_wrong (no_queues.0 b.0) b.1) (λ g. ⊎_elim
            (λ b. nodes_wrong (queues_stand.0 g.0) (no_nodes.0 b.0) b.1)
            (λ s. overlapping (queues_stand.0 g.0) (record { byte = s.1.0.byte; queues = s.1.0.in_queues; nodes = s.1.0.in_nodes }) s.1.1)
            g.1)

        back : OffsetWrong (length f) n q w L → BadTables (length f) n q w L
        back (queues_wrong b e) = inl (no_queues.1 b, e)
        back (nodes_wrong t b e) = inr (queues_stand.1 t, inl (no_nodes.1 b, e))
        back (overlapping t s e) = inr (
          queues_stand.1 t,
          ⊎_elim (λ b. inl (b, e)) (λ g. inr (g, (record { byte = s.byte; in_queues = s.queues; in_nodes = s.nodes }, e))) (bad_or_good (length f) w (w + 4 * n)),
        )

        same : BadTables (length f) (count_of f) (queues_at f) (nodes_at f) L ↔ OffsetWrong (length f) n q w L
        same = rw (word_out h.words.count, word_out h.words.queues, word_out h.words.nodes) (out, back)

-- where 1, 2 and 3 are not given the tables are there
pub tables_known : (f : List ℕ) → (((read_answer f).number ≢ 1) × (((read_answer f).number ≢ 2) × ((read_answer f).number ≢ 3))) ↔ HasTables f
tables_known f = (λ k. out ((header_known f).0 k.0) k.1.0 k.1.1, back)
  where
    out : HasHeader f → (read_answer f).number ≢ 2 → (read_answer f).number ≢ 3 → HasTables f
    out h two three =
        let low : h.n ≡ 0 → ⊥ = λ l. two ((read_count h.is 0).1 (inl l, refl)).0 in
        let high : 16 < h.n → ⊥ = λ l. two ((read_count h.is 0).1 (inr l, refl)).0 in
        let count : RightCount h.n = (omega (arith, low), omega (arith, high)) in
        let k = h.is.words in
        let queues : GoodTable (length f) h.q (h.q + 20 * h.n) =
        ⊎_elim (λ b. absurd (three ((read_offsets h.is count 8).1 (queues_wrong (λ t. (bad_not _ _ _).0 b ((queues_stand h.is count).1 t)) refl)).0))
        (λ g. g) (bad_or_good _ _ _) in
        let t = (queues_stand h.is count).0 queues in
        let nodes : GoodTable (length f) h.w (h.w + 4 * h.n) =
        ⊎_elim (λ b. absurd (three ((read_offsets h.is count 12).1 (nodes_wrong t (λ t. (bad_not _ _ _).0 b ((nodes_stand h.is count).1 t)) refl)).0))
        (λ g. g) (bad_or_good _ _ _) in
        let apart : Shared h.q (h.q + 20 * h.n) h.w (h.w + 4 * h.n) → ⊥ =
        λ s. three ((read_offsets h.is count 12).1 (overlapping t (record { byte = s.byte; queues = s.in_queues; nodes = s.in_nodes }) refl)).0 in
        let p : Placed f = record {
          count = rw (word_out k.count) count;
          long = h.is.long;
          total = word_out k.total;
          queues = rw (word_out k.count, word_out k.queues) queues;
          nodes = rw (word_out k.count, word_out k.nodes) nodes;
        } in
        record { q = queues_at f; w = nodes_at f; c = chain_of f; is = laid_there f p (rw (word_out k.count, word_out k.queues, word_out k.nodes) apart) }

    back : HasTables f → ((read_answer f).number ≢ 1) × (((read_answer f).number ≢ 2) × ((read_answer f).number ≢ 3))
    back k = (
      (header_known f).1 (record { n = k.c.n; y = k.c.period; q = k.q; w = k.w; is = k.is.header }),
      (
        λ e. ⊎_elim (λ l. omega (arith, k.is.count.0)) (λ l. omega (arith, k.is.count.1)) ((read_count k.is.header (read_answer f).place).0 (e, refl)).0,
        λ e. never ((read_offsets k.is.header k.is.count (read_answer f).place).0 (e, refl)),
      ),
    )
      where
        never : {L : ℕ} → OffsetWrong (length f) k.c.n k.q k.w L → ⊥
        never (queues_wrong b e) = b k.is.stands.queues
        never (nodes_wrong t b e) = b k.is.stands.nodes
        never (overlapping t s e) = k.is.stands.apart s

-- such a file
module _ {f : List ℕ} {q w : ℕ} {c : Chain} (k : Laid f q w c) where
  -- 1, 2 and 3 are silent
  quiet : Silents (length_check f ∷ count_check (count_of f) ∷ file_offsets f ∷ [])
  quiet = (placed_is f).1 (placed k)

  -- 4, "a field out of range: y, then queue rows in order and field order, then node rows", place "byte offset of the word"
  pub read_ranges : (L : ℕ) → (((read_answer f).number ≡ 4) × ((read_answer f).place ≡ L)) ↔ FirstOutAt c q w L
  read_ranges L = Iff.trans (read_says f 4 L) (Iff.trans (read_4 f L) (Iff.trans (λ h. h.1, λ h. (quiet, h)) (Iff.trans (Iff.symm (range_exact L (chain_of f) (queues_at f) (nodes_at f))) same)))
    where
      same : (range_check (chain_of f) (queues_at f) (nodes_at f) ≡ refused 4 L) ↔ FirstOutAt c q w L
      same = rw (chain_is k, queues_at_law k, nodes_at_law k) (range_first c q w L)

  -- 5, "c above τ, first such row", place "byte offset of c"
  pub read_order : (L : ℕ) → (((read_answer f).number ≡ 5) × ((read_answer f).place ≡ L)) ↔ (((M : ℕ) → OutAt c q w M → ⊥) × FirstAbove c q L)
  unfolding Silents
  read_order L = Iff.trans (read_says f 5 L) (Iff.trans (read_5 f L) (Iff.trans
      (λ h. (h.0.1.1.1.0, (order_exact L (chain_of f) (queues_at f)).1 h.1), λ h. ((quiet.0, (quiet.1.0, (quiet.1.1.0, (h.0, tt)))), (order_exact L (chain_of f) (queues_at f)).0 h.1))
      same))
    where
      same : (Silent (range_check (chain_of f) (queues_at f) (nodes_at f)) × (order_check (chain_of f) (queues_at f) ≡ refused 5 L)) ↔ (((M : ℕ) → OutAt c q w M → ⊥) × FirstAbove c q L)
      same = rw (chain_is k, queues_at_law k, nodes_at_law k) (Iff.and (range_silent c q w) (order_first c q L))
