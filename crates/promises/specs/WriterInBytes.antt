-- The writer by the bytes that it leaves: of the words by which the packed file is defined none stands in what is said of them.
--   c, o, p, a               a chain, lent bytes before the call and after it, and its answer
--   Word f at v, Header f n y q w t, Tables f q w c
--                            a word of f, its header's words, its tables (FileInBytes)
--   WrittenAs c o p          p is the packed file of c, byte by byte, and past it as o was
--   GoodRecord c             n is 1 to 16, no word of c is out of its range, and no c above its τ (RecordInNumbers)
--   write_when               when a chain is not refused (and when it is, and with which number and place: write_record, write_room, RecordInNumbers)
--   write_exactly            and then it is written so
use Rattle.std.proofs.Math.Logic.Iff
use Rattle.std.specs.Prelude.{◌≡◌, ◌↔◌, List, [], ◌∷◌, ◌++◌, ℕ, zero, suc, ◌+◌, ◌-◌, ◌*◌, ◌/◌, ◌^◌, ◌≤◌, ◌<◌, length, get_or, take, drop}
use Rattle.std.proofs.Math.Path.{sym}
use Rattle.std.proofs.Common.{ap, ◌∙◌, mod-lt, arith, length-append, length-drop, get_or-append-add, get_or-drop, take_at}
use Rattle.std.proofs.Math.ListN.{get_or-append}
use Rattle.ardenquill.specs.Chains.{Silent, row_of, work_of, none, slot_used, trimmed, Sound}
use Rattle.ardenquill.specs.Files.{bytes_of, bytes_length, word_at_law, read_answer, packed_length, words, packed, packed_length_law}
use Rattle.ardenquill.specs.Files.{write_refusal, write_accepts, write_fine, Output, output_fine, read_of_write}
use Rattle.ardenquill.specs.Records.{Queue, Chain, LengthAnswer}
use Rattle.promises.specs.Laws.{output_silent}
use Rattle.promises.specs.RecordInNumbers.{GoodRecord, good_is}
use Rattle.promises.specs.FileInBytes.{Word, Header, RowWords, Tables, ReadsAs, word_out, word_in, queues_at_law, nodes_at_law, read_exactly}

-- "The packed file has the queue table at 20, the node table at 20+20n and length 20+24n; the writer writes only that": p is what it makes of the lent bytes o
pub record WrittenAs (c : Chain) (o p : List ℕ) : Type 0 where
  pub header : Header p c.n c.period 20 (20 + 20 * c.n) (20 + 24 * c.n)
  pub tables : Tables p 20 (20 + 20 * c.n) c
  pub small : (i : ℕ) → i < 20 + 24 * c.n → get_or p i 0 < 256
  pub rest : (i : ℕ) → 20 + 24 * c.n ≤ i → get_or p i 0 ≡ get_or o i 0
  pub long : length p ≡ length o

-- each byte of words is one
bytes_small : (ws : List ℕ) (i : ℕ) → get_or (bytes_of ws) i 0 < 256
unfolding bytes_of
bytes_small [] i = omega arith
bytes_small (w ∷ ws) zero = mod-lt w (omega arith)
bytes_small (w ∷ ws) (suc zero) = mod-lt (w / 256) (omega arith)
bytes_small (w ∷ ws) (suc (suc zero)) = mod-lt (w / 65536) (omega arith)
bytes_small (w ∷ ws) (suc (suc (suc zero))) = mod-lt (w / 16777216) (omega arith)
bytes_small (w ∷ ws) (suc (suc (suc (suc i)))) = bytes_small ws i

-- so of a packed file
packed_small : (c : Chain) (i : ℕ) → get_or (packed c) i 0 < 256
unfolding packed
packed_small c i = bytes_small (words c) i

-- words at the front of a list
word_front : {s : List ℕ} {at v : ℕ} (t : List ℕ) → Word s at v → Word (s ++ t) at v
word_front {s} {at} {v} t k =
    let l = k.inside in
    record {
      inside = omega (arith, length-append s t);
      is = k.is ∙ sym (rw (
        get_or-append s t 0 at (omega arith),
        get_or-append s t 0 (at + 1) (omega arith),
        get_or-append s t 0 (at + 2) (omega arith),
        get_or-append s t 0 (at + 3) (omega arith),
      ));
    }

-- and rows
row_front : {s : List ℕ} {at : ℕ} {r : Queue} (t : List ℕ) → RowWords s at r → RowWords (s ++ t) at r
row_front t k = record {
  produce = word_front t k.produce;
  threshold = word_front t k.threshold;
  consume = word_front t k.consume;
  capacity = word_front t k.capacity;
  reserved = word_front t k.reserved;
}

-- the packed file of a sound chain by its words
module _ (c : Chain) (s : Sound c) where
  -- word k of the header
  header_word : (k : ℕ) → k < 5 → get_or (words c) k 0 < 2 ^ 32 → Word (packed c) (4 * k) (get_or (words c) k 0)
  unfolding packed
  header_word k l h = word_in (packed c) (4 * k) _ (omega (arith, packed_length_law c)) (word_at_law (words c) k (omega (arith, bytes_length (words c), packed_length_law c)) h)

  -- its header's words
  packed_header : Header (packed c) c.n c.period 20 (20 + 20 * c.n) (20 + 24 * c.n)
  packed_header = record {
    count = header_word 0 (omega arith) (omega (arith, s.count.1));
    period = header_word 1 (omega arith) (omega (arith, s.period.1));
    queues = header_word 2 (omega arith) (omega arith);
    nodes = header_word 3 (omega arith) (omega (arith, s.count.1));
    total = header_word 4 (omega arith) (omega (arith, s.count.1));
  }

  -- its tables, as it is read
  packed_tables : ReadsAs (packed c) (trimmed c) → Tables (packed c) 20 (20 + 20 * c.n) c
  unfolding trimmed
  packed_tables r = record {
    rows = λ i l. rw (row_of_is i l, sym queues_is) at (r.laid.tables.rows i l);
    nodes = λ i l. rw (work_of_is i l, sym nodes_is) at (r.laid.tables.nodes i l);
  }
    where
      queues_is : 20 ≡ r.queues
      queues_is = sym (word_out packed_header.queues) ∙ queues_at_law r.laid

      nodes_is : 20 + 20 * c.n ≡ r.nodes
      nodes_is = sym (word_out packed_header.nodes) ∙ nodes_at_law r.laid

      row_of_is : (i : ℕ) → i < c.n → row_of (trimmed c) i ≡ row_of c i
      row_of_is i l = slot_used (row_of c) none 16 c.n i none (omega (arith, s.count.1)) l

      work_of_is : (i : ℕ) → i < c.n → work_of (trimmed c) i ≡ work_of c i
      work_of_is i l = slot_used (work_of c) 0 16 c.n i 0 (omega (arith, s.count.1)) l

-- "The writer checks 2, 4, 5, 10": a chain is written exactly when no word of it is refused and there is room
pub write_when : (c : Chain) (o p : List ℕ) (a : LengthAnswer) → Output (write_refusal c (length o)) (packed c) o p a
    → (a.number ≡ 0) ↔ (GoodRecord c × (20 + 24 * c.n ≤ length o))
write_when c o p a v = Iff.trans (output_silent v) (Iff.trans (write_accepts c (length o)) (Iff.and (good_is c) Iff.rfl))

-- "the writer writes only that": a chain c that is written into lent bytes o, which become p, and not refused
pub write_exactly : (c : Chain) (o p : List ℕ) (a : LengthAnswer) → Output (write_refusal c (length o)) (packed c) o p a → a.number ≡ 0
    → (a ≡ record { number = 0; place = 0; length = 20 + 24 * c.n }) × WrittenAs c o p
write_exactly c o p a v z = (wrote.0 ∙ ap (λ (k : ℕ). record { number = 0; place = 0; length = k }) (packed_length_law c), rw wrote.1 whole)
  where
    silent : Silent (write_refusal c (length o))
    silent = sym (ap (λ (x : LengthAnswer). x.number) v.answer) ∙ z

    sound : Sound c
    sound = ((write_accepts c (length o)).0 silent).0

    room : 20 + 24 * c.n ≤ length o
    room = ((write_accepts c (length o)).0 silent).1

    rest : List ℕ
    rest = drop (length (packed c)) o

    wrote : (a ≡ record { number = 0; place = 0; length = length (packed c) }) × (p ≡ packed c ++ rest)
    wrote = output_fine (write_fine c (length o) silent) v

    read : read_answer (packed c) ≡ record { number = 0; place = 0; chain = trimmed c }
    read = sym (ap read_answer (ap (take (packed_length c.n)) wrote.1 ∙ take_at (packed c) rest (packed_length c.n) (packed_length_law c))) ∙ read_of_write c o p a v z

    header : Header (packed c) c.n c.period 20 (20 + 20 * c.n) (20 + 24 * c.n)
    header = packed_header c sound

    tables : Tables (packed c) 20 (20 + 20 * c.n) c
    tables = packed_tables c sound ((read_exactly (packed c) (trimmed c)).0 read)

    behind : (i : ℕ) → 20 + 24 * c.n ≤ i → get_or (packed c ++ rest) i 0 ≡ get_or o i 0
    behind i l =
        let e : length (packed c) + (i - length (packed c)) ≡ i = omega (arith, packed_length_law c) in
        ap (λ (k : ℕ). get_or (packed c ++ rest) k 0) (sym e) ∙ get_or-append-add (packed c) rest (i - length (packed c)) 0
        ∙ get_or-drop (length (packed c)) o (i - length (packed c)) 0 ∙ ap (λ (k : ℕ). get_or o k 0) e

    front : (i : ℕ) → i < 20 + 24 * c.n → get_or (packed c ++ rest) i 0 < 256
    front i l = rw (get_or-append (packed c) rest 0 i (omega (arith, packed_length_law c))) (packed_small c i)

    whole : WrittenAs c o (packed c ++ rest)
    whole = record {
      header = record {
        count = word_front rest header.count;
        period = word_front rest header.period;
        queues = word_front rest header.queues;
        nodes = word_front rest header.nodes;
        total = word_front rest header.total;
      };
      tables = record { rows = λ i l. row_front rest (tables.rows i l); nodes = λ i l. word_front rest (tables.nodes i l) };
      small = front;
      rest = behind;
      long = omega (arith, length-append (packed c) rest, length-drop (length (packed c)) o, packed_length_law c, room);
    }
