-- Laws of specs/RoundTrip.antt that rest on a definition which an edit of must-fail/ changes.
-- What is read and written agrees (demand 2: "Reading a written chain file gives the chain back; writing a chain that was read gives the packed file").
--   read_of_write                      what the writer leaves is read as the chain, its slots past n zero
--   trimmed_read                       a chain that the reader gives has its slots past n zero
--   read_writable, packed_read, write_of_read
--                                      the chain of an accepted file is written, and the bytes are packed_file
--   packed_again                       which is the file itself where that was packed
--   ignored                            "Bytes in neither header nor table are ignored"
use Rattle.std.specs.Prelude.{◌≡◌, List, [], ◌∷◌, ◌++◌, ℕ, ◌+◌, ◌*◌, ◌^◌, ◌≤◌, ◌<◌, length, get_or, take, drop}
use Rattle.std.proofs.Math.Path.{refl, sym, ap, ap₂}
use Rattle.std.proofs.Common.{◌∙◌, add-zero, arith, get_or-append-add, take_at, take_all}
use Rattle.std.proofs.Math.ListN.{get_or-append}
use Rattle.words.specs.Flat.{flat, flat_at}
use Rattle.words.specs.Table.{slot_used, slots_alike, slots_again}
use Rattle.words.specs.Words.{bytes_of, word_at, Bytes, part, part_add, Alike}
use Rattle.words.proofs.WordsLaws.{bytes_length, word_at_law, word_back, word_alike}
use Rattle.words.specs.Rows.{none, row, row_at, same_row}
use Rattle.words.proofs.RowsLaws.{row_there, table_back, row_back, row_alike}
use Rattle.words.specs.declared.Queue.{Queue}
use Rattle.chain.specs.Refusals.{first, Silent}
use Rattle.chain.specs.Record.{row_of, work_of, trimmed, answered, answered_fine, same_chain, trimmed_answer}
use Rattle.chain.specs.Sound.{SoundRow, Sound}
use Rattle.chain.specs.declared.Chain.{Chain}
use Rattle.chain.specs.declared.ChainAnswer.{ChainAnswer}
use Rattle.chainfile.specs.File.{count_of, period_of, queues_at, nodes_at, total_of, chain_of, read_checks, read_refusal, read_answer}
use Rattle.chainfile.specs.Accepted.{Placed, AcceptedFile, write_accepts, write_fine}
use Rattle.chainfile.proofs.AcceptedLaws.{read_accepts, read_fine}
use Rattle.chainfile.specs.Packed.{packed_length, header, rows, nodes, words, packed, write_refusal, Output, output_fine, rows_length, packed_length_law, packed_parts}
use Rattle.chainfile.specs.declared.LengthAnswer.{LengthAnswer}
use Rattle.chainfile.specs.RoundTrip.{packed_file}

-- the packed file of a sound chain, read word by word
module _ (c : Chain) (s : Sound c) where
  -- the word at o is the chain's word k
  word_is : (o k v : ℕ) → o ≡ 4 * k → k < 5 + 6 * c.n → get_or (words c) k 0 ≡ v → v < 2 ^ 32 → word_at (packed c) o ≡ v
  unfolding packed
  word_is o k v e l g h = ap (word_at (packed c)) e ∙ word_at_law (words c) k (omega (arith, bytes_length (words c), packed_length_law c)) (rw g h) ∙ g

  count_is : count_of (packed c) ≡ c.n
  count_is = word_is 0 0 c.n refl (omega arith) refl (omega (arith, s.count.1))

  period_is : period_of (packed c) ≡ c.period
  period_is = word_is 4 1 c.period refl (omega arith) refl (omega (arith, s.period.1))

  queues_at_law : queues_at (packed c) ≡ 20
  queues_at_law = word_is 8 2 20 refl (omega arith) refl (omega arith)

  nodes_at_law : nodes_at (packed c) ≡ 20 + 20 * c.n
  nodes_at_law = word_is 12 3 (20 + 20 * c.n) refl (omega arith) refl (omega (arith, s.count.1))

  total_is : total_of (packed c) ≡ packed_length c.n
  total_is = word_is 16 4 (packed_length c.n) refl (omega arith) refl (omega (arith, s.count.1))

  row_is : (i : ℕ) → i < c.n → row_at (packed c) (20 + 20 * i) ≡ row_of c i
  row_is i h =
      let r : SoundRow (row_of c i) = s.rows i h in
      row_there (packed c) (20 + 20 * i) (omega (arith, packed_length_law c))
      ∙ same_row (rw (add-zero (20 + 20 * i)) at (field 0 (omega arith) (omega arith))) (field 1 (omega arith) (omega arith))
      (field 2 (omega arith) (omega arith)) (field 3 (omega arith) (omega arith)) (field 4 (omega arith) (omega arith))
    where
      among : (j : ℕ) → j < 5 → get_or (words c) (5 + (5 * i + j)) 0 ≡ get_or (row (row_of c i)) j 0
      among j l =
          get_or-append-add (header c.n c.period) (rows c c.n ++ nodes c c.n) (5 * i + j) 0
          ∙ get_or-append (rows c c.n) (nodes c c.n) 0 (5 * i + j) (omega (arith, rows_length c c.n))
          ∙ flat_at (λ k. row (row_of c k)) 5 (λ k. refl) c.n i j 0 h l

      field : (j : ℕ) → j < 5 → get_or (row (row_of c i)) j 0 < 2 ^ 32 → word_at (packed c) (20 + 20 * i + 4 * j) ≡ get_or (row (row_of c i)) j 0
      field j l m = word_is _ (5 + (5 * i + j)) _ (omega arith) (omega arith) (among j l) m

  node_is : (i : ℕ) → i < c.n → word_at (packed c) (20 + 20 * c.n + 4 * i) ≡ work_of c i
  node_is i h = word_is _ (5 + (5 * c.n + i)) _ (omega arith) (omega arith) among (omega (arith, (s.work i h).1))
    where
      among : get_or (words c) (5 + (5 * c.n + i)) 0 ≡ work_of c i
      among =
          let one : 1 * i + 0 ≡ i = omega arith in
          get_or-append-add (header c.n c.period) (rows c c.n ++ nodes c c.n) (5 * c.n + i) 0
          ∙ rw (← rows_length c c.n) (get_or-append-add (rows c c.n) (nodes c c.n) i 0)
          ∙ rw one at (flat_at (λ k. work_of c k ∷ []) 1 (λ k. refl) c.n i 0 0 h (omega arith))

  -- so it says the chain, and the reader accepts it
  chain_is : chain_of (packed c) ≡ trimmed c
  unfolding chain_of trimmed
  chain_is = simp (count_is, period_is, queues_at_law, nodes_at_law)
      (same_chain refl refl (slots_alike _ (row_of c) none 16 c.n row_is) (slots_alike _ (work_of c) 0 16 c.n node_is))

  trimmed_sound : Sound (trimmed c)
  unfolding trimmed
  trimmed_sound = record {
    count = s.count;
    period = s.period;
    rows = λ i h. rw (slot_used (row_of c) none 16 c.n i none (omega (arith, s.count.1)) h) (s.rows i h);
    work = λ i h. rw (slot_used (work_of c) 0 16 c.n i 0 (omega (arith, s.count.1)) h) (s.work i h);
  }

  packed_accepted : AcceptedFile (packed c)
  packed_accepted = record {
    places = record {
      count = rw count_is s.count;
      long = (omega (arith, packed_length_law c), omega (arith, packed_length_law c, s.count.1));
      total = total_is ∙ sym (packed_length_law c);
      queues = rw (queues_at_law, count_is) (refl, (omega arith, omega (arith, packed_length_law c)));
      nodes = rw (nodes_at_law, count_is) (omega arith, (omega arith, omega (arith, packed_length_law c)));
    };
    apart = rw (queues_at_law, nodes_at_law, count_is) (λ s. omega (arith, s.in_queues, s.in_nodes));
    chain = rw chain_is trimmed_sound;
  }

  read_packed : read_answer (packed c) ≡ record { number = 0; place = 0; chain = trimmed c }
  unfolding read_answer
  read_packed = ap₂ answered (read_fine (packed c) ((read_accepts (packed c)).1 packed_accepted)) chain_is ∙ sym (answered_fine (trimmed c) refl)

-- a chain is written into lent bytes o, which become p, and not refused: the first 20+24n of them are read as that chain
pub read_of_write : (c : Chain) (o p : List ℕ) (a : LengthAnswer) → Output (write_refusal c (length o)) (packed c) o p a → a.number ≡ 0
    → read_answer (take (packed_length c.n) p) ≡ record { number = 0; place = 0; chain = trimmed c }
read_of_write c o p a w z =
    let silent : Silent (write_refusal c (length o)) = sym (ap (λ (x : LengthAnswer). x.number) w.answer) ∙ z in
    ap (λ (l : List ℕ). read_answer (take (packed_length c.n) l)) (output_fine (write_fine c (length o) silent) w).1
    ∙ ap read_answer (take_at (packed c) _ (packed_length c.n) (packed_length_law c))
    ∙ read_packed c ((write_accepts c (length o)).0 silent).0

pub trimmed_read : (f : List ℕ) → trimmed (read_answer f).chain ≡ (read_answer f).chain
unfolding read_answer chain_of trimmed
trimmed_read f = trimmed_answer (read_refusal f) (chain_of f)
    (same_chain refl refl (slots_again (λ i. row_at f (queues_at f + 20 * i)) none 16 (count_of f)) (slots_again (λ i. word_at f (nodes_at f + 4 * i)) 0 16 (count_of f)))

-- the writer accepts what the reader accepted
pub read_writable : (f : List ℕ) (room : ℕ) → Silent (read_refusal f) → packed_length (count_of f) ≤ room → Silent (write_refusal (chain_of f) room)
unfolding chain_of
read_writable f room z l = (write_accepts (chain_of f) room).1 (((read_accepts f).0 z).chain, l)

-- and writes its tables byte by byte as they stand in the file
pub packed_read : (f : List ℕ) → Bytes f → Silent (read_refusal f) → packed (chain_of f) ≡ packed_file f
unfolding chain_of packed_file
packed_read f b z =
    packed_parts (chain_of f)
    ∙ ap₂ (λ (q w : List ℕ). bytes_of (header (count_of f) (period_of f)) ++ (q ++ w))
    (table_back f (queues_at f) 20 (λ i. row (row_of (chain_of f) i)) (count_of f) queue)
    (table_back f (nodes_at f) 4 (λ i. work_of (chain_of f) i ∷ []) (count_of f) node)
  where
    p : Placed f
    p = ((read_accepts f).0 z).places

    queue : (i : ℕ) → i < count_of f → bytes_of (row (row_of (chain_of f) i)) ≡ part f (queues_at f + 20 * i) 20
    queue i h =
        ap (λ (q : Queue). bytes_of (row q)) (slot_used _ none 16 (count_of f) i none (omega (arith, p.count.1)) h)
        ∙ row_back f (queues_at f + 20 * i) b (omega (arith, p.queues.1.1))

    node : (i : ℕ) → i < count_of f → bytes_of (work_of (chain_of f) i ∷ []) ≡ part f (nodes_at f + 4 * i) 4
    node i h =
        ap (λ (w : ℕ). bytes_of (w ∷ [])) (slot_used _ 0 16 (count_of f) i 0 (omega (arith, p.count.1)) h)
        ∙ word_back f (nodes_at f + 4 * i) b (omega (arith, p.nodes.1.1))

-- the chain that a file was read as is written into lent bytes o with room for it, which become p: packed_file, then the rest of o
pub write_of_read : (f o p : List ℕ) (r : ChainAnswer) (a : LengthAnswer) → Bytes f → r ≡ read_answer f → r.number ≡ 0
    → packed_length (count_of f) ≤ length o → Output (write_refusal r.chain (length o)) (packed r.chain) o p a
    → (a ≡ record { number = 0; place = 0; length = packed_length (count_of f) }) × (p ≡ packed_file f ++ drop (packed_length (count_of f)) o)
unfolding chain_of read_answer
write_of_read f o p r a b is n l t =
    let z : Silent (read_refusal f) = sym (ap (λ (x : ChainAnswer). x.number) is) ∙ n in
    let same : r.chain ≡ chain_of f = ap (λ (x : ChainAnswer). x.chain) (is ∙ sym (answered_fine (chain_of f) (sym (read_fine f z)))) in
    let w : Output (write_refusal (chain_of f) (length o)) (packed (chain_of f)) o p a = rw same at t in
    let h = output_fine (write_fine (chain_of f) (length o) (read_writable f (length o) z l)) w in
    let e : length (packed (chain_of f)) ≡ packed_length (count_of f) = packed_length_law (chain_of f) in
    (h.0 ∙ ap (λ (n : ℕ). record { number = 0; place = 0; length = n }) e, h.1 ∙ ap₂ (λ (t : List ℕ) (n : ℕ). t ++ drop n o) (packed_read f b z) e)

-- "the queue table at 20, the node table at 20+20n and length 20+24n": such a file is its own packed file
pub packed_again : (f : List ℕ) → Bytes f → Silent (read_refusal f) → queues_at f ≡ 20 → nodes_at f ≡ 20 + 20 * count_of f → length f ≡ packed_length (count_of f) → packed_file f ≡ f
unfolding packed_file flat
packed_again f b z q w l =
    ap (λ (h : List ℕ). h ++ (part f (queues_at f) (20 * n) ++ part f (nodes_at f) (4 * n))) front
    ∙ rw (q, w) (sym (part_add f 0 20 (20 * n + 4 * n) ∙ ap (λ (t : List ℕ). part f 0 20 ++ t) (part_add f 20 (20 * n) (4 * n))))
    ∙ take_all (20 + (20 * n + 4 * n)) f (omega arith)
  where
    n : ℕ
    n = count_of f

    word : ℕ → List ℕ
    word i = word_at f (0 + 4 * i) ∷ []

    front : bytes_of (header n (period_of f)) ≡ part f 0 20
    front =
        let t : total_of f ≡ packed_length n = ((read_accepts f).0 z).places.total ∙ l in
        let e : header n (period_of f) ≡ flat word 5 = rw (q, w, t) in
        ap bytes_of e ∙ table_back f 0 4 word 5 (λ i h. word_back f (0 + 4 * i) b (omega arith))

-- files of one length that agree in the header and in both tables are read alike, refused or not
pub ignored : (f g : List ℕ) → length f ≡ length g → Alike f g 0 20 → Alike f g (queues_at f) (20 * count_of f) → Alike f g (nodes_at f) (4 * count_of f) → read_answer f ≡ read_answer g
unfolding read_answer chain_of
ignored f g e h hq hw = ap₂ answered checks chain
  where
    word : (at : ℕ) → at + 4 ≤ 20 → word_at f at ≡ word_at g at
    word at l = word_alike f g at e (λ i m k. h i (omega arith) (omega arith))

    n : count_of f ≡ count_of g
    n = word 0 (omega arith)

    q : queues_at f ≡ queues_at g
    q = word 8 (omega arith)

    w : nodes_at f ≡ nodes_at g
    w = word 12 (omega arith)

    queue : (i : ℕ) → i < count_of g → row_at f (queues_at g + 20 * i) ≡ row_at g (queues_at g + 20 * i)
    queue i l = row_alike f g _ e (λ k a b. hq k (omega (arith, q)) (omega (arith, q, n)))

    node : (i : ℕ) → i < count_of g → word_at f (nodes_at g + 4 * i) ≡ word_at g (nodes_at g + 4 * i)
    node i l = word_alike f g _ e (λ k a b. hw k (omega (arith, w)) (omega (arith, w, n)))

    chain : chain_of f ≡ chain_of g
    chain = simp (n, word 4 (omega arith), q, w) (same_chain refl refl (slots_alike _ _ none 16 (count_of g) queue) (slots_alike _ _ 0 16 (count_of g) node))

    checks : first (read_checks f) ≡ first (read_checks g)
    checks = cc (e, n, q, w, word 16 (omega arith), chain)
