-- A report and the line of a refusal, read back line by line and column by column (01, Report program; 02, Item 1), said without the definitions of their texts.
--   cut b t                 the pieces of t between its bytes b (Cut)
--   Writes s n, WritesSigned s z
--                           the bytes s write the number n, and the signed number z (Written)
--   Column                  what a column has: the bytes of a word, a number, or a signed number
--   Reads s c               the bytes s are that
--   IsLine cs s             s, cut at its commas (44), has these columns and no other
--   line_at t i              line i of t, which is cut at its line feeds (10)
--   first_line              the first line, without its line feed
--   queue_columns i q, busy_columns a, refusal_columns N L
--                           the columns of queue i's line, of the last line, and of the line of a refusal
--   IsReport a t, IsRefusal N L t
--                           t is the report of the analysis a, and the line of the refusal N at L
--   report_is, refusal_is   it is so exactly where t is `text_of`, and `refusal_text`: nothing else fits
use Rattle.std.specs.Prelude.{◌≡◌, refl, ◌↔◌, ℕ, zero, suc, ◌+◌, ◌<◌, ℤ}
use Rattle.std.proofs.Common.{sym, subst, ◌∙◌, arith, length-append, ext_get_or, get_or-append-add}
use Rattle.std.proofs.Math.Path.{ap}
use Rattle.std.proofs.Math.Logic.{by_cases}
use mathlib.Core.List.{List, [], ◌∷◌, ◌++◌, map, append_assoc, append-nil}
use Rattle.std.proofs.Math.Decide.{ℕ_discrete, dec_lt}
use Rattle.std.proofs.Math.ListN.{length, get_or, get_or-append}
use Rattle.std.proofs.lemmas.List.{get_or_at}
use Rattle.ardenquill.specs.Chains.{flat, tab, tab_at, tab_last, length_tab}
use Rattle.ardenquill.specs.Reports.{decimal, column, integer, occurrences, Without, without_decimal, without_integer, text, columns, numbers, line}
use Rattle.ardenquill.specs.Reports.{lines, busy_line, text_of, refusal_text, OneLine, heading_one, queue_one, busy_one, refusal_one}
use Rattle.ardenquill.specs.Records.{QueueSize, Analysis}
use Rattle.promises.specs.Zeros.{zero_line}
use Rattle.promises.specs.Written.{Writes, WritesSigned, writes_same, signed_same, writes_decimal, signed_integer}
use Rattle.promises.specs.Cut.{cut, cut_one, cut_more, cut_same}

-- what a column has
pub data Column : Type 0 where
  word : List ℕ → Column
  number : ℕ → Column
  signed : ℤ → Column

-- "decimal text, a minus sign before a negative margin"
abbrev pub Reads : List ℕ → Column → Type 0
Reads s (word w) = s ≡ w
Reads s (number n) = Writes s n
Reads s (signed z) = WritesSigned s z

-- column k of the line is the k-th of these, and there are no more
pub record IsLine (cs : List Column) (s : List ℕ) : Type 0 where
  pub columns : length (cut 44 s) ≡ length cs
  pub reads : (k : ℕ) → k < length cs → Reads (get_or (cut 44 s) k []) (get_or cs k (word []))

-- "each line ended by one line feed"
abbrev pub line_at : List ℕ → ℕ → List ℕ
line_at t i = get_or (cut 10 t) i []

-- "The first line is always `queue,x,y,minimum,capacity,margin`", "a column `by` after `minimum`" (02, Item 1)
abbrev pub first_line : List ℕ
first_line = text "queue,x,y,minimum,by,capacity,margin"

-- "One line follows per queue: its number, its consumer's rate, b, capacity, margin", the naming count behind b (02, Item 1)
abbrev pub queue_columns : ℕ → QueueSize → List Column
queue_columns i q = number i ∷ number q.x ∷ number q.y ∷ number q.minimum ∷ number q.by ∷ number q.capacity ∷ signed q.margin ∷ []

-- "The last line is `busy`, busy ticks, cycle"
abbrev pub busy_columns : Analysis → List Column
busy_columns a = word (text "busy") ∷ number a.busy ∷ number a.cycle ∷ []

-- the first line, then the queues' lines and the last one, and behind its line feed nothing
pub record IsReport (a : Analysis) (t : List ℕ) : Type 0 where
  pub pieces : length (cut 10 t) ≡ a.n + 3
  pub first : line_at t 0 ≡ first_line
  pub queues : (i : ℕ) → i < a.n → IsLine (queue_columns i (get_or a.queues i zero_line)) (line_at t (suc i))
  pub last : IsLine (busy_columns a) (line_at t (suc a.n))
  pub ended : line_at t (suc (suc a.n)) ≡ []

-- "the line `refused,number,place`"
abbrev pub refusal_columns : ℕ → ℕ → List Column
refusal_columns N L = word (text "refused") ∷ number N ∷ number L ∷ []

-- "A refusal prints only" that line, with its line feed
pub record IsRefusal (N L : ℕ) (t : List ℕ) : Type 0 where
  pub pieces : length (cut 10 t) ≡ 2
  pub only : IsLine (refusal_columns N L) (line_at t 0)
  pub ended : line_at t 1 ≡ []

-- texts that are the same column are the same text
reads_same : {s t : List ℕ} (c : Column) → Reads s c → Reads t c → s ≡ t
reads_same (word w) v u = v ∙ sym u
reads_same (number n) v u = writes_same v u
reads_same (signed z) v u = signed_same v u

-- and so are lines of the same columns
line_same : {cs : List Column} {s t : List ℕ} → IsLine cs s → IsLine cs t → s ≡ t
line_same {cs} {s} {t} h g = cut_same 44 (ext_get_or [] (cut 44 s) (cut 44 t) (h.columns ∙ sym g.columns) (λ k l.
    let inside : k < length cs = omega (arith, h.columns) in
    reads_same (get_or cs k (word [])) (h.reads k inside) (g.reads k inside)))

-- reports of the same analysis
module _ {a : Analysis} {s t : List ℕ} (h : IsReport a s) (g : IsReport a t) where
  piece_same : (i : ℕ) → i < a.n + 3 → line_at s i ≡ line_at t i
  piece_same zero l = h.first ∙ sym g.first
  piece_same (suc i) l = by_cases (dec_lt i a.n)
      (λ m. line_same (h.queues i m) (g.queues i m))
      (λ m. by_cases (ℕ_discrete i a.n)
      (λ e. rw e (line_same h.last g.last))
      (λ n. let e : i ≡ suc a.n = omega arith in rw e (h.ended ∙ sym g.ended)))

  report_same : s ≡ t
  report_same = cut_same 10 (ext_get_or [] (cut 10 s) (cut 10 t) (h.pieces ∙ sym g.pieces) (λ i l. piece_same i (omega (arith, h.pieces))))

-- and lines of the same refusal
refusal_same : {N L : ℕ} {s t : List ℕ} → IsRefusal N L s → IsRefusal N L t → s ≡ t
refusal_same {N} {L} {s} {t} h g = cut_same 10 (ext_get_or [] (cut 10 s) (cut 10 t) (h.pieces ∙ sym g.pieces) (λ i l. at i (omega (arith, h.pieces))))
  where
    at : (i : ℕ) → i < 2 → line_at s i ≡ line_at t i
    at zero l = line_same h.only g.only
    at (suc zero) l = h.ended ∙ sym g.ended
    at (suc (suc i)) l = absurd (omega arith)

-- a line of one column, and one of one column more
line_one : {w : List ℕ} {c : Column} → Without 44 w → Reads w c → IsLine (c ∷ []) w
line_one {w} {c} f r = record { columns = ap length (cut_one 44 w f); reads = at }
  where
    at : (k : ℕ) → k < 1 → Reads (get_or (cut 44 w) k []) (get_or (c ∷ []) k (word []))
    at zero l = rw (cut_one 44 w f) r
    at (suc k) l = absurd (omega arith)

line_more : {w s : List ℕ} {c : Column} {cs : List Column} → Without 44 w → Reads w c → IsLine cs s → IsLine (c ∷ cs) (w ++ (44 ∷ s))
line_more {w} {s} {c} {cs} f r h = record { columns = ap length (cut_more 44 w s f) ∙ ap suc h.columns; reads = at }
  where
    at : (k : ℕ) → k < suc (length cs) → Reads (get_or (cut 44 (w ++ (44 ∷ s))) k []) (get_or (c ∷ cs) k (word []))
    at zero l = rw (cut_more 44 w s f) r
    at (suc k) l = rw (cut_more 44 w s f) (h.reads k (omega arith))

-- a number's text is a column
number_one : (n : ℕ) → IsLine (number n ∷ []) (decimal n)
number_one n = line_one (without_decimal 44 (omega arith) n) ((writes_decimal _ n).1 refl)

number_more : {s : List ℕ} {cs : List Column} (n : ℕ) → IsLine cs s → IsLine (number n ∷ cs) (column n 44 ++ s)
unfolding column
number_more {s} {cs} n h =
    subst (IsLine (number n ∷ cs)) (sym (append_assoc (decimal n) (44 ∷ []) s)) (line_more (without_decimal 44 (omega arith) n) ((writes_decimal _ n).1 refl) h)

-- and so is a signed one's
signed_one : (z : ℤ) → IsLine (signed z ∷ []) (integer z)
signed_one z = line_one (without_integer 44 (omega arith) z) ((signed_integer _ z).1 refl)

-- numbers in a row are columns before those that follow
numbers_more : {s : List ℕ} {cs : List Column} (ns : List ℕ) → IsLine cs s → IsLine (map number ns ++ cs) (numbers ns ++ s)
unfolding numbers
numbers_more [] h = h
numbers_more {s} (n ∷ ns) h = rw (append_assoc (column n 44) (numbers ns) s) (number_more n (numbers_more ns h))

-- the lines of a queue, of the load and of a refusal, before their line feeds
queue_line : (i : ℕ) (q : QueueSize) → IsLine (queue_columns i q) (queue_one i q).body
unfolding queue_one
queue_line i q = numbers_more (columns i q) (signed_one q.margin)

busy_line_law : (a : Analysis) → IsLine (busy_columns a) (busy_one a).body
unfolding busy_one occurrences
busy_line_law a = line_more {w = text "busy"} (record { none = refl }) refl (number_more a.busy (number_one a.cycle))

refusal_line_law : (N L : ℕ) → IsLine (refusal_columns N L) (refusal_one N L).body
unfolding refusal_one occurrences
refusal_line_law N L = line_more {w = text "refused"} (record { none = refl }) refl (number_more N (number_one L))

-- a line and what follows it, and lines in a row, are cut into these lines
cut_line : {s : List ℕ} (o : OneLine s) (t : List ℕ) → cut 10 (s ++ t) ≡ o.body ∷ cut 10 t
cut_line o t =
    ap (λ (u : List ℕ). cut 10 (u ++ t)) o.ended
    ∙ ap (cut 10) (append_assoc o.body (10 ∷ []) t)
    ∙ cut_more 10 o.body t o.plain

cut_lines : {f : ℕ → List ℕ} (o : (i : ℕ) → OneLine (f i)) (n : ℕ) (t : List ℕ) → cut 10 (flat f n ++ t) ≡ tab n (λ i. (o i).body) ++ cut 10 t
unfolding flat tab
cut_lines o zero t = refl
cut_lines {f} o (suc n) t =
    let g : ℕ → List ℕ = λ i. (o i).body in
    ap (cut 10) (append_assoc (flat f n) (f n) t) ∙ cut_lines o n (f n ++ t)
    ∙ ap (λ (ss : List (List ℕ)). tab n g ++ ss) (cut_line (o n) t)
    ∙ sym (append_assoc (tab n g) (g n ∷ []) (cut 10 t)) ∙ ap (λ (ss : List (List ℕ)). ss ++ cut 10 t) (sym (tab_last n g))

cut_last : {s : List ℕ} (o : OneLine s) → cut 10 s ≡ o.body ∷ [] ∷ []
unfolding cut
cut_last {s} o = ap (cut 10) (sym (append-nil s)) ∙ cut_line o []

-- what stands where in a table with a last line and an empty piece behind it, and how many pieces these are with a first line before them
module _ (n : ℕ) (g : ℕ → List ℕ) (b : List ℕ) where
  pieces_length : suc (length (tab n g ++ (b ∷ [] ∷ []))) ≡ n + 3
  pieces_length = omega (arith, length-append (tab n g) (b ∷ [] ∷ []), length_tab n g)

  piece_table : (i : ℕ) → i < n → get_or (tab n g ++ (b ∷ [] ∷ [])) i [] ≡ g i
  piece_table i l = get_or-append (tab n g) (b ∷ [] ∷ []) [] i (rw (length_tab n g) l) ∙ tab_at n g i [] l

  piece_last : get_or (tab n g ++ (b ∷ [] ∷ [])) n [] ≡ b
  piece_last = get_or_at (tab n g) b ([] ∷ []) [] n (length_tab n g)

  piece_end : get_or (tab n g ++ (b ∷ [] ∷ [])) (suc n) [] ≡ []
  piece_end =
      let behind : suc n ≡ length (tab n g) + 1 = omega (arith, length_tab n g) in
      rw behind (get_or-append-add (tab n g) (b ∷ [] ∷ []) 1 [])

module _ (a : Analysis) where
  -- queue i's line is one
  queue_at : (i : ℕ) → OneLine (line i (get_or a.queues i zero_line))
  queue_at i = queue_one i (get_or a.queues i zero_line)

  -- all pieces of a report
  cut_report : cut 10 (text_of a) ≡ heading_one.body ∷ (tab a.n (λ i. (queue_at i).body) ++ ((busy_one a).body ∷ [] ∷ []))
  unfolding text_of
  cut_report =
      cut_line heading_one (lines a a.n ++ busy_line a)
      ∙ ap (λ (ss : List (List ℕ)). heading_one.body ∷ ss) (cut_lines queue_at a.n (busy_line a))
      ∙ ap (λ (ss : List (List ℕ)). heading_one.body ∷ (tab a.n (λ i. (queue_at i).body) ++ ss)) (cut_last (busy_one a))

  -- the text is a report
  report_text_law : IsReport a (text_of a)
  unfolding heading_one queue_at
  report_text_law = record {
    pieces = ap length cut_report ∙ pieces_length a.n _ _;
    first = at 0;
    queues = λ i l. rw (at (suc i) ∙ piece_table a.n _ _ i l) (queue_line i (get_or a.queues i zero_line));
    last = rw (at (suc a.n) ∙ piece_last a.n _ _) (busy_line_law a);
    ended = at (suc (suc a.n)) ∙ piece_end a.n _ _;
  }
    where
      at : (i : ℕ) → line_at (text_of a) i ≡ get_or (heading_one.body ∷ (tab a.n (λ j. (queue_at j).body) ++ ((busy_one a).body ∷ [] ∷ []))) i []
      at i = ap (λ (ss : List (List ℕ)). get_or ss i []) cut_report

  -- and nothing else is
  pub report_is : (t : List ℕ) → IsReport a t ↔ (t ≡ text_of a)
  report_is t = (λ h. report_same h report_text_law, λ e. rw e report_text_law)

module _ (N L : ℕ) where
  -- the text is the line of a refusal
  refusal_text_law : IsRefusal N L (refusal_text N L)
  refusal_text_law =
      let two : cut 10 (refusal_text N L) ≡ (refusal_one N L).body ∷ [] ∷ [] = cut_last (refusal_one N L) in
      record { pieces = ap length two; only = rw two (refusal_line_law N L); ended = rw two }

  -- and nothing else is
  pub refusal_is : (t : List ℕ) → IsRefusal N L t ↔ (t ≡ refusal_text N L)
  refusal_is t = (λ h. refusal_same h refusal_text_law, λ e. rw e refusal_text_law)
