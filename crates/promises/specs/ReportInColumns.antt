-- Demand 2, the report and the line of a refusal as bytes, by what reading and analysing answer: of the words by which their texts are defined none stands in these
-- laws but in the calls' contracts, of which they are laws.
--   f, o, p, r               the bytes of a file; lent bytes before and after a call, and its answer
--   analyse_answer (read_answer f).chain
--                            what analyse answers of the chain that read answers of f
--   IsReport a t, IsRefusal N L t
--                            the bytes t are the report of the analysis a, and the line of the refusal N at L: line by line, each ended by one line feed, and column
--                            by column, the numbers read back (Columns)
--   Lent t o p r             t stands at the front of the lent bytes, or 10 is said where they are too short; and no other byte changes
--   LentOne Is o p r         so it is of a text of which Is holds
--   report_only, refusal_only
--                            no other text is the report, or the line
--   report_refused_read, report_refused_analysis
--                            a report is refused as reading its file is, and then as analysing its chain is
--   report_lent              and where neither is, the report is what the lent bytes get, or 10
--   report_columns           so what an accepted call leaves at their front is the report
--   refusal_lent             the call that writes the line of a refusal gives them that line, or 10
--   headed_when              when a text begins with the first line
--   longest_report_is        how many bytes LONGEST_REPORT says
--   report_fits              which are room enough for every report
use Rattle.std.specs.Prelude.{◌≡◌, refl, true, ◌↔◌, ◌≢◌, List, [], ◌∷◌, ◌++◌, ℕ, ◌+◌, ◌-◌, ◌≤◌, ◌<◌, length, get_or, take, drop}
use Rattle.std.proofs.Common.{sym, ap, subst, ◌∙◌, arith, length-append, length-drop, take_at, get_or-drop, get_or-append-add, lt-ltb, le-ltb, eq-eqb, ne_eqb}
use Rattle.std.proofs.Math.Logic.{by_cases}
use Rattle.std.proofs.Math.Decide.{ℕ_discrete, dec_lt}
use Rattle.ardenquill.specs.Chains as chains
use Rattle.ardenquill.specs.Chains.{Silent, refused}
use Rattle.ardenquill.specs.Files.{read_answer, chain_of, read_refusal, room_check, Output, output_fine}
use Rattle.ardenquill.specs.Analyses.{analysis_of, analyse_answer, sized}
use Rattle.ardenquill.specs.Records.{Refusal, Chain, Analysis, LengthAnswer}
use Rattle.ardenquill.specs.Reports.{report_text, report_refusal, refusal_text, report_as_read, report_as_analysed, report_as_room, headed, headed_true, longest_report, report_room}
use Rattle.promises.specs.Columns.{first_line, IsReport, IsRefusal, report_is, refusal_is}
use Rattle.promises.specs.Replay.{accepts_is}
use Rattle.promises.specs.Laws.{report_is as answered-analysis}

-- 10: "lent output shorter than what would be written", place "bytes needed"; else the text is written. Behind the length that is answered the lent bytes are as they
-- were, and where it is refused, with length 0, all of them: "lent output untouched"
pub record Lent (t o p : List ℕ) (r : LengthAnswer) : Type 0 where
  pub short : length o < length t → r ≡ record { number = 10; place = length t; length = 0 }
  pub room : length t ≤ length o → r ≡ record { number = 0; place = 0; length = length t }
  pub front : r.number ≡ 0 → take r.length p ≡ t
  pub rest : (k : ℕ) → r.length ≤ k → get_or p k 0 ≡ get_or o k 0
  pub whole : length p ≡ length o

-- so it is of a text of which Is holds
pub record LentOne (Is : List ℕ → Type 0) (o p : List ℕ) (r : LengthAnswer) : Type 0 where
  pub text : List ℕ
  pub is : Is text
  pub lent : Lent text o p r

-- what a call that checks the room alone leaves
lent : {t o p : List ℕ} {r : LengthAnswer} → Output (room_check (length t) (length o)) t o p r → Lent t o p r
lent {t} {o} {p} {r} w = by_cases (dec_lt (length o) (length t)) shorter enough
  where
    shorter : length o < length t → Lent t o p r
    shorter l =
        let e : room_check (length t) (length o) ≡ refused 10 (length t) = simp (lt-ltb _ _ l) in
        let v : Output (refused 10 (length t)) t o p r = rw e at w in
        record {
          short = λ m. v.answer;
          room = λ m. absurd (omega arith);
          front = λ z. absurd (omega (arith, ap (λ (a : LengthAnswer). a.number) v.answer));
          rest = λ k m. ap (λ (q : List ℕ). get_or q k 0) v.bytes;
          whole = ap length v.bytes;
        }

    behind : (k : ℕ) → length t ≤ k → get_or (t ++ drop (length t) o) k 0 ≡ get_or o k 0
    behind k m =
        let e : k ≡ length t + (k - length t) = omega arith in
        rw e (get_or-append-add t (drop (length t) o) (k - length t) 0 ∙ get_or-drop (length t) o (k - length t) 0)

    enough : (length o < length t → ⊥) → Lent t o p r
    enough n =
        let l : length t ≤ length o = omega arith in
        let h = output_fine (simp (le-ltb _ _ l)) w in
        record {
          short = λ m. absurd (n m);
          room = λ m. h.0;
          front = λ z. rw (h.0, h.1) (take_at t _ (length t) refl);
          rest = λ k m. rw h.1 (behind k (omega (arith, ap (λ (a : LengthAnswer). a.length) h.0)));
          whole = ap length h.1 ∙ omega (arith, length-append t (drop (length t) o), length-drop (length t) o);
        }

-- "A refusal gives number and place, all other results zero, lent output untouched"
refuses : {q : Refusal} {t o p : List ℕ} {r : LengthAnswer} → Output q t o p r → q.number ≢ 0 → (r ≡ record { number = q.number; place = q.place; length = 0 }) × (p ≡ o)
refuses w n = (w.answer ∙ simp (ne_eqb _ _ n), w.bytes ∙ simp (ne_eqb _ _ n))

-- the texts that a report and the line of a refusal are: nothing else fits
pub report_only : (a : Analysis) (s t : List ℕ) → IsReport a s → IsReport a t → s ≡ t
report_only a s t h g = (report_is a s).0 h ∙ sym ((report_is a t).0 g)

pub refusal_only : (N L : ℕ) (s t : List ℕ) → IsRefusal N L s → IsRefusal N L t → s ≡ t
refusal_only N L s t h g = (refusal_is N L s).0 h ∙ sym ((refusal_is N L t).0 g)

-- what the report call answers and leaves
module _ (f o p : List ℕ) (r : LengthAnswer) (w : Output (report_refusal f (length o)) (report_text f) o p r) where
  -- 01's "The reader checks 1 to 5": a file that reading refuses is refused alike
  pub report_refused_read : (read_answer f).number ≢ 0 → (r ≡ record { number = (read_answer f).number; place = (read_answer f).place; length = 0 }) × (p ≡ o)
  unfolding read_answer chains.answered
  report_refused_read n = refuses (rw (report_as_read f (length o) n) at w) n

  module _ (read : (read_answer f).number ≡ 0) where
    chain_is : (read_answer f).chain ≡ chain_of f
    unfolding read_answer chains.answered
    chain_is = simp (eq-eqb _ _ read)

    quiet : Silent (read_refusal f)
    unfolding read_answer chains.answered
    quiet = read

    -- "Analysis checks also 6, 7": one whose chain analysing refuses is refused alike
    pub report_refused_analysis : let a = analyse_answer (read_answer f).chain in a.number ≢ 0 → (r ≡ record { number = a.number; place = a.place; length = 0 }) × (p ≡ o)
    unfolding analyse_answer sized
    report_refused_analysis = subst
        (λ (c : Chain). (analyse_answer c).number ≢ 0 → (r ≡ record { number = (analyse_answer c).number; place = (analyse_answer c).place; length = 0 }) × (p ≡ o))
        (sym chain_is)
        (λ n. refuses (rw (report_as_analysed f (length o) quiet n) at w) n)

    room_left : (analyse_answer (read_answer f).chain).number ≡ 0 → report_refusal f (length o) ≡ room_check (length (report_text f)) (length o)
    unfolding analyse_answer sized
    room_left z = report_as_room f (length o) quiet (sym (ap (λ (c : Chain). (analyse_answer c).number) chain_is) ∙ z)

    analysis_is : (analyse_answer (read_answer f).chain).number ≡ 0 → (analyse_answer (read_answer f).chain).analysis ≡ analysis_of (chain_of f)
    analysis_is z = answered-analysis _ ((accepts_is _).0 z) ∙ ap analysis_of chain_is

    -- and else the report is written, if there is room
    pub report_lent : (analyse_answer (read_answer f).chain).number ≡ 0 → LentOne (IsReport (analyse_answer (read_answer f).chain).analysis) o p r
    report_lent z = record {
      text = report_text f;
      is = subst (λ (a : Analysis). IsReport a (report_text f)) (sym (analysis_is z)) ((report_is (analysis_of (chain_of f)) (report_text f)).1 refl);
      lent = lent (subst (λ (q : Refusal). Output q (report_text f) o p r) (room_left z) w);
    }

  -- "It .. writes decimal text": what an accepted call leaves at the front of the lent bytes is the report of what reading and analysing answer, and behind it they are
  -- as they were
  pub report_columns : r.number ≡ 0
      → IsReport (analyse_answer (read_answer f).chain).analysis (take r.length p) × (((k : ℕ) → r.length ≤ k → get_or p k 0 ≡ get_or o k 0) × (length p ≡ length o))
  report_columns z = by_cases (ℕ_discrete (read_answer f).number 0)
      (λ read. by_cases (ℕ_discrete (analyse_answer (read_answer f).chain).number 0)
      (λ ok. let t = report_lent read ok in (rw (t.lent.front z) t.is, (t.lent.rest, t.lent.whole)))
      (λ n. absurd (n (sym (ap (λ (a : LengthAnswer). a.number) (report_refused_analysis read n).0) ∙ z))))
      (λ n. absurd (n (sym (ap (λ (a : LengthAnswer). a.number) (report_refused_read n).0) ∙ z)))

-- "A refusal prints only the line `refused,number,place`": what the call that writes that line answers and leaves
pub refusal_lent : (N L : ℕ) (o p : List ℕ) (r : LengthAnswer) → Output (room_check (length (refusal_text N L)) (length o)) (refusal_text N L) o p r → LentOne (IsRefusal N L) o p r
refusal_lent N L o p r w = record { text = refusal_text N L; is = (refusal_is N L _).1 refl; lent = lent w }

-- "The first line is always" the same: a text is headed exactly where its first bytes are that line and its line feed
pub headed_when : (t : List ℕ) → let line = first_line ++ (10 ∷ []) in (headed t ≡ true) ↔ (take (length line) t ≡ line)
headed_when = headed_true

-- what LONGEST_REPORT says, as a number
pub longest_report_is : longest_report ≡ 1312
longest_report_is = refl

-- so many lent bytes are enough for every report
pub report_fits : (f o p : List ℕ) (a : LengthAnswer) → Output (report_refusal f (length o)) (report_text f) o p a → longest_report ≤ length o → a.number ≢ 10
report_fits f o p a w l e =
    let r : Refusal = report_refusal f (length o) in
    let said : r.number ≡ 10 = sym (ap (λ (x : LengthAnswer). x.number) w.answer) ∙ e in
    report_room f (length o) r.place l (λ k. record { number = said k; place = r.place })
