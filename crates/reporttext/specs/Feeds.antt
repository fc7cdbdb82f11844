-- "Each line ended by one line feed" (01, Report program).
--   feeds t            how many line feeds t has
--   Plain t            none
--   OneLine t          t ends in a line feed, and has no other
--   plain_comma, _numbers
--                      a number with its comma has none, nor have such numbers in a row
--   heading-, queue-, busy-, refusal_one
--                      each line of a report is one, and that of a refusal
use Rattle.std.specs.Prelude.{◌≡◌, refl, List, [], ◌∷◌, ◌++◌, ℕ, ◌-◌, take}
use Rattle.std.proofs.Common.{sym, ap, ◌∙◌, append_assoc, arith}
use Rattle.decimal.specs.Digits.{decimal, column}
use Rattle.decimal.specs.Signed.{integer}
use Rattle.sizing.specs.declared.QueueSize.{QueueSize}
use Rattle.sizing.specs.declared.Analysis.{Analysis}
use Rattle.reporttext.specs.Occurrences.{occurrences, Without, occurrences_append, without_append, without_decimal, without_integer}
use Rattle.reporttext.specs.Text.{heading, heading_length, columns, numbers, line, busy_word, busy_line}
use Rattle.reporttext.specs.Refused.{refusal_word, refusal_text}

-- how many bytes are a line feed (10)
abbrev pub feeds : List ℕ → ℕ
feeds t = occurrences 10 t

-- none is
abbrev pub Plain : List ℕ → Type 0
Plain t = Without 10 t

-- the last byte is a line feed, and no other
pub record OneLine (t : List ℕ) : Type 0 where
  pub body : List ℕ
  pub plain : Plain body
  pub ended : t ≡ body ++ (10 ∷ [])

-- no number with its comma has one, nor have such numbers in a row
pub plain_comma : (n : ℕ) → Plain (column n 44)
unfolding column occurrences
plain_comma n = without_append (without_decimal 10 (omega arith) n) (record { none = refl })

pub plain_numbers : (ns : List ℕ) → Plain (numbers ns)
unfolding numbers occurrences
plain_numbers [] = record { none = refl }
plain_numbers (n ∷ ns) = without_append (plain_comma n) (plain_numbers ns)

-- "each line ended by one line feed": a queue's
unfoldable pub queue_one : (i : ℕ) (q : QueueSize) → OneLine (line i q)
unfolding line
queue_one i q = record {
  body = numbers (columns i q) ++ integer q.margin;
  plain = without_append (plain_numbers (columns i q)) (without_integer 10 (omega arith) q.margin);
  ended = sym (append_assoc (numbers (columns i q)) (integer q.margin) (10 ∷ []));
}

-- a word and two numbers
unfoldable worded_one : (w : List ℕ) → Plain w → (m n : ℕ) → OneLine (w ++ (column m 44 ++ column n 10))
unfolding column
worded_one w p m n = record {
  body = w ++ (column m 44 ++ decimal n);
  plain = without_append p (without_append (plain_comma m) (without_decimal 10 (omega arith) n));
  ended = ap (λ (t : List ℕ). w ++ t) (sym (append_assoc (column m 44) (decimal n) (10 ∷ []))) ∙ sym (append_assoc w (column m 44 ++ decimal n) (10 ∷ []));
}

-- so the last line, and that of a refusal
unfoldable pub busy_one : (a : Analysis) → OneLine (busy_line a)
unfolding busy_line occurrences worded_one
busy_one a = worded_one busy_word (record { none = refl }) a.busy a.cycle

unfoldable pub refusal_one : (N L : ℕ) → OneLine (refusal_text N L)
unfolding refusal_text occurrences worded_one
refusal_one N L = worded_one refusal_word (record { none = refl }) N L

-- and the first line
unfoldable pub heading_one : OneLine heading
unfolding occurrences
heading_one = record {
  body = take (heading_length - 1) heading;
  plain = record { none = refl };
  ended = refl;
}

pub one_feed : {t : List ℕ} → OneLine t → feeds t ≡ 1
unfolding occurrences
one_feed o = ap feeds o.ended ∙ occurrences_append 10 o.body (10 ∷ []) ∙ omega (arith, o.plain.none)
