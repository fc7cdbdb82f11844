-- What the report program prints, by what reading and analysing answer: of the words by which it is defined none stands in these laws but `printed`.
--   f                      the bytes of a file
--   IsReport a t, IsRefusal N L t
--                          the bytes t are the report of the analysis a, and the line of the refusal N at L (promises, Columns)
use Rattle.std.specs.Prelude.{cond, List, eqb}
use Prim.Native.Nat.{ℕ}
use Rattle.ardenquill.specs.Reports.{report_text, refusal_text}
use Rattle.ardenquill.specs.Records.{Refusal}

-- what is printed of a file that r refuses, or does not
abbrev pub prints : List ℕ → Refusal → List ℕ
prints f r = cond (eqb r.number 0) (report_text f) (refusal_text r.number r.place)
