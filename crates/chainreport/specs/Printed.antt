-- What the report program prints (01, Report program).
--   printed f        the report of the file f, or the line of its refusal
use Rattle.std.specs.Prelude.{◌≡◌, cond, List, ◌++◌, ℕ, eqb, take, drop}
use Rattle.std.proofs.Common.{sym, ◌∙◌, take_at}
use Rattle.std.proofs.Math.Path.{ap}
use Rattle.std.proofs.Math.ListN.{length}
use Rattle.ardenquill.specs.Reports.{report_text, refusal_text, file_refusal}

-- the report, or, where 1 to 7 refuse the file, "only the line `refused,number,place`"
unfoldable pub printed : List ℕ → List ℕ
printed f = cond (eqb (file_refusal f).number 0) (report_text f) (refusal_text (file_refusal f).number (file_refusal f).place)

-- a text that was written to the front
pub fronted : {t p : List ℕ} {n : ℕ} (o : List ℕ) → n ≡ length t → p ≡ t ++ drop (length t) o → take n p ≡ t
fronted {t} {p} {n} o e b = ap (take n) b ∙ take_at t _ n (sym e)
