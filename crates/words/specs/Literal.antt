-- Texts that stand for their bytes.
--   text s   the bytes of the string s
use Rattle.std.specs.Prelude.{List, [], ◌∷◌, ℕ}
use Prim.Native.Char.{code}
use Prim.Native.String.{String, [] as none, ◌∷◌ as ◌then◌}

-- a byte for each character, which is one of ASCII wherever a text is written
abbrev pub text : String → List ℕ
text none = []
text (c then s) = code c ∷ text s
