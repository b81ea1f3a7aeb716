-- A line fed byte by byte.
use mathlib.Core.List.{List, [], ◌∷◌}
use Prim.Native.Nat.{ℕ}
use Rattle.text.specs.declared.Parse.{Parse}
use Rattle.text.specs.Parsing.{fed}

unfoldable pub fed_all : Parse → List ℕ → Parse
fed_all parse [] = parse
fed_all parse (byte ∷ bytes) = fed_all (fed parse byte) bytes
