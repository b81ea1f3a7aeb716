-- Locate: where a key is held. Document 02, A.1: a second acknowledge "answers the order's present slot and its line
-- A's version".
use Rattle.std.specs.Prelude.{List, [], ◌∷◌, ℕ, length}
use Rattle.words.specs.Word.{word}
use Rattle.prelude.specs.Refusal.{or_else, unless_refused}
use Rattle.prelude.specs.Answer.{Answer, gives, absent, refused}
use Rattle.layout.specs.Line.{line_a, version_of}
use Rattle.layout.specs.Header.{lent_fault}
use Rattle.index.specs.Walk.{search, chain_fault}
use Rattle.index.specs.declared.Found.{Found}
use Rattle.index.specs.declared.Found.TheVariants.{At, Missing, BadChain}
use Rattle.calls.specs.Result.{ReadOnlyResult}
use Rattle.calls.specs.Compared.{key_compared}
use Rattle.calls.specs.declared.LocateAnswer.{LocateAnswer}
use Rattle.calls.specs.declared.Located.{Located}
use Rattle.calls.specs.declared.Located.TheVariants.{At as Here, Absent, Refused}

-- the answer's values: the slot and the version
unfoldable pub locate_says : Located → Answer
locate_says (Here slot version) = gives (slot ∷ version ∷ [])
locate_says Absent = absent
locate_says (Refused number) = refused number

-- what a call of locate with this answer left
abbrev pub locate_end : LocateAnswer → ReadOnlyResult
locate_end r = record { answer = locate_says r.located; out = []; compared = r.compared }

-- 1, 2, 3, 4, 11 (chain)
unfoldable pub locate_fault : (l : ℕ) → (image heads next : List ℕ) → (key : ℕ) → ℕ
locate_fault l image heads next key =
    or_else (lent_fault l image (length heads) (length next)) (chain_fault (search l image heads next key))

-- the slot of a held key and the version on its line A, or absent
unfoldable pub locate_done : (image : List ℕ) → Found → Answer
locate_done image (At slot prev compared) = gives (slot ∷ version_of (line_a (word image) slot 7) ∷ [])
locate_done image (Missing prev compared) = absent
locate_done image BadChain = refused 11

unfoldable pub locate_answer : (l : ℕ) → (image heads next : List ℕ) → (key : ℕ) → Answer
locate_answer l image heads next key =
    unless_refused (locate_fault l image heads next key) (locate_done image (search l image heads next key))
    (refused (locate_fault l image heads next key))

-- it has no output
abbrev pub locate_result : (l : ℕ) → (image heads next : List ℕ) → (key : ℕ) → ReadOnlyResult
locate_result l image heads next key =
    record { answer = locate_answer l image heads next key; out = []; compared = key_compared l image heads next key }
