-- What the exported functions return and leave in the lent numbers, by the results that the public calls promise.
-- Document 01, "What each operation may say no to".
use Rattle.std.specs.Prelude.{List, [], ◌∷◌, ◌++◌, ℕ, ◌+◌, ◌*◌, ◌^◌, replicate}
use Rattle.prelude.specs.Answer.{Answer, gives, absent, refused, refusal_in}
use Rattle.interface.specs.Set.{Store, State, Invalidations, FormatResult, stores_after, Recovery, CallResult, ReadOnlyResult, index_of, Index}

-- the lent answer of n words: 1 and the values that the call gives, or zeros for absent. "A refused call changes no
-- lent byte, index number or state"
unfoldable pub answered : (n : ℕ) → Answer → (lent : List ℕ) → List ℕ
answered n (gives values) lent = 1 ∷ values
answered n absent lent = replicate n 0
answered n (refused number) lent = lent

-- the lent answer of n + 1 words: the same, and the count of slots compared in the last. Document 02, A.4
unfoldable pub answered_with : (n : ℕ) → Answer → (compared : ℕ) → (lent : List ℕ) → List ℕ
answered_with n (gives values) compared lent = 1 ∷ values ++ (compared ∷ [])
answered_with n absent compared lent = replicate n 0 ++ (compared ∷ [])
answered_with n (refused number) compared lent = lent

-- a refusal's number with a second number, which counts 2^32 each; 0 for no refusal
unfoldable pub returned_with : Answer → (second : ℕ) → ℕ
returned_with (gives values) second = 0
returned_with absent second = 0
returned_with (refused number) second = number + 2 ^ 32 * second

-- ---- format

-- what a call of format returns, 0 or a refusal's number, and the lent answer and bytes after it
pub record FormatCall : Type 0 where
  pub returns : ℕ
  pub answer : List ℕ
  pub bytes : List ℕ

-- what a call of format with this code left
abbrev pub format_left : (code : ℕ) → (answer bytes : List ℕ) → FormatCall
format_left code answer bytes = record { returns = code; answer = answer; bytes = bytes }

-- the same, by the result of format and the lent answer
unfoldable pub format_call : FormatResult → (answer : List ℕ) → FormatCall
format_call r answer = record { returns = refusal_in r.answer; answer = answered 2 r.answer answer; bytes = r.bytes }

-- ---- recover

-- what a call of recover returns, 0 or a refusal's number and slot, and the lent invalidating stores and index, its
-- state included, after it
pub record RecoverCall : Type 0 where
  pub returns : ℕ
  pub invalidations : Invalidations
  pub index : Index

-- what a call of recover with this code left
abbrev pub recover_left : (code : ℕ) → State → Invalidations → (heads next : List ℕ) → RecoverCall
recover_left code s invalidations heads next =
    record { returns = code; invalidations = invalidations; index = index_of heads next s }

-- what a call gives, or what was lent where it gives nothing
unfoldable pub given_or_lent : {A : Type 0} → Answer → (given lent : A) → A
given_or_lent (gives values) given lent = given
given_or_lent absent given lent = lent
given_or_lent (refused number) given lent = lent

-- the same, by the result of recover and the lent state and invalidating stores
unfoldable pub recover_call : Recovery → State → Invalidations → RecoverCall
recover_call r s invalidations =
    record {
      returns = returned_with r.answer r.slot;
      invalidations = given_or_lent r.answer r.invalidations invalidations;
      index = index_of r.index.heads r.index.next (given_or_lent r.answer r.index.state s);
    }

-- ---- insert, replace and remove

-- what a call that writes returns, 0 or a refusal's number with the slots compared, and the lent answer, stores and
-- index, its state included, after it
pub record ChangeCall : Type 0 where
  pub returns : ℕ
  pub answer : List ℕ
  pub stores : List Store
  pub index : Index

-- what a call that writes left, with this code
abbrev pub change_left : (code : ℕ) → (answer : List ℕ) → State → List Store → (heads next : List ℕ) → ChangeCall
change_left code answer s stores heads next =
    record { returns = code; answer = answer; stores = stores; index = index_of heads next s }

-- the same, by the result of the call and the lent answer and stores
unfoldable pub change_call : CallResult → (answer : List ℕ) → (stores : List Store) → ChangeCall
change_call r answer stores =
    record {
      returns = returned_with r.answer r.compared;
      answer = answered_with 3 r.answer r.compared answer;
      stores = stores_after r.stores stores;
      index = r.index;
    }

-- ---- get

-- what a call of get returns, 0 or a refusal's number with the slots compared, and the lent answer and output after it
pub record GetCall : Type 0 where
  pub returns : ℕ
  pub answer : List ℕ
  pub out : List ℕ

-- what a call of get with this code left
abbrev pub get_left : (code : ℕ) → (answer out : List ℕ) → GetCall
get_left code answer out = record { returns = code; answer = answer; out = out }

-- the same, by the result of get and the lent answer
unfoldable pub get_call : ReadOnlyResult → (answer : List ℕ) → GetCall
get_call r answer =
    record { returns = returned_with r.answer r.compared; answer = answered_with 2 r.answer r.compared answer; out = r.out }

-- ---- locate

pub record LocateCall : Type 0 where
  pub returns : ℕ
  pub answer : List ℕ

-- what a call of locate with this code left
abbrev pub locate_left : (code : ℕ) → (answer : List ℕ) → LocateCall
locate_left code answer = record { returns = code; answer = answer }

-- the code, and the answer: 1, slot and version, or zeros for absent, and the slots compared
unfoldable pub locate_call : ReadOnlyResult → (answer : List ℕ) → LocateCall
locate_call r answer = record { returns = returned_with r.answer r.compared; answer = answered_with 3 r.answer r.compared answer }
