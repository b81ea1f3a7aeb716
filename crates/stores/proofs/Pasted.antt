-- The stores of a record at a position of two lent lists, word numbers and values. Assumes nothing.
use mathlib.Core.Path.{◌≡◌, refl, sym, ap, ap₂, ◌∙◌}
use mathlib.Core.Logic.{by_cases}
use mathlib.Core.List.{List, [], ◌∷◌, ◌++◌, append-nil}
use Prim.Native.Nat.{ℕ, zero, suc, ◌+◌, ◌-◌, ◌*◌, ◌^◌, ◌≤◌, ◌<◌}
use native.Mathlib.Decide.{dec_lt}
use native.Mathlib.Omega.{arith}
use lib.ListN.{length, get_or, set, take, drop, get_or-append, length-append, drop_of_length-le}
use lib.Seq.{length-take-le, take_all, set-append_left, take-set-lt, get_or-append-add, sets}
use lib.Seq.{length_paste_head, length-sets}
use Rattle.words.specs.Word.{word}
use Rattle.prelude.specs.Range.{tabulate}
use Rattle.prelude.proofs.Tabulate.{tabulate_get, tabulate-length}
use Rattle.layout.specs.Line.{first_word, last_word_of}
use Rattle.layout.specs.Record.{Layout, key_with, kind_word, limit, value_place}
use Rattle.layout.specs.Moved.{words_moved}
use Rattle.layout.proofs.Places.{place_in_body}
use Rattle.stores.specs.Store.{zipped}
use Rattle.stores.specs.Play.{word_numbers, values}
use Rattle.stores.specs.Written.{marked, body_a, new_a, new_b, run, line_stores, record_stores}
use Rattle.stores.specs.inner.Written.{record_numbers, record_words, with_value, pasted}
use Rattle.prelude.proofs.Buffers.{Fill, fill_begins, element_on, elements_end, sets_append, paste-sets}
use Rattle.stores.proofs.Lists.{zipped_back}
use Rattle.stores.proofs.Placed.{value_moved, no_value, value-length}
use Rattle.stores.proofs.RecordStores.{first_key, past_kind, no_rest, zipped_record}

-- ---- the word numbers

numbers_at : (s k : ℕ) → k < 16 → get_or (record_numbers s) k 0 ≡ 16 * s + k
unfolding record_numbers
numbers_at s k h =
    by_cases (dec_lt k 8)
    (λ p.
    get_or-append (tabulate (λ i. 8 * (2 * s) + i) 0 8) _ 0 k (omega (arith, tabulate-length (λ i. 8 * (2 * s) + i) 0 8))
    ∙ tabulate_get (λ i. 8 * (2 * s) + i) 0 8 k p ∙ omega arith)
    (λ p. second (k - 8) (omega arith) (omega arith))
  where
    second : (j : ℕ) → k ≡ 8 + j → j < 8 → get_or (tabulate (λ i. 8 * (2 * s) + i) 0 8 ++ tabulate (λ i. 8 * (2 * s + 1) + i) 0 8) k 0 ≡ 16 * s + k
    second j e q =
        ap (λ (x : ℕ). get_or (tabulate (λ i. 8 * (2 * s) + i) 0 8 ++ tabulate (λ i. 8 * (2 * s + 1) + i) 0 8) x 0)
        (e ∙ ap (λ (x : ℕ). x + j) (sym (tabulate-length (λ i. 8 * (2 * s) + i) 0 8)))
        ∙ get_or-append-add (tabulate (λ i. 8 * (2 * s) + i) 0 8) (tabulate (λ i. 8 * (2 * s + 1) + i) 0 8) j 0
        ∙ tabulate_get (λ i. 8 * (2 * s + 1) + i) 0 8 j q ∙ omega arith

numbers-length : (s : ℕ) → length (record_numbers s) ≡ 16
unfolding record_numbers tabulate
numbers-length s = refl

-- k of them stand from position `from` on, and w is the next
pub record Numbering (old now : List ℕ) (s from k w : ℕ) : Type 0 where
  pub few : k ≤ 16
  pub next : w ≡ 16 * s + k
  pub fill : Fill old from (record_numbers s) now (from + k) (drop k (record_numbers s))

pub numbering_next : (old now now' : List ℕ) (s from k w : ℕ) → Numbering old now s from k w → k < 16 → from + 16 ≤ length old
    → now' ≡ set now (from + k) w → Numbering old now' s from (k + 1) (w + 1)
numbering_next old now now' s from k w g h room e =
    record {
      few = omega arith;
      next = omega (arith, g.next);
      fill = element_on 0 g.fill (omega (arith, numbers-length s)) (g.next ∙ sym (numbers_at s k h)) e;
    }

pub numbering_end : (old now : List ℕ) (s from k w : ℕ) → Numbering old now s from k w → from + 16 ≤ length old → 16 ≤ k
    → now ≡ pasted old from (record_numbers s) 16
unfolding pasted
numbering_end old now s from k w g room h =
    elements_end g.fill (omega (arith, numbers-length s)) ∙ sym (paste-sets old (record_numbers s) from 16 (numbers-length s) room)

-- ---- sixteen values, stored one after the other

-- these are stored from position `from` + k on
abbrev pub stored_from : List ℕ → (from k : ℕ) → List ℕ → List ℕ
stored_from words from k [] = words
stored_from words from k (v ∷ vs) = stored_from (set words (from + k) v) from (suc k) vs

stored_sets : (vs words : List ℕ) (from k : ℕ) → stored_from words from k vs ≡ sets words (from + k) vs
stored_sets [] words from k = refl
stored_sets (v ∷ vs) words from k =
    stored_sets vs (set words (from + k) v) from (suc k) ∙ ap (λ (x : ℕ). sets (set words (from + k) v) x vs) next
  where
    next : from + suc k ≡ suc (from + k)
    next = omega arith

pub stored_pasted : (old : List ℕ) (from v : ℕ) (vs : List ℕ) → from + suc (length vs) ≤ length old
    → stored_from (set old from v) from 1 vs ≡ pasted old from (v ∷ vs) (suc (length vs))
unfolding pasted
stored_pasted old from v vs room =
    stored_sets vs (set old from v) from 1 ∙ ap (λ (x : ℕ). sets (set old from v) x vs) one
    ∙ sym (paste-sets old (v ∷ vs) from (suc (length vs)) refl room)
  where
    one : from + 1 ≡ suc from
    one = omega arith

-- some, and behind them more
pub more_pasted : (old x y first second : List ℕ) (from n k : ℕ) → from + n + k ≤ length old → length x ≡ n → length y ≡ k
    → first ≡ pasted old from x n → second ≡ pasted first (from + n) y k → second ≡ pasted old from (x ++ y) (n + k)
unfolding pasted
more_pasted old x y first second from n k room p q e f =
    f ∙ paste-sets first y (from + n) k q (omega (arith, ap length stored, length-sets old from x))
    ∙ ap₂ (λ (l : List ℕ) (i : ℕ). sets l (from + i) y) stored (sym p) ∙ sym (sets_append old x y from)
    ∙ sym (paste-sets old (x ++ y) from (n + k) (omega (arith, length-append x y)) (omega arith))
  where
    stored : first ≡ sets old from x
    stored = e ∙ paste-sets old x from n p (omega arith)

-- the two lines of a record without a value, whose kind word is w
frame_A : (l a low high w version two three : ℕ) → Layout l → low < 2 ^ 64 → two ≡ body_a l (key_with low high) w 0 [] 2
    → three ≡ body_a l (key_with low high) w 0 [] 3
    → first_word a ∷ low ∷ two ∷ three ∷ 0 ∷ 0 ∷ 0 ∷ last_word_of a version ∷ [] ≡ tabulate (new_a l a (key_with low high) w 0 [] version) 0 8
unfolding tabulate marked
frame_A l a low high w version two three lay small e f =
    rw (
      first_key l low high w lay small,
      e,
      f,
      past_kind l (key_with low high) w 4 (omega (arith, lay.high)),
      past_kind l (key_with low high) w 5 (omega (arith, lay.high)),
      past_kind l (key_with low high) w 6 (omega (arith, lay.high)),
    )

frame_B : (l b version : ℕ) → first_word b ∷ 0 ∷ 0 ∷ 0 ∷ 0 ∷ 0 ∷ 0 ∷ last_word_of b version ∷ [] ≡ tabulate (new_b l b [] version) 0 8
unfolding tabulate marked
frame_B l b version = rw (no_rest l 1, no_rest l 2, no_rest l 3, no_rest l 4, no_rest l 5, no_rest l 6)

pub frame_pasted : (l a b low high w version markA two three stampA markB stampB : ℕ) (old first second : List ℕ) (from : ℕ) → Layout l → low < 2 ^ 64
    → from + 16 ≤ length old → two ≡ body_a l (key_with low high) w 0 [] 2 → three ≡ body_a l (key_with low high) w 0 [] 3
    → markA ≡ first_word a → stampA ≡ last_word_of a version → markB ≡ first_word b → stampB ≡ last_word_of b version
    → first ≡ pasted old from (markA ∷ low ∷ two ∷ three ∷ 0 ∷ 0 ∷ 0 ∷ stampA ∷ []) 8
    → second ≡ pasted first (from + 8) (markB ∷ 0 ∷ 0 ∷ 0 ∷ 0 ∷ 0 ∷ 0 ∷ stampB ∷ []) 8
    → second ≡ pasted old from (record_words l a b (key_with low high) w 0 [] version) 16
unfolding record_words
frame_pasted l a b low high w version markA two three stampA markB stampB old first second from lay small room e f ma sa mb sb p q =
    more_pasted old _ _ first second from 8 8 (omega arith) refl refl p q
    ∙ ap (λ (t : List ℕ). pasted old from t 16)
    (ap₂ (λ (x y : List ℕ). x ++ y)
    (ap₂ (λ (x y : ℕ). x ∷ low ∷ two ∷ three ∷ 0 ∷ 0 ∷ 0 ∷ y ∷ []) ma sa ∙ frame_A l a low high w version two three lay small e f)
    (ap₂ (λ (x y : ℕ). x ∷ 0 ∷ 0 ∷ 0 ∷ 0 ∷ 0 ∷ 0 ∷ y ∷ []) mb sb ∙ frame_B l b version))

-- ---- the value is moved in

set_right : (xs ys : List ℕ) (n i v : ℕ) → length xs ≡ n → set (xs ++ ys) (n + i) v ≡ xs ++ set ys i v
set_right [] ys n i v e = ap (λ (k : ℕ). set ys k v) (omega arith)
set_right (x ∷ xs) ys zero i v e = absurd (omega arith)
set_right (x ∷ xs) ys (suc n) i v e =
    ap (λ (k : ℕ). set (x ∷ (xs ++ ys)) k v) more ∙ ap (λ (t : List ℕ). x ∷ t) (set_right xs ys n i v (omega arith))
  where
    more : suc n + i ≡ suc (n + i)
    more = omega arith

set-pasted : (old new : List ℕ) (from p v : ℕ) → from ≤ length old → length new ≡ 16 → p < 16
    → set (pasted old from new 16) (from + p) v ≡ pasted old from (set new p v) 16
unfolding pasted
set-pasted old new from p v room e h =
    set-append_left (take from old ++ take 16 new) (drop (from + 16) old) (from + p) v
    (omega (arith, length_paste_head old from new 16 room (omega arith)))
    ∙ ap (λ (t : List ℕ). t ++ drop (from + 16) old)
    (set_right (take from old) (take 16 new) from p v (length-take-le from old room)
    ∙ ap (λ (t : List ℕ). take from old ++ t) (sym (take-set-lt 16 new p v h)))

value-pasted : (l : ℕ) → Layout l → (value old new : List ℕ) (from n : ℕ) → from ≤ length old → length new ≡ 16 → l + n ≤ 11
    → with_value l value from n (pasted old from new 16) ≡ pasted old from (with_value l value 0 n new) 16
unfolding with_value
value-pasted l lay value old new from zero room e h = refl
value-pasted l lay value old new from (suc n) room e h =
    ap (λ (t : List ℕ). set t (from + value_place l n) (word value n)) (value-pasted l lay value old new from n room e (omega arith))
    ∙ set-pasted old (with_value l value 0 n new) from (value_place l n) (word value n) room (value-length l value 0 n new ∙ e)
    (omega (arith, (place_in_body l n lay (omega arith)).before_stamp_B))
    ∙ ap (λ (p : ℕ). pasted old from (set (with_value l value 0 n new) p (word value n)) 16) place
  where
    place : value_place l n ≡ 0 + value_place l n
    place = omega arith

-- ---- the stores by their two lists

numbers_zipped : (at words : List ℕ) → length at ≡ length words → word_numbers (zipped at words) ≡ at
unfolding zipped word_numbers
numbers_zipped [] words e = refl
numbers_zipped (w ∷ at) [] e = absurd (omega arith)
numbers_zipped (w ∷ at) (v ∷ words) e = ap (λ (t : List ℕ). w ∷ t) (numbers_zipped at words (omega arith))

values-zipped : (at words : List ℕ) → length at ≡ length words → values (zipped at words) ≡ words
unfolding zipped values
values-zipped [] [] e = refl
values-zipped [] (v ∷ words) e = absurd (omega arith)
values-zipped (w ∷ at) [] e = absurd (omega arith)
values-zipped (w ∷ at) (v ∷ words) e = ap (λ (t : List ℕ). v ∷ t) (values-zipped at words (omega arith))

words_length : (l a b key kind number : ℕ) (value : List ℕ) (version : ℕ) → length (record_words l a b key kind number value version) ≡ 16
unfolding record_words tabulate
words_length l a b key kind number value version = refl

module _ (l : ℕ) (m : ℕ → ℕ) (s key kind number : ℕ) (value : List ℕ) (version a b : ℕ) (ea : a ≡ m (16 * s + 7)) (eb : b ≡ m (16 * s + 15)) where
  the_stores : zipped (record_numbers s) (record_words l a b key kind number value version) ≡ record_stores l m s key kind number value version
  the_stores = zipped_record l m s key kind number value version a b ea eb _ _ refl refl

  long : length (record_numbers s) ≡ length (record_words l a b key kind number value version)
  long = numbers-length s ∙ sym (words_length l a b key kind number value version)

  pub numbers_pasted : (old at : List ℕ) (from : ℕ) → at ≡ pasted old from (record_numbers s) 16
      → at ≡ pasted old from (word_numbers (record_stores l m s key kind number value version)) 16
  numbers_pasted old at from e =
      e ∙ ap (λ (t : List ℕ). pasted old from t 16) (sym (numbers_zipped _ _ long) ∙ ap word_numbers the_stores)

  -- the values of a record without a value, whose kind word is w, and then the value is moved in
  pub values-pasted : Layout l → length value ≤ limit l → (old frame words : List ℕ) (from w : ℕ) → from + 16 ≤ length old
      → w ≡ kind_word kind (length value) number → frame ≡ pasted old from (record_words l a b key w 0 [] version) 16
      → words ≡ with_value l value from (words_moved (length value)) frame
      → words ≡ pasted old from (values (record_stores l m s key kind number value version)) 16
  values-pasted lay fits old frame words from w room e f g =
      g ∙ ap (with_value l value from (words_moved (length value))) f
      ∙ value-pasted l lay value old _ from (words_moved (length value)) (omega arith) (words_length l a b key w 0 [] version) (omega (arith, lay.high))
      ∙ ap (λ (t : List ℕ). pasted old from t 16)
      (value_moved l a b key version lay kind number w value _ _ fits e refl refl ∙ sym (values-zipped _ _ long) ∙ ap values the_stores)

-- ---- a list of sixteen is pasted over whole

whole_pasted : (old new at : List ℕ) → length old ≡ 16 → length new ≡ 16 → at ≡ pasted old 0 new 16 → at ≡ new
unfolding pasted
whole_pasted old new at e f g =
    g ∙ ap₂ (λ (x y : List ℕ). x ++ y) (take_all 16 new (omega arith)) (drop_of_length-le old {i = 0 + 16} (omega arith)) ∙ append-nil new

pub whole_record : (l : ℕ) (m : ℕ → ℕ) (s key kind number : ℕ) (value : List ℕ) (version : ℕ) (old at other words : List ℕ)
    → length old ≡ 16 → length other ≡ 16 → at ≡ pasted old 0 (word_numbers (record_stores l m s key kind number value version)) 16
    → words ≡ pasted other 0 (values (record_stores l m s key kind number value version)) 16
    → zipped at words ≡ record_stores l m s key kind number value version
unfolding word_numbers values record_stores line_stores run
whole_record l m s key kind number value version old at other words e f p q =
    ap₂ zipped (whole_pasted old _ at e refl p) (whole_pasted other _ words f refl q) ∙ zipped_back _

pub whole_frame : (l : ℕ) (m : ℕ → ℕ) (s key kind number w version a b : ℕ) (old at other words : List ℕ) → a ≡ m (16 * s + 7) → b ≡ m (16 * s + 15)
    → w ≡ kind_word kind 0 number → length old ≡ 16 → length other ≡ 16 → at ≡ pasted old 0 (record_numbers s) 16
    → words ≡ pasted other 0 (record_words l a b key w 0 [] version) 16 → zipped at words ≡ record_stores l m s key kind number [] version
whole_frame l m s key kind number w version a b old at other words ea eb ew e f p q =
    zipped_record l m s key kind number [] version a b ea eb at words (whole_pasted old _ at e (numbers-length s) p)
    (no_value l a b key version kind number w words ew (whole_pasted other _ words f (words_length l a b key w 0 [] version) q))
