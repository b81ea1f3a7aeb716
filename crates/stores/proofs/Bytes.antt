-- Play on the bytes is play on the words, and the table law on bytes. Assumes nothing.
use mathlib.Core.Path.{◌≡◌, refl, sym, ap, ◌∙◌, fun_ext}
use mathlib.Core.Bool.{Bool, true, false, cond}
use mathlib.Core.Logic.{by_cases}
use mathlib.Core.List.{List, [], ◌∷◌, ◌++◌}
use Prim.Native.Nat.{ℕ, zero, suc, ◌+◌, ◌-◌, ◌*◌, ◌/◌, ◌^◌, ◌≤◌, ◌<◌}
use native.Mathlib.Nat.{mod-lt}
use native.Mathlib.Decide.{ℕ_discrete}
use native.Mathlib.Omega.{arith}
use lib.ListN.{length}
use lib.Dec.{eqb, ltb}
use borrow.Author.Tests.{eq-eqb, ne_eqb}
use Rattle.words.specs.Word.{AreBytes, word, set_word}
use Rattle.prelude.proofs.Choice.{pick_true, pick_false}
use Rattle.words.proofs.Laws.{set_word-length, set_word_bytes, word_same, word_other}
use Rattle.layout.specs.Record.{limit}
use Rattle.layout.specs.Content.{highest_whole}
use Rattle.stores.specs.Store.{Store, played, stored, played_words, less, standing}
use Rattle.stores.specs.Written.{marked, body_a, body_b, run, line_stores, record_stores}
use Rattle.stores.specs.Cut.{after_cut, Fields, Lawful, Written}
use Rattle.stores.proofs.defs.Cut.{nil_in, cons_in, StoresInside}
use Rattle.stores.proofs.Placed.{placed_below}
use Rattle.stores.proofs.Table.{table_law}

-- ---- play

one_store : (img : List ℕ) (w v : ℕ) → 8 * w + 8 ≤ length img → v < 2 ^ 64 → word (set_word img w v) ≡ stored (record { word = w; value = v }) (word img)
unfolding stored
one_store img w v h b =
    fun_ext
    (λ i.
    by_cases (ℕ_discrete i w)
    (λ e. ap (word (set_word img w v)) e ∙ word_same img w v h b ∙ sym (pick_true (eqb i w) v (word img i) (eq-eqb i w e)))
    (λ ne. word_other img w i v ne ∙ sym (pick_false (eqb i w) v (word img i) (ne_eqb i w ne))))

pub played-length : (ss : List Store) (img : List ℕ) → length (played ss img) ≡ length img
unfolding played
played-length [] img = refl
played-length (s ∷ ss) img = played-length ss (set_word img s.word s.value) ∙ set_word-length img s.word s.value

pub played_bytes : (ss : List Store) (img : List ℕ) → AreBytes img → AreBytes (played ss img)
unfolding played
played_bytes [] img h = h
played_bytes (s ∷ ss) img h = played_bytes ss (set_word img s.word s.value) (set_word_bytes img s.word s.value h)

-- THE BRIDGE
bridge : {n : ℕ} {ss : List Store} (img : List ℕ) → StoresInside n ss → length img ≡ n → word (played ss img) ≡ played_words ss (word img)
unfolding played played_words
bridge img nil_in e = refl
bridge img (cons_in {s = s} {ss = ss} h b r) e =
    bridge (set_word img s.word s.value) r (set_word-length img s.word s.value ∙ e)
    ∙ ap (played_words ss) (one_store img s.word s.value (omega arith) b)

pub played-words : {ss : List Store} (img : List ℕ) → StoresInside (length img) ss → word (played ss img) ≡ played_words ss (word img)
played-words img r = bridge img r refl

pub standing_inside : {n : ℕ} {ss : List Store} (counts : ℕ → ℕ) → StoresInside n ss → StoresInside n (standing counts ss)
unfolding standing
standing_inside counts nil_in = nil_in
standing_inside {n = n} counts (cons_in {s = s} {ss = ss} h b r) =
    go (eqb (counts (s.word / 8)) 0) (standing_inside counts r) (standing_inside (less (s.word / 8) counts) r)
  where
    go : (t : Bool) → StoresInside n (standing counts ss) → StoresInside n (standing (less (s.word / 8) counts) ss)
        → StoresInside n (cond t (standing counts ss) (s ∷ standing (less (s.word / 8) counts) ss))
    go true x y = x
    go false x y = cons_in h b y

-- a cut on the bytes is the cut on the words
pub struck_words : {ss : List Store} (counts : ℕ → ℕ) (img : List ℕ) → StoresInside (length img) ss
    → word (played (standing counts ss) img) ≡ after_cut counts ss (word img)
struck_words counts img r = played-words img (standing_inside counts r)

-- ---- a record's stores

pub append_inside : {n : ℕ} {x y : List Store} → StoresInside n x → StoresInside n y → StoresInside n (x ++ y)
append_inside nil_in q = q
append_inside (cons_in h b r) q = cons_in h b (append_inside r q)

pub run_inside : (n base : ℕ) (words : ℕ → ℕ) (k j : ℕ) → 8 * (base + k + j) ≤ n → ((i : ℕ) → words i < 2 ^ 64) → StoresInside n (run base words k j)
unfolding run
run_inside n base words k zero h b = nil_in
run_inside n base words k (suc j) h b =
    cons_in {s = record { word = base + k; value = words k }} (omega arith) (b k) (run_inside n base words (suc k) j (omega arith) b)

pub cond_below : (t : Bool) (x y n : ℕ) → x < n → y < n → cond t x y < n
cond_below true x y n p q = p
cond_below false x y n p q = q

pub marked_below : (stamp version : ℕ) (body : ℕ → ℕ) → version < 2 ^ 63 → ((i : ℕ) → body i < 2 ^ 64) → (i : ℕ) → marked stamp version body i < 2 ^ 64
unfolding marked
marked_below stamp version body h b i =
    cond_below (eqb i 0) _ _ _ (omega arith) (cond_below (eqb i 7) _ _ _ (omega arith) (b i))

body_a_below : (l key kind number : ℕ) (value : List ℕ) → Fields l key kind number value → (i : ℕ) → body_a l key kind number value i < 2 ^ 64
unfolding body_a
body_a_below l key kind number value fine i =
    cond_below (ltb i (l + 1)) _ _ _ (mod-lt (key / (2 ^ 64) ^ (i - 1)) (omega arith))
    (cond_below (eqb i (l + 1)) _ _ _ (omega (arith, fine.size, fine.kind_fits, fine.number_fits)) (placed_below l value (limit l / 8) i fine.bytes))

body_b_below : (l key kind number : ℕ) (value : List ℕ) → Fields l key kind number value → (i : ℕ) → body_b l value i < 2 ^ 64
unfolding body_b
body_b_below l key kind number value fine i = placed_below l value (limit l / 8) (8 + i) fine.bytes

pub record_inside : (n l : ℕ) (m : ℕ → ℕ) (s key kind number : ℕ) (value : List ℕ) (version : ℕ) → Fields l key kind number value → version < 2 ^ 63
    → 128 * (s + 1) ≤ n
    → StoresInside n (record_stores l m s key kind number value version)
unfolding record_stores line_stores
record_inside n l m s key kind number value version fine small h =
    append_inside
    (run_inside n (8 * (2 * s)) _ 0 8 (omega arith) (marked_below _ version (body_a l key kind number value) small (body_a_below l key kind number value fine)))
    (run_inside n (8 * (2 * s + 1)) _ 0 8 (omega arith) (marked_below _ version (body_b l value) small (body_b_below l key kind number value fine)))

-- ---- THE TABLE LAW on bytes

pub image_law : (l : ℕ) (counts : ℕ → ℕ) (img : List ℕ) (s key kind number : ℕ) (value : List ℕ) (version : ℕ)
    → Fields l key kind number value → Lawful kind number value → highest_whole (word img) s < version → version < 2 ^ 63 → 128 * (s + 1) ≤ length img
    → Written l (word img) (word (played (standing counts (record_stores l (word img) s key kind number value version)) img)) s key kind number value version
    (counts (2 * s)) (counts (2 * s + 1))
image_law l counts img s key kind number value version fine good above small h =
    rw (struck_words counts img (record_inside (length img) l (word img) s key kind number value version fine small h))
    (table_law l counts (word img) s key kind number value version fine good above)
