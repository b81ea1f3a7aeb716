-- The bytes of a line in the lent output. Assumes nothing.
use mathlib.Core.Path.{◌≡◌, refl, sym, ap, ap₂, ◌∙◌, subst}
use mathlib.Core.Bool.{Bool, true, false, cond}
use mathlib.Core.List.{List, [], ◌∷◌, ◌++◌}
use Prim.Native.Nat.{ℕ, zero, suc, ◌+◌, ◌-◌, ◌*◌, ◌/◌, ◌%◌, ◌^◌, ◌≤◌, ◌<◌}
use native.Mathlib.Nat.{pow-suc}
use native.Mathlib.Numerals.{add-one}
use native.Mathlib.Omega.{arith}
use lib.Dec.{ltb}
use lib.ListN.{length, get_or, set, take, drop, length-set, length-drop, length-append, drop_of_length-le}
use lib.Seq.{take_all, drop-cons, drop-set-lt, get_or-set_same, sets, length-sets}
use borrow.Author.Tests.{lt-ltb, le-ltb}
use Rattle.prelude.proofs.Choice.{pick_true, pick_false}
use Rattle.prelude.proofs.Buffers.{paste-sets, sets_append, sets_front}
use borrow.Rule.Slice.PartMut.{put_mid}
use Rattle.std.proofs.lemmas.Slice.{put_mid-paste}
use Rattle.text.specs.Output.{digits_onto, decimal, numbers_text, line_text, written, Rendered, render_end, render_result, Printed, ok, found, not_held, cut}
use Rattle.text.specs.Output.{no, counted, nothing, text}
use Rattle.text.specs.inner.Output.{Wrote}

-- the bytes are stored one after the other
pub written-sets : (out : List ℕ) (at : ℕ) (bytes : List ℕ) → written out at bytes ≡ sets out at bytes
unfolding written
written-sets out at [] = refl
written-sets out at (byte ∷ bytes) = written-sets (set out at byte) (suc at) bytes

-- and so are those that are copied into a part
pub bytes_stored : (out bytes part : List ℕ) (at k : ℕ) → part ≡ bytes → k ≡ length bytes → at + length bytes ≤ length out
    → put_mid at k out part ≡ written out at bytes
bytes_stored out bytes part at k e h room =
    put_mid-paste at k out part bytes (length bytes) e (sym h) refl ∙ paste-sets out bytes at (length bytes) refl room ∙ sym (written-sets out at bytes)

written_append : (out : List ℕ) (at : ℕ) (xs ys : List ℕ)
    → written (written out at xs) (at + length xs) ys ≡ written out at (xs ++ ys)
written_append out at xs ys =
    written-sets (written out at xs) (at + length xs) ys ∙ ap (λ (l : List ℕ). sets l (at + length xs) ys) (written-sets out at xs)
    ∙ sym (written-sets out at (xs ++ ys) ∙ sets_append out xs ys at)

-- one text after another
pub wrote_then : (a b d : List ℕ) (at p r : ℕ) (xs ys : List ℕ) → Wrote a b at p xs → Wrote b d p r ys → Wrote a d at r (xs ++ ys)
wrote_then a b d at p r xs ys v w =
    record {
      output =
          w.output ∙ ap₂ (λ (t : List ℕ) (k : ℕ). written t k ys) v.output v.end ∙ written_append a at xs ys;
      end = w.end ∙ ap (λ (k : ℕ). k + length ys) v.end ∙ sums;
    }
  where
    sums : at + length xs + length ys ≡ at + length (xs ++ ys)
    sums = omega (arith, length-append xs ys)

-- ---- the loop of store_digits: rest is what is left of n, and the bytes from position i on have the digits after it

pub record Filling (n i rest : ℕ) (space : List ℕ) : Type 0 where
  pub low : 1 ≤ i
  pub high : i ≤ 20
  pub size : length space ≡ 20
  pub small : rest < 10 ^ i
  pub digits : digits_onto i rest (drop i space) ≡ decimal n

pub filling_begins : (n : ℕ) (space : List ℕ) → n < 2 ^ 64 → length space ≡ 20 → Filling n 20 n space
unfolding decimal
filling_begins n space h e =
    let short : length space ≤ 20 = omega arith in
    record {
      low = omega arith;
      high = omega arith;
      size = e;
      small = omega arith;
      digits = ap (λ (t : List ℕ). digits_onto 20 n t) (drop_of_length-le space short);
    }

drop-set_same : (space : List ℕ) (j v : ℕ) → j < length space → drop j (set space j v) ≡ v ∷ drop (suc j) space
drop-set_same space j v h =
    drop-cons (set space j v) j 0 (omega (arith, length-set space j v))
    ∙ ap₂ (λ (x : ℕ) (t : List ℕ). x ∷ t) (get_or-set_same space j v 0 h) (drop-set-lt (suc j) space j v (omega arith))

module _ (n rest : ℕ) (space : List ℕ) where
  two_places : (j : ℕ) → rest < 10 ^ suc j → 10 ≤ rest → (1 ≤ j) × (rest / 10 < 10 ^ j)
  two_places zero h g = absurd (let z : ⊥ = omega arith in z)
  two_places (suc j) h g = (omega arith, let e = pow-suc 10 (suc j) in omega arith)

  more_at : (j : ℕ) → Filling n (suc j) rest space → 10 ≤ rest → Filling n j (rest / 10) (set space j (48 + rest % 10))
  unfolding digits_onto
  more_at j f g =
      record {
        low = (two_places j f.small g).0;
        high = omega (arith, f.high);
        size = length-set space j (48 + rest % 10) ∙ f.size;
        small = (two_places j f.small g).1;
        digits =
            ap (λ (t : List ℕ). digits_onto j (rest / 10) t)
            (drop-set_same space j (48 + rest % 10) (omega (arith, f.size, f.high)))
            ∙ sym (pick_false _ _ _ (le-ltb rest 10 g)) ∙ f.digits;
      }

  last_at : (j : ℕ) → Filling n (suc j) rest space → rest < 10 → drop j (set space j (48 + rest)) ≡ decimal n
  unfolding digits_onto
  last_at j f g =
      drop-set_same space j (48 + rest) (omega (arith, f.size, f.high))
      ∙ sym (pick_true _ _ _ (lt-ltb rest 10 g)) ∙ f.digits

  before : (i : ℕ) → 1 ≤ i → i ≡ suc (i - 1)
  before i h = omega arith

  pub filling_more : (i : ℕ) → Filling n i rest space → 10 ≤ rest
      → Filling n (i - 1) (rest / 10) (set space (i - 1) (48 + rest % 10))
  filling_more i f g = more_at (i - 1) (subst (λ (k : ℕ). Filling n k rest space) (before i f.low) f) g

  pub filling_last : (i : ℕ) → Filling n i rest space → rest < 10 → drop (i - 1) (set space (i - 1) (48 + rest)) ≡ decimal n
  filling_last i f g = last_at (i - 1) (subst (λ (k : ℕ). Filling n k rest space) (before i f.low) f) g

-- ---- the parts of a line

-- a text that was stored, and one after it
text_then : (a b d : List ℕ) (at r : ℕ) (xs ys : List ℕ) → b ≡ written a at xs → Wrote b d (at + length xs) r ys
    → Wrote a d at r (xs ++ ys)
text_then a b d at r xs ys e w = wrote_then a b d at (at + length xs) r xs ys (record { output = e; end = refl }) w

-- the digits that store_digits left, as the part of the space that has them
digits_part : (space part : List ℕ) (from n : ℕ) → part ≡ take (20 - from) (drop from space) → length space ≡ 20 → drop from space ≡ decimal n
    → part ≡ decimal n
digits_part space part from n p s g = p ∙ take_all (20 - from) (drop from space) (omega (arith, length-drop from space)) ∙ g

-- a space and these digits
pub number_wrote : (a b d space part : List ℕ) (at from n : ℕ) → b ≡ written a at (32 ∷ []) → d ≡ written b (at + 1) part
    → part ≡ take (20 - from) (drop from space) → length space ≡ 20 → from < 20 → drop from space ≡ decimal n
    → Wrote a d at (at + 1 + (20 - from)) (32 ∷ decimal n)
number_wrote a b d space part at from n e f p s h g =
    text_then a b d at _ (32 ∷ []) (decimal n) e
    (record {
      output = f ∙ ap (λ (t : List ℕ). written b (at + 1) t) (digits_part space part from n p s g);
      end = ap (λ (j : ℕ). at + 1 + j) (sym size ∙ ap length g);
    })
  where
    size : length (drop from space) ≡ 20 - from
    size = omega (arith, length-drop from space)

-- these digits, and a line of numbers after them
pub numbers_wrote : (a d space part numbers : List ℕ) (at from n r : ℕ) → Wrote a d at r (part ++ numbers_text numbers)
    → part ≡ take (20 - from) (drop from space) → length space ≡ 20 → drop from space ≡ decimal n → Wrote a d at r (line_text (n ∷ numbers))
unfolding line_text
numbers_wrote a d space part numbers at from n r w p s g =
    subst (λ (t : List ℕ). Wrote a d at r (t ++ numbers_text numbers)) (digits_part space part from n p s g) w

-- a number has at most 20 digits
digits_length : (places n : ℕ) (rest : List ℕ) → length (digits_onto places n rest) ≤ places + length rest
unfolding digits_onto
digits_length zero n rest = omega arith
digits_length (suc places) n rest = go (ltb n 10) (digits_length places (n / 10) ((48 + n % 10) ∷ rest))
  where
    go : (t : Bool) → length (digits_onto places (n / 10) ((48 + n % 10) ∷ rest)) ≤ places + suc (length rest)
        → length (cond t ((48 + n) ∷ rest) (digits_onto places (n / 10) ((48 + n % 10) ∷ rest))) ≤ suc places + length rest
    go true h = omega arith
    go false h = omega arith

pub decimal-length : (n : ℕ) → length (decimal n) ≤ 20
unfolding decimal
decimal-length n = digits_length 20 n []

-- ---- the loop of store_line: what is stored from this position on ends the line

pub record Numbers (numbers old : List ℕ) (from i : ℕ) (out : List ℕ) (at : ℕ) : Type 0 where
  pub inside : i ≤ length numbers
  pub size : length out ≡ length old
  pub room : at + 21 * (length numbers - i) + 1 ≤ length out
  pub rest : (new : List ℕ) (r : ℕ) → Wrote out new at r (numbers_text (drop i numbers)) → Wrote old new from r (numbers_text numbers)

one_more : (numbers : List ℕ) (i : ℕ) → i < length numbers
    → (32 ∷ decimal (get_or numbers i 0)) ++ numbers_text (drop (i + 1) numbers) ≡ numbers_text (drop i numbers)
unfolding numbers_text
one_more numbers i h = rw (add-one, drop-cons numbers i 0)

pub numbers_more : (numbers old : List ℕ) (from i : ℕ) (out : List ℕ) (at : ℕ) (next : List ℕ) (after : ℕ)
    → Numbers numbers old from i out at → i < length numbers → Wrote out next at after (32 ∷ decimal (get_or numbers i 0))
    → length next ≡ length out → Numbers numbers old from (i + 1) next after
numbers_more numbers old from i out at next after n h w e =
    record {
      inside = omega arith;
      size = e ∙ n.size;
      room = omega (arith, w.end, decimal-length (get_or numbers i 0));
      rest = λ new r v. n.rest new r (subst (Wrote out new at r) (one_more numbers i h) (wrote_then _ _ _ _ _ _ _ _ w v));
    }

line_end : (out new numbers : List ℕ) (at i : ℕ) → length numbers ≤ i → new ≡ written out at (10 ∷ [])
    → Wrote out new at (at + 1) (numbers_text (drop i numbers))
unfolding numbers_text
line_end out new numbers at i h e = rw (drop_of_length-le numbers h) (record { output = e; end = refl })

pub line_wrote : (a b word numbers out new : List ℕ) (at i after : ℕ) → b ≡ written a at word
    → Numbers numbers b (at + length word) i out after → length numbers ≤ i → new ≡ written out after (10 ∷ [])
    → Wrote a new at (after + 1) (word ++ numbers_text numbers)
line_wrote a b word numbers out new at i after e n h f =
    text_then a b new at _ word (numbers_text numbers) e
    (n.rest new (after + 1) (line_end out new numbers after i h f))

-- ---- render

pub no_room : (p : Printed) (out : List ℕ) (at : ℕ) → length out < at + 64 → render_end at out ≡ render_result p out at
unfolding render_result
no_room p out at h = sym (pick_true _ _ _ (lt-ltb (length out) (at + 64) h))

pub rendered : (p : Printed) (out new : List ℕ) (at r : ℕ) → at + 64 ≤ length out → Wrote out new at r (text p)
    → render_end r new ≡ render_result p out at
unfolding render_result
rendered p out new at r h w =
    ap₂ (λ (k : ℕ) (t : List ℕ). render_end k t) w.end w.output ∙ sym (pick_false _ _ _ (le-ltb (length out) (at + 64) h))

-- ---- a line has room in 64 bytes

pub numbers-length : (numbers : List ℕ) → length (numbers_text numbers) ≤ 21 * length numbers + 1
unfolding numbers_text
numbers-length [] = omega arith
numbers-length (n ∷ numbers) =
    omega (arith, length-append (decimal n) (numbers_text numbers), decimal-length n, numbers-length numbers)

-- at most two numbers, as every line of a session prints
abbrev pub FewNumbers : Printed → Type 0
FewNumbers (ok numbers) = length numbers ≤ 2
FewNumbers (found word) = Unit
FewNumbers not_held = Unit
FewNumbers (cut a b) = Unit
FewNumbers (no number) = Unit
FewNumbers (counted earlier later) = Unit
FewNumbers nothing = Unit

text-length : (p : Printed) → FewNumbers p → length (text p) ≤ 64
unfolding text line_text
text-length (ok numbers) few = omega (arith, numbers-length numbers)
text-length (found word) few = omega (arith, numbers-length (word ∷ []))
text-length not_held few = omega (arith, numbers-length [])
text-length (cut a b) few = omega (arith, numbers-length (a ∷ b ∷ []))
text-length (no number) few = omega (arith, numbers-length (number ∷ []))
text-length (counted earlier later) few =
    omega (arith, length-append (decimal earlier) (numbers_text (later ∷ [])), decimal-length earlier, numbers-length (later ∷ []))
text-length nothing few = omega arith

-- nothing is stored
pub wrote_nothing : (out : List ℕ) (at : ℕ) → Wrote out out at at []
unfolding written
wrote_nothing out at = record { output = refl; end = omega arith }

pub written-length : (out : List ℕ) (at : ℕ) (bytes : List ℕ) → length (written out at bytes) ≡ length out
written-length out at bytes = ap length (written-sets out at bytes) ∙ length-sets out at bytes

pub written_front : (out : List ℕ) (at : ℕ) (bytes : List ℕ) → at + length bytes ≤ length out
    → take (at + length bytes) (written out at bytes) ≡ take at out ++ bytes
written_front out at bytes h = ap (take (at + length bytes)) (written-sets out at bytes) ∙ sets_front out bytes at h

module _ (p : Printed) (out : List ℕ) (at : ℕ) where
  pub render_length : length (render_result p out at).output ≡ length out
  unfolding render_result
  render_length = go (ltb (length out) (at + 64))
    where
      go : (t : Bool) → length (cond t (render_end at out) (render_end (at + length (text p)) (written out at (text p)))).output ≡ length out
      go true = refl
      go false = written-length out at (text p)

  -- where 64 bytes are left the line stands after what was stored
  pub render_front : at + 64 ≤ length out → FewNumbers p
      → take (render_result p out at).end (render_result p out at).output ≡ take at out ++ text p
  unfolding render_result
  render_front h few =
      ap (λ (w : Rendered). take w.end w.output) (pick_false _ _ _ (le-ltb (length out) (at + 64) h))
      ∙ written_front out at (text p) (omega (arith, text-length p few))
