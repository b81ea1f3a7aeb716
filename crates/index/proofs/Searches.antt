-- The walk of a chain is the search of the list of its slots. Assumes nothing.
use mathlib.Core.Path.{◌≡◌, refl, sym, ap, ◌∙◌}
use mathlib.Core.Logic.{inl, inr}
use mathlib.Core.List.{List, [], ◌∷◌, ◌++◌}
use mathlib.Core.Bool.{cond}
use Prim.Native.Nat.{ℕ, zero, suc, ◌+◌, ◌<◌, ◌≤◌}
use native.Mathlib.Omega.{arith}
use lib.Dec.{eqb}
use lib.ListN.{length, get_or, length-append}
use borrow.Author.Tests.{eq-eqb, ne_eqb, le-ltb}
use Rattle.layout.specs.Size.{slots_in}
use Rattle.index.specs.Index.{Chain, reuse, head, Index, start, ahead, head_of}
use Rattle.prelude.specs.Members.{In}
use Rattle.index.specs.Linked.{end_of, Owner, Disjoint, Linked}
use Rattle.index.specs.Walk.{walk, slot_key, search, compared_in, Counted, at_place, at-end}
use Rattle.index.proofs.defs.SearchIn.{search_in}
use Rattle.index.specs.declared.Found.{Found}
use Rattle.index.specs.declared.Found.TheVariants.{At, Missing, BadChain}
use Rattle.index.proofs.Owners.{Told, is, isnt, told}
use Rattle.index.proofs.ChainLengths.{chain_short, formed_linked}

pub walk_linked : (key : ℕ → ℕ) (next : List ℕ) (n k : ℕ) (xs : List ℕ) (left seen prev at : ℕ) → length next ≡ n + 1
    → Linked next at xs → length xs < left
    → walk key next n k left seen prev at ≡ search_in key k seen prev xs
unfolding walk search_in
walk_linked key next n k xs zero seen prev at z r h = absurd (omega arith)
walk_linked key next n k [] (suc left) seen prev at z r h = rw (eq-eqb at 0 r)
walk_linked key next n k (x ∷ xs) (suc left) seen prev at z r h =
    let q : x ≤ n = omega (arith, r.2) in
    rw (r.0, ne_eqb x 0 (λ e. omega (arith, r.1)), le-ltb n x q)
    (ap (λ (f : Found). cond (eqb (key x) k) (At x prev (seen + 1)) f)
    (walk_linked key next n k xs left (seen + 1) x (get_or next x 0) z r.3 (omega arith)))

-- in a well-formed index, from a head
pub formed_walk : (key : ℕ → ℕ) (i : Index) (owner : ℕ → Owner) (chains : Chain → List ℕ) (n k h f : ℕ) → Disjoint i owner chains
    → length i.next ≡ n + 1 → In f (chains reuse)
    → walk key i.next n k n 0 0 (get_or i.heads h 0) ≡ search_in key k 0 0 (chains (head h))
unfolding ahead start
formed_walk key i owner chains n k h f w z m =
    walk_linked _ _ _ _ _ _ _ _ _ z (formed_linked _ _ _ (head h) w)
    (chain_short _ _ _ _ _ f w z m)

-- the whole search of a key
pub formed_search : (l : ℕ) (image : List ℕ) (i : Index) (owner : ℕ → Owner) (chains : Chain → List ℕ) (key f : ℕ) → Disjoint i owner chains
    → length i.next ≡ slots_in image + 1 → In f (chains reuse)
    → search l image i.heads i.next key ≡ search_in (slot_key l image) key 0 0 (chains (head (head_of key (length i.heads))))
unfolding search
formed_search l image i owner chains key f w z m =
    formed_walk (slot_key l image) i owner chains (slots_in image) key (head_of key (length i.heads)) f w z m

-- ---- the search of a list

pub search_in_at : (key : ℕ → ℕ) (k : ℕ) (xs : List ℕ) (x : ℕ) (ys : List ℕ) (seen prev : ℕ) → key x ≡ k → ((y : ℕ) → In y xs → key y ≡ k → ⊥)
    → search_in key k seen prev (xs ++ x ∷ ys) ≡ At x (end_of prev xs) (seen + length xs + 1)
unfolding search_in
search_in_at key k [] x ys seen prev e n = rw (eq-eqb (key x) k e) (ap (λ (c : ℕ). At x prev c) (omega arith))
search_in_at key k (y ∷ xs) x ys seen prev e n =
    rw (ne_eqb (key y) k (n y (inl refl)))
    (search_in_at key k xs x ys (seen + 1) y e (λ z m. n z (inr m)) ∙ ap (λ (c : ℕ). At x (end_of y xs) c) (omega arith))

pub search_in_absent : (key : ℕ → ℕ) (k : ℕ) (xs : List ℕ) (seen prev : ℕ) → ((y : ℕ) → In y xs → key y ≡ k → ⊥)
    → search_in key k seen prev xs ≡ Missing (end_of prev xs) (seen + length xs)
unfolding search_in
search_in_absent key k [] seen prev n = ap (λ (c : ℕ). Missing prev c) (omega arith)
search_in_absent key k (y ∷ xs) seen prev n =
    rw (ne_eqb (key y) k (n y (inl refl)))
    (search_in_absent key k xs (seen + 1) y (λ z m. n z (inr m)) ∙ ap (λ (c : ℕ). Missing (end_of y xs) c) (omega arith))

-- a list has the key at a first position, or nowhere
pub data Seen (key : ℕ → ℕ) (k : ℕ) (l : List ℕ) : Type 0 where
  hit : (xs : List ℕ) (x : ℕ) (ys : List ℕ) → l ≡ xs ++ x ∷ ys → key x ≡ k → ((y : ℕ) → In y xs → key y ≡ k → ⊥) → Seen key k l
  miss : ((y : ℕ) → In y l → key y ≡ k → ⊥) → Seen key k l

pub seen : (key : ℕ → ℕ) (k : ℕ) (l : List ℕ) → Seen key k l
seen key k [] = miss (λ y m e. m)
seen key k (z ∷ l) = go (told (key z) k) (seen key k l)
  where
    more : (xs : List ℕ) → (key z ≡ k → ⊥) → ((y : ℕ) → In y xs → key y ≡ k → ⊥) → (y : ℕ) → In y (z ∷ xs) → key y ≡ k → ⊥
    more xs n h y (inl d) e = n (ap key (sym d) ∙ e)
    more xs n h y (inr m) e = h y m e

    go : Told (key z) k → Seen key k l → Seen key k (z ∷ l)
    go (is t e) s = hit [] z l refl e (λ y m e. m)
    go (isnt t n) (hit xs x ys d e h) = hit (z ∷ xs) x ys (ap (λ (t : List ℕ). z ∷ t) d) e (more xs n h)
    go (isnt t n) (miss h) = miss (more l n h)

-- what a search that answered says of the list
pub record Hit (key : ℕ → ℕ) (k : ℕ) (l : List ℕ) (s prev count : ℕ) : Type 0 where
  pub before : List ℕ
  pub behind : List ℕ
  pub parts : l ≡ before ++ s ∷ behind
  pub prev_is : prev ≡ end_of 0 before
  pub count_is : count ≡ length before + 1
  pub key_is : key s ≡ k
  pub first : (y : ℕ) → In y before → key y ≡ k → ⊥

pub search_in_hit : (key : ℕ → ℕ) (k : ℕ) (l : List ℕ) (s prev count : ℕ) → search_in key k 0 0 l ≡ At s prev count → Hit key k l s prev count
search_in_hit key k l s prev count q = go (seen key k l)
  where
    go : Seen key k l → Hit key k l s prev count
    go (hit xs x ys d e n) =
        let a : search_in key k 0 0 l ≡ At x (end_of 0 xs) (0 + length xs + 1) = rw d (search_in_at key k xs x ys 0 0 e n) in
        let es : s ≡ x = cc in
        let ep : prev ≡ end_of 0 xs = cc in
        let ec : count ≡ 0 + length xs + 1 = cc in
        record { before = xs; behind = ys; parts = rw es d; prev_is = ep; count_is = omega arith; key_is = rw es e; first = n }
    go (miss n) =
        let a : search_in key k 0 0 l ≡ Missing (end_of 0 l) (0 + length l) = search_in_absent key k l 0 0 n in
        let z : ◌≡◌ {A = ℕ} 0 1 = cc in
        absurd (omega arith)

pub record Missed (key : ℕ → ℕ) (k : ℕ) (l : List ℕ) (prev count : ℕ) : Type 0 where
  pub prev_is : prev ≡ end_of 0 l
  pub count_is : count ≡ length l
  pub none : (y : ℕ) → In y l → key y ≡ k → ⊥

pub search_in_missed : (key : ℕ → ℕ) (k : ℕ) (l : List ℕ) (prev count : ℕ) → search_in key k 0 0 l ≡ Missing prev count → Missed key k l prev count
search_in_missed key k l prev count q = go (seen key k l)
  where
    go : Seen key k l → Missed key k l prev count
    go (hit xs x ys d e n) =
        let a : search_in key k 0 0 l ≡ At x (end_of 0 xs) (0 + length xs + 1) = rw d (search_in_at key k xs x ys 0 0 e n) in
        let z : ◌≡◌ {A = ℕ} 0 1 = cc in
        absurd (omega arith)
    go (miss n) =
        let a : search_in key k 0 0 l ≡ Missing (end_of 0 l) (0 + length l) = search_in_absent key k l 0 0 n in
        let ep : prev ≡ end_of 0 l = cc in
        let ec : count ≡ 0 + length l = cc in
        record { prev_is = ep; count_is = omega arith; none = n }

-- a search of a list never breaks off
pub never_bad : (key : ℕ → ℕ) (k : ℕ) (l : List ℕ) → search_in key k 0 0 l ≡ BadChain → ⊥
never_bad key k l q = go (seen key k l)
  where
    go : Seen key k l → ⊥
    go (hit xs x ys d e n) =
        let a : search_in key k 0 0 l ≡ At x (end_of 0 xs) (0 + length xs + 1) = rw d (search_in_at key k xs x ys 0 0 e n) in
        let z : ◌≡◌ {A = ℕ} 0 1 = cc in
        omega arith
    go (miss n) =
        let a : search_in key k 0 0 l ≡ Missing (end_of 0 l) (0 + length l) = search_in_absent key k l 0 0 n in
        let z : ◌≡◌ {A = ℕ} 0 1 = cc in
        omega arith

-- THE COUNT of a search
pub search_in_counted : (key : ℕ → ℕ) (k : ℕ) (l : List ℕ) (found : Found) → search_in key k 0 0 l ≡ found → Counted key k l found
search_in_counted key k l (At s prev count) e =
    let h = search_in_hit key k l s prev count e in at_place h.before h.behind h.parts h.key_is h.first h.count_is
search_in_counted key k l (Missing prev count) e = let h = search_in_missed key k l prev count e in at-end h.none h.count_is
search_in_counted key k l BadChain e = absurd (never_bad key k l e)

-- it is at most the length of the list
pub counted_few : (key : ℕ → ℕ) (k : ℕ) (l : List ℕ) (found : Found) → Counted key k l found → compared_in found ≤ length l
unfolding compared_in
counted_few key k l BadChain x' = elim x' [ ]
counted_few key k l (At s prev count) (at_place before behind e h n c) =
    omega (arith, ap (λ (xs : List ℕ). length xs) e, length-append before (s ∷ behind))
counted_few key k l (Missing prev count) (at-end n c) = omega arith
