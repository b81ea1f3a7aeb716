-- Pushing the slots of a list from its end makes a well-formed index whose chains are filters of the list. Assumes nothing.
use mathlib.Core.Path.{◌≡◌, refl, sym, ap, ◌∙◌, fun_ext}
use mathlib.Core.Bool.{true, false, cond}
use mathlib.Core.Logic.{inl, inr}
use mathlib.Core.List.{List, [], ◌∷◌}
use Prim.Native.Nat.{ℕ, ◌<◌}
use native.Mathlib.Omega.{arith}
use lib.Dec.{eqb}
use lib.ListN.{length, get_or}
use borrow.Author.Tests.{eq-eqb, ne_eqb}
use Rattle.prelude.specs.Filter.{filter}
use Rattle.index.specs.Index.{Chain, reuse, head, Index, start, ahead, set_next, set_last}
use Rattle.index.specs.Change.{link_new}
use Rattle.index.specs.inner.Build.{push, build}
use Rattle.prelude.specs.Members.{In, Once}
use Rattle.index.specs.Linked.{end_of, Owner, free, of, Entry, Disjoint, WellFormed}
use Rattle.index.proofs.defs.Linked.{same_chain, give, with_chain, Room, owner_of, chains_by}
use Rattle.prelude.proofs.Paths.{end_in}
use Rattle.index.proofs.Owners.{Told, is, isnt, told, Which, that, other, which, free_of, reuse_apart, give_same, give_other, with_same, with_other}
use Rattle.index.proofs.Links.{set_here, set_else, set_heads, set-last, set_size, link-last, slot_size, room_size}
use Rattle.index.proofs.CallWrites.{link_new-next, link_new-heads}
use Rattle.index.proofs.Relinks.{disjoint_set, disjoint_last, disjoint_insert}

starts : (i : Index) → ((h : ℕ) → get_or i.heads h 0 ≡ 0) → i.state.first ≡ 0 → (c : Chain) → ahead i c 0 ≡ 0
unfolding ahead start
starts i h f reuse = f
starts i h f (head k) = h k

-- an index of empty chains
pub formed_empty : (i : Index) → ((h : ℕ) → get_or i.heads h 0 ≡ 0) → i.state.first ≡ 0 → i.state.last ≡ 0 → WellFormed i (λ _. free) (λ _. [])
formed_empty i h f l = record {
  disjoint =
      record {
        runs = starts i h f;
        owned = record { mine = λ c x m. absurd m; has = λ c x e. absurd (free_of c e) };
        slot = λ c x e. absurd (free_of c e);
      };
  ends = l;
}

-- a slot that nobody has, at the front of a chain
disjoint_front : (i : Index) (owner : ℕ → Owner) (chains : Chain → List ℕ) (c : Chain) (s n : ℕ) → Disjoint i owner chains → Room i c
    → Entry i s → owner s ≡ free → n ≡ ahead i c 0
    → Disjoint (link_new i c 0 s n) (give owner s (of c)) (with_chain chains c (s ∷ chains c))
unfolding link_new
disjoint_front i owner chains c s n w a t f e =
    let v : Disjoint (set_next i s n) owner chains = disjoint_set _ _ _ s n w t.low f in
    disjoint_insert _ _ _ c [] s (chains c) v refl (room_size i (set_next i s n) c (set_heads i s n) a)
    (slot_size i (set_next i s n) s (set_size i s n) t) f
    (set_here i s n c t ∙ e ∙ sym (set_else i s n c 0 (λ d. omega (arith, t.low))))

front_ends : (l s : ℕ) (xs : List ℕ) → ((x : ℕ) → In x xs → 0 < x) → l ≡ end_of 0 xs → cond (eqb l 0) s l ≡ end_of s xs
front_ends l s [] p e = rw (eq-eqb l 0 e)
front_ends l s (y ∷ ys) p e = rw (ne_eqb l 0 (λ z. omega (arith, p (end_of y ys) (end_in y ys)))) e

pub formed_push : (i : Index) (owner : ℕ → Owner) (chains : Chain → List ℕ) (c : Chain) (s : ℕ) → WellFormed i owner chains → Room i c
    → Entry i s → owner s ≡ free
    → WellFormed (push i c s) (give owner s (of c)) (with_chain chains c (s ∷ chains c))
unfolding push set_last ahead start
formed_push i owner chains reuse s g a t f = record {
  disjoint = disjoint_last _ _ _ _ (disjoint_front _ _ _ reuse s i.state.first g.disjoint a t f refl);
  ends =
      rw with_same (front_ends i.state.last s (chains reuse) (λ x m. (g.disjoint.slot reuse x (g.disjoint.owned.mine reuse x m)).low)
      g.ends);
}
formed_push i owner chains (head h) s g a t f = record {
  disjoint = disjoint_front _ _ _ (head h) s (get_or i.heads h 0) g.disjoint a t f refl;
  ends =
      unfold link_new in link-last _ _ _ _ ∙ set-last _ _ _ ∙ g.ends ∙ ap (end_of 0)
      (sym (with_other chains (head h) _ reuse (reuse_apart h)));
}

-- ---- whose each slot is

pub owner-in : (place : ℕ → Chain) (l : List ℕ) (x : ℕ) → In x l → owner_of place l x ≡ of (place x)
unfolding owner_of
owner-in place [] x x3 = elim x3 [ ]
owner-in place (s ∷ l) x (inl d) = give_same (owner_of place l) s (of (place s)) x d ∙ ap (λ (y : ℕ). of (place y)) (sym d)
owner-in place (s ∷ l) x (inr m) = go (told x s) (owner-in place l x m)
  where
    go : Told x s → owner_of place l x ≡ of (place x) → give (owner_of place l) s (of (place s)) x ≡ of (place x)
    go (is t d) h = give_same (owner_of place l) s (of (place s)) x d ∙ ap (λ (y : ℕ). of (place y)) (sym d)
    go (isnt t n) h = give_other (owner_of place l) s (of (place s)) x n ∙ h

pub owner_out : (place : ℕ → Chain) (l : List ℕ) (x : ℕ) → (In x l → ⊥) → owner_of place l x ≡ free
unfolding owner_of
owner_out place [] x n = refl
owner_out place (s ∷ l) x n = give_other (owner_of place l) s (of (place s)) x (λ d. n (inl d)) ∙ owner_out place l x (λ m. n (inr m))

chains_that : (place : ℕ → Chain) (s : ℕ) (l : List ℕ) (c : Chain) → same_chain c (place s) ≡ true
    → chains_by place (s ∷ l) c ≡ s ∷ chains_by place l c
unfolding chains_by filter
chains_that place s l c t = rw t

chains_other : (place : ℕ → Chain) (s : ℕ) (l : List ℕ) (c : Chain) → same_chain c (place s) ≡ false
    → chains_by place (s ∷ l) c ≡ chains_by place l c
unfolding chains_by filter
chains_other place s l c t = rw t

formed_chains : (i : Index) (o : ℕ → Owner) (c d : Chain → List ℕ) → c ≡ d → WellFormed i o c → WellFormed i o d
formed_chains i o c d e g = rw (← e) g

-- one more slot in front of its chain
chains_more : (place : ℕ → Chain) (s : ℕ) (l : List ℕ)
    → with_chain (chains_by place l) (place s) (s ∷ chains_by place l (place s)) ≡ chains_by place (s ∷ l)
chains_more place s l = fun_ext (λ c. go c (which c (place s)))
  where
    go : (c : Chain) → Which c (place s)
        → with_chain (chains_by place l) (place s) (s ∷ chains_by place l (place s)) c ≡ chains_by place (s ∷ l) c
    go c (that t e) =
        (rw e (with_same (chains_by place l) (place s) (s ∷ chains_by place l (place s)))) ∙ sym
        (chains_that place s l c t ∙ ap (λ (k : Chain). s ∷ chains_by place l k) e)
    go c (other t n) = with_other (chains_by place l) (place s) _ c n ∙ sym (chains_other place s l c t)

-- ---- sizes

push-next : (i : Index) (c : Chain) (s : ℕ) → length (push i c s).next ≡ length i.next
unfolding push set_last
push-next i reuse s = link_new-next _ _ _ _ _
push-next i (head h) s = link_new-next _ _ _ _ _

push-heads : (i : Index) (c : Chain) (s : ℕ) → length (push i c s).heads ≡ length i.heads
unfolding push set_last
push-heads i reuse s = link_new-heads _ _ _ _ _
push-heads i (head h) s = link_new-heads _ _ _ _ _

pub build-next : (place : ℕ → Chain) (i : Index) (l : List ℕ) → length (build place i l).next ≡ length i.next
unfolding build
build-next place i [] = refl
build-next place i (s ∷ l) = push-next (build place i l) (place s) s ∙ build-next place i l

pub build-heads : (place : ℕ → Chain) (i : Index) (l : List ℕ) → length (build place i l).heads ≡ length i.heads
unfolding build
build-heads place i [] = refl
build-heads place i (s ∷ l) = push-heads (build place i l) (place s) s ∙ build-heads place i l

-- recovery's last step
pub formed_build : (place : ℕ → Chain) (i : Index) (l : List ℕ) → WellFormed i (λ _. free) (λ _. []) → Once l → ((x : ℕ) → In x l → Entry i x)
    → ((x : ℕ) → In x l → Room i (place x)) → WellFormed (build place i l) (owner_of place l) (chains_by place l)
unfolding build owner_of chains_by filter
formed_build place i [] g a h m = g
formed_build place i (s ∷ l) g a h m =
    let j = build place i l in
    formed_chains (push j (place s) s) _ _ _ (chains_more place s l)
    (formed_push _ _ _ (place s) s (formed_build place i l g a.1 (λ x k. h x (inr k)) (λ x k. m x (inr k)))
    (room_size i j (place s) (build-heads place i l) (m s (inl refl))) (slot_size i j s (build-next place i l) (h s (inl refl)))
    (owner_out place l s a.0))
