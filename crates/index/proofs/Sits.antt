-- The laws as the set uses them: `place` says where each slot stands, and a call moves the slots that it names. Assumes nothing.
use mathlib.Core.Path.{◌≡◌, refl, sym, ap, ◌∙◌, fun_ext, subst}
use mathlib.Core.Logic.{inl, by_cases}
use mathlib.Core.Bool.{cond}
use mathlib.Core.List.{List, [], ◌∷◌, ◌++◌}
use Prim.Native.Nat.{ℕ, zero, suc, ◌+◌, ◌<◌, ◌≤◌}
use native.Mathlib.Decide.{dec_lt}
use native.Mathlib.Omega.{arith}
use lib.Dec.{eqb}
use lib.ListN.{length}
use borrow.Author.Tests.{eq-eqb, ne_eqb, lt-ltb, le-ltb}
use Rattle.index.specs.Index.{Chain, reuse, head, Index, with_counts, start, ahead}
use Rattle.index.specs.inner.Build.{build}
use Rattle.index.specs.inner.Parts.{insert_new, replace_held, remove_held}
use Rattle.prelude.specs.Members.{In, Once}
use Rattle.index.specs.Linked.{Run, end_of, Owner, free, of, WellFormed, placed, ChainsPartition}
use Rattle.index.proofs.defs.Linked.{give, with_chain, Room, owner_of, chains_by}
use Rattle.prelude.proofs.Paths.{end_in}
use Rattle.index.proofs.Owners.{Told, is, isnt, told, free_of, of-of, give_same, give_other}
use Rattle.index.proofs.CallWrites.{first_is, owner-of, formed_alike, formed_new, formed_held, formed_remove}
use Rattle.index.proofs.CallWrites.{new_next, new_heads, held_next, held_heads, remove_next, remove_heads}
use Rattle.index.proofs.ChainLengths.{run_once}
use Rattle.index.proofs.Builds.{formed_build, build-next, build-heads, owner-in, owner_out}

pub placed_in : (n : ℕ) (place : ℕ → Chain) (x : ℕ) → 0 < x → x ≤ n → placed n place x ≡ of (place x)
unfolding placed
placed_in n place x h k = rw (ne_eqb x 0 (λ e. omega arith), le-ltb n x k)

pub placed_zero : (n : ℕ) (place : ℕ → Chain) (x : ℕ) → x ≡ 0 → placed n place x ≡ free
unfolding placed
placed_zero n place x e = rw (eq-eqb x 0 e)

pub placed_past : (n : ℕ) (place : ℕ → Chain) (x : ℕ) → n < x → placed n place x ≡ free
unfolding placed
placed_past n place x h = rw (ne_eqb x 0 (λ e. omega arith), lt-ltb n x h)

-- the ways a number can stand to the slots
data Ranged (n x : ℕ) : Type 0 where
  nought : x ≡ 0 → Ranged n x
  past : n < x → Ranged n x
  within : 0 < x → x ≤ n → Ranged n x

ranged : (n x : ℕ) → Ranged n x
ranged n zero = nought refl
ranged n (suc x) = by_cases (dec_lt n (suc x)) (λ h. past h) (λ h. within (omega arith) (omega arith))

pub placed_of : (n : ℕ) (place : ℕ → Chain) (x : ℕ) (c : Chain) → placed n place x ≡ of c → (0 < x) × (x ≤ n) × (place x ≡ c)
placed_of n place x c e = go (ranged n x)
  where
    go : Ranged n x → (0 < x) × (x ≤ n) × (place x ≡ c)
    go (nought z) = absurd (free_of c (sym (placed_zero n place x z) ∙ e))
    go (past h) = absurd (free_of c (sym (placed_past n place x h) ∙ e))
    go (within h k) = (h, k, of-of (place x) c (sym (placed_in n place x h k) ∙ e))

-- two places that agree on the slots
pub placed_alike : (n : ℕ) (o : ℕ → Owner) (place : ℕ → Chain) → ((x : ℕ) → 0 < x → x ≤ n → o x ≡ of (place x))
    → ((x : ℕ) → placed n place x ≡ free → o x ≡ free) → o ≡ placed n place
placed_alike n o place h k = fun_ext (λ x. go x (ranged n x))
  where
    go : (x : ℕ) → Ranged n x → o x ≡ placed n place x
    go x (nought z) = k x (placed_zero n place x z) ∙ sym (placed_zero n place x z)
    go x (past l) = k x (placed_past n place x l) ∙ sym (placed_past n place x l)
    go x (within l m) = h x l m ∙ sym (placed_in n place x l m)

-- a slot moves
pub placed_move : (n : ℕ) (place place' : ℕ → Chain) (s : ℕ) → 0 < s → s ≤ n → ((x : ℕ) → 0 < x → x ≤ n → (x ≡ s → ⊥) → place' x ≡ place x)
    → give (placed n place) s (of (place' s)) ≡ placed n place'
placed_move n place place' s l m h = fun_ext (λ x. go x (told x s) (ranged n x))
  where
    at_s : (x : ℕ) → x ≡ s → placed n place' x ≡ of (place' s)
    at_s x e = ap (placed n place') e ∙ placed_in n place' s l m

    go : (x : ℕ) → Told x s → Ranged n x → give (placed n place) s (of (place' s)) x ≡ placed n place' x
    go x (is t e) r = give_same (placed n place) s (of (place' s)) x e ∙ sym (at_s x e)
    go x (isnt t u) (nought z) =
        give_other (placed n place) s (of (place' s)) x u ∙ placed_zero n place x z ∙ sym (placed_zero n place' x z)
    go x (isnt t u) (past k) = give_other (placed n place) s (of (place' s)) x u ∙ placed_past n place x k ∙ sym (placed_past n place' x k)
    go x (isnt t u) (within k j) =
        give_other (placed n place) s (of (place' s)) x u ∙ placed_in n place x k j ∙ ap of (sym (h x k j u)) ∙ sym
        (placed_in n place' x k j)

-- two slots move, the first to a head's chain and the second to reuse
pub placed_two : (n : ℕ) (place place' : ℕ → Chain) (s t h : ℕ) → 0 < s → s ≤ n → 0 < t → t ≤ n → place' s ≡ head h → place' t ≡ reuse
    → ((x : ℕ) → 0 < x → x ≤ n → (x ≡ s → ⊥) → (x ≡ t → ⊥) → place' x ≡ place x)
    → give (give (placed n place) s (of (head h))) t (of reuse) ≡ placed n place'
placed_two n place place' s t h ls ms lt mt q r o =
    ap (λ (z : ℕ → Owner). give z t (of reuse))
    (ap (λ (c : Chain). give (placed n place) s (of c)) (sym mid-s) ∙ placed_move n place mid s ls ms (λ x l m u. rw (ne_eqb x s u)))
    ∙ ap (λ (c : Chain). give (placed n mid) t (of c)) (sym r) ∙ placed_move n mid place' t lt mt (λ x l m u. then x l m u (told x s))
  where
    mid : ℕ → Chain
    mid x = cond (eqb x s) (head h) (place x)

    mid-s : mid s ≡ head h
    mid-s = rw (eq-eqb s s refl)

    then : (x : ℕ) → 0 < x → x ≤ n → (x ≡ t → ⊥) → Told x s → place' x ≡ mid x
    then x l m u (is a e) = rw a (ap place' e ∙ q)
    then x l m u (isnt a v) = rw a (o x l m v u)

module _ (n b : ℕ) (place : ℕ → Chain) (i : Index) (chains : Chain → List ℕ) (g : ChainsPartition n b place i chains) where
  -- a slot stands in just the chain that is its place, and once
  pub sits_in : (c : Chain) (x : ℕ) → In x (chains c) → (0 < x) × (x ≤ n) × (place x ≡ c)
  sits_in c x m = placed_of n place x c (g.formed.disjoint.owned.mine c x m)

  pub sits_has : (x : ℕ) → 0 < x → x ≤ n → In x (chains (place x))
  sits_has x l m = g.formed.disjoint.owned.has (place x) x (placed_in n place x l m)

  pub sits_once : (c : Chain) → Once (chains c)
  sits_once c = run_once (ahead i c) (ahead i c 0) (chains c) (λ y m. (sits_in c y m).0) (g.formed.disjoint.runs c)

  -- the tests of the reuse chain pass
  pub sits_first : (f : ℕ) (rest : List ℕ) → chains reuse ≡ f ∷ rest → (i.state.first ≡ f) × (0 < i.state.first) × (i.state.first ≤ n)
  sits_first f rest e =
      let d : i.state.first ≡ f = first_is _ _ _ f rest g.formed.disjoint e in
      let q = sits_in reuse f (rw e (inl refl)) in
      (d, omega (arith, q.0), omega (arith, q.1))

  pub sits_last : (f : ℕ) (rest : List ℕ) → chains reuse ≡ f ∷ rest → (0 < i.state.last) × (i.state.last ≤ n)
  sits_last f rest e =
      let d : i.state.last ≡ end_of f rest = g.formed.ends ∙ ap (end_of 0) e in
      let q = sits_in reuse (end_of f rest) (rw e (end_in f rest)) in
      (omega (arith, q.0), omega (arith, q.1))

  module _ (place' : ℕ → Chain) (h prev f : ℕ) (rest : List ℕ) (e : chains reuse ≡ f ∷ rest) where
    first_in : (0 < f) × (f ≤ n) × (place f ≡ reuse)
    first_in = placed_of n place f reuse (owner-of _ _ _ reuse [] f rest g.formed.disjoint e)

    pub sits_new : h < b → prev ≡ end_of 0 (chains (head h)) → place' f ≡ head h
        → ((x : ℕ) → 0 < x → x ≤ n → (x ≡ f → ⊥) → place' x ≡ place x)
        → ChainsPartition n b place' (insert_new i h prev) (with_chain (with_chain chains reuse rest) (head h) (chains (head h) ++ f ∷ []))
    sits_new l p q o = record {
      formed =
          formed_alike (insert_new i h prev) _ _ _ _ (ap (λ (c : Chain). give (placed n place) f (of c)) (sym q)
          ∙ placed_move n place place' f first_in.0 first_in.1 o) refl
          (formed_new _ _ _ h prev f rest g.formed e (rw g.heads_size l) p);
      next_size = new_next _ _ _ ∙ g.next_size;
      heads_size = new_heads _ _ _ ∙ g.heads_size;
    }

    module _ (xs : List ℕ) (old : ℕ) (ys : List ℕ) (d : chains (head h) ≡ xs ++ old ∷ ys) (p : prev ≡ end_of 0 xs) where
      old-in : (0 < old) × (old ≤ n) × (place old ≡ head h)
      old-in = placed_of n place old (head h) (owner-of _ _ _ (head h) xs old ys g.formed.disjoint d)

      pub sits_held : place' f ≡ head h → place' old ≡ reuse → ((x : ℕ) → 0 < x → x ≤ n → (x ≡ f → ⊥) → (x ≡ old → ⊥) → place' x ≡ place x)
          → ChainsPartition n b place' (replace_held i h prev old) (with_chain (with_chain chains reuse (rest ++ old ∷ [])) (head h) (xs ++ f ∷ ys))
      sits_held q r o = record {
        formed =
            formed_alike (replace_held i h prev old) _ _ _ _
            (placed_two n place place' f old h first_in.0 first_in.1 old-in.0 old-in.1 q r o) refl
            (formed_held _ _ _ h prev f rest g.formed e xs old ys d p);
        next_size = held_next _ _ _ _ ∙ g.next_size;
        heads_size = held_heads _ _ _ _ ∙ g.heads_size;
      }

      pub sits_remove : place' old ≡ reuse → ((x : ℕ) → 0 < x → x ≤ n → (x ≡ old → ⊥) → place' x ≡ place x)
          → ChainsPartition n b place' (remove_held i h prev old) (with_chain (with_chain chains reuse (rest ++ old ∷ f ∷ [])) (head h) (xs ++ ys))
      sits_remove q o = record {
        formed =
            formed_alike (remove_held i h prev old) _ _ _ _
            (ap (λ (c : Chain). give (placed n place) old (of c)) (sym q) ∙ placed_move n place place' old old-in.0
            old-in.1 o) refl
            (formed_remove _ _ _ h prev f rest g.formed e xs old ys d p);
        next_size = remove_next _ _ _ _ ∙ g.next_size;
        heads_size = remove_heads _ _ _ _ ∙ g.heads_size;
      }

-- recovery's last step, from a list of all slots
pub sits_build : (n b : ℕ) (place : ℕ → Chain) (i : Index) (l : List ℕ) → WellFormed i (λ _. free) (λ _. []) → length i.next ≡ n + 1
    → length i.heads ≡ b → Once l
    → ((x : ℕ) → In x l → (0 < x) × (x ≤ n)) → ((x : ℕ) → 0 < x → x ≤ n → In x l) → ((x : ℕ) → In x l → Room i (place x))
    → ChainsPartition n b place (build place i l) (chains_by place l)
sits_build n b place i l g en eb a h k m = record {
  formed =
      formed_alike (build place i l) _ _ _ _ (placed_alike n (owner_of place l) place (λ x u v. owner-in place l x (k x u v))
      (λ x p. owner_out place l x (λ z. free_of (place x) (sym p ∙ placed_in n place x (h x z).0 (h x z).1)))) refl
      (formed_build place i l g a (λ x z. record { low = (h x z).0; high = omega (arith, (h x z).1) }) m);
  next_size = build-next _ _ _ ∙ en;
  heads_size = build-heads _ _ _ ∙ eb;
}

-- another place that agrees on the slots serves as well
pub sits_places : (n b : ℕ) (place place' : ℕ → Chain) (i : Index) (chains : Chain → List ℕ) → ChainsPartition n b place i chains
    → ((x : ℕ) → 0 < x → x ≤ n → place' x ≡ place x) → ChainsPartition n b place' i chains
sits_places n b place place' i chains g h =
    record {
      formed =
          subst (λ (o : ℕ → Owner). WellFormed i o chains)
          (placed_alike n (placed n place) place' (λ x l m. placed_in n place x l m ∙ ap of (sym (h x l m))) free_too) g.formed;
      next_size = g.next_size;
      heads_size = g.heads_size;
    }
  where
    free_too : (x : ℕ) → placed n place' x ≡ free → placed n place x ≡ free
    free_too x e = go (ranged n x)
      where
        go : Ranged n x → placed n place x ≡ free
        go (nought z) = placed_zero n place x z
        go (past l) = placed_past n place x l
        go (within l m) = absurd (free_of (place' x) (sym e ∙ placed_in n place' x l m))

-- ---- the counts beside the chains do not matter

ahead_counts : (i : Index) (live version newest : ℕ) (c : Chain) (x : ℕ) → ahead i c x ≡ ahead (with_counts i live version newest) c x
unfolding ahead start
ahead_counts i live version newest reuse zero = refl
ahead_counts i live version newest (head h) zero = refl
ahead_counts i live version newest c (suc x) = refl

pub sits_counts : (n b : ℕ) (place : ℕ → Chain) (i : Index) (chains : Chain → List ℕ) → ChainsPartition n b place i chains
    → (live version newest : ℕ) → ChainsPartition n b place (with_counts i live version newest) chains
sits_counts n b place i chains g live version newest =
    record {
      formed =
          record {
            disjoint =
                record {
                  runs =
                      λ c.
                      subst (λ (f : ℕ → ℕ). Run f (f 0) (chains c) 0) (fun_ext (ahead_counts i live version newest c))
                      (g.formed.disjoint.runs c);
                  owned = g.formed.disjoint.owned;
                  slot =
                      λ c x e. let s = g.formed.disjoint.slot c x e in record { low = s.low; high = s.high };
                };
            ends = g.formed.ends;
          };
      next_size = g.next_size;
      heads_size = g.heads_size;
    }
