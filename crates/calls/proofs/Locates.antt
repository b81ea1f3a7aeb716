-- Locate: the slot and the version of a key. Assumes nothing.
use mathlib.Core.Path.{◌≡◌, refl, sym, ap, ◌∙◌}
use mathlib.Core.List.{List, [], ◌∷◌}
use Prim.Native.Nat.{ℕ, ◌+◌, ◌*◌, ◌/◌}
use native.Mathlib.Omega.{arith}
use lib.ListN.{length}
use Rattle.words.specs.Word.{word}
use Rattle.prelude.specs.Refusal.{unless_refused}
use Rattle.prelude.specs.Answer.{gives, absent, refused}
use Rattle.prelude.proofs.Refusals.{or_else_first, or_else_later, refused_keeps, taken_leaves}
use Rattle.layout.specs.Line.{version_of}
use Rattle.layout.specs.Header.{lent_fault}
use Rattle.index.specs.Walk.{search, chain_fault, compared_in}
use Rattle.calls.specs.Compared.{compared_after, key_compared}
use Rattle.index.specs.declared.Found.{Found}
use Rattle.index.specs.declared.Found.TheVariants.{At, Missing, BadChain}
use Rattle.calls.specs.Locate.{locate_fault, locate_done, locate_answer}

-- a bad chain is refused with 11 either way
done_unless : (image : List ℕ) (found : Found)
    → locate_done image found ≡ unless_refused (chain_fault found) (locate_done image found) (refused (chain_fault found))
unfolding locate_done chain_fault unless_refused
done_unless image (At slot prev compared) = refl
done_unless image (Missing prev compared) = refl
done_unless image BadChain = refl

-- f is the refusal before the chain is followed, found what the chain has
module _ (l : ℕ) (image heads next : List ℕ) (key f : ℕ) (e : f ≡ lent_fault l image (length heads) (length next)) where
  pub refused_compares : (f ≡ 0 → ⊥) → 0 ≡ key_compared l image heads next key
  unfolding key_compared compared_after
  refused_compares ne = sym (refused_keeps _ _ _ (λ z. ne (e ∙ z)))

  pub locate_refused : (f ≡ 0 → ⊥) → refused f ≡ locate_answer l image heads next key
  unfolding locate_answer locate_fault
  locate_refused ne =
      let q = or_else_first _ (chain_fault (search l image heads next key)) (λ z. ne (e ∙ z)) in
      ap refused (e ∙ sym q) ∙ sym (refused_keeps _ _ _ (λ z. ne (e ∙ sym q ∙ z)))

  module _ (z : f ≡ 0) (found : Found) (d : found ≡ search l image heads next key) where
    located : (known : Found) → found ≡ known → locate_done image known ≡ locate_answer l image heads next key
    unfolding locate_answer locate_fault
    located known q =
        ap (locate_done image) (sym q ∙ d) ∙ done_unless image (search l image heads next key)
        ∙ ap (λ (k : ℕ). unless_refused k (locate_done image (search l image heads next key)) (refused k)) (sym (or_else_later _ _ (sym e ∙ z)))

    pub locate_compares : (known : Found) → found ≡ known → compared_in known ≡ key_compared l image heads next key
    unfolding key_compared compared_after
    locate_compares known q = ap compared_in (sym q ∙ d) ∙ sym (taken_leaves _ _ _ (sym e ∙ z))

    pub locate_held : (slot prev compared stamp : ℕ) → found ≡ At slot prev compared → stamp ≡ word image (16 * slot + 7)
        → gives (slot ∷ stamp / 2 ∷ []) ≡ locate_answer l image heads next key
    unfolding locate_done
    locate_held slot prev compared stamp q h =
        ap (λ (k : ℕ). gives (slot ∷ version_of k ∷ [])) (h ∙ ap (word image) (omega arith)) ∙ located (At slot prev compared) q

    pub locate_not_held : (prev compared : ℕ) → found ≡ Missing prev compared → absent ≡ locate_answer l image heads next key
    unfolding locate_done
    locate_not_held prev compared q = located (Missing prev compared) q

    pub locate_bad : found ≡ BadChain → refused 11 ≡ locate_answer l image heads next key
    unfolding locate_done
    locate_bad q = located BadChain q
