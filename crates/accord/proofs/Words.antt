-- Queues seen from one lot, and tables of which one entry is set.
use Rattle.std.proofs.Common.{◌≡◌, ℕ, ◌<◌, Bool, true, false, eqb, List, [], ◌∷◌, ◌++◌, length, get_or, set, sym, refl, ap, ◌∙◌, subst, append_assoc, append-nil, get_or-set_other, get_or-set_same}
use Rattle.std.proofs.lemmas.Bool.{eqb-true, eqb-false}
use Rattle.message.specs.declared.Message.{Message}
use Rattle.accord.specs.Standing.{Word, only, about, words}

-- a message that joins the queue's end
pub words_join : (k : ℕ) (ms : List Message) (m : Message) → words k (ms ++ (m ∷ [])) ≡ words k ms ++ about k m
words_join k [] m = append-nil (about k m)
words_join k (x ∷ ms) m = ap (λ (z : List Word). about k x ++ z) (words_join k ms m) ∙ sym (append_assoc (about k x) (words k ms) (about k m))

-- what holds of each entry when one is set
pub set_each : {A : Type 0} (P : ℕ → A → List Word → Type 0) (ls : List A) (d : A) (l : ℕ) (x : A) (w : Word) → l < length ls →
    P l x (w ∷ []) → ((k : ℕ) → P k (get_or ls k d) []) → (k : ℕ) → P k (get_or (set ls l x) k d) (only (eqb l k) w)
set_each P ls d l x w h p q k = go (eqb l k) refl where
  go : (b : Bool) → eqb l k ≡ b → P k (get_or (set ls l x) k d) (only b w)
  go true e = subst (λ j. P j (get_or (set ls l x) j d) (w ∷ [])) (eqb-true l k e) (subst (λ z. P l z (w ∷ [])) (sym (get_or-set_same ls l x d h)) p)
  go false e = subst (λ z. P k z []) (sym (get_or-set_other ls l k x d (λ z. eqb-false l k e (sym z)))) (q k)
