-- Lists of numbered messages: equal where their messages are, since both count from one number.
use Rattle.std.proofs.Common.{◌≡◌, ℕ, zero, suc, ◌+◌, Some, List, [], ◌∷◌, ◌++◌, length, slice_get, refl, arith}
use Rattle.std.proofs.lemmas.List.{length-map}
use Rattle.message.specs.declared.Message.{Message}
use Rattle.law.specs.Laws.{Prefix}
use Rattle.runs.specs.Turns.{Entry}
use Rattle.runs.specs.Laws.{Counted, messages}

same_entry : (x y : Entry) → x.number ≡ y.number → x.message ≡ y.message → x ≡ y
same_entry x y e f = grind arith

pub length_messages : (es : List Entry) → length (messages es) ≡ length es
length_messages es = length-map es (λ (e : Entry). e.message)

pub counted_push : (k : ℕ) (es : List Entry) (e : Entry) → Counted k es → e.number ≡ k + length es → Counted k (es ++ (e ∷ []))
counted_push k [] e c n = grind arith
counted_push k (x ∷ es) e c n = grind (arith, counted_push (suc k) es e)

pub counted_same : (k : ℕ) (xs ys : List Entry) → Counted k xs → Counted k ys → messages xs ≡ messages ys → xs ≡ ys
counted_same k [] [] c d e = refl
counted_same k [] (y ∷ ys) c d e = grind arith
counted_same k (x ∷ xs) [] c d e = grind arith
counted_same k (x ∷ xs) (y ∷ ys) c d e = grind (arith, same_entry x y, counted_same (suc k) xs ys)

pub counted_prefix : (k : ℕ) (xs ys : List Entry) → Counted k xs → Counted k ys → Prefix (messages xs) (messages ys) → Prefix xs ys
counted_prefix k [] ys c d p = (ys, refl)
counted_prefix k (x ∷ xs) [] c d p = grind arith
counted_prefix k (x ∷ xs) (y ∷ ys) c d p =
    let t : messages xs ++ p.0 ≡ messages ys = grind (arith, p.1) in
    let r = counted_prefix (suc k) xs ys c.1 d.1 (p.0, t) in
    (r.0, grind (arith, p.1, r.1, same_entry x y))

-- the entry at a place has the number of the place
pub counted_at : (k : ℕ) (es : List Entry) (i : ℕ) (m : Message) → Counted k es → slice_get (messages es) i ≡ Some m → slice_get es i ≡ Some (record { number = k + i; message = m })
counted_at k [] i m c a = grind arith
counted_at k (e ∷ es) zero m c a = grind (arith, same_entry e (record { number = k + 0; message = m }))
counted_at k (e ∷ es) (suc i) m c a = grind (arith, counted_at (suc k) es i m)
