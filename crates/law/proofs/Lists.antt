-- Lists: a property of all elements, the element at a place, a list that another starts with.
use Rattle.std.proofs.Common.{◌≡◌, ℕ, suc, ◌≤◌, Some, List, [], ◌∷◌, ◌++◌, length, drop, slice_get, sym, refl, ap, ◌∙◌, append_assoc, append-nil, arith}
use Rattle.std.specs.List.{All}
use Rattle.std.proofs.lemmas.Grind.{common_steps}
use Rattle.std.proofs.lemmas.Option.{gets, get_or_from_slice_get, slice_get_within}
use Rattle.std.proofs.lemmas.List.{drop_more, nil_from_length}
use Rattle.std.proofs.lemmas.List.Elements.{All-head, All-tail, All-cons}
use Rattle.std.proofs.lemmas.List.Prefix.{front_rest}
use Rattle.law.specs.Link.{Takes, here, there}
use Rattle.law.specs.Laws.{Prefix}

pub all_takes : {A : Type 0} (P : A → Type 0) {x : A} {xs ys : List A} → Takes x xs ys → All P xs → P x × All P ys
all_takes P {x} {ys = ys} here h = (All-head P x ys h, All-tail P x ys h)
all_takes P (there {y = y} {xs = xs} {ys = ys} t) h = let r = all_takes P t (All-tail P y xs h) in (r.0, All-cons P y ys (All-head P y xs h) r.1)

pub all_gives : {A : Type 0} (P : A → Type 0) {x : A} {xs ys : List A} → Takes x xs ys → P x → All P ys → All P xs
all_gives P {x} {ys = ys} here p h = All-cons P x ys p h
all_gives P (there {y = y} {xs = xs} {ys = ys} t) p h = All-cons P y xs (All-head P y ys h) (all_gives P t p (All-tail P y ys h))

pub length_takes : {A : Type 0} {x : A} {xs ys : List A} → Takes x xs ys → length xs ≡ suc (length ys)
length_takes here = refl
length_takes (there t) = ap suc (length_takes t)

pub at_more : {A : Type 0} (xs ys : List A) (i : ℕ) (m : A) → slice_get xs i ≡ Some m → slice_get (xs ++ ys) i ≡ Some m
at_more xs ys i m a = grind (arith, common_steps, gets, slice_get_within xs i m)

pub at_drop : {A : Type 0} (k : ℕ) (xs : List A) (m : A) → slice_get (drop k xs) 0 ≡ Some m → slice_get xs k ≡ Some m
at_drop k xs m a = grind (arith, common_steps, gets, slice_get_within (drop k xs) 0 m)

pub at_cons : {A : Type 0} (xs : List A) (k : ℕ) (m : A) → slice_get xs k ≡ Some m → drop k xs ≡ m ∷ drop (suc k) xs
at_cons xs k m a = grind (arith, drop_more xs k m, get_or_from_slice_get xs k m m, slice_get_within xs k m)

pub prefix_next : {A : Type 0} (xs ys : List A) (m : A) → Prefix xs ys → slice_get ys (length xs) ≡ Some m → Prefix (xs ++ (m ∷ [])) ys
prefix_next xs ys m p a =
    let d = drop (suc (length xs)) ys in
    (d, append_assoc xs (m ∷ []) d ∙ ap (λ l. xs ++ l) (sym (at_cons ys (length xs) m a) ∙ front_rest ys xs p.0 (sym p.1)) ∙ p.1)

pub prefix_more : {A : Type 0} (xs ys zs : List A) → Prefix xs ys → Prefix xs (ys ++ zs)
prefix_more xs ys zs p = (p.0 ++ zs, sym (append_assoc xs p.0 zs) ∙ ap (λ l. l ++ zs) p.1)

pub prefix_all : {A : Type 0} (xs ys : List A) → Prefix xs ys → length ys ≤ length xs → xs ≡ ys
prefix_all xs ys p h = grind (arith, common_steps, p.1, nil_from_length p.0, append-nil xs)
