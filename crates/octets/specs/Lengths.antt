-- How many bytes are taken.
use Rattle.std.specs.Prelude.{◌≡◌, ℕ, zero, suc, ◌+◌, List, ◌++◌, length, refl}
use Rattle.std.proofs.Common.{ap, length-append, ◌∙◌}
use Rattle.octets.specs.Numbers.{bytes_of}

pub length_bytes_of : (w n : ℕ) → length (bytes_of w n) ≡ w
unfolding bytes_of
length_bytes_of zero n = refl
length_bytes_of (suc w) n = ap suc (length_bytes_of w n)

pub length_both : {v w : ℕ} (xs ys : List ℕ) → length xs ≡ v → length ys ≡ w → length (xs ++ ys) ≡ v + w
length_both xs ys p q = length-append xs ys ∙ rw (p, q) refl
